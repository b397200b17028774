-- Passes that a removal has voided.
--   given           the pass that an answer hands out
--   latest          the pass of a contributor's last accepted admit
--   removal         the contributor whom an event has removed
--   voided          an accepted removal has voided the pass: it was that contributor's last accepted admit's
--   pass_of         the pass that a call is made with
--   is_void         a call is made with a voided pass
--   struck          a list of calls with every call made with a voided pass struck out
--   others_answers  what the other calls answer in the run of the whole list
use Rattle.std.specs.Prelude.{ℕ, Bool, false, cond, ◌&&◌, ◌||◌, List, [], ◌∷◌, Some, None, Option, ◌==◌}
use Rattle.book_rules.specs.Machine.{Pass}
use Rattle.book_rules.specs.Run.{State, Call, admit, remove, hand_in, post, add_cost, correct, freeze, reopen, take_in, bill, Answer, accepted, gave, row, froze, stayed_open, reopened, billed, refused, not_offered, step, Event, event, is_accepted}

abbrev pub given : Answer → Option Pass
given accepted = None
given (gave p) = Some p
given (row n) = None
given (froze b) = None
given (stayed_open b e) = None
given (reopened b) = None
given (billed f) = None
given (refused e) = None
given not_offered = None

abbrev pub sooner : ℕ → Option Pass → Option Pass → Option Pass
sooner c None older = older
sooner c (Some p) older = cond (c == p.contributor) (Some p) older

abbrev pub latest : ℕ → List Event → Option Pass
latest c [] = None
latest c (e ∷ past) = sooner c (given e.answer) (latest c past)

abbrev pub removes : Call → Option ℕ
removes (admit c) = None
removes (remove c) = Some c
removes (hand_in p) = None
removes (post p u) = None
removes (add_cost p r) = None
removes (correct p at q) = None
removes freeze = None
removes reopen = None
removes (take_in p) = None
removes (bill rule n p) = None

abbrev pub removal : Event → Option ℕ
removal e = cond (is_accepted e.answer) (removes e.call) None

abbrev pub same_pass : Pass → Pass → Bool
same_pass p q = p.book == q.book && (p.contributor == q.contributor && p.mark == q.mark)

abbrev pub is : Option Pass → Pass → Bool
is None p = false
is (Some q) p = same_pass q p

abbrev pub takes : Option ℕ → List Event → Pass → Bool
takes None past p = false
takes (Some c) past p = is (latest c past) p

abbrev pub voided : Pass → List Event → Bool
voided p [] = false
voided p (e ∷ past) = takes (removal e) past p || voided p past

abbrev pub pass_of : Call → Option Pass
pass_of (admit c) = None
pass_of (remove c) = None
pass_of (hand_in p) = Some p
pass_of (post p u) = Some p
pass_of (add_cost p r) = Some p
pass_of (correct p at q) = Some p
pass_of freeze = None
pass_of reopen = None
pass_of (take_in p) = Some p
pass_of (bill rule n p) = None

abbrev pub is_void : List Event → Option Pass → Bool
is_void past None = false
is_void past (Some p) = voided p past

abbrev pub struck : State → List Event → List Call → List Call
struck s past [] = []
struck s past (call ∷ calls) =
    cond (is_void past (pass_of call)) (struck (step s call).state (event s call ∷ past) calls) (call ∷ struck (step s call).state (event s call ∷ past) calls)

abbrev pub others_answers : State → List Event → List Call → List Answer
others_answers s past [] = []
others_answers s past (call ∷ calls) =
    cond (is_void past (pass_of call)) (others_answers (step s call).state (event s call ∷ past) calls) ((step s call).answer ∷ others_answers (step s call).state (event s call ∷ past) calls)
