-- A load, record by record. Assumes nothing.
use Rattle.std.proofs.Common.{◌≡◌, ℕ, zero, suc, ◌+◌, ◌<◌, ◌≤◌, Bool, true, false, cond, not, List, [], ◌∷◌, ◌++◌, length, Some, None, Ok, Err, Option, Result, sym, refl, ap, ◌∙◌, subst, append_assoc, arith}
use Rattle.std.specs.Option.{option_map}
use Rattle.std.specs.Result.{IsErrAnd, MatchResult}
use Rattle.std.proofs.lemmas.List.{append-nil}
use Rattle.tariff.specs.declared.refusal.Refusal.{Refusal}
use Rattle.tariff.specs.declared.refusal.Refusal.TheVariants.{FieldOutOfRange}
use Rattle.tariff.specs.declared.rows.Sizes.{Sizes}
use Rattle.tariff.specs.Refusals.{answer}
use Rattle.tariff.proofs.Refused.{ok_tells}
use Rattle.unit_file.specs.declared.record.Record.{Record}
use Rattle.unit_file.specs.Records.{Item, item_of}
use Rattle.unit_file.specs.Reading.{ordered_at, place_in_order, record_at, next_place, open_refusal, said}
use Rattle.unit_file.proofs.Walk.{advances, past_end, was_end}
use Rattle.book_rules.specs.Machine.{Pass}
use Rattle.book_rules.specs.Run.{State, Call, step, final}
use Rattle.book.specs.declared.load.LoadReport.{LoadReport}
use Rattle.book.specs.declared.load.RefusedLoad.{RefusedLoad}
use Rattle.book.specs.declared.load.RefusedLoad.TheVariants.{File, Book as TheBook}
use Rattle.book.proofs.Outcomes.{same_error}
use Rattle.book.specs.Load.{Loading, reported, ended, stopped, whole, call_for, refusal_in, first, load_call, load_item, load_record, load_from, rows_or, Took, Done, same_sizes, header_in, load_sizes, load_header, load_refusal, load_file, load_unless, load_of}

-- how many records are allowed for does not matter, if there are enough

call_same : (o : Option Refusal) (call : Call) (after : State) (place rows : ℕ) (go go' : State → ℕ → Loading) → ((s : State) (k : ℕ) → go s k ≡ go' s k) → load_call o call after place rows go ≡ load_call o call after place rows go'
call_same None call after place rows go go' same = ap (first call) (same after (rows + 1))
call_same (Some e) call after place rows go go' same = refl

item_same : (o : Option Call) (s : State) (place rows : ℕ) (go go' : State → ℕ → Loading) → ((s : State) (k : ℕ) → go s k ≡ go' s k) → load_item o s place rows go ≡ load_item o s place rows go'
item_same None s place rows go go' same = same s rows
item_same (Some call) s place rows go go' same = call_same (refusal_in (step s call).answer) call (step s call).state place rows go go' same

record_same : (r : Result (Option Item) Refusal) (bs : List ℕ) (p : Pass) (s : State) (place rows : ℕ) (go go' : State → ℕ → Loading) → ((item : Item) → r ≡ Ok (Some item) → (s : State) (k : ℕ) → go s k ≡ go' s k) → load_record r bs p s place rows go ≡ load_record r bs p s place rows go'
record_same (Err e) bs p s place rows go go' same = refl
record_same (Ok None) bs p s place rows go go' same = refl
record_same (Ok (Some item)) bs p s place rows go go' same = item_same (call_for p item) s place rows go go' (same item refl)

enough : (m n : ℕ) (bs : List ℕ) (p : Pass) (s : State) (place rows : ℕ) → 1 < place → length bs < place + m → length bs < place + n → load_from m bs p s place rows ≡ load_from n bs p s place rows
enough zero zero bs p s place rows some a b = refl
enough zero (suc n) bs p s place rows some a b =
    sym (ap (λ (o : Result (Option Item) Refusal). load_record o bs p s place rows (λ after more. load_from n bs p after (place_in_order bs place) more)) (past_end bs place (omega arith) some))
enough (suc m) zero bs p s place rows some a b =
    ap (λ (o : Result (Option Item) Refusal). load_record o bs p s place rows (λ after more. load_from m bs p after (place_in_order bs place) more)) (past_end bs place (omega arith) some)
enough (suc m) (suc n) bs p s place rows some a b = record_same (ordered_at bs place) bs p s place rows _ _
    (λ item h t k. let on = (advances bs place item h).1 in enough m n bs p t (place_in_order bs place) k (omega arith) (omega arith) (omega arith))

load_step : (bs : List ℕ) (p : Pass) (s : State) (place rows : ℕ) → 1 < place →
    load_from (length bs) bs p s place rows ≡ load_record (ordered_at bs place) bs p s place rows (λ after more. load_from (length bs) bs p after (place_in_order bs place) more)
load_step bs p s place rows some = enough (length bs) (suc (length bs)) bs p s place rows some (omega arith) (omega arith)

-- calls before a loading

after_calls : List Call → Loading → Loading
after_calls made l = record { calls = made ++ l.calls; report = l.report }

final_append : (s : State) (xs ys : List Call) → final s (xs ++ ys) ≡ final (final s xs) ys
final_append s [] ys = refl
final_append s (call ∷ xs) ys = final_append (step s call).state xs ys

-- how far a load has come: the calls made, and what is left of it
pub record Sofar (bs : List ℕ) (p : Pass) (start : State) (all : Loading) (now : State) (place rows : ℕ) : Type 0 where
  pub made : List Call
  pub ends : final start made ≡ now
  pub rest : all ≡ record { calls = made ++ (load_from (length bs) bs p now place rows).calls; report = (load_from (length bs) bs p now place rows).report }
  pub behind : 1 < place
  pub inside : place ≤ length bs
  pub few : rows < place

pub begin : (bs : List ℕ) (p : Pass) (s : State) (place : ℕ) → 1 < place → place ≤ length bs → Sofar bs p s (load_from (length bs) bs p s place 0) s place 0
begin bs p s place some within = record { made = []; ends = refl; rest = refl; behind = some; inside = within; few = omega arith }

module _ (bs : List ℕ) (p : Pass) (start : State) (all : Loading) (now : State) (place rows : ℕ) (sofar : Sofar bs p start all now place rows) where
  left : (r : Result (Option Item) Refusal) → ordered_at bs place ≡ r →
      all ≡ after_calls sofar.made (load_record r bs p now place rows (λ after more. load_from (length bs) bs p after (place_in_order bs place) more))
  unfolding after_calls
  left r e = sofar.rest ∙ ap (after_calls sofar.made) (load_step bs p now place rows sofar.behind
      ∙ ap (λ (o : Result (Option Item) Refusal). load_record o bs p now place rows (λ after more. load_from (length bs) bs p after (place_in_order bs place) more)) e)

  -- no more calls
  stopped_at : (l : Loading) → l.calls ≡ [] → all ≡ after_calls sofar.made l → Done start all now l.report
  unfolding after_calls
  stopped_at l none e = record {
    reports = ap (λ (x : Loading). x.report) (sym e);
    makes = sym (ap (λ (x : Loading). final start x.calls) e ∙ ap (λ cs. final start (sofar.made ++ cs)) none ∙ ap (final start) (append-nil sofar.made) ∙ sofar.ends);
  }

  pub at_fault : (e : Refusal) → ordered_at bs place ≡ Err e → Done start all now (reported rows place (Some (File e)))
  at_fault e h = stopped_at (stopped rows (File e) place) refl (left (Err e) h)

  pub at_end_is : ordered_at bs place ≡ Ok None → Done start all now (reported rows place None)
  at_end_is h =
      let inside = sofar.inside in
      let e : length bs ≡ place = omega (arith, was_end bs place h) in
      subst (λ (n : ℕ). Done start all now (reported rows n None)) e (stopped_at (whole rows bs) refl (left (Ok None) h))

  next_place_is : (item : Item) → ordered_at bs place ≡ Ok (Some item) → (place + 3 ≤ place_in_order bs place) × (place_in_order bs place ≤ length bs)
  next_place_is item h = let a = advances bs place item h in (a.1, a.2)

  -- one row more, or none
  moved : (item : Item) → ordered_at bs place ≡ Ok (Some item) → (made : List Call) (after : State) (n : ℕ) → n ≤ 1 → final start made ≡ after →
      all ≡ after_calls made (load_from (length bs) bs p after (place_in_order bs place) (rows + n)) → Sofar bs p start all after (place_in_order bs place) (rows + n)
  unfolding after_calls
  moved item h made after n small ends rest =
      let on = next_place_is item h in
      record { made = made; ends = ends; rest = rest; behind = omega (arith, sofar.behind, on.0); inside = on.1; few = omega (arith, sofar.few, on.0) }

  skipped : (item : Item) → ordered_at bs place ≡ Ok (Some item) → call_for p item ≡ None → (after : State) (n : ℕ) → after ≡ now → n ≡ 0 → Sofar bs p start all after (place_in_order bs place) (rows + n)
  skipped item h none after n same zero_is =
      let here = left (Ok (Some item)) h ∙ ap (λ (o : Option Call). after_calls sofar.made (load_item o now place rows (λ after more. load_from (length bs) bs p after (place_in_order bs place) more))) none in
      let count : rows ≡ rows + n = omega arith in
      moved item h sofar.made after n (omega arith) (sofar.ends ∙ sym same)
      (here ∙ ap (λ (t : State). after_calls sofar.made (load_from (length bs) bs p t (place_in_order bs place) rows)) (sym same)
      ∙ ap (λ k. after_calls sofar.made (load_from (length bs) bs p after (place_in_order bs place) k)) count)

  -- what is left where a record asks for a call that gives this refusal, or none
  asked : (item : Item) (call : Call) (o : Option Refusal) → ordered_at bs place ≡ Ok (Some item) → call_for p item ≡ Some call → refusal_in (step now call).answer ≡ o →
      all ≡ after_calls sofar.made (load_call o call (step now call).state place rows (λ after more. load_from (length bs) bs p after (place_in_order bs place) more))
  asked item call o h is e =
      left (Ok (Some item)) h
      ∙ ap (λ (c : Option Call). after_calls sofar.made (load_item c now place rows (λ after more. load_from (length bs) bs p after (place_in_order bs place) more))) is
      ∙ ap (λ (x : Option Refusal). after_calls sofar.made (load_call x call (step now call).state place rows (λ after more. load_from (length bs) bs p after (place_in_order bs place) more))) e

  called : (call : Call) → final start (sofar.made ++ call ∷ []) ≡ (step now call).state
  called call = final_append start sofar.made (call ∷ []) ∙ ap (λ (t : State). (step t call).state) sofar.ends

  posted : (item : Item) (call : Call) → ordered_at bs place ≡ Ok (Some item) → call_for p item ≡ Some call → (o : Option Refusal) → refusal_in (step now call).answer ≡ o →
      (after : State) (n : ℕ) → after ≡ (step now call).state → Ok n ≡ rows_or o → Sofar bs p start all after (place_in_order bs place) (rows + n)
  unfolding after_calls
  posted item call h is (Some e) refusal after n same count = let z : ◌≡◌ {A = ℕ} 0 1 = cc in absurd (omega arith)
  posted item call h is None refusal after n same count =
      let one : n ≡ 1 = cc in
      let rest : State → ℕ → Loading = λ t k. load_from (length bs) bs p t (place_in_order bs place) k in
      let grouped : after_calls sofar.made (first call (rest (step now call).state (rows + 1))) ≡ after_calls (sofar.made ++ call ∷ []) (rest (step now call).state (rows + 1)) =
      ap (λ cs. record { calls = cs; report = (rest (step now call).state (rows + 1)).report }) (sym (append_assoc sofar.made (call ∷ []) (rest (step now call).state (rows + 1)).calls)) in
      moved item h (sofar.made ++ call ∷ []) after n (omega arith) (called call ∙ sym same)
      (asked item call None h is refusal ∙ grouped
      ∙ ap (λ (t : State). after_calls (sofar.made ++ call ∷ []) (rest t (rows + 1))) (sym same)
      ∙ ap (λ k. after_calls (sofar.made ++ call ∷ []) (rest after (rows + k))) (sym one))

  pub went_on : (item : Item) (n : ℕ) (after : State) → ordered_at bs place ≡ Ok (Some item) → Took (call_for p item) now (Ok n) after → Sofar bs p start all after (place_in_order bs place) (rows + n)
  went_on item n after h took = by (call_for p item) refl took
    where
      by : (o : Option Call) → call_for p item ≡ o → Took o now (Ok n) after → Sofar bs p start all after (place_in_order bs place) (rows + n)
      by None e (same, none) = skipped item h e after n same (cc)
      by (Some call) e (same, count) = posted item call h e (refusal_in (step now call).answer) refl after n same count

  pub at_refusal : (item : Item) (e : Refusal) (after : State) → ordered_at bs place ≡ Ok (Some item) → Took (call_for p item) now (Err e) after → Done start all after (reported rows place (Some (TheBook e)))
  unfolding after_calls
  at_refusal item e after h took = by (call_for p item) refl took
    where
      last : (call : Call) → call_for p item ≡ Some call → after ≡ (step now call).state → (o : Option Refusal) → refusal_in (step now call).answer ≡ o → Err e ≡ rows_or o → Done start all after (reported rows place (Some (TheBook e)))
      last call is same None refusal count = let z : ◌≡◌ {A = ℕ} 0 1 = cc in absurd (omega arith)
      last call is same (Some x) refusal count =
          let which : e ≡ x = cc in
          let l = asked item call (Some x) h is refusal in
          record {
            reports = ap (λ (y : Refusal). reported rows place (Some (TheBook y))) which ∙ ap (λ (y : Loading). y.report) (sym l);
            makes = same ∙ sym (called call) ∙ ap (λ (y : Loading). final start y.calls) (sym l);
          }

      by : (o : Option Call) → call_for p item ≡ o → Took o now (Err e) after → Done start all after (reported rows place (Some (TheBook e)))
      by None is (same, none) = let z : ◌≡◌ {A = ℕ} 0 1 = cc in absurd (omega arith)
      by (Some call) is (same, count) = last call is same (refusal_in (step now call).answer) refl count

-- the same report, by another term
pub done_by_same : (start : State) (all : Loading) (now : State) (r r' : LoadReport) → r' ≡ r → Done start all now r → Done start all now r'
done_by_same start all now r r' e d = record { reports = e ∙ d.reports; makes = d.makes }

-- a record that a load took posted at most one row
pub few_rows : (o : Option Call) (s : State) (n : ℕ) (after : State) → Took o s (Ok n) after → n ≤ 1
few_rows None s n after (same, none) = let z : n ≡ 0 = cc in omega arith
few_rows (Some call) s n after (same, count) = by (refusal_in (step s call).answer) count
  where
    by : (o : Option Refusal) → Ok n ≡ rows_or o → n ≤ 1
    by None e = let one : n ≡ 1 = cc in omega arith
    by (Some x) e = let z : ◌≡◌ {A = ℕ} 0 1 = cc in absurd (omega arith)

-- what a step of a load answered, where its refusal is told as given by the file or by the book

abbrev Told : {X : Type 0} → (Refusal → RefusedLoad) → Result X Refusal → Result X RefusedLoad → Type 0
Told {X} by r m = MatchResult r (λ (z : X). m ≡ Ok z) (λ e. IsErrAnd m (λ d. d ≡ by e))

abbrev pub Went : {X : Type 0} → (Refusal → RefusedLoad) → Result X Refusal → X → Type 0
Went by r y = Told by r (Ok y)

abbrev pub Stopped : {X : Type 0} → (Refusal → RefusedLoad) → Result X Refusal → RefusedLoad → Type 0
Stopped by r x = Told by r (Err x)

pub went : {X : Type 0} (by : Refusal → RefusedLoad) (r : Result X Refusal) (y : X) → Went by r y → r ≡ Ok y
went by (Ok z) y h = let e : y ≡ z = cc in ap Ok (sym e)
went by (Err e) y h = absurd h

pub stopped_by : {X : Type 0} (by : Refusal → RefusedLoad) (r : Result X Refusal) (x : RefusedLoad) → Stopped by r x → (e : Refusal) × (r ≡ Err e) × (x ≡ by e)
stopped_by by (Ok z) x h = let no : ◌≡◌ {A = ℕ} 0 1 = cc in absurd (omega arith)
stopped_by by (Err e) x h = (e, refl, h)

pub took : (o : Option Call) (s : State) (r : Result ℕ Refusal) (n : ℕ) (after : State) → Went TheBook r n → Took o s r after → Took o s (Ok n) after
took o s r n after h t = subst (λ (k : Result ℕ Refusal). Took o s k after) (went TheBook r n h) t

pub let_in : (s : State) (p : Pass) (r : Result (Unit {0}) Refusal) (y : Unit {0}) → r ≡ answer (load_refusal s p) tt → Went TheBook r y → load_refusal s p ≡ None
let_in s p r y e h = (ok_tells (load_refusal s p) y tt (sym (went TheBook r y h) ∙ e)).0

-- what a reader over the same bytes answered

module _ (bs bs' : List ℕ) (place : ℕ) (r : Result (Option Record) Refusal) (reads : said r ≡ ordered_at bs' place) (same : bs' ≡ bs) where
  answered : (k : Result (Option Record) Refusal) → r ≡ k → ordered_at bs place ≡ said k
  answered k is = ap (λ (b : List ℕ). ordered_at b place) (sym same) ∙ sym reads ∙ ap said is

  pub found_fault : (x : RefusedLoad) → Stopped File r x → (e : Refusal) × (ordered_at bs place ≡ Err e) × (x ≡ File e)
  found_fault x h = let t = stopped_by File r x h in (t.0, answered (Err t.0) t.1, t.2)

  pub found_record : (o : Option Record) (x : Record) → Went File r o → o ≡ Some x → ordered_at bs place ≡ Ok (Some (item_of x))
  found_record o x h is = answered (Ok o) (went File r o h) ∙ ap (λ (y : Option Record). said (Ok y)) is

  pub found_none : (o : Option Record) → Went File r o → o ≡ None → ordered_at bs place ≡ Ok None
  found_none o h is = answered (Ok o) (went File r o h) ∙ ap (λ (y : Option Record). said (Ok y)) is

pub stands : (bs bs' : List ℕ) (place next : ℕ) → next ≡ place_in_order bs' place → bs' ≡ bs → next ≡ place_in_order bs place
stands bs bs' place next e same = e ∙ ap (λ (b : List ℕ). place_in_order b place) same

-- a load of a file that begins with a header
pub load_is : (s : State) (p : Pass) (bs bs' : List ℕ) (place next : ℕ) (o : Option Record) (z y : Sizes) (b : Bool) → load_refusal s p ≡ None → open_refusal bs ≡ None → bs' ≡ bs → place ≡ 1 →
    said (Ok o) ≡ record_at bs' place → next ≡ next_place bs' place → Ok z ≡ header_in (option_map item_of o) → y ≡ s.book.sizes → b ≡ same_sizes z y →
    load_of s p bs ≡ cond b (load_from (length bs) bs p s next 0) (stopped 0 (TheBook FieldOutOfRange) 1)
load_is s p bs bs' place next o z y b none begins same one read stood sizes book alike =
    let here : record_at bs 1 ≡ said (Ok o) = ap (λ k. record_at bs k) (sym one) ∙ ap (λ (l : List ℕ). record_at l place) (sym same) ∙ sym read in
    let then : next_place bs 1 ≡ next = ap (λ k. next_place bs k) (sym one) ∙ ap (λ (l : List ℕ). next_place l place) (sym same) ∙ sym stood in
    ap (λ (x : Option Refusal). load_unless x bs p s) none
    ∙ ap (λ (x : Option Refusal). load_file x bs p s) begins
    ∙ ap (λ (x : Result (Option Item) Refusal). load_header x bs p s) here
    ∙ ap (λ (x : Result Sizes Refusal). load_sizes x bs p s) (sym sizes)
    ∙ ap (λ (x : Sizes). cond (same_sizes z x) (load_from (length bs) bs p s (next_place bs 1) 0) (stopped 0 (TheBook FieldOutOfRange) 1)) (sym book)
    ∙ ap (λ x. cond x (load_from (length bs) bs p s (next_place bs 1) 0) (stopped 0 (TheBook FieldOutOfRange) 1)) (sym alike)
    ∙ ap (λ k. cond b (load_from (length bs) bs p s k 0) (stopped 0 (TheBook FieldOutOfRange) 1)) then

-- a load that is one by another term
pub done_load : (start : State) (all all' : Loading) (now : State) (r : LoadReport) → all' ≡ all → Done start all now r → Done start all' now r
done_load start all all' now r e d = record { reports = d.reports ∙ ap (λ (l : Loading). l.report) (sym e); makes = d.makes ∙ ap (λ (l : Loading). final start l.calls) (sym e) }

-- a report that a refusal ends
pub ended_is : (rows rows' place place' : ℕ) (f : Result (Unit {0}) RefusedLoad) (x : RefusedLoad) (e : Refusal) (by : Refusal → RefusedLoad) → rows ≡ rows' → place ≡ place' → IsErrAnd f (λ d. d ≡ x) → x ≡ by e →
    ended rows place f ≡ reported rows' place' (Some (by e))
ended_is rows rows' place place' f x e by many there same is =
    ap (λ (k : Result (Unit {0}) RefusedLoad). ended rows place k) (same_error f x same)
    ∙ ap (λ n. reported n place (Some x)) many ∙ ap (λ n. reported rows' n (Some x)) there ∙ ap (λ (y : RefusedLoad). reported rows' place' (Some y)) is

-- a load that stops without a call leaves all as it was
pub done_stopped : (start : State) (all : Loading) (rows rows' place place' : ℕ) (f : Result (Unit {0}) RefusedLoad) (x : RefusedLoad) (e : Refusal) (by : Refusal → RefusedLoad) → rows ≡ rows' → place ≡ place' → IsErrAnd f (λ d. d ≡ x) → x ≡ by e →
    all ≡ stopped rows' (by e) place' → Done start all start (ended rows place f)
done_stopped start all rows rows' place place' f x e by many there same is h =
    record { reports = ended_is rows rows' place place' f x e by many there same is ∙ ap (λ (l : Loading). l.report) (sym h); makes = ap (λ (l : Loading). final start l.calls) (sym h) }

-- the refusals before the first row

pub unalike : (b : Bool) → true ≡ not b → false ≡ b
unalike true h = sym h
unalike false h = refl

pub first_is : (bs bs' : List ℕ) (place : ℕ) (r : Result (Option Record) Refusal) → bs' ≡ bs → place ≡ 1 → said r ≡ record_at bs' place → record_at bs 1 ≡ said r
first_is bs bs' place r same one read = ap (λ k. record_at bs k) (sym one) ∙ ap (λ (l : List ℕ). record_at l place) (sym same) ∙ sym read

module _ (s : State) (p : Pass) (bs : List ℕ) where
  pub refused_is : (e : Refusal) → load_refusal s p ≡ Some e → load_of s p bs ≡ stopped 0 (TheBook e) 0
  refused_is e h = ap (λ (x : Option Refusal). load_unless x bs p s) h

  module _ (none : load_refusal s p ≡ None) where
    pub no_file_is : (e : Refusal) → open_refusal bs ≡ Some e → load_of s p bs ≡ stopped 0 (File e) 0
    no_file_is e h = ap (λ (x : Option Refusal). load_unless x bs p s) none ∙ ap (λ (x : Option Refusal). load_file x bs p s) h

    module _ (begins : open_refusal bs ≡ None) (first : Result (Option Item) Refusal) (here : record_at bs 1 ≡ first) where
      headed_is : load_of s p bs ≡ load_header first bs p s
      headed_is = ap (λ (x : Option Refusal). load_unless x bs p s) none ∙ ap (λ (x : Option Refusal). load_file x bs p s) begins ∙ ap (λ (x : Result (Option Item) Refusal). load_header x bs p s) here

      pub no_record_is : (e : Refusal) → first ≡ Err e → load_of s p bs ≡ stopped 0 (File e) 1
      no_record_is e h = headed_is ∙ ap (λ (x : Result (Option Item) Refusal). load_header x bs p s) h

      pub no_header_is : (o : Option Item) (e : Refusal) → first ≡ Ok o → header_in o ≡ Err e → load_of s p bs ≡ stopped 0 (File e) 1
      no_header_is o e h bad = headed_is ∙ ap (λ (x : Result (Option Item) Refusal). load_header x bs p s) h ∙ ap (λ (x : Result Sizes Refusal). load_sizes x bs p s) bad
