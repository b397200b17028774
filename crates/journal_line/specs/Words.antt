-- The words of the calls.
--   call_word  the word for a call
--   Calls      a word names a call just where it is the call's word
use Rattle.std.specs.Prelude.{◌≡◌, ℕ, List, Option, MatchOption, codes}
use Rattle.journal_line.specs.declared.calls.CallName.{CallName}
use Rattle.journal_line.specs.declared.calls.CallName.TheVariants.{Open, Admit, Remove, HandIn, TakeIn, Post, Correct, Cost, Freeze, Reopen, Bill}

abbrev pub call_word : CallName → List ℕ
call_word Open = codes "open"
call_word Admit = codes "admit"
call_word Remove = codes "remove"
call_word HandIn = codes "hand-in"
call_word TakeIn = codes "take-in"
call_word Post = codes "post"
call_word Correct = codes "correct"
call_word Cost = codes "cost"
call_word Freeze = codes "freeze"
call_word Reopen = codes "reopen"
call_word Bill = codes "bill"

abbrev pub Calls : List ℕ → Option CallName → Type 0
Calls word found = MatchOption found ((name : CallName) → word ≡ call_word name → ⊥) (λ name. word ≡ call_word name)
