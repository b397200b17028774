-- What several calls of a book test alike.
--   marks_refusal        the marks are not one for each contributor
--   contributor_refusal  and then there is no such contributor
--   entry_refusal        what refuses a row of either kind: how many rows of its table the book counts, when it
--                        is unlawful, and the sum that is limited with it
use Rattle.std.specs.Prelude.{ℕ, Bool, not, ◌||◌, List, [], ◌∷◌, length, take, Option, nat_le, nat_lt}
use Rattle.tariff.specs.declared.refusal.Refusal.{Refusal}
use Rattle.tariff.specs.declared.refusal.Refusal.TheVariants.{TableUnfit, UnknownContributor, PassNotValid, FieldOutOfRange, TableFull, SumTooLarge}
use Rattle.tariff.specs.declared.rows.Sizes.{Sizes}
use Rattle.tariff.specs.Limits.{contributors, most_amount}
use Rattle.tariff.specs.Refusals.{first_of}
use Rattle.book_rules.specs.Machine.{Book, Pass, unmarked, valid}

abbrev pub marks_refusal : List ℕ → Option Refusal
marks_refusal marks = first_of ((unmarked marks, TableUnfit) ∷ [])

abbrev pub contributor_refusal : List ℕ → ℕ → Option Refusal
contributor_refusal marks c = first_of (
    (unmarked marks, TableUnfit) ∷
    (nat_le contributors c, UnknownContributor) ∷ [])

abbrev pub entry_refusal : {R : Type 0} → (Book → ℕ) → (Sizes → R → Bool) → (R → List R → ℕ) → Book → List R → List ℕ → Pass → R → Option Refusal
entry_refusal counted unlawful limited b rows marks p r = first_of (
    (nat_lt (length rows) (counted b) || unmarked marks, TableUnfit) ∷
    (not (valid b marks p), PassNotValid) ∷
    (unlawful b.sizes r, FieldOutOfRange) ∷
    (nat_le (length rows) (counted b), TableFull) ∷
    (nat_lt most_amount (limited r (take (counted b) rows)), SumTooLarge) ∷ [])
