-- A pass taken out of its place. Assumes nothing.
use Rattle.std.proofs.Common.{◌≡◌, ℕ, ◌+◌, ◌-◌, List, get_or, set, Some, None, Option, ap, ◌∙◌, arith, MatchOption}
use Rattle.std.specs.Option.{option_map}
use Rattle.std.proofs.lemmas.List.{map-set, set-get_or}
use Rattle.book.specs.declared.states.Pass.{Pass as Token}
use Rattle.book.specs.Shown.{pass_of}
use Rattle.journal_book.specs.Stages.{shown_passes}

taken_from : (xs : List (Option Token)) (place : ℕ) (x d : Option Token) → x ≡ get_or xs place d →
    MatchOption x (shown_passes (set xs place None) ≡ shown_passes xs) (λ _. shown_passes (set xs place None) ≡ set (shown_passes xs) place None)
taken_from xs place None d at = ap (λ (z : Option Token). shown_passes (set xs place z)) at ∙ ap shown_passes (set-get_or xs place d)
taken_from xs place (Some p) d at = map-set (option_map pass_of) xs place None

pub after_taking : (xs : List (Option Token)) (n place : ℕ) (x left d : Option Token) → place + 1 ≡ n → x ≡ get_or xs place d → left ≡ None →
    MatchOption x (shown_passes (set xs place left) ≡ shown_passes xs) (λ _. shown_passes (set xs place left) ≡ set (shown_passes xs) (n - 1) None)
after_taking xs n place x left d is at gone =
    let same : n - 1 ≡ place = omega arith in
    rw (gone, same) (taken_from xs place x d at)
