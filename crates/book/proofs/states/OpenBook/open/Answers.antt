use Rattle.std.proofs.Common.{refl}
use Rattle.lines.specs.Checked.{sizes_of}
use Rattle.lines.specs.Sizes.{sizes_refusal, unfit}
use Rattle.tariff.specs.declared.refusal.Refusal.TheVariants.{SizeOutOfRange}
use Rattle.tariff.proofs.Refused.{ok_tells, none_tells}
use Rattle.book_rules.proofs.Lives.{life}
use Rattle.book.proofs.states.OpenBook.open.Goals as goal

pub returns-clause-life : goal.returns-clause-life
returns-clause-life c =
    let t = ok_tells (sizes_refusal c.args.sizes) (sizes_of c.in_ok-sizes.sizes) c.args.sizes c.in_ok-sizes.ensures in
    let fit = none_tells (unfit c.args.sizes) SizeOutOfRange t.0 in
    λ units costs. life _ refl refl
