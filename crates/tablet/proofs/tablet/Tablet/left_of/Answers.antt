use Rattle.std.proofs.Common.{rules, ◌≡◌, Some}
use Rattle.tablet.proofs.tablet.Tablet.left_of.Goals as goal

pub returns-clause-range : goal.returns-clause-range
returns-clause-range c =
    let after : c.in_ok-clone.field-0 ≡ c.args.self.now.range.after = search rules in
    λ i. record { after = after i; end = Some (c.in_ok-clone-2.ensures.cases i) }
