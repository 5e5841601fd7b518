use Rattle.std.proofs.Common.{◌≡◌, refl, arith}
use Rattle.oracle.proofs.stamps.Oracle.restart.Goals as goal

pub returns-clause-range : goal.returns-clause-range
returns-clause-range g c = refl

pub returns-clause-rises : goal.returns-clause-rises
returns-clause-rises g c =
    let same : c.self.inside.last ≡ c.args.self.now.last = λ i. (c.self.view_is i).last in omega (arith, same)
