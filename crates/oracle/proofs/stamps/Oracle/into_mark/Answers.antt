use Rattle.oracle.proofs.stamps.Oracle.into_mark.Goals as goal

pub returns : goal.returns
returns g c = λ i. (c.self.view_is i).marks
