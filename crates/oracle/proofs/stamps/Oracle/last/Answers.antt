use Rattle.oracle.proofs.stamps.Oracle.last.Goals as goal

pub returns-clause-last : goal.returns-clause-last
returns-clause-last g c = λ i. (c.self.view_is i).last
