use Rattle.tablet.proofs.tablet.Tablet.is_empty.Goals as goal

pub returns : goal.returns
returns c = c.is_empty.ensures
