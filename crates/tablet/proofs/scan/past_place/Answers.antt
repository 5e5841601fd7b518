use Rattle.tablet.proofs.scan.past_place.Goals as goal

pub returns-in-Some-clause-past : goal.returns-in-Some-clause-past
returns-in-Some-clause-past c = rw c.in-Some.is c.version_text.ensures.text
