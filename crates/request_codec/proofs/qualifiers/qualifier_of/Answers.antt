use Rattle.std.proofs.Common.{sym}
use Rattle.request_codec.proofs.qualifiers.qualifier_of.Goals as goal

pub returns-in-1-clause-found : goal.returns-in-1-clause-found
returns-in-1-clause-found c = sym c.in-1.is

pub returns-in-2-clause-found : goal.returns-in-2-clause-found
returns-in-2-clause-found c = sym c.in-2.is

pub returns-in-3-clause-found : goal.returns-in-3-clause-found
returns-in-3-clause-found c = sym c.in-3.is
