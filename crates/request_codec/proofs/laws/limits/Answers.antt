use Rattle.std.proofs.Common.{refl}
use Rattle.request_codec.proofs.laws.limits.Goals as goal

pub returns-clause-body : goal.returns-clause-body
returns-clause-body c = refl

pub returns-clause-reply : goal.returns-clause-reply
returns-clause-reply c = refl

pub returns-clause-answer : goal.returns-clause-answer
returns-clause-answer c = refl
