use Rattle.std.proofs.Common.{arith}
use Rattle.commit_log.proofs.Numbering.{fits, front_of, longer, no_number, short_of, some_through}
use Rattle.commit_log.proofs.numbered.first_numbered.Goals as goal

pub returns-in_default-clause-none : goal.returns-in_default-clause-none
returns-in_default-clause-none c number payload behind s same = c.in_default.ensures.none _ behind (fits number payload s) same

pub returns-clause-none : goal.returns-clause-none
returns-clause-none c =
    no_number c.split_number.result _ _ _ c.in-Some.ensures.found c.in-Some.ensures.front c.split_number.ensures.none

pub returns-clause-found : goal.returns-clause-found
returns-clause-found c = some_through c.split_number.result _ _ (λ p same. short_of _ p.1.now p.0 c.in-Some.ensures.found same) c.split_number.ensures.found

pub returns-clause-front : goal.returns-clause-front
returns-clause-front c = some_through c.split_number.result _ _ (λ p same. front_of _ _ p.1.now p.0 c.in-Some.ensures.front same) c.split_number.ensures.found

pub returns-clause-within : goal.returns-clause-within
returns-clause-within c = some_through c.split_number.result _ _ (λ p same. omega (arith, longer _ p.1.now p.0 same, c.in-Some.ensures.within)) c.split_number.ensures.found
