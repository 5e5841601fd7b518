-- The blocks left were cached before.
use Rattle.sorted_file.proofs.Keeping.{still_taken}
use Rattle.sorted_file.proofs.cache.evict.Goals as goal

pub returns-in-Some-clause-still : goal.returns-in-Some-clause-still
returns-in-Some-clause-still c = λ rows h. rw c.pop_lru.ensures.entries (still_taken rows _ c.args.cache.now.entries h)

pub returns-in-None-clause-still : goal.returns-in-None-clause-still
returns-in-None-clause-still c = λ rows h. rw c.pop_lru.ensures.entries (still_taken rows _ c.args.cache.now.entries h)
