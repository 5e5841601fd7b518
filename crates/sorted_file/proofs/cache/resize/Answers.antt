-- The blocks left were cached before.
use Rattle.std.proofs.Common.{ℕ, subst}
use Rattle.std.specs.Prelude.{Contains}
use Rattle.lru.specs.LruCache.{LruCache}
use Rattle.sorted_file.specs.declared.block.Block.{Block}
use Rattle.sorted_file.proofs.Keeping.{among_taken, still_taken}
use Rattle.sorted_file.proofs.cache.resize.Goals as goal

pub returns-clause-still : goal.returns-clause-still
returns-clause-still c = λ rows h. rw c.resize.ensures (still_taken rows _ c.args.cache.now.entries h)

pub returns-clause-kept : goal.returns-clause-kept
returns-clause-kept c = λ e d. among_taken _ c.args.cache.now.entries e (subst (λ (k : LruCache ℕ Block). Contains k.entries e) c.resize.ensures d)
