use Rattle.std.proofs.Common.{ℕ, nat_eq, Contains, subst}
use Rattle.lru.specs.LruCache.{LruCache}
use Rattle.lru.proofs.CallerLemmas.{Contains-promoted}
use Rattle.sorted_file.specs.declared.block.Block.{Block}
use Rattle.sorted_file.proofs.Keeping.{still_promoted}
use Rattle.sorted_file.proofs.cache.promote.Goals as goal

pub returns-clause-still : goal.returns-clause-still
returns-clause-still c = λ rows h. rw c.promote.ensures.entries (still_promoted rows (nat_eq c.args.number) c.args.cache.now.entries h)

pub returns-clause-kept : goal.returns-clause-kept
returns-clause-kept c = λ e d. Contains-promoted (nat_eq c.args.number) c.args.cache.now.entries e (subst (λ (k : LruCache ℕ Block). Contains k.entries e) c.promote.ensures.entries d)
