use Rattle.std.proofs.Common.{List, Contains, ◌⊎◌, ◌≡◌, sym, subst, arith}
use Rattle.std.proofs.lemmas.List.{take_all}
use Rattle.cell_key.specs.declared.keys.CellKey.{CellKey}
use Rattle.sorted_file.proofs.KeptLocks.{kept_more, only_more}
use Rattle.sorted_file.proofs.lock_values.copy_unnamed.Goals as goal

pub loop-lock-preserved : goal.loop-lock-preserved
loop-lock-preserved c = (
  kept_more c.args.named.now c.loop-lock.kept.items c.push_unnamed.new.kept.items c.args.locks.now c.loop-lock.lock-index c.lock-item.result c.loop-lock-test.true c.loop-lock.invariant.0 c.in_ok-push_unnamed.ensures.keeps
      (subst (λ (k : CellKey). ¬ Contains c.args.named.now k → Contains c.push_unnamed.new.kept.items k) c.lock-item.is c.in_ok-push_unnamed.ensures.has),
  only_more c.args.named.now c.loop-lock.kept.items c.push_unnamed.new.kept.items c.args.locks.now c.loop-lock.lock-index c.lock-item.result c.loop-lock-test.true c.loop-lock.invariant.1
      (subst (λ (k : CellKey). (key : CellKey) → Contains c.push_unnamed.new.kept.items key → Contains c.loop-lock.kept.items key ⊎ (k ≡ key)) c.lock-item.is c.in_ok-push_unnamed.ensures.only),
)

pub returns-clause-keeps : goal.returns-clause-keeps
returns-clause-keeps c = λ key there. c.loop-lock.invariant.0 key (subst (λ (l : List CellKey). Contains l key) (sym (take_all c.loop-lock.lock-index c.args.locks.now (omega arith))) there)

pub returns-clause-only : goal.returns-clause-only
returns-clause-only c = λ key there. subst (λ (l : List CellKey). Contains l key) (take_all c.loop-lock.lock-index c.args.locks.now (omega arith)) (c.loop-lock.invariant.1 key there)
