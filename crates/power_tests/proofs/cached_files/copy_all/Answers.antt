use Rattle.std.proofs.Common.{◌∙◌, subst, sym, T}
use Rattle.std.specs.BTreeSet.{contains}
use Rattle.std.specs.BTreeMap.{is_at}
use Rattle.std.specs.Ordering.{nat_cmp}
use Rattle.power_tests.proofs.Mixed.{agree_copied, all_copied}
use Rattle.power_tests.proofs.cached_files.copy_all.Goals as goal

pub loop-name-preserved : goal.loop-name-preserved
loop-name-preserved c = (
  agree_copied c.loop-name.from c.loop-name.to _ _ c.in-Some.name (contains nat_cmp c.loop-name.left) (contains nat_cmp c.pop_first.new.self)
      c.copy_if.ensures.same c.if-not-copy_if.ensures.copied c.in-Some.ensures.updates.0 c.loop-name.invariant.0,
  c.copy_if.ensures.same ∙ c.loop-name.invariant.1,
)

pub returns-clause-copied : goal.returns-clause-copied
returns-clause-copied c = λ _.
    all_copied c.loop-name.from c.loop-name.to (λ q. is_at (nat_cmp q)) c.loop-name.left.keys
    (λ some. subst T (sym (c.in_default.ensures.variant.1 some)) tt) c.loop-name.invariant.0
    ∙ c.loop-name.invariant.1
