use Rattle.std.proofs.Common.{refl, sym, ap, ◌∙◌, true}
use Rattle.std.specs.Prelude.{Some, cond}
use Rattle.std.specs.FinMap.{get}
use Rattle.std.specs.BTreeSet.{contains}
use Rattle.std.specs.Ordering.{nat_cmp}
use Rattle.power_tests.specs.Meant.{set_to}
use Rattle.power_tests.proofs.Mixed.{agree_done, agree_still, copied, copied_or_not, on_err, set_same, sets}
use Rattle.power_tests.proofs.cached_files.CachedFiles.reopen.Goals as goal

pub returns-in_err-insert-clause-err : goal.returns-in_err-insert-clause-err
returns-in_err-insert-clause-err g c = rw (← c.self.view_is) (on_err c.from_residual.result (λ lasts. (lasts, refl)))

pub invariant_of-self-then-is_done : goal.invariant_of-self-then-is_done
invariant_of-self-then-is_done g c =
    agree_done (set_to (get c.self.inside.read 0) 0) (get c.self.inside.read 0) 0 (sets (get c.self.inside.read 0) 0)
    c.self.inside.read c.self.inside.lasting _ _ true c.copy_if-lasts.result (c.copy_if-lasts.ensures.same ∙ sym (set_same c.self.inside.read 0)) c.copy_if-lasts.ensures.copied
    (contains nat_cmp c.self.inside.doubts) (contains nat_cmp c.insert.new.self) (contains nat_cmp c.remove.new.self)
    refl (c.is_done.ensures.lasts c.if-is_done.true) c.in_ok-insert.ensures.updates.0 c.remove.ensures.updates.0 c.self.invariant

pub returns-then-is_done-clause-ok : goal.returns-then-is_done-clause-ok
returns-then-is_done-clause-ok g c =
    rw (← c.self.view_is) (λ lasts. ap Some (copied lasts c.self.inside.read c.self.inside.lasting _ _ 0 c.copy_if-lasts.ensures.same
    (c.copy_if-lasts.ensures.copied ∙ ap (λ b. cond b (set_to (get c.self.inside.read 0) 0 c.self.inside.lasting) c.self.inside.lasting) (c.is_done.ensures.lasts c.if-is_done.true))))

pub invariant_of-self-2 : goal.invariant_of-self-2
invariant_of-self-2 g c =
    agree_still (set_to (get c.self.inside.read 0) 0) (get c.self.inside.read 0) 0 (sets (get c.self.inside.read 0) 0)
    c.self.inside.read c.self.inside.lasting _ _ true c.copy_if-lasts.result (c.copy_if-lasts.ensures.same ∙ sym (set_same c.self.inside.read 0)) c.copy_if-lasts.ensures.copied
    (contains nat_cmp c.self.inside.doubts) (contains nat_cmp c.insert.new.self) c.in_ok-insert.ensures.updates.0 c.self.invariant

pub returns-clause-err : goal.returns-clause-err
returns-clause-err g c =
    rw (← c.self.view_is) (λ lasts. copied_or_not c.copy_if-lasts.result lasts c.self.inside.read c.self.inside.lasting _ _ 0 c.copy_if-lasts.ensures.same c.copy_if-lasts.ensures.copied)
