use Rattle.std.proofs.Common.{rules, ℕ, ◌≢◌}
use Rattle.std.specs.List.{AllByRecursion}
use Rattle.metadata_table.proofs.RootChecks.{differ_step, differ_stop}
use Rattle.metadata_table.proofs.root.check.names_differ.Goals as goal

pub returns-then-not-lacks_name : goal.returns-then-not-lacks_name
returns-then-not-lacks_name c =
    let none : AllByRecursion (λ (other : ℕ). c.in-Some.name.now ≢ other) c.in-Some.after.now → ⊥ = search rules in
    (λ e. cc, λ h. absurd (differ_stop (λ (m n : ℕ). m ≢ n) _ _ c.in-Some.name.now c.in-Some.after.now c.in-Some.ensures.cases.0 none c.names.invariant h))

pub names-preserved : goal.names-preserved
names-preserved c =
    let first : AllByRecursion (λ (other : ℕ). c.in-Some.name.now ≢ other) c.in-Some.after.now = search rules in
    differ_step (λ (m n : ℕ). m ≢ n) _ _ c.in-Some.name.now c.in-Some.after.now c.in-Some.ensures.cases.0 first c.names.invariant
