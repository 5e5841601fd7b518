use Rattle.std.proofs.Common.{rules, ap, ◌≢◌}
use Rattle.std.specs.List.{AllByRecursion}
use Rattle.metadata_table.specs.declared.places.Place.{Place}
use Rattle.metadata_table.specs.Places.{PlaceView, view_of, views}
use Rattle.metadata_table.proofs.RootChecks.{all_mapped, all_of_mapped, differ_step, differ_stop}
use Rattle.metadata_table.proofs.root.check.tablets_differ.Goals as goal

pub returns-then-not-lacks_tablet : goal.returns-then-not-lacks_tablet
returns-then-not-lacks_tablet c =
    let p = c.in-Some.place.now in
    let none : AllByRecursion (λ (place : Place). p.tablet ≢ place.tablet) c.in-Some.after.now → ⊥ = search rules in (
      λ e. cc,
      λ h. absurd (differ_stop (λ (p q : PlaceView). p.tablet ≢ q.tablet) _ _ (view_of p) (views c.in-Some.after.now) (ap views c.in-Some.ensures.cases.0)
          (λ each. none (all_of_mapped view_of (λ (q : PlaceView). p.tablet ≢ q.tablet) c.in-Some.after.now each)) c.places.invariant h),
    )

pub places-preserved : goal.places-preserved
places-preserved c =
    let p = c.in-Some.place.now in
    let first : AllByRecursion (λ (place : Place). p.tablet ≢ place.tablet) c.in-Some.after.now = search rules in
    differ_step (λ (p q : PlaceView). p.tablet ≢ q.tablet) _ _ (view_of p) (views c.in-Some.after.now) (ap views c.in-Some.ensures.cases.0)
    (all_mapped view_of (λ (q : PlaceView). p.tablet ≢ q.tablet) c.in-Some.after.now first) c.places.invariant
