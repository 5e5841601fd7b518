-- The place at the index gives the rows and the files.
use Rattle.std.proofs.Common.{◌<◌, None, inl, inr, List, length, ap, ◌∙◌, arith}
use Rattle.std.proofs.lemmas.List.{length-map}
use Rattle.metadata_table.specs.Places.{PlaceView, view_of}
use Rattle.tablet.specs.declared.tablet.Tablet.{Tablet}
use Rattle.row_atomic.specs.Open.{FitsAt}
use Rattle.row_atomic.proofs.LoadedTablets.{BeginsAfter, fits_of, fits_there, lacks_one}
use Rattle.row_atomic.proofs.cluster.open.load_at.Goals as goal
use Rattle.row_atomic.proofs.cluster.open.load_at.Goals.{then-index-eq0, else-index-eq0+in_ok-after}

pub returns-clause-fits : goal.returns-clause-fits
returns-clause-fits g c =
    let many = length-map c.places-places.result.now view_of in
    let same = ap (λ (ps : List PlaceView). length ps) c.places-places.ensures.places in
    let less = c.requires.within in
    let below : c.args.index < length c.places-places.result.now = omega arith in
    let begins : BeginsAfter c.places-places.result.now c.args.index c.if-index-eq0.after = elim c.if-index-eq0.branch [
      | then-index-eq0 w ↦ (let none = w.if-index-eq0.true in inl (omega arith, w.after-is))
      | else-index-eq0+in_ok-after w ↦ (let some = w.if-index-eq0.false in inr (omega arith, (w.index-places-index.result, w.after-is ∙ w.in_ok-after.ensures ∙ ap (λ p. p.end) w.index-places-index.is)))
    ] in
    fits_of c.load.result _ _ (λ (t : Tablet). FitsAt None c.args.table.now c.args.index t)
    (λ t range names. rw (← c.places-places.ensures.places) (fits_there c.places-places.result.now c.args.index c.if-index-eq0.after c.in_ok-end.end c.index-places-index-2.result c.index-places-index-3.result below begins (c.in_ok-end.ensures ∙ ap (λ p. p.end) c.index-places-index-2.is) t range (names ∙ c.deref.ensures.value)))
    c.load.ensures.range c.load.ensures.names

pub returns-clause-damaged : goal.returns-clause-damaged
returns-clause-damaged g c =
    let many = length-map c.places-places.result.now view_of in
    let same = ap (λ (ps : List PlaceView). length ps) c.places-places.ensures.places in
    let less = c.requires.within in
    let below : c.args.index < length c.places-places.result.now = omega arith in
    λ is. rw (← c.places-places.ensures.places) (lacks_one c.places-places.result.now c.args.index c.index-places-index-3.result below (g.F.Files.contents c.args.files.now) (rw c.deref.ensures.value at c.load.ensures.damaged is))
