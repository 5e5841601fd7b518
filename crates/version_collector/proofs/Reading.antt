-- The place from which visits in sequence read.
use Rattle.std.proofs.Common.{◌≡◌, ℕ, ◌⊎◌, List, Option, None, inl, inr, refl, sym, subst, ◌∙◌}
use Rattle.cell_key.specs.Cells.{Cells}
use Rattle.cell_key.specs.Places.{Place}
use Rattle.rows.specs.Calls.{AreReadableFrom, IsRowFrom, KeepsBelow, View}
use Rattle.rows.proofs.RowsFrom.{from_later}
use Rattle.si_model.specs.Collection as model
use Rattle.si_model.specs.Collection.{FirstPass, SecondPass, place_at}
use Rattle.si_model.specs.declared.replies.CollectReply.{CollectReply}
use Rattle.version_collector.specs.Visits.{AreVisits, GoesOn, IsVisit, ends, erases_data, erases_deletion, erases_records, none, pass_of, passes, position_of, read_from, read_in, stops, then, tidies, turns}
use Rattle.version_collector.specs.declared.collector.Collector.{Collector}
use Rattle.version_collector.specs.declared.collector.Pass.{Pass}
use Rattle.version_collector.specs.declared.collector.Pass.TheVariants.{First, Second}

one_pass : (p q : Pass) → pass_of p ≡ pass_of q → p ≡ q
one_pass First First e = refl
one_pass First Second e = cc
one_pass Second First e = cc
one_pass Second Second e = refl

is_first : (p : Pass) → pass_of p ≡ FirstPass → p ≡ Second → ⊥
is_first First e f = cc
is_first Second e f = cc

is_second : (p : Pass) → pass_of p ≡ SecondPass → p ≡ Second
is_second First e = cc
is_second Second e = refl

-- a visit keeps its pass, and keeps its position or moves it forward; or the second pass begins before all cells
abbrev Moves : model.Pass → Option Place → model.Pass → Option Place → Type 0
Moves p after p' after' =
    ((p' ≡ p) × ((row : List ℕ) → IsRowFrom after' row → IsRowFrom after row))
    ⊎ ((p ≡ FirstPass) × (p' ≡ SecondPass) × (after' ≡ None))

moves : (cells : Cells) (floor : ℕ) (p : model.Pass) (after : Option Place) (reply : CollectReply) (cells' : Cells) (p' : model.Pass) (after' : Option Place) → IsVisit cells floor p after reply cells' p' after' → Moves p after p' after'
moves cells floor p after reply cells' p' after' (stops next there low) = inl (refl, λ row from. from)
moves cells floor p after reply cells' p' after' (passes {after = at} {x = x} next clear) = inl (refl, from_later at (place_at x) next.0)
moves cells floor p after reply cells' p' after' (turns next) = inr (refl, refl, refl)
moves cells floor p after reply cells' p' after' (erases_records next old some) = inl (refl, λ row from. from)
moves cells floor p after reply cells' p' after' (erases_data next unnamed some) = inl (refl, λ row from. from)
moves cells floor p after reply cells' p' after' (erases_deletion next lone) = inl (refl, λ row from. from)
moves cells floor p after reply cells' p' after' (tidies {after = at} {x = x} next tidy) = inl (refl, from_later at (place_at x) next.0)
moves cells floor p after reply cells' p' after' (ends next) = inl (refl, λ row from. from)

-- d is c after visits: a second pass is kept, and the rows from its position on are among the rows read
pub record IsLater (c d : Collector) : Type 0 where
  pub forward : c.pass ≡ Second → d.pass ≡ Second
  pub rows : (row : List ℕ) → IsRowFrom (position_of d.after) row → IsRowFrom (read_from c d) row

itself : (p : Pass) (after : Option Place) (row : List ℕ) → IsRowFrom after row → IsRowFrom (read_in p p after) row
itself First after row from = from
itself Second after row from = from

second_row : (p : Pass) (after : Option Place) (row : List ℕ) → (p ≡ Second → ⊥) → IsRowFrom (read_in p Second after) row
second_row First after row not = tt
second_row Second after row not = absurd (not refl)

later_by : (c d e : Collector) → Moves (pass_of d.pass) (position_of d.after) (pass_of e.pass) (position_of e.after) → IsLater c d → IsLater c e
later_by c d e (inl (same, back)) before =
    let pass : e.pass ≡ d.pass = one_pass e.pass d.pass same in
    record {
      forward = λ is. pass ∙ before.forward is;
      rows = λ row from. subst (λ (p : Pass). IsRowFrom (read_in c.pass p (position_of c.after)) row) (sym pass) (before.rows row (back row from));
    }
later_by c d e (inr (first, second, start)) before =
    let pass : e.pass ≡ Second = is_second e.pass second in
    record {
      forward = λ is. pass;
      rows = λ row from. subst (λ (p : Pass). IsRowFrom (read_in c.pass p (position_of c.after)) row) (sym pass)
          (second_row c.pass (position_of c.after) row (λ is. is_first d.pass first (before.forward is)));
    }

pub visits_later : (cells : Cells) (c : Collector) (k : ℕ) (cells' : Cells) (d : Collector) → AreVisits cells c k cells' d → IsLater c d
visits_later cells c k cells' d none = record { forward = λ is. is; rows = λ row from. itself c.pass (position_of c.after) row from }
visits_later cells c k cells' d (then {k = j} {mid = mid} {d = b} before last) =
    later_by c b d (moves mid b.floor (pass_of b.pass) (position_of b.after) _ cells' (pass_of d.pass) (position_of d.after) last.visit) (visits_later cells c j mid b before)

module _ {R : Type 0} (seen : View R) where
  earlier : (rows : R) (p q q' : Pass) (after : Option Place) → q' ≡ Second → AreReadableFrom seen rows (read_in p q' after) → AreReadableFrom seen rows (read_in p q after)
  earlier rows First q q' after is readable =
      let each : AreReadableFrom seen rows None = subst (λ (r : Pass). AreReadableFrom seen rows (read_in First r after)) is readable in
      λ row from. each row tt
  earlier rows Second q q' after is readable = readable

  -- an earlier visit also needs the rows to be readable that a later one needs
  pub from_earlier : (rows : R) (c d e : Collector) → GoesOn d e → AreReadableFrom seen rows (read_from c e) → AreReadableFrom seen rows (read_from c d)
  from_earlier rows c d e (inl same) readable = subst (λ (p : Pass). AreReadableFrom seen rows (read_in c.pass p (position_of c.after))) same readable
  from_earlier rows c d e (inr second) readable = earlier rows c.pass d.pass e.pass (position_of c.after) second readable

  -- after visits, the rows that the next one reads are still readable
  pub readable_now : {cells : Cells} {c : Collector} {k : ℕ} {cells' : Cells} {d : Collector} (old now : R) → KeepsBelow seen old now → AreVisits cells c k cells' d → AreReadableFrom seen old (read_from c d) → AreReadableFrom seen now (position_of d.after)
  readable_now {cells} {c} {k} {cells'} {d} old now keeps visits readable = λ row from. keeps.readable row (readable row ((visits_later cells c k cells' d visits).rows row from))
