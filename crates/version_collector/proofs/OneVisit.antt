-- One visit, by the result of its reads.
use Rattle.std.proofs.Common.{◌≡◌, ℕ, List, [], ◌∷◌, Some, None, inl, inr, refl, sym, ap, subst, ◌∙◌}
use Rattle.std.specs.FinMap.{remove}
use Rattle.cell_key.specs.Cells.{Cells, after_edits}
use Rattle.cell_key.specs.Places.{IsNextCell}
use Rattle.cell_key.specs.declared.edits.Edit.{Edit}
use Rattle.cell_key.specs.declared.keys.Qualifier.TheVariants.{Data, Write}
use Rattle.si_model.specs.Collection.{IsTidy, SecondPass, collected_cells, dropped_cells, forgotten_cells, place_at}
use Rattle.si_model.specs.ShowsCells.{key_of}
use Rattle.si_model.specs.declared.replies.Cell.{Cell}
use Rattle.si_model.specs.declared.replies.CollectReply.TheVariants.{More, Blocked, Collected}
use Rattle.version_collector.specs.Erasing.{CollectsCell, data_erasures, record_erasures}
use Rattle.version_collector.specs.Locks.{IsLowLock}
use Rattle.version_collector.specs.Versions.{AreShown, IsTidyFrom}
use Rattle.version_collector.specs.Visits.{HasProgress, IsProgress, IsVisit, Visits, ends, erases_data, erases_deletion, erases_records, passes, pass_of, position_of, stops, tidies, turns}
use Rattle.version_collector.specs.declared.collector.Collector.{Collector}
use Rattle.version_collector.specs.declared.collector.Pass.{Pass}
use Rattle.version_collector.specs.declared.collector.Pass.TheVariants.{First, Second}
use Rattle.version_collector.specs.declared.erasing.CellProgress.{CellProgress}

module _ (cells : Cells) (c : Collector) where
  -- no next cell
  pub turn_first : c.pass ≡ First → IsNextCell cells (position_of c.after) None → Visits cells c More cells (record { floor = c.floor; pass = Second; after = None; within = None })
  turn_first is next = record {
    floor = refl;
    progress = tt;
    visit = subst (λ (p : Pass). IsVisit cells c.floor (pass_of p) (position_of c.after) More cells SecondPass None) (sym is) (turns next);
  }

  pub turn_second : c.pass ≡ Second → IsNextCell cells (position_of c.after) None → HasProgress cells c → Visits cells c Collected cells c
  turn_second is next right = record {
    floor = refl;
    progress = right;
    visit = subst (λ (p : Pass). IsVisit cells c.floor (pass_of p) (position_of c.after) Collected cells (pass_of p) (position_of c.after)) (sym is) (ends next);
  }

  -- the next cell in the first pass
  module _ (x : Cell) (is : c.pass ≡ First) (right : HasProgress cells c) (next : IsNextCell cells (position_of c.after) (Some (place_at x))) where
    pub look_blocked : (t : ℕ) → IsLowLock cells x c.floor (Some t) → Visits cells c (Blocked x t) cells c
    look_blocked t low = record {
      floor = refl;
      progress = right;
      visit = subst (λ (p : Pass). IsVisit cells c.floor (pass_of p) (position_of c.after) (Blocked x t) cells (pass_of p) (position_of c.after)) (sym is) (stops next low.0 low.1);
    }

    pub look_past : IsLowLock cells x c.floor None → Visits cells c More cells (record { floor = c.floor; pass = c.pass; after = Some x; within = c.within })
    look_past none = record {
      floor = refl;
      progress = right;
      visit = subst (λ (p : Pass). IsVisit cells c.floor (pass_of p) (position_of c.after) More cells (pass_of p) (Some (place_at x))) (sym is) (passes next none);
    }

  -- and in the second
  module _ (x : Cell) (is : c.pass ≡ Second) (next : IsNextCell cells (position_of c.after) (Some (place_at x))) where
    pub collect_past : IsTidy cells x c.floor → Visits cells c More cells (record { floor = c.floor; pass = c.pass; after = Some x; within = None })
    collect_past tidy = record {
      floor = refl;
      progress = tt;
      visit = subst (λ (p : Pass). IsVisit cells c.floor (pass_of p) (position_of c.after) More cells (pass_of p) (Some (place_at x))) (sym is) (tidies next tidy);
    }

    -- versions of the cell are erased, and the progress in it is right
    module _ (progress : CellProgress) where
      abbrev after_erasure : Collector
      after_erasure = record { floor = c.floor; pass = c.pass; after = c.after; within = Some progress }

      collect_by : (cells' : Cells) → IsTidyFrom cells' progress.cell c.floor progress.tidy → IsVisit cells c.floor SecondPass (position_of c.after) More cells' SecondPass (position_of c.after) → Visits cells c More cells' after_erasure
      collect_by cells' tidy visit = record {
        floor = refl;
        progress = subst (IsProgress cells' c.floor (Some progress)) (sym is) tidy;
        visit = subst (λ (p : Pass). IsVisit cells c.floor (pass_of p) (position_of c.after) More cells' (pass_of p) (position_of c.after)) (sym is) visit;
      }

      pub collect_erased : (Holds : Type 0) (row : List ℕ) (edits : List Edit) (cells' : Cells) → Holds → AreShown cells → CollectsCell Holds cells x c.floor row edits → cells' ≡ after_edits cells edits
          → IsTidyFrom cells' progress.cell c.floor progress.tidy → Visits cells c More cells' after_erasure
      collect_erased Holds row edits cells' held shown (under, inl r) made tidy =
          let are : cells' ≡ collected_cells cells x r.vs = made ∙ (ap (after_edits cells) r.are ∙ after_records r.vs cells) in
          collect_by cells' tidy (subst (λ (m : Cells). IsVisit cells c.floor SecondPass (position_of c.after) More m SecondPass (position_of c.after)) (sym are) (erases_records next (r.old held shown) r.some))
        where
          after_records : (vs : List (ℕ × ℕ)) (cs : Cells) → after_edits cs (record_erasures x vs) ≡ collected_cells cs x vs
          after_records [] cs = refl
          after_records (v ∷ vs) cs = after_records vs (remove (remove cs (key_of x Write v.0)) (key_of x Data v.1))
      collect_erased Holds row edits cells' held shown (under, inr (inl r)) made tidy =
          let are : cells' ≡ dropped_cells cells x r.ts = made ∙ (ap (after_edits cells) r.are ∙ after_data r.ts cells) in
          collect_by cells' tidy (subst (λ (m : Cells). IsVisit cells c.floor SecondPass (position_of c.after) More m SecondPass (position_of c.after)) (sym are) (erases_data next (r.unnamed held shown) r.some))
        where
          after_data : (ts : List ℕ) (cs : Cells) → after_edits cs (data_erasures x ts) ≡ dropped_cells cs x ts
          after_data [] cs = refl
          after_data (t ∷ ts) cs = after_data ts (remove cs (key_of x Data t))
      collect_erased Holds row edits cells' held shown (under, inr (inr r)) made tidy =
          let are : cells' ≡ forgotten_cells cells x r.c = made ∙ ap (after_edits cells) r.are in
          collect_by cells' tidy (subst (λ (m : Cells). IsVisit cells c.floor SecondPass (position_of c.after) More m SecondPass (position_of c.after)) (sym are) (erases_deletion next (r.lone held shown)))
