-- Tablets that are out of order, before and after a flush.
use Rattle.std.proofs.Common.{◌≡◌, ◌<◌, ◌≤◌, ℕ, zero, suc, List, Option, Some, None, subst}
use Rattle.file_store.specs.Store.{Contents}
use Rattle.metadata_table.specs.Places.{PlaceView}
use Rattle.metadata_table.specs.Roots.{AreFiles}
use Rattle.metadata_table.specs.Table.{IsHolder, with_files}
use Rattle.tablet.specs.Views.{IsBelow, Keeps, names_of}
use Rattle.tablet.specs.declared.tablet.Tablet.{Tablet}
use Rattle.row_atomic.specs.Clusters.{InOrder, tablet_numbered}
use Rattle.row_atomic.specs.Changes.{IsOutOfOrder, Numbered, OfHolder, Remakes, StaysInOrder}
use Rattle.row_atomic.proofs.LeftTablets.{number_is, same_numbered}
use Rattle.row_atomic.proofs.RowAnswers.{undamaged}
use Rattle.row_atomic.proofs.Shares.{each_map}

-- none of the tablets in order is out of order
pub none_out : (o : Option Contents) (next n : ℕ) (ts : List Tablet) → InOrder o next ts → ¬ Numbered (IsOutOfOrder o) n ts
none_out o next zero ts order out = not_numbered out.tablet out.numbered
  where
    not_numbered : (t : Tablet) → None ≡ Some t → ⊥
    not_numbered t e = cc
none_out o next (suc i) ts order out = undamaged o next ts order i out.tablet (Unit {0}) out.numbered (λ _. out.such) tt

-- the names of a tablet's files are below the next one
pub named_below : (next : ℕ) (t : Tablet) → AreFiles next (names_of t) → IsBelow next t
named_below next t files = each_map (λ (name : ℕ). (1 ≤ name) × (name < next)) (λ (name : ℕ). name < next) (λ name h. h.1) (names_of t) files.named

-- a call that keeps a tablet in order never puts it out of order
pub stays_ordered : (old new : Option Contents) (before after : ℕ) (t u : Tablet) → Keeps old before t new after u → IsBelow before t → StaysInOrder old new t u
stays_ordered None new before after t u keeps below out = tt
stays_ordered (Some m) None before after t u keeps below out = λ holds. keeps holds below
stays_ordered (Some m) (Some n) before after t u keeps below out = λ holds. out (keeps holds below).0

-- a tablet that is out of order after it was remade was so before
pub out_before : (old new : Option Contents) (n : ℕ) (ts us : List Tablet) → Remakes (StaysInOrder old new) n ts us → Numbered (IsOutOfOrder new) n us → Numbered (IsOutOfOrder old) n ts
out_before old new n ts us made out = record {
  tablet = made.was;
  numbered = made.was_numbered;
  such = made.made (subst (IsOutOfOrder new) (same_numbered (tablet_numbered n us) out.tablet made.is out.numbered made.is_numbered) out.such);
}

-- so was the tablet that holds a row, whose place lists other files since
pub holder_out_before : (old new : Option Contents) (row : List ℕ) (places places' : List PlaceView) (ts us : List Tablet) (p : PlaceView) → IsHolder row places p → Numbered (λ t. places' ≡ with_files p.tablet (names_of t) places) p.tablet us
    → Remakes (StaysInOrder old new) p.tablet ts us → OfHolder (IsOutOfOrder new) row places' us → OfHolder (IsOutOfOrder old) row places ts
holder_out_before old new row places places' ts us p holder listed made out = record {
  place = p;
  holder = holder;
  tablet = out_before old new p.tablet ts us made (subst (λ (n : ℕ). Numbered (IsOutOfOrder new) n us) (number_is row places places' us p holder listed out.place out.holder) out.tablet);
}
