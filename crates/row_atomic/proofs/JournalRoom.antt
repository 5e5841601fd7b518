-- Edits that fit a journal fit an empty memtable.
use Rattle.std.proofs.Common.{◌≡◌, ◌≤◌, ◌+◌, ℕ, zero, suc, Bool, true, false, List, [], ◌∷◌, length, Option, Some, refl, ap, subst, arith}
use Rattle.std.proofs.lemmas.List.{length-append}
use Rattle.std.specs.List.{AllByRecursion}
use Rattle.std.specs.declared.cmp.Ordering.{Ordering}
use Rattle.std.specs.declared.cmp.Ordering.TheVariants.{Less, Equal, Greater}
use Rattle.std.specs.FinMap.Entries.{put}
use Rattle.cell_key.specs.Cells.{edited_key}
use Rattle.cell_key.specs.Entries.{Entry, entry_len, field, spelled_value}
use Rattle.cell_key.specs.Keys.{byte_cmp}
use Rattle.cell_key.specs.declared.edits.Edit.{Edit}
use Rattle.cell_key.specs.declared.edits.Edit.TheVariants.{Put, Erase}
use Rattle.commit_log.specs.Edits.{spelled_entries, spelled_entry}
use Rattle.memtable.specs.Edits.{bytes_of, edit_entry, with_edit, with_edits}
use Rattle.tablet.specs.Ranges.{has_row}
use Rattle.tablet.specs.Views.{memory_of, range_of}
use Rattle.tablet.specs.declared.ranges.RowRange.{RowRange}
use Rattle.tablet.specs.declared.tablet.Tablet.{Tablet}
use Rattle.row_atomic.specs.Changes.{IsEmptied}
use Rattle.row_atomic.specs.Clusters.{ClusterState, Overfills, edits_in, tablet_numbered}
use Rattle.row_atomic.specs.Journals.{HasRoomFor, JournalView}
use Rattle.row_atomic.proofs.Shares.{each_at}

-- an entry that replaces another has at most the bytes of both
in_place : (name : List ℕ) (v : Option (List ℕ)) (e : Entry) → entry_len (e.0, v) ≤ entry_len e + entry_len (name, v)
in_place name v e =
    let here = length-append (field e.0) (spelled_value v) in
    let there = length-append (field e.0) (spelled_value e.1) in
    let new = length-append (field name) (spelled_value v) in
    omega (arith, here, there, new)

more_entries : (name : List ℕ) (v : Option (List ℕ)) (es : List Entry) → length (put byte_cmp name v es) ≤ length es + 1
more_entries name v [] = omega arith
more_entries name v (e ∷ es) = go (more_entries name v es) (byte_cmp name e.0) refl
  where
    go : length (put byte_cmp name v es) ≤ length es + 1 → (o : Ordering) → byte_cmp name e.0 ≡ o → length (put byte_cmp name v (e ∷ es)) ≤ length (e ∷ es) + 1
    go h Less p = rw p (omega arith)
    go h Equal p = rw p (omega arith)
    go h Greater p = rw p (omega (arith, h))

more_bytes : (name : List ℕ) (v : Option (List ℕ)) (es : List Entry) → bytes_of (put byte_cmp name v es) ≤ bytes_of es + entry_len (name, v)
more_bytes name v [] = omega arith
more_bytes name v (e ∷ es) = go (more_bytes name v es) (byte_cmp name e.0) refl
  where
    go : bytes_of (put byte_cmp name v es) ≤ bytes_of es + entry_len (name, v) → (o : Ordering) → byte_cmp name e.0 ≡ o → bytes_of (put byte_cmp name v (e ∷ es)) ≤ bytes_of (e ∷ es) + entry_len (name, v)
    go h Less p = rw p (omega arith)
    go h Equal p = let one = in_place name v e in rw p (omega (arith, one))
    go h Greater p = rw p (omega (arith, h))

-- the length of an edit's entry in a memtable
as_long : (edit : Edit) → entry_len (edit_entry edit) ≡ length (spelled_entry edit)
as_long (Put key value) = refl
as_long (Erase key) = refl

one_more : (es : List Entry) (edit : Edit) → (length (with_edit es edit) ≤ length es + 1) × (bytes_of (with_edit es edit) ≤ bytes_of es + length (spelled_entry edit))
one_more es edit =
    let long = as_long edit in
    let bytes = more_bytes (edit_entry edit).0 (edit_entry edit).1 es in
    (more_entries (edit_entry edit).0 (edit_entry edit).1 es, subst (λ (n : ℕ). bytes_of (with_edit es edit) ≤ bytes_of es + n) long bytes)

pub many_more : (es : List Entry) (edits : List Edit) → (length (with_edits es edits) ≤ length es + length edits) × (bytes_of (with_edits es edits) ≤ bytes_of es + length (spelled_entries edits))
many_more es [] = (omega arith, omega arith)
many_more es (edit ∷ edits) =
    let one = one_more es edit in
    let rest = many_more (with_edit es edit) edits in
    let long = length-append (spelled_entry edit) (spelled_entries edits) in
    let entries = rest.0 in
    let bytes = rest.1 in
    let entry = one.0 in
    let byte = one.1 in
    (omega (arith, entries, entry), omega (arith, bytes, byte, long))

-- a range's edits are no more than all
fewer : (range : RowRange) (edits : List Edit) → (length (edits_in range edits) ≤ length edits) × (length (spelled_entries (edits_in range edits)) ≤ length (spelled_entries edits))
fewer range [] = (omega arith, omega arith)
fewer range (edit ∷ edits) = go (has_row range (edited_key edit).row) refl (fewer range edits)
  where
    go : (b : Bool) → has_row range (edited_key edit).row ≡ b → (length (edits_in range edits) ≤ length edits) × (length (spelled_entries (edits_in range edits)) ≤ length (spelled_entries edits))
        → (length (edits_in range (edit ∷ edits)) ≤ length (edit ∷ edits)) × (length (spelled_entries (edits_in range (edit ∷ edits))) ≤ length (spelled_entries (edit ∷ edits)))
    go true is rest =
        let here = length-append (spelled_entry edit) (spelled_entries (edits_in range edits)) in
        let all = length-append (spelled_entry edit) (spelled_entries edits) in
        let count = rest.0 in
        let bytes = rest.1 in
        rw is (omega (arith, count), omega (arith, bytes, here, all))
    go false is rest =
        let all = length-append (spelled_entry edit) (spelled_entries edits) in
        let count = rest.0 in
        let bytes = rest.1 in
        rw is (omega (arith, count), omega (arith, bytes, all))

such : (P : Tablet → Type 0) (ts : List Tablet) (n : ℕ) (t : Tablet) → AllByRecursion P ts → tablet_numbered n ts ≡ Some t → P t
such P ts zero t all is = cc
such P ts (suc i) t all is = each_at P ts all i t is

-- if all memtables are empty, a journal has no room for edits that would overfill one
pub empty_fits : {F : Type 0} (state : ClusterState F) (journal : JournalView) → AllByRecursion IsEmptied state.tablets → (row : List ℕ) (edits : List Edit) → Overfills state.places state.tablets row edits → ¬ HasRoomFor journal edits
empty_fits state journal emptied row edits full room =
    let empty = such IsEmptied state.tablets full.place.tablet full.tablet emptied full.numbered in
    let most = many_more (memory_of full.tablet) (edits_in (range_of full.tablet) edits) in
    let few = fewer (range_of full.tablet) edits in
    let none : length (memory_of full.tablet) ≡ 0 = ap (λ (es : List Entry). length es) empty in
    let no_bytes : bytes_of (memory_of full.tablet) ≡ 0 = ap bytes_of empty in
    let m0 = most.0 in
    let m1 = most.1 in
    let f0 = few.0 in
    let f1 = few.1 in
    let r0 = room.edits in
    let r1 = room.bytes in
    full.over (record { entries = omega (arith, none, m0, f0, r0); bytes = omega (arith, no_bytes, m1, f1, r1) })
