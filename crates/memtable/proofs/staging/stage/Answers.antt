use Rattle.std.proofs.Common.{◌≡◌, ◌∷◌, List, sym, ap, subst, ◌∙◌, arith}
use Rattle.std.specs.List.{AllByRecursion}
use Rattle.std.specs.Vec.Iter.{into_iter_items}
use Rattle.std.specs.Cmp.Lexicographic.{nat_list_cmp_total}
use Rattle.std.specs.FinMap.Entries.{put, is_sorted-put}
use Rattle.std.proofs.Common.{length}
use Rattle.cell_key.specs.Keys.{byte_cmp}
use Rattle.cell_key.specs.Entries.{Entry, IsRising, IsEntry}
use Rattle.cell_key.specs.declared.edits.Edit.{Edit}
use Rattle.memtable.specs.Slots.{slot_entry, slot_entries, over}
use Rattle.memtable.specs.Edits.{with_edit, with_edits, HasStoredKey, IsLimited}
use Rattle.memtable.proofs.EntryLists.{over-put, each-put}
use Rattle.memtable.proofs.staging.stage.Goals as goal

pub loop-edit-preserved : goal.loop-edit-preserved
loop-edit-preserved c =
    let staged = slot_entries c.loop-edit.staged.items in
    let entry = slot_entry c.in_ok-slot.slot.value in
    let rest = into_iter_items c.next.new.self in
    let first = c.in-Some.ensures.steps.0 in
    let made = c.put.ensures.entries in
    let all : AllByRecursion IsLimited (c.in-Some.edit ∷ rest) = subst (λ (es : List Edit). AllByRecursion IsLimited es) first c.loop-edit.invariant.edits in
    let len = ap length first in
    record {
      rising = subst (λ (es : List Entry). IsRising es) (sym made) (is_sorted-put byte_cmp nat_list_cmp_total entry.0 entry.1 staged c.loop-edit.invariant.rising);
      edited = λ (table : List Entry) (r : IsRising table).
          let upper : over (slot_entries c.put.new.slots.items) table ≡ put byte_cmp entry.0 entry.1 (over staged table) = ap (λ (es : List Entry). over es table) made ∙ over-put entry.0 entry.1 staged table r in
          let edited : over (slot_entries c.put.new.slots.items) table ≡ with_edit (over staged table) c.in-Some.edit = upper ∙ ap (λ (e : Entry). put byte_cmp e.0 e.1 (over staged table)) c.in_ok-slot.ensures.entry in
          ap (λ (es : List Entry). with_edits es rest) edited ∙ ap (with_edits (over staged table)) (sym first) ∙ c.loop-edit.invariant.edited table r;
      limits = subst (λ (es : List Entry). AllByRecursion IsEntry es) (sym made) (each-put entry.0 entry.1 staged c.in_ok-slot.ensures.limits c.loop-edit.invariant.limits);
      room = let a = c.loop-edit.invariant.room in let b = c.put.ensures.grows.0 in let d = c.put.ensures.grows.1 in omega (arith, len);
      edits = all.1;
      keys = λ (left : AllByRecursion HasStoredKey rest). c.loop-edit.invariant.keys (subst (λ (es : List Edit). AllByRecursion HasStoredKey es) (sym first) (c.in_ok-slot.ensures.key, left));
    }
