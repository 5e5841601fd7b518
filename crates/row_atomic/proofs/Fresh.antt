-- A new cluster.
use Rattle.std.proofs.Common.{◌≡◌, ◌<◌, ℕ, List, [], ◌∷◌, ◌++◌, map, length, Option, Some, None, IsSome, refl, sym, ap, ◌∙◌, subst, arith, lit≤}
use Rattle.std.specs.List.{AllByRecursion}
use Rattle.std.specs.FinMap.{empty, entries, from_entries, len-empty, len-entries}
use Rattle.cell_key.specs.Keys.{byte_cmp, key_cmp}
use Rattle.cell_key.specs.Cells.{Cells}
use Rattle.cell_key.specs.Entries.{Entry, IsEntryList, cells_of, merged}
use Rattle.file_store.specs.Store.{Contents}
use Rattle.metadata_table.specs.Table.{first_place}
use Rattle.sorted_file.specs.File.{IsOpen, listed, name_of}
use Rattle.tablet.specs.Ranges.{seen}
use Rattle.tablet.specs.Views.{Holds, IsBelow, range_of, memory_of, files_of, lists_of, view_of, cells_at}
use Rattle.tablet.specs.declared.tablet.Tablet.{Tablet}
use Rattle.sorted_file.specs.Limits.{IsFileLimit}
use Rattle.row_atomic.specs.Clusters.{InOrder, IsMatched, cells_in, joined}
use Rattle.row_atomic.proofs.FileNames.{no_files}

nil_of_length : {A : Type 0} (xs : List A) → length xs ≡ 0 → xs ≡ []
nil_of_length [] e = refl
nil_of_length (x ∷ xs) e = absurd (omega arith)

no_entries : entries (empty {K = List ℕ} {X = Option (List ℕ)} {R = byte_cmp}) ≡ []
no_entries = nil_of_length (entries (empty {K = List ℕ} {X = Option (List ℕ)} {R = byte_cmp})) (sym (len-entries (empty {K = List ℕ} {X = Option (List ℕ)} {R = byte_cmp})) ∙ len-empty byte_cmp (Option (List ℕ)))

no_cells : entries (empty {X = List ℕ} {R = key_cmp}) ≡ []
no_cells = nil_of_length (entries (empty {X = List ℕ} {R = key_cmp})) (sym (len-entries (empty {X = List ℕ} {R = key_cmp})) ∙ len-empty key_cmp (List ℕ))

module _ (t : Tablet) (memory : memory_of t ≡ []) (files : files_of t ≡ []) where
  lists : (m : Contents) → lists_of m t ≡ [] ∷ []
  lists m = ap (λ (es : List Entry). es ∷ map (listed m) (files_of t)) memory ∙ ap (λ fs. [] ∷ map (listed m) fs) files

  view : (m : Contents) → view_of m t ≡ []
  view m = ap (λ ls. merged (map (seen (range_of t)) ls)) (lists m) ∙ no_entries

  cells : (m : Contents) → cells_at m t ≡ empty
  cells m = ap cells_of (view m)

  pub new_cells : (o : Option Contents) → cells_in o (t ∷ []) ≡ empty
  new_cells None = refl
  new_cells (Some m) = ap (λ (c : Cells). joined (c ∷ [])) (cells m) ∙ ap (λ es. from_entries (es ++ [])) no_cells

  holds : (m : Contents) → Holds m t
  holds m = record { memory = subst IsEntryList (sym memory) (record { rising = tt; each = tt }); files = subst (λ fs. AllByRecursion (IsOpen m) fs) (sym files) tt }

  below : (next : ℕ) → IsBelow next t
  below next = subst (λ fs. AllByRecursion (λ name. name < next) (map name_of fs)) (sym files) tt

  pub new_in_order : (o : Option Contents) (next : ℕ) → IsSome o → InOrder o next (t ∷ [])
  new_in_order None next h = cc
  new_in_order (Some m) next h = record { contents = m; on_disk = refl; each_open = (holds m, tt); each_below = (below next, tt) }

  pub new_matched : (limit : ℕ) → IsFileLimit limit → range_of t ≡ record { after = None; end = None } → IsMatched limit 1 (first_place ∷ []) (t ∷ [])
  new_matched limit fits range = record {
    limit = fits;
    named_from = omega arith;
    named_to = lit≤ tt;
    placed = (record { tablet = t; numbered = refl; range = range; names = ap (map name_of) files }, tt);
    as_many = refl;
    files = (no_files 1, tt);
  }
