use Rattle.std.proofs.Common.{◌≡◌, ℕ, ◌-◌, List, ◌++◌, length, drop, Option, Some, None, sym, ap, ◌∙◌}
use Rattle.std.specs.Borrow.{Bor}
use Rattle.std.specs.Option.{option_copied}
use Rattle.cell_key.specs.Entries.{Entry, spelled}
use Rattle.sorted_file.proofs.Seams.{behind_front, text_part, value_part}
use Rattle.sorted_file.proofs.block.entry_extent.Goals as goal

-- the entry found is at the extents, and the rest behind it
at_place : (bytes after : List ℕ) (at end : ℕ) (found placed : Entry) → drop at bytes ≡ spelled found ++ after → drop end bytes ≡ after → placed ≡ found → drop at bytes ≡ spelled placed ++ drop end bytes
at_place bytes after at end found placed e behind same =
    e ∙ ap (λ (b : Entry). spelled b ++ after) (sym same) ∙ ap (λ (l : List ℕ). spelled placed ++ l) (sym behind)

pub returns-in-Some-clause-found : goal.returns-in-Some-clause-found
returns-in-Some-clause-found c =
    let bytes = c.args.bytes.now in
    let after = c.in_ok-entry.after.now in
    let key = c.in_ok-entry.entry.key.now in
    let value = c.in-Some.value.now in
    let found : drop c.args.at bytes ≡ spelled (key, Some value) ++ after =
    sym c.split_at.ensures.back ∙ c.in_ok-entry.ensures.found ∙ ap (λ (o : Option (Bor (List ℕ))). spelled (key, option_copied o) ++ after) c.in-Some.is in
    let text = text_part bytes key after c.args.at c.requires (Some value) found in
    let worth = value_part bytes key after c.args.at c.requires value found in
    at_place bytes after c.args.at (length bytes - length after) (key, Some value) _ found (behind_front bytes key after c.args.at c.requires (spelled (key, Some value)) found) (λ i. (text i, Some (worth i)))

pub returns-in-None-clause-found : goal.returns-in-None-clause-found
returns-in-None-clause-found c =
    let bytes = c.args.bytes.now in
    let after = c.in_ok-entry.after.now in
    let key = c.in_ok-entry.entry.key.now in
    let found : drop c.args.at bytes ≡ spelled (key, None) ++ after =
    sym c.split_at.ensures.back ∙ c.in_ok-entry.ensures.found ∙ ap (λ (o : Option (Bor (List ℕ))). spelled (key, option_copied o) ++ after) c.in-None.is in
    let text = text_part bytes key after c.args.at c.requires None found in
    at_place bytes after c.args.at (length bytes - length after) (key, None) _ found (behind_front bytes key after c.args.at c.requires (spelled (key, None)) found) (λ i. (text i, None))
