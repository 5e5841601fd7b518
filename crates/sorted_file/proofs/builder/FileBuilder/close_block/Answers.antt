use Rattle.std.proofs.Common.{◌≡◌, ◌++◌, ◌∷◌, [], ℕ, List, length, sym, ap, subst, ◌∙◌, arith, append_assoc}
use Rattle.cell_key.specs.Entries.{Entry, IsRising}
use Rattle.sorted_file.specs.Block.{entries_of, IsParsed}
use Rattle.sorted_file.specs.Check.{IsFollowed}
use Rattle.sorted_file.specs.Columns.{AreColumnsOf}
use Rattle.sorted_file.specs.Grammar.{block_bytes, Fits}
use Rattle.sorted_file.specs.Index.{blocks_of, entries_in}
use Rattle.sorted_file.specs.declared.gathering.GatheredBlock.{GatheredBlock}
use Rattle.sorted_file.proofs.BuiltFiles.{closed_built, closed_bytes}
use Rattle.sorted_file.proofs.Results.{on_both, on_ok}
use Rattle.sorted_file.proofs.builder.FileBuilder.close_block.Goals as goal

pub add-requires-clause-followed : goal.add-requires-clause-followed
add-requires-clause-followed c = subst (λ (g : GatheredBlock). IsFollowed (blocks_of c.args.self.now.opening.rows.items) (entries_of g.block)) (sym c.replace-closed.ensures.value) c.requires.followed

pub add-requires-clause-rising : goal.add-requires-clause-rising
add-requires-clause-rising c = subst (λ (g : GatheredBlock). IsRising (entries_in (blocks_of c.args.self.now.opening.rows.items) ++ entries_of g.block)) (sym c.replace-closed.ensures.value) c.requires.sound.rising

pub add-requires-clause-parsed : goal.add-requires-clause-parsed
add-requires-clause-parsed c = subst (λ (g : GatheredBlock). IsParsed (entries_of g.block) g.block) (sym c.replace-closed.ensures.value) c.requires.sound.parsed

pub add-requires-clause-columns : goal.add-requires-clause-columns
add-requires-clause-columns c = subst (λ (g : GatheredBlock). AreColumnsOf g.columns (entries_of g.block)) (sym c.replace-closed.ensures.value) c.requires.sound.columns

pub add-requires-clause-fits : goal.add-requires-clause-fits
add-requires-clause-fits c = subst (λ (g : GatheredBlock). Fits (entries_of g.block)) (sym c.replace-closed.ensures.value) c.requires.fits

pub returns-clause-sound : goal.returns-clause-sound
returns-clause-sound c = on_ok c.add.result _ _ (λ added.
    let s = c.requires.sound in
    let was = c.replace-closed.ensures.value in
    let next = c.replace-closed.ensures.after in
    let blocks = blocks_of c.args.self.now.opening.rows.items in
    let es = entries_of c.args.self.now.current.block in
    let none : entries_of c.replace-closed.new.dest.block ≡ [] = ap (λ (g : GatheredBlock). entries_of g.block) next ∙ c.in_ok-next.ensures.none in
    let rows : blocks_of c.add.new.self.rows.items ≡ blocks ++ es ∷ [] = added.1 ∙ ap (λ (g : GatheredBlock). blocks ++ entries_of g.block ∷ []) was in
    let parsed = subst (λ (g : GatheredBlock). IsParsed (entries_of g.block) g.block) (sym next) (subst (λ (l : List Entry). IsParsed l c.in_ok-next.next.block) (sym c.in_ok-next.ensures.none) c.in_ok-next.ensures.parsed) in
    let empty = ap length (parsed.bytes ∙ ap block_bytes none) in
    let within = added.0.within in
    record {
      opening = added.0;
      format = c.add.ensures.format ∙ s.format;
      parsed = parsed;
      columns = subst (λ (g : GatheredBlock). AreColumnsOf g.columns (entries_of g.block)) (sym next) (subst (λ (l : List Entry). AreColumnsOf c.in_ok-next.next.columns l) (sym c.in_ok-next.ensures.none) c.in_ok-next.ensures.columns);
      rising = subst (λ (l : List Entry). IsRising l) (sym (closed_built blocks _ es _ rows none)) s.rising;
      within = omega (arith, within, empty);
    }) (on_both c.add.result _ _ c.add.ensures.opening c.add.ensures.rows)

pub returns-clause-closed : goal.returns-clause-closed
returns-clause-closed c = on_ok c.add.result _ _ (λ added front before.
    let s = c.requires.sound in
    let was = c.replace-closed.ensures.value in
    let blocks = blocks_of c.args.self.now.opening.rows.items in
    let es = entries_of c.args.self.now.current.block in
    let old = c.args.self.now.out.items in
    let bytes = c.args.self.now.current.block.bytes.items in
    let rows : blocks_of c.add.new.self.rows.items ≡ blocks ++ es ∷ [] = added ∙ ap (λ (g : GatheredBlock). blocks ++ entries_of g.block ∷ []) was in
    let out : c.extend_from_slice.new.self.items ≡ old ++ bytes =
    c.in_ok-extend_from_slice.ensures.items ∙ ap (λ (l : List ℕ). old ++ l) (c.deref.ensures.value ∙ ap (λ (g : GatheredBlock). g.block.bytes.items) was) in
    closed_bytes blocks _ es (front ++ old) bytes _ rows before s.parsed.bytes (ap (λ (l : List ℕ). front ++ l) out ∙ sym (append_assoc front old bytes))) c.add.ensures.rows
