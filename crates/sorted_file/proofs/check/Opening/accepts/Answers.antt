use Rattle.std.proofs.Common.{◌≡◌, ◌∷◌, List, ℕ, drop, sym, ap, subst, ◌∙◌}
use Rattle.std.specs.Prelude.{option_map, slice_get, Some}
use Rattle.std.specs.Ordering.{is_lt}
use Rattle.cell_key.specs.Entries.{lent_entry}
use Rattle.cell_key.specs.Keys.{byte_cmp}
use Rattle.sorted_file.specs.Block.{entries_of}
use Rattle.sorted_file.specs.Check.{IsFollowed}
use Rattle.sorted_file.specs.Index.{blocks_of, AreRows}
use Rattle.sorted_file.specs.declared.block.BlockRow.{BlockRow}
use Rattle.sorted_file.proofs.AcceptedBlocks.{is_next, next_above}
use Rattle.sorted_file.proofs.Reading.{is_less}
use Rattle.sorted_file.proofs.check.Opening.accepts.Goals as goal

pub returns : goal.returns
returns c =
    let o = c.requires.opening in
    let es = entries_of c.args.block.now in
    let e = lent_entry c.in-Some.first in
    let first : slice_get es 0 ≡ Some e = sym (c.entry.ensures es c.requires.parsed) ∙ ap (option_map lent_entry) c.in-Some.is in
    let order : c.is_below.result ≡ is_lt (byte_cmp c.args.self.now.last.items e.0) = c.is_below.ensures ∙ ap (λ (t : List ℕ). is_lt (byte_cmp t e.0)) c.deref-2.ensures.value in
    let rows = subst (λ (l : List BlockRow). AreRows 8 l) (sym c.deref.ensures.value) o.rows_are in
    let followed = subst (λ (l : List BlockRow). IsFollowed (blocks_of l) (e ∷ drop 1 es)) c.deref.ensures.value ((c.is_followed.ensures rows (drop 1 es)).0 c.if-not-is_followed.false) in (
      λ t. is_next c.args.self.now c.args.row es e o c.requires.parsed.list first c.if-row-self.false (c.are_same.ensures.0 c.if-not-are_same.false) followed (is_less _ (sym order ∙ t)),
      λ n. order ∙ ap is_lt (next_above c.args.self.now c.args.row es e o c.requires.parsed.list first n),
    )
