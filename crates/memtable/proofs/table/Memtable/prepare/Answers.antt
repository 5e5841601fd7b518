use Rattle.std.proofs.Common.{◌≡◌, List, ap, subst, sym, ◌∙◌}
use Rattle.std.specs.List.{All}
use Rattle.cell_key.specs.Entries.{Entry}
use Rattle.cell_key.specs.declared.edits.Edit.{Edit}
use Rattle.memtable.specs.Blocks.{block_entries}
use Rattle.memtable.specs.Edits.{IsWithinLimits, with_edits}
use Rattle.memtable.specs.Prepared.{IsPrepared}
use Rattle.memtable.specs.Slots.{slot_entries, over}
use Rattle.memtable.specs.StampRanges.{IsEditWithin}
use Rattle.memtable.specs.declared.blocks.Blocks.{Blocks}
use Rattle.memtable.proofs.Sizes.{still_kept}
use Rattle.memtable.proofs.StampRanges.{stamps_after}
use Rattle.memtable.proofs.table.Memtable.prepare.Goals as goal

pub invariant_of-ready : goal.invariant_of-ready
invariant_of-ready c =
    let base = block_entries c.self.inside.blocks.filled.items in
    let blocks = c.stage_within.new.blocks in
    let staged = slot_entries c.in_ok-staged.staged.items in
    let same = c.stage_within.ensures.same in
    let all : over staged (block_entries blocks.filled.items) ≡ with_edits base c.args.edits.items = ap (λ (xs : _). over staged (block_entries xs)) same ∙ c.in_ok-staged.ensures.staged in
    let edits = subst (λ (xs : List Edit). All (IsEditWithin c.with_edits-widened.result) xs) c.deref.ensures.value c.with_edits-widened.ensures.edits in
    subst (λ (bs : Blocks). IsPrepared bs c.self.inside.len c.self.inside.bytes c.self.inside.locks c.self.inside.stamps c.in_ok-staged.staged c.with_edits-widened.result) (sym c.replace-blocks.ensures.value) (record {
      kept = still_kept c.self.inside.blocks blocks c.self.inside.len c.self.inside.bytes c.self.inside.locks c.self.inside.stamps same c.stage_within.ensures.blocks c.self.invariant;
      limits = c.in_ok-staged.ensures.limits;
      room = c.in_ok-staged.ensures.room;
      within = subst (λ (es : List Entry). IsWithinLimits es) (sym all) c.in_ok-staged.ensures.within;
      stamps = stamps_after c.self.inside.stamps c.with_edits-widened.result c.args.edits.items base (over staged (block_entries blocks.filled.items)) all c.in_ok-staged.ensures.keys c.with_edits-widened.ensures.least c.with_edits-widened.ensures.greatest edits c.self.invariant.stamps;
    })
