use Rattle.std.proofs.Common.{List, ap, subst, sym, ◌∙◌, arith}
use Rattle.std.specs.List.{All}
use Rattle.cell_key.specs.Entries.{Entry}
use Rattle.cell_key.specs.declared.edits.Edit.{Edit}
use Rattle.memtable.specs.Edits.{IsWithinLimits}
use Rattle.memtable.specs.StampRanges.{IsEditWithin}
use Rattle.memtable.proofs.StampRanges.{stamps_after}
use Rattle.memtable.specs.Slots.{slot_entries, over}
use Rattle.memtable.specs.Blocks.{block_entries}
use Rattle.memtable.specs.Sizes.{IsSizeOf}
use Rattle.memtable.proofs.Limited.{all_limited}
use Rattle.memtable.proofs.Sizes.{kept, kept_list, locks_within}
use Rattle.memtable.proofs.table.Memtable.apply.Goals as goal

pub stage_within-requires-clause-edits : goal.stage_within-requires-clause-edits
stage_within-requires-clause-edits c = all_limited c.args.row.now c.args.edits.items c.requires

pub overflow_cast-self : goal.overflow_cast-self
overflow_cast-self c =
    let base = block_entries c.self.inside.blocks.filled.items in
    let staged = slot_entries c.in_ok-staged.staged.items in
    let before = ap (λ (xs : _). over staged (block_entries xs)) c.stage_within.ensures.same in
    let within = subst (λ (es : List Entry). IsWithinLimits es) (sym c.in_ok-staged.ensures.staged) c.in_ok-staged.ensures.within in
    let size = subst (λ (es : List Entry). IsSizeOf c.put_all-size.result es) before c.put_all-size.ensures.size in
    let count = size.entries in
    let most = within.entries in
    omega (arith, count, most)

pub overflow_cast-self-2 : goal.overflow_cast-self-2
overflow_cast-self-2 c =
    let base = block_entries c.self.inside.blocks.filled.items in
    let staged = slot_entries c.in_ok-staged.staged.items in
    let before = ap (λ (xs : _). over staged (block_entries xs)) c.stage_within.ensures.same in
    let within = subst (λ (es : List Entry). IsWithinLimits es) (sym c.in_ok-staged.ensures.staged) c.in_ok-staged.ensures.within in
    let size = subst (λ (es : List Entry). IsSizeOf c.put_all-size.result es) before c.put_all-size.ensures.size in
    let total = size.bytes in
    let most = within.bytes in
    omega (arith, total, most)

pub overflow_cast-self-3 : goal.overflow_cast-self-3
overflow_cast-self-3 c =
    let base = block_entries c.self.inside.blocks.filled.items in
    let staged = slot_entries c.in_ok-staged.staged.items in
    let before = ap (λ (xs : _). over staged (block_entries xs)) c.stage_within.ensures.same in
    let within = subst (λ (es : List Entry). IsWithinLimits es) (sym c.in_ok-staged.ensures.staged) c.in_ok-staged.ensures.within in
    let size = subst (λ (es : List Entry). IsSizeOf c.put_all-size.result es) before c.put_all-size.ensures.size in
    let locks = locks_within c.put_all-size.result (over staged base) size in
    let count = size.entries in
    let most = within.entries in
    omega (arith, locks, count, most)

pub invariant_of-self-2 : goal.invariant_of-self-2
invariant_of-self-2 c =
    let base = block_entries c.self.inside.blocks.filled.items in
    let staged = slot_entries c.in_ok-staged.staged.items in
    let before = ap (λ (xs : _). over staged (block_entries xs)) c.stage_within.ensures.same in
    let within = subst (λ (es : List Entry). IsWithinLimits es) (sym c.in_ok-staged.ensures.staged) c.in_ok-staged.ensures.within in
    let size = subst (λ (es : List Entry). IsSizeOf c.put_all-size.result es) before c.put_all-size.ensures.size in
    let made = c.put_all-size.ensures.entries ∙ before in
    let all = made ∙ c.in_ok-staged.ensures.staged in
    let edits = subst (λ (xs : List Edit). All (IsEditWithin c.with_edits-stamps.result) xs) c.deref.ensures.value c.with_edits-stamps.ensures.edits in
    let stamps = stamps_after c.self.inside.stamps c.with_edits-stamps.result c.args.edits.items base (block_entries c.put_all-size.new.blocks.filled.items) all c.in_ok-staged.ensures.keys c.with_edits-stamps.ensures.least c.with_edits-stamps.ensures.greatest edits c.self.invariant.stamps in
    kept c.put_all-size.new.blocks staged base c.put_all-size.result made c.self.invariant.list c.in_ok-staged.ensures.limits size within c.put_all-size.ensures.blocks c.with_edits-stamps.result stamps

pub returns-clause-list : goal.returns-clause-list
returns-clause-list c =
    let base = block_entries c.self.inside.blocks.filled.items in
    let staged = slot_entries c.in_ok-staged.staged.items in
    let before = ap (λ (xs : _). over staged (block_entries xs)) c.stage_within.ensures.same in
    kept_list (block_entries c.put_all-size.new.blocks.filled.items) staged base (c.put_all-size.ensures.entries ∙ before) c.self.invariant.list c.in_ok-staged.ensures.limits
