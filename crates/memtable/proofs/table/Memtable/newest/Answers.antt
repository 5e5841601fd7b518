use Rattle.std.proofs.Common.{◌≡◌, None, refl, sym, subst, rules, ◌∙◌}
use Rattle.cell_key.specs.Cells.{IsNewest, version}
use Rattle.cell_key.specs.Entries.{IsEntryList, cells_of}
use Rattle.cell_key.specs.declared.keys.Qualifier.TheVariants.{Lock}
use Rattle.memtable.specs.Blocks.{block_entries}
use Rattle.memtable.proofs.StampRanges.{newest_outside}
use Rattle.memtable.proofs.Locks.{no_newest}
use Rattle.memtable.proofs.table.Memtable.newest.Goals as goal

pub returns-then-self-eq0 : goal.returns-then-self-eq0
returns-then-self-eq0 c =
    let es = block_entries c.self.inside.blocks.filled.items in
    let is : c.args.qualifier ≡ Lock = search rules in
    let found = no_newest es c.self.invariant.list.each (sym c.self.invariant.locks ∙ c.if-self-eq0.true) c.args.row.now c.args.family.now c.args.qualifier is c.args.lo c.args.hi in (
      (refl, λ _. tt, c.self.view_is),
      record {
        found = subst (λ (xs : _). IsNewest (cells_of xs) (version c.args.row.now c.args.family.now c.args.qualifier) c.args.lo c.args.hi None) c.self.view_is found;
        limits = tt;
        list = subst IsEntryList c.self.view_is c.self.invariant.list;
        same = tt;
      },
    )

pub returns-then-misses : goal.returns-then-misses
returns-then-misses c =
    let es = block_entries c.self.inside.blocks.filled.items in
    let found = newest_outside c.self.inside.stamps es c.self.invariant.list.each c.self.invariant.stamps c.args.row.now c.args.family.now c.args.qualifier c.args.lo c.args.hi (c.misses.ensures.0 c.if-misses.true) in (
      (refl, λ _. tt, c.self.view_is),
      record {
        found = subst (λ (xs : _). IsNewest (cells_of xs) (version c.args.row.now c.args.family.now c.args.qualifier) c.args.lo c.args.hi None) c.self.view_is found;
        limits = tt;
        list = subst IsEntryList c.self.view_is c.self.invariant.list;
        same = tt;
      },
    )
