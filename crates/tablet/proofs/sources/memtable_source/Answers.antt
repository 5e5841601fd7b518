use Rattle.std.proofs.Common.{List, Option, sym, ap, subst, ◌∙◌}
use Rattle.std.specs.Option.{option_copied}
use Rattle.std.specs.Ordering.{is_le}
use Rattle.cell_key.specs.Keys.{byte_cmp}
use Rattle.cell_key.specs.Entries.{Entry, IsEntryList, entries_from}
use Rattle.sorted_file.specs.Source.{pending}
use Rattle.cell_key.proofs.EntryLists.{filter-list}
use Rattle.compaction.specs.declared.input.Input.TheVariants.{Memtable}
use Rattle.tablet.proofs.SourceLists.{source_start, source_remaining}
use Rattle.tablet.proofs.sources.memtable_source.Goals as goal

pub returns-clause-start : goal.returns-clause-start
returns-clause-start c = λ m.
    source_start m c.new.result (Memtable c.cursor.result) c.new.ensures.source
    (subst (λ (s : Option Entry × List Entry). IsEntryList (pending s.0 s.1)) (sym c.cursor.ensures.cursor) (filter-list (λ (e : Entry). is_le (byte_cmp c.args.from.now e.0)) c.args.memtable.now c.cursor.ensures.list))
    (ap (λ (s : Option Entry × List Entry). s.0) c.cursor.ensures.cursor)

pub returns-clause-list : goal.returns-clause-list
returns-clause-list c = λ m.
    source_remaining m c.new.result (Memtable c.cursor.result) (option_copied c.args.end) (entries_from c.args.from.now c.args.memtable.now) c.new.ensures.source c.new.ensures.end
    (ap (λ (s : Option Entry × List Entry). s.1) c.cursor.ensures.cursor)

pub returns-clause-of : goal.returns-clause-of
returns-clause-of c = record { source = c.new.ensures.source ∙ ap Memtable c.cursor.ensures.cursor; ends = c.new.ensures.end }
