use Rattle.std.proofs.Common.{◌≡◌, ◌++◌, ℕ, List, [], map, drop, Option, Some, None, sym, ap, subst, ◌∙◌, arith}
use Rattle.std.proofs.Math.ListN.{drop_of_length-le}
use Rattle.std.specs.Option.{option_copied}
use Rattle.std.specs.Prelude.{option_map}
use Rattle.std.specs.FinMap as map
use Rattle.std.specs.List.{AllByRecursion}
use Rattle.cell_key.specs.Entries.{Entry, IsEntryList, IsRising, entries_from}
use Rattle.sorted_file.specs.Index.{blocks_of, entries_in, first_of, IsBlockIn, IsRowPosition}
use Rattle.sorted_file.specs.Cursor.{block_left, cursor_ahead, cursor_remaining, last_of}
use Rattle.sorted_file.specs.Grammar.{block_bytes}
use Rattle.sorted_file.specs.File.{listed}
use Rattle.sorted_file.specs.Block.{entry_at}
use Rattle.sorted_file.specs.Source.{pending}
use Rattle.sorted_file.specs.declared.block.BlockRow.{BlockRow}
use Rattle.sorted_file.specs.declared.cursor.FileCursor.{FileCursor}
use Rattle.sorted_file.proofs.OpenBlocks.{open_firsts, open_in, open_named, rows_behind}
use Rattle.sorted_file.proofs.Rows.{from_row}
use Rattle.sorted_file.proofs.Searched.{each_from, rising_from}
use Rattle.sorted_file.proofs.file.SortedFile.cursor.Goals as goal

none_ahead : (s : FileCursor) → s.row ≡ None → cursor_ahead s ≡ []
none_ahead s e = ap (λ row. last_of (block_left s) (option_copied row)) e

pub returns-clause-entries : goal.returns-clause-entries
returns-clause-entries c = λ m o.
    let rows = c.args.self.now.rows.items in
    let firsts = open_firsts m c.args.self.now o in
    let place = subst (λ (l : List BlockRow). IsRowPosition c.args.from.now l c.rows_to.result) c.deref.ensures.value (c.rows_to.ensures.position (subst (λ (l : List BlockRow). IsRising (map first_of l)) (sym c.deref.ensures.value) firsts)) in
    let behind = c.new.ensures.rows ∙ c.split_at.ensures.back ∙ ap (λ (l : List BlockRow). drop c.saturating_sub-at.result l) c.deref-2.ensures.value ∙ ap (λ (n : ℕ). drop n rows) c.saturating_sub-at.ensures in
    ap (λ (l : List Entry). l ++ entries_from c.new.result.from.now (entries_in (blocks_of c.new.result.rows.now))) (none_ahead c.new.result c.new.ensures.row)
    ∙ ap (λ (t : List ℕ). entries_from t (entries_in (blocks_of c.new.result.rows.now))) c.new.ensures.from
    ∙ ap (λ (l : List BlockRow). entries_from c.args.from.now (entries_in (blocks_of l))) behind
    ∙ sym (from_row c.args.from.now rows (open_named m c.args.self.now o) o.list.rising c.rows_to.result place)

pub returns-clause-holds : goal.returns-clause-holds
returns-clause-holds c = λ m o.
    let rows = c.args.self.now.rows.items in
    let behind = c.new.ensures.rows ∙ c.split_at.ensures.back ∙ ap (λ (l : List BlockRow). drop c.saturating_sub-at.result l) c.deref-2.ensures.value in
    let remaining = returns-clause-entries c m o in
    let list : IsEntryList (entries_from c.args.from.now (listed m c.args.self.now)) = record { rising = rising_from c.args.from.now (listed m c.args.self.now) o.list.rising; each = each_from c.args.from.now (listed m c.args.self.now) o.list.each } in
    record {
      later = record {
        image = o.image;
        there = ap (map.get m) c.new.ensures.name ∙ o.there;
        each = subst (λ (l : List BlockRow). AllByRecursion (IsBlockIn o.image) l) (sym behind) (rows_behind (IsBlockIn o.image) c.saturating_sub-at.result rows (open_in m c.args.self.now o));
      };
      small = rw c.new.ensures.block (omega arith);
      ahead = drop_of_length-le c.new.result.block.items (rw c.new.ensures.block (omega arith)) ∙ ap block_bytes (sym (none_ahead c.new.result c.new.ensures.row));
      list = subst (λ (lent : Option Entry). IsEntryList (pending lent (cursor_remaining (Some m) c.new.result))) (sym (ap (option_map (entry_at c.new.result.block.items)) c.new.ensures.current)) (subst IsEntryList (sym remaining) list);
    }

pub returns-clause-of : goal.returns-clause-of
returns-clause-of c =
    let rows = c.args.self.now.rows.items in
    record {
      name = c.new.ensures.name;
      from = c.new.ensures.from;
      ahead = drop_of_length-le c.new.result.block.items (rw c.new.ensures.block (omega arith));
      number = c.rows_to.result;
      rows = c.new.ensures.rows ∙ c.split_at.ensures.back ∙ ap (λ (l : List BlockRow). drop c.saturating_sub-at.result l) c.deref-2.ensures.value ∙ ap (λ (n : ℕ). drop n rows) c.saturating_sub-at.ensures;
      place = λ rising. subst (λ (l : List BlockRow). IsRowPosition c.args.from.now l c.rows_to.result) c.deref.ensures.value (c.rows_to.ensures.position (subst (λ (l : List BlockRow). IsRising (map first_of l)) (sym c.deref.ensures.value) rising));
    }
