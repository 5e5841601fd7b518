use Rattle.std.proofs.Common.{rules, ◌≡◌, ◌≤◌, ◌<◌, ◌-◌, ◌^◌, ◌++◌, ℕ, List, [], Option, length, drop, sym, ap, subst, ◌∙◌, arith, length-drop}
use Rattle.std.proofs.lemmas.List.{nil_from_length}
use Rattle.std.proofs.Math.ListN.{drop_of_length-le}
use Rattle.std.specs.Option.{option_copied}
use Rattle.cell_key.specs.Entries.{Entry, IsEntryList, IsRising, entries_from, spelled}
use Rattle.file_store.specs.Store.{Contents}
use Rattle.sorted_file.specs.Index.{block_of, blocks_of, entries_in, IsBlockIn, Tells}
use Rattle.sorted_file.specs.Cursor.{bytes_ahead, bytes_left, cursor_remaining, last_of, CursorHolds}
use Rattle.sorted_file.specs.Grammar.{block_bytes}
use Rattle.sorted_file.specs.Block.{entry_at}
use Rattle.sorted_file.specs.declared.block.BlockRow.{BlockRow}
use Rattle.sorted_file.specs.declared.cursor.FileCursor.{FileCursor}
use Rattle.sorted_file.specs.declared.block.EntryExtent.{EntryExtent}
use Rattle.sorted_file.proofs.CursorSteps.{block_ahead, block_read, block_step, entry_taken, used_up, IsHeld, IsTaken}
use Rattle.sorted_file.proofs.Breaks.{breaks_behind, breaks_here}
use Rattle.sorted_file.specs.Cursor.{garbled}
use Rattle.sorted_file.proofs.Opened.{goes_end, goes_entry, goes_open}
use Rattle.sorted_file.proofs.Places.{rest_list}
use Rattle.sorted_file.proofs.Searched.{no_front}
use Rattle.sorted_file.proofs.cursor.FileCursorSource.advance.Goals as goal

held : (told : Option Contents) (s : FileCursor) → CursorHolds told s → IsHeld told s.name s.rows.now (option_copied s.row) s.block.items s.at
held told s h = record { later = h.later; small = h.small; ahead = h.ahead }

pub blocks-2-preserved : goal.blocks-2-preserved
blocks-2-preserved g c =
    let i = c.blocks-2.invariant in
    let s = c.blocks-2.self in
    let told = g.F.Files.contents c.args.files.now in
    let row = c.in-Some.row.now in
    let rest = c.in-Some.rest.now in
    let block = c.in_ok-self.field-0-0.items in
    let at = c.in_ok-self.field-0-1 in
    let cut = c.in-Some.ensures.cases.0 in
    let left = i.left in
    let fewer = ap bytes_left cut in
    let size = c.in_ok-self.ensures.length in
    let test = c.blocks-2-test.true in
    let len = c.len.ensures in
    let over : length s.block.items ≤ s.at = omega (arith, test, len, s.block.ok.0) in
    let Read = (drop at block ≡ block_bytes (entries_from s.from.now (block_of row))) × IsRising (block_of row) in
    let read : (image : List ℕ) → Tells told s.name image → IsBlockIn image row → Read = λ image tells b.
    (c.in_ok-self.ensures.ahead image (subst (λ (told : Option Contents). Tells told s.name image) (sym i.contents) tells) b, b.list.rising) in
    record {
      contents = c.in_ok-self.ensures.reads.same ∙ i.contents;
      quiet = c.in_ok-self.ensures.reads.reason.told (λ e. cc) ∙ i.quiet;
      left = omega (arith, size, left, fewer, over);
      name = i.name;
      from = i.from;
      goes = λ lent later rows h. i.goes lent later rows (goes_open _ told s.name c.args.self.now.name s.from.now c.args.self.now.from.now row rest s.rows.now rows (bytes_ahead s) (drop at block) later lent i.contents i.name i.from c.in_ok-self.ensures.opened (drop_of_length-le s.block.items over) cut h);
      breaks = λ h. i.breaks (breaks_behind _ told s.name c.args.self.now.name s.from.now c.args.self.now.from.now row rest s.rows.now (bytes_ahead s) (drop at block) i.contents i.name i.from c.in_ok-self.ensures.opened (drop_of_length-le s.block.items over) cut h);
      held = λ h.
          let now = i.held h in
          let used = used_up told s.name s.rows.now (option_copied s.row) s.block.items s.at now.0 over in
          let step = block_step told s.name row rest s.rows.now Read cut now.0.later read in
          let ahead = block_ahead s.from.now block at (block_of row) step.1.1 step.1.0 in (
            record {
              later = step.0;
              small = c.in_ok-self.ensures.small;
              ahead = step.1.0 ∙ ap block_bytes (sym ahead);
            },
            block_read s.from.now row rest s.rows.now _ _ cut used ahead ∙ now.1,
          );
    }

pub returns-in_default-clause-takes : goal.returns-in_default-clause-takes
returns-in_default-clause-takes g c = λ h.
    let s = c.blocks-2.self in
    let told = g.F.Files.contents c.args.files.now in
    let now = c.blocks-2.invariant.held (held told c.args.self.now h) in
    let test = c.blocks-2-test.true in
    let len = c.len.ensures in
    let used = used_up told s.name s.rows.now (option_copied s.row) s.block.items s.at now.0 (omega (arith, test, len, s.block.ok.0)) in
    let none : cursor_remaining told s ≡ [] = ap (λ (l : List Entry). l ++ entries_from s.from.now (entries_in (blocks_of s.rows.now))) used
    ∙ ap (λ (l : List BlockRow). entries_from s.from.now (entries_in (blocks_of l))) (nil_from_length s.rows.now c.in_default.ensures.cases) in
    (sym now.1 ∙ none, none)

pub returns-in_default-entry_extent-clause-damaged :
    goal.returns-in_default-entry_extent-clause-damaged
returns-in_default-entry_extent-clause-damaged g c = λ is h.
    let s = c.blocks-2.self in
    let now = c.blocks-2.invariant.held (held _ c.args.self.now h) in
    let test = c.blocks-2-test.false in
    let len = c.len.ensures in
    let below : s.at < length s.block.items = omega (arith, test, len, s.block.ok.0) in
    let same = c.deref.ensures.value in
    no_front (drop s.at s.block.items) (last_of (length s.block.items - s.at) (option_copied s.row)) (λ z. omega (arith, length-drop s.at s.block.items, z, below))
    (λ e x is. c.in_default-entry_extent.ensures.none (subst (λ (l : List ℕ). length (drop s.at l) < 2 ^ 32) (sym same) (omega (arith, length-drop s.at s.block.items, now.0.small))) e x (ap (drop s.at) same ∙ is)) now.0.ahead

taken : (told : Option Contents) (s : FileCursor) (entry : EntryExtent) (end : ℕ) (bytes : List ℕ) → IsHeld told s.name s.rows.now (option_copied s.row) s.block.items s.at → bytes ≡ s.block.items → drop s.at bytes ≡ spelled (entry_at bytes entry) ++ drop end bytes → IsTaken (option_copied s.row) s.block.items s.at end (entry_at s.block.items entry)
taken told s entry end bytes h same found =
    entry_taken (option_copied s.row) s.block.items s.at end (entry_at s.block.items entry) h.small h.ahead
    (subst (λ (l : List ℕ). drop s.at l ≡ spelled (entry_at l entry) ++ drop end l) same found)

pub returns-clause-takes : goal.returns-clause-takes
returns-clause-takes g c = λ h.
    let s = c.blocks-2.self in
    let now = c.blocks-2.invariant.held (held _ c.args.self.now h) in
    let took = taken _ s c.in-Some-entry_extent.entry c.in-Some-entry_extent.end c.deref.result.now now.0 c.deref.ensures.value c.in-Some-entry_extent.ensures.found in
    sym now.1 ∙ ap (λ (l : List Entry). l ++ entries_from s.from.now (entries_in (blocks_of s.rows.now))) took.taken

pub returns-clause-holds : goal.returns-clause-holds
returns-clause-holds g c = λ h.
    let s = c.blocks-2.self in
    let now = c.blocks-2.invariant.held (held _ c.args.self.now h) in
    let took = taken _ s c.in-Some-entry_extent.entry c.in-Some-entry_extent.end c.deref.result.now now.0 c.deref.ensures.value c.in-Some-entry_extent.ensures.found in
    record {
      later = now.0.later;
      small = now.0.small;
      ahead = took.ahead;
      list = subst IsEntryList (returns-clause-takes g c h) (rest_list _ _ h.list);
    }

pub returns-in_default-clause-steps : goal.returns-in_default-clause-steps
returns-in_default-clause-steps g c =
    let s = c.blocks-2.self in
    let i = c.blocks-2.invariant in
    let test = c.blocks-2-test.true in
    let len = c.len.ensures in
    let none = drop_of_length-le s.block.items (omega (arith, test, len, s.block.ok.0)) in
    record {
      name = i.name;
      from = i.from;
      goes = i.goes _ _ _ (goes_end _ _ _ (bytes_ahead s) s.rows.now none (nil_from_length s.rows.now c.in_default.ensures.cases));
    }

pub returns-clause-steps : goal.returns-clause-steps
returns-clause-steps g c =
    let s = c.blocks-2.self in
    let i = c.blocks-2.invariant in
    let entry = c.in-Some-entry_extent.entry in
    let end = c.in-Some-entry_extent.end in
    let found = subst (λ (l : List ℕ). drop s.at l ≡ spelled (entry_at l entry) ++ drop end l) c.deref.ensures.value c.in-Some-entry_extent.ensures.found in
    record {
      name = i.name;
      from = i.from;
      goes = i.goes _ _ _ (goes_entry _ _ _ (bytes_ahead s) (drop end s.block.items) s.rows.now (entry_at s.block.items entry) found);
    }

pub returns-in_err-self-clause-broken : goal.returns-in_err-self-clause-broken
returns-in_err-self-clause-broken g c = λ is.
    let i = c.blocks-2.invariant in
    let s = c.blocks-2.self in
    let told = g.F.Files.contents c.args.files.now in
    let test = c.blocks-2-test.true in
    let len = c.len.ensures in
    let over : length s.block.items ≤ s.at = omega (arith, test, len, s.block.ok.0) in
    i.breaks (breaks_here _ told s.name c.args.self.now.name c.args.self.now.from.now (bytes_ahead s) c.in-Some.row.now c.in-Some.rest.now s.rows.now i.contents i.name (c.in_err-self.ensures.broken (search rules)) (drop_of_length-le s.block.items over) c.in-Some.ensures.cases.0)

pub returns-in_default-entry_extent-clause-broken :
    goal.returns-in_default-entry_extent-clause-broken
returns-in_default-entry_extent-clause-broken g c = λ is.
    let s = c.blocks-2.self in
    let test = c.blocks-2-test.false in
    let len = c.len.ensures in
    let below : s.at < length s.block.items = omega (arith, test, len, s.block.ok.0) in
    let same = c.deref.ensures.value in
    c.blocks-2.invariant.breaks (garbled (λ none. omega (arith, length-drop s.at s.block.items, ap length none, below))
    (λ small e x is. c.in_default-entry_extent.ensures.none (subst (λ (l : List ℕ). length (drop s.at l) < 2 ^ 32) (sym same) small) e x (ap (drop s.at) same ∙ is)))
