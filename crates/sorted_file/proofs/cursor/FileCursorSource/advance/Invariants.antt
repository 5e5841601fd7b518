use Rattle.std.proofs.Common.{◌≡◌, ◌≤◌, ℕ, List, Option, length}
use Rattle.std.specs.Option.{option_copied}
use Rattle.cell_key.specs.Entries.{Entry}
use Rattle.sorted_file.specs.Cursor.{bytes_ahead, cursor_left, cursor_remaining, BreaksOff, GoesOn}
use Rattle.sorted_file.specs.declared.block.BlockRow.{BlockRow}
use Rattle.sorted_file.proofs.CursorSteps.{IsHeld}
use Rattle.sorted_file.proofs.cursor.FileCursorSource.advance.Given as goal

abbrev pub invariant-blocks-2 : goal.invariant-blocks-2
invariant-blocks-2 g l = record {
  contents : g.F.Files.contents l.files ≡ g.F.Files.contents l.initial.files;
  quiet : g.F.Files.faults l.files ≡ g.F.Files.faults l.initial.files;
  left : cursor_left l.self ≤ cursor_left l.initial.self;
  name : l.self.name ≡ l.initial.self.name;
  from : l.self.from.now ≡ l.initial.self.from.now;
  goes : (lent : Option Entry) (rest : List ℕ) (rows : List BlockRow) → GoesOn (g.F.Files.contents l.initial.files) l.initial.self.name l.initial.self.from.now (bytes_ahead l.self) l.self.rows.now lent rest rows → GoesOn (g.F.Files.contents l.initial.files) l.initial.self.name l.initial.self.from.now (bytes_ahead l.initial.self) l.initial.self.rows.now lent rest rows;
  breaks : BreaksOff (g.F.Files.contents l.initial.files) l.initial.self.name l.initial.self.from.now (bytes_ahead l.self) l.self.rows.now → BreaksOff (g.F.Files.contents l.initial.files) l.initial.self.name l.initial.self.from.now (bytes_ahead l.initial.self) l.initial.self.rows.now;
  held : IsHeld (g.F.Files.contents l.initial.files) l.initial.self.name l.initial.self.rows.now (option_copied l.initial.self.row) l.initial.self.block.items l.initial.self.at → IsHeld (g.F.Files.contents l.initial.files) l.self.name l.self.rows.now (option_copied l.self.row) l.self.block.items l.self.at × (cursor_remaining (g.F.Files.contents l.initial.files) l.self ≡ cursor_remaining (g.F.Files.contents l.initial.files) l.initial.self);
}

abbrev pub decreases-blocks-2 : goal.decreases-blocks-2
decreases-blocks-2 g l = length l.self.rows.now
