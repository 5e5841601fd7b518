-- The marks of an audit, as a map by cell.
use Rattle.std.specs.Prelude.{ℕ, List}
use Rattle.std.specs.BTreeMap as btree
use Rattle.si_model.specs.declared.replies.Cell.{Cell}

-- the start of the session that holds a cell, by the cell's row and family
abbrev pub Holders : Type 0
Holders = btree.BTreeMap (List ℕ × List ℕ) ℕ

-- the mark of a held cell
abbrev pub mark_of : (List ℕ × List ℕ) × ℕ → Cell × ℕ
mark_of entry = (record { row = entry.0.0; family = entry.0.1 }, entry.1)
