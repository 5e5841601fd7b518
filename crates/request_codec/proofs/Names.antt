-- The limits of rows and families: names within them fit their fields, and a limit that can't be refuted holds.
use Rattle.std.proofs.Common.{ℕ, ◌≤◌, List, [], ◌∷◌, length, inl, inr, arith}
use Rattle.std.specs.List.{AllByRecursion}
use Rattle.std.proofs.lemmas.Bool.{cases_lt}
use Rattle.cell_key.specs.Names.{IsRow, IsFamily, IsFamilyByte}
use Rattle.si_model.specs.declared.replies.Cell.{Cell}
use Rattle.request_codec.specs.Fields.{FitsCell}

pub cell_fits : (cell : Cell) → IsRow cell.row → IsFamily cell.family → FitsCell cell
cell_fits cell row family = let r = row.few in let f = family.few in record { row = omega (arith, r); family = omega (arith, f) }

at_most : (m n : ℕ) → ¬ (¬ (m ≤ n)) → m ≤ n
at_most m n h = elim (cases_lt n m) [ inl more ↦ absurd (h (λ few. omega (arith, more, few))) | inr few ↦ few ]

pub row_stable : (row : List ℕ) → ¬ (¬ IsRow row) → IsRow row
row_stable row h = record {
  some = at_most 1 (length row) (λ no. h (λ is. no is.some));
  few = at_most (length row) 4000 (λ no. h (λ is. no is.few));
}

byte_stable : (byte : ℕ) → ¬ (¬ IsFamilyByte byte) → IsFamilyByte byte
byte_stable byte h = record {
  low = at_most 33 byte (λ no. h (λ is. no is.low));
  high = at_most byte 126 (λ no. h (λ is. no is.high));
  no_colon = λ colon. h (λ is. is.no_colon colon);
}

bytes_stable : (bytes : List ℕ) → ¬ (¬ AllByRecursion IsFamilyByte bytes) → AllByRecursion IsFamilyByte bytes
bytes_stable [] h = tt
bytes_stable (byte ∷ bytes) h =
    (byte_stable byte (λ no. h (λ all. no all.0)), bytes_stable bytes (λ no. h (λ all. no all.1)))

pub family_stable : (family : List ℕ) → ¬ (¬ IsFamily family) → IsFamily family
family_stable family h = record {
  some = at_most 1 (length family) (λ no. h (λ is. no is.some));
  few = at_most (length family) 64 (λ no. h (λ is. no is.few));
  bytes = bytes_stable family (λ no. h (λ is. no is.bytes));
}
