-- Mark stores: the mark, the effects of their calls, and the bytes of a mark.
use Rattle.std.specs.Prelude.{◌≡◌, ℕ, ◌≤◌, ◌<◌, ◌^◌, ◌⊎◌, List, Option, option_map, IfSome}
use Rattle.std.specs.Int.{to_be_bytes, w64}

-- the mark after a number was stored, if the mark is known
abbrev pub mark_after : ℕ → Option ℕ → Option ℕ
mark_after number mark = option_map (λ _. number) mark

-- the mark is the old one or this number, if it is known
abbrev pub MayHold : ℕ → Option ℕ → Option ℕ → Type 0
MayHold number old new = (new ≡ old) ⊎ (new ≡ mark_after number old)

-- a number is at most the mark, if the mark is known
abbrev pub IsWithinMark : ℕ → Option ℕ → Type 0
IsWithinMark number mark = IfSome mark (λ stored. number ≤ stored)

-- the bytes of a number: eight, big-endian
abbrev pub mark_bytes : ℕ → List ℕ
mark_bytes number = to_be_bytes w64 number

-- these are the bytes of this number, which is at most the greatest stamp
pub record IsMark (bytes : List ℕ) (number : ℕ) : Type 0 where
  pub limit : number < 2 ^ 63
  pub eight : bytes ≡ mark_bytes number
