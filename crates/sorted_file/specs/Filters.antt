-- The words of a filter of numbers.
use Rattle.std.specs.Prelude.{◌≡◌, ◌-◌, ◌/◌, ◌%◌, ◌^◌, ℕ, List, length, bit_and, slice_get, IfSome}
use Rattle.std.specs.Int.{bit_at}

-- the index of the word with a number's bits
abbrev pub word_place : ℕ → ℕ → ℕ
word_place words number = bit_and number (words - 1)

-- the index of a number's first bit within its word of 64: its top six bits
abbrev pub first_bit : ℕ → ℕ
first_bit number = number / 2 ^ 58

-- the index of its second bit, maybe the same one: the next six bits
abbrev pub second_bit : ℕ → ℕ
second_bit number = number / 2 ^ 52 % 64

-- both bits of a number are set in its word
abbrev pub HasBoth : ℕ → ℕ → Type 0
HasBoth number word = (bit_at word (first_bit number) ≡ 1) × (bit_at word (second_bit number) ≡ 1)

-- both bits of a number are set in the words of a filter, or the filter has no words
abbrev pub HasBits : List ℕ → ℕ → Type 0
HasBits words number = IfSome (slice_get words (word_place (length words) number)) (HasBoth number)
