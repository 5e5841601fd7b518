-- The checksum CRC-32 of zlib and Ethernet: the lowest bit of a byte comes first.
use Rattle.std.specs.Prelude.{ℕ, ◌+◌, ◌-◌, ◌*◌, ◌/◌, ◌%◌, ◌^◌, List, fold, bit_xor}
use Rattle.std.specs.Fn.{iterate}
use Rattle.std.specs.Int.{bit_not, w32}

-- a bit is shifted out, and if it was 1 the polynomial comes in
abbrev pub next_bit : ℕ → ℕ
next_bit sum = bit_xor (sum / 2) (sum % 2 * 0xEDB88320)

abbrev pub next_byte : ℕ → ℕ → ℕ
next_byte sum byte = iterate next_bit 8 (bit_xor sum byte)

unfoldable pub crc32 : List ℕ → ℕ
crc32 bytes = bit_not w32 (fold next_byte (2 ^ 32 - 1) bytes)

-- a byte from the sum 0, with so many bytes 0 behind it
unfoldable pub shifted : ℕ → ℕ → ℕ
shifted zeros byte = iterate next_bit (8 * zeros + 8) byte
