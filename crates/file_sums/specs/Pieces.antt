-- The bytes of a file of format 3: its payload in pieces, each with its length and its checksum.
use Rattle.std.specs.Prelude.{◌≢◌, ◌≤◌, ℕ, zero, suc, ◌+◌, ◌*◌, ◌/◌, List, [], ◌++◌, take, drop, length}
use Rattle.std.specs.Int.{to_be_bytes, w16, w32, w64}
use Rattle.commit_log.specs.Crc32.{crc32}

-- what a checksum covers before the payload: the file's name, the number of the piece, and its length
abbrev pub place : ℕ → ℕ → ℕ → List ℕ
place name index len = to_be_bytes w64 name ++ (to_be_bytes w64 index ++ to_be_bytes w16 len)

unfoldable pub checksum : ℕ → ℕ → List ℕ → List ℕ
checksum name index payload = to_be_bytes w32 (crc32 (place name index (length payload) ++ payload))

-- a piece of a file: its length in two bytes, its checksum in four, and its payload
unfoldable pub piece : ℕ → ℕ → List ℕ → List ℕ
piece name index payload =
    to_be_bytes w16 (length payload) ++ (checksum name index payload ++ payload)

-- the payload of the piece with this number: 1,024 bytes, or what is left
abbrev pub payload_at : List ℕ → ℕ → List ℕ
payload_at payload index = take 1024 (drop (index * 1024) payload)

-- So many pieces of a file, with this payload together. The first of them has this number.
abbrev pub pieces : ℕ → ℕ → List ℕ → ℕ → List ℕ
pieces name first payload zero = []
pieces name first payload (suc n) =
    pieces name first payload n ++ piece name (first + n) (payload_at payload n)

-- The bytes of a file with this payload. Its last piece has fewer than 1,024 bytes of it, maybe none.
abbrev pub file_of : ℕ → List ℕ → List ℕ
file_of name payload = pieces name 0 payload (length payload / 1024 + 1)

-- The bytes are no pieces of a file with this name, the first of which has this number, whatever their payload.
abbrev pub IsNoRun : ℕ → ℕ → List ℕ → Type 0
IsNoRun name first bytes =
    (payload : List ℕ) (count : ℕ) → count * 1024 ≤ length payload + 1024
    → bytes ≢ pieces name first payload count
