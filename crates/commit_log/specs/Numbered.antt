-- The bytes of a log of format 2: the store's number, numbered frames, and a tail that contains no whole later frame.
use Rattle.std.specs.Prelude.{◌≡◌, ◌≢◌, ℕ, ◌⊎◌, ◌+◌, ◌≤◌, ◌<◌, ◌^◌, List, [], ◌∷◌, ◌++◌, codes, drop, length, map}
use Rattle.std.specs.List.{AllByRecursion}
use Rattle.std.specs.Int.{to_be_bytes, w32}
use Rattle.commit_log.specs.Crc32.{crc32}
use Rattle.commit_log.specs.Frames.{frame, longest}
use Rattle.commit_log.specs.Records.{any_root, spelled_number, spelled_record}
use Rattle.commit_log.specs.declared.records.RecordKind.TheVariants.{Entries}

-- a payload after its number: the record of its frame
abbrev pub numbered : ℕ → List ℕ → List ℕ
numbered number payload = spelled_number number ++ payload

abbrev pub IsShort : List ℕ → Type 0
IsShort payload = 8 + length payload ≤ longest

-- the frames of payloads, numbered from first on
unfoldable pub frames_from : ℕ → List (List ℕ) → List ℕ
frames_from first [] = []
frames_from first (payload ∷ more) = frame (numbered first payload) ++ frames_from (first + 1) more

-- how many numbers, from the next one on, count as this log's
abbrev pub window : ℕ
window = 131072

abbrev pub IsNumbered : ℕ → ℕ → Type 0
IsNumbered next number = (next ≤ number) × (number < next + window)

-- The bytes begin with a whole frame that has one of the next numbers.
pub record StandsFrom (next : ℕ) (bytes : List ℕ) : Type 0 where
  pub number : ℕ
  pub payload : List ℕ
  pub behind : List ℕ
  pub is_next : IsNumbered next number
  pub fits : IsShort payload
  pub spelled : bytes ≡ frame (numbered number payload) ++ behind

-- such a frame begins somewhere in the bytes
abbrev pub HasLater : ℕ → List ℕ → Type 0
HasLater next bytes = (k : ℕ) × StandsFrom next (drop k bytes)

-- The bytes are whole frames of these payloads, and a tail that contains no later frame.
pub record IsNumberedLog (first : ℕ) (bytes : List ℕ) (records : List (List ℕ)) (tail : List ℕ)
    : Type 0 where
  pub spelled : bytes ≡ frames_from first records ++ tail
  pub each : AllByRecursion IsShort records
  pub torn : ¬ HasLater (first + length records) tail

-- The bytes are whole frames, then bytes that don't begin with the next frame but contain a later one.
pub record IsBroken (first : ℕ) (bytes : List ℕ) : Type 0 where
  pub records : List (List ℕ)
  pub tail : List ℕ
  pub spelled : bytes ≡ frames_from first records ++ tail
  pub each : AllByRecursion IsShort records
  pub none : (payload behind : List ℕ) → IsShort payload
      → tail ≢ frame (numbered (first + length records) payload) ++ behind
  pub later : HasLater (first + length records) tail

-- The frame of a payload contains, behind its first byte, a whole frame with one of the numbers from its own on.
abbrev pub Hides : ℕ → List ℕ → Type 0
Hides number payload = (k : ℕ) × StandsFrom number (drop (k + 1) (frame (numbered number payload)))

-- This payload can't be appended with this number: the number is too high, or its frame would contain a later frame.
abbrev pub IsRefused : ℕ → List ℕ → Type 0
IsRefused number payload = (2 ^ 63 ≤ number) ⊎ Hides number payload

-- the header of a store's log, and a log of these records, with no tail
abbrev pub store_head : ℕ → List ℕ
store_head store = codes "TABLOG02" ++ spelled_number store

abbrev pub store_log : ℕ → ℕ → List (List ℕ) → List ℕ
store_log store first records = store_head store ++ frames_from first records

-- The bytes are the log of a store: its header, the frames of one record or more, and a tail.
pub record IsStoreLog (store first : ℕ) (bytes : List ℕ) (records : List (List ℕ)) (tail : List ℕ)
    : Type 0 where
  pub frames : List ℕ
  pub headed : bytes ≡ store_head store ++ frames
  pub is_numbered : IsNumberedLog first frames records tail
  pub begun : records ≢ []
  pub is_store : store < 2 ^ 64
  pub is_first : first < 2 ^ 63

-- the records of a log of format 1 upgraded to format 2, over any root
abbrev pub upgraded : List (List ℕ) → List (List ℕ)
upgraded records = any_root ∷ map (spelled_record Entries 0) records

-- the sign that a store has a log
abbrev pub store_sign : ℕ → List ℕ
store_sign store =
    codes "TABSTORE" ++ (spelled_number store
    ++ to_be_bytes w32 (crc32 (codes "TABSTORE" ++ spelled_number store)))
