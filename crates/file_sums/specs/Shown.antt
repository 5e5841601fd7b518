-- The files that are shown, of the files that are kept below.
use Rattle.std.specs.Prelude.{Option, option_map, ◌==◌, ◌&&◌, ℕ, zero, suc, ◌+◌, ◌-◌, ◌*◌, ◌/◌, ◌^◌, ◌<◌, Bool, cond, nat_lt, nat_le, true, false, ◌≡◌, ◌≢◌, List, [], ◌∷◌, ◌++◌, take, drop, length}
use Rattle.std.specs.List.{flat_map}
use Rattle.std.specs.FinMap.{entries, from_entries}
use Rattle.std.specs.BTreeSet.{BTreeSet, contains}
use Rattle.std.specs.Ordering.{nat_cmp}
use Rattle.file_store.specs.Store.{Contents}

-- the bytes of a file of format 3 that are its piece with this number, or what is left of them
abbrev pub stored_at : List ℕ → ℕ → List ℕ
stored_at bytes index = take 1030 (drop (index * 1030) bytes)

-- the payload of the first pieces, whatever their checksums are: what stands behind the six bytes of each head
abbrev pub payloads : List ℕ → ℕ → List ℕ
payloads bytes zero = []
payloads bytes (suc n) = payloads bytes n ++ drop 6 (stored_at bytes n)

-- the payload of a file of format 3, whatever its checksums are
abbrev pub payload_of : List ℕ → List ℕ
payload_of bytes = payloads bytes (length bytes / 1030 + 1)

-- fewer bytes were read than were asked for, as at the end of a file; or just as many
abbrev pub IsCut : Bool → ℕ → ℕ → Type 0
IsCut true got asked = got < asked
IsCut false got asked = got ≡ asked

-- The file that is shown for one that is kept below: one of format 3 under its number, and another one unless there is
-- one of format 3.
abbrev pub shown_entry : (ℕ → Bool) → ℕ × List ℕ → List (ℕ × List ℕ)
shown_entry summed e =
    cond (nat_lt e.0 (2 ^ 63))
    (cond (summed e.0) [] (e ∷ []))
    (cond (summed (e.0 - 2 ^ 63)) ((e.0 - 2 ^ 63, payload_of e.1) ∷ []) [])

-- the files that are shown, if those of these numbers are of format 3
abbrev pub shown : (ℕ → Bool) → Contents → Contents
shown summed below = from_entries (flat_map (shown_entry summed) (entries below))

-- the same, if the files below are known
abbrev pub all_shown : (ℕ → Bool) → Option Contents → Option Contents
all_shown summed = option_map (shown summed)

-- whether the file of a number is of format 3, if these numbers are; none is from 2^63 on
abbrev pub sums_in : BTreeSet ℕ → ℕ → Bool
sums_in numbers number = nat_lt number (2 ^ 63) && contains nat_cmp numbers number

-- which numbers are of format 3 has changed at one number at most, and at none
abbrev pub KeepsBut : ℕ → (ℕ → Bool) → (ℕ → Bool) → Type 0
KeepsBut name old new = (q : ℕ) → q ≢ name → new q ≡ old q

abbrev pub KeepsAll : (ℕ → Bool) → (ℕ → Bool) → Type 0
KeepsAll old new = (q : ℕ) → new q ≡ old q

-- whether the file that is kept below under one name is shown under a number
abbrev pub shows : (ℕ → Bool) → ℕ → ℕ → Bool
shows summed name number =
    cond (nat_lt name (2 ^ 63))
    (cond (summed name) false (number == name))
    (cond (summed (name - 2 ^ 63)) (number == name - 2 ^ 63) false)

-- whether a file that is kept below under one name is the one of format 3 of a number
abbrev pub is_summed_as : ℕ → ℕ → Bool
is_summed_as name number = nat_le (2 ^ 63) name && (number == name - 2 ^ 63)
