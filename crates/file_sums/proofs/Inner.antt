-- What was read of the inner files, if their contents are known.
use Rattle.std.proofs.Common.{◌≡◌, ◌≢◌, ℕ, ◌+◌, ◌*◌, ◌/◌, ◌≤◌, List, [], length, take, drop, arith, sym, ap, ◌∙◌, take_at, refl, subst, Option, Some, None, Result, Ok, Err, IfOk, Bool, true, false, nat_lt, tests, true≢false}
use Rattle.std.proofs.lemmas.List.{length-drop, length-take, length-take-le}
use Rattle.std.specs.Prelude.{IfSome, is_some, option_map, unwrap_or}
use Rattle.std.specs.FinMap as map
use Rattle.file_store.specs.Store.{Contents, Reads, bytes_of, part}
use Rattle.file_sums.specs.Pieces.{piece}
use Rattle.file_sums.specs.Shown.{IsCut, payload_of, stored_at}
use Rattle.file_sums.proofs.Payloads.{size_right}

-- the front of a buffer that was read into
got_front : (file zeros buffer : List ℕ) (offset got : ℕ) → Reads file offset zeros buffer got → take got buffer ≡ part file offset (length zeros)
got_front file zeros buffer offset got read =
    let got_part : List ℕ = part file offset (length zeros) in
    ap (take got) read.1 ∙ take_at got_part (drop (length got_part) zeros) got (sym read.0)

begun : (file zeros buffer : List ℕ) (offset got : ℕ) → Reads file offset zeros buffer got → got ≢ 0 → offset ≤ length file
begun file zeros buffer offset got read some =
    omega (arith, read.0, length-take (length zeros) (drop offset file), length-drop offset file, some)

pub all_read : (o : Option Contents) (stored first count asked offset got n : ℕ) (zeros buffer old new : List ℕ)
    → IfSome o (λ m. Reads (bytes_of m stored) (first * 1030) zeros buffer got) → length zeros ≡ count * 1030 → got ≢ 0
    → ((file : List ℕ) → take got buffer ≡ part file (first * 1030) (count * 1030) → first * 1030 ≤ length file → Reads (payload_of file) offset old new n)
    → IfSome o (λ m. Reads (payload_of (bytes_of m stored)) offset old new n)
all_read None stored first count asked offset got n zeros buffer old new read long some then = tt
all_read (Some m) stored first count asked offset got n zeros buffer old new read long some then =
    let file : List ℕ = bytes_of m stored in
    then file (got_front file zeros buffer (first * 1030) got read ∙ ap (part file (first * 1030)) long) (begun file zeros buffer (first * 1030) got read some)

not_none : (n : ℕ) → Some n ≡ None → ⊥
not_none n e = let no : true ≡ false = ap is_some e in absurd (true≢false no)

sized : (found : Option (List ℕ)) (bytes count got size stored : ℕ) (zeros buffer p : List ℕ) → Some bytes ≡ option_map length found
    → Reads (unwrap_or found []) (count * 1030) zeros buffer got → length zeros ≡ 1030 → count ≡ bytes / 1030
    → take got buffer ≡ piece stored count p → size ≡ count * 1024 + length p → Some size ≡ option_map (λ b. length (payload_of b)) found
sized None bytes count got size stored zeros buffer p there read long at is sum = absurd (not_none bytes there)
sized (Some b) bytes count got size stored zeros buffer p there read long at is sum =
    let same : bytes ≡ length b = ap (λ o. unwrap_or o 0) there in
    let last : take got buffer ≡ stored_at b count = got_front b zeros buffer (count * 1030) got read ∙ ap (part b (count * 1030)) long in
    ap Some (sum ∙ sym (size_right b (take got buffer) p stored count (at ∙ ap (λ (k : ℕ). k / 1030) same) last is))

pub all_sized : (o : Option Contents) (bytes count got size stored : ℕ) (zeros buffer p : List ℕ) → IfSome o (λ m. Some bytes ≡ option_map length (map.get m stored))
    → IfSome o (λ m. Reads (bytes_of m stored) (count * 1030) zeros buffer got) → length zeros ≡ 1030 → count ≡ bytes / 1030
    → take got buffer ≡ piece stored count p → size ≡ count * 1024 + length p
    → IfSome o (λ m. Some size ≡ option_map (λ b. length (payload_of b)) (map.get m stored))
all_sized None bytes count got size stored zeros buffer p there read long at is sum = tt
all_sized (Some m) bytes count got size stored zeros buffer p there read long at is sum =
    sized (map.get m stored) bytes count got size stored zeros buffer p there read long at is sum

is_cut : (got asked : ℕ) → got ≤ asked → IsCut (nat_lt got asked) got asked
is_cut got asked within = by (nat_lt got asked) refl
  where
    by : (b : Bool) → nat_lt got asked ≡ b → IsCut b got asked
    by true e = grind (arith, tests)
    by false e = grind (arith, tests)

pub all_copied : {E : Type 0} (r : Result ℕ E) (o : Option Contents) (stored first count skip offset got total : ℕ) (zeros buffer here old new : List ℕ)
    → IfOk r (λ n. (file : List ℕ) (count : ℕ) → take got here ≡ part file (first * 1030) (count * 1030)
    → IsCut (nat_lt got total) (length (take got here)) (count * 1030) → first * 1030 ≤ length file → skip + length old ≤ count * 1024
    → Reads (payload_of file) (first * 1024 + skip) old new n)
    → IfSome o (λ m. Reads (bytes_of m stored) (first * 1030) zeros buffer got) → here ≡ buffer → length zeros ≡ count * 1030 → length here ≡ count * 1030
    → total ≡ count * 1030 → got ≤ count * 1030 → got ≢ 0 → skip + length old ≤ count * 1024 → first * 1024 + skip ≡ offset
    → IfOk r (λ n. IfSome o (λ m. Reads (payload_of (bytes_of m stored)) offset old new n))
all_copied (Err e) o stored first count skip offset got total zeros buffer here old new then read same long all whole within some fits at = tt
all_copied (Ok n) o stored first count skip offset got total zeros buffer here old new then read same long all whole within some fits at =
    let size : length (take got here) ≡ got = length-take-le got here (omega (arith, all, within)) in
    let cut : IsCut (nat_lt got total) (length (take got here)) (count * 1030) =
    subst (λ (k : ℕ). IsCut (nat_lt got k) (length (take got here)) (count * 1030)) (sym whole)
    (subst (λ (k : ℕ). IsCut (nat_lt got (count * 1030)) k (count * 1030)) (sym size) (is_cut got (count * 1030) within)) in
    all_read o stored first count 0 offset got n zeros buffer old new read long some (λ file is begun.
    subst (λ (k : ℕ). Reads (payload_of file) k old new n) at (then file count (ap (take got) same ∙ is) cut begun fits))
