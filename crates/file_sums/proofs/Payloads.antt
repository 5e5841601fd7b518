-- The payload that stands in the bytes of a file of format 3.
use Rattle.std.proofs.Common.{◌≡◌, ℕ, zero, suc, ◌+◌, ◌-◌, ◌*◌, ◌/◌, ◌%◌, ◌<◌, ◌≤◌, List, [], ◌++◌, length, take, drop, arith, sym, ap, ◌∙◌, append_assoc, append-nil, take_at, drop_at, length-append, refl, ⊎_elim}
use Rattle.std.proofs.lemmas.List.{length-take, take-append-drop, take-append-le, drop-append-le, length-drop, length-take-le, drop-drop, take_all, drop_all, take-take, drop-take}
use Rattle.std.proofs.lemmas.Bool.{cases_lt}
use Rattle.std.proofs.Math.Seq.{take-add}
use Rattle.std.specs.Int.{to_be_bytes, w16}
use Rattle.file_sums.specs.Pieces.{IsNoRun, checksum, piece, pieces, payload_at}
use Rattle.file_sums.specs.Shown.{stored_at, payloads, payload_of}
use Rattle.file_sums.proofs.InOrder.{pieces_join}
use Rattle.file_sums.proofs.Fronts.{piece-parts, length-piece, length-checksum}
use Rattle.file_store.specs.Store.{part}

-- ---- places of pieces

stored-front : (a b : List ℕ) (n : ℕ) → suc n * 1030 ≤ length a → stored_at (a ++ b) n ≡ stored_at a n
stored-front a b n fits =
    ap (take 1030) (drop-append-le (n * 1030) a b (omega arith))
    ∙ take-append-le 1030 (drop (n * 1030) a) b (omega (arith, length-drop (n * 1030) a))

pub payloads-front : (a b : List ℕ) (n : ℕ) → n * 1030 ≤ length a → payloads (a ++ b) n ≡ payloads a n
payloads-front a b zero fits = refl
payloads-front a b (suc n) fits =
    ap (λ (l : List ℕ). l ++ drop 6 (stored_at (a ++ b) n)) (payloads-front a b n (omega arith))
    ∙ ap (λ (l : List ℕ). payloads a n ++ drop 6 l) (stored-front a b n fits)

stored-further : (bytes : List ℕ) (i n : ℕ) → stored_at bytes (i + n) ≡ stored_at (drop (i * 1030) bytes) n
stored-further bytes i n =
    let far : (i + n) * 1030 ≡ i * 1030 + n * 1030 = omega arith in
    ap (λ (k : ℕ). take 1030 (drop k bytes)) far ∙ ap (take 1030) (sym (drop-drop (n * 1030) (i * 1030) bytes))

pub payloads-join : (bytes : List ℕ) (i n : ℕ) → payloads bytes (i + n) ≡ payloads bytes i ++ payloads (drop (i * 1030) bytes) n
payloads-join bytes i zero =
    let none : i + 0 ≡ i = omega arith in ap (payloads bytes) none ∙ sym (append-nil (payloads bytes i))
payloads-join bytes i (suc n) =
    let next : i + suc n ≡ suc (i + n) = omega arith in
    ap (payloads bytes) next
    ∙ ap (λ (l : List ℕ). l ++ drop 6 (stored_at bytes (i + n))) (payloads-join bytes i n)
    ∙ ap (λ (l : List ℕ). (payloads bytes i ++ payloads (drop (i * 1030) bytes) n) ++ drop 6 l) (stored-further bytes i n)
    ∙ append_assoc (payloads bytes i) (payloads (drop (i * 1030) bytes) n) (drop 6 (stored_at (drop (i * 1030) bytes) n))

pub length-payloads : (bytes : List ℕ) (n : ℕ) → n * 1030 ≤ length bytes → length (payloads bytes n) ≡ n * 1024
length-payloads bytes zero fits = refl
length-payloads bytes (suc n) fits =
    let whole : length (stored_at bytes n) ≡ 1030 = length-take-le 1030 (drop (n * 1030) bytes) (omega (arith, length-drop (n * 1030) bytes)) in
    omega (arith, length-append (payloads bytes n) (drop 6 (stored_at bytes n)), length-payloads bytes n (omega arith), length-drop 6 (stored_at bytes n), whole)

-- no bytes, no payload
pub payloads-nil : (n : ℕ) → payloads [] n ≡ []
payloads-nil zero = refl
payloads-nil (suc n) =
    let none : drop (n * 1030) [] ≡ [] = drop_all (n * 1030) [] (omega arith) in
    ap (λ (l : List ℕ). l ++ drop 6 (take 1030 (drop (n * 1030) []))) (payloads-nil n) ∙ ap (λ (l : List ℕ). drop 6 (take 1030 l)) none

-- pieces behind the end have no payload
pub payloads-past : (bytes : List ℕ) (n k : ℕ) → length bytes ≤ n * 1030 → payloads bytes (n + k) ≡ payloads bytes n
payloads-past bytes n k past =
    payloads-join bytes n k
    ∙ ap (λ (l : List ℕ). payloads bytes n ++ payloads l k) (drop_all (n * 1030) bytes past)
    ∙ ap (λ (l : List ℕ). payloads bytes n ++ l) (payloads-nil k) ∙ append-nil (payloads bytes n)

pub payload-past : (bytes : List ℕ) (n : ℕ) → length bytes ≤ n * 1030 → payload_of bytes ≡ payloads bytes n
payload-past bytes n past =
    let c : ℕ = length bytes / 1030 + 1 in
    let over : length bytes ≤ c * 1030 = omega arith in
    let one : c + n ≡ n + c = omega arith in
    sym (payloads-past bytes c n over) ∙ ap (payloads bytes) one ∙ payloads-past bytes n c past

-- ---- the payload of pieces

behind-head : (name i : ℕ) (p : List ℕ) → drop 6 (piece name i p) ≡ p
behind-head name i p =
    let sum : List ℕ = checksum name i p in
    ap (drop 6) (piece-parts name i p)
    ∙ sym (drop-drop 4 2 (to_be_bytes w16 (length p) ++ (sum ++ p)))
    ∙ ap (drop 4) (drop_at (to_be_bytes w16 (length p)) (sum ++ p) 2 refl) ∙ drop_at sum p 4 (length-checksum name i p)

length-at : (p : List ℕ) (n : ℕ) → suc n * 1024 ≤ length p → length (payload_at p n) ≡ 1024
length-at p n fits = length-take-le 1024 (drop (n * 1024) p) (omega (arith, length-drop (n * 1024) p))

pub length-pieces : (name first : ℕ) (p : List ℕ) (n : ℕ) → n * 1024 ≤ length p → length (pieces name first p n) ≡ n * 1030
length-pieces name first p zero fits = refl
length-pieces name first p (suc n) fits =
    omega (arith, length-append (pieces name first p n) (piece name (first + n) (payload_at p n)), length-pieces name first p n (omega arith), length-piece name (first + n) (payload_at p n), length-at p n fits)

at_most : (p : List ℕ) (n : ℕ) → length (payload_at p n) ≤ 1024
at_most p n = omega (arith, length-take 1024 (drop (n * 1024) p))

pub payloads-pieces : (name first : ℕ) (p : List ℕ) (n : ℕ) → n * 1024 ≤ length p + 1024 → payloads (pieces name first p n) n ≡ take (n * 1024) p
payloads-pieces name first p zero fits = refl
payloads-pieces name first p (suc n) fits =
    let a : List ℕ = pieces name first p n in
    let b : List ℕ = piece name (first + n) (payload_at p n) in
    let long : length a ≡ n * 1030 = length-pieces name first p n (omega arith) in
    let whole : take 1030 b ≡ b = take_all 1030 b (omega (arith, length-piece name (first + n) (payload_at p n), at_most p n)) in
    let next : n * 1024 + 1024 ≡ suc n * 1024 = omega arith in
    ap (λ (l : List ℕ). l ++ drop 6 (stored_at (a ++ b) n)) (payloads-front a b n (omega (arith, long)) ∙ payloads-pieces name first p n (omega arith))
    ∙ ap (λ (l : List ℕ). take (n * 1024) p ++ drop 6 (take 1030 l)) (drop_at a b (n * 1030) long)
    ∙ ap (λ (l : List ℕ). take (n * 1024) p ++ drop 6 l) whole
    ∙ ap (λ (l : List ℕ). take (n * 1024) p ++ l) (behind-head name (first + n) (payload_at p n))
    ∙ sym (take-add (n * 1024) 1024 p) ∙ ap (λ (k : ℕ). take k p) next

pub length-pieces-most : (name first : ℕ) (p : List ℕ) (n : ℕ) → length (pieces name first p n) ≤ n * 1030
length-pieces-most name first p zero = omega arith
length-pieces-most name first p (suc n) =
    omega (arith, length-append (pieces name first p n) (piece name (first + n) (payload_at p n)), length-pieces-most name first p n, length-piece name (first + n) (payload_at p n), at_most p n)

payloads-most : (bytes : List ℕ) (n : ℕ) → length (payloads bytes n) ≤ n * 1024
payloads-most bytes zero = omega arith
payloads-most bytes (suc n) =
    omega (arith, length-append (payloads bytes n) (drop 6 (stored_at bytes n)), payloads-most bytes n, length-drop 6 (stored_at bytes n), length-take 1030 (drop (n * 1030) bytes))

-- ---- reading pieces

first_part : (b : List ℕ) (count m : ℕ) → take (count * 1024) (payloads b (count + m)) ≡ payloads b count
first_part b count m =
    ap (take (count * 1024)) (payloads-join b count m)
    ∙ ⊎_elim short whole (cases_lt (length b) (count * 1030))
  where
    whole : count * 1030 ≤ length b → take (count * 1024) (payloads b count ++ payloads (drop (count * 1030) b) m) ≡ payloads b count
    whole h = take_at (payloads b count) (payloads (drop (count * 1030) b) m) (count * 1024) (length-payloads b count h)

    short : length b < count * 1030 → take (count * 1024) (payloads b count ++ payloads (drop (count * 1030) b) m) ≡ payloads b count
    short h =
        ap (λ (l : List ℕ). take (count * 1024) (payloads b count ++ payloads l m)) (drop_all (count * 1030) b (omega arith))
        ∙ ap (λ (l : List ℕ). take (count * 1024) (payloads b count ++ l)) (payloads-nil m)
        ∙ ap (take (count * 1024)) (append-nil (payloads b count)) ∙ take_all (count * 1024) (payloads b count) (payloads-most b count)

-- the payload of some pieces is a part of that of the file
pub window : (bytes : List ℕ) (first count : ℕ) → first * 1030 ≤ length bytes
    → take (count * 1024) (drop (first * 1024) (payload_of bytes)) ≡ payloads (drop (first * 1030) bytes) count
window bytes first count begun =
    let b : List ℕ = drop (first * 1030) bytes in
    let m : ℕ = length bytes / 1030 + 1 in
    ap (λ (l : List ℕ). take (count * 1024) (drop (first * 1024) l)) (payload-past bytes (first + (count + m)) (omega arith) ∙ payloads-join bytes first (count + m))
    ∙ ap (take (count * 1024)) (drop_at (payloads bytes first) (payloads b (count + m)) (first * 1024) (length-payloads bytes first begun))
    ∙ first_part b count m

pub read_whole : (b got p : List ℕ) (name first count : ℕ) → got ≡ take (count * 1030) b → length got ≡ count * 1030
    → length p % 1024 ≡ 0 → got ≡ pieces name first p (length p / 1024) → p ≡ payloads b count
read_whole b got p name first count is long whole right =
    let m : ℕ = length p / 1024 in
    let size : length got ≡ m * 1030 = ap length right ∙ length-pieces name first p m (omega arith) in
    let same : m ≡ count = omega (arith, size, long) in
    let all : take (m * 1024) p ≡ p = take_all (m * 1024) p (omega (arith, whole)) in
    let read : payloads got m ≡ p = ap (λ (l : List ℕ). payloads l m) right ∙ payloads-pieces name first p m (omega arith) ∙ all in
    sym read ∙ ap (payloads got) same
    ∙ sym (payloads-front got (drop (count * 1030) b) count (omega (arith, long)))
    ∙ ap (λ (l : List ℕ). payloads (l ++ drop (count * 1030) b) count) is
    ∙ ap (λ (l : List ℕ). payloads l count) (take-append-drop (count * 1030) b)

pub read_end : (b got p : List ℕ) (name first count : ℕ) → got ≡ take (count * 1030) b → length got < count * 1030
    → got ≡ pieces name first p (length p / 1024 + 1) → p ≡ payloads b count
read_end b got p name first count is short right =
    let m : ℕ = length p / 1024 + 1 in
    let ended : length b ≤ count * 1030 = omega (arith, ap length is, length-take (count * 1030) b, short) in
    let same : got ≡ b = is ∙ take_all (count * 1030) b ended in
    let most : length b ≤ m * 1030 = omega (arith, ap length (sym same ∙ right), length-pieces-most name first p m) in
    let all : take (m * 1024) p ≡ p = take_all (m * 1024) p (omega arith) in
    let read : payloads b m ≡ p = ap (λ (l : List ℕ). payloads l m) (sym same ∙ right) ∙ payloads-pieces name first p m (omega arith) ∙ all in
    sym read ∙ sym (payload-past b m most) ∙ payload-past b count ended

pub read_part : (bytes p : List ℕ) (first count skip len offset : ℕ) → p ≡ payloads (drop (first * 1030) bytes) count → first * 1030 ≤ length bytes
    → skip + len ≤ count * 1024 → first * 1024 + skip ≡ offset → part p skip len ≡ part (payload_of bytes) offset len
read_part bytes p first count skip len offset is begun fits at =
    let m : ℕ = count * 1024 - skip in
    let room : count * 1024 ≡ skip + m = omega arith in
    let all : List ℕ = drop (first * 1024) (payload_of bytes) in
    ap (λ (l : List ℕ). part l skip len) (is ∙ sym (window bytes first count begun) ∙ ap (λ (k : ℕ). take k all) room)
    ∙ ap (take len) (drop-take skip m all)
    ∙ take-take len m (drop skip all) (omega (arith, room))
    ∙ ap (take len) (drop-drop skip (first * 1024) (payload_of bytes) ∙ ap (λ (k : ℕ). drop k (payload_of bytes)) at)

-- ---- the size

pub size_right : (bytes last p : List ℕ) (name count : ℕ) → count ≡ length bytes / 1030 → last ≡ stored_at bytes count → last ≡ piece name count p
    → length (payload_of bytes) ≡ count * 1024 + length p
size_right bytes last p name count at is right =
    let whole : length (payloads bytes count) ≡ count * 1024 = length-payloads bytes count (omega (arith, at)) in
    let next : length bytes / 1030 + 1 ≡ suc count = omega (arith, at) in
    let end : drop 6 (stored_at bytes count) ≡ p = ap (drop 6) (sym is ∙ right) ∙ behind-head name count p in
    ap (λ (n : ℕ). length (payloads bytes n)) next
    ∙ length-append (payloads bytes count) (drop 6 (stored_at bytes count))
    ∙ omega (arith, whole, ap length end)

-- what is written is read
pub round_trip : (name : ℕ) (p : List ℕ) → payload_of (pieces name 0 p (length p / 1024 + 1)) ≡ p
round_trip name p =
    let m : ℕ = length p / 1024 + 1 in
    payload-past (pieces name 0 p m) m (length-pieces-most name 0 p m)
    ∙ payloads-pieces name 0 p m (omega arith) ∙ take_all (m * 1024) p (omega arith)

-- ---- bytes that are no pieces

-- the first of some pieces
first_piece : (name f : ℕ) (p : List ℕ) (j : ℕ) → suc j * 1024 ≤ length p + 1024 → take 1030 (pieces name f p (suc j)) ≡ piece name f (payload_at p 0)
first_piece name f p zero fits =
    let here : f + 0 ≡ f = omega arith in
    take_all 1030 (piece name (f + 0) (payload_at p 0)) (omega (arith, length-piece name (f + 0) (payload_at p 0), at_most p 0))
    ∙ ap (λ (k : ℕ). piece name k (payload_at p 0)) here
first_piece name f p (suc j) fits =
    take-append-le 1030 (pieces name f p (suc j)) (piece name (f + suc j) (payload_at p (suc j))) (omega (arith, length-pieces name f p (suc j) (omega arith)))
    ∙ first_piece name f p j (omega arith)

at_piece : (name first k j : ℕ) (p : List ℕ) → (k + suc j) * 1024 ≤ length p + 1024
    → stored_at (pieces name first p (k + suc j)) k ≡ piece name (first + k) (payload_at (drop (k * 1024) p) 0)
at_piece name first k j p fits =
    let rest : List ℕ = pieces name (first + k) (drop (k * 1024) p) (suc j) in
    ap (λ (l : List ℕ). take 1030 (drop (k * 1030) l)) (pieces_join name first p k (suc j))
    ∙ ap (take 1030) (drop_at (pieces name first p k) rest (k * 1030) (length-pieces name first p k (omega arith)))
    ∙ first_piece name (first + k) (drop (k * 1024) p) j (omega (arith, length-drop (k * 1024) p, fits))

pub no_run : (name first index : ℕ) (bytes rest front : List ℕ) → first ≤ index → (index - first) * 1030 + length rest ≡ length bytes → 1030 ≤ length rest
    → rest ≡ drop ((index - first) * 1030) bytes → front ≡ take 1030 rest → ((p : List ℕ) → length p ≤ 1024 → front ≡ piece name index p → ⊥) → IsNoRun name first bytes
no_run name first index bytes rest front begun most long left cut none p m fits same =
    let k : ℕ = index - first in
    let j : ℕ = m - suc k in
    let count : m ≡ k + suc j = omega (arith, ap length same, length-pieces-most name first p m, most, long) in
    let here : first + k ≡ index = omega (arith, begun) in
    none (payload_at (drop (k * 1024) p) 0) (at_most (drop (k * 1024) p) 0)
    (cut ∙ ap (take 1030) left ∙ ap (λ (l : List ℕ). stored_at l k) (same ∙ ap (pieces name first p) count)
    ∙ at_piece name first k j p (omega (arith, fits, count)) ∙ ap (λ (i : ℕ). piece name i (payload_at (drop (k * 1024) p) 0)) here)

pub no_whole_run : (name first : ℕ) (bytes payload rest p : List ℕ) → bytes ≡ pieces name first payload (length payload / 1024) ++ rest → length payload % 1024 ≡ 0
    → 0 < length rest → length rest < 1030 → length p % 1024 ≡ 0 → bytes ≡ pieces name first p (length p / 1024) → ⊥
no_whole_run name first bytes payload rest p is whole some short all same =
    omega (
      arith,
      ap length is,
      ap length same,
      length-append (pieces name first payload (length payload / 1024)) rest,
      length-pieces name first payload (length payload / 1024) (omega arith),
      length-pieces name first p (length p / 1024) (omega arith),
      some,
      short,
    )

pub no_last_run : (name first : ℕ) (bytes payload rest p : List ℕ) → bytes ≡ pieces name first payload (length payload / 1024) ++ rest → length payload % 1024 ≡ 0
    → length rest < 1030 → ((q : List ℕ) → length q ≤ 1024 → rest ≡ piece name (first + length payload / 1024) q → ⊥)
    → bytes ≡ pieces name first p (length p / 1024 + 1) → ⊥
no_last_run name first bytes payload rest p is whole short none same =
    let k : ℕ = length payload / 1024 in
    let m : ℕ = length p / 1024 in
    let long : length (pieces name first payload k) ≡ k * 1030 = length-pieces name first payload k (omega arith) in
    let next : m + 1 ≡ suc m = omega arith in
    let size : length bytes ≡ m * 1030 + (6 + length (payload_at p m)) =
    ap length (same ∙ ap (pieces name first p) next) ∙ length-append (pieces name first p m) (piece name (first + m) (payload_at p m))
    ∙ omega (arith, length-pieces name first p m (omega arith), length-piece name (first + m) (payload_at p m)) in
    let left : length (payload_at p m) < 1024 = omega (arith, length-take 1024 (drop (m * 1024) p), length-drop (m * 1024) p) in
    let count : m ≡ k = omega (arith, size, left, ap length is, length-append (pieces name first payload k) rest, long, short) in
    let end : m + 1 ≡ k + suc 0 = omega (arith, count) in
    none (payload_at (drop (k * 1024) p) 0) (at_most (drop (k * 1024) p) 0)
    (sym (take_all 1030 rest (omega (arith, short))) ∙ ap (take 1030) (sym (drop_at (pieces name first payload k) rest (k * 1030) long))
    ∙ ap (λ (l : List ℕ). stored_at l k) (sym is ∙ same ∙ ap (pieces name first p) end)
    ∙ at_piece name first k 0 p (omega (arith, count)))
