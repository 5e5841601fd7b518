-- Numbered frames: they, and the bytes behind them, can be read in only one way.
use Rattle.std.proofs.Common.{◌≡◌, ◌≢◌, ℕ, zero, suc, ◌+◌, ◌<◌, ◌≤◌, ◌^◌, ◌⊎◌, inl, inr, List, [], ◌∷◌, ◌++◌, length, take, drop, Option, Some, None, IfNone, IfSome, refl, sym, ap, ◌∙◌, subst, arith, length-append, append_assoc, append-nil, take_at}
use Rattle.std.proofs.lemmas.List.{take-append-drop, drop-append-le, drop-drop, length-drop, take_all}
use Rattle.std.proofs.lemmas.Bool.{cases_lt}
use Rattle.std.proofs.lemmas.Nat.{from_be_bytes-to_be_bytes_8}
use Rattle.std.specs.List.{AllByRecursion}
use Rattle.std.specs.Int.{from_be_bytes, w64}
use Rattle.std.specs.Global.{Vec}
use Rattle.commit_log.specs.Frames.{bytes_of, frame, IsRecord}
use Rattle.commit_log.specs.Numbered.{HasLater, Hides, IsBroken, IsNumbered, IsNumberedLog, IsShort, StandsFrom, frames_from, numbered}
use Rattle.commit_log.specs.Records.{spelled_number}
use Rattle.commit_log.proofs.Cuts.{same_frame, same_front, torn_frame}
use Rattle.commit_log.proofs.Fronts.{begins, length-frame}

pub length-number : (n : ℕ) → length (spelled_number n) ≡ 8
unfolding spelled_number
length-number n = refl

pub number_again : (n : ℕ) → n < 2 ^ 64 → from_be_bytes w64 (spelled_number n) ≡ n
unfolding spelled_number
number_again n fits = from_be_bytes-to_be_bytes_8 n fits

pub fits : (n : ℕ) (p : List ℕ) → IsShort p → IsRecord (numbered n p)
fits n p short = omega (arith, short, length-append (spelled_number n) p, length-number n)

pub short : (n : ℕ) (p : List ℕ) → IsRecord (numbered n p) → IsShort p
short n p is = omega (arith, is, length-append (spelled_number n) p, length-number n)

-- a numbered frame is followed by the rest of the bytes
pub same_numbered : (m n : ℕ) (p q x y : List ℕ) → m < 2 ^ 64 → n < 2 ^ 64 → IsShort p → IsShort q
    → frame (numbered m p) ++ x ≡ frame (numbered n q) ++ y → (m ≡ n) × ((p ≡ q) × (x ≡ y))
same_numbered m n p q x y small also a b same =
    let first = same_frame (numbered m p) (numbered n q) x y (fits m p a) (fits n q b) same in
    let parts = same_front (spelled_number m) (spelled_number n) p q (length-number m ∙ sym (length-number n)) first.0 in
    (sym (number_again m small) ∙ ap (from_be_bytes w64) parts.0 ∙ number_again n also, (parts.1, first.1))

-- no whole frame with this number stands at the front
abbrev pub LacksNext : ℕ → List ℕ → Type 0
LacksNext n bytes = (payload behind : List ℕ) → IsShort payload → bytes ≢ frame (numbered n payload) ++ behind

-- the record at the front is too short for a number
pub no_number : {A : Type 0} (o : Option A) (bytes inner rest : List ℕ) → IsRecord inner → bytes ≡ frame inner ++ rest → IfNone o (length inner < 8)
    → IfNone o ((number : ℕ) (payload behind : List ℕ) → IsShort payload → bytes ≢ frame (numbered number payload) ++ behind)
no_number (Some a) bytes inner rest is front h = tt
no_number None bytes inner rest is front h = λ n p x s same.
    let one = same_frame inner (numbered n p) rest x is (fits n p s) (sym front ∙ same) in
    omega (arith, h, ap length one.0, length-append (spelled_number n) p, length-number n)

-- the frame at the front has another number
pub other_number : (bytes p rest : List ℕ) (m next : ℕ) → m < 2 ^ 64 → IsShort p → bytes ≡ frame (numbered m p) ++ rest → (m ≡ next → ⊥)
    → (q behind : List ℕ) → next < 2 ^ 64 → IsShort q → bytes ≡ frame (numbered next q) ++ behind → ⊥
other_number bytes p rest m next small s front differs q behind also t same =
    differs (same_numbered m next p q rest behind small also s t (sym front ∙ same)).0

-- ---- later frames

more_than : (j : ℕ) → suc j ≡ j + 1
more_than j = omega arith

pub none_in_nothing : (next : ℕ) → HasLater next [] → ⊥
none_in_nothing next later =
    let stands = later.1 in
    omega (arith, ap length stands.spelled, length-append (frame (numbered stands.number stands.payload)) stands.behind, length-frame (numbered stands.number stands.payload), length-drop {A = ℕ} later.0 [])

-- the number of a frame comes after its length and its checksum
pub number_behind : (bytes p rest : List ℕ) (n : ℕ) → IsShort p → bytes ≡ frame (numbered n p) ++ rest → take 8 (drop 8 bytes) ≡ spelled_number n
number_behind bytes p rest n s front =
    let b = begins bytes (numbered n p) rest (fits n p s) front in
    ap (take 8) (sym (drop-drop 4 4 bytes) ∙ b.rest ∙ append_assoc (spelled_number n) p rest) ∙ take_at (spelled_number n) (p ++ rest) 8 (length-number n)

pub same_number : (m n : ℕ) → m < 2 ^ 64 → n < 2 ^ 64 → spelled_number m ≡ spelled_number n → m ≡ n
same_number m n small also same = sym (number_again m small) ∙ ap (from_be_bytes w64) same ∙ number_again n also

-- the number that is read there is the number of the frame at the front
pub its_number : (bytes : List ℕ) (m next : ℕ) → m < 2 ^ 64 → next + 131072 ≤ 2 ^ 64 → spelled_number m ≡ take 8 (drop 8 bytes) → (here : StandsFrom next bytes) → m ≡ here.number
its_number bytes m next small far is here =
    same_number m here.number small (omega (arith, here.is_next.1, far)) (is ∙ number_behind bytes here.payload here.behind here.number here.fits here.spelled)

pub stands_not : (bytes : List ℕ) (m next : ℕ) → m < 2 ^ 64 → next + 131072 ≤ 2 ^ 64 → spelled_number m ≡ take 8 (drop 8 bytes) → ¬ IsNumbered next m → StandsFrom next bytes → ⊥
stands_not bytes m next small far is out here = out (subst (IsNumbered next) (sym (its_number bytes m next small far is here)) here.is_next)

-- the found frame has the number that was read before
pub stands_as : (bytes p rest : List ℕ) (m n next : ℕ) → m < 2 ^ 64 → n < 2 ^ 64 → spelled_number m ≡ take 8 (drop 8 bytes) → IsNumbered next m → IsShort p → bytes ≡ frame (numbered n p) ++ rest → StandsFrom next bytes
stands_as bytes p rest m n next small also is low s front =
    record { number = n; payload = p; behind = rest; is_next = subst (IsNumbered next) (same_number m n small also (is ∙ number_behind bytes p rest n s front)) low; fits = s; spelled = front }

pub too_short : (bytes : List ℕ) (next : ℕ) → length bytes < 16 → StandsFrom next bytes → ⊥
too_short bytes next few here =
    omega (arith, few, ap length here.spelled, length-append (frame (numbered here.number here.payload)) here.behind, length-frame (numbered here.number here.payload), length-append (spelled_number here.number) here.payload, length-number here.number)

pub stands_nowhere : (bytes : List ℕ) (next : ℕ) → ((number : ℕ) (payload behind : List ℕ) → IsShort payload → bytes ≢ frame (numbered number payload) ++ behind) → StandsFrom next bytes → ⊥
stands_nowhere bytes next none here = none here.number here.payload here.behind here.fits here.spelled

-- a frame hides a later frame exactly if there is one in the bytes behind its first byte
pub hidden : (bytes after p : List ℕ) (x n : ℕ) → bytes ≡ x ∷ after → bytes ≡ frame (numbered n p) → HasLater n after → Hides n p
hidden bytes after p x n split is later =
    (later.0, subst (StandsFrom n) (sym (ap (λ (k : ℕ). drop k (x ∷ after)) (sym (more_than later.0))) ∙ ap (drop (later.0 + 1)) (sym split ∙ is)) later.1)

pub shown : (bytes after p : List ℕ) (x n : ℕ) → bytes ≡ x ∷ after → bytes ≡ frame (numbered n p) → Hides n p → HasLater n after
shown bytes after p x n split is hides =
    (hides.0, subst (StandsFrom n) (ap (drop (hides.0 + 1)) (sym is ∙ split) ∙ ap (λ (k : ℕ). drop k (x ∷ after)) (sym (more_than hides.0))) hides.1)

pub no_frame : (p : List ℕ) (n : ℕ) → [] ≡ frame (numbered n p) → ⊥
no_frame p n same = omega (arith, ap length same, length-frame (numbered n p))

-- ---- frames in a row

plus_none : (n : ℕ) → n + 0 ≡ n
plus_none n = omega arith

plus_one : (n m : ℕ) → n + suc m ≡ (n + 1) + m
plus_one n m = omega arith

pub frames-last : (first : ℕ) (records : List (List ℕ)) (p : List ℕ)
    → frames_from first records ++ frame (numbered (first + length records) p) ≡ frames_from first (records ++ p ∷ [])
unfolding frames_from
frames-last first [] p = ap (λ (n : ℕ). frame (numbered n p)) (plus_none first) ∙ sym (append-nil (frame (numbered first p)))
frames-last first (r ∷ rs) p =
    append_assoc (frame (numbered first r)) (frames_from (first + 1) rs) _
    ∙ ap (λ (n : ℕ). frame (numbered first r) ++ (frames_from (first + 1) rs ++ frame (numbered n p))) (plus_one first (length rs))
    ∙ ap (λ (l : List ℕ). frame (numbered first r) ++ l) (frames-last (first + 1) rs p)

one_way : (first : ℕ) (as' bs : List (List ℕ)) (x y : List ℕ) → AllByRecursion IsShort as' → AllByRecursion IsShort bs
    → LacksNext (first + length as') x → LacksNext (first + length bs) y
    → frames_from first as' ++ x ≡ frames_from first bs ++ y → (as' ≡ bs) × (x ≡ y)
unfolding frames_from
one_way first [] [] x y p q u v same = (refl, same)
one_way first [] (b ∷ bs) x y p q u v same =
    absurd (subst (λ (n : ℕ). LacksNext n x) (plus_none first) u b (frames_from (first + 1) bs ++ y) q.0 (same ∙ append_assoc (frame (numbered first b)) (frames_from (first + 1) bs) y))
one_way first (a ∷ as') [] x y p q u v same =
    absurd (subst (λ (n : ℕ). LacksNext n y) (plus_none first) v a (frames_from (first + 1) as' ++ x) p.0 (sym same ∙ append_assoc (frame (numbered first a)) (frames_from (first + 1) as') x))
one_way first (a ∷ as') (b ∷ bs) x y p q u v same =
    let both = same_frame (numbered first a) (numbered first b) (frames_from (first + 1) as' ++ x) (frames_from (first + 1) bs ++ y) (fits first a p.0) (fits first b q.0)
    (sym (append_assoc (frame (numbered first a)) (frames_from (first + 1) as') x) ∙ same ∙ append_assoc (frame (numbered first b)) (frames_from (first + 1) bs) y) in
    let head = same_front (spelled_number first) (spelled_number first) a b refl both.0 in
    let more = one_way (first + 1) as' bs x y p.1 q.1 (subst (λ (n : ℕ). LacksNext n x) (plus_one first (length as')) u) (subst (λ (n : ℕ). LacksNext n y) (plus_one first (length bs)) v) both.1 in
    (ap (λ h. h ∷ as') head.1 ∙ ap (λ t. b ∷ t) more.0, more.1)

-- a tail begins with no whole frame of the next number
pub lacks : (next : ℕ) (tail : List ℕ) → (HasLater next tail → ⊥) → LacksNext next tail
lacks next tail none p x s same =
    none (0, record { number = next; payload = p; behind = x; is_next = (omega arith, omega arith); fits = s; spelled = same })

pub one_reading : (first : ℕ) (bytes : List ℕ) (as' bs : List (List ℕ)) (x y : List ℕ) → IsNumberedLog first bytes as' x → IsNumberedLog first bytes bs y → (as' ≡ bs) × (x ≡ y)
one_reading first bytes as' bs x y p q =
    one_way first as' bs x y p.each q.each (lacks _ x p.torn) (lacks _ y q.torn) (sym p.spelled ∙ q.spelled)

-- a log is not broken
pub not_both : (first : ℕ) (bytes : List ℕ) (records : List (List ℕ)) (tail : List ℕ) → IsNumberedLog first bytes records tail → IsBroken first bytes → ⊥
not_both first bytes records tail log broken =
    let same = one_way first records broken.records tail broken.tail log.each broken.each (lacks _ tail log.torn) broken.none (sym log.spelled ∙ broken.spelled) in
    log.torn (subst (HasLater (first + length records)) (sym same.1) (subst (λ (rs : List (List ℕ)). HasLater (first + length rs) broken.tail) (sym same.0) broken.later))

-- no frames
pub no_frames : (first : ℕ) (bytes : List ℕ) → bytes ≡ frames_from first [] ++ bytes
unfolding frames_from
no_frames first bytes = refl

-- one more frame was read
pub one_more : (first next : ℕ) (bytes rest p : List ℕ) (records : List (List ℕ)) → bytes ≡ frames_from first records ++ rest → next ≡ first + length records
    → rest ≡ frame (numbered next p) ++ drop (16 + length p) rest → bytes ≡ frames_from first (records ++ p ∷ []) ++ drop (16 + length p) rest
one_more first next bytes rest p records is counted front =
    is
    ∙ ap (λ (l : List ℕ). frames_from first records ++ l) front
    ∙ ap (λ (n : ℕ). frames_from first records ++ (frame (numbered n p) ++ drop (16 + length p) rest)) counted
    ∙ sym (append_assoc (frames_from first records) (frame (numbered (first + length records) p)) (drop (16 + length p) rest))
    ∙ ap (λ (l : List ℕ). l ++ drop (16 + length p) rest) (frames-last first records p)

pub each-last : (records : List (List ℕ)) (p : List ℕ) → AllByRecursion IsShort records → IsShort p → AllByRecursion IsShort (records ++ p ∷ [])
each-last [] p each s = (s, tt)
each-last (r ∷ rs) p each s = (each.0, each-last rs p each.1 s)

-- ---- from the result of a call

pub some_through : {A : Type 0} (o : Option A) (P Q : A → Type 0) → ((a : A) → P a → Q a) → IfSome o P → IfSome o Q
some_through None P Q f h = tt
some_through (Some a) P Q f h = f a h

pub short_of : (inner p : List ℕ) (n : ℕ) → IsRecord inner → inner ≡ numbered n p → IsShort p
short_of inner p n is same = omega (arith, is, ap length same, length-append (spelled_number n) p, length-number n)

pub longer : (inner p : List ℕ) (n : ℕ) → inner ≡ numbered n p → 8 + length inner ≡ 16 + length p
longer inner p n same = omega (arith, ap length same, length-append (spelled_number n) p, length-number n)

pub front_of : (bytes inner p : List ℕ) (n : ℕ) → bytes ≡ frame inner ++ drop (8 + length inner) bytes → inner ≡ numbered n p
    → bytes ≡ frame (numbered n p) ++ drop (16 + length p) bytes
front_of bytes inner p n front same =
    front ∙ ap (λ (l : List ℕ). frame l ++ drop (8 + length inner) bytes) same ∙ ap (λ (k : ℕ). frame (numbered n p) ++ drop k bytes) (longer inner p n same)

pub bytes-last : (old new : List (Vec ℕ)) (v : Vec ℕ) (p : List ℕ) → new ≡ old ++ v ∷ [] → v.items ≡ p → bytes_of new ≡ bytes_of old ++ p ∷ []
bytes-last old new v p is same = ap bytes_of is ∙ mapped old
  where
    mapped : (vs : List (Vec ℕ)) → bytes_of (vs ++ v ∷ []) ≡ bytes_of vs ++ p ∷ []
    mapped [] = ap (λ (l : List ℕ). l ∷ []) same
    mapped (w ∷ vs) = ap (λ (ls : List (List ℕ)). w.items ∷ ls) (mapped vs)

pub length-last : (records : List (List ℕ)) (p : List ℕ) → length (records ++ p ∷ []) ≡ length records + 1
length-last records p = length-append records (p ∷ [])

pub nothing_at : (bytes : List ℕ) → length bytes ≡ 0 → bytes ≡ []
nothing_at [] h = refl
nothing_at (x ∷ xs) h = absurd (omega (arith, h))

-- ---- the rest of an append after a kill

-- a whole frame in a prefix of the bytes is in the bytes
in_whole : (next j n : ℕ) (bytes : List ℕ) → StandsFrom next (drop j (take n bytes)) → StandsFrom next (drop j bytes)
in_whole next j n bytes here =
    let size : 8 ≤ length (drop j (take n bytes)) = omega (arith, ap length here.spelled, length-append (frame (numbered here.number here.payload)) here.behind, length-frame (numbered here.number here.payload)) in
    let within : j ≤ length (take n bytes) = omega (arith, size, length-drop j (take n bytes)) in
    let parts : drop j bytes ≡ drop j (take n bytes) ++ drop n bytes =
    ap (drop j) (sym (take-append-drop n bytes)) ∙ drop-append-le j (take n bytes) (drop n bytes) within in
    record {
      number = here.number;
      payload = here.payload;
      behind = here.behind ++ drop n bytes;
      is_next = here.is_next;
      fits = here.fits;
      spelled =
          parts ∙ ap (λ (l : List ℕ). l ++ drop n bytes) here.spelled
          ∙ append_assoc (frame (numbered here.number here.payload)) here.behind (drop n bytes);
    }

-- a proper prefix of a frame that hides no later frame
pub torn : (k n : ℕ) (p : List ℕ) → IsShort p → ¬ Hides k p → n < length (frame (numbered k p)) → HasLater k (take n (frame (numbered k p))) → ⊥
torn k n p s plain part (zero, here) =
    torn_frame (numbered k p) n (fits k p s) part (numbered here.number here.payload) here.behind (fits here.number here.payload here.fits) here.spelled
torn k n p s plain part (suc j, here) =
    plain (j, subst (λ (i : ℕ). StandsFrom k (drop i (frame (numbered k p)))) (more_than j) (in_whole k (suc j) n (frame (numbered k p)) here))

pub in_part : (first n : ℕ) (records : List (List ℕ)) (p : List ℕ) → AllByRecursion IsShort records → IsShort p → ¬ Hides (first + length records) p
    → IsNumberedLog first (frames_from first records ++ take n (frame (numbered (first + length records) p))) records (take n (frame (numbered (first + length records) p)))
    ⊎ IsNumberedLog first (frames_from first records ++ take n (frame (numbered (first + length records) p))) (records ++ p ∷ []) []
in_part first n records p each s plain = elim (cases_lt n (length (frame (numbered (first + length records) p)))) [
  | inl part ↦ inl (record { spelled = refl; each = each; torn = torn (first + length records) n p s plain part })
  | inr whole ↦ inr (record {
    spelled =
        ap (λ (l : List ℕ). frames_from first records ++ l) (take_all n (frame (numbered (first + length records) p)) whole)
        ∙ frames-last first records p ∙ sym (append-nil (frames_from first (records ++ p ∷ [])));
    each = each-last records p each s;
    torn = none_in_nothing (first + length (records ++ p ∷ []));
  })
]

-- ---- damage

after_front : (bytes front : List ℕ) → drop (length front) (front ++ bytes) ≡ bytes
after_front bytes [] = refl
after_front bytes (x ∷ front) = after_front bytes front

-- bytes that don't begin with the next frame, and a later frame behind them
pub damage : (first : ℕ) (records : List (List ℕ)) (junk p behind : List ℕ) (m : ℕ) → AllByRecursion IsShort records → IsShort p
    → first + length records ≤ m → m < first + length records + 131072
    → LacksNext (first + length records) (junk ++ (frame (numbered m p) ++ behind))
    → IsBroken first (frames_from first records ++ (junk ++ (frame (numbered m p) ++ behind)))
damage first records junk p behind m each s low high none = record {
  records = records;
  tail = junk ++ (frame (numbered m p) ++ behind);
  spelled = refl;
  each = each;
  none = none;
  later = (length junk, record { number = m; payload = p; behind = behind; is_next = (low, high); fits = s; spelled = after_front (frame (numbered m p) ++ behind) junk });
}
