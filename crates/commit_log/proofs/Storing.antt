-- The log of a store: its bytes can be read in only one way; and the effect of its calls on them.
use Rattle.std.proofs.Common.{◌≡◌, ◌≢◌, ℕ, suc, ◌+◌, ◌<◌, ◌^◌, ◌⊎◌, inl, inr, List, [], ◌∷◌, ◌++◌, codes, length, take, drop, refl, sym, ap, ◌∙◌, subst, arith, length-append, append_assoc, append-nil, drop_at}
use Rattle.std.specs.Prelude.{map, Option, Some, None, IfNone, IfOk, Result, Ok, Err}
use Rattle.std.proofs.lemmas.List.{append_cancel_right, drop-drop, take-append-drop}
use Rattle.std.specs.Global.{Vec}
use Rattle.std.specs.List.{AllByRecursion}
use Rattle.commit_log.specs.Frames.{IsBody, IsLog, frame}
use Rattle.commit_log.specs.Numbered.{Hides, IsBroken, IsNumberedLog, IsShort, IsStoreLog, frames_from, numbered, store_head, store_log, upgraded}
use Rattle.commit_log.specs.Records.{any_root, spelled_number, spelled_record}
use Rattle.commit_log.specs.declared.records.RecordKind.{RecordKind}
use Rattle.commit_log.specs.declared.records.RecordKind.TheVariants.{AnyRoot, Entries}
use Rattle.commit_log.proofs.Cuts.{same_front}
use Rattle.commit_log.proofs.Cuts as format1
use Rattle.commit_log.proofs.Naming.{length-record}
use Rattle.commit_log.proofs.Numbering.{each-last, frames-last, in_part, length-number, none_in_nothing, not_both, one_reading, same_number, same_numbered}

pub short_record : (kind : RecordKind) (stamp : ℕ) (body : List ℕ) → IsBody body → IsShort (spelled_record kind stamp body)
short_record kind stamp body is = omega (arith, is, length-record kind stamp body)

-- ---- one reading

length-head : (store : ℕ) → length (store_head store) ≡ 16
unfolding spelled_number
length-head store = refl

pub length-headed : (bytes frames : List ℕ) (store : ℕ) → bytes ≡ store_head store ++ frames → length bytes ≡ 16 + length frames
length-headed bytes frames store is = ap length is ∙ length-append (store_head store) frames ∙ ap (λ (n : ℕ). n + length frames) (length-head store)

pub same_head : (s t : ℕ) (f g : List ℕ) → store_head s ++ f ≡ store_head t ++ g → (spelled_number s ≡ spelled_number t) × (f ≡ g)
same_head s t f g same =
    let both = same_front (store_head s) (store_head t) f g (length-head s ∙ sym (length-head t)) same in
    (ap (drop 8) both.0, both.1)

-- the bytes behind the first bytes of a header are too short for a number
pub no_store : {A : Type 0} (o : Option A) (bytes rest : List ℕ) → bytes ≡ codes "TABLOG02" ++ rest → IfNone o (length rest < 8)
    → IfNone o ((store : ℕ) (frames : List ℕ) → bytes ≢ store_head store ++ frames)
no_store (Some a) bytes rest is few = tt
no_store None bytes rest is few = λ store frames same.
    omega (arith, few, ap length (sym is ∙ same), length-append (spelled_number store) frames, length-number store)

pub begins_with : (first : ℕ) (frames : List ℕ) (records : List (List ℕ)) (tail : List ℕ) → records ≢ [] → IsNumberedLog first frames records tail
    → (payload behind : List ℕ) × IsShort payload × (frames ≡ frame (numbered first payload) ++ behind)
unfolding frames_from
begins_with first frames [] tail some log = absurd (some refl)
begins_with first frames (r ∷ rs) tail some log =
    (r, frames_from (first + 1) rs ++ tail, log.each.0, log.spelled ∙ append_assoc (frame (numbered first r)) (frames_from (first + 1) rs) tail)

pub same_first : (m n : ℕ) (frames p x q y : List ℕ) → m < 2 ^ 63 → n < 2 ^ 63 → IsShort p → IsShort q → frames ≡ frame (numbered m p) ++ x → frames ≡ frame (numbered n q) ++ y → m ≡ n
same_first m n frames p x q y small also s t one other =
    (same_numbered m n p q x y (omega (arith, small)) (omega (arith, also)) s t (sym one ∙ other)).0

pub record SameLog (s t m n : ℕ) (as' bs : List (List ℕ)) (x y : List ℕ) : Type 0 where
  pub stores : s ≡ t
  pub firsts : m ≡ n
  pub records : as' ≡ bs
  pub tails : x ≡ y

pub store_reading : (bytes : List ℕ) (s t m n : ℕ) (as' bs : List (List ℕ)) (x y : List ℕ) → IsStoreLog s m bytes as' x → IsStoreLog t n bytes bs y → SameLog s t m n as' bs x y
store_reading bytes s t m n as' bs x y p q =
    let heads = same_head s t p.frames q.frames (sym p.headed ∙ q.headed) in
    let one = begins_with m p.frames as' x p.begun p.is_numbered in
    let other = begins_with n q.frames bs y q.begun q.is_numbered in
    let firsts = same_first m n q.frames one.0 one.1 other.0 other.1 p.is_first q.is_first one.2 other.2 (sym heads.1 ∙ one.3) other.3 in
    let same = one_reading n q.frames as' bs x y
    (subst (λ (k : ℕ). IsNumberedLog k q.frames as' x) firsts (subst (λ (f : List ℕ). IsNumberedLog m f as' x) heads.1 p.is_numbered)) q.is_numbered in
    record { stores = same_number s t p.is_store q.is_store heads.0; firsts = firsts; records = same.0; tails = same.1 }

-- ---- reading

pub is_store_log : (store first : ℕ) (bytes frames : List ℕ) (records : List (List ℕ)) (end at : ℕ) → store < 2 ^ 64 → first < 2 ^ 63 → bytes ≡ store_head store ++ frames
    → (payload behind : List ℕ) × IsShort payload × (frames ≡ frame (numbered first payload) ++ behind) → IsNumberedLog first frames records (drop end frames) → at ≡ 16 + end
    → IsStoreLog store first bytes records (drop at bytes)
unfolding frames_from
is_store_log store first bytes frames records end at small low head begun log is =
    let tails : drop end frames ≡ drop at bytes =
    ap (drop end) (sym (drop_at (store_head store) frames 16 (length-head store)) ∙ ap (drop 16) (sym head)) ∙ drop-drop end 16 bytes ∙ ap (λ (k : ℕ). drop k bytes) (sym is) in
    record {
      frames = frames;
      headed = head;
      is_numbered = subst (IsNumberedLog first frames records) tails log;
      begun = λ none.
          let empty : IsNumberedLog first frames [] (drop end frames) = subst (λ (rs : List (List ℕ)). IsNumberedLog first frames rs (drop end frames)) none log in
          empty.torn (
            0,
            record {
              number = first;
              payload = begun.0;
              behind = begun.1;
              is_next = (omega arith, omega arith);
              fits = begun.2;
              spelled = sym empty.spelled ∙ begun.3;
            },
          );
      is_store = small;
      is_first = low;
    }

pub not_headed : (bytes : List ℕ) → ((store : ℕ) (frames : List ℕ) → bytes ≢ store_head store ++ frames) → (store first : ℕ) (records : List (List ℕ)) (tail : List ℕ) → IsStoreLog store first bytes records tail → ⊥
not_headed bytes none store first records tail log = none store log.frames log.headed

pub not_begun : (bytes frames : List ℕ) (s : ℕ) → bytes ≡ store_head s ++ frames
    → ((number : ℕ) (payload behind : List ℕ) → number < 2 ^ 63 → IsShort payload → frames ≢ frame (numbered number payload) ++ behind)
    → (store first : ℕ) (records : List (List ℕ)) (tail : List ℕ) → IsStoreLog store first bytes records tail → ⊥
not_begun bytes frames s head none store first records tail log =
    let heads = same_head s store frames log.frames (sym head ∙ log.headed) in
    let one = begins_with first log.frames records tail log.begun log.is_numbered in
    none first one.0 one.1 log.is_first one.2 (heads.1 ∙ one.3)

pub not_broken : (bytes frames : List ℕ) (s m : ℕ) → bytes ≡ store_head s ++ frames → m < 2 ^ 63
    → (payload behind : List ℕ) × IsShort payload × (frames ≡ frame (numbered m payload) ++ behind) → IsBroken m frames
    → (store first : ℕ) (records : List (List ℕ)) (tail : List ℕ) → IsStoreLog store first bytes records tail → ⊥
not_broken bytes frames s m head low begun broken store first records tail log =
    let heads = same_head s store frames log.frames (sym head ∙ log.headed) in
    let one = begins_with first log.frames records tail log.begun log.is_numbered in
    let firsts = same_first m first log.frames begun.0 begun.1 one.0 one.1 low log.is_first begun.2 one.2 (sym heads.1 ∙ begun.3) one.3 in
    not_both m frames records tail
    (subst (λ (f : List ℕ). IsNumberedLog m f records tail) (sym heads.1) (subst (λ (k : ℕ). IsNumberedLog k log.frames records tail) (sym firsts) log.is_numbered)) broken

-- ---- writing

one_frame : (n : ℕ) (p : List ℕ) → frames_from n (p ∷ []) ≡ frame (numbered n p)
unfolding frames_from
one_frame n p = append-nil (frame (numbered n p))

pub log_of_one : (store n : ℕ) (p : List ℕ) → store_head store ++ frame (numbered n p) ≡ store_log store n (p ∷ [])
log_of_one store n p = ap (λ (l : List ℕ). store_head store ++ l) (sym (one_frame n p))

pub whole : (store first : ℕ) (records : List (List ℕ)) → store < 2 ^ 64 → first < 2 ^ 63 → records ≢ [] → AllByRecursion IsShort records → IsStoreLog store first (store_log store first records) records []
whole store first records small low some each = record {
  frames = frames_from first records;
  headed = refl;
  is_numbered = record { spelled = sym (append-nil (frames_from first records)); each = each; torn = none_in_nothing (first + length records) };
  begun = some;
  is_store = small;
  is_first = low;
}

pub cons_some : (p : List ℕ) (ps : List (List ℕ)) → p ∷ ps ≢ []
cons_some p ps e = cc

last_some : (records : List (List ℕ)) (p : List ℕ) → records ++ p ∷ [] ≢ []
last_some [] p e = cc
last_some (r ∷ rs) p e = cc

pub new_is_log : {E : Type 0} (made : Result (Vec ℕ) E) (store first : ℕ) → store < 2 ^ 64 → first < 2 ^ 63 → IfOk made (λ v. v.items ≡ store_log store first (any_root ∷ []))
    → IfOk made (λ v. IsStoreLog store first v.items (any_root ∷ []) [])
new_is_log (Ok v) store first small low is =
    subst (λ (b : List ℕ). IsStoreLog store first b (any_root ∷ []) []) (sym is) (whole store first (any_root ∷ []) small low (cons_some any_root []) (short_record AnyRoot 0 [] (omega arith), tt))
new_is_log (Err e) store first small low is = tt

-- a whole log with a frame, or a part of it, appended
pub appended : (store first : ℕ) (bytes : List ℕ) (records : List (List ℕ)) (p : List ℕ) → IsStoreLog store first bytes records [] → IsShort p
    → IsStoreLog store first (bytes ++ frame (numbered (first + length records) p)) (records ++ p ∷ []) []
appended store first bytes records p log s = record {
  frames = log.frames ++ frame (numbered (first + length records) p);
  headed = ap (λ (l : List ℕ). l ++ frame (numbered (first + length records) p)) log.headed ∙ append_assoc (store_head store) log.frames (frame (numbered (first + length records) p));
  is_numbered = record {
    spelled =
        ap (λ (l : List ℕ). l ++ frame (numbered (first + length records) p)) (log.is_numbered.spelled ∙ append-nil (frames_from first records))
        ∙ frames-last first records p ∙ sym (append-nil (frames_from first (records ++ p ∷ [])));
    each = each-last records p log.is_numbered.each s;
    torn = none_in_nothing (first + length (records ++ p ∷ []));
  };
  begun = last_some records p;
  is_store = log.is_store;
  is_first = log.is_first;
}

pub appended_part : (store first n : ℕ) (bytes : List ℕ) (records : List (List ℕ)) (p : List ℕ) → IsStoreLog store first bytes records [] → IsShort p → ¬ Hides (first + length records) p
    → IsStoreLog store first (bytes ++ take n (frame (numbered (first + length records) p))) records (take n (frame (numbered (first + length records) p)))
    ⊎ IsStoreLog store first (bytes ++ take n (frame (numbered (first + length records) p))) (records ++ p ∷ []) []
appended_part store first n bytes records p log s plain =
    let more : List ℕ = take n (frame (numbered (first + length records) p)) in
    let front : frames_from first records ≡ log.frames = sym (log.is_numbered.spelled ∙ append-nil (frames_from first records)) in
    let head : bytes ++ more ≡ store_head store ++ (log.frames ++ more) = ap (λ (l : List ℕ). l ++ more) log.headed ∙ append_assoc (store_head store) log.frames more in
    elim (in_part first n records p log.is_numbered.each s plain) [
      | inl part ↦ inl (record {
        frames = log.frames ++ more;
        headed = head;
        is_numbered = subst (λ (f : List ℕ). IsNumberedLog first (f ++ more) records more) front part;
        begun = log.begun;
        is_store = log.is_store;
        is_first = log.is_first;
      })
      | inr all ↦ inr (record {
        frames = log.frames ++ more;
        headed = head;
        is_numbered = subst (λ (f : List ℕ). IsNumberedLog first (f ++ more) (records ++ p ∷ []) []) front all;
        begun = last_some records p;
        is_store = log.is_store;
        is_first = log.is_first;
      })
    ]

-- a log without its tail
pub front : (store first end : ℕ) (bytes : List ℕ) (records : List (List ℕ)) → IsStoreLog store first bytes records (drop end bytes) → IsStoreLog store first (take end bytes) records []
front store first end bytes records log =
    let is : take end bytes ≡ store_log store first records =
    append_cancel_right (take end bytes) (store_log store first records) (drop end bytes)
    (take-append-drop end bytes ∙ log.headed ∙ ap (λ (l : List ℕ). store_head store ++ l) log.is_numbered.spelled ∙ sym (append_assoc (store_head store) (frames_from first records) (drop end bytes))) in
    subst (λ (b : List ℕ). IsStoreLog store first b records []) (sym is) (whole store first records log.is_store log.is_first log.begun log.is_numbered.each)

-- ---- upgrading

-- one more record of format 1
pub upgraded_more : (store first n : ℕ) (made new edits : List ℕ) (records all : List (List ℕ)) → made ≡ store_log store first (upgraded records) → n ≡ (first + length records) + 1
    → new ≡ made ++ frame (numbered n (spelled_record Entries 0 edits)) → all ≡ records ++ edits ∷ [] → new ≡ store_log store first (upgraded all)
upgraded_more store first n made new edits records all is counted grew more =
    let p : List ℕ = spelled_record Entries 0 edits in
    let count : n ≡ first + length (upgraded records) = omega (arith, counted, length-mapped records) in
    grew
    ∙ ap (λ (l : List ℕ). l ++ frame (numbered n p)) is
    ∙ append_assoc (store_head store) (frames_from first (upgraded records)) (frame (numbered n p))
    ∙ ap (λ (k : ℕ). store_head store ++ (frames_from first (upgraded records) ++ frame (numbered k p))) count
    ∙ ap (λ (l : List ℕ). store_head store ++ l) (frames-last first (upgraded records) p)
    ∙ ap (store_log store first) (mapped records)
    ∙ ap (λ (rs : List (List ℕ)). store_log store first (upgraded rs)) (sym more)
  where
    length-mapped : (rs : List (List ℕ)) → length (upgraded rs) ≡ suc (length rs)
    length-mapped [] = refl
    length-mapped (r ∷ rs) = ap suc (length-mapped rs)

    lasts : (rs : List (List ℕ)) → map (spelled_record Entries 0) rs ++ spelled_record Entries 0 edits ∷ [] ≡ map (spelled_record Entries 0) (rs ++ edits ∷ [])
    lasts [] = refl
    lasts (r ∷ rs) = ap (λ (ls : List (List ℕ)). spelled_record Entries 0 r ∷ ls) (lasts rs)

    mapped : (rs : List (List ℕ)) → upgraded rs ++ spelled_record Entries 0 edits ∷ [] ≡ upgraded (rs ++ edits ∷ [])
    mapped rs = ap (λ (ls : List (List ℕ)). any_root ∷ ls) (lasts rs)

pub short_each : (records : List (List ℕ)) → AllByRecursion IsBody records → AllByRecursion IsShort (upgraded records)
short_each records each = (short_record AnyRoot 0 [] (omega arith), mapped records each)
  where
    mapped : (rs : List (List ℕ)) → AllByRecursion IsBody rs → AllByRecursion IsShort (map (spelled_record Entries 0) rs)
    mapped [] all = tt
    mapped (r ∷ rs) all = (short_record Entries 0 r all.0, mapped rs all.1)

-- the log of the records of format 1, which can be read in only one way
pub upgraded_log : (bytes made tail other : List ℕ) (store first : ℕ) (found records : List (List ℕ)) → store < 2 ^ 64 → first < 2 ^ 63 → IsLog bytes found other → made ≡ store_log store first (upgraded found)
    → AllByRecursion IsBody found → IsLog bytes records tail → IsStoreLog store first made (upgraded records) []
upgraded_log bytes made tail other store first found records small low log is each also =
    let same : found ≡ records = (format1.one_reading bytes found records other tail log also).0 in
    subst (λ (rs : List (List ℕ)). IsStoreLog store first made (upgraded rs) []) same
    (subst (λ (b : List ℕ). IsStoreLog store first b (upgraded found) []) (sym is)
    (whole store first (upgraded found) small low (cons_some any_root (map (spelled_record Entries 0) found)) (short_each found each)))
