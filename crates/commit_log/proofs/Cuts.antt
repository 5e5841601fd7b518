-- A log can be read in only one way, and a log that was cut short is a log of a prefix of its records.
use Rattle.std.proofs.Common.{◌≡◌, ℕ, suc, ◌-◌, ◌<◌, ◌≤◌, ◌⊎◌, inl, inr, append-nil, List, [], ◌∷◌, ◌++◌, length, take, drop, refl, sym, ap, ◌∙◌, subst, arith, take_at, drop_at, length-append, append_assoc}
use Rattle.std.proofs.lemmas.List.{take-append-drop, take-append-le, length-drop, append_cancel_left, flat_map_more, take_all}
use Rattle.std.proofs.Math.Seq.{take-append-add}
use Rattle.std.proofs.lemmas.Bool.{cases_lt}
use Rattle.std.specs.List.{AllByRecursion, flat_map}
use Rattle.commit_log.specs.Frames.{frame, head, log_of, IsLog, IsRecord, IsTail}
use Rattle.commit_log.proofs.Fronts.{begins}

pub same_front : (a b x y : List ℕ) → length a ≡ length b → a ++ x ≡ b ++ y → (a ≡ b) × (x ≡ y)
same_front a b x y size same = (
  sym (take_at a x (length a) refl) ∙ ap (take (length a)) same ∙ take_at b y (length a) (sym size),
  sym (drop_at a x (length a) refl) ∙ ap (drop (length a)) same ∙ drop_at b y (length a) (sym size),
)

-- a frame is followed by the rest of the bytes
pub same_frame : (p q x y : List ℕ) → IsRecord p → IsRecord q → frame p ++ x ≡ frame q ++ y → (p ≡ q) × (x ≡ y)
same_frame p q x y fits also same =
    let one = begins (frame p ++ x) p x fits refl in
    let other = begins (frame p ++ x) q y also same in
    same_front p q x y (sym one.announced ∙ other.announced) (sym one.rest ∙ other.rest)

one_way : (as' bs : List (List ℕ)) (x y : List ℕ) → AllByRecursion IsRecord as' → AllByRecursion IsRecord bs → IsTail x → IsTail y
    → flat_map frame as' ++ x ≡ flat_map frame bs ++ y → (as' ≡ bs) × (x ≡ y)
one_way [] [] x y p q u v same = (refl, same)
one_way [] (b ∷ bs) x y p q u v same = absurd (u b (flat_map frame bs ++ y) q.0 (same ∙ append_assoc (frame b) (flat_map frame bs) y))
one_way (a ∷ as') [] x y p q u v same = absurd (v a (flat_map frame as' ++ x) p.0 (sym same ∙ append_assoc (frame a) (flat_map frame as') x))
one_way (a ∷ as') (b ∷ bs) x y p q u v same =
    let first = same_frame a b (flat_map frame as' ++ x) (flat_map frame bs ++ y) p.0 q.0
    (sym (append_assoc (frame a) (flat_map frame as') x) ∙ same ∙ append_assoc (frame b) (flat_map frame bs) y) in
    let more = one_way as' bs x y p.1 q.1 u v first.1 in
    (ap (λ h. h ∷ as') first.0 ∙ ap (λ t. b ∷ t) more.0, more.1)

pub one_reading : (bytes : List ℕ) (as' bs : List (List ℕ)) (x y : List ℕ) → IsLog bytes as' x → IsLog bytes bs y → (as' ≡ bs) × (x ≡ y)
one_reading bytes as' bs x y p q =
    one_way as' bs x y p.each q.each p.torn q.torn
    (append_cancel_left head (flat_map frame as' ++ x) (flat_map frame bs ++ y)
    (sym (append_assoc head (flat_map frame as') x) ∙ sym p.spelled ∙ q.spelled ∙ append_assoc head (flat_map frame bs) y))

-- ---- tails

pub nothing_left : IsTail []
nothing_left p x fits same = let b = begins [] p x fits same in omega (arith, b.size)

-- a proper prefix of a frame
pub torn_frame : (p : List ℕ) (n : ℕ) → IsRecord p → n < length (frame p) → IsTail (take n (frame p))
torn_frame p n fits short q x also same =
    let whole : frame p ++ [] ≡ frame q ++ (x ++ drop n (frame p)) =
    append-nil (frame p) ∙ sym (take-append-drop n (frame p)) ∙ ap (λ (l : List ℕ). l ++ drop n (frame p)) same ∙ append_assoc (frame q) x (drop n (frame p)) in
    let left = (same_frame p q [] (x ++ drop n (frame p)) fits also whole).1 in
    omega (arith, ap length left, length-append x (drop n (frame p)), length-drop n (frame p))

pub all_of_frame : (p : List ℕ) (n : ℕ) → length (frame p) ≤ n → take n (frame p) ≡ frame p
all_of_frame p n long = take_all n (frame p) long

-- ---- records in a row

pub each-last : (records : List (List ℕ)) (p : List ℕ) → AllByRecursion IsRecord records → IsRecord p → AllByRecursion IsRecord (records ++ p ∷ [])
each-last [] p each fits = (fits, tt)
each-last (r ∷ rs) p each fits = (each.0, each-last rs p each.1 fits)

pub log_of-last : (records : List (List ℕ)) (p : List ℕ) → log_of records ++ frame p ≡ log_of (records ++ p ∷ [])
log_of-last records p = flat_map_more frame head records p

pub whole : (records : List (List ℕ)) → AllByRecursion IsRecord records → IsLog (log_of records) records []
whole records each = record { spelled = sym (append-nil (log_of records)); each = each; torn = nothing_left }

-- a log with one more frame, and one with a part of a frame appended
pub one_more : (records : List (List ℕ)) (p : List ℕ) → AllByRecursion IsRecord records → IsRecord p → IsLog (log_of records ++ frame p) (records ++ p ∷ []) []
one_more records p each fits =
    subst (λ (bytes : List ℕ). IsLog bytes (records ++ p ∷ []) []) (sym (log_of-last records p)) (whole (records ++ p ∷ []) (each-last records p each fits))

pub in_part : (records : List (List ℕ)) (p : List ℕ) (n : ℕ) → AllByRecursion IsRecord records → IsRecord p
    → IsLog (log_of records ++ take n (frame p)) records (take n (frame p)) ⊎ IsLog (log_of records ++ take n (frame p)) (records ++ p ∷ []) []
in_part records p n each fits = elim (cases_lt n (length (frame p))) [
  | inl short ↦ inl (record { spelled = refl; each = each; torn = torn_frame p n fits short })
  | inr long ↦ inr (subst (λ (more : List ℕ). IsLog (log_of records ++ more) (records ++ p ∷ []) []) (sym (all_of_frame p n long)) (one_more records p each fits))
]

-- ---- a prefix of a log

record Cut (records : List (List ℕ)) (n : ℕ) : Type 0 where
  k : ℕ
  tail : List ℕ
  spelled : take n (flat_map frame records) ≡ flat_map frame (take k records) ++ tail
  each : AllByRecursion IsRecord (take k records)
  torn : IsTail tail

cut_frames : (records : List (List ℕ)) (n : ℕ) → AllByRecursion IsRecord records → Cut records n
cut_frames [] n each = record { k = 0; tail = []; spelled = take_all n [] (omega arith); each = tt; torn = nothing_left }
cut_frames (r ∷ rs) n each = elim (cases_lt n (length (frame r))) [
  | inl short ↦ record {
    k = 0;
    tail = take n (frame r);
    spelled = take-append-le n (frame r) (flat_map frame rs) (omega (arith, short));
    each = tt;
    torn = torn_frame r n each.0 short;
  }
  | inr long ↦
      let m : ℕ = n - length (frame r) in
      let more = cut_frames rs m each.1 in
      record {
        k = suc more.k;
        tail = more.tail;
        spelled =
            ap (λ (j : ℕ). take j (frame r ++ flat_map frame rs)) (omega (arith, long)) ∙ take-append-add (frame r) (flat_map frame rs) m
            ∙ ap (λ (l : List ℕ). frame r ++ l) more.spelled ∙ sym (append_assoc (frame r) (flat_map frame (take more.k rs)) more.tail);
        each = (each.0, more.each);
        torn = more.torn;
      }
]

pub cut_log : (records : List (List ℕ)) (n : ℕ) → AllByRecursion IsRecord records → 8 ≤ n
    → (k : ℕ) × (tail : List ℕ) × IsLog (take n (log_of records)) (take k records) tail
cut_log records n each far =
    let m : ℕ = n - 8 in
    let cut = cut_frames records m each in (
      cut.k,
      cut.tail,
      record {
        spelled =
            ap (λ (j : ℕ). take j (log_of records)) (omega (arith, far)) ∙ take-append-add head (flat_map frame records) m
            ∙ ap (λ (l : List ℕ). head ++ l) cut.spelled ∙ sym (append_assoc head (flat_map frame (take cut.k records)) cut.tail);
        each = cut.each;
        torn = cut.torn;
      },
    )
