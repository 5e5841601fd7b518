-- The room that visits take.
use Rattle.std.proofs.Common.{◌≡◌, ℕ, ◌+◌, ◌*◌, ◌≤◌, List, [], ◌∷◌, ◌++◌, length, Some, ◌⊎◌, inl, inr, refl, sym, ap, subst, arith}
use Rattle.cell_key.specs.Cells.{Cells}
use Rattle.cell_key.specs.declared.edits.Edit.{Edit}
use Rattle.rows.specs.Calls.{AppliesSuch, View}
use Rattle.rows.specs.Room.{HasNoRoom, TakesNoRoom}
use Rattle.si_model.specs.Sets.{◌∈◌, here, there}
use Rattle.si_model.specs.declared.replies.Cell.{Cell}
use Rattle.version_collector.specs.Erasing.{CollectsCell, data_erasures, deletion_erasures, record_erasures}
use Rattle.version_collector.specs.Room.{AreOfVisits, AreOfVisitsIn, ErasesVersion, TakesRoomOfVisits}
use Rattle.version_collector.proofs.VisitedCells.{together_length}

joined : {A : Type 0} (xs ys zs : List A) → (xs ++ ys) ++ zs ≡ xs ++ (ys ++ zs)
joined [] ys zs = refl
joined (x ∷ xs) ys zs = ap (λ l. x ∷ l) (joined xs ys zs)

in_either : {A : Type 0} (e : A) (xs ys : List A) → e ∈ (xs ++ ys) → (e ∈ xs) ⊎ (e ∈ ys)
in_either e [] ys i = inr i
in_either e (_ ∷ xs) ys here = inl here
in_either e (x ∷ xs) ys (there i) = elim (in_either e xs ys i) [ inl a ↦ inl (there a) | inr b ↦ inr b ]

of_none : (n : ℕ) → AreOfVisits n []
of_none n = record { few = omega arith; each = λ e i. elim i [ ] }

of_then : (m n : ℕ) (xs ys : List Edit) → AreOfVisits m xs → AreOfVisits n ys → AreOfVisits (m + n) (xs ++ ys)
of_then m n xs ys first second = record {
  few = let l = together_length xs ys in let p = first.few in let q = second.few in omega arith;
  each = λ e i. elim (in_either e xs ys i) [ inl a ↦ first.each e a | inr b ↦ second.each e b ];
}

of_few : (m n : ℕ) (xs : List Edit) → m ≤ n → AreOfVisits m xs → AreOfVisits n xs
of_few m n xs le of = record { few = let p = of.few in omega arith; each = of.each }

module _ {R : Type 0} (overfills : R → List ℕ → List Edit → Type 0) where
  pub room_none : (n : ℕ) (a b : R) → TakesNoRoom overfills a b → TakesRoomOfVisits overfills n a b
  room_none n a b none row later full = ([], of_none n, none row later full)

  pub room_same : (n : ℕ) (a : R) → TakesRoomOfVisits overfills n a a
  room_same n a row later full = ([], of_none n, full)

  pub room_then : (m n : ℕ) (a b c : R) → TakesRoomOfVisits overfills m a b → TakesRoomOfVisits overfills n b c → TakesRoomOfVisits overfills (m + n) a c
  room_then m n a b c first second row later full =
      let s = second row later full in
      let f = first row (s.0 ++ later) s.2 in
      (f.0 ++ s.0, of_then m n f.0 s.0 f.1 s.1, subst (λ (es : List Edit). overfills a row es) (sym (joined f.0 s.0 later)) f.2)

  pub room_few : (m n : ℕ) (a b : R) → m ≤ n → TakesRoomOfVisits overfills m a b → TakesRoomOfVisits overfills n a b
  room_few m n a b le room row later full = let r = room row later full in (r.0, of_few m n r.0 le r.1, r.2)

  -- no room for the edits of a visit, after the edits of others
  pub no_room_then : (m k n : ℕ) (a b : R) → m + k ≤ n → TakesRoomOfVisits overfills m a b → HasNoRoom overfills b (AreOfVisitsIn k) → HasNoRoom overfills a (AreOfVisitsIn n)
  no_room_then m k n a b le room full =
      let r = room full.0 full.1 full.3 in
      (full.0, r.0 ++ full.1, of_few (m + k) n (r.0 ++ full.1) le (of_then m k r.0 full.1 r.1 full.2), r.2)

-- ---- the edits of one visit

record_count : (x : Cell) (vs : List (ℕ × ℕ)) → length (record_erasures x vs) ≡ 2 * length vs
record_count x [] = refl
record_count x (v ∷ vs) = let n = record_count x vs in omega arith

record_each : (x : Cell) (vs : List (ℕ × ℕ)) (e : Edit) → e ∈ record_erasures x vs → ErasesVersion e
record_each x [] e i = elim i [ ]
record_each x (v ∷ vs) _ here = (x, v.0, inl refl)
record_each x (v ∷ vs) _ (there here) = (x, v.1, inr refl)
record_each x (v ∷ vs) e (there (there i)) = record_each x vs e i

data_count : (x : Cell) (ts : List ℕ) → length (data_erasures x ts) ≡ length ts
data_count x [] = refl
data_count x (t ∷ ts) = let n = data_count x ts in omega arith

data_each : (x : Cell) (ts : List ℕ) (e : Edit) → e ∈ data_erasures x ts → ErasesVersion e
data_each x [] e i = elim i [ ]
data_each x (t ∷ ts) _ here = (x, t, inr refl)
data_each x (t ∷ ts) e (there i) = data_each x ts e i

deletion_each : (x : Cell) (c : ℕ) (e : Edit) → e ∈ deletion_erasures x (Some c) → ErasesVersion e
deletion_each x c _ here = (x, c, inl refl)
deletion_each x c e (there i) = elim i [ ]

pub of_one_visit : (Holds : Type 0) (cells : Cells) (x : Cell) (floor : ℕ) (row : List ℕ) (edits : List Edit) → CollectsCell Holds cells x floor row edits → AreOfVisits 1 edits
of_one_visit Holds cells x floor row edits (under, inl r) = subst (λ (es : List Edit). AreOfVisits 1 es) (sym r.are)
    (record { few = let n = record_count x r.vs in let few = r.few in omega arith; each = record_each x r.vs })
of_one_visit Holds cells x floor row edits (under, inr (inl r)) = subst (λ (es : List Edit). AreOfVisits 1 es) (sym r.are)
    (record { few = let n = data_count x r.ts in let few = r.few in omega arith; each = data_each x r.ts })
of_one_visit Holds cells x floor row edits (under, inr (inr r)) = subst (λ (es : List Edit). AreOfVisits 1 es) (sym r.are)
    (record { few = omega arith; each = deletion_each x r.c })

module _ {R : Type 0} (seen : View R) where
  pub room_applied : (Holds : Type 0) (x : Cell) (floor : ℕ) (a b : R) → AppliesSuch seen (CollectsCell Holds (seen.cells a) x floor) a b → TakesRoomOfVisits seen.overfills 1 a b
  room_applied Holds x floor a b made row later full = elim (made.applied.room row later full) [
    | inl before ↦ ([], of_none 1, before)
    | inr after ↦ (made.edits, of_one_visit Holds (seen.cells a) x floor made.row made.edits made.such, after)
  ]

  pub no_room_of : (Holds : Type 0) (x : Cell) (floor : ℕ) (a : R) → HasNoRoom seen.overfills a (CollectsCell Holds (seen.cells a) x floor) → HasNoRoom seen.overfills a (AreOfVisitsIn 1)
  no_room_of Holds x floor a (row, edits, such, full) = (row, edits, of_one_visit Holds (seen.cells a) x floor row edits such, full)
