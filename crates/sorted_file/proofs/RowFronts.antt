-- The first eight bytes of a row are read from the text of a key.
use Rattle.std.proofs.Common.{◌≡◌, ◌≢◌, ◌+◌, ◌-◌, ◌≤◌, ◌<◌, ◌==◌, cond, ℕ, zero, suc, true, false, List, [], ◌∷◌, ◌++◌, length, get_or, ◌⊎◌, inl, inr, refl, sym, ap, ◌∙◌, arith, length-append}
use Rattle.std.proofs.Math.Dec.{eqb, leb}
use Rattle.std.proofs.Math.ListN.{set, length-set}
use Rattle.std.proofs.Math.Seq.{get_or-append_seam, get_or-append_right}
use Rattle.std.proofs.lemmas.Bool.Decides.{eqb_tells, leb_tells, nat_tests}
use Rattle.std.proofs.lemmas.List.{get_or_append_left, get_or-set_other, get_or-set_same}
use Rattle.std.specs.Int.{w64, from_be_bytes}
use Rattle.cell_key.specs.Keys.{qualifier_name, text}
use Rattle.cell_key.specs.Texts.{ended, escaped, escaped_byte, stamp_text}
use Rattle.cell_key.specs.declared.keys.CellKey.{CellKey}
use Rattle.cell_key.proofs.PartEnds.{push_byte, row_end}
use Rattle.sorted_file.specs.Bounds.{front}

heads : (x y : ℕ) (xs ys : List ℕ) → x ∷ xs ≡ y ∷ ys → x ≡ y
heads x y xs ys e = cc

tails : (x y : ℕ) (xs ys : List ℕ) → x ∷ xs ≡ y ∷ ys → xs ≡ ys
tails x y xs ys e = cc

seconds : (x y u v : ℕ) (xs ys : List ℕ) → x ∷ u ∷ xs ≡ y ∷ v ∷ ys → u ≡ v
seconds x y u v xs ys e = cc

plain_byte : (c : ℕ) → escaped_byte (suc c) ≡ suc c ∷ []
plain_byte c = let e : (suc c == 0) ≡ false = grind (arith, nat_tests) in ap (λ t. cond t (0 ∷ 255 ∷ []) (suc c ∷ [])) e

escaped_plain : (c : ℕ) (row : List ℕ) → escaped (suc c ∷ row) ≡ suc c ∷ escaped row
escaped_plain c row = ap (λ (t : List ℕ). t ++ escaped row) (plain_byte c)

-- the bytes read of a row are its first ones
pub row_front : (done left row rest : List ℕ) → escaped done ++ left ≡ ended (escaped row) ++ rest → (more : List ℕ) × (row ≡ done ++ more)
row_front [] left row rest e = (row, refl)
row_front (zero ∷ done) left [] rest e = let h = seconds 0 0 255 0 _ _ e in absurd (omega (arith, h))
row_front (suc x ∷ done) left [] rest e = let h = heads (suc x) 0 _ _ (ap (λ (t : List ℕ). t ++ left) (sym (escaped_plain x done)) ∙ e) in absurd (omega (arith, h))
row_front (zero ∷ done) left (zero ∷ row) rest e =
    let on = row_front done left row rest (tails 255 255 _ _ (tails 0 0 _ _ e)) in
    (on.0, ap (λ (t : List ℕ). 0 ∷ t) on.1)
row_front (zero ∷ done) left (suc y ∷ row) rest e = let h = heads 0 (suc y) _ _ (e ∙ ap (λ (t : List ℕ). ended t ++ rest) (escaped_plain y row)) in absurd (omega (arith, h))
row_front (suc x ∷ done) left (zero ∷ row) rest e = let h = heads (suc x) 0 _ _ (ap (λ (t : List ℕ). t ++ left) (sym (escaped_plain x done)) ∙ e) in absurd (omega (arith, h))
row_front (suc x ∷ done) left (suc y ∷ row) rest e =
    let f = ap (λ (t : List ℕ). t ++ left) (sym (escaped_plain x done)) ∙ e ∙ ap (λ (t : List ℕ). ended t ++ rest) (escaped_plain y row) in
    let on = row_front done left row rest (tails (suc x) (suc y) _ _ f) in
    let head = heads (suc x) (suc y) _ _ f in
    (on.0, λ i. sym head i ∷ on.1 i)

-- the row's bytes up to this place were read, and are in the buffer, before zeros
pub record IsFrontRead (bytes left buffer : List ℕ) (at : ℕ) : Type 0 where
  pub done : List ℕ
  pub count : length done ≡ at
  pub within : at ≤ 8
  pub long : length buffer ≡ 8
  pub read : bytes ≡ escaped done ++ left
  pub same : (k : ℕ) → get_or buffer k 0 ≡ get_or done k 0

abbrev blank : List ℕ
blank = 0 ∷ 0 ∷ 0 ∷ 0 ∷ 0 ∷ 0 ∷ 0 ∷ 0 ∷ []

blank_at : (k : ℕ) → get_or blank k 0 ≡ get_or {A = ℕ} [] k 0
blank_at zero = refl
blank_at (suc zero) = refl
blank_at (suc (suc zero)) = refl
blank_at (suc (suc (suc zero))) = refl
blank_at (suc (suc (suc (suc zero)))) = refl
blank_at (suc (suc (suc (suc (suc zero))))) = refl
blank_at (suc (suc (suc (suc (suc (suc zero)))))) = refl
blank_at (suc (suc (suc (suc (suc (suc (suc zero))))))) = refl
blank_at (suc (suc (suc (suc (suc (suc (suc (suc k)))))))) = refl

pub none_read : (bytes : List ℕ) → IsFrontRead bytes bytes blank 0
none_read bytes = record { done = []; count = refl; within = omega arith; long = refl; read = refl; same = blank_at }

past_one : (b k : ℕ) → 1 ≤ k → get_or (b ∷ []) k 0 ≡ 0
past_one b zero h = absurd (omega (arith, h))
past_one b (suc k) h = refl

past_end : (xs : List ℕ) (k : ℕ) → length xs ≤ k → get_or xs k 0 ≡ 0
past_end [] k h = refl
past_end (x ∷ xs) zero h = absurd (omega (arith, h))
past_end (x ∷ xs) (suc k) h = past_end xs k (omega (arith, h))

pub one_read : (bytes left after buffer : List ℕ) (at b : ℕ) → IsFrontRead bytes left buffer at → at < 8 → left ≡ escaped_byte b ++ after → IsFrontRead bytes after (set buffer at b) (at + 1)
one_read bytes left after buffer at b r low e =
    let count = r.count in
    let long = r.long in
    record {
      done = r.done ++ b ∷ [];
      count = length-append r.done (b ∷ []) ∙ omega (arith, count);
      within = omega (arith, low);
      long = length-set buffer at b ∙ long;
      read = r.read ∙ ap (λ (t : List ℕ). escaped r.done ++ t) e ∙ push_byte r.done after b;
      same = λ k. by_place k (eqb_tells k at);
    }
  where
    here : (k : ℕ) → k ≡ at → get_or (set buffer at b) k 0 ≡ get_or (r.done ++ b ∷ []) k 0
    here k is =
        let count = r.count in
        let long = r.long in
        ap (λ (n : ℕ). get_or (set buffer at b) n 0) is ∙ get_or-set_same buffer at b 0 (omega (arith, long, low)) ∙ sym (get_or-append_seam r.done b [] 0)
        ∙ ap (λ (n : ℕ). get_or (r.done ++ b ∷ []) n 0) (omega (arith, count, is))

    other : (k : ℕ) → k ≢ at → ((leb (length r.done) k ≡ true) × (length r.done ≤ k)) ⊎ ((leb (length r.done) k ≡ false) × (k < length r.done))
        → get_or r.done k 0 ≡ get_or (r.done ++ b ∷ []) k 0
    other k not (inl past) =
        let count = r.count in
        let high = past.1 in
        past_end r.done k high ∙ sym (get_or-append_right r.done (b ∷ []) k 0 high ∙ past_one b (k - length r.done) (omega (arith, not, count, high)))
    other k not (inr low) = sym (get_or_append_left r.done (b ∷ []) 0 k low.1)

    by_place : (k : ℕ) → ((eqb k at ≡ true) × (k ≡ at)) ⊎ ((eqb k at ≡ false) × (k ≢ at)) → get_or (set buffer at b) k 0 ≡ get_or (r.done ++ b ∷ []) k 0
    by_place k (inl is) = here k is.1
    by_place k (inr is) = get_or-set_other buffer at k b 0 is.1 ∙ r.same k ∙ other k is.1 (leb_tells (length r.done) k)

-- eight bytes
eight : (xs : List ℕ) → length xs ≡ 8 → xs ≡ get_or xs 0 0 ∷ get_or xs 1 0 ∷ get_or xs 2 0 ∷ get_or xs 3 0 ∷ get_or xs 4 0 ∷ get_or xs 5 0 ∷ get_or xs 6 0 ∷ get_or xs 7 0 ∷ []
eight (a ∷ b ∷ c ∷ d ∷ e ∷ f ∷ g ∷ h ∷ []) n = refl
eight [] n = absurd (omega (arith, n))
eight (a ∷ []) n = absurd (omega (arith, n))
eight (a ∷ b ∷ []) n = absurd (omega (arith, n))
eight (a ∷ b ∷ c ∷ []) n = absurd (omega (arith, n))
eight (a ∷ b ∷ c ∷ d ∷ []) n = absurd (omega (arith, n))
eight (a ∷ b ∷ c ∷ d ∷ e ∷ []) n = absurd (omega (arith, n))
eight (a ∷ b ∷ c ∷ d ∷ e ∷ f ∷ []) n = absurd (omega (arith, n))
eight (a ∷ b ∷ c ∷ d ∷ e ∷ f ∷ g ∷ []) n = absurd (omega (arith, n))
eight (a ∷ b ∷ c ∷ d ∷ e ∷ f ∷ g ∷ h ∷ i ∷ xs) n = absurd (omega (arith, n))

same_front : (buffer row : List ℕ) → length buffer ≡ 8 → ((k : ℕ) → k < 8 → get_or buffer k 0 ≡ get_or row k 0) → from_be_bytes w64 buffer ≡ front row
same_front buffer row long same =
    ap (from_be_bytes w64) (eight buffer long)
    ∙ (λ i. from_be_bytes w64 (same 0 (omega arith) i ∷ same 1 (omega arith) i ∷ same 2 (omega arith) i ∷ same 3 (omega arith) i
    ∷ same 4 (omega arith) i ∷ same 5 (omega arith) i ∷ same 6 (omega arith) i ∷ same 7 (omega arith) i ∷ []))

-- the whole row was read
pub short_front : (bytes left buffer : List ℕ) (at : ℕ) → IsFrontRead bytes left buffer at → ((byte : ℕ) (rest : List ℕ) → left ≢ escaped_byte byte ++ rest)
    → (key : CellKey) → bytes ≡ text key → from_be_bytes w64 buffer ≡ front key.row
short_front bytes left buffer at r none key is =
    let rest = ended key.family ++ (ended (qualifier_name key.qualifier) ++ stamp_text key.stamp) in
    let same = (row_end r.done left key.row rest none (sym r.read ∙ is)).0 in
    same_front buffer key.row r.long (λ k low. r.same k ∙ ap (λ (row : List ℕ). get_or row k 0) same)

-- or eight bytes of it
pub full_front : (bytes left buffer : List ℕ) → IsFrontRead bytes left buffer 8 → (key : CellKey) → bytes ≡ text key → from_be_bytes w64 buffer ≡ front key.row
full_front bytes left buffer r key is =
    let rest = ended key.family ++ (ended (qualifier_name key.qualifier) ++ stamp_text key.stamp) in
    let on = row_front r.done left key.row rest (sym r.read ∙ is) in
    let count = r.count in
    same_front buffer key.row r.long (λ k low.
    r.same k ∙ sym (get_or_append_left r.done on.0 0 k (omega (arith, count, low))) ∙ ap (λ (row : List ℕ). get_or row k 0) (sym on.1))
