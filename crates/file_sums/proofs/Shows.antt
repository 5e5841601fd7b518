-- The files that are shown, of those that are kept below.
use Rattle.std.proofs.Common.{◌≡◌, ◌≢◌, ◌==◌, ◌∙◌, ℕ, ◌+◌, ◌-◌, ◌^◌, ◌<◌, ◌≤◌, Bool, true, false, cond, nat_lt, List, [], ◌∷◌, ◌++◌, arith, tests, refl, sym, ap, Option, Some, None, true≢false}
use Rattle.std.specs.Prelude.{option_map}
use Rattle.std.specs.List.{flat_map}
use Rattle.std.specs.Ordering.{nat_cmp}
use Rattle.std.specs.Cmp.{nat_cmp_total, unsigned_tied}
use Rattle.std.specs.FinMap.{entries, get, get-entries, get-from_entries}
use Rattle.std.specs.FinMap.Entries.{find}
use borrow.Author.Tests.{eqb-true}
use Rattle.file_store.specs.Store.{Contents}
use Rattle.file_sums.specs.Shown.{payload_of, shown_entry, shown}

-- the bytes that are shown under a number, of those below under both of its names
abbrev pub shown_at : (ℕ → Bool) → Option (List ℕ) → Option (List ℕ) → ℕ → Option (List ℕ)
shown_at s high low q = cond (s q) (option_map payload_of high) (cond (nat_lt q (2 ^ 63)) low None)

-- the value of the first entry with a number
abbrev pub at : ℕ → List (ℕ × List ℕ) → Option (List ℕ)
at q [] = None
at q (e ∷ es) = cond (q == e.0) (Some e.1) (at q es)

pub find-at : (q : ℕ) (es : List (ℕ × List ℕ)) → find nat_cmp q es ≡ at q es
find-at q [] = refl
find-at q (e ∷ es) =
    ap (λ (b : Bool). cond b (Some e.1) (find nat_cmp q es)) (unsigned_tied q e.0) ∙ ap (cond (q == e.0) (Some e.1)) (find-at q es)

pub different : (a b : ℕ) → a ≢ b → (a == b) ≡ false
different a b apart = by (a == b) refl
  where
    by : (x : Bool) → (a == b) ≡ x → x ≡ false
    by true e = absurd (apart (eqb-true a b e))
    by false e = refl

pub same : (a : ℕ) → (a == a) ≡ true
same a = by (a == a) refl
  where
    by : (x : Bool) → (a == a) ≡ x → x ≡ true
    by true e = refl
    by false e = grind (arith, tests)

not_both : (b : Bool) → b ≡ true → b ≡ false → ⊥
not_both b ya na = absurd (true≢false (sym ya ∙ na))

-- what is shown depends on what counts alone
pub shown_same : (s s' : ℕ → Bool) (h h' l l' : Option (List ℕ)) (q : ℕ) → s q ≡ s' q → (s q ≡ true → h ≡ h')
    → (s q ≡ false → nat_lt q (2 ^ 63) ≡ true → l ≡ l') → shown_at s h l q ≡ shown_at s' h' l' q
shown_same s s' h h' l l' q alike high low =
    by (s q) refl ∙ ap (λ (b : Bool). cond b (option_map payload_of h') (cond (nat_lt q (2 ^ 63)) l' None)) alike
  where
    within : (c : Bool) → nat_lt q (2 ^ 63) ≡ c → s q ≡ false → cond c l None ≡ cond c l' None
    within true e na = low na e
    within false e na = refl

    by : (b : Bool) → s q ≡ b → cond b (option_map payload_of h) (cond (nat_lt q (2 ^ 63)) l None) ≡ cond b (option_map payload_of h') (cond (nat_lt q (2 ^ 63)) l' None)
    by true e = ap (option_map payload_of) (high e)
    by false e = within (nat_lt q (2 ^ 63)) refl e

pub of_high : (s : ℕ → Bool) (h l : Option (List ℕ)) (q : ℕ) → s q ≡ true → shown_at s h l q ≡ option_map payload_of h
of_high s h l q ya = ap (λ (b : Bool). cond b (option_map payload_of h) (cond (nat_lt q (2 ^ 63)) l None)) ya

pub of_low : (s : ℕ → Bool) (h l : Option (List ℕ)) (q : ℕ) → s q ≡ false → nat_lt q (2 ^ 63) ≡ true → shown_at s h l q ≡ l
of_low s h l q na below =
    ap (λ (b : Bool). cond b (option_map payload_of h) (cond (nat_lt q (2 ^ 63)) l None)) na ∙ ap (λ (b : Bool). cond b l None) below

pick : (b : Bool) (x : List ℕ) (o : Option (List ℕ)) → b ≡ false → cond b (Some x) o ≡ o
pick b x o na = ap (λ (c : Bool). cond c (Some x) o) na

taken : (b : Bool) (x : List ℕ) (o : Option (List ℕ)) → b ≡ true → cond b (Some x) o ≡ Some x
taken b x o ya = ap (λ (c : Bool). cond c (Some x) o) ya

is_below : (k : ℕ) → nat_lt k (2 ^ 63) ≡ true → k < 2 ^ 63
is_below k e = grind (arith, tests)

is_above : (k : ℕ) → nat_lt k (2 ^ 63) ≡ false → 2 ^ 63 ≤ k
is_above k e = grind (arith, tests)

-- one more entry below
module _ (s : ℕ → Bool) (k q : ℕ) (v : List ℕ) (rest : List (ℕ × List ℕ)) (high low : Option (List ℕ)) (is : at q rest ≡ shown_at s high low q) where
  abbrev pub high' : Option (List ℕ)
  high' = cond (q + 2 ^ 63 == k) (Some v) high

  abbrev pub low' : Option (List ℕ)
  low' = cond (q == k) (Some v) low

  low_test : k < 2 ^ 63 → nat_lt k (2 ^ 63) ≡ true
  low_test h = grind (arith, tests)

  back : q + 2 ^ 63 ≡ k → q ≡ k - 2 ^ 63
  back e = omega (arith, e)

  hidden_low : k < 2 ^ 63 → s k ≡ true → at q rest ≡ shown_at s high' low' q
  hidden_low below ya =
      is ∙ shown_same s s high high' low low' q refl
      (λ _. sym (pick (q + 2 ^ 63 == k) v high (different (q + 2 ^ 63) k (λ e. omega (arith, e, below)))))
      (λ na _. sym (pick (q == k) v low (different q k (λ e. not_both (s k) ya (ap s (sym e) ∙ na)))))

  a_low : k < 2 ^ 63 → s k ≡ false → cond (q == k) (Some v) (at q rest) ≡ shown_at s high' low' q
  a_low below na = by (q == k) refl
    where
      by : (b : Bool) → (q == k) ≡ b → cond (q == k) (Some v) (at q rest) ≡ shown_at s high' low' q
      by true e =
          let eq : q ≡ k = eqb-true q k e in
          taken (q == k) v (at q rest) e
          ∙ sym (of_low s high' low' q (ap s eq ∙ na) (ap (λ (n : ℕ). nat_lt n (2 ^ 63)) eq ∙ low_test below) ∙ taken (q == k) v low e)
      by false e =
          pick (q == k) v (at q rest) e ∙ is ∙ shown_same s s high high' low low' q refl
          (λ _. sym (pick (q + 2 ^ 63 == k) v high (different (q + 2 ^ 63) k (λ f. omega (arith, f, below)))))
          (λ _ _. sym (pick (q == k) v low e))

  hidden_high : 2 ^ 63 ≤ k → s (k - 2 ^ 63) ≡ false → at q rest ≡ shown_at s high' low' q
  hidden_high above na =
      is ∙ shown_same s s high high' low low' q refl
      (λ ya. sym (pick (q + 2 ^ 63 == k) v high (different (q + 2 ^ 63) k (λ e. not_both (s q) ya (ap s (back e) ∙ na)))))
      (λ _ below. sym (pick (q == k) v low (different q k (λ e. omega (arith, e, above, is_below q below)))))

  a_high : 2 ^ 63 ≤ k → s (k - 2 ^ 63) ≡ true → cond (q == k - 2 ^ 63) (Some (payload_of v)) (at q rest) ≡ shown_at s high' low' q
  a_high above ya = by (q == k - 2 ^ 63) refl
    where
      by : (b : Bool) → (q == k - 2 ^ 63) ≡ b → cond (q == k - 2 ^ 63) (Some (payload_of v)) (at q rest) ≡ shown_at s high' low' q
      by true e =
          let eq : q ≡ k - 2 ^ 63 = eqb-true q (k - 2 ^ 63) e in
          let here : (q + 2 ^ 63 == k) ≡ true = ap (λ (n : ℕ). n == k) (omega (arith, eq, above)) ∙ same k in
          taken (q == k - 2 ^ 63) (payload_of v) (at q rest) e
          ∙ sym (of_high s high' low' q (ap s eq ∙ ya) ∙ ap (option_map payload_of) (taken (q + 2 ^ 63 == k) v high here))
      by false e =
          pick (q == k - 2 ^ 63) (payload_of v) (at q rest) e ∙ is ∙ shown_same s s high high' low low' q refl
          (λ _. sym (pick (q + 2 ^ 63 == k) v high (different (q + 2 ^ 63) k (λ f. not_both (q == k - 2 ^ 63) (ap (λ (n : ℕ). q == n) (sym (back f)) ∙ same q) e))))
          (λ _ below. sym (pick (q == k) v low (different q k (λ f. omega (arith, f, above, is_below q below)))))

  pub step : at q (shown_entry s (k, v) ++ rest) ≡ shown_at s high' low' q
  step = by_kind (nat_lt k (2 ^ 63)) refl
    where
      low_kind : (c : Bool) → k < 2 ^ 63 → s k ≡ c → at q (cond c [] ((k, v) ∷ []) ++ rest) ≡ shown_at s high' low' q
      low_kind true below e = hidden_low below e
      low_kind false below e = a_low below e

      high_kind : (c : Bool) → 2 ^ 63 ≤ k → s (k - 2 ^ 63) ≡ c → at q (cond c ((k - 2 ^ 63, payload_of v) ∷ []) [] ++ rest) ≡ shown_at s high' low' q
      high_kind true above e = a_high above e
      high_kind false above e = hidden_high above e

      by_kind : (b : Bool) → nat_lt k (2 ^ 63) ≡ b → at q (cond b (cond (s k) [] ((k, v) ∷ [])) (cond (s (k - 2 ^ 63)) ((k - 2 ^ 63, payload_of v) ∷ []) []) ++ rest) ≡ shown_at s high' low' q
      by_kind true e = low_kind (s k) (is_below k e) refl
      by_kind false e = high_kind (s (k - 2 ^ 63)) (is_above k e) refl

none_shown : (s : ℕ → Bool) (q : ℕ) → None ≡ shown_at s None None q
none_shown s q = by (s q) (nat_lt q (2 ^ 63))
  where
    by : (b c : Bool) → None ≡ cond b (option_map payload_of None) (cond c None None)
    by true c = refl
    by false true = refl
    by false false = refl

at-shown : (s : ℕ → Bool) (q : ℕ) (es : List (ℕ × List ℕ)) → at q (flat_map (shown_entry s) es) ≡ shown_at s (at (q + 2 ^ 63) es) (at q es) q
at-shown s q [] = none_shown s q
at-shown s q (e ∷ es) = step s e.0 q e.1 (flat_map (shown_entry s) es) (at (q + 2 ^ 63) es) (at q es) (at-shown s q es)

-- the bytes that are shown under a number
pub get-shown : (s : ℕ → Bool) (m : Contents) (q : ℕ) → get (shown s m) q ≡ shown_at s (get m (q + 2 ^ 63)) (get m q) q
get-shown s m q =
    get-from_entries nat_cmp_total (flat_map (shown_entry s) (entries m)) q ∙ find-at q (flat_map (shown_entry s) (entries m)) ∙ at-shown s q (entries m)
    ∙ ap (λ (o : Option (List ℕ)). shown_at s o (at q (entries m)) q) (sym (get-entries m (q + 2 ^ 63) ∙ find-at (q + 2 ^ 63) (entries m)))
    ∙ ap (λ (o : Option (List ℕ)). shown_at s (get m (q + 2 ^ 63)) o q) (sym (get-entries m q ∙ find-at q (entries m)))
