-- What a change of the files below changes of those that are shown.
use Rattle.std.proofs.Common.{◌≡◌, ◌≢◌, ◌==◌, ◌∙◌, ℕ, ◌+◌, ◌^◌, ◌<◌, Bool, true, false, cond, nat_lt, List, arith, refl, sym, ap, subst, Option, Some, None, inl, inr, ⊎_elim, tests}
use Rattle.std.specs.Prelude.{option_map, IsNone}
use Rattle.std.specs.Cmp.{nat_cmp_total, unsigned_tied}
use Rattle.std.specs.FinMap.{get, get-insert, get-remove, insert, remove, same_map, nat_cmp-IsAntisymmetric}
use borrow.Author.Tests.{eqb-true}
use Rattle.file_store.specs.Store.{Contents, KeepsOthers, MayHaveFile, MayLack, with_file, without_file}
use Rattle.file_sums.specs.Shown.{payload_of, shown, all_shown, KeepsBut, KeepsAll}
use Rattle.file_sums.proofs.Shows.{shown_at, shown_same, get-shown, same, different, of_high, of_low}

-- ---- changes at one number

abbrev pub SetAt : ℕ → Option (List ℕ) → Contents → Contents → Type 0
SetAt name r old new = (q : ℕ) → get new q ≡ cond (q == name) r (get old q)

abbrev pub Keeps : ℕ → Contents → Contents → Type 0
Keeps name m m' = (k : ℕ) → k ≢ name → k ≢ name + 2 ^ 63 → get m' k ≡ get m k

get_put : (m : Contents) (k : ℕ) (v : List ℕ) (q : ℕ) → get (insert m k v) q ≡ cond (q == k) (Some v) (get m q)
get_put m k v q = get-insert nat_cmp_total m k v q ∙ ap (λ (b : Bool). cond b (Some v) (get m q)) (unsigned_tied q k)

get_cut : (m : Contents) (k q : ℕ) → get (remove m k) q ≡ cond (q == k) None (get m q)
get_cut m k q = get-remove nat_cmp_total m k q ∙ ap (λ (b : Bool). cond b None (get m q)) (unsigned_tied q k)

to_insert : (name : ℕ) (p : List ℕ) (old new : Contents) → SetAt name (Some p) old new → new ≡ insert old name p
to_insert name p old new set = same_map nat_cmp_total nat_cmp-IsAntisymmetric _ _ (λ q. set q ∙ sym (get_put old name p q))

to_remove : (name : ℕ) (old new : Contents) → SetAt name None old new → new ≡ remove old name
to_remove name old new set = same_map nat_cmp_total nat_cmp-IsAntisymmetric _ _ (λ q. set q ∙ sym (get_cut old name q))

itself : (o : Option (List ℕ)) (get_old : ℕ → Option (List ℕ)) (name q : ℕ) → o ≡ get_old name → cond (q == name) o (get_old q) ≡ get_old q
itself o get_old name q is = by (q == name) refl
  where
    by : (b : Bool) → (q == name) ≡ b → cond b o (get_old q) ≡ get_old q
    by true e = is ∙ ap get_old (sym (eqb-true q name e))
    by false e = refl

to_same : (name : ℕ) (r : Option (List ℕ)) (old new : Contents) → SetAt name r old new → r ≡ get old name → new ≡ old
to_same name r old new set is = same_map nat_cmp_total nat_cmp-IsAntisymmetric _ _ (λ q. set q ∙ itself r (get old) name q is)

not_at : (b : Bool) (x o : Option (List ℕ)) → b ≡ false → cond b x o ≡ o
not_at b x o is = ap (λ (c : Bool). cond c x o) is

just_at : (b : Bool) (x o : Option (List ℕ)) → b ≡ true → cond b x o ≡ x
just_at b x o is = ap (λ (c : Bool). cond c x o) is

-- what is shown after the files below changed at both names of one number
pub shown_set : (s s' : ℕ → Bool) (m m' : Contents) (name : ℕ) → name < 2 ^ 63 → KeepsBut name s s' → Keeps name m m'
    → SetAt name (shown_at s' (get m' (name + 2 ^ 63)) (get m' name) name) (shown s m) (shown s' m')
shown_set s s' m m' name low alike keeps q = get-shown s' m' q ∙ by (q == name) refl
  where
    r : Option (List ℕ)
    r = shown_at s' (get m' (name + 2 ^ 63)) (get m' name) name

    by : (b : Bool) → (q == name) ≡ b → shown_at s' (get m' (q + 2 ^ 63)) (get m' q) q ≡ cond b r (get (shown s m) q)
    by true e = ap (λ (n : ℕ). shown_at s' (get m' (n + 2 ^ 63)) (get m' n) n) (eqb-true q name e)
    by false e =
        let apart : q ≢ name = λ f. absurd (clash (q == name) (ap (λ (n : ℕ). n == name) f ∙ same name) e) in
        shown_same s' s (get m' (q + 2 ^ 63)) (get m (q + 2 ^ 63)) (get m' q) (get m q) q (alike q apart)
        (λ _. keeps (q + 2 ^ 63) (λ f. omega (arith, f, low)) (λ f. apart (omega (arith, f))))
        (λ _ below. keeps q apart (λ f. far f below))
        ∙ sym (get-shown s m q)
      where
        clash : (x : Bool) → x ≡ true → x ≡ false → ⊥
        clash x t f = let both : true ≡ false = sym t ∙ f in cc

        far : q ≡ name + 2 ^ 63 → nat_lt q (2 ^ 63) ≡ true → ⊥
        far f below = grind (arith, tests)

-- the value that was shown
shown_before : (s : ℕ → Bool) (m : Contents) (name : ℕ) → shown_at s (get m (name + 2 ^ 63)) (get m name) name ≡ get (shown s m) name
shown_before s m name = sym (get-shown s m name)

-- ---- changes of files that may be unknown

keeps_put : (m : Contents) (name k : ℕ) (v : List ℕ) → k ≢ name + 2 ^ 63 → get (insert m (name + 2 ^ 63) v) k ≡ get m k
keeps_put m name k v apart = get_put m (name + 2 ^ 63) v k ∙ not_at (k == name + 2 ^ 63) (Some v) (get m k) (different k (name + 2 ^ 63) apart)

keeps_cut : (m : Contents) (n k : ℕ) → k ≢ n → get (remove m n) k ≡ get m k
keeps_cut m n k apart = get_cut m n k ∙ not_at (k == n) None (get m k) (different k n apart)

has_put : (m : Contents) (n : ℕ) (v : List ℕ) → get (insert m n v) n ≡ Some v
has_put m n v = get_put m n v n ∙ just_at (n == n) (Some v) (get m n) (same n)

has_cut : (m : Contents) (n : ℕ) → get (remove m n) n ≡ None
has_cut m n = get_cut m n n ∙ just_at (n == n) None (get m n) (same n)

-- the same numbers, the same files
all_same_known : (s s' : ℕ → Bool) (m : Contents) → KeepsAll s s' → shown s' m ≡ shown s m
all_same_known s s' m alike = same_map nat_cmp_total nat_cmp-IsAntisymmetric _ _ (λ q.
    get-shown s' m q ∙ shown_same s' s (get m (q + 2 ^ 63)) (get m (q + 2 ^ 63)) (get m q) (get m q) q (alike q) (λ _. refl) (λ _ _. refl) ∙ sym (get-shown s m q))

pub all_same : (s s' : ℕ → Bool) (o o' : Option Contents) → KeepsAll s s' → o' ≡ o → all_shown s' o' ≡ all_shown s o
all_same s s' o o' alike is = ap (all_shown s') is ∙ by o
  where
    by : (o : Option Contents) → all_shown s' o ≡ all_shown s o
    by None = refl
    by (Some m) = ap Some (all_same_known s s' m alike)

-- a file of format 3 was put, and the one that is not may have been removed
put_known : (s s' : ℕ → Bool) (m m' : Contents) (name : ℕ) (image p : List ℕ) → name < 2 ^ 63 → s' name ≡ true → KeepsBut name s s' → Keeps name m m'
    → get m' (name + 2 ^ 63) ≡ Some image → payload_of image ≡ p → shown s' m' ≡ insert (shown s m) name p
put_known s s' m m' name image p low here alike keeps has is =
    to_insert name p (shown s m) (shown s' m') (λ q.
    shown_set s s' m m' name low alike keeps q
    ∙ ap (λ (r : Option (List ℕ)). cond (q == name) r (get (shown s m) q))
    (of_high s' (get m' (name + 2 ^ 63)) (get m' name) name here ∙ ap (option_map payload_of) has ∙ ap Some is))

pub put_shown : (s s' : ℕ → Bool) (o o1 o2 : Option Contents) (name : ℕ) (image p : List ℕ) → name < 2 ^ 63 → s' name ≡ true → KeepsBut name s s'
    → o1 ≡ with_file (name + 2 ^ 63) image o → MayLack name o1 o2 → payload_of image ≡ p → all_shown s' o2 ≡ with_file name p (all_shown s o)
put_shown s s' o o1 o2 name image p low here alike put may is =
    ⊎_elim (λ e. ap (all_shown s') (e ∙ put) ∙ first o) (λ e. ap (all_shown s') (e ∙ ap (without_file name) put) ∙ second o) may
  where
    far : name + 2 ^ 63 ≢ name
    far e = omega (arith, e)

    first : (o : Option Contents) → all_shown s' (with_file (name + 2 ^ 63) image o) ≡ with_file name p (all_shown s o)
    first None = refl
    first (Some m) =
        ap Some (put_known s s' m (insert m (name + 2 ^ 63) image) name image p low here alike (λ k _ apart. keeps_put m name k image apart) (has_put m (name + 2 ^ 63) image) is)

    second : (o : Option Contents) → all_shown s' (without_file name (with_file (name + 2 ^ 63) image o)) ≡ with_file name p (all_shown s o)
    second None = refl
    second (Some m) =
        let m1 : Contents = insert m (name + 2 ^ 63) image in
        ap Some (put_known s s' m (remove m1 name) name image p low here alike
        (λ k other apart. keeps_cut m1 name k other ∙ keeps_put m name k image apart) (keeps_cut m1 name (name + 2 ^ 63) far ∙ has_put m (name + 2 ^ 63) image) is)

-- whatever became of a number, the others are kept
others_known : (s s' : ℕ → Bool) (m m' : Contents) (name other : ℕ) → name < 2 ^ 63 → KeepsBut name s s' → Keeps name m m' → other ≢ name → get (shown s' m') other ≡ get (shown s m) other
others_known s s' m m' name other low alike keeps apart =
    shown_set s s' m m' name low alike keeps other ∙ not_at (other == name) _ (get (shown s m) other) (different other name apart)

pub others_shown : (s s' : ℕ → Bool) (o o1 o2 : Option Contents) (name : ℕ) → name < 2 ^ 63 → KeepsBut name s s' → KeepsOthers (name + 2 ^ 63) o o1 → MayLack name o1 o2
    → KeepsOthers name (all_shown s o) (all_shown s' o2)
others_shown s s' o o1 o2 name low alike kept may = ⊎_elim (λ e. subst (λ x. KeepsOthers name (all_shown s o) (all_shown s' x)) (sym e) (first o o1 kept)) (λ e. subst (λ x. KeepsOthers name (all_shown s o) (all_shown s' x)) (sym e) (second o o1 kept)) may
  where
    first : (o o1 : Option Contents) → KeepsOthers (name + 2 ^ 63) o o1 → KeepsOthers name (all_shown s o) (all_shown s' o1)
    first None None kept = refl
    first None (Some m1) kept = absurd (not_gone m1 kept)
      where
        not_gone : (m1 : Contents) → IsNone (Some m1) → ⊥
        not_gone m1 e = let no_way : true ≡ false = e in cc
    first (Some m) None kept = absurd kept
    first (Some m) (Some m1) kept = λ other apart. others_known s s' m m1 name other low alike (λ k _ far. kept k far) apart

    second : (o o1 : Option Contents) → KeepsOthers (name + 2 ^ 63) o o1 → KeepsOthers name (all_shown s o) (all_shown s' (without_file name o1))
    second None None kept = refl
    second None (Some m1) kept = absurd (not_gone m1 kept)
      where
        not_gone : (m1 : Contents) → IsNone (Some m1) → ⊥
        not_gone m1 e = let no_way : true ≡ false = e in cc
    second (Some m) None kept = absurd kept
    second (Some m) (Some m1) kept = λ other apart. others_known s s' m (remove m1 name) name other low alike (λ k near far. keeps_cut m1 name k near ∙ kept k far) apart

-- ---- a put that failed

kind : (b : Bool) {P : Type 0} → (b ≡ true → P) → (b ≡ false → P) → P
kind true t f = t refl
kind false t f = f refl

-- a file of format 3 that isn't counted as one changes nothing
uncounted : (s : ℕ → Bool) (m m' : Contents) (name : ℕ) → name < 2 ^ 63 → Keeps name m m' → s name ≡ false → get m' name ≡ get m name → shown s m' ≡ shown s m
uncounted s m m' name low keeps hidden plain =
    to_same name (shown_at s (get m' (name + 2 ^ 63)) (get m' name) name) (shown s m) (shown s m') (shown_set s s m m' name low (λ _ _. refl) keeps)
    (shown_same s s (get m' (name + 2 ^ 63)) (get m (name + 2 ^ 63)) (get m' name) (get m name) name refl (λ t. absurd (clash (s name) t hidden)) (λ _ _. plain) ∙ shown_before s m name)
  where
    clash : (x : Bool) → x ≡ true → x ≡ false → ⊥
    clash x t f = let both : true ≡ false = sym t ∙ f in cc

-- a file that isn't of format 3 changes nothing where there is one of format 3
covered : (s : ℕ → Bool) (m m' : Contents) (name : ℕ) → name < 2 ^ 63 → Keeps name m m' → s name ≡ true → get m' (name + 2 ^ 63) ≡ get m (name + 2 ^ 63) → shown s m' ≡ shown s m
covered s m m' name low keeps here high =
    to_same name (shown_at s (get m' (name + 2 ^ 63)) (get m' name) name) (shown s m) (shown s m') (shown_set s s m m' name low (λ _ _. refl) keeps)
    (shown_same s s (get m' (name + 2 ^ 63)) (get m (name + 2 ^ 63)) (get m' name) (get m name) name refl (λ _. high) (λ f. absurd (clash (s name) here f)) ∙ shown_before s m name)
  where
    clash : (x : Bool) → x ≡ true → x ≡ false → ⊥
    clash x t f = let both : true ≡ false = sym t ∙ f in cc

gone : (s : ℕ → Bool) (m m' : Contents) (name : ℕ) (s' : ℕ → Bool) → name < 2 ^ 63 → KeepsBut name s s' → Keeps name m m'
    → (s' name ≡ true → get m' (name + 2 ^ 63) ≡ None) → (s' name ≡ false → get m' name ≡ None) → shown s' m' ≡ remove (shown s m) name
gone s m m' name s' low alike keeps high plain =
    to_remove name (shown s m) (shown s' m') (λ q. shown_set s s' m m' name low alike keeps q ∙ ap (λ (r : Option (List ℕ)). cond (q == name) r (get (shown s m) q)) (nothing (s' name) refl))
  where
    below_test : nat_lt name (2 ^ 63) ≡ true
    below_test = grind (arith, tests)

    nothing : (b : Bool) → s' name ≡ b → shown_at s' (get m' (name + 2 ^ 63)) (get m' name) name ≡ None
    nothing true e = of_high s' (get m' (name + 2 ^ 63)) (get m' name) name e ∙ ap (option_map payload_of) (high e)
    nothing false e = of_low s' (get m' (name + 2 ^ 63)) (get m' name) name e below_test ∙ plain e

may_put : (s : ℕ → Bool) (o : Option Contents) (name : ℕ) (image p : List ℕ) → name < 2 ^ 63 → payload_of image ≡ p
    → MayHaveFile name p (all_shown s o) (all_shown s (with_file (name + 2 ^ 63) image o))
may_put s None name image p low is = inl refl
may_put s (Some m) name image p low is =
    kind (s name)
    (λ here. inr (ap Some (put_known s s m (insert m (name + 2 ^ 63) image) name image p low here (λ _ _. refl) (λ k _ apart. keeps_put m name k image apart) (has_put m (name + 2 ^ 63) image) is)))
    (λ hidden. inl (ap Some (uncounted s m (insert m (name + 2 ^ 63) image) name low (λ k _ apart. keeps_put m name k image apart) hidden (keeps_put m name name image (λ e. omega (arith, e))))))

pub whole_shown : (s s' : ℕ → Bool) (o o1 : Option Contents) (name : ℕ) (image p : List ℕ) → name < 2 ^ 63 → KeepsAll s s' → MayHaveFile (name + 2 ^ 63) image o o1 → payload_of image ≡ p
    → MayHaveFile name p (all_shown s o) (all_shown s' o1)
whole_shown s s' o o1 name image p low alike may is =
    ⊎_elim (λ e. inl (all_same s s' o o1 alike e))
    (λ e. subst (MayHaveFile name p (all_shown s o)) (sym (all_same s s' (with_file (name + 2 ^ 63) image o) o1 alike e)) (may_put s o name image p low is)) may

-- ---- files that were removed

plain_removed : (s : ℕ → Bool) (o : Option Contents) (name : ℕ) → name < 2 ^ 63 → MayLack name (all_shown s o) (all_shown s (without_file name o))
plain_removed s None name low = inl refl
plain_removed s (Some m) name low =
    kind (s name)
    (λ here. inl (ap Some (covered s m (remove m name) name low (λ k near _. keeps_cut m name k near) here (keeps_cut m name (name + 2 ^ 63) (λ e. omega (arith, e))))))
    (λ hidden. inr (ap Some (gone s m (remove m name) name s low (λ _ _. refl) (λ k near _. keeps_cut m name k near) (λ t. absurd (clash (s name) t hidden)) (λ _. has_cut m name))))
  where
    clash : (x : Bool) → x ≡ true → x ≡ false → ⊥
    clash x t f = let both : true ≡ false = sym t ∙ f in cc

-- the first removal failed
pub first_failed : (s : ℕ → Bool) (o o1 : Option Contents) (name : ℕ) → name < 2 ^ 63 → MayLack name o o1 → MayLack name (all_shown s o) (all_shown s o1)
first_failed s o o1 name low may =
    ⊎_elim (λ e. inl (ap (all_shown s) e)) (λ e. subst (MayLack name (all_shown s o)) (ap (all_shown s) (sym e)) (plain_removed s o name low)) may

both_removed : (s s' : ℕ → Bool) (o : Option Contents) (name : ℕ) → name < 2 ^ 63 → KeepsBut name s s'
    → all_shown s' (without_file (name + 2 ^ 63) (without_file name o)) ≡ without_file name (all_shown s o)
both_removed s s' None name low alike = refl
both_removed s s' (Some m) name low alike =
    let m1 : Contents = remove m name in
    ap Some (gone s m (remove m1 (name + 2 ^ 63)) name s' low alike (λ k near far. keeps_cut m1 (name + 2 ^ 63) k far ∙ keeps_cut m name k near)
    (λ _. has_cut m1 (name + 2 ^ 63)) (λ _. keeps_cut m1 (name + 2 ^ 63) name (λ e. omega (arith, e)) ∙ has_cut m name))

pub removed_shown : (s s' : ℕ → Bool) (o o1 o2 : Option Contents) (name : ℕ) → name < 2 ^ 63 → KeepsBut name s s' → o1 ≡ without_file name o → o2 ≡ without_file (name + 2 ^ 63) o1
    → all_shown s' o2 ≡ without_file name (all_shown s o)
removed_shown s s' o o1 o2 name low alike first second =
    ap (all_shown s') (second ∙ ap (without_file (name + 2 ^ 63)) first) ∙ both_removed s s' o name low alike

-- the second removal failed
pub second_failed : (s : ℕ → Bool) (o o1 o2 : Option Contents) (name : ℕ) → name < 2 ^ 63 → o1 ≡ without_file name o → MayLack (name + 2 ^ 63) o1 o2
    → MayLack name (all_shown s o) (all_shown s o2)
second_failed s o o1 o2 name low first may =
    ⊎_elim (λ e. first_failed s o o2 name low (inr (e ∙ first)))
    (λ e. inr (removed_shown s s o o1 o2 name low (λ _ _. refl) first e)) may
