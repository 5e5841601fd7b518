-- Files that are written in steps.
use Rattle.std.proofs.Common.{◌≡◌, ◌≢◌, ◌||◌, Bool, true, false, cond, T, ℕ, zero, suc, List, [], ◌∷◌, ◌++◌, ◌+◌, refl, sym, ap, subst, ◌∙◌, append_assoc, append-nil, arith}
use Rattle.std.specs.Prelude.{Option, Some, None, IfNone, IfSome, is_some, sum_by}
use Rattle.std.specs.Ordering.{is_lt, is_le, nat_cmp, ordering_then, ordering_reverse}
use Rattle.std.specs.declared.cmp.Ordering.{Ordering}
use Rattle.std.specs.declared.cmp.Ordering.TheVariants.{Less, Equal, Greater}
use Rattle.std.specs.Cmp.{nat_cmp_total}
use Rattle.std.specs.Cmp.Lexicographic.{nat_list_cmp_total}
use Rattle.std.specs.FinMap.Entries.{below_all}
use Rattle.std.proofs.lemmas.List.Elements.{filter-append}
use Rattle.std.proofs.lemmas.List.Sums.{sum_by-append}
use Rattle.cell_key.specs.Keys.{byte_cmp}
use Rattle.cell_key.specs.Entries.{Entry, IsEntryList, IsRising, entries_from}
use Rattle.cell_key.proofs.TextPlaces.{first, second, less, one_text}
use Rattle.cell_key.proofs.Order.{cmp_above}
use Rattle.cell_key.proofs.Words.{cmp_behind}
use Rattle.cell_key.proofs.EntryLists.{filter-list}
use Rattle.sorted_file.specs.Grammar.{FitsIn}
use Rattle.sorted_file.specs.PartialFiles.{entries_below, entry_size, next_text}
use Rattle.sorted_file.specs.Written.{is_written, only_written}
use Rattle.sorted_file.proofs.Passed.{taken_list}

-- what is written after one more
pub kept_one : (keep : Bool) (begun before after passed : List Entry) (e : Entry) → before ≡ begun ++ only_written keep passed → after ≡ before ++ only_written keep (e ∷ []) → after ≡ begun ++ only_written keep (passed ++ e ∷ [])
kept_one keep begun before after passed e was now =
    now ∙ ap (λ (l : List Entry). l ++ only_written keep (e ∷ [])) was ∙ append_assoc begun (only_written keep passed) (only_written keep (e ∷ []))
    ∙ ap (λ (l : List Entry). begun ++ l) (sym (filter-append (is_written keep) passed (e ∷ [])))

-- ---- the next text

up : (x y : List ℕ) → byte_cmp x y ≡ Less → byte_cmp y x ≡ Greater
up x y p = nat_list_cmp_total.antisymm y x ∙ ap ordering_reverse p

next_cons : (o q r : Ordering) → (q ≡ Less → is_lt r ≡ false) → ordering_then o q ≡ Less → is_lt (ordering_then (ordering_reverse o) r) ≡ false
next_cons Less q r ih p = refl
next_cons Equal q r ih p = ih p
next_cons Greater q r ih p = cc

-- no text lies between one and the next
next_least : (t x : List ℕ) → byte_cmp t x ≡ Less → is_lt (byte_cmp x (next_text t)) ≡ false
next_least [] [] p = cc
next_least [] (zero ∷ []) p = refl
next_least [] (zero ∷ b ∷ x) p = refl
next_least [] (suc b ∷ x) p = ap (λ (o : Ordering). is_lt (ordering_then o (byte_cmp x []))) (cmp_above (suc b) 0 (omega arith))
next_least (a ∷ t) [] p = cc
next_least (a ∷ t) (b ∷ x) p =
    ap (λ (o : Ordering). is_lt (ordering_then o (byte_cmp x (next_text t)))) (nat_cmp_total.antisymm b a)
    ∙ next_cons (nat_cmp a b) (byte_cmp t x) (byte_cmp x (next_text t)) (next_least t x) p

next_above : (t : List ℕ) → byte_cmp t (next_text t) ≡ Less
next_above t = subst (λ (l : List ℕ). byte_cmp l (next_text t) ≡ Less) (append-nil t) (cmp_behind t [] (0 ∷ []))

none_left : (t : List ℕ) (es : List Entry) → T (below_all byte_cmp t es) → entries_below (next_text t) es ≡ []
none_left t [] h = refl
none_left t (y ∷ es) h =
    ap (λ (b : Bool). cond b (y ∷ entries_below (next_text t) es) (entries_below (next_text t) es)) (next_least t y.0 (less _ (first _ _ h)))
    ∙ none_left t es (second _ _ h)

seam : (x e : Entry) (front rest : List Entry) → T (below_all byte_cmp x.0 ((front ++ e ∷ []) ++ rest)) → byte_cmp x.0 e.0 ≡ Less
seam x e [] rest h = less _ (first _ _ h)
seam x e (y ∷ front) rest h = seam x e front rest (second _ _ h)

-- below the next text of one of a rising list there are those up to it
pub below_next : (front : List Entry) (e : Entry) (rest : List Entry) → IsRising ((front ++ e ∷ []) ++ rest) → entries_below (next_text e.0) ((front ++ e ∷ []) ++ rest) ≡ front ++ e ∷ []
below_next [] e rest r =
    ap (λ (o : Ordering). cond (is_lt o) (e ∷ entries_below (next_text e.0) rest) (entries_below (next_text e.0) rest)) (next_above e.0)
    ∙ ap (λ (l : List Entry). e ∷ l) (none_left e.0 rest (first _ _ r))
below_next (x ∷ front) e rest r =
    let low = nat_list_cmp_total.trans x.0 e.0 (next_text e.0) (seam x e front rest (first _ _ r)) (next_above e.0) in
    let all = (front ++ e ∷ []) ++ rest in
    ap (λ (o : Ordering). cond (is_lt o) (x ∷ entries_below (next_text e.0) all) (entries_below (next_text e.0) all)) low
    ∙ ap (λ (l : List Entry). x ∷ l) (below_next front e rest (second _ _ r))

-- ---- a rising list in two

lower : (t x y : List ℕ) → byte_cmp t x ≢ Greater → byte_cmp x y ≡ Less → byte_cmp t y ≡ Less
lower t x y n p = go (byte_cmp t x) refl
  where
    go : (o : Ordering) → byte_cmp t x ≡ o → byte_cmp t y ≡ Less
    go Less q = nat_list_cmp_total.trans t x y q p
    go Equal q = subst (λ (k : List ℕ). byte_cmp k y ≡ Less) (sym (one_text t x q)) p
    go Greater q = absurd (n q)

above_none : (t x : List ℕ) (es : List Entry) → byte_cmp t x ≢ Greater → T (below_all byte_cmp x es) → entries_below t es ≡ []
above_none t x [] n h = refl
above_none t x (y ∷ es) n h =
    ap (λ (o : Ordering). cond (is_lt o) (y ∷ entries_below t es) (entries_below t es)) (up t y.0 (lower t x y.0 n (less _ (first _ _ h))))
    ∙ above_none t x es n (second _ _ h)

two : (o : Ordering) → o ≡ Less → o ≡ Greater → ⊥
two o p q = cc

level : (o : Ordering) → o ≡ Equal → o ≡ Greater → ⊥
level o p q = cc

-- those below a text, and then the others
pub in_two : (t : List ℕ) (es : List Entry) → IsRising es → entries_below t es ++ entries_from t es ≡ es
in_two t [] r = refl
in_two t (e ∷ es) r = go (in_two t es (second _ _ r)) (byte_cmp t e.0) refl
  where
    back : (o : Ordering) → byte_cmp t e.0 ≡ o → byte_cmp e.0 t ≡ ordering_reverse o
    back o q = nat_list_cmp_total.antisymm e.0 t ∙ ap ordering_reverse q

    from : entries_below t es ++ entries_from t es ≡ es → byte_cmp t e.0 ≢ Greater → entries_below t es ++ e ∷ entries_from t es ≡ e ∷ es
    from h n =
        let none = above_none t e.0 es n (first _ _ r) in
        ap (λ (l : List Entry). l ++ e ∷ entries_from t es) none
        ∙ ap (λ (l : List Entry). e ∷ l) (ap (λ (l : List Entry). l ++ entries_from t es) (sym none) ∙ h)

    go : entries_below t es ++ entries_from t es ≡ es → (o : Ordering) → byte_cmp t e.0 ≡ o → entries_below t (e ∷ es) ++ entries_from t (e ∷ es) ≡ e ∷ es
    go h Less q = rw (back Less q, q) (from h (two (byte_cmp t e.0) q))
    go h Equal q = rw (back Equal q, q) (from h (level (byte_cmp t e.0) q))
    go h Greater q = rw (back Greater q, q) (ap (λ (l : List Entry). e ∷ l) h)

-- ---- one step

-- what was written so far and what a step wrote are what is below the text that it came to
pub step_goes : (keep : Bool) (whole all rest before after passed : List Entry) (e : Entry) (t from : List ℕ) → IsRising whole → all ≡ entries_from t whole
    → before ≡ only_written keep (entries_below t whole) → all ≡ (passed ++ e ∷ []) ++ rest → from ≡ next_text e.0 → after ≡ before ++ only_written keep (passed ++ e ∷ [])
    → after ≡ only_written keep (entries_below from whole)
step_goes keep whole all rest before after passed e t from r is was these behind written =
    let front = entries_below t whole in
    let one = passed ++ e ∷ [] in
    let parts : whole ≡ ((front ++ passed) ++ e ∷ []) ++ rest =
    sym (in_two t whole r) ∙ ap (λ (l : List Entry). front ++ l) (sym is ∙ these)
    ∙ sym (append_assoc front one rest) ∙ ap (λ (l : List Entry). l ++ rest) (sym (append_assoc front passed (e ∷ []))) in
    let below : entries_below from whole ≡ front ++ one =
    ap (λ (l : List ℕ). entries_below l whole) behind ∙ ap (entries_below (next_text e.0)) parts
    ∙ below_next (front ++ passed) e rest (subst IsRising parts r) ∙ append_assoc front passed (e ∷ []) in
    written ∙ ap (λ (l : List Entry). l ++ only_written keep one) was
    ∙ sym (filter-append (is_written keep) front one) ∙ ap (only_written keep) (sym below)

-- what was written so far and what is to be written of the rest are all that is to be written
pub step_whole : (keep : Bool) (whole all before : List Entry) (t : List ℕ) → IsRising whole → all ≡ entries_from t whole
    → before ≡ only_written keep (entries_below t whole) → before ++ only_written keep all ≡ only_written keep whole
step_whole keep whole all before t r is was =
    ap (λ (l : List Entry). l ++ only_written keep all) was ∙ ap (λ (l : List Entry). only_written keep (entries_below t whole) ++ only_written keep l) is
    ∙ sym (filter-append (is_written keep) (entries_below t whole) (entries_from t whole)) ∙ ap (only_written keep) (in_two t whole r)

-- an entry that is written comes first
pub written_first : (keep : Bool) (e : Entry) (es : List Entry) → is_written keep e ≡ true → only_written keep (e ∷ es) ≡ e ∷ only_written keep es
written_first keep e es is = ap (λ (b : Bool). cond b (e ∷ only_written keep es) (only_written keep es)) is

-- with an entry that is written they are no entry list, whatever comes behind it
pub not_list : (keep : Bool) (begun : List Entry) (e : Entry) → is_written keep e ≡ true → ¬ IsEntryList (begun ++ e ∷ []) → (es : List Entry) → ¬ IsEntryList (begun ++ only_written keep (e ∷ es))
not_list keep begun e is none es list =
    none (taken_list None (begun ++ only_written keep (e ∷ es)) (begun ++ e ∷ []) (only_written keep es) list
    (append_assoc begun (e ∷ []) (only_written keep es) ∙ ap (λ (l : List Entry). begun ++ l) (sym (written_first keep e es is))))

-- nor do they fit
pub not_fits : (keep : Bool) (limit : ℕ) (begun : List Entry) (e : Entry) → is_written keep e ≡ true → ((es : List Entry) → ¬ FitsIn limit (begun ++ e ∷ es)) → (es : List Entry) → ¬ FitsIn limit (begun ++ only_written keep (e ∷ es))
not_fits keep limit begun e is large es =
    subst (λ (l : List Entry). ¬ FitsIn limit (begun ++ l)) (sym (written_first keep e es is)) (large (only_written keep es))

-- what is to be written of an entry list is an entry list
pub written_list : (keep : Bool) (whole : List Entry) → IsEntryList whole → IsEntryList (only_written keep whole)
written_list keep whole h = filter-list (is_written keep) whole h

-- what is written of entries that were passed, and of those that are left
pub whole_rest : (keep : Bool) (begun now passed all rest : List Entry) (e : Entry) → now ≡ begun ++ only_written keep passed → passed ++ e ∷ rest ≡ all
    → now ++ only_written keep (e ∷ rest) ≡ begun ++ only_written keep all
whole_rest keep begun now passed all rest e was parts =
    ap (λ (l : List Entry). l ++ only_written keep (e ∷ rest)) was ∙ append_assoc begun (only_written keep passed) (only_written keep (e ∷ rest))
    ∙ ap (λ (l : List Entry). begun ++ l) (sym (filter-append (is_written keep) passed (e ∷ rest)) ∙ ap (only_written keep) parts)

-- the bytes of one more entry
pub size_one : (passed : List Entry) (e : Entry) → sum_by entry_size (passed ++ e ∷ []) ≡ sum_by entry_size passed + entry_size e
size_one passed e = omega (arith, sum_by-append entry_size passed (e ∷ []))

pub at_some : {A : Type 0} (P : A → Type 0) (o : Option A) (x : A) → o ≡ Some x → IfSome o P → P x
at_some P o x is h = subst (λ (q : Option _). IfSome q P) is h

pub at_none : {A : Type 0} (P : Type 0) (o : Option A) → o ≡ None → IfNone o P → P
at_none P o is h = subst (λ (q : Option _). IfNone q P) is h

-- no text is below that of no bytes
pub below_first : (es : List Entry) → entries_below [] es ≡ []
below_first [] = refl
below_first (([], v) ∷ es) = below_first es
below_first ((b ∷ x, v) ∷ es) = below_first es
