-- Files of which a run is replaced with one.
use Rattle.std.proofs.Common.{◌≡◌, ◌∙◌, ◌≤◌, ◌<◌, ◌+◌, ◌-◌, ℕ, suc, List, [], ◌∷◌, ◌++◌, take, drop, length, arith, refl, sym, ap, subst}
use Rattle.std.proofs.lemmas.List.{drop-drop, drop_at, length-drop, length-take-le, set-append_right, take-append-drop, take_at}
use Rattle.std.proofs.lemmas.List.Elements.{All-append, All-cons, All-drop, All-take, All-weaker}
use Rattle.std.proofs.Math.ListN.{set}
use Rattle.std.specs.List.{remove}
use Rattle.std.specs.Prelude.{All}
use Rattle.sorted_file.specs.KeyFilters.{Covers}
use Rattle.sorted_file.specs.declared.file.SortedFile.{SortedFile}
use Rattle.sorted_file.specs.declared.key_filter.KeyFilter.{KeyFilter}

next_is : (n : ℕ) → suc n ≡ n + 1
next_is n = omega arith

grouped : (at i : ℕ) → at + i + 1 ≡ at + (i + 1)
grouped at i = omega arith

no_more : (n : ℕ) → n - n ≡ 0
no_more n = omega arith

reflexive : (n : ℕ) → n ≤ n
reflexive n = omega arith

-- one more file of the run is removed
pub one_gone : {A : Type 0} (at i : ℕ) (all now new : List A) → at ≤ length all → now ≡ take at all ++ drop (at + i) all → new ≡ remove now at → new ≡ take at all ++ drop (at + (i + 1)) all
one_gone at i all now new le is removed =
    let p = take at all in
    let q = drop (at + i) all in
    let e = length-take-le at all le in
    let behind = ap (λ (n : ℕ). drop n (p ++ q)) (next_is at) ∙ sym (drop-drop 1 at (p ++ q)) ∙ ap (drop 1) (drop_at p q at e) ∙ drop-drop 1 (at + i) all in
    removed
    ∙ ap (λ (xs : List _). remove xs at) is
    ∙ (λ j. take_at p q at e j ++ behind j)
    ∙ ap (λ (n : ℕ). p ++ drop n all) (grouped at i)

first_set : {A : Type 0} (xs : List A) (x : A) → 0 < length xs → set xs 0 x ≡ x ∷ drop 1 xs
first_set [] x some = absurd (omega arith)
first_set (y ∷ ys) x some = refl

-- the last one of the run is replaced
pub one_put : {A : Type 0} (at i n : ℕ) (all now : List A) (x : A) → at + i < length all → n ≡ i + 1 → now ≡ take at all ++ drop (at + i) all → set now at x ≡ take at all ++ x ∷ drop (at + n) all
one_put at i n all now x below next is =
    let p = take at all in
    let q = drop (at + i) all in
    let e = length-take-le at all (omega (arith, below)) in
    ap (λ (xs : List _). set xs at x) is
    ∙ set-append_right p q at at x e (reflexive at)
    ∙ ap (λ (k : ℕ). p ++ set q k x) (no_more at)
    ∙ ap (λ (xs : List _). p ++ xs) (first_set q x (omega (arith, below, length-drop (at + i) all)))
    ∙ ap (λ (xs : List _). p ++ x ∷ xs) (drop-drop 1 (at + i) all)
    ∙ ap (λ (k : ℕ). p ++ x ∷ drop k all) (grouped at i ∙ ap (λ (k : ℕ). at + k) (sym next))

-- the files are covered with one in the place of a run
pub covered_run : (old new : KeyFilter) (at k : ℕ) (file : SortedFile) (xs : List SortedFile) → Covers new file → ((other : SortedFile) → Covers old other → Covers new other) → All (Covers old) xs → All (Covers new) (take at xs ++ file ∷ drop k xs)
covered_run old new at k file xs covers keeps all =
    let each = All-weaker (Covers old) (Covers new) keeps xs all in
    All-append (Covers new) (take at xs) (file ∷ drop k xs) (All-take (Covers new) at xs each)
    (All-cons (Covers new) file (drop k xs) covers (All-drop (Covers new) k xs each))
