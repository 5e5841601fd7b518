-- The numbers of the files that are shown.
use Rattle.std.proofs.Common.{◌≡◌, ◌==◌, ◌||◌, ◌∙◌, ℕ, ◌-◌, ◌^◌, T, Bool, true, false, cond, nat_lt, List, [], ◌∷◌, ◌++◌, map, Option, Some, None, refl, sym, ap, subst}
use Rattle.std.specs.Prelude.{is_some, IfSome, ◌&&◌}
use Rattle.std.specs.List.{flat_map, list_any, AllByRecursion}
use Rattle.std.specs.List.Sorted.{IsStrictlySortedBy}
use Rattle.std.specs.Ordering.{nat_cmp, is_lt, eq_by_cmp}
use Rattle.std.specs.declared.cmp.Ordering.TheVariants.{Less}
use Rattle.std.specs.Cmp.{nat_cmp_total}
use Rattle.std.specs.FinMap.{entries, entries_sorted, keys, get-entries, get-from_entries, nat_cmp-IsAntisymmetric}
use Rattle.std.specs.FinMap.Entries.{find, is_sorted, below_all, is_some-find, same_entries}
use Rattle.std.specs.BTreeSet.{BTreeSet, contains}
use Rattle.file_store.specs.Store.{Contents}
use Rattle.file_sums.specs.Shown.{payload_of, shown_entry, shown, shows, all_shown}
use Rattle.file_sums.proofs.Shows.{at, find-at}

-- ---- a strictly rising list that has the keys of a map

both : (a b : Bool) → T a → T b → T (a && b)
both true b p q = q
both false b p q = p

abbrev units : List ℕ → List (ℕ × Unit {0})
units ks = map (λ k. (k, tt)) ks

abbrev bare : List (ℕ × List ℕ) → List (ℕ × Unit {0})
bare es = map (λ e. (e.0, tt)) es

below-units : (k : ℕ) (ks : List ℕ) → AllByRecursion (λ y. nat_cmp k y ≡ Less) ks → T (below_all nat_cmp k (units ks))
below-units k [] h = tt
below-units k (x ∷ ks) h = both _ _ (subst (λ r. T (is_lt r)) (sym h.0) tt) (below-units k ks h.1)

sorted-units : (ks : List ℕ) → IsStrictlySortedBy nat_cmp ks → T (is_sorted nat_cmp (units ks))
unfolding IsStrictlySortedBy
sorted-units [] h = tt
sorted-units (k ∷ ks) h = both _ _ (below-units k ks h.0) (sorted-units ks h.1)

below-bare : (k : ℕ) (es : List (ℕ × List ℕ)) → below_all nat_cmp k (bare es) ≡ below_all nat_cmp k es
below-bare k [] = refl
below-bare k (e ∷ es) = ap (λ (b : Bool). is_lt (nat_cmp k e.0) && b) (below-bare k es)

sorted-bare : (es : List (ℕ × List ℕ)) → is_sorted nat_cmp (bare es) ≡ is_sorted nat_cmp es
sorted-bare [] = refl
sorted-bare (e ∷ es) = ap (λ (b : Bool). b && is_sorted nat_cmp (bare es)) (below-bare e.0 es) ∙ ap (λ (b : Bool). below_all nat_cmp e.0 es && b) (sorted-bare es)

names-units : (ks : List ℕ) → map (λ e. e.0) (units ks) ≡ ks
names-units [] = refl
names-units (k ∷ ks) = ap (λ (l : List ℕ). k ∷ l) (names-units ks)

names-bare : (es : List (ℕ × List ℕ)) → map (λ e. e.0) (bare es) ≡ map (λ e. e.0) es
names-bare [] = refl
names-bare (e ∷ es) = ap (λ (l : List ℕ). e.0 ∷ l) (names-bare es)

same_unit : (x y : Option (Unit {0})) → is_some x ≡ is_some y → x ≡ y
same_unit None None e = refl
same_unit (Some u) (Some v) e = refl
same_unit None (Some v) e = absurd (let no_way : false ≡ true = e in cc)
same_unit (Some u) None e = absurd (let no_way : true ≡ false = e in cc)

find-names : (q : ℕ) (es : List (ℕ × List ℕ)) → is_some (find nat_cmp q es) ≡ list_any (eq_by_cmp nat_cmp q) (map (λ e. e.0) es)
find-names q es = is_some-find nat_cmp q es

pub same_names : (ks : List ℕ) (m : Contents) → IsStrictlySortedBy nat_cmp ks
    → ((q : ℕ) → list_any (eq_by_cmp nat_cmp q) ks ≡ list_any (eq_by_cmp nat_cmp q) (keys m)) → ks ≡ keys m
same_names ks m rising is =
    let es : List (ℕ × List ℕ) = entries m in
    let alike : units ks ≡ bare es = same_entries nat_cmp nat_cmp_total nat_cmp-IsAntisymmetric (units ks) (bare es) (sorted-units ks rising) (subst T (sym (sorted-bare es)) (entries_sorted m)) (λ q.
    same_unit (find nat_cmp q (units ks)) (find nat_cmp q (bare es))
    (is_some-find nat_cmp q (units ks) ∙ ap (list_any (eq_by_cmp nat_cmp q)) (names-units ks) ∙ is q
    ∙ sym (is_some-find nat_cmp q (bare es) ∙ ap (list_any (eq_by_cmp nat_cmp q)) (names-bare es)))) in
    sym (names-units ks) ∙ ap (map (λ e. e.0)) alike ∙ names-bare es

-- ---- which numbers are shown

some_or : (b : Bool) (v : List ℕ) (o : Option (List ℕ)) → is_some (cond b (Some v) o) ≡ (b || is_some o)
some_or true v o = refl
some_or false v o = refl

shown_one : (s : ℕ → Bool) (k q : ℕ) (v : List ℕ) (rest : List (ℕ × List ℕ)) → is_some (at q (shown_entry s (k, v) ++ rest)) ≡ (shows s k q || is_some (at q rest))
shown_one s k q v rest = by (nat_lt k (2 ^ 63)) (s k) (s (k - 2 ^ 63))
  where
    by : (a b c : Bool) → is_some (at q (cond a (cond b [] ((k, v) ∷ [])) (cond c ((k - 2 ^ 63, payload_of v) ∷ []) []) ++ rest))
        ≡ (cond a (cond b false (q == k)) (cond c (q == k - 2 ^ 63) false) || is_some (at q rest))
    by true true c = refl
    by true false c = some_or (q == k) v (at q rest)
    by false b true = some_or (q == k - 2 ^ 63) (payload_of v) (at q rest)
    by false b false = refl

any_shown : (s : ℕ → Bool) (q : ℕ) (es : List (ℕ × List ℕ)) → is_some (at q (flat_map (shown_entry s) es)) ≡ list_any (λ k. shows s k q) (map (λ e. e.0) es)
any_shown s q [] = refl
any_shown s q (e ∷ es) = shown_one s e.0 q e.1 (flat_map (shown_entry s) es) ∙ ap (λ (b : Bool). shows s e.0 q || b) (any_shown s q es)

shown_keys : (s : ℕ → Bool) (m : Contents) (q : ℕ) → list_any (eq_by_cmp nat_cmp q) (keys (shown s m)) ≡ list_any (λ k. shows s k q) (keys m)
shown_keys s m q =
    let es : List (ℕ × List ℕ) = flat_map (shown_entry s) (entries m) in
    sym (find-names q (entries (shown s m))) ∙ ap is_some (sym (get-entries (shown s m) q) ∙ get-from_entries nat_cmp_total es q ∙ find-at q es) ∙ any_shown s q (entries m)

-- numbers that are shown, in order, are the names of the files that are shown
pub names_shown : (s : ℕ → Bool) (o : Option Contents) (set : BTreeSet ℕ) (found : List ℕ) → IfSome o (λ m. found ≡ keys m) → IsStrictlySortedBy nat_cmp set.keys
    → ((q : ℕ) → contains nat_cmp set q ≡ list_any (λ k. shows s k q) found) → IfSome (all_shown s o) (λ m. set.keys ≡ keys m)
names_shown s None set found are rising is = tt
names_shown s (Some m) set found are rising is =
    same_names set.keys (shown s m) rising (λ q. is q ∙ ap (list_any (λ k. shows s k q)) are ∙ sym (shown_keys s m q))
