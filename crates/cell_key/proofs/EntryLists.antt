-- Entry lists without some of their entries, and merges of several.
use Rattle.std.proofs.Common.{◌≡◌, ℕ, Bool, true, false, cond, T, List, [], ◌∷◌, ◌++◌, length, refl, sym, ap, subst, ◌∙◌, ◌&&◌, arith}
use Rattle.std.specs.Prelude.{Option, filter, flat_map}
use Rattle.std.specs.List.{AllByRecursion}
use Rattle.std.specs.Ordering.{is_lt, eq_by_cmp}
use Rattle.std.specs.declared.cmp.Ordering.TheVariants.{Less, Equal, Greater}
use Rattle.std.specs.Cmp.{IsTotalOrder, eq_by_cmp_equiv}
use Rattle.std.specs.Cmp.Lexicographic.{nat_list_cmp_total}
use Rattle.std.specs.FinMap.{from_entries, entries, empty, get-entries, get-from_entries, entries_sorted, entries-insert, len-entries, len-empty}
use Rattle.std.specs.FinMap.Entries.{by_order, find, put, below_all}
use Rattle.cell_key.specs.Keys.{byte_cmp}
use Rattle.cell_key.specs.Entries.{Entry, IsEntry, IsEntryList, IsRising, meaning, merged}
use Rattle.cell_key.proofs.TextPlaces.{first, one_text, second}

pub both : (a b : Bool) → T a → T b → T (a && b)
both true b p q = q
both false b p q = p

pub below-filter : (test : Entry → Bool) (name : List ℕ) (es : List Entry)
    → T (below_all byte_cmp name es) → T (below_all byte_cmp name (filter test es))
below-filter test name [] h = tt
below-filter test name (e ∷ es) h =
    elim (test e) as (λ b. T (below_all byte_cmp name (cond b (e ∷ filter test es) (filter test es)))) [
      | true ↦ both _ _ (first _ _ h) (below-filter test name es (second _ _ h))
      | false ↦ below-filter test name es (second _ _ h)
    ]

pub rising-filter : (test : Entry → Bool) (es : List Entry) → IsRising es
    → IsRising (filter test es)
rising-filter test [] h = tt
rising-filter test (e ∷ es) h =
    elim (test e) as (λ b. IsRising (cond b (e ∷ filter test es) (filter test es))) [
      | true ↦ both _ _ (below-filter test e.0 es (first _ _ h)) (rising-filter test es (second _ _ h))
      | false ↦ rising-filter test es (second _ _ h)
    ]

pub each-filter : (test : Entry → Bool) (es : List Entry) → AllByRecursion IsEntry es
    → AllByRecursion IsEntry (filter test es)
each-filter test [] h = tt
each-filter test (e ∷ es) h =
    elim (test e) as (λ b. AllByRecursion IsEntry (cond b (e ∷ filter test es) (filter test es))) [
      | true ↦ (h.0, each-filter test es h.1)
      | false ↦ each-filter test es h.1
    ]

pub filter-list : (test : Entry → Bool) (es : List Entry) → IsEntryList es
    → IsEntryList (filter test es)
filter-list test es h =
    record { rising = rising-filter test es h.rising; each = each-filter test es h.each }

-- a first entry, and some of the others
pub front-list : (test : Entry → Bool) (e : Entry) (es : List Entry) → IsEntryList (e ∷ es)
    → IsEntryList (e ∷ filter test es)
front-list test e es h = record { rising = both _ _ (below-filter test e.0 es (first _ _ h.rising)) (rising-filter test es (second _ _ h.rising)); each = (h.each.0, each-filter test es h.each.1) }

pub rest-list : (e : Entry) (es : List Entry) → IsEntryList (e ∷ es) → IsEntryList es
rest-list e es h = record { rising = second _ _ h.rising; each = h.each.1 }

pub total : IsTotalOrder byte_cmp
total = nat_list_cmp_total

pub ties_itself : (x : List ℕ) → eq_by_cmp byte_cmp x x ≡ true
ties_itself x = (eq_by_cmp_equiv total).refl x

pub below-++ : (k : List ℕ) (xs ys : List Entry) → T (below_all byte_cmp k xs)
    → T (below_all byte_cmp k ys) → T (below_all byte_cmp k (xs ++ ys))
below-++ k [] ys p q = q
below-++ k (x ∷ xs) ys p q = both _ _ (first _ _ p) (below-++ k xs ys (second _ _ p) q)

below_put : (x k : List ℕ) (v : Option (List ℕ)) (es : List Entry) → T (is_lt (byte_cmp x k))
    → T (below_all byte_cmp x es) → T (below_all byte_cmp x (put byte_cmp k v es))
below_put x k v [] p h = both _ _ p tt
below_put x k v (e ∷ es) p h =
    elim (byte_cmp k e.0) as (λ o. T (below_all byte_cmp x (by_order o ((k, v) ∷ e ∷ es) ((e.0, v) ∷ es) (e ∷ put byte_cmp k v es)))) [
      | Less ↦ both _ _ p h
      | Equal ↦ h
      | Greater ↦ both _ _ (first _ _ h) (below_put x k v es p (second _ _ h))
    ]

no_entry : {A : Type 0} (es : List A) → length es ≡ 0 → es ≡ []
no_entry [] e = refl
no_entry (x ∷ es) e = absurd (omega arith)

entries-empty : entries (empty {K = List ℕ} {X = Option (List ℕ)} {R = byte_cmp}) ≡ []
entries-empty = no_entry _ (sym (len-entries empty) ∙ len-empty byte_cmp (Option (List ℕ)))

pub below-entries : (k : List ℕ) (es : List Entry) → T (below_all byte_cmp k es)
    → T (below_all byte_cmp k (entries (from_entries {R = byte_cmp} es)))
below-entries k [] h = subst (λ es. T (below_all byte_cmp k es)) (sym entries-empty) tt
below-entries k (e ∷ es) h = subst (λ es. T (below_all byte_cmp k es)) (sym (entries-insert total (from_entries es) e.0 e.1)) (below_put k e.0 e.1 _ (first _ _ h) (below-entries k es (second _ _ h)))

pub find-merged : (q : List ℕ) (lists : List (List Entry))
    → find byte_cmp q (merged lists) ≡ find byte_cmp q (flat_map (λ es. es) lists)
find-merged q lists = sym (get-entries (meaning lists) q) ∙ get-from_entries total (flat_map (λ es. es) lists) q

each-put : (name : List ℕ) (v : Option (List ℕ)) (es : List Entry) → IsEntry (name, v)
    → AllByRecursion IsEntry es → AllByRecursion IsEntry (put byte_cmp name v es)
each-put name v [] one all = (one, tt)
each-put name v (e ∷ es) one all =
    elim (byte_cmp name e.0) as (λ o. byte_cmp name e.0 ≡ o → AllByRecursion IsEntry (by_order o ((name, v) ∷ e ∷ es) ((e.0, v) ∷ es) (e ∷ put byte_cmp name v es))) [
      | Less ↦ λ _. (one, all)
      | Equal ↦ λ p. (subst (λ n. IsEntry (n, v)) (one_text name e.0 p) one, all.1)
      | Greater ↦ λ _. (all.0, each-put name v es one all.1)
    ] refl

each-entries : (es : List Entry) → AllByRecursion IsEntry es
    → AllByRecursion IsEntry (entries (from_entries {R = byte_cmp} es))
each-entries [] h = subst (AllByRecursion IsEntry) (sym entries-empty) tt
each-entries (e ∷ es) h = subst (AllByRecursion IsEntry) (sym (entries-insert total (from_entries es) e.0 e.1)) (each-put e.0 e.1 _ h.0 (each-entries es h.1))

each-++ : (es more : List Entry) → AllByRecursion IsEntry es → AllByRecursion IsEntry more
    → AllByRecursion IsEntry (es ++ more)
each-++ [] more h k = k
each-++ (e ∷ es) more h k = (h.0, each-++ es more h.1 k)

each-flat : (lists : List (List Entry)) → AllByRecursion IsEntryList lists
    → AllByRecursion IsEntry (flat_map (λ es. es) lists)
each-flat [] h = tt
each-flat (es ∷ lists) h = each-++ es _ h.0.each (each-flat lists h.1)

-- a merge of entry lists is an entry list
pub merged_list : (lists : List (List Entry)) → AllByRecursion IsEntryList lists
    → IsEntryList (merged lists)
merged_list lists h =
    record {
      rising = entries_sorted (meaning lists);
      each = each-entries (flat_map (λ es. es) lists) (each-flat lists h);
    }

-- a merge of lists without entries has none
pub merged_none : (lists : List (List Entry)) → AllByRecursion (λ es. es ≡ []) lists
    → merged lists ≡ []
merged_none lists h = ap (λ es. entries (from_entries {R = byte_cmp} es)) (flat lists h) ∙ entries-empty
  where
    flat : (lists : List (List Entry)) → AllByRecursion (λ es. es ≡ []) lists
        → flat_map (λ es. es) lists ≡ []
    flat [] h = refl
    flat (es ∷ lists) h = ap (λ xs. xs ++ flat_map (λ es. es) lists) h.0 ∙ flat lists h.1
