-- One more entry, and its effect on the cells of a list of entries.
use Rattle.std.proofs.Common.{◌≡◌, ◌≢◌, ◌<◌, ◌≤◌, ℕ, Bool, true, false, cond, T, List, [], ◌∷◌, ◌++◌, ◌&&◌, ◌⊎◌, inl, inr, Option, Some, None, refl, sym, ap, subst, ◌∙◌, arith}
use Rattle.std.specs.List.{AllByRecursion}
use Rattle.std.specs.declared.cmp.Ordering.{Ordering}
use Rattle.std.specs.declared.cmp.Ordering.TheVariants.{Less, Equal, Greater}
use Rattle.std.specs.Ordering.{MatchOrdering, is_eq, eq_by_cmp, nat_cmp, ordering_reverse, ordering_then}
use Rattle.std.specs.Cmp.{ranks}
use Rattle.std.specs.FinMap.{get}
use Rattle.std.specs.FinMap.Entries.{below_all, find}
use Rattle.cell_key.specs.Keys.{byte_cmp, key_cmp, text, qualifier_name, IsStored}
use Rattle.cell_key.specs.Cells.{Cells, IsNewest, version}
use Rattle.cell_key.specs.Entries.{Entry, IsEntry, IsEntryList, IsRising, cells_of, entry_of_key, or_else, value_of}
use Rattle.cell_key.specs.declared.keys.CellKey.{CellKey}
use Rattle.cell_key.specs.declared.keys.Qualifier.{Qualifier}
use Rattle.cell_key.proofs.EntryLaws.{find-++, get-cells_of, stored_key}
use Rattle.cell_key.proofs.EntryLists.{ties_itself, total}
use Rattle.cell_key.proofs.Order.{stored_plain, text_exact, text_order}
use Rattle.cell_key.proofs.TextPlaces.{below_less, find_below, first, less, second}
use Rattle.tablet.proofs.Filters.{one_text}
use Rattle.tablet.proofs.Shown.{stored_or_none}

-- ---- parts of ascending lists

pub below_middle : (low : List ℕ) (before : List Entry) (e : Entry) (rest : List Entry) → T (below_all byte_cmp low (before ++ e ∷ rest)) → byte_cmp low e.0 ≡ Less
below_middle low [] e rest h = less _ (first _ _ h)
below_middle low (x ∷ before) e rest h = below_middle low before e rest (second _ _ h)

below_front : (low : List ℕ) (es more : List Entry) → T (below_all byte_cmp low (es ++ more)) → T (below_all byte_cmp low es)
below_front low [] more h = tt
below_front low (x ∷ es) more h = both _ _ (first _ _ h) (below_front low es more (second _ _ h))
  where
    both : (a b : Bool) → T a → T b → T (a && b)
    both true b p q = q
    both false b p q = p

pub rising_front : (es more : List Entry) → IsRising (es ++ more) → IsRising es
rising_front [] more h = tt
rising_front (x ∷ es) more h = both _ _ (below_front x.0 es more (first _ _ h)) (rising_front es more (second _ _ h))
  where
    both : (a b : Bool) → T a → T b → T (a && b)
    both true b p q = q
    both false b p q = p

each_front : (es more : List Entry) → AllByRecursion IsEntry (es ++ more) → AllByRecursion IsEntry es
each_front [] more h = tt
each_front (x ∷ es) more h = (h.0, each_front es more h.1)

-- a prefix of an entry list is an entry list
pub list_front : (es more : List Entry) → IsEntryList (es ++ more) → IsEntryList es
list_front es more h = record { rising = rising_front es more h.rising; each = each_front es more h.each }

pub list_back : (es more : List Entry) → IsEntryList (es ++ more) → IsEntryList more
list_back [] more h = h
list_back (x ∷ es) more h = list_back es more (record { rising = second _ _ h.rising; each = h.each.1 })

-- entries before an entry have lower texts
pub found_before : (es : List Entry) (e : Entry) (more : List Entry) (name : List ℕ) (v : Option (List ℕ)) → IsRising (es ++ e ∷ more) → entry_of_key es name ≡ Some v → byte_cmp name e.0 ≡ Less
found_before [] e more name v r found = absurd (let no : None ≡ Some v = found in cc)
found_before (x ∷ es) e more name v r found = go (found_before es e more name v (second _ _ r)) (eq_by_cmp byte_cmp name x.0) refl found
  where
    go : (entry_of_key es name ≡ Some v → byte_cmp name e.0 ≡ Less) → (b : Bool) → eq_by_cmp byte_cmp name x.0 ≡ b → cond b (Some x.1) (find byte_cmp name es) ≡ Some v → byte_cmp name e.0 ≡ Less
    go rest true t f = subst (λ (n : List ℕ). byte_cmp n e.0 ≡ Less) (sym (one_text name x.0 t)) (below_middle x.0 es e more (first _ _ r))
    go rest false t f = rest f

irreflexive : (x : List ℕ) → byte_cmp x x ≡ Less → ⊥
irreflexive x e = absurd (let no : is_eq Less ≡ true = ap is_eq (sym e) ∙ ties_itself x in cc)

-- so its own text is not among theirs
pub none_before : (es : List Entry) (e : Entry) (more : List Entry) → IsRising (es ++ e ∷ more) → entry_of_key es e.0 ≡ None
none_before es e more r = go (entry_of_key es e.0) refl
  where
    go : (o : Option (Option (List ℕ))) → entry_of_key es e.0 ≡ o → entry_of_key es e.0 ≡ None
    go None is = is
    go (Some v) is = absurd (irreflexive e.0 (found_before es e more e.0 v r is))

-- a text below the first one of an ascending list is not in the list
pub none_behind : (e : Entry) (more : List Entry) (name : List ℕ) → IsRising (e ∷ more) → byte_cmp name e.0 ≡ Less → entry_of_key (e ∷ more) name ≡ None
none_behind e more name r lower =
    ap (λ (o : Ordering). cond (is_eq o) (Some e.1) (find byte_cmp name more)) lower
    ∙ find_below name more (below_less name e.0 more lower (first _ _ r))

-- ---- the cells of a list, and of a longer one

or_none : {A : Type 0} (x : Option A) → or_else x None ≡ x
or_none None = refl
or_none (Some a) = refl

-- a key that the appended entries don't name keeps its value
pub get_front : (es more : List Entry) → IsEntryList (es ++ more) → (q : CellKey) → (IsStored q → value_of (or_else (entry_of_key es (text q)) (entry_of_key more (text q))) ≡ value_of (entry_of_key es (text q))) → get (cells_of (es ++ more)) q ≡ get (cells_of es) q
get_front es more list q same = go (stored_or_none (es ++ more) list.each q) (stored_or_none es (list_front es more list).each q)
  where
    stored_same : IsStored q → get (cells_of (es ++ more)) q ≡ get (cells_of es) q
    stored_same s =
        get-cells_of (es ++ more) list.each q s
        ∙ ap value_of (find-++ (text q) es more)
        ∙ same s
        ∙ sym (get-cells_of es (list_front es more list).each q s)

    go : IsStored q ⊎ (get (cells_of (es ++ more)) q ≡ None) → IsStored q ⊎ (get (cells_of es) q ≡ None) → get (cells_of (es ++ more)) q ≡ get (cells_of es) q
    go (inl s) other = stored_same s
    go (inr e) (inl s) = stored_same s
    go (inr e) (inr f) = e ∙ sym f

pub get_unnamed : (es more : List Entry) → IsEntryList (es ++ more) → (q : CellKey) → (IsStored q → entry_of_key more (text q) ≡ None) → get (cells_of (es ++ more)) q ≡ get (cells_of es) q
get_unnamed es more list q none = get_front es more list q (λ s. ap value_of (ap (or_else (entry_of_key es (text q))) (none s) ∙ or_none (entry_of_key es (text q))))

erased_same : (x : Option (Option (List ℕ))) (b : Bool) → value_of (or_else x (cond b (Some None) None)) ≡ value_of x
erased_same None true = refl
erased_same None false = refl
erased_same (Some v) b = refl

-- an erasure changes no cell
pub get_erased : (es : List Entry) (name : List ℕ) → IsEntryList (es ++ (name, None) ∷ []) → (q : CellKey) → get (cells_of (es ++ (name, None) ∷ [])) q ≡ get (cells_of es) q
get_erased es name list q = get_front es ((name, None) ∷ []) list q (λ s. erased_same (entry_of_key es (text q)) (eq_by_cmp byte_cmp (text q) name))

module _ (es : List Entry) (k : CellKey) (stored : IsStored k) (value : List ℕ) (list : IsEntryList (es ++ (text k, Some value) ∷ [])) where
  abbrev pub added : List Entry
  added = es ++ (text k, Some value) ∷ []

  -- an appended value is there, and no other key changes
  pub get_added : get (cells_of added) k ≡ Some value
  get_added =
      get-cells_of added list.each k stored
      ∙ ap value_of (find-++ (text k) es ((text k, Some value) ∷ [])
      ∙ ap (λ (x : Option (Option (List ℕ))). or_else x (entry_of_key ((text k, Some value) ∷ []) (text k))) (none_before es (text k, Some value) [] list.rising)
      ∙ ap (λ (b : Bool). cond b (Some (Some value)) None) (ties_itself (text k)))

  pub get_other : (q : CellKey) → q ≢ k → get (cells_of added) q ≡ get (cells_of es) q
  get_other q other = get_unnamed es ((text k, Some value) ∷ []) list q (λ s. go s (eq_by_cmp byte_cmp (text q) (text k)) refl)
    where
      go : IsStored q → (b : Bool) → eq_by_cmp byte_cmp (text q) (text k) ≡ b → cond b (Some (Some value)) None ≡ None
      go s true t = absurd (other (text_exact q k (stored_plain q s) (stored_plain k stored) (one_text (text q) (text k) t)))
      go s false t = refl

  -- a key that had a value has a lower text
  pub lower_text : (q : CellKey) (v : List ℕ) → get (cells_of es) q ≡ Some v → IsStored q × (byte_cmp (text q) (text k) ≡ Less)
  lower_text q v there = go (stored_or_none es (list_front es _ list).each q)
    where
      there_at : (o : Option (Option (List ℕ))) → entry_of_key es (text q) ≡ o → value_of o ≡ Some v → byte_cmp (text q) (text k) ≡ Less
      there_at None is e = absurd (let no : None ≡ Some v = e in cc)
      there_at (Some w) is e = found_before es (text k, Some value) [] (text q) w list.rising is

      go : IsStored q ⊎ (get (cells_of es) q ≡ None) → IsStored q × (byte_cmp (text q) (text k) ≡ Less)
      go (inl s) = (s, there_at (entry_of_key es (text q)) refl (sym (get-cells_of es (list_front es _ list).each q s) ∙ there))
      go (inr e) = absurd (let no : None ≡ Some v = sym e ∙ there in cc)

-- ---- the newest version of a column

pub newest_same : (c d : Cells) (at : ℕ → CellKey) (hi : ℕ) (found : Option (ℕ × List ℕ)) → ((s : ℕ) → s ≤ hi → get d (at s) ≡ get c (at s)) → IsNewest c at 0 hi found → IsNewest d at 0 hi found
newest_same c d at hi None same h = λ s lo up. same s up ∙ h s lo up
newest_same c d at hi (Some found) same h = (
  h.0,
  h.1,
  same found.0 h.1 ∙ h.2,
  λ s above up. same s up ∙ h.3 s above up,
)

same_self : (x : List ℕ) → byte_cmp x x ≡ Equal
same_self x = go (byte_cmp x x) refl
  where
    go : (o : Ordering) → byte_cmp x x ≡ o → byte_cmp x x ≡ Equal
    go Less e = absurd (irreflexive x e)
    go Equal e = e
    go Greater e = absurd (irreflexive x (total.antisymm x x ∙ ap ordering_reverse e))

name_self : (q : Qualifier) → byte_cmp (qualifier_name q) (qualifier_name q) ≡ Equal
name_self q = same_self (qualifier_name q)

-- in one column a lower text has a later stamp
pub later_stamp : (row family : List ℕ) (q : Qualifier) (s t : ℕ) → IsStored (version row family q s) → IsStored (version row family q t) → byte_cmp (text (version row family q s)) (text (version row family q t)) ≡ Less → t < s
later_stamp row family q s t a b lower = go (nat_cmp t s) refl (ranks t s)
  where
    keys : key_cmp (version row family q s) (version row family q t) ≡ nat_cmp t s
    keys =
        ap (λ (o : Ordering). ordering_then o (ordering_then (byte_cmp family family) (ordering_then (byte_cmp (qualifier_name q) (qualifier_name q)) (nat_cmp t s)))) (same_self row)
        ∙ ap (λ (o : Ordering). ordering_then o (ordering_then (byte_cmp (qualifier_name q) (qualifier_name q)) (nat_cmp t s))) (same_self family)
        ∙ ap (λ (o : Ordering). ordering_then o (nat_cmp t s)) (name_self q)

    is_less : nat_cmp t s ≡ Less
    is_less = sym keys ∙ sym (text_order (version row family q s) (version row family q t) (stored_key _ a) (stored_key _ b)) ∙ lower

    go : (o : Ordering) → nat_cmp t s ≡ o → MatchOrdering o (t < s) (t ≡ s) (s < t) → t < s
    go Less e m = m
    go Equal e m = absurd (let no : Equal ≡ Less = sym e ∙ is_less in cc)
    go Greater e m = absurd (let no : Greater ≡ Less = sym e ∙ is_less in cc)

other_stamp : (row family : List ℕ) (q : Qualifier) (s t : ℕ) → s ≢ t → version row family q s ≢ version row family q t
other_stamp row family q s t other e = other (ap (λ (k : CellKey). k.stamp) e)

module _ (es : List Entry) (row family : List ℕ) (q : Qualifier) (s : ℕ) (stored : IsStored (version row family q s)) (value : List ℕ) (list : IsEntryList (es ++ (text (version row family q s), Some value) ∷ [])) (hi : ℕ) where
  -- a version above `hi` changes nothing
  pub newest_above : hi < s → (p : Qualifier) (found : Option (ℕ × List ℕ)) → IsNewest (cells_of es) (version row family p) 0 hi found → IsNewest (cells_of (es ++ (text (version row family q s), Some value) ∷ [])) (version row family p) 0 hi found
  newest_above up p found h =
      newest_same (cells_of es) _ (version row family p) hi found
      (λ t within. get_other es (version row family q s) stored value list (version row family p t) (λ e. let same = ap (λ (k : CellKey). k.stamp) e in omega (arith, same, up, within))) h

  -- neither does one of another column
  pub newest_beside : (p : Qualifier) → p ≢ q → (found : Option (ℕ × List ℕ)) → IsNewest (cells_of es) (version row family p) 0 hi found → IsNewest (cells_of (es ++ (text (version row family q s), Some value) ∷ [])) (version row family p) 0 hi found
  newest_beside p other found h =
      newest_same (cells_of es) _ (version row family p) hi found
      (λ t within. get_other es (version row family q s) stored value list (version row family p t) (λ e. other (ap (λ (k : CellKey). k.qualifier) e))) h

  -- the first one at or below `hi` is the newest
  pub newest_kept : s ≤ hi → (found : Option (ℕ × List ℕ)) → IsNewest (cells_of es) (version row family q) 0 hi found → IsNewest (cells_of (es ++ (text (version row family q s), Some value) ∷ [])) (version row family q) 0 hi (or_else found (Some (s, value)))
  newest_kept within None h = (
    omega arith,
    within,
    get_added es (version row family q s) stored value list,
    λ t above up. get_other es (version row family q s) stored value list (version row family q t) (other_stamp row family q t s (λ e. omega (arith, e, above))) ∙ h t (omega arith) up,
  )
  newest_kept within (Some found) h =
      let was = lower_text es (version row family q s) stored value list (version row family q found.0) found.1 h.2 in
      let later : s < found.0 = later_stamp row family q found.0 s was.0 stored was.1 in (
        h.0,
        h.1,
        get_other es (version row family q s) stored value list (version row family q found.0) (other_stamp row family q found.0 s (λ e. omega (arith, e, later))) ∙ h.2,
        λ t above up. get_other es (version row family q s) stored value list (version row family q t) (other_stamp row family q t s (λ e. omega (arith, e, above, later))) ∙ h.3 t above up,
      )
