-- The values of a column's entries are its newest versions.
use Rattle.std.proofs.Common.{◌≡◌, ◌<◌, ◌≤◌, ◌-◌, ◌^◌, ℕ, zero, suc, Bool, true, false, cond, List, [], ◌∷◌, ◌++◌, ◌⊎◌, inl, inr, take, map, length, Option, Some, None, refl, sym, ap, subst, ◌∙◌, T, arith}
use Rattle.std.specs.Prelude.{IfSome, IsTrue}
use Rattle.std.specs.List.{AllByRecursion}
use Rattle.std.proofs.lemmas.List.{take-append-le}
use Rattle.std.proofs.lemmas.Option.{same_Some}
use Rattle.std.specs.declared.cmp.Ordering.{Ordering}
use Rattle.std.specs.declared.cmp.Ordering.TheVariants.{Less, Equal, Greater}
use Rattle.std.specs.Ordering.{is_eq, is_le, is_lt, ordering_then, ordering_reverse, nat_cmp, eq_by_cmp, MatchOrdering}
use Rattle.std.specs.Cmp.{ranks}
use Rattle.std.specs.FinMap.{get}
use Rattle.std.specs.FinMap.Entries.{find, below_all}
use Rattle.cell_key.specs.Names.{IsRow, IsFamily}
use Rattle.cell_key.specs.Keys.{byte_cmp, qualifier_name, text, IsKey, IsStored}
use Rattle.cell_key.specs.Cells.{Cells, IsNewest, version}
use Rattle.cell_key.specs.Entries.{Entry, IsEntry, IsEntryList, IsRising, cells_of, entry_of_key, first_naming, key_of_text, value_of}
use Rattle.cell_key.specs.declared.keys.CellKey.{CellKey}
use Rattle.cell_key.specs.declared.keys.Qualifier.{Qualifier}
use Rattle.cell_key.proofs.EntryLaws.{key_of_text-text, stored_key}
use Rattle.cell_key.proofs.EntryLists.{ties_itself, total}
use Rattle.cell_key.proofs.KeyLaws.{exact_qualifiers}
use Rattle.cell_key.proofs.Order.{text_order}
use Rattle.cell_key.proofs.TextPlaces.{below_less, find_below, first, less, one_text, second}
use Rattle.file_store.specs.Store.{Contents}
use Rattle.sorted_file.specs.File.{IsOpen, listed}
use Rattle.sorted_file.specs.declared.file.SortedFile.{SortedFile}
use Rattle.tablet.specs.Ranges.{has_row}
use Rattle.rows.specs.Reads.{AreNewestFirst}
use Rattle.tablet.specs.Reads.{stamped_values}
use Rattle.tablet.specs.Sources.{part}
use Rattle.tablet.specs.Views.{range_of, memory_of, files_of, lists_of, cells_at, Holds}
use Rattle.tablet.specs.declared.ranges.RowRange.{RowRange}
use Rattle.tablet.specs.declared.tablet.Tablet.{Tablet}
use Rattle.tablet.proofs.Filters.{is_between, one_text as tie_text}
use Rattle.tablet.proofs.Held.{held_lists}
use Rattle.tablet.proofs.NextCells.{both_so, first_so, second_so, same_text}
use Rattle.tablet.proofs.Shown.{first_at, part_at, part_list, shown, stored_or_hidden, view}

-- ---- orders

lower : (a b : ℕ) → nat_cmp a b ≡ Less → a < b
lower a b e = go (nat_cmp a b) e (ranks a b)
  where
    go : (o : Ordering) → o ≡ Less → MatchOrdering o (a < b) (a ≡ b) (b < a) → a < b
    go Less e m = m
    go Equal e m = cc
    go Greater e m = cc

less_by : (a b : ℕ) → a < b → nat_cmp a b ≡ Less
less_by a b h = go (nat_cmp a b) (ranks a b)
  where
    go : (o : Ordering) → MatchOrdering o (a < b) (a ≡ b) (b < a) → o ≡ Less
    go Less m = refl
    go Equal m = absurd (omega (arith, m))
    go Greater m = absurd (omega (arith, m))

greater_by : (a b : ℕ) → b < a → nat_cmp a b ≡ Greater
greater_by a b h = go (nat_cmp a b) (ranks a b)
  where
    go : (o : Ordering) → MatchOrdering o (a < b) (a ≡ b) (b < a) → o ≡ Greater
    go Less m = absurd (omega (arith, m))
    go Equal m = absurd (omega (arith, m))
    go Greater m = refl

up_to : (a b : ℕ) → is_le (nat_cmp a b) ≡ true → a ≤ b
up_to a b e = go (nat_cmp a b) e (ranks a b)
  where
    go : (o : Ordering) → is_le o ≡ true → MatchOrdering o (a < b) (a ≡ b) (b < a) → a ≤ b
    go Less e m = omega (arith, m)
    go Equal e m = omega (arith, m)
    go Greater e m = cc

le_by : (a b : ℕ) → a ≤ b → is_le (nat_cmp a b) ≡ true
le_by a b h = go (nat_cmp a b) (ranks a b)
  where
    go : (o : Ordering) → MatchOrdering o (a < b) (a ≡ b) (b < a) → is_le o ≡ true
    go Less m = refl
    go Equal m = refl
    go Greater m = absurd (omega (arith, m))

-- a part that is bounded by the same part from both sides is equal to it
squeezed : (r s t : Ordering) → is_le (ordering_then r s) ≡ true → is_lt (ordering_then (ordering_reverse r) t) ≡ true → (r ≡ Equal) × (is_le s ≡ true) × (is_lt t ≡ true)
squeezed Less s t e f = cc
squeezed Equal s t e f = (refl, e, f)
squeezed Greater s t e f = cc

less_so : (o : Ordering) → is_lt o ≡ true → o ≡ Less
less_so Less e = refl
less_so Equal e = cc
less_so Greater e = cc

take_none : {A : Type 0} (n : ℕ) → take {A = A} n [] ≡ []
take_none zero = refl
take_none (suc n) = refl

take_whole : {A : Type 0} (xs : List A) (n : ℕ) → length xs ≤ n → take n xs ≡ xs
take_whole [] n few = take_none n
take_whole (x ∷ xs) zero few = absurd (omega arith)
take_whole (x ∷ xs) (suc n) few = ap (λ ys. x ∷ ys) (take_whole xs n (omega arith))

-- ---- the keys of a column

module _ (row family : List ℕ) (qualifier : Qualifier) (is_row : IsRow row) (is_family : IsFamily family) where
  abbrev at : ℕ → CellKey
  at = version row family qualifier

  is_key : (s : ℕ) → s < 2 ^ 63 → IsKey (at s)
  is_key s small = record { row = is_row; family = is_family; stamp = omega arith }

  is_stored : (s : ℕ) → 1 ≤ s → s < 2 ^ 63 → IsStored (at s)
  is_stored s from to = record { row = is_row; family = is_family; from = from; to = to }

  -- their stamps descend in the order of their texts
  stamp_order : (a b : ℕ) → a < 2 ^ 63 → b < 2 ^ 63 → byte_cmp (text (at a)) (text (at b)) ≡ nat_cmp b a
  stamp_order a b small less =
      text_order (at a) (at b) (is_key a small) (is_key b less)
      ∙ ap (λ o. ordering_then o (ordering_then (byte_cmp family family) (ordering_then (byte_cmp (qualifier_name qualifier) (qualifier_name qualifier)) (nat_cmp b a)))) (same_text row)
      ∙ ap (λ o. ordering_then o (ordering_then (byte_cmp (qualifier_name qualifier) (qualifier_name qualifier)) (nat_cmp b a))) (same_text family)
      ∙ ap (λ o. ordering_then o (nat_cmp b a)) (same_text (qualifier_name qualifier))

  abbrev between : ℕ → List ℕ → Bool
  between hi name = is_between (text (at hi)) (Some (text (at 0))) name

  inside : (hi s : ℕ) → hi < 2 ^ 63 → 1 ≤ s → s ≤ hi → between hi (text (at s)) ≡ true
  inside hi s small from most =
      both_so _ _ (ap is_le (stamp_order hi s small (omega arith)) ∙ le_by s hi most)
      (ap is_lt (stamp_order s 0 (omega arith) (omega arith) ∙ less_by 0 s (omega arith)))

  -- a text between two keys of the column is the text of a key of the column
  record IsOfColumn (hi : ℕ) (name : List ℕ) : Type 0 where
    stamp : ℕ
    from : 1 ≤ stamp
    most : stamp ≤ hi
    named : name ≡ text (at stamp)

  of_column : (hi : ℕ) → hi < 2 ^ 63 → (key : CellKey) → IsStored key → between hi (text key) ≡ true → IsOfColumn hi (text key)
  of_column hi small key stored e =
      let low = ap is_le (sym (text_order (at hi) key (is_key hi small) (stored_key key stored))) ∙ first_so _ _ e in
      let high = ap is_lt (sym (text_order key (at 0) (stored_key key stored) (is_key 0 (omega arith)))) ∙ second_so (is_le (byte_cmp (text (at hi)) (text key))) _ e in
      let rows = squeezed (byte_cmp row key.row) _ (ordering_then (byte_cmp key.family family) (ordering_then (byte_cmp (qualifier_name key.qualifier) (qualifier_name qualifier)) (nat_cmp 0 key.stamp))) low
      (ap (λ o. is_lt (ordering_then o (ordering_then (byte_cmp key.family family) (ordering_then (byte_cmp (qualifier_name key.qualifier) (qualifier_name qualifier)) (nat_cmp 0 key.stamp))))) (sym (total.antisymm key.row row)) ∙ high) in
      let families = squeezed (byte_cmp family key.family) _ (ordering_then (byte_cmp (qualifier_name key.qualifier) (qualifier_name qualifier)) (nat_cmp 0 key.stamp)) rows.1
      (ap (λ o. is_lt (ordering_then o (ordering_then (byte_cmp (qualifier_name key.qualifier) (qualifier_name qualifier)) (nat_cmp 0 key.stamp)))) (sym (total.antisymm key.family family)) ∙ rows.2) in
      let names = squeezed (byte_cmp (qualifier_name qualifier) (qualifier_name key.qualifier)) (nat_cmp key.stamp hi) (nat_cmp 0 key.stamp) families.1
      (ap (λ o. is_lt (ordering_then o (nat_cmp 0 key.stamp))) (sym (total.antisymm (qualifier_name key.qualifier) (qualifier_name qualifier))) ∙ families.2) in
      let same_row = one_text row key.row rows.0 in
      let same_family = one_text family key.family families.0 in
      let same_qualifier = exact_qualifiers qualifier key.qualifier names.0 in
      record {
        stamp = key.stamp;
        from = stored.from;
        most = up_to key.stamp hi names.1;
        named = sym (λ i. text (version (same_row i) (same_family i) (same_qualifier i) key.stamp));
      }

  -- ---- the values of entries of the column

  module _ (cells : Cells) where
    -- at the column's stamps up to `hi` the cells are given by the entries
    abbrev Shows : ℕ → List Entry → Type 0
    Shows hi es = (s : ℕ) → 1 ≤ s → s ≤ hi → get cells (at s) ≡ value_of (entry_of_key es (text (at s)))

    passes_erased : (name : List ℕ) (es : List Entry) (hi : ℕ) → IsRising ((name, None) ∷ es) → Shows hi ((name, None) ∷ es) → Shows hi es
    passes_erased name es hi rising shows = λ s from most. shows s from most ∙ go s (eq_by_cmp byte_cmp (text (at s)) name) refl
      where
        go : (s : ℕ) (b : Bool) → eq_by_cmp byte_cmp (text (at s)) name ≡ b → value_of (cond b (Some None) (find byte_cmp (text (at s)) es)) ≡ value_of (find byte_cmp (text (at s)) es)
        go s true e = sym (ap value_of (ap (λ (k : List ℕ). find byte_cmp k es) (tie_text (text (at s)) name e) ∙ find_below name es (first _ _ rising)))
        go s false e = refl

    passes_value : (name value : List ℕ) (es : List Entry) (s hi : ℕ) → s < 2 ^ 63 → 1 ≤ s → name ≡ text (at s) → s ≤ hi → Shows hi ((name, Some value) ∷ es) → Shows (s - 1) es
    passes_value name value es s hi small one named most shows = λ t from below.
        let order : byte_cmp (text (at t)) name ≡ Greater = ap (byte_cmp (text (at t))) named ∙ stamp_order t s (omega arith) small ∙ greater_by s t (omega arith) in
        shows t from (omega arith) ∙ ap (λ (o : Ordering). value_of (cond (is_eq o) (Some (Some value)) (find byte_cmp (text (at t)) es))) order

    -- entries after an entry of the column have lower stamps
    narrowed : (s hi : ℕ) → s < 2 ^ 63 → hi < 2 ^ 63 → (es : List Entry) → T (below_all byte_cmp (text (at s)) es) → AllByRecursion (λ e. IsOfColumn hi e.0) es → AllByRecursion (λ e. IsOfColumn (s - 1) e.0) es
    narrowed s hi small high [] below all = tt
    narrowed s hi small high (e ∷ es) below all = (
      record { stamp = c.stamp; from = c.from; most = omega (arith, less_stamp); named = c.named },
      narrowed s hi small high es (second _ _ below) all.1,
    )
      where
        c : IsOfColumn hi e.0
        c = all.0

        order : nat_cmp c.stamp s ≡ Less
        order =
            let most = c.most in
            sym (stamp_order s c.stamp small (omega arith)) ∙ ap (byte_cmp (text (at s))) (sym c.named) ∙ less (byte_cmp (text (at s)) e.0) (first (is_lt (byte_cmp (text (at s)) e.0)) (below_all byte_cmp (text (at s)) es) below)

        less_stamp : c.stamp < s
        less_stamp = lower c.stamp s order

    newest_none : (hi : ℕ) → get cells (at 0) ≡ None → ((s : ℕ) → 1 ≤ s → s ≤ hi → get cells (at s) ≡ None) → IsNewest cells at 0 hi None
    newest_none hi none_first none zero low most = none_first
    newest_none hi none_first none (suc s) low most = none (suc s) (omega arith) most

    newest_some : (name value : List ℕ) (es : List Entry) (s hi : ℕ) → hi < 2 ^ 63 → 1 ≤ s → name ≡ text (at s) → s ≤ hi → IsRising ((name, Some value) ∷ es) → Shows hi ((name, Some value) ∷ es) → IsNewest cells at 0 hi (Some (s, value))
    newest_some name value es s hi high one named most rising shows = (
      omega arith,
      most,
      shows s one most ∙ ap (λ (b : Bool). value_of (cond b (Some (Some value)) (find byte_cmp (text (at s)) es))) (ap (eq_by_cmp byte_cmp (text (at s))) named ∙ ties_itself (text (at s))),
      λ t above up.
          let order : byte_cmp (text (at t)) name ≡ Less = ap (byte_cmp (text (at t))) named ∙ stamp_order t s (omega arith) (omega arith) ∙ less_by s t above in
          shows t (omega arith) up
          ∙ ap (λ (o : Ordering). value_of (cond (is_eq o) (Some (Some value)) (find byte_cmp (text (at t)) es))) order
          ∙ ap value_of (find_below (text (at t)) es (below_less (text (at t)) name es order (first _ _ rising))),
    )

    newest_values : get cells (at 0) ≡ None → (es : List Entry) → IsRising es → (hi most : ℕ) → hi < 2 ^ 63 → AllByRecursion (λ e. IsOfColumn hi e.0) es → Shows hi es → AreNewestFirst cells at hi most (take most (stamped_values es))
    newest_values none_first [] rising hi most high all shows = subst (AreNewestFirst cells at hi most) (sym (take_none most)) (λ wanted. newest_none hi none_first shows)
    newest_values none_first ((name, None) ∷ es) rising hi most high all shows = newest_values none_first es (second _ _ rising) hi most high all.1 (passes_erased name es hi rising shows)
    newest_values none_first ((name, Some value) ∷ es) rising hi zero high all shows = λ wanted. absurd (omega (arith, wanted))
    newest_values none_first ((name, Some value) ∷ es) rising hi (suc k) high all shows =
        let c : IsOfColumn hi name = all.0 in
        let most : c.stamp ≤ hi = c.most in
        let from : 1 ≤ c.stamp = c.from in
        let same : c.stamp ≡ (key_of_text name).stamp = sym (ap (λ (n : List ℕ). (key_of_text n).stamp) c.named ∙ ap (λ (key : CellKey). key.stamp) (key_of_text-text (at c.stamp) (is_stored c.stamp from (omega arith)))) in
        let fewer : k ≡ suc k - 1 = omega arith in
        subst (λ (s : ℕ). AreNewestFirst cells at hi (suc k) ((s, value) ∷ take k (stamped_values es))) same (
          omega arith,
          newest_some name value es c.stamp hi high from c.named most rising shows,
          from,
          subst (λ (j : ℕ). AreNewestFirst cells at (c.stamp - 1) j (take k (stamped_values es))) fewer
              (newest_values none_first es (second _ _ rising) (c.stamp - 1) k (omega arith)
              (narrowed c.stamp hi (omega arith) high es (subst (λ (n : List ℕ). T (below_all byte_cmp n es)) c.named (first _ _ rising)) all.1)
              (passes_value name value es c.stamp hi (omega arith) from c.named most shows)),
        )

    widened : (last hi most : ℕ) → last ≤ hi → ((s : ℕ) → s ≤ hi → (s ≤ last) ⊎ (get cells (at s) ≡ None)) → (vs : List (ℕ × List ℕ)) → AreNewestFirst cells at last most vs → AreNewestFirst cells at hi most vs
    widened last hi most below either [] found = λ wanted s low up. go s (found wanted) (either s up)
      where
        go : (s : ℕ) → IsNewest cells at 0 last None → (s ≤ last) ⊎ (get cells (at s) ≡ None) → get cells (at s) ≡ None
        go s none (inl up) = none s (omega arith) up
        go s none (inr e) = e
    widened last hi most below either (v ∷ vs) (some, (low, high, there, above), one, rest) = (some, (low, omega (arith, high), there, λ s more up. go s more (either s up)), one, rest)
      where
        go : (s : ℕ) → v.0 < s → (s ≤ last) ⊎ (get cells (at s) ≡ None) → get cells (at s) ≡ None
        go s more (inl up) = above s more up
        go s more (inr e) = e

  -- ---- the values of a range

  -- a property of every named text holds for each entry of an ascending list
  each_found : (P : List ℕ → Type 0) (es : List Entry) → IsRising es → ((name : List ℕ) (x : Option (List ℕ)) → entry_of_key es name ≡ Some x → P name) → AllByRecursion (λ e. P e.0) es
  each_found P [] rising h = tt
  each_found P (e ∷ es) rising h = (
    h e.0 e.1 (ap (λ (b : Bool). cond b (Some e.1) (find byte_cmp e.0 es)) (ties_itself e.0)),
    each_found P es (second _ _ rising) (λ name x found. h name x (go name x found (eq_by_cmp byte_cmp name e.0) refl)),
  )
    where
      go : (name : List ℕ) (x : Option (List ℕ)) → entry_of_key es name ≡ Some x → (b : Bool) → eq_by_cmp byte_cmp name e.0 ≡ b → cond b (Some e.1) (find byte_cmp name es) ≡ Some x
      go name x found true t = absurd (let no : None ≡ Some x = sym (ap (λ (k : List ℕ). find byte_cmp k es) (tie_text name e.0 t) ∙ find_below e.0 es (first _ _ rising)) ∙ found in cc)
      go name x found false t = found

  chosen : (b : Bool) (o : Option (Option (List ℕ))) (x : Option (List ℕ)) → cond b o None ≡ Some x → b ≡ true
  chosen true o x e = refl
  chosen false o x e = cc

  all_of_column : (hi : ℕ) → hi < 2 ^ 63 → (es : List Entry) → AllByRecursion IsEntry es → AllByRecursion (λ e. between hi e.0 ≡ true) es → AllByRecursion (λ e. IsOfColumn hi e.0) es
  all_of_column hi high [] each inside = tt
  all_of_column hi high (e ∷ es) each inside =
      let is : IsEntry e = each.0 in (
        subst (IsOfColumn hi) (sym is.named) (of_column hi high is.key is.stored (subst (λ (n : List ℕ). between hi n ≡ true) is.named inside.0)),
        all_of_column hi high es each.1 inside.1,
      )

  module _ (range : RowRange) (lists : List (List Entry)) (each : AllByRecursion IsEntryList lists) (has : has_row range row ≡ true) (last : ℕ) (high : last < 2 ^ 63) where
    abbrev shown_cells : Cells
    shown_cells = cells_of (view range lists)

    abbrev entries : List Entry
    entries = part (text (at last)) (Some (text (at 0))) lists

    list : IsEntryList entries
    list = part_list (text (at last)) (Some (text (at 0))) lists each

    found_at : (name : List ℕ) → entry_of_key entries name ≡ cond (between last name) (first_naming lists name) None
    found_at name = part_at (text (at last)) (Some (text (at 0))) lists name

    shows : Shows shown_cells last entries
    shows s from most =
        shown range lists each (at s) (is_stored s from (omega arith))
        ∙ ap (λ (b : Bool). cond b (first_at lists (at s)) None) has
        ∙ sym (ap value_of (found_at (text (at s)) ∙ ap (λ (b : Bool). cond b (first_naming lists (text (at s))) None) (inside last s high from most)))

    columns : AllByRecursion (λ e. IsOfColumn last e.0) entries
    columns = all_of_column last high entries list.each (each_found (λ name. between last name ≡ true) entries list.rising (λ name x found. chosen (between last name) (first_naming lists name) x (sym (found_at name) ∙ found)))

    none_first : get shown_cells (at 0) ≡ None
    none_first = go (stored_or_hidden range lists each (at 0))
      where
        go : IsStored (at 0) ⊎ (get shown_cells (at 0) ≡ None) → get shown_cells (at 0) ≡ None
        go (inl stored) = absurd (let from : 1 ≤ 0 = stored.from in omega arith)
        go (inr e) = e

    pub newest_shown : (hi most : ℕ) → last ≤ hi → ((s : ℕ) → s < 2 ^ 63 → s ≤ hi → s ≤ last) → AreNewestFirst shown_cells at hi most (take most (stamped_values entries))
    newest_shown hi most below down = widened shown_cells last hi most below (λ s up. go s up (stored_or_hidden range lists each (at s))) (take most (stamped_values entries))
        (newest_values shown_cells none_first entries list.rising last most high columns shows)
      where
        go : (s : ℕ) → s ≤ hi → IsStored (at s) ⊎ (get shown_cells (at s) ≡ None) → (s ≤ last) ⊎ (get shown_cells (at s) ≡ None)
        go s up (inl stored) = inl (down s stored.to up)
        go s up (inr e) = inr e

  -- ---- the values of a tablet

  pub newest_found : (t : Tablet) (fs : List SortedFile) → fs ≡ files_of t → (last hi most : ℕ) → last < 2 ^ 63 → last ≤ hi → ((s : ℕ) → s < 2 ^ 63 → s ≤ hi → s ≤ last)
      → (x : List ℕ) (y : Option (List ℕ)) → x ≡ text (at last) → y ≡ Some (text (at 0)) → (vs : List (ℕ × List ℕ)) → (o : Option Contents)
      → IfSome o (λ m. AllByRecursion (IsOpen m) fs → vs ≡ take most (stamped_values (part x y (memory_of t ∷ map (listed m) fs))))
      → IfSome o (λ m. Holds m t → IsTrue (has_row (range_of t) row) → AreNewestFirst (cells_at m t) (version row family qualifier) hi most vs)
  newest_found t fs files last hi most high below down x y starts ends vs None h = tt
  newest_found t fs files last hi most high below down x y starts ends vs (Some m) h =
      λ held has.
      subst (AreNewestFirst (cells_at m t) at hi most)
      (sym (h (subst (λ (gs : List SortedFile). AllByRecursion (IsOpen m) gs) (sym files) held.files) ∙ (λ i. take most (stamped_values (part (starts i) (ends i) (memory_of t ∷ map (listed m) (files i)))))))
      (newest_shown (range_of t) (lists_of m t) (held_lists m t held) has last high hi most below down)

-- ---- results of a search

-- the search is full: it has found `most` versions
pub found_full : (vs all : List (ℕ × List ℕ)) (left : List Entry) (most : ℕ) → vs ++ stamped_values left ≡ all → length vs ≡ most → vs ≡ take most all
found_full vs all left most e full =
    sym (ap (take most) (sym e) ∙ take-append-le most vs (stamped_values left) (omega arith) ∙ take_whole vs most (omega arith))

-- the version of one entry
pub one_stamped : (key : CellKey) (name value : List ℕ) (entry : Option (List ℕ)) → IsStored key → name ≡ text key → Some value ≡ entry → (key.stamp, value) ∷ [] ≡ stamped_values ((name, entry) ∷ [])
one_stamped key name value None stored named is = cc
one_stamped key name value (Some other) stored named is =
    let same : key ≡ key_of_text name = sym (ap key_of_text named ∙ key_of_text-text key stored) in
    let bytes : value ≡ other = same_Some value other is in
    λ i. ((same i).stamp, bytes i) ∷ []
