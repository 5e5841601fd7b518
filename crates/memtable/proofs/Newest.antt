-- The newest version of a column in an entry list.
use Rattle.std.proofs.Common.{◌≡◌, ◌≢◌, ◌<◌, ◌≤◌, ◌^◌, ℕ, Bool, true, false, cond, nat_lt, List, [], ◌∷◌, Option, Some, None, ◌⊎◌, inl, inr, refl, sym, ap, subst, ◌∙◌, arith}
use Rattle.std.proofs.lemmas.Bool.Decides.{nat_tests}
use Rattle.std.proofs.lemmas.Option.{same_Some}
use Rattle.std.specs.List.{AllByRecursion}
use Rattle.std.specs.declared.cmp.Ordering.{Ordering}
use Rattle.std.specs.declared.cmp.Ordering.TheVariants.{Less, Equal, Greater}
use Rattle.std.specs.Ordering.{is_eq, is_le, is_lt, ordering_then, ordering_reverse, eq_by_cmp, nat_cmp, MatchOrdering}
use Rattle.std.specs.Cmp.{ranks, nat_cmp_is, tied_itself}
use Rattle.std.specs.Cmp.Lexicographic.{nat_list_cmp_total}
use Rattle.std.specs.FinMap.{get}
use Rattle.std.specs.FinMap.Entries.{find}
use Rattle.cell_key.specs.Names.{IsRow, IsFamily}
use Rattle.cell_key.specs.Keys.{byte_cmp, key_cmp, text, qualifier_name, IsKey, IsStored}
use Rattle.cell_key.specs.Cells.{IsNewest, version}
use Rattle.cell_key.specs.Versions.{IsVersion}
use Rattle.cell_key.specs.Entries.{Entry, IsEntry, IsEntryList, IsRising, cells_of, entries_from, entry_of_key, value_of}
use Rattle.cell_key.specs.declared.keys.CellKey.{CellKey}
use Rattle.cell_key.specs.declared.keys.Qualifier.{Qualifier}
use Rattle.cell_key.proofs.Order.{text_order, text_exact, plain_key}
use Rattle.cell_key.proofs.EntryLaws.{get-cells_of, no_cell, stored_key}
use Rattle.cell_key.proofs.TextPlaces.{equal, find_below, find_lower, first, one_text, second}
use Rattle.cell_key.proofs.KeyLaws.{exact_qualifiers, same_key}
use Rattle.memtable.specs.Slots.{first_value}

-- ---- the first value from a text on

module _ (from : List ℕ) where
  -- the first value from a text on: its text has this value, and no text between has one
  pub record IsFirst (es : List Entry) (name value : List ℕ) : Type 0 where
    pub above : is_le (byte_cmp from name) ≡ true
    pub there : entry_of_key es name ≡ Some (Some value)
    pub least : (k : List ℕ) → is_le (byte_cmp from k) ≡ true → byte_cmp k name ≡ Less → value_of (entry_of_key es k) ≡ None

  abbrev pub Tells : List Entry → Option Entry → Type 0
  Tells es None = (k : List ℕ) → is_le (byte_cmp from k) ≡ true → value_of (entry_of_key es k) ≡ None
  Tells es (Some (name, None)) = ⊥
  Tells es (Some (name, Some value)) = IsFirst es name value

  module _ (n : List ℕ) (o : Option (List ℕ)) (es : List Entry) (r : IsRising ((n, o) ∷ es)) (pass : (k : List ℕ) → is_le (byte_cmp from k) ≡ true → value_of (entry_of_key es k) ≡ None → value_of (entry_of_key ((n, o) ∷ es) k) ≡ None) where
    behind : (name value : List ℕ) → entry_of_key es name ≡ Some (Some value) → (b : Bool) → eq_by_cmp byte_cmp name n ≡ b → cond b (Some o) (find byte_cmp name es) ≡ Some (Some value)
    behind name value e false t = e
    behind name value e true t =
        let none : find byte_cmp name es ≡ None = ap (λ (k : List ℕ). find byte_cmp k es) (one_text name n (equal _ t)) ∙ find_below n es (first _ _ r) in
        let some : find byte_cmp name es ≡ Some (Some value) = e in
        cc

    passed : (found : Option Entry) → Tells es found → Tells ((n, o) ∷ es) found
    passed None h = λ k le. pass k le (h k le)
    passed (Some (name, None)) h = h
    passed (Some (name, Some value)) h = record {
      above = h.above;
      there = behind name value h.there (eq_by_cmp byte_cmp name n) refl;
      least = λ k le less. pass k le (h.least k le less);
    }

  erased : (b : Bool) (o : Option (Option (List ℕ))) → value_of o ≡ None → value_of (cond b (Some None) o) ≡ None
  erased true o e = refl
  erased false o e = e

  below : (n : List ℕ) (o : Option (List ℕ)) (es : List Entry) → is_le (byte_cmp from n) ≡ false → (k : List ℕ) → is_le (byte_cmp from k) ≡ true → value_of (entry_of_key es k) ≡ None → (b : Bool) → eq_by_cmp byte_cmp k n ≡ b → value_of (cond b (Some o) (find byte_cmp k es)) ≡ None
  below n o es low k le none false t = none
  below n o es low k le none true t = let same = sym (ap (λ (x : List ℕ). is_le (byte_cmp from x)) (one_text k n (equal _ t))) ∙ le in let no : false ≡ true = sym low ∙ same in cc

  pub tells : (es : List Entry) → IsRising es → Tells es (first_value (entries_from from es))
  tells [] r = λ k le. refl
  tells ((n, o) ∷ es) r = go (is_le (byte_cmp from n)) refl o r (tells es (second _ _ r))
    where
      go : (b : Bool) → is_le (byte_cmp from n) ≡ b → (o : Option (List ℕ)) → IsRising ((n, o) ∷ es) → Tells es (first_value (entries_from from es)) → Tells ((n, o) ∷ es) (first_value (cond b ((n, o) ∷ entries_from from es) (entries_from from es)))
      go false e o r rest = passed n o es r (λ k le none. below n o es e k le none (eq_by_cmp byte_cmp k n) refl) (first_value (entries_from from es)) rest
      go true e None r rest = passed n None es r (λ k le none. erased (eq_by_cmp byte_cmp k n) (find byte_cmp k es) none) (first_value (entries_from from es)) rest
      go true e (Some v) r rest = record {
        above = e;
        there = ap (λ (o : Ordering). cond (is_eq o) (Some (Some v)) (find byte_cmp n es)) (tied_itself nat_list_cmp_total n);
        least = λ k le less. ap value_of (find_lower k (n, Some v) es r less);
      }

-- each element of an entry list is an entry
pub entry_at : (es : List Entry) → AllByRecursion IsEntry es → (name : List ℕ) (o : Option (List ℕ)) → entry_of_key es name ≡ Some o → IsEntry (name, o)
entry_at [] all name o e = let no : None ≡ Some o = e in cc
entry_at ((n, v) ∷ es) all name o e = go (entry_at es all.1 name o) (eq_by_cmp byte_cmp name n) refl e
  where
    go : (find byte_cmp name es ≡ Some o → IsEntry (name, o)) → (b : Bool) → eq_by_cmp byte_cmp name n ≡ b → cond b (Some v) (find byte_cmp name es) ≡ Some o → IsEntry (name, o)
    go more false t e = more e
    go more true t e =
        let text = one_text name n (equal _ t) in
        let value = same_Some v o e in
        subst (λ (p : Entry). IsEntry p) (λ i. (sym text i, value i)) all.0

-- ---- the versions of a column

both_level : (r u v : Ordering) → is_le (ordering_then r u) ≡ true → is_lt (ordering_then (ordering_reverse r) v) ≡ true → (r ≡ Equal) × (is_le u ≡ true) × (is_lt v ≡ true)
both_level Less u v e h = cc
both_level Equal u v e h = (refl, e, h)
both_level Greater u v e h = cc

up_to : (a b : ℕ) → is_le (nat_cmp a b) ≡ true → a ≤ b
up_to a b e = go (nat_cmp a b) (ranks a b) e
  where
    go : (o : Ordering) → MatchOrdering o (a < b) (a ≡ b) (b < a) → is_le o ≡ true → a ≤ b
    go Less m e = omega (arith, m)
    go Equal m e = omega (arith, m)
    go Greater m e = cc

no_more : (a b : ℕ) → a ≤ b → is_le (nat_cmp a b) ≡ true
no_more a b h = go (nat_cmp a b) (ranks a b)
  where
    go : (o : Ordering) → MatchOrdering o (a < b) (a ≡ b) (b < a) → is_le o ≡ true
    go Less m = refl
    go Equal m = refl
    go Greater m = absurd (omega (arith, m))

fewer : (a b : ℕ) → a < b → nat_cmp a b ≡ Less
fewer a b h = sym (nat_cmp_is a b Less h)

turned : (xs ys : List ℕ) → byte_cmp ys xs ≡ ordering_reverse (byte_cmp xs ys)
turned xs ys = nat_list_cmp_total.antisymm ys xs

back : (xs ys : List ℕ) (v : Ordering) → is_lt (ordering_then (byte_cmp ys xs) v) ≡ true → is_lt (ordering_then (ordering_reverse (byte_cmp xs ys)) v) ≡ true
back xs ys v e = ap (λ (o : Ordering). is_lt (ordering_then o v)) (sym (turned xs ys)) ∙ e

module _ (row family : List ℕ) (q : Qualifier) (is_row : IsRow row) (is_family : IsFamily family) where
  abbrev at : ℕ → CellKey
  at s = version row family q s

  is_key : (s : ℕ) → s < 2 ^ 64 → IsKey (at s)
  is_key s h = record { row = is_row; family = is_family; stamp = h }

  same_column : (a b : ℕ) → key_cmp (at a) (at b) ≡ nat_cmp b a
  same_column a b = rw (tied_itself nat_list_cmp_total row, tied_itself nat_list_cmp_total family, tied_itself nat_list_cmp_total (qualifier_name q)) refl

  order : (a b : ℕ) → a < 2 ^ 64 → b < 2 ^ 64 → byte_cmp (text (at a)) (text (at b)) ≡ nat_cmp b a
  order a b h k = text_order (at a) (at b) (is_key a h) (is_key b k) ∙ same_column a b

  -- a key between two versions is a version
  between : (hi low : ℕ) (key : CellKey) → is_le (key_cmp (at hi) key) ≡ true → is_lt (key_cmp key (at low)) ≡ true → key ≡ at key.stamp
  between hi low key from end =
      let one = both_level (byte_cmp row key.row) _ _ from (back row key.row _ end) in
      let two = both_level (byte_cmp family key.family) _ _ one.1 (back family key.family _ one.2) in
      let name = qualifier_name q in
      let three = both_level (byte_cmp name (qualifier_name key.qualifier)) _ _ two.1 (back name (qualifier_name key.qualifier) _ two.2) in
      sym (same_key (at key.stamp) key (one_text row key.row one.0, (one_text family key.family two.0, (exact_qualifiers q key.qualifier three.0, refl))))

  stored_or : (s : ℕ) → IsStored (at s) ⊎ ¬ (IsStored (at s))
  stored_or s = go (nat_lt 0 s) refl (nat_lt s (2 ^ 63)) refl
    where
      go : (a : Bool) → nat_lt 0 s ≡ a → (b : Bool) → nat_lt s (2 ^ 63) ≡ b → IsStored (at s) ⊎ ¬ (IsStored (at s))
      go false e b f = inr (λ is. let from = is.from in grind (arith, nat_tests))
      go true e false f = inr (λ is. let to = is.to in grind (arith, nat_tests))
      go true e true f = inl (record { row = is_row; family = is_family; from = grind (arith, nat_tests); to = grind (arith, nat_tests) })

  module _ (es : List Entry) (list : IsEntryList es) (hi : ℕ) (small : hi < 2 ^ 64) where
    abbrev from : List ℕ
    from = text (at hi)

    none_at : (s : ℕ) → value_of (entry_of_key es (text (at s))) ≡ None → get (cells_of es) (at s) ≡ None
    none_at s e = go (stored_or s)
      where
        go : IsStored (at s) ⊎ ¬ (IsStored (at s)) → get (cells_of es) (at s) ≡ None
        go (inl is) = get-cells_of es list.each (at s) is ∙ e
        go (inr hidden) = no_cell es list.each (at s) hidden

    within : (s : ℕ) → s ≤ hi → is_le (byte_cmp from (text (at s))) ≡ true
    within s h = ap is_le (order hi s small (omega arith)) ∙ no_more s hi h

    -- no entry from the text on has a value
    pub newest_none : (lo : ℕ) → Tells from es None → IsNewest (cells_of es) at lo hi None
    newest_none lo h s a b = none_at s (h (text (at s)) (within s b))

    module _ (name value : List ℕ) (is : IsFirst from es name value) where
      entry : IsEntry (name, Some value)
      entry = entry_at es list.each name (Some value) is.there

      abbrev key : CellKey
      key = entry.key

      -- the first value isn't in the column
      pub newest_other : (lo : ℕ) → ((s : ℕ) → s < 2 ^ 64 → name ≢ text (at s)) → IsNewest (cells_of es) at lo hi None
      newest_other lo other s a b = none_at s (go (byte_cmp (text (at s)) name) refl)
        where
          go : (o : Ordering) → byte_cmp (text (at s)) name ≡ o → value_of (entry_of_key es (text (at s))) ≡ None
          go Less e = is.least (text (at s)) (within s b) e
          go Equal e = absurd (other s (omega arith) (sym (one_text (text (at s)) name e)))
          go Greater e =
              let key_is = stored_key key entry.stored in
              let low = ap is_le (sym (text_order (at hi) key (is_key hi small) key_is) ∙ ap (byte_cmp from) (sym entry.named)) ∙ is.above in
              let less : byte_cmp name (text (at s)) ≡ Less = nat_list_cmp_total.antisymm name (text (at s)) ∙ ap ordering_reverse e in
              let high = ap is_lt (sym (text_order key (at s) key_is (is_key s (omega arith))) ∙ ap (λ (n : List ℕ). byte_cmp n (text (at s))) (sym entry.named) ∙ less) in
              let to = entry.stored.to in
              absurd (other key.stamp (omega arith) (entry.named ∙ ap text (between hi s key low high)))

      module _ (t : ℕ) (small_t : t < 2 ^ 64) (same : name ≡ text (at t)) where
        key_at : key ≡ at t
        key_at = text_exact key (at t) (plain_key key (stored_key key entry.stored)) (plain_key (at t) (is_key t small_t)) (sym entry.named ∙ same)

        stored : IsStored (at t)
        stored = subst (λ (k : CellKey). IsStored k) key_at entry.stored

        up : t ≤ hi
        up = up_to t hi (ap is_le (sym (order hi t small small_t) ∙ ap (byte_cmp from) (sym same)) ∙ is.above)

        later : (s : ℕ) → t < s → s ≤ hi → get (cells_of es) (at s) ≡ None
        later s a b =
            let less = ap (byte_cmp (text (at s))) same ∙ order s t (omega arith) small_t ∙ fewer t s a in
            none_at s (is.least (text (at s)) (within s b) less)

        pub newest_some : (lo : ℕ) → lo ≤ t → IsNewest (cells_of es) at lo hi (Some (t, value))
        newest_some lo low = (
          low,
          up,
          get-cells_of es list.each (at t) stored ∙ ap (λ (n : List ℕ). value_of (entry_of_key es n)) (sym same) ∙ ap value_of is.there,
          later,
        )

        pub newest_below : (lo : ℕ) → t < lo → IsNewest (cells_of es) at lo hi None
        newest_below lo low s a b = later s (omega arith) b

        pub in_limits : IsVersion t value
        in_limits = record { from = stored.from; to = stored.to; value = entry.value }

    -- ---- by the first entry from the text on that has a value

    told : (o : Option Entry) → o ≡ first_value (entries_from from es) → Tells from es o
    told o e = subst (Tells from es) (sym e) (tells from es list.rising)

    pub by_none : None ≡ first_value (entries_from from es) → (lo : ℕ) → IsNewest (cells_of es) at lo hi None
    by_none e lo = newest_none lo (told None e)

    pub by_erased : (name : List ℕ) → Some (name, None) ≡ first_value (entries_from from es) → ⊥
    by_erased name e = told (Some (name, None)) e

    pub by_other : (e : Entry) → Some e ≡ first_value (entries_from from es) → (lo : ℕ) → ((s : ℕ) → s < 2 ^ 64 → e.0 ≢ text (at s)) → IsNewest (cells_of es) at lo hi None
    by_other (name, None) e lo other = absurd (by_erased name e)
    by_other (name, Some value) e lo other = newest_other name value (told (Some (name, Some value)) e) lo other

    pub by_below : (e : Entry) → Some e ≡ first_value (entries_from from es) → (t : ℕ) → t < 2 ^ 64 → e.0 ≡ text (at t) → (lo : ℕ) → t < lo → IsNewest (cells_of es) at lo hi None
    by_below (name, None) e t small_t same lo low = absurd (by_erased name e)
    by_below (name, Some value) e t small_t same lo low = newest_below name value (told (Some (name, Some value)) e) t small_t same lo low

    pub by_value : (name value : List ℕ) → Some (name, Some value) ≡ first_value (entries_from from es) → (t : ℕ) → t < 2 ^ 64 → name ≡ text (at t) → (lo : ℕ) → lo ≤ t → IsNewest (cells_of es) at lo hi (Some (t, value))
    by_value name value e t small_t same lo low = newest_some name value (told (Some (name, Some value)) e) t small_t same lo low

    pub by_limits : (name value : List ℕ) → Some (name, Some value) ≡ first_value (entries_from from es) → (t : ℕ) → t < 2 ^ 64 → name ≡ text (at t) → IsVersion t value
    by_limits name value e t small_t same = in_limits name value (told (Some (name, Some value)) e) t small_t same
