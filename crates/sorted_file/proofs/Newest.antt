-- The newest entry of a column in an entry list: the first entry at or above the key's text decides.
use Rattle.std.proofs.Common.{◌≡◌, ◌<◌, ◌≤◌, ◌^◌, ℕ, Bool, true, false, cond, List, [], ◌∷◌, Option, Some, None, refl, sym, ap, subst, ◌∙◌, arith}
use Rattle.std.specs.Prelude.{slice_get}
use Rattle.std.proofs.lemmas.Option.{same_Some}
use Rattle.std.specs.List.{AllByRecursion}
use Rattle.std.specs.declared.cmp.Ordering.{Ordering}
use Rattle.std.specs.declared.cmp.Ordering.TheVariants.{Less, Equal, Greater}
use Rattle.std.specs.Ordering.{is_eq, is_le, is_lt, ordering_then, ordering_reverse, eq_by_cmp, nat_cmp, MatchOrdering}
use Rattle.std.specs.Cmp.{ranks, nat_cmp_is, tied_itself}
use Rattle.std.specs.Cmp.Lexicographic.{nat_list_cmp_total}
use Rattle.std.specs.FinMap.Entries.{find}
use Rattle.cell_key.specs.Keys.{byte_cmp, key_cmp, text, qualifier_name, IsKey}
use Rattle.cell_key.specs.Entries.{Entry, IsEntry, IsEntryList, IsRising, entries_from, entry_of_key}
use Rattle.cell_key.specs.declared.keys.CellKey.{CellKey}
use Rattle.cell_key.proofs.Order.{text_order}
use Rattle.cell_key.proofs.EntryLaws.{stored_key}
use Rattle.cell_key.proofs.TextPlaces.{equal, find_lower, one_text}
use Rattle.cell_key.proofs.KeyLaws.{exact_qualifiers, same_key}
use Rattle.sorted_file.specs.Block.{first_from}
use Rattle.sorted_file.specs.Newest.{at_stamp, IsNewestEntry, IsOfColumn, IsOutside}
use Rattle.sorted_file.proofs.Searched.{head_from, rising_from}

-- ---- the first entry from a text on

-- entries at or above a text have the same entry at each text at or above it
find_above : (from name : List ℕ) (es : List Entry) → is_le (byte_cmp from name) ≡ true → entry_of_key (entries_from from es) name ≡ entry_of_key es name
find_above from name [] le = refl
find_above from name (e ∷ es) le = go (is_le (byte_cmp from e.0)) refl (find_above from name es le)
  where
    other : is_le (byte_cmp from e.0) ≡ false → (b : Bool) → eq_by_cmp byte_cmp name e.0 ≡ b → find byte_cmp name es ≡ cond b (Some e.1) (find byte_cmp name es)
    other low false q = refl
    other low true q =
        let no : false ≡ true = sym low ∙ ap (λ (n : List ℕ). is_le (byte_cmp from n)) (sym (one_text name e.0 (equal _ q))) ∙ le in
        cc

    go : (b : Bool) → is_le (byte_cmp from e.0) ≡ b → entry_of_key (entries_from from es) name ≡ entry_of_key es name → entry_of_key (cond b (e ∷ entries_from from es) (entries_from from es)) name ≡ entry_of_key (e ∷ es) name
    go true p more = ap (λ (o : Option (Option (List ℕ))). cond (eq_by_cmp byte_cmp name e.0) (Some e.1) o) more
    go false p more = more ∙ other p (eq_by_cmp byte_cmp name e.0) refl

-- the first entry at or above this text
abbrev IsFirst : List ℕ → List Entry → Option Entry → Type 0
IsFirst from es None = (name : List ℕ) → is_le (byte_cmp from name) ≡ true → entry_of_key es name ≡ None
IsFirst from es (Some found) =
    (is_le (byte_cmp from found.0) ≡ true) × (entry_of_key es found.0 ≡ Some found.1)
    × ((name : List ℕ) → is_le (byte_cmp from name) ≡ true → byte_cmp name found.0 ≡ Less
    → entry_of_key es name ≡ None)

module _ (from : List ℕ) (es : List Entry) (r : IsRising es) where
  told : (l : List Entry) → entries_from from es ≡ l → IsFirst from es (slice_get l 0)
  told [] e = λ name le. sym (find_above from name es le) ∙ ap (λ (l : List Entry). entry_of_key l name) e
  told (b ∷ more) e =
      let rises = subst (λ (l : List Entry). IsRising l) e (rising_from from es r) in
      let low = head_from from es b more e in (
        low,
        sym (find_above from b.0 es low) ∙ ap (λ (l : List Entry). entry_of_key l b.0) e
            ∙ ap (λ (o : Ordering). cond (is_eq o) (Some b.1) (find byte_cmp b.0 more)) (tied_itself nat_list_cmp_total b.0),
        λ name le less. sym (find_above from name es le) ∙ ap (λ (l : List Entry). entry_of_key l name) e ∙ find_lower name b more rises less,
      )

  tells : IsFirst from es (first_from from es)
  tells = told (entries_from from es) refl

-- what holds for each entry of a list holds for its first one at or above a text
pub first_held : (P : Entry → Type 0) (from : List ℕ) (es : List Entry) → AllByRecursion P es → (e : Entry) → first_from from es ≡ Some e → P e
first_held P from [] all e is = cc
first_held P from (x ∷ es) all e is = go (is_le (byte_cmp from x.0)) (first_held P from es all.1 e) is
  where
    go : (b : Bool) → (first_from from es ≡ Some e → P e) → slice_get (cond b (x ∷ entries_from from es) (entries_from from es)) 0 ≡ Some e → P e
    go true more q = let same : x ≡ e = cc in subst P same all.0
    go false more q = more q

-- ---- the versions of a column

-- what holds for each entry of a list holds for the one at a text
pub held : (P : Entry → Type 0) (es : List Entry) → AllByRecursion P es → (name : List ℕ) (o : Option (List ℕ)) → entry_of_key es name ≡ Some o → P (name, o)
held P [] all name o e = let no : None ≡ Some o = e in cc
held P ((n, v) ∷ es) all name o e = go (held P es all.1 name o) (eq_by_cmp byte_cmp name n) refl e
  where
    go : (find byte_cmp name es ≡ Some o → P (name, o)) → (b : Bool) → eq_by_cmp byte_cmp name n ≡ b → cond b (Some v) (find byte_cmp name es) ≡ Some o → P (name, o)
    go more false t e = more e
    go more true t e =
        let text = one_text name n (equal _ t) in
        let value = same_Some v o e in
        subst (λ (p : Entry). P p) (λ i. (sym text i, value i)) all.0

both_level : (r u v : Ordering) → is_le (ordering_then r u) ≡ true → is_lt (ordering_then (ordering_reverse r) v) ≡ true → (r ≡ Equal) × (is_le u ≡ true) × (is_lt v ≡ true)
both_level Less u v e h = cc
both_level Equal u v e h = (refl, e, h)
both_level Greater u v e h = cc

up_to : (a b : ℕ) → is_le (nat_cmp a b) ≡ true → a ≤ b
up_to a b e = go (nat_cmp a b) (ranks a b) e
  where
    go : (o : Ordering) → MatchOrdering o (a < b) (a ≡ b) (b < a) → is_le o ≡ true → a ≤ b
    go Less m e = omega (arith, m)
    go Equal m e = omega (arith, m)
    go Greater m e = cc

no_more : (a b : ℕ) → a ≤ b → is_le (nat_cmp a b) ≡ true
no_more a b h = go (nat_cmp a b) (ranks a b)
  where
    go : (o : Ordering) → MatchOrdering o (a < b) (a ≡ b) (b < a) → is_le o ≡ true
    go Less m = refl
    go Equal m = refl
    go Greater m = absurd (omega (arith, m))

fewer : (a b : ℕ) → a < b → nat_cmp a b ≡ Less
fewer a b h = sym (nat_cmp_is a b Less h)

turned : (xs ys : List ℕ) → byte_cmp ys xs ≡ ordering_reverse (byte_cmp xs ys)
turned xs ys = nat_list_cmp_total.antisymm ys xs

back : (xs ys : List ℕ) (v : Ordering) → is_lt (ordering_then (byte_cmp ys xs) v) ≡ true → is_lt (ordering_then (ordering_reverse (byte_cmp xs ys)) v) ≡ true
back xs ys v e = ap (λ (o : Ordering). is_lt (ordering_then o v)) (sym (turned xs ys)) ∙ e

module _ (sought : CellKey) (limits : IsKey sought) where
  abbrev at : ℕ → CellKey
  at s = at_stamp sought s

  abbrev hi : ℕ
  hi = sought.stamp

  is_key : (s : ℕ) → s < 2 ^ 64 → IsKey (at s)
  is_key s h = record { row = limits.row; family = limits.family; stamp = h }

  same_column : (a b : ℕ) → key_cmp (at a) (at b) ≡ nat_cmp b a
  same_column a b = rw (tied_itself nat_list_cmp_total sought.row, tied_itself nat_list_cmp_total sought.family, tied_itself nat_list_cmp_total (qualifier_name sought.qualifier)) refl

  order : (a b : ℕ) → a < 2 ^ 64 → b < 2 ^ 64 → byte_cmp (text (at a)) (text (at b)) ≡ nat_cmp b a
  order a b h k = text_order (at a) (at b) (is_key a h) (is_key b k) ∙ same_column a b

  -- a text of the column at the stamps from lo to the key's has another stamp than one that isn't among these
  pub apart : (lo t : ℕ) → t < 2 ^ 64 → (name : List ℕ) → name ≡ text (at t) → ¬ ((lo ≤ t) × (t ≤ hi)) → IsOutside sought lo name
  apart lo t small_t name is out s a b e =
      let small = limits.stamp in
      let tied : nat_cmp t s ≡ Equal = sym (order s t (omega (arith, small, b)) small_t) ∙ ap (byte_cmp (text (at s))) (sym is ∙ e) ∙ tied_itself nat_list_cmp_total (text (at s)) in
      let le = up_to t s (ap is_le tied) in
      let ge = up_to s t (ap is_le (sym (order t s small_t (omega (arith, small, b))) ∙ ap (byte_cmp (text (at t))) (sym e ∙ is) ∙ tied_itself nat_list_cmp_total (text (at t)))) in
      out (omega (arith, a, ge), omega (arith, b, le))

  -- a key between two versions is a version
  between : (low : ℕ) (key : CellKey) → is_le (key_cmp (at hi) key) ≡ true → is_lt (key_cmp key (at low)) ≡ true → key ≡ at key.stamp
  between low key from end =
      let one = both_level (byte_cmp sought.row key.row) _ _ from (back sought.row key.row _ end) in
      let two = both_level (byte_cmp sought.family key.family) _ _ one.1 (back sought.family key.family _ one.2) in
      let name = qualifier_name sought.qualifier in
      let three = both_level (byte_cmp name (qualifier_name key.qualifier)) _ _ two.1 (back name (qualifier_name key.qualifier) _ two.2) in
      sym (same_key (at key.stamp) key (one_text sought.row key.row one.0, (one_text sought.family key.family two.0, (exact_qualifiers sought.qualifier key.qualifier three.0, refl))))

  abbrev from : List ℕ
  from = text sought

  within : (s : ℕ) → s ≤ hi → is_le (byte_cmp from (text (at s))) ≡ true
  within s h = let small = limits.stamp in ap is_le (order hi s small (omega (arith, small, h))) ∙ no_more s hi h

  module _ (es : List Entry) (list : IsEntryList es) (lo : ℕ) where
    module _ (e : Entry) (is : IsFirst from es (Some e)) where
      entry : IsEntry e
      entry = held IsEntry es list.each e.0 e.1 is.1

      abbrev key : CellKey
      key = entry.key

      -- the first entry isn't in the column at these stamps
      outside : IsOutside sought lo e.0 → IsNewestEntry es sought lo None
      outside other s a b = go (byte_cmp (text (at s)) e.0) refl
        where
          small_s : s < 2 ^ 64
          small_s = let small = limits.stamp in omega (arith, small, b)

          go : (o : Ordering) → byte_cmp (text (at s)) e.0 ≡ o → entry_of_key es (text (at s)) ≡ None
          go Less q = is.2 (text (at s)) (within s b) q
          go Equal q = absurd (other s a b (sym (one_text (text (at s)) e.0 q)))
          go Greater q =
              let key_is = stored_key key entry.stored in
              let low = ap is_le (sym (text_order (at hi) key (is_key hi limits.stamp) key_is) ∙ ap (byte_cmp from) (sym entry.named)) ∙ is.0 in
              let less : byte_cmp e.0 (text (at s)) ≡ Less = nat_list_cmp_total.antisymm e.0 (text (at s)) ∙ ap ordering_reverse q in
              let high = ap is_lt (sym (text_order key (at s) key_is (is_key s small_s)) ∙ ap (λ (n : List ℕ). byte_cmp n (text (at s))) (sym entry.named) ∙ less) in
              let named : e.0 ≡ text (at key.stamp) = entry.named ∙ ap text (between s key low high) in
              let up = up_to key.stamp hi (ap is_le (sym (order hi key.stamp limits.stamp key_is.stamp) ∙ ap (byte_cmp from) (sym named)) ∙ is.0) in
              let down = up_to s key.stamp (ap is_le (sym (order key.stamp s key_is.stamp small_s) ∙ ap (λ (n : List ℕ). byte_cmp n (text (at s))) (sym named) ∙ less)) in
              absurd (other key.stamp (omega (arith, a, down)) up named)

      found_here : (f : ℕ × Option (List ℕ)) → IsOfColumn sought lo (Some e) (Some f) → IsNewestEntry es sought lo (Some f)
      found_here f of =
          let named : e.0 ≡ text (at f.0) = ap (λ (x : Entry). x.0) of.2 in
          let value : e.1 ≡ f.1 = ap (λ (x : Entry). x.1) of.2 in (
            of.0,
            of.1,
            ap (entry_of_key es) (sym named) ∙ is.1 ∙ ap Some value,
            λ s a b.
                let small = limits.stamp in
                is.2 (text (at s)) (within s b) (ap (byte_cmp (text (at s))) named ∙ order s f.0 (omega (arith, small, b)) (omega (arith, small, a, b)) ∙ fewer f.0 s a),
          )

    of_first : (first : Option Entry) (found : Option (ℕ × Option (List ℕ))) → IsFirst from es first → IsOfColumn sought lo first found → IsNewestEntry es sought lo found
    of_first None found is e = subst (IsNewestEntry es sought lo) (sym e) (λ s a b. is (text (at s)) (within s b))
    of_first (Some e) None is other = outside e is other
    of_first (Some e) (Some f) is of = found_here e is f of

    -- the first entry at or above the key's text decides
    pub newest_by_first : (found : Option (ℕ × Option (List ℕ))) → IsOfColumn sought lo (first_from from es) found → IsNewestEntry es sought lo found
    newest_by_first found of = of_first (first_from from es) found (tells from es list.rising) of
