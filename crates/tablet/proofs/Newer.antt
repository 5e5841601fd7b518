-- The files' values below a hidden stamp.
use Rattle.std.proofs.Common.{◌≡◌, ◌≤◌, ◌<◌, ◌+◌, ℕ, suc, Bool, true, cond, List, [], ◌∷◌, ◌++◌, ◌⊎◌, length, Vec, inl, inr, map, Option, Some, None, refl, sym, ap, subst, ◌∙◌, arith}
use Rattle.std.specs.Prelude.{IfSome, IsTrue, nat_lt, false}
use Rattle.std.proofs.lemmas.Bool.Decides.{nat_tests}
use Rattle.std.proofs.lemmas.List.{length-append}
use Rattle.std.specs.FinMap.{get}
use Rattle.cell_key.specs.Keys.{text, IsStored}
use Rattle.cell_key.specs.Cells.{Cells, IsNewest, version}
use Rattle.cell_key.specs.Entries.{Entry, cells_of, entry_of_key, first_naming, value_of}
use Rattle.cell_key.specs.Versions.{stamped}
use Rattle.cell_key.specs.declared.keys.CellKey.{CellKey}
use Rattle.cell_key.specs.declared.keys.Qualifier.{Qualifier}
use Rattle.cell_key.proofs.EntryLaws.{get-cells_of}
use Rattle.file_store.specs.Store.{Contents}
use Rattle.sorted_file.specs.File.{listed}
use Rattle.tablet.specs.Ranges.{has_row, seen}
use Rattle.sorted_file.specs.Newest.{IsAfterStamp}
use Rattle.rows.specs.Reads.{AreNewestFirst}
use Rattle.tablet.specs.Reads.{HasNoLater}
use Rattle.tablet.specs.Views.{range_of, memory_of, files_of, lists_of, cells_at, Holds, IsSameTablet}
use Rattle.tablet.specs.declared.tablet.Tablet.{Tablet}
use Rattle.tablet.specs.declared.ranges.RowRange.{RowRange}
use Rattle.cell_key.specs.Entries.{merged}
use Rattle.tablet.proofs.Held.{held_lists}
use Rattle.tablet.proofs.LeftOut.{value_or}
use Rattle.tablet.proofs.SameFiles.{told_both}
use Rattle.tablet.proofs.Shown.{first_at, shown, stored_or_hidden}

pub same_after_tablet : (o : Option Contents) (t u w : Tablet) → IsSameTablet o t u → IsSameTablet o u w → IsSameTablet o t w
same_after_tablet None t u w p q = record { range = q.range ∙ p.range; memory = q.memory ∙ p.memory; names = q.names ∙ p.names; lists = λ m. q.lists m ∙ p.lists m; still = tt }
same_after_tablet (Some m) t u w p q = record { range = q.range ∙ p.range; memory = q.memory ∙ p.memory; names = q.names ∙ p.names; lists = λ n. q.lists n ∙ p.lists n; still = λ held. q.still (p.still held) }

pub over_now : (o now : Option Contents) (t u : Tablet) → now ≡ o → IsSameTablet now t u → IsSameTablet o t u
over_now o now t u same is = subst (λ (told : Option Contents). IsSameTablet told t u) same is

abbrev rest : List (List Entry) → List (List Entry)
rest [] = []
rest (es ∷ lists) = lists

still_at : (o : Option Contents) (m : Contents) (t u : Tablet) → o ≡ Some m → IsSameTablet o t u → Holds m t → Holds m u × (lists_of m u ≡ lists_of m t)
still_at o m t u is same held = ((subst (λ (told : Option Contents). IsSameTablet told t u) is same).still held, same.lists m)

same_cells : (o : Option Contents) (m : Contents) (t u : Tablet) → o ≡ Some m → IsSameTablet o t u → Holds m t → cells_at m u ≡ cells_at m t
same_cells o m t u is same held =
    let lists = (still_at o m t u is same held).1 in
    let range = same.range in
    λ i. cells_of (merged (map (seen (range i)) (lists i)))

module _ (o : Option Contents) (t : Tablet) (row family : List ℕ) (q : Qualifier) (lo hi : ℕ) where
  abbrev at : ℕ → CellKey
  at s = version row family q s

  -- facts if the memtable has no version in the range
  abbrev pub Tells : (Contents → Type 0) → Type 0
  Tells P = IfSome o (λ m. Holds m t → IsTrue (has_row (range_of t) row) → IsNewest (cells_of (memory_of t)) at lo hi None → P m)

  -- the tablet has no version in the range above this stamp
  abbrev pub NoneAbove : ℕ → Type 0
  NoneAbove to = Tells (λ m. (s : ℕ) → to < s → s ≤ hi → get (cells_at m t) (at s) ≡ None)

  -- nor one after the stamp found in the files
  abbrev pub NoneAfter : Option ℕ → Type 0
  NoneAfter found = Tells (λ m. (s : ℕ) → IsAfterStamp s lo found → lo ≤ s → s ≤ hi → get (cells_at m t) (at s) ≡ None)

  none_shown : (m : Contents) → Holds m t → IsTrue (has_row (range_of t) row) → IsNewest (cells_of (memory_of t)) at lo hi None → (s : ℕ) → lo ≤ s → s ≤ hi → (IsStored (at s) → value_of (first_naming (map (listed m) (files_of t)) (text (at s))) ≡ None) → get (cells_at m t) (at s) ≡ None
  none_shown m held has memory s low high none = go (stored_or_hidden (range_of t) (lists_of m t) (held_lists m t held) (at s))
    where
      go : IsStored (at s) ⊎ (get (cells_at m t) (at s) ≡ None) → get (cells_at m t) (at s) ≡ None
      go (inr h) = h
      go (inl stored) =
          shown (range_of t) (lists_of m t) (held_lists m t held) (at s) stored ∙ ap (λ (b : Bool). cond b (first_at (lists_of m t) (at s)) None) has
          ∙ value_or (entry_of_key (memory_of t) (text (at s))) (first_naming (map (listed m) (files_of t)) (text (at s))) (none stored)
          ∙ sym (get-cells_of (memory_of t) held.memory.each (at s) stored) ∙ memory s low high

  pub none_after : (now : Option Contents) (u : Tablet) → now ≡ o → IsSameTablet o t u → (to : ℕ) (found : Option ℕ) → NoneAbove to → IfSome now (λ m. Holds m u → HasNoLater (at to) lo found (map (listed m) (files_of u))) → NoneAfter found
  none_after now u same is to found above later =
      told_both o now same _ (λ m. Holds m u → HasNoLater (at to) lo found (map (listed m) (files_of u))) _
      (λ m told before h held has memory s after low high.
      go m told before h held has memory s after low high (nat_lt to s) refl) above later
    where
      go : (m : Contents) → o ≡ Some m → (Holds m t → IsTrue (has_row (range_of t) row) → IsNewest (cells_of (memory_of t)) at lo hi None → (s : ℕ) → to < s → s ≤ hi → get (cells_at m t) (at s) ≡ None)
          → (Holds m u → HasNoLater (at to) lo found (map (listed m) (files_of u))) → Holds m t → IsTrue (has_row (range_of t) row) → IsNewest (cells_of (memory_of t)) at lo hi None
          → (s : ℕ) → IsAfterStamp s lo found → lo ≤ s → s ≤ hi → (b : Bool) → nat_lt to s ≡ b → get (cells_at m t) (at s) ≡ None
      go m told before h held has memory s after low high true e = before held has memory s (grind (arith, nat_tests, e)) high
      go m told before h held has memory s after low high false e =
          let still = still_at o m t u told is held in
          let tails : map (listed m) (files_of u) ≡ map (listed m) (files_of t) = ap rest still.1 in
          none_shown m held has memory s low high (λ stored. ap (λ (lists : List (List Entry)). value_of (first_naming lists (text (at s)))) (sym tails) ∙ h still.0 s after (grind (arith, nat_tests, e)) stored)

  pub none_left : NoneAfter None → Tells (λ m. IsNewest (cells_at m t) at lo hi None)
  none_left h = map_some o (λ m is held has memory s a b. is held has memory s a a b) h
    where
      map_some : {P Q : Contents → Type 0} (o : Option Contents) → ((m : Contents) → P m → Q m) → IfSome o P → IfSome o Q
      map_some None f h = tt
      map_some (Some m) f h = f m h

  module _ (now : Option Contents) (w : Tablet) (same : now ≡ o) (is : IsSameTablet o t w) (stamp : ℕ) (low : lo ≤ stamp) (high : stamp ≤ hi) (after : NoneAfter (Some stamp)) where
    -- at this stamp the tablet has this version, if the memtable has none
    abbrev pub ShowsAt : Option (ℕ × List ℕ) → Contents → Type 0
    ShowsAt found m = Holds m w → IsTrue (has_row (range_of w) row) → get (cells_of (memory_of w)) (at stamp) ≡ None → IsNewest (cells_at m w) at stamp stamp found

    moved : (m : Contents) → o ≡ Some m → Holds m t → IsTrue (has_row (range_of t) row) → IsNewest (cells_of (memory_of t)) at lo hi None → (found : Option (ℕ × List ℕ)) → ShowsAt found m → IsNewest (cells_at m t) at stamp stamp found
    moved m told held has memory found h =
        subst (λ (cells : Cells). IsNewest cells at stamp stamp found) (same_cells o m t w told is held)
        (h (still_at o m t w told is held).0 (subst (λ (r : RowRange). IsTrue (has_row r row)) (sym is.range) has)
        (ap (λ (es : List Entry). get (cells_of es) (at stamp)) is.memory ∙ memory stamp low high))

    pub hidden : (before : ℕ) → before + 1 ≡ stamp → IfSome now (ShowsAt None) → NoneAbove before
    hidden before one finds =
        told_both o now same _ (ShowsAt None) _
        (λ m told later h held has memory s a b.
        go m (nat_lt stamp s) s refl a b (later held has memory s) (moved m told held has memory None h)) after finds
      where
        go : (m : Contents) (c : Bool) (s : ℕ) → nat_lt stamp s ≡ c → before < s → s ≤ hi → (stamp < s → lo ≤ s → s ≤ hi → get (cells_at m t) (at s) ≡ None) → IsNewest (cells_at m t) at stamp stamp None → get (cells_at m t) (at s) ≡ None
        go m true s e a b later none = let lt : stamp < s = grind (arith, nat_tests, e) in later lt (omega (arith, lt, low)) b
        go m false s e a b later none = let ge : s ≤ stamp = grind (arith, nat_tests, e) in none s (omega (arith, a, one)) ge

    pub shows : (v : ℕ × List ℕ) → IfSome now (ShowsAt (Some v)) → Tells (λ m. IsNewest (cells_at m t) at lo hi (Some v))
    shows v finds =
        told_both o now same _ (ShowsAt (Some v)) _
        (λ m told later h held has memory.
        let here = moved m told held has memory (Some v) h in
        let a = here.0 in let b = here.1 in
        (omega (arith, a, low), omega (arith, b, high), here.2, λ s c d. later held has memory s (omega (arith, a, b, c)) (omega (arith, a, low, c)) d)) after finds

  -- the newest version up to a stamp, above which there is none, is the newest of the whole range
  module _ (now : Option Contents) (w : Tablet) (same : now ≡ o) (is : IsSameTablet o t w) (to : ℕ) (high : to ≤ hi) (above : NoneAbove to) where
    side : (s : ℕ) → (to < s) ⊎ (s ≤ to)
    side s = go (nat_lt to s) refl
      where
        go : (b : Bool) → nat_lt to s ≡ b → (to < s) ⊎ (s ≤ to)
        go true e = inl (grind (arith, nat_tests, e))
        go false e = inr (grind (arith, nat_tests, e))

    wider : (cells : Cells) (found : Option (ℕ × List ℕ)) → ((s : ℕ) → to < s → s ≤ hi → get cells (at s) ≡ None) → IsNewest cells at lo to found → IsNewest cells at lo hi found
    wider cells None none h = λ s a b. go s a b (side s)
      where
        go : (s : ℕ) → lo ≤ s → s ≤ hi → (to < s) ⊎ (s ≤ to) → get cells (at s) ≡ None
        go s a b (inl gt) = none s gt b
        go s a b (inr le) = h s a le
    wider cells (Some v) none (low, upto, there, later) = (low, omega (arith, upto, high), there, λ s a b. go s a b (side s))
      where
        go : (s : ℕ) → v.0 < s → s ≤ hi → (to < s) ⊎ (s ≤ to) → get cells (at s) ≡ None
        go s a b (inl gt) = none s gt b
        go s a b (inr le) = later s a le

    pub newest_below : (found : Option (ℕ × List ℕ)) → IfSome now (λ m. Holds m w → IsTrue (has_row (range_of w) row) → IsNewest (cells_at m w) at lo to found) → Tells (λ m. IsNewest (cells_at m t) at lo hi found)
    newest_below found finds =
        told_both o now same _ (λ m. Holds m w → IsTrue (has_row (range_of w) row) → IsNewest (cells_at m w) at lo to found) _
        (λ m told a h held has memory. wider (cells_at m t) found (a held has memory)
        (subst (λ (cells : Cells). IsNewest cells at lo to found) (same_cells o m t w told is held)
        (h (still_at o m t w told is held).0 (subst (λ (r : RowRange). IsTrue (has_row r row)) (sym is.range) has)))) above finds

-- if the single newest version is outside the range, the range has none
none_in : (cells : Cells) (at : ℕ → CellKey) (lo hi : ℕ) (v : ℕ × List ℕ) (left : List (ℕ × List ℕ)) → AreNewestFirst cells at hi 1 (v ∷ left) → (lo ≤ v.0 → v.0 ≤ hi → ⊥) → IsNewest cells at lo hi None
none_in cells at lo hi v left (some, (low, upto, there, later), one, more) outside = λ s a b. later s (below s a (nat_lt v.0 s) refl) b
  where
    below : (s : ℕ) → lo ≤ s → (c : Bool) → nat_lt v.0 s ≡ c → v.0 < s
    below s a true e = grind (arith, nat_tests, e)
    below s a false e = let le : s ≤ v.0 = grind (arith, nat_tests, e) in absurd (outside (omega (arith, a, le)) upto)

only_last : {A : Type 0} (before items : List A) (v : A) → items ≡ before ++ v ∷ [] → length items ≤ 1 → items ≡ v ∷ []
only_last [] items v is few = is
only_last (r ∷ before) items v is few = let longer = ap length is ∙ ap suc (length-append before (v ∷ [])) in absurd (omega (arith, few, longer))

module _ {Z : Type 0} (o : Option Contents) (t : Tablet) (row family : List ℕ) (q : Qualifier) (lo hi : ℕ) (items : List (ℕ × Vec ℕ Z)) (found : IfSome o (λ m. Holds m t → IsTrue (has_row (range_of t) row) → AreNewestFirst (cells_at m t) (version row family q) hi 1 (map stamped items))) where
  abbrev ShowsNone : Type 0
  ShowsNone = IfSome o (λ m. Holds m t → IsTrue (has_row (range_of t) row) → IsNewest (cells_at m t) (version row family q) lo hi None)

  each : (vs : List (ℕ × List ℕ)) → map stamped items ≡ vs → ((cells : Cells) → AreNewestFirst cells (version row family q) hi 1 vs → IsNewest cells (version row family q) lo hi None) → ShowsNone
  each vs is so = go o found
    where
      go : (o : Option Contents) → IfSome o (λ m. Holds m t → IsTrue (has_row (range_of t) row) → AreNewestFirst (cells_at m t) (version row family q) hi 1 (map stamped items)) → IfSome o (λ m. Holds m t → IsTrue (has_row (range_of t) row) → IsNewest (cells_at m t) (version row family q) lo hi None)
      go None h = tt
      go (Some m) h = λ held has. so (cells_at m t) (subst (AreNewestFirst (cells_at m t) (version row family q) hi 1) is (h held has))

  pub none_of_none : items ≡ [] → ShowsNone
  none_of_none is = each [] (ap (map stamped) is) (λ cells h s a b. h (omega arith) s (omega arith) b)

  pub none_of_one : (before : List (ℕ × Vec ℕ Z)) (v : ℕ × Vec ℕ Z) → items ≡ before ++ v ∷ [] → length items ≤ 1 → (lo ≤ v.0 → v.0 ≤ hi → ⊥) → ShowsNone
  none_of_one before v is few outside = each (stamped v ∷ []) (ap (map stamped) (only_last before items v is few)) (λ cells h. none_in cells (version row family q) lo hi (stamped v) [] h outside)

pub nothing_left : {A : Type 0} (items : List A) → length items ≡ 0 → items ≡ []
nothing_left [] none = refl
nothing_left (x ∷ items) none = absurd (omega (arith, none))
