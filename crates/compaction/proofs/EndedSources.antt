-- A source that ends before a text.
use Rattle.std.proofs.Common.{◌≡◌, ℕ, Bool, true, false, cond, T, List, [], ◌∷◌, refl, sym, ap, subst, ◌∙◌}
use Rattle.std.specs.Prelude.{Option, Some, None, not}
use Rattle.std.specs.declared.cmp.Ordering.{Ordering}
use Rattle.std.specs.declared.cmp.Ordering.TheVariants.{Less, Equal, Greater}
use Rattle.std.specs.Ordering.{is_lt}
use Rattle.std.specs.FinMap.Entries.{below_all}
use Rattle.cell_key.specs.Keys.{byte_cmp}
use Rattle.cell_key.specs.Entries.{Entry, IsEntryList, Takes}
use Rattle.sorted_file.specs.Source.{pending}
use Rattle.cell_key.proofs.TextPlaces.{first, second, less}
use Rattle.cell_key.proofs.EntryLists.{total}
use Rattle.compaction.specs.Ends.{is_below, entries_until, lent_until, is_at_end}

less_or_not : (o : Ordering) → is_lt o ≡ true → o ≡ Less
less_or_not Less e = refl
less_or_not Equal e = cc
less_or_not Greater e = cc

-- a text above one at or above the end is at or above the end
above_end : (end : Option (List ℕ)) (x y : List ℕ) → byte_cmp x y ≡ Less → is_below end x ≡ false → (b : Bool) → is_below end y ≡ b → b ≡ false
above_end None x y p n b e = cc
above_end (Some end) x y p n false e = refl
above_end (Some end) x y p n true e = absurd (clash (sym n ∙ ap is_lt (total.trans x y end p (less_or_not _ e))))
  where
    clash : false ≡ true → ⊥
    clash q = cc

none_until : (end : Option (List ℕ)) (x : List ℕ) (es : List Entry) → T (below_all byte_cmp x es) → is_below end x ≡ false → entries_until end es ≡ []
none_until end x [] h n = refl
none_until end x (e ∷ es) h n =
    ap (λ b. cond b (e ∷ entries_until end es) (entries_until end es)) (above_end end x e.0 (less _ (first _ _ h)) n _ refl)
    ∙ none_until end x es (second _ _ h) n

takes_at : (end : Option (List ℕ)) (e : Entry) (es : List Entry) → T (below_all byte_cmp e.0 es) → (b : Bool) → is_below end e.0 ≡ b → Takes (cond b (Some e) None) (cond b (e ∷ entries_until end es) (entries_until end es)) (entries_until end es)
takes_at end e es h true t = refl
takes_at end e es h false t = let none = none_until end e.0 es h t in (none, none)

pub until_takes : (end : Option (List ℕ)) (lent : Option Entry) (old new : List Entry) → IsEntryList (pending lent new) → Takes lent old new → Takes (lent_until end lent) (entries_until end old) (entries_until end new)
until_takes end None old new h t = (ap (entries_until end) t.0, ap (entries_until end) t.1)
until_takes end (Some e) old new h t =
    subst (λ es. Takes (lent_until end (Some e)) (entries_until end es) (entries_until end new)) (sym t) (takes_at end e new (first _ _ h.rising) (is_below end e.0) refl)

-- at the end nothing more is taken
pub until_stays : (end : Option (List ℕ)) (lent : Option Entry) (es : List Entry) → IsEntryList (pending lent es) → is_at_end end lent ≡ true → Takes (lent_until end lent) (entries_until end es) (entries_until end es)
until_stays end None es h t = cc
until_stays end (Some e) es h t = stays (is_below end e.0) refl t
  where
    stays : (b : Bool) → is_below end e.0 ≡ b → not b ≡ true → Takes (cond b (Some e) None) (entries_until end es) (entries_until end es)
    stays true p q = cc
    stays false p q = let none = none_until end e.0 es (first _ _ h.rising) p in (none, none)
