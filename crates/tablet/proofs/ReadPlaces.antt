-- The rest of a list of entries after a place was found in it.
use Rattle.std.proofs.Common.{◌≡◌, ◌≤◌, ℕ, Bool, true, false, cond, T, List, [], ◌∷◌, ◌++◌, Option, Some, None, refl, sym, ap, subst, ◌∙◌, append_assoc, length, arith}
use Rattle.std.specs.Option.{option_to_list}
use Rattle.std.specs.Prelude.{is_some}
use Rattle.std.specs.declared.cmp.Ordering.{Ordering}
use Rattle.std.specs.declared.cmp.Ordering.TheVariants.{Less, Equal, Greater}
use Rattle.std.specs.Ordering.{is_le, ordering_reverse}
use Rattle.std.specs.FinMap.Entries.{below_all}
use Rattle.cell_key.specs.Keys.{byte_cmp, text}
use Rattle.cell_key.specs.Entries.{Entry, IsEntryList, IsRising, Takes, entries_from}
use Rattle.cell_key.specs.Places.{AreNext, Place, last_or, place_of}
use Rattle.cell_key.proofs.EntryLists.{rest-list, total}
use Rattle.cell_key.proofs.TextPlaces.{first, less, second}
use Rattle.sorted_file.specs.Source.{pending}
use Rattle.std.proofs.lemmas.List.{length-append}
use Rattle.rows.proofs.NextLists.{last_append, next_all, next_append, next_one}
use Rattle.tablet.specs.Reads.{HasLeft, IsNextIn, IsOfPlace, first_value, past_place}
use Rattle.tablet.proofs.NextCells.{below_past, le_trans}

-- ---- one entry

-- an entry below a text is not among those from the text on
passed : (name : List ℕ) (past : List ℕ) → byte_cmp name past ≡ Less → is_le (byte_cmp past name) ≡ false
passed name past e = ap is_le (total.antisymm past name ∙ ap ordering_reverse e)

pub none_erased : (past name : List ℕ) → first_value (entries_from past ((name, None) ∷ [])) ≡ None
none_erased past name = go (is_le (byte_cmp past name))
  where
    go : (b : Bool) → first_value (cond b ((name, None) ∷ []) []) ≡ None
    go true = refl
    go false = refl

pub none_below : (past name : List ℕ) (value : Option (List ℕ)) → byte_cmp name past ≡ Less → first_value (entries_from past ((name, value) ∷ [])) ≡ None
none_below past name value e = ap (λ (b : Bool). first_value (cond b ((name, value) ∷ []) [])) (passed name past e)

pub some_from : (past name value : List ℕ) → is_le (byte_cmp past name) ≡ true → first_value (entries_from past ((name, Some value) ∷ [])) ≡ Some (name, value)
some_from past name value e = ap (λ (b : Bool). first_value (cond b ((name, Some value) ∷ []) [])) e

pub from_not_less : (past name : List ℕ) → (byte_cmp name past ≡ Less → ⊥) → is_le (byte_cmp past name) ≡ true
from_not_less past name above = go (byte_cmp name past) refl
  where
    go : (o : Ordering) → byte_cmp name past ≡ o → is_le (byte_cmp past name) ≡ true
    go Less e = absurd (above e)
    go Equal e = ap is_le (total.antisymm past name ∙ ap ordering_reverse e)
    go Greater e = ap is_le (total.antisymm past name ∙ ap ordering_reverse e)

first_past : (past : List ℕ) (e : Entry) (es : List Entry) → first_value (entries_from past (e ∷ [])) ≡ None → first_value (entries_from past (e ∷ es)) ≡ first_value (entries_from past es)
first_past past (name, None) es none = go (is_le (byte_cmp past name))
  where
    go : (b : Bool) → first_value (cond b ((name, None) ∷ entries_from past es) (entries_from past es)) ≡ first_value (entries_from past es)
    go true = refl
    go false = refl
first_past past (name, Some value) es none = go (is_le (byte_cmp past name)) none
  where
    go : (b : Bool) → first_value (cond b ((name, Some value) ∷ []) []) ≡ None → first_value (cond b ((name, Some value) ∷ entries_from past es) (entries_from past es)) ≡ first_value (entries_from past es)
    go true e = absurd (let no : Some (name, value) ≡ None = e in cc)
    go false e = refl

record IsFirst (past : List ℕ) (e : Entry) (es : List Entry) (p : List ℕ × List ℕ) : Type 0 where
  whole : first_value (entries_from past (e ∷ es)) ≡ Some p
  named : e.0 ≡ p.0

first_here : (past : List ℕ) (e : Entry) (es : List Entry) (p : List ℕ × List ℕ) → first_value (entries_from past (e ∷ [])) ≡ Some p → IsFirst past e es p
first_here past (name, None) es p some = absurd (let no : None ≡ Some p = sym (none_erased past name) ∙ some in cc)
first_here past (name, Some value) es p some = go (is_le (byte_cmp past name)) refl some
  where
    go : (b : Bool) → is_le (byte_cmp past name) ≡ b → first_value (cond b ((name, Some value) ∷ []) []) ≡ Some p → IsFirst past (name, Some value) es p
    go true is e = record { whole = ap (λ (b : Bool). first_value (cond b ((name, Some value) ∷ entries_from past es) (entries_from past es))) is ∙ e; named = let same : (name, value) ≡ p = cc in ap (λ q. q.0) same }
    go false is e = absurd (let no : None ≡ Some p = e in cc)

-- ---- a list after some entries were passed

-- `left` is the rest of a list after a prefix without a value at or above `past`.
pub record HasPassed (past : List ℕ) (all left : List Entry) : Type 0 where
  pub before : List Entry
  pub parts : all ≡ before ++ left
  pub same : first_value (entries_from past left) ≡ first_value (entries_from past all)

pub passed_none : (past : List ℕ) (all : List Entry) → HasPassed past all all
passed_none past all = record { before = []; parts = refl; same = refl }

pub passed_more : (past : List ℕ) (all : List Entry) (lent : Option Entry) (old new : List Entry) → HasPassed past all old → Takes lent old new → first_value (entries_from past (option_to_list lent)) ≡ None → HasPassed past all new
passed_more past all None old new h taken none = subst (HasPassed past all) (taken.0 ∙ sym taken.1) h
passed_more past all (Some e) old new h taken none = record {
  before = h.before ++ e ∷ [];
  parts = h.parts ∙ ap (λ es. h.before ++ es) taken ∙ sym (append_assoc h.before (e ∷ []) new);
  same = sym (first_past past e new none) ∙ ap (λ es. first_value (entries_from past es)) (sym taken) ∙ h.same;
}

pub found_none : (past : List ℕ) (all : List Entry) (lent : Option Entry) (old new : List Entry) → HasPassed past all old → Takes lent old new → false ≡ is_some lent → first_value (entries_from past all) ≡ None
found_none past all None old new h taken end = sym h.same ∙ ap (λ es. first_value (entries_from past es)) taken.0
found_none past all (Some e) old new h taken end = absurd (let no : false ≡ true = end in cc)

pub found_some : (past : List ℕ) (all : List Entry) (lent : Option Entry) (old new : List Entry) (place : Place) → HasPassed past all old → Takes lent old new → IsOfPlace (first_value (entries_from past (option_to_list lent))) place → IsOfPlace (first_value (entries_from past all)) place
found_some past all None old new place h taken found = absurd (let no : None ≡ Some (text found.key, found.value) = found.is in cc)
found_some past all (Some e) old new place h taken found = record {
  key = found.key;
  value = found.value;
  stored = found.stored;
  at = found.at;
  is = sym h.same ∙ ap (λ es. first_value (entries_from past es)) taken ∙ (first_here past e new (text found.key, found.value) found.is).whole;
}

below_middle : (low : List ℕ) (before : List Entry) (e : Entry) (rest : List Entry) → T (below_all byte_cmp low (before ++ e ∷ rest)) → byte_cmp low e.0 ≡ Less
below_middle low [] e rest h = less _ (first _ _ h)
below_middle low (x ∷ before) e rest h = below_middle low before e rest (second _ _ h)

pub left_after : (past : List ℕ) (before : List Entry) (e : Entry) (rest : List Entry) → IsRising (before ++ e ∷ rest) → byte_cmp e.0 past ≡ Less → HasLeft past (before ++ e ∷ rest) rest
left_after past [] e rest rising up = sym (ap (λ (b : Bool). cond b (e ∷ entries_from past rest) (entries_from past rest)) (passed e.0 past up))
left_after past (x ∷ before) e rest rising up =
    left_after past before e rest (second _ _ rising) up
    ∙ sym (ap (λ (b : Bool). cond b (x ∷ entries_from past (before ++ e ∷ rest)) (entries_from past (before ++ e ∷ rest))) (passed x.0 past (total.trans x.0 e.0 past (below_middle x.0 before e rest (first _ _ rising)) up)))

pub rest_of : (lent : Option Entry) (es : List Entry) → IsEntryList (pending lent es) → IsEntryList es
rest_of None es h = h
rest_of (Some e) es h = rest-list e es h

pub left_some : (past : List ℕ) (all : List Entry) (lent : Option Entry) (old new : List Entry) (place : Place) → HasPassed past all old → Takes lent old new → IsOfPlace (first_value (entries_from past (option_to_list lent))) place → IsEntryList all → HasLeft (past_place (Some place)) all new
left_some past all None old new place h taken found list = absurd (let no : None ≡ Some (text found.key, found.value) = found.is in cc)
left_some past all (Some e) old new place h taken found list =
    let whole = h.parts ∙ ap (λ es. h.before ++ es) taken in
    let named = (first_here past e new (text found.key, found.value) found.is).named in
    let up = subst (λ (p : Place). byte_cmp (text found.key) (past_place (Some p)) ≡ Less) found.at (below_past found.key found.stored) in
    subst (λ es. HasLeft (past_place (Some place)) es new) (sym whole)
    (left_after (past_place (Some place)) h.before e new (subst IsRising whole list.rising) (ap (λ n. byte_cmp n (past_place (Some place))) named ∙ up))

-- ---- the rest for later places

-- a value found among the entries from a text on is not below the text
pub found_from : (past : List ℕ) (es : List Entry) (p : List ℕ × List ℕ) → first_value (entries_from past es) ≡ Some p → is_le (byte_cmp past p.0) ≡ true
found_from past [] p e = absurd (let no : None ≡ Some p = e in cc)
found_from past ((name, None) ∷ es) p e = go (found_from past es p) (is_le (byte_cmp past name)) e
  where
    go : (first_value (entries_from past es) ≡ Some p → is_le (byte_cmp past p.0) ≡ true) → (b : Bool) → first_value (cond b ((name, None) ∷ entries_from past es) (entries_from past es)) ≡ Some p → is_le (byte_cmp past p.0) ≡ true
    go rest true e = rest e
    go rest false e = rest e
found_from past ((name, Some value) ∷ es) p e = go (found_from past es p) (is_le (byte_cmp past name)) refl e
  where
    go : (first_value (entries_from past es) ≡ Some p → is_le (byte_cmp past p.0) ≡ true) → (b : Bool) → is_le (byte_cmp past name) ≡ b → first_value (cond b ((name, Some value) ∷ entries_from past es) (entries_from past es)) ≡ Some p → is_le (byte_cmp past p.0) ≡ true
    go rest true is e = let same : (name, value) ≡ p = cc in subst (λ (q : List ℕ × List ℕ). is_le (byte_cmp past q.0) ≡ true) same is
    go rest false is e = rest e

-- the entries from a later text on are the same, taken from all or from those at or above an earlier text
narrower : (low past : List ℕ) → is_le (byte_cmp low past) ≡ true → (es : List Entry) → entries_from past (entries_from low es) ≡ entries_from past es
narrower low past up [] = refl
narrower low past up (e ∷ es) = go (narrower low past up es) (is_le (byte_cmp low e.0)) (is_le (byte_cmp past e.0)) refl refl
  where
    go : entries_from past (entries_from low es) ≡ entries_from past es → (a b : Bool) → is_le (byte_cmp low e.0) ≡ a → is_le (byte_cmp past e.0) ≡ b → entries_from past (cond a (e ∷ entries_from low es) (entries_from low es)) ≡ cond b (e ∷ entries_from past es) (entries_from past es)
    go same true b p q = ap (λ (t : Bool). cond t (e ∷ entries_from past (entries_from low es)) (entries_from past (entries_from low es))) q ∙ ap (λ (xs : List Entry). cond b (e ∷ xs) xs) same
    go same false true p q = absurd (let both = le_trans low past e.0 up q in cc)
    go same false false p q = same

-- the rest after a place, taken from the rest after an earlier one
pub left_later : (past : List ℕ) (all left rest : List Entry) (place : Place) → HasLeft past all left → IsOfPlace (first_value (entries_from past left)) place → HasLeft (past_place (Some place)) left rest → HasLeft (past_place (Some place)) all rest
left_later past all left rest place had found has =
    let from = found_from past left (text found.key, found.value) found.is in
    let up = subst (λ (p : Place). is_le (byte_cmp past (past_place (Some p))) ≡ true) found.at (le_trans past (text found.key) (past_place (Some (place_of found.key))) from (ap is_le (below_past found.key found.stored))) in
    has ∙ sym (narrower past (past_place (Some place)) up left) ∙ ap (entries_from (past_place (Some place))) had ∙ narrower past (past_place (Some place)) up all

-- one more place
pub place_more : (all left rest : List Entry) (found : List Place) (place : Place) (past : List ℕ) → past ≡ past_place (last_or None found) → AreNext (IsNextIn all) None (length found) found → HasLeft (past_place (last_or None found)) all left → IsOfPlace (first_value (entries_from past left)) place → HasLeft (past_place (Some place)) left rest
    → (items : List Place) → items ≡ found ++ place ∷ [] → AreNext (IsNextIn all) None (length items) items × HasLeft (past_place (last_or None items)) all rest
place_more all left rest found place past text next had more has items is =
    let named = subst (λ (p : List ℕ). IsOfPlace (first_value (entries_from p left)) place) text more in
    let named_all = subst (λ (es : List Entry). IsOfPlace (first_value es) place) had named in (
      subst (λ (ps : List Place). AreNext (IsNextIn all) None (length ps) ps) (sym is)
          (next_append (IsNextIn all) (length found) 1 (length (found ++ place ∷ [])) None found (place ∷ []) refl (omega (arith, length-append found (place ∷ []))) next (next_one (IsNextIn all) (last_or None found) place named_all)),
      subst (λ (ps : List Place). HasLeft (past_place (last_or None ps)) all rest) (sym is)
          (subst (λ (o : Option Place). HasLeft (past_place o) all rest) (sym (last_append None found place)) (left_later (past_place (last_or None found)) all left rest place had named has)),
    )

-- no more places
pub place_none : (all left : List Entry) (found : List Place) (most : ℕ) (past : List ℕ) → past ≡ past_place (last_or None found) → AreNext (IsNextIn all) None (length found) found → HasLeft (past_place (last_or None found)) all left → length found ≤ most → first_value (entries_from past left) ≡ None → AreNext (IsNextIn all) None most found
place_none all left found most past text next had few none =
    let none_all = subst (λ (es : List Entry). first_value es ≡ None) had (subst (λ (p : List ℕ). first_value (entries_from p left) ≡ None) text none) in
    next_all (IsNextIn all) (length found) most None found refl few next (λ wanted. none_all)
