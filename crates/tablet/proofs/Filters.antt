-- The entries of a text in filtered lists.
use Rattle.std.proofs.Common.{◌≡◌, ℕ, Bool, true, false, cond, List, [], ◌∷◌, ◌&&◌, map, Option, None, refl, sym, ap, ◌∙◌}
use Rattle.std.specs.Prelude.{filter}
use Rattle.std.specs.List.{AllByRecursion}
use Rattle.std.specs.Ordering.{is_le, eq_by_cmp}
use Rattle.std.specs.FinMap.Entries.{find-where_key}
use Rattle.cell_key.specs.Keys.{byte_cmp}
use Rattle.cell_key.specs.Entries.{Entry, IsEntryList, entry_of_key, first_naming, or_else}
use Rattle.compaction.specs.Ends.{is_below}
use Rattle.cell_key.proofs.TextPlaces.{equal, one_text as same_key}
use Rattle.tablet.specs.Sources.{entries_between}

pub cond_same : {A : Type 0} (b : Bool) (x : A) → cond b x x ≡ x
cond_same true x = refl
cond_same false x = refl

pub cond_and : {A : Type 0} (a b : Bool) (x : Option A) → cond b (cond a x None) None ≡ cond (a && b) x None
cond_and true true x = refl
cond_and true false x = refl
cond_and false true x = refl
cond_and false false x = refl

or_cond : {A : Type 0} (b : Bool) (x y : Option A) → or_else (cond b x None) (cond b y None) ≡ cond b (or_else x y) None
or_cond true x y = refl
or_cond false x y = refl

-- texts that compare equal are equal
pub one_text : (x y : List ℕ) → eq_by_cmp byte_cmp x y ≡ true → x ≡ y
one_text x y e = same_key x y (equal (byte_cmp x y) e)

pub find-filter : (test : List ℕ → Bool) (es : List Entry) (name : List ℕ) → entry_of_key (filter (λ e. test e.0) es) name ≡ cond (test name) (entry_of_key es name) None
find-filter test es name = find-where_key byte_cmp test name (λ x e. ap test (sym (same_key name x e))) es

pub first-map : (f : List Entry → List Entry) (b : Bool) (name : List ℕ) → ((es : List Entry) → entry_of_key (f es) name ≡ cond b (entry_of_key es name) None) → (lists : List (List Entry)) → first_naming (map f lists) name ≡ cond b (first_naming lists name) None
first-map f b name h [] = sym (cond_same b None)
first-map f b name h (es ∷ lists) =
    ap (λ (o : Option (Option (List ℕ))). or_else o (first_naming (map f lists) name)) (h es)
    ∙ ap (or_else (cond b (entry_of_key es name) None)) (first-map f b name h lists)
    ∙ or_cond b (entry_of_key es name) (first_naming lists name)

-- a function that keeps entry lists keeps each of several
pub each_map : (f : List Entry → List Entry) → ((es : List Entry) → IsEntryList es → IsEntryList (f es)) → (lists : List (List Entry)) → AllByRecursion IsEntryList lists → AllByRecursion IsEntryList (map f lists)
each_map f keeps [] each = tt
each_map f keeps (es ∷ lists) each = (keeps es each.0, each_map f keeps lists each.1)

-- whether a text is at or above `from`, and below `end` if there is one
abbrev pub is_between : List ℕ → Option (List ℕ) → List ℕ → Bool
is_between from end name = is_le (byte_cmp from name) && is_below end name

pub find-between : (from : List ℕ) (end : Option (List ℕ)) (name : List ℕ) (es : List Entry) → entry_of_key (entries_between from end es) name ≡ cond (is_between from end name) (entry_of_key es name) None
find-between from end name es =
    find-filter (is_below end) (filter (λ e. is_le (byte_cmp from e.0)) es) name
    ∙ ap (λ (o : Option (Option (List ℕ))). cond (is_below end name) o None) (find-filter (λ n. is_le (byte_cmp from n)) es name)
    ∙ cond_and (is_le (byte_cmp from name)) (is_below end name) (entry_of_key es name)

-- two filters, one after the other, are one filter that agrees with both
pub filter_twice : (p q r : Entry → Bool) (P : Entry → Type 0) → ((e : Entry) → P e → (q e && p e) ≡ r e) → (es : List Entry) → AllByRecursion P es → filter p (filter q es) ≡ filter r es
filter_twice p q r P agree [] all = refl
filter_twice p q r P agree (e ∷ es) all = step (filter_twice p q r P agree es all.1) (q e) ∙ ap (λ (b : Bool). cond b (e ∷ filter r es) (filter r es)) (agree e all.0)
  where
    step : filter p (filter q es) ≡ filter r es → (t : Bool) → filter p (cond t (e ∷ filter q es) (filter q es)) ≡ cond (t && p e) (e ∷ filter r es) (filter r es)
    step more true = ap (λ (xs : List Entry). cond (p e) (e ∷ xs) xs) more
    step more false = more
