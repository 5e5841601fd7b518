-- The contents of scans' fields, and their lengths.
use Rattle.std.proofs.Common.{◌≡◌, ℕ, ◌+◌, ◌≤◌, Bool, true, false, List, [], ◌∷◌, ◌++◌, length, Option, None, Some, IfSome, option_map, drop, refl, sym, ap, subst, ◌∙◌, append_assoc, append-nil, length-append, arith}
use Rattle.std.specs.List.{AllByRecursion}
use Rattle.si_model.specs.Messages.{Range, Item, Valued, Locked, Unsent, Reach, ToEnd, UpTo}
use Rattle.si_model.specs.Scans.{found_length, item_length, items_length, most_items}
use Rattle.si_model.specs.declared.replies.Cell.{Cell}
use Rattle.request_codec.specs.Fields.{field, optional, cell_fields, FitsField, FitsCell}
use Rattle.si_model.specs.Takings.{IsNamed}
use Rattle.si_model.specs.AnswerLimits.{IsNamedReach}
use Rattle.request_codec.specs.Scans.{flag_number, range_fields, FitsRange, reach_fields, said_fields, item_fields, items_fields, StartFits, SaidFits, ItemFits, AreItems}
use Rattle.request_codec.proofs.Fields.{same_number, past_number, same_field, same_cell, first, length-number, length-field, length-cell}
use Rattle.request_codec.proofs.Names.{cell_fits}

-- ---- ranges

pub same_flag : (a b : Bool) → flag_number a ≡ flag_number b → a ≡ b
same_flag false false e = refl
same_flag true true e = refl
same_flag false true e = absurd (omega (arith, e))
same_flag true false e = absurd (omega (arith, e))

same_optional : {A : Type 0} (fields : A → List ℕ) (Fits : A → Type 0) → ((a b : A) (x y : List ℕ) → Fits a → Fits b → fields a ++ x ≡ fields b ++ y → (a ≡ b) × (x ≡ y))
    → (a b : Option A) (x y : List ℕ) → IfSome a Fits → IfSome b Fits → optional fields a ++ x ≡ optional fields b ++ y → (a ≡ b) × (x ≡ y)
same_optional fields Fits same None None x y p q e = (refl, ap (drop 1) e)
same_optional fields Fits same None (Some b) x y p q e = let f = ap first e in absurd (omega (arith, f))
same_optional fields Fits same (Some a) None x y p q e = let f = ap first e in absurd (omega (arith, f))
same_optional fields Fits same (Some a) (Some b) x y p q e =
    let s = same a b x y p q (ap (drop 1) e) in
    (ap (λ k. Some k) s.0, s.1)

pub same_optional_cell : (a b : Option Cell) (x y : List ℕ) → IfSome a (λ cell. FitsCell cell) → IfSome b (λ cell. FitsCell cell) → optional cell_fields a ++ x ≡ optional cell_fields b ++ y → (a ≡ b) × (x ≡ y)
same_optional_cell = same_optional cell_fields (λ cell. FitsCell cell) same_cell

pub same_optional_bytes : (a b : Option (List ℕ)) (x y : List ℕ) → IfSome a (λ bytes. FitsField bytes) → IfSome b (λ bytes. FitsField bytes) → optional field a ++ x ≡ optional field b ++ y → (a ≡ b) × (x ≡ y)
same_optional_bytes = same_optional field (λ bytes. FitsField bytes) same_field

pub fits_mapped : {X Y : Type 0} (o : Option X) (f : X → Y) (Fits : Y → Type 0) → IfSome o (λ x. Fits (f x)) → IfSome (option_map f o) Fits
fits_mapped None f Fits p = tt
fits_mapped (Some x) f Fits p = p

pub range-append : (range : Range) (x : List ℕ) → range_fields range ++ x ≡ optional cell_fields range.after ++ (optional field range.end ++ (optional field range.family ++ x))
unfolding range_fields
range-append range x =
    append_assoc (optional cell_fields range.after) (optional field range.end ++ optional field range.family) x
    ∙ ap (λ (t : List ℕ). optional cell_fields range.after ++ t) (append_assoc (optional field range.end) (optional field range.family) x)

pub same_range : (a b : Range) (x y : List ℕ) → FitsRange a → FitsRange b → range_fields a ++ x ≡ range_fields b ++ y → (a ≡ b) × (x ≡ y)
same_range a b x y p q e =
    let whole = sym (range-append a x) ∙ e ∙ range-append b y in
    let after = same_optional_cell a.after b.after (optional field a.end ++ (optional field a.family ++ x)) (optional field b.end ++ (optional field b.family ++ y)) p.after q.after whole in
    let end = same_optional_bytes a.end b.end (optional field a.family ++ x) (optional field b.family ++ y) p.end q.end after.1 in
    let family = same_optional_bytes a.family b.family x y p.family q.family end.1 in
    (λ i. record { after = after.0 i; end = end.0 i; family = family.0 i }, family.1)

pub length-range : (range : Range) → length (range_fields range) ≡ length (optional cell_fields range.after) + length (optional field range.end) + length (optional field range.family)
unfolding range_fields
length-range range =
    omega (arith, length-append (optional cell_fields range.after) (optional field range.end ++ optional field range.family), length-append (optional field range.end) (optional field range.family))

-- ---- how far

pub named_fits : (cell : Cell) → IsNamed cell → FitsCell cell
named_fits cell named = cell_fits cell named.0 named.1

pub same_reach : (a b : Reach) (x y : List ℕ) → IsNamedReach a → IsNamedReach b → reach_fields a ++ x ≡ reach_fields b ++ y → (a ≡ b) × (x ≡ y)
same_reach ToEnd ToEnd x y p q e = (refl, ap (drop 1) e)
same_reach (UpTo a) (UpTo b) x y p q e =
    let s = same_cell a b x y (named_fits a p) (named_fits b q) (ap (drop 1) e) in
    (ap (λ cell. UpTo cell) s.0, s.1)
same_reach ToEnd (UpTo b) x y p q e = let f = ap first e in absurd (omega (arith, f))
same_reach (UpTo a) ToEnd x y p q e = let f = ap first e in absurd (omega (arith, f))

pub few_reach : (reach : Reach) → IsNamedReach reach → length (reach_fields reach) ≤ 4073
few_reach ToEnd p = omega arith
few_reach (UpTo cell) p = let r = p.0.few in let f = p.1.few in omega (arith, r, f, length-cell cell)

-- ---- items

pub same_said : (a b : Item) (x y : List ℕ) → SaidFits a → SaidFits b → said_fields a ++ x ≡ said_fields b ++ y → (a ≡ b) × (x ≡ y)
same_said (Valued v) (Valued w) x y p q e =
    let s = same_field v w x y p q (ap (drop 1) e) in
    (ap (λ u. Valued u) s.0, s.1)
same_said (Locked s) (Locked t) x y p q e =
    let rest = ap (drop 1) e in
    (ap (λ u. Locked u) (same_number 8 s t x y p q rest), past_number 8 s t x y rest)
same_said Unsent Unsent x y p q e = (refl, ap (drop 1) e)
same_said a b x y p q e = let f = ap first e in absurd (omega (arith, f))

pub item-append : (item : Cell × Item) (x : List ℕ) → item_fields item ++ x ≡ cell_fields item.0 ++ (said_fields item.1 ++ x)
unfolding item_fields
item-append item x = append_assoc (cell_fields item.0) (said_fields item.1) x

pub same_item : (a b : Cell × Item) (x y : List ℕ) → ItemFits a → ItemFits b → item_fields a ++ x ≡ item_fields b ++ y → (a ≡ b) × (x ≡ y)
same_item a b x y p q e =
    let whole = sym (item-append a x) ∙ e ∙ item-append b y in
    let cell = same_cell a.0 b.0 (said_fields a.1 ++ x) (said_fields b.1 ++ y) (named_fits a.0 p.named) (named_fits b.0 q.named) whole in
    let said = same_said a.1 b.1 x y p.said q.said cell.1 in
    (λ i. (cell.0 i, said.0 i), said.1)

pub same_items : (xs ys : List (Cell × Item)) → AllByRecursion ItemFits xs → AllByRecursion ItemFits ys → length xs ≡ length ys → items_fields xs ≡ items_fields ys → xs ≡ ys
same_items [] [] p q size e = refl
same_items [] (b ∷ ys) p q size e = absurd (omega (arith, size))
same_items (a ∷ xs) [] p q size e = absurd (omega (arith, size))
same_items (a ∷ xs) (b ∷ ys) p q size e =
    let s = same_item a b (items_fields xs) (items_fields ys) p.0 q.0 e in
    let t = same_items xs ys p.1 q.1 (omega (arith, size)) s.1 in
    λ i. s.0 i ∷ t i

-- one more item at the front
pub no_items : (bytes : List ℕ) → AreItems 0 bytes → bytes ≡ []
no_items bytes are = elim (are.items) as (λ (items : List (Cell × Item)). length items ≡ 0 → bytes ≡ items_fields items → bytes ≡ []) [
  | [] ↦ λ many whole. whole
  | item ∷ items ↦ λ many whole. absurd (omega (arith, many))
] are.many are.whole

pub nothing_left : (bytes : List ℕ) → bytes ≡ [] → AreItems 0 bytes
nothing_left bytes e = record { items = []; many = refl; fit = tt; whole = e }

pub one_more : (m n : ℕ) (item : Cell × Item) (bytes after : List ℕ) → m ≡ n + 1 → ItemFits item → bytes ≡ item_fields item ++ after → AreItems n after → AreItems m bytes
one_more m n item bytes after more fits e are = record {
  items = item ∷ are.items;
  many = omega (arith, are.many, more);
  fit = (fits, are.fit);
  whole = e ∙ ap (λ (t : List ℕ). item_fields item ++ t) are.whole;
}

-- n items, of which there is one
record Front (n : ℕ) (bytes : List ℕ) : Type 0 where
  pub item : Cell × Item
  pub after : List ℕ
  pub fits : ItemFits item
  pub whole : bytes ≡ item_fields item ++ after
  pub rest : AreItems n after

front_of : (items : List (Cell × Item)) (n : ℕ) (bytes : List ℕ) → length items ≡ n + 1 → AllByRecursion ItemFits items → bytes ≡ items_fields items → Front n bytes
front_of [] n bytes many fit whole = absurd (omega (arith, many))
front_of (item ∷ items) n bytes many fit whole = record {
  item = item;
  after = items_fields items;
  fits = fit.0;
  whole = whole;
  rest = record { items = items; many = omega (arith, many); fit = fit.1; whole = refl };
}

front : (m n : ℕ) (bytes : List ℕ) → m ≡ n + 1 → AreItems m bytes → Front n bytes
front m n bytes more are = front_of are.items n bytes (are.many ∙ more) are.fit are.whole

pub one_less : (m n : ℕ) (item : Cell × Item) (bytes after : List ℕ) → m ≡ n + 1 → ItemFits item → bytes ≡ item_fields item ++ after → AreItems m bytes → AreItems n after
one_less m n item bytes after more fits e are =
    let f = front m n bytes more are in
    let s = same_item item f.item after f.after fits f.fits (sym e ∙ f.whole) in
    subst (AreItems n) (sym s.1) f.rest

-- the next of them isn't missing
pub none_missing : (m n : ℕ) (bytes : List ℕ) → m ≡ n + 1 → AreItems m bytes → ((item : Cell × Item) (after : List ℕ) → ItemFits item → bytes ≡ item_fields item ++ after → ⊥) → ⊥
none_missing m n bytes more are none =
    let f = front m n bytes more are in
    none f.item f.after f.fits f.whole

-- one more item at the back
pub items_and : (xs : List (Cell × Item)) (item : Cell × Item) (x : List ℕ) → items_fields (xs ++ item ∷ []) ++ x ≡ items_fields xs ++ (item_fields item ++ x)
items_and [] item x = ap (λ (t : List ℕ). t ++ x) (append-nil (item_fields item))
items_and (a ∷ xs) item x =
    append_assoc (item_fields a) (items_fields (xs ++ item ∷ [])) x
    ∙ ap (λ (t : List ℕ). item_fields a ++ t) (items_and xs item x)
    ∙ sym (append_assoc (item_fields a) (items_fields xs) (item_fields item ++ x))

pub fit_and : (xs : List (Cell × Item)) (item : Cell × Item) → AllByRecursion ItemFits xs → ItemFits item → AllByRecursion ItemFits (xs ++ item ∷ [])
fit_and [] item all fits = (fits, tt)
fit_and (a ∷ xs) item all fits = (all.0, fit_and xs item all.1 fits)

-- ---- lengths

pub length-said : (said : Item) → length (said_fields said) ≡ 1 + found_length said
length-said (Valued value) = omega (arith, length-field value)
length-said (Locked start) = omega (arith, length-number 8 start)
length-said Unsent = omega arith

pub length-item : (item : Cell × Item) → length (item_fields item) ≡ item_length item
unfolding item_fields
length-item item = omega (arith, length-append (cell_fields item.0) (said_fields item.1), length-cell item.0, length-said item.1)

pub length-items : (items : List (Cell × Item)) → length (items_fields items) ≡ items_length items
length-items [] = refl
length-items (item ∷ items) = omega (arith, length-append (item_fields item) (items_fields items), length-item item, length-items items)

pub few_items : (items : List (Cell × Item)) → length items ≤ items_length items
few_items [] = omega arith
few_items (item ∷ items) = omega (arith, few_items items)

said_fits : (cell : Cell) (said : Item) → StartFits said → item_length (cell, said) ≤ most_items → SaidFits said
said_fits cell (Valued value) p few = omega (arith, few)
said_fits cell (Locked start) p few = p
said_fits cell Unsent p few = tt

pub all_fit : (items : List (Cell × Item)) → AllByRecursion (λ (item : Cell × Item). StartFits item.1) items → AllByRecursion (λ (item : Cell × Item). IsNamed item.0) items → items_length items ≤ most_items → AllByRecursion ItemFits items
all_fit [] starts names few = tt
all_fit (item ∷ items) starts names few = (
  record { named = names.0; said = said_fits item.0 item.1 starts.0 (omega (arith, few)) },
  all_fit items starts.1 names.1 (omega (arith, few)),
)

pub start_of : (said : Item) → SaidFits said → StartFits said
start_of (Valued value) p = tt
start_of (Locked start) p = p
start_of Unsent p = tt

pub starts_fit : (items : List (Cell × Item)) → AllByRecursion ItemFits items → AllByRecursion (λ (item : Cell × Item). StartFits item.1) items
starts_fit [] fit = tt
starts_fit (item ∷ items) fit = (start_of item.1 fit.0.said, starts_fit items fit.1)

pub all_named : (items : List (Cell × Item)) → AllByRecursion ItemFits items → AllByRecursion (λ (item : Cell × Item). IsNamed item.0) items
all_named [] fit = tt
all_named (item ∷ items) fit = (fit.0.named, all_named items fit.1)
