-- Appending to blocks and to texts.
use Rattle.std.proofs.Common.{◌≡◌, ◌+◌, ℕ, Bool, true, false, T, ◌&&◌, List, [], ◌∷◌, ◌++◌, length, map, refl, sym, ap, subst, arith, length-append}
use Rattle.std.specs.List.{AllByRecursion}
use Rattle.std.specs.Ordering.{is_lt}
use Rattle.std.specs.declared.cmp.Ordering.{Ordering}
use Rattle.std.specs.declared.cmp.Ordering.TheVariants.{Less}
use Rattle.std.specs.Cmp.Lexicographic.{nat_list_cmp_total}
use Rattle.std.specs.FinMap.Entries.{below_all}
use Rattle.cell_key.specs.Keys.{byte_cmp}
use Rattle.cell_key.specs.Entries.{Entry, IsRising}
use Rattle.cell_key.proofs.TextPlaces.{first, second, less}
use Rattle.sorted_file.specs.Grammar.{block_bytes, body, Fits, IsFullBlock, AreBlocks}
use Rattle.sorted_file.specs.Index.{block_of, blocks_of, AreRows, IsRowAt}
use Rattle.sorted_file.specs.Block.{IsLastText}
use Rattle.sorted_file.specs.Check.{IsFollowed}
use Rattle.sorted_file.specs.declared.block.BlockRow.{BlockRow}

pub both : (a b : Bool) → T a → T b → T (a && b)
both true b p q = q
both false b p q = p

-- ---- parts of lists

pub all_front : {A : Type 0} (P : A → Type 0) (xs ys : List A) → AllByRecursion P (xs ++ ys) → AllByRecursion P xs
all_front P [] ys h = tt
all_front P (x ∷ xs) ys h = (h.0, all_front P xs ys h.1)

pub all_back : {A : Type 0} (P : A → Type 0) (xs ys : List A) → AllByRecursion P (xs ++ ys) → AllByRecursion P ys
all_back P [] ys h = h
all_back P (x ∷ xs) ys h = all_back P xs ys h.1

pub all_joined : {A : Type 0} (P : A → Type 0) (xs ys : List A) → AllByRecursion P xs → AllByRecursion P ys → AllByRecursion P (xs ++ ys)
all_joined P [] ys h k = k
all_joined P (x ∷ xs) ys h k = (h.0, all_joined P xs ys h.1 k)

pub below_front : (name : List ℕ) (xs ys : List Entry) → T (below_all byte_cmp name (xs ++ ys)) → T (below_all byte_cmp name xs)
below_front name [] ys h = tt
below_front name (x ∷ xs) ys h = both _ _ (first _ _ h) (below_front name xs ys (second _ _ h))

pub rising_front : (xs ys : List Entry) → IsRising (xs ++ ys) → IsRising xs
rising_front [] ys h = tt
rising_front (x ∷ xs) ys h = both _ _ (below_front x.0 xs ys (first _ _ h)) (rising_front xs ys (second _ _ h))

pub rising_back : (xs ys : List Entry) → IsRising (xs ++ ys) → IsRising ys
rising_back [] ys h = h
rising_back (x ∷ xs) ys h = rising_back xs ys (second _ _ h)

below_less : (x y : List ℕ) (es : List Entry) → byte_cmp x y ≡ Less → T (below_all byte_cmp y es) → T (below_all byte_cmp x es)
below_less x y [] p h = tt
below_less x y (e ∷ es) p h =
    let lower : byte_cmp x e.0 ≡ Less = nat_list_cmp_total.trans x y e.0 p (less _ (first _ _ h)) in
    both _ _ (subst (λ (o : Ordering). T (is_lt o)) (sym lower) tt) (below_less x y es p (second _ _ h))

is_less : (o : Ordering) → o ≡ Less → T (is_lt o)
is_less o e = subst (λ (o : Ordering). T (is_lt o)) (sym e) tt

below_rest : (name : List ℕ) (e : Entry) (es : List Entry) → IsRising (e ∷ es) → byte_cmp name e.0 ≡ Less → T (below_all byte_cmp name (e ∷ es))
below_rest name e es r p = both _ _ (is_less _ p) (below_less name e.0 es p (first _ _ r))

below_joined : (name : List ℕ) (xs ys : List Entry) → T (below_all byte_cmp name xs) → T (below_all byte_cmp name ys) → T (below_all byte_cmp name (xs ++ ys))
below_joined name [] ys h k = k
below_joined name (x ∷ xs) ys h k = both _ _ (first _ _ h) (below_joined name xs ys (second _ _ h) k)

last_below : (name : List ℕ) (front : List Entry) (l : Entry) → T (below_all byte_cmp name (front ++ l ∷ [])) → byte_cmp name l.0 ≡ Less
last_below name [] l h = less _ (first _ _ h)
last_below name (x ∷ front) l h = last_below name front l (second _ _ h)

-- two lists in ascending order are one, if the first one's last text is below the second one
pub rising_joined : (front : List Entry) (l e : Entry) (es : List Entry) → IsRising (front ++ l ∷ []) → IsRising (e ∷ es) → byte_cmp l.0 e.0 ≡ Less → IsRising ((front ++ l ∷ []) ++ e ∷ es)
rising_joined [] l e es h k p = both _ _ (below_rest l.0 e es k p) k
rising_joined (x ∷ front) l e es h k p =
    let low = nat_list_cmp_total.trans x.0 l.0 e.0 (last_below x.0 front l (first _ _ h)) p in
    both _ _ (below_joined x.0 (front ++ l ∷ []) (e ∷ es) (first _ _ h) (below_rest x.0 e es k low)) (rising_joined front l e es (second _ _ h) k p)

pub rising_seam : (front : List Entry) (l e : Entry) (es : List Entry) → IsRising ((front ++ l ∷ []) ++ e ∷ es) → byte_cmp l.0 e.0 ≡ Less
rising_seam [] l e es h = less _ (first _ _ (first _ _ h))
rising_seam (x ∷ front) l e es h = rising_seam front l e es (second _ _ h)

-- ---- blocks

append-nil : {A : Type 0} (xs : List A) → xs ++ [] ≡ xs
append-nil [] = refl
append-nil (x ∷ xs) = ap (λ (l : List _). x ∷ l) (append-nil xs)

pub followed_last : (blocks : List (List Entry)) (es next : List Entry) → IsFollowed (blocks ++ es ∷ []) next ≡ IsFullBlock es (next ∷ [])
followed_last [] es next = refl
followed_last (b ∷ []) es next = refl
followed_last (b ∷ c ∷ blocks) es next = followed_last (c ∷ blocks) es next

full_on : (es fs next : List Entry) (blocks : List (List Entry)) → IsFullBlock es (fs ∷ blocks) → IsFullBlock es ((fs ∷ blocks) ++ next ∷ [])
full_on es [] next blocks h = h
full_on es (f ∷ fs) next blocks h = h

full_first : (es next : List Entry) (more : List (List Entry)) → IsFullBlock es (next ∷ more) → IsFullBlock es (next ∷ [])
full_first es [] more h = h
full_first es (f ∷ next) more h = h

-- a block that follows joins the blocks
pub blocks_joined : (blocks : List (List Entry)) (next : List Entry) → AreBlocks blocks → Fits next → IsFollowed blocks next → AreBlocks (blocks ++ next ∷ [])
blocks_joined [] next h f w = (f, tt, tt)
blocks_joined (es ∷ []) next h f w = (h.0, w, (f, tt, tt))
blocks_joined (es ∷ fs ∷ blocks) next h f w = (h.0, full_on es fs next blocks h.1, blocks_joined (fs ∷ blocks) next h.2 f w)

-- each block follows those before it
pub block_follows : (blocks : List (List Entry)) (next : List Entry) (more : List (List Entry)) → AreBlocks (blocks ++ next ∷ more) → IsFollowed blocks next
block_follows [] next more h = tt
block_follows (es ∷ []) next more h = full_first es next more h.1
block_follows (es ∷ fs ∷ blocks) next more h = block_follows (fs ∷ blocks) next more h.2

pub block_fits : (blocks : List (List Entry)) (next : List Entry) (more : List (List Entry)) → AreBlocks (blocks ++ next ∷ more) → Fits next
block_fits [] next more h = h.0
block_fits (es ∷ blocks) next more h = block_fits blocks next more h.2

-- ---- rows

pub map_joined : {A B : Type 0} (f : A → B) (xs : List A) (x : A) → map f (xs ++ x ∷ []) ≡ map f xs ++ f x ∷ []
map_joined f [] x = refl
map_joined f (y ∷ xs) x = ap (λ zs. f y ∷ zs) (map_joined f xs x)

pub rows_joined : (at : ℕ) (rows : List BlockRow) (row : BlockRow) → AreRows at rows → IsRowAt (at + length (body (blocks_of rows))) row → AreRows at (rows ++ row ∷ [])
rows_joined at [] row h is = (subst (λ (n : ℕ). IsRowAt n row) (omega arith) is, tt)
rows_joined at (r ∷ rows) row h is = (
  h.0,
  rows_joined (at + length (block_bytes (block_of r))) rows row h.1
      (subst (λ (n : ℕ). IsRowAt n row) (omega (arith, length-append (block_bytes (block_of r)) (body (blocks_of rows)))) is),
)

pub last_row : (at : ℕ) (rows : List BlockRow) (row : BlockRow) → AreRows at (rows ++ row ∷ []) → row.length ≡ length (block_bytes (block_of row))
last_row at [] row h = h.0.length
last_row at (r ∷ rows) row h = last_row (at + length (block_bytes (block_of r))) rows row h.1

-- ---- the last text

rise : (d e : Entry) (more : List Entry) → byte_cmp d.0 e.0 ≡ Less → IsRising (e ∷ more) → IsRising (d ∷ e ∷ more)
rise d e more p h = both _ _ (below_rest d.0 e more h p) h

-- two lists are one in ascending order, if the second one's first entry is above the first one's last text
pub rises_behind : (es : List Entry) (e : Entry) (more : List Entry) (last : List ℕ) → IsLastText es last → IsRising es → IsRising (e ∷ more) → byte_cmp last e.0 ≡ Less → IsRising (es ++ e ∷ more)
rises_behind [] e more last is r h p = h
rises_behind (d ∷ []) e more last is r h p = rise d e more (subst (λ (t : List ℕ). byte_cmp t e.0 ≡ Less) is p) h
rises_behind (d ∷ f ∷ es) e more last is r h p = rise d f (es ++ e ∷ more) (less _ (first _ _ (first _ _ r))) (rises_behind (f ∷ es) e more last is (second _ _ r) h p)

-- the last text of two lists is the second one's
pub last_behind : (es : List Entry) (e : Entry) (more : List Entry) (last : List ℕ) → IsLastText (e ∷ more) last → IsLastText (es ++ e ∷ more) last
last_behind [] e more last h = h
last_behind (d ∷ []) e more last h = h
last_behind (d ∷ f ∷ es) e more last h = last_behind (f ∷ es) e more last h

pub last_fits : (es fs : List Entry) (last : List ℕ) → Fits fs → IsLastText fs last → IsLastText (es ++ fs) last
last_fits es [] last fits h = absurd fits
last_fits es (f ∷ fs) last fits h = last_behind es f fs last h
