-- A list of entries can be split into blocks in one way only.
use Rattle.std.proofs.Common.{◌≡◌, ◌+◌, ◌≤◌, ◌<◌, List, [], ◌∷◌, ◌++◌, length, refl, sym, ap, subst, ◌∙◌, arith, length-append}
use Rattle.std.proofs.lemmas.Grind.{flat_map-append}
use Rattle.std.proofs.lemmas.List.Concat.{flat_map-cons}
use Rattle.std.specs.Prelude.{flat_map}
use Rattle.cell_key.specs.Entries.{Entry, spelled}
use Rattle.sorted_file.specs.Grammar.{block_bytes, Fits, IsFullBlock, AreBlocks, image_of, OneImage}

abbrev flat : List (List Entry) → List Entry
flat blocks = flat_map (λ es. es) blocks

-- the first list goes beyond the second, and `q` begins with the first entry beyond it
record GoesPast (xs ys q : List Entry) : Type 0 where
  next : Entry
  more : List Entry
  after : List Entry
  longer : xs ≡ ys ++ next ∷ more
  there : q ≡ next ∷ after

data Compared (xs ys p q : List Entry) : Type 0 where
  same : xs ≡ ys → p ≡ q → Compared xs ys p q
  first_longer : GoesPast xs ys q → Compared xs ys p q
  second_longer : GoesPast ys xs p → Compared xs ys p q

head : (x y : Entry) (xs ys : List Entry) → x ∷ xs ≡ y ∷ ys → x ≡ y
head x y xs ys e = cc

tail : (x y : Entry) (xs ys : List Entry) → x ∷ xs ≡ y ∷ ys → xs ≡ ys
tail x y xs ys e = cc

under : (x y : Entry) (xs ys p q : List Entry) → x ≡ y → Compared xs ys p q → Compared (x ∷ xs) (y ∷ ys) p q
under x y xs ys p q e (same f g) = same (cc) g
under x y xs ys p q e (first_longer g) = first_longer (record { next = g.next; more = g.more; after = g.after; longer = ap (λ l. x ∷ l) g.longer ∙ ap (λ z. z ∷ ys ++ g.next ∷ g.more) e; there = g.there })
under x y xs ys p q e (second_longer g) = second_longer (record { next = g.next; more = g.more; after = g.after; longer = ap (λ l. y ∷ l) g.longer ∙ ap (λ z. z ∷ xs ++ g.next ∷ g.more) (sym e); there = g.there })

compared : (xs ys p q : List Entry) → xs ++ p ≡ ys ++ q → Compared xs ys p q
compared [] [] p q e = same refl e
compared [] (y ∷ ys) p q e = second_longer (record { next = y; more = ys; after = ys ++ q; longer = refl; there = e })
compared (x ∷ xs) [] p q e = first_longer (record { next = x; more = xs; after = xs ++ p; longer = refl; there = sym e })
compared (x ∷ xs) (y ∷ ys) p q e = under x y xs ys p q (head x y (xs ++ p) (ys ++ q) e) (compared xs ys p q (tail x y (xs ++ p) (ys ++ q) e))

-- a block with another entry behind it has at most 4096 bytes
two : (ys more : List Entry) (e : Entry) → Fits ys → Fits (ys ++ e ∷ more) → length (block_bytes (ys ++ e ∷ more)) ≤ 4096
two [] more e f g = absurd f
two (y ∷ []) more e f g = g
two (y ∷ z ∷ ys) more e f g = g

sizes : (ys more : List Entry) (e : Entry) → length (block_bytes ys) + length (spelled e) ≤ length (block_bytes (ys ++ e ∷ more))
sizes ys more e =
    let split : block_bytes (ys ++ e ∷ more) ≡ block_bytes ys ++ (spelled e ++ block_bytes more) = flat_map-append spelled ys (e ∷ more) ∙ ap (λ bs. block_bytes ys ++ bs) (flat_map-cons spelled e more) in
    let all : length (block_bytes (ys ++ e ∷ more)) ≡ length (block_bytes ys) + (length (spelled e) + length (block_bytes more)) = ap length split ∙ length-append (block_bytes ys) (spelled e ++ block_bytes more) ∙ ap (λ n. length (block_bytes ys) + n) (length-append (spelled e) (block_bytes more)) in
    omega (arith, all)

-- a block takes all that fits, so no block is another and more
too_long : (xs ys : List Entry) (blocks : List (List Entry)) → Fits xs → Fits ys → IsFullBlock ys blocks → AreBlocks blocks → GoesPast xs ys (flat blocks) → ⊥
too_long xs ys [] f g full b past = no_entry past.next past.after past.there
  where
    no_entry : (e : Entry) (es : List Entry) → [] ≡ e ∷ es → ⊥
    no_entry e es q = cc
too_long xs ys ([] ∷ blocks) f g full b past = full
too_long xs ys ((e ∷ es) ∷ blocks) f g full b past =
    let same : e ≡ past.next = head e past.next (es ++ flat blocks) past.after past.there in
    let small : length (block_bytes (ys ++ past.next ∷ past.more)) ≤ 4096 = two ys past.more past.next g (subst Fits past.longer f) in
    let large : 4096 < length (block_bytes ys) + length (spelled past.next) = subst (λ e. 4096 < length (block_bytes ys) + length (spelled e)) same full in
    omega (arith, small, large, sizes ys past.more past.next)

-- two splits of one list are equal
pub one_split : (xss yss : List (List Entry)) → AreBlocks xss → AreBlocks yss → flat_map (λ es. es) xss ≡ flat_map (λ es. es) yss → xss ≡ yss
one_split [] [] a b e = refl
one_split [] ([] ∷ yss) a b e = absurd b.0
one_split [] ((y ∷ ys) ∷ yss) a b e = cc
one_split ([] ∷ xss) [] a b e = absurd a.0
one_split ((x ∷ xs) ∷ xss) [] a b e = cc
one_split (xs ∷ xss) (ys ∷ yss) a b e =
    elim (compared xs ys (flat xss) (flat yss) e) [
      | same f g ↦ ap (λ l. l ∷ xss) f ∙ ap (λ l. ys ∷ l) (one_split xss yss a.2 b.2 g)
      | first_longer g ↦ absurd (too_long xs ys yss a.0 b.0 b.1 b.2 g)
      | second_longer g ↦ absurd (too_long ys xs xss b.0 a.0 a.1 a.2 g)
    ]

-- a list has at most one image
pub one_image : OneImage
one_image format entries x y p q = p.bytes ∙ ap (λ (blocks : List (List Entry)). image_of format blocks (length entries)) (one_split p.blocks q.blocks p.grammar q.grammar (p.whole ∙ sym q.whole)) ∙ sym q.bytes
