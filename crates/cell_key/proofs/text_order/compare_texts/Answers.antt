use Rattle.std.proofs.Common.{◌≡◌, ◌≤◌, ◌<◌, ◌-◌, ◌+◌, List, ℕ, false, [], ◌++◌, length, take, drop, refl, sym, ap, ◌∙◌, append_assoc, arith}
use Rattle.std.specs.declared.cmp.Ordering.{Ordering}
use Rattle.std.specs.declared.cmp.Ordering.TheVariants.{Less, Equal, Greater}
use Rattle.std.specs.Ordering.{is_ne, ordering_then}
use Rattle.std.proofs.Math.ListN.{drop_of_length-le}
use Rattle.std.proofs.lemmas.List.{drop-append-le, length-append, length-drop, take-append-drop}
use Rattle.cell_key.specs.Keys.{byte_cmp}
use Rattle.cell_key.proofs.Words.{cmp_behind}
use Rattle.cell_key.proofs.text_order.compare_texts.Goals as goal
use Rattle.cell_key.proofs.text_order.compare_texts.Goals.{then-fronts-test+else-right-ge8, else-fronts-test}

then_nothing : (o : Ordering) → ordering_then o Equal ≡ o
then_nothing Less = refl
then_nothing Equal = refl
then_nothing Greater = refl

is_tie : (o : Ordering) → is_ne o ≡ false → o ≡ Equal
is_tie Less e = cc
is_tie Equal e = refl
is_tie Greater e = cc

-- the last eight bytes decide, if fewer are left behind a common front
last_decide : (a b both left right x y : List ℕ) (at : ℕ) (o : Ordering) → at + 8 ≡ length a → length a ≡ length b → a ≡ both ++ left → b ≡ both ++ right → length left < 8 → x ≡ drop at a → y ≡ drop at b
    → byte_cmp x y ≡ ordering_then o (byte_cmp (drop 8 x) (drop 8 y)) → byte_cmp left right ≡ byte_cmp a b → o ≡ byte_cmp a b
last_decide a b both left right x y at o last long is is' few first second order rest =
    let len = ap length is ∙ length-append both left in
    let within : at ≤ length both = omega (arith, last, len, few) in
    let front : x ≡ drop at both ++ left = first ∙ ap (drop at) is ∙ drop-append-le at both left within in
    let front' : y ≡ drop at both ++ right = second ∙ ap (drop at) is' ∙ drop-append-le at both right within in
    let end : drop 8 x ≡ [] = drop_of_length-le x {i = 8} (let size = ap length first ∙ length-drop at a in omega (arith, size, last)) in
    let end' : drop 8 y ≡ [] = drop_of_length-le y {i = 8} (let size = ap length second ∙ length-drop at b in omega (arith, size, last, long)) in
    sym (order ∙ ap (λ (t : List ℕ). ordering_then o (byte_cmp t (drop 8 y))) end ∙ ap (λ (t : List ℕ). ordering_then o (byte_cmp [] t)) end' ∙ then_nothing o)
    ∙ ap (λ (t : List ℕ). byte_cmp t y) front ∙ ap (byte_cmp (drop at both ++ left)) front' ∙ cmp_behind (drop at both) left right ∙ rest

-- eight more bytes in common
more : (text both left now : List ℕ) (front : List ℕ) → text ≡ both ++ left → take 8 left ≡ front → now ≡ drop 8 left → text ≡ (both ++ front) ++ now
more text both left now front is same rest =
    is ∙ ap (λ (t : List ℕ). both ++ t) (sym (take-append-drop 8 left) ∙ ap (λ (t : List ℕ). t ++ drop 8 left) same ∙ ap (λ (t : List ℕ). front ++ t) (sym rest))
    ∙ sym (append_assoc both front now)

pub fronts-preserved : goal.fronts-preserved
fronts-preserved c =
    let i = c.fronts.invariant in
    let left = c.fronts.left.now in
    let right = c.fronts.right.now in
    let tie = is_tie c.compare_fronts-order.result (sym c.is_ne.ensures ∙ c.if-is_ne.false) in
    let same = c.compare_fronts-order.ensures.same tie in (
      ap (λ (t : List ℕ). byte_cmp t c.split_at-in-fronts.result.1.now) c.split_at.ensures.back ∙ ap (byte_cmp (drop 8 left)) c.split_at-in-fronts.ensures.back
          ∙ sym (c.compare_fronts-order.ensures.order ∙ ap (λ (o : Ordering). ordering_then o (byte_cmp (drop 8 left) (drop 8 right))) tie) ∙ i.0,
      (
        i.1.0 ++ take 8 right,
        more c.args.a.now i.1.0 left c.split_at.result.1.now (take 8 right) i.1.1 same c.split_at.ensures.back,
        more c.args.b.now i.1.0 right c.split_at-in-fronts.result.1.now (take 8 right) i.1.2 refl c.split_at-in-fronts.ensures.back,
      ),
    )

pub returns-then-a-ge8 : goal.returns-then-a-ge8
returns-then-a-ge8 c =
    let i = c.fronts.invariant in
    let both = i.1.0 in
    let left = c.fronts.left.now in
    let right = c.fronts.right.now in
    let a = c.args.a.now in
    let b = c.args.b.now in
    let one = ap length i.1.1 ∙ length-append both left in
    let two = ap length i.1.2 ∙ length-append both right in
    let long : length a ≡ length b = c.if-a-b.true in
    let few : length left < 8 = elim c.fronts-test.branch [ then-fronts-test+else-right-ge8 w ↦ (let short = w.if-right-ge8.false in omega (arith, one, two, long, short)) | else-fronts-test w ↦ w.fronts-test.false ] in
    last_decide a b both left right c.split_at-then-a-ge8.result.1.now c.split_at-then-a-ge8-2.result.1.now (length a - 8) c.compare_fronts.result
    (let least = c.if-a-ge8.true in omega (arith, least)) long i.1.1 i.1.2 few c.split_at-then-a-ge8.ensures.back c.split_at-then-a-ge8-2.ensures.back c.compare_fronts.ensures.order i.0
