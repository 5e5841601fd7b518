use Rattle.std.proofs.Common.{◌≡◌, ◌++◌, List, ℕ, Bool, take, drop, not, true, false, nat_eq, refl, sym, ap, ◌∙◌, append_assoc}
use Rattle.std.specs.Cmp.Lexicographic.{pointwise, bytes_decides}
use Rattle.std.proofs.lemmas.List.{append_cancel_left, take-append-drop}
use Rattle.cell_key.proofs.TextPlaces.{clash}
use Rattle.cell_key.proofs.text_order.are_same.Goals as goal

-- if bytes are equal, so are their rests behind a common front
rest_same : (bytes other both left right : List ℕ) → bytes ≡ both ++ left → other ≡ both ++ right → bytes ≡ other → left ≡ right
rest_same bytes other both left right one two same = append_cancel_left both left right (sym one ∙ same ∙ two)

-- eight more bytes in common
more : (text both left front now : List ℕ) → text ≡ both ++ left → take 8 left ≡ front → now ≡ drop 8 left → text ≡ (both ++ front) ++ now
more text both left front now is same rest =
    is ∙ ap (λ (t : List ℕ). both ++ t) (sym (take-append-drop 8 left) ∙ ap (λ (t : List ℕ). t ++ drop 8 left) same ∙ ap (λ (t : List ℕ). front ++ t) (sym rest))
    ∙ sym (append_assoc both front now)

-- a negated test answers the opposite
turned : (r t : Bool) → r ≡ not t → r ≡ false → t ≡ true
turned r true e f = refl
turned r false e f = absurd (clash r e f)

both_true : (r t : Bool) → r ≡ not t → r ≡ true → t ≡ true → ⊥
both_true r true e f g = clash r f e
both_true r false e f g = clash false g refl

pub returns-then-ne : goal.returns-then-ne
returns-then-ne c =
    let i = c.words.invariant in
    let one = c.in-Some.ensures.cases in
    let two = c.in-Some-split_first_chunk.ensures.cases in (
      λ t. absurd (clash false t refl),
      λ same.
          let front = one.0 ∙ ap (take 8) (rest_same c.args.first.now c.args.second.now i.0 c.words.left.now c.words.right.now i.1 i.2 same) ∙ sym two.0 in
          let told = (bytes_decides c.in-Some.word.now c.in-Some-split_first_chunk.other.now).1 front in
          absurd (both_true c.ne.result (pointwise nat_eq c.in-Some.word.now c.in-Some-split_first_chunk.other.now) c.ne.ensures c.if-ne.true told),
    )

pub words-preserved : goal.words-preserved
words-preserved c =
    let i = c.words.invariant in
    let one = c.in-Some.ensures.cases in
    let two = c.in-Some-split_first_chunk.ensures.cases in
    let equal = turned c.ne.result (pointwise nat_eq c.in-Some.word.now c.in-Some-split_first_chunk.other.now) c.ne.ensures c.if-ne.false in
    let front = (bytes_decides c.in-Some.word.now c.in-Some-split_first_chunk.other.now).0 equal in (
      i.0 ++ c.in-Some.word.now,
      more c.args.first.now i.0 c.words.left.now c.in-Some.word.now c.in-Some.rest.now i.1 (sym one.0) one.1,
      more c.args.second.now i.0 c.words.right.now c.in-Some.word.now c.in-Some-split_first_chunk.other_rest.now i.2 (sym two.0 ∙ sym front) two.1,
    )
