use Rattle.std.proofs.Common.{◌≡◌, ◌-◌, ◌≤◌, ◌<◌, ◌++◌, List, ℕ, length, drop, sym, ap, ◌∙◌, arith}
use Rattle.std.proofs.lemmas.List.{append_cancel_left, drop-append-le, length-append}
use Rattle.std.specs.Cmp.Lexicographic.{bytes_decides}
use Rattle.cell_key.proofs.text_order.are_ends_same.Goals as goal

-- the last eight bytes decide, if fewer are left behind a common front
ends_decide : (first second both left right end other : List ℕ) → length first ≡ length second → length left < 8 → first ≡ both ++ left → second ≡ both ++ right
    → end ≡ drop (length first - 8) first → other ≡ drop (length second - 8) second → end ≡ other → first ≡ second
ends_decide first second both left right end other long few is is' last last' same =
    let len = ap length is ∙ length-append both left in
    let within : length first - 8 ≤ length both = omega (arith, len, few) in
    let one = last ∙ ap (drop (length first - 8)) is ∙ drop-append-le (length first - 8) both left within in
    let two = last' ∙ ap (λ (n : ℕ). drop (n - 8) second) (sym long) ∙ ap (drop (length first - 8)) is' ∙ drop-append-le (length first - 8) both right within in
    is ∙ ap (λ (t : List ℕ). both ++ t) (append_cancel_left (drop (length first - 8) both) left right (sym one ∙ same ∙ two)) ∙ sym is'

pub returns-in-Some-split_last_chunk : goal.returns-in-Some-split_last_chunk
returns-in-Some-split_last_chunk c =
    let r = c.requires in
    let first = c.args.first.now in
    let second = c.args.second.now in
    let end = c.in-Some.end.now in
    let other = c.in-Some-split_last_chunk.other.now in
    let last = c.in-Some.ensures.cases.1 in
    let last' = c.in-Some-split_last_chunk.ensures.cases.1 in
    let test = bytes_decides end other in (
      λ told. ends_decide first second r.both.0 c.args.left.now c.args.right.now end other r.long r.few r.both.1 r.both.2 last last' (test.0 (sym c.eq.ensures ∙ told)),
      λ same. c.eq.ensures ∙ test.1 (last ∙ ap (λ (t : List ℕ). drop (length t - 8) t) same ∙ sym last'),
    )

pub returns : goal.returns
returns c =
    let r = c.requires in
    let test = bytes_decides c.args.left.now c.args.right.now in (
      λ told. r.both.1 ∙ ap (λ (t : List ℕ). r.both.0 ++ t) (test.0 (sym c.eq-2.ensures ∙ told)) ∙ sym r.both.2,
      λ same. c.eq-2.ensures ∙ test.1 (append_cancel_left r.both.0 c.args.left.now c.args.right.now (sym r.both.1 ∙ same ∙ r.both.2)),
    )
