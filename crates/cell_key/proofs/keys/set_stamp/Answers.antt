use Rattle.std.proofs.Common.{◌≡◌, ◌<◌, ◌++◌, List, ℕ, length, refl, ap, sym, ◌∙◌, arith}
use Rattle.std.proofs.lemmas.List.{length-append}
use Rattle.cell_key.specs.Keys.{text}
use Rattle.cell_key.specs.Texts.{stamp_text}
use Rattle.cell_key.specs.declared.keys.CellKey.{CellKey}
use Rattle.cell_key.proofs.ColumnTexts.{before_stamp, column_text, with_stamp}
use Rattle.cell_key.proofs.keys.set_stamp.Goals as goal

-- no key's text is shorter than the text of its stamp
long : (bytes : List ℕ) (key : CellKey) → bytes ≡ text key → length bytes < 8 → ⊥
long bytes key is short =
    let lens = ap length (is ∙ sym (with_stamp key key.stamp)) in
    let parts = length-append (column_text key) (stamp_text key.stamp) in
    let stamp : length (stamp_text key.stamp) ≡ 8 = refl in
    omega (arith, lens, stamp, parts, short)

pub returns-then-len-ge8 : goal.returns-then-len-ge8
returns-then-len-ge8 c = λ key is.
    let len = c.len-len.ensures in
    c.push_bytes.ensures.items
    ∙ ap (λ (t : List ℕ). t ++ c.stamp_text-falling.result) (c.truncate.ensures.items ∙ before_stamp c.args.bytes.now.items key c.len-len.result (omega (arith, len)) is)
    ∙ ap (λ (t : List ℕ). column_text key ++ t) c.stamp_text-falling.ensures
    ∙ with_stamp key c.args.stamp

pub returns-else-len-ge8 : goal.returns-else-len-ge8
returns-else-len-ge8 c = λ key is.
    let len = c.len-len.ensures in
    let short = c.if-len-ge8.false in
    absurd (long c.args.bytes.now.items key is (omega (arith, len, short)))
