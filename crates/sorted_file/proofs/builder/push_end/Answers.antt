use Rattle.std.proofs.Common.{◌≡◌, ◌++◌, ℕ, List, length, refl, sym, ap, subst, ◌∙◌, arith, append_assoc, length-append}
use Rattle.std.specs.Prelude.{flat_map}
use Rattle.std.specs.List.{AllByRecursion}
use Rattle.sorted_file.specs.Builder.{row_spelled, HasShortText}
use Rattle.sorted_file.specs.Grammar.{body, head}
use Rattle.sorted_file.specs.Index.{blocks_of}
use Rattle.sorted_file.specs.declared.block.BlockRow.{BlockRow}
use Rattle.sorted_file.specs.declared.format.Format.TheVariants.{Two}
use Rattle.sorted_file.proofs.BuiltImages.{is_formed, rows_index, short_texts, too_long}
use Rattle.sorted_file.proofs.Results.{on_ok}
use Rattle.sorted_file.proofs.Widths.{head_length}
use Rattle.sorted_file.proofs.builder.push_end.Goals as goal

pub push_index-requires : goal.push_index-requires
push_index-requires c =
    let o = c.requires.opening in
    subst (AllByRecursion HasShortText) (sym c.deref.ensures.value) (short_texts 8 c.args.opening.now.rows.items o.rows_are o.grammar o.list.each)

pub returns-then-size-opening-clause-large : goal.returns-then-size-opening-clause-large
returns-then-size-opening-clause-large c = λ err fits.
    let o = c.requires.opening in
    let rows = c.args.opening.now.rows.items in
    let blocks = blocks_of rows in
    let whole = head Two ++ body blocks in
    let spelled = ap (λ (l : List BlockRow). flat_map row_spelled l) c.deref.ensures.value in
    let out = ap length (c.in_ok-push_index.ensures.ok ∙ ap (λ (l : List ℕ). c.args.out.now.items ++ l) spelled) ∙ length-append c.args.out.now.items (flat_map row_spelled rows) in
    let size = length-append (head Two) (body blocks) in
    let eight = head_length Two in
    let reached = o.reached in
    too_long c.args.opening.now o c.requires.format whole (flat_map row_spelled rows) refl (rows_index 8 rows o.rows_are o.grammar) c.args.opening.now.size
    (omega (arith, out, size, eight, reached, c.if-size-opening.true, c.len-rows_at.ensures, c.args.out.now.ok.0, c.len.ensures, c.push_index.new.out.ok.0, c.foot_len-foot_len.ensures)) fits

pub returns-clause-formed : goal.returns-clause-formed
returns-clause-formed c = on_ok c.push_foot.result _ _ (λ foot pushed before.
    let o = c.requires.opening in
    let opening = c.args.opening.now in
    let rows = opening.rows.items in
    let blocks = blocks_of rows in
    let old = c.args.out.now.items in
    let all = flat_map row_spelled rows in
    let out : c.push_index.new.out.items ≡ old ++ all = c.in_ok-push_index.ensures.ok ∙ ap (λ (l : List BlockRow). old ++ flat_map row_spelled l) c.deref.ensures.value in
    let joined : pushed ++ c.push_index.new.out.items ≡ (pushed ++ old) ++ all = ap (λ (l : List ℕ). pushed ++ l) out ∙ sym (append_assoc pushed old all) in
    let len = ap length out ∙ length-append old all in
    let whole = ap length before ∙ length-append (head Two) (body blocks) in
    let eight = head_length Two in
    let reached = o.reached in
    let made = ap (λ (l : List ℕ). pushed ++ l) foot ∙ sym (append_assoc pushed c.push_index.new.out.items _) in
    let counted = c.len-2.ensures ∙ opening.rows.ok.0 in
    let indexed = rows_index 8 rows o.rows_are o.grammar in
    is_formed opening o c.requires.format (pushed ++ old) all before indexed (pushed ++ c.push_index.new.out.items) (pushed ++ c.push_foot.new.out.items) c.len-2.result _ joined counted
    (omega (arith, len, whole, eight, reached, c.len-rows_at.ensures, c.args.out.now.ok.0, c.len.ensures, c.push_index.new.out.ok.0, c.foot_len-foot_len.ensures))
    (omega (arith, c.if-size-opening.false, len, whole, eight, reached, c.len-rows_at.ensures, c.args.out.now.ok.0, c.len.ensures, c.push_index.new.out.ok.0, c.foot_len-foot_len.ensures))
    made) c.push_foot.ensures.ok
