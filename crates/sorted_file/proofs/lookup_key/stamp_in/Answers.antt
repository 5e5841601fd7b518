use Rattle.std.proofs.Common.{sym, ◌∙◌, refl}
use Rattle.sorted_file.proofs.Fronts.{has_stamp, if_some, not_false, same_front}
use Rattle.sorted_file.proofs.lookup_key.stamp_in.Goals as goal

pub returns-then-are_same-clause-some : goal.returns-then-are_same-clause-some
returns-then-are_same-clause-some c =
    if_some c.stamp_of.result _ _
    (λ s ends key is. has_stamp c.args.column.now c.args.bytes.now key is (sym c.split_at.ensures.front ∙ c.if-are_same.ensures.0 refl ∙ c.split_at-2.ensures.front) s (sym c.split_at.ensures.back ∙ ends)) c.stamp_of.ensures.some

pub returns-else-are_same-clause-none : goal.returns-else-are_same-clause-none
returns-else-are_same-clause-none c = λ key is s e.
    let same = same_front c.args.column.now c.args.bytes.now key is s e in
    not_false (c.if-are_same.ensures.1 (c.split_at.ensures.front ∙ same ∙ sym c.split_at-2.ensures.front))
