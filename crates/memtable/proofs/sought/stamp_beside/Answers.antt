use Rattle.std.proofs.Common.{◌≡◌, true, false, refl, sym, ◌∙◌}
use Rattle.memtable.proofs.Versions.{if_some, one_front, same_front}
use Rattle.memtable.proofs.sought.stamp_beside.Goals as goal

pub returns-then-are_same-clause-some : goal.returns-then-are_same-clause-some
returns-then-are_same-clause-some c =
    let same = sym c.split_at.ensures.front ∙ c.if-are_same.ensures.0 refl ∙ c.split_at-2.ensures.front in
    if_some c.stamp_of.result _ _ (λ s e front other first. same_front c.args.text.now c.args.bytes.now front other s first same (sym c.split_at-2.ensures.back ∙ e)) c.stamp_of.ensures.some

pub returns-else-are_same-clause-none : goal.returns-else-are_same-clause-none
returns-else-are_same-clause-none c = λ front other stamp first second.
    let same = c.split_at.ensures.front ∙ one_front c.args.text.now c.args.bytes.now front other stamp first second ∙ sym c.split_at-2.ensures.front in
    let both : true ≡ false = sym (c.if-are_same.ensures.1 same) in
    cc
