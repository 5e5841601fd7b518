use Rattle.std.proofs.Common.{sym, ◌∙◌}
use Rattle.memtable.proofs.Versions.{if_none, if_some, in_parts}
use Rattle.memtable.proofs.sought.Version.stamp_in.Goals as goal

pub returns-clause-some : goal.returns-clause-some
returns-clause-some c =
    let v = c.args.self in
    let own = c.as_slice.ensures ∙ c.requires in
    if_some c.stamp_beside.result _ _ (λ s f. f _ v.stamp (own ∙ sym (in_parts v v.stamp)) ∙ in_parts v s) c.stamp_beside.ensures.some

pub returns-clause-none : goal.returns-clause-none
returns-clause-none c =
    let v = c.args.self in
    let own = c.as_slice.ensures ∙ c.requires in
    if_none c.stamp_beside.result (λ f s small e. f _ v.stamp s (own ∙ sym (in_parts v v.stamp)) (e ∙ sym (in_parts v s))) c.stamp_beside.ensures.none
