use Rattle.std.proofs.Common.{◌∙◌, ap, List, map, Contains, sym, subst}
use Rattle.std.specs.Prelude.{All}
use Rattle.sorted_file.specs.LockIndexes.{HasRow, stamp_of}
use Rattle.sorted_file.specs.declared.lock_stamps.LockStamp.{LockStamp}
use Rattle.sorted_file.proofs.lock_index.LockIndex.of_values.Goals as goal

pub invariant_of-result : goal.invariant_of-result
invariant_of-result c =
    let made = c.in_ok-stamps_of.ensures.stamps ∙ ap (map stamp_of) c.deref.ensures.value in (
      λ stamp there. c.new-stamps.ensures.keeps stamp (subst (λ (l : List LockStamp). Contains l stamp) (sym made) there),
      λ stamp there. subst (λ (l : List LockStamp). Contains l stamp) made (c.new-stamps.ensures.only stamp there),
      subst (All (HasRow c.in_ok-rows.rows.words.items)) c.deref-2.ensures.value c.in_ok-rows.ensures.rows,
    )
