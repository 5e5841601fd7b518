use Rattle.std.proofs.Common.{◌++◌, ◌≢◌, [], List, ℕ, take, ap, ◌∙◌, sym, arith, rules}
use Rattle.std.proofs.lemmas.List.{take-append-drop}
use Rattle.tablet_audit.proofs.FirstFrames.{frame_from_parts, partial, too_long}
use Rattle.tablet_audit.proofs.frames.first_frame.Goals as goal

pub returns-then-length-most-clause-err : goal.returns-then-length-most-clause-err
returns-then-length-most-clause-err c =
    too_long c.args.most c.args.bytes.now c.in-Some.header.now c.length_in-length.result (sym c.in-Some.ensures.cases.0) c.length_in-length.ensures.value
    (omega (arith, c.in-Some.ensures.cases.2)) c.if-length-most.true

pub returns-in_default-split_at_checked-clause-err : goal.returns-in_default-split_at_checked-clause-err
returns-in_default-split_at_checked-clause-err c =
    let some : c.args.bytes.now ≢ [] = search rules in (
      some,
      partial c.args.most c.args.bytes.now c.in-Some.header.now c.length_in-length.result (sym c.in-Some.ensures.cases.0) c.length_in-length.ensures.value c.if-length-most.false
          (omega (arith, c.in_default-split_at_checked.ensures.cases, c.in-Some.ensures.cases.2)),
    )

pub returns-clause-ok : goal.returns-clause-ok
returns-clause-ok c =
    let (fits, front, back, size, _) = c.in-Some-split_at_checked.ensures.cases in
    let n = c.length_in-length.result in
    let after = c.in-Some.after.now in
    let parts = ap (λ (l : List ℕ). l ++ c.in-Some-split_at_checked.rest.now) front ∙ ap (λ (l : List ℕ). take n after ++ l) back ∙ take-append-drop n after in (
      omega (arith, size, c.if-length-most.false),
      frame_from_parts _ _ _ _ _ n (sym c.in-Some.ensures.cases.0) c.length_in-length.ensures.spells c.in-Some.ensures.cases.1 size parts,
    )
