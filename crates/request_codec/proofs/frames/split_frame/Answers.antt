use Rattle.std.proofs.Common.{◌++◌, List, ℕ, inl, inr, take, ap, ◌∙◌, sym, arith}
use Rattle.std.proofs.lemmas.List.{take-append-drop}
use Rattle.request_codec.proofs.FirstFrames.{BeginsNoFrame-from_header, frame-from_parts}
use Rattle.request_codec.proofs.frames.split_frame.Goals as goal

pub returns-then-len-gt-LONGEST_BODY-clause-none :
    goal.returns-then-len-gt-LONGEST_BODY-clause-none
returns-then-len-gt-LONGEST_BODY-clause-none c =
    BeginsNoFrame-from_header _ _ _ (sym c.in_ok-header.ensures.cases.0) c.length_in-len.ensures.value (inl c.if-len-gt-LONGEST_BODY.true)

pub returns-in_err-body-clause-none : goal.returns-in_err-body-clause-none
returns-in_err-body-clause-none c = rw c.from_residual-in_err-body.ensures
    (BeginsNoFrame-from_header _ _ _ (sym c.in_ok-header.ensures.cases.0) c.length_in-len.ensures.value
    (inr (omega (arith, c.in_err-body.ensures.cases, c.in_ok-header.ensures.cases.2))))

pub returns-clause-some : goal.returns-clause-some
returns-clause-some c =
    let (fits, front, back, size, _) = c.in_ok-body.ensures.cases in
    let n = c.length_in-len.result in
    let parts = ap (λ (l : List ℕ). l ++ c.in_ok-body.rest.now) front ∙ ap (λ (l : List ℕ). take n c.in_ok-header.after.now ++ l) back ∙ take-append-drop n c.in_ok-header.after.now in (
      omega (arith, size, c.if-len-gt-LONGEST_BODY.false),
      frame-from_parts _ _ _ _ _ n (sym c.in_ok-header.ensures.cases.0) c.length_in-len.ensures.spells c.in_ok-header.ensures.cases.1 size parts,
    )
