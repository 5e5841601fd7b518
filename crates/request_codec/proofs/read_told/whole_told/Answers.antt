use Rattle.std.proofs.Common.{rules, length, ap, ◌∙◌, sym, arith}
use Rattle.std.specs.List.{flat_map}
use Rattle.request_codec.specs.Answers.{told_fields, AreTold}
use Rattle.request_codec.proofs.Fields.{past_number, same_number, if_none}
use Rattle.request_codec.proofs.Told.{length-all_told}
use Rattle.request_codec.proofs.read_told.whole_told.Goals as goal
use Rattle.request_codec.proofs.read_told.whole_told.Goals.{else-count-le-MOST_READ-via-then-count-le-MOST_READ+then-rest-le-MOST_TOLD_BYTES+else-are_told, else-count-le-MOST_READ-via-then-count-le-MOST_READ+else-rest-le-MOST_TOLD_BYTES, else-count-le-MOST_READ-via-else-count-le-MOST_READ}

pub returns-in_err-count-clause-none : goal.returns-in_err-count-clause-none
returns-in_err-count-clause-none c =
    if_none c.from_residual-in_err-count.result (λ start said fit limits e.
    c.in_err-count.ensures.none (length said) (flat_map told_fields said) (past_number 8 c.in_ok-start.start start _ _ (sym c.in_ok-start.ensures.found ∙ e)))

pub returns-else-count-le-MOST_READ-clause-none :
    goal.returns-else-count-le-MOST_READ-clause-none
returns-else-count-le-MOST_READ-clause-none c = λ start said fit limits e.
    let few = limits.0 in
    let short = limits.1 in
    let behind = past_number 8 c.in_ok-start.start start _ _ (sym c.in_ok-start.ensures.found ∙ e) in
    let found = c.in_ok-count.ensures in
    let count = same_number 4 c.in_ok-count.count (length said) _ _ found.fits (omega (arith, few)) (sym found.found ∙ behind) in
    let rest = past_number 4 c.in_ok-count.count (length said) _ _ (sym found.found ∙ behind) in
    let are : AreTold c.in_ok-count.count c.take_u32.new.rest.now = record { parts = said; many = sym count; all_fit = fit; whole = rest } in
    elim c.else-count-le-MOST_READ.branch [
      | else-count-le-MOST_READ-via-then-count-le-MOST_READ+then-rest-le-MOST_TOLD_BYTES+else-are_told w ↦
          let no : ¬ AreTold c.in_ok-count.count c.take_u32.new.rest.now = search rules in
          no are
      | else-count-le-MOST_READ-via-then-count-le-MOST_READ+else-rest-le-MOST_TOLD_BYTES w ↦ omega (arith, w.if-rest-le-MOST_TOLD_BYTES.false, short, length-all_told said, ap length rest)
      | else-count-le-MOST_READ-via-else-count-le-MOST_READ w ↦ omega (arith, w.if-count-le-MOST_READ.false, few, count)
    ]
