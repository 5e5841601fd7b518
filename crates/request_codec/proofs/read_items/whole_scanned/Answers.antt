use Rattle.std.proofs.Common.{rules, ◌∙◌, sym, ap, length, arith}
use Rattle.request_codec.specs.Scans.{items_fields, AreItems}
use Rattle.request_codec.proofs.Fields.{if_none, same_number, past_number}
use Rattle.request_codec.proofs.Scans.{same_reach, few_items, length-items}
use Rattle.request_codec.proofs.read_items.whole_scanned.Goals as goal
use Rattle.request_codec.proofs.read_items.whole_scanned.Goals.{else-rest-le-MOST_ITEM_BYTES-via-then-rest-le-MOST_ITEM_BYTES+else-are_items, else-rest-le-MOST_ITEM_BYTES-via-else-rest-le-MOST_ITEM_BYTES}

pub returns-in_err-count-clause-none : goal.returns-in_err-count-clause-none
returns-in_err-count-clause-none c =
    if_none c.from_residual-in_err-count.result (λ items reach fit scan e.
    c.in_err-count.ensures.none (length items) (items_fields items)
    (same_reach _ reach _ _ c.in_ok-reach.ensures.named scan.reached (sym c.in_ok-reach.ensures.found ∙ e)).1)

pub returns-else-rest-le-MOST_ITEM_BYTES-clause-none :
    goal.returns-else-rest-le-MOST_ITEM_BYTES-clause-none
returns-else-rest-le-MOST_ITEM_BYTES-clause-none c = λ items reach fit scan e.
    let few = scan.bytes in
    let behind = (same_reach _ reach _ _ c.in_ok-reach.ensures.named scan.reached (sym c.in_ok-reach.ensures.found ∙ e)).1 in
    let found = c.in_ok-count.ensures in
    let count = same_number 4 c.in_ok-count.count (length items) _ _ found.fits (omega (arith, few, few_items items)) (sym found.found ∙ behind) in
    let rest = past_number 4 c.in_ok-count.count (length items) _ _ (sym found.found ∙ behind) in
    let are : AreItems c.in_ok-count.count c.take_u32.new.rest.now = record { items = items; many = sym count; fit = fit; whole = rest } in
    elim c.else-rest-le-MOST_ITEM_BYTES.branch [
      | else-rest-le-MOST_ITEM_BYTES-via-then-rest-le-MOST_ITEM_BYTES+else-are_items w ↦
          let no : ¬ AreItems c.in_ok-count.count c.take_u32.new.rest.now = search rules in
          no are
      | else-rest-le-MOST_ITEM_BYTES-via-else-rest-le-MOST_ITEM_BYTES w ↦ omega (arith, w.if-rest-le-MOST_ITEM_BYTES.false, few, length-items items, ap length rest)
    ]
