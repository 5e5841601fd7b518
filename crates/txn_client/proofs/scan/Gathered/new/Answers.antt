use Rattle.std.proofs.Common.{◌≡◌, List, [], map, Option, Some, None, option_map, refl, sym, ap, subst}
use Rattle.std.specs.List.{last_or}
use Rattle.std.specs.Option.{option_or}
use Rattle.si_model.specs.Machine.{Item}
use Rattle.si_model.specs.Replies.{item_of}
use Rattle.si_model.specs.declared.replies.Cell.{Cell}
use Rattle.txn_client.specs.Gathering.{HasGathered}
use Rattle.txn_client.specs.Ranges.{range_named}
use Rattle.txn_client.proofs.Scanned.{gathers_none}
use Rattle.txn_client.proofs.scan.Gathered.new.Goals.{in-Some+in_ok-copy_of-in-Some, in-None}
use Rattle.txn_client.proofs.scan.Gathered.new.Goals as goal

or_none : (o : Option Cell) → option_or o None ≡ o
or_none None = refl
or_none (Some x) = refl

-- the last cell, if this one was skipped
abbrev last_after : Option Cell → List (Cell × Item) → Option Cell
last_after passed items = option_or passed (option_map (λ item. item.0) (last_or None items))

pub returns-clause-none : goal.returns-clause-none
returns-clause-none c = λ cells.
    let scan = c.args.scan.now in
    let range = range_named scan.range in
    let empty : map item_of c.in_ok-items.items.items ≡ [] = ap (map item_of) c.in_ok-items.ensures.items in
    let passed : range.after ≡ c.match-scan.passed = elim c.match-scan.branch [
      | in-Some+in_ok-copy_of-in-Some w ↦ let copy = w.in_ok-copy_of-in-Some.ensures.copy in let is = w.in-Some.is in let set = w.passed-is in cc
      | in-None w ↦ let is = w.in-None.is in let set = w.passed-is in cc
    ] in
    subst (λ (o : Option Cell). HasGathered cells scan.start range scan.keys_only (map item_of c.in_ok-items.items.items) 0 (last_after o (map item_of c.in_ok-items.items.items))) passed
    (subst (λ (is : List (Cell × Item)). HasGathered cells scan.start range scan.keys_only is 0 (last_after range.after is)) (sym empty)
    (rw (or_none range.after) (gathers_none cells scan.start range scan.keys_only)))
