use Rattle.std.proofs.Common.{◌≡◌, ◌+◌, List, [], ◌∷◌, ◌++◌, map, refl, ap, ◌∙◌}
use Rattle.std.proofs.lemmas.List.{map-append}
use Rattle.si_model.specs.Replies.{found_item, item_of}
use Rattle.si_model.specs.declared.scans.ScanItem.{ScanItem}
use Rattle.txn_client.proofs.GatheredItems.{last_item, limits_more}
use Rattle.txn_client.proofs.scan.Gathered.name.Goals as goal

named_more : (old new : List ScanItem) (item : ScanItem) → new ≡ old ++ (item ∷ []) → map item_of new ≡ map item_of old ++ (item_of item ∷ [])
named_more old new item is = ap (map item_of) is ∙ map-append item_of old (item ∷ [])

pub returns-clause-named : goal.returns-clause-named
returns-clause-named c =
    let items = named_more _ _ (record { cell = c.args.cell; found = c.args.found }) c.in_ok-push.ensures.items in
    (items, refl, last_item _ _ c.args.cell (found_item c.args.found) items)

pub returns-clause-limits : goal.returns-clause-limits
returns-clause-limits c =
    let items = named_more _ _ (record { cell = c.args.cell; found = c.args.found }) c.in_ok-push.ensures.items in
    limits_more c.args.self.now _ c.args.cell (found_item c.args.found) c.requires.limits c.item_bytes.ensures.named c.requires.room items
    (ap (λ n. c.args.self.now.bytes + n) c.item_bytes.ensures.bytes) c.if-bytes-gt-MOST_BYTES.false refl refl (last_item _ _ c.args.cell (found_item c.args.found) items)
