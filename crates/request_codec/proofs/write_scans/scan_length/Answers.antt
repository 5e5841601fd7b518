use Rattle.std.proofs.Common.{List, ◌++◌, ap, ◌∙◌, map, length, length-append, arith}
use Rattle.si_model.specs.Replies.{item_of, reach_of}
use Rattle.si_model.specs.Scans.{items_length}
use Rattle.si_model.specs.declared.scans.ScanItem.{ScanItem}
use Rattle.request_codec.specs.Fields.{number}
use Rattle.request_codec.specs.Scans.{reach_fields, items_fields}
use Rattle.request_codec.proofs.Fields.{length-number}
use Rattle.request_codec.proofs.Scans.{length-items}
use Rattle.request_codec.proofs.write_scans.scan_length.Goals as goal

pub returns : goal.returns
returns c =
    let items = map item_of c.args.reply.now.items.items in
    let reach = reach_fields (reach_of c.args.reply.now.reach) in
    omega (
      arith,
      c.reach_length.ensures.length,
      c.items_length.ensures ∙ ap (λ (xs : List ScanItem). items_length (map item_of xs)) c.deref.ensures.value,
      length-items items,
      length-append reach (number 4 (length items) ++ items_fields items),
      length-append (number 4 (length items)) (items_fields items),
      length-number 4 (length items),
    )
