use Rattle.std.proofs.Common.{map, arith}
use Rattle.std.proofs.lemmas.List.{length-map}
use Rattle.si_model.specs.Replies.{item_of}
use Rattle.request_codec.proofs.Scans.{few_items}
use Rattle.request_codec.proofs.write_scans.push_scanned.Goals as goal

pub overflow_cast-len : goal.overflow_cast-len
overflow_cast-len c =
    let items = c.args.reply.now.items.items in
    let few = c.requires.fits.bytes in
    omega (arith, few, few_items (map item_of items), length-map items item_of, c.len.ensures)
