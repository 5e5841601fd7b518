-- Each file stays the same.
use Rattle.std.proofs.Common.{◌<◌, length, refl, arith}
use Rattle.tablet.proofs.SameFiles.{same_files, same_set}
use Rattle.tablet.proofs.open_files.resize_each.Goals as goal

pub loop-file-init : goal.loop-file-init
loop-file-init c = record { same = λ told. same_files told c.args.files.now }

pub loop-file-preserved : goal.loop-file-preserved
loop-file-preserved c =
    let below : c.loop-file.file-index < length c.loop-file.files = omega arith in
    record { same = λ told. same_set told told refl c.args.files.now c.loop-file.files c.loop-file.file-index c.file-item.result below (c.loop-file.invariant.same told) c.resize_cache.new.self (c.resize_cache.ensures.stays told) }

pub returns : goal.returns
returns c = c.loop-file.invariant.same
