use Rattle.std.proofs.Common.{List, Option, ap, ◌∙◌, arith}
use Rattle.si_model.specs.Transactions.{told_lengths}
use Rattle.si_model.specs.declared.scans.ScanFound.{ScanFound}
use Rattle.si_model.specs.Answers.{told_items}
use Rattle.request_codec.proofs.OneAnswer.{length-reads}
use Rattle.request_codec.proofs.write_told.read_length.Goals as goal

pub returns : goal.returns
returns c =
    omega (
      arith,
      c.told_length.ensures ∙ ap (λ (xs : List (Option ScanFound)). told_lengths (told_items xs)) c.deref.ensures.value,
      length-reads c.args.reply.now.start (told_items c.args.reply.now.found.items),
    )
