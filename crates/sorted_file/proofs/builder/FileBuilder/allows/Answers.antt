use Rattle.std.proofs.Common.{◌+◌, ◌<◌, arith}
use Rattle.std.proofs.lemmas.Bool.Decides.{nat_tests}
use Rattle.cell_key.specs.Entries.{lent_entry}
use Rattle.sorted_file.specs.Builder.{built}
use Rattle.sorted_file.proofs.BuiltFiles.{no_room, reached}
use Rattle.sorted_file.proofs.builder.FileBuilder.allows.Goals as goal

pub returns-clause-large : goal.returns-clause-large
returns-clause-large c = λ no es.
    let b = c.args.self.now in
    let r = reached b c.requires.sound in
    let h : b.opening.size < b.opening.end + c.len.result + c.spelled_len.result = grind (arith, nat_tests) in
    no_room (built b) es (lent_entry c.args.entry) b.opening.size (omega (arith, h, r, c.len.ensures, b.current.block.bytes.ok.0, c.spelled_len.ensures))
