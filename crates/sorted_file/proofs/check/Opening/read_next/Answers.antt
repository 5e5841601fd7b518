use Rattle.std.proofs.Common.{rules, ℕ, List, refl, sym, ap, subst, ◌∙◌, arith}
use Rattle.file_store.specs.Store.{part}
use Rattle.cell_key.specs.Entries.{Entry}
use Rattle.sorted_file.specs.Block.{entries_of}
use Rattle.sorted_file.specs.Index.{blocks_of, Tells}
use Rattle.sorted_file.specs.Check.{IsFramed, IsNext, IsRead}
use Rattle.sorted_file.specs.declared.format.Format.{Format}
use Rattle.sorted_file.proofs.NextBlocks.{next_block, row_there, block_there, block_next, reads_on}
use Rattle.sorted_file.proofs.EntryParts.{no_file_in}
use Rattle.cell_key.proofs.Passed.{passed_on}
use Rattle.sorted_file.proofs.check.Opening.read_next.Goals as goal

pub returns-in_default-clause-damaged : goal.returns-in_default-clause-damaged
returns-in_default-clause-damaged g c = λ is image all end reading more. no_file_in c.args.self.now.format image reading.framed.named (λ es list f.
    row_there c.args.self.now image c.args.left.now (next_block c.args.self.now c.requires _ image all end c.args.left.now reading more es list f) f.small c.in_default.ensures.none)

pub returns-in_err-read-clause-damaged : goal.returns-in_err-read-clause-damaged
returns-in_err-read-clause-damaged g c = λ is image all end reading more. no_file_in c.args.self.now.format image reading.framed.named (λ es list f.
    let next = next_block c.args.self.now c.requires _ image all end c.args.left.now reading more es list f in
    let damaged = c.in_err-read.ensures.damaged (passed_on c.from_residual.result _ c.in_err-read.field-0.0 _ c.from_residual.ensures.1 refl is) image reading.tells reading.size in
    let within = c.requires.within in
    let size = reading.size in
    block_there c.args.self.now image c.args.left.now next f.small c.in-Some.row c.in-Some.rest.now c.in-Some.ensures.offset c.in-Some.ensures.length c.in-Some.ensures.first
    (omega (arith, within, size)) c.in-Some.ensures.found damaged)

pub returns-then-not-accepts-clause-damaged : goal.returns-then-not-accepts-clause-damaged
returns-then-not-accepts-clause-damaged g c = λ is image all end reading more. no_file_in c.args.self.now.format image reading.framed.named (λ es list f.
    let next = next_block c.args.self.now c.requires _ image all end c.args.left.now reading more es list f in
    let not : ¬ IsNext c.args.self.now c.in-Some.row (entries_of c.in_ok-read.read.block) = search rules in
    let within = c.requires.within in
    let size = reading.size in
    not (block_next c.args.self.now image c.args.left.now next f.small c.in-Some.row c.in-Some.rest.now c.in-Some.ensures.offset c.in-Some.ensures.length c.in-Some.ensures.first
    (omega (arith, within, size)) c.in-Some.ensures.found (entries_of c.in_ok-read.read.block)
    (c.in_ok-read.ensures.read image reading.tells)))

pub returns-clause-read : goal.returns-clause-read
returns-clause-read g c = λ image all end reading.
    let es = entries_of c.in_ok-read.read.block in
    let row = c.in-Some.row in
    let next : IsNext c.args.self.now row es = c.accepts.ensures.0 c.if-not-accepts.false in
    let reached = c.requires.reached in
    let read = reads_on c.args.self.now.format image all c.args.left.now c.in-Some.rest.now (blocks_of c.args.self.now.rows.items) es row reading.read c.in-Some.ensures.found (next.offset ∙ reached) (sym c.in_ok-read.ensures.length) next.first c.in_ok-read.ensures.fits
    (ap (λ (n : ℕ). part image n row.length) (sym reached) ∙ c.in_ok-read.ensures.read image reading.tells) in
    record {
      tells = subst (λ (n : ℕ). Tells (g.F.Files.contents c.args.files.now) n image) (sym c.in_ok-add.ensures.name) reading.tells;
      size = reading.size ∙ sym c.in_ok-add.ensures.size;
      framed = subst (λ (f : Format). IsFramed f image all end) (sym c.in_ok-add.ensures.format) reading.framed;
      read = subst (λ (f : Format). IsRead f image all (blocks_of c.add.new.self.rows.items) c.in-Some.rest.now) (sym c.in_ok-add.ensures.format)
          (subst (λ (b : List (List Entry)). IsRead c.args.self.now.format image all b c.in-Some.rest.now) (sym c.in_ok-add.ensures.rows) read);
    }
