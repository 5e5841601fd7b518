use Rattle.std.proofs.Common.{List, ℕ, refl, sym, subst, ◌∙◌, Option}
use Rattle.file_store.specs.Store.{Contents}
use Rattle.sorted_file.specs.Check.{IsFramed, IsReading}
use Rattle.sorted_file.specs.Index.{Tells}
use Rattle.sorted_file.specs.declared.format.Format.{Format}
use Rattle.cell_key.proofs.Passed.{passed_on}
use Rattle.sorted_file.proofs.EntryParts.{no_file_in}
use Rattle.sorted_file.proofs.WholeFiles.{foot_there, formed, no_file, start_reading, whole_file}
use Rattle.sorted_file.proofs.check.read_file.Goals as goal

pub returns-in_err-size-clause-damaged : goal.returns-in_err-size-clause-damaged
returns-in_err-size-clause-damaged g c = λ is.
    no_file _ c.args.name (c.in_err-size.ensures.damaged (passed_on c.from_residual.result _ c.in_err-size.field-0.0 _ c.from_residual.ensures.1 refl is))

pub returns-in_err-format-clause-damaged : goal.returns-in_err-format-clause-damaged
returns-in_err-format-clause-damaged g c = λ is.
    no_file _ c.args.name (λ image tells.
    let still = subst (λ (told : Option Contents). Tells told c.args.name image) (sym c.in_ok-size.ensures.reads.same) tells in
    c.in_err-format.ensures.damaged (passed_on c.from_residual-in_err-format.result _ c.in_err-format.field-0.0 _ c.from_residual-in_err-format.ensures.1 refl is) image still (c.in_ok-size.ensures.size image tells))

pub returns-in_err-index-clause-damaged : goal.returns-in_err-index-clause-damaged
returns-in_err-index-clause-damaged g c = λ is.
    no_file _ c.args.name (λ image tells.
    let still = subst (λ (told : Option Contents). Tells told c.args.name image) (sym c.in_ok-size.ensures.reads.same) tells in
    let later = subst (λ (told : Option Contents). Tells told c.args.name image) (sym c.in_ok-format.ensures.reads.same) still in
    c.in_err-index.ensures.damaged (passed_on c.from_residual-in_err-index.result _ c.in_err-index.field-0.0 _ c.from_residual-in_err-index.ensures.1 refl is) image later (c.in_ok-size.ensures.size image tells)
    (c.in_ok-format.ensures.head image still))

pub returns-in_err-read_blocks-clause-damaged : goal.returns-in_err-read_blocks-clause-damaged
returns-in_err-read_blocks-clause-damaged g c = λ is.
    no_file _ c.args.name (λ image tells.
    let size = c.in_ok-size.ensures.size image tells in
    let still = subst (λ (told : Option Contents). Tells told c.args.name image) (sym c.in_ok-size.ensures.reads.same) tells in
    let then = subst (λ (told : Option Contents). Tells told c.args.name image) (sym c.in_ok-format.ensures.reads.same) still in
    let later = subst (λ (told : Option Contents). Tells told c.args.name image) (sym c.in_ok-index.ensures.reads.same) then in
    let framed = subst (λ (f : Format). IsFramed f image c.in_ok-index.index.items c.in_ok-index.end.items) (sym c.new-opening.ensures.format) (c.in_ok-index.ensures.framed image then size (c.in_ok-format.ensures.head image still)) in
    let start = start_reading c.new-opening.result _ c.args.name image c.in_ok-index.index.items c.in_ok-index.end.items c.new-opening.ensures.name c.new-opening.ensures.rows later (size ∙ sym c.new-opening.ensures.size) framed in
    c.in_err-read_blocks.ensures.damaged (passed_on c.from_residual-in_err-read_blocks.result _ c.in_err-read_blocks.field-0.0 _ c.from_residual-in_err-read_blocks.ensures.1 refl is) image c.in_ok-index.end.items
    (subst (λ (l : List ℕ). IsReading (g.F.Files.contents c.read_frame.new.files) c.new-opening.result image l c.in_ok-index.end.items l) (sym c.deref.ensures.value) start))

pub returns-then-not-branch-clause-damaged : goal.returns-then-not-branch-clause-damaged
returns-then-not-branch-clause-damaged g c = λ is.
    no_file _ c.args.name (λ image tells.
    let size = c.in_ok-size.ensures.size image tells in
    let still = subst (λ (told : Option Contents). Tells told c.args.name image) (sym c.in_ok-size.ensures.reads.same) tells in
    let then = subst (λ (told : Option Contents). Tells told c.args.name image) (sym c.in_ok-format.ensures.reads.same) still in
    let later = subst (λ (told : Option Contents). Tells told c.args.name image) (sym c.in_ok-index.ensures.reads.same) then in
    let framed = subst (λ (f : Format). IsFramed f image c.in_ok-index.index.items c.in_ok-index.end.items) (sym c.new-opening.ensures.format) (c.in_ok-index.ensures.framed image then size (c.in_ok-format.ensures.head image still)) in
    let start = start_reading c.new-opening.result _ c.args.name image c.in_ok-index.index.items c.in_ok-index.end.items c.new-opening.ensures.name c.new-opening.ensures.rows later (size ∙ sym c.new-opening.ensures.size) framed in
    let reading = c.in_ok-read_blocks.ensures.read image c.in_ok-index.end.items (subst (λ (l : List ℕ). IsReading (g.F.Files.contents c.read_frame.new.files) c.new-opening.result image l c.in_ok-index.end.items l) (sym c.deref.ensures.value) start) in
    no_file_in c.read_blocks.new.self.format image reading.framed.named (λ es list f.
    let yes = c.in_ok-has_foot.ensures.exact.1 (c.deref-2.ensures.value ∙ foot_there c.read_blocks.new.self c.in_ok-read_blocks.ensures.opening _ image c.deref.result.now c.in_ok-index.end.items reading es f) in
    let no = c.if-not-branch.true in
    cc))

pub returns-clause-whole : goal.returns-clause-whole
returns-clause-whole g c =
    whole_file _ c.args.name c.read_blocks.new.self c.in_ok-size.ensures.there (λ image tells.
    let size = c.in_ok-size.ensures.size image tells in
    let still = subst (λ (told : Option Contents). Tells told c.args.name image) (sym c.in_ok-size.ensures.reads.same) tells in
    let then = subst (λ (told : Option Contents). Tells told c.args.name image) (sym c.in_ok-format.ensures.reads.same) still in
    let later = subst (λ (told : Option Contents). Tells told c.args.name image) (sym c.in_ok-index.ensures.reads.same) then in
    let framed = subst (λ (f : Format). IsFramed f image c.in_ok-index.index.items c.in_ok-index.end.items) (sym c.new-opening.ensures.format) (c.in_ok-index.ensures.framed image then size (c.in_ok-format.ensures.head image still)) in
    let start = start_reading c.new-opening.result _ c.args.name image c.in_ok-index.index.items c.in_ok-index.end.items c.new-opening.ensures.name c.new-opening.ensures.rows later (size ∙ sym c.new-opening.ensures.size) framed in
    let reading = c.in_ok-read_blocks.ensures.read image c.in_ok-index.end.items (subst (λ (l : List ℕ). IsReading (g.F.Files.contents c.read_frame.new.files) c.new-opening.result image l c.in_ok-index.end.items l) (sym c.deref.ensures.value) start) in
    let foot = sym c.deref-2.ensures.value ∙ c.in_ok-has_foot.ensures.exact.0 c.if-not-branch.false in
    formed c.read_blocks.new.self c.in_ok-read_blocks.ensures.opening _ image c.deref.result.now c.in_ok-index.end.items reading foot)
