use Rattle.std.proofs.Common.{rules, List, ℕ, refl, sym, subst, ◌∙◌, Option}
use Rattle.std.proofs.lemmas.List.{nil_from_length}
use Rattle.file_store.specs.Store.{Contents}
use Rattle.sorted_file.specs.Check.{IsReading}
use Rattle.cell_key.proofs.Passed.{passed_on}
use Rattle.sorted_file.proofs.check.Opening.read_blocks.Goals as goal

pub returns-in_err-rest-clause-damaged : goal.returns-in_err-rest-clause-damaged
returns-in_err-rest-clause-damaged g c = λ is image end reading.
    let i = c.blocks-2.invariant in
    let now = subst (λ (told : Option Contents). IsReading told c.blocks-2.self image c.args.index.now end c.blocks-2.rest.now) (sym i.contents) (i.read image end reading) in
    c.in_err-rest.ensures.damaged (passed_on c.from_residual.result _ c.in_err-rest.field-0.0 _ c.from_residual.ensures.1 refl is) image c.args.index.now end now (search rules)

pub blocks-2-preserved : goal.blocks-2-preserved
blocks-2-preserved g c =
    let i = c.blocks-2.invariant in
    record {
      contents = c.in_ok-rest.ensures.reads.same ∙ i.contents;
      quiet = c.in_ok-rest.ensures.reads.reason.told (λ e. cc) ∙ i.quiet;
      opening = c.in_ok-rest.ensures.opening;
      read = λ image end reading.
          let now = subst (λ (told : Option Contents). IsReading told c.blocks-2.self image c.args.index.now end c.blocks-2.rest.now) (sym i.contents) (i.read image end reading) in
          subst (λ (told : Option Contents). IsReading told c.read_next.new.self image c.args.index.now end c.in_ok-rest.rest.now) i.contents (c.in_ok-rest.ensures.read image c.args.index.now end now);
    }

pub returns-clause-read : goal.returns-clause-read
returns-clause-read g c = λ image end reading.
    subst (λ (rest : List ℕ). IsReading (g.F.Files.contents c.args.files.now) c.blocks-2.self image c.args.index.now end rest) (nil_from_length c.blocks-2.rest.now (search rules)) (c.blocks-2.invariant.read image end reading)
