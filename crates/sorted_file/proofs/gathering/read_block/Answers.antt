use Rattle.std.proofs.Common.{◌≡◌, List, ℕ, true, false, sym, subst, ◌∙◌}
use Rattle.sorted_file.specs.Block.{entries_of}
use Rattle.sorted_file.specs.Columns.{IsGathered}
use Rattle.sorted_file.specs.Grammar.{Fits}
use Rattle.sorted_file.specs.declared.block.Block.{Block}
use Rattle.sorted_file.proofs.ColumnsOf.{read_as}
use Rattle.sorted_file.proofs.Results.{of_some}
use Rattle.sorted_file.proofs.Starts.{parsed_as}
use Rattle.sorted_file.proofs.gathering.read_block.Goals as goal

pub returns-then-not-fits-clause-none : goal.returns-then-not-fits-clause-none
returns-then-not-fits-clause-none c = λ es b.
    let block : Block = record { bytes = c.args.bytes; starts = c.in-Some.starts } in
    let gathered = of_some _ _ _ c.in-Some.is c.in_ok-starts.ensures.found in
    let r = read_as block c.in-Some.columns (subst (λ (l : List ℕ). IsGathered l c.in-Some.starts.items c.in-Some.columns) c.deref.ensures.value gathered) c.requires in
    let same : es ≡ entries_of block = parsed_as (entries_of block) es block r.parsed (sym b.spelled ∙ r.parsed.bytes) in
    let is : c.fits.result ≡ true = (c.fits.ensures (entries_of block) r.parsed).1 (subst Fits same b.fits) in
    let not : c.fits.result ≡ false = c.if-not-fits.true in
    cc

pub returns-clause-found : goal.returns-clause-found
returns-clause-found c =
    let block : Block = record { bytes = c.args.bytes; starts = c.in-Some.starts } in
    let gathered = of_some _ _ _ c.in-Some.is c.in_ok-starts.ensures.found in
    let r = read_as block c.in-Some.columns (subst (λ (l : List ℕ). IsGathered l c.in-Some.starts.items c.in-Some.columns) c.deref.ensures.value gathered) c.requires in
    record { list = r.parsed.list; fits = (c.fits.ensures (entries_of block) r.parsed).0 c.if-not-fits.false; spelled = r.parsed.bytes }

pub returns-clause-parsed : goal.returns-clause-parsed
returns-clause-parsed c =
    let block : Block = record { bytes = c.args.bytes; starts = c.in-Some.starts } in
    let gathered = of_some _ _ _ c.in-Some.is c.in_ok-starts.ensures.found in
    (read_as block c.in-Some.columns (subst (λ (l : List ℕ). IsGathered l c.in-Some.starts.items c.in-Some.columns) c.deref.ensures.value gathered) c.requires).parsed

pub returns-clause-columns : goal.returns-clause-columns
returns-clause-columns c =
    let block : Block = record { bytes = c.args.bytes; starts = c.in-Some.starts } in
    let gathered = of_some _ _ _ c.in-Some.is c.in_ok-starts.ensures.found in
    (read_as block c.in-Some.columns (subst (λ (l : List ℕ). IsGathered l c.in-Some.starts.items c.in-Some.columns) c.deref.ensures.value gathered) c.requires).columns
