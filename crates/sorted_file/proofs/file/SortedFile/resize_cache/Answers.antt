use Rattle.std.proofs.Common.{inl}
use Rattle.sorted_file.proofs.LookUps.{same_file}
use Rattle.sorted_file.proofs.Results.{as_told}
use Rattle.sorted_file.proofs.file.SortedFile.resize_cache.Goals as goal

pub returns-clause-stays : goal.returns-clause-stays
returns-clause-stays c = λ told. same_file told c.args.self.now c.resize.new.cache (as_told told _ (λ m e o. c.resize.ensures.still _ o.cached))

pub returns-clause-kept : goal.returns-clause-kept
returns-clause-kept c = λ told e d. inl (c.resize.ensures.kept e d)
