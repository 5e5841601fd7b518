use Rattle.sorted_file.proofs.Keeping.{none_cached, none_left}
use Rattle.sorted_file.proofs.LookUps.{same_file}
use Rattle.sorted_file.proofs.Results.{as_told}
use Rattle.sorted_file.proofs.file.SortedFile.drop_cache.Goals as goal

pub returns-clause-stays : goal.returns-clause-stays
returns-clause-stays c = λ told. same_file told c.args.self.now c.clear.new.self (as_told told _ (λ m e o. none_cached c.args.self.now.rows.items c.clear.new.self _ c.clear.ensures))

pub returns-clause-none : goal.returns-clause-none
returns-clause-none c = none_left c.clear.new.self _ c.clear.ensures
