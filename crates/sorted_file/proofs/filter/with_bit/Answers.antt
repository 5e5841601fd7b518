use Rattle.std.proofs.Common.{w64}
use Rattle.std.proofs.lemmas.Nat.Bits.{bit_at_set_same}
use Rattle.sorted_file.proofs.Filtered.{bit_kept}
use Rattle.sorted_file.proofs.filter.with_bit.Goals as goal

pub returns-clause-has : goal.returns-clause-has
returns-clause-has c = bit_at_set_same w64 c.args.word c.args.bit c.requires

pub returns-clause-keeps : goal.returns-clause-keeps
returns-clause-keeps c = bit_kept c.args.word c.args.bit c.requires
