use Rattle.std.proofs.Common.{arith, sym}
use Rattle.std.proofs.lemmas.Bool.Decides.{nat_tests}
use Rattle.ownership.proofs.Places.{too_few}
use Rattle.ownership.proofs.holdings.Holdings.has_as_many.Goals as goal

pub returns-then-len-most : goal.returns-then-len-most
returns-then-len-most c = sym (too_few c.args.client c.args.most c.args.self.now.list.items (grind (arith, nat_tests, c.if-len-most.true, c.len.ensures)))
