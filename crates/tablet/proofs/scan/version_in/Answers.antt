use Rattle.std.specs.Option.{option_copied}
use Rattle.tablet.proofs.NewestVersions.{one_stamped}
use Rattle.tablet.proofs.scan.version_in.Goals as goal

pub returns-in-Some-2-clause-found : goal.returns-in-Some-2-clause-found
returns-in-Some-2-clause-found c =
    one_stamped c.in-Some-2.key c.args.entry.key.now c.in-Some.value.items (option_copied c.args.entry.value)
    (rw c.in-Some-2.is at c.in_ok-key.ensures.stored) (rw c.in-Some-2.is at c.in_ok-key.ensures.found) (rw c.in-Some.is at c.in_ok-value.ensures.copy)
