use Rattle.std.proofs.Common.{◌≡◌, true, false}
use Rattle.txn_client.proofs.scan.last_if_fewer.Goals as goal

pub returns-clause-next : goal.returns-clause-next
returns-clause-next c = λ map after s h. record { next = h.next; newest = h.newest; last = λ e. absurd (let no : false ≡ true = e in cc) }
