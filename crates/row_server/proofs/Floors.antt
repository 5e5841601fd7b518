-- The floors that a server publishes.
use Rattle.std.proofs.Common.{◌≡◌, ◌≤◌, ℕ, Option, Result, Ok, Err, sym, subst, arith}
use Rattle.std.specs.Prelude.{IfOk, IfSome, IsSome}
use Rattle.cell_key.specs.declared.refusals.Refusal.{Refusal}
use Rattle.servers_model.specs.Serves.{BeginsCollector, MayPublish}
use Rattle.si_model.specs.Refusing.{gives_up}
use Rattle.si_model.specs.Machine.{IsStorageRefusal}
use Rattle.txn_client.specs.declared.sessions.Clients.{Clients}
use Rattle.version_collector.specs.declared.collectors.Collectors.{Collectors}
use Rattle.row_server.specs.Server.{IsOwnFloor}
use Rattle.row_server.proofs.PartSteps.{given}

-- a floor that isn't above one that may be published
pub low_floor : (clients : Clients) (floor : ℕ) (result : Result ℕ Refusal) → MayPublish clients floor → IfOk result (λ least. least ≤ floor)
    → IfOk result (λ least. (published : ℕ) × MayPublish clients published × (least ≤ published))
low_floor clients floor (Ok least) may low = (floor, may, low)
low_floor clients floor (Err refusal) may low = tt

own : (clients : Clients) (floor : ℕ) (result : Result ℕ Refusal) → IsOwnFloor clients floor → IfOk result (λ least. least ≡ floor) → IfOk result (IsOwnFloor clients)
own clients floor (Ok least) is same = subst (IsOwnFloor clients) (sym same) is
own clients floor (Err refusal) is same = tt

-- where nobody else draws, it is the own one
pub own_floor : (clients : Clients) (floor : ℕ) (known : Option ℕ) (result : Result ℕ Refusal) → IsOwnFloor clients floor → IfSome known (λ last. IfOk result (λ least. least ≡ floor)) → IsSome known
    → IfOk result (IsOwnFloor clients)
own_floor clients floor known result is alone some = own clients floor result is (given (IfOk result (λ least. least ≡ floor)) known some alone)

-- 0 may always be published
pub none_below : (clients : Clients) → MayPublish clients 0
none_below clients st reached shown = (omega arith, λ t p active. omega arith)

-- no collector begins if no floor was published
pub not_begun : (collectors : Collectors) (refusal : Refusal) → IsStorageRefusal refusal → BeginsCollector collectors 0 (Err refusal) collectors
not_begun collectors refusal stores cells st reached store shown = (gives_up stores, shown)
