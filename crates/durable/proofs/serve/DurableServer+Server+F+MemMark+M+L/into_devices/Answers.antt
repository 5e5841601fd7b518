use Rattle.std.proofs.Common.{subst}
use Rattle.oracle.specs.Marks.{IsWithinMark}
use Rattle.durable.proofs.Kept.{devices_last}
use Rattle.durable.proofs.serve.DurableServer+Server+F+MemMark+M+L.into_devices.Goals as goal

pub returns-clause-lasts : goal.returns-clause-lasts
returns-clause-lasts g c = λ st lasts known.
    let within = subst (λ (m : g.row.M.Denot). IsWithinMark c.args.self.marks.stored (g.M.MarkStore.mark m)) c.into_store.ensures.marks c.into_store.ensures.within in
    rw (c.into_devices-files.ensures.files, c.into_store.ensures.marks) (devices_last g.F.Files g.L.Log c.args.self st (g.M.MarkStore.mark c.args.self.marks.marks) known within lasts)
