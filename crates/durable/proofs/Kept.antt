-- What a server's devices keep, by themselves.
use Rattle.std.proofs.Common.{◌≤◌, ℕ, Option, None, Some, inl, inr, arith}
use Rattle.std.specs.Prelude.{IsSome}
use Rattle.commit_log.specs.declared.logs.Log.{Ghosts as Log}
use Rattle.file_store.specs.declared.files.Files.{Ghosts as Files}
use Rattle.oracle.specs.Marks.{IsWithinMark}
use Rattle.si_model.specs.Machine.{State}
use Rattle.durable.specs.Devices.{Covers, LastsOn}
use Rattle.server_loop.specs.Server.{cluster_of}
use Rattle.durable.specs.OverDevices.{LastsOver}
use Rattle.durable.specs.declared.server.DurableServer.{DurableServer}
use Rattle.server_loop.specs.declared.server.Server.{Server}

covers_so : (mark : Option ℕ) (last top : ℕ) → IsSome mark → IsWithinMark last mark → top ≤ last → Covers mark top
covers_so None last top known within low = cc
covers_so (Some mark) last top known within low = omega (arith, within, low)

module _ {F N M L W : Type 0} (files : Files F W) (log : Log L) where
  pub devices_last : (server : DurableServer (Server F N W) M L) (st : State) (mark : Option ℕ) → IsSome mark → IsWithinMark server.marks.stored mark → LastsOver files log server st → LastsOn (files.contents (cluster_of server.server).files) mark (log.holds server.log) st
  devices_last server st mark known within lasts = record {
    root = lasts.kept.root;
    base = lasts.kept.base;
    kept = record {
      kept = lasts.kept.kept.0.has.kept;
      on_disk = lasts.kept.kept.0.has.on_disk;
      keeps = lasts.kept.kept.0.has.keeps;
      placed = lasts.kept.kept.0.placed;
      covered = covers_so mark server.marks.stored lasts.kept.root.top known within lasts.kept.kept.1;
    };
    records = lasts.kept.records;
    in_log = lasts.kept.in_log.0;
    over = lasts.kept.over;
    stamps = lasts.kept.stamps;
    edits = lasts.kept.edits;
    held = lasts.kept.held;
    stored = lasts.kept.stored;
    room = lasts.kept.room;
    shows = lasts.kept.shows;
    next = lasts.kept.next;
    top = elim lasts.kept.top [ inl at ↦ inl (covers_so mark server.marks.stored st.top known within at) | inr at ↦ inr at ];
  }
