-- Devices with two contents that keep a state of the machine.
use Rattle.std.specs.Prelude.{true, false}
use Rattle.commit_log.specs.Held.{IsKept}
use Rattle.durable.specs.Devices.{LastsOn}
use Rattle.si_model.specs.Machine.{State}
use Rattle.power_tests.specs.Meant.{Meant, all_last, with_root_read}
use Rattle.power_tests.specs.Views.{FilesView, LogView, MarkView}
use Rattle.power_tests.specs.Views.{meant_files, meant_log, meant_mark}

-- Files, a mark and a log's file keep a state, in the contents that are meant.
abbrev pub KeepsBy : Meant → FilesView → MarkView → LogView → State → Type 0
KeepsBy meant files mark log st =
    LastsOn (meant_files meant.of_file files) (meant_mark meant.of_mark mark)
    (IsKept (meant_log meant.of_log log)) st

-- what lasts of each device
abbrev pub lasting : Meant
lasting = record { of_file = all_last; of_mark = true; of_log = true }

-- the same of the files but the root; of root, mark and log what is read
abbrev pub taken_over : Meant → Meant
taken_over meant =
    record { of_file = with_root_read meant.of_file; of_mark = false; of_log = false }

-- A run of a server ended with a last server, whose devices keep what these keep.
pub record EndsWith {S : Type 0} (serves : S → Type 0) (lasts : S → State → Type 0)
    (keeps : State → Type 0) : Type 0 where
  pub last : S
  pub served : serves last
  pub kept : (st : State) → lasts last st → keeps st
