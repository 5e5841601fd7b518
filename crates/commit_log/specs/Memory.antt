-- The records of a log in memory.
use Rattle.std.specs.Prelude.{ℕ, List}
use Rattle.commit_log.specs.Frames.{bytes_of}
use Rattle.commit_log.specs.declared.memory.MemLog.{MemLog}

abbrev pub recorded : MemLog → List (List ℕ)
recorded log = bytes_of log.records.items
