use Rattle.std.proofs.Common.{refl, sym, ◌∙◌, false}
use Rattle.power_tests.specs.Meant.{with_root_read}
use Rattle.power_tests.proofs.Kept.{from_err, from_ok, moved}
use Rattle.power_tests.proofs.servers.CachedDevices.reopen.Goals as goal

pub returns-in-Err-Device-clause-err : goal.returns-in-Err-Device-clause-err
returns-in-Err-Device-clause-err g c = λ meant.
    let files = c.in-Err-Device.ensures.err meant.of_file in
    (record { of_file = files.0; of_mark = meant.of_mark; of_log = meant.of_log }, moved files.1 refl refl)

pub returns-in-Err-Memory-clause-err : goal.returns-in-Err-Memory-clause-err
returns-in-Err-Memory-clause-err g c = λ meant.
    let files = c.in-Err-Memory.ensures.err meant.of_file in
    (record { of_file = files.0; of_mark = meant.of_mark; of_log = meant.of_log }, moved files.1 refl refl)

pub returns-then-is_err-clause-err : goal.returns-then-is_err-clause-err
returns-then-is_err-clause-err g c = λ meant.
    let mark = from_err c.reopen-2.result (sym c.is_err.ensures.value ∙ c.if-is_err.true) c.reopen-2.ensures.err meant.of_mark in (
      record { of_file = with_root_read meant.of_file; of_mark = mark.0; of_log = meant.of_log },
      moved (c.in-Ok.ensures.ok meant.of_file) mark.1 refl,
    )

pub returns-then-is_err-2-clause-err : goal.returns-then-is_err-2-clause-err
returns-then-is_err-2-clause-err g c = λ meant.
    let mark = from_ok c.reopen-2.result (sym c.is_err.ensures.value ∙ c.if-is_err.false) c.reopen-2.ensures.ok meant.of_mark in
    let log = from_err c.reopen-3.result (sym c.is_err-2.ensures.value ∙ c.if-is_err-2.true) c.reopen-3.ensures.err meant.of_log in (
      record { of_file = with_root_read meant.of_file; of_mark = false; of_log = log.0 },
      moved (c.in-Ok.ensures.ok meant.of_file) mark log.1,
    )
