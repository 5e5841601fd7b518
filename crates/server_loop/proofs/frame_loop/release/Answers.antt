use Rattle.std.proofs.Common.{◌∙◌, drop, take, sym, arith, length-drop}
use Rattle.std.proofs.lemmas.List.{take-append-drop}
use Rattle.server_loop.proofs.frame_loop.release.Goals as goal

pub returns-in-Err-clause-err : goal.returns-in-Err-clause-err
returns-in-Err-clause-err g c =
    let (n, short, appended) = c.in-Err.ensures.err in (
      take n c.deref.result.now,
      drop n c.deref.result.now,
      sym c.deref.ensures.value ∙ sym (take-append-drop n c.deref.result.now),
      appended,
      (c.in_ok-settle.ensures.ok, omega (arith, short, length-drop n c.deref.result.now)),
    )
