use Rattle.std.proofs.Common.{◌≡◌, Err, Ok, ap, ◌∙◌, arith}
use Rattle.std.proofs.lemmas.Bool.Decides.{nat_tests}
use Rattle.std.proofs.lemmas.Result.{err_from_is_err_and}
use Rattle.server_loop.specs.declared.statuses.End.TheVariants as ends
use Rattle.server_loop.specs.declared.statuses.ServeFault.TheVariants as faults
use Rattle.server_loop.proofs.ServingLemmas.{reads_none}
use Rattle.server_loop.proofs.StreamReads.{at_its_end, flush_fails, none_held, read_fails, read_large, read_on, ServesOn-none, some_held, some_taken, taken_within}
use Rattle.server_loop.proofs.frame_loop.serve_read.Goals as goal

pub returns-in_err-flush-clause-reads : goal.returns-in_err-flush-clause-reads
returns-in_err-flush-clause-reads g c =
    let fault = c.in_err-flush.field-0.0 in
    let p = err_from_is_err_and c.from_residual.result c.from_residual.ensures.1 in
    let is : c.from_residual.result ≡ Err fault = p.1 ∙ ap (λ x. Err x) p.2 in
    flush_fails _ _ _ g.met.H.FrameHandler.joins _ _ fault _ _ _ _ _ _ is c.in_err-flush.ensures.fault c.requires.partial c.in_err-flush.ensures.kept

-- nothing was read, and nothing is at hand
pub returns-in-Ok-eq0-clause-reads : goal.returns-in-Ok-eq0-clause-reads
returns-in-Ok-eq0-clause-reads g c =
    let (consumed, end) = at_its_end c.in-Ok-eq0.field-0 c.read.new.buf _ _ (let test = c.in-Ok-eq0.field-0-test in grind (arith, nat_tests)) (omega (arith, c.requires.piece, c.read.auto.buf)) c.in-Ok-eq0.ensures.bytes in
    let none = none_held _ c.args.framer.now c.is_empty.ensures c.if-is_empty.true in
    (λ is. cc, ServesOn-none _ _ _ g.met.H.FrameHandler.joins _ (Ok ends.Clean) _ _ _ _ _ _ _ (λ is. cc) (λ is. cc) consumed c.requires.partial c.in_ok-flush.ensures.kept (none, end))

-- nothing was read, and part of a frame is at hand
pub returns-in-Ok-eq0-2-clause-reads : goal.returns-in-Ok-eq0-2-clause-reads
returns-in-Ok-eq0-2-clause-reads g c =
    let (consumed, end) = at_its_end c.in-Ok-eq0.field-0 c.read.new.buf _ _ (let test = c.in-Ok-eq0.field-0-test in grind (arith, nat_tests)) (omega (arith, c.requires.piece, c.read.auto.buf)) c.in-Ok-eq0.ensures.bytes in
    let some = some_held _ c.args.framer.now c.is_empty.ensures c.if-is_empty.false in
    (λ is. cc, ServesOn-none _ _ _ g.met.H.FrameHandler.joins _ (Ok ends.Truncated) _ _ _ _ _ _ _ (λ is. cc) (λ is. cc) consumed c.requires.partial c.in_ok-flush.ensures.kept (some, c.requires.partial, end))

pub returns-in-TooLarge-clause-reads : goal.returns-in-TooLarge-clause-reads
returns-in-TooLarge-clause-reads g c =
    read_large _ _ _ g.met.H.FrameHandler.joins _ _ _ _ c.serve_piece.new.framer _ _ _ _ _ _ c.in-Ok.ensures.bytes.0 c.requires.partial (taken_within _ c.read.new.buf (omega (arith, c.requires.within, c.read.auto.buf))) c.in_ok-flush.ensures.kept (rw c.in-TooLarge.is at c.in_ok-serve_piece-in-Ok.ensures.delivers)

pub returns-in-Err-clause-reads : goal.returns-in-Err-clause-reads
returns-in-Err-clause-reads g c =
    (λ is. cc, ServesOn-none _ _ _ g.met.H.FrameHandler.joins _ (Err faults.Read) _ _ _ _ _ _ _ (λ is. cc) (λ is. cc) (reads_none _ _ c.in-Err.ensures.bytes) c.requires.partial c.in_ok-flush.ensures.kept c.requires.partial)

pub returns-in-Partial-clause-reads : goal.returns-in-Partial-clause-reads
returns-in-Partial-clause-reads g c =
    let some = some_taken c.in-Ok.count c.read.new.buf c.in-Ok.ensures.bound.0 (let test = c.in-Ok.count-test in grind (arith, nat_tests)) in
    read_on _ _ _ g.met.H.FrameHandler.joins _ _ _ _ _ _ _ _ _ _ c.in-Ok.ensures.bytes.0 some c.in_ok-flush.ensures.kept (rw c.in-Partial.is at c.in_ok-serve_piece-in-Ok.ensures.delivers)

pub returns-in_err-serve_piece-in-Ok-clause-reads : goal.returns-in_err-serve_piece-in-Ok-clause-reads
returns-in_err-serve_piece-in-Ok-clause-reads g c =
    let fault = c.in_err-serve_piece-in-Ok.field-0.0 in
    let p = err_from_is_err_and c.from_residual-in_err-serve_piece-in-Ok.result c.from_residual-in_err-serve_piece-in-Ok.ensures.1 in
    let is : c.from_residual-in_err-serve_piece-in-Ok.result ≡ Err fault = p.1 ∙ ap (λ x. Err x) p.2 in
    read_fails _ _ _ g.met.H.FrameHandler.joins _ _ fault _ _ _ _ _ _ _ _ _ _ is c.in-Ok.ensures.bytes.0 c.requires.partial (taken_within _ c.read.new.buf (omega (arith, c.requires.within, c.read.auto.buf))) c.in_ok-flush.ensures.kept c.in_err-serve_piece-in-Ok.ensures.cuts
