use Rattle.std.proofs.Common.{◌≡◌, ◌+◌, [], length, length-append, length-drop, length-take, Err, Ok, ap, ◌∙◌, arith, refl, rules}
use Rattle.std.proofs.KnownBytes.{Consumes-nil, Keeps-refl}
use Rattle.std.proofs.lemmas.Result.{err_from_is_err_and}
use Rattle.server_loop.specs.declared.statuses.End.TheVariants as ends
use Rattle.server_loop.specs.declared.statuses.ServeFault.TheVariants as faults
use Rattle.server_loop.proofs.ServingLemmas.{IsPartial-nil}
use Rattle.server_loop.proofs.StreamReads.{ended, finished, Served-none, Served-then, ServesOn-none, stops, used_up}
use Rattle.server_loop.proofs.frame_loop.serve_all.Goals as goal

pub returns-in_default : goal.returns-in_default
returns-in_default g c = ServesOn-none _ _ _ g.met.H.FrameHandler.joins _ (Err faults.NoMemory) [] _ _ _ _ _ _ (λ is. cc) (λ is. cc) (Consumes-nil _) IsPartial-nil (Keeps-refl _) (refl, Keeps-refl _)

pub returns-in_default-zeros : goal.returns-in_default-zeros
returns-in_default-zeros g c = ServesOn-none _ _ _ g.met.H.FrameHandler.joins _ (Err faults.NoMemory) [] _ _ _ _ _ _ (λ is. cc) (λ is. cc) (Consumes-nil _) IsPartial-nil (Keeps-refl _) (refl, Keeps-refl _)

pub returns-in_default-with_capacity : goal.returns-in_default-with_capacity
returns-in_default-with_capacity g c = ServesOn-none _ _ _ g.met.H.FrameHandler.joins _ (Err faults.NoMemory) [] _ _ _ _ _ _ (λ is. cc) (λ is. cc) (Consumes-nil _) IsPartial-nil (Keeps-refl _) (refl, Keeps-refl _)

pub loop-reads_left-init : goal.loop-reads_left-init
loop-reads_left-init g c =
    let empty : c.in-Ok.framer ≡ [] = c.in-Ok.ensures.empty in
    record { size = search rules; none = search rules; room = search rules; served = (0, omega arith, Served-none _ _ _ g.met.H.FrameHandler.joins _ _ _ _ empty) }

pub returns-in_err-ended : goal.returns-in_err-ended
returns-in_err-ended g c =
    let fault = c.in_err-ended.field-0.0 in
    let p = err_from_is_err_and c.from_residual.result c.from_residual.ensures.1 in
    let is : c.from_residual.result ≡ Err fault = p.1 ∙ ap (λ x. Err x) p.2 in
    stops _ _ _ g.met.H.FrameHandler.joins _ _ fault _ _ _ _ _ c.serve_read.new.framer _ _ _ _ _ _ _ _ is c.loop-reads_left.invariant.served.2 c.in_err-ended.ensures.reads

pub loop-reads_left-preserved : goal.loop-reads_left-preserved
loop-reads_left-preserved g c =
    let whole : length c.serve_read.new.piece ≡ 65536 = search rules in
    let (reads, counted, served) = c.loop-reads_left.invariant.served in
    let next = rw c.in-None.is at c.in_ok-ended.ensures.reads in
    record {
      size = simp (length-take, length-append, length-drop) (omega arith);
      none = search rules;
      room = search rules;
      served = (reads + 1, omega (arith, counted), Served-then _ _ _ g.met.H.FrameHandler.joins _ _ _ _ _ _ _ _ _ _ _ _ _ _ _ (omega arith) served next);
    }

pub returns-in-Some : goal.returns-in-Some
returns-in-Some g c =
    let told = c.finish.ensures in
    finished _ _ _ g.met.H.FrameHandler.joins _ c.finish.result c.in-Some.end _ _ _ _ _ _ _ _ _ told.kept told.end told.fault
    (ended _ _ _ g.met.H.FrameHandler.joins _ c.in-Some.end _ _ _ _ _ c.serve_read.new.framer _ _ _ _ _ _ _ _ c.loop-reads_left.invariant.served.2 (rw c.in-Some.is at c.in_ok-ended.ensures.reads))

-- no read is left
pub returns : goal.returns
returns g c =
    let none : c.loop-reads_left.reads_left ≡ 0 = omega arith in
    let (reads, counted, served) = c.loop-reads_left.invariant.served in
    let told = c.finish-2.ensures in
    finished _ _ _ g.met.H.FrameHandler.joins _ c.finish-2.result ends.ReadsUsedUp _ _ _ _ _ _ _ _ _ told.kept told.end told.fault
    (used_up _ _ _ g.met.H.FrameHandler.joins _ _ _ _ _ _ _ _ _ _ _ (omega (arith, none, counted)) served)
