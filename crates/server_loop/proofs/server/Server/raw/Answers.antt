use Rattle.std.proofs.Common.{ℕ, Option, Some, None, Global, refl, ap, inl, inr}
use Rattle.std.specs.Option.{IfSome}
use Rattle.std.specs.Prelude.{option_map}
use Rattle.std.specs.declared.vec.Vec.{Vec}
use Rattle.std.specs.declared.result.Result.TheVariants.{Err}
use Rattle.cell_key.specs.Versions.{stamped, IsVersionIn}
use Rattle.cell_key.specs.declared.refusals.Refusal.{Refusal}
use Rattle.si_model.specs.Machine.{RawFound, refuses}
use Rattle.request_codec.specs.Replies.{HoldsWithinLimits}
use Rattle.row_atomic.specs.ReadableLaw.{all_readable}
use Rattle.rows.proofs.Calls.{is_read_refusal, read_undamaged}
use Rattle.server_loop.proofs.Causes.{unmet_causes}
use Rattle.server_loop.proofs.RawReads.{found_outcome, refused_outcome}
use Rattle.server_loop.proofs.CleanSteps.{spots_in}
use Rattle.server_loop.proofs.Following.{follows_stored}
use Rattle.server_loop.proofs.SessionSteps.{as_err, as_refused, column_not_device, memory_not_device, name_undamaged, named_not, not_done, ok_not, refused_either, row_not_device}
use Rattle.server_loop.proofs.UpkeepSteps.{family_whole, raw_unnamed, raw_refused, raw_done, raw_family_named, raw_refuses, raw_row_named, row_whole, tells_as, raw_whole}
use Rattle.server_loop.proofs.server.Server.raw.Goals as goal

short_found : (lo hi : ℕ) (found : Option (ℕ × Vec ℕ Global)) → IfSome (option_map stamped found) (IsVersionIn lo hi) → HoldsWithinLimits (RawFound (option_map stamped found))
short_found lo hi None limits = tt
short_found lo hi (Some version) limits = limits.limits.value

pub returns-in-Err : goal.returns-in-Err
returns-in-Err g c = record {
  step = record { step = tells_as _ _ _ (λ held. (held, refl)) (λ held follows. follows) refl refl refl refl _ _ refl (λ st shown. refuses (raw_row_named st _ _ _ _ _ c.in-Err.ensures.others (λ is. c.in-Err.ensures.bad.0 (ap (λ (r : Refusal). Err r) is)))) (λ held. name_undamaged _ (row_whole _ c.in-Err.ensures.others)); refusal = raw_unnamed _ tt tt c.in-Err.ensures.others; limits = tt };
  stamps = record { last = refl; restarted = tt; exhausted = λ _. tt };
  edits = record { changes = refl; room = tt };
  sessions = record { told = λ st shown. tt; sessions = record { top = refl; buffered = refl; limit = refl; each = λ t. refl }; cleaners = record { next = refl; each = λ i. refl; count = refl }; collectors = record { next = refl; floor = refl; each = λ i. refl; count = refl }; oracle = refl };
  tablets = inr (elim (refused_either _ _ _ c.in-Err.ensures.others) [ inl is ↦ inl is | inr is ↦ inr (inr is) ], refl);
  causes = (unmet_causes g.F.Files.contents g.F.Files.faults g.M.MarkStore.faults _ _ _ _ refl refl (λ is. absurd (named_not _ _ row_not_device memory_not_device c.in-Err.ensures.others is)) (λ _. tt) (λ _. tt));
  tending = refl;
  logged = refl;
}

pub returns-in-Err-new : goal.returns-in-Err-new
returns-in-Err-new g c = record {
  step = record { step = tells_as _ _ _ (λ held. (held, refl)) (λ held follows. follows) refl refl refl refl _ _ refl (λ st shown. refuses (raw_family_named st _ _ _ _ _ c.in-Ok.ensures.valid c.in-Err-new.ensures.others (λ is. c.in-Err-new.ensures.bad.0 (ap (λ (r : Refusal). Err r) is)))) (λ held. name_undamaged _ (family_whole _ c.in-Err-new.ensures.others)); refusal = raw_unnamed _ tt tt c.in-Err-new.ensures.others; limits = tt };
  stamps = record { last = refl; restarted = tt; exhausted = λ _. tt };
  edits = record { changes = refl; room = tt };
  sessions = record { told = λ st shown. tt; sessions = record { top = refl; buffered = refl; limit = refl; each = λ t. refl }; cleaners = record { next = refl; each = λ i. refl; count = refl }; collectors = record { next = refl; floor = refl; each = λ i. refl; count = refl }; oracle = refl };
  tablets = inr (inr (refused_either _ _ _ c.in-Err-new.ensures.others), refl);
  causes = (unmet_causes g.F.Files.contents g.F.Files.faults g.M.MarkStore.faults _ _ _ _ refl refl (λ is. absurd (named_not _ _ column_not_device memory_not_device c.in-Err-new.ensures.others is)) (λ _. tt) (λ _. tt));
  tending = refl;
  logged = refl;
}

pub returns-in-Ok-newest : goal.returns-in-Ok-newest
returns-in-Ok-newest g c =
    let told = c.in-Ok-newest.ensures in
    record {
      step = record { step = tells_as _ _ _ (λ held. (told.reads.still held, told.reads.kept)) (λ held. follows_stored _ c.root_is_stored.ensures _ _ _ told.reads.stays told.reads.kept) refl refl refl refl _ _ (ap spots_in told.reads.stays) (λ st shown. raw_done st _ _ _ _ _ c.in-Ok.ensures.valid c.in-Ok-new.ensures.valid) (λ held. raw_whole _); refusal = tt; limits = short_found c.args.lo c.args.hi c.in-Ok-newest.found told.limits };
      stamps = record { last = refl; restarted = tt; exhausted = λ _. tt };
      edits = record { changes = told.reads.kept; room = tt };
      sessions = record { told = λ st shown. tt; sessions = record { top = refl; buffered = refl; limit = refl; each = λ t. refl }; cleaners = record { next = refl; each = λ i. refl; count = refl }; collectors = record { next = refl; floor = refl; each = λ i. refl; count = refl }; oracle = refl };
      tablets = inl (rw (← c.in-Ok.ensures.ok) (rw (← c.in-Ok-new.ensures.ok) (found_outcome g.F.Files.contents g.F.Files.faults c.in-Ok.row c.in-Ok-new.family c.args.qualifier c.args.lo c.args.hi c.in-Ok-newest.found _ _ told.reads.still (λ held. told.found (all_readable _ _ _ _ held.0 _)) told.reads.kept told.reads.stays told.reads.room (told.reason.told (ok_not _ _)))));
      causes = record { device = λ is. absurd (not_done _ _ tt is); told = λ _. record { files = told.reason.told (ok_not _ _); marks = refl }; full = λ _. tt; damaged = λ _. tt };
      tending = refl;
      logged = refl;
    }

pub returns : goal.returns
returns g c =
    let told = c.in-Err-newest.ensures in
    let refusal = is_read_refusal _ c.in-Err-newest.refusal told.refusal in
    record {
      step = record { step = tells_as _ _ _ (λ held. (told.reads.still held, told.reads.kept)) (λ held. follows_stored _ c.root_is_stored.ensures _ _ _ told.reads.stays told.reads.kept) refl refl refl refl _ _ (ap spots_in told.reads.stays) (λ st shown. refuses (raw_refuses st _ _ _ _ _ refusal)) (λ held. name_undamaged _ (read_undamaged _ _ told.refusal (all_readable _ _ _ _ held.0 _))); refusal = raw_refused _ refusal; limits = tt };
      stamps = record { last = refl; restarted = tt; exhausted = λ _. tt };
      edits = record { changes = told.reads.kept; room = tt };
      sessions = record { told = λ st shown. tt; sessions = record { top = refl; buffered = refl; limit = refl; each = λ t. refl }; cleaners = record { next = refl; each = λ i. refl; count = refl }; collectors = record { next = refl; floor = refl; each = λ i. refl; count = refl }; oracle = refl };
      tablets = inl (rw (← c.in-Ok.ensures.ok) (rw (← c.in-Ok-new.ensures.ok) (refused_outcome g.F.Files.contents g.F.Files.faults c.in-Ok.row c.in-Ok-new.family c.args.qualifier c.args.lo c.args.hi c.in-Err-newest.refusal _ _ told.reads.still told.reads.kept (λ held. read_undamaged _ _ told.refusal (all_readable _ _ _ _ held.0 _)) told.damaged told.reads.stays told.reads.room refusal told.reason.later told.reason.device told.reason.told)));
      causes = record { device = λ is. inl (told.reason.device (as_err _ _ _ refl is)); told = λ none. record { files = told.reason.told (λ is. none (as_refused _ _ _ refl is)); marks = refl }; full = λ _. tt; damaged = λ _. tt };
      tending = refl;
      logged = refl;
    }
