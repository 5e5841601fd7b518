-- The tablet shows the same cells.
use Rattle.cell_key.specs.declared.refusals.Refusal.{Refusal}
use Rattle.cell_key.specs.declared.refusals.Refusal.TheVariants.{Damaged, UnknownServer, UnknownTablet}
use Rattle.sorted_file.specs.Source.{IsReadRefusal}
use Rattle.row_atomic.proofs.RowAnswers.{found_there, index_below, matched_set, same_cells_in, still_in_order}
use Rattle.row_atomic.specs.Changes.{IsOutOfOrder, IsReopened}
use Rattle.row_atomic.proofs.ChangedTablets.{if_err, numbered_old, remade}
use Rattle.row_atomic.proofs.CommandSteps.{when_ok}
use Rattle.metadata_table.specs.Table.{moved}
use Rattle.row_atomic.proofs.MergeStates.{beside, told_still}
use Rattle.row_atomic.proofs.Memtables.{set_emptied}
use Rattle.row_atomic.proofs.MovedTablets.{matched_moved, opened_keeps}
use Rattle.row_atomic.proofs.PlaceCaches.{none_held}
use Rattle.row_atomic.proofs.PassedRefusals.{below_only, none_answered, not_refused, passed, reason_kept, reason_passed, refused_so}
use Rattle.std.proofs.Common.{◌≡◌, ◌<◌, ◌⊎◌, inl, inr, ℕ, Result, Ok, Err, IfErr, IsErrOf, IsOk, refl, sym, ap, subst, set}
use Rattle.row_atomic.specs.ListRoom.{HasOpenRoom}
use Rattle.row_atomic.proofs.CompactionRoom.{numbered_that}
use Rattle.row_atomic.proofs.SplitClusters.{emptied_at}
use Rattle.row_atomic.proofs.cluster.Cluster.put.Goals as goal

-- an existing tablet can be assigned to an existing server
assigned : {A : Type 0} (r : Result A Refusal) → IfErr r (λ refusal. (refusal ≡ UnknownTablet) ⊎ (refusal ≡ UnknownServer)) → ¬ IsErrOf r UnknownTablet → ¬ IsErrOf r UnknownServer → IsOk r
assigned (Ok x) refusal known there = refl
assigned (Err e) (inl is) known there = absurd (known (ap (λ (r : Refusal). Err r) is))
assigned (Err e) (inr is) known there = absurd (there (ap (λ (r : Refusal). Err r) is))

pub invariant_of-self-2 : goal.invariant_of-self-2
invariant_of-self-2 g c =
    let at = rw (← c.self.view_is) at c.position-index.ensures in
    let there = found_there c.self.inside.tablets.items c.position-index.result at.tablet c.index.result.now at.there c.index.ensures in
    let done : c.assign.new.self ≡ moved c.args.tablet c.args.server c.self.inside.table = when_ok c.assign.result _ c.assign.ensures.ok c.unwrap.ensures in (
      matched_moved c.self.inside.file_limit c.self.inside.next_name c.args.tablet c.args.server c.self.inside.table c.assign.new.self (set c.self.inside.tablets.items c.position-index.result c.in_ok-opened.opened) done
          (matched_set c.self.inside.file_limit c.self.inside.next_name c.self.inside.table c.self.inside.tablets.items c.position-index.result c.index.result.now c.in_ok-opened.opened there c.in_ok-opened.ensures.range c.in_ok-opened.ensures.names c.self.invariant.0),
      none_held c.assign.new.self c.clear.new.self.numbers.entries c.clear.ensures.none,
      set_emptied c.self.inside.most c.self.inside.tablets.items c.position-index.result c.self.invariant.2 c.in_ok-opened.opened c.in_ok-opened.ensures.memory,
    )

pub returns-clause-kept : goal.returns-clause-kept
returns-clause-kept g c =
    let at = rw (← c.self.view_is) at c.position-index.ensures in
    let there = found_there c.self.inside.tablets.items c.position-index.result at.tablet c.index.result.now at.there c.index.ensures in
    let memory = emptied_at c.self.inside.tablets.items c.args.tablet c.position-index.result c.index.result.now at.number there (rw (← c.self.view_is) at c.requires.flushed) in
    rw (← c.self.view_is) (λ holds. beside (told_still (g.F.Files.contents c.self.inside.files) (g.F.Files.contents c.open_again.new.files) c.self.inside.file_limit c.self.inside.next_name c.self.inside.merge c.open_again.ensures.reads.same holds.1)
    (opened_keeps c.same_cells.ensures c.self.inside.tablets.items c.position-index.result c.index.result.now c.in_ok-opened.opened there c.in_ok-opened.ensures.range c.in_ok-opened.ensures.names memory c.in_ok-opened.ensures.memory (g.F.Files.contents c.self.inside.files) (g.F.Files.contents c.open_again.new.files) c.self.inside.next_name c.open_again.ensures.reads.same c.in_ok-opened.ensures.holds holds.0))

pub returns-clause-opened : goal.returns-clause-opened
returns-clause-opened g c =
    let at = rw (← c.self.view_is) at c.position-index.ensures in
    let there = found_there c.self.inside.tablets.items c.position-index.result at.tablet c.index.result.now at.there c.index.ensures in
    rw (← c.self.view_is) (remade c.self.inside.tablets.items c.position-index.result c.index.result.now c.in_ok-opened.opened there IsReopened c.args.tablet at.number (record { memory = c.in_ok-opened.ensures.memory; names = c.in_ok-opened.ensures.names }))

pub returns-in_err-opened-clause-kept : goal.returns-in_err-opened-clause-kept
returns-in_err-opened-clause-kept g c = rw (← c.self.view_is) (λ holds. beside (told_still (g.F.Files.contents c.self.inside.files) (g.F.Files.contents c.open_again.new.files) c.self.inside.file_limit c.self.inside.next_name c.self.inside.merge c.open_again.ensures.reads.same holds.1)
    (still_in_order (g.F.Files.contents c.self.inside.files) (g.F.Files.contents c.open_again.new.files) c.self.inside.next_name c.self.inside.tablets.items c.open_again.ensures.reads.same holds.0, same_cells_in (g.F.Files.contents c.self.inside.files) (g.F.Files.contents c.open_again.new.files) c.self.inside.tablets.items c.open_again.ensures.reads.same))

pub returns-in_err-opened-clause-limit : goal.returns-in_err-opened-clause-limit
returns-in_err-opened-clause-limit g c = rw (← c.self.view_is) refl

pub returns-in_err-opened-clause-name : goal.returns-in_err-opened-clause-name
returns-in_err-opened-clause-name g c = rw (← c.self.view_is) refl

pub returns-in_err-opened-clause-reads : goal.returns-in_err-opened-clause-reads
returns-in_err-opened-clause-reads g c = record {
  refusal = refused_so c.from_residual.result c.in_err-opened.field-0.0 IsReadRefusal c.from_residual.ensures.1 c.in_err-opened.ensures.reads.refusal;
  same = rw (← c.self.view_is) c.open_again.ensures.reads.same;
  reason = rw (← c.self.view_is) (reason_passed c.from_residual.result c.in_err-opened.field-0.0 _ _ c.from_residual.ensures.1 c.in_err-opened.ensures.reads.reason);
}

pub returns-in_err-opened-clause-places : goal.returns-in_err-opened-clause-places
returns-in_err-opened-clause-places g c = none_answered c.from_residual.result c.in_err-opened.field-0.0 _ c.from_residual.ensures.1

pub returns-in_err-opened-clause-opened : goal.returns-in_err-opened-clause-opened
returns-in_err-opened-clause-opened g c = none_answered c.from_residual.result c.in_err-opened.field-0.0 _ c.from_residual.ensures.1

pub returns-in_err-opened-clause-stay : goal.returns-in_err-opened-clause-stay
returns-in_err-opened-clause-stay g c = if_err _ c.from_residual.result (rw (← c.self.view_is) refl)

pub returns-in_err-opened-clause-err : goal.returns-in_err-opened-clause-err
returns-in_err-opened-clause-err g c = if_err _ c.from_residual.result (rw (← c.self.view_is) refl)

pub returns-in_err-opened-clause-damaged : goal.returns-in_err-opened-clause-damaged
returns-in_err-opened-clause-damaged g c =
    let at = rw (← c.self.view_is) at c.position-index.ensures in
    let there = found_there c.self.inside.tablets.items c.position-index.result at.tablet c.index.result.now at.there c.index.ensures in
    rw (← c.self.view_is) (λ is. numbered_old c.self.inside.tablets.items c.position-index.result c.index.result.now c.index.result.now there (IsOutOfOrder (g.F.Files.contents c.self.inside.files)) c.args.tablet at.number (c.in_err-opened.ensures.damaged (passed c.from_residual.result c.in_err-opened.field-0.0 _ c.from_residual.ensures.1 is)))

pub returns-clause-limit : goal.returns-clause-limit
returns-clause-limit g c = rw (← c.self.view_is) refl

pub returns-clause-name : goal.returns-clause-name
returns-clause-name g c = rw (← c.self.view_is) refl

pub returns-clause-reads : goal.returns-clause-reads
returns-clause-reads g c = record {
  refusal = tt;
  same = rw (← c.self.view_is) c.open_again.ensures.reads.same;
  reason = rw (← c.self.view_is) (reason_kept _ _ _ _ c.in_ok-opened.ensures.reads.reason);
}

pub returns-clause-stay : goal.returns-clause-stay
returns-clause-stay g c = tt

pub returns-clause-err : goal.returns-clause-err
returns-clause-err g c = tt

pub returns-clause-damaged : goal.returns-clause-damaged
returns-clause-damaged g c = λ is. absurd (not_refused _ Damaged is)

pub invariant_of-self : goal.invariant_of-self
invariant_of-self g c = c.self.invariant

pub position-index-requires : goal.position-index-requires
position-index-requires g c = record { known = c.requires.known }

pub returns-clause-places : goal.returns-clause-places
returns-clause-places g c = rw (← c.self.view_is) (when_ok c.assign.result _ c.assign.ensures.ok c.unwrap.ensures)

pub index-requires : goal.index-requires
index-requires g c = let at = rw (← c.self.view_is) at c.position-index.ensures in subst (λ (n : ℕ). c.position-index.result < n) (sym c.self.inside.tablets.ok.0) (index_below c.self.inside.tablets.items c.position-index.result at.tablet at.there)

pub index_mut-requires : goal.index_mut-requires
index_mut-requires g c = let at = rw (← c.self.view_is) at c.position-index.ensures in subst (λ (n : ℕ). c.position-index.result < n) (sym c.self.inside.tablets.ok.0) (index_below c.self.inside.tablets.items c.position-index.result at.tablet at.there)

pub unwrap-requires : goal.unwrap-requires
unwrap-requires g c = let known = rw (← c.self.view_is) at c.requires.known in assigned c.assign.result c.assign.ensures.refusal (λ is. c.assign.ensures.unknown.0 is known) (λ is. below_only _ _ c.requires.below (c.assign.ensures.server.0 is).1)

pub open_again-requires : goal.open_again-requires
open_again-requires g c =
    let at = rw (← c.self.view_is) at c.position-index.ensures in
    let there = found_there c.self.inside.tablets.items c.position-index.result at.tablet c.index.result.now at.there c.index.ensures in
    record { room = numbered_that c.self.inside.tablets.items c.position-index.result c.index.result.now there (HasOpenRoom c.args.room 0) c.args.tablet at.number (rw (← c.self.view_is) at c.requires.room) }
