use Rattle.std.proofs.Common.{◌≡◌, ℕ, ◌≤◌, List, Option, Some, None, inl, inr, length, arith, sym, subst, ap, ◌∙◌}
use Rattle.std.specs.Prelude.{option_map}
use Rattle.std.specs.FinMap.{get}
use Rattle.std.specs.declared.vec.Vec.{Vec}
use Rattle.std.specs.Option.{IfSome}
use Rattle.cell_key.specs.Cells.{Cells, IsNewest}
use Rattle.cell_key.specs.declared.keys.Qualifier.TheVariants.{Data, Lock, Write}
use Rattle.cell_key.specs.Versions.{stamped, IsVersionIn}
use Rattle.si_model.specs.ShowsCells.{key_of}
use Rattle.si_model.specs.declared.replies.Cell.{Cell}
use Rattle.txn_client.specs.Reads.{ReadsValue}
use Rattle.cell_key.specs.declared.columns.WriteKind.{WriteKind}
use Rattle.cell_key.specs.declared.columns.WriteKind.TheVariants as write
use Rattle.cell_key.specs.Columns.{NamesWrite}
use Rattle.cell_key.proofs.Reasons.{not_refused, reason_kept, reason_passed, reason_then}
use Rattle.rows.proofs.Calls.{is_read_refusal, read_undamaged, reads_then}
use Rattle.txn_client.proofs.Passed.{passed_err, passed_none, damaged_no_device}
use Rattle.txn_client.proofs.ReadCells.{deletion_found, last_written, locked, no_data, nothing}
use Rattle.txn_client.proofs.cells.read_cell.Goals as goal

value_found : {Z : Type 0} (cells cells2 cells3 : Cells) (x : Cell) (s : ℕ) (lock last value : Option (ℕ × Vec ℕ Z)) (c n m : ℕ) (kind : WriteKind) (text v : Vec ℕ Z) → cells2 ≡ cells → cells3 ≡ cells → lock ≡ None → last ≡ Some (c, text) → value ≡ Some (m, v)
    → NamesWrite text.items n kind → kind ≡ write.Set → IsNewest cells (key_of x Lock) 0 s (option_map stamped lock) → IsNewest cells2 (key_of x Write) 0 s (option_map stamped last) → IsNewest cells3 (key_of x Data) n n (option_map stamped value)
    → ReadsValue cells x s v.items
value_found {Z} cells cells2 cells3 x s lock last value c n m kind text v same2 same3 unlocked is_last is_value names kept found found2 found3 =
    let named_there : IsNewest cells (key_of x Data) n n (Some (m, v.items)) = subst (λ (f : Option (ℕ × Vec ℕ Z)). IsNewest cells (key_of x Data) n n (option_map stamped f)) is_value (subst (λ (cs : Cells). IsNewest cs (key_of x Data) n n (option_map stamped value)) same3 found3) in
    let at : m ≡ n = omega (arith, named_there.0, named_there.1) in
    record {
      unlocked = nothing cells (key_of x Lock) 0 s lock unlocked found;
      stamp = c;
      text = text.items;
      is_last = last_written cells cells2 x s c last text same2 is_last found2;
      start = n;
      names = subst (λ (k : WriteKind). NamesWrite text.items n k) kept names;
      data_is = subst (λ (k : ℕ). get cells (key_of x Data k) ≡ Some v.items) at named_there.2;
    }

short_value : {Z : Type 0} (lo hi n : ℕ) (value : Option (ℕ × Vec ℕ Z)) (text : Vec ℕ Z) → value ≡ Some (n, text) → IfSome (option_map stamped value) (IsVersionIn lo hi) → length text.items ≤ 65536
short_value {Z} lo hi n value text is limits =
    let within : IsVersionIn lo hi (n, text.items) = subst (λ (f : Option (ℕ × Vec ℕ Z)). IfSome (option_map stamped f) (IsVersionIn lo hi)) is limits in
    within.limits.value

pub returns-in_err-lock : goal.returns-in_err-lock
returns-in_err-lock g c =
    let r = c.from_residual.result in
    let e = c.in_err-lock.field-0.0 in
    let by = c.from_residual.ensures.1 in
    let at = c.in_err-lock.ensures in
    record {
      found = λ held. passed_none r e _ by;
      short = passed_none r e _ by;
      reads = at.reads;
      refusal = passed_err r e _ by (is_read_refusal _ e at.refusal);
      damaged = λ held. passed_err r e _ by (λ is. absurd (read_undamaged _ e at.refusal held is));
      reason = reason_passed r e _ _ by at.reason;
    }

pub returns-in-Some : goal.returns-in-Some
returns-in-Some g c = record {
  found = λ held. locked (g.R.Rows.seen.cells c.args.rows.now) c.args.cell.now c.args.start c.in-Some.pending c.in_ok-lock.lock c.in-Some.field-0-1 c.in-Some.is (c.in_ok-lock.ensures.found held);
  short = tt;
  reads = c.in_ok-lock.ensures.reads;
  refusal = tt;
  damaged = λ held. tt;
  reason = reason_kept _ _ _ _ (not_refused _ _) c.in_ok-lock.ensures.reason;
}

pub returns-in_err-last : goal.returns-in_err-last
returns-in_err-last g c =
    let r = c.from_residual-in_err-last.result in
    let e = c.in_err-last.field-0.0 in
    let by = c.from_residual-in_err-last.ensures.1 in
    let at = c.in_err-last.ensures in
    record {
      found = λ held. passed_none r e _ by;
      short = passed_none r e _ by;
      reads = reads_then c.in_ok-lock.ensures.reads at.reads;
      refusal = passed_err r e _ by (is_read_refusal _ e at.refusal);
      damaged = λ held. passed_err r e _ by (λ is. absurd (read_undamaged _ e at.refusal (c.in_ok-lock.ensures.reads.readable c.args.cell.now.row held) is));
      reason = reason_then r _ _ _ _ c.in_ok-lock.ensures.reason (reason_passed r e _ _ by at.reason);
    }

pub returns-in_default-last : goal.returns-in_default-last
returns-in_default-last g c =
    let first = c.in_ok-lock.ensures in
    let last = c.in_ok-last.ensures in
    record {
      found = λ held. (
        nothing (g.R.Rows.seen.cells c.args.rows.now) _ 0 _ c.in_ok-lock.lock c.in_default.is (first.found held),
        inl (λ s lo hi. ap (λ (cs : Cells). get cs (key_of c.args.cell.now Write s)) (sym first.reads.kept) ∙ nothing (g.R.Rows.seen.cells c.newest.new.self) _ 0 _ c.in_ok-last.last c.in_default-last.is (last.found (first.reads.readable c.args.cell.now.row held)) s lo hi),
      );
      short = tt;
      reads = reads_then first.reads last.reads;
      refusal = tt;
      damaged = λ held. tt;
      reason = reason_then _ _ _ _ _ first.reason (reason_kept _ _ _ _ (not_refused _ _) last.reason);
    }

pub returns-in_default-decode : goal.returns-in_default-decode
returns-in_default-decode g c =
    let first = c.in_ok-lock.ensures in
    let last = c.in_ok-last.ensures in
    record {
      found = λ held. tt;
      short = tt;
      reads = reads_then first.reads last.reads;
      refusal = tt;
      damaged = λ held _. (
        c.in-Some-last.field-0-0,
        c.in-Some-last.text.items,
        last_written (g.R.Rows.seen.cells c.args.rows.now) (g.R.Rows.seen.cells c.newest.new.self) c.args.cell.now c.args.start c.in-Some-last.field-0-0 c.in_ok-last.last c.in-Some-last.text first.reads.kept c.in-Some-last.is (last.found (first.reads.readable c.args.cell.now.row held)),
        inl (λ t kind names. c.in_default-decode.ensures.none t kind (subst (λ (bytes : List ℕ). NamesWrite bytes t kind) (sym c.deref.ensures.value) names)),
      );
      reason = reason_then _ _ _ _ _ first.reason (reason_kept _ _ _ _ damaged_no_device last.reason);
    }

pub returns-in-Delete : goal.returns-in-Delete
returns-in-Delete g c =
    let first = c.in_ok-lock.ensures in
    let last = c.in_ok-last.ensures in
    record {
      found = λ held. (
        nothing (g.R.Rows.seen.cells c.args.rows.now) _ 0 _ c.in_ok-lock.lock c.in_default.is (first.found held),
        inr (deletion_found (g.R.Rows.seen.cells c.args.rows.now) (g.R.Rows.seen.cells c.newest.new.self) c.args.cell.now c.args.start c.in-Some-last.field-0-0 c.in-Some-decode.record.start c.in-Some-decode.record.kind c.in_ok-last.last c.in-Some-last.text
            first.reads.kept c.in-Some-last.is (last.found (first.reads.readable c.args.cell.now.row held)) (subst (λ (bytes : List ℕ). NamesWrite bytes c.in-Some-decode.record.start c.in-Some-decode.record.kind) c.deref.ensures.value c.in-Some-decode.ensures.named) c.in-Delete.is),
      );
      short = tt;
      reads = reads_then first.reads last.reads;
      refusal = tt;
      damaged = λ held. tt;
      reason = reason_then _ _ _ _ _ first.reason (reason_kept _ _ _ _ (not_refused _ _) last.reason);
    }

pub returns-in_err-value-in-Set : goal.returns-in_err-value-in-Set
returns-in_err-value-in-Set g c =
    let r = c.from_residual-in_err-value-in-Set.result in
    let e = c.in_err-value-in-Set.field-0.0 in
    let by = c.from_residual-in_err-value-in-Set.ensures.1 in
    let at = c.in_err-value-in-Set.ensures in
    record {
      found = λ held. passed_none r e _ by;
      short = passed_none r e _ by;
      reads = reads_then c.in_ok-lock.ensures.reads (reads_then c.in_ok-last.ensures.reads at.reads);
      refusal = passed_err r e _ by (is_read_refusal _ e at.refusal);
      damaged = λ held. passed_err r e _ by (λ is. absurd (read_undamaged _ e at.refusal (c.in_ok-last.ensures.reads.readable c.args.cell.now.row (c.in_ok-lock.ensures.reads.readable c.args.cell.now.row held)) is));
      reason = reason_then r _ _ _ _ c.in_ok-lock.ensures.reason (reason_then r _ _ _ _ c.in_ok-last.ensures.reason (reason_passed r e _ _ by at.reason));
    }

pub returns-in-Some-2 : goal.returns-in-Some-2
returns-in-Some-2 g c =
    let first = c.in_ok-lock.ensures in
    let last = c.in_ok-last.ensures in
    let third = c.in_ok-value-in-Set.ensures in
    record {
      found = λ held.
          let still = first.reads.readable c.args.cell.now.row held in
          value_found (g.R.Rows.seen.cells c.args.rows.now) (g.R.Rows.seen.cells c.newest.new.self) (g.R.Rows.seen.cells c.newest-2.new.self) c.args.cell.now c.args.start c.in_ok-lock.lock c.in_ok-last.last c.in_ok-value-in-Set.field-0 c.in-Some-last.field-0-0 c.in-Some-decode.record.start c.in-Some-2.field-0-0 c.in-Some-decode.record.kind c.in-Some-last.text c.in-Some-2.value
          first.reads.kept (last.reads.kept ∙ first.reads.kept) c.in_default.is c.in-Some-last.is c.in-Some-2.is (subst (λ (bytes : List ℕ). NamesWrite bytes c.in-Some-decode.record.start c.in-Some-decode.record.kind) c.deref.ensures.value c.in-Some-decode.ensures.named) c.in-Set.is (first.found held) (last.found still) (third.found (last.reads.readable c.args.cell.now.row still));
      short = short_value _ _ _ c.in_ok-value-in-Set.field-0 c.in-Some-2.value c.in-Some-2.is third.limits;
      reads = reads_then first.reads (reads_then last.reads third.reads);
      refusal = tt;
      damaged = λ held. tt;
      reason = reason_then _ _ _ _ _ first.reason (reason_then _ _ _ _ _ last.reason (reason_kept _ _ _ _ (not_refused _ _) third.reason));
    }

pub returns : goal.returns
returns g c =
    let first = c.in_ok-lock.ensures in
    let last = c.in_ok-last.ensures in
    let third = c.in_ok-value-in-Set.ensures in
    record {
      found = λ held. tt;
      short = tt;
      reads = reads_then first.reads (reads_then last.reads third.reads);
      refusal = tt;
      damaged = λ held _.
          let cells = g.R.Rows.seen.cells c.args.rows.now in
          let still = first.reads.readable c.args.cell.now.row held in
          no_data cells (g.R.Rows.seen.cells c.newest-2.new.self) c.args.cell.now c.args.start c.in-Some-last.field-0-0 c.in-Some-decode.record.start c.in-Some-decode.record.kind c.in_ok-value-in-Set.field-0 c.in-Some-last.text.items (last.reads.kept ∙ first.reads.kept) c.in-None.is
          (subst (λ (bytes : List ℕ). NamesWrite bytes c.in-Some-decode.record.start c.in-Some-decode.record.kind) c.deref.ensures.value c.in-Some-decode.ensures.named) c.in-Set.is (third.found (last.reads.readable c.args.cell.now.row still))
          (last_written cells (g.R.Rows.seen.cells c.newest.new.self) c.args.cell.now c.args.start c.in-Some-last.field-0-0 c.in_ok-last.last c.in-Some-last.text first.reads.kept c.in-Some-last.is (last.found still));
      reason = reason_then _ _ _ _ _ first.reason (reason_then _ _ _ _ _ last.reason (reason_kept _ _ _ _ damaged_no_device third.reason));
    }
