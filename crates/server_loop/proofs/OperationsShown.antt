-- Cleaners and collectors show the same after an operation that stands for several requests.
use Rattle.std.proofs.Common.{◌∙◌, ℕ, ◌≤◌, Option, Some, None, sym, ap, arith}
use Rattle.std.specs.FinMap as finmap
use Rattle.std.proofs.Math.Nat.{le_trans}
use Rattle.cell_key.specs.Cells.{Cells}
use Rattle.cell_key.specs.declared.keys.Qualifier.TheVariants.{Write}
use Rattle.clean_up.specs.Shows.{ShowsCleaners}
use Rattle.clean_up.specs.declared.cleaners.Cleaners.{Cleaners}
use Rattle.clean_up.proofs.Table.{shows_on}
use Rattle.si_model.proofs.ByServers.{by_servers}
use Rattle.si_model.specs.Machine.{State, IsReached}
use Rattle.si_model.specs.PutCells.{all_put_cells}
use Rattle.si_model.specs.ShowsCells.{IsThere}
use Rattle.si_model.specs.Transactions.{CommitDone, Commit, transacts}
use Rattle.si_model.specs.declared.replies.Cell.{Cell}
use Rattle.si_model.proofs.Floors.{reached_floors}
use Rattle.si_model.proofs.Steps.{reached_step}
use Rattle.version_collector.specs.Shows.{ShowsAt, ShowsCollectors, kept_at}
use Rattle.version_collector.specs.Versions.{IsTidyFrom}
use Rattle.version_collector.specs.Visits.{Comes, IsProgress, pass_of, position_of}
use Rattle.version_collector.specs.declared.collector.Collector.{Collector}
use Rattle.version_collector.specs.declared.collector.Pass.{Pass}
use Rattle.version_collector.specs.declared.collector.Pass.TheVariants.{First, Second}
use Rattle.version_collector.specs.declared.collectors.Collectors.{Collectors}
use Rattle.version_collector.specs.declared.erasing.CellProgress.{CellProgress}
use Rattle.version_collector.specs.declared.versions.TidyFrom.{TidyFrom}
use Rattle.server_loop.specs.OperationLaws.{CommitsKeepCollectors, OperationsKeepCollectors, OperationsLeaveOthers}
use Rattle.server_loop.proofs.CommitsCollected.{KeepsVersions, come_kept, commit_is_new, keeps_put, same_versions}
use Rattle.server_loop.proofs.OperationSteps.{RunKeeps, SessionRun, at_rest, goes_on, not_cleaners, operation_runs, run_keeps}

-- ---- cleaners

run_cleaners : {st next : State} (cleaners : Cleaners) → IsReached st → SessionRun st next → ShowsCleaners cleaners st → ShowsCleaners cleaners next
run_cleaners cleaners reached at_rest shown = shown
run_cleaners {st = st} cleaners reached (goes_on {mid = mid} {q = q} {r = r} step kind rest) shown =
    run_cleaners cleaners (reached_step reached step) rest (shows_on cleaners st mid q r (by_servers reached) step (not_cleaners q kind) shown)

pub operations_leave_others : OperationsLeaveOthers
operations_leave_others st next operation answer reached several goes =
    let run = operation_runs st next operation answer several goes in
    let keeps = run_keeps reached run in
    record {
      places = keeps.places.places;
      next_tablet = keeps.places.next_tablet;
      floor = keeps.collectors.floor;
      cleaners = λ cleaners shown. run_cleaners cleaners reached run shown;
    }

-- ---- collectors

module _ (cells cells' : Cells) (st next : State) (reached : IsReached st) (run : RunKeeps st next) (keeps : KeepsVersions cells cells' st.floor) where
  -- the progress within a cell
  tidy_from : (x : Cell) (low : ℕ) → low ≤ st.floor → (tidy : TidyFrom) → IsTidyFrom cells x low tidy → IsTidyFrom cells' x low tidy
  tidy_from x low under tidy is = record {
    old = λ c d from less up there_c there_d. is.old c d from less up (was c (omega (arith, less, up)) there_c) (was d up there_d);
    named = λ t from less there. keeps.named x t (is.named t from less (keeps.values x t (omega (arith, less, under)) there));
  }
    where
      was : (c : ℕ) → c ≤ low → IsThere cells' x Write c → IsThere cells x Write c
      was c up there = (there.0, sym (keeps.records x c (le_trans up under)) ∙ there.1)

  progress_kept : (low : ℕ) → low ≤ st.floor → (within : Option CellProgress) (pass : Pass) → IsProgress cells low within pass → IsProgress cells' low within pass
  progress_kept low under None pass is = tt
  progress_kept low under (Some progress) First is = is
  progress_kept low under (Some progress) Second is = tidy_from progress.cell low under progress.tidy is

  comes_kept : (c : Collector) → c.floor ≤ st.floor → Comes cells st c → Comes cells' next c
  comes_kept c under come = (
    come_kept cells cells' run keeps c.floor under (pass_of c.pass) (position_of c.after) come.0,
    progress_kept c.floor under c.within c.pass come.1,
  )

  at_kept : (o : Option Collector) (i : ℕ) → ShowsAt cells o i st → ShowsAt cells' o i next
  at_kept None i shown = ap (λ m. finmap.get m i) run.collectors.collectors ∙ shown
  at_kept (Some c) i shown = record {
    kept = ap (λ m. finmap.get m i) run.collectors.collectors ∙ shown.kept;
    come = comes_kept c ((reached_floors reached).each i c.floor shown.kept) shown.come;
  }

  collectors_kept : (collectors : Collectors) → ShowsCollectors cells collectors st → ShowsCollectors cells' collectors next
  collectors_kept collectors shown = record {
    next = shown.next ∙ sym run.collectors.next_collector;
    floor = (let under = shown.floor in let same = run.collectors.floor in omega (arith, under, same));
    each = λ i. at_kept (kept_at collectors i) i (shown.each i);
    count = ap (λ m. finmap.len m) run.collectors.collectors ∙ shown.count;
  }

pub operations_keep_collectors : OperationsKeepCollectors
operations_keep_collectors cells collectors st next operation answer reached several goes shown =
    let run = run_keeps reached (operation_runs st next operation answer several goes) in
    collectors_kept cells cells st next reached run (same_versions cells st.floor) collectors shown

pub commits_keep_collectors : CommitsKeepCollectors
commits_keep_collectors cells collectors st next start s c ws all reached store (transacts is) shown =
    let run = run_keeps reached (operation_runs st next (Commit start ws) (CommitDone s c) tt (transacts is)) in
    let puts = commit_is_new cells reached store is in
    collectors_kept cells (all_put_cells cells all s c) st next reached run (keeps_put cells st.floor s c all puts) collectors shown
