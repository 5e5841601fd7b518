-- A collector's progress after an operation: a commit puts data at or above the floor, and new records above it.
use Rattle.std.proofs.Common.{◌≡◌, ◌∙◌, ℕ, ◌<◌, ◌≤◌, inl, inr, List, Option, Some, None, refl, sym, ap, subst, arith}
use Rattle.std.proofs.Math.Nat.{le_trans}
use Rattle.std.proofs.lemmas.Option.{none-some}
use Rattle.cell_key.specs.Cells.{Cells}
use Rattle.cell_key.specs.Places.{Place}
use Rattle.cell_key.specs.declared.keys.Qualifier.TheVariants.{Data, Write}
use Rattle.si_model.specs.Collection.{FirstPass, HasCome, IsNamed, IsTidy, Pass, SecondPass}
use Rattle.si_model.specs.Machine.{State, Writes, Open, Commit, CommittedAt, IsReached, Marked}
use Rattle.si_model.specs.PutCells.{all_put_cells}
use Rattle.si_model.specs.Sets.{◌∈◌, here, there}
use Rattle.si_model.specs.ShowsCells.{IsThere, ShowsCells, at}
use Rattle.si_model.specs.Transactions.{Advances, rests, advances, Transacts, CommitDone}
use Rattle.si_model.specs.Transactions as transacts
use Rattle.si_model.specs.declared.replies.Cell.{Cell}
use Rattle.si_model.specs.declared.replies.Progress.{Progress}
use Rattle.si_model.specs.declared.replies.Progress.TheVariants as progress
use Rattle.si_model.proofs.AtOnce.{opened}
use Rattle.si_model.proofs.Floors.{reached_floors}
use Rattle.si_model.proofs.ShownPut.{data_was, record_stays}
use Rattle.si_model.proofs.Steps.{reached_sound, reached_step}
use Rattle.si_model.proofs.Told.{tells_fate}
use Rattle.server_loop.proofs.OperationSteps.{RunKeeps, append, run_advances, run_buffers, run_keeps, run_opens}

-- ---- what a commit puts is new, and not below the floor

has_committed : {s : ℕ} {st next : State} {ps : List Progress} (c : ℕ) → IsReached st → Advances s st ps next → progress.Committed c ∈ ps → CommittedAt next s c
has_committed c reached rests i = elim i [ ]
has_committed {s = s} {st = st} c reached (advances {mid = mid} step more) here =
    let now : CommittedAt mid s c = (tells_fate st (reached_sound reached)).committed s c mid step in
    (now.0, (run_keeps (reached_step reached step) (run_advances more)).committed (record { start = s; stamp = c; writes = now.0 }) now.1)
has_committed c reached (advances step more) (there i) = has_committed c (reached_step reached step) more i

-- no record has the stamp
abbrev pub IsNewStamp : Cells → ℕ → Type 0
IsNewStamp cells c = (x : Cell) → at cells x Write c ≡ None

pub record PutsAbove (cells : Cells) (floor s c : ℕ) : Type 0 where
  pub above : floor ≤ s
  pub later : s < c
  pub fresh : IsNewStamp cells c

none_there : (o : Option (List ℕ)) → ((b : List ℕ) → o ≡ Some b → ⊥) → o ≡ None
none_there None never = refl
none_there (Some b) never = absurd (never b refl)

pub commit_is_new : (cells : Cells) {st next : State} {start s c : ℕ} {ws : Writes} → IsReached st → ShowsCells cells st → Transacts st start ws (CommitDone s c) next → PutsAbove cells st.floor s c
commit_is_new cells {st} {next} {start} {s} {c} reached shown (transacts.commits {mid = mid} opens buffers run is_in ended) =
    let o = opened cells s st mid start reached shown opens in
    let written = run_keeps o.reached (run_buffers buffers) in
    let later = run_keeps o.reached (append (run_buffers buffers) (run_advances run)) in
    let done : CommittedAt next s c = has_committed c written.reached run is_in in
    let made : Commit = record { start = s; stamp = c; writes = done.0 } in
    record {
      above = subst (λ (f : ℕ). f ≤ s) (run_keeps reached (run_opens opens)).collectors.floor ((reached_floors o.reached).above s Open o.active);
      later = ((reached_sound later.reached).fair made done.1).later;
      fresh = λ x. none_there (at cells x Write c) (λ b h.
          let k = o.shown.records x c b h in
          let same : k.commit.start ≡ s = (reached_sound later.reached).stamps_differ k.commit made (later.committed k.commit k.is_in) done.1 k.stamp in
          (reached_sound o.reached).uncommitted s Open o.active tt k.commit k.is_in same);
    }

-- ---- versions up to a floor

-- no record is added up to the floor and no data below it, and what was named stays named
pub record KeepsVersions (cells cells' : Cells) (floor : ℕ) : Type 0 where
  pub records : (x : Cell) (d : ℕ) → d ≤ floor → at cells' x Write d ≡ at cells x Write d
  pub values : (x : Cell) (t : ℕ) → t < floor → IsThere cells' x Data t → IsThere cells x Data t
  pub named : (x : Cell) (t : ℕ) → IsNamed cells x t → IsNamed cells' x t

pub same_versions : (cells : Cells) (floor : ℕ) → KeepsVersions cells cells floor
same_versions cells floor = record { records = λ x d low. refl; values = λ x t low is. is; named = λ x t n. n }

pub keeps_put : (cells : Cells) (floor s c : ℕ) (all : Writes) → PutsAbove cells floor s c → KeepsVersions cells (all_put_cells cells all s c) floor
keeps_put cells floor s c all puts = record {
  records = λ x d low. record_stays s c all cells x d (λ e. let above = puts.above in let later = puts.later in omega (arith, e, low, above, later));
  values = λ x t low is. elim (data_was s c all cells x t is.0 is.1) [
    | inl was ↦ (is.0, was)
    | inr new ↦ absurd (let e = new.0 in let above = puts.above in omega (arith, e, low, above))
  ];
  named = λ x t n. (
    n.0,
    (n.1.0, n.1.1, record_stays s c all cells x n.0 (λ e. none-some n.1.0 (sym (puts.fresh x) ∙ (ap (at cells x Write) (sym e) ∙ n.1.2))) ∙ n.1.2, n.1.3),
  );
}

-- ---- the progress from cell to cell

tidy_kept : (cells cells' : Cells) (floor low : ℕ) → low ≤ floor → KeepsVersions cells cells' floor → (x : Cell) → IsTidy cells x low → IsTidy cells' x low
tidy_kept cells cells' floor low under keeps x tidy = record {
  one = λ c d up_c up_d there_c there_d. tidy.one c d up_c up_d
      (there_c.0, sym (keeps.records x c (le_trans up_c under)) ∙ there_c.1)
      (there_d.0, sym (keeps.records x d (le_trans up_d under)) ∙ there_d.1);
  named = λ t less is. keeps.named x t (tidy.named t less (keeps.values x t (omega (arith, less, under)) is));
  lasting = λ c t up e. tidy.lasting c t up (sym (keeps.records x c (le_trans up under)) ∙ e);
}

joined_above : {st next : State} → RunKeeps st next → (low : ℕ) → low ≤ st.floor → (x : Cell) (t : ℕ) → (Marked st x t → low ≤ t) → Marked next x t → low ≤ t
joined_above keeps low under x t was m = elim (keeps.joins x t m) [ inl old ↦ was old | inr up ↦ le_trans under up ]

pub come_kept : (cells cells' : Cells) {st next : State} → RunKeeps st next → KeepsVersions cells cells' st.floor → (low : ℕ) → low ≤ st.floor → (pass : Pass) (after : Option Place)
    → HasCome cells st low pass after → HasCome cells' next low pass after
come_kept cells cells' run keeps low under FirstPass after come = λ x t passed m. joined_above run low under x t (come x t passed) m
come_kept cells cells' {st} run keeps low under SecondPass after come =
    (λ x t m. joined_above run low under x t (come.0 x t) m, λ x passed. tidy_kept cells cells' st.floor low under keeps x (come.1 x passed))
