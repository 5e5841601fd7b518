-- A session whose cells are free takes all its steps.
use Rattle.std.proofs.Common.{◌≡◌, ◌≢◌, ℕ, suc, ◌+◌, ◌≤◌, Bool, true, false, cond, List, [], ◌∷◌, length, Some, inl, inr, refl, sym, ap, subst, ◌∙◌, arith}
use Rattle.std.specs.Prelude.{nat_eq}
use Rattle.std.specs.Ordering.{nat_cmp}
use Rattle.std.specs.FinMap.{FinMap, get, insert, remove, same_map, nat_cmp-IsAntisymmetric}
use Rattle.std.proofs.lemmas.Cmp.{nat_cmp_total}
use Rattle.std.proofs.lemmas.Bool.{cases_eq}
use Rattle.std.proofs.lemmas.Bool.Decides.{nat_tests}
use Rattle.si_model.specs.Sets.{◌∈◌, here, there, IsWithout}
use Rattle.si_model.specs.Machine.{State, Change, Writes, Phase, Open, Holding, Stamped, Finishing, Commit, InPhase, Wrote, Marked, Puts, Gives, Names, IsDead, HasHeld, Clashes, Draws, finishing, end_of_stamps, Advance, Step, accepts, holds, draws}
use Rattle.si_model.specs.Machine as machine
use Rattle.si_model.specs.Replies.{progress_reply}
use Rattle.si_model.specs.Machine.{IsReached}
use Rattle.si_model.specs.Servers.{IsReachedByServers}
use Rattle.si_model.specs.declared.replies.Cell.{Cell}
use Rattle.si_model.specs.declared.replies.Progress.{Progress}
use Rattle.si_model.specs.declared.replies.Progress.TheVariants as progress
use Rattle.si_model.proofs.Tools.{CellsDiffer, each_cons, get_same, get_other, get_removed, get_remains}
use Rattle.si_model.proofs.Kept.{held_phase}
use Rattle.si_model.proofs.ByServers.{by_servers, servers_step}
use Rattle.si_model.proofs.Fates.{fate_seen}
use Rattle.si_model.proofs.Acceptable.{advance_ok}
use Rattle.si_model.specs.Transactions.{Advances, rests, advances}
use Rattle.si_model.specs.TransactionLaws.{committed_state}

abbrev pub Phases : Type 0
Phases = FinMap nat_cmp Phase

-- other sessions than that of s are the same
abbrev pub SameBeside : ℕ → Phases → Phases → Type 0
SameBeside s new old = (u : ℕ) → u ≢ s → get new u ≡ get old u

beside_insert : (s : ℕ) (new old : Phases) (p : Phase) → SameBeside s new old → SameBeside s (insert new s p) old
beside_insert s new old p same u ne = get_other new s p u ne ∙ same u ne

-- without it they are the same
removed_same : (s : ℕ) (new old : Phases) → SameBeside s new old → remove new s ≡ remove old s
removed_same s new old same = same_map nat_cmp_total nat_cmp-IsAntisymmetric (remove new s) (remove old s) each
  where
    each : (u : ℕ) → get (remove new s) u ≡ get (remove old s) u
    each u = elim (cases_eq u s) [
      | inl e ↦ subst (λ (u : ℕ). get (remove new s) u ≡ get (remove old s) u) (sym e) (get_removed new s ∙ sym (get_removed old s))
      | inr ne ↦ get_remains new s u ne ∙ (same u ne ∙ sym (get_remains old s u ne))
    ]

module _ (s : ℕ) where
  -- marks with those of the writes
  abbrev pub marked : Writes → List (Cell × ℕ) → List (Cell × ℕ)
  marked [] ms = ms
  marked (w ∷ rest) ms = marked rest ((w.0, s) ∷ ms)

  marked_keeps : (rest : Writes) (ms : List (Cell × ℕ)) (m : Cell × ℕ) → m ∈ ms → m ∈ marked rest ms
  marked_keeps [] ms m i = i
  marked_keeps (w ∷ rest) ms m i = marked_keeps rest ((w.0, s) ∷ ms) m (there i)

  leaves_first : (m : Cell × ℕ) (ms : List (Cell × ℕ)) → ¬ (m ∈ ms) → IsWithout (m ∷ ms) m ms
  leaves_first m ms none = record {
    same = λ n. (
      λ h. (there h, λ e. none (subst (λ (n : Cell × ℕ). n ∈ ms) e h)),
      λ p. each_cons (λ n. n ≢ m → n ∈ ms) (λ ne. absurd (ne refl)) (λ n h ne. h) n p.0 p.1,
    );
  }

  leaves_later : (k m : Cell × ℕ) (old new : List (Cell × ℕ)) → k ≢ m → IsWithout old m new → IsWithout (k ∷ old) m (k ∷ new)
  leaves_later k m old new ne less = record {
    same = λ n. (
      λ h. each_cons (λ n. (n ∈ (k ∷ old)) × (n ≢ m)) (here, ne) (λ n h. let was = (less.same n).0 h in (there was.0, was.1)) n h,
      λ p. each_cons (λ n. n ≢ m → n ∈ (k ∷ new)) (λ ne. here) (λ n h ne. there ((less.same n).1 (h, ne))) n p.0 p.1,
    );
  }

  marked_less : (rest : Writes) (x : Cell) (old new : List (Cell × ℕ)) → ((u : Cell × Change) → u ∈ rest → u.0 ≢ x) → IsWithout old (x, s) new → IsWithout (marked rest old) (x, s) (marked rest new)
  marked_less [] x old new others less = less
  marked_less (w ∷ rest) x old new others less =
      marked_less rest x ((w.0, s) ∷ old) ((w.0, s) ∷ new) (λ u i. others u (there i))
      (leaves_later (w.0, s) (x, s) old new (λ e. others w here (ap (λ (m : Cell × ℕ). m.0) e)) less)

  -- these writes stand from the k-th on
  abbrev pub IsTail : Writes → ℕ → Writes → Type 0
  IsTail ws k rest = (j : ℕ) (x : Cell) (v : Change) → Puts rest j x v → Puts ws (k + j) x v

  tail_here : (ws rest : Writes) (k : ℕ) (w : Cell × Change) → IsTail ws k (w ∷ rest) → Puts ws k w.0 w.1
  tail_here ws rest k w tail = let e : k + 0 ≡ k = omega arith in subst (λ (i : ℕ). Puts ws i w.0 w.1) e (tail 0 w.0 w.1 refl)

  tail_next : (ws rest : Writes) (k : ℕ) (w : Cell × Change) → IsTail ws k (w ∷ rest) → IsTail ws (k + 1) rest
  tail_next ws rest k w tail j x v puts = let e : k + suc j ≡ k + 1 + j = omega arith in subst (λ (i : ℕ). Puts ws i x v) e (tail (suc j) x v puts)

  module _ (ws : Writes) (some : 1 ≤ length ws) where
    -- ---- the last steps: each cell after the first is finished

    module _ (base : State) (c : ℕ) (wrote : Wrote base s ws) (ms : List (Cell × ℕ)) (none : (x : Cell) → ¬ ((x, s) ∈ ms)) (first : Phases) where
      abbrev finished_to : List (Cell × ℕ) → Phases → State
      finished_to marks active = record base { marks = marks; active = active }

      abbrev Finishes : State → Type 0
      Finishes st = (ps : List Progress) × Advances s st ps (finished_to ms (remove first s))

      pub finish_all : (rest : Writes) (k : ℕ) (active : Phases) → SameBeside s active first → IsTail ws k rest → k + length rest ≡ length ws → CellsDiffer rest
          → Finishes (finished_to (marked rest ms) (finishing active s c k (length ws)))
      finish_all [] k active same tail count differ = ([], subst (λ (a : Phases). Advances s (finished_to ms a) [] (finished_to ms (remove first s))) (sym e) rests)
        where
          all : nat_eq k (length ws) ≡ true
          all = grind (arith, nat_tests, count)

          e : finishing active s c k (length ws) ≡ remove first s
          e = ap (λ (b : Bool). cond b (remove active s) (insert active s (Finishing c k))) all ∙ removed_same s active first same
      finish_all (w ∷ rest) k active same tail count differ = goes_on w rest k active tail count differ (finish_all rest (k + 1) (insert active s (Finishing c k)) (beside_insert s active first (Finishing c k) same) (tail_next ws rest k w tail) (omega (arith, count)) differ.1)
        where
          goes_on : (w : Cell × Change) (rest : Writes) (k : ℕ) (active : Phases) → IsTail ws k (w ∷ rest) → k + length (w ∷ rest) ≡ length ws → CellsDiffer (w ∷ rest)
              → Finishes (finished_to (marked rest ms) (finishing (insert active s (Finishing c k)) s c (k + 1) (length ws)))
              → Finishes (finished_to (marked rest ((w.0, s) ∷ ms)) (finishing active s c k (length ws)))
          goes_on w rest k active tail count differ later = subst (λ (a : Phases). Finishes (finished_to (marked rest ((w.0, s) ∷ ms)) a)) (sym e) (progress.Finished (k + 1) (length ws) ∷ later.0, advances step later.1)
            where
              not_all : nat_eq k (length ws) ≡ false
              not_all = grind (arith, nat_tests, count)

              now : Phases
              now = insert active s (Finishing c k)

              e : finishing active s c k (length ws) ≡ now
              e = ap (λ (b : Bool). cond b (remove active s) (insert active s (Finishing c k))) not_all

              step : Step (finished_to (marked rest ((w.0, s) ∷ ms)) now) (Advance s) (machine.Finished (k + 1) (length ws)) (finished_to (marked rest ms) (finishing now s c (k + 1) (length ws)))
              step = accepts (advance_ok (Finishing c k) ws (get_same active s (Finishing c k)) wrote some)
                  (machine.finishes (get_same active s (Finishing c k)) wrote (tail_here ws rest k w tail) (marked_less rest w.0 ((w.0, s) ∷ ms) ms differ.0 (leaves_first (w.0, s) ms (none w.0))))

    -- ---- the commit, and what comes after it

    -- it takes steps to the state, and commits on the way
    pub record Commits (c : ℕ) (st next : State) : Type 0 where
      pub steps : List Progress
      pub run : Advances s st steps next
      pub is_in : progress.Committed c ∈ steps

    one_more : (c : ℕ) (st mid next : State) (p : Progress) → Step st (Advance s) (progress_reply p) mid → Commits c mid next → Commits c st next
    one_more c st mid next p step later = record { steps = p ∷ later.steps; run = advances step later.run; is_in = there later.is_in }

    first_is : (w : Cell × Change) (rest : Writes) → ws ≡ w ∷ rest → IsTail ws 0 (w ∷ rest)
    first_is w rest e j x v puts =
        let zero_plus : 0 + j ≡ j = omega arith in
        subst (λ (i : ℕ). Puts ws i x v) (sym zero_plus) (subst (λ (l : Writes). Puts l j x v) (sym e) puts)

    -- the state in which all cells are held and the stamp is drawn
    abbrev stamped_to : State → ℕ → Phases → State
    stamped_to st c active = record st { top = c; marks = marked ws st.marks; active = active }

    -- and in which they are held
    abbrev held_to : State → Phases → State
    held_to st active = record st { marks = marked ws st.marks; active = active }

    module _ (st : State) (c : ℕ) (wrote : Wrote st s ws) (none : (x : Cell) → ¬ Marked st x s) where
      commit_from : (w : Cell × Change) (rest : Writes) → ws ≡ w ∷ rest → CellsDiffer (w ∷ rest) → (active : Phases) → SameBeside s active st.active → get active s ≡ Some (Stamped c)
          → IsReachedByServers (record st { top = c; marks = marked (w ∷ rest) st.marks; active = active })
          → Commits c (record st { top = c; marks = marked (w ∷ rest) st.marks; active = active }) (committed_state st s c ws)
      commit_from w rest e differ active same h reached = record {
        steps = progress.Committed c ∷ later.0;
        run = advances step later.1;
        is_in = here;
      }
        where
          before : State
          before = record st { top = c; marks = marked rest ((w.0, s) ∷ st.marks); active = active }

          after : State
          after = record st { top = c; commits = record { start = s; stamp = c; writes = ws } ∷ st.commits }

          puts : Puts ws 0 w.0 w.1
          puts = subst (λ (l : Writes). Puts l 0 w.0 w.1) (sym e) refl

          stands : Marked before w.0 s
          stands = marked_keeps rest ((w.0, s) ∷ st.marks) (w.0, s) here

          alive : ¬ IsDead before s
          alive d = (fate_seen before reached s ws w.0 w.1 wrote puts).dead d stands

          step : Step before (Advance s) (machine.Committed c) (record after { marks = marked rest st.marks; active = finishing active s c 1 (length ws) })
          step = accepts (advance_ok (Stamped c) ws h wrote some)
              (machine.commits h alive wrote puts (marked_less rest w.0 ((w.0, s) ∷ st.marks) st.marks differ.0 (leaves_first (w.0, s) st.marks (none w.0))))

          count : 1 + length rest ≡ length ws
          count = let more : suc (length rest) ≡ length ws = ap length (sym e) in omega arith

          later : (ps : List Progress) × Advances s (record after { marks = marked rest st.marks; active = finishing active s c 1 (length ws) }) ps (record after { marks = st.marks; active = remove st.active s })
          later = finish_all after c wrote st.marks none st.active rest 1 active same (tail_next ws rest 0 w (first_is w rest e)) count differ.1

      -- the stamp is drawn once all cells are held
      draw_from : (active : Phases) → SameBeside s active st.active → get active s ≡ Some (Holding (length ws)) → Draws st c → CellsDiffer ws
          → IsReachedByServers (held_to st active) → Commits c (held_to st active) (committed_state st s c ws)
      draw_from active same h d differ reached = one_more c (held_to st active) (stamped_to st c now) (committed_state st s c ws) (progress.Stamped c) step (commit_at ws refl differ)
        where
          now : Phases
          now = insert active s (Stamped c)

          step : Step (held_to st active) (Advance s) (machine.Drawn c) (stamped_to st c now)
          step = accepts (advance_ok (Holding (length ws)) ws h wrote some) (draws h wrote d)

          commit_at : (l : Writes) → ws ≡ l → CellsDiffer l → Commits c (stamped_to st c now) (committed_state st s c ws)
          commit_at [] e differ = let none : length ws ≡ 0 = ap length e in absurd (omega arith)
          commit_at (w ∷ rest) e differ = subst (λ (l : Writes). Commits c (record st { top = c; marks = marked l st.marks; active = now }) (committed_state st s c ws)) (sym e)
              (commit_from w rest e differ now (beside_insert s active st.active (Stamped c) same) (get_same active s (Stamped c))
              (subst (λ (l : Writes). IsReachedByServers (record st { top = c; marks = marked l st.marks; active = now })) e (servers_step reached step)))

    -- ---- the first steps: each cell is held

    abbrev IsFree : State → Writes → Type 0
    IsFree st rest = (w : Cell × Change) → w ∈ rest → ¬ Clashes st w.0 s

    -- a mark on another cell makes none clash
    still_free : (st : State) (x : Cell) (active : Phases) (rest : Writes) → ((w : Cell × Change) → w ∈ rest → w.0 ≢ x) → IsFree st rest
        → IsFree (record st { marks = (x, s) ∷ st.marks; active = active }) rest
    still_free st x active rest others free w i (inl (u, m)) = each_cons (λ (n : Cell × ℕ). n.0 ≡ w.0 → ⊥) (λ e. others w i (sym e)) (λ n old e. free w i (inl (n.1, subst (λ (y : Cell). (y, n.1) ∈ st.marks) e old))) (w.0, u) m refl
    still_free st x active rest others free w i (inr later) = free w i (inr later)

    pub hold_all : (rest : Writes) (k : ℕ) (st next : State) (c : ℕ) → HasHeld st s k → Wrote st s ws → IsTail ws k rest → k + length rest ≡ length ws → CellsDiffer rest
        → IsFree st rest → IsReachedByServers st
        → ((active : Phases) → SameBeside s active st.active → get active s ≡ Some (Holding (length ws)) → IsReachedByServers (record st { marks = marked rest st.marks; active = active })
        → Commits c (record st { marks = marked rest st.marks; active = active }) next)
        → Commits c st next
    hold_all [] k st next c (inl h) wrote tail count differ free reached then =
        let e : k ≡ length ws = omega arith in
        then st.active (λ u ne. refl) (subst (λ (n : ℕ). InPhase st s (Holding n)) e h) reached
    hold_all [] k st next c (inr h) wrote tail count differ free reached then = let none = h.1 in absurd (omega arith)
    hold_all (w ∷ rest) k st next c held wrote tail count differ free reached then =
        let hp = held_phase st s k held in
        let now = insert st.active s (Holding (k + 1)) in
        let step : Step st (Advance s) (machine.Held (k + 1) (length ws)) (record st { marks = (w.0, s) ∷ st.marks; active = now }) =
        accepts (advance_ok hp.p ws hp.is wrote some) (holds held wrote (tail_here ws rest k w tail) (free w here)) in
        one_more c st (record st { marks = (w.0, s) ∷ st.marks; active = now }) next (progress.Held (k + 1) (length ws)) step
        (hold_all rest (k + 1) (record st { marks = (w.0, s) ∷ st.marks; active = now }) next c (inl (get_same st.active s (Holding (k + 1)))) wrote (tail_next ws rest k w tail) (omega arith) differ.1
        (still_free st w.0 now rest differ.0 (λ u i. free u (there i))) (servers_step reached step)
        (λ active same h reached. then active (λ u ne. same u ne ∙ get_other st.active s (Holding (k + 1)) u ne) h reached))

-- all of them
pub servers_steps : (st : State) (s c : ℕ) (ws : Writes) → IsReachedByServers st → InPhase st s Open → Wrote st s ws → (some : 1 ≤ length ws) → CellsDiffer ws
    → ((w : Cell × Change) → w ∈ ws → ¬ Clashes st w.0 s) → ((x : Cell) → ¬ Marked st x s) → Draws st c
    → Commits s ws some c st (committed_state st s c ws)
servers_steps st s c ws reached h wrote some differ free none d =
    hold_all s ws some ws 0 st (committed_state st s c ws) c (inr (h, refl)) wrote whole (omega arith) differ free reached
    (λ active same held reached. draw_from s ws some st c wrote none active same held d differ reached)
  where
    whole : IsTail s ws 0 ws
    whole j x v puts = let zero_plus : 0 + j ≡ j = omega arith in subst (λ (i : ℕ). Puts ws i x v) (sym zero_plus) puts

pub all_steps : (st : State) (s c : ℕ) (ws : Writes) → IsReached st → InPhase st s Open → Wrote st s ws → (some : 1 ≤ length ws) → CellsDiffer ws
    → ((w : Cell × Change) → w ∈ ws → ¬ Clashes st w.0 s) → ((x : Cell) → ¬ Marked st x s) → Draws st c
    → Commits s ws some c st (committed_state st s c ws)
all_steps st s c ws reached h wrote some differ free none d = servers_steps st s c ws (by_servers reached) h wrote some differ free none d
