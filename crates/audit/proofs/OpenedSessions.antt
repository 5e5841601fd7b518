-- The session of a request that stands for several: as the audit finds it, and as the machine does.
use Rattle.std.proofs.Common.{◌≡◌, ◌≢◌, ◌∙◌, ℕ, ◌+◌, ◌<◌, max, inl, inr, Bool, true, false, cond, List, [], map, Option, Some, None, refl, sym, subst, ap, arith}
use Rattle.std.specs.Prelude.{is_some, option_map, if◌then◌else◌, IfSome, Result, Ok, Err}
use Rattle.std.specs.Ordering.{nat_cmp, is_eq}
use Rattle.std.specs.BTreeMap as btree
use Rattle.std.specs.FinMap.{FinMap, get, insert, remove, same_map, nat_cmp-IsAntisymmetric}
use Rattle.std.specs.Global.{Vec}
use Rattle.std.proofs.Math.Nat.{max-eq_right, max-eq_left}
use Rattle.std.proofs.lemmas.Bool.{cases_eq, cases_lt}
use Rattle.std.proofs.lemmas.Cmp.{nat_cmp_total}
use Rattle.std.proofs.lemmas.Option.{same_Some}
use Rattle.si_model.specs.Machine as machine
use Rattle.si_model.specs.Machine.{State, Writes, Open, InPhase, Wrote, Marked, Clashes, IsReached, Step, accepts, Begin, Begun, most_sessions}
use Rattle.si_model.specs.Refusing.{begin_full}
use Rattle.cell_key.specs.declared.refusals.Refusal.{Refusal}
use Rattle.cell_key.specs.declared.refusals.Refusal.TheVariants.{TooManySessions}
use Rattle.si_model.specs.Transactions.{Opens, is_open, begins}
use Rattle.si_model.specs.declared.replies.Cell.{Cell}
use Rattle.si_model.proofs.Acceptable.{begin_ok}
use Rattle.si_model.proofs.Bounds.{reached_bounds}
use Rattle.si_model.proofs.Steps.{reached_sound, reached_step}
use Rattle.si_model.proofs.Tools.{eq_test, ne_test, get_same, get_other, get_removed, get_remains}
use Rattle.audit.specs.Audits.{JudgesAct, JudgesOpening, Keeps, KeepsReached, SameEach, SameMembers, commit_of, phase_of, writes_of}
use Rattle.audit.specs.AuditOperations.{HasBefore, MayOpen}
use Rattle.audit.specs.AuditSteps.{ClashesSo}
use Rattle.audit.specs.declared.audit.Audit.{Audit}
use Rattle.audit.specs.declared.audit.parts.Commit.{Commit}
use Rattle.audit.specs.declared.audit.parts.Phase.{Phase}
use Rattle.audit.specs.declared.audit.parts.Write.{Write}
use Rattle.si_model.proofs.TakenWrites.{Taken}
use Rattle.audit.proofs.JudgedSessions.{in_phase, kept_open}
use Rattle.audit.proofs.JudgedSteps.{from_clash, to_clash, from_wrote}
use Rattle.audit.proofs.KeptMaps.{same_removed, count_removed}

abbrev pub begun_at : State → ℕ → State
begun_at st s = record st { top = s; begun = insert st.begun s []; active = insert st.active s Open }

module _ {X : Type 0} (m : FinMap nat_cmp X) (s : ℕ) (p : X) where
  -- without it, it isn't seen that it was put
  removed_again : remove (insert m s p) s ≡ remove m s
  removed_again = same_map nat_cmp_total nat_cmp-IsAntisymmetric (remove (insert m s p) s) (remove m s) each
    where
      each : (u : ℕ) → get (remove (insert m s p) s) u ≡ get (remove m s) u
      each u = elim (cases_eq u s) [
        | inl e ↦ subst (λ (u : ℕ). get (remove (insert m s p) s) u ≡ get (remove m s) u) (sym e) (get_removed (insert m s p) s ∙ sym (get_removed m s))
        | inr ne ↦ get_remains (insert m s p) s u ne ∙ (get_other m s p u ne ∙ sym (get_remains m s u ne))
      ]

module _ (old : Audit) (st : State) (has_come : IsReached st) (kept : Keeps old st) where
  -- a state in which the session is open and has these writes, and nothing else has changed
  pub record IsAt (s : ℕ) (mid : State) (all : Writes) : Type 0 where
    pub reached : IsReached mid
    pub active : InPhase mid s Open
    pub wrote : Wrote mid s all
    pub others : (u : ℕ) → u ≢ s → get mid.begun u ≡ get st.begun u
    pub less : remove mid.active s ≡ remove st.active s
    pub top : mid.top ≡ max st.top s
    pub rest : mid ≡ record st { top = mid.top; begun = mid.begun; active = mid.active }

  named_at : (t : ℕ) → InPhase st t Open → (before : Writes) × IsAt t st before
  named_at t h =
      let b = (reached_sound has_come).has_begun t Open h in
      let low = (reached_sound has_come).start_low t b.0 b.1 in (
        b.0,
        record {
          reached = has_come;
          active = h;
          wrote = b.1;
          others = λ u ne. refl;
          less = refl;
          top = sym (max-eq_left low);
          rest = refl;
        },
      )

  new_at : (t : ℕ) → st.top < t → Step st Begin (Begun t) (begun_at st t) → IsAt t (begun_at st t) []
  new_at t high step = record {
    reached = reached_step has_come step;
    active = get_same st.active t Open;
    wrote = get_same st.begun t [];
    others = λ u ne. get_other st.begun t [] u ne;
    less = removed_again st.active t Open;
    top = sym (max-eq_right (omega (arith, high)));
    rest = refl;
  }

  -- a session with its writes before the request
  pub record HasOpened (start s : ℕ) (mid : State) : Type 0 where
    pub before : Writes
    pub at : IsAt s mid before
    pub had : HasBefore old start before

  pub opens : (start s : ℕ) → MayOpen old start s → (mid : State) × Opens st start s mid × HasOpened start s mid
  opens start s (inl (ne, same, found)) =
      let h = in_phase old st start _ kept found in
      let n = named_at start h in
      subst (λ (t : ℕ). (mid : State) × Opens st start t mid × HasOpened start t mid) (sym same) (
        st,
        is_open h,
        record { before = n.0; at = n.1; had = inr (ne, from_wrote old st kept start n.1.wrote) },
      )
  opens start s (inr (is0, low, high, few)) =
      let count = kept.active_count in
      let top = kept.top in
      let step : Step st Begin (Begun s) (begun_at st s) = accepts (begin_ok (omega (arith, few, count))) (machine.begins (omega (arith, low, top), high)) in (
        begun_at st s,
        subst (λ (t : ℕ). Opens st t s (begun_at st s)) (sym is0) (begins step),
        record { before = []; at = new_at s (omega (arith, low, top)) step; had = inl (is0, refl) },
      )

  pub opened : (start s : ℕ) (mid : State) → Opens st start s mid → MayOpen old start s × HasOpened start s mid
  opened start s mid (is_open h) =
      let n = named_at s h in
      let from = (reached_bounds has_come).start_from s n.0 n.1.wrote in
      let ne : s ≢ 0 = λ e. absurd (omega (arith, from, e)) in
      (inl (ne, refl, kept_open old st s kept h), record { before = n.0; at = n.1; had = inr (ne, from_wrote old st kept s n.1.wrote) })
  opened start s mid (begins step) = began s mid step
    where
      began : (s : ℕ) (mid : State) → Step st Begin (Begun s) mid → MayOpen old 0 s × HasOpened 0 s mid
      began s mid (accepts ok (machine.begins d)) =
          let low = d.0 in
          let high = d.1 in
          let top = kept.top in
          let count = kept.active_count in (
            inr (
              refl,
              omega (arith, low, top),
              high,
              elim (cases_lt (btree.btree_map_len old.active) most_sessions) [
                | inl few ↦ few
                | inr full ↦ absurd (ok TooManySessions (begin_full (omega (arith, full, count))))
              ],
            ),
            record { before = []; at = new_at s low (accepts ok (machine.begins d)); had = inl (refl, refl) },
          )
      began s mid (accepts ok (machine.tells t)) = elim t [ ]

  -- the session takes writes
  pub then_taken : (s : ℕ) (mid written : State) (before all : Writes) → IsAt s mid before → Taken s mid written all → IsReached written → IsAt s written all
  then_taken s mid written before all at taken reached' = record {
    reached = reached';
    active = subst (λ (m : State). InPhase m s Open) (sym taken.rest) at.active;
    wrote = taken.wrote;
    others = λ u ne. taken.others u ne ∙ at.others u ne;
    less = ap (λ (m : State). remove m.active s) taken.rest ∙ at.less;
    top = ap (λ (m : State). m.top) taken.rest ∙ at.top;
    rest = taken.rest ∙ (ap (λ (m : State). record m { begun = written.begun }) at.rest ∙ ap (λ (m : State). record st { top = m.top; begun = written.begun; active = m.active }) (sym taken.rest));
  }

  -- the same writes before the request, as the audit finds them
  pub same_before : (start : ℕ) (a b : Writes) → HasBefore old start a → HasBefore old start b → a ≡ b
  same_before start a b (inl (is0, ea)) (inl (also, eb)) = ea ∙ sym eb
  same_before start a b (inl (is0, ea)) (inr (ne, h)) = absurd (ne is0)
  same_before start a b (inr (ne, h)) (inl (is0, eb)) = absurd (ne is0)
  same_before start a b (inr (ne, h)) (inr (also, h')) = same_Some a b (sym h ∙ h')

  module _ (s : ℕ) (at : State) (all : Writes) (is : IsAt s at all) where
    pub clash_so : (x : Cell) (t : ℕ) → Clashes at x t → ClashesSo old x t
    clash_so x t clash = from_clash old st kept t x (subst (λ (m : State). Clashes m x t) is.rest clash)

    pub so_clash : (x : Cell) (t : ℕ) → ClashesSo old x t → Clashes at x t
    so_clash x t clash = subst (λ (m : State). Clashes m x t) (sym is.rest) (to_clash old st kept t x clash)

    pub holds_none : (x : Cell) → ¬ Marked at x s
    holds_none x m = ((reached_sound is.reached).placed x s m).past Open is.active

    -- The session ends. The audit then has its writes, and this top.
    pub ends : (begun : btree.BTreeMap ℕ (Vec Write)) (active : btree.BTreeMap ℕ Phase) (commits : List Commit) (own : Vec Write) (top : ℕ) (next : State)
        → ((q : ℕ) → btree.get nat_cmp begun q ≡ cond (is_eq (nat_cmp s q)) (Some own) (btree.get nat_cmp old.begun q))
        → writes_of own ≡ all
        → ((q : ℕ) → btree.get nat_cmp active q ≡ cond (is_eq (nat_cmp s q)) None (btree.get nat_cmp old.active q))
        → btree.btree_map_len active + (if is_some (btree.get nat_cmp old.active s) then 1 else 0) ≡ btree.btree_map_len old.active
        → SameMembers (map commit_of commits) next.commits
        → next ≡ record at { top = top; active = remove at.active s; commits = next.commits }
        → Keeps (record old { top = top; begun = begun; active = active; commits = commits }) next
    ends begun active commits own top next at_begun own_is at_active len same form = subst (λ (n : State). Keeps after n) (sym whole) (record {
      top = refl;
      begun = wrote_each;
      active = same_removed phase_of old.active active st.active s at_active kept.active;
      active_count = count_removed phase_of old.active st.active s (btree.btree_map_len old.active) (btree.btree_map_len active) (btree.get nat_cmp old.active s) kept.active refl kept.active_count len;
      commits = same;
      dead = kept.dead;
      marks = kept.marks;
      cleaners = kept.cleaners;
      cleaners_count = kept.cleaners_count;
      next_cleaner = kept.next_cleaner;
      collectors = kept.collectors;
      collectors_count = kept.collectors_count;
      next_collector = kept.next_collector;
      floor = kept.floor;
      places = kept.places;
      next_tablet = kept.next_tablet;
    })
      where
        after : Audit
        after = record old { top = top; begun = begun; active = active; commits = commits }

        wrote_each : SameEach writes_of begun at.begun
        wrote_each q = elim (cases_eq q s) [
          | inl e ↦ ap (option_map writes_of) (at_begun q ∙ ap (λ (b : Bool). cond b (Some own) (btree.get nat_cmp old.begun q)) (eq_test s q (sym e))) ∙ (ap Some own_is ∙ (sym is.wrote ∙ ap (get at.begun) (sym e)))
          | inr ne ↦ ap (option_map writes_of) (at_begun q ∙ ap (λ (b : Bool). cond b (Some own) (btree.get nat_cmp old.begun q)) (ne_test s q (λ e. ne (sym e)))) ∙ (kept.begun q ∙ sym (is.others q ne))
        ]

        whole : next ≡ record st { top = top; begun = at.begun; active = remove st.active s; commits = next.commits }
        whole = form ∙ (ap (λ (m : State). record m { top = top; begun = at.begun; active = remove at.active s; commits = next.commits }) is.rest
            ∙ ap (λ (a : FinMap nat_cmp machine.Phase). record st { top = top; begun = at.begun; active = a; commits = next.commits }) is.less)

-- ---- the judgement of an opening

pub not_opening : (old : Audit) (start s : ℕ) → ¬ MayOpen old start s → (st next : State) → KeepsReached old st → Opens st start s next → ⊥
not_opening old start s not st next k o = not (opened old st k.0 k.1 start s next o).0

pub is_named : (old : Audit) (start s : ℕ) → start ≢ 0 → MayOpen old start s → (st : State) → KeepsReached old st → (next : State) × Opens st start s next × KeepsReached old next
is_named old start s ne (inl (ne', same, found)) st k = (st, subst (λ (t : ℕ). Opens st start t st) (sym same) (is_open (in_phase old st start _ k.1 found)), k)
is_named old start s ne (inr (is0, low, high, few)) st k = absurd (ne is0)

pub begins_session : (old new : Audit) (start s : ℕ) → start ≡ 0 → MayOpen old start s → (r : Result Bool Refusal) → JudgesAct old new Begin (Begun s) r → JudgesOpening old new start s r
begins_session old new start s is0 (inl (ne, same, found)) r h = absurd (ne is0)
begins_session old new start s is0 (inr (e, low, high, few)) r h = subst (λ (t : ℕ). JudgesOpening old new t s r) (sym is0) (judged r h)
  where
    judged : (r : Result Bool Refusal) → JudgesAct old new Begin (Begun s) r → JudgesOpening old new 0 s r
    judged (Ok true) goes_on = λ st k.
        let count = k.1.active_count in
        let n = goes_on st k.1 in
        let step : Step st Begin (Begun s) n.0 = accepts (begin_ok (omega (arith, few, count))) n.1 in
        (n.0, begins step, (reached_step k.0 step, n.2))
    judged (Ok false) none = (λ st next k o. no_step 0 s refl none.0 st next k o, none.1)
      where
        no_step : (t u : ℕ) → t ≡ 0 → ((st next : State) → Keeps old st → machine.Acts st Begin (Begun u) next → ⊥) → (st next : State) → KeepsReached old st → Opens st t u next → ⊥
        no_step t u e none st next k (begins (accepts ok acts)) = none st next k.1 acts
        no_step t u e none st next k (is_open h') = let b = (reached_bounds k.0).has_begun u Open h' in let from = (reached_bounds k.0).start_from u b.0 b.1 in absurd (omega (arith, from, e))
    judged (Err e) failed = failed

-- a session may be opened
pub some_session : (old : Audit) (start : ℕ) (o : Option ℕ) → is_some o ≡ true → IfSome o (MayOpen old start) → (s : ℕ) × MayOpen old start s
some_session old start None e h = absurd (cc)
some_session old start (Some s) e h = (s, h)
