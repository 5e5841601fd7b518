-- The recovered state that an audit keeps: runs of the machine reach it.
use Rattle.std.proofs.Common.{◌≡◌, ◌∙◌, ℕ, ◌+◌, ◌<◌, ◌≤◌, max, inl, inr, ◌⊎◌, [], map, refl, sym, subst, ap, arith, lit<}
use Rattle.std.specs.Ordering.{nat_cmp}
use Rattle.std.specs.BTreeMap as btree
use Rattle.std.specs.FinMap.{FinMap, get-empty, insert, len, len-empty, empty}
use Rattle.std.specs.Global.{Vec}
use Rattle.std.proofs.Math.Nat.{max-eq_right}
use Rattle.std.proofs.lemmas.Option.{none-some}
use Rattle.si_model.specs.Machine as machine
use Rattle.si_model.specs.Machine.{State, Phase, Begin, CollectBegin, Begun, Collecting, Step, accepts, begins, collects, IsReached, reopens, reopened, end_of_stamps}
use Rattle.si_model.specs.Machine.IsFloor.{none_active}
use Rattle.si_model.specs.Recovered.{IsRecovered}
use Rattle.si_model.proofs.Acceptable.{begin_ok, collect_begin_ok}
use Rattle.si_model.proofs.Floors.{reached_floors}
use Rattle.si_model.proofs.Steps.{reached_step}
use Rattle.audit.specs.Audits.{IsBegunAt, Keeps, KeepsReached, Reopens, ReopensOver, SameEach, writes_of, write_of}
use Rattle.audit.specs.declared.audit.Audit.{Audit}
use Rattle.audit.specs.declared.audit.parts.Write.{Write}
use Rattle.audit.proofs.KeptMaps.{same_inserted}

-- ---- the machine

module _ (st : State) (mark : ℕ) (reached : IsReached st) (high : mark < end_of_stamps) where
  abbrev begun_at : State
  begun_at = record (reopened st) { top = mark; begun = insert st.begun mark []; active = insert empty mark machine.Open }

  begins_step : st.top < mark → Step (reopened st) Begin (Begun mark) begun_at
  begins_step low = accepts (begin_ok (let none : len (reopened st).active ≡ 0 = len-empty nat_cmp Phase in omega (arith, none))) (begins (low, high))

  reached_new : st.top < mark → IsReached (record (reopened st) { top = mark; begun = insert st.begun mark [] })
  reached_new low = reopens (reached_step (reopens reached) (begins_step low))

-- a collector begins and is forgotten
with_floor : (st : State) → IsReached (reopened st) → IsReached (record (reopened st) { floor = max st.floor (st.top + 1) })
with_floor st reached = reopens (reached_step reached step)
  where
    after : State
    after = record (reopened st) { collectors = insert empty 1 (st.top + 1); next_collector = 1 + 1; floor = max st.floor (st.top + 1) }

    step : Step (reopened st) CollectBegin (Collecting 1 (st.top + 1)) after
    step = accepts (collect_begin_ok (let none : len (reopened st).collectors ≡ 0 = len-empty nat_cmp ℕ in omega (arith, none)))
        (collects (none_active (λ u q h. none-some q (sym (get-empty nat_cmp u) ∙ h))) (lit< tt))

-- ---- the audit

module _ (old mid new : Audit) (mark : ℕ) (low : old.top ≤ mark) (high : mark ≤ 9_223_372_036_854_775_807) (is_begun : IsBegunAt mark old mid) (again : Reopens mid new) where
  after : (st st' : State) → KeepsReached old st → st'.top ≡ mark → st' ≡ record st { top = st'.top; begun = st'.begun } → IsReached (reopened st') → (st'.begun ≡ st.begun) ⊎ ((st.top < mark) × (st'.begun ≡ insert st.begun mark []))
      → (b : FinMap nat_cmp machine.Writes) → Keeps new (record (reopened st) { begun = b }) → SameEach writes_of new.begun st'.begun → (next : State) × ReopensOver mark st next × KeepsReached (record new { top = mark; floor = mark + 1 }) next
  after st st' k top form reached' starts b kept begun = (
    next,
    (let t = k.1.top in omega (arith, low, t), omega (arith, high), recovered),
    (subst IsReached same_floor (with_floor st' reached'), keeps),
  )
    where
      next : State
      next = record (reopened st) { top = mark; begun = st'.begun; floor = mark + 1 }

      floor_is : max st'.floor (st'.top + 1) ≡ mark + 1
      floor_is =
          let f : st'.floor ≡ st.floor = ap (λ (m : State). m.floor) form in
          let bound = (reached_floors k.0).low in
          let t = k.1.top in
          max-eq_right (omega (arith, f, bound, t, top, low)) ∙ ap (λ (n : ℕ). n + 1) top

      same_floor : ◌≡◌ {A = State} (record (reopened st') { floor = max st'.floor (st'.top + 1) }) next
      same_floor = ap (λ (f : ℕ). record (reopened st') { floor = f }) floor_is ∙ (ap (λ (m : State). record (reopened m) { floor = mark + 1 }) form ∙ ap (λ (n : ℕ). record (reopened st) { top = n; begun = st'.begun; floor = mark + 1 }) top)

      recovered : IsRecovered mark st next
      recovered = record {
        top = refl;
        floor = refl;
        begun = starts;
        active = refl;
        commits = refl;
        dead = refl;
        marks = refl;
        reads = refl;
        scans = refl;
        cleaners = refl;
        next_cleaner = refl;
        collectors = refl;
        next_collector = refl;
        places = refl;
        next_tablet = refl;
      }

      keeps : Keeps (record new { top = mark; floor = mark + 1 }) next
      keeps = record {
        top = refl;
        begun = begun;
        active = kept.active;
        active_count = kept.active_count;
        commits = kept.commits;
        dead = kept.dead;
        marks = kept.marks;
        cleaners = kept.cleaners;
        cleaners_count = kept.cleaners_count;
        next_cleaner = kept.next_cleaner;
        collectors = kept.collectors;
        collectors_count = kept.collectors_count;
        next_collector = kept.next_collector;
        floor = refl;
        places = kept.places;
        next_tablet = kept.next_tablet;
      }

  with_starts : (st : State) (b : btree.BTreeMap ℕ (Vec Write)) → Keeps old st → SameEach writes_of b (insert st.begun mark []) → Keeps (record old { begun = b }) (record st { begun = insert st.begun mark [] })
  with_starts st b kept begun = record {
    top = kept.top;
    begun = begun;
    active = kept.active;
    active_count = kept.active_count;
    commits = kept.commits;
    dead = kept.dead;
    marks = kept.marks;
    cleaners = kept.cleaners;
    cleaners_count = kept.cleaners_count;
    next_cleaner = kept.next_cleaner;
    collectors = kept.collectors;
    collectors_count = kept.collectors_count;
    next_collector = kept.next_collector;
    floor = kept.floor;
    places = kept.places;
    next_tablet = kept.next_tablet;
  }

  go : IsBegunAt mark old mid → (st : State) → KeepsReached old st → (next : State) × ReopensOver mark st next × KeepsReached (record new { top = mark; floor = mark + 1 }) next
  go (inl (ge, same)) st k =
      let t = k.1.top in
      let top : st.top ≡ mark = omega (arith, low, ge, t) in
      let kept = again st (subst (λ (a : Audit). Keeps a st) (sym same) k.1) in
      after st st k top refl (reopens k.0) (inl refl) st.begun kept kept.begun
  go (inr (lt, same, writes, none, at)) st k =
      let t = k.1.top in
      let less : st.top < mark = omega (arith, lt, t) in
      let begun : SameEach writes_of mid.begun (insert st.begun mark []) =
      subst (λ (l : machine.Writes). SameEach writes_of mid.begun (insert st.begun mark l)) (ap (map write_of) none) (same_inserted writes_of old.begun mid.begun st.begun mark writes at k.1.begun) in
      let kept = again (record st { begun = insert st.begun mark [] }) (subst (λ (a : Audit). Keeps a (record st { begun = insert st.begun mark [] })) (sym same) (with_starts st mid.begun k.1 begun)) in
      after st (record st { top = mark; begun = insert st.begun mark [] }) k refl refl (reached_new st mark k.0 (omega (arith, high)) less) (inr (less, refl)) (insert st.begun mark []) kept kept.begun

  pub recovers_to : (st : State) → KeepsReached old st → (next : State) × ReopensOver mark st next × KeepsReached (record new { top = mark; floor = mark + 1 }) next
  recovers_to = go is_begun
