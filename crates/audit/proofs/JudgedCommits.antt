-- Commits: the audit's state before and after them.
use Rattle.std.proofs.Common.{◌≡◌, ◌≢◌, ◌∙◌, ℕ, suc, ◌+◌, ◌<◌, ◌≤◌, max, inl, inr, ◌⊎◌, true, List, [], ◌∷◌, ◌++◌, length, map, Option, Some, None, refl, sym, subst, ap, arith}
use Rattle.std.specs.Prelude.{Result, Ok, Err, is_some, option_map, slice_get, cond, if◌then◌else◌, IfSome}
use Rattle.std.specs.Ordering.{nat_cmp, is_eq}
use Rattle.std.specs.BTreeMap as btree
use Rattle.std.specs.FinMap.{get, remove}
use Rattle.std.specs.Global.{Vec}
use Rattle.std.proofs.Math.Nat.{max-eq_right, max-eq_left}
use Rattle.std.proofs.lemmas.Bool.{cases_eq, cases_lt}
use Rattle.std.proofs.lemmas.Option.{none-some, same_Some, slice_get-map, slice_get_within}
use Rattle.cell_key.specs.declared.refusals.Refusal.{Refusal}
use Rattle.cell_key.specs.declared.refusals.Refusal.TheVariants.{EmptyCommit, NoMemory, UnknownSession, WrongPhase}
use Rattle.si_model.specs.Sets.{◌∈◌, here, there}
use Rattle.si_model.specs.Machine as machine
use Rattle.si_model.specs.Machine.{State, Change, Writes, Open, InPhase, Wrote, Puts, Clashes, Draws, accepts, stops, Refused, Refuses, IsStorageRefusal, Begin, end_of_stamps}
use Rattle.si_model.specs.Refusing.{advance_unknown, advance_empty}
use Rattle.si_model.specs.Refusing.Refuses.{applies_first, gives_up}
use Rattle.si_model.specs.TransactionLaws.{committed_state}
use Rattle.si_model.specs.Transactions.{Buffers, ClashesFirst, ComesTo, Commit, CommitConflict, CommitDone, Goes, Opens, Said, commits, conflicts, is_unknown, is_late, refuses, to_begin, to_write, to_step, transacts, request_of}
use Rattle.si_model.specs.Transactions as several
use Rattle.si_model.specs.declared.replies.Cell.{Cell}
use Rattle.si_model.proofs.Acceptable.{begin_ok, no_entry, stop_ok}
use Rattle.si_model.proofs.AllSteps.{Commits, all_steps}
use Rattle.si_model.proofs.FirstRefusals.{advance_empty_first}
use Rattle.si_model.proofs.Reached.{reached_buffers, stays_reached}
use Rattle.si_model.proofs.Steps.{reached_sound}
use Rattle.si_model.proofs.TakenWrites.{refuses_write, take_all}
use Rattle.si_model.proofs.Tools.{get_removed, same_entry}
use Rattle.audit.specs.Audits.{Keeps, KeepsReached, SameMembers, commit_of, phase_of, write_of, writes_of}
use Rattle.audit.specs.AuditOperations.{AreFree, ClashesAt, HasBefore, MayOpen, RefusesOnly}
use Rattle.audit.specs.AuditRefusals.{RefusesFirst, RefusesUnlessOpen}
use Rattle.audit.specs.AuditSteps.{ClashesSo}
use Rattle.si_model.specs.Takings.{IsRefusedWrite, TakesAll}
use Rattle.audit.specs.declared.audit.Audit.{Audit}
use Rattle.audit.specs.declared.audit.parts.Commit.{Commit as Kept}
use Rattle.audit.specs.declared.audit.parts.Phase.{Phase}
use Rattle.audit.specs.declared.audit.parts.Phase.TheVariants as phase
use Rattle.audit.specs.declared.audit.parts.Write.{Write}
use Rattle.audit.proofs.BufferedWrites.{TakesTo, refused_among, taken_all, takes_err, takes_ok}
use Rattle.audit.proofs.CommittedRuns.{commits_from_open, commits_some}
use Rattle.audit.proofs.JudgedRefusals.{only_first}
use Rattle.audit.proofs.JudgedSessions.{in_no_phase, in_phase}
use Rattle.audit.proofs.JudgedSteps.{pushed}
use Rattle.audit.proofs.OpenedSessions.{IsAt, clash_so, ends, holds_none, opened, opens, so_clash, then_taken}

-- the greater of two numbers below a third
max_below : (a b c : ℕ) → a < c → b < c → max a b < c
max_below a b c p q = elim (cases_lt a b) [
  | inl lt ↦ let e : max a b ≡ b = max-eq_right (omega (arith, lt)) in omega (arith, e, q)
  | inr ge ↦ let e : max a b ≡ a = max-eq_left ge in omega (arith, e, p)
]

below_max : (a b c : ℕ) → max a b < c → (a < c) × (b < c)
below_max a b c p = elim (cases_lt a b) [
  | inl lt ↦ let e : max a b ≡ b = max-eq_right (omega (arith, lt)) in (omega (arith, e, p, lt), omega (arith, e, p))
  | inr ge ↦ let e : max a b ≡ a = max-eq_left ge in (omega (arith, e, p), omega (arith, e, p, ge))
]

same_ok : {A : Type 0} (a b : A) → ◌≡◌ {A = Result A Refusal} (Ok a) (Ok b) → a ≡ b
same_ok a b e = ap (λ (r : Result _ Refusal). elim r [ Ok x ↦ x | Err n ↦ a ]) e

-- a phase that isn't open in the audit isn't in the machine
pub late_phase : (p : Phase) → p ≢ phase.Open → phase_of p ≡ Open → ⊥
late_phase phase.Open ne e = ne refl
late_phase (phase.Holding h) ne e = cc
late_phase (phase.Stamped c) ne e = cc
late_phase (phase.Finishing c h) ne e = cc

ok_err : {A : Type 0} (a : A) (n : Refusal) → ◌≡◌ {A = Result A Refusal} (Ok a) (Err n) → ⊥
ok_err a n e = cc

same_err : {A : Type 0} (m n : Refusal) → ◌≡◌ {A = Result A Refusal} (Err m) (Err n) → m ≡ n
same_err m n e = ap (λ (r : Result _ Refusal). elim r [ Ok x ↦ m | Err i ↦ i ]) e

some_length : (ws : List Write) → ws ≢ [] → 1 ≤ length (map write_of ws)
some_length [] some = absurd (some refl)
some_length (w ∷ ws) some = omega arith

placed_at : (ws : Writes) (w : Cell × Change) → w ∈ ws → (k : ℕ) × Puts ws k w.0 w.1
placed_at [] w i = elim i [ ]
placed_at (u ∷ ws) w here = (0, refl)
placed_at (u ∷ ws) w (there i) = let p = placed_at ws w i in (suc p.0, p.1)

-- there is a clash
pub some_clash : (old : Audit) (s : ℕ) (ws : List Write) (o : Option ℕ) → is_some o ≡ true → IfSome o (ClashesAt old s ws) → (k : ℕ) × ClashesAt old s ws k
some_clash old s ws None e h = absurd (cc)
some_clash old s ws (Some k) e h = (k, h)

-- why a Commit is refused, but by the storage
data Why (start : ℕ) (asked : Writes) (st : State) (n : Refusal) : Type 0 where
  unknown : start ≢ 0 → get st.active start ≡ None → n ≡ UnknownSession → Why start asked st n
  late : {p : machine.Phase} → start ≢ 0 → InPhase st start p → p ≢ Open → n ≡ WrongPhase → Why start asked st n
  full : start ≡ 0 → Refuses st Begin n → Why start asked st n
  in_write : {s : ℕ} {before : Writes} {mid far : State} (x : Cell) (v : Change) (after : Writes) → asked ≡ before ++ (x, v) ∷ after → Opens st start s mid → Buffers s mid before far → Refuses far (request_of s x v) n → Why start asked st n
  in_step : {s : ℕ} {mid written : State} → Opens st start s mid → Buffers s mid asked written → Refuses written (machine.Advance s) n → Why start asked st n

why_comes : {st far : State} {q : machine.Request} {n : Refusal} (start : ℕ) (asked : Writes) → ComesTo st start asked far q → Refuses far q n → Why start asked st n
why_comes start asked to_begin r = full refl r
why_comes start asked (to_write x v after is o b) r = in_write x v after is o b r
why_comes start asked (to_step o b) r = in_step o b r

module _ (old : Audit) (start : ℕ) (asked : Writes) where
  -- what taking the writes leads to
  abbrev pub ComesOut : Result Writes Refusal → Type 0
  ComesOut out = (before : Writes) → HasBefore old start before → TakesTo before asked out

  pub comes_ok : (all : Writes) → ((before : Writes) → HasBefore old start before → TakesAll before asked all) → ComesOut (Ok all)
  comes_ok all takes before had = takes_ok asked before all (takes before had)

  pub comes_err : (n : Refusal) → n ≢ NoMemory → ((before : Writes) → HasBefore old start before → (n ≡ NoMemory) ⊎ IsRefusedWrite before asked n) → ComesOut (Err n)
  comes_err n ne refused before had = elim (refused before had) [
    | inl e ↦ absurd (ne e)
    | inr r ↦ subst (λ (l : Writes). TakesTo before l (Err n)) (sym r.split) (takes_err r.first r.rest before r.mid r.write n r.taken (r.why, ne))
  ]

  module _ (st : State) (k : KeepsReached old st) where
    abbrev At : ℕ → State → Writes → Type 0
    At s mid all = IsAt old st k.0 k.1 s mid all

    buffered : (s : ℕ) (mid written : State) (out : Result Writes Refusal) → ComesOut out → Opens st start s mid → Buffers s mid asked written → MayOpen old start s × ((all : Writes) × (out ≡ Ok all) × At s written all)
    buffered s mid written out comes o buffers =
        let from = opened old st k.0 k.1 start s mid o in
        let h = from.1 in
        let t = taken_all s asked mid written h.before out h.at.wrote buffers (comes h.before h.had) in
        (from.0, (t.0, t.1, then_taken old st k.0 k.1 s mid written h.before t.0 h.at t.2 (reached_buffers h.at.reached buffers)))

    record Ready (s : ℕ) (all : Writes) : Type 0 where
      mid : State
      written : State
      opens : Opens st start s mid
      buffers : Buffers s mid asked written
      at : At s written all

    ready : (s : ℕ) (all : Writes) → MayOpen old start s → ((before : Writes) → HasBefore old start before → TakesAll before asked all) → Ready s all
    ready s all may takes =
        let o = opens old st k.0 k.1 start s may in
        let h = o.2 in
        let t = take_all s asked o.0 h.before all h.at.active h.at.wrote (takes h.before h.had) in
        record {
          mid = o.0;
          written = t.0;
          opens = o.1;
          buffers = t.1;
          at = then_taken old st k.0 k.1 s o.0 t.0 h.before all h.at t.2 (reached_buffers h.at.reached t.1);
        }

    -- the write that the audit has at an index
    at_index : (ws : List Write) (j : ℕ) (y : Cell) (v : Change) → Puts (map write_of ws) j y v → (w : Write) × (slice_get ws j ≡ Some w) × (w.cell ≡ y)
    at_index ws j y v puts = go (slice_get ws j) refl
      where
        go : (o : Option Write) → slice_get ws j ≡ o → (w : Write) × (slice_get ws j ≡ Some w) × (w.cell ≡ y)
        go None e = absurd (none-some (y, v) (sym (slice_get-map write_of ws j ∙ ap (option_map write_of) e) ∙ puts))
        go (Some w) e = (w, e, ap (λ (p : Cell × Change). p.0) (same_Some (write_of w) (y, v) (sym (slice_get-map write_of ws j ∙ ap (option_map write_of) e) ∙ puts)))

    puts_there : (ws : List Write) (j : ℕ) (w : Write) → slice_get ws j ≡ Some w → Puts (map write_of ws) j w.cell (write_of w).1
    puts_there ws j w e = slice_get-map write_of ws j ∙ ap (option_map write_of) e

  -- ---- committed

  module _ (s c : ℕ) where
    -- what each run tells in which it is committed
    pub record Ran (out : Result Writes Refusal) : Type 0 where
      pub may : MayOpen old start s
      pub after_start : s < c
      pub after_top : old.top < c
      pub below : c < end_of_stamps
      pub all : Writes
      pub out_is : out ≡ Ok all
      pub some : all ≢ []
      pub free : (j : ℕ) (x : Cell) (v : Change) → Puts all j x v → ¬ ClashesSo old x s

    ran : (st next : State) (out : Result Writes Refusal) → ComesOut out → KeepsReached old st → Goes st (Commit start asked) (CommitDone s c) next → Ran out
    ran st next out comes k (transacts (commits {ps = ps} {mid = mid} {written = written} o buffers run is_in ended)) =
        let b = buffered st k s mid written out comes o buffers in
        let all = b.1.0 in
        let at = b.1.2 in
        let told = commits_from_open s c all written next ps at.active at.wrote run is_in in
        let under = below_max st.top s c (let t = at.top in let d = told.1.0 in omega (arith, t, d)) in
        record {
          may = b.0;
          after_start = under.1;
          after_top = let t = k.1.top in let u = under.0 in omega (arith, t, u);
          below = told.1.1;
          all = all;
          out_is = b.1.1;
          some = commits_some s c all written next ps at.wrote run is_in;
          free = λ j x v puts clash. told.0 j x v puts (so_clash old st k.0 k.1 s written all at x s clash);
        }

    -- no run is committed, if one would tell what isn't so
    pub not_committed : (out : Result Writes Refusal) → ComesOut out → ¬ Ran out → (st next : State) → KeepsReached old st → Goes st (Commit start asked) (CommitDone s c) next → ⊥
    not_committed out comes not st next k goes = not (ran st next out comes k goes)

    pub not_opened : ¬ MayOpen old start s → (st next : State) → KeepsReached old st → Goes st (Commit start asked) (CommitDone s c) next → ⊥
    not_opened not st next k (transacts (commits {mid = mid} o buffers run is_in ended)) = not (opened old st k.0 k.1 start s mid o).0

    module _ (own : Vec Write) (takes : (before : Writes) → HasBefore old start before → TakesAll before asked (writes_of own)) where
      told_all : (run : Ran (Ok (writes_of own))) → writes_of own ≡ run.all
      told_all run = same_ok (writes_of own) run.all run.out_is

      pub not_stamped : (c ≤ s) ⊎ ((c ≤ old.top) ⊎ (9_223_372_036_854_775_807 < c)) → (st next : State) → KeepsReached old st → Goes st (Commit start asked) (CommitDone s c) next → ⊥
      not_stamped bad = not_committed (Ok (writes_of own)) (comes_ok (writes_of own) takes) (λ run. elim bad [
        | inl low ↦ let h = run.after_start in absurd (omega (arith, low, h))
        | inr (inl low) ↦ let h = run.after_top in absurd (omega (arith, low, h))
        | inr (inr high) ↦ let h = run.below in absurd (omega (arith, high, h))
      ])

      pub not_empty : own.items ≡ [] → (st next : State) → KeepsReached old st → Goes st (Commit start asked) (CommitDone s c) next → ⊥
      not_empty none = not_committed (Ok (writes_of own)) (comes_ok (writes_of own) takes) (λ run. run.some (sym (told_all run) ∙ ap (map write_of) none))

      pub not_clashing : (k : ℕ) → ClashesAt old s own.items k → (st next : State) → KeepsReached old st → Goes st (Commit start asked) (CommitDone s c) next → ⊥
      not_clashing k (w, at, clash, free) = not_committed (Ok (writes_of own)) (comes_ok (writes_of own) takes)
          (λ run. run.free k w.cell (write_of w).1 (subst (λ (l : Writes). Puts l k w.cell (write_of w).1) (told_all run) (slice_get-map write_of own.items k ∙ ap (option_map write_of) at)) clash)

      -- a commit
      pub committed : MayOpen old start s → s < c → old.top < c → c ≤ 9_223_372_036_854_775_807 → own.items ≢ [] → AreFree old s own.items (length own.items)
          → (begun : btree.BTreeMap ℕ (Vec Write)) (active : btree.BTreeMap ℕ Phase) (after : List Kept) (commit : Kept)
          → ((q : ℕ) → btree.get nat_cmp begun q ≡ cond (is_eq (nat_cmp s q)) (Some own) (btree.get nat_cmp old.begun q))
          → ((q : ℕ) → btree.get nat_cmp active q ≡ cond (is_eq (nat_cmp s q)) None (btree.get nat_cmp old.active q))
          → btree.btree_map_len active + (if is_some (btree.get nat_cmp old.active s) then 1 else 0) ≡ btree.btree_map_len old.active
          → commit_of commit ≡ record { start = s; stamp = c; writes = writes_of own } → after ≡ old.commits ++ commit ∷ []
          → (st : State) → KeepsReached old st → (next : State) × Goes st (Commit start asked) (CommitDone s c) next × KeepsReached (record old { top = c; begun = begun; active = active; commits = after }) next
      committed may above_start later below some free begun active after commit at_begun at_active len reads added st k = (next, goes, (stays_reached st next (Commit start asked) (CommitDone s c) k.0 goes, kept))
        where
          all : Writes
          all = writes_of own

          r : Ready st k s all
          r = ready st k s all may takes

          draw : Draws r.written c
          draw =
              let t = r.at.top in
              let top = k.1.top in
              let under = max_below st.top s c (omega (arith, top, later)) above_start in
              (omega (arith, t, under), omega (arith, below))

          free_here : (w : Cell × Change) → w ∈ all → ¬ Clashes r.written w.0 s
          free_here w i clash =
              let p = placed_at all w i in
              let u = at_index st k own.items p.0 w.0 w.1 p.1 in
              let within = slice_get_within own.items p.0 u.0 u.1 in
              free p.0 u.0 within u.1 (subst (λ (y : Cell). ClashesSo old y s) (sym u.2) (clash_so old st k.0 k.1 s r.written all r.at w.0 s clash))

          some_here : 1 ≤ length all
          some_here = some_length own.items some

          next : State
          next = committed_state r.written s c all

          steps : Commits s all some_here c r.written next
          steps = all_steps r.written s c all r.at.reached r.at.active r.at.wrote some_here ((reached_sound r.at.reached).cells_differ s all r.at.wrote) free_here (holds_none old st k.0 k.1 s r.written all r.at) draw

          goes : Goes st (Commit start asked) (CommitDone s c) next
          goes = transacts (commits r.opens r.buffers steps.run steps.is_in (get_removed r.written.active s))

          same : SameMembers (map commit_of after) next.commits
          same = subst (λ (l : List machine.Commit). SameMembers (map commit_of after) (record { start = s; stamp = c; writes = all } ∷ l)) (sym (ap (λ (m : State). m.commits) r.at.rest))
              (pushed commit_of old.commits after commit (record { start = s; stamp = c; writes = all }) st.commits added reads k.1.commits)

          kept : Keeps (record old { top = c; begun = begun; active = active; commits = after }) next
          kept = ends old st k.0 k.1 s r.written all r.at begun active after own c next at_begun refl at_active len same refl

  -- ---- a conflict

  module _ (s place : ℕ) where
    -- what each run tells that ends with the conflict
    record Clashed (out : Result Writes Refusal) : Type 0 where
      all : Writes
      out_is : out ≡ Ok all
      index : ℕ
      place_is : place ≡ index + 1
      cell : Cell
      change : Change
      puts : Puts all index cell change
      clash : ClashesSo old cell s
      free : (j : ℕ) (y : Cell) (w : Change) → j < index → Puts all j y w → ¬ ClashesSo old y s

    clashed : (st next : State) (out : Result Writes Refusal) → ComesOut out → KeepsReached old st → Goes st (Commit start asked) (CommitConflict s place) next → Clashed out
    clashed st next out comes k (transacts (conflicts {mid = mid} {written = written} o buffers (ws, index, x, v, wrote, puts, is, clash, free) end)) =
        let b = buffered st k s mid written out comes o buffers in
        let all = b.1.0 in
        let at = b.1.2 in
        let same : ws ≡ all = same_entry written.begun s ws all wrote at.wrote in
        record {
          all = all;
          out_is = b.1.1;
          index = index;
          place_is = is;
          cell = x;
          change = v;
          puts = subst (λ (l : Writes). Puts l index x v) same puts;
          clash = clash_so old st k.0 k.1 s written all at x s clash;
          free = λ j y w less p c. free j y w less (subst (λ (l : Writes). Puts l j y w) (sym same) p) (so_clash old st k.0 k.1 s written all at y s c);
        }

    module _ (own : Vec Write) (takes : (before : Writes) → HasBefore old start before → TakesAll before asked (writes_of own)) where
      clashed_own : (st next : State) → KeepsReached old st → Goes st (Commit start asked) (CommitConflict s place) next → Clashed (Ok (writes_of own))
      clashed_own st next k goes = clashed st next (Ok (writes_of own)) (comes_ok (writes_of own) takes) k goes

      own_put : (c : Clashed (Ok (writes_of own))) (j : ℕ) (y : Cell) (v : Change) → Puts c.all j y v → Puts (map write_of own.items) j y v
      own_put c j y v = subst (λ (l : Writes). Puts l j y v) (sym (same_ok (writes_of own) c.all c.out_is))

      all_put : (c : Clashed (Ok (writes_of own))) (j : ℕ) (y : Cell) (v : Change) → Puts (map write_of own.items) j y v → Puts c.all j y v
      all_put c j y v = subst (λ (l : Writes). Puts l j y v) (same_ok (writes_of own) c.all c.out_is)

      pub no_clash : AreFree old s own.items (length own.items) → (st next : State) → KeepsReached old st → Goes st (Commit start asked) (CommitConflict s place) next → ⊥
      no_clash free st next k goes =
          let c = clashed_own st next k goes in
          let w = at_index st k own.items c.index c.cell c.change (own_put c c.index c.cell c.change c.puts) in
          free c.index w.0 (slice_get_within own.items c.index w.0 w.1) w.1 (subst (λ (y : Cell). ClashesSo old y s) (sym w.2) c.clash)

      pub another_place : (k : ℕ) → ClashesAt old s own.items k → place ≢ k + 1 → (st next : State) → KeepsReached old st → Goes st (Commit start asked) (CommitConflict s place) next → ⊥
      another_place i (w, at, clash, free) ne st next k goes =
          let c = clashed_own st next k goes in
          elim (cases_lt c.index i) [
            | inl less ↦
                let u = at_index st k own.items c.index c.cell c.change (own_put c c.index c.cell c.change c.puts) in
                free c.index u.0 less u.1 (subst (λ (y : Cell). ClashesSo old y s) (sym u.2) c.clash)
            | inr ge ↦ elim (cases_lt i c.index) [
              | inl less ↦ c.free i w.cell (write_of w).1 less (all_put c i w.cell (write_of w).1 (slice_get-map write_of own.items i ∙ ap (option_map write_of) at)) clash
              | inr le ↦ let is = c.place_is in ne (omega (arith, is, ge, le))
            ]
          ]

      pub conflicted : MayOpen old start s → (i : ℕ) → ClashesAt old s own.items i → place ≡ i + 1
          → (begun : btree.BTreeMap ℕ (Vec Write)) (active : btree.BTreeMap ℕ Phase)
          → ((q : ℕ) → btree.get nat_cmp begun q ≡ cond (is_eq (nat_cmp s q)) (Some own) (btree.get nat_cmp old.begun q))
          → ((q : ℕ) → btree.get nat_cmp active q ≡ cond (is_eq (nat_cmp s q)) None (btree.get nat_cmp old.active q))
          → btree.btree_map_len active + (if is_some (btree.get nat_cmp old.active s) then 1 else 0) ≡ btree.btree_map_len old.active
          → (st : State) → KeepsReached old st → (next : State) × Goes st (Commit start asked) (CommitConflict s place) next × KeepsReached (record old { top = max old.top s; begun = begun; active = active }) next
      conflicted may i (w, at, clash, free) is begun active at_begun at_active len st k = (next, goes, (stays_reached st next (Commit start asked) (CommitConflict s place) k.0 goes, kept))
        where
          all : Writes
          all = writes_of own

          r : Ready st k s all
          r = ready st k s all may takes

          next : State
          next = record r.written { active = remove r.written.active s }

          first : ClashesFirst r.written s place
          first = (
            all,
            i,
            w.cell,
            (write_of w).1,
            r.at.wrote,
            slice_get-map write_of own.items i ∙ ap (option_map write_of) at,
            is,
            so_clash old st k.0 k.1 s r.written all r.at w.cell s clash,
            λ j y v less puts c. let u = at_index st k own.items j y v puts in free j u.0 less u.1 (subst (λ (z : Cell). ClashesSo old z s) (sym u.2) (clash_so old st k.0 k.1 s r.written all r.at y s c)),
          )

          goes : Goes st (Commit start asked) (CommitConflict s place) next
          goes = transacts (conflicts r.opens r.buffers first (accepts (stop_ok Open r.at.active) (stops r.at.active)))

          same : SameMembers (map commit_of old.commits) next.commits
          same = subst (λ (l : List machine.Commit). SameMembers (map commit_of old.commits) l) (sym (ap (λ (m : State). m.commits) r.at.rest)) k.1.commits

          top : r.written.top ≡ max old.top s
          top = r.at.top ∙ ap (λ (n : ℕ). max n s) (sym k.1.top)

          kept : Keeps (record old { top = max old.top s; begun = begun; active = active }) next
          kept = ends old st k.0 k.1 s r.written all r.at begun active old.commits own (max old.top s) next at_begun refl at_active len same (ap (λ (n : ℕ). record r.written { top = n; active = remove r.written.active s }) top)

    -- without the session there is none
    pub no_conflict : ¬ MayOpen old start s → (st next : State) → KeepsReached old st → Goes st (Commit start asked) (CommitConflict s place) next → ⊥
    no_conflict not st next k (transacts (conflicts {mid = mid} o buffers first end)) = not (opened old st k.0 k.1 start s mid o).0

  -- with a write that is refused there is neither
  pub not_taken : (n : Refusal) → ComesOut (Err n) → (st next : State) (s c place : ℕ) → KeepsReached old st
      → (Goes st (Commit start asked) (CommitDone s c) next → ⊥) × (Goes st (Commit start asked) (CommitConflict s place) next → ⊥)
  not_taken n comes st next s c place k = (done next, conflict next)
    where
      done : (next : State) → Goes st (Commit start asked) (CommitDone s c) next → ⊥
      done next (transacts (commits {mid = mid} {written = written} o buffers run is_in ended)) = let b = buffered st k s mid written (Err n) comes o buffers in ok_err b.1.0 n (sym b.1.1)

      conflict : (next : State) → Goes st (Commit start asked) (CommitConflict s place) next → ⊥
      conflict next (transacts (conflicts {mid = mid} {written = written} o buffers first end)) = let b = buffered st k s mid written (Err n) comes o buffers in ok_err b.1.0 n (sym b.1.1)

  -- ---- refusals

  why_of : {st next : State} {n : Refusal} → ¬ IsStorageRefusal n → Goes st (Commit start asked) (Said (Refused n)) next → Why start asked st n × (next ≡ st)
  why_of not (transacts (is_unknown ne none)) = (unknown ne none refl, refl)
  why_of not (transacts (is_late ne h l)) = (late ne h l refl, refl)
  why_of not (transacts (several.gives_up g)) = absurd (not g)
  why_of not (transacts (refuses comes r)) = (why_comes start asked comes r, refl)

  -- the one refusal, if each cause leads to it
  only : (found : Option Refusal) → ((st : State) (n : Refusal) → KeepsReached old st → ¬ IsStorageRefusal n → found ≡ Some n → Goes st (Commit start asked) (Said (Refused n)) st)
      → ((st : State) (n : Refusal) → KeepsReached old st → ¬ IsStorageRefusal n → Why start asked st n → found ≡ Some n) → RefusesOnly old (Commit start asked) found
  only found to from st next n k not = (to st n k not, λ goes. let w = why_of not goes in (from st n k not w.0, w.1))

  module _ (none : (s : ℕ) → ¬ MayOpen old start s) where
    opens_none : (st : State) → KeepsReached old st → {s : ℕ} {mid : State} → Opens st start s mid → ⊥
    opens_none st k {s} {mid} o = none s (opened old st k.0 k.1 start s mid o).0

    unopened_named : (ne : start ≢ 0) (found : Option Refusal) → RefusesUnlessOpen old start found → RefusesOnly old (Commit start asked) found
    unopened_named ne None h = absurd (none start (inl (ne, refl, h)))
    unopened_named ne (Some UnknownSession) h = only (Some UnknownSession)
        (λ st n k not e. subst (λ (m : Refusal). Goes st (Commit start asked) (Said (Refused m)) st) (same_Some UnknownSession n e) (transacts (is_unknown ne (in_no_phase old st start k.1 h))))
        (λ st n k not why. from st n k why)
      where
        from : (st : State) (n : Refusal) → KeepsReached old st → Why start asked st n → Some UnknownSession ≡ Some n
        from st n k (unknown ne' e is) = ap Some (sym is)
        from st n k (late {p = p} ne' g l is) = absurd (none-some p (sym (in_no_phase old st start k.1 h) ∙ g))
        from st n k (full is0 r) = absurd (ne is0)
        from st n k (in_write x v after is o b r) = absurd (opens_none st k o)
        from st n k (in_step o b r) = absurd (opens_none st k o)
    unopened_named ne (Some WrongPhase) h = only (Some WrongPhase)
        (λ st n k not e. subst (λ (m : Refusal). Goes st (Commit start asked) (Said (Refused m)) st) (same_Some WrongPhase n e) (transacts (is_late ne (in_phase old st start h.0 k.1 h.1) (λ is. late_phase h.0 h.2 is))))
        (λ st n k not why. from st n k why)
      where
        from : (st : State) (n : Refusal) → KeepsReached old st → Why start asked st n → Some WrongPhase ≡ Some n
        from st n k (unknown ne' e is) = absurd (none-some _ (sym e ∙ in_phase old st start h.0 k.1 h.1))
        from st n k (late ne' g l is) = ap Some (sym is)
        from st n k (full is0 r) = absurd (ne is0)
        from st n k (in_write x v after is o b r) = absurd (opens_none st k o)
        from st n k (in_step o b r) = absurd (opens_none st k o)
    unopened_named ne (Some _) h = absurd h

    unopened_new : (is0 : start ≡ 0) (found : Option Refusal) → RefusesFirst old Begin found → RefusesOnly old (Commit start asked) found
    unopened_new is0 None h = only None (λ st n k not e. absurd (none-some n e)) (λ st n k not why. absurd (from st n k not why))
      where
        from : (st : State) (n : Refusal) → KeepsReached old st → ¬ IsStorageRefusal n → Why start asked st n → ⊥
        from st n k not (unknown ne e is) = ne is0
        from st n k not (late ne g l is) = ne is0
        from st n k not (full e (applies_first f)) = h st k.1 n f.applies
        from st n k not (full e (gives_up g)) = not g
        from st n k not (in_write x v after is o b r) = opens_none st k o
        from st n k not (in_step o b r) = opens_none st k o
    unopened_new is0 (Some m) h = only (Some m)
        (λ st n k not e. subst (λ (i : Refusal). Goes st (Commit start asked) (Said (Refused i)) st) (same_Some m n e)
        (subst (λ (t : ℕ). Goes st (Commit t asked) (Said (Refused m)) st) (sym is0) (transacts (refuses to_begin (applies_first (h st k.1))))))
        (λ st n k not why. from st n k not why)
      where
        from : (st : State) (n : Refusal) → KeepsReached old st → ¬ IsStorageRefusal n → Why start asked st n → Some m ≡ Some n
        from st n k not (unknown ne e is) = absurd (ne is0)
        from st n k not (late ne g l is) = absurd (ne is0)
        from st n k not (full e r) = ap Some (only_first st Begin m n (h st k.1) not r)
        from st n k not (in_write x v after is o b r) = absurd (opens_none st k o)
        from st n k not (in_step o b r) = absurd (opens_none st k o)

    pub unopened : (found : Option Refusal) → (start ≢ 0 → RefusesUnlessOpen old start found) → (start ≡ 0 → RefusesFirst old Begin found) → RefusesOnly old (Commit start asked) found
    unopened found named new = elim (cases_eq start 0) [ inl is0 ↦ unopened_new is0 found (new is0) | inr ne ↦ unopened_named ne found (named ne) ]

  module _ (s : ℕ) (may : MayOpen old start s) where
    -- a session opens: then the refusal is that of a write, or of the first step
    data Inside (st : State) (n : Refusal) : Type 0 where
      write : {u : ℕ} {before : Writes} {mid far : State} (x : Cell) (v : Change) (after : Writes) → asked ≡ before ++ (x, v) ∷ after → Opens st start u mid → Buffers u mid before far → Refuses far (request_of u x v) n → Inside st n
      step : {u : ℕ} {mid written : State} → Opens st start u mid → Buffers u mid asked written → Refuses written (machine.Advance u) n → Inside st n

    inside : (st : State) (n : Refusal) → KeepsReached old st → ¬ IsStorageRefusal n → Why start asked st n → Inside st n
    inside st n k not (in_write x v after is o b r) = write x v after is o b r
    inside st n k not (in_step o b r) = step o b r
    inside st n k not (unknown ne e is) = absurd (no_phase may)
      where
        no_phase : MayOpen old start s → ⊥
        no_phase (inl (ne', same, h)) = none-some _ (sym e ∙ in_phase old st start _ k.1 h)
        no_phase (inr (is0, low, high, few)) = ne is0
    inside st n k not (late {p = p} ne g l is) = absurd (no_phase may)
      where
        no_phase : MayOpen old start s → ⊥
        no_phase (inl (ne', same, h)) = l (same_Some p Open (sym g ∙ in_phase old st start _ k.1 h))
        no_phase (inr (is0, low, high, few)) = ne is0
    inside st n k not (full is0 r) = absurd (no_room may r)
      where
        no_room : MayOpen old start s → Refuses st Begin n → ⊥
        no_room (inl (ne, same, found)) r = ne is0
        no_room (inr (e, low, high, few)) (applies_first f) = let count = k.1.active_count in begin_ok (omega (arith, few, count)) n f.applies
        no_room (inr (e, low, high, few)) (gives_up g) = not g

    outcome : (st : State) (n : Refusal) (out : Result Writes Refusal) → ComesOut out → KeepsReached old st → ¬ IsStorageRefusal n → Inside st n → (out ≡ Err n) ⊎ ((out ≡ Ok []) × (n ≡ EmptyCommit))
    outcome st n out comes k not (write {u = u} {before = first} {mid = mid} {far = far} x v after is o b r) =
        let h = (opened old st k.0 k.1 start u mid o).1 in
        inl (refused_among u first after mid far x v h.before n out h.at.active h.at.wrote b r not (subst (λ (l : Writes). TakesTo h.before l out) is (comes h.before h.had)))
    outcome st n out comes k not (step {u = u} {mid = mid} {written = written} o b r) =
        let t = buffered st k u mid written out comes o b in
        let e = first_step written n not t.1.0 t.1.2.active t.1.2.wrote r in
        inr (t.1.1 ∙ ap Ok e.0, e.1)
      where
        applied : (written : State) (all : Writes) → InPhase written u Open → Wrote written u all → (n : Refusal) → machine.Applies written (machine.Advance u) n → (all ≡ []) × (n ≡ EmptyCommit)
        applied written all h w _ (advance_unknown e) = absurd (no_entry written.active u Open h e)
        applied written all h w _ (advance_empty e) = (same_entry written.begun u all [] w e, refl)

        first_step : (written : State) (n : Refusal) → ¬ IsStorageRefusal n → (all : Writes) → InPhase written u Open → Wrote written u all → Refuses written (machine.Advance u) n → (all ≡ []) × (n ≡ EmptyCommit)
        first_step written n not all h w (gives_up g) = absurd (not g)
        first_step written n not all h w (applies_first f) = applied written all h w n f.applies

    pub refused_write : (n : Refusal) → n ≢ NoMemory → ((before : Writes) → HasBefore old start before → (n ≡ NoMemory) ⊎ IsRefusedWrite before asked n) → RefusesOnly old (Commit start asked) (Some n)
    refused_write n ne refused = only (Some n) to from
      where
        to : (st : State) (m : Refusal) → KeepsReached old st → ¬ IsStorageRefusal m → Some n ≡ Some m → Goes st (Commit start asked) (Said (Refused m)) st
        to st m k not e =
            let o = opens old st k.0 k.1 start s may in
            let h = o.2 in
            subst (λ (i : Refusal). Goes st (Commit start asked) (Said (Refused i)) st) (same_Some n m e) (elim (refused h.before h.had) [
              | inl e ↦ absurd (ne e)
              | inr r ↦
                  let t = take_all s r.first o.0 h.before r.mid h.at.active h.at.wrote r.taken in
                  transacts (refuses (to_write r.write.0 r.write.1 r.rest r.split o.1 t.1)
                  (refuses_write s t.0 r.write.0 r.write.1 r.mid n (subst (λ (q : State). InPhase q s Open) (sym t.2.rest) h.at.active) t.2.wrote r.why))
            ])

        from : (st : State) (m : Refusal) → KeepsReached old st → ¬ IsStorageRefusal m → Why start asked st m → Some n ≡ Some m
        from st m k not why = elim (outcome st m (Err n) (comes_err n ne refused) k not (inside st m k not why)) [
          | inl e ↦ ap Some (same_err n m e)
          | inr p ↦ absurd (ok_err [] n (sym p.0))
        ]

    module _ (own : Vec Write) (takes : (before : Writes) → HasBefore old start before → TakesAll before asked (writes_of own)) where
      pub refused_empty : own.items ≡ [] → RefusesOnly old (Commit start asked) (Some EmptyCommit)
      refused_empty none = only (Some EmptyCommit) to from
        where
          to : (st : State) (m : Refusal) → KeepsReached old st → ¬ IsStorageRefusal m → Some EmptyCommit ≡ Some m → Goes st (Commit start asked) (Said (Refused m)) st
          to st m k not e =
              let r = ready st k s (writes_of own) may takes in
              subst (λ (i : Refusal). Goes st (Commit start asked) (Said (Refused i)) st) (same_Some EmptyCommit m e)
              (transacts (refuses (to_step r.opens r.buffers) (advance_empty_first Open r.at.active (r.at.wrote ∙ ap (λ (l : List Write). Some (map write_of l)) none))))

          from : (st : State) (m : Refusal) → KeepsReached old st → ¬ IsStorageRefusal m → Why start asked st m → Some EmptyCommit ≡ Some m
          from st m k not why = elim (outcome st m (Ok (writes_of own)) (comes_ok (writes_of own) takes) k not (inside st m k not why)) [
            | inl e ↦ absurd (ok_err (writes_of own) m e)
            | inr p ↦ ap Some (sym p.1)
          ]

      pub refused_never : own.items ≢ [] → RefusesOnly old (Commit start asked) None
      refused_never some = only None (λ st m k not e. absurd (none-some m e)) (λ st m k not why. elim (outcome st m (Ok (writes_of own)) (comes_ok (writes_of own) takes) k not (inside st m k not why)) [
        | inl e ↦ absurd (ok_err (writes_of own) m e)
        | inr p ↦ absurd (unmapped own.items some (same_ok (writes_of own) [] p.0))
      ])
        where
          unmapped : (ws : List Write) → ws ≢ [] → map write_of ws ≡ [] → ⊥
          unmapped [] ne e = ne refl
          unmapped (w ∷ ws) ne e = cc
