-- A cleaner's decision at the first cell of a start, and that it stays right.
use Rattle.std.proofs.Common.{◌≡◌, ℕ, ◌<◌, ◌≤◌, ◌^◌, List, [], ◌∷◌, None, inl, inr, refl, sym, ap, subst, ◌∙◌, arith}
use Rattle.std.proofs.lemmas.Bool.{cases_eq, cases_lt}
use Rattle.std.proofs.lemmas.Option.{none-some}
use Rattle.cell_key.specs.Cells.{Cells}
use Rattle.cell_key.specs.declared.keys.Qualifier.TheVariants.{Lock, Write}
use Rattle.cell_key.specs.Columns.{IsRecordText}
use Rattle.cell_key.proofs.RecordTexts.{same_start}
use Rattle.si_model.specs.Sets.{◌∈◌, here, there}
use Rattle.si_model.specs.Laws.{Goes, FateOf}
use Rattle.si_model.specs.Machine.{State, Commit, Names, Marked, IsCommitted, Writes, Open, Puts, Request, Reply, Acts, Step}
use Rattle.si_model.specs.Servers.{IsReachedByServers}
use Rattle.si_model.specs.declared.replies.Cell.{Cell}
use Rattle.si_model.specs.ShowsCells.{at, IsThere, NamesAt, ShowsCells, kind_of_change}
use Rattle.si_model.specs.Enduring.{HasTried, HaveTried, Endures}
use Rattle.si_model.specs.Collection.{NamesNearest}
use Rattle.si_model.specs.Deciding.{FirstTells, Verdict, NotYet, Forward, Back, IsRight, Knows, CleanersKnow}
use Rattle.si_model.proofs.Tools.{same_entry}
use Rattle.si_model.proofs.Invariant.{StartsDiffer}
use Rattle.si_model.proofs.Steps.{servers_sound}
use Rattle.si_model.proofs.Bounds.{servers_bounds}
use Rattle.si_model.proofs.Fates.{fate_seen}
use Rattle.si_model.proofs.Goes.{acts_goes, goes}
use Rattle.si_model.proofs.LastingMarks.{acts_endures, have_tried, servers_endures}

-- a start has one commit
pub one_commit : (cs : List Commit) → StartsDiffer cs → (a b : Commit) → a ∈ cs → b ∈ cs → a.start ≡ b.start → a ≡ b
one_commit [] d a b i j e = elim i [ ]
one_commit (c ∷ cs) d a b here here e = refl
one_commit (c ∷ cs) d a b here (there j) e = absurd (d.0 b j (sym e))
one_commit (c ∷ cs) d a b (there i) here e = absurd (d.0 a i e)
one_commit (c ∷ cs) d a b (there i) (there j) e = one_commit cs d.1 a b i j e

right_stays : (st next : State) → Endures st next → (t : ℕ) (v : Verdict) → IsRight st t v → IsRight next t v
right_stays st next e t NotYet right = right
right_stays st next e t (Forward c) right = (right.0, e.committed (record { start = t; stamp = c; writes = right.0 }) right.1)
right_stays st next e t Back right = e.dead t right

pub knows_stays : (st next : State) → HaveTried st → Goes st next → Endures st next → CleanersKnow st next
knows_stays st next tried go e i k first v g knows = record {
  is_first = (knows.is_first.0, knows.is_first.1, go.wrote k.start knows.is_first.0 knows.is_first.2 (λ h. (tried.cleaned i k g).past Open h), knows.is_first.3);
  right = λ m. right_stays st next e k.start v (knows.right (e.gone k.cell k.start (tried.cleaned i k g) m));
}

-- the same of one cleaner, whoever has begun it
pub knows_on : {st next : State} {q : Request} {r : Reply} → IsReachedByServers st → Acts st q r next → (x : Cell) (t : ℕ) (first : Cell) (v : Verdict) → HasTried st x t → Knows st x t first v → Knows next x t first v
knows_on {st} {next} reached a x t first v tried knows = record {
  is_first = (knows.is_first.0, knows.is_first.1, (acts_goes reached a).wrote t knows.is_first.0 knows.is_first.2 (λ h. tried.past Open h), knows.is_first.3);
  right = λ m. right_stays st next (acts_endures reached a) t v (knows.right ((acts_endures reached a).gone x t tried m));
}

pub cleaners_know : (st next : State) (q : Request) (r : Reply) → IsReachedByServers st → Step st q r next → CleanersKnow st next
cleaners_know st next q r reached step = knows_stays st next (have_tried st reached) (goes reached step) (servers_endures st next q r reached step)

module _ (cells : Cells) (st : State) (reached : IsReachedByServers st) (shown : ShowsCells cells st) where
  commit_low : (a : Commit) → a ∈ st.commits → a.start < 2 ^ 64
  commit_low a i =
      let low = (servers_sound reached).start_low a.start a.writes ((servers_sound reached).fair a i).wrote in
      let top = (servers_bounds reached).top in
      omega arith

  -- the record that names a start is the first one above it
  named_first : (x : Cell) (t c d : ℕ) → t < 2 ^ 64 → t < d → d ≤ c → NamesAt cells x c t → IsThere cells x Write d → c ≡ d
  named_first x t c d low above most named other =
      let j = shown.records x c named.0 named.2 in
      let k = shown.records x d other.0 other.1 in
      let ej : j.commit.start ≡ t = same_start j.commit.start t (kind_of_change j.change) named.1 named.0 (commit_low j.commit j.is_in) low j.is_text named.3 in
      elim (cases_eq j.commit.start k.commit.start) [
        | inl same ↦ sym j.stamp ∙ (ap (λ (m : Commit). m.stamp) (one_commit st.commits (servers_sound reached).starts_differ j.commit k.commit j.is_in k.is_in same) ∙ k.stamp)
        | inr ne ↦ absurd (elim ((servers_sound reached).first_committer j.commit k.commit j.is_in k.is_in ne x (j.change, j.gives) (k.change, k.gives)) [
          | inl before ↦ let later = ((servers_sound reached).fair k.commit k.is_in).later in let e = j.stamp in let g = k.stamp in omega arith
          | inr before ↦ let g = k.stamp in omega arith
        ])
      ]

  pub names_nearest : NamesNearest cells st
  names_nearest x t c d low named above other = elim (cases_lt d c) [
    | inl less ↦ absurd (let e = named_first x t c d low above (omega arith) named other in omega arith)
    | inr most ↦ omega arith
  ]

  -- the first cell of a start tells its fate
  pub first_tells : FirstTells cells st
  first_tells t first is = record {
    locked = λ there. let m = shown.locks first t there.0 there.1 in ((λ c. fate.committed c m), (λ d. fate.dead d m));
    unlocked = λ gone i k g same. elim (fate.cleaned i k g same) [ inl m ↦ absurd (unmarked gone m) | inr f ↦ f ];
    forward = λ c named.
        let j = shown.records first c named.0 named.2 in
        let e : j.commit.start ≡ t = same_start j.commit.start t (kind_of_change j.change) named.1 named.0 (commit_low j.commit j.is_in) low j.is_text named.3 in
        (j.commit.writes, subst (λ (p : ℕ × ℕ). record { start = p.0; stamp = p.1; writes = j.commit.writes } ∈ st.commits) (λ i. (e i, j.stamp i)) j.is_in);
    back = λ gone none x m. elim (fate.marked x m) [
      | inl n ↦ absurd (unmarked gone n)
      | inr f ↦ elim f [ inl c ↦ absurd (uncommitted gone none x m c) | inr dead ↦ dead ]
    ];
  }
    where
      fate : FateOf st t first
      fate = fate_seen st reached t is.0 first is.1 is.2 is.3

      low : t < 2 ^ 64
      low = let to = (servers_bounds reached).start_to t is.0 is.2 in omega arith

      unmarked : at cells first Lock t ≡ None → ¬ Marked st first t
      unmarked gone m = none-some _ (sym gone ∙ (shown.marks first t m).lock)

      -- the record of a commit names its start
      named_by : (a : Commit) → a ∈ st.commits → IsThere cells first Write a.stamp → NamesAt cells first a.stamp a.start
      named_by a is_in old =
          let k = shown.records first a.stamp old.0 old.1 in
          let same : k.commit.start ≡ a.start = (servers_sound reached).stamps_differ k.commit a k.is_in is_in k.stamp in
          (old.0, kind_of_change k.change, old.1, subst (λ (u : ℕ). IsRecordText u (kind_of_change k.change) old.0) same k.is_text)

      uncommitted : at cells first Lock t ≡ None → ((c : ℕ) → t < c → ¬ NamesAt cells first c t) → (x : Cell) → Marked st x t → IsCommitted st t → ⊥
      uncommitted gone none x m (c, (ws, is_in)) =
          let a : Commit = record { start = t; stamp = c; writes = ws } in
          let f = (servers_sound reached).fair a is_in in
          let names : Names a.writes first = (is.1, (0, subst (λ (l : Writes). Puts l 0 first is.1) (same_entry st.begun t is.0 ws is.2 f.wrote) is.3)) in
          let later = f.later in
          elim (shown.commits a is_in first names (unmarked gone)) [
            | inl old ↦ none c later (named_by a is_in old)
            | inr lack ↦ elim lack [
              | inl r ↦ let above = r.3 in let below = r.4.1 x t m in omega arith
              | inr f ↦ let below = f.cleared.1 x t m in omega arith
            ]
          ]
