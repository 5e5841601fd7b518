-- Steps that leave the tablets' places unchanged, and states that differ only in their tablets.
use Rattle.std.proofs.Common.{◌≡◌, ◌⊎◌, ℕ, inl, inr, List, Option, Some, None, refl}
use Rattle.std.specs.Prelude.{⊤}
use Rattle.si_model.specs.Machine.{State, Commit, Place, Request, Reply, Split, Move}
use Rattle.si_model.specs.Machine.{Acts, tells, begins, reads, scans, sets, deletes, holds, conflicts, draws, loses, commits, finishes, stops, opens, kills, learns, rolls_forward, rolls_back, finds_gone, collects, has_collected, splits, moves_tablet, Step, refuses, accepts}
use Rattle.si_model.specs.ShowsCells.{ShowsCells, ShowsMark, NamesCommit, IsForgotten, IsGiven, IsThere, MayLack}
use Rattle.si_model.specs.declared.replies.Cell.{Cell}
use Rattle.cell_key.specs.Cells.{Cells}
use Rattle.cell_key.specs.declared.keys.Qualifier.TheVariants.{Write}
use Rattle.txn_client.specs.Shows as clients
use Rattle.txn_client.specs.Shows.{ShowsAt, ShowsClients}
use Rattle.txn_client.specs.declared.sessions.Clients.{Clients}
use Rattle.txn_client.specs.declared.session.Session.{Session}

-- ---- steps that keep the tablets' places

-- the request doesn't ask for a change of the tablets' places
abbrev pub KeepsPlaces : Request → Type 0
KeepsPlaces (Split row) = ⊥
KeepsPlaces (Move tablet server) = ⊥
KeepsPlaces request = ⊤

module _ (st : State) where
  abbrev HasPlaces : State → Type 0
  HasPlaces next = (next.places ≡ st.places) × (next.next_tablet ≡ st.next_tablet)

  acts_keep : (q : Request) (r : Reply) (next : State) → Acts st q r next → KeepsPlaces q → HasPlaces next
  acts_keep _ _ _ (tells t) keeps = (refl, refl)
  acts_keep _ _ _ (begins d) keeps = (refl, refl)
  acts_keep _ _ _ (reads h none shown) keeps = (refl, refl)
  acts_keep _ _ _ (scans h is) keeps = (refl, refl)
  acts_keep _ _ _ (sets h w by) keeps = (refl, refl)
  acts_keep _ _ _ (deletes h w by) keeps = (refl, refl)
  acts_keep _ _ _ (holds h w puts free) keeps = (refl, refl)
  acts_keep _ _ _ (conflicts h w puts clash) keeps = (refl, refl)
  acts_keep _ _ _ (draws h w d) keeps = (refl, refl)
  acts_keep _ _ _ (loses h d) keeps = (refl, refl)
  acts_keep _ _ _ (commits h alive w puts less) keeps = (refl, refl)
  acts_keep _ _ _ (finishes h w puts less) keeps = (refl, refl)
  acts_keep _ _ _ (stops h) keeps = (refl, refl)
  acts_keep _ _ _ (opens m room) keeps = (refl, refl)
  acts_keep _ _ _ (kills is nc alive w puts less) keeps = (refl, refl)
  acts_keep _ _ _ (learns is fate) keeps = (refl, refl)
  acts_keep _ _ _ (rolls_forward is m committed less) keeps = (refl, refl)
  acts_keep _ _ _ (rolls_back is m nc less) keeps = (refl, refl)
  acts_keep _ _ _ (finds_gone is m) keeps = (refl, refl)
  acts_keep _ _ _ (collects is_floor room) keeps = (refl, refl)
  acts_keep _ _ _ (has_collected h none) keeps = (refl, refl)
  acts_keep _ _ _ (splits cut) keeps = absurd keeps
  acts_keep _ _ _ (moves_tablet is_moved) keeps = absurd keeps

  -- a step that isn't a split or a move leaves the places unchanged, and the next tablet's number
  pub keeps_places : (q : Request) (r : Reply) (next : State) → Step st q r next → KeepsPlaces q → (next.places ≡ st.places) × (next.next_tablet ≡ st.next_tablet)
  keeps_places q _ _ (refuses n) keeps = (refl, refl)
  keeps_places q r next (accepts ok a) keeps = acts_keep q r next a keeps

-- ---- the same transactions, with other tablets

-- the state with these places, and this number for the next tablet
abbrev pub placed : State → List Place → ℕ → State
placed st ps n = record st { places = ps; next_tablet = n }

module _ (st : State) (ps : List Place) (n : ℕ) where
  mark_placed : (cells : Cells) (x : Cell) (t : ℕ) → ShowsMark cells st x t → ShowsMark cells (placed st ps n) x t
  mark_placed cells x t m = record { first = m.first; is_first = m.is_first; change = m.change; is_change = m.is_change; text = m.text; lock = m.lock; is_text = m.is_text; value = m.value }

  commit_placed : (cells : Cells) (x : Cell) (c : ℕ) (b : List ℕ) → NamesCommit cells st x c b → NamesCommit cells (placed st ps n) x c b
  commit_placed cells x c b k = record { commit = k.commit; is_in = k.is_in; stamp = k.stamp; change = k.change; gives = k.gives; is_text = k.is_text; unmarked = k.unmarked; value = k.value }

  forgotten_placed : (cells : Cells) (x : Cell) (a : Commit) → IsForgotten cells st x a → IsForgotten cells (placed st ps n) x a
  forgotten_placed cells x a f = record { deletes = f.deletes; cleared = f.cleared; oldest = f.oldest }

  lacks_placed : (cells : Cells) (a : Commit) (x : Cell) → IsThere cells x Write a.stamp ⊎ MayLack cells st x a → IsThere cells x Write a.stamp ⊎ MayLack cells (placed st ps n) x a
  lacks_placed cells a x (inl is) = inl is
  lacks_placed cells a x (inr (inl replaced)) = inr (inl replaced)
  lacks_placed cells a x (inr (inr forgotten)) = inr (inr (forgotten_placed cells x a forgotten))

  given_placed : (x : Cell) (t : ℕ) (b : List ℕ) → IsGiven st x t b → IsGiven (placed st ps n) x t b
  given_placed x t b g = record { ws = g.ws; wrote = g.wrote; gives = g.gives; late = g.late }

  pub cells_placed : (cells : Cells) → ShowsCells cells st → ShowsCells cells (placed st ps n)
  cells_placed cells shown = record {
    marks = λ x t m. mark_placed cells x t (shown.marks x t m);
    locks = shown.locks;
    records = λ x c b there. commit_placed cells x c b (shown.records x c b there);
    commits = λ a is_in x writes unmarked. lacks_placed cells a x (shown.commits a is_in x writes unmarked);
    given = λ x t b there. given_placed x t b (shown.given x t b there);
  }

  at_placed : (kept : Option Session) (t : ℕ) → ShowsAt kept t st → ShowsAt kept t (placed st ps n)
  at_placed None t shown = shown
  at_placed (Some session) t shown = record { start = shown.start; phase = shown.phase; writes = shown.writes }

  clients_placed : (cl : Clients) → ShowsClients cl st → ShowsClients cl (placed st ps n)
  clients_placed cl shown = record { top = shown.top; sessions = λ t. at_placed _ t (shown.sessions t); count = shown.count }

  -- cells and sessions that show a state's transactions show them wherever the tablets are
  pub shows_placed : (cells : Cells) (cl : Clients) (last : ℕ) → clients.Shows cells cl last st → clients.Shows cells cl last (placed st ps n)
  shows_placed cells cl last shown = record { store = cells_placed cells shown.store; sessions = clients_placed cl shown.sessions; top = shown.top }
