-- What holds of a state holds of one with other cleaners and collectors, and cells show the machine if they show what a
-- server sees of it.
use Rattle.std.proofs.Common.{◌≡◌, ℕ, List, Some, inl, inr}
use Rattle.cell_key.specs.Cells.{Cells}
use Rattle.cell_key.specs.declared.keys.Qualifier.TheVariants.{Data}
use Rattle.si_model.specs.Deciding.{Knows, Verdict}
use Rattle.si_model.specs.Enduring.{HasTried}
use Rattle.si_model.specs.Machine.{State, Commit, Cleaner, Open, InPhase}
use Rattle.si_model.specs.Servers.{Own, IsPartOf, IsRightCleaner, view}
use Rattle.si_model.specs.ShowsCells.{at, ShowsCells, ShowsMark, NamesCommit, MayLack}
use Rattle.si_model.specs.declared.replies.Cell.{Cell}
use Rattle.servers_model.specs.Merged.{turn_of}

-- ---- other cleaners and collectors

module _ (st : State) (own : Own) where
  turn_tried : (x : Cell) (t : ℕ) → HasTried st x t → HasTried (turn_of st own) x t
  turn_tried x t p = record { ws = p.ws; k = p.k; v = p.v; wrote = p.wrote; puts = p.puts; past = p.past }

  pub turn_right : (k : Cleaner) → IsRightCleaner st k → IsRightCleaner (turn_of st own) k
  turn_right k right = record { tried = turn_tried k.cell k.start right.tried; known = right.known; decided = right.decided }

  -- another server's part
  pub turn_part : (other : Own) → IsPartOf other st → IsPartOf other (turn_of st own)
  turn_part other part = record {
    sessions = part.sessions;
    cleaners = λ i k h. turn_right k (part.cleaners i k h);
    collectors = part.collectors;
    cleaner_numbers = part.cleaner_numbers;
    collector_numbers = part.collector_numbers;
  }

  -- the server's part, with the sessions of all
  pub all_part : IsPartOf own st → IsPartOf (record own { sessions = st.active }) st
  all_part part = record {
    sessions = λ t p h. h;
    cleaners = part.cleaners;
    collectors = part.collectors;
    cleaner_numbers = part.cleaner_numbers;
    collector_numbers = part.collector_numbers;
  }

-- what a cleaner knows doesn't depend on sessions, cleaners and collectors
pub view_knows : (st : State) (own : Own) (x : Cell) (t : ℕ) (first : Cell) (v : Verdict) → Knows st x t first v → Knows (view st own) x t first v
view_knows st own x t first v k = record { is_first = k.is_first; right = k.right }

pub knows_whole : (st : State) (own : Own) (x : Cell) (t : ℕ) (first : Cell) (v : Verdict) → Knows (view st own) x t first v → Knows st x t first v
knows_whole st own x t first v k = record { is_first = k.is_first; right = k.right }

-- ---- cells

-- what cells show of what is seen, they show of the whole, if the sessions of others have no data while they are open
module _ (cells : Cells) (st : State) (own : Own) (shown : ShowsCells cells (view st own))
    (late : (x : Cell) (t : ℕ) (b : List ℕ) → at cells x Data t ≡ Some b → ¬ InPhase st t Open) where
  mark_whole : (x : Cell) (t : ℕ) → ShowsMark cells (view st own) x t → ShowsMark cells st x t
  mark_whole x t k = record { first = k.first; is_first = k.is_first; change = k.change; is_change = k.is_change; text = k.text; lock = k.lock; is_text = k.is_text; value = k.value }

  record_whole : (x : Cell) (c : ℕ) (b : List ℕ) → NamesCommit cells (view st own) x c b → NamesCommit cells st x c b
  record_whole x c b k = record { commit = k.commit; is_in = k.is_in; stamp = k.stamp; change = k.change; gives = k.gives; is_text = k.is_text; unmarked = k.unmarked; value = k.value }

  lack_whole : (x : Cell) (a : Commit) → MayLack cells (view st own) x a → MayLack cells st x a
  lack_whole x a (inl r) = inl r
  lack_whole x a (inr f) = inr (record { deletes = f.deletes; cleared = f.cleared; oldest = f.oldest })

  pub whole_shown : ShowsCells cells st
  whole_shown = record {
    marks = λ x t m. mark_whole x t (shown.marks x t m);
    locks = shown.locks;
    records = λ x c b h. record_whole x c b (shown.records x c b h);
    commits = λ a i x names unmarked. elim (shown.commits a i x names unmarked) [ inl there ↦ inl there | inr lack ↦ inr (lack_whole x a lack) ];
    given = λ x t b h. let g = shown.given x t b h in record { ws = g.ws; wrote = g.wrote; gives = g.gives; late = late x t b h };
  }
