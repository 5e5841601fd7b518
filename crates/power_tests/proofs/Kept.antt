-- Devices keep what they kept.
use Rattle.std.proofs.Common.{◌≡◌, ℕ, List, true, false, T, subst, sym}
use Rattle.std.specs.Prelude.{Option, Result, Ok, Err, OnOk, OnErr, is_err}
use Rattle.commit_log.specs.Held.{IsKept}
use Rattle.durable.specs.Devices.{LastsOn}
use Rattle.file_store.specs.Store.{Contents}
use Rattle.si_model.specs.Machine.{State}

-- the same contents keep the same states
pub moved : {m m' : Option Contents} {k k' : Option ℕ} {b b' : Option (List ℕ)} → m' ≡ m → k' ≡ k → b' ≡ b
    → (st : State) → LastsOn m k (IsKept b) st → LastsOn m' k' (IsKept b') st
moved {m' = m'} {k = k} {k' = k'} {b = b} em ek eb st keeps =
    subst (λ x. LastsOn m' k' (IsKept x) st) (sym eb) (subst (λ x. LastsOn m' x (IsKept b) st) (sym ek) (subst (λ x. LastsOn x k (IsKept b) st) (sym em) keeps))

-- a log that holds the same records keeps the same states
pub with_log : {m : Option Contents} {k : Option ℕ} {holds holds' : List (List ℕ) → Type 0}
    → ((records : List (List ℕ)) → holds records → holds' records) → (st : State) → LastsOn m k holds st → LastsOn m k holds' st
with_log f st l = record {
  root = l.root;
  base = l.base;
  kept = l.kept;
  records = l.records;
  in_log = f l.records l.in_log;
  over = l.over;
  stamps = l.stamps;
  edits = l.edits;
  held = l.held;
  stored = l.stored;
  room = l.room;
  shows = l.shows;
  next = l.next;
  top = l.top;
}

pub from_err : {U E : Type 0} {P : Type 0} (r : Result U E) → is_err r ≡ true → OnErr r P → P
from_err (Ok x) e h = absurd (subst T (sym e) tt)
from_err (Err x) e h = h

pub from_ok : {U E : Type 0} {P : Type 0} (r : Result U E) → is_err r ≡ false → OnOk r P → P
from_ok (Ok x) e h = h
from_ok (Err x) e h = absurd (subst T e tt)
