-- Journals: the recorded edits, and their limits.
use Rattle.std.specs.Prelude.{◌≡◌, ◌≤◌, ◌+◌, ℕ, List, [], ◌++◌, length, refl}
use Rattle.std.specs.List.{AllByRecursion}
use Rattle.std.specs.Coded.{Coded, code_by, coded×, coded_ℕ, coded_list}
use Rattle.cell_key.specs.declared.edits.Edit.{Edit}
use Rattle.commit_log.specs.Edits.{IsStoredEdit, spelled_edits, spelled_entries}

-- the bytes already in the log, the bytes waiting for it, the number of edits in both, and the bytes that these take as
-- entries of a memtable
pub record JournalView : Type 0 where
  pub logged : List ℕ
  pub waiting : List ℕ
  pub count : ℕ
  pub entry_bytes : ℕ

abbrev pub journal_code : Coded JournalView
journal_code =
    code_by (List ℕ × (List ℕ × (ℕ × ℕ)))
    (coded× (coded_list coded_ℕ) (coded× (coded_list coded_ℕ) (coded× coded_ℕ coded_ℕ)))
    (λ j. (j.logged, (j.waiting, (j.count, j.entry_bytes))))
    (λ p. record { logged = p.0; waiting = p.1.0; count = p.1.1.0; entry_bytes = p.1.1.1 })
    (λ _. refl)

-- a journal without edits
abbrev pub empty_journal : JournalView
empty_journal = record { logged = []; waiting = []; count = 0; entry_bytes = 0 }

-- the waiting bytes are now in the log
abbrev pub all_logged : JournalView → JournalView
all_logged journal =
    record {
      logged = journal.logged ++ journal.waiting;
      waiting = [];
      count = journal.count;
      entry_bytes = journal.entry_bytes;
    }

-- these edits are added to the waiting ones
abbrev pub with_waiting : List Edit → JournalView → JournalView
with_waiting edits journal =
    record {
      logged = journal.logged;
      waiting = journal.waiting ++ spelled_edits edits;
      count = journal.count + length edits;
      entry_bytes = journal.entry_bytes + length (spelled_entries edits);
    }

-- It is within a memtable's limits of edits and of bytes, and in a log its edits take no more than that.
pub record IsWithin (journal : JournalView) : Type 0 where
  pub edits : journal.count ≤ 100000
  pub bytes : journal.entry_bytes ≤ 67108864
  pub shorter : length journal.logged + length journal.waiting ≤ journal.entry_bytes

-- With these edits it stays within a memtable's limits of edits and of bytes, so that all its edits fit an empty
-- memtable.
pub record HasRoomFor (journal : JournalView) (more : List Edit) : Type 0 where
  pub edits : journal.count + length more ≤ 100000
  pub bytes : journal.entry_bytes + length (spelled_entries more) ≤ 67108864

-- The journal's bytes are the records of edits, in order: first the logged ones, then the waiting ones. All of them
-- together have the property.
pub record HasWritten (Such : List Edit → Type 0) (journal : JournalView) : Type 0 where
  pub logged : List Edit
  pub waiting : List Edit
  pub logged_bytes : journal.logged ≡ spelled_edits logged
  pub waiting_bytes : journal.waiting ≡ spelled_edits waiting
  pub counted : journal.count ≡ length (logged ++ waiting)
  pub measured : journal.entry_bytes ≡ length (spelled_entries (logged ++ waiting))
  pub stored : AllByRecursion IsStoredEdit (logged ++ waiting)
  pub such : Such (logged ++ waiting)
