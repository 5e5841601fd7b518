-- Each compaction has the effects of the tablet's call.
use Rattle.std.proofs.Common.{◌≡◌, ◌^◌, ℕ, Option, Some, None, IfSome, Result, Ok, Err, IfErr, OnOk, refl}
use Rattle.cell_key.specs.declared.refusals.Refusal.{Refusal}
use Rattle.cell_key.specs.declared.refusals.Refusal.TheVariants.{BadCount, Damaged, Exhausted, FileTooLarge, TooManyFiles}
use Rattle.file_store.specs.Store.{Contents}
use Rattle.sorted_file.specs.Grammar.{FitsIn}
use Rattle.tablet.specs.Compactions.{IsCompactionRefusal, IsMergeRefusal, IsMinorRefusal, compacted_of}
use Rattle.tablet.specs.declared.compactions.Compaction.TheVariants.{Major, Merge}
use Rattle.tablet.proofs.WrittenFiles.{none_says, where_held}
use Rattle.tablet.specs.Views.{Holds, IsBelow}
use Rattle.tablet.specs.declared.tablet.Tablet.{Tablet}
use Rattle.row_atomic.proofs.ChangedTablets.{cleaned, on_ok}
use Rattle.row_atomic.proofs.CommandSteps.{not_answered}
use Rattle.row_atomic.proofs.Outcomes.{err_of}
use Rattle.row_atomic.proofs.CompactionRoom.{has_room, minor_fits, none_written, not_full_written, not_least}
use Rattle.row_atomic.proofs.cluster.compact.compact.Goals as goal

both_done : {A : Type 0} (P Q : Type 0) (r : Result A Refusal) → OnOk r P → OnOk r Q → OnOk r (P × Q)
both_done P Q (Ok x) p q = (p, q)
both_done P Q (Err e) p q = tt

-- a refusal, and which call answered it
when_refused : {A : Type 0} (r : Result A Refusal) (Q P : Refusal → Type 0) → ((e : Refusal) → Q e → ((n : Refusal) → e ≡ n → r ≡ Err n) → P e) → IfErr r Q → IfErr r P
when_refused (Ok x) Q P from q = tt
when_refused (Err e) Q P from q = from e q (λ n is. err_of e n is)

-- a compaction that is not a major one need not remove erasures
none_erased : (o : Option Contents) (next : ℕ) (t : Tablet) → IfSome o (λ m. Holds m t → IsBelow next t → Unit {0})
none_erased None next t = tt
none_erased (Some m) next t = λ holds below. tt

both_told : (o : Option Contents) (P Q : Contents → Type 0) → IfSome o P → IfSome o Q → IfSome o (λ m. P m × Q m)
both_told None P Q p q = tt
both_told (Some m) P Q p q = (p, q)

any_refusal : {A : Type 0} (r : Result A Refusal) → IfErr r (λ _. Unit {0})
any_refusal (Ok x) = tt
any_refusal (Err e) = tt

pub returns-in-Minor-clause-done : goal.returns-in-Minor-clause-done
returns-in-Minor-clause-done g c = rw (c.in-Minor.is) (
    on_ok _ _ c.minor.result (λ h. let flushed = h.0 in record {
      made = record { memory = flushed.memory; names = flushed.names };
      lists = h.1;
      cleaned = none_erased (g.F.Files.contents c.args.files.now) c.args.next_name.now c.args.tablet.now;
      room = has_room c.args.tablet.now (λ some. (flushed.written some).room);
      named = none_written c.args.tablet.now c.args.next_name.now (λ some. (flushed.written some).left);
      fits = minor_fits c.args.file_limit c.args.tablet.now c.requires.limit.least (λ some. (flushed.written some).fits);
      used = λ some. (flushed.written some).used;
    }) (both_done _ _ c.minor.result c.minor.ensures.flushed c.minor.ensures.lists))

pub returns-in-Merge-clause-done : goal.returns-in-Merge-clause-done
returns-in-Merge-clause-done g c = rw (c.in-Merge.is) (
    on_ok _ _ c.merge.result (λ h. let made = h.0 in record {
      made = record { memory = made.memory; names = made.names };
      lists = h.1;
      cleaned = none_erased (g.F.Files.contents c.args.files.now) c.args.next_name.now c.args.tablet.now;
      room = λ full. full;
      named = not_least (2 ^ 63) c.args.next_name.now made.left;
      fits = where_held (Merge c.in-Merge.count) (g.F.Files.contents c.args.files.now) c.args.tablet.now (λ m. FitsIn c.args.file_limit (compacted_of (Merge c.in-Merge.count) m c.args.tablet.now)) made.fits;
      used = λ some. made.used;
    }) (both_done _ _ c.merge.result c.merge.ensures.made c.merge.ensures.lists))

pub returns-in-Major-clause-done : goal.returns-in-Major-clause-done
returns-in-Major-clause-done g c = rw (c.in-Major.is) (
    on_ok _ _ c.major.result (λ h. let made = h.0 in record {
      made = record { memory = made.memory; names = made.names };
      lists = h.1;
      cleaned = cleaned (g.F.Files.contents c.args.files.now) c.args.next_name.now c.args.tablet.now (g.F.Files.contents c.major.new.files) c.major.new.self h.1;
      room = λ full. full;
      named = not_least (2 ^ 63) c.args.next_name.now made.left;
      fits = where_held Major (g.F.Files.contents c.args.files.now) c.args.tablet.now (λ m. FitsIn c.args.file_limit (compacted_of Major m c.args.tablet.now)) made.fits;
      used = λ some. made.used;
    }) (both_done _ _ c.major.result c.major.ensures.made c.major.ensures.lists))

pub returns-in-Minor-clause-refused : goal.returns-in-Minor-clause-refused
returns-in-Minor-clause-refused g c = rw (c.in-Minor.is) (
    let by = c.minor.ensures in
    when_refused c.minor.result _ _ (λ e unfilled told. record {
      count = λ is. absurd (not_answered IsMinorRefusal c.minor.result BadCount _ by.refusal (told BadCount is) refl);
      full = λ is. let full = by.full.exactly.0 (told TooManyFiles is) in record { memory = full.0; files = full.1 };
      unfilled = unfilled;
      exhausted = λ is. let out = by.exhausted (told Exhausted is) in (out.1, out.0);
      large = λ is. (by.large (told FileTooLarge is)).1;
      damaged = λ is. none_says (g.F.Files.contents c.args.files.now) _ (by.damaged (told Damaged is));
      too_much = λ is. by.too_much (told FileTooLarge is);
      unread = λ is. none_says (g.F.Files.contents c.args.files.now) _ (by.damaged (told Damaged is));
      undone = λ is. (by.full.untouched (told TooManyFiles is)).1;
    }) (not_full_written c.minor.result c.args.tablet.now (λ some many. by.full.exactly.1 (some, many))))

pub returns-in-Merge-clause-refused : goal.returns-in-Merge-clause-refused
returns-in-Merge-clause-refused g c = rw (c.in-Merge.is) (
    let by = c.merge.ensures in
    when_refused c.merge.result _ _ (λ e any told. record {
      count = λ is. by.count.exactly.0 (told BadCount is);
      full = λ is. absurd (not_answered IsMergeRefusal c.merge.result TooManyFiles _ by.refusal (told TooManyFiles is) refl);
      unfilled = λ of full. full;
      exhausted = λ is. (by.exhausted (told Exhausted is), λ none. none);
      large = λ is. where_held (Merge c.in-Merge.count) (g.F.Files.contents c.args.files.now) c.args.tablet.now (λ m. ¬ FitsIn c.args.file_limit (compacted_of (Merge c.in-Merge.count) m c.args.tablet.now)) (by.large (told FileTooLarge is));
      damaged = λ is. where_held (Merge c.in-Merge.count) (g.F.Files.contents c.args.files.now) c.args.tablet.now (λ m. ⊥) (by.damaged (told Damaged is));
      too_much = λ is. by.too_much (told FileTooLarge is);
      unread = λ is. both_told (g.F.Files.contents c.args.files.now) _ _ (by.damaged (told Damaged is)) (by.broken (told Damaged is));
      undone = λ is. absurd (not_answered IsMergeRefusal c.merge.result TooManyFiles _ by.refusal (told TooManyFiles is) refl);
    }) (any_refusal c.merge.result))

pub returns-in-Major-clause-refused : goal.returns-in-Major-clause-refused
returns-in-Major-clause-refused g c = rw (c.in-Major.is) (
    let by = c.major.ensures in
    when_refused c.major.result _ _ (λ e any told. record {
      count = λ is. absurd (not_answered IsCompactionRefusal c.major.result BadCount _ by.refusal (told BadCount is) refl);
      full = λ is. absurd (not_answered IsCompactionRefusal c.major.result TooManyFiles _ by.refusal (told TooManyFiles is) refl);
      unfilled = λ of full. full;
      exhausted = λ is. (by.exhausted (told Exhausted is), λ none. none);
      large = λ is. where_held Major (g.F.Files.contents c.args.files.now) c.args.tablet.now (λ m. ¬ FitsIn c.args.file_limit (compacted_of Major m c.args.tablet.now)) (by.large (told FileTooLarge is));
      damaged = λ is. where_held Major (g.F.Files.contents c.args.files.now) c.args.tablet.now (λ m. ⊥) (by.damaged (told Damaged is));
      too_much = λ is. by.too_much (told FileTooLarge is);
      unread = λ is. both_told (g.F.Files.contents c.args.files.now) _ _ (by.damaged (told Damaged is)) (by.broken (told Damaged is));
      undone = λ is. absurd (not_answered IsCompactionRefusal c.major.result TooManyFiles _ by.refusal (told TooManyFiles is) refl);
    }) (any_refusal c.major.result))

pub returns-in-Minor-clause-empty : goal.returns-in-Minor-clause-empty
returns-in-Minor-clause-empty g c = rw (c.in-Minor.is) (λ none. let same = c.minor.ensures.empty none in (same.0, (same.1.1.0, same.1.1.1)))

pub returns-in-Minor-clause-keeps : goal.returns-in-Minor-clause-keeps
returns-in-Minor-clause-keeps g c = c.minor.ensures.keeps

pub returns-in-Minor-clause-range : goal.returns-in-Minor-clause-range
returns-in-Minor-clause-range g c = c.minor.ensures.range

pub returns-in-Minor-clause-err : goal.returns-in-Minor-clause-err
returns-in-Minor-clause-err g c = c.minor.ensures.err

pub returns-in-Minor-clause-name : goal.returns-in-Minor-clause-name
returns-in-Minor-clause-name g c = c.minor.ensures.name.uses

pub returns-in-Minor-clause-named_to : goal.returns-in-Minor-clause-named_to
returns-in-Minor-clause-named_to g c = c.minor.ensures.name.within

pub returns-in-Minor-clause-reason : goal.returns-in-Minor-clause-reason
returns-in-Minor-clause-reason g c = c.minor.ensures.reason

pub returns-in-Merge-clause-keeps : goal.returns-in-Merge-clause-keeps
returns-in-Merge-clause-keeps g c = c.merge.ensures.keeps

pub returns-in-Merge-clause-range : goal.returns-in-Merge-clause-range
returns-in-Merge-clause-range g c = c.merge.ensures.range

pub returns-in-Merge-clause-err : goal.returns-in-Merge-clause-err
returns-in-Merge-clause-err g c = c.merge.ensures.err

pub returns-in-Merge-clause-name : goal.returns-in-Merge-clause-name
returns-in-Merge-clause-name g c = c.merge.ensures.name.uses

pub returns-in-Merge-clause-named_to : goal.returns-in-Merge-clause-named_to
returns-in-Merge-clause-named_to g c = c.merge.ensures.name.within

pub returns-in-Merge-clause-reason : goal.returns-in-Merge-clause-reason
returns-in-Merge-clause-reason g c = c.merge.ensures.reason

pub returns-in-Major-clause-keeps : goal.returns-in-Major-clause-keeps
returns-in-Major-clause-keeps g c = c.major.ensures.keeps

pub returns-in-Major-clause-range : goal.returns-in-Major-clause-range
returns-in-Major-clause-range g c = c.major.ensures.range

pub returns-in-Major-clause-err : goal.returns-in-Major-clause-err
returns-in-Major-clause-err g c = c.major.ensures.err

pub returns-in-Major-clause-name : goal.returns-in-Major-clause-name
returns-in-Major-clause-name g c = c.major.ensures.name.uses

pub returns-in-Major-clause-named_to : goal.returns-in-Major-clause-named_to
returns-in-Major-clause-named_to g c = c.major.ensures.name.within

pub returns-in-Major-clause-reason : goal.returns-in-Major-clause-reason
returns-in-Major-clause-reason g c = c.major.ensures.reason

pub returns-in-Merge-clause-empty : goal.returns-in-Merge-clause-empty
returns-in-Merge-clause-empty g c = rw (c.in-Merge.is) (λ none. absurd none)

pub returns-in-Major-clause-empty : goal.returns-in-Major-clause-empty
returns-in-Major-clause-empty g c = rw (c.in-Major.is) (λ none. absurd none)
