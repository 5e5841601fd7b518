use Rattle.std.proofs.Common.{◌≡◌, ℕ, List, [], ◌∷◌, map, refl, true, ap, subst, sym, ◌∙◌, inl, inr}
use Rattle.std.specs.Prelude.{◌≢◌, IsSomeAnd}
use Rattle.sorted_file.specs.Grammar.{FitsIn}
use Rattle.cell_key.specs.Entries.{Entry}
use Rattle.cell_key.specs.declared.refusals.Refusal.TheVariants.{Device, TooManyFiles}
use Rattle.sorted_file.specs.File.{listed, name_of}
use Rattle.sorted_file.specs.declared.file.SortedFile.{SortedFile}
use Rattle.compaction.specs.Writing.{written}
use Rattle.tablet.specs.Ranges.{seen}
use Rattle.tablet.specs.Compactions.{IsCompactionRefusal, IsMinorRefusal, IsNewFile}
use Rattle.tablet.specs.declared.compactions.Compaction.TheVariants.{Minor}
use Rattle.tablet.specs.Views.{files_of, flushed, memory_of, range_of, with_name}
use Rattle.tablet.proofs.CompactedCells.{minor_cells, minor_form, minor_writes, no_entries}
use Rattle.tablet.proofs.MadeTablets.{has_put, made_keeps, made_lists, made_of, reads_none, still_keeps}
use Rattle.tablet.proofs.Passed.{reason_after, IsNoMemory, IsTooManyFiles, minor_of, no_memory, not_both, not_empty, not_err, passed_err, passed_kept, passed_kind, passed_none, passed_on, passed_reason, quiet_reason, reason_of_ok, told_kind, too_few, too_many}
use Rattle.tablet.proofs.Unread.{still_too_much}
use Rattle.tablet.proofs.WrittenFiles.{none_told, where_held}
use Rattle.tablet.proofs.tablet.Tablet.minor.Goals as goal

no_name : (next : ℕ) (memory : List Entry) (names : List ℕ) → memory ≡ [] → names ≡ with_name next memory names
no_name next [] names is = refl
no_name next (e ∷ es) names is = cc

names_more : (next : ℕ) (memory : List Entry) (file : SortedFile) (old new : List SortedFile) → memory ≢ [] → new ≡ file ∷ old → name_of file ≡ next → map name_of new ≡ with_name next memory (map name_of old)
names_more next [] file old new some is named = absurd (some refl)
names_more next (e ∷ es) file old new some is named = cc

pub returns-in_err-file-clause-keeps : goal.returns-in_err-file-clause-keeps
returns-in_err-file-clause-keeps g c =
    still_keeps c.stays_open.ensures (g.F.Files.contents c.args.files.now) (g.F.Files.contents c.write.new.files) c.args.next_name.now c.write.new.next_name c.args.self.now _
    (record { range = refl; memory = refl; files = c.in_ok-reserve.ensures.same }) c.in_err-file.ensures.name.uses

pub returns-in_err-file-clause-large : goal.returns-in_err-file-clause-large
returns-in_err-file-clause-large g c = λ err.
    let range = range_of c.args.self.now in
    let memory = memory_of c.args.self.now in
    let some = not_empty _ _ c.is_empty.ensures c.if-is_empty.false in (
      some,
      subst (λ (es : List Entry). ¬ (FitsIn c.args.file_limit es)) (minor_writes c.keeps_one_list.ensures range memory c.len-2.ensures.list) (c.in_err-file.ensures.large (passed_on c.from_residual-in_err-file.result _ c.in_err-file.field-0.0 _ c.from_residual-in_err-file.ensures.1 refl err) tt),
    )

pub returns-clause-lists : goal.returns-clause-lists
returns-clause-lists g c =
    let range = range_of c.args.self.now in
    let memory = memory_of c.args.self.now in
    let some = not_empty _ _ c.is_empty.ensures c.if-is_empty.false in
    let files = c.in_ok-replace_newest.ensures.ok ∙ ap (λ fs. c.in_ok-file.file ∷ fs) c.in_ok-reserve.ensures.same in
    made_lists c.stays_open.ensures (g.F.Files.contents c.args.files.now) (g.F.Files.contents c.write.new.files) c.args.next_name.now c.write.new.next_name c.args.self.now (record c.args.self.now { memtable = c.new.result; files = c.replace_newest.new.self }) c.in_ok-file.file 0 [] (λ m. written true (seen range memory ∷ []))
    (λ memory lists. [] ∷ flushed (range_of c.args.self.now) memory lists)
    (record { range = refl; memory = c.new.ensures; files = files; named = c.in_ok-file.ensures.named }) c.in_ok-file.ensures.wrote.used c.in_ok-file.ensures.wrote.others
    (where_held Minor (g.F.Files.contents c.args.files.now) c.args.self.now (λ m. IsSomeAnd (g.F.Files.contents c.write.new.files) (λ n. IsNewFile n c.in_ok-file.file (written true (seen range memory ∷ [])))) (made_of Minor (g.F.Files.contents c.args.files.now) (g.F.Files.contents c.write.new.files) c.args.self.now (record c.args.self.now { files = c.reserve.new.self }) c.in_ok-file.file (λ m. written true (seen range memory ∷ [])) (λ m. written true (seen range memory ∷ []))
    (record { range = refl; memory = refl; files = c.in_ok-reserve.ensures.same }) (λ m. refl) c.in_ok-file.ensures.made))
    (λ m h. no_entries) (λ m h. minor_form c.keeps_one_list.ensures range memory (map (listed m) (files_of c.args.self.now)) some h.memory)

pub returns-clause-keeps : goal.returns-clause-keeps
returns-clause-keeps g c =
    let range = range_of c.args.self.now in
    let memory = memory_of c.args.self.now in
    let files = c.in_ok-replace_newest.ensures.ok ∙ ap (λ fs. c.in_ok-file.file ∷ fs) c.in_ok-reserve.ensures.same in
    made_keeps c.stays_open.ensures (g.F.Files.contents c.args.files.now) (g.F.Files.contents c.write.new.files) c.args.next_name.now c.write.new.next_name c.args.self.now _ c.in_ok-file.file 0 [] (λ m. written true (seen range memory ∷ []))
    (record { range = refl; memory = c.new.ensures; files = files; named = c.in_ok-file.ensures.named }) c.in_ok-file.ensures.wrote.used c.in_ok-file.ensures.wrote.others
    (where_held Minor (g.F.Files.contents c.args.files.now) c.args.self.now (λ m. IsSomeAnd (g.F.Files.contents c.write.new.files) (λ n. IsNewFile n c.in_ok-file.file (written true (seen range memory ∷ [])))) (made_of Minor (g.F.Files.contents c.args.files.now) (g.F.Files.contents c.write.new.files) c.args.self.now (record c.args.self.now { files = c.reserve.new.self }) c.in_ok-file.file (λ m. written true (seen range memory ∷ [])) (λ m. written true (seen range memory ∷ []))
    (record { range = refl; memory = refl; files = c.in_ok-reserve.ensures.same }) (λ m. refl) c.in_ok-file.ensures.made))
    (λ m h. no_entries) (λ m h list. minor_cells c.keeps_one_list.ensures range memory (map (listed m) (files_of c.args.self.now)) h.memory)

pub returns-then-len-ge-MOST_FILES-clause-name : goal.returns-then-len-ge-MOST_FILES-clause-name
returns-then-len-ge-MOST_FILES-clause-name g c = record { uses = inl (refl, refl); within = λ most. most }

pub returns-then-len-ge-MOST_FILES-clause-keeps : goal.returns-then-len-ge-MOST_FILES-clause-keeps
returns-then-len-ge-MOST_FILES-clause-keeps g c =
    still_keeps c.stays_open.ensures (g.F.Files.contents c.args.files.now) (g.F.Files.contents c.args.files.now) c.args.next_name.now c.args.next_name.now c.args.self.now c.args.self.now
    (record { range = refl; memory = refl; files = refl }) (inl (refl, refl))

pub returns-in_err-file-clause-lists : goal.returns-in_err-file-clause-lists
returns-in_err-file-clause-lists g c = passed_none c.from_residual-in_err-file.result c.in_err-file.field-0.0 _ c.from_residual-in_err-file.ensures.1

pub returns-in_err-file-clause-empty : goal.returns-in_err-file-clause-empty
returns-in_err-file-clause-empty g c = λ none. absurd (not_empty _ _ c.is_empty.ensures c.if-is_empty.false none)

pub returns-in_err-file-clause-range : goal.returns-in_err-file-clause-range
returns-in_err-file-clause-range g c = refl

pub returns-in_err-file-clause-err : goal.returns-in_err-file-clause-err
returns-in_err-file-clause-err g c = passed_kept c.from_residual-in_err-file.result _ (record { range = refl; memory = refl; files = c.in_ok-reserve.ensures.same })

pub returns-in_err-file-clause-name : goal.returns-in_err-file-clause-name
returns-in_err-file-clause-name g c = c.in_err-file.ensures.name

pub returns-in_err-file-clause-full : goal.returns-in_err-file-clause-full
returns-in_err-file-clause-full g c = record {
  exactly = (λ is. absurd (passed_kind c.from_residual-in_err-file.result c.in_err-file.field-0.0 TooManyFiles IsCompactionRefusal c.from_residual-in_err-file.ensures.1 c.in_err-file.ensures.refusal is), λ both. absurd (not_both _ _ (too_few c.args.self.now.files _ 64 c.len.ensures c.if-len-ge-MOST_FILES.false) both.1));
  untouched = λ is. absurd (passed_kind c.from_residual-in_err-file.result c.in_err-file.field-0.0 TooManyFiles IsCompactionRefusal c.from_residual-in_err-file.ensures.1 c.in_err-file.ensures.refusal is);
}

pub returns-in_err-file-clause-exhausted : goal.returns-in_err-file-clause-exhausted
returns-in_err-file-clause-exhausted g c = λ is. (not_empty _ _ c.is_empty.ensures c.if-is_empty.false, c.in_err-file.ensures.exhausted (passed_on c.from_residual-in_err-file.result _ c.in_err-file.field-0.0 _ c.from_residual-in_err-file.ensures.1 refl is))

pub returns-in_err-file-clause-damaged : goal.returns-in_err-file-clause-damaged
returns-in_err-file-clause-damaged g c = λ is.
    none_told (g.F.Files.contents c.args.files.now) (c.in_err-file.ensures.damaged (passed_on c.from_residual-in_err-file.result _ c.in_err-file.field-0.0 _ c.from_residual-in_err-file.ensures.1 refl is))

pub returns-in_err-file-clause-refusal : goal.returns-in_err-file-clause-refusal
returns-in_err-file-clause-refusal g c = passed_err c.from_residual-in_err-file.result c.in_err-file.field-0.0 _ c.from_residual-in_err-file.ensures.1 (minor_of c.in_err-file.field-0.0 c.in_err-file.ensures.refusal)

pub returns-in_err-file-clause-reason : goal.returns-in_err-file-clause-reason
returns-in_err-file-clause-reason g c = passed_reason c.from_residual-in_err-file.result _ c.in_err-file.field-0.0 _ _ c.from_residual-in_err-file.ensures.1 refl c.in_err-file.ensures.reason

pub returns-in_err-reserve-clause-lists : goal.returns-in_err-reserve-clause-lists
returns-in_err-reserve-clause-lists g c = passed_none c.from_residual.result c.in_err-reserve.field-0.0 _ c.from_residual.ensures.1

pub returns-in_err-reserve-clause-empty : goal.returns-in_err-reserve-clause-empty
returns-in_err-reserve-clause-empty g c = λ none. absurd (not_empty _ _ c.is_empty.ensures c.if-is_empty.false none)

pub returns-in_err-reserve-clause-range : goal.returns-in_err-reserve-clause-range
returns-in_err-reserve-clause-range g c = refl

pub returns-in_err-reserve-clause-keeps : goal.returns-in_err-reserve-clause-keeps
returns-in_err-reserve-clause-keeps g c = still_keeps c.stays_open.ensures (g.F.Files.contents c.args.files.now) (g.F.Files.contents c.args.files.now) c.args.next_name.now c.args.next_name.now c.args.self.now _
    (record { range = refl; memory = refl; files = c.in_err-reserve.ensures.same }) (inl (refl, refl))

pub returns-in_err-reserve-clause-err : goal.returns-in_err-reserve-clause-err
returns-in_err-reserve-clause-err g c = passed_kept c.from_residual.result _ (record { range = refl; memory = refl; files = c.in_err-reserve.ensures.same })

pub returns-in_err-reserve-clause-name : goal.returns-in_err-reserve-clause-name
returns-in_err-reserve-clause-name g c = record { uses = inl (refl, refl); within = λ most. most }

pub returns-in_err-reserve-clause-full : goal.returns-in_err-reserve-clause-full
returns-in_err-reserve-clause-full g c = record {
  exactly = (λ is. absurd (passed_kind c.from_residual.result c.in_err-reserve.field-0.0 _ IsNoMemory c.from_residual.ensures.1 (no_memory _ c.in_err-reserve.ensures.refusal) is), λ both. absurd (not_both _ _ (too_few c.args.self.now.files _ 64 c.len.ensures c.if-len-ge-MOST_FILES.false) both.1));
  untouched = λ is. (record { range = refl; memory = refl; files = c.in_err-reserve.ensures.same }, (refl, refl));
}

pub returns-in_err-reserve-clause-exhausted : goal.returns-in_err-reserve-clause-exhausted
returns-in_err-reserve-clause-exhausted g c = λ is. absurd (passed_kind c.from_residual.result c.in_err-reserve.field-0.0 _ IsNoMemory c.from_residual.ensures.1 (no_memory _ c.in_err-reserve.ensures.refusal) is)

pub returns-in_err-reserve-clause-large : goal.returns-in_err-reserve-clause-large
returns-in_err-reserve-clause-large g c = λ is. absurd (passed_kind c.from_residual.result c.in_err-reserve.field-0.0 _ IsNoMemory c.from_residual.ensures.1 (no_memory _ c.in_err-reserve.ensures.refusal) is)

pub returns-in_err-reserve-clause-damaged : goal.returns-in_err-reserve-clause-damaged
returns-in_err-reserve-clause-damaged g c = λ is. absurd (passed_kind c.from_residual.result c.in_err-reserve.field-0.0 _ IsNoMemory c.from_residual.ensures.1 (no_memory _ c.in_err-reserve.ensures.refusal) is)

pub returns-in_err-reserve-clause-refusal : goal.returns-in_err-reserve-clause-refusal
returns-in_err-reserve-clause-refusal g c = passed_err c.from_residual.result c.in_err-reserve.field-0.0 _ c.from_residual.ensures.1 (subst IsMinorRefusal (sym c.in_err-reserve.ensures.refusal) tt)

pub returns-in_err-reserve-clause-reason : goal.returns-in_err-reserve-clause-reason
returns-in_err-reserve-clause-reason g c = quiet_reason c.from_residual.result _ (λ is. absurd (passed_kind c.from_residual.result c.in_err-reserve.field-0.0 _ IsNoMemory c.from_residual.ensures.1 (no_memory _ c.in_err-reserve.ensures.refusal) is))

pub returns-then-len-ge-MOST_FILES-clause-lists : goal.returns-then-len-ge-MOST_FILES-clause-lists
returns-then-len-ge-MOST_FILES-clause-lists g c = tt

pub returns-then-len-ge-MOST_FILES-clause-empty : goal.returns-then-len-ge-MOST_FILES-clause-empty
returns-then-len-ge-MOST_FILES-clause-empty g c = λ none. absurd (not_empty _ _ c.is_empty.ensures c.if-is_empty.false none)

pub returns-then-len-ge-MOST_FILES-clause-range : goal.returns-then-len-ge-MOST_FILES-clause-range
returns-then-len-ge-MOST_FILES-clause-range g c = refl

pub returns-then-len-ge-MOST_FILES-clause-err : goal.returns-then-len-ge-MOST_FILES-clause-err
returns-then-len-ge-MOST_FILES-clause-err g c = record { range = refl; memory = refl; files = refl }

pub returns-then-len-ge-MOST_FILES-clause-full : goal.returns-then-len-ge-MOST_FILES-clause-full
returns-then-len-ge-MOST_FILES-clause-full g c = record {
  exactly = (λ is. (not_empty _ _ c.is_empty.ensures c.if-is_empty.false, too_many c.args.self.now.files _ 64 c.len.ensures c.if-len-ge-MOST_FILES.true), λ both. refl);
  untouched = λ is. (record { range = refl; memory = refl; files = refl }, (refl, refl));
}

pub returns-then-len-ge-MOST_FILES-clause-exhausted : goal.returns-then-len-ge-MOST_FILES-clause-exhausted
returns-then-len-ge-MOST_FILES-clause-exhausted g c = λ is. absurd (told_kind TooManyFiles _ IsTooManyFiles tt is)

pub returns-then-len-ge-MOST_FILES-clause-large : goal.returns-then-len-ge-MOST_FILES-clause-large
returns-then-len-ge-MOST_FILES-clause-large g c = λ is. absurd (told_kind TooManyFiles _ IsTooManyFiles tt is)

pub returns-then-len-ge-MOST_FILES-clause-damaged : goal.returns-then-len-ge-MOST_FILES-clause-damaged
returns-then-len-ge-MOST_FILES-clause-damaged g c = λ is. absurd (told_kind TooManyFiles _ IsTooManyFiles tt is)

pub returns-then-len-ge-MOST_FILES-clause-refusal : goal.returns-then-len-ge-MOST_FILES-clause-refusal
returns-then-len-ge-MOST_FILES-clause-refusal g c = tt

pub returns-then-len-ge-MOST_FILES-clause-reason : goal.returns-then-len-ge-MOST_FILES-clause-reason
returns-then-len-ge-MOST_FILES-clause-reason g c = quiet_reason _ _ (λ is. absurd (told_kind TooManyFiles Device IsTooManyFiles tt is))

pub returns-clause-empty : goal.returns-clause-empty
returns-clause-empty g c = λ none. absurd (not_empty _ _ c.is_empty.ensures c.if-is_empty.false none)

pub returns-clause-range : goal.returns-clause-range
returns-clause-range g c = refl

pub returns-clause-err : goal.returns-clause-err
returns-clause-err g c = tt

pub returns-clause-name : goal.returns-clause-name
returns-clause-name g c = record { uses = inr (c.in_ok-file.ensures.wrote.used, c.in_ok-file.ensures.wrote.others); within = c.in_ok-file.ensures.name.within }

pub returns-clause-full : goal.returns-clause-full
returns-clause-full g c = record {
  exactly = (λ is. absurd (not_err _ _ is), λ both. absurd (not_both _ _ (too_few c.args.self.now.files _ 64 c.len.ensures c.if-len-ge-MOST_FILES.false) both.1));
  untouched = λ is. absurd (not_err _ _ is);
}

pub returns-clause-exhausted : goal.returns-clause-exhausted
returns-clause-exhausted g c = λ is. absurd (not_err _ _ is)

pub returns-clause-large : goal.returns-clause-large
returns-clause-large g c = λ is. absurd (not_err _ _ is)

pub returns-clause-damaged : goal.returns-clause-damaged
returns-clause-damaged g c = λ is. absurd (not_err _ _ is)

pub returns-clause-refusal : goal.returns-clause-refusal
returns-clause-refusal g c = tt

pub returns-clause-reason : goal.returns-clause-reason
returns-clause-reason g c = reason_of_ok _ _ _ _ c.in_ok-file.ensures.reason

pub returns-in_err-file-clause-flushed : goal.returns-in_err-file-clause-flushed
returns-in_err-file-clause-flushed g c = passed_none c.from_residual-in_err-file.result c.in_err-file.field-0.0 _ c.from_residual-in_err-file.ensures.1

pub returns-in_err-reserve-clause-flushed : goal.returns-in_err-reserve-clause-flushed
returns-in_err-reserve-clause-flushed g c = passed_none c.from_residual.result c.in_err-reserve.field-0.0 _ c.from_residual.ensures.1

pub returns-then-len-ge-MOST_FILES-clause-flushed : goal.returns-then-len-ge-MOST_FILES-clause-flushed
returns-then-len-ge-MOST_FILES-clause-flushed g c = tt

pub returns-clause-flushed : goal.returns-clause-flushed
returns-clause-flushed g c =
    let range = range_of c.args.self.now in
    let memory = memory_of c.args.self.now in
    let files = c.in_ok-replace_newest.ensures.ok ∙ ap (λ fs. c.in_ok-file.file ∷ fs) c.in_ok-reserve.ensures.same in
    record {
      names = names_more c.args.next_name.now _ c.in_ok-file.file _ _ (not_empty _ _ c.is_empty.ensures c.if-is_empty.false) files c.in_ok-file.ensures.named;
      memory = c.new.ensures;
      written = λ some. record {
        room = too_few c.args.self.now.files _ 64 c.len.ensures c.if-len-ge-MOST_FILES.false;
        left = c.in_ok-file.ensures.wrote.left;
        used = c.in_ok-file.ensures.wrote.used;
        fits = subst (λ (es : List Entry). FitsIn c.args.file_limit es) (minor_writes c.keeps_one_list.ensures range memory c.len-2.ensures.list) (c.in_ok-file.ensures.fits tt);
      };
      put = λ some. reads_none (g.F.Files.contents c.args.files.now) _ (has_put Minor (g.F.Files.contents c.args.files.now) (g.F.Files.contents c.write.new.files) c.args.self.now (record c.args.self.now { memtable = c.new.result; files = c.replace_newest.new.self }) c.in_ok-file.file (λ m. written true (seen range memory ∷ [])) (λ m. seen range memory) files (λ m. minor_writes c.keeps_one_list.ensures range memory c.len-2.ensures.list)
          (made_of Minor (g.F.Files.contents c.args.files.now) (g.F.Files.contents c.write.new.files) c.args.self.now (record c.args.self.now { files = c.reserve.new.self }) c.in_ok-file.file (λ m. written true (seen range memory ∷ [])) (λ m. written true (seen range memory ∷ []))
          (record { range = refl; memory = refl; files = c.in_ok-reserve.ensures.same }) (λ m. refl) c.in_ok-file.ensures.made));
    }

pub returns-then-is_empty-clause-flushed : goal.returns-then-is_empty-clause-flushed
returns-then-is_empty-clause-flushed g c = let none = c.is_empty.ensures.0 c.if-is_empty.true in record { names = no_name _ _ _ none; memory = none; written = λ some. absurd (some none); put = λ some. absurd (some none) }

pub returns-then-is_empty-clause-full : goal.returns-then-is_empty-clause-full
returns-then-is_empty-clause-full g c = record {
  exactly = (λ is. absurd (not_err _ _ is), λ both. absurd (both.0 (c.is_empty.ensures.0 c.if-is_empty.true)));
  untouched = λ is. absurd (not_err _ _ is);
}

pub returns-then-is_empty-clause-name : goal.returns-then-is_empty-clause-name
returns-then-is_empty-clause-name g c = record { uses = inl (refl, refl); within = λ most. most }

pub returns-in_err-file-clause-too_much : goal.returns-in_err-file-clause-too_much
returns-in_err-file-clause-too_much g c = λ is.
    still_too_much Minor (g.F.Files.contents c.args.files.now) c.args.self.now (record c.args.self.now { files = c.reserve.new.self }) (record { range = refl; memory = refl; files = c.in_ok-reserve.ensures.same }) c.args.file_limit (c.in_err-file.ensures.too_much (passed_on c.from_residual-in_err-file.result _ c.in_err-file.field-0.0 _ c.from_residual-in_err-file.ensures.1 refl is))

pub returns-in_err-reserve-clause-too_much : goal.returns-in_err-reserve-clause-too_much
returns-in_err-reserve-clause-too_much g c = λ is. absurd (passed_kind c.from_residual.result c.in_err-reserve.field-0.0 _ IsNoMemory c.from_residual.ensures.1 (no_memory _ c.in_err-reserve.ensures.refusal) is)

pub returns-then-len-ge-MOST_FILES-clause-too_much : goal.returns-then-len-ge-MOST_FILES-clause-too_much
returns-then-len-ge-MOST_FILES-clause-too_much g c = λ is. absurd (told_kind TooManyFiles _ IsTooManyFiles tt is)

pub returns-clause-too_much : goal.returns-clause-too_much
returns-clause-too_much g c = λ is. absurd (not_err _ _ is)

pub returns-in_err-replace_newest-clause-flushed : goal.returns-in_err-replace_newest-clause-flushed
returns-in_err-replace_newest-clause-flushed g c = passed_none c.from_residual-in_err-replace_newest.result c.in_err-replace_newest.field-0.0 _ c.from_residual-in_err-replace_newest.ensures.1

pub returns-in_err-replace_newest-clause-lists : goal.returns-in_err-replace_newest-clause-lists
returns-in_err-replace_newest-clause-lists g c = passed_none c.from_residual-in_err-replace_newest.result c.in_err-replace_newest.field-0.0 _ c.from_residual-in_err-replace_newest.ensures.1

pub returns-in_err-replace_newest-clause-keeps : goal.returns-in_err-replace_newest-clause-keeps
returns-in_err-replace_newest-clause-keeps g c =
    still_keeps c.stays_open.ensures (g.F.Files.contents c.args.files.now) (g.F.Files.contents c.write.new.files) c.args.next_name.now c.write.new.next_name c.args.self.now _
    (record { range = refl; memory = refl; files = c.in_err-replace_newest.ensures.err ∙ c.in_ok-reserve.ensures.same }) c.in_ok-file.ensures.name.uses

pub returns-in_err-replace_newest-clause-range : goal.returns-in_err-replace_newest-clause-range
returns-in_err-replace_newest-clause-range g c = refl

pub returns-in_err-replace_newest-clause-err : goal.returns-in_err-replace_newest-clause-err
returns-in_err-replace_newest-clause-err g c = passed_kept c.from_residual-in_err-replace_newest.result _ (record { range = refl; memory = refl; files = c.in_err-replace_newest.ensures.err ∙ c.in_ok-reserve.ensures.same })

pub returns-in_err-replace_newest-clause-name : goal.returns-in_err-replace_newest-clause-name
returns-in_err-replace_newest-clause-name g c = c.in_ok-file.ensures.name

pub returns-in_err-replace_newest-clause-exhausted : goal.returns-in_err-replace_newest-clause-exhausted
returns-in_err-replace_newest-clause-exhausted g c = λ is. absurd (passed_kind c.from_residual-in_err-replace_newest.result c.in_err-replace_newest.field-0.0 _ IsNoMemory c.from_residual-in_err-replace_newest.ensures.1 (no_memory _ c.in_err-replace_newest.ensures.refusal) is)

pub returns-in_err-replace_newest-clause-large : goal.returns-in_err-replace_newest-clause-large
returns-in_err-replace_newest-clause-large g c = λ is. absurd (passed_kind c.from_residual-in_err-replace_newest.result c.in_err-replace_newest.field-0.0 _ IsNoMemory c.from_residual-in_err-replace_newest.ensures.1 (no_memory _ c.in_err-replace_newest.ensures.refusal) is)

pub returns-in_err-replace_newest-clause-too_much : goal.returns-in_err-replace_newest-clause-too_much
returns-in_err-replace_newest-clause-too_much g c = λ is. absurd (passed_kind c.from_residual-in_err-replace_newest.result c.in_err-replace_newest.field-0.0 _ IsNoMemory c.from_residual-in_err-replace_newest.ensures.1 (no_memory _ c.in_err-replace_newest.ensures.refusal) is)

pub returns-in_err-replace_newest-clause-damaged : goal.returns-in_err-replace_newest-clause-damaged
returns-in_err-replace_newest-clause-damaged g c = λ is. absurd (passed_kind c.from_residual-in_err-replace_newest.result c.in_err-replace_newest.field-0.0 _ IsNoMemory c.from_residual-in_err-replace_newest.ensures.1 (no_memory _ c.in_err-replace_newest.ensures.refusal) is)

pub returns-in_err-replace_newest-clause-empty : goal.returns-in_err-replace_newest-clause-empty
returns-in_err-replace_newest-clause-empty g c = λ none. absurd (not_empty _ _ c.is_empty.ensures c.if-is_empty.false none)

pub returns-in_err-replace_newest-clause-full : goal.returns-in_err-replace_newest-clause-full
returns-in_err-replace_newest-clause-full g c = record {
  exactly = (λ is. absurd (passed_kind c.from_residual-in_err-replace_newest.result c.in_err-replace_newest.field-0.0 _ IsNoMemory c.from_residual-in_err-replace_newest.ensures.1 (no_memory _ c.in_err-replace_newest.ensures.refusal) is), λ both. absurd (not_both _ _ (too_few c.args.self.now.files _ 64 c.len.ensures c.if-len-ge-MOST_FILES.false) both.1));
  untouched = λ is. absurd (passed_kind c.from_residual-in_err-replace_newest.result c.in_err-replace_newest.field-0.0 _ IsNoMemory c.from_residual-in_err-replace_newest.ensures.1 (no_memory _ c.in_err-replace_newest.ensures.refusal) is);
}

pub returns-in_err-replace_newest-clause-refusal : goal.returns-in_err-replace_newest-clause-refusal
returns-in_err-replace_newest-clause-refusal g c = passed_err c.from_residual-in_err-replace_newest.result c.in_err-replace_newest.field-0.0 _ c.from_residual-in_err-replace_newest.ensures.1 (subst IsMinorRefusal (sym c.in_err-replace_newest.ensures.refusal) tt)

pub returns-in_err-replace_newest-clause-reason : goal.returns-in_err-replace_newest-clause-reason
returns-in_err-replace_newest-clause-reason g c = reason_after _ _ _ (c.in_ok-file.ensures.reason.told (not_err _ Device)) (quiet_reason c.from_residual-in_err-replace_newest.result _ (λ is. absurd (passed_kind c.from_residual-in_err-replace_newest.result c.in_err-replace_newest.field-0.0 _ IsNoMemory c.from_residual-in_err-replace_newest.ensures.1 (no_memory _ c.in_err-replace_newest.ensures.refusal) is)))
