use Rattle.std.proofs.Common.{◌≡◌, [], ◌∷◌, List, map, drop, length, refl, false, ap, subst, sym, ◌∙◌, inl, inr, ℕ, arith}
use Rattle.std.proofs.lemmas.List.{drop_all, length-map}
use Rattle.std.specs.Prelude.{IsSomeAnd, Some}
use Rattle.std.specs.List.{AllByRecursion}
use Rattle.cell_key.specs.declared.refusals.Refusal.TheVariants.{Device}
use Rattle.file_store.specs.Store.{Contents}
use Rattle.sorted_file.specs.Grammar.{FitsIn}
use Rattle.sorted_file.specs.File.{listed, name_of}
use Rattle.sorted_file.specs.declared.file.SortedFile.{SortedFile}
use Rattle.compaction.specs.Writing.{written}
use Rattle.tablet.specs.Ranges.{lower_fence, seen, upper_fence}
use Rattle.tablet.specs.Sources.{IsReadThrough}
use Rattle.tablet.specs.Compactions.{IsCompactionRefusal, IsNewFile, ReadsOpen}
use Rattle.tablet.specs.declared.compactions.Compaction.TheVariants.{Major}
use Rattle.tablet.specs.Views.{files_of, memory_of, range_of}
use Rattle.tablet.proofs.CompactedCells.{major_cells, no_entries}
use Rattle.tablet.proofs.Held.{held_lists}
use Rattle.tablet.proofs.MadeTablets.{has_put, large_of, made_keeps, made_lists, made_of, still_keeps, still_reads}
use Rattle.tablet.proofs.Passed.{reason_after, IsNoMemory, no_memory, not_err, passed_err, passed_kept, passed_kind, passed_none, passed_on, passed_reason, quiet_reason, reason_of_ok}
use Rattle.tablet.proofs.Unread.{each_unreadable, still_too_much}
use Rattle.tablet.proofs.WrittenFiles.{if_some_not, told_written, where_held}
use Rattle.cell_key.specs.Entries.{cells_of}
use Rattle.tablet.proofs.Seen.{shown}
use Rattle.tablet.proofs.tablet.Tablet.major.Goals as goal

all_replaced : (file : SortedFile) (files : List SortedFile) (count : ℕ) → count ≡ length files → file ∷ drop count files ≡ file ∷ []
all_replaced file files count is = ap (λ (fs : List SortedFile). file ∷ fs) (drop_all count files (omega arith))

one_name : (file : SortedFile) (new : List SortedFile) (next : ℕ) → new ≡ file ∷ [] → name_of file ≡ next → map name_of new ≡ next ∷ []
one_name file new next is named = cc

pub returns-in_err-file-clause-keeps : goal.returns-in_err-file-clause-keeps
returns-in_err-file-clause-keeps g c =
    still_keeps c.stays_open.ensures (g.F.Files.contents c.args.files.now) (g.F.Files.contents c.write.new.files) c.args.next_name.now c.write.new.next_name c.args.self.now _
    (record { range = refl; memory = refl; files = c.in_ok-reserve.ensures.same }) c.in_err-file.ensures.name.uses

pub returns-in_err-file-clause-large : goal.returns-in_err-file-clause-large
returns-in_err-file-clause-large g c = λ err.
    let range = range_of c.args.self.now in
    let memory = memory_of c.args.self.now in
    let old = files_of c.args.self.now in
    large_of Major (g.F.Files.contents c.args.files.now) c.args.self.now (record c.args.self.now { files = c.reserve.new.self }) (λ m. written false (map (seen range) (memory ∷ map (listed m) c.reserve.new.self))) (λ m. written false (map (seen range) (memory ∷ map (listed m) old))) (λ es. ¬ (FitsIn c.args.file_limit es))
    (record { range = refl; memory = refl; files = c.in_ok-reserve.ensures.same }) (λ m. ap (λ (fs : List SortedFile). written false (map (seen range) (memory ∷ map (listed m) fs))) c.in_ok-reserve.ensures.same)
    (told_written Major (g.F.Files.contents c.args.files.now) (record c.args.self.now { files = c.reserve.new.self }) (λ lists. ¬ (FitsIn c.args.file_limit (written false (map (seen range) (memory ∷ lists))))) (c.in_err-file.ensures.large (passed_on c.from_residual-in_err-file.result _ c.in_err-file.field-0.0 _ c.from_residual-in_err-file.ensures.1 refl err)))

none_left : (m : Contents) (files : List SortedFile) → drop (length files) (map (listed m) files) ≡ []
none_left m files = drop_all (length files) (map (listed m) files) (let e = length-map files (listed m) in omega arith)

only : (file : SortedFile) (files : List SortedFile) → file ∷ [] ≡ file ∷ drop (length files) files
only file files = ap (λ (fs : List SortedFile). file ∷ fs) (sym (drop_all (length files) files (omega arith)))

pub returns-clause-lists : goal.returns-clause-lists
returns-clause-lists g c =
    let range = range_of c.args.self.now in
    let memory = memory_of c.args.self.now in
    let old = files_of c.args.self.now in
    let files = c.in_ok-replace_newest.ensures.ok ∙ all_replaced c.in_ok-file.file c.reserve.new.self c.len-2.result c.len-2.ensures in
    made_lists c.stays_open.ensures (g.F.Files.contents c.args.files.now) (g.F.Files.contents c.write.new.files) c.args.next_name.now c.write.new.next_name c.args.self.now (record c.args.self.now { memtable = c.new.result; files = c.replace_newest.new.self }) c.in_ok-file.file (length old) [] (λ m. written false (map (seen range) (memory ∷ map (listed m) old)))
    (λ memory lists. [] ∷ written false (map (seen (range_of c.args.self.now)) (memory ∷ lists)) ∷ [])
    (record { range = refl; memory = c.new.ensures; files = files ∙ only c.in_ok-file.file old; named = c.in_ok-file.ensures.named }) c.in_ok-file.ensures.wrote.used c.in_ok-file.ensures.wrote.others
    (where_held Major (g.F.Files.contents c.args.files.now) c.args.self.now (λ m. IsSomeAnd (g.F.Files.contents c.write.new.files) (λ n. IsNewFile n c.in_ok-file.file (written false (map (seen range) (memory ∷ map (listed m) old))))) (made_of Major (g.F.Files.contents c.args.files.now) (g.F.Files.contents c.write.new.files) c.args.self.now (record c.args.self.now { files = c.reserve.new.self }) c.in_ok-file.file (λ m. written false (map (seen range) (memory ∷ map (listed m) c.reserve.new.self))) (λ m. written false (map (seen range) (memory ∷ map (listed m) old)))
    (record { range = refl; memory = refl; files = c.in_ok-reserve.ensures.same }) (λ m. ap (λ (fs : List SortedFile). written false (map (seen range) (memory ∷ map (listed m) fs))) c.in_ok-reserve.ensures.same) c.in_ok-file.ensures.made))
    (λ m h. no_entries) (λ m h. λ i. [] ∷ written false (map (seen range) (memory ∷ map (listed m) old)) ∷ none_left m old i)

pub returns-clause-keeps : goal.returns-clause-keeps
returns-clause-keeps g c =
    let range = range_of c.args.self.now in
    let memory = memory_of c.args.self.now in
    let old = files_of c.args.self.now in
    let files = c.in_ok-replace_newest.ensures.ok ∙ all_replaced c.in_ok-file.file c.reserve.new.self c.len-2.result c.len-2.ensures in
    made_keeps c.stays_open.ensures (g.F.Files.contents c.args.files.now) (g.F.Files.contents c.write.new.files) c.args.next_name.now c.write.new.next_name c.args.self.now _ c.in_ok-file.file (length old) [] (λ m. written false (map (seen range) (memory ∷ map (listed m) old)))
    (record { range = refl; memory = c.new.ensures; files = files ∙ only c.in_ok-file.file old; named = c.in_ok-file.ensures.named }) c.in_ok-file.ensures.wrote.used c.in_ok-file.ensures.wrote.others
    (where_held Major (g.F.Files.contents c.args.files.now) c.args.self.now (λ m. IsSomeAnd (g.F.Files.contents c.write.new.files) (λ n. IsNewFile n c.in_ok-file.file (written false (map (seen range) (memory ∷ map (listed m) old))))) (made_of Major (g.F.Files.contents c.args.files.now) (g.F.Files.contents c.write.new.files) c.args.self.now (record c.args.self.now { files = c.reserve.new.self }) c.in_ok-file.file (λ m. written false (map (seen range) (memory ∷ map (listed m) c.reserve.new.self))) (λ m. written false (map (seen range) (memory ∷ map (listed m) old)))
    (record { range = refl; memory = refl; files = c.in_ok-reserve.ensures.same }) (λ m. ap (λ (fs : List SortedFile). written false (map (seen range) (memory ∷ map (listed m) fs))) c.in_ok-reserve.ensures.same) c.in_ok-file.ensures.made))
    (λ m h. no_entries) (λ m h list. (λ i. cells_of (shown range ([] ∷ written false (map (seen range) (memory ∷ map (listed m) old)) ∷ none_left m old i))) ∙ major_cells c.names_first.ensures range memory (map (listed m) old) (held_lists m c.args.self.now h) no_entries list)

pub returns-in_err-file-clause-lists : goal.returns-in_err-file-clause-lists
returns-in_err-file-clause-lists g c = passed_none c.from_residual-in_err-file.result c.in_err-file.field-0.0 _ c.from_residual-in_err-file.ensures.1

pub returns-in_err-file-clause-range : goal.returns-in_err-file-clause-range
returns-in_err-file-clause-range g c = refl

pub returns-in_err-file-clause-err : goal.returns-in_err-file-clause-err
returns-in_err-file-clause-err g c = passed_kept c.from_residual-in_err-file.result _ (record { range = refl; memory = refl; files = c.in_ok-reserve.ensures.same })

pub returns-in_err-file-clause-name : goal.returns-in_err-file-clause-name
returns-in_err-file-clause-name g c = c.in_err-file.ensures.name

pub returns-in_err-file-clause-exhausted : goal.returns-in_err-file-clause-exhausted
returns-in_err-file-clause-exhausted g c = λ is. c.in_err-file.ensures.exhausted (passed_on c.from_residual-in_err-file.result _ c.in_err-file.field-0.0 _ c.from_residual-in_err-file.ensures.1 refl is)

pub returns-in_err-file-clause-damaged : goal.returns-in_err-file-clause-damaged
returns-in_err-file-clause-damaged g c = λ is.
    if_some_not (g.F.Files.contents c.args.files.now) (λ m. ReadsOpen Major (Some m) (record c.args.self.now { files = c.reserve.new.self })) (λ m. ReadsOpen Major (Some m) c.args.self.now)
    (λ m. still_reads Major (Some m) c.args.self.now (record c.args.self.now { files = c.reserve.new.self }) (record { range = refl; memory = refl; files = c.in_ok-reserve.ensures.same })) (c.in_err-file.ensures.damaged (passed_on c.from_residual-in_err-file.result _ c.in_err-file.field-0.0 _ c.from_residual-in_err-file.ensures.1 refl is))

pub returns-in_err-file-clause-refusal : goal.returns-in_err-file-clause-refusal
returns-in_err-file-clause-refusal g c = passed_err c.from_residual-in_err-file.result c.in_err-file.field-0.0 _ c.from_residual-in_err-file.ensures.1 c.in_err-file.ensures.refusal

pub returns-in_err-file-clause-reason : goal.returns-in_err-file-clause-reason
returns-in_err-file-clause-reason g c = passed_reason c.from_residual-in_err-file.result _ c.in_err-file.field-0.0 _ _ c.from_residual-in_err-file.ensures.1 refl c.in_err-file.ensures.reason

pub returns-in_err-reserve-clause-lists : goal.returns-in_err-reserve-clause-lists
returns-in_err-reserve-clause-lists g c = passed_none c.from_residual.result c.in_err-reserve.field-0.0 _ c.from_residual.ensures.1

pub returns-in_err-reserve-clause-range : goal.returns-in_err-reserve-clause-range
returns-in_err-reserve-clause-range g c = refl

pub returns-in_err-reserve-clause-keeps : goal.returns-in_err-reserve-clause-keeps
returns-in_err-reserve-clause-keeps g c = still_keeps c.stays_open.ensures (g.F.Files.contents c.args.files.now) (g.F.Files.contents c.args.files.now) c.args.next_name.now c.args.next_name.now c.args.self.now _
    (record { range = refl; memory = refl; files = c.in_err-reserve.ensures.same }) (inl (refl, refl))

pub returns-in_err-reserve-clause-err : goal.returns-in_err-reserve-clause-err
returns-in_err-reserve-clause-err g c = passed_kept c.from_residual.result _ (record { range = refl; memory = refl; files = c.in_err-reserve.ensures.same })

pub returns-in_err-reserve-clause-name : goal.returns-in_err-reserve-clause-name
returns-in_err-reserve-clause-name g c = record { uses = inl (refl, refl); within = λ most. most }

pub returns-in_err-reserve-clause-exhausted : goal.returns-in_err-reserve-clause-exhausted
returns-in_err-reserve-clause-exhausted g c = λ is. absurd (passed_kind c.from_residual.result c.in_err-reserve.field-0.0 _ IsNoMemory c.from_residual.ensures.1 (no_memory _ c.in_err-reserve.ensures.refusal) is)

pub returns-in_err-reserve-clause-large : goal.returns-in_err-reserve-clause-large
returns-in_err-reserve-clause-large g c = λ is. absurd (passed_kind c.from_residual.result c.in_err-reserve.field-0.0 _ IsNoMemory c.from_residual.ensures.1 (no_memory _ c.in_err-reserve.ensures.refusal) is)

pub returns-in_err-reserve-clause-damaged : goal.returns-in_err-reserve-clause-damaged
returns-in_err-reserve-clause-damaged g c = λ is. absurd (passed_kind c.from_residual.result c.in_err-reserve.field-0.0 _ IsNoMemory c.from_residual.ensures.1 (no_memory _ c.in_err-reserve.ensures.refusal) is)

pub returns-in_err-reserve-clause-refusal : goal.returns-in_err-reserve-clause-refusal
returns-in_err-reserve-clause-refusal g c = passed_err c.from_residual.result c.in_err-reserve.field-0.0 _ c.from_residual.ensures.1 (subst IsCompactionRefusal (sym c.in_err-reserve.ensures.refusal) tt)

pub returns-in_err-reserve-clause-reason : goal.returns-in_err-reserve-clause-reason
returns-in_err-reserve-clause-reason g c = quiet_reason c.from_residual.result _ (λ is. absurd (passed_kind c.from_residual.result c.in_err-reserve.field-0.0 _ IsNoMemory c.from_residual.ensures.1 (no_memory _ c.in_err-reserve.ensures.refusal) is))

pub returns-clause-range : goal.returns-clause-range
returns-clause-range g c = refl

pub returns-clause-err : goal.returns-clause-err
returns-clause-err g c = tt

pub returns-clause-refusal : goal.returns-clause-refusal
returns-clause-refusal g c = tt

pub returns-clause-name : goal.returns-clause-name
returns-clause-name g c = record { uses = inr (c.in_ok-file.ensures.wrote.used, c.in_ok-file.ensures.wrote.others); within = c.in_ok-file.ensures.name.within }

pub returns-clause-exhausted : goal.returns-clause-exhausted
returns-clause-exhausted g c = λ is. absurd (not_err _ _ is)

pub returns-clause-large : goal.returns-clause-large
returns-clause-large g c = λ is. absurd (not_err _ _ is)

pub returns-clause-damaged : goal.returns-clause-damaged
returns-clause-damaged g c = λ is. absurd (not_err _ _ is)

pub returns-clause-reason : goal.returns-clause-reason
returns-clause-reason g c = reason_of_ok _ _ _ _ c.in_ok-file.ensures.reason

pub returns-in_err-file-clause-made : goal.returns-in_err-file-clause-made
returns-in_err-file-clause-made g c = passed_none c.from_residual-in_err-file.result c.in_err-file.field-0.0 _ c.from_residual-in_err-file.ensures.1

pub returns-in_err-reserve-clause-made : goal.returns-in_err-reserve-clause-made
returns-in_err-reserve-clause-made g c = passed_none c.from_residual.result c.in_err-reserve.field-0.0 _ c.from_residual.ensures.1

pub returns-clause-made : goal.returns-clause-made
returns-clause-made g c =
    let range = range_of c.args.self.now in
    let memory = memory_of c.args.self.now in
    let old = files_of c.args.self.now in
    let files = c.in_ok-replace_newest.ensures.ok ∙ all_replaced c.in_ok-file.file c.reserve.new.self c.len-2.result c.len-2.ensures in
    record {
      names = one_name _ _ c.args.next_name.now files c.in_ok-file.ensures.named;
      memory = c.new.ensures;
      left = c.in_ok-file.ensures.wrote.left;
      used = c.in_ok-file.ensures.wrote.used;
      read = subst (AllByRecursion (IsReadThrough (g.F.Files.contents c.args.files.now) (lower_fence range) (upper_fence range))) c.in_ok-reserve.ensures.same c.in_ok-file.ensures.read;
      fits =
          large_of Major (g.F.Files.contents c.args.files.now) c.args.self.now (record c.args.self.now { files = c.reserve.new.self }) (λ m. written false (map (seen range) (memory ∷ map (listed m) c.reserve.new.self))) (λ m. written false (map (seen range) (memory ∷ map (listed m) old))) (λ es. FitsIn c.args.file_limit es)
          (record { range = refl; memory = refl; files = c.in_ok-reserve.ensures.same }) (λ m. ap (λ (fs : List SortedFile). written false (map (seen range) (memory ∷ map (listed m) fs))) c.in_ok-reserve.ensures.same)
          (told_written Major (g.F.Files.contents c.args.files.now) (record c.args.self.now { files = c.reserve.new.self }) (λ lists. FitsIn c.args.file_limit (written false (map (seen range) (memory ∷ lists)))) c.in_ok-file.ensures.fits);
      put = has_put Major (g.F.Files.contents c.args.files.now) (g.F.Files.contents c.write.new.files) c.args.self.now (record c.args.self.now { memtable = c.new.result; files = c.replace_newest.new.self }) c.in_ok-file.file (λ m. written false (map (seen range) (memory ∷ map (listed m) old))) (λ m. written false (map (seen range) (memory ∷ map (listed m) old))) files (λ m. refl)
          (made_of Major (g.F.Files.contents c.args.files.now) (g.F.Files.contents c.write.new.files) c.args.self.now (record c.args.self.now { files = c.reserve.new.self }) c.in_ok-file.file (λ m. written false (map (seen range) (memory ∷ map (listed m) c.reserve.new.self))) (λ m. written false (map (seen range) (memory ∷ map (listed m) old)))
          (record { range = refl; memory = refl; files = c.in_ok-reserve.ensures.same }) (λ m. ap (λ (fs : List SortedFile). written false (map (seen range) (memory ∷ map (listed m) fs))) c.in_ok-reserve.ensures.same) c.in_ok-file.ensures.made);
    }

pub returns-in_err-file-clause-too_much : goal.returns-in_err-file-clause-too_much
returns-in_err-file-clause-too_much g c = λ is.
    still_too_much Major (g.F.Files.contents c.args.files.now) c.args.self.now (record c.args.self.now { files = c.reserve.new.self }) (record { range = refl; memory = refl; files = c.in_ok-reserve.ensures.same }) c.args.file_limit (c.in_err-file.ensures.too_much (passed_on c.from_residual-in_err-file.result _ c.in_err-file.field-0.0 _ c.from_residual-in_err-file.ensures.1 refl is))

pub returns-in_err-file-clause-broken : goal.returns-in_err-file-clause-broken
returns-in_err-file-clause-broken g c = λ is.
    each_unreadable Major (g.F.Files.contents c.args.files.now) c.args.self.now (record c.args.self.now { files = c.reserve.new.self }) (record { range = refl; memory = refl; files = c.in_ok-reserve.ensures.same }) (c.in_err-file.ensures.broken (passed_on c.from_residual-in_err-file.result _ c.in_err-file.field-0.0 _ c.from_residual-in_err-file.ensures.1 refl is))

pub returns-in_err-reserve-clause-too_much : goal.returns-in_err-reserve-clause-too_much
returns-in_err-reserve-clause-too_much g c = λ is. absurd (passed_kind c.from_residual.result c.in_err-reserve.field-0.0 _ IsNoMemory c.from_residual.ensures.1 (no_memory _ c.in_err-reserve.ensures.refusal) is)

pub returns-clause-too_much : goal.returns-clause-too_much
returns-clause-too_much g c = λ is. absurd (not_err _ _ is)

pub returns-in_err-reserve-clause-broken : goal.returns-in_err-reserve-clause-broken
returns-in_err-reserve-clause-broken g c = λ is. absurd (passed_kind c.from_residual.result c.in_err-reserve.field-0.0 _ IsNoMemory c.from_residual.ensures.1 (no_memory _ c.in_err-reserve.ensures.refusal) is)

pub returns-clause-broken : goal.returns-clause-broken
returns-clause-broken g c = λ is. absurd (not_err _ _ is)

pub returns-in_err-replace_newest-clause-made : goal.returns-in_err-replace_newest-clause-made
returns-in_err-replace_newest-clause-made g c = passed_none c.from_residual-in_err-replace_newest.result c.in_err-replace_newest.field-0.0 _ c.from_residual-in_err-replace_newest.ensures.1

pub returns-in_err-replace_newest-clause-lists : goal.returns-in_err-replace_newest-clause-lists
returns-in_err-replace_newest-clause-lists g c = passed_none c.from_residual-in_err-replace_newest.result c.in_err-replace_newest.field-0.0 _ c.from_residual-in_err-replace_newest.ensures.1

pub returns-in_err-replace_newest-clause-keeps : goal.returns-in_err-replace_newest-clause-keeps
returns-in_err-replace_newest-clause-keeps g c =
    still_keeps c.stays_open.ensures (g.F.Files.contents c.args.files.now) (g.F.Files.contents c.write.new.files) c.args.next_name.now c.write.new.next_name c.args.self.now _
    (record { range = refl; memory = refl; files = c.in_err-replace_newest.ensures.err ∙ c.in_ok-reserve.ensures.same }) c.in_ok-file.ensures.name.uses

pub returns-in_err-replace_newest-clause-range : goal.returns-in_err-replace_newest-clause-range
returns-in_err-replace_newest-clause-range g c = refl

pub returns-in_err-replace_newest-clause-err : goal.returns-in_err-replace_newest-clause-err
returns-in_err-replace_newest-clause-err g c = passed_kept c.from_residual-in_err-replace_newest.result _ (record { range = refl; memory = refl; files = c.in_err-replace_newest.ensures.err ∙ c.in_ok-reserve.ensures.same })

pub returns-in_err-replace_newest-clause-name : goal.returns-in_err-replace_newest-clause-name
returns-in_err-replace_newest-clause-name g c = c.in_ok-file.ensures.name

pub returns-in_err-replace_newest-clause-exhausted : goal.returns-in_err-replace_newest-clause-exhausted
returns-in_err-replace_newest-clause-exhausted g c = λ is. absurd (passed_kind c.from_residual-in_err-replace_newest.result c.in_err-replace_newest.field-0.0 _ IsNoMemory c.from_residual-in_err-replace_newest.ensures.1 (no_memory _ c.in_err-replace_newest.ensures.refusal) is)

pub returns-in_err-replace_newest-clause-large : goal.returns-in_err-replace_newest-clause-large
returns-in_err-replace_newest-clause-large g c = λ is. absurd (passed_kind c.from_residual-in_err-replace_newest.result c.in_err-replace_newest.field-0.0 _ IsNoMemory c.from_residual-in_err-replace_newest.ensures.1 (no_memory _ c.in_err-replace_newest.ensures.refusal) is)

pub returns-in_err-replace_newest-clause-too_much : goal.returns-in_err-replace_newest-clause-too_much
returns-in_err-replace_newest-clause-too_much g c = λ is. absurd (passed_kind c.from_residual-in_err-replace_newest.result c.in_err-replace_newest.field-0.0 _ IsNoMemory c.from_residual-in_err-replace_newest.ensures.1 (no_memory _ c.in_err-replace_newest.ensures.refusal) is)

pub returns-in_err-replace_newest-clause-damaged : goal.returns-in_err-replace_newest-clause-damaged
returns-in_err-replace_newest-clause-damaged g c = λ is. absurd (passed_kind c.from_residual-in_err-replace_newest.result c.in_err-replace_newest.field-0.0 _ IsNoMemory c.from_residual-in_err-replace_newest.ensures.1 (no_memory _ c.in_err-replace_newest.ensures.refusal) is)

pub returns-in_err-replace_newest-clause-broken : goal.returns-in_err-replace_newest-clause-broken
returns-in_err-replace_newest-clause-broken g c = λ is. absurd (passed_kind c.from_residual-in_err-replace_newest.result c.in_err-replace_newest.field-0.0 _ IsNoMemory c.from_residual-in_err-replace_newest.ensures.1 (no_memory _ c.in_err-replace_newest.ensures.refusal) is)

pub returns-in_err-replace_newest-clause-refusal : goal.returns-in_err-replace_newest-clause-refusal
returns-in_err-replace_newest-clause-refusal g c = passed_err c.from_residual-in_err-replace_newest.result c.in_err-replace_newest.field-0.0 _ c.from_residual-in_err-replace_newest.ensures.1 (subst IsCompactionRefusal (sym c.in_err-replace_newest.ensures.refusal) tt)

pub returns-in_err-replace_newest-clause-reason : goal.returns-in_err-replace_newest-clause-reason
returns-in_err-replace_newest-clause-reason g c = reason_after _ _ _ (c.in_ok-file.ensures.reason.told (not_err _ Device)) (quiet_reason c.from_residual-in_err-replace_newest.result _ (λ is. absurd (passed_kind c.from_residual-in_err-replace_newest.result c.in_err-replace_newest.field-0.0 _ IsNoMemory c.from_residual-in_err-replace_newest.ensures.1 (no_memory _ c.in_err-replace_newest.ensures.refusal) is)))
