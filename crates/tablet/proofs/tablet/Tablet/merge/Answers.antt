use Rattle.std.proofs.Common.{◌≡◌, ℕ, ◌≤◌, ◌∷◌, List, map, take, drop, length, refl, ap, sym, subst, ◌∙◌, inl, inr, arith}
use Rattle.std.proofs.lemmas.List.{drop-map, length-map}
use Rattle.std.specs.Prelude.{nat_lt, IsSomeAnd}
use Rattle.cell_key.specs.declared.refusals.Refusal.TheVariants.{BadCount, Device}
use Rattle.sorted_file.specs.Grammar.{FitsIn}
use Rattle.sorted_file.specs.File.{listed, name_of}
use Rattle.sorted_file.specs.declared.file.SortedFile.{SortedFile}
use Rattle.compaction.specs.Writing.{written}
use Rattle.tablet.specs.Ranges.{seen}
use Rattle.tablet.specs.Compactions.{IsCompactionRefusal, IsMergeRefusal, IsNewFile, compacted, compacted_of}
use Rattle.tablet.specs.declared.compactions.Compaction.TheVariants.{Merge}
use Rattle.tablet.specs.Views.{files_of, memory_of, range_of}
use Rattle.tablet.proofs.CompactedCells.{merge_cells}
use Rattle.tablet.proofs.Held.{held_lists}
use Rattle.tablet.proofs.MadeTablets.{has_put, made_keeps, made_lists, still_keeps}
use Rattle.tablet.proofs.Passed.{IsNoMemory, no_memory, reason_after, IsBadCount, merge_of, not_err, passed_err, passed_kept, passed_kind, passed_none, passed_on, passed_reason, quiet_reason, reason_of_ok, told_kind}
use Rattle.tablet.proofs.WrittenFiles.{told_written, where_held}
use Rattle.tablet.proofs.tablet.Tablet.merge.Goals as goal

within : (files : List SortedFile) (len count : ℕ) → len ≡ length files → count ≤ len → count ≤ length (map name_of files)
within files len count is most = omega (arith, length-map files name_of)

pub returns-in_err-file-clause-keeps : goal.returns-in_err-file-clause-keeps
returns-in_err-file-clause-keeps g c =
    still_keeps c.stays_open.ensures (g.F.Files.contents c.args.files.now) (g.F.Files.contents c.write.new.files) c.args.next_name.now c.write.new.next_name c.args.self.now _
    (record { range = refl; memory = refl; files = refl }) c.in_err-file.ensures.name.uses

pub returns-clause-lists : goal.returns-clause-lists
returns-clause-lists g c =
    let range = range_of c.args.self.now in
    let memory = memory_of c.args.self.now in
    let old = files_of c.args.self.now in
    made_lists c.stays_open.ensures (g.F.Files.contents c.args.files.now) (g.F.Files.contents c.write.new.files) c.args.next_name.now c.write.new.next_name c.args.self.now (record c.args.self.now { files = c.replace_newest.new.self }) c.in_ok-file.file c.args.count memory (λ m. written (nat_lt c.args.count (length (map (listed m) old))) (map (seen range) (take c.args.count (map (listed m) old))))
    (λ memory lists. memory ∷ written (nat_lt c.args.count (length lists)) (map (seen (range_of c.args.self.now)) (take c.args.count lists)) ∷ drop c.args.count lists)
    (record { range = refl; memory = refl; files = c.in_ok-replace_newest.ensures.ok; named = c.in_ok-file.ensures.named }) c.in_ok-file.ensures.wrote.used c.in_ok-file.ensures.wrote.others
    (where_held (Merge c.args.count) (g.F.Files.contents c.args.files.now) c.args.self.now (λ m. IsSomeAnd (g.F.Files.contents c.write.new.files) (λ n. IsNewFile n c.in_ok-file.file (written (nat_lt c.args.count (length (map (listed m) old))) (map (seen range) (take c.args.count (map (listed m) old)))))) c.in_ok-file.ensures.made)
    (λ m h. h.memory) (λ m h. refl)

pub returns-clause-keeps : goal.returns-clause-keeps
returns-clause-keeps g c =
    let range = range_of c.args.self.now in
    let memory = memory_of c.args.self.now in
    let old = files_of c.args.self.now in
    made_keeps c.stays_open.ensures (g.F.Files.contents c.args.files.now) (g.F.Files.contents c.write.new.files) c.args.next_name.now c.write.new.next_name c.args.self.now _ c.in_ok-file.file c.args.count memory (λ m. written (nat_lt c.args.count (length (map (listed m) old))) (map (seen range) (take c.args.count (map (listed m) old))))
    (record { range = refl; memory = refl; files = c.in_ok-replace_newest.ensures.ok; named = c.in_ok-file.ensures.named }) c.in_ok-file.ensures.wrote.used c.in_ok-file.ensures.wrote.others
    (where_held (Merge c.args.count) (g.F.Files.contents c.args.files.now) c.args.self.now (λ m. IsSomeAnd (g.F.Files.contents c.write.new.files) (λ n. IsNewFile n c.in_ok-file.file (written (nat_lt c.args.count (length (map (listed m) old))) (map (seen range) (take c.args.count (map (listed m) old)))))) c.in_ok-file.ensures.made)
    (λ m h. h.memory) (λ m h list. merge_cells c.names_first.ensures range memory (map (listed m) old) c.args.count (held_lists m c.args.self.now h) (nat_lt c.args.count (length (map (listed m) old))) refl list)

pub returns-in_err-file-clause-lists : goal.returns-in_err-file-clause-lists
returns-in_err-file-clause-lists g c = passed_none c.from_residual.result c.in_err-file.field-0.0 _ c.from_residual.ensures.1

pub returns-in_err-file-clause-range : goal.returns-in_err-file-clause-range
returns-in_err-file-clause-range g c = refl

pub returns-in_err-file-clause-err : goal.returns-in_err-file-clause-err
returns-in_err-file-clause-err g c = passed_kept c.from_residual.result _ (record { range = refl; memory = refl; files = refl })

pub returns-in_err-file-clause-name : goal.returns-in_err-file-clause-name
returns-in_err-file-clause-name g c = c.in_err-file.ensures.name

pub returns-in_err-file-clause-count : goal.returns-in_err-file-clause-count
returns-in_err-file-clause-count g c = record {
  exactly = (λ is. absurd (passed_kind c.from_residual.result c.in_err-file.field-0.0 BadCount IsCompactionRefusal c.from_residual.ensures.1 c.in_err-file.ensures.refusal is), λ no. absurd (no (c.if-count-lt2.false, within (files_of c.args.self.now) _ c.args.count c.len.ensures c.if-count-len.false)));
  untouched = λ is. absurd (passed_kind c.from_residual.result c.in_err-file.field-0.0 BadCount IsCompactionRefusal c.from_residual.ensures.1 c.in_err-file.ensures.refusal is);
}

pub returns-in_err-file-clause-exhausted : goal.returns-in_err-file-clause-exhausted
returns-in_err-file-clause-exhausted g c = λ is. c.in_err-file.ensures.exhausted (passed_on c.from_residual.result _ c.in_err-file.field-0.0 _ c.from_residual.ensures.1 refl is)

pub returns-in_err-file-clause-large : goal.returns-in_err-file-clause-large
returns-in_err-file-clause-large g c = λ is.
    told_written (Merge c.args.count) (g.F.Files.contents c.args.files.now) c.args.self.now (λ lists. ¬ (FitsIn c.args.file_limit (compacted (Merge c.args.count) (range_of c.args.self.now) (memory_of c.args.self.now) lists)))
    (c.in_err-file.ensures.large (passed_on c.from_residual.result _ c.in_err-file.field-0.0 _ c.from_residual.ensures.1 refl is))

pub returns-in_err-file-clause-damaged : goal.returns-in_err-file-clause-damaged
returns-in_err-file-clause-damaged g c = λ is. c.in_err-file.ensures.damaged (passed_on c.from_residual.result _ c.in_err-file.field-0.0 _ c.from_residual.ensures.1 refl is)

pub returns-in_err-file-clause-refusal : goal.returns-in_err-file-clause-refusal
returns-in_err-file-clause-refusal g c = passed_err c.from_residual.result c.in_err-file.field-0.0 _ c.from_residual.ensures.1 (merge_of c.in_err-file.field-0.0 c.in_err-file.ensures.refusal)

pub returns-in_err-file-clause-reason : goal.returns-in_err-file-clause-reason
returns-in_err-file-clause-reason g c = passed_reason c.from_residual.result _ c.in_err-file.field-0.0 _ _ c.from_residual.ensures.1 refl c.in_err-file.ensures.reason

pub returns-then-count-lt2-clause-lists : goal.returns-then-count-lt2-clause-lists
returns-then-count-lt2-clause-lists g c = tt

pub returns-then-count-lt2-clause-refusal : goal.returns-then-count-lt2-clause-refusal
returns-then-count-lt2-clause-refusal g c = tt

pub returns-then-count-lt2-clause-range : goal.returns-then-count-lt2-clause-range
returns-then-count-lt2-clause-range g c = refl

pub returns-then-count-lt2-clause-err : goal.returns-then-count-lt2-clause-err
returns-then-count-lt2-clause-err g c = record { range = refl; memory = refl; files = refl }

pub returns-then-count-lt2-clause-name : goal.returns-then-count-lt2-clause-name
returns-then-count-lt2-clause-name g c = record { uses = inl (refl, refl); within = λ most. most }

pub returns-then-count-lt2-clause-keeps : goal.returns-then-count-lt2-clause-keeps
returns-then-count-lt2-clause-keeps g c =
    still_keeps c.stays_open.ensures (g.F.Files.contents c.args.files.now) (g.F.Files.contents c.args.files.now) c.args.next_name.now c.args.next_name.now c.args.self.now c.args.self.now
    (record { range = refl; memory = refl; files = refl }) (inl (refl, refl))

pub returns-then-count-lt2-clause-exhausted : goal.returns-then-count-lt2-clause-exhausted
returns-then-count-lt2-clause-exhausted g c = λ is. absurd (told_kind BadCount _ IsBadCount tt is)

pub returns-then-count-lt2-clause-large : goal.returns-then-count-lt2-clause-large
returns-then-count-lt2-clause-large g c = λ is. absurd (told_kind BadCount _ IsBadCount tt is)

pub returns-then-count-lt2-clause-damaged : goal.returns-then-count-lt2-clause-damaged
returns-then-count-lt2-clause-damaged g c = λ is. absurd (told_kind BadCount _ IsBadCount tt is)

pub returns-then-count-lt2-clause-reason : goal.returns-then-count-lt2-clause-reason
returns-then-count-lt2-clause-reason g c = quiet_reason _ _ (λ is. absurd (told_kind BadCount Device IsBadCount tt is))

pub returns-clause-range : goal.returns-clause-range
returns-clause-range g c = refl

pub returns-clause-err : goal.returns-clause-err
returns-clause-err g c = tt

pub returns-clause-refusal : goal.returns-clause-refusal
returns-clause-refusal g c = tt

pub returns-clause-name : goal.returns-clause-name
returns-clause-name g c = record { uses = inr (c.in_ok-file.ensures.wrote.used, c.in_ok-file.ensures.wrote.others); within = c.in_ok-file.ensures.name.within }

pub returns-clause-count : goal.returns-clause-count
returns-clause-count g c = record {
  exactly = (λ is. absurd (not_err _ _ is), λ no. absurd (no (c.if-count-lt2.false, within (files_of c.args.self.now) _ c.args.count c.len.ensures c.if-count-len.false)));
  untouched = λ is. absurd (not_err _ _ is);
}

pub returns-clause-exhausted : goal.returns-clause-exhausted
returns-clause-exhausted g c = λ is. absurd (not_err _ _ is)

pub returns-clause-large : goal.returns-clause-large
returns-clause-large g c = λ is. absurd (not_err _ _ is)

pub returns-clause-damaged : goal.returns-clause-damaged
returns-clause-damaged g c = λ is. absurd (not_err _ _ is)

pub returns-clause-reason : goal.returns-clause-reason
returns-clause-reason g c = reason_of_ok _ _ _ _ c.in_ok-file.ensures.reason

pub returns-in_err-file-clause-made : goal.returns-in_err-file-clause-made
returns-in_err-file-clause-made g c = passed_none c.from_residual.result c.in_err-file.field-0.0 _ c.from_residual.ensures.1

pub returns-then-count-lt2-clause-made : goal.returns-then-count-lt2-clause-made
returns-then-count-lt2-clause-made g c = tt

pub returns-clause-made : goal.returns-clause-made
returns-clause-made g c =
    record {
      names =
          ap (map name_of) c.in_ok-replace_newest.ensures.ok
          ∙ (λ i. c.in_ok-file.ensures.named i ∷ sym (drop-map name_of c.args.count (files_of c.args.self.now)) i);
      memory = refl;
      left = c.in_ok-file.ensures.wrote.left;
      used = c.in_ok-file.ensures.wrote.used;
      read = c.in_ok-file.ensures.read;
      fits = told_written (Merge c.args.count) (g.F.Files.contents c.args.files.now) c.args.self.now (λ lists. FitsIn c.args.file_limit (compacted (Merge c.args.count) (range_of c.args.self.now) (memory_of c.args.self.now) lists)) c.in_ok-file.ensures.fits;
      put = has_put (Merge c.args.count) (g.F.Files.contents c.args.files.now) (g.F.Files.contents c.write.new.files) c.args.self.now (record c.args.self.now { files = c.replace_newest.new.self }) c.in_ok-file.file (λ m. compacted_of (Merge c.args.count) m c.args.self.now) (λ m. compacted_of (Merge c.args.count) m c.args.self.now) c.in_ok-replace_newest.ensures.ok (λ m. refl) c.in_ok-file.ensures.made;
    }

pub returns-in_err-file-clause-too_much : goal.returns-in_err-file-clause-too_much
returns-in_err-file-clause-too_much g c = λ is. c.in_err-file.ensures.too_much (passed_on c.from_residual.result _ c.in_err-file.field-0.0 _ c.from_residual.ensures.1 refl is)

pub returns-then-count-lt2-clause-too_much : goal.returns-then-count-lt2-clause-too_much
returns-then-count-lt2-clause-too_much g c = λ is. absurd (told_kind BadCount _ IsBadCount tt is)

pub returns-clause-too_much : goal.returns-clause-too_much
returns-clause-too_much g c = λ is. absurd (not_err _ _ is)

pub returns-in_err-file-clause-broken : goal.returns-in_err-file-clause-broken
returns-in_err-file-clause-broken g c = λ is. c.in_err-file.ensures.broken (passed_on c.from_residual.result _ c.in_err-file.field-0.0 _ c.from_residual.ensures.1 refl is)

pub returns-then-count-lt2-clause-broken : goal.returns-then-count-lt2-clause-broken
returns-then-count-lt2-clause-broken g c = λ is. absurd (told_kind BadCount _ IsBadCount tt is)

pub returns-clause-broken : goal.returns-clause-broken
returns-clause-broken g c = λ is. absurd (not_err _ _ is)

pub returns-in_err-replace_newest-clause-made : goal.returns-in_err-replace_newest-clause-made
returns-in_err-replace_newest-clause-made g c = passed_none c.from_residual-in_err-replace_newest.result c.in_err-replace_newest.field-0.0 _ c.from_residual-in_err-replace_newest.ensures.1

pub returns-in_err-replace_newest-clause-lists : goal.returns-in_err-replace_newest-clause-lists
returns-in_err-replace_newest-clause-lists g c = passed_none c.from_residual-in_err-replace_newest.result c.in_err-replace_newest.field-0.0 _ c.from_residual-in_err-replace_newest.ensures.1

pub returns-in_err-replace_newest-clause-keeps : goal.returns-in_err-replace_newest-clause-keeps
returns-in_err-replace_newest-clause-keeps g c =
    still_keeps c.stays_open.ensures (g.F.Files.contents c.args.files.now) (g.F.Files.contents c.write.new.files) c.args.next_name.now c.write.new.next_name c.args.self.now _
    (record { range = refl; memory = refl; files = c.in_err-replace_newest.ensures.err }) c.in_ok-file.ensures.name.uses

pub returns-in_err-replace_newest-clause-range : goal.returns-in_err-replace_newest-clause-range
returns-in_err-replace_newest-clause-range g c = refl

pub returns-in_err-replace_newest-clause-err : goal.returns-in_err-replace_newest-clause-err
returns-in_err-replace_newest-clause-err g c = passed_kept c.from_residual-in_err-replace_newest.result _ (record { range = refl; memory = refl; files = c.in_err-replace_newest.ensures.err })

pub returns-in_err-replace_newest-clause-name : goal.returns-in_err-replace_newest-clause-name
returns-in_err-replace_newest-clause-name g c = c.in_ok-file.ensures.name

pub returns-in_err-replace_newest-clause-exhausted : goal.returns-in_err-replace_newest-clause-exhausted
returns-in_err-replace_newest-clause-exhausted g c = λ is. absurd (passed_kind c.from_residual-in_err-replace_newest.result c.in_err-replace_newest.field-0.0 _ IsNoMemory c.from_residual-in_err-replace_newest.ensures.1 (no_memory _ c.in_err-replace_newest.ensures.refusal) is)

pub returns-in_err-replace_newest-clause-large : goal.returns-in_err-replace_newest-clause-large
returns-in_err-replace_newest-clause-large g c = λ is. absurd (passed_kind c.from_residual-in_err-replace_newest.result c.in_err-replace_newest.field-0.0 _ IsNoMemory c.from_residual-in_err-replace_newest.ensures.1 (no_memory _ c.in_err-replace_newest.ensures.refusal) is)

pub returns-in_err-replace_newest-clause-too_much : goal.returns-in_err-replace_newest-clause-too_much
returns-in_err-replace_newest-clause-too_much g c = λ is. absurd (passed_kind c.from_residual-in_err-replace_newest.result c.in_err-replace_newest.field-0.0 _ IsNoMemory c.from_residual-in_err-replace_newest.ensures.1 (no_memory _ c.in_err-replace_newest.ensures.refusal) is)

pub returns-in_err-replace_newest-clause-damaged : goal.returns-in_err-replace_newest-clause-damaged
returns-in_err-replace_newest-clause-damaged g c = λ is. absurd (passed_kind c.from_residual-in_err-replace_newest.result c.in_err-replace_newest.field-0.0 _ IsNoMemory c.from_residual-in_err-replace_newest.ensures.1 (no_memory _ c.in_err-replace_newest.ensures.refusal) is)

pub returns-in_err-replace_newest-clause-broken : goal.returns-in_err-replace_newest-clause-broken
returns-in_err-replace_newest-clause-broken g c = λ is. absurd (passed_kind c.from_residual-in_err-replace_newest.result c.in_err-replace_newest.field-0.0 _ IsNoMemory c.from_residual-in_err-replace_newest.ensures.1 (no_memory _ c.in_err-replace_newest.ensures.refusal) is)

pub returns-in_err-replace_newest-clause-count : goal.returns-in_err-replace_newest-clause-count
returns-in_err-replace_newest-clause-count g c = record {
  exactly = (λ is. absurd (passed_kind c.from_residual-in_err-replace_newest.result c.in_err-replace_newest.field-0.0 _ IsNoMemory c.from_residual-in_err-replace_newest.ensures.1 (no_memory _ c.in_err-replace_newest.ensures.refusal) is), λ no. absurd (no (c.if-count-lt2.false, within (files_of c.args.self.now) _ c.args.count c.len.ensures c.if-count-len.false)));
  untouched = λ is. absurd (passed_kind c.from_residual-in_err-replace_newest.result c.in_err-replace_newest.field-0.0 _ IsNoMemory c.from_residual-in_err-replace_newest.ensures.1 (no_memory _ c.in_err-replace_newest.ensures.refusal) is);
}

pub returns-in_err-replace_newest-clause-refusal : goal.returns-in_err-replace_newest-clause-refusal
returns-in_err-replace_newest-clause-refusal g c = passed_err c.from_residual-in_err-replace_newest.result c.in_err-replace_newest.field-0.0 _ c.from_residual-in_err-replace_newest.ensures.1 (subst IsMergeRefusal (sym c.in_err-replace_newest.ensures.refusal) tt)

pub returns-in_err-replace_newest-clause-reason : goal.returns-in_err-replace_newest-clause-reason
returns-in_err-replace_newest-clause-reason g c = reason_after _ _ _ (c.in_ok-file.ensures.reason.told (not_err _ Device)) (quiet_reason c.from_residual-in_err-replace_newest.result _ (λ is. absurd (passed_kind c.from_residual-in_err-replace_newest.result c.in_err-replace_newest.field-0.0 _ IsNoMemory c.from_residual-in_err-replace_newest.ensures.1 (no_memory _ c.in_err-replace_newest.ensures.refusal) is)))
