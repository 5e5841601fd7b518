use Rattle.std.proofs.Common.{Some, Bool, ◌⊎◌, List, map, length, refl, sym, subst, inl, ◌∙◌}
use Rattle.std.proofs.lemmas.List.{length-map}
use Rattle.std.specs.Option.{option_copied}
use Rattle.cell_key.specs.Entries.{Entry}
use Rattle.sorted_file.specs.Grammar.{FitsIn}
use Rattle.sorted_file.specs.File.{listed}
use Rattle.tablet.specs.Compactions.{IsCompactionRefusal, ReadsOpen, compacted, files_read, memory_read}
use Rattle.compaction.specs.Passing.{MergeBreaks, MergesNoList, MergesTooMuch}
use Rattle.tablet.specs.Ranges.{lower_fence, upper_fence}
use Rattle.tablet.specs.Sources.{lent_by, listed_in, lists_over, Breaks, Steps}
use Rattle.tablet.proofs.Unread.{sources_same, told_map}
use Rattle.tablet.specs.Views.{files_of, memory_of, range_of}
use Rattle.tablet.proofs.Passed.{IsNoMemory, no_memory, passed_err, passed_kind, passed_none, quiet_reason}
use Rattle.tablet.proofs.SourceLists.{all_through}
use Rattle.tablet.proofs.WrittenFiles.{compacts, if_ok_holds, if_some_not, on_ok_map}
use Rattle.tablet.proofs.tablet.Tablet.write.Goals as goal

pub returns-clause-made : goal.returns-clause-made
returns-clause-made g c =
    if_ok_holds c.write_new.result (g.F.Files.contents c.args.files.now) _ _ (λ m. ReadsOpen c.args.compaction (Some m) c.args.self.now) _ (λ m. compacted c.args.compaction (range_of c.args.self.now) (memory_of c.args.self.now) (map (listed m) (files_of c.args.self.now)))
    (λ m reads. c.in_ok-sources.ensures.start (Some m) (c.inputs.ensures.open (Some m) reads))
    (λ m reads. compacts c.args.compaction (range_of c.args.self.now) (memory_of c.args.self.now) (map (listed_in (Some m)) (files_of c.args.self.now)) (length (files_of c.args.self.now)) _ c.deref.result.now (option_copied c.as_deref.result) (lists_over (Some m) (option_copied c.inputs.result.0) c.inputs.result.1.now) _
    (c.in_ok-sources.ensures.entries (Some m) (c.inputs.ensures.open (Some m) reads)) (length-map (files_of c.args.self.now) (listed_in (Some m))) c.keeps_erasures-keep_erasures.ensures (c.deref.ensures.value ∙ c.in_ok-from.ensures.from) (c.as_deref.ensures.value ∙ c.in_ok-from.ensures.end) (c.inputs.ensures.lists (Some m)) (c.in_ok-sources.ensures.lists (Some m) (c.inputs.ensures.open (Some m) reads)))
    c.write_new.ensures.made

pub returns-clause-large : goal.returns-clause-large
returns-clause-large g c = λ err reads.
    subst (λ (es : List Entry). ¬ FitsIn c.args.file_limit es)
    (compacts c.args.compaction (range_of c.args.self.now) (memory_of c.args.self.now) (map (listed_in (g.F.Files.contents c.args.files.now)) (files_of c.args.self.now)) (length (files_of c.args.self.now)) _ c.deref.result.now (option_copied c.as_deref.result) (lists_over (g.F.Files.contents c.args.files.now) (option_copied c.inputs.result.0) c.inputs.result.1.now) _
    (c.in_ok-sources.ensures.entries (g.F.Files.contents c.args.files.now) (c.inputs.ensures.open (g.F.Files.contents c.args.files.now) reads)) (length-map (files_of c.args.self.now) (listed_in (g.F.Files.contents c.args.files.now))) c.keeps_erasures-keep_erasures.ensures (c.deref.ensures.value ∙ c.in_ok-from.ensures.from) (c.as_deref.ensures.value ∙ c.in_ok-from.ensures.end) (c.inputs.ensures.lists (g.F.Files.contents c.args.files.now)) (c.in_ok-sources.ensures.lists (g.F.Files.contents c.args.files.now) (c.inputs.ensures.open (g.F.Files.contents c.args.files.now) reads)))
    (c.write_new.ensures.large err (c.in_ok-sources.ensures.start (g.F.Files.contents c.args.files.now) (c.inputs.ensures.open (g.F.Files.contents c.args.files.now) reads)))

pub returns-clause-fits : goal.returns-clause-fits
returns-clause-fits g c =
    on_ok_map c.write_new.result
    (λ fits reads. subst (λ (es : List Entry). FitsIn c.args.file_limit es)
    (compacts c.args.compaction (range_of c.args.self.now) (memory_of c.args.self.now) (map (listed_in (g.F.Files.contents c.args.files.now)) (files_of c.args.self.now)) (length (files_of c.args.self.now)) _ c.deref.result.now (option_copied c.as_deref.result) (lists_over (g.F.Files.contents c.args.files.now) (option_copied c.inputs.result.0) c.inputs.result.1.now) _
    (c.in_ok-sources.ensures.entries (g.F.Files.contents c.args.files.now) (c.inputs.ensures.open (g.F.Files.contents c.args.files.now) reads)) (length-map (files_of c.args.self.now) (listed_in (g.F.Files.contents c.args.files.now))) c.keeps_erasures-keep_erasures.ensures (c.deref.ensures.value ∙ c.in_ok-from.ensures.from) (c.as_deref.ensures.value ∙ c.in_ok-from.ensures.end) (c.inputs.ensures.lists (g.F.Files.contents c.args.files.now)) (c.in_ok-sources.ensures.lists (g.F.Files.contents c.args.files.now) (c.inputs.ensures.open (g.F.Files.contents c.args.files.now) reads)))
    (fits (c.in_ok-sources.ensures.start (g.F.Files.contents c.args.files.now) (c.inputs.ensures.open (g.F.Files.contents c.args.files.now) reads))))
    c.write_new.ensures.fits

pub returns-clause-damaged : goal.returns-clause-damaged
returns-clause-damaged g c = λ err.
    if_some_not (g.F.Files.contents c.args.files.now) _ (λ m. ReadsOpen c.args.compaction (Some m) c.args.self.now) (λ m reads. c.in_ok-sources.ensures.start (Some m) (c.inputs.ensures.open (Some m) reads)) (c.write_new.ensures.damaged err)

pub returns-in_err-from-clause-named : goal.returns-in_err-from-clause-named
returns-in_err-from-clause-named g c = passed_none c.from_residual.result c.in_err-from.field-0.0 _ c.from_residual.ensures.1

pub returns-in_err-from-clause-made : goal.returns-in_err-from-clause-made
returns-in_err-from-clause-made g c = passed_none c.from_residual.result c.in_err-from.field-0.0 _ c.from_residual.ensures.1

pub returns-in_err-from-clause-wrote : goal.returns-in_err-from-clause-wrote
returns-in_err-from-clause-wrote g c = passed_none c.from_residual.result c.in_err-from.field-0.0 _ c.from_residual.ensures.1

pub returns-in_err-from-clause-fits : goal.returns-in_err-from-clause-fits
returns-in_err-from-clause-fits g c = passed_none c.from_residual.result c.in_err-from.field-0.0 _ c.from_residual.ensures.1

pub returns-in_err-from-clause-name : goal.returns-in_err-from-clause-name
returns-in_err-from-clause-name g c = record {
  uses = inl (refl, refl);
  within = λ most. most;
}

pub returns-in_err-from-clause-exhausted : goal.returns-in_err-from-clause-exhausted
returns-in_err-from-clause-exhausted g c = λ is. absurd (passed_kind c.from_residual.result c.in_err-from.field-0.0 _ IsNoMemory c.from_residual.ensures.1 (no_memory c.in_err-from.field-0.0 c.in_err-from.ensures.refusal) is)

pub returns-in_err-from-clause-large : goal.returns-in_err-from-clause-large
returns-in_err-from-clause-large g c = λ is. absurd (passed_kind c.from_residual.result c.in_err-from.field-0.0 _ IsNoMemory c.from_residual.ensures.1 (no_memory c.in_err-from.field-0.0 c.in_err-from.ensures.refusal) is)

pub returns-in_err-from-clause-damaged : goal.returns-in_err-from-clause-damaged
returns-in_err-from-clause-damaged g c = λ is. absurd (passed_kind c.from_residual.result c.in_err-from.field-0.0 _ IsNoMemory c.from_residual.ensures.1 (no_memory c.in_err-from.field-0.0 c.in_err-from.ensures.refusal) is)

pub returns-in_err-from-clause-refusal : goal.returns-in_err-from-clause-refusal
returns-in_err-from-clause-refusal g c = passed_err c.from_residual.result c.in_err-from.field-0.0 _ c.from_residual.ensures.1 (subst IsCompactionRefusal (sym c.in_err-from.ensures.refusal) tt)

pub returns-in_err-from-clause-reason : goal.returns-in_err-from-clause-reason
returns-in_err-from-clause-reason g c = quiet_reason c.from_residual.result _ (λ is. absurd (passed_kind c.from_residual.result c.in_err-from.field-0.0 _ IsNoMemory c.from_residual.ensures.1 (no_memory c.in_err-from.field-0.0 c.in_err-from.ensures.refusal) is))

pub returns-in_err-sources-clause-named : goal.returns-in_err-sources-clause-named
returns-in_err-sources-clause-named g c = passed_none c.from_residual-in_err-sources.result c.in_err-sources.field-0.0 _ c.from_residual-in_err-sources.ensures.1

pub returns-in_err-sources-clause-made : goal.returns-in_err-sources-clause-made
returns-in_err-sources-clause-made g c = passed_none c.from_residual-in_err-sources.result c.in_err-sources.field-0.0 _ c.from_residual-in_err-sources.ensures.1

pub returns-in_err-sources-clause-wrote : goal.returns-in_err-sources-clause-wrote
returns-in_err-sources-clause-wrote g c = passed_none c.from_residual-in_err-sources.result c.in_err-sources.field-0.0 _ c.from_residual-in_err-sources.ensures.1

pub returns-in_err-sources-clause-fits : goal.returns-in_err-sources-clause-fits
returns-in_err-sources-clause-fits g c = passed_none c.from_residual-in_err-sources.result c.in_err-sources.field-0.0 _ c.from_residual-in_err-sources.ensures.1

pub returns-in_err-sources-clause-name : goal.returns-in_err-sources-clause-name
returns-in_err-sources-clause-name g c = record {
  uses = inl (refl, refl);
  within = λ most. most;
}

pub returns-in_err-sources-clause-exhausted : goal.returns-in_err-sources-clause-exhausted
returns-in_err-sources-clause-exhausted g c = λ is. absurd (passed_kind c.from_residual-in_err-sources.result c.in_err-sources.field-0.0 _ IsNoMemory c.from_residual-in_err-sources.ensures.1 (no_memory c.in_err-sources.field-0.0 c.in_err-sources.ensures.refusal) is)

pub returns-in_err-sources-clause-large : goal.returns-in_err-sources-clause-large
returns-in_err-sources-clause-large g c = λ is. absurd (passed_kind c.from_residual-in_err-sources.result c.in_err-sources.field-0.0 _ IsNoMemory c.from_residual-in_err-sources.ensures.1 (no_memory c.in_err-sources.field-0.0 c.in_err-sources.ensures.refusal) is)

pub returns-in_err-sources-clause-damaged : goal.returns-in_err-sources-clause-damaged
returns-in_err-sources-clause-damaged g c = λ is. absurd (passed_kind c.from_residual-in_err-sources.result c.in_err-sources.field-0.0 _ IsNoMemory c.from_residual-in_err-sources.ensures.1 (no_memory c.in_err-sources.field-0.0 c.in_err-sources.ensures.refusal) is)

pub returns-in_err-sources-clause-refusal : goal.returns-in_err-sources-clause-refusal
returns-in_err-sources-clause-refusal g c = passed_err c.from_residual-in_err-sources.result c.in_err-sources.field-0.0 _ c.from_residual-in_err-sources.ensures.1 (subst IsCompactionRefusal (sym c.in_err-sources.ensures.refusal) tt)

pub returns-in_err-sources-clause-reason : goal.returns-in_err-sources-clause-reason
returns-in_err-sources-clause-reason g c = quiet_reason c.from_residual-in_err-sources.result _ (λ is. absurd (passed_kind c.from_residual-in_err-sources.result c.in_err-sources.field-0.0 _ IsNoMemory c.from_residual-in_err-sources.ensures.1 (no_memory c.in_err-sources.field-0.0 c.in_err-sources.ensures.refusal) is))

pub returns-clause-named : goal.returns-clause-named
returns-clause-named g c = c.write_new.ensures.named

pub returns-clause-wrote : goal.returns-clause-wrote
returns-clause-wrote g c = c.write_new.ensures.wrote

pub returns-clause-name : goal.returns-clause-name
returns-clause-name g c = c.write_new.ensures.name

pub returns-clause-exhausted : goal.returns-clause-exhausted
returns-clause-exhausted g c = c.write_new.ensures.exhausted

pub returns-clause-refusal : goal.returns-clause-refusal
returns-clause-refusal g c = c.write_new.ensures.refusal

pub returns-clause-reason : goal.returns-clause-reason
returns-clause-reason g c = c.write_new.ensures.reason

pub returns-in_err-from-clause-read : goal.returns-in_err-from-clause-read
returns-in_err-from-clause-read g c = passed_none c.from_residual.result c.in_err-from.field-0.0 _ c.from_residual.ensures.1

pub returns-in_err-sources-clause-read : goal.returns-in_err-sources-clause-read
returns-in_err-sources-clause-read g c = passed_none c.from_residual-in_err-sources.result c.in_err-sources.field-0.0 _ c.from_residual-in_err-sources.ensures.1

pub returns-clause-read : goal.returns-clause-read
returns-clause-read g c =
    let disk = g.F.Files.contents c.args.files.now in
    let range = range_of c.args.self.now in
    on_ok_map c.write_new.result
    (all_through disk c.deref.result.now (lower_fence range) (option_copied c.as_deref.result) (upper_fence range) c.in_ok-sources.sources.items c.inputs.result.1.now (files_read c.args.compaction (files_of c.args.self.now))
    (c.deref.ensures.value ∙ c.in_ok-from.ensures.from) (c.as_deref.ensures.value ∙ c.in_ok-from.ensures.end) c.inputs.ensures.files c.in_ok-sources.ensures.of)
    c.write_new.ensures.comes

pub returns-clause-too_much : goal.returns-clause-too_much
returns-clause-too_much g c = λ err.
    let range = range_of c.args.self.now in
    record {
      sources = c.in_ok-sources.sources.items;
      of = (sources_same c.deref.result.now (lower_fence range) (option_copied c.as_deref.result) (upper_fence range) (option_copied c.inputs.result.0) (memory_read c.args.compaction (memory_of c.args.self.now)) c.inputs.result.1.now (files_read c.args.compaction (files_of c.args.self.now)) c.in_ok-sources.sources.items
          (c.deref.ensures.value ∙ c.in_ok-from.ensures.from) (c.as_deref.ensures.value ∙ c.in_ok-from.ensures.end) c.inputs.ensures.memory c.inputs.ensures.files c.in_ok-sources.ensures.each);
      large = subst (λ (k : Bool). MergesTooMuch (Steps (g.F.Files.contents c.args.files.now)) lent_by k c.args.file_limit c.in_ok-sources.sources.items) c.keeps_erasures-keep_erasures.ensures (c.write_new.ensures.too_much err);
    }

pub returns-clause-broken : goal.returns-clause-broken
returns-clause-broken g c = λ err.
    let range = range_of c.args.self.now in
    told_map (g.F.Files.contents c.args.files.now) _ _
    (λ m damage. record {
      sources = c.in_ok-sources.sources.items;
      of = (sources_same c.deref.result.now (lower_fence range) (option_copied c.as_deref.result) (upper_fence range) (option_copied c.inputs.result.0) (memory_read c.args.compaction (memory_of c.args.self.now)) c.inputs.result.1.now (files_read c.args.compaction (files_of c.args.self.now)) c.in_ok-sources.sources.items
          (c.deref.ensures.value ∙ c.in_ok-from.ensures.from) (c.as_deref.ensures.value ∙ c.in_ok-from.ensures.end) c.inputs.ensures.memory c.inputs.ensures.files c.in_ok-sources.ensures.each);
      damage = subst (λ (k : Bool). MergeBreaks (Steps (Some m)) lent_by (Breaks (Some m)) c.in_ok-sources.sources.items ⊎ MergesNoList (Steps (Some m)) lent_by k c.in_ok-sources.sources.items) c.keeps_erasures-keep_erasures.ensures damage;
    })
    (c.write_new.ensures.broken err)

pub returns-in_err-from-clause-too_much : goal.returns-in_err-from-clause-too_much
returns-in_err-from-clause-too_much g c = λ is. absurd (passed_kind c.from_residual.result c.in_err-from.field-0.0 _ IsNoMemory c.from_residual.ensures.1 (no_memory c.in_err-from.field-0.0 c.in_err-from.ensures.refusal) is)

pub returns-in_err-from-clause-broken : goal.returns-in_err-from-clause-broken
returns-in_err-from-clause-broken g c = λ is. absurd (passed_kind c.from_residual.result c.in_err-from.field-0.0 _ IsNoMemory c.from_residual.ensures.1 (no_memory c.in_err-from.field-0.0 c.in_err-from.ensures.refusal) is)

pub returns-in_err-sources-clause-too_much : goal.returns-in_err-sources-clause-too_much
returns-in_err-sources-clause-too_much g c = λ is. absurd (passed_kind c.from_residual-in_err-sources.result c.in_err-sources.field-0.0 _ IsNoMemory c.from_residual-in_err-sources.ensures.1 (no_memory c.in_err-sources.field-0.0 c.in_err-sources.ensures.refusal) is)

pub returns-in_err-sources-clause-broken : goal.returns-in_err-sources-clause-broken
returns-in_err-sources-clause-broken g c = λ is. absurd (passed_kind c.from_residual-in_err-sources.result c.in_err-sources.field-0.0 _ IsNoMemory c.from_residual-in_err-sources.ensures.1 (no_memory c.in_err-sources.field-0.0 c.in_err-sources.ensures.refusal) is)

pub returns-in_err-older-clause-named : goal.returns-in_err-older-clause-named
returns-in_err-older-clause-named g c = passed_none c.from_residual-in_err-older.result c.in_err-older.field-0.0 _ c.from_residual-in_err-older.ensures.1

pub returns-in_err-older-clause-made : goal.returns-in_err-older-clause-made
returns-in_err-older-clause-made g c = passed_none c.from_residual-in_err-older.result c.in_err-older.field-0.0 _ c.from_residual-in_err-older.ensures.1

pub returns-in_err-older-clause-wrote : goal.returns-in_err-older-clause-wrote
returns-in_err-older-clause-wrote g c = passed_none c.from_residual-in_err-older.result c.in_err-older.field-0.0 _ c.from_residual-in_err-older.ensures.1

pub returns-in_err-older-clause-fits : goal.returns-in_err-older-clause-fits
returns-in_err-older-clause-fits g c = passed_none c.from_residual-in_err-older.result c.in_err-older.field-0.0 _ c.from_residual-in_err-older.ensures.1

pub returns-in_err-older-clause-name : goal.returns-in_err-older-clause-name
returns-in_err-older-clause-name g c = record {
  uses = inl (refl, refl);
  within = λ most. most;
}

pub returns-in_err-older-clause-exhausted : goal.returns-in_err-older-clause-exhausted
returns-in_err-older-clause-exhausted g c = λ is. absurd (passed_kind c.from_residual-in_err-older.result c.in_err-older.field-0.0 _ IsNoMemory c.from_residual-in_err-older.ensures.1 (no_memory c.in_err-older.field-0.0 c.in_err-older.ensures) is)

pub returns-in_err-older-clause-large : goal.returns-in_err-older-clause-large
returns-in_err-older-clause-large g c = λ is. absurd (passed_kind c.from_residual-in_err-older.result c.in_err-older.field-0.0 _ IsNoMemory c.from_residual-in_err-older.ensures.1 (no_memory c.in_err-older.field-0.0 c.in_err-older.ensures) is)

pub returns-in_err-older-clause-damaged : goal.returns-in_err-older-clause-damaged
returns-in_err-older-clause-damaged g c = λ is. absurd (passed_kind c.from_residual-in_err-older.result c.in_err-older.field-0.0 _ IsNoMemory c.from_residual-in_err-older.ensures.1 (no_memory c.in_err-older.field-0.0 c.in_err-older.ensures) is)

pub returns-in_err-older-clause-refusal : goal.returns-in_err-older-clause-refusal
returns-in_err-older-clause-refusal g c = passed_err c.from_residual-in_err-older.result c.in_err-older.field-0.0 _ c.from_residual-in_err-older.ensures.1 (subst IsCompactionRefusal (sym c.in_err-older.ensures) tt)

pub returns-in_err-older-clause-reason : goal.returns-in_err-older-clause-reason
returns-in_err-older-clause-reason g c = quiet_reason c.from_residual-in_err-older.result _ (λ is. absurd (passed_kind c.from_residual-in_err-older.result c.in_err-older.field-0.0 _ IsNoMemory c.from_residual-in_err-older.ensures.1 (no_memory c.in_err-older.field-0.0 c.in_err-older.ensures) is))

pub returns-in_err-older-clause-read : goal.returns-in_err-older-clause-read
returns-in_err-older-clause-read g c = passed_none c.from_residual-in_err-older.result c.in_err-older.field-0.0 _ c.from_residual-in_err-older.ensures.1

pub returns-in_err-older-clause-too_much : goal.returns-in_err-older-clause-too_much
returns-in_err-older-clause-too_much g c = λ is. absurd (passed_kind c.from_residual-in_err-older.result c.in_err-older.field-0.0 _ IsNoMemory c.from_residual-in_err-older.ensures.1 (no_memory c.in_err-older.field-0.0 c.in_err-older.ensures) is)

pub returns-in_err-older-clause-broken : goal.returns-in_err-older-clause-broken
returns-in_err-older-clause-broken g c = λ is. absurd (passed_kind c.from_residual-in_err-older.result c.in_err-older.field-0.0 _ IsNoMemory c.from_residual-in_err-older.ensures.1 (no_memory c.in_err-older.field-0.0 c.in_err-older.ensures) is)
