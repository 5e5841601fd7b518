use Rattle.std.proofs.Common.{◌≡◌, ℕ, List, [], ◌∷◌, ◌++◌, map, sym, subst, ap, ◌∙◌, refl}
use Rattle.std.proofs.lemmas.List.{append_assoc}
use Rattle.std.specs.Prelude.{Option, Some, None, IfSome}
use Rattle.std.specs.List.{AllByRecursion}
use Rattle.cell_key.specs.Entries.{IsEntryList}
use Rattle.cell_key.specs.declared.refusals.Refusal.TheVariants.{Device}
use Rattle.file_store.specs.Store.{Contents}
use Rattle.sorted_file.specs.File.{HasFile, IsOpen, name_of}
use Rattle.sorted_file.specs.Source.{IsReadRefusal}
use Rattle.sorted_file.specs.declared.file.SortedFile.{SortedFile}
use Rattle.tablet.specs.Views.{Holds, files_of, memory_of}
use Rattle.tablet.specs.declared.tablet.Tablet.{Tablet}
use Rattle.tablet.proofs.CompactedCells.{no_entries}
use Rattle.tablet.proofs.Passed.{IsNoMemory, no_memory, not_err, passed_err, passed_kind, passed_none, passed_on, passed_reason, quiet_reason, reason_after}
use Rattle.tablet.proofs.tablet.Tablet.load.Goals as goal

-- one more name, of a file put before the open ones
named_more : (names rest newer : List ℕ) (name : ℕ) (file : SortedFile) (files opened : List SortedFile) → newer ≡ rest ++ name ∷ [] → opened ≡ file ∷ files → name_of file ≡ name → newer ++ map name_of files ≡ names → rest ++ map name_of opened ≡ names
named_more names rest newer name file files opened last put named before =
    ap (λ (l : List SortedFile). rest ++ map name_of l) put ∙ ap (λ (n : ℕ). rest ++ n ∷ map name_of files) named
    ∙ sym (append_assoc rest (name ∷ []) (map name_of files)) ∙ ap (λ (l : List ℕ). l ++ map name_of files) (sym last) ∙ before

opened_more : (old now : Option Contents) (files new : List SortedFile) (file : SortedFile) → now ≡ old → new ≡ file ∷ files → IfSome now (λ m. IsOpen m file)
    → IfSome old (λ m. AllByRecursion (IsOpen m) files) → IfSome old (λ m. AllByRecursion (IsOpen m) new)
opened_more None now files new file same is one all = tt
opened_more (Some m) now files new file same is one all =
    subst (AllByRecursion (IsOpen m)) (sym is) (subst (λ (o : Option Contents). IfSome o (λ m. IsOpen m file)) same one, all)

-- a file that is missing is missing among all
missing_here : (old now : Option Contents) (names rest newer tail : List ℕ) (name : ℕ) → now ≡ old → newer ≡ rest ++ name ∷ [] → newer ++ tail ≡ names → IfSome now (λ m. ¬ HasFile m name) → IfSome old (λ m. ¬ AllByRecursion (HasFile m) names)
missing_here None now names rest newer tail name same last all missing = tt
missing_here (Some m) now names rest newer tail name same last all missing = λ each.
    let front = all_front (HasFile m) newer tail (subst (AllByRecursion (HasFile m)) (sym all) each) in
    let back = all_back (HasFile m) rest (name ∷ []) (subst (AllByRecursion (HasFile m)) last front) in
    subst (λ (o : Option Contents). IfSome o (λ m. ¬ HasFile m name)) same missing back.0
  where
    all_front : {A : Type 0} (P : A → Type 0) (xs ys : List A) → AllByRecursion P (xs ++ ys) → AllByRecursion P xs
    all_front P [] ys h = tt
    all_front P (x ∷ xs) ys h = (h.0, all_front P xs ys h.1)

    all_back : {A : Type 0} (P : A → Type 0) (xs ys : List A) → AllByRecursion P (xs ++ ys) → AllByRecursion P ys
    all_back P [] ys h = h
    all_back P (x ∷ xs) ys h = all_back P xs ys h.1

empty_holds : (old : Option Contents) (t : Tablet) → memory_of t ≡ [] → IfSome old (λ m. AllByRecursion (IsOpen m) (files_of t)) → IfSome old (λ m. Holds m t)
empty_holds None t none opened = tt
empty_holds (Some m) t none opened = record { memory = subst IsEntryList (sym none) no_entries; files = opened }

pub returns-in_err-file-clause-reads : goal.returns-in_err-file-clause-reads
returns-in_err-file-clause-reads g c = record {
  refusal = passed_err c.from_residual.result c.in_err-file.field-0.0 _ c.from_residual.ensures.1 c.in_err-file.ensures.reads.refusal;
  same = c.open_over.ensures.reads.same ∙ c.names.invariant.contents;
  reason = reason_after _ _ _ c.names.invariant.quiet (passed_reason c.from_residual.result _ c.in_err-file.field-0.0 _ _ c.from_residual.ensures.1 refl c.in_err-file.ensures.reads.reason);
}

pub returns-in_err-file-clause-range : goal.returns-in_err-file-clause-range
returns-in_err-file-clause-range g c = passed_none c.from_residual.result c.in_err-file.field-0.0 _ c.from_residual.ensures.1

pub returns-in_err-file-clause-memory : goal.returns-in_err-file-clause-memory
returns-in_err-file-clause-memory g c = passed_none c.from_residual.result c.in_err-file.field-0.0 _ c.from_residual.ensures.1

pub returns-in_err-file-clause-names : goal.returns-in_err-file-clause-names
returns-in_err-file-clause-names g c = passed_none c.from_residual.result c.in_err-file.field-0.0 _ c.from_residual.ensures.1

pub returns-in_err-file-clause-holds : goal.returns-in_err-file-clause-holds
returns-in_err-file-clause-holds g c = passed_none c.from_residual.result c.in_err-file.field-0.0 _ c.from_residual.ensures.1

pub returns-clause-range : goal.returns-clause-range
returns-clause-range g c = refl

pub returns-clause-memory : goal.returns-clause-memory
returns-clause-memory g c = c.new.ensures

pub returns-clause-reads : goal.returns-clause-reads
returns-clause-reads g c = record {
  refusal = tt;
  same = c.names.invariant.contents;
  reason = reason_after _ _ _ c.names.invariant.quiet (quiet_reason _ _ (not_err _ Device));
}

pub returns-clause-damaged : goal.returns-clause-damaged
returns-clause-damaged g c = λ is. absurd (not_err _ _ is)

pub returns-in_err-reserve-clause-range : goal.returns-in_err-reserve-clause-range
returns-in_err-reserve-clause-range g c = passed_none c.from_residual-in_err-reserve.result c.in_err-reserve.field-0.0 _ c.from_residual-in_err-reserve.ensures.1

pub returns-in_err-replace_newest-clause-range : goal.returns-in_err-replace_newest-clause-range
returns-in_err-replace_newest-clause-range g c = passed_none c.from_residual-in_err-replace_newest.result c.in_err-replace_newest.field-0.0 _ c.from_residual-in_err-replace_newest.ensures.1

pub returns-in_err-reserve-clause-memory : goal.returns-in_err-reserve-clause-memory
returns-in_err-reserve-clause-memory g c = passed_none c.from_residual-in_err-reserve.result c.in_err-reserve.field-0.0 _ c.from_residual-in_err-reserve.ensures.1

pub returns-in_err-replace_newest-clause-memory : goal.returns-in_err-replace_newest-clause-memory
returns-in_err-replace_newest-clause-memory g c = passed_none c.from_residual-in_err-replace_newest.result c.in_err-replace_newest.field-0.0 _ c.from_residual-in_err-replace_newest.ensures.1

pub returns-in_err-reserve-clause-names : goal.returns-in_err-reserve-clause-names
returns-in_err-reserve-clause-names g c = passed_none c.from_residual-in_err-reserve.result c.in_err-reserve.field-0.0 _ c.from_residual-in_err-reserve.ensures.1

pub returns-in_err-replace_newest-clause-names : goal.returns-in_err-replace_newest-clause-names
returns-in_err-replace_newest-clause-names g c = passed_none c.from_residual-in_err-replace_newest.result c.in_err-replace_newest.field-0.0 _ c.from_residual-in_err-replace_newest.ensures.1

pub returns-in_err-reserve-clause-holds : goal.returns-in_err-reserve-clause-holds
returns-in_err-reserve-clause-holds g c = passed_none c.from_residual-in_err-reserve.result c.in_err-reserve.field-0.0 _ c.from_residual-in_err-reserve.ensures.1

pub returns-in_err-replace_newest-clause-holds : goal.returns-in_err-replace_newest-clause-holds
returns-in_err-replace_newest-clause-holds g c = passed_none c.from_residual-in_err-replace_newest.result c.in_err-replace_newest.field-0.0 _ c.from_residual-in_err-replace_newest.ensures.1

pub returns-in_err-reserve-clause-damaged : goal.returns-in_err-reserve-clause-damaged
returns-in_err-reserve-clause-damaged g c = λ is. absurd (passed_kind c.from_residual-in_err-reserve.result c.in_err-reserve.field-0.0 _ IsNoMemory c.from_residual-in_err-reserve.ensures.1 (no_memory _ c.in_err-reserve.ensures.refusal) is)

pub returns-in_err-replace_newest-clause-damaged : goal.returns-in_err-replace_newest-clause-damaged
returns-in_err-replace_newest-clause-damaged g c = λ is. absurd (passed_kind c.from_residual-in_err-replace_newest.result c.in_err-replace_newest.field-0.0 _ IsNoMemory c.from_residual-in_err-replace_newest.ensures.1 (no_memory _ c.in_err-replace_newest.ensures.refusal) is)

pub returns-in_err-reserve-clause-reads : goal.returns-in_err-reserve-clause-reads
returns-in_err-reserve-clause-reads g c = record {
  refusal = passed_err c.from_residual-in_err-reserve.result c.in_err-reserve.field-0.0 _ c.from_residual-in_err-reserve.ensures.1 (subst IsReadRefusal (sym c.in_err-reserve.ensures.refusal) tt);
  same = c.open_over.ensures.reads.same ∙ c.names.invariant.contents;
  reason = reason_after _ _ _ (c.in_ok-file.ensures.reads.reason.told (not_err _ Device) ∙ c.names.invariant.quiet) (quiet_reason c.from_residual-in_err-reserve.result _ (λ is. absurd (passed_kind c.from_residual-in_err-reserve.result c.in_err-reserve.field-0.0 _ IsNoMemory c.from_residual-in_err-reserve.ensures.1 (no_memory _ c.in_err-reserve.ensures.refusal) is)));
}

pub returns-in_err-replace_newest-clause-reads : goal.returns-in_err-replace_newest-clause-reads
returns-in_err-replace_newest-clause-reads g c = record {
  refusal = passed_err c.from_residual-in_err-replace_newest.result c.in_err-replace_newest.field-0.0 _ c.from_residual-in_err-replace_newest.ensures.1 (subst IsReadRefusal (sym c.in_err-replace_newest.ensures.refusal) tt);
  same = c.open_over.ensures.reads.same ∙ c.names.invariant.contents;
  reason = reason_after _ _ _ (c.in_ok-file.ensures.reads.reason.told (not_err _ Device) ∙ c.names.invariant.quiet) (quiet_reason c.from_residual-in_err-replace_newest.result _ (λ is. absurd (passed_kind c.from_residual-in_err-replace_newest.result c.in_err-replace_newest.field-0.0 _ IsNoMemory c.from_residual-in_err-replace_newest.ensures.1 (no_memory _ c.in_err-replace_newest.ensures.refusal) is)));
}

pub names-preserved : goal.names-preserved
names-preserved g c =
    let put = c.in_ok-replace_newest.ensures.ok ∙ ap (λ (l : List SortedFile). c.in_ok-file.file ∷ l) c.in_ok-reserve.ensures.same in
    record {
      contents = c.open_over.ensures.reads.same ∙ c.names.invariant.contents;
      quiet = c.in_ok-file.ensures.reads.reason.told (not_err _ Device) ∙ c.names.invariant.quiet;
      named = named_more c.args.names.now c.in-Some.rest.now c.names.newer.now c.in-Some.name.now c.in_ok-file.file c.names.open c.replace_newest.new.self c.in-Some.ensures.cases.0 put c.in_ok-file.ensures.named c.names.invariant.named;
      opened = opened_more _ _ _ _ _ c.names.invariant.contents put c.in_ok-file.ensures.opened c.names.invariant.opened;
    }

pub returns-in_err-file-clause-damaged : goal.returns-in_err-file-clause-damaged
returns-in_err-file-clause-damaged g c = λ err.
    missing_here (g.F.Files.contents c.args.files.now) (g.F.Files.contents c.names.files) c.args.names.now c.in-Some.rest.now c.names.newer.now (map name_of c.names.open) c.in-Some.name.now c.names.invariant.contents c.in-Some.ensures.cases.0 c.names.invariant.named
    (c.in_err-file.ensures.damaged (passed_on c.from_residual.result _ c.in_err-file.field-0.0 _ c.from_residual.ensures.1 refl err))
