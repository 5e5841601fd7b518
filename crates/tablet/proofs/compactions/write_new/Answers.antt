use Rattle.std.proofs.Common.{◌≡◌, ◌⊎◌, None, ℕ, ◌+◌, ◌<◌, ◌≤◌, ◌^◌, inl, inr, refl, sym, subst, map, ◌∙◌, arith}
use Rattle.cell_key.specs.declared.refusals.Refusal.{Refusal}
use Rattle.cell_key.specs.declared.refusals.Refusal.TheVariants.{Exhausted}
use Rattle.file_store.specs.Store.{KeepsOthers}
use Rattle.sorted_file.specs.Source.{IsWriteRefusal}
use Rattle.compaction.specs.Merging.{AreAtStart}
use Rattle.compaction.specs.Passing.{MergeBreaks, MergesNoList}
use Rattle.compaction.specs.Writing.{written}
use Rattle.tablet.specs.Compactions.{IsCompactionRefusal}
use Rattle.tablet.proofs.Passed.{passed_err, passed_kind, passed_none, passed_on, passed_reason, quiet_reason, writes_of}
use Rattle.tablet.proofs.Unread.{told_some}
use Rattle.tablet.proofs.WrittenFiles.{made_as_written, others_kept, told_not, within_limit}
use Rattle.tablet.proofs.compactions.write_new.Goals as goal

abbrev pub IsExhausted : Refusal → Type 0
IsExhausted Exhausted = Unit {0}
IsExhausted _ = ⊥

used_within : (before after : ℕ) → after ≡ before + 1 → before < 2 ^ 63 → before ≤ 2 ^ 63 → after ≤ 2 ^ 63
used_within before after used left most = omega arith

pub returns-clause-made : goal.returns-clause-made
returns-clause-made g c =
    made_as_written c.written_is_listed.ensures (g.F.Files.contents c.args.files.now) (g.F.Files.contents c.merge_into.new.files) c.in_ok-name.name c.args.file_limit
    (λ m. AreAtStart g.S.Source.lent (g.S.Source.holds m) c.args.sources.items) (λ m. written c.args.keep_erasures (map (g.S.Source.remaining m) c.args.sources.items))
    c.in_ok-file.file c.resize_cache.new.self c.in_ok-file.ensures.written c.in_ok-file.ensures.opened c.in_ok-file.ensures.named c.resize_cache.ensures.stays

pub returns-clause-named : goal.returns-clause-named
returns-clause-named g c = (c.resize_cache.ensures.stays None).name ∙ c.in_ok-file.ensures.named ∙ c.in_ok-name.ensures.name

pub returns-clause-name : goal.returns-clause-name
returns-clause-name g c = record {
  uses = inr (
    c.in_ok-name.ensures.used,
    subst (λ (name : ℕ). KeepsOthers name (g.F.Files.contents c.args.files.now) (g.F.Files.contents c.merge_into.new.files)) c.in_ok-name.ensures.name
        (others_kept (g.F.Files.contents c.args.files.now) (g.F.Files.contents c.merge_into.new.files) c.in_ok-name.name c.in_ok-file.ensures.written.0 c.in_ok-file.ensures.written.1.0),
  );
  within = used_within _ _ c.in_ok-name.ensures.used c.in_ok-name.ensures.left;
}

pub returns-clause-fits : goal.returns-clause-fits
returns-clause-fits g c =
    within_limit (g.F.Files.contents c.args.files.now) (g.F.Files.contents c.merge_into.new.files) c.in_ok-name.name c.args.file_limit
    (λ m. AreAtStart g.S.Source.lent (g.S.Source.holds m) c.args.sources.items) (λ m. written c.args.keep_erasures (map (g.S.Source.remaining m) c.args.sources.items))
    c.in_ok-file.ensures.written

pub returns-clause-wrote : goal.returns-clause-wrote
returns-clause-wrote g c = record {
  left = c.in_ok-name.ensures.left;
  used = c.in_ok-name.ensures.used;
  others =
      subst (λ (name : ℕ). KeepsOthers name (g.F.Files.contents c.args.files.now) (g.F.Files.contents c.merge_into.new.files)) c.in_ok-name.ensures.name
      (others_kept (g.F.Files.contents c.args.files.now) (g.F.Files.contents c.merge_into.new.files) c.in_ok-name.name c.in_ok-file.ensures.written.0 c.in_ok-file.ensures.written.1.0);
}

pub returns-clause-comes : goal.returns-clause-comes
returns-clause-comes g c = c.in_ok-file.ensures.comes

pub returns-in_err-name-clause-named : goal.returns-in_err-name-clause-named
returns-in_err-name-clause-named g c = passed_none c.from_residual.result c.in_err-name.field-0.0 _ c.from_residual.ensures.1

pub returns-in_err-name-clause-made : goal.returns-in_err-name-clause-made
returns-in_err-name-clause-made g c = passed_none c.from_residual.result c.in_err-name.field-0.0 _ c.from_residual.ensures.1

pub returns-in_err-name-clause-wrote : goal.returns-in_err-name-clause-wrote
returns-in_err-name-clause-wrote g c = passed_none c.from_residual.result c.in_err-name.field-0.0 _ c.from_residual.ensures.1

pub returns-in_err-name-clause-fits : goal.returns-in_err-name-clause-fits
returns-in_err-name-clause-fits g c = passed_none c.from_residual.result c.in_err-name.field-0.0 _ c.from_residual.ensures.1

pub returns-in_err-name-clause-name : goal.returns-in_err-name-clause-name
returns-in_err-name-clause-name g c = record {
  uses = inl (c.in_err-name.ensures.err, refl);
  within = λ most. subst (λ (n : ℕ). n ≤ 2 ^ 63) (sym c.in_err-name.ensures.err) most;
}

pub returns-in_err-name-clause-exhausted : goal.returns-in_err-name-clause-exhausted
returns-in_err-name-clause-exhausted g c = λ is. c.in_err-name.ensures.exhausted

pub returns-in_err-name-clause-large : goal.returns-in_err-name-clause-large
returns-in_err-name-clause-large g c = λ is. absurd (passed_kind c.from_residual.result c.in_err-name.field-0.0 _ IsExhausted c.from_residual.ensures.1 (subst IsExhausted (sym c.in_err-name.ensures.refusal) tt) is)

pub returns-in_err-name-clause-damaged : goal.returns-in_err-name-clause-damaged
returns-in_err-name-clause-damaged g c = λ is. absurd (passed_kind c.from_residual.result c.in_err-name.field-0.0 _ IsExhausted c.from_residual.ensures.1 (subst IsExhausted (sym c.in_err-name.ensures.refusal) tt) is)

pub returns-in_err-name-clause-refusal : goal.returns-in_err-name-clause-refusal
returns-in_err-name-clause-refusal g c = passed_err c.from_residual.result c.in_err-name.field-0.0 _ c.from_residual.ensures.1 (subst IsCompactionRefusal (sym c.in_err-name.ensures.refusal) tt)

pub returns-in_err-name-clause-reason : goal.returns-in_err-name-clause-reason
returns-in_err-name-clause-reason g c = quiet_reason c.from_residual.result _ (λ is. absurd (passed_kind c.from_residual.result c.in_err-name.field-0.0 _ IsExhausted c.from_residual.ensures.1 (subst IsExhausted (sym c.in_err-name.ensures.refusal) tt) is))

pub returns-in_err-file-clause-named : goal.returns-in_err-file-clause-named
returns-in_err-file-clause-named g c = passed_none c.from_residual-in_err-file.result c.in_err-file.field-0.0 _ c.from_residual-in_err-file.ensures.1

pub returns-in_err-file-clause-made : goal.returns-in_err-file-clause-made
returns-in_err-file-clause-made g c = passed_none c.from_residual-in_err-file.result c.in_err-file.field-0.0 _ c.from_residual-in_err-file.ensures.1

pub returns-in_err-file-clause-wrote : goal.returns-in_err-file-clause-wrote
returns-in_err-file-clause-wrote g c = passed_none c.from_residual-in_err-file.result c.in_err-file.field-0.0 _ c.from_residual-in_err-file.ensures.1

pub returns-in_err-file-clause-fits : goal.returns-in_err-file-clause-fits
returns-in_err-file-clause-fits g c = passed_none c.from_residual-in_err-file.result c.in_err-file.field-0.0 _ c.from_residual-in_err-file.ensures.1

pub returns-in_err-file-clause-name : goal.returns-in_err-file-clause-name
returns-in_err-file-clause-name g c = record {
  uses = inr (
    c.in_ok-name.ensures.used,
    subst (λ (name : ℕ). KeepsOthers name (g.F.Files.contents c.args.files.now) (g.F.Files.contents c.merge_into.new.files)) c.in_ok-name.ensures.name c.in_err-file.ensures.others,
  );
  within = used_within _ _ c.in_ok-name.ensures.used c.in_ok-name.ensures.left;
}

pub returns-in_err-file-clause-exhausted : goal.returns-in_err-file-clause-exhausted
returns-in_err-file-clause-exhausted g c = λ is. absurd (passed_kind c.from_residual-in_err-file.result c.in_err-file.field-0.0 _ IsWriteRefusal c.from_residual-in_err-file.ensures.1 c.in_err-file.ensures.refusal is)

pub returns-in_err-file-clause-large : goal.returns-in_err-file-clause-large
returns-in_err-file-clause-large g c = λ is. c.in_err-file.ensures.large (passed_on c.from_residual-in_err-file.result _ c.in_err-file.field-0.0 _ c.from_residual-in_err-file.ensures.1 refl is)

pub returns-in_err-file-clause-damaged : goal.returns-in_err-file-clause-damaged
returns-in_err-file-clause-damaged g c = λ is.
    told_not (g.F.Files.contents c.args.files.now) (λ m. AreAtStart g.S.Source.lent (g.S.Source.holds m) c.args.sources.items) (c.in_err-file.ensures.damaged (passed_on c.from_residual-in_err-file.result _ c.in_err-file.field-0.0 _ c.from_residual-in_err-file.ensures.1 refl is))

pub returns-in_err-file-clause-refusal : goal.returns-in_err-file-clause-refusal
returns-in_err-file-clause-refusal g c = passed_err c.from_residual-in_err-file.result c.in_err-file.field-0.0 _ c.from_residual-in_err-file.ensures.1 (writes_of c.in_err-file.field-0.0 c.in_err-file.ensures.refusal)

pub returns-in_err-file-clause-reason : goal.returns-in_err-file-clause-reason
returns-in_err-file-clause-reason g c = passed_reason c.from_residual-in_err-file.result _ c.in_err-file.field-0.0 _ _ c.from_residual-in_err-file.ensures.1 refl c.in_err-file.ensures.reason

pub returns-in_err-name-clause-comes : goal.returns-in_err-name-clause-comes
returns-in_err-name-clause-comes g c = passed_none c.from_residual.result c.in_err-name.field-0.0 _ c.from_residual.ensures.1

pub returns-in_err-file-clause-comes : goal.returns-in_err-file-clause-comes
returns-in_err-file-clause-comes g c = passed_none c.from_residual-in_err-file.result c.in_err-file.field-0.0 _ c.from_residual-in_err-file.ensures.1

pub returns-in_err-name-clause-too_much : goal.returns-in_err-name-clause-too_much
returns-in_err-name-clause-too_much g c = λ is. absurd (passed_kind c.from_residual.result c.in_err-name.field-0.0 _ IsExhausted c.from_residual.ensures.1 (subst IsExhausted (sym c.in_err-name.ensures.refusal) tt) is)

pub returns-in_err-name-clause-broken : goal.returns-in_err-name-clause-broken
returns-in_err-name-clause-broken g c = λ is. absurd (passed_kind c.from_residual.result c.in_err-name.field-0.0 _ IsExhausted c.from_residual.ensures.1 (subst IsExhausted (sym c.in_err-name.ensures.refusal) tt) is)

pub returns-in_err-file-clause-too_much : goal.returns-in_err-file-clause-too_much
returns-in_err-file-clause-too_much g c = λ is. c.in_err-file.ensures.too_much (passed_on c.from_residual-in_err-file.result _ c.in_err-file.field-0.0 _ c.from_residual-in_err-file.ensures.1 refl is)

pub returns-in_err-file-clause-broken : goal.returns-in_err-file-clause-broken
returns-in_err-file-clause-broken g c = λ is.
    told_some (g.F.Files.contents c.args.files.now) (λ m. MergeBreaks (g.S.Source.steps m) g.S.Source.lent (g.S.Source.breaks m) c.args.sources.items ⊎ MergesNoList (g.S.Source.steps m) g.S.Source.lent c.args.keep_erasures c.args.sources.items)
    (c.in_err-file.ensures.broken (passed_on c.from_residual-in_err-file.result _ c.in_err-file.field-0.0 _ c.from_residual-in_err-file.ensures.1 refl is))
