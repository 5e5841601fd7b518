-- The key of a lock's text is the lock's, and a key that isn't a lock's isn't kept.
use Rattle.std.proofs.Common.{◌≡◌, ◌⊎◌, inl, inr, ◌∷◌, [], List, Contains, ap, subst, sym, ◌∙◌, arith}
use Rattle.std.proofs.lemmas.List.Elements.{Contains-append_right}
use Rattle.cell_key.specs.Entries.{key_of_text}
use Rattle.cell_key.specs.Keys.{text, IsStored}
use Rattle.cell_key.specs.declared.keys.CellKey.{CellKey}
use Rattle.cell_key.specs.declared.keys.Qualifier.{Qualifier}
use Rattle.cell_key.specs.declared.keys.Qualifier.TheVariants.{Data, Lock, Write}
use Rattle.cell_key.proofs.EntryLaws.{key_of_text-text}
use Rattle.sorted_file.proofs.ColumnsOf.{lent_is}
use Rattle.sorted_file.proofs.Results.{of_some}
use Rattle.sorted_file.proofs.gathering.push_lock_value.Goals as goal

no_lock : (q : Qualifier) → (q ≡ Data) ⊎ (q ≡ Write) → ¬ (q ≡ Lock)
no_lock q (inl e) lock = let no : Data ≡ Lock = sym e ∙ lock in cc
no_lock q (inr e) lock = let no : Write ≡ Lock = sym e ∙ lock in cc

pub returns-in_ok-push-in-Lock-clause-has : goal.returns-in_ok-push-in-Lock-clause-has
returns-in_ok-push-in-Lock-clause-has c = λ value key stored named lock some.
    let found : CellKey = c.in-Some.lock in
    let spelled = of_some _ found (λ (k : CellKey). c.args.key.text.now ≡ text k) c.in-Some.is c.in_ok-lock-in-Lock.ensures.found in
    let same : found ≡ key = sym (key_of_text-text found (of_some _ found IsStored c.in-Some.is c.in_ok-lock-in-Lock.ensures.stored)) ∙ ap key_of_text (sym spelled ∙ named) ∙ key_of_text-text key stored in
    subst (λ (l : List CellKey). Contains l key) (sym c.in_ok-push-in-Lock.ensures.items)
    (Contains-append_right c.args.values.now.items (c.new.result ∷ []) key (0, omega arith, c.new.ensures ∙ same))

pub returns-in-Data : goal.returns-in-Data
returns-in-Data c = record {
  has = λ value key stored named lock some.
      absurd (no_lock c.args.key.qualifier c.in-Data.is (c.requires.key.qualifier ∙ ap (λ (k : CellKey). k.qualifier) (lent_is c.args.key c.requires.key key stored named) ∙ lock));
  keeps = λ n there. there;
  refusal = tt;
}
