use Rattle.std.proofs.Common.{ℕ, List, ◌∷◌, ◌++◌, Some, None, ap, ◌∙◌, append_assoc}
use Rattle.std.proofs.lemmas.List.{nil_from_length}
use Rattle.cell_key.specs.Entries.{field, spelled_value}
use Rattle.sorted_file.proofs.Spelling.{short}
use Rattle.sorted_file.proofs.Reading.{entry_front, no_entry_empty, no_entry_kind, no_entry_value}
use Rattle.sorted_file.proofs.Results.{as_none}
use Rattle.sorted_file.proofs.format.read_entry.Goals as goal

pub returns-in_err-key-clause-none : goal.returns-in_err-key-clause-none
returns-in_err-key-clause-none c = as_none c.from_residual.result (λ small e x s.
    c.in_err-key.ensures.none e.0 (spelled_value e.1 ++ x) (short e x c.args.bytes.now s small).key (s ∙ append_assoc (field e.0) (spelled_value e.1) x))

pub returns-in_err-kind-clause-none : goal.returns-in_err-kind-clause-none
returns-in_err-kind-clause-none c = as_none c.from_residual-in_err-kind.result (λ small e x s.
    no_entry_empty c.args.bytes.now c.in_ok-key.key.now c.in_ok-key.rest.now x e small c.in_ok-key.ensures.found (nil_from_length c.in_ok-key.rest.now c.in_err-kind.ensures.cases) s)

pub returns-then-kind-ne1-clause-none : goal.returns-then-kind-ne1-clause-none
returns-then-kind-ne1-clause-none c = λ small e x s.
    no_entry_kind c.args.bytes.now c.in_ok-key.key.now c.in_ok-key.rest.now c.in_ok-kind.after.now x c.in_ok-kind.kind.now e small c.in_ok-key.ensures.found c.in_ok-kind.ensures.cases.0 c.if-kind-eq0.false c.if-kind-ne1.true s

pub returns-in_err-value-clause-none : goal.returns-in_err-value-clause-none
returns-in_err-value-clause-none c = as_none c.from_residual-in_err-value.result (λ small e x s.
    no_entry_value c.args.bytes.now c.in_ok-key.key.now c.in_ok-key.rest.now c.in_ok-kind.after.now x c.in_ok-kind.kind.now e small c.in_ok-key.ensures.found c.in_ok-kind.ensures.cases.0 c.if-kind-ne1.false c.in_err-value.ensures.none s)

pub returns-then-kind-eq0-clause-found : goal.returns-then-kind-eq0-clause-found
returns-then-kind-eq0-clause-found c =
    entry_front c.args.bytes.now c.in_ok-key.key.now c.in_ok-key.rest.now c.in_ok-kind.after.now None c.in_ok-key.ensures.found
    (c.in_ok-kind.ensures.cases.0 ∙ ap (λ (kind : ℕ). kind ∷ c.in_ok-kind.after.now) c.if-kind-eq0.true)

pub returns-clause-found : goal.returns-clause-found
returns-clause-found c =
    entry_front c.args.bytes.now c.in_ok-key.key.now c.in_ok-key.rest.now c.in_ok-value.end.now (Some c.in_ok-value.value.now) c.in_ok-key.ensures.found
    (c.in_ok-kind.ensures.cases.0 ∙ ap (λ (kind : ℕ). kind ∷ c.in_ok-kind.after.now) c.if-kind-ne1.false ∙ ap (λ (bytes : List ℕ). 1 ∷ bytes) c.in_ok-value.ensures.found)
