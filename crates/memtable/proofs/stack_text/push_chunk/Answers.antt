use Rattle.std.proofs.Common.{◌≡◌, ◌<◌, List, ℕ, ◌++◌, length, OnOk, OnErr, sym, ap, subst, ◌∙◌}
use Rattle.std.specs.Cmp.Lexicographic.{bytes_decides}
use Rattle.cell_key.specs.Texts.{escaped}
use Rattle.cell_key.proofs.EscapedParts.{escaped-plain}
use Rattle.memtable.proofs.StackTexts.{no_room}
use Rattle.memtable.proofs.stack_text.push_chunk.Goals as goal

pub returns-then-not-contains-clause-ok : goal.returns-then-not-contains-clause-ok
returns-then-not-contains-clause-ok g c =
    subst (λ (xs : List ℕ). OnOk c.try_extend_from_slice.result (c.try_extend_from_slice.new.self.items ≡ c.args.out.now.items ++ xs))
    (sym (escaped-plain c.args.chunk.now (sym c.contains.ensures.value ∙ c.if-not-contains.true))) c.try_extend_from_slice.ensures.ok

pub returns-then-not-contains-clause-full : goal.returns-then-not-contains-clause-full
returns-then-not-contains-clause-full g c =
    subst (λ (xs : List ℕ). OnErr c.try_extend_from_slice.result (g.row.CAP < length (c.args.out.now.items ++ xs)))
    (sym (escaped-plain c.args.chunk.now (sym c.contains.ensures.value ∙ c.if-not-contains.true)))
    (no_room c.try_extend_from_slice.result g.row.CAP c.args.out.now.items c.args.chunk.now c.try_extend_from_slice.ensures.variant)

pub returns-then-eq-clause-full : goal.returns-then-eq-clause-full
returns-then-eq-clause-full g c =
    let zeros = (bytes_decides c.args.chunk.now _).0 (sym c.eq.ensures ∙ c.if-eq.true) in
    subst (λ (xs : List ℕ). OnErr c.try_extend_from_slice-then-eq.result (g.row.CAP < length (c.args.out.now.items ++ xs)))
    (sym (ap escaped zeros))
    (no_room c.try_extend_from_slice-then-eq.result g.row.CAP c.args.out.now.items _ c.try_extend_from_slice-then-eq.ensures.variant)
