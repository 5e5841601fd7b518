use Rattle.std.proofs.Common.{ℕ, ◌++◌, ◌∷◌, List, flat_map, sym, ap, ◌∙◌, append_assoc}
use Rattle.std.specs.Int.{w64, to_be_bytes}
use Rattle.metadata_table.specs.Roots.{numbers_of}
use Rattle.metadata_table.proofs.root.writer.push_names.Goals as goal

pub names-preserved-in_ok-push_u64-2 : goal.names-preserved-in_ok-push_u64-2
names-preserved-in_ok-push_u64-2 c =
    let out = c.names.out.items in
    let name = to_be_bytes w64 c.in-Some.name.now in
    let own = to_be_bytes w64 c.in-Some-split_first.len.now in
    let x = flat_map (to_be_bytes w64) (numbers_of c.in-Some.after.now c.in-Some-split_first.others.now) in
    ap (λ (l : List ℕ). l ++ x) (c.in_ok-push_u64-2.ensures.ok ∙ ap (λ (l : List ℕ). l ++ own) c.in_ok-push_u64.ensures.ok) ∙ append_assoc (out ++ name) own x ∙ append_assoc out name (own ++ x)
    ∙ ap (λ (ns : List ℕ). out ++ flat_map (to_be_bytes w64) ns)
    (sym (ap (λ (r : List ℕ). numbers_of r c.names.left.now) c.in-Some.ensures.cases.0 ∙ ap (numbers_of (c.in-Some.name.now ∷ c.in-Some.after.now)) c.in-Some-split_first.ensures.cases.0))
    ∙ c.names.invariant
