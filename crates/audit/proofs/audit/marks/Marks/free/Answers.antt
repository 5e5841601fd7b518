use Rattle.std.proofs.Common.{◌≡◌, ◌≢◌, ◌↔◌, ◌∙◌, ℕ, List, not, cond, None, ap, subst, is_eq, rules}
use Rattle.std.specs.BTreeMap as btree
use Rattle.std.specs.BTreeMap.{is_at}
use Rattle.std.specs.Map.{lookup}
use Rattle.std.proofs.lemmas.Map.Made.{filter_same_pairs}
use Rattle.si_model.specs.Reads.{cell_of}
use Rattle.si_model.specs.Sets.{◌∈◌}
use Rattle.si_model.specs.declared.replies.Cell.{Cell}
use Rattle.audit.specs.Histories.{name_cmp}
use Rattle.audit.specs.Spans.{Name}
use Rattle.audit.proofs.HeldCells.{filtered_at, marks_of, taken_out}
use Rattle.audit.proofs.audit.marks.Marks.free.Goals as goal

pub returns-in-Some : goal.returns-in-Some
returns-in-Some c = λ y u.
    let x = cell_of c.args.row.now c.args.family.now in
    let old = c.self.inside.holders in
    let new = c.remove.new.self in
    let at = subst (λ (k : Name). (q : Name) → btree.get name_cmp new q ≡ cond (is_eq (name_cmp k q)) None (btree.get name_cmp old q)) c.in-Some.ensures c.remove.ensures.updates.0 in
    subst (λ (marks : List (Cell × ℕ)). ((y, u) ∈ marks_of new) ↔ (((y, u) ∈ marks) × (y ≢ x))) c.self.view_is (taken_out old new c.self.invariant c.remove.ensures.ordered x at y u)

pub returns-in-None : goal.returns-in-None
returns-in-None c = λ y u.
    let x = cell_of c.args.row.now c.args.family.now in
    let old = c.self.inside.holders in
    let new = c.retain.new.self in
    let left = filter_same_pairs _ (λ (e : Name × ℕ). not (is_eq (name_cmp (c.args.row.now, c.args.family.now) e.0))) _ (λ k v b w f' t. search rules) old.entries new.entries c.retain.ensures.filtered in
    let at = λ (q : Name). ap (lookup (is_at (name_cmp q))) left ∙ filtered_at (c.args.row.now, c.args.family.now) old.entries q in
    subst (λ (marks : List (Cell × ℕ)). ((y, u) ∈ marks_of new) ↔ (((y, u) ∈ marks) × (y ≢ x))) c.self.view_is (taken_out old new c.self.invariant c.retain.ensures.ordered x at y u)
