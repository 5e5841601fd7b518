use Rattle.std.proofs.Common.{◌≡◌, ◌++◌, ◌∷◌, [], ℕ, List, Option, IfSome, length, sym, ap, subst, ◌∙◌, arith, length-append, append_assoc}
use Rattle.std.specs.FinMap.{get}
use Rattle.cell_key.specs.declared.refusals.Refusal.TheVariants.{Device}
use Rattle.file_store.specs.Store.{Contents}
use Rattle.row_atomic.specs.Roots.{AreMeasured}
use Rattle.row_atomic.proofs.Lengths.{one_told, told_joined}
use Rattle.row_atomic.proofs.PassedRefusals.{not_refused}
use Rattle.row_atomic.proofs.cluster.checkpoint.lengths_of.Goals as goal

pub names-preserved : goal.names-preserved
names-preserved g c =
    let i = c.names.invariant in
    let name = c.in-Some.name.now in
    let n = c.in_ok-len.len in
    let told = g.F.Files.contents c.args.files.now in
    let one = one_told told name n (subst (λ (o : Option Contents). IfSome o (λ m. IfSome (get m name) (λ image. length image ≡ n))) i.same c.in_ok-len.ensures.length) in
    record {
      same = c.in_ok-len.ensures.same ∙ i.same;
      quiet = c.in_ok-len.ensures.reason.told (not_refused n Device) ∙ i.quiet;
      front = i.front ++ name ∷ [];
      parts = append_assoc i.front (name ∷ []) c.in-Some.after.now ∙ ap (λ (l : List ℕ). i.front ++ l) (sym c.in-Some.ensures.cases.0) ∙ i.parts;
      count = let count = i.count in omega (arith, ap length c.in_ok-push.ensures.items, length-append c.names.lengths.items (n ∷ []), length-append i.front (name ∷ []), count);
      measured = subst (λ (l : List ℕ). IfSome told (λ m. AreMeasured m (i.front ++ name ∷ []) l)) (sym c.in_ok-push.ensures.items)
          (told_joined told i.front (name ∷ []) c.names.lengths.items (n ∷ []) i.count i.measured one);
    }
