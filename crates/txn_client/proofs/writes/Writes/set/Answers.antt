use Rattle.std.proofs.Common.{◌≡◌, ℕ, ◌+◌, ◌-◌, ◌<◌, ◌≤◌, ◌++◌, ◌∷◌, [], List, Some, None, get_or, length, map, inl, ap, sym, subst, ◌∙◌, arith}
use Rattle.std.specs.Prelude.{slice_set}
use Rattle.std.specs.Vec.{vec_len}
use Rattle.std.proofs.lemmas.Bool.Decides.{nat_tests}
use Rattle.std.proofs.lemmas.List.Sums.{get_or-le-sum_by, sum_by-set}
use Rattle.std.proofs.lemmas.Option.{slice_get_within}
use Rattle.si_model.specs.Machine.{Sets}
use Rattle.txn_client.specs.Writes.{bytes_of, bytes_of_write, write_of, IsIndexOf}
use Rattle.txn_client.specs.declared.writes.Write.{Write}
use Rattle.txn_client.proofs.WriteIndexes.{none_there, sets_last, sets_there, named_there, unnamed}
use Rattle.txn_client.proofs.OrderedCells.{few_replaced}
use Rattle.txn_client.proofs.writes.Writes.set.Goals as goal

-- the first write
pub returns-then-is_empty-clause-ok : goal.returns-then-is_empty-clause-ok
returns-then-is_empty-clause-ok c =
    let none = none_there c.self.inside.entries.items (let long : vec_len c.self.inside.entries ≡ length c.self.inside.entries.items = c.self.inside.entries.ok.0 in grind (arith, nat_tests, c.is_empty.ensures, c.if-is_empty.true, long)) in
    subst (λ (ws : List Write). Sets c.args.write.cell c.args.write.value (map write_of c.args.self.now) (map write_of ws)) (sym (c.in_ok-push.ensures.items ∙ ap (λ (ws : List Write). ws ++ c.args.write ∷ []) c.self.view_is))
    (sets_last c.args.self.now c.args.write (subst (λ (ws : List Write). IsIndexOf ws c.args.write.cell None) c.self.view_is (none c.args.write.cell)))

-- the bytes of a write are among those of all
taken_bytes : (ws : List Write) (k : ℕ) (u : Write) (o m : ℕ) → k < length ws → u ≡ get_or ws k u → m ≡ bytes_of ws → o ≡ bytes_of_write u → o ≤ m
taken_bytes ws k u o m lt at was is =
    let same = ap bytes_of_write at in
    let within = get_or-le-sum_by bytes_of_write ws k u lt in
    omega (arith, same, within, was, is)

-- the bytes of all, after another write has taken a write's place
replaced_bytes : (ws : List Write) (k : ℕ) (u w : Write) (o m n : ℕ) → k < length ws → u ≡ get_or ws k u → m ≡ bytes_of ws → o ≡ bytes_of_write u → n ≡ m - o + bytes_of_write w → n ≡ bytes_of (slice_set ws k w)
replaced_bytes ws k u w o m n lt at was is sum =
    let same = ap bytes_of_write at in
    let within = get_or-le-sum_by bytes_of_write ws k u lt in
    let swap = sum_by-set bytes_of_write ws k w u lt in
    omega (arith, same, within, swap, was, is, sum)

-- the cell's earlier write is replaced
pub overflow_sub-others : goal.overflow_sub-others
overflow_sub-others c =
    let found = subst (λ (ws : List Write). IsIndexOf ws c.args.write.cell (Some c.in-Ok.index)) c.deref.ensures.value c.in-Ok.ensures.found in
    taken_bytes c.self.inside.entries.items c.in-Ok.index c.index.result.now c.bytes.result c.self.inside.bytes (slice_get_within c.self.inside.entries.items c.in-Ok.index found.0.0 found.0.1) c.index.ensures c.self.invariant.2 c.bytes.ensures

pub invariant_of-self-in-Ok : goal.invariant_of-self-in-Ok
invariant_of-self-in-Ok c =
    let found = subst (λ (ws : List Write). IsIndexOf ws c.args.write.cell (Some c.in-Ok.index)) c.deref.ensures.value c.in-Ok.ensures.found in
    let both = few_replaced c.self.inside.entries.items c.self.inside.order.items c.in-Ok.index c.args.write found (c.self.invariant.0, c.self.invariant.1) in
    (both.0, both.1, replaced_bytes c.self.inside.entries.items c.in-Ok.index c.index.result.now c.args.write c.bytes.result c.self.inside.bytes c.in_ok-bytes-in-Ok.bytes (slice_get_within c.self.inside.entries.items c.in-Ok.index found.0.0 found.0.1) c.index.ensures c.self.invariant.2 c.bytes.ensures c.in_ok-bytes-in-Ok.ensures.sum)

pub returns-in_ok-bytes-in-Ok-clause-most : goal.returns-in_ok-bytes-in-Ok-clause-most
returns-in_ok-bytes-in-Ok-clause-most c =
    let found = subst (λ (ws : List Write). IsIndexOf ws c.args.write.cell (Some c.in-Ok.index)) c.deref.ensures.value c.in-Ok.ensures.found in
    subst (λ (n : ℕ). n ≤ c.args.most) (replaced_bytes c.self.inside.entries.items c.in-Ok.index c.index.result.now c.args.write c.bytes.result c.self.inside.bytes c.in_ok-bytes-in-Ok.bytes (slice_get_within c.self.inside.entries.items c.in-Ok.index found.0.0 found.0.1) c.index.ensures c.self.invariant.2 c.bytes.ensures c.in_ok-bytes-in-Ok.ensures.sum)
    c.in_ok-bytes-in-Ok.ensures.most

pub returns-in_ok-bytes-in-Ok-clause-ok : goal.returns-in_ok-bytes-in-Ok-clause-ok
returns-in_ok-bytes-in-Ok-clause-ok c =
    let found = subst (λ (ws : List Write). IsIndexOf ws c.args.write.cell (Some c.in-Ok.index)) (c.deref.ensures.value ∙ c.self.view_is) c.in-Ok.ensures.found in
    subst (λ (ws : List Write). Sets c.args.write.cell c.args.write.value (map write_of c.args.self.now) (map write_of (slice_set ws c.in-Ok.index c.args.write))) (sym c.self.view_is)
    (sets_there c.args.self.now c.in-Ok.index c.args.write found)

pub returns-in_ok-bytes-in-Ok-clause-room : goal.returns-in_ok-bytes-in-Ok-clause-room
returns-in_ok-bytes-in-Ok-clause-room c =
    let found = subst (λ (ws : List Write). IsIndexOf ws c.args.write.cell (Some c.in-Ok.index)) (c.deref.ensures.value ∙ c.self.view_is) c.in-Ok.ensures.found in
    inl (named_there c.args.self.now c.in-Ok.index c.args.write.cell found)

-- another write is appended
pub returns-then-len-ge-MOST-clause-full : goal.returns-then-len-ge-MOST-clause-full
returns-then-len-ge-MOST-clause-full c = λ e.
    let same = ap (λ (ws : List Write). length ws) c.self.view_is in
    let nowhere = subst (λ (ws : List Write). IsIndexOf ws c.args.write.cell None) (c.deref.ensures.value ∙ c.self.view_is) c.in-Err.ensures.none in
    (omega (arith, same, c.len.ensures, c.if-len-ge-MOST.true), unnamed c.args.self.now c.args.write.cell nowhere)

pub returns-in_ok-push-in-Err-clause-ok : goal.returns-in_ok-push-in-Err-clause-ok
returns-in_ok-push-in-Err-clause-ok c =
    let nowhere = subst (λ (ws : List Write). IsIndexOf ws c.args.write.cell None) (c.deref.ensures.value ∙ c.self.view_is) c.in-Err.ensures.none in
    subst (λ (ws : List Write). Sets c.args.write.cell c.args.write.value (map write_of c.args.self.now) (map write_of ws)) (sym (c.in_ok-push-in-Err.ensures.ok ∙ ap (λ (ws : List Write). ws ++ c.args.write ∷ []) c.self.view_is))
    (sets_last c.args.self.now c.args.write nowhere)
