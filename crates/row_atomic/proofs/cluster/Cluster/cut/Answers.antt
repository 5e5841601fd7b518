-- The parts replace the tablet.
use Rattle.std.proofs.Common.{refl, inl, ℕ, ◌<◌, ◌≡◌, ◌++◌, ◌∷◌, [], List, ap, ◌∙◌, set, length, subst, sym, arith}
use Rattle.cell_key.specs.declared.refusals.Refusal.TheVariants.{Damaged}
use Rattle.metadata_table.specs.Places.{PlaceView, view_of}
use Rattle.metadata_table.specs.Table.{Cuts, HasTablet, with_files}
use Rattle.sorted_file.specs.Source.{IsReadRefusal}
use Rattle.tablet.specs.Views.{names_of, with_name}
use Rattle.tablet.specs.declared.tablet.Tablet.{Tablet}
use Rattle.row_atomic.specs.Clusters.{InOrder, IsMatched, cells_in}
use Rattle.row_atomic.proofs.RowAnswers.{found_there, index_below}
use Rattle.row_atomic.proofs.ChangedTablets.{if_err, matched_unchanged, numbered_old}
use Rattle.row_atomic.specs.Changes.{IsHalved, IsOutOfOrder}
use Rattle.row_atomic.specs.Memtables.{HaveAtMost}
use Rattle.row_atomic.proofs.MergeStates.{beside, told_still}
use Rattle.row_atomic.proofs.Memtables.{set_emptied, set_same, with_emptied}
use Rattle.row_atomic.proofs.ListRoom.{appended, listed_has, ready}
use Rattle.row_atomic.proofs.LeftTablets.{cut_in_two, holder_unchanged}
use Rattle.row_atomic.proofs.PassedRefusals.{none_answered, not_refused, passed, reason_kept, reason_passed, refused_so}
use Rattle.row_atomic.proofs.SplitClusters.{holder_emptied, holder_known, matched_cut, parts_keep, stays_over}
use Rattle.row_atomic.proofs.MovedTablets.{not_there}
use Rattle.row_atomic.proofs.PlaceCaches.{none_held}
use Rattle.row_atomic.proofs.cluster.Cluster.cut.Goals as goal

pub position-index-requires : goal.position-index-requires
position-index-requires g c =
    let holder = c.locate.ensures.holder in
    record { known = rw (← c.self.view_is) (holder_known c.args.row.now c.self.inside.table (view_of c.locate.result.now) holder) }

pub index_mut-requires : goal.index_mut-requires
index_mut-requires g c =
    let at = rw (← c.self.view_is) at c.position-index.ensures in
    subst (λ (n : ℕ). c.position-index.result < n) (sym c.self.inside.tablets.ok.0) (index_below c.self.inside.tablets.items c.position-index.result at.tablet at.there)

pub cut-requires : goal.cut-requires
cut-requires g c =
    let holder = c.locate.ensures.holder in
    let at = rw (← c.self.view_is) at c.position-index.ensures in
    let there = found_there c.self.inside.tablets.items c.position-index.result at.tablet c.index_mut.result.now at.there c.index_mut.ensures.value in
    record { flushed = holder_emptied c.args.row.now c.self.inside.table c.self.inside.tablets.items (view_of c.locate.result.now) c.position-index.result c.index_mut.result.now holder at.number there (rw (← c.self.view_is) at c.requires.flushed) }

pub list_files-requires-clause-known : goal.list_files-requires-clause-known
list_files-requires-clause-known g c =
    let at = rw (← c.self.view_is) at c.position-index.ensures in
    let there = found_there c.self.inside.tablets.items c.position-index.result at.tablet c.index_mut.result.now at.there c.index_mut.ensures.value in
    let made = ready c.args.row.now c.args.room c.self.inside.table c.self.inside.tablets.items (view_of c.locate.result.now) c.position-index.result c.index_mut.result.now c.locate.ensures.holder at.number there (rw (← c.self.view_is) at c.requires.room) in
    made.right

pub list_files-requires-clause-empty : goal.list_files-requires-clause-empty
list_files-requires-clause-empty g c =
    let at = rw (← c.self.view_is) at c.position-index.ensures in
    let there = found_there c.self.inside.tablets.items c.position-index.result at.tablet c.index_mut.result.now at.there c.index_mut.ensures.value in
    let made = ready c.args.row.now c.args.room c.self.inside.table c.self.inside.tablets.items (view_of c.locate.result.now) c.position-index.result c.index_mut.result.now c.locate.ensures.holder at.number there (rw (← c.self.view_is) at c.requires.room) in
    made.names.right.empty

pub list_files-requires-clause-room : goal.list_files-requires-clause-room
list_files-requires-clause-room g c =
    let at = rw (← c.self.view_is) at c.position-index.ensures in
    let there = found_there c.self.inside.tablets.items c.position-index.result at.tablet c.index_mut.result.now at.there c.index_mut.ensures.value in
    let made = ready c.args.row.now c.args.room c.self.inside.table c.self.inside.tablets.items (view_of c.locate.result.now) c.position-index.result c.index_mut.result.now c.locate.ensures.holder at.number there (rw (← c.self.view_is) at c.requires.room) in
    let same = ap (λ (ns : List ℕ). length ns) c.in_ok-part.ensures.left_names in
    let room = made.names.right.room in
    omega arith

pub list_files-requires-2-clause-known : goal.list_files-requires-2-clause-known
list_files-requires-2-clause-known g c =
    let for = rw (← c.self.view_is) at c.requires.room in
    subst (HasTablet c.args.room.left) (sym c.list_files.ensures) (listed_has c.locate.result.now.tablet (names_of c.in_ok-part.part) c.args.room.left c.args.room.table for.left)

pub list_files-requires-2-clause-empty : goal.list_files-requires-2-clause-empty
list_files-requires-2-clause-empty g c =
    let at = rw (← c.self.view_is) at c.position-index.ensures in
    let there = found_there c.self.inside.tablets.items c.position-index.result at.tablet c.index_mut.result.now at.there c.index_mut.ensures.value in
    let made = ready c.args.row.now c.args.room c.self.inside.table c.self.inside.tablets.items (view_of c.locate.result.now) c.position-index.result c.index_mut.result.now c.locate.ensures.holder at.number there (rw (← c.self.view_is) at c.requires.room) in
    made.names.left.empty

pub list_files-requires-2-clause-room : goal.list_files-requires-2-clause-room
list_files-requires-2-clause-room g c =
    let at = rw (← c.self.view_is) at c.position-index.ensures in
    let there = found_there c.self.inside.tablets.items c.position-index.result at.tablet c.index_mut.result.now at.there c.index_mut.ensures.value in
    let made = ready c.args.row.now c.args.room c.self.inside.table c.self.inside.tablets.items (view_of c.locate.result.now) c.position-index.result c.index_mut.result.now c.locate.ensures.holder at.number there (rw (← c.self.view_is) at c.requires.room) in
    let same = ap (λ (ns : List ℕ). length ns) c.in_ok-part.ensures.left_names in
    let room = made.names.left.room in
    omega arith

pub unwrap-requires : goal.unwrap-requires
unwrap-requires g c =
    let for = rw (← c.self.view_is) at c.requires.room in
    let none = c.args.room.tablets.ok.0 ∙ ap (λ (ys : List Tablet). length ys) for.space.empty in
    let many = c.self.inside.tablets.ok.0 in
    let as_many = c.self.invariant.0.as_many in
    let room = for.space.room in
    c.append.ensures.succeeds (omega arith)

pub invariant_of-self : goal.invariant_of-self
invariant_of-self g c =
    let at = rw (← c.self.view_is) at c.position-index.ensures in
    let there = found_there c.self.inside.tablets.items c.position-index.result at.tablet c.index_mut.result.now at.there c.index_mut.ensures.value in
    (matched_unchanged c.self.inside.file_limit (g.F.Files.contents c.self.inside.files) (g.F.Files.contents c.cut.new.files) c.self.inside.next_name c.self.inside.next_name c.self.inside.table c.self.inside.tablets.items c.position-index.result c.index_mut.result.now c.cut.new.self there (inl (refl, c.cut.ensures.reads.same)) (λ within. within) c.in_err-part.ensures.err c.self.invariant.0, c.self.invariant.1, set_same c.self.inside.most c.self.inside.tablets.items c.position-index.result c.self.invariant.2 c.index_mut.result.now c.cut.new.self there c.in_err-part.ensures.err.memory)

pub returns-in_err-part-clause-kept : goal.returns-in_err-part-clause-kept
returns-in_err-part-clause-kept g c =
    let at = rw (← c.self.view_is) at c.position-index.ensures in
    let there = found_there c.self.inside.tablets.items c.position-index.result at.tablet c.index_mut.result.now at.there c.index_mut.ensures.value in
    rw (← c.self.view_is) (λ holds. beside (told_still (g.F.Files.contents c.self.inside.files) (g.F.Files.contents c.cut.new.files) c.self.inside.file_limit c.self.inside.next_name c.self.inside.merge c.cut.ensures.reads.same holds.1)
    (stays_over c.self.inside.tablets.items c.self.inside.tablets.items refl c.position-index.result c.index_mut.result.now c.cut.new.self there c.others_stay.ensures (g.F.Files.contents c.self.inside.files) (g.F.Files.contents c.cut.new.files) c.self.inside.next_name c.self.inside.next_name (inl (refl, c.cut.ensures.reads.same)) (c.in_err-part.ensures.keeps c.self.inside.next_name) holds.0))

pub returns-in_err-part-clause-damaged : goal.returns-in_err-part-clause-damaged
returns-in_err-part-clause-damaged g c =
    let holder = c.locate.ensures.holder in
    let at = rw (← c.self.view_is) at c.position-index.ensures in
    let there = found_there c.self.inside.tablets.items c.position-index.result at.tablet c.index_mut.result.now at.there c.index_mut.ensures.value in
    rw (← c.self.view_is) (λ is. record {
      place = view_of c.locate.result.now;
      holder = holder;
      tablet = numbered_old c.self.inside.tablets.items c.position-index.result c.index_mut.result.now c.cut.new.self there (IsOutOfOrder (g.F.Files.contents c.self.inside.files)) (view_of c.locate.result.now).tablet at.number (not_there c.files_are_there.ensures (g.F.Files.contents c.self.inside.files) (names_of c.index_mut.result.now) c.index_mut.result.now refl (c.in_err-part.ensures.damaged (passed c.from_residual.result c.in_err-part.field-0.0 _ c.from_residual.ensures.1 is)));
    })

pub returns-in_err-part-clause-reads : goal.returns-in_err-part-clause-reads
returns-in_err-part-clause-reads g c = record {
  refusal = refused_so c.from_residual.result c.in_err-part.field-0.0 IsReadRefusal c.from_residual.ensures.1 c.in_err-part.ensures.reads.refusal;
  same = rw (← c.self.view_is) c.cut.ensures.reads.same;
  reason = rw (← c.self.view_is) (reason_passed c.from_residual.result c.in_err-part.field-0.0 _ _ c.from_residual.ensures.1 c.in_err-part.ensures.reads.reason);
}

pub returns-in_err-part-clause-unchanged : goal.returns-in_err-part-clause-unchanged
returns-in_err-part-clause-unchanged g c =
    let table = c.locate.ensures.table in
    let holder = c.locate.ensures.holder in
    let at = rw (← c.self.view_is) at c.position-index.ensures in
    let there = found_there c.self.inside.tablets.items c.position-index.result at.tablet c.index_mut.result.now at.there c.index_mut.ensures.value in
    let stays = holder_unchanged c.args.row.now c.self.inside.table c.self.inside.tablets.items c.position-index.result c.index_mut.result.now c.cut.new.self (view_of c.locate.result.now) holder at.number there c.in_err-part.ensures.err in
    if_err _ c.from_residual.result (rw (← c.self.view_is) stays)

pub returns-in_err-part-clause-name : goal.returns-in_err-part-clause-name
returns-in_err-part-clause-name g c = rw (← c.self.view_is) refl

pub returns-in_err-part-clause-limit : goal.returns-in_err-part-clause-limit
returns-in_err-part-clause-limit g c = rw (← c.self.view_is) refl

pub returns-in_err-part-clause-err : goal.returns-in_err-part-clause-err
returns-in_err-part-clause-err g c = if_err _ c.from_residual.result (rw (← c.self.view_is) refl)

pub returns-in_err-part-clause-number : goal.returns-in_err-part-clause-number
returns-in_err-part-clause-number g c = none_answered c.from_residual.result c.in_err-part.field-0.0 _ c.from_residual.ensures.1

pub returns-in_err-part-clause-cut : goal.returns-in_err-part-clause-cut
returns-in_err-part-clause-cut g c = none_answered c.from_residual.result c.in_err-part.field-0.0 _ c.from_residual.ensures.1

pub returns-in_err-part-clause-halved : goal.returns-in_err-part-clause-halved
returns-in_err-part-clause-halved g c = none_answered c.from_residual.result c.in_err-part.field-0.0 _ c.from_residual.ensures.1

pub invariant_of-self-2 : goal.invariant_of-self-2
invariant_of-self-2 g c =
    let table = c.locate.ensures.table in
    let holder = c.locate.ensures.holder in
    let at = rw (← c.self.view_is) at c.position-index.ensures in
    let there = found_there c.self.inside.tablets.items c.position-index.result at.tablet c.index_mut.result.now at.there c.index_mut.ensures.value in
    let made = ready c.args.row.now c.args.room c.self.inside.table c.self.inside.tablets.items (view_of c.locate.result.now) c.position-index.result c.index_mut.result.now c.locate.ensures.holder at.number there (rw (← c.self.view_is) at c.requires.room) in
    let listed : c.list_files-2.new.table ≡ with_files c.args.room.left (names_of c.index_mut.result.now) (with_files c.locate.result.now.tablet (names_of c.index_mut.result.now) c.args.room.table) =
    c.list_files-2.ensures ∙ ap (with_files c.args.room.left (names_of c.in_ok-part.part)) c.list_files.ensures ∙ ap (λ (ns : List ℕ). with_files c.args.room.left ns (with_files c.locate.result.now.tablet ns c.args.room.table)) c.in_ok-part.ensures.left_names in
    let cut : Cuts c.args.row.now c.args.room.left c.self.inside.table c.list_files-2.new.table = subst (λ (ps : List PlaceView). Cuts c.args.row.now c.args.room.left c.self.inside.table ps) (sym listed) made.cut in
    let moved : c.append.new.self.items ≡ set c.self.inside.tablets.items c.position-index.result c.cut.new.self = appended c.append.result _ _ _ _ c.append.ensures.items c.unwrap.ensures (rw (← c.self.view_is) at c.requires.room).space.empty in
    let pushed : c.push_reserved.new.self.items ≡ (set c.self.inside.tablets.items c.position-index.result c.cut.new.self ++ c.in_ok-part.part ∷ []) = c.push_reserved.ensures.items ∙ ap (λ (ys : List Tablet). ys ++ c.in_ok-part.part ∷ []) moved in
    let for = rw (← c.self.view_is) at c.requires.room in (
      subst (λ (ys : List Tablet). IsMatched c.self.inside.file_limit c.self.inside.next_name c.list_files-2.new.table ys) (sym pushed)
          (matched_cut c.self.inside.table c.self.inside.tablets.items c.position-index.result c.index_mut.result.now c.in_ok-part.part c.cut.new.self c.args.row.now (view_of c.locate.result.now) table there holder at.number c.in_ok-part.ensures.left_range c.in_ok-part.ensures.right_range c.self.inside.file_limit (g.F.Files.contents c.self.inside.files) (g.F.Files.contents c.cut.new.files) c.self.inside.next_name c.self.inside.next_name c.list_files-2.new.table c.args.room.left (inl (refl, c.cut.ensures.reads.same)) (λ within. within)
          c.in_ok-part.ensures.left_names c.in_ok-part.ensures.right_names for.number cut c.self.invariant.0),
      none_held c.list_files-2.new.table c.clear.new.self.numbers.entries c.clear.ensures.none,
      subst (HaveAtMost c.self.inside.most) (sym pushed)
          (with_emptied c.self.inside.most (set c.self.inside.tablets.items c.position-index.result c.cut.new.self) c.in_ok-part.part c.in_ok-part.ensures.left_memory
          (set_emptied c.self.inside.most c.self.inside.tablets.items c.position-index.result c.self.invariant.2 c.cut.new.self c.cut.ensures.right_memory)),
    )

pub returns-clause-kept : goal.returns-clause-kept
returns-clause-kept g c =
    let table = c.locate.ensures.table in
    let holder = c.locate.ensures.holder in
    let at = rw (← c.self.view_is) at c.position-index.ensures in
    let there = found_there c.self.inside.tablets.items c.position-index.result at.tablet c.index_mut.result.now at.there c.index_mut.ensures.value in
    let moved : c.append.new.self.items ≡ set c.self.inside.tablets.items c.position-index.result c.cut.new.self = appended c.append.result _ _ _ _ c.append.ensures.items c.unwrap.ensures (rw (← c.self.view_is) at c.requires.room).space.empty in
    let pushed : c.push_reserved.new.self.items ≡ (set c.self.inside.tablets.items c.position-index.result c.cut.new.self ++ c.in_ok-part.part ∷ []) = c.push_reserved.ensures.items ∙ ap (λ (ys : List Tablet). ys ++ c.in_ok-part.part ∷ []) moved in
    rw (← c.self.view_is) (λ holds. beside (told_still (g.F.Files.contents c.self.inside.files) (g.F.Files.contents c.cut.new.files) c.self.inside.file_limit c.self.inside.next_name c.self.inside.merge c.cut.ensures.reads.same holds.1)
    (subst (λ (ys : List Tablet). InOrder (g.F.Files.contents c.cut.new.files) c.self.inside.next_name ys × (cells_in (g.F.Files.contents c.cut.new.files) ys ≡ cells_in (g.F.Files.contents c.self.inside.files) c.self.inside.tablets.items)) (sym pushed)
    (parts_keep c.self.inside.table c.self.inside.tablets.items c.position-index.result c.index_mut.result.now c.in_ok-part.part c.cut.new.self c.args.row.now (view_of c.locate.result.now) table there holder at.number c.in_ok-part.ensures.left_range c.in_ok-part.ensures.right_range c.stays_in_range.ensures c.others_stay.ensures (g.F.Files.contents c.self.inside.files) (g.F.Files.contents c.cut.new.files) c.self.inside.next_name c.self.inside.next_name c.self.invariant.0.placed c.self.invariant.0.as_many (inl (refl, c.cut.ensures.reads.same)) (c.in_ok-part.ensures.parts c.self.inside.next_name) holds.0)))

pub returns-clause-halved : goal.returns-clause-halved
returns-clause-halved g c =
    let table = c.locate.ensures.table in
    let holder = c.locate.ensures.holder in
    let at = rw (← c.self.view_is) at c.position-index.ensures in
    let there = found_there c.self.inside.tablets.items c.position-index.result at.tablet c.index_mut.result.now at.there c.index_mut.ensures.value in
    let moved : c.append.new.self.items ≡ set c.self.inside.tablets.items c.position-index.result c.cut.new.self = appended c.append.result _ _ _ _ c.append.ensures.items c.unwrap.ensures (rw (← c.self.view_is) at c.requires.room).space.empty in
    let pushed : c.push_reserved.new.self.items ≡ (set c.self.inside.tablets.items c.position-index.result c.cut.new.self ++ c.in_ok-part.part ∷ []) = c.push_reserved.ensures.items ∙ ap (λ (ys : List Tablet). ys ++ c.in_ok-part.part ∷ []) moved in
    let emptied = holder_emptied c.args.row.now c.self.inside.table c.self.inside.tablets.items (view_of c.locate.result.now) c.position-index.result c.index_mut.result.now holder at.number there (rw (← c.self.view_is) at c.requires.flushed) in
    let stays = ap (λ m. with_name c.self.inside.next_name m (names_of c.index_mut.result.now)) (sym emptied) in
    let for = rw (← c.self.view_is) at c.requires.room in
    rw (← c.self.view_is) (subst (λ (ys : List Tablet). IsHalved c.self.inside.next_name c.args.row.now c.args.room.left c.self.inside.table c.self.inside.tablets.items ys) (sym pushed)
    (cut_in_two c.args.row.now c.self.inside.table c.self.inside.tablets.items c.position-index.result c.index_mut.result.now c.in_ok-part.part c.cut.new.self (view_of c.locate.result.now) holder at.number there c.self.inside.next_name c.args.room.left (length c.self.inside.table)
    for.number c.self.invariant.0.as_many
    (record { memory = c.in_ok-part.ensures.left_memory; names = c.in_ok-part.ensures.left_names ∙ stays })
    (record { memory = c.in_ok-part.ensures.right_memory; names = c.in_ok-part.ensures.right_names ∙ stays })))

pub returns-clause-number : goal.returns-clause-number
returns-clause-number g c =
    rw (← c.self.view_is) (rw (← c.self.view_is) at c.requires.room).number

pub returns-clause-cut : goal.returns-clause-cut
returns-clause-cut g c =
    let at = rw (← c.self.view_is) at c.position-index.ensures in
    let there = found_there c.self.inside.tablets.items c.position-index.result at.tablet c.index_mut.result.now at.there c.index_mut.ensures.value in
    let made = ready c.args.row.now c.args.room c.self.inside.table c.self.inside.tablets.items (view_of c.locate.result.now) c.position-index.result c.index_mut.result.now c.locate.ensures.holder at.number there (rw (← c.self.view_is) at c.requires.room) in
    let listed : c.list_files-2.new.table ≡ with_files c.args.room.left (names_of c.index_mut.result.now) (with_files c.locate.result.now.tablet (names_of c.index_mut.result.now) c.args.room.table) =
    c.list_files-2.ensures ∙ ap (with_files c.args.room.left (names_of c.in_ok-part.part)) c.list_files.ensures ∙ ap (λ (ns : List ℕ). with_files c.args.room.left ns (with_files c.locate.result.now.tablet ns c.args.room.table)) c.in_ok-part.ensures.left_names in
    let cut : Cuts c.args.row.now c.args.room.left c.self.inside.table c.list_files-2.new.table = subst (λ (ps : List PlaceView). Cuts c.args.row.now c.args.room.left c.self.inside.table ps) (sym listed) made.cut in
    rw (← c.self.view_is) cut

pub returns-clause-name : goal.returns-clause-name
returns-clause-name g c = rw (← c.self.view_is) refl

pub returns-clause-reads : goal.returns-clause-reads
returns-clause-reads g c = record {
  refusal = tt;
  same = rw (← c.self.view_is) c.cut.ensures.reads.same;
  reason = rw (← c.self.view_is) (reason_kept _ _ _ _ c.in_ok-part.ensures.reads.reason);
}

pub returns-clause-limit : goal.returns-clause-limit
returns-clause-limit g c = rw (← c.self.view_is) refl

pub returns-clause-err : goal.returns-clause-err
returns-clause-err g c = tt

pub returns-clause-unchanged : goal.returns-clause-unchanged
returns-clause-unchanged g c = tt

pub returns-clause-damaged : goal.returns-clause-damaged
returns-clause-damaged g c = λ is. absurd (not_refused _ Damaged is)
