-- The root's bytes are made and put.
use Rattle.std.proofs.Common.{◌≡◌, ◌≤◌, List, Option, ℕ, IfSome, inl, inr, length, ap, ◌∙◌, subst, sym}
use Rattle.cell_key.specs.declared.refusals.Refusal.TheVariants.{Device}
use Rattle.file_store.specs.Store.{Contents, KeepsOthers, with_file}
use Rattle.metadata_table.specs.Roots.{IsRootIn, RootView, file_names}
use Rattle.metadata_table.specs.declared.root.format.RootFormat.TheVariants.{Two}
use Rattle.row_atomic.specs.Roots.{AreMeasured, root_name}
use Rattle.row_atomic.proofs.Checkpoints.{root_keeps}
use Rattle.row_atomic.proofs.PassedRefusals.{not_refused}
use Rattle.row_atomic.proofs.RestedClusters.{new_root, put_keeps, put_rests}
use Rattle.row_atomic.proofs.cluster.Cluster.put_root.Goals as goal

pub write_root-requires-clause-naming : goal.write_root-requires-clause-naming
write_root-requires-clause-naming g c = record { from = c.self.invariant.0.named_from; to = c.self.invariant.0.named_to; files = c.self.invariant.0.files }

pub write_root-requires-clause-measured : goal.write_root-requires-clause-measured
write_root-requires-clause-measured g c = ap length c.deref.ensures.value ∙ c.in_ok-lengths.ensures.count

pub returns-in-Ok-clause-puts : goal.returns-in-Ok-clause-puts
returns-in-Ok-clause-puts g c =
    let root : RootView = record { top = c.args.top; floor = c.args.floor; next_name = c.self.inside.next_name; places = c.self.inside.table } in
    let written : IsRootIn Two root c.deref.result.now c.write_root.new.out.items =
    new_root root _ _ _ c.in_ok-write_root.ensures.sound (ap length c.deref.ensures.value ∙ c.in_ok-lengths.ensures.count) c.in_ok-write_root.ensures.fit c.new-image.ensures.items c.in_ok-write_root.ensures.ok in
    let put : g.F.Files.contents c.put.new.self ≡ with_file root_name c.write_root.new.out.items (g.F.Files.contents c.self.inside.files) =
    c.in-Ok.ensures.ok ∙ ap (λ (bytes : List ℕ). with_file root_name bytes (g.F.Files.contents c.file_lengths.new.files)) c.deref-2.ensures.value ∙ ap (with_file root_name c.write_root.new.out.items) c.in_ok-lengths.ensures.same in
    rw (← c.self.view_is) (c.write_root.new.out.items, c.deref.result.now, written, put)

pub returns-in-Ok-clause-rests : goal.returns-in-Ok-clause-rests
returns-in-Ok-clause-rests g c =
    let root : RootView = record { top = c.args.top; floor = c.args.floor; next_name = c.self.inside.next_name; places = c.self.inside.table } in
    let written : IsRootIn Two root c.deref.result.now c.write_root.new.out.items =
    new_root root _ _ _ c.in_ok-write_root.ensures.sound (ap length c.deref.ensures.value ∙ c.in_ok-lengths.ensures.count) c.in_ok-write_root.ensures.fit c.new-image.ensures.items c.in_ok-write_root.ensures.ok in
    let put : g.F.Files.contents c.put.new.self ≡ with_file root_name c.write_root.new.out.items (g.F.Files.contents c.self.inside.files) =
    c.in-Ok.ensures.ok ∙ ap (λ (bytes : List ℕ). with_file root_name bytes (g.F.Files.contents c.file_lengths.new.files)) c.deref-2.ensures.value ∙ ap (with_file root_name c.write_root.new.out.items) c.in_ok-lengths.ensures.same in
    let measured = subst (λ (l : List ℕ). IfSome (g.F.Files.contents c.self.inside.files) (λ m. AreMeasured m (file_names c.self.inside.table) l)) (sym c.deref.ensures.value) c.in_ok-lengths.ensures.measured in
    rw (← c.self.view_is) (
    put_rests g.F.Files.contents c.args.top c.args.floor (record { files = c.self.inside.files; file_limit = c.self.inside.file_limit; next_name = c.self.inside.next_name; places = c.self.inside.table; tablets = c.self.inside.tablets.items; merge = c.self.inside.merge })
    c.put.new.self c.in_ok-write_root.ensures.sound.table c.self.invariant.0 c.unnamed_may_go.ensures c.write_root.new.out.items c.deref.result.now written put measured
    )

pub returns-clause-whole : goal.returns-clause-whole
returns-clause-whole g c = λ replaces.
    let root : RootView = record { top = c.args.top; floor = c.args.floor; next_name = c.self.inside.next_name; places = c.self.inside.table } in
    let written : IsRootIn Two root c.deref.result.now c.write_root.new.out.items =
    new_root root _ _ _ c.in_ok-write_root.ensures.sound (ap length c.deref.ensures.value ∙ c.in_ok-lengths.ensures.count) c.in_ok-write_root.ensures.fit c.new-image.ensures.items c.in_ok-write_root.ensures.ok in
    let measured = subst (λ (l : List ℕ). IfSome (g.F.Files.contents c.self.inside.files) (λ m. AreMeasured m (file_names c.self.inside.table) l)) (sym c.deref.ensures.value) c.in_ok-lengths.ensures.measured in
    elim (c.in-Err.ensures.whole replaces) [
      | inl same ↦ rw (← c.self.view_is) (inl (same ∙ c.in_ok-lengths.ensures.same))
      | inr is ↦ (
          let put : g.F.Files.contents c.put.new.self ≡ with_file root_name c.write_root.new.out.items (g.F.Files.contents c.self.inside.files) =
          is ∙ ap (λ (bytes : List ℕ). with_file root_name bytes (g.F.Files.contents c.file_lengths.new.files)) c.deref-2.ensures.value ∙ ap (with_file root_name c.write_root.new.out.items) c.in_ok-lengths.ensures.same in
          rw (← c.self.view_is) (inr (
          put_rests g.F.Files.contents c.args.top c.args.floor (record { files = c.self.inside.files; file_limit = c.self.inside.file_limit; next_name = c.self.inside.next_name; places = c.self.inside.table; tablets = c.self.inside.tablets.items; merge = c.self.inside.merge })
          c.put.new.self c.in_ok-write_root.ensures.sound.table c.self.invariant.0 c.unnamed_may_go.ensures c.write_root.new.out.items c.deref.result.now written put measured
          ))
          )
    ]

pub returns-in-Ok-clause-keeps : goal.returns-in-Ok-clause-keeps
returns-in-Ok-clause-keeps g c =
    let put : g.F.Files.contents c.put.new.self ≡ with_file root_name c.write_root.new.out.items (g.F.Files.contents c.self.inside.files) =
    c.in-Ok.ensures.ok ∙ ap (λ (bytes : List ℕ). with_file root_name bytes (g.F.Files.contents c.file_lengths.new.files)) c.deref-2.ensures.value ∙ ap (with_file root_name c.write_root.new.out.items) c.in_ok-lengths.ensures.same in
    let quiet = c.in_ok-lengths.ensures.reason.told (not_refused c.in_ok-lengths.lengths Device) in
    rw (← c.self.view_is) (
    root_keeps g.F.Files.contents g.F.Files.faults (record { files = c.self.inside.files; file_limit = c.self.inside.file_limit; next_name = c.self.inside.next_name; places = c.self.inside.table; tablets = c.self.inside.tablets.items; merge = c.self.inside.merge })
    c.put.new.self c.in_ok-write_root.ensures.sound.table c.self.invariant.0 c.unnamed_may_go.ensures c.stays_open.ensures
    (inr (subst (λ (told : Option Contents). KeepsOthers root_name (g.F.Files.contents c.self.inside.files) told) (sym put) (put_keeps _ _)))
    (subst (λ (k : ℕ). k ≤ g.F.Files.faults c.put.new.self) quiet c.in-Ok.ensures.cause.later)
    )

pub returns-clause-keeps : goal.returns-clause-keeps
returns-clause-keeps g c =
    let quiet = c.in_ok-lengths.ensures.reason.told (not_refused c.in_ok-lengths.lengths Device) in
    rw (← c.self.view_is) (
    root_keeps g.F.Files.contents g.F.Files.faults (record { files = c.self.inside.files; file_limit = c.self.inside.file_limit; next_name = c.self.inside.next_name; places = c.self.inside.table; tablets = c.self.inside.tablets.items; merge = c.self.inside.merge })
    c.put.new.self c.in_ok-write_root.ensures.sound.table c.self.invariant.0 c.unnamed_may_go.ensures c.stays_open.ensures
    (inr (subst (λ (told : Option Contents). KeepsOthers root_name told (g.F.Files.contents c.put.new.self)) c.in_ok-lengths.ensures.same c.in-Err.ensures.err))
    (subst (λ (k : ℕ). k ≤ g.F.Files.faults c.put.new.self) quiet c.in-Err.ensures.cause.later)
    )
