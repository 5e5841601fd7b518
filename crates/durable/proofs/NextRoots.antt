-- A root is put whose name was appended to the log before.
use Rattle.std.proofs.Common.{◌≡◌, ◌≤◌, ◌∙◌, ℕ, true, List, [], ◌∷◌, ◌++◌, arith}
use Rattle.commit_log.specs.Edits.{LogsEdits}
use Rattle.commit_log.specs.Records.{NamesRoots}
use Rattle.commit_log.specs.declared.logs.Log.{Ghosts as Log}
use Rattle.metadata_table.specs.Roots.{RootView}
use Rattle.si_model.specs.Machine.{State}
use Rattle.durable.specs.Answers.{Follows, HasNewRoot, HoldsLogged, KeepsJournal, LastsIn, named}
use Rattle.durable.specs.Devices.{most_stamp}
use Rattle.durable.specs.View.{View}
use Rattle.durable.specs.declared.server.DurableServer.{DurableServer}
use Rattle.durable.proofs.Logged.{IsReadied, holds_next, holds_old, root_lasts}

module _ {S M L : Type 0} (view : View S) (shows : S → State → Type 0) (device : Log L) (laws : LogsEdits) (names : NamesRoots) (follows : (server : S) (root : RootView) (st : State) → view.recording server ≡ true → view.is_rooted server root → shows server st → Follows view server root st)
    (low : (server : S) (st : State) → shows server st → (view.next_root server).top ≤ view.last server)
    (mid new : DurableServer S M L) where
  -- a server whose log got the name of the root that it would put, and whose edits are all in the log and its stamps
  -- covered by the mark
  pub record IsNamed : Type 0 where
    pub ready : IsReadied view device laws names mid new
    pub all : new.marks.covered ≤ new.marks.stored
    pub keeps : KeepsJournal view mid.server new.server
    pub recording : view.recording mid.server ≡ true
    pub none : view.waiting mid.server ≡ []
    pub last : view.last mid.server ≤ mid.marks.covered
    pub gains : (records : List (List ℕ)) → device.holds mid.log records → device.holds new.log (records ++ named (view.next_root new.server) ∷ [])

  last_covered : IsNamed → view.last new.server ≤ new.marks.covered
  last_covered is = let stamp = is.keeps.stamp in let last = is.last in let covered = is.ready.covered in omega (arith, stamp, last, covered)

  pub last_stored : IsNamed → view.last new.server ≤ new.marks.stored
  last_stored is = let covered = last_covered is in let all = is.all in omega (arith, covered, all)

  next_stored : IsNamed → (st : State) → shows new.server st → (view.next_root new.server).top ≤ new.marks.stored
  next_stored is st shown = let top = low new.server st shown in let last = last_stored is in omega (arith, top, last)

  lasts_over : IsNamed → (root : RootView) (st : State) → shows new.server st → view.is_rooted new.server root → HoldsLogged view device new root → LastsIn view device new st
  lasts_over is root st shown rooted holds = root_lasts view device laws names new root st (follows new.server root st (is.keeps.goes_on ∙ is.recording) rooted shown) holds (is.keeps.waits ∙ is.none) (last_covered is)

  -- that root was put
  pub next_held : IsNamed → (old : RootView) (st : State) → HoldsLogged view device mid old → shows new.server st → HasNewRoot view (view.next_root new.server) new.server st → HoldsLogged view device new (view.next_root new.server) × LastsIn view device new st
  next_held is old st held shown put =
      let holds = holds_next view device laws names mid new is.ready old (view.next_root new.server) held (next_stored is st shown) (is.gains held.records held.in_log) in
      (holds, lasts_over is (view.next_root new.server) st shown put.rooted holds)

  -- the old root is still there
  pub old_held : IsNamed → (old : RootView) (st : State) → HoldsLogged view device mid old → shows new.server st → view.is_rooted new.server old → HoldsLogged view device new old × LastsIn view device new st
  old_held is old st held shown rooted =
      let small : (view.next_root new.server).top ≤ most_stamp = let top = next_stored is st shown in let limit = is.ready.limit in omega (arith, top, limit) in
      let holds = holds_old view device laws names mid new is.ready old (view.next_root new.server) held small (is.gains held.records held.in_log) in
      (holds, lasts_over is old st shown rooted holds)
