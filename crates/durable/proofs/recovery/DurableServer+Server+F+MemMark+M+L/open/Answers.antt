use Rattle.std.specs.Global.{Vec}
use Rattle.std.proofs.Common.{◌≡◌, ◌≤◌, ◌∙◌, ℕ, List, Option, Err, inl, inr, refl, sym, ap, subst, arith}
use Rattle.file_store.specs.Store.{Contents}
use Rattle.si_model.specs.Machine.{reopened}
use Rattle.commit_log.specs.Edits.{HoldEdits}
use Rattle.commit_log.specs.Frames.{bytes_of}
use Rattle.commit_log.specs.Records.{AreUpTo, HasRecord, IsGreatest, any_root}
use Rattle.server_loop.specs.Server.{cluster_of, last_of, tending_of}
use Rattle.server_loop.specs.declared.server.Server.{Server}
use Rattle.durable.specs.Devices.{CoversWith, IsOver, KeepsUnder, LastsOn, most_stamp}
use Rattle.std.specs.Prelude.{IfSome}
use Rattle.durable.specs.Recovery.{AreWhole}
use Rattle.durable.specs.StoredMarks.{IsMarkOf}
use Rattle.durable.proofs.OpenedLogs.{covers_marked, greatest_told, known_under, marked_stamps}
use Rattle.durable.proofs.OpenedRows.{never_full}
use Rattle.durable.proofs.OpensLogs.{damage_of_log, has_root_file, lasts_on_log, no_room_lost, opens_from, same_room, same_shown}
use Rattle.durable.proofs.recovery.DurableServer+Server+F+MemMark+M+L.open.Goals as goal

pub returns-in-Err-clause-kept : goal.returns-in-Err-clause-kept
returns-in-Err-clause-kept g c = λ st reached lasts. (
  λ is. c.in-Err.ensures.damaged (ap Err is) lasts.records lasts.edits lasts.in_log lasts.stored lasts.held,
  λ full. never_full _ c.in-Err.ensures.refusal full,
  lasts_on_log (KeepsUnder (g.F.Files.contents c.args.files) (g.M.MarkStore.mark c.args.marks)) (g.L.Log.holds c.args.log) (g.L.Log.holds c.logged_on.new.log) (CoversWith (g.M.MarkStore.mark c.args.marks)) st c.in-Err.ensures.same lasts,
)

pub returns-in-Err-clause-damaged : goal.returns-in-Err-clause-damaged
returns-in-Err-clause-damaged g c = λ is. inl (c.in-Err.ensures.damaged (ap Err is))

pub returns-in-Ok-open_server-clause-kept : goal.returns-in-Ok-open_server-clause-kept
returns-in-Ok-open_server-clause-kept g c = λ st reached lasts.
    let held = subst (λ (rs : List (List ℕ)). HoldEdits rs c.in-Ok.logged.1.items) (c.in-Ok.ensures.records lasts.records lasts.in_log) c.in-Ok.ensures.held in
    let same = ap (λ (vs : List (Vec ℕ)). bytes_of vs) c.deref.ensures.value ∙ c.in-Ok.ensures.records lasts.records lasts.in_log in
    let told = g.M.MarkStore.mark c.args.marks in
    let s = c.in-Ok-open_server.ensures.kept lasts.root lasts.base st reached lasts.kept (subst (λ (rs : List (List ℕ)). IsOver rs lasts.root) (sym same) lasts.over) (subst (AreUpTo most_stamp) (sym same) lasts.stamps)
    (same_shown c.logs_edits.ensures lasts.records lasts.edits c.in-Ok.logged.1.items lasts.held held lasts.stored c.in-Ok.ensures.stored lasts.base (reopened st) lasts.shows) lasts.next (subst (λ (rs : List (List ℕ)). CoversWith told rs st.top) (sym same) lasts.top) in
    let mark = c.in-Ok-open_server.mark in
    let made : IsMarkOf told lasts.records mark = subst (λ (rs : List (List ℕ)). IsMarkOf told rs mark) same c.in-Ok-open_server.ensures.made.0 in
    let limit : mark.stored ≤ most_stamp = (let above = made.covered.above in let most = c.in-Ok-open_server.ensures.made.1 in omega (arith, above, most)) in
    opens_from g.F.Files g.M.MarkStore g.L.Log c.logs_edits.ensures st c.in-Ok-open_server.server mark c.logged_on.new.log c.over.result c.over.ensures.server c.over.ensures.marks c.over.ensures.log lasts.root lasts.base c.in-Ok.logged.1.items lasts.edits lasts.records s.0 s.1 limit c.in-Ok-open_server.ensures.last made.covered.reached
    (λ top low. covers_marked c.names_roots.ensures told lasts.records mark made (g.M.MarkStore.mark mark.marks) top c.in-Ok-open_server.ensures.mark (known_under told lasts.root.top lasts.kept.covered) low)
    held c.in-Ok.ensures.stored (c.in-Ok.ensures.same lasts.records lasts.in_log) lasts.over lasts.stamps lasts.held lasts.stored lasts.room lasts.next c.over.ensures.settled

pub returns-in-Ok-open_server-clause-new : goal.returns-in-Ok-open_server-clause-new
returns-in-Ok-open_server-clause-new g c = λ lacks known records in_log.
    let held = subst (λ (rs : List (List ℕ)). HoldEdits rs c.in-Ok.logged.1.items) (c.in-Ok.ensures.records records in_log) c.in-Ok.ensures.held in
    let same = ap (λ (vs : List (Vec ℕ)). bytes_of vs) c.deref.ensures.value ∙ c.in-Ok.ensures.records records in_log in
    let told = g.M.MarkStore.mark c.args.marks in
    let (none, any, root, low, s) = c.in-Ok-open_server.ensures.new lacks known in
    let over : IsOver records root = inr (subst (λ (rs : List (List ℕ)). HasRecord rs any_root) same any) in
    let mark = c.in-Ok-open_server.mark in
    let made : IsMarkOf told records mark = subst (λ (rs : List (List ℕ)). IsMarkOf told rs mark) same c.in-Ok-open_server.ensures.made.0 in
    let most = c.in-Ok-open_server.ensures.made.1 in
    let limit : mark.stored ≤ most_stamp = (let above = made.covered.above in omega (arith, above, most)) in
    opens_from g.F.Files g.M.MarkStore g.L.Log c.logs_edits.ensures _ c.in-Ok-open_server.server mark c.logged_on.new.log c.over.result c.over.ensures.server c.over.ensures.marks c.over.ensures.log root _ c.in-Ok.logged.1.items c.in-Ok.logged.1.items records s low limit c.in-Ok-open_server.ensures.last made.covered.reached
    (λ top low. covers_marked c.names_roots.ensures told records mark made (g.M.MarkStore.mark mark.marks) top c.in-Ok-open_server.ensures.mark known low)
    held c.in-Ok.ensures.stored (c.in-Ok.ensures.same records in_log) over (marked_stamps c.names_roots.ensures told records mark made most) held c.in-Ok.ensures.stored (no_room_lost c.in-Ok.logged.1.items none) refl c.over.ensures.settled

pub returns-in-Ok-open_server-clause-last : goal.returns-in-Ok-open_server-clause-last
returns-in-Ok-open_server-clause-last g c = λ records in_log.
    let same = ap (λ (vs : List (Vec ℕ)). bytes_of vs) c.deref.ensures.value ∙ c.in-Ok.ensures.records records in_log in
    let made = subst (λ (rs : List (List ℕ)). IsMarkOf (g.M.MarkStore.mark c.args.marks) rs c.in-Ok-open_server.mark) same c.in-Ok-open_server.ensures.made.0 in
    let last : last_of c.over.result.server ≡ c.in-Ok-open_server.mark.covered = ap (λ (s : Server g.row.F.Denot ℕ g.row.F-Writing.Denot). last_of s) c.over.ensures.server ∙ c.in-Ok-open_server.ensures.last in
    subst (λ (n : ℕ). IfSome (g.M.MarkStore.mark c.args.marks) (λ number. IsGreatest number records n)) (sym last) (greatest_told (g.M.MarkStore.mark c.args.marks) records c.in-Ok-open_server.mark made)

pub returns-clause-kept : goal.returns-clause-kept
returns-clause-kept g c = λ st reached lasts.
    let held = subst (λ (rs : List (List ℕ)). HoldEdits rs c.in-Ok.logged.1.items) (c.in-Ok.ensures.records lasts.records lasts.in_log) c.in-Ok.ensures.held in
    let same = ap (λ (vs : List (Vec ℕ)). bytes_of vs) c.deref.ensures.value ∙ c.in-Ok.ensures.records lasts.records lasts.in_log in
    let told = g.M.MarkStore.mark c.args.marks in
    let r = c.in-Err-open_server.ensures.kept lasts.root lasts.base st reached lasts.kept (subst (λ (rs : List (List ℕ)). IsOver rs lasts.root) (sym same) lasts.over) (subst (AreUpTo most_stamp) (sym same) lasts.stamps)
    (same_shown c.logs_edits.ensures lasts.records lasts.edits c.in-Ok.logged.1.items lasts.held held lasts.stored c.in-Ok.ensures.stored lasts.base (reopened st) lasts.shows) lasts.next (subst (λ (rs : List (List ℕ)). CoversWith told rs st.top) (sym same) lasts.top) in
    let disk : g.F.Files.contents c.in-Err-open_server.files ≡ g.F.Files.contents c.args.files = c.in-Err-open_server.ensures.rooted (has_root_file (g.F.Files.contents c.args.files) told lasts.root lasts.base st.places lasts.kept) in
    let mark : g.M.MarkStore.mark c.in-Err-open_server.marks ≡ told = c.in-Err-open_server.ensures.mark in
    let on_log = lasts_on_log (KeepsUnder (g.F.Files.contents c.args.files) told) (g.L.Log.holds c.args.log) (g.L.Log.holds c.logged_on.new.log) (CoversWith told) st c.in-Ok.ensures.same lasts in (
      r.0,
      λ full. r.1 full (same_room c.logs_edits.ensures c.as_many_edits.ensures lasts.records lasts.edits c.in-Ok.logged.1.items lasts.held held lasts.stored c.in-Ok.ensures.stored lasts.room),
      subst (λ (d : Option Contents). LastsOn d (g.M.MarkStore.mark c.in-Err-open_server.marks) (g.L.Log.holds c.logged_on.new.log) st) (sym disk) (subst (λ (n : Option ℕ). LastsOn (g.F.Files.contents c.args.files) n (g.L.Log.holds c.logged_on.new.log) st) (sym mark) on_log),
    )

pub returns-clause-damaged : goal.returns-clause-damaged
returns-clause-damaged g c = λ is. inr (damage_of_log (g.L.Log.holds c.args.log) (g.F.Files.contents c.args.files) (g.M.MarkStore.mark c.args.marks) (bytes_of c.deref.result.now) (λ records held. ap (λ (vs : List (Vec ℕ)). bytes_of vs) c.deref.ensures.value ∙ c.in-Ok.ensures.records records held) (c.in-Err-open_server.ensures.damaged is))

pub returns-in-Ok-open_server-clause-whole : goal.returns-in-Ok-open_server-clause-whole
returns-in-Ok-open_server-clause-whole g c = λ records in_log.
    let same = ap (λ (vs : List (Vec ℕ)). bytes_of vs) c.deref.ensures.value ∙ c.in-Ok.ensures.records records in_log in
    subst (λ (rs : List (List ℕ)). IfSome (g.F.Files.contents c.args.files) (λ m. IfSome (g.M.MarkStore.mark c.args.marks) (λ n. AreWhole m n rs))) same c.in-Ok-open_server.ensures.whole

pub returns-in-Err-clause-opening : goal.returns-in-Err-clause-opening
returns-in-Err-clause-opening g c = λ there. inl c.in-Err.ensures.refusal

pub returns-clause-opening : goal.returns-clause-opening
returns-clause-opening g c = λ there. c.in-Err-open_server.ensures.refusal.1 there

pub returns-clause-refusal : goal.returns-clause-refusal
returns-clause-refusal g c = c.in-Err-open_server.ensures.refusal.0

pub returns-in-Ok-open_server-clause-limit : goal.returns-in-Ok-open_server-clause-limit
returns-in-Ok-open_server-clause-limit g c = ap (λ (s : Server g.row.F.Denot ℕ g.row.F-Writing.Denot). (cluster_of s).file_limit) c.over.ensures.server ∙ c.in-Ok-open_server.ensures.options.0

pub returns-in-Ok-open_server-clause-tending : goal.returns-in-Ok-open_server-clause-tending
returns-in-Ok-open_server-clause-tending g c = ap (λ (s : Server g.row.F.Denot ℕ g.row.F-Writing.Denot). tending_of s) c.over.ensures.server ∙ c.in-Ok-open_server.ensures.options.1
