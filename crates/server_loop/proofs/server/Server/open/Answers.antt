use Rattle.std.proofs.Common.{◌≡◌, ◌≤◌, ◌<◌, ℕ, List, Option, refl, ap, ◌∙◌, subst, sym, arith}
use Rattle.std.specs.Prelude.{IsSomeAnd}
use Rattle.cell_key.specs.Cells.{Cells}
use Rattle.metadata_table.specs.Places.{PlaceView}
use Rattle.metadata_table.specs.Roots.{RootView}
use Rattle.row_atomic.specs.Clusters.{cells_in}
use Rattle.row_atomic.specs.Roots.{KeepsRoot}
use Rattle.row_atomic.proofs.Fresh.{new_cells as none_in}
use Rattle.si_model.specs.Machine.{new_machine, reopened}
use Rattle.si_model.specs.ShowsCells.{ShowsCells}
use Rattle.server_loop.specs.Server.{machine_places}
use Rattle.server_loop.proofs.Opened.{below_told, damage_told, new_store, not_below, where_told, whole_told}
use Rattle.server_loop.proofs.SessionSteps.{new_cells}
use Rattle.server_loop.proofs.server.Server.open.Goals as goal

pub returns-in-Err-clause-kept : goal.returns-in-Err-clause-kept
returns-in-Err-clause-kept g c = λ st keeps. c.in-Err.ensures.kept keeps.kept keeps.root keeps.cells keeps.on_disk keeps.keeps

pub returns-in-Err-clause-damaged : goal.returns-in-Err-clause-damaged
returns-in-Err-clause-damaged g c = λ is. damage_told _ _ (c.in-Err.ensures.damaged is)

pub returns-then-last-top-clause-damaged : goal.returns-then-last-top-clause-damaged
returns-then-last-top-clause-damaged g c = λ is.
    let same : c.last.result ≡ c.in-Ok-open.oracle.last = c.last.ensures.last in
    let less : c.in-Ok-open.oracle.last < c.in-Ok.opened.1 = let below = c.if-last-top.true in omega arith in
    below_told (g.F.Files.contents c.args.files) (g.M.MarkStore.mark c.args.marks) c.in-Ok.opened.1 c.in-Ok.opened.2 c.in-Ok-open.oracle.last c.in-Ok.opened.0 c.in-Ok.ensures.store c.in-Ok-open.ensures.mark less

pub returns-clause-kept : goal.returns-clause-kept
returns-clause-kept g c = λ st keeps.
    let o = c.in-Ok.ensures.kept keeps.kept keeps.root keeps.cells keeps.on_disk keeps.keeps in
    let top : c.in-Ok.opened.1 ≡ st.top = ap (λ (root : RootView). root.top) o.tells ∙ keeps.tells.top in
    let floor : c.in-Ok.opened.2 ≡ st.floor = ap (λ (root : RootView). root.floor) o.tells ∙ keeps.tells.floor in
    record {
      shows = c.without_sessions.ensures.shown (reopened st) (rw c.new-rows.ensures (record {
        in_order = (o.holds, tt);
        store = subst (λ (cells : Cells). ShowsCells cells (reopened st)) (sym o.shows) keeps.tells.shows;
        places = ap (λ (root : RootView). machine_places root.places) o.tells ∙ keeps.tells.places;
        next = keeps.tells.next;
        answered = sym top;
        marked = not_below _ _ _ keeps.tells.marked c.in-Ok-open.ensures.mark;
        collected = sym floor;
        active = refl;
        cleaner = refl;
        cleaners = refl;
        collector = refl;
        collectors = refl;
      }));
      root = keeps.root;
      cells = keeps.cells;
      keeps = subst (KeepsRoot g.F.Files.contents keeps.root keeps.cells) (sym (ap (λ r. r.cluster) (c.without_sessions.ensures.rows ∙ c.new-rows.ensures))) o.keeps;
      tells = record {
        top = keeps.tells.top;
        floor = keeps.tells.floor;
        places = keeps.tells.places;
        next = keeps.tells.next;
        marked = subst (λ (told : Option ℕ). IsSomeAnd told (λ mark. st.top ≤ mark)) (sym (ap g.M.MarkStore.mark c.without_sessions.ensures.marks ∙ c.in-Ok-open.ensures.kept)) keeps.tells.marked;
        shows = keeps.tells.shows;
      };
    }

pub returns-clause-new : goal.returns-clause-new
returns-clause-new g c = λ lacks.
    let s = new_store (g.F.Files.contents c.args.files) (g.M.MarkStore.mark c.args.marks) c.in-Ok.opened.1 c.in-Ok.opened.2 c.in-Ok-open.oracle.last c.in-Ok.opened.0 lacks c.in-Ok.ensures.store in
    let none = ap (cells_in (g.F.Files.contents c.in-Ok.opened.0.files)) s.tablet.alone ∙ none_in s.tablet.tablet s.tablet.memory s.tablet.files (g.F.Files.contents c.in-Ok.opened.0.files) in
    c.without_sessions.ensures.shown new_machine (rw c.new-rows.ensures (record {
      in_order = (where_told _ _ lacks c.in-Ok.ensures.holds, tt);
      store = subst (λ (cells : Cells). ShowsCells cells new_machine) (sym none) new_cells;
      places = ap (λ (places : List PlaceView). machine_places places) s.places;
      next = refl;
      answered = sym s.no_top;
      marked = omega arith;
      collected = sym s.no_floor;
      active = refl;
      cleaner = refl;
      cleaners = refl;
      collector = refl;
      collectors = refl;
    }))

pub returns-clause-whole : goal.returns-clause-whole
returns-clause-whole g c =
    let same : c.last.result ≡ c.in-Ok-open.oracle.last = c.last.ensures.last in
    let low : c.in-Ok.opened.1 ≤ c.in-Ok-open.oracle.last = let above = c.if-last-top.false in omega arith in
    whole_told (g.F.Files.contents c.args.files) (g.M.MarkStore.mark c.args.marks) c.in-Ok.opened.1 c.in-Ok.opened.2 c.in-Ok-open.oracle.last c.in-Ok.opened.0 c.one_root.ensures c.in-Ok.ensures.whole c.in-Ok.ensures.store c.in-Ok-open.ensures.mark low
