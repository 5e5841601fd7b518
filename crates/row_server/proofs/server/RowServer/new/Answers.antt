use Rattle.std.proofs.Common.{◌≡◌, ◌≤◌, ℕ, refl, subst, sym, arith}
use Rattle.cell_key.specs.Cells.{Cells}
use Rattle.si_model.specs.Machine.{new_machine}
use Rattle.si_model.specs.ShowsCells.{ShowsCells}
use Rattle.server_loop.proofs.SessionSteps.{new_cells}
use Rattle.row_server.proofs.server.RowServer.new.Goals as goal

zero_by : {n : ℕ} → n ≤ 0 → n ≡ 0
zero_by low = omega arith

pub returns-clause-shown : goal.returns-clause-shown
returns-clause-shown g c = λ holds none known. let memory = c.start-clients.ensures (g.R.Rows.seen.cells c.args.rows) new_machine refl refl refl refl refl in record {
  holds = holds;
  store = subst (λ (cells : Cells). ShowsCells cells new_machine) (sym none) new_cells;
  top = omega arith;
  memory = memory;
  knows_top = zero_by memory.sessions.top;
  knows_floor = zero_by memory.collectors.floor;
  known = known;
}
