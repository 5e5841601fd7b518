use Rattle.std.proofs.Common.{◌≡◌, ◌<◌, ◌-◌, ℕ, Some, slice_index_or, option_map, sym, subst}
use Rattle.cell_key.specs.Places.{IsNextCell, place_named}
use Rattle.row_atomic.specs.Commands.{cells_shown}
use Rattle.rows.proofs.NextLists.{next_single}
use Rattle.row_atomic.proofs.cluster.row_calls.ClusterRows.next_cell.Goals as goal

pub returns-clause-found : goal.returns-clause-found
returns-clause-found g c = λ held.
    let len = c.in_ok-found.found.ok.0 in
    next_single (IsNextCell (cells_shown g.F.Files.contents c.args.self.now)) (option_map place_named c.args.after) c.in_ok-found.found.items c.pop.result (c.in_ok-found.ensures.found held)
    (λ some. subst (λ (n : ℕ). 0 < n) len (c.pop.ensures.variant.0 some))
    (λ d less. subst (λ (n : ℕ). c.pop.result ≡ Some (slice_index_or c.in_ok-found.found.items (n - 1) d)) len (c.pop.ensures.value d (subst (λ (n : ℕ). 0 < n) (sym len) less)))
