use Rattle.std.proofs.Common.{inl, inr, refl, arith, option_map}
use Rattle.cell_key.specs.Places.{AreNextCells, place_named}
use Rattle.remote_rows.proofs.InMemory.{from_memory}
use Rattle.remote_rows.proofs.NextInSpans.{next_cells}
use Rattle.remote_rows.proofs.span.Span.next_cells.Goals as goal

pub returns-then-is_enough-clause-found : goal.returns-then-is_enough-clause-found
returns-then-is_enough-clause-found c cells is =
    let after = option_map place_named c.args.after in
    let next = from_memory c.next_cells.result c.in_memory.result c.in_ok-found.found (λ found. AreNextCells c.args.self.rows after c.args.most found.items) c.in_memory.ensures c.in_ok-found.was (c.next_cells.ensures.found (λ row from. tt)) in
    next_cells cells c.args.self.rows c.args.self.end is.none after c.args.most c.in_ok-found.found.items is.same (elim (c.if-is_enough.ensures refl) [ inl last ↦ inl last | inr long ↦ inr (grind arith) ]) next
