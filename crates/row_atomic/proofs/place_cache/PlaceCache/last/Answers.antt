use Rattle.std.proofs.Common.{rules, sym, ◌∙◌}
use Rattle.std.specs.Cmp.Lexicographic.{bytes_decides}
use Rattle.row_atomic.proofs.place_cache.PlaceCache.last.Goals as goal

pub returns-then-eq : goal.returns-then-eq
returns-then-eq c =
    let same = (bytes_decides c.args.row.now c.in_ok-kept.kept.now).0 (sym c.eq.ensures ∙ c.if-eq.true) in
    search rules
