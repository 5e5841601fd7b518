use Rattle.std.proofs.Common.{List, None, subst, sym}
use Rattle.std.specs.List.{Contains}
use Rattle.metadata_table.specs.Places.{PlaceView}
use Rattle.metadata_table.specs.Ranges.{ranges}
use Rattle.metadata_table.proofs.RangeLemmas.{held_range}
use Rattle.metadata_table.proofs.laws.holder_range.Goals as goal

pub returns : goal.returns
returns c = λ ps row p h.
    let found = held_range None row h.before h.after p tt h.past h.within in
    (found.0, record { there = subst (λ (qs : List PlaceView). Contains (ranges qs) found.0) (sym h.parts) found.1; tablet = found.2; end = found.3 }, found.4)
