use Rattle.std.proofs.Common.{ℕ, List, ◌∷◌, ap}
use Rattle.request_codec.proofs.requests.decode_upkeep.Goals as goal

pub returns-in_ok-tablet-in-11-clause-found : goal.returns-in_ok-tablet-in-11-clause-found
returns-in_ok-tablet-in-11-clause-found c = record {
  numbers = c.in_ok-tablet-in-11.ensures.fits;
  bytes = tt;
  whole = rw (c.in-11.is) (ap (λ (t : List ℕ). 0x0B ∷ t) c.in_ok-tablet-in-11.ensures.found);
}
