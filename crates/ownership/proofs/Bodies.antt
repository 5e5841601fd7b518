-- Numbers at the front of bodies.
use Rattle.std.proofs.Common.{◌≡◌, ℕ, ◌<◌, List, length, get_or, sym, arith, Option, Some, None, IfNone}
use Rattle.std.proofs.lemmas.Nat.{be_bytes_4}
use Rattle.byteorder.specs.Endian.{big_number}
use Rattle.request_codec.specs.Fields.{number}

pub spells_4 : (front : List ℕ) (n : ℕ) → length front ≡ 4 → ((i : ℕ) → get_or front i 0 < 256) → n ≡ big_number 4 front → front ≡ number 4 n
unfolding number
spells_4 front n len bytes e = sym (be_bytes_4 front n len bytes (omega arith))

pub none_then : {X : Type 0} {A B : Type 0} (o : Option X) → IfNone o A → (A → B) → IfNone o B
none_then None a then = then a
none_then (Some x) a then = tt
