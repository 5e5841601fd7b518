-- What the files that are kept open have at a name that was read or put.
use Rattle.std.proofs.Common.{◌≡◌, ℕ, Bool, true, false, cond, nat_eq, List, [], ◌∷◌, Option, Some, None, IsSome, IfSome, Result, Ok, Err, IsOk, IfOk, OnOk, OnErr, refl, ◌<◌}
use Rattle.std.specs.Map.{lookup, set_value}
use Rattle.std.specs.Cmp.{nat_eq_equiv}
use Rattle.lru.specs.LruCache.{LruCache, lru_cache, put_entries}
use Rattle.lru.proofs.CallerLemmas.{lookup-put_entries}

-- what is found at a key that was written, if anything is, is what was written
found_as_written : {K X : Type 0} (test : K → Bool) (P : X → Type 0) (w : X) → P w
    → (es : List (K × X)) → IfSome (lookup test (set_value test es w)) P
found_as_written test P w holds [] = tt
found_as_written test P w holds (e ∷ es) = (elim (test e.0) as (λ b. test e.0 ≡ b → IfSome (lookup test (cond b ((e.0, w) ∷ es) (e ∷ set_value test es w))) P) [
  | true ↦ λ t. rw t holds
  | false ↦ λ t. rw t (found_as_written test P w holds es)
]) refl

-- the same, of a read that may fail
pub read_as_written : {K X E : Type 0} (test : K → Bool) (P : X → Type 0) (w : X) (most : ℕ)
    → (es : List (K × X)) (r : Result ℕ E) → IfOk r (λ n. n < most → P w)
    → IfOk r (λ n. n < most → IfSome (lookup test (set_value test es w)) P)
read_as_written test P w most es (Ok n) at_end = λ short. found_as_written test P w (at_end short) es
read_as_written test P w most es (Err e) at_end = tt

absent : {X : Type 0} (P : X → Type 0) (o : Option X) → (IsSome o → false ≡ true) → IfSome o P
absent P None none = tt
absent P (Some x) none = let no : false ≡ true = none refl in cc

-- what is found at a name that was put, if anything is, is what was put
pub found_as_put : {V X E : Type 0} (old new : LruCache ℕ V) (k : ℕ) (v : V) (r : Result X E)
    → OnOk r (new ≡ lru_cache (put_entries nat_eq old k v) old.cap) → OnErr r (new ≡ old)
    → (IsSome (lookup (nat_eq k) old.entries) → IsOk r)
    → IfSome (lookup (nat_eq k) new.entries) (λ kept. kept ≡ v)
found_as_put old new k v (Ok x) put same some = rw put (rw (lookup-put_entries nat_eq old k v nat_eq_equiv) refl)
found_as_put old new k v (Err e) put same some = rw same (absent (λ kept. kept ≡ v) (lookup (nat_eq k) old.entries) some)
