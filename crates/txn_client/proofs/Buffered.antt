-- The number of bytes that sessions buffer, before and after a call.
use Rattle.std.proofs.Common.{◌≡◌, ◌≢◌, ℕ, ◌+◌, ◌-◌, inl, inr, Some, None, refl, sym, ap, subst, ◌∙◌, arith}
use Rattle.std.specs.Ordering.{nat_cmp}
use Rattle.std.specs.BTreeMap as btree
use Rattle.std.proofs.lemmas.Bool.{cases_eq}
use Rattle.std.specs.Result.{IsErrOf}
use Rattle.std.specs.declared.result.Result.TheVariants.{Err}
use Rattle.cell_key.specs.declared.refusals.Refusal.{Refusal}
use Rattle.txn_client.specs.Buffers.{BeginsEmpty, Buffers, BuffersNamed, BuffersNone, bytes_at, session_bytes}
use Rattle.txn_client.specs.Commits.{EndsAt}
use Rattle.txn_client.specs.Shows.{SameClients}
use Rattle.txn_client.specs.Writes.{bytes_of}
use Rattle.txn_client.specs.declared.session.Session.{Session}
use Rattle.txn_client.specs.declared.sessions.Clients.{Clients}

-- the same refusal, of another call
pub same_err : {A B : Type 0} (e n : Refusal) → IsErrOf {T = A} (Err e) n → IsErrOf {T = B} (Err e) n
same_err e n is = let same : e ≡ n = cc in ap (λ (f : Refusal). Err f) same

-- ---- numbers

same_number : (b b' x y : ℕ) → b' ≡ b → y ≡ x → b' ≡ b + y - x
same_number b b' x y same e = omega (arith, same, e)

less_number : (b b' x y : ℕ) → b' ≡ b - x → y ≡ 0 → b' ≡ b + y - x
less_number b b' x y less none = omega (arith, less, none)

kept_number : (b b' x : ℕ) → b' ≡ b → x ≡ 0 → b' ≡ b - x
kept_number b b' x same none = omega (arith, same, none)

-- ---- a session

-- the session at t has other writes
pub buffers_at : (old new : Clients) (t : ℕ) (session w : Session) → btree.get nat_cmp old.sessions t ≡ Some session → btree.get nat_cmp new.sessions t ≡ Some w → new.buffered ≡ old.buffered + bytes_of w.writes - bytes_of session.writes → new.most_buffered ≡ old.most_buffered → Buffers old new t
buffers_at old new t session w was now bytes limit = record {
  bytes = let before : bytes_at old t ≡ bytes_of session.writes = ap session_bytes was in let after : bytes_at new t ≡ bytes_of w.writes = ap session_bytes now in changed _ _ _ _ _ _ before after bytes;
  limit = limit;
}
  where
    changed : (b b' x x' y y' : ℕ) → x ≡ x' → y ≡ y' → b' ≡ b + y' - x' → b' ≡ b + y - x
    changed b b' x x' y y' e f h = omega (arith, e, f, h)

-- the session at t keeps its writes
pub buffers_kept : (old new : Clients) (t : ℕ) (session w : Session) → btree.get nat_cmp old.sessions t ≡ Some session → btree.get nat_cmp new.sessions t ≡ Some w → w.writes ≡ session.writes → new.buffered ≡ old.buffered → new.most_buffered ≡ old.most_buffered → Buffers old new t
buffers_kept old new t session w was now same number limit =
    buffers_at old new t session w was now (same_number old.buffered new.buffered (bytes_of session.writes) (bytes_of w.writes) number (ap bytes_of same)) limit

-- no session changes
pub buffers_same : (old new : Clients) (t : ℕ) → SameClients old new → Buffers old new t
buffers_same old new t same = record {
  bytes = same_number old.buffered new.buffered (bytes_at old t) (bytes_at new t) same.buffered (ap session_bytes (same.each t));
  limit = same.limit;
}

pub buffers_itself : (clients : Clients) (t : ℕ) → Buffers clients clients t
buffers_itself clients t = buffers_same clients clients t (record { top = refl; buffered = refl; limit = refl; each = λ start. refl })

-- the session at t is gone
pub none_gone : (old new : Clients) (t : ℕ) (session : Session) → btree.get nat_cmp old.sessions t ≡ Some session → btree.get nat_cmp new.sessions t ≡ None → new.buffered ≡ old.buffered - bytes_of session.writes → new.most_buffered ≡ old.most_buffered → BuffersNone old new t
none_gone old new t session was gone less limit = record {
  empty = ap session_bytes gone;
  bytes = let before : bytes_at old t ≡ bytes_of session.writes = ap session_bytes was in less ∙ ap (λ (n : ℕ). old.buffered - n) (sym before);
  limit = limit;
}

-- there was none
pub none_there : (old new : Clients) (t : ℕ) → btree.get nat_cmp old.sessions t ≡ None → btree.get nat_cmp new.sessions t ≡ None → new.buffered ≡ old.buffered → new.most_buffered ≡ old.most_buffered → BuffersNone old new t
none_there old new t was gone same limit = record {
  empty = ap session_bytes gone;
  bytes = kept_number old.buffered new.buffered (bytes_at old t) same (ap session_bytes was);
  limit = limit;
}

pub from_none : (old new : Clients) (t : ℕ) → BuffersNone old new t → Buffers old new t
from_none old new t none = record {
  bytes = less_number old.buffered new.buffered (bytes_at old t) (bytes_at new t) none.bytes none.empty;
  limit = none.limit;
}

-- ---- a request that may name a session

pub named_same : (old new : Clients) (t : ℕ) → SameClients old new → BuffersNamed old new t
named_same old new t same = record { named = λ ne. buffers_same old new t same; unnamed = λ is0. same.buffered; limit = same.limit }

pub named_itself : (clients : Clients) (t : ℕ) → BuffersNamed clients clients t
named_itself clients t = named_same clients clients t (record { top = refl; buffered = refl; limit = refl; each = λ start. refl })

pub named_ends : (old new : Clients) (t top : ℕ) → EndsAt old new t top → BuffersNamed old new t
named_ends old new t top ends = record {
  named = λ ne. from_none old new t (ends.buffered ne);
  unnamed = λ is0. ap (λ (clients : Clients). clients.buffered) (ends.new_ends is0);
  limit = elim (cases_eq t 0) [
    | inl is0 ↦ ap (λ (clients : Clients). clients.most_buffered) (ends.new_ends is0)
    | inr ne ↦ (ends.buffered ne).limit
  ];
}

-- the session that is named is stopped
pub named_stopped : (old new : Clients) (t s : ℕ) → t ≢ 0 → s ≡ t → BuffersNone old new s → BuffersNamed old new t
named_stopped old new t s ne same none = record {
  named = λ not0. from_none old new t (subst (λ (n : ℕ). BuffersNone old new n) same none);
  unnamed = λ is0. absurd (ne is0);
  limit = none.limit;
}

-- a session has begun
pub unnamed_begun : (old new : Clients) (t s : ℕ) → t ≡ 0 → BeginsEmpty old new s → BuffersNamed old new t
unnamed_begun old new t s is0 begins = record { named = λ ne. absurd (ne is0); unnamed = λ same. begins.bytes; limit = begins.limit }

-- and is stopped
pub unnamed_stopped : (old mid new : Clients) (t s u : ℕ) → t ≡ 0 → s ≡ u → BeginsEmpty old mid s → BuffersNone mid new u → BuffersNamed old new t
unnamed_stopped old mid new t s u is0 same begins none = record {
  named = λ ne. absurd (ne is0);
  unnamed = λ e. let empty : bytes_at mid u ≡ 0 = subst (λ (n : ℕ). bytes_at mid n ≡ 0) same begins.empty in back old.buffered mid.buffered new.buffered (bytes_at mid u) none.bytes begins.bytes empty;
  limit = none.limit ∙ begins.limit;
}
  where
    back : (a b c x : ℕ) → c ≡ b - x → b ≡ a → x ≡ 0 → c ≡ a
    back a b c x less same none = omega (arith, less, same, none)
