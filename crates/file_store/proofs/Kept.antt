-- A put leaves all other files unchanged, whatever its result.
use Rattle.std.proofs.Common.{◌≡◌, ◌≢◌, ◌==◌, ◌∙◌, refl, ap, subst, sym, cond, ℕ, Bool, true, false, List, Option, Some, None, Result, Ok, Err, OnErr}
use Rattle.std.specs.Prelude.{OnOk}
use Rattle.std.specs.Cmp.{nat_cmp_total, unsigned_tied}
use Rattle.std.specs.FinMap.{get, get-insert, insert}
use borrow.Author.Tests.{eqb-true}
use Rattle.file_store.specs.Store.{Contents, KeepsOthers, with_file}

-- a put under a name leaves what is under another
pub elsewhere : (m : Contents) (name other : ℕ) (bytes : List ℕ) → other ≢ name → get (insert m name bytes) other ≡ get m other
elsewhere m name other bytes apart =
    get-insert nat_cmp_total m name bytes other
    ∙ ap (λ (b : Bool). cond b (Some bytes) (get m other)) (unsigned_tied other name)
    ∙ by (other == name) refl
  where
    by : (b : Bool) → (other == name) ≡ b → cond b (Some bytes) (get m other) ≡ get m other
    by true e = absurd (apart (eqb-true other name e))
    by false e = refl

others_kept : (name : ℕ) (bytes : List ℕ) (old : Option Contents) → KeepsOthers name old (with_file name bytes old)
others_kept name bytes None = refl
others_kept name bytes (Some m) = λ other apart. elsewhere m name other bytes apart

pub put_keeps : {T E : Type 0} (result : Result T E) (name : ℕ) (bytes : List ℕ) (old new : Option Contents)
    → OnOk result (new ≡ with_file name bytes old) → OnErr result (KeepsOthers name old new) → KeepsOthers name old new
put_keeps (Ok _) name bytes old new put kept = subst (KeepsOthers name old) (sym put) (others_kept name bytes old)
put_keeps (Err _) name bytes old new put kept = kept
