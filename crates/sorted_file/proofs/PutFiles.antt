-- A file that was put is there.
use Rattle.std.proofs.Common.{◌≡◌, ℕ, true, cond, List, Option, Some, None, sym, ap, subst, ◌∙◌}
use Rattle.std.specs.Prelude.{IfSome}
use Rattle.std.specs.Ordering.{eq_by_cmp, nat_cmp}
use Rattle.std.specs.Cmp.{eq_by_cmp_equiv, nat_cmp_total}
use Rattle.std.specs.FinMap.{get, get-insert, insert}
use Rattle.file_store.specs.Store.{Contents, with_file}

get_own : (m : Contents) (name : ℕ) (image : List ℕ) → get (insert m name image) name ≡ Some image
get_own m name image =
    let own : eq_by_cmp nat_cmp name name ≡ true = (eq_by_cmp_equiv nat_cmp_total).refl name in
    get-insert nat_cmp_total m name image name ∙ ap (λ b. cond b (Some image) (get m name)) own

-- a property of all contents with the file holds after a put
pub where_put : (old new : Option Contents) (name : ℕ) (image : List ℕ) (P : Contents → Type 0) → new ≡ with_file name image old → ((m : Contents) → get m name ≡ Some image → P m) → IfSome new P
where_put old new name image P is h = subst (λ (told : Option Contents). IfSome told P) (sym is) (go old)
  where
    go : (told : Option Contents) → IfSome (with_file name image told) P
    go None = tt
    go (Some m) = h (insert m name image) (get_own m name image)
