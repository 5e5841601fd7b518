use Rattle.std.proofs.Common.{◌≡◌, ℕ, List, Bool, true, false, T, cond, refl, sym, ap, subst, ◌∙◌}
use Rattle.std.specs.Prelude.{Option, Some, None, IfSome, option_map}
use Rattle.std.specs.Cmp.{nat_cmp_total}
use Rattle.std.specs.Ordering.{nat_cmp, eq_by_cmp, is_eq}
use Rattle.std.specs.declared.cmp.Ordering.{Ordering}
use Rattle.std.specs.declared.cmp.Ordering.TheVariants.{Less, Equal, Greater}
use Rattle.std.specs.FinMap.{get, get-insert, insert, nat_cmp-IsAntisymmetric, same_map}
use Rattle.file_store.specs.Store.{Contents, with_file}
use Rattle.tabletd.proofs.renew_root.Goals as goal

equal : (r : Ordering) → is_eq r ≡ true → r ≡ Equal
equal Less e = absurd (subst T (sym e) tt)
equal Equal e = refl
equal Greater e = absurd (subst T (sym e) tt)

itself : (e : Bool) (x y : Option (List ℕ)) → (e ≡ true → x ≡ y) → cond e x y ≡ y
itself true x y h = h refl
itself false x y h = refl

-- a file that is put with the bytes that it has
put_again : (m : Contents) (n : ℕ) (bytes : List ℕ) → get m n ≡ Some bytes → insert m n bytes ≡ m
put_again m n bytes has = same_map nat_cmp_total nat_cmp-IsAntisymmetric _ _ (λ q.
    get-insert nat_cmp_total m n bytes q
    ∙ itself (eq_by_cmp nat_cmp q n) (Some bytes) (get m q) (λ e. sym has ∙ ap (get m) (sym (nat_cmp-IsAntisymmetric q n (equal (nat_cmp q n) e)))))

again : (old : Option Contents) (n : ℕ) (bytes : List ℕ) → IfSome old (λ m. Some bytes ≡ get m n) → with_file n bytes old ≡ old
again None n bytes has = refl
again (Some m) n bytes has = ap Some (put_again m n bytes (sym has))

pub returns : goal.returns
returns g c =
    let old : Option Contents = g.F.Files.contents c.args.files.now in
    let has : IfSome old (λ m. Some c.in-Some.root.items ≡ get m 0) =
    subst (λ found. IfSome old (λ m. option_map (λ v. v.items) found ≡ get m 0)) c.in-Some.is c.in_ok-root.ensures.ok in
    record {
      same = c.in_ok-put.ensures.ok
          ∙ ap (λ bytes. with_file 0 bytes (g.F.Files.contents c.read_whole.new.files)) c.deref.ensures.value
          ∙ ap (with_file 0 c.in-Some.root.items) c.read_whole.ensures.same ∙ again old 0 c.in-Some.root.items has;
    }
