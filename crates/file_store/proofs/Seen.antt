-- The contents of files that are held as vectors.
use Rattle.std.proofs.Common.{◌≡◌, ℕ, List, [], ◌∷◌, ◌&&◌, map, refl, sym, ap, ◌∙◌, subst, cond, T, true, false, Bool}
use Rattle.std.specs.Global.{Vec}
use Rattle.std.specs.Prelude.{Option, Some, None, option_map}
use Rattle.std.specs.Ordering.{nat_cmp, is_lt, eq_by_cmp}
use Rattle.std.specs.Cmp.{nat_cmp_total, eq_by_cmp_equiv}
use Rattle.std.specs.Map.{lookup}
use Rattle.std.specs.BTreeMap.{is_at}
use Rattle.std.specs.List.Sorted.{IsStrictlySortedBy}
use Rattle.std.specs.List.{AllByRecursion}
use Rattle.std.specs.FinMap as finite
use Rattle.std.specs.FinMap.{get-from_entries, get-insert, get-remove, same_map, nat_cmp-IsAntisymmetric, from_sorted, entries-from_sorted, get-from_sorted, keys}
use Rattle.std.specs.FinMap.Entries.{find, is_sorted, below_all}
use Rattle.std.specs.declared.cmp.Ordering.TheVariants.{Less}
use Rattle.std.proofs.Common.{arith}
use Rattle.std.proofs.lemmas.Grind.{common_steps}
use Rattle.file_store.specs.Store.{part}
use Rattle.file_store.specs.View.{seen, contents_of}

-- the vector of a name
abbrev pub vec_at : List (ℕ × Vec ℕ) → ℕ → Option (Vec ℕ)
vec_at es q = lookup (is_at (nat_cmp q)) es

moved : (b : Bool) (v : Vec ℕ) (o : Option (Vec ℕ)) → cond b (Some v.items) (option_map (λ v. v.items) o) ≡ option_map (λ v. v.items) (cond b (Some v) o)
moved true v o = refl
moved false v o = refl

find-seen : (es : List (ℕ × Vec ℕ)) (q : ℕ) → find nat_cmp q (seen es) ≡ option_map (λ v. v.items) (vec_at es q)
find-seen [] q = refl
find-seen (e ∷ es) q = ap (cond (eq_by_cmp nat_cmp q e.0) (Some e.1.items)) (find-seen es q) ∙ moved (eq_by_cmp nat_cmp q e.0) e.1 (vec_at es q)

pub get-contents : (es : List (ℕ × Vec ℕ)) (q : ℕ) → finite.get (contents_of es) q ≡ option_map (λ v. v.items) (vec_at es q)
get-contents es q = get-from_entries nat_cmp_total (seen es) q ∙ find-seen es q

-- changing the vector of one name changes the contents at that name
pub one_put : (es fs : List (ℕ × Vec ℕ)) (name : ℕ) (v : Vec ℕ) → ((q : ℕ) → vec_at fs q ≡ cond (is_at (nat_cmp name) q) (Some v) (vec_at es q)) → contents_of fs ≡ finite.insert (contents_of es) name v.items
one_put es fs name v h = same_map nat_cmp_total nat_cmp-IsAntisymmetric _ _ (λ q.
    get-contents fs q ∙ ap (option_map (λ v. v.items)) (h q) ∙ sym (moved (is_at (nat_cmp name) q) v (vec_at es q))
    ∙ ap (λ b. cond b (Some v.items) (option_map (λ v. v.items) (vec_at es q))) ((eq_by_cmp_equiv nat_cmp_total).symm name q)
    ∙ sym (get-insert nat_cmp_total (contents_of es) name v.items q ∙ ap (cond (eq_by_cmp nat_cmp q name) (Some v.items)) (get-contents es q)))

gone : (b : Bool) (o : Option (Vec ℕ)) → option_map (λ v. v.items) (cond b None o) ≡ cond b None (option_map (λ v. v.items) o)
gone true o = refl
gone false o = refl

pub one_removed : (es fs : List (ℕ × Vec ℕ)) (name : ℕ) → ((q : ℕ) → vec_at fs q ≡ cond (is_at (nat_cmp name) q) None (vec_at es q)) → contents_of fs ≡ finite.remove (contents_of es) name
one_removed es fs name h = same_map nat_cmp_total nat_cmp-IsAntisymmetric _ _ (λ q.
    get-contents fs q ∙ ap (option_map (λ v. v.items)) (h q) ∙ gone (is_at (nat_cmp name) q) (vec_at es q)
    ∙ ap (λ b. cond b None (option_map (λ v. v.items) (vec_at es q))) ((eq_by_cmp_equiv nat_cmp_total).symm name q)
    ∙ sym (get-remove nat_cmp_total (contents_of es) name q ∙ ap (cond (eq_by_cmp nat_cmp q name) None) (get-contents es q)))

both : (a b : Bool) → T a → T b → T (a && b)
both true b p q = q
both false b p q = p

below-seen : (k : ℕ) (es : List (ℕ × Vec ℕ)) → AllByRecursion (λ y. nat_cmp k y ≡ Less) (map (λ e. e.0) es) → T (below_all nat_cmp k (seen es))
below-seen k [] h = tt
below-seen k (e ∷ es) h = both _ _ (subst (λ r. T (is_lt r)) (sym h.0) tt) (below-seen k es h.1)

is_sorted-seen : (es : List (ℕ × Vec ℕ)) → IsStrictlySortedBy nat_cmp (map (λ e. e.0) es) → T (is_sorted nat_cmp (seen es))
unfolding IsStrictlySortedBy
is_sorted-seen [] h = tt
is_sorted-seen (e ∷ es) h = both _ _ (below-seen e.0 es h.0) (is_sorted-seen es h.1)

names-seen : (es : List (ℕ × Vec ℕ)) → map (λ e. e.0) (seen es) ≡ map (λ e. e.0) es
names-seen [] = refl
names-seen (e ∷ es) = ap (λ ks. e.0 ∷ ks) (names-seen es)

-- vectors with names in ascending order are the map's entries in order
pub keys-contents : (es : List (ℕ × Vec ℕ)) → IsStrictlySortedBy nat_cmp (map (λ e. e.0) es) → keys (contents_of es) ≡ map (λ e. e.0) es
keys-contents es h =
    let s : T (is_sorted nat_cmp (seen es)) = is_sorted-seen es h in
    let same : contents_of es ≡ from_sorted (seen es) = same_map nat_cmp_total nat_cmp-IsAntisymmetric _ _ (λ q.
    get-from_entries nat_cmp_total (seen es) q ∙ sym (get-from_sorted nat_cmp (seen es) q s)) in
    ap keys same ∙ ap (map (λ e. e.0)) (entries-from_sorted nat_cmp (seen es) s) ∙ names-seen es

-- a look-up among the vectors is a look-up in the contents
pub found : (es : List (ℕ × Vec ℕ)) (m : finite.FinMap nat_cmp (List ℕ)) (name : ℕ) (o : Option (Vec ℕ)) → contents_of es ≡ m → o ≡ vec_at es name → finite.get m name ≡ option_map (λ v. v.items) o
found es m name o view is = ap (λ m. finite.get m name) (sym view) ∙ get-contents es name ∙ ap (option_map (λ v. v.items)) (sym is)

-- nothing is read from empty bytes
pub part-nil : (offset n : ℕ) → part [] offset n ≡ []
part-nil offset n = grind (arith, common_steps)
