use Rattle.std.proofs.Common.{◌≡◌, ℕ, ◌+◌, ◌-◌, ◌<◌, ◌≤◌, List, [], ◌∷◌, drop, length, refl, sym, ap, ◌∙◌, arith}
use Rattle.std.proofs.lemmas.List.{drop-drop}
use Rattle.std.proofs.Math.ListN.{set}
use Rattle.std.specs.List.{remove}
use Rattle.tablet.proofs.open_files.replace_newest.Goals as goal

one_fewer : {A : Type 0} (new old all : List A) (i : ℕ) → new ≡ remove old 0 → old ≡ drop i all → new ≡ drop (i + 1) all
one_fewer new old all i e f = e ∙ ap (λ xs. remove xs 0) f ∙ drop-drop 1 i all

first_set : {A : Type 0} (xs : List A) (x : A) → 0 < length xs → set xs 0 x ≡ x ∷ drop 1 xs
first_set [] x some = absurd (omega arith)
first_set (y ∷ ys) x some = refl

placed : {A : Type 0} (xs all : List A) (x : A) (i n : ℕ) → 0 < length xs → xs ≡ drop i all → n ≡ i + 1 → set xs 0 x ≡ x ∷ drop n all
placed xs all x i n some is next = first_set xs x some ∙ ap (λ ys. x ∷ ys) (ap (drop 1) is ∙ drop-drop 1 i all ∙ ap (λ k. drop k all) (sym next))

last_one : (n i : ℕ) → 1 ≤ n → i ≤ n - 1 → n - 1 ≤ i → n ≡ i + 1
last_one n i some up down = omega arith

one_left : (len items i n all : ℕ) → len ≡ items → len + i ≡ all → n ≡ i + 1 → n ≤ all → 0 < items
one_left len items i n all is sum next within = omega arith

more_left : (len i n all : ℕ) → len + i ≡ all → i < n - 1 → n ≤ all → 0 < len
more_left len i n all sum below within = omega arith

pub newest-preserved : goal.newest-preserved
newest-preserved c = record {
  items = one_fewer _ _ _ c.newest.counter c.remove.ensures.items c.newest.invariant.items;
  len = (let a = c.remove.ensures.len in let b = c.newest.invariant.len in omega arith);
}

pub remove-requires : goal.remove-requires
remove-requires c = more_left _ _ _ _ c.newest.invariant.len c.newest-test.true c.requires.within

pub returns : goal.returns
returns c =
    let next = last_one _ _ c.requires.some c.newest.auto.counter-end c.newest-test.false in
    placed _ _ c.args.file c.newest.counter c.args.count (one_left _ _ _ _ _ c.newest.files.ok.0 c.newest.invariant.len next c.requires.within) c.newest.invariant.items next
