use Rattle.std.proofs.Common.{◌≡◌, ◌≤◌, ◌<◌, ◌+◌, ◌-◌, ℕ, arith}
use Rattle.tablet.proofs.RunFiles.{one_gone, one_put}
use Rattle.tablet.proofs.open_files.put_run.Goals as goal

first_within : (at count len all : ℕ) → all ≡ len → at + count ≤ all → at ≤ len
first_within at count len all is within = omega arith

last_one : (n i : ℕ) → 1 ≤ n → i ≤ n - 1 → n - 1 ≤ i → n ≡ i + 1
last_one n i some up down = omega arith

one_within : (at i n len all : ℕ) → all ≡ len → n ≡ i + 1 → at + n ≤ all → at + i < len
one_within at i n len all is next within = omega arith

more_within : (at len i n all : ℕ) → len + i ≡ all → i < n - 1 → at + n ≤ all → at < len
more_within at len i n all sum below within = omega arith

one_within_all : (at len i n all : ℕ) → len + i ≡ all → n ≡ i + 1 → at + n ≤ all → at < len
one_within_all at len i n all sum next within = omega arith

pub run-preserved : goal.run-preserved
run-preserved c = record {
  items = one_gone c.args.at c.run.counter c.args.files.now.items _ _ (first_within _ c.args.count _ _ c.args.files.now.ok.0 c.requires.within) c.run.invariant.items c.remove.ensures.items;
  len = (let a = c.remove.ensures.len in let b = c.run.invariant.len in omega arith);
}

pub remove-requires : goal.remove-requires
remove-requires c = more_within _ _ _ _ _ c.run.invariant.len c.run-test.true c.requires.within

pub index_mut-requires : goal.index_mut-requires
index_mut-requires c = one_within_all _ _ _ _ _ c.run.invariant.len (last_one _ _ c.requires.some c.run.auto.counter-end c.run-test.false) c.requires.within

pub returns : goal.returns
returns c =
    let next = last_one _ _ c.requires.some c.run.auto.counter-end c.run-test.false in
    one_put c.args.at c.run.counter c.args.count c.args.files.now.items c.run.files.items c.args.file (one_within _ _ _ _ _ c.args.files.now.ok.0 next c.requires.within) next c.run.invariant.items
