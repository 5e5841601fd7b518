-- The tablet at an index is found, or nothing is due for it, or another one was found before.
use Rattle.std.proofs.Common.{◌≡◌, Bool, true, false, ◌<◌, ◌≤◌, ℕ, length, arith, sym, ◌∙◌, subst}
use Rattle.std.proofs.lemmas.List.{length-map}
use Rattle.std.proofs.lemmas.Option.{same_Some}
use Rattle.tablet.specs.MergePolicies.{IsMergeCount}
use Rattle.row_atomic.specs.Changes.{Numbered}
use Rattle.row_atomic.specs.Flushes.{numbers_of}
use Rattle.row_atomic.proofs.MergeSteps.{none_due, none_left, none_yet}
use Rattle.row_atomic.proofs.cluster.Cluster.next_to_merge.Goals as goal
use Rattle.row_atomic.proofs.cluster.Cluster.next_to_merge.Goals.{then-count-gt0+then-comes_first, else-count-gt0, else-count-gt0-via-then-count-gt0+else-comes_first, else-count-gt0-via-else-count-gt0}

not_both : {n : ℕ} (b : Bool) → b ≡ true → b ≡ false → n ≡ 0
not_both b one other = cc

pub loop-index-init : goal.loop-index-init
loop-index-init g c = record {
  as_many = rw (← c.self.view_is) c.len-index-end.ensures.len;
  found = tt;
  none = λ k tablet below e. absurd (omega (arith, below));
}

pub loop-index-preserved : goal.loop-index-preserved
loop-index-preserved g c =
    let places = c.args.self.now.places in
    let ts = c.args.self.now.tablets in
    let policy = c.args.policy in
    let before = c.loop-index.invariant in
    let less : c.loop-index.index < length places = let as_many = before.as_many in let test = c.loop-index-test.true in omega (arith, as_many, test) in
    elim c.if-count-gt0.branch [
      | then-count-gt0+then-comes_first w ↦ rw w.next-is (record {
        as_many = before.as_many;
        found = record {
          within = less;
          some = (let more = w.if-count-gt0.true in omega (arith, more));
          due = λ tablet e. subst (λ (n : ℕ). Numbered (λ t. IsMergeCount policy t c.merge_count-count.result) n ts) (same_Some c.number_at.result tablet (sym c.number_at.ensures.at ∙ e)) c.merge_count-count.ensures;
        };
        none = tt;
      })
      | else-count-gt0 w ↦ rw w.next-is (record {
        as_many = before.as_many;
        found = before.found;
        none = none_yet (λ n. Numbered (λ t. IsMergeCount policy t 0) n ts) (numbers_of places) c.loop-index.next c.loop-index.index c.number_at.result c.number_at.ensures.at (none_due c.loop-index.next c.merge_count-count.result (λ k. Numbered (λ t. IsMergeCount policy t k) c.number_at.result ts) c.merge_count-count.ensures (elim w.else-count-gt0.branch [
          | else-count-gt0-via-then-count-gt0+else-comes_first v ↦ (λ none. not_both v.comes_first.result (v.comes_first.ensures none) v.if-comes_first.false)
          | else-count-gt0-via-else-count-gt0 v ↦ (λ none. omega (arith, v.if-count-gt0.false))
        ])) before.none;
      })
    ]

pub returns-clause-found : goal.returns-clause-found
returns-clause-found g c = c.loop-index.invariant.found

pub returns-clause-none : goal.returns-clause-none
returns-clause-none g c =
    let past : length (numbers_of c.args.self.now.places) ≤ c.loop-index.index =
    let as_many = c.loop-index.invariant.as_many in let test = c.loop-index-test.false in let same = length-map c.args.self.now.places (λ p. p.tablet) in omega (arith, as_many, test, same) in
    none_left (λ n. Numbered (λ t. IsMergeCount c.args.policy t 0) n c.args.self.now.tablets) (numbers_of c.args.self.now.places) c.loop-index.next c.loop-index.index past c.loop-index.invariant.none
