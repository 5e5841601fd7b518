-- The file at the index is small or not.
use Rattle.std.proofs.Common.{◌∙◌, Some, ap, arith, map, option_map, sym}
use Rattle.std.proofs.lemmas.List.{length-map}
use Rattle.std.proofs.lemmas.Option.{slice_get-get_or, slice_get-map}
use Rattle.sorted_file.specs.File.{count_of}
use Rattle.tablet.proofs.Levels.{at_end, next_large, next_small, sum_next}
use Rattle.tablet.proofs.merge_policy.count_of_small.Goals as goal
use Rattle.tablet.proofs.merge_policy.count_of_small.Goals.{then-is_small, else-is_small}

pub loop-index-preserved : goal.loop-index-preserved
loop-index-preserved c = record {
  end = c.loop-index.invariant.end;
  newer = (let next = sum_next (map count_of c.args.files.now) c.loop-index.index (count_of c.index-files-index.result)
      (slice_get-map count_of c.args.files.now c.loop-index.index ∙ ap (option_map count_of) (slice_get-get_or c.args.files.now c.loop-index.index c.index-files-index.result c.loop-index-test.true ∙ ap Some (sym c.index-files-index.is))) in
      let newer = c.loop-index.invariant.newer in
      let added = c.saturating_add-newer.ensures in
      let size = c.len.ensures.count in
      omega (arith, next, newer, added, size));
  counts = elim c.if-is_small.branch [
    | then-is_small w ↦ rw w.count-is (next_small (map count_of c.args.files.now) c.loop-index.index (c.is_small.ensures.0 w.if-is_small.true))
    | else-is_small w ↦ rw w.count-is (next_large (map count_of c.args.files.now) c.loop-index.index c.loop-index.count
        (λ small. let is = c.is_small.ensures.1 small in let isnt = w.if-is_small.false in cc) c.loop-index.invariant.counts)
  ];
}

pub returns : goal.returns
returns c = at_end (map count_of c.args.files.now) c.loop-index.index c.loop-index.count
    (let same = length-map c.args.files.now count_of in let past = c.loop-index-test.false in omega (arith, same, past)) c.loop-index.invariant.counts
