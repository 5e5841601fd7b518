use Rattle.std.proofs.Common.{inl, inr, refl, arith}
use Rattle.metadata_table.specs.Places.{view_of}
use Rattle.metadata_table.proofs.Splits.{holder_end, end_holder}
use Rattle.metadata_table.proofs.table.MetadataTable.check_split.Goals as goal
use Rattle.metadata_table.proofs.table.MetadataTable.check_split.Goals.{then-len-ge-MOST_TABLETS-via-then-len-ge-MOST_TABLETS, then-len-ge-MOST_TABLETS-via-else-len-ge-MOST_TABLETS+then-ends_with}

pub returns-then-len-ge-MOST_TABLETS : goal.returns-then-len-ge-MOST_TABLETS
returns-then-len-ge-MOST_TABLETS c = elim c.then-len-ge-MOST_TABLETS.branch [
  | then-len-ge-MOST_TABLETS-via-then-len-ge-MOST_TABLETS w ↦ record { split = (refl, inr (omega arith)) }
  | then-len-ge-MOST_TABLETS-via-else-len-ge-MOST_TABLETS+then-ends_with w ↦
      record { split = (refl, inl (holder_end c.args.row.now c.args.self.now (view_of w.locate.result.now) w.locate.ensures.holder (w.ends_with.ensures.0 w.if-ends_with.true))) }
]

pub returns : goal.returns
returns c = record {
  split = λ bars. elim bars [
    | inl e ↦ (let t = c.ends_with.ensures.1 (end_holder c.args.row.now c.args.self.now (view_of c.locate.result.now) c.locate.ensures.table.rising c.locate.ensures.holder e) in let f = c.if-ends_with.false in cc)
    | inr full ↦ omega (arith, full)
  ];
}
