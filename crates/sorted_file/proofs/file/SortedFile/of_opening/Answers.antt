use Rattle.sorted_file.proofs.Growth.{opening_measured}
use Rattle.sorted_file.proofs.Keeping.{none_kept}
use Rattle.sorted_file.proofs.Locked.{keyed_on}
use Rattle.sorted_file.proofs.Numbered.{numbered_on}
use Rattle.sorted_file.proofs.file.SortedFile.of_opening.Goals as goal

pub returns-clause-opened : goal.returns-clause-opened
returns-clause-opened c = λ m w.
    let o = c.requires in
    record {
      list = o.list;
      bounds = o.columns.bounded;
      bounded = o.bounded;
      numbered = numbered_on _ _ c.in_ok-numbers.ensures.keeps _ o.columns.numbered;
      keyed = keyed_on _ _ c.in_ok-lock_keys.ensures.keeps _ o.columns.keyed;
      locks_kept = o.columns.locks_kept;
      lasts = o.lasts;
      counted = o.counted;
      measured = opening_measured _ o;
      format = _;
      image = w.image;
      there = w.there;
      form = w.form;
      rows = o.rows_are;
      blocks = w.blocks;
      cached = none_kept _ _ c.in_ok-cache.ensures.none;
    }
