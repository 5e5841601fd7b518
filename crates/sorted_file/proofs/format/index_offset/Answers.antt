use Rattle.std.proofs.Common.{◌<◌, ◌-◌, ◌⊎◌, inl, inr, arith}
use Rattle.sorted_file.specs.Grammar.{foot_len}
use Rattle.sorted_file.proofs.Framing.{no_place}
use Rattle.sorted_file.proofs.format.index_offset.Goals.{then-at-lt-HEAD-via-then-at-lt-HEAD, then-at-lt-HEAD-via-else-at-lt-HEAD+then-at-size}
use Rattle.sorted_file.proofs.format.index_offset.Goals as goal

pub returns-then-at-lt-HEAD-clause-none : goal.returns-then-at-lt-HEAD-clause-none
returns-then-at-lt-HEAD-clause-none c = λ image e h d.
    let out : (c.in_ok-at.at < 8) ⊎ (c.args.size - foot_len c.args.format < c.in_ok-at.at) = elim c.then-at-lt-HEAD.branch [
      | then-at-lt-HEAD-via-then-at-lt-HEAD w ↦ inl w.if-at-lt-HEAD.true
      | then-at-lt-HEAD-via-else-at-lt-HEAD+then-at-size w ↦ inr (omega (arith, w.if-at-size.true, w.foot_len.ensures))
    ] in
    no_place c.args.format image c.args.foot.now c.in_ok-at.field-0-1.now c.in_ok-at.at c.args.size c.in_ok-at.ensures.fits e h d c.in_ok-at.ensures.found out c.requires.size
