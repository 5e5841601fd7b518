use Rattle.std.proofs.Common.{◌-◌, length, sym, arith, true≢false}
use Rattle.std.proofs.lemmas.Bool.{lt-ltb, ltb-true}
use Rattle.std.proofs.lemmas.Option.{slice_get_within}
use Rattle.audit.proofs.Versions.{after_written, member_of_get, never_written, no_last, written_after}
use Rattle.audit.proofs.audit.snapshots.ends_after.Goals as goal

pub returns-in-Some : goal.returns-in-Some
returns-in-Some c = λ commits x h.
    let vs = c.args.versions.now in
    let v = c.in-Some.version.now in
    let at = sym c.in-Some.ensures.value in
    let low = slice_get_within vs (length vs - 1) v at in (
      λ t. after_written commits x vs h v c.args.start (member_of_get vs (length vs - 1) v at) (ltb-true c.args.start v.stamp t),
      λ w. lt-ltb c.args.start v.stamp (written_after commits x vs h (length vs - 1) v c.args.start (omega (arith, low)) at w),
    )

pub returns-in-None : goal.returns-in-None
returns-in-None c = λ commits x h. (
  λ t. absurd (true≢false (sym t)),
  λ w. absurd (never_written commits x c.args.versions.now h c.args.start (no_last c.args.versions.now (sym c.in-None.ensures.value)) w),
)
