use Rattle.std.proofs.Common.{◌≡◌, ◌∙◌, Option, ap, sym, subst}
use Rattle.std.specs.Prelude.{option_copied, option_map}
use Rattle.cell_key.specs.Places.{Place, place_named}
use Rattle.rows.specs.Calls.{AreReadableFrom}
use Rattle.si_model.specs.Scans.{place_at}
use Rattle.rows.specs.Batches.{AreNextVersions}
use Rattle.txn_client.specs.Gathering.{last_of}
use Rattle.txn_client.proofs.scan.Gathered.next_versions.Goals as goal
use Rattle.txn_client.proofs.scan.Gathered.next_versions.Goals.{in-Some, in-None}

pub returns-clause-found : goal.returns-clause-found
returns-clause-found g c = λ held.
    let cells = g.R.Rows.seen.cells c.args.rows.now in
    let same : option_map place_named c.match-last.after ≡ option_map place_at (last_of c.args.self.now) = elim c.match-last.branch [
      | in-Some w ↦ ap (option_map place_named) w.after-is ∙ ap (option_map place_at) (sym (ap option_copied w.in-Some.is) ∙ c.last.ensures)
      | in-None w ↦ ap (option_map place_named) w.after-is ∙ ap (option_map place_at) (sym (ap option_copied w.in-None.is) ∙ c.last.ensures)
    ] in
    c.last_if_fewer.ensures.next cells (option_map place_at (last_of c.args.self.now)) c.args.start
    (subst (λ (o : Option Place). AreReadableFrom g.R.Rows.seen c.args.rows.now o → AreNextVersions cells o c.args.start c.in_ok-batch.batch) same c.in_ok-batch.ensures.found held)
