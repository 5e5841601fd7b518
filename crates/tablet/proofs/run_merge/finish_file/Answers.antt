use Rattle.std.proofs.Common.{◌≡◌, ◌∙◌, None, List, inl, inr, sym, subst}
use Rattle.std.specs.Prelude.{IsSomeAnd, Option}
use Rattle.file_store.specs.Store.{Contents}
use Rattle.sorted_file.specs.PartialFiles.{keeps_erasures, limit_of, target_of}
use Rattle.sorted_file.specs.Written.{only_written}
use Rattle.tablet.specs.Compactions.{IsNewFile}
use Rattle.tablet.proofs.MadeTablets.{reads_none}
use Rattle.tablet.proofs.Passed.{passed_err, passed_none, passed_on, passed_reason, reason_of_ok}
use Rattle.tablet.proofs.WrittenFiles.{made_as_written, others_kept}
use Rattle.tablet.proofs.run_merge.finish_file.Goals as goal

pub returns-clause-named : goal.returns-clause-named
returns-clause-named g c = (c.resize_cache.ensures.stays None).name ∙ c.in_ok-made.ensures.named

pub returns-clause-made : goal.returns-clause-made
returns-clause-made g c = λ whole has.
    let told = g.F.Files.contents c.args.files.now in
    let now = g.F.Files.contents c.finish.new.files in
    let w = c.in_ok-made.ensures.written in
    let es = only_written (keeps_erasures c.args.file) whole in
    reads_none told (λ m. IsSomeAnd now (λ n. IsNewFile n c.resize_cache.new.self es))
    (made_as_written c.written_is_listed.ensures told now (target_of c.args.file) (limit_of c.args.file) (λ (o : Option Contents). Unit {0}) (λ (o : Option Contents). es) c.in_ok-made.made c.resize_cache.new.self
    (w.0, (w.1.0, w.1.1, λ start. w.1.2 whole has)) c.in_ok-made.ensures.opened c.in_ok-made.ensures.named c.resize_cache.ensures.stays)

pub returns-clause-fits : goal.returns-clause-fits
returns-clause-fits g c = λ whole has. record { image = c.in_ok-made.ensures.written.0; form = c.in_ok-made.ensures.written.1.2 whole has; within = c.in_ok-made.ensures.written.1.1 }

pub returns-clause-others : goal.returns-clause-others
returns-clause-others g c = others_kept (g.F.Files.contents c.args.files.now) (g.F.Files.contents c.finish.new.files) (target_of c.args.file) c.in_ok-made.ensures.written.0 c.in_ok-made.ensures.written.1.0
