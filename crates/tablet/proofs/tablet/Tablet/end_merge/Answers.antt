use Rattle.std.proofs.Common.{◌≡◌, ◌≤◌, ◌+◌, ◌++◌, ◌∷◌, ◌∙◌, ℕ, take, drop, length, refl, sym, subst, ap, arith}
use Rattle.sorted_file.specs.PartialFiles.{target_of}
use Rattle.tablet.specs.RunMerges.{sources_of, written_to}
use Rattle.tablet.specs.Views.{files_of, range_of}
use Rattle.tablet.proofs.RunEnds.{ended_cells, none_changed, put_in, put_names, unchanged_cells}
use Rattle.tablet.proofs.RunSteps.{run_within}
use Rattle.tablet.proofs.tablet.Tablet.end_merge.Goals as goal

pub replace_run-requires-clause-some : goal.replace_run-requires-clause-some
replace_run-requires-clause-some g c = omega (arith, c.in-Some.ensures.some, c.len.ensures, c.args.merge.names.ok.0)

pub replace_run-requires-clause-within : goal.replace_run-requires-clause-within
replace_run-requires-clause-within g c = omega (arith, run_within (files_of c.args.self.now) (sources_of c.args.merge) c.in-Some.at c.in-Some.ensures.run, c.len.ensures, c.args.merge.names.ok.0)

pub returns-clause-made : goal.returns-clause-made
returns-clause-made g c =
    let files = files_of c.args.self.now in
    let merge = c.args.merge in
    let at = c.in-Some.at in
    let file = c.in_ok-made.made in
    let put = c.in_ok-replace_run.ensures.ok ∙ ap (λ (n : ℕ). take at files ++ file ∷ drop (at + n) files) (c.len.ensures ∙ merge.names.ok.0) in
    record {
      at = at;
      stands = c.in-Some.ensures;
      file = file;
      files = put;
      names = put_names files at (at + length (sources_of merge)) (target_of (written_to merge)) file c.replace_run.new.self put c.in_ok-made.ensures.named;
      memory = refl;
      put = put_in c.one_listing.ensures (g.F.Files.contents c.args.files.now) (g.F.Files.contents c.finish_file.new.files) merge (range_of c.args.self.now) files at file c.in-Some.ensures.run c.requires.kept (λ whole has. c.in_ok-made.ensures.made whole has) (λ whole has. c.in_ok-made.ensures.fits whole has);
    }

pub returns-clause-keeps : goal.returns-clause-keeps
returns-clause-keeps g c =
    let files = files_of c.args.self.now in
    let merge = c.args.merge in
    let at = c.in-Some.at in
    let file = c.in_ok-made.made in
    let put = c.in_ok-replace_run.ensures.ok ∙ ap (λ (n : ℕ). take at files ++ file ∷ drop (at + n) files) (c.len.ensures ∙ merge.names.ok.0) in
    ended_cells c.stays_open.ensures c.names_first.ensures (g.F.Files.contents c.args.files.now) (g.F.Files.contents c.finish_file.new.files) merge c.args.self.now (record c.args.self.now { files = c.replace_run.new.self })
    (record {
      at = at;
      stands = c.in-Some.ensures;
      file = file;
      files = put;
      names = put_names files at (at + length (sources_of merge)) (target_of (written_to merge)) file c.replace_run.new.self put c.in_ok-made.ensures.named;
      memory = refl;
      put = put_in c.one_listing.ensures (g.F.Files.contents c.args.files.now) (g.F.Files.contents c.finish_file.new.files) merge (range_of c.args.self.now) files at file c.in-Some.ensures.run c.requires.kept (λ whole has. c.in_ok-made.ensures.made whole has) (λ whole has. c.in_ok-made.ensures.fits whole has);
    })
    refl c.in_ok-made.ensures.others

pub returns-in_err-made-clause-keeps : goal.returns-in_err-made-clause-keeps
returns-in_err-made-clause-keeps g c =
    unchanged_cells c.stays_open.ensures (g.F.Files.contents c.args.files.now) (g.F.Files.contents c.finish_file.new.files) c.args.merge c.args.self.now c.args.self.now
    (record { range = refl; memory = refl; files = refl }) c.in_err-made.ensures.others

pub returns-in_err-replace_run-clause-keeps : goal.returns-in_err-replace_run-clause-keeps
returns-in_err-replace_run-clause-keeps g c =
    unchanged_cells c.stays_open.ensures (g.F.Files.contents c.args.files.now) (g.F.Files.contents c.finish_file.new.files) c.args.merge c.args.self.now (record c.args.self.now { files = c.replace_run.new.self })
    (record { range = refl; memory = refl; files = c.in_err-replace_run.ensures.err }) c.in_ok-made.ensures.others
