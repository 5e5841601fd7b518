use Rattle.std.proofs.Common.{sym, ◌∙◌}
use Rattle.std.proofs.lemmas.List.{length-map}
use Rattle.sorted_file.specs.File.{name_of}
use Rattle.tablet.specs.Views.{files_of}
use Rattle.tablet.proofs.tablet.Tablet.file_count.Goals as goal

pub returns : goal.returns
returns c = c.len.ensures ∙ sym (length-map (files_of c.args.self.now) name_of)
