use Rattle.std.proofs.Common.{List, map, take, sym, ap, subst, ◌∙◌}
use Rattle.std.proofs.lemmas.List.{take-map}
use Rattle.std.specs.List.{AllByRecursion}
use Rattle.sorted_file.specs.declared.file.SortedFile.{SortedFile}
use Rattle.tablet.specs.Sources.{IsOpenIn, listed_in}
use Rattle.tablet.specs.Views.{files_of, memory_of}
use Rattle.tablet.specs.Compactions.{ReadsOpen, files_read, inputs_of, memory_read}
use Rattle.tablet.proofs.tablet.Tablet.inputs.Goals as goal

pub returns-in-Minor-clause-lists : goal.returns-in-Minor-clause-lists
returns-in-Minor-clause-lists c = λ m. ap (λ (k : _). inputs_of k (memory_of c.args.self.now) (map (listed_in m) (files_of c.args.self.now))) (sym c.in-Minor.is)

pub returns-in-Merge-clause-lists : goal.returns-in-Merge-clause-lists
returns-in-Merge-clause-lists c = λ m.
    ap (λ (fs : _). map (listed_in m) (take c.in-Merge.count fs)) c.as_slice.ensures
    ∙ sym (take-map (listed_in m) c.in-Merge.count (files_of c.args.self.now))
    ∙ ap (λ (k : _). inputs_of k (memory_of c.args.self.now) (map (listed_in m) (files_of c.args.self.now))) (sym c.in-Merge.is)

pub returns-in-Minor-clause-open : goal.returns-in-Minor-clause-open
returns-in-Minor-clause-open c = λ told reads. tt

pub returns-in-Merge-clause-open : goal.returns-in-Merge-clause-open
returns-in-Merge-clause-open c = λ told reads.
    (subst (λ (fs : List SortedFile). AllByRecursion (IsOpenIn told) (take c.in-Merge.count fs)) (sym c.as_slice.ensures) (subst (λ (k : _). ReadsOpen k told c.args.self.now) c.in-Merge.is reads))

pub returns-in-Major-clause-open : goal.returns-in-Major-clause-open
returns-in-Major-clause-open c = λ told reads.
    subst (λ (fs : List SortedFile). AllByRecursion (IsOpenIn told) fs) (sym c.as_slice-in-Major.ensures) (subst (λ (k : _). ReadsOpen k told c.args.self.now) c.in-Major.is reads)

pub returns-in-Minor-clause-files : goal.returns-in-Minor-clause-files
returns-in-Minor-clause-files c = ap (λ (k : _). files_read k (files_of c.args.self.now)) (sym c.in-Minor.is)

pub returns-in-Merge-clause-files : goal.returns-in-Merge-clause-files
returns-in-Merge-clause-files c = ap (take c.in-Merge.count) c.as_slice.ensures ∙ ap (λ (k : _). files_read k (files_of c.args.self.now)) (sym c.in-Merge.is)

pub returns-in-Major-clause-files : goal.returns-in-Major-clause-files
returns-in-Major-clause-files c = c.as_slice-in-Major.ensures ∙ ap (λ (k : _). files_read k (files_of c.args.self.now)) (sym c.in-Major.is)

pub returns-in-Minor-clause-memory : goal.returns-in-Minor-clause-memory
returns-in-Minor-clause-memory c = ap (λ (k : _). memory_read k (memory_of c.args.self.now)) (sym c.in-Minor.is)

pub returns-in-Merge-clause-memory : goal.returns-in-Merge-clause-memory
returns-in-Merge-clause-memory c = ap (λ (k : _). memory_read k (memory_of c.args.self.now)) (sym c.in-Merge.is)

pub returns-in-Major-clause-memory : goal.returns-in-Major-clause-memory
returns-in-Major-clause-memory c = ap (λ (k : _). memory_read k (memory_of c.args.self.now)) (sym c.in-Major.is)
