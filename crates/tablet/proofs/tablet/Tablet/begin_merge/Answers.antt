use Rattle.std.proofs.Common.{◌≡◌, ◌≤◌, ◌∙◌, ◌++◌, ℕ, List, map, take, drop, length, sym, ap, arith}
use Rattle.std.proofs.lemmas.List.{take-append-drop, take-map}
use Rattle.sorted_file.specs.File.{name_of}
use Rattle.sorted_file.specs.declared.file.SortedFile.{SortedFile}
use Rattle.tablet.specs.RunMerges.{IsRunAt, run_at, shown_of}
use Rattle.tablet.specs.Views.{files_of, range_of}
use Rattle.tablet.proofs.tablet.Tablet.begin_merge.Goals as goal

none_below : (n : ℕ) → 0 ≤ n
none_below n = omega arith

begins : (files : List SortedFile) (names : List ℕ) (count : ℕ) → names ≡ take count (map name_of files) → IsRunAt files names 0
begins files names count is = record {
  within = none_below (length files);
  named = (drop count (map name_of files), sym (take-append-drop count (map name_of files)) ∙ ap (λ (l : List ℕ). l ++ drop count (map name_of files)) (sym is));
}

pub returns-clause-sources : goal.returns-clause-sources
returns-clause-sources g c =
    c.in_ok-names.ensures.names
    ∙ ap (λ (fs : List SortedFile). map name_of (take c.args.count fs)) c.as_slice.ensures
    ∙ sym (take-map name_of c.args.count (files_of c.args.self.now))

pub returns-clause-begun : goal.returns-clause-begun
returns-clause-begun g c = λ m.
    let names = c.in_ok-names.names.items in
    let files = files_of c.args.self.now in
    record {
      at = 0;
      run = begins files names c.args.count
          (c.in_ok-names.ensures.names
          ∙ ap (λ (fs : List SortedFile). map name_of (take c.args.count fs)) c.as_slice.ensures
          ∙ sym (take-map name_of c.args.count files));
      under_way = c.in_ok-file.ensures.begun (shown_of (range_of c.args.self.now) m (run_at files names 0));
    }
