use Rattle.std.proofs.Common.{◌≡◌, ◌++◌, ◌∷◌, [], ℕ, List, length, refl, sym, ap, subst, ◌∙◌, arith, length-append}
use Rattle.std.specs.List.{AllByRecursion}
use Rattle.cell_key.specs.Entries.{Entry}
use Rattle.sorted_file.specs.Index.{entries_in, block_of, blocks_of, IsBoundedRow, IsFirstText, IsLastRow}
use Rattle.sorted_file.specs.Block.{entries_of, IsLastText}
use Rattle.sorted_file.specs.Bounds.{IsBounded}
use Rattle.sorted_file.specs.Columns.{AreColumnsOf}
use Rattle.sorted_file.specs.declared.block.BlockRow.{BlockRow}
use Rattle.sorted_file.proofs.Joining.{all_joined, last_fits, map_joined}
use Rattle.sorted_file.proofs.NextBlocks.{is_added}
use Rattle.sorted_file.proofs.Spelling.{body-whole}
use Rattle.sorted_file.proofs.WholeFiles.{few_entries}
use Rattle.sorted_file.proofs.check.Opening.add.Goals as goal

pub overflow_add-self : goal.overflow_add-self
overflow_add-self c =
    let o = c.requires.opening in
    let few = few_entries (entries_of c.args.next.block) in
    let many = c.len.ensures (entries_of c.args.next.block) c.requires.parsed in
    let size = ap length c.requires.parsed.bytes in
    let within = c.requires.within in
    let small = o.small in
    let counted = o.counted in
    let reached = o.reached in
    let before = few_entries (entries_in (blocks_of c.args.self.now.rows.items)) in
    let whole = ap length (body-whole (blocks_of c.args.self.now.rows.items)) in
    omega (arith, few, many, size, within, small, counted, reached, before, whole)

pub returns-clause-opening : goal.returns-clause-opening
returns-clause-opening c =
    let o = c.requires.opening in
    let block = c.args.next.block in
    let es = entries_of block in
    let all = entries_in (blocks_of c.args.self.now.rows.items) in
    let was = ap entries_of c.of-was.ensures in
    let added = is_added c.args.self.now.rows.items c.push.new.self.items _ es c.args.self.now.end o.rows_are o.grammar o.list o.reached c.requires.followed
    c.requires.rising c.requires.parsed.list c.requires.fits c.in_ok-push.ensures.items was refl (c.len-length.ensures ∙ block.bytes.ok.0 ∙ ap length c.requires.parsed.bytes)
    (subst (λ (b : List ℕ). IsFirstText b es) (sym c.in_ok-first.ensures.items) (c.first_text.ensures es c.requires.parsed)) in
    let columns = c.in_ok-join.ensures.joined all es o.columns c.requires.columns in
    let many = c.len.ensures es c.requires.parsed in
    let counted = o.counted in
    let total = ap length added.whole ∙ length-append all es in
    record {
      rows_are = added.rows_are;
      grammar = added.grammar;
      list = added.list;
      lasts = subst (λ (l : List BlockRow). AllByRecursion IsLastRow l) (sym c.in_ok-push.ensures.items)
          (all_joined IsLastRow c.args.self.now.rows.items (_ ∷ []) o.lasts
          (subst (λ (l : List Entry). IsLastText l c.in_ok-row_last.row_last.items) (sym was) (subst (IsLastText es) (sym c.in_ok-row_last.ensures.items) (c.last_text-2.ensures es c.requires.parsed)), tt));
      bounded = subst (λ (l : List BlockRow). AllByRecursion IsBoundedRow l) (sym c.in_ok-push.ensures.items)
          (all_joined IsBoundedRow c.args.self.now.rows.items (_ ∷ []) o.bounded (subst (λ (l : List Entry). AllByRecursion (IsBounded c.args.next.columns.bounds) l) (sym was) c.requires.columns.bounded, tt));
      columns = subst (AreColumnsOf c.join.new.self) (sym added.whole) columns;
      counted = omega (arith, many, counted, total);
      last = subst (λ (l : List Entry). IsLastText l c.in_ok-last.last.items) (sym added.whole)
          (last_fits all es c.in_ok-last.last.items c.requires.fits (subst (IsLastText es) (sym c.in_ok-last.ensures.items) (c.last_text.ensures es c.requires.parsed)));
      reached = added.reached;
      within = let within = c.requires.within in omega (arith, within, c.len-length.ensures, block.bytes.ok.0);
      small = o.small;
    }

pub returns-clause-rows : goal.returns-clause-rows
returns-clause-rows c =
    ap blocks_of c.in_ok-push.ensures.items ∙ map_joined block_of c.args.self.now.rows.items _ ∙ ap (λ (b : List Entry). blocks_of c.args.self.now.rows.items ++ b ∷ []) (ap entries_of c.of-was.ensures)
