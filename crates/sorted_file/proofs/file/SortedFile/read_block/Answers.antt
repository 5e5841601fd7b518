use Rattle.std.proofs.Common.{◌≡◌, List, ℕ, Option, true, false, refl, sym, ap, length, subst, ◌∙◌, arith}
use Rattle.cell_key.specs.Entries.{Entry}
use Rattle.file_store.specs.Store.{Contents}
use Rattle.sorted_file.specs.Index.{Tells}
use Rattle.sorted_file.specs.File.{name_of, IsReadNow}
use Rattle.sorted_file.specs.Block.{BeginsWith}
use Rattle.sorted_file.specs.declared.block.BlockRow.{BlockRow}
use Rattle.sorted_file.proofs.LookUps.{block_in, here_row, read_right, row_begins, same_row}
use Rattle.cell_key.proofs.Passed.{passed_on}
use Rattle.sorted_file.proofs.Results.{as_told, of_none, of_some}
use Rattle.sorted_file.proofs.Starts.{parsed_as}
use Rattle.sorted_file.proofs.file.SortedFile.read_block.Goals as goal

pub returns-in_err-bytes-clause-damaged : goal.returns-in_err-bytes-clause-damaged
returns-in_err-bytes-clause-damaged g c = λ is.
    as_told (g.F.Files.contents c.args.files.now) _ (λ m e o.
    let row = c.index-row.result.now in
    let at = here_row c.args.self.now.rows.items c.args.number row c.requires c.index-row.ensures in
    let b = block_in m c.args.self.now o c.args.number row at in
    let tells = subst (λ (told : Option Contents). Tells told c.args.self.now.name o.image) (sym e) o.there in
    let short = c.in_err-bytes.ensures.damaged (passed_on c.from_residual.result _ c.in_err-bytes.field-0.0 _ c.from_residual.ensures.1 refl is) o.image tells in
    let within = b.within in
    omega (arith, short, within))

pub returns-in_default-clause-damaged : goal.returns-in_default-clause-damaged
returns-in_default-clause-damaged g c = λ is.
    as_told (g.F.Files.contents c.args.files.now) _ (λ m e o.
    let row = c.index-row.result.now in
    let at = here_row c.args.self.now.rows.items c.args.number row c.requires c.index-row.ensures in
    let b = block_in m c.args.self.now o c.args.number row at in
    let tells = subst (λ (told : Option Contents). Tells told c.args.self.now.name o.image) (sym e) o.there in
    of_none _ _ c.in_default.is c.in_ok-block.ensures.none _ b.list (c.in_ok-bytes.ensures.part o.image tells ∙ b.bytes))

pub returns-then-not-begins_with-clause-damaged : goal.returns-then-not-begins_with-clause-damaged
returns-then-not-begins_with-clause-damaged g c = λ is.
    as_told (g.F.Files.contents c.args.files.now) _ (λ m e o.
    let row = c.index-row.result.now in
    let at = here_row c.args.self.now.rows.items c.args.number row c.requires c.index-row.ensures in
    let b = block_in m c.args.self.now o c.args.number row at in
    let tells = subst (λ (told : Option Contents). Tells told c.args.self.now.name o.image) (sym e) o.there in
    let parsed = of_some _ _ _ c.in-Some.is c.in_ok-block.ensures.parsed in
    let same = parsed_as parsed.0 _ c.in-Some.block parsed.1 (sym b.bytes ∙ sym (c.in_ok-bytes.ensures.part o.image tells) ∙ parsed.2) in
    let begins = subst (λ (es : List Entry). BeginsWith row.first.items es) same (row_begins m c.args.self.now o c.args.number row at) in
    let yes = (c.begins_with.ensures parsed.0 parsed.1).1 (subst (λ (t : List ℕ). BeginsWith t parsed.0) (sym c.deref.ensures.value) begins) in
    let no : false ≡ true = sym c.if-not-begins_with.true ∙ yes in
    cc)

pub returns-clause-read : goal.returns-clause-read
returns-clause-read g c = λ row at.
    let same = same_row c.args.self.now.rows.items c.args.number row c.index-row.result.now c.requires c.index-row.ensures at in
    let parsed = of_some _ _ _ c.in-Some.is c.in_ok-block.ensures.parsed in
    let begins = (c.begins_with.ensures parsed.0 parsed.1).0 c.if-not-begins_with.false in
    subst (λ (r : BlockRow). IsReadNow (g.F.Files.contents c.args.files.now) (name_of c.args.self.now) r c.in-Some.block) (sym same)
    (record {
      entries = parsed.0;
      parsed = parsed.1;
      read = λ image tells. record {
        list = parsed.1.list;
        first = subst (λ (t : List ℕ). BeginsWith t parsed.0) c.deref.ensures.value begins;
        whole = sym (ap (λ (bytes : List ℕ). length bytes) (c.in_ok-bytes.ensures.part image tells)) ∙ c.in_ok-bytes.ensures.length;
        bytes = sym (c.in_ok-bytes.ensures.part image tells) ∙ parsed.2;
      };
    })

pub returns-clause-right : goal.returns-clause-right
returns-clause-right g c =
    as_told (g.F.Files.contents c.args.files.now) _ (λ m e o row at.
    read_right m c.args.self.now o c.args.number row at c.in-Some.block
    (subst (λ (told : Option Contents). IsReadNow told (name_of c.args.self.now) row c.in-Some.block) e (returns-clause-read g c row at)))
