use Rattle.std.proofs.Common.{◌≡◌, ℕ, List, Option, None, Some, inl, inr, slice_get, refl, sym, ap, subst, ◌∙◌, arith}
use Rattle.std.specs.Prelude.{option_map}
use Rattle.std.proofs.lemmas.Option.{same_Some}
use Rattle.cell_key.specs.Entries.{Entry}
use Rattle.cell_key.specs.Keys.{text}
use Rattle.sorted_file.specs.Block.{first_from}
use Rattle.sorted_file.specs.File.{IsUncached, MayHaveInBlock, listed}
use Rattle.sorted_file.specs.Newest.{at_stamp, found_bytes, IsOfColumn}
use Rattle.sorted_file.specs.declared.block.BlockRow.{BlockRow}
use Rattle.sorted_file.proofs.FirstBlocks.{first_in, first_past, number_in, one_number}
use Rattle.sorted_file.proofs.LookUps.{here_row}
use Rattle.sorted_file.proofs.MayHave.{none_at, none_in_block, none_in_file}
use Rattle.sorted_file.proofs.Newest.{newest_by_first}
use Rattle.sorted_file.proofs.Results.{as_some, as_told, if_ok, of_told}
use Rattle.sorted_file.proofs.file.SortedFile.newest.Goals as goal

pub returns-then-not-may_have-clause-found : goal.returns-then-not-may_have-clause-found
returns-then-not-may_have-clause-found g c =
    as_some (g.F.Files.contents c.args.files.now) _ (λ m o s a b.
    let limits = c.key-own.ensures.limits in
    let small = limits.stamp in
    none_in_file m c.args.self.now o (at_stamp c.args.key.now s) (record { row = limits.row; family = limits.family; stamp = omega (arith, small, b) }) (c.may_have.ensures c.if-not-may_have.true s a b))

pub returns-then-not-may_have-clause-now : goal.returns-then-not-may_have-clause-now
returns-then-not-may_have-clause-now g c = λ m o number row image placed at may uncached tells.
    elim may [
      | inl found ↦ cc
      | inr h ↦ absurd (c.may_have.ensures c.if-not-may_have.true h.stamp h.from h.to h.in_file)
    ]

pub returns-in_default-clause-found : goal.returns-in_default-clause-found
returns-in_default-clause-found g c =
    as_some (g.F.Files.contents c.args.files.now) _ (λ m o.
    let file = c.args.self.now in
    let key = c.args.key.now in
    let n = c.number_of_block-number.result in
    let placed = number_in m file o c.text.result.now (text key) c.deref.result.now n c.deref.ensures.value c.text.ensures.text c.number_of_block-number.ensures.number in
    let none = subst (λ (rows : List BlockRow). slice_get rows n ≡ None) c.deref-2.ensures.value (none_at c.deref-2.result.now n c.in_default.ensures.lookup.3) in
    newest_by_first key c.text.ensures.limits (listed m file) o.list c.args.lo None
    (subst (λ (first : Option Entry). IsOfColumn key c.args.lo first None) (sym (first_past m file o (text key) n placed none)) refl))

pub returns-in_default-clause-now : goal.returns-in_default-clause-now
returns-in_default-clause-now g c = λ m o number row image placed at may uncached tells.
    let file = c.args.self.now in
    let key = c.args.key.now in
    let n = c.number_of_block-number.result in
    let here = number_in m file o c.text.result.now (text key) c.deref.result.now n c.deref.ensures.value c.text.ensures.text c.number_of_block-number.ensures.number in
    let none = subst (λ (rows : List BlockRow). slice_get rows n ≡ None) c.deref-2.ensures.value (none_at c.deref-2.result.now n c.in_default.ensures.lookup.3) in
    let none_there : None ≡ Some row = sym none ∙ ap (slice_get file.rows.items) (one_number (text key) file.rows.items n number here placed) ∙ at in
    cc

pub returns-then-not-may_have-2-clause-found : goal.returns-then-not-may_have-2-clause-found
returns-then-not-may_have-2-clause-found g c =
    as_some (g.F.Files.contents c.args.files.now) _ (λ m o.
    let file = c.args.self.now in
    let key = c.args.key.now in
    let n = c.number_of_block-number.result in
    let row = c.in-Some.row.now in
    let placed = number_in m file o c.text.result.now (text key) c.deref.result.now n c.deref.ensures.value c.text.ensures.text c.number_of_block-number.ensures.number in
    let at = subst (λ (rows : List BlockRow). slice_get rows n ≡ Some row) c.deref-2.ensures.value (here_row c.deref-2.result.now n row c.in-Some.ensures.lookup.3.0 c.in-Some.ensures.lookup.1) in
    newest_by_first key c.text.ensures.limits (listed m file) o.list c.args.lo None
    (subst (λ (first : Option Entry). IsOfColumn key c.args.lo first None) (sym (first_in m file o (text key) n row placed at))
    (none_in_block m file o key c.text.ensures.limits c.args.lo n row at (c.may_have-2.ensures c.if-not-may_have-2.true))))

pub returns-then-not-may_have-2-clause-now : goal.returns-then-not-may_have-2-clause-now
returns-then-not-may_have-2-clause-now g c = λ m o number row image placed at may uncached tells.
    let file = c.args.self.now in
    let key = c.args.key.now in
    let n = c.number_of_block-number.result in
    let here = number_in m file o c.text.result.now (text key) c.deref.result.now n c.deref.ensures.value c.text.ensures.text c.number_of_block-number.ensures.number in
    let there = subst (λ (rows : List BlockRow). slice_get rows n ≡ Some c.in-Some.row.now) c.deref-2.ensures.value (here_row c.deref-2.result.now n c.in-Some.row.now c.in-Some.ensures.lookup.3.0 c.in-Some.ensures.lookup.1) in
    let same : c.in-Some.row.now ≡ row = same_Some c.in-Some.row.now row (sym there ∙ ap (slice_get file.rows.items) (one_number (text key) file.rows.items n number here placed) ∙ at) in
    elim may [
      | inl found ↦ cc
      | inr h ↦ absurd (c.may_have-2.ensures c.if-not-may_have-2.true h.stamp h.from h.to (subst (λ (r : BlockRow). MayHaveInBlock r key c.args.lo h.stamp) (sym same) h.in_block))
    ]

pub returns-clause-found : goal.returns-clause-found
returns-clause-found g c =
    if_ok c.newest_in.result _ _ (λ found h.
    as_told (g.F.Files.contents c.args.files.now) _ (λ m e o.
    let file = c.args.self.now in
    let key = c.args.key.now in
    let n = c.number_of_block-number.result in
    let row = c.in-Some.row.now in
    let placed = number_in m file o c.text.result.now (text key) c.deref.result.now n c.deref.ensures.value c.text.ensures.text c.number_of_block-number.ensures.number in
    let at = subst (λ (rows : List BlockRow). slice_get rows n ≡ Some row) c.deref-2.ensures.value (here_row c.deref-2.result.now n row c.in-Some.ensures.lookup.3.0 c.in-Some.ensures.lookup.1) in
    newest_by_first key c.text.ensures.limits (listed m file) o.list c.args.lo (option_map found_bytes found)
    (subst (λ (first : Option Entry). IsOfColumn key c.args.lo first (option_map found_bytes found)) (sym (first_in m file o (text key) n row placed at))
    (of_told (g.F.Files.contents c.args.files.now) m _ e h o row at))))
    c.newest_in.ensures.found

pub returns-clause-now : goal.returns-clause-now
returns-clause-now g c =
    if_ok c.newest_in.result _ _ (λ found h m o number row image placed at some uncached tells.
    let file = c.args.self.now in
    let key = c.args.key.now in
    let n = c.number_of_block-number.result in
    let here = number_in m file o c.text.result.now (text key) c.deref.result.now n c.deref.ensures.value c.text.ensures.text c.number_of_block-number.ensures.number in
    let one = one_number (text key) file.rows.items n number here placed in
    let r = h row image (ap (slice_get file.rows.items) one ∙ at) (subst (λ (k : ℕ). IsUncached k file.cache.entries) (sym one) uncached) tells in
    (r.0, r.1, newest_by_first key c.text.ensures.limits r.0 r.1.list c.args.lo (option_map found_bytes found) r.2))
    c.newest_in.ensures.now
