use Rattle.std.proofs.Common.{rules, ◌≡◌, ◌-◌, ℕ, length, drop, sym, ap, ◌∙◌}
use Rattle.sorted_file.specs.Index.{block_of}
use Rattle.sorted_file.specs.Grammar.{block_bytes}
use Rattle.sorted_file.proofs.Breaks.{garbled_block, short_block}
use Rattle.sorted_file.proofs.Opened.{is_opened}
use Rattle.sorted_file.proofs.Results.{if_some}
use Rattle.sorted_file.proofs.Seams.{drop_end}
use Rattle.sorted_file.proofs.CursorSteps.{rest_ahead}
use Rattle.sorted_file.proofs.cursor.FileCursor.read_block.Goals as goal

pub returns-clause-ahead : goal.returns-clause-ahead
returns-clause-ahead g c = λ image tells b.
    let es = block_of c.args.row.now in
    let block = c.in_ok-block.block.items in
    let bytes = c.in_ok-block.ensures.part image tells ∙ b.bytes in
    let rest = c.in-Some.ensures.found es b.list.rising (c.deref.ensures.value ∙ bytes) in
    let len : c.len.result ≡ length block = search rules in
    ap (λ (n : ℕ). drop (n - length c.in-Some.rest.now) block) len ∙ rest_ahead c.args.self.now.from.now block c.in-Some.rest.now es b.list.rising bytes rest ∙ rest

pub returns-clause-opened : goal.returns-clause-opened
returns-clause-opened g c =
    let s = c.args.self.now in
    let block = c.in_ok-block.block.items in
    let rest = c.in-Some.rest.now in
    let behind = c.in-Some.ensures.behind in
    let same = c.deref.ensures.value in
    let len : c.len.result ≡ length block = search rules in
    let ahead : drop (c.len.result - length rest) block ≡ rest = ap (λ (n : ℕ). drop (n - length rest) block) len ∙ drop_end block (block_bytes behind.before) rest (sym same ∙ behind.bytes_are) in
    if_some _ _ _ (λ m now. is_opened m s.name s.from.now c.args.row.now block _ rest _ c.in_ok-block.ensures.length now same behind c.in-Some.ensures.begins ahead) c.in_ok-block.ensures.now

pub returns-in_err-block-clause-broken : goal.returns-in_err-block-clause-broken
returns-in_err-block-clause-broken g c = λ is.
    if_some _ _ _ (λ m. short_block m c.args.self.now.name c.args.row.now) (c.in_err-block.ensures.short (search rules))

pub returns-in_default-clause-broken : goal.returns-in_default-clause-broken
returns-in_default-clause-broken g c = λ is.
    if_some _ _ _ (λ m now. garbled_block m c.args.self.now.name c.args.row.now c.in_ok-block.block.items _ now c.deref.ensures.value c.in_default.ensures.none) c.in_ok-block.ensures.now
