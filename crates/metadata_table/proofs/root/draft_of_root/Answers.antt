use Rattle.std.proofs.Common.{rules, ◌≡◌, Some, None}
use Rattle.metadata_table.specs.Roots.{IsRootIn}
use Rattle.metadata_table.specs.RootReader.{draft_of, root_at}
use Rattle.metadata_table.proofs.RootLaws.{is_not_read, none_or_read}
use Rattle.metadata_table.proofs.root.draft_of_root.Goals as goal

pub returns-else-branch-clause-none : goal.returns-else-branch-clause-none
returns-else-branch-clause-none c =
    let bytes = c.args.bytes.now in
    let read : root_at bytes ≡ Some (c.in-Ok.draft.format, (draft_of c.in-Ok.draft, c.in-Ok.draft.lengths.items)) = search rules in
    let isnt : IsRootIn c.in-Ok.draft.format (draft_of c.in-Ok.draft) c.in-Ok.draft.lengths.items bytes → ⊥ = search rules in
    none_or_read c.in-Ok.draft.format (draft_of c.in-Ok.draft) c.in-Ok.draft.lengths.items bytes read isnt

pub returns-in-Err-Malformed-clause-none : goal.returns-in-Err-Malformed-clause-none
returns-in-Err-Malformed-clause-none c =
    let bytes = c.args.bytes.now in
    let none : root_at bytes ≡ None = search rules in
    is_not_read bytes none
