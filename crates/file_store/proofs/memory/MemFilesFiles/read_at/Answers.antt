use Rattle.std.proofs.Common.{◌≡◌, refl, length}
use Rattle.std.specs.Prelude.{Some, None}
use Rattle.std.specs.FinMap as map
use Rattle.file_store.proofs.Seen.{found, part-nil}
use Rattle.file_store.proofs.memory.MemFilesFiles.read_at.Goals as goal

pub returns-in_default-clause-read : goal.returns-in_default-clause-read
returns-in_default-clause-read c =
    let is : map.get c.args.self.now c.args.name ≡ None = found c.self.inside.files.entries c.args.self.now c.args.name None c.self.view_is c.in_default.ensures.value in
    rw (is, part-nil c.args.offset (length c.args.out.now)) (refl, refl)

pub returns-clause-read : goal.returns-clause-read
returns-clause-read c =
    let is : map.get c.args.self.now c.args.name ≡ Some c.in-Some.bytes.now.items = found c.self.inside.files.entries c.args.self.now c.args.name (Some c.in-Some.bytes.now) c.self.view_is c.in-Some.ensures.value in
    rw (is, ← c.as_slice.ensures.value) (c.read_into.ensures.count, c.read_into.ensures.read)
