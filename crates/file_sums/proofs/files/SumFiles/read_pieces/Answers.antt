use Rattle.std.proofs.Common.{◌∙◌, ℕ, ◌+◌, ◌-◌, ◌/◌, ◌%◌, length, arith, rules, take_at, drop}
use Rattle.file_sums.proofs.Inner.{all_copied}
use Rattle.file_sums.proofs.files.SumFiles.read_pieces.Goals as goal

pub returns-clause-read : goal.returns-clause-read
returns-clause-read g c =
    let first : ℕ = c.args.offset / 1024 in
    let skip : ℕ = c.args.offset % 1024 in
    let count : ℕ = (skip + length c.args.out.now - 1) / 1024 + 1 in
    rw c.count_fault.ensures.same (all_copied c.copy_payload-read.result (g.F.Files.contents c.args.self.now.inner) c.args.stored first count skip c.args.offset c.in_ok-len.len c.len.result c.deref_mut.result.now c.read_at.new.out c.deref.result.now c.args.out.now _
    c.copy_payload-read.ensures.read c.in_ok-len.ensures.ok (c.deref.ensures.value ∙ take_at c.read_at.new.out (drop (length c.read_at.new.out) c.in_ok-bytes.bytes.items) c.in_ok-bytes.bytes.len (search rules)) (search rules) (search rules) (search rules) (search rules) (search rules) (omega arith) (omega arith))
