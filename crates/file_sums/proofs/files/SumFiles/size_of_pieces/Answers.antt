use Rattle.std.proofs.Common.{◌≡◌, ◌∙◌, sym, subst, refl, ℕ, Some, ◌+◌, ◌*◌, ◌/◌, List, length, take, IfOk, Result, Ok, rules, replicate}
use Rattle.std.specs.Prelude.{IfSome, Option, option_map}
use Rattle.std.specs.FinMap as map
use Rattle.file_store.specs.declared.files.FileFault.{FileFault}
use Rattle.file_store.specs.Store.{Contents, Reads, bytes_of}
use Rattle.file_sums.specs.Pieces.{piece}
use Rattle.file_sums.proofs.Inner.{all_sized}
use Rattle.file_sums.proofs.files.SumFiles.size_of_pieces.Goals as goal

found : (r s : Result ℕ FileFault) (size : ℕ) (P : ℕ → Type 0) → s ≡ r → s ≡ Ok size → IfOk r P → P size
found r s size P same is holds = subst (λ x. IfOk x P) (sym same ∙ is) holds

pub returns-clause-size : goal.returns-clause-size
returns-clause-size g c =
    let at : ℕ = c.in-Some.size / 1030 in
    let right = found c.last_size-found.result c.count_fault.result c.in_ok-size-2.size (λ size. (payload : List ℕ) × (take c.in_ok-len.len c.read_at.new.out ≡ piece c.args.stored at payload) × (size ≡ at * 1024 + length payload))
    c.count_fault.ensures.same c.in_ok-size-2.was c.last_size-found.ensures in
    let known : IfSome (g.F.Files.contents c.args.self.now.inner) (λ m. Some c.in-Some.size ≡ option_map length (map.get m c.args.stored)) = search rules in
    all_sized (g.F.Files.contents c.args.self.now.inner) c.in-Some.size at c.in_ok-len.len c.in_ok-size-2.size c.args.stored (replicate 1030 0) c.read_at.new.out right.0
    known (subst (λ (o : Option Contents). IfSome o (λ m. Reads (bytes_of m c.args.stored) (at * 1030) (replicate 1030 0) c.read_at.new.out c.in_ok-len.len)) c.size.ensures.same c.in_ok-len.ensures.ok) refl refl right.1 right.2
