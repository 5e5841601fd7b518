use Rattle.std.proofs.Common.{nat_eq, length}
use Rattle.std.specs.Io.KnownBytes.{IsAtEnd}
use Rattle.lru.specs.LruCache.{promoted}
use Rattle.file_store.proofs.Opened.{read_as_written}
use Rattle.file_store.proofs.open_files.OpenFiles.read.Goals as goal

-- the file that was read is found again as the read left it
pub returns-clause-end : goal.returns-clause-end
returns-clause-end g c within = read_as_written (nat_eq c.args.name) (λ file. IsAtEnd (g.S.Read.remaining file)) c.read_part.new.file (length c.args.out.now) (promoted (nat_eq c.args.name) c.args.self.now.files.entries) c.read_part.result (c.read_part.ensures.end within)
