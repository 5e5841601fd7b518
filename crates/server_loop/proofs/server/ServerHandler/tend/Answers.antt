use Rattle.std.proofs.Common.{◌∙◌, Bool, Option, ap, refl, subst, sym}
use Rattle.row_atomic.specs.Journals.{JournalView}
use Rattle.row_atomic.specs.Recorded.{Follows}
use Rattle.server_loop.specs.Server.{cluster_of, tending_of}
use Rattle.server_loop.specs.Tending.{IsNoted, MergesWhere}
use Rattle.server_loop.proofs.Tended.{keeps_both, not_due, still_shown, tends_follow}
use Rattle.server_loop.proofs.server.ServerHandler.tend.Goals as goal

pub returns-then-due-clause-between : goal.returns-then-due-clause-between
returns-then-due-clause-between g c = record {
  compacted = c.compact_full.new.self;
  compacts = c.compact_full.ensures.compacts;
  merges = subst (λ (b : Bool). MergesWhere b g.F.Files.contents g.F.Files.faults (tending_of c.args.self.now).merge c.compact_full.new.self (cluster_of c.merge_files.new.self))
      (sym c.if-due.true ∙ c.is_merge_due-due.ensures) c.merge_files.ensures.merges;
  keeps = keeps_both _ _ _ c.compact_full.new.self _ c.compact_full.ensures.keeps c.merge_files.ensures.keeps;
  shown = λ st shown.
      still_shown _ _ _ _ st (keeps_both _ _ _ c.compact_full.new.self _ c.compact_full.ensures.keeps c.merge_files.ensures.keeps)
      (λ held follows. subst (λ (j : Option JournalView). Follows g.F.Files.contents (cluster_of c.merge_files.new.self) j) (sym (ap (λ s. s.rows.journal) c.merge_files.ensures.others))
      (tends_follow g.F.Files.contents g.F.Files.faults c.keeps_following.ensures _ _ _ _ _ _ c.compact_full.ensures.compacts c.compact_full.ensures.keeps c.merge_files.ensures.merges c.merge_files.ensures.keeps held follows))
      (ap (λ s. s.clients) c.merge_files.ensures.others) (ap (λ s. s.cleaners) c.merge_files.ensures.others) (ap (λ s. s.collectors) c.merge_files.ensures.others) (ap (λ s. s.oracle.last) c.merge_files.ensures.others) shown;
  sessions = ap (λ s. s.clients) c.merge_files.ensures.others;
  cleaners = ap (λ s. s.cleaners) c.merge_files.ensures.others;
  collectors = ap (λ s. s.collectors) c.merge_files.ensures.others;
  oracle = ap (λ s. s.oracle) c.merge_files.ensures.others;
  journal = ap (λ s. s.rows.journal) c.merge_files.ensures.others;
  tending = subst (λ (b : Bool). IsNoted b (cluster_of c.merge_files.new.self).next_name (tending_of c.args.self.now) (tending_of c.merge_files.new.self))
      (sym c.if-due.true ∙ c.is_merge_due-due.ensures) c.merge_files.ensures.noted;
}

pub returns-then-due-clause-shown : goal.returns-then-due-clause-shown
returns-then-due-clause-shown g c = λ st shown.
    still_shown _ _ _ _ st (keeps_both _ _ _ c.compact_full.new.self _ c.compact_full.ensures.keeps c.merge_files.ensures.keeps)
    (λ held follows. subst (λ (j : Option JournalView). Follows g.F.Files.contents (cluster_of c.merge_files.new.self) j) (sym (ap (λ s. s.rows.journal) c.merge_files.ensures.others))
    (tends_follow g.F.Files.contents g.F.Files.faults c.keeps_following.ensures _ _ _ _ _ _ c.compact_full.ensures.compacts c.compact_full.ensures.keeps c.merge_files.ensures.merges c.merge_files.ensures.keeps held follows))
    (ap (λ s. s.clients) c.merge_files.ensures.others) (ap (λ s. s.cleaners) c.merge_files.ensures.others) (ap (λ s. s.collectors) c.merge_files.ensures.others) (ap (λ s. s.oracle.last) c.merge_files.ensures.others) shown

pub returns-else-due-clause-between : goal.returns-else-due-clause-between
returns-else-due-clause-between g c = record {
  compacted = c.compact_full.new.self;
  compacts = c.compact_full.ensures.compacts;
  merges = subst (λ (b : Bool). MergesWhere b g.F.Files.contents g.F.Files.faults (tending_of c.args.self.now).merge c.compact_full.new.self c.compact_full.new.self)
      (sym c.if-due.false ∙ c.is_merge_due-due.ensures) refl;
  keeps = c.compact_full.ensures.keeps;
  shown = λ st shown. still_shown _ _ _ _ st c.compact_full.ensures.keeps (λ held follows. c.keeps_following.ensures.flushes _ _ _ _ c.compact_full.ensures.compacts c.compact_full.ensures.keeps held follows) refl refl refl refl shown;
  sessions = refl;
  cleaners = refl;
  collectors = refl;
  oracle = refl;
  journal = refl;
  tending = subst (λ (b : Bool). IsNoted b c.compact_full.new.self.next_name (tending_of c.args.self.now) (tending_of c.args.self.now))
      (sym c.if-due.false ∙ c.is_merge_due-due.ensures) (not_due _ _);
}

pub returns-else-due-clause-shown : goal.returns-else-due-clause-shown
returns-else-due-clause-shown g c = λ st shown. still_shown _ _ _ _ st c.compact_full.ensures.keeps (λ held follows. c.keeps_following.ensures.flushes _ _ _ _ c.compact_full.ensures.compacts c.compact_full.ensures.keeps held follows) refl refl refl refl shown
