use Rattle.std.proofs.Common.{Ok, Err, inl, refl}
use Rattle.row_atomic.specs.Recorded.{seen_recorded}
use Rattle.si_model.proofs.ByServers.{by_servers}
use Rattle.server_loop.proofs.AtOnce.{cells_count, err_given, given_err, given_undamaged, named_count, others_stay, read_not, read_undamaged, reads_go}
use Rattle.server_loop.proofs.SessionSteps.{first_stays, ok_not, one_rose, second_stays}
use Rattle.server_loop.proofs.server.Server.take_read.Goals as goal

pub returns-in-Ok : goal.returns-in-Ok
returns-in-Ok g c = let told = c.in-Ok.ensures in record {
  result = Ok c.in-Ok.reply;
  gives = refl;
  at_once = record {
    goes = reads_go g.F.Files.contents _ _ _ _ tt refl refl told.reads told.step (λ st reached held shown. read_undamaged c.in-Ok.reply);
    refusal = tt;
    limits = told.short;
    others = others_stay g.F.Files.contents _ _ refl refl refl told.reads.stays;
    refused = tt;
    device = λ is. absurd (read_not _ _ is);
    told = λ _. record { files = first_stays told.reason (ok_not _ _); marks = second_stays told.reason (ok_not _ _) };
  };
  reads = told.reads;
  found = told.found;
  session = told.session;
  aside = told.aside;
  count = λ many. told.count (λ few. many (cells_count c.args.cells.now few));
  causes = λ few st shown. told.causes (named_count c.args.cells.now few) st shown.shows.sessions;
  exhausted = told.exhausted;
}

pub returns-in-Err : goal.returns-in-Err
returns-in-Err g c = let told = c.in-Err.ensures in record {
  result = Err c.in-Err.refusal;
  gives = refl;
  at_once = record {
    goes = reads_go g.F.Files.contents _ _ _ _ tt refl refl told.reads told.step
        (λ st reached held shown. given_undamaged _ _ refl (told.undamaged (λ row at. (seen_recorded {W = g.row.F-Writing.Denot} g.F.Files.contents).each_readable _ held row) st (by_servers reached) shown.store));
    refusal = told.refusal;
    limits = tt;
    others = others_stay g.F.Files.contents _ _ refl refl refl told.reads.stays;
    refused = record { sessions = told.same; rows = told.reads; last = told.refused.stays; range = inl told.refused.range; marked = told.refused.mark };
    device = λ is. one_rose told.reason (given_err _ _ _ refl is);
    told = λ none. record { files = first_stays told.reason (λ is. none (err_given _ _ _ refl is)); marks = second_stays told.reason (λ is. none (err_given _ _ _ refl is)) };
  };
  reads = told.reads;
  found = told.found;
  session = told.session;
  aside = told.aside;
  count = λ many. told.count (λ few. many (cells_count c.args.cells.now few));
  causes = λ few st shown. told.causes (named_count c.args.cells.now few) st shown.shows.sessions;
  exhausted = told.exhausted;
}
