use Rattle.std.proofs.Common.{Ok, Err, refl}
use Rattle.row_atomic.specs.Recorded.{seen_recorded}
use Rattle.server_loop.proofs.AtOnce.{commit_goes, commit_limits, commit_not, commit_told, err_given, given_err, given_undamaged, others_stay, reads_go}
use Rattle.server_loop.proofs.SessionSteps.{first_stays, ok_not, one_rose, second_stays}
use Rattle.server_loop.proofs.server.Server.take_commit.Goals as goal

pub returns-in-Ok : goal.returns-in-Ok
returns-in-Ok g c = let told = c.in-Ok.ensures in record {
  result = Ok c.in-Ok.reply;
  gives = refl;
  at_once = record {
    goes = commit_goes g.F.Files.contents _ _ _ _ c.in-Ok.reply refl refl told.below told.does told.step;
    refusal = commit_told _ c.in-Ok.reply;
    limits = commit_limits c.in-Ok.reply;
    others = others_stay g.F.Files.contents _ _ refl refl refl told.below.stays;
    refused = commit_told _ c.in-Ok.reply;
    device = λ is. absurd (commit_not _ _ is);
    told = λ _. record { files = first_stays told.reason (ok_not _ _); marks = second_stays told.reason (ok_not _ _) };
  };
  does = told.does;
  draws = told.draws;
  named = λ some st shown. told.named some st shown.shows.sessions;
  causes = λ st shown. told.causes st shown.shows.sessions;
  exhausted = told.exhausted;
  full = told.full;
}

pub returns-in-Err : goal.returns-in-Err
returns-in-Err g c = let told = c.in-Err.ensures in record {
  result = Err c.in-Err.refusal;
  gives = refl;
  at_once = record {
    goes = reads_go g.F.Files.contents _ _ _ _ tt refl refl told.refused.same told.step
        (λ st reached held shown. given_undamaged _ _ refl (told.undamaged (λ row at. (seen_recorded {W = g.row.F-Writing.Denot} g.F.Files.contents).each_readable _ held row)));
    refusal = told.refusal;
    limits = tt;
    others = others_stay g.F.Files.contents _ _ refl refl refl told.below.stays;
    refused = record { sessions = told.same; rows = told.refused.same; last = told.refused.stays; range = told.refused.range; marked = told.refused.mark };
    device = λ is. one_rose told.reason (given_err _ _ _ refl is);
    told = λ none. record { files = first_stays told.reason (λ is. none (err_given _ _ _ refl is)); marks = second_stays told.reason (λ is. none (err_given _ _ _ refl is)) };
  };
  does = tt;
  draws = tt;
  named = λ some st shown. tt;
  causes = λ st shown. told.causes st shown.shows.sessions;
  exhausted = told.exhausted;
  full = told.full;
}
