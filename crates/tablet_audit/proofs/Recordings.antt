-- The progress of a judgement over a recording, and its end.
use Rattle.std.proofs.Common.{◌≡◌, ◌≢◌, ℕ, ◌+◌, ◌<◌, ◌≤◌, ◌⊎◌, inl, inr, Bool, true, false, List, [], ◌∷◌, ◌++◌, length, Option, Some, None, Result, Ok, Err, refl, sym, ap, ◌∙◌, subst, arith, append_assoc, length-append}
use Rattle.std.specs.Prelude.{IfErr, IfOk, IfSome, is_some}
use Rattle.std.specs.FinMap.{get, get-empty}
use Rattle.std.specs.List.{AllByRecursion}
use Rattle.std.specs.Int.{to_be_bytes, w32}
use Rattle.std.specs.Ordering.{nat_cmp}
use Rattle.std.proofs.lemmas.List.{flat_map_more}
use Rattle.cell_key.specs.declared.refusals.Refusal.{Refusal}
use Rattle.cell_key.specs.declared.refusals.Refusal.TheVariants.{BadRequest as TheBadRequest, NoMemory}
use Rattle.si_model.specs.Machine.{State, Refused, reopened, reopens}
use Rattle.si_model.specs.Transactions.{Operation, Answer, Said}
use Rattle.request_codec.specs.Stream.{frame, frames, longest}
use Rattle.request_codec.specs.Answers.{IsAnswerBody}
use Rattle.request_codec.specs.Operations.{IsOperation, IsNoOperation}
use Rattle.ownership.specs.Names.{is_open}
use Rattle.ownership.specs.Tables.{nobodys, table_of}
use Rattle.ownership.specs.declared.names.Name.{Name}
use Rattle.ownership.specs.declared.names.Name.TheVariants.{Session, Cleaner, Collector}
use Rattle.ownership.proofs.Noted.{nothing_known}
use Rattle.audit.specs.Audits.{JudgesMark, JudgesOperation, Reopens}
use Rattle.audit.specs.declared.audit.Audit.{Audit}
use Rattle.tablet_audit.specs.Frames.{BeginsWith, IsFlawed, IsUpTo, Splits}
use Rattle.tablet_audit.specs.Judges.{Follows, IsKnown, Keeps}
use Rattle.tablet_audit.specs.Limits.{longest_replied}
use Rattle.tablet_audit.specs.Pairs.{GoesOn, IsAtEnd, JudgesAlone, JudgesBodies, JudgesShared, StopsAt}
use Rattle.tablet_audit.specs.Reopenings.{JudgesOpening, JudgesReopening}
use Rattle.tablet_audit.specs.Runs.{Answers, Moment, OpensAgain, OpensOver, Run, beginning, goes_on, reopening_behind}
use Rattle.tablet_audit.specs.Runs as runs
use Rattle.tablet_audit.specs.Verdicts.{EndsAt, EndsWith, IsVerdict, Passes}
use Rattle.tablet_audit.specs.declared.frames.Flaw.{Flaw}
use Rattle.tablet_audit.specs.declared.judges.Judge.{Judge}
use Rattle.tablet_audit.specs.declared.reopenings.Reopening.{Reopening}
use Rattle.tablet_audit.specs.declared.sharing.Sharing.{Sharing}
use Rattle.tablet_audit.specs.declared.sharing.Sharing.TheVariants.{Alone, Shared}
use Rattle.tablet_audit.specs.declared.verdicts.Verdict.{Verdict}
use Rattle.tablet_audit.specs.declared.verdicts.Verdict.TheVariants.{Correct, NoStep, NotAllowed, BadRequest, BadReply, BadMark}

-- ---- reopenings

-- nothing is open then
none_reopened : (st : State) (name : Name) → is_open (reopened st) name ≡ false
none_reopened st (Session k) = ap is_some (get-empty nat_cmp k)
none_reopened st (Cleaner k) = ap is_some (get-empty nat_cmp k)
none_reopened st (Collector k) = ap is_some (get-empty nat_cmp k)

none_open : (mark : Option ℕ) (st next : State) → OpensOver mark st next → (name : Name) → is_open next name ≡ false
none_open None st next is name = subst (λ (s : State). is_open s name ≡ false) (sym is) (none_reopened st name)
none_open (Some mark) st next over (Session k) = ap (λ m. is_some (get m k)) over.2.active ∙ ap is_some (get-empty nat_cmp k)
none_open (Some mark) st next over (Cleaner k) = ap (λ m. is_some (get m k)) over.2.cleaners ∙ ap is_some (get-empty nat_cmp k)
none_open (Some mark) st next over (Collector k) = ap (λ m. is_some (get m k)) over.2.collectors ∙ ap is_some (get-empty nat_cmp k)

known_open : (sharing : Sharing) (st : State) → ((name : Name) → is_open st name ≡ false) → IsKnown sharing (record { state = st; table = nobodys })
known_open Alone st shut = tt
known_open (Shared admin) st shut = nothing_known shut

pub begins_known : (sharing : Sharing) → IsKnown sharing beginning
begins_known sharing = known_open sharing beginning.state (λ name. shut name)
  where
    shut : (name : Name) → is_open beginning.state name ≡ false
    shut (Session k) = ap is_some (get-empty nat_cmp k)
    shut (Cleaner k) = ap is_some (get-empty nat_cmp k)
    shut (Collector k) = ap is_some (get-empty nat_cmp k)

pub not_opened : (found : Option Reopening) (judge : Judge) → found ≡ None → JudgesReopening found judge judge true
not_opened found judge none = λ sharing. subst (λ (f : Option Reopening). Follows sharing judge judge (OpensAgain f)) (sym none) (λ now keeps. (now, refl, keeps))

pub opened : (found : Option Reopening) (reopening : Reopening) (old new : Judge) → found ≡ Some reopening → JudgesOpening reopening.mark old.audit new.audit true → table_of new.owners ≡ nobodys
    → JudgesReopening found old new true
opened found reopening old new is opens empty = λ sharing. subst (λ (f : Option Reopening). Follows sharing old new (OpensAgain f)) (sym is) (λ now keeps.
    let (next, over, kept) = opens now.state keeps.state in
    (record { state = next; table = nobodys }, (over, refl), record { state = kept; table = sym empty; known = known_open sharing next (none_open reopening.mark now.state next over) }))

pub badly_marked : (found : Option Reopening) (reopening : Reopening) (old new : Judge) (audit : Audit) → found ≡ Some reopening → JudgesOpening reopening.mark old.audit audit false
    → JudgesReopening found old new false
badly_marked found reopening old new audit is bad = (bad.0, (reopening, is, bad.1), bad.2)

pub judged_mark : (given : Option ℕ) (mark : ℕ) (old new : Audit) (r : Result Bool Refusal) → given ≡ Some mark → JudgesMark mark old new r → IfOk r (JudgesOpening given old new)
judged_mark given mark old new (Ok true) is judges = subst (λ (g : Option ℕ). JudgesOpening g old new true) (sym is) judges
judged_mark given mark old new (Ok false) is judges = (mark, is, λ st k. judges.0 st k.1)
judged_mark given mark old new (Err e) is judges = tt

pub mark_memory : (mark : ℕ) (old new : Audit) (r : Result Bool Refusal) → JudgesMark mark old new r → IfErr r (λ e. e ≡ NoMemory)
mark_memory mark old new (Ok true) judges = tt
mark_memory mark old new (Ok false) judges = tt
mark_memory mark old new (Err e) judges = judges.0

pub opened_clean : (given : Option ℕ) (old new : Audit) → given ≡ None → Reopens old new → JudgesOpening given old new true
opened_clean given old new is opens = subst (λ (g : Option ℕ). JudgesOpening g old new true) (sym is) (λ st k. (_, refl, (reopens k.0, opens st k.1)))

-- ---- one request and its reply

pub passes_malformed : (audit : Audit) (number : ℕ) (body answer : List ℕ) (reply : Answer) → IsAnswerBody reply answer → IsNoOperation body → reply ≡ Said (Refused TheBadRequest)
    → JudgesAlone audit audit number body answer None
passes_malformed audit number body answer reply is malformed refused = λ st keeps. (st, (reply, is, inr (malformed, refused, refl)), keeps)

pub passes_step : (old new : Audit) (number : ℕ) (body answer : List ℕ) (request : Operation) (reply : Answer) (result : Result Bool Refusal) → result ≡ Ok true
    → JudgesOperation old new request reply result → IsOperation request body → IsAnswerBody reply answer → JudgesAlone old new number body answer None
passes_step old new number body answer request reply result is judges asks answers =
    let steps = subst (JudgesOperation old new request reply) is judges in
    λ st keeps. let s = steps st keeps in (s.0, (reply, answers, inl (request, asks, s.1)), s.2)

-- one client's are judged by the audit alone
pub judged_alone : (sharing : Sharing) (old new : Judge) (number : ℕ) (body answer : List ℕ) (result : Result (Option Verdict) Refusal) → sharing ≡ Alone → new.owners ≡ old.owners
    → IfOk result (λ found. JudgesAlone old.audit new.audit number body answer found) → IfOk result (λ found. JudgesBodies sharing old new number body answer found)
judged_alone sharing old new number body answer (Ok None) is same judges = subst (λ (s : Sharing). JudgesBodies s old new number body answer None) (sym is) (λ now keeps.
    let (next, answers, kept) = judges now.state keeps.state in
    (record { state = next; table = now.table }, (answers, refl), record { state = kept; table = keeps.table ∙ ap (λ owners. table_of owners) (sym same); known = tt }))
judged_alone sharing old new number body answer (Ok (Some verdict)) is same judges = subst (λ (s : Sharing). JudgesBodies s old new number body answer (Some verdict)) (sym is) judges
judged_alone sharing old new number body answer (Err refusal) is same judges = tt

pub judged_shared : (sharing : Sharing) (admin : Option ℕ) (old new : Judge) (number : ℕ) (body answer : List ℕ) (result : Result (Option Verdict) Refusal) → sharing ≡ Shared admin
    → IfOk result (λ found. JudgesShared admin old new number body answer found) → IfOk result (λ found. JudgesBodies sharing old new number body answer found)
judged_shared sharing admin old new number body answer (Ok None) is judges = subst (λ (s : Sharing). JudgesBodies s old new number body answer None) (sym is) judges
judged_shared sharing admin old new number body answer (Ok (Some verdict)) is judges = subst (λ (s : Sharing). JudgesBodies s old new number body answer (Some verdict)) (sym is) judges
judged_shared sharing admin old new number body answer (Err refusal) is judges = tt

-- ---- the end of the judgement

pub stops_at_request : (sharing : Sharing) (judge : Judge) (number : ℕ) (rest more : List ℕ) (flaw : Flaw) → ¬ IsAtEnd rest more → IsFlawed longest rest flaw
    → StopsAt sharing judge number rest more (BadRequest number flaw)
stops_at_request sharing judge number rest more flaw some flawed = λ reopenings. inl (refl, flawed, λ e f. some (e, f))

pub stops_at_reply : (sharing : Sharing) (judge : Judge) (number : ℕ) (rest more body left : List ℕ) (flaw : Flaw) → Splits longest rest body left → IsFlawed (longest_replied sharing) more flaw
    → StopsAt sharing judge number rest more (BadReply number flaw)
stops_at_reply sharing judge number rest more body left flaw splits flawed = λ reopenings. inl (refl, body, (left, splits), flawed)

not_correct : (sharing its : Sharing) (judge : Judge) (number count : ℕ) (body answer : List ℕ) → EndsWith sharing judge number body answer (Correct its count) → ⊥
not_correct Alone its judge number count body answer e = e
not_correct (Shared admin) its judge number count body answer e = e

no_mark : (sharing : Sharing) (judge : Judge) (number k : ℕ) (body answer : List ℕ) → EndsWith sharing judge number body answer (BadMark k) → ⊥
no_mark Alone judge number k body answer e = e
no_mark (Shared admin) judge number k body answer e = e

pub stops_at_bodies : (sharing : Sharing) (judge : Judge) (number : ℕ) (rest more body answer left after : List ℕ) (verdict : Verdict) → Splits longest rest body left → Splits (longest_replied sharing) more answer after
    → EndsWith sharing judge number body answer verdict → StopsAt sharing judge number rest more verdict
stops_at_bodies sharing judge number rest more body answer left after (NoStep k request reply) p q e = λ reopenings. (body, answer, (left, p), (after, q), e)
stops_at_bodies sharing judge number rest more body answer left after (NotAllowed k sent to reply) p q e = λ reopenings. (body, answer, (left, p), (after, q), e)
stops_at_bodies sharing judge number rest more body answer left after (BadRequest k flaw) p q e = λ reopenings. inr (body, answer, (left, p), (after, q), e)
stops_at_bodies sharing judge number rest more body answer left after (BadReply k flaw) p q e = λ reopenings. inr (body, answer, (left, p), (after, q), e)
stops_at_bodies sharing judge number rest more body answer left after (Correct its count) p q e = absurd (not_correct sharing its judge number count body answer e)
stops_at_bodies sharing judge number rest more body answer left after (BadMark k) p q e = absurd (no_mark sharing judge number k body answer e)

pub stops_if_judged : (sharing : Sharing) (old new : Judge) (number : ℕ) (rest more body answer left after : List ℕ) (result : Result (Option Verdict) Refusal)
    → Splits longest rest body left → Splits (longest_replied sharing) more answer after
    → IfOk result (λ found. JudgesBodies sharing old new number body answer found)
    → IfOk result (λ found. IfSome found (λ verdict. StopsAt sharing old number rest more verdict))
stops_if_judged sharing old new number rest more body answer left after (Ok None) p q judged = tt
stops_if_judged sharing old new number rest more body answer left after (Ok (Some verdict)) p q judged = stops_at_bodies sharing old number rest more body answer left after verdict p q judged
stops_if_judged sharing old new number rest more body answer left after (Err refusal) p q judged = tt

-- ---- a run

all_more : (most : ℕ) (xs : List (List ℕ)) (x : List ℕ) → AllByRecursion (IsUpTo most) xs → IsUpTo most x → AllByRecursion (IsUpTo most) (xs ++ x ∷ [])
all_more most [] x all is = (is, tt)
all_more most (y ∷ ys) x all is = (all.0, all_more most ys x all.1 is)

frames_more : (bytes : List ℕ) (bodies : List (List ℕ)) (rest body left : List ℕ) → bytes ≡ frames bodies ++ rest → rest ≡ frame body ++ left
    → bytes ≡ frames (bodies ++ body ∷ []) ++ left
frames_more bytes bodies rest body left whole splits =
    whole ∙ ap (λ (r : List ℕ). frames bodies ++ r) splits ∙ sym (append_assoc (frames bodies) (frame body) left)
    ∙ ap (λ (l : List ℕ). l ++ left) (flat_map_more frame [] bodies body)

count_more : (xs : List (List ℕ)) (x : List ℕ) (n : ℕ) → length xs ≡ n → length (xs ++ x ∷ []) ≡ n + 1
count_more xs x n is = omega (arith, length-append xs (x ∷ []))

pub length-left : (most : ℕ) (bytes body left : List ℕ) → Splits most bytes body left → length left < length bytes
unfolding frame
length-left most bytes body left splits = omega (arith, ap length splits.1, length-append (frame body) left, length-append (to_be_bytes w32 (length body)) body)

pub passes_none : (sharing : Sharing) (reopenings : List Reopening) (requests replies : List ℕ) (judge : Judge) → Keeps sharing judge beginning → Passes sharing reopenings requests replies 0 requests replies judge
passes_none sharing reopenings requests replies judge keeps = record {
  bodies = [];
  answers = [];
  requests_begin = refl;
  replies_begin = refl;
  bodies_fit = tt;
  answers_fit = tt;
  bodies_count = refl;
  answers_count = refl;
  now = beginning;
  run = runs.begins_new;
  keeps = keeps;
}

pub passes_more : (sharing : Sharing) (reopenings : List Reopening) (requests replies : List ℕ) (count : ℕ) (rest more left after : List ℕ) (old mid new : Judge)
    → Passes sharing reopenings requests replies count rest more old → GoesOn sharing old mid rest more left after
    → JudgesReopening (reopening_behind (count + 1) reopenings) mid new true
    → Passes sharing reopenings requests replies (count + 1) left after new
passes_more sharing reopenings requests replies count rest more left after old mid new p g opens =
    let first = g.follows p.now p.keeps in
    let second = opens sharing first.0 first.2 in
    let behind : OpensAgain (reopening_behind (length p.bodies + 1) reopenings) first.0 second.0 =
    subst (λ (n : ℕ). OpensAgain (reopening_behind (n + 1) reopenings) first.0 second.0) (sym p.bodies_count) second.1 in
    record {
      bodies = p.bodies ++ g.body ∷ [];
      answers = p.answers ++ g.answer ∷ [];
      requests_begin = frames_more requests p.bodies rest g.body left p.requests_begin g.request_splits.1;
      replies_begin = frames_more replies p.answers more g.answer after p.replies_begin g.reply_splits.1;
      bodies_fit = all_more longest p.bodies g.body p.bodies_fit g.request_splits.0;
      answers_fit = all_more (longest_replied sharing) p.answers g.answer p.answers_fit g.reply_splits.0;
      bodies_count = count_more p.bodies g.body count p.bodies_count;
      answers_count = count_more p.answers g.answer count p.answers_count;
      now = second.0;
      run = goes_on g.body g.answer first.0 p.run first.1 behind;
      keeps = second.2;
    }

-- ---- verdicts

pub all_correct : (sharing : Sharing) (reopenings : List Reopening) (requests replies : List ℕ) (count : ℕ) (rest more : List ℕ) (judge : Judge)
    → Passes sharing reopenings requests replies count rest more judge → IsAtEnd rest more → IsVerdict sharing reopenings requests replies (Correct sharing count)
all_correct sharing reopenings requests replies count rest more judge passes end = record {
  count = count;
  rest = rest;
  more = more;
  judge = judge;
  passes = passes;
  ends = (refl, refl, end.0, end.1);
}

pub stopped : (sharing : Sharing) (reopenings : List Reopening) (requests replies : List ℕ) (count : ℕ) (rest more : List ℕ) (judge : Judge) (verdict : Verdict)
    → Passes sharing reopenings requests replies count rest more judge → StopsAt sharing judge (count + 1) rest more verdict → IsVerdict sharing reopenings requests replies verdict
stopped sharing reopenings requests replies count rest more judge verdict passes stops = record {
  count = count;
  rest = rest;
  more = more;
  judge = judge;
  passes = passes;
  ends = stops reopenings;
}

pub badly_opened : (sharing : Sharing) (reopenings : List Reopening) (requests replies : List ℕ) (count : ℕ) (rest more left after : List ℕ) (old mid new : Judge)
    → Passes sharing reopenings requests replies count rest more old → GoesOn sharing old mid rest more left after
    → JudgesReopening (reopening_behind (count + 1) reopenings) mid new false
    → IsVerdict sharing reopenings requests replies (BadMark (count + 1))
badly_opened sharing reopenings requests replies count rest more left after old mid new passes g bad = record {
  count = count;
  rest = rest;
  more = more;
  judge = old;
  passes = passes;
  ends = (
    refl,
    g.body,
    g.answer,
    (left, g.request_splits),
    (after, g.reply_splits),
    bad.0,
    bad.1,
    λ now keeps. let first = g.follows now keeps in (first.0, first.1, bad.2 first.0.state first.2.state),
  );
}
