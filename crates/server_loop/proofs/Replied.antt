-- The replies of a serving loop, as those of the machine.
use Rattle.std.proofs.Common.{◌≡◌, ℕ, ◌+◌, ◌-◌, ◌<◌, ◌≤◌, List, [], ◌∷◌, ◌++◌, length, take, map, Option, Result, Ok, Err, ◌⊎◌, inl, inr, refl, sym, ap, ◌∙◌, subst, arith, append_assoc, append-nil, length-append}
use Rattle.std.specs.Io.KnownBytes.{Appends}
use Rattle.std.proofs.KnownBytes.{Appends-trans}
use Rattle.std.proofs.lemmas.List.{take-append-le}
use Rattle.std.proofs.Math.Seq.{take-length}
use Rattle.si_model.specs.Machine.{State, Refused}
use Rattle.si_model.specs.Transactions.{Answer, Said}
use Rattle.cell_key.specs.declared.refusals.Refusal.TheVariants.{FrameTooLarge}
use Rattle.std.proofs.lemmas.Bool.Decides.{nat_tests}
use Rattle.request_codec.specs.Answers.{answer_body}
use Rattle.request_codec.specs.declared.answers.Answer.{Answer as CodecAnswer}
use Rattle.request_codec.specs.declared.operations.Operation.{Operation as Lent}
use Rattle.request_codec.specs.Stream.{frame, frames, IsPartial, IsTooLong}
use Rattle.server_loop.specs.Runs.{Taken, Body, Oversize, RunsAs, SaysAll}
use Rattle.server_loop.specs.Batches.{over_at, AnswersAll, Answered, Cuts, Delivers, IsAnswered, IsBatch, IsOver, Outcome, ServesOn}
use Rattle.server_loop.specs.Serve.{taken_of, written_of, EndsBy, Handles, IsCutShort, Serves, TakesBodies, WritesReplies}
use Rattle.server_loop.specs.declared.statuses.End.{End}
use Rattle.server_loop.specs.declared.statuses.End.TheVariants as ends
use Rattle.server_loop.specs.declared.statuses.ServeFault.{ServeFault}
use Rattle.server_loop.specs.declared.statuses.ServeFault.TheVariants as faults
use Rattle.server_loop.proofs.ReachedRuns.{RunOver-append, SaysAll-append, laws_of}
use Rattle.server_loop.proofs.ServingLemmas.{Answered-joins, Answered-then, frames-join, frames_none, IsPartial-nil, map-join, taken-join}
use Rattle.server_loop.proofs.StreamReads.{length-map, none_long}

-- ---- runs

module _ {S : Type 0} (shows : S → State → Type 0) where
  pub RunsAs-none : (a : S) → RunsAs shows a a [] []
  RunsAs-none a = λ before reached shown. record { after = before; run = refl; reached = reached; laws = laws_of before reached; shows = shown }

  pub RunsAs-append : (a b c : S) (ts us : List Taken) (rs qs : List Answer) → RunsAs shows a b ts rs → RunsAs shows b c us qs → RunsAs shows a c (ts ++ us) (rs ++ qs)
  RunsAs-append a b c ts us rs qs first second = λ before reached shown.
      let one = first before reached shown in
      let two = second one.after one.reached one.shows in
      record {
        after = two.after;
        run = RunOver-append before one.after two.after ts us rs qs one.run two.run;
        reached = two.reached;
        laws = two.laws;
        shows = two.shows;
      }

  -- a shown state is still shown
  pub RunsAs-kept : (a b c : S) (ts : List Taken) (rs : List Answer) → RunsAs shows a b ts rs → ((st : State) → shows b st → shows c st) → RunsAs shows a c ts rs
  RunsAs-kept a b c ts rs first keeps = λ before reached shown.
      let one = first before reached shown in
      record { after = one.after; run = one.run; reached = one.reached; laws = one.laws; shows = keeps one.after one.shows }

  -- a length past the limit
  pub RunsAs-oversize : (a : S) → RunsAs shows a a (Oversize ∷ []) (Said (Refused FrameTooLarge) ∷ [])
  RunsAs-oversize a = λ before reached shown. record { after = before; run = (before, (refl, refl), refl); reached = reached; laws = laws_of before reached; shows = shown }

-- ---- the inputs taken

no_oversize : (rest : List ℕ) → IsPartial rest → taken_of [] rest ≡ []
no_oversize rest p = let w = p.within in grind (arith, nat_tests)

oversize : (rest : List ℕ) → IsTooLong rest → taken_of [] rest ≡ Oversize ∷ []
oversize rest p = let w = p.past in let v = p.whole_length in grind (arith, nat_tests)

-- before less than a frame only bodies are taken
pub taken-partial : (bodies : List (List ℕ)) (rest : List ℕ) → IsPartial rest → map Body bodies ++ [] ≡ taken_of bodies rest
taken-partial bodies rest p = ap (λ l. map Body bodies ++ l) (sym (no_oversize rest p))

pub taken-large : (bodies : List (List ℕ)) (rest : List ℕ) → IsTooLong rest → map Body bodies ++ Oversize ∷ [] ≡ taken_of bodies rest
taken-large bodies rest p = ap (λ l. map Body bodies ++ l) (sym (oversize rest p))

pub taken-over : (bodies : List (List ℕ)) (rest : List ℕ) (over : List Taken) → IsOver over rest → TakesBodies (Err faults.Write) bodies rest (map Body bodies ++ over)
taken-over bodies rest over (inl none) = inl (ap (λ l. map Body bodies ++ l) none ∙ append-nil (map Body bodies))
taken-over bodies rest over (inr (large, one)) = inr (large, ap (λ l. map Body bodies ++ l) one)

pub taken-at : (end : End) (bodies : List (List ℕ)) (r : ℕ) (read rest : List ℕ) (left h i : Option (List ℕ)) → EndsBy (Ok end) r read rest left h i → map Body bodies ++ over_at end ≡ taken_of bodies rest
taken-at ends.Clean bodies r read rest left h i p = taken-partial bodies rest (subst IsPartial (sym p.0) IsPartial-nil)
taken-at ends.Truncated bodies r read rest left h i p = taken-partial bodies rest p.1
taken-at ends.TooLarge bodies r read rest left h i p = taken-large bodies rest p.0
taken-at ends.ReadsUsedUp bodies r read rest left h i p = taken-partial bodies rest p.1

-- without bytes there is no rest
pub no_rest : (bodies : List (List ℕ)) (bytes rest : List ℕ) → bytes ≡ frames bodies ++ rest → bytes ≡ [] → IsPartial rest
no_rest bodies bytes rest whole none =
    let size : length bytes ≡ length (frames bodies ++ rest) = ap length whole in
    let zero : length bytes ≡ 0 = ap length none in
    subst IsPartial (sym (none_long rest (omega (arith, size, zero, length-append (frames bodies) rest)))) IsPartial-nil

pub written_of-join : (rs qs : List Answer) → written_of (rs ++ qs) ≡ written_of rs ++ written_of qs
written_of-join rs qs = ap frames (map-join answer_body rs qs) ∙ frames-join (map answer_body rs) (map answer_body qs)

pub length-replies : (bodies : List (List ℕ)) (rs : List Answer) → bodies ≡ map answer_body rs → length bodies ≡ length rs
length-replies bodies rs are = ap length are ∙ length-map answer_body rs

one_reply : (last : List ℕ) (rs : List Answer) → last ∷ [] ≡ map answer_body rs → (reply : Answer) × (rs ≡ reply ∷ [])
one_reply last [] is = absurd (let size : length (last ∷ []) ≡ 0 = ap length is in omega (arith, size))
one_reply last (reply ∷ []) is = (reply, refl)
one_reply last (reply ∷ other ∷ more) is = absurd (let size : length (last ∷ []) ≡ length (answer_body reply ∷ answer_body other ∷ map answer_body more) = ap length is in omega (arith, size))

-- ---- answers of the machine

module _ {S : Type 0} (shows : S → State → Type 0) (says : S → Lent → CodecAnswer → S → Type 0) (between : S → S → Type 0) where
  -- the replies with these bodies
  abbrev pub Replies : S → List Taken → List (List ℕ) → S → Type 0
  Replies a ts bodies e = (replies : List Answer) × (bodies ≡ map answer_body replies) × RunsAs shows a e ts replies × SaysAll says between a ts replies e

  pub replies_of : (a e : S) (ts : List Taken) (bodies : List (List ℕ)) → AnswersAll (IsAnswered shows says between) a ts bodies e → Replies a ts bodies e
  replies_of a e [] [] p = ([], refl, subst (λ (s : S). RunsAs shows a s [] []) (sym p) (RunsAs-none shows a), p)
  replies_of a e (t ∷ ts) (b ∷ bodies) p =
      let one = p.1 in
      let more = replies_of p.0 e ts bodies p.2 in (
        one.reply ∷ more.0,
        ap (λ l. l ∷ bodies) one.is_body ∙ ap (λ l. answer_body one.reply ∷ l) more.1,
        RunsAs-append shows a p.0 e (t ∷ []) ts (one.reply ∷ []) more.0 (RunsAs-kept shows a one.mid p.0 (t ∷ []) (one.reply ∷ []) one.run one.shown) more.2,
        (one.mid, p.0, one.said, one.tended, more.3),
      )
  replies_of a e [] (b ∷ bodies) p = absurd p
  replies_of a e (t ∷ ts) [] p = absurd p

  -- of two parts
  abbrev pub Replies-append : (a b c : S) (ts us : List Taken) (rs qs : List (List ℕ)) → Replies a ts rs b → Replies b us qs c → Replies a (ts ++ us) (rs ++ qs) c
  Replies-append a b c ts us rs qs p q = (
    p.0 ++ q.0,
    ap (λ l. l ++ qs) p.1 ∙ ap (λ l. map answer_body p.0 ++ l) q.1 ∙ sym (map-join answer_body p.0 q.0),
    RunsAs-append shows a b c ts us p.0 q.0 p.2 q.2,
    SaysAll-append says between a b c ts us p.0 q.0 p.3 q.3,
  )

  -- bytes whose frames were answered, as the machine handles them
  pub handled : (result : Result End ServeFault) (a e : S) (bytes rest : List ℕ) (over : List Taken) (rs : List (List ℕ)) (h i : Option (List ℕ)) (p : Answered (IsAnswered shows says between) a e bytes rest over rs) → TakesBodies result p.bodies rest (map Body p.bodies ++ over)
      → (m : Replies a (map Body p.bodies ++ over) rs e) (written : List ℕ) → WritesReplies result m.0 written → Appends h i written → Handles shows says between result a e bytes rest h i
  handled result a e bytes rest over rs h i p takes m written writes appended = record {
    bodies = p.bodies;
    whole = p.whole;
    each = p.each;
    taken = map Body p.bodies ++ over;
    takes = takes;
    replies = m.0;
    run = m.2;
    said = m.3;
    written = written;
    writes = writes;
    appended = appended;
  }

-- ---- a server whose answers need no settling

module _ {S : Type 0} (shows : S → State → Type 0) (says : S → Lent → CodecAnswer → S → Type 0) (between : S → S → Type 0) where
  abbrev Same : S → S → Type 0
  Same old new = new ≡ old

  abbrev Never : S → S → Type 0
  Never old new = ⊥

  joins : (first mid new : S) (taken : Taken) (body : List ℕ) → IsAnswered shows says between first taken body mid → Same mid new ⊎ Never mid new → IsAnswered shows says between first taken body new
  joins first mid new taken body is (inl same) = subst (λ (s : S). IsAnswered shows says between first taken body s) (sym same) is
  joins first mid new taken body is (inr none) = absurd none

  all_handled : (result : Result End ServeFault) (a e : S) (bytes rest : List ℕ) (over : List Taken) (h i : Option (List ℕ)) (p : Delivers (IsAnswered shows says between) Same Never a e bytes rest over h i) → TakesBodies result p.answered.bodies rest (map Body p.answered.bodies ++ over)
      → ((rs : List Answer) → WritesReplies result rs (written_of rs)) → Handles shows says between result a e bytes rest h i
  all_handled result a e bytes rest over h i p takes writes =
      let m = replies_of shows says between a e (map Body p.answered.bodies ++ over) p.replies p.answered.said in
      handled shows says between result a e bytes rest over p.replies h i p.answered takes m (written_of m.0) (writes m.0) (subst (λ (l : List (List ℕ)). Appends h i (frames l)) m.1 p.appended)

  -- a reply was cut short
  cut_short : (earlier replies : List Answer) (bodies sent : List (List ℕ)) (written more : List ℕ) → IsBatch 1 bodies → 0 < length bodies → bodies ≡ map answer_body replies → sent ≡ map answer_body earlier → frames bodies ≡ written ++ more → 0 < length more
      → IsCutShort (earlier ++ replies) (frames sent ++ written)
  cut_short earlier replies bodies sent written more (inl none) some are are_sent parts left = absurd (let size : length bodies ≡ 0 = ap length none in omega (arith, some, size))
  cut_short earlier replies bodies sent written more (inr (first, last, is, few)) some are are_sent parts left =
      let alone : first ≡ [] = frames_none first (none_long (frames first) (omega (arith, few))) in
      let one : bodies ≡ last ∷ [] = is ∙ ap (λ l. l ++ last ∷ []) alone in
      let found = one_reply last replies (sym one ∙ are) in
      let reply = found.0 in
      let whole : frame (answer_body reply) ≡ written ++ more =
      sym (append-nil (frame (answer_body reply))) ∙ (ap (λ l. frames (map answer_body l)) (sym found.1) ∙ (ap frames (sym are) ∙ parts)) in
      let size : length (frame (answer_body reply)) ≡ length (written ++ more) = ap length whole in
      record {
        earlier = earlier;
        reply = reply;
        is_replied = ap (λ l. earlier ++ l) found.1;
        count = length written;
        short = omega (arith, size, left, length-append written more);
        wrote = ap (λ l. frames l ++ written) are_sent
            ∙ ap (λ l. written_of earlier ++ l) (sym (ap (take (length written)) whole ∙ (take-append-le (length written) written more (omega arith) ∙ take-length written)));
      }

  cut_handled : (a e : S) (bytes rest : List ℕ) (h i : Option (List ℕ)) → Cuts (IsAnswered shows says between) Same Never 1 faults.Write a e bytes rest h i → Handles shows says between (Err faults.Write) a e bytes rest h i
  cut_handled a e bytes rest h i c =
      let fr = c.front.answered in
      let batch = Answered-joins (IsAnswered shows says between) Same Never joins c.mid c.last e c.behind rest c.over c.replies (inl c.cut.0) c.some c.batch in
      let one = replies_of shows says between a c.mid (map Body fr.bodies ++ []) c.front.replies fr.said in
      let two = replies_of shows says between c.mid e (map Body c.batch.bodies ++ c.over) c.replies batch.said in
      let p = Answered-then (IsAnswered shows says between) a c.mid e bytes c.behind rest c.over c.front.replies c.replies fr batch in
      let both = Replies-append shows says between a c.mid e (map Body fr.bodies ++ []) (map Body c.batch.bodies ++ c.over) c.front.replies c.replies one two in
      let m : Replies shows says between a (map Body p.bodies ++ c.over) (c.front.replies ++ c.replies) e =
      (both.0, both.1, subst (λ (ts : List Taken). RunsAs shows a e ts both.0) (taken-join fr.bodies c.batch.bodies c.over) both.2, subst (λ (ts : List Taken). SaysAll says between a ts both.0 e) (taken-join fr.bodies c.batch.bodies c.over) both.3) in
      let short = cut_short one.0 two.0 c.replies c.front.replies c.written c.more c.small c.some two.1 one.1 c.parts c.cut.1 in
      handled shows says between (Err faults.Write) a e bytes rest c.over (c.front.replies ++ c.replies) h i p (taken-over p.bodies rest c.over c.is_over) m (frames c.front.replies ++ c.written) (inr short)
      (Appends-trans h c.sent i (frames c.front.replies) c.written c.front.appended c.appended)

  pub serves : (a e : S) (l m h i : Option (List ℕ)) (r : ℕ) (result : Result End ServeFault) → ServesOn (IsAnswered shows says between) Same Never 1 [] a e l m h i r result → Serves shows says between a e l m h i r result
  serves a e l m h i r (Ok end) p = record {
    read = p.read;
    consumed = p.consumed;
    rest = p.rest;
    open_rest = p.open_rest;
    handled = all_handled (Ok end) a e p.read p.rest (over_at end) h i p.outcome (taken-at end p.outcome.answered.bodies r p.read p.rest m h i p.ending) (λ rs. refl);
    ending = p.ending;
  }
  serves a e l m h i r (Err faults.Read) p = record {
    read = p.read;
    consumed = p.consumed;
    rest = p.rest;
    open_rest = p.open_rest;
    handled = all_handled (Err faults.Read) a e p.read p.rest [] h i p.outcome (taken-partial p.outcome.answered.bodies p.rest p.ending) (λ rs. refl);
    ending = p.ending;
  }
  serves a e l m h i r (Err faults.NoMemory) p = record {
    read = p.read;
    consumed = p.consumed;
    rest = p.rest;
    open_rest = p.open_rest;
    handled = all_handled (Err faults.NoMemory) a e p.read p.rest [] h i p.outcome (taken-partial p.outcome.answered.bodies p.rest (no_rest p.outcome.answered.bodies p.read p.rest p.outcome.answered.whole p.ending.0)) (λ rs. refl);
    ending = p.ending;
  }
  serves a e l m h i r (Err faults.Write) p = record {
    read = p.read;
    consumed = p.consumed;
    rest = p.rest;
    open_rest = p.open_rest;
    handled = elim p.outcome [
      | inl (over, is_over, q) ↦ all_handled (Err faults.Write) a e p.read p.rest over h i q (taken-over q.answered.bodies p.rest over is_over) (λ rs. inl refl)
      | inr c ↦ cut_handled a e p.read p.rest h i c
    ];
    ending = p.ending;
  }
  serves a e l m h i r (Err faults.Log) p = absurd p.outcome.cut.0
