-- How answered, settled and written parts join.
use Rattle.std.proofs.Common.{◌≡◌, ℕ, ◌+◌, ◌<◌, ◌≤◌, Bool, true, false, nat_le, List, [], ◌∷◌, ◌++◌, length, map, Option, None, Some, Result, Ok, Err, ◌⊎◌, inl, inr, refl, sym, ap, ◌∙◌, subst, arith, append_assoc, append-nil, length-append, length-drop, take, drop, min, take-append-drop, is_some, IfNone}
use Rattle.std.specs.List.{AllByRecursion}
use Rattle.std.specs.Io.KnownBytes.{Appends, Consumes, Keeps}
use Rattle.std.proofs.KnownBytes.{Appends-trans, Appends-nil, Appends-kept, Keeps-refl}
use Rattle.std.proofs.lemmas.List.{take-append-le}
use Rattle.std.proofs.lemmas.List.Concat.{flat_map-append}
use Rattle.std.proofs.lemmas.Bool.Decides.{nat_tests}
use Rattle.std.specs.Int.{to_be_bytes, w32}
use Rattle.server_loop.specs.Runs.{Taken, Body, Oversize}
use Rattle.server_loop.specs.Batches.{Answered, AnswersAll, Cuts, Delivers, IsBatch, IsCutBy, IsOver, LeavesRest, Outcome, SettlesAll, over_of}
use Rattle.server_loop.specs.declared.frame_loop.Rest.{Rest}
use Rattle.server_loop.specs.declared.frame_loop.Rest.TheVariants as rests
use Rattle.request_codec.specs.Framing.{longest_frame}
use Rattle.request_codec.specs.Stream.{frame, frames, IsTooLong, IsPartial, BeginsNoFrame, IsBody}
use Rattle.server_loop.specs.declared.statuses.End.{End}
use Rattle.server_loop.specs.declared.statuses.ServeFault.{ServeFault}
use Rattle.server_loop.specs.declared.statuses.ServeFault.TheVariants as faults

-- ---- lists

pub map-join : {A B : Type 0} (f : A → B) (xs ys : List A) → map f (xs ++ ys) ≡ map f xs ++ map f ys
map-join f [] ys = refl
map-join f (x ∷ xs) ys = ap (λ l. f x ∷ l) (map-join f xs ys)

pub each-join : (bs cs : List (List ℕ)) → AllByRecursion IsBody bs → AllByRecursion IsBody cs → AllByRecursion IsBody (bs ++ cs)
each-join [] cs p q = q
each-join (b ∷ bs) cs p q = (p.0, each-join bs cs p.1 q)

pub frames-join : (bs cs : List (List ℕ)) → frames (bs ++ cs) ≡ frames bs ++ frames cs
frames-join bs cs = flat_map-append frame bs cs

pub taken-join : (bs cs : List (List ℕ)) (over : List Taken) → (map Body bs ++ []) ++ (map Body cs ++ over) ≡ map Body (bs ++ cs) ++ over
taken-join bs cs over =
    ap (λ l. l ++ (map Body cs ++ over)) (append-nil (map Body bs)) ∙ sym (append_assoc (map Body bs) (map Body cs) over)
    ∙ ap (λ l. l ++ over) (sym (map-join Body bs cs))

-- two cuts, one after the other
pub whole-join : (bs cs : List (List ℕ)) (bytes mid rest : List ℕ) → bytes ≡ frames bs ++ mid → mid ≡ frames cs ++ rest → bytes ≡ frames (bs ++ cs) ++ rest
whole-join bs cs bytes mid rest p q =
    p ∙ ap (λ x. frames bs ++ x) q ∙ sym (append_assoc (frames bs) (frames cs) rest) ∙ ap (λ x. x ++ rest) (sym (frames-join bs cs))

-- ---- the rest

pub BeginsNoFrame-from_partial : (rest : List ℕ) → IsPartial rest → BeginsNoFrame rest
BeginsNoFrame-from_partial rest p = record { short = λ h _. p.short h }

pub BeginsNoFrame-from_large : (rest : List ℕ) → IsTooLong rest → BeginsNoFrame rest
BeginsNoFrame-from_large rest p = record { short = λ h k. absurd (omega (arith, p.past)) }

pub IsPartial-nil : IsPartial []
IsPartial-nil = record { within = λ h. absurd (omega arith); short = λ h. absurd (omega arith) }

-- less than a frame leaves room for a byte
pub has_room : (hand : List ℕ) → IsPartial hand → length hand < longest_frame
has_room hand p = if_few (nat_le 4 (length hand)) refl where
  if_few : (b : Bool) → nat_le 4 (length hand) ≡ b → length hand < longest_frame
  if_few true is = let w = p.within in let s = p.short in grind (arith, nat_tests)
  if_few false is = grind (arith, nat_tests)

-- ---- frames

pub frame-long : (body : List ℕ) → 4 ≤ length (frame body)
unfolding frame
frame-long body = omega (arith, length-append (to_be_bytes w32 (length body)) body)

-- no bytes are of no replies
pub frames_none : (rs : List (List ℕ)) → frames rs ≡ [] → rs ≡ []
frames_none [] p = refl
frames_none (r ∷ rs) p = let size : length (frames (r ∷ rs)) ≡ 0 = ap length p in absurd (omega (arith, size, length-append (frame r) (frames rs), frame-long r))

pub frames_some : (rs : List (List ℕ)) → 0 < length (frames rs) → 0 < length rs
frames_some [] p = absurd (omega (arith, p))
frames_some (r ∷ rs) p = omega arith

-- waiting bytes are of replies
pub some_framed : (waiting : List ℕ) (rs : List (List ℕ)) → waiting ≡ frames rs → 0 < length waiting → 0 < length rs
some_framed waiting rs framed some = let size : length waiting ≡ length (frames rs) = ap length framed in frames_some rs (omega (arith, some, size))

pub IsOver-leaves : (ended : Option Rest) (rest behind : List ℕ) → LeavesRest ended rest behind → IsOver (over_of ended) rest
IsOver-leaves None rest behind p = inl refl
IsOver-leaves (Some rests.Partial) rest behind p = inl refl
IsOver-leaves (Some rests.TooLarge) rest behind p = inr (p, refl)

pub over_none : (ended : Option Rest) → is_some ended ≡ false → over_of ended ≡ []
over_none None none = refl
over_none (Some rest) none = cc

pub if_none : (ended : Option Rest) (P : Type 0) → is_some ended ≡ false → IfNone ended P → P
if_none None P none p = p
if_none (Some rest) P none p = cc

-- a batch goes on while its bytes are few
pub IsBatch-more : (most : ℕ) (rs qs : List (List ℕ)) → length (frames rs) < most → IsBatch most rs → length qs ≤ 1 → IsBatch most (rs ++ qs)
IsBatch-more most rs [] few small one = subst (IsBatch most) (sym (append-nil rs)) small
IsBatch-more most rs (q ∷ []) few small one = inr (rs, q, refl, few)
IsBatch-more most rs (q ∷ p ∷ qs) few small one = absurd (omega (arith, one))

-- ---- unchanged bytes

pub keeps_none : (h i : Option (List ℕ)) → Keeps h i → Appends h i []
keeps_none None i p = tt
keeps_none (Some x) None p = absurd p
keeps_none (Some x) (Some y) p = p ∙ sym (append-nil x)

pub reads_none : (l m : Option (List ℕ)) → Keeps l m → Consumes l m []
reads_none None m p = tt
reads_none (Some x) None p = absurd p
reads_none (Some x) (Some y) p = sym p

pub keeps_then : (h i j : Option (List ℕ)) (bs : List ℕ) → Keeps h i → Appends i j bs → Appends h j bs
keeps_then None i j bs p q = tt
keeps_then (Some x) None j bs p q = absurd p
keeps_then (Some x) (Some y) None bs p q = absurd q
keeps_then (Some x) (Some y) (Some z) bs p q = q ∙ ap (λ l. l ++ bs) p

-- ---- answers

module _ {S : Type 0} (answers : S → Taken → List ℕ → S → Type 0) where
  pub AnswersAll-append : (a m e : S) (ts us : List Taken) (rs qs : List (List ℕ)) → AnswersAll answers a ts rs m → AnswersAll answers m us qs e → AnswersAll answers a (ts ++ us) (rs ++ qs) e
  AnswersAll-append a m e [] us [] qs p q = subst (λ (s : S). AnswersAll answers s us qs e) p q
  AnswersAll-append a m e (t ∷ ts) us (r ∷ rs) qs p q = (p.0, p.1, AnswersAll-append p.0 m e ts us rs qs p.2 q)
  AnswersAll-append a m e [] us (r ∷ rs) qs p q = absurd p
  AnswersAll-append a m e (t ∷ ts) us [] qs p q = absurd p

  -- without a reply nothing was done
  pub none_answered : (a e : S) (ts : List Taken) (rs : List (List ℕ)) → rs ≡ [] → AnswersAll answers a ts rs e → e ≡ a
  none_answered a e [] [] is p = p
  none_answered a e [] (r ∷ rs) is p = absurd p
  none_answered a e (t ∷ ts) [] is p = absurd p
  none_answered a e (t ∷ ts) (r ∷ rs) is p = absurd (let size : length (r ∷ rs) ≡ 0 = ap length is in omega (arith, size))

  pub length-answered : (a e : S) (ts : List Taken) (rs : List (List ℕ)) → AnswersAll answers a ts rs e → length ts ≡ length rs
  length-answered a e [] [] p = refl
  length-answered a e (t ∷ ts) (r ∷ rs) p = let more : length ts ≡ length rs = length-answered p.0 e ts rs p.2 in omega (arith, more)
  length-answered a e [] (r ∷ rs) p = absurd p
  length-answered a e (t ∷ ts) [] p = absurd p

  pub Answered-none : (a : S) (bytes : List ℕ) → Answered answers a a bytes bytes [] []
  Answered-none a bytes = record { bodies = []; whole = refl; each = tt; said = refl }

  -- bytes were only moved
  pub Answered-unmoved : (a : S) (bytes rest : List ℕ) → rest ≡ bytes → Answered answers a a bytes rest [] []
  Answered-unmoved a bytes rest moved = record { bodies = []; whole = sym moved; each = tt; said = refl }

  pub Answered-one : (a b : S) (body bytes rest reply : List ℕ) → IsBody body → bytes ≡ frame body ++ rest → answers a (Body body) reply b → Answered answers a b bytes rest [] (reply ∷ [])
  Answered-one a b body bytes rest reply fits whole said = record {
    bodies = body ∷ [];
    whole = whole ∙ ap (λ l. l ++ rest) (sym (append-nil (frame body)));
    each = (fits, tt);
    said = (b, said, refl);
  }

  pub Answered-over : (a b : S) (bytes rest reply : List ℕ) → bytes ≡ rest → answers a Oversize reply b → Answered answers a b bytes rest (Oversize ∷ []) (reply ∷ [])
  Answered-over a b bytes rest reply same said = record { bodies = []; whole = same; each = tt; said = (b, said, refl) }

  abbrev pub Answered-then : (a b c : S) (bytes mid rest : List ℕ) (over : List Taken) (rs qs : List (List ℕ)) → Answered answers a b bytes mid [] rs → Answered answers b c mid rest over qs → Answered answers a c bytes rest over (rs ++ qs)
  Answered-then a b c bytes mid rest over rs qs p q = record {
    bodies = p.bodies ++ q.bodies;
    whole = whole-join p.bodies q.bodies bytes mid rest p.whole q.whole;
    each = each-join p.bodies q.bodies p.each q.each;
    said = subst (λ (ts : List Taken). AnswersAll answers a ts (rs ++ qs) c) (taken-join p.bodies q.bodies over) (AnswersAll-append a b c _ _ rs qs p.said q.said);
  }

  -- a batch goes on with what one more call answered
  pub batch_more : (most : ℕ) (a b c : S) (bytes mid rest : List ℕ) (over : List Taken) (rs qs : List (List ℕ)) (waiting waiting' : List ℕ) → IsBatch most rs → waiting ≡ frames rs → Answered answers a b bytes mid [] rs → length waiting < most
      → length qs ≤ 1 → waiting' ≡ waiting ++ frames qs → Answered answers b c mid rest over qs → (replies : List (List ℕ)) × IsBatch most replies × (waiting' ≡ frames replies) × Answered answers a c bytes rest over replies
  batch_more most a b c bytes mid rest over rs qs waiting waiting' small framed p few one grown q =
      let size : length waiting ≡ length (frames rs) = ap length framed in (
        rs ++ qs,
        IsBatch-more most rs qs (omega (arith, few, size)) small one,
        grown ∙ (ap (λ l. l ++ frames qs) framed ∙ sym (frames-join rs qs)),
        Answered-then a b c bytes mid rest over rs qs p q,
      )

-- ---- bytes at hand

-- some bytes of a piece were taken into a framer
pub taken_front : (hand piece front hand' behind : List ℕ) (m n room : ℕ) → front ≡ take m piece → n ≡ min (length front) room → hand' ≡ hand ++ take n front → behind ≡ drop n piece → hand' ++ behind ≡ hand ++ piece
taken_front hand piece front hand' behind m n room cut count grown left =
    let all : piece ≡ front ++ drop m piece = sym (take-append-drop m piece) ∙ ap (λ l. l ++ drop m piece) (sym cut) in
    let same : take n front ≡ take n piece = sym (take-append-le n front (drop m piece) (omega (arith, count))) ∙ ap (take n) (sym all) in
    ap (λ l. l ++ behind) grown ∙ (ap (λ l. (hand ++ l) ++ behind) same ∙ (ap (λ l. (hand ++ take n piece) ++ l) left
    ∙ (append_assoc hand (take n piece) (drop n piece) ∙ ap (λ l. hand ++ l) (take-append-drop n piece))))

-- the first frame of the bytes at hand, if it was in the framer
pub held_frame : (hand piece hand' behind left body : List ℕ) → hand' ++ behind ≡ hand ++ piece → hand' ≡ frame body ++ left → hand ++ piece ≡ frame body ++ (left ++ behind)
held_frame hand piece hand' behind left body same whole = sym same ∙ (ap (λ l. l ++ behind) whole ∙ append_assoc (frame body) left behind)

pub held_fewer : (hand piece hand' behind left body : List ℕ) (n : ℕ) → hand' ++ behind ≡ hand ++ piece → hand' ≡ frame body ++ left → behind ≡ drop n piece → length left + (length behind + length behind) < length hand + (length piece + length piece)
held_fewer hand piece hand' behind left body n same whole dropped =
    let sizes : length (hand' ++ behind) ≡ length (hand ++ piece) = ap length same in
    let size : length hand' ≡ length (frame body ++ left) = ap length whole in
    let less : length behind ≡ length (drop n piece) = ap length dropped in
    omega (arith, sizes, size, less, length-append hand' behind, length-append hand piece, length-append (frame body) left, length-drop n piece, frame-long body)

-- or in the piece, behind an empty framer
pub front_frame : (hand piece behind body : List ℕ) → hand ≡ [] → piece ≡ frame body ++ behind → hand ++ piece ≡ frame body ++ (hand ++ behind)
front_frame hand piece behind body none whole = ap (λ l. l ++ piece) none ∙ (whole ∙ ap (λ l. frame body ++ (l ++ behind)) (sym none))

pub front_fewer : (piece behind body : List ℕ) (n : ℕ) → piece ≡ frame body ++ behind → n + (length behind + length behind) < n + (length piece + length piece)
front_fewer piece behind body n whole =
    let size : length piece ≡ length (frame body ++ behind) = ap length whole in
    omega (arith, size, length-append (frame body) behind, frame-long body)

-- the frame of one reply was appended
pub one_framed : (waiting waiting' body : List ℕ) → waiting' ≡ waiting ++ frame body → waiting' ≡ waiting ++ frames (body ∷ [])
one_framed waiting waiting' body grown = grown ∙ ap (λ l. waiting ++ l) (sym (append-nil (frame body)))

-- ---- batches

module _ {S : Type 0} (answers : S → Taken → List ℕ → S → Type 0) (settles fails : S → S → Type 0) (joins : (first mid new : S) (taken : Taken) (body : List ℕ) → answers first taken body mid → settles mid new ⊎ fails mid new → answers first taken body new) where
  -- settling belongs to the last answer
  pub AnswersAll-joins : (m e : S) → settles m e ⊎ fails m e → (a : S) (ts : List Taken) (rs : List (List ℕ)) → 0 < length rs → AnswersAll answers a ts rs m → AnswersAll answers a ts rs e
  AnswersAll-joins m e is a [] [] some p = absurd (omega (arith, some))
  AnswersAll-joins m e is a [] (r ∷ rs) some p = absurd p
  AnswersAll-joins m e is a (t ∷ ts) [] some p = absurd p
  AnswersAll-joins m e is a (t ∷ []) (r ∷ []) some p = (e, joins a p.0 e t r p.1 (subst (λ (s : S). settles s e ⊎ fails s e) p.2 is), refl)
  AnswersAll-joins m e is a (t ∷ []) (r ∷ q ∷ rs) some p = absurd p.2
  AnswersAll-joins m e is a (t ∷ u ∷ ts) (r ∷ []) some p = absurd p.2
  AnswersAll-joins m e is a (t ∷ u ∷ ts) (r ∷ q ∷ rs) some p = (p.0, p.1, AnswersAll-joins m e is p.0 (u ∷ ts) (q ∷ rs) (omega arith) p.2)

  abbrev pub Answered-joins : (a m e : S) (bytes rest : List ℕ) (over : List Taken) (rs : List (List ℕ)) → settles m e ⊎ fails m e → 0 < length rs → Answered answers a m bytes rest over rs → Answered answers a e bytes rest over rs
  Answered-joins a m e bytes rest over rs is some p = record { bodies = p.bodies; whole = p.whole; each = p.each; said = AnswersAll-joins m e is a _ rs some p.said }

  SettlesAll-then : (a b c : S) → SettlesAll answers settles fails a b → SettlesAll answers settles fails b c → SettlesAll answers settles fails a c
  SettlesAll-then a b c (inl p) q = subst (λ (s : S). SettlesAll answers settles fails s c) p q
  SettlesAll-then a b c (inr p) (inl q) = subst (λ (s : S). SettlesAll answers settles fails a s) (sym q) (inr p)
  SettlesAll-then a b c (inr (ts, rs, m, some, said, settled)) (inr (us, qs, l, more, next, last)) = inr (
    ts ++ us,
    rs ++ qs,
    l,
    omega (arith, some, length-append rs qs),
    AnswersAll-append answers a b l ts us rs qs (AnswersAll-joins m b (inl settled) a ts rs some said) next,
    last,
  )

  pub Delivers-none : (a : S) (bytes : List ℕ) (h i : Option (List ℕ)) → Keeps h i → Delivers answers settles fails a a bytes bytes [] h i
  Delivers-none a bytes h i keeps = record { replies = []; answered = Answered-none answers a bytes; settled = inl refl; appended = keeps_none h i keeps }

  pub Delivers-then : (a b c : S) (bytes mid rest : List ℕ) (over : List Taken) (h i j : Option (List ℕ)) → Delivers answers settles fails a b bytes mid [] h i → Delivers answers settles fails b c mid rest over i j → Delivers answers settles fails a c bytes rest over h j
  Delivers-then a b c bytes mid rest over h i j p q = record {
    replies = p.replies ++ q.replies;
    answered = Answered-then answers a b c bytes mid rest over p.replies q.replies p.answered q.answered;
    settled = SettlesAll-then a b c p.settled q.settled;
    appended = subst (Appends h j) (sym (frames-join p.replies q.replies)) (Appends-trans h i j _ _ p.appended q.appended);
  }

  -- a batch was settled and written
  pub Delivers-batch : (a m e : S) (bytes rest : List ℕ) (over : List Taken) (rs : List (List ℕ)) (h i : Option (List ℕ)) → Answered answers a m bytes rest over rs → 0 < length rs → settles m e → Appends h i (frames rs) → Delivers answers settles fails a e bytes rest over h i
  Delivers-batch a m e bytes rest over rs h i p some settled appended = record {
    replies = rs;
    answered = Answered-joins a m e bytes rest over rs (inl settled) some p;
    settled = inr (_, rs, m, some, p.said, settled);
    appended = appended;
  }

  -- or no reply waited
  pub Delivers-nothing : (a m : S) (bytes rest : List ℕ) (over : List Taken) (rs : List (List ℕ)) (h : Option (List ℕ)) → rs ≡ [] → Answered answers a m bytes rest over rs → Delivers answers settles fails a m bytes rest over h h
  Delivers-nothing a m bytes rest over rs h none p = record {
    replies = rs;
    answered = p;
    settled = inl (none_answered answers a m _ rs none p.said);
    appended = subst (λ (l : List (List ℕ)). Appends h h (frames l)) (sym none) (Appends-nil h);
  }

  pub Delivers-kept : (a b : S) (bytes rest : List ℕ) (over : List Taken) (h i j k : Option (List ℕ)) → Keeps h i → Keeps j k → Delivers answers settles fails a b bytes rest over i j → Delivers answers settles fails a b bytes rest over h k
  Delivers-kept a b bytes rest over h i j k before after p = record {
    replies = p.replies;
    answered = p.answered;
    settled = p.settled;
    appended = Appends-kept h j k (frames p.replies) (keeps_then h i j (frames p.replies) before p.appended) after;
  }

  -- unread bytes come after the rest
  pub Delivers-more : (a b : S) (bytes rest more : List ℕ) (h i : Option (List ℕ)) → Delivers answers settles fails a b bytes rest [] h i → Delivers answers settles fails a b (bytes ++ more) (rest ++ more) [] h i
  Delivers-more a b bytes rest more h i p = record {
    replies = p.replies;
    answered = record {
      bodies = p.answered.bodies;
      whole = ap (λ x. x ++ more) p.answered.whole ∙ append_assoc (frames p.answered.bodies) rest more;
      each = p.answered.each;
      said = p.answered.said;
    };
    settled = p.settled;
    appended = p.appended;
  }

  pub Cuts-after : (most : ℕ) (fault : ServeFault) (a b e : S) (bytes behind rest : List ℕ) (h i j : Option (List ℕ)) → Delivers answers settles fails a b bytes behind [] h i → Cuts answers settles fails most fault b e behind rest i j → Cuts answers settles fails most fault a e bytes rest h j
  Cuts-after most fault a b e bytes behind rest h i j p c = record {
    mid = c.mid;
    behind = c.behind;
    sent = c.sent;
    front = Delivers-then a b c.mid bytes behind c.behind [] h i c.sent p c.front;
    last = c.last;
    over = c.over;
    replies = c.replies;
    batch = c.batch;
    is_over = c.is_over;
    small = c.small;
    some = c.some;
    written = c.written;
    more = c.more;
    parts = c.parts;
    appended = c.appended;
    cut = c.cut;
  }

  -- a first batch was cut
  pub Cuts-first : (most : ℕ) (fault : ServeFault) (a m e : S) (bytes rest : List ℕ) (over : List Taken) (rs : List (List ℕ)) (waiting written more : List ℕ) (h i : Option (List ℕ)) → Answered answers a m bytes rest over rs → IsOver over rest → IsBatch most rs → 0 < length rs
      → waiting ≡ frames rs → waiting ≡ written ++ more → Appends h i written → IsCutBy answers settles fails fault m e written more → Cuts answers settles fails most fault a e bytes rest h i
  Cuts-first most fault a m e bytes rest over rs waiting written more h i p is_over small some framed parts appended cut = record {
    mid = a;
    behind = bytes;
    sent = h;
    front = Delivers-none a bytes h h (Keeps-refl h);
    last = m;
    over = over;
    replies = rs;
    batch = p;
    is_over = is_over;
    small = small;
    some = some;
    written = written;
    more = more;
    parts = sym framed ∙ parts;
    appended = appended;
    cut = cut;
  }

  -- the bytes of a piece are done as their rest after some delivered frames is
  pub Outcome-after : (most : ℕ) (result : Result End ServeFault) (a b c : S) (bytes mid rest : List ℕ) (h i j : Option (List ℕ)) → Delivers answers settles fails a b bytes mid [] h i → Outcome answers settles fails most result b c mid rest i j → Outcome answers settles fails most result a c bytes rest h j
  Outcome-after most (Ok end) a b c bytes mid rest h i j p q = Delivers-then a b c bytes mid rest _ h i j p q
  Outcome-after most (Err faults.Read) a b c bytes mid rest h i j p q = Delivers-then a b c bytes mid rest [] h i j p q
  Outcome-after most (Err faults.NoMemory) a b c bytes mid rest h i j p q = Delivers-then a b c bytes mid rest [] h i j p q
  Outcome-after most (Err faults.Write) a b c bytes mid rest h i j p (inl (over, is_over, q)) = inl (over, is_over, Delivers-then a b c bytes mid rest over h i j p q)
  Outcome-after most (Err faults.Write) a b c bytes mid rest h i j p (inr q) = inr (Cuts-after most faults.Write a b c bytes mid rest h i j p q)
  Outcome-after most (Err faults.Log) a b c bytes mid rest h i j p q = Cuts-after most faults.Log a b c bytes mid rest h i j p q
