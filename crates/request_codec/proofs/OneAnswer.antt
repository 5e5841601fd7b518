-- A body has one answer, and is not longer than the longest.
use Rattle.std.proofs.Common.{◌≡◌, ◌≢◌, ℕ, ◌+◌, ◌*◌, ◌<◌, ◌≤◌, ◌^◌, List, [], ◌∷◌, ◌++◌, length, Option, refl, sym, ap, subst, ◌∙◌, drop, length-append, arith}
use Rattle.std.specs.List.{AllByRecursion, flat_map}
use Rattle.si_model.specs.Messages.{Item, Reply, Begun}
use Rattle.si_model.specs.Transactions.{Answer, Said, CommitDone, CommitConflict, ReadDone, most_read, most_told, told_lengths}
use Rattle.si_model.specs.AnswerLimits.{IsInReadLimits}
use Rattle.request_codec.specs.Answers.{answer_body, told_fields, longest_answer, AnswerBytesFit, ToldFits, ToldStartFits, AreTold, IsAnswerBody, AnswerNeedsMemory, HoldsAnswerWithinLimits}
use Rattle.request_codec.specs.Fields.{number}
use Rattle.request_codec.specs.Replies.{reply_body, IsReply, NeedsMemory}
use Rattle.request_codec.specs.Stream.{frame}
use Rattle.request_codec.proofs.Fields.{same_number, past_number, first, second, length-number}
use Rattle.request_codec.proofs.Longest.{length-frame, reply_fits, short_body}
use Rattle.request_codec.proofs.OneReply.{one_reply}
use Rattle.request_codec.proofs.OneRequest.{lone_number}
use Rattle.request_codec.proofs.Parts.{same_parts}
use Rattle.request_codec.proofs.Told.{same_told, length-all_told, told_starts, all_told_fit}

-- ---- replies

-- the first byte of a reply is neither a Commit's nor a Read's
pub reply_unlike : (r : Reply) (n : ℕ) → 0xB1 < n → n < 0xB4 → first (reply_body r) ≡ n → ⊥
reply_unlike (Begun start) n low high e = omega (arith, low, high, e)
reply_unlike other n low high e = omega (arith, low, high, e)

pub reply_is : (r : Reply) (body : List ℕ) → IsReply r body → IsAnswerBody (Said r) body
reply_is r body is = record { numbers = is.numbers; bytes = is.bytes; whole = is.whole }

pub is_reply : (r : Reply) (body : List ℕ) → IsAnswerBody (Said r) body → IsReply r body
is_reply r body is = record { numbers = is.numbers; bytes = is.bytes; whole = is.whole }

pub reply_needs : (body : List ℕ) → NeedsMemory body → AnswerNeedsMemory body
reply_needs body needs = (Said needs.0, reply_is needs.0 body needs.1, needs.2)

-- a body that is no reply's, and begins neither as a Commit's answer nor as a Read's
pub no_answer : (body fields : List ℕ) (tag : ℕ) → body ≡ tag ∷ fields → tag ≢ 0xB2 → tag ≢ 0xB3 → ((r : Reply) → IsReply r body → ⊥) → (answer : Answer) → IsAnswerBody answer body → ⊥
no_answer body fields tag front no_commit no_read none (Said r) is = none r (is_reply r body is)
no_answer body fields tag front no_commit no_read none (CommitDone start stamp) is = no_commit (ap first (sym front ∙ is.whole))
no_answer body fields tag front no_commit no_read none (CommitConflict start place) is = no_commit (ap first (sym front ∙ is.whole))
no_answer body fields tag front no_commit no_read none (ReadDone start said) is = no_read (ap first (sym front ∙ is.whole))

-- ---- the answer of each number, and of each tag

pub record AsDone (a : Answer) (f : List ℕ) : Type 0 where
  pub start : ℕ
  pub stamp : ℕ
  pub start_fits : start < 2 ^ 64
  pub stamp_fits : stamp < 2 ^ 64
  pub is : a ≡ CommitDone start stamp
  pub fields : f ≡ number 8 start ++ number 8 stamp

pub done_only : (a : Answer) (f : List ℕ) → IsAnswerBody a (0xB2 ∷ 0x01 ∷ f) → AsDone a f
done_only (CommitDone start stamp) f p = record { start = start; stamp = stamp; start_fits = p.numbers.0; stamp_fits = p.numbers.1; is = refl; fields = ap (drop 2) p.whole }
done_only (CommitConflict start place) f p = let e = ap second p.whole in absurd (omega (arith, e))
done_only (ReadDone start said) f p = let e = ap first p.whole in absurd (omega (arith, e))
done_only (Said r) f p = absurd (reply_unlike r 0xB2 (omega arith) (omega arith) (sym (ap first p.whole)))

pub record AsConflict (a : Answer) (f : List ℕ) : Type 0 where
  pub start : ℕ
  pub place : ℕ
  pub start_fits : start < 2 ^ 64
  pub place_fits : place < 2 ^ 16
  pub is : a ≡ CommitConflict start place
  pub fields : f ≡ number 8 start ++ number 2 place

pub conflict_only : (a : Answer) (f : List ℕ) → IsAnswerBody a (0xB2 ∷ 0x02 ∷ f) → AsConflict a f
conflict_only (CommitConflict start place) f p = record { start = start; place = place; start_fits = p.numbers.0; place_fits = p.numbers.1; is = refl; fields = ap (drop 2) p.whole }
conflict_only (CommitDone start stamp) f p = let e = ap second p.whole in absurd (omega (arith, e))
conflict_only (ReadDone start said) f p = let e = ap first p.whole in absurd (omega (arith, e))
conflict_only (Said r) f p = absurd (reply_unlike r 0xB2 (omega arith) (omega arith) (sym (ap first p.whole)))

-- a Commit's answer has one of two tags
pub no_commit : (a : Answer) (tag : ℕ) (f : List ℕ) → tag ≢ 1 → tag ≢ 2 → IsAnswerBody a (0xB2 ∷ tag ∷ f) → ⊥
no_commit (CommitDone start stamp) tag f no_done no_conflict p = no_done (ap second p.whole)
no_commit (CommitConflict start place) tag f no_done no_conflict p = no_conflict (ap second p.whole)
no_commit (ReadDone start said) tag f no_done no_conflict p = let e = ap first p.whole in omega (arith, e)
no_commit (Said r) tag f no_done no_conflict p = reply_unlike r 0xB2 (omega arith) (omega arith) (sym (ap first p.whole))

pub no_bare : (a : Answer) (f : List ℕ) → length f ≡ 0 → IsAnswerBody a (0xB2 ∷ f) → ⊥
no_bare (CommitDone start stamp) f none p = let e = ap length p.whole in omega (arith, e, none)
no_bare (CommitConflict start place) f none p = let e = ap length p.whole in omega (arith, e, none)
no_bare (ReadDone start said) f none p = let e = ap first p.whole in omega (arith, e)
no_bare (Said r) f none p = reply_unlike r 0xB2 (omega arith) (omega arith) (sym (ap first p.whole))

pub record AsReads (a : Answer) (f : List ℕ) : Type 0 where
  pub start : ℕ
  pub said : List (Option Item)
  pub fits : start < 2 ^ 64
  pub starts : AllByRecursion ToldStartFits said
  pub few : length said ≤ most_read
  pub short : told_lengths said ≤ most_told + 255 * 9
  pub is : a ≡ ReadDone start said
  pub fields : f ≡ number 8 start ++ (number 4 (length said) ++ flat_map told_fields said)

pub reads_only : (a : Answer) (f : List ℕ) → IsAnswerBody a (0xB3 ∷ f) → AsReads a f
reads_only (ReadDone start said) f p = record { start = start; said = said; fits = p.numbers.0; starts = p.numbers.1; few = p.bytes.0; short = p.bytes.1; is = refl; fields = ap (drop 1) p.whole }
reads_only (CommitDone start stamp) f p = let e = ap first p.whole in absurd (omega (arith, e))
reads_only (CommitConflict start place) f p = let e = ap first p.whole in absurd (omega (arith, e))
reads_only (Said r) f p = absurd (reply_unlike r 0xB3 (omega arith) (omega arith) (sym (ap first p.whole)))

-- ---- by their fields

pub reads_is : (fields rest : List ℕ) (start count : ℕ) (said : List (Option Item)) → fields ≡ number 8 start ++ (number 4 count ++ rest) → start < 2 ^ 64 → count ≤ most_read → length rest ≤ most_told + 255 * 9 → length said ≡ count
    → AllByRecursion ToldFits said → rest ≡ flat_map told_fields said → IsAnswerBody (ReadDone start said) (0xB3 ∷ fields)
reads_is fields rest start count said front fits few short many all_fit whole = record {
  numbers = (fits, told_starts said all_fit);
  bytes = (omega (arith, few, many), omega (arith, short, length-all_told said, ap length whole));
  whole = ap (λ (t : List ℕ). 0xB3 ∷ t) (front ∙ ap (λ (t : List ℕ). number 8 start ++ t) (ap (λ (n : ℕ). number 4 n ++ rest) (sym many) ∙ ap (λ (t : List ℕ). number 4 (length said) ++ t) whole));
}

pub reads_needs : (fields rest : List ℕ) (start count : ℕ) → fields ≡ number 8 start ++ (number 4 count ++ rest) → start < 2 ^ 64 → count ≤ most_read → length rest ≤ most_told + 255 * 9 → AreTold count rest → 0 < count
    → AnswerNeedsMemory (0xB3 ∷ fields)
reads_needs fields rest start count front fits few short are some = (
  ReadDone start are.parts,
  reads_is fields rest start count are.parts front fits few short are.many are.all_fit are.whole,
  subst (λ (n : ℕ). 0 < n) (sym are.many) some,
)

-- ---- two answers with the same body

same_done : (start stamp : ℕ) (b : Answer) → start < 2 ^ 64 → stamp < 2 ^ 64 → AsDone b (number 8 start ++ number 8 stamp) → CommitDone start stamp ≡ b
same_done start stamp b start_fits stamp_fits g =
    let s = same_number 8 start g.start (number 8 stamp) (number 8 g.stamp) start_fits g.start_fits g.fields in
    let t = lone_number stamp g.stamp stamp_fits g.stamp_fits (past_number 8 start g.start (number 8 stamp) (number 8 g.stamp) g.fields) in
    ap (λ n. CommitDone n stamp) s ∙ ap (λ n. CommitDone g.start n) t ∙ sym g.is

same_conflict : (start place : ℕ) (b : Answer) → start < 2 ^ 64 → place < 2 ^ 16 → AsConflict b (number 8 start ++ number 2 place) → CommitConflict start place ≡ b
same_conflict start place b start_fits place_fits g =
    let s = same_number 8 start g.start (number 2 place) (number 2 g.place) start_fits g.start_fits g.fields in
    let rest = past_number 8 start g.start (number 2 place) (number 2 g.place) g.fields in
    let t = same_number 2 place g.place [] [] place_fits g.place_fits (ap (λ (t : List ℕ). t ++ []) rest) in
    ap (λ n. CommitConflict n place) s ∙ ap (λ n. CommitConflict g.start n) t ∙ sym g.is

same_reads : (start : ℕ) (said : List (Option Item)) (b : Answer) → start < 2 ^ 64 → AllByRecursion ToldStartFits said → IsInReadLimits said → AsReads b (number 8 start ++ (number 4 (length said) ++ flat_map told_fields said)) → ReadDone start said ≡ b
same_reads start said b fits starts limits g =
    let list = flat_map told_fields said in
    let other = flat_map told_fields g.said in
    let s = same_number 8 start g.start (number 4 (length said) ++ list) (number 4 (length g.said) ++ other) fits g.fits g.fields in
    let behind = past_number 8 start g.start (number 4 (length said) ++ list) (number 4 (length g.said) ++ other) g.fields in
    let few = limits.0 in
    let few_other = g.few in
    let short = limits.1 in
    let short_other = g.short in
    let size = same_number 4 (length said) (length g.said) list other (omega (arith, few)) (omega (arith, few_other)) behind in
    let rest = past_number 4 (length said) (length g.said) list other behind in
    let same = same_parts ToldFits told_fields same_told said g.said (all_told_fit said starts (omega (arith, short))) (all_told_fit g.said g.starts (omega (arith, short_other))) size rest in
    ap (λ n. ReadDone n said) s ∙ ap (λ xs. ReadDone g.start xs) same ∙ sym g.is

pub one_answer : (a b : Answer) (body : List ℕ) → IsAnswerBody a body → IsAnswerBody b body → a ≡ b
one_answer (CommitDone start stamp) b body p q = same_done start stamp b p.numbers.0 p.numbers.1 (done_only b (number 8 start ++ number 8 stamp) (subst (IsAnswerBody b) p.whole q))
one_answer (CommitConflict start place) b body p q =
    same_conflict start place b p.numbers.0 p.numbers.1 (conflict_only b (number 8 start ++ number 2 place) (subst (IsAnswerBody b) p.whole q))
one_answer (ReadDone start said) b body p q =
    same_reads start said b p.numbers.0 p.numbers.1 p.bytes (reads_only b (number 8 start ++ (number 4 (length said) ++ flat_map told_fields said)) (subst (IsAnswerBody b) p.whole q))
one_answer (Said r) (Said s) body p q = ap (λ x. Said x) (one_reply r s body (is_reply r body p) (is_reply s body q))
one_answer (Said r) (CommitDone start stamp) body p q = absurd (reply_unlike r 0xB2 (omega arith) (omega arith) (ap first (sym p.whole ∙ q.whole)))
one_answer (Said r) (CommitConflict start place) body p q = absurd (reply_unlike r 0xB2 (omega arith) (omega arith) (ap first (sym p.whole ∙ q.whole)))
one_answer (Said r) (ReadDone start said) body p q = absurd (reply_unlike r 0xB3 (omega arith) (omega arith) (ap first (sym p.whole ∙ q.whole)))

-- ---- lengths

pub length-reads : (start : ℕ) (said : List (Option Item)) → length (answer_body (ReadDone start said)) ≡ 13 + told_lengths said
length-reads start said = omega (
  arith,
  length-append (number 8 start) (number 4 (length said) ++ flat_map told_fields said),
  length-append (number 4 (length said)) (flat_map told_fields said),
  length-number 8 start,
  length-number 4 (length said),
  length-all_told said,
)

pub answer_fits : (answer : Answer) → HoldsAnswerWithinLimits answer → AnswerBytesFit answer
answer_fits (Said r) p = reply_fits r p
answer_fits (CommitDone start stamp) p = tt
answer_fits (CommitConflict start place) p = tt
answer_fits (ReadDone start said) p = p

pub short_answer : (answer : Answer) → HoldsAnswerWithinLimits answer → length (frame (answer_body answer)) ≤ longest_answer
short_answer (Said r) p = omega (arith, length-frame (reply_body r), short_body r p)
short_answer (CommitDone start stamp) p =
    omega (arith, length-frame (answer_body (CommitDone start stamp)), length-append (number 8 start) (number 8 stamp), length-number 8 start, length-number 8 stamp)
short_answer (CommitConflict start place) p =
    omega (arith, length-frame (answer_body (CommitConflict start place)), length-append (number 8 start) (number 2 place), length-number 8 start, length-number 2 place)
short_answer (ReadDone start said) p = let short = p.1 in omega (arith, length-frame (answer_body (ReadDone start said)), length-reads start said, short)

pub read_frame : (start : ℕ) (said : List (Option Item)) → told_lengths said ≡ most_told + 255 * 9 → length (frame (answer_body (ReadDone start said))) ≡ longest_answer
read_frame start said much = omega (arith, length-frame (answer_body (ReadDone start said)), length-reads start said, much)
