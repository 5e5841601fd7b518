use Rattle.std.proofs.Common.{refl}
use Rattle.commit_log.proofs.Fronts.{no_length, no_checksum, too_long, too_short, no_match, whole_frame}
use Rattle.commit_log.proofs.frames.first_record.Goals as goal

pub returns-in_default-clause-none : goal.returns-in_default-clause-none
returns-in_default-clause-none c = no_length _ c.in_default.ensures.cases

pub returns-in_default-split_first_chunk-clause-none :
    goal.returns-in_default-split_first_chunk-clause-none
returns-in_default-split_first_chunk-clause-none c =
    no_checksum _ _ c.in-Some.ensures.cases.1 c.in_default-split_first_chunk.ensures.cases

pub returns-then-len-gt-LONGEST_RECORD-clause-none : goal.returns-then-len-gt-LONGEST_RECORD-clause-none
returns-then-len-gt-LONGEST_RECORD-clause-none c =
    too_long _ _ _ c.in-Some.ensures.cases.0 c.length_in-len.ensures.value c.if-len-gt-LONGEST_RECORD.true

pub returns-then-rest-len-clause-none : goal.returns-then-rest-len-clause-none
returns-then-rest-len-clause-none c =
    too_short _ _ _ _ _ c.in-Some.ensures.cases.0 c.length_in-len.ensures.value c.in-Some.ensures.cases.1 c.in-Some-split_first_chunk.ensures.cases.1 c.if-rest-len.true

pub returns-then-not-is_checksum-clause-none : goal.returns-then-not-is_checksum-clause-none
returns-then-not-is_checksum-clause-none c =
    no_match _ _ _ _ _ _ c.in-Some.ensures.cases.0 c.length_in-len.ensures.value c.in-Some.ensures.cases.1 c.in-Some-split_first_chunk.ensures.cases.0 c.in-Some-split_first_chunk.ensures.cases.1 (λ same. let h = c.if-not-is_checksum.ensures.1 same in cc)

pub returns-clause-front : goal.returns-clause-front
returns-clause-front c =
    whole_frame _ _ _ _ _ _ _ c.in-Some.ensures.cases.0 c.length_in-len.ensures.spells c.in-Some.ensures.cases.1 c.in-Some-split_first_chunk.ensures.cases.0 c.in-Some-split_first_chunk.ensures.cases.1 c.if-rest-len.false refl (c.if-not-is_checksum.ensures.0 refl)
