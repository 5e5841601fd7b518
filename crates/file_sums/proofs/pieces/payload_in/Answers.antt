use Rattle.std.proofs.Common.{refl}
use Rattle.file_sums.proofs.Fronts.{no_length, no_checksum, too_long, another_length, no_match, whole_piece}
use Rattle.file_sums.proofs.pieces.payload_in.Goals as goal

pub returns-in_default-clause-none : goal.returns-in_default-clause-none
returns-in_default-clause-none c = no_length _ _ _ c.in_default.ensures.cases

pub returns-in_default-split_first_chunk-clause-none :
    goal.returns-in_default-split_first_chunk-clause-none
returns-in_default-split_first_chunk-clause-none c =
    no_checksum _ _ _ _ c.in-Some.ensures.cases.1 c.in_default-split_first_chunk.ensures.cases

pub returns-then-payload-gt-MOST_PAYLOAD-clause-none : goal.returns-then-payload-gt-MOST_PAYLOAD-clause-none
returns-then-payload-gt-MOST_PAYLOAD-clause-none c =
    too_long _ _ _ _ _ c.in-Some.ensures.cases.1 c.in-Some-split_first_chunk.ensures.cases.1 c.if-payload-gt-MOST_PAYLOAD.true

pub returns-then-payload-length_in-clause-none : goal.returns-then-payload-length_in-clause-none
returns-then-payload-length_in-clause-none c =
    another_length _ _ _ _ _ _ _ c.in-Some.ensures.cases.0 c.length_in.ensures.value c.in-Some.ensures.cases.1 c.in-Some-split_first_chunk.ensures.cases.1 c.if-payload-length_in.true

pub returns-then-not-is_checksum-clause-none : goal.returns-then-not-is_checksum-clause-none
returns-then-not-is_checksum-clause-none c =
    no_match _ _ _ _ _ _ c.in-Some.ensures.cases.1 c.in-Some-split_first_chunk.ensures.cases.0 c.in-Some-split_first_chunk.ensures.cases.1 (λ same. let h = c.if-not-is_checksum.ensures.1 same in cc)

pub returns-clause-found : goal.returns-clause-found
returns-clause-found c =
    whole_piece _ _ _ _ _ _ _ _ c.in-Some.ensures.cases.0 c.length_in.ensures.spells c.in-Some.ensures.cases.1 c.in-Some-split_first_chunk.ensures.cases.0 c.in-Some-split_first_chunk.ensures.cases.1 c.if-payload-length_in.false (c.if-not-is_checksum.ensures.0 refl)
