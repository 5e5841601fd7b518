use Rattle.request_codec.proofs.decode_replies.decode_reply.Goals as goal

pub returns-in_default-operation-clause-needed : goal.returns-in_default-operation-clause-needed
returns-in_default-operation-clause-needed c = tt
