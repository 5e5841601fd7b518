use Rattle.txn_client.proofs.sessions.Clients.top.Goals as goal

pub returns-clause-shown : goal.returns-clause-shown
returns-clause-shown c = λ st shown. shown.top

pub returns-clause-known : goal.returns-clause-known
returns-clause-known c = λ st known. known
