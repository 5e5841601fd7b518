use Rattle.servers_model.proofs.served.serve_collect_begin.Goals as goal

pub returns : goal.returns
returns c = record { serves = c.begin.ensures.begins }
