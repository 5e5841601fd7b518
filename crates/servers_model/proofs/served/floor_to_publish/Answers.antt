use Rattle.servers_model.proofs.served.floor_to_publish.Goals as goal

pub returns : goal.returns
returns c = c.floor.ensures.below
