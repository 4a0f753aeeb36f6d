use Rattle.iceoryx2_wire.proofs.service.Service.list_node_ids.Goals as goal

pub returns : goal.returns
returns g c = rw (← c.self.view_is) c.list_node_ids.ensures
