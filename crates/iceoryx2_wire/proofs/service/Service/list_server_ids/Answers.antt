use Rattle.iceoryx2_wire.proofs.service.Service.list_server_ids.Goals as goal

pub returns : goal.returns
returns g c = rw (← c.self.view_is) c.list_server_ids.ensures
