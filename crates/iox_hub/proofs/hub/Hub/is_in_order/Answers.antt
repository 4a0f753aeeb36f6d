use Rattle.iox_hub.proofs.hub.Hub.is_in_order.Goals as goal

pub returns : goal.returns
returns g c = rw (← c.self.view_is) c.self.invariant
