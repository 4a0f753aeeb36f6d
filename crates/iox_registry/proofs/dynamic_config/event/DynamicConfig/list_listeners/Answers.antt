use Rattle.iox_registry.proofs.dynamic_config.event.DynamicConfig.list_listeners.Goals as goal

pub returns : goal.returns
returns g c = rw (← c.self.view_is) c.list.ensures
