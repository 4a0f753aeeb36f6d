use Rattle.iox_registry.proofs.dynamic_config.blackboard.DynamicConfig.list_readers.Goals as goal

pub returns : goal.returns
returns g c = rw (← c.self.view_is) c.list.ensures
