use Rattle.iox_registry.proofs.dynamic_config.publish_subscribe.DynamicConfig.list_subscribers.Goals as goal

pub returns : goal.returns
returns g c = rw (← c.self.view_is) c.list.ensures
