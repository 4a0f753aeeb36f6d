use Rattle.iox_registry.proofs.dynamic_config.request_response.DynamicConfig.list_servers.Goals as goal

pub returns : goal.returns
returns g c = rw (← c.self.view_is) c.list.ensures
