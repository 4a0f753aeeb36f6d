use Rattle.iox_registry.proofs.dynamic_config.nodes.Nodes.list_node_ids.Goals as goal

pub returns : goal.returns
returns g c = rw (← c.self.view_is) c.list.ensures
