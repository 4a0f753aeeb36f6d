use Rattle.std.proofs.Common.{sym, ap, ◌∙◌, ◌+◌}
use Rattle.iox_types.specs.Layouts.{as_usize}
use Rattle.iox_types.specs.PoolSizes.{client_pool, server_pool}
use Rattle.iox_model.specs.Makings.{worst_pool}
use Rattle.iox_tables.specs.HubStates.States.{limits_of}
use Rattle.iox_tables.specs.HubMaking.Starts.{no_ports}
use Rattle.iox_control.specs.Settings.{settings_of}
use Rattle.iox_hub.specs.Making.{options_of}
use Rattle.iox_hub.proofs.pools.worst_pool.Goals as goal

pub returns-in-Server : goal.returns-in-Server
returns-in-Server c x =
    c.most_of_server.ensures
    ∙ ap (λ n. as_usize (server_pool n c.args.settings.active_requests c.args.settings.clients
    (client_pool c.args.settings.loaned_requests c.args.settings.active_requests c.args.settings.servers) (c.args.settings.response_buffer + c.args.settings.borrowed_responses)))
    (c.loans_of_one.ensures x)
    ∙ ap (λ r. as_usize (worst_pool (limits_of x (no_ports (settings_of c.args.settings))) r (options_of c.args.options))) (sym c.in-Server.is)
