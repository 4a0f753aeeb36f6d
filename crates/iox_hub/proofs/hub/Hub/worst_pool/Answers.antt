use Rattle.iox_control.specs.Settings.{settings_of}
use Rattle.iox_hub.specs.Making.{options_of}
use Rattle.iox_hub.proofs.MakingPools.{pool_here}
use Rattle.iox_hub.proofs.hub.Hub.worst_pool.Goals as goal

pub returns : goal.returns
returns g c x =
    pool_here _ c.args.self.now c.self.view_is x c.args.role (options_of c.args.options) (settings_of c.settings.result) c.worst_pool.result
    c.settings.ensures c.worst_pool.ensures
