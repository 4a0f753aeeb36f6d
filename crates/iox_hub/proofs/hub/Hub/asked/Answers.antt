use Rattle.iox_control.specs.Settings.{settings_of}
use Rattle.iox_hub.specs.Making.{options_of}
use Rattle.iox_hub.proofs.MakingAsked.{asked_here}
use Rattle.iox_hub.proofs.hub.Hub.asked.Goals as goal

pub returns : goal.returns
returns g c x =
    asked_here _ c.args.self.now c.self.view_is x c.args.role (options_of c.args.options) c.form.result (settings_of c.settings.result) c.asked_of.result
    c.settings.ensures c.form.ensures c.asked_of.ensures
