use Rattle.iox_control.specs.Settings.{settings_of}
use Rattle.iox_hub.proofs.Starting.{hub_starts}
use Rattle.iox_hub.proofs.hub.Hub.new.Goals as goal

pub invariant_of-result : goal.invariant_of-result
invariant_of-result g c =
    hub_starts (settings_of c.args.settings) (settings_of c.started.result) _ _ c.in_ok-control.control _ _
    c.started.ensures c.in_ok-control.ensures.made c.in_ok-control.ensures.order
    (c.new-3.ensures.makes_sense g.Q.Payload.MANY) (c.new-4.ensures.makes_sense g.P.Payload.MANY)
    c.new-2.ensures c.new-5.ensures
