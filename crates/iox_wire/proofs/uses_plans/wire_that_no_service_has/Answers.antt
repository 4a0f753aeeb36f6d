use Rattle.iox_wire.proofs.NewRefusals.{on_ok, fits_service}
use Rattle.iox_wire.proofs.uses_plans.wire_that_no_service_has.Goals as goal

pub new-requires-clause-opens : goal.new-requires-clause-opens
new-requires-clause-opens c told = absurd (c.requires.unfit (fits_service c.args.plan c.args.terms c.args.nodes.now told))

pub returns : goal.returns
returns c = record { always = on_ok _ c.requires.unfit c.new.ensures.served }
