use Rattle.iox_wire_layouts.proofs.Regions.{ports_have_regions}
use Rattle.iox_wire_layouts.proofs.Layouts.{planned_layouts_fit, planned_queues_suit, planned_returns_have_room, known_settings_are_planned, planned_settings_agree}
use Rattle.iox_wire_layouts.proofs.Stays.{plans_stay}
use Rattle.iox_wire_layouts.proofs.laws.layouts_meet_the_laws.Goals as goal

pub returns-clause-regions : goal.returns-clause-regions
returns-clause-regions c = ports_have_regions

pub returns-clause-fits : goal.returns-clause-fits
returns-clause-fits c = planned_layouts_fit

pub returns-clause-suits : goal.returns-clause-suits
returns-clause-suits c = planned_queues_suit

pub returns-clause-returns : goal.returns-clause-returns
returns-clause-returns c = planned_returns_have_room

pub returns-clause-known : goal.returns-clause-known
returns-clause-known c = known_settings_are_planned

pub returns-clause-agrees : goal.returns-clause-agrees
returns-clause-agrees c = planned_settings_agree

pub returns-clause-stays : goal.returns-clause-stays
returns-clause-stays c = plans_stay
