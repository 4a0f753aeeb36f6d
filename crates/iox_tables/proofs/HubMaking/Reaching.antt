-- The states as a hub starts, and once a port is made, can be reached.
use Rattle.std.specs.Prelude.{[]}
use Rattle.std.proofs.Common.{ap, ◌∙◌}
use Rattle.iox_model.specs.Commands.{Create}
use Rattle.iox_model.specs.Makings.{port_reply}
use Rattle.iox_model.specs.Runs.{OfHub, at_rest, untouched}
use Rattle.iox_model.specs.States as m
use Rattle.iox_laws.proofs.WeaveWorlds.Inductions.{step_is_reached}
use Rattle.iox_tables.specs.HubStates.States.{state_shown}
use Rattle.iox_tables.specs.HubMaking.NewPorts.{given_made, port_made, with_port_made}
use Rattle.iox_tables.specs.HubMaking.Reached.{MakingsAreReached, StartsAreReached}
use Rattle.iox_tables.proofs.HubMaking.Commanding.{each_making_is_shown}
use Rattle.iox_tables.proofs.HubMaking.Starting.{each_start_is_shown}

pub starts_are_reached : StartsAreReached
starts_are_reached x settings is = record {
  limits = is.limits;
  acts = x.acts;
  id = is.id;
  request = is.request;
  response = is.response;
  steps = [];
  history = (each_start_is_shown x settings).state is.limits is.raises ∙ ap (λ (all : m.Members). at_rest all (untouched is.limits x.acts)) is.members;
}

pub makings_are_reached : MakingsAreReached
makings_are_reached x t node role id o memory place words pools reached e can nobody stay =
    step_is_reached (state_shown x t) (state_shown (given_made x words t.next_number o.handler) (with_port_made t (port_made x t node role id o place) pools))
    (OfHub node (Create role id o) (port_reply role t.next_number)) reached
    ((each_making_is_shown x t node role id o).made memory place words pools e can nobody stay)
