use Rattle.std.proofs.Common.{refl}
use Rattle.iox_model.specs.declared.kind.Role.TheVariants.{Server}
use Rattle.iox_model.specs.Messages.{closed_for}
use Rattle.iox_hub_ports.specs.InPlace.{places_of}
use Rattle.iox_hub_ports.proofs.Hinted.{first_in_place}
use Rattle.iox_hub_ports.proofs.Known.{only_first}
use Rattle.iox_control.proofs.Closings.{all_changed, one_more}
use Rattle.iox_control.proofs.known.close_with_server.Goals as goal

pub on_known_pipe_in-requires-clause-once : goal.on_known_pipe_in-requires-clause-once
on_known_pipe_in-requires-clause-once c = first_in_place c.args.ports.now.ports c.args.at c.args.rank c.requires.apart

pub returns : goal.returns
returns c =
    let only = only_first (places_of Server c.args.ports.now.ports) c.args.at c.requires.only in
    all_changed (λ r. closed_for r c.args.label.request) c.args.client c.args.label.lane c.args.ports.now c.on_known_pipe_in.new.self 1
    (one_more (λ r. closed_for r c.args.label.request) c.args.client c.args.label.lane c.args.ports.now c.args.ports.now 0 refl
    c.on_known_pipe_in.new.self c.args.at only.0 c.on_known_pipe_in.ensures.changed)
    c.len.ensures.apart only.1
