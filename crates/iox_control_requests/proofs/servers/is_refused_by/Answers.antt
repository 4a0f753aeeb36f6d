use Rattle.std.proofs.Common.{List, ap, sym, true, ◌∙◌}
use Rattle.iox_lanes.specs.Lanes.{is_full}
use Rattle.iox_tables.specs.HubStates.Tables.{PortState}
use Rattle.iox_hub_ports.specs.Ports.{info_at, on_way_at}
use Rattle.iox_control_requests.proofs.Walks.{asks_none, asks_of}
use Rattle.iox_control_requests.proofs.servers.is_refused_by.Goals as goal

pub returns-then-is_full_at : goal.returns-then-is_full_at
returns-then-is_full_at g c server e =
    asks_of (g.B.WhenFull.fails c.args.backpressure.now) c.args.control.now.tables.ports c.args.client c.args.place server c.known_at.result c.fails.result e
    (ap (λ (ps : List PortState). on_way_at is_full true ps c.args.place c.args.client 0) (sym c.ports.ensures.ports) ∙ sym c.is_full_at.ensures.full ∙ c.if-is_full_at.true)
    (c.known_at.ensures ∙ ap (λ (ps : List PortState). info_at ps c.args.place) c.ports-then-is_full_at.ensures.ports) c.fails.ensures

pub returns : goal.returns
returns g c server e =
    asks_none (g.B.WhenFull.fails c.args.backpressure.now) c.args.control.now.tables.ports c.args.client c.args.place server e
    (ap (λ (ps : List PortState). on_way_at is_full true ps c.args.place c.args.client 0) (sym c.ports.ensures.ports) ∙ sym c.is_full_at.ensures.full ∙ c.if-is_full_at.false)
