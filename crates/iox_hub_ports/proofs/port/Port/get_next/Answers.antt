use Rattle.std.proofs.Common.{None, ap, sym, ◌∙◌}
use Rattle.std.specs.Option.{option_map_or}
use Rattle.std.specs.Prelude.{is_some, slice_get}
use Rattle.std.proofs.lemmas.Option.{IfSome_then}
use Rattle.iox_tables.specs.Lanes.{LaneState, without_returned}
use Rattle.iox_tables.specs.Incomings.{IncomingState, on_pipe}
use Rattle.iox_tables.specs.HubStates.Tables.{PortState, pipes_of}
use Rattle.iox_tables.specs.Pipes.{lane_to_get, with_lane}
use Rattle.iox_hub_ports.specs.Ports.{lane_to_get_on, port_of}
use Rattle.iox_hub_ports.proofs.Firsts.{asked_other, changed_expired, changed_other, from_expired, told_expired, told_other}
use Rattle.iox_hub_ports.proofs.Nexts.{both_of, left_expired}
use Rattle.iox_hub_ports.proofs.port.Port.get_next.Goals as goal

pub returns-in-Some-clause-lowest : goal.returns-in-Some-clause-lowest
returns-in-Some-clause-lowest c =
    rw (← c.self.view_is)
    (c.get_next.ensures.lowest ∙ ap (λ o. option_map_or lane_to_get o None)
    (from_expired (port_of c.self.inside.info c.self.inside.expired c.self.inside.incoming) c.args.sender c.in-Some.rank
    (sym c.rank.ensures.first ∙ c.in-Some.is)))

pub returns-in-Some-clause-oldest : goal.returns-in-Some-clause-oldest
returns-in-Some-clause-oldest c =
    rw (← c.self.view_is)
    (IfSome_then c.get_next.result c.get_next.ensures.oldest
    (λ n is. sym (told_expired (λ (l : LaneState). slice_get l.returned 0) None (port_of c.self.inside.info c.self.inside.expired c.self.inside.incoming) c.args.sender n.lane c.in-Some.rank (sym c.rank.ensures.first ∙ c.in-Some.is)) ∙ is))

pub returns-in-Some-clause-got_back : goal.returns-in-Some-clause-got_back
returns-in-Some-clause-got_back c =
    rw (← c.self.view_is)
    (IfSome_then c.get_next.result c.get_next.ensures.got_back
    (λ n is. ap (λ (e : IncomingState). port_of c.self.inside.info e c.self.inside.incoming) is
    ∙ changed_expired (λ q. with_lane without_returned q n.lane) (port_of c.self.inside.info c.self.inside.expired c.self.inside.incoming) c.args.sender c.in-Some.rank (sym c.rank.ensures.first ∙ c.in-Some.is)))

pub returns-in-Some-clause-more : goal.returns-in-Some-clause-more
returns-in-Some-clause-more c =
    both_of c.get_next.result c.get_next.ensures.got_back c.get_next.ensures.more
    (λ n is m. m ∙ ap is_some
    (ap (λ e. on_pipe lane_to_get None e c.in-Some.rank) is
    ∙ left_expired without_returned n.lane (port_of c.self.inside.info c.self.inside.expired c.self.inside.incoming) c.args.sender c.in-Some.rank (sym c.rank.ensures.first ∙ c.in-Some.is)
    ∙ ap (λ (p : PortState). lane_to_get_on (pipes_of p) c.args.sender)
    (sym (ap (λ (e : IncomingState). port_of c.self.inside.info e c.self.inside.incoming) is
    ∙ changed_expired (λ q. with_lane without_returned q n.lane) (port_of c.self.inside.info c.self.inside.expired c.self.inside.incoming) c.args.sender c.in-Some.rank (sym c.rank.ensures.first ∙ c.in-Some.is)))))

pub returns-in-None-clause-lowest : goal.returns-in-None-clause-lowest
returns-in-None-clause-lowest c =
    rw (← c.self.view_is)
    (c.get_next-in-None.ensures.lowest ∙ asked_other (port_of c.self.inside.info c.self.inside.expired c.self.inside.incoming) c.args.sender lane_to_get None (sym c.rank.ensures.first ∙ c.in-None.is))

pub returns-in-None-clause-oldest : goal.returns-in-None-clause-oldest
returns-in-None-clause-oldest c =
    rw (← c.self.view_is)
    (IfSome_then c.get_next-in-None.result c.get_next-in-None.ensures.oldest
    (λ n is. sym (told_other (λ (l : LaneState). slice_get l.returned 0) None (port_of c.self.inside.info c.self.inside.expired c.self.inside.incoming) c.args.sender n.lane (sym c.rank.ensures.first ∙ c.in-None.is)) ∙ is))

pub returns-in-None-clause-got_back : goal.returns-in-None-clause-got_back
returns-in-None-clause-got_back c =
    rw (← c.self.view_is)
    (IfSome_then c.get_next-in-None.result c.get_next-in-None.ensures.got_back
    (λ n is. ap (λ (e : IncomingState). port_of c.self.inside.info c.self.inside.expired e) is
    ∙ changed_other (λ q. with_lane without_returned q n.lane) (port_of c.self.inside.info c.self.inside.expired c.self.inside.incoming) c.args.sender (sym c.rank.ensures.first ∙ c.in-None.is)))

pub returns-in-None-clause-more : goal.returns-in-None-clause-more
returns-in-None-clause-more c =
    IfSome_then c.get_next-in-None.result c.get_next-in-None.ensures.more
    (λ n more. more ∙ ap is_some
    (asked_other (port_of c.self.inside.info c.self.inside.expired c.get_next-in-None.new.self) c.args.sender lane_to_get None (sym c.rank.ensures.first ∙ c.in-None.is)))
