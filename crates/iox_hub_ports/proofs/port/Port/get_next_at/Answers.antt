use Rattle.std.proofs.Common.{None, ap, length, subst, sym, ◌∙◌}
use Rattle.std.specs.Prelude.{◌==◌, is_some, slice_get}
use Rattle.std.proofs.lemmas.Option.{IfSome_then}
use Rattle.iox_tables.specs.Lanes.{LaneState, without_returned}
use Rattle.iox_tables.specs.Incomings.{IncomingState, IsFirstAt}
use Rattle.iox_tables.specs.HubStates.Tables.{PortState}
use Rattle.iox_tables.specs.Pipes.{lane_to_get, with_lane}
use Rattle.iox_hub_ports.specs.Ports.{port_of}
use Rattle.iox_hub_ports.proofs.Firsts.{asked_other, changed_other, told_other}
use Rattle.iox_hub_ports.proofs.InPlace.{no_rank}
use Rattle.iox_hub_ports.proofs.port.Port.get_next_at.Goals as goal

pub get_next_at-requires : goal.get_next_at-requires
get_next_at-requires c =
    record { once = subst (λ (p : PortState). IsFirstAt p.incoming.pipes c.args.hint) (sym c.self.view_is) c.requires }

pub returns-then-keeps_none-clause-lowest : goal.returns-then-keeps_none-clause-lowest
returns-then-keeps_none-clause-lowest c =
    rw (← c.self.view_is)
    (c.get_next_at.ensures.lowest
    ∙ asked_other (port_of c.self.inside.info c.self.inside.expired c.self.inside.incoming) c.args.sender lane_to_get None
    (no_rank c.self.inside.expired.pipes c.args.sender
    (ap (λ (p : PortState). length p.expired.pipes == 0) c.self.view_is ∙ sym c.keeps_none.ensures ∙ c.if-keeps_none.true)))

pub returns-then-keeps_none-clause-oldest : goal.returns-then-keeps_none-clause-oldest
returns-then-keeps_none-clause-oldest c =
    rw (← c.self.view_is)
    (IfSome_then c.get_next_at.result c.get_next_at.ensures.oldest
    (λ n is. sym (told_other (λ (l : LaneState). slice_get l.returned 0) None
    (port_of c.self.inside.info c.self.inside.expired c.self.inside.incoming) c.args.sender n.lane
    (no_rank c.self.inside.expired.pipes c.args.sender
    (ap (λ (p : PortState). length p.expired.pipes == 0) c.self.view_is ∙ sym c.keeps_none.ensures ∙ c.if-keeps_none.true))) ∙ is))

pub returns-then-keeps_none-clause-got_back : goal.returns-then-keeps_none-clause-got_back
returns-then-keeps_none-clause-got_back c =
    rw (← c.self.view_is)
    (IfSome_then c.get_next_at.result c.get_next_at.ensures.got_back
    (λ n is. ap (λ (e : IncomingState). port_of c.self.inside.info c.self.inside.expired e) is
    ∙ changed_other (λ q. with_lane without_returned q n.lane)
    (port_of c.self.inside.info c.self.inside.expired c.self.inside.incoming) c.args.sender
    (no_rank c.self.inside.expired.pipes c.args.sender
    (ap (λ (p : PortState). length p.expired.pipes == 0) c.self.view_is ∙ sym c.keeps_none.ensures ∙ c.if-keeps_none.true))))

pub returns-then-keeps_none-clause-more : goal.returns-then-keeps_none-clause-more
returns-then-keeps_none-clause-more c =
    IfSome_then c.get_next_at.result c.get_next_at.ensures.more
    (λ n more. more ∙ ap is_some
    (asked_other (port_of c.self.inside.info c.self.inside.expired c.get_next_at.new.self) c.args.sender lane_to_get None
    (no_rank c.self.inside.expired.pipes c.args.sender
    (ap (λ (p : PortState). length p.expired.pipes == 0) c.self.view_is ∙ sym c.keeps_none.ensures ∙ c.if-keeps_none.true))))
