use Rattle.std.proofs.Common.{None, ap, length, subst, sym, ◌<◌, ◌∙◌, slice_set}
use Rattle.std.specs.Prelude.{is_some, slice_get}
use Rattle.std.proofs.lemmas.Option.{IfSome_then}
use Rattle.iox_tables.specs.Lanes.{LaneState, without_returned}
use Rattle.iox_hub_ports.specs.InPlace.{IsFirstIn}
use Rattle.iox_hub_ports.specs.Ports.{PortsState}
use Rattle.iox_hub_ports.proofs.Keeping.{IsPorts-set}
use Rattle.iox_hub_ports.proofs.Nexts.{left_set}
use Rattle.iox_hub_ports.proofs.Places.{with_those}
use Rattle.iox_hub_ports.proofs.Seats.{get_in, lane_changed_at, lowest_at, told_at}
use Rattle.iox_hub_ports.proofs.ports.Ports.get_next_in.Goals as goal

pub get_next_at-requires : goal.get_next_at-requires
get_next_at-requires c =
    (subst (λ (s : PortsState). IsFirstIn s.ports c.args.at c.args.hint) (sym c.self.view_is) c.requires.once) c.index_mut.result.now
    (get_in c.self.inside.ports.items c.args.at c.index_mut.result.now
    (subst (λ (s : PortsState). c.args.at < length s.ports) (sym c.self.view_is) c.requires.there) c.index_mut.ensures.value)

pub invariant_of-self : goal.invariant_of-self
invariant_of-self c =
    IsPorts-set c.self.inside.ports.items c.args.at c.self.inside.room c.self.inside.last c.self.inside.ports.cap c.index_mut.result.now c.get_next_at.new.self
    c.self.invariant c.index_mut.ensures.value c.get_next_at.ensures.number c.get_next_at.ensures.role

pub returns-clause-lowest : goal.returns-clause-lowest
returns-clause-lowest c =
    rw (← c.self.view_is)
    (c.get_next_at.ensures.lowest ∙ lowest_at c.self.inside.ports.items c.args.at c.args.sender c.index_mut.result.now
    c.self.invariant.apart (subst (λ (s : PortsState). c.args.at < length s.ports) (sym c.self.view_is) c.requires.there) c.index_mut.ensures.value)

pub returns-clause-oldest : goal.returns-clause-oldest
returns-clause-oldest c =
    rw (← c.self.view_is)
    (IfSome_then c.get_next_at.result c.get_next_at.ensures.oldest
    (λ n is. sym (told_at c.self.inside.ports.items c.args.at c.args.sender n.lane c.index_mut.result.now (λ (l : LaneState). slice_get l.returned 0) None
    c.self.invariant.apart (subst (λ (s : PortsState). c.args.at < length s.ports) (sym c.self.view_is) c.requires.there) c.index_mut.ensures.value) ∙ is))

pub returns-clause-got_back : goal.returns-clause-got_back
returns-clause-got_back c =
    rw (← c.self.view_is)
    (IfSome_then c.get_next_at.result c.get_next_at.ensures.got_back
    (λ n is. ap (with_those c.self.inside.room)
    (ap (slice_set c.self.inside.ports.items c.args.at) is
    ∙ lane_changed_at c.self.inside.ports.items c.args.at c.args.sender n.lane c.index_mut.result.now without_returned
    c.self.invariant.apart (subst (λ (s : PortsState). c.args.at < length s.ports) (sym c.self.view_is) c.requires.there) c.index_mut.ensures.value)))

pub returns-clause-more : goal.returns-clause-more
returns-clause-more c =
    IfSome_then c.get_next_at.result c.get_next_at.ensures.more
    (λ n is. is ∙ ap is_some
    (left_set c.self.inside.ports.items c.args.at c.args.sender c.index_mut.result.now c.get_next_at.new.self c.self.invariant.apart
    (get_in c.self.inside.ports.items c.args.at c.index_mut.result.now
    (subst (λ (s : PortsState). c.args.at < length s.ports) (sym c.self.view_is) c.requires.there) c.index_mut.ensures.value)
    c.index_mut.ensures.value c.get_next_at.ensures.number))
