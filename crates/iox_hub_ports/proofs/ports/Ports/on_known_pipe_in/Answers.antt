use Rattle.std.proofs.Common.{ap, get_or, length, subst, sym, ◌<◌, ◌≡◌, ◌∙◌, slice_set, true}
use Rattle.std.specs.Prelude.{false}
use Rattle.iox_tables.specs.HubStates.Tables.{PortState}
use Rattle.iox_tables.specs.HubStates.Ways.{with_pipe_of}
use Rattle.iox_hub_ports.specs.InPlace.{IsFirstIn, in_place, on_pipe_from}
use Rattle.iox_hub_ports.specs.Known.{is_from}
use Rattle.iox_hub_ports.specs.Ports.{PortsState}
use Rattle.iox_hub_ports.proofs.InPlace.{changed_in, said_in}
use Rattle.iox_hub_ports.proofs.Keeping.{IsPorts-set, same_number_of, same_role_of}
use Rattle.iox_hub_ports.proofs.Known.{in_place_within}
use Rattle.iox_hub_ports.proofs.Places.{with_those}
use Rattle.iox_hub_ports.proofs.Seats.{get_in}
use Rattle.iox_hub_ports.proofs.ports.Ports.on_known_pipe_in.Goals as goal

pub index_mut-requires : goal.index_mut-requires
index_mut-requires g c =
    subst (λ n. c.args.place < n) (sym c.self.inside.ports.ok.0)
    (in_place_within (is_from c.args.rank c.args.sender) c.self.inside.ports.items c.args.place
    (subst (λ (s : PortsState). in_place (is_from c.args.rank c.args.sender) false s.ports c.args.place ≡ true) (sym c.self.view_is) c.requires.from))

pub on_known_pipe-requires-clause-once : goal.on_known_pipe-requires-clause-once
on_known_pipe-requires-clause-once g c =
    (subst (λ (s : PortsState). IsFirstIn s.ports c.args.place c.args.rank) (sym c.self.view_is) c.requires.once) c.index_mut.result.now
    (get_in c.self.inside.ports.items c.args.place c.index_mut.result.now
    (in_place_within (is_from c.args.rank c.args.sender) c.self.inside.ports.items c.args.place
    (subst (λ (s : PortsState). in_place (is_from c.args.rank c.args.sender) false s.ports c.args.place ≡ true) (sym c.self.view_is) c.requires.from))
    c.index_mut.ensures.value)

pub on_known_pipe-requires-clause-from : goal.on_known_pipe-requires-clause-from
on_known_pipe-requires-clause-from g c =
    said_in c.self.inside.ports.items c.args.place c.index_mut.result.now (is_from c.args.rank c.args.sender) false
    (in_place_within (is_from c.args.rank c.args.sender) c.self.inside.ports.items c.args.place
    (subst (λ (s : PortsState). in_place (is_from c.args.rank c.args.sender) false s.ports c.args.place ≡ true) (sym c.self.view_is) c.requires.from))
    c.index_mut.ensures.value
    ∙ subst (λ (s : PortsState). in_place (is_from c.args.rank c.args.sender) false s.ports c.args.place ≡ true) (sym c.self.view_is) c.requires.from

pub invariant_of-self : goal.invariant_of-self
invariant_of-self g c =
    IsPorts-set c.self.inside.ports.items c.args.place c.self.inside.room c.self.inside.last c.self.inside.ports.cap c.index_mut.result.now c.on_known_pipe.new.self
    c.self.invariant c.index_mut.ensures.value
    (ap (λ (p : PortState). p.number) c.on_known_pipe.ensures.changed ∙ same_number_of (g.S.PipeStep.changed c.args.step.now) c.args.sender c.index_mut.result.now)
    (ap (λ (p : PortState). p.role) c.on_known_pipe.ensures.changed ∙ same_role_of (g.S.PipeStep.changed c.args.step.now) c.args.sender c.index_mut.result.now)

pub returns-clause-told : goal.returns-clause-told
returns-clause-told g c =
    rw (← c.self.view_is)
    (c.on_known_pipe.ensures.told
    ∙ said_in c.self.inside.ports.items c.args.place c.index_mut.result.now
    (λ p. on_pipe_from (g.S.PipeStep.told c.args.step.now) (g.S.PipeStep.none c.args.step.now) p c.args.sender) (g.S.PipeStep.none c.args.step.now)
    (in_place_within (is_from c.args.rank c.args.sender) c.self.inside.ports.items c.args.place
    (subst (λ (s : PortsState). in_place (is_from c.args.rank c.args.sender) false s.ports c.args.place ≡ true) (sym c.self.view_is) c.requires.from))
    c.index_mut.ensures.value)

pub returns-clause-changed : goal.returns-clause-changed
returns-clause-changed g c =
    rw (← c.self.view_is)
    (ap (with_those c.self.inside.room)
    (ap (slice_set c.self.inside.ports.items c.args.place) c.on_known_pipe.ensures.changed
    ∙ changed_in c.self.inside.ports.items c.args.place c.index_mut.result.now (λ p. with_pipe_of (g.S.PipeStep.changed c.args.step.now) p c.args.sender)
    (in_place_within (is_from c.args.rank c.args.sender) c.self.inside.ports.items c.args.place
    (subst (λ (s : PortsState). in_place (is_from c.args.rank c.args.sender) false s.ports c.args.place ≡ true) (sym c.self.view_is) c.requires.from))
    c.index_mut.ensures.value))
