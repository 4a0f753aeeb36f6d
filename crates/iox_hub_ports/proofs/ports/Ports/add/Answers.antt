use Rattle.std.proofs.Common.{◌≡◌, ◌<◌, false, subst, sym, ap, ◌∙◌, max}
use Rattle.iox_model.specs.Maps.{has_number}
use Rattle.iox_tables.specs.HubStates.Tables.{numbers_of}
use Rattle.iox_hub_ports.specs.InPlace.{listed}
use Rattle.iox_hub_ports.specs.Ports.{PortsState}
use Rattle.iox_hub_ports.proofs.Keeping.{IsPorts-added, lists_for_one}
use Rattle.iox_hub_ports.proofs.ports.Ports.add.Goals as goal

pub invariant_of-self : goal.invariant_of-self
invariant_of-self c =
    IsPorts-added c.self.inside.ports.items c.arrange.new.ports.items c.self.inside.room c.self.inside.last _ _ _ c.args.port c.self.invariant
    (subst (λ (s : PortsState). 0 < s.room) (sym c.self.view_is) c.requires.room)
    (subst (λ (s : PortsState). has_number c.args.port.number (numbers_of s.ports) ≡ false) (sym c.self.view_is) c.requires.fresh)
    (c.arrange.ensures.ports ∙ c.push_reserved.ensures.items) (c.max-self-inside.ensures ∙ ap (max c.self.inside.last) c.number-number.ensures)
    (c.arrange.ensures.capacity ∙ c.push_reserved.ensures.capacity)
    (c.arrange.ensures.lists ∙ ap (listed c.self.inside.lists.most) (sym c.arrange.ensures.ports))

pub arrange-requires : goal.arrange-requires
arrange-requires c =
    lists_for_one c.self.inside.ports.items c.push_reserved.new.self.items c.self.inside.room c.self.inside.last _ c.args.port c.self.invariant
    (subst (λ (s : PortsState). 0 < s.room) (sym c.self.view_is) c.requires.room) c.push_reserved.ensures.items
