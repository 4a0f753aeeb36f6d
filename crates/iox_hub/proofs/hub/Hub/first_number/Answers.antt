use Rattle.std.proofs.Common.{ap, ap₂, refl, subst, sym, ◌∙◌}
use Rattle.iox_handles.specs.Least.{lesser}
use Rattle.iox_hub.specs.Hubs.{HubState, IsHub}
use Rattle.iox_hub.specs.Listings.{held_ports}
use Rattle.iox_hub.proofs.Ahead.{none_before_start}
use Rattle.iox_hub.proofs.CleaningLemmas.{first_has, names_none, none_then}
use Rattle.iox_hub.proofs.ListingLemmas.{first_is}
use Rattle.iox_hub.proofs.hub.Hub.first_number.Goals as goal

pub next_port-requires : goal.next_port-requires
next_port-requires g c = none_before_start (held_ports c.args.self.now.control.tables.ports c.args.node)

pub returns-clause-first : goal.returns-clause-first
returns-clause-first g c x =
    c.lesser.ensures ∙ ap₂ lesser (c.number_of.ensures ∙ c.next_port.ensures) c.least_of.ensures
    ∙ first_is x c.args.self.now c.args.node c.args.self.now.control.tables.ports c.handles.result.now refl
    (c.handles.ensures.handles ∙ ap (λ (h : HubState). h.control.tables.handles) c.self.view_is)

pub returns-clause-has : goal.returns-clause-has
returns-clause-has g c =
    first_has c.args.self.now c.args.node c.lesser.result (subst (λ (h : HubState). IsHub h) c.self.view_is c.self.invariant) (returns-clause-first g c)

pub returns-clause-none : goal.returns-clause-none
returns-clause-none g c none = names_none c.args.self.now c.args.node (λ x. none_then _ (sym (returns-clause-first g c x) ∙ none))
