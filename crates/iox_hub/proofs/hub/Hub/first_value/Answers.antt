use Rattle.std.proofs.Common.{ap, ap₂, refl, subst, sym, ◌∙◌}
use Rattle.std.specs.Option.{option_map}
use Rattle.iox_handles.specs.Least.{lesser}
use Rattle.iox_handles.specs.declared.numbered.Numbered.{Numbered}
use Rattle.iox_hub.specs.Hubs.{HubState, IsHub}
use Rattle.iox_hub.proofs.CleaningLemmas.{names_none, none_then, value_has}
use Rattle.iox_hub.proofs.ListingLemmas.{first_of_both}
use Rattle.iox_hub.proofs.hub.Hub.first_value.Goals as goal

pub returns-clause-first : goal.returns-clause-first
returns-clause-first g c x =
    c.lesser_value.ensures ∙ ap₂ lesser c.requires.port c.first_handle-handle.ensures.first
    ∙ first_of_both x c.args.self.now c.args.node c.args.self.now.control.tables.ports c.self.inside.control.tables.handles refl
    (ap (λ (h : HubState). h.control.tables.handles) c.self.view_is)

pub returns-clause-has : goal.returns-clause-has
returns-clause-has g c =
    value_has c.args.self.now c.args.node c.lesser_value.result (subst (λ (h : HubState). IsHub h) c.self.view_is c.self.invariant) (returns-clause-first g c)

pub returns-clause-none : goal.returns-clause-none
returns-clause-none g c none =
    names_none c.args.self.now c.args.node
    (λ x. none_then _ (sym (returns-clause-first g c x) ∙ ap (option_map (λ (v : Numbered). v.number)) none))
