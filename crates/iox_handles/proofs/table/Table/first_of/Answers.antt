use Rattle.std.proofs.Common.{◌≡◌, ℕ, List, ap, ap₂, sym, ◌∙◌}
use Rattle.iox_handles.specs.declared.entry.Entry.{Entry}
use Rattle.iox_handles.specs.NodeLists.{ListState}
use Rattle.iox_handles.specs.Places.{handles_there, least_in}
use Rattle.iox_handles.proofs.LeastLemmas.{least-places}
use Rattle.iox_handles.proofs.NodeListLemmas.{list_is_of}
use Rattle.iox_handles.proofs.table.Table.first_of.Goals as goal
use Rattle.iox_handles.proofs.table.Table.first_of.Goals.{then-not-is_of, else-not-is_of}

pub returns-clause-first : goal.returns-clause-first
returns-clause-first c =
    rw (← c.self.view_is)
    (c.first.ensures.least ∙ ap₂ (λ (n : ℕ) (ps : List Entry). least_in n (handles_there ps)) node (c.deref-2.ensures.value ∙ places)
    ∙ least-places c.args.node (handles_there c.self.inside.places.items) c.self.inside.next c.self.invariant.whole.table.apart c.self.invariant.whole.table.below)
  where
    node : c.if-not-is_of.self-inside.listed.node ≡ c.args.node
    node = elim c.if-not-is_of.branch [
      | then-not-is_of w ↦ ap (λ i. i.listed.node) w.self-inside-is ∙ ap (λ (l : ListState). l.node) w.fill.ensures.anew
      | else-not-is_of w ↦ ap (λ i. i.listed.node) w.self-inside-is ∙ list_is_of c.self.inside.listed c.args.node c.self.inside.next (sym c.is_of.ensures ∙ w.if-not-is_of.false)
    ]

    places : c.if-not-is_of.self-inside.places.items ≡ c.self.inside.places.items
    places = elim c.if-not-is_of.branch [
      | then-not-is_of w ↦ ap (λ i. i.places.items) w.self-inside-is
      | else-not-is_of w ↦ ap (λ i. i.places.items) w.self-inside-is
    ]
