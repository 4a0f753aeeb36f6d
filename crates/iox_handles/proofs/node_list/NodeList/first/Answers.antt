use Rattle.std.proofs.Common.{◌≡◌, List, true, length, slice_index_or, ap, sym, subst, ◌∙◌}
use Rattle.std.specs.Option.{option_map}
use Rattle.iox_handles.specs.declared.numbered.Numbered.{Numbered}
use Rattle.iox_handles.specs.NodeLists.{AllListed, ListState, has_listed}
use Rattle.iox_handles.specs.Places.{handles_there}
use Rattle.iox_handles.proofs.NodeListLemmas.{AreGone, least_there, moved_on, none_there}
use Rattle.iox_handles.proofs.node_list.NodeList.first.Goals as goal

pub returns-in_err-at-clause-least : goal.returns-in_err-at-clause-least
returns-in_err-at-clause-least c =
    ap (option_map (λ (v : Numbered). v.number)) c.from_residual.ensures
    ∙ none_there (handles_there c.args.places.now) c.args.self.now c.requires.listed
    (subst (λ (l : ListState). AreGone l.node (handles_there c.args.places.now) l.list l.from (length l.list)) c.self.view_is
    (subst (λ (vs : List Numbered). AreGone c.self.inside.node (handles_there c.args.places.now) vs c.self.inside.from (length vs)) c.deref.ensures.value
    (c.first_there.ensures.none c.in_err-at.was)))

pub returns-clause-least : goal.returns-clause-least
returns-clause-least c =
    rw (← c.self.view_is)
    (least_there (handles_there c.args.places.now)
    (record {
      list = c.self.inside.list.items;
      from = c.self.inside.from;
      node = c.self.inside.node;
      next = c.self.inside.next;
      room = 0;
    })
    c.in_ok-at.at c.index.result.now c.self.invariant
    (moved_on (handles_there c.args.places.now)
    (record {
      list = c.self.inside.list.items;
      from = c.self.inside.from;
      node = c.self.inside.node;
      next = c.self.inside.next;
      room = 0;
    })
    c.in_ok-at.at
    (subst (λ (l : ListState). AllListed (handles_there c.args.places.now) l) (sym c.self.view_is) c.requires.listed)
    (subst (λ (vs : List Numbered). AreGone c.self.inside.node (handles_there c.args.places.now) vs c.self.inside.from c.in_ok-at.at) c.deref.ensures.value
    c.in_ok-at.ensures.gone))
    c.index.ensures
    (subst (λ (vs : List Numbered). c.index.result.now ≡ slice_index_or vs c.in_ok-at.at c.index.result.now → has_listed c.self.inside.node (handles_there c.args.places.now) c.index.result.now ≡ true)
    c.deref.ensures.value (c.in_ok-at.ensures.there c.index.result.now) c.index.ensures))
