use Rattle.std.specs.Prelude.{◌<◌, [], ◌∷◌, ◌++◌, IsSome, map}
use Rattle.std.specs.Option.{option_map}
use Rattle.std.proofs.Common.{ap, arith, rules, sym, ◌∙◌}
use Rattle.iox_backpressure.specs.Answers.{shown_by}
use Rattle.iox_backpressure.specs.Handlers.{HandlersState, handlers_with, is_kept}
use Rattle.iox_backpressure.proofs.Listed.{filter_past, map_more, with_none}
use Rattle.iox_backpressure.proofs.handlers.Handlers.set.Goals as goal

pub push_reserved-requires : goal.push_reserved-requires
push_reserved-requires g c =
    let some : IsSome c.args.handler = rw c.in-Some.is (search rules) in
    let room : 0 < c.args.self.now.room = c.requires.room some in
    let same = ap (λ (s : HandlersState). s.room) c.self.view_is in
    omega (arith, room, same, c.keep.ensures.bound, c.keep.ensures.capacity)

pub returns-in-Some : goal.returns-in-Some
returns-in-Some g c =
    rw (← c.self.view_is)
    (ap (map (λ x. (x.port, shown_by g.H.Backpressure.action x.handler))) c.push_reserved.ensures.items
    ∙ map_more (λ x. (x.port, shown_by g.H.Backpressure.action x.handler)) c.keep.new.items.items (record { port = c.args.port; handler = c.in-Some.handler })
    ∙ ap (λ xs. xs ++ (c.args.port, shown_by g.H.Backpressure.action c.in-Some.handler) ∷ [])
    (ap (map (λ x. (x.port, shown_by g.H.Backpressure.action x.handler))) c.keep.ensures.items
    ∙ filter_past (λ x. x.port) (λ x. shown_by g.H.Backpressure.action x.handler) (is_kept c.args.ports.now.ports c.args.port) c.self.inside.items.items)
    ∙ ap (λ o. handlers_with c.args.ports.now.ports c.args.port (option_map (shown_by g.H.Backpressure.action) o)
    (map (λ x. (x.port, shown_by g.H.Backpressure.action x.handler)) c.self.inside.items.items)) (sym c.in-Some.is))

pub returns-in_default : goal.returns-in_default
returns-in_default g c =
    rw (← c.self.view_is)
    (ap (map (λ x. (x.port, shown_by g.H.Backpressure.action x.handler))) c.keep.ensures.items
    ∙ filter_past (λ x. x.port) (λ x. shown_by g.H.Backpressure.action x.handler) (is_kept c.args.ports.now.ports c.args.port) c.self.inside.items.items
    ∙ with_none _
    ∙ ap (λ o. handlers_with c.args.ports.now.ports c.args.port (option_map (shown_by g.H.Backpressure.action) o)
    (map (λ x. (x.port, shown_by g.H.Backpressure.action x.handler)) c.self.inside.items.items)) (sym c.in_default.is))
