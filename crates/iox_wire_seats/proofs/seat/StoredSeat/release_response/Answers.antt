use Rattle.std.proofs.Common.{◌≡◌, ℕ, List, true, false, sym, ◌∙◌, ap, ap₂}
use Rattle.iox_model.specs.Maps.{has_number}
use Rattle.iox_steps.specs.declared.side.Pushing.{Pushing}
use Rattle.iox_wire_locals.specs.declared.local.Local.TheVariants.{ReleaseReturns}
use Rattle.iox_wire_locals.specs.Courses.{placed}
use Rattle.iox_wire_seats.specs.Seats.{Placed, node_at}
use Rattle.iox_wire_seats.proofs.BeginLemmas.{drops_or_returns, response_releases}
use Rattle.iox_wire_seats.proofs.seat.StoredSeat.release_response.Goals as goal

pub returns-then-contains-clause-begun : goal.returns-then-contains-clause-begun
returns-then-contains-clause-begun c p agrees =
    let forgot : has_number (node_at c.args.map.now c.args.server) c.args.self.now.seat.forgot ≡ true =
    ap (λ (y : Placed). has_number (node_at c.args.map.now c.args.server) y.seat.forgot) (sym c.self.view_is)
    ∙ sym (ap₂ (λ (n : ℕ) (ns : List ℕ). has_number n ns) c.node_at-node.ensures.node c.deref.ensures.value)
    ∙ sym c.contains.ensures.value ∙ c.if-contains.true in
    ap (λ (y : Placed). drops_or_returns y.seat c.args.entry true) c.self.view_is
    ∙ response_releases p c.args.map.now c.args.self.now.seat c.args.entry c.args.client c.args.server true agrees
    c.node_at-node.ensures.plan c.node_at-node.ensures.there c.requires.kind c.requires.ports forgot

pub returns-clause-begun : goal.returns-clause-begun
returns-clause-begun c p agrees =
    let forgot : has_number (node_at c.args.map.now c.args.server) c.args.self.now.seat.forgot ≡ false =
    ap (λ (y : Placed). has_number (node_at c.args.map.now c.args.server) y.seat.forgot) (sym c.self.view_is)
    ∙ sym (ap₂ (λ (n : ℕ) (ns : List ℕ). has_number n ns) c.node_at-node.ensures.node c.deref.ensures.value)
    ∙ sym c.contains.ensures.value ∙ c.if-contains.false in
    ap₂ (λ (y : Placed) (place : Pushing). placed y.seat (ReleaseReturns c.args.entry place)) c.self.view_is c.push.ensures
    ∙ response_releases p c.args.map.now c.args.self.now.seat c.args.entry c.args.client c.args.server false agrees
    c.node_at-node.ensures.plan c.node_at-node.ensures.there c.requires.kind c.requires.ports forgot
