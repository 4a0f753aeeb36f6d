use Rattle.std.proofs.Common.{ℕ, sym, subst}
use Rattle.iox_wire_locals.specs.Known.{free_lanes}
use Rattle.iox_wire_locals.specs.Lendings.{first_lane}
use Rattle.iox_wire_copies.specs.CopyAims.{HasSamePeers}
use Rattle.iox_wire_copies.specs.CopyCalls.{CopyCall, KnowsServersOnLane}
use Rattle.iox_wire_copies.proofs.SendLemmas.{known_at, servers_stay}
use Rattle.iox_wire_copies.proofs.copying_client.CopyingClient.begin.Goals as goal

pub returns-clause-aimed : goal.returns-clause-aimed
returns-clause-aimed c p lender client number returning payloads ways knows of_slot =
    let lane : ℕ = first_lane c.args.lender.now.pool (free_lanes c.args.seat.now.seat c.args.lender.now.port) in
    let peers : HasSamePeers c.args.seat.now.seat c.lend_request.new.seat.seat = c.lend_request.ensures.peers p lender client number ways in
    let told : KnowsServersOnLane p c.lend_request.new.seat.seat c.args.lender.now.port lane c.self.inside.sends =
    λ low. servers_stay p c.args.seat.now.seat c.lend_request.new.seat.seat c.args.lender.now.port lane c.self.inside.sends peers
    (subst (λ (r : CopyCall). KnowsServersOnLane p c.args.seat.now.seat c.args.lender.now.port lane r.sends) (sym c.self.view_is) knows low) in (
      c.lend_request.ensures.aimed p lender client number returning payloads of_slot.0,
      known_at p c.lend_request.new.seat.seat c.lend_request.new.self.local c.lend_request.new.self.lending.order c.self.inside.sends
          c.lend_request.ensures.request.kind c.place.ensures.order of_slot.1
          (subst (λ (l : ℕ). KnowsServersOnLane p c.lend_request.new.seat.seat c.lend_request.new.self.lending.order.port l c.self.inside.sends) (sym c.lend_request.ensures.request.lane)
          (subst (λ (n : ℕ). KnowsServersOnLane p c.lend_request.new.seat.seat n lane c.self.inside.sends) (sym c.lend_request.ensures.ordered.1) told)),
    )
