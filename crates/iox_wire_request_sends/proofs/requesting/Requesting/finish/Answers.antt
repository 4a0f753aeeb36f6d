use Rattle.std.proofs.Common.{ℕ, ◌+◌, length, ap, ◌∙◌}
use Rattle.iox_wire_locals.specs.Tables.{sent_entry}
use Rattle.iox_wire_seats.specs.Seats.{Placed}
use Rattle.iox_wire_request_sends.proofs.EndLemmas.{same_length}
use Rattle.iox_wire_request_sends.proofs.requesting.Requesting.finish.Goals as goal

pub returns-clause-room : goal.returns-clause-room
returns-clause-room c = record {
  handles = ap (λ (y : Placed). y.room + length y.seat.table) c.send_request.ensures
      ∙ ap (λ (n : ℕ). c.args.seat.now.room + n) (same_length (sent_entry c.self.inside.loan c.self.inside.count) c.args.seat.now.seat.table);
  rooms = record {
    ways = ap (λ (y : Placed). y.ways_room) c.send_request.ensures;
    words = ap (λ (y : Placed). y.words_room) c.send_request.ensures;
  };
}
