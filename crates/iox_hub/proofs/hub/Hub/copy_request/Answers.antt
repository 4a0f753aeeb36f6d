use Rattle.std.specs.Prelude.{flat_map, length, refl}
use Rattle.iox_hub.proofs.GrowingWants.{copy_lacks}
use Rattle.iox_hub.proofs.Keeping.{all_kept}
use Rattle.iox_hub.proofs.hub.Hub.copy_request.Goals as goal

pub copy_request_in_room-requires-clause-has : goal.copy_request_in_room-requires-clause-has
copy_request_in_room-requires-clause-has g c = rw c.room_for_request.ensures.unchanged c.requires.has

pub copy_request_in_room-requires-clause-room : goal.copy_request_in_room-requires-clause-room
copy_request_in_room-requires-clause-room g c = rw c.room_for_request.ensures.unchanged c.in-Ok.ensures.room

pub returns-in-Ok : goal.returns-in-Ok
returns-in-Ok g c =
    rw (← c.room_for_request.ensures.unchanged) (record {
      reply = λ p there never. c.copy_request_in_room.ensures.reply p there;
      left = c.copy_request_in_room.ensures.left;
      whole = c.copy_request_in_room.ensures.whole;
      has = c.copy_request_in_room.ensures.has;
      keeps = c.copy_request_in_room.ensures.keeps;
      memory = λ e. absurd (c.copy_request_in_room.ensures.memory e);
    })

pub returns-in-Err : goal.returns-in-Err
returns-in-Err g c = record {
  reply = λ p there never. absurd (never refl);
  left = c.room_for_request.ensures.unchanged;
  whole = λ x. copy_lacks c.is_in_order.ensures c.args.node c.args.client (length c.args.values.now) c.room_for_request.new.self c.room_for_request.ensures.unchanged c.requires.has (c.in-Err.ensures.wants refl) (flat_map g.Q.Element.Words.words c.args.values.now) x;
  has = tt;
  keeps = all_kept c.args.self.now c.room_for_request.new.self c.room_for_request.ensures.unchanged;
  memory = λ e. c.in-Err.ensures.wants refl;
}
