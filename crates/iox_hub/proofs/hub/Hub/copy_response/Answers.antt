use Rattle.std.specs.Prelude.{flat_map, length, refl}
use Rattle.iox_hub.proofs.GrowingWants.{answer_lacks}
use Rattle.iox_hub.proofs.Keeping.{all_kept}
use Rattle.iox_hub.proofs.hub.Hub.copy_response.Goals as goal

pub copy_response_in_room-requires-clause-has : goal.copy_response_in_room-requires-clause-has
copy_response_in_room-requires-clause-has g c = rw c.room_for_response.ensures.unchanged c.requires.has

pub copy_response_in_room-requires-clause-room : goal.copy_response_in_room-requires-clause-room
copy_response_in_room-requires-clause-room g c = rw c.room_for_response.ensures.unchanged c.in-Ok.ensures.room

pub returns-in-Ok : goal.returns-in-Ok
returns-in-Ok g c =
    rw (← c.room_for_response.ensures.unchanged) (record {
      reply = λ h named p there never. c.copy_response_in_room.ensures.reply h named p there;
      left = c.copy_response_in_room.ensures.left;
      whole = c.copy_response_in_room.ensures.whole;
      keeps = c.copy_response_in_room.ensures.keeps;
      memory = λ e. absurd (c.copy_response_in_room.ensures.memory e);
    })

pub returns-in-Err : goal.returns-in-Err
returns-in-Err g c = record {
  reply = λ h named p there never. absurd (never refl);
  left = c.room_for_response.ensures.unchanged;
  whole = λ x. answer_lacks c.is_in_order.ensures c.args.node c.args.number (length c.args.values.now) c.room_for_response.new.self c.room_for_response.ensures.unchanged c.requires.has (c.in-Err.ensures.wants refl) (flat_map g.P.Element.Words.words c.args.values.now) x;
  keeps = all_kept c.args.self.now c.room_for_response.new.self c.room_for_response.ensures.unchanged;
  memory = λ e. c.in-Err.ensures.wants refl;
}
