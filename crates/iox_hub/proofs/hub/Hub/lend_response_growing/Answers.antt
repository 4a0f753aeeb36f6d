use Rattle.std.specs.Prelude.{refl}
use Rattle.iox_hub.proofs.GrowingWants.{response_lacks}
use Rattle.iox_hub.proofs.Keeping.{all_kept}
use Rattle.iox_hub.proofs.hub.Hub.lend_response_growing.Goals as goal

pub lend_response_with-requires-clause-has : goal.lend_response_with-requires-clause-has
lend_response_with-requires-clause-has g c = rw c.room_for_response.ensures.unchanged c.requires.has

pub lend_response_with-requires-clause-room : goal.lend_response_with-requires-clause-room
lend_response_with-requires-clause-room g c = rw c.room_for_response.ensures.unchanged c.in-Ok.ensures.room

pub lend_response_with-requires-clause-default : goal.lend_response_with-requires-clause-default
lend_response_with-requires-clause-default g c = rw c.room_for_response.ensures.unchanged c.requires.default

pub returns-in-Ok : goal.returns-in-Ok
returns-in-Ok g c =
    rw (← c.room_for_response.ensures.unchanged) (record {
      left = c.lend_response_with.ensures.left;
      whole = c.lend_response_with.ensures.whole;
      has = c.lend_response_with.ensures.has;
      new = c.lend_response_with.ensures.new;
      keeps = c.lend_response_with.ensures.keeps;
      memory = λ e. absurd (c.lend_response_with.ensures.memory e);
    })

pub returns-in-Err : goal.returns-in-Err
returns-in-Err g c = record {
  left = c.room_for_response.ensures.unchanged;
  whole = λ x. response_lacks c.is_in_order.ensures c.args.node c.args.number c.args.elements c.room_for_response.new.self c.room_for_response.ensures.unchanged c.requires.has (c.in-Err.ensures.wants refl) c.args.uninit x;
  has = tt;
  new = tt;
  keeps = all_kept c.args.self.now c.room_for_response.new.self c.room_for_response.ensures.unchanged;
  memory = λ e. c.in-Err.ensures.wants refl;
}
