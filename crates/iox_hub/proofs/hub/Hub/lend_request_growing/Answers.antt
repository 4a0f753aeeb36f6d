use Rattle.std.specs.Prelude.{refl}
use Rattle.iox_hub.proofs.GrowingWants.{loan_lacks}
use Rattle.iox_hub.proofs.Keeping.{all_kept}
use Rattle.iox_hub.proofs.hub.Hub.lend_request_growing.Goals as goal

pub lend_request_with-requires-clause-has : goal.lend_request_with-requires-clause-has
lend_request_with-requires-clause-has g c = rw c.room_for_request.ensures.unchanged c.requires.has

pub lend_request_with-requires-clause-room : goal.lend_request_with-requires-clause-room
lend_request_with-requires-clause-room g c = rw c.room_for_request.ensures.unchanged c.in-Ok.ensures.room

pub lend_request_with-requires-clause-default : goal.lend_request_with-requires-clause-default
lend_request_with-requires-clause-default g c = rw c.room_for_request.ensures.unchanged c.requires.default

pub returns-in-Ok : goal.returns-in-Ok
returns-in-Ok g c =
    rw (← c.room_for_request.ensures.unchanged) (record {
      left = c.lend_request_with.ensures.left;
      whole = c.lend_request_with.ensures.whole;
      has = c.lend_request_with.ensures.has;
      new = c.lend_request_with.ensures.new;
      keeps = c.lend_request_with.ensures.keeps;
      memory = λ e. absurd (c.lend_request_with.ensures.memory e);
    })

pub returns-in-Err : goal.returns-in-Err
returns-in-Err g c = record {
  left = c.room_for_request.ensures.unchanged;
  whole = λ x. loan_lacks c.is_in_order.ensures c.args.node c.args.client c.args.elements c.room_for_request.new.self c.room_for_request.ensures.unchanged c.requires.has (c.in-Err.ensures.wants refl) c.args.uninit x;
  has = tt;
  new = tt;
  keeps = all_kept c.args.self.now c.room_for_request.new.self c.room_for_request.ensures.unchanged;
  memory = λ e. c.in-Err.ensures.wants refl;
}
