use Rattle.iox_hub.proofs.hub.Hub.lend_request.Goals as goal

pub returns-then-is_few : goal.returns-then-is_few
returns-then-is_few g c = record {
  left = c.lend_request_in_room.ensures.left;
  whole = c.lend_request_in_room.ensures.whole;
  has = c.lend_request_in_room.ensures.has;
  new = c.lend_request_in_room.ensures.new;
  keeps = c.lend_request_in_room.ensures.keeps;
  memory = λ e. absurd (c.lend_request_in_room.ensures.memory e);
}
