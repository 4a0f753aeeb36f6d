-- What is told in parts is what those parts say.
use Rattle.std.proofs.Common.{◌≡◌, ℕ}
use Rattle.iox_model.specs.declared.way.Way.{Way}
use Rattle.iox_steps.specs.declared.site.QueueKind.{QueueKind}
use Rattle.iox_wire_receives.specs.declared.source.Source.{Source}
use Rattle.iox_wire_receives.specs.declared.source.ReceiveTerms.{ReceiveTerms}

pub terms_are : (t : ReceiveTerms) (kind : QueueKind) (capacity back room state lane limit : ℕ)
    → kind ≡ t.kind → capacity ≡ t.capacity → back ≡ t.back → room ≡ t.room → state ≡ t.state → lane ≡ t.lane_words → limit ≡ t.limit
    → (let u : ReceiveTerms = record {
      kind = kind;
      capacity = capacity;
      back = back;
      room = room;
      state = state;
      lane_words = lane;
      limit = limit;
      fire_and_forget = t.fire_and_forget;
      number = t.number;
    } in u ≡ t)
terms_are t kind capacity back room state lane limit k c b r s l m = λ i. record {
  kind = k i;
  capacity = c i;
  back = b i;
  room = r i;
  state = s i;
  lane_words = l i;
  limit = m i;
  fire_and_forget = t.fire_and_forget;
  number = t.number;
}

pub source_is_told : (t : Source) (way : Way) (node place region slots slot_words lanes : ℕ)
    → way ≡ t.way → node ≡ t.node → place ≡ t.place → region ≡ t.region → slots ≡ t.slots → slot_words ≡ t.slot_words → lanes ≡ t.lanes
    → (let u : Source = record {
      way = way;
      node = node;
      place = place;
      region = region;
      slots = slots;
      slot_words = slot_words;
      lanes = lanes;
    } in u ≡ t)
source_is_told t way node place region slots slot_words lanes w n p r s o l = λ i. record {
  way = w i;
  node = n i;
  place = p i;
  region = r i;
  slots = s i;
  slot_words = o i;
  lanes = l i;
}
