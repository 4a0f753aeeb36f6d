-- What a loan in the making will be.
use Rattle.std.specs.Prelude.{◌≡◌, ◌+◌, ◌<◌, ◌^◌, ℕ, false, List, [], ◌∷◌, ◌++◌}
use Rattle.iox_model.specs.declared.kind.Kind.TheVariants.{RequestMut, ResponseMut}
use Rattle.iox_model.specs.declared.kind.Role.{Role}
use Rattle.iox_model.specs.declared.kind.Role.TheVariants.{Client, Server}
use Rattle.iox_wire_locals.specs.declared.table.Entry.{Entry}
use Rattle.iox_wire_locals.specs.declared.table.NewLoan.{NewLoan}
use Rattle.iox_wire_loans.specs.declared.order.Order.{Order}

-- the loan of an order: its payload is written later
abbrev pub loan_of : Order → NewLoan
loan_of o = record {
  number = o.number;
  kind = o.kind;
  port = o.port;
  client = o.client;
  lane = o.lane;
  request = o.request;
  serial = o.serial;
  elements = o.elements;
  payload = [];
  copies = false;
}

-- the lane stands in the header of a request
abbrev pub lane_words : Role → ℕ → List ℕ
lane_words Client lane = lane ∷ []
lane_words Server lane = []

-- the words of its message, with these words of the port's identifiers and this user header
abbrev pub words_of : Role → (ids user : List ℕ) → Order → List ℕ
words_of role ids user o = ids ++ lane_words role o.lane ++ o.request ∷ o.elements ∷ user

-- It is a request on that free lane, and its state has room for a hint.
pub record IsRequest (o : Order) (free : ℕ) : Type 0 where
  pub kind : o.kind ≡ RequestMut
  pub lane : o.lane ≡ free
  pub request : o.request + 1 < 2 ^ 63

-- It is a response to that request, and goes to its client on its lane.
pub record IsResponse (o : Order) (e : Entry) : Type 0 where
  pub kind : o.kind ≡ ResponseMut
  pub client : o.client ≡ e.client
  pub lane : o.lane ≡ e.lane
  pub request : o.request ≡ e.request
