-- A plan, and its terms, of a client on one node and a server on the other, whose elements have no words.
use Rattle.std.specs.Prelude.{◌≡◌, ℕ, Bool, true, false, if◌then◌else◌, [], ◌∷◌}
use Rattle.iox_wire_lenders.specs.declared.terms.MessageTerms.{MessageTerms}
use Rattle.iox_wire_lenders.specs.declared.terms.WireTerms.{WireTerms}
use Rattle.iox_model.specs.declared.kind.Role.TheVariants.{Client, Server}
use Rattle.iox_types.specs.declared.message_type_details.MessageTypeDetails.{MessageTypeDetails}
use Rattle.iox_word_places.specs.declared.plan.PlanPort.{PlanPort}
use Rattle.iox_word_places.specs.declared.plan.WirePlan.{WirePlan}
use Rattle.iox_rows_whole_wire.specs.Ones.{ArePortsOfOnes, limits_of_ones}

-- how many elements a message has at most: three, or one
abbrev pub longest_of_units : (many : Bool) → ℕ
longest_of_units many = if many then 3 else 1

-- a client
abbrev pub unit_client : (many : Bool) → PlanPort
unit_client many = record { number = 0; node = 0; role = Client; pool = 4; longest = longest_of_units many; slot_words = 9 }

-- a server
abbrev pub unit_server : (many : Bool) → PlanPort
unit_server many = record { number = 1; node = 1; role = Server; pool = 9; longest = longest_of_units many; slot_words = 8 }

-- Messages have a header of so many bytes, no user header, and elements of no word.
pub record HasNoWord (details : MessageTypeDetails) (header : ℕ) : Type 0 where
  pub header_size : details.header.size ≡ header
  pub header_alignment : details.header.alignment ≡ 8
  pub user_size : details.user_header.size ≡ 0
  pub user_alignment : details.user_header.alignment ≡ 8
  pub payload_size : details.payload.size ≡ 0
  pub payload_alignment : details.payload.alignment ≡ 8

-- It is the plan of these ports, where each limit is 1 and nothing overflows.
pub record IsPlanOfUnits (many : Bool) (plan : WirePlan) : Type 0 where
  pub ports : plan.ports.items ≡ unit_client many ∷ unit_server many ∷ []
  pub limits : plan.limits ≡ limits_of_ones false false
  pub request : HasNoWord plan.request 56
  pub response : HasNoWord plan.response 48

-- a message has any number of elements, or one, as this says, and no user header
pub record IsMessageOfUnits (many : Bool) (m : MessageTerms) : Type 0 where
  pub many_is : m.many ≡ many
  pub user : m.user.items ≡ []

-- They are the terms of that plan, with fire and forget.
pub record AreTermsOfUnits (many : Bool) (t : WireTerms) : Type 0 where
  pub ports : ArePortsOfOnes t.ports.items
  pub request : IsMessageOfUnits many t.request
  pub response : IsMessageOfUnits many t.response
  pub clients : t.clients ≡ 1
  pub loaned_requests : t.loaned_requests ≡ 1
  pub fire_and_forget : t.fire_and_forget ≡ true
  pub first_number : t.first_number ≡ 2
