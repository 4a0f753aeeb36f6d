-- A plan, and its terms, where each limit is 1: a client on one node, a server on the other.
use Rattle.std.specs.Prelude.{◌≡◌, ℕ, Bool, true, List, [], ◌∷◌}
use Rattle.iox_wire_lenders.specs.declared.terms.MessageTerms.{MessageTerms}
use Rattle.iox_wire_lenders.specs.declared.terms.PortTerms.{PortTerms}
use Rattle.iox_wire_lenders.specs.declared.terms.WireTerms.{WireTerms}
use Rattle.iox_model.specs.declared.kind.Role.TheVariants.{Client, Server}
use Rattle.iox_types.specs.declared.message_type_details.MessageTypeDetails.{MessageTypeDetails}
use Rattle.iox_word_places.specs.declared.plan.PlanLimits.{PlanLimits}
use Rattle.iox_word_places.specs.declared.plan.PlanPort.{PlanPort}
use Rattle.iox_word_places.specs.declared.plan.WirePlan.{WirePlan}

-- a client
abbrev pub client : PlanPort
client = record { number = 0; node = 0; role = Client; pool = 4; longest = 1; slot_words = 10 }

-- a server
abbrev pub server : PlanPort
server = record { number = 1; node = 1; role = Server; pool = 9; longest = 1; slot_words = 9 }

-- each limit is 1; requests overflow, and responses, where these say so
abbrev pub limits_of_ones : (requests responses : Bool) → PlanLimits
limits_of_ones requests responses = record {
  active_requests = 1;
  response_buffer = 1;
  borrowed_responses = 1;
  request_overflow = requests;
  response_overflow = responses;
}

-- Messages have a header of so many bytes, no user header, and a payload of one word.
pub record HasOneWord (details : MessageTypeDetails) (header : ℕ) : Type 0 where
  pub header_size : details.header.size ≡ header
  pub header_alignment : details.header.alignment ≡ 8
  pub user_size : details.user_header.size ≡ 0
  pub user_alignment : details.user_header.alignment ≡ 8
  pub payload_size : details.payload.size ≡ 8
  pub payload_alignment : details.payload.alignment ≡ 8

-- It is the plan of these ports and limits.
pub record IsPlanOfOnes (requests responses : Bool) (plan : WirePlan) : Type 0 where
  pub ports : plan.ports.items ≡ client ∷ server ∷ []
  pub limits : plan.limits ≡ limits_of_ones requests responses
  pub request : HasOneWord plan.request 56
  pub response : HasOneWord plan.response 48

-- The terms of a port with that number, of a node whose identifier has that first word: its own has
-- the same, and its number behind that.
pub record IsPortOfOnes (process number : ℕ) (r : PortTerms) : Type 0 where
  pub ids : r.ids.items ≡ process ∷ 0 ∷ process ∷ number ∷ []
  pub loaned_responses : r.loaned_responses ≡ 1
  pub fails : r.fails ≡ true

-- of the client, and of the server
abbrev pub ArePortsOfOnes : List PortTerms → Type 0
ArePortsOfOnes (c ∷ s ∷ []) = IsPortOfOnes 4_294_967_296 0 c × IsPortOfOnes 8_589_934_592 1 s
ArePortsOfOnes other = ⊥

-- a message may have any number of elements, and has no user header
pub record IsMessageOfOnes (m : MessageTerms) : Type 0 where
  pub many : m.many ≡ true
  pub user : m.user.items ≡ []

-- They are the terms of that plan, with fire and forget where this says so.
pub record AreTermsOfOnes (fires : Bool) (t : WireTerms) : Type 0 where
  pub ports : ArePortsOfOnes t.ports.items
  pub request : IsMessageOfOnes t.request
  pub response : IsMessageOfOnes t.response
  pub clients : t.clients ≡ 1
  pub loaned_requests : t.loaned_requests ≡ 1
  pub fire_and_forget : t.fire_and_forget ≡ fires
  pub first_number : t.first_number ≡ 2
