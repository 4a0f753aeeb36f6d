-- A plan, and its terms, of a client and a server whose pools were reduced to 2 slots, and that drop what a full
-- receiver has no room for. Messages have user headers, and payloads of two words that are aligned to more than a word.
use Rattle.std.specs.Prelude.{◌≡◌, ◌^◌, ◌-◌, ℕ, Bool, true, false, if◌then◌else◌, List, [], ◌∷◌}
use Rattle.iox_wire_lenders.specs.declared.terms.MessageTerms.{MessageTerms}
use Rattle.iox_wire_lenders.specs.declared.terms.PortTerms.{PortTerms}
use Rattle.iox_wire_lenders.specs.declared.terms.WireTerms.{WireTerms}
use Rattle.iox_model.specs.declared.kind.Role.TheVariants.{Client, Server}
use Rattle.iox_types.specs.declared.message_type_details.MessageTypeDetails.{MessageTypeDetails}
use Rattle.iox_word_places.specs.declared.plan.PlanLimits.{PlanLimits}
use Rattle.iox_word_places.specs.declared.plan.PlanPort.{PlanPort}
use Rattle.iox_word_places.specs.declared.plan.WirePlan.{WirePlan}

-- a client
abbrev pub wide_client : PlanPort
wide_client =
    record { number = 0; node = 0; role = Client; pool = 2; longest = 1; slot_words = 15 }

-- a server
abbrev pub wide_server : PlanPort
wide_server =
    record { number = 1; node = 1; role = Server; pool = 2; longest = 1; slot_words = 16 }

-- how many responses may wait for a request: one, or so many that the wire has just 2^63 words
abbrev pub wide_buffer : (huge : Bool) → ℕ
wide_buffer huge = if huge then 2 ^ 61 - 21 else 1

-- all other limits are 1, and nothing overflows
abbrev pub wide_limits : (huge : Bool) → PlanLimits
wide_limits huge = record {
  active_requests = 1;
  response_buffer = wide_buffer huge;
  borrowed_responses = 1;
  request_overflow = false;
  response_overflow = false;
}

-- Messages have a header and a user header of so many bytes, and a payload of two words. User header and payload are
-- aligned so.
pub record IsWide (details : MessageTypeDetails) (header user user_to payload_to : ℕ) : Type 0 where
  pub header_size : details.header.size ≡ header
  pub header_alignment : details.header.alignment ≡ 8
  pub user_size : details.user_header.size ≡ user
  pub user_alignment : details.user_header.alignment ≡ user_to
  pub payload_size : details.payload.size ≡ 16
  pub payload_alignment : details.payload.alignment ≡ payload_to

-- It is the plan of these ports and limits.
pub record IsWidePlan (huge : Bool) (plan : WirePlan) : Type 0 where
  pub ports : plan.ports.items ≡ wide_client ∷ wide_server ∷ []
  pub limits : plan.limits ≡ wide_limits huge
  pub request : IsWide plan.request 56 8 8 32
  pub response : IsWide plan.response 48 16 32 16

-- The terms of a port with that number, of a node whose identifier has that first word.
pub record IsWidePort (process number : ℕ) (r : PortTerms) : Type 0 where
  pub ids : r.ids.items ≡ process ∷ 0 ∷ process ∷ number ∷ []
  pub loaned_responses : r.loaned_responses ≡ 1
  pub fails : r.fails ≡ false

-- of the client, and of the server
abbrev pub AreWidePorts : List PortTerms → Type 0
AreWidePorts (c ∷ s ∷ []) = IsWidePort 4_294_967_296 0 c × IsWidePort 8_589_934_592 1 s
AreWidePorts other = ⊥

-- a message may have any number of elements, and has that user header
pub record HasUserHeader (user : List ℕ) (m : MessageTerms) : Type 0 where
  pub many : m.many ≡ true
  pub user_is : m.user.items ≡ user

-- They are the terms of that plan.
pub record AreWideTerms (t : WireTerms) : Type 0 where
  pub ports : AreWidePorts t.ports.items
  pub request : HasUserHeader (5 ∷ []) t.request
  pub response : HasUserHeader (6 ∷ 7 ∷ []) t.response
  pub clients : t.clients ≡ 1
  pub loaned_requests : t.loaned_requests ≡ 1
  pub fire_and_forget : t.fire_and_forget ≡ true
  pub first_number : t.first_number ≡ 2
