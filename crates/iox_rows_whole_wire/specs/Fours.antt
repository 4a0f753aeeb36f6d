-- A plan, and its terms, of four ports on three nodes, where each limit of a port is 1: a client on one node, a server
-- on another, and both on the third.
use Rattle.std.specs.Prelude.{◌≡◌, ℕ, Bool, List, [], ◌∷◌}
use Rattle.iox_wire_lenders.specs.declared.terms.PortTerms.{PortTerms}
use Rattle.iox_wire_lenders.specs.declared.terms.WireTerms.{WireTerms}
use Rattle.iox_model.specs.declared.kind.Role.TheVariants.{Client, Server}
use Rattle.iox_word_places.specs.declared.plan.PlanPort.{PlanPort}
use Rattle.iox_word_places.specs.declared.plan.WirePlan.{WirePlan}
use Rattle.iox_rows_whole_wire.specs.Ones.{HasOneWord, IsMessageOfOnes, IsPortOfOnes, limits_of_ones}

-- a client of that number, on that node
abbrev pub client_of : (number node : ℕ) → PlanPort
client_of number node =
    record { number = number; node = node; role = Client; pool = 6; longest = 1; slot_words = 10 }

-- a server
abbrev pub server_of : (number node : ℕ) → PlanPort
server_of number node =
    record { number = number; node = node; role = Server; pool = 26; longest = 1; slot_words = 9 }

-- the ports
abbrev pub four_ports : List PlanPort
four_ports = client_of 0 0 ∷ server_of 1 1 ∷ server_of 2 2 ∷ client_of 3 2 ∷ []

-- It is the plan of these ports, with each limit 1.
pub record IsPlanOfFour (requests responses : Bool) (plan : WirePlan) : Type 0 where
  pub ports : plan.ports.items ≡ four_ports
  pub limits : plan.limits ≡ limits_of_ones requests responses
  pub request : HasOneWord plan.request 56
  pub response : HasOneWord plan.response 48

-- the terms of the four ports
abbrev pub ArePortsOfFour : List PortTerms → Type 0
ArePortsOfFour (a ∷ b ∷ c ∷ d ∷ []) =
    IsPortOfOnes 4_294_967_296 0 a × IsPortOfOnes 8_589_934_592 1 b
    × IsPortOfOnes 12_884_901_888 2 c × IsPortOfOnes 12_884_901_888 3 d
ArePortsOfFour other = ⊥

-- They are the terms of that plan, with fire and forget where this says so.
pub record AreTermsOfFour (fires : Bool) (t : WireTerms) : Type 0 where
  pub ports : ArePortsOfFour t.ports.items
  pub request : IsMessageOfOnes t.request
  pub response : IsMessageOfOnes t.response
  pub clients : t.clients ≡ 2
  pub loaned_requests : t.loaned_requests ≡ 1
  pub fire_and_forget : t.fire_and_forget ≡ fires
  pub first_number : t.first_number ≡ 4
