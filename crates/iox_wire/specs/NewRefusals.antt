-- Why no wire is made of a plan, its terms and a list of nodes, and whether messages have layouts.
use Rattle.std.specs.Prelude.{◌≡◌, ℕ, ◌*◌, ◌<◌, ◌≤◌, ◌^◌, nat_le, nat_lt, Bool, false, true, not, ◌||◌, ◌==◌, List, [], ◌∷◌, length, take, Option, Some, None, IsSomeAnd, IsTrue, slice_get, if◌then◌else◌, codes}
use Rattle.std.specs.List.{All, list_any}
use Rattle.std.specs.Option.{IsSome}
use Rattle.iox_laws.specs.ServiceLaws.Listings.{are_ascending}
use Rattle.iox_model.specs.Maps.{AreDistinct, has_number, or_else, refused_if}
use Rattle.iox_model.specs.Settings.{max_slots}
use Rattle.iox_model.specs.declared.kind.Role.{Role}
use Rattle.iox_model.specs.declared.kind.Role.TheVariants.{Client, Server}
use Rattle.iox_word_map.specs.WordMaps.{total_words}
use Rattle.iox_types.specs.Layouts.{message_layout}
use Rattle.iox_types.specs.declared.message_type_details.MessageTypeDetails.{MessageTypeDetails}
use Rattle.iox_wire_weaves.specs.Plans.{details_of, numbers_of, port_numbers, sizes_of}
use Rattle.iox_wire_weaves.specs.Stored.{header_length}
use Rattle.iox_wire_weaves.specs.Terms.{messages_of}
use Rattle.iox_wire_weaves.specs.WirePlan.{WirePlan}
use Rattle.iox_wire_weaves.specs.WireTerms.{WireTerms}
use Rattle.iox_wire.specs.declared.new_error.WireNewError.{WireNewError}
use Rattle.iox_wire.specs.declared.new_error.WireNewError.TheVariants.{DuplicateNode, LimitOfZero, NumberTaken, NumbersSpent, PoolTooLarge, PortsOutOfOrder, TooManyClients, TooManyWords, UnknownNode, UnsuitableAlignment, UnsuitableLength, WantOfMemory, WrongHeader}

-- ---- which nodes and numbers there are

-- Each node is listed once, each port is of one of them, and all ports have lower numbers than the handles.
pub record AreNamed (plan : WirePlan) (terms : WireTerms) (nodes : List ℕ) : Type 0 where
  pub once : AreDistinct nodes
  pub owners : All (λ q. has_number q.node nodes ≡ true) plan.ports.items
  pub numbers : All (λ q. q.number < terms.first_number) plan.ports.items

-- whether a number is in the list twice
abbrev pub has_twice : List ℕ → Bool
has_twice [] = false
has_twice (n ∷ ns) = has_number n ns || has_twice ns

-- whether a port is of none of the nodes
abbrev pub has_lost_port : WirePlan → List ℕ → Bool
has_lost_port plan nodes = list_any (λ q. not (has_number q.node nodes)) plan.ports.items

-- whether a port has that number, or a later one
abbrev pub has_late_port : WirePlan → ℕ → Bool
has_late_port plan first = list_any (λ q. nat_le first q.number) plan.ports.items

-- why they are not so, the first reason that applies
abbrev pub naming_refusal : WirePlan → WireTerms → List ℕ → Option WireNewError
naming_refusal plan terms nodes =
    if has_twice nodes then Some DuplicateNode
    else (if has_lost_port plan nodes then Some UnknownNode
    else (if has_late_port plan terms.first_number then Some NumberTaken else None))

-- ---- which messages suit a wire

-- Each part is aligned to a word at least.
pub record AreAlignedToWords (details : MessageTypeDetails) : Type 0 where
  pub header : 8 ≤ details.header.alignment
  pub user_header : 8 ≤ details.user_header.alignment
  pub payload : 8 ≤ details.payload.alignment

-- The headers of requests and of responses are as long as the wire's own, and each part of a message is aligned to a
-- word at least.
pub record SuitsWire (plan : WirePlan) : Type 0 where
  pub headers : (role : Role) → (details_of plan role).header.size ≡ 8 * header_length role
  pub aligned : (role : Role) → AreAlignedToWords (details_of plan role)

-- whether the messages of that role have a header of another size
abbrev pub has_wrong_header : WirePlan → Role → Bool
has_wrong_header plan role = not ((details_of plan role).header.size == 8 * header_length role)

-- whether a part of such messages is aligned to less than a word
abbrev pub is_unsuitable : MessageTypeDetails → Bool
is_unsuitable details =
    nat_lt details.header.alignment 8
    || (nat_lt details.user_header.alignment 8 || nat_lt details.payload.alignment 8)

-- why messages do not suit, the first reason that applies
abbrev pub message_refusal : WirePlan → Option WireNewError
message_refusal plan =
    if has_wrong_header plan Client || has_wrong_header plan Server then Some WrongHeader
    else (if is_unsuitable plan.request || is_unsuitable plan.response then Some UnsuitableAlignment else None)

-- ---- which ports and limits a service has

-- the limits that the plan and the terms tell, but for those of single ports
abbrev pub told_limits : WirePlan → WireTerms → List ℕ
told_limits plan terms =
    plan.limits.active_requests ∷ plan.limits.response_buffer ∷ plan.limits.borrowed_responses ∷ terms.clients
    ∷ terms.loaned_requests ∷ []

-- Each limit is 1 or more, ports come in the order of their numbers, there are no more clients than there may be,
-- pools have no more messages than a pool may have, and where a message has one element no port has longer ones.
pub record FitsService (plan : WirePlan) (terms : WireTerms) : Type 0 where
  pub limits : All (λ n. 1 ≤ n) (told_limits plan terms)
  pub loans : All (λ r. 1 ≤ r.loaned_responses) (take (length plan.ports.items) terms.ports.items)
  pub order : IsTrue (are_ascending (port_numbers plan))
  pub clients : length (numbers_of plan Client) ≤ terms.clients
  pub pools : All (λ q. q.pool ≤ max_slots) plan.ports.items
  pub lengths : All (λ q. (messages_of terms q.role).many ≡ false → q.longest ≡ 1) plan.ports.items

-- whether a port of the plan may have no response on loan
abbrev pub lends_none : WirePlan → WireTerms → Bool
lends_none plan terms =
    list_any (λ r. r.loaned_responses == 0) (take (length plan.ports.items) terms.ports.items)

-- whether a limit is 0
abbrev pub has_limit_of_zero : WirePlan → WireTerms → Bool
has_limit_of_zero plan terms = has_number 0 (told_limits plan terms) || lends_none plan terms

-- whether a port comes behind one of its own number, or of a later one
abbrev pub is_out_of_order : WirePlan → Bool
is_out_of_order plan = not (are_ascending (port_numbers plan))

-- whether there are more clients than there may be
abbrev pub has_too_many_clients : WirePlan → WireTerms → Bool
has_too_many_clients plan terms = nat_lt terms.clients (length (numbers_of plan Client))

-- whether a pool has more messages than a pool may have
abbrev pub has_large_pool : WirePlan → Bool
has_large_pool plan = list_any (λ q. nat_lt max_slots q.pool) plan.ports.items

-- whether a port has messages of another length than 1, where a message has one element
abbrev pub has_unsuitable_length : WirePlan → WireTerms → Bool
has_unsuitable_length plan terms =
    list_any (λ q. not ((messages_of terms q.role).many || (q.longest == 1))) plan.ports.items

-- why no service has them, the first reason that applies
abbrev pub service_refusal : WirePlan → WireTerms → Option WireNewError
service_refusal plan terms =
    or_else (refused_if (has_limit_of_zero plan terms) LimitOfZero)
    (or_else (refused_if (is_out_of_order plan) PortsOutOfOrder)
    (or_else (refused_if (has_too_many_clients plan terms) TooManyClients)
    (or_else (refused_if (has_large_pool plan) PoolTooLarge)
    (refused_if (has_unsuitable_length plan terms) UnsuitableLength))))

-- ---- a wire

-- Whatever memory there is, no wire is made that has 2^63 words or more, none that would number its handles
-- from 2^63 on or later, none whose nodes and ports are not named so, none whose messages do not suit, and none
-- of ports and limits that no service has.
abbrev pub new_refusal : WirePlan → WireTerms → List ℕ → Option WireNewError
new_refusal plan terms nodes =
    if nat_lt (total_words (sizes_of plan)) (2 ^ 63)
    then (if nat_lt terms.first_number (2 ^ 63)
    then or_else (naming_refusal plan terms nodes) (or_else (message_refusal plan) (service_refusal plan terms))
    else Some NumbersSpent)
    else Some TooManyWords

-- ---- layouts

-- the longest message of the port at that place has a layout
abbrev pub HasLayout : WirePlan → ℕ → Type 0
HasLayout plan i =
    IsSomeAnd (slice_get plan.ports.items i)
    (λ q. IsSome (message_layout (details_of plan q.role) q.longest))

-- so it is of each port
abbrev pub HaveLayouts : WirePlan → Type 0
HaveLayouts plan = (i : ℕ) → i < length plan.ports.items → HasLayout plan i

-- each is shown by the name of its type and its own
abbrev pub new_error_text : WireNewError → List ℕ
new_error_text TooManyWords = codes "WireNewError::TooManyWords"
new_error_text NumbersSpent = codes "WireNewError::NumbersSpent"
new_error_text DuplicateNode = codes "WireNewError::DuplicateNode"
new_error_text UnknownNode = codes "WireNewError::UnknownNode"
new_error_text NumberTaken = codes "WireNewError::NumberTaken"
new_error_text WrongHeader = codes "WireNewError::WrongHeader"
new_error_text UnsuitableAlignment = codes "WireNewError::UnsuitableAlignment"
new_error_text LimitOfZero = codes "WireNewError::LimitOfZero"
new_error_text PortsOutOfOrder = codes "WireNewError::PortsOutOfOrder"
new_error_text TooManyClients = codes "WireNewError::TooManyClients"
new_error_text PoolTooLarge = codes "WireNewError::PoolTooLarge"
new_error_text UnsuitableLength = codes "WireNewError::UnsuitableLength"
new_error_text WantOfMemory = codes "WireNewError::WantOfMemory"
