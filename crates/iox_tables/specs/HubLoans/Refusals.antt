-- What refuses a call before it begins: what its number names, and how many calls were counted.
use Rattle.std.specs.Prelude.{◌≡◌, ℕ, ◌^◌, Bool, false, not, ◌&&◌, if◌then◌else◌, ◌==◌, nat_le, List, Option, Some, None}
use Rattle.std.specs.List.{list_any}
use Rattle.iox_model.specs.declared.reply.Refusal.TheVariants.{CallsSpent, ForeignNumber, UnknownNumber, WrongKind}
use Rattle.iox_model.specs.declared.reply.Reply.TheVariants.{Refused}
use Rattle.iox_model.specs.Commands.{Call, Refusal, number_of}
use Rattle.iox_model.specs.Loans.{Choice}
use Rattle.iox_model.specs.Maps.{or_else, refused_if}
use Rattle.iox_model.specs.Names.{misnamed, suits}
use Rattle.iox_model.specs.WholeCalls.{is_counted}
use Rattle.iox_laws.specs.CallFunctions.Calls.{call_by}
use Rattle.iox_tables.specs.HubStates.Tables.{HandleState, HubTables, PortState, port_in}
use Rattle.iox_tables.specs.HubStates.States.{Given, fixed_of, state_shown}
use Rattle.iox_tables.specs.HubStates.Wirings.{handle_in}
use Rattle.iox_tables.specs.HubLoans.Counts.{AreOnNodes}
use Rattle.iox_tables.specs.HubLoans.Questions.{kind_of_role}

-- ---- names

-- some node has a handle of that number
abbrev pub is_handle_of_any : HubTables → ℕ → Bool
is_handle_of_any t n = list_any (λ h. h.number == n) t.handles

-- the number names nothing of the node's
abbrev pub unnamed : HubTables → ℕ → Refusal
unnamed t n = if is_handle_of_any t n then ForeignNumber else UnknownNumber

-- a call of a port is refused to other nodes, and by the port's kind
abbrev pub port_refusal : ℕ → Call → PortState → Option Refusal
port_refusal node call p =
    or_else (refused_if (not (p.node == node)) ForeignNumber)
    (refused_if (not (suits false call (kind_of_role p.role))) WrongKind)

-- a call of the port, unless that is released, or of the handle
abbrev pub name_refusal_by :
    HubTables → ℕ → Call → Option PortState → Option HandleState → Option Refusal
name_refusal_by t node call (Some p) o =
    if p.held then port_refusal node call p else Some (unnamed t (number_of call))
name_refusal_by t node call None (Some h) =
    refused_if (not (suits false call h.kind)) WrongKind
name_refusal_by t node call None None = Some (unnamed t (number_of call))

-- why a call is refused by its number
abbrev pub name_refusal : HubTables → ℕ → Call → Option Refusal
name_refusal t node call =
    name_refusal_by t node call (port_in t.ports (number_of call))
    (handle_in t.handles node (number_of call))

-- A call is refused by its number as the machine refuses it.
abbrev pub NamesAreRefused : Type 0
NamesAreRefused =
    (x : Given) (t : HubTables) (node : ℕ) (call : Call) → AreOnNodes t
    → misnamed (fixed_of x t) node call ≡ name_refusal t node call

-- ---- before a call begins

-- why a call does not begin: by its number, or for all the calls that were counted
abbrev pub first_refusal : HubTables → ℕ → Call → Option Refusal
first_refusal t node call =
    or_else (name_refusal t node call)
    (refused_if (is_counted call && nat_le (2 ^ 56) t.calls) CallsSpent)

-- A call that is so refused changes nothing.
abbrev pub CallsAreRefused : Type 0
CallsAreRefused =
    (x : Given) (t : HubTables) (node : ℕ) (call : Call) (c : Choice) (payload : List ℕ)
    (r : Refusal) → AreOnNodes t → first_refusal t node call ≡ Some r
    → call_by (state_shown x t) node call c payload ≡ (Refused r, state_shown x t)
