-- What a number names in the tables of a hub, and whether a call of it is refused by name.
use Rattle.std.specs.Prelude.{◌≡◌, ℕ, true, false, not, ◌==◌, Some}
use Rattle.iox_model.specs.declared.reply.Refusal.TheVariants.{ForeignNumber, WrongKind}
use Rattle.iox_model.specs.Commands.{Call, number_of}
use Rattle.iox_model.specs.Handles.{ThePort, TheHandle, kind_of, subject}
use Rattle.iox_model.specs.Maps.{or_else, refused_if}
use Rattle.iox_model.specs.Names.{misnamed, suits}
use Rattle.iox_tables.specs.HubStates.Tables.{HandleState, HubTables, PortState, port_in}
use Rattle.iox_tables.specs.HubStates.States.{Given, fixed_of, handle_of, message_of, port_of}
use Rattle.iox_tables.specs.HubStates.Wirings.{IsHandle}

-- The number names the handle, and a call of it is refused only by its kind.
pub record NamesHandle (x : Given) (t : HubTables) (node n : ℕ) (h : HandleState) : Type 0 where
  pub names :
      subject (fixed_of x t) node n ≡ Some (TheHandle (handle_of x (message_of x t.pools) h))
  pub refused :
      (call : Call) → number_of call ≡ n
      → misnamed (fixed_of x t) node call ≡ refused_if (not (suits false call h.kind)) WrongKind

-- It is so of each handle of a node.
abbrev pub EachHandleIsNamed : Type 0
EachHandleIsNamed =
    (x : Given) (t : HubTables) (node n : ℕ) (h : HandleState) → IsHandle t node n h
    → NamesHandle x t node n h

-- The number names the port, and a call of it is refused only by its node and its role.
pub record NamesPort (x : Given) (t : HubTables) (node n : ℕ) (p : PortState) : Type 0 where
  pub names : subject (fixed_of x t) node n ≡ Some (ThePort (port_of x p))
  pub refused :
      (call : Call) → number_of call ≡ n
      → misnamed (fixed_of x t) node call
      ≡ or_else (refused_if (not (p.node == node)) ForeignNumber)
      (refused_if (not (suits false call (kind_of (ThePort (port_of x p))))) WrongKind)

-- It is so of each port whose own value is still there.
abbrev pub EachPortIsNamed : Type 0
EachPortIsNamed =
    (x : Given) (t : HubTables) (node n : ℕ) (p : PortState) → port_in t.ports n ≡ Some p
    → p.held ≡ true → NamesPort x t node n p
