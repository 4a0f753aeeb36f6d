-- How a call begins on a wire, and why one does not.
use Rattle.std.specs.Prelude.{◌≡◌, ℕ, Some}
use Rattle.iox_model.specs.declared.call.WireCall.TheVariants.{Port}
use Rattle.iox_wire_weaves.specs.Aims.{MayAdd}
use Rattle.iox_wire_weaves.specs.Begins.{refusal_at}
use Rattle.iox_wire_weaves.specs.Calls.{IsKeptAt, call_in, call_in_words}
use Rattle.iox_wire_weaves.specs.Laws.{LivesAs}
use Rattle.iox_wire_weaves.specs.NodeCall.{NodeCall}
use Rattle.iox_wire_weaves.specs.Nodes.{seat_in}
use Rattle.iox_wire_weaves.specs.NodesBegins.{IsUnderWay, begun_at}
use Rattle.iox_wire_weaves.specs.Replies.{call_within}
use Rattle.iox_wire_weaves.specs.Rooms.{KeepsRooms}
use Rattle.iox_wire_weaves.specs.Tables.{Setting}
use Rattle.iox_wire_weaves.specs.Terms.{IsSettingWith}
use Rattle.iox_wire_weaves.specs.WirePlan.{WirePlan}
use Rattle.iox_wire_weaves.specs.WireTerms.{WireTerms}
use Rattle.iox_wire_weaves.specs.Wires.{WireNode, machine_refusal}
use Rattle.iox_wire_weaves.specs.declared.refusal.WireRefusal.{WireRefusal}
use Rattle.iox_wire.specs.Replies.{words_call}

-- The node began the call, after so many events: it is at its first place, knows the places of the words
-- that it accesses, has room for what the call adds at its end, and for other calls as before, and keeps
-- the call, as its name, its loan or its payload tells.
pub record HasBegun (plan : WirePlan) (terms : WireTerms) (old : WireNode) (call : NodeCall)
    (events : ℕ) (new : WireNode) : Type 0 where
  pub begun : (p : Setting) → IsSettingWith plan terms p
      → IsUnderWay p old.node (Port (call_in p (seat_in old.node) call)) new.node
  pub ready : MayAdd new.node.at new.node
  pub at : IsKeptAt (call_in_words call) new.node.at
  pub role : (p : Setting) → new.node.at
      ≡ begun_at old.node.seat.seat.table (Port (call_in p (seat_in old.node) call))
  pub rooms : KeepsRooms old.node new.node
  pub number : new.number ≡ old.number
  pub lives : LivesAs old new
  pub read : new.read ≡ old.read
  pub kept : new.call
      ≡ Some (record { call = call_within old.longest (words_call call); begun = events })

-- its own tables tell this why it does not
abbrev pub IsRefusedBy : WirePlan → WireTerms → WireNode → NodeCall → WireRefusal → Type 0
IsRefusedBy plan terms old call error =
    (p : Setting) → IsSettingWith plan terms p
    → refusal_at p (seat_in old.node) (Port (call_in p (seat_in old.node) call))
    ≡ machine_refusal error
