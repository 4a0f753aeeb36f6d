-- Why a call does not begin on a wire, and what the begin of one does.
use Rattle.std.specs.Prelude.{◌≡◌, ℕ, ◌==◌, false, Option, option_map}
use Rattle.iox_model.specs.declared.call.Call.TheVariants as calls
use Rattle.iox_model.specs.declared.call.WireCall.TheVariants.{Port}
use Rattle.iox_model.specs.Commands.{Call, Refusal, WireCall}
use Rattle.iox_model.specs.Handles.{subject}
use Rattle.iox_model.specs.Loans.{Choice}
use Rattle.iox_model.specs.Maps.{or_else}
use Rattle.iox_model.specs.States.{Fixed}
use Rattle.iox_model.specs.Weaves.{Begins, begin_refusal}
use Rattle.iox_model.specs.WireCalls.{copied_payload, said, written_payload}
use Rattle.iox_wire_nodes.specs.Begins.{begun_at}
use Rattle.iox_wire_nodes.specs.Calls.{call_in_words}
use Rattle.iox_wire_nodes.specs.LocalsBegins.{begin, refusal_at}
use Rattle.iox_wire_nodes.specs.Tables.{Setting}
use Rattle.iox_wire_nodes.specs.declared.node_call.NodeCall.{NodeCall}
use Rattle.iox_wire_nodes.specs.declared.node_call.NodeCall.TheVariants as node_calls
use Rattle.iox_wire_needs.specs.Runs.{GoesOnBy, Run}
use Rattle.iox_wire_weaves.specs.declared.refusal.WireRefusal.{WireRefusal}
use Rattle.iox_wire_weaves.specs.Wires.{IsSameSetting, Shows, WireData, kept_at, living_refusal, machine_refusal, node_at, refusal_in, seat_of}

-- ---- calls

-- a call as the machine reads its words (`said`), but of the role that it tells itself: what has no such
-- payload is of the wrong kind
abbrev pub call_said : Fixed → ℕ → NodeCall → Call
call_said f n (node_calls.Write k y) =
    calls.Write k (record (written_payload f (subject f n k) y.words.now) { role = y.role })
call_said f n (node_calls.SendCopy k y) =
    calls.SendCopy k (record (copied_payload f (subject f n k) y.words.now) { role = y.role })
call_said f n call = said f n (call_in_words call)

-- the machine's call that a node is asked for, where the run led
abbrev pub asked_of : Run → ℕ → NodeCall → WireCall
asked_of r n call = Port (call_said r.last.state.fixed n call)

-- ---- refusals

-- why a call of a port or a handle does not begin: no living node has that number, or the node's own
-- tables tell why
abbrev pub call_refusal : Setting → WireData → ℕ → Call → Option Refusal
call_refusal p wire n call =
    or_else (option_map refusal_in (living_refusal wire.nodes n))
    (refusal_at p (seat_of p wire.nodes n) (Port call))

-- The machine refuses the call by that name, in each run that the wire shows.
abbrev pub IsBeginRefusal : WireData → ℕ → NodeCall → WireRefusal → Type 0
IsBeginRefusal wire n call refusal =
    (p : Setting) (r : Run) → Shows p wire r
    → begin_refusal r.last n (asked_of r n call) ≡ machine_refusal refusal

-- ---- a begin

-- The node is at the first place of the call, and keeps it as its name, its loan or its payload tells;
-- words, replies, events, all other nodes and the setting stay.
pub record BeginsCall (p : Setting) (old : WireData) (n : ℕ) (call : WireCall) (new : WireData)
    : Type 0 where
  pub setting : IsSameSetting old new
  pub node : seat_of p new.nodes n ≡ begin p (seat_of p old.nodes n) call
  pub kept : kept_at new.nodes n
      ≡ option_map (λ x. begun_at x.node.seat.seat.table call) (node_at n old.nodes)
  pub others : (m : ℕ) → (m == n) ≡ false → node_at m new.nodes ≡ node_at m old.nodes
  pub words : new.words ≡ old.words
  pub replies : new.replies ≡ old.replies
  pub events : new.events ≡ old.events

-- so it is in each run that the wire shows
abbrev pub BeginsItsCall : WireData → ℕ → NodeCall → WireData → Type 0
BeginsItsCall old n call new =
    (p : Setting) (r : Run) → Shows p old r → BeginsCall p old n (asked_of r n call) new

-- Each run that the wire showed continues by the begin of that call, and the wire shows that run.
abbrev pub BeginIsWoven : WireData → ℕ → NodeCall → WireData → Type 0
BeginIsWoven old n call new =
    (p : Setting) (r : Run) → Shows p old r
    → (c : Choice) × (after : Run) × GoesOnBy r (Begins n (asked_of r n call) c) after
    × Shows p new after
