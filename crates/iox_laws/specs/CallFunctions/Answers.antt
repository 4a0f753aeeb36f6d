-- The reply and the state at the end of a call, and what calls ask of a state.
use Rattle.std.specs.Prelude.{◌≡◌, ℕ, List, [], Option, Some, None}
use Rattle.iox_model.specs.declared.way.Way.{Way}
use Rattle.iox_model.specs.declared.reply.Refusal.TheVariants.{UnknownNumber, WrongKind}
use Rattle.iox_model.specs.declared.reply.Reply.TheVariants.{Refused}
use Rattle.iox_model.specs.Names.{misnamed}
use Rattle.iox_model.specs.Doings.{Outcome, Tells}
use Rattle.iox_model.specs.States.{Handle, State}
use Rattle.iox_model.specs.Handles.{Subject, ThePort, TheHandle}
use Rattle.iox_model.specs.WholeCalls.{replied, spent}
use Rattle.iox_model.specs.Ends.{settled}
use Rattle.iox_model.specs.Commands.{Refusal, Reply, Call}

-- the reply to an outcome, and the state that it leaves; a new loan holds that payload
abbrev pub answered_with : State → ℕ → List ℕ → Outcome × State → Reply × State
answered_with s node payload v = (replied s.fixed node v.0, settled v.1 node payload v.0)

-- the same where there is no new loan, or it holds nothing
abbrev pub answered : State → ℕ → Outcome × State → Reply × State
answered s node v = answered_with s node [] v

-- the refusal, with nothing changed, if there is one, or else what follows
abbrev pub unless : Option Refusal → State → Reply × State → Reply × State
unless (Some r) s other = (Refused r, s)
unless None s other = other

-- the tests that come before all others
abbrev pub unless_misnamed : State → ℕ → Call → Reply × State → Reply × State
unless_misnamed s node call other =
    unless (misnamed s.fixed node call) s (unless (spent s.fixed call) s other)

-- refused, with nothing changed
abbrev pub refusing : Refusal → State → Outcome × State
refusing r s = (Tells (Refused r), s)

-- what comes of a call of a handle; the tests before refuse all else
abbrev pub of_handle : State → Option Subject → (Handle → Outcome × State) → Outcome × State
of_handle s (Some (TheHandle h)) f = f h
of_handle s (Some (ThePort p)) f = refusing WrongKind s
of_handle s None f = refusing UnknownNumber s

-- no sender has an evicted message in hand, as it is between whole calls
abbrev pub NoneInHand : State → Type 0
NoneInHand s = (w : Way) → s.in_hand w ≡ []
