use Rattle.std.specs.Prelude.{IfSome}
use Rattle.std.proofs.Common.{rules, ◌≡◌, Bool, true, false, ◌||◌, refl, List, Option, None, [], true, sym, subst, ap, ◌∙◌}
use Rattle.iox_model.specs.declared.call.Call.TheVariants.{HasHint}
use Rattle.iox_model.specs.declared.call.WireCall.TheVariants.{Port}
use Rattle.iox_model.specs.declared.kind.Kind.TheVariants.{PendingResponse}
use Rattle.iox_model.specs.declared.kind.Role.TheVariants.{Client}
use Rattle.iox_model.specs.Handles.{same_kind}
use Rattle.iox_model.specs.declared.way.Way.{Way}
use Rattle.iox_model.specs.Commands.{Payload}
use Rattle.iox_wire_stops.specs.Entry.{Entry}
use Rattle.iox_wire_stops.specs.Begins.{refusal_at}
use Rattle.iox_wire_stops.specs.ReceiveCourses.{checking}
use Rattle.iox_wire_stops.specs.Aims.{AreStates}
use Rattle.iox_wire_stops.specs.Seats.{ways_of}
use Rattle.iox_wire_handle_calls.specs.HandleCalls.{refusal_in}
use Rattle.iox_wire_stops.specs.OwnStates.{HasStates}
use Rattle.iox_wire_handle_calls.proofs.asking.begin_has_hint.Goals as goal

-- no payload is asked
abbrev none : Payload
none = record { role = Client; elements = None; words = [] }

pub returns-in_err-entry-clause-refused : goal.returns-in_err-entry-clause-refused
returns-in_err-entry-clause-refused c p setting =
    let known : refusal_at p c.args.seat.now.seat (Port (HasHint c.args.number)) ≡ refusal_in c.in_err-entry.field-0.0 =
    c.in_err-entry.ensures.refused p none setting tt in
    search (rules, known)

pub list_states_of-requires-clause-states : goal.list_states_of-requires-clause-states
list_states_of-requires-clause-states c =
    subst (λ (o : Option Entry). IfSome o (HasStates c.args.map.now)) c.in_ok-entry.ensures.found c.requires.states

or_true : (b : Bool) → (b || true) ≡ true
or_true true = refl
or_true false = refl

pub list_states_of-requires-clause-kind : goal.list_states_of-requires-clause-kind
list_states_of-requires-clause-kind c = ap (λ (b : Bool). same_kind c.in_ok-entry.entry.kind PendingResponse || b) (c.in_ok-entry.ensures.suits 0 none tt) ∙ or_true (same_kind c.in_ok-entry.entry.kind PendingResponse)

pub returns-clause-begun : goal.returns-clause-begun
returns-clause-begun c p setting = record {
  allowed = c.in_ok-entry.ensures.allowed p none setting tt;
  begun = c.check.ensures.begun
      ∙ ap (λ (ws : List Way). checking c.args.seat.now.seat c.in_ok-entry.entry true ws) (ap ways_of c.deref.ensures.value ∙ c.list_states_of.ensures.ways p setting)
      ∙ sym (c.in_ok-entry.ensures.begins p none setting);
  aimed = c.check.ensures.aimed p (subst (AreStates p) (sym c.deref.ensures.value) (c.list_states_of.ensures.places p setting));
}

pub returns-clause-allowed : goal.returns-clause-allowed
returns-clause-allowed c p setting = c.in_ok-entry.ensures.allowed p none setting tt
