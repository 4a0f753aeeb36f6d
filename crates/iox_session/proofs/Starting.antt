-- What the creation of a script's service comes to.
use Rattle.std.specs.Prelude.{◌≡◌, Bool, true, false, not, Option, Some, None, is_some, Result, Ok, Err, refl}
use Rattle.std.specs.List.{list_any}
use Rattle.std.specs.Option.{option_map}
use Rattle.std.specs.declared.convert.Infallible.{Infallible}
use Rattle.std.proofs.Common.{ap, true≢false}
use Rattle.std.proofs.lemmas.Option.{same_Some}
use Rattle.iox_types.specs.declared.identifiers.system_id.UniqueSystemId.{UniqueSystemId}
use Rattle.iox_types.specs.Identifiers.{is_node_id}
use Rattle.iox_model.specs.declared.reply.Refusal.TheVariants as refusals
use Rattle.iox_model.specs.declared.reply.Reply.TheVariants as replies
use Rattle.iox_model.specs.Commands.{Refusal, Reply}
use Rattle.iox_model.specs.Defaults.{follow}
use Rattle.iox_model.specs.Maps.{or_else, refused_if}
use Rattle.iox_model.specs.Runs.{MakesUnless, created, creation_refusal, is_too_large}
use Rattle.iox_model.specs.Settings.{Limits}
use Rattle.iox_model.specs.States.{Port, State}
use Rattle.iox_members.specs.Steps.{answer_in}
use Rattle.iox_nodes.specs.Served as nodes
use Rattle.iox_nodes.specs.Served.{made_in}
use Rattle.iox_nodes.specs.HandlerWords.{action_in}
use Rattle.iox_nodes.specs.Memory.{is_wanting}
use Rattle.iox_nodes.specs.Shown.{ServiceTables, service_of}
use Rattle.iox_script.specs.declared.reply.ScriptReply.TheVariants as answers
use Rattle.iox_script.specs.Commands.{ServiceRefusal}
use Rattle.iox_session.specs.Answers.{no_cause}
use Rattle.iox_session.specs.Limits.{limits_with}
use Rattle.iox_session.specs.Sessions.{IsCreated, with_service}
use Rattle.iox_session.specs.SessionStates.{SessionState}
use Rattle.iox_session.specs.Shown.{IsOfScript, script_state, with_acts}

-- ---- what is made

first_by : (q : Option Refusal) (requests responses : Bool) (id : UniqueSystemId) (s : State)
    → MakesUnless q (created (limits_with requests responses) action_in id) (replies.Node 0) (Some s) → IsOfScript s
first_by (Some r) requests responses id s made = let e : replies.Node 0 ≡ replies.Refused r = made.0 in absurd (cc)
first_by None requests responses id s made =
    let first : s ≡ created (limits_with requests responses) action_in id = same_Some s (created (limits_with requests responses) action_in id) made.1 in
    record {
      limits = (requests, responses, ap (λ (t : State). t.fixed.limits) first);
      still = ap (λ (t : State). list_any (λ (p : Port). p.grows) t.fixed.ports) first;
      unhandled = ap (λ (t : State). list_any (λ (p : Port). is_some p.handler) t.fixed.ports) first;
    }

pub made_is_of_script : (requests responses : Bool) (id : UniqueSystemId) (v : ServiceTables)
    → nodes.IsCreated {C = Infallible} (limits_with requests responses) id None (Ok v) → IsOfScript (service_of v)
made_is_of_script requests responses id v made =
    first_by (creation_refusal (limits_with requests responses) id None (made no_cause).0) requests responses id (service_of v) (made no_cause).1

-- ---- where there is memory

abbrev Refuses : (valid large memory : Bool) → Option Refusal
Refuses valid large memory =
    or_else (refused_if (not valid) refusals.InvalidNodeId)
    (or_else None (or_else (refused_if large refusals.LimitTooLarge) (refused_if (not memory) refusals.WantOfMemory)))

abbrev answer : Result ServiceTables ServiceRefusal → Reply
answer result = answer_in no_cause (λ service. replies.Node 0) result

not_wanted : (result : Result ServiceTables ServiceRefusal) → is_wanting result ≡ false → answer result ≡ replies.Refused refusals.WantOfMemory → ⊥
not_wanted (Ok v) quiet e = absurd (cc)
not_wanted (Err refusals.WantOfMemory) quiet e = true≢false quiet
not_wanted (Err r) quiet e = absurd (cc)

-- the same where handlers would follow their ports' strategies: no port is there yet
where_they_follow : (q : Option Refusal) (l : Limits) (id : UniqueSystemId) (reply : Reply) (made : Option State)
    → MakesUnless q (created l action_in id) reply made → MakesUnless q (created l follow id) reply (option_map (with_acts follow) made)
where_they_follow (Some r) l id reply made m = (m.0, ap (option_map (with_acts follow)) m.1)
where_they_follow None l id reply made m = (m.0, ap (option_map (with_acts follow)) m.1)

made_so : (l : Limits) (id : UniqueSystemId) (result : Result ServiceTables ServiceRefusal) → is_wanting result ≡ false
    → nodes.IsCreated l id None result
    → MakesUnless (creation_refusal l id None true) (created l follow id) (answer result) (option_map (with_acts follow) (made_in result))
made_so l id result quiet made =
    where_they_follow (creation_refusal l id None true) l id (answer result) (made_in result)
    (step (made no_cause).0 (is_node_id id) (is_too_large l) (made no_cause).1)
  where
    step : (memory valid large : Bool) → MakesUnless (Refuses valid large memory) (created l action_in id) (answer result) (made_in result)
        → MakesUnless (Refuses valid large true) (created l action_in id) (answer result) (made_in result)
    step true valid large m = m
    step false false large m = m
    step false true true m = m
    step false true false m = absurd (not_wanted result quiet m.0)

pub service_made : (m : SessionState) (id : UniqueSystemId) (v : ServiceTables)
    → nodes.IsCreated {C = Infallible} (limits_with m.request_overflow m.response_overflow) id None (Ok v)
    → IsCreated None m id (answers.Service (replies.Node 0)) (with_service m (Some (script_state v)))
service_made m id v made = (
  Some (script_state v),
  record {
    answer = replies.Node 0;
    told = refl;
    creation = made_so (limits_with m.request_overflow m.response_overflow) id (Ok v) refl made;
  },
  refl,
)

pub service_refused : (m : SessionState) (id : UniqueSystemId) (r : ServiceRefusal) → m.service ≡ None
    → is_wanting {X = ServiceTables} (Err r) ≡ false
    → nodes.IsCreated (limits_with m.request_overflow m.response_overflow) id None (Err r)
    → IsCreated None m id (answers.Service (replies.Refused r)) m
service_refused m id r none quiet made = (
  None,
  record {
    answer = replies.Refused r;
    told = refl;
    creation = made_so (limits_with m.request_overflow m.response_overflow) id (Err r) quiet made;
  },
  ap (with_service m) none,
)
