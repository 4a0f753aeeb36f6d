-- A request that is received: it is the one that waited, and clients wait for responses as before.
use Rattle.std.specs.Prelude.{◌≡◌, ℕ, ◌+◌, ◌≤◌, Bool, true, false, if◌then◌else◌, ◌==◌, List, [], length, Option, Some, refl}
use Rattle.std.specs.List.{list_any}
use Rattle.std.specs.Option.{option_map, option_map_or}
use Rattle.std.proofs.Common.{sym, ap, ap₂, subst, ◌∙◌, arith, true≢false}
use Rattle.std.proofs.lemmas.Option.{same_Some}
use Rattle.iox_model.specs.declared.call.Call.TheVariants.{Receive}
use Rattle.iox_model.specs.declared.kind.Kind.{Kind}
use Rattle.iox_model.specs.declared.kind.Kind.TheVariants.{ActiveRequest, PendingResponse}
use Rattle.iox_model.specs.declared.kind.Kind.TheVariants as kinds
use Rattle.iox_model.specs.declared.kind.Role.{Role}
use Rattle.iox_model.specs.declared.kind.Role.TheVariants.{Client, Server}
use Rattle.iox_model.specs.declared.reply.Reply.TheVariants as replies
use Rattle.iox_model.specs.declared.way.Way.{Way}
use Rattle.iox_model.specs.Doings.{Receiver}
use Rattle.iox_model.specs.Handles.{handle_at, same_kind, way_of}
use Rattle.iox_model.specs.Maps.{same_way}
use Rattle.iox_model.specs.Messages.{Message, request_way, response_way}
use Rattle.iox_model.specs.States as m
use Rattle.iox_model.specs.States.{Handle}
use Rattle.iox_model.specs.WholeCalls.{IsWholeCall}
use Rattle.iox_laws.proofs.RunLaws.Runs.{left_calm}
use Rattle.iox_laws.proofs.WeaveLaws.MapLemmas.{same_way-true}
use Rattle.iox_laws.proofs.WeaveLedger.Truths.{by_cases}
use Rattle.iox_tables.specs.HubStates.Receives.{way_to}
use Rattle.iox_tables.specs.HubStates.Releases.{lane_of}
use Rattle.iox_tables.specs.HubStates.States.{Given, message_of}
use Rattle.iox_tables.specs.HubStates.Tables.{HandleState, HubTables, PortState, port_in}
use Rattle.iox_tables.specs.HubStates.Wirings.{IsPending, IsServer}
use Rattle.iox_tables.proofs.HubStates.Fixing.{find_handle}
use Rattle.iox_hub_laws.specs.Received.TheVariants as received
use Rattle.iox_hub_laws.specs.Hubs.{HasValue, HubState, IsHub, given_by, nothing_given, state_of_hub}
use Rattle.iox_hub_laws.proofs.Named.{pending_is, server_is}
use Rattle.iox_hub_laws.specs.Receives.{TakesNext, TakesRequest}
use Rattle.iox_hub_laws.specs.Shown.{handle_of, shown}
use Rattle.iox_hub_laws.specs.Waiting.{client_in, client_of, server_of}
use Rattle.iceoryx2_ports.specs.Asking.{AllAsk, IsItsRequest, KeepsAskersIdle, is_open_at}
use Rattle.iceoryx2_ports.specs.Idling.{IsIdle}
use Rattle.iceoryx2_ports.specs.Responses.{asker_of}
use Rattle.iceoryx2_ports.proofs.Asking.{asker_by, open_shown}
use Rattle.iceoryx2_ports.proofs.OneTaken.{is_empty}
use Rattle.iceoryx2_ports.proofs.Opening.{keeps_open}
use Rattle.iceoryx2_ports.proofs.Resting.{full_by, limit_by}
use Rattle.iceoryx2_ports.proofs.Staying.{asks_as_before}
use Rattle.iceoryx2_ports.proofs.Taking.{HasTaken, receive_takes}

none_more : (n k : ℕ) → n ≤ k → k ≡ 0 → n ≤ 0
none_more n k p e = omega (arith, e)

module _ (old new : HubState) (hub : IsHub old) (node server k : ℕ)
    (whole : (y : Given) → IsWholeCall (state_of_hub y old) node (Receive server) (replies.Handle k) (state_of_hub y new))
    (takes : TakesRequest old node server (received.Handle k) new) where
  abbrev ts : HubTables
  ts = old.control.tables

  abbrev us : HubTables
  us = new.control.tables

  abbrev got : TakesNext old new node k
  got = takes.0

  abbrev g : Handle
  g = handle_of new got.handle

  -- The request is the one of which all that waited was.
  pub is_its_request : (asker : Receiver) → AllAsk old (server_of server) asker → IsItsRequest old asker server new node k
  is_its_request asker all = record {
    asker = ap (λ (o : Option HandleState). option_map_or (asker_of us) o (server_of k)) got.there ∙ same;
    answerer = ap (λ (o : Option HandleState). option_map_or (λ (a : HandleState). a.port) o k) got.there ∙ takes.2;
    opened = open_shown new node k g there
        ∙ keeps_open old new node (Receive server) (replies.Handle k) refl whole (asker_by g) g.port
        ∙ ap₂ (λ (x : Receiver) (s : ℕ). is_open_at old x s) same takes.2;
  }
    where
      same : asker_by g ≡ asker
      same = all.each got.handle.client g.message (takes.3).waits

      there : handle_at (shown new).fixed node k ≡ Some g
      there =
          find_handle (given_by (nothing_given new) new) (message_of (given_by (nothing_given new) new) us.pools) us.handles node k
          ∙ ap (option_map (handle_of new)) got.there

  -- ---- clients that wait

  taken : HasTaken (state_of_hub hub.reached.0 old) (state_of_hub hub.reached.0 new) node k
  taken =
      receive_takes (state_of_hub hub.reached.0 old) (state_of_hub hub.reached.0 new) node server k
      (left_calm (state_of_hub hub.reached.0 old) hub.reached.1) (whole hub.reached.0)

  -- it came on a way to the server
  came : (way_of taken.handle).receiver ≡ server
  came =
      ap (λ (h : Handle). (way_of h).receiver)
      (same_Some taken.handle g
      (sym taken.at
      ∙ find_handle (given_by hub.reached.0 new) (message_of (given_by hub.reached.0 new) us.pools) us.handles node k
      ∙ ap (option_map (handle_of new)) got.there))
      ∙ ap (λ (kind : Kind). (if same_kind kind ActiveRequest then request_way got.handle.client got.handle.port
      else response_way got.handle.port (lane_of us got.handle) g.message.sender).receiver) takes.1
      ∙ takes.2

  module _ (has : HasValue old node server kinds.Server) where
    no_client : (p : PortState) → port_in ts.ports server ≡ Some p → p.role ≡ Client → ⊥
    no_client p there client =
        let served : IsServer ts node server = server_is ts hub.control.order node server has in
        true≢false
        (ap is_server (sym served.server ∙ ap (λ (q : PortState). q.role) (same_Some served.port p (sym served.there ∙ there)) ∙ client))
      where
        is_server : Role → Bool
        is_server Server = true
        is_server Client = false

    -- Where a client was idle for a pending response, it still is.
    pub receive_keeps_askers_idle : KeepsAskersIdle old new
    receive_keeps_askers_idle a n is idle =
        subst (IsIdle new) (sym (asks_as_before old new node (Receive server) (replies.Handle k) refl whole a n is))
        (record {
          none = record { empty = empty };
          room = record {
            buffers = λ sender connected.
                full_by (shown old) (shown new) taken.limits taken.ports (way_to x sender) (empty sender ∙ sym (idle.none.empty sender))
                ∙ idle.room.buffers sender (sym (ap (λ (ps : List m.Port). list_any (λ (p : m.Port). p.number == sender) ps) taken.ports) ∙ connected);
            borrows = λ sender.
                limit_by (shown old).fixed (shown new).fixed taken.limits taken.ports (way_to x sender) (had sender) ∙ idle.room.borrows sender;
          };
        })
      where
        pending : IsPending ts a n
        pending = pending_is ts hub.control.order a n is

        x : Receiver
        x = client_in old a n

        its : x.port ≡ pending.handle.port
        its = ap (λ (o : Option HandleState). (option_map_or (client_of ts) o (server_of n)).port) pending.named.there

        empty : (sender : ℕ) → (shown new).waiting (way_to x sender) ≡ []
        empty sender =
            is_empty ((shown new).waiting (way_to x sender))
            (none_more (length ((shown new).waiting (way_to x sender))) (length ((shown old).waiting (way_to x sender))) (taken.fewer (way_to x sender))
            (ap (λ (ms : List Message). length ms) (idle.none.empty sender)))

        -- none of its ways is the one on which the request came
        had : (sender : ℕ) → (shown new).fixed.borrowed (way_to x sender) ≡ (shown old).fixed.borrowed (way_to x sender)
        had sender =
            taken.borrowed (way_to x sender)
            ∙ ap (λ (b : Bool). if b then (shown old).fixed.borrowed (way_of taken.handle) + 1 else (shown old).fixed.borrowed (way_to x sender)) elsewhere
          where
            elsewhere : same_way (way_to x sender) (way_of taken.handle) ≡ false
            elsewhere =
                by_cases (same_way (way_to x sender) (way_of taken.handle))
                (λ e.
                let at : pending.handle.port ≡ server
                = sym its ∙ ap (λ (w : Way). w.receiver) (same_way-true (way_to x sender) (way_of taken.handle) e) ∙ came in
                absurd (no_client pending.port (ap (port_in ts.ports) (sym at) ∙ pending.there) pending.client))
                (λ e. e)
