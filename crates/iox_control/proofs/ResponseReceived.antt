-- The receive of a pending response, by what its visits came to.
use Rattle.std.specs.Prelude.{◌≡◌, ℕ, ◌^◌, ◌<◌, Some}
use Rattle.std.proofs.Common.{sym, ap, subst, ◌∙◌}
use Rattle.std.proofs.lemmas.Option.{same_Some}
use Rattle.iox_handles.specs.declared.entry.Entry.{Entry}
use Rattle.iox_lanes.specs.declared.incoming.Visits.{Visits}
use Rattle.iox_lanes.specs.declared.incoming.Visits.TheVariants.{Got, AtLimit, Nothing}
use Rattle.iox_lanes.specs.declared.wanted.Label.{Label}
use Rattle.iox_lanes.specs.declared.wanted.Wanted.{Wanted}
use Rattle.iox_lanes.specs.declared.wanted.Wanted.TheVariants.{Of}
use Rattle.iox_model.specs.Commands.{Reply}
use Rattle.iox_model.specs.WholeCalls.{IsWholeCall}
use Rattle.iox_model.specs.declared.call.Call.TheVariants.{Receive}
use Rattle.iox_model.specs.declared.kind.Role.TheVariants.{Client}
use Rattle.iox_hub_ports.specs.HubStates.States.{state_shown}
use Rattle.iox_hub_ports.specs.HubStates.Tables.{HandleState, labels_of}
use Rattle.iox_hub_ports.specs.HubStates.Wirings.{IsPending, handle_in}
use Rattle.iox_hub_ports.specs.HubStates.Ends.{with_call}
use Rattle.iox_hub_ports.specs.HubStates.Receives.{got_reply, response_reply, visits_at, with_response, with_visited}
use Rattle.iox_hub_ports.proofs.HubBooks.Received.{responses_keep_order}
use Rattle.iox_control.specs.declared.received.Received.{Received}
use Rattle.iox_control.specs.Controls.{ControlState, IsButHolders, IsControl, with_got, with_tables}
use Rattle.iox_control.specs.Receives.{ReceivesResponse, with_rest}
use Rattle.iox_control.specs.Replies.{reply_of_receive}
use Rattle.iox_control.specs.Entries.{handle_state}
use Rattle.iox_control.proofs.PendingLemmas.{pending_of}
use Rattle.iox_control.proofs.WholeLemmas.{response_received}
use Rattle.iox_control.proofs.ReceiveKept.{IsReceived, IsWhole, KeepsOrder, got_is_received, limit_is_received, nothing_is_received, rest_port_room, visited_reply}

module _ (c : ControlState) (node n : ℕ) (given : IsPending c.tables node n) (order : IsControl c) (few : c.tables.calls < 2 ^ 56) where
  module _ (e : Entry) (found : Some (handle_state e) ≡ handle_in c.tables.handles node n) where
    abbrev pending : IsPending c.tables node n
    pending = pending_of c.tables node n given e found

    abbrev label : Label
    label = labels_of c.tables.pools e.pool e.slot

    abbrev wants : Wanted
    wants = Of label.request

    abbrev at_visits : Label → Visits
    at_visits l = visits_at c.tables e.port l.lane (Of l.request)

    abbrev after_visits : Label → ControlState
    after_visits l = with_tables c (with_visited c.tables e.port l.lane (Of l.request))

    keeps : KeepsOrder c node e.port label.lane wants Client (Receive n) order few
    keeps pools more = responses_keep_order c.tables node n pools order.order pending more

    whole : IsWhole c node e.port label.lane wants Client (Receive n) order few
    whole x pools differ = response_received x c.tables node n pools pending (order.order.wired.each e.port pending.port pending.there) order.order.wired.limits few differ

    abbrev IsAnswer : ControlState → Type 0
    IsAnswer new = IsReceived c node (Receive n) (with_response c.tables node (handle_state e)) (response_reply c.tables (handle_state e)) new

    pub response_got : (l : Label) (sender pool k : ℕ) (d new : ControlState) → l ≡ label → Got sender pool k ≡ at_visits l
        → d ≡ after_visits l → new ≡ with_got d node Client e.port pool k → IsAnswer new
    response_got l sender pool k d new is at left got =
        got_is_received c node e.port label.lane wants Client (Receive n) order few sender pool k (sym (at ∙ ap at_visits is)) keeps whole new
        (got ∙ ap (λ e'. with_got e' node Client e.port pool k) (left ∙ ap after_visits is))

    pub response_limit : (l : Label) (new : ControlState) → l ≡ label → AtLimit ≡ at_visits l → new ≡ after_visits l → IsAnswer new
    response_limit l new is at left =
        limit_is_received c node e.port label.lane wants Client (Receive n) order few (sym (at ∙ ap at_visits is)) keeps whole new (left ∙ ap after_visits is)

    pub response_none : (l : Label) (d new : ControlState) → l ≡ label → Nothing ≡ at_visits l → d ≡ after_visits l
        → new ≡ with_tables d (with_call d.tables) → IsAnswer new
    response_none l d new is at left counted =
        nothing_is_received c node e.port label.lane wants Client (Receive n) order few (sym (at ∙ ap at_visits is)) keeps whole new
        (counted ∙ ap (λ e'. with_tables e' (with_call e'.tables)) (left ∙ ap after_visits is))

    pub response_said : (l : Label) (v : Visits) → l ≡ label → v ≡ at_visits l → response_reply c.tables (handle_state e) ≡ got_reply c.tables v
    response_said l v is at = ap (λ u. got_reply c.tables u) (sym (at ∙ ap at_visits is))

    -- ---- the whole call

    pub response_done : (l : Label) (v : Visits) (d new : ControlState) → l ≡ label → v ≡ at_visits l → d ≡ after_visits l
        → new ≡ with_rest d node Client e.port v → IsAnswer new
    response_done l (Got sender pool k) d new is at left rest = response_got l sender pool k d new is at left rest
    response_done l AtLimit d new is at left rest = response_limit l new is at (rest ∙ left)
    response_done l Nothing d new is at left rest = response_none l d new is at left rest

    pub receives_response : (l : Label) (v : Visits) (d new : ControlState) (r : Received) → l ≡ label → v ≡ at_visits l → d ≡ after_visits l
        → new ≡ with_rest d node Client e.port v → reply_of_receive r ≡ got_reply d.tables v → ReceivesResponse c node n r new
    receives_response l v d new r is at left rest says = record {
      reply = λ h there. reply ∙ ap (response_reply c.tables) (same_Some _ h (found ∙ there));
      left = λ h there. subst (λ (k : HandleState). IsButHolders (with_response c.tables node k) new.tables) (same_Some _ h (found ∙ there)) done.left;
      order = done.order;
      port_room = ap (λ (e' : ControlState). e'.port_room) rest ∙ rest_port_room d node Client e.port v ∙ ap (λ (e' : ControlState). e'.port_room) left;
      whole = λ x. subst (λ (q : Reply). IsWholeCall (state_shown x c.tables) node (Receive n) q (state_shown x new.tables)) (sym reply) (done.whole x);
    }
      where
        done : IsAnswer new
        done = response_done l v d new is at left rest

        reply : reply_of_receive r ≡ response_reply c.tables (handle_state e)
        reply =
            says ∙ ap (λ (e' : ControlState). got_reply e'.tables v) left ∙ visited_reply c.tables e.port l.lane (Of l.request) v
            ∙ sym (response_said l v is at)
