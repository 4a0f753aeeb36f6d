-- A server's receive, by what its visits came to.
use Rattle.std.specs.Prelude.{◌≡◌, ℕ, ◌^◌, ◌<◌}
use Rattle.std.proofs.Common.{sym, ap, subst, ◌∙◌}
use Rattle.iox_lanes.specs.declared.incoming.Visits.{Visits}
use Rattle.iox_lanes.specs.declared.incoming.Visits.TheVariants.{Got, AtLimit, Nothing}
use Rattle.iox_lanes.specs.declared.wanted.Wanted.{Wanted}
use Rattle.iox_model.specs.Commands.{Reply}
use Rattle.iox_model.specs.WholeCalls.{IsWholeCall}
use Rattle.iox_model.specs.declared.call.Call.TheVariants.{Receive}
use Rattle.iox_model.specs.declared.kind.Role.TheVariants.{Server}
use Rattle.iox_hub_ports.specs.HubStates.States.{state_shown}
use Rattle.iox_hub_ports.specs.HubStates.Wirings.{IsServer}
use Rattle.iox_hub_ports.specs.HubStates.Ends.{with_call}
use Rattle.iox_hub_ports.specs.HubStates.Receives.{got_reply, request_reply, visits_at, wanted_by_server, with_request, with_visited}
use Rattle.iox_hub_ports.proofs.HubBooks.Received.{requests_keep_order}
use Rattle.iox_control.specs.declared.received.Received.{Received}
use Rattle.iox_control.specs.Controls.{ControlState, IsControl, with_got, with_tables}
use Rattle.iox_control.specs.Receives.{ReceivesRequest, with_rest}
use Rattle.iox_control.specs.Replies.{reply_of_receive}
use Rattle.iox_control.proofs.WholeLemmas.{request_received}
use Rattle.iox_control.proofs.ReceiveKept.{IsReceived, IsWhole, KeepsOrder, got_is_received, limit_is_received, nothing_is_received, rest_port_room, visited_reply}

module _ (c : ControlState) (node n : ℕ) (server : IsServer c.tables node n) (order : IsControl c) (few : c.tables.calls < 2 ^ 56) where
  -- what it wants
  abbrev wants : Wanted
  wants = wanted_by_server c.tables.settings.fire_and_forget

  visits : (w : Wanted) (v : Visits) → w ≡ wants → v ≡ visits_at c.tables n 0 w → visits_at c.tables n 0 wants ≡ v
  visits w v is at = sym (at ∙ ap (visits_at c.tables n 0) is)

  visited : (w : Wanted) (d : ControlState) → w ≡ wants → d ≡ with_tables c (with_visited c.tables n 0 w) → d ≡ with_tables c (with_visited c.tables n 0 wants)
  visited w d is at = at ∙ ap (λ u. with_tables c (with_visited c.tables n 0 u)) is

  keeps : KeepsOrder c node n 0 wants Server (Receive n) order few
  keeps pools more = requests_keep_order c.tables node n pools order.order server more

  whole : IsWhole c node n 0 wants Server (Receive n) order few
  whole x pools differ = request_received x c.tables node n pools server (order.order.wired.each n server.port server.there) order.order.wired.limits few differ

  abbrev IsAnswer : ControlState → Type 0
  IsAnswer new = IsReceived c node (Receive n) (with_request c.tables node n) (request_reply c.tables n) new

  pub request_got : (w : Wanted) (sender pool k : ℕ) (d new : ControlState) → w ≡ wants → Got sender pool k ≡ visits_at c.tables n 0 w
      → d ≡ with_tables c (with_visited c.tables n 0 w) → new ≡ with_got d node Server n pool k → IsAnswer new
  request_got w sender pool k d new is at left got =
      got_is_received c node n 0 wants Server (Receive n) order few sender pool k (visits w (Got sender pool k) is at) keeps whole new
      (got ∙ ap (λ e. with_got e node Server n pool k) (visited w d is left))

  pub request_other_reply : (w : Wanted) (v : Visits) → w ≡ wants → v ≡ visits_at c.tables n 0 w → request_reply c.tables n ≡ got_reply c.tables v
  request_other_reply w v is at = ap (λ u. got_reply c.tables u) (visits w v is at)

  pub request_limit : (w : Wanted) (new : ControlState) → w ≡ wants → AtLimit ≡ visits_at c.tables n 0 w
      → new ≡ with_tables c (with_visited c.tables n 0 w) → IsAnswer new
  request_limit w new is at left =
      limit_is_received c node n 0 wants Server (Receive n) order few (visits w AtLimit is at) keeps whole new (visited w new is left)

  pub request_none : (w : Wanted) (d new : ControlState) → w ≡ wants → Nothing ≡ visits_at c.tables n 0 w
      → d ≡ with_tables c (with_visited c.tables n 0 w) → new ≡ with_tables d (with_call d.tables) → IsAnswer new
  request_none w d new is at left counted =
      nothing_is_received c node n 0 wants Server (Receive n) order few (visits w Nothing is at) keeps whole new
      (counted ∙ ap (λ e. with_tables e (with_call e.tables)) (visited w d is left))

  -- ---- the whole call

  pub request_done : (w : Wanted) (v : Visits) (d new : ControlState) → w ≡ wants → v ≡ visits_at c.tables n 0 w
      → d ≡ with_tables c (with_visited c.tables n 0 w) → new ≡ with_rest d node Server n v → IsAnswer new
  request_done w (Got sender pool k) d new is at left rest = request_got w sender pool k d new is at left rest
  request_done w AtLimit d new is at left rest = request_limit w new is at (rest ∙ left)
  request_done w Nothing d new is at left rest = request_none w d new is at left rest

  pub receives_request : (w : Wanted) (v : Visits) (d new : ControlState) (r : Received) → w ≡ wants → v ≡ visits_at c.tables n 0 w
      → d ≡ with_tables c (with_visited c.tables n 0 w) → new ≡ with_rest d node Server n v → reply_of_receive r ≡ got_reply d.tables v
      → ReceivesRequest c node n r new
  receives_request w v d new r is at left rest says = record {
    reply = reply;
    left = done.left;
    order = done.order;
    port_room = ap (λ (e : ControlState). e.port_room) rest ∙ rest_port_room d node Server n v ∙ ap (λ (e : ControlState). e.port_room) left;
    whole = λ x. subst (λ (q : Reply). IsWholeCall (state_shown x c.tables) node (Receive n) q (state_shown x new.tables)) (sym reply) (done.whole x);
  }
    where
      done : IsAnswer new
      done = request_done w v d new is at left rest

      reply : reply_of_receive r ≡ request_reply c.tables n
      reply = says ∙ ap (λ (e : ControlState). got_reply e.tables v) left ∙ visited_reply c.tables n 0 w v ∙ sym (request_other_reply w v is at)
