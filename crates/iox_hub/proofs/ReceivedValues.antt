-- What a receive gave is a value of its node.
use Rattle.std.specs.Prelude.{◌≡◌, ℕ, Bool, true, false, if◌then◌else◌, [], ◌∷◌, ◌++◌, Some, refl}
use Rattle.std.proofs.Common.{sym, ap, ◌∙◌, true≢false}
use Rattle.iox_lanes.specs.declared.incoming.Visits.{Visits}
use Rattle.iox_lanes.specs.declared.incoming.Visits.TheVariants as visits
use Rattle.iox_lanes.specs.declared.wanted.Label.{Label}
use Rattle.iox_lanes.specs.declared.wanted.Wanted.{Wanted}
use Rattle.iox_lanes.specs.declared.wanted.Wanted.TheVariants.{Of}
use Rattle.iox_model.specs.declared.kind.Kind.{Kind}
use Rattle.iox_model.specs.declared.kind.Kind.TheVariants as kinds
use Rattle.iox_model.specs.declared.kind.Role.{Role}
use Rattle.iox_model.specs.declared.kind.Role.TheVariants.{Client, Server}
use Rattle.iox_model.specs.declared.reply.Reply.TheVariants as replies
use Rattle.iox_model.specs.Commands.{Reply}
use Rattle.iox_model.specs.Settings.{is_client}
use Rattle.iox_tables.specs.HubStates.Tables.{HandleState, HubTables, labels_of}
use Rattle.iox_tables.specs.HubStates.Receives.{got_handle, got_reply, request_reply, response_reply, visits_at, wanted_by_server, with_got, with_request, with_response, with_visited}
use Rattle.iox_tables.specs.HubStates.Wirings.{IsPending, handle_in}
use Rattle.iox_tables.specs.HubLoans.Questions.{kind_in}
use Rattle.iox_tables.specs.HubBooks.Hubs.{AreInOrder}
use Rattle.iox_control.specs.Controls.{ControlState, IsButHolders, IsControl}
use Rattle.iox_control.specs.declared.received.Received.{Received}
use Rattle.iox_control.specs.declared.received.Received.TheVariants as received
use Rattle.iox_control.specs.Replies.{reply_of_receive}
use Rattle.iox_hub.specs.Hubs.{IsGot}
use Rattle.iox_hub.proofs.Named.{added_is_found, handle_is_value}

abbrev is_handle : Reply → Bool
is_handle (replies.Handle n) = true
is_handle r = false

abbrev number_in : Reply → ℕ
number_in (replies.Handle n) = n
number_in r = 0

-- the kind of what a port of that role gets
abbrev pub got_kind : Role → Kind
got_kind role = if is_client role then kinds.Response else kinds.ActiveRequest

-- The tables before and after visits have the same handles and numbers; the reply is that of the
-- visits, and so are the handles that are left.
module _ (t t1 t' : HubTables) (node port : ℕ) (role : Role) (order : AreInOrder t) (left : AreInOrder t') (same : t1.handles ≡ t.handles)
    (next : t1.next_number ≡ t.next_number) where
  got : (n sender pool k : ℕ) → t'.handles ≡ (with_got t1 node role port (visits.Got sender pool k)).handles
      → replies.Handle n ≡ got_reply t (visits.Got sender pool k) → kind_in t' node n ≡ Some (got_kind role)
  got n sender pool k handles reply =
      let h : HandleState = got_handle t1 node role port pool k in
      let number : n ≡ t1.next_number = ap number_in reply ∙ sym next in
      let there : handle_in t'.handles node n ≡ Some h =
      ap (λ m. handle_in t'.handles node m) number
      ∙ ap (λ hs. handle_in hs node t1.next_number) (handles ∙ ap (λ hs. hs ++ h ∷ []) same)
      ∙ added_is_found t order h next in
      handle_is_value t' left node n h there

  pub received_is_value : (v : Visits) (r : Received) → t'.handles ≡ (with_got t1 node role port v).handles → reply_of_receive r ≡ got_reply t v
      → IsGot t' node (got_kind role) r
  received_is_value (visits.Got sender pool k) (received.Handle n) handles reply = got n sender pool k handles reply
  received_is_value visits.AtLimit (received.Handle n) handles reply = absurd (true≢false (ap is_handle reply))
  received_is_value visits.Nothing (received.Handle n) handles reply = absurd (true≢false (ap is_handle reply))
  received_is_value v received.Nothing handles reply = tt
  received_is_value v received.AtLimit handles reply = tt

-- ---- the receives of a hub's tables

module _ (c d : ControlState) (node : ℕ) (r : Received) (order : IsControl c) (left : IsControl d) where
  pub request_is_value : (server : ℕ) → IsButHolders (with_request c.tables node server) d.tables
      → reply_of_receive r ≡ request_reply c.tables server → IsGot d.tables node kinds.ActiveRequest r
  request_is_value server is reply =
      let wanted : Wanted = wanted_by_server c.tables.settings.fire_and_forget in
      received_is_value c.tables (with_visited c.tables server 0 wanted) d.tables node server Server order.order left.order refl refl
      (visits_at c.tables server 0 wanted) r (ap (λ (t : HubTables). t.handles) is.same) reply

  pub response_is_value : (n : ℕ) → (pending : IsPending c.tables node n)
      → ((h : HandleState) → handle_in c.tables.handles node n ≡ Some h → IsButHolders (with_response c.tables node h) d.tables)
      → ((h : HandleState) → handle_in c.tables.handles node n ≡ Some h → reply_of_receive r ≡ response_reply c.tables h)
      → IsGot d.tables node kinds.Response r
  response_is_value n pending is reply =
      let h : HandleState = pending.handle in
      let l : Label = labels_of c.tables.pools h.pool h.slot in
      received_is_value c.tables (with_visited c.tables h.port l.lane (Of l.request)) d.tables node h.port Client order.order left.order refl refl
      (visits_at c.tables h.port l.lane (Of l.request)) r (ap (λ (t : HubTables). t.handles) (is h pending.named.there).same) (reply h pending.named.there)
