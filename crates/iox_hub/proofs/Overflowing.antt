-- What full receivers mean for a send counts only where its messages do not overflow.
use Rattle.std.specs.Prelude.{◌≡◌, ℕ, Bool, true, false, not, ◌&&◌, if◌then◌else◌, List, Option, Some, length, refl}
use Rattle.std.proofs.Common.{sym, ap, ap₂, ◌∙◌}
use Rattle.iox_types.specs.declared.backpressure.BackpressureStrategy.{BackpressureStrategy}
use Rattle.iox_model.specs.declared.reply.Refusal.TheVariants.{UnableToDeliver}
use Rattle.iox_model.specs.declared.reply.Reply.TheVariants as replies
use Rattle.iox_model.specs.declared.way.Way.{Way}
use Rattle.iox_model.specs.Commands.{Reply}
use Rattle.iox_model.specs.Requests.{fails_at}
use Rattle.iox_lanes.specs.Lanes.{is_full}
use Rattle.iox_tables.specs.HubStates.States.{Given, fixed_of}
use Rattle.iox_tables.specs.HubStates.Tables.{HandleState, HubTables, PortState, port_in}
use Rattle.iox_tables.specs.HubStates.Wirings.{handle_in}
use Rattle.iox_tables.specs.HubStates.Releases.{way_to_client}
use Rattle.iox_tables.specs.HubBooks.Handles.{IsOfPort}
use Rattle.iox_tables.proofs.HubBooks.Used.{handle_is}
use Rattle.iox_tables.proofs.HubStates.Fixing.{first_key}
use Rattle.iox_tables.specs.HubLoans.Counts.{has_all_active}
use Rattle.iox_tables.specs.HubLoans.Questions.{is_named_by_client}
use Rattle.iox_hub_ports.specs.Ports.{on_way}
use Rattle.iox_control_request_copies.specs.Requested.{Requested}
use Rattle.iox_control_request_copies.specs.Requested.TheVariants.{To, ExceedsMaxActiveRequests, UnableToDeliver as IsLost}
use Rattle.iox_control_request_copies.specs.Requests.{is_failing, ways_of, with_requests_back}
use Rattle.iox_control_request_copies.specs.Responses.{response_reply}
use Rattle.iox_control_request_copies.specs.Sendings.{request_outcome}
use Rattle.iox_backpressure.specs.Failing.{fails_with}
use Rattle.iox_backpressure.specs.Handlers.{handler_in}
use Rattle.iox_hub.specs.Hubs.{HubState, IsHub, fails_of, given_by}
use Rattle.iox_hub.proofs.Handling.{fails_as_it_says}

-- ---- responses

-- what is replied, where the response may be undelivered
abbrev reply_if : Bool → Reply
reply_if undelivered = if undelivered then replies.Refused UnableToDeliver else replies.Done

pub reply_as : (t : HubTables) (h : HandleState) (a b : Bool) → (t.settings.response_overflow ≡ false → a ≡ b) → response_reply t h a ≡ response_reply t h b
reply_as t h a b same = step (is_named_by_client t h false) (on_way is_full true t.ports (way_to_client t h)) t.settings.response_overflow same
  where
    step : (n f o : Bool) → (o ≡ false → a ≡ b) → reply_if (n && ((f && not o) && a)) ≡ reply_if (n && ((f && not o) && b))
    step n f false e = ap (λ (v : Bool). reply_if (n && ((f && true) && v))) (e refl)
    step n true true e = refl
    step n false true e = refl

-- ---- requests

-- what the send of a request comes to, with overflow or without
abbrev outcome : HubTables → HandleState → Bool → (Way → Bool) → Requested
outcome t h overflow fails =
    if has_all_active t h.port then ExceedsMaxActiveRequests
    else if is_failing fails overflow (with_requests_back t h).ports h.port then IsLost
    else To (length (ways_of (with_requests_back t h) h overflow))

pub outcome_as : (t : HubTables) (h : HandleState) (f g : Way → Bool) → (t.settings.request_overflow ≡ false → f ≡ g) → request_outcome f t h ≡ request_outcome g t h
outcome_as t h f g same = step t.settings.request_overflow same
  where
    step : (o : Bool) → (o ≡ false → f ≡ g) → outcome t h o f ≡ outcome t h o g
    step true e = refl
    step false e = ap (outcome t h false) (e refl)

module _ {h : HubState} (hub : IsHub h) (j : HandleState) (handler : Option (List ℕ)) (strategy : BackpressureStrategy)
    (said : (p : PortState) → port_in h.control.tables.ports j.port ≡ Some p → handler ≡ handler_in h.handlers j.port)
    (is : (p : PortState) → port_in h.control.tables.ports j.port ≡ Some p → strategy ≡ p.strategy) where
  -- at the port of that handle a request fails as the hub says
  pub requests_said : (i : HandleState) → j ≡ i → (p : PortState) → port_in h.control.tables.ports i.port ≡ Some p
      → (λ (w : Way). fails_with handler strategy w.sender w.receiver) ≡ fails_of h p
  requests_said i same p there =
      let here : port_in h.control.tables.ports j.port ≡ Some p = ap (λ (k : HandleState). port_in h.control.tables.ports k.port) same ∙ there in
      ap₂ {C = Way → Bool} (λ (a : Option (List ℕ)) (s : BackpressureStrategy) (w : Way). fails_with a s w.sender w.receiver)
      (said p here ∙ ap (handler_in h.handlers) (sym (first_key (λ (q : PortState). q.number) h.control.tables.ports j.port p here))) (is p here)

  -- so it does in the machine
  pub requests_fail : (x : Given) (node n : ℕ) → handle_in h.control.tables.handles node n ≡ Some j
      → (w : Way) → w.sender ≡ j.port → fails_at (fixed_of (given_by x h) h.control.tables) w ≡ fails_with handler strategy w.sender w.receiver
  requests_fail x node n at w from =
      let of : IsOfPort h.control.tables j = handle_is (IsOfPort h.control.tables) h.control.tables.handles node n j hub.control.order.ports at in
      fails_as_it_says h x of.port w (ap (port_in h.control.tables.ports) from ∙ of.there)
      ∙ ap (λ (f : Way → Bool). f w) (sym (requests_said j refl of.port of.there))
