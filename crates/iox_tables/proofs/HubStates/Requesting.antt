-- The send of a request, of a loan or of a copy: to whom it goes, and what handle is sent.
use Rattle.std.specs.Prelude.{◌≡◌, ℕ, Bool, true, false, if◌then◌else◌, List, refl}
use Rattle.std.proofs.Common.{ap, ap₂, ◌∙◌}
use Rattle.iox_model.specs.declared.kind.Kind.TheVariants.{RequestMut}
use Rattle.iox_model.specs.declared.kind.Role.{Role}
use Rattle.iox_model.specs.declared.kind.Role.TheVariants.{Client, Server}
use Rattle.iox_model.specs.declared.reply.Refusal.TheVariants.{ExceedsMaxActiveRequests}
use Rattle.iox_model.specs.Counts.{sent_handle}
use Rattle.iox_model.specs.Doings.{Outcome, Sending, FailsToSend}
use Rattle.iox_model.specs.Handles.{is_request_loan}
use Rattle.iox_model.specs.Requests.{is_active_spent, sending_of}
use Rattle.iox_model.specs.Settings.{overflow_of}
use Rattle.iox_model.specs.States as m
use Rattle.iox_model.specs.WholeCalls.{is_uninit}
use Rattle.iox_laws.proofs.WeaveLaws.MapLemmas.{others_are_all}
use Rattle.iox_laws.specs.CallFunctions.LoanSends.{requested, sent_of}
use Rattle.iox_laws.specs.CallFunctions.Overflows.{sent_over}
use Rattle.iox_laws.specs.CallFunctions.Responses.{responded}
use Rattle.iox_laws.specs.CallFunctions.Sends.{sent}
use Rattle.iox_tables.specs.HubStates.Tables.{HandleState, HubTables}
use Rattle.iox_tables.specs.HubStates.States.{Given, fixed_of, handle_of, limits_of, message_of, state_shown}
use Rattle.iox_tables.specs.HubStates.Releases.{handle_shown}
use Rattle.iox_tables.specs.HubStates.Sendings.{pending_of}
use Rattle.iox_tables.specs.HubStates.Wirings.{numbers_of_role, role_in}
use Rattle.iox_tables.proofs.HubStates.Fixing.{role_is, roles_are}

module _ (x : Given) (t : HubTables) (h : HandleState) where
  abbrev s : m.State
  s = state_shown x t

  abbrev f : m.Fixed
  f = fixed_of x t

  abbrev mh : m.Handle
  mh = handle_shown x t h

  abbrev told : Outcome → m.State → Outcome × m.State
  told o u = (o, u)

  module _ (copy : Bool) where
    abbrev y : Sending
    y = sending_of f mh copy (numbers_of_role Server t.ports)

    -- it goes to all servers, unless the client has as many pending responses as it may have
    pub request_is : h.kind ≡ RequestMut → role_in t.ports h.port ≡ Client
        → sent_of s mh copy
        ≡ (if is_active_spent f mh then told (FailsToSend mh copy ExceedsMaxActiveRequests) s
        else (if t.settings.request_overflow then sent_over s y else sent s y))
    request_is kind client =
        ap (λ (b : Bool). if b then requested s mh copy else responded s mh copy) (ap is_request_loan kind)
        ∙ ap₂ (λ (role : Role) (to : List ℕ). choose (overflow_of (limits_of x t) role) to) (role_is x t h.port ∙ client)
        (others_are_all f h.node Server refl ∙ roles_are x t.ports Server)
        ∙ order t.settings.request_overflow (is_active_spent f mh)
      where
        choose : Bool → List ℕ → Outcome × m.State
        choose b to =
            if b then (if is_active_spent f mh then told (FailsToSend mh copy ExceedsMaxActiveRequests) s else sent_over s (sending_of f mh copy to))
            else (if is_active_spent f mh then told (FailsToSend mh copy ExceedsMaxActiveRequests) s else sent s (sending_of f mh copy to))

        order : (b c : Bool)
            → (if b then (if c then told (FailsToSend mh copy ExceedsMaxActiveRequests) s else sent_over s y) else (if c then told (FailsToSend mh copy ExceedsMaxActiveRequests) s else sent s y))
            ≡ (if c then told (FailsToSend mh copy ExceedsMaxActiveRequests) s else (if b then sent_over s y else sent s y))
        order true true = refl
        order true false = refl
        order false true = refl
        order false false = refl

  -- the handle that is sent is the pending response
  pub sent_is : (count : ℕ) → h.kind ≡ RequestMut → sent_handle mh count ≡ handle_of x (message_of x t.pools) (pending_of h count)
  sent_is count kind = λ i. record (sent_handle mh count) {
    filled = ap (λ (b : Bool). if b then x.filled h.pool h.slot else mh.message.elements) (ap is_uninit kind) i;
  }
