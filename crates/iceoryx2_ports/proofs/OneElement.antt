-- A loan of messages that have one element has one.
use Rattle.std.specs.Prelude.{◌≡◌, ℕ, Bool, true, false, Option, Some, None, refl}
use Rattle.std.specs.Option.{option_map_or}
use Rattle.std.proofs.Common.{sym, ap, ◌∙◌, true≢false}
use Rattle.iox_store.specs.Stored.{StoredMessage}
use Rattle.iox_model.specs.declared.kind.Kind.{Kind}
use Rattle.iox_model.specs.declared.kind.Kind.TheVariants as kinds
use Rattle.iox_model.specs.Handles.{is_request_loan, is_response_loan}
use Rattle.iox_model.specs.Names.{is_port}
use Rattle.iox_tables.specs.HubBooks.Handles.{is_loan}
use Rattle.iox_tables.specs.HubLoans.Questions.{kind_in}
use Rattle.iox_tables.proofs.HubBooks.Used.{handle_is}
use Rattle.iox_hub_laws.specs.Fits.{SuitsHandle, many_of}
use Rattle.iox_hub_laws.specs.Hubs.{HasValue, HubState, IsHub, many_in}
use Rattle.iox_hub_laws.specs.Reads.{HasOf, message_in}
use Rattle.iox_hub_laws.proofs.Values.{IsHandleOf, carried_by, value_is_handle}

module _ (h : HubState) (hub : IsHub h) (node n : ℕ) where
  loan_of_one : (kind : Kind) → is_port kind ≡ false → is_loan kind ≡ true → many_of (many_in h) kind ≡ false → HasValue h node n kind
      → (message_in h node n).elements ≡ 1
  loan_of_one kind no_port loan few has =
      let is : IsHandleOf h.control.tables node n kind = value_is_handle h.control.tables node n kind no_port has in
      ap (λ (s : StoredMessage). s.elements) (carried_by h node n is.handle is.named.there)
      ∙ (handle_is (SuitsHandle (many_in h) h.words) h.control.tables.handles node n is.handle hub.words.handles is.named.there).one
      (ap is_loan is.kind_is ∙ loan) (ap (many_of (many_in h)) is.kind_is ∙ few)

  pub request_of_one : h.request.many ≡ false → HasOf is_request_loan h node n → (message_in h node n).elements ≡ 1
  request_of_one few has = step (kind_in h.control.tables node n) refl has
    where
      of : (kind : Kind) → HasValue h node n kind → is_request_loan kind ≡ true → (message_in h node n).elements ≡ 1
      of kinds.RequestMutUninit is e = loan_of_one kinds.RequestMutUninit refl refl few is
      of kinds.RequestMut is e = loan_of_one kinds.RequestMut refl refl few is
      of kinds.Client is e = absurd (true≢false (sym e))
      of kinds.Server is e = absurd (true≢false (sym e))
      of kinds.PendingResponse is e = absurd (true≢false (sym e))
      of kinds.ActiveRequest is e = absurd (true≢false (sym e))
      of kinds.ResponseMutUninit is e = absurd (true≢false (sym e))
      of kinds.ResponseMut is e = absurd (true≢false (sym e))
      of kinds.Response is e = absurd (true≢false (sym e))

      step : (o : Option Kind) → kind_in h.control.tables node n ≡ o → option_map_or is_request_loan o false ≡ true → (message_in h node n).elements ≡ 1
      step (Some kind) is e = of kind is e
      step None is e = absurd (true≢false (sym e))

  pub response_of_one : h.response.many ≡ false → HasOf is_response_loan h node n → (message_in h node n).elements ≡ 1
  response_of_one few has = step (kind_in h.control.tables node n) refl has
    where
      of : (kind : Kind) → HasValue h node n kind → is_response_loan kind ≡ true → (message_in h node n).elements ≡ 1
      of kinds.ResponseMutUninit is e = loan_of_one kinds.ResponseMutUninit refl refl few is
      of kinds.ResponseMut is e = loan_of_one kinds.ResponseMut refl refl few is
      of kinds.Client is e = absurd (true≢false (sym e))
      of kinds.Server is e = absurd (true≢false (sym e))
      of kinds.PendingResponse is e = absurd (true≢false (sym e))
      of kinds.ActiveRequest is e = absurd (true≢false (sym e))
      of kinds.RequestMutUninit is e = absurd (true≢false (sym e))
      of kinds.RequestMut is e = absurd (true≢false (sym e))
      of kinds.Response is e = absurd (true≢false (sym e))

      step : (o : Option Kind) → kind_in h.control.tables node n ≡ o → option_map_or is_response_loan o false ≡ true → (message_in h node n).elements ≡ 1
      step (Some kind) is e = of kind is e
      step None is e = absurd (true≢false (sym e))
