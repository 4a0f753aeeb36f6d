-- What a holder reads of its loan is what the words of its pool say, and what is said of a port is so in the state that the hub shows.
use Rattle.std.specs.Prelude.{◌≡◌, ℕ, ◌<◌, Bool, true, false, List, Option, Some, None, refl}
use Rattle.std.specs.Option.{option_map, option_map_or}
use Rattle.std.proofs.Common.{sym, ap, subst, ◌∙◌, arith, true≢false}
use Rattle.std.proofs.lemmas.Option.{none-some, same_Some}
use Rattle.iox_model.specs.declared.kind.Kind.{Kind}
use Rattle.iox_model.specs.declared.kind.Kind.TheVariants as kinds
use Rattle.iox_model.specs.Handles.{is_request_loan, is_response_loan}
use Rattle.iox_model.specs.Peers.{port_at}
use Rattle.iox_model.specs.States as m
use Rattle.iox_hub_ports.specs.declared.info.PortInfo.{PortInfo}
use Rattle.iox_hub_ports.specs.Ports.{info_in, info_of}
use Rattle.iox_tables.specs.HubStates.States.{Given, port_of}
use Rattle.iox_tables.specs.HubStates.Tables.{HubTables, PortState, port_in}
use Rattle.iox_tables.specs.HubStates.Wirings.{handle_in}
use Rattle.iox_tables.proofs.HubBooks.Used.{handle_is, used_by_handle}
use Rattle.iox_tables.proofs.HubStates.Fixing.{find_port}
use Rattle.iox_handles.specs.declared.entry.Entry.{Entry}
use Rattle.iox_control.specs.Entries.{handle_state}
use Rattle.iox_hub.specs.Fits.{SuitsHandle, are_requests_in, count_in, comes_with_request}
use Rattle.iox_hub.specs.Hubs.{HubState, IsHub, given_by, many_in, state_of_hub}
use Rattle.iox_hub.specs.Reads.{HasOf}
use Rattle.iox_hub.proofs.Named.{handle_is_value}
use Rattle.iox_hub.proofs.Reading.{low_if_used}

-- ---- kinds

of_request_loan : (k : Kind) → is_request_loan k ≡ true → comes_with_request k ≡ true
of_request_loan kinds.RequestMut e = refl
of_request_loan kinds.RequestMutUninit e = refl
of_request_loan kinds.Client e = absurd (true≢false (sym e))
of_request_loan kinds.Server e = absurd (true≢false (sym e))
of_request_loan kinds.PendingResponse e = absurd (true≢false (sym e))
of_request_loan kinds.ActiveRequest e = absurd (true≢false (sym e))
of_request_loan kinds.ResponseMutUninit e = absurd (true≢false (sym e))
of_request_loan kinds.ResponseMut e = absurd (true≢false (sym e))
of_request_loan kinds.Response e = absurd (true≢false (sym e))

of_response_loan : (k : Kind) → is_response_loan k ≡ true → comes_with_request k ≡ false
of_response_loan kinds.ResponseMut e = refl
of_response_loan kinds.ResponseMutUninit e = refl
of_response_loan kinds.Client e = absurd (true≢false (sym e))
of_response_loan kinds.Server e = absurd (true≢false (sym e))
of_response_loan kinds.PendingResponse e = absurd (true≢false (sym e))
of_response_loan kinds.ActiveRequest e = absurd (true≢false (sym e))
of_response_loan kinds.RequestMutUninit e = absurd (true≢false (sym e))
of_response_loan kinds.RequestMut e = absurd (true≢false (sym e))
of_response_loan kinds.Response e = absurd (true≢false (sym e))

-- ---- the handle

module _ {h : HubState} (hub : IsHub h) (now : HubState) (is : h ≡ now) (node n : ℕ) (e : Entry)
    (found : handle_in now.control.tables.handles node n ≡ Some (handle_state e)) where
  abbrev t : HubTables
  t = h.control.tables

  at : handle_in t.handles node n ≡ Some (handle_state e)
  at = subst (λ (d : HubState). handle_in d.control.tables.handles node n ≡ Some (handle_state e)) (sym is) found

  kind_passes : (test : Kind → Bool) → HasOf test now node n → test e.kind ≡ true
  kind_passes test has =
      sym (ap (λ (o : Option Kind). option_map_or test o false) (handle_is_value t hub.control.order node n (handle_state e) at))
      ∙ subst (λ (d : HubState). HasOf test d node n) (sym is) has

  suits : are_requests_in h.words e.pool ≡ comes_with_request e.kind
  suits = (handle_is (SuitsHandle (many_in h) h.words) t.handles node n (handle_state e) hub.words.handles at).kind

  pub loan_has_words : e.slot < count_in h.words e.pool
  loan_has_words =
      let low = low_if_used t e.pool e.slot (used_by_handle t hub.control.order node n (handle_state e) at) in
      let more = hub.words.pools e.pool in omega (arith, low, more)

  pub is_with_requests : HasOf is_request_loan now node n → are_requests_in h.words e.pool ≡ true
  is_with_requests has = suits ∙ of_request_loan e.kind (kind_passes is_request_loan has)

  pub is_with_responses : HasOf is_response_loan now node n → are_requests_in h.words e.pool ≡ false
  is_with_responses has = suits ∙ of_response_loan e.kind (kind_passes is_response_loan has)

-- ---- ports

module _ {h : HubState} (hub : IsHub h) (n : ℕ) (ports : List PortState) (same : ports ≡ h.control.tables.ports) (i : PortInfo) (r : Option PortInfo) (told : r ≡ info_in ports n)
    (some : r ≡ Some i) {A : Type 0} (f : m.Port → A) (g : PortInfo → A) where
  -- what is known about a port is so of the machine's
  pub port_is_as_told : ((x : Given) (p : PortState) → f (port_of x p) ≡ g (info_of p)) → (x : Given) → option_map f (port_at (state_of_hub x h).fixed n) ≡ Some (g i)
  port_is_as_told agree x =
      ap (option_map f) (find_port (given_by x h) h.control.tables.ports n)
      ∙ step (port_in h.control.tables.ports n) (sym (ap (λ (ps : List PortState). info_in ps n) same) ∙ sym told ∙ some)
    where
      step : (o : Option PortState) → option_map info_of o ≡ Some i → option_map f (option_map (port_of (given_by x h)) o) ≡ Some (g i)
      step (Some p) e = ap (λ a. Some a) (agree (given_by x h) p ∙ ap g (same_Some (info_of p) i e))
      step None e = absurd (none-some i e)
