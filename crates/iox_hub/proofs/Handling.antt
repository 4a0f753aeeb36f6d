-- What handlers mean for the sends of a hub's ports.
use Rattle.std.specs.Prelude.{◌≡◌, ℕ, Bool, List, Option, Some, None, refl}
use Rattle.std.specs.Option.{option_map}
use Rattle.std.proofs.Common.{sym, ap, ap₂, subst, ◌∙◌}
use Rattle.std.proofs.lemmas.Option.{none-some, same_Some}
use Rattle.iox_types.specs.declared.backpressure.BackpressureStrategy.{BackpressureStrategy}
use Rattle.iox_model.specs.declared.way.Way.{Way}
use Rattle.iox_model.specs.Requests.{fails_at}
use Rattle.iox_tables.specs.HubStates.States.{Given, fixed_of}
use Rattle.iox_tables.specs.HubStates.Tables.{HandleState, HubTables, PortState, port_in}
use Rattle.iox_tables.specs.HubStates.Wirings.{handle_in}
use Rattle.iox_tables.specs.HubBooks.Handles.{IsOfPort}
use Rattle.iox_tables.proofs.HubBooks.Used.{handle_is}
use Rattle.iox_tables.proofs.HubStates.Fixing.{first_key}
use Rattle.iox_tables.proofs.HubBooks.Frames.{some_map}
use Rattle.iox_hub_ports.specs.declared.info.PortInfo.{PortInfo}
use Rattle.iox_hub_ports.specs.Ports.{info_in, info_of}
use Rattle.iox_control_request_copies.specs.Responses.{IsFailure}
use Rattle.iox_backpressure.specs.Failing.{fails_with}
use Rattle.iox_backpressure.specs.Handlers.{handler_in}
use Rattle.iox_backpressure.proofs.Failures.{as_the_machine}
use Rattle.iox_hub.specs.Hubs.{HubState, IsHub, fails_of, given_by}
use Rattle.iox_tables.specs.HubStates.Releases.{way_to_client}

module _ (h : HubState) where
  abbrev t : HubTables
  t = h.control.tables

  -- the machine's answer is the hub's
  pub fails_as_it_says : (x : Given) (p : PortState) (w : Way) → port_in t.ports w.sender ≡ Some p → fails_at (fixed_of (given_by x h) t) w ≡ fails_of h p w
  fails_as_it_says x p w at = as_the_machine (given_by x h) t w p refl at

  -- what is said of a port of that number is said of this one
  number_is : (n : ℕ) (p : PortState) → port_in t.ports n ≡ Some p → p.number ≡ n
  number_is n p at = first_key (λ (q : PortState). q.number) t.ports n p at

  module _ (ports : List PortState) (same : ports ≡ t.ports) (n : ℕ) (r : Option PortInfo) (found : r ≡ info_in ports n) (info : PortInfo) (some : r ≡ Some info)
      (handler : Option (List ℕ)) (said : handler ≡ handler_in h.handlers n) where
    there : info_in t.ports n ≡ Some info
    there = sym (found ∙ ap (λ ps. info_in ps n) same) ∙ some

    -- what a send of the port was given to say is what the hub says
    pub as_told : (p : PortState) (m : ℕ) → m ≡ n → port_in t.ports m ≡ Some p → (λ (w : Way). fails_with handler info.strategy w.sender w.receiver) ≡ fails_of h p
    as_told p m is at =
        ap₂ {C = Way → Bool} (λ (a : Option (List ℕ)) (s : BackpressureStrategy) (w : Way). fails_with a s w.sender w.receiver)
        (said ∙ ap (handler_in h.handlers) (sym (number_is m p at ∙ is)))
        (ap (λ (i : PortInfo). i.strategy) (same_Some info (info_of p) (sym there ∙ ap (info_in t.ports) (sym is) ∙ ap (option_map info_of) at)))

    pub fails_as_told : (x : Given) (w : Way) → w.sender ≡ n → fails_at (fixed_of (given_by x h) t) w ≡ fails_with handler info.strategy w.sender w.receiver
    fails_as_told x w from =
        let p = some_map info_of (port_in t.ports n) info there in
        fails_as_it_says x p.0 w (ap (port_in t.ports) from ∙ p.1) ∙ ap (λ (f : Way → Bool). f w) (sym (as_told p.0 n refl p.1))

-- ---- responses

module _ {h : HubState} (hub : IsHub h) (j : HandleState) (fails : Bool)
    (told : (p : PortState) → port_in h.control.tables.ports j.port ≡ Some p → fails ≡ fails_with (handler_in h.handlers j.port) p.strategy j.port j.client) where
  -- at the port of that handle a response fails as the hub says
  pub response_said : (i : HandleState) → j ≡ i → (p : PortState) → port_in h.control.tables.ports i.port ≡ Some p
      → fails ≡ fails_of h p (way_to_client h.control.tables i)
  response_said i same p there =
      subst (λ (m : HandleState). port_in h.control.tables.ports m.port ≡ Some p → fails ≡ fails_of h p (way_to_client h.control.tables m)) same
      (λ here. told p here ∙ ap (λ k. fails_with (handler_in h.handlers k) p.strategy j.port j.client) (sym (number_is h j.port p here))) there

  -- so it does in the machine
  pub response_fails : (x : Given) (node n : ℕ) → handle_in h.control.tables.handles node n ≡ Some j
      → IsFailure (given_by x h) h.control.tables j fails
  response_fails x node n at =
      let of : IsOfPort h.control.tables j = handle_is (IsOfPort h.control.tables) h.control.tables.handles node n j hub.control.order.ports at in
      fails_as_it_says h x of.port (way_to_client h.control.tables j) of.there ∙ sym (response_said j refl of.port of.there)

-- ---- in code: a port's information as it was found

module _ (ts ports : List PortState) (same : ports ≡ ts) (n : ℕ) (r : Option PortInfo) (found : r ≡ info_in ports n) where
  found_of : (p : PortState) → port_in ts n ≡ Some p → r ≡ Some (info_of p)
  found_of p at = found ∙ ap (λ ps. info_in ps n) same ∙ ap (option_map info_of) at

  pub none_is_found : r ≡ None → (p : PortState) → port_in ts n ≡ Some p → ⊥
  none_is_found none p at = none-some (info_of p) (sym none ∙ found_of p at)

  -- what the handler and the strategy that were found say
  pub found_says : (info : PortInfo) → r ≡ Some info → (asked own : Option (List ℕ)) → asked ≡ own → (receiver : ℕ) (fails : Bool)
      → fails ≡ fails_with asked info.strategy n receiver → (p : PortState) → port_in ts n ≡ Some p → fails ≡ fails_with own p.strategy n receiver
  found_says info some asked own said receiver fails told p at =
      told
      ∙ ap₂ (λ (a : Option (List ℕ)) (s : BackpressureStrategy). fails_with a s n receiver) said
      (ap (λ (i : PortInfo). i.strategy) (same_Some info (info_of p) (sym some ∙ found_of p at)))
