-- Words go on fitting the tables of a hub as loans are sent.
use Rattle.std.specs.Prelude.{◌≡◌, ℕ, Bool, true, false, ◌&&◌, if◌then◌else◌, ◌==◌, List, [], ◌∷◌, length, Option, Some, refl}
use Rattle.std.proofs.Common.{sym, ap, subst, ◌∙◌, true≢false}
use Rattle.iox_model.specs.declared.kind.Kind.TheVariants as kinds
use Rattle.iox_model.specs.declared.way.RequestState.TheVariants.{Named}
use Rattle.iox_tables.specs.HubBooks.Hubs.{AreInOrder}
use Rattle.iox_tables.specs.HubStates.Tables.{HandleState, HubTables}
use Rattle.iox_tables.specs.HubStates.Changes.{emptied_lane, with_lanes}
use Rattle.iox_tables.specs.HubStates.Ends.{OfEachHandle, changed_handles, with_dropped}
use Rattle.iox_tables.specs.HubStates.Releases.{pending_states, request_of, way_to_client}
use Rattle.iox_tables.specs.HubStates.Sendings.{pending_of}
use Rattle.iox_tables.specs.HubStates.Sends.{with_opened}
use Rattle.iox_tables.specs.HubStates.Wirings.{handle_in}
use Rattle.iox_tables.specs.HubLoans.Questions.{is_named_by_client}
use Rattle.iox_tables.specs.HubMaking.Disconnections.{with_released}
use Rattle.iox_tables.specs.HubBooks.Keeps.{delivers}
use Rattle.iox_tables.proofs.HubBooks.Frames.{AreAlike, lanes_on_bare, states_on_bare}
use Rattle.iox_tables.proofs.HubBooks.Release.{each_left}
use Rattle.iox_tables.proofs.HubBooks.Used.{handle_is}
use Rattle.iox_hub_delivering.proofs.Counted.{gives_bare}
use Rattle.iox_control_releasing.specs.Goings.{KeptPools}
use Rattle.iox_control_request_copies.specs.Requested.{Requested}
use Rattle.iox_control_request_copies.specs.Requested.TheVariants.{To, ExceedsMaxActiveRequests, UnableToDeliver}
use Rattle.iox_control_request_copies.specs.Requests.{ways_of, with_request_sent, with_requests_back}
use Rattle.iox_control_request_copies.specs.Sendings.{with_lost_released, with_request_ended}
use Rattle.iox_control_request_copies.specs.Servers.{request_ways}
use Rattle.iox_control_request_copies.specs.Responses.{is_shut, with_response_ended, with_response_offered, with_response_sent, with_way_emptied}
use Rattle.iox_hub.specs.Fits.{SuitsHandle, WordsFit, comes_with_request}
use Rattle.iox_hub.specs.Words.{Carried}
use Rattle.iox_hub.proofs.GoneFits.{gone_fit_alike}
use Rattle.iox_hub.proofs.ReleasingFits.{fits_gone, fits_left, left_alike}

-- ---- responses

emptied_alike : (t : HubTables) (h : HandleState) → AreAlike t.ports (with_way_emptied t h).ports
emptied_alike t h = lanes_on_bare emptied_lane (λ l. refl) t.ports (way_to_client t h ∷ [])

offered_alike : (t : HubTables) (h : HandleState) → AreAlike t.ports (with_response_offered t h).ports
offered_alike t h = step (is_shut t h)
  where
    step : (b : Bool)
        → AreAlike t.ports
        (if b then with_way_emptied t h
        else with_lanes (delivers t.settings.response_overflow h.slot) (with_way_emptied t h) (way_to_client t h ∷ [])).ports
    step true = emptied_alike t h
    step false =
        lanes_on_bare (delivers t.settings.response_overflow h.slot) (gives_bare t.settings.response_overflow h.slot) (with_way_emptied t h).ports (way_to_client t h ∷ [])
        ∙ emptied_alike t h

offered_handles : (t : HubTables) (h : HandleState) → (with_response_offered t h).handles ≡ t.handles
offered_handles t h = step (is_shut t h)
  where
    step : (b : Bool)
        → (if b then with_way_emptied t h
        else with_lanes (delivers t.settings.response_overflow h.slot) (with_way_emptied t h) (way_to_client t h ∷ [])).handles
        ≡ t.handles
    step true = refl
    step false = refl

pub response_alike : (t : HubTables) (h : HandleState) → AreAlike t.ports (with_response_sent t h).ports
response_alike t h = step (is_named_by_client t h false)
  where
    step : (b : Bool) → AreAlike t.ports (if b then with_response_offered t h else t).ports
    step true = offered_alike t h
    step false = refl

pub response_handles : (t : HubTables) (h : HandleState) → (with_response_sent t h).handles ≡ t.handles
response_handles t h = step (is_named_by_client t h false)
  where
    step : (b : Bool) → (if b then with_response_offered t h else t).handles ≡ t.handles
    step true = offered_handles t h
    step false = refl

-- ---- requests

pub back_alike : (t : HubTables) (h : HandleState) → AreAlike t.ports (with_requests_back t h).ports
back_alike t h = lanes_on_bare emptied_lane (λ l. refl) t.ports (request_ways h.port t.ports)

pub request_alike : (t : HubTables) (h : HandleState) (overflow : Bool) → AreAlike t.ports (with_request_sent t h overflow).ports
request_alike t h overflow =
    lanes_on_bare (delivers overflow h.slot) (gives_bare overflow h.slot) (with_opened t (request_of t h) (pending_states t h)).ports (ways_of t h overflow)
    ∙ states_on_bare (λ r. Named (request_of t h) false) t.ports (pending_states t h)

each_changed : (P : HandleState → Type 0) (new : HandleState) (hs : List HandleState) → OfEachHandle P hs → P new → OfEachHandle P (changed_handles new hs)
each_changed P new [] a b = tt
each_changed P new (k ∷ ks) a b = step ((k.node == new.node) && (k.number == new.number)) (each_changed P new ks a.1 b)
  where
    step : (c : Bool) → OfEachHandle P (changed_handles new ks) → OfEachHandle P (if c then new ∷ ks else k ∷ changed_handles new ks)
    step true rest = (b, a.1)
    step false rest = (a.0, rest)

-- a loaned request's words suit it as a pending response
pending_suits : (many : Bool × Bool) (words : List (Option Carried)) (h : HandleState) (count : ℕ) → h.kind ≡ kinds.RequestMut → SuitsHandle many words h
    → SuitsHandle many words (pending_of h count)
pending_suits many words h count kind is = record {
  kind = is.kind ∙ ap comes_with_request kind;
  one = λ e. absurd (true≢false (sym e));
  full = λ e. absurd (true≢false (sym e));
}

-- ---- the calls

module _ {many : Bool × Bool} (words : List (Option Carried)) (t t' : HubTables) (fit : WordsFit many words t) (order : AreInOrder t) (kept : KeptPools t.pools t'.pools) (node n : ℕ) (h : HandleState) where
  pub fits_response_sent : (fails : Bool) → t' ≡ record (with_released (with_response_ended t node n h fails) h.port) { pools = t'.pools } → WordsFit many words t'
  fits_response_sent fails is =
      fits_gone words t t' fit order kept (with_response_ended t node n h fails) h.port (response_alike t h)
      (each_left (SuitsHandle many words) node n (with_response_sent t h).handles
      (subst (λ hs. OfEachHandle (SuitsHandle many words) hs) (sym (response_handles t h)) fit.handles))
      is

  module _ (there : handle_in t.handles node n ≡ Some h) (kind : h.kind ≡ kinds.RequestMut) where
    pub fits_request_sent : (r : Requested) → t' ≡ record (with_lost_released r (with_request_ended t node n h r) h.port) { pools = t'.pools } → WordsFit many words t'
    fits_request_sent (To count) is =
        let u : HubTables = with_request_ended t node n h (To count) in
        let back : HubTables = with_requests_back t h in
        fits_left words t fit t'
        (left_alike t.ports t'.ports
        (subst (λ (z : HubTables). AreAlike t.ports z.ports) (sym is) (request_alike back h t.settings.request_overflow ∙ back_alike t h)))
        kept
        (gone_fit_alike words t t' fit.gone kept
        (subst (λ (z : HubTables). AreAlike t.ports z.ports) (sym is) (request_alike back h t.settings.request_overflow ∙ back_alike t h)))
        (subst (λ (z : HubTables). OfEachHandle (SuitsHandle many words) z.handles) (sym is)
        (each_changed (SuitsHandle many words) (pending_of h (length (ways_of back h t.settings.request_overflow))) t.handles fit.handles
        (pending_suits many words h (length (ways_of back h t.settings.request_overflow)) kind
        (handle_is (SuitsHandle many words) t.handles node n h fit.handles there))))
    fits_request_sent ExceedsMaxActiveRequests is =
        fits_gone words t t' fit order kept (with_dropped t node n) h.port refl (each_left (SuitsHandle many words) node n t.handles fit.handles) is
    fits_request_sent UnableToDeliver is =
        fits_gone words t t' fit order kept (with_dropped (with_requests_back t h) node n) h.port (back_alike t h)
        (each_left (SuitsHandle many words) node n t.handles fit.handles) is
