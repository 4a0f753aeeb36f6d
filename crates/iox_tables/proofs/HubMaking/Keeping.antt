-- A port may go as before, whatever calls do to lanes, request states and handles.
use Rattle.std.specs.Prelude.{◌≡◌, ℕ, Bool, true, false, if◌then◌else◌, nat_lt, length, List, [], ◌∷◌, Option, Some, None, is_some, refl}
use Rattle.std.specs.List.{list_any, swap_remove}
use Rattle.std.specs.Option.{option_map_or}
use Rattle.std.proofs.Common.{sym, ap, ◌∙◌, subst}
use Rattle.iox_model.specs.declared.way.Way.{Way}
use Rattle.iox_model.specs.declared.way.RequestState.{RequestState}
use Rattle.iox_model.specs.declared.way.RequestState.TheVariants.{Named}
use Rattle.iox_model.specs.Doings.{Sending}
use Rattle.iox_model.specs.Maps.{AreDistinct, has_number}
use Rattle.iox_model.specs.Requests.{targets, to_open}
use Rattle.iox_lanes.specs.Lanes.{LaneState, delivered, is_taken, rank_in, released, with_returned, without_oldest, without_taken}
use Rattle.iox_tables.specs.HubStates.Tables.{HubTables, PortState, port_in}
use Rattle.iox_tables.specs.HubStates.Ways.{with_port}
use Rattle.iox_tables.specs.HubStates.Changes.{emptied_lane, pushed_lane, with_lanes, with_states}
use Rattle.iox_tables.specs.HubStates.Sends.{free_targets, full_targets, with_delivered, with_emptied, with_opened, with_pushed, with_sent}
use Rattle.iox_tables.proofs.HubBooks.Frames.{AreAlike, bare_lane, lanes_on_bare, port_bare, states_on_bare}
use Rattle.iox_tables.proofs.HubBooks.Structures.{each_alike, kept_alike, same_numbers, widths_alike}
use Rattle.iox_tables.specs.HubMaking.Disconnections.{MayGo}
use Rattle.iox_tables.proofs.HubMaking.Firsts.{has_first}

-- the same settings, and ports that are alike
module _ (t : HubTables) (n : ℕ) (may : MayGo t n) where
  pub with_alike : (u : HubTables) → u.settings ≡ t.settings → AreAlike t.ports u.ports → MayGo u n
  with_alike u settings alike = record {
    there =
        sym (has_first (λ (p : PortState). p.number) u.ports n) ∙ ap (has_number n) (same_numbers t.ports u.ports alike)
        ∙ has_first (λ (p : PortState). p.number) t.ports n ∙ may.there;
    apart = subst AreDistinct (sym (same_numbers t.ports u.ports alike)) may.apart;
    wired = each_alike t u alike settings may.wired;
    kept = kept_alike t u alike settings may.kept;
    widths = widths_alike t u alike settings may.widths;
  }

  pub of_lanes : (g : LaneState → LaneState) → ((l : LaneState) → bare_lane (g l) ≡ bare_lane l) → (ws : List Way) → MayGo (with_lanes g t ws) n
  of_lanes g keeps ws = with_alike (with_lanes g t ws) refl (lanes_on_bare g keeps t.ports ws)

  pub of_states : (g : RequestState → RequestState) (ws : List Way) → MayGo (with_states g t ws) n
  of_states g ws = with_alike (with_states g t ws) refl (states_on_bare g t.ports ws)

  pub of_handles : (hs : List _) → MayGo (record t { handles = hs }) n
  of_handles hs = with_alike (record t { handles = hs }) refl refl

  pub of_value : (m : ℕ) → MayGo (record t { ports = with_port (λ p. record p { held = false }) t.ports m }) n
  of_value m = with_alike (record t { ports = with_port (λ p. record p { held = false }) t.ports m }) refl
      (port_bare (λ p. record p { held = false }) (λ p. refl) t.ports m)

pub of_sent : (t : HubTables) (n : ℕ) → MayGo t n → (y : Sending) (k : ℕ) → MayGo (with_sent t y k) n
of_sent t n may y k = step (list_any y.fails (full_targets t y))
  where
    emptied : MayGo (with_emptied t y) n
    emptied = of_lanes t n may emptied_lane (λ l. refl) (targets y)

    opened : MayGo (with_opened (with_emptied t y) y.loan.request (to_open y)) n
    opened = of_states (with_emptied t y) n emptied (λ r. Named y.loan.request false) (to_open y)

    step : (b : Bool) → MayGo (if b then with_emptied t y else with_delivered t y k (free_targets t y)) n
    step true = emptied
    step false = of_lanes (with_opened (with_emptied t y) y.loan.request (to_open y)) n opened (λ l. delivered l k) (λ l. refl) (free_targets t y)

pub of_pushed : (t : HubTables) (n : ℕ) → MayGo t n → (y : Sending) (k : ℕ) → MayGo (with_pushed t y k) n
of_pushed t n may y k =
    of_lanes (with_opened (with_emptied t y) y.loan.request (to_open y)) n
    (of_states (with_emptied t y) n (of_lanes t n may emptied_lane (λ l. refl) (targets y)) (λ r. Named y.loan.request false) (to_open y))
    (pushed_lane k) pushed (targets y)
  where
    pushed : (l : LaneState) → bare_lane (pushed_lane k l) ≡ bare_lane l
    pushed l = step (nat_lt l.buffer (length (delivered l k).waiting))
      where
        step : (b : Bool) → bare_lane (if b then without_oldest (delivered l k) else delivered l k) ≡ bare_lane l
        step true = refl
        step false = refl

-- a message that is given back
pub release_bare : (k : ℕ) (l : LaneState) → bare_lane (released l k) ≡ bare_lane l
release_bare k l = step (is_taken l k)
  where
    at : (o : Option ℕ) → bare_lane (with_returned (option_map_or (λ i. record l { taken = swap_remove l.taken i k }) o l) k) ≡ bare_lane l
    at (Some i) = refl
    at None = refl

    step : (b : Bool) → bare_lane (if b then with_returned (without_taken l k) k else l) ≡ bare_lane l
    step true = at (rank_in l.taken k)
    step false = refl
