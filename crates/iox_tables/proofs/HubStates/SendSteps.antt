-- A send of a hub is the machine's, up to its end.
use Rattle.std.specs.Prelude.{◌≡◌, ℕ, Bool, true, false, not, ◌||◌, if◌then◌else◌, List, [], ◌∷◌, length, filter, Option, Some, None, refl}
use Rattle.std.specs.List.{list_any}
use Rattle.std.specs.Option.{option_map}
use Rattle.std.proofs.Common.{sym, ap, ap₂, subst, ◌∙◌, true≢false}
use Rattle.iox_model.specs.declared.way.Way.{Way}
use Rattle.iox_model.specs.declared.way.RequestState.TheVariants.{Named}
use Rattle.iox_model.specs.declared.reply.Refusal.TheVariants.{UnableToDeliver}
use Rattle.iox_model.specs.Doings.{Sending, Outcome, Sends, FailsToSend}
use Rattle.iox_model.specs.Maps.{has_way, same_way, AreDistinctWays}
use Rattle.iox_model.specs.Peers.{is_connected_port, role_at}
use Rattle.iox_model.specs.Requests.{targets, to_open}
use Rattle.iox_model.specs.States as m
use Rattle.iox_laws.specs.CallFunctions.Sends.{delivered_to, emptied, full_of, opened_at, sent_or_not}
use Rattle.iox_laws.specs.CallFunctions.Overflows.{pushed_to}
use Rattle.iox_lanes.specs.Lanes.{LaneState, delivered}
use Rattle.iox_tables.specs.HubStates.Tables.{HubTables, PortState}
use Rattle.iox_tables.specs.HubStates.Ways.{OnWays, at, at_each, lane_on, state_on}
use Rattle.iox_tables.specs.HubStates.States.{Given, fixed_of, message_of, state_shown}
use Rattle.iox_tables.specs.HubStates.Wirings.{buffer_from, role_in}
use Rattle.iox_tables.specs.HubStates.Changes.{emptied_lane, OnEach}
use Rattle.iox_tables.specs.HubStates.Steps.{IsOpenTo, IsOpenToNew, IsOpenable, is_there}
use Rattle.iox_tables.specs.HubStates.Sends.{MaySendFrom, PushingSendsAreShown, SendsAreShown, free_targets, full_targets, outcome_of_send, sent_count, with_delivered, with_emptied, with_opened, with_pushed, with_sent}
use Rattle.iox_tables.proofs.HubStates.Fixing.{role_is}
use Rattle.iox_tables.proofs.HubStates.Keys.{all_lanes_stay, all_states_stay, at_is, lanes_turned}
use Rattle.iox_tables.proofs.HubStates.Phases.{still_once}
use Rattle.iox_tables.proofs.HubStates.Steps.{connected_is, deliveries_are_shown, emptying_is_shown, full_is_shown, lanes_fixed, on_each, opens_are_shown, pushes_are_shown, states_fixed}

-- ---- what is so of several ways

one_kept : {A : Type 0} (P : Way → A → Type 0) (g : A → A) → ((w : Way) (a : A) → P w a → P w (g a)) → (on : OnWays A) (v : Way) (ws : List Way)
    → OnEach P on ws → OnEach P (at g on v) ws
one_kept P g keeps on v [] has = tt
one_kept P g keeps on v (w ∷ ws) has =
    (step (same_way w v) refl, one_kept P g keeps on v ws has.1)
  where
    step : (b : Bool) → same_way w v ≡ b → (a : _) × (at g on v w ≡ Some a) × P w a
    step true e = (g has.0.0, at_is g on v w ∙ ap₂ (λ (b : Bool) (o : Option _). if b then option_map g o else o) e has.0.1, keeps w has.0.0 has.0.2)
    step false e = (has.0.0, at_is g on v w ∙ ap₂ (λ (b : Bool) (o : Option _). if b then option_map g o else o) e has.0.1, has.0.2)

pub each_kept : {A : Type 0} (P : Way → A → Type 0) (g : A → A) → ((w : Way) (a : A) → P w a → P w (g a)) → (on : OnWays A) (vs ws : List Way)
    → OnEach P on ws → OnEach P (at_each g on vs) ws
each_kept P g keeps on [] ws has = has
each_kept P g keeps on (v ∷ vs) ws has = each_kept P g keeps (at g on v) vs ws (one_kept P g keeps on v ws has)

filter_each : {A : Type 0} (P : Way → A → Type 0) (on : OnWays A) (test : Way → Bool) (ws : List Way) → OnEach P on ws → OnEach P on (filter test ws)
filter_each P on test [] has = tt
filter_each P on test (w ∷ ws) has = step (test w) (filter_each P on test ws has.1)
  where
    step : (b : Bool) → OnEach P on (filter test ws) → OnEach P on (if b then w ∷ filter test ws else filter test ws)
    step true more = (has.0, more)
    step false more = more

filter_off : (v : Way) (test : Way → Bool) (ws : List Way) → has_way v ws ≡ false → has_way v (filter test ws) ≡ false
filter_off v test [] e = refl
filter_off v test (w ∷ ws) e = step (test w) (same_way v w) refl (filter_off v test ws) e
  where
    step : (b c : Bool) → same_way v w ≡ c → (has_way v ws ≡ false → has_way v (filter test ws) ≡ false) → (c || has_way v ws) ≡ false
        → has_way v (if b then w ∷ filter test ws else filter test ws) ≡ false
    step b true is more h = absurd (true≢false h)
    step true false is more h = ap (λ d. d || has_way v (filter test ws)) is ∙ more h
    step false false is more h = more h

filter_apart : (test : Way → Bool) (ws : List Way) → AreDistinctWays ws → AreDistinctWays (filter test ws)
filter_apart test [] apart = tt
filter_apart test (w ∷ ws) apart = step (test w) (filter_apart test ws apart.1)
  where
    step : (b : Bool) → AreDistinctWays (filter test ws) → AreDistinctWays (if b then w ∷ filter test ws else filter test ws)
    step true more = (filter_off w test ws apart.0, more)
    step false more = more

-- ---- one send

module _ (x : Given) (t : HubTables) (y : Sending) (pool k : ℕ) (may : MaySendFrom x t y pool k) where
  abbrev t1 : HubTables
  t1 = with_emptied t y

  abbrev t2 : HubTables
  t2 = with_opened t1 y.loan.request (to_open y)

  first_fixed : fixed_of x t1 ≡ fixed_of x t
  first_fixed = lanes_fixed emptied_lane (λ l. refl) x t (targets y)

  second_fixed : fixed_of x t2 ≡ fixed_of x t
  second_fixed = states_fixed (λ r. Named y.loan.request false) x t1 (to_open y) ∙ first_fixed

  -- who is there, and in which role, stays
  there_stays : (ports : List PortState) → fixed_of x (record t { ports = ports }) ≡ fixed_of x t → (n : ℕ) → is_there ports n ≡ is_there t.ports n
  there_stays ports same n = sym (connected_is x ports n) ∙ ap (λ (f : m.Fixed). is_connected_port f n) same ∙ connected_is x t.ports n

  role_stays : (ports : List PortState) → fixed_of x (record t { ports = ports }) ≡ fixed_of x t → (n : ℕ) → role_in ports n ≡ role_in t.ports n
  role_stays ports same n = sym (role_is x (record t { ports = ports }) n) ∙ ap (λ (f : m.Fixed). role_at f n) same ∙ role_is x t n

  open_stays : (ports : List PortState) → fixed_of x (record t { ports = ports }) ≡ fixed_of x t → (w : Way) (l : LaneState)
      → IsOpenToNew x t pool k w l → IsOpenToNew x (record t { ports = ports }) pool k w l
  open_stays ports same w l has = record {
    open_to = record {
      of_pool = has.open_to.of_pool;
      sender = there_stays ports same w.sender ∙ has.open_to.sender;
      buffer = has.open_to.buffer ∙ ap (buffer_from t.settings) (sym (role_stays ports same w.sender));
    };
    once = has.once;
  }

  -- and once all is got back
  open_emptied : (w : Way) (l : LaneState) → IsOpenToNew x t pool k w l → IsOpenToNew x t pool k w (emptied_lane l)
  open_emptied w l has = record {
    open_to = record { of_pool = has.open_to.of_pool; sender = has.open_to.sender; buffer = has.open_to.buffer };
    once = still_once x.members (fixed_of x t) (message_of x t.pools) (delivered l k) has.once;
  }

  lanes_after : (ports : List PortState) → lane_on ports ≡ at_each emptied_lane (lane_on t.ports) (targets y) → fixed_of x (record t { ports = ports }) ≡ fixed_of x t
      → OnEach (IsOpenToNew x (record t { ports = ports }) pool k) (lane_on ports) (targets y)
  lanes_after ports lanes same =
      on_each (IsOpenToNew x t pool k) (IsOpenToNew x (record t { ports = ports }) pool k) (lane_on ports) (open_stays ports same) (targets y)
      (subst (λ on. OnEach (IsOpenToNew x t pool k) on (targets y)) (sym lanes)
      (each_kept (IsOpenToNew x t pool k) emptied_lane open_emptied (lane_on t.ports) (targets y) (targets y) may.lanes))

  first_lanes : OnEach (IsOpenToNew x t1 pool k) (lane_on t1.ports) (targets y)
  first_lanes = lanes_after t1.ports (lanes_turned emptied_lane t.ports (targets y)) first_fixed

  second_lanes : OnEach (IsOpenToNew x t2 pool k) (lane_on t2.ports) (targets y)
  second_lanes =
      lanes_after t2.ports (all_lanes_stay (λ r. Named y.loan.request false) t1.ports (to_open y) ∙ lanes_turned emptied_lane t.ports (targets y)) second_fixed

  plain : (u : HubTables) (ws : List Way) → OnEach (IsOpenToNew x u pool k) (lane_on u.ports) ws → OnEach (IsOpenTo u pool) (lane_on u.ports) ws
  plain u ws has = on_each (IsOpenToNew x u pool k) (IsOpenTo u pool) (lane_on u.ports) (λ w l may. may.open_to) ws has

  emptied_is : emptied (state_shown x t) (targets y) ≡ state_shown x t1
  emptied_is = sym (emptying_is_shown x t (targets y) may.once)

  opened_is : opened_at (state_shown x t1) y.loan.request (to_open y) ≡ state_shown x t2
  opened_is = sym (opens_are_shown x t1 y.loan.request (to_open y) may.states_apart
      (subst (λ on. OnEach (IsOpenable t1) on (to_open y)) (sym (all_states_stay emptied_lane t.ports (targets y)))
      (on_each (IsOpenable t) (IsOpenable t1) (state_on t.ports) (λ w r there. there_stays t1.ports first_fixed w.receiver ∙ there) (to_open y) may.states)))

  full_is : full_of (state_shown x t1) (targets y) [] ≡ full_targets t y
  full_is = full_is_shown x t1 pool (targets y) [] (plain t1 (targets y) first_lanes)

  delivered_is : delivered_to (state_shown x t2) y.loan.message (free_targets t y) ≡ state_shown x (with_delivered t y k (free_targets t y))
  delivered_is =
      ap (λ n. delivered_to (state_shown x t2) n (free_targets t y)) (sym may.message)
      ∙ sym (deliveries_are_shown x t2 pool k (free_targets t y) (filter_apart (λ w. not (has_way w (full_targets t y))) (targets y) may.apart)
      (filter_each (IsOpenTo t2 pool) (lane_on t2.ports) (λ w. not (has_way w (full_targets t y))) (targets y) (plain t2 (targets y) second_lanes)))

  abbrev told : Outcome → m.State → Outcome × m.State
  told o s = (o, s)

  pub sent_is : sent_or_not (emptied (state_shown x t) (targets y)) y (full_of (emptied (state_shown x t) (targets y)) (targets y) [])
      ≡ (outcome_of_send y (sent_count t y), state_shown x (with_sent t y k))
  sent_is =
      ap (λ s. sent_or_not s y (full_of s (targets y) [])) emptied_is
      ∙ ap (sent_or_not (state_shown x t1) y) full_is
      ∙ step (list_any y.fails (full_targets t y))
    where
      step : (b : Bool)
          → (if b then told (FailsToSend y.loan y.copied UnableToDeliver) (state_shown x t1)
          else told (Sends y.loan y.copied (length (free_targets t y))) (delivered_to (opened_at (state_shown x t1) y.loan.request (to_open y)) y.loan.message (free_targets t y)))
          ≡ told (outcome_of_send y (if b then None else Some (length (free_targets t y)))) (state_shown x (if b then t1 else with_delivered t y k (free_targets t y)))
      step true = refl
      step false = ap (told (Sends y.loan y.copied (length (free_targets t y))))
          (ap (λ s. delivered_to s y.loan.message (free_targets t y)) opened_is ∙ delivered_is)

  pub pushed_is : pushed_to (opened_at (emptied (state_shown x t) (targets y)) y.loan.request (to_open y)) y.loan.message (targets y)
      ≡ state_shown x (with_pushed t y k)
  pushed_is =
      ap (λ s. pushed_to (opened_at s y.loan.request (to_open y)) y.loan.message (targets y)) emptied_is
      ∙ ap (λ s. pushed_to s y.loan.message (targets y)) opened_is
      ∙ ap (λ n. pushed_to (state_shown x t2) n (targets y)) (sym may.message)
      ∙ sym (pushes_are_shown x t2 pool k (targets y) may.apart second_lanes)

pub sends_are_shown : SendsAreShown
sends_are_shown x t y pool k may = sent_is x t y pool k may

pub pushing_sends_are_shown : PushingSendsAreShown
pushing_sends_are_shown x t y pool k may = ap (λ s. (Sends y.loan y.copied (length (targets y)), s)) (pushed_is x t y pool k may)
