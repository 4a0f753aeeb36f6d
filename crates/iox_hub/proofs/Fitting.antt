-- Words go on fitting the tables of a hub.
use Rattle.std.specs.Prelude.{◌≡◌, ℕ, zero, suc, ◌<◌, ◌≤◌, Bool, true, false, ◌||◌, if◌then◌else◌, ◌==◌, List, [], ◌∷◌, ◌++◌, length, map, Option, Some, None, slice_get, refl, ⊤}
use Rattle.std.specs.Option.{option_map, option_map_or}
use Rattle.std.proofs.Common.{sym, ap, subst, ◌∙◌, arith, eq-eqb, true≢false}
use Rattle.std.proofs.lemmas.Option.{none-some}
use Rattle.iox_lanes.specs.declared.incoming.Visits.{Visits}
use Rattle.iox_lanes.specs.declared.incoming.Visits.TheVariants.{Got, AtLimit, Nothing}
use Rattle.iox_lanes.specs.declared.wanted.Wanted.{Wanted}
use Rattle.iox_lanes.specs.Visited.{all_visits}
use Rattle.iox_lanes.specs.declared.wanted.Label.{Label}
use Rattle.iox_lanes.specs.declared.wanted.Wanted.TheVariants.{Of}
use Rattle.iox_lanes.specs.Pipes.{PipeState}
use Rattle.iox_model.specs.declared.kind.Kind.TheVariants as kinds
use Rattle.iox_model.specs.declared.way.RequestState.{RequestState}
use Rattle.iox_model.specs.declared.kind.Role.{Role}
use Rattle.iox_model.specs.declared.kind.Role.TheVariants.{Client, Server}
use Rattle.iox_model.specs.declared.way.Way.{Way}
use Rattle.iox_model.specs.Maps.{has_number}
use Rattle.iox_model.specs.Messages.{hinted_for}
use Rattle.iox_model.specs.Settings.{is_client, other_role}
use Rattle.iox_laws.proofs.WeaveLedger.Lists.{number-among}
use Rattle.iox_tables.specs.HubStates.Tables.{HandleState, HubTables, PoolState, PortState, SlotState, labels_of, no_slot, owner_of, pipes_of, pool_at, port_in, senders_of, slot_at, slots_of}
use Rattle.iox_tables.specs.HubStates.Ends.{OfEachHandle}
use Rattle.iox_tables.specs.HubStates.Changes.{with_states}
use Rattle.iox_tables.specs.HubStates.Receives.{got_handle, visited_port, visits_at, wanted_by_server, with_got, with_request, with_response, with_visited}
use Rattle.iox_tables.specs.HubStates.Ways.{lane_on, lanes_from, with_port}
use Rattle.iox_tables.specs.HubStates.Releases.{pending_states, request_of}
use Rattle.iox_tables.specs.HubStates.Steps.{places_on}
use Rattle.iox_tables.specs.HubStates.Wirings.{IsPending, IsServer, handle_in}
use Rattle.iox_tables.proofs.HubStates.Emptied.{has-append}
use Rattle.iox_tables.specs.HubBooks.Counts.{how_often, lane_count}
use Rattle.iox_tables.specs.HubBooks.Handles.{is_loan}
use Rattle.iox_tables.specs.HubBooks.Hubs.{AreInOrder}
use Rattle.iox_tables.specs.HubBooks.Keeps.{bare_pool, bare_pools, bare_slot}
use Rattle.iox_tables.proofs.HubBooks.Frames.{AreAlike, bare_ports, map_append, port_before, states_on_bare, visits_bare}
use Rattle.iox_tables.proofs.HubBooks.Going.{each_last}
use Rattle.iox_tables.proofs.HubBooks.Places.{often_has}
use Rattle.iox_tables.proofs.HubBooks.Sendable.{of_role}
use Rattle.iox_tables.proofs.HubBooks.Structures.{pool_before, same_slot}
use Rattle.iox_tables.proofs.HubBooks.Used.{lane_below}
use Rattle.iox_tables.proofs.HubBooks.Visited.{GotFrom, got_is}
use Rattle.iox_control.specs.Controls.{ControlState, IsButHolders, with_hint, with_tables}
use Rattle.iox_hub.specs.Fits.{IsOneOfOne, SuitsHandle, WordsFit, are_requests_in, count_in, is_full_loan, comes_with_request, longest_in, many_by}
use Rattle.iox_hub.specs.Words.{Carried}
use Rattle.iox_hub.proofs.GoneFits.{gone_fit_alike}

-- ---- pools that differ in holders have the same slots

mapped : {A B : Type 0} (f : A → B) (xs : List A) (i : ℕ) → slice_get (map f xs) i ≡ option_map f (slice_get xs i)
mapped f [] i = refl
mapped f (x ∷ xs) zero = refl
mapped f (x ∷ xs) (suc i) = mapped f xs i

mapped_length : {A B : Type 0} (f : A → B) (xs : List A) → length (map f xs) ≡ length xs
mapped_length f [] = refl
mapped_length f (x ∷ xs) = ap suc (mapped_length f xs)

-- how many slots a pool has that may be there
abbrev count_of : Option (Option PoolState) → ℕ
count_of o = length (option_map_or (λ (p : PoolState). p.slots) (option_map_or (λ q. q) o None) [])

count_bare : (o : Option (Option PoolState)) → count_of (option_map (option_map bare_pool) o) ≡ count_of o
count_bare (Some (Some p)) = mapped_length bare_slot p.slots
count_bare (Some None) = refl
count_bare None = refl

same_count : (old new : List (Option PoolState)) → bare_pools old ≡ bare_pools new → (place : ℕ) → length (slots_of new place) ≡ length (slots_of old place)
same_count old new same place =
    sym (count_bare (slice_get new place)) ∙ ap count_of (sym (mapped (option_map bare_pool) new place))
    ∙ ap (λ ps. count_of (slice_get ps place)) (sym same)
    ∙ ap count_of (mapped (option_map bare_pool) old place) ∙ count_bare (slice_get old place)

-- ---- they go on fitting

-- a port of the same role and greatest length that is told the same is no other
pub one_as : (many : Bool × Bool) (q p : PortState) → q.role ≡ p.role → q.longest ≡ p.longest → IsOneOfOne many q → IsOneOfOne many p
one_as many q p role longest is e = sym longest ∙ is (ap (many_by many) role ∙ e)

module _ {many : Bool × Bool} (words : List (Option Carried)) (t : HubTables) (fit : WordsFit many words t) where
  pub fits_on : (t' : HubTables) → AreAlike t.ports t'.ports → bare_pools t.pools ≡ bare_pools t'.pools → OfEachHandle (SuitsHandle many words) t'.handles → WordsFit many words t'
  fits_on t' alike same handles = record {
    pools = λ place. let old = fit.pools place in let count = same_count t.pools t'.pools same place in omega (arith, old, count);
    elements = λ place k low.
        fit.elements place k (let count = same_count t.pools t'.pools same place in omega (arith, low, count))
        ∙ ap (λ (s : SlotState). s.elements) (same_slot t.pools t'.pools same place k);
    ports = λ n p at.
        let q = port_before t.ports t'.ports alike n p at in
        subst (λ (z : PortState). are_requests_in words z.pool ≡ is_client z.role) q.2 (fit.ports n q.0 q.1);
    gone = gone_fit_alike words t t' fit.gone (pool_before t.pools t'.pools same) alike;
    longest = λ n p at.
        let q = port_before t.ports t'.ports alike n p at in
        subst (λ (z : PortState). z.longest ≤ longest_in words z.pool) q.2 (fit.longest n q.0 q.1);
    one = λ n p at.
        let q = port_before t.ports t'.ports alike n p at in
        subst (λ (z : PortState). IsOneOfOne many z) q.2 (fit.one n q.0 q.1);
    handles = handles;
  }

  -- ---- a receive

  -- a handle that was got, if one was
  abbrev IsSuited : ℕ → Role → ℕ → Visits → Type 0
  IsSuited node role n (Got sender pool k) = SuitsHandle many words (got_handle t node role n pool k)
  IsSuited node role n AtLimit = ⊤
  IsSuited node role n Nothing = ⊤

  suits : (r : Role) → is_client (other_role r) ≡ comes_with_request (if is_client r then kinds.Response else kinds.ActiveRequest)
  suits Client = refl
  suits Server = refl

  no_loan : (r : Role) → is_loan (if is_client r then kinds.Response else kinds.ActiveRequest) ≡ false
  no_loan Client = refl
  no_loan Server = refl

  no_full_loan : (r : Role) → is_full_loan (if is_client r then kinds.Response else kinds.ActiveRequest) ≡ false
  no_full_loan Client = refl
  no_full_loan Server = refl

  module _ (order : AreInOrder t) (node n lane : ℕ) (p : PortState) (there : port_in t.ports n ≡ Some p) (role : Role) (role_is : p.role ≡ role) (wanted : Wanted) where
    -- a message that was got is of the other role, whether its sender is connected or gone
    words_suit : (s pool k : ℕ) → GotFrom wanted (labels_of t.pools) lane (pipes_of p) (Got s pool k) → are_requests_in words pool ≡ is_client (other_role p.role)
    words_suit s pool k c =
        either (has_number s (senders_of p.expired.pipes)) refl
        (sym (ap (has_number s) (map_append (λ (q : PipeState). q.sender) p.expired.pipes p.incoming.pipes) ∙ has-append s (senders_of p.expired.pipes) (senders_of p.incoming.pipes)) ∙ c.4)
      where
        w : Way
        w = record { sender = s; receiver = n; lane = lane }

        on_way : lane_on t.ports w ≡ Some c.0
        on_way = ap (λ o. slice_get (lanes_from (option_map_or pipes_of o []) s) lane) there ∙ c.1

        waits : has_number k (places_on c.0) ≡ true
        waits =
            has-append k c.0.returned (c.0.waiting ++ c.0.taken)
            ∙ second (has_number k c.0.returned) (has_number k (c.0.waiting ++ c.0.taken))
            (has-append k c.0.waiting c.0.taken ∙ ap (λ (b : Bool). b || has_number k c.0.taken) c.3)
          where
            second : (a b : Bool) → b ≡ true → (a || b) ≡ true
            second true b e = refl
            second false b e = e

        used : 1 ≤ (slot_at t.pools pool k).holders
        used =
            let often = often_has k (places_on c.0) waits in
            let below = lane_below (lane_count pool k) t.ports w c.0 on_way in
            let here : (if c.0.pool == pool then how_often k (places_on c.0) else 0) ≡ how_often k (places_on c.0)
            = ap (λ (b : Bool). if b then how_often k (places_on c.0) else 0) (eq-eqb c.0.pool pool c.2) in
            let all = order.counted pool k in omega (arith, often, below, here, all)

        owner : owner_of t.pools pool ≡ s
        owner = ap (owner_of t.pools) (sym c.2) ∙ order.owners w c.0 k on_way waits

        at_pool : (o : Option PoolState) → pool_at t.pools pool ≡ o → has_number s (senders_of p.expired.pipes) ≡ true → are_requests_in words pool ≡ is_client (other_role p.role)
        at_pool None is kept =
            let none : (slot_at t.pools pool k).holders ≡ 0
            = ap (λ (o : Option PoolState). (option_map_or (λ (x : SlotState). x) (slice_get (option_map_or (λ (q : PoolState). q.slots) o []) k) no_slot).holders) is in
            absurd (omega (arith, used, none))
        at_pool (Some q) is kept =
            fit.gone pool q n p is there
            (ap (λ i. has_number i (senders_of p.expired.pipes)) (ap (λ (o : Option PoolState). option_map_or (λ (x : PoolState). x.port) o 0) (sym is) ∙ owner) ∙ kept)

        either : (b : Bool) → has_number s (senders_of p.expired.pipes) ≡ b → (b || has_number s (senders_of p.incoming.pipes)) ≡ true
            → are_requests_in words pool ≡ is_client (other_role p.role)
        either true kept e = at_pool (pool_at t.pools pool) refl kept
        either false kept e =
            let q = of_role t order (other_role p.role) s (number-among s _ (sym (ap (has_number s) (order.wired.each n p there).senders) ∙ e)) in
            ap (are_requests_in words) (sym c.2 ∙ (order.lanes w c.0 q.0 on_way q.1).of_pool) ∙ fit.ports s q.0 q.1 ∙ ap is_client q.2

    suited : (v : Visits) → GotFrom wanted (labels_of t.pools) lane (pipes_of p) v → IsSuited node role n v
    suited (Got s pool k) c =
        record {
          kind = words_suit s pool k c ∙ ap (λ r. is_client (other_role r)) role_is ∙ suits role;
          one = λ e. absurd (true≢false (sym e ∙ no_loan role));
          full = λ e. absurd (true≢false (sym e ∙ no_full_loan role));
        }
    suited AtLimit c = tt
    suited Nothing c = tt

    abbrev left : Visits → HubTables
    left v = with_got (with_visited t n lane wanted) node role n v

    left_handles : (v : Visits) → IsSuited node role n v → OfEachHandle (SuitsHandle many words) (left v).handles
    left_handles (Got s pool k) one = each_last (SuitsHandle many words) t.handles (got_handle t node role n pool k) fit.handles one
    left_handles AtLimit one = fit.handles
    left_handles Nothing one = fit.handles

    left_ports : (v : Visits) → (left v).ports ≡ with_port (visited_port wanted (labels_of t.pools) lane) t.ports n
    left_ports (Got s pool k) = refl
    left_ports AtLimit = refl
    left_ports Nothing = refl

    left_pools : (v : Visits) → (left v).pools ≡ t.pools
    left_pools (Got s pool k) = refl
    left_pools AtLimit = refl
    left_pools Nothing = refl

    came : GotFrom wanted (labels_of t.pools) lane (pipes_of p) (visits_at t n lane wanted)
    came =
        subst (λ o. GotFrom wanted (labels_of t.pools) lane (pipes_of p) (all_visits wanted (labels_of t.pools) lane (option_map_or pipes_of o []))) (sym there)
        (got_is wanted (labels_of t.pools) lane (pipes_of p) false (order.wired.each n p there).apart)

    pub fits_received : (t' : HubTables) → IsButHolders (left (visits_at t n lane wanted)) t' → WordsFit many words t'
    fits_received t' is =
        let v : Visits = visits_at t n lane wanted in
        fits_on t' (ap (λ (u : HubTables). bare_ports u.ports) is.same ∙ ap bare_ports (left_ports v) ∙ visits_bare wanted (labels_of t.pools) lane t.ports n)
        (ap bare_pools (sym (left_pools v)) ∙ is.bare)
        (subst (λ (u : HubTables). OfEachHandle (SuitsHandle many words) u.handles) (sym is.same) (left_handles v (suited v came)))

-- ---- the calls

module _ {many : Bool × Bool} (words : List (Option Carried)) (t t' : HubTables) (fit : WordsFit many words t) (order : AreInOrder t) (node n : ℕ) where
  pub fits_request : IsServer t node n → IsButHolders (with_request t node n) t' → WordsFit many words t'
  fits_request server is =
      fits_received words t fit order node n 0 server.port server.there Server server.server (wanted_by_server t.settings.fire_and_forget) t' is

  pub fits_response : (pending : IsPending t node n) → IsButHolders (with_response t node pending.handle) t' → WordsFit many words t'
  fits_response pending is =
      let h : HandleState = pending.handle in
      let l : Label = labels_of t.pools h.pool h.slot in
      fits_received words t fit order node h.port l.lane pending.port pending.there Client pending.client (Of l.request) t' is

-- only request states are others
pub fits_states : {many : Bool × Bool} (words : List (Option Carried)) (t : HubTables) (g : RequestState → RequestState) (ws : List Way) → WordsFit many words t → WordsFit many words (with_states g t ws)
fits_states words t g ws fit = fits_on words t fit (with_states g t ws) (states_on_bare g t.ports ws) refl fit.handles

pub fits_hint : {many : Bool × Bool} (words : List (Option Carried)) (c d : ControlState) → WordsFit many words c.tables → (node n : ℕ) → (pending : IsPending c.tables node n)
    → ((h : HandleState) → handle_in c.tables.handles node n ≡ Some h → d ≡ with_tables c (with_hint c.tables h)) → WordsFit many words d.tables
fits_hint {many} words c d fit node n pending is =
    subst (λ (e : ControlState). WordsFit many words e.tables) (sym (is pending.handle pending.named.there))
    (fits_states words c.tables (λ r. hinted_for r (request_of c.tables pending.handle)) (pending_states c.tables pending.handle) fit)

-- no pool, no port and no handle
pub fits_none : {many : Bool × Bool} (t : HubTables) → t.pools ≡ [] → t.ports ≡ [] → t.handles ≡ [] → (words : List (Option Carried)) → WordsFit many words t
fits_none {many} t pools ports handles words = record {
  pools = λ place. subst (λ (ps : List (Option PoolState)). length (slots_of ps place) ≤ count_in words place) (sym pools) (omega arith);
  elements = λ place k low. absurd (none place k low);
  ports = λ n p at. absurd (missing n p at);
  gone = λ place q n p at there. absurd (missing n p there);
  longest = λ n p at. absurd (missing n p at);
  one = λ n p at. absurd (missing n p at);
  handles = subst (λ (hs : List HandleState). OfEachHandle (SuitsHandle many words) hs) (sym handles) tt;
}
  where
    none : (place k : ℕ) → k < length (slots_of t.pools place) → ⊥
    none place k low = let is = ap (λ (ps : List (Option PoolState)). length (slots_of ps place)) pools in omega (arith, low, is)

    missing : (n : ℕ) (p : PortState) → port_in t.ports n ≡ Some p → ⊥
    missing n p at = none-some p (ap (λ (ps : List PortState). port_in ps n) (sym ports) ∙ at)
