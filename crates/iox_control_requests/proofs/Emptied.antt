-- What is so once the client of a loaned request got all back.
use Rattle.std.specs.Prelude.{◌≡◌, ◌⊎◌, ℕ, ◌<◌, ◌≤◌, ◌^◌, Bool, true, false, ◌||◌, if◌then◌else◌, List, [], ◌∷◌, length, map, Option, Some, refl}
use Rattle.std.specs.Option.{option_map}
use Rattle.std.proofs.Common.{sym, ap, ap₂, subst, ◌∙◌, arith, inl, inr, true≢false}
use Rattle.std.proofs.lemmas.Option.{same_Some}
use Rattle.iox_model.specs.declared.kind.Kind.TheVariants.{PendingResponse, Response}
use Rattle.iox_model.specs.declared.kind.Role.{Role}
use Rattle.iox_model.specs.declared.kind.Role.TheVariants.{Client, Server}
use Rattle.iox_model.specs.declared.way.Way.{Way}
use Rattle.iox_model.specs.Handles.{is_request_loan, is_response_loan, same_kind}
use Rattle.iox_model.specs.Maps.{has_way, same_way}
use Rattle.iox_model.specs.Messages.{request_way, response_way}
use Rattle.iox_laws.proofs.WeaveLaws.MapLemmas.{is_in-first}
use Rattle.iox_lanes.specs.Lanes.{IsSound, LaneState}
use Rattle.iox_tables.specs.HubStates.Changes.{emptied_lane, with_lanes, OnEach}
use Rattle.iox_lanes.specs.declared.wanted.Label.{Label}
use Rattle.iox_tables.specs.HubStates.Ends.{with_call, with_changed, with_dropped}
use Rattle.iox_tables.specs.HubStates.Sendings.{pending_of}
use Rattle.iox_tables.specs.HubStates.Sends.{with_opened}
use Rattle.iox_tables.specs.HubStates.Tables.{HandleState, HubTables, PoolState, PortState, SlotState, labels_of, port_in, slot_at}
use Rattle.iox_tables.specs.HubStates.Ways.{lane_on, with_lane_on, with_lanes_on}
use Rattle.iox_tables.specs.HubStates.Wirings.{IsHandle, numbers_of_role}
use Rattle.iox_tables.proofs.HubStates.Fixing.{first_key}
use Rattle.iox_tables.proofs.HubStates.Keys.{at_is, lane_turned}
use Rattle.iox_tables.specs.HubLoans.Lenders.{ways_by}
use Rattle.iox_tables.specs.HubLending.Emptying.{with_back}
use Rattle.iox_tables.specs.HubBooks.Handles.{IsOfPort}
use Rattle.iox_tables.specs.HubBooks.Keeps.{bare_pools, delivers}
use Rattle.iox_tables.proofs.HubBooks.Frames.{lanes_on_bare}
use Rattle.iox_tables.proofs.HubBooks.Structures.{slot_bare}
use Rattle.iox_hub_delivering.proofs.Before.{named_stays}
use Rattle.iox_control.specs.Controls.{ControlState, IsControl, with_tables}
use Rattle.iox_control_ending.specs.Endings.{IsLoan, with_ended}
use Rattle.iox_control_retrieving.specs.Alone.{HasOneLoan, has_one_out}
use Rattle.iox_control_requests.specs.Requests.{is_failing, ways_of, with_request_sent, with_requests_back}
use Rattle.iox_control_requests.specs.Servers.{request_ways}
use Rattle.iox_control_requests.proofs.Opened.{all_listed, by_servers}
use Rattle.iox_control_requests.proofs.Ready.{its_client, ways_open}
use Rattle.iox_control_requests.proofs.Walks.{servers_stay}
use Rattle.iox_slots.proofs.BareLemmas.{let_go_bare}
use Rattle.std.proofs.lemmas.Bool.{or_right}

-- ---- emptied lanes

-- what is on a way once another is emptied
pub turned : (ports : List PortState) (v w : Way) (b : Bool) → same_way w v ≡ b
    → lane_on (with_lane_on emptied_lane ports v) w ≡ (if b then option_map emptied_lane (lane_on ports w) else lane_on ports w)
turned ports v w b e =
    ap (λ on. on w) (lane_turned emptied_lane ports v) ∙ at_is emptied_lane (lane_on ports) v w
    ∙ ap (λ (c : Bool). if c then option_map emptied_lane (lane_on ports w) else lane_on ports w) e

after : (vs : List Way) (ports : List PortState) (w : Way) (l : LaneState) → lane_on ports w ≡ Some l → (has_way w vs ≡ true) ⊎ (l.returned ≡ [])
    → (m : LaneState) × (lane_on (with_lanes_on emptied_lane ports vs) w ≡ Some m) × (m.returned ≡ [])
after [] ports w l there (inl e) = absurd (true≢false (sym e))
after [] ports w l there (inr e) = (l, there, e)
after (v ∷ vs) ports w l there either = step (same_way w v) refl either (λ ps m at e. after vs ps w m at e)
  where
    step : (b : Bool) → same_way w v ≡ b → ((b || has_way w vs) ≡ true) ⊎ (l.returned ≡ [])
        → ((ps : List PortState) (m : LaneState) → lane_on ps w ≡ Some m → (has_way w vs ≡ true) ⊎ (m.returned ≡ [])
        → (k : LaneState) × (lane_on (with_lanes_on emptied_lane ps vs) w ≡ Some k) × (k.returned ≡ []))
        → (m : LaneState) × (lane_on (with_lanes_on emptied_lane (with_lane_on emptied_lane ports v) vs) w ≡ Some m) × (m.returned ≡ [])
    step true e either more =
        more (with_lane_on emptied_lane ports v) (emptied_lane l) (turned ports v w true e ∙ ap (option_map emptied_lane) there) (inr refl)
    step false e either more = more (with_lane_on emptied_lane ports v) l (turned ports v w false e ∙ there) either

-- a lane has as much in line then
kept : (vs : List Way) (ports : List PortState) (w : Way) (l : LaneState) → lane_on ports w ≡ Some l
    → (m : LaneState) × (lane_on (with_lanes_on emptied_lane ports vs) w ≡ Some m) × (m.waiting ≡ l.waiting) × (m.buffer ≡ l.buffer)
kept [] ports w l there = (l, there, refl, refl)
kept (v ∷ vs) ports w l there = step (same_way w v) refl (λ ps m at. kept vs ps w m at)
  where
    step : (b : Bool) → same_way w v ≡ b
        → ((ps : List PortState) (m : LaneState) → lane_on ps w ≡ Some m
        → (k : LaneState) × (lane_on (with_lanes_on emptied_lane ps vs) w ≡ Some k) × (k.waiting ≡ m.waiting) × (k.buffer ≡ m.buffer))
        → (k : LaneState) × (lane_on (with_lanes_on emptied_lane (with_lane_on emptied_lane ports v) vs) w ≡ Some k) × (k.waiting ≡ l.waiting) × (k.buffer ≡ l.buffer)
    step true e more = more (with_lane_on emptied_lane ports v) (emptied_lane l) (turned ports v w true e ∙ ap (option_map emptied_lane) there)
    step false e more = more (with_lane_on emptied_lane ports v) l (turned ports v w false e ∙ there)

as_low : (k l m : LaneState) → k ≡ m → k.waiting ≡ l.waiting → k.buffer ≡ l.buffer → length m.waiting ≤ m.buffer → length l.waiting ≤ l.buffer
as_low k l m same waiting buffer low =
    let many : length k.waiting ≡ length l.waiting = ap length waiting in
    let lower : length k.waiting ≤ k.buffer = subst (λ (i : LaneState). length i.waiting ≤ i.buffer) (sym same) low in
    omega (arith, many, lower, buffer)

pub each_waits : (P : Way → LaneState → Type 0) (ports : List PortState) (ws us : List Way) → OnEach P (lane_on ports) us
    → OnEach (λ w l. IsSound l) (lane_on (with_lanes_on emptied_lane ports ws)) us → OnEach (λ w l. length l.waiting ≤ l.buffer) (lane_on ports) us
each_waits P ports ws [] each sound = tt
each_waits P ports ws (u ∷ us) each sound =
    let k = kept ws ports u each.0.0 each.0.1 in (
      (
        each.0.0,
        each.0.1,
        as_low k.0 each.0.0 sound.0.0 (same_Some k.0 sound.0.0 (sym k.1 ∙ sound.0.1)) k.2 k.3 sound.0.2.waits,
      ),
      each_waits P ports ws us each.1 sound.1,
    )

pub each_after : (P : Way → LaneState → Type 0) (ports : List PortState) (ws us : List Way) → ((w : Way) → has_way w us ≡ true → has_way w ws ≡ true)
    → OnEach P (lane_on ports) us → OnEach (λ w l. l.returned ≡ []) (lane_on (with_lanes_on emptied_lane ports ws)) us
each_after P ports ws [] sub each = tt
each_after P ports ws (u ∷ us) sub each = (
  after ws ports u each.0.0 each.0.1 (inl (sub u (is_in-first u us))),
  each_after P ports ws us (λ w has. sub w (or_right (same_way w u) (has_way w us) has)) each.1,
)

pub same_ways_then : (client : ℕ) (ports : List PortState) (ws : List Way) → request_ways client (with_lanes_on emptied_lane ports ws) ≡ request_ways client ports
same_ways_then client ports ws =
    ap (map (request_way client)) (by_servers (with_lanes_on emptied_lane ports ws) ∙ ap all_listed (servers_stay emptied_lane ports ws) ∙ sym (by_servers ports))

-- ---- labels

abbrev label_in : SlotState → Label
label_in s = record { lane = s.lane; request = s.request }

-- pools that differ only in holders have the same labels
pub labels_same : (old new : List (Option PoolState)) (place k : ℕ) → bare_pools old ≡ bare_pools new → labels_of old place k ≡ labels_of new place k
labels_same old new place k same =
    ap label_in (sym (slot_bare old place k)) ∙ ap (λ ps. label_in (slot_at ps place k)) same ∙ ap label_in (slot_bare new place k)

-- the tables once the request of that label is sent
abbrev sent_with : HandleState → Bool → Label → HubTables → HubTables
sent_with h overflow l t =
    with_call
    (with_changed
    (with_lanes (delivers overflow h.slot) (with_opened t l.request (map (response_way h.port l.lane) (numbers_of_role Server t.ports))) (ways_of t h overflow))
    (pending_of h (length (ways_of t h overflow))))

-- ---- a loaned request

first_number : (ports : List PortState) (n : ℕ) (p : PortState) → port_in ports n ≡ Some p → p.number ≡ n
first_number ports n p there = first_key (λ (q : PortState). q.number) ports n p there

module _ (c : ControlState) (node n : ℕ) (h : HandleState) (order : IsControl c) (named : IsHandle c.tables node n h) (kind : is_request_loan h.kind ≡ true) where
  its : IsOfPort c.tables h
  its = (its_client c.tables node n h order.order named kind).1

  pub the_port : (p : PortState) × (port_in c.tables.ports h.port ≡ Some p)
  the_port = (its.port, its.there)

  -- its loan may be the only message of the client that somebody has
  pub only_loan : (p : PortState) → port_in c.tables.ports h.port ≡ Some p → has_one_out c.tables.pools h.pool ≡ true → HasOneLoan c.tables p.pool
  only_loan p there one = record {
    node = node;
    number = n;
    handle = h;
    named = named;
    loan = ap (λ b. b || is_response_loan h.kind) kind;
    of_pool = its_pool;
    one = subst (λ q. has_one_out c.tables.pools q ≡ true) its_pool one;
  }
    where
      its_pool : h.pool ≡ p.pool
      its_pool =
          its.of_pool (ap (λ b. b || (is_response_loan h.kind || same_kind h.kind PendingResponse)) kind)
          ∙ ap (λ (q : PortState). q.pool) (same_Some its.port p (sym its.there ∙ there))

  its_role : its.port.role ≡ Client
  its_role = its.role ∙ ap (λ (b : Bool). if b || (same_kind h.kind PendingResponse || same_kind h.kind Response) then Client else Server) kind

  abbrev back : HubTables
  back = with_requests_back c.tables h

  -- what the client got back
  pub got_back : (c1 : ControlState) → ((p : PortState) → port_in c.tables.ports h.port ≡ Some p → c1 ≡ with_tables c (with_back c.tables p c1.tables.pools))
      → c1 ≡ with_tables c (record back { pools = c1.tables.pools })
  got_back c1 left =
      left its.port its.there
      ∙ ap₂ (λ (r : Role) (k : ℕ). with_tables c (record (with_lanes emptied_lane c.tables (ways_by r c.tables k)) { pools = c1.tables.pools }))
      its_role (first_number c.tables.ports h.port its.port its.there)

  module _ (c1 : ControlState) (is : c1 ≡ with_tables c (record back { pools = c1.tables.pools })) where
    pub still_named : IsHandle c1.tables node n h
    still_named =
        subst (λ (d : ControlState). IsHandle d.tables node n h) (sym is)
        (named_stays c.tables back.ports c1.tables.pools (lanes_on_bare emptied_lane (λ l. refl) c.tables.ports (request_ways h.port c.tables.ports)) node n h named)

    pub is_loan_then : IsLoan c1.tables node n
    is_loan_then = record { handle = h; named = still_named; loan = ap (λ b. b || is_response_loan h.kind) kind }

    pub nothing_returned : OnEach (λ w l. l.returned ≡ []) (lane_on c1.tables.ports) (request_ways h.port c1.tables.ports)
    nothing_returned =
        subst (λ (d : ControlState). OnEach (λ w l. l.returned ≡ []) (lane_on d.tables.ports) (request_ways h.port d.tables.ports)) (sym is)
        (subst (OnEach (λ w l. l.returned ≡ []) (lane_on back.ports)) (sym (same_ways_then h.port c.tables.ports (request_ways h.port c.tables.ports)))
        (each_after _ c.tables.ports (request_ways h.port c.tables.ports) (request_ways h.port c.tables.ports) (λ w has. has)
        (ways_open c.tables node n h order.order named kind)))

    -- no lane had one too many
    pub waits_then : OnEach (λ w l. IsSound l) (lane_on c1.tables.ports) (request_ways h.port c1.tables.ports)
        → OnEach (λ w l. length l.waiting ≤ l.buffer) (lane_on c.tables.ports) (request_ways h.port c.tables.ports)
    waits_then sound =
        each_waits _ c.tables.ports (request_ways h.port c.tables.ports) (request_ways h.port c.tables.ports) (ways_open c.tables node n h order.order named kind)
        (subst (OnEach (λ w l. IsSound l) (lane_on back.ports)) (same_ways_then h.port c.tables.ports (request_ways h.port c.tables.ports))
        (subst (λ (d : ControlState). OnEach (λ w l. IsSound l) (lane_on d.tables.ports) (request_ways h.port d.tables.ports)) is sound))

    pub calls_then : c.tables.calls < 2 ^ 56 → c1.tables.calls ≤ 2 ^ 56
    calls_then few = subst (λ (d : ControlState). d.tables.calls ≤ 2 ^ 56) (sym is) (omega (arith, few))

    pub active_then : 1 ≤ c.tables.settings.active_requests → 1 ≤ c1.tables.settings.active_requests
    active_then some = subst (λ (d : ControlState). 1 ≤ d.tables.settings.active_requests) (sym is) some

    -- the loan ends then
    pub ended_is : (c2 : ControlState) → c2 ≡ with_ended c1 node n h → c2.tables ≡ record (with_dropped back node n) { pools = c2.tables.pools }
    ended_is c2 ended =
        let pools : c2.tables.pools ≡ (with_ended c1 node n h).tables.pools = ap (λ (d : ControlState). d.tables.pools) ended in
        ap (λ (d : ControlState). d.tables) ended
        ∙ ap (λ (d : ControlState). record (with_dropped (d.tables) node n) { pools = (with_ended c1 node n h).tables.pools }) is
        ∙ ap (λ (ps : List (Option PoolState)). record (with_dropped back node n) { pools = ps }) (sym pools)

    pub ended_bare : (c2 : ControlState) → c2 ≡ with_ended c1 node n h → bare_pools c1.tables.pools ≡ bare_pools c2.tables.pools
    ended_bare c2 ended =
        let_go_bare c1.tables.pools h.pool h.slot ∙ ap (λ (d : ControlState). bare_pools d.tables.pools) (sym ended)

    pub fails_then : (fails : Way → Bool) (overflow b r : Bool) → r ≡ is_failing fails overflow c1.tables.ports h.port → r ≡ b → b ≡ is_failing fails overflow back.ports h.port
    fails_then fails overflow b r told so = sym so ∙ told ∙ ap (λ (d : ControlState). is_failing fails overflow d.tables.ports h.port) is

    pub counts_then : (overflow : Bool) (n count : ℕ) → n ≡ length (ways_of c1.tables h overflow) → n ≡ count → count ≡ length (ways_of back h overflow)
    counts_then overflow n count counts so = sym so ∙ counts ∙ ap (λ (d : ControlState). length (ways_of d.tables h overflow)) is

    -- the request is sent then
    pub sent_then : (overflow : Bool) (c2 : ControlState) → bare_pools c.tables.pools ≡ bare_pools c1.tables.pools
        → c2 ≡ with_tables c1 (record (with_request_sent c1.tables h overflow) { pools = c2.tables.pools })
        → c2.tables ≡ record (with_request_sent back h overflow) { pools = c2.tables.pools }
    sent_then overflow c2 same sent =
        ap (λ (d : ControlState). d.tables) sent
        ∙ ap (λ (d : ControlState). record (sent_with h overflow (labels_of c1.tables.pools h.pool h.slot) d.tables) { pools = c2.tables.pools }) is
        ∙ ap (λ (l : Label). record (sent_with h overflow l back) { pools = c2.tables.pools }) (sym (labels_same c.tables.pools c1.tables.pools h.pool h.slot same))
