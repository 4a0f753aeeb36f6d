-- A loan in the slot of the message that was got back last, which nobody else had.
use Rattle.std.specs.Prelude.{◌≡◌, ℕ, ◌<◌, ◌%◌, ◌^◌, true, false, if◌then◌else◌, nat_lt, List, Option, Some, length, refl}
use Rattle.std.proofs.Common.{sym, ap, subst, ◌∙◌, arith}
use Rattle.iox_model.specs.declared.kind.Role.{Role}
use Rattle.iox_model.specs.declared.kind.Role.TheVariants.{Client, Server}
use Rattle.iox_model.specs.Settings.{is_client}
use Rattle.iox_tables.specs.HubStates.Tables.{HubTables, PoolState, PortState, port_in, slot_at, slots_of}
use Rattle.iox_tables.specs.HubLoans.Counts.{is_lane_taken}
use Rattle.iox_hub_ports.specs.declared.info.PortInfo.{PortInfo}
use Rattle.iox_hub_ports.specs.Ports.{place_in}
use Rattle.iox_slots.specs.Lanes.{is_lane_held}
use Rattle.iox_slots.specs.Pools.{Takes, has_slot, with_slot}
use Rattle.iox_slots.specs.Slots.{let_go, rewritten, taken, written}
use Rattle.iox_slots.proofs.CallerLemmas.{one_less_here, rewritten_is, taken_is_there}
use Rattle.iox_slots.proofs.OwnLanes.{lane_is_left}
use Rattle.iox_slots.proofs.SlotLemmas.{sizes_stay}
use Rattle.iox_control.specs.Controls.{ControlState, IsControl, with_pools}
use Rattle.iox_control_lending.specs.declared.asked.Lending.{Lending}
use Rattle.iox_control_lending.specs.Lends.{IsGotBack, IsPortOf, MayBeOn, lender_of}
use Rattle.iox_control_lending.specs.Retakes.{IsTakenAnew, MayBeRetaken, lane_anew}
use Rattle.iox_control_lending.proofs.HeldLanes.{unheld_is_free}
use Rattle.iox_control_lending.proofs.LendLemmas.{place_back, port_back}
use Rattle.iox_control_lending.proofs.MadeLemmas.{slots_are}
use Rattle.iox_control_lending.proofs.WrittenAnew.{written_anew}

-- ---- whether just one has a message

pub just_one : (n : ℕ) → 0 < n → false ≡ nat_lt 1 n → n ≡ 1
just_one n some e = grind (arith, some, e)

-- ---- what is written, where the port is read anew

module _ (c : ControlState) (l : Lending) (info : PortInfo) (same : info ≡ l.port) (elements slot : ℕ) (new : ControlState) where
  -- that message is written to the slot
  abbrev anew : ℕ → ℕ → ℕ → ControlState
  anew serial lane request = with_pools c (with_slot (written serial lane request elements) c.tables.pools l.port.pool slot)

  -- where it is written anew for the lender
  abbrev its_lane : ℕ
  its_lane = lane_anew l c.tables.pools slot

  pub client_anew : l.port.role ≡ Client → l.request ≡ l.port.loans % 2 ^ 62
      → new ≡ with_pools c (with_slot (rewritten info.loans (info.loans % 2 ^ 62) elements) c.tables.pools l.port.pool slot)
      → new ≡ anew l.port.loans its_lane l.request
  client_anew client next left =
      left
      ∙ ap (with_pools c) (rewritten_is info.loans (info.loans % 2 ^ 62) elements c.tables.pools l.port.pool slot)
      ∙ ap (λ (i : PortInfo). anew i.loans (slot_at c.tables.pools l.port.pool slot).lane (i.loans % 2 ^ 62)) same
      ∙ ap (anew l.port.loans (slot_at c.tables.pools l.port.pool slot).lane) (sym next)
      ∙ ap (λ (r : Role). anew l.port.loans (if is_client r then (slot_at c.tables.pools l.port.pool slot).lane else l.lane) l.request) (sym client)

  pub server_anew : l.port.role ≡ Server → new ≡ anew info.loans l.lane l.request → new ≡ anew l.port.loans its_lane l.request
  server_anew server left =
      left
      ∙ ap (λ (i : PortInfo). anew i.loans l.lane l.request) same
      ∙ ap (λ (r : Role). anew l.port.loans (if is_client r then (slot_at c.tables.pools l.port.pool slot).lane else l.lane) l.request) (sym server)

-- ---- a slot that just one has, once that one lets it go

module _ (pools : List (Option PoolState)) (place slot : ℕ) (one : (slot_at pools place slot).holders ≡ 1) where
  -- the pools then
  abbrev let_go_there : List (Option PoolState)
  let_go_there = with_slot let_go pools place slot

  is_there : has_slot let_go_there place slot ≡ true
  is_there = ap (nat_lt slot) (sizes_stay let_go pools place slot place) ∙ taken_is_there pools place slot (omega (arith, one))

  takes_anew : (serial lane request elements : ℕ)
      → Takes let_go_there place slot (taken serial lane request elements) (with_slot (written serial lane request elements) pools place slot)
  takes_anew serial lane request elements = record {
    there = is_there;
    free = let less = one_less_here pools place slot in omega (arith, less, one);
    changed = written_anew serial lane request elements slot pools place one;
  }

-- ---- the loan

module _ (c mid : ControlState) (l : Lending) (of : IsPortOf c.tables l) (order : IsControl c) (slot : ℕ)
    (back : (p : PortState) → port_in c.tables.ports l.port.number ≡ Some p → IsGotBack c p (with_pools mid (with_slot let_go mid.tables.pools l.port.pool slot))) where
  -- the tables once the slot is let go
  abbrev between : ControlState
  between = with_pools mid (with_slot let_go mid.tables.pools l.port.pool slot)

  port_then : IsPortOf between.tables l
  port_then = port_back c between l of order (λ p at. (back p at).left) (λ p at. (back p at).back)

  -- the lender's port is there, and in its place
  pub port_there : IsPortOf mid.tables l
  port_there = record { port = port_then.port; there = port_then.there; info = port_then.info }

  pub place_there : (at : ℕ) → place_in c.tables.ports l.port.number ≡ Some at → place_in mid.tables.ports l.port.number ≡ Some at
  place_there = place_back c between l of order (λ p at. (back p at).left) (λ p at. (back p at).back)

  -- the slot is there, before it is let go
  pub slot_there : (slot_at mid.tables.pools l.port.pool slot).holders ≡ 1 → has_slot mid.tables.pools l.port.pool slot ≡ true
  slot_there one = taken_is_there mid.tables.pools l.port.pool slot (omega (arith, one))

  module _ (ordered : IsControl between) (elements : ℕ) (new : ControlState) (last : MayBeRetaken l.port.role mid.tables.pools l.port.pool slot)
      (left : new ≡ with_pools mid (with_slot (written l.port.loans (lane_anew l mid.tables.pools slot) l.request elements) mid.tables.pools l.port.pool slot)) where
    -- the port of the lender
    abbrev p : PortState
    p = port_then.port

    -- the tables then
    abbrev t : HubTables
    t = between.tables

    -- the lane of the message before
    abbrev lane_before : ℕ
    lane_before = (slot_at mid.tables.pools l.port.pool slot).lane

    -- the lane of the loan
    abbrev lane : ℕ
    lane = lane_anew l mid.tables.pools slot

    its_pool : l.port.pool ≡ p.pool
    its_pool = ap (λ (i : PortInfo). i.pool) port_then.info

    many : length (slots_of mid.tables.pools l.port.pool) ≡ p.size
    many =
        sym (sizes_stay let_go mid.tables.pools l.port.pool slot l.port.pool)
        ∙ ap (λ q. length (slots_of t.pools q)) its_pool
        ∙ slots_are t l.port.number p ordered.order port_then.there

    is_left : l.port.role ≡ Client
        → (lane_before < length (slots_of mid.tables.pools l.port.pool)) × (is_lane_held (slots_of t.pools l.port.pool) lane_before ≡ false)
    is_left client = lane_is_left mid.tables.pools l.port.pool slot (last.lanes client) last.one

    on : (r : Role) → l.port.role ≡ r → MayBeOn r t (lender_of p l) (if is_client r then lane_before else l.lane)
    on Client client = (
      (let low = (is_left client).0 in let all = many in omega (arith, low, all)),
      subst (λ n. is_lane_taken t n lane_before ≡ false) (ap (λ (i : PortInfo). i.number) port_then.info)
          (unheld_is_free t l.port.number p ordered.order port_then.there lane_before
          (subst (λ q. is_lane_held (slots_of t.pools q) lane_before ≡ false) its_pool (is_left client).1)),
    )
    on Server server = refl

    chosen : MayBeOn p.role t (lender_of p l) lane
    chosen = subst (λ r. MayBeOn r t (lender_of p l) lane) (ap (λ (i : PortInfo). i.role) port_then.info) (on l.port.role refl)

    pools_are : new.tables.pools ≡ with_slot (written l.port.loans lane l.request elements) mid.tables.pools l.port.pool slot
    pools_are = ap (λ (d : ControlState). d.tables.pools) left

    takes : Takes t.pools p.pool slot (taken p.loans lane l.request elements) new.tables.pools
    takes =
        subst (λ (i : PortInfo). Takes t.pools i.pool slot (taken i.loans lane l.request elements) new.tables.pools) port_then.info
        (subst (λ ps. Takes t.pools l.port.pool slot (taken l.port.loans lane l.request elements) ps) (sym pools_are)
        (takes_anew mid.tables.pools l.port.pool slot last.one l.port.loans lane l.request elements))

    pub is_taken_anew : IsTakenAnew c l elements slot new
    is_taken_anew = record {
      between = between;
      back = back;
      taken = record {
        order = ordered;
        port = port_then;
        taken = record { lane = lane; chosen = chosen; takes = takes };
        left = left ∙ ap (with_pools mid) (sym pools_are);
      };
    }
