-- What any lender lends: its pool decides, and its loan has a slot.
use Rattle.std.specs.Prelude.{◌≡◌, ℕ, Bool, true, false, not, ◌&&◌, if◌then◌else◌, ◌==◌, nat_le, List, [], length, map, flat_map, Option, Some, None, is_some, refl}
use Rattle.std.specs.List.{list_any, range_with_len}
use Rattle.std.specs.Option.{option_map, option_map_or}
use Rattle.std.proofs.Common.{sym, ap, ap₂, ◌∙◌}
use Rattle.iox_model.specs.declared.kind.Role.{Role}
use Rattle.iox_model.specs.declared.kind.Role.TheVariants.{Client, Server}
use Rattle.iox_model.specs.declared.reply.Refusal.TheVariants.{OutOfMemory, WantOfMemory}
use Rattle.iox_model.specs.declared.way.Way.{Way}
use Rattle.iox_model.specs.Doings.{Outcome}
use Rattle.iox_model.specs.Handles.{is_request_loan}
use Rattle.iox_model.specs.Loans.{Choice, Order, kind_of_loan, request_ways, response_ways}
use Rattle.iox_model.specs.Maps.{refused_if}
use Rattle.iox_model.specs.Messages.{Message, request_way, response_way}
use Rattle.iox_model.specs.Outstandings.{is_dry, kept, kept_after}
use Rattle.iox_model.specs.Peers.{lanes_of, lanes_to, others, ports_of_role, role_at, ways_from}
use Rattle.iox_model.specs.Settings.{is_client}
use Rattle.iox_model.specs.States as m
use Rattle.iox_laws.proofs.WeaveLaws.MapLemmas.{eqb-refl, others_are_all}
use Rattle.iox_laws.specs.CallFunctions.Answers.{refusing}
use Rattle.iox_laws.specs.CallFunctions.Loans.{Following, lent, lent_unless}
use Rattle.iox_laws.specs.CallFunctions.Sends.{emptied}
use Rattle.iox_tables.specs.HubStates.Tables.{HubTables, PortState, SlotState, port_in, slot_at}
use Rattle.iox_tables.specs.HubStates.Ways.{lane_on}
use Rattle.iox_tables.specs.HubStates.States.{Given, fixed_of, message_of, no_id, port_of, state_shown}
use Rattle.iox_tables.specs.HubStates.Changes.{HasEachOnce, OfEachLane, emptied_lane}
use Rattle.iox_tables.specs.HubStates.Steps.{is_there}
use Rattle.iox_tables.specs.HubStates.Wirings.{numbers_of_role}
use Rattle.iox_tables.proofs.HubStates.Fixing.{find_port, roles_are}
use Rattle.iox_tables.proofs.HubStates.Steps.{connected_is, emptying_is_shown, lanes_fixed}
use Rattle.iox_tables.specs.HubLoans.Lenders.{Lender, is_pool_dry, is_pool_to_be_dry, shape_in, size_in, ways_by, ways_to_client, with_got_back}
use Rattle.iox_tables.specs.HubLoans.Loans.{HasItsPool, loaned_contents, loaned_slot}
use Rattle.iox_tables.specs.HubLoans.Slots.{HasSlot, is_place, with_contents, put_slot}
use Rattle.iox_tables.proofs.HubLoans.Lending.{lent_tested, loan_shown}
use Rattle.iox_tables.proofs.HubLoans.Placed.{part_stays, slot_is}

-- ---- ways

size_is : (x : Given) (t : HubTables) (n : ℕ) → lanes_of (fixed_of x t) n ≡ size_in t.ports n
size_is x t n = ap (λ (o : Option m.Port). option_map_or (λ p. p.pool) o 0) (find_port x t.ports n) ∙ step (port_in t.ports n)
  where
    step : (o : Option PortState) → option_map_or (λ (p : m.Port). p.pool) (option_map (port_of x) o) 0 ≡ option_map_or (λ p. p.size) o 0
    step (Some p) = refl
    step None = refl

module _ (x : Given) (t : HubTables) where
  abbrev f : m.Fixed
  f = fixed_of x t

  others_are : (node : ℕ) (role : Role) → others f node role ≡ numbers_of_role role t.ports
  others_are node role = others_are_all f node role refl ∙ roles_are x t.ports role

  to_clients : (n : ℕ) (ns : List ℕ) → flat_map (lanes_to f n) ns ≡ flat_map (ways_to_client t n) ns
  to_clients n ns = ap (λ (g : ℕ → List Way). flat_map g ns) (λ i client. map (λ lane. response_way client lane n) (range_with_len 0 (size_is x t client i)))

  pub ways_are : (role : Role) (uninit : Bool) (node n : ℕ)
      → (if is_request_loan (kind_of_loan role uninit) then request_ways f node n else response_ways f node n) ≡ ways_by role t n
  ways_are Client true node n = ap (map (request_way n)) (others_are node Server)
  ways_are Client false node n = ap (map (request_way n)) (others_are node Server)
  ways_are Server true node n = ap (flat_map (lanes_to f n)) (others_are node Client) ∙ to_clients n (numbers_of_role Client t.ports)
  ways_are Server false node n = ap (flat_map (lanes_to f n)) (others_are node Client) ∙ to_clients n (numbers_of_role Client t.ports)

  -- the ways on which a port sends
  pub all_ways : (role : Role) (n : ℕ) → role_at f n ≡ role → ways_from f n ≡ ways_by role t n
  all_ways role n is =
      ap (λ r. if is_client r then map (request_way n) (ports_of_role f Server) else flat_map (lanes_to f n) (ports_of_role f Client)) is ∙ by_role role
    where
      by_role : (role : Role)
          → (if is_client role then map (request_way n) (ports_of_role f Server) else flat_map (lanes_to f n) (ports_of_role f Client)) ≡ ways_by role t n
      by_role Client = ap (map (request_way n)) (roles_are x t.ports Server)
      by_role Server = ap (flat_map (lanes_to f n)) (roles_are x t.ports Client) ∙ to_clients n (numbers_of_role Client t.ports)

-- ---- one lender

module _ (x : Given) (t : HubTables) (y : Lender) (there : port_in t.ports y.port.number ≡ Some y.port) where
  abbrev p : PortState
  p = y.port

  abbrev s : m.State
  s = state_shown x t

  abbrev back : HubTables
  back = with_got_back t p

  abbrev u : m.State
  u = state_shown x back

  abbrev dry_by : List ℕ → Option m.Port → Bool
  dry_by ks o = option_map_or (λ (p : m.Port). nat_le p.pool (length ks)) o true

  -- whether the pool is dry
  dry_is : (ks : List ℕ) → is_dry (fixed_of x t) p.number ks ≡ nat_le p.size (length ks)
  dry_is ks = ap (dry_by ks) (find_port x t.ports p.number ∙ ap (option_map (port_of x)) there)

  pub fixed_back : fixed_of x back ≡ fixed_of x t
  fixed_back = lanes_fixed emptied_lane (λ l. refl) x t (ways_by p.role t p.number)

  -- the port is there
  pub is_there_back : is_there back.ports p.number ≡ true
  is_there_back =
      sym (connected_is x back.ports p.number)
      ∙ ap (λ (f : m.Fixed). list_any (λ q. q.number == p.number) f.ports) fixed_back
      ∙ connected_is x t.ports p.number
      ∙ ap is_some there

  -- the pool decides
  pub lent_is : (after : Following) (o : Order) → OfEachLane (HasEachOnce (message_of x t.pools)) (lane_on t.ports)
      → lent after s (loan_shown x t y o) ≡ (if is_pool_dry x t p then refusing OutOfMemory u else after u (loan_shown x t y o))
  lent_is after o once =
      ap (λ ws. decide (emptied s ws)) (ways_are x t p.role o.uninit p.node p.number)
      ∙ ap decide (sym (emptying_is_shown x t (ways_by p.role t p.number) once))
      ∙ ap (λ b. if b then refusing OutOfMemory u else after u (loan_shown x t y o))
      (ap (λ (f : m.Fixed). is_dry f p.number (kept u p.number [])) fixed_back ∙ dry_is (kept u p.number []))
    where
      decide : m.State → Outcome × m.State
      decide v = if is_dry v.fixed p.number (kept v p.number []) then refusing OutOfMemory v else after v (loan_shown x t y o)

  -- with memory, nothing else refuses
  pub with_memory : (after : Following) (c : Choice) (o : Order) → c.memory ≡ true
      → lent_tested after s c p.number (loan_shown x t y o) ≡ lent after s (loan_shown x t y o)
  with_memory after c o has =
      ap (λ b. lent_unless (refused_if (not b && not (is_dry (fixed_of x t) p.number (kept_after s p.number))) WantOfMemory) s (lent after s (loan_shown x t y o))) has

  pub without_memory : (after : Following) (c : Choice) (o : Order) → c.memory ≡ false → is_pool_to_be_dry x t p ≡ false
      → lent_tested after s c p.number (loan_shown x t y o) ≡ refusing WantOfMemory s
  without_memory after c o none dry =
      ap₂ (λ a b. lent_unless (refused_if (not a && not b) WantOfMemory) s (lent after s (loan_shown x t y o))) none
      (dry_is (kept_after s p.number) ∙ dry)

  -- ---- the message of the loan

  abbrev made : List ℕ → ℕ → ℕ → Message
  made payload k slot =
      message_of (with_contents x p.pool slot (loaned_contents x t y payload)) (put_slot t.pools p.pool slot (loaned_slot y k)) p.pool slot

  pub place_is : (slot : ℕ) → is_place p.pool slot p.pool slot ≡ true
  place_is slot = ap₂ (λ a b. a && b) (eqb-refl p.pool) (eqb-refl slot)

  loans_are : (fixed_of x t).loans p.number ≡ p.loans
  loans_are = ap (λ o. option_map_or (λ (q : PortState). q.loans) o 0) there

  pub message_is : (payload : List ℕ) (o : Order) (slot : ℕ) → HasItsPool t p → HasSlot t.pools p.pool slot
      → made payload o.elements slot ≡ record ((loan_shown x t y o).message) { payload = payload }
  message_is payload o slot pool has = λ i. record (made payload o.elements slot) {
    sender = (part_stays (λ q. q.port) 0 (λ q k s. refl) t.pools p.pool slot (loaned_slot y o.elements) p.pool ∙ pool.owner) i;
    serial = (ap (λ (z : SlotState). z.serial) (is_slot o.elements) ∙ sym loans_are) i;
    node_id = (part_stays (λ q. q.node_id) no_id (λ q k s. refl) t.pools p.pool slot (loaned_slot y o.elements) p.pool ∙ pool.node_id) i;
    port_id = (part_stays (λ q. q.port_id) no_id (λ q k s. refl) t.pools p.pool slot (loaned_slot y o.elements) p.pool ∙ pool.port_id) i;
    lane = (is_slot o.elements i).lane;
    request = (is_slot o.elements i).request;
    elements = (is_slot o.elements i).elements;
    user = if place_is slot i then (shape_in x t p).user else x.user p.pool slot;
    payload = if place_is slot i then payload else x.payload p.pool slot;
  }
    where
      is_slot : (k : ℕ) → slot_at (put_slot t.pools p.pool slot (loaned_slot y k)) p.pool slot ≡ loaned_slot y k
      is_slot k = slot_is t.pools p.pool slot (loaned_slot y k) has
