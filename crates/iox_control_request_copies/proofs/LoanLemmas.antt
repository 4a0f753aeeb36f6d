-- A loan that was just made may be sent.
use Rattle.std.specs.Prelude.{◌≡◌, ℕ, ◌+◌, ◌<◌, ◌≤◌, ◌^◌, Bool, true, false, List, [], length, map, Some, refl, ⊤}
use Rattle.std.proofs.Common.{sym, ap, subst, ◌∙◌, arith}
use Rattle.std.proofs.lemmas.Option.{same_Some}
use Rattle.iox_model.specs.declared.kind.Kind.TheVariants.{RequestMut}
use Rattle.iox_model.specs.declared.kind.Role.{Role}
use Rattle.iox_model.specs.declared.kind.Role.TheVariants.{Server}
use Rattle.iox_model.specs.declared.way.Way.{Way}
use Rattle.iox_model.specs.Loans.{kind_of_loan}
use Rattle.iox_model.specs.Maps.{has_way}
use Rattle.iox_model.specs.Messages.{request_way}
use Rattle.iox_lanes.specs.Lanes.{IsSound, LaneState}
use Rattle.iox_tables.specs.HubStates.Changes.{OnEach, emptied_lane}
use Rattle.iox_tables.specs.HubStates.Steps.{IsOpenToNew}
use Rattle.iox_tables.specs.HubStates.Tables.{HandleState, HubTables, PortState, port_in}
use Rattle.iox_tables.specs.HubStates.Ways.{OnWays, lane_on, with_lanes_on}
use Rattle.iox_tables.specs.HubStates.Wirings.{IsHandle}
use Rattle.iox_tables.specs.HubBooks.Hubs.{AreInOrder}
use Rattle.iox_hub_delivering.specs.Deliveries.{HasDelivered}
use Rattle.iox_hub_delivering.proofs.Copied.{named}
use Rattle.iox_tables.specs.HubLending.Lending.{MayLend}
use Rattle.iox_tables.proofs.HubLending.Back.{getting_back_keeps_order}
use Rattle.iox_tables.proofs.HubLending.OneMore.{lanes_same, roles_same}
use Rattle.iox_tables.proofs.HubLending.Owning.{number_is}
use Rattle.iox_tables.specs.HubLoans.Lenders.{IsClient, Lender, lender_of_request, ways_by}
use Rattle.iox_tables.specs.HubLoans.Loans.{loaned_handle, with_loaned}
use Rattle.iox_tables.specs.HubMaking.Worked.{at_first}
use Rattle.iox_control.specs.Controls.{ControlState, IsControl, with_tables}
use Rattle.iox_control_copies.specs.Asked.{Asked}
use Rattle.iox_control_copies.specs.Loaned.{Loaned}
use Rattle.iox_control_copies.specs.Lends.{IsLoaned, on_lane}
use Rattle.iox_control_copies.proofs.LaneLemmas.{lane_within}
use Rattle.iox_control_requests.specs.Requests.{ways_of, with_request_sent}
use Rattle.iox_control_requests.specs.Servers.{request_ways}
use Rattle.iox_control_requests.proofs.Emptied.{each_after, each_waits, same_ways_then}
use Rattle.iox_control_requests.proofs.Ready.{ways_open}
use Rattle.iox_control_request_copies.specs.Copies.{IsLentAndSent, handle_of_loan}
use Rattle.iox_control_request_copies.specs.SentLoans.{IsSent, MayBeSent, lent_handle}
use Rattle.iox_control_request_copies.proofs.Emptied.{each_before}

module _ (c : ControlState) (node n : ℕ) (a : Asked) (l : Loaned) (new : ControlState) (order : IsControl c) (client : IsClient c.tables node n) (filled : a.uninit ≡ false)
    (few : c.tables.calls < 2 ^ 56) (is : IsLoaned c (lender_of_request client.port 0) a l new) (ordered : IsControl new)
  where
    abbrev p : PortState
    p = client.port

    abbrev y : Lender
    y = lender_of_request p 0

    abbrev d : HubTables
    d = is.between.tables

    -- what was sent on all ways of the client
    abbrev ws : List Way
    ws = ways_by p.role c.tables p.number

    number : p.number ≡ n
    number = number_is c.tables order.order n p client.there

    there : port_in c.tables.ports p.number ≡ Some p
    there = ap (port_in c.tables.ports) number ∙ client.there

    kept : AreInOrder d × (port_in d.ports p.number ≡ Some p)
    kept =
        subst (λ (e : ControlState). AreInOrder e.tables × (port_in e.tables.ports p.number ≡ Some p)) (sym is.back.left)
        (getting_back_keeps_order c.tables p.number p d.pools order.order there is.back.back)

    lends : MayLend d (on_lane y is.made.lane) l.slot
    lends = record {
      there = kept.1;
      within = is.made.within;
      free = is.made.free;
      lane = λ role. lane_within d y is.made.lane is.made.chosen role;
    }

    abbrev v : HubTables
    v = with_loaned d (on_lane y is.made.lane) false a.elements l.slot

    new_is : new.tables ≡ v
    new_is =
        ap (λ (e : ControlState). e.tables) is.made.left
        ∙ ap (λ (b : Bool). with_loaned d (on_lane y is.made.lane) b a.elements l.slot) filled

    handle_is : loaned_handle d y false l.slot ≡ handle_of_loan p l
    handle_is = λ i. record {
      node = p.node;
      number = sym is.made.number i;
      kind = ap (λ (r : Role). kind_of_loan r false) client.client i;
      port = p.number;
      pool = sym is.made.pool i;
      slot = l.slot;
      client = p.number;
      connections = 0;
    }

    -- the same, by what is known about it
    abbrev pub h : HandleState
    h = lent_handle node n l

    told_is : handle_of_loan p l ≡ h
    told_is = λ i. record {
      node = client.on_node i;
      number = l.number;
      kind = RequestMut;
      port = number i;
      pool = l.pool;
      slot = l.slot;
      client = number i;
      connections = 0;
    }

    named_so : IsHandle new.tables node l.number h
    named_so =
        subst (λ (t : HubTables). IsHandle t node l.number h) (sym new_is)
        (subst (λ (k : HandleState). IsHandle v node l.number k) (handle_is ∙ told_is)
        (subst (λ (k : ℕ). IsHandle v k l.number (loaned_handle d y false l.slot)) client.on_node
        (subst (λ (k : ℕ). IsHandle v p.node k (loaned_handle d y false l.slot)) (sym is.made.number)
        (named d kept.0 (on_lane y is.made.lane) a.elements l.slot lends d.ports refl v.pools refl))))

    calls_so : new.tables.calls ≤ 2 ^ 56
    calls_so =
        let same : new.tables.calls ≡ d.calls + 1 = ap (λ (t : HubTables). t.calls) new_is in
        let before : d.calls ≡ c.tables.calls = ap (λ (e : ControlState). e.tables.calls) is.back.left in
        omega (arith, same, before, few)

    -- ---- lanes

    lanes_are : lane_on new.tables.ports ≡ lane_on (with_lanes_on emptied_lane c.tables.ports ws)
    lanes_are =
        ap (λ (t : HubTables). lane_on t.ports) new_is ∙ lanes_same d.ports p.number
        ∙ ap (λ (e : ControlState). lane_on e.tables.ports) is.back.left

    ways_are : request_ways n new.tables.ports ≡ request_ways n c.tables.ports
    ways_are =
        ap (λ (t : HubTables). request_ways n t.ports) new_is
        ∙ ap (map (request_way n)) (roles_same d.ports p.number Server)
        ∙ ap (λ (e : ControlState). request_ways n e.tables.ports) is.back.left
        ∙ same_ways_then n c.tables.ports ws

    its_ways : ws ≡ request_ways n c.tables.ports
    its_ways = ap (λ (r : Role). ways_by r c.tables p.number) client.client ∙ ap (λ k. request_ways k c.tables.ports) number

    opens : OnEach (IsOpenToNew at_first new.tables l.pool l.slot) (lane_on (with_lanes_on emptied_lane c.tables.ports ws)) (request_ways n c.tables.ports)
    opens =
        subst (λ (on : OnWays LaneState). OnEach (IsOpenToNew at_first new.tables l.pool l.slot) on (request_ways n c.tables.ports)) lanes_are
        (subst (λ (us : List Way). OnEach (IsOpenToNew at_first new.tables l.pool l.slot) (lane_on new.tables.ports) us) ways_are
        (ways_open new.tables node l.number h ordered.order named_so refl))

    before : OnEach (λ w m. ⊤) (lane_on c.tables.ports) (request_ways n c.tables.ports)
    before = each_before (IsOpenToNew at_first new.tables l.pool l.slot) c.tables.ports ws (request_ways n c.tables.ports) opens

    -- nothing is left to get back
    returned_so : OnEach (λ w m. m.returned ≡ []) (lane_on new.tables.ports) (request_ways n new.tables.ports)
    returned_so =
        subst (λ (on : OnWays LaneState). OnEach (λ w m. m.returned ≡ []) on (request_ways n new.tables.ports)) (sym lanes_are)
        (subst (λ (us : List Way). OnEach (λ w m. m.returned ≡ []) (lane_on (with_lanes_on emptied_lane c.tables.ports ws)) us) (sym ways_are)
        (each_after (λ w m. ⊤) c.tables.ports ws (request_ways n c.tables.ports) (λ w has. subst (λ (us : List Way). has_way w us ≡ true) (sym its_ways) has) before))

    -- so it may be sent
    pub may_be_sent : MayBeSent new h
    may_be_sent = record { order = ordered; calls = calls_so; named = named_so; filled = refl; returned = returned_so }

    -- no more waited than may
    pub waits_so : OnEach (λ w m. IsSound m) (lane_on new.tables.ports) (request_ways n new.tables.ports)
        → OnEach (λ w m. length m.waiting ≤ m.buffer) (lane_on c.tables.ports) (request_ways n c.tables.ports)
    waits_so sound =
        each_waits (λ w m. ⊤) c.tables.ports ws (request_ways n c.tables.ports) before
        (subst (λ (on : OnWays LaneState). OnEach (λ w m. IsSound m) on (request_ways n c.tables.ports)) lanes_are
        (subst (λ (us : List Way). OnEach (λ w m. IsSound m) (lane_on new.tables.ports) us) ways_are sound))

    -- what is left once it is sent
    pub sent_so : (overflow : Bool) (servers : ℕ) (last : ControlState) → IsSent new h overflow servers last
        → (q : PortState) → port_in c.tables.ports n ≡ Some q → IsLentAndSent c q a overflow l servers last
    sent_so overflow servers last sent q at =
        subst (λ r. IsLentAndSent c r a overflow l servers last) (same_Some p q (sym client.there ∙ at))
        (record {
          loaned = new;
          lent = is;
          count = sent.count ∙ ap (λ (k : HandleState). length (ways_of new.tables k overflow)) (sym told_is);
          left =
              sent.left
              ∙ ap (λ (k : HandleState). with_tables new (record (with_request_sent new.tables k overflow) { pools = last.tables.pools })) (sym told_is);
          delivered =
              subst (λ (k : HandleState). HasDelivered overflow l.slot (lane_on new.tables.ports) (ways_of new.tables k overflow) new.tables.pools last.tables.pools)
              (sym told_is) sent.delivered;
        })
