-- The making of a port keeps the tables of a hub in order.
use Rattle.std.specs.Prelude.{◌≡◌, ◌⊎◌, ◌<◌, Bool, true, false, ◌&&◌, ◌||◌, if◌then◌else◌, ◌==◌, List, Option, Some, refl}
use Rattle.std.proofs.Common.{sym, ap, ap₂, subst, ◌∙◌, arith, inl, inr, true≢false, eqb-true}
use Rattle.iox_model.specs.Expiries.{is_end}
use Rattle.iox_model.specs.Handles.{is_received}
use Rattle.iox_model.specs.Maps.{same_way}
use Rattle.iox_laws.proofs.WeaveLaws.MapLemmas.{same_way-true}
use Rattle.iox_lanes.specs.Lanes.{LaneState}
use Rattle.iox_tables.specs.HubStates.Tables.{HandleState, HubTables, PoolState, PortState, SlotState, owner_of, slot_at}
use Rattle.iox_tables.specs.HubStates.Ways.{lane_on}
use Rattle.iox_tables.specs.HubStates.Ends.{OfEachHandle}
use Rattle.iox_tables.specs.HubBooks.Counts.{how_many, how_often, is_at}
use Rattle.iox_tables.specs.HubBooks.Handles.{IsAlone, IsFromLane, IsOfPoolOrGone, IsOfPort, LoansAreAlone, TakenHaveHandles, is_from, way_in}
use Rattle.iox_tables.specs.HubBooks.Hubs.{AreInOrder, IsUsed}
use Rattle.iox_tables.proofs.HubBooks.Going.{each_both}
use Rattle.iox_tables.proofs.HubBooks.Held.{each_handle_from}
use Rattle.iox_tables.specs.HubMaking.FreePools.{IsPut}
use Rattle.iox_tables.specs.HubMaking.NewPorts.{connected_to, pool_made, with_port_made}
use Rattle.iox_tables.specs.HubMaking.Wires.{IsNewLane}
use Rattle.iox_tables.specs.HubKeeping.Keeps.{MakingsKeepOrder, MayBeMade}
use Rattle.iox_tables.proofs.HubKeeping.NewNumbers.{numbers as new_numbers}
use Rattle.iox_tables.proofs.HubKeeping.NewPorts as new_ports
use Rattle.iox_tables.proofs.HubKeeping.Ordered.{each_used, one_from, owner_low, total_each, total_none, way_receiver, way_same, way_sender}

and_false : (b : Bool) → (b && false) ≡ false
and_false true = refl
and_false false = refl

module _ (t : HubTables) (new : PortState) (pools : List (Option PoolState)) (order : AreInOrder t) (may : MayBeMade t new)
    (put : IsPut t.pools new.pool (pool_made new) pools)
  where
    abbrev u : HubTables
    u = with_port_made t new pools

    -- what is so of each handle
    abbrev Known : HandleState → Type 0
    Known h = IsOfPort t h × IsUsed t h.pool h.slot

    known : OfEachHandle Known t.handles
    known = each_both (IsOfPort t) (λ h. IsUsed t h.pool h.slot) t.handles order.ports (each_used t order)

    slot_stays : (h : HandleState) → IsUsed t h.pool h.slot → slot_at t.pools h.pool h.slot ≡ slot_at pools h.pool h.slot
    slot_stays h used = new_ports.slot_else t new pools order may put h.pool h.slot (new_ports.else_if_used t new pools order may put h.pool h.slot used)

    owner_stays : (h : HandleState) → IsUsed t h.pool h.slot → owner_of t.pools h.pool ≡ owner_of pools h.pool
    owner_stays h used = new_ports.owner_else t new pools order may put h.pool (new_ports.else_if_used t new pools order may put h.pool h.slot used)

    way_stays : (h : HandleState) → IsUsed t h.pool h.slot → way_in t.pools h ≡ way_in pools h
    way_stays h used = way_same t.pools pools h (ap (λ (s : SlotState). s.lane) (slot_stays h used)) (owner_stays h used)

    -- no message of a handle came from the new port, or to it
    sender_off : (h : HandleState) → Known h → ((way_in t.pools h).sender == new.number) ≡ false
    sender_off h is = step ((way_in t.pools h).sender == new.number) refl
      where
        step : (b : Bool) → ((way_in t.pools h).sender == new.number) ≡ b → b ≡ false
        step false e = refl
        step true e =
            let low = owner_low t order h.pool h.slot is.1 in
            let sender = way_sender t h is.0 in
            let same = eqb-true (way_in t.pools h).sender new.number e in
            let number = may.number in absurd (omega (arith, low, sender, same, number))

    way_off : (h : HandleState) → Known h → is_end new.number (way_in t.pools h) ≡ false
    way_off h is =
        ap₂ (λ (a b : Bool). a || b) (sender_off h is)
        (ap (λ k. k == new.number) (way_receiver t.pools h) ∙ new_ports.not_new t new pools order may put h.port is.0.port is.0.there)

    shows : {B : Type 0} (show : PortState → B) → ((p : PortState) (ps : List _) → show (record p { incoming = record (p.incoming) { pipes = ps } }) ≡ show p) → (p : PortState) → show (connected_to t.settings new p) ≡ show p
    shows show same p = new_ports.shows t new pools order may put show same p

    of_port : (h : HandleState) → Known h → IsOfPort u h
    of_port h is =
        let o = is.0 in
        record {
          port = connected_to t.settings new o.port;
          there = new_ports.old_port t new pools order may put h.port o.port o.there;
          on_node = o.on_node ∙ sym (shows (λ x. x.node) (λ x ps. refl) o.port);
          role = shows (λ x. x.role) (λ x ps. refl) o.port ∙ o.role;
          either = o.either;
          of_pool = λ own. o.of_pool own ∙ sym (shows (λ x. x.pool) (λ x ps. refl) o.port);
          lane = λ own client.
              subst (λ (s : SlotState). s.lane < (connected_to t.settings new o.port).size) (slot_stays h is.1)
              (subst (λ k. (slot_at t.pools h.pool h.slot).lane < k) (sym (shows (λ x. x.size) (λ x ps. refl) o.port)) (o.lane own (sym (shows (λ x. x.role) (λ x ps. refl) o.port) ∙ client)));
          client = λ e. o.client e ∙ owner_stays h is.1;
        }

    alone : LoansAreAlone u
    alone =
        each_handle_from (λ h. Known h × IsAlone t h) (IsAlone u) (λ h is loan. ap (λ (s : SlotState). s.holders) (sym (slot_stays h is.0.1)) ∙ is.1 loan) t.handles
        (each_both Known (IsAlone t) t.handles known order.alone)

    taken : TakenHaveHandles u
    taken w l k at = step (new_ports.lane_was t new pools order may put w l at)
      where
        none : is_end new.number w ≡ true → (h : HandleState) → Known h → one_from pools w l.pool k h ≡ 0
        none end h is =
            ap (λ (b : Bool). if is_received h.kind && (b && is_at l.pool k h) then 1 else 0) (off (same_way (way_in pools h) w) refl)
            ∙ ap (λ (b : Bool). if b then 1 else 0) (and_false (is_received h.kind))
          where
            off : (b : Bool) → same_way (way_in pools h) w ≡ b → b ≡ false
            off false e = refl
            off true e = absurd (true≢false (sym end ∙ ap (is_end new.number) (sym (same_way-true (way_in pools h) w e) ∙ sym (way_stays h is.1)) ∙ way_off h is))

        step : ((lane_on t.ports w ≡ Some l) × (is_end new.number w ≡ false)) ⊎ (IsNewLane u w l × (is_end new.number w ≡ true)) → how_often k l.taken ≡ how_many (is_from pools w l.pool k) t.handles
        step (inl q) =
            order.taken w l k q.0
            ∙ total_each (λ h. one_from t.pools w l.pool k h) (λ h. one_from pools w l.pool k h) t.handles
            (each_handle_from Known (λ h. one_from t.pools w l.pool k h ≡ one_from pools w l.pool k h)
            (λ h is. ap (λ x. if is_received h.kind && (same_way x w && is_at l.pool k h) then 1 else 0) (way_stays h is.1)) t.handles known)
        step (inr q) =
            ap (λ (x : LaneState). how_often k x.taken) q.0.lane
            ∙ sym (total_none (λ h. one_from pools w l.pool k h) t.handles
            (each_handle_from Known (λ h. one_from pools w l.pool k h ≡ 0) (λ h is. none q.1 h is) t.handles known))

    from_lane : (h : HandleState) → Known h × IsFromLane t h → IsFromLane u h
    from_lane h is received = subst (λ w. IsOfPoolOrGone u w h.pool) (way_stays h is.0.1) (step (is.1 received))
      where
        lane : lane_on u.ports (way_in t.pools h) ≡ lane_on t.ports (way_in t.pools h)
        lane = new_ports.lane_else t new pools order may put (way_in t.pools h) (way_off h is.0)

        step : IsOfPoolOrGone t (way_in t.pools h) h.pool → IsOfPoolOrGone u (way_in t.pools h) h.pool
        step (inl a) = inl (a.0, lane ∙ a.1, a.2)
        step (inr a) = inr (lane ∙ a.0, new_ports.there_else t new pools order may put (way_in t.pools h).sender (sender_off h is.0) ∙ a.1)

    pub in_order : AreInOrder u
    in_order = record {
      counted = new_ports.counted t new pools order may put;
      serials = new_ports.serials t new pools order may put;
      pools = new_ports.has_pools t new pools order may put;
      once = new_ports.once t new pools order may put;
      lanes = new_ports.lanes t new pools order may put;
      labels = new_ports.labels t new pools order may put;
      owners = new_ports.owners t new pools order may put;
      widths = new_ports.widths t new pools order may put;
      wired = new_ports.wired t new pools order may put;
      numbers = new_numbers t new pools order may put;
      ports = each_handle_from Known (IsOfPort u) of_port t.handles known;
      alone = alone;
      own = order.own;
      taken = taken;
      received = each_handle_from (λ h. Known h × IsFromLane t h) (IsFromLane u) from_lane t.handles (each_both Known (IsFromLane t) t.handles known order.received);
    }

pub makings_keep_order : MakingsKeepOrder
makings_keep_order t new pools order may put = in_order t new pools order may put
