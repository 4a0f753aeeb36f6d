-- As a port goes that is not there, the tables stay; and where nothing is kept, all senders are there.
use Rattle.std.specs.Prelude.{◌≡◌, ℕ, ◌+◌, Bool, true, false, not, if◌then◌else◌, ◌==◌, List, [], ◌∷◌, ◌++◌, map, filter, Option, Some, None, is_some, slice_get, refl}
use Rattle.std.proofs.Common.{sym, ap, ap₂, ◌∙◌, arith, true≢false}
use Rattle.std.specs.Option.{option_map_or}
use Rattle.std.proofs.lemmas.Bool.{or_parts}
use Rattle.std.proofs.lemmas.Option.{none-some}
use Rattle.iox_model.specs.declared.way.Way.{Way}
use Rattle.iox_laws.proofs.WeaveLedger.Lists.{number-among}
use Rattle.iox_lanes.specs.Lanes.{LaneState}
use Rattle.iox_model.specs.Maps.{has_number}
use Rattle.iox_model.specs.Settings.{other_role}
use Rattle.iox_lanes.specs.Pipes.{PipeState}
use Rattle.iox_tables.specs.HubStates.Tables.{HubTables, PortState, numbers_of, pipe_from, pipes_of, port_in, senders_of}
use Rattle.iox_tables.specs.HubStates.Ways.{lane_on, lanes_from}
use Rattle.iox_tables.specs.HubStates.Steps.{is_there}
use Rattle.iox_tables.specs.HubStates.Wirings.{numbers_of_role}
use Rattle.iox_tables.proofs.HubBooks.Sendable.{of_role}
use Rattle.iox_tables.specs.HubKeeping.Connected.{KeepsNone}
use Rattle.iox_tables.specs.HubBooks.Counts.{OfAll, lane_count, on_lanes}
use Rattle.iox_tables.specs.HubBooks.Hubs.{AreInOrder}
use Rattle.iox_tables.specs.HubMaking.Disconnections.{cut_from, ports_without, with_disconnected}
use Rattle.iox_tables.specs.HubMaking.Expirings.{with_expired}
use Rattle.iox_tables.specs.HubKeeping.Keeps.{lost_uses}
use Rattle.iox_tables.proofs.HubMaking.Connecting.{there_is}
use Rattle.iox_tables.proofs.HubMaking.Firsts.{has_first}
use Rattle.iox_tables.proofs.HubMaking.Making.{among_role}
use Rattle.iox_tables.proofs.HubMaking.Removing.{all_stay}
use Rattle.iox_tables.proofs.HubMaking.Summing.{gone_lanes_count}
use Rattle.iox_tables.proofs.HubKeeping.Ordered.{all_found, lanes_sum, nothing_is_kept, senders_apart}

module _ (n : ℕ) where
  -- a port to which nothing comes from it
  uncut : (p : PortState) → has_number n (senders_of p.incoming.pipes) ≡ false → cut_from n p ≡ p
  uncut p off =
      ap₂ (λ c (qs : List PipeState). record p { expired = c; incoming = record (p.incoming) { pipes = qs } })
      (ap (with_expired p.expired) (there_is (pipe_from p.incoming.pipes n) (sym (has_first (λ q. q.sender) p.incoming.pipes n) ∙ off)))
      (sym (all_stay (λ q. q.sender) n p.incoming.pipes off))

  all_uncut : (ports : List PortState) → has_number n (numbers_of ports) ≡ false → OfAll (λ p. has_number n (senders_of p.incoming.pipes) ≡ false) ports
      → ports_without n ports ≡ ports
  all_uncut [] off none = refl
  all_uncut (p ∷ ps) off none =
      let parts = or_parts (p.number == n) (has_number n (numbers_of ps)) off in
      ap (λ (b : Bool). map (cut_from n) (if not b then p ∷ filter (λ q. not (q.number == n)) ps else filter (λ q. not (q.number == n)) ps)) parts.0
      ∙ ap₂ (λ q qs. q ∷ qs) (uncut p none.0) (all_uncut ps parts.1 none.1)

module _ (t : HubTables) (order : AreInOrder t) (n : ℕ) (none : port_in t.ports n ≡ None) where
  off : has_number n (numbers_of t.ports) ≡ false
  off = has_first (λ (p : PortState). p.number) t.ports n ∙ ap (λ (o : Option PortState). is_some o) none

  ports_stay : ports_without n t.ports ≡ t.ports
  ports_stay =
      all_uncut n t.ports off
      (all_found t order (λ p. has_number n (senders_of p.incoming.pipes) ≡ false)
      (λ k p at. ap (has_number n) (order.wired.each k p at).senders ∙ among_role (other_role p.role) t.ports n off))

  pub tables_stay : t ≡ with_disconnected t n
  tables_stay = ap (λ ps. record t { ports = ps }) (sym ports_stay)

  pub nothing_is_lost : (pool k : ℕ) → lost_uses t n pool k ≡ 0
  nothing_is_lost pool k =
      let old = lanes_sum (lane_count pool k) t.ports in
      let new = lanes_sum (lane_count pool k) (ports_without n t.ports) in
      let same : on_lanes (lane_count pool k) (ports_without n t.ports) ≡ on_lanes (lane_count pool k) t.ports = ap (on_lanes (lane_count pool k)) ports_stay in
      let all = gone_lanes_count (lane_count pool k) n t.ports (senders_apart t order) in omega (arith, old, new, same, all)

-- ---- nothing is kept

-- where nothing is kept, who sends on a lane is connected
pub sender_there : (t : HubTables) → AreInOrder t → KeepsNone t.settings → (w : Way) (l : LaneState) → lane_on t.ports w ≡ Some l → is_there t.ports w.sender ≡ true
sender_there t order keeps w l at = at_port (port_in t.ports w.receiver) refl at
  where
    at_pipe : (p : PortState) → port_in t.ports w.receiver ≡ Some p → (o : Option PipeState) → pipe_from (pipes_of p) w.sender ≡ o
        → slice_get (option_map_or (λ (q : PipeState). q.lanes) o []) w.lane ≡ Some l → is_there t.ports w.sender ≡ true
    at_pipe p port None pipe is = absurd (none-some l is)
    at_pipe p port (Some q) pipe is =
        let has : has_number w.sender (senders_of (pipes_of p)) ≡ true = has_first (λ (x : PipeState). x.sender) (pipes_of p) w.sender ∙ ap (λ (o : Option PipeState). is_some o) pipe in
        let named : has_number w.sender (numbers_of_role (other_role p.role) t.ports) ≡ true
        = sym (ap (has_number w.sender) (ap (λ es. senders_of (es ++ p.incoming.pipes)) (nothing_is_kept t w.receiver p order keeps port) ∙ (order.wired.each w.receiver p port).senders)) ∙ has in
        let s = of_role t order (other_role p.role) w.sender (number-among w.sender _ named) in ap (λ (o : Option PortState). is_some o) s.1

    at_port : (o : Option PortState) → port_in t.ports w.receiver ≡ o → slice_get (lanes_from (option_map_or pipes_of o []) w.sender) w.lane ≡ Some l → is_there t.ports w.sender ≡ true
    at_port None port is = absurd (none-some l is)
    at_port (Some p) port is = at_pipe p port (pipe_from (pipes_of p) w.sender) refl is
