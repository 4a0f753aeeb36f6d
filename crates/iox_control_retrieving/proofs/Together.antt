-- What is got back on some ways and then on others is got back on all of them.
use Rattle.std.specs.Prelude.{◌≡◌, ℕ, ◌+◌, Bool, true, false, ◌||◌, List, [], ◌∷◌, ◌++◌, refl}
use Rattle.std.proofs.Common.{sym, ap, ◌∙◌, arith, true≢false}
use Rattle.iox_model.specs.declared.way.Way.{Way}
use Rattle.iox_model.specs.Maps.{AreDistinctWays, has_way, same_way}
use Rattle.iox_lanes.specs.Lanes.{LaneState}
use Rattle.iox_tables.specs.HubStates.Tables.{PortState}
use Rattle.iox_tables.specs.HubStates.Ways.{lane_on, with_lane_on, with_lanes_on}
use Rattle.iox_tables.specs.HubStates.Changes.{emptied_lane, with_lanes}
use Rattle.iox_tables.specs.HubStates.Shown.{by_lane}
use Rattle.iox_tables.proofs.HubStates.Keys.{lane_turned}
use Rattle.iox_tables.proofs.HubStates.Lists.{any-append}
use Rattle.iox_tables.specs.HubBooks.Counts.{total}
use Rattle.iox_tables.proofs.HubBooks.LaneLists.{elsewhere}
use Rattle.iox_tables.proofs.HubBooks.Totals.{total-append}
use Rattle.iox_tables.specs.HubLending.Emptying.{returned_count, returned_on}
use Rattle.iox_control.specs.Controls.{ControlState, IsControl, with_tables}
use Rattle.iox_control_retrieving.specs.Retrieving.{GetsBack}
use Rattle.iox_control_retrieving.proofs.Emptied.{emptied_both}

-- ---- no way

pub gets_nothing : (c : ControlState) → IsControl c → GetsBack c [] c
gets_nothing c order = record {
  left = refl;
  fewer = record { same = refl; holders = λ pool k. omega arith };
  order = order;
}

-- ---- one after another

-- lanes of other ways count the same
others_count : (f : LaneState → ℕ) (ports : List PortState) (ws vs : List Way) → AreDistinctWays (ws ++ vs)
    → total (by_lane f 0 (lane_on (with_lanes_on emptied_lane ports ws))) vs ≡ total (by_lane f 0 (lane_on ports)) vs
others_count f ports [] vs apart = refl
others_count f ports (w ∷ ws) vs apart =
    others_count f (with_lane_on emptied_lane ports w) ws vs apart.1
    ∙ ap (λ on. total (by_lane f 0 on) vs) (lane_turned emptied_lane ports w)
    ∙ elsewhere f emptied_lane (lane_on ports) w vs (right (has_way w ws) (has_way w vs) (sym (any-append (same_way w) ws vs) ∙ apart.0))
  where
    right : (a b : Bool) → (a || b) ≡ false → b ≡ false
    right true b e = absurd (true≢false e)
    right false b e = e

pub gets_both : (a b c : ControlState) (ws vs : List Way) → AreDistinctWays (ws ++ vs) → GetsBack a ws b → GetsBack b vs c → GetsBack a (ws ++ vs) c
gets_both a b c ws vs apart first second = record {
  left =
      second.left
      ∙ ap (λ (d : ControlState). with_tables d (record (with_lanes emptied_lane d.tables vs) { pools = c.tables.pools })) first.left
      ∙ ap (λ ps. with_tables a (record (a.tables) { ports = ps; pools = c.tables.pools })) (sym (emptied_both a.tables.ports ws vs));
  fewer = record {
    same = first.fewer.same ∙ second.fewer.same;
    holders = λ pool k.
        let one = first.fewer.holders pool k in
        let two = second.fewer.holders pool k in
        let all : returned_on a.tables (ws ++ vs) pool k ≡ returned_on a.tables ws pool k + returned_on a.tables vs pool k
        = total-append (by_lane (returned_count pool k) 0 (lane_on a.tables.ports)) ws vs in
        let same : returned_on b.tables vs pool k ≡ returned_on a.tables vs pool k
        = ap (λ (d : ControlState). returned_on d.tables vs pool k) first.left ∙ others_count (returned_count pool k) a.tables.ports ws vs apart in
        omega (arith, one, two, all, same);
  };
  order = second.order;
}
