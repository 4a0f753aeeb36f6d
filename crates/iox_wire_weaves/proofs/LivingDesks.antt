-- What the desk of a living node's port counts is what the machine keeps and has outstanding.
use Rattle.std.specs.Prelude.{is_some, length, map, ◌-◌, ◌&&◌, ◌||◌, suc}
use Rattle.std.specs.List.{range_with_len}
use Rattle.std.specs.Option.{option_map_or}
use Rattle.std.proofs.Common.{◌≡◌, ℕ, ◌+◌, ◌≤◌, Bool, true, false, if◌then◌else◌, ◌==◌, List, [], ◌∷◌, Option, None, Some, refl, ap, sym, subst, ◌∙◌, arith, eqb-true, eq-eqb}
use Rattle.iox_model.specs.declared.way.Way.{Way}
use Rattle.iox_model.specs.Joins.{not_living}
use Rattle.iox_model.specs.Keeping.{kept_in}
use Rattle.iox_model.specs.Maps.{has_number, has_way, same_way}
use Rattle.iox_model.specs.Outstandings.{outstanding_on}
use Rattle.iox_model.specs.Peers.{is_connected_port, ways_from}
use Rattle.iox_model.specs.States.{Port, State}
use Rattle.iox_laws.proofs.WeaveLaws.MapLemmas.{same_way-flip, same_way-refl, same_way-true}
use Rattle.iox_laws.proofs.WeaveLedger.Lists.{IsAmong, NoRepeats, among-any, among-filter, among-map, among-number, any-among, distinct-no_repeats, filter-among, map-among, no_repeats-filter, number-among}
use Rattle.iox_laws.proofs.WeaveLedger.Ranges.{no-longer, range-apart, up-to}
use Rattle.iox_wire_moments.specs.MomentsOf.{Pools, serial_in}
use Rattle.iox_wire_locals.specs.declared.seat.Seat.{Seat}
use Rattle.iox_wire_locals.specs.declared.local.Local.{Local}
use Rattle.iox_wire_locals.specs.declared.local.Local.TheVariants.{ReleaseExchanges, ReleaseLooks}
use Rattle.iox_wire_locals.specs.declared.table.Desk.{Desk}
use Rattle.iox_wire_locals.specs.declared.table.Recorded.{Recorded}
use Rattle.iox_wire_locals.specs.BeginLaws.{Counts}
use Rattle.iox_wire_locals.specs.Known.{free_slots}
use Rattle.iox_wire_locals.specs.Tables.{Setting}
use Rattle.iox_wire_laws.specs.WireHolding.Aside.{shown_at}
use Rattle.iox_wire_laws.specs.WireHolding.SlotsKnown.{IsPortOfSeat}
use Rattle.iox_wire_laws.specs.WireKeeping.PoolSlots.{used_serial}
use Rattle.iox_wire_laws.specs.WireKeeping.Records.{record_of, recorded_of, serials_on, slots_on}
use Rattle.iox_wire_laws.specs.WireKeeping.UsedSlots.{PortFits, slots_used}
use Rattle.iox_wire_laws.proofs.WireSlots.Counting.{free_and_kept_are_the_pool}
use Rattle.iox_wire_pools.specs.Uses.{UsesAreCounted}
use Rattle.iox_wire_pools.proofs.FoundUses.{on_way}
use Rattle.iox_wire_seats.specs.Counted.{desk_of, kept_at, outstanding_at}
use Rattle.iox_wire_needs.specs.Nodes.{NodeStands}
use Rattle.iox_wire_needs.specs.Runs.{Run}
use Rattle.iox_wire_needs.specs.Stands.{Player, seats_of}
use Rattle.iox_wire_needs.specs.WireStands.{WireStands}
use Rattle.iox_wire_weaves.specs.PortCounts.{TellsCounts, kept_count, outstanding_count, sends_on}
use Rattle.iox_wire_weaves.proofs.KeptSlots.{pools_fit_what_is_kept}

-- ---- lists

as_long : (xs ys : List ℕ) → NoRepeats xs → NoRepeats ys → ((k : ℕ) → IsAmong k xs → IsAmong k ys) → ((k : ℕ) → IsAmong k ys → IsAmong k xs)
    → length xs ≡ length ys
as_long xs ys once once' there back =
    let a : length xs ≤ length ys = no-longer xs ys once there in
    let b : length ys ≤ length xs = no-longer ys xs once' back in omega arith

length_map : {A : Type 0} (f : A → ℕ) (xs : List A) → length (map f xs) ≡ length xs
length_map f [] = refl
length_map f (x ∷ xs) = ap suc (length_map f xs)

-- a way that has a record is one of those of the records
way_listed : (w : Way) (rs : List Recorded) → has_way w (map (λ (i : Recorded). i.way) rs) ≡ is_some (record_of w rs)
way_listed w [] = refl
way_listed w (i ∷ rs) = by_case (same_way w i.way) refl (way_listed w rs)
  where
    by_case : (b : Bool) → same_way w i.way ≡ b → has_way w (map (λ (k : Recorded). k.way) rs) ≡ is_some (record_of w rs)
        → (b || has_way w (map (λ (k : Recorded). k.way) rs)) ≡ is_some (if same_way i.way w then Some i else record_of w rs)
    by_case true is rest = sym (ap (λ t. is_some (if t then Some i else record_of w rs)) (ap (λ v. same_way v w) (sym (same_way-true w i.way is)) ∙ same_way-refl w))
    by_case false is rest = rest ∙ sym (ap (λ t. is_some (if t then Some i else record_of w rs)) (same_way-flip i.way w (same_way i.way w) is refl))

-- ---- a node as it is shown

desks_alike : (p : Setting) (x : Seat) (l : Local) → (shown_at p x l).desks ≡ x.desks
desks_alike p x (ReleaseLooks e) = refl
desks_alike p x (ReleaseExchanges e old) = refl
desks_alike p x l = refl

module _ (p : Setting) (words : List ℕ) (players : ℕ → Player) (r : Run) (n : ℕ) (wire : WireStands p words players r) (living : not_living r.last.state n ≡ None) where
  abbrev y : Seat
  y = seats_of p players n

  abbrev s : State
  s = r.last.state

  abbrev held : Pools
  held = wire.stands.held

  node_is : y.node ≡ n
  node_is = wire.stands.shows.node n

  stands : NodeStands p held s y
  stands = wire.stands.nodes n living

  counts : Counts p y s held
  counts = wire.stands.shows.counts n living

  same_desks : y.desks ≡ (players n).seat.desks
  same_desks = desks_alike p (players n).seat (players n).seat.local

  -- ---- ports

  connected : (port : ℕ) → has_number port p.layout.sizes.ports ≡ true → is_connected_port s.fixed port ≡ true
  connected port has =
      among-any (λ (q : Port). q.number == port) (p.port port) s.fixed.ports
      (subst (IsAmong (p.port port)) (sym counts.knows.ports) (among-map p.port port p.layout.sizes.ports (number-among port p.layout.sizes.ports has)))
      (eq-eqb (p.port port).number port (wire.stands.numbers port has))

  -- ---- a port of the node

  module _ (port : ℕ) (has : has_number port p.layout.sizes.ports ≡ true) (mine : p.layout.owner port ≡ n) where
    home : IsPortOfSeat p y port
    home = (has, mine ∙ sym node_is)

    fits : PortFits held s y port
    fits = stands.slots.ports port home

    pub used : UsesAreCounted y port (p.port port).pool
    used = stands.uses port home

    pub there : desk_of port (players n).seat.desks ≡ Some used.desk
    there = ap (desk_of port) (sym same_desks) ∙ used.there

    free_is : free_slots y port ≡ used.desk.free
    free_is = ap (λ (o : Option Desk). option_map_or (λ d. d.free) o []) used.there

    together : length (free_slots y port) + length (kept_in r.last port) ≡ (p.port port).pool
    together =
        free_and_kept_are_the_pool (p.port port).pool (used_serial held y port) (free_slots y port) (kept_in r.last port)
        (pools_fit_what_is_kept p words players r n port wire living home)

    pub kept_is : kept_at used.desk ≡ length (kept_in r.last port)
    kept_is = rest (length used.desk.uses) (length used.desk.free) (length (kept_in r.last port)) (ap length (sym free_is)) together used.counts.words
      where
        rest : (uses free kept : ℕ) {known all : ℕ} → free ≡ known → known + kept ≡ all → uses ≡ all → uses - free ≡ kept
        rest uses free kept {known} {all} a b c = omega arith

    -- ---- what is outstanding

    recorded_is : recorded_of y port ≡ used.desk.recorded
    recorded_is = ap (λ (o : Option Desk). option_map_or (λ d. d.recorded) o []) used.there

    module _ (w : Way) (from : w.sender ≡ port) where
      slots_are : length (slots_on y w) ≡ outstanding_at w used.desk
      slots_are =
          ap (λ k. length (option_map_or (λ (i : Recorded). i.slots) (record_of w (recorded_of y k)) [])) from
          ∙ ap (λ rs. length (option_map_or (λ (i : Recorded). i.slots) (record_of w rs) [])) recorded_is
          ∙ by_record (record_of w used.desk.recorded)
        where
          by_record : (o : Option Recorded) → length (option_map_or (λ (i : Recorded). i.slots) o []) ≡ option_map_or (λ (i : Recorded). length i.slots) o 0
          by_record None = refl
          by_record (Some i) = refl

      module _ (some : is_some (record_of w (recorded_of y w.sender)) ≡ true) where
        listed_out : (k : ℕ) → IsAmong k (outstanding_on s w) → IsAmong k (serials_on held y w)
        listed_out k among =
            let passes = filter-among (s.delivered w) k (range_with_len 0 (s.fixed.loans w.sender + 1)) among in
            number-among k (serials_on held y w) (sym (fits.records.told w k some) ∙ passes.1)

        out_listed : (k : ℕ) → IsAmong k (serials_on held y w) → IsAmong k (outstanding_on s w)
        out_listed k among =
            let at = map-among (serial_in held w) k (slots_on y w) among in
            let few : (held port at.0).serial ≤ s.fixed.loans port
            = fits.counted at.0 (subst (λ q. has_number at.0 (slots_used y q) ≡ true) from (among-number at.0 (slots_used y w.sender) (on_way y w at.0 at.1))) in
            among-filter (s.delivered w) k (range_with_len 0 (s.fixed.loans w.sender + 1))
            (up-to (s.fixed.loans w.sender) k
            (subst (λ q. k ≤ s.fixed.loans q) (sym from) (below k (held port at.0).serial (s.fixed.loans port) (at.2 ∙ ap (λ q. (held q at.0).serial) from) few)))
            (fits.records.told w k some ∙ among-number k (serials_on held y w) among)
          where
            below : (k a b : ℕ) → k ≡ a → a ≤ b → k ≤ b
            below k a b is few = omega arith

        counted_out : length (outstanding_on s w) ≡ outstanding_at w used.desk
        counted_out =
            as_long (outstanding_on s w) (serials_on held y w)
            (no_repeats-filter (s.delivered w) (range_with_len 0 (s.fixed.loans w.sender + 1)) (range-apart 0 (s.fixed.loans w.sender + 1)))
            (distinct-no_repeats (serials_on held y w) (fits.records.once w some)) listed_out out_listed
            ∙ length_map (serial_in held w) (slots_on y w) ∙ slots_are

      -- there is a record of each way on which the port sends, and of no other
      recorded : has_way w (ways_from s.fixed port) ≡ is_some (record_of w (recorded_of y w.sender))
      recorded =
          ap (has_way w) (sym fits.ways) ∙ way_listed w (recorded_of y port)
          ∙ ap (λ q. is_some (record_of w (recorded_of y q))) (sym from)

      pub outstanding_is : outstanding_at w used.desk ≡ (if has_way w (ways_from s.fixed port) then length (outstanding_on s w) else 0)
      outstanding_is = by_record (record_of w (recorded_of y w.sender)) refl
        where
          by_record : (o : Option Recorded) → record_of w (recorded_of y w.sender) ≡ o
              → outstanding_at w used.desk ≡ (if has_way w (ways_from s.fixed port) then length (outstanding_on s w) else 0)
          by_record None is =
              sym slots_are ∙ ap (λ o. length (option_map_or (λ (i : Recorded). i.slots) o [])) is
              ∙ sym (ap (λ b. if b then length (outstanding_on s w) else 0) (recorded ∙ ap is_some is))
          by_record (Some i) is =
              sym (counted_out (ap is_some is)) ∙ sym (ap (λ b. if b then length (outstanding_on s w) else 0) (recorded ∙ ap is_some is))

    -- ---- what the machine counts

    counts_on : (w : Way) → w.sender ≡ port → outstanding_count s w ≡ (if has_way w (ways_from s.fixed port) then length (outstanding_on s w) else 0)
    counts_on w from =
        ap (λ q. if sends_on s q w then length (outstanding_on s w) else 0) from
        ∙ ap (λ b. if b && has_way w (ways_from s.fixed port) then length (outstanding_on s w) else 0) (connected port has)

    pub tells : TellsCounts r.last port (players n).seat
    tells = record {
      desk = used.desk;
      there = there;
      kept = kept_is ∙ sym (ap (λ b. if b then length (kept_in r.last port) else 0) (connected port has));
      outstanding = λ w from. outstanding_is w from ∙ sym (counts_on w from);
    }
