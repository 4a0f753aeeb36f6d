-- What a loan's pick changes: one slot at one desk, which nothing else names.
use Rattle.std.specs.Prelude.{find, flat_map, map, nat_lt, not, option_map, ◌||◌, ◌++◌, ◌<◌, ◌≤◌}
use Rattle.std.specs.List.{list_all}
use Rattle.std.specs.Option.{option_map_or}
use Rattle.std.proofs.Common.{◌≡◌, ℕ, Bool, true, false, if◌then◌else◌, ◌==◌, ◌&&◌, List, [], ◌∷◌, Option, Some, None, refl, ap, sym, subst, ◌∙◌, arith, eq-eqb, eqb-true, true≢false}
use Rattle.iox_model.specs.declared.way.Way.{Way}
use Rattle.iox_model.specs.Maps.{has_number, same_way, AreDistinctWays, AreDistinct}
use Rattle.iox_model.specs.Messages.{Message, request_way}
use Rattle.iox_model.specs.Moments.{SeesNoneBack}
use Rattle.iox_model.specs.States.{State}
use Rattle.iox_laws.proofs.WeaveLaws.MapLemmas.{eqb-refl}
use Rattle.iox_laws.proofs.WeaveLedger.Lists.{IsAmong, among-back, among-number, find-among, number-among}
use Rattle.iox_laws.proofs.WeaveLedger.Truths.{false_if, or-left}
use Rattle.iox_wire_moments.specs.MomentsOf.{Pools}
use Rattle.iox_wire_locals.specs.declared.seat.Seat.{Seat}
use Rattle.iox_wire_locals.specs.declared.table.Desk.{Desk}
use Rattle.iox_wire_locals.specs.declared.table.NewLoan.{NewLoan}
use Rattle.iox_wire_locals.specs.declared.table.Recorded.{Recorded}
use Rattle.iox_wire_locals.specs.Courses.{takes_slot}
use Rattle.iox_wire_locals.specs.Desks.{on_desk, picks}
use Rattle.iox_wire_locals.specs.Known.{free_slots}
use Rattle.iox_wire_locals.specs.NewLoans.{message_in}
use Rattle.iox_wire_locals.specs.Tables.{Setting}
use Rattle.iox_wire_laws.specs.WireKeeping.PoolSlots.{PoolFits}
use Rattle.iox_wire_laws.specs.WireKeeping.Records.{RecordsFit, record_of, recorded_of, serials_on, slots_on}
use Rattle.iox_wire_laws.specs.WireKeeping.UsedSlots.{PortFits, slots_held, slots_in_call, slots_used}
use Rattle.iox_wire_laws.proofs.WireKeeping.PicksFitted.{picks_fit}
use Rattle.iox_wire_laws.proofs.WireKeeping.RecordsKept.{found, others_leave_records, picks_same}
use Rattle.iox_wire_laws.proofs.WireRegions.OwnPorts.{both}
use Rattle.iox_wire_laws.specs.WireHolding.Holding.{held_with}
use Rattle.iox_wire_laws.specs.WireHolding.PickedSlots.{IsNextLoan, PicksAreKnown}
use Rattle.iox_wire_laws.specs.WireHolding.SlotsKnown.{IsPortOfSeat, SlotsKnown}
use Rattle.iox_wire_laws.proofs.WireHolding.HeldElsewhere.{slots_same}
use Rattle.iox_wire_laws.proofs.WireHolding.UnnamedSlots.{other_slot}
use Rattle.iox_wire_laws.proofs.WireHolding.WireWays.{among_flat}

none_if : (b : Bool) → not b ≡ true → b ≡ false
none_if true e = sym e
none_if false e = refl

lt_is : (a b : ℕ) → nat_lt a b ≡ true → a < b
lt_is a b e = grind (arith)

no_more : (a b : ℕ) → a ≡ b → a ≤ b
no_more a b e = omega (arith, e)

module _ (p : Setting) (held : Pools) (s : State) (x : Seat) (o : NewLoan) (slot : ℕ) (free : List ℕ) (known : SlotsKnown p held s x)
    (none : (port : ℕ) → slots_in_call port x.local ≡ []) (first : free_slots x o.port ≡ slot ∷ free) (next : IsNextLoan p held s o slot) where
  abbrev new : Pools
  new = held_with held o.port slot (message_in p o)

  abbrev y : Seat
  y = takes_slot x o (slot ∷ free)

  there : has_number slot (free_slots x o.port) ≡ true
  there = ap (has_number slot) first ∙ or-left (slot == slot) (has_number slot free) (eqb-refl slot)

  own : IsPortOfSeat p x o.port
  own = known.desks o.port slot there

  was_free : (nat_lt slot (p.port o.port).pool ≡ true) × (not (has_number slot (slots_used x o.port)) ≡ true)
  was_free =
      both (nat_lt slot (p.port o.port).pool) (not (has_number slot (slots_used x o.port))) (sym ((known.pools o.port own).free slot) ∙ there)

  within : slot < (p.port o.port).pool
  within = lt_is slot (p.port o.port).pool was_free.0

  unused : IsAmong slot (slots_used x o.port) → ⊥
  unused among = true≢false (sym (among-number slot (slots_used x o.port) among) ∙ none_if (has_number slot (slots_used x o.port)) was_free.1)

  -- ---- what slots hold

  new_here : new o.port slot ≡ message_in p o
  new_here = rw (eqb-refl o.port) (rw (eqb-refl slot) refl)

  -- a slot in use holds what it held
  new_used : (q j : ℕ) → IsAmong j (slots_used x q) → new q j ≡ held q j
  new_used q j among =
      other_slot held o.port slot (message_in p o) q j (false_if ((o.port == q) && (slot == j)) (λ is.
      let same = both (o.port == q) (slot == j) is in
      unused (subst (λ i. IsAmong slot (slots_used x i)) (sym (eqb-true o.port q same.0))
      (subst (λ i. IsAmong i (slots_used x q)) (sym (eqb-true slot j same.1)) among))))

  used_serial : (q j : ℕ) → has_number j (slots_used x q) ≡ true → (new q j).serial ≡ (held q j).serial
  used_serial q j used = ap (λ (m : Message). m.serial) (new_used q j (number-among j (slots_used x q) used))

  -- ---- desks

  recorded : (q : ℕ) → recorded_of y q ≡ recorded_of x q
  recorded q = picks_same x o.port o slot free q

  free_else : (q : ℕ) → (q == o.port) ≡ false → free_slots y q ≡ free_slots x q
  free_else q other =
      ap (λ d. option_map_or (λ (e : Desk). e.free) d [])
      (found (on_desk o.port (picks o slot free)) (λ d. d.port == q) (λ d. ap (λ n. n == q) (port_is d (d.port == o.port))) x.desks)
      ∙ by_desk (find (λ d. d.port == q) x.desks) refl
    where
      port_is : (d : Desk) (b : Bool) → (if b then picks o slot free d else d).port ≡ d.port
      port_is d true = refl
      port_is d false = refl

      by_desk : (d : Option Desk) → find (λ e. e.port == q) x.desks ≡ d
          → option_map_or (λ (e : Desk). e.free) (option_map (on_desk o.port (picks o slot free)) d) [] ≡ option_map_or (λ (e : Desk). e.free) d []
      by_desk None is = refl
      by_desk (Some d) is =
          let at : d.port ≡ q = eqb-true d.port q (find-among (λ (k : Desk). k.port == q) d x.desks is).1 in
          ap (λ b. (if b then picks o slot free d else d).free) (ap (λ n. n == o.port) at ∙ other)

  used_else : (q : ℕ) → (o.port == q) ≡ false → slots_used y q ≡ slots_used x q
  used_else q other =
      ap (λ (b : Bool). (if b then slot ∷ [] else []) ++ (slots_held x q ++ flat_map (λ r. r.slots) (recorded_of y q))) other
      ∙ ap (λ (rs : List Recorded). slots_held x q ++ flat_map (λ r. r.slots) rs) (recorded q)
      ∙ ap (λ call. call ++ (slots_held x q ++ flat_map (λ r. r.slots) (recorded_of x q))) (sym (none q))

  used_here : (i : ℕ) → has_number i (slots_used y o.port) ≡ ((slot == i) || has_number i (slots_used x o.port))
  used_here i =
      ap (λ b. has_number i ((if b then slot ∷ [] else []) ++ (slots_held x o.port ++ flat_map (λ r. r.slots) (recorded_of y o.port)))) (eqb-refl o.port)
      ∙ ap (λ (rs : List Recorded). (slot == i) || has_number i (slots_held x o.port ++ flat_map (λ r. r.slots) rs)) (recorded o.port)
      ∙ ap (λ call. (slot == i) || has_number i (call ++ (slots_held x o.port ++ flat_map (λ r. r.slots) (recorded_of x o.port)))) (sym (none o.port))

  other_way : (q : ℕ) → (o.port == q) ≡ false → (q == o.port) ≡ false
  other_way q other = false_if (q == o.port) (λ is. true≢false (sym (eq-eqb o.port q (sym (eqb-true q o.port is))) ∙ other))

  -- it holds of each port that holds of this one and of all others
  each_port : (P : ℕ → Type 0) (q : ℕ) → (o.port ≡ q → P o.port) → ((o.port == q) ≡ false → P q) → P q
  each_port P q here beyond = by_case (o.port == q) refl
    where
      by_case : (b : Bool) → (o.port == q) ≡ b → P q
      by_case true is = subst P (eqb-true o.port q is) (here (eqb-true o.port q is))
      by_case false is = beyond is

  -- ---- pools

  held_fits : (q pool : ℕ) → PoolFits held x q pool → PoolFits new x q pool
  held_fits q pool fit = record {
    within = fit.within;
    apart = λ i j used also same. fit.apart i j used also (sym (used_serial q i used) ∙ same ∙ used_serial q j also);
    free_once = fit.free_once;
    free = fit.free;
  }

  pool_else : (q pool : ℕ) → slots_used y q ≡ slots_used x q → free_slots y q ≡ free_slots x q → PoolFits new x q pool → PoolFits new y q pool
  pool_else q pool used frees fit = record {
    within = λ i is. fit.within i (ap (has_number i) (sym used) ∙ is);
    apart = λ i j is also same. fit.apart i j (ap (has_number i) (sym used) ∙ is) (ap (has_number j) (sym used) ∙ also) same;
    free_once = subst AreDistinct (sym frees) fit.free_once;
    free = λ i. ap (has_number i) frees ∙ fit.free i ∙ ap (λ ks. nat_lt i pool && not (has_number i ks)) (sym used);
  }

  pool : (q : ℕ) → IsPortOfSeat p x q → PoolFits new y q (p.port q).pool
  pool q mine =
      each_port (λ k. PoolFits new y k (p.port k).pool) q
      (λ is. picks_fit new x o slot free (p.port o.port).pool (held_fits o.port (p.port o.port).pool (known.pools o.port own)) (none o.port) first
      (λ j used same. unused (subst (λ i. IsAmong i (slots_used x o.port))
      (next.alone j ((known.pools o.port own).within j used) (sym (used_serial o.port j used) ∙ same ∙ ap (λ (m : Message). m.serial) new_here))
      (number-among j (slots_used x o.port) used))))
      (λ other. pool_else q (p.port q).pool (used_else q other) (free_else q (other_way q other)) (held_fits q (p.port q).pool (known.pools q mine)))

  -- ---- ports

  -- a slot recorded on a way is in use
  on_way : (w : Way) (j : ℕ) → IsAmong j (slots_on y w) → IsAmong j (slots_used x w.sender)
  on_way w j among =
      among-back j (slots_in_call w.sender x.local) _ (among-back j (slots_held x w.sender) _
      (by_record (record_of w (recorded_of x w.sender)) refl
      (subst (λ rs. IsAmong j (option_map_or (λ (r : Recorded). r.slots) (record_of w rs) [])) (recorded w.sender) among)))
    where
      by_record : (r : Option Recorded) → record_of w (recorded_of x w.sender) ≡ r
          → IsAmong j (option_map_or (λ (k : Recorded). k.slots) (record_of w (recorded_of x w.sender)) [])
          → IsAmong j (flat_map (λ (k : Recorded). k.slots) (recorded_of x w.sender))
      by_record None is has =
          absurd (subst (λ o. IsAmong j (option_map_or (λ (k : Recorded). k.slots) o [])) is has)
      by_record (Some r) is has =
          among_flat (λ (k : Recorded). k.slots) r j (recorded_of x w.sender) (find-among (λ (k : Recorded). same_way k.way w) r (recorded_of x w.sender) is).0
          (subst (λ o. IsAmong j (option_map_or (λ (k : Recorded). k.slots) o [])) is has)

  records : RecordsFit held s x → RecordsFit new s y
  records fit =
      let kept : RecordsFit held s y = record {
        told = (others_leave_records held s x (SeesNoneBack (request_way 0 0)) o.port o slot free fit tt).1.told;
        once = (others_leave_records held s x (SeesNoneBack (request_way 0 0)) o.port o slot free fit tt).1.once;
      } in
      let same : (w : Way) → serials_on new y w ≡ serials_on held y w
      = λ w. slots_same held new (λ (m : Message). m.serial) w.sender (slots_on y w) (λ j among. new_used w.sender j (on_way w j among)) in record {
        told = λ w k has. kept.told w k has ∙ ap (has_number k) (sym (same w));
        once = λ w has. subst AreDistinct (sym (same w)) (kept.once w has);
      }

  counted_here : PortFits held s x o.port → (i : ℕ) → has_number i (slots_used y o.port) ≡ true → (new o.port i).serial ≤ s.fixed.loans o.port
  counted_here fit i used = by_case (slot == i) refl
    where
      by_case : (b : Bool) → (slot == i) ≡ b → (new o.port i).serial ≤ s.fixed.loans o.port
      by_case true is =
          no_more (new o.port i).serial (s.fixed.loans o.port)
          (ap (λ j. (new o.port j).serial) (sym (eqb-true slot i is)) ∙ ap (λ (m : Message). m.serial) new_here ∙ next.serial)
      by_case false is =
          let old : has_number i (slots_used x o.port) ≡ true
          = ap (λ b. b || has_number i (slots_used x o.port)) (sym is) ∙ sym (used_here i) ∙ used in
          subst (λ k. k ≤ s.fixed.loans o.port) (sym (used_serial o.port i old)) (fit.counted i old)

  counted_else : (q : ℕ) → (o.port == q) ≡ false → PortFits held s x q → (i : ℕ) → has_number i (slots_used y q) ≡ true → (new q i).serial ≤ s.fixed.loans q
  counted_else q other fit i used =
      let old : has_number i (slots_used x q) ≡ true = ap (has_number i) (sym (used_else q other)) ∙ used in
      subst (λ k. k ≤ s.fixed.loans q) (sym (used_serial q i old)) (fit.counted i old)

  port : (q : ℕ) → PortFits held s x q → PortFits new s y q
  port q fit = record {
    mine = fit.mine;
    entries = fit.entries;
    call = ap (λ (m : Message). m.serial) new_here;
    ways = ap (λ (rs : List Recorded). map (λ r. r.way) rs) (recorded q) ∙ fit.ways;
    apart = subst (λ (rs : List Recorded). AreDistinctWays (map (λ r. r.way) rs)) (sym (recorded q)) fit.apart;
    from = ap (λ (rs : List Recorded). list_all (λ r. r.way.sender == q) rs) (recorded q) ∙ fit.from;
    records = records fit.records;
    counted =
        each_port (λ k. PortFits held s x k → (i : ℕ) → has_number i (slots_used y k) ≡ true → (new k i).serial ≤ s.fixed.loans k) q
        (λ is. counted_here) (λ other. counted_else q other) fit;
  }

  -- ---- serials

  apart : (q i j : ℕ) → IsPortOfSeat p x q → i < (p.port q).pool → j < (p.port q).pool → (new q i).serial ≡ (new q j).serial → i ≡ j
  apart q i j mine low also =
      by_case (o.port == q) (slot == i) (slot == j) (eqb-true o.port q) (eqb-true slot i) (eqb-true slot j)
    where
      alone : (k : ℕ) → o.port ≡ q → k < (p.port q).pool → o.serial ≡ (held q k).serial → slot ≡ k
      alone k is less same =
          sym (next.alone k (subst (λ r. k < (p.port r).pool) (sym is) less) (ap (λ r. (held r k).serial) is ∙ sym same))

      by_case : (a b c : Bool) → (a ≡ true → o.port ≡ q) → (b ≡ true → slot ≡ i) → (c ≡ true → slot ≡ j)
          → (if a && b then message_in p o else held q i).serial ≡ (if a && c then message_in p o else held q j).serial → i ≡ j
      by_case true true true at here later same = sym (here refl) ∙ later refl
      by_case true true false at here later same = sym (here refl) ∙ alone j (at refl) also same
      by_case true false true at here later same = sym (alone i (at refl) low (sym same)) ∙ later refl
      by_case true false false at here later same = known.apart q i j mine low also same
      by_case false b c at here later same = known.apart q i j mine low also same

  pub picked : SlotsKnown p new s y
  picked = record {
    desks = λ q i has.
        each_port (λ k. has_number i (free_slots y k) ≡ true → IsPortOfSeat p x k) q (λ is has. own)
        (λ other has. known.desks q i (ap (has_number i) (sym (free_else q (other_way q other))) ∙ has)) has;
    pools = pool;
    ports = λ q mine. port q (known.ports q mine);
    apart = apart;
  }

pub picks_are_known : PicksAreKnown
picks_are_known p held s x o slot free known none first next = picked p held s x o slot free known none first next
