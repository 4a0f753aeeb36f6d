-- Slots stay known as a call ends that forgets a node, or forgot it before.
use Rattle.std.specs.Prelude.{◌≤◌, ◌⊎◌, ◌||◌, not, ◌++◌, find, flat_map, is_some, map, option_map}
use Rattle.std.specs.List.{list_all}
use Rattle.std.specs.Option.{option_map_or}
use Rattle.std.proofs.Common.{◌≡◌, ℕ, Bool, true, false, if◌then◌else◌, ◌==◌, ◌&&◌, List, [], ◌∷◌, Option, Some, None, refl, ap, sym, subst, ◌∙◌, inl, inr, true≢false}
use Rattle.iox_model.specs.declared.way.Way.{Way}
use Rattle.iox_model.specs.Handles.{is_own}
use Rattle.iox_model.specs.Maps.{AreDistinctWays, AreDistinct, has_number, same_way}
use Rattle.iox_model.specs.Peers.{node_of_port, ways_from}
use Rattle.iox_model.specs.States.{Port, State}
use Rattle.iox_laws.proofs.WeaveLaws.MapLemmas.{same_way-true}
use Rattle.iox_laws.proofs.WeaveLedger.Lists.{IsAmong, among-append, among-back, among-front, among-number, find-among, flat-among, map-among, number-among}
use Rattle.iox_wire_moments.specs.MomentsOf.{Pools, serial_in}
use Rattle.iox_wire_locals.specs.declared.local.Local.TheVariants.{Idle}
use Rattle.iox_wire_locals.specs.declared.seat.Seat.{Seat}
use Rattle.iox_wire_locals.specs.declared.table.Desk.{Desk}
use Rattle.iox_wire_locals.specs.declared.table.Entry.{Entry}
use Rattle.iox_wire_locals.specs.declared.table.Recorded.{Recorded}
use Rattle.iox_wire_locals.specs.Desks.{without_slots_to}
use Rattle.iox_wire_locals.specs.Tables.{Setting}
use Rattle.iox_wire_laws.specs.WireKeeping.Records.{RecordsFit, record_of, recorded_of, serials_on, slots_on}
use Rattle.iox_wire_laws.specs.WireKeeping.UsedSlots.{CallHolds, PortFits, slots_held, slots_used}
use Rattle.iox_wire_laws.proofs.WireKeeping.RecordsKept.{found}
use Rattle.iox_wire_laws.proofs.WireHolding.WireWays.{among_flat}
use Rattle.iox_wire_laws.specs.WireHolding.SlotsKnown.{IsPortOfSeat, SlotsKnown}
use Rattle.iox_wire_pools.specs.Uses.{AllUsesAreCounted}
use Rattle.iox_wire_pools.proofs.PoolsFit.{counted_pools_fit}
use Rattle.iox_wire_pools.proofs.RecordUses.{forgotten_ways}

-- only ports of the node have desks
abbrev OwnDesks : Setting → Seat → Type 0
OwnDesks p x = (port : ℕ) → is_some (find (λ d. d.port == port) x.desks) ≡ true → IsPortOfSeat p x port

-- At rest the node has the same handles, and of the ways to these ports nothing is outstanding.
pub record Forgets (p : Setting) (s t : State) (x y : Seat) (cut : List ℕ) : Type 0 where
  pub rests : y.local ≡ Idle
  pub node : y.node ≡ x.node
  pub table : y.table ≡ x.table
  pub records : (port : ℕ) → recorded_of y port ≡ map (without_slots_to cut) (recorded_of x port)
  pub ports : t.fixed.ports ≡ s.fixed.ports
  pub loans : t.fixed.loans ≡ s.fixed.loans
  pub delivered : (v : Way) (k : ℕ) → IsPortOfSeat p x v.sender → t.delivered v k ≡ (if has_number v.receiver cut then false else s.delivered v k)

way_kept : (cut : List ℕ) (r : Recorded) (b : Bool) → (if b then record r { slots = [] } else r).way ≡ r.way
way_kept cut r true = refl
way_kept cut r false = refl

still_some : {A : Type 0} (change : A → A) (o : Option A) → is_some (option_map change o) ≡ true → is_some o ≡ true
still_some change None some = some
still_some change (Some a) some = refl

some_desk : (x : Seat) (y : Way) (d : Option Desk) → is_some (record_of y (option_map_or (λ (k : Desk). k.recorded) d [])) ≡ true → is_some d ≡ true
some_desk x y (Some d) some = refl
some_desk x y None some = absurd (true≢false (sym some))

some_free : (slot : ℕ) (d : Option Desk) → has_number slot (option_map_or (λ (k : Desk). k.free) d []) ≡ true → is_some d ≡ true
some_free slot (Some d) some = refl
some_free slot None some = absurd (true≢false (sym some))

from_same : (cut : List ℕ) (port : ℕ) (rs : List Recorded)
    → list_all (λ r. r.way.sender == port) (map (without_slots_to cut) rs) ≡ list_all (λ r. r.way.sender == port) rs
from_same cut port [] = refl
from_same cut port (r ∷ rs) =
    ap (λ (v : Way). (v.sender == port) && list_all (λ r. r.way.sender == port) (map (without_slots_to cut) rs)) (way_kept cut r (has_number r.way.receiver cut))
    ∙ ap (λ b. (r.way.sender == port) && b) (from_same cut port rs)

module _ (p : Setting) (held : Pools) (s t : State) (x y : Seat) (cut : List ℕ) (known : SlotsKnown p held s x) (forgets : Forgets p s t x y cut)
    (uses : AllUsesAreCounted p y) (before : OwnDesks p x) (desks : OwnDesks p y) where
  mine : (port : ℕ) → IsPortOfSeat p y port → IsPortOfSeat p x port
  mine port own = (own.0, own.1 ∙ forgets.node)

  -- ---- records

  abbrev nothing : List ℕ
  nothing = []

  abbrev g : Recorded → Recorded
  g r = without_slots_to cut r

  record_now : (v : Way) → record_of v (recorded_of y v.sender) ≡ option_map g (record_of v (recorded_of x v.sender))
  record_now v =
      ap (record_of v) (forgets.records v.sender)
      ∙ found g (λ r. same_way r.way v) (λ r. ap (λ z. same_way z v) (way_kept cut r (has_number r.way.receiver cut))) (recorded_of x v.sender)

  was_recorded : (v : Way) → is_some (record_of v (recorded_of y v.sender)) ≡ true → is_some (record_of v (recorded_of x v.sender)) ≡ true
  was_recorded v some = still_some g (record_of v (recorded_of x v.sender)) (ap is_some (sym (record_now v)) ∙ some)

  slots_now : (v : Way) → slots_on y v ≡ (if has_number v.receiver cut then [] else slots_on x v)
  slots_now v =
      ap (λ o. option_map_or (λ (r : Recorded). r.slots) o []) (record_now v) ∙ by_record (record_of v (recorded_of x v.sender)) refl
    where
      empty : (b : Bool) → nothing ≡ (if b then nothing else nothing)
      empty true = refl
      empty false = refl

      cut_slots : (r : Recorded) (b : Bool) → (if b then record r { slots = [] } else r).slots ≡ (if b then [] else r.slots)
      cut_slots r true = refl
      cut_slots r false = refl

      by_record : (o : Option Recorded) → record_of v (recorded_of x v.sender) ≡ o
          → option_map_or (λ (r : Recorded). r.slots) (option_map g o) [] ≡ (if has_number v.receiver cut then [] else option_map_or (λ (r : Recorded). r.slots) o [])
      by_record None is = empty (has_number v.receiver cut)
      by_record (Some r) is =
          let at : r.way ≡ v = same_way-true r.way v (find-among (λ (k : Recorded). same_way k.way v) r (recorded_of x v.sender) is).1 in
          cut_slots r (has_number r.way.receiver cut) ∙ ap (λ (z : Way). if has_number z.receiver cut then [] else r.slots) at

  own_way : (v : Way) → is_some (record_of v (recorded_of x v.sender)) ≡ true → IsPortOfSeat p x v.sender
  own_way v some = before v.sender (some_desk x v (find (λ d. d.port == v.sender) x.desks) some)

  records : RecordsFit held s x → RecordsFit held t y
  records fit = record {
    told = λ v k some. forgets.delivered v k (own_way v (was_recorded v some)) ∙ by_cut v k (has_number v.receiver cut) (fit.told v k (was_recorded v some))
        ∙ ap (λ slots. has_number k (map (serial_in held v) slots)) (sym (slots_now v));
    once = λ v some. subst (λ slots. AreDistinct (map (serial_in held v) slots)) (sym (slots_now v)) (apart v (has_number v.receiver cut) (fit.once v (was_recorded v some)));
  }
    where
      by_cut : (v : Way) (k : ℕ) (b : Bool) → s.delivered v k ≡ has_number k (serials_on held x v)
          → (if b then false else s.delivered v k) ≡ has_number k (map (serial_in held v) (if b then [] else slots_on x v))
      by_cut v k true is = refl
      by_cut v k false is = is

      apart : (v : Way) (b : Bool) → AreDistinct (serials_on held x v) → AreDistinct (map (serial_in held v) (if b then [] else slots_on x v))
      apart v true is = tt
      apart v false is = is

  -- ---- slots in use

  recorded_before : (port slot : ℕ) → IsAmong slot (flat_map (λ r. r.slots) (recorded_of y port)) → IsAmong slot (flat_map (λ r. r.slots) (recorded_of x port))
  recorded_before port slot among =
      let at = flat-among (λ (r : Recorded). r.slots) slot (recorded_of y port) among in
      let from = map-among g at.0 (recorded_of x port) (subst (IsAmong at.0) (forgets.records port) at.1) in
      among_flat (λ (r : Recorded). r.slots) from.0 slot (recorded_of x port) from.1
      (left from.0 (has_number from.0.way.receiver cut) (subst (λ (r : Recorded). IsAmong slot r.slots) from.2 at.2))
    where
      left : (r : Recorded) (b : Bool) → IsAmong slot (if b then record r { slots = [] } else r).slots → IsAmong slot r.slots
      left r true here = absurd here
      left r false here = here

  used_before : (port slot : ℕ) → has_number slot (slots_used y port) ≡ true → has_number slot (slots_used x port) ≡ true
  used_before port slot has =
      let now : IsAmong slot (slots_held x port ++ flat_map (λ r. r.slots) (recorded_of y port))
      = subst (λ (es : List Entry). IsAmong slot (slots_held (record y { table = es }) port ++ flat_map (λ r. r.slots) (recorded_of y port))) forgets.table
      (among-call (number-among slot (slots_used y port) has)) in
      among-number slot (slots_used x port) (among-back slot _ (slots_held x port ++ flat_map (λ r. r.slots) (recorded_of x port)) (by_part (among-append slot (slots_held x port) _ now)))
    where
      among-call : IsAmong slot (slots_used y port) → IsAmong slot (slots_held y port ++ flat_map (λ r. r.slots) (recorded_of y port))
      among-call among =
          subst (λ l. IsAmong slot (slots_used (record y { local = l }) port)) forgets.rests among

      by_part : IsAmong slot (slots_held x port) ⊎ IsAmong slot (flat_map (λ r. r.slots) (recorded_of y port))
          → IsAmong slot (slots_held x port ++ flat_map (λ r. r.slots) (recorded_of x port))
      by_part (inl here) = among-front slot (slots_held x port) _ here
      by_part (inr there) = among-back slot (slots_held x port) _ (recorded_before port slot there)

  -- ---- ports

  port_fits : (port : ℕ) → PortFits held s x port → PortFits held t y port
  port_fits port fit = record {
    mine = ap (λ (ps : List Port). node_of_port (record (s.fixed) { ports = ps }) port) forgets.ports ∙ fit.mine ∙ sym forgets.node;
    entries = subst (λ (es : List Entry). list_all (λ e. not (is_own e.kind) || (e.sender == e.port)) es ≡ true) (sym forgets.table) fit.entries;
    call = subst (CallHolds held) (sym forgets.rests) tt;
    ways = ap (map (λ r. r.way)) (forgets.records port) ∙ forgotten_ways cut (recorded_of x port) ∙ fit.ways
        ∙ ap (λ (ps : List Port). ways_from (record (s.fixed) { ports = ps }) port) (sym forgets.ports);
    apart = subst AreDistinctWays (sym (ap (map (λ r. r.way)) (forgets.records port) ∙ forgotten_ways cut (recorded_of x port))) fit.apart;
    from = ap (list_all (λ r. r.way.sender == port)) (forgets.records port) ∙ from_same cut port (recorded_of x port) ∙ fit.from;
    records = records fit.records;
    counted = λ slot has. subst (λ (loans : ℕ → ℕ). (held port slot).serial ≤ loans port) (sym forgets.loans) (fit.counted slot (used_before port slot has));
  }

  pub known_still : SlotsKnown p held t y
  known_still = record {
    desks = λ port slot has. desks port (some_free slot (find (λ d. d.port == port) y.desks) has);
    pools = λ port own. counted_pools_fit held y port (p.port port).pool (uses port own) (λ i j low high also. known.apart port i j (mine port own) low high also);
    ports = λ port own. port_fits port (known.ports port (mine port own));
    apart = λ port i j own low high also. known.apart port i j (mine port own) low high also;
  }
