-- A desk of a wire that opens counts nothing, and so does the machine.
use Rattle.std.specs.Prelude.{◌&&◌, ◌-◌, ◌||◌, filter, find, length, replicate, slice_index}
use Rattle.std.specs.List.{list_any, range_with_len}
use Rattle.std.specs.Option.{option_map_or}
use Rattle.std.proofs.Common.{◌≡◌, ℕ, ◌+◌, ◌<◌, Bool, true, false, if◌then◌else◌, ◌==◌, List, [], ◌∷◌, map, Option, None, Some, refl, ap, sym, subst, ◌∙◌, arith, eq-eqb}
use Rattle.std.proofs.lemmas.List.{get_or-replicate, length-replicate}
use Rattle.std.proofs.lemmas.List.FromFn.{length-range_with_len}
use Rattle.iox_model.specs.declared.way.Way.{Way}
use Rattle.iox_model.specs.Keeping.{kept_in}
use Rattle.iox_model.specs.Maps.{has_number, same_way}
use Rattle.iox_model.specs.Outstandings.{is_kept, outstanding_on}
use Rattle.iox_model.specs.Peers.{is_connected_port, ways_from}
use Rattle.iox_model.specs.States.{State}
use Rattle.iox_model.specs.WireCalls.{opened}
use Rattle.iox_model.specs.Weaves.{at_work}
use Rattle.iox_laws.proofs.WeaveLedger.Lists.{among-filter, among-number, filter-none, number-among}
use Rattle.iox_wire_locals.specs.declared.table.Desk.{Desk}
use Rattle.iox_wire_locals.specs.declared.table.Recorded.{Recorded}
use Rattle.iox_wire_nodes.specs.Tables.{Setting}
use Rattle.iox_wire_seats.specs.Counted.{count_recorded, desk_of, kept_at, outstanding_at}
use Rattle.iox_wire_needs.specs.Openings.{opened_desk, opened_seat, ports_on, ways_on}
use Rattle.iox_wire_needs.specs.Serials.{serials_at}
use Rattle.iox_wire_needs.proofs.OpenedDesks.{desk_there}
use Rattle.iox_wire_weaves.specs.PortCounts.{TellsCounts, kept_count, outstanding_count, sends_on}

-- ---- a desk

pub fresh_kept : (p : Setting) (port : ℕ) → kept_at (opened_desk p port) ≡ 0
fresh_kept p port =
    none (length (replicate (p.port port).pool 0)) (length (range_with_len 0 (p.port port).pool)) (p.port port).pool (length-replicate (p.port port).pool 0)
    (length-range_with_len 0 (p.port port).pool)
  where
    none : (a b n : ℕ) → a ≡ n → b ≡ n → a - b ≡ 0
    none a b n first second = omega (arith, first, second)

abbrev empty_record : Way → Recorded
empty_record w = record { way = w; slots = [] }

none_recorded : (y : Way) (ws : List Way) → count_recorded y (map empty_record ws) ≡ 0
none_recorded y [] = refl
none_recorded y (w ∷ ws) = by_case (same_way w y) (none_recorded y ws)
  where
    by_case : (b : Bool) → count_recorded y (map empty_record ws) ≡ 0
        → option_map_or (λ (i : Recorded). length i.slots) (if b then Some (empty_record w) else find (λ (i : Recorded). same_way i.way y) (map empty_record ws)) 0 ≡ 0
    by_case true later = refl
    by_case false later = later

pub fresh_outstanding : (p : Setting) (port : ℕ) (y : Way) → outstanding_at y (opened_desk p port) ≡ 0
fresh_outstanding p port y = none_recorded y (ways_on p port)

pub fresh_there : (p : Setting) (n port : ℕ) → has_number port p.layout.sizes.ports ≡ true → p.layout.owner port ≡ n
    → desk_of port (opened_seat p n).desks ≡ Some (opened_desk p port)
fresh_there p n port has owner =
    desk_there p (ports_on p n) port
    ∙ ap (λ b. if b then Some (opened_desk p port) else None)
    (among-number port (ports_on p n) (among-filter (λ k. p.layout.owner k == n) port p.layout.sizes.ports (number-among port p.layout.sizes.ports has)
    (eq-eqb (p.layout.owner port) n owner)))

-- its serials are 0
pub fresh_serial : (p : Setting) (n port slot : ℕ) → has_number port p.layout.sizes.ports ≡ true → p.layout.owner port ≡ n → slot < (p.port port).pool
    → slice_index (serials_at (opened_seat p n) port) slot ≡ 0
fresh_serial p n port slot has owner low =
    ap (λ (o : Option Desk). slice_index (option_map_or (λ (d : Desk). d.serials) o []) slot) (fresh_there p n port has owner)
    ∙ get_or-replicate (p.port port).pool slot 0 0 low

-- ---- the machine

none_any : (ys : List Way) → list_any (λ (y : Way). false) ys ≡ false
none_any [] = refl
none_any (y ∷ ys) = none_any ys

none_if : (b : Bool) → ◌≡◌ {A = ℕ} (if b then 0 else 0) 0
none_if true = refl
none_if false = refl

pub opened_kept : (s : State) (port : ℕ) → kept_count (at_work (opened s)) port ≡ 0
opened_kept s port =
    ap (λ (ks : List ℕ). if is_connected_port (opened s).fixed port then length ks else 0)
    (filter-none (is_kept (opened s) port []) (range_with_len 0 ((opened s).fixed.loans port + 1)) (λ k among. none_any (ways_from (opened s).fixed port)))
    ∙ none_if (is_connected_port (opened s).fixed port)

pub opened_outstanding : (s : State) (y : Way) → outstanding_count (opened s) y ≡ 0
opened_outstanding s y =
    ap (λ (ks : List ℕ). if sends_on (opened s) y.sender y then length ks else 0)
    (filter-none ((opened s).delivered y) (range_with_len 0 ((opened s).fixed.loans y.sender + 1)) (λ k among. refl))
    ∙ none_if (sends_on (opened s) y.sender y)

-- together
pub opened_tells : (p : Setting) (s : State) (n port : ℕ) → has_number port p.layout.sizes.ports ≡ true → p.layout.owner port ≡ n
    → TellsCounts (at_work (opened s)) port (opened_seat p n)
opened_tells p s n port has owner = record {
  desk = opened_desk p port;
  there = fresh_there p n port has owner;
  kept = fresh_kept p port ∙ sym (opened_kept s port);
  outstanding = λ y from. fresh_outstanding p port y ∙ sym (opened_outstanding s y);
}
