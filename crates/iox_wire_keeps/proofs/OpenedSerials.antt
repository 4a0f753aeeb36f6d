-- As a wire opens desks tell the serials of their slots: no slot holds a message that was lent.
use Rattle.std.specs.Prelude.{◌^◌}
use Rattle.std.specs.Option.{option_map_or}
use Rattle.std.proofs.Common.{◌≡◌, ℕ, ◌<◌, ◌≤◌, true, if◌then◌else◌, ◌==◌, [], length, None, Some, ap, ◌∙◌, eq-eqb, arith}
use Rattle.std.proofs.lemmas.List.{length-replicate}
use Rattle.iox_model.specs.Maps.{has_number}
use Rattle.iox_laws.proofs.WeaveLedger.Lists.{among-filter, among-number, number-among}
use Rattle.iox_wire_calls.specs.Desk.{Desk}
use Rattle.iox_wire_calls.specs.MomentsOf.{Pools}
use Rattle.iox_wire_calls.specs.Openings.{opened_desk, opened_seat, ports_on}
use Rattle.iox_wire_calls.specs.SlotsKnown.{IsPortOfSeat}
use Rattle.iox_wire_calls.specs.Tables.{Setting}
use Rattle.iox_wire_calls.proofs.OpenedDesks.{desk_there}
use Rattle.iox_wire_keeps.specs.Serials.{TellsSerials}

pub opened_tells : (p : Setting) (held : Pools) (n : ℕ) → ((port slot : ℕ) → 2 ^ 64 ≤ (held port slot).serial) → TellsSerials p held (opened_seat p n)
opened_tells p held n none = record {
  each = λ port mine.
      ap (λ o. length (option_map_or (λ (d : Desk). d.serials) o [])) (desk_there p (ports_on p n) port ∙ ap (λ b. if b then Some (opened_desk p port) else None) (on port mine))
      ∙ length-replicate (p.port port).pool 0;
  told = λ port slot mine low small. absurd (never (held port slot).serial (none port slot) small);
}
  where
    never : (k : ℕ) → 2 ^ 64 ≤ k → k < 2 ^ 64 → ⊥
    never k far small = omega (arith, far, small)

    on : (port : ℕ) → IsPortOfSeat p (opened_seat p n) port → has_number port (ports_on p n) ≡ true
    on port mine =
        among-number port (ports_on p n) (among-filter (λ k. p.layout.owner k == n) port p.layout.sizes.ports (number-among port p.layout.sizes.ports mine.0) (eq-eqb (p.layout.owner port) n mine.1))
