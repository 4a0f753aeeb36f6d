-- Ports stay in their places while all is got back and a loan is counted, and no sender of one comes twice.
use Rattle.std.specs.Prelude.{◌≡◌, ℕ, List, IfSome, None, Option, Some, refl}
use Rattle.std.proofs.Common.{ap, subst, ◌∙◌}
use Rattle.iox_tables.specs.HubStates.Tables.{PortState}
use Rattle.iox_tables.specs.HubStates.Ways.{with_port}
use Rattle.iox_tables.specs.HubStates.Changes.{emptied_lane}
use Rattle.iox_tables.specs.HubLending.Emptying.{with_back}
use Rattle.iox_tables.specs.HubLoans.Lenders.{ways_by}
use Rattle.iox_tables.proofs.HubLending.OneMore.{numbers_same, one_loan}
use Rattle.iox_hub_ports.specs.InPlace.{AllApart}
use Rattle.iox_hub_ports.specs.Ports.{place_in}
use Rattle.iox_hub_ports.proofs.Apart.{apart_in_place}
use Rattle.iox_hub_ports.proofs.InPlace.{changed_by_number}
use Rattle.iox_control.specs.Controls.{ControlState, with_tables}
use Rattle.iox_control.proofs.InPlaceLemmas.{lanes_keep_place, place_stays}
use Rattle.iox_control_responses.specs.declared.targets.Target.{Target}

-- once a port got back all, each port is in its place
pub place_then : (c d : ControlState) (p : PortState) → d ≡ with_tables c (with_back c.tables p d.tables.pools) → (n i : ℕ)
    → place_in c.tables.ports n ≡ Some i → place_in d.tables.ports n ≡ Some i
place_then c d p left n i there =
    ap (λ (e : ControlState). place_in e.tables.ports n) left
    ∙ lanes_keep_place emptied_lane c.tables.ports (ways_by p.role c.tables p.number) n ∙ there

-- so is one that may be told
pub target_then : (c d : ControlState) (p : PortState) → d ≡ with_tables c (with_back c.tables p d.tables.pools) → (n : ℕ) (to : Option Target)
    → IfSome to (λ target. place_in c.tables.ports n ≡ Some target.place) → IfSome to (λ target. place_in d.tables.ports n ≡ Some target.place)
target_then c d p left n None there = tt
target_then c d p left n (Some target) there = place_then c d p left n target.place there

-- so it is once a loan of a port is counted
pub place_lent : (ports : List PortState) (m n i : ℕ) → place_in ports n ≡ Some i → place_in (with_port one_loan ports m) n ≡ Some i
place_lent ports m n i there = place_stays (with_port one_loan ports m) ports n (numbers_same ports m) ∙ there

-- no sender comes twice then
pub apart_lent : (ports : List PortState) (n i : ℕ) → place_in ports n ≡ Some i → AllApart ports → AllApart (with_port one_loan ports n)
apart_lent ports n i there all =
    subst AllApart (changed_by_number ports n i one_loan there) (apart_in_place one_loan (λ p. refl) ports i all)
