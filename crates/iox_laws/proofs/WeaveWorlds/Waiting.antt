-- Where a sender may evict in a world that may come about, and what is received there.
use Rattle.std.specs.Prelude.{◌≡◌, ℕ, true, false, Option, Some, None, refl}
use Rattle.std.specs.Option.{option_map_or}
use Rattle.std.proofs.Common.{sym, subst, ap, ◌∙◌, true≢false}
use Rattle.iox_model.specs.declared.way.Way.{Way}
use Rattle.iox_model.specs.Doings.{Receives, Doing, Ended, Delivering}
use Rattle.iox_model.specs.Settings.{overflow_of}
use Rattle.iox_model.specs.States.{State}
use Rattle.iox_model.specs.Requests.{is_last}
use Rattle.iox_model.specs.Peers.{role_at, node_of_port, overflows_on}
use Rattle.iox_laws.proofs.WeaveLaws.MapLemmas.{same_way-true}
use Rattle.iox_laws.specs.WeaveWorlds.Receipts.{ReceivesItsOwn}
use Rattle.iox_laws.specs.WeaveLedger.QueueLaws.{evicts_next}
use Rattle.iox_laws.specs.WeaveWorlds.Waits.{OnlyOverflowEvicts}
use Rattle.iox_laws.proofs.WeaveWorlds.Sound.{FitsCall, last_of}
use Rattle.iox_laws.proofs.WeaveWorlds.Reached.{reachable_sound}

pub over_overflows : (s : State) (node : ℕ) (v : Way) (o : Option Doing) → FitsCall s node o → is_last v (last_of o) ≡ true → overflows_on s.fixed v ≡ true
over_overflows s node v None p e = absurd (true≢false (sym e))
over_overflows s node v (Some (Delivering x None left count)) p e = absurd (true≢false (sym e))
over_overflows s node v (Some (Delivering x (Some u) left count)) p e =
    ap (λ port. overflow_of s.fixed.limits (role_at s.fixed port)) (ap (λ (y : Way). y.sender) (same_way-true v u e) ∙ p.4.0) ∙ sym p.0.1 ∙ p.4.1
over_overflows s node v (Some d) p e = absurd (true≢false (sym e))

pub by_cases_of : (v : Way) (o : Option Doing) → option_map_or (evicts_next v) o false ≡ is_last v (last_of o)
by_cases_of v None = refl
by_cases_of v (Some (Delivering x last left count)) = refl
by_cases_of v (Some d) = refl

pub only_overflow_evicts : OnlyOverflowEvicts
only_overflow_evicts w v reach over =
    let node : ℕ = node_of_port w.state.fixed v.sender in
    over_overflows w.state node v (w.doing node) ((reachable_sound w reach).calls node).1 (sym (by_cases_of v (w.doing node)) ∙ over)

pub receives_its_own : ReceivesItsOwn
receives_its_own w node x y m reach is =
    let p : FitsCall w.state node (Some (Ended (Receives x y m)))
    = subst (FitsCall w.state node) is ((reachable_sound w reach).calls node).1 in
    (p.1.0, p.1.1, p.2)
