-- A call evicts only where messages overflow.
use Rattle.std.specs.Prelude.{◌≡◌, ℕ, true, List, [], ◌∷◌, map, Some, ◌⊎◌}
use Rattle.std.specs.List.{list_any}
use Rattle.std.proofs.Common.{sym, subst, true≢false, inl, inr}
use Rattle.iox_model.specs.declared.way.Way.{Way}
use Rattle.iox_model.specs.Begins.{start}
use Rattle.iox_model.specs.Doings.{Doing, Delivering}
use Rattle.iox_model.specs.Maps.{same_way}
use Rattle.iox_model.specs.Moments.{moved, Moment, Evict}
use Rattle.iox_model.specs.Peers.{overflows_on}
use Rattle.iox_model.specs.States.{Fixed, State}
use Rattle.iox_model.specs.Transitions.{next}
use Rattle.iox_model.specs.Weaves.{Beat, Makes}
use Rattle.iox_model.specs.WholeCalls.{MayCome}
use Rattle.iox_laws.proofs.WeaveLaws.MapLemmas.{same_way-true}
use Rattle.iox_laws.proofs.WeaveLaws.WholeLemmas.{moved-fixed}
use Rattle.iox_laws.proofs.WeaveWorlds.Waiting.{over_overflows}
use Rattle.iox_laws.specs.RunLaws.TraceLaws.{evicts_on, OnlyOverflowEvicts}
use Rattle.iox_laws.proofs.RunLaws.Along.{whole_along}
use Rattle.iox_laws.proofs.RunLaws.Calls.{Goes, goes_moved, begins}
use Rattle.iox_laws.proofs.RunLaws.Runs.{left_calm}
use Rattle.iox_laws.proofs.WeaveLedger.Truths.{one_of}

-- a call that may evict on a way delivered there last
evicts_last : (s : State) (node : ℕ) (d : Doing) (w : Way) → Goes s node d → (next s node d (Evict w)).condition → overflows_on s.fixed w ≡ true
evicts_last s node (Delivering x last left count) w g c = over_overflows s node w (Some (Delivering x last left count)) (g.call).1 c
evicts_last s node d w g c = absurd c

moments_evict : (y : Way) (s : State) (node : ℕ) (d : Doing) (ms : List Moment) → Goes s node d → MayCome s node d ms
    → list_any (evicts_on y) (map (Makes node) ms) ≡ true → overflows_on s.fixed y ≡ true
moments_evict y s node d [] g may some = absurd (true≢false (sym some))
moments_evict y s node d (Evict w ∷ ms) g may some =
    let here_or_later : (same_way y w ≡ true) ⊎ (list_any (evicts_on y) (map (Makes node) ms) ≡ true) = one_of (same_way y w) _ some in
    elim here_or_later as (λ u. overflows_on s.fixed y ≡ true) [
      | inl here ↦ subst (λ v. overflows_on s.fixed v ≡ true) (sym (same_way-true y w here)) (evicts_last s node d w g may.1)
      | inr later ↦ moments_evict y (moved s (Evict w)) node (next s node d (Evict w)).after ms (goes_moved s node d (Evict w) g may.0 may.1) may.2 later
    ]
moments_evict y s node d (m ∷ ms) g may some =
    subst (λ (f : Fixed). overflows_on f y ≡ true) (moved-fixed s m)
    (moments_evict y (moved s m) node (next s node d m).after ms (goes_moved s node d m g may.0 may.1) may.2 some)

-- the beats evict on the way only where messages overflow
abbrev EvictsRightly : Way → State → List Beat → State → Type 0
EvictsRightly y s bs t = list_any (evicts_on y) bs ≡ true → overflows_on s.fixed y ≡ true

pub only_overflow_evicts : OnlyOverflowEvicts
only_overflow_evicts s t node call reply y left =
    whole_along (EvictsRightly y) (λ a none. absurd (true≢false (sym none))) s node call reply t
    (λ named done. moments_evict y s node (start s node done.0 call) done.2 (begins s node done.0 call (left_calm s left) named) done.3)
