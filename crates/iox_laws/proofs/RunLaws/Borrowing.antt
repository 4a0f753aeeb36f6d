-- In the midst of a call, too, a receiver has at most as many messages of a way as it may borrow.
use Rattle.std.specs.Prelude.{◌≡◌, ℕ, ◌+◌, ◌≤◌, Bool, true, false, not, ◌&&◌, if◌then◌else◌, ◌==◌, nat_le, List, [], ◌∷◌, length, map, filter, Option, Some, None, refl}
use Rattle.std.proofs.Common.{sym, subst, ap, ◌∙◌, arith}
use Rattle.std.proofs.lemmas.List.{length-map, length-append}
use Rattle.iox_model.specs.declared.way.Way.{Way}
use Rattle.iox_model.specs.Begins.{start}
use Rattle.iox_model.specs.Doings.{Receives, Doing, Ended, Judging, Stale}
use Rattle.iox_laws.specs.WeaveLaws.Ledgers.{has_received, is_given_up, taken_by, held_on, had_on}
use Rattle.iox_model.specs.Maps.{same_way}
use Rattle.iox_model.specs.Peers.{node_of_port, borrow_limit_on}
use Rattle.iox_model.specs.States.{Handle, Fixed, State}
use Rattle.iox_model.specs.WholeCalls.{moved_by, left_by}
use Rattle.iox_laws.proofs.WeaveLaws.WholeLemmas.{split}
use Rattle.iox_laws.proofs.WeaveLaws.MapLemmas.{either, same_way-true}
use Rattle.iox_laws.proofs.WeaveLaws.WholeLemmas.{moved_by-fixed}
use Rattle.iox_laws.proofs.WeaveLedger.Counts.{count, count-fewer}
use Rattle.iox_laws.specs.RunLaws.Moving.{amid, BorrowsStayWithin}
use Rattle.iox_laws.proofs.RunLaws.Calls.{Goes, goes_by, begins}
use Rattle.iox_laws.proofs.RunLaws.Holding.{is_lost, IsBelow, HoldsIn}
use Rattle.iox_laws.proofs.RunLaws.Owning.{Has}
use Rattle.iox_laws.proofs.RunLaws.Runs.{left_calm}

-- what the receiver has, and what its call took
with_taken : (f : Fixed) (node a : ℕ) (y : Way) (d : Doing) → Has f → HoldsIn f d → a ≤ count (has_received y) (f.handles (node_of_port f y.receiver))
    → a + length (taken_by y d) ≤ borrow_limit_on f y
with_taken f node a y d has holds fewer = taken d holds
  where
    none : (a b c : ℕ) → a ≤ b → b ≤ c → a + 0 ≤ c
    none a b c p q = omega arith

    one : (a b c d : ℕ) → a ≤ b → b ≤ c → nat_le d c ≡ false → a + 1 ≤ d
    one a b c d p q r = grind (arith)

    nothing : a + 0 ≤ borrow_limit_on f y
    nothing = none a (count (has_received y) (f.handles (node_of_port f y.receiver))) (borrow_limit_on f y) fewer (has.few y)

    on : (w : Way) (k : ℕ) → is_lost f.ports f.expired w ≡ false → IsBelow f w → (b : Bool) → (b ≡ true → y ≡ w)
        → a + length (if b then k ∷ [] else []) ≤ borrow_limit_on f y
    on w k there below true e =
        one a (count (has_received y) (f.handles (node_of_port f y.receiver))) (f.borrowed y) (borrow_limit_on f y) fewer
        (has.counts y (subst (λ u. is_lost f.ports f.expired u ≡ false) (sym (e refl)) there)) (subst (IsBelow f) (sym (e refl)) below)
    on w k there below false e = nothing

    taken : (d : Doing) → HoldsIn f d → a + length (taken_by y d) ≤ borrow_limit_on f y
    taken (Judging x w m left seen) p = on w m.serial (p.1).2 p.2 (same_way y w) (same_way-true y w)
    taken (Stale x w m left seen) p = on w m.serial (p.1).2 p.2 (same_way y w) (same_way-true y w)
    taken (Ended (Receives x w m)) p = on w m.serial (p.1).2 p.2 (same_way y w) (same_way-true y w)
    taken d p = nothing

held_within : (f : Fixed) (node : ℕ) (y : Way) (d : Doing) → Has f → HoldsIn f d
    → length (held_on y (f.handles (node_of_port f y.receiver)) (if node_of_port f y.receiver == node then Some d else None)) ≤ borrow_limit_on f y
held_within f node y d has holds =
    let hs : List Handle = f.handles (node_of_port f y.receiver) in
    let here : Handle → Bool = λ h. has_received y h && not (is_given_up h d) in
    either (λ (o : Option Doing). length (held_on y hs o) ≤ borrow_limit_on f y) (node_of_port f y.receiver == node) (Some d) None
    (λ u. subst (λ k. k ≤ borrow_limit_on f y)
    (sym (length-append (map (λ (h : Handle). h.message.serial) (filter here hs)) (taken_by y d)
    ∙ ap (λ k. k + length (taken_by y d)) (length-map (filter here hs) (λ (h : Handle). h.message.serial))))
    (with_taken f node (count here hs) y d has holds (count-fewer here (has_received y) hs (λ h a e. (split (has_received y h) (not (is_given_up h d)) e).0))))
    (λ u. subst (λ k. k ≤ borrow_limit_on f y) (sym (length-map (filter (has_received y) hs) (λ (h : Handle). h.message.serial))) (has.few y))

pub borrows_stay_within : BorrowsStayWithin
borrows_stay_within s node call c ms v left named may =
    let d : Doing = start s node c call in
    let t : State = moved_by s ms in
    let g : Goes t node (left_by s node d ms) = goes_by s node d ms (begins s node c call (left_calm s left) named) may in
    subst (λ (f : Fixed). length (had_on (amid s node call c ms) v) ≤ borrow_limit_on f v) (moved_by-fixed s ms)
    (held_within t.fixed node v (left_by s node d ms) (g.owned).has g.holds)
