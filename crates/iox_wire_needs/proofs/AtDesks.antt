-- What is so of the desk that is found is so of each desk of that port, since there is one.
use Rattle.iox_wire_needs.specs.Uses.{HaveFewWays}
use Rattle.iox_wire_keeps.specs.LocalsDesks.{on_desk}
use Rattle.iox_laws.proofs.WeaveLaws.WholeLemmas.{some-is}
use Rattle.std.proofs.lemmas.Option.{none-some}
use Rattle.iox_laws.proofs.WeaveLaws.MapLemmas.{same_way-true}
use Rattle.std.specs.Prelude.{find, length, map, ◌^◌}
use Rattle.std.proofs.Common.{Bool, List, Some, [], ap, eqb-true, false, if◌then◌else◌, inl, inr, refl, subst, sym, true, true≢false, ℕ, ◌+◌, ◌<◌, ◌==◌, ◌∙◌, ◌∷◌, ◌≡◌}
use Rattle.iox_model.specs.Maps.{same_way}
use Rattle.iox_model.specs.declared.way.Way.{Way}
use Rattle.iox_wire_keeps.specs.Borrowed.{Borrowed}
use Rattle.iox_wire_keeps.specs.Desk.{Desk}
use Rattle.iox_wire_keeps.specs.Entry.{Entry}
use Rattle.iox_wire_keeps.specs.Counts.{AreOfDifferentWays, AreOfOtherWays, IsBelow}
use Rattle.iox_wire_keeps.specs.Desks.{AreOfDifferentPorts, AreOfOtherPorts, AtDesk, IsHeldAt, MayCount, MayGiveUp}
use Rattle.iox_wire_keeps.specs.Rows.{AreBelow}
use Rattle.iox_laws.proofs.WeaveLedger.Lists.{IsAmong}

-- of other ports nothing is asked
others : (P : Desk → Type 0) (port : ℕ) (ds : List Desk) → AreOfOtherPorts port ds → AtDesk P port ds
others P port [] apart = tt
others P port (d ∷ ds) apart = (λ is. absurd (true≢false (sym is ∙ apart.0)), others P port ds apart.1)

pub at_desk : (P : Desk → Type 0) (port : ℕ) (ds : List Desk) → AreOfDifferentPorts ds → ((d : Desk) → find (λ d. d.port == port) ds ≡ Some d → P d) → AtDesk P port ds
at_desk P port [] apart found = tt
at_desk P port (d ∷ ds) apart found = by_port (d.port == port) refl found (at_desk P port ds apart.1)
  where
    by_port : (b : Bool) → (d.port == port) ≡ b → ((k : Desk) → (if b then Some d else find (λ k. k.port == port) ds) ≡ Some k → P k)
        → (((k : Desk) → find (λ k. k.port == port) ds ≡ Some k → P k) → AtDesk P port ds) → ((d.port == port) ≡ true → P d) × AtDesk P port ds
    by_port true is first rest = (λ same. first d refl, others P port ds (subst (λ i. AreOfOtherPorts i ds) (eqb-true d.port port is) apart.0))
    by_port false is first rest = (λ same. absurd (true≢false (sym same ∙ is)), rest first)

pub few_found : (port : ℕ) (ds : List Desk) → HaveFewWays ds → (d : Desk) → find (λ d. d.port == port) ds ≡ Some d → length d.recorded + 3 < 2 ^ 64
few_found port [] few d found = absurd (none-some d found)
few_found port (k ∷ ds) few d found = by_port (k.port == port) found (few_found port ds few.1 d)
  where
    by_port : (b : Bool) → (if b then Some k else find (λ d. d.port == port) ds) ≡ Some d → (find (λ d. d.port == port) ds ≡ Some d → length d.recorded + 3 < 2 ^ 64)
        → length d.recorded + 3 < 2 ^ 64
    by_port true is rest = subst (λ (i : Desk). length i.recorded + 3 < 2 ^ 64) (some-is k d is) few.0
    by_port false is rest = rest is

-- desks stay those of different ports as one is changed
others_after : (change : Desk → Desk) → ((d : Desk) → (change d).port ≡ d.port) → (port q : ℕ) (ds : List Desk) → AreOfOtherPorts q ds
    → AreOfOtherPorts q (map (on_desk port change) ds)
others_after change keeps port q [] apart = tt
others_after change keeps port q (d ∷ ds) apart = (ap (λ i. i == q) (port_is (d.port == port)) ∙ apart.0, others_after change keeps port q ds apart.1)
  where
    port_is : (b : Bool) → (if b then change d else d).port ≡ d.port
    port_is true = keeps d
    port_is false = refl

pub different_after : (change : Desk → Desk) → ((d : Desk) → (change d).port ≡ d.port) → (port : ℕ) (ds : List Desk) → AreOfDifferentPorts ds
    → AreOfDifferentPorts (map (on_desk port change) ds)
different_after change keeps port [] apart = tt
different_after change keeps port (d ∷ ds) apart = (
  subst (λ i. AreOfOtherPorts i (map (on_desk port change) ds)) (sym (port_is (d.port == port))) (others_after change keeps port d.port ds apart.0),
  different_after change keeps port ds apart.1,
)
  where
    port_is : (b : Bool) → (if b then change d else d).port ≡ d.port
    port_is true = keeps d
    port_is false = refl

pub may_count : (port : ℕ) (ds : List Desk) → AtDesk (λ d. d.loans + 1 < 2 ^ 64) port ds → MayCount port ds
may_count port [] all = tt
may_count port (d ∷ ds) all = (all.0, may_count port ds all.1)

pub may_give_up : (e : Entry) (ds : List Desk) → AtDesk (IsHeldAt e) e.port ds → MayGiveUp e ds
may_give_up e [] all = tt
may_give_up e (d ∷ ds) all = (all.0, may_give_up e ds all.1)

-- ---- counts

other_ways : (n : ℕ) (w : Way) (bs : List Borrowed) → AreOfOtherWays w bs → IsBelow n w bs
other_ways n w [] apart = tt
other_ways n w (b ∷ bs) apart = (λ is. absurd (true≢false (sym is ∙ apart.0)), other_ways n w bs apart.1)

pub is_below : (n : ℕ) (w : Way) (bs : List Borrowed) → AreOfDifferentWays bs
    → ((b : Borrowed) → find (λ b. same_way b.way w) bs ≡ Some b → b.count < n) → IsBelow n w bs
is_below n w [] apart found = tt
is_below n w (b ∷ bs) apart found = by_way (same_way b.way w) refl found (is_below n w bs apart.1)
  where
    by_way : (c : Bool) → same_way b.way w ≡ c → ((k : Borrowed) → (if c then Some b else find (λ k. same_way k.way w) bs) ≡ Some k → k.count < n)
        → (((k : Borrowed) → find (λ k. same_way k.way w) bs ≡ Some k → k.count < n) → IsBelow n w bs) → (same_way b.way w ≡ true → b.count < n) × IsBelow n w bs
    by_way true is first rest = (λ same. first b refl, other_ways n w bs (subst (λ v. AreOfOtherWays v bs) (same_way-true b.way w is) apart.0))
    by_way false is first rest = (λ same. absurd (true≢false (sym same ∙ is)), rest first)

pub are_below : (n : ℕ) (es : List Entry) → ((e : Entry) → IsAmong e es → e.number < n) → AreBelow n es
are_below n [] low = tt
are_below n (e ∷ es) low = (low e (inl refl), are_below n es (λ k among. low k (inr among)))
