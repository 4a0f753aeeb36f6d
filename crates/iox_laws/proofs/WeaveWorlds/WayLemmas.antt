-- Lists of ways: what stands there once one is taken out, and that the ways of a send are apart.
use Rattle.std.specs.Prelude.{◌≡◌, ℕ, Bool, true, false, not, ◌||◌, ◌==◌, List, [], ◌∷◌, ◌++◌, map, flat_map, refl}
use Rattle.std.specs.List.{range_with_len}
use Rattle.std.proofs.Common.{sym, ap, ◌∙◌, subst, true≢false, arith}
use Rattle.iox_model.specs.declared.way.Way.{Way}
use Rattle.iox_model.specs.declared.kind.Role.TheVariants.{Client, Server}
use Rattle.iox_model.specs.Doings.{Sending}
use Rattle.iox_model.specs.States.{Handle, Fixed}
use Rattle.iox_model.specs.Requests.{is_request, targets}
use Rattle.iox_model.specs.Loans.{request_ways, response_ways, lending_ways}
use Rattle.iox_model.specs.Handles.{is_request_loan}
use Rattle.iox_model.specs.Maps.{has_number, same_way, has_way, without_way, not_in, AreDistinctWays, AreDistinct}
use Rattle.iox_model.specs.Messages.{request_way, response_way}
use Rattle.iox_model.specs.Peers.{lanes_of, others, lanes_to}
use Rattle.iox_laws.proofs.WeaveLaws.CallLaws.{not-true}
use Rattle.iox_laws.proofs.WeaveLaws.MapLemmas.{either, same_way-true, same_way-flip}
use Rattle.iox_laws.proofs.WeaveLedger.Truths.{by_cases, or-left, or-right, or-rest, or-false, or-neither, or-through, false_if}

-- ---- truths

or-assoc : (a b c : Bool) → (a || (b || c)) ≡ ((a || b) || c)
or-assoc true b c = refl
or-assoc false b c = refl

-- ---- one is taken out

pub has_way-without : (v w : Way) (left : List Way) → has_way v (without_way w left) ≡ true → has_way v left ≡ true
has_way-without v w [] e = e
has_way-without v w (u ∷ us) e =
    either (λ ws. has_way v ws ≡ true → has_way v (u ∷ us) ≡ true) (same_way u w) us (u ∷ without_way w us)
    (λ b p. or-right (same_way v u) (has_way v us) p)
    (λ b p. or-through (same_way v u) (has_way v (without_way w us)) (has_way v us) (has_way-without v w us) p) e

-- where each stands once, what was taken out is there no more
gone : (v w : Way) (left : List Way) → AreDistinctWays left → v ≡ w → has_way v (without_way w left) ≡ false
gone v w [] apart is = refl
gone v w (u ∷ us) apart is =
    either (λ ws. has_way v ws ≡ false) (same_way u w) us (u ∷ without_way w us)
    (λ same. subst (λ x. has_way x us ≡ false) (same_way-true u w same ∙ sym is) apart.0)
    (λ other. or-neither (same_way v u) (has_way v (without_way w us))
    (subst (λ x. same_way x u ≡ false) (sym is) (same_way-flip w u (same_way w u) other refl)) (gone v w us apart.1 is))

pub apart-gone : (v w : Way) (left : List Way) → AreDistinctWays left → has_way v (without_way w left) ≡ true → same_way v w ≡ false
apart-gone v w left apart e =
    false_if (same_way v w) (λ same. true≢false (sym e ∙ gone v w left apart (same_way-true v w same)))

pub apart-without : (w : Way) (left : List Way) → AreDistinctWays left → AreDistinctWays (without_way w left)
apart-without w [] apart = tt
apart-without w (u ∷ us) apart =
    either AreDistinctWays (same_way u w) us (u ∷ without_way w us) (λ e. apart.1)
    (λ e. (
      false_if (has_way u (without_way w us)) (λ p. true≢false (sym (has_way-without u w us p) ∙ apart.0)),
      apart-without w us apart.1,
    ))

-- ---- those that are not among others

pub not_in-has : (v : Way) (full ways : List Way) → has_way v (not_in full ways) ≡ true → (has_way v ways ≡ true) × (has_way v full ≡ false)
not_in-has v full [] e = absurd (true≢false (sym e))
not_in-has v full (u ∷ us) e =
    either (λ ws. has_way v ws ≡ true → (has_way v (u ∷ us) ≡ true) × (has_way v full ≡ false)) (not (has_way u full)) (u ∷ not_in full us) (not_in full us)
    (λ is p. by_cases (same_way v u)
    (λ same. (or-left (same_way v u) (has_way v us) same, subst (λ x. has_way x full ≡ false) (sym (same_way-true v u same)) (not-true (has_way u full) is)))
    (λ other. later (not_in-has v full us (or-rest (same_way v u) (has_way v (not_in full us)) p other))))
    (λ b p. later (not_in-has v full us p)) e
  where
    later : (has_way v us ≡ true) × (has_way v full ≡ false) → (has_way v (u ∷ us) ≡ true) × (has_way v full ≡ false)
    later q = (or-right (same_way v u) (has_way v us) q.0, q.1)

pub apart-not_in : (full ways : List Way) → AreDistinctWays ways → AreDistinctWays (not_in full ways)
apart-not_in full [] apart = tt
apart-not_in full (u ∷ us) apart =
    either AreDistinctWays (not (has_way u full)) (u ∷ not_in full us) (not_in full us)
    (λ e. (
      false_if (has_way u (not_in full us)) (λ p. true≢false (sym (not_in-has u full us p).0 ∙ apart.0)),
      apart-not_in full us apart.1,
    ))
    (λ e. apart-not_in full us apart.1)

-- ---- the ways of a send

pub same_number : (n k : ℕ) → n ≡ k → (k == n) ≡ true
same_number n k e = grind (arith)

other_request : (port n k : ℕ) → (k == n) ≡ false → same_way (request_way port n) (request_way port k) ≡ false
other_request port n k e =
    false_if (same_way (request_way port n) (request_way port k))
    (λ same. true≢false (sym (same_number n k (ap (λ (w : Way). w.receiver) (same_way-true (request_way port n) (request_way port k) same))) ∙ e))

not_among : (port n : ℕ) (ns : List ℕ) → has_number n ns ≡ false → has_way (request_way port n) (map (request_way port) ns) ≡ false
not_among port n [] e = refl
not_among port n (k ∷ ks) e =
    let q : ((k == n) ≡ false) × (has_number n ks ≡ false) = or-false (k == n) (has_number n ks) e in
    or-neither (same_way (request_way port n) (request_way port k)) (has_way (request_way port n) (map (request_way port) ks))
    (other_request port n k q.0) (not_among port n ks q.1)

pub apart-requests : (port : ℕ) (to : List ℕ) → AreDistinct to → AreDistinctWays (map (request_way port) to)
apart-requests port [] distinct = tt
apart-requests port (n ∷ ns) distinct = (not_among port n ns distinct.0, apart-requests port ns distinct.1)

-- ---- from the own port

-- what holds of each way that is made so holds of those there
pub all_map : (P : Way → Type 0) (to : ℕ → Way) → ((n : ℕ) → P (to n)) → (ns : List ℕ) (v : Way) → has_way v (map to ns) ≡ true → P v
all_map P to each [] v e = absurd (true≢false (sym e))
all_map P to each (n ∷ ns) v e =
    by_cases (same_way v (to n)) (λ same. subst P (sym (same_way-true v (to n) same)) (each n))
    (λ other. all_map P to each ns v (or-rest (same_way v (to n)) (has_way v (map to ns)) e other))

pub from_map : (port : ℕ) (to : ℕ → Way) → ((n : ℕ) → (to n).sender ≡ port) → (ns : List ℕ) (v : Way) → has_way v (map to ns) ≡ true → v.sender ≡ port
from_map port to from ns v e = all_map (λ w. w.sender ≡ port) to from ns v e

-- and to those that they go to
pub to_has : (to : ℕ → Way) → ((n : ℕ) → (to n).receiver ≡ n) → (ns : List ℕ) (v : Way) → has_way v (map to ns) ≡ true → has_number v.receiver ns ≡ true
to_has to goes [] v e = e
to_has to goes (n ∷ ns) v e =
    by_cases (same_way v (to n))
    (λ same. or-left (n == v.receiver) (has_number v.receiver ns)
    (same_number v.receiver n (ap (λ (w : Way). w.receiver) (same_way-true v (to n) same) ∙ goes n)))
    (λ other. or-right (n == v.receiver) (has_number v.receiver ns)
    (to_has to goes ns v (or-rest (same_way v (to n)) (has_way v (map to ns)) e other)))

has_way-append : (v : Way) (xs ys : List Way) → has_way v (xs ++ ys) ≡ (has_way v xs || has_way v ys)
has_way-append v [] ys = refl
has_way-append v (x ∷ xs) ys = ap (λ b. same_way v x || b) (has_way-append v xs ys) ∙ or-assoc (same_way v x) (has_way v xs) (has_way v ys)

from_flat : (port : ℕ) (to : ℕ → List Way) → ((n : ℕ) (v : Way) → has_way v (to n) ≡ true → v.sender ≡ port)
    → (ns : List ℕ) (v : Way) → has_way v (flat_map to ns) ≡ true → v.sender ≡ port
from_flat port to from [] v e = absurd (true≢false (sym e))
from_flat port to from (n ∷ ns) v e =
    by_cases (has_way v (to n)) (from n v)
    (λ other. from_flat port to from ns v
    (or-rest (has_way v (to n)) (has_way v (flat_map to ns)) (sym (has_way-append v (to n) (flat_map to ns)) ∙ e) other))

pub from-targets : (x : Sending) (v : Way) → has_way v (targets x) ≡ true → v.sender ≡ x.loan.port
from-targets x =
    either (λ ways. (v : Way) → has_way v ways ≡ true → v.sender ≡ x.loan.port) (is_request x)
    (map (request_way x.loan.port) x.to) (map (λ client. response_way client x.loan.lane x.loan.port) x.to)
    (λ u. from_map x.loan.port (request_way x.loan.port) (λ n. refl) x.to)
    (λ u. from_map x.loan.port (λ client. response_way client x.loan.lane x.loan.port) (λ n. refl) x.to)

pub from-lending : (f : Fixed) (h : Handle) (v : Way) → has_way v (lending_ways f h) ≡ true → v.sender ≡ h.port
from-lending f h =
    either (λ ways. (v : Way) → has_way v ways ≡ true → v.sender ≡ h.port) (is_request_loan h.kind)
    (request_ways f h.node h.port) (response_ways f h.node h.port)
    (λ u. from_map h.port (request_way h.port) (λ n. refl) (others f h.node Server))
    (λ u. from_flat h.port (lanes_to f h.port)
    (λ client. from_map h.port (λ lane. response_way client lane h.port) (λ n. refl) (range_with_len 0 (lanes_of f client))) (others f h.node Client))
