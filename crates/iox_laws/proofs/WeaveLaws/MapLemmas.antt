-- Ways, and values at each name.
use Rattle.std.specs.Prelude.{◌≡◌, ℕ, Bool, true, false, not, ◌&&◌, ◌||◌, if◌then◌else◌, ◌==◌, List, [], ◌∷◌, map, filter, refl}
use Rattle.std.specs.List.{list_any}
use Rattle.std.proofs.Common.{sym, ap, ◌∙◌, eq-eqb, true≢false, eqb-true}
use Rattle.iox_model.specs.declared.kind.Role.{Role}
use Rattle.iox_model.specs.declared.way.Way.{Way}
use Rattle.iox_model.specs.Settings.{same_role}
use Rattle.iox_model.specs.States.{Port, Fixed}
use Rattle.iox_model.specs.Maps.{has_number, same_way, put, has_way}
use Rattle.iox_model.specs.Peers.{ports_of_role, forgot_port, others}

-- what holds of both branches
pub either : {A : Type 0} (P : A → Type 0) (b : Bool) (x y : A) → (b ≡ true → P x) → (b ≡ false → P y) → P (if b then x else y)
either P true x y f g = f refl
either P false x y f g = g refl

pub same_way-refl : (w : Way) → same_way w w ≡ true
same_way-refl w = rw (eq-eqb w.sender w.sender refl, eq-eqb w.receiver w.receiver refl, eq-eqb w.lane w.lane refl) refl

pub is_in-first : (w : Way) (left : List Way) → has_way w (w ∷ left) ≡ true
is_in-first w left = rw (same_way-refl w) refl

pub eqb-refl : (n : ℕ) → (n == n) ≡ true
eqb-refl n = eq-eqb n n refl

both : (a b : Bool) → (a && b) ≡ true → (a ≡ true) × (b ≡ true)
both true b e = (refl, e)
both false b e = absurd (true≢false (sym e))

pub same_way-true : (v w : Way) → same_way v w ≡ true → v ≡ w
same_way-true v w e =
    let p : ((v.sender == w.sender) ≡ true) × (((v.receiver == w.receiver) && (v.lane == w.lane)) ≡ true) = both _ _ e in
    let q : ((v.receiver == w.receiver) ≡ true) × ((v.lane == w.lane) ≡ true) = both _ _ p.1 in
    λ i. record {
      sender = eqb-true v.sender w.sender p.0 i;
      receiver = eqb-true v.receiver w.receiver q.0 i;
      lane = eqb-true v.lane w.lane q.1 i;
    }

pub same_way-flip : (v w : Way) (b : Bool) → same_way w v ≡ false → same_way v w ≡ b → b ≡ false
same_way-flip v w true e h = absurd (true≢false (sym (same_way-refl w) ∙ ap (same_way w) (sym (same_way-true v w h)) ∙ e))
same_way-flip v w false e h = refl

twice : {A : Type 0} (c : Bool) (x y z : A) → (if c then x else (if c then y else z)) ≡ (if c then x else z)
twice true x y z = refl
twice false x y z = refl

pub put_twice : {A : Type 0} (f : Way → A) (w : Way) (a b : A) → put (put f w a) w b ≡ put f w b
put_twice f w a b = λ i v. twice (same_way v w) b a (f v) i

pub put_there : {A : Type 0} (f : Way → A) (w : Way) (a : A) → put f w a w ≡ a
put_there f w a = rw (same_way-refl w) refl

pub put-else : {A : Type 0} (f : Way → A) (w : Way) (a : A) (v : Way) → same_way v w ≡ false → put f w a v ≡ f v
put-else f w a v e = rw e refl

same_there : {A : Type 0} (f : Way → A) (w : Way) (a : A) (v : Way) → f w ≡ a → (c : Bool) → same_way v w ≡ c → (if c then a else f v) ≡ f v
same_there f w a v e true h = sym e ∙ ap f (sym (same_way-true v w h))
same_there f w a v e false h = refl

pub put_same : {A : Type 0} (f : Way → A) (w : Way) (a : A) → f w ≡ a → put f w a ≡ f
put_same f w a e = λ i v. same_there f w a v e (same_way v w) refl i

-- ---- nobody is forgotten

none_among : (ports : List Port) (test : Port → Bool) → list_any (λ p. test p && has_number p.node []) ports ≡ false
none_among [] test = refl
none_among (p ∷ ps) test = never (test p) (list_any (λ q. test q && has_number q.node []) ps) (none_among ps test)
  where
    never : (a b : Bool) → b ≡ false → ((a && false) || b) ≡ false
    never true b e = e
    never false b e = e

-- Where a node forgot nobody, no port is forgotten by it.
pub nobody_is_forgotten : (f : Fixed) (node port : ℕ) → f.forgot node ≡ [] → forgot_port f node port ≡ false
nobody_is_forgotten f node port e =
    ap (λ dead. list_any (λ p. (p.number == port) && has_number p.node dead) f.ports) e ∙ none_among f.ports (λ p. p.number == port)

all_others : (ports : List Port) (role : Role)
    → filter (λ p. same_role p.role role && not (has_number p.node [])) ports ≡ filter (λ p. same_role p.role role) ports
all_others [] role = refl
all_others (p ∷ ps) role = here (same_role p.role role) (all_others ps role)
  where
    here : (a : Bool) {xs ys : List Port} → xs ≡ ys → (if a && true then p ∷ xs else xs) ≡ (if a then p ∷ ys else ys)
    here true e = ap (λ zs. p ∷ zs) e
    here false e = e

-- and the others are all ports of the other role.
pub others_are_all : (f : Fixed) (node : ℕ) (role : Role) → f.forgot node ≡ [] → others f node role ≡ ports_of_role f role
others_are_all f node role e =
    ap (λ dead. map (λ p. p.number) (filter (λ p. same_role p.role role && not (has_number p.node dead)) f.ports)) e
    ∙ ap (λ ps. map (λ (p : Port). p.number) ps) (all_others f.ports role)
