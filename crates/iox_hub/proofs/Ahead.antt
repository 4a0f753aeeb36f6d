-- Ports ascend, so the first that a node holds is the least, and what was passed stays passed as values are released.
use Rattle.std.specs.Prelude.{◌≡◌, ℕ, zero, suc, ◌<◌, ◌≤◌, Bool, true, false, ◌&&◌, if◌then◌else◌, ◌==◌, nat_lt, nat_le, List, [], ◌∷◌, length, take, map, filter, min, Option, Some, None, IsSome, is_some, refl}
use Rattle.std.specs.List.{list_all}
use Rattle.std.specs.Option.{option_map, option_map_or}
use Rattle.std.proofs.Common.{sym, ap, subst, ◌∙◌, arith, true≢false, eqb-true, inl, inr}
use Rattle.std.proofs.lemmas.Bool.{ltb-true}
use Rattle.std.proofs.lemmas.List.{take_all}
use Rattle.std.proofs.lemmas.Option.{none-some, same_Some}
use Rattle.iox_model.specs.Maps.{first_of, rest_of}
use Rattle.iox_model.specs.Services.{numbers_of_node}
use Rattle.iox_laws.specs.ServiceLaws.Listings.{are_ascending}
use Rattle.iox_laws.proofs.WeaveLaws.WholeLemmas.{split}
use Rattle.iox_laws.proofs.WeaveLedger.Lists.{IsAmong, among-filter, among-map, filter-among, map-among, rest-among}
use Rattle.iox_laws.proofs.WeaveLedger.Truths.{both_true}
use Rattle.iox_laws.proofs.RunLaws.Cleanups.{IsValue}
use Rattle.iox_laws.proofs.RunLaws.Values.{numbers_are_values}
use Rattle.iox_laws.proofs.ServiceLaws.Ascending.{ascends_filter}
use Rattle.iox_laws.proofs.ServiceLaws.Listings.{ports_ascend}
use Rattle.iox_laws.proofs.ServiceLaws.Releasing.{values_are_numbers}
use Rattle.iox_handles.specs.Least.{least, lesser}
use Rattle.iox_handles.specs.declared.numbered.Numbered.{Numbered}
use Rattle.iox_hub_ports.specs.Ports.{info_at}
use Rattle.iox_tables.specs.HubBooks.Hubs.{AreInOrder}
use Rattle.iox_tables.specs.HubLoans.Questions.{kind_by, kind_in, kind_of_role}
use Rattle.iox_tables.specs.HubStates.States.{Given, fixed_of, port_of}
use Rattle.iox_tables.specs.HubStates.Tables.{HandleState, HubTables, PortState, numbers_of, port_in}
use Rattle.iox_tables.specs.HubStates.Wirings.{handle_in}
use Rattle.iox_tables.proofs.HubKeeping.Ordered.{names_apart}
use Rattle.iox_hub.specs.Hubs.{HubState, IsReached, given_by, state_of_hub}
use Rattle.iox_hub.specs.Keeping.{IsSame, KeepsOthers}
use Rattle.iox_hub.specs.Listings.{NoneBefore, held_number, held_ports}
use Rattle.iox_hub.specs.Sending.{HasNothing}
use Rattle.iox_hub.proofs.Ascending.{above_all}
use Rattle.iox_hub.proofs.ListingLemmas.{all_as}
use Rattle.iox_hub.proofs.Named.{found_is_handle}
use Rattle.iox_hub.proofs.ValueLemmas.{own_port, port_among, value_has_kind}

-- ---- ascending lists

pub first_is_least : (ns : List ℕ) → are_ascending ns ≡ true → first_of ns ≡ least ns
first_is_least [] e = refl
first_is_least (n ∷ []) e = refl
first_is_least (n ∷ m ∷ ms) e =
    let p : (list_all (nat_lt n) (m ∷ ms) ≡ true) × (are_ascending (m ∷ ms) ≡ true) = split (list_all (nat_lt n) (m ∷ ms)) (are_ascending (m ∷ ms)) e in
    let less : n < m = ltb-true n m (split (nat_lt n m) (list_all (nat_lt n) ms) p.0).0 in
    ap (λ k. Some k) (lowest less) ∙ ap (lesser (Some n)) (first_is_least (m ∷ ms) p.1)
  where
    lowest : n < m → n ≡ min n m
    lowest less = omega (arith, less)

pub ports_in_order : (h : HubState) → IsReached h → are_ascending (numbers_of h.control.tables.ports) ≡ true
ports_in_order h reached =
    subst (λ (ns : List ℕ). are_ascending ns ≡ true)
    (all_as (port_of (given_by reached.0 h)) (λ p. p.number) h.control.tables.ports)
    (ports_ascend (state_of_hub reached.0 h) reached.1)

held_ascend : (ports : List PortState) (node : ℕ) → are_ascending (numbers_of ports) ≡ true → are_ascending (held_ports ports node) ≡ true
held_ascend ports node order = ascends_filter (λ (p : PortState). p.number) (λ p. (p.node == node) && p.held) ports order

pub first_held_is_least : (ports : List PortState) (node : ℕ) → are_ascending (numbers_of ports) ≡ true → first_of (held_ports ports node) ≡ least (held_ports ports node)
first_held_is_least ports node order = first_is_least (held_ports ports node) (held_ascend ports node order)

-- ---- places

-- before a port with a lesser number each has a lesser one
pub all_below : (ports : List PortState) (at m : ℕ) → are_ascending (numbers_of ports) ≡ true
    → option_map_or (λ i. nat_lt i.number m) (info_at ports at) false ≡ true → list_all (λ p. nat_lt p.number m) (take (suc at) ports) ≡ true
all_below [] at m order is = refl
all_below (p ∷ ps) zero m order is = both_true (nat_lt p.number m) true is refl
all_below (p ∷ ps) (suc at) m order is =
    let q : (list_all (nat_lt p.number) (numbers_of ps) ≡ true) × (are_ascending (numbers_of ps) ≡ true)
    = split (list_all (nat_lt p.number) (numbers_of ps)) (are_ascending (numbers_of ps)) order in
    let rest = all_below ps at m q.1 is in
    both_true (nat_lt p.number m) (list_all (λ r. nat_lt r.number m) (take (suc at) ps)) (lower ps at q.0 is rest) rest
  where
    less : (a b c : ℕ) → nat_lt a b ≡ true → nat_lt b c ≡ true → nat_lt a c ≡ true
    less a b c e f = grind (arith)

    lower : (rs : List PortState) (i : ℕ) → list_all (nat_lt p.number) (numbers_of rs) ≡ true
        → option_map_or (λ z. nat_lt z.number m) (info_at rs i) false ≡ true
        → list_all (λ r. nat_lt r.number m) (take (suc i) rs) ≡ true → nat_lt p.number m ≡ true
    lower [] i above is rest = absurd (true≢false (sym is))
    lower (r ∷ rs) i above is rest =
        less p.number r.number m (split (nat_lt p.number r.number) (list_all (nat_lt p.number) (numbers_of rs)) above).0
        (split (nat_lt r.number m) (list_all (λ z. nat_lt z.number m) (take i rs)) rest).0

-- where none that is held is lesser, none before such a place is held
pub none_passed : (ports : List PortState) (node m place : ℕ) → list_all (nat_le m) (held_ports ports node) ≡ true
    → list_all (λ p. nat_lt p.number m) (take place ports) ≡ true → held_ports (take place ports) node ≡ []
none_passed [] node m zero none below = refl
none_passed [] node m (suc place) none below = refl
none_passed (p ∷ ps) node m zero none below = refl
none_passed (p ∷ ps) node m (suc place) none below =
    let b : (nat_lt p.number m ≡ true) × (list_all (λ r. nat_lt r.number m) (take place ps) ≡ true)
    = split (nat_lt p.number m) (list_all (λ r. nat_lt r.number m) (take place ps)) below in
    by_case ((p.node == node) && p.held) b.0 none (λ rest. none_passed ps node m place rest b.1)
  where
    apart : (a c : ℕ) → nat_le c a ≡ true → nat_lt a c ≡ true → ⊥
    apart a c e f = grind (arith)

    by_case : (h : Bool) → nat_lt p.number m ≡ true
        → list_all (nat_le m) (map (λ q. q.number) (if h then p ∷ filter (λ q. (q.node == node) && q.held) ps else filter (λ q. (q.node == node) && q.held) ps)) ≡ true
        → (list_all (nat_le m) (held_ports ps node) ≡ true → held_ports (take place ps) node ≡ [])
        → map (λ (q : PortState). q.number) (if h then p ∷ filter (λ q. (q.node == node) && q.held) (take place ps) else filter (λ q. (q.node == node) && q.held) (take place ps)) ≡ []
    by_case true less all rest = absurd (apart p.number m (split (nat_le m p.number) (list_all (nat_le m) (held_ports ps node)) all).0 less)
    by_case false less all rest = rest all

-- the first that is held, behind those that are not
pub first_found : (ports : List PortState) (node at n : ℕ) → held_ports (take at ports) node ≡ [] → held_number node (info_at ports at) ≡ Some n
    → Some n ≡ first_of (held_ports ports node)
first_found [] node at n none is = absurd (none-some n is)
first_found (p ∷ ps) node zero n none is = by_case ((p.node == node) && p.held) is
  where
    by_case : (h : Bool) → (if h then Some p.number else None) ≡ Some n
        → Some n ≡ first_of (map (λ q. q.number) (if h then p ∷ filter (λ q. (q.node == node) && q.held) ps else filter (λ q. (q.node == node) && q.held) ps))
    by_case true e = sym e
    by_case false e = absurd (none-some n e)
first_found (p ∷ ps) node (suc at) n none is = by_case ((p.node == node) && p.held) none (λ rest. first_found ps node at n rest is)
  where
    by_case : (h : Bool)
        → map (λ (q : PortState). q.number) (if h then p ∷ filter (λ q. (q.node == node) && q.held) (take at ps) else filter (λ q. (q.node == node) && q.held) (take at ps)) ≡ []
        → (held_ports (take at ps) node ≡ [] → Some n ≡ first_of (held_ports ps node))
        → Some n ≡ first_of (map (λ q. q.number) (if h then p ∷ filter (λ q. (q.node == node) && q.held) ps else filter (λ q. (q.node == node) && q.held) ps))
    by_case true e rest = absurd (some_none e)
      where
        some_none : p.number ∷ held_ports (take at ps) node ≡ [] → ⊥
        some_none e = none-some p.number (sym (ap first_of e))
    by_case false e rest = rest e

-- one more that is not held
pub none_further : (ports : List PortState) (node at : ℕ) → held_ports (take at ports) node ≡ [] → held_number node (info_at ports at) ≡ None
    → held_ports (take (suc at) ports) node ≡ []
none_further [] node at none is = refl
none_further (p ∷ ps) node zero none is = by_case ((p.node == node) && p.held) is
  where
    by_case : (h : Bool) → (if h then Some p.number else None) ≡ None → map (λ (q : PortState). q.number) (if h then p ∷ [] else []) ≡ []
    by_case true e = absurd (none-some p.number (sym e))
    by_case false e = refl
none_further (p ∷ ps) node (suc at) none is = by_case ((p.node == node) && p.held) none (λ rest. none_further ps node at rest is)
  where
    by_case : (h : Bool)
        → map (λ (q : PortState). q.number) (if h then p ∷ filter (λ q. (q.node == node) && q.held) (take at ps) else filter (λ q. (q.node == node) && q.held) (take at ps)) ≡ []
        → (held_ports (take at ps) node ≡ [] → held_ports (take (suc at) ps) node ≡ [])
        → map (λ (q : PortState). q.number) (if h then p ∷ filter (λ q. (q.node == node) && q.held) (take (suc at) ps) else filter (λ q. (q.node == node) && q.held) (take (suc at) ps)) ≡ []
    by_case true e rest = absurd (none-some p.number (sym (ap first_of e)))
    by_case false e rest = rest e

pub none_at_all : (ports : List PortState) (node at : ℕ) → length ports ≤ at → held_ports (take at ports) node ≡ [] → None ≡ first_of (held_ports ports node)
none_at_all ports node at all none = ap first_of (sym none ∙ ap (λ ps. held_ports ps node) (take_all at ports all))

-- ---- one release

-- a port whose own value is there
record HeldPort (t : HubTables) (node n : ℕ) : Type 0 where
  pub port : PortState
  pub among : IsAmong port t.ports
  pub number : port.number ≡ n
  pub own : ((port.node == node) && port.held) ≡ true

held_port : (t : HubTables) (node n : ℕ) → IsAmong n (held_ports t.ports node) → HeldPort t node n
held_port t node n among =
    let m = map-among (λ (p : PortState). p.number) n (filter (λ p. (p.node == node) && p.held) t.ports) among in
    let f = filter-among (λ (p : PortState). (p.node == node) && p.held) m.0 t.ports m.1 in
    record { port = m.0; among = f.0; number = sym m.2; own = f.1 }

held_value : (x : Given) (t : HubTables) (node n : ℕ) → HeldPort t node n → IsValue (fixed_of x t) node n
held_value x t node n held =
    let own = split (held.port.node == node) held.port.held held.own in
    inl (port_of x held.port, among-map (port_of x) held.port t.ports held.among, held.number, eqb-true held.port.node node own.0, own.1)

-- it is no handle's
held_no_handle : (t : HubTables) → AreInOrder t → (node n : ℕ) → HeldPort t node n → handle_in t.handles node n ≡ None
held_no_handle t order node n held = step (handle_in t.handles node n) refl
  where
    step : (o : Option HandleState) → handle_in t.handles node n ≡ o → o ≡ None
    step None e = refl
    step (Some h) e =
        absurd (none-some held.port (sym (found_is_handle t order node n h e).no_port
        ∙ subst (λ m. port_in t.ports m ≡ Some held.port) held.number (own_port t.ports held.port (names_apart t order) held.among)))

-- a value that is no handle's is a port's
value_of_port : (t : HubTables) (node n : ℕ) → IsSome (kind_in t node n) → handle_in t.handles node n ≡ None → IsAmong n (held_ports t.ports node)
value_of_port t node n some none = step (port_in t.ports n) refl (subst (λ h. IsSome (kind_by node (port_in t.ports n) h)) none some)
  where
    held : (p : PortState) → port_in t.ports n ≡ Some p → (a b : Bool) → p.held ≡ a → (p.node == node) ≡ b
        → IsSome (if a && b then Some (kind_of_role p.role) else None) → IsAmong n (held_ports t.ports node)
    held p at true true h on s =
        let found = port_among t.ports n p at in
        subst (λ m. IsAmong m (held_ports t.ports node)) found.1
        (among-map (λ (q : PortState). q.number) p (filter (λ q. (q.node == node) && q.held) t.ports)
        (among-filter (λ (q : PortState). (q.node == node) && q.held) p t.ports found.0 (both_true (p.node == node) p.held on h)))
    held p at true false h on s = absurd (true≢false (sym s))
    held p at false b h on s = absurd (true≢false (sym s))

    step : (o : Option PortState) → port_in t.ports n ≡ o → IsSome (kind_by node o None) → IsAmong n (held_ports t.ports node)
    step (Some p) at s = held p at p.held (p.node == node) refl refl s
    step None at s = absurd (true≢false (sym s))

-- what the node holds after the release of a value, it held before
held_before : (old new : HubState) (node n : ℕ) → IsReached old → AreInOrder old.control.tables → AreInOrder new.control.tables
    → ((x : Given) → numbers_of_node (state_of_hub x new).fixed node ≡ rest_of (numbers_of_node (state_of_hub x old).fixed node))
    → HasNothing new node n → KeepsOthers old node n new
    → (k : ℕ) → IsAmong k (held_ports new.control.tables.ports node) → IsAmong k (held_ports old.control.tables.ports node)
held_before old new node n reached order after rest gone keeps k among =
    let x : Given = reached.0 in
    let held : HeldPort new.control.tables node k = held_port new.control.tables node k among in
    let value = held_value (given_by x new) new.control.tables node k held in
    let has : IsSome (kind_in new.control.tables node k) = value_has_kind (given_by x new) new.control.tables after node k value in
    let had : IsSome (kind_in old.control.tables node k) =
    value_has_kind (given_by x old) old.control.tables order node k
    (numbers_are_values (state_of_hub x old).fixed node k
    (rest-among k (numbers_of_node (state_of_hub x old).fixed node)
    (subst (λ (ns : List ℕ). IsAmong k ns) (rest x) (values_are_numbers (state_of_hub x new).fixed node k value)))) in
    let same : IsSame old node k new =
    keeps node k (λ at is. true≢false (sym has ∙ ap (λ o. is_some o) (subst (λ m. HasNothing new node m) (sym is) gone))) had in
    value_of_port old.control.tables node k had (sym same.handle ∙ held_no_handle new.control.tables after node k held)

-- so none is before the first that was held
pub none_before : (old new : HubState) (node n : ℕ) (port : Option Numbered) → IsReached old → AreInOrder old.control.tables → AreInOrder new.control.tables
    → ((x : Given) → numbers_of_node (state_of_hub x new).fixed node ≡ rest_of (numbers_of_node (state_of_hub x old).fixed node))
    → HasNothing new node n → KeepsOthers old node n new → option_map (λ v. v.number) port ≡ least (held_ports old.control.tables.ports node)
    → NoneBefore port (held_ports new.control.tables.ports node)
none_before old new node n port reached order after rest gone keeps is =
    step port (held_ports old.control.tables.ports node)
    (is ∙ sym (first_held_is_least old.control.tables.ports node (ports_in_order old reached)))
    (held_ascend old.control.tables.ports node (ports_in_order old reached)) (held_ports new.control.tables.ports node)
    (held_before old new node n reached order after rest gone keeps)
  where
    empty : (ns : List ℕ) → ((k : ℕ) → IsAmong k ns → ⊥) → ns ≡ []
    empty [] none = refl
    empty (k ∷ ks) none = absurd (none k (inl refl))

    all_from : (m : ℕ) (ns : List ℕ) → ((k : ℕ) → IsAmong k ns → m ≤ k) → list_all (nat_le m) ns ≡ true
    all_from m [] each = refl
    all_from m (k ∷ ks) each = both_true (nat_le m k) (list_all (nat_le m) ks) (low m k (each k (inl refl))) (all_from m ks (λ j among. each j (inr among)))
      where
        low : (a b : ℕ) → a ≤ b → nat_le a b ≡ true
        low a b e = grind (arith)

    from_first : (m : ℕ) (ns : List ℕ) → Some m ≡ first_of ns → are_ascending ns ≡ true → (k : ℕ) → IsAmong k ns → m ≤ k
    from_first m [] is order k among = absurd among
    from_first m (j ∷ js) is order k (inl same) = let e : m ≡ j = same_Some m j is in omega (arith, e, same)
    from_first m (j ∷ js) is order k (inr among) =
        let e : m ≡ j = same_Some m j is in
        let less : j < k = above_all j k js (split (list_all (nat_lt j) js) (are_ascending js) order).0 among in
        omega (arith, e, less)

    step : (port : Option Numbered) (before : List ℕ) → option_map (λ v. v.number) port ≡ first_of before → are_ascending before ≡ true
        → (now : List ℕ) → ((k : ℕ) → IsAmong k now → IsAmong k before) → NoneBefore port now
    step None [] is order now among = empty now among
    step None (k ∷ ks) is order now among = absurd (none-some k is)
    step (Some v) before is order now among = all_from v.number now (λ k there. from_first v.number before is order k (among k there))

-- ---- at the start

-- no number is less than 0
pub none_before_start : (ns : List ℕ) → list_all (nat_le 0) ns ≡ true
none_before_start [] = refl
none_before_start (n ∷ ns) = both_true (nat_le 0 n) (list_all (nat_le 0) ns) (low n) (none_before_start ns)
  where
    low : (a : ℕ) → nat_le 0 a ≡ true
    low a = grind (arith)
