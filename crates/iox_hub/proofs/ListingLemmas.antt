-- The numbers that a hub's tables list are those of the state that it shows, and what a loop over the ports finds.
use Rattle.std.specs.Prelude.{◌≡◌, ℕ, ◌<◌, ◌+◌, Bool, true, false, ◌&&◌, if◌then◌else◌, ◌==◌, List, [], ◌∷◌, ◌++◌, length, take, map, filter, Some, None, Result, Ok, Err, IfOk, refl}
use Rattle.std.specs.Option.{option_map}
use Rattle.std.specs.declared.vec.Vec.{Vec}
use Rattle.std.proofs.Common.{sym, ap, ap₂, ◌∙◌, append-nil, arith, get_or}
use Rattle.std.proofs.lemmas.List.{map-append, take_more}
use Rattle.std.proofs.lemmas.List.Elements.{filter-append}
use Rattle.std.proofs.lemmas.Option.{none-some, same_Some, slice_get-get_or}
use Rattle.iox_model.specs.declared.kind.Role.{Role}
use Rattle.iox_model.specs.Maps.{first_of}
use Rattle.iox_model.specs.Peers.{ports_of_role}
use Rattle.iox_model.specs.Services.{ascending, numbers_of_node}
use Rattle.iox_model.specs.Settings.{same_role}
use Rattle.iox_handles.specs.Least.{least, lesser}
use Rattle.iox_handles.specs.Tables.{Contents}
use Rattle.iox_handles.specs.Tables as table
use Rattle.iox_handles.proofs.LeastLemmas.{least-append}
use Rattle.iox_hub_ports.specs.Ports.{info_at, info_of}
use Rattle.iox_tables.specs.HubStates.States.{Given, handle_of, message_of, port_of}
use Rattle.iox_tables.specs.HubStates.Tables.{HandleState, HubTables, PortState}
use Rattle.iox_tables.specs.HubStates.Wirings.{numbers_of_role}
use Rattle.iox_control.specs.Entries.{handle_state, handles_of}
use Rattle.iox_hub.specs.Hubs.{HubState, given_by, state_of_hub}
use Rattle.iox_hub.specs.Listings.{handles_had, held_ports, ids_of_role, numbers_had, role_ids, role_number}
use Rattle.iox_hub.proofs.Ascending.{first-ascending}

-- ---- the state that a hub shows

-- what is listed of what is shown
listed_as : {A B C : Type 0} (f : A → B) (test : B → Bool) (number : B → C) (xs : List A)
    → map number (filter test (map f xs)) ≡ map (λ a. number (f a)) (filter (λ a. test (f a)) xs)
listed_as f test number [] = refl
listed_as {A} {B} f test number (x ∷ xs) = by_case (test (f x)) (listed_as f test number xs)
  where
    by_case : (b : Bool) → map number (filter test (map f xs)) ≡ map (λ a. number (f a)) (filter (λ a. test (f a)) xs)
        → map number (if b then f x ∷ filter test (map f xs) else filter test (map f xs))
        ≡ map (λ a. number (f a)) (if b then x ∷ filter (λ a. test (f a)) xs else filter (λ a. test (f a)) xs)
    by_case true rest = ap (λ ns. number (f x) ∷ ns) rest
    by_case false rest = rest

pub all_as : {A B : Type 0} (f : A → B) (number : B → ℕ) (xs : List A) → map number (map f xs) ≡ map (λ a. number (f a)) xs
all_as f number [] = refl
all_as f number (x ∷ xs) = ap (λ ns. number (f x) ∷ ns) (all_as f number xs)

pub numbers_are : (x : Given) (h : HubState) (node : ℕ) → numbers_of_node (state_of_hub x h).fixed node ≡ numbers_had h.control.tables node
numbers_are x h node =
    let t : HubTables = h.control.tables in
    ap₂ (λ ps hs. ascending (ps ++ hs))
    (listed_as (port_of (given_by x h)) (λ p. (p.node == node) && p.held) (λ p. p.number) t.ports)
    (all_as (handle_of (given_by x h) (message_of (given_by x h) t.pools)) (λ k. k.number) (filter (λ k. k.node == node) t.handles))

pub ports_are : (x : Given) (h : HubState) (role : Role) → numbers_of_role role h.control.tables.ports ≡ ports_of_role (state_of_hub x h).fixed role
ports_are x h role = sym (listed_as (port_of (given_by x h)) (λ p. same_role p.role role) (λ p. p.number) h.control.tables.ports)

pub ids_are : (x : Given) (h : HubState) (role : Role) → role_ids role h.control.tables.ports ≡ ids_of_role (state_of_hub x h).fixed role
ids_are x h role = sym (listed_as (port_of (given_by x h)) (λ p. same_role p.role role) (λ p. p.id) h.control.tables.ports)

pub all_listed : {Z E : Type 0} (h : HubState) (role : Role) (ports : List PortState) (r : Result (Vec ℕ Z) E) → ports ≡ h.control.tables.ports
    → IfOk r (λ v. v.items ≡ numbers_of_role role ports) → IfOk r (λ v. (x : Given) → v.items ≡ ports_of_role (state_of_hub x h).fixed role)
all_listed h role ports (Ok v) same is = λ x. is ∙ ap (numbers_of_role role) same ∙ ports_are x h role
all_listed h role ports (Err e) same is = tt

-- the first of the numbers is the lesser of those of ports and of handles
pub first_is : (x : Given) (h : HubState) (node : ℕ) (ports : List PortState) (handles : Contents) → ports ≡ h.control.tables.ports
    → handles_of handles ≡ h.control.tables.handles
    → lesser (least (held_ports ports node)) (least (map (λ k. k.number) (table.handles_of handles node)))
    ≡ first_of (numbers_of_node (state_of_hub x h).fixed node)
first_is x h node ports handles of_ports of_handles =
    ap₂ (λ ps ns. lesser (least (held_ports ps node)) (least ns)) of_ports
    (sym (listed_as handle_state (λ k. k.node == node) (λ k. k.number) handles.handles) ∙ ap (λ hs. handles_had hs node) of_handles)
    ∙ sym (least-append (held_ports h.control.tables.ports node) (handles_had h.control.tables.handles node))
    ∙ sym (first-ascending (held_ports h.control.tables.ports node ++ handles_had h.control.tables.handles node))
    ∙ ap first_of (sym (numbers_are x h node))

-- so it is where the tables tell the least of each
pub first_of_both : (x : Given) (h : HubState) (node : ℕ) (ports : List PortState) (handles : List HandleState) → ports ≡ h.control.tables.ports
    → handles ≡ h.control.tables.handles
    → lesser (least (held_ports ports node)) (least (handles_had handles node)) ≡ first_of (numbers_of_node (state_of_hub x h).fixed node)
first_of_both x h node ports handles of_ports of_handles =
    ap₂ (λ ps hs. lesser (least (held_ports ps node)) (least (handles_had hs node))) of_ports of_handles
    ∙ sym (least-append (held_ports h.control.tables.ports node) (handles_had h.control.tables.handles node))
    ∙ sym (first-ascending (held_ports h.control.tables.ports node ++ handles_had h.control.tables.handles node))
    ∙ ap first_of (sym (numbers_are x h node))

-- ---- one port more

-- the port in the next place
record NextPort (ports : List PortState) (at : ℕ) : Type 0 where
  pub port : PortState
  pub told : info_at ports at ≡ Some (info_of port)
  pub more : take (at + 1) ports ≡ take at ports ++ port ∷ []

next_port : (ports : List PortState) (at : ℕ) → at < length ports → NextPort ports at
next_port [] at low = absurd (omega arith)
next_port (p ∷ ps) at low = record {
  port = get_or (p ∷ ps) at p;
  told = ap (option_map info_of) (slice_get-get_or (p ∷ ps) at p low);
  more = take_more (p ∷ ps) at p low;
}

role-last : (role : Role) (ps : List PortState) (p : PortState)
    → numbers_of_role role (ps ++ p ∷ []) ≡ numbers_of_role role ps ++ (if same_role p.role role then p.number ∷ [] else [])
role-last role ps p =
    ap (map (λ q. q.number)) (filter-append (λ q. same_role q.role role) ps (p ∷ []))
    ∙ map-append (λ q. q.number) (filter (λ q. same_role q.role role) ps) (filter (λ q. same_role q.role role) (p ∷ []))
    ∙ ap (λ ns. numbers_of_role role ps ++ ns) (by_case (same_role p.role role))
  where
    by_case : (b : Bool) → map (λ (q : PortState). q.number) (if b then p ∷ [] else []) ≡ (if b then p.number ∷ [] else [])
    by_case true = refl
    by_case false = refl

-- its number is listed, if it is of the role
pub one_listed : (role : Role) (ports : List PortState) (at : ℕ) → at < length ports → (n : ℕ) → role_number role (info_at ports at) ≡ Some n
    → numbers_of_role role (take (at + 1) ports) ≡ numbers_of_role role (take at ports) ++ n ∷ []
one_listed role ports at low n is =
    let next = next_port ports at low in
    ap (numbers_of_role role) next.more ∙ role-last role (take at ports) next.port
    ∙ ap (λ ns. numbers_of_role role (take at ports) ++ ns)
    (by_case next.port (same_role next.port.role role) (sym (ap (role_number role) next.told) ∙ is))
  where
    by_case : (p : PortState) (b : Bool) → (if b then Some p.number else None) ≡ Some n → (if b then p.number ∷ [] else []) ≡ n ∷ []
    by_case p true e = ap (λ m. m ∷ []) (same_Some p.number n e)
    by_case p false e = absurd (none-some n e)

pub none_listed : (role : Role) (ports : List PortState) (at : ℕ) → at < length ports → role_number role (info_at ports at) ≡ None
    → numbers_of_role role (take (at + 1) ports) ≡ numbers_of_role role (take at ports)
none_listed role ports at low is =
    let next = next_port ports at low in
    ap (numbers_of_role role) next.more ∙ role-last role (take at ports) next.port
    ∙ by_case next.port (same_role next.port.role role) (sym (ap (role_number role) next.told) ∙ is)
  where
    by_case : (p : PortState) (b : Bool) → (if b then Some p.number else None) ≡ None
        → numbers_of_role role (take at ports) ++ (if b then p.number ∷ [] else []) ≡ numbers_of_role role (take at ports)
    by_case p true e = absurd (none-some p.number (sym e))
    by_case p false e = append-nil (numbers_of_role role (take at ports))
