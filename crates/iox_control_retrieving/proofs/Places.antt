-- The ways of a port, by the places and by the numbers of the ports that it sends to; and the walk over these places.
use Rattle.std.specs.Prelude.{◌≡◌, ℕ, ◌+◌, ◌≤◌, ◌<◌, zero, suc, Bool, true, false, ◌||◌, if◌then◌else◌, List, [], ◌∷◌, ◌++◌, length, map, flat_map, filter, Some, slice_get, refl}
use Rattle.std.specs.List.{range_with_len}
use Rattle.std.specs.Option.{option_map}
use Rattle.std.proofs.Common.{sym, ap, subst, ◌∙◌, arith, true≢false}
use Rattle.std.proofs.lemmas.List.{append-nil, append_assoc}
use Rattle.std.proofs.lemmas.Option.{none-some, same_Some}
use Rattle.iox_model.specs.declared.kind.Role.{Role}
use Rattle.iox_model.specs.declared.kind.Role.TheVariants.{Client, Server}
use Rattle.iox_model.specs.declared.way.Way.{Way}
use Rattle.iox_model.specs.Maps.{AreDistinctWays, has_way, same_way}
use Rattle.iox_model.specs.Messages.{request_way, response_way}
use Rattle.iox_model.specs.Settings.{is_client, other_role, same_role}
use Rattle.iox_tables.specs.HubStates.Tables.{HubTables, PortState, port_in}
use Rattle.iox_tables.proofs.HubStates.Fixing.{first_key}
use Rattle.iox_tables.proofs.HubStates.Lists.{any-append}
use Rattle.iox_tables.specs.HubStates.Wirings.{numbers_of_role}
use Rattle.iox_hub_ports.specs.declared.info.PortInfo.{PortInfo}
use Rattle.iox_hub_ports.specs.InPlace.{places_of}
use Rattle.iox_hub_ports.specs.Ports.{info_at, info_in, info_of}
use Rattle.iox_hub_ports.proofs.Listing.{port_of_rank}
use Rattle.iox_hub_ports.proofs.Seats.{first_at}
use Rattle.iox_tables.proofs.HubBooks.Frames.{some_map}
use Rattle.iox_tables.specs.HubLoans.Lenders.{ways_by, ways_to_client}
use Rattle.iox_tables.proofs.HubKeeping.Ordered.{names_apart}
use Rattle.iox_tables.proofs.HubLending.Back.{ways_apart}
use Rattle.iox_control.specs.Controls.{ControlState, IsControl}
use Rattle.iox_control_retrieving.specs.Retrieving.{GetsBack, IsOther, first_ways, ways_at, ways_before, ways_to}
use Rattle.iox_control_retrieving.proofs.Infos.{as_many, infos_of, infos_stay, same_info, same_numbers, same_places, same_size}
use Rattle.iox_control_retrieving.proofs.Together.{gets_both, gets_nothing}

-- ---- the ways of the first in a list

module _ {A : Type 0} (f : A → List Way) where
  ways_of_none : (xs : List A) → first_ways f xs zero ≡ []
  ways_of_none [] = refl
  ways_of_none (x ∷ xs) = refl

  one_more : (xs : List A) (i : ℕ) (x : A) → slice_get xs i ≡ Some x → first_ways f xs (suc i) ≡ first_ways f xs i ++ f x
  one_more [] i x at = absurd (none-some x at)
  one_more (y ∷ ys) zero x at = ap (λ ws. f y ++ ws) (ways_of_none ys) ∙ append-nil (f y) ∙ ap f (same_Some y x at)
  one_more (y ∷ ys) (suc i) x at = ap (λ ws. f y ++ ws) (one_more ys i x at) ∙ sym (append_assoc (f y) (first_ways f ys i) (f x))

  all_ways : (xs : List A) (i : ℕ) → length xs ≤ i → first_ways f xs i ≡ flat_map f xs
  all_ways [] i all = refl
  all_ways (x ∷ xs) zero all = absurd (omega (arith, all))
  all_ways (x ∷ xs) (suc i) all = ap (λ ws. f x ++ ws) (all_ways xs i (omega (arith, all)))

  others : (xs : List A) (i : ℕ) → (ws : List Way) × (flat_map f xs ≡ first_ways f xs i ++ ws)
  others [] i = ([], refl)
  others (x ∷ xs) zero = (flat_map f (x ∷ xs), refl)
  others (x ∷ xs) (suc i) = let r = others xs i in (r.0, ap (λ ws. f x ++ ws) r.1 ∙ sym (append_assoc (f x) (first_ways f xs i) r.0))

front_apart : (ws vs : List Way) → AreDistinctWays (ws ++ vs) → AreDistinctWays ws
front_apart [] vs apart = tt
front_apart (w ∷ ws) vs apart = (left (has_way w ws) (has_way w vs) (sym (any-append (same_way w) ws vs) ∙ apart.0), front_apart ws vs apart.1)
  where
    left : (a b : Bool) → (a || b) ≡ false → a ≡ false
    left true b e = absurd (true≢false e)
    left false b e = refl

-- ---- the ways of a port by place

module _ (t : HubTables) (n : ℕ) where
  to_servers : (ports : List PortState)
      → map (request_way n) (map (λ p. p.number) (filter (λ p. same_role p.role Server) ports)) ≡ flat_map (λ p. ways_to Client t n (info_of p)) ports
  to_servers [] = refl
  to_servers (p ∷ ps) = step p.role (to_servers ps)
    where
      step : (r : Role)
          → map (request_way n) (map (λ (q : PortState). q.number) (filter (λ (q : PortState). same_role q.role Server) ps)) ≡ flat_map (λ q. ways_to Client t n (info_of q)) ps
          → map (request_way n) (map (λ (q : PortState). q.number) (if same_role r Server then p ∷ filter (λ (q : PortState). same_role q.role Server) ps else filter (λ (q : PortState). same_role q.role Server) ps))
          ≡ (if is_client r then [] else request_way n p.number ∷ []) ++ flat_map (λ q. ways_to Client t n (info_of q)) ps
      step Client rest = rest
      step Server rest = ap (λ ws. request_way n p.number ∷ ws) rest

  to_clients : (ports : List PortState)
      → flat_map (ways_to_client t n) (map (λ p. p.number) (filter (λ p. same_role p.role Client) ports)) ≡ flat_map (λ p. ways_to Server t n (info_of p)) ports
  to_clients [] = refl
  to_clients (p ∷ ps) = step p.role (to_clients ps)
    where
      step : (r : Role)
          → flat_map (ways_to_client t n) (map (λ (q : PortState). q.number) (filter (λ (q : PortState). same_role q.role Client) ps)) ≡ flat_map (λ q. ways_to Server t n (info_of q)) ps
          → flat_map (ways_to_client t n) (map (λ (q : PortState). q.number) (if same_role r Client then p ∷ filter (λ (q : PortState). same_role q.role Client) ps else filter (λ (q : PortState). same_role q.role Client) ps))
          ≡ (if is_client r then ways_to_client t n p.number else []) ++ flat_map (λ q. ways_to Server t n (info_of q)) ps
      step Client rest = ap (λ ws. ways_to_client t n p.number ++ ws) rest
      step Server rest = rest

  -- all ways of a port are those to each port in its place
  pub ways_by_place : (role : Role) → ways_by role t n ≡ flat_map (λ p. ways_to role t n (info_of p)) t.ports
  ways_by_place Client = to_servers t.ports
  ways_by_place Server = to_clients t.ports

-- they depend only on what is said of ports
pub same_ways : (t t' : HubTables) (role : Role) (n : ℕ) (to : PortInfo) → infos_of t.ports ≡ infos_of t'.ports → ways_to role t n to ≡ ways_to role t' n to
same_ways t t' Client n to same = refl
same_ways t t' Server n to same =
    ap (λ k. if is_client to.role then map (λ lane. response_way to.number lane n) (range_with_len 0 k) else []) (same_size t.ports t'.ports to.number same)

-- ---- the ways of a port by number

each_alone : {A B : Type 0} (f : A → B) (xs : List A) → map f xs ≡ flat_map (λ x. f x ∷ []) xs
each_alone f [] = refl
each_alone f (x ∷ xs) = ap (λ ys. f x ∷ ys) (each_alone f xs)

-- all ways of a port are those to each port of the other role
ways_by_number : (role : Role) (t : HubTables) (n : ℕ) → ways_by role t n ≡ flat_map (ways_at role t n) (numbers_of_role (other_role role) t.ports)
ways_by_number Client t n = each_alone (request_way n) (numbers_of_role Server t.ports)
ways_by_number Server t n = refl

ways_there : (role : Role) (t : HubTables) (n : ℕ) (p : PortState) → same_role p.role (other_role role) ≡ true → ways_at role t n p.number ≡ ways_to role t n (info_of p)
ways_there Client t n p is = step p.role is
  where
    step : (r : Role) → same_role r Server ≡ true → request_way n p.number ∷ [] ≡ (if is_client r then [] else request_way n p.number ∷ [])
    step Client e = absurd (true≢false (sym e))
    step Server e = refl
ways_there Server t n p is = step p.role is
  where
    step : (r : Role) → same_role r Client ≡ true → ways_to_client t n p.number ≡ (if is_client r then ways_to_client t n p.number else [])
    step Client e = refl
    step Server e = absurd (true≢false (sym e))

pub differs : (role r : Role) → same_role r (other_role role) ≡ true → same_role role r ≡ false
differs Client Client e = absurd (true≢false (sym e))
differs Client Server e = refl
differs Server Client e = refl
differs Server Server e = absurd (true≢false (sym e))

-- ---- the walk

-- a port is in each place below their number
pub at_within : {A : Type 0} (xs : List A) (i : ℕ) → i < length xs → (x : A) × (slice_get xs i ≡ Some x)
at_within [] i low = absurd (omega (arith, low))
at_within (x ∷ xs) zero low = (x, refl)
at_within (x ∷ xs) (suc i) low = at_within xs i (omega (arith, low))

-- what is said of the port in a place is said of its number
pub said_at : (c : ControlState) (at : ℕ) (info : PortInfo) (p : PortState) → IsControl c → Some info ≡ info_at c.tables.ports at → slice_get c.tables.ports at ≡ Some p
    → (info_in c.tables.ports info.number ≡ Some info) × (port_in c.tables.ports info.number ≡ Some p)
said_at c at info p order said here =
    let same : info ≡ info_of p = same_Some info (info_of p) (said ∙ ap (option_map info_of) here) in
    let there : port_in c.tables.ports info.number ≡ Some p
    = ap (λ (i : PortInfo). port_in c.tables.ports i.number) same ∙ first_at c.tables.ports at p (names_apart c.tables order.order) here in
    (ap (option_map info_of) there ∙ ap (λ i. Some i) (sym same), there)

module _ (c : ControlState) (port : ℕ) (from : PortInfo) (order : IsControl c) (said : info_in c.tables.ports port ≡ Some from) where
  before_apart : (i : ℕ) → AreDistinctWays (ways_before c from i)
  before_apart i =
      let r = others (ways_at from.role c.tables from.number) (numbers_of_role (other_role from.role) c.tables.ports) i in
      front_apart (ways_before c from i) r.0
      (subst AreDistinctWays (ways_by_number from.role c.tables from.number ∙ r.1) (ways_apart c.tables order.order from.role from.number))

  pub begins : GetsBack c (ways_before c from 0) c
  begins =
      subst (λ ws. GetsBack c ws c)
      (sym (ways_of_none (ways_at from.role c.tables from.number) (numbers_of_role (other_role from.role) c.tables.ports))) (gets_nothing c order)

  pub number_is : from.number ≡ port
  number_is =
      let r = some_map info_of (port_in c.tables.ports port) from said in
      sym (ap (λ (i : PortInfo). i.number) r.2) ∙ first_key (λ (p : PortState). p.number) c.tables.ports port r.0 r.1

  module _ (now : ControlState) (i : ℕ) (got : GetsBack c (ways_before c from i) now) where
    infos : infos_of now.tables.ports ≡ infos_of c.tables.ports
    infos = infos_stay c now (ways_before c from i) got

    pub sender_said : info_in now.tables.ports from.number ≡ Some from
    sender_said = same_info now.tables.ports c.tables.ports from.number infos ∙ ap (info_in c.tables.ports) number_is ∙ said

    pub places_are : places_of (other_role from.role) now.tables.ports ≡ places_of (other_role from.role) c.tables.ports
    places_are = same_places (other_role from.role) now.tables.ports c.tables.ports infos

    module _ (at : ℕ) (is : slice_get (places_of (other_role from.role) now.tables.ports) i ≡ Some at) where
      found : (p : PortState) × (slice_get now.tables.ports at ≡ Some p)
          × (slice_get (numbers_of_role (other_role from.role) now.tables.ports) i ≡ Some p.number) × (same_role p.role (other_role from.role) ≡ true)
      found = port_of_rank (other_role from.role) now.tables.ports i at is

      pub other_there : IsOther from.role now.tables.ports at
      other_there = (found.0, found.1, differs from.role found.0.role found.3)

      pub turns : (new : ControlState)
          → ((p : PortState) → slice_get now.tables.ports at ≡ Some p → GetsBack now (ways_to from.role now.tables from.number (info_of p)) new)
          → GetsBack c (ways_before c from (i + 1)) new
      turns new more =
          let next : ways_before c from (i + 1) ≡ ways_before c from i ++ ways_to from.role c.tables from.number (info_of found.0)
          = ap (ways_before c from) (let e : i + 1 ≡ suc i = omega arith in e)
          ∙ one_more (ways_at from.role c.tables from.number) (numbers_of_role (other_role from.role) c.tables.ports) i found.0.number
          (ap (λ ns. slice_get ns i) (sym (same_numbers (other_role from.role) now.tables.ports c.tables.ports infos)) ∙ found.2)
          ∙ ap (λ vs. ways_before c from i ++ vs) (ways_there from.role c.tables from.number found.0 found.3) in
          subst (λ vs. GetsBack c vs new) (sym next)
          (gets_both c now new (ways_before c from i) (ways_to from.role c.tables from.number (info_of found.0)) (subst AreDistinctWays next (before_apart (i + 1))) got
          (subst (λ vs. GetsBack now vs new) (same_ways now.tables c.tables from.role from.number (info_of found.0) infos) (more found.0 found.1)))

  -- at the end all ways of the port were visited
  pub finishes : (now : ControlState) (i : ℕ) → GetsBack c (ways_before c from i) now → length (places_of (other_role from.role) c.tables.ports) ≤ i
      → (p : PortState) → port_in c.tables.ports port ≡ Some p → GetsBack c (ways_by p.role c.tables p.number) now
  finishes now i got last p there =
      let many = as_many (other_role from.role) 0 c.tables.ports in
      let same : from ≡ info_of p = same_Some from (info_of p) (sym said ∙ ap (option_map info_of) there) in
      subst (λ (j : PortInfo). GetsBack c (ways_by j.role c.tables j.number) now) same
      (subst (λ ws. GetsBack c ws now)
      (all_ways (ways_at from.role c.tables from.number) (numbers_of_role (other_role from.role) c.tables.ports) i (omega (arith, last, many))
      ∙ sym (ways_by_number from.role c.tables from.number)) got)

  -- and where there is one port of the other role, at once
  pub only_there : (at : ℕ) → slice_get (places_of (other_role from.role) c.tables.ports) 0 ≡ Some at → IsOther from.role c.tables.ports at
  only_there at is = other_there c 0 begins at is

  pub only_gets : (at : ℕ) → slice_get (places_of (other_role from.role) c.tables.ports) 0 ≡ Some at → length (places_of (other_role from.role) c.tables.ports) ≡ 1
      → (new : ControlState)
      → ((p : PortState) → slice_get c.tables.ports at ≡ Some p → GetsBack c (ways_to from.role c.tables from.number (info_of p)) new)
      → (p : PortState) → port_in c.tables.ports port ≡ Some p → GetsBack c (ways_by p.role c.tables p.number) new
  only_gets at is one new more = finishes new 1 (turns c 0 begins at is new more) (omega (arith, one))

  pub only_order : (at : ℕ) → slice_get (places_of (other_role from.role) c.tables.ports) 0 ≡ Some at → (new : ControlState)
      → ((p : PortState) → slice_get c.tables.ports at ≡ Some p → GetsBack c (ways_to from.role c.tables from.number (info_of p)) new)
      → IsControl new
  only_order at is new more = (turns c 0 begins at is new more).order
