-- A node that is opened from the plan of a wire is one of the wire's setting.
use Rattle.std.specs.Prelude.{filter, find, flat_map, if◌then◌else◌}
use Rattle.std.specs.List.{range_with_len}
use Rattle.std.specs.Option.{option_map_or}
use Rattle.std.proofs.Common.{◌≡◌, ℕ, Bool, true, false, ◌==◌, List, [], ◌∷◌, ◌++◌, map, Some, refl, ap, ap₂, sym, subst, ◌∙◌, inl, inr}
use Rattle.std.proofs.lemmas.Bool.{cases_Bool}
use Rattle.std.proofs.lemmas.List.Elements.{All-head, All-tail, filter-append}
use Rattle.std.specs.List.{All}
use Rattle.iox_model.specs.declared.kind.Role.{Role}
use Rattle.iox_model.specs.declared.kind.Role.TheVariants.{Client, Server}
use Rattle.iox_model.specs.declared.way.Way.{Way}
use Rattle.iox_model.specs.Messages.{request_way, response_way}
use Rattle.iox_model.specs.Peers.{lanes_of, lanes_to, role_at, ways_from_client, ways_from_server}
use Rattle.iox_model.specs.Settings.{is_client, same_role}
use Rattle.iox_model.specs.States.{Fixed, Port}
use Rattle.iox_laws.proofs.WeaveLedger.Lists.{IsAmong, NoRepeats, distinct-no_repeats, find-own, map-among}
use Rattle.iox_wire_weaves.specs.PlanPort.{PlanPort}
use Rattle.iox_wire_weaves.specs.WirePlan.{WirePlan}
use Rattle.iox_wire_weaves.specs.Plans.{IsPlan, port_numbers}
use Rattle.iox_wire_weaves.specs.Programs.{WireLayout}
use Rattle.iox_wire_weaves.specs.PlansOf.{AreAsPlanned, IsAsPlanned, IsSettingOf}
use Rattle.iox_wire_weaves.proofs.Planned.{each_planned, same_found, same_names}
use Rattle.iox_wire_weaves.specs.Desk.{Desk}
use Rattle.iox_wire_weaves.specs.Known.{known}
use Rattle.iox_wire_weaves.specs.Tables.{Setting}
use Rattle.iox_wire_weaves.specs.WorkedWires.{fresh_desk}
use Rattle.iox_wire_weaves.specs.Seats.{new_seat}
use Rattle.iox_wire_openings.specs.OpenedNodes as planned
use Rattle.iox_wire_openings.specs.OpenedNodes.{lanes_between, no_count, planned_desk, planned_desks, planned_lanes, planned_seat, planned_ways, ways_between, ways_by, ways_to}
use Rattle.iox_wire_weaves.specs.Openings.{bare_seat, lanes_on, opened_desk, opened_seat, ports_on, ways_into, ways_on}

-- ---- lists

map_alike : {A B : Type 0} (f g : A → B) (xs : List A) → ((x : A) → IsAmong x xs → f x ≡ g x) → map f xs ≡ map g xs
map_alike f g [] same = refl
map_alike f g (x ∷ xs) same = ap₂ (λ y ys. y ∷ ys) (same x (inl refl)) (map_alike f g xs (λ y among. same y (inr among)))

flat_alike : {A B : Type 0} (f g : A → List B) (xs : List A) → ((x : A) → IsAmong x xs → f x ≡ g x) → flat_map f xs ≡ flat_map g xs
flat_alike f g [] same = refl
flat_alike f g (x ∷ xs) same = ap₂ (λ y ys. y ++ ys) (same x (inl refl)) (flat_alike f g xs (λ y among. same y (inr among)))

filter_flat : {A B : Type 0} (test : B → Bool) (f : A → List B) (xs : List A) → filter test (flat_map f xs) ≡ flat_map (λ x. filter test (f x)) xs
filter_flat test f [] = refl
filter_flat test f (x ∷ xs) = filter-append test (f x) (flat_map f xs) ∙ ap (λ ys. filter test (f x) ++ ys) (filter_flat test f xs)

filter_whole : {B : Type 0} (test : B → Bool) (b : Bool) (ys : List B) → ((y : B) → IsAmong y ys → test y ≡ b) → filter test ys ≡ (if b then ys else [])
filter_whole test true [] same = refl
filter_whole test false [] same = refl
filter_whole test true (y ∷ ys) same = rw (same y (inl refl)) (ap (λ zs. y ∷ zs) (filter_whole test true ys (λ z among. same z (inr among))))
filter_whole test false (y ∷ ys) same = rw (same y (inl refl)) (filter_whole test false ys (λ z among. same z (inr among)))

map_map : {A B C : Type 0} (f : B → C) (g : A → B) (xs : List A) → map f (map g xs) ≡ map (λ x. f (g x)) xs
map_map f g [] = refl
map_map f g (x ∷ xs) = ap (λ ys. f (g x) ∷ ys) (map_map f g xs)

flat_map_map : {A B C : Type 0} (f : B → List C) (g : A → B) (xs : List A) → flat_map f (map g xs) ≡ flat_map (λ x. f (g x)) xs
flat_map_map f g [] = refl
flat_map_map f g (x ∷ xs) = ap (λ ys. f (g x) ++ ys) (flat_map_map f g xs)

pub filtered_among : {A : Type 0} (test : A → Bool) (a : A) (xs : List A) → IsAmong a (filter test xs) → IsAmong a xs
filtered_among test a [] among = among
filtered_among test a (x ∷ xs) among = by_case (test x) (filtered_among test a xs) among
  where
    by_case : (b : Bool) → (IsAmong a (filter test xs) → IsAmong a xs) → IsAmong a (if b then x ∷ filter test xs else filter test xs)
        → IsAmong a (x ∷ xs)
    by_case true later (inl same) = inl same
    by_case true later (inr rest) = inr (later rest)
    by_case false later rest = inr (later rest)

-- ---- the ways of a port

to_servers : (q : PlanPort) (rs : List PlanPort)
    → flat_map (λ r. ways_by Client r.role q r) rs ≡ map (request_way q.number) (map (λ r. r.number) (filter (λ r. same_role r.role Server) rs))
to_servers q [] = refl
to_servers q (r ∷ rs) = by_role r.role refl (to_servers q rs)
  where
    by_role : (role : Role) → r.role ≡ role
        → flat_map (λ r. ways_by Client r.role q r) rs ≡ map (request_way q.number) (map (λ r. r.number) (filter (λ r. same_role r.role Server) rs))
        → flat_map (λ r. ways_by Client r.role q r) (r ∷ rs) ≡ map (request_way q.number) (map (λ r. r.number) (filter (λ r. same_role r.role Server) (r ∷ rs)))
    by_role Client is rest = rw is rest
    by_role Server is rest = rw is (ap (λ ws. request_way q.number r.number ∷ ws) rest)

to_clients : (q : PlanPort) (lanes : ℕ → List Way) (rs : List PlanPort) → ((r : PlanPort) → IsAmong r rs → lanes r.number ≡ lanes_between q r)
    → flat_map (λ r. ways_by Server r.role q r) rs ≡ flat_map lanes (map (λ r. r.number) (filter (λ r. same_role r.role Client) rs))
to_clients q lanes [] same = refl
to_clients q lanes (r ∷ rs) same = by_role r.role refl (to_clients q lanes rs (λ z among. same z (inr among)))
  where
    by_role : (role : Role) → r.role ≡ role
        → flat_map (λ r. ways_by Server r.role q r) rs ≡ flat_map lanes (map (λ r. r.number) (filter (λ r. same_role r.role Client) rs))
        → flat_map (λ r. ways_by Server r.role q r) (r ∷ rs) ≡ flat_map lanes (map (λ r. r.number) (filter (λ r. same_role r.role Client) (r ∷ rs)))
    by_role Client is rest = rw is (ap₂ (λ ws vs. ws ++ vs) (sym (same r (inl refl))) rest)
    by_role Server is rest = rw is rest

receiver_by : (a b : Role) (q r : PlanPort) (y : Way) → IsAmong y (ways_by a b q r) → y.receiver ≡ r.number
receiver_by Client Server q r y (inl same) = ap (λ (v : Way). v.receiver) same
receiver_by Client Server q r y (inr none) = absurd none
receiver_by Server Client q r y among =
    ap (λ (v : Way). v.receiver) (map-among (λ lane. response_way r.number lane q.number) y (range_with_len 0 r.pool) among).2
receiver_by Client Client q r y among = absurd among
receiver_by Server Server q r y among = absurd among

module _ (plan : WirePlan) (p : Setting) (is : IsPlan plan) (setting : IsSettingOf plan p) where
  abbrev items : List PlanPort
  items = plan.ports.items

  abbrev f : Fixed
  f = known p (bare_seat 0)

  numbers_are : p.layout.sizes.ports ≡ port_numbers plan
  numbers_are = ap (λ (l : WireLayout). l.sizes.ports) setting.layout

  ports_are : f.ports ≡ map p.port (port_numbers plan)
  ports_are = ap (map p.port) numbers_are

  like : AreAsPlanned plan.ports.items f.ports
  like = subst (AreAsPlanned plan.ports.items) (sym ports_are) setting.is_for.ports

  apart : NoRepeats (map (λ (q : PlanPort). q.number) plan.ports.items)
  apart = distinct-no_repeats (port_numbers plan) is.numbers

  own : (q : PlanPort) → IsAmong q plan.ports.items → find (λ (r : PlanPort). r.number == q.number) plan.ports.items ≡ Some q
  own q among = find-own (λ (r : PlanPort). r.number) plan.ports.items q apart among

  role_is : (q : PlanPort) → IsAmong q plan.ports.items → role_at f q.number ≡ q.role
  role_is q among =
      same_found (λ (r : PlanPort). r.role) (λ (r : Port). r.role) Client q.number (λ r t so. so.role) plan.ports.items f.ports like
      ∙ ap (λ o. option_map_or (λ (r : PlanPort). r.role) o Client) (own q among)

  lanes_are : (r : PlanPort) → IsAmong r plan.ports.items → lanes_of f r.number ≡ r.pool
  lanes_are r among =
      same_found (λ (q : PlanPort). q.pool) (λ (t : Port). t.pool) 0 r.number (λ q t so. so.pool) plan.ports.items f.ports like
      ∙ ap (λ o. option_map_or (λ (q : PlanPort). q.pool) o 0) (own r among)

  client_ways : (q : PlanPort) → ways_from_client f q.number ≡ flat_map (λ r. ways_by Client r.role q r) plan.ports.items
  client_ways q = ap (map (request_way q.number)) (sym (same_names Server plan.ports.items f.ports like)) ∙ sym (to_servers q plan.ports.items)

  server_ways : (q : PlanPort) → ways_from_server f q.number ≡ flat_map (λ r. ways_by Server r.role q r) plan.ports.items
  server_ways q =
      ap (flat_map (lanes_to f q.number)) (sym (same_names Client plan.ports.items f.ports like))
      ∙ sym (to_clients q (lanes_to f q.number) plan.ports.items
      (λ r among. ap (λ k. map (λ lane. response_way r.number lane q.number) (range_with_len 0 k)) (lanes_are r among)))

  by_role : (q : PlanPort) (role : Role) → q.role ≡ role
      → (if is_client role then ways_from_client f q.number else ways_from_server f q.number) ≡ flat_map (λ r. ways_by role r.role q r) plan.ports.items
  by_role q Client at = client_ways q
  by_role q Server at = server_ways q

  ways_are : (q : PlanPort) → IsAmong q plan.ports.items → ways_on p q.number ≡ planned_ways plan q
  ways_are q among =
      ap (λ (role : Role). if is_client role then ways_from_client f q.number else ways_from_server f q.number) (role_is q among)
      ∙ by_role q q.role refl

  -- ---- the desk of a port

  port_is : (q : PlanPort) → IsAmong q plan.ports.items → IsAsPlanned q (p.port q.number)
  port_is q among = find_in plan.ports.items (each_planned p.port plan.ports.items setting.is_for.ports) among
    where
      find_in : (qs : List PlanPort) → All (λ r. IsAsPlanned r (p.port r.number)) qs → IsAmong q qs → IsAsPlanned q (p.port q.number)
      find_in [] all none = absurd none
      find_in (r ∷ rs) all (inl same) = subst (λ (t : PlanPort). IsAsPlanned t (p.port t.number)) (sym same) (All-head (λ (t : PlanPort). IsAsPlanned t (p.port t.number)) r rs all)
      find_in (r ∷ rs) all (inr rest) = find_in rs (All-tail (λ (t : PlanPort). IsAsPlanned t (p.port t.number)) r rs all) rest

  lanes_by : (role : Role) (pool : ℕ) → (if is_client role then range_with_len 0 pool else []) ≡ range_with_len 0 (if is_client role then pool else 0)
  lanes_by Client pool = refl
  lanes_by Server pool = refl

  lanes_on_are : (q : PlanPort) → IsAmong q plan.ports.items → lanes_on p q.number ≡ range_with_len 0 (planned_lanes q)
  lanes_on_are q among =
      ap₂ (λ (role : Role) pool. if is_client role then range_with_len 0 pool else []) (port_is q among).role (port_is q among).pool
      ∙ lanes_by q.role q.pool

  desk_is : (q : PlanPort) → IsAmong q plan.ports.items → opened_desk p q.number ≡ planned_desk plan q
  desk_is q among =
      ap (λ pool. fresh_desk q.number pool (lanes_on p q.number) (ways_on p q.number)) (port_is q among).pool
      ∙ ap₂ (λ lanes ways. fresh_desk q.number q.pool lanes ways) (lanes_on_are q among) (ways_are q among)

  -- ---- a node

  owner_is : (q : PlanPort) → IsAmong q plan.ports.items → p.layout.owner q.number ≡ q.node
  owner_is q among =
      ap (λ (l : WireLayout). l.owner q.number) setting.layout ∙ ap (λ o. option_map_or (λ (r : PlanPort). r.node) o 0) (own q among)

  ports_of : (n : ℕ) (qs : List PlanPort) → ((q : PlanPort) → IsAmong q qs → p.layout.owner q.number ≡ q.node)
      → filter (λ port. p.layout.owner port == n) (map (λ q. q.number) qs) ≡ map (λ q. q.number) (filter (λ q. q.node == n) qs)
  ports_of n [] owned = refl
  ports_of n (q ∷ qs) owned = elim (cases_Bool (q.node == n)) [
    | inl here ↦ (
        let e : (p.layout.owner q.number == n) ≡ true = ap (λ k. k == n) (owned q (inl refl)) ∙ here in
        rw (e, here) (ap (λ ks. q.number ∷ ks) (ports_of n qs (λ r among. owned r (inr among))))
        )
    | inr apart_here ↦ (
        let e : (p.layout.owner q.number == n) ≡ false = ap (λ k. k == n) (owned q (inl refl)) ∙ apart_here in
        rw (e, apart_here) (ports_of n qs (λ r among. owned r (inr among)))
        )
  ]

  desks_are : (n : ℕ) → map (opened_desk p) (ports_on p n) ≡ planned_desks plan n
  desks_are n =
      ap (λ ks. map (opened_desk p) (filter (λ port. p.layout.owner port == n) ks)) numbers_are
      ∙ ap (map (opened_desk p)) (ports_of n plan.ports.items owner_is)
      ∙ map_map (opened_desk p) (λ (q : PlanPort). q.number) (filter (λ (q : PlanPort). q.node == n) plan.ports.items)
      ∙ map_alike (λ (q : PlanPort). opened_desk p q.number) (planned_desk plan) (filter (λ (q : PlanPort). q.node == n) plan.ports.items)
      (λ q among. desk_is q (filtered_among (λ (r : PlanPort). r.node == n) q plan.ports.items among))

  into_from : (n : ℕ) (q : PlanPort) → filter (λ (y : Way). p.layout.owner y.receiver == n) (planned_ways plan q) ≡ ways_to plan n q
  into_from n q =
      filter_flat (λ (y : Way). p.layout.owner y.receiver == n) (ways_between q) plan.ports.items
      ∙ flat_alike (λ (r : PlanPort). filter (λ (y : Way). p.layout.owner y.receiver == n) (ways_between q r))
      (λ (r : PlanPort). if r.node == n then ways_between q r else []) plan.ports.items
      (λ r among. filter_whole (λ (y : Way). p.layout.owner y.receiver == n) (r.node == n) (ways_between q r)
      (λ y here. ap (λ k. p.layout.owner k == n) (receiver_by q.role r.role q r y here) ∙ ap (λ k. k == n) (owner_is r among)))

  into_are : (n : ℕ) → ways_into p n ≡ planned.ways_into plan n
  into_are n =
      ap (λ ks. filter (λ (y : Way). p.layout.owner y.receiver == n) (flat_map (ways_on p) ks)) numbers_are
      ∙ ap (filter (λ (y : Way). p.layout.owner y.receiver == n)) (flat_map_map (ways_on p) (λ (q : PlanPort). q.number) plan.ports.items
      ∙ flat_alike (λ (q : PlanPort). ways_on p q.number) (planned_ways plan) plan.ports.items ways_are)
      ∙ filter_flat (λ (y : Way). p.layout.owner y.receiver == n) (planned_ways plan) plan.ports.items
      ∙ flat_alike (λ (q : PlanPort). filter (λ (y : Way). p.layout.owner y.receiver == n) (planned_ways plan q)) (ways_to plan n) plan.ports.items
      (λ q among. into_from n q)

  -- the node is the same
  pub opened_as_planned : (n : ℕ) → planned_seat plan n ≡ opened_seat p n
  opened_as_planned n =
      ap₂ (λ (desks : List Desk) (ways : List Way). new_seat n desks (map no_count ways)) (sym (desks_are n)) (sym (into_are n))
