-- A port that is made: the tables with it, and what is so of them.
use Rattle.std.specs.Prelude.{◌≡◌, ◌⊎◌, ℕ, ◌+◌, ◌*◌, ◌<◌, ◌≤◌, ◌^◌, Bool, true, false, ◌||◌, if◌then◌else◌, nat_le, List, [], ◌∷◌, ◌++◌, map, filter, length, Option, Some, None, refl}
use Rattle.std.proofs.Common.{sym, ap, ap₂, subst, ◌∙◌, arith, inl, inr}
use Rattle.std.proofs.Math.Nat.{mul-le-mul, zero-mul}
use Rattle.std.proofs.lemmas.Bool.{leb-false, or_parts}
use Rattle.std.proofs.lemmas.Option.{none-some}
use Rattle.iox_types.specs.declared.identifiers.system_id.UniqueSystemId.{UniqueSystemId}
use Rattle.iox_model.specs.declared.kind.Role.{Role}
use Rattle.iox_model.specs.declared.kind.Role.TheVariants.{Client, Server}
use Rattle.iox_model.specs.Maps.{has_number, or_else}
use Rattle.iox_model.specs.Settings.{same_role}
use Rattle.iox_lanes.specs.Pipes.{PipeState}
use Rattle.iox_tables.specs.HubStates.Tables.{HubSettings, HubTables, PoolState, PortState, numbers_of}
use Rattle.iox_tables.specs.HubBooks.Counts.{OfAll}
use Rattle.iox_tables.specs.HubBooks.Hubs.{AreInOrder}
use Rattle.iox_tables.specs.HubBooks.Rooms.{CanCountHolders}
use Rattle.iox_tables.proofs.HubBooks.Eachs.{all-append}
use Rattle.iox_slots.specs.Pools.{place_for_one, with_one_more}
use Rattle.iox_tables.specs.HubMaking.NewPorts.{connected_from, connected_to, pool_made, ports_with, width_of}
use Rattle.iox_tables.specs.HubMaking.OneByOne.{HaveRoom, PipesHaveRoom, most_of}
use Rattle.iox_tables.proofs.HubMaking.Connecting.{shows_same}
use Rattle.iox_tables.proofs.HubMaking.Firsts.{has_first}
use Rattle.iox_tables.proofs.HubMaking.Removing.{new_pipes_have_room}
use Rattle.iox_tables.proofs.HubMaking.Rooming.{room_always_stays}
use Rattle.iox_tables.specs.HubKeeping.Keeps.{MayBeMade}
use Rattle.iox_tables.proofs.HubKeeping.NewHandles.{makings_keep_order}
use Rattle.iox_tables.proofs.HubKeeping.NewLanes.{new_lanes_are}
use Rattle.iox_tables.proofs.HubKeeping.Ordered.{are_connected, names_apart, not_there, places_become_free}
use Rattle.iox_control.specs.Controls.{AreCounted, ControlState, HaveBuffers, IsControl, with_number, with_port_added, with_ports}
use Rattle.iox_control_making.specs.declared.asked.Asked.{Asked}
use Rattle.iox_control_making.specs.declared.asked.NotMade.TheVariants.{DataSegment, PortTag, TooManyPorts}
use Rattle.iox_control_making.specs.declared.making.Parts.{Parts}
use Rattle.iox_control_making.specs.declared.pipes.Link.{Link}
use Rattle.iox_control_making.specs.declared.sizes.Sizes.{Sizes}
use Rattle.iox_control_making.specs.Bounds.{count_of, kept_of, sizes_of}
use Rattle.iox_control_making.specs.Links.{all_linked}
use Rattle.iox_control_making.specs.Making.{HasRoomForPorts, info_asked, not_made, port_asked, with_asked}
use Rattle.iox_control_making.specs.Parts.{IsOfParts}
use Rattle.iox_control_making.specs.Sizes.{all_handles, all_lanes, sizes_among, with_kept, with_size}
use Rattle.iox_control_making.proofs.Counting.{lanes_are_counted, no_more_may_come}
use Rattle.iox_control_making.proofs.Linking.{all_are_linked}
use Rattle.iox_control_making.proofs.Vacant.{one_more_is_put, vacant}
use Rattle.iox_control_making.proofs.Walks.{sizes_more}

-- ---- tests

none_failed : (a b c : Bool) → or_else (if a then Some PortTag else None) (or_else (if b then Some DataSegment else None) (if c then Some TooManyPorts else None)) ≡ None
    → (a ≡ false) × (b ≡ false) × (c ≡ false)
none_failed false false false e = (refl, refl, refl)
none_failed true b c e = absurd (none-some PortTag (sym e))
none_failed false true c e = absurd (none-some DataSegment (sym e))
none_failed false false true e = absurd (none-some TooManyPorts (sym e))

-- ---- sizes

-- a port that keeps nothing
keeps_none : (s : Sizes) (role : Role) (size : ℕ) → with_kept s role size 0 ≡ s
keeps_none s Client size = λ i. record s { client_kept = nothing i }
  where
    nothing : s.client_kept + 0 * size ≡ s.client_kept
    nothing = let none : 0 * size ≡ 0 = zero-mul size in omega (arith, none)
keeps_none s Server size = λ i. record s { server_kept = nothing i }
  where
    nothing : s.server_kept + 0 ≡ s.server_kept
    nothing = omega arith

module _ (settings : HubSettings) (new : PortState) where
  abbrev C : PortState → PortState
  C p = connected_to settings new p

  same_numbers : (ps : List PortState) → numbers_of (map C ps) ≡ numbers_of ps
  same_numbers [] = refl
  same_numbers (p ∷ ps) = ap₂ (λ n ns. n ∷ ns) (shows_same settings ps new (λ q. q.number) p (λ qs. refl)) (same_numbers ps)

  same_sizes : (role : Role) (ps : List PortState) → sizes_of role (map C ps) ≡ sizes_of role ps
  same_sizes role [] = refl
  same_sizes role (p ∷ ps) = ap₂ (λ (a b : ℕ). a + b) (shows_same settings ps new (λ q. if same_role q.role role then q.size else 0) p (λ qs. refl)) (same_sizes role ps)

  same_kept : (role : Role) (ps : List PortState) → kept_of role (map C ps) ≡ kept_of role ps
  same_kept role [] = refl
  same_kept role (p ∷ ps) =
      ap₂ (λ (a b : ℕ). a + b) (shows_same settings ps new (λ q. if same_role q.role role then length q.expired.pipes * width_of q else 0) p (λ qs. refl)) (same_kept role ps)

  same_counts : (role : Role) (ps : List PortState) → count_of role (map C ps) ≡ count_of role ps
  same_counts role [] = refl
  same_counts role (p ∷ ps) =
      ap (λ (b : Bool). length (map (λ (q : PortState). q.number) (if b then C p ∷ filter (λ q. same_role q.role role) (map C ps) else filter (λ q. same_role q.role role) (map C ps))))
      (shows_same settings ps new (λ q. same_role q.role role) p (λ qs. refl))
      ∙ step (same_role p.role role) (same_counts role ps)
    where
      step : (b : Bool) → count_of role (map C ps) ≡ count_of role ps
          → length (map (λ (q : PortState). q.number) (if b then C p ∷ filter (λ q. same_role q.role role) (map C ps) else filter (λ q. same_role q.role role) (map C ps)))
          ≡ length (map (λ (q : PortState). q.number) (if b then p ∷ filter (λ q. same_role q.role role) ps else filter (λ q. same_role q.role role) ps))
      step true rest = omega (arith, rest)
      step false rest = rest

  same_among : (ps : List PortState) → sizes_among (map C ps) ≡ sizes_among ps
  same_among ps = λ i. record {
    clients = same_counts Client ps i;
    servers = same_counts Server ps i;
    client_messages = same_sizes Client ps i;
    server_messages = same_sizes Server ps i;
    client_kept = same_kept Client ps i;
    server_kept = same_kept Server ps i;
  }

  sizes_after : new.expired.pipes ≡ [] → (ps : List PortState) → sizes_among (ports_with settings ps new) ≡ with_size (sizes_among ps) new.role new.size
  sizes_after none ps =
      sym (sizes_more (map C ps) (connected_from settings ps new))
      ∙ ap₂ (λ s k. with_kept (with_size s new.role new.size) new.role new.size k) (same_among ps) (ap (λ (es : List PipeState). length es) none)
      ∙ keeps_none (with_size (sizes_among ps) new.role new.size) new.role new.size

times : (a b c d k : ℕ) → a ≤ c → b ≤ d → a * b + k ≤ c * d + k
times a b c d k p q = let more : a * b ≤ c * d = mul-le-mul p q in omega (arith, more)

-- with one port more there are no fewer lanes
more_lanes : (s : Sizes) (role : Role) (size : ℕ) → all_lanes s ≤ all_lanes (with_size s role size)
more_lanes s Client size =
    times s.servers (s.client_messages + s.clients) s.servers ((s.client_messages + size) + (s.clients + 1)) (s.client_kept + s.server_kept) (omega arith) (omega arith)
more_lanes s Server size =
    times s.servers (s.client_messages + s.clients) (s.servers + 1) (s.client_messages + s.clients) (s.client_kept + s.server_kept) (omega arith) (omega arith)

-- ---- the port is made

module _ (t : HubTables) (node : ℕ) (role : Role) (id : UniqueSystemId) (asked : Asked) where
  abbrev new : PortState
  new = port_asked t node role id asked

  abbrev pools : List (Option PoolState)
  pools = with_one_more t.pools (pool_made new)

  abbrev left : HubTables
  left = with_asked t new

  abbrev after : Sizes
  after = with_size (sizes_among t.ports) role asked.size

  module _ (allowed : not_made t role asked true ≡ None) where
    pub tests : (nat_le (2 ^ 32) t.ports_made ≡ false) × ((asked.large || false) ≡ false) × (nat_le (most_of t.settings role) (count_of role t.ports) ≡ false)
    tests = none_failed (nat_le (2 ^ 32) t.ports_made) (asked.large || false) (nat_le (most_of t.settings role) (count_of role t.ports)) allowed

    pub few_made : t.ports_made < 2 ^ 32
    few_made = leb-false (2 ^ 32) t.ports_made tests.0

    pub not_large : asked.large ≡ false
    not_large = (or_parts asked.large false tests.1).0

    pub not_too_many : nat_le (most_of t.settings role) (count_of role t.ports) ≡ false
    not_too_many = tests.2

    module _ (order : AreInOrder t)
        (room : HaveRoom t) (counted : AreCounted t) where
      may : MayBeMade t new
      may = record { number = refl; place = (places_become_free t (place_for_one t.pools) order).empty (vacant t.pools); none = refl }

      order_after : AreInOrder left
      order_after = makings_keep_order t new pools order may (one_more_is_put t.pools (pool_made new))

      loans : OfAll (λ p. p.loans ≤ t.calls) (ports_with t.settings t.ports new)
      loans =
          all-append (λ p. p.loans ≤ t.calls) (map (connected_to t.settings new) t.ports) (connected_from t.settings t.ports new ∷ [])
          (each t.ports counted.loans) (omega arith, tt)
        where
          each : (ps : List PortState) → OfAll (λ p. p.loans ≤ t.calls) ps → OfAll (λ p. p.loans ≤ t.calls) (map (connected_to t.settings new) ps)
          each [] a = tt
          each (p ∷ ps) a = (subst (λ n. n ≤ t.calls) (sym (shows_same t.settings ps new (λ q. q.loans) p (λ qs. refl))) a.0, each ps a.1)

      counted_after : AreCounted left
      counted_after = record {
        calls = counted.calls;
        ports = let few = few_made in omega (arith, few);
        numbers = let was = counted.numbers in omega (arith, was);
        loans = loans;
        deliveries = new_lanes_are t.settings t.ports new refl (λ l. l.deliveries ≤ t.calls) (λ pool buffer limit. omega arith) counted.deliveries;
      }

      sizes_are : sizes_among left.ports ≡ after
      sizes_are = sizes_after t.settings new refl t.ports

      -- there is room for what may come
      is_control : HaveBuffers t.settings → (r p : ℕ) → all_handles after t.settings.borrowed_responses t.settings.active_requests ≤ r → all_lanes after + length t.handles + r < 2 ^ 64
          → IsControl (record { tables = left; room = r; port_room = p })
      is_control buffers r p enough holders = record {
        buffers = buffers;
        order = order_after;
        ports = (room_always_stays t).made new pools room not_too_many refl;
        counted = counted_after;
        room = fits (no_more_may_come left order_after) (ap (λ s. all_handles s t.settings.borrowed_responses t.settings.active_requests) sizes_are) enough;
        holders = below (length t.handles) (lanes_are_counted left order_after) (ap all_lanes sizes_are) holders;
      }
        where
          fits : {a b d : ℕ} → a ≤ b → b ≡ d → d ≤ r → a ≤ r
          fits h e g = omega (arith, h, e, g)

          below : {a b d : ℕ} (n : ℕ) → a ≡ b → b ≡ d → d + n + r < 2 ^ 64 → a + n + r < 2 ^ 64
          below n h e g = omega (arith, h, e, g)

      have_room : PipesHaveRoom t new
      have_room = new_pipes_have_room t new (are_connected t order) room not_too_many

      -- what code leaves
      module _ (c1 : ControlState) (parts : Parts) (reserved : c1.tables ≡ record t { pools = pools }) (of : IsOfParts t (info_asked t node role id asked) parts) where
        -- its number is no other's
        pub fresh_is : has_number parts.port.number (numbers_of (all_linked c1.tables.ports parts.links.items)) ≡ false
        fresh_is =
            ap (λ (p : PortState). has_number p.number (numbers_of (all_linked c1.tables.ports parts.links.items))) of.port
            ∙ ap (λ (u : HubTables). has_number t.next_number (numbers_of (all_linked u.ports parts.links.items))) reserved
            ∙ ap (λ ls. has_number t.next_number (numbers_of (all_linked t.ports ls))) of.links
            ∙ ap (λ ps. has_number t.next_number (numbers_of ps)) (all_are_linked t new (names_apart t order) have_room)
            ∙ ap (has_number t.next_number) (same_numbers t.settings new t.ports)
            ∙ has_first (λ (p : PortState). p.number) t.ports t.next_number ∙ not_there t order

      module _ (c1 c2 : ControlState) (parts : Parts) (reserved : c1.tables ≡ record t { pools = pools }) (of : IsOfParts t (info_asked t node role id asked) parts)
          (joined : c2 ≡ with_number (with_port_added (with_ports c1 (all_linked c1.tables.ports parts.links.items)) parts.port)) where
        abbrev joined_to : HubTables → List Link → PortState → HubTables
        joined_to u ls p = record u { ports = all_linked u.ports ls ++ p ∷ []; next_number = u.next_number + 1; ports_made = u.ports_made + 1 }

        pub tables_are : c2.tables ≡ left
        tables_are =
            ap (λ (d : ControlState). d.tables) joined
            ∙ ap (λ u. joined_to u parts.links.items parts.port) reserved
            ∙ ap₂ (λ ls p. joined_to (record t { pools = pools }) ls p) of.links (of.port ∙ sym (have_room.newest refl refl))
            ∙ ap (λ ps. record t { next_number = t.next_number + 1; ports_made = t.ports_made + 1; ports = ps ++ connected_from t.settings t.ports new ∷ []; pools = pools })
            (all_are_linked t new (names_apart t order) have_room)

        pub control_is : HaveBuffers t.settings → HasRoomForPorts c1 after → IsControl c2
        control_is buffers has =
            subst (λ u. IsControl (record { tables = u; room = c2.room; port_room = c2.port_room })) (sym tables_are)
            (is_control buffers c2.room c2.port_room
            (subst (λ r. all_handles after t.settings.borrowed_responses t.settings.active_requests ≤ r) (sym (ap (λ (d : ControlState). d.room) joined))
            (subst (λ (u : HubTables). all_handles after u.settings.borrowed_responses u.settings.active_requests ≤ c1.room) reserved has.enough))
            (subst (λ r. all_lanes after + length t.handles + r < 2 ^ 64) (sym (ap (λ (d : ControlState). d.room) joined))
            (subst (λ (u : HubTables). all_lanes after + length u.handles + c1.room < 2 ^ 64) reserved has.counted)))

-- ---- the port is not made

-- more room harms nothing
pub more_room : (c c' : ControlState) (role : Role) (size : ℕ) → IsControl c → c'.tables ≡ c.tables → c.room ≤ c'.room
    → (c'.room ≡ c.room) ⊎ HasRoomForPorts c' (with_size (sizes_among c.tables.ports) role size) → IsControl c'
more_room c c' role size order same more either =
    subst (λ u. IsControl (record { tables = u; room = c'.room; port_room = c'.port_room })) (sym same)
    (record {
      buffers = order.buffers;
      order = order.order;
      ports = order.ports;
      counted = order.counted;
      room = fits order.room more;
      holders = below either;
    })
  where
    fits : {a b d : ℕ} → a ≤ b → b ≤ d → a ≤ d
    fits h g = omega (arith, h, g)

    below : (c'.room ≡ c.room) ⊎ HasRoomForPorts c' (with_size (sizes_among c.tables.ports) role size) → CanCountHolders c'.room c.tables
    below (inl e) = subst (λ r. CanCountHolders r c.tables) (sym e) order.holders
    below (inr has) =
        fewer (length c.tables.handles) c'.room (lanes_are_counted c.tables order.order) (more_lanes (sizes_among c.tables.ports) role size)
        (subst (λ (u : HubTables). all_lanes (with_size (sizes_among c.tables.ports) role size) + length u.handles + c'.room < 2 ^ 64) same has.counted)
      where
        fewer : {a b d : ℕ} (n r : ℕ) → a ≡ b → b ≤ d → d + n + r < 2 ^ 64 → a + n + r < 2 ^ 64
        fewer n r h e g = omega (arith, h, e, g)
