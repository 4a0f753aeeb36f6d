-- What the making of a port is told: the machine's reply.
use Rattle.std.specs.Prelude.{◌≡◌, ℕ, ◌<◌, ◌^◌, Bool, true, false, not, ◌||◌, if◌then◌else◌, nat_le, List, Option, Some, None, refl}
use Rattle.std.specs.Option.{option_map}
use Rattle.std.proofs.Common.{sym, ap, ap₂, subst, ◌∙◌, arith}
use Rattle.std.proofs.lemmas.Bool.{leb-true}
use Rattle.iox_types.specs.declared.identifiers.system_id.UniqueSystemId.{UniqueSystemId}
use Rattle.iox_model.specs.declared.kind.Role.{Role}
use Rattle.iox_model.specs.declared.kind.Role.TheVariants.{Client, Server}
use Rattle.iox_model.specs.declared.reply.Refusal.TheVariants.{UnableToCreateDataSegment, UnableToCreatePortTag}
use Rattle.iox_model.specs.declared.reply.Reply.TheVariants.{Refused}
use Rattle.iox_model.specs.Commands.{Create, Options}
use Rattle.iox_model.specs.Makings.{IsHubCommand, is_large, most_ports, port_reply, too_many_ports}
use Rattle.iox_model.specs.Maps.{or_else, refused_if}
use Rattle.iox_model.specs.Settings.{other_role}
use Rattle.iox_lanes.specs.Incomings.{no_pipes}
use Rattle.iox_tables.specs.HubStates.Tables.{HubSettings, HubTables, PortState}
use Rattle.iox_tables.specs.HubStates.States.{Given, limits_of, state_shown}
use Rattle.iox_tables.specs.HubBooks.Hubs.{AreInOrder}
use Rattle.iox_slots.specs.Pools.{place_for_one, with_one_more}
use Rattle.iox_tables.specs.HubMaking.FreePools.{OthersStay}
use Rattle.iox_tables.specs.HubMaking.NewPorts.{given_made, making_refused, pool_made, port_made, room_for_gone, with_port_made}
use Rattle.iox_tables.specs.HubMaking.OneByOne.{most_of}
use Rattle.iox_tables.proofs.HubMaking.Commanding.{each_making_is_shown}
use Rattle.iox_tables.proofs.HubKeeping.Ordered.{order_is_ready_for_ports, places_become_free}
use Rattle.iox_control_making.specs.declared.asked.Asked.{Asked}
use Rattle.iox_control_making.specs.declared.asked.NotMade.{NotMade}
use Rattle.iox_control_making.specs.declared.asked.NotMade.TheVariants.{DataSegment, PortTag, TooManyPorts}
use Rattle.iox_control_making.specs.declared.sizes.Sizes.{Sizes}
use Rattle.iox_control_making.specs.Bounds.{count_of}
use Rattle.iox_control_making.specs.Making.{AsksFor, count_in, not_made, port_asked, refusal_of, with_asked}
use Rattle.iox_control_making.specs.Sizes.{sizes_among}
use Rattle.iox_control_making.proofs.Made.{not_large}
use Rattle.iox_control_making.proofs.Vacant.{vacant}

-- ---- the tests of code

pub below_is : (n m k : ℕ) → n ≡ m → n < k → nat_le k m ≡ false
below_is n m k e low = step (nat_le k m) refl
  where
    step : (b : Bool) → nat_le k m ≡ b → b ≡ false
    step false is = refl
    step true is = let no_less = leb-true k m is in absurd (omega (arith, no_less, low, e))

-- whether there are as many as there may be
pub full_is : (t : HubTables) (role : Role) (set : HubSettings) (s : Sizes) (ps : List PortState) (b c : Bool) → b ≡ nat_le (most_of set role) (count_in s role) → set ≡ t.settings
    → s ≡ sizes_among ps → ps ≡ t.ports → b ≡ c → nat_le (most_of t.settings role) (count_of role t.ports) ≡ c
full_is t role set s ps b c e settings sizes ports is =
    sym (e ∙ ap₂ (λ (u : HubSettings) v. nat_le (most_of u role) (count_in v role)) settings (sizes ∙ ap sizes_among ports) ∙ ap (nat_le (most_of t.settings role)) (count role t.ports)) ∙ is
  where
    count : (r : Role) (qs : List PortState) → count_in (sizes_among qs) r ≡ count_of r qs
    count Client qs = refl
    count Server qs = refl

abbrev by_tests : Bool → Bool → Bool → Option NotMade
by_tests a b c = or_else (if a then Some PortTag else None) (or_else (if b then Some DataSegment else None) (if c then Some TooManyPorts else None))

module _ (t : HubTables) (role : Role) (asked : Asked) (few : nat_le (2 ^ 32) t.ports_made ≡ false) (large : asked.large ≡ false) where
  tested : (c : Bool) → nat_le (most_of t.settings role) (count_of role t.ports) ≡ c → not_made t role asked true ≡ by_tests false false c
  tested c e = λ i. by_tests (few i) (large i || false) (e i)

  pub too_many : nat_le (most_of t.settings role) (count_of role t.ports) ≡ true → not_made t role asked true ≡ Some TooManyPorts
  too_many e = tested true e

  pub passed : nat_le (most_of t.settings role) (count_of role t.ports) ≡ false → not_made t role asked true ≡ None
  passed e = tested false e

-- ---- the same refusals

shown_by : (role : Role) (a b c : Bool)
    → or_else (refused_if a UnableToCreatePortTag) (or_else (refused_if b UnableToCreateDataSegment) (refused_if c (too_many_ports role))) ≡ option_map (refusal_of role) (by_tests a b c)
shown_by role true b c = refl
shown_by role false true c = refl
shown_by role false false true = refl
shown_by role false false false = refl

most_shown : (x : Given) (t : HubTables) (role : Role) → most_ports (limits_of x t) role ≡ most_of t.settings role
most_shown x t Client = refl
most_shown x t Server = refl

module _ (x : Given) (t : HubTables) (role : Role) (o : Options) (asked : Asked) (is : AsksFor x t role o asked) where
  refusal_is : (memory : Bool) → making_refused x t role o memory ≡ option_map (refusal_of role) (not_made t role asked memory)
  refusal_is memory =
      shown_by role (nat_le (2 ^ 32) t.ports_made) (is_large (limits_of x t) role o || not memory) (nat_le (most_ports (limits_of x t) role) (count_of role t.ports))
      ∙ ap₂ (λ b n. option_map (refusal_of role) (by_tests (nat_le (2 ^ 32) t.ports_made) (b || not memory) (nat_le n (count_of role t.ports)))) (sym is.large) (most_shown x t role)

  -- a refusal is the machine's
  pub refused_whole : (t' : HubTables) (node : ℕ) (id : UniqueSystemId) (r : NotMade) → t' ≡ t → (memory : Bool) × (not_made t role asked memory ≡ Some r)
      → IsHubCommand (state_shown x t) node (Create role id o) (Refused (refusal_of role r)) (state_shown x t')
  refused_whole t' node id r same why =
      subst (λ (u : HubTables). IsHubCommand (state_shown x t) node (Create role id o) (Refused (refusal_of role r)) (state_shown x u)) (sym same)
      ((each_making_is_shown x t node role id o).refused why.0 (refusal_of role r) (refusal_is why.0 ∙ ap (option_map (refusal_of role)) why.1))

  -- ---- the port is made

  module _ (node : ℕ) (id : UniqueSystemId) (allowed : not_made t role asked true ≡ None) where
    abbrev new : PortState
    new = port_asked t node role id asked

    port_is : port_made x t node role id o (place_for_one t.pools) ≡ new
    port_is =
        let fits : asked.large ≡ false = not_large t node role id asked allowed in λ i. record {
          number = t.next_number;
          node = node;
          role = role;
          node_id = id;
          id = record id { counter = t.ports_made };
          pool = place_for_one t.pools;
          size = is.size fits i;
          longest = is.longest fits i;
          grows = is.grows fits i;
          strategy = is.strategy fits i;
          loaned_responses = is.loans fits i;
          held = true;
          loans = 0;
          expired = no_pipes (room_for_gone t.settings role);
          incoming = no_pipes (most_shown x t (other_role role) i);
        }

    -- so is the making
    pub made_whole : (order : AreInOrder t) (t' : HubTables) (words : Given) → t' ≡ with_asked t new
        → OthersStay (place_for_one t.pools) x t.pools words t'.pools
        → IsHubCommand (state_shown x t) node (Create role id o) (port_reply role t.next_number) (state_shown (given_made x words t.next_number o.handler) t')
    made_whole order t' words same others =
        let free = places_become_free t (place_for_one t.pools) order in
        subst (λ (u : HubTables). IsHubCommand (state_shown x t) node (Create role id o) (port_reply role t.next_number) (state_shown (given_made x words t.next_number o.handler) u)) (sym same)
        (subst (λ (p : PortState). IsHubCommand (state_shown x t) node (Create role id o) (port_reply role t.next_number)
        (state_shown (given_made x words t.next_number o.handler) (with_port_made t p (with_one_more t.pools (pool_made new))))) port_is
        ((each_making_is_shown x t node role id o).made true (place_for_one t.pools) words (with_one_more t.pools (pool_made new))
        (refusal_is true ∙ ap (option_map (refusal_of role)) allowed)
        (order_is_ready_for_ports t order).takes (free.nobody (free.empty (vacant t.pools)))
        (subst (λ (u : HubTables). OthersStay (place_for_one t.pools) x t.pools words u.pools) same others)))

-- where there is no memory, that is why
pub no_memory : (t : HubTables) (role : Role) (asked : Asked) → nat_le (2 ^ 32) t.ports_made ≡ false → not_made t role asked false ≡ Some DataSegment
no_memory t role asked few =
    ap₂ (λ a b. by_tests a b (nat_le (most_of t.settings role) (count_of role t.ports))) few (either asked.large)
  where
    either : (b : Bool) → (b || true) ≡ true
    either true = refl
    either false = refl
