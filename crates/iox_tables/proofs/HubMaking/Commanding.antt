-- The making of a port, as the machine's command.
use Rattle.std.specs.Prelude.{◌≡◌, ℕ, ◌^◌, Bool, not, ◌||◌, nat_le, List, length, Option, Some, None, refl}
use Rattle.std.proofs.Common.{sym, ap, ◌∙◌, subst}
use Rattle.iox_laws.specs.UniqueSystemId.{UniqueSystemId}
use Rattle.iox_model.specs.declared.kind.Role.{Role}
use Rattle.iox_model.specs.declared.reply.Refusal.TheVariants.{UnableToCreateDataSegment, UnableToCreatePortTag}
use Rattle.iox_model.specs.declared.reply.Reply.TheVariants.{Refused}
use Rattle.iox_model.specs.Commands.{Options, Refusal, Reply}
use Rattle.iox_model.specs.Counts.{with_fixed}
use Rattle.iox_model.specs.Makings.{is_large, making_refusal, most_ports, new_port, port_reply, too_many_ports, with_port}
use Rattle.iox_model.specs.Maps.{or_else, refused_if}
use Rattle.iox_model.specs.States as m
use Rattle.iox_model.specs.WholeCalls.{UnlessRefused}
use Rattle.iox_tables.specs.HubStates.Tables.{HubTables, PoolState, PortState}
use Rattle.iox_tables.specs.HubStates.States.{Given, fixed_of, limits_of, state_shown}
use Rattle.iox_tables.proofs.HubStates.Fixing.{roles_are}
use Rattle.iox_tables.specs.HubMaking.FreePools.{NobodyHas, OthersStay}
use Rattle.iox_tables.specs.HubMaking.NewPorts.{CanTakePort, EachMakingIsShown, given_made, making_refused, port_made, with_port_made}
use Rattle.iox_tables.proofs.HubMaking.Making.{added_is}
use Rattle.iox_tables.proofs.HubMaking.Pooling.{free_pools_may_change}

module _ (x : Given) (t : HubTables) (node : ℕ) (role : Role) (id : UniqueSystemId) (o : Options) where
  abbrev s : m.State
  s = state_shown x t

  test_is : (memory : Bool) → making_refusal (fixed_of x t) role o memory ≡ making_refused x t role o memory
  test_is memory =
      ap
      (λ (ns : List ℕ). or_else (refused_if (nat_le (2 ^ 32) t.ports_made) UnableToCreatePortTag)
      (or_else (refused_if (is_large (limits_of x t) role o || not memory) UnableToCreateDataSegment)
      (refused_if (nat_le (most_ports (limits_of x t) role) (length ns)) (too_many_ports role))))
      (roles_are x t.ports role)

  -- the machine's state with one port more
  abbrev made_of : m.State → m.State
  made_of u = with_fixed u (with_port u.fixed (new_port u.fixed node role id o))

  module _ (place : ℕ) (words : Given) (pools : List (Option PoolState)) (can : CanTakePort t) (nobody : NobodyHas t place)
      (stay : OthersStay place x t.pools words pools) where
    abbrev new : PortState
    new = port_made x t node role id o place

    -- the words and the pools come first
    abbrev y : Given
    y = record x { user = words.user; payload = words.payload; filled = words.filled }

    abbrev u : HubTables
    u = record t { pools = pools }

    can_still : CanTakePort u
    can_still = record {
      fresh = can.fresh;
      apart = can.apart;
      wired = λ n p is. record { senders = (can.wired n p is).senders; apart = (can.wired n p is).apart; none_kept = (can.wired n p is).none_kept };
      unkept = can.unkept;
    }

    made_is : made_of s ≡ state_shown (given_made x words t.next_number o.handler) (with_port_made t new pools)
    made_is =
        ap made_of
        (free_pools_may_change x y t place pools (record { members = refl; acts = refl; handler = refl; request = refl; response = refl }) nobody
        (record { pools = stay.pools; user = stay.user; payload = stay.payload; filled = stay.filled }))
        ∙ added_is y u new can_still refl refl refl o.handler

-- what an option of a refusal leads to
by_test : (o p : Option Refusal) (s : m.State) (reply : Reply) (s' : m.State) (P : Type 0) → o ≡ p → UnlessRefused p s reply s' P → UnlessRefused o s reply s' P
by_test o p s reply s' P e is = subst (λ q. UnlessRefused q s reply s' P) (sym e) is

pub each_making_is_shown : EachMakingIsShown
each_making_is_shown x t node role id o = record {
  test = test_is x t node role id o;
  refused = λ memory r e. (
    memory,
    by_test (making_refusal (fixed_of x t) role o memory) (Some r) (state_shown x t) (Refused r) (state_shown x t) _ (test_is x t node role id o memory ∙ e) (refl, refl),
  );
  made = λ memory place words pools e can nobody stay. (
    memory,
    by_test (making_refusal (fixed_of x t) role o memory) None (state_shown x t) (port_reply role t.next_number) _ _ (test_is x t node role id o memory ∙ e)
        (refl, sym (made_is x t node role id o place words pools can nobody stay)),
  );
}
