-- A port that is made is as its maker asked.
use Rattle.std.specs.Prelude.{◌≡◌, ℕ, not, List, Option, Some, Result, Ok, Err, IfOk, refl, unwrap_or}
use Rattle.std.specs.Option.{option_map}
use Rattle.std.proofs.Common.{ap, subst, ◌∙◌}
use Rattle.iox_types.specs.declared.identifiers.system_id.UniqueSystemId.{UniqueSystemId}
use Rattle.iox_laws.specs.AllocationStrategy.{AllocationStrategy}
use Rattle.iox_laws.specs.BackpressureStrategy.{BackpressureStrategy}
use Rattle.iox_model.specs.declared.kind.Role.TheVariants.{Client, Server}
use Rattle.iox_model.specs.declared.reply.Reply.TheVariants as replies
use Rattle.iox_model.specs.Commands.{Create}
use Rattle.iox_model.specs.Makings.{IsHubCommand, allocation_of, new_port, strategy_of}
use Rattle.iox_model.specs.Settings.{Shape, is_static}
use Rattle.iox_model.specs.States.{Port}
use Rattle.iox_tables.specs.HubStates.States.{Given}
use Rattle.iox_hub_laws.specs.Hubs.{HubState, IsHub, state_of_hub}
use Rattle.iox_hub_laws.specs.Making.{options_with}
use Rattle.iox_hub_laws.specs.Options.{Options}
use Rattle.iox_hub_laws.specs.Shown.{shown}
use Rattle.iceoryx2_ports.specs.Makings.{IsMadeAs, port_shown}
use Rattle.iceoryx2_ports.proofs.Idle.{made_port}

pub client_made_as : (old new : HubState) → IsHub old → (node : ℕ) (id : UniqueSystemId) (o : Options) (handler : Option (List ℕ)) (n : ℕ)
    → ((x : Given) → IsHubCommand (state_of_hub x old) node (Create Client id (options_with o handler)) (replies.Client n) (state_of_hub x new))
    → IsMadeAs new n old.request o
client_made_as old new hub node id o handler n whole =
    let there : port_shown new n ≡ Some (new_port (shown old).fixed node Client id (options_with o handler))
    = made_port old new hub node Client id (options_with o handler) (replies.Client n) whole n refl in
    record {
      longest = ap (option_map (λ (p : Port). p.longest)) there;
      grows = λ (strategy : AllocationStrategy) is.
          ap (option_map (λ (p : Port). p.grows)) there
          ∙ ap (λ (q : Option AllocationStrategy). Some (not (is_static (unwrap_or q (allocation_of (shown old).fixed.limits Client))))) is;
      strategy = λ (strategy : BackpressureStrategy) is.
          ap (option_map (λ (p : Port). p.strategy)) there
          ∙ ap (λ (q : Option BackpressureStrategy). Some (unwrap_or q (strategy_of (shown old).fixed.limits Client))) is;
    }

pub server_made_as : (old new : HubState) → IsHub old → (node : ℕ) (id : UniqueSystemId) (o : Options) (handler : Option (List ℕ)) (n : ℕ)
    → ((x : Given) → IsHubCommand (state_of_hub x old) node (Create Server id (options_with o handler)) (replies.Server n) (state_of_hub x new))
    → IsMadeAs new n old.response o
server_made_as old new hub node id o handler n whole =
    let there : port_shown new n ≡ Some (new_port (shown old).fixed node Server id (options_with o handler))
    = made_port old new hub node Server id (options_with o handler) (replies.Server n) whole n refl in
    record {
      longest = ap (option_map (λ (p : Port). p.longest)) there;
      grows = λ (strategy : AllocationStrategy) is.
          ap (option_map (λ (p : Port). p.grows)) there
          ∙ ap (λ (q : Option AllocationStrategy). Some (not (is_static (unwrap_or q (allocation_of (shown old).fixed.limits Server))))) is;
      strategy = λ (strategy : BackpressureStrategy) is.
          ap (option_map (λ (p : Port). p.strategy)) there
          ∙ ap (λ (q : Option BackpressureStrategy). Some (unwrap_or q (strategy_of (shown old).fixed.limits Server))) is;
    }

-- It is so where only the pool is another.
pub made_but_for_pool : {A E : Type 0} (number : A → ℕ) (h : HubState) (shape : Shape) (old new : Options) → new ≡ record old { pool = new.pool }
    → (made : Result A E) → IfOk made (λ port. IsMadeAs h (number port) shape new) → IfOk made (λ port. IsMadeAs h (number port) shape old)
made_but_for_pool number h shape old new same (Ok port) is =
    let its : IsMadeAs h (number port) shape (record old { pool = new.pool }) = subst (IsMadeAs h (number port) shape) same is in
    record { longest = its.longest; grows = its.grows; strategy = its.strategy }
made_but_for_pool number h shape old new same (Err error) is = tt
