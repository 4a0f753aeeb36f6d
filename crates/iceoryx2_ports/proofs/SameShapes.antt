-- Messages have the same shapes after each call as before, and a filling keeps other values.
use Rattle.std.specs.Prelude.{◌≡◌, ℕ, Bool, true, false, ◌&&◌, ◌==◌, refl}
use Rattle.std.proofs.Common.{ap, eqb-true}
use Rattle.iox_types.specs.declared.identifiers.system_id.UniqueSystemId.{UniqueSystemId}
use Rattle.iox_store.specs.Stored.{StoredMessage}
use Rattle.iox_model.specs.declared.kind.Kind.{Kind}
use Rattle.iox_model.specs.declared.kind.Role.{Role}
use Rattle.iox_model.specs.Commands.{Call, Create, Options, Reply, Use}
use Rattle.iox_model.specs.Makings.{IsHubCommand}
use Rattle.iox_model.specs.States.{State}
use Rattle.iox_model.specs.WholeCalls.{IsWholeCall}
use Rattle.iox_tables.specs.HubStates.States.{Given}
use Rattle.iox_hub_laws.proofs.ShapesStay.{command_shapes, shapes_of_limits}
use Rattle.iox_hub_laws.specs.Fillings.{FillsLoan}
use Rattle.iox_hub_laws.specs.Hubs.{HasValue, HubState, nothing_given, state_of_hub}
use Rattle.iox_hub_laws.specs.Keeping.{HaveSameShapes, KeepsOthers}

pub same_shapes : (old new : HubState) (node : ℕ) (call : Call) (reply : Reply)
    → ((x : Given) → IsWholeCall (state_of_hub x old) node call reply (state_of_hub x new)) → HaveSameShapes old new
same_shapes old new node call reply whole =
    command_shapes (nothing_given old) old new node (Use call) reply (whole (nothing_given old))

pub made_shapes : (old new : HubState) (node : ℕ) (role : Role) (id : UniqueSystemId) (o : Options) (reply : Reply)
    → ((x : Given) → IsHubCommand (state_of_hub x old) node (Create role id o) reply (state_of_hub x new)) → HaveSameShapes old new
made_shapes old new node role id o reply whole =
    command_shapes (nothing_given old) old new node (Create role id o) reply (whole (nothing_given old))

-- ---- loans that are filled

apart : (b c : Bool) → (b ≡ true → c ≡ true → ⊥) → (b && c) ≡ false
apart true true f = absurd (f refl refl)
apart true false f = refl
apart false c f = refl

module _ (old new : HubState) (node n : ℕ) (all : Bool) (z : StoredMessage) (fills : FillsLoan old node n all z new) where
  pub filled_shapes : (kind : Kind) → HasValue old node n kind → HaveSameShapes old new
  filled_shapes kind has =
      let x : Given = nothing_given old in shapes_of_limits x old new (ap (λ (v : State). v.fixed.limits) (fills.filling x kind has).3)

  pub filled_keeps : KeepsOthers old node n new
  filled_keeps a m other some = fills.others a m (apart (a == node) (m == n) (λ same equal. other (eqb-true a node same) (eqb-true m n equal)))
