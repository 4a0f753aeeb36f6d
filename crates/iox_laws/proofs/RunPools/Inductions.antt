-- What is so as a service is created, and stays so with each step where all is calm, is so of each
-- state that is reached.
use Rattle.std.specs.Prelude.{◌≡◌, ℕ, Bool, [], Some, None}
use Rattle.iox_model.specs.UniqueSystemId.{UniqueSystemId}
use Rattle.iox_model.specs.declared.kind.Role.{Role}
use Rattle.iox_model.specs.Commands.{Reply, Call, Options}
use Rattle.iox_model.specs.Counts.{with_fixed}
use Rattle.iox_model.specs.Doings.{Fills}
use Rattle.iox_model.specs.Ends.{settled}
use Rattle.iox_model.specs.Handles.{handle_at}
use Rattle.iox_model.specs.Joins.{with_members}
use Rattle.iox_model.specs.Makings.{making_refusal, new_port, with_port}
use Rattle.iox_model.specs.Names.{misnamed}
use Rattle.iox_model.specs.States.{Members, Handle, State}
use Rattle.iox_model.specs.Values.{Filling, filled_as, MayFill}
use Rattle.iox_model.specs.WholeCalls.{IsDone}
use Rattle.iox_laws.proofs.WeaveWorlds.Inductions.{IsKept, IsFirst, reached_keeps}
use Rattle.iox_model.specs.Runs.{IsReachableState}
use Rattle.iox_laws.proofs.RunLaws.Runs.{calm_kept, created_calm}
use Rattle.iox_laws.proofs.RunLaws.Settling.{Calm}

-- It is so as a service is created, and no step makes it false where all is calm.
pub record IsKeptCalm (P : State → Type 0) : Type 0 where
  pub first : IsFirst P
  pub nodes : (s : State) (x : Members) → P s → P (with_members s x)
  pub makes : (s : State) (node : ℕ) (role : Role) (id : UniqueSystemId) (o : Options) (memory : Bool) → Calm s
      → making_refusal s.fixed role o memory ≡ None → P s → P (with_fixed s (with_port s.fixed (new_port s.fixed node role id o)))
  pub calls : (s : State) (node : ℕ) (call : Call) (reply : Reply) (t : State) → Calm s → Calm t
      → misnamed s.fixed node call ≡ None → IsDone s node call reply t → P s → P t
  pub fills : (s : State) (node number : ℕ) (h : Handle) (x : Filling) → Calm s → Calm (settled s node [] (Fills (filled_as h x)))
      → handle_at s.fixed node number ≡ Some h → MayFill s.fixed h x → P s → P (settled s node [] (Fills (filled_as h x)))

with_calm : (P : State → Type 0) → IsKeptCalm P → IsKept (λ s. Calm s × P s)
with_calm P k = record {
  nodes = λ s x u p. (calm_kept.nodes s x u p.0, k.nodes s x p.1);
  makes = λ s node role id o memory allowed p.
      (calm_kept.makes s node role id o memory allowed p.0, k.makes s node role id o memory p.0 allowed p.1);
  calls = λ s node call reply t named done p.
      let after : Calm t = calm_kept.calls s node call reply t named done p.0 in
      (after, k.calls s node call reply t p.0 after named done p.1);
  fills = λ s node number h x there may p.
      let after : Calm (settled s node [] (Fills (filled_as h x))) = calm_kept.fills s node number h x there may p.0 in
      (after, k.fills s node number h x p.0 after there may p.1);
}

-- So it is so of each state that is reached.
pub reached_holds : (P : State → Type 0) (s : State) → IsKeptCalm P → IsReachableState s → P s
reached_holds P s k reached =
    (reached_keeps (λ t. Calm t × P t) (with_calm P k) (λ l acts id. (created_calm l acts id, k.first l acts id)) s reached).1
