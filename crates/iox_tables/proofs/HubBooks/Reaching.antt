-- A call leads from tables that can be reached to tables that can be reached.
use Rattle.std.proofs.Common.{subst}
use Rattle.iox_model.specs.Runs.{OfHub}
use Rattle.iox_model.specs.Commands.{Use}
use Rattle.iox_model.specs.WholeCalls.{IsWholeCall}
use Rattle.iox_laws.proofs.WeaveWorlds.Inductions.{step_is_reached}
use Rattle.iox_laws.proofs.CallFunctions.Calling.{each_call_is_whole}
use Rattle.iox_laws.proofs.ReplyLaws.Ready.{reachable_states_are_ready}
use Rattle.iox_tables.specs.HubStates.States.{state_shown}
use Rattle.iox_tables.specs.HubBooks.Reached.{EachCallIsReached}

pub each_call_is_reached : EachCallIsReached
each_call_is_reached x t node call reply x' t' c =
    let whole : IsWholeCall (state_shown x t) node call reply (state_shown x' t')
    = subst (λ r. IsWholeCall (state_shown x t) node call r.0 r.1) c.called
    (each_call_is_whole (state_shown x t) node call c.choice c.payload (reachable_states_are_ready (state_shown x t) node c.reached) c.may_choose c.may_hold) in
    record { whole = whole; reached = step_is_reached (state_shown x t) (state_shown x' t') (OfHub node (Use call) reply) c.reached whole }
