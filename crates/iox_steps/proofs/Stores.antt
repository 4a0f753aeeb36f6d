-- Each party that stores continues alike whatever it found.
use Rattle.std.proofs.Common.{◌≡◌, ℕ, ◌+◌, true, refl}
use Rattle.iox_steps.specs.declared.site.QueueKind.{QueueKind}
use Rattle.iox_steps.specs.declared.site.QueueKind.TheVariants.{Index, Overflowing}
use Rattle.iox_steps.specs.declared.site.Site.{Site}
use Rattle.iox_steps.specs.declared.push.Push.TheVariants as push
use Rattle.iox_steps.specs.declared.push.FullLook.TheVariants as full_look
use Rattle.iox_steps.specs.declared.pop.Pop.TheVariants as pop
use Rattle.iox_steps.specs.declared.pop.EmptyLook.TheVariants as empty_look
use Rattle.iox_steps.specs.declared.side.Pushing.{Pushing}
use Rattle.iox_steps.specs.declared.side.Pushing.TheVariants as pushing
use Rattle.iox_steps.specs.declared.side.Popping.{Popping}
use Rattle.iox_steps.specs.declared.side.Popping.TheVariants as popping
use Rattle.iox_steps.specs.Pops.{take_access, is_taken}
use Rattle.iox_steps.specs.Sides.{pushing_access, popping_access}
use Rattle.iox_steps.specs.Stores.{IsStore, PushingIsBlind, PoppingIsBlind}

pub pushing_is_blind : (site : Site) (pushes : Pushing) → IsStore (pushing_access site pushes) → PushingIsBlind site pushes
pushing_is_blind site pushing.AtRest store seen seen' = absurd store
pushing_is_blind site (pushing.Pushes (push.LoadsWrite value)) store seen seen' = absurd store
pushing_is_blind site (pushing.Pushes (push.LoadsRead value write)) store seen seen' = absurd store
pushing_is_blind site (pushing.Pushes (push.StoresCell value cell next full)) store seen seen' = (refl, refl, refl)
pushing_is_blind site (pushing.Pushes (push.StoresWrite value next full)) store seen seen' = (refl, refl, refl)
pushing_is_blind site (pushing.Pushes (push.Evicts read)) store seen seen' = absurd store
pushing_is_blind site (pushing.Pushes (push.TakesOld cell)) store seen seen' = absurd store
pushing_is_blind site (pushing.Looks full_look.LoadsWrite) store seen seen' = absurd store
pushing_is_blind site (pushing.Looks (full_look.LoadsRead write)) store seen seen' = absurd store

-- a pop that stores takes the value, whatever was there
taken : (kind : QueueKind) (place read seen : ℕ) → IsStore (take_access kind place read) → is_taken kind read seen ≡ true
taken Index place read seen store = refl
taken Overflowing place read seen store = absurd store

pub popping_is_blind : (site : Site) (pops : Popping) → IsStore (popping_access site pops) → PoppingIsBlind site pops
popping_is_blind site popping.AtRest store seen seen' = absurd store
popping_is_blind site (popping.Pops pop.LoadsRead) store seen seen' = absurd store
popping_is_blind site (popping.Pops (pop.LoadsWrite read)) store seen seen' = absurd store
popping_is_blind site (popping.Pops (pop.LoadsCell read cell)) store seen seen' = absurd store
popping_is_blind site (popping.Pops (pop.Takes read value)) store seen seen' =
    rw (taken site.kind (site.base + 1) read seen store, taken site.kind (site.base + 1) read seen' store) (refl, refl, refl)
popping_is_blind site (popping.Looks empty_look.LoadsRead) store seen seen' = absurd store
popping_is_blind site (popping.Looks (empty_look.LoadsWrite read)) store seen seen' = absurd store
