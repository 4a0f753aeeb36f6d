-- A begun call that has made no access yet changes nothing: its party is as one at rest.
use Rattle.std.proofs.Common.{ℕ, List}
use Rattle.iox_steps.specs.declared.site.Site.{Site}
use Rattle.iox_steps.specs.declared.push.Push.TheVariants as push
use Rattle.iox_steps.specs.declared.push.FullLook.TheVariants as full_look
use Rattle.iox_steps.specs.declared.pop.Pop.TheVariants as pop
use Rattle.iox_steps.specs.declared.pop.EmptyLook.TheVariants as empty_look
use Rattle.iox_steps.specs.declared.side.Pushing.{Pushing}
use Rattle.iox_steps.specs.declared.side.Pushing.TheVariants as pushing
use Rattle.iox_steps.specs.declared.side.Popping.{Popping}
use Rattle.iox_steps.specs.declared.side.Popping.TheVariants as popping
use Rattle.iox_steps.specs.Sides.{pushing_rested, popping_rested}
use Rattle.iox_steps.specs.Fits.{PushingKnows, PoppingKnows, Fits}

pushing_knows_begun : (site : Site) (word : ℕ → ℕ) (waiting hand : List ℕ) (pushes : Pushing)
    → PushingKnows site word waiting hand (pushing_rested pushes) → PushingKnows site word waiting hand pushes
pushing_knows_begun site word waiting hand pushing.AtRest knows = knows
pushing_knows_begun site word waiting hand (pushing.Pushes (push.LoadsWrite value)) knows = knows
pushing_knows_begun site word waiting hand (pushing.Pushes (push.LoadsRead value write)) knows = knows
pushing_knows_begun site word waiting hand (pushing.Pushes (push.StoresCell value cell next full)) knows = knows
pushing_knows_begun site word waiting hand (pushing.Pushes (push.StoresWrite value next full)) knows = knows
pushing_knows_begun site word waiting hand (pushing.Pushes (push.Evicts read)) knows = knows
pushing_knows_begun site word waiting hand (pushing.Pushes (push.TakesOld cell)) knows = knows
pushing_knows_begun site word waiting hand (pushing.Looks full_look.LoadsWrite) knows = knows
pushing_knows_begun site word waiting hand (pushing.Looks (full_look.LoadsRead write)) knows = knows

popping_knows_begun : (site : Site) (word : ℕ → ℕ) (waiting : List ℕ) (pops : Popping) → PoppingKnows site word waiting (popping_rested pops)
    → PoppingKnows site word waiting pops
popping_knows_begun site word waiting popping.AtRest knows = knows
popping_knows_begun site word waiting (popping.Pops pop.LoadsRead) knows = knows
popping_knows_begun site word waiting (popping.Pops (pop.LoadsWrite read)) knows = knows
popping_knows_begun site word waiting (popping.Pops (pop.LoadsCell read cell)) knows = knows
popping_knows_begun site word waiting (popping.Pops (pop.Takes read value)) knows = knows
popping_knows_begun site word waiting (popping.Looks empty_look.LoadsRead) knows = knows
popping_knows_begun site word waiting (popping.Looks (empty_look.LoadsWrite read)) knows = knows

pub pushing_begins : (site : Site) (word : ℕ → ℕ) (waiting hand : List ℕ) (pushes : Pushing) (pops : Popping)
    → Fits site word waiting hand (pushing_rested pushes) pops → Fits site word waiting hand pushes pops
pushing_begins site word waiting hand pushes pops fits =
    record { some = fits.some; position = fits.position; ring = fits.ring; push = pushing_knows_begun site word waiting hand pushes fits.push; pop = fits.pop }

pub popping_begins : (site : Site) (word : ℕ → ℕ) (waiting hand : List ℕ) (pushes : Pushing) (pops : Popping)
    → Fits site word waiting hand pushes (popping_rested pops) → Fits site word waiting hand pushes pops
popping_begins site word waiting hand pushes pops fits =
    record { some = fits.some; position = fits.position; ring = fits.ring; push = fits.push; pop = popping_knows_begun site word waiting pops fits.pop }
