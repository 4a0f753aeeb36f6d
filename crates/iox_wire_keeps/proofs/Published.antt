-- What publishes nothing: a pop, a look, and an eviction.
use Rattle.iox_steps.specs.Sites.{is_empty}
use Rattle.iox_steps.specs.declared.push.FullLook.TheVariants as full_look
use Rattle.iox_steps.specs.declared.side.Popping.TheVariants as popping
use Rattle.iox_steps.specs.declared.pop.Pop.TheVariants as pop
use Rattle.iox_steps.specs.declared.pop.EmptyLook.TheVariants as empty_look
use Rattle.iox_steps.specs.Sides.{popping_event}
use Rattle.iox_steps.specs.Pushes.{full_look_event}
use Rattle.std.specs.Prelude.{Bool, false, if◌then◌else◌, true, ℕ, ◌≡◌}
use Rattle.iox_steps.specs.declared.site.Site.{Site}
use Rattle.iox_steps.specs.declared.side.QueueEvent.TheVariants.{Evict, HandOut, Publish, Quiet, SeesEmpty, SeesFull, SeesRoom, SeesWaiting}
use Rattle.iox_steps.specs.declared.side.Popping.{Popping}
use Rattle.iox_steps.specs.Pops.{is_taken}
use Rattle.iox_steps.specs.Sites.{is_full}
use Rattle.iox_steps.specs.declared.push.FullLook.{FullLook}

pub popping_never : (site : Site) (place : Popping) (seen slot : ℕ) → popping_event site place seen ≡ Publish slot → ⊥
popping_never site popping.AtRest seen slot is = absurd (cc)
popping_never site (popping.Pops pop.LoadsRead) seen slot is = absurd (cc)
popping_never site (popping.Pops (pop.LoadsWrite read)) seen slot is = by_case (is_empty site read seen) is
  where
    by_case : (b : Bool) → (if b then SeesEmpty else SeesWaiting) ≡ Publish slot → ⊥
    by_case true is = absurd (cc)
    by_case false is = absurd (cc)
popping_never site (popping.Pops (pop.LoadsCell read cell)) seen slot is = absurd (cc)
popping_never site (popping.Pops (pop.Takes read value)) seen slot is = by_case (is_taken site.kind read seen) is
  where
    by_case : (b : Bool) → (if b then HandOut value else Quiet) ≡ Publish slot → ⊥
    by_case true is = absurd (cc)
    by_case false is = absurd (cc)
popping_never site (popping.Looks empty_look.LoadsRead) seen slot is = absurd (cc)
popping_never site (popping.Looks (empty_look.LoadsWrite read)) seen slot is = by_case (is_empty site read seen) is
  where
    by_case : (b : Bool) → (if b then SeesEmpty else SeesWaiting) ≡ Publish slot → ⊥
    by_case true is = absurd (cc)
    by_case false is = absurd (cc)

pub full_never : (site : Site) (place : FullLook) (seen slot : ℕ) → full_look_event site place seen ≡ Publish slot → ⊥
full_never site full_look.LoadsWrite seen slot is = absurd (cc)
full_never site (full_look.LoadsRead write) seen slot is = by_case (is_full site seen write) is
  where
    by_case : (b : Bool) → (if b then SeesFull else SeesRoom) ≡ Publish slot → ⊥
    by_case true is = absurd (cc)
    by_case false is = absurd (cc)

pub evict_never : (b : Bool) (slot : ℕ) → (if b then Evict else Quiet) ≡ Publish slot → ⊥
evict_never true slot is = absurd (cc)
evict_never false slot is = absurd (cc)
