-- Which events each program of a queue has.
use Rattle.std.specs.Prelude.{◌==◌}
use Rattle.std.proofs.Common.{if◌then◌else◌, ◌≡◌, ℕ, Bool, true, false, List, ap, sym, ◌∙◌, true≢false}
use Rattle.iox_steps.specs.declared.site.QueueKind.{QueueKind}
use Rattle.iox_steps.specs.declared.site.QueueKind.TheVariants.{Index, Overflowing}
use Rattle.iox_steps.specs.declared.side.QueueEvent.{QueueEvent}
use Rattle.iox_steps.specs.declared.side.QueueEvent.TheVariants.{Quiet, HandOut, Evict, Learn, SeesEmpty, SeesWaiting, SeesFull, SeesRoom, SeesEnd}
use Rattle.iox_steps.specs.Sites.{last_position, is_full}
use Rattle.iox_steps.specs.Sites as sites
use Rattle.iox_steps.specs.declared.site.Site.{Site}
use Rattle.iox_steps.specs.declared.push.Push.{Push}
use Rattle.iox_steps.specs.declared.push.Push.TheVariants as push
use Rattle.iox_steps.specs.declared.push.FullLook.{FullLook}
use Rattle.iox_steps.specs.declared.push.FullLook.TheVariants as full_look
use Rattle.iox_steps.specs.declared.pop.Pop.{Pop}
use Rattle.iox_steps.specs.declared.pop.Pop.TheVariants as pop
use Rattle.iox_steps.specs.declared.pop.EmptyLook.{EmptyLook}
use Rattle.iox_steps.specs.declared.pop.EmptyLook.TheVariants as empty_look
use Rattle.iox_steps.specs.Fits.{PushKnows}
use Rattle.iox_steps.specs.Pushes.{push_event, full_look_event, room_event}
use Rattle.iox_steps.specs.Pops.{is_taken, pop_event, empty_look_event}

-- ---- which events there are

abbrev pub IsPushEvent : QueueEvent → Type 0
IsPushEvent (HandOut slot) = ⊥
IsPushEvent SeesEmpty = ⊥
IsPushEvent SeesWaiting = ⊥
IsPushEvent m = Unit {0}

abbrev pub IsGiveBackEvent : QueueEvent → Type 0
IsGiveBackEvent Evict = ⊥
IsGiveBackEvent (Learn slot) = ⊥
IsGiveBackEvent (HandOut slot) = ⊥
IsGiveBackEvent SeesEmpty = ⊥
IsGiveBackEvent SeesWaiting = ⊥
IsGiveBackEvent m = Unit {0}

abbrev pub IsFullLookEvent : QueueEvent → Type 0
IsFullLookEvent Quiet = Unit {0}
IsFullLookEvent SeesFull = Unit {0}
IsFullLookEvent SeesRoom = Unit {0}
IsFullLookEvent m = ⊥

abbrev pub IsPopEvent : QueueEvent → Type 0
IsPopEvent Quiet = Unit {0}
IsPopEvent (HandOut slot) = Unit {0}
IsPopEvent SeesEmpty = Unit {0}
IsPopEvent SeesWaiting = Unit {0}
IsPopEvent m = ⊥

abbrev pub IsEmptyLookEvent : QueueEvent → Type 0
IsEmptyLookEvent Quiet = Unit {0}
IsEmptyLookEvent SeesEmpty = Unit {0}
IsEmptyLookEvent SeesWaiting = Unit {0}
IsEmptyLookEvent m = ⊥

-- ---- and each access has one of them

is_index : QueueKind → Bool
is_index Index = true
is_index Overflowing = false

pub no_overflow : {A : Type 0} (k : QueueKind) → k ≡ Index → k ≡ Overflowing → A
unfolding is_index
no_overflow k e f = absurd (true≢false (ap is_index (sym e ∙ f)))

of_if : (P : QueueEvent → Type 0) (b : Bool) (x y : QueueEvent) → P x → P y → P (if b then x else y)
of_if P true x y p q = p
of_if P false x y p q = q

pub push_events : (site : Site) (place : Push) (seen : ℕ) → IsPushEvent (push_event site place seen)
push_events site (push.LoadsWrite value) seen = tt
push_events site (push.LoadsRead value write) seen =
    of_if IsPushEvent (write == last_position) SeesEnd (room_event site seen write) tt (of_if IsPushEvent (is_full site seen write) SeesFull SeesRoom tt tt)
push_events site (push.StoresCell value cell next full) seen = tt
push_events site (push.StoresWrite value next full) seen = tt
push_events site (push.Evicts read) seen = of_if IsPushEvent (seen == read) Evict Quiet tt tt
push_events site (push.TakesOld cell) seen = tt

pub give_back_events : (site : Site) (word : ℕ → ℕ) (waiting hand : List ℕ) (place : Push) (seen : ℕ) → site.kind ≡ Index → PushKnows site word waiting hand place
    → IsGiveBackEvent (push_event site place seen)
give_back_events site word waiting hand (push.LoadsWrite value) seen index knows = tt
give_back_events site word waiting hand (push.LoadsRead value write) seen index knows =
    of_if IsGiveBackEvent (write == last_position) SeesEnd (room_event site seen write) tt (of_if IsGiveBackEvent (is_full site seen write) SeesFull SeesRoom tt tt)
give_back_events site word waiting hand (push.StoresCell value cell next full) seen index knows = tt
give_back_events site word waiting hand (push.StoresWrite value next full) seen index knows = tt
give_back_events site word waiting hand (push.Evicts read) seen index knows = no_overflow site.kind index knows.1
give_back_events site word waiting hand (push.TakesOld cell) seen index knows = no_overflow site.kind index knows.1

pub full_look_events : (site : Site) (place : FullLook) (seen : ℕ) → IsFullLookEvent (full_look_event site place seen)
full_look_events site full_look.LoadsWrite seen = tt
full_look_events site (full_look.LoadsRead write) seen = of_if IsFullLookEvent (is_full site seen write) SeesFull SeesRoom tt tt

pub pop_events : (site : Site) (place : Pop) (seen : ℕ) → IsPopEvent (pop_event site place seen)
pop_events site pop.LoadsRead seen = tt
pop_events site (pop.LoadsWrite read) seen = of_if IsPopEvent (sites.is_empty site read seen) SeesEmpty SeesWaiting tt tt
pop_events site (pop.LoadsCell read cell) seen = tt
pop_events site (pop.Takes read value) seen = of_if IsPopEvent (is_taken site.kind read seen) (HandOut value) Quiet tt tt

pub empty_look_events : (site : Site) (place : EmptyLook) (seen : ℕ) → IsEmptyLookEvent (empty_look_event site place seen)
empty_look_events site empty_look.LoadsRead seen = tt
empty_look_events site (empty_look.LoadsWrite read) seen = of_if IsEmptyLookEvent (sites.is_empty site read seen) SeesEmpty SeesWaiting tt tt
