-- Each reply says what its access did or saw.
use Rattle.std.proofs.Common.{◌≡◌, ℕ, ◌+◌, Bool, true, false, if◌then◌else◌, refl, ap, List, inl, inr, eqb, Option, Some, None}
use Rattle.std.proofs.lemmas.Bool.{cases_Bool}
use Rattle.iox_steps.specs.declared.site.QueueKind.{QueueKind}
use Rattle.iox_steps.specs.declared.site.QueueKind.TheVariants.{Index, Overflowing}
use Rattle.iox_steps.specs.declared.site.Site.{Site}
use Rattle.iox_steps.specs.declared.push.Push.TheVariants as push
use Rattle.iox_steps.specs.declared.push.PushReply.TheVariants.{Pushed, PushedOut, Refused}
use Rattle.iox_steps.specs.declared.push.FullLook.TheVariants as full_look
use Rattle.iox_steps.specs.declared.pop.Pop.TheVariants as pop
use Rattle.iox_steps.specs.declared.pop.EmptyLook.TheVariants as empty_look
use Rattle.iox_steps.specs.declared.access.Progress.{Progress}
use Rattle.iox_steps.specs.declared.access.Progress.TheVariants.{Going, Done}
use Rattle.iox_steps.specs.declared.side.QueueReply.{QueueReply}
use Rattle.iox_steps.specs.declared.side.QueueEvent.{QueueEvent}
use Rattle.iox_steps.specs.declared.access.Next.TheVariants.{Goes, Ends}
use Rattle.iox_steps.specs.declared.side.QueueEvent.TheVariants.{Quiet, Publish, HandOut, Evict, Learn, SeesEmpty, SeesWaiting, SeesFull, SeesRoom, SeesEnd}
use Rattle.iox_steps.specs.declared.side.Pushing.{Pushing}
use Rattle.iox_steps.specs.declared.side.Pushing.TheVariants as pushing
use Rattle.iox_steps.specs.declared.side.Popping.{Popping}
use Rattle.iox_steps.specs.declared.side.Popping.TheVariants as popping
use Rattle.iox_steps.specs.Sites.{last_position, is_full, is_empty, cell_at}
use Rattle.iox_steps.specs.Pushes.{is_refused, full_at}
use Rattle.iox_steps.specs.Pops.{is_taken}
use Rattle.iox_steps.specs.Replies.{push_reply}
use Rattle.iox_steps.specs.Sides.{progress, in_push, pushing_after, pushing_progress, pushing_event, popping_progress, popping_event}
use Rattle.iox_steps.specs.Fits.{PushingKnows}
use Rattle.iox_steps.specs.Answers.{ReplyIsTrue, OnProgress, unpublished, unpublished_after}

-- a push that sees both positions
refused_answers : (kind : QueueKind) (site : Site) (value write read : ℕ) (end full : Bool)
    → ReplyIsTrue (Some value)
    (progress (push_reply kind) (if is_refused kind end full then Ends (Refused value)
    else Goes (push.StoresCell value (cell_at site write) (write + 1) (full_at full read))))
    (if end then SeesEnd else (if full then SeesFull else SeesRoom))
refused_answers Index site value write read true full = inr refl
refused_answers Index site value write read false true = inl refl
refused_answers Index site value write read false false = tt
refused_answers Overflowing site value write read true full = (refl, refl)
refused_answers Overflowing site value write read false full = tt

pushed_answers : (kind : QueueKind) (value : ℕ)
    → ReplyIsTrue (Some value) (Done (push_reply kind Pushed)) (Publish value)
pushed_answers Index value = refl
pushed_answers Overflowing value = refl

pub pushing_answers : (site : Site) (word : ℕ → ℕ) (waiting hand : List ℕ) (pushes : Pushing) (seen : ℕ)
    → PushingKnows site word waiting hand pushes
    → ReplyIsTrue (unpublished pushes) (pushing_progress site pushes seen) (pushing_event site pushes seen)
pushing_answers site word waiting hand pushing.AtRest seen knows = tt
pushing_answers site word waiting hand (pushing.Pushes (push.LoadsWrite value)) seen knows = tt
pushing_answers site word waiting hand (pushing.Pushes (push.LoadsRead value write)) seen knows =
    refused_answers site.kind site value write seen (eqb write last_position) (is_full site seen write)
pushing_answers site word waiting hand (pushing.Pushes (push.StoresCell value cell next full)) seen knows = tt
pushing_answers site word waiting hand (pushing.Pushes (push.StoresWrite value next None)) seen knows = pushed_answers site.kind value
pushing_answers site word waiting hand (pushing.Pushes (push.StoresWrite value next (Some read))) seen knows = tt
pushing_answers site word waiting hand (pushing.Pushes (push.Evicts read)) seen knows = elim (cases_Bool (eqb seen read)) [
  | inl hit ↦ rw hit tt
  | inr missed ↦ rw (missed, ap (λ kind. push_reply kind Pushed) knows.1) refl
]
pushing_answers site word waiting hand (pushing.Pushes (push.TakesOld cell)) seen knows = rw (ap (λ kind. push_reply kind (PushedOut seen)) knows.1) refl
pushing_answers site word waiting hand (pushing.Looks full_look.LoadsWrite) seen knows = tt
pushing_answers site word waiting hand (pushing.Looks (full_look.LoadsRead write)) seen knows =
    elim (cases_Bool (is_full site seen write)) [ inl full ↦ rw full refl | inr room ↦ rw room refl ]

pub popping_answers : (site : Site) (pops : Popping) (seen : ℕ)
    → ReplyIsTrue None (popping_progress site pops seen) (popping_event site pops seen)
popping_answers site popping.AtRest seen = tt
popping_answers site (popping.Pops pop.LoadsRead) seen = tt
popping_answers site (popping.Pops (pop.LoadsWrite read)) seen = elim (cases_Bool (is_empty site read seen)) [ inl none ↦ rw none refl | inr some ↦ rw some tt ]
popping_answers site (popping.Pops (pop.LoadsCell read cell)) seen = tt
popping_answers site (popping.Pops (pop.Takes read value)) seen =
    elim (cases_Bool (is_taken site.kind read seen)) [ inl taken ↦ rw taken refl | inr missed ↦ rw missed tt ]
popping_answers site (popping.Looks empty_look.LoadsRead) seen = tt
popping_answers site (popping.Looks (empty_look.LoadsWrite read)) seen =
    elim (cases_Bool (is_empty site read seen)) [ inl none ↦ rw none refl | inr some ↦ rw some refl ]

-- a push that sees both positions keeps its value, or is refused
refused_own : (kind : QueueKind) (site : Site) (value write read : ℕ) (end full : Bool)
    → let next = if is_refused kind end full then Ends (Refused value) else Goes (push.StoresCell value (cell_at site write) (write + 1) (full_at full read)) in
    OnProgress (progress (push_reply kind) next)
    (unpublished (in_push next) ≡ unpublished_after (if end then SeesEnd else (if full then SeesFull else SeesRoom)) (Some value))
    (λ reply. unpublished (in_push next) ≡ None)
refused_own Index site value write read true full = refl
refused_own Index site value write read false true = refl
refused_own Index site value write read false false = refl
refused_own Overflowing site value write read true full = refl
refused_own Overflowing site value write read false true = refl
refused_own Overflowing site value write read false false = refl

pub pushing_own : (site : Site) (pushes : Pushing) (seen : ℕ)
    → OnProgress (pushing_progress site pushes seen)
    (unpublished (pushing_after site pushes seen) ≡ unpublished_after (pushing_event site pushes seen) (unpublished pushes))
    (λ reply. unpublished (pushing_after site pushes seen) ≡ None)
pushing_own site pushing.AtRest seen = refl
pushing_own site (pushing.Pushes (push.LoadsWrite value)) seen = refl
pushing_own site (pushing.Pushes (push.LoadsRead value write)) seen =
    refused_own site.kind site value write seen (eqb write last_position) (is_full site seen write)
pushing_own site (pushing.Pushes (push.StoresCell value cell next full)) seen = refl
pushing_own site (pushing.Pushes (push.StoresWrite value next None)) seen = refl
pushing_own site (pushing.Pushes (push.StoresWrite value next (Some read))) seen = refl
pushing_own site (pushing.Pushes (push.Evicts read)) seen = elim (cases_Bool (eqb seen read)) [
  | inl hit ↦ rw hit refl
  | inr missed ↦ rw missed refl
]
pushing_own site (pushing.Pushes (push.TakesOld cell)) seen = refl
pushing_own site (pushing.Looks full_look.LoadsWrite) seen = refl
pushing_own site (pushing.Looks (full_look.LoadsRead write)) seen = refl

none_stays : (event : QueueEvent) → None ≡ unpublished_after event None
none_stays Quiet = refl
none_stays (Publish value) = refl
none_stays (HandOut value) = refl
none_stays Evict = refl
none_stays (Learn value) = refl
none_stays SeesEmpty = refl
none_stays SeesWaiting = refl
none_stays SeesFull = refl
none_stays SeesRoom = refl
none_stays SeesEnd = refl

-- a party that pops has nothing to publish
pub popping_own : (progress : Progress QueueReply) (event : QueueEvent)
    → OnProgress progress (None ≡ unpublished_after event None) (λ reply. ◌≡◌ {A = Option ℕ} None None)
popping_own Going event = none_stays event
popping_own (Done reply) event = refl
