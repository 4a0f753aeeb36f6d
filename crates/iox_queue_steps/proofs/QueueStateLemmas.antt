-- The words and the places of the two parties say the state of the queue.
use Rattle.std.proofs.Common.{◌≡◌, ℕ, ◌<◌, List, [], ◌∷◌, length, slice_index, refl, sym, subst, ◌∙◌, arith}
use Rattle.std.proofs.lemmas.Grind.{same_number_lists}
use Rattle.iox_steps.specs.declared.site.Site.{Site}
use Rattle.iox_steps.specs.declared.push.Push.TheVariants as push
use Rattle.iox_steps.specs.declared.push.FullLook.TheVariants as full_look
use Rattle.iox_steps.specs.declared.side.Pushing.{Pushing}
use Rattle.iox_steps.specs.declared.side.Pushing.TheVariants as pushing
use Rattle.iox_steps.specs.Fits.{Ring, PushingKnows}
use Rattle.iox_steps.specs.EventLists.{QueueState}
use Rattle.iox_queue_steps.specs.declared.queue.Side.{Side}
use Rattle.iox_queue_steps.specs.declared.queue.Side.TheVariants.{Pusher, Popper}
use Rattle.iox_queue_steps.specs.Queues.{PartyView}
use Rattle.iox_queue_steps.specs.Machines.{SidesShow, PartiesShow}

-- the positions say how much waits, and the cells what
one_waiting : (site : Site) (word : ℕ → ℕ) (waiting other : List ℕ)
    → Ring site word waiting → Ring site word other → other ≡ waiting
one_waiting site word waiting other ring ring' =
    let counts = ring.counts in
    let counts' = ring'.counts in
    let same : length other ≡ length waiting = omega arith in
    same_number_lists other waiting same (λ k below. sym (ring'.items k below) ∙ ring.items k (subst (λ n. k < n) same below))

-- something is in hand only while a push has yet to load its cell
one_hand : (site : Site) (word : ℕ → ℕ) (waiting other hand other_hand : List ℕ) (pushes : Pushing)
    → PushingKnows site word waiting hand pushes → PushingKnows site word other other_hand pushes → other_hand ≡ hand
one_hand site word waiting other hand other_hand pushing.AtRest knows knows' = knows'.0 ∙ sym knows.0
one_hand site word waiting other hand other_hand (pushing.Pushes (push.LoadsWrite value)) knows knows' = knows'.0 ∙ sym knows.0
one_hand site word waiting other hand other_hand (pushing.Pushes (push.LoadsRead value write)) knows knows' =
    knows'.0.0 ∙ sym knows.0.0
one_hand site word waiting other hand other_hand (pushing.Pushes (push.StoresCell value cell next full)) knows knows' =
    knows'.0.0 ∙ sym knows.0.0
one_hand site word waiting other hand other_hand (pushing.Pushes (push.StoresWrite value next full)) knows knows' =
    knows'.0.0 ∙ sym knows.0.0
one_hand site word waiting other hand other_hand (pushing.Pushes (push.Evicts read)) knows knows' = knows'.0 ∙ sym knows.0
one_hand site word waiting other hand other_hand (pushing.Pushes (push.TakesOld cell)) knows knows' = knows'.0 ∙ sym knows.0
one_hand site word waiting other hand other_hand (pushing.Looks full_look.LoadsWrite) knows knows' = knows'.0 ∙ sym knows.0
one_hand site word waiting other hand other_hand (pushing.Looks (full_look.LoadsRead write)) knows knows' =
    knows'.0.0 ∙ sym knows.0.0

abbrev state_of : ℕ → List ℕ → List ℕ → QueueState
state_of write waiting hand = record { write = write; waiting = waiting; hand = hand }

same_state : (state other : QueueState) → other.write ≡ state.write → other.waiting ≡ state.waiting → other.hand ≡ state.hand → other ≡ state
same_state state other write waiting hand =
    let is : state_of other.write other.waiting other.hand ≡ state_of state.write state.waiting state.hand = rw (write, waiting, hand) refl in
    is

one_state : (site : Site) (words : List ℕ) (a b : Side) (state other : QueueState)
    → SidesShow site words a b state → SidesShow site words a b other → other ≡ state
one_state site words (Pusher pushes) (Popper pops) state other shown shown' = same_state state other
    (sym shown'.0 ∙ shown.0)
    (one_waiting site (slice_index words) state.waiting other.waiting shown.1.ring shown'.1.ring)
    (one_hand site (slice_index words) state.waiting other.waiting state.hand other.hand pushes shown.1.push shown'.1.push)
one_state site words (Pusher pushes) (Pusher others) state other shown shown' = absurd shown
one_state site words (Popper pops) b state other shown shown' = absurd shown

pub one_site : (site elsewhere : Site) (words : List ℕ) (parties : List PartyView) (state other : QueueState)
    → PartiesShow site words parties state → PartiesShow elsewhere words parties other → elsewhere ≡ site
one_site site elsewhere words (a ∷ b ∷ []) state other shown shown' = sym shown'.0 ∙ shown.0
one_site site elsewhere words [] state other shown shown' = absurd shown
one_site site elsewhere words (a ∷ []) state other shown shown' = absurd shown
one_site site elsewhere words (a ∷ b ∷ c ∷ others) state other shown shown' = absurd shown

pub one_state_shown : (site : Site) (words : List ℕ) (parties : List PartyView) (state other : QueueState)
    → PartiesShow site words parties state → PartiesShow site words parties other → other ≡ state
one_state_shown site words (a ∷ b ∷ []) state other shown shown' = one_state site words a.side b.side state other shown.2 shown'.2
one_state_shown site words [] state other shown shown' = absurd shown
one_state_shown site words (a ∷ []) state other shown shown' = absurd shown
one_state_shown site words (a ∷ b ∷ c ∷ others) state other shown shown' = absurd shown
