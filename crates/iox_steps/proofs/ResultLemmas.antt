-- What one access of a program comes to, where its turn keeps the queue.
use Rattle.std.proofs.Common.{◌≡◌, ℕ, ◌+◌, ◌<◌, ◌≤◌, List, [], ◌∷◌, length, refl, ap, sym, subst, inl, inr, eqb, true, Option, Some, None, arith}
use Rattle.std.proofs.lemmas.Bool.{cases_Bool}
use Rattle.std.proofs.lemmas.List.{length_push}
use Rattle.iox_steps.specs.declared.site.QueueKind.{QueueKind}
use Rattle.iox_steps.specs.declared.site.QueueKind.TheVariants.{Index, Overflowing}
use Rattle.iox_steps.specs.declared.site.Site.{Site}
use Rattle.iox_steps.specs.declared.push.Push.{Push}
use Rattle.iox_steps.specs.declared.push.Push.TheVariants as push
use Rattle.iox_steps.specs.declared.push.FullLook.{FullLook}
use Rattle.iox_steps.specs.declared.push.FullLook.TheVariants as full_look
use Rattle.iox_steps.specs.declared.pop.Pop.{Pop}
use Rattle.iox_steps.specs.declared.pop.Pop.TheVariants as pop
use Rattle.iox_steps.specs.declared.pop.EmptyLook.{EmptyLook}
use Rattle.iox_steps.specs.declared.pop.EmptyLook.TheVariants as empty_look
use Rattle.iox_steps.specs.declared.side.QueueEvent.{QueueEvent}
use Rattle.iox_steps.specs.declared.side.Pushing.{Pushing}
use Rattle.iox_steps.specs.declared.side.Pushing.TheVariants as pushing
use Rattle.iox_steps.specs.declared.side.Popping.{Popping}
use Rattle.iox_steps.specs.declared.side.Popping.TheVariants as popping
use Rattle.iox_steps.specs.Accesses.{seen_by}
use Rattle.iox_steps.specs.Sites.{last_position, is_full, is_empty, cell_at}
use Rattle.iox_steps.specs.Pushes.{push_access, push_next, push_event, full_look_access, full_look_event}
use Rattle.iox_steps.specs.Pops.{is_taken, pop_access, pop_event, empty_look_access, empty_look_event}
use Rattle.iox_steps.specs.Sides.{in_push}
use Rattle.iox_steps.specs.Events.{rest, IsTrueOf, waiting_after, hand_after}
use Rattle.iox_steps.specs.Fits.{write_of, PushingKnows}
use Rattle.iox_steps.specs.EventLists.{QueueState}
use Rattle.iox_steps.specs.Answers.{unpublished_of}
use Rattle.iox_steps.specs.Laws.{pushing_turn, popping_turn, KeepsQueue}
use Rattle.iox_steps.proofs.Places.{cases_kind}
use Rattle.iox_steps.proofs.PushSteps.{refused_at_end, refused_when_full, overflows, welcome}
use Rattle.iox_steps.specs.Results.{RefusesPush, PublishResult, EvictResult, LearnResult, FullLookResult, PopResult, EmptyLookResult}

-- at the last position each kind refuses
refuses_at_end : (kind : QueueKind) (capacity : ℕ) (state : QueueState) → state.write ≡ last_position → RefusesPush kind capacity state
refuses_at_end Index capacity state end = inr end
refuses_at_end Overflowing capacity state end = end

refuses_when_full : (kind : QueueKind) (capacity : ℕ) (state : QueueState) → kind ≡ Index → length state.waiting ≡ capacity
    → RefusesPush kind capacity state
refuses_when_full kind capacity state index full = rw index (inl full)

-- the event of an access is true of this queue
abbrev IsTrueHere : Site → QueueState → QueueEvent → Type 0
IsTrueHere site state event = IsTrueOf site state.write state.waiting state.hand event

pop_of : (site : Site) (place : Pop) (seen : ℕ) (state : QueueState) → IsTrueHere site state (pop_event site place seen)
    → PopResult site seen state place
pop_of site pop.LoadsRead seen state holds = PopResult.goes _ refl refl
pop_of site (pop.LoadsWrite read) seen state holds = elim (cases_Bool (is_empty site read seen)) [
  | inl none ↦ (let nothing : state.waiting ≡ [] = rw none at holds in PopResult.finds_none (rw none refl) nothing (rw none refl))
  | inr some ↦ PopResult.goes (pop.LoadsCell read (cell_at site read)) (rw some refl) (rw some refl)
]
pop_of site (pop.LoadsCell read cell) seen state holds = PopResult.goes _ refl refl
pop_of site (pop.Takes read value) seen state holds = elim (cases_Bool (is_taken site.kind read seen)) [
  | inl taken ↦ (
      let first : state.waiting ≡ value ∷ rest state.waiting = rw taken at holds in
      PopResult.takes value (rest state.waiting) (rw taken refl) first (rw taken refl)
      )
  | inr missed ↦ PopResult.goes (pop.LoadsCell seen (cell_at site seen)) (rw missed refl) (rw missed refl)
]

empty_look_of : (site : Site) (place : EmptyLook) (seen : ℕ) (state : QueueState) → IsTrueHere site state (empty_look_event site place seen)
    → EmptyLookResult site seen state place
empty_look_of site empty_look.LoadsRead seen state holds = EmptyLookResult.goes _ refl refl
empty_look_of site (empty_look.LoadsWrite read) seen state holds = elim (cases_Bool (is_empty site read seen)) [
  | inl none ↦ (let nothing : state.waiting ≡ [] = rw none at holds in EmptyLookResult.finds_none (rw none refl) nothing (rw none refl))
  | inr some ↦ (let waits : 0 < length state.waiting = rw some at holds in EmptyLookResult.finds_some (rw some refl) waits (rw some refl))
]

full_look_of : (site : Site) (place : FullLook) (seen : ℕ) (state : QueueState) → IsTrueHere site state (full_look_event site place seen)
    → FullLookResult site seen state place
full_look_of site full_look.LoadsWrite seen state holds = FullLookResult.goes _ refl refl
full_look_of site (full_look.LoadsRead write) seen state holds = elim (cases_Bool (is_full site seen write)) [
  | inl full ↦ (
      let many : length state.waiting ≡ site.capacity = rw full at holds in
      FullLookResult.finds_full (rw full refl) many (rw full refl)
      )
  | inr room ↦ (
      let free : length state.waiting < site.capacity = rw room at holds in
      FullLookResult.finds_room (rw room refl) free (rw room refl)
      )
]

abbrev value_in : Option ℕ → ℕ
value_in None = 0
value_in (Some value) = value

abbrev IsSome : Option ℕ → Type 0
IsSome None = ⊥
IsSome (Some value) = Unit {0}

none_is : (value : ℕ) → None ≡ Some value → ⊥
none_is value is = subst IsSome (sym is) tt

-- the event of a push is true, and this is what the party knows after it
module _ (site : Site) (word' : ℕ → ℕ) (seen : ℕ) (state : QueueState) where
  abbrev KnowsAfter : Push → Type 0
  KnowsAfter place = let event = push_event site place seen in
      PushingKnows site word' (waiting_after event state.waiting) (hand_after event state.waiting state.hand) (in_push (push_next site place seen))

  publish_of : (value : ℕ) (place : Push) → unpublished_of place ≡ Some value → IsTrueHere site state (push_event site place seen)
      → KnowsAfter place → PublishResult site seen state value place
  publish_of value (push.LoadsWrite v) is holds after = PublishResult.goes _ refl is refl
  publish_of value (push.LoadsRead v w) is holds after = elim (cases_Bool (eqb w last_position)) [
    | inl last ↦ (
        let end : state.write ≡ last_position = rw last at holds in
        PublishResult.refused (rw (last, refused_at_end, ap value_in is) refl) (refuses_at_end site.kind site.capacity state end) (rw last refl)
        )
    | inr more ↦ elim (cases_Bool (is_full site seen w)) [
      | inl full ↦ (
          let many : length state.waiting ≡ site.capacity = rw (more, full) at holds in
          elim (cases_kind site.kind) [
            | inl kind ↦ PublishResult.refused (rw (more, full, refused_when_full site.kind kind, ap value_in is) refl)
                (refuses_when_full site.kind site.capacity state kind many) (rw (more, full) refl)
            | inr kind ↦ PublishResult.goes (push.StoresCell v (cell_at site w) (w + 1) (Some seen)) (rw (more, full, overflows site.kind kind) refl)
                is (rw (more, full) refl)
          ]
          )
      | inr room ↦ PublishResult.goes (push.StoresCell v (cell_at site w) (w + 1) None) (rw (more, room, welcome) refl)
          is (rw (more, room) refl)
    ]
  ]
  publish_of value (push.StoresCell v cell next full) is holds after = PublishResult.goes _ refl is refl
  publish_of value (push.StoresWrite v next None) is holds after =
      PublishResult.publishes refl (omega (arith, after.1, length_push state.waiting v)) holds.1 (rw (ap value_in is) refl)
  publish_of value (push.StoresWrite v next (Some read)) is holds after = PublishResult.publishes_full read refl after.1 holds.1 (rw (ap value_in is) refl)
  publish_of value (push.Evicts read) is holds after = absurd (none_is value is)
  publish_of value (push.TakesOld cell) is holds after = absurd (none_is value is)

  gets_back_of : (cell : ℕ) → IsTrueHere site state (push_event site (push.TakesOld cell) seen) → KnowsAfter (push.TakesOld cell)
      → LearnResult site seen state cell
  gets_back_of cell holds after = LearnResult.learns refl holds after.1 refl

  evict_of : (read : ℕ) → IsTrueHere site state (push_event site (push.Evicts read) seen) → KnowsAfter (push.Evicts read)
      → EvictResult site seen state read
  evict_of read holds after = elim (cases_Bool (eqb seen read)) [
    | inl hit ↦ (
        let over : (state.hand ≡ []) × (length state.waiting ≡ site.capacity + 1) = rw hit at holds in
        first_goes hit over.0 state.waiting refl over.1
        )
    | inr missed ↦ (
        let knows : (state.hand ≡ []) × (length state.waiting ≤ site.capacity) = rw missed at after in
        EvictResult.too_late (rw missed refl) knows.0 knows.1 (rw missed refl)
        )
  ]
    where
      first_goes : eqb seen read ≡ true → state.hand ≡ [] → (waiting : List ℕ) → state.waiting ≡ waiting
          → length state.waiting ≡ site.capacity + 1 → EvictResult site seen state read
      first_goes hit none [] is over = absurd (omega (arith, over, ap length is))
      first_goes hit none (first ∷ others) is over =
          EvictResult.evicts (cell_at site read) first others (rw hit refl) none is (omega (arith, over, ap length is)) (rw (hit, is) refl)

-- the same of a turn that keeps the queue
module _ (site : Site) (word word' : ℕ → ℕ) (waiting hand : List ℕ) where
  abbrev here : QueueState
  here = record { write = write_of site word; waiting = waiting; hand = hand }

  module _ (pops : Popping) where
    pub publish_result : (value : ℕ) (place : Push) → unpublished_of place ≡ Some value
        → KeepsQueue site word word' waiting hand (pushing_turn site word (pushing.Pushes place) pops)
        → PublishResult site (seen_by (push_access site place) word) here value place
    publish_result value place own keeps =
        publish_of site word' (seen_by (push_access site place) word) here value place own keeps.is_true keeps.fits.push

    pub evict_result : (read : ℕ) → KeepsQueue site word word' waiting hand (pushing_turn site word (pushing.Pushes (push.Evicts read)) pops)
        → EvictResult site (seen_by (push_access site (push.Evicts read)) word) here read
    evict_result read keeps =
        evict_of site word' (seen_by (push_access site (push.Evicts read)) word) here read keeps.is_true keeps.fits.push

    pub learn_result : (cell : ℕ) → KeepsQueue site word word' waiting hand (pushing_turn site word (pushing.Pushes (push.TakesOld cell)) pops)
        → LearnResult site (seen_by (push_access site (push.TakesOld cell)) word) here cell
    learn_result cell keeps =
        gets_back_of site word' (seen_by (push_access site (push.TakesOld cell)) word) here cell keeps.is_true keeps.fits.push

    pub full_look_result : (place : FullLook) → KeepsQueue site word word' waiting hand (pushing_turn site word (pushing.Looks place) pops)
        → FullLookResult site (seen_by (full_look_access site place) word) here place
    full_look_result place keeps = full_look_of site place (seen_by (full_look_access site place) word) here keeps.is_true

  module _ (pushes : Pushing) where
    pub pop_result : (place : Pop) → KeepsQueue site word word' waiting hand (popping_turn site word pushes (popping.Pops place))
        → PopResult site (seen_by (pop_access site place) word) here place
    pop_result place keeps = pop_of site place (seen_by (pop_access site place) word) here keeps.is_true

    pub empty_look_result : (place : EmptyLook) → KeepsQueue site word word' waiting hand (popping_turn site word pushes (popping.Looks place))
        → EmptyLookResult site (seen_by (empty_look_access site place) word) here place
    empty_look_result place keeps = empty_look_of site place (seen_by (empty_look_access site place) word) here keeps.is_true
