-- Entries of a schedule have one end each at a machine of a queue of values, the queue stays where it stands, and what was handed out comes before what is waiting.
use Rattle.std.proofs.Common.{◌≡◌, ◌∙◌, ℕ, zero, suc, List, [], ◌∷◌, ◌++◌, ◌≤◌, length, refl, ap, subst, Option, Some, None, Result, Ok, Err, IfOk, IfErr, OnOk, OnErr, true≢false, slice_index_or, slice_set}
use Rattle.std.specs.Option.{option_to_list}
use Rattle.std.proofs.lemmas.Option.{slice_get-map, slice_get_read}
use Rattle.iox_words.specs.declared.word_list.Words.{Ghosts}
use Rattle.iox_steps.specs.declared.access.Progress.{Progress}
use Rattle.iox_steps.specs.declared.error.MachineError.{MachineError}
use Rattle.iox_steps.specs.declared.machine.Entry.{Entry}
use Rattle.iox_steps.specs.declared.machine.Entry.TheVariants as entry
use Rattle.iox_steps.specs.Accesses.{words_after}
use Rattle.iox_steps.specs.MachineStates.{seen_in}
use Rattle.iox_steps.proofs.EntryLemmas.{begun_enters, unbegun_enters, stepped_enters, all_enter}
use Rattle.iox_steps.proofs.Schedules.{all_entered_keeps}
use Rattle.iox_cell_queues.specs.declared.site.CellSite.{CellSite}
use Rattle.iox_cell_queues.specs.declared.event.CellEvent.{CellEvent}
use Rattle.iox_cell_queues.specs.declared.event.CellReply.{CellReply}
use Rattle.iox_cell_queues.specs.declared.side.CellPushing.TheVariants as pushing
use Rattle.iox_cell_queues.specs.declared.side.CellPopping.TheVariants as popping
use Rattle.iox_cell_queues.specs.CellContents.{values}
use Rattle.iox_cell_queues.specs.CellEventLists.{published, departed}
use Rattle.iox_cell_queues.proofs.CellContentLemmas.{waiting_are_values}
use Rattle.iox_cell_queues.specs.declared.queue.CellSide.{CellSide}
use Rattle.iox_cell_queues.specs.declared.queue.CellSide.TheVariants.{Pusher, Popper}
use Rattle.iox_cell_queues.specs.declared.queue.CellCall.{CellCall}
use Rattle.iox_cell_queues.specs.declared.queue.CellCall.TheVariants.{Push, IsFull, Pop, IsEmpty}
use Rattle.iox_cell_queues.specs.declared.queue.CellParty.{CellParty}
use Rattle.iox_cell_queues.specs.CellParties.{IsBegun, IsNotBegun, CellLeads, CellBegins, cell_asks, cell_happens, cell_rests}
use Rattle.iox_cell_queues.specs.CellQueues.{CellMachineState, BothAfterCalls, PartiesAfterCalls, CellInvariant, AtRestAt}
use Rattle.iox_cell_queues.specs.CellMachines.{CellStepped, CellBegun, IsCellBeginRefused, AllCellsEntered}
use Rattle.iox_cell_queues.specs.CellEntries.{party_view, plain, new_machine, site_of, side_begun, plain_begun, plain_rests, waiting_of, plain_asks, plain_happens, plain_goes, plain_entered, plain_after, plain_answer}

module _ {A : Type 0} {width : ℕ} (count : ℕ) (words : A → List ℕ) (of_words : List ℕ → Option A) where
  side_began : (side after : CellSide A width) (call : CellCall A) → IsBegun count words of_words side call after → side_begun side call ≡ Some after
  side_began (Pusher pushes) after (Push value) begun = rw (begun.0, begun.1) refl
  side_began (Pusher pushes) after IsFull begun = rw (begun.0, begun.1) refl
  side_began (Popper pops) after Pop begun = rw (begun.0, begun.1) refl
  side_began (Popper pops) after IsEmpty begun = rw (begun.0, begun.1) refl
  side_began (Pusher pushes) after Pop begun = absurd begun
  side_began (Pusher pushes) after IsEmpty begun = absurd begun
  side_began (Popper pops) after (Push value) begun = absurd begun
  side_began (Popper pops) after IsFull begun = absurd begun

side_refused : {A : Type 0} → {width : ℕ} → (side : CellSide A width) (call : CellCall A) (error : MachineError)
    → IsNotBegun side call error → side_begun side call ≡ None
side_refused (Pusher pushing.AtRest) (Push value) error busy = absurd (true≢false busy.1)
side_refused (Pusher pushing.AtRest) IsFull error busy = absurd (true≢false busy.1)
side_refused (Pusher pushing.AtRest) Pop error busy = refl
side_refused (Pusher pushing.AtRest) IsEmpty error busy = refl
side_refused (Pusher (pushing.Pushes site)) call error busy = refl
side_refused (Pusher (pushing.Looks site)) call error busy = refl
side_refused (Popper popping.AtRest) Pop error busy = absurd (true≢false busy.1)
side_refused (Popper popping.AtRest) IsEmpty error busy = absurd (true≢false busy.1)
side_refused (Popper popping.AtRest) (Push value) error busy = refl
side_refused (Popper popping.AtRest) IsFull error busy = refl
side_refused (Popper (popping.Pops site)) call error busy = refl
side_refused (Popper (popping.Looks site)) call error busy = refl

-- the queue stays where it stands
same_site : {A : Type 0} → {width : ℕ} → (parties : List (CellParty A width)) (number : ℕ) (party after : CellParty A width) (words words' : List ℕ)
    (events events' : List (CellEvent A)) → party ≡ slice_index_or parties number party → after.site ≡ party.site
    → site_of (record { words = words'; parties = slice_set parties number after; events = events' })
    ≡ site_of (record { words = words; parties = parties; events = events })
same_site [] number party after words words' events events' is same = refl
same_site (first ∷ others) zero party after words words' events events' is same = same ∙ ap (λ (p : CellParty _ _). p.site) is
same_site (first ∷ others) (suc number) party after words words' events events' is same = refl

-- a new machine, as plain data, and where its queue stands
abbrev first_machine : {A : Type 0} → {width : ℕ} → List ℕ → List (CellParty A width) → CellMachineState A width
first_machine list parties = record { words = list; parties = parties; events = [] }

pub new_is_plain : {A : Type 0} → {width : ℕ} → (site : CellSite) (list : List ℕ) (parties : List (CellParty A width)) → AtRestAt site parties
    → (plain (first_machine list parties) ≡ new_machine list site) × (site_of (first_machine list parties) ≡ site)
new_is_plain site list (a ∷ b ∷ []) is = (rw (is.0, is.1, is.2, is.3) refl, is.0)
new_is_plain site list [] is = absurd is
new_is_plain site list (a ∷ []) is = absurd is
new_is_plain site list (a ∷ b ∷ c ∷ others) is = absurd is

module _ {A : Type 0} {width : ℕ} (W : Ghosts A) where
  -- a party has one way on
  cell_led : (party after : CellParty A width) (seen : ℕ) (answer : Progress (CellReply A)) → CellLeads W party seen answer after
      → party_view after ≡ plain_goes W (party_view party) seen
  cell_led party after seen answer leads = rw (leads.0, leads.1) refl

  cell_began : (party after : CellParty A width) (call : CellCall A) → CellBegins W party call (Ok after)
      → plain_begun (party_view party) call ≡ Some (party_view after)
  cell_began party after call begun = rw (side_began W.WORDS W.words W.of_words party.side after.side call begun.1, begun.0) refl

  cell_refused : (party : CellParty A width) (call : CellCall A) (error : MachineError) → CellBegins W party call (Err error)
      → plain_begun (party_view party) call ≡ None
  cell_refused party call error begun = rw (side_refused party.side call error begun) refl

  cell_schedule_enters : (old : CellMachineState A width) (entries : List (Entry (CellCall A))) (new : CellMachineState A width) → AllCellsEntered W old entries new
      → plain new ≡ plain_after W (plain old) entries
  cell_schedule_enters old entries new all =
      all_enter party_view (plain_asks W) (plain_goes W) (plain_happens W) plain_rests plain_begun (CellLeads W) (CellBegins W)
      cell_led cell_began cell_refused old entries new all

  pub cell_schedule_ends : {B C : Type 0} (old : CellMachineState A width) (entries : List (Entry (CellCall A))) (new : CellMachineState A width) (result : Result B C)
      → OnOk result (AllCellsEntered W old entries new) → OnOk result (plain new ≡ plain_after W (plain old) entries)
  cell_schedule_ends old entries new (Ok done) all = cell_schedule_enters old entries new all
  cell_schedule_ends old entries new (Err error) all = tt

  begin_stands : (old : CellMachineState A width) (number : ℕ) (call : CellCall A) (new : CellMachineState A width) → CellBegun W old number call new
      → site_of new ≡ site_of old
  begin_stands old number call new begun =
      ap site_of begun.leads_to
      ∙ same_site old.parties number begun.party begun.after old.words old.words old.events old.events begun.is_party.1 begun.begins_with.0

  step_stands : (old : CellMachineState A width) (number : ℕ) (answer : Progress (CellReply A)) (new : CellMachineState A width) → CellStepped W old number answer new
      → site_of new ≡ site_of old
  step_stands old number answer new step =
      ap site_of step.leads_to
      ∙ same_site old.parties number step.party step.after old.words (words_after (cell_asks W step.party) old.words) old.events
      (old.events ++ option_to_list (cell_happens W step.party (seen_in old (cell_asks W step.party)))) step.is_party.1 step.leads_on.0

  pub schedule_stands : (old : CellMachineState A width) (entries : List (Entry (CellCall A))) (new : CellMachineState A width) → AllCellsEntered W old entries new
      → site_of new ≡ site_of old
  schedule_stands old entries new all =
      all_entered_keeps (cell_asks W) (CellLeads W) (cell_happens W) cell_rests (CellBegins W) (λ (w : CellMachineState A width). site_of w ≡ site_of old)
      (λ was number call now same begun. begin_stands was number call now begun ∙ same)
      (λ was number answer now same step. step_stands was number answer now step ∙ same)
      old entries new refl all

  -- whatever a begin or a step comes to
  pub begin_enters : {B : Type 0} (old : CellMachineState A width) (number : ℕ) (call : CellCall A) (new : CellMachineState A width) (result : Result B MachineError)
      → IfOk result (λ _. CellBegun W old number call new) → IfErr result (IsCellBeginRefused W old number call) → OnErr result (new ≡ old)
      → (plain new ≡ plain_entered W (plain old) (entry.Begin number call)) × (site_of new ≡ site_of old)
  begin_enters old number call new (Ok done) begun refused same = (
    begun_enters party_view (plain_asks W) (plain_goes W) (plain_happens W) plain_rests plain_begun (CellLeads W) (CellBegins W)
        cell_led cell_began cell_refused old number call new begun,
    begin_stands old number call new begun,
  )
  begin_enters old number call new (Err error) begun refused same = (
    ap plain same ∙ unbegun_enters party_view (plain_asks W) (plain_goes W) (plain_happens W) plain_rests plain_begun (CellLeads W) (CellBegins W)
        cell_led cell_began cell_refused old number call error refused,
    ap site_of same,
  )

  abbrev pub StepEnters : {E : Type 0} → CellMachineState A width → ℕ → CellMachineState A width → Result (Progress (CellReply A)) E → Type 0
  StepEnters old number new result = OnOk result (plain new ≡ plain_entered W (plain old) (entry.Step number))
      × IfOk result (λ answer. answer ≡ plain_answer W (plain old) number) × (site_of new ≡ site_of old)

  pub step_enters : (old : CellMachineState A width) (number : ℕ) (new : CellMachineState A width) (result : Result (Progress (CellReply A)) MachineError)
      → IfOk result (λ answer. CellStepped W old number answer new) → OnErr result (new ≡ old) → StepEnters old number new result
  step_enters old number new (Ok answer) step same = (
    stepped_enters party_view (plain_asks W) (plain_goes W) (plain_happens W) plain_rests plain_begun (CellLeads W) (CellBegins W)
        cell_led cell_began cell_refused old number answer new step,
    rw (
      slice_get-map (λ (p : CellParty A width). party_view p) old.parties number,
      slice_get_read old.parties (length old.parties) number step.party refl step.is_party.0 step.is_party.1,
    ) step.leads_on.2,
    step_stands old number answer new step,
  )
  step_enters old number new (Err error) step same = (tt, tt, ap site_of same)

  -- what was handed out, and then what is waiting, is what was published
  sides_order : (site : CellSite) (list : List ℕ) (a b : CellSide A width) (events : List (CellEvent A)) → BothAfterCalls W.words W.of_words site list a b events
      → (published events ≡ departed events ++ values W site list) × (length (values W site list) ≤ site.capacity)
  sides_order site list (Pusher pushes) (Popper pops) events played =
      let are = waiting_are_values W site list played.room played.waiting played.fits.ring in
      (played.order ∙ ap (λ (l : List A). departed events ++ l) are, subst (λ (l : List A). length l ≤ site.capacity) are played.bounded)
  sides_order site list (Pusher pushes) (Pusher other) events played = absurd played
  sides_order site list (Popper pops) b events played = absurd played

  parties_order : (list : List ℕ) (parties : List (CellParty A width)) (events : List (CellEvent A)) → PartiesAfterCalls W list parties events
      → let machine : CellMachineState A width = record { words = list; parties = parties; events = events } in
      (published events ≡ departed events ++ waiting_of W machine) × (length (waiting_of W machine) ≤ (site_of machine).capacity)
  parties_order list (a ∷ b ∷ []) events played = sides_order a.site list a.side b.side events played.1
  parties_order list [] events played = absurd played
  parties_order list (a ∷ []) events played = absurd played
  parties_order list (a ∷ b ∷ c ∷ others) events played = absurd played

  pub cell_order : (machine : CellMachineState A width) → CellInvariant W machine
      → (published machine.events ≡ departed machine.events ++ waiting_of W machine) × (length (waiting_of W machine) ≤ (site_of machine).capacity)
  cell_order machine holds = parties_order machine.words machine.parties machine.events holds.1
