-- The moment of an access is told by slots, and by the serials that desks record of them.
use Rattle.std.specs.Prelude.{◌&&◌, ◌⊎◌, find, not, option_map, slice_index}
use Rattle.std.specs.Option.{option_map_or}
use Rattle.std.proofs.Common.{◌≡◌, ℕ, ◌<◌, Bool, true, false, if◌then◌else◌, ◌==◌, List, [], ◌∷◌, ◌++◌, append-nil, length, map, Option, None, Some, refl, ap, sym, subst, ◌∙◌, inl, inr}
use Rattle.iox_model.specs.declared.event.Event.{Event}
use Rattle.iox_model.specs.declared.event.Event.TheVariants as events
use Rattle.iox_model.specs.declared.way.RequestState.TheVariants.{Named}
use Rattle.iox_model.specs.declared.way.Way.{Way}
use Rattle.iox_model.specs.Commands.{Reply}
use Rattle.iox_model.specs.Joins.{not_living}
use Rattle.iox_model.specs.Maps.{has_number, or_else}
use Rattle.iox_model.specs.Messages.{names, names_with_hint, response_way}
use Rattle.iox_model.specs.Moments.{Close, Hint, Look, Moment, event_of}
use Rattle.iox_model.specs.Schedules.{events_of, moments_of}
use Rattle.iox_model.specs.Weaves.{Beat, Begins, Dies, Ends, Makes}
use Rattle.std.proofs.lemmas.List.{map-append}
use Rattle.iox_steps.specs.declared.side.Popping.TheVariants as popping
use Rattle.iox_steps.specs.declared.side.Pushing.TheVariants as pushing
use Rattle.iox_steps.specs.declared.side.QueueEvent.{QueueEvent}
use Rattle.iox_steps.specs.declared.side.QueueEvent.TheVariants.{Evict, HandOut, Learn, Publish, SeesEmpty, SeesFull, SeesRoom, SeesWaiting}
use Rattle.iox_steps.specs.Accesses.{seen_by}
use Rattle.iox_steps.specs.Pops.{empty_look_event, pop_event}
use Rattle.iox_steps.specs.Pushes.{full_look_event, push_event}
use Rattle.iox_steps.specs.Sites.{last_position}
use Rattle.iox_word_map.specs.WordMaps.{MessageQueue, ReturningQueue}
use Rattle.iox_word_places.specs.Plans.{port_of}
use Rattle.iox_word_places.specs.declared.plan.PlanPort.{PlanPort}
use Rattle.iox_wire_words.specs.Programs.{Pops, Program, Pushes, WireLayout, site_of}
use Rattle.iox_wire_moments.specs.MomentsOf.{Pools, empty_look_moment, full_look_moment, get_back_moment, give_back_moment, moment_of, pop_moment, push_moment}
use Rattle.iox_wire_locals.specs.StateMoments.{hinting_moment, leaving_moment, looked, moment_at, state_moment}
use Rattle.iox_wire_locals.specs.Tables.{state_in}
use Rattle.iox_wire_locals.specs.declared.table.Desk.{Desk}
use Rattle.iox_wire_nodes.specs.Entry.{Entry}
use Rattle.iox_wire_nodes.specs.Local.{Local}
use Rattle.iox_wire_nodes.specs.Local.TheVariants.{Checks, HintExchanges, Hints, ReceiveAsks, ReleaseCloses, ReleaseExchanges, ReleaseLooks, SendAsks, SendOpens}
use Rattle.iox_wire_nodes.specs.Locals.{program_of, state_told, state_word}
use Rattle.iox_wire_nodes.specs.Nodes.{seat_in}
use Rattle.iox_wire_nodes.specs.Seat.{Seat}
use Rattle.iox_wire_nodes.specs.Tables.{Setting}
use Rattle.iox_wire_needs.specs.Aside.{shown_at}
use Rattle.iox_wire_needs.specs.NamedSlots.{HoldsLent, Names}
use Rattle.iox_wire_needs.specs.Openings.{opened_seat}
use Rattle.iox_wire_needs.specs.Runs.{Run}
use Rattle.iox_wire_needs.specs.Serials.{serials_at}
use Rattle.iox_wire_needs.specs.SlotsKnown.{IsPortOfSeat}
use Rattle.iox_wire_needs.specs.WholeSteps.{step_beats}
use Rattle.iox_wire_seats.specs.SlotEvents.{by_slot, slot_event}
use Rattle.iox_wire_seats.specs.Counted.{desk_of, serial_at}
use Rattle.iox_wire_weaves.specs.Events.{SlotsTellEvents, with_serials}
use Rattle.iox_wire_weaves.specs.Owners.{serial_of}
use Rattle.iox_wire_weaves.specs.Steps.{recorded}
use Rattle.iox_wire_weaves.specs.Wires.{Shows, WireData, WireNode, node_at, players_of, seat_of}
use Rattle.iox_wire_weaves.proofs.FreshDesks.{fresh_serial}
use Rattle.iox_wire_weaves.proofs.PlanPorts.{desks_there, not_in_plan, owner_is}

-- ---- the moment of an access

-- an event that names no slot
abbrev Plain : (ℕ → ℕ → ℕ) → Option Moment → Type 0
Plain f m = option_map event_of m ≡ option_map (with_serials f) (option_map event_of m)

module _ (f : ℕ → ℕ → ℕ) where
  leaving : (e : Entry) (seen : ℕ) → Plain f (leaving_moment e seen)
  leaving e seen = by_case (names (state_told seen) e.request)
    where
      by_case : (b : Bool) → Plain f (if b then looked (state_in e) seen else Some (Close (state_in e) e.request))
      by_case true = refl
      by_case false = refl

  plain : (local : Local) (seen : ℕ) → Plain f (state_moment local seen)
  plain (SendAsks d) seen = refl
  plain (SendOpens d w left full) seen = refl
  plain (ReceiveAsks v w slot header left waiting) seen = refl
  plain (ReleaseCloses e w left) seen = refl
  plain (ReleaseLooks e) seen = leaving e seen
  plain (ReleaseExchanges e old) seen = by_case (seen == old)
    where
      by_case : (b : Bool) → Plain f (if b then Some (Close (state_in e) e.request) else leaving_moment e seen)
      by_case true = refl
      by_case false = leaving e seen
  plain (Checks e hinted w left) seen = refl
  plain (Hints e w left) seen = by_case (names (state_told seen) e.request && not (names_with_hint (state_told seen) e.request))
    where
      by_case : (b : Bool) → Plain f (if b then None else looked w seen)
      by_case true = refl
      by_case false = refl
  plain (HintExchanges e w left) seen = by_case (seen == state_word (Named e.request false))
    where
      by_case : (b : Bool) → Plain f (if b then Some (Hint w e.request) else looked w seen)
      by_case true = refl
      by_case false = refl
  plain local seen = refl

-- ---- by slots

module _ (p : WireLayout) (held : Pools) (f : ℕ → ℕ → ℕ) (seen : ℕ) (s : Option Moment) (rest : Plain f s) where
  abbrev T : Option Moment → Option Moment → Type 0
  T a b = option_map event_of (or_else a s) ≡ option_map (with_serials f) (option_map event_of (or_else b s))

  -- the slot of the way's sender holds a message of that serial
  abbrev Serial : Way → ℕ → Type 0
  Serial y slot = (held y.sender slot).serial ≡ f y.sender slot

  pushed : (y : Way) (e : QueueEvent) → ((slot : ℕ) → (e ≡ Publish slot) ⊎ (e ≡ Learn slot) → Serial y slot) → T (push_moment held y e) (push_moment by_slot y e)
  pushed y (Publish slot) same = ap (λ k. Some (events.Deliver y k)) (same slot (inl refl))
  pushed y (Learn slot) same = ap (λ k. Some (events.GetBack y k)) (same slot (inr refl))
  pushed y Evict same = refl
  pushed y e same = rest

  full : (y : Way) (e : QueueEvent) → T (full_look_moment y e) (full_look_moment y e)
  full y SeesFull = refl
  full y SeesRoom = refl
  full y e = rest

  popped : (y : Way) (e : QueueEvent) → ((slot : ℕ) → e ≡ HandOut slot → Serial y slot) → T (pop_moment held y e) (pop_moment by_slot y e)
  popped y (HandOut slot) same = ap (λ k. Some (events.Take y k)) (same slot refl)
  popped y SeesEmpty same = refl
  popped y e same = rest

  empty : (y : Way) (e : QueueEvent) → T (empty_look_moment y e) (empty_look_moment y e)
  empty y SeesEmpty = refl
  empty y SeesWaiting = refl
  empty y e = rest

  given : (y : Way) (e : QueueEvent) → ((slot : ℕ) → e ≡ Publish slot → Serial y slot) → T (give_back_moment held y e) (give_back_moment by_slot y e)
  given y (Publish slot) same = ap (λ k. Some (events.GiveBack y k)) (same slot refl)
  given y e same = rest

  got : (y : Way) (e : QueueEvent) → ((slot : ℕ) → e ≡ HandOut slot → Serial y slot) → T (get_back_moment held y e) (get_back_moment by_slot y e)
  got y (HandOut slot) same = ap (λ k. Some (events.GetBack y k)) (same slot refl)
  got y SeesEmpty same = refl
  got y e same = rest

  told : (program : Program) → ((y : Way) (slot : ℕ) → Names p program seen y slot → Serial y slot) → T (moment_of p held program seen) (moment_of p by_slot program seen)
  told (Pushes (MessageQueue y) (pushing.Pushes place)) same = pushed y (push_event (site_of p (MessageQueue y)) place seen) (λ slot is. same y slot (refl, is))
  told (Pushes (MessageQueue y) (pushing.Looks place)) same = full y (full_look_event (site_of p (MessageQueue y)) place seen)
  told (Pops (MessageQueue y) (popping.Pops place)) same = popped y (pop_event (site_of p (MessageQueue y)) place seen) (λ slot is. same y slot (refl, is))
  told (Pops (MessageQueue y) (popping.Looks place)) same = empty y (empty_look_event (site_of p (MessageQueue y)) place seen)
  told (Pushes (ReturningQueue y) (pushing.Pushes place)) same = given y (push_event (site_of p (ReturningQueue y)) place seen) (λ slot is. same y slot (refl, is))
  told (Pops (ReturningQueue y) (popping.Pops place)) same = got y (pop_event (site_of p (ReturningQueue y)) place seen) (λ slot is. same y slot (refl, is))
  told program same = rest

pub told_event : (p : Setting) (held : Pools) (local : Local) (seen : ℕ) (f : ℕ → ℕ → ℕ)
    → ((y : Way) (slot : ℕ) → Names p.layout (program_of p local) seen y slot → (held y.sender slot).serial ≡ f y.sender slot)
    → option_map event_of (moment_at p held local seen) ≡ option_map (with_serials f) (slot_event p local seen)
told_event p held local seen f same = told p.layout held f seen (state_moment local seen) (plain f local seen) (program_of p local) same

pub slots_tell_events : SlotsTellEvents
slots_tell_events p held local seen = told_event p held local seen (λ port slot. (held port slot).serial) (λ y slot named. refl)

-- ---- serials at desks

module _ (p : Setting) (wire : WireData) (r : Run) (shows : Shows p wire r) where
  node_alike : (x : Seat) (l : Local) → (shown_at p x l).node ≡ x.node
  node_alike x (ReleaseLooks e) = refl
  node_alike x (ReleaseExchanges e old) = refl
  node_alike x l = refl

  number_is : (n : ℕ) → (seat_of p wire.nodes n).node ≡ n
  number_is n = sym (node_alike (seat_of p wire.nodes n) (seat_of p wire.nodes n).local) ∙ shows.stands.stands.shows.node n

  module _ (port slot : ℕ) (lent : HoldsLent p shows.stands.stands.held port slot) where
    abbrev owner : ℕ
    owner = p.layout.owner port

    own_serial : slice_index (serials_at (seat_of p wire.nodes (p.layout.owner port)) port) slot ≡ (shows.stands.stands.held port slot).serial
    own_serial =
        (shows.stands.serials (p.layout.owner port)).told port slot (lent.there, sym (number_is (p.layout.owner port))) lent.low lent.small

    module _ (q : PlanPort) (is : port_of wire.plan port ≡ Some q) where
      here : slice_index (serials_at (seat_of p wire.nodes q.node) port) slot ≡ (shows.stands.stands.held port slot).serial
      here = ap (λ n. slice_index (serials_at (seat_of p wire.nodes n) port) slot) (sym (owner_is p wire r port shows q is)) ∙ own_serial

      -- the desk tells it
      at_desk : (o : Option Desk) → slice_index (option_map_or (λ (d : Desk). d.serials) o []) slot ≡ option_map_or (serial_at slot) o 0
      at_desk None = refl
      at_desk (Some d) = refl

      by_node : (o : Option WireNode) → node_at q.node wire.nodes ≡ o
          → (shows.stands.stands.held port slot).serial
          ≡ option_map_or (serial_at slot) (option_map_or (λ (x : WireNode). desk_of port x.node.seat.seat.desks) o None) 0
      by_node (Some x) at =
          sym here ∙ ap (λ (ds : List Desk). slice_index (option_map_or (λ (d : Desk). d.serials) (find (λ (d : Desk). d.port == port) ds) []) slot) (desks_there p wire.nodes q.node x at)
          ∙ at_desk (desk_of port x.node.seat.seat.desks)
      by_node None at =
          sym here ∙ ap (λ o. slice_index (serials_at (option_map_or (λ (x : WireNode). seat_in x.node) o (opened_seat p q.node)) port) slot) at
          ∙ fresh_serial p q.node port slot lent.there (owner_is p wire r port shows q is) lent.low

    pub told_serial : (shows.stands.stands.held port slot).serial ≡ serial_of wire.plan wire.nodes port slot
    told_serial = by_port (port_of wire.plan port) refl
      where
        by_port : (o : Option PlanPort) → port_of wire.plan port ≡ o
            → (shows.stands.stands.held port slot).serial
            ≡ option_map_or (serial_at slot)
            (option_map_or (λ (x : WireNode). desk_of port x.node.seat.seat.desks) (option_map_or (λ (q : PlanPort). node_at q.node wire.nodes) o None) None) 0
        by_port None is = absurd (not_in_plan p wire r port shows is lent.there)
        by_port (Some q) is = by_node q is (node_at q.node wire.nodes) refl

-- ---- the events of beats

pub moments_on : (bs cs : List Beat) → moments_of (bs ++ cs) ≡ moments_of bs ++ moments_of cs
moments_on [] cs = refl
moments_on (Begins node call c ∷ bs) cs = moments_on bs cs
moments_on (Makes node m ∷ bs) cs = ap (λ ms. (node, m) ∷ ms) (moments_on bs cs)
moments_on (Ends node reply payload ∷ bs) cs = moments_on bs cs
moments_on (Dies node ∷ bs) cs = moments_on bs cs

pub events_on : (bs cs : List Beat) → events_of (bs ++ cs) ≡ events_of bs ++ events_of cs
events_on bs cs =
    ap (map (λ (e : ℕ × Moment). (e.0, event_of e.1))) (moments_on bs cs)
    ∙ map-append (λ (e : ℕ × Moment). (e.0, event_of e.1)) (moments_of bs) (moments_of cs)

-- a begin and a death have none
pub no_events : (bs : List Beat) (b : Beat) → moments_of (b ∷ []) ≡ [] → events_of (bs ++ b ∷ []) ≡ events_of bs
no_events bs b none =
    events_on bs (b ∷ []) ∙ ap (λ (ms : List (ℕ × Moment)). events_of bs ++ map (λ (e : ℕ × Moment). (e.0, event_of e.1)) ms) none ∙ append-nil (events_of bs)

-- ---- the events of a step

abbrev with_node : ℕ → Option Event → List (ℕ × Event)
with_node n None = []
with_node n (Some event) = (n, event) ∷ []

events_of_step : (n : ℕ) (payload : List ℕ) (m : Option Moment) (reply : Option Reply) → events_of (step_beats n payload m reply) ≡ with_node n (option_map event_of m)
events_of_step n payload None None = refl
events_of_step n payload None (Some reply) = refl
events_of_step n payload (Some m) None = refl
events_of_step n payload (Some m) (Some reply) = refl

record_is : (wire : WireData) (n : ℕ) (o : Option Event) → recorded wire.plan wire.nodes n o ≡ with_node n (option_map (with_serials (serial_of wire.plan wire.nodes)) o)
record_is wire n None = refl
record_is wire n (Some event) = refl

pub step_events : (p : Setting) (wire : WireData) (held : Pools) (n : ℕ) (payload : List ℕ) (local : Local) (seen : ℕ) (reply : Option Reply)
    → ((y : Way) (slot : ℕ) → Names p.layout (program_of p local) seen y slot → (held y.sender slot).serial ≡ serial_of wire.plan wire.nodes y.sender slot)
    → events_of (step_beats n payload (moment_at p held local seen) reply) ≡ recorded wire.plan wire.nodes n (slot_event p local seen)
step_events p wire held n payload local seen reply same =
    events_of_step n payload (moment_at p held local seen) reply ∙ ap (with_node n) (told_event p held local seen (serial_of wire.plan wire.nodes) same)
    ∙ sym (record_is wire n (slot_event p local seen))
