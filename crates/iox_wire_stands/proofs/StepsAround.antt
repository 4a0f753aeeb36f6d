-- What stands around a node after its access: words, the other nodes and the machine.
use Rattle.std.specs.Prelude.{◌⊎◌}
use Rattle.std.proofs.Common.{◌≡◌, ℕ, ◌+◌, Bool, true, false, if◌then◌else◌, ◌==◌, Option, Some, None, refl, ap, sym, subst, ◌∙◌, inl, inr, eqb-true, true≢false}
use Rattle.iox_model.specs.declared.way.Way.{Way}
use Rattle.iox_model.specs.Joins.{not_living}
use Rattle.iox_model.specs.Maps.{has_number, or_else, put_at}
use Rattle.iox_model.specs.Moments.{Moment, moved}
use Rattle.iox_model.specs.Peers.{borrow_limit_on, buffer_on, node_of_port}
use Rattle.iox_model.specs.States.{Fixed, State}
use Rattle.iox_model.specs.Weaves.{IsBeat, Makes, World}
use Rattle.iox_laws.proofs.WeaveLaws.MapLemmas.{eqb-refl}
use Rattle.iox_laws.proofs.WeaveLaws.WholeLemmas.{moved-fixed, moved-members, not_living-members, put_at-here}
use Rattle.iox_laws.proofs.WeaveLedger.Truths.{or-left}
use Rattle.iox_steps.specs.Accesses.{seen_by}
use Rattle.iox_steps.specs.declared.side.Popping.TheVariants as popping
use Rattle.iox_steps.specs.declared.side.QueueEvent.{QueueEvent}
use Rattle.iox_steps.specs.declared.side.QueueEvent.TheVariants.{HandOut, SeesEmpty}
use Rattle.iox_word_map.specs.WordMaps.{IsWay, ReturningQueue}
use Rattle.iox_wire_words.specs.Fits.{WireContents, contents_after}
use Rattle.iox_wire_words.specs.Laws.{AccessIsMade}
use Rattle.iox_wire_words.specs.Programs.{program_access}
use Rattle.iox_wire_moments.specs.MomentsOf.{Pools, get_back_moment}
use Rattle.iox_wire_locals.specs.declared.local.Local.{Local}
use Rattle.iox_wire_locals.specs.declared.local.Local.TheVariants.{LendEmpties}
use Rattle.iox_wire_locals.specs.declared.seat.Seat.{Seat}
use Rattle.iox_wire_locals.specs.declared.table.NewLoan.{NewLoan}
use Rattle.iox_wire_locals.specs.Known.{free_slots}
use Rattle.iox_wire_locals.specs.Locals.{program_of}
use Rattle.iox_wire_locals.specs.NewLoans.{entry_in, message_in}
use Rattle.iox_wire_locals.specs.StateMoments.{moment_at}
use Rattle.iox_wire_locals.specs.StepLaws.{ReliesOn}
use Rattle.iox_wire_locals.specs.Steps.{accessed, advance, ending_at, pop_finds}
use Rattle.iox_wire_locals.specs.Tables.{Setting}
use Rattle.iox_wire_laws.specs.WireKeeping.Shows.{ShowsWorld}
use Rattle.iox_wire_laws.specs.WireShows.OwnedCalls.{state_after}
use Rattle.iox_wire_laws.specs.WireShows.StepsShow.{ShowsNext}
use Rattle.iox_wire_laws.specs.WireRegions.OwnedBegins.{LayoutFits}
use Rattle.iox_wire_laws.proofs.WireRegions.ReceiveBegins.{layouts_stay_fit}
use Rattle.iox_wire_laws.specs.WireHolding.FarSlots.{QueuesHaveSlots}
use Rattle.iox_wire_laws.specs.WireHolding.HeldSteps.{FreeSlotsAreUnnamed}
use Rattle.iox_wire_laws.specs.WireHolding.Holding.{held_after, held_from, held_with}
use Rattle.iox_wire_laws.proofs.WireHolding.FreeSlots.{free_slots_are_nobodys}
use Rattle.iox_wire_laws.proofs.WireHolding.HeldSteps.{steps_show_what_is_held}
use Rattle.iox_wire_stands.specs.Following.{CallMessage, Dropped, NodeContinues, IsLending, Leaving, NoMessage, Sent, Taken, Unchanged, desk_change, drops, keeps, lets_go, message_at, picks_slot, popped_back, puts_aside, sends_loan, takes}
use Rattle.iox_wire_stands.specs.NamesLaws.{ReturnsNothing}
use Rattle.iox_wire_stands.specs.NodeLaws.{ToldWhatIsSo}
use Rattle.iox_wire_stands.specs.Nodes.{NodeStands}
use Rattle.iox_wire_stands.specs.Stands.{AreNumbered, OwnersAre}
use Rattle.iox_wire_stands.proofs.Follows.{accesses_follow}
use Rattle.iox_wire_stands.proofs.NodesFollow.{KeptPart, accesses_keep_nodes, free_pools, limits, part_kept, takes_lane}
use Rattle.iox_wire_stands.proofs.OthersHold.{OneSlot, others_hold}
use Rattle.iox_wire_stands.proofs.OthersKept.{others_leave_nodes}
use Rattle.iox_wire_stands.proofs.QueuesFollow.{accesses_keep_queues}
use Rattle.iox_wire_stands.proofs.SlotsFollow.{NotLent, held_not, held_picked, held_stays, not_stores}

-- ---- what slots hold

-- no slot changes, or the free slot that a loan took
pub record Picks (p : Setting) (held : Pools) (x : Seat) (seen : ℕ) : Type 0 where
  pub loan : NewLoan
  pub slot : ℕ
  pub now : held_after p x seen held ≡ held_with held loan.port slot (message_in p loan)
  pub free : has_number slot (free_slots x loan.port) ≡ true
  pub still : desk_change p x.local seen ≡ Unchanged
  pub lends : IsLending x.local

module _ (p : Setting) (held : Pools) (s : State) (x : Seat) (seen : ℕ) (relies : ReliesOn p (accessed x) s held x.local seen) where
  abbrev y : Seat
  y = advance p (accessed x) x.local seen

  kept_held : (message : CallMessage) → message_at y.local ≡ message → NotLent message → (held_after p x seen held ≡ held) ⊎ Picks p held x seen
  kept_held message is not = inl (held_not p held x.local y.local (not_stores y.local message is not))

  held_now : NodeContinues p (accessed x) x.local seen y → (held_after p x seen held ≡ held) ⊎ Picks p held x seen
  held_now (keeps desks message) = inl (held_stays p held s (accessed x) seen x.local y.local relies message)
  held_now (lets_go desks still message may) = kept_held NoMessage message tt
  held_now (takes w slot desks still message took) = kept_held (Taken w slot) message tt
  held_now (puts_aside e desks still returns message) = kept_held (Leaving e) message tt
  held_now (drops e desks still of message) = kept_held (Dropped e) message tt
  held_now (sends_loan o slot desks still before copies message) = kept_held (Sent (entry_in o slot) true) message tt
  held_now (picks_slot o slot free desks still place before there lends) = inr (record {
    loan = o;
    slot = slot;
    now = ap (held_from p held x.local) place ∙ held_picked p held x.local o slot before;
    free = ap (has_number slot) there ∙ or-left (slot == slot) (has_number slot free) (eqb-refl slot);
    still = still;
    lends = lends;
  })

-- the moment of an access that gets nothing back is the same whatever slots hold
back_same : (held new : Pools) (port : ℕ) (w : Way) (event : QueueEvent) → popped_back port w event ≡ Unchanged
    → or_else (get_back_moment new w event) None ≡ or_else (get_back_moment held w event) None
back_same held new port w (HandOut slot) is = absurd (cc)
back_same held new port w SeesEmpty is = refl
back_same held new port w event is = refl

moment_same : (p : Setting) (held new : Pools) (local : Local) (seen : ℕ) → IsLending local → desk_change p local seen ≡ Unchanged
    → moment_at p new local seen ≡ moment_at p held local seen
moment_same p held new (LendEmpties o w (popping.Pops place) left) seen lends is =
    back_same held new o.port w (pop_finds p (ReturningQueue w) (popping.Pops place) seen) is
moment_same p held new (LendEmpties o w (popping.Looks place) left) seen lends is = refl
moment_same p held new (LendEmpties o w popping.AtRest left) seen lends is = refl
moment_same p held new local seen lends is = absurd lends

-- ---- the whole wire

-- what stands at words, seats and a world
pub record Whole (p : Setting) (held : Pools) (word : ℕ → ℕ) (c : WireContents) (seats : ℕ → Seat) (w : World) : Type 0 where
  pub shows : ShowsWorld p held word c seats w
  pub layout : LayoutFits p w.state.fixed
  pub owners : OwnersAre p w.state.fixed
  pub rooms : (y : Way) → IsWay p.layout.sizes y
      → p.layout.capacity (ReturningQueue y) ≡ buffer_on w.state.fixed y + borrow_limit_on w.state.fixed y + 1
  pub queues : QueuesHaveSlots p c w.state
  pub nodes : (k : ℕ) → not_living w.state k ≡ None → NodeStands p held w.state (seats k)

-- the same world stands, or that after the moment
abbrev pub WholeNext : Setting → Pools → (ℕ → ℕ) → WireContents → (ℕ → Seat) → World → ℕ → Option Moment → Type 0
WholeNext p held word c seats w n None = Whole p held word c seats w
WholeNext p held word c seats w n (Some m) = (u : World) × IsBeat w (Makes n m) u × Whole p held word c seats u

-- what stands but for one node
pub record Around (p : Setting) (held : Pools) (word : ℕ → ℕ) (c : WireContents) (seats : ℕ → Seat) (w : World) (n : ℕ) : Type 0 where
  pub shows : ShowsWorld p held word c seats w
  pub layout : LayoutFits p w.state.fixed
  pub owners : OwnersAre p w.state.fixed
  pub rooms : (y : Way) → IsWay p.layout.sizes y
      → p.layout.capacity (ReturningQueue y) ≡ buffer_on w.state.fixed y + borrow_limit_on w.state.fixed y + 1
  pub queues : QueuesHaveSlots p c w.state
  pub nodes : (k : ℕ) → (k == n) ≡ false → not_living w.state k ≡ None → NodeStands p held w.state (seats k)

-- with the node itself all stands
pub whole_with : (p : Setting) (held : Pools) (word : ℕ → ℕ) (c : WireContents) (seats : ℕ → Seat) (w : World) (n : ℕ)
    → Around p held word c seats w n → NodeStands p held w.state (seats n) → Whole p held word c seats w
whole_with p held word c seats w n around own = record {
  shows = around.shows;
  layout = around.layout;
  owners = around.owners;
  rooms = around.rooms;
  queues = around.queues;
  nodes = λ k lives. by_node k (k == n) refl lives;
}
  where
    by_node : (k : ℕ) (b : Bool) → (k == n) ≡ b → not_living w.state k ≡ None → NodeStands p held w.state (seats k)
    by_node k true is lives = subst (λ i. NodeStands p held w.state (seats i)) (sym (eqb-true k n is)) own
    by_node k false is lives = around.nodes k is lives

-- the same world, or that after the moment
abbrev pub AroundNext : Setting → Pools → (ℕ → ℕ) → WireContents → (ℕ → Seat) → World → ℕ → Option Moment → Type 0
AroundNext p held word c seats w n None = Around p held word c seats w n
AroundNext p held word c seats w n (Some m) = (u : World) × IsBeat w (Makes n m) u × (u.state ≡ moved w.state m) × Around p held word c seats u n

module _ (p : Setting) (held : Pools) (word word' : ℕ → ℕ) (c : WireContents) (seats : ℕ → Seat) (w : World) (n : ℕ)
    (numbered : AreNumbered p) (whole : Whole p held word c seats w) (living : not_living w.state n ≡ None) where
  abbrev x : Seat
  x = seats n

  abbrev seen : ℕ
  seen = seen_by (program_access p.layout (program_of p x.local)) word

  abbrev next_seat : Seat
  next_seat = advance p (accessed x) x.local seen

  abbrev new : Pools
  new = held_after p x seen held

  abbrev after : WireContents
  after = contents_after p.layout (program_of p x.local) seen c

  abbrev seats' : ℕ → Seat
  seats' = put_at seats n next_seat

  module _ (told : ToldWhatIsSo p held w.state x seen) (made : AccessIsMade (program_access p.layout (program_of p x.local)) word word') where
    abbrev mine : NodeStands p held w.state x
    mine = whole.nodes n living

    unnamed : FreeSlotsAreUnnamed p c seats w.state x
    unnamed =
        free_slots_are_nobodys p held word c seats w n whole.shows whole.layout (λ k lives. (whole.nodes k lives).names) living mine.slots

    held_is : (new ≡ held) ⊎ Picks p held x seen
    held_is = held_now p held w.state x seen told.relies (accesses_follow p (accessed x) seen)

    same_moment : moment_at p new x.local seen ≡ moment_at p held x.local seen
    same_moment = by_held held_is
      where
        by_held : (new ≡ held) ⊎ Picks p held x seen → moment_at p new x.local seen ≡ moment_at p held x.local seen
        by_held (inl same) = ap (λ h. moment_at p h x.local seen) same
        by_held (inr picks) = moment_same p held new x.local seen picks.lends picks.still

    -- another node's slots hold what they held
    with_new : (k : ℕ) → (k == n) ≡ false → not_living w.state k ≡ None → (s : State) → NodeStands p held s (seats k) → NodeStands p new s (seats k)
    with_new = others_hold p held new word c seats w n whole.shows mine.slots.desks unnamed (one held_is)
      where
        one : (new ≡ held) ⊎ Picks p held x seen → (new ≡ held) ⊎ OneSlot p held new x
        one (inl same) = inl same
        one (inr picks) = inr (record { loan = picks.loan; slot = picks.slot; now = picks.now; free = picks.free })

    queues_now : QueuesHaveSlots p after (state_after w.state (moment_at p held x.local seen))
    queues_now = accesses_keep_queues p held w.state x c seen whole.queues mine told.relies

    shown_next : ShowsNext p new word' after seats' w n (moment_at p new x.local seen)
    shown_next =
        (steps_show_what_is_held p held word word' c seats w n whole.shows living unnamed mine.owns.owns (free_pools p held w.state x mine) mine.tells
        (limits p held w.state x mine (whole.shows.counts n living).knows) told.words told.relies
        (takes_lane p held w.state x.local next_seat.local told.next) made).0

    -- at a state with the same fixed part, and the other nodes there
    assembled : (u : World) → ShowsWorld p new word' after seats' u → u.state.fixed ≡ w.state.fixed → LayoutFits p u.state.fixed
        → QueuesHaveSlots p after u.state
        → ((k : ℕ) → (k == n) ≡ false → not_living u.state k ≡ None → NodeStands p new u.state (seats k)) → Around p new word' after seats' u n
    assembled u shows fixed layout queues others = record {
      shows = shows;
      layout = layout;
      owners = λ port. whole.owners port ∙ ap (λ (f : Fixed). node_of_port f port) (sym fixed);
      rooms = λ y way. whole.rooms y way ∙ ap (λ (f : Fixed). buffer_on f y + borrow_limit_on f y + 1) (sym fixed);
      queues = queues;
      nodes = λ k other lives. by_node k (k == n) other lives (others k other lives);
    }
      where
        by_node : (k : ℕ) (b : Bool) → b ≡ false → not_living u.state k ≡ None → NodeStands p new u.state (seats k)
            → NodeStands p new u.state (if b then next_seat else seats k)
        by_node k true is lives stands = absurd (true≢false is)
        by_node k false is lives stands = stands

    -- ---- quiet, or a moment

    by_moment : (m : Option Moment) → ShowsNext p new word' after seats' w n m → QueuesHaveSlots p after (state_after w.state m)
        → AroundNext p new word' after seats' w n m
    by_moment None shows queues =
        assembled w shows refl whole.layout queues (λ k other lives. with_new k other lives w.state (whole.nodes k lives))
    by_moment (Some m) next queues =
        let u : World = next.0 in
        let beat : IsBeat w (Makes n m) u = next.1 in
        let is : u.state ≡ moved w.state m = ap (λ (v : World). v.state) beat.5 in
        let before : (k : ℕ) → not_living u.state k ≡ None → not_living w.state k ≡ None
        = λ k lives. not_living-members w.state u.state k (sym (ap (λ (t : State). t.members) is ∙ moved-members w.state m)) ∙ lives in (
          u,
          beat,
          is,
          assembled u next.2 (ap (λ (t : State). t.fixed) is ∙ moved-fixed w.state m)
              (layouts_stay_fit p w u (Makes n m) whole.shows.reachable beat whole.layout) (subst (QueuesHaveSlots p after) (sym is) queues)
              (λ k other lives. with_new k other (before k lives) u.state
              (others_leave_nodes p held w u (Makes n m) (seats k) whole.shows.reachable beat
              (subst (λ i. (i == n) ≡ false) (sym (whole.shows.node k)) other) (subst (λ i. not_living u.state i ≡ None) (sym (whole.shows.node k)) lives)
              whole.layout whole.owners (whole.shows.counts k (before k lives)) (whole.shows.doing k (before k lives)) (whole.nodes k (before k lives)))),
        )

    -- all but the node itself stands after its access
    pub goes_around : AroundNext p new word' after seats' w n (moment_at p held x.local seen)
    goes_around =
        by_moment (moment_at p held x.local seen) (subst (ShowsNext p new word' after seats' w n) same_moment shown_next) queues_now

    -- and what does not depend on where the call goes is so of the node
    pub own_part : KeptPart p new (state_after w.state (moment_at p held x.local seen)) next_seat
    own_part =
        part_kept p held word word' c seats w n whole.shows living whole.layout whole.owners numbered whole.queues mine told made

    module _ (returns : ReturnsNothing x.local (message_at next_seat.local)) (going : ending_at next_seat.local ≡ None) where
      own_node : NodeStands p new (state_after w.state (moment_at p held x.local seen)) next_seat
      own_node =
          accesses_keep_nodes p held word word' c seats w n whole.shows living whole.layout whole.owners numbered whole.queues mine told returns made going

      here : put_at seats n next_seat n ≡ next_seat
      here = put_at-here seats n next_seat

      with_own : (m : Option Moment) → AroundNext p new word' after seats' w n m → NodeStands p new (state_after w.state m) next_seat
          → WholeNext p new word' after seats' w n m
      with_own None around own = whole_with p new word' after seats' w n around (subst (NodeStands p new w.state) (sym here) own)
      with_own (Some m) next own = (
        next.0,
        next.1,
        whole_with p new word' after seats' next.0 n next.3
            (subst (NodeStands p new next.0.state) (sym here) (subst (λ t. NodeStands p new t next_seat) (sym next.2) own)),
      )

      pub goes_on : WholeNext p new word' after seats' w n (moment_at p held x.local seen)
      goes_on = with_own (moment_at p held x.local seen) goes_around own_node
