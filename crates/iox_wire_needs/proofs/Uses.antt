-- Slots that an access gets back or delivers are in use, and so is that of what a call sends.
use Rattle.iox_steps.specs.declared.side.QueueEvent.TheVariants.{HandOut, Quiet}
use Rattle.iox_steps.specs.Pops.{is_taken}
use Rattle.iox_steps.specs.declared.site.QueueKind.TheVariants.{Index}
use Rattle.iox_steps.specs.declared.pop.Pop.TheVariants as pop
use Rattle.iox_steps.specs.declared.side.Popping.TheVariants as popping
use Rattle.iox_wire_keeps.specs.Delivery.{Delivery}
use Rattle.iox_wire_keeps.specs.FollowingLaws.{DeliversNew}
use Rattle.iox_wire_needs.proofs.Delivers.{may_deliver_at}
use Rattle.iox_model.specs.declared.way.Way.{Way}
use Rattle.iox_steps.specs.declared.side.Pushing.{Pushing}
use Rattle.iox_word_map.specs.WordMaps.{MessageQueue, ReturningQueue}
use Rattle.iox_wire_keeps.proofs.AccessUses.{accesses_keep_uses}
use Rattle.iox_wire_keeps.proofs.Fresh.{delivers_fresh}
use Rattle.iox_wire_keeps.specs.Records.{record_of, recorded_of}
use Rattle.iox_wire_keeps.proofs.OwnSlotsApart.{slots_differ}
use Rattle.iox_laws.proofs.WeaveLaws.WholeLemmas.{some-is}
use Rattle.iox_wire_keeps.proofs.PoolsFit.{within_pool}
use Rattle.iox_wire_keeps.specs.Courses as courses
use Rattle.iox_wire_keeps.specs.LocalsDesks as desks
use Rattle.iox_wire_keeps.specs.Findings as findings
use Rattle.std.specs.Prelude.{find, is_some, length, slice_index}
use Rattle.std.proofs.Common.{Bool, List, None, Some, [], ap, arith, false, if◌then◌else◌, refl, subst, sym, true, ℕ, ◌&&◌, ◌+◌, ◌<◌, ◌==◌, ◌∙◌, ◌∷◌, ◌≡◌, ◌≤◌}
use Rattle.iox_model.specs.Joins.{not_living}
use Rattle.iox_model.specs.Maps.{AreDistinct, has_number}
use Rattle.iox_model.specs.States.{Fixed}
use Rattle.iox_steps.specs.Accesses.{seen_by}
use Rattle.iox_steps.specs.Sites.{last_position}
use Rattle.iox_wire_keeps.specs.Laws.{AccessIsMade}
use Rattle.iox_wire_keeps.specs.Programs.{program_access}
use Rattle.iox_wire_keeps.specs.Ending.{Ending}
use Rattle.iox_wire_keeps.specs.Ending.TheVariants as endings
use Rattle.iox_wire_keeps.specs.Local.{Local}
use Rattle.iox_wire_keeps.specs.Local.TheVariants.{Ends, LendEmpties, SendAsks, SendEmpties, SendEnds, SendEvicts, SendGetsBack, SendLooks, SendOpens, SendPushes}
use Rattle.iox_wire_keeps.specs.Seat.{Seat}
use Rattle.iox_wire_keeps.specs.Desk.{Desk}
use Rattle.iox_wire_keeps.specs.Entry.{Entry}
use Rattle.iox_wire_keeps.specs.Begins.{is_busy}
use Rattle.iox_wire_keeps.specs.Locals.{program_of}
use Rattle.iox_wire_keeps.specs.Steps.{accessed, advance, ending_at, push_place}
use Rattle.iox_wire_keeps.specs.Tables.{Setting, entry_at}
use Rattle.iox_wire_keeps.specs.SlotsKnown.{EndingStands, SendsOwnEntry, IsPortOfSeat, PlaceStands}
use Rattle.iox_wire_keeps.specs.UsedSlots.{slots_held, slots_in_call, slots_used}
use Rattle.iox_wire_keeps.proofs.OwnedPlaces.{owners_may_access}
use Rattle.iox_wire_keeps.proofs.AccessesFound.{accesses_find_used}
use Rattle.iox_wire_keeps.proofs.Counting.{used}
use Rattle.iox_wire_keeps.proofs.FoundUses.{sent_is_used, what_is_out_is_used}
use Rattle.iox_wire_keeps.specs.Uses.{AllUsesAreCounted, how_often, uses_of}
use Rattle.iox_wire_keeps.specs.UsesLaws.{FindsUsed}
use Rattle.iox_wire_keeps.specs.Desks.{AreOfDifferentPorts, IsUsed, MayDeliverAt}
use Rattle.iox_wire_keeps.specs.Following.{CallMessage, LeavesNothing, Sent, desk_change, message_at, delivers_published}
use Rattle.iox_wire_keeps.specs.Nodes.{NodeStands}
use Rattle.iox_wire_keeps.specs.Runs.{Run}
use Rattle.iox_wire_keeps.specs.Stands.{Player, seats_of, word_of}
use Rattle.iox_wire_keeps.proofs.NodesFollow.{records}
use Rattle.iox_wire_keeps.proofs.SendsFollow.{slots_are_found_in_pools}
use Rattle.iox_wire_keeps.proofs.StepsKept.{shown_same}
use Rattle.iox_wire_keeps.specs.Places.{CallFits, EndingFits, IsOfLoan, PlaceFits}
use Rattle.iox_wire_keeps.proofs.LoanSlots.{lent_slots, slots_by_message}
use Rattle.iox_wire_keeps.specs.Stored.{CallIsStored}
use Rattle.iox_wire_keeps.specs.WireStands.{WireStands}
use Rattle.iox_wire_keeps.proofs.OwnWrites.{loan_kept}
use Rattle.iox_wire_keeps.proofs.StepMessages as messages
use Rattle.iox_wire_needs.specs.Counts.{IsTidy}
use Rattle.iox_wire_loans.specs.Aims.{GetsBackUsed}
use Rattle.iox_wire_needs.specs.Uses.{AccessesFindInUse, FindsInUse, HaveFewWays, LoansGetBackInUse, WhatIsSentIsInUse}
use Rattle.iox_wire_needs.proofs.AtDesks.{at_desk, different_after, few_found}
use Rattle.iox_wire_needs.proofs.Places.{node, stored}

-- ---- desks count what is in use

module _ (p : Setting) (x : Seat) (uses : AllUsesAreCounted p x) (tidy : AreOfDifferentPorts x.desks) where
  pub used_here : (port slot : ℕ) → IsPortOfSeat p x port → 1 ≤ uses_of x port slot → (d : Desk) → find (λ d. d.port == port) x.desks ≡ Some d → 0 < slice_index d.uses slot
  used_here port slot home some d found =
      let u = uses port home in
      subst (λ (k : Desk). 0 < slice_index k.uses slot) (some-is u.desk d (sym u.there ∙ found))
      (subst (λ k. 0 < k) (sym (u.counts.told slot (within_pool (p.port port).pool (uses_of x port) u.desk u.counts slot some))) (positive (uses_of x port slot) some))
    where
      positive : (k : ℕ) → 1 ≤ k → 0 < k
      positive k some = omega (arith, some)

  pub used_at : (port slot : ℕ) → IsPortOfSeat p x port → 1 ≤ uses_of x port slot → IsUsed port slot x.desks
  used_at port slot home some =
      at_desk (λ d. 0 < slice_index d.uses slot) port x.desks tidy (used_here port slot home some)

-- ---- what a call sends

-- what is sent is the node's
abbrev SentBy : Fixed → Seat → CallMessage → Type 0
SentBy f x (Sent e copied) = SendsOwnEntry f x e copied
SentBy f x other = Unit {0}

-- and a loan
abbrev LoanBy : CallMessage → Type 0
LoanBy (Sent e copied) = IsOfLoan e.kind
LoanBy other = Unit {0}

ended_by : (p : Setting) (f : Fixed) (x : Seat) (ending : Ending) → EndingStands p f x ending → SentBy f x (message_at (Ends ending))
ended_by p f x (endings.Sends e copied count) has = has
ended_by p f x (endings.FailsToSend e copied r) has = has
ended_by p f x (endings.Lends o slot) has = tt
ended_by p f x (endings.Fills e words) has = tt
ended_by p f x (endings.Receives v w slot header) has = tt
ended_by p f x (endings.Drops e) has = tt
ended_by p f x ending has = tt

sent_by : (p : Setting) (f : Fixed) (x : Seat) (local : Local) → PlaceStands p f x local → SentBy f x (message_at local)
sent_by p f x (Ends ending) has = ended_by p f x ending has
sent_by p f x (SendAsks d) has = has
sent_by p f x (SendEmpties d w place left) has = has
sent_by p f x (SendLooks d w place left full) has = has
sent_by p f x (SendOpens d w left full) has = has
sent_by p f x (SendPushes d last w place left count) has = has
sent_by p f x (SendEvicts d w place left count) has = has
sent_by p f x (SendGetsBack d w place left count) has = has
sent_by p f x (SendEnds d last count) has = has
sent_by p f x local has = tt

ended_loan : (p : Setting) (x : Seat) (ending : Ending) → EndingFits p x ending → LoanBy (message_at (Ends ending))
ended_loan p x (endings.Sends e copied count) fits = fits.0
ended_loan p x (endings.FailsToSend e copied r) fits = fits
ended_loan p x (endings.Lends o slot) fits = tt
ended_loan p x (endings.Fills e words) fits = tt
ended_loan p x (endings.Receives v w slot header) fits = tt
ended_loan p x (endings.Drops e) fits = tt
ended_loan p x ending fits = tt

loan_by : (p : Setting) (x : Seat) (local : Local) → PlaceFits p x local → LoanBy (message_at local)
loan_by p x (Ends ending) fits = ended_loan p x ending fits
loan_by p x (SendAsks d) fits = fits.0.0
loan_by p x (SendEmpties d w place left) fits = fits.1.0
loan_by p x (SendLooks d w place left full) fits = fits.1.0
loan_by p x (SendOpens d w left full) fits = fits.1.0
loan_by p x (SendPushes d last w place left count) fits = fits.0
loan_by p x (SendEvicts d w place left count) fits = fits.1.0
loan_by p x (SendGetsBack d w place left count) fits = fits.1.0
loan_by p x (SendEnds d last count) fits = fits.0
loan_by p x local fits = tt

module _ (p : Setting) (words : List ℕ) (players : ℕ → Player) (r : Run) (n : ℕ) (wire : WireStands p words players r) (living : not_living r.last.state n ≡ None) where
  module _ (e : Entry) (copied : Bool) (is : message_at (players n).seat.local ≡ Sent e copied) where
    leaves : LeavesNothing (message_at (players n).seat.local)
    leaves = subst LeavesNothing (sym is) tt

    mine : NodeStands p wire.stands.held r.last.state (players n).seat
    mine = node p words players r n wire living leaves

    fits : CallFits p (players n).seat
    fits = subst (CallFits p) (shown_same p (players n).seat (players n).seat.local leaves) (wire.calls n living).fits

    pub sent : SendsOwnEntry r.last.state.fixed (players n).seat e copied
    sent = subst (SentBy r.last.state.fixed (players n).seat) is (sent_by p r.last.state.fixed (players n).seat (players n).seat.local mine.names.place)

    loan : IsOfLoan e.kind
    loan = subst LoanBy is (loan_by p (players n).seat (players n).seat.local fits.place)

    -- it is a loan of the node's port
    pub sent_home : IsPortOfSeat p (players n).seat e.port
    sent_home = by_copied copied is sent
      where
        by_copied : (c : Bool) → message_at (players n).seat.local ≡ Sent e c → SendsOwnEntry r.last.state.fixed (players n).seat e c → IsPortOfSeat p (players n).seat e.port
        by_copied true at has = (
          subst (λ i. has_number i p.layout.sizes.ports ≡ true) has.0
              (subst (CallIsStored p wire.stands.held wire.stands.contents) at (stored p words players r n wire living leaves).call).0.fits.region.there,
          wire.stands.owners e.port ∙ has.1,
        )
        by_copied false at has = (fits.handles e has).0

    -- and its slot is in use
    pub sent_used : has_number e.slot (slots_used (players n).seat e.port) ≡ true
    sent_used =
        sent_is_used (players n).seat (record { loan = e; copied = copied; to = [] }) (slots_by_message e.port (players n).seat.local ∙ ap (lent_slots e.port) is)
        (λ isnt. let has = subst (SendsOwnEntry r.last.state.fixed (players n).seat e) isnt sent in (has, ((mine.names.entries e has).own (loan_kept e.kind loan)).0))

  pub in_use : IsTidy (players n).seat → (e : Entry) (copied : Bool) → message_at (players n).seat.local ≡ Sent e copied → IsUsed e.port e.slot (players n).seat.desks
  in_use tidy e copied is =
      used_at p (players n).seat (mine e copied is).uses tidy.desks e.port e.slot (sent_home e copied is)
      (used e.slot (slots_used (players n).seat e.port) (sent_used e copied is))

pub what_is_sent_is_in_use : WhatIsSentIsInUse
what_is_sent_is_in_use p words players r n wire living tidy e copied is = in_use p words players r n wire living tidy e copied is

-- ---- what was pushed out is got back

one_slot : (slot k : ℕ) (b : Bool) → how_often slot (if b then k ∷ [] else []) ≤ 1
one_slot slot k true = by_number (k == slot)
  where
    by_number : (b : Bool) → (if b then 1 else 0) + 0 ≤ 1
    by_number true = omega arith
    by_number false = omega arith
one_slot slot k false = omega arith

-- it continues with the ways left
record GoesOnBy (z y : Seat) (d : Delivery) : Type 0 where
  pub desks : y.desks ≡ z.desks
  pub table : y.table ≡ z.table
  pub node : y.node ≡ z.node
  pub message : message_at y.local ≡ Sent d.loan d.copied

goes_on : (z : Seat) (d : Delivery) (left : List Way) (count : ℕ) → GoesOnBy z (courses.delivering z d None left count) d
goes_on z d [] count = record { desks = refl; table = refl; node = refl; message = refl }
goes_on z d (w ∷ left) count = record { desks = refl; table = refl; node = refl; message = refl }

module _ (p : Setting) (words : List ℕ) (players : ℕ → Player) (r : Run) (n : ℕ) (wire : WireStands p words players r) (living : not_living r.last.state n ≡ None)
    (d : Delivery) (w : Way) (left : List Way) (count slot : ℕ) (home : IsPortOfSeat p (players n).seat d.loan.port) where
  -- the loan is in use still
  pub still_used : (part : Pushing) → (players n).seat.local ≡ SendGetsBack d w part left count
      → AllUsesAreCounted p (courses.delivering (desks.at_desk (accessed (players n).seat) d.loan.port (desks.gets_back w slot)) d None left count)
      → AreOfDifferentPorts (players n).seat.desks → IsUsed d.loan.port d.loan.slot (desks.at_desk (players n).seat d.loan.port (desks.gets_back w slot)).desks
  still_used part is uses tidy =
      let z : Seat = desks.at_desk (accessed (players n).seat) d.loan.port (desks.gets_back w slot) in
      let y : Seat = courses.delivering z d None left count in
      let by : GoesOnBy z y d = goes_on z d left count in
      let apart : AreOfDifferentPorts y.desks
      = subst AreOfDifferentPorts (sym by.desks) (different_after (desks.gets_back w slot) (λ k. refl) d.loan.port (players n).seat.desks tidy) in
      let at : message_at (players n).seat.local ≡ Sent d.loan d.copied = ap message_at is in
      let there : has_number d.loan.slot (slots_used y d.loan.port) ≡ true
      = sent_is_used y d (slots_by_message d.loan.port y.local ∙ ap (lent_slots d.loan.port) by.message)
      (λ isnt. let has = subst (SendsOwnEntry r.last.state.fixed (players n).seat d.loan) isnt (sent p words players r n wire living d.loan d.copied at) in (
        ap (λ es. entry_at d.loan.number es) by.table ∙ has,
        (((mine p words players r n wire living d.loan d.copied at).names.entries d.loan has).own (loan_kept d.loan.kind (loan p words players r n wire living d.loan d.copied at))).0,
      )) in
      subst (λ ds. IsUsed d.loan.port d.loan.slot ds) by.desks
      (used_at p y uses apart d.loan.port d.loan.slot (home.0, home.1 ∙ sym by.node) (used d.loan.slot (slots_used y d.loan.port) there))

-- ---- an access

module _ (p : Setting) (words words' : List ℕ) (players : ℕ → Player) (r : Run) (n : ℕ) (wire : WireStands p words players r)
    (living : not_living r.last.state n ≡ None) (busy : is_busy (players n).seat.local ≡ true) (few : (players n).seat.accesses < last_position)
    (made : AccessIsMade (program_access p.layout (program_of p (players n).seat.local)) (word_of words) (word_of words')) (len : length words' ≡ length words)
    (tidy : IsTidy (players n).seat) (ways : HaveFewWays (players n).seat.desks) where
  abbrev seen_at : Seat → ℕ
  seen_at q = seen_by (program_access p.layout (program_of p q.local)) (word_of words)

  -- as the node is shown
  found : ending_at (seats_of p players n).local ≡ None → FindsUsed p (seats_of p players n) (seats_of p players n).local (seen_at (seats_of p players n))
  found going =
      let q = seats_of p players n in
      let stands = wire.stands.nodes n living in
      let made_too = messages.made_too p words words' players r n wire living busy few made len in
      accesses_find_used p wire.stands.held (word_of words) wire.stands.contents (seats_of p players) r.last n wire.stands.shows living
      (owners_may_access p wire.stands.held r.last.state q stands.owns.owns stands.tells).0 (messages.relies p words words' players r n wire living busy few made len going)
      (records p wire.stands.held r.last.state q stands) stands.uses
      (slots_are_found_in_pools p wire.stands.held (word_of words) (word_of words') wire.stands.contents (seats_of p players) r.last n wire.stands.shows living wire.stands.layout
      wire.stands.owners wire.stands.numbers wire.stands.queues stands.names stands.slots stands.owns.owns stands.tells made_too).1

  -- what it delivers is outstanding nowhere on the way
  new_there : ending_at (seats_of p players n).local ≡ None
      → DeliversNew wire.stands.held r.last.state (desk_change p (seats_of p players n).local (seen_at (seats_of p players n)))
  new_there going =
      let q = seats_of p players n in
      let stands = wire.stands.nodes n living in
      delivers_fresh p wire.stands.held (word_of words) wire.stands.contents (seats_of p players) r.last n wire.stands.shows living (seen_at q)
      (owners_may_access p wire.stands.held r.last.state q stands.owns.owns stands.tells).0.knows
      (messages.relies p words words' players r n wire living busy few made len going)

  held_once : (port : ℕ) → AreDistinct (slots_held (seats_of p players n) port)
  held_once port =
      slots_differ p wire.stands.held (word_of words) wire.stands.contents (seats_of p players) r.last n wire.stands.shows living
      (wire.stands.nodes n living).names.entries (wire.stands.nodes n living).numbers port

  module _ (local : Local) (is : (players n).seat.local ≡ local) (plain : LeavesNothing (message_at local)) (going : ending_at local ≡ None) where
    same : seats_of p players n ≡ (players n).seat
    same = shown_same p (players n).seat (players n).seat.local (subst (λ l. LeavesNothing (message_at l)) (sym is) plain)

    here : FindsUsed p (players n).seat local (seen_at (players n).seat)
    here =
        subst (λ l. FindsUsed p (players n).seat l (seen_at (players n).seat)) is
        (subst (λ (q : Seat). FindsUsed p q q.local (seen_at q)) same (found (ap (λ (q : Seat). ending_at q.local) same ∙ ap ending_at is ∙ going)))

    uses : AllUsesAreCounted p (players n).seat
    uses = subst (AllUsesAreCounted p) same (wire.stands.nodes n living).uses

    stood : NodeStands p wire.stands.held r.last.state (players n).seat
    stood = subst (NodeStands p wire.stands.held r.last.state) same (wire.stands.nodes n living)

    new_here : DeliversNew wire.stands.held r.last.state (desk_change p local (seen_at (players n).seat))
    new_here =
        subst (λ l. DeliversNew wire.stands.held r.last.state (desk_change p l (seen_at (players n).seat))) is
        (subst (λ (q : Seat). DeliversNew wire.stands.held r.last.state (desk_change p q.local (seen_at q))) same
        (new_there (ap (λ (q : Seat). ending_at q.local) same ∙ ap ending_at is ∙ going)))

    held_here : (port : ℕ) → AreDistinct (slots_held (players n).seat port)
    held_here port = subst (λ (q : Seat). AreDistinct (slots_held q port)) same (held_once port)

    -- after the access uses are counted, too
    uses_after : AllUsesAreCounted p (advance p (accessed (players n).seat) local (seen_at (players n).seat))
    uses_after =
        subst (λ l. AllUsesAreCounted p (advance p (accessed (players n).seat) l (seen_at (players n).seat))) is
        (subst (λ (q : Seat). AllUsesAreCounted p (advance p (accessed q) q.local (seen_at q))) same
        (accesses_keep_uses p (seats_of p players n) (seen_at (seats_of p players n)) (wire.stands.nodes n living).uses
        (found (ap (λ (q : Seat). ending_at q.local) same ∙ ap ending_at is ∙ going))))

    place : PlaceFits p (players n).seat local
    place = subst (PlaceFits p (players n).seat) is (subst (CallFits p) same (wire.calls n living).fits).place

  by_place : (local : Local) → (players n).seat.local ≡ local → FindsInUse p (players n).seat local (seen_at (players n).seat)
  by_place (LendEmpties o w part left) is =
      let l = LendEmpties o w part left in
      λ slot event. used_at p (players n).seat (uses l is tt refl) tidy.desks o.port slot (place l is tt refl).1.0
      (what_is_out_is_used (players n).seat o.port slot w (here l is tt refl slot event))
  by_place (SendEmpties d w part left) is =
      let l = SendEmpties d w part left in
      λ slot event. used_at p (players n).seat (uses l is tt refl) tidy.desks d.loan.port slot (place l is tt refl).1.1.0
      (what_is_out_is_used (players n).seat d.loan.port slot w (here l is tt refl slot event))
  by_place (SendPushes d last w part left count) is =
      let l = SendPushes d last w part left count in
      let home = (place l is tt refl).1.0 in
      λ slot event.
      let out = here l is tt refl slot event in
      at_desk (MayDeliverAt w slot) d.loan.port (players n).seat.desks tidy.desks (λ k found.
      may_deliver_at p wire.stands.held r.last.state (players n).seat (stood l is tt refl) d.loan.port home (held_here l is tt refl d.loan.port) slot
      (subst (λ i. how_often slot (slots_in_call d.loan.port i) ≤ 1) (sym is) (one_slot slot d.loan.slot (d.copied && (d.loan.port == d.loan.port)))) w out.0 out.2
      (subst (λ e. DeliversNew wire.stands.held r.last.state (delivers_published d.loan.port w e)) event (new_here l is tt refl))
      (subst (λ i. is_some (record_of w (recorded_of (players n).seat i)) ≡ true) (sym out.0) out.1) k found
      (used_here p (players n).seat (uses l is tt refl) tidy.desks d.loan.port slot home (used slot (slots_used (players n).seat d.loan.port) out.2) k found)
      (few_found d.loan.port (players n).seat.desks ways k found))
  by_place (SendGetsBack d w part left count) is =
      let l = SendGetsBack d w part left count in
      let home = (place l is tt refl).1.1.0 in
      λ slot event. (
        used_at p (players n).seat (uses l is tt refl) tidy.desks d.loan.port slot home (what_is_out_is_used (players n).seat d.loan.port slot w (here l is tt refl slot event)),
        still_used p words players r n wire living d w left count slot home part is
            (subst (λ e. AllUsesAreCounted p (findings.send_got_back (accessed (players n).seat) d w left count (push_place p (MessageQueue w) part (seen_at (players n).seat)) e))
            event (uses_after l is tt refl)) tidy.desks,
      )
  by_place local is = tt

pub accesses_find_in_use : AccessesFindInUse
accesses_find_in_use p words words' players r n wire living busy few made len tidy ways =
    by_place p words words' players r n wire living busy few made len tidy ways (players n).seat.local refl

-- ---- what a loan gets back

gets_back : (p : Setting) (x : Seat) (seen : ℕ) → ((w : Way) → p.layout.kind (ReturningQueue w) ≡ Index) → (local : Local) → FindsInUse p x local seen
    → GetsBackUsed x local
gets_back p x seen index (LendEmpties o w (popping.Pops (pop.Takes read slot)) left) finds =
    finds slot (ap (λ k. if is_taken k read seen then HandOut slot else Quiet) (index w))
gets_back p x seen index local finds = tt

pub loans_get_back_in_use : LoansGetBackInUse
loans_get_back_in_use p x seen index finds = gets_back p x seen index x.local finds
