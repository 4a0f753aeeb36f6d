-- Place by place, and in a queue event by event.
use Rattle.std.specs.Prelude.{not, ◌&&◌, ◌++◌}
use Rattle.std.proofs.Common.{◌≡◌, ℕ, Bool, true, false, if◌then◌else◌, ◌==◌, ◌+◌, List, [], ◌∷◌, length, Option, Some, None, refl, sym, subst, ◌∙◌}
use Rattle.iox_model.specs.declared.way.Way.{Way}
use Rattle.iox_model.specs.declared.way.RequestState.TheVariants.{Named}
use Rattle.iox_model.specs.declared.reply.Refusal.TheVariants.{OutOfMemory}
use Rattle.iox_model.specs.Doings.{refused, Doing, Ended, Loans, Drops, Loaning, Asking, Emptying, Looking, Opening, Delivering, Evicted, Again, Stale, Closing, Returning, Leaving, Checking, Hinting, Seeking}
use Rattle.iox_model.specs.Doings as doings
use Rattle.iox_model.specs.Looks as looks
use Rattle.iox_model.specs.Looks.{is_shown}
use Rattle.iox_model.specs.Begins.{written}
use Rattle.iox_model.specs.declared.reply.Reply.TheVariants.{Answer}
use Rattle.iox_model.specs.Maps.{is_empty, without_way, or_else}
use Rattle.iox_model.specs.Messages.{names, names_with_hint}
use Rattle.iox_model.specs.Moments.{Moment, Close, Hint}
use Rattle.iox_model.specs.Outstandings.{kept, is_dry}
use Rattle.iox_model.specs.Peers.{node_of_port}
use Rattle.iox_model.specs.Receives as receives
use Rattle.iox_model.specs.Responses as responses
use Rattle.iox_model.specs.States.{State}
use Rattle.iox_steps.specs.declared.site.Site.{Site}
use Rattle.iox_steps.specs.declared.push.Push.TheVariants as push
use Rattle.iox_steps.specs.declared.side.Pushing.{Pushing}
use Rattle.iox_steps.specs.declared.side.Pushing.TheVariants as pushing
use Rattle.iox_steps.specs.declared.side.Popping.{Popping}
use Rattle.iox_steps.specs.declared.side.Popping.TheVariants as popping
use Rattle.iox_steps.specs.declared.side.QueueEvent.{QueueEvent}
use Rattle.iox_steps.specs.declared.side.QueueEvent.TheVariants.{Quiet, Publish, HandOut, Evict, SeesEmpty, SeesWaiting, SeesFull, SeesRoom, SeesEnd}
use Rattle.iox_steps.specs.Pushes.{push_event, full_look_event}
use Rattle.iox_steps.specs.Pops.{pop_event, empty_look_event}
use Rattle.iox_steps.specs.Sides.{pushing_after, popping_after}
use Rattle.iox_steps.specs.Sites.{last_position, is_full}
use Rattle.iox_wire_moments.specs.WordMaps.{MessageQueue, ReturningQueue}
use Rattle.iox_wire_moments.specs.Programs.{site_of}
use Rattle.iox_wire_moments.specs.MomentsOf.{Pools, push_moment, full_look_moment, pop_moment, empty_look_moment, give_back_moment, get_back_moment}
use Rattle.iox_wire_moments.proofs.WeaveLaws.MapLemmas.{same_way-refl}
use Rattle.iox_wire_locals.specs.declared.table.Entry.{Entry}
use Rattle.iox_wire_locals.specs.declared.table.NewLoan.{NewLoan}
use Rattle.iox_wire_locals.specs.declared.local.Delivery.{Delivery}
use Rattle.iox_wire_locals.specs.declared.local.Visit.{Visit}
use Rattle.iox_wire_locals.specs.declared.local.Ending.TheVariants as endings
use Rattle.iox_wire_locals.specs.declared.local.Local.TheVariants.{Idle, Ends, LendEmpties, LendStores, Writes, SendAsks, SendEmpties, SendLooks, SendOpens, SendPushes, SendEvicts, SendGetsBack, SendEnds, ReceiveLooks, ReceivePops, ReceiveLoads, ReceiveAsks, ReceiveReturns, Reads, ReleaseCloses, ReleaseReturns, ReleaseLooks, ReleaseExchanges, Checks, Hints, HintExchanges, Seeks}
use Rattle.iox_wire_locals.specs.declared.seat.Seat.{Seat}
use Rattle.iox_wire_locals.specs.Tables.{Setting, handle_of, way_in, state_in, words_to_read}
use Rattle.iox_wire_locals.specs.NewLoans.{entry_in, loan_in, loan_words, received_length, request_in}
use Rattle.iox_wire_locals.specs.Desks.{at_desk, delivers, gets_back}
use Rattle.iox_wire_locals.specs.Known.{free_slots, sending, told_handle}
use Rattle.iox_wire_locals.specs.Locals.{state_word, state_told}
use Rattle.iox_wire_locals.specs.Doings.{receiver_in, send_of, visits, all_words}
use Rattle.iox_wire_locals.specs.Courses as courses
use Rattle.iox_wire_locals.specs.ReceiveCourses as courses_back
use Rattle.iox_wire_locals.specs.Findings as findings
use Rattle.iox_wire_locals.specs.ReceiveFindings as findings_back
use Rattle.iox_wire_locals.specs.Knowing.{Knows, StandsFor}
use Rattle.iox_wire_locals.specs.StateMoments.{looked}
use Rattle.iox_wire_locals.specs.StepLaws.{StandsAfter, StepsGoOn}
use Rattle.iox_wire_locals.proofs.CourseProofs as course

-- the way that is visited is the first of those left
first_out : (w : Way) (left : List Way) → without_way w (w ∷ left) ≡ left
first_out w left = rw (same_way-refl w) refl

module _ (p : Setting) (x : Seat) (s : State) (held : Pools) (k : Knows p x s.fixed held) where
  abbrev Stands : Seat → Doing → Type 0
  Stands y d = StandsFor p s.fixed held x.node y d

  abbrev Goes : Doing → Option Moment → Seat → Type 0
  Goes d m y = StandsAfter p s held x.node d m y

  -- ---- loans

  takes : (o : NewLoan) (slots : List ℕ)
      → Stands (courses.takes_slot x o slots) (if is_empty slots then refused OutOfMemory
      else (if o.copies then responses.sends s.fixed (loan_in p o) true else Ended (Loans (loan_in p o))))
  takes o [] = refl
  takes o (slot ∷ free) = refl

  pub loaning : (o : NewLoan) → is_dry s.fixed o.port (kept s o.port []) ≡ is_empty (free_slots x o.port)
      → (left : List Way) → Stands (courses.loaning x o left) (responses.loaning s o.copies (loan_in p o) left)
  loaning o pool [] = rw pool (takes o (free_slots x o.port))
  loaning o pool (w ∷ left) = refl

  loan_emptied : (o : NewLoan) → is_dry s.fixed o.port (kept s o.port []) ≡ is_empty (free_slots x o.port)
      → (w : Way) (left : List Way) (place : Popping) (event : QueueEvent)
      → Goes (Loaning o.copies (loan_in p o) (w ∷ left)) (or_else (get_back_moment held w event) None)
      (findings.loan_emptied x o w left place event)
  loan_emptied o pool w left place (HandOut slot) = refl
  loan_emptied o pool w left place SeesEmpty = rw (first_out w left) (loaning o pool left)
  loan_emptied o pool w left place event = refl

  -- ---- sends

  module _ (d : Delivery) (w : Way) (left : List Way) where
    send_emptied : (place : Popping) (event : QueueEvent)
        → Goes (Emptying (send_of s.fixed held x.node d) (w ∷ left)) (or_else (get_back_moment held w event) None)
        (findings.send_emptied p x d w left place event)
    send_emptied place (HandOut slot) = refl
    send_emptied place SeesEmpty = rw (first_out w left) (course.emptying p x s.fixed held k d left)
    send_emptied place event = refl

    send_looked : (full : List Way) (place : Pushing) (event : QueueEvent)
        → Goes (Looking (send_of s.fixed held x.node d) (w ∷ left) full) (or_else (full_look_moment w event) None)
        (findings.send_looked p x d w left full place event)
    send_looked full place SeesFull = rw (first_out w left) (course.looking p x s.fixed held k d left (w ∷ full))
    send_looked full place SeesRoom = rw (first_out w left) (course.looking p x s.fixed held k d left full)
    send_looked full place event = refl

    module _ (last : Option Way) (count slot : ℕ) where
      -- where nothing is to be pushed out, or where something may be
      delivered : Goes (Delivering (send_of s.fixed held x.node d) last (w ∷ left) count)
          (or_else (push_moment held w (Publish slot)) None)
          (findings.send_pushed p x d last w left count pushing.AtRest (Publish slot))
      delivered =
          rw (first_out w left)
          (subst (λ b. Stands (findings.send_pushed p x d last w left count pushing.AtRest (Publish slot))
          (Delivering (send_of s.fixed held x.node d) (if b then Some w else None) left (count + 1)))
          (sym (course.overflow_same p x s.fixed held k d))
          (course.delivering p (at_desk x d.loan.port (delivers w slot)) s.fixed held d
          (if (sending p x d).overflow then Some w else None) left (count + 1)))

      overfull : (read : ℕ) → (sending p x d).overflow ≡ true
          → Goes (Delivering (send_of s.fixed held x.node d) last (w ∷ left) count)
          (or_else (push_moment held w (Publish slot)) None)
          (findings.send_pushed p x d last w left count (pushing.Pushes (push.Evicts read)) (Publish slot))
      overfull read more =
          rw (first_out w left)
          (subst (λ b. Stands (findings.send_pushed p x d last w left count (pushing.Pushes (push.Evicts read)) (Publish slot))
          (Delivering (send_of s.fixed held x.node d) (if b then Some w else None) left (count + 1)))
          (sym (course.overflow_same p x s.fixed held k d ∙ more)) refl)

    -- a look at both positions on the way
    not_yet : (last : Option Way) (count : ℕ) (place : Pushing) (end full : Bool)
        → Goes (Delivering (send_of s.fixed held x.node d) last (w ∷ left) count)
        (or_else (push_moment held w (if end then SeesEnd else (if full then SeesFull else SeesRoom))) None)
        (findings.send_pushed p x d last w left count place (if end then SeesEnd else (if full then SeesFull else SeesRoom)))
    not_yet last count place true full = refl
    not_yet last count place false true = refl
    not_yet last count place false false = refl

    evicted : (count : ℕ) (place : Pushing) (first : Bool)
        → Goes (Delivering (send_of s.fixed held x.node d) (Some w) left count)
        (or_else (push_moment held w (if first then Evict else Quiet)) None)
        (findings.send_evicted x d w left count place (if first then Evict else Quiet))
    evicted count place true = refl
    evicted count place false = course.delivering p x s.fixed held d (Some w) left count

  -- ---- receives

  module _ (v : Visit) (w : Way) (left : List Way) (waiting : Bool) where
    receive_looked : (place : Popping) (event : QueueEvent)
        → Goes (doings.Visiting (receiver_in v) (w ∷ left) waiting) (or_else (empty_look_moment w event) None)
        (findings_back.receive_looked p x v w left waiting place event)
    receive_looked place SeesEmpty = rw (first_out w left) (course.visiting p x s.fixed held v left waiting)
    receive_looked place SeesWaiting = rw (first_out w left) (course.visiting p x s.fixed held v left true)
    receive_looked place event = refl

    receive_popped : (more : Bool) (place : Popping) (event : QueueEvent)
        → Goes (visits more (receiver_in v) w (w ∷ left) waiting) (or_else (pop_moment held w event) None)
        (findings_back.receive_popped p x v w more left waiting place event)
    receive_popped true place (HandOut slot) = refl
    receive_popped false place (HandOut slot) = refl
    receive_popped true place SeesEmpty = rw (first_out w left) (course.visiting p x s.fixed held v left waiting)
    receive_popped false place SeesEmpty = rw (first_out w left) (course.visiting p x s.fixed held v left waiting)
    receive_popped more place event = refl

    receive_loaded : (slot : ℕ) (header : List ℕ) (b : Bool)
        → (b ≡ true → request_in v header ≡ (held w.sender slot).request)
        → Stands (if b then courses_back.took p x v w slot header left waiting else courses.placed x (ReceiveLoads v w slot header left waiting))
        (receives.took s.fixed x.node (receiver_in v) w (held w.sender slot) (w ∷ left) waiting)
    receive_loaded slot header true is = course.took p x s.fixed held k v w left waiting slot header (is refl)
    receive_loaded slot header false is = refl

    receive_returned : (slot : ℕ) (place : Pushing) (event : QueueEvent)
        → Goes (Stale (receiver_in v) w (held w.sender slot) (w ∷ left) waiting) (or_else (give_back_moment held w event) None)
        (findings_back.receive_returned x v w slot left waiting place event)
    receive_returned slot place (Publish given) = refl
    receive_returned slot place event = refl

  sought : (w : Way) (left : List Way) (place : Popping) (event : QueueEvent)
      → Goes (Seeking (w ∷ left)) (or_else (empty_look_moment w event) None) (findings_back.sought x w left place event)
  sought w left place SeesEmpty = rw (first_out w left) (course.seeking p x s.fixed held left)
  sought w left place SeesWaiting = refl
  sought w left place event = refl

  -- ---- reads, releases, questions and hints

  module _ (e : Entry) where
    word_read : (words : List ℕ) (b : Bool)
        → (b ≡ true → words ≡ (held e.sender e.slot).user ++ (held e.sender e.slot).payload)
        → Stands (if b then courses.ended x (endings.Words words) else courses.placed x (Reads e words))
        (all_words (held e.sender e.slot))
    word_read words true is = rw (is refl) refl
    word_read words false is = refl

    word_written : (words : List ℕ) (next : ℕ) (b : Bool)
        → Stands (if b then courses.ended x (endings.Fills e words) else courses.placed x (Writes e words (next + 1)))
        (Ended (doings.Fills (written (handle_of held x.node e) words)))
    word_written words next true = refl
    word_written words next false = refl

    release_returned : (place : Pushing) (event : QueueEvent) (w : Way)
        → Goes (Returning (handle_of held x.node e)) (or_else (give_back_moment held w event) None)
        (findings_back.release_returned x e place event)
    release_returned place (Publish given) w = course.given_back p x s.fixed held e
    release_returned place event w = refl

    release_looked : (seen : ℕ) (named : Bool)
        → Goes (Leaving (handle_of held x.node e))
        (or_else None (if named then looked (state_in e) seen else Some (Close (state_in e) e.request)))
        (if named then courses.placed x (ReleaseExchanges e seen) else courses.ended x (endings.Drops e))
    release_looked seen true = refl
    release_looked seen false = refl

    release_exchanged : (old seen : ℕ) (same named : Bool)
        → Goes (Leaving (handle_of held x.node e))
        (or_else None (if same then Some (Close (state_in e) e.request)
        else (if named then looked (state_in e) seen else Some (Close (state_in e) e.request))))
        (if same then courses.ended x (endings.Drops e)
        else (if named then courses.placed x (ReleaseExchanges e seen) else courses.ended x (endings.Drops e)))
    release_exchanged old seen true named = refl
    release_exchanged old seen false true = refl
    release_exchanged old seen false false = refl

    module _ (w : Way) (left : List Way) where
      checked : (hinted : Bool) (seen : ℕ) (b : Bool)
          → Stands (if b then courses.ended x (endings.Answers true) else courses_back.checking x e hinted left)
          (if b then Ended (doings.Tells (Answer true)) else looks.checking (handle_of held x.node e) hinted (without_way w (w ∷ left)))
      checked hinted seen true = refl
      checked hinted seen false = rw (first_out w left) (course.checking p x s.fixed held e hinted left)

      hint_looked : (seen : ℕ) (b : Bool)
          → Goes (Hinting (handle_of held x.node e) (w ∷ left)) (or_else None (if b then None else looked w seen))
          (if b then courses.placed x (HintExchanges e w left) else courses_back.hinting x e left)
      hint_looked seen true = refl
      hint_looked seen false = rw (first_out w left) (course.hinting p x s.fixed held e left)

      hint_exchanged : (seen : ℕ) (b : Bool)
          → Goes (Hinting (handle_of held x.node e) (w ∷ left)) (or_else None (if b then Some (Hint w e.request) else looked w seen))
          (courses_back.hinting x e left)
      hint_exchanged seen true = rw (first_out w left) (course.hinting p x s.fixed held e left)
      hint_exchanged seen false = rw (first_out w left) (course.hinting p x s.fixed held e left)

  lend_stored : (o : NewLoan) (slot next : ℕ) (b : Bool) → node_of_port s.fixed o.port ≡ x.node
      → handle_of held x.node (entry_in o slot) ≡ loan_in p o
      → Stands (if b then courses.lent p x o slot else courses.placed x (LendStores o slot (next + 1)))
      (if o.copies then responses.sends s.fixed (loan_in p o) true else Ended (Loans (loan_in p o)))
  lend_stored o slot next true mine is = course.lent p x s.fixed held k o slot mine is
  lend_stored o slot next false mine is = refl

pub steps_go_on : StepsGoOn
steps_go_on p x s held Idle seen k r = absurd r
steps_go_on p x s held (Ends ending) seen k r = absurd r
steps_go_on p x s held (SendEnds d last count) seen k r = absurd r
steps_go_on p x s held (LendEmpties o w (popping.Pops place) left) seen k r =
    let site : Site = site_of p.layout (ReturningQueue w) in
    loan_emptied p x s held k o r w left (popping_after site (popping.Pops place) seen) (pop_event site place seen)
steps_go_on p x s held (LendEmpties o w place left) seen k r = absurd r
steps_go_on p x s held (LendStores o slot next) seen k r =
    lend_stored p x s held k o slot next (next + 1 == length (loan_words p o)) r.0 r.1
steps_go_on p x s held (Writes e words next) seen k r = word_written p x s held k e words next (next + 1 == length words)
steps_go_on p x s held (SendAsks d) seen k r = course.asked p x s.fixed held k d (state_told seen)
steps_go_on p x s held (SendEmpties d w (popping.Pops place) left) seen k r =
    let site : Site = site_of p.layout (ReturningQueue w) in
    send_emptied p x s held k d w left (popping_after site (popping.Pops place) seen) (pop_event site place seen)
steps_go_on p x s held (SendEmpties d w place left) seen k r = absurd r
steps_go_on p x s held (SendLooks d w (pushing.Looks place) left full) seen k r =
    let site : Site = site_of p.layout (MessageQueue w) in
    send_looked p x s held k d w left full (pushing_after site (pushing.Looks place) seen) (full_look_event site place seen)
steps_go_on p x s held (SendLooks d w place left full) seen k r = absurd r
steps_go_on p x s held (SendOpens d w left full) seen k r = rw (first_out w left) (course.opening p x s.fixed held d left full)
steps_go_on p x s held (SendPushes d last w (pushing.Pushes (push.LoadsWrite value)) left count) seen k r = refl
steps_go_on p x s held (SendPushes d last w (pushing.Pushes (push.LoadsRead value write)) left count) seen k r =
    let site : Site = site_of p.layout (MessageQueue w) in
    not_yet p x s held k d w left last count (pushing_after site (pushing.Pushes (push.LoadsRead value write)) seen)
    (write == last_position) (is_full site seen write)
steps_go_on p x s held (SendPushes d last w (pushing.Pushes (push.StoresCell value cell end full)) left count) seen k r = refl
steps_go_on p x s held (SendPushes d last w (pushing.Pushes (push.StoresWrite value end None)) left count) seen k r =
    delivered p x s held k d w left last count value
steps_go_on p x s held (SendPushes d last w (pushing.Pushes (push.StoresWrite value end (Some read))) left count) seen k r =
    overfull p x s held k d w left last count value read r
steps_go_on p x s held (SendPushes d last w place left count) seen k r = absurd r
steps_go_on p x s held (SendEvicts d w (pushing.Pushes (push.Evicts read)) left count) seen k r =
    evicted p x s held k d w left count (pushing_after (site_of p.layout (MessageQueue w)) (pushing.Pushes (push.Evicts read)) seen) (seen == read)
steps_go_on p x s held (SendEvicts d w place left count) seen k r = absurd r
steps_go_on p x s held (SendGetsBack d w (pushing.Pushes (push.TakesOld cell)) left count) seen k r =
    course.delivering p (at_desk x d.loan.port (gets_back w seen)) s.fixed held d None left count
steps_go_on p x s held (SendGetsBack d w place left count) seen k r = absurd r
steps_go_on p x s held (ReceiveLooks v w (popping.Looks place) left waiting) seen k r =
    let site : Site = site_of p.layout (MessageQueue w) in
    receive_looked p x s held k v w left waiting (popping_after site (popping.Looks place) seen) (empty_look_event site place seen)
steps_go_on p x s held (ReceiveLooks v w place left waiting) seen k r = absurd r
steps_go_on p x s held (ReceivePops v w more (popping.Pops place) left waiting) seen k r =
    let site : Site = site_of p.layout (MessageQueue w) in
    receive_popped p x s held k v w left waiting more (popping_after site (popping.Pops place) seen) (pop_event site place seen)
steps_go_on p x s held (ReceivePops v w more place left waiting) seen k r = absurd r
steps_go_on p x s held (ReceiveLoads v w slot header left waiting) seen k r =
    receive_loaded p x s held k v w left waiting slot (header ++ seen ∷ []) (length (header ++ seen ∷ []) == received_length v) r
steps_go_on p x s held (ReceiveAsks v w slot header left waiting) seen k r =
    course.judged p x s.fixed held k v w left waiting slot header r (state_told seen)
steps_go_on p x s held (ReceiveReturns v w slot (pushing.Pushes place) left waiting) seen k r =
    let site : Site = site_of p.layout (ReturningQueue w) in
    receive_returned p x s held k v w left waiting slot (pushing_after site (pushing.Pushes place) seen) (push_event site place seen)
steps_go_on p x s held (ReceiveReturns v w slot place left waiting) seen k r = absurd r
steps_go_on p x s held (Reads e words) seen k r =
    word_read p x s held k e (words ++ seen ∷ []) (length (words ++ seen ∷ []) == words_to_read p e) r
steps_go_on p x s held (ReleaseCloses e w left) seen k r = rw (first_out w left) (course.closing p x s.fixed held e left)
steps_go_on p x s held (ReleaseReturns e (pushing.Pushes place)) seen k r =
    let site : Site = site_of p.layout (ReturningQueue (way_in e)) in
    release_returned p x s held k e (pushing_after site (pushing.Pushes place) seen) (push_event site place seen) (way_in e)
steps_go_on p x s held (ReleaseReturns e place) seen k r = absurd r
steps_go_on p x s held (ReleaseLooks e) seen k r = release_looked p x s held k e seen (names (state_told seen) e.request)
steps_go_on p x s held (ReleaseExchanges e old) seen k r =
    release_exchanged p x s held k e old seen (seen == old) (names (state_told seen) e.request)
steps_go_on p x s held (Checks e hinted w left) seen k r =
    checked p x s held k e w left hinted seen (is_shown (told_handle p x.node e) hinted (state_told seen))
steps_go_on p x s held (Hints e w left) seen k r =
    hint_looked p x s held k e w left seen (names (state_told seen) e.request && not (names_with_hint (state_told seen) e.request))
steps_go_on p x s held (HintExchanges e w left) seen k r =
    hint_exchanged p x s held k e w left seen (seen == state_word (Named e.request false))
steps_go_on p x s held (Seeks w (popping.Looks place) left) seen k r =
    let site : Site = site_of p.layout (MessageQueue w) in
    sought p x s held k w left (popping_after site (popping.Looks place) seen) (empty_look_event site place seen)
steps_go_on p x s held (Seeks w place left) seen k r = absurd r
