-- After an access what is so of a place is so of the next one: by the cases of the place.
use Rattle.std.specs.Prelude.{not, ◌&&◌, ◌++◌}
use Rattle.std.proofs.Common.{◌≡◌, ℕ, ◌+◌, Bool, true, ◌==◌, List, [], ◌∷◌, Option, Some, None, refl, sym, subst, ◌∙◌, length}
use Rattle.iox_model.specs.declared.way.Way.{Way}
use Rattle.iox_model.specs.Looks.{is_shown}
use Rattle.iox_model.specs.Messages.{names, names_with_hint}
use Rattle.iox_model.specs.Requests.{may_evict}
use Rattle.iox_laws.proofs.WeaveLaws.MapLemmas.{either}
use Rattle.iox_steps.specs.declared.push.Push.TheVariants as push
use Rattle.iox_steps.specs.declared.side.Popping.{Popping}
use Rattle.iox_steps.specs.declared.side.Popping.TheVariants as popping
use Rattle.iox_steps.specs.declared.side.Pushing.{Pushing}
use Rattle.iox_steps.specs.declared.side.Pushing.TheVariants as pushing
use Rattle.iox_steps.specs.declared.side.QueueEvent.{QueueEvent}
use Rattle.iox_steps.specs.declared.side.QueueEvent.TheVariants.{HandOut, Publish, SeesEmpty, SeesFull, SeesRoom, SeesWaiting}
use Rattle.iox_word_map.specs.WordMaps.{MessageQueue, ReturningQueue}
use Rattle.iox_wire_steps.specs.Programs.{site_of}
use Rattle.iox_wire_steps.specs.Delivery.{Delivery}
use Rattle.iox_wire_steps.specs.Ending.TheVariants as endings
use Rattle.iox_wire_steps.specs.Local.{Local}
use Rattle.iox_wire_steps.specs.Local.TheVariants.{Checks, Ends, HintExchanges, Hints, Idle, LendEmpties, LendStores, Reads, ReceiveAsks, ReceiveLoads, ReceiveLooks, ReceivePops, ReceiveReturns, ReleaseCloses, ReleaseExchanges, ReleaseLooks, ReleaseReturns, Seeks, SendAsks, SendEmpties, SendEnds, SendEvicts, SendGetsBack, SendLooks, SendOpens, SendPushes, Writes}
use Rattle.iox_wire_steps.specs.Visit.{Visit}
use Rattle.iox_wire_steps.specs.Seat.{Seat}
use Rattle.iox_wire_steps.specs.Entry.{Entry}
use Rattle.iox_wire_steps.specs.NewLoan.{NewLoan}
use Rattle.iox_wire_steps.specs.Courses as courses
use Rattle.iox_wire_steps.specs.Desks.{at_desk, delivers, gets_back}
use Rattle.iox_wire_steps.specs.Findings as findings
use Rattle.iox_wire_steps.specs.Known.{sending, told_handle}
use Rattle.iox_wire_steps.specs.Locals.{state_told}
use Rattle.iox_wire_steps.specs.NewLoans.{loan_words, received_length}
use Rattle.iox_wire_steps.specs.ReceiveCourses as receives
use Rattle.iox_wire_steps.specs.ReceiveFindings as found
use Rattle.iox_wire_steps.specs.Steps.{accessed, advance, push_finds}
use Rattle.iox_wire_steps.specs.Tables.{Setting, entry_at, words_to_read}
use Rattle.iox_wire_steps.specs.OwnedCalls.{Each}
use Rattle.iox_wire_steps.proofs.CountsKept.{steps_keep_own}
use Rattle.iox_wire_calls.specs.PlaceLaws.{AccessesFit}
use Rattle.iox_wire_calls.specs.Places.{IsEmptyLook, IsEvicting, IsFullLook, IsLearning, IsOfLoan, IsNext, IsPop, PlaceFits, SendFits, TakesFirst, VisitsWay}
use Rattle.iox_wire_calls.proofs.Parts.{PublishesNot, empty_looks_on, evicts_on, full_looks_on, pops_on, pushes_on}
use Rattle.iox_wire_calls.proofs.PlaceCourses.{Fits, asked, checking, closing, delivering, emptying, first_stays, given_back, hinting, judged, lent, loaning, looking, next_stays, opening, seeking, took, visiting}

module _ (p : Setting) (x : Seat) (seen : ℕ) where
  -- ---- loans and writes

  loan_emptied : (o : NewLoan) (w : Way) (left : List Way) (place : Popping) → IsPop place → IsNext p x o → TakesFirst p x o → Fits p (advance p x (LendEmpties o w place left) seen)
  loan_emptied o w left (popping.Pops place) is next first =
      pops_on (λ after event. Fits p (findings.loan_emptied x o w left after event)) going
      (λ after slot. back slot) (λ after. loaning p x o left next first)
      (site_of p.layout (ReturningQueue w)) place seen
    where
      back : (slot : ℕ) → Fits p (courses.placed (at_desk x o.port (gets_back w slot)) (LendEmpties o w findings.first_pop left))
      back slot = (
        tt,
        next_stays p x o.port (gets_back w slot) o (record { port = λ d. refl; told = λ d. refl }) next,
        first_stays p x o.port (gets_back w slot) o (record { port = λ d. refl; told = λ d. refl }) first,
      )

      going : (after : Popping) (event : QueueEvent) → IsPop after → Fits p (findings.loan_emptied x o w left after event)
      going after (HandOut slot) pops = back slot
      going after SeesEmpty pops = loaning p x o left next first
      going after event pops = (pops, next, first)
  loan_emptied o w left part is next first = absurd is

  loan_stored : (o : NewLoan) (slot next : ℕ) → IsNext p x o → Fits p (findings.loan_stored p x o slot next)
  loan_stored o slot next fits =
      either (Fits p) (next + 1 == length (loan_words p o)) (courses.lent p x o slot) (courses.placed x (LendStores o slot (next + 1)))
      (λ is. lent p x o slot fits) (λ is. fits)

  word_written : (e : Entry) (words : List ℕ) (next : ℕ) → IsOfLoan e.kind → Fits p (findings.word_written x e words next)
  word_written e words next loan =
      either (Fits p) (next + 1 == length words) (courses.ended x (endings.Fills e words)) (courses.placed x (Writes e words (next + 1))) (λ is. loan) (λ is. loan)

  -- ---- sends

  send_emptied : (d : Delivery) (w : Way) (left : List Way) (place : Popping) → IsPop place → SendFits p x d → Fits p (advance p x (SendEmpties d w place left) seen)
  send_emptied d w left (popping.Pops place) is to =
      pops_on (λ after event. Fits p (findings.send_emptied p x d w left after event)) going (λ after slot. (tt, to)) (λ after. emptying p x d left to)
      (site_of p.layout (ReturningQueue w)) place seen
    where
      going : (after : Popping) (event : QueueEvent) → IsPop after → Fits p (findings.send_emptied p x d w left after event)
      going after (HandOut slot) pops = (tt, to)
      going after SeesEmpty pops = emptying p x d left to
      going after event pops = (pops, to)
  send_emptied d w left part is to = absurd is

  send_looked : (d : Delivery) (w : Way) (left full : List Way) (place : Pushing) → IsFullLook place → SendFits p x d
      → Fits p (advance p x (SendLooks d w place left full) seen)
  send_looked d w left full (pushing.Looks place) is to =
      full_looks_on (λ after event. Fits p (findings.send_looked p x d w left full after event)) going (λ after. looking p x d left (w ∷ full) to)
      (λ after. looking p x d left full to) (site_of p.layout (MessageQueue w)) place seen
    where
      going : (after : Pushing) (event : QueueEvent) → IsFullLook after → Fits p (findings.send_looked p x d w left full after event)
      going after SeesFull looks = looking p x d left (w ∷ full) to
      going after SeesRoom looks = looking p x d left full to
      going after event looks = (looks, to)
  send_looked d w left full part is to = absurd is

  send_pushed : (d : Delivery) (last : Option Way) (w : Way) (left : List Way) (count : ℕ) (place : Pushing) → SendFits p x d
      → Fits p (advance p x (SendPushes d last w place left count) seen)
  send_pushed d last w left count place to =
      pushes_on (λ after event. Fits p (findings.send_pushed p x d last w left count after event)) going
      (λ slot. delivering p (there slot) d (may_evict (sending p (there slot) d) w) left (count + 1) to) (λ slot read. (tt, to))
      (site_of p.layout (MessageQueue w)) place seen
    where
      there : ℕ → Seat
      there slot = at_desk x d.loan.port (delivers w slot)

      going : (after : Pushing) (event : QueueEvent) → PublishesNot event → Fits p (findings.send_pushed p x d last w left count after event)
      going after (Publish slot) silent = absurd silent
      going after event silent = to

  send_evicted : (d : Delivery) (w : Way) (left : List Way) (count : ℕ) (place : Pushing) → IsEvicting place → SendFits p x d
      → Fits p (advance p x (SendEvicts d w place left count) seen)
  send_evicted d w left count (pushing.Pushes (push.Evicts read)) is to =
      evicts_on (λ after event. Fits p (findings.send_evicted x d w left count after event)) (λ cell. (tt, to)) (λ after. delivering p x d (Some w) left count to)
      (site_of p.layout (MessageQueue w)) read seen
  send_evicted d w left count part is to = absurd is

  send_got_back : (d : Delivery) (w : Way) (left : List Way) (count : ℕ) (place : Pushing) → IsLearning place → SendFits p x d
      → Fits p (advance p x (SendGetsBack d w place left count) seen)
  send_got_back d w left count (pushing.Pushes (push.TakesOld cell)) is to = delivering p (at_desk x d.loan.port (gets_back w seen)) d None left count to
  send_got_back d w left count part is to = absurd is

  -- ---- receives

  module _ (v : Visit) (w : Way) (left : List Way) (waiting : Bool) (each : Each (VisitsWay p x v) (w ∷ left)) where
    receive_looked : (place : Popping) → IsEmptyLook place → Fits p (advance p x (ReceiveLooks v w place left waiting) seen)
    receive_looked (popping.Looks place) is =
        empty_looks_on (λ after event. Fits p (found.receive_looked p x v w left waiting after event)) going (λ after. visiting p x v left waiting each.1)
        (λ after. visiting p x v left true each.1) (site_of p.layout (MessageQueue w)) place seen
      where
        going : (after : Popping) (event : QueueEvent) → IsEmptyLook after → Fits p (found.receive_looked p x v w left waiting after event)
        going after SeesEmpty looks = visiting p x v left waiting each.1
        going after SeesWaiting looks = visiting p x v left true each.1
        going after event looks = (looks, each)
    receive_looked part is = absurd is

    receive_popped : (more : Bool) (place : Popping) → IsPop place → Fits p (advance p x (ReceivePops v w more place left waiting) seen)
    receive_popped more (popping.Pops place) is =
        pops_on (λ after event. Fits p (found.receive_popped p x v w more left waiting after event)) going (λ after slot. each)
        (λ after. visiting p x v left waiting each.1) (site_of p.layout (MessageQueue w)) place seen
      where
        going : (after : Popping) (event : QueueEvent) → IsPop after → Fits p (found.receive_popped p x v w more left waiting after event)
        going after (HandOut slot) pops = each
        going after SeesEmpty pops = visiting p x v left waiting each.1
        going after event pops = (pops, each)
    receive_popped more part is = absurd is

    receive_loaded : (slot : ℕ) (header : List ℕ) → Fits p (found.receive_loaded p x v w slot header left waiting)
    receive_loaded slot header =
        either (Fits p) (length header == received_length v) (receives.took p x v w slot header left waiting)
        (courses.placed x (ReceiveLoads v w slot header left waiting)) (λ is. took p x v w slot header left waiting each) (λ is. each)

    receive_returned : (slot : ℕ) (after : Pushing) (event : QueueEvent) → Fits p (courses.placed x (ReceiveReturns v w slot after left waiting))
        → Fits p (found.receive_returned x v w slot left waiting after event)
    receive_returned slot after (Publish given) fits = (tt, each)
    receive_returned slot after event fits = fits

  -- ---- releases, questions and hints

  release_returned : (e : Entry) (after : Pushing) (event : QueueEvent) → Fits p (courses.placed x (ReleaseReturns e after))
      → Fits p (found.release_returned x e after event)
  release_returned e after (Publish slot) fits = given_back p x e
  release_returned e after event fits = fits

  release_looked : (e : Entry) → Fits p (found.release_looked x e seen)
  release_looked e =
      either (Fits p) (names (state_told seen) e.request) (courses.placed x (ReleaseExchanges e seen)) (courses.ended x (endings.Drops e)) (λ is. tt) (λ is. tt)

  sought : (w : Way) (left : List Way) (place : Popping) → IsEmptyLook place → Fits p (advance p x (Seeks w place left) seen)
  sought w left (popping.Looks place) is =
      empty_looks_on (λ after event. Fits p (found.sought x w left after event)) going (λ after. seeking p x left) (λ after. tt)
      (site_of p.layout (MessageQueue w)) place seen
    where
      going : (after : Popping) (event : QueueEvent) → IsEmptyLook after → Fits p (found.sought x w left after event)
      going after SeesEmpty looks = seeking p x left
      going after SeesWaiting looks = tt
      going after event looks = looks
  sought w left part is = absurd is

  -- ---- each place

  pub next_fits : (local : Local) → (x.local ≡ local) → PlaceFits p x local → Fits p (advance p x local seen)
  next_fits Idle is fits = subst (PlaceFits p x) (sym is) fits
  next_fits (Ends ending) is fits = subst (PlaceFits p x) (sym is) fits
  next_fits (SendEnds d last count) is fits = subst (PlaceFits p x) (sym is) fits
  next_fits (LendEmpties o w place left) is fits = loan_emptied o w left place fits.0 fits.1 fits.2
  next_fits (LendStores o slot next) is fits = loan_stored o slot next fits
  next_fits (Writes e words next) is fits = word_written e words next fits
  next_fits (SendAsks d) is fits = asked p x d (state_told seen) fits.0 fits.1
  next_fits (SendEmpties d w place left) is fits = send_emptied d w left place fits.0 fits.1
  next_fits (SendLooks d w place left full) is fits = send_looked d w left full place fits.0 fits.1
  next_fits (SendOpens d w left full) is fits = opening p x d left full fits.0.1 fits.1
  next_fits (SendPushes d last w place left count) is fits = send_pushed d last w left count place fits
  next_fits (SendEvicts d w place left count) is fits = send_evicted d w left count place fits.0 fits.1
  next_fits (SendGetsBack d w place left count) is fits = send_got_back d w left count place fits.0 fits.1
  next_fits (ReceiveLooks v w place left waiting) is fits = receive_looked v w left waiting fits.1 place fits.0
  next_fits (ReceivePops v w more place left waiting) is fits = receive_popped v w left waiting fits.1 more place fits.0
  next_fits (ReceiveLoads v w slot header left waiting) is fits = receive_loaded v w left waiting fits slot (header ++ seen ∷ [])
  next_fits (ReceiveAsks v w slot header left waiting) is fits = judged p x v w slot header left waiting fits.2 (state_told seen) fits.0 fits.1
  next_fits (ReceiveReturns v w slot place left waiting) is fits = receive_returned v w left waiting fits.1 slot _ (push_finds p (ReturningQueue w) place seen) fits
  next_fits (Reads e words) is fits =
      either (Fits p) (length (words ++ seen ∷ []) == words_to_read p e) (courses.ended x (endings.Words (words ++ seen ∷ [])))
      (courses.placed x (Reads e (words ++ seen ∷ []))) (λ done. tt) (λ more. tt)
  next_fits (ReleaseCloses e w left) is fits = closing p x e left
  next_fits (ReleaseReturns e place) is fits = release_returned e _ _ fits
  next_fits (ReleaseLooks e) is fits = release_looked e
  next_fits (ReleaseExchanges e old) is fits =
      either (Fits p) (seen == old) (courses.ended x (endings.Drops e)) (found.release_looked x e seen) (λ same. tt) (λ other. release_looked e)
  next_fits (Checks e hinted w left) is fits =
      either (Fits p) (is_shown (told_handle p x.node e) hinted (state_told seen)) (courses.ended x (endings.Answers true)) (receives.checking x e hinted left)
      (λ is. tt) (λ is. checking p x e hinted left)
  next_fits (Hints e w left) is fits =
      either (Fits p) (names (state_told seen) e.request && not (names_with_hint (state_told seen) e.request)) (courses.placed x (HintExchanges e w left))
      (receives.hinting x e left) (λ is. tt) (λ is. hinting p x e left)
  next_fits (HintExchanges e w left) is fits = hinting p x e left
  next_fits (Seeks w place left) is fits = sought w left place fits

pub accesses_fit : AccessesFit
accesses_fit p x seen fits = record {
  handles = λ e there.
      let kept = steps_keep_own p x seen in
      let of = fits.handles e (subst (λ (es : List Entry). entry_at e.number es ≡ Some e) kept.table there) in
      ((of.0.0, of.0.1 ∙ sym kept.node), of.1);
  place = next_fits p (accessed x) seen x.local refl fits.place;
}
