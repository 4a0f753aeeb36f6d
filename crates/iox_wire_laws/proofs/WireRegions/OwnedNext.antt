-- Place by place: a call that owns its place owns the next one.
use Rattle.std.specs.Prelude.{◌++◌}
use Rattle.std.proofs.Common.{◌≡◌, ℕ, true, false, ◌==◌, ◌+◌, ◌<◌, List, [], ◌∷◌, length, Option, Some, None, refl, sym, subst, arith}
use Rattle.iox_model.specs.declared.kind.Role.{Role}
use Rattle.iox_model.specs.declared.kind.Role.TheVariants.{Client, Server}
use Rattle.iox_model.specs.declared.way.RequestState.{RequestState}
use Rattle.iox_model.specs.declared.way.Way.{Way}
use Rattle.iox_model.specs.Maps.{has_number}
use Rattle.iox_model.specs.Messages.{Message}
use Rattle.iox_model.specs.Moments.{Moment}
use Rattle.iox_model.specs.States.{Fixed, State}
use Rattle.iox_laws.proofs.WeaveLaws.MapLemmas.{either, eqb-refl}
use Rattle.iox_laws.proofs.WeaveLaws.WholeLemmas.{moved-fixed}
use Rattle.iox_steps.specs.Accesses.{seen_by}
use Rattle.iox_steps.specs.declared.side.Popping.{Popping}
use Rattle.iox_steps.specs.declared.side.Popping.TheVariants as popping
use Rattle.iox_steps.specs.declared.side.QueueEvent.{QueueEvent}
use Rattle.iox_steps.specs.declared.side.QueueEvent.TheVariants.{HandOut, SeesEmpty}
use Rattle.iox_wire_words.specs.Programs.{program_access}
use Rattle.iox_wire_moments.specs.MomentsOf.{Pools}
use Rattle.iox_wire_locals.specs.declared.local.Ending.TheVariants as endings
use Rattle.iox_wire_locals.specs.declared.local.Local.{Local}
use Rattle.iox_wire_locals.specs.declared.local.Local.TheVariants.{LendEmpties, LendStores, Writes, Reads}
use Rattle.iox_wire_locals.specs.declared.seat.Seat.{Seat}
use Rattle.iox_wire_locals.specs.declared.table.Entry.{Entry}
use Rattle.iox_wire_locals.specs.declared.table.NewLoan.{NewLoan}
use Rattle.iox_wire_locals.specs.Courses as courses
use Rattle.iox_wire_locals.specs.Findings as findings
use Rattle.iox_wire_locals.specs.ReceiveFindings as receive_findings
use Rattle.iox_wire_locals.specs.Known.{free_slots}
use Rattle.iox_wire_locals.specs.Knowing.{Knows}
use Rattle.iox_wire_locals.specs.Locals.{program_of}
use Rattle.iox_wire_locals.specs.NewLoans.{entry_in, loan_words}
use Rattle.iox_wire_locals.specs.StateMoments.{moment_at}
use Rattle.iox_wire_locals.specs.StepLaws.{ReliesOn}
use Rattle.iox_wire_locals.specs.Steps.{advance, accessed}
use Rattle.iox_wire_locals.specs.Stored.{message_words}
use Rattle.iox_wire_locals.specs.Tables.{Setting, words_to_read}
use Rattle.iox_wire_laws.proofs.WireKeeping.CountsKept.{steps_keep_own}
use Rattle.iox_wire_laws.specs.WireShows.OwnedCalls.{Each, LimitsAreKnown, OwnsCall, WordsTell, state_after}
use Rattle.iox_wire_laws.proofs.WireShows.OwnedSteps.{steps_own_the_next_place}
use Rattle.iox_wire_laws.proofs.WireShows.OwnedWays.{longer}
use Rattle.iox_wire_laws.proofs.WireShows.StepsShow.{steps_show_the_world}
use Rattle.iox_wire_laws.specs.WireRegions.OwnedWords.{FreeSlotsAreThePools, HasLane, LendsOn, Owns, OwnsLoan}
use Rattle.iox_wire_laws.specs.WireRegions.OwnedWordLaws.{LoanHasLane, OwnersGoOn, OwnersStayOwners, TakesLane}
use Rattle.iox_wire_laws.proofs.WireRegions.OwnedPlaces.{owners_may_access}
use Rattle.iox_wire_laws.proofs.WireRegions.SendCourses as sent

-- what is owned without words of messages, is owned
pub raised : (p : Setting) (n : ℕ) (f : Fixed) (shown : Way → RequestState) (local : Local) → OwnsCall p n f shown local → Owns p n f shown local
raised p n f shown (LendEmpties o w place left) owns = absurd owns
raised p n f shown (LendStores o slot next) owns = absurd owns
raised p n f shown (Writes e words next) owns = absurd owns
raised p n f shown (Reads e words) owns = absurd owns
raised p n f shown local owns = owns

-- each message has words
worded : (r : Role) (m : Message) → 0 < length (message_words r m)
worded Client m = omega arith
worded Server m = omega arith

-- the next index is below, unless it was the last one
next_low : (k n : ℕ) → k < n → (k + 1 == n) ≡ false → k + 1 < n
next_low k n low is = grind (arith)

module _ (p : Setting) (z : Seat) (f : Fixed) (shown : Way → RequestState) (held : Pools) (knows : Knows p z f held) (free : FreeSlotsAreThePools p z) where
  abbrev n : ℕ
  n = z.node

  abbrev K : Seat → Type 0
  K y = Owns p n f shown y.local

  -- ---- loans

  picked : (o : NewLoan) → OwnsLoan p n f o → (slots : List ℕ) → ((slot : ℕ) → has_number slot slots ≡ true → slot < (p.port o.port).pool)
      → LoanHasLane p (courses.takes_slot z o slots).local → K (courses.takes_slot z o slots)
  picked o owns [] few lane = tt
  picked o owns (slot ∷ slots) few lane = (owns, few slot (rw (eqb-refl slot) refl), worded (p.port o.port).role _, lane)

  pub loaning : (o : NewLoan) (left : List Way) → OwnsLoan p n f o → Each (LendsOn p n f o) left → LoanHasLane p (courses.loaning z o left).local
      → K (courses.loaning z o left)
  loaning o [] owns each lane = picked o owns (free_slots z o.port) (free o.port) lane
  loaning o (w ∷ left) owns each lane = (owns, each)

  emptied : (o : NewLoan) (w : Way) (left : List Way) (place : Popping) (event : QueueEvent) → OwnsLoan p n f o → Each (LendsOn p n f o) (w ∷ left)
      → LoanHasLane p (findings.loan_emptied z o w left place event).local → K (findings.loan_emptied z o w left place event)
  emptied o w left place (HandOut slot) owns each lane = (owns, each)
  emptied o w left place SeesEmpty owns each lane = loaning o left owns each.1 lane
  emptied o w left place event owns each lane = (owns, each)

  lent : (o : NewLoan) (slot : ℕ) → OwnsLoan p n f o → HasLane p o → K (courses.lent p z o slot)
  lent o slot owns lane =
      either K o.copies (courses.sends p z (entry_in o slot) true) (courses.ended z (endings.Lends o slot))
      (λ is. raised p n f shown (courses.sends p z (entry_in o slot) true).local (sent.copies p z f shown held (entry_in o slot) knows (owns.copy is lane slot)))
      (λ is. tt)

  stored : (o : NewLoan) (slot next : ℕ) → Owns p n f shown (LendStores o slot next) → K (findings.loan_stored p z o slot next)
  stored o slot next owns =
      either K (next + 1 == length (loan_words p o)) (courses.lent p z o slot) (courses.placed z (LendStores o slot (next + 1)))
      (λ is. lent o slot owns.0 owns.3) (λ is. (owns.0, owns.1, next_low next (length (loan_words p o)) owns.2 is, owns.3))

  -- ---- words

  written : (e : Entry) (words : List ℕ) (next : ℕ) → Owns p n f shown (Writes e words next) → K (findings.word_written z e words next)
  written e words next owns =
      either K (next + 1 == length words) (courses.ended z (endings.Fills e words)) (courses.placed z (Writes e words (next + 1)))
      (λ is. tt) (λ is. (owns.0, owns.1, owns.2, next_low next (length words) owns.3 is))

  read : (e : Entry) (words : List ℕ) (seen : ℕ) → Owns p n f shown (Reads e words) → K (receive_findings.word_read p z e (words ++ seen ∷ []))
  read e words seen owns =
      either K (length (words ++ seen ∷ []) == words_to_read p e) (courses.ended z (endings.Words (words ++ seen ∷ [])))
      (courses.placed z (Reads e (words ++ seen ∷ []))) (λ is. tt) (λ is. (owns.0, longer words seen (words_to_read p e) owns.1 is))

-- ---- the laws

after_fixed : (s : State) (o : Option Moment) → (state_after s o).fixed ≡ s.fixed
after_fixed s None = refl
after_fixed s (Some m) = moved-fixed s m

module _ (p : Setting) (held : Pools) (s : State) (x : Seat) (seen : ℕ) (knows : Knows p x s.fixed held) (free : FreeSlotsAreThePools p x)
    (limits : LimitsAreKnown p x s.fixed) where
  abbrev z : Seat
  z = accessed x

  knows_still : Knows p (accessed x) s.fixed held
  knows_still = record {
    limits = knows.limits;
    ports = knows.ports;
    unhandled = knows.unhandled;
    handles = knows.handles;
    forgot = knows.forgot;
    sent = knows.sent;
  }

  abbrev Next : Local → Type 0
  Next local =
      let t : State = state_after s (moment_at p held local seen) in
      Owns p (advance p (accessed x) local seen).node t.fixed t.request_state (advance p (accessed x) local seen).local

  -- the node and what is fixed stay
  settles : (local : Local) → x.local ≡ local
      → ((shown : Way → RequestState) → Owns p x.node s.fixed shown (advance p (accessed x) local seen).local) → Next local
  settles local is owns =
      let o : Option Moment = moment_at p held local seen in
      let node : (advance p (accessed x) local seen).node ≡ x.node
      = subst (λ l. (advance p (accessed x) l seen).node ≡ x.node) is (steps_keep_own p x seen).node in
      subst (λ k. Owns p k (state_after s o).fixed (state_after s o).request_state (advance p (accessed x) local seen).local) (sym node)
      (subst (λ f. Owns p x.node f (state_after s o).request_state (advance p (accessed x) local seen).local) (sym (after_fixed s o))
      (owns (state_after s o).request_state))

  others : (local : Local) → x.local ≡ local → OwnsCall p x.node s.fixed s.request_state local → ReliesOn p (accessed x) s held local seen → WordsTell p local seen
      → Next local
  others local is owns relies tells =
      let t : State = state_after s (moment_at p held x.local seen) in
      subst Next is
      (raised p (advance p (accessed x) x.local seen).node t.fixed t.request_state (advance p (accessed x) x.local seen).local
      (steps_own_the_next_place p held s x seen (subst (OwnsCall p x.node s.fixed s.request_state) (sym is) owns) limits
      (subst (λ l. ReliesOn p (accessed x) s held l seen) (sym is) relies) (subst (λ l. WordsTell p l seen) (sym is) tells)))

  step : (local : Local) → x.local ≡ local → Owns p x.node s.fixed s.request_state local → ReliesOn p (accessed x) s held local seen → WordsTell p local seen
      → TakesLane p local (advance p (accessed x) local seen).local → Next local
  step (LendEmpties o w (popping.Pops place) left) is owns relies tells lent =
      settles _ is (λ shown. emptied p (accessed x) s.fixed shown held knows_still free o w left _ _ owns.0 owns.1 lent)
  step (LendEmpties o w place left) is owns relies tells lent = absurd relies
  step (LendStores o slot next) is owns relies tells lent = settles _ is (λ shown. stored p (accessed x) s.fixed shown held knows_still free o slot next owns)
  step (Writes e words next) is owns relies tells lent = settles _ is (λ shown. written p (accessed x) s.fixed shown held knows_still free e words next owns)
  step (Reads e words) is owns relies tells lent = settles _ is (λ shown. read p (accessed x) s.fixed shown held knows_still free e words seen owns)
  step local is owns relies tells lent = others local is owns relies tells

pub owners_stay_owners : OwnersStayOwners
owners_stay_owners p held s x seen owns knows free limits relies tells lent =
    step p held s x seen knows free limits x.local refl owns relies tells lent

pub owners_go_on : OwnersGoOn
owners_go_on p held word word' c seats w n shows living owns free lane limits tells relies lent made =
    let may = owners_may_access p held w.state (seats n) owns lane in (
      steps_show_the_world p held word word' c seats w n shows living may.0 may.1 relies made,
      owners_stay_owners p held w.state (seats n) (seen_by (program_access p.layout (program_of p (seats n).local)) word) owns
          (shows.counts n living).knows free limits relies tells lent,
    )
