-- No step forgets a node, but that of a Forget.
use Rattle.std.proofs.Common.{◌≡◌, ℕ, ◌+◌, ◌-◌, ◌==◌, Bool, true, false, if◌then◌else◌, List, [], ◌∷◌, ◌++◌, length, Option, Some, None, refl, ap, subst, sym, ◌∙◌}
use Rattle.iox_model.specs.declared.way.RequestState.{RequestState}
use Rattle.iox_model.specs.declared.way.Way.{Way}
use Rattle.iox_model.specs.Handles.{is_received, is_request_loan}
use Rattle.iox_model.specs.Joins.{not_living}
use Rattle.iox_model.specs.Messages.{names}
use Rattle.iox_model.specs.Settings.{is_client}
use Rattle.iox_model.specs.States.{Fixed}
use Rattle.iox_laws.proofs.WeaveLaws.MapLemmas as maps
use Rattle.iox_steps.specs.declared.side.Popping.{Popping}
use Rattle.iox_steps.specs.declared.side.QueueEvent.{QueueEvent}
use Rattle.iox_steps.specs.declared.side.QueueEvent.TheVariants.{HandOut, SeesEmpty}
use Rattle.iox_wire_keeps.specs.Aside.{shown_at}
use Rattle.iox_wire_keeps.specs.Courses as courses
use Rattle.iox_wire_keeps.specs.Doings.{doing_of}
use Rattle.iox_wire_keeps.specs.Ending.{Ending}
use Rattle.iox_wire_keeps.specs.Ending.TheVariants as endings
use Rattle.iox_wire_keeps.specs.Findings as findings
use Rattle.iox_wire_keeps.specs.Known.{free_slots}
use Rattle.iox_wire_keeps.specs.Local.{Local}
use Rattle.iox_wire_keeps.specs.Local.TheVariants.{Ends, Idle, LendEmpties, LendStores, Reads, ReceiveAsks, ReceiveLoads, ReleaseExchanges, ReleaseLooks, SendEnds, Writes}
use Rattle.iox_wire_keeps.specs.Locals.{state_told}
use Rattle.iox_wire_keeps.specs.LocalsDesks.{at_count, at_desk, gives_up}
use Rattle.iox_wire_keeps.specs.MomentsOf.{Pools}
use Rattle.iox_wire_keeps.specs.NewLoan.{NewLoan}
use Rattle.iox_wire_keeps.specs.NewLoans.{entry_in, loan_words, received_length, request_in}
use Rattle.iox_wire_keeps.specs.ReceiveCourses as receives
use Rattle.iox_wire_keeps.specs.Runs.{Run}
use Rattle.iox_wire_keeps.specs.Seat.{Seat}
use Rattle.iox_wire_keeps.specs.Settlements as settle
use Rattle.iox_wire_keeps.specs.Stands.{Player, seats_of}
use Rattle.iox_wire_keeps.specs.Steps.{accessed, advance, closed, ending_at, next}
use Rattle.iox_wire_keeps.specs.Tables.{Setting, way_in, words_to_read}
use Rattle.iox_wire_keeps.specs.Visit.{Visit}
use Rattle.iox_wire_keeps.specs.WireStands.{WireStands}
use Rattle.iox_wire_keeps.proofs.CountsKept.{steps_keep_own}
use Rattle.iox_wire_keeps.proofs.Forgotten.{shown_forgot}
use Rattle.iox_wire_keeps.proofs.Quiet as quiet
use Rattle.iox_wire_keeps.proofs.Quiet.{IsQuiet}
use Rattle.iox_wire_needs.specs.SettingsStay.{ForgetsNobody}

-- the place is not that of a Forget
abbrev NoForget : Local → Type 0
NoForget (Ends (endings.Forgets dead)) = ⊥
NoForget local = Unit {0}

-- ---- the machine

of_doing : (p : Setting) (f : Fixed) (held : Pools) (node : ℕ) (local : Local) → ForgetsNobody (doing_of p f held node local) → NoForget local
of_doing p f held node (Ends (endings.Forgets dead)) free = free
of_doing p f held node local free = tt

of_shown : (p : Setting) (x : Seat) (local : Local) → x.local ≡ local → NoForget (shown_at p x local).local → NoForget local
of_shown p x (ReleaseLooks e) at free = tt
of_shown p x (ReleaseExchanges e old) at free = tt
of_shown p x local at free = subst NoForget at free

-- ---- an access

of_quiet : (local : Local) → IsQuiet local → NoForget local
of_quiet (Ends (endings.Forgets dead)) still = still
of_quiet local still = tt

module _ (p : Setting) (x : Seat) where
  abbrev K : Seat → Type 0
  K y = NoForget y.local

  either : (b : Bool) (y z : Seat) → K y → K z → K (if b then y else z)
  either true y z here there = here
  either false y z here there = there

  takes_slot : (o : NewLoan) (free : List ℕ) → K (courses.takes_slot x o free)
  takes_slot o [] = tt
  takes_slot o (slot ∷ free) = tt

  loaning : (o : NewLoan) (left : List Way) → K (courses.loaning x o left)
  loaning o [] = takes_slot o (free_slots x o.port)
  loaning o (w ∷ left) = tt

  loan_emptied : (o : NewLoan) (w : Way) (left : List Way) (place : Popping) (event : QueueEvent) → K (findings.loan_emptied x o w left place event)
  loan_emptied o w left place (HandOut slot) = tt
  loan_emptied o w left place SeesEmpty = loaning o left
  loan_emptied o w left place event = tt

  lent : (o : NewLoan) (slot : ℕ) → K (courses.lent p x o slot)
  lent o slot = either o.copies _ _ (of_quiet _ (quiet.sends p x (entry_in o slot) true)) tt

  took : (v : Visit) (w : Way) (slot : ℕ) (header : List ℕ) (left : List Way) (waiting : Bool) → K (receives.took p x v w slot header left waiting)
  took v w slot header left waiting =
      either (is_client v.role) _ _
      (either (request_in v header == v.request) _ _ tt (of_quiet _ (quiet.stale p x v w slot left waiting)))
      (either p.limits.fire_and_forget _ _ tt tt)

  judged : (v : Visit) (w : Way) (slot : ℕ) (header : List ℕ) (left : List Way) (waiting : Bool) (shown : RequestState) → K (receives.judged x v w slot header left waiting shown)
  judged v w slot header left waiting shown = either (names shown (request_in v header)) _ _ tt tt

goes : (p : Setting) (x : Seat) (seen : ℕ) (local : Local) → x.local ≡ local → NoForget local → NoForget (advance p x local seen).local
goes p x seen Idle at free = subst NoForget (sym at) free
goes p x seen (Ends ending) at free = subst NoForget (sym at) free
goes p x seen (SendEnds d last count) at free = subst NoForget (sym at) free
goes p x seen (LendEmpties o w place left) at free = loan_emptied p x o w left _ _
goes p x seen (LendStores o slot count) at free = either p x (count + 1 == length (loan_words p o)) _ _ (lent p x o slot) tt
goes p x seen (Writes e words count) at free = either p x (count + 1 == length words) _ _ tt tt
goes p x seen (Reads e words) at free = either p x (length (words ++ seen ∷ []) == words_to_read p e) _ _ tt tt
goes p x seen (ReceiveLoads v w slot header left waiting) at free =
    either p x (length (header ++ seen ∷ []) == received_length v) _ _ (took p x v w slot (header ++ seen ∷ []) left waiting) tt
goes p x seen (ReceiveAsks v w slot header left waiting) at free = judged p x v w slot header left waiting (state_told seen)
goes p x seen local at free = of_quiet _ (quiet.quiet_after p x local seen (λ moves. moves))

-- ---- the end of a call

abbrev NoForgetEnds : Option Ending → Type 0
NoForgetEnds (Some (endings.Forgets dead)) = ⊥
NoForgetEnds o = Unit {0}

at_end : (local : Local) → NoForget local → NoForgetEnds (ending_at local)
at_end (Ends (endings.Forgets dead)) free = free
at_end local free = tt

closed_forgot : (p : Setting) (x : Seat) (o : Option Ending) → NoForgetEnds o → (closed p x o).forgot ≡ x.forgot
closed_forgot p x None free = refl
closed_forgot p x (Some (endings.Sends e true count)) free =
    maps.either (λ (q : Seat). q.forgot ≡ x.forgot) (is_request_loan e.kind) (settle.sends_entry x e true count) (settle.sends_away x e true) (λ is. refl) (λ is. refl)
closed_forgot p x (Some (endings.Sends e false count)) free =
    maps.either (λ (q : Seat). q.forgot ≡ x.forgot) (is_request_loan e.kind) (settle.sends_entry x e false count) (settle.sends_away x e false) (λ is. refl) (λ is. refl)
closed_forgot p x (Some (endings.FailsToSend e true r)) free = refl
closed_forgot p x (Some (endings.FailsToSend e false r)) free = refl
closed_forgot p x (Some (endings.Drops e)) free =
    maps.either (λ (q : Seat). (settle.loses q e).forgot ≡ x.forgot) (is_received e.kind) (at_count x (way_in e) (λ n. n - 1)) (at_desk x e.port (gives_up e))
    (λ is. refl) (λ is. refl)
closed_forgot p x (Some (endings.Forgets dead)) free = absurd free
closed_forgot p x (Some ending) free = refl

next_forgot : (p : Setting) (x : Seat) (seen : ℕ) → NoForget x.local → (next p x seen).forgot ≡ x.forgot
next_forgot p x seen free =
    closed_forgot p (advance p (accessed x) x.local seen) (ending_at (advance p (accessed x) x.local seen).local)
    (at_end (advance p (accessed x) x.local seen).local (goes p (accessed x) seen x.local refl free))
    ∙ (steps_keep_own p x seen).forgot

-- ---- on a wire

module _ (p : Setting) (words : List ℕ) (players : ℕ → Player) (r : Run) (n : ℕ) (wire : WireStands p words players r) (lives : not_living r.last.state n ≡ None) where
  -- whom a living node forgot its own data tells
  pub forgot_is : r.last.state.fixed.forgot n ≡ (players n).seat.forgot
  forgot_is =
      ap r.last.state.fixed.forgot (sym (wire.stands.shows.node n)) ∙ (wire.stands.shows.counts n lives).knows.forgot
      ∙ shown_forgot p (players n).seat (players n).seat.local

  -- and that is the same after its step, unless its call is a Forget
  pub forgets_nobody : (seen : ℕ) → ForgetsNobody (r.last.doing n) → (next p (players n).seat seen).forgot ≡ (players n).seat.forgot
  forgets_nobody seen free =
      next_forgot p (players n).seat seen (of_shown p (players n).seat (players n).seat.local refl
      (of_doing p r.last.state.fixed wire.stands.held (seats_of p players n).node (seats_of p players n).local
      (subst ForgetsNobody (ap r.last.doing (sym (wire.stands.shows.node n)) ∙ wire.stands.shows.doing n lives) free)))
