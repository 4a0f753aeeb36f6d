-- The place that an access leads to: what it goes through stands in the slots.
use Rattle.iox_wire_keeps.proofs.Quiet.{IsQuiet, MovesWords}
use Rattle.iox_wire_keeps.proofs.Quiet as quiet
use Rattle.iox_wire_calls.specs.Findings as findings
use Rattle.iox_wire_calls.specs.ReceiveCourses as receives
use Rattle.iox_wire_calls.specs.Courses as courses
use Rattle.iox_wire_calls.specs.Ending.TheVariants as endings
use Rattle.iox_wire_calls.specs.Following.{LeavesNothing, Leaving, message_at}
use Rattle.iox_wire_calls.specs.Local.TheVariants.{Ends, Idle, LendEmpties, LendStores, Reads, ReceiveAsks, ReceiveLoads, SendEnds, Writes}
use Rattle.iox_wire_calls.specs.NewLoans.{entry_in, loan_words, message_in, received_length, request_in}
use Rattle.std.specs.Prelude.{Bool, List, None, [], length, refl, true, ℕ, ◌++◌, ◌+◌, ◌<◌, ◌==◌, ◌∷◌, ◌≡◌, ◌⊎◌}
use Rattle.std.proofs.Common.{ap, arith, eqb-true, inl, inr, subst, sym, ◌∙◌}
use Rattle.iox_wire_keeps.specs.Stored.{CallIsStored, GoesThrough, IsStored, IsWritten, LoanFits, SlotsHoldMessages}
use Rattle.iox_wire_calls.specs.Steps.{accessed, advance}
use Rattle.iox_wire_calls.specs.Holding.{held_after, held_from}
use Rattle.iox_wire_calls.specs.Tables.{Setting, words_before_payload, words_to_read}
use Rattle.iox_wire_calls.specs.Fits.{WireContents, contents_after}
use Rattle.iox_model.specs.Settings.{is_client, other_role}
use Rattle.iox_wire_calls.specs.Visit.{Visit}
use Rattle.iox_wire_calls.proofs.MessageStores.{loans_are_stored, writes_are_stored}
use Rattle.iox_laws.proofs.WeaveLaws.MapLemmas.{either}
use Rattle.iox_wire_calls.specs.Programs.{program_access}
use Rattle.iox_wire_calls.proofs.MessageLoads.{headers_tell_their_messages, reads_find_their_messages}
use Rattle.iox_wire_calls.specs.StoredMessages.{AreFirst, HoldsMessage, StandFrom, header_in}
use Rattle.iox_model.specs.Weaves.{World}
use Rattle.iox_model.specs.Messages.{names}
use Rattle.iox_wire_calls.specs.MomentsOf.{Pools}
use Rattle.iox_wire_calls.specs.SlotsKnown.{HasEntry, PlaceStands}
use Rattle.iox_wire_calls.specs.OwnedWords.{Owns}
use Rattle.iox_wire_calls.proofs.MessageLists.{all_first, header_count}
use Rattle.iox_steps.specs.Accesses.{seen_by}
use Rattle.iox_wire_calls.specs.Places.{PlaceFits}
use Rattle.iox_wire_calls.specs.Ending.{Ending}
use Rattle.iox_steps.specs.declared.side.QueueEvent.TheVariants.{HandOut, SeesEmpty}
use Rattle.iox_model.specs.declared.way.Way.{Way}
use Rattle.iox_wire_calls.specs.StepLaws.{ReliesOn}
use Rattle.iox_laws.proofs.WeaveLedger.Views.{less}
use Rattle.iox_wire_calls.specs.Locals.{program_of, state_told}
use Rattle.iox_wire_calls.specs.FarSlots.{IsInPool}
use Rattle.iox_steps.specs.declared.side.Popping.{Popping}
use Rattle.iox_wire_calls.specs.Seat.{Seat}
use Rattle.iox_wire_calls.specs.Shows.{ShowsWorld, programs_of}
use Rattle.iox_wire_calls.specs.Entry.{Entry}
use Rattle.iox_wire_calls.specs.Stored.{header_length}
use Rattle.iox_model.specs.Joins.{not_living}
use Rattle.iox_wire_calls.specs.Nodes.{NodeStands}
use Rattle.iox_wire_calls.specs.CallsStand.{CallStands}
use Rattle.iox_wire_calls.specs.Known.{free_slots}
use Rattle.iox_steps.specs.declared.side.QueueEvent.{QueueEvent}
use Rattle.iox_model.specs.declared.way.RequestState.{RequestState}
use Rattle.iox_wire_calls.specs.Local.{Local}
use Rattle.iox_wire_calls.specs.NewLoan.{NewLoan}
use Rattle.iox_wire_calls.proofs.LanesTell.{low}

module _ (p : Setting) (held : Pools) (word : ℕ → ℕ) (c : WireContents) (seats : ℕ → Seat) (w : World) (n : ℕ)
    (shows : ShowsWorld p held word c seats w)
    (nodes : (k : ℕ) → not_living w.state k ≡ None → NodeStands p held w.state (seats k))
    (calls : (k : ℕ) → not_living w.state k ≡ None → CallStands p held (seats k))
    (living : not_living w.state n ≡ None)
    (relies : ReliesOn p (accessed (seats n)) w.state held (seats n).local (seen_by (program_access p.layout (program_of p (seats n).local)) word))
    (has : SlotsHoldMessages p held c seats w.state) where
  abbrev seen : ℕ
  seen = seen_by (program_access p.layout (program_of p (seats n).local)) word

  abbrev y : Seat
  y = advance p (accessed (seats n)) (seats n).local (seen_by (program_access p.layout (program_of p (seats n).local)) word)

  abbrev new : Pools
  new = held_after p (seats n) (seen_by (program_access p.layout (program_of p (seats n).local)) word) held

  abbrev after : WireContents
  after = contents_after p.layout (program_of p (seats n).local) (seen_by (program_access p.layout (program_of p (seats n).local)) word) c

  mine : NodeStands p held w.state (seats n)
  mine = nodes n living

  module _ (H : Local → Pools) (d : WireContents) where
    abbrev G : Seat → Type 0
    G q = GoesThrough p (H q.local) d q.local

    quiet_ends : (held : Pools) (ending : Ending) → IsQuiet (Ends ending) → GoesThrough p held d (Ends ending)
    quiet_ends held (endings.Lends o slot) quiet = absurd quiet
    quiet_ends held (endings.Fills e words) quiet = absurd quiet
    quiet_ends held (endings.Receives v z slot header) quiet = absurd quiet
    quiet_ends held ending quiet = tt

    quiet_goes : (held : Pools) (local : Local) → IsQuiet local → GoesThrough p held d local
    quiet_goes held (LendEmpties o z place left) quiet = absurd quiet
    quiet_goes held (LendStores o slot next) quiet = absurd quiet
    quiet_goes held (Writes e words next) quiet = absurd quiet
    quiet_goes held (Reads e words) quiet = absurd quiet
    quiet_goes held (ReceiveLoads v z slot header left waiting) quiet = (header_in p held z.sender slot, ap (λ xs. xs ++ header_in p held z.sender slot) quiet)
    quiet_goes held (ReceiveAsks v z slot header left waiting) quiet = absurd quiet
    quiet_goes held (Ends ending) quiet = quiet_ends held ending quiet
    quiet_goes held local quiet = tt

    none_yet : (port slot from : ℕ) (words : List ℕ) → StandFrom p d port slot from words 0
    none_yet port slot from words k less = absurd (no_less k less)
      where
        no_less : (k : ℕ) → k < 0 → ⊥
        no_less k less = omega (arith, less)

    takes_slot : (z : Seat) (o : NewLoan) (free : List ℕ) → LoanFits p o → G (courses.takes_slot z o free)
    takes_slot z o [] size = tt
    takes_slot z o (slot ∷ free) size = (size, none_yet o.port slot 0 (loan_words p o))

    loaning : (z : Seat) (o : NewLoan) (left : List Way) → LoanFits p o → G (courses.loaning z o left)
    loaning z o [] size = takes_slot z o (free_slots z o.port) size
    loaning z o (v ∷ left) size = size

    loan_emptied : (z : Seat) (o : NewLoan) (v : Way) (left : List Way) (place : Popping) (event : QueueEvent) → LoanFits p o → G (findings.loan_emptied z o v left place event)
    loan_emptied z o v left place (HandOut slot) size = size
    loan_emptied z o v left place SeesEmpty size = loaning z o left size
    loan_emptied z o v left place event size = size

    module _ (z : Seat) (v : Visit) (u : Way) (slot : ℕ) (left : List Way) (waiting : Bool)
        (same_end : (header : List ℕ) → H (Ends (endings.Receives v u slot header)) ≡ held)
        (same_asks : (header : List ℕ) → H (ReceiveAsks v u slot header left waiting) ≡ held)
        (role : (p.port u.sender).role ≡ other_role v.role) where
      ends_received : (header : List ℕ) → header ≡ header_in p held u.sender slot → G (courses.ended z (endings.Receives v u slot header))
      ends_received header whole = (whole ∙ ap (λ (h : Pools). header_in p h u.sender slot) (sym (same_end header)), role)

      took : (header : List ℕ) → header ≡ header_in p held u.sender slot → G (receives.took p z v u slot header left waiting)
      took header whole =
          either G (is_client v.role) (receives.took_response p z v u slot header left waiting) (receives.took_request p z v u slot header left waiting)
          (λ client. either G (request_in v header == v.request) (courses.ended z (endings.Receives v u slot header)) (receives.stale p z v u slot left waiting)
          (λ is. ends_received header whole)
          (λ is. quiet_goes (H (receives.stale p z v u slot left waiting).local) (receives.stale p z v u slot left waiting).local (quiet.stale p z v u slot left waiting)))
          (λ server. either G p.limits.fire_and_forget (courses.ended z (endings.Receives v u slot header)) (courses.placed z (ReceiveAsks v u slot header left waiting))
          (λ is. ends_received header whole)
          (λ is. whole ∙ ap (λ (h : Pools). header_in p h u.sender slot) (sym (same_asks header))))

      judged : (header : List ℕ) (shown : RequestState) → header ≡ header_in p held u.sender slot → G (receives.judged z v u slot header left waiting shown)
      judged header shown whole =
          either G (names shown (request_in v header)) (courses.ended z (endings.Receives v u slot header)) (receives.gives_back z v u slot left waiting)
          (λ is. ends_received header whole) (λ is. tt)

  -- what held_from leaves
  abbrev From : Local → Local → Pools
  From local next = held_from p held local next

  abbrev Goes : Local → Type 0
  Goes local =
      GoesThrough p (From local (advance p (accessed (seats n)) local seen).local) (contents_after p.layout (program_of p local) seen c)
      (advance p (accessed (seats n)) local seen).local

  quietly : (local : Local) → (MovesWords local → ⊥) → Goes local
  quietly local still =
      quiet_goes (From local) (contents_after p.layout (program_of p local) seen c) (From local (advance p (accessed (seats n)) local seen).local)
      (advance p (accessed (seats n)) local seen).local (quiet.quiet_after p (accessed (seats n)) local seen still)

  entry_low : (e : Entry) → HasEntry (seats n) e → LeavesNothing (message_at (seats n).local) → IsInPool p e.sender e.slot
  entry_low e there nothing = by_part (mine.in_pools e there)
    where
      by_part : IsInPool p e.sender e.slot ⊎ (message_at (seats n).local ≡ Leaving e) → IsInPool p e.sender e.slot
      by_part (inl low) = low
      by_part (inr leaves) = absurd (subst LeavesNothing leaves nothing)

  goes_on : (local : Local) → (seats n).local ≡ local → ReliesOn p (accessed (seats n)) w.state held local seen
      → seen ≡ seen_by (program_access p.layout (program_of p local)) word → Owns p (seats n).node w.state.fixed w.state.request_state local
      → PlaceFits p (seats n) local → PlaceStands p w.state.fixed (seats n) local → CallIsStored p held c (message_at local) → GoesThrough p held c local → Goes local
  goes_on Idle is relies sees owns place on message through = absurd relies
  goes_on (Ends ending) is relies sees owns place on message through = absurd relies
  goes_on (SendEnds d last count) is relies sees owns place on message through = absurd relies
  goes_on (LendEmpties o v part left) is relies sees owns place on message through =
      loan_emptied (From (LendEmpties o v part left)) (contents_after p.layout (program_of p (LendEmpties o v part left)) seen c) (accessed (seats n)) o v left _ _ through
  goes_on (LendStores o slot next) is relies sees owns place on message (size, words) =
      either (G H d) (next + 1 == length (loan_words p o)) (courses.lent p (accessed (seats n)) o slot) (courses.placed (accessed (seats n)) (LendStores o slot (next + 1)))
      (λ last. either (G H d) o.copies (courses.sends p (accessed (seats n)) (entry_in o slot) true) (courses.ended (accessed (seats n)) (endings.Lends o slot))
      (λ is. quiet_goes H d held (courses.sends p (accessed (seats n)) (entry_in o slot) true).local (quiet.sends p (accessed (seats n)) (entry_in o slot) true))
      (λ is. (size, is, subst (StandFrom p d o.port slot 0 (loan_words p o)) (eqb-true (next + 1) (length (loan_words p o)) last) more.0)))
      (λ not. (size, more.0))
    where
      H : Local → Pools
      H local = held

      d : WireContents
      d = contents_after p.layout (program_of p (LendStores o slot next)) seen c

      more : StandFrom p d o.port slot 0 (loan_words p o) (next + 1)
          × ((pools : Pools) → (next + 1 == length (loan_words p o)) ≡ true → pools o.port slot ≡ message_in p o → HoldsMessage p pools d o.port slot)
      more = loans_are_stored p (seats n).node w.state.fixed w.state.request_state o c slot next seen owns words
  goes_on (Writes e words next) is relies sees owns place on message (fits, lane, head, tail, long) =
      let more = writes_are_stored p held (seats n).node w.state.fixed w.state.request_state e words c next seen owns fits head tail in
      either (λ (q : Seat). GoesThrough p (From (Writes e words next) q.local) (contents_after p.layout (program_of p (Writes e words next)) seen c) q.local)
      (next + 1 == length words) (courses.ended (accessed (seats n)) (endings.Fills e words))
      (courses.placed (accessed (seats n)) (Writes e words (next + 1)))
      (λ last. (
        fits,
        lane,
        more.0,
        subst (StandFrom p (contents_after p.layout (program_of p (Writes e words next)) seen c) e.port e.slot (words_before_payload p e.port) words) (eqb-true (next + 1) (length words) last) more.1,
        long,
      ))
      (λ not. (fits, lane, more.0, more.1, long))
  goes_on (Reads e words) is relies sees owns place on message through =
      let low : IsInPool p e.sender e.slot = entry_low e on (subst (λ l. LeavesNothing (message_at l)) (sym is) tt) in
      let own : IsStored p held c e.sender e.slot = (has.nodes n living).entries e on low (subst (λ l. IsWritten l e → ⊥) (sym is) (λ none. none)) in
      let more = reads_find_their_messages p held (seats n) w.state e words word (programs_of p seats) c shows.words own.fits own.words
      ((has.nodes n living).lengths e on low) owns through in
      either (λ (q : Seat). GoesThrough p (From (Reads e words) q.local) (contents_after p.layout (program_of p (Reads e words)) seen c) q.local)
      (length (words ++ seen ∷ []) == words_to_read p e) (courses.ended (accessed (seats n)) (endings.Words (words ++ seen ∷ [])))
      (courses.placed (accessed (seats n)) (Reads e (words ++ seen ∷ []))) (λ last. tt)
      (λ not. subst (λ k. AreFirst (words ++ k ∷ []) ((held e.sender e.slot).user ++ (held e.sender e.slot).payload)) (sym sees) more.0)
  goes_on (ReceiveLoads v u slot header left waiting) is relies sees owns place on message through =
      either (G H c) (length (header ++ seen ∷ []) == received_length v) (receives.took p (accessed (seats n)) v u slot (header ++ seen ∷ []) left waiting)
      (courses.placed (accessed (seats n)) (ReceiveLoads v u slot (header ++ seen ∷ []) left waiting))
      (λ whole. took H c (accessed (seats n)) v u slot left waiting (λ k. refl) (λ k. refl) place.0.1 (header ++ seen ∷ [])
      (all_first (header ++ seen ∷ []) (header_in p held u.sender slot) more
      (eqb-true _ (received_length v) whole ∙ sym (ap header_length place.0.1) ∙ sym (header_count (p.port u.sender).role (held u.sender slot)))))
      (λ not. more)
    where
      H : Local → Pools
      H local = held_from p held (ReceiveLoads v u slot header left waiting) local

      more : AreFirst (header ++ seen ∷ []) (header_in p held u.sender slot)
      more =
          subst (λ k. AreFirst (header ++ k ∷ []) (header_in p held u.sender slot)) (sym sees)
          (headers_tell_their_messages p held (seats n) w.state v u slot header left waiting word (programs_of p seats) c shows.words message.fits message.words place.0.1
          owns.2 through).0
  goes_on (ReceiveAsks v u slot header left waiting) is relies sees owns place on message through =
      judged (From (ReceiveAsks v u slot header left waiting)) c (accessed (seats n)) v u slot left waiting (λ k. refl) (λ k. refl) place.2.0.1 header (state_told seen) through
  goes_on local is relies sees owns place on message through = quietly local (λ moves. moves)

  pub own_place : GoesThrough p new after y.local
  own_place =
      goes_on (seats n).local refl relies refl mine.owns.owns (calls n living).fits.place mine.names.place (has.nodes n living).call (has.nodes n living).place
