-- Parts of a whole step: the payload of a new loan, nodes as they are shown, pools that agree, and
-- where the end of a call comes from.
use Rattle.iox_wire_calls.specs.Following.{keeps, lets_go, takes, puts_aside, drops, picks_slot, sends_loan}
use Rattle.iox_wire_calls.specs.Ending.TheVariants as endings
use Rattle.iox_wire_calls.specs.Courses as courses
use Rattle.iox_wire_keeps.proofs.Quiet as quiet
use Rattle.iox_wire_calls.specs.Local.TheVariants.{Checks, Ends, HintExchanges, Hints, LendEmpties, LendStores, Reads, ReceiveAsks, ReceiveLoads, ReleaseCloses, ReleaseExchanges, ReleaseLooks, ReleaseReturns, SendEnds, Writes}
use Rattle.std.proofs.Common.{ap, arith, inl, inr, subst, sym, ◌∙◌}
use Rattle.std.specs.Prelude.{List, Some, [], length, refl, slice_index, suc, true, zero, ℕ, ◌*◌, ◌++◌, ◌+◌, ◌<◌, ◌==◌, ◌∷◌, ◌≡◌, ◌≤◌, ◌⊎◌}
use Rattle.iox_model.specs.declared.way.Way.{Way}
use Rattle.iox_wire_calls.specs.Seat.{Seat}
use Rattle.iox_wire_calls.specs.Ending.{Ending}
use Rattle.iox_wire_calls.specs.Tables.{Setting, entry_at, port_shape, region_word, words_before_payload, words_to_read}
use Rattle.iox_wire_keeps.specs.Stored.{CallIsStored, EntrySuits, GoesThrough, HoldsStored, IsAddressed, IsStored, IsWritten, StandsWritten, StoresAt}
use Rattle.iox_wire_calls.specs.Stored.{header_words, message_words}
use Rattle.iox_wire_calls.specs.Fits.{WireContents, contents_after}
use Rattle.iox_wire_calls.specs.Aside.{aside, shown_at, with_aside, shown}
use Rattle.iox_wire_calls.specs.NewLoans.{entry_in, loan_words}
use Rattle.iox_wire_calls.specs.Following.{CallMessage, Dropped, NodeContinues, LeavesNothing, Leaving, Lent, NoMessage, OfEntry, Sent, Taken, lets_go, message_at, picks_slot, puts_aside, sends_loan}
use Rattle.iox_laws.proofs.WeaveLaws.MapLemmas.{either}
use Rattle.iox_wire_calls.specs.Courses.{placed}
use Rattle.iox_wire_keeps.specs.MessageEnds.{PayloadStands}
use Rattle.iox_wire_calls.specs.SlotsKnown.{HasEntry, PlaceStands}
use Rattle.iox_wire_calls.specs.Programs.{pusher_of}
use Rattle.iox_wire_calls.specs.StepsTold.{PayloadFits}
use Rattle.iox_wire_calls.specs.StoredMessages.{AreFirst, StandFrom, header_in}
use Rattle.iox_laws.proofs.WeaveLedger.Views.{less}
use Rattle.iox_wire_calls.specs.FarSlots.{IsInPool}
use Rattle.iox_wire_calls.specs.Stands.{Player, seats_of}
use Rattle.iox_model.specs.Messages.{Message}
use Rattle.iox_wire_calls.specs.Steps.{accessed, advance, ending_at}
use Rattle.iox_wire_calls.specs.WorkedCalls.{hinted}
use Rattle.iox_model.specs.Receives.{took}
use Rattle.iox_wire_calls.specs.MomentsOf.{Pools}
use Rattle.iox_wire_calls.specs.Local.{Local}
use Rattle.iox_wire_keeps.proofs.Kept.{stored_same}
use Rattle.iox_laws.proofs.WeaveLedger.Truths.{none-some}
use Rattle.iox_wire_calls.specs.Nodes.{NodeStands}
use Rattle.iox_laws.proofs.WeaveLaws.WholeLemmas.{some-is}
use Rattle.iox_wire_calls.specs.Locals.{program_of}
use Rattle.iox_wire_calls.proofs.EndTables.{one_other}
use Rattle.iox_wire_calls.specs.Begins.{is_busy}
use Rattle.iox_model.specs.States.{State}
use Rattle.iox_wire_keeps.proofs.Quiet.{IsQuiet}
use Rattle.iox_wire_calls.proofs.Follows.{accesses_follow}
use Rattle.iox_wire_calls.specs.Known.{count_on, loans_at}
use Rattle.iox_wire_keeps.specs.Bounds.{AccessesBound}
use Rattle.iox_wire_calls.specs.Entry.{Entry}

-- ---- a payload

-- the words that a function tells, so many of them
abbrev pub words_of : (ℕ → ℕ) → ℕ → List ℕ
words_of f zero = []
words_of f (suc n) = f 0 ∷ words_of (λ k. f (k + 1)) n

pub words_length : (f : ℕ → ℕ) (n : ℕ) → length (words_of f n) ≡ n
words_length f zero = refl
words_length f (suc n) = (let more = words_length (λ k. f (k + 1)) n in omega (arith, more))

pub words_told : (f : ℕ → ℕ) (n k : ℕ) → k < n → f k ≡ slice_index (words_of f n) k
words_told f zero k low = absurd (omega (arith, low))
words_told f (suc n) zero low = refl
words_told f (suc n) (suc k) low = ap f (next_is k) ∙ words_told (λ j. f (j + 1)) n k (omega (arith, low))
  where
    next_is : (j : ℕ) → suc j ≡ j + 1
    next_is j = omega arith

-- what stands in the slot of a new loan
abbrev pub payload_at : Setting → WireContents → Local → List ℕ
payload_at p c (Ends (endings.Lends o slot)) =
    words_of (λ k. c.stored o.port (region_word p o.port slot (words_before_payload p o.port + k))) (o.elements * (port_shape p o.port).width)
payload_at p c local = []

pub payload_fits : (p : Setting) (c : WireContents) (local : Local) → PayloadFits p (payload_at p c local) local
payload_fits p c (Ends (endings.Lends o slot)) =
    words_length (λ k. c.stored o.port (region_word p o.port slot (words_before_payload p o.port + k))) (o.elements * (port_shape p o.port).width)
payload_fits p c (Ends ending) = tt
payload_fits p c local = tt

pub ended_payload : (p : Setting) (c : WireContents) (e : Ending) → PayloadStands p c (payload_at p c (Ends e)) e
ended_payload p c (endings.Lends o slot) = (
  words_length (λ k. c.stored o.port (region_word p o.port slot (words_before_payload p o.port + k))) (o.elements * (port_shape p o.port).width),
  λ k low. words_told (λ j. c.stored o.port (region_word p o.port slot (words_before_payload p o.port + j))) (o.elements * (port_shape p o.port).width) k
      (subst (λ m. k < m) (words_length (λ j. c.stored o.port (region_word p o.port slot (words_before_payload p o.port + j))) (o.elements * (port_shape p o.port).width)) low),
)
ended_payload p c e = tt

pub payload_stands : (p : Setting) (c : WireContents) (local : Local) (ending : Ending) → ending_at local ≡ Some ending → PayloadStands p c (payload_at p c local) ending
payload_stands p c (Ends e) ending is = subst (PayloadStands p c (payload_at p c (Ends e))) (some-is e ending is) (ended_payload p c e)
payload_stands p c (SendEnds d last count) ending is = subst (PayloadStands p c []) (some-is (endings.Sends d.loan d.copied count) ending is) tt
payload_stands p c local ending is = none-some ending is

-- ---- as a node is shown

pub shown_accesses : (p : Setting) (q : Seat) (local : Local) → (shown_at p q local).accesses ≡ q.accesses
shown_accesses p q (ReleaseLooks e) = refl
shown_accesses p q (ReleaseExchanges e old) = refl
shown_accesses p q local = refl

pub shown_loans : (p : Setting) (q : Seat) (local : Local) (port : ℕ) → loans_at (shown_at p q local) port ≡ loans_at q port
shown_loans p q (ReleaseLooks e) port = refl
shown_loans p q (ReleaseExchanges e old) port = refl
shown_loans p q local port = refl

pub shown_busy : (p : Setting) (q : Seat) (local : Local) → q.local ≡ local → is_busy local ≡ true → is_busy (shown_at p q local).local ≡ true
shown_busy p q (ReleaseLooks e) is busy = refl
shown_busy p q (ReleaseExchanges e old) is busy = refl
shown_busy p q local is busy = ap is_busy is ∙ busy

shown_handles : (p : Setting) (q : Seat) (local : Local) → (shown_at p q local).handles_made ≡ q.handles_made
shown_handles p q (ReleaseLooks e) = refl
shown_handles p q (ReleaseExchanges e old) = refl
shown_handles p q local = refl

shown_count : (p : Setting) (q : Seat) (local : Local) (y : Way) → count_on (shown_at p q local) y ≡ count_on q y
shown_count p q (ReleaseLooks e) y = refl
shown_count p q (ReleaseExchanges e old) y = refl
shown_count p q local y = refl

pub bound_shown : (p : Setting) (c : WireContents) (players : ℕ → Player) → AccessesBound p c (λ n. (players n).seat) → AccessesBound p c (seats_of p players)
bound_shown p c players bound = record {
  writes = λ q there.
      let k = pusher_of p.layout q in
      subst (λ a. (c.queues q).write ≤ a) (sym (shown_accesses p (players (pusher_of p.layout q)).seat (players (pusher_of p.layout q)).seat.local)) (bound.writes q there);
  loans = λ k port.
      subst (λ a. a ≤ (shown p (players k).seat).accesses) (sym (shown_loans p (players k).seat (players k).seat.local port))
      (subst (λ a. loans_at (players k).seat port ≤ a) (sym (shown_accesses p (players k).seat (players k).seat.local)) (bound.loans k port));
  handles = λ k.
      subst (λ a. a ≤ (shown p (players k).seat).accesses) (sym (shown_handles p (players k).seat (players k).seat.local))
      (subst (λ a. (players k).seat.handles_made ≤ a) (sym (shown_accesses p (players k).seat (players k).seat.local)) (bound.handles k));
  borrowed = λ k y.
      subst (λ a. a ≤ (shown p (players k).seat).accesses) (sym (shown_count p (players k).seat (players k).seat.local y))
      (subst (λ a. count_on (players k).seat y ≤ a) (sym (shown_accesses p (players k).seat (players k).seat.local)) (bound.borrowed k y));
}

-- where a release put its entry aside, all other entries are as they were
pub aside_holds : (p : Setting) (held : Pools) (c : WireContents) (q : Seat) (e : Entry) (local : Local) → HoldsStored p held c q → CallIsStored p held c (message_at local)
    → GoesThrough p held c local → (q.local ≡ ReleaseLooks e) ⊎ ((old : ℕ) × (q.local ≡ ReleaseExchanges e old)) → HoldsStored p held c (placed (with_aside p q e) local)
aside_holds p held c q e local has message through at = record {
  entries = λ k there low free. by_part k (one_other k.number (aside p q.node e) q.table k there) low
      (λ old. has.entries k old low (λ its. nobody k at its)) (λ is. absurd (no_room k is low));
  lengths = λ k there low. by_length k (one_other k.number (aside p q.node e) q.table k there) low (λ old. has.lengths k old low) (λ is. absurd (no_room k is low));
  suits = λ k there low. by_entry k (one_other k.number (aside p q.node e) q.table k there) low (λ old. has.suits k old low) (λ is. absurd (no_room k is low));
  call = message;
  place = through;
}
  where
    nobody : (k : Entry) → (q.local ≡ ReleaseLooks e) ⊎ ((old : ℕ) × (q.local ≡ ReleaseExchanges e old)) → IsWritten q.local k → ⊥
    nobody k (inl is) its = subst (λ l. IsWritten l k) is its
    nobody k (inr (old, is)) its = subst (λ l. IsWritten l k) is its

    no_room : (k : Entry) → k ≡ aside p q.node e → IsInPool p k.sender k.slot → ⊥
    no_room k is low = beyond (p.port e.sender).pool q.node (subst (λ (i : Entry). i.slot < (p.port i.sender).pool) is low)
      where
        beyond : (a b : ℕ) → a + b < a → ⊥
        beyond a b less = omega (arith, less)

    by_part : (k : Entry) → (entry_at k.number q.table ≡ Some k) ⊎ (k ≡ aside p q.node e) → IsInPool p k.sender k.slot
        → (HasEntry q k → IsStored p held c k.sender k.slot) → (k ≡ aside p q.node e → IsStored p held c k.sender k.slot) → IsStored p held c k.sender k.slot
    by_part k (inl old) low first second = first old
    by_part k (inr is) low first second = second is

    by_length : (k : Entry) → (entry_at k.number q.table ≡ Some k) ⊎ (k ≡ aside p q.node e) → IsInPool p k.sender k.slot
        → (HasEntry q k → (held k.sender k.slot).elements ≡ k.elements) → (k ≡ aside p q.node e → (held k.sender k.slot).elements ≡ k.elements)
        → (held k.sender k.slot).elements ≡ k.elements
    by_length k (inl old) low first second = first old
    by_length k (inr is) low first second = second is

    by_entry : (k : Entry) → (entry_at k.number q.table ≡ Some k) ⊎ (k ≡ aside p q.node e) → IsInPool p k.sender k.slot → (HasEntry q k → EntrySuits p k)
        → (k ≡ aside p q.node e → EntrySuits p k) → EntrySuits p k
    by_entry k (inl old) low first second = first old
    by_entry k (inr is) low first second = second is

pub shown_holds : (p : Setting) (held : Pools) (c : WireContents) (q : Seat) (local : Local) → q.local ≡ local → HoldsStored p held c q → HoldsStored p held c (shown_at p q local)
shown_holds p held c q (ReleaseLooks e) is has = aside_holds p held c q e (ReleaseLooks (aside p q.node e)) has tt tt (inl is)
shown_holds p held c q (ReleaseExchanges e old) is has = aside_holds p held c q e (ReleaseExchanges (aside p q.node e) old) has tt tt (inr (old, is))
shown_holds p held c q local is has = has

-- ---- with pools that agree

module _ (p : Setting) (held new : Pools) (c : WireContents) (agree : (port slot : ℕ) → IsInPool p port slot → new port slot ≡ held port slot) where
  pub stored_agrees : (port slot : ℕ) → IsStored p held c port slot → IsStored p new c port slot
  stored_agrees port slot stored = stored_same p held new c port slot (agree port slot stored.fits.in_pool) stored

  call_agrees : (m : CallMessage) → CallIsStored p held c m → CallIsStored p new c m
  call_agrees (Taken w slot) stored = stored_agrees w.sender slot stored
  call_agrees (Sent e true) stored =
      (stored_agrees e.sender e.slot stored.0, ap (λ (m : Message). m.elements) (agree e.sender e.slot stored.0.fits.in_pool) ∙ stored.1, stored.2)
  call_agrees m stored = tt

  written_agrees : (e : Entry) (words : List ℕ) (count : ℕ) → StandsWritten p held c e words count → StandsWritten p new c e words count
  written_agrees e words count (fits, lane, head, tail, long) =
      let still : new e.port e.slot ≡ held e.port e.slot = agree e.port e.slot fits.in_pool in (
        record {
          region = fits.region;
          in_pool = fits.in_pool;
          user = ap (λ (m : Message). length m.user) still ∙ fits.user;
          payload = ap (λ (m : Message). length m.payload) still ∙ fits.payload ∙ ap (λ (m : Message). m.elements * (port_shape p e.port).width) (sym still);
          room = subst (λ (m : Message). m.elements ≤ (p.port e.port).longest) (sym still) fits.room;
        },
        subst (IsAddressed p e.port) (sym still) lane,
        subst (λ (m : Message). StandFrom p c e.port e.slot 0 (message_words (p.port e.port).role m) (words_before_payload p e.port)) (sym still) head,
        tail,
        long,
      )

  header_agrees : (w : Way) (slot : ℕ) → IsStored p held c w.sender slot → header_in p held w.sender slot ≡ header_in p new w.sender slot
  header_agrees w slot stored = ap (header_words (p.port w.sender).role) (sym (agree w.sender slot stored.fits.in_pool))

  ended_agrees : (ending : Ending) → CallIsStored p held c (message_at (Ends ending)) → GoesThrough p held c (Ends ending) → GoesThrough p new c (Ends ending)
  ended_agrees (endings.Lends o slot) message through = through
  ended_agrees (endings.Fills e words) message through = written_agrees e words (length words) through
  ended_agrees (endings.Receives v w slot header) message (whole, role) = (whole ∙ header_agrees w slot message, role)
  ended_agrees ending message through = tt

  place_agrees : (x : Seat) (local : Local) → x.local ≡ local → ((e : Entry) (words : List ℕ) → x.local ≡ Reads e words → IsInPool p e.sender e.slot)
      → CallIsStored p held c (message_at local) → GoesThrough p held c local → GoesThrough p new c local
  place_agrees x (LendEmpties o w place left) is low message through = through
  place_agrees x (LendStores o slot next) is low message through = through
  place_agrees x (Writes e words next) is low message through = written_agrees e words next through
  place_agrees x (Reads e words) is low message through =
      subst (λ (m : Message). AreFirst words (m.user ++ m.payload)) (sym (agree e.sender e.slot (low e words is))) through
  place_agrees x (ReceiveLoads v w slot header left waiting) is low message through = subst (AreFirst header) (header_agrees w slot message) through
  place_agrees x (ReceiveAsks v w slot header left waiting) is low message through = through ∙ header_agrees w slot message
  place_agrees x (Ends ending) is low message through = ended_agrees ending message through
  place_agrees x local is low message through = tt

  pub node_agrees : (x : Seat) → ((e : Entry) (words : List ℕ) → x.local ≡ Reads e words → IsInPool p e.sender e.slot) → HoldsStored p held c x → HoldsStored p new c x
  node_agrees x low has = record {
    entries = λ e there in_pool free. stored_same p held new c e.sender e.slot (agree e.sender e.slot in_pool) (has.entries e there in_pool free);
    lengths = λ e there in_pool. ap (λ (m : Message). m.elements) (agree e.sender e.slot in_pool) ∙ has.lengths e there in_pool;
    suits = has.suits;
    call = call_agrees (message_at x.local) has.call;
    place = place_agrees x x.local refl low has.call has.place;
  }

-- what is read is in its pool
pub reads_low : (p : Setting) (held : Pools) (s : State) (x : Seat) → NodeStands p held s x → (e : Entry) (words : List ℕ) → x.local ≡ Reads e words → IsInPool p e.sender e.slot
reads_low p held s x stands e words is = by_part (stands.in_pools e (subst (PlaceStands p s.fixed x) is stands.names.place))
  where
    by_part : IsInPool p e.sender e.slot ⊎ (message_at x.local ≡ Leaving e) → IsInPool p e.sender e.slot
    by_part (inl low) = low
    by_part (inr leaves) = absurd (subst LeavesNothing leaves (subst (λ l. LeavesNothing (message_at l)) (sym is) tt))

-- ---- where the end of a call comes from

abbrev pub NoFill : Local → Type 0
NoFill local = (ending : Ending) → ending_at local ≡ Some ending → (port slot : ℕ) → StoresAt (Ends ending) port slot → ⊥

abbrev pub NoWords : CallMessage → Type 0
NoWords (Lent o slot) = ⊥
NoWords (OfEntry e) = ⊥
NoWords other = Unit {0}

pub ending_stores : (ending : Ending) (port slot : ℕ) → NoWords (message_at (Ends ending)) → StoresAt (Ends ending) port slot → ⊥
ending_stores (endings.Lends o own) port slot none into = none
ending_stores (endings.Fills e words) port slot none into = none
ending_stores ending port slot none into = into

pub no_fill : (local : Local) → NoWords (message_at local) → NoFill local
no_fill (Ends e) none ending is port slot into = ending_stores e port slot none (subst (λ k. StoresAt (Ends k) port slot) (sym (some-is e ending is)) into)
no_fill (SendEnds d last count) none ending is port slot into =
    subst (λ k. StoresAt (Ends k) port slot) (sym (some-is (endings.Sends d.loan d.copied count) ending is)) into
no_fill local none ending is port slot into = none-some ending is

pub quiet_stores : (ending : Ending) (port slot : ℕ) → IsQuiet (Ends ending) → StoresAt (Ends ending) port slot → ⊥
quiet_stores (endings.Lends o own) port slot none into = none
quiet_stores (endings.Fills e words) port slot none into = none
quiet_stores ending port slot none into = into

pub quiet_fill : (local : Local) → IsQuiet local → NoFill local
quiet_fill (Ends e) still ending is port slot into = quiet_stores e port slot still (subst (λ k. StoresAt (Ends k) port slot) (sym (some-is e ending is)) into)
quiet_fill (SendEnds d last count) still ending is port slot into =
    subst (λ k. StoresAt (Ends k) port slot) (sym (some-is (endings.Sends d.loan d.copied count) ending is)) into
quiet_fill local still ending is port slot into = none-some ending is

module _ (p : Setting) (x : Seat) (seen : ℕ) where
  abbrev y : Seat
  y = advance p (accessed x) x.local seen

  by_message : (m : CallMessage) → message_at y.local ≡ m → NoWords m → NoFill y.local
  by_message m is none = no_fill y.local (subst NoWords (sym is) none)

  pub follows_none : NoWords (message_at x.local) → NodeContinues p (accessed x) x.local seen (advance p (accessed x) x.local seen) → NoFill (advance p (accessed x) x.local seen).local
  follows_none none (keeps desks message) = by_message (message_at x.local) message none
  follows_none none (lets_go desks still message may) = by_message NoMessage message tt
  follows_none none (takes w slot desks still message took) = by_message (Taken w slot) message tt
  follows_none none (puts_aside e desks still returns message) = by_message (Leaving e) message tt
  follows_none none (drops e desks still of message) = by_message (Dropped e) message tt
  follows_none none (sends_loan o slot desks still before copies message) = by_message (Sent (entry_in o slot) true) message tt
  follows_none none (picks_slot o slot free desks still place before there lends) = subst NoFill (sym place) (λ ending is port own into. none-some ending is)

  module _ (port slot : ℕ) where
    abbrev From : Local → Local → Type 0
    From local next = (ending : Ending) → ending_at next ≡ Some ending → StoresAt (Ends ending) port slot → StoresAt local port slot

    none_from : (local next : Local) → NoFill next → From local next
    none_from local next none ending is into = absurd (none ending is port slot into)

    pub came : (local : Local) → x.local ≡ local → From local (advance p (accessed x) local seen).local
    came (LendStores o own next) is =
        either (λ (q : Seat). From (LendStores o own next) q.local) (next + 1 == length (loan_words p o)) (courses.lent p (accessed x) o own)
        (courses.placed (accessed x) (LendStores o own (next + 1)))
        (λ last. either (λ (q : Seat). From (LendStores o own next) q.local) o.copies (courses.sends p (accessed x) (entry_in o own) true) (courses.ended (accessed x) (endings.Lends o own))
        (λ copies. none_from (LendStores o own next) (courses.sends p (accessed x) (entry_in o own) true).local
        (quiet_fill (courses.sends p (accessed x) (entry_in o own) true).local (quiet.sends p (accessed x) (entry_in o own) true)))
        (λ once ending at into. subst (λ k. StoresAt (Ends k) port slot) (sym (some-is (endings.Lends o own) ending at)) into))
        (λ more ending at into. none-some ending at)
    came (Writes e words next) is =
        either (λ (q : Seat). From (Writes e words next) q.local) (next + 1 == length words) (courses.ended (accessed x) (endings.Fills e words))
        (courses.placed (accessed x) (Writes e words (next + 1)))
        (λ last ending at into. subst (λ k. StoresAt (Ends k) port slot) (sym (some-is (endings.Fills e words) ending at)) into)
        (λ more ending at into. none-some ending at)
    came (Ends e) is =
        λ ending at into. subst (λ k. StoresAt (Ends k) port slot) (sym (some-is e ending (ap ending_at (sym is) ∙ at))) into
    came (Reads e words) is =
        either (λ (q : Seat). From (Reads e words) q.local) (length (words ++ seen ∷ []) == words_to_read p e) (courses.ended (accessed x) (endings.Words (words ++ seen ∷ [])))
        (courses.placed (accessed x) (Reads e (words ++ seen ∷ [])))
        (λ last ending at into. subst (λ k. StoresAt (Ends k) port slot) (sym (some-is (endings.Words (words ++ seen ∷ [])) ending at)) into)
        (λ more ending at into. none-some ending at)
    came (ReleaseCloses e w left) is = none_from (ReleaseCloses e w left) _ (quiet_fill _ (quiet.quiet_after p (accessed x) (ReleaseCloses e w left) seen (λ none. none)))
    came (ReleaseReturns e place) is = none_from (ReleaseReturns e place) _ (quiet_fill _ (quiet.quiet_after p (accessed x) (ReleaseReturns e place) seen (λ none. none)))
    came (Checks e hinted w left) is = none_from (Checks e hinted w left) _ (quiet_fill _ (quiet.quiet_after p (accessed x) (Checks e hinted w left) seen (λ none. none)))
    came (Hints e w left) is = none_from (Hints e w left) _ (quiet_fill _ (quiet.quiet_after p (accessed x) (Hints e w left) seen (λ none. none)))
    came (HintExchanges e w left) is = none_from (HintExchanges e w left) _ (quiet_fill _ (quiet.quiet_after p (accessed x) (HintExchanges e w left) seen (λ none. none)))
    came local is =
        none_from local (advance p (accessed x) local seen).local
        (subst (λ l. NoFill (advance p (accessed x) l seen).local) is (follows_none (subst (λ l. NoWords (message_at l)) (sym is) tt) (accesses_follow p (accessed x) seen)))

  -- what is written stays so until the call ends
  pub written_next : (e : Entry) (local : Local) → x.local ≡ local → IsWritten local e → IsWritten (advance p (accessed x) local seen).local e
  written_next e (Writes k words next) is its =
      either (λ (q : Seat). IsWritten q.local e) (next + 1 == length words) (courses.ended (accessed x) (endings.Fills k words))
      (courses.placed (accessed x) (Writes k words (next + 1))) (λ last. its) (λ more. its)
  written_next e (Ends ending) is its = subst (λ l. IsWritten l e) (sym is) its
  written_next e local is its = absurd its

-- a place that stores changes no queue
pub queues_same : (p : Setting) (c : WireContents) (local : Local) (seen port slot : ℕ) → StoresAt local port slot
    → (contents_after p.layout (program_of p local) seen c).queues ≡ c.queues
queues_same p c (Ends ending) seen port slot into = refl
queues_same p c (LendStores o own next) seen port slot into = refl
queues_same p c (Writes e words next) seen port slot into = refl
queues_same p c local seen port slot into = absurd into
