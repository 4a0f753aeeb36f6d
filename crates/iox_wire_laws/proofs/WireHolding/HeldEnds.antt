-- The end of a loan, whose slot nobody names yet, and of a write, whose slot belongs only to one entry.
use Rattle.std.specs.Prelude.{if◌then◌else◌}
use Rattle.std.proofs.Common.{◌≡◌, ℕ, Bool, true, false, ◌==◌, ◌&&◌, List, Option, Some, None, refl, ap, sym, subst, ◌∙◌, eqb-true, eq-eqb, true≢false}
use Rattle.iox_model.specs.Begins.{written}
use Rattle.iox_model.specs.Counts.{holding}
use Rattle.iox_model.specs.Doings.{Outcome, Ended, Fills}
use Rattle.iox_model.specs.Joins.{not_living}
use Rattle.iox_model.specs.Maps.{put_at}
use Rattle.iox_model.specs.Messages.{Message}
use Rattle.iox_model.specs.Weaves.{World, Ends, IsBeat, over}
use Rattle.iox_laws.proofs.WeaveBeats.LiveWays.{beats_are_reachable}
use Rattle.iox_laws.proofs.WeaveLaws.MapLemmas.{eqb-refl}
use Rattle.iox_laws.proofs.WeaveLaws.WholeLemmas.{put_at-here}
use Rattle.iox_laws.proofs.WeaveLedger.Truths.{none-some}
use Rattle.iox_wire_words.specs.Fits.{WireContents}
use Rattle.iox_wire_moments.specs.MomentsOf.{Pools}
use Rattle.iox_wire_moments.specs.Ties.{Ties}
use Rattle.iox_wire_locals.specs.declared.local.Ending.{Ending}
use Rattle.iox_wire_locals.specs.declared.local.Ending.TheVariants as endings
use Rattle.iox_wire_locals.specs.declared.local.Local.{Local}
use Rattle.iox_wire_locals.specs.declared.local.Local.TheVariants as locals
use Rattle.iox_wire_locals.specs.declared.seat.Seat.{Seat}
use Rattle.iox_wire_locals.specs.declared.table.Entry.{Entry}
use Rattle.iox_wire_locals.specs.declared.table.NewLoan.{NewLoan}
use Rattle.iox_wire_locals.specs.BeginLaws.{Counts}
use Rattle.iox_wire_locals.specs.Doings.{doing_of}
use Rattle.iox_wire_locals.specs.Locals.{program_of}
use Rattle.iox_wire_locals.specs.NewLoans.{entry_in, loan_in}
use Rattle.iox_wire_locals.specs.Settlements.{reply_of}
use Rattle.iox_wire_locals.specs.Steps.{ending_at, closed}
use Rattle.iox_wire_locals.specs.Tables.{Setting, handle_of}
use Rattle.iox_wire_locals.proofs.ReplyProofs.{replies_are_the_machines}
use Rattle.iox_wire_laws.specs.WireKeeping.Readiness.{ShowsDoing}
use Rattle.iox_wire_laws.specs.WireKeeping.Shows.{ShowsWorld, programs_of}
use Rattle.iox_wire_laws.specs.WireKeeping.Writes.{with_payload}
use Rattle.iox_wire_laws.proofs.WireKeeping.CountsKept.{by_part}
use Rattle.iox_wire_laws.proofs.WireKeeping.OthersKept.{others_keep_counts}
use Rattle.iox_wire_laws.proofs.WireKeeping.WritesKept.{writes_keep_counts}
use Rattle.iox_wire_laws.proofs.WireShows.EndsShow.{ends_show_the_world}
use Rattle.iox_wire_laws.proofs.WireShows.NextPrograms.{words_same}
use Rattle.iox_wire_laws.proofs.WireShows.StepsShow.{seat_put}
use Rattle.iox_wire_laws.specs.WireHolding.HeldEnds.{EndHolds, EndsShowWhatIsHeld, HasAlone}
use Rattle.iox_wire_laws.specs.WireHolding.Holding.{held_with}
use Rattle.iox_wire_laws.proofs.WireHolding.UnnamedSlots.{counts_same, doing_with, entries_with, sent_with, ties_with, unnamed_slots_may_change}

-- a payload in a slot is another message there
pub payload_is : (held : Pools) (e : Entry) (words : List ℕ)
    → held_with held e.sender e.slot (record (held e.sender e.slot) { payload = words }) ≡ with_payload held e words
payload_is held e words = λ i q j. at q j i
  where
    by_case : (q j : ℕ) (a b c d : Bool) → (a ≡ true → e.sender ≡ q) → (b ≡ true → e.slot ≡ j) → a ≡ c → b ≡ d
        → (if a && b then record (held e.sender e.slot) { payload = words } else held q j)
        ≡ (if c && d then record (held q j) { payload = words } else held q j)
    by_case q j true true true true here there same also =
        ap (λ k. record (held k e.slot) { payload = words }) (here refl) ∙ ap (λ k. record (held q k) { payload = words }) (there refl)
    by_case q j false b false d here there same also = refl
    by_case q j true false true false here there same also = refl
    by_case q j true b false d here there same also = absurd (true≢false same)
    by_case q j false b true d here there same also = absurd (true≢false (sym same))
    by_case q j a true c false here there same also = absurd (true≢false also)
    by_case q j a false c true here there same also = absurd (true≢false (sym also))

    flip : (a b : ℕ) → (a == b) ≡ (b == a)
    flip a b = by (a == b) (b == a) (λ is. eq-eqb b a (sym (eqb-true a b is))) (λ is. eq-eqb a b (sym (eqb-true b a is)))
      where
        by : (c d : Bool) → (c ≡ true → d ≡ true) → (d ≡ true → c ≡ true) → c ≡ d
        by true d there back = sym (there refl)
        by false true there back = back refl
        by false false there back = refl

    at : (q j : ℕ) → held_with held e.sender e.slot (record (held e.sender e.slot) { payload = words }) q j ≡ with_payload held e words q j
    at q j =
        by_case q j (e.sender == q) (e.slot == j) (q == e.sender) (j == e.slot) (eqb-true e.sender q) (eqb-true e.slot j) (flip e.sender q) (flip e.slot j)

-- ---- a loan

module _ (p : Setting) (held : Pools) (word : ℕ → ℕ) (c : WireContents) (seats : ℕ → Seat) (w : World) (n : ℕ) (o : NewLoan) (slot : ℕ) (payload : List ℕ)
    (shows : ShowsWorld p held word c seats w) (holds : EndHolds p held c seats w.state n payload (endings.Lends o slot)) (living : not_living w.state n ≡ None) where
  abbrev lent : Pools
  lent = with_payload held (entry_in o slot) payload

  lent_shows : ShowsWorld p lent word c seats w
  lent_shows =
      subst (λ k. ShowsWorld p k word c seats w) (payload_is held (entry_in o slot) payload)
      (unnamed_slots_may_change p held word c seats w o.port slot (record (held o.port slot) { payload = payload }) shows holds.2
      ((shows.counts n living).knows.sent o.port slot))

  -- the new handle has the payload that stands in its slot
  lent_handle : handle_of lent (seats n).node (entry_in o slot) ≡ holding (loan_in p o) payload
  lent_handle =
      rw (eqb-refl o.port) (rw (eqb-refl slot) refl) ∙ ap (λ h. holding h payload) holds.1

-- ---- a write

-- a call that ends so is at its end
at_end : (local : Local) (e : Entry) (words : List ℕ) → ending_at local ≡ Some (endings.Fills e words) → local ≡ locals.Ends (endings.Fills e words)
at_end (locals.Ends ending) e words is = ap locals.Ends (inside ending is)
  where
    inside : (ending : Ending) → Some ending ≡ Some (endings.Fills e words) → ending ≡ endings.Fills e words
    inside ending same = ap (λ k. unwrap k) same
      where
        unwrap : Option Ending → Ending
        unwrap (Some k) = k
        unwrap None = ending
at_end (locals.SendEnds d last count) e words is = absurd (subst IsSends is tt)
  where
    IsSends : Option Ending → Type 0
    IsSends (Some (endings.Fills k words)) = ⊥
    IsSends ending = Unit {0}
at_end local e words is = none-some (endings.Fills e words) is

module _ (p : Setting) (held : Pools) (word : ℕ → ℕ) (c : WireContents) (seats : ℕ → Seat) (w : World) (n : ℕ) (e : Entry) (words payload : List ℕ)
    (shows : ShowsWorld p held word c seats w) (alone : HasAlone p c seats w.state n e) (living : not_living w.state n ≡ None)
    (is : (seats n).local ≡ locals.Ends (endings.Fills e words)) where
  abbrev x : Seat
  x = seats n

  abbrev y : Seat
  y = closed p (seats n) (Some (endings.Fills e words))

  abbrev m : Message
  m = record (held e.sender e.slot) { payload = words }

  abbrev new : Pools
  new = held_with held e.sender e.slot (record (held e.sender e.slot) { payload = words })

  abbrev o : Outcome
  o = Fills (written (handle_of held (seats n).node e) words)

  abbrev u : World
  u = over w (seats n).node payload (Fills (written (handle_of held (seats n).node e) words))

  has : Counts p (seats n) w.state held
  has = shows.counts n living

  beat : IsBeat w (Ends (seats n).node (reply_of p (seats n) (endings.Fills e words)) payload) u
  beat = (
    subst (λ k. not_living w.state k ≡ None) (sym (shows.node n)) living,
    Ended o,
    shows.doing n living ∙ ap (doing_of p w.state.fixed held (seats n).node) is,
    o,
    refl,
    tt,
    replies_are_the_machines p (seats n) w.state held (endings.Fills e words) has,
    refl,
  )

  after : Counts p y u.state new
  after =
      by_part p (seats n) y u.state new (record { node = refl; handles_made = refl; table = refl; borrowed = refl; forgot = refl })
      (subst (Counts p (seats n) u.state) (sym (payload_is held e words))
      (writes_keep_counts p (seats n) w.state held e words payload has alone.filled alone.there alone.numbers alone.own))

  others : (k : ℕ) → (k == n) ≡ false → not_living u.state k ≡ None → Counts p (seats k) u.state new × ShowsDoing p new u (seats k)
  others k other lives =
      let kept : Counts p (seats k) u.state held × ShowsDoing p held u (seats k)
      = others_keep_counts p held w u (Ends (seats n).node (reply_of p (seats n) (endings.Fills e words)) payload) (seats k) shows.reachable beat
      (rw (shows.node k) (rw (shows.node n) other)) (shows.counts k lives) (shows.doing k lives) in (
        counts_same held new p (seats k) u.state (sent_with held e.sender e.slot m (has.knows.sent e.sender e.slot) has.knows.sent)
            (entries_with held e.sender e.slot m (seats k).table (alone.entries k other lives)) kept.0,
        doing_with held e.sender e.slot m p u (seats k) (alone.places k other lives) kept.1,
      )

  tied : Ties p.layout new c w.state
  tied = ties_with held e.sender e.slot m p c w.state alone.ways shows.ties

  filled_shows : ShowsWorld p new word c (put_at seats n y) u
  filled_shows = record {
    reachable = beats_are_reachable w u (Ends (seats n).node (reply_of p (seats n) (endings.Fills e words)) payload) shows.reachable beat;
    sized = shows.sized;
    suits = record { buffer = shows.suits.buffer; kind = shows.suits.kind; returning = shows.suits.returning };
    words =
        words_same p.layout word (programs_of p seats) (programs_of p (put_at seats n y)) c
        (seat_put (λ k z. program_of p (seats k).local ≡ program_of p z.local) seats n y (ap (program_of p) is) (λ k other. refl)) shows.words;
    ties = record { waiting = tied.waiting; in_hand = tied.in_hand; returned = tied.returned };
    states = shows.states;
    ids = shows.ids;
    node = seat_put (λ k z. z.node ≡ k) seats n y (shows.node n) (λ k other. shows.node k);
    counts = seat_put (λ k z. not_living u.state k ≡ None → Counts p z u.state new) seats n y (λ lives. after) (λ k other lives. (others k other lives).0);
    doing =
        seat_put (λ k z. not_living u.state k ≡ None → ShowsDoing p new u z) seats n y (λ lives. put_at-here w.doing (seats n).node None)
        (λ k other lives. (others k other lives).1);
  }

pub ends_show_what_is_held : EndsShowWhatIsHeld
ends_show_what_is_held p held word c seats w n (endings.Lends o slot) payload shows living is knows holds may =
    ends_show_the_world p (lent p held word c seats w n o slot payload shows holds living) word c seats w n (endings.Lends o slot) payload
    (lent_shows p held word c seats w n o slot payload shows holds living) living is knows
    (holds.0, lent_handle p held word c seats w n o slot payload shows holds living) may
ends_show_what_is_held p held word c seats w n (endings.Fills e words) payload shows living is knows holds may =
    let at : (seats n).local ≡ locals.Ends (endings.Fills e words) = at_end (seats n).local e words is in (
      beat p held word c seats w n e words payload shows holds living at,
      subst (λ k. ShowsWorld p k word c (put_at seats n (closed p (seats n) (Some (endings.Fills e words))))
          (over w (seats n).node payload (Fills (written (handle_of held (seats n).node e) words)))) (payload_is held e words)
          (filled_shows p held word c seats w n e words payload shows holds living at),
    )
ends_show_what_is_held p held word c seats w n ending payload shows living is knows holds may =
    ends_show_the_world p held word c seats w n ending payload shows living is knows holds may
