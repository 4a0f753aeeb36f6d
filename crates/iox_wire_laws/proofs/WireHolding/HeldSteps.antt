-- An access that takes a slot: the slot holds the loan's message before, since nobody names it.
use Rattle.std.specs.Prelude.{◌++◌}
use Rattle.std.proofs.Common.{◌≡◌, ℕ, true, ◌==◌, ◌+◌, List, [], ◌∷◌, length, None, refl, sym, subst}
use Rattle.iox_model.specs.declared.way.RequestState.{RequestState}
use Rattle.iox_model.specs.declared.way.Way.{Way}
use Rattle.iox_model.specs.Joins.{not_living}
use Rattle.iox_model.specs.Maps.{has_number, put_at}
use Rattle.iox_model.specs.States.{Fixed, State}
use Rattle.iox_model.specs.Weaves.{World}
use Rattle.iox_laws.proofs.WeaveLaws.MapLemmas.{either, eqb-refl}
use Rattle.iox_laws.proofs.WeaveLedger.Truths.{or-left}
use Rattle.iox_steps.specs.declared.side.Popping.{Popping}
use Rattle.iox_steps.specs.declared.side.Popping.TheVariants as popping
use Rattle.iox_steps.specs.declared.side.QueueEvent.{QueueEvent}
use Rattle.iox_steps.specs.declared.side.QueueEvent.TheVariants.{HandOut, SeesEmpty}
use Rattle.iox_steps.specs.Accesses.{seen_by}
use Rattle.iox_wire_words.specs.Programs.{program_access}
use Rattle.iox_wire_words.specs.Fits.{WireContents, contents_after}
use Rattle.iox_wire_words.specs.Laws.{AccessIsMade}
use Rattle.iox_wire_moments.specs.MomentsOf.{Pools}
use Rattle.iox_wire_locals.specs.declared.local.Ending.TheVariants as endings
use Rattle.iox_wire_locals.specs.declared.local.Local.{Local}
use Rattle.iox_wire_locals.specs.declared.local.Local.TheVariants.{LendEmpties, LendStores, Writes, Reads}
use Rattle.iox_wire_locals.specs.declared.seat.Seat.{Seat}
use Rattle.iox_wire_locals.specs.declared.table.NewLoan.{NewLoan}
use Rattle.iox_wire_locals.specs.Courses as courses
use Rattle.iox_wire_locals.specs.Findings as findings
use Rattle.iox_wire_locals.specs.Known.{free_slots}
use Rattle.iox_wire_locals.specs.Locals.{program_of}
use Rattle.iox_wire_locals.specs.NewLoans.{message_in}
use Rattle.iox_wire_locals.specs.StateMoments.{moment_at}
use Rattle.iox_wire_locals.specs.StepLaws.{ReliesOn}
use Rattle.iox_wire_locals.specs.Steps.{advance, accessed}
use Rattle.iox_wire_locals.specs.Tables.{Setting, words_to_read}
use Rattle.iox_wire_laws.specs.WireKeeping.Shows.{ShowsWorld}
use Rattle.iox_wire_laws.specs.WireShows.OwnedCalls.{LimitsAreKnown, OwnsCall, TellsLane, WordsTell, state_after}
use Rattle.iox_wire_laws.specs.WireShows.StepsShow.{ShowsNext}
use Rattle.iox_wire_laws.proofs.WireShows.OwnedSteps.{steps_own_the_next_place}
use Rattle.iox_wire_laws.specs.WireRegions.OwnedWords.{FreeSlotsAreThePools, Owns}
use Rattle.iox_wire_laws.specs.WireRegions.OwnedWordLaws.{TakesLane}
use Rattle.iox_wire_laws.proofs.WireRegions.OwnedNext.{owners_go_on}
use Rattle.iox_wire_laws.specs.WireHolding.HeldSteps.{FreeSlotsAreUnnamed, StepsShowWhatIsHeld}
use Rattle.iox_wire_laws.specs.WireHolding.Holding.{held_at, held_from, held_with}
use Rattle.iox_wire_laws.proofs.WireHolding.UnnamedSlots.{unnamed_slots_may_change}

module _ (p : Setting) (held : Pools) where
  -- where no words of messages are accessed, no slot was taken
  pub elsewhere : (n : ℕ) (f : Fixed) (shown : Way → RequestState) (local : Local) → OwnsCall p n f shown local → held_at p held local ≡ held
  elsewhere n f shown (LendStores o slot next) owns = absurd owns
  elsewhere n f shown local owns = refl

  from_is : (old new : Local) → held_at p held new ≡ held → held_from p held old new ≡ held
  from_is (LendStores o slot next) new same = refl
  from_is old new same = same

module _ (p : Setting) (held : Pools) (word word' : ℕ → ℕ) (c : WireContents) (seats : ℕ → Seat) (w : World) (n : ℕ)
    (shows : ShowsWorld p held word c seats w) (living : not_living w.state n ≡ None) where
  abbrev x : Seat
  x = seats n

  abbrev seen : ℕ
  seen = seen_by (program_access p.layout (program_of p (seats n).local)) word

  abbrev y : Seat
  y = advance p (accessed (seats n)) (seats n).local (seen_by (program_access p.layout (program_of p (seats n).local)) word)

  abbrev Goal : Pools → Type 0
  Goal new =
      let t : State = state_after w.state (moment_at p new (seats n).local seen) in
      ShowsNext p new word' (contents_after p.layout (program_of p (seats n).local) seen c) (put_at seats n y) w n
      (moment_at p new (seats n).local seen)
      × Owns p y.node t.fixed t.request_state y.local

  module _ (free : FreeSlotsAreUnnamed p c seats w.state (seats n)) (owns : Owns p (seats n).node w.state.fixed w.state.request_state (seats n).local)
      (pools : FreeSlotsAreThePools p (seats n)) (limits : LimitsAreKnown p (seats n) w.state.fixed) (tells : WordsTell p (seats n).local seen)
      (lent : TakesLane p (seats n).local y.local) (made : AccessIsMade (program_access p.layout (program_of p (seats n).local)) word word') where
    go : (new : Pools) → ShowsWorld p new word c seats w → TellsLane new (seats n).local
        → ReliesOn p (accessed (seats n)) w.state new (seats n).local seen → Goal new
    go new shown lane relies = owners_go_on p new word word' c seats w n shown living owns pools lane limits tells relies lent made

    -- ---- a loan

    module _ (o : NewLoan) (any : (new : Pools) → ShowsWorld p new word c seats w → Goal new) where
      taken : (slots : List ℕ) → ((slot : ℕ) → has_number slot slots ≡ true → has_number slot (free_slots (seats n) o.port) ≡ true)
          → Goal (held_at p held (courses.takes_slot (accessed (seats n)) o slots).local)
      taken [] there = any held shows
      taken (slot ∷ slots) there =
          any (held_with held o.port slot (message_in p o))
          (unnamed_slots_may_change p held word c seats w o.port slot (message_in p o) shows
          (free o.port slot (there slot (or-left (slot == slot) (has_number slot slots) (eqb-refl slot)))) refl)

      loaned : (left : List Way) → Goal (held_at p held (courses.loaning (accessed (seats n)) o left).local)
      loaned [] = taken (free_slots (seats n) o.port) (λ slot there. there)
      loaned (v ∷ left) = any held shows

      emptied : (v : Way) (left : List Way) (place : Popping) (event : QueueEvent)
          → Goal (held_at p held (findings.loan_emptied (accessed (seats n)) o v left place event).local)
      emptied v left place (HandOut slot) = any held shows
      emptied v left place SeesEmpty = loaned left
      emptied v left place event = any held shows

    -- ---- all places

    module _ (lane : TellsLane held (seats n).local) (relies : ReliesOn p (accessed (seats n)) w.state held (seats n).local seen) where
      abbrev Stays : Local → Type 0
      Stays local = held_from p held local (advance p (accessed (seats n)) local seen).local ≡ held

      others : (local : Local) → (seats n).local ≡ local → OwnsCall p (seats n).node w.state.fixed w.state.request_state local → Stays local
      others local is own =
          let s : State = w.state in
          let t : State = state_after s (moment_at p held (seats n).local seen) in
          subst Stays is
          (from_is p held (seats n).local y.local
          (elsewhere p held y.node t.fixed t.request_state y.local
          (steps_own_the_next_place p held s (seats n) seen (subst (OwnsCall p (seats n).node s.fixed s.request_state) (sym is) own) limits relies tells)))

      by_place : (local : Local) → (seats n).local ≡ local → Owns p (seats n).node w.state.fixed w.state.request_state local
          → ReliesOn p (accessed (seats n)) w.state held local seen
          → Goal (held_from p held local (advance p (accessed (seats n)) local seen).local)
      by_place (LendEmpties o v (popping.Pops place) left) is own rests =
          emptied o
          (λ new shown. go new shown (subst (TellsLane new) (sym is) tt) (subst (λ l. ReliesOn p (accessed (seats n)) w.state new l seen) (sym is) rests))
          v left _ _
      by_place (LendEmpties o v place left) is own rests = absurd rests
      by_place (LendStores o slot next) is own rests = go held shows lane relies
      by_place (Writes e words next) is own rests =
          either (λ (z : Seat). Goal (held_at p held z.local)) (next + 1 == length words) (courses.ended (accessed (seats n)) (endings.Fills e words))
          (courses.placed (accessed (seats n)) (Writes e words (next + 1))) (λ last. go held shows lane relies) (λ more. go held shows lane relies)
      by_place (Reads e words) is own rests =
          either (λ (z : Seat). Goal (held_at p held z.local)) (length (words ++ seen ∷ []) == words_to_read p e)
          (courses.ended (accessed (seats n)) (endings.Words (words ++ seen ∷ [])))
          (courses.placed (accessed (seats n)) (Reads e (words ++ seen ∷ []))) (λ last. go held shows lane relies) (λ more. go held shows lane relies)
      by_place local is own rests = subst Goal (sym (others local is own)) (go held shows lane relies)

pub steps_show_what_is_held : StepsShowWhatIsHeld
steps_show_what_is_held p held word word' c seats w n shows living free owns pools lane limits tells relies lent made =
    by_place p held word word' c seats w n shows living free owns pools limits tells lent made lane relies (seats n).local refl owns relies
