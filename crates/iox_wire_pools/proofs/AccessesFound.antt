-- In a shown world what an access gets back is outstanding, and what it delivers is in use.
use Rattle.std.specs.Prelude.{is_some, ◌<◌}
use Rattle.std.proofs.Common.{◌≡◌, ℕ, Bool, true, false, if◌then◌else◌, ◌==◌, Some, None, refl, ap, sym, subst, ◌∙◌}
use Rattle.iox_model.specs.declared.way.Way.{Way}
use Rattle.iox_model.specs.Joins.{not_living}
use Rattle.iox_model.specs.Maps.{has_number, or_else}
use Rattle.iox_model.specs.Moments.{GetBack, Moment}
use Rattle.iox_model.specs.Weaves.{IsBeat, Makes, World}
use Rattle.iox_laws.proofs.WeaveLaws.WholeLemmas.{some-is}
use Rattle.iox_laws.proofs.WeaveLedger.Truths.{none-some}
use Rattle.iox_steps.specs.Accesses.{seen_by}
use Rattle.iox_steps.specs.Answers.{unpublished_of}
use Rattle.iox_steps.specs.declared.pop.Pop.{Pop}
use Rattle.iox_steps.specs.declared.push.Push.{Push}
use Rattle.iox_steps.specs.declared.push.Push.TheVariants as push
use Rattle.iox_steps.specs.declared.side.Popping.TheVariants as popping
use Rattle.iox_steps.specs.declared.side.Pushing.TheVariants as pushing
use Rattle.iox_steps.specs.declared.side.QueueEvent.{QueueEvent}
use Rattle.iox_steps.specs.declared.side.QueueEvent.TheVariants.{HandOut, Publish, SeesEnd, SeesFull, SeesRoom}
use Rattle.iox_steps.specs.declared.site.Site.{Site}
use Rattle.iox_steps.specs.Pushes.{push_event, room_event}
use Rattle.iox_steps.specs.Sites.{is_full, last_position}
use Rattle.iox_word_map.specs.WordMaps.{MessageQueue, ReturningQueue}
use Rattle.iox_wire_words.specs.Fits.{WireContents, contents_after}
use Rattle.iox_wire_words.specs.Programs.{program_access, site_of}
use Rattle.iox_wire_moments.specs.MomentsOf.{Pools, get_back_moment, push_moment, serial_in}
use Rattle.iox_wire_locals.specs.declared.local.Local.{Local}
use Rattle.iox_wire_locals.specs.declared.local.Local.TheVariants.{LendEmpties, SendEmpties, SendGetsBack, SendPushes}
use Rattle.iox_wire_locals.specs.declared.seat.Seat.{Seat}
use Rattle.iox_wire_locals.specs.Locals.{program_of}
use Rattle.iox_wire_locals.specs.StateMoments.{moment_at}
use Rattle.iox_wire_locals.specs.StepLaws.{ReliesOn}
use Rattle.iox_wire_locals.specs.Steps.{accessed, advance, pop_finds}
use Rattle.iox_wire_locals.specs.Tables.{Setting}
use Rattle.iox_wire_laws.specs.WireKeeping.Records.{RecordsFit, record_of, recorded_of}
use Rattle.iox_wire_laws.specs.WireKeeping.Shows.{OwnsPlace, PlaceKnows, ShowsWorld}
use Rattle.iox_wire_laws.specs.WireKeeping.StepBeats.{ShowsStep}
use Rattle.iox_wire_laws.specs.WireKeeping.UsedSlots.{slots_in_call, slots_used}
use Rattle.iox_wire_laws.proofs.WireKeeping.StepBeats.{steps_are_beats}
use Rattle.iox_wire_pools.specs.FoundUses.{AccessesFindUsed, SendsFrom, SendsThere, SerialsAreApart}
use Rattle.iox_wire_pools.specs.Uses.{AllUsesAreCounted, UsesAreCounted}
use Rattle.iox_wire_pools.specs.UsesLaws.{FindsUsed, IsOut}
use Rattle.iox_wire_pools.proofs.FoundUses.{sent_is_used, what_is_got_back_is_out}

-- ---- a push publishes its own value

abbrev pub Only : ℕ → QueueEvent → Type 0
Only own (Publish value) = value ≡ own
Only own event = Unit {0}

room_or_not : (own : ℕ) (b : Bool) → Only own (if b then SeesFull else SeesRoom)
room_or_not own true = tt
room_or_not own false = tt

end_or_not : (own : ℕ) (b : Bool) (site : Site) (read write : ℕ) → Only own (if b then SeesEnd else room_event site read write)
end_or_not own true site read write = tt
end_or_not own false site read write = room_or_not own (is_full site read write)

pub only : (own : ℕ) (site : Site) (place : Push) (seen : ℕ) → unpublished_of place ≡ Some own → Only own (push_event site place seen)
only own site (push.LoadsWrite value) seen mine = tt
only own site (push.LoadsRead value write) seen mine = end_or_not own (write == last_position) site seen write
only own site (push.StoresCell value cell next full) seen mine = tt
only own site (push.StoresWrite value next full) seen mine = some-is value own mine
only own site (push.Evicts read) seen mine = absurd (none-some own mine)
only own site (push.TakesOld cell) seen mine = absurd (none-some own mine)

-- ---- the access

module _ (p : Setting) (held : Pools) (word : ℕ → ℕ) (c : WireContents) (seats : ℕ → Seat) (w : World) (n : ℕ)
    (shows : ShowsWorld p held word c seats w) (living : not_living w.state n ≡ None) where
  abbrev x : Seat
  x = seats n

  abbrev seen : ℕ
  seen = seen_by (program_access p.layout (program_of p x.local)) word

  module _ (owns : OwnsPlace p held w.state x) (relies : ReliesOn p (accessed x) w.state held x.local seen) (fits : RecordsFit held w.state x)
      (all : AllUsesAreCounted p x) where
    beat : (m : Moment) → moment_at p held x.local seen ≡ Some m → (u : World) × IsBeat w (Makes x.node m) u
    beat m is =
        let r = subst (ShowsStep p held (contents_after p.layout (program_of p x.local) seen c) w x (advance p (accessed x) x.local seen)) is
        (steps_are_beats p held word c seats w n shows living owns relies) in
        (r.0, r.1)

    -- what is got back is outstanding
    out : (port : ℕ) (v : Way) (slot : ℕ) → SendsFrom p held w.state x port v → slot < (p.port port).pool
        → moment_at p held x.local seen ≡ Some (GetBack v (serial_in held v slot)) → IsOut x port v slot
    out port v slot sends low is =
        let u = beat (GetBack v (serial_in held v slot)) is in
        let back : (k : ℕ) → v.sender ≡ k → SerialsAreApart held k (p.port port).pool → UsesAreCounted x k (p.port port).pool
        → is_some (record_of v (recorded_of x k)) ≡ true → IsOut x v.sender v slot
        = λ k at apart counted there.
        what_is_got_back_is_out held w u.0 x v slot (p.port port).pool shows.reachable u.1 sends.goes fits
        (subst (λ j. is_some (record_of v (recorded_of x j)) ≡ true) (sym at) there)
        (subst (λ j. UsesAreCounted x j (p.port port).pool) (sym at) counted)
        (subst (λ j. SerialsAreApart held j (p.port port).pool) (sym at) apart) low in
        (sends.from, (back port sends.from sends.apart (all port sends.own) sends.recorded).1)

    got : (local : Local) (v : Way) (place : Pop) → x.local ≡ local
        → ((k : ℕ) → moment_at p held local k ≡ or_else (get_back_moment held v (pop_finds p (ReturningQueue v) (popping.Pops place) k)) None)
        → (slot : ℕ) → pop_finds p (ReturningQueue v) (popping.Pops place) seen ≡ HandOut slot
        → moment_at p held x.local seen ≡ Some (GetBack v (serial_in held v slot))
    got local v place is at slot event =
        ap (λ l. moment_at p held l seen) is ∙ at seen ∙ ap (λ e. or_else (get_back_moment held v e) None) event

    finds : (local : Local) → x.local ≡ local → ReliesOn p (accessed x) w.state held local seen → PlaceKnows p x w.state held local
        → SendsThere p held w.state x local seen → FindsUsed p x local seen
    finds (LendEmpties o v (popping.Pops place) left) is relies knows there =
        λ slot event. out o.port v slot there.0 (there.1 slot event) (got (LendEmpties o v (popping.Pops place) left) v place is (λ k. refl) slot event)
    finds (LendEmpties o v (popping.Looks place) left) is relies knows there = absurd relies
    finds (LendEmpties o v popping.AtRest left) is relies knows there = absurd relies
    finds (SendEmpties d v (popping.Pops place) left) is relies knows there =
        λ slot event. out d.loan.port v slot there.0 (there.1 slot event) (got (SendEmpties d v (popping.Pops place) left) v place is (λ k. refl) slot event)
    finds (SendEmpties d v (popping.Looks place) left) is relies knows there = absurd relies
    finds (SendEmpties d v popping.AtRest left) is relies knows there = absurd relies
    finds (SendPushes d last v (pushing.Pushes place) left count) is relies knows there =
        λ slot event. (
          there.0.from,
          there.0.recorded,
          subst (λ k. has_number k (slots_used x d.loan.port) ≡ true)
              (sym (subst (Only d.loan.slot) event (only d.loan.slot (site_of p.layout (MessageQueue v)) place seen knows.0)))
              (sent_is_used x d (ap (slots_in_call d.loan.port) is) there.1),
        )
    finds (SendPushes d last v (pushing.Looks place) left count) is relies knows there = absurd relies
    finds (SendPushes d last v pushing.AtRest left count) is relies knows there = absurd relies
    finds (SendGetsBack d v (pushing.Pushes (push.TakesOld cell)) left count) is relies knows there =
        λ slot event. out d.loan.port v slot there.0 (there.1 slot event)
        (ap (λ l. moment_at p held l seen) is ∙ ap (λ e. or_else (push_moment held v e) None) event)
    finds (SendGetsBack d v (pushing.Pushes (push.LoadsWrite value)) left count) is relies knows there = absurd relies
    finds (SendGetsBack d v (pushing.Pushes (push.LoadsRead value write)) left count) is relies knows there = absurd relies
    finds (SendGetsBack d v (pushing.Pushes (push.StoresCell value cell next full)) left count) is relies knows there = absurd relies
    finds (SendGetsBack d v (pushing.Pushes (push.StoresWrite value next full)) left count) is relies knows there = absurd relies
    finds (SendGetsBack d v (pushing.Pushes (push.Evicts read)) left count) is relies knows there = absurd relies
    finds (SendGetsBack d v (pushing.Looks place) left count) is relies knows there = absurd relies
    finds (SendGetsBack d v pushing.AtRest left count) is relies knows there = absurd relies
    finds local is relies knows there = tt

pub accesses_find_used : AccessesFindUsed
accesses_find_used p held word c seats w n shows living owns relies fits all there =
    finds p held word c seats w n shows living owns relies fits all (seats n).local refl relies owns.knows there
