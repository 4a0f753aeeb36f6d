-- As a loan ends, its slot may be taken to hold that loan: nobody names it yet.
use Rattle.std.proofs.Common.{◌≡◌, ℕ, Bool, true, false, if◌then◌else◌, ◌==◌, ◌&&◌, List, Some, None, refl, ap, sym, subst, ◌∙◌, eq-eqb, eqb-true, true≢false}
use Rattle.iox_model.specs.Joins.{not_living}
use Rattle.iox_model.specs.Maps.{put_at}
use Rattle.iox_model.specs.Messages.{Message}
use Rattle.iox_model.specs.Weaves.{Ends, IsBeat, World, over}
use Rattle.iox_model.specs.WholeCalls.{MayHold}
use Rattle.iox_laws.proofs.WeaveLaws.WholeLemmas.{split}
use Rattle.iox_wire_words.specs.Fits.{WireContents}
use Rattle.iox_wire_moments.specs.MomentsOf.{Pools}
use Rattle.iox_wire_locals.specs.declared.local.Ending.{Ending}
use Rattle.iox_wire_locals.specs.declared.local.Ending.TheVariants as endings
use Rattle.iox_wire_locals.specs.declared.local.Local.TheVariants as locals
use Rattle.iox_wire_locals.specs.declared.seat.Seat.{Seat}
use Rattle.iox_wire_locals.specs.declared.table.NewLoan.{NewLoan}
use Rattle.iox_wire_locals.specs.Doings.{outcome_of}
use Rattle.iox_wire_locals.specs.NewLoans.{message_in}
use Rattle.iox_wire_locals.specs.Settlements.{reply_of}
use Rattle.iox_wire_locals.specs.Steps.{closed}
use Rattle.iox_wire_locals.specs.Tables.{Setting}
use Rattle.iox_wire_laws.specs.WireKeeping.UsedSlots.{CallHolds}
use Rattle.iox_wire_laws.specs.WireHolding.Holding.{held_ended, held_with}
use Rattle.iox_wire_laws.specs.WireHolding.Named.{IsUnnamed, place_names}
use Rattle.iox_wire_laws.specs.WireHolding.SlotsKnown.{IsPortOfSeat, NamesStand, PlaceStands}
use Rattle.iox_wire_laws.proofs.WireHolding.HoldingLaws.{one_slot_changes}
use Rattle.iox_wire_laws.proofs.WireHolding.UnnamedSlots.{unnamed_slots_may_change}
use Rattle.iox_wire_laws.proofs.WireHolding.UnsentSlots.{new_loans_are_unnamed}
use Rattle.iox_wire_stands.specs.Following.{message_at}
use Rattle.iox_wire_stands.specs.Nodes.{NodeStands}
use Rattle.iox_wire_stands.specs.Stands.{AreNumbered}
use Rattle.iox_wire_stands.specs.StepLaws.{TakenStays}
use Rattle.iox_wire_stands.proofs.OtherSlots.{other_slots_may_change}
use Rattle.iox_wire_stands.proofs.OthersHold.{named_taken}
use Rattle.iox_wire_stands.proofs.StepsAround.{Around, Whole}
use Rattle.iox_wire_steps.specs.WholeSteps.{held_closed}
use Rattle.iox_wire_steps.specs.Over.{EndIsTold, CallIsOver}
use Rattle.iox_wire_steps.proofs.Added as added
use Rattle.iox_wire_steps.proofs.EndsWhole.{HoldsLoan, ends_there, ends_whole}
use Rattle.iox_wire_steps.proofs.Homes as homes
use Rattle.iox_wire_steps.proofs.Knowing.{outcome_fits}
use Rattle.iox_wire_steps.proofs.OwnSlotsApart.{lent_differs}
use Rattle.iox_wire_steps.proofs.SameSerials.{SameSerials, known_too}

module _ (p : Setting) (held : Pools) (word : ℕ → ℕ) (c : WireContents) (seats : ℕ → Seat) (w : World) (n : ℕ) (numbered : AreNumbered p)
    (around : Around p held word c seats w n) (living : not_living w.state n ≡ None) where
  abbrev x : Seat
  x = seats n

  -- what the end leads to
  abbrev Ended : Ending → List ℕ → Type 0
  Ended ending payload =
      IsBeat w (Ends x.node (reply_of p x ending) payload) (over w x.node payload (outcome_of p held x.node ending))
      × Whole p (held_closed p held payload (Some ending)) word c (put_at seats n (closed p x (Some ending))) (over w x.node payload (outcome_of p held x.node ending))

  abbrev EndedSo : Ending → List ℕ → Type 0
  EndedSo ending payload =
      IsBeat w (Ends x.node (reply_of p x ending) payload) (over w x.node payload (outcome_of p held x.node ending))
      × Whole p (held_ended held payload ending) word c (put_at seats n (closed p x (Some ending))) (over w x.node payload (outcome_of p held x.node ending))

  ended_with : (ending : Ending) (payload : List ℕ) → CallIsOver p held w.state x ending → EndIsTold p held w.state x ending → HoldsLoan p held ending
      → MayHold w.state.fixed (outcome_of p held x.node ending) payload → EndedSo ending payload
  ended_with ending payload ends told loan may =
      let led = ends_whole p held word c seats w n ending payload numbered around.shows around.layout around.owners around.rooms around.queues around.nodes living
      ends told loan may in
      (led.0, led.1)

  -- ---- a loan

  module _ (o : NewLoan) (slot : ℕ) (payload : List ℕ) (ends : CallIsOver p held w.state x (endings.Lends o slot))
      (may : MayHold w.state.fixed (outcome_of p held x.node (endings.Lends o slot)) payload) where
    abbrev lent : Pools
    lent = held_with held o.port slot (message_in p o)

    at : x.local ≡ locals.Ends (endings.Lends o slot)
    at = ends_there x.local (endings.Lends o slot) tt ends.at_end

    own : IsPortOfSeat p x o.port
    own =
        homes.at_home p held word c seats w n around.shows living around.owners numbered o.port
        (outcome_fits p held word c seats w n (endings.Lends o slot) around.shows living ends.at_end).1.1

    serial : (held o.port slot).serial ≡ o.serial
    serial = subst (CallHolds held) at (ends.slots.ports o.port own).call

    names : (k : ℕ) → not_living w.state k ≡ None → NamesStand p w.state.fixed (seats k)
    names k lives = by_node (k == n) refl
      where
        by_node : (b : Bool) → (k == n) ≡ b → NamesStand p w.state.fixed (seats k)
        by_node true is =
            subst (λ i. NamesStand p w.state.fixed (seats i)) (sym (eqb-true k n is))
            (record { entries = ends.entries; place = subst (PlaceStands p w.state.fixed x) (sym at) tt })
        by_node false other = (around.nodes k other lives).names

    unnamed : IsUnnamed p c seats w.state o.port slot
    unnamed =
        new_loans_are_unnamed p held word c seats w n o slot around.shows around.layout names living at serial
        (added.lent_in_pool p held word c seats w n around.shows living around.layout o slot ends.at_end (ends.uses o.port own))
        (lent_differs p held word c seats w n around.shows living ends.entries ends.numbers o slot ends.at_end serial)

    elsewhere : (q j : ℕ) → (o.port ≡ q → slot ≡ j → ⊥) → lent q j ≡ held q j
    elsewhere = (one_slot_changes held o.port slot (message_in p o)).1

    same_serials : SameSerials held lent
    same_serials port j = by_case ((o.port == port) && (slot == j)) (λ is.
        let parts = split (o.port == port) (slot == j) is in
        sym serial ∙ ap (λ q. (held q slot).serial) (eqb-true o.port port parts.0) ∙ ap (λ i. (held port i).serial) (eqb-true slot j parts.1))
      where
        by_case : (b : Bool) → (b ≡ true → o.serial ≡ (held port j).serial)
            → (if b then message_in p o else held port j).serial ≡ (held port j).serial
        by_case true same = same refl
        by_case false same = refl

    other : (k : ℕ) → (k == n) ≡ false → not_living w.state k ≡ None → NodeStands p lent w.state (seats k)
    other k not_n lives = other_slots_may_change p held lent w.state (seats k) own_same taken (around.nodes k not_n lives)
      where
        own_same : (port j : ℕ) → IsPortOfSeat p (seats k) port → lent port j ≡ held port j
        own_same port j its =
            elsewhere port j (λ same there. true≢false (sym (eq-eqb k n
            (sym (around.shows.node k) ∙ sym its.1 ∙ ap p.layout.owner (sym same) ∙ own.1 ∙ around.shows.node n)) ∙ not_n))

        taken : TakenStays held lent (message_at (seats k).local)
        taken v j is =
            elsewhere v.sender j (λ same there. true≢false (sym (named_taken (seats k).local v j is)
            ∙ subst (λ i. place_names (seats k).local v.sender i ≡ false) there
            (subst (λ q. place_names (seats k).local q slot ≡ false) same (unnamed.places k lives))))

    around_lent : Around p lent word c seats w n
    around_lent = record {
      shows = unnamed_slots_may_change p held word c seats w o.port slot (message_in p o) around.shows unnamed refl;
      layout = around.layout;
      owners = around.owners;
      rooms = around.rooms;
      queues = around.queues;
      nodes = other;
    }

    over_lent : CallIsOver p lent w.state x (endings.Lends o slot)
    over_lent = record {
      at_end = ends.at_end;
      last = ends.last;
      message = tt;
      takes = ends.takes;
      entries = ends.entries;
      in_pools = ends.in_pools;
      slots = known_too p held lent w.state x same_serials (subst (CallHolds lent) (sym at) here) ends.slots;
      at_desks = ends.at_desks;
      uses = ends.uses;
      loans = ends.loans;
      borrowed = ends.borrowed;
      counted = ends.counted;
      numbers = ends.numbers;
      released = ends.released;
      states = ends.states;
    }
      where
        here : (lent o.port slot).serial ≡ o.serial
        here = ap (λ (m : Message). m.serial) (one_slot_changes held o.port slot (message_in p o)).0

    loan_ended : Ended (endings.Lends o slot) payload
    loan_ended =
        let led = ends_whole p lent word c seats w n (endings.Lends o slot) payload numbered around_lent.shows around_lent.layout around_lent.owners around_lent.rooms
        around_lent.queues around_lent.nodes living over_lent tt (one_slot_changes held o.port slot (message_in p o)).0 may in
        (led.0, led.1)

  -- ---- any end

  pub ends_led : (ending : Ending) (payload : List ℕ) → CallIsOver p held w.state x ending → EndIsTold p held w.state x ending
      → MayHold w.state.fixed (outcome_of p held x.node ending) payload → Ended ending payload
  ends_led (endings.Lends o slot) payload ends told may = loan_ended o slot payload ends may
  ends_led ending payload ends told may = ended_with ending payload ends told tt may
