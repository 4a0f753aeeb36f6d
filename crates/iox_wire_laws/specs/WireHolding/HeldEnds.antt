-- After the end of a node's call, words and seats show the next world, with what slots hold then.
use Rattle.std.specs.Prelude.{◌≡◌, ℕ, true, false, not, ◌||◌, ◌==◌, List, map, Some, None}
use Rattle.std.specs.List.{list_all, list_any}
use Rattle.iox_model.specs.Handles.{filled_kind}
use Rattle.iox_model.specs.Joins.{not_living}
use Rattle.iox_model.specs.Maps.{put_at, AreDistinct}
use Rattle.iox_model.specs.States.{State}
use Rattle.iox_model.specs.Weaves.{World, Ends, IsBeat, over}
use Rattle.iox_model.specs.WholeCalls.{MayHold}
use Rattle.iox_wire_words.specs.Fits.{WireContents}
use Rattle.iox_wire_moments.specs.MomentsOf.{Pools}
use Rattle.iox_wire_locals.specs.declared.local.Ending.{Ending}
use Rattle.iox_wire_locals.specs.declared.local.Ending.TheVariants.{Lends, Fills}
use Rattle.iox_wire_locals.specs.declared.seat.Seat.{Seat}
use Rattle.iox_wire_locals.specs.declared.table.Entry.{Entry}
use Rattle.iox_wire_locals.specs.Doings.{outcome_of}
use Rattle.iox_wire_locals.specs.EndLaws.{EndReliesOn}
use Rattle.iox_wire_locals.specs.NewLoans.{entry_in, loan_in}
use Rattle.iox_wire_locals.specs.Settlements.{reply_of}
use Rattle.iox_wire_locals.specs.Steps.{ending_at, closed}
use Rattle.iox_wire_locals.specs.Tables.{Setting, entry_at, handle_of}
use Rattle.iox_wire_laws.specs.WireKeeping.Shows.{ShowsWorld, EndKnows}
use Rattle.iox_wire_laws.specs.WireKeeping.Writes.{is_slot_of}
use Rattle.iox_wire_laws.specs.WireHolding.Holding.{held_ended}
use Rattle.iox_wire_laws.specs.WireHolding.Named.{IsOnNoWay, IsUnnamed, place_names}

-- The filled loan is one of the node's entries, and nobody else names its slot.
pub record HasAlone (p : Setting) (c : WireContents) (seats : ℕ → Seat) (s : State) (n : ℕ)
    (e : Entry) : Type 0 where
  pub filled : filled_kind e.kind ≡ e.kind
  pub there : entry_at e.number (seats n).table ≡ Some e
  pub numbers : AreDistinct (map (λ k. k.number) (seats n).table)
  pub own : list_all (λ k. (k.number == e.number) || not (is_slot_of e k.sender k.slot))
      (seats n).table ≡ true
  pub ways : IsOnNoWay p c s e.sender e.slot
  pub entries : (k : ℕ) → (k == n) ≡ false → not_living s k ≡ None
      → list_any (λ q. is_slot_of q e.sender e.slot) (seats k).table ≡ false
  pub places : (k : ℕ) → (k == n) ≡ false → not_living s k ≡ None
      → place_names (seats k).local e.sender e.slot ≡ false

-- What the end of a call relies on: the slot of a new loan holds the loan, and nobody else names
-- it; so it is with the slot that a write filled.
abbrev pub EndHolds : Setting → Pools → WireContents → (ℕ → Seat) → State → ℕ → List ℕ → Ending
    → Type 0
EndHolds p held c seats s n payload (Lends o slot) =
    ((p.port o.port).node ≡ (seats n).node)
    × (handle_of held (seats n).node (entry_in o slot) ≡ loan_in p o)
    × IsUnnamed p c seats s o.port slot
EndHolds p held c seats s n payload (Fills e words) = HasAlone p c seats s n e
EndHolds p held c seats s n payload ending = EndReliesOn p (seats n) held payload ending

-- Where words and seats show a world, a call of a living node that has no access left ends as in
-- the machine. The same words, with the node's call closed, show the world after it, with what
-- slots hold then.
abbrev pub EndsShowWhatIsHeld : Type 0
EndsShowWhatIsHeld =
    (p : Setting) (held : Pools) (word : ℕ → ℕ) (c : WireContents) (seats : ℕ → Seat) (w : World)
    (n : ℕ) (ending : Ending) (payload : List ℕ)
    → ShowsWorld p held word c seats w → not_living w.state n ≡ None
    → let x = seats n in let o = outcome_of p held x.node ending in
    let u = over w x.node payload o in
    ending_at x.local ≡ Some ending → EndKnows p x w.state x.local
    → EndHolds p held c seats w.state n payload ending → MayHold w.state.fixed o payload
    → IsBeat w (Ends x.node (reply_of p x ending) payload) u
    × ShowsWorld p (held_ended held payload ending) word c
    (put_at seats n (closed p x (Some ending))) u
