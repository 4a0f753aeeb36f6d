-- Desks tell the serials of their slots on a wire, as nodes make steps and begin calls.
use Rattle.std.specs.Prelude.{◌⊎◌, ◌&&◌}
use Rattle.std.proofs.Common.{◌≡◌, ℕ, Bool, true, false, if◌then◌else◌, ◌==◌, List, Option, Some, None, refl, ap, sym, subst, ◌∙◌, inl, inr, eqb-true, true≢false}
use Rattle.iox_model.specs.Commands.{WireCall}
use Rattle.iox_model.specs.Maps.{put_at}
use Rattle.iox_model.specs.Messages.{Message}
use Rattle.iox_laws.proofs.WeaveLaws.MapLemmas.{eqb-refl}
use Rattle.iox_wire_calls.specs.Aside.{shown, shown_at}
use Rattle.iox_wire_calls.specs.Begins.{begin}
use Rattle.iox_wire_calls.specs.FarSlots.{IsInPool}
use Rattle.iox_wire_calls.specs.Following.{CallMessage, IsLending, Lent, message_at}
use Rattle.iox_wire_calls.specs.Holding.{held_at}
use Rattle.iox_wire_calls.specs.LoanSlots.{HoldsLoan}
use Rattle.iox_wire_calls.specs.Local.{Local}
use Rattle.iox_wire_calls.specs.Local.TheVariants.{LendStores, ReleaseExchanges, ReleaseLooks}
use Rattle.iox_wire_calls.specs.MomentsOf.{Pools}
use Rattle.iox_wire_calls.specs.NewLoan.{NewLoan}
use Rattle.iox_wire_calls.specs.Runs.{Asked, Run}
use Rattle.iox_wire_calls.specs.Seat.{Seat}
use Rattle.iox_wire_calls.specs.SlotsKnown.{IsPortOfSeat}
use Rattle.iox_wire_calls.specs.Stands.{Player, seats_of}
use Rattle.iox_wire_calls.specs.Steps.{accessed, advance, closed, ending_at, next}
use Rattle.iox_wire_calls.specs.Tables.{Setting}
use Rattle.iox_wire_calls.specs.WholeSteps.{held_next, player_next}
use Rattle.iox_wire_calls.specs.Ending.{Ending}
use Rattle.iox_wire_calls.proofs.CountsKept.{begins_keep_own, steps_keep_own}
use Rattle.iox_wire_calls.proofs.PlaceEnds.{settled_node}
use Rattle.iox_wire_calls.proofs.StepsKept.{shown_same}
use Rattle.iox_wire_calls.proofs.StepsWhole.{IsLeft, IsOther, leaving_none}
use Rattle.iox_wire_keeps.specs.Serials.{TellsSerials}
use Rattle.iox_wire_keeps.specs.WireStands.{WireStands}
use Rattle.iox_wire_keeps.proofs.Serials.{HoldsOwn, Same, Took, begins_so, serial_with, steps_so, told_after, told_same}

-- ---- a node as it is shown

node_alike : (p : Setting) (x : Seat) (local : Local) → (shown_at p x local).node ≡ x.node
node_alike p x (ReleaseLooks e) = refl
node_alike p x (ReleaseExchanges e old) = refl
node_alike p x local = refl

left_or_not : (local : Local) → IsOther local ⊎ IsLeft local
left_or_not (ReleaseLooks e) = inr tt
left_or_not (ReleaseExchanges e old) = inr tt
left_or_not local = inl tt

no_loan : (local : Local) → IsLeft local → IsLending local → ⊥
no_loan (ReleaseLooks e) left lends = lends
no_loan (ReleaseExchanges e old) left lends = lends
no_loan local left lends = left

none_shown : (p : Setting) (x : Seat) (local : Local) → IsLeft local → IsLending (shown_at p x local).local → ⊥
none_shown p x (ReleaseLooks e) left lends = lends
none_shown p x (ReleaseExchanges e old) left lends = lends
none_shown p x local left lends = left

left_holds : (held : Pools) (local : Local) → IsLeft local → HoldsOwn held (message_at local)
left_holds held (ReleaseLooks e) left = tt
left_holds held (ReleaseExchanges e old) left = tt
left_holds held local left = absurd left

holds_own : (p : Setting) (held : Pools) (m : CallMessage) → HoldsLoan p held m → HoldsOwn held m
holds_own p held (Lent o slot) holds = ap (λ (m : Message). m.serial) holds
holds_own p held m holds = tt

lends_shown : (p : Setting) (z : Seat) (o : NewLoan) (slot k : ℕ) → z.local ≡ LendStores o slot k → (shown p z).local ≡ LendStores o slot k
lends_shown p z o slot k is = subst (λ l. (shown_at p z l).local ≡ LendStores o slot k) (sym is) is

closed_node : (p : Setting) (y : Seat) (o : Option Ending) → (closed p y o).node ≡ y.node
closed_node p y None = refl
closed_node p y (Some ending) = settled_node p y ending

-- no slot of another port got the loan's message
serial_else : (held : Pools) (o : NewLoan) (slot port j : ℕ) → (o.port ≡ port → ⊥) → serial_with held o slot port j ≡ (held port j).serial
serial_else held o slot port j other = by_port (o.port == port) refl
  where
    by_port : (b : Bool) → (o.port == port) ≡ b → (if b && (slot == j) then o.serial else (held port j).serial) ≡ (held port j).serial
    by_port true is = absurd (other (eqb-true o.port port is))
    by_port false is = refl

module _ (p : Setting) (words : List ℕ) (players : ℕ → Player) (r : Run) (n : ℕ) (wire : WireStands p words players r) where
  abbrev x : Seat
  x = (players n).seat

  raw_node : (m : ℕ) → (players m).seat.node ≡ m
  raw_node m = sym (node_alike p (players m).seat (players m).seat.local) ∙ wire.stands.shows.node m

  -- ---- one node continues, and all others stay

  module _ (player : Player) (new held : Pools) (agree : (port slot : ℕ) → IsInPool p port slot → new port slot ≡ held port slot)
      (node : player.seat.node ≡ (players n).seat.node)
      (goes : Same (players n).seat player.seat wire.stands.held held ⊎ Took (players n).seat player.seat wire.stands.held held player.seat.local)
      (home : (o : NewLoan) (slot : ℕ) → (seats_of p (put_at players n player) n).local ≡ LendStores o slot 0 → p.layout.owner o.port ≡ n) where
    shown_now : (b : Bool) → b ≡ true → shown p (if b then player else players n).seat ≡ shown p player.seat
    shown_now true is = refl
    shown_now false is = absurd (true≢false (sym is))

    at_home : (o : NewLoan) (slot : ℕ) → player.seat.local ≡ LendStores o slot 0 → p.layout.owner o.port ≡ n
    at_home o slot place =
        home o slot (ap (λ (q : Seat). q.local) (shown_now (n == n) (eqb-refl n)) ∙ lends_shown p player.seat o slot 0 place)

    own_tells : TellsSerials p new player.seat
    own_tells = by_part goes
      where
        by_part : Same (players n).seat player.seat wire.stands.held held ⊎ Took (players n).seat player.seat wire.stands.held held player.seat.local
            → TellsSerials p new player.seat
        by_part (inl same) =
            told_same p wire.stands.held new (players n).seat player.seat node (λ port mine. same.lists port)
            (λ port slot mine low. ap (λ (m : Message). m.serial) (agree port slot low) ∙ same.serials port slot) (wire.serials n)
        by_part (inr took) =
            told_after p wire.stands.held new (players n).seat player.seat took.loan took.slot node took.lists
            (λ port j low. ap (λ (m : Message). m.serial) (agree port j low) ∙ took.serials port j) (wire.serials n)

    other_serial : (m port slot : ℕ) → (m == n) ≡ false → p.layout.owner port ≡ m → IsInPool p port slot → (new port slot).serial ≡ (wire.stands.held port slot).serial
    other_serial m port slot other owner low = ap (λ (m : Message). m.serial) (agree port slot low) ∙ by_part goes
      where
        by_part : Same (players n).seat player.seat wire.stands.held held ⊎ Took (players n).seat player.seat wire.stands.held held player.seat.local
            → (held port slot).serial ≡ (wire.stands.held port slot).serial
        by_part (inl same) = same.serials port slot
        by_part (inr took) =
            took.serials port slot
            ∙ serial_else wire.stands.held took.loan took.slot port slot
            (λ same. true≢false (sym (ap (λ k. k == n) (sym owner ∙ ap p.layout.owner (sym same) ∙ at_home took.loan took.slot took.place) ∙ eqb-refl n) ∙ other))

    other_tells : (m : ℕ) → (m == n) ≡ false → TellsSerials p new (players m).seat
    other_tells m other =
        told_same p wire.stands.held new (players m).seat (players m).seat refl (λ port mine. refl)
        (λ port slot mine low. other_serial m port slot other (mine.1 ∙ raw_node m) low) (wire.serials m)

    pub all_tell : (m : ℕ) → TellsSerials p new (put_at players n player m).seat
    all_tell m = by_node (m == n) refl
      where
        by_node : (b : Bool) → (m == n) ≡ b → TellsSerials p new (if b then player else players m).seat
        by_node true is = own_tells
        by_node false is = other_tells m is

  -- ---- a step

  module _ (seen : ℕ) (payload : List ℕ) (loan : HoldsLoan p wire.stands.held (message_at (seats_of p players n).local)) where
    abbrev held_then : Pools
    held_then = held_next p (shown p (players n).seat) seen payload wire.stands.held

    goes_step : IsOther (players n).seat.local ⊎ IsLeft (players n).seat.local
        → Same (players n).seat (next p (players n).seat seen) wire.stands.held (held_next p (shown p (players n).seat) seen payload wire.stands.held)
        ⊎ Took (players n).seat (next p (players n).seat seen) wire.stands.held (held_next p (shown p (players n).seat) seen payload wire.stands.held)
        (next p (players n).seat seen).local
    goes_step (inl other) =
        let same : shown p (players n).seat ≡ (players n).seat = shown_same p (players n).seat (players n).seat.local (leaving_none (players n).seat.local other) in
        subst (λ q. Same (players n).seat (next p (players n).seat seen) wire.stands.held (held_next p q seen payload wire.stands.held)
        ⊎ Took (players n).seat (next p (players n).seat seen) wire.stands.held (held_next p q seen payload wire.stands.held) (next p (players n).seat seen).local)
        (sym same)
        (by_result (steps_so p (players n).seat seen wire.stands.held payload
        (subst (λ (q : Seat). HoldsOwn wire.stands.held (message_at q.local)) same (holds_own p wire.stands.held (message_at (shown p (players n).seat).local) loan))))
      where
        by_result : Same (players n).seat (next p (players n).seat seen) wire.stands.held (held_next p (players n).seat seen payload wire.stands.held)
            ⊎ (Took (players n).seat (next p (players n).seat seen) wire.stands.held (held_next p (players n).seat seen payload wire.stands.held) (next p (players n).seat seen).local
            × IsLending (players n).seat.local)
            → Same (players n).seat (next p (players n).seat seen) wire.stands.held (held_next p (players n).seat seen payload wire.stands.held)
            ⊎ Took (players n).seat (next p (players n).seat seen) wire.stands.held (held_next p (players n).seat seen payload wire.stands.held) (next p (players n).seat seen).local
        by_result (inl same) = inl same
        by_result (inr took) = inr took.0
    goes_step (inr left) = inl (record {
      lists = (only_same p (players n).seat seen wire.stands.held payload (left_holds wire.stands.held (players n).seat.local left)
          (no_loan (players n).seat.local left)).lists;
      serials = (only_same p (shown p (players n).seat) seen wire.stands.held payload (holds_own p wire.stands.held (message_at (shown p (players n).seat).local) loan)
          (none_shown p (players n).seat (players n).seat.local left)).serials;
    })
      where
        only_same : (p : Setting) (q : Seat) (seen : ℕ) (held : Pools) (payload : List ℕ) → HoldsOwn held (message_at q.local) → (IsLending q.local → ⊥)
            → Same q (next p q seen) held (held_next p q seen payload held)
        only_same p q seen held payload own none = by_result (steps_so p q seen held payload own)
          where
            by_result : Same q (next p q seen) held (held_next p q seen payload held)
                ⊎ (Took q (next p q seen) held (held_next p q seen payload held) (next p q seen).local × IsLending q.local)
                → Same q (next p q seen) held (held_next p q seen payload held)
            by_result (inl same) = same
            by_result (inr took) = absurd (none took.1)

    next_node : (next p (players n).seat seen).node ≡ (players n).seat.node
    next_node =
        closed_node p (advance p (accessed (players n).seat) (players n).seat.local seen) (ending_at (advance p (accessed (players n).seat) (players n).seat.local seen).local)
        ∙ (steps_keep_own p (players n).seat seen).node

    pub stepped_serials : (new : Pools) → ((port slot : ℕ) → IsInPool p port slot → new port slot ≡ held_next p (shown p (players n).seat) seen payload wire.stands.held port slot)
        → ((o : NewLoan) (slot : ℕ) → (seats_of p (put_at players n (player_next p (players n) seen)) n).local ≡ LendStores o slot 0 → p.layout.owner o.port ≡ n)
        → (m : ℕ) → TellsSerials p new (put_at players n (player_next p (players n) seen) m).seat
    stepped_serials new agree home =
        all_tell (player_next p (players n) seen) new (held_next p (shown p (players n).seat) seen payload wire.stands.held) agree next_node
        (goes_step (left_or_not (players n).seat.local)) home

  -- ---- a begin

  pub begun_serials : (call : WireCall) (player : Player) → player.seat ≡ begin p (players n).seat call
      → (new : Pools) → new ≡ held_at p wire.stands.held (begin p (players n).seat call).local
      → ((o : NewLoan) (slot : ℕ) → (seats_of p (put_at players n player) n).local ≡ LendStores o slot 0 → p.layout.owner o.port ≡ n)
      → (m : ℕ) → TellsSerials p new (put_at players n player m).seat
  begun_serials call player is new same home =
      all_tell player new (held_at p wire.stands.held (begin p (players n).seat call).local) (λ port slot low. ap (λ (h : Pools). h port slot) same)
      (ap (λ (q : Seat). q.node) is ∙ (begins_keep_own p (players n).seat call).node)
      (subst (λ q. Same (players n).seat q wire.stands.held (held_at p wire.stands.held (begin p (players n).seat call).local)
      ⊎ Took (players n).seat q wire.stands.held (held_at p wire.stands.held (begin p (players n).seat call).local) q.local) (sym is)
      (begins_so p (players n).seat wire.stands.held call)) home
