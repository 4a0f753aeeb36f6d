-- Entries that are written are loans of their own ports.
use Rattle.iox_model.specs.declared.kind.Kind.TheVariants as kinds
use Rattle.iox_wire_calls.specs.Ending.TheVariants as endings
use Rattle.iox_wire_calls.specs.Local.TheVariants.{Ends, Writes}
use Rattle.std.specs.Prelude.{false, refl, ◌≡◌}
use Rattle.std.proofs.Common.{subst, sym}
use Rattle.iox_model.specs.Handles.{is_received}
use Rattle.iox_wire_keeps.specs.Stored.{IsWritten}
use Rattle.iox_wire_calls.specs.Tables.{Setting}
use Rattle.iox_wire_calls.specs.MomentsOf.{Pools}
use Rattle.iox_wire_calls.specs.SlotsKnown.{HasEntry, PlaceStands}
use Rattle.iox_wire_calls.specs.Places.{IsOfLoan, PlaceFits}
use Rattle.iox_wire_calls.specs.Ending.{Ending}
use Rattle.iox_wire_calls.specs.Seat.{Seat}
use Rattle.iox_wire_calls.specs.Entry.{Entry}
use Rattle.iox_wire_calls.specs.Nodes.{NodeStands}
use Rattle.iox_wire_calls.specs.Local.{Local}
use Rattle.iox_model.specs.declared.kind.Kind.{Kind}
use Rattle.iox_wire_calls.specs.Ending.TheVariants as endings
use Rattle.iox_model.specs.States.{State}
use Rattle.iox_wire_calls.specs.Steps.{next}
use Rattle.iox_wire_calls.specs.Places.{CallFits}

-- a loan that was written is no received message
pub loan_kept : (kind : Kind) → IsOfLoan kind → is_received kind ≡ false
loan_kept kinds.ActiveRequest is = sym is
loan_kept kinds.Response is = sym is
loan_kept kind is = refl

-- an entry that is written is its port's own
pub written_own : (p : Setting) (held : Pools) (s : State) (x : Seat) → NodeStands p held s x → CallFits p x → (e : Entry) → IsWritten x.local e → e.sender ≡ e.port
written_own p held s x stands fits e its = by_place x.local its fits.place stands.names.place
  where
    of_entry : (i : Entry) → i ≡ e → IsOfLoan i.kind → HasEntry x i → e.sender ≡ e.port
    of_entry i same loan there = subst (λ (q : Entry). q.sender ≡ q.port) same ((stands.names.entries i there).own (loan_kept i.kind loan)).1

    by_ending : (ending : Ending) → IsWritten (Ends ending) e → PlaceFits p x (Ends ending) → PlaceStands p s.fixed x (Ends ending) → e.sender ≡ e.port
    by_ending (endings.Fills i words) is place on = of_entry i is place on
    by_ending ending is place on = absurd is

    by_place : (local : Local) → IsWritten local e → PlaceFits p x local → PlaceStands p s.fixed x local → e.sender ≡ e.port
    by_place (Writes i words next) is place on = of_entry i is place on
    by_place (Ends ending) is place on = by_ending ending is place on
    by_place local is place on = absurd is
