-- The slot that a call takes at its begin holds the loan's message before, since nobody names it.
use Rattle.std.proofs.Common.{◌≡◌, ℕ, ◌==◌, Some, None, refl, ap, ◌∙◌}
use Rattle.iox_model.specs.Commands.{WireCall}
use Rattle.iox_model.specs.Joins.{not_living}
use Rattle.iox_model.specs.Maps.{put_at}
use Rattle.iox_model.specs.Messages.{Message}
use Rattle.iox_model.specs.Weaves.{World, Begins, IsBeat, begin_refusal, begun}
use Rattle.iox_laws.proofs.WeaveLaws.WholeLemmas.{or_else-none}
use Rattle.iox_laws.proofs.WeaveLedger.Lists.{find-among}
use Rattle.iox_wire_words.specs.Fits.{WireContents}
use Rattle.iox_wire_moments.specs.MomentsOf.{Pools}
use Rattle.iox_wire_locals.specs.declared.local.Local.{Local}
use Rattle.iox_wire_locals.specs.declared.local.Local.TheVariants.{LendStores}
use Rattle.iox_wire_locals.specs.declared.seat.Seat.{Seat}
use Rattle.iox_wire_locals.specs.declared.table.Entry.{Entry}
use Rattle.iox_wire_locals.specs.BeginLaws.{IsOwnEntry}
use Rattle.iox_wire_locals.specs.Begins.{begin}
use Rattle.iox_wire_locals.specs.NewLoans.{message_in}
use Rattle.iox_wire_locals.specs.Tables.{Setting, entry_at}
use Rattle.iox_wire_laws.specs.WireKeeping.Readiness.{choice_for, IsReady}
use Rattle.iox_wire_laws.specs.WireKeeping.Shows.{ShowsWorld}
use Rattle.iox_wire_laws.proofs.WireRegions.BeginsShow.{begins_show_the_world}
use Rattle.iox_wire_laws.specs.WireHolding.HeldBegins.{BeginsShowWhatIsHeld}
use Rattle.iox_wire_laws.specs.WireHolding.HeldSteps.{FreeSlotsAreUnnamed}
use Rattle.iox_wire_laws.specs.WireHolding.Holding.{held_at, held_with}
use Rattle.iox_wire_laws.specs.WireHolding.Named.{IsUnnamed}
use Rattle.iox_wire_laws.proofs.WireHolding.TakenSlots as taken
use Rattle.iox_wire_laws.proofs.WireHolding.TakenSlots.{TakesFree}
use Rattle.iox_wire_laws.proofs.WireHolding.UnnamedSlots.{doing_with, entries_with, unnamed_slots_may_change}

module _ (p : Setting) (held : Pools) (word : ℕ → ℕ) (c : WireContents) (seats : ℕ → Seat) (w : World) (n : ℕ) (call : WireCall)
    (shows : ShowsWorld p held word c seats w) (ready : IsReady p held w (seats n)) (free : begin_refusal w n call ≡ None) where
  abbrev y : Seat
  y = begin p (seats n) call

  abbrev Goal : Pools → Type 0
  Goal new =
      IsBeat w (Begins n call (choice_for p (seats n) call)) (begun w n (choice_for p (seats n) call) call)
      × ShowsWorld p new word c (put_at seats n y) (begun w n (choice_for p (seats n) call) call)

  living : not_living w.state n ≡ None
  living = (or_else-none _ _ free).0

  module _ (port slot : ℕ) (m : Message) (none : IsUnnamed p c seats w.state port slot) (own : m.sender ≡ port) where
    abbrev new : Pools
    new = held_with held port slot m

    shown : ShowsWorld p new word c seats w
    shown = unnamed_slots_may_change p held word c seats w port slot m shows none own

    entry : (k : ℕ) (e : Entry) → entry_at k (seats n).table ≡ Some e → IsOwnEntry p (seats n) w.state held e → IsOwnEntry p (seats n) w.state new e
    entry k e there has =
        let same : new e.sender e.slot ≡ held e.sender e.slot
        = entries_with held port slot m (seats n).table (none.entries n living) e (find-among (λ q. q.number == k) e (seats n).table there).0 in record {
          port = has.port;
          number = has.number;
          elements = ap (λ (i : Message). i.elements) same ∙ has.elements;
          words = λ is. rw same (has.words is);
        }

    ready_still : IsReady p new w (seats n)
    ready_still = record {
      counts = shown.counts n living;
      doing = doing_with held port slot m p w (seats n) (none.places n living) ready.doing;
      ports = ready.ports;
      entries = λ k e there. entry k e there (ready.entries k e there);
      lanes = ready.lanes;
    }

    begun_with : Goal new
    begun_with = begins_show_the_world p new word c seats w n call shown ready_still free

  by_place : FreeSlotsAreUnnamed p c seats w.state (seats n) → (local : Local) → TakesFree (seats n) local → Goal (held_at p held local)
  by_place unnamed (LendStores o slot next) there = begun_with o.port slot (message_in p o) (unnamed o.port slot there) refl
  by_place unnamed local there = begins_show_the_world p held word c seats w n call shows ready free

pub begins_show_what_is_held : BeginsShowWhatIsHeld
begins_show_what_is_held p held word c seats w n call shows ready unnamed free =
    by_place p held word c seats w n call shows ready free unnamed (begin p (seats n) call).local (taken.begin p (seats n) call)
