-- The entry that a loan adds as it ends, and the one that a sent request's loan becomes.
use Rattle.std.specs.Prelude.{◌<◌}
use Rattle.std.proofs.Common.{◌≡◌, ℕ, Bool, true, false, Some, None, refl, ap, sym, ◌∙◌, true≢false}
use Rattle.iox_model.specs.declared.kind.Kind.{Kind}
use Rattle.iox_model.specs.declared.kind.Kind.TheVariants as kinds
use Rattle.iox_model.specs.declared.kind.Role.TheVariants.{Client}
use Rattle.iox_model.specs.Handles.{is_own, is_request_loan, same_kind}
use Rattle.iox_model.specs.Joins.{not_living}
use Rattle.iox_model.specs.Maps.{has_number}
use Rattle.iox_model.specs.Peers.{lanes_of}
use Rattle.iox_model.specs.Weaves.{World}
use Rattle.iox_laws.proofs.WeaveLaws.MapLemmas.{eqb-refl}
use Rattle.iox_laws.proofs.WeaveLedger.Lists.{among-front, among-number, number-among}
use Rattle.iox_laws.proofs.WeaveLedger.Senders.{is_loan}
use Rattle.iox_laws.proofs.WeavePools.Holds.{own-loan}
use Rattle.iox_laws.proofs.WeaveLedger.Senders as ledger
use Rattle.iox_laws.proofs.WeaveLedger.Views.{view}
use Rattle.iox_laws.proofs.WeaveWorlds.Sound as sound
use Rattle.iox_wire_words.specs.Fits.{WireContents}
use Rattle.iox_wire_moments.specs.MomentsOf.{Pools}
use Rattle.iox_wire_locals.specs.declared.local.Ending.TheVariants as endings
use Rattle.iox_wire_locals.specs.declared.seat.Seat.{Seat}
use Rattle.iox_wire_locals.specs.declared.table.Entry.{Entry}
use Rattle.iox_wire_locals.specs.declared.table.NewLoan.{NewLoan}
use Rattle.iox_wire_locals.specs.Doings.{outcome_of}
use Rattle.iox_wire_locals.specs.NewLoans.{entry_in}
use Rattle.iox_wire_locals.specs.Steps.{ending_at}
use Rattle.iox_wire_locals.specs.Tables.{Setting, sent_entry}
use Rattle.iox_wire_laws.specs.WireKeeping.Shows.{ShowsWorld}
use Rattle.iox_wire_laws.specs.WireKeeping.UsedSlots.{slots_in_call, slots_used}
use Rattle.iox_wire_laws.specs.WireOwners.Releases.{ReleasesOwnHandle}
use Rattle.iox_wire_laws.specs.WireRegions.OwnedBegins.{IsPortOf, LayoutFits}
use Rattle.iox_wire_laws.specs.WireHolding.FarSlots.{IsInPool}
use Rattle.iox_wire_laws.specs.WireHolding.SlotsKnown.{EntryFits}
use Rattle.iox_wire_pools.specs.Uses.{UsesAreCounted}
use Rattle.iox_wire_pools.proofs.Counting.{used}
use Rattle.iox_wire_pools.proofs.EndUses.{call_ends, not_own}
use Rattle.iox_wire_pools.proofs.PoolsFit.{within_pool}
use Rattle.iox_wire_steps.proofs.Knowing.{outcome_fits}
use Rattle.iox_wire_steps.proofs.Received.{port_is_client}

-- a loan is neither pending nor received
record IsNoOther (k : Kind) : Type 0 where
  pub pending : same_kind k kinds.PendingResponse ≡ false
  pub request : same_kind k kinds.ActiveRequest ≡ false
  pub response : same_kind k kinds.Response ≡ false

no_other : (k : Kind) → is_loan k ≡ true → IsNoOther k
no_other kinds.RequestMutUninit is = record { pending = refl; request = refl; response = refl }
no_other kinds.RequestMut is = record { pending = refl; request = refl; response = refl }
no_other kinds.ResponseMutUninit is = record { pending = refl; request = refl; response = refl }
no_other kinds.ResponseMut is = record { pending = refl; request = refl; response = refl }
no_other kinds.Client is = absurd (true≢false (sym is))
no_other kinds.Server is = absurd (true≢false (sym is))
no_other kinds.PendingResponse is = absurd (true≢false (sym is))
no_other kinds.ActiveRequest is = absurd (true≢false (sym is))
no_other kinds.Response is = absurd (true≢false (sym is))

not_both : {A : Type 0} (b : Bool) → b ≡ false → b ≡ true → A
not_both b never always = absurd (true≢false (sym always ∙ never))

module _ (p : Setting) (held : Pools) (word : ℕ → ℕ) (c : WireContents) (seats : ℕ → Seat) (w : World) (n : ℕ)
    (shows : ShowsWorld p held word c seats w) (living : not_living w.state n ≡ None) (fits : LayoutFits p w.state.fixed) where
  abbrev x : Seat
  x = seats n

  -- ---- a loan

  module _ (o : NewLoan) (slot : ℕ) (is : ending_at (seats n).local ≡ Some (endings.Lends o slot)) where
    loan : is_loan o.kind ≡ true
    loan = (outcome_fits p held word c seats w n (endings.Lends o slot) shows living is).0.loan

    -- a new loan holds its port's own message
    pub lent_fits : EntryFits p (entry_in o slot)
    lent_fits = record {
      own = λ kept. (own-loan o.kind loan, refl);
      received = λ got. not_both (is_own o.kind) (not_own o.kind got) (own-loan o.kind loan);
    }

    pub lent_released : ReleasesOwnHandle w.state.fixed n (entry_in o slot)
    lent_released =
        let other = no_other o.kind loan in
        record {
          pending = λ same. not_both (same_kind o.kind kinds.PendingResponse) other.pending same;
          request = λ same. not_both (same_kind o.kind kinds.ActiveRequest) other.request same;
          response = λ same. not_both (same_kind o.kind kinds.Response) other.response same;
        }

    pub lent_kind : same_kind o.kind kinds.PendingResponse ≡ false
    lent_kind = (no_other o.kind loan).pending

    -- it is in use by its call, so in the pool
    pub lent_in_pool : UsesAreCounted x o.port (p.port o.port).pool → IsInPool p o.port slot
    lent_in_pool uses = within_pool (p.port o.port).pool _ uses.desk uses.counts slot (used slot (slots_used (seats n) o.port) has)
      where
        call : has_number slot (slots_in_call o.port (seats n).local) ≡ true
        call = ap (has_number slot) (call_ends o.port (seats n).local (endings.Lends o slot) is) ∙ rw (eqb-refl o.port) (rw (eqb-refl slot) refl)

        has : has_number slot (slots_used (seats n) o.port) ≡ true
        has = among-number slot (slots_used (seats n) o.port) (among-front slot (slots_in_call o.port (seats n).local) _ (number-among slot _ call))

  -- ---- a sent loan

  module _ (e : Entry) (copied : Bool) (count : ℕ) (is : ending_at (seats n).local ≡ Some (endings.Sends e copied count)) where
    told : ledger.FitsOutcome (view w.state.fixed n) n (outcome_of p held n (endings.Sends e copied count))
        × sound.FitsOutcome w.state.fixed n (outcome_of p held n (endings.Sends e copied count))
    told = outcome_fits p held word c seats w n (endings.Sends e copied count) shows living is

    sender_is : e.sender ≡ e.port
    sender_is = sym ((shows.counts n living).knows.sent e.sender e.slot) ∙ told.0.made.sender

    pub sent_fits : EntryFits p (sent_entry e count)
    sent_fits = record { own = λ kept. (refl, sender_is); received = λ got. absurd (true≢false (sym got)) }

    -- a request was sent by a client of the node
    module _ (request : is_request_loan e.kind ≡ true) where
      pub by_client : IsPortOf w.state.fixed n Client e.port
      by_client = (
        port_is_client p w.state.fixed fits e.port told.1.1.0 (sym told.0.made.role ∙ request),
        told.1.1.1,
      )

      pub sent_released : e.lane < lanes_of w.state.fixed e.port → ReleasesOwnHandle w.state.fixed n (sent_entry e count)
      sent_released low = record {
        pending = λ same. (by_client, low);
        request = λ same. absurd (true≢false (sym same));
        response = λ same. absurd (true≢false (sym same));
      }
