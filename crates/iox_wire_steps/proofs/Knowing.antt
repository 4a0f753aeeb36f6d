-- What the machine knows of a call that is over but for its end.
use Rattle.std.proofs.Common.{◌≡◌, ℕ, List, [], Some, None, refl, ap, sym, subst, ◌∙◌}
use Rattle.iox_model.specs.declared.way.Way.{Way}
use Rattle.iox_model.specs.Doings.{Doing, Ended, Delivering}
use Rattle.iox_model.specs.Joins.{not_living}
use Rattle.iox_model.specs.Peers.{role_at}
use Rattle.iox_model.specs.Settings.{is_client}
use Rattle.iox_model.specs.Weaves.{World}
use Rattle.iox_laws.proofs.WeaveBeats.LiveWays.{Here, here}
use Rattle.iox_laws.proofs.WeaveLaws.WholeLemmas.{some-is}
use Rattle.iox_laws.proofs.WeaveLedger.Senders.{FitsDoing}
use Rattle.iox_laws.proofs.WeaveLedger.Senders as ledger
use Rattle.iox_laws.proofs.WeaveLedger.Truths.{none-some}
use Rattle.iox_laws.proofs.WeaveLedger.Views.{view}
use Rattle.iox_laws.proofs.WeaveLedger.Worlds.{doing-is}
use Rattle.iox_laws.proofs.WeavePools.Suffices.{spare-is}
use Rattle.iox_laws.proofs.WeaveWorlds.Reached.{reachable_sound}
use Rattle.iox_laws.proofs.WeaveWorlds.Sound.{FitsCall, SoundDoing}
use Rattle.iox_laws.proofs.WeaveWorlds.Sound as sound
use Rattle.iox_wire_words.specs.Fits.{WireContents}
use Rattle.iox_wire_moments.specs.MomentsOf.{Pools}
use Rattle.iox_wire_locals.specs.declared.local.Ending.{Ending}
use Rattle.iox_wire_locals.specs.declared.local.Ending.TheVariants as endings
use Rattle.iox_wire_locals.specs.declared.local.Local.{Local}
use Rattle.iox_wire_locals.specs.declared.local.Local.TheVariants.{Ends, SendEnds}
use Rattle.iox_wire_locals.specs.declared.local.Visit.{Visit}
use Rattle.iox_wire_locals.specs.declared.seat.Seat.{Seat}
use Rattle.iox_wire_locals.specs.Doings.{doing_of, outcome_of, send_of}
use Rattle.iox_wire_locals.specs.Steps.{ending_at}
use Rattle.iox_wire_locals.specs.Tables.{Setting}
use Rattle.iox_wire_laws.specs.WireKeeping.Shows.{ShowsWorld}

module _ (p : Setting) (held : Pools) (word : ℕ → ℕ) (c : WireContents) (seats : ℕ → Seat) (w : World) (n : ℕ) (ending : Ending)
    (shows : ShowsWorld p held word c seats w) (living : not_living w.state n ≡ None) (is : ending_at (seats n).local ≡ Some ending) where
  at : Here w
  at = here w shows.reachable

  to_do : w.doing n ≡ doing_of p w.state.fixed held n (seats n).local
  to_do = subst (λ k. w.doing k ≡ doing_of p w.state.fixed held k (seats n).local) (shows.node n) (shows.doing n living)

  abbrev Told : Ending → Type 0
  Told e =
      ledger.FitsOutcome (view w.state.fixed n) n (outcome_of p held n e) × sound.FitsOutcome w.state.fixed n (outcome_of p held n e)

  sound_call : (d : Doing) → w.doing n ≡ Some d → SoundDoing w.state n d
  sound_call d doing = subst (FitsCall w.state n) doing ((reachable_sound w shows.reachable).calls n).1

  told_at : (local : Local) → w.doing n ≡ doing_of p w.state.fixed held n local → ending_at local ≡ Some ending → Told ending
  told_at (Ends e) doing same =
      subst Told (some-is e ending same)
      (doing-is w n (Ended (outcome_of p held n e)) at.holding.fits doing, sound_call (Ended (outcome_of p held n e)) doing)
  told_at (SendEnds d last count) doing same =
      subst Told (some-is (endings.Sends d.loan d.copied count) ending same) (
        (doing-is w n (Delivering (send_of w.state.fixed held n d) last [] count) at.holding.fits doing).0.loan,
        (sound_call (Delivering (send_of w.state.fixed held n d) last [] count) doing).0.0,
      )
  told_at local doing same = none-some ending same

  -- what it comes to fits the node's handles and ports
  pub outcome_fits : Told ending
  outcome_fits = told_at (seats n).local to_do is

  -- who receives is of its port's role
  role_at_end : (local : Local) (v : Visit) (y : Way) (slot : ℕ) (header : List ℕ) → ending ≡ endings.Receives v y slot header
      → w.doing n ≡ doing_of p w.state.fixed held n local → ending_at local ≡ Some ending → is_client (role_at w.state.fixed v.port) ≡ is_client v.role
  role_at_end (Ends e) v y slot header here doing same =
      spare-is w n (Ended (outcome_of p held n (endings.Receives v y slot header))) at.holding.spares
      (doing ∙ ap (λ k. Some (Ended (outcome_of p held n k))) (some-is e ending same ∙ here))
  role_at_end (SendEnds d last count) v y slot header here doing same =
      absurd (subst NotReceived (sym (some-is (endings.Sends d.loan d.copied count) ending same ∙ here)) tt)
    where
      NotReceived : Ending → Type 0
      NotReceived (endings.Receives v y slot header) = Unit {0}
      NotReceived e = ⊥
  role_at_end local v y slot header here doing same = none-some ending same

pub role_fits : (p : Setting) (held : Pools) (word : ℕ → ℕ) (c : WireContents) (seats : ℕ → Seat) (w : World) (n : ℕ) (v : Visit) (y : Way) (slot : ℕ)
    (header : List ℕ) → ShowsWorld p held word c seats w → not_living w.state n ≡ None
    → ending_at (seats n).local ≡ Some (endings.Receives v y slot header) → is_client (role_at w.state.fixed v.port) ≡ is_client v.role
role_fits p held word c seats w n v y slot header shows living is =
    role_at_end p held word c seats w n (endings.Receives v y slot header) shows living is (seats n).local v y slot header refl
    (to_do p held word c seats w n (endings.Receives v y slot header) shows living is) is
