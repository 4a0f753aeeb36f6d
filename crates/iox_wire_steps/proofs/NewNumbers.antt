-- The number of an entry that the end of a call adds is new, unless it is that of the loan that was sent.
use Rattle.std.specs.Prelude.{◌⊎◌, ◌<◌, map}
use Rattle.std.proofs.Common.{◌≡◌, ℕ, ◌+◌, true, false, Some, None, ap, sym, subst, ◌∙◌, inl, inr, arith}
use Rattle.iox_model.specs.Joins.{not_living}
use Rattle.iox_model.specs.Maps.{has_number}
use Rattle.iox_model.specs.Weaves.{World}
use Rattle.iox_laws.proofs.WeaveBeats.LiveWays.{Here, here}
use Rattle.iox_laws.proofs.WeaveLedger.Lists.{IsAmong, among-map, map-among, number-among}
use Rattle.iox_laws.proofs.WeaveLedger.Truths.{false_if}
use Rattle.iox_laws.proofs.WeaveLedger.Views.{view}
use Rattle.iox_wire_words.specs.Fits.{WireContents}
use Rattle.iox_wire_moments.specs.MomentsOf.{Pools}
use Rattle.iox_wire_locals.specs.declared.local.Ending.{Ending}
use Rattle.iox_wire_locals.specs.declared.local.Ending.TheVariants as endings
use Rattle.iox_wire_locals.specs.declared.seat.Seat.{Seat}
use Rattle.iox_wire_locals.specs.declared.table.Entry.{Entry}
use Rattle.iox_wire_locals.specs.Lendings.{next_handle}
use Rattle.iox_wire_locals.specs.Steps.{ending_at}
use Rattle.iox_wire_locals.specs.Tables.{Setting, handle_of}
use Rattle.iox_wire_laws.specs.WireKeeping.Shows.{ShowsWorld}
use Rattle.iox_wire_stands.specs.EndLaws.{IsAdded, IsSentLoan}
use Rattle.iox_wire_steps.proofs.Knowing.{outcome_fits}

module _ (p : Setting) (held : Pools) (word : ℕ → ℕ) (c : WireContents) (seats : ℕ → Seat) (w : World) (n : ℕ)
    (shows : ShowsWorld p held word c seats w) (living : not_living w.state n ≡ None) where
  abbrev x : Seat
  x = seats n

  -- no handle has the node's next number
  next_is_new : (k : ℕ) → k ≡ (view w.state.fixed n).next → has_number k (map (λ (e : Entry). e.number) x.table) ≡ false
  next_is_new k is = false_if (has_number k (map (λ (e : Entry). e.number) x.table)) (λ has.
      let at = map-among (λ (e : Entry). e.number) k x.table (number-among k (map (λ (e : Entry). e.number) x.table) has) in
      let hs : Here w = here w shows.reachable in
      let among : IsAmong (handle_of held n at.0) (w.state.fixed.handles n)
      = subst (λ i. IsAmong (handle_of held i at.0) (w.state.fixed.handles i)) (shows.node n)
      (subst (IsAmong (handle_of held x.node at.0)) (sym (shows.counts n living).knows.handles) (among-map (handle_of held x.node) at.0 x.table at.1)) in
      apart at.0.number (view w.state.fixed n).next ((hs.holding.fits.handles n).below (handle_of held n at.0) among) (sym at.2 ∙ is))
    where
      apart : (a b : ℕ) → a < b → a ≡ b → ⊥
      apart a b low same = omega (arith, low, same)

  next_is : next_handle p x ≡ (view w.state.fixed n).next
  next_is =
      let has = shows.counts n living in
      ap (λ k. k + x.handles_made) (sym has.next_number) ∙ ap (λ k. w.state.fixed.next_number + k) (sym has.handles_made)
      ∙ ap (λ i. w.state.fixed.next_number + w.state.fixed.handles_made i) (shows.node n)

  new_number_of : (e : Entry) (ending : Ending) → ending_at x.local ≡ Some ending → IsAdded p x ending e
      → IsSentLoan ending ⊎ (has_number e.number (map (λ (k : Entry). k.number) x.table) ≡ false)
  new_number_of e (endings.Lends o slot) is new =
      inr (next_is_new e.number (ap (λ (q : Entry). q.number) new
      ∙ (outcome_fits p held word c seats w n (endings.Lends o slot) shows living is).0.stands.1))
  new_number_of e (endings.Sends k true count) is new =
      inr (next_is_new e.number (ap (λ (q : Entry). q.number) new
      ∙ (outcome_fits p held word c seats w n (endings.Sends k true count) shows living is).0.stands.1))
  new_number_of e (endings.Sends k false count) is new = inl tt
  new_number_of e (endings.Receives v y slot header) is new = inr (next_is_new e.number (ap (λ (q : Entry). q.number) new ∙ next_is))
  new_number_of e ending is new = absurd new

  pub numbers_are_new : (ending : Ending) → ending_at x.local ≡ Some ending → (e : Entry) → IsAdded p x ending e
      → IsSentLoan ending ⊎ (has_number e.number (map (λ (k : Entry). k.number) x.table) ≡ false)
  numbers_are_new ending is e new = new_number_of e ending is new
