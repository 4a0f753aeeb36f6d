-- The message of a free slot is not kept, so nobody has it.
use Rattle.std.specs.Prelude.{if◌then◌else◌, not, nat_lt, ◌<◌}
use Rattle.std.proofs.Common.{◌≡◌, ℕ, Bool, true, false, ◌==◌, ◌&&◌, [], ◌∷◌, None, refl, ap, sym, subst, ◌∙◌, inl, arith, eq-eqb, eqb-true, true≢false}
use Rattle.iox_model.specs.declared.way.Way.{Way}
use Rattle.iox_model.specs.Handles.{is_own}
use Rattle.iox_model.specs.Joins.{not_living}
use Rattle.iox_model.specs.Keeping.{kept_in}
use Rattle.iox_model.specs.Maps.{has_number, has_way}
use Rattle.iox_model.specs.Peers.{node_of_port, ways_from}
use Rattle.iox_model.specs.Weaves.{World}
use Rattle.iox_laws.specs.WeaveBeats.LiveWays.{GoesFrom}
use Rattle.iox_laws.proofs.WeaveBeats.Fresh.{what_is_out_is_kept}
use Rattle.iox_laws.proofs.WeaveBeats.LiveWays.{here}
use Rattle.iox_laws.specs.WeaveLedger.LedgerLaws.{out_on}
use Rattle.iox_laws.proofs.WeaveLedger.Lists.{IsAmong, among-back, among-filter, among-front, among-map, among-number, map-among, number-among}
use Rattle.iox_laws.proofs.WeaveLedger.Truths.{both_true, false_if}
use Rattle.iox_wire_words.specs.Fits.{WireContents}
use Rattle.iox_wire_moments.specs.MomentsOf.{Pools}
use Rattle.iox_wire_locals.specs.declared.seat.Seat.{Seat}
use Rattle.iox_wire_locals.specs.declared.table.Entry.{Entry}
use Rattle.iox_wire_locals.specs.Known.{free_slots}
use Rattle.iox_wire_locals.specs.Tables.{Setting, handle_of}
use Rattle.iox_wire_laws.specs.WireKeeping.PoolSlots.{PoolFits}
use Rattle.iox_wire_laws.specs.WireKeeping.Shows.{ShowsWorld}
use Rattle.iox_wire_laws.specs.WireKeeping.UsedSlots.{PortFits, serials_in, slots_held, slots_in_call, slots_used}
use Rattle.iox_wire_laws.specs.WireKeeping.Writes.{is_slot_of}
use Rattle.iox_wire_laws.proofs.WireKeeping.SlotsFitted.{kept_are_used}
use Rattle.iox_wire_laws.specs.WireRegions.OwnedBegins.{LayoutFits}
use Rattle.iox_wire_laws.proofs.WireRegions.OwnPorts.{both}
use Rattle.iox_wire_laws.specs.WireHolding.SlotsKnown.{FreeSlotsAreNobodys, IsPortOfSeat, NamesStand, SlotsKnown}
use Rattle.iox_wire_laws.proofs.WireHolding.OutNowhere.{handles_are, none_named, on_no_way, place_not}

none_if : (b : Bool) → not b ≡ true → b ≡ false
none_if true e = sym e
none_if false e = refl

lt_is : (a b : ℕ) → nat_lt a b ≡ true → a < b
lt_is a b e = grind (arith)

module _ (p : Setting) (held : Pools) (word : ℕ → ℕ) (c : WireContents) (seats : ℕ → Seat) (w : World) (n : ℕ) (shows : ShowsWorld p held word c seats w)
    (fits : LayoutFits p w.state.fixed) (living : not_living w.state n ≡ None) (known : SlotsKnown p held w.state (seats n)) (port slot : ℕ)
    (free : has_number slot (free_slots (seats n) port) ≡ true) where
  own_port : IsPortOfSeat p (seats n) port
  own_port = known.desks port slot free

  pool : PoolFits held (seats n) port (p.port port).pool
  pool = known.pools port own_port

  keeps : PortFits held w.state (seats n) port
  keeps = known.ports port own_port

  pub mine : node_of_port w.state.fixed port ≡ n
  mine = keeps.mine ∙ shows.node n

  was_free : (nat_lt slot (p.port port).pool ≡ true) × (not (has_number slot (slots_used (seats n) port)) ≡ true)
  was_free = both (nat_lt slot (p.port port).pool) (not (has_number slot (slots_used (seats n) port))) (sym (pool.free slot) ∙ free)

  pub within : slot < (p.port port).pool
  within = lt_is slot (p.port port).pool was_free.0

  -- a free slot is not in use
  unused : IsAmong slot (slots_used (seats n) port) → ⊥
  unused among =
      true≢false (sym (among-number slot (slots_used (seats n) port) among) ∙ none_if (has_number slot (slots_used (seats n) port)) was_free.1)

  -- and its message is none that the port keeps
  not_kept : has_number (held port slot).serial (kept_in w port) ≡ true → ⊥
  not_kept kept =
      let used : IsAmong (held port slot).serial (serials_in held port (slots_used (seats n) port))
      = number-among _ _ (sym (kept_are_used p held w (seats n) port (held port slot).serial (shows.counts n living) (shows.doing n living) keeps) ∙ kept) in
      let at = map-among (λ i. (held port i).serial) (held port slot).serial (slots_used (seats n) port) used in
      unused (subst (λ i. IsAmong i (slots_used (seats n) port))
      (sym (known.apart port slot at.0 own_port within (pool.within at.0 (among-number at.0 (slots_used (seats n) port) at.1)) at.2)) at.1)

  pub nowhere : (y : Way) → y.sender ≡ port → GoesFrom w.state.fixed n y → has_way y (ways_from w.state.fixed y.sender) ≡ true
      → IsAmong (held port slot).serial (out_on w y) → ⊥
  nowhere y from goes way out =
      not_kept (subst (λ q. has_number (held port slot).serial (kept_in w q) ≡ true) from
      (what_is_out_is_kept w n y (held port slot).serial shows.reachable living goes way (among-number (held port slot).serial (out_on w y) out)))

  -- ---- the node's own

  module _ (r : ℕ) (lives : not_living w.state r ≡ None) (stands : NamesStand p w.state.fixed (seats r)) where
    held_not : (e : Entry) → r ≡ n → IsAmong e (seats r).table → is_own e.kind ≡ true → e.port ≡ port → e.slot ≡ slot → ⊥
    held_not e itself among own at there =
        unused (among-back slot (slots_in_call port (seats n).local) _ (among-front slot (slots_held (seats n) port) _
        (subst (λ i. IsAmong i (slots_held (seats n) port)) there
        (among-map (λ (q : Entry). q.slot) e _ (among-filter (λ (q : Entry). is_own q.kind && (q.port == port)) e (seats n).table
        (subst (λ i. IsAmong e (seats i).table) itself among) (both_true _ _ own (eq-eqb e.port port at)))))))

    pub own_not : (e : Entry) → IsAmong e (seats r).table → is_own e.kind ≡ true → e.sender ≡ e.port → e.sender ≡ port → e.slot ≡ slot → ⊥
    own_not e among own itself from there =
        let has : IsAmong (handle_of held r e) (w.state.fixed.handles r)
        = subst (IsAmong (handle_of held r e)) (sym (handles_are p held word c seats w shows fits port slot n living mine nowhere r lives stands within))
        (among-map (handle_of held r) e (seats r).table among) in
        let node : node_of_port w.state.fixed e.port ≡ r = ((here w shows.reachable).holding.fits.handles r).of_port (handle_of held r e) has in
        let at : e.port ≡ port = sym itself ∙ from in
        held_not e (sym node ∙ ap (node_of_port w.state.fixed) at ∙ mine) among own at there

    pub copy_not : (e : Entry) → slots_in_call port (seats r).local ≡ (if e.port == port then e.slot ∷ [] else []) → e.sender ≡ e.port
        → node_of_port w.state.fixed e.port ≡ (seats r).node → is_slot_of e port slot ≡ false
    copy_not e call itself node = false_if (is_slot_of e port slot) (λ named.
        let same : ((port == e.sender) ≡ true) × ((slot == e.slot) ≡ true) = both (port == e.sender) (slot == e.slot) named in
        let at : e.port ≡ port = sym itself ∙ sym (eqb-true port e.sender same.0) in
        let is : r ≡ n = sym (shows.node r) ∙ sym node ∙ ap (node_of_port w.state.fixed) at ∙ mine in
        let there : slots_in_call port (seats r).local ≡ e.slot ∷ [] = call ∙ ap (λ b. if b then e.slot ∷ [] else []) (eq-eqb e.port port at) in
        unused (among-front slot (slots_in_call port (seats n).local) _
        (subst (λ i. IsAmong slot (slots_in_call port (seats i).local)) is (subst (IsAmong slot) (sym there) (inl (eqb-true slot e.slot same.1))))))

pub free_slots_are_nobodys : FreeSlotsAreNobodys
free_slots_are_nobodys p held word c seats w n shows fits stands living known port slot free =
    let at : node_of_port w.state.fixed port ≡ n = mine p held word c seats w n shows fits living known port slot free in
    let low : slot < (p.port port).pool = within p held word c seats w n shows fits living known port slot free in
    let out : (y : Way) → y.sender ≡ port → GoesFrom w.state.fixed n y → has_way y (ways_from w.state.fixed y.sender) ≡ true
    → IsAmong (held port slot).serial (out_on w y) → ⊥ = nowhere p held word c seats w n shows fits living known port slot free in record {
      ways = on_no_way p held word c seats w shows fits port slot n living at out;
      entries = λ r lives.
          none_named p held word c seats w shows fits port slot n living at out r lives (stands r lives) low
          (own_not p held word c seats w n shows fits living known port slot free r lives (stands r lives));
      places = λ r lives.
          place_not p held word c seats w shows fits port slot n living at out r lives (stands r lives) low
          (own_not p held word c seats w n shows fits living known port slot free r lives (stands r lives))
          (copy_not p held word c seats w n shows fits living known port slot free r lives (stands r lives)) (seats r).local refl (stands r lives).place;
    }
