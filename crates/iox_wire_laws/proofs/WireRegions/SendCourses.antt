-- A send that owns its ways owns each place that its course leads to.
use Rattle.std.specs.Prelude.{if◌then◌else◌, map}
use Rattle.std.specs.List.{list_any}
use Rattle.std.proofs.Common.{◌≡◌, ℕ, Bool, true, List, [], ◌∷◌, None, refl, ap, subst, ◌∙◌}
use Rattle.iox_model.specs.declared.kind.Role.TheVariants.{Client, Server}
use Rattle.iox_model.specs.declared.way.RequestState.{RequestState}
use Rattle.iox_model.specs.declared.way.Way.{Way}
use Rattle.iox_model.specs.Handles.{is_request_loan}
use Rattle.iox_model.specs.Maps.{has_number, not_in, AreDistinctWays}
use Rattle.iox_model.specs.Messages.{request_way, response_way}
use Rattle.iox_model.specs.Peers.{others}
use Rattle.iox_model.specs.Requests.{targets, to_open, is_active_spent}
use Rattle.iox_model.specs.States.{Fixed}
use Rattle.iox_laws.proofs.WeaveLaws.MapLemmas.{either}
use Rattle.iox_laws.proofs.WeaveWorlds.WayLemmas.{apart-not_in}
use Rattle.iox_word_map.specs.WordMaps.{IsResponseWay}
use Rattle.iox_wire_moments.specs.MomentsOf.{Pools}
use Rattle.iox_wire_locals.specs.declared.local.CallRefusal.TheVariants.{ExceedsMaxActiveRequests, UnableToDeliver}
use Rattle.iox_wire_locals.specs.declared.local.Delivery.{Delivery}
use Rattle.iox_wire_locals.specs.declared.local.Ending.TheVariants as endings
use Rattle.iox_wire_locals.specs.declared.local.Local.TheVariants.{SendAsks}
use Rattle.iox_wire_locals.specs.declared.seat.Seat.{Seat}
use Rattle.iox_wire_locals.specs.declared.table.Entry.{Entry}
use Rattle.iox_wire_locals.specs.Courses as courses
use Rattle.iox_wire_locals.specs.Known.{known, sending, told_handle}
use Rattle.iox_wire_locals.specs.Knowing.{Knows}
use Rattle.iox_wire_locals.specs.Tables.{Setting, state_in}
use Rattle.iox_wire_locals.proofs.KnowingLemmas.{others_known}
use Rattle.iox_wire_laws.specs.WireShows.OwnedCalls.{Each, DeliversOn, IsLeft, OpensOn, OwnsCall, OwnsSend, ways_to}
use Rattle.iox_wire_laws.proofs.WireShows.OwnedWays.{each_all, each_not_in}
use Rattle.iox_wire_laws.specs.WireRegions.OwnedWords.{OwnsCopy, send_to}

module _ (p : Setting) (z : Seat) (f : Fixed) (shown : Way → RequestState) where
  abbrev n : ℕ
  n = z.node

  abbrev K : Seat → Type 0
  K y = OwnsCall p n f shown y.local

  abbrev D : Delivery → Way → Type 0
  D d = DeliversOn p n f d

  delivering : (d : Delivery) (left : List Way) (count : ℕ) → Each (D d) left → AreDistinctWays left → K (courses.delivering z d None left count)
  delivering d [] count each apart = tt
  delivering d (w ∷ left) count each apart = (each, apart, refl, tt, each_all (IsLeft p n f None) (λ v. tt) (w ∷ left))

  opening : (d : Delivery) (left full : List Way) → OwnsSend p n f d → Each (OpensOn p d) left → K (courses.opening p z d left full)
  opening d [] full owns each =
      delivering d (not_in full (ways_to d)) 0 (each_not_in (D d) full (ways_to d) owns.ways) (apart-not_in full (ways_to d) owns.apart)
  opening d (w ∷ left) full owns each = (owns, each)

  looking : (d : Delivery) (left full : List Way) → OwnsSend p n f d → Each (D d) left → K (courses.looking p z d left full)
  looking d [] full owns each =
      either K (list_any (sending p z d).fails full) (courses.ended z (endings.FailsToSend d.loan d.copied UnableToDeliver))
      (courses.opening p z d (to_open (sending p z d)) full) (λ e. tt) (λ e. opening d _ full owns owns.opens)
  looking d (w ∷ left) full owns each = (owns, each)

  emptying : (d : Delivery) (left : List Way) → OwnsSend p n f d → Each (D d) left → K (courses.emptying p z d left)
  emptying d [] owns each =
      either K (sending p z d).overflow (courses.opening p z d (to_open (sending p z d)) []) (courses.looking p z d (targets (sending p z d)) [])
      (λ e. opening d _ [] owns owns.opens) (λ e. looking d _ [] owns owns.ways)
  emptying d (w ∷ left) owns each = (owns, each)

  -- ---- as a call sends what it made

  requests : (d : Delivery) → is_request_loan d.loan.kind ≡ true → OwnsSend p n f d → K (courses.sends_request p z d)
  requests d is owns =
      either K (is_active_spent (known p z) (told_handle p z.node d.loan)) (courses.ended z (endings.FailsToSend d.loan d.copied ExceedsMaxActiveRequests))
      (courses.emptying p z d (map (request_way d.loan.port) d.to)) (λ e. tt)
      (λ e. emptying d _ owns (subst (λ b. Each (D d) (if b then map (request_way d.loan.port) d.to
      else map (λ client. response_way client d.loan.lane d.loan.port) d.to)) is owns.ways))

  responses : (d : Delivery) → (has_number d.loan.client (others (known p z) z.node Client) ≡ true → OwnsSend p n f d × IsResponseWay p.layout.sizes (state_in d.loan))
      → K (courses.sends_response p z d)
  responses d owns =
      either K (has_number d.loan.client (others (known p z) z.node Client)) (courses.placed z (SendAsks d)) (courses.ended z (endings.Sends d.loan d.copied 0))
      owns (λ e. tt)

  abbrev made : Entry → Bool → List ℕ → Delivery
  made e copied to = record { loan = e; copied = copied; to = to }

  -- whoever made the loan
  recopied : (e : Entry) (copied : Bool) (to : List ℕ) → OwnsSend p n f (send_to e to) → OwnsSend p n f (made e copied to)
  recopied e copied to owns = record { ways = owns.ways; apart = owns.apart; opens = owns.opens }

  pub sends : (held : Pools) (e : Entry) (copied : Bool) → Knows p z f held → OwnsCopy p n f e → K (courses.sends p z e copied)
  sends held e copied knows owns =
      either K (is_request_loan e.kind) (courses.sends_request p z (made e copied (others (known p z) z.node Server)))
      (courses.sends_response p z (made e copied (e.client ∷ [])))
      (λ is. requests (made e copied (others (known p z) z.node Server)) is
      (recopied e copied (others (known p z) z.node Server)
      (subst (λ to. OwnsSend p n f (send_to e to)) (others_known p z f held knows Server) (owns.request is))))
      (λ is. responses (made e copied (e.client ∷ []))
      (λ there.
      let o = owns.response is (ap (has_number e.client) (others_known p z f held knows Client) ∙ there) in
      (recopied e copied (e.client ∷ []) o.0, o.1)))

  pub copies : (held : Pools) (e : Entry) → Knows p z f held → OwnsCopy p n f e → K (courses.sends p z e true)
  copies held e knows owns = sends held e true knows owns
