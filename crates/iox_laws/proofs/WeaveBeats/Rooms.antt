-- Queues and records have room where a beat needs it.
use Rattle.std.specs.Prelude.{◌≡◌, ℕ, ◌+◌, ◌<◌, ◌≤◌, true, false, List, [], ◌∷◌, ◌++◌, length, Option, Some}
use Rattle.std.specs.Option.{option_map_or}
use Rattle.std.proofs.Common.{sym, subst, ap, ◌∙◌, arith, inl, inr}
use Rattle.std.proofs.lemmas.Bool.{ltb-true}
use Rattle.iox_model.specs.declared.way.Way.{Way}
use Rattle.iox_model.specs.Doings.{Doing, Delivering, Sending}
use Rattle.iox_model.specs.Maps.{has_way}
use Rattle.iox_model.specs.Messages.{serials_of}
use Rattle.iox_model.specs.Moments.{room_on, GiveBack, GetBack, moved}
use Rattle.iox_model.specs.Weaves.{IsBeat, World, Makes}
use Rattle.iox_model.specs.Outstandings.{outstanding_on}
use Rattle.iox_laws.specs.WeaveLaws.Ledgers.{is_live, is_emptied, is_emptied_by, size_of, room_of, had_on}
use Rattle.iox_model.specs.Peers.{node_of_port, buffer_on, borrow_limit_on}
use Rattle.iox_laws.proofs.WeaveLaws.MapLemmas.{same_way-refl}
use Rattle.iox_laws.proofs.WeaveLaws.Plays.{has_room}
use Rattle.iox_laws.specs.WeaveLedger.LedgerLaws.{out_on}
use Rattle.iox_laws.proofs.WeaveLedger.Lists.{IsAmong, first-among, among-append, among-front, among-back, among-number, length-last, way-among}
use Rattle.iox_laws.proofs.WeaveLedger.Views.{view, IsAt, node_in}
use Rattle.iox_laws.proofs.WeaveLedger.Phases.{target-of}
use Rattle.iox_laws.proofs.WeaveLedger.Senders.{FitsDoing}
use Rattle.iox_laws.proofs.WeaveLedger.Worlds.{SoundWorld, doing-is}
use Rattle.iox_laws.proofs.WeaveLedger.Live.{live-counted}
use Rattle.iox_laws.proofs.WeaveLedger.LedgerHolds.{record_is_what_is_out, returns_fit, ledger_stays_within}
use Rattle.iox_laws.proofs.WeaveLedger.Outstanding.{outstanding_is_counted}
use Rattle.iox_laws.proofs.WeaveWorlds.Sound as sound
use Rattle.iox_laws.proofs.WeaveWorlds.Reached.{reachable_sound}
use Rattle.iox_laws.specs.WeaveBeats.BeatLaws.{ReturnsFindRoom, WhatIsGotBackIsRecorded, DeliveriesFindRoom, RecordsHaveRoom}
use Rattle.iox_laws.proofs.WeaveBeats.LiveWays.{beats_are_reachable, Here, here, from_is_live, to_is_live}

-- ---- returns

pub returns_find_room : ReturnsFindRoom
returns_find_room w u node y k reach beat comes =
    let live : is_live w.state.fixed y ≡ true = to_is_live w node y (here w reach) beat.0 comes in
    let h : Here u = here u (beats_are_reachable w u (Makes node (GiveBack y k)) reach beat) in
    let live' : is_live u.state.fixed y ≡ true = subst (λ (v : World). is_live v.state.fixed y ≡ true) (sym beat.5) live in
    let fit : length (u.state.returned y) ≤ buffer_on u.state.fixed y + borrow_limit_on u.state.fixed y + 1
    = returns_fit h.state u h.beats y h.on live' in
    let fit' : length ((moved w.state (GiveBack y k)).returned y) ≤ buffer_on w.state.fixed y + borrow_limit_on w.state.fixed y + 1
    = subst (λ (v : World). length (v.state.returned y) ≤ buffer_on v.state.fixed y + borrow_limit_on v.state.fixed y + 1) beat.5 fit in
    let longer : length (w.state.returned y ++ k ∷ []) ≤ buffer_on w.state.fixed y + borrow_limit_on w.state.fixed y + 1
    = rw (same_way-refl y, live-counted w.state.fixed y live) at fit' in
    more (length (w.state.returned y)) (length (w.state.returned y ++ k ∷ [])) _ (length-last (w.state.returned y) k) longer
  where
    more : (a b c : ℕ) → b ≡ a + 1 → b ≤ c → a < c
    more a b c e p = omega arith

-- what a beat gets back on a live way stands in the record
pub live_recorded : (w u : World) (node : ℕ) (y : Way) (k : ℕ) → Here w → is_live w.state.fixed y ≡ true → IsBeat w (Makes node (GetBack y k)) u
    → w.state.delivered y k ≡ true
live_recorded w u node y k h live beat =
    record_is_what_is_out h.state w h.beats y k h.on live ∙ among-number k (out_on w y) (out (first-among k (w.state.in_hand y ++ w.state.returned y) beat.3))
  where
    out : IsAmong k (w.state.in_hand y ++ w.state.returned y) → IsAmong k (out_on w y)
    out a =
        among-back k (serials_of (w.state.waiting y)) (had_on w y ++ (w.state.returned y ++ w.state.in_hand y))
        (among-back k (had_on w y) (w.state.returned y ++ w.state.in_hand y)
        (elim (among-append k (w.state.in_hand y) (w.state.returned y) a) as (λ z. IsAmong k (w.state.returned y ++ w.state.in_hand y)) [
          | inl hand ↦ among-back k (w.state.returned y) (w.state.in_hand y) hand
          | inr back ↦ among-front k (w.state.returned y) (w.state.in_hand y) back
        ]))

pub what_is_got_back_is_recorded : WhatIsGotBackIsRecorded
what_is_got_back_is_recorded w u node y k reach beat goes =
    let h : Here w = here w reach in
    live_recorded w u node y k h (from_is_live w node y h beat.0 goes) beat

-- ---- deliveries

pub deliveries_find_room : DeliveriesFindRoom
deliveries_find_room w node x last left count y reach is left_there =
    let p : sound.FitsCall w.state node (Some (Delivering x last left count))
    = subst (sound.FitsCall w.state node) is ((reachable_sound w reach).calls node).1 in
    let room : has_room w.state y ≡ true = p.3 y left_there in
    ltb-true (length (w.state.waiting y)) (room_on w.state.fixed y) room

-- the loan's port is the way's sender, and of the node
pub sender_is : (w : World) (node : ℕ) (x : Sending) (last : Option Way) (left : List Way) (count : ℕ) (y : Way) → SoundWorld w
    → w.doing node ≡ Some (Delivering x last left count) → has_way y left ≡ true
    → (y.sender ≡ x.loan.port) × IsAt w.state.fixed.ports y.sender node
sender_is w node x last left count y fits is left_there =
    let p : FitsDoing (view w.state.fixed node) node (Delivering x last left count) = doing-is w node (Delivering x last left count) fits is in
    let from : y.sender ≡ x.loan.port = (target-of x y (p.1.among y (way-among y left left_there))).0 in
    (from, ap (node_in w.state.fixed.ports) from ∙ p.0.loan.of_port)

pub records_have_room : RecordsHaveRoom
records_have_room w node x last left count y reach living is left_there goes =
    let h : Here w = here w reach in
    let live : is_live w.state.fixed y ≡ true = from_is_live w node y h living goes in
    let at : node_of_port w.state.fixed y.sender ≡ node = goes.1 in
    let emptied : is_emptied w y ≡ true =
    ap (λ (o : Option Doing). option_map_or (is_emptied_by w.state.fixed y) o false) (ap w.doing at ∙ is) ∙ left_there in
    few (length (outstanding_on w.state y)) (size_of w y + length (w.state.in_hand y)) (room_of w y)
    (buffer_on w.state.fixed y + borrow_limit_on w.state.fixed y) (outstanding_is_counted h.state w h.beats y h.on live)
    (ledger_stays_within h.state w h.beats y h.on live) (rw emptied (omega arith))
  where
    few : (a b c d : ℕ) → a ≡ b → b ≤ c → c ≡ d → a < d + 1
    few a b c d e p q = omega arith
