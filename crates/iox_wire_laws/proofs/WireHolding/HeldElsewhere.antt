-- What slots hold changes nothing of a node or of a queue that does not name them.
use Rattle.std.specs.Prelude.{map}
use Rattle.std.proofs.Common.{◌≡◌, ℕ, Bool, true, ◌==◌, ◌&&◌, List, [], ◌∷◌, Some, refl, ap, inl, inr}
use Rattle.iox_model.specs.declared.way.Way.{Way}
use Rattle.iox_model.specs.Begins.{written}
use Rattle.iox_model.specs.Doings as doings
use Rattle.iox_model.specs.Doings.{Doing, Sending, Ended, Asking, Emptying, Looking, Opening, Delivering, Evicted, Judging, Stale, Closing, Returning, Leaving, Checking, Hinting}
use Rattle.iox_model.specs.Messages.{Message}
use Rattle.iox_model.specs.Receives.{took}
use Rattle.iox_model.specs.Requests.{sending_of}
use Rattle.iox_model.specs.States.{Fixed, Handle}
use Rattle.iox_laws.proofs.WeaveLaws.MapLemmas.{eqb-refl}
use Rattle.iox_laws.proofs.WeaveLedger.Lists.{IsAmong}
use Rattle.iox_laws.proofs.WeaveLedger.Truths.{both_true}
use Rattle.iox_wire_moments.specs.MomentsOf.{Pools}
use Rattle.iox_wire_locals.specs.declared.local.Delivery.{Delivery}
use Rattle.iox_wire_locals.specs.declared.local.Ending.{Ending}
use Rattle.iox_wire_locals.specs.declared.local.Ending.TheVariants as endings
use Rattle.iox_wire_locals.specs.declared.local.Local.{Local}
use Rattle.iox_wire_locals.specs.declared.local.Local.TheVariants.{Ends, Writes, SendAsks, SendEmpties, SendLooks, SendOpens, SendPushes, SendEvicts, SendGetsBack, SendEnds, ReceiveLoads, ReceiveAsks, ReceiveReturns, Reads, ReleaseCloses, ReleaseReturns, ReleaseLooks, ReleaseExchanges, Checks, Hints, HintExchanges}
use Rattle.iox_wire_locals.specs.declared.table.Entry.{Entry}
use Rattle.iox_wire_locals.specs.Doings.{all_words, doing_of, outcome_of, receiver_in, refusal_of}
use Rattle.iox_wire_locals.specs.Tables.{Setting, handle_of}
use Rattle.iox_wire_laws.specs.WireHolding.Named.{ending_names, place_names}

-- an entry's handle, with this message
abbrev pub handle_with : ℕ → Entry → Message → Handle
handle_with node e m = record {
  node = node;
  number = e.number;
  kind = e.kind;
  port = e.port;
  message = m;
  filled = m.elements;
  client = e.client;
  lane = e.lane;
  request = e.request;
  connections = e.connections;
}

abbrev send_with : Fixed → ℕ → Delivery → Message → Sending
send_with f n d m = sending_of f (handle_with n d.loan m) d.copied d.to

module _ (held new : Pools) where
  -- a list of slots holds the same messages, if each of them does
  pub slots_same : {A : Type 0} (g : Message → A) (port : ℕ) (slots : List ℕ) → ((j : ℕ) → IsAmong j slots → new port j ≡ held port j)
      → map (λ j. g (new port j)) slots ≡ map (λ j. g (held port j)) slots
  slots_same g port [] same = refl
  slots_same g port (j ∷ js) same =
      let here : g (new port j) ≡ g (held port j) = ap g (same j (inl refl)) in
      let later = slots_same g port js (λ k among. same k (inr among)) in
      (λ i. here i ∷ later i)

  -- so do the handles of entries
  pub handles_same : (n : ℕ) (table : List Entry) → ((e : Entry) → IsAmong e table → new e.sender e.slot ≡ held e.sender e.slot)
      → map (handle_of new n) table ≡ map (handle_of held n) table
  handles_same n [] same = refl
  handles_same n (e ∷ es) same =
      let here : handle_of new n e ≡ handle_of held n e = ap (handle_with n e) (same e (inl refl)) in
      let later = handles_same n es (λ k among. same k (inr among)) in
      (λ i. here i ∷ later i)

  module _ (p : Setting) (f : Fixed) (n : ℕ) where
    abbrev Agree : (ℕ → ℕ → Bool) → Type 0
    Agree names = (q j : ℕ) → names q j ≡ true → new q j ≡ held q j

    -- a name names itself
    at_entry : (e : Entry) → Agree (λ q j. (q == e.sender) && (j == e.slot)) → new e.sender e.slot ≡ held e.sender e.slot
    at_entry e same = same e.sender e.slot (both_true _ _ (eqb-refl e.sender) (eqb-refl e.slot))

    at_way : (w : Way) (slot : ℕ) → Agree (λ q j. (q == w.sender) && (j == slot)) → new w.sender slot ≡ held w.sender slot
    at_way w slot same = same w.sender slot (both_true _ _ (eqb-refl w.sender) (eqb-refl slot))

    ended_same : (ending : Ending) → Agree (ending_names ending) → outcome_of p new n ending ≡ outcome_of p held n ending
    ended_same (endings.Fills e words) same = ap (λ m. doings.Fills (written (handle_with n e m) words)) (at_entry e same)
    ended_same (endings.Sends e copied count) same = ap (λ m. doings.Sends (handle_with n e m) copied count) (at_entry e same)
    ended_same (endings.FailsToSend e copied r) same = ap (λ m. doings.FailsToSend (handle_with n e m) copied (refusal_of r)) (at_entry e same)
    ended_same (endings.Receives v w slot header) same = ap (doings.Receives (receiver_in v) w) (at_way w slot same)
    ended_same (endings.Drops e) same = ap (λ m. doings.Drops (handle_with n e m)) (at_entry e same)
    ended_same ending same = refl

    -- a place that names none of the slots that changed stands for the same
    pub place_same : (local : Local) → Agree (place_names local) → doing_of p f new n local ≡ doing_of p f held n local
    place_same (Ends ending) same = ap (λ o. Some (Ended o)) (ended_same ending same)
    place_same (Writes e words next) same = ap (λ m. Some (Ended (doings.Fills (written (handle_with n e m) words)))) (at_entry e same)
    place_same (SendAsks d) same = ap (λ m. Some (Asking (send_with f n d m))) (at_entry d.loan same)
    place_same (SendEmpties d w place left) same = ap (λ m. Some (Emptying (send_with f n d m) (w ∷ left))) (at_entry d.loan same)
    place_same (SendLooks d w place left full) same = ap (λ m. Some (Looking (send_with f n d m) (w ∷ left) full)) (at_entry d.loan same)
    place_same (SendOpens d w left full) same = ap (λ m. Some (Opening (send_with f n d m) (w ∷ left) full)) (at_entry d.loan same)
    place_same (SendPushes d last w place left count) same = ap (λ m. Some (Delivering (send_with f n d m) last (w ∷ left) count)) (at_entry d.loan same)
    place_same (SendEvicts d w place left count) same = ap (λ m. Some (Delivering (send_with f n d m) (Some w) left count)) (at_entry d.loan same)
    place_same (SendGetsBack d w place left count) same = ap (λ m. Some (Evicted (send_with f n d m) w left count)) (at_entry d.loan same)
    place_same (SendEnds d last count) same = ap (λ m. Some (Delivering (send_with f n d m) last [] count)) (at_entry d.loan same)
    place_same (ReceiveLoads v w slot header left waiting) same = ap (λ m. Some (took f n (receiver_in v) w m (w ∷ left) waiting)) (at_way w slot same)
    place_same (ReceiveAsks v w slot header left waiting) same = ap (λ m. Some (Judging (receiver_in v) w m (w ∷ left) waiting)) (at_way w slot same)
    place_same (ReceiveReturns v w slot place left waiting) same = ap (λ m. Some (Stale (receiver_in v) w m (w ∷ left) waiting)) (at_way w slot same)
    place_same (Reads e words) same = ap (λ m. Some (all_words m)) (at_entry e same)
    place_same (ReleaseCloses e w left) same = ap (λ m. Some (Closing (handle_with n e m) (w ∷ left))) (at_entry e same)
    place_same (ReleaseReturns e place) same = ap (λ m. Some (Returning (handle_with n e m))) (at_entry e same)
    place_same (ReleaseLooks e) same = ap (λ m. Some (Leaving (handle_with n e m))) (at_entry e same)
    place_same (ReleaseExchanges e old) same = ap (λ m. Some (Leaving (handle_with n e m))) (at_entry e same)
    place_same (Checks e hinted w left) same = ap (λ m. Some (Checking (handle_with n e m) hinted (w ∷ left))) (at_entry e same)
    place_same (Hints e w left) same = ap (λ m. Some (Hinting (handle_with n e m) (w ∷ left))) (at_entry e same)
    place_same (HintExchanges e w left) same = ap (λ m. Some (Hinting (handle_with n e m) (w ∷ left))) (at_entry e same)
    place_same local same = refl
