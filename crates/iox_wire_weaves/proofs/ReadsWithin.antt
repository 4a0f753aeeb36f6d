-- A read tells no more words than a message takes in its slot.
use Rattle.std.specs.Prelude.{◌⊎◌}
use Rattle.std.proofs.Common.{◌≡◌, ℕ, ◌+◌, ◌*◌, ◌≤◌, List, [], length, Some, None, ap, sym, subst, ◌∙◌, arith, inl, inr}
use Rattle.iox_model.specs.declared.reply.Reply.TheVariants.{Words}
use Rattle.iox_wire_nodes.specs.Entry.{Entry}
use Rattle.iox_wire_nodes.specs.Nodes.{seat_in}
use Rattle.iox_wire_nodes.specs.Plans.{slot_words_of}
use Rattle.iox_wire_nodes.specs.Seat.{Seat}
use Rattle.iox_wire_nodes.specs.Steps.{tells}
use Rattle.iox_wire_nodes.specs.Tables.{Setting, port_shape, words_before_payload, words_to_read}
use Rattle.iox_wire_needs.specs.OwnedWords.{HasSlot}
use Rattle.iox_wire_needs.specs.ReadWords.{TellsNoWords}
use Rattle.iox_wire_needs.specs.Runs.{Run}
use Rattle.iox_wire_needs.proofs.ReadWords.{reads_tell_messages}
use Rattle.iox_wire_weaves.specs.Laws.{ReadsAreWithin}
use Rattle.iox_wire_weaves.specs.Wires.{Shows, WireData, WireNode, living_refusal, node_at, players_of, refusal_in, seat_of}
use Rattle.iox_wire_weaves.proofs.Lookups.{seat_there}
use Rattle.iox_wire_weaves.proofs.PortSlots.{message_in_slot}
use Rattle.std.specs.Prelude.{option_map}

-- the longest message of a port has room, and so has each other
shorter : (before user each longest slot : ℕ) → before + each ≤ before + longest → user + longest ≤ slot → user + each ≤ slot
shorter before user each longest slot less room = omega (arith, less, room)

module _ (p : Setting) (wire : WireData) (r : Run) (shows : Shows p wire r) where
  in_slot : (e : Entry) → HasSlot p e → words_to_read p e ≤ slot_words_of wire.plan e.sender
  in_slot e has =
      let room = has.room in
      let all : length (port_shape p e.sender).user + (p.port e.sender).longest * (port_shape p e.sender).width ≤ slot_words_of wire.plan e.sender =
      message_in_slot p wire r shows e.sender has.region.there has.region e.slot (p.port e.sender).longest has.in_pool (omega arith) in
      shorter (words_before_payload p e.sender) (length (port_shape p e.sender).user) (e.elements * (port_shape p e.sender).width)
      ((p.port e.sender).longest * (port_shape p e.sender).width) (slot_words_of wire.plan e.sender) room all

  within : (told : List ℕ) → (told ≡ []) ⊎ ((e : Entry) × HasSlot p e × (length told ≡ words_to_read p e))
      → (told ≡ []) ⊎ ((port : ℕ) × (length told ≤ slot_words_of wire.plan port))
  within told (inl none) = inl none
  within told (inr (e, has, long)) = inr (e.sender, subst (λ k. k ≤ slot_words_of wire.plan e.sender) (sym long) (in_slot e has))

pub reads_are_within : ReadsAreWithin
reads_are_within p wire r n x seen told shows alive there nothing is =
    let here : seat_of p wire.nodes n ≡ seat_in x.node = seat_there p wire.nodes n x there in
    within p wire r shows told
    (reads_tell_messages p wire.words (players_of p wire.nodes r) r n seen told shows.stands (shows.living n ∙ ap (option_map refusal_in) alive)
    (subst (λ (s : Seat). TellsNoWords s.local) (sym here) nothing)
    (ap (λ (s : Seat). tells p s seen) here ∙ is))
