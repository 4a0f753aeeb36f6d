-- A slot whose message has another payload, and which slots the end of a call fills.
use Rattle.iox_wire_calls.proofs.OwnPorts.{both}
use Rattle.iox_wire_calls.specs.Ending.TheVariants as endings
use Rattle.std.proofs.Common.{ap, eqb-true, subst, sym, true≢false, ◌∙◌}
use Rattle.iox_wire_keeps.specs.Stored.{IsAddressed, IsStored, StoresAt}
use Rattle.std.specs.Prelude.{Bool, List, false, if◌then◌else◌, length, refl, true, ℕ, ◌&&◌, ◌*◌, ◌+◌, ◌-◌, ◌<◌, ◌==◌, ◌≡◌, ◌≤◌}
use Rattle.iox_laws.proofs.WeaveLedger.Truths.{never}
use Rattle.iox_wire_calls.specs.Regions.{HasRegion}
use Rattle.iox_wire_calls.specs.Writes.{is_slot_of, with_payload}
use Rattle.iox_wire_calls.specs.StoredMessages.{StandFrom, words_in}
use Rattle.iox_wire_calls.specs.Stored.{header_length, message_words}
use Rattle.iox_wire_calls.specs.Tables.{Setting, port_shape, words_before_payload}
use Rattle.iox_wire_calls.proofs.MessageStores.{joined, with_words}
use Rattle.iox_wire_calls.specs.Local.TheVariants.{Ends}
use Rattle.iox_wire_calls.specs.MomentsOf.{Pools}
use Rattle.iox_wire_calls.specs.Fits.{WireContents}
use Rattle.iox_wire_calls.specs.Ending.{Ending}
use Rattle.iox_model.specs.Messages.{Message}
use Rattle.iox_wire_calls.specs.Entry.{Entry}

-- ---- a message with another payload

-- a slot whose message has another payload, which stands there
pub filled_slot : (p : Setting) (held new : Pools) (c : WireContents) (port slot : ℕ) (words : List ℕ) → new port slot ≡ record (held port slot) { payload = words }
    → HasRegion p port → slot < (p.port port).pool → length (held port slot).user ≡ length (port_shape p port).user
    → (held port slot).elements ≤ (p.port port).longest → length words ≡ (held port slot).elements * (port_shape p port).width
    → IsAddressed p port (held port slot)
    → StandFrom p c port slot 0 (words_in p held port slot) (words_before_payload p port) → StandFrom p c port slot (words_before_payload p port) words (length words)
    → IsStored p new c port slot
filled_slot p held new c port slot words is region low user room long lane head tail = record {
  fits = record {
    region = region;
    in_pool = low;
    user = ap (λ (m : Message). length m.user) is ∙ user;
    payload = ap (λ (m : Message). length m.payload) is ∙ long ∙ ap (λ (m : Message). m.elements * (port_shape p port).width) (sym is);
    room = subst (λ (m : Message). m.elements ≤ (p.port port).longest) (sym is) room;
  };
  words = subst (λ xs. StandFrom p c port slot 0 xs (length xs)) (sym (ap (message_words (p.port port).role) is ∙ with_words (p.port port).role (held port slot) words))
      (joined p c port slot (p.port port).role (held port slot) words (words_before_payload p port) (ap (λ k. header_length (p.port port).role + k) (sym user)) head tail);
  addressed = subst (IsAddressed p port) (sym is) lane;
}

-- ---- which slots change

pub payload_elsewhere : (held : Pools) (e : Entry) (words : List ℕ) (q j : ℕ) → (is_slot_of e q j ≡ true → ⊥) → with_payload held e words q j ≡ held q j
payload_elsewhere held e words q j other = by_case (is_slot_of e q j) other
  where
    by_case : (b : Bool) → (b ≡ true → ⊥) → (if b then record (held q j) { payload = words } else held q j) ≡ held q j
    by_case true never = absurd (never refl)
    by_case false never = refl

pub payload_there : (held : Pools) (e : Entry) (words : List ℕ) (q j : ℕ) → is_slot_of e q j ≡ true → with_payload held e words q j ≡ record (held q j) { payload = words }
payload_there held e words q j is = ap (λ b. if b then record (held q j) { payload = words } else held q j) is

pub elements_same : (held : Pools) (e : Entry) (words : List ℕ) (q j : ℕ) → (with_payload held e words q j).elements ≡ (held q j).elements
elements_same held e words q j = by_case (is_slot_of e q j)
  where
    by_case : (b : Bool) → (if b then record (held q j) { payload = words } else held q j).elements ≡ (held q j).elements
    by_case true = refl
    by_case false = refl

-- whether the end fills the slot
abbrev pub fills : Ending → (port slot : ℕ) → Bool
fills (endings.Lends o own) port slot = (port == o.port) && (slot == own)
fills (endings.Fills e words) port slot = (port == e.port) && (slot == e.slot)
fills ending port slot = false

pub fills_at : (ending : Ending) (port slot : ℕ) → fills ending port slot ≡ true → StoresAt (Ends ending) port slot
fills_at (endings.Lends o own) port slot is = let r = both (port == o.port) (slot == own) is in (eqb-true port o.port r.0, eqb-true slot own r.1)
fills_at (endings.Fills e words) port slot is = let r = both (port == e.port) (slot == e.slot) is in (eqb-true port e.port r.0, eqb-true slot e.slot r.1)
fills_at ending port slot is = absurd (true≢false (sym is))
