-- One entry's message is another, and no other entry's.
use Rattle.std.specs.Prelude.{map, not, ◌||◌}
use Rattle.std.specs.List.{list_all}
use Rattle.std.proofs.Common.{◌≡◌, ℕ, Bool, true, false, if◌then◌else◌, ◌==◌, List, [], ◌∷◌, Some, refl, ap, sym, subst, ◌∙◌, eqb-true, true≢false}
use Rattle.iox_model.specs.Begins.{written}
use Rattle.iox_model.specs.Counts.{with_handle}
use Rattle.iox_model.specs.Handles.{filled_kind}
use Rattle.iox_model.specs.Maps.{has_number, AreDistinct}
use Rattle.iox_model.specs.Messages.{Message}
use Rattle.iox_model.specs.States.{Handle}
use Rattle.iox_laws.proofs.WeaveLaws.MapLemmas.{eqb-refl}
use Rattle.iox_laws.proofs.WeaveLaws.WholeLemmas.{some-is, split, put_at-here}
use Rattle.iox_laws.proofs.WeaveLedger.Truths.{none-some, or-rest, or-false}
use Rattle.iox_wire_moments.specs.MomentsOf.{Pools}
use Rattle.iox_wire_locals.specs.declared.table.Entry.{Entry}
use Rattle.iox_wire_locals.specs.Tables.{handle_of, entry_at}
use Rattle.iox_wire_laws.specs.WireKeeping.Writes.{is_slot_of, with_payload, WritesKeepCounts}

module _ (held : Pools) (node : ℕ) (e : Entry) (words : List ℕ) where
  abbrev others : Entry → Bool
  others k = (k.number == e.number) || not (is_slot_of e k.sender k.slot)

  not_true : (b : Bool) → not b ≡ true → b ≡ false
  not_true true h = absurd (true≢false (sym h))
  not_true false h = refl

  -- an entry of another slot stands for the same handle
  other_same : (k : Entry) → is_slot_of e k.sender k.slot ≡ false → handle_of held node k ≡ handle_of (with_payload held e words) node k
  other_same k other = by_case (is_slot_of e k.sender k.slot) other
    where
      with_message : Message → Handle
      with_message m = record (handle_of held node k) { message = m; filled = m.elements }

      by_case : (b : Bool) → b ≡ false
          → handle_of held node k ≡ with_message (if b then record (held k.sender k.slot) { payload = words } else held k.sender k.slot)
      by_case true is = absurd (true≢false is)
      by_case false is = refl

  all_same : (ks : List Entry) → has_number e.number (map (λ k. k.number) ks) ≡ false → list_all others ks ≡ true
      → map (handle_of held node) ks ≡ map (handle_of (with_payload held e words) node) ks
  all_same [] apart all = refl
  all_same (k ∷ ks) apart all =
      let r : ((k.number == e.number) ≡ false) × (has_number e.number (map (λ q. q.number) ks) ≡ false) = or-false _ _ apart in
      let o : (others k ≡ true) × (list_all others ks ≡ true) = split _ _ all in
      let here : handle_of held node k ≡ handle_of (with_payload held e words) node k
      = other_same k (not_true _ (or-rest _ _ o.0 r.0)) in
      (λ i. here i ∷ all_same ks r.1 o.1 i)

  -- the written handle is that of the entry with the new words
  written_is : filled_kind e.kind ≡ e.kind → written (handle_of held node e) words ≡ handle_of (with_payload held e words) node e
  written_is filled = by_case (is_slot_of e e.sender e.slot) own
    where
      own : is_slot_of e e.sender e.slot ≡ true
      own = rw (eqb-refl e.sender) (eqb-refl e.slot)

      with_message : Message → Handle
      with_message m = record (handle_of held node e) { message = m; filled = m.elements }

      by_case : (b : Bool) → b ≡ true → written (handle_of held node e) words
          ≡ with_message (if b then record (held e.sender e.slot) { payload = words } else held e.sender e.slot)
      by_case true is = λ i. record (written (handle_of held node e) words) { kind = filled i }
      by_case false is = absurd (true≢false (sym is))

  changed_is : filled_kind e.kind ≡ e.kind → (table : List Entry) → entry_at e.number table ≡ Some e
      → AreDistinct (map (λ k. k.number) table) → list_all others table ≡ true
      → with_handle (written (handle_of held node e) words) (map (handle_of held node) table)
      ≡ map (handle_of (with_payload held e words) node) table
  changed_is filled [] there apart all = none-some e there
  changed_is filled (k ∷ ks) there apart all =
      by_number (k.number == e.number) refl there (changed_is filled ks)
    where
      o : (others k ≡ true) × (list_all others ks ≡ true)
      o = split _ _ all

      by_number : (b : Bool) → (k.number == e.number) ≡ b → (if b then Some k else entry_at e.number ks) ≡ Some e
          → (entry_at e.number ks ≡ Some e → AreDistinct (map (λ q. q.number) ks) → list_all others ks ≡ true
          → with_handle (written (handle_of held node e) words) (map (handle_of held node) ks) ≡ map (handle_of (with_payload held e words) node) ks)
          → (if b then written (handle_of held node e) words ∷ map (handle_of held node) ks
          else handle_of held node k ∷ with_handle (written (handle_of held node e) words) (map (handle_of held node) ks))
          ≡ handle_of (with_payload held e words) node k ∷ map (handle_of (with_payload held e words) node) ks
      by_number true is first rest =
          let same : k ≡ e = some-is k e first in
          let here : written (handle_of held node e) words ≡ handle_of (with_payload held e words) node k
          = written_is filled ∙ ap (handle_of (with_payload held e words) node) (sym same) in
          let later = all_same ks (subst (λ n. has_number n (map (λ q. q.number) ks) ≡ false) (eqb-true k.number e.number is) apart.0) o.1 in
          (λ i. here i ∷ later i)
      by_number false is first rest =
          let here : handle_of held node k ≡ handle_of (with_payload held e words) node k
          = other_same k (not_true _ (or-rest _ _ o.0 is)) in
          let later = rest first apart.1 o.1 in
          (λ i. here i ∷ later i)

pub writes_keep_counts : WritesKeepCounts
writes_keep_counts p x s held e words payload has filled there apart all = record {
  knows = record {
    limits = has.knows.limits;
    ports = has.knows.ports;
    unhandled = has.knows.unhandled;
    handles = put_at-here s.fixed.handles x.node _
        ∙ ap (with_handle (written (handle_of held x.node e) words)) has.knows.handles
        ∙ changed_is held x.node e words filled x.table there apart all;
    forgot = has.knows.forgot;
    sent = λ port slot. sent port slot (is_slot_of e port slot);
  };
  on_wire = has.on_wire;
  next_number = has.next_number;
  handles_made = has.handles_made;
  expired = has.expired;
}
  where
    sent : (port slot : ℕ) (b : Bool) → (if b then record (held port slot) { payload = words } else held port slot).sender ≡ port
    sent port slot true = has.knows.sent port slot
    sent port slot false = has.knows.sent port slot
