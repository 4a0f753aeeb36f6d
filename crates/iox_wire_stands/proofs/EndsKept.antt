-- What the end of a call keeps of its own node, ending by ending.
use Rattle.std.specs.Prelude.{◌⊎◌, find, flat_map, is_some, map}
use Rattle.std.specs.Option.{option_map}
use Rattle.std.proofs.Common.{◌≡◌, ℕ, ◌-◌, Bool, true, false, if◌then◌else◌, ◌==◌, List, [], ◌∷◌, Option, Some, None, refl, ap, sym, subst, ◌∙◌, inl, inr}
use Rattle.iox_model.specs.Handles.{is_received, is_request_loan}
use Rattle.iox_model.specs.Maps.{has_number}
use Rattle.iox_wire_locals.specs.declared.local.Ending.{Ending}
use Rattle.iox_wire_locals.specs.declared.local.Ending.TheVariants as endings
use Rattle.iox_wire_locals.specs.declared.seat.Seat.{Seat}
use Rattle.iox_wire_locals.specs.declared.table.Desk.{Desk}
use Rattle.iox_wire_locals.specs.declared.table.Entry.{Entry}
use Rattle.iox_wire_locals.specs.Desks.{all_less, at_count, at_desk, counts_loan, forgets_ports, gives_up, on_desk, slots_to, uses_less}
use Rattle.iox_wire_locals.specs.declared.local.Local.TheVariants.{Idle}
use Rattle.iox_wire_locals.specs.Courses.{placed}
use Rattle.iox_wire_locals.specs.Known.{known}
use Rattle.iox_wire_locals.specs.Steps.{closed}
use Rattle.iox_model.specs.Peers.{ports_of_node}
use Rattle.iox_wire_locals.specs.Lendings.{next_handle}
use Rattle.iox_wire_locals.specs.NewLoans.{entry_in, received_entry}
use Rattle.iox_wire_locals.specs.Settlements as settle
use Rattle.iox_wire_locals.specs.Tables.{Setting, entry_at, sent_entry, way_in}
use Rattle.iox_wire_laws.proofs.WireKeeping.RecordsKept.{found}
use Rattle.iox_wire_laws.specs.WireHolding.SlotsKnown.{HasEntry}
use Rattle.iox_wire_laws.specs.WireHolding.FarSlots.{IsInPool}
use Rattle.iox_wire_stands.specs.Nodes.{HasOwnDesks}
use Rattle.iox_wire_stands.specs.EndLaws.{EndsAddOneEntry, EndsKeepDesks, EndsKeepNames, EndsKeepPools, IsAdded}
use Rattle.iox_wire_stands.proofs.EndTables.{one_more, one_other, stayed}

-- ---- entries

module _ (p : Setting) (x : Seat) (e : Entry) where
  abbrev Was : Ending → Seat → Type 0
  Was ending z = HasEntry z e → HasEntry x e ⊎ IsAdded p x ending e

  sends : (k : Entry) (copied : Bool) (count : ℕ) (request : Bool)
      → Was (endings.Sends k copied count) (if request then settle.sends_entry x k copied count else settle.sends_away x k copied)
  sends k true count true has = one_more e.number (sent_entry k count) x.table e has
  sends k true count false has = inl has
  sends k false count true has = one_other e.number (sent_entry k count) x.table e has
  sends k false count false has = inl (stayed e.number k.number x.table e has)

  fails : (k : Entry) (copied : Bool) → HasEntry (settle.after_refused_send x k copied) e → HasEntry x e
  fails k true has = has
  fails k false has = stayed e.number k.number x.table e has

  drops : (k : Entry) (b : Bool) (y z : Seat) → y.table ≡ x.table → z.table ≡ x.table → HasEntry (settle.loses (if b then y else z) k) e → HasEntry x e
  drops k true y z one two has = ap (entry_at e.number) (sym one) ∙ stayed e.number k.number y.table e has
  drops k false y z one two has = ap (entry_at e.number) (sym two) ∙ stayed e.number k.number z.table e has

  forgets : (dead : ℕ) (b : Bool) → HasEntry (if b then x else settle.forgets p x dead) e → HasEntry x e
  forgets dead true has = has
  forgets dead false has = has

pub ends_add_one_entry : EndsAddOneEntry
ends_add_one_entry p x (endings.Lends o slot) e has = one_more e.number (entry_in o slot) x.table e has
ends_add_one_entry p x (endings.Sends k copied count) e has = sends p x e k copied count (is_request_loan k.kind) has
ends_add_one_entry p x (endings.FailsToSend k copied r) e has = inl (fails p x e k copied has)
ends_add_one_entry p x (endings.Receives v w slot header) e has =
    one_more e.number (received_entry (next_handle p x) v w slot header) x.table e has
ends_add_one_entry p x (endings.Drops k) e has = inl (drops p x e k (is_received k.kind) _ _ refl refl has)
ends_add_one_entry p x (endings.Forgets dead) e has = inl (forgets p x e dead (has_number dead x.forgot) has)
ends_add_one_entry p x ending e has = inl has

either_way : {A : Type 0} {B : Type 0} {C : Type 0} → (A → C) → (B → C) → A ⊎ B → C
either_way f g (inl a) = f a
either_way f g (inr b) = g b

pub ends_keep_names : EndsKeepNames
ends_keep_names p f x ending old new = record {
  entries = λ e has. either_way (old e) (new e) (ends_add_one_entry p x ending e has);
  place = tt;
}

pub ends_keep_pools : EndsKeepPools
ends_keep_pools p x ending old new = (
  record { entries = λ e has. inl (pool e has); place = tt },
  pool,
)
  where
    pool : (e : Entry) → HasEntry (closed p x (Some ending)) e → IsInPool p e.sender e.slot
    pool e has = either_way (old e has) (new e) (ends_add_one_entry p x ending e has)

-- ---- desks

some_still : (change : Desk → Desk) (d : Option Desk) → is_some (option_map change d) ≡ true → is_some d ≡ true
some_still change None some = some
some_still change (Some d) some = refl

-- desks that change keep their ports
module _ (p : Setting) (x : Seat) (own : HasOwnDesks p x) where
  desks_of : (z : Seat) (change : Desk → Desk) → z.node ≡ x.node → z.desks ≡ map change x.desks → ((d : Desk) → (change d).port ≡ d.port) → HasOwnDesks p z
  desks_of z change node desks keeps port some =
      let there : is_some (find (λ d. d.port == port) (map change x.desks)) ≡ true
      = subst (λ ds. is_some (find (λ d. d.port == port) ds) ≡ true) desks some in
      let before = own port (some_still change (find (λ d. d.port == port) x.desks)
      (subst (λ o. is_some o ≡ true) (found change (λ d. d.port == port) (λ d. ap (λ n. n == port) (keeps d)) x.desks) there)) in
      (before.0, before.1 ∙ sym node)

  desks_at : (z : Seat) (q : ℕ) (change : Desk → Desk) → z.node ≡ x.node → z.desks ≡ map (on_desk q change) x.desks
      → ((d : Desk) → (change d).port ≡ d.port) → HasOwnDesks p z
  desks_at z q change node desks keeps = desks_of z (on_desk q change) node desks (λ d. by_port d (d.port == q))
    where
      by_port : (d : Desk) (b : Bool) → (if b then change d else d).port ≡ d.port
      by_port d true = keeps d
      by_port d false = refl

  desks_same : (z : Seat) → z.node ≡ x.node → z.desks ≡ x.desks → HasOwnDesks p z
  desks_same z node desks port some =
      let before = own port (subst (λ ds. is_some (find (λ d. d.port == port) ds) ≡ true) desks some) in (before.0, before.1 ∙ sym node)

  abbrev D : Seat → Type 0
  D z = HasOwnDesks p (placed z Idle)

  sent_desks : (k : Entry) (copied : Bool) (count : ℕ) (request : Bool) → D (if request then settle.sends_entry x k copied count else settle.sends_away x k copied)
  sent_desks k true count true = desks_at (placed (settle.sends_entry x k true count) Idle) k.port counts_loan refl refl (λ d. refl)
  sent_desks k true count false =
      desks_at (placed (settle.sends_away x k true) Idle) k.port (λ d. uses_less k.slot (counts_loan d)) refl refl (λ d. refl)
  sent_desks k false count true = desks_same (placed (settle.sends_entry x k false count) Idle) refl refl
  sent_desks k false count false = desks_at (placed (settle.sends_away x k false) Idle) k.port (uses_less k.slot) refl refl (λ d. refl)

  failed_desks : (k : Entry) (copied : Bool) → D (settle.after_refused_send x k copied)
  failed_desks k true =
      desks_at (placed (settle.after_refused_send x k true) Idle) k.port (λ d. gives_up k (counts_loan d)) refl refl (λ d. refl)
  failed_desks k false = desks_at (placed (settle.after_refused_send x k false) Idle) k.port (gives_up k) refl refl (λ d. refl)

  dropped_desks : (k : Entry) (b : Bool) → D (settle.loses (if b then at_count x (way_in k) (λ n. n - 1) else at_desk x k.port (gives_up k)) k)
  dropped_desks k true = desks_same (placed (settle.loses (at_count x (way_in k) (λ n. n - 1)) k) Idle) refl refl
  dropped_desks k false = desks_at (placed (settle.loses (at_desk x k.port (gives_up k)) k) Idle) k.port (gives_up k) refl refl (λ d. refl)

  less_port : (slots : List ℕ) (d : Desk) → (all_less slots d).port ≡ d.port
  less_port [] d = refl
  less_port (slot ∷ slots) d = less_port slots (uses_less slot d)

  forgot_desks : (dead : ℕ) (b : Bool) → D (if b then x else settle.forgets p x dead)
  forgot_desks dead true = desks_same (placed x Idle) refl refl
  forgot_desks dead false =
      desks_of (placed (settle.forgets p x dead) Idle) (forgets_ports (ports_of_node (known p x) dead)) refl refl
      (λ d. less_port (flat_map (slots_to (ports_of_node (known p x) dead)) d.recorded) d)

pub ends_keep_desks : EndsKeepDesks
ends_keep_desks p x (endings.Lends o slot) own =
    desks_at p x own (closed p x (Some (endings.Lends o slot))) o.port counts_loan refl refl (λ d. refl)
ends_keep_desks p x (endings.Sends k copied count) own = sent_desks p x own k copied count (is_request_loan k.kind)
ends_keep_desks p x (endings.FailsToSend k copied r) own = failed_desks p x own k copied
ends_keep_desks p x (endings.Drops k) own = dropped_desks p x own k (is_received k.kind)
ends_keep_desks p x (endings.Forgets dead) own = forgot_desks p x own dead (has_number dead x.forgot)
ends_keep_desks p x (endings.Receives v w slot header) own = desks_same p x own (closed p x (Some (endings.Receives v w slot header))) refl refl
ends_keep_desks p x ending own = desks_same p x own (closed p x (Some ending)) refl refl
