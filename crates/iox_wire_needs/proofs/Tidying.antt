-- Nodes stay tidy, since what changes of a desk is not its port, and of a count not its way.
use Rattle.std.specs.Prelude.{flat_map, ◌-◌, ◌+◌}
use Rattle.std.proofs.Common.{◌≡◌, ℕ, Bool, true, false, if◌then◌else◌, ◌==◌, List, [], ◌∷◌, map, Option, Some, None, refl, ap, sym, subst, ◌∙◌, inl, inr}
use Rattle.std.specs.Prelude.{◌⊎◌}
use Rattle.iox_model.specs.Handles.{is_received, is_request_loan}
use Rattle.iox_model.specs.Maps.{has_number, same_way}
use Rattle.iox_model.specs.declared.way.RequestState.TheVariants.{Closed}
use Rattle.iox_model.specs.declared.way.Way.{Way}
use Rattle.iox_laws.proofs.WeaveLaws.MapLemmas.{either}
use Rattle.iox_wire_keeps.specs.Begins.{begin}
use Rattle.iox_wire_keeps.specs.Borrowed.{Borrowed}
use Rattle.iox_wire_keeps.specs.Counts.{AreOfDifferentWays, AreOfOtherWays}
use Rattle.iox_wire_keeps.specs.Courses.{placed}
use Rattle.iox_wire_keeps.specs.Desk.{Desk}
use Rattle.iox_wire_keeps.specs.Desks.{AreOfDifferentPorts, AreOfOtherPorts}
use Rattle.iox_wire_keeps.specs.Ending.{Ending}
use Rattle.iox_wire_keeps.specs.Ending.TheVariants as endings
use Rattle.iox_wire_keeps.specs.Entry.{Entry}
use Rattle.iox_wire_keeps.specs.Following.{DeskChange, Delivered, NodeContinues, GotBack, Unchanged, changed, desk_change, drops, keeps, lets_go, picks_slot, puts_aside, sends_loan, takes}
use Rattle.iox_wire_keeps.specs.Local.TheVariants.{Idle}
use Rattle.iox_wire_keeps.specs.LocalsDesks.{all_less, at_count, at_desk, counts_loan, delivers, forgets_ports, gets_back, gives_up, on_desk, picks, slots_to, uses_less, with_count}
use Rattle.iox_wire_keeps.specs.Seat.{Seat}
use Rattle.iox_wire_keeps.specs.Settlements as settle
use Rattle.iox_wire_keeps.specs.Steps.{accessed, advance, closed, ending_at}
use Rattle.iox_wire_keeps.specs.Tables.{Setting, way_in}
use Rattle.iox_wire_keeps.proofs.CountsKept.{begins_keep_own, steps_keep_own}
use Rattle.iox_wire_keeps.proofs.Follows.{accesses_follow}
use Rattle.iox_wire_keeps.proofs.Starts.{Starts, Takes, starts}
use Rattle.iox_wire_needs.specs.Counts.{IsTidy}
use Rattle.iox_wire_needs.specs.Tidying.{BegunNodesAreTidy, SteppedNodesAreTidy}
use Rattle.iox_wire_needs.proofs.AtDesks.{different_after}

-- ---- desks and counts that change

module _ (change : Desk → Desk) (keeps_port : (d : Desk) → (change d).port ≡ d.port) where
  others_changed : (port : ℕ) (ds : List Desk) → AreOfOtherPorts port ds → AreOfOtherPorts port (map change ds)
  others_changed port [] apart = tt
  others_changed port (d ∷ ds) apart = (ap (λ i. i == port) (keeps_port d) ∙ apart.0, others_changed port ds apart.1)

  all_changed : (ds : List Desk) → AreOfDifferentPorts ds → AreOfDifferentPorts (map change ds)
  all_changed [] apart = tt
  all_changed (d ∷ ds) apart = (
    subst (λ i. AreOfOtherPorts i (map change ds)) (sym (keeps_port d)) (others_changed d.port ds apart.0),
    all_changed ds apart.1,
  )

module _ (w : Way) (change : ℕ → ℕ) where
  same_way_counted : (b : Borrowed) (c : Bool) → (if c then record b { count = change b.count } else b).way ≡ b.way
  same_way_counted b true = refl
  same_way_counted b false = refl

  keeps_way : (b : Borrowed) → (with_count w change b).way ≡ b.way
  keeps_way b = same_way_counted b (same_way b.way w)

  others_counted : (v : Way) (bs : List Borrowed) → AreOfOtherWays v bs → AreOfOtherWays v (map (with_count w change) bs)
  others_counted v [] apart = tt
  others_counted v (b ∷ bs) apart = (ap (λ i. same_way i v) (keeps_way b) ∙ apart.0, others_counted v bs apart.1)

  all_counted : (bs : List Borrowed) → AreOfDifferentWays bs → AreOfDifferentWays (map (with_count w change) bs)
  all_counted [] apart = tt
  all_counted (b ∷ bs) apart = (
    subst (λ i. AreOfOtherWays i (map (with_count w change) bs)) (sym (keeps_way b)) (others_counted b.way bs apart.0),
    all_counted bs apart.1,
  )

-- ---- the end of a call

less_port : (slots : List ℕ) (d : Desk) → (all_less slots d).port ≡ d.port
less_port [] d = refl
less_port (slot ∷ slots) d = less_port slots (uses_less slot d)

module _ (p : Setting) (x : Seat) (tidy : IsTidy x) where
  one_desk : (z : Seat) (port : ℕ) (change : Desk → Desk) → ((d : Desk) → (change d).port ≡ d.port) → z.desks ≡ map (on_desk port change) x.desks
      → z.borrowed ≡ x.borrowed → IsTidy z
  one_desk z port change keeps_port desks borrowed = record {
    desks = subst AreOfDifferentPorts (sym desks) (different_after change keeps_port port x.desks tidy.desks);
    counts = subst AreOfDifferentWays (sym borrowed) tidy.counts;
  }

  one_count : (z : Seat) (w : Way) (change : ℕ → ℕ) → z.desks ≡ x.desks → z.borrowed ≡ map (with_count w change) x.borrowed → IsTidy z
  one_count z w change desks borrowed = record {
    desks = subst AreOfDifferentPorts (sym desks) tidy.desks;
    counts = subst AreOfDifferentWays (sym borrowed) (all_counted w change x.borrowed tidy.counts);
  }

  neither : (z : Seat) → z.desks ≡ x.desks → z.borrowed ≡ x.borrowed → IsTidy z
  neither z desks borrowed = record {
    desks = subst AreOfDifferentPorts (sym desks) tidy.desks;
    counts = subst AreOfDifferentWays (sym borrowed) tidy.counts;
  }

  abbrev T : Seat → Type 0
  T z = IsTidy (placed z Idle)

  sent : (e : Entry) (copied : Bool) (count : ℕ) (request : Bool)
      → T (if request then settle.sends_entry x e copied count else settle.sends_away x e copied)
  sent e true count true = one_desk (placed (settle.sends_entry x e true count) Idle) e.port counts_loan (λ d. refl) refl refl
  sent e true count false = one_desk (placed (settle.sends_away x e true) Idle) e.port (λ d. uses_less e.slot (counts_loan d)) (λ d. refl) refl refl
  sent e false count true = neither (placed (settle.sends_entry x e false count) Idle) refl refl
  sent e false count false = one_desk (placed (settle.sends_away x e false) Idle) e.port (uses_less e.slot) (λ d. refl) refl refl

  failed : (e : Entry) (copied : Bool) → T (settle.after_refused_send x e copied)
  failed e true = one_desk (placed (settle.after_refused_send x e true) Idle) e.port (λ d. gives_up e (counts_loan d)) (λ d. refl) refl refl
  failed e false = one_desk (placed (settle.after_refused_send x e false) Idle) e.port (gives_up e) (λ d. refl) refl refl

  dropped : (e : Entry) → T (settle.settled p x (endings.Drops e))
  dropped e =
      either (λ (z : Seat). T (settle.loses z e)) (is_received e.kind) (at_count x (way_in e) (λ n. n - 1)) (at_desk x e.port (gives_up e))
      (λ got. one_count (placed (settle.loses (at_count x (way_in e) (λ n. n - 1)) e) Idle) (way_in e) (λ n. n - 1) refl refl)
      (λ own. one_desk (placed (settle.loses (at_desk x e.port (gives_up e)) e) Idle) e.port (gives_up e) (λ d. refl) refl refl)

  forgotten : (dead : ℕ) → T (if has_number dead x.forgot then x else settle.forgets p x dead)
  forgotten dead =
      either T (has_number dead x.forgot) x (settle.forgets p x dead) (λ is. neither (placed x Idle) refl refl)
      (λ is. record {
        desks = all_changed (forgets_ports _) (λ d. less_port (flat_map (slots_to _) d.recorded) d) x.desks tidy.desks;
        counts = tidy.counts;
      })

  settled_tidy : (ending : Ending) → T (settle.settled p x ending)
  settled_tidy (endings.Lends o slot) = one_desk (placed (settle.settled p x (endings.Lends o slot)) Idle) o.port counts_loan (λ d. refl) refl refl
  settled_tidy (endings.Sends e copied count) = sent e copied count (is_request_loan e.kind)
  settled_tidy (endings.FailsToSend e copied r) = failed e copied
  settled_tidy (endings.Receives v w slot header) = one_count (placed (settle.settled p x (endings.Receives v w slot header)) Idle) w (λ n. n + 1) refl refl
  settled_tidy (endings.Drops e) = dropped e
  settled_tidy (endings.Forgets dead) = forgotten dead
  settled_tidy ending = neither (placed x Idle) refl refl

  over : (o : Option Ending) → IsTidy (closed p x o)
  over None = tidy
  over (Some ending) = settled_tidy ending

-- ---- an access

change_tidy : (x : Seat) (change : DeskChange) → AreOfDifferentPorts x.desks → AreOfDifferentPorts (changed change x).desks
change_tidy x Unchanged apart = apart
change_tidy x (GotBack port w slot) apart = different_after (gets_back w slot) (λ d. refl) port x.desks apart
change_tidy x (Delivered port w slot) apart = different_after (delivers w slot) (λ d. refl) port x.desks apart

module _ (p : Setting) (x : Seat) (seen : ℕ) (tidy : IsTidy x) where
  abbrev y : Seat
  y = advance p (accessed x) x.local seen

  same : y.desks ≡ x.desks → AreOfDifferentPorts (advance p (accessed x) x.local seen).desks
  same desks = subst AreOfDifferentPorts (sym desks) tidy.desks

  by_follows : NodeContinues p (accessed x) x.local seen (advance p (accessed x) x.local seen) → AreOfDifferentPorts (advance p (accessed x) x.local seen).desks
  by_follows (keeps desks message) = subst AreOfDifferentPorts (sym desks) (change_tidy (accessed x) (desk_change p x.local seen) tidy.desks)
  by_follows (lets_go desks still message may) = same desks
  by_follows (takes w slot desks still message on) = same desks
  by_follows (puts_aside e desks still returns message) = same desks
  by_follows (drops e desks still of message) = same desks
  by_follows (picks_slot o slot free desks still place before there lends) =
      subst AreOfDifferentPorts (sym desks) (different_after (picks o slot free) (λ d. refl) o.port x.desks tidy.desks)
  by_follows (sends_loan o slot desks still before copies message) = same desks

  advanced : IsTidy (advance p (accessed x) x.local seen)
  advanced = record {
    desks = by_follows (accesses_follow p (accessed x) seen);
    counts = subst AreOfDifferentWays (sym (steps_keep_own p x seen).borrowed) tidy.counts;
  }

pub stepped_nodes_are_tidy : SteppedNodesAreTidy
stepped_nodes_are_tidy p x seen tidy =
    over p (advance p (accessed x) x.local seen) (advanced p x seen tidy) (ending_at (advance p (accessed x) x.local seen).local)

pub begun_nodes_are_tidy : BegunNodesAreTidy
begun_nodes_are_tidy p x call tidy = record {
  desks = by_start (starts p (λ w. Closed) x call);
  counts = subst AreOfDifferentWays (sym (begins_keep_own p x call).borrowed) tidy.counts;
}
  where
    by_start : Starts p (λ w. Closed) x (begin p x call) ⊎ Takes x (begin p x call) → AreOfDifferentPorts (begin p x call).desks
    by_start (inl start) = subst AreOfDifferentPorts (sym start.desks) tidy.desks
    by_start (inr took) =
        subst AreOfDifferentPorts (sym took.desks) (different_after (picks took.loan took.slot took.free) (λ d. refl) took.loan.port x.desks tidy.desks)
