-- How the send of a response continues as it delivers.
use Rattle.std.proofs.Common.{◌≡◌, ◌+◌, ◌<◌, ◌==◌, ℕ, Bool, true, false, cond, List, [], ◌∷◌, map, slice_index, slice_set, None, Some, refl, ap, ap₂, sym, subst, ◌∙◌, true≢false, eqb-true, eq-eqb, arith}
use Rattle.std.proofs.lemmas.List.{get_or-set_other, get_or-set_same}
use Rattle.iox_model.specs.declared.reply.Reply.TheVariants as replies
use Rattle.iox_model.specs.declared.way.Way.{Way}
use Rattle.iox_model.specs.Handles.{is_response_loan}
use Rattle.iox_model.specs.Requests.{may_evict}
use Rattle.iox_steps.specs.Sides.{pushing_after, pushing_event}
use Rattle.iox_steps.specs.declared.site.Site.{Site}
use Rattle.iox_steps.specs.declared.side.Pushing.{Pushing}
use Rattle.iox_steps.specs.declared.side.Pushing.TheVariants as pushing
use Rattle.iox_steps.specs.declared.side.QueueEvent.{QueueEvent}
use Rattle.iox_steps.specs.declared.side.QueueEvent.TheVariants as events
use Rattle.iox_word_map.specs.WordMaps.{MessageQueue}
use Rattle.iox_wire_words.specs.Programs.{site_of}
use Rattle.iox_wire_locals.specs.declared.local.Local.TheVariants.{Idle, SendEnds}
use Rattle.iox_wire_locals.specs.declared.seat.Seat.{Seat}
use Rattle.iox_wire_locals.specs.declared.table.Desk.{Desk}
use Rattle.iox_wire_locals.specs.declared.table.Entry.{Entry}
use Rattle.iox_wire_locals.specs.Courses.{placed}
use Rattle.iox_wire_locals.specs.Desks.{at_desk, delivers, on_desk}
use Rattle.iox_wire_locals.specs.Findings.{send_delivered, send_evicted, send_pushed}
use Rattle.iox_wire_locals.specs.Known.{sending}
use Rattle.iox_wire_loans.specs.Aims.{after, answered}
use Rattle.iox_wire_locals.specs.Settlements.{sends_away}
use Rattle.iox_wire_locals.specs.Steps.{accessed, advance, next, tells}
use Rattle.iox_wire_locals.specs.Tables.{Setting, state_in}
use Rattle.iox_wire_seats.specs.Aims.{is_at_rest}
use Rattle.iox_wire_seats.specs.Desks.{IsUsed, MayDeliver}
use Rattle.iox_wire_seats.proofs.SlotLemmas.{within}
use Rattle.iox_wire_sends.specs.declared.terms.ResponseTerms.{ResponseTerms}
use Rattle.iox_wire_sends.specs.Aims.{IsToldOf}
use Rattle.iox_wire_sends.specs.Dispatches.{delivery_to}
use Rattle.iox_wire_sends.proofs.EndLemmas.{it_ends, it_is_done}
use Rattle.iox_wire_sends.proofs.SendLemmas.{evicts, pushes}

-- ---- a push

at_rest : (q : Pushing) → is_at_rest q ≡ true → q ≡ pushing.AtRest
at_rest pushing.AtRest e = refl
at_rest (pushing.Pushes place) e = absurd (true≢false (sym e))
at_rest (pushing.Looks place) e = absurd (true≢false (sym e))

published : (p : Setting) (x : Seat) (e : Entry) (c : Bool) (t : ResponseTerms) (place q : Pushing) (seen slot : ℕ) → IsToldOf p e t
    → pushing_event t.messages place seen ≡ events.Publish slot → q ≡ pushing_after t.messages place seen
    → advance p (accessed (pushes x e c place)) (pushes x e c place).local seen
    ≡ send_delivered p (at_desk (accessed (pushes x e c place)) e.port (delivers (state_in e) slot)) (delivery_to e c) (state_in e) [] 1 q
published p x e c t place q seen slot told event is =
    ap₂ (λ (r : Pushing) (ev : QueueEvent). send_pushed p (accessed (pushes x e c place)) (delivery_to e c) None (state_in e) [] 0 r ev)
    (ap (λ (s : Site). pushing_after s place seen) (sym told.messages) ∙ sym is)
    (ap (λ (s : Site). pushing_event s place seen) (sym told.messages) ∙ event)

pub delivered_next : (p : Setting) (x : Seat) (e : Entry) (c : Bool) (t : ResponseTerms) (place q : Pushing) (seen slot : ℕ) → is_response_loan e.kind ≡ true
    → IsToldOf p e t → pushing_event t.messages place seen ≡ events.Publish slot → q ≡ pushing_after t.messages place seen → is_at_rest q ≡ true
    → placed (sends_away (at_desk (accessed x) e.port (delivers (state_in e) slot)) e c) Idle ≡ next p (pushes x e c place) seen
delivered_next p x e c t place q seen slot kind told event is rest =
    it_ends p (at_desk (accessed x) e.port (delivers (state_in e) slot)) e c
    (may_evict (sending p (at_desk (accessed (pushes x e c place)) e.port (delivers (state_in e) slot)) (delivery_to e c)) (state_in e)) 1 kind
    ∙ sym (ap (after p) (published p x e c t place q seen slot told event is
    ∙ ap (send_delivered p (at_desk (accessed (pushes x e c place)) e.port (delivers (state_in e) slot)) (delivery_to e c) (state_in e) [] 1) (at_rest q rest)))

-- ---- an eviction that comes too late

not_pushed_out : (x : Seat) (e : Entry) (c : Bool) (place : Pushing) (ev : QueueEvent) → (ev ≡ events.Evict → ⊥)
    → send_evicted x (delivery_to e c) (state_in e) [] 1 place ev ≡ placed x (SendEnds (delivery_to e c) (Some (state_in e)) 1)
not_pushed_out x e c place events.Evict none = absurd (none refl)
not_pushed_out x e c place events.Quiet none = refl
not_pushed_out x e c place (events.Publish v) none = refl
not_pushed_out x e c place (events.HandOut v) none = refl
not_pushed_out x e c place (events.Learn v) none = refl
not_pushed_out x e c place events.SeesEmpty none = refl
not_pushed_out x e c place events.SeesWaiting none = refl
not_pushed_out x e c place events.SeesFull none = refl
not_pushed_out x e c place events.SeesRoom none = refl
not_pushed_out x e c place events.SeesEnd none = refl

taken_before : (p : Setting) (x : Seat) (e : Entry) (c : Bool) (t : ResponseTerms) (place : Pushing) (seen : ℕ) → IsToldOf p e t
    → (pushing_event t.messages place seen ≡ events.Evict → ⊥)
    → advance p (accessed (evicts x e c place)) (evicts x e c place).local seen
    ≡ placed (accessed x) (SendEnds (delivery_to e c) (Some (state_in e)) 1)
taken_before p x e c t place seen told none =
    not_pushed_out (accessed (evicts x e c place)) e c (pushing_after (site_of p.layout (MessageQueue (state_in e))) place seen)
    (pushing_event (site_of p.layout (MessageQueue (state_in e))) place seen)
    (λ is. none (ap (λ (s : Site). pushing_event s place seen) told.messages ∙ is))

pub evicted_next : (p : Setting) (x : Seat) (e : Entry) (c : Bool) (t : ResponseTerms) (place : Pushing) (seen : ℕ) → is_response_loan e.kind ≡ true
    → IsToldOf p e t → (pushing_event t.messages place seen ≡ events.Evict → ⊥)
    → placed (sends_away (accessed x) e c) Idle ≡ next p (evicts x e c place) seen
evicted_next p x e c t place seen kind told none =
    it_ends p (accessed x) e c (Some (state_in e)) 1 kind ∙ sym (ap (after p) (taken_before p x e c t place seen told none))

pub evicted_over : (p : Setting) (x : Seat) (e : Entry) (c : Bool) (t : ResponseTerms) (place : Pushing) (seen : ℕ) → is_response_loan e.kind ≡ true
    → IsToldOf p e t → (pushing_event t.messages place seen ≡ events.Evict → ⊥)
    → tells p (evicts x e c place) seen ≡ Some replies.Done
evicted_over p x e c t place seen kind told none =
    ap (answered p) (taken_before p x e c t place seen told none) ∙ it_is_done p (accessed x) e c (Some (state_in e)) 1 kind

-- ---- what is delivered leaves the loan in use

more_used : (uses : List ℕ) (slot k : ℕ) → 0 < slice_index uses slot → 0 < slice_index uses k
    → 0 < slice_index (slice_set uses slot (slice_index uses slot + 1)) k
more_used uses slot k used still = by_case (slot == k) refl
  where
    by_case : (b : Bool) → (slot == k) ≡ b → 0 < slice_index (slice_set uses slot (slice_index uses slot + 1)) k
    by_case true same =
        subst (λ (i : ℕ). 0 < slice_index (slice_set uses slot (slice_index uses slot + 1)) i) (eqb-true slot k same)
        (let e : slice_index (slice_set uses slot (slice_index uses slot + 1)) slot ≡ slice_index uses slot + 1 =
        get_or-set_same uses slot (slice_index uses slot + 1) 0 (within uses slot used) in
        omega (arith, e))
    by_case false other =
        let e : slice_index (slice_set uses slot (slice_index uses slot + 1)) k ≡ slice_index uses k =
        get_or-set_other uses slot k (slice_index uses slot + 1) 0 (λ same. true≢false (sym (eq-eqb slot k (sym same)) ∙ other)) in
        omega (arith, e, still)

pub still_used : (port slot k : ℕ) (w : Way) (ds : List Desk) → MayDeliver port w slot ds → IsUsed port k ds
    → IsUsed port k (map (on_desk port (delivers w slot)) ds)
still_used port slot k w [] may used = tt
still_used port slot k w (d ∷ ds) may used = (by_case (d.port == port) refl, still_used port slot k w ds may.1 used.1)
  where
    by_case : (b : Bool) → (d.port == port) ≡ b
        → ((cond b (delivers w slot d) d).port == port) ≡ true → 0 < slice_index (cond b (delivers w slot d) d).uses k
    by_case true is there = more_used d.uses slot k (may.0 is).used (used.0 is)
    by_case false is there = absurd (true≢false (sym there ∙ is))
