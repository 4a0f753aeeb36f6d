-- How a receive continues to its next way.
use Rattle.std.proofs.Common.{◌≡◌, ℕ, Bool, true, false, if◌then◌else◌, List, [], ◌∷◌, refl, ap, sym, ◌∙◌}
use Rattle.std.specs.Prelude.{nat_le}
use Rattle.iox_model.specs.declared.way.Way.{Way}
use Rattle.iox_model.specs.Peers.{borrow_limit_on}
use Rattle.iox_steps.specs.declared.pop.Pop.TheVariants as pop
use Rattle.iox_steps.specs.declared.pop.EmptyLook.TheVariants as empty_look
use Rattle.iox_steps.specs.declared.side.Popping.{Popping}
use Rattle.iox_steps.specs.declared.side.Popping.TheVariants as popping
use Rattle.iox_steps.specs.declared.side.QueueEvent.TheVariants.{SeesEmpty, SeesWaiting}
use Rattle.iox_steps.specs.Sides.{popping_event}
use Rattle.iox_word_map.specs.WordMaps.{MessageQueue}
use Rattle.iox_wire_words.specs.Programs.{site_of}
use Rattle.iox_wire_locals.specs.declared.local.Local.{Local}
use Rattle.iox_wire_locals.specs.declared.local.Local.TheVariants.{ReceiveLooks, ReceivePops}
use Rattle.iox_wire_locals.specs.declared.local.Visit.{Visit}
use Rattle.iox_wire_locals.specs.declared.seat.Seat.{Seat}
use Rattle.iox_wire_locals.specs.Tables.{Setting}
use Rattle.iox_wire_locals.specs.Known.{known, count_on}
use Rattle.iox_wire_locals.specs.Courses.{placed}
use Rattle.iox_wire_locals.specs.ReceiveCourses.{visiting}
use Rattle.iox_wire_locals.specs.ReceiveFindings.{receive_looked, receive_popped}
use Rattle.iox_wire_locals.specs.Steps.{accessed, next, tells, pop_place}
use Rattle.iox_wire_receives.specs.declared.source.Source.{Source}
use Rattle.iox_wire_receives.specs.declared.source.ReceiveTerms.{ReceiveTerms}
use Rattle.iox_wire_receives.specs.Sources.{IsSource}
use Rattle.iox_wire_receives.specs.Aims.{after, answered}

-- ---- the next way

abbrev pub looks_or_pops : Seat → Visit → Way → List Way → Bool → Bool → Seat
looks_or_pops x v w left waiting many =
    if many then placed x (ReceiveLooks v w (popping.Looks empty_look.LoadsRead) left waiting)
    else placed x (ReceivePops v w false (popping.Pops pop.LoadsRead) left waiting)

pub visits : (p : Setting) (x : Seat) (t : ReceiveTerms) (n : ℕ) (v : Visit) (s : Source) (left : List Way) (waiting many : Bool)
    → IsSource p t n s → nat_le t.limit (count_on x s.way) ≡ many
    → looks_or_pops x v s.way left waiting many ≡ after p (visiting p x v (s.way ∷ left) waiting)
visits p x t n v s left waiting many is here =
    by_case many (ap (λ k. nat_le k (count_on x s.way)) (is.limit x) ∙ here)
  where
    by_case : (many : Bool) → nat_le (borrow_limit_on (known p x) s.way) (count_on x s.way) ≡ many
        → looks_or_pops x v s.way left waiting many ≡ after p (visiting p x v (s.way ∷ left) waiting)
    by_case true e = sym (ap (λ b. after p (looks_or_pops x v s.way left waiting b)) e)
    by_case false e = sym (ap (λ b. after p (looks_or_pops x v s.way left waiting b)) e)

-- ---- where the node was before does not matter

visits_alike : (p : Setting) (x : Seat) (l : Local) (v : Visit) (left : List Way) (waiting : Bool)
    → visiting p (placed x l) v left waiting ≡ visiting p x v left waiting
visits_alike p x l v [] waiting = refl
visits_alike p x l v (w ∷ left) waiting = refl

-- ---- an access of a pop that found the way empty

popped : (p : Setting) (x : Seat) (v : Visit) (w : Way) (more : Bool) (place : Popping) (left : List Way) (waiting : Bool) (seen : ℕ)
    → popping_event (site_of p.layout (MessageQueue w)) place seen ≡ SeesEmpty
    → receive_popped p (placed (accessed x) (ReceivePops v w more place left waiting)) v w more left waiting
    (pop_place p (MessageQueue w) place seen) (popping_event (site_of p.layout (MessageQueue w)) place seen)
    ≡ visiting p (accessed x) v left waiting
popped p x v w more place left waiting seen e =
    ap (receive_popped p (placed (accessed x) (ReceivePops v w more place left waiting)) v w more left waiting (pop_place p (MessageQueue w) place seen)) e
    ∙ visits_alike p (accessed x) (ReceivePops v w more place left waiting) v left waiting

pub popped_next : (p : Setting) (x : Seat) (v : Visit) (w : Way) (more : Bool) (place : Popping) (left : List Way) (waiting : Bool) (seen : ℕ)
    → popping_event (site_of p.layout (MessageQueue w)) place seen ≡ SeesEmpty
    → after p (visiting p (accessed x) v left waiting) ≡ next p (placed x (ReceivePops v w more place left waiting)) seen
popped_next p x v w more place left waiting seen e = sym (ap (after p) (popped p x v w more place left waiting seen e))

pub popped_tells : (p : Setting) (x : Seat) (v : Visit) (w : Way) (more : Bool) (place : Popping) (left : List Way) (waiting : Bool) (seen : ℕ)
    → popping_event (site_of p.layout (MessageQueue w)) place seen ≡ SeesEmpty
    → tells p (placed x (ReceivePops v w more place left waiting)) seen ≡ answered p (visiting p (accessed x) v left waiting)
popped_tells p x v w more place left waiting seen e = ap (answered p) (popped p x v w more place left waiting seen e)

-- ---- an access of a look that found the way empty, or not

looked : (p : Setting) (x : Seat) (v : Visit) (w : Way) (place : Popping) (left : List Way) (waiting : Bool) (seen : ℕ)
    → popping_event (site_of p.layout (MessageQueue w)) place seen ≡ SeesEmpty
    → receive_looked p (placed (accessed x) (ReceiveLooks v w place left waiting)) v w left waiting
    (pop_place p (MessageQueue w) place seen) (popping_event (site_of p.layout (MessageQueue w)) place seen)
    ≡ visiting p (accessed x) v left waiting
looked p x v w place left waiting seen e =
    ap (receive_looked p (placed (accessed x) (ReceiveLooks v w place left waiting)) v w left waiting (pop_place p (MessageQueue w) place seen)) e
    ∙ visits_alike p (accessed x) (ReceiveLooks v w place left waiting) v left waiting

pub looked_next : (p : Setting) (x : Seat) (v : Visit) (w : Way) (place : Popping) (left : List Way) (waiting : Bool) (seen : ℕ)
    → popping_event (site_of p.layout (MessageQueue w)) place seen ≡ SeesEmpty
    → after p (visiting p (accessed x) v left waiting) ≡ next p (placed x (ReceiveLooks v w place left waiting)) seen
looked_next p x v w place left waiting seen e = sym (ap (after p) (looked p x v w place left waiting seen e))

pub looked_tells : (p : Setting) (x : Seat) (v : Visit) (w : Way) (place : Popping) (left : List Way) (waiting : Bool) (seen : ℕ)
    → popping_event (site_of p.layout (MessageQueue w)) place seen ≡ SeesEmpty
    → tells p (placed x (ReceiveLooks v w place left waiting)) seen ≡ answered p (visiting p (accessed x) v left waiting)
looked_tells p x v w place left waiting seen e = ap (answered p) (looked p x v w place left waiting seen e)

waits : (p : Setting) (x : Seat) (v : Visit) (w : Way) (place : Popping) (left : List Way) (waiting : Bool) (seen : ℕ)
    → popping_event (site_of p.layout (MessageQueue w)) place seen ≡ SeesWaiting
    → receive_looked p (placed (accessed x) (ReceiveLooks v w place left waiting)) v w left waiting
    (pop_place p (MessageQueue w) place seen) (popping_event (site_of p.layout (MessageQueue w)) place seen)
    ≡ visiting p (accessed x) v left true
waits p x v w place left waiting seen e =
    ap (receive_looked p (placed (accessed x) (ReceiveLooks v w place left waiting)) v w left waiting (pop_place p (MessageQueue w) place seen)) e
    ∙ visits_alike p (accessed x) (ReceiveLooks v w place left waiting) v left true

pub waits_next : (p : Setting) (x : Seat) (v : Visit) (w : Way) (place : Popping) (left : List Way) (waiting : Bool) (seen : ℕ)
    → popping_event (site_of p.layout (MessageQueue w)) place seen ≡ SeesWaiting
    → after p (visiting p (accessed x) v left true) ≡ next p (placed x (ReceiveLooks v w place left waiting)) seen
waits_next p x v w place left waiting seen e = sym (ap (after p) (waits p x v w place left waiting seen e))

pub waits_tells : (p : Setting) (x : Seat) (v : Visit) (w : Way) (place : Popping) (left : List Way) (waiting : Bool) (seen : ℕ)
    → popping_event (site_of p.layout (MessageQueue w)) place seen ≡ SeesWaiting
    → tells p (placed x (ReceiveLooks v w place left waiting)) seen ≡ answered p (visiting p (accessed x) v left true)
waits_tells p x v w place left waiting seen e = ap (answered p) (waits p x v w place left waiting seen e)
