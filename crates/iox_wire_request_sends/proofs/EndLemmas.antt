-- How the send of a request ends.
use Rattle.std.proofs.Common.{◌≡◌, ◌==◌, ℕ, suc, Bool, true, false, cond, List, [], ◌∷◌, length, Option, Some, refl, ap, ap₂, sym, subst, ◌∙◌}
use Rattle.std.specs.Prelude.{if◌then◌else◌, option_map}
use Rattle.iox_model.specs.declared.reply.Reply.TheVariants as replies
use Rattle.iox_model.specs.declared.way.Way.{Way}
use Rattle.iox_model.specs.Commands.{Reply}
use Rattle.iox_model.specs.Handles.{is_request_loan}
use Rattle.iox_wire_locals.specs.declared.local.CallRefusal.{CallRefusal}
use Rattle.iox_wire_locals.specs.declared.local.Ending.TheVariants as endings
use Rattle.iox_wire_locals.specs.declared.local.Local.{Local}
use Rattle.iox_wire_locals.specs.declared.local.Local.TheVariants.{Idle, SendEnds}
use Rattle.iox_wire_locals.specs.declared.seat.Seat.{Seat}
use Rattle.iox_wire_locals.specs.declared.table.Entry.{Entry}
use Rattle.iox_wire_locals.specs.Courses.{ended, placed}
use Rattle.iox_wire_locals.specs.Doings.{refusal_of}
use Rattle.iox_wire_locals.specs.Lendings.{next_handle}
use Rattle.iox_wire_locals.specs.Settlements.{after_refused_send, sends_away, sends_entry}
use Rattle.iox_wire_locals.specs.Tables.{Setting, with_entry}
use Rattle.iox_wire_seats.specs.Seats.{Placed}
use Rattle.iox_wire_request_sends.specs.declared.at.RequestReply.{RequestReply}
use Rattle.iox_wire_request_sends.specs.declared.target.Target.{Target}
use Rattle.iox_wire_request_sends.specs.Aims.{AreAimed, IsAimed, LeadsTo, after, answered}
use Rattle.iox_wire_request_sends.specs.RequestDispatches.{RequestDispatch, delivery_to, reply_in, told_sent}

-- ---- what the end leaves

length_changed : (b : Bool) (e k : Entry) (es fs : List Entry) → length fs ≡ length es
    → length (cond b (e ∷ es) (k ∷ fs)) ≡ length (k ∷ es)
length_changed true e k es fs same = refl
length_changed false e k es fs same = ap suc same

pub same_length : (e : Entry) (es : List Entry) → length (with_entry e es) ≡ length es
same_length e [] = refl
same_length e (k ∷ es) = length_changed (k.number == e.number) e k es (with_entry e es) (same_length e es)

entry_alike : (x : Seat) (l : Local) (e : Entry) (copied : Bool) (count : ℕ)
    → placed (sends_entry (placed x l) e copied count) Idle ≡ placed (sends_entry x e copied count) Idle
entry_alike x l e true count = refl
entry_alike x l e false count = refl

refused_alike : (x : Seat) (l : Local) (e : Entry) (copied : Bool)
    → placed (after_refused_send (placed x l) e copied) Idle ≡ placed (after_refused_send x e copied) Idle
refused_alike x l e true = refl
refused_alike x l e false = refl

sent_next : (p : Setting) (x : Seat) (e : Entry) (copied : Bool) (ts : List Target) (last : Option Way) (count : ℕ) → is_request_loan e.kind ≡ true
    → placed (sends_entry x e copied count) Idle ≡ after p (placed x (SendEnds (delivery_to e copied ts) last count))
sent_next p x e copied ts last count kind =
    sym (ap (λ (b : Bool). placed (if b then sends_entry (placed x (SendEnds (delivery_to e copied ts) last count)) e copied count
    else sends_away (placed x (SendEnds (delivery_to e copied ts) last count)) e copied) Idle) kind
    ∙ entry_alike x (SendEnds (delivery_to e copied ts) last count) e copied count)

told_is : (p : Setting) (x : Seat) (e : Entry) (copied : Bool) (count : ℕ) → (copied ≡ true → e.number ≡ next_handle p x)
    → (if copied then replies.Handle (next_handle p x) else replies.Sent count) ≡ reply_in (told_sent e copied count)
told_is p x e true count number = ap (λ n. replies.Handle n) (sym (number refl))
told_is p x e false count number = refl

sent_tells : (p : Setting) (x : Seat) (e : Entry) (copied : Bool) (ts : List Target) (last : Option Way) (count : ℕ) → is_request_loan e.kind ≡ true
    → (copied ≡ true → e.number ≡ next_handle p x)
    → answered p (placed x (SendEnds (delivery_to e copied ts) last count)) ≡ Some (reply_in (told_sent e copied count))
sent_tells p x e copied ts last count kind number =
    ap (λ (r : Reply). Some r)
    (ap (λ (b : Bool). if b then (if copied then replies.Handle (next_handle p x) else replies.Sent count) else replies.Done) kind
    ∙ told_is p x e copied count number)

-- ---- it is over

idle_aimed : (p : Setting) (x : Seat) (s : RequestDispatch) → s.local ≡ Idle → IsAimed p x s
idle_aimed p x s over = subst (λ (l : Local). AreAimed p x l s) (sym over) tt

pub sent_leads : (p : Setting) (x : Seat) (y : Placed) (s : RequestDispatch) (reply : Option RequestReply) (e : Entry) (copied : Bool) (ts : List Target) (last : Option Way) (count : ℕ)
    → is_request_loan e.kind ≡ true → (copied ≡ true → e.number ≡ next_handle p x)
    → y.seat ≡ sends_entry x e copied count → s.local ≡ Idle → reply ≡ Some (told_sent e copied count)
    → LeadsTo p (placed x (SendEnds (delivery_to e copied ts) last count)) y s reply
sent_leads p x y s reply e copied ts last count kind number seat over told = record {
  next = ap₂ (λ (a : Seat) (l : Local). placed a l) seat over ∙ sent_next p x e copied ts last count kind;
  over = sent_tells p x e copied ts last count kind number ∙ sym (ap (option_map reply_in) told);
  aimed = idle_aimed p y.seat s over;
}

pub refused_leads : (p : Setting) (x : Seat) (y : Placed) (s : RequestDispatch) (reply : Option RequestReply) (e : Entry) (copied : Bool) (r : CallRefusal) (told : RequestReply)
    → reply_in told ≡ replies.Refused (refusal_of r)
    → y.seat ≡ after_refused_send x e copied → s.local ≡ Idle → reply ≡ Some told
    → LeadsTo p (ended x (endings.FailsToSend e copied r)) y s reply
refused_leads p x y s reply e copied r told same seat over is = record {
  next = ap₂ (λ (a : Seat) (l : Local). placed a l) seat over ∙ sym (refused_alike x _ e copied);
  over = ap (λ (t : Reply). Some t) (sym same) ∙ sym (ap (option_map reply_in) is);
  aimed = idle_aimed p y.seat s over;
}
