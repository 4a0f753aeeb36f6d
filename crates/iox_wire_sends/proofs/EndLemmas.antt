-- How the send of a response ends.
use Rattle.std.proofs.Common.{◌≡◌, ℕ, Bool, true, false, Option, Some, refl, ap, sym, ◌∙◌, true≢false}
use Rattle.std.specs.Prelude.{if◌then◌else◌, is_some}
use Rattle.iox_model.specs.declared.reply.Reply.TheVariants as replies
use Rattle.iox_model.specs.declared.way.Way.{Way}
use Rattle.iox_model.specs.Handles.{is_request_loan, is_response_loan}
use Rattle.iox_wire_locals.specs.declared.local.Ending.TheVariants as endings
use Rattle.iox_wire_locals.specs.declared.local.Local.{Local}
use Rattle.iox_wire_locals.specs.declared.local.Local.TheVariants.{Idle, SendEnds}
use Rattle.iox_wire_locals.specs.declared.seat.Seat.{Seat}
use Rattle.iox_wire_locals.specs.declared.table.Entry.{Entry}
use Rattle.iox_wire_locals.specs.Courses.{ended, placed}
use Rattle.iox_wire_locals.specs.Lendings.{next_handle}
use Rattle.iox_wire_locals.specs.Settlements.{sends_away, sends_entry}
use Rattle.iox_wire_locals.specs.Steps.{ending_at}
use Rattle.iox_wire_locals.specs.Tables.{Setting}
use Rattle.iox_wire_loans.specs.Aims.{after, answered}
use Rattle.iox_wire_sends.specs.declared.at.RespondAt.{RespondAt}
use Rattle.iox_wire_sends.specs.declared.at.RespondAt.TheVariants as at
use Rattle.iox_wire_sends.specs.Dispatches.{Beside, delivery_to, local_of}
use Rattle.iox_wire_sends.proofs.SendLemmas.{no_request}

-- ---- what the end leaves

away_alike : (x : Seat) (l : Local) (e : Entry) (c : Bool) → placed (sends_away (placed x l) e c) Idle ≡ placed (sends_away x e c) Idle
away_alike x l e true = refl
away_alike x l e false = refl

-- it is sent, or nobody waits for it
sent : (p : Setting) (x : Seat) (l : Local) (e : Entry) (c : Bool) (count : ℕ) → is_response_loan e.kind ≡ true
    → placed (sends_away x e c) Idle
    ≡ placed (if is_request_loan e.kind then sends_entry (placed x l) e c count else sends_away (placed x l) e c) Idle
sent p x l e c count kind =
    sym (ap (λ (b : Bool). placed (if b then sends_entry (placed x l) e c count else sends_away (placed x l) e c) Idle) (no_request e.kind kind)
    ∙ away_alike x l e c)

pub it_ends : (p : Setting) (x : Seat) (e : Entry) (c : Bool) (last : Option Way) (count : ℕ) → is_response_loan e.kind ≡ true
    → placed (sends_away x e c) Idle ≡ after p (placed x (SendEnds (delivery_to e c) last count))
it_ends p x e c last count kind = sent p x (SendEnds (delivery_to e c) last count) e c count kind

pub nobody_waits : (p : Setting) (x : Seat) (e : Entry) (c : Bool) (count : ℕ) → is_response_loan e.kind ≡ true
    → placed (sends_away x e c) Idle ≡ after p (ended x (endings.Sends e c count))
nobody_waits p x e c count kind = sent p x _ e c count kind

-- its reply
pub it_is_done : (p : Setting) (x : Seat) (e : Entry) (c : Bool) (last : Option Way) (count : ℕ) → is_response_loan e.kind ≡ true
    → answered p (placed x (SendEnds (delivery_to e c) last count)) ≡ Some replies.Done
it_is_done p x e c last count kind =
    ap (λ (b : Bool). Some (if b then (if c then replies.Handle (next_handle p x) else replies.Sent count) else replies.Done)) (no_request e.kind kind)

pub done_told : (p : Setting) (x : Seat) (e : Entry) (c : Bool) (count : ℕ) → is_response_loan e.kind ≡ true
    → answered p (ended x (endings.Sends e c count)) ≡ Some replies.Done
done_told p x e c count kind =
    ap (λ (b : Bool). Some (if b then (if c then replies.Handle (next_handle p x) else replies.Sent count) else replies.Done)) (no_request e.kind kind)

-- ---- it has no access left

pub tells_nobody : (p : Setting) (x : Seat) (name : RespondAt) (b : Beside) → is_some (ending_at (local_of name b)) ≡ true → is_response_loan b.loan.kind ≡ true
    → placed (sends_away x b.loan b.copied) Idle ≡ after p (placed x (local_of name b))
tells_nobody p x at.Rest b there kind = absurd (true≢false (sym there))
tells_nobody p x at.Tells b there kind = nobody_waits p x b.loan b.copied 0 kind
tells_nobody p x at.Asks b there kind = absurd (true≢false (sym there))
tells_nobody p x at.Empties b there kind = absurd (true≢false (sym there))
tells_nobody p x at.Looks b there kind = absurd (true≢false (sym there))
tells_nobody p x at.Pushes b there kind = absurd (true≢false (sym there))
tells_nobody p x at.Evicts b there kind = absurd (true≢false (sym there))
tells_nobody p x at.GetsBack b there kind = absurd (true≢false (sym there))

pub told_nobody : (p : Setting) (x : Seat) (name : RespondAt) (b : Beside) → is_some (ending_at (local_of name b)) ≡ true → is_response_loan b.loan.kind ≡ true
    → answered p (placed x (local_of name b)) ≡ Some replies.Done
told_nobody p x at.Rest b there kind = absurd (true≢false (sym there))
told_nobody p x at.Tells b there kind = done_told p x b.loan b.copied 0 kind
told_nobody p x at.Asks b there kind = absurd (true≢false (sym there))
told_nobody p x at.Empties b there kind = absurd (true≢false (sym there))
told_nobody p x at.Looks b there kind = absurd (true≢false (sym there))
told_nobody p x at.Pushes b there kind = absurd (true≢false (sym there))
told_nobody p x at.Evicts b there kind = absurd (true≢false (sym there))
told_nobody p x at.GetsBack b there kind = absurd (true≢false (sym there))
