-- As a call begins, its node has what it had before of a live way, and no way is emptied.
use Rattle.std.specs.Prelude.{◌≡◌, ℕ, Bool, true, false, if◌then◌else◌, ◌==◌, List, ◌++◌, Option, Some, None, refl}
use Rattle.std.specs.Option.{option_map_or}
use Rattle.std.proofs.Common.{sym, subst, ap, ◌∙◌, true≢false}
use Rattle.iox_model.specs.declared.kind.Kind.TheVariants.{PendingResponse}
use Rattle.iox_model.specs.declared.way.Way.{Way}
use Rattle.iox_model.specs.declared.call.Call.TheVariants.{Loan, LoanUninit, Write, Send, SendCopy, Receive, Read, Release, IsConnected, SetHint, HasHint, HasRequests, HasResponse}
use Rattle.iox_model.specs.declared.call.WireCall.TheVariants.{Forget}
use Rattle.iox_model.specs.declared.call.WireCall.TheVariants as wire_calls
use Rattle.iox_model.specs.declared.kind.Role.TheVariants.{Client, Server}
use Rattle.iox_model.specs.declared.reply.Refusal.TheVariants.{UnknownNumber, WrongLength, WantOfMemory}
use Rattle.iox_model.specs.declared.reply.Reply.TheVariants.{Words}
use Rattle.iox_model.specs.Begins.{written, writes, reads, begins_at, start}
use Rattle.iox_model.specs.Commands.{Refusal, Call, WireCall, number_of}
use Rattle.iox_model.specs.Doings.{refused, Tells, Fills, Drops, Doing, Ended, Returning}
use Rattle.iox_model.specs.Handles.{is_received, same_kind, way_of, subject, handle_at, Subject, ThePort, TheHandle}
use Rattle.iox_laws.specs.WeaveLaws.Ledgers.{has_received, held_on}
use Rattle.iox_model.specs.Loans.{loan_of, next_request, request_loan_refusal, response_loan_refusal, memory_refusal, lending_ways, unless_refused, Choice, Order}
use Rattle.iox_model.specs.Maps.{same_way, has_way}
use Rattle.iox_model.specs.Names.{misnamed}
use Rattle.iox_model.specs.Peers.{port_at, forgot_port}
use Rattle.iox_model.specs.Receives.{server_ways, pending_ways}
use Rattle.iox_model.specs.Releases.{states_of, closing, returning, releases_handle}
use Rattle.iox_model.specs.Responses.{lends_response, lends_by, lends, copies, shape_for, lending, sends, ordered}
use Rattle.iox_model.specs.Settings.{is_count}
use Rattle.iox_model.specs.States.{Port, Handle, Fixed, State}
use Rattle.iox_model.specs.Weaves.{wire_start, miscalled}
use Rattle.iox_laws.proofs.WeaveLaws.MapLemmas.{either, same_way-true}
use Rattle.iox_laws.proofs.WeaveLedger.ReceivedHandles.{no_received, received-on}
use Rattle.iox_laws.proofs.WeaveLedger.Truths.{false_if}
use Rattle.iox_laws.proofs.WeaveLedger.Lists.{IsAmong}
use Rattle.iox_laws.proofs.WeaveLedger.Views.{view}
use Rattle.iox_laws.proofs.WeaveLedger.Senders.{FitsHandles}
use Rattle.iox_laws.proofs.WeaveLedger.Starts.{IsNamedBy, named-by, IsThere, there}
use Rattle.iox_laws.proofs.WeaveLedger.Quiet.{IsQuiet, held-handles, held-quiet, sends-quiet, loaning-quiet, visiting-quiet, checking-quiet, hinting-quiet, seeking-quiet}
use Rattle.iox_laws.proofs.WeaveLedger.Had.{FitsRelease, quiet-release, closing-release}
use Rattle.iox_laws.proofs.WeaveLedger.HadMoves.{HasOwnHandles, dropped-held, closing-held}
use Rattle.iox_laws.proofs.WeaveLedger.Emptied.{EmptiesNone, sends-none, loaning-emptied, visiting-none, closing-none, checking-none, hinting-none, seeking-none}

abbrev StartsWell : Fixed → Way → Doing → Type 0
StartsWell f y d = IsQuiet d × EmptiesNone f y d

pub record BeginsWell (f : Fixed) (n : ℕ) (y : Way) (d : Doing) : Type 0 where
  pub held : forgot_port f n y.sender ≡ false → held_on y (f.handles n) (Some d) ≡ held_on y (f.handles n) None
  pub release : FitsRelease d
  pub empties : EmptiesNone f y d

of_start : (f : Fixed) (n : ℕ) (y : Way) (d : Doing) → StartsWell f y d → BeginsWell f n y d
of_start f n y d p = record { held = λ known. held-quiet y (f.handles n) d p.0; release = quiet-release d p.0; empties = p.1 }

-- ---- loans and sends

sends-starts : (f : Fixed) (y : Way) (h : Handle) (copied : Bool) → StartsWell f y (sends f h copied)
sends-starts f y h copied = (sends-quiet f h copied, false_if _ (sends-none f y h copied))

lending-starts : (s : State) (y : Way) (copies : Bool) (h : Handle) → StartsWell s.fixed y (lending s copies h)
lending-starts s y copies h =
    (loaning-quiet s copies h (lending_ways s.fixed h), false_if _ (λ e. all_left (loaning-emptied s y copies h (lending_ways s.fixed h) e)))
  where
    all_left : (has_way y (lending_ways s.fixed h) ≡ true) × (has_way y (lending_ways s.fixed h) ≡ false) → ⊥
    all_left p = true≢false (sym p.0 ∙ p.1)

unless-starts : (f : Fixed) (y : Way) (r : Option Refusal) (d : Doing) → StartsWell f y d → StartsWell f y (unless_refused r d)
unless-starts f y (Some r) d p = (refl, refl)
unless-starts f y None d p = p

lends_by-starts : (s : State) (y : Way) (c : Choice) (x : Subject) (o : Order) → StartsWell s.fixed y (lends_by s c x o)
lends_by-starts s y c (ThePort p) o =
    let h : Handle = loan_of s.fixed p o p.number c.lane (next_request s.fixed p.number) in
    unless-starts s.fixed y (request_loan_refusal s.fixed p o.elements) (unless_refused (memory_refusal s c p.number) (lending s o.copies h))
    (unless-starts s.fixed y (memory_refusal s c p.number) (lending s o.copies h) (lending-starts s y o.copies h))
lends_by-starts s y c (TheHandle h) o = by_case (port_at s.fixed h.port)
  where
    by_case : (q : Option Port) → StartsWell s.fixed y (option_map_or (λ p. lends_response s c h p o) q (refused UnknownNumber))
    by_case None = (refl, refl)
    by_case (Some p) =
        let l : Handle = loan_of s.fixed p o h.client h.lane h.request in
        unless-starts s.fixed y (response_loan_refusal s.fixed h p o.elements) (unless_refused (memory_refusal s c p.number) (lending s o.copies l))
        (unless-starts s.fixed y (memory_refusal s c p.number) (lending s o.copies l) (lending-starts s y o.copies l))

lends-starts : (s : State) (y : Way) (c : Choice) (x : Subject) (o : Order) → StartsWell s.fixed y (lends s c x o)
lends-starts s y c x o =
    either (StartsWell s.fixed y) (is_count (shape_for s.fixed x) o.elements) (lends_by s c x o) (refused WrongLength)
    (λ u. lends_by-starts s y c x o) (λ u. (refl, refl))

copies-starts : (s : State) (y : Way) (c : Choice) (x : Subject) (k : Option ℕ) (words : List ℕ) → StartsWell s.fixed y (copies s c x k words)
copies-starts s y c x None words = (refl, refl)
copies-starts s y c x (Some k) words = lends-starts s y c x (record { elements = k; filled = k; payload = words; copies = true; uninit = false })

writes-starts : (f : Fixed) (y : Way) (h : Handle) (k : Option ℕ) (words : List ℕ) → StartsWell f y (writes h k words)
writes-starts f y h None words = (refl, refl)
writes-starts f y h (Some k) words =
    either (StartsWell f y) (k == h.message.elements) (Ended (Fills (written h words))) (refused WrongLength) (λ u. (refl, refl)) (λ u. (refl, refl))

reads-starts : (f : Fixed) (y : Way) (c : Choice) (h : Handle) → StartsWell f y (reads c h)
reads-starts f y c h =
    either (StartsWell f y) c.memory (Ended (Tells (Words (h.message.user ++ h.message.payload)))) (refused WantOfMemory) (λ u. (refl, refl))
    (λ u. (refl, refl))

-- ---- releases

-- what came from a forgotten sender is just dropped, and that way is not live
returning-well : (f : Fixed) (n : ℕ) (h : Handle) (y : Way) → HasOwnHandles (f.handles n) → IsAmong h (f.handles n) → h.node ≡ n
    → is_received h.kind ≡ true → BeginsWell f n y (returning f h)
returning-well f n h y apart among node received =
    either (BeginsWell f n y) (forgot_port f h.node (way_of h).sender) (Ended (Drops h)) (Returning h)
    (λ e. record { held = λ known. dropped-held y (f.handles n) h apart among (off e known); release = tt; empties = refl })
    (λ e. record { held = λ known. held-handles y (f.handles n); release = received; empties = refl })
  where
    off : forgot_port f h.node (way_of h).sender ≡ true → forgot_port f n y.sender ≡ false → has_received y h ≡ false
    off e known = received-on y h received ∙ false_if (same_way y (way_of h)) (λ same. true≢false
        (sym e ∙ ap (λ k. forgot_port f k (way_of h).sender) node ∙ ap (λ (w : Way). forgot_port f n w.sender) (sym (same_way-true y (way_of h) same)) ∙ known))

releases-well : (f : Fixed) (n : ℕ) (h : Handle) (y : Way) → HasOwnHandles (f.handles n) → IsAmong h (f.handles n) → h.node ≡ n
    → BeginsWell f n y (releases_handle f h)
releases-well f n h y apart among node =
    either (BeginsWell f n y) (is_received h.kind) (returning f h)
    (if same_kind h.kind PendingResponse then closing h (states_of f h) else Ended (Drops h))
    (returning-well f n h y apart among node)
    (λ own. either (BeginsWell f n y) (same_kind h.kind PendingResponse) (closing h (states_of f h)) (Ended (Drops h))
    (λ u. record {
      held = λ known. closing-held y (f.handles n) h (states_of f h) apart among own;
      release = closing-release h (states_of f h) own;
      empties = closing-none f y h (states_of f h);
    })
    (λ u. record { held = λ known. dropped-held y (f.handles n) h apart among (no_received y h own); release = tt; empties = refl }))

-- ---- all calls

begins-well : (s : State) (n : ℕ) (c : Choice) (call : Call) (x : Subject) (y : Way) → FitsHandles (view s.fixed n) n → IsThere s.fixed n x
    → BeginsWell s.fixed n y (begins_at s c call x)
begins-well s n c (Loan k l) x y fits is = of_start s.fixed n y _ (lends-starts s y c x (ordered l false))
begins-well s n c (LoanUninit k l) x y fits is = of_start s.fixed n y _ (lends-starts s y c x (ordered l true))
begins-well s n c (Write k p) (TheHandle h) y fits is = of_start s.fixed n y _ (writes-starts s.fixed y h p.elements p.words)
begins-well s n c (Send k) (TheHandle h) y fits is = of_start s.fixed n y _ (sends-starts s.fixed y h false)
begins-well s n c (SendCopy k p) x y fits is = of_start s.fixed n y _ (copies-starts s y c x p.elements p.words)
begins-well s n c (Receive k) (ThePort p) y fits is = of_start s.fixed n y _ (
  visiting-quiet (record { port = p.number; role = Server; lane = 0; request = 0 }) (server_ways s.fixed p) false,
  visiting-none s.fixed y (record { port = p.number; role = Server; lane = 0; request = 0 }) (server_ways s.fixed p) false,
)
begins-well s n c (Receive k) (TheHandle h) y fits is = of_start s.fixed n y _ (
  visiting-quiet (record { port = h.port; role = Client; lane = h.lane; request = h.request }) (pending_ways s.fixed h) false,
  visiting-none s.fixed y (record { port = h.port; role = Client; lane = h.lane; request = h.request }) (pending_ways s.fixed h) false,
)
begins-well s n c (Read k) (TheHandle h) y fits is = of_start s.fixed n y _ (reads-starts s.fixed y c h)
begins-well s n c (Release k) (TheHandle h) y fits is = releases-well s.fixed n h y fits.apart is (fits.of_node h is)
begins-well s n c (IsConnected k) (TheHandle h) y fits is =
    of_start s.fixed n y _ (checking-quiet h false (states_of s.fixed h), checking-none s.fixed y h false (states_of s.fixed h))
begins-well s n c (SetHint k) (TheHandle h) y fits is =
    of_start s.fixed n y _ (hinting-quiet h (states_of s.fixed h), hinting-none s.fixed y h (states_of s.fixed h))
begins-well s n c (HasHint k) (TheHandle h) y fits is =
    of_start s.fixed n y _ (checking-quiet h true (states_of s.fixed h), checking-none s.fixed y h true (states_of s.fixed h))
begins-well s n c (HasRequests k) (ThePort p) y fits is =
    of_start s.fixed n y _ (seeking-quiet (server_ways s.fixed p), seeking-none s.fixed y (server_ways s.fixed p))
begins-well s n c (HasResponse k) (TheHandle h) y fits is =
    of_start s.fixed n y _ (seeking-quiet (pending_ways s.fixed h), seeking-none s.fixed y (pending_ways s.fixed h))
begins-well s n c call x y fits is = of_start s.fixed n y _ (refl, refl)

start-well : (s : State) (n : ℕ) (c : Choice) (call : Call) (y : Way) → FitsHandles (view s.fixed n) n → misnamed s.fixed n call ≡ None
    → BeginsWell s.fixed n y (start s n c call)
start-well s n c call y fits e =
    let p : IsNamedBy s.fixed n call (subject s.fixed n (number_of call)) = named-by s.fixed n call (subject s.fixed n (number_of call)) e in
    subst (λ (o : Option Subject). BeginsWell s.fixed n y (option_map_or (begins_at s c call) o (refused UnknownNumber))) (sym p.is)
    (begins-well s n c call p.named y fits
    (there s.fixed n (number_of call) p.named (port_at s.fixed (number_of call)) (handle_at s.fixed n (number_of call)) refl refl p.is))

pub wire_start-well : (s : State) (n : ℕ) (c : Choice) (call : WireCall) (y : Way) → FitsHandles (view s.fixed n) n → miscalled s n call ≡ None
    → BeginsWell s.fixed n y (wire_start s n c call)
wire_start-well s n c (wire_calls.Port call) y fits e = start-well s n c call y fits e
wire_start-well s n c (Forget dead) y fits e = of_start s.fixed n y _ (refl, refl)
