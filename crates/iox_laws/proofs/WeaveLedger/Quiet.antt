-- Calls under way that neither hold a message that they took nor gave one back.
use Rattle.std.specs.Prelude.{◌≡◌, ℕ, Bool, true, false, ◌&&◌, if◌then◌else◌, List, [], ◌∷◌, ◌++◌, map, filter, Some, None, refl}
use Rattle.std.specs.List.{list_any}
use Rattle.std.proofs.Common.{ap, ◌∙◌, true≢false, sym}
use Rattle.std.proofs.lemmas.List.{append-nil}
use Rattle.iox_model.specs.declared.kind.Role.TheVariants.{Client, Server}
use Rattle.iox_model.specs.declared.way.Way.{Way}
use Rattle.iox_model.specs.declared.way.RequestState.{RequestState}
use Rattle.iox_model.specs.declared.reply.Refusal.TheVariants.{OutOfMemory, ExceedsMaxActiveRequests, UnableToDeliver}
use Rattle.iox_model.specs.declared.reply.Reply.TheVariants.{Answer}
use Rattle.iox_model.specs.Doings.{refused, Receiver, Sending, Outcome, Tells, Loans, Sends, FailsToSend, Receives, Drops, Doing, Ended, Asking, Judging, Stale, Closing, Returning, Leaving}
use Rattle.iox_model.specs.States.{Handle, Fixed, State}
use Rattle.iox_laws.specs.WeaveLaws.Ledgers.{has_received, held_on}
use Rattle.iox_model.specs.Requests.{targets, to_open, sending_of, opening, looking, emptying, is_active_spent, sends_request}
use Rattle.iox_model.specs.Responses.{sends_response, asked, sends, loaning}
use Rattle.iox_model.specs.Receives.{visiting, seeking}
use Rattle.iox_model.specs.Looks.{checking, checked, is_shown, hinting}
use Rattle.iox_model.specs.Handles.{is_request_loan}
use Rattle.iox_model.specs.Maps.{has_number, without_way}
use Rattle.iox_model.specs.Messages.{request_way, names}
use Rattle.iox_model.specs.Outstandings.{kept, is_dry}
use Rattle.iox_model.specs.Peers.{others}
use Rattle.iox_laws.proofs.WeaveLaws.MapLemmas.{either}
use Rattle.iox_laws.proofs.WeaveLedger.Truths.{and-first}
use Rattle.iox_laws.proofs.WeaveLedger.Tallies.{filter-same}

abbrev pub is_quiet_outcome : Outcome → Bool
is_quiet_outcome (Receives x w m) = false
is_quiet_outcome (Drops h) = false
is_quiet_outcome o = true

abbrev pub is_quiet : Doing → Bool
is_quiet (Ended o) = is_quiet_outcome o
is_quiet (Judging x w m left seen) = false
is_quiet (Stale x w m left seen) = false
is_quiet (Closing h left) = false
is_quiet (Returning h) = false
is_quiet (Leaving h) = false
is_quiet d = true

abbrev pub IsQuiet : Doing → Type 0
IsQuiet d = is_quiet d ≡ true

abbrev pub serials : List Handle → List ℕ
serials hs = map (λ h. h.message.serial) hs

-- ---- what a receiver has meanwhile

-- its handles, and what its call took
pub held-taken : (y : Way) (hs : List Handle) (ks : List ℕ)
    → serials (filter (λ h. has_received y h && true) hs) ++ ks ≡ serials (filter (has_received y) hs) ++ ks
held-taken y hs ks = ap (λ gs. serials gs ++ ks) (filter-same (λ h. has_received y h && true) (has_received y) hs (λ h a. and-first (has_received y h)))

pub held-handles : (y : Way) (hs : List Handle) → serials (filter (λ h. has_received y h && true) hs) ++ [] ≡ serials (filter (has_received y) hs)
held-handles y hs = held-taken y hs [] ∙ append-nil (serials (filter (has_received y) hs))

-- only its handles
pub held-quiet : (y : Way) (hs : List Handle) (d : Doing) → IsQuiet d → held_on y hs (Some d) ≡ held_on y hs None
held-quiet y hs (Ended (Receives x w m)) e = absurd (true≢false (sym e))
held-quiet y hs (Ended (Drops h)) e = absurd (true≢false (sym e))
held-quiet y hs (Ended o) e = held-handles y hs
held-quiet y hs (Judging x w m left seen) e = absurd (true≢false (sym e))
held-quiet y hs (Stale x w m left seen) e = absurd (true≢false (sym e))
held-quiet y hs (Leaving h) e = absurd (true≢false (sym e))
held-quiet y hs d e = held-handles y hs

-- ---- phases

pub opening-quiet : (x : Sending) (left full : List Way) → IsQuiet (opening x left full)
opening-quiet x [] full = refl
opening-quiet x (w ∷ left) full = refl

pub looking-quiet : (x : Sending) (left full : List Way) → IsQuiet (looking x left full)
looking-quiet x [] full =
    either IsQuiet (list_any x.fails full) (Ended (FailsToSend x.loan x.copied UnableToDeliver)) (opening x (to_open x) full)
    (λ u. refl) (λ u. opening-quiet x (to_open x) full)
looking-quiet x (w ∷ left) full = refl

pub emptying-quiet : (x : Sending) (left : List Way) → IsQuiet (emptying x left)
emptying-quiet x [] =
    either IsQuiet x.overflow (opening x (to_open x) []) (looking x (targets x) []) (λ u. opening-quiet x (to_open x) []) (λ u. looking-quiet x (targets x) [])
emptying-quiet x (w ∷ left) = refl

pub asked-quiet : (x : Sending) (shown : RequestState) → IsQuiet (asked x shown)
asked-quiet x shown =
    either IsQuiet (names shown x.loan.request) (emptying x (targets x)) (Ended (Sends x.loan x.copied 0)) (λ u. emptying-quiet x (targets x)) (λ u. refl)

request-quiet : (f : Fixed) (h : Handle) (copied : Bool) (to : List ℕ) → IsQuiet (sends_request f h copied to)
request-quiet f h copied to =
    either IsQuiet (is_active_spent f h) (Ended (FailsToSend h copied ExceedsMaxActiveRequests))
    (emptying (sending_of f h copied to) (map (request_way h.port) to))
    (λ u. refl) (λ u. emptying-quiet (sending_of f h copied to) (map (request_way h.port) to))

response-quiet : (f : Fixed) (h : Handle) (copied : Bool) → IsQuiet (sends_response f h copied)
response-quiet f h copied =
    either IsQuiet (has_number h.client (others f h.node Client)) (Asking (sending_of f h copied (h.client ∷ []))) (Ended (Sends h copied 0))
    (λ u. refl) (λ u. refl)

pub sends-quiet : (f : Fixed) (h : Handle) (copied : Bool) → IsQuiet (sends f h copied)
sends-quiet f h copied =
    either IsQuiet (is_request_loan h.kind) (sends_request f h copied (others f h.node Server)) (sends_response f h copied)
    (λ u. request-quiet f h copied (others f h.node Server)) (λ u. response-quiet f h copied)

pub loaning-quiet : (s : State) (copies : Bool) (h : Handle) (left : List Way) → IsQuiet (loaning s copies h left)
loaning-quiet s copies h [] =
    either IsQuiet (is_dry s.fixed h.port (kept s h.port [])) (refused OutOfMemory) (if copies then sends s.fixed h true else Ended (Loans h)) (λ u. refl)
    (λ u. either IsQuiet copies (sends s.fixed h true) (Ended (Loans h)) (λ y. sends-quiet s.fixed h true) (λ y. refl))
loaning-quiet s copies h (w ∷ left) = refl

pub visiting-quiet : (x : Receiver) (left : List Way) (seen : Bool) → IsQuiet (visiting x left seen)
visiting-quiet x [] seen = refl
visiting-quiet x (w ∷ left) seen = refl

pub checking-quiet : (h : Handle) (hinted : Bool) (left : List Way) → IsQuiet (checking h hinted left)
checking-quiet h hinted [] = refl
checking-quiet h hinted (w ∷ left) = refl

pub checked-quiet : (h : Handle) (hinted : Bool) (left : List Way) (w : Way) (shown : RequestState) → IsQuiet (checked h hinted left w shown)
checked-quiet h hinted left w shown =
    either IsQuiet (is_shown h hinted shown) (Ended (Tells (Answer true))) (checking h hinted (without_way w left)) (λ u. refl)
    (λ u. checking-quiet h hinted (without_way w left))

pub hinting-quiet : (h : Handle) (left : List Way) → IsQuiet (hinting h left)
hinting-quiet h [] = refl
hinting-quiet h (w ∷ left) = refl

pub seeking-quiet : (left : List Way) → IsQuiet (seeking left)
seeking-quiet [] = refl
seeking-quiet (w ∷ left) = refl
