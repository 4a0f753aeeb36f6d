-- The end of a call changes nothing of what its node has of a way: what it took is a handle now, and what it gave back is none.
use Rattle.std.specs.Prelude.{◌≡◌, ℕ, ◌-◌, Bool, true, false, not, ◌&&◌, if◌then◌else◌, ◌==◌, List, [], ◌∷◌, ◌++◌, filter, Some, None, refl}
use Rattle.std.proofs.Common.{sym, ap, ◌∙◌}
use Rattle.std.proofs.lemmas.List.{append-nil}
use Rattle.iox_model.specs.declared.kind.Kind.{Kind}
use Rattle.iox_model.specs.declared.kind.Kind.TheVariants.{ActiveRequest, Response}
use Rattle.iox_model.specs.declared.way.Way.{Way}
use Rattle.iox_model.specs.Doings.{Receiver, Outcome, Tells, Loans, Fills, Sends, FailsToSend, Receives, Drops, DropsPort, Forgets, Doing, Ended, Delivering}
use Rattle.iox_model.specs.States.{Handle, State}
use Rattle.iox_laws.specs.WeaveLaws.Ledgers.{if_on, has_received, held_on}
use Rattle.iox_model.specs.Counts.{without_handle, with_handle, sent_handle, holding}
use Rattle.iox_model.specs.Handles.{is_request_loan, is_received, way_of}
use Rattle.iox_model.specs.Maps.{has_number, put, same_way}
use Rattle.iox_model.specs.Messages.{Message}
use Rattle.iox_model.specs.Requests.{is_over}
use Rattle.iox_model.specs.Settings.{is_client}
use Rattle.iox_model.specs.Transitions.{ends}
use Rattle.iox_laws.proofs.WeaveLaws.MapLemmas.{either}
use Rattle.iox_laws.proofs.WeaveLaws.WholeLemmas.{some-is}
use Rattle.iox_laws.proofs.WeaveLedger.ReceivedHandles.{no_received, received-on}
use Rattle.iox_laws.proofs.WeaveLedger.Truths.{none-some}
use Rattle.iox_laws.proofs.WeaveLedger.Lists.{IsAmong, only-one}
use Rattle.iox_laws.proofs.WeaveLedger.Views.{View, plus, counted, swapped, less, taken_handle, after_call}
use Rattle.iox_laws.proofs.WeaveLedger.Senders.{FitsHandles, FitsOutcome}
use Rattle.iox_laws.proofs.WeaveLedger.Borrows.{loan-own, taken-way}
use Rattle.iox_laws.proofs.WeaveLedger.Tallies.{filter-last, without-passes, but-same, with-passes}
use Rattle.iox_laws.proofs.WeaveLedger.Quiet.{serials, held-taken, held-handles}
use Rattle.iox_laws.proofs.WeaveLedger.HadMoves.{HasOwnHandles}

-- ---- one handle more, another, or one less

pub plus-held : (y : Way) (hs : List Handle) (h : Handle) → has_received y h ≡ false → filter (has_received y) (hs ++ h ∷ []) ≡ filter (has_received y) hs
plus-held y hs h off =
    filter-last (has_received y) hs h ∙ ap (λ b. filter (has_received y) hs ++ (if b then h ∷ [] else [])) off ∙ append-nil (filter (has_received y) hs)

-- those of the number of a handle that was not received there
alike : (y : Way) (hs : List Handle) (h : Handle) → HasOwnHandles hs → IsAmong h hs → has_received y h ≡ false
    → (k : Handle) → IsAmong k hs → k.number ≡ h.number → has_received y k ≡ false
alike y hs h apart among off k a same = ap (has_received y) (only-one (λ (g : Handle). g.number) k h hs apart a among same) ∙ off

pub less-held : (y : Way) (hs : List Handle) (h : Handle) → HasOwnHandles hs → IsAmong h hs → has_received y h ≡ false
    → filter (has_received y) (without_handle h hs) ≡ filter (has_received y) hs
less-held y hs h apart among off =
    without-passes (has_received y) h hs ∙ but-same (has_received y) h.number hs (λ k a same. alike y hs h apart among off k a (sym same))

pub swapped-held : (y : Way) (hs : List Handle) (h old : Handle) → HasOwnHandles hs → IsAmong old hs → h.number ≡ old.number
    → has_received y h ≡ false → has_received y old ≡ false → filter (has_received y) (with_handle h hs) ≡ filter (has_received y) hs
swapped-held y hs h old apart among number off was =
    with-passes (has_received y) h hs off (λ k a same. alike y hs old apart among was k a (same ∙ number))

serials-append : (xs ys : List Handle) → serials (xs ++ ys) ≡ serials xs ++ serials ys
serials-append [] ys = refl
serials-append (x ∷ xs) ys = ap (λ ks. x.message.serial ∷ ks) (serials-append xs ys)

-- what was received is a handle of its way
received-held : (v : View) (n : ℕ) (x : Receiver) (w : Way) (m : Message) (y : Way) → way_of (taken_handle v n x m) ≡ w
    → serials (filter (has_received y) (v.handles ++ taken_handle v n x m ∷ [])) ≡ serials (filter (has_received y) v.handles) ++ if_on y w m.serial
received-held v n x w m y is =
    ap serials (filter-last (has_received y) v.handles (taken_handle v n x m))
    ∙ serials-append (filter (has_received y) v.handles) (if has_received y (taken_handle v n x m) then taken_handle v n x m ∷ [] else [])
    ∙ ap (λ ks. serials (filter (has_received y) v.handles) ++ ks) (new (has_received y (taken_handle v n x m))
    ∙ ap (λ (b : Bool). if b then m.serial ∷ [] else []) here)
  where
    new : (b : Bool) → serials (if b then taken_handle v n x m ∷ [] else []) ≡ (if b then m.serial ∷ [] else [])
    new true = refl
    new false = refl

    here : has_received y (taken_handle v n x m) ≡ same_way y w
    here =
        received-on y (taken_handle v n x m) (either (λ (k : Kind). is_received k ≡ true) (is_client x.role) Response ActiveRequest (λ u. refl) (λ u. refl))
        ∙ ap (same_way y) is

-- ---- the end of a call

pub ended-held : (s : State) (d : Doing) (o : Outcome) (y : Way) (hs : List Handle) → ends s d ≡ Some o → held_on y hs (Some d) ≡ held_on y hs (Some (Ended o))
ended-held s (Ended a) o y hs e = ap (λ (b : Outcome). held_on y hs (Some (Ended b))) (some-is a o e)
ended-held s (Delivering x last [] count) o y hs e = by_case (is_over s last) e
  where
    by_case : (b : Bool) → (if b then None else Some (Sends x.loan x.copied count)) ≡ Some o
        → held_on y hs (Some (Delivering x last [] count)) ≡ held_on y hs (Some (Ended o))
    by_case true e = absurd (none-some o e)
    by_case false e = ap (λ (b : Outcome). held_on y hs (Some (Ended b))) (some-is (Sends x.loan x.copied count) o e)
ended-held s d o y hs e = absurd (none-some o e)

-- what changes no received handle
same-held : (y : Way) (hs hs' : List Handle) → filter (has_received y) hs' ≡ filter (has_received y) hs
    → serials (filter (has_received y) hs') ≡ serials (filter (λ h. has_received y h && true) hs) ++ []
same-held y hs hs' e = ap serials e ∙ sym (held-handles y hs)

pub over-held : (v : View) (n : ℕ) (payload : List ℕ) (o : Outcome) (y : Way) → FitsHandles v n → FitsOutcome v n o
    → held_on y (after_call v n payload o).handles None ≡ held_on y v.handles (Some (Ended o))
over-held v n payload (Tells reply) y fits p = same-held y v.handles v.handles refl
over-held v n payload (Loans h) y fits p =
    same-held y v.handles (v.handles ++ holding h payload ∷ [])
    (plus-held y v.handles (holding h payload) (no_received y (holding h payload) (loan-own h.kind p.loan)))
over-held v n payload (Fills h) y fits p =
    same-held y v.handles (with_handle h v.handles)
    (swapped-held y v.handles h p.old fits.apart p.among p.number (no_received y h (loan-own h.kind p.is_loan_still))
    (no_received y p.old (loan-own p.old.kind p.was_loan)))
over-held v n payload (Sends h true count) y fits p =
    either (λ (u : View). serials (filter (has_received y) u.handles) ≡ serials (filter (λ g. has_received y g && true) v.handles) ++ [])
    (is_request_loan h.kind)
    (plus (counted v) (sent_handle h count)) v
    (λ u. same-held y v.handles (v.handles ++ sent_handle h count ∷ []) (plus-held y v.handles (sent_handle h count) refl))
    (λ u. same-held y v.handles v.handles refl)
over-held v n payload (Sends h false count) y fits p =
    either (λ (u : View). serials (filter (has_received y) u.handles) ≡ serials (filter (λ g. has_received y g && true) v.handles) ++ [])
    (is_request_loan h.kind)
    (swapped v (sent_handle h count)) (less v h)
    (λ u. same-held y v.handles (with_handle (sent_handle h count) v.handles)
    (swapped-held y v.handles (sent_handle h count) h fits.apart p.stands refl refl (no_received y h (loan-own h.kind p.loan))))
    (λ u. same-held y v.handles (without_handle h v.handles) (less-held y v.handles h fits.apart p.stands (no_received y h (loan-own h.kind p.loan))))
over-held v n payload (FailsToSend h true refusal) y fits p = same-held y v.handles v.handles refl
over-held v n payload (FailsToSend h false refusal) y fits p =
    same-held y v.handles (without_handle h v.handles) (less-held y v.handles h fits.apart p.stands (no_received y h (loan-own h.kind p.loan)))
over-held v n payload (Receives x w m) y fits p = received-held v n x w m y (taken-way v n x w m p.1) ∙ sym (held-taken y v.handles (if_on y w m.serial))
over-held v n payload (Drops h) y fits p =
    either (λ (u : View). serials (filter (has_received y) u.handles) ≡ serials (filter (λ g. has_received y g && not (h.number == g.number)) v.handles) ++ [])
    (is_received h.kind) (record (less v h) { borrowed = put v.borrowed (way_of h) (v.borrowed (way_of h) - 1) }) (less v h) (λ u. gone) (λ u. gone)
  where
    gone : serials (filter (has_received y) (without_handle h v.handles))
        ≡ serials (filter (λ g. has_received y g && not (h.number == g.number)) v.handles) ++ []
    gone = ap serials (without-passes (has_received y) h v.handles) ∙ sym (append-nil _)
over-held v n payload (DropsPort port) y fits p = absurd p
over-held v n payload (Forgets dead) y fits p =
    either (λ (u : View). serials (filter (has_received y) u.handles) ≡ serials (filter (λ g. has_received y g && true) v.handles) ++ [])
    (has_number dead v.forgot)
    v (record v { forgot = v.forgot ++ dead ∷ [] }) (λ u. same-held y v.handles v.handles refl) (λ u. same-held y v.handles v.handles refl)
