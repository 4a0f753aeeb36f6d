-- What a received handle's way is, and on which ways it counts.
use Rattle.std.specs.Prelude.{◌≡◌, Bool, true, false, ◌&&◌, if◌then◌else◌, ◌==◌, refl}
use Rattle.std.proofs.Common.{sym, subst, ap, eq-eqb}
use Rattle.iox_model.specs.declared.kind.Kind.TheVariants.{ActiveRequest, Response}
use Rattle.iox_model.specs.declared.way.Way.{Way}
use Rattle.iox_model.specs.Doings.{Receiver}
use Rattle.iox_model.specs.Handles.{is_received, same_kind, way_of}
use Rattle.iox_laws.specs.WeaveLaws.Ledgers.{has_received}
use Rattle.iox_model.specs.Maps.{same_way}
use Rattle.iox_model.specs.Messages.{request_way, response_way, Message}
use Rattle.iox_model.specs.Settings.{is_client}
use Rattle.iox_model.specs.States.{Handle}
use Rattle.iox_laws.proofs.WeaveLaws.MapLemmas.{same_way-refl, same_way-true, same_way-flip}
use Rattle.iox_laws.proofs.WeaveLedger.Truths.{all_three, second-fails}
use Rattle.iox_laws.proofs.WeaveLedger.Views.{way_of-receiver}

pub no_received : (y : Way) (h : Handle) → is_received h.kind ≡ false → has_received y h ≡ false
no_received y h e = ap (λ b. b && ((h.port == y.receiver) && same_way (way_of h) y)) e

pub received-itself : (h : Handle) → is_received h.kind ≡ true → has_received (way_of h) h ≡ true
received-itself h e =
    all_three (is_received h.kind) (h.port == (way_of h).receiver) (same_way (way_of h) (way_of h)) e
    (eq-eqb h.port (way_of h).receiver (sym (way_of-receiver h))) (same_way-refl (way_of h))

pub received-elsewhere : (y : Way) (h : Handle) → same_way y (way_of h) ≡ false → has_received y h ≡ false
received-elsewhere y h e =
    second-fails (is_received h.kind) ((h.port == y.receiver) && same_way (way_of h) y)
    (second-fails (h.port == y.receiver) (same_way (way_of h) y) (same_way-flip (way_of h) y (same_way (way_of h) y) e refl))

pub received-on : (y : Way) (h : Handle) → is_received h.kind ≡ true → has_received y h ≡ same_way y (way_of h)
received-on y h e = by_case (same_way y (way_of h)) refl
  where
    by_case : (b : Bool) → same_way y (way_of h) ≡ b → has_received y h ≡ b
    by_case true same = subst (λ w. has_received w h ≡ true) (sym (same_way-true y (way_of h) same)) (received-itself h e)
    by_case false same = received-elsewhere y h same

-- the way of the handle that a receive gives is that of the receive
pub receipt-way : (x : Receiver) (w : Way) (m : Message) → w.receiver ≡ x.port → m.sender ≡ w.sender
    → (is_client x.role ≡ true → m.lane ≡ w.lane) → (is_client x.role ≡ false → w.lane ≡ 0)
    → (if same_kind (if is_client x.role then Response else ActiveRequest) ActiveRequest
    then request_way (if is_client x.role then x.port else m.sender) x.port else response_way x.port m.lane m.sender) ≡ w
receipt-way x w m to from client server = by_case (is_client x.role) refl
  where
    by_case : (b : Bool) → is_client x.role ≡ b
        → (if same_kind (if b then Response else ActiveRequest) ActiveRequest
        then request_way (if b then x.port else m.sender) x.port else response_way x.port m.lane m.sender) ≡ w
    by_case true e = λ i. record { sender = from i; receiver = sym to i; lane = client e i }
    by_case false e = λ i. record { sender = from i; receiver = sym to i; lane = sym (server e) i }
