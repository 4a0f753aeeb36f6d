-- A call of a service under way: what its moments deliver, and who is at the ends of the record.
use Rattle.std.specs.Prelude.{◌≡◌, ℕ, Bool, true, false, if◌then◌else◌, List, [], ◌∷◌, Some, None, refl}
use Rattle.std.proofs.Common.{sym, subst, ap, ◌∙◌, inl, inr}
use Rattle.iox_model.specs.declared.way.Way.{Way}
use Rattle.iox_model.specs.Begins.{start}
use Rattle.iox_model.specs.Commands.{Call}
use Rattle.iox_model.specs.Doings.{Sending, Doing, Loaning, Delivering}
use Rattle.iox_model.specs.Handles.{handle_at}
use Rattle.iox_model.specs.Keeping.{serials_of_loan, under_way}
use Rattle.iox_model.specs.Loans.{Choice}
use Rattle.iox_model.specs.Maps.{same_way}
use Rattle.iox_model.specs.Moments.{Holds, moved, Moment, Deliver, GetBack, SeesNoneBack}
use Rattle.iox_model.specs.Names.{misnamed}
use Rattle.iox_model.specs.States.{Handle, Fixed, State}
use Rattle.iox_model.specs.Transitions.{next}
use Rattle.iox_model.specs.Values.{Filling, MayFill}
use Rattle.iox_model.specs.WholeCalls.{moved_by, left_by, MayCome}
use Rattle.iox_laws.proofs.WeaveLaws.MapLemmas.{same_way-true}
use Rattle.iox_laws.proofs.WeaveLaws.WholeLemmas.{moved-fixed}
use Rattle.iox_laws.proofs.WeaveWorlds.Fillings.{named_among}
use Rattle.iox_laws.proofs.WeaveWorlds.Sound.{SoundDoing, IsOwn}
use Rattle.iox_laws.proofs.WeaveLedger.Had.{put_on}
use Rattle.iox_laws.proofs.WeaveLedger.Lists.{IsAmong, way-among}
use Rattle.iox_laws.proofs.WeaveLedger.Outs.{no-head, moved-delivered, head-is}
use Rattle.iox_laws.proofs.WeaveLedger.Phases.{target-of}
use Rattle.iox_laws.proofs.RunLaws.Calls.{Goes, goes_by, begins}
use Rattle.iox_laws.proofs.RunLaws.Holding.{SendFits, HoldsIn}
use Rattle.iox_laws.proofs.RunLaws.Ports.{any_at}
use Rattle.iox_laws.proofs.RunLaws.Settling.{Calm}
use Rattle.iox_laws.proofs.RunLedger.Fillings.{fills, filling-goes}
use Rattle.iox_laws.proofs.RunPools.Stands.{StandsBy, Stands, Onward, Begins, next_stands, start_stands}

-- ---- the call

pub record Going (L : Handle → List Way → Type 0) (s : State) (n : ℕ) (d : Doing) : Type 0 where
  pub goes : Goes s n d
  pub stands : Stands L s.fixed n d

pub going_start : (L : Handle → List Way → Type 0) (s : State) (n : ℕ) (c : Choice) (call : Call) → Calm s → Begins L s → misnamed s.fixed n call ≡ None
    → Going L s n (start s n c call)
going_start L s n c call calm begin named = record { goes = begins s n c call calm named; stands = start_stands L s n c call begin named }

pub going_next : (L M : Handle → List Way → Type 0) (s : State) (n : ℕ) (d : Doing) (m : Moment) → Going L s n d → Onward L M d m → Holds s m
    → (next s n d m).condition → Going M (moved s m) n (next s n d m).after
going_next L M s n d m g on holds c = record {
  goes = goes_by s n d (m ∷ []) g.goes (holds, c, tt);
  stands = subst (λ f. Stands M f n (next s n d m).after) (sym (moved-fixed s m)) (next_stands L M s n d m on c g.stands);
}

-- nothing is asked of a loan that gets back
abbrev pub Any : Handle → List Way → Type 0
Any h left = Unit {0}

pub any_onward : (d : Doing) (m : Moment) → Onward Any Any d m
any_onward (Loaning copies h left) (GetBack w k) = λ u. tt
any_onward (Loaning copies h left) (SeesNoneBack w) = λ u. tt
any_onward d m = tt

pub goings : (s : State) (n : ℕ) (d : Doing) (ms : List Moment) → MayCome s n d ms → Going Any s n d → Going Any (moved_by s ms) n (left_by s n d ms)
goings s n d [] may g = g
goings s n d (m ∷ ms) may g =
    goings (moved s m) n (next s n d m).after ms may.2 (going_next Any Any s n d m g (any_onward d m) may.0 may.1)

-- a loan that is filled is a call that has ended
pub going_fills : (s : State) (n number : ℕ) (h : Handle) (x : Filling) → Calm s → handle_at s.fixed n number ≡ Some h → MayFill s.fixed h x
    → Going Any s n (fills h x)
going_fills s n number h x calm there may = record {
  goes = filling-goes s n number h x calm there may;
  stands = record { old = h; among = (named_among s.fixed n number h there).0; number = refl; port = refl; serial = refl; was_loan = may.loan };
}

-- ---- what is delivered

pub record IsSent (f : Fixed) (n : ℕ) (d : Doing) (y : Way) (k : ℕ) : Type 0 where
  pub send : Sending
  pub sender : y.sender ≡ send.loan.port
  pub to : IsAmong y.receiver send.to
  pub serial : send.loan.message.serial ≡ k
  pub fits : SendFits f send
  pub own : IsOwn f n send.loan
  pub stands : StandsBy f n send.loan send.copied
  pub holds : (q : ℕ) → under_way q d ≡ serials_of_loan send.loan send.copied q

is_sent : (L : Handle → List Way → Type 0) (s : State) (n : ℕ) (d : Doing) (m : Moment) (y : Way) (k : ℕ) → SoundDoing s n d → HoldsIn s.fixed d
    → Stands L s.fixed n d
    → (next s n d m).condition → put_on y m ≡ k ∷ [] → IsSent s.fixed n d y k
is_sent L s n (Delivering z last left count) (Deliver x m) y k fits p stands c e = by_case (same_way y x) (same_way-true y x) e
  where
    target : (x.sender ≡ z.loan.port) × IsAmong x.receiver z.to
    target = target-of z x (p.1 x (way-among x left c.0))

    by_case : (b : Bool) → (b ≡ true → y ≡ x) → (if b then m.serial ∷ [] else []) ≡ k ∷ [] → IsSent s.fixed n (Delivering z last left count) y k
    by_case true is e = record {
      send = z;
      sender = ap (λ (w : Way). w.sender) (is refl) ∙ target.0;
      to = subst (λ i. IsAmong i z.to) (sym (ap (λ (w : Way). w.receiver) (is refl))) target.1;
      serial = sym (ap (λ i. i.serial) c.1) ∙ head-is m.serial k e;
      fits = p.0;
      own = fits.0.0;
      stands = stands;
      holds = λ q. refl;
    }
    by_case false is e = absurd (no-head k e)
is_sent L s n d (Deliver x m) y k fits p stands c e = absurd c
is_sent L s n d m y k fits p stands c e = absurd (no-head k e)

pub sent_by : (L : Handle → List Way → Type 0) (s : State) (n : ℕ) (d : Doing) (m : Moment) (y : Way) (k : ℕ) → Going L s n d → (next s n d m).condition
    → put_on y m ≡ k ∷ [] → IsSent s.fixed n d y k
sent_by L s n d m y k g c e = is_sent L s n d m y k ((g.goes).call).1 (g.goes).holds g.stands c e

-- ---- the ends of the record

-- what is recorded was delivered by a connected port to a connected port
abbrev pub Recorded : State → Type 0
Recorded s = (y : Way) (k : ℕ) → s.delivered y k ≡ true → (any_at y.sender s.fixed.ports ≡ true) × (any_at y.receiver s.fixed.ports ≡ true)

pub moved_recorded : (L : Handle → List Way → Type 0) (s : State) (n : ℕ) (d : Doing) (m : Moment) → Going L s n d → (next s n d m).condition → Recorded s
    → Recorded (moved s m)
moved_recorded L s n d m g c r y k e =
    subst (λ (f : Fixed). (any_at y.sender f.ports ≡ true) × (any_at y.receiver f.ports ≡ true)) (sym (moved-fixed s m))
    (elim (moved-delivered s m y k e) as (λ u. (any_at y.sender s.fixed.ports ≡ true) × (any_at y.receiver s.fixed.ports ≡ true)) [
      | inl old ↦ r y k old
      | inr new ↦ ends (sent_by L s n d m y k g c new)
    ])
  where
    ends : IsSent s.fixed n d y k → (any_at y.sender s.fixed.ports ≡ true) × (any_at y.receiver s.fixed.ports ≡ true)
    ends x = (ap (λ i. any_at i s.fixed.ports) x.sender ∙ ((x.own).1).0, ((x.fits).1 y.receiver x.to).0)
