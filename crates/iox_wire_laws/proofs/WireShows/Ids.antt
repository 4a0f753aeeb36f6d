-- Ids stay small: only an open or a hint brings a new one.
use Rattle.std.specs.Prelude.{◌^◌, ◌<◌}
use Rattle.std.proofs.Common.{ℕ, Bool, true, false, if◌then◌else◌, ◌==◌, Option, Some, None, arith}
use Rattle.std.proofs.Math.Nat.{mod-lt}
use Rattle.iox_model.specs.declared.way.RequestState.{RequestState}
use Rattle.iox_model.specs.declared.way.RequestState.TheVariants.{Closed, Named}
use Rattle.iox_model.specs.declared.way.Way.{Way}
use Rattle.iox_model.specs.Maps.{put, same_way}
use Rattle.iox_model.specs.Messages.{names, closed_for, hinted_for}
use Rattle.iox_model.specs.Moments.{Moment, Deliver, Evict, Take, GiveBack, GetBack, SeesEmpty, SeesWaiting, SeesFull, SeesRoom, SeesNoneBack, Open, Close, Hint, Look}
use Rattle.iox_model.specs.States.{State}
use Rattle.iox_wire_moments.specs.MomentsOf.{Pools}
use Rattle.iox_wire_locals.specs.declared.local.Local.{Local}
use Rattle.iox_wire_locals.specs.declared.local.Local.TheVariants.{SendOpens, HintExchanges}
use Rattle.iox_wire_locals.specs.Known.{loans_at}
use Rattle.iox_wire_locals.specs.Laws.{HasSmallId}
use Rattle.iox_wire_locals.specs.Locals.{state_told, state_word}
use Rattle.iox_wire_locals.specs.StateMoments.{moment_at}
use Rattle.iox_wire_locals.specs.Tables.{Setting}
use Rattle.iox_laws.proofs.WeaveLaws.MapLemmas.{either}
use Rattle.iox_wire_laws.proofs.WireShows.QuietMoments.{BringsNoId, brings_no_id}
use Rattle.iox_wire_laws.specs.WireShows.Ids.{AreSmallIds, AreSmallAfter, NamesSmall, IdsStaySmall, NewRequestsAreSmall}

-- the moment, if there is one, names a small id if it brings one
abbrev pub BringsSmall : Option Moment → Type 0
BringsSmall (Some (Open w id)) = id < 2 ^ 62
BringsSmall (Some (Hint w id)) = id < 2 ^ 62
BringsSmall o = Unit {0}

put_small : (f : Way → RequestState) (w : Way) (new : RequestState) → ((y : Way) → HasSmallId (f y)) → HasSmallId new → (y : Way) → HasSmallId (put f w new y)
put_small f w new small here y = at (same_way y w)
  where
    at : (b : Bool) → HasSmallId (if b then new else f y)
    at true = here
    at false = small y

either_small : (b : Bool) (a c : RequestState) → HasSmallId a → HasSmallId c → HasSmallId (if b then a else c)
either_small true a c k l = k
either_small false a c k l = l

after_small : (s : State) (o : Option Moment) → AreSmallIds s → BringsSmall o → AreSmallAfter s o
after_small s None small brings = small
after_small s (Some (Deliver w x)) small brings = small
after_small s (Some (Evict w)) small brings = small
after_small s (Some (Take w x)) small brings = small
after_small s (Some (GiveBack w k)) small brings = small
after_small s (Some (GetBack w k)) small brings = small
after_small s (Some (SeesEmpty w)) small brings = small
after_small s (Some (SeesWaiting w)) small brings = small
after_small s (Some (SeesFull w)) small brings = small
after_small s (Some (SeesRoom w)) small brings = small
after_small s (Some (SeesNoneBack w)) small brings = small
after_small s (Some (Open w id)) small brings = put_small s.request_state w (Named id false) small brings
after_small s (Some (Close w id)) small brings =
    put_small s.request_state w (closed_for (s.request_state w) id) small
    (either_small (names (s.request_state w) id) Closed (s.request_state w) tt (small w))
after_small s (Some (Hint w id)) small brings =
    put_small s.request_state w (hinted_for (s.request_state w) id) small
    (either_small (names (s.request_state w) id) (Named id true) (s.request_state w) brings (small w))
after_small s (Some (Look w shown)) small brings = small

-- ---- place by place

none_small : (o : Option Moment) → BringsNoId o → BringsSmall o
none_small (Some (Open w id)) none = absurd none
none_small (Some (Hint w id)) none = absurd none
none_small o none = tt

module _ (p : Setting) (held : Pools) where
  brings : (local : Local) (seen : ℕ) → NamesSmall local → BringsSmall (moment_at p held local seen)
  brings (SendOpens d w left full) seen names_small = names_small
  brings (HintExchanges e w left) seen names_small =
      either BringsSmall (seen == state_word (Named e.request false)) (Some (Hint w e.request)) (Some (Look w (state_told seen))) (λ k. names_small) (λ k. tt)
  brings local seen names_small = none_small (moment_at p held local seen) (brings_no_id p held local seen tt)

pub ids_stay_small : IdsStaySmall
ids_stay_small p held s local seen small names_small = after_small s (moment_at p held local seen) small (brings p held local seen names_small)

pub new_requests_are_small : NewRequestsAreSmall
new_requests_are_small p x q k payload copies = mod-lt (loans_at x q.number) (omega arith)
