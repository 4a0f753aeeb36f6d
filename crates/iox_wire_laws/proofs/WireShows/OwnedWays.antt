-- What holds of each way of a list, and of places that close nothing.
use Rattle.std.specs.Prelude.{not, ◌<◌, length, ◌++◌}
use Rattle.std.proofs.Common.{◌≡◌, ℕ, false, ◌==◌, ◌+◌, List, [], ◌∷◌, refl, sym, subst, arith}
use Rattle.std.proofs.lemmas.List.{length-append}
use Rattle.iox_model.specs.declared.kind.Role.{Role}
use Rattle.iox_model.specs.declared.kind.Role.TheVariants.{Client, Server}
use Rattle.iox_wire_locals.specs.Stored.{header_length}
use Rattle.iox_model.specs.declared.way.RequestState.{RequestState}
use Rattle.iox_model.specs.declared.way.RequestState.TheVariants.{Closed}
use Rattle.iox_model.specs.declared.way.Way.{Way}
use Rattle.iox_model.specs.Maps.{has_way, not_in, put, same_way}
use Rattle.iox_model.specs.Messages.{closed_for}
use Rattle.iox_model.specs.States.{Fixed}
use Rattle.iox_laws.proofs.WeaveLaws.MapLemmas.{either}
use Rattle.iox_laws.proofs.WeaveLedger.Truths.{or-false}
use Rattle.iox_wire_locals.specs.declared.local.Local.{Local}
use Rattle.iox_wire_locals.specs.declared.local.Local.TheVariants.{Idle, Ends, LendEmpties, LendStores, Writes, SendAsks, SendEmpties, SendLooks, SendOpens, SendPushes, SendEvicts, SendGetsBack, SendEnds, ReceiveLooks, ReceivePops, ReceiveLoads, ReceiveAsks, ReceiveReturns, Reads, ReleaseCloses, ReleaseReturns, ReleaseLooks, ReleaseExchanges, Checks, Hints, HintExchanges, Seeks}
use Rattle.iox_wire_locals.specs.declared.table.Entry.{Entry}
use Rattle.iox_wire_locals.specs.Tables.{Setting}
use Rattle.iox_wire_laws.specs.WireShows.OwnedCalls.{Each, ClosesOn, OwnsCall}

-- the place is not one of a close, which changes its request state
abbrev pub IsNoClose : Local → Type 0
IsNoClose (ReleaseCloses e w left) = ⊥
IsNoClose local = Unit {0}

-- ---- lists of ways

pub each_all : (P : Way → Type 0) → ((y : Way) → P y) → (ways : List Way) → Each P ways
each_all P all [] = tt
each_all P all (y ∷ ways) = (all y, each_all P all ways)

pub each_not_in : (P : Way → Type 0) (full ways : List Way) → Each P ways → Each P (not_in full ways)
each_not_in P full [] each = tt
each_not_in P full (y ∷ ways) each =
    either (Each P) (not (has_way y full)) (y ∷ not_in full ways) (not_in full ways) (λ e. (each.0, each_not_in P full ways each.1))
    (λ e. each_not_in P full ways each.1)

pub each_other : (v : Way) (ways : List Way) → has_way v ways ≡ false → Each (λ y. same_way v y ≡ false) ways
each_other v [] none = tt
each_other v (y ∷ ways) none =
    let r : (same_way v y ≡ false) × (has_way v ways ≡ false) = or-false (same_way v y) (has_way v ways) none in (r.0, each_other v ways r.1)

-- a request state that is closed, if that request was named, stays so
pub each_closed : (p : Setting) (shown : Way → RequestState) (e : Entry) (w : Way) → closed_for (shown w) e.request ≡ Closed → (ways : List Way)
    → Each (ClosesOn p shown e) ways → Each (ClosesOn p (put shown w (closed_for (shown w) e.request)) e) ways
each_closed p shown e w closed [] each = tt
each_closed p shown e w closed (y ∷ ways) each = ((each.0.0, at), each_closed p shown e w closed ways each.1)
  where
    at : closed_for (put shown w (closed_for (shown w) e.request) y) e.request ≡ Closed
    at =
        either (λ k. closed_for k e.request ≡ Closed) (same_way y w) (closed_for (shown w) e.request) (shown y)
        (λ is. subst (λ k. closed_for k e.request ≡ Closed) (sym closed) refl) (λ is. each.0.1)

-- a header has words, and one more that is not the last leaves some to load
pub headed : (r : Role) → 0 < header_length r
headed Client = omega arith
headed Server = omega arith

pub longer : (header : List ℕ) (seen whole : ℕ) → length header < whole → (length (header ++ seen ∷ []) == whole) ≡ false → length (header ++ seen ∷ []) < whole
longer header seen whole less is = by (length header) (length (header ++ seen ∷ [])) (length-append header (seen ∷ [])) less is
  where
    by : (a c : ℕ) → c ≡ a + 1 → a < whole → (c == whole) ≡ false → c < whole
    by a c e less is = grind (arith)

-- what a place owns stays so whatever request states show, unless it is to close them
pub shown_else : (p : Setting) (n : ℕ) (f : Fixed) (a b : Way → RequestState) (local : Local) → IsNoClose local → OwnsCall p n f a local → OwnsCall p n f b local
shown_else p n f a b (ReleaseCloses e w left) free owns = absurd free
shown_else p n f a b Idle free owns = owns
shown_else p n f a b (Ends ending) free owns = owns
shown_else p n f a b (SendEnds d last count) free owns = owns
shown_else p n f a b (SendAsks d) free owns = owns
shown_else p n f a b (SendEmpties d w place left) free owns = owns
shown_else p n f a b (SendLooks d w place left full) free owns = owns
shown_else p n f a b (SendOpens d w left full) free owns = owns
shown_else p n f a b (SendPushes d last w place left count) free owns = owns
shown_else p n f a b (SendEvicts d w place left count) free owns = owns
shown_else p n f a b (SendGetsBack d w place left count) free owns = owns
shown_else p n f a b (ReleaseReturns e place) free owns = owns
shown_else p n f a b (ReleaseLooks e) free owns = owns
shown_else p n f a b (ReleaseExchanges e old) free owns = owns
shown_else p n f a b (Checks e hinted w left) free owns = owns
shown_else p n f a b (Hints e w left) free owns = owns
shown_else p n f a b (HintExchanges e w left) free owns = owns
shown_else p n f a b (Seeks w place left) free owns = owns
shown_else p n f a b (LendEmpties o w place left) free owns = absurd owns
shown_else p n f a b (LendStores o slot next) free owns = absurd owns
shown_else p n f a b (Writes e words next) free owns = absurd owns
shown_else p n f a b (ReceiveLooks v w place left waiting) free owns = owns
shown_else p n f a b (ReceivePops v w more place left waiting) free owns = owns
shown_else p n f a b (ReceiveLoads v w slot header left waiting) free owns = owns
shown_else p n f a b (ReceiveAsks v w slot header left waiting) free owns = owns
shown_else p n f a b (ReceiveReturns v w slot place left waiting) free owns = owns
shown_else p n f a b (Reads e words) free owns = absurd owns
