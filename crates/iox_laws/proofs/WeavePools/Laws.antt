-- The laws of pools.
use Rattle.std.specs.Prelude.{◌≡◌, ℕ, ◌<◌, Bool, true, if◌then◌else◌, List, [], length, Option, Some}
use Rattle.std.specs.Option.{option_map_or}
use Rattle.std.proofs.Common.{sym, subst, ap, ◌∙◌}
use Rattle.iox_model.specs.declared.reply.Refusal.TheVariants.{OutOfMemory}
use Rattle.iox_model.specs.declared.call.WireCall.TheVariants as wire_calls
use Rattle.iox_model.specs.Doings.{refused, Loans, Doing, Ended}
use Rattle.iox_model.specs.States.{Handle, State}
use Rattle.iox_model.specs.Outstandings.{kept}
use Rattle.iox_model.specs.Responses.{sends}
use Rattle.iox_model.specs.Begins.{start}
use Rattle.iox_model.specs.Weaves.{begun, IsWeave, World, Beat}
use Rattle.iox_model.specs.Keeping.{under_way, kept_in}
use Rattle.iox_model.specs.Runs.{IsReachableState}
use Rattle.iox_laws.specs.WeaveWorlds.Worlds.{IsReachable}
use Rattle.iox_laws.proofs.WeaveWorlds.ReachedPorts.{reached_ports}
use Rattle.iox_laws.specs.WeaveLedger.OnceLaws.{IsOnWire}
use Rattle.iox_laws.proofs.WeaveLaws.WholeLemmas.{some-is, or_else-none, put_at-here}
use Rattle.iox_laws.proofs.WeaveLedger.Views.{view}
use Rattle.iox_laws.proofs.WeaveLedger.Worlds.{begin-none}
use Rattle.iox_laws.specs.WeavePools.PoolLaws.{HasAllBack, KeepsLess, LoanSucceeds, lender, BeginsSucceed, NeverOutOfMemory, PoolsHold, NextIsFresh}
use Rattle.iox_laws.proofs.WeavePools.Spare.{TellsIf, SpareOutcome, SpareDoing}
use Rattle.iox_laws.proofs.WeavePools.SpareMoves.{ends-spare}
use Rattle.iox_laws.proofs.WeavePools.SpareStarts.{IsLoanOf, DryAtOnce, start-spare}
use Rattle.iox_laws.proofs.WeavePools.Suffices.{Reduced, Gone, spare-is, AllBack, keeps-less, gives, gives-at-once, loan-is, all-back}
use Rattle.iox_laws.proofs.WeavePools.HoldsBeats.{on-wire-keeping, fresh}
use Rattle.iox_laws.proofs.WeavePools.Worlds.{Holding, on-wire-holds, replied-if}

-- a world that may come about is on the wire of a service
record IsOnReached (v : World) : Type 0 where
  pub state : State
  pub beats : List Beat
  pub reached : IsReachableState state
  pub on : IsOnWire state beats v

on-reached : (v : World) → IsReachable v → IsOnReached v
on-reached v reach = record {
  state = reach.2.0;
  beats = reach.1;
  reached = reach.2.1;
  on = (reached_ports reach.2.0 reach.2.1, subst (λ (w : World). IsWeave w reach.1 v) reach.2.3 reach.3);
}

holds-at : (v : World) (x : IsOnReached v) → Holding v
holds-at v x = on-wire-holds x.state v x.beats x.reached x.on

-- ---- a loan that got back all there is

loan-at-pick : (v : World) (node : ℕ) (copies : Bool) (h : Handle) → Holding v → HasAllBack v node copies h → IsLoanOf v.state.fixed node h
loan-at-pick v node copies h holds back = loan-is v node copies h back.1 holds.fits holds.spares back.2

back-at-pick : (v : World) (node : ℕ) (copies : Bool) (h : Handle) → HasAllBack v node copies h → AllBack v node h
back-at-pick v node copies h back = all-back v node copies h back.1 back.2 back.3

-- its call holds no message yet
kept-at-pick : (v : World) (node : ℕ) (copies : Bool) (h : Handle) → IsLoanOf v.state.fixed node h → HasAllBack v node copies h
    → kept_in v h.port ≡ kept v.state h.port []
kept-at-pick v node copies h loan back =
    ap (λ (o : Option Doing). kept v.state h.port (option_map_or (under_way h.port) o [])) (ap v.doing loan.of_port ∙ back.2)

pub keeps_less : KeepsLess
keeps_less v node copies h p reach back is enough =
    let x : IsOnReached v = on-reached v reach in
    let holds : Holding v = holds-at v x in
    let loan : IsLoanOf v.state.fixed node h = loan-at-pick v node copies h holds back in
    subst (λ (ks : List ℕ). length ks < p.pool) (sym (kept-at-pick v node copies h loan back))
    (keeps-less x.state v x.beats node h p x.on holds.fits holds.spares back.0 loan (back-at-pick v node copies h back) is enough)

pub loan_succeeds : LoanSucceeds
loan_succeeds v node copies h p reach back is enough =
    let x : IsOnReached v = on-reached v reach in
    let holds : Holding v = holds-at v x in
    ap (λ (b : Bool). if b then refused OutOfMemory else (if copies then sends v.state.fixed h true else Ended (Loans h)))
    (gives x.state v x.beats node h p x.on holds.fits holds.spares back.0 (loan-at-pick v node copies h holds back)
    (back-at-pick v node copies h back) is enough)

-- ---- a loan that has nobody to get back from

pub begins_succeed : BeginsSucceed
begins_succeed v u node call c x p reach beat is there enough out =
    let w : IsOnReached v = on-reached v reach in
    let holds : Holding v = holds-at v w in
    let dry : DryAtOnce v.state node (λ q. q ≡ lender x) ⊥
    = gives-at-once w.state v w.beats node (lender x) p w.on holds.fits holds.spares (or_else-none _ _ beat.0).0 there enough in
    let spare : SpareDoing (view v.state.fixed node) (Gone v.state) ⊥ (start v.state node c call)
    = start-spare v.state node (Gone v.state) (λ q. q ≡ lender x) ⊥ c call dry (λ y e. ap lender (some-is y x (sym e ∙ is)))
    (holds.fits.handles node).of_port (holds.spares.kinds node) (begin-none v node (wire_calls.Port call) beat.0).1 in
    subst (SpareDoing (view v.state.fixed node) (Gone v.state) ⊥) (some-is (start v.state node c call) (refused OutOfMemory) (sym (now beat.2) ∙ out)) spare
  where
    now : u ≡ begun v node c (wire_calls.Port call) → u.doing node ≡ Some (start v.state node c call)
    now e = ap (λ (y : World). y.doing node) e ∙ put_at-here v.doing node (Some (start v.state node c call))

-- ---- answers

pub never_out_of_memory : NeverOutOfMemory
never_out_of_memory v u node payload reach all beat =
    let x : IsOnReached v = on-reached v reach in
    let holds : Holding v = holds-at v x in
    let out : Type 0 = Reduced (view v.state.fixed node) node in
    let p : SpareOutcome (view v.state.fixed node) (Gone v.state) out beat.3
    = ends-spare v.state (view v.state.fixed node) (Gone v.state) out beat.1 beat.3 (spare-is v node beat.1 holds.spares beat.2) beat.4 in
    subst (TellsIf out) (sym beat.6) (replied-if v.state.fixed node (view v.state.fixed node) (Gone v.state) out beat.3 p) all

-- ---- at all times

pub pools_hold : PoolsHold
pools_hold v port p reach is =
    let x : IsOnReached v = on-reached v reach in
    (on-wire-keeping x.state v x.beats port p x.on is).fits

pub next_is_fresh : NextIsFresh
next_is_fresh v port p reach is none =
    let x : IsOnReached v = on-reached v reach in
    fresh v port p (on-wire-keeping x.state v x.beats port p x.on is) none
