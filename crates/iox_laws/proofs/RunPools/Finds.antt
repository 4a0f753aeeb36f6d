-- No call of a service is answered that memory is out, where no pool of its node was reduced.
use Rattle.std.specs.Prelude.{◌≡◌, ℕ, Bool, true, ◌&&◌, if◌then◌else◌, ◌^◌, nat_le, List, [], ◌∷◌, None, ⊤}
use Rattle.std.proofs.Common.{sym, subst, ap, ◌∙◌, true≢false}
use Rattle.iox_model.specs.declared.kind.Role.{Role}
use Rattle.iox_model.specs.declared.kind.Role.TheVariants.{Client, Server}
use Rattle.iox_model.specs.declared.way.Way.{Way}
use Rattle.iox_model.specs.Commands.{Create, Use}
use Rattle.iox_model.specs.declared.reply.Refusal.TheVariants.{OutOfMemory, CallsSpent}
use Rattle.iox_model.specs.declared.reply.Reply.TheVariants.{Refused}
use Rattle.iox_model.specs.Begins.{start}
use Rattle.iox_model.specs.Commands.{Call, asking, number_of}
use Rattle.iox_model.specs.Doings.{refused, Loans, Doing, Ended, Loaning}
use Rattle.iox_model.specs.Handles.{subject}
use Rattle.iox_model.specs.Joins.{not_living}
use Rattle.iox_model.specs.Loans.{Choice, lending_ways}
use Rattle.iox_model.specs.Makings.{making_refusal, port_reply}
use Rattle.iox_model.specs.Maps.{has_way, without_way}
use Rattle.iox_model.specs.Moments.{Holds, moved, Moment, SeesNoneBack}
use Rattle.iox_model.specs.Names.{misnamed}
use Rattle.iox_model.specs.Peers.{port_at}
use Rattle.iox_model.specs.Responses.{sends}
use Rattle.iox_model.specs.Services.{with_own_id}
use Rattle.iox_model.specs.States.{Handle, Fixed, State}
use Rattle.iox_model.specs.Transitions.{next}
use Rattle.iox_model.specs.WholeCalls.{moved_by, left_by, MayCome, is_counted, spent, IsDone}
use Rattle.iox_laws.proofs.WeaveLaws.WholeLemmas.{moved-fixed, moved_by-fixed, some-is}
use Rattle.iox_laws.proofs.WeaveWorlds.Sound.{IsOwn}
use Rattle.iox_laws.proofs.WeaveLedger.Truths.{by_cases}
use Rattle.iox_laws.proofs.WeaveLedger.Views.{view}
use Rattle.iox_laws.specs.WeavePools.PoolLaws.{lender}
use Rattle.iox_laws.proofs.WeavePools.Spare.{SpareLoan, TellsIf, SpareDoing}
use Rattle.iox_laws.proofs.WeavePools.SpareMoves.{DryIf, next-spare, ends-spare}
use Rattle.iox_laws.proofs.WeavePools.SpareStarts.{IsLoanOf, if-tolerated, start-spare}
use Rattle.iox_laws.proofs.WeavePools.Suffices.{Reduced}
use Rattle.iox_laws.proofs.WeavePools.Worlds.{replied-if}
use Rattle.iox_model.specs.Runs.{IsReachableState}
use Rattle.iox_laws.proofs.RunLaws.Calls.{Goes}
use Rattle.iox_laws.proofs.RunLaws.Holding.{LoanFits}
use Rattle.iox_laws.proofs.RunLaws.Runs.{left_calm}
use Rattle.iox_laws.proofs.RunLaws.Settling.{Calm}
use Rattle.iox_laws.specs.RunPools.Decisions.{GotAllBack}
use Rattle.iox_laws.specs.RunPools.Finding.{IsUnreducedNode, NoCallRunsOut, NoPortCommandRunsOut, NoCommandRunsOut, KeepsLessThere, LoanSucceedsThere}
use Rattle.iox_laws.specs.RunPools.Finding.{BeginsSucceedThere}
use Rattle.iox_laws.proofs.RunPools.Inductions.{reached_holds}
use Rattle.iox_laws.proofs.RunPools.Goings.{Going, going_start, going_next}
use Rattle.iox_laws.proofs.RunPools.Counting.{Kinds, KindsOf, kinds_kept, NoOne, own_handles, loan_at}
use Rattle.iox_laws.proofs.RunPools.Refusals.{unless_out, misnamed_other, making_other, living_other}
use Rattle.iox_laws.proofs.RunPools.Backs.{Ledgered, GetsBack, begins_back, gets_on, Bounded, keeps_less, gives, refuses_reduced}

-- ---- a call under way

record Finds (s : State) (n : ℕ) (d : Doing) : Type 0 where
  pub going : Going (GetsBack s) s n d
  pub kinds : Kinds s.fixed
  pub spare : SpareDoing (view s.fixed n) NoOne (Reduced (view s.fixed n) n) d

loan_is : (f : Fixed) (n : ℕ) (h : Handle) → IsOwn f n h → LoanFits f h true → SpareLoan (view f n) h.port → IsLoanOf f n h
loan_is f n h own fits spare = record { of_node = own.0; of_port = (own.1).1; role = (fits.1).role; spare = spare }

bounded_rest : (s : State) (n : ℕ) → Calm s → Bounded s n
bounded_rest s n calm = record { rests = (calm.rests).fixed; within = (calm.rests).within n; has = (calm.owned).has }

bounded_loan : (s : State) (n : ℕ) (copies : Bool) (h : Handle) (left : List Way) → Goes s n (Loaning copies h left) → Bounded s n
bounded_loan s n copies h left g = record { rests = g.fixed; within = (g.call).0; has = (g.owned).has }

loan_of_call : (s : State) (n : ℕ) (copies : Bool) (h : Handle) (left : List Way) → Finds s n (Loaning copies h left) → IsLoanOf s.fixed n h
loan_of_call s n copies h left p = loan_is s.fixed n h ((((p.going).goes).call).1).0 ((p.going).goes).holds p.spare

start_finds : (s : State) (n : ℕ) (c : Choice) (call : Call) → Calm s → misnamed s.fixed n call ≡ None → Kinds s.fixed → Ledgered s
    → Finds s n (start s n c call)
start_finds s n c call calm named k ledger = record {
  going = going_start (GetsBack s) s n c call calm (begins_back s ledger) named;
  kinds = k;
  spare = start-spare s n NoOne (λ q. ⊤) (Reduced (view s.fixed n) n) c call
      (λ h loan may none dry. refuses_reduced s n h (bounded_rest s n calm) k ledger loan
      (λ y lends. absurd (true≢false (sym lends ∙ ap (has_way y) none))) dry)
      (λ x is. tt) (own_handles s n (calm.rests).fixed) (k.kinds n) named;
}

dry_if : (s : State) (n : ℕ) (d : Doing) (m : Moment) → Holds s m → (next s n d m).condition → Finds s n d → DryIf s (Reduced (view s.fixed n) n) d m
dry_if s n (Loaning copies h left) (SeesNoneBack w) holds c p =
    let g : GetsBack s h (without_way w left) = gets_on s n (Loaning copies h left) (SeesNoneBack w) holds c ((p.going).stands).1 in
    λ none dry. refuses_reduced s n h (bounded_loan s n copies h left (p.going).goes) p.kinds g.ledger (loan_of_call s n copies h left p)
    (λ y lends. g.seen y lends (ap (has_way y) none)) dry
dry_if s n d m holds c p = tt

next_finds : (s : State) (n : ℕ) (d : Doing) (m : Moment) → Holds s m → (next s n d m).condition → Finds s n d → Finds (moved s m) n (next s n d m).after
next_finds s n d m holds c p = record {
  going = going_next (GetsBack s) (GetsBack (moved s m)) s n d m p.going (gets_on s n d m holds c) holds c;
  kinds = subst Kinds (sym (moved-fixed s m)) p.kinds;
  spare = subst (λ (f : Fixed). SpareDoing (view f n) NoOne (Reduced (view f n) n) (next s n d m).after) (sym (moved-fixed s m))
      (next-spare s n NoOne (Reduced (view s.fixed n) n) d m (dry_if s n d m holds c p) (loan_at s n d (((p.going).goes).call).1) c p.spare);
}

moments_find : (s : State) (n : ℕ) (d : Doing) (ms : List Moment) → MayCome s n d ms → Finds s n d → Finds (moved_by s ms) n (left_by s n d ms)
moments_find s n d [] may p = p
moments_find s n d (m ∷ ms) may p = moments_find (moved s m) n (next s n d m).after ms may.2 (next_finds s n d m may.0 may.1 p)

-- ---- the laws, where the record is right

-- what is recorded in each state that is reached is out there
abbrev pub IsLedgered : Type 0
IsLedgered = (s : State) → IsReachableState s → Ledgered s

done_finds : (s t : State) (n : ℕ) (call : Call) → Calm s → Kinds s.fixed → Ledgered s → misnamed s.fixed n call ≡ None → IsUnreducedNode s.fixed n
    → IsDone s n call (Refused OutOfMemory) t → ⊥
done_finds s t n call calm k ledger named all d =
    let f : Fixed = (moved_by s d.2).fixed in
    let p : Finds (moved_by s d.2) n (left_by s n (start s n d.0 call) d.2)
    = moments_find s n (start s n d.0 call) d.2 d.3 (start_finds s n d.0 call calm named k ledger) in
    let reduced : Reduced (view f n) n = subst (TellsIf (Reduced (view f n) n)) (sym d.8)
    (replied-if s.fixed n (view f n) NoOne (Reduced (view f n) n) d.4
    (ends-spare (moved_by s d.2) (view f n) NoOne (Reduced (view f n) n) (left_by s n (start s n d.0 call) d.2) d.4 p.spare d.5)) in
    reduced (subst (λ g. IsUnreducedNode g n) (sym (moved_by-fixed s d.2)) all)

pub no_call_runs_out : IsLedgered → NoCallRunsOut
no_call_runs_out ledger s t n call reached all =
    unless_out (misnamed s.fixed n call) s t _ (misnamed_other s.fixed n call (subject s.fixed n (number_of call)))
    (λ named. unless_out (spent s.fixed call) s t (IsDone s n call (Refused OutOfMemory) t)
    (if-tolerated ⊥ (is_counted call && nat_le (2 ^ 56) s.fixed.calls) CallsSpent tt)
    (λ u. done_finds s t n call (left_calm s reached) (reached_holds KindsOf s kinds_kept reached) (ledger s reached) named all))

pub no_port_command_runs_out : IsLedgered → NoPortCommandRunsOut
no_port_command_runs_out ledger s t n (Create role id o) reached all c =
    unless_out (making_refusal s.fixed role o c.0) s t _ (making_other s.fixed role o c.0)
    (λ allowed made. subst (TellsIf ⊥) (sym made.0) (made_one role s.fixed.next_number)) c.1
  where
    made_one : (role : Role) (k : ℕ) → TellsIf ⊥ (port_reply role k)
    made_one Client k = tt
    made_one Server k = tt
no_port_command_runs_out ledger s t n (Use call) reached all c = no_call_runs_out ledger s t n call reached all c

pub no_command_runs_out : IsLedgered → NoCommandRunsOut
no_command_runs_out ledger s t command reached all =
    let n : ℕ = (asking command).0 in
    unless_out (not_living s n) s t _ (living_other s n) (λ u. no_port_command_runs_out ledger s t n (with_own_id s n (asking command).1) reached all)

-- ---- where the pool decides

finds_there : (now : State) (n : ℕ) (copies : Bool) (h : Handle) (x : GotAllBack now n copies h) → IsLedgered → Finds now n (Loaning copies h x.ways)
finds_there now n copies h x ledger =
    let s : State = x.first in
    subst (λ u. Finds u n (Loaning copies h x.ways)) (sym x.now_is)
    (subst (Finds (moved_by s x.moments) n) x.lends
    (moments_find s n (start s n x.choice x.call) x.moments x.come
    (start_finds s n x.choice x.call (left_calm s x.reached) x.named (reached_holds KindsOf s kinds_kept x.reached) (ledger s x.reached))))

back_there : (now : State) (n : ℕ) (copies : Bool) (h : Handle) (x : GotAllBack now n copies h) → Finds now n (Loaning copies h x.ways)
    → (y : Way) → has_way y (lending_ways now.fixed h) ≡ true → now.returned y ≡ []
back_there now n copies h x p y lends = by_cases (has_way y x.ways) (x.none y) ((((p.going).stands).1).seen y lends)

pub keeps_less_there : IsLedgered → KeepsLessThere
keeps_less_there ledger now n copies h p x is enough =
    let z : Finds now n (Loaning copies h x.ways) = finds_there now n copies h x ledger in
    keeps_less now n h p (bounded_loan now n copies h x.ways (z.going).goes) z.kinds (((z.going).stands).1).ledger (loan_of_call now n copies h x.ways z)
    (back_there now n copies h x z) is enough

pub loan_succeeds_there : IsLedgered → LoanSucceedsThere
loan_succeeds_there ledger now n copies h p x is enough =
    let z : Finds now n (Loaning copies h x.ways) = finds_there now n copies h x ledger in
    ap (λ (b : Bool). if b then refused OutOfMemory else (if copies then sends now.fixed h true else Ended (Loans h)))
    (gives now n h p (bounded_loan now n copies h x.ways (z.going).goes) z.kinds (((z.going).stands).1).ledger (loan_of_call now n copies h x.ways z)
    (back_there now n copies h x z) is enough)

pub begins_succeed_there : IsLedgered → BeginsSucceedThere
begins_succeed_there ledger s n call c x p reached named is there enough out =
    let calm : Calm s = left_calm s reached in
    let k : Kinds s.fixed = reached_holds KindsOf s kinds_kept reached in
    subst (SpareDoing (view s.fixed n) NoOne ⊥) out
    (start-spare s n NoOne (λ q. q ≡ lender x) ⊥ c call
    (λ h loan same none dry. true≢false (sym dry ∙ gives s n h p (bounded_rest s n calm) k (ledger s reached) loan
    (λ y lends. absurd (true≢false (sym lends ∙ ap (has_way y) none))) (ap (port_at s.fixed) same ∙ there) enough))
    (λ y e. ap lender (some-is y x (sym e ∙ is))) (own_handles s n (calm.rests).fixed) (k.kinds n) named)
