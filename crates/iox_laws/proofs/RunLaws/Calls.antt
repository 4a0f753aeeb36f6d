-- A whole call of a service comes to its end, and leaves what rests.
use Rattle.std.specs.Prelude.{◌≡◌, ℕ, true, false, ◌==◌, nat_lt, List, [], ◌∷◌, ◌++◌, map, Some, None}
use Rattle.std.proofs.Common.{sym, subst, ap, ◌∙◌, true≢false, eqb-true}
use Rattle.iox_model.specs.declared.way.Way.{Way}
use Rattle.iox_model.specs.Begins.{start}
use Rattle.iox_model.specs.Commands.{Reply, Call}
use Rattle.iox_model.specs.Doings.{Outcome, Doing, Delivering}
use Rattle.iox_model.specs.Ends.{settled}
use Rattle.iox_model.specs.Loans.{Choice}
use Rattle.iox_model.specs.Messages.{Message}
use Rattle.iox_model.specs.Moments.{Holds, moved, Moment, Deliver, Evict, Take}
use Rattle.iox_model.specs.Names.{misnamed}
use Rattle.iox_model.specs.States.{Port, Fixed, State}
use Rattle.iox_model.specs.Transitions.{next, ends}
use Rattle.iox_model.specs.WholeCalls.{moved_by, left_by, MayCome, IsDone}
use Rattle.iox_model.specs.Maps.{rest_of, same_way, put}
use Rattle.iox_laws.proofs.WeaveLaws.MapLemmas.{either, put-else, same_way-true}
use Rattle.iox_laws.proofs.WeaveLaws.WholeLemmas.{moved-fixed}
use Rattle.iox_laws.proofs.WeaveWorlds.Alone.{ends_alone}
use Rattle.iox_laws.specs.RunLaws.Answering.{ComesToAnEnd}
use Rattle.iox_laws.proofs.WeaveWorlds.Begun.{call_fits}
use Rattle.iox_laws.proofs.WeaveWorlds.Continues.{within_any}
use Rattle.iox_laws.proofs.WeaveWorlds.Kept.{Leaves, within_kept, from_own}
use Rattle.iox_laws.proofs.WeaveWorlds.Moves.{moved_leaves}
use Rattle.iox_laws.proofs.WeaveWorlds.MovesFit.{moved_sound}
use Rattle.iox_laws.proofs.WeaveWorlds.Reached.{ended_within, ended_fits}
use Rattle.iox_laws.proofs.WeaveWorlds.Sound.{SoundDoing, last_of, IsWithin, SoundCall}
use Rattle.iox_laws.proofs.RunLaws.Ports.{at_below}
use Rattle.iox_laws.proofs.RunLaws.Rests.{Rests, rests_own}
use Rattle.iox_laws.proofs.RunLaws.Holding.{HoldsIn, moved_holds, ended_holds}
use Rattle.iox_laws.proofs.RunLaws.Beginning.{start_holds}
use Rattle.iox_laws.proofs.RunLaws.Owning.{Owned, moved_owned}
use Rattle.iox_laws.proofs.RunLaws.Settling.{Calm, settled_calm}
use Rattle.iox_laws.proofs.WeaveLedger.Truths.{by_cases, false_if}
use Rattle.iox_laws.proofs.WeaveLedger.Lists.{distinct-no_repeats}
use Rattle.iox_laws.proofs.WeaveLedger.Phases.{HasOwnPorts}

-- what rests but for the one call under way
pub record Goes (s : State) (node : ℕ) (d : Doing) : Type 0 where
  pub fixed : Rests s.fixed
  pub call : SoundCall s node (Some d)
  pub others : (n : ℕ) → (n == node) ≡ false → IsWithin s n None
  pub unused : (v : Way) → nat_lt v.sender s.fixed.next_number ≡ false → s.waiting v ≡ []
  pub owned : Owned s
  pub holds : HoldsIn s.fixed d

-- ---- a moment

none-left : (xs : List Message) → xs ≡ [] → rest_of xs ≡ []
none-left xs e = ap rest_of e

taken_there : (f : Way → List Message) (w v : Way) → f v ≡ [] → put f w (rest_of (f w)) v ≡ []
taken_there f w v e =
    either (λ (xs : List Message). xs ≡ []) (same_way v w) (rest_of (f w)) (f v)
    (λ same. ap (λ u. rest_of (f u)) (sym (same_way-true v w same)) ∙ none-left (f v) e) (λ u. e)

delivers_below : (s : State) (node : ℕ) (d : Doing) (w : Way) (m : Message) → Rests s.fixed → SoundDoing s node d
    → (next s node d (Deliver w m)).condition → nat_lt w.sender s.fixed.next_number ≡ true
delivers_below s node (Delivering x last left count) w m r p c =
    at_below s.fixed.next_number w.sender s.fixed.ports (r.numbered).1 (from_own s.fixed node x.loan.port w p.0.0.1 (p.1 w c.0)).0
delivers_below s node d w m r p c = absurd c

unused_moved : (s : State) (node : ℕ) (d : Doing) (m : Moment) → Rests s.fixed → SoundDoing s node d → (next s node d m).condition
    → (v : Way) → nat_lt v.sender s.fixed.next_number ≡ false → s.waiting v ≡ [] → (moved s m).waiting v ≡ []
unused_moved s node d (Deliver w m) r p c v late none =
    put-else s.waiting w (s.waiting w ++ m ∷ []) v
    (false_if (same_way v w) (λ same. true≢false (sym (delivers_below s node d w m r p c)
    ∙ ap (λ (u : Way). nat_lt u.sender s.fixed.next_number) (sym (same_way-true v w same)) ∙ late))) ∙ none
unused_moved s node d (Evict w) r p c v late none = taken_there s.waiting w v none
unused_moved s node d (Take w m) r p c v late none = taken_there s.waiting w v none
unused_moved s node d m r p c v late none = none

pub own_ports : (f : Fixed) → Rests f → HasOwnPorts f
own_ports f r = distinct-no_repeats (map (λ (p : Port). p.number) f.ports) (r.numbered).0

pub goes_moved : (s : State) (node : ℕ) (d : Doing) (m : Moment) → Goes s node d → Holds s m → (next s node d m).condition
    → Goes (moved s m) node (next s node d m).after
goes_moved s node d m g h c =
    let same : (moved s m).fixed ≡ s.fixed = moved-fixed s m in
    record {
      fixed = subst Rests (sym same) g.fixed;
      call = moved_sound s node d m ((g.fixed).numbered).0 g.call h c;
      others = λ n other.
          let l : Leaves s (moved s m) n = moved_leaves s node n d m (g.call).1 c other in
          within_kept s (moved s m) n None l.fixed l.waiting (g.others n other);
      unused = λ v late.
          let before : nat_lt v.sender s.fixed.next_number ≡ false = ap (λ (f : Fixed). nat_lt v.sender f.next_number) (sym same) ∙ late in
          unused_moved s node d m g.fixed (g.call).1 c v before (g.unused v before);
      owned = moved_owned s node d m g.fixed (g.call).1 g.holds c g.owned;
      holds = subst (λ f. HoldsIn f (next s node d m).after) (sym same)
          (moved_holds s node d m (own_ports s.fixed g.fixed) (g.owned).waits (g.call).1 h g.holds c);
    }

pub goes_by : (s : State) (node : ℕ) (d : Doing) (ms : List Moment) → Goes s node d → MayCome s node d ms → Goes (moved_by s ms) node (left_by s node d ms)
goes_by s node d [] g may = g
goes_by s node d (m ∷ ms) g may = goes_by (moved s m) node (next s node d m).after ms (goes_moved s node d m g may.0 may.1) may.2

-- ---- the begin

pub begins : (s : State) (node : ℕ) (c : Choice) (call : Call) → Calm s → misnamed s.fixed node call ≡ None → Goes s node (start s node c call)
begins s node c call r named = record {
  fixed = (r.rests).fixed;
  call = (
    within_any s node (last_of (Some (start s node c call))) ((r.rests).within node),
    call_fits s node c call (((r.rests).fixed).numbered).0 (rests_own s.fixed node (r.rests).fixed) ((r.rests).within node) named,
  );
  others = λ n other. (r.rests).within n;
  unused = (r.rests).unused;
  owned = r.owned;
  holds = start_holds s node c call (own_ports s.fixed (r.rests).fixed) ((r.owned).has).kept named;
}

-- Whatever was chosen, and whatever moments were made, the call comes to an end.
pub call_ends : (s : State) (node : ℕ) (c : Choice) (call : Call) (ms : List Moment) → Calm s → misnamed s.fixed node call ≡ None
    → MayCome s node (start s node c call) ms → ComesToAnEnd (moved_by s ms) node (left_by s node (start s node c call) ms)
call_ends s node c call ms r named may =
    let d : Doing = start s node c call in
    let g : Goes (moved_by s ms) node (left_by s node d ms) = goes_by s node d ms (begins s node c call r named) may in
    ends_alone (moved_by s ms) node (left_by s node d ms) ((g.fixed).numbered).0 g.call

-- ---- the end

over_calm : (t : State) (node : ℕ) (d : Doing) (o : Outcome) (payload : List ℕ) → Goes t node d → ends t d ≡ Some o → Calm (settled t node payload o)
over_calm t node d o payload g ended =
    settled_calm t node payload o (record {
      rests = record {
        fixed = g.fixed;
        within = λ n. by_cases (n == node)
            (λ is. subst (λ k. IsWithin t k None) (sym (eqb-true n node is)) (ended_within t node d o ended (g.call).0)) (g.others n);
        unused = g.unused;
      };
      owned = g.owned;
    }) (ended_fits t node d o ended (g.call).1) (ended_holds t d o ended g.holds)

pub done_calm : (s : State) (node : ℕ) (call : Call) (reply : Reply) (t : State) → Calm s → misnamed s.fixed node call ≡ None
    → IsDone s node call reply t → Calm t
done_calm s node call reply t r named d =
    let first : Doing = start s node d.0 call in
    subst Calm (sym d.9)
    (over_calm (moved_by s d.2) node (left_by s node first d.2) d.4 d.6 (goes_by s node first d.2 (begins s node d.0 call r named) d.3) d.5)
