-- Each world that may come about is sound, so no call of a living node is stuck.
use Rattle.std.specs.Prelude.{◌≡◌, ℕ, Bool, true, false, if◌then◌else◌, ◌+◌, ◌==◌, List, [], ◌∷◌, length, map, Option, Some, None, is_some, refl}
use Rattle.std.proofs.Common.{sym, subst, ap, ◌∙◌, eqb-true}
use Rattle.iox_model.specs.declared.way.Way.{Way}
use Rattle.iox_model.specs.declared.reply.Refusal.TheVariants.{Busy}
use Rattle.iox_model.specs.Doings.{Sending, Outcome, Sends, Doing, Ended, Delivering}
use Rattle.iox_model.specs.Weaves.{at_work, begin_refusal, miscalled, wire_start, begun, made, over, IsBeat, IsWeave, World, Beat, Begins, Makes, Ends, Dies}
use Rattle.iox_model.specs.States.{Port, Fixed, State}
use Rattle.iox_model.specs.Loans.{Choice}
use Rattle.iox_model.specs.Requests.{is_over}
use Rattle.iox_model.specs.Maps.{put_at, refused_if, AreDistinct}
use Rattle.iox_model.specs.WireCalls.{opened}
use Rattle.iox_model.specs.Ends.{settled}
use Rattle.iox_model.specs.Moments.{Holds, moved, Moment}
use Rattle.iox_model.specs.Services.{with_death}
use Rattle.iox_model.specs.Commands.{Refusal, WireCall}
use Rattle.iox_model.specs.Transitions.{next, ends}
use Rattle.iox_model.specs.Peers.{buffer_on}
use Rattle.iox_laws.proofs.WeaveLaws.MapLemmas.{either}
use Rattle.iox_laws.proofs.WeaveLaws.WholeLemmas.{moved-fixed, or_else-none, some-is}
use Rattle.iox_laws.specs.WeaveWorlds.Worlds.{IsReachable}
use Rattle.iox_laws.specs.WeaveWorlds.GoingOn.{NeverStuck}
use Rattle.iox_laws.specs.WeaveWorlds.OnWires.{ReachableIsOnWire}
use Rattle.iox_laws.proofs.WeaveWorlds.Sound.{has_own, FitsOutcome, SoundDoing, FitsCall, last_of, IsWithin, SoundCall, Sound}
use Rattle.iox_laws.proofs.WeaveWorlds.Kept.{same_ports, within_kept, sound_kept}
use Rattle.iox_laws.proofs.WeaveWorlds.PortLemmas.{AreDistinctPorts}
use Rattle.iox_laws.proofs.WeaveWorlds.Continues.{within_any}
use Rattle.iox_laws.proofs.WeaveWorlds.Moves.{calm, moved_leaves}
use Rattle.iox_laws.proofs.WeaveWorlds.MovesFit.{moved_sound}
use Rattle.iox_laws.proofs.WeaveWorlds.Begun.{start_fits}
use Rattle.iox_laws.proofs.WeaveWorlds.Settled.{settled_on_wire, settled_ports, settled_own, settled_waiting, settled_leaves}
use Rattle.iox_laws.proofs.WeaveWorlds.GoesOn.{goes_on}
use Rattle.iox_laws.proofs.WeaveWorlds.ReachedPorts.{reached_ports}
use Rattle.iox_laws.proofs.WeaveLedger.Truths.{by_cases, none-some}
use Rattle.iox_laws.proofs.WeaveLedger.Orders.{le-refl, le-zero}

-- the calls of all nodes, once one of them has that left to do
put_sound : (s : State) (doing : ℕ → Option Doing) (node : ℕ) (o : Option Doing) → SoundCall s node o
    → ((n : ℕ) → (n == node) ≡ false → SoundCall s n (doing n)) → (n : ℕ) → SoundCall s n (put_at doing node o n)
put_sound s doing node o here others n =
    either (SoundCall s n) (n == node) o (doing n) (λ e. subst (λ k. SoundCall s k o) (sym (eqb-true n node e)) here) (others n)

-- ---- a begin

idle_within : (s : State) (node : ℕ) (o : Option Doing) → refused_if {A = Refusal} (is_some o) Busy ≡ None → IsWithin s node (last_of o) → IsWithin s node None
idle_within s node None e p = p
idle_within s node (Some d) e p = none-some Busy (sym e)

begun_sound : (w : World) (node : ℕ) (c : Choice) (call : WireCall) → begin_refusal w node call ≡ None → Sound w → Sound (begun w node c call)
begun_sound w node c call begins p =
    let q : (refused_if {A = Refusal} (is_some (w.doing node)) Busy ≡ None) × (miscalled w.state node call ≡ None)
    = or_else-none _ _ (or_else-none _ _ begins).1 in
    let idle : IsWithin w.state node None = idle_within w.state node (w.doing node) q.0 (p.calls node).0 in
    record {
      on_wire = p.on_wire;
      distinct = p.distinct;
      own = p.own;
      calls = put_sound w.state w.doing node (Some (wire_start w.state node c call)) (
        within_any w.state node (last_of (Some (wire_start w.state node c call))) idle,
        start_fits w.state node c call p.distinct (p.own node) idle q.1,
      )
          (λ n other. p.calls n);
    }

-- ---- a moment

made_sound : (w : World) (node : ℕ) (d : Doing) (m : Moment) → w.doing node ≡ Some d → Holds w.state m → (next w.state node d m).condition
    → Sound w → Sound (made w node d m)
made_sound w node d m is h c p =
    let s : State = w.state in
    let mine : SoundCall s node (Some d) = subst (SoundCall s node) is (p.calls node) in
    record {
      on_wire = ap (λ (f : Fixed). f.on_wire) (moved-fixed s m) ∙ p.on_wire;
      distinct = subst AreDistinctPorts (sym (moved-fixed s m)) p.distinct;
      own = λ n. subst (λ f. has_own f n ≡ true) (sym (moved-fixed s m)) (p.own n);
      calls = put_sound (moved s m) w.doing node (Some (next s node d m).after) (moved_sound s node d m p.distinct mine h c)
          (λ n other. sound_kept s (moved s m) n (w.doing n) (moved_leaves s node n d m mine.1 c other) (p.calls n));
    }

-- ---- an end

sent_within : (s : State) (node : ℕ) (x : Sending) (last : Option Way) (count : ℕ) (o : Outcome)
    → (if is_over s last then None else Some (Sends x.loan x.copied count)) ≡ Some o → IsWithin s node last → IsWithin s node None
sent_within s node x last count o e p =
    by_cases (is_over s last) (λ over. none-some o (sym (ap (λ (b : Bool). if b then None else Some (Sends x.loan x.copied count)) over) ∙ e))
    (λ no. calm s node last no p)

pub ended_within : (s : State) (node : ℕ) (d : Doing) (o : Outcome) → ends s d ≡ Some o → IsWithin s node (last_of (Some d)) → IsWithin s node None
ended_within s node (Delivering x last [] count) o e p = sent_within s node x last count o e p
ended_within s node (Delivering x last (v ∷ left) count) o e p = none-some o e
ended_within s node d o e p = p

pub ended_fits : (s : State) (node : ℕ) (d : Doing) (o : Outcome) → ends s d ≡ Some o → SoundDoing s node d → FitsOutcome s.fixed node o
ended_fits s node (Ended a) o e p = subst (FitsOutcome s.fixed node) (some-is a o e) p
ended_fits s node (Delivering x last [] count) o e p =
    by_cases (is_over s last) (λ over. none-some o (sym (ap (λ (b : Bool). if b then None else Some (Sends x.loan x.copied count)) over) ∙ e))
    (λ no. subst (FitsOutcome s.fixed node)
    (some-is (Sends x.loan x.copied count) o (sym (ap (λ (b : Bool). if b then None else Some (Sends x.loan x.copied count)) no) ∙ e)) p.0.0)
ended_fits s node (Delivering x last (v ∷ left) count) o e p = none-some o e
ended_fits s node d o e p = none-some o e

over_sound : (w : World) (node : ℕ) (payload : List ℕ) (d : Doing) (o : Outcome) → w.doing node ≡ Some d → ends w.state d ≡ Some o
    → Sound w → Sound (over w node payload o)
over_sound w node payload d o is ended p =
    let s : State = w.state in
    let t : State = settled s node payload o in
    let mine : SoundCall s node (Some d) = subst (SoundCall s node) is (p.calls node) in
    let fits : FitsOutcome s.fixed node o = ended_fits s node d o ended mine.1 in
    record {
      on_wire = settled_on_wire s node payload o p.on_wire;
      distinct = subst (λ ps. AreDistinct (map (λ (q : Port). q.number) ps)) (sym (settled_ports s node payload o p.on_wire p.own fits).ports) p.distinct;
      own = settled_own s node payload o p.on_wire p.own fits;
      calls = put_sound t w.doing node None (
        within_kept s t node None (settled_ports s node payload o p.on_wire p.own fits) (λ v of_node. settled_waiting s node payload o p.on_wire
            v) (ended_within s node d o ended mine.0),
        tt,
      )
          (λ n other. sound_kept s t n (w.doing n) (settled_leaves s node payload o n p.on_wire p.own fits other) (p.calls n));
    }

-- ---- a death

dead_sound : (w : World) (node : ℕ) → Sound w → Sound (record w { state = with_death w.state node })
dead_sound w node p = record {
  on_wire = p.on_wire;
  distinct = p.distinct;
  own = p.own;
  calls = λ n. sound_kept w.state (with_death w.state node) n (w.doing n)
      (record {
        fixed = same_ports w.state.fixed;
        waiting = λ v of_node. le-refl (length (w.state.waiting v));
        in_hand = λ v of_node. refl;
      }) (p.calls n);
}

-- ---- all beats

pub beat_sound : (w v : World) (b : Beat) → IsBeat w b v → Sound w → Sound v
beat_sound w v (Begins node call c) beat p = subst Sound (sym beat.2) (begun_sound w node c call beat.0 p)
beat_sound w v (Makes node m) beat p = subst Sound (sym beat.5) (made_sound w node beat.1 m beat.2 beat.3 beat.4 p)
beat_sound w v (Ends node reply payload) beat p = subst Sound (sym beat.7) (over_sound w node payload beat.1 beat.3 beat.2 beat.4 p)
beat_sound w v (Dies node) beat p = subst Sound (sym beat.1) (dead_sound w node p)

weave_sound : (w v : World) (bs : List Beat) → IsWeave w bs v → Sound w → Sound v
weave_sound w v [] weave p = subst Sound (sym weave) p
weave_sound w v (b ∷ bs) weave p = weave_sound weave.0 v bs weave.2 (beat_sound w weave.0 b weave.1 p)

pub opened_sound : (s : State) → AreDistinctPorts s.fixed → Sound (at_work (opened s))
opened_sound s distinct = record {
  on_wire = refl;
  distinct = distinct;
  own = λ n. refl;
  calls = λ n. ((λ v of_node. le-zero (buffer_on (opened s).fixed v + 0)), tt);
}

-- Every world that may come about is sound.
pub reachable_sound : (w : World) → IsReachable w → Sound w
reachable_sound w reach =
    weave_sound reach.0 w reach.1 reach.3
    (subst Sound (sym reach.2.3) (opened_sound reach.2.0 (reached_ports reach.2.0 reach.2.1)))

-- and on a wire that opened on a state that is reached.
pub reachable_is_on_wire : ReachableIsOnWire
reachable_is_on_wire w reach =
    let s : State = reach.2.0 in
    (s, reach.1, reach.2.1, (reached_ports s reach.2.1, subst (λ first. IsWeave first reach.1 w) reach.2.3 reach.3))

pub never_stuck : NeverStuck
never_stuck w node d reach live is =
    goes_on w node d (subst (FitsCall w.state node) is ((reachable_sound w reach).calls node).1) live is
