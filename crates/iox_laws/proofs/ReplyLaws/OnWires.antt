-- On a wire nothing is in hand on the ways of a node at rest, so its call has one reply there.
use Rattle.std.specs.Prelude.{◌≡◌, ℕ, ◌≤◌, Bool, true, false, not, ◌||◌, if◌then◌else◌, length, Some, None, refl}
use Rattle.std.specs.Option.{option_map_or}
use Rattle.std.proofs.Common.{sym, subst, ap, ◌∙◌, true≢false}
use Rattle.iox_model.specs.declared.way.Way.{Way}
use Rattle.iox_model.specs.Begins.{start}
use Rattle.iox_model.specs.Commands.{Reply, Call}
use Rattle.iox_model.specs.Doings.{Doing, Loaning}
use Rattle.iox_model.specs.Loans.{Choice}
use Rattle.iox_model.specs.Names.{misnamed}
use Rattle.iox_model.specs.States.{Fixed, State}
use Rattle.iox_model.specs.Weaves.{World}
use Rattle.iox_model.specs.WholeCalls.{IsDone}
use Rattle.iox_laws.proofs.WeaveLaws.WholeLemmas.{moved-fixed}
use Rattle.iox_laws.specs.WeaveLedger.QueueLaws.{has_evicted, by_sender}
use Rattle.iox_laws.proofs.WeaveLedger.Buffers.{one_in_hand}
use Rattle.iox_laws.proofs.WeaveLedger.Lists.{no-length}
use Rattle.iox_laws.specs.WeaveWorlds.Worlds.{IsReachable}
use Rattle.iox_laws.proofs.WeaveWorlds.Begun.{call_fits}
use Rattle.iox_laws.proofs.WeaveWorlds.Continues.{within_any}
use Rattle.iox_laws.proofs.WeaveWorlds.Kept.{from_own}
use Rattle.iox_laws.proofs.WeaveWorlds.MovesFit.{moved_sound}
use Rattle.iox_laws.proofs.WeaveWorlds.PortLemmas.{AreDistinctPorts}
use Rattle.iox_laws.proofs.WeaveWorlds.Reached.{reachable_sound, reachable_is_on_wire}
use Rattle.iox_laws.proofs.WeaveWorlds.Sound.{IsPortOf, last_of, IsWithin, SoundCall, Sound}
use Rattle.iox_laws.specs.ReplyLaws.Determined.{WireCallsHaveOneReply}
use Rattle.iox_laws.proofs.ReplyLaws.Choosing.{answer, with_memory, done_told}
use Rattle.iox_laws.proofs.ReplyLaws.Hands.{NoneOn, HandsFit, hands_any, hands_moved}
use Rattle.iox_laws.proofs.ReplyLaws.Steady.{IsClear, IsLasting}

-- ---- the ways of the node

-- a way from a port of the node
abbrev IsOfNode : Fixed → ℕ → Way → Type 0
IsOfNode f node y = IsPortOf f node y.sender

none_at_rest : (w : World) (node : ℕ) → IsReachable w → w.doing node ≡ None → NoneOn (IsOfNode w.state.fixed node) w.state
none_at_rest w node reach rests y of_node =
    let on = reachable_is_on_wire w reach in
    no-length (w.state.in_hand y)
    (subst (λ (b : Bool). length (w.state.in_hand y) ≤ (if b then 1 else 0)) not_evicted (one_in_hand on.0 w on.1 y on.3))
  where
    not_evicted : by_sender has_evicted w y ≡ false
    not_evicted =
        ap (λ n. option_map_or (has_evicted y) (w.doing n) false) of_node.1
        ∙ ap (λ o. option_map_or (has_evicted y) o false) rests

-- ---- while nobody else moves

abbrev IsOwnCall : Fixed → ℕ → State → Doing → Type 0
IsOwnCall f node s d = (s.fixed ≡ f) × SoundCall s node (Some d) × HandsFit (IsOfNode f node) s d

-- a loan empties ways from a port of the node
own_clear : (f : Fixed) (node : ℕ) (s : State) (d : Doing) → IsOwnCall f node s d → IsClear s d
own_clear f node s (Loaning copies h left) p =
    λ y e. p.2 y (subst (λ g. IsPortOf g node y.sender) p.0 (from_own s.fixed node h.port y p.1.1.0.1 (p.1.1.1 y e)))
own_clear f node s d p = tt

own_lasts : (f : Fixed) (node : ℕ) → AreDistinctPorts f → IsLasting node (IsOwnCall f node)
own_lasts f node distinct = record {
  clear = own_clear f node;
  moves = λ s d m p holds c. (
    moved-fixed s m ∙ p.0,
    moved_sound s node d m (subst AreDistinctPorts (sym p.0) distinct) p.1 holds c,
    hands_moved (IsOfNode f node) s node d m p.2 c,
  );
}

own_begins : (w : World) (node : ℕ) (call : Call) → IsReachable w → w.doing node ≡ None → misnamed w.state.fixed node call ≡ None
    → (c : Choice) → IsOwnCall w.state.fixed node w.state (start w.state node c call)
own_begins w node call reach rests named c =
    let s : State = w.state in
    let d : Doing = start s node c call in
    let sound : Sound w = reachable_sound w reach in
    let within : IsWithin s node None = subst (λ o. IsWithin s node (last_of o)) rests (sound.calls node).0 in (
      refl,
      (within_any s node (last_of (Some d)) within, call_fits s node c call sound.distinct (sound.own node) within named),
      hands_any (IsOfNode s.fixed node) s d (none_at_rest w node reach rests),
    )

-- ---- the reply

-- a wire chooses no want of memory
has_memory : (memory wire : Bool) → wire ≡ true → (memory || not wire) ≡ true → memory ≡ true
has_memory true wire e may = refl
has_memory false wire e may = absurd (true≢false (sym may ∙ ap not e))

wire_answer : (w : World) (t : State) (node : ℕ) (call : Call) (a : Reply) → IsReachable w → w.doing node ≡ None
    → misnamed w.state.fixed node call ≡ None → IsDone w.state node call a t → a ≡ answer w.state node call
wire_answer w t node call a reach rests named done =
    let sound : Sound w = reachable_sound w reach in
    with_memory call (done.0).memory a (answer w.state node call)
    (has_memory (done.0).memory w.state.fixed.on_wire sound.on_wire done.1.0)
    (done_told (IsOwnCall w.state.fixed node) w.state t node call a (own_lasts w.state.fixed node sound.distinct)
    (own_begins w node call reach rests named) named done)

pub wire_calls_have_one_reply : WireCallsHaveOneReply
wire_calls_have_one_reply w t u node call a b reach rests named one other =
    wire_answer w t node call a reach rests named one ∙ sym (wire_answer w u node call b reach rests named other)
