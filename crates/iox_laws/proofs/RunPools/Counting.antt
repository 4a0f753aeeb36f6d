-- In each state that is reached handles suit their ports and their counts keep to the limits, and so do
-- the ports; and nobody forgot anybody.
use Rattle.std.specs.Prelude.{◌≡◌, ℕ, ◌≤◌, Bool, true, false, ◌&&◌, if◌then◌else◌, ◌==◌, List, [], ◌∷◌, ◌++◌, Option, Some, None, ⊤, refl}
use Rattle.std.specs.Option.{option_map_or}
use Rattle.std.proofs.Common.{sym, subst, ap, ◌∙◌, arith}
use Rattle.iox_model.specs.UniqueSystemId.{UniqueSystemId}
use Rattle.iox_model.specs.declared.kind.Role.{Role}
use Rattle.iox_model.specs.declared.kind.Role.TheVariants.{Client}
use Rattle.iox_model.specs.Begins.{start}
use Rattle.iox_model.specs.Commands.{Call, Options}
use Rattle.iox_model.specs.Counts.{sent_handle}
use Rattle.iox_model.specs.Doings.{Outcome, Tells, Loans, Fills, Sends, FailsToSend, Receives, Drops, DropsPort, Forgets, Doing, Loaning}
use Rattle.iox_model.specs.Ends.{settled}
use Rattle.iox_model.specs.Handles.{is_request_loan, is_received}
use Rattle.iox_model.specs.Loans.{Choice}
use Rattle.iox_model.specs.Makings.{making_refusal, new_port, with_port}
use Rattle.iox_model.specs.Maps.{has_number, put_at}
use Rattle.iox_model.specs.Moments.{Holds, moved, Moment, SeesNoneBack}
use Rattle.iox_model.specs.Names.{is_port, misnamed}
use Rattle.iox_model.specs.Settings.{is_client, Limits}
use Rattle.iox_model.specs.States.{Port, Handle, Fixed, State}
use Rattle.iox_model.specs.Transitions.{next, ends}
use Rattle.iox_model.specs.Values.{filled_as}
use Rattle.iox_model.specs.WholeCalls.{moved_by, left_by, MayCome}
use Rattle.iox_laws.proofs.WeaveLaws.MapLemmas.{either}
use Rattle.iox_laws.proofs.WeaveLaws.WholeLemmas.{moved-fixed}
use Rattle.iox_laws.proofs.WeaveWorlds.Sound.{SoundDoing}
use Rattle.iox_laws.proofs.WeaveLedger.Counts.{count}
use Rattle.iox_laws.proofs.WeaveLedger.Lists.{IsAmong}
use Rattle.iox_laws.proofs.WeaveLedger.Views.{View, view, role_in, plus, counted, swapped, less, after_call}
use Rattle.iox_laws.proofs.WeavePools.Limited.{IsWithin, created-within, room-for, within-made, settled_keeps}
use Rattle.iox_laws.proofs.WeavePools.Spare.{is_of_client, is_pending, counts, FitsKinds, SpareOutcome, SpareDoing, after-kinds}
use Rattle.iox_laws.proofs.WeavePools.SpareMoves.{DryIf, LoanIsAt, next-spare, ends-spare}
use Rattle.iox_laws.proofs.WeavePools.SpareStarts.{HasOwnHandles, start-spare}
use Rattle.iox_laws.proofs.RunLaws.Calls.{own_ports}
use Rattle.iox_laws.proofs.RunLaws.Ports.{first_more}
use Rattle.iox_laws.proofs.RunLaws.Rests.{Rests}
use Rattle.iox_laws.proofs.RunLaws.Settling.{Calm}
use Rattle.iox_laws.proofs.RunLedger.Fillings.{fills}
use Rattle.iox_laws.proofs.RunPools.Inductions.{IsKeptCalm}
use Rattle.iox_laws.proofs.RunPools.Goings.{Any, any_onward, Going, going_start, going_next, going_fills}
use Rattle.iox_laws.proofs.RunPools.Parts.{Leaves, settled_leaves, role_was}
use Rattle.iox_laws.proofs.RunPools.Handles.{hub_view, end_fits, settled_handles}
use Rattle.iox_laws.proofs.RunPools.Ends.{Ending, ending}

pub record Kinds (f : Fixed) : Type 0 where
  pub kinds : (n : ℕ) → FitsKinds (view f n)
  pub within : IsWithin f
  pub forgot : (n : ℕ) → f.forgot n ≡ []

-- nobody may be forgotten
abbrev pub NoOne : ℕ → Type 0
NoOne d = ⊥

-- ---- a call under way

pub own_handles : (s : State) (n : ℕ) → Rests s.fixed → HasOwnHandles s n
own_handles s n rests h among = ((rests.handles n).each h among).of_port.1

pub loan_at : (s : State) (n : ℕ) (d : Doing) → SoundDoing s n d → LoanIsAt s.fixed n d
loan_at s n (Loaning copies h left) p = ((p.0).1).1
loan_at s n d p = tt

-- where pools may refuse
may_be_dry : (s : State) (d : Doing) (m : Moment) → DryIf s ⊤ d m
may_be_dry s (Loaning copies h left) (SeesNoneBack w) = λ none dry. tt
may_be_dry s d m = tt

record Spares (s : State) (n : ℕ) (d : Doing) : Type 0 where
  pub going : Going Any s n d
  pub kinds : Kinds s.fixed
  pub spare : SpareDoing (view s.fixed n) NoOne ⊤ d

start_spares : (s : State) (n : ℕ) (c : Choice) (call : Call) → Calm s → misnamed s.fixed n call ≡ None → Kinds s.fixed → Spares s n (start s n c call)
start_spares s n c call calm named k = record {
  going = going_start Any s n c call calm (λ h. tt) named;
  kinds = k;
  spare = start-spare s n NoOne (λ q. ⊤) ⊤ c call (λ h loan may none dry. tt) (λ x is. tt) (own_handles s n (calm.rests).fixed) (k.kinds n) named;
}

next_spares : (s : State) (n : ℕ) (d : Doing) (m : Moment) → Holds s m → (next s n d m).condition → Spares s n d → Spares (moved s m) n (next s n d m).after
next_spares s n d m holds c p = record {
  going = going_next Any Any s n d m p.going (any_onward d m) holds c;
  kinds = subst Kinds (sym (moved-fixed s m)) p.kinds;
  spare = subst (λ (f : Fixed). SpareDoing (view f n) NoOne ⊤ (next s n d m).after) (sym (moved-fixed s m))
      (next-spare s n NoOne ⊤ d m (may_be_dry s d m) (loan_at s n d (((p.going).goes).call).1) c p.spare);
}

moments_spare : (s : State) (n : ℕ) (d : Doing) (ms : List Moment) → MayCome s n d ms → Spares s n d → Spares (moved_by s ms) n (left_by s n d ms)
moments_spare s n d [] may p = p
moments_spare s n d (m ∷ ms) may p = moments_spare (moved s m) n (next s n d m).after ms may.2 (next_spares s n d m may.0 may.1 p)

-- ---- its end

-- ports and limits stay in the view
after_same : (v : View) (n : ℕ) (payload : List ℕ) (o : Outcome) → ((after_call v n payload o).ports ≡ v.ports) × ((after_call v n payload o).limits ≡ v.limits)
after_same v n payload (Tells reply) = (refl, refl)
after_same v n payload (Loans h) = (refl, refl)
after_same v n payload (Fills h) = (refl, refl)
after_same v n payload (Sends h true count) =
    either (λ (u : View). (u.ports ≡ v.ports) × (u.limits ≡ v.limits)) (is_request_loan h.kind) (plus (counted v) (sent_handle h count)) v
    (λ u. (refl, refl)) (λ u. (refl, refl))
after_same v n payload (Sends h false count) =
    either (λ (u : View). (u.ports ≡ v.ports) × (u.limits ≡ v.limits)) (is_request_loan h.kind) (swapped v (sent_handle h count)) (less v h)
    (λ u. (refl, refl)) (λ u. (refl, refl))
after_same v n payload (FailsToSend h true refusal) = (refl, refl)
after_same v n payload (FailsToSend h false refusal) = (refl, refl)
after_same v n payload (Receives x w m) = (refl, refl)
after_same v n payload (Drops h) =
    either (λ (u : View). (u.ports ≡ v.ports) × (u.limits ≡ v.limits)) (is_received h.kind) _ (less v h) (λ u. (refl, refl)) (λ u. (refl, refl))
after_same v n payload (DropsPort port) = (refl, refl)
after_same v n payload (Forgets dead) =
    either (λ (u : View). (u.ports ≡ v.ports) × (u.limits ≡ v.limits)) (has_number dead v.forgot) v (record v {
      forgot =
          v.forgot ++ dead ∷ [];
    }) (λ u. (refl, refl)) (λ u. (refl, refl))

-- the same handles at ports of the same roles
kinds_from : (v w : View) → w.handles ≡ v.handles → w.limits ≡ v.limits → ((h : Handle) → IsAmong h w.handles → role_in w.ports h.port ≡ role_in v.ports h.port)
    → FitsKinds v → FitsKinds w
kinds_from v w handles limits role k = record {
  suits = λ h a.
      let p : (is_port h.kind ≡ false) × (is_of_client h.kind ≡ is_client (role_in v.ports h.port)) = k.suits h (subst (IsAmong h) handles a) in
      (p.0, p.1 ∙ sym (ap (λ r. is_client r) (role h a)));
  pending = λ port.
      subst (λ (l : Limits). counts w port is_pending ≤ l.active_requests) (sym limits)
      (subst (λ (hs : List Handle). count (λ h. (h.port == port) && is_pending h.kind) hs ≤ v.limits.active_requests) (sym handles) (k.pending port));
}

-- what a call ends with is the same for its node as on a wire
hub_spare : (f : Fixed) (n : ℕ) (out : Type 0) (o : Outcome) → SpareOutcome (view f n) NoOne out o → SpareOutcome (hub_view f n) NoOne out o
hub_spare f n out (Tells reply) p = p
hub_spare f n out (Sends h copied count) p = p
hub_spare f n out (FailsToSend h copied refusal) p = p
hub_spare f n out (Receives x w m) p = p
hub_spare f n out (Forgets dead) p = p
hub_spare f n out o p = tt

end_kinds : (s : State) (n : ℕ) (d : Doing) (payload : List ℕ) (o : Outcome) → ends s d ≡ Some o → Rests (settled s n payload o).fixed → Spares s n d
    → Kinds (settled s n payload o).fixed
end_kinds s n d payload o ended rests p = record {
  kinds = λ k. by_case k (k == n) refl;
  within = settled_keeps s n payload o (p.kinds).within;
  forgot = λ k. leaves.forgot k ∙ (p.kinds).forgot k;
}
  where
    t : State
    t = settled s n payload o

    e : Ending s n o
    e = ending Any s n d o p.going ended

    leaves : Leaves s t
    leaves = settled_leaves s n payload o (e.rests).hub e.stands

    role : (k : ℕ) (h : Handle) → IsAmong h (t.fixed.handles k) → role_in t.fixed.ports h.port ≡ role_in s.fixed.ports h.port
    role k h a = role_was s.fixed.ports t.fixed.ports h.port (own_ports s.fixed e.rests) leaves.ports ((rests.handles k).each h a).of_port.0

    handles : (k : ℕ) → t.fixed.handles k ≡ put_at s.fixed.handles n (after_call (hub_view s.fixed n) n payload o).handles k
    handles k = settled_handles s n payload o k e.rests e.fits e.stands

    after : FitsKinds (after_call (hub_view s.fixed n) n payload o)
    after =
        after-kinds (hub_view s.fixed n) NoOne ⊤ n payload o (e.rests.handles n).apart (end_fits s.fixed n o e.fits e.holds e.stands)
        (hub_spare s.fixed n ⊤ o (ends-spare s (view s.fixed n) NoOne ⊤ d o p.spare ended)) (hub_kinds ((p.kinds).kinds n))
      where
        hub_kinds : FitsKinds (view s.fixed n) → FitsKinds (hub_view s.fixed n)
        hub_kinds q = record { suits = q.suits; pending = q.pending }

    by_case : (k : ℕ) (b : Bool) → (k == n) ≡ b → FitsKinds (view t.fixed k)
    by_case k true at =
        kinds_from (after_call (hub_view s.fixed n) n payload o) (view t.fixed k)
        (handles k ∙ ap (λ b. if b then (after_call (hub_view s.fixed n) n payload o).handles else s.fixed.handles k) at)
        (leaves.limits ∙ sym (after_same (hub_view s.fixed n) n payload o).1)
        (λ h a. role k h a ∙ ap (λ ps. role_in ps h.port) (sym (after_same (hub_view s.fixed n) n payload o).0)) after
    by_case k false at =
        kinds_from (view s.fixed k) (view t.fixed k)
        (handles k ∙ ap (λ b. if b then (after_call (hub_view s.fixed n) n payload o).handles else s.fixed.handles k) at)
        leaves.limits (role k) ((p.kinds).kinds k)

-- ---- over runs

made_kinds : (s : State) (node : ℕ) (role : Role) (id : UniqueSystemId) (o : Options) (memory : Bool) → Rests s.fixed
    → making_refusal s.fixed role o memory ≡ None
    → Kinds s.fixed → Kinds (with_port s.fixed (new_port s.fixed node role id o))
made_kinds s node role id o memory rests allowed k = record {
  kinds = λ n. kinds_from (view s.fixed n) (view (with_port s.fixed p) n) refl refl
      (λ h a. ap (λ (o : Option Port). option_map_or (λ q. q.role) o Client) (first_more h.port s.fixed.ports p ((rests.handles n).each h a).of_port.0))
      (k.kinds n);
  within = within-made s.fixed node role id o (room-for s.fixed role o memory allowed) k.within;
  forgot = k.forgot;
}
  where
    p : Port
    p = new_port s.fixed node role id o

abbrev pub KindsOf : State → Type 0
KindsOf s = Kinds s.fixed

pub kinds_kept : IsKeptCalm KindsOf
kinds_kept = record {
  first = λ l acts id. record {
    kinds = λ n. record { suits = λ h a. absurd a; pending = λ port. none _ };
    within = created-within l;
    forgot = λ n. refl;
  };
  nodes = λ s x k. k;
  makes = λ s node role id o memory calm allowed k. made_kinds s node role id o memory (calm.rests).fixed allowed k;
  calls = λ s node call reply t calm after named d k.
      subst KindsOf (sym d.9) (end_kinds (moved_by s d.2) node (left_by s node (start s node d.0 call) d.2) d.6 d.4 d.5
      (subst (λ (u : State). Rests u.fixed) d.9 (after.rests).fixed)
      (moments_spare s node (start s node d.0 call) d.2 d.3 (start_spares s node d.0 call calm named k)));
  fills = λ s node number h x calm after there may k.
      end_kinds s node (fills h x) [] (Fills (filled_as h x)) refl (after.rests).fixed
      (record { going = going_fills s node number h x calm there may; kinds = k; spare = tt });
}
  where
    none : (k : ℕ) → 0 ≤ k
    none k = omega arith
