-- The dead stay dead, and do nothing.
use Rattle.std.specs.Prelude.{◌≡◌, ℕ, Bool, true, false, not, ◌&&◌, if◌then◌else◌, ◌==◌, List, [], ◌∷◌, map, Option, Some, None, find, refl}
use Rattle.std.specs.List.{list_all}
use Rattle.std.specs.Option.{option_map_or}
use Rattle.std.proofs.Common.{sym, subst, ap, ◌∙◌, eqb-true}
use Rattle.iox_model.specs.declared.reply.Refusal.TheVariants.{UnknownNode, NodeIsDead}
use Rattle.iox_model.specs.Expiries.{disconnected, is_last_gone, released}
use Rattle.iox_model.specs.Forgetting.{has_forgotten, forgets}
use Rattle.iox_model.specs.Doings.{Outcome, Tells, Loans, Fills, Sends, FailsToSend, Receives, Drops, DropsPort, Forgets}
use Rattle.iox_model.specs.Weaves.{IsBeat, IsWeave, World, Beat, Begins, Makes, Ends, Dies}
use Rattle.iox_model.specs.States.{Node, Handle, State}
use Rattle.iox_model.specs.Handles.{is_request_loan}
use Rattle.iox_model.specs.Maps.{refused_if}
use Rattle.iox_model.specs.Ends.{after_send, is_nothing, port_dropped, settled}
use Rattle.iox_model.specs.Joins.{not_living}
use Rattle.iox_model.specs.Services.{dies}
use Rattle.iox_model.specs.Counts.{changed, dropped, called, gives_up, with_fixed, sent_handle}
use Rattle.iox_laws.specs.WeaveLaws.Laws.{node_of_beat, OnlyTheLivingAct, TheDeadStayDead}
use Rattle.iox_model.specs.Commands.{Refusal}
use Rattle.iox_laws.proofs.WeaveLaws.MapLemmas.{either}
use Rattle.iox_laws.proofs.WeaveLaws.WholeLemmas.{moved-members, not_living-members, or_else-none}

pub only_the_living_act : OnlyTheLivingAct
only_the_living_act w v (Begins node call c) beat = (or_else-none _ _ beat.0).0
only_the_living_act w v (Makes node m) beat = beat.0
only_the_living_act w v (Ends node reply payload) beat = beat.0
only_the_living_act w v (Dies node) beat = beat.0

abbrev pub IsGone : Option Refusal → Type 0
IsGone None = ⊥
IsGone (Some r) = Unit {0}

-- ---- the end of a call changes no node

released-members : (s : State) (port : ℕ) → (released s port).members ≡ s.members
released-members s port =
    either (λ (t : State). t.members ≡ s.members) (is_last_gone s.fixed port) (disconnected s port) s (λ u. refl) (λ u. refl)

after_send-members : (s : State) (h : Handle) (copied : Bool) (count : ℕ) → (after_send s h copied count).members ≡ s.members
after_send-members s h true count = refl
after_send-members s h false count =
    either (λ (t : State). t.members ≡ s.members) (is_request_loan h.kind) (with_fixed s (changed s.fixed (sent_handle h count)))
    (released (with_fixed s (dropped s.fixed h)) h.port) (λ u. refl) (λ u. released-members (with_fixed s (dropped s.fixed h)) h.port)

pub settled-members : (s : State) (node : ℕ) (payload : List ℕ) (o : Outcome) → (settled s node payload o).members ≡ s.members
settled-members s node payload (Tells reply) =
    either (λ (t : State). t.members ≡ s.members) (is_nothing reply) (with_fixed s (called s.fixed)) s (λ u. refl) (λ u. refl)
settled-members s node payload (Loans h) = refl
settled-members s node payload (Fills h) = refl
settled-members s node payload (Sends h copied count) = after_send-members s h copied count
settled-members s node payload (FailsToSend h true refusal) = refl
settled-members s node payload (FailsToSend h false refusal) = released-members (with_fixed s (dropped s.fixed h)) h.port
settled-members s node payload (Receives x w m) = refl
settled-members s node payload (Drops h) = released-members (with_fixed s (gives_up (dropped s.fixed h) h)) h.port
settled-members s node payload (DropsPort port) =
    released-members (with_fixed s (record (s.fixed) { ports = map (port_dropped port) s.fixed.ports })) port
settled-members s node payload (Forgets dead) =
    either (λ (t : State). t.members ≡ s.members) (has_forgotten s.fixed node dead) s (forgets s node dead) (λ u. refl) (λ u. refl)

-- ---- a death lets nobody live again

abbrev pub of_node : Node → Option Refusal
of_node m = refused_if (not m.alive) NodeIsDead

abbrev pub found : Option Node → Option Refusal
found o = option_map_or of_node o (Some UnknownNode)

abbrev pub living_in : List Node → ℕ → Option Refusal
living_in ms node = found (find (λ m. m.number == node) ms)

of_first : (b : Bool) (m : Node) (o : Option Node) → found (if b then Some m else o) ≡ (if b then of_node m else found o)
of_first true m o = refl
of_first false m o = refl

dies-number : (n : ℕ) (m : Node) → (dies n m).number ≡ m.number
dies-number n m = either (λ (x : Node). x.number ≡ m.number) (m.number == n) (record m { alive = false }) m (λ u. refl) (λ u. refl)

dies-gone : (n : ℕ) (m : Node) → IsGone (of_node m) → IsGone (of_node (dies n m))
dies-gone n m p =
    either (λ (x : Node). IsGone (of_node x)) (m.number == n) (record m { alive = false }) m (λ u. tt) (λ u. p)

pub stays_gone : (n node : ℕ) (ms : List Node) → IsGone (living_in ms node) → IsGone (living_in (map (dies n) ms) node)
stays_gone n node [] p = tt
stays_gone n node (m ∷ ms) p =
    subst IsGone (sym (of_first ((dies n m).number == node) (dies n m) (find (λ x. x.number == node) (map (dies n) ms))))
    (subst (λ k. IsGone (if k == node then of_node (dies n m) else living_in (map (dies n) ms) node)) (sym (dies-number n m))
    (by_case (m.number == node) (subst IsGone (of_first (m.number == node) m (find (λ x. x.number == node) ms)) p)
    (λ q. stays_gone n node ms q)))
  where
    by_case : (b : Bool) → IsGone (if b then of_node m else living_in ms node)
        → (IsGone (living_in ms node) → IsGone (living_in (map (dies n) ms) node))
        → IsGone (if b then of_node (dies n m) else living_in (map (dies n) ms) node)
    by_case true q f = dies-gone n m q
    by_case false q f = f q

same_gone : (s t : State) (node : ℕ) → t.members ≡ s.members → IsGone (not_living s node) → IsGone (not_living t node)
same_gone s t node e p = subst IsGone (not_living-members s t node (sym e)) p

beat-gone : (w v : World) (b : Beat) (node : ℕ) → IsBeat w b v → IsGone (not_living w.state node) → IsGone (not_living v.state node)
beat-gone w v (Begins n call c) node beat p = same_gone w.state v.state node (ap (λ (u : World). u.state.members) beat.2) p
beat-gone w v (Makes n m) node beat p =
    same_gone w.state v.state node (ap (λ (u : World). u.state.members) beat.5 ∙ moved-members w.state m) p
beat-gone w v (Ends n reply payload) node beat p =
    same_gone w.state v.state node (ap (λ (u : World). u.state.members) beat.7 ∙ settled-members w.state n payload beat.3) p
beat-gone w v (Dies n) node beat p =
    subst (λ (u : World). IsGone (not_living u.state node)) (sym beat.1) (stays_gone n node w.state.members.nodes p)

-- ---- so a dead node makes no beat

other_node : (w v : World) (b : Beat) (node : ℕ) (x : Bool) → (node_of_beat b == node) ≡ x → IsBeat w b v → IsGone (not_living w.state node) → not x ≡ true
other_node w v b node true e beat p =
    absurd (subst IsGone (subst (λ n. not_living w.state n ≡ None) (eqb-true (node_of_beat b) node e) (only_the_living_act w v b beat)) p)
other_node w v b node false e beat p = refl

never_again : (w v : World) (bs : List Beat) (node : ℕ) → IsWeave w bs v → IsGone (not_living w.state node)
    → list_all (λ b. not (node_of_beat b == node)) bs ≡ true
never_again w v [] node weave p = refl
never_again w v (b ∷ bs) node weave p =
    ap (λ x. x && list_all (λ b. not (node_of_beat b == node)) bs) (other_node w weave.0 b node (node_of_beat b == node) refl weave.1 p)
    ∙ never_again weave.0 v bs node weave.2 (beat-gone w weave.0 b node weave.1 p)

pub the_dead_stay_dead : TheDeadStayDead
the_dead_stay_dead w v bs node r weave dead = never_again w v bs node weave (subst IsGone (sym dead) tt)
