-- Where no pool of a hub was reduced, no step makes it so, and each is answered otherwise.
use Rattle.std.specs.Prelude.{◌≡◌, ℕ, ◌≤◌, Bool, true, false, if◌then◌else◌, ◌==◌, List, [], ◌∷◌, ◌++◌, max, min, All, Option, Some, None, refl}
use Rattle.std.specs.Option.{option_map_or}
use Rattle.std.proofs.Common.{sym, subst, ap, ◌∙◌, arith, inl, inr}
use Rattle.std.proofs.lemmas.List.Elements.{All-nil, All-cons, All-head, All-tail}
use Rattle.iox_model.specs.UniqueSystemId.{UniqueSystemId}
use Rattle.iox_model.specs.declared.call.Call.TheVariants.{Release}
use Rattle.iox_model.specs.declared.command.Command.TheVariants as commands
use Rattle.iox_model.specs.declared.command.Command.TheVariants.{Leave, DeclareDead, Cleanup, ListNodes, ListClients, ListServers}
use Rattle.iox_model.specs.declared.kind.Role.{Role}
use Rattle.iox_model.specs.declared.kind.Role.TheVariants.{Client, Server}
use Rattle.iox_model.specs.declared.reply.Refusal.TheVariants.{OutOfMemory}
use Rattle.iox_model.specs.declared.reply.Reply.TheVariants.{Done, Refused}
use Rattle.iox_model.specs.Begins.{start}
use Rattle.iox_model.specs.Commands.{Reply, Call, Options, HubCommand, Create, Use, Command, asking}
use Rattle.iox_model.specs.Ends.{settled}
use Rattle.iox_model.specs.Joins.{not_living, not_dead, opening_refusal, with_members, joined}
use Rattle.iox_model.specs.Makings.{pool_of_client, pool_of_server, worst_pool, making_refusal, new_port, with_port, IsHubCommand}
use Rattle.iox_model.specs.Names.{misnamed}
use Rattle.iox_model.specs.Runs.{ServiceStep, OfService, OfHub, OfLoan, OfValue, IsServiceStep, IsReachableState}
use Rattle.iox_model.specs.Services.{without_node, with_death, leaving_refusal, numbers_of_node, with_own_id, Releases, IsCommand}
use Rattle.iox_model.specs.Settings.{is_client, Limits}
use Rattle.iox_model.specs.States.{Members, Port, Fixed, State}
use Rattle.iox_model.specs.Values.{still_has, IsReleaseWhere}
use Rattle.iox_model.specs.WholeCalls.{moved_by, left_by, IsDone, IsWholeCall}
use Rattle.iox_laws.proofs.WeaveLaws.WholeLemmas.{moved_by-fixed}
use Rattle.iox_laws.proofs.WeaveLedger.Lists.{IsAmong, among-last, find-among, find-own}
use Rattle.iox_laws.proofs.WeaveLedger.Phases.{HasOwnPorts}
use Rattle.iox_laws.specs.WeavePools.PoolLaws.{needed_by, IsUnreduced}
use Rattle.iox_laws.proofs.WeavePools.Spare.{TellsIf}
use Rattle.iox_laws.proofs.RunLaws.Calls.{own_ports}
use Rattle.iox_laws.proofs.RunLaws.Runs.{whole_calm, left_calm}
use Rattle.iox_laws.proofs.RunLaws.Settling.{Calm}
use Rattle.iox_laws.specs.RunPools.Finding.{IsUnreducedHub, ChoosesEnough, ChoosesEnoughIn, RunsOut, NoHistoryRunsOut}
use Rattle.iox_laws.proofs.RunPools.Goings.{Any, going_start, goings}
use Rattle.iox_laws.proofs.RunPools.Parts.{SamePort, Were, were_same, Leaves, settled_leaves}
use Rattle.iox_laws.proofs.RunPools.Ends.{Ending, ending}
use Rattle.iox_laws.proofs.RunPools.Refusals.{unless_out, living_other, dead_other, leaving_other, opening_other}
use Rattle.iox_laws.proofs.RunPools.Finds.{IsLedgered, no_port_command_runs_out, no_command_runs_out}
use Rattle.iox_laws.proofs.WeaveWorlds.Inductions.{unless_done, unless_keeps, step_is_reached}

-- ---- ports that stay

-- the ports and limits that a command leaves are old ones
record Stays (f g : Fixed) : Type 0 where
  pub ports : Were f.ports g.ports
  pub limits : g.limits ≡ f.limits

done_stays : (s : State) (n : ℕ) (call : Call) (reply : Reply) (t : State) → Calm s → misnamed s.fixed n call ≡ None → IsDone s n call reply t
    → Stays s.fixed t.fixed
done_stays s n call reply t calm named d = subst (λ (x : State). Stays s.fixed x.fixed) (sym d.9) (old (moved_by-fixed s d.2))
  where
    u : State
    u = moved_by s d.2

    e : Ending u n d.4
    e = ending Any u n (left_by s n (start s n d.0 call) d.2) d.4
        (goings s n (start s n d.0 call) d.2 d.3 (going_start Any s n d.0 call calm (λ h. tt) named)) d.5

    leaves : Leaves u (settled u n d.6 d.4)
    leaves = settled_leaves u n d.6 d.4 (e.rests).hub e.stands

    old : u.fixed ≡ s.fixed → Stays s.fixed (settled u n d.6 d.4).fixed
    old same = record {
      ports = subst (λ (f : Fixed). Were f.ports (settled u n d.6 d.4).fixed.ports) same leaves.ports;
      limits = leaves.limits ∙ ap (λ (f : Fixed). f.limits) same;
    }

whole_stays : (s : State) (n : ℕ) (call : Call) (reply : Reply) (t : State) → Calm s → IsWholeCall s n call reply t → Stays s.fixed t.fixed
whole_stays s n call reply t calm =
    unless_done (λ (x : State). Stays s.fixed x.fixed) s n call reply t
    (record { ports = were_same s.fixed.ports s.fixed.ports refl; limits = refl }) (done_stays s n call reply t calm)

-- ---- pools that stay unreduced

-- the same port needs as much
needed_same : (l : Limits) (p q : Port) → SamePort p q → needed_by l q ≡ needed_by l p
needed_same l p q same =
    ap (λ (r : Role). if is_client r then pool_of_client l else pool_of_server l q.loaned_responses) same.role
    ∙ ap (λ n. if is_client p.role then pool_of_client l else pool_of_server l n) same.loaned

among_unreduced : (f : Fixed) (p : Port) → HasOwnPorts f → IsUnreducedHub f → IsAmong p f.ports → IsUnreduced f p
among_unreduced f p own all a = all p (find-own (λ (p : Port). p.number) f.ports p own a)

stays_unreduced : (f g : Fixed) → HasOwnPorts f → Stays f g → IsUnreducedHub f → IsUnreducedHub g
stays_unreduced f g own stays all q is =
    old (stays.ports q (find-among (λ (x : Port). x.number == q.number) q g.ports is).0)
  where
    old : (p : Port) × IsAmong p f.ports × SamePort p q → IsUnreduced g q
    old p =
        subst (λ l. needed_by l q ≤ q.pool) (sym stays.limits)
        (subst (λ n. n ≤ q.pool) (sym (needed_same f.limits p.0 q p.2))
        (subst (λ n. needed_by f.limits p.0 ≤ n) (sym (p.2).pool) (among_unreduced f p.0 own all p.1)))

-- a port that is made has what it needs
enough : (worst : ℕ) (pool : Option ℕ) → ((n : ℕ) → pool ≡ Some n → worst ≤ n) → worst ≤ option_map_or (λ n. max 1 (min n worst)) pool worst
enough worst None each = omega arith
enough worst (Some n) each = clamped n worst (each n refl)
  where
    clamped : (n worst : ℕ) → worst ≤ n → worst ≤ max 1 (min n worst)
    clamped n worst e = omega arith

made_enough : (f : Fixed) (n : ℕ) (role : Role) (id : UniqueSystemId) (o : Options) → ((k : ℕ) → o.pool ≡ Some k → worst_pool f.limits role o ≤ k)
    → IsUnreduced f (new_port f n role id o)
made_enough f n Client id o each = enough (worst_pool f.limits Client o) o.pool each
made_enough f n Server id o each = enough (worst_pool f.limits Server o) o.pool each

made_unreduced : (f : Fixed) (n : ℕ) (role : Role) (id : UniqueSystemId) (o : Options) → HasOwnPorts f
    → ((k : ℕ) → o.pool ≡ Some k → worst_pool f.limits role o ≤ k)
    → IsUnreducedHub f → IsUnreducedHub (with_port f (new_port f n role id o))
made_unreduced f n role id o own each all q is =
    elim (among-last q (new_port f n role id o) f.ports (find-among (λ (x : Port). x.number == q.number) q (f.ports ++ new_port f n role id o ∷ []) is).0)
    as (λ u. needed_by f.limits q ≤ q.pool) [
      | inl a ↦ among_unreduced f q own all a
      | inr e ↦ subst (λ (p : Port). needed_by f.limits p ≤ p.pool) (sym e) (made_enough f n role id o each)
    ]

-- ---- what is asked of a hub

-- what one step leaves
record Goes (s t : State) : Type 0 where
  pub limits : t.fixed.limits ≡ s.fixed.limits
  pub unreduced : IsUnreducedHub t.fixed

goes_none : (s : State) → IsUnreducedHub s.fixed → Goes s s
goes_none s all = record { limits = refl; unreduced = all }

goes_after : (s t u : State) → Goes s t → Goes t u → Goes s u
goes_after s t u p q = record { limits = q.limits ∙ p.limits; unreduced = q.unreduced }

call_goes : (s : State) (n : ℕ) (call : Call) (reply : Reply) (t : State) → Calm s → IsUnreducedHub s.fixed → IsWholeCall s n call reply t → Goes s t
call_goes s n call reply t calm all c =
    let stays : Stays s.fixed t.fixed = whole_stays s n call reply t calm c in
    record { limits = stays.limits; unreduced = stays_unreduced s.fixed t.fixed (own_ports s.fixed (calm.rests).fixed) stays all }

command_goes : (s : State) (n : ℕ) (c : HubCommand) (reply : Reply) (t : State) → Calm s → IsUnreducedHub s.fixed → ChoosesEnough s.fixed.limits c
    → IsHubCommand s n c reply t
    → Goes s t
command_goes s n (Create role id o) reply t calm all each c =
    unless_keeps (Goes s) (making_refusal s.fixed role o c.0) s reply t _ (goes_none s all)
    (λ u made. subst (Goes s) (sym made.1) (record {
      limits = refl;
      unreduced = made_unreduced s.fixed n role id o (own_ports s.fixed (calm.rests).fixed) each all;
    })) c.1
command_goes s n (Use call) reply t calm all each c = call_goes s n call reply t calm all c

-- ---- what is asked of a service

-- what a node chooses is what it chooses with its own id
own_enough : (s : State) (n : ℕ) (c : HubCommand) → ChoosesEnough s.fixed.limits c → ChoosesEnough s.fixed.limits (with_own_id s n c)
own_enough s n (Create role id o) each = each
own_enough s n (Use call) each = each

releases_go : (s : State) (n : ℕ) (ks : List ℕ) (t : State) → Calm s → IsUnreducedHub s.fixed → Releases s n ks t → Goes s t
releases_go s n [] t calm all r = subst (Goes s) (sym r) (goes_none s all)
releases_go s n (k ∷ ks) t calm all r =
    let first : Goes s r.0 = call_goes s n (Release k) Done r.0 calm all r.1 in
    goes_after s r.0 t first (releases_go r.0 n ks t (whole_calm s n (Release k) Done r.0 calm r.1) first.unreduced r.2)

-- only nodes change
members_go : (s t : State) (x : Members) → IsUnreducedHub s.fixed → t ≡ with_members s x → Goes s t
members_go s t x all e = subst (Goes s) (sym e) (record { limits = refl; unreduced = all })

service_goes : (s : State) (c : Command) (reply : Reply) (t : State) → Calm s → IsUnreducedHub s.fixed
    → ChoosesEnoughIn s.fixed.limits (OfService c reply) → IsCommand s c reply t → Goes s t
service_goes s (commands.Join id asked) reply t calm all each c =
    unless_keeps (Goes s) (opening_refusal s id asked c.0) s reply t _ (goes_none s all) (λ u done. members_go s t (joined s.members id) all done.1) c.1
service_goes s (commands.Port c) reply t calm all each x =
    let n : ℕ = (asking c).0 in
    unless_keeps (Goes s) (not_living s n) s reply t _ (goes_none s all)
    (λ u. command_goes s n (with_own_id s n (asking c).1) reply t calm all (own_enough s n (asking c).1 each)) x
service_goes s (Leave n) reply t calm all each c =
    unless_keeps (Goes s) (leaving_refusal s n) s reply t _ (goes_none s all) (λ u done. members_go s t (without_node s n).members all done.1) c
service_goes s (DeclareDead n) reply t calm all each c =
    unless_keeps (Goes s) (not_living s n) s reply t _ (goes_none s all) (λ u done. members_go s t (with_death s n).members all done.1) c
service_goes s (Cleanup n) reply t calm all each c =
    unless_keeps (Goes s) (not_dead s n) s reply t _ (goes_none s all)
    (λ u done.
    let gone : Goes s done.0 = releases_go s n (numbers_of_node s.fixed n) done.0 calm all done.1 in
    goes_after s done.0 t gone (members_go done.0 t (without_node done.0 n).members gone.unreduced done.3)) c
service_goes s ListNodes reply t calm all each c = subst (Goes s) (sym c.1) (goes_none s all)
service_goes s ListClients reply t calm all each c = subst (Goes s) (sym c.1) (goes_none s all)
service_goes s ListServers reply t calm all each c = subst (Goes s) (sym c.1) (goes_none s all)

service_answers : IsLedgered → (s t : State) (c : Command) → IsReachableState s → IsUnreducedHub s.fixed
    → ChoosesEnoughIn s.fixed.limits (OfService c (Refused OutOfMemory)) → IsCommand s c (Refused OutOfMemory) t → ⊥
service_answers ledger s t (commands.Join id asked) reached all each c =
    unless_out (opening_refusal s id asked c.0) s t _ (opening_other s id asked c.0 each) (λ u done. subst (TellsIf ⊥) (sym done.0) tt) c.1
service_answers ledger s t (commands.Port c) reached all each x = no_command_runs_out ledger s t c reached (λ p is of_node. all p is) x
service_answers ledger s t (Leave n) reached all each c =
    unless_out (leaving_refusal s n) s t _ (leaving_other s n) (λ u done. subst (TellsIf ⊥) (sym done.0) tt) c
service_answers ledger s t (DeclareDead n) reached all each c =
    unless_out (not_living s n) s t _ (living_other s n) (λ u done. subst (TellsIf ⊥) (sym done.0) tt) c
service_answers ledger s t (Cleanup n) reached all each c =
    unless_out (not_dead s n) s t _ (dead_other s n) (λ u done. subst (TellsIf ⊥) (sym done.2) tt) c
service_answers ledger s t ListNodes reached all each c = subst (TellsIf ⊥) (sym c.0) tt
service_answers ledger s t ListClients reached all each c = subst (TellsIf ⊥) (sym c.0) tt
service_answers ledger s t ListServers reached all each c = subst (TellsIf ⊥) (sym c.0) tt

-- ---- steps and histories

release_goes : (there : Bool) (s : State) (n k : ℕ) (t : State) → Calm s → IsUnreducedHub s.fixed → IsReleaseWhere there s n k t → Goes s t
release_goes true s n k t calm all r = call_goes s n (Release k) Done t calm all r
release_goes false s n k t calm all r = subst (Goes s) (sym r) (goes_none s all)

step_goes : (s : State) (x : ServiceStep) (t : State) → Calm s → IsUnreducedHub s.fixed → ChoosesEnoughIn s.fixed.limits x → IsServiceStep s x t → Goes s t
step_goes s (OfService c reply) t calm all each e = service_goes s c reply t calm all each e
step_goes s (OfHub n c reply) t calm all each e = command_goes s n c reply t calm all each e
step_goes s (OfLoan n k filling) t calm all each e = subst (Goes s) (sym e.3) (record { limits = refl; unreduced = all })
step_goes s (OfValue n k kind) t calm all each e = release_goes (still_has s.fixed n k kind) s n k t calm all e

step_answers : IsLedgered → (s t : State) (x : ServiceStep) → IsReachableState s → IsUnreducedHub s.fixed → ChoosesEnoughIn s.fixed.limits x
    → IsServiceStep s x t → RunsOut x → ⊥
step_answers ledger s t (OfService c reply) reached all each e out =
    service_answers ledger s t c reached all (subst (λ r. ChoosesEnoughIn s.fixed.limits (OfService c r)) out each) (subst (λ r. IsCommand s c r t) out e)
step_answers ledger s t (OfHub n c reply) reached all each e out =
    no_port_command_runs_out ledger s t n c reached (λ p is of_node. all p is) (subst (λ r. IsHubCommand s n c r t) out e)
step_answers ledger s t (OfLoan n k filling) reached all each e out = out
step_answers ledger s t (OfValue n k kind) reached all each e out = out

pub no_history_runs_out : IsLedgered → NoHistoryRunsOut
no_history_runs_out ledger s t [] reached history all each = All-nil (λ (x : ServiceStep). RunsOut x → ⊥)
no_history_runs_out ledger s t (x ∷ xs) reached history all each =
    let enough : ServiceStep → Type 0 = ChoosesEnoughIn s.fixed.limits in
    let first : ChoosesEnoughIn s.fixed.limits x = All-head enough x xs each in
    let goes : Goes s history.0 = step_goes s x history.0 (left_calm s reached) all first history.1 in
    All-cons (λ (y : ServiceStep). RunsOut y → ⊥) x xs
    (step_answers ledger s history.0 x reached all first history.1)
    (no_history_runs_out ledger history.0 t xs (step_is_reached s history.0 x reached history.1) history.2 goes.unreduced
    (subst (λ l. All (ChoosesEnoughIn l) xs) (sym goes.limits) (All-tail enough x xs each)))
