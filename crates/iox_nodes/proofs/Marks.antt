-- Where no port has a mark, none has it after a command by which none is made that would.
use Rattle.std.specs.Prelude.{◌≡◌, ℕ, Bool, true, false, ◌||◌, if◌then◌else◌, ◌==◌, List, [], ◌∷◌, ◌++◌, filter, map, Option, ⊤, refl}
use Rattle.std.specs.List.{list_any}
use Rattle.std.proofs.Common.{sym, subst, ◌∙◌, true≢false}
use Rattle.iox_types.specs.declared.identifiers.system_id.UniqueSystemId.{UniqueSystemId}
use Rattle.iox_model.specs.declared.kind.Role.{Role}
use Rattle.iox_model.specs.Commands.{Call, Create, HubCommand, Options, Refusal, Reply, Use}
use Rattle.iox_model.specs.Ends.{port_dropped}
use Rattle.iox_model.specs.Joins.{IsOpening, not_living, opening_refusal}
use Rattle.iox_model.specs.Makings.{IsMaking, making_refusal, new_port}
use Rattle.iox_model.specs.Services.{IsNodeCommand}
use Rattle.iox_model.specs.States.{Fixed, Port, State}
use Rattle.iox_model.specs.WholeCalls.{IsWholeCall, moved_by}
use Rattle.iox_laws.proofs.WeaveLaws.WholeLemmas.{moved_by-fixed}
use Rattle.iox_laws.proofs.WeaveWorlds.Inductions.{unless_done, unless_keeps}
use Rattle.iox_laws.proofs.WeaveWorlds.PortsKept.{IsSteady, OfPorts, Says, settled_says}

-- the release of a port's own value leaves the mark as it is
abbrev pub IsLasting : (Port → Bool) → Type 0
IsLasting mark = (p : Port) → mark (record p { held = false }) ≡ mark p

-- ---- lists of ports

pub neither : (a b : Bool) → (a || b) ≡ false → (a ≡ false) × (b ≡ false)
neither true b e = absurd (true≢false e)
neither false b e = (refl, e)

both : (a b : Bool) → a ≡ false → b ≡ false → (a || b) ≡ false
both true b e f = absurd (true≢false e)
both false b e f = f

filtered : (mark keep : Port → Bool) (ps : List Port) → list_any mark ps ≡ false → list_any mark (filter keep ps) ≡ false
filtered mark keep [] e = refl
filtered mark keep (p ∷ ps) e = step (keep p) (filtered mark keep ps (neither (mark p) (list_any mark ps) e).1)
  where
    step : (b : Bool) → list_any mark (filter keep ps) ≡ false → list_any mark (if b then p ∷ filter keep ps else filter keep ps) ≡ false
    step true rest = both (mark p) (list_any mark (filter keep ps)) (neither (mark p) (list_any mark ps) e).0 rest
    step false rest = rest

dropped : (mark : Port → Bool) → IsLasting mark → (port : ℕ) (ps : List Port) → list_any mark ps ≡ false
    → list_any mark (map (port_dropped port) ps) ≡ false
dropped mark lasts port [] e = refl
dropped mark lasts port (p ∷ ps) e =
    both (mark (port_dropped port p)) (list_any mark (map (port_dropped port) ps))
    (step (p.number == port) ∙ (neither (mark p) (list_any mark ps) e).0)
    (dropped mark lasts port ps (neither (mark p) (list_any mark ps) e).1)
  where
    step : (b : Bool) → mark (if b then record p { held = false } else p) ≡ mark p
    step true = lasts p
    step false = refl

appended : (mark : Port → Bool) (ps : List Port) (q : Port) → list_any mark ps ≡ false → mark q ≡ false → list_any mark (ps ++ q ∷ []) ≡ false
appended mark [] q e unmarked = both (mark q) false unmarked refl
appended mark (p ∷ ps) q e unmarked =
    both (mark p) (list_any mark (ps ++ q ∷ [])) (neither (mark p) (list_any mark ps) e).0
    (appended mark ps q (neither (mark p) (list_any mark ps) e).1 unmarked)

-- ---- commands

abbrev Unmarked : (Port → Bool) → OfPorts
Unmarked mark l ps n = list_any mark ps ≡ false

steady : (mark : Port → Bool) → IsLasting mark → IsSteady (Unmarked mark)
steady mark lasts = record {
  numbers = λ l ps n p. p;
  filters = λ l ps n keep p. filtered mark keep ps p;
  drops = λ l ps n port p. dropped mark lasts port ps p;
}

-- no port of the state has the mark
abbrev NoneMarked : (Port → Bool) → State → Type 0
NoneMarked mark s = list_any mark s.fixed.ports ≡ false

call_keeps : (mark : Port → Bool) → IsLasting mark → (s : State) (node : ℕ) (call : Call) (reply : Reply) (t : State)
    → NoneMarked mark s → IsWholeCall s node call reply t → NoneMarked mark t
call_keeps mark lasts s node call reply t p =
    unless_done (NoneMarked mark) s node call reply t p
    (λ named d. subst (NoneMarked mark) (sym d.9)
    (settled_says (Unmarked mark) (steady mark lasts) (moved_by s d.2) node d.6 d.4 (subst (Says (Unmarked mark)) (sym (moved_by-fixed s d.2)) p)))

make_keeps : (mark : Port → Bool) (s : State) (node : ℕ) (role : Role) (id : UniqueSystemId) (o : Options) (reply : Reply) (t : State)
    → mark (new_port s.fixed node role id o) ≡ false → NoneMarked mark s → IsMaking s node role id o reply t → NoneMarked mark t
make_keeps mark s node role id o reply t unmarked p c =
    unless_keeps (NoneMarked mark) (making_refusal s.fixed role o c.0) s reply t _ p
    (λ allowed made. subst (NoneMarked mark) (sym made.1) (appended mark s.fixed.ports (new_port s.fixed node role id o) p unmarked)) c.1

-- no port is made that would have the mark
abbrev pub MakesNone : (Port → Bool) → Fixed → ℕ → HubCommand → Type 0
MakesNone mark f node (Create role id o) = (own : UniqueSystemId) → mark (new_port f node role own o) ≡ false
MakesNone mark f node (Use call) = ⊤

pub port_commands_keep : (mark : Port → Bool) → IsLasting mark → (s : State) (node : ℕ) (c : HubCommand) (reply : Reply) (t : State)
    → MakesNone mark s.fixed node c → list_any mark s.fixed.ports ≡ false → IsNodeCommand s node c reply t → list_any mark t.fixed.ports ≡ false
port_commands_keep mark lasts s node (Create role id o) reply t unmarked p =
    unless_keeps (NoneMarked mark) (not_living s node) s reply t _ p (λ living made. make_keeps mark s node role _ o reply t (unmarked _) p made)
port_commands_keep mark lasts s node (Use call) reply t unmarked p =
    unless_keeps (NoneMarked mark) (not_living s node) s reply t _ p (λ living whole. call_keeps mark lasts s node call reply t p whole)

pub joins_keep : (mark : Port → Bool) (s : State) (id : UniqueSystemId) (asked : Option Refusal) (reply : Reply) (t : State)
    → list_any mark s.fixed.ports ≡ false → IsOpening s id asked reply t → list_any mark t.fixed.ports ≡ false
joins_keep mark s id asked reply t p c =
    unless_keeps (NoneMarked mark) (opening_refusal s id asked c.0) s reply t _ p (λ allowed done. subst (NoneMarked mark) (sym done.1) p) c.1
