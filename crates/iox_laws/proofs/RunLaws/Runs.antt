-- Each command leaves what holds between calls, so it holds of each state that is reached.
use Rattle.std.specs.Prelude.{◌≡◌, ℕ, ◌+◌, ◌≤◌, true, false, nat_lt, nat_le, List, [], ◌∷◌, ◌++◌, length, Some, None, refl}
use Rattle.std.specs.Option.{option_map_or}
use Rattle.std.proofs.Common.{sym, subst, ap, ◌∙◌, true≢false, arith}
use Rattle.iox_model.specs.UniqueSystemId.{UniqueSystemId}
use Rattle.iox_model.specs.declared.backpressure.BackpressureAction.{BackpressureAction}
use Rattle.iox_model.specs.declared.kind.Role.TheVariants.{Client}
use Rattle.iox_model.specs.declared.way.Way.{Way}
use Rattle.iox_model.specs.Commands.{Reply, Call, HubCommand, Command}
use Rattle.iox_model.specs.WholeCalls.{IsWholeCall}
use Rattle.iox_model.specs.Counts.{with_fixed}
use Rattle.iox_model.specs.Joins.{with_members}
use Rattle.iox_model.specs.Makings.{new_port, with_port, IsHubCommand}
use Rattle.iox_model.specs.Messages.{Message}
use Rattle.iox_model.specs.Peers.{buffer_on}
use Rattle.iox_model.specs.Runs.{raised, created}
use Rattle.iox_model.specs.Services.{IsCommand}
use Rattle.iox_model.specs.Settings.{Limits, buffer_of}
use Rattle.iox_model.specs.States.{Port, Handle, Fixed, State}
use Rattle.iox_model.specs.Values.{Filling, filled_as, MayFill}
use Rattle.iox_model.specs.Handles.{handle_at}
use Rattle.iox_model.specs.Doings.{Fills}
use Rattle.iox_model.specs.Ends.{settled}
use Rattle.iox_laws.proofs.WeaveWorlds.Fillings.{IsLoanAs, still_a_loan, named_among}
use Rattle.iox_laws.proofs.WeaveLedger.Senders.{IsMade}
use Rattle.iox_laws.proofs.WeaveWorlds.Inductions.{IsKept, whole_keeps, port_command_keeps, command_keeps}
use Rattle.iox_laws.proofs.WeaveWorlds.ReachedPorts.{distinct_next, below_next}
use Rattle.iox_laws.proofs.WeaveWorlds.Sound.{IsPortOf, IsWithin}
use Rattle.iox_model.specs.Runs.{IsReachableState}
use Rattle.iox_laws.proofs.WeaveLedger.Truths.{by_cases}
use Rattle.iox_laws.proofs.WeaveLedger.Orders.{not-less-next, less-next, same-not-less}
use Rattle.iox_laws.proofs.WeaveLedger.Lists.{IsAmong, le-none}
use Rattle.iox_laws.proofs.WeaveWorlds.Inductions.{reached_keeps}
use Rattle.iox_laws.proofs.RunLaws.Ports.{any_at, first_at, at_last, first_more, port_more}
use Rattle.iox_laws.proofs.RunLaws.Rests.{FitsHandle, Rests, Rested}
use Rattle.iox_laws.proofs.RunLaws.Calls.{done_calm}
use Rattle.iox_laws.proofs.RunLaws.Porting.{made_owned}
use Rattle.iox_laws.proofs.RunLaws.Settling.{Calm, settled_calm}
use Rattle.iox_laws.proofs.RunLaws.Holding.{WaitFits}
use Rattle.iox_laws.proofs.RunLaws.Owning.{Has, Owned, limit_in, most_in}

-- ---- a port is made

-- a number below is not the next one
still_no_port : (k : ℕ) (ps : List Port) (p : Port) → nat_lt k p.number ≡ true → any_at k ps ≡ false → any_at k (ps ++ p ∷ []) ≡ false
still_no_port k ps p less none =
    by_cases (any_at k (ps ++ p ∷ []))
    (λ there. absurd (true≢false (sym (subst (λ n. nat_lt k n ≡ true) (at_last k ps p there none) less) ∙ not_itself k)))
    (λ e. e)
  where
    not_itself : (n : ℕ) → nat_lt n n ≡ false
    not_itself n = grind (arith)

pub made_rests : (f : Fixed) (p : Port) → p.number ≡ f.next_number → Rests f → Rests (with_port f p)
made_rests f p is r = record {
  hub = r.hub;
  numbered = (distinct_next f.next_number f.ports p is (r.numbered).1 (r.numbered).0, below_next f.next_number f.ports p is (r.numbered).1);
  handles = λ n. record {
    apart = (r.handles n).apart;
    each = λ h among.
        let q : FitsHandle f.ports f.next_number n h = (r.handles n).each h among in
        record {
          of_node = q.of_node;
          of_port = port_more f.ports n h.port p q.of_port;
          below = less-next h.number f.next_number q.below;
          no_port = still_no_port h.number f.ports p (subst (λ k. nat_lt h.number k ≡ true) (sym is) q.below) q.no_port;
        };
  };
}

pub made_within : (s : State) (p : Port) (n : ℕ) → p.number ≡ s.fixed.next_number → Rested s → IsWithin (with_fixed s (with_port s.fixed p)) n None
made_within s p n is r v own =
    by_cases (any_at v.sender s.fixed.ports)
    (λ there.
    let old : first_at v.sender (s.fixed.ports ++ p ∷ []) ≡ first_at v.sender s.fixed.ports = first_more v.sender s.fixed.ports p there in
    subst (λ o. nat_le (length (s.waiting v)) (buffer_of s.fixed.limits (option_map_or (λ (q : Port). q.role) o Client) + 0) ≡ true) (sym old)
    (r.within n v (there, ap (λ o. option_map_or (λ (q : Port). q.node) o 0) (sym old) ∙ own.1)))
    (λ new. le-none (s.waiting v) (buffer_on (with_port s.fixed p) v + 0)
    (r.unused v (same-not-less v.sender s.fixed.next_number (sym (at_last v.sender s.fixed.ports p own.0 new) ∙ is))))

pub made_calm : (s : State) (p : Port) → p.number ≡ s.fixed.next_number → Calm s → Calm (with_fixed s (with_port s.fixed p))
made_calm s p is c = record {
  rests = record {
    fixed = made_rests s.fixed p is (c.rests).fixed;
    within = λ n. made_within s p n is c.rests;
    unused = λ v late. (c.rests).unused v (not-less-next v.sender s.fixed.next_number late);
  };
  owned = made_owned s p is c.rests c.owned;
}

-- ---- only nodes

same_rests : (s t : State) → t.fixed ≡ s.fixed → t.waiting ≡ s.waiting → Rested s → Rested t
same_rests s t fixed waiting r = record {
  fixed = subst Rests (sym fixed) r.fixed;
  within = λ n v own.
      subst (λ f. nat_le (length (t.waiting v)) (buffer_on f v + 0) ≡ true) (sym fixed)
      (subst (λ (g : Way → List Message). nat_le (length (g v)) (buffer_on s.fixed v + 0) ≡ true) (sym waiting)
      (r.within n v (subst (λ f. IsPortOf f n v.sender) fixed own)));
  unused = λ v late. ap (λ (g : Way → List Message). g v) waiting ∙ r.unused v (ap (λ (f : Fixed). nat_lt v.sender f.next_number) (sym fixed) ∙ late);
}

same_owned : (s t : State) → t.fixed ≡ s.fixed → t.waiting ≡ s.waiting → Owned s → Owned t
same_owned s t fixed waiting o = record {
  has = subst Has (sym fixed) o.has;
  waits = λ y m among.
      subst (λ (f : Fixed). WaitFits f.ports f.next_number f.expired y m) (sym fixed)
      (o.waits y m (subst (λ (g : Way → List Message). IsAmong m (g y)) waiting among));
  gone = λ y away.
      subst (λ (f : Fixed). length (t.waiting y) ≤ most_in f.limits f.ports y) (sym fixed)
      (subst (λ (g : Way → List Message). length (g y) ≤ most_in s.fixed.limits s.fixed.ports y) (sym waiting)
      (o.gone y (ap (λ (f : Fixed). any_at y.sender f.ports) (sym fixed) ∙ away)));
}

pub same_calm : (s t : State) → t.fixed ≡ s.fixed → t.waiting ≡ s.waiting → Calm s → Calm t
same_calm s t fixed waiting c = record { rests = same_rests s t fixed waiting c.rests; owned = same_owned s t fixed waiting c.owned }

-- ---- commands

-- ---- a loan is filled

filled_calm : (s : State) (node number : ℕ) (h : Handle) (x : Filling) → handle_at s.fixed node number ≡ Some h → MayFill s.fixed h x
    → Calm s → Calm (settled s node [] (Fills (filled_as h x)))
filled_calm s node number h x there may c =
    let among : IsAmong h (s.fixed.handles node) = (named_among s.fixed node number h there).0 in
    let fits : FitsHandle s.fixed.ports s.fixed.next_number node h = ((c.rests).fixed.handles node).each h among in
    let made : IsMade s.fixed.ports h = (((c.owned).has).kept node h among).loan may.loan in
    let still : IsLoanAs h.kind x.kind = still_a_loan h.kind x.kind may.loan may.kind in
    settled_calm s node [] (Fills (filled_as h x)) c (fits.of_node, fits.of_port)
    (still.0, record { sender = made.sender; lane = made.lane; role = still.1 ∙ made.role })

pub calm_kept : IsKept Calm
calm_kept = record {
  nodes = λ s x u c. same_calm s (with_members s x) refl refl c;
  makes = λ s node role id o memory allowed c. made_calm s (new_port s.fixed node role id o) refl c;
  calls = λ s node call reply t named done c. done_calm s node call reply t c named done;
  fills = λ s node number h x there may c. filled_calm s node number h x there may c;
}

pub whole_calm : (s : State) (node : ℕ) (call : Call) (reply : Reply) (t : State) → Calm s → IsWholeCall s node call reply t → Calm t
whole_calm = whole_keeps Calm calm_kept

pub port_command_calm : (s : State) (node : ℕ) (c : HubCommand) (reply : Reply) (t : State) → Calm s → IsHubCommand s node c reply t → Calm t
port_command_calm = port_command_keeps Calm calm_kept

pub command_calm : (s : State) (c : Command) (reply : Reply) (t : State) → Calm s → IsCommand s c reply t → Calm t
command_calm = command_keeps Calm calm_kept

-- ---- from the creation on

pub created_calm : (l : Limits) (acts : List ℕ → ℕ → ℕ → BackpressureAction) (id : UniqueSystemId) → Calm (created l acts id)
created_calm l acts id = record {
  rests = record {
    fixed = record {
      hub = refl;
      numbered = (tt, refl);
      handles = λ n. record { apart = tt; each = λ h among. absurd among };
    };
    within = λ n v own. absurd (true≢false (sym own.0));
    unused = λ v late. refl;
  };
  owned = record {
    has = record {
      kept = λ n h among. absurd among;
      known = λ n h among. absurd among;
      away = λ r n among. absurd (true≢false (sym among));
      within = λ y. nothing (limit_in (raised l) [] y);
      nobody = λ y none. refl;
      counts = λ y kept. nothing 0;
      few = λ y. nothing (limit_in (raised l) [] y);
    };
    waits = λ y m among. absurd among;
    gone = λ y away. nothing (most_in (raised l) [] y);
  };
}
  where
    nothing : (n : ℕ) → 0 ≤ n
    nothing n = omega arith

-- Whatever was asked before, it is calm between calls.
pub left_calm : (s : State) → IsReachableState s → Calm s
left_calm = reached_keeps Calm calm_kept created_calm
