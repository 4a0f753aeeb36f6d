-- What of the ports stays as one of them counts a loan more: all but that count.
use Rattle.std.specs.Prelude.{◌≡◌, ℕ, ◌+◌, ◌≤◌, Bool, true, false, if◌then◌else◌, ◌==◌, List, [], ◌∷◌, map, filter, length, Option, Some, None, is_some, refl}
use Rattle.std.specs.Option.{option_map, option_map_or}
use Rattle.std.proofs.Common.{sym, ap, ap₂, subst, ◌∙◌, arith}
use Rattle.std.proofs.lemmas.Option.{none-some}
use Rattle.iox_model.specs.declared.kind.Role.{Role}
use Rattle.iox_model.specs.declared.kind.Role.TheVariants.{Client}
use Rattle.iox_model.specs.declared.way.Way.{Way}
use Rattle.iox_model.specs.Maps.{AreDistinct}
use Rattle.iox_model.specs.Settings.{other_role, same_role}
use Rattle.iox_laws.proofs.WeaveLaws.MapLemmas.{eqb-refl}
use Rattle.iox_lanes.specs.Lanes.{LaneState}
use Rattle.iox_tables.specs.HubStates.Tables.{HubTables, PortState, numbers_of, pipes_of, port_in, senders_of}
use Rattle.iox_tables.specs.HubStates.Ways.{OnWays, lane_by, lane_on, lanes_from, states_from, with_port}
use Rattle.iox_tables.specs.HubStates.Steps.{is_there}
use Rattle.iox_tables.specs.HubStates.Wirings.{HaveLimits, IsWired, limit_from, buffer_from, numbers_of_role, role_in}
use Rattle.iox_tables.proofs.HubStates.Keys.{first_changed, same_mapped}
use Rattle.iox_tables.specs.HubBooks.Counts.{OfAllLanes, in_port, on_lanes}
use Rattle.iox_tables.specs.HubBooks.Hubs.{AreInOrder, AreWired, HaveWidths, LanesAreOfSenders}
use Rattle.iox_tables.proofs.HubBooks.Eachs.{OfPort, all_with_first}
use Rattle.iox_tables.proofs.HubBooks.Frames.{first_map, some_map}
use Rattle.iox_tables.proofs.HubLending.Owning.{same_some}
use Rattle.iox_tables.proofs.HubBooks.Structures.{map_map}
use Rattle.iox_tables.specs.HubMaking.Expirings.{KeepsExpired}
use Rattle.iox_tables.specs.HubMaking.NewPorts.{states_of, width_of}
use Rattle.iox_tables.proofs.HubMaking.Kept.{kept_same}

-- the port but for the count of its loans
abbrev pub but_loans : PortState → PortState
but_loans p = record p { loans = 0 }

abbrev pub one_loan : PortState → PortState
one_loan p = record p { loans = p.loans + 1 }

-- ---- ports without counts

numbers_but : (ports : List PortState) → numbers_of (map but_loans ports) ≡ numbers_of ports
numbers_but ports = map_map (λ (p : PortState). p.number) but_loans (λ p. p.number) (λ p. refl) ports

roles_but : (role : Role) (ports : List PortState) → numbers_of_role role (map but_loans ports) ≡ numbers_of_role role ports
roles_but role [] = refl
roles_but role (p ∷ ps) = step (same_role p.role role) (roles_but role ps)
  where
    step : (b : Bool) → numbers_of_role role (map but_loans ps) ≡ numbers_of_role role ps
        → map (λ (p : PortState). p.number) (if b then but_loans p ∷ filter (λ p. same_role p.role role) (map but_loans ps) else filter (λ p. same_role p.role role) (map but_loans ps))
        ≡ map (λ p. p.number) (if b then p ∷ filter (λ p. same_role p.role role) ps else filter (λ p. same_role p.role role) ps)
    step true rest = ap (λ ns. p.number ∷ ns) rest
    step false rest = rest

port_but : (ports : List PortState) (n : ℕ) → port_in (map but_loans ports) n ≡ option_map but_loans (port_in ports n)
port_but ports n = first_map (λ p. p.number) (λ p. p.number) but_loans (λ p. refl) ports n

shows_but : {B : Type 0} (show : PortState → B) (none : B) → ((p : PortState) → show (but_loans p) ≡ show p) → (ports : List PortState) (n : ℕ)
    → option_map_or show (port_in (map but_loans ports) n) none ≡ option_map_or show (port_in ports n) none
shows_but show none same ports n = ap (λ o. option_map_or show o none) (port_but ports n) ∙ step (port_in ports n)
  where
    step : (o : Option PortState) → option_map_or show (option_map but_loans o) none ≡ option_map_or show o none
    step (Some p) = same p
    step None = refl

some_but : (ports : List PortState) (n : ℕ) → is_there (map but_loans ports) n ≡ is_there ports n
some_but ports n = ap is_some (port_but ports n) ∙ step (port_in ports n)
  where
    step : (o : Option PortState) → is_some (option_map but_loans o) ≡ is_some o
    step (Some p) = refl
    step None = refl

lanes_but : (ports : List PortState) → lane_on (map but_loans ports) ≡ lane_on ports
lanes_but ports = ap lane_by (λ i n. shows_but pipes_of [] (λ p. refl) ports n i)

counts_but : (f : LaneState → ℕ) (ports : List PortState) → on_lanes f (map but_loans ports) ≡ on_lanes f ports
counts_but f [] = refl
counts_but f (p ∷ ps) = ap (λ n. in_port f p + n) (counts_but f ps)

-- ---- one loan more

module _ (ports : List PortState) (n : ℕ) where
  abbrev pub new : List PortState
  new = with_port one_loan ports n

  alike : map but_loans new ≡ map but_loans ports
  alike = same_mapped (λ p. p.number) one_loan but_loans (λ p. refl) ports n

  pub numbers_same : numbers_of new ≡ numbers_of ports
  numbers_same = sym (numbers_but new) ∙ ap numbers_of alike ∙ numbers_but ports

  pub roles_same : (role : Role) → numbers_of_role role new ≡ numbers_of_role role ports
  roles_same role = sym (roles_but role new) ∙ ap (numbers_of_role role) alike ∙ roles_but role ports

  pub role_same : (m : ℕ) → role_in new m ≡ role_in ports m
  role_same m = sym (shows_but (λ p. p.role) Client (λ p. refl) new m) ∙ ap (λ ps. role_in ps m) alike ∙ shows_but (λ p. p.role) Client (λ p. refl) ports m

  pub there_same : (m : ℕ) → is_there new m ≡ is_there ports m
  there_same m = sym (some_but new m) ∙ ap (λ ps. is_there ps m) alike ∙ some_but ports m

  pub lanes_same : lane_on new ≡ lane_on ports
  lanes_same = sym (lanes_but new) ∙ ap lane_on alike ∙ lanes_but ports

  pub counts_same : (f : LaneState → ℕ) → on_lanes f new ≡ on_lanes f ports
  counts_same f = sym (counts_but f new) ∙ ap (on_lanes f) alike ∙ counts_but f ports

  pub all_same : (P : LaneState → Type 0) → OfAllLanes P ports → OfAllLanes P new
  all_same P a = all_with_first (OfPort P) (λ p. p.number) one_loan ports n (λ p b. b) a

  -- a port was there, and has counted no more
  pub record Was (m : ℕ) (p : PortState) : Type 0 where
    pub port : PortState
    pub there : port_in ports m ≡ Some port
    pub same : but_loans port ≡ but_loans p
    pub loans : port.loans ≤ p.loans

  pub was : (m : ℕ) (p : PortState) → port_in new m ≡ Some p → Was m p
  was m p at = step (m == n) (port_in ports m) refl (sym (first_changed (λ (x : PortState). x.number) one_loan (λ x. refl) ports n m) ∙ at)
    where
      step : (b : Bool) (o : Option PortState) → port_in ports m ≡ o → (if b then option_map one_loan o else o) ≡ Some p → Was m p
      step true (Some q) is e =
          let same : one_loan q ≡ p = same_some (one_loan q) p e in record {
            port = q;
            there = is;
            same = ap but_loans same;
            loans = subst (λ k. q.loans ≤ k) (ap (λ (x : PortState). x.loans) same) (omega arith);
          }
      step true None is e = absurd (none-some p e)
      step false o is e = record { port = p; there = is ∙ e; same = refl; loans = omega arith }

  pub is_now : (m : ℕ) (p : PortState) → port_in ports m ≡ Some p → (q : PortState) × (port_in new m ≡ Some q) × (but_loans q ≡ but_loans p)
  is_now m p at = some_map but_loans (port_in new m) (but_loans p) (sym (port_but new m) ∙ ap (λ ps. port_in ps m) alike ∙ port_but ports m ∙ ap (option_map but_loans) at)

  pub lends_now : (p : PortState) → port_in ports n ≡ Some p → port_in new n ≡ Some (one_loan p)
  lends_now p at =
      first_changed (λ (x : PortState). x.number) one_loan (λ x. refl) ports n n
      ∙ ap (λ (b : Bool). if b then option_map one_loan (port_in ports n) else port_in ports n) (eqb-refl n) ∙ ap (option_map one_loan) at

-- ---- the tables

module _ (t u : HubTables) (order : AreInOrder t) (n : ℕ) (is : u.ports ≡ with_port one_loan t.ports n) (settings : u.settings ≡ t.settings) where
  abbrev now : List PortState
  now = with_port one_loan t.ports n

  had : (m : ℕ) (p : PortState) → port_in u.ports m ≡ Some p → Was t.ports n m p
  had m p at = was t.ports n m p (sym (ap (λ ps. port_in ps m) is) ∙ at)

  lane_was : (w : Way) → lane_on u.ports w ≡ lane_on t.ports w
  lane_was w = ap (λ ps. lane_on ps w) is ∙ ap (λ (on : OnWays LaneState). on w) (lanes_same t.ports n)

  pub senders_stay : LanesAreOfSenders u
  senders_stay w l sender at from =
      let s = had w.sender sender from in
      let old = order.lanes w l s.port (sym (lane_was w) ∙ at) s.there in record {
        of_pool = old.of_pool ∙ ap (λ (x : PortState). x.pool) s.same;
        buffer = old.buffer ∙ ap₂ (λ c (x : PortState). buffer_from c x.role) (sym settings) s.same;
      }

  pub widths_stay : HaveWidths u
  widths_stay m k to from a b roles =
      let x = had m to a in
      let y = had k from b in
      let old = order.widths m k x.port y.port x.there y.there (ap (λ (p : PortState). p.role) x.same ∙ roles ∙ sym (ap (λ (p : PortState). other_role p.role) y.same)) in record {
        lanes = ap₂ (λ (p q : PortState). length (lanes_from (pipes_of p) q.number)) (sym x.same) (sym y.same) ∙ old.lanes ∙ ap width_of x.same;
        states = ap₂ (λ (p q : PortState). length (states_from (pipes_of p) q.number)) (sym x.same) (sym y.same) ∙ old.states ∙ ap states_of y.same;
      }

  limits_stay : HaveLimits u
  limits_stay w l at =
      order.wired.limits w l (sym (lane_was w) ∙ at)
      ∙ ap₂ (λ c r. limit_from c (other_role r)) (sym settings) (sym (ap (λ ps. role_in ps w.receiver) is ∙ role_same t.ports n w.receiver))

  pub wired_stay : AreWired u
  wired_stay = record { each = each; kept = kept; limits = limits_stay }
    where
      none_more : (m : ℕ) → port_in t.ports m ≡ None → port_in u.ports m ≡ None
      none_more m none = step (port_in u.ports m) refl
        where
          step : (o : Option PortState) → port_in u.ports m ≡ o → o ≡ None
          step None at = refl
          step (Some p) at = let q = had m p at in absurd (none-some q.port (sym none ∙ q.there))

      kept : (m : ℕ) (p : PortState) → port_in u.ports m ≡ Some p → KeepsExpired u p
      kept m p at =
          let q = had m p at in
          kept_same t u q.port p settings (sym (ap (λ (x : PortState). x.expired) q.same)) (sym (ap (λ (x : PortState). x.role) q.same)) (sym (ap width_of q.same))
          (λ k has none. none_more k none) (order.wired.kept m q.port q.there)

      each : (m : ℕ) (p : PortState) → port_in u.ports m ≡ Some p → IsWired u p
      each m p at =
          let q = had m p at in
          let old = order.wired.each m q.port q.there in record {
            senders =
                sym (ap (λ (x : PortState). senders_of x.incoming.pipes) q.same) ∙ old.senders
                ∙ ap (λ (x : PortState). numbers_of_role (other_role x.role) t.ports) q.same
                ∙ sym (ap (numbers_of_role (other_role p.role)) is ∙ roles_same t.ports n (other_role p.role));
            apart = subst AreDistinct (ap (λ (x : PortState). senders_of (pipes_of x)) q.same) old.apart;
            none_kept = λ e f.
                sym (ap (λ (x : PortState). x.expired.pipes) q.same)
                ∙ old.none_kept (ap (λ (x : PortState). x.role) q.same ∙ e) (ap (λ c. c.fire_and_forget) (sym settings) ∙ f);
          }
