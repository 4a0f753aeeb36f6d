-- Walks over all ports: each is cut, and the messages on the pipe that goes are let go.
use Rattle.std.specs.Prelude.{◌≡◌, ℕ, zero, suc, ◌+◌, ◌<◌, ◌≤◌, Bool, true, false, if◌then◌else◌, ◌==◌, List, [], ◌∷◌, ◌++◌, drop, length, map, Option, Some, None, slice_get, slice_set, refl}
use Rattle.std.specs.Option.{option_map, option_map_or}
use Rattle.std.proofs.Common.{sym, ap, ap₂, subst, ◌∙◌, arith, add-one, get_or, eq-eqb}
use Rattle.std.proofs.lemmas.Option.{none-some, same_Some}
use Rattle.iox_model.specs.Maps.{AreDistinct, has_number}
use Rattle.iox_lanes.specs.Lanes.{LaneState}
use Rattle.iox_lanes.specs.Pipes.{PipeState}
use Rattle.iox_tables.specs.HubStates.Tables.{PortState, numbers_of, port_in}
use Rattle.iox_tables.specs.HubStates.Ways.{with_port}
use Rattle.iox_tables.proofs.HubStates.Keys.{flip}
use Rattle.iox_hub_ports.proofs.Walking.{Walks, begins, ends, set_size, turns}
use Rattle.iox_hub_ports.specs.declared.info.PortInfo.{PortInfo}
use Rattle.iox_hub_ports.specs.Ports.{gone_from, info_at, info_of}
use Rattle.iox_tables.specs.HubMaking.OneByOne.{without_first_pipe}
use Rattle.iox_tables.specs.HubBooks.Counts.{in_pipe, lane_count, total}
use Rattle.iox_control.specs.Controls.{ControlState, with_pools, with_ports}
use Rattle.iox_control_releasing.specs.LettingGo.{LetsGo, cut_at, from_in, with_cut}
use Rattle.iox_control_releasing.proofs.Settling.{Settles, goes_on, pools_again, settled}
use Rattle.iox_control_releasing.proofs.Settling as settling
use Rattle.iox_control_releasing.proofs.Senders.{drop_some}
use Rattle.std.proofs.lemmas.Bool.{or_parts}

-- ---- the port in a place

info_some : (ports : List PortState) (i : ℕ) (info : PortInfo) → Some info ≡ info_at ports i → (p : PortState) × (slice_get ports i ≡ Some p) × (info.number ≡ p.number)
info_some ports i info e = step (slice_get ports i) refl e
  where
    step : (o : Option PortState) → slice_get ports i ≡ o → Some info ≡ option_map info_of o → (p : PortState) × (slice_get ports i ≡ Some p) × (info.number ≡ p.number)
    step None at e = absurd (none-some info (sym e))
    step (Some p) at e = (p, at, ap (λ (x : PortInfo). x.number) (same_Some info (info_of p) e))

info_none : (ports : List PortState) (i : ℕ) → None ≡ info_at ports i → slice_get ports i ≡ None
info_none ports i e = step (slice_get ports i) refl e
  where
    step : (o : Option PortState) → slice_get ports i ≡ o → None ≡ option_map info_of o → slice_get ports i ≡ None
    step None at e = at
    step (Some p) at e = absurd (none-some (info_of p) e)

-- ---- lists

pub total_append : {A : Type 0} (f : A → ℕ) (xs ys : List A) → total f (xs ++ ys) ≡ total f xs + total f ys
total_append f [] ys = omega arith
total_append f (x ∷ xs) ys = sums (f x) _ _ _ (total_append f xs ys)
  where
    sums : (a b c d : ℕ) → b ≡ c + d → a + b ≡ (a + c) + d
    sums a b c d e = omega (arith, e)

drop_past : {A : Type 0} (xs : List A) (n : ℕ) → length xs ≤ n → drop n xs ≡ []
drop_past [] zero h = refl
drop_past [] (suc n) h = refl
drop_past (x ∷ xs) zero h = absurd (omega (arith, h))
drop_past (x ∷ xs) (suc n) h = drop_past xs n (omega (arith, h))

-- ---- pipes from a port

-- what the lanes of the pipes from the sender count
abbrev pub all_from : ℕ → List PortState → ℕ → ℕ → ℕ
all_from sender ports pool k = total (from_in (lane_count pool k) sender) ports

-- the pipe from the sender is out at the ports so far, and let go
pub record Cuts (sender : ℕ) (first now : ControlState) (at : ℕ) : Type 0 where
  pub same : now ≡ with_cut first now.tables.ports now.tables.pools
  pub walks : Walks (without_first_pipe sender) first.tables.ports now.tables.ports at
  pub size : length now.tables.ports ≡ length first.tables.ports
  pub settles : Settles first.tables.pools now.tables.pools (all_from sender first.tables.ports) (all_from sender (drop at now.tables.ports))

pub cuts_begin : (sender : ℕ) (first : ControlState) → Cuts sender first first 0
cuts_begin sender first = record {
  same = refl;
  walks = begins (without_first_pipe sender) first.tables.ports;
  size = refl;
  settles = settling.begins first.tables.pools (all_from sender first.tables.ports);
}

pub cuts_more : (sender : ℕ) (first now new : ControlState) (at : ℕ) → Cuts sender first now at → at < length first.tables.ports
    → new ≡ with_cut now (cut_at sender now.tables.ports at) new.tables.pools
    → LetsGo now.tables.pools new.tables.pools (λ pool k. option_map_or (from_in (lane_count pool k) sender) (slice_get now.tables.ports at) 0)
    → Cuts sender first new (at + 1)
cuts_more sender first now new at is below cut goes = step (slice_get now.tables.ports at) refl
  where
    ports : new.tables.ports ≡ cut_at sender now.tables.ports at
    ports = ap (λ (c : ControlState). c.tables.ports) cut

    here : at < length now.tables.ports
    here = omega (arith, below, is.size)

    step : (o : Option PortState) → slice_get now.tables.ports at ≡ o → Cuts sender first new (at + 1)
    step None e = absurd (past now.tables.ports at here e)
      where
        past : (ps : List PortState) (i : ℕ) → i < length ps → slice_get ps i ≡ None → ⊥
        past [] i h e = omega (arith, h)
        past (q ∷ qs) zero h e = none-some q (sym e)
        past (q ∷ qs) (suc i) h e = past qs i (omega (arith, h)) e
    step (Some p) e =
        let set : new.tables.ports ≡ slice_set now.tables.ports at (without_first_pipe sender p)
        = ports ∙ ap (λ o. option_map_or (λ q. slice_set now.tables.ports at (without_first_pipe sender q)) o now.tables.ports) e in
        let rest : drop (at + 1) new.tables.ports ≡ drop (suc at) now.tables.ports
        = ap (λ i. drop i new.tables.ports) (add-one at) ∙ ap (drop (suc at)) set ∙ drop_set now.tables.ports at (without_first_pipe sender p) in
        record {
          same = cut_again first now new (cut_at sender now.tables.ports at) is.same cut;
          walks = subst (λ ps. Walks (without_first_pipe sender) first.tables.ports ps (at + 1)) (sym set)
              (turns (without_first_pipe sender) first.tables.ports now.tables.ports at p (without_first_pipe sender p) is.walks here (got now.tables.ports at p e) refl);
          size = ap (λ (ps : List PortState). length ps) set ∙ set_size now.tables.ports at (without_first_pipe sender p) ∙ is.size;
          settles = goes_on first.tables.pools now.tables.pools new.tables.pools (all_from sender first.tables.ports) (all_from sender (drop at now.tables.ports))
              (λ pool k. option_map_or (from_in (lane_count pool k) sender) (slice_get now.tables.ports at) 0) (all_from sender (drop (at + 1) new.tables.ports)) is.settles goes
              (λ pool k. ap (λ ps. all_from sender ps pool k) (drop_some now.tables.ports at p e)
              ∙ ap₂ (λ (o : Option PortState) ps. option_map_or (from_in (lane_count pool k) sender) o 0 + all_from sender ps pool k) (sym e) (sym rest));
        }
      where
        got : (ps : List PortState) (i : ℕ) (q : PortState) → slice_get ps i ≡ Some q → q ≡ get_or ps i q
        got [] i q e = refl
        got (r ∷ rs) zero q e = sym (same_Some r q e)
        got (r ∷ rs) (suc i) q e = got rs i q e

        drop_set : (xs : List PortState) (i : ℕ) (x : PortState) → drop (suc i) (slice_set xs i x) ≡ drop (suc i) xs
        drop_set [] i x = refl
        drop_set (y ∷ ys) zero x = refl
        drop_set (y ∷ ys) (suc i) x = drop_set ys i x

        cut_again : (first now new : ControlState) (ps : List PortState) → now ≡ with_cut first now.tables.ports now.tables.pools → new ≡ with_cut now ps new.tables.pools
            → new ≡ with_cut first new.tables.ports new.tables.pools
        cut_again first now new ps was is =
            is ∙ ap (λ (c : ControlState). with_cut c ps new.tables.pools) was
            ∙ ap (λ qs. with_cut first qs new.tables.pools) (sym (ap (λ (c : ControlState). c.tables.ports) is))

pub cuts_all : (sender : ℕ) (first now : ControlState) (at : ℕ) → Cuts sender first now at → length first.tables.ports ≤ at
    → (now ≡ with_cut first (map (without_first_pipe sender) first.tables.ports) now.tables.pools)
    × LetsGo first.tables.pools now.tables.pools (all_from sender first.tables.ports)
cuts_all sender first now at is past = (
  is.same ∙ ap (λ ps. with_cut first ps now.tables.pools) (ends (without_first_pipe sender) first.tables.ports now.tables.ports at is.walks end),
  settled first.tables.pools now.tables.pools (all_from sender first.tables.ports) (all_from sender (drop at now.tables.ports)) is.settles
      (λ pool k. ap (λ ps. all_from sender ps pool k) (drop_past now.tables.ports at end)),
)
  where
    end : length now.tables.ports ≤ at
    end = omega (arith, past, is.size)

-- ---- one port is cut

-- the port of a place is the first of its number, and changes as that
pub cut_port : (f : PortState → PortState) (ports : List PortState) (at : ℕ) (p : PortState) → AreDistinct (numbers_of ports) → slice_get ports at ≡ Some p
    → (port_in ports p.number ≡ Some p) × (with_port f ports p.number ≡ slice_set ports at (f p))
cut_port f [] at p apart e = absurd (none-some p e)
cut_port f (q ∷ qs) zero p apart e = (
  ap (λ (b : Bool). if b then Some q else port_in qs p.number) same ∙ e,
  ap (λ (b : Bool). if b then f q ∷ qs else q ∷ with_port f qs p.number) same ∙ ap (λ r. f r ∷ qs) (same_Some q p e),
)
  where
    same : (q.number == p.number) ≡ true
    same = eq-eqb q.number p.number (ap (λ (r : PortState). r.number) (same_Some q p e))
cut_port f (q ∷ qs) (suc i) p apart e =
    let more = cut_port f qs i p apart.1 e in (
      ap (λ (b : Bool). if b then Some q else port_in qs p.number) other ∙ more.0,
      ap (λ (b : Bool). if b then f q ∷ qs else q ∷ with_port f qs p.number) other ∙ ap (λ rs. q ∷ rs) more.1,
    )
  where
    number_in : (rs : List PortState) (j : ℕ) → slice_get rs j ≡ Some p → has_number q.number (numbers_of rs) ≡ false → (p.number == q.number) ≡ false
    number_in [] j e off = absurd (none-some p e)
    number_in (r ∷ rs) zero e off = ap (λ (x : PortState). x.number == q.number) (sym (same_Some r p e)) ∙ (or_parts (r.number == q.number) (has_number q.number (numbers_of rs)) off).0
    number_in (r ∷ rs) (suc j) e off = number_in rs j e (or_parts (r.number == q.number) (has_number q.number (numbers_of rs)) off).1

    other : (q.number == p.number) ≡ false
    other = flip q.number p.number ∙ number_in qs i e apart.0

-- the port in a place is the one of its number, and is cut as that
pub cut_here : (ports : List PortState) (at sender : ℕ) (info : PortInfo) → AreDistinct (numbers_of ports) → Some info ≡ info_at ports at
    → (port_in ports info.number ≡ slice_get ports at) × (with_port (without_first_pipe sender) ports info.number ≡ cut_at sender ports at)
cut_here ports at sender info apart e =
    let found = info_some ports at info e in
    let is = cut_port (without_first_pipe sender) ports at found.0 apart found.1 in (
      ap (port_in ports) found.2 ∙ is.0 ∙ sym found.1,
      ap (with_port (without_first_pipe sender) ports) found.2 ∙ is.1
          ∙ ap (λ o. option_map_or (λ p. slice_set ports at (without_first_pipe sender p)) o ports) (sym found.1),
    )

-- what comes from the sender to that port is on the pipe that is taken out
pub from_pipe : (ports : List PortState) (at sender n : ℕ) (pipe : Option PipeState) (f : LaneState → ℕ) → port_in ports n ≡ slice_get ports at
    → pipe ≡ option_map_or (λ p. gone_from p sender) (port_in ports n) None
    → option_map_or (in_pipe f) pipe 0 ≡ option_map_or (from_in f sender) (slice_get ports at) 0
from_pipe ports at sender n pipe f same is =
    ap (λ o. option_map_or (in_pipe f) o 0) is ∙ step (port_in ports n) ∙ ap (λ o. option_map_or (from_in f sender) o 0) same
  where
    step : (o : Option PortState) → option_map_or (in_pipe f) (option_map_or (λ p. gone_from p sender) o None) 0 ≡ option_map_or (from_in f sender) o 0
    step None = refl
    step (Some p) = refl

-- a port is cut, and then the messages on its pipe are let go
pub cut_done : (first mid : ControlState) (ps qs : List PortState) → mid ≡ with_ports first ps → ps ≡ qs → mid ≡ with_cut first qs mid.tables.pools
cut_done first mid ps qs is same =
    is ∙ ap (with_ports first) same ∙ ap (λ pools. with_cut first qs pools) (sym (ap (λ (c : ControlState). c.tables.pools) is))

pub cut_and_let_go : (first mid new : ControlState) (ps qs : List PortState) → mid ≡ with_ports first ps → ps ≡ qs → new ≡ with_pools mid new.tables.pools
    → new ≡ with_cut first qs new.tables.pools
cut_and_let_go first mid new ps qs is same goes =
    goes ∙ ap (λ (c : ControlState). with_pools c new.tables.pools) (is ∙ ap (with_ports first) same)

-- past the last there is none
pub none_past : (ports : List PortState) (at : ℕ) → length ports ≤ at → slice_get ports at ≡ None
none_past [] at h = refl
none_past (p ∷ ps) zero h = absurd (omega (arith, h))
none_past (p ∷ ps) (suc at) h = none_past ps at (omega (arith, h))
