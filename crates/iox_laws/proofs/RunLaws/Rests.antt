-- What holds of each state that is reached: ports and handles have numbers of their own, a handle
-- belongs to a port of its node, and no more waits than the buffer holds.
use Rattle.std.specs.Prelude.{◌≡◌, ℕ, ◌+◌, ◌-◌, Bool, true, false, not, if◌then◌else◌, ◌==◌, nat_lt, List, [], ◌∷◌, ◌++◌, map, None, refl}
use Rattle.std.specs.List.{list_all}
use Rattle.std.proofs.Common.{sym, subst, ap, ◌∙◌, eqb-true, inl, inr}
use Rattle.iox_model.specs.declared.way.Way.{Way}
use Rattle.iox_model.specs.States.{Port, Handle, Fixed, State}
use Rattle.iox_model.specs.Handles.{is_received, way_of}
use Rattle.iox_model.specs.Maps.{put_at, put, AreDistinct}
use Rattle.iox_model.specs.Counts.{is_same_handle, without_handle, with_handle, added, changed, dropped, numbered, gives_up}
use Rattle.iox_laws.proofs.WeaveLaws.MapLemmas.{either}
use Rattle.iox_laws.proofs.WeaveLedger.HandlesKept.{with-numbers}
use Rattle.iox_laws.proofs.WeaveLedger.Orders.{less-next, next-is-less, same-not-less}
use Rattle.iox_laws.proofs.WeaveLedger.Truths.{never, both_true}
use Rattle.iox_laws.proofs.WeaveLedger.Lists.{IsAmong, NoRepeats, among-last, filter-among, map-among, no_repeats-last, no_repeats-map_filter}
use Rattle.iox_laws.proofs.WeaveWorlds.Settled.{is-port_of}
use Rattle.iox_laws.proofs.WeaveWorlds.ReachedPorts.{below, IsNumbered, numbered_keeps}
use Rattle.iox_laws.proofs.WeaveWorlds.Sound.{IsPortOf, is_port_of, has_own, IsWithin}
use Rattle.iox_laws.proofs.RunLaws.Ports.{any_at, IsPortIn, next_is_free}

-- ---- the invariant

-- a handle of the node belongs to one of its ports, and has a number that no port has, below the next
pub record FitsHandle (ps : List Port) (next node : ℕ) (h : Handle) : Type 0 where
  pub of_node : h.node ≡ node
  pub of_port : IsPortIn ps node h.port
  pub below : nat_lt h.number next ≡ true
  pub no_port : any_at h.number ps ≡ false

pub record FitHandles (ps : List Port) (next node : ℕ) (hs : List Handle) : Type 0 where
  pub apart : NoRepeats (map (λ h. h.number) hs)
  pub each : (h : Handle) → IsAmong h hs → FitsHandle ps next node h

pub record Rests (f : Fixed) : Type 0 where
  pub hub : f.on_wire ≡ false
  pub numbered : IsNumbered f
  pub handles : (n : ℕ) → FitHandles f.ports f.next_number n (f.handles n)

pub record Rested (s : State) : Type 0 where
  pub fixed : Rests s.fixed
  pub within : (n : ℕ) → IsWithin s n None
  -- nothing waits that a port of a later number sent
  pub unused : (v : Way) → nat_lt v.sender s.fixed.next_number ≡ false → s.waiting v ≡ []

-- ---- what calls ask of it

pub all_pass : {A : Type 0} (test : A → Bool) (xs : List A) → ((x : A) → IsAmong x xs → test x ≡ true) → list_all test xs ≡ true
all_pass test [] each = refl
all_pass test (x ∷ xs) each = both_true (test x) (list_all test xs) (each x (inl refl)) (all_pass test xs (λ y p. each y (inr p)))

pub rests_own : (f : Fixed) (node : ℕ) → Rests f → has_own f node ≡ true
rests_own f node r =
    all_pass (λ h. is_port_of f node h.port) (f.handles node) (λ h p. is-port_of f node h.port ((r.handles node).each h p).of_port)

-- ---- lists of handles

last_fits : (ps : List Port) (next node : ℕ) (hs : List Handle) (h : Handle) → FitHandles ps next node hs → FitsHandle ps next node h
    → (IsAmong h.number (map (λ k. k.number) hs) → ⊥) → FitHandles ps next node (hs ++ h ∷ [])
last_fits ps next node hs h p fits new = record {
  apart = subst NoRepeats (sym (map-last hs)) (no_repeats-last h.number (map (λ (k : Handle). k.number) hs) p.apart new);
  each = λ k among. elim (among-last k h hs among) as (λ u. FitsHandle ps next node k) [
    | inl q ↦ p.each k q
    | inr e ↦ subst (FitsHandle ps next node) (sym e) fits
  ];
}
  where
    map-last : (ks : List Handle) → map (λ k. k.number) (ks ++ h ∷ []) ≡ map (λ k. k.number) ks ++ h.number ∷ []
    map-last [] = refl
    map-last (k ∷ ks) = ap (λ ns. k.number ∷ ns) (map-last ks)

less_fits : (ps : List Port) (next node : ℕ) (h : Handle) (hs : List Handle) → FitHandles ps next node hs → FitHandles ps next node (without_handle h hs)
less_fits ps next node h hs p = record {
  apart = no_repeats-map_filter (λ k. k.number) (λ k. not (is_same_handle h k)) hs p.apart;
  each = λ k among. p.each k (filter-among (λ j. not (is_same_handle h j)) k hs among).0;
}

with-each : (ps : List Port) (next node : ℕ) (h : Handle) → h.node ≡ node → IsPortIn ps node h.port → (hs : List Handle)
    → ((k : Handle) → IsAmong k hs → FitsHandle ps next node k) → (k : Handle) → IsAmong k (with_handle h hs) → FitsHandle ps next node k
with-each ps next node h of_node of_port [] each k among = absurd among
with-each ps next node h of_node of_port (x ∷ xs) each k among =
    either (λ (ys : List Handle). IsAmong k ys → FitsHandle ps next node k) (is_same_handle h x) (h ∷ xs) (x ∷ with_handle h xs)
    (λ same p. elim p as (λ u. FitsHandle ps next node k) [
      | inl e ↦ subst (FitsHandle ps next node) (sym e) (taken same)
      | inr q ↦ each k (inr q)
    ])
    (λ other p. elim p as (λ u. FitsHandle ps next node k) [
      | inl e ↦ each k (inl e)
      | inr q ↦ with-each ps next node h of_node of_port xs (λ j r. each j (inr r)) k q
    ]) among
  where
    taken : is_same_handle h x ≡ true → FitsHandle ps next node h
    taken same =
        let e : x.number ≡ h.number = eqb-true x.number h.number same in
        let p : FitsHandle ps next node x = each x (inl refl) in
        record {
          of_node = of_node;
          of_port = of_port;
          below = subst (λ n. nat_lt n next ≡ true) e p.below;
          no_port = subst (λ n. any_at n ps ≡ false) e p.no_port;
        }

swap_fits : (ps : List Port) (next node : ℕ) (h : Handle) (hs : List Handle) → h.node ≡ node → IsPortIn ps node h.port
    → FitHandles ps next node hs → FitHandles ps next node (with_handle h hs)
swap_fits ps next node h hs of_node of_port p =
    record { apart = subst NoRepeats (sym (with-numbers h hs)) p.apart; each = with-each ps next node h of_node of_port hs p.each }

put_fit : (ps : List Port) (next : ℕ) (handles : ℕ → List Handle) (node : ℕ) (hs : List Handle) → ((n : ℕ) → FitHandles ps next n (handles n))
    → FitHandles ps next node hs → (n : ℕ) → FitHandles ps next n (put_at handles node hs n)
put_fit ps next handles node hs all here n =
    either (FitHandles ps next n) (n == node) hs (handles n) (λ e. subst (λ k. FitHandles ps next k hs) (sym (eqb-true n node e)) here) (λ u. all n)

-- ---- each change of what is fixed

pub numbered-hub : (f : Fixed) (node : ℕ) → f.on_wire ≡ false → numbered f node ≡ record f { next_number = f.next_number + 1 }
numbered-hub f node hub =
    ap (λ (b : Bool). if b then record f { handles_made = put_at f.handles_made node (f.handles_made node + 1) }
    else record f { next_number = f.next_number + 1 }) hub

-- a handle of the next number
pub adds : (f : Fixed) (h : Handle) → Rests f → IsPortOf f h.node h.port → h.number ≡ f.next_number → Rests (added (numbered f h.node) h)
adds f h r own new =
    let all : (n : ℕ) → FitHandles f.ports (f.next_number + 1) n (f.handles n) = λ n. record {
      apart = (r.handles n).apart;
      each = λ k among.
          let p : FitsHandle f.ports f.next_number n k = (r.handles n).each k among in
          record { of_node = p.of_node; of_port = p.of_port; below = less-next k.number f.next_number p.below; no_port = p.no_port };
    } in
    subst (λ x. Rests (added x h)) (sym (numbered-hub f h.node r.hub))
    (record {
      hub = r.hub;
      numbered = subst IsNumbered (numbered-hub f h.node r.hub) (numbered_keeps f h.node r.numbered);
      handles = put_fit f.ports (f.next_number + 1) f.handles h.node (f.handles h.node ++ h ∷ []) all
          (last_fits f.ports (f.next_number + 1) h.node (f.handles h.node) h (all h.node) (record {
            of_node = refl;
            of_port = own;
            below = next-is-less h.number f.next_number new;
            no_port = subst (λ k. any_at k f.ports ≡ false) (sym new) (next_is_free f.next_number f.ports (r.numbered).1);
          })
          (λ among.
          let k : (k : Handle) × IsAmong k (f.handles h.node) × (h.number ≡ k.number)
          = map-among (λ (k : Handle). k.number) h.number (f.handles h.node) among in
          never (nat_lt (k.0).number f.next_number) ((r.handles h.node).each k.0 k.1).below (same-not-less (k.0).number f.next_number (sym k.2 ∙ new))));
    })

pub changes : (f : Fixed) (h : Handle) → Rests f → IsPortOf f h.node h.port → Rests (changed f h)
changes f h r own = record {
  hub = r.hub;
  numbered = r.numbered;
  handles = put_fit f.ports f.next_number f.handles h.node (with_handle h (f.handles h.node)) r.handles
      (swap_fits f.ports f.next_number h.node h (f.handles h.node) refl own (r.handles h.node));
}

pub drops : (f : Fixed) (h : Handle) → Rests f → Rests (dropped f h)
drops f h r = record {
  hub = r.hub;
  numbered = r.numbered;
  handles = put_fit f.ports f.next_number f.handles h.node (without_handle h (f.handles h.node)) r.handles
      (less_fits f.ports f.next_number h.node h (f.handles h.node) (r.handles h.node));
}

-- the same in all that matters here
pub rests_same : (f g : Fixed) → g.on_wire ≡ f.on_wire → g.ports ≡ f.ports → g.next_number ≡ f.next_number → g.handles ≡ f.handles → Rests f → Rests g
rests_same f g wire ports next handles r = record {
  hub = wire ∙ r.hub;
  numbered = (
    subst (λ ps. AreDistinct (map (λ (p : Port). p.number) ps)) (sym ports) (r.numbered).0,
    ap (λ n. below n g.ports) next ∙ ap (below f.next_number) ports ∙ (r.numbered).1,
  );
  handles = λ n. subst (λ ps. FitHandles ps g.next_number n (g.handles n)) (sym ports)
      (subst (λ k. FitHandles f.ports k n (g.handles n)) (sym next)
      (subst (λ (hs : ℕ → List Handle). FitHandles f.ports f.next_number n (hs n)) (sym handles) (r.handles n)));
}

pub gives : (f : Fixed) (h : Handle) → Rests f → Rests (gives_up f h)
gives f h r =
    either Rests (is_received h.kind) (record f { borrowed = put f.borrowed (way_of h) (f.borrowed (way_of h) - 1) }) f
    (λ u. record { hub = r.hub; numbered = r.numbered; handles = r.handles }) (λ u. r)
