-- Walks over ports, place after place.
use Rattle.std.specs.Prelude.{◌≡◌, ℕ, zero, suc, ◌+◌, ◌*◌, ◌<◌, ◌≤◌, Bool, true, false, not, if◌then◌else◌, ◌==◌, List, [], ◌∷◌, ◌++◌, map, filter, take, length, Option, Some, None, is_none, is_some, option_map, slice_get, refl}
use Rattle.std.specs.List.{position_from}
use Rattle.std.specs.Option.{option_map_or, option_to_list}
use Rattle.std.proofs.Common.{sym, ap, ap₂, ◌∙◌, arith, add-one, append-nil, eq-eqb, eqb-true, true≢false}
use Rattle.std.proofs.Math.Nat.{mul-one}
use Rattle.std.proofs.lemmas.Iterator.Adapters.{position_from-zero}
use Rattle.std.proofs.lemmas.Option.{none-some}
use Rattle.iox_model.specs.declared.kind.Role.{Role}
use Rattle.iox_model.specs.declared.kind.Role.TheVariants.{Client, Server}
use Rattle.iox_model.specs.Settings.{is_client, same_role}
use Rattle.iox_lanes.specs.Incomings.{IncomingState, connected}
use Rattle.iox_lanes.specs.Pipes.{PipeState}
use Rattle.iox_tables.specs.HubStates.Tables.{HubSettings, PoolState, PortState, pool_at}
use Rattle.iox_tables.specs.HubStates.Ways.{with_port}
use Rattle.iox_tables.proofs.HubBooks.Totals.{total-last}
use Rattle.iox_hub_ports.specs.declared.info.PortInfo.{PortInfo}
use Rattle.iox_hub_ports.specs.Ports.{info_at, info_of, kept_at, with_connected}
use Rattle.iox_slots.specs.Pools.{place_for_one}
use Rattle.iox_tables.specs.HubMaking.NewPorts.{is_other, pipe_between, width_of}
use Rattle.iox_tables.specs.HubMaking.OneByOne.{all_connected}
use Rattle.iox_control.specs.Controls.{ControlState, with_ports}
use Rattle.iox_control_making.specs.declared.pipes.Link.{Link}
use Rattle.iox_control_making.specs.declared.sizes.Sizes.{Sizes}
use Rattle.iox_control_making.specs.Bounds.{count_of, kept_of, sizes_of}
use Rattle.iox_control_making.specs.Sizes.{sizes_among, with_kept, with_size}
use Rattle.iox_control_making.specs.Links.{all_linked, bare, links_between}

-- ---- one place more

take_next : {A : Type 0} (xs : List A) (i : ℕ) (x : A) → slice_get xs i ≡ Some x → take (suc i) xs ≡ take i xs ++ x ∷ []
take_next [] i x at = absurd (none-some x at)
take_next (y ∷ ys) zero x at = ap (λ o. option_map_or (λ z. z) o y ∷ []) at
take_next (y ∷ ys) (suc i) x at = ap (λ zs. y ∷ zs) (take_next ys i x at)

pub take_more : {A : Type 0} (xs : List A) (i : ℕ) (x : A) → slice_get xs i ≡ Some x → take (i + 1) xs ≡ take i xs ++ x ∷ []
take_more xs i x at = ap (λ n. take n xs) (add-one i) ∙ take_next xs i x at

pub take_whole : {A : Type 0} (xs : List A) (n : ℕ) → length xs ≤ n → take n xs ≡ xs
take_whole [] zero h = refl
take_whole [] (suc n) h = refl
take_whole (x ∷ xs) zero h = absurd (omega arith)
take_whole (x ∷ xs) (suc n) h = ap (λ zs. x ∷ zs) (take_whole xs n (omega arith))

pub port_at : (ports : List PortState) (place : ℕ) (info : PortInfo) → Some info ≡ info_at ports place → (p : PortState) × (slice_get ports place ≡ Some p) × (info ≡ info_of p)
port_at ports place info is = step (slice_get ports place) refl is
  where
    step : (o : Option PortState) → slice_get ports place ≡ o → Some info ≡ option_map info_of o → (p : PortState) × (slice_get ports place ≡ Some p) × (info ≡ info_of p)
    step (Some p) at e = (p, at, ap (λ (z : Option PortInfo). option_map_or (λ y. y) z info) e)
    step None at e = absurd (none-some info (sym e))

-- ---- sizes

count_more : (role : Role) (ps : List PortState) (p : PortState) → count_of role (ps ++ p ∷ []) ≡ count_of role ps + (if same_role p.role role then 1 else 0)
count_more role [] p = step (same_role p.role role)
  where
    step : (b : Bool) → length (map (λ (q : PortState). q.number) (if b then p ∷ [] else [])) ≡ 0 + (if b then 1 else 0)
    step true = refl
    step false = refl
count_more role (q ∷ qs) p = step (same_role q.role role) (count_more role qs p)
  where
    step : (b : Bool) → count_of role (qs ++ p ∷ []) ≡ count_of role qs + (if same_role p.role role then 1 else 0)
        → length (map (λ (q : PortState). q.number) (if b then q ∷ filter (λ q. same_role q.role role) (qs ++ p ∷ []) else filter (λ q. same_role q.role role) (qs ++ p ∷ [])))
        ≡ length (map (λ (q : PortState). q.number) (if b then q ∷ filter (λ q. same_role q.role role) qs else filter (λ q. same_role q.role role) qs)) + (if same_role p.role role then 1 else 0)
    step true rest = omega (arith, rest)
    step false rest = rest

abbrev with_both : Sizes → Role → ℕ → ℕ → Sizes
with_both s role size kept = with_kept (with_size s role size) role size kept

pub sizes_more : (ps : List PortState) (p : PortState) → with_both (sizes_among ps) p.role p.size (length p.expired.pipes) ≡ sizes_among (ps ++ p ∷ [])
sizes_more ps p = λ i. record {
  clients = clients i;
  servers = servers i;
  client_messages = client_messages i;
  server_messages = server_messages i;
  client_kept = client_kept i;
  server_kept = server_kept i;
}
  where
    by_client : (c : ℕ) (r : Role) → (with_both (sizes_among ps) r c (length p.expired.pipes)).clients ≡ count_of Client ps + (if same_role r Client then 1 else 0)
    by_client c Client = refl
    by_client c Server = omega arith

    by_server : (c : ℕ) (r : Role) → (with_both (sizes_among ps) r c (length p.expired.pipes)).servers ≡ count_of Server ps + (if same_role r Server then 1 else 0)
    by_server c Client = omega arith
    by_server c Server = refl

    in_client : (c : ℕ) (r : Role) → (with_both (sizes_among ps) r c (length p.expired.pipes)).client_messages ≡ sizes_of Client ps + (if same_role r Client then c else 0)
    in_client c Client = refl
    in_client c Server = omega arith

    in_server : (c : ℕ) (r : Role) → (with_both (sizes_among ps) r c (length p.expired.pipes)).server_messages ≡ sizes_of Server ps + (if same_role r Server then c else 0)
    in_server c Client = omega arith
    in_server c Server = refl

    at_client : (c : ℕ) (r : Role) → (with_both (sizes_among ps) r c (length p.expired.pipes)).client_kept ≡ kept_of Client ps + (if same_role r Client then length p.expired.pipes * (if is_client r then c else 1) else 0)
    at_client c Client = refl
    at_client c Server = omega arith

    at_server : (c : ℕ) (r : Role) → (with_both (sizes_among ps) r c (length p.expired.pipes)).server_kept ≡ kept_of Server ps + (if same_role r Server then length p.expired.pipes * (if is_client r then c else 1) else 0)
    at_server c Client = omega arith
    at_server c Server = ap (λ n. kept_of Server ps + n) (sym (mul-one (length p.expired.pipes)))

    clients : (with_both (sizes_among ps) p.role p.size (length p.expired.pipes)).clients ≡ count_of Client (ps ++ p ∷ [])
    clients = by_client p.size p.role ∙ sym (count_more Client ps p)

    servers : (with_both (sizes_among ps) p.role p.size (length p.expired.pipes)).servers ≡ count_of Server (ps ++ p ∷ [])
    servers = by_server p.size p.role ∙ sym (count_more Server ps p)

    client_messages : (with_both (sizes_among ps) p.role p.size (length p.expired.pipes)).client_messages ≡ sizes_of Client (ps ++ p ∷ [])
    client_messages = in_client p.size p.role ∙ sym (total-last (λ q. if same_role q.role Client then q.size else 0) ps p)

    server_messages : (with_both (sizes_among ps) p.role p.size (length p.expired.pipes)).server_messages ≡ sizes_of Server (ps ++ p ∷ [])
    server_messages = in_server p.size p.role ∙ sym (total-last (λ q. if same_role q.role Server then q.size else 0) ps p)

    client_kept : (with_both (sizes_among ps) p.role p.size (length p.expired.pipes)).client_kept ≡ kept_of Client (ps ++ p ∷ [])
    client_kept = at_client p.size p.role ∙ sym (total-last (λ q. if same_role q.role Client then length q.expired.pipes * width_of q else 0) ps p)

    server_kept : (with_both (sizes_among ps) p.role p.size (length p.expired.pipes)).server_kept ≡ kept_of Server (ps ++ p ∷ [])
    server_kept = at_server p.size p.role ∙ sym (total-last (λ q. if same_role q.role Server then length q.expired.pipes * width_of q else 0) ps p)

pub sizes_next : (ports : List PortState) (place : ℕ) (info : PortInfo) (s s' s'' : Sizes) (kept : ℕ) → s ≡ sizes_among (take place ports) → Some info ≡ info_at ports place
    → kept ≡ kept_at ports place → s' ≡ with_size s info.role info.size → s'' ≡ with_kept s' info.role info.size kept → s'' ≡ sizes_among (take (place + 1) ports)
sizes_next ports place info s s' s'' kept was at kept_is more is =
    let p = port_at ports place info at in
    is ∙ ap₂ (λ z k. with_kept z info.role info.size k) more (kept_is ∙ ap (λ (o : Option PortState). option_map_or (λ (q : PortState). length q.expired.pipes) o 0) p.1)
    ∙ ap₂ (λ z (i : PortInfo). with_both z i.role i.size (length p.0.expired.pipes)) was p.2
    ∙ sizes_more (take place ports) p.0 ∙ ap sizes_among (sym (take_more ports place p.0 p.1))

-- ---- pipes to a new port

connected_last : (c : IncomingState) (qs : List PipeState) (q : PipeState) → connected (all_connected c qs) q ≡ all_connected c (qs ++ q ∷ [])
connected_last c [] q = refl
connected_last c (r ∷ rs) q = connected_last (connected c r) rs q

passed_last : {A B : Type 0} (f : A → B) (test : A → Bool) (xs : List A) (x : A) → map f (filter test (xs ++ x ∷ [])) ≡ map f (filter test xs) ++ (if test x then f x ∷ [] else [])
passed_last f test [] x = step (test x)
  where
    step : (b : Bool) → map f (if b then x ∷ [] else []) ≡ (if b then f x ∷ [] else [])
    step true = refl
    step false = refl
passed_last f test (y ∷ ys) x = step (test y) (passed_last f test ys x)
  where
    step : (b : Bool) → map f (filter test (ys ++ x ∷ [])) ≡ map f (filter test ys) ++ (if test x then f x ∷ [] else [])
        → map f (if b then y ∷ filter test (ys ++ x ∷ []) else filter test (ys ++ x ∷ [])) ≡ map f (if b then y ∷ filter test ys else filter test ys) ++ (if test x then f x ∷ [] else [])
    step true rest = ap (λ zs. f y ∷ zs) rest
    step false rest = rest

module _ {B : Type 0} (f : PortState → B) (new : PortState) (ports : List PortState) (place : ℕ) (info : PortInfo) (at : Some info ≡ info_at ports place) where
  -- a port of the other role is next
  pub passes_next : (b : B) → is_other (bare info) new ≡ true → ((p : PortState) → info ≡ info_of p → f p ≡ b)
      → map f (filter (λ p. is_other p new) (take (place + 1) ports)) ≡ map f (filter (λ p. is_other p new) (take place ports)) ++ b ∷ []
  passes_next b other shows =
      let p = port_at ports place info at in
      ap (λ ps. map f (filter (λ p. is_other p new) ps)) (take_more ports place p.0 p.1)
      ∙ passed_last f (λ p. is_other p new) (take place ports) p.0
      ∙ ap (λ (t : Bool). map f (filter (λ p. is_other p new) (take place ports)) ++ (if t then f p.0 ∷ [] else [])) (ap (λ (i : PortInfo). is_other (bare i) new) (sym p.2) ∙ other)
      ∙ ap (λ y. map f (filter (λ p. is_other p new) (take place ports)) ++ y ∷ []) (shows p.0 p.2)

  -- a port of the same role is next
  pub fails_next : is_other (bare info) new ≡ false
      → map f (filter (λ p. is_other p new) (take (place + 1) ports)) ≡ map f (filter (λ p. is_other p new) (take place ports))
  fails_next other =
      let p = port_at ports place info at in
      ap (λ ps. map f (filter (λ p. is_other p new) ps)) (take_more ports place p.0 p.1)
      ∙ passed_last f (λ p. is_other p new) (take place ports) p.0
      ∙ ap (λ (t : Bool). map f (filter (λ p. is_other p new) (take place ports)) ++ (if t then f p.0 ∷ [] else [])) (ap (λ (i : PortInfo). is_other (bare i) new) (sym p.2) ∙ other)
      ∙ append-nil (map f (filter (λ p. is_other p new) (take place ports)))

module _ (settings : HubSettings) (new : PortState) (ports : List PortState) (place : ℕ) (info : PortInfo) (at : Some info ≡ info_at ports place) where
  -- what comes in, place after place
  pub comes_next : (first c c' : IncomingState) (q : PipeState) → is_other (bare info) new ≡ true
      → c ≡ all_connected first (map (λ p. pipe_between settings p new) (filter (λ p. is_other p new) (take place ports)))
      → q ≡ pipe_between settings (bare info) new → c' ≡ connected c q
      → c' ≡ all_connected first (map (λ p. pipe_between settings p new) (filter (λ p. is_other p new) (take (place + 1) ports)))
  comes_next first c c' q other was made is =
      is ∙ ap₂ connected was made
      ∙ connected_last first (map (λ p. pipe_between settings p new) (filter (λ p. is_other p new) (take place ports))) (pipe_between settings (bare info) new)
      ∙ ap (all_connected first)
      (sym (passes_next (λ p. pipe_between settings p new) new ports place info at (pipe_between settings (bare info) new) other (λ p e. ap (λ (i : PortInfo). pipe_between settings (bare i) new) (sym e))))

  pub comes_not : (first c : IncomingState) → is_other (bare info) new ≡ false
      → c ≡ all_connected first (map (λ p. pipe_between settings p new) (filter (λ p. is_other p new) (take place ports)))
      → c ≡ all_connected first (map (λ p. pipe_between settings p new) (filter (λ p. is_other p new) (take (place + 1) ports)))
  comes_not first c other was = was ∙ ap (all_connected first) (sym (fails_next (λ p. pipe_between settings p new) new ports place info at other))

  -- what leads to others, place after place
  pub leads_next : (ls ls' : List Link) (q : PipeState) → is_other (bare info) new ≡ true → ls ≡ links_between settings (take place ports) new
      → q ≡ pipe_between settings new (bare info) → ls' ≡ ls ++ record { to = info.number; pipe = q } ∷ []
      → ls' ≡ links_between settings (take (place + 1) ports) new
  leads_next ls ls' q other was made is =
      is ∙ ap₂ (λ ks k. ks ++ record { to = info.number; pipe = k } ∷ []) was made
      ∙ sym (passes_next (λ p. record { to = p.number; pipe = pipe_between settings new p }) new ports place info at (record { to = info.number; pipe = pipe_between settings new (bare info) }) other
      (λ p e. ap (λ (i : PortInfo). record { to = i.number; pipe = pipe_between settings new (bare i) }) (sym e)))

  pub leads_not : (ls : List Link) → is_other (bare info) new ≡ false → ls ≡ links_between settings (take place ports) new → ls ≡ links_between settings (take (place + 1) ports) new
  leads_not ls other was = was ∙ sym (fails_next (λ p. record { to = p.number; pipe = pipe_between settings new p }) new ports place info at other)

-- ---- the connecting

linked_last : (ports : List PortState) (ls : List Link) (l : Link) → all_linked ports (ls ++ l ∷ []) ≡ all_linked (with_port (λ p. with_connected p l.pipe) ports l.to) ls
linked_last ports [] l = refl
linked_last ports (k ∷ ks) l = ap (λ ps. with_port (λ p. with_connected p k.pipe) ps k.to) (linked_last ports ks l)

-- one more is connected, the last of those that are left
pub links_next : (ports : List PortState) (old new : List Link) (l : Link) → old ≡ new ++ option_to_list (Some l)
    → all_linked (with_port (λ p. with_connected p l.pipe) ports l.to) new ≡ all_linked ports old
links_next ports old new l e = sym (linked_last ports new l) ∙ ap (all_linked ports) (sym e)

pub control_next : (a a' : ControlState) (old new : List Link) (l : Link) → a' ≡ with_ports a (with_port (λ p. with_connected p l.pipe) a.tables.ports l.to)
    → old ≡ new ++ option_to_list (Some l) → with_ports a' (all_linked a'.tables.ports new) ≡ with_ports a (all_linked a.tables.ports old)
control_next a a' old new l is e =
    ap (λ (d : ControlState). with_ports d (all_linked d.tables.ports new)) is ∙ ap (with_ports a) (links_next a.tables.ports old new l e)

-- ---- a vacant place

first_none : (m : ℕ) (pools : List (Option PoolState)) (n : ℕ) → ((k : ℕ) → k < n → is_some (pool_at pools k) ≡ true) → is_some (pool_at pools n) ≡ false
    → option_map_or (λ place. place) (position_from is_none m pools) (m + length pools) ≡ m + n
first_none m [] zero before here = refl
first_none m [] (suc n) before here = absurd (true≢false (sym (before 0 (omega arith))))
first_none m (None ∷ os) zero before here = omega arith
first_none m (None ∷ os) (suc n) before here = absurd (true≢false (sym (before 0 (omega arith))))
first_none m (Some q ∷ os) zero before here = absurd (true≢false here)
first_none m (Some q ∷ os) (suc n) before here =
    ap (option_map_or (λ place. place) (position_from is_none (m + 1) os)) (more m (length os))
    ∙ first_none (m + 1) os n (λ k h. before (suc k) (omega (arith, h))) here ∙ more_again m n
  where
    more : (a b : ℕ) → a + suc b ≡ (a + 1) + b
    more a b = omega arith

    more_again : (a b : ℕ) → (a + 1) + b ≡ a + suc b
    more_again a b = omega arith

pub place_is : (pools : List (Option PoolState)) (n : ℕ) → ((k : ℕ) → k < n → is_some (pool_at pools k) ≡ true) → is_some (pool_at pools n) ≡ false
    → n ≡ place_for_one pools
place_is pools n before here =
    sym (ap (λ o. option_map_or (λ place. place) o (length pools)) (position_from-zero is_none pools)
    ∙ ap (option_map_or (λ place. place) (position_from is_none 0 pools)) (more (length pools))
    ∙ first_none 0 pools n before here ∙ sym (more n))
  where
    more : (k : ℕ) → k ≡ 0 + k
    more k = omega arith

-- what `ids` tells of a place
pub is_vacant : {A : Type 0} (f : PoolState → A) (o : Option PoolState) (r : Option A) (b : Bool) → r ≡ option_map f o → is_some r ≡ not b → b ≡ true → is_some o ≡ false
is_vacant f None r b e h t = refl
is_vacant f (Some q) r b e h t = absurd (true≢false (sym (ap (λ z. is_some z) e) ∙ h ∙ ap not t))

pub not_vacant : {A : Type 0} (f : PoolState → A) (pools : List (Option PoolState)) (n : ℕ) (r : Option A) (b : Bool) → r ≡ option_map f (pool_at pools n) → is_some r ≡ not b → b ≡ false
    → ((k : ℕ) → k < n → is_some (pool_at pools k) ≡ true) → (k : ℕ) → k < n + 1 → is_some (pool_at pools k) ≡ true
not_vacant f pools n r b e h t before k below = either (k == n) refl
  where
    there : (o : Option PoolState) → r ≡ option_map f o → is_some o ≡ true
    there (Some q) is = refl
    there None is = absurd (true≢false (sym (ap not t) ∙ sym h ∙ ap (λ z. is_some z) is))

    either : (c : Bool) → (k == n) ≡ c → is_some (pool_at pools k) ≡ true
    either true same = ap (λ j. is_some (pool_at pools j)) (eqb-true k n same) ∙ there (pool_at pools n) e
    either false other = before k (apart (λ is. true≢false (sym (eq-eqb k n is) ∙ other)) below)
      where
        apart : (k ≡ n → ⊥) → k < n + 1 → k < n
        apart differ low = omega (arith, differ, low)
