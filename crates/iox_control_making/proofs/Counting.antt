-- How many lanes there are between ports, and how many handles may come, by roles and sizes only.
use Rattle.std.specs.Prelude.{◌≡◌, ◌⊎◌, ℕ, suc, ◌+◌, ◌*◌, ◌-◌, ◌≤◌, Bool, true, false, if◌then◌else◌, ◌==◌, List, [], ◌∷◌, ◌++◌, map, filter, length, Option, Some, is_some, slice_get, refl}
use Rattle.std.specs.Option.{option_map_or}
use Rattle.std.proofs.Common.{sym, ap, ap₂, ◌∙◌, arith, inl, inr}
use Rattle.std.proofs.Math.Nat.{add-mul, mul-add, mul-one, mul-zero, mul_assoc, suc-mul, zero-mul}
use Rattle.std.proofs.lemmas.Bool.{or_parts}
use Rattle.iox_model.specs.declared.kind.Role.{Role}
use Rattle.iox_model.specs.declared.kind.Role.TheVariants.{Client, Server}
use Rattle.iox_model.specs.declared.way.Way.{Way}
use Rattle.iox_model.specs.Maps.{AreDistinct, has_number}
use Rattle.iox_model.specs.Settings.{is_client, other_role, same_role}
use Rattle.iox_laws.proofs.WeaveLaws.MapLemmas.{eqb-refl}
use Rattle.iox_lanes.specs.Lanes.{LaneState}
use Rattle.iox_lanes.specs.Pipes.{PipeState}
use Rattle.iox_tables.specs.HubStates.Tables.{HubTables, PortState, first_by, numbers_of, pipe_from, pipes_of, pipes_to, port_in, senders_of}
use Rattle.iox_tables.specs.HubStates.Ways.{lane_on, lanes_from}
use Rattle.iox_tables.specs.HubStates.Wirings.{limit_from, numbers_of_role}
use Rattle.iox_tables.proofs.HubStates.Keys.{flip, has_some}
use Rattle.iox_tables.specs.HubBooks.Counts.{OfAll, in_pipe, in_port, on_lanes, total}
use Rattle.iox_tables.specs.HubBooks.Hubs.{AreInOrder}
use Rattle.iox_tables.specs.HubBooks.Rooms.{own_count, spare}
use Rattle.iox_tables.proofs.HubBooks.Bounds.{lanes_below}
use Rattle.iox_tables.proofs.HubBooks.Eachs.{OfPipe, OfPort, all_from}
use Rattle.iox_tables.proofs.HubMaking.Connecting.{other_twice, same_roles}
use Rattle.iox_tables.proofs.HubMaking.Firsts.{first_among, has_first}
use Rattle.iox_tables.proofs.HubKeeping.NewPorts.{some_is}
use Rattle.iox_tables.proofs.HubKeeping.Ordered.{names_apart}
use Rattle.iox_control_making.specs.Bounds.{LanesAreCounted, NoMoreMayCome, count_of, kept_of, sizes_of}
use Rattle.iox_tables.specs.HubMaking.NewPorts.{width_of}
use Rattle.iox_tables.proofs.HubBooks.Frames.{length_map}

-- ---- lists

all_both : {A : Type 0} (P Q R : A → Type 0) → ((x : A) → P x → Q x → R x) → (xs : List A) → OfAll P xs → OfAll Q xs → OfAll R xs
all_both P Q R from [] a b = tt
all_both P Q R from (x ∷ xs) a b = (from x a.0 b.0, all_both P Q R from xs a.1 b.1)

pub all_by_get : {A : Type 0} (P : A → Type 0) (xs : List A) → ((i : ℕ) (x : A) → slice_get xs i ≡ Some x → P x) → OfAll P xs
all_by_get P [] each = tt
all_by_get P (x ∷ xs) each = (each 0 x refl, all_by_get P xs (λ i y at. each (suc i) y at))

-- where numbers differ, each is found by its own
pub each_first : {A : Type 0} (key : A → ℕ) (xs : List A) → AreDistinct (map key xs) → OfAll (λ x. first_by key xs (key x) ≡ Some x) xs
each_first key [] apart = tt
each_first {A = A} key (x ∷ xs) apart = (
  ap (λ (b : Bool). if b then Some x else first_by key xs (key x)) (eqb-refl (key x)),
  all_both (λ y. (key x == key y) ≡ false) (λ y. first_by key xs (key y) ≡ Some y) (λ y. first_by key (x ∷ xs) (key y) ≡ Some y)
      (λ y other found. ap (λ (b : Bool). if b then Some x else first_by key xs (key y)) other ∙ found) xs (others xs apart.0) (each_first key xs apart.1),
)
  where
    others : (ys : List A) → has_number (key x) (map key ys) ≡ false → OfAll (λ y. (key x == key y) ≡ false) ys
    others [] e = tt
    others (y ∷ ys) e =
        let parts = or_parts (key y == key x) (has_number (key x) (map key ys)) e in
        (flip (key x) (key y) ∙ parts.0, others ys parts.1)

total_is : {A : Type 0} (f g : A → ℕ) (xs : List A) → OfAll (λ x. f x ≡ g x) xs → total f xs ≡ total g xs
total_is f g [] a = refl
total_is f g (x ∷ xs) a = ap₂ (λ (a b : ℕ). a + b) a.0 (total_is f g xs a.1)

-- where each counts the same
total_times : {A : Type 0} (f : A → ℕ) (k : ℕ) (xs : List A) → OfAll (λ x. f x ≡ k) xs → total f xs ≡ length xs * k
total_times f k [] a = sym (zero-mul k)
total_times f k (x ∷ xs) a =
    ap₂ (λ (a b : ℕ). a + b) a.0 (total_times f k xs a.1) ∙ turned k (length xs * k) ∙ sym (suc-mul (length xs) k)
  where
    turned : (a b : ℕ) → a + b ≡ b + a
    turned a b = omega arith

-- who is among those of a role is a connected port of the role
pub among_role : (role : Role) (ports : List PortState) (n : ℕ) → AreDistinct (numbers_of ports) → has_number n (numbers_of_role role ports) ≡ true
    → (p : PortState) × (port_in ports n ≡ Some p) × (p.role ≡ role)
among_role role ports n apart has =
    let first = some_is (first_by (λ (p : PortState). p.number) (filter (λ p. same_role p.role role) ports) n) (sym (has_first (λ (p : PortState). p.number) (filter (λ p. same_role p.role role) ports) n) ∙ has) in
    let among = first_among (λ (p : PortState). p.number) (λ p. same_role p.role role) ports n first.0 apart first.1 in
    (first.0, among.0, same_roles first.0.role role among.1)

-- ---- what lanes count that count alike for each receiver of a role

total_both : {A : Type 0} (f g h : A → ℕ) → ((x : A) → f x ≡ g x + h x) → (xs : List A) → total f xs ≡ total g xs + total h xs
total_both f g h is [] = refl
total_both f g h is (x ∷ xs) = let one = is x in let rest = total_both f g h is xs in omega (arith, one, rest)

no_more : (i : ℕ) → 0 + i ≡ i
no_more i = omega arith

-- the first of a sender is among those from ports that are gone, or among those from connected ones
first_either : (es qs : List PipeState) (n : ℕ) (q : PipeState) → pipe_from (es ++ qs) n ≡ Some q → (pipe_from es n ≡ Some q) ⊎ (pipe_from qs n ≡ Some q)
first_either [] qs n q at = inr at
first_either (e ∷ es) qs n q at = step (e.sender == n) (first_either es qs n q) at
  where
    step : (b : Bool) → (pipe_from (es ++ qs) n ≡ Some q → (pipe_from es n ≡ Some q) ⊎ (pipe_from qs n ≡ Some q)) → (if b then Some e else pipe_from (es ++ qs) n) ≡ Some q
        → ((if b then Some e else pipe_from es n) ≡ Some q) ⊎ (pipe_from qs n ≡ Some q)
    step true rest is = inl is
    step false rest is = rest is

both_length : {A : Type 0} (xs ys : List A) → length (xs ++ ys) ≡ length xs + length ys
both_length [] ys = omega arith
both_length (x ∷ xs) ys = let rest = both_length xs ys in omega (arith, rest)

module _ (t : HubTables) (order : AreInOrder t) (f : LaneState → ℕ) (b : Role → ℕ)
    (alike : (w : Way) (l : LaneState) (p : PortState) → lane_on t.ports w ≡ Some l → port_in t.ports w.receiver ≡ Some p → f l ≡ b p.role)
  where
    module _ (p : PortState) (there : port_in t.ports p.number ≡ Some p) where
      senders : senders_of p.incoming.pipes ≡ numbers_of_role (other_role p.role) t.ports
      senders = (order.wired.each p.number p there).senders

      pipes_to_it : pipes_to t.ports p.number ≡ pipes_of p
      pipes_to_it = ap (λ (o : Option PortState). option_map_or pipes_of o []) there

      each_lane : (q : PipeState) → pipe_from (pipes_of p) q.sender ≡ Some q → OfAll (λ l. f l ≡ b p.role) q.lanes
      each_lane q found =
          all_by_get (λ l. f l ≡ b p.role) q.lanes
          (λ i l at. alike (record { sender = q.sender; receiver = p.number; lane = i }) l p
          (ap (λ ps. slice_get (lanes_from ps q.sender) i) pipes_to_it ∙ ap (λ (o : Option PipeState). slice_get (option_map_or (λ x. x.lanes) o []) i) found ∙ at)
          there)

      wide : (q : PipeState) → pipe_from (pipes_of p) q.sender ≡ Some q → length q.lanes ≡ width_of p
      wide q found = either (first_either p.expired.pipes p.incoming.pipes q.sender q found)
        where
          either : (pipe_from p.expired.pipes q.sender ≡ Some q) ⊎ (pipe_from p.incoming.pipes q.sender ≡ Some q) → length q.lanes ≡ width_of p
          either (inl gone) = (order.wired.kept p.number p there).wide q.sender q gone
          either (inr incoming) =
              let has : has_number q.sender (numbers_of_role (other_role p.role) t.ports) ≡ true
              = ap (has_number q.sender) (sym senders) ∙ has_some p.incoming.pipes q.sender ∙ ap (λ (o : Option PipeState). is_some o) incoming in
              let from = among_role (other_role p.role) t.ports q.sender (names_apart t order) has in
              let number : q.sender ≡ from.0.number = sym (first_is t.ports q.sender from.0 from.1) in
              let lanes = (order.widths p.number q.sender p from.0 there from.1 (other_twice p.role ∙ ap other_role (sym from.2))).lanes in
              sym (ap (λ n. length (lanes_from (pipes_of p) n)) (sym number) ∙ ap (λ (o : Option PipeState). length (option_map_or (λ x. x.lanes) o [])) found) ∙ lanes
            where
              first_is : (ports : List PortState) (n : ℕ) (x : PortState) → port_in ports n ≡ Some x → x.number ≡ n
              first_is ports n x at = Rattle.iox_tables.proofs.HubStates.Fixing.first_key (λ (y : PortState). y.number) ports n x at

      one_pipe : (q : PipeState) → pipe_from (pipes_of p) q.sender ≡ Some q → in_pipe f q ≡ width_of p * b p.role
      one_pipe q found = total_times f (b p.role) q.lanes (each_lane q found) ∙ ap (λ n. n * b p.role) (wide q found)

      how_many : length (pipes_of p) ≡ count_of (other_role p.role) t.ports + length p.expired.pipes
      how_many =
          let both = both_length p.expired.pipes p.incoming.pipes in
          let connected : length p.incoming.pipes ≡ count_of (other_role p.role) t.ports
          = sym (length_map (λ q. q.sender) p.incoming.pipes) ∙ ap (λ (ns : List ℕ). length ns) senders in omega (arith, both, connected)

      one_port : in_port f p ≡ (count_of (other_role p.role) t.ports + length p.expired.pipes) * (width_of p * b p.role)
      one_port =
          total_times (in_pipe f) (width_of p * b p.role) (pipes_of p)
          (all_from (λ q. pipe_from (pipes_of p) q.sender ≡ Some q) (λ q. in_pipe f q ≡ width_of p * b p.role) one_pipe (pipes_of p)
          (each_first (λ q. q.sender) (pipes_of p) (order.wired.each p.number p there).apart))
          ∙ ap (λ n. n * (width_of p * b p.role)) how_many

    by_port : on_lanes f t.ports ≡ total (λ p. (count_of (other_role p.role) t.ports + length p.expired.pipes) * (width_of p * b p.role)) t.ports
    by_port =
        total_is (in_port f) (λ p. (count_of (other_role p.role) t.ports + length p.expired.pipes) * (width_of p * b p.role)) t.ports
        (all_from (λ p. port_in t.ports p.number ≡ Some p) (λ p. in_port f p ≡ (count_of (other_role p.role) t.ports + length p.expired.pipes) * (width_of p * b p.role)) one_port t.ports
        (each_first (λ (p : PortState). p.number) t.ports (names_apart t order)))

    apart : (all ps : List PortState)
        → total (λ p. (count_of (other_role p.role) all + length p.expired.pipes) * (width_of p * b p.role)) ps
        ≡ total (λ p. count_of (other_role p.role) all * (width_of p * b p.role)) ps + total (λ p. length p.expired.pipes * (width_of p * b p.role)) ps
    apart all ps =
        total_both (λ p. (count_of (other_role p.role) all + length p.expired.pipes) * (width_of p * b p.role)) (λ p. count_of (other_role p.role) all * (width_of p * b p.role))
        (λ p. length p.expired.pipes * (width_of p * b p.role)) (λ p. add-mul (count_of (other_role p.role) all) (length p.expired.pipes) (width_of p * b p.role)) ps

    -- the sum over all ports, role by role
    by_role : (all ps : List PortState)
        → total (λ p. count_of (other_role p.role) all * (width_of p * b p.role)) ps
        ≡ count_of Server all * (sizes_of Client ps * b Client) + count_of Server ps * (count_of Client all * b Server)
    by_role all [] = sym (none (count_of Server all) (b Client) (count_of Client all * b Server))
      where
        none : (s c d : ℕ) → s * (0 * c) + 0 * d ≡ 0
        none s c d = ap₂ (λ x y. x + y) (ap (λ n. s * n) (zero-mul c) ∙ mul-zero s) (zero-mul d)
    by_role all (p ∷ ps) = step p.role (by_role all ps)
      where
        step : (r : Role) → total (λ p. count_of (other_role p.role) all * (width_of p * b p.role)) ps ≡ count_of Server all * (sizes_of Client ps * b Client) + count_of Server ps * (count_of Client all * b Server)
            → count_of (other_role r) all * ((if is_client r then p.size else 1) * b r) + total (λ p. count_of (other_role p.role) all * (width_of p * b p.role)) ps
            ≡ count_of Server all * (((if same_role r Client then p.size else 0) + sizes_of Client ps) * b Client)
            + length (map (λ q. q.number) (if same_role r Server then p ∷ filter (λ q. same_role q.role Server) ps else filter (λ q. same_role q.role Server) ps)) * (count_of Client all * b Server)
        step Client rest = client (count_of Server all) p.size (sizes_of Client ps) (b Client) (count_of Server ps * (count_of Client all * b Server)) _ rest
          where
            client : (s k z c r x : ℕ) → x ≡ s * (z * c) + r → s * (k * c) + x ≡ s * ((k + z) * c) + r
            client s k z c r x e =
                let parts : s * ((k + z) * c) ≡ s * (k * c) + s * (z * c) = ap (λ n. s * n) (add-mul k z c) ∙ mul-add s (k * c) (z * c) in omega (arith, parts, e)
        step Server rest = server (count_of Server all) (sizes_of Client ps) (b Client) (count_of Server ps) (count_of Client all) (b Server) _ rest
          where
            server : (s z k n c d x : ℕ) → x ≡ s * (z * k) + n * (c * d) → c * (1 * d) + x ≡ s * ((0 + z) * k) + suc n * (c * d)
            server s z k n c d x e =
                let one : c * (1 * d) ≡ c * d = ap (λ i. c * i) (once d) in
                let none : s * ((0 + z) * k) ≡ s * (z * k) = ap (λ i. s * (i * k)) (no_more z) in
                let more : suc n * (c * d) ≡ n * (c * d) + c * d = suc-mul n (c * d) in omega (arith, one, none, more, e)
              where
                once : (i : ℕ) → 1 * i ≡ i
                once i = omega arith

    -- the same of what they keep
    kept_by_role : (ps : List PortState) → total (λ p. length p.expired.pipes * (width_of p * b p.role)) ps ≡ kept_of Client ps * b Client + kept_of Server ps * b Server
    kept_by_role [] = sym (ap₂ (λ x y. x + y) (zero-mul (b Client)) (zero-mul (b Server)))
    kept_by_role (p ∷ ps) = step p.role (kept_by_role ps)
      where
        step : (r : Role) → total (λ p. length p.expired.pipes * (width_of p * b p.role)) ps ≡ kept_of Client ps * b Client + kept_of Server ps * b Server
            → length p.expired.pipes * ((if is_client r then p.size else 1) * b r) + total (λ p. length p.expired.pipes * (width_of p * b p.role)) ps
            ≡ ((if same_role r Client then length p.expired.pipes * (if is_client r then p.size else 1) else 0) + kept_of Client ps) * b Client
            + ((if same_role r Server then length p.expired.pipes * (if is_client r then p.size else 1) else 0) + kept_of Server ps) * b Server
        step Client rest = client (length p.expired.pipes) p.size (b Client) (kept_of Client ps) (kept_of Server ps) (b Server) _ rest
          where
            client : (k w c z r d x : ℕ) → x ≡ z * c + r * d → k * (w * c) + x ≡ (k * w + z) * c + (0 + r) * d
            client k w c z r d x e =
                let parts : (k * w + z) * c ≡ k * (w * c) + z * c = add-mul (k * w) z c ∙ ap (λ n. n + z * c) (mul_assoc k w c) in
                let none : (0 + r) * d ≡ r * d = ap (λ n. n * d) (no_more r) in omega (arith, parts, none, e)
        step Server rest = server (length p.expired.pipes) (kept_of Client ps) (b Client) (kept_of Server ps) (b Server) _ rest
          where
            server : (k z c r d x : ℕ) → x ≡ z * c + r * d → k * (1 * d) + x ≡ (0 + z) * c + (k * 1 + r) * d
            server k z c r d x e =
                let parts : (k * 1 + r) * d ≡ k * (1 * d) + r * d = add-mul (k * 1) r d ∙ ap (λ n. n + r * d) (mul_assoc k 1 d) in
                let none : (0 + z) * c ≡ z * c = ap (λ n. n * c) (no_more z) in omega (arith, parts, none, e)

    pub lanes_count : on_lanes f t.ports
        ≡ count_of Server t.ports * (sizes_of Client t.ports * b Client + count_of Client t.ports * b Server) + (kept_of Client t.ports * b Client + kept_of Server t.ports * b Server)
    lanes_count =
        by_port ∙ apart t.ports t.ports
        ∙ ap₂ (λ x y. x + y)
        (by_role t.ports t.ports ∙ sym (mul-add (count_of Server t.ports) (sizes_of Client t.ports * b Client) (count_of Client t.ports * b Server)))
        (kept_by_role t.ports)

pub lanes_are_counted : LanesAreCounted
lanes_are_counted t order =
    lanes_count t order (λ l. 1) (λ r. 1) (λ w l p at to. refl)
    ∙ ap₂ (λ x y. x + y)
    (ap₂ (λ a b. count_of Server t.ports * (a + b)) (mul-one (sizes_of Client t.ports)) (mul-one (count_of Client t.ports)))
    (ap₂ (λ a b. a + b) (mul-one (kept_of Client t.ports)) (mul-one (kept_of Server t.ports)))

-- ---- handles

limits : (t : HubTables) → AreInOrder t
    → on_lanes (λ l. l.limit) t.ports
    ≡ count_of Server t.ports * (sizes_of Client t.ports * t.settings.borrowed_responses + count_of Client t.ports * t.settings.active_requests)
    + (kept_of Client t.ports * t.settings.borrowed_responses + kept_of Server t.ports * t.settings.active_requests)
limits t order =
    lanes_count t order (λ l. l.limit) (λ r. limit_from t.settings (other_role r))
    (λ w l p at to. order.wired.limits w l at ∙ ap (λ (o : Option PortState). limit_from t.settings (other_role (option_map_or (λ (q : PortState). q.role) o Client))) to)

all_so : {A : Type 0} (P : A → Type 0) → ((x : A) → P x) → (xs : List A) → OfAll P xs
all_so P is [] = tt
all_so P is (x ∷ xs) = (is x, all_so P is xs)

spares : (ports : List PortState) → on_lanes spare ports ≤ on_lanes (λ l. l.limit) ports
spares ports =
    lanes_below spare (λ l. l.limit) ports
    (all_so (OfPort (λ l. spare l ≤ l.limit)) (λ p. all_so (OfPipe (λ l. spare l ≤ l.limit)) (λ q. all_so (λ l. spare l ≤ l.limit) (λ l. less l.limit (length l.taken)) q.lanes) (pipes_of p)) ports)
  where
    less : (a b : ℕ) → a - b ≤ a
    less a b = omega arith

owns : (own : PortState → ℕ) (ports : List PortState) → total (λ p. p.size - own p) ports ≤ sizes_of Client ports + sizes_of Server ports
owns own [] = omega arith
owns own (p ∷ ps) = step p.role (owns own ps)
  where
    step : (r : Role) → total (λ p. p.size - own p) ps ≤ sizes_of Client ps + sizes_of Server ps
        → (p.size - own p) + total (λ p. p.size - own p) ps
        ≤ ((if same_role r Client then p.size else 0) + sizes_of Client ps) + ((if same_role r Server then p.size else 0) + sizes_of Server ps)
    step Client rest = omega (arith, rest)
    step Server rest = omega (arith, rest)

pub no_more_may_come : NoMoreMayCome
no_more_may_come t order =
    all (limits t order) (spares t.ports) (owns (own_count t.handles) t.ports)
  where
    all : {a b c d e : ℕ} → a ≡ e → b ≤ a → c ≤ d → b + c ≤ e + d
    all p q r = omega (arith, p, q, r)
