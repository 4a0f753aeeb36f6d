-- What a node knows of peers, strategies and counts is what the machine says of them.
use Rattle.std.specs.Prelude.{map, filter, find}
use Rattle.std.specs.List.{list_any}
use Rattle.std.specs.Option.{option_map_or}
use Rattle.std.proofs.Common.{◌≡◌, ℕ, suc, Bool, true, false, if◌then◌else◌, ◌&&◌, ◌==◌, List, [], ◌∷◌, length, Option, Some, refl, ap, sym, subst, ◌∙◌}
use Rattle.iox_model.specs.declared.kind.Kind.{Kind}
use Rattle.iox_model.specs.declared.kind.Role.{Role}
use Rattle.iox_model.specs.declared.kind.Role.TheVariants.{Client, Server}
use Rattle.iox_model.specs.declared.way.Way.{Way}
use Rattle.iox_model.specs.Handles.{count_of, way_of, is_response_loan}
use Rattle.iox_model.specs.Loans.{loans_of_request, lending_ways}
use Rattle.iox_model.specs.Receives.{server_ways, pending_ways}
use Rattle.iox_model.specs.Peers.{forgot_port, others, role_at, node_of_port}
use Rattle.iox_model.specs.Releases.{states_of}
use Rattle.iox_model.specs.Requests.{port_fails, fails_at}
use Rattle.iox_model.specs.States.{Port, Handle, Fixed}
use Rattle.iox_wire_moments.specs.MomentsOf.{Pools}
use Rattle.iox_wire_locals.specs.declared.table.Entry.{Entry}
use Rattle.iox_wire_locals.specs.declared.seat.Seat.{Seat}
use Rattle.iox_wire_locals.specs.Tables.{Setting, handle_of, way_in}
use Rattle.iox_wire_locals.specs.Known.{told_handle, known}
use Rattle.iox_wire_locals.specs.Knowing.{Knows}

-- so many entries of a port are such
abbrev pub count_in : (Entry → Bool) → ℕ → List Entry → ℕ
count_in told port table = length (filter told (filter (λ e. e.port == port) table))

-- entries tell of their handles what is counted
pub counted : (g : Entry → Handle) (test : Handle → Bool) (told : Entry → Bool) → ((e : Entry) → test (g e) ≡ told e)
    → ((e : Entry) → (g e).port ≡ e.port) → (port : ℕ) (table : List Entry)
    → length (filter test (filter (λ h. h.port == port) (map g table))) ≡ count_in told port table
counted g test told tells ports port [] = refl
counted g test told tells ports port (e ∷ es) =
    subst (λ c. length (filter test (filter (λ h. h.port == port) (map g (e ∷ es))))
    ≡ length (filter told (if c then e ∷ filter (λ x. x.port == port) es else filter (λ x. x.port == port) es)))
    (ap (λ n. n == port) (ports e)) (by_port ((g e).port == port) (counted g test told tells ports port es))
  where
    with_first : length (filter test (filter (λ h. h.port == port) (map g es))) ≡ count_in told port es
        → (c : Bool) → length (if c then g e ∷ filter test (filter (λ h. h.port == port) (map g es)) else filter test (filter (λ h. h.port == port) (map g es)))
        ≡ length (if c then e ∷ filter told (filter (λ x. x.port == port) es) else filter told (filter (λ x. x.port == port) es))
    with_first rest true = ap suc rest
    with_first rest false = rest

    by_port : (b : Bool) → length (filter test (filter (λ h. h.port == port) (map g es))) ≡ count_in told port es
        → length (filter test (if b then g e ∷ filter (λ h. h.port == port) (map g es) else filter (λ h. h.port == port) (map g es)))
        ≡ length (filter told (if b then e ∷ filter (λ x. x.port == port) es else filter (λ x. x.port == port) es))
    by_port true rest =
        subst (λ c. length (if test (g e) then g e ∷ filter test (filter (λ h. h.port == port) (map g es)) else filter test (filter (λ h. h.port == port) (map g es)))
        ≡ length (if c then e ∷ filter told (filter (λ x. x.port == port) es) else filter told (filter (λ x. x.port == port) es)))
        (tells e) (with_first rest (test (g e)))
    by_port false rest = rest

module _ (p : Setting) (x : Seat) (f : Fixed) (held : Pools) (k : Knows p x f held) where
  pub others_known : (role : Role) → others f x.node role ≡ others (known p x) x.node role
  others_known role = rw k.ports (rw k.forgot refl)

  pub forgot_known : (port : ℕ) → forgot_port f x.node port ≡ forgot_port (known p x) x.node port
  forgot_known port = rw k.ports (rw k.forgot refl)

  pub role_known : (port : ℕ) → role_at f port ≡ role_at (known p x) port
  role_known port = rw k.ports refl

  -- no handler decides, so strategies do
  pub fails_known : (w : Way) → fails_at f w ≡ fails_at (known p x) w
  fails_known w = rw k.ports (among p.layout.sizes.ports)
    where
      one : (n : ℕ) → port_fails f (p.port n) w ≡ port_fails (known p x) (p.port n) w
      one n = rw (k.unhandled n) refl

      by_case : (b : Bool) (n : ℕ) (q : Option Port)
          → option_map_or (λ r. port_fails f r w) q false ≡ option_map_or (λ r. port_fails (known p x) r w) q false
          → option_map_or (λ r. port_fails f r w) (if b then Some (p.port n) else q) false
          ≡ option_map_or (λ r. port_fails (known p x) r w) (if b then Some (p.port n) else q) false
      by_case true n q rest = one n
      by_case false n q rest = rest

      among : (ns : List ℕ)
          → option_map_or (λ r. port_fails f r w) (find (λ r. r.number == w.sender) (map p.port ns)) false
          ≡ option_map_or (λ r. port_fails (known p x) r w) (find (λ r. r.number == w.sender) (map p.port ns)) false
      among [] = refl
      among (n ∷ ns) = by_case ((p.port n).number == w.sender) n (find (λ r. r.number == w.sender) (map p.port ns)) (among ns)

  pub any_fails_known : (ways : List Way) → list_any (fails_at f) ways ≡ list_any (fails_at (known p x)) ways
  any_fails_known [] = refl
  any_fails_known (w ∷ ws) = rw (fails_known w) (rw (any_fails_known ws) refl)

  pub count_known : (port : ℕ) (test : Kind → Bool) → node_of_port f port ≡ x.node
      → count_of f port test ≡ count_of (known p x) port test
  count_known port test own = rw own (rw k.handles (
      counted (handle_of held x.node) (λ h. test h.kind) (λ e. test e.kind) (λ e. refl) (λ e. refl) port x.table
      ∙ sym (counted (told_handle p x.node) (λ h. test h.kind) (λ e. test e.kind) (λ e. refl) (λ e. refl) port x.table)))

  -- whether an entry is a loan of a response to the request of that one
  abbrev answers : Entry → Entry → Bool
  answers e l = is_response_loan l.kind && ((l.client == e.client) && (l.request == e.request))

  pub loans_known : (e : Entry) → node_of_port f e.port ≡ x.node
      → loans_of_request f (handle_of held x.node e) ≡ loans_of_request (known p x) (told_handle p x.node e)
  loans_known e own = rw own (rw k.handles (
      counted (handle_of held x.node) (λ l. is_response_loan l.kind && ((l.client == e.client) && (l.request == e.request))) (answers e) (λ l. refl) (λ l. refl) e.port x.table
      ∙ sym (counted (told_handle p x.node) (λ l. is_response_loan l.kind && ((l.client == e.client) && (l.request == e.request))) (answers e) (λ l. refl) (λ l. refl) e.port x.table)))

  pub states_known : (e : Entry) → states_of f (handle_of held x.node e) ≡ states_of (known p x) (told_handle p x.node e)
  states_known e = rw (others_known Server) (rw (others_known Client) refl)

  pub way_known : (e : Entry) → way_of (handle_of held x.node e) ≡ way_in e
  way_known e = rw (k.sent e.sender e.slot) refl

  -- a loan gets back from the same ways
  pub lending_known : (h : Handle) → h.node ≡ x.node → lending_ways f h ≡ lending_ways (known p x) h
  lending_known h mine = rw mine (rw (others_known Server) (rw (others_known Client) (rw k.ports refl)))

  -- with nothing expired, receives visit the same ways
  pub pending_known : (e : Entry) → f.expired e.port ≡ []
      → pending_ways f (handle_of held x.node e) ≡ pending_ways (known p x) (told_handle p x.node e)
  pending_known e none = rw none (rw k.ports refl)

  pub server_known : (q : Port) → f.expired q.number ≡ [] → q.node ≡ x.node
      → server_ways f q ≡ server_ways (known p x) q
  server_known q none mine = rw k.limits (rw none (rw mine (rw (others_known Client) (rw k.ports refl))))
