-- The ways between a node's own ports and those that it did not forget are the wire's.
use Rattle.std.specs.Prelude.{not, ◌&&◌, ◌<◌, map, filter, flat_map, ◌++◌}
use Rattle.std.proofs.Common.{◌≡◌, ℕ, Bool, true, false, ◌==◌, List, [], ◌∷◌, refl, ap, sym, subst, ◌∙◌, inl, inr, true≢false, eq-eqb, eqb-true}
use Rattle.iox_model.specs.declared.kind.Role.{Role}
use Rattle.iox_model.specs.declared.kind.Role.TheVariants.{Client, Server}
use Rattle.iox_model.specs.declared.way.Way.{Way}
use Rattle.iox_model.specs.Maps.{has_number}
use Rattle.iox_model.specs.Messages.{request_way, response_way}
use Rattle.iox_model.specs.Peers.{forgot_port, is_connected_port, is_counted_on, lanes_of, node_of_port, others, ports_of_role}
use Rattle.iox_model.specs.Settings.{same_role}
use Rattle.iox_model.specs.States.{Fixed, Port}
use Rattle.iox_laws.proofs.WeaveLedger.Lists.{IsAmong, NoRepeats, among-any, among-filter, among-map, among-number, any-among, distinct-no_repeats, filter-among, map-among, number-among, only-one}
use Rattle.iox_laws.proofs.WeaveLedger.Truths.{false_if}
use Rattle.iox_word_map.specs.WordMaps.{IsResponseWay}
use Rattle.iox_wire_locals.specs.Tables.{Setting}
use Rattle.iox_wire_laws.specs.WireShows.OwnedCalls.{Each, SendsOn}
use Rattle.iox_wire_laws.specs.WireRegions.OwnedBegins.{IsPortOf, LayoutFits}

pub both : (a b : Bool) → (a && b) ≡ true → (a ≡ true) × (b ≡ true)
both true b e = (refl, e)
both false b e = absurd (true≢false (sym e))

none_if : (b : Bool) → not b ≡ true → b ≡ false
none_if true e = sym e
none_if false e = refl

two_roles : (r : Role) → same_role r Server ≡ true → same_role r Client ≡ true → ⊥
two_roles Client server client = true≢false (sym server)
two_roles Server server client = true≢false (sym client)

-- a connected port of that number and role
pub record HasPort (f : Fixed) (role : Role) (k : ℕ) : Type 0 where
  pub port : Port
  pub among : IsAmong port f.ports
  pub number : port.number ≡ k
  pub role_is : same_role port.role role ≡ true

pub port_with : (f : Fixed) (role : Role) (k : ℕ) → has_number k (ports_of_role f role) ≡ true → HasPort f role k
port_with f role k has =
    let at = map-among (λ (q : Port). q.number) k (filter (λ q. same_role q.role role) f.ports) (number-among k (ports_of_role f role) has) in
    let there = filter-among (λ (q : Port). same_role q.role role) at.0 f.ports at.1 in
    record { port = at.0; among = there.0; number = sym at.2; role_is = there.1 }

pub connected : (f : Fixed) (role : Role) (k : ℕ) → has_number k (ports_of_role f role) ≡ true → is_connected_port f k ≡ true
connected f role k has =
    let h = port_with f role k has in among-any (λ (q : Port). q.number == k) h.port f.ports h.among (eq-eqb h.port.number k h.number)

module _ (p : Setting) (f : Fixed) (fits : LayoutFits p f) where
  once : NoRepeats (map (λ (q : Port). q.number) f.ports)
  once = distinct-no_repeats (map (λ (q : Port). q.number) f.ports) fits.numbers

  same_port : (a b : Port) → IsAmong a f.ports → IsAmong b f.ports → a.number ≡ b.number → a ≡ b
  same_port a b here there same = only-one (λ (q : Port). q.number) a b f.ports once here there same

  no_client : (k : ℕ) → has_number k (ports_of_role f Server) ≡ true → has_number k (ports_of_role f Client) ≡ false
  no_client k server = false_if (has_number k (ports_of_role f Client)) (λ client.
      let a = port_with f Server k server in let b = port_with f Client k client in
      two_roles a.port.role a.role_is
      (subst (λ (q : Port). same_role q.role Client ≡ true) (sym (same_port a.port b.port a.among b.among (a.number ∙ sym b.number))) b.role_is))

  -- ---- others

  module _ (n : ℕ) (role : Role) (k : ℕ) (has : has_number k (others f n role) ≡ true) where
    abbrev Other : Port → Type 0
    Other q = IsAmong q f.ports × (k ≡ q.number) × (same_role q.role role ≡ true) × (has_number q.node (f.forgot n) ≡ false)

    other : (q : Port) × Other q
    other =
        let at = map-among (λ (q : Port). q.number) k (filter (λ q. same_role q.role role && not (has_number q.node (f.forgot n))) f.ports)
        (number-among k (others f n role) has) in
        let there = filter-among (λ (q : Port). same_role q.role role && not (has_number q.node (f.forgot n))) at.0 f.ports at.1 in
        let parts = both (same_role at.0.role role) (not (has_number at.0.node (f.forgot n))) there.1 in
        (at.0, (there.0, at.2, parts.0, none_if (has_number at.0.node (f.forgot n)) parts.1))

    pub of_role : has_number k (ports_of_role f role) ≡ true
    of_role =
        let o = other in
        among-number k (ports_of_role f role)
        (subst (λ i. IsAmong i (ports_of_role f role)) (sym o.1.1)
        (among-map (λ (q : Port). q.number) o.0 (filter (λ q. same_role q.role role) f.ports) (among-filter (λ (q : Port). same_role q.role role) o.0 f.ports o.1.0 o.1.2)))

    pub unforgotten : forgot_port f n k ≡ false
    unforgotten =
        let o = other in
        false_if (forgot_port f n k) (λ e.
        let r = any-among (λ (q : Port). (q.number == k) && has_number q.node (f.forgot n)) f.ports e in
        let t = both (r.0.number == k) (has_number r.0.node (f.forgot n)) r.2 in
        true≢false (sym t.1 ∙ ap (λ (q : Port). has_number q.node (f.forgot n)) (same_port r.0 o.0 r.1 o.1.0 (eqb-true r.0.number k t.0 ∙ o.1.1)) ∙ o.1.3))

  -- ---- ways

  counts : (n : ℕ) (y : Way) → is_connected_port f y.sender ≡ true → node_of_port f y.sender ≡ n → forgot_port f n y.receiver ≡ false → is_counted_on f y ≡ true
  counts n y there node known = rw (there, node, known) refl

  pub request_goes : (n client server : ℕ) → IsPortOf f n Client client → has_number server (others f n Server) ≡ true → SendsOn p n f (request_way client server)
  request_goes n client server own has = record {
    way = inl (rw fits.clients own.0, rw fits.servers (of_role n Server server has), refl);
    mine = fits.owner client (connected f Client client own.0) ∙ own.1;
    counted = counts n (request_way client server) (connected f Client client own.0) own.1 (unforgotten n Server server has);
  }

  pub is_response : (client lane server : ℕ) → has_number client (ports_of_role f Client) ≡ true → has_number server (ports_of_role f Server) ≡ true
      → lane < lanes_of f client → IsResponseWay p.layout.sizes (response_way client lane server)
  is_response client lane server has there low =
      (rw fits.clients (no_client server there), rw fits.servers there, rw fits.clients has, subst (λ k. lane < k) (sym (fits.lanes client has)) low)

  pub response_goes : (n client lane server : ℕ) → IsPortOf f n Server server → has_number client (others f n Client) ≡ true → lane < lanes_of f client
      → SendsOn p n f (response_way client lane server)
  response_goes n client lane server own has low = record {
    way = inr (is_response client lane server (of_role n Client client has) own.0 low);
    mine = fits.owner server (connected f Server server own.0) ∙ own.1;
    counted = counts n (response_way client lane server) (connected f Server server own.0) own.1 (unforgotten n Client client has);
  }

-- ---- each of a list

pub each_map : {A : Type 0} (P : Way → Type 0) (g : A → Way) (xs : List A) → ((a : A) → IsAmong a xs → P (g a)) → Each P (map g xs)
each_map P g [] all = tt
each_map P g (x ∷ xs) all = (all x (inl refl), each_map P g xs (λ a there. all a (inr there)))

each_append : (P : Way → Type 0) (xs ys : List Way) → Each P xs → Each P ys → Each P (xs ++ ys)
each_append P [] ys here there = there
each_append P (x ∷ xs) ys here there = (here.0, each_append P xs ys here.1 there)

pub each_flat : (P : Way → Type 0) (g : ℕ → List Way) (xs : List ℕ) → ((a : ℕ) → IsAmong a xs → Each P (g a)) → Each P (flat_map g xs)
each_flat P g [] all = tt
each_flat P g (x ∷ xs) all = each_append P (g x) (flat_map g xs) (all x (inl refl)) (each_flat P g xs (λ a there. all a (inr there)))
