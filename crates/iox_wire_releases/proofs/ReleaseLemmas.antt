-- What the invariant of a wire says of a handle is what its release asks.
use Rattle.std.proofs.Common.{◌≡◌, ℕ, ◌<◌, ◌==◌, Bool, true, false, if◌then◌else◌, refl, ap, sym, subst, ◌∙◌, eqb-true, true≢false}
use Rattle.std.proofs.lemmas.Option.{same_Some}
use Rattle.iox_model.specs.declared.kind.Kind.{Kind}
use Rattle.iox_model.specs.declared.kind.Kind.TheVariants.{ActiveRequest, Response}
use Rattle.iox_model.specs.declared.kind.Role.{Role}
use Rattle.iox_model.specs.declared.kind.Role.TheVariants.{Client, Server}
use Rattle.iox_model.specs.Handles.{kind_code, same_kind}
use Rattle.iox_model.specs.Maps.{has_number}
use Rattle.iox_model.specs.Messages.{request_way, response_way}
use Rattle.iox_model.specs.Peers.{lanes_of, ports_of_role}
use Rattle.iox_model.specs.Settings.{same_role}
use Rattle.iox_model.specs.States.{Fixed}
use Rattle.iox_word_map.specs.WordMaps.{IsResponseWay}
use Rattle.iox_word_places.specs.declared.plan.PlanPort.{PlanPort}
use Rattle.iox_word_places.specs.declared.plan.WirePlan.{WirePlan}
use Rattle.iox_word_places.specs.Plans.{IsPlan, layout_of, sizes_of}
use Rattle.iox_word_places.proofs.PortLemmas.{port_named}
use Rattle.iox_wire_words.specs.Programs.{WireLayout}
use Rattle.iox_wire_locals.specs.Tables.{Setting}
use Rattle.iox_wire_laws.specs.WireRegions.OwnedBegins.{LayoutFits}
use Rattle.iox_wire_releases.specs.ReleaseLaws.{HandlesMayBeReleased}

two_roles : (r : Role) → same_role r Server ≡ true → same_role r Client ≡ true → ⊥
two_roles Client server client = true≢false (sym server)
two_roles Server server client = true≢false (sym client)

no_request : (k : Kind) → same_kind k Response ≡ true → same_kind k ActiveRequest ≡ false
no_request k is = ap (λ (c : ℕ). c == 7) (eqb-true (kind_code k) 8 is)

module _ (plan : WirePlan) (p : Setting) (f : Fixed) (is : IsPlan plan) (layout : p.layout ≡ layout_of plan) (fits : LayoutFits p f) where
  client : (n : ℕ) → has_number n (ports_of_role f Client) ≡ true → has_number n (sizes_of plan).clients ≡ true
  client n has = ap (has_number n) (sym (ap (λ (l : WireLayout). l.sizes.clients) layout) ∙ fits.clients) ∙ has

  server : (n : ℕ) → has_number n (ports_of_role f Server) ≡ true → has_number n (sizes_of plan).servers ≡ true
  server n has = ap (has_number n) (sym (ap (λ (l : WireLayout). l.sizes.servers) layout) ∙ fits.servers) ∙ has

  lane : (n k : ℕ) → has_number n (ports_of_role f Client) ≡ true → k < lanes_of f n → k < (sizes_of plan).lanes n
  lane n k has below = subst (λ (m : ℕ). k < m) (sym (fits.lanes n has) ∙ ap (λ (l : WireLayout). l.sizes.lanes n) layout) below

  no_client : (n : ℕ) → has_number n (sizes_of plan).servers ≡ true → has_number n (sizes_of plan).clients ≡ false
  no_client n has = by_case (has_number n (sizes_of plan).clients) refl
    where
      by_case : (b : Bool) → has_number n (sizes_of plan).clients ≡ b → has_number n (sizes_of plan).clients ≡ false
      by_case false e = e
      by_case true e =
          let s = port_named (λ q. same_role q.role Server) n plan.ports.items is.numbers has in
          let c = port_named (λ q. same_role q.role Client) n plan.ports.items is.numbers e in
          absurd (two_roles s.0.role s.2
          (subst (λ (q : PlanPort). same_role q.role Client ≡ true) (same_Some c.0 s.0 (sym c.1 ∙ s.1)) c.2))

  response_way_is : (c k s : ℕ) → has_number c (ports_of_role f Client) ≡ true → k < lanes_of f c
      → has_number s (ports_of_role f Server) ≡ true → IsResponseWay (sizes_of plan) (response_way c k s)
  response_way_is c k s there below has = (no_client s (server s has), server s has, client c there, lane c k there below)

pub handles_may_be_released : HandlesMayBeReleased
handles_may_be_released plan p f x e is layout fits of own = record {
  response = λ kind.
      let r = of.response kind in
      subst (λ (b : Bool). IsResponseWay (sizes_of plan) (if b then request_way e.client e.port else response_way e.port e.lane e.sender))
      (sym (no_request e.kind kind))
      (response_way_is plan p f is layout fits e.port e.lane e.sender r.0.0 r.1 r.2);
  request = λ kind.
      let r = of.request kind in
      response_way_is plan p f is layout fits e.client e.lane e.port r.3 r.1 r.0.0;
  pending = λ kind.
      let r = of.pending kind in
      (client plan p f is layout fits e.port r.0.0, lane plan p f is layout fits e.port e.lane r.0.0 r.1);
  own = own;
}
