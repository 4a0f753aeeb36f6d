-- All ways from which a server receives.
use Rattle.std.proofs.Common.{◌≡◌, ℕ, ◌<◌, Bool, true, false, ◌&&◌, List, [], ◌∷◌, ◌++◌, length, map, refl, ap, ap₂, sym, subst, ◌∙◌, arith, if◌then◌else◌}
use Rattle.std.specs.Prelude.{filter}
use Rattle.iox_model.specs.declared.kind.Role.{Role}
use Rattle.iox_model.specs.declared.kind.Role.TheVariants.{Client, Server}
use Rattle.iox_model.specs.declared.way.Way.{Way}
use Rattle.iox_model.specs.Messages.{request_way}
use Rattle.iox_model.specs.Peers.{others, ports_of_role}
use Rattle.iox_model.specs.Receives.{clients_to_visit, server_ways}
use Rattle.iox_model.specs.Settings.{same_role}
use Rattle.iox_model.specs.States.{Port}
use Rattle.iox_wire_messages.specs.WirePlan.{WirePlan}
use Rattle.iox_wire_messages.specs.Plans.{IsPlan, IsPortAt, number_at}
use Rattle.iox_wire_messages.specs.Programs.{WireLayout}
use Rattle.iox_wire_messages.specs.Seat.{Seat}
use Rattle.iox_wire_messages.specs.Known.{known}
use Rattle.iox_wire_messages.specs.Stored.{header_length}
use Rattle.iox_wire_messages.specs.Tables.{Setting}
use Rattle.iox_wire_messages.specs.PlansOf.{IsSettingOf}
use Rattle.iox_wire_receives.specs.declared.source.ReceiveTerms.{ReceiveTerms}
use Rattle.iox_wire_receives.specs.declared.source.Source.{Source}
use Rattle.iox_wire_receives.specs.Sources.{AreSources, AreWithin, IsSource, IsWithin, ways_of}
use Rattle.iox_wire_ways.specs.RequestSources.{HasRequestWays, passed_over, request_source, request_terms}
use Rattle.iox_wire_ways.specs.Visits.{is_other}
use Rattle.iox_wire_ways.proofs.ListLemmas.{all_made, all_ways, left_are, made_before, others_are, visited}
use Rattle.iox_wire_ways.proofs.ReturnLemmas.{port_is_there}
use Rattle.iox_wire_ways.proofs.HeaderLemmas.{number_there}
use Rattle.iox_wire_ways.proofs.SourceLemmas.{source_is, source_within}

-- ---- which clients

pub none_over : (role : Role) (rs : List Port) → map (λ r. r.number) (filter (λ r. same_role r.role role && true) rs) ≡ map (λ r. r.number) (filter (λ r. same_role r.role role) rs)
none_over role [] = refl
none_over role (r ∷ rs) = step (same_role r.role role) (none_over role rs)
  where
    step : (b : Bool) → map (λ q. q.number) (filter (λ q. same_role q.role role && true) rs) ≡ map (λ q. q.number) (filter (λ q. same_role q.role role) rs)
        → map (λ q. q.number) (if b && true then r ∷ filter (λ q. same_role q.role role && true) rs else filter (λ q. same_role q.role role && true) rs)
        ≡ map (λ q. q.number) (if b then r ∷ filter (λ q. same_role q.role role) rs else filter (λ q. same_role q.role role) rs)
    step true rest = ap (λ ns. r.number ∷ ns) rest
    step false rest = rest

clients_are : (plan : WirePlan) (p : Setting) (x : Seat) (ff : Bool) (q : Port) → IsSettingOf plan p → p.limits.fire_and_forget ≡ ff
    → visited (is_other Client (passed_over ff x.forgot)) plan.ports.items ≡ clients_to_visit (known p x) q
clients_are plan p x ff q setting is =
    by_case ff ∙ ap (λ (b : Bool). if b then ports_of_role (known p x) Client else others (known p x) q.node Client) (sym is)
  where
    by_case : (b : Bool) → visited (is_other Client (passed_over b x.forgot)) plan.ports.items
        ≡ (if b then ports_of_role (known p x) Client else others (known p x) q.node Client)
    by_case true =
        left_are Client [] plan.ports.items (map p.port (map (λ q. q.number) plan.ports.items)) setting.is_for.ports
        ∙ none_over Client (map p.port (map (λ q. q.number) plan.ports.items))
        ∙ ap (λ (l : WireLayout). map (λ r. r.number) (filter (λ r. same_role r.role Client) (map p.port l.sizes.ports))) (sym setting.layout)
    by_case false = others_are plan p x Client q.node setting

pub all_visited : (plan : WirePlan) (p : Setting) (x : Seat) (ff : Bool) (server k : ℕ) → IsPlan plan → IsSettingOf plan p → IsPortAt plan Server server
    → p.limits.fire_and_forget ≡ ff → k ≡ length plan.ports.items
    → ways_of (made_before Source plan (is_other Client (passed_over ff x.forgot)) (request_source plan server) k)
    ≡ server_ways (known p x) (p.port (number_at plan server))
all_visited plan p x ff server k is setting at told all =
    all_ways Source Way plan is (is_other Client (passed_over ff x.forgot)) (request_source plan server) (λ s. s.way)
    (λ client. request_way client (number_at plan server)) (λ i. refl) k all
    ∙ ap₂ (λ n ns. map (λ client. request_way client n) ns) (sym (number_there plan is Server server at p setting))
    (clients_are plan p x ff (p.port (number_at plan server)) setting told)

-- ---- each of them

pub sources_append : (p : Setting) (t : ReceiveTerms) (header : ℕ) (xs : List Source) (s : Source) → AreSources p t header xs → IsSource p t header s
    → AreSources p t header (xs ++ s ∷ [])
sources_append p t header [] s are is = (is, tt)
sources_append p t header (x ∷ xs) s are is = (are.0, sources_append p t header xs s are.1 is)

pub within_append : (t : ReceiveTerms) (header : ℕ) (xs : List Source) (s : Source) → AreWithin t header xs → IsWithin t header s
    → AreWithin t header (xs ++ s ∷ [])
within_append t header [] s are is = (is, tt)
within_append t header (x ∷ xs) s are is = (are.0, within_append t header xs s are.1 is)

module _ (plan : WirePlan) (is : IsPlan plan) (visited_by : List ℕ) (ff : Bool) (number server : ℕ) (at : IsPortAt plan Server server) (ways : HasRequestWays plan) where
  pub all_sources : (p : Setting) → IsSettingOf plan p → (k : ℕ)
      → AreSources p (request_terms plan ff number) (header_length Client) (made_before Source plan (is_other Client visited_by) (request_source plan server) k)
  all_sources p setting k =
      all_made Source plan (is_other Client visited_by) (request_source plan server) (AreSources p (request_terms plan ff number) (header_length Client)) tt
      (λ xs i there are.
      let client : IsPortAt plan Client i = port_is_there plan Client visited_by i there in
      sources_append p (request_terms plan ff number) (header_length Client) xs (request_source plan server i) are
      (source_is plan is i server client at (ways.lanes i client) p setting ff number)) k

  pub all_within : (k : ℕ)
      → AreWithin (request_terms plan ff number) (header_length Client) (made_before Source plan (is_other Client visited_by) (request_source plan server) k)
  all_within k =
      all_made Source plan (is_other Client visited_by) (request_source plan server) (AreWithin (request_terms plan ff number) (header_length Client)) tt
      (λ xs i there are.
      let client : IsPortAt plan Client i = port_is_there plan Client visited_by i there in
      within_append (request_terms plan ff number) (header_length Client) xs (request_source plan server i) are
      (source_within plan is i server client at (ways.lanes i client) ff number ways)) k

-- ---- with what is the same of all, if there are any

pub sources_with : (p : Setting) (t u : ReceiveTerms) (header : ℕ) (xs : List Source) → (0 < length xs → u ≡ t) → AreSources p t header xs → AreSources p u header xs
sources_with p t u header [] same are = tt
sources_with p t u header (x ∷ xs) same are = subst (λ (v : ReceiveTerms). AreSources p v header (x ∷ xs)) (sym (same (omega arith))) are

pub within_with : (t u : ReceiveTerms) (header : ℕ) (xs : List Source) → (0 < length xs → u ≡ t) → AreWithin t header xs → AreWithin u header xs
within_with t u header [] same are = tt
within_with t u header (x ∷ xs) same are = subst (λ (v : ReceiveTerms). AreWithin v header (x ∷ xs)) (sym (same (omega arith))) are
