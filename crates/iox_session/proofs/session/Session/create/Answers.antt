use Rattle.std.specs.Prelude.{None, false}
use Rattle.std.specs.Option.{option_map}
use Rattle.std.specs.declared.convert.Infallible.{Infallible}
use Rattle.std.proofs.Common.{ap, rules, subst, sym, ◌∙◌, ◌≡◌}
use Rattle.iox_nodes.specs.Memory.{is_wanting}
use Rattle.iox_nodes.specs.Served as nodes
use Rattle.iox_session.specs.Limits.{limits_with}
use Rattle.iox_session.specs.Sessions.{name_refusal}
use Rattle.iox_session.specs.Shown.{SessionTables, script_state, session_of}
use Rattle.iox_session.proofs.Starting.{service_made, service_refused}
use Rattle.iox_session.proofs.session.Session.create.Goals as goal

pub returns-in-Ok-clause-played : goal.returns-in-Ok-clause-played
returns-in-Ok-clause-played c =
    let v : SessionTables = record {
      request_overflow = c.self.inside.request_overflow;
      response_overflow = c.self.inside.response_overflow;
      service = c.self.inside.service;
    } in
    let named : name_refusal c.args.name ≡ None = search rules in
    rw named
    (rw (← c.self.view_is)
    (service_made (session_of v) c.args.id c.in-Ok.service
    (subst (λ r. nodes.IsCreated {C = Infallible} (limits_with c.self.inside.request_overflow c.self.inside.response_overflow) c.args.id None r) c.in-Ok.is
    c.new-made.ensures)))

pub returns-clause-played : goal.returns-clause-played
returns-clause-played c =
    let v : SessionTables = record {
      request_overflow = c.self.inside.request_overflow;
      response_overflow = c.self.inside.response_overflow;
      service = c.self.inside.service;
    } in
    let named : name_refusal c.args.name ≡ None = search rules in
    let none : (session_of v).service ≡ None =
    subst (λ (w : SessionTables). option_map script_state w.service ≡ None) (sym c.self.view_is) (ap (option_map script_state) c.requires.none) in
    rw named
    (rw (← c.self.view_is)
    (service_refused (session_of v) c.args.id c.in-Err.refusal none
    (subst (λ m. is_wanting m ≡ false) c.in-Err.is (sym c.is_wanting.ensures ∙ c.if-is_wanting.false))
    (subst (λ r. nodes.IsCreated {C = Infallible} (limits_with c.self.inside.request_overflow c.self.inside.response_overflow) c.args.id None r) c.in-Err.is
    c.new-made.ensures)))
