use Rattle.iox_session.specs.Shown.{SessionTables}
use Rattle.iox_session.proofs.Playing.{played_so}
use Rattle.iox_session.proofs.session.Session.play.Goals as goal

pub returns-in-Service-clause-played : goal.returns-in-Service-clause-played
returns-in-Service-clause-played c =
    let v : SessionTables = record {
      request_overflow = c.self.inside.request_overflow;
      response_overflow = c.self.inside.response_overflow;
      service = c.self.inside.service;
    } in
    rw (← c.self.view_is)
    (rw c.in-Service.is
    (played_so v c.in-Some.service c.serve.new.self c.in-Service.command c.in_ok-serve-in-Service.field-0 c.in-Some.is
    c.in_ok-serve-in-Service.ensures.served))
