use Rattle.std.specs.Prelude.{false}
use Rattle.std.proofs.Common.{◌∙◌}
use Rattle.iox_hub.specs.Reads.{has_response}
use Rattle.iox_hub.proofs.Reading.{has_slot, has_words, is_read_as_user, of_response, passing, responses_pass, some_there, suits_kind}
use Rattle.iox_hub.proofs.hub.Hub.response_header.Goals as goal

pub responses_in-requires-clause-there : goal.responses_in-requires-clause-there
responses_in-requires-clause-there g c =
    some_there _ c.in-Some.entry.pool c.in-Some.entry.slot
    (has_words has_response responses_pass c.self.invariant c.args.self.now c.self.view_is c.args.node c.args.number c.requires.has
    c.in-Some.entry c.in-Some.ensures)

pub responses_in-requires-clause-responses : goal.responses_in-requires-clause-responses
responses_in-requires-clause-responses g c =
    (suits_kind has_response responses_pass c.self.invariant c.args.self.now c.self.view_is c.args.node c.args.number c.requires.has
    c.in-Some.entry c.in-Some.ensures
    ∙ of_response c.in-Some.entry.kind (passing has_response responses_pass c.self.invariant c.args.self.now c.self.view_is c.args.node c.args.number c.requires.has
    c.in-Some.entry c.in-Some.ensures))

pub user_header-requires : goal.user_header-requires
user_header-requires g c =
    has_slot _ c.in-Some.entry.pool c.in-Some.entry.slot false _ c.responses_in.ensures
    (has_words has_response responses_pass c.self.invariant c.args.self.now c.self.view_is c.args.node c.args.number c.requires.has
    c.in-Some.entry c.in-Some.ensures)

pub returns-in-Some-clause-whole : goal.returns-in-Some-clause-whole
returns-in-Some-clause-whole g c =
    rw (← c.self.view_is)
    (λ x. is_read_as_user has_response responses_pass c.self.invariant c.args.self.now c.self.view_is c.args.node c.args.number c.requires.has
    c.in-Some.entry c.in-Some.ensures false _
    c.responses_in.ensures _ c.user_header.ensures.words x)
