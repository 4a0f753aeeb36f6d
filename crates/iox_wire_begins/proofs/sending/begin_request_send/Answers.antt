use Rattle.std.proofs.Common.{List, refl, ap, sym, subst, ◌∙◌}
use Rattle.iox_wire_handle_calls.specs.Target.{Target}
use Rattle.iox_wire_handle_calls.specs.Targets.{AreTargets, servers_of}
use Rattle.iox_wire_begins.proofs.TermLemmas.{told_alike}
use Rattle.iox_wire_handle_calls.specs.Plans.{most_ways}
use Rattle.iox_wire_begins.proofs.RoomLemmas.{list_fits}
use Rattle.iox_wire_begins.proofs.sending.begin_request_send.Goals as goal

pub returns-clause-begun : goal.returns-clause-begun
returns-clause-begun c p n with =
    c.begin.ensures.begun p
    (told_alike p c.args.loan c.request_terms-own.result c.list_targets-told.result c.list_targets-told.ensures.rest (c.request_terms-own.ensures p c.args.loan with c.requires.own))
    (ap servers_of c.deref.ensures.value ∙ c.list_targets-told.ensures.servers p with.setting)

pub returns-clause-aimed : goal.returns-clause-aimed
returns-clause-aimed c p with =
    c.begin.ensures.aimed p
    (told_alike p c.args.loan c.request_terms-own.result c.list_targets-told.result c.list_targets-told.ensures.rest (c.request_terms-own.ensures p c.args.loan with c.requires.own))
    (subst (λ (ts : List Target). AreTargets p c.list_targets-told.result c.args.loan ts) (sym c.deref.ensures.value)
    (c.list_targets-told.ensures.targets p c.args.loan with.setting c.requires.own refl))

pub begin-requires-clause-fits : goal.begin-requires-clause-fits
begin-requires-clause-fits c =
    list_fits c.deref.result.now c.list_targets-told.new.targets.items (most_ways c.args.map.now) c.args.requesting.now.room c.deref.ensures.value c.list_targets-told.ensures.few c.requires.room
