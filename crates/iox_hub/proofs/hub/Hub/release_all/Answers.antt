use Rattle.std.proofs.Common.{ap, refl, subst, sym, ◌∙◌}
use Rattle.iox_model.specs.Maps.{rest_of}
use Rattle.iox_model.specs.Services.{Releases, numbers_of_node}
use Rattle.iox_hub.specs.Hubs.{HubState, state_of_hub}
use Rattle.iox_hub.specs.Listings.{held_ports}
use Rattle.iox_hub.proofs.Ahead.{none_before_start}
use Rattle.iox_hub.proofs.CleaningLemmas.{all_led_on, fewer_left, names_none, none_then, one_leads_on, others_stay}
use Rattle.iox_hub.proofs.hub.Hub.release_all.Goals as goal

pub loop-smaller : goal.loop-smaller
loop-smaller g c =
    fewer_left c.loop.self c.release_next.new.self c.args.node c.in-Some.field-0 c.in-Some.ensures.first c.release_next.ensures.rest

pub loop-init : goal.loop-init
loop-init g c = record {
  leads = λ x t releases. releases;
  keeps = λ other n apart some. record { kind = refl; handle = refl; message = refl };
  request = refl;
  response = refl;
  before = none_before_start (held_ports c.args.self.now.control.tables.ports c.args.node);
  tidy = λ place left. left;
}

pub loop-preserved : goal.loop-preserved
loop-preserved g c = record {
  leads = one_leads_on c.args.self.now c.loop.self c.release_next.new.self c.args.node c.in-Some.field-0 c.loop.invariant.leads
      c.in-Some.ensures.first c.in-Some.ensures.whole c.release_next.ensures.rest;
  keeps = others_stay c.args.self.now c.loop.self c.release_next.new.self c.args.node c.in-Some.field-0 c.loop.invariant.keeps
      c.in-Some.ensures.keeps;
  request = c.release_next.ensures.request ∙ c.loop.invariant.request;
  response = c.release_next.ensures.response ∙ c.loop.invariant.response;
  before = c.release_next.ensures.before;
  tidy = λ place left. c.release_next.ensures.tidy place (c.loop.invariant.tidy place left);
}

pub returns-clause-released : goal.returns-clause-released
returns-clause-released g c x =
    subst (λ (h : HubState). Releases (state_of_hub x c.args.self.now) c.args.node
    (numbers_of_node (state_of_hub x c.args.self.now).fixed c.args.node) (state_of_hub x h))
    (sym (c.release_next.ensures.unchanged c.in_default.is))
    (all_led_on c.args.self.now c.loop.self c.args.node c.loop.invariant.leads c.in_default.ensures.first x)

pub returns-clause-none : goal.returns-clause-none
returns-clause-none g c x =
    c.release_next.ensures.rest x ∙ ap rest_of (none_then _ (sym (c.in_default.ensures.first x)))

pub returns-clause-gone : goal.returns-clause-gone
returns-clause-gone g c = names_none c.release_next.new.self c.args.node (returns-clause-none g c)
