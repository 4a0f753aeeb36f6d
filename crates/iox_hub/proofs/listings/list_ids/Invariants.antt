use Rattle.std.proofs.Common.{◌≡◌, length, drop}
use Rattle.std.specs.Fn.{CalledAt}
use Rattle.iox_attributes.specs.Visits.{VisitsInOrder}
use Rattle.iox_hub.specs.Listings.{role_ids}
use Rattle.iox_hub.proofs.listings.list_ids.Given as goal

-- the visit to come is that of the rest
abbrev pub invariant-loop-at : goal.invariant-loop-at
invariant-loop-at g l = record {
  callable : goal.F-IsAlwaysCallable g l.callback;
  visits : VisitsInOrder (CalledAt g.F.FnMut) l.callback (role_ids l.role (drop l.at l.ports.ports)) →
      VisitsInOrder (CalledAt g.F.FnMut) l.fn.callback (role_ids l.role l.ports.ports);
  size : l.at-end ≡ length l.ports.ports;
}
