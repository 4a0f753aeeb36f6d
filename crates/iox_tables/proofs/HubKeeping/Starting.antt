-- The tables with no port are in order.
use Rattle.std.specs.Prelude.{refl}
use Rattle.std.proofs.Common.{arith, sym, true≢false}
use Rattle.std.proofs.lemmas.Option.{none-some}
use Rattle.iox_tables.specs.HubKeeping.Keeps.{StartsAreInOrder}

pub starts_are_in_order : StartsAreInOrder
starts_are_in_order settings = record {
  counted = λ pool k. refl;
  serials = record {
    apart = λ pool j k a b e. absurd (omega (arith, a));
    below = λ n k p at used. absurd (none-some p at);
  };
  pools = record {
    each = λ n p at. absurd (none-some p at);
    apart = λ i j a b p q e. absurd (none-some a p);
  };
  once = tt;
  lanes = λ w l sender at from. absurd (none-some l at);
  labels = λ w l k at client has. absurd (none-some l at);
  owners = λ w l k at has. absurd (none-some l at);
  widths = λ n m to from a b roles. absurd (none-some to a);
  wired = record {
    each = λ n p at. absurd (none-some p at);
    kept = λ n p at. absurd (none-some p at);
    limits = λ w l at. absurd (none-some l at);
  };
  numbers = record {
    apart = tt;
    below = λ n has. absurd (true≢false (sym has));
    owners = λ place q at. absurd (none-some q at);
    kept = λ n p at. absurd (none-some p at);
  };
  ports = tt;
  alone = tt;
  own = λ pool k. omega arith;
  taken = λ w l k at. absurd (none-some l at);
  received = tt;
}
