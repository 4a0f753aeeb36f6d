-- The tables of a hub in which no port was made yet.
use Rattle.std.specs.Prelude.{refl}
use Rattle.std.proofs.Common.{arith}
use Rattle.std.proofs.lemmas.Option.{none-some}
use Rattle.iox_model.specs.Runs.{at_rest, untouched}
use Rattle.iox_tables.specs.HubMaking.Starts.{EachStartIsShown}

pub each_start_is_shown : EachStartIsShown
each_start_is_shown x settings = record {
  state = λ l e i. record (at_rest x.members (untouched l x.acts)) { fixed = record (untouched l x.acts) { limits = e i } };
  connected = record {
    apart = tt;
    wired = λ n p e. absurd (none-some p e);
    kept = λ n p e. absurd (none-some p e);
    limits = λ w l e. absurd (none-some l e);
  };
  room = record { few = λ role. omega arith; most = λ n p e. absurd (none-some p e) };
  free = λ place. record { lanes = λ w l k e h. absurd (none-some l e); handles = tt };
}
