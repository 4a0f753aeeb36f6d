-- What may be asked of a value does not depend on its number.
use Rattle.std.specs.Prelude.{◌≡◌, ℕ, false, refl}
use Rattle.iox_model.specs.declared.kind.Kind.{Kind}
use Rattle.iox_model.specs.declared.kind.Role.TheVariants.{Client, Server}
use Rattle.iox_model.specs.Names.{suits}
use Rattle.iox_control_questions.specs.declared.asked.Asked.{Asked}
use Rattle.iox_control_questions.specs.declared.asked.Asked.TheVariants as asks
use Rattle.iox_hub.specs.Asking.{call_of}

pub suits_any : (n : ℕ) (asked : Asked) (kind : Kind) → suits false (call_of 0 asked) kind ≡ suits false (call_of n asked) kind
suits_any n asks.Loan kind = refl
suits_any n asks.LoanUninit kind = refl
suits_any n (asks.Write Client) kind = refl
suits_any n (asks.Write Server) kind = refl
suits_any n asks.Send kind = refl
suits_any n (asks.SendCopy Client) kind = refl
suits_any n (asks.SendCopy Server) kind = refl
suits_any n asks.Receive kind = refl
suits_any n asks.Read kind = refl
suits_any n asks.Release kind = refl
suits_any n asks.IsConnected kind = refl
suits_any n asks.SetHint kind = refl
suits_any n asks.HasHint kind = refl
suits_any n asks.HasRequests kind = refl
suits_any n asks.HasResponse kind = refl
