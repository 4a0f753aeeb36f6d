-- A loan that is filled is as a call that ends with it: what holds of such a call, where all is calm.
use Rattle.std.specs.Prelude.{◌≡◌, ℕ, Some, refl}
use Rattle.std.proofs.Common.{◌∙◌}
use Rattle.iox_model.specs.Doings.{Fills, Doing, Ended}
use Rattle.iox_model.specs.Handles.{handle_at}
use Rattle.iox_model.specs.States.{Handle, State}
use Rattle.iox_model.specs.Values.{Filling, filled_as, MayFill}
use Rattle.iox_laws.proofs.WeaveLedger.Lists.{IsAmong}
use Rattle.iox_laws.proofs.WeaveLedger.Senders.{IsMade, IsFilled}
use Rattle.iox_laws.proofs.WeaveLedger.Views.{view}
use Rattle.iox_laws.proofs.WeaveWorlds.Fillings.{IsLoanAs, still_a_loan, named_among}
use Rattle.iox_laws.proofs.RunLaws.Calls.{Goes}
use Rattle.iox_laws.proofs.RunLaws.Rests.{FitsHandle}
use Rattle.iox_laws.proofs.RunLaws.Settling.{Calm}

-- the call that a filling is: it has ended
abbrev pub fills : Handle → Filling → Doing
fills h x = Ended (Fills (filled_as h x))

pub filling-filled : (s : State) (n number : ℕ) (h : Handle) (x : Filling) → Calm s → handle_at s.fixed n number ≡ Some h → MayFill s.fixed h x
    → IsFilled (view s.fixed n) n (filled_as h x)
filling-filled s n number h x c there may =
    let among : IsAmong h (s.fixed.handles n) = (named_among s.fixed n number h there).0 in
    let fits : FitsHandle s.fixed.ports s.fixed.next_number n h = ((c.rests).fixed.handles n).each h among in
    let made : IsMade s.fixed.ports h = (((c.owned).has).kept n h among).loan may.loan in
    let still : IsLoanAs h.kind x.kind = still_a_loan h.kind x.kind may.loan may.kind in
    record {
      old = h;
      among = among;
      number = refl;
      port = refl;
      serial = refl;
      was_loan = may.loan;
      of_node = fits.of_node;
      is_loan_still = still.0;
      made = record { sender = made.sender; lane = made.lane; role = still.1 ∙ made.role };
    }

pub filling-goes : (s : State) (n number : ℕ) (h : Handle) (x : Filling) → Calm s → handle_at s.fixed n number ≡ Some h → MayFill s.fixed h x
    → Goes s n (fills h x)
filling-goes s n number h x c there may =
    let among : IsAmong h (s.fixed.handles n) = (named_among s.fixed n number h there).0 in
    let fits : FitsHandle s.fixed.ports s.fixed.next_number n h = ((c.rests).fixed.handles n).each h among in
    let filled : IsFilled (view s.fixed n) n (filled_as h x) = filling-filled s n number h x c there may in
    record {
      fixed = (c.rests).fixed;
      call = ((c.rests).within n, (fits.of_node, fits.of_port));
      others = λ j other. (c.rests).within j;
      unused = (c.rests).unused;
      owned = c.owned;
      holds = (filled.is_loan_still, filled.made);
    }
