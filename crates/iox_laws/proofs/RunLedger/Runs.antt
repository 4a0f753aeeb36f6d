-- Each step leaves what holds of the record between calls, so it holds of each state that is reached.
use Rattle.std.specs.Prelude.{◌≡◌, ℕ, ◌+◌, ◌≤◌, Bool, true, false, nat_le, List, [], Some, None, refl}
use Rattle.std.proofs.Common.{sym, subst, arith, inr}
use Rattle.iox_model.specs.UniqueSystemId.{UniqueSystemId}
use Rattle.iox_model.specs.declared.backpressure.BackpressureAction.{BackpressureAction}
use Rattle.iox_model.specs.Begins.{start}
use Rattle.iox_model.specs.Commands.{Reply, Call}
use Rattle.iox_model.specs.Counts.{with_fixed}
use Rattle.iox_model.specs.Doings.{Fills, Doing}
use Rattle.iox_model.specs.Ends.{settled}
use Rattle.iox_model.specs.Handles.{handle_at}
use Rattle.iox_model.specs.Joins.{with_members}
use Rattle.iox_model.specs.Makings.{new_port, with_port}
use Rattle.iox_model.specs.Names.{misnamed}
use Rattle.iox_model.specs.Runs.{created}
use Rattle.iox_model.specs.Settings.{Limits}
use Rattle.iox_model.specs.States.{Members, Port, Handle, State}
use Rattle.iox_model.specs.Values.{Filling, filled_as, MayFill}
use Rattle.iox_model.specs.WholeCalls.{moved_by, left_by, IsDone}
use Rattle.iox_model.specs.Runs.{IsReachableState}
use Rattle.iox_laws.proofs.WeaveWorlds.Inductions.{reached_keeps}
use Rattle.iox_laws.proofs.RunLaws.Calls.{done_calm}
use Rattle.iox_laws.proofs.RunLaws.Runs.{same_calm, created_calm, made_calm, calm_kept}
use Rattle.iox_laws.proofs.RunLaws.Settling.{Calm}
use Rattle.iox_laws.proofs.RunLedger.Balance.{underway_by}
use Rattle.iox_laws.proofs.RunLedger.Books.{Books, begins-underway, filling-underway}
use Rattle.iox_laws.proofs.RunLedger.Fillings.{fills}
use Rattle.iox_laws.proofs.RunLedger.Leaving.{made-books}
use Rattle.iox_laws.proofs.RunLedger.Settled.{settled-books}
use Rattle.iox_laws.proofs.WeaveLedger.Counts.{one_if}
use Rattle.iox_laws.proofs.WeaveWorlds.Inductions.{IsKept}

-- what holds between calls
pub record Kept (s : State) : Type 0 where
  pub calm : Calm s
  pub books : Books s

-- ---- calls

done-books : (s : State) (n : ℕ) (call : Call) (reply : Reply) (t : State) → Kept s → misnamed s.fixed n call ≡ None → IsDone s n call reply t → Books t
done-books s n call reply t k named d =
    let first : Doing = start s n d.0 call in
    subst Books (sym d.9)
    (settled-books (moved_by s d.2) n (left_by s n first d.2) d.6 d.4 (underway_by s n first d.2 (begins-underway s n d.0 call k.calm k.books named) d.3) d.5)

pub done-kept : (s : State) (n : ℕ) (call : Call) (reply : Reply) (t : State) → Kept s → misnamed s.fixed n call ≡ None → IsDone s n call reply t → Kept t
done-kept s n call reply t k named d =
    record { calm = done_calm s n call reply t k.calm named d; books = done-books s n call reply t k named d }

pub made-kept : (s : State) (p : Port) → p.number ≡ s.fixed.next_number → Kept s → Kept (with_fixed s (with_port s.fixed p))
made-kept s p new k = record { calm = made_calm s p new k.calm; books = made-books s p new k.calm k.books }

-- a step that changes only nodes
members-books : (s : State) (x : Members) → Books s → Books (with_members s x)
members-books s x b = record { hub = b.hub; fresh = b.fresh; hand = b.hand; idle = b.idle; counts = b.counts; within = b.within }

pub members-kept : (s : State) (x : Members) → Kept s → Kept (with_members s x)
members-kept s x k = record { calm = same_calm s (with_members s x) refl refl k.calm; books = members-books s x k.books }

-- ---- a loan is filled

filled-books : (s : State) (n number : ℕ) (h : Handle) (x : Filling) → handle_at s.fixed n number ≡ Some h → MayFill s.fixed h x → Kept s
    → Books (settled s n [] (Fills (filled_as h x)))
filled-books s n number h x there may k =
    settled-books s n (fills h x) [] (Fills (filled_as h x)) (filling-underway s n number h x k.calm k.books there may) refl

pub filled-kept : (s : State) (n number : ℕ) (h : Handle) (x : Filling) → handle_at s.fixed n number ≡ Some h → MayFill s.fixed h x → Kept s
    → Kept (settled s n [] (Fills (filled_as h x)))
filled-kept s n number h x there may k =
    record { calm = calm_kept.fills s n number h x there may k.calm; books = filled-books s n number h x there may k }

kept-kept : IsKept Kept
kept-kept = record {
  nodes = λ s x u k. members-kept s x k;
  makes = λ s n role id o memory allowed k. made-kept s (new_port s.fixed n role id o) refl k;
  calls = λ s n call reply t named done k. done-kept s n call reply t k named done;
  fills = filled-kept;
}

-- ---- from the creation on

pub created-kept : (l : Limits) (acts : List ℕ → ℕ → ℕ → BackpressureAction) (id : UniqueSystemId) → Kept (created l acts id)
created-kept l acts id = record {
  calm = created_calm l acts id;
  books = record {
    hub = record { hub = refl; forgot = λ n. refl; made = λ n. refl };
    fresh = λ n y k. few (nat_le 0 k);
    hand = λ y. refl;
    idle = λ y off. (refl, λ k. refl);
    counts = λ y ends k. refl;
    within = λ y ends. inr refl;
  };
}
  where
    few : (b : Bool) → 0 + one_if b + 0 ≤ 1
    few true = omega arith
    few false = omega arith

-- Whatever was asked before, the record is what is out between calls.
pub reached-kept : (s : State) → IsReachableState s → Kept s
reached-kept = reached_keeps Kept kept-kept created-kept
