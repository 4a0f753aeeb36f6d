-- Over runs of a service and its hub messages come in order, whole.
use Rattle.std.specs.Prelude.{◌≡◌, ℕ, List, [], ◌∷◌, ◌++◌, map, refl}
use Rattle.std.proofs.Common.{sym, subst, inl, inr}
use Rattle.std.proofs.lemmas.List.{append-nil}
use Rattle.iox_model.specs.declared.way.Way.{Way}
use Rattle.iox_model.specs.Begins.{start}
use Rattle.iox_model.specs.Commands.{Reply, Call}
use Rattle.iox_model.specs.Doings.{Doing}
use Rattle.iox_model.specs.Messages.{Message}
use Rattle.iox_model.specs.Moments.{moved, Moment}
use Rattle.iox_model.specs.States.{State}
use Rattle.iox_model.specs.Transitions.{next}
use Rattle.iox_model.specs.Weaves.{Beat, Makes}
use Rattle.iox_model.specs.WholeCalls.{moved_by, MayCome, IsDone}
use Rattle.iox_laws.proofs.RunLaws.Along.{IsAlong, created_for, reached_along}
use Rattle.iox_laws.specs.RunLaws.Traces.{beats_of_done, beats_of_reached}
use Rattle.iox_laws.proofs.RunLaws.InOrder.{Cuts, settled_cuts}
use Rattle.iox_laws.specs.MessageLaws.Deliveries.{message_put_on, message_taken_from, messages_put_on, messages_taken_from}
use Rattle.iox_laws.specs.MessageLaws.Lists.{GivesThese}
use Rattle.iox_laws.specs.MessageLaws.Orders.{AreWholeInOrder, WholeOverRuns, WholeInACall}
use Rattle.iox_laws.proofs.MessageLaws.Comes.{Comes, unchanged, moment_comes}
use Rattle.iox_laws.proofs.MessageLaws.Lists.{leave_out, gives_itself, joined}

-- what comes from where the beats lead comes with them from where they begin
abbrev InOrder : Way → State → List Beat → State → Type 0
InOrder y s bs t =
    (later taken : List Message) → Comes t y later taken → Comes s y (messages_put_on y bs ++ later) (messages_taken_from y bs ++ taken)

both_in_order : (y : Way) (s t u : State) (bs cs : List Beat) → InOrder y s bs t → InOrder y t cs u → InOrder y s (bs ++ cs) u
both_in_order y s t u bs cs first then later taken p =
    subst (λ ks. Comes s y ks (messages_taken_from y (bs ++ cs) ++ taken)) (sym (joined (message_put_on y) bs cs later))
    (subst (Comes s y (messages_put_on y bs ++ (messages_put_on y cs ++ later))) (sym (joined (message_taken_from y) bs cs taken))
    (first (messages_put_on y cs ++ later) (messages_taken_from y cs ++ taken) (then later taken p)))

-- ---- moments

moments_in_order : (y : Way) (s : State) (node : ℕ) (d : Doing) (ms : List Moment) → MayCome s node d ms
    → InOrder y s (map (Makes node) ms) (moved_by s ms)
moments_in_order y s node d [] may = λ later taken p. p
moments_in_order y s node d (m ∷ ms) may =
    both_in_order y s (moved s m) (moved_by s (m ∷ ms)) (Makes node m ∷ []) (map (Makes node) ms) one
    (moments_in_order y (moved s m) node (next s node d m).after ms may.2)
  where
    one : InOrder y s (Makes node m ∷ []) (moved s m)
    one later taken p =
        subst (λ ks. Comes s y (ks ++ later) ((message_taken_from y (Makes node m) ++ []) ++ taken)) (sym (append-nil (message_put_on y (Makes node m))))
        (subst (λ ks. Comes s y (message_put_on y (Makes node m) ++ later) (ks ++ taken)) (sym (append-nil (message_taken_from y (Makes node m))))
        (moment_comes s node m y later taken may.0 p))

-- ---- the end of a call

-- what is cut is left out
cut_in_order : (y : Way) (s t : State) → Cuts s t → InOrder y s [] t
cut_in_order y s t cuts later taken p = elim (cuts y) as (λ u. Comes s y later taken) [
  | inl e ↦ unchanged s t y later taken e p
  | inr e ↦ leave_out (s.waiting y) later taken (subst (λ ms. GivesThese (ms ++ later) taken) e p)
]

-- ---- runs

call_in_order : (y : Way) (s : State) (node : ℕ) (call : Call) (reply : Reply) (t : State) → (done : IsDone s node call reply t)
    → InOrder y s (beats_of_done s node call reply t done) t
call_in_order y s node call reply t done =
    let ms : List Moment = done.2 in
    let last : State = moved_by s ms in
    subst (λ bs. InOrder y s bs t) (append-nil (map (Makes node) ms))
    (both_in_order y s last t (map (Makes node) ms) [] (moments_in_order y s node (start s node done.0 call) ms done.3)
    (cut_in_order y last t (subst (Cuts last) (sym done.9) (settled_cuts last node done.6 done.4))))

in_order_along : (y : Way) → IsAlong (InOrder y)
in_order_along y = record {
  none = λ s later taken p. p;
  both = both_in_order y;
  nodes = λ s x later taken p. p;
  port = λ s node role id o later taken p. p;
  call = λ s node call reply t named. call_in_order y s node call reply t;
  fill = λ s node number h x there may later taken p. p;
}

-- where the way was empty, all that came was put there
from_nothing : (y : Way) (s t : State) (bs : List Beat) → s.waiting y ≡ [] → InOrder y s bs t → AreWholeInOrder y bs t
from_nothing y s t bs empty along =
    let comes : GivesThese (s.waiting y ++ (messages_put_on y bs ++ [])) (messages_taken_from y bs ++ t.waiting y)
    = along [] (t.waiting y) (gives_itself (t.waiting y)) in
    subst (λ ks. GivesThese ks (messages_taken_from y bs ++ t.waiting y)) (append-nil (messages_put_on y bs))
    (subst (λ (xs : List Message). GivesThese (xs ++ (messages_put_on y bs ++ [])) (messages_taken_from y bs ++ t.waiting y)) empty comes)

pub whole_over_runs : WholeOverRuns
whole_over_runs s left y =
    from_nothing y (created_for s left) s (beats_of_reached s left) refl (reached_along (InOrder y) (in_order_along y) s left)

pub whole_in_a_call : WholeInACall
whole_in_a_call s left y node call c ms may =
    from_nothing y (created_for s left) (moved_by s ms) (beats_of_reached s left ++ map (Makes node) ms) refl
    (both_in_order y (created_for s left) s (moved_by s ms) (beats_of_reached s left) (map (Makes node) ms)
    (reached_along (InOrder y) (in_order_along y) s left) (moments_in_order y s node (start s node c call) ms may))
