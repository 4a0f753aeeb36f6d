-- Over runs of a service and its hub messages come in order.
use Rattle.std.specs.Prelude.{◌≡◌, ℕ, true, false, List, [], ◌∷◌, ◌++◌, map, flat_map, ◌⊎◌, refl}
use Rattle.std.proofs.Common.{sym, subst, ap, ◌∙◌, append_assoc, inl, inr}
use Rattle.std.proofs.lemmas.Grind.{flat_map-append}
use Rattle.std.proofs.lemmas.List.{append-nil}
use Rattle.iox_model.specs.declared.way.Way.{Way}
use Rattle.iox_model.specs.Begins.{start}
use Rattle.iox_model.specs.Commands.{Reply, Call}
use Rattle.iox_model.specs.Counts.{changed, dropped, called, gives_up, with_fixed, sent_handle}
use Rattle.iox_model.specs.Doings.{Outcome, Tells, Loans, Fills, Sends, FailsToSend, Receives, Drops, DropsPort, Forgets, Doing}
use Rattle.iox_model.specs.Ends.{sent_loan, is_nothing, port_dropped, settled}
use Rattle.iox_model.specs.Expiries.{stays, disconnected, is_last_gone, released}
use Rattle.iox_model.specs.Forgetting.{has_forgotten, forgets}
use Rattle.iox_model.specs.Handles.{is_request_loan}
use Rattle.iox_model.specs.Messages.{serials_of, Message}
use Rattle.iox_model.specs.Moments.{moved, Moment}
use Rattle.iox_laws.specs.WeaveLaws.OrderLaws.{put_on, taken_from, all_put_on, all_taken_from, Gives}
use Rattle.iox_model.specs.States.{Handle, Fixed, State}
use Rattle.iox_model.specs.Transitions.{next}
use Rattle.iox_model.specs.Weaves.{Beat, Makes}
use Rattle.iox_model.specs.WholeCalls.{moved_by, MayCome, IsDone}
use Rattle.iox_laws.proofs.WeaveLaws.InOrder.{leaves_out, gives_itself, Comes, unchanged, moment_comes}
use Rattle.iox_laws.proofs.WeaveLaws.MapLemmas.{either}
use Rattle.iox_laws.specs.RunLaws.TraceLaws.{AreInOrder, InOrderOverRuns, InOrderInACall}
use Rattle.iox_laws.proofs.RunLaws.Along.{IsAlong, created_for, reached_along}
use Rattle.iox_laws.specs.RunLaws.Traces.{beats_of_done, beats_of_reached}

-- what comes from where the beats lead comes with them from where they begin
abbrev InOrder : Way → State → List Beat → State → Type 0
InOrder y s bs t =
    (later taken : List ℕ) → Comes t y later taken → Comes s y (all_put_on y bs ++ later) (all_taken_from y bs ++ taken)

both_in_order : (y : Way) (s t u : State) (bs cs : List Beat) → InOrder y s bs t → InOrder y t cs u → InOrder y s (bs ++ cs) u
both_in_order y s t u bs cs first then later taken p =
    subst (λ ks. Comes s y ks (all_taken_from y (bs ++ cs) ++ taken)) (sym (joined (put_on y) later))
    (subst (Comes s y (all_put_on y bs ++ (all_put_on y cs ++ later))) (sym (joined (taken_from y) taken))
    (first (all_put_on y cs ++ later) (all_taken_from y cs ++ taken) (then later taken p)))
  where
    joined : (f : Beat → List ℕ) (ks : List ℕ) → flat_map f (bs ++ cs) ++ ks ≡ flat_map f bs ++ (flat_map f cs ++ ks)
    joined f ks = ap (λ ns. ns ++ ks) (flat_map-append f bs cs) ∙ append_assoc (flat_map f bs) (flat_map f cs) ks

-- ---- moments

moments_in_order : (y : Way) (s : State) (node : ℕ) (d : Doing) (ms : List Moment) → MayCome s node d ms
    → InOrder y s (map (Makes node) ms) (moved_by s ms)
moments_in_order y s node d [] may = λ later taken p. p
moments_in_order y s node d (m ∷ ms) may =
    both_in_order y s (moved s m) (moved_by s (m ∷ ms)) (Makes node m ∷ []) (map (Makes node) ms) one
    (moments_in_order y (moved s m) node (next s node d m).after ms may.2)
  where
    one : InOrder y s (Makes node m ∷ []) (moved s m)
    one later taken p =
        subst (λ ks. Comes s y (ks ++ later) ((taken_from y (Makes node m) ++ []) ++ taken)) (sym (append-nil (put_on y (Makes node m))))
        (subst (λ ks. Comes s y (put_on y (Makes node m) ++ later) (ks ++ taken)) (sym (append-nil (taken_from y (Makes node m))))
        (moment_comes s node m y later taken may.0 p))

-- ---- the end of a call

-- each way is as it was, or is cut
abbrev pub Cuts : State → State → Type 0
Cuts s t = (y : Way) → (t.waiting y ≡ s.waiting y) ⊎ (t.waiting y ≡ [])

released_cuts : (s : State) (f : Fixed) (port : ℕ) → Cuts s (released (with_fixed s f) port)
released_cuts s f port =
    either (Cuts s) (is_last_gone f port) (disconnected (with_fixed s f) port) (with_fixed s f)
    (λ u y. either (λ (ms : List Message). (ms ≡ s.waiting y) ⊎ (ms ≡ [])) (stays (with_fixed s f) port y) (s.waiting y) [] (λ v. inl refl) (λ v. inr refl))
    (λ u y. inl refl)

sent_cuts : (s : State) (h : Handle) (count : ℕ) → Cuts s (sent_loan s h count)
sent_cuts s h count =
    either (Cuts s) (is_request_loan h.kind) (with_fixed s (changed s.fixed (sent_handle h count))) (released (with_fixed s (dropped s.fixed h)) h.port)
    (λ u y. inl refl) (λ u. released_cuts s (dropped s.fixed h) h.port)

pub settled_cuts : (s : State) (node : ℕ) (payload : List ℕ) (o : Outcome) → Cuts s (settled s node payload o)
settled_cuts s node payload (Tells reply) = either (Cuts s) (is_nothing reply) (with_fixed s (called s.fixed)) s (λ u y. inl refl) (λ u y. inl refl)
settled_cuts s node payload (Loans h) = λ y. inl refl
settled_cuts s node payload (Fills h) = λ y. inl refl
settled_cuts s node payload (Sends h true count) = λ y. inl refl
settled_cuts s node payload (Sends h false count) = sent_cuts s h count
settled_cuts s node payload (FailsToSend h true refusal) = λ y. inl refl
settled_cuts s node payload (FailsToSend h false refusal) = released_cuts s (dropped s.fixed h) h.port
settled_cuts s node payload (Receives x w m) = λ y. inl refl
settled_cuts s node payload (Drops h) = released_cuts s (gives_up (dropped s.fixed h) h) h.port
settled_cuts s node payload (DropsPort port) = released_cuts s (record (s.fixed) { ports = map (port_dropped port) s.fixed.ports }) port
settled_cuts s node payload (Forgets dead) =
    either (Cuts s) (has_forgotten s.fixed node dead) s (forgets s node dead) (λ u y. inl refl) (λ u y. inl refl)

-- what is cut is left out
leave_out : (ys later taken : List ℕ) → Gives later taken → Gives (ys ++ later) taken
leave_out [] later taken p = p
leave_out (y ∷ ys) later taken p = leaves_out y (ys ++ later) taken (leave_out ys later taken p)

cut_in_order : (y : Way) (s t : State) → Cuts s t → InOrder y s [] t
cut_in_order y s t cuts later taken p = elim (cuts y) as (λ u. Comes s y later taken) [
  | inl e ↦ unchanged s t y later taken e p
  | inr e ↦ leave_out (serials_of (s.waiting y)) later taken (subst (λ ms. Gives (serials_of ms ++ later) taken) e p)
]

-- ---- runs

call_in_order : (y : Way) (s : State) (node : ℕ) (call : Call) (reply : Reply) (t : State) → (done : IsDone s node call reply t)
    → InOrder y s (beats_of_done s node call reply t done) t
call_in_order y s node call reply t done =
    let ms : List Moment = done.2 in
    let last : State = moved_by s ms in
    subst (λ bs. InOrder y s bs t) (append-nil (map (Makes node) ms))
    (both_in_order y s last t (map (Makes node) ms) [] (moments_in_order y s node (start s node done.0 call) ms done.3)
    (cut_in_order y last t (subst (Cuts last) (sym done.9) (settled_cuts last node done.6 done.4))))

in_order_along : (y : Way) → IsAlong (InOrder y)
in_order_along y = record {
  none = λ s later taken p. p;
  both = both_in_order y;
  nodes = λ s x later taken p. p;
  port = λ s node role id o later taken p. p;
  call = λ s node call reply t named. call_in_order y s node call reply t;
  fill = λ s node number h x there may later taken p. p;
}

-- where the way was empty, all that came was put there
from_nothing : (y : Way) (s t : State) (bs : List Beat) → s.waiting y ≡ [] → InOrder y s bs t → AreInOrder y bs t
from_nothing y s t bs empty along =
    let after : List ℕ = serials_of (t.waiting y) in
    let comes : Gives (serials_of (s.waiting y) ++ (all_put_on y bs ++ [])) (all_taken_from y bs ++ after) = along [] after (gives_itself after) in
    subst (λ ks. Gives ks (all_taken_from y bs ++ after)) (append-nil (all_put_on y bs))
    (subst (λ (xs : List Message). Gives (serials_of xs ++ (all_put_on y bs ++ [])) (all_taken_from y bs ++ after)) empty comes)

pub in_order_over_runs : InOrderOverRuns
in_order_over_runs s left y =
    from_nothing y (created_for s left) s (beats_of_reached s left) refl (reached_along (InOrder y) (in_order_along y) s left)

pub in_order_in_a_call : InOrderInACall
in_order_in_a_call s left y node call c ms may =
    from_nothing y (created_for s left) (moved_by s ms) (beats_of_reached s left ++ map (Makes node) ms) refl
    (both_in_order y (created_for s left) s (moved_by s ms) (beats_of_reached s left) (map (Makes node) ms)
    (reached_along (InOrder y) (in_order_along y) s left) (moments_in_order y s node (start s node c call) ms may))
