-- What a receive takes comes next on its way.
use Rattle.std.specs.Prelude.{◌≡◌, ℕ, true, false, Bool, List, [], ◌∷◌, ◌++◌, map, Some, refl}
use Rattle.std.proofs.Common.{sym, subst, ap, ◌∙◌, inl, inr, append_assoc}
use Rattle.std.proofs.lemmas.Grind.{flat_map-append}
use Rattle.std.proofs.lemmas.List.{append-nil, map-append}
use Rattle.std.proofs.lemmas.Option.{none-some, same_Some}
use Rattle.iox_model.specs.declared.call.Call.TheVariants.{Receive}
use Rattle.iox_model.specs.declared.reply.Reply.TheVariants as replies
use Rattle.iox_model.specs.declared.way.Way.{Way}
use Rattle.iox_model.specs.Handles.{subject, way_of, Subject, ThePort, TheHandle}
use Rattle.iox_model.specs.Maps.{has_number}
use Rattle.iox_model.specs.Messages.{Message, serials_of}
use Rattle.iox_model.specs.Runs.{IsReachableState}
use Rattle.iox_model.specs.States.{Handle, State}
use Rattle.iox_model.specs.Weaves.{Beat, Makes}
use Rattle.iox_model.specs.WholeCalls.{IsDone, IsWholeCall}
use Rattle.iox_model.specs.Begins.{start}
use Rattle.iox_model.specs.Moments.{Moment}
use Rattle.iox_model.specs.WholeCalls.{moved_by}
use Rattle.iox_model.specs.Commands.{Call}
use Rattle.iox_laws.specs.RunLaws.Traces.{beats_of_reached}
use Rattle.iox_laws.specs.WeaveLaws.OrderLaws.{Gives, all_put_on}
use Rattle.iox_laws.specs.MessageLaws.Deliveries.{message_put_on, message_taken_from, messages_put_on, messages_taken_from}
use Rattle.iox_laws.specs.MessageLaws.Lists.{GivesThese, IsOneOf}
use Rattle.iox_laws.proofs.WeaveLedger.Lists.{IsAmong, NoRepeats, distinct-no_repeats, among-back, number-among}
use Rattle.iox_laws.proofs.WeaveLedger.Once.{gives-apart}
use Rattle.iox_laws.proofs.RunLaws.Runs.{left_calm}
use Rattle.iox_laws.proofs.RunLedger.Once.{delivered_once_over_runs}
use Rattle.iox_laws.proofs.MessageLaws.Carries.{moments_put}
use Rattle.iox_laws.proofs.MessageLaws.Lists.{given-one, one-back}
use Rattle.iox_laws.proofs.MessageLaws.Orders.{whole_in_a_call}
use Rattle.iox_laws.proofs.MessageLaws.Sendings.{IsSent, start_carries}
use Rattle.iox_laws.proofs.MessageLaws.Serials.{serials_are_of_messages, serials_follow_messages}
use Rattle.iox_hub_laws.specs.Receipts.{ComesNext}
use Rattle.iox_hub_laws.proofs.Takes.{HandsOut, done_of, receive_hands_out}

-- ---- lists

-- no value is one of these
none_of : {A : Type 0} (xs : List A) → ((a : A) → IsOneOf a xs → ⊥) → xs ≡ []
none_of [] none = refl
none_of (x ∷ xs) none = absurd (none x (inl refl))

nothing_given : {A : Type 0} (ys : List A) → GivesThese ys []
nothing_given [] = tt
nothing_given (y ∷ ys) = tt

one_given : {A : Type 0} (a : A) (ys : List A) → IsOneOf a ys → GivesThese ys (a ∷ [])
one_given a [] p = absurd p
one_given a (y ∷ ys) (inl e) = inl (e, nothing_given ys)
one_given a (y ∷ ys) (inr p) = inr (one_given a ys p)

-- of the last values one is enough
one_after : {A : Type 0} (a : A) (ys ts xs : List A) → GivesThese ys (ts ++ xs) → IsOneOf a xs → GivesThese ys (ts ++ a ∷ [])
one_after a ys [] xs g p = one_given a ys (given-one a ys xs g p)
one_after a [] (t ∷ ts) xs g p = absurd g
one_after a (y ∷ ys) (t ∷ ts) xs (inl g) p = inl (g.0, one_after a ys ts xs g.1 p)
one_after a (y ∷ ys) (t ∷ ts) xs (inr g) p = inr (one_after a ys (t ∷ ts) xs g p)

-- the last value of a list without repeats stands nowhere before
last_is_new : (n : ℕ) (ns : List ℕ) → NoRepeats (ns ++ n ∷ []) → has_number n ns ≡ false
last_is_new n ns apart = step (has_number n ns) refl
  where
    not_there : (ks : List ℕ) → NoRepeats (ks ++ n ∷ []) → IsAmong n ks → ⊥
    not_there [] p a = a
    not_there (k ∷ ks) p (inl e) = p.0 (subst (λ j. IsAmong j (ks ++ n ∷ [])) e (among-back n ks (n ∷ []) (inl refl)))
    not_there (k ∷ ks) p (inr a) = not_there ks p.1 a

    step : (b : Bool) → has_number n ns ≡ b → b ≡ false
    step true e = absurd (not_there ns apart (number-among n ns e))
    step false e = refl

-- ---- what comes next

-- of what was delivered once, what comes behind all that was taken was not taken
new_by_order : (y : Way) (m : Message) (s : State) (reached : IsReachableState s)
    → GivesThese (messages_put_on y (beats_of_reached s reached)) (messages_taken_from y (beats_of_reached s reached) ++ m ∷ [])
    → has_number m.serial (serials_of (messages_taken_from y (beats_of_reached s reached))) ≡ false
new_by_order y m s reached order =
    let bs : List Beat = beats_of_reached s reached in
    let given : Gives (serials_of (messages_put_on y bs)) (serials_of (messages_taken_from y bs ++ m ∷ []))
    = serials_follow_messages (messages_put_on y bs) (messages_taken_from y bs ++ m ∷ []) order in
    let once : NoRepeats (serials_of (messages_put_on y bs))
    = subst NoRepeats (serials_are_of_messages y bs).0 (distinct-no_repeats (all_put_on y bs) (delivered_once_over_runs s reached y)) in
    last_is_new m.serial (serials_of (messages_taken_from y bs))
    (subst NoRepeats (map-append (λ (n : Message). n.serial) (messages_taken_from y bs) (m ∷ []))
    (gives-apart (serials_of (messages_put_on y bs)) (serials_of (messages_taken_from y bs ++ m ∷ [])) given once))

-- What a call takes that delivers nothing comes next.
taken_comes_next : (s : State) (reached : IsReachableState s) (y : Way) (m : Message) (cs : List Beat) (ws : List Message)
    → GivesThese (messages_put_on y (beats_of_reached s reached ++ cs)) (messages_taken_from y (beats_of_reached s reached ++ cs) ++ ws)
    → messages_put_on y cs ≡ [] → IsOneOf m (messages_taken_from y cs) → ComesNext y m (beats_of_reached s reached)
taken_comes_next s reached y m cs ws order none taken =
    let bs : List Beat = beats_of_reached s reached in
    let put : messages_put_on y (bs ++ cs) ≡ messages_put_on y bs
    = flat_map-append (message_put_on y) bs cs ∙ ap (λ ms. messages_put_on y bs ++ ms) none ∙ append-nil (messages_put_on y bs) in
    let all : GivesThese (messages_put_on y bs) (messages_taken_from y bs ++ (messages_taken_from y cs ++ ws))
    = subst (λ ms. GivesThese ms (messages_taken_from y bs ++ (messages_taken_from y cs ++ ws))) put
    (subst (GivesThese (messages_put_on y (bs ++ cs))) (append_assoc (messages_taken_from y bs) (messages_taken_from y cs) ws)
    (subst (λ ms. GivesThese (messages_put_on y (bs ++ cs)) (ms ++ ws)) (flat_map-append (message_taken_from y) bs cs) order)) in
    let next : GivesThese (messages_put_on y bs) (messages_taken_from y bs ++ m ∷ [])
    = one_after m (messages_put_on y bs) (messages_taken_from y bs) (messages_taken_from y cs ++ ws) all (front m (messages_taken_from y cs) ws taken) in
    record {
      delivered = given-one m (messages_put_on y bs) (messages_taken_from y bs ++ m ∷ []) next
          (one-back m (messages_taken_from y bs) (m ∷ []) (inl refl));
      new = new_by_order y m s reached next;
      order = next;
    }
  where
    front : (a : Message) (xs ys : List Message) → IsOneOf a xs → IsOneOf a (xs ++ ys)
    front a [] ys p = absurd p
    front a (x ∷ xs) ys (inl e) = inl e
    front a (x ∷ xs) ys (inr p) = inr (front a xs ys p)

pub same_handle : (a b : Handle) → Some (TheHandle a) ≡ Some (TheHandle b) → a ≡ b
same_handle a b e = ap inside (same_Some (TheHandle a) (TheHandle b) e)
  where
    inside : Subject → Handle
    inside (TheHandle h) = h
    inside (ThePort p) = a

-- The message of the handle that a receive answers came next on the handle's way, whatever history led to the state before.
pub received_comes_next : (s t : State) (reached : IsReachableState s) (node n k : ℕ) (g : Handle)
    → IsWholeCall s node (Receive n) (replies.Handle k) t → subject t.fixed node k ≡ Some (TheHandle g)
    → ComesNext (way_of g) g.message (beats_of_reached s reached)
received_comes_next s t reached node n k g whole named =
    let call : Call = Receive n in
    let done : IsDone s node call (replies.Handle k) t = (done_of s t node k call whole).1 in
    let ms : List Moment = done.2 in
    let cs : List Beat = map (Makes node) ms in
    let out : HandsOut t node k cs = receive_hands_out s t node n k (left_calm s reached) whole in
    let h : Handle = out.handle in
    let y : Way = way_of h in
    let none : (m : Message) → IsOneOf m (messages_put_on y cs) → ⊥
    = λ m p. none-some m (moments_put (IsSent s node done.0 call) s node (start s node done.0 call) ms y m done.3 (start_carries s node done.0 call) p) in
    subst (λ (a : Handle). ComesNext (way_of a) a.message (beats_of_reached s reached)) (same_handle h g (sym out.named ∙ named))
    (taken_comes_next s reached y h.message cs ((moved_by s ms).waiting y) (whole_in_a_call s reached y node call done.0 ms done.3)
    (none_of (messages_put_on y cs) none) out.taken)
