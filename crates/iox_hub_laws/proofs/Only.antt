-- What is waiting after a call waited before, or is what the call sends.
use Rattle.std.specs.Prelude.{◌≡◌, ◌⊎◌, ℕ, Bool, true, false, if◌then◌else◌, List, [], ◌∷◌, ◌++◌, map, Option, Some, None, refl}
use Rattle.std.specs.Option.{option_map_or}
use Rattle.std.proofs.Common.{sym, ap, subst, ◌∙◌, inl, inr}
use Rattle.std.proofs.lemmas.Option.{none-some, same_Some}
use Rattle.iox_model.specs.declared.call.Call.TheVariants.{Send, SendCopy}
use Rattle.iox_model.specs.declared.way.Way.{Way}
use Rattle.iox_model.specs.Begins.{start}
use Rattle.iox_model.specs.Commands.{Call, Payload, Refusal, Reply}
use Rattle.iox_model.specs.Handles.{Subject, TheHandle, ThePort, subject}
use Rattle.iox_model.specs.Ends.{settled}
use Rattle.iox_model.specs.Loans.{next_message, next_request}
use Rattle.iox_model.specs.Maps.{put, rest_of, same_way}
use Rattle.iox_model.specs.Messages.{Message}
use Rattle.iox_model.specs.Moments.{Deliver, Evict, Moment, Take, moved}
use Rattle.iox_model.specs.Names.{misnamed}
use Rattle.iox_model.specs.Peers.{port_at}
use Rattle.iox_model.specs.States.{Fixed, Handle, Port, State}
use Rattle.iox_model.specs.Weaves.{Makes}
use Rattle.iox_model.specs.WholeCalls.{IsDone, IsWholeCall, UnlessRefused, moved_by, spent}
use Rattle.iox_laws.specs.MessageLaws.Deliveries.{message_put_on, messages_put_on}
use Rattle.iox_laws.specs.MessageLaws.Lists.{IsOneOf}
use Rattle.iox_laws.specs.MessageLaws.Sendings.{copied_message, own_message, sent_message}
use Rattle.iox_laws.proofs.MessageLaws.Carries.{moments_put}
use Rattle.iox_laws.proofs.MessageLaws.Sendings.{IsSent, start_carries}
use Rattle.iox_laws.proofs.RunLaws.InOrder.{settled_cuts}
use Rattle.iox_laws.proofs.WeaveLaws.MapLemmas.{same_way-true}
use Rattle.iox_laws.specs.CallFunctions.Copies.{copied_order}

-- ---- lists

either_list : {A : Type 0} (a : A) (xs ys : List A) → IsOneOf a (xs ++ ys) → IsOneOf a xs ⊎ IsOneOf a ys
either_list a [] ys p = inr p
either_list a (x ∷ xs) ys (inl e) = inl (inl e)
either_list a (x ∷ xs) ys (inr p) = elim (either_list a xs ys p) as (λ u. IsOneOf a (x ∷ xs) ⊎ IsOneOf a ys) [
  | inl q ↦ inl (inr q)
  | inr q ↦ inr q
]

in_front : {A : Type 0} (a : A) (xs ys : List A) → IsOneOf a xs → IsOneOf a (xs ++ ys)
in_front a [] ys p = absurd p
in_front a (x ∷ xs) ys (inl e) = inl e
in_front a (x ∷ xs) ys (inr p) = inr (in_front a xs ys p)

behind : {A : Type 0} (a : A) (xs ys : List A) → IsOneOf a ys → IsOneOf a (xs ++ ys)
behind a [] ys p = p
behind a (x ∷ xs) ys p = inr (behind a xs ys p)

of_the_rest : (ms : List Message) (m : Message) → IsOneOf m (rest_of ms) → IsOneOf m ms
of_the_rest [] m p = p
of_the_rest (a ∷ ms) m p = inr p

-- ---- moments

-- it waited before, or it was put there
abbrev Came : Way → State → ℕ → List Moment → Message → Type 0
Came y s node ms a = IsOneOf a (s.waiting y) ⊎ IsOneOf a (messages_put_on y (map (Makes node) ms))

-- what is left of a way waited there
rest_waited : (s : State) (w y : Way) (a : Message) → IsOneOf a (put s.waiting w (rest_of (s.waiting w)) y) → IsOneOf a (s.waiting y)
rest_waited s w y a p = step (same_way y w) refl p
  where
    step : (b : Bool) → same_way y w ≡ b → IsOneOf a (if b then rest_of (s.waiting w) else s.waiting y) → IsOneOf a (s.waiting y)
    step true e q = subst (λ (v : Way). IsOneOf a (s.waiting v)) (sym (same_way-true y w e)) (of_the_rest (s.waiting w) a q)
    step false e q = q

last_waits : (s : State) (node : ℕ) (w y : Way) (m a : Message) (ms : List Moment) → IsOneOf a (put s.waiting w (s.waiting w ++ m ∷ []) y)
    → Came y s node (Deliver w m ∷ ms) a
last_waits s node w y m a ms p = step (same_way y w) refl p
  where
    step : (b : Bool) → same_way y w ≡ b → IsOneOf a (if b then s.waiting w ++ m ∷ [] else s.waiting y)
        → IsOneOf a (s.waiting y) ⊎ IsOneOf a ((if b then m ∷ [] else []) ++ messages_put_on y (map (Makes node) ms))
    step true e q = elim (either_list a (s.waiting w) (m ∷ []) q) as
        (λ u. IsOneOf a (s.waiting y) ⊎ IsOneOf a (m ∷ messages_put_on y (map (Makes node) ms))) [
          | inl r ↦ inl (subst (λ (v : Way). IsOneOf a (s.waiting v)) (sym (same_way-true y w e)) r)
          | inr r ↦ inr (in_front a (m ∷ []) (messages_put_on y (map (Makes node) ms)) r)
        ]
    step false e q = inl q

later : (y : Way) (s u : State) (node : ℕ) (m : Moment) (ms : List Moment) (a : Message)
    → (IsOneOf a (u.waiting y) → Came y s node (m ∷ ms) a) → Came y u node ms a → Came y s node (m ∷ ms) a
later y s u node m ms a first p = elim p as (λ q. Came y s node (m ∷ ms) a) [
  | inl q ↦ first q
  | inr q ↦ inr (behind a (message_put_on y (Makes node m)) (messages_put_on y (map (Makes node) ms)) q)
]

moments_came : (y : Way) (s : State) (node : ℕ) (ms : List Moment) (a : Message) → IsOneOf a ((moved_by s ms).waiting y) → Came y s node ms a
moments_came y s node [] a p = inl p
moments_came y s node (Deliver w m ∷ ms) a p =
    later y s (moved s (Deliver w m)) node (Deliver w m) ms a (last_waits s node w y m a ms) (moments_came y (moved s (Deliver w m)) node ms a p)
moments_came y s node (Evict w ∷ ms) a p =
    later y s (moved s (Evict w)) node (Evict w) ms a (λ q. inl (rest_waited s w y a q)) (moments_came y (moved s (Evict w)) node ms a p)
moments_came y s node (Take w m ∷ ms) a p =
    later y s (moved s (Take w m)) node (Take w m) ms a (λ q. inl (rest_waited s w y a q)) (moments_came y (moved s (Take w m)) node ms a p)
moments_came y s node (m ∷ ms) a p =
    later y s (moved s m) node m ms a (λ q. inl q) (moments_came y (moved s m) node ms a p)

-- ---- whole calls

-- it waited before, or the call sends it
abbrev pub WaitedOrSent : State → ℕ → Call → Way → Message → Type 0
WaitedOrSent s node call y a = IsOneOf a (s.waiting y) ⊎ ((lane : ℕ) × (sent_message s.fixed node lane call ≡ Some a))

done_came : (s t : State) (node : ℕ) (call : Call) (reply : Reply) → IsDone s node call reply t → (y : Way) (a : Message) → IsOneOf a (t.waiting y)
    → WaitedOrSent s node call y a
done_came s t node call reply done y a p =
    elim (settled_cuts (moved_by s done.2) node done.6 done.4 y) as (λ u. WaitedOrSent s node call y a) [
      | inl same ↦ elim (moments_came y s node done.2 a (subst (IsOneOf a) same at_end)) as (λ u. WaitedOrSent s node call y a) [
        | inl q ↦ inl q
        | inr q ↦ inr (
          (done.0).lane,
          moments_put (IsSent s node done.0 call) s node (start s node done.0 call) done.2 y a done.3 (start_carries s node done.0 call) q,
        )
      ]
      | inr cut ↦ absurd (subst (IsOneOf a) cut at_end)
    ]
  where
    at_end : IsOneOf a ((settled (moved_by s done.2) node done.6 done.4).waiting y)
    at_end = subst (λ (u : State). IsOneOf a (u.waiting y)) done.9 p

unless_came : (r : Option Refusal) (s t : State) (node : ℕ) (call : Call) (reply : Reply) (P : Type 0) (y : Way) (a : Message)
    → IsOneOf a (t.waiting y) → (P → WaitedOrSent s node call y a) → UnlessRefused r s reply t P → WaitedOrSent s node call y a
unless_came (Some r) s t node call reply P y a p goes u = inl (subst (λ (v : State). IsOneOf a (v.waiting y)) u.1 p)
unless_came None s t node call reply P y a p goes u = goes u

-- What is waiting after a whole call waited before, or the call sends it.
pub waited_or_sent : (s t : State) (node : ℕ) (call : Call) (reply : Reply) → IsWholeCall s node call reply t → (y : Way) (a : Message)
    → IsOneOf a (t.waiting y) → WaitedOrSent s node call y a
waited_or_sent s t node call reply whole y a p =
    unless_came (misnamed s.fixed node call) s t node call reply (UnlessRefused (spent s.fixed call) s reply t (IsDone s node call reply t)) y a p
    (unless_came (spent s.fixed call) s t node call reply (IsDone s node call reply t) y a p (λ done. done_came s t node call reply done y a p))
    whole

-- ---- what it carries

-- the send of a loan sends the message of the loan
pub sends_its_message : (f : Fixed) (node n lane : ℕ) (h : Handle) (a : Message) → subject f node n ≡ Some (TheHandle h)
    → sent_message f node lane (Send n) ≡ Some a → a.payload ≡ h.message.payload
sends_its_message f node n lane h a named e =
    ap (λ (m : Message). m.payload)
    (same_Some a h.message (sym e ∙ ap (λ (o : Option Subject). option_map_or own_message o None) named))

-- a copy sends the words that it gives
pub copies_its_words : (f : Fixed) (node n lane : ℕ) (p : Payload) (a : Message) → sent_message f node lane (SendCopy n p) ≡ Some a → a.payload ≡ p.words
copies_its_words f node n lane p a = by_count p.elements
  where
    by_port : (h : Handle) (k : ℕ) (q : Option Port) → option_map_or (λ (o : Port). Some (next_message f o (copied_order k p.words) h.lane h.request)) q None ≡ Some a
        → a.payload ≡ p.words
    by_port h k None e = absurd (none-some a e)
    by_port h k (Some o) e =
        ap (λ (m : Message). m.payload) (same_Some a (next_message f o (copied_order k p.words) h.lane h.request) (sym e))

    by_subject : (k : ℕ) (o : Option Subject) → option_map_or (copied_message f lane (copied_order k p.words)) o None ≡ Some a → a.payload ≡ p.words
    by_subject k None e = absurd (none-some a e)
    by_subject k (Some (ThePort o)) e =
        ap (λ (m : Message). m.payload)
        (same_Some a (next_message f o (copied_order k p.words) lane (next_request f o.number)) (sym e))
    by_subject k (Some (TheHandle h)) e = by_port h k (port_at f h.port) e

    by_count : (o : Option ℕ)
        → option_map_or (λ k. option_map_or (copied_message f lane (copied_order k p.words)) (subject f node n) None) o None ≡ Some a → a.payload ≡ p.words
    by_count None e = absurd (none-some a e)
    by_count (Some k) e = by_subject k (subject f node n) e
