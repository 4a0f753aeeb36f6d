-- The end of a node's call in its own view, and in another node's.
use Rattle.std.specs.Prelude.{◌≡◌, ℕ, ◌+◌, ◌-◌, Bool, true, false, if◌then◌else◌, ◌==◌, List, [], ◌∷◌, ◌++◌, refl}
use Rattle.std.proofs.Common.{sym, subst, ap, ◌∙◌, arith}
use Rattle.iox_model.specs.Doings.{Receiver, Outcome, Tells, Loans, Fills, Sends, FailsToSend, Receives, Drops, DropsPort, Forgets}
use Rattle.iox_model.specs.States.{Handle, Fixed, State}
use Rattle.iox_model.specs.Handles.{is_request_loan, is_received, way_of}
use Rattle.iox_model.specs.Maps.{has_number, put_at, put}
use Rattle.iox_model.specs.Messages.{Message}
use Rattle.iox_model.specs.Counts.{added, changed, dropped, numbered, called, gives_up, with_fixed, received_handle, sent_handle, holding}
use Rattle.iox_model.specs.Ends.{sent_copy, is_nothing, settled}
use Rattle.iox_model.specs.Expiries.{released}
use Rattle.iox_model.specs.Forgetting.{has_forgotten, forgets}
use Rattle.iox_laws.proofs.WeaveLaws.CallLaws.{put_at-else}
use Rattle.iox_laws.proofs.WeaveLaws.MapLemmas.{either}
use Rattle.iox_laws.proofs.WeaveLaws.WholeLemmas.{put_at-here}
use Rattle.iox_laws.proofs.WeaveLaws.WireLemmas.{released-wire}
use Rattle.iox_laws.proofs.WeaveLedger.Views.{View, view, IsAt, plus, counted, lends_one, swapped, less, takes_one, gives_one, taken_handle, after_call, here-added, else-added, here-changed, else-changed, here-dropped, else-dropped, here-lent, else-lent, here-borrows, else-borrows, here-gives_up, else-gives_up}
use Rattle.iox_laws.proofs.WeaveLedger.Senders.{FitsOutcome, FitsHandles}

here-numbered : (f : Fixed) (n : ℕ) → f.on_wire ≡ true → view (numbered f n) n ≡ counted (view f n)
here-numbered f n e =
    ap (λ (b : Bool). view (if b then record f { handles_made = put_at f.handles_made n (f.handles_made n + 1) }
    else record f { next_number = f.next_number + 1 }) n) e
    ∙ (λ i. record (view f n) { next = next_is i })
  where
    next_is : f.next_number + put_at f.handles_made n (f.handles_made n + 1) n ≡ f.next_number + f.handles_made n + 1
    next_is = ap (λ k. f.next_number + k) (put_at-here f.handles_made n (f.handles_made n + 1)) ∙ omega arith

else-numbered : (f : Fixed) (n n' : ℕ) → f.on_wire ≡ true → (n' == n) ≡ false → view (numbered f n) n' ≡ view f n'
else-numbered f n n' e d =
    ap (λ (b : Bool). view (if b then record f { handles_made = put_at f.handles_made n (f.handles_made n + 1) }
    else record f { next_number = f.next_number + 1 }) n') e
    ∙ (λ i. record (view f n') { next = f.next_number + put_at-else f.handles_made n (f.handles_made n + 1) n' d i })

-- a received handle has the next number
number_is : (f : Fixed) (n : ℕ) (x : Receiver) (m : Message) → f.on_wire ≡ true → received_handle f n x m ≡ taken_handle (view f n) n x m
number_is f n x m e = λ i. record (taken_handle (view f n) n x m) { number = number i }
  where
    number : (if f.on_wire then f.next_number + f.handles_made n else f.next_number) ≡ f.next_number + f.handles_made n
    number = ap (λ (b : Bool). if b then f.next_number + f.handles_made n else f.next_number) e

-- what a released port leaves on a wire
released-view : (s : State) (f : Fixed) (port n : ℕ) → f.on_wire ≡ true → view (released (with_fixed s f) port).fixed n ≡ view f n
released-view s f port n e = ap (λ (t : State). view t.fixed n) (released-wire (with_fixed s f) port e)

pub on_node : (h : Handle) (n n' : ℕ) → h.node ≡ n → (n' == n) ≡ false → (n' == h.node) ≡ false
on_node h n n' e d = ap (λ k. n' == k) e ∙ d

at-by : (u v : View) (port n : ℕ) → u ≡ v → IsAt v.ports port n → IsAt u.ports port n
at-by u v port n e p = subst (λ (x : View). IsAt x.ports port n) (sym e) p

gives_up-on_wire : (f : Fixed) (h : Handle) → f.on_wire ≡ true → (gives_up f h).on_wire ≡ true
gives_up-on_wire f h e =
    either (λ (g : Fixed). g.on_wire ≡ true) (is_received h.kind)
    (record f { borrowed = put f.borrowed (way_of h) (f.borrowed (way_of h) - 1) }) f (λ u. e) (λ u. e)

copy-here : (f : Fixed) (h : Handle) (count n : ℕ) → f.on_wire ≡ true → h.node ≡ n
    → view (sent_copy f h count) n ≡ (if is_request_loan h.kind then plus (counted (view f n)) (sent_handle h count) else view f n)
copy-here f h count n wire e = by_case (is_request_loan h.kind)
  where
    by_case : (b : Bool) → view (if b then added (numbered f h.node) (sent_handle h count) else f) n
        ≡ (if b then plus (counted (view f n)) (sent_handle h count) else view f n)
    by_case true =
        here-added (numbered f h.node) (sent_handle h count) n e
        ∙ ap (λ v. plus v (sent_handle h count)) (ap (λ k. view (numbered f k) n) e ∙ here-numbered f n wire)
    by_case false = refl

copy-else : (f : Fixed) (h : Handle) (count n n' : ℕ) → f.on_wire ≡ true → h.node ≡ n → (n' == n) ≡ false
    → view (sent_copy f h count) n' ≡ view f n'
copy-else f h count n n' wire e d =
    either (λ (g : Fixed). view g n' ≡ view f n') (is_request_loan h.kind) (added (numbered f h.node) (sent_handle h count)) f
    (λ u. else-added (numbered f h.node) (sent_handle h count) n' (on_node h n n' e d) ∙ else-numbered f h.node n' wire (on_node h n n' e d))
    (λ u. refl)

if-ports : (b : Bool) (u v : View) → u.ports ≡ v.ports → (if b then u else v).ports ≡ v.ports
if-ports true u v e = e
if-ports false u v e = refl

copy-at : (f : Fixed) (h : Handle) (count n : ℕ) → f.on_wire ≡ true → h.node ≡ n → IsAt f.ports h.port n → IsAt (sent_copy f h count).ports h.port n
copy-at f h count n wire e p =
    subst (λ ports. IsAt ports h.port n)
    (sym (ap (λ (v : View). v.ports) (copy-here f h count n wire e)
    ∙ if-ports (is_request_loan h.kind) (plus (counted (view f n)) (sent_handle h count)) (view f n) refl)) p

numbered-at : (f : Fixed) (port n : ℕ) → f.on_wire ≡ true → IsAt f.ports port n → IsAt (numbered f n).ports port n
numbered-at f port n wire p = at-by (view (numbered f n) n) (counted (view f n)) port n (here-numbered f n wire) p

pub settled-here : (s : State) (n : ℕ) (payload : List ℕ) (o : Outcome) → s.fixed.on_wire ≡ true → FitsHandles (view s.fixed n) n
    → FitsOutcome (view s.fixed n) n o → view (settled s n payload o).fixed n ≡ after_call (view s.fixed n) n payload o
settled-here s n payload (Tells reply) wire hs p =
    either (λ (t : State). view t.fixed n ≡ view s.fixed n) (is_nothing reply) (with_fixed s (called s.fixed)) s (λ u. refl) (λ u. refl)
settled-here s n payload (Loans h) wire hs p =
    here-lent (added (numbered s.fixed n) (holding h payload)) h.port n (numbered-at s.fixed h.port n wire p.of_port)
    ∙ ap (λ v. lends_one v h.port) (here-added (numbered s.fixed n) (holding h payload) n p.of_node
    ∙ ap (λ v. plus v (holding h payload)) (here-numbered s.fixed n wire))
settled-here s n payload (Fills h) wire hs p = here-changed s.fixed h n p.of_node
settled-here s n payload (Sends h true count) wire hs p =
    here-lent (sent_copy s.fixed h count) h.port n (copy-at s.fixed h count n wire p.of_node p.of_port)
    ∙ ap (λ v. lends_one v h.port) (copy-here s.fixed h count n wire p.of_node)
settled-here s n payload (Sends h false count) wire hs p = by_case (is_request_loan h.kind)
  where
    by_case : (b : Bool)
        → view (if b then with_fixed s (changed s.fixed (sent_handle h count)) else released (with_fixed s (dropped s.fixed h)) h.port).fixed n
        ≡ (if b then swapped (view s.fixed n) (sent_handle h count) else less (view s.fixed n) h)
    by_case true = here-changed s.fixed (sent_handle h count) n p.of_node
    by_case false = released-view s (dropped s.fixed h) h.port n wire ∙ here-dropped s.fixed h n p.of_node
settled-here s n payload (FailsToSend h true refusal) wire hs p = here-lent s.fixed h.port n p.of_port
settled-here s n payload (FailsToSend h false refusal) wire hs p =
    released-view s (dropped s.fixed h) h.port n wire ∙ here-dropped s.fixed h n p.of_node
settled-here s n payload (Receives x w m) wire hs p =
    let h : Handle = received_handle s.fixed n x m in
    here-borrows (added (numbered s.fixed n) h) w n
    (numbered-at s.fixed w.receiver n wire (subst (λ q. IsAt s.fixed.ports q n) (sym p.1.0.0) p.0))
    ∙ ap (λ v. takes_one v w)
    (here-added (numbered s.fixed n) h n refl ∙ ap (λ v. plus v h) (here-numbered s.fixed n wire)
    ∙ ap (λ g. plus (counted (view s.fixed n)) g) (number_is s.fixed n x m wire))
settled-here s n payload (Drops h) wire hs p =
    released-view s (gives_up (dropped s.fixed h) h) h.port n (gives_up-on_wire (dropped s.fixed h) h wire)
    ∙ here-gives_up (dropped s.fixed h) h n (hs.of_port h p) ∙ ap (λ v. gives_one v h) (here-dropped s.fixed h n (hs.of_node h p))
settled-here s n payload (DropsPort port) wire hs p = absurd p
settled-here s n payload (Forgets dead) wire hs p = by_case (has_number dead (s.fixed.forgot n))
  where
    by_case : (b : Bool) → view (if b then s else forgets s n dead).fixed n
        ≡ (if b then view s.fixed n else record (view s.fixed n) { forgot = s.fixed.forgot n ++ dead ∷ [] })
    by_case true = refl
    by_case false = λ i. record (view s.fixed n) { forgot = put_at-here s.fixed.forgot n (s.fixed.forgot n ++ dead ∷ []) i }

pub settled-else : (s : State) (n n' : ℕ) (payload : List ℕ) (o : Outcome) → s.fixed.on_wire ≡ true → FitsHandles (view s.fixed n) n
    → FitsOutcome (view s.fixed n) n o → (n' == n) ≡ false → view (settled s n payload o).fixed n' ≡ view s.fixed n'
settled-else s n n' payload (Tells reply) wire hs p d =
    either (λ (t : State). view t.fixed n' ≡ view s.fixed n') (is_nothing reply) (with_fixed s (called s.fixed)) s (λ u. refl) (λ u. refl)
settled-else s n n' payload (Loans h) wire hs p d =
    else-lent (added (numbered s.fixed n) (holding h payload)) h.port n n' (numbered-at s.fixed h.port n wire p.of_port) d
    ∙ else-added (numbered s.fixed n) (holding h payload) n' (on_node h n n' p.of_node d) ∙ else-numbered s.fixed n n' wire d
settled-else s n n' payload (Fills h) wire hs p d = else-changed s.fixed h n' (on_node h n n' p.of_node d)
settled-else s n n' payload (Sends h true count) wire hs p d =
    else-lent (sent_copy s.fixed h count) h.port n n' (copy-at s.fixed h count n wire p.of_node p.of_port) d
    ∙ copy-else s.fixed h count n n' wire p.of_node d
settled-else s n n' payload (Sends h false count) wire hs p d =
    either (λ (t : State). view t.fixed n' ≡ view s.fixed n') (is_request_loan h.kind) (with_fixed s (changed s.fixed (sent_handle h count)))
    (released (with_fixed s (dropped s.fixed h)) h.port)
    (λ u. else-changed s.fixed (sent_handle h count) n' (on_node h n n' p.of_node d))
    (λ u. released-view s (dropped s.fixed h) h.port n' wire ∙ else-dropped s.fixed h n' (on_node h n n' p.of_node d))
settled-else s n n' payload (FailsToSend h true refusal) wire hs p d = else-lent s.fixed h.port n n' p.of_port d
settled-else s n n' payload (FailsToSend h false refusal) wire hs p d =
    released-view s (dropped s.fixed h) h.port n' wire ∙ else-dropped s.fixed h n' (on_node h n n' p.of_node d)
settled-else s n n' payload (Receives x w m) wire hs p d =
    let h : Handle = received_handle s.fixed n x m in
    else-borrows (added (numbered s.fixed n) h) w n n'
    (numbered-at s.fixed w.receiver n wire (subst (λ q. IsAt s.fixed.ports q n) (sym p.1.0.0) p.0)) d
    ∙ else-added (numbered s.fixed n) h n' d ∙ else-numbered s.fixed n n' wire d
settled-else s n n' payload (Drops h) wire hs p d =
    released-view s (gives_up (dropped s.fixed h) h) h.port n' (gives_up-on_wire (dropped s.fixed h) h wire)
    ∙ else-gives_up (dropped s.fixed h) h n n' (hs.of_port h p) d ∙ else-dropped s.fixed h n' (on_node h n n' (hs.of_node h p) d)
settled-else s n n' payload (DropsPort port) wire hs p d = absurd p
settled-else s n n' payload (Forgets dead) wire hs p d =
    either (λ (t : State). view t.fixed n' ≡ view s.fixed n') (has_forgotten s.fixed n dead) s (forgets s n dead) (λ u. refl)
    (λ u. (λ i. record (view s.fixed n') { forgot = put_at-else s.fixed.forgot n (s.fixed.forgot n ++ dead ∷ []) n' d i }))
