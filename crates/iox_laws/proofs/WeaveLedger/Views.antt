-- What a node has of what is fixed; the end of a node's call changes that of no other node.
use Rattle.std.specs.Prelude.{◌≡◌, ℕ, ◌+◌, ◌-◌, Bool, true, false, ◌&&◌, if◌then◌else◌, ◌==◌, List, [], ◌∷◌, ◌++◌, find, refl}
use Rattle.std.specs.List.{list_any}
use Rattle.std.specs.Option.{option_map_or}
use Rattle.std.proofs.Common.{sym, subst, ap, ◌∙◌, eqb-true, eq-eqb}
use Rattle.iox_model.specs.declared.kind.Role.{Role}
use Rattle.iox_model.specs.declared.kind.Role.TheVariants.{Client}
use Rattle.iox_model.specs.declared.kind.Kind.TheVariants.{ActiveRequest, Response}
use Rattle.iox_model.specs.declared.way.Way.{Way}
use Rattle.iox_model.specs.Doings.{Receiver, Outcome, Tells, Loans, Fills, Sends, FailsToSend, Receives, Drops, DropsPort, Forgets}
use Rattle.iox_model.specs.Settings.{is_client, Limits}
use Rattle.iox_model.specs.States.{Port, Handle, Fixed}
use Rattle.iox_model.specs.Handles.{is_request_loan, is_received, same_kind, way_of}
use Rattle.iox_model.specs.Maps.{has_number, put_at, put, same_way}
use Rattle.iox_model.specs.Messages.{Message, request_way, response_way}
use Rattle.iox_model.specs.Counts.{without_handle, with_handle, added, changed, dropped, lent, borrows, gives_up, sent_handle, holding}
use Rattle.iox_laws.proofs.WeaveLaws.CallLaws.{put_at-else}
use Rattle.iox_laws.proofs.WeaveLaws.MapLemmas.{either, same_way-true}
use Rattle.iox_laws.proofs.WeaveLaws.WholeLemmas.{put_at-here}
use Rattle.iox_laws.proofs.WeaveLedger.Truths.{never}

-- what a node has: its handles, the number of its next one, how many loans its ports made, what its
-- receivers have of each way, and whom it forgot
pub record View : Type 0 where
  pub ports : List Port
  pub limits : Limits
  pub handles : List Handle
  pub next : ℕ
  pub loans : ℕ → ℕ
  pub borrowed : Way → ℕ
  pub forgot : List ℕ

abbrev pub node_in : List Port → ℕ → ℕ
node_in ports port = option_map_or (λ p. p.node) (find (λ p. p.number == port) ports) 0

abbrev pub role_in : List Port → ℕ → Role
role_in ports port = option_map_or (λ p. p.role) (find (λ p. p.number == port) ports) Client

abbrev pub forgot_in : View → ℕ → Bool
forgot_in v port = list_any (λ p. (p.number == port) && has_number p.node v.forgot) v.ports

abbrev pub view : Fixed → ℕ → View
view f n = record {
  ports = f.ports;
  limits = f.limits;
  handles = f.handles n;
  next = f.next_number + f.handles_made n;
  loans = λ p. if node_in f.ports p == n then f.loans p else 0;
  borrowed = λ w. if node_in f.ports w.receiver == n then f.borrowed w else 0;
  forgot = f.forgot n;
}

-- ---- what changes in a view

abbrev pub plus : View → Handle → View
plus v h = record v { handles = v.handles ++ h ∷ [] }

abbrev pub counted : View → View
counted v = record v { next = v.next + 1 }

abbrev pub lends_one : View → ℕ → View
lends_one v p = record v { loans = put_at v.loans p (v.loans p + 1) }

abbrev pub swapped : View → Handle → View
swapped v h = record v { handles = with_handle h v.handles }

abbrev pub less : View → Handle → View
less v h = record v { handles = without_handle h v.handles }

abbrev pub takes_one : View → Way → View
takes_one v w = record v { borrowed = put v.borrowed w (v.borrowed w + 1) }

abbrev pub gives_one : View → Handle → View
gives_one v h =
    if is_received h.kind
    then record v { borrowed = put v.borrowed (way_of h) (v.borrowed (way_of h) - 1) } else v

abbrev pub taken_handle : View → ℕ → Receiver → Message → Handle
taken_handle v node x m = record {
  node = node;
  number = v.next;
  kind = if is_client x.role then Response else ActiveRequest;
  port = x.port;
  message = m;
  filled = m.elements;
  client = if is_client x.role then x.port else m.sender;
  lane = m.lane;
  request = m.request;
  connections = 0;
}

-- the view of a node once its call has ended
abbrev pub after_call : View → ℕ → List ℕ → Outcome → View
after_call v n payload (Tells reply) = v
after_call v n payload (Loans h) = lends_one (plus (counted v) (holding h payload)) h.port
after_call v n payload (Fills h) = swapped v h
after_call v n payload (Sends h true count) =
    lends_one (if is_request_loan h.kind then plus (counted v) (sent_handle h count) else v) h.port
after_call v n payload (Sends h false count) =
    if is_request_loan h.kind then swapped v (sent_handle h count) else less v h
after_call v n payload (FailsToSend h true refusal) = lends_one v h.port
after_call v n payload (FailsToSend h false refusal) = less v h
after_call v n payload (Receives x w m) = takes_one (plus (counted v) (taken_handle v n x m)) w
after_call v n payload (Drops h) = gives_one (less v h) h
after_call v n payload (DropsPort port) = v
after_call v n payload (Forgets dead) =
    if has_number dead v.forgot then v else record v { forgot = v.forgot ++ dead ∷ [] }

-- ---- values at one name among others

pub put_at-at : {A : Type 0} (g : ℕ → A) (k n : ℕ) (F : A → A) → k ≡ n → put_at g k (F (g k)) n ≡ F (g n)
put_at-at g k n F e = subst (λ j. put_at g k (F (g k)) j ≡ F (g j)) e (put_at-here g k (F (g k)))

masked-here : {K : Type 0} (P : K → Bool) (g : K → ℕ) (k q : K) (F : ℕ → ℕ) (b : Bool) → (b ≡ true → q ≡ k) → P k ≡ true
    → (if P q then (if b then F (g k) else g q) else 0) ≡ (if b then F (if P k then g k else 0) else (if P q then g q else 0))
masked-here P g k q F true same e = rw (ap P (same refl) ∙ e, e) refl
masked-here P g k q F false same e = refl

masked-else : {K : Type 0} (P : K → Bool) (g : K → ℕ) (k q : K) (a : ℕ) (b : Bool) → (b ≡ true → q ≡ k) → P k ≡ false
    → (if P q then (if b then a else g q) else 0) ≡ (if P q then g q else 0)
masked-else P g k q a true same e = rw (ap P (same refl) ∙ e) refl
masked-else P g k q a false same e = refl

pub not-equal : (m n : ℕ) → (n == m) ≡ false → (m == n) ≡ false
not-equal m n e = by_case (m == n) refl
  where
    by_case : (b : Bool) → (m == n) ≡ b → b ≡ false
    by_case true h = absurd (never (n == m) (eq-eqb n m (sym (eqb-true m n h))) e)
    by_case false h = refl

abbrev pub IsAt : List Port → ℕ → ℕ → Type 0
IsAt ports port n = node_in ports port ≡ n

pub mine : (ports : List Port) (port n : ℕ) → IsAt ports port n → (node_in ports port == n) ≡ true
mine ports port n e = eq-eqb (node_in ports port) n e

pub others-port : (ports : List Port) (port n n' : ℕ) → IsAt ports port n → (n' == n) ≡ false → (node_in ports port == n') ≡ false
others-port ports port n n' e h = ap (λ k. k == n') e ∙ not-equal n n' h

-- ---- each change, in its node's view and in another's

pub here-added : (f : Fixed) (h : Handle) (n : ℕ) → h.node ≡ n → view (added f h) n ≡ plus (view f n) h
here-added f h n e = λ i. record (view f n) { handles = put_at-at f.handles h.node n (λ hs. hs ++ h ∷ []) e i }

pub else-added : (f : Fixed) (h : Handle) (n : ℕ) → (n == h.node) ≡ false → view (added f h) n ≡ view f n
else-added f h n e = λ i. record (view f n) { handles = put_at-else f.handles h.node (f.handles h.node ++ h ∷ []) n e i }

pub here-changed : (f : Fixed) (h : Handle) (n : ℕ) → h.node ≡ n → view (changed f h) n ≡ swapped (view f n) h
here-changed f h n e = λ i. record (view f n) { handles = put_at-at f.handles h.node n (with_handle h) e i }

pub else-changed : (f : Fixed) (h : Handle) (n : ℕ) → (n == h.node) ≡ false → view (changed f h) n ≡ view f n
else-changed f h n e = λ i. record (view f n) { handles = put_at-else f.handles h.node (with_handle h (f.handles h.node)) n e i }

pub here-dropped : (f : Fixed) (h : Handle) (n : ℕ) → h.node ≡ n → view (dropped f h) n ≡ less (view f n) h
here-dropped f h n e = λ i. record (view f n) { handles = put_at-at f.handles h.node n (without_handle h) e i }

pub else-dropped : (f : Fixed) (h : Handle) (n : ℕ) → (n == h.node) ≡ false → view (dropped f h) n ≡ view f n
else-dropped f h n e = λ i. record (view f n) { handles = put_at-else f.handles h.node (without_handle h (f.handles h.node)) n e i }

pub here-lent : (f : Fixed) (port n : ℕ) → IsAt f.ports port n → view (lent f port) n ≡ lends_one (view f n) port
here-lent f port n e = λ i. record (view f n) {
  loans = λ p. masked-here (λ q. node_in f.ports q == n) f.loans port p (λ k. k + 1) (p == port) (eqb-true p port) (mine f.ports port n e) i;
}

pub else-lent : (f : Fixed) (port n n' : ℕ) → IsAt f.ports port n → (n' == n) ≡ false → view (lent f port) n' ≡ view f n'
else-lent f port n n' e h = λ i. record (view f n') {
  loans = λ p. masked-else (λ q. node_in f.ports q == n') f.loans port p (f.loans port + 1) (p == port) (eqb-true p port) (others-port f.ports port n n' e h) i;
}

pub here-borrows : (f : Fixed) (w : Way) (n : ℕ) → IsAt f.ports w.receiver n → view (borrows f w) n ≡ takes_one (view f n) w
here-borrows f w n e = λ i. record (view f n) {
  borrowed = λ u. masked-here (λ (v : Way). node_in f.ports v.receiver == n) f.borrowed w u (λ k. k + 1) (same_way u w) (same_way-true u w)
      (mine f.ports w.receiver n e) i;
}

pub else-borrows : (f : Fixed) (w : Way) (n n' : ℕ) → IsAt f.ports w.receiver n → (n' == n) ≡ false → view (borrows f w) n' ≡ view f n'
else-borrows f w n n' e h = λ i. record (view f n') {
  borrowed = λ u. masked-else (λ (v : Way). node_in f.ports v.receiver == n') f.borrowed w u (f.borrowed w + 1) (same_way u w) (same_way-true u w)
      (others-port f.ports w.receiver n n' e h) i;
}

pub way_of-receiver : (h : Handle) → (way_of h).receiver ≡ h.port
way_of-receiver h =
    either (λ (w : Way). w.receiver ≡ h.port) (same_kind h.kind ActiveRequest) (request_way h.client h.port)
    (response_way h.port h.lane h.message.sender) (λ u. refl) (λ u. refl)

pub here-gives_up : (f : Fixed) (h : Handle) (n : ℕ) → IsAt f.ports h.port n → view (gives_up f h) n ≡ gives_one (view f n) h
here-gives_up f h n e = by_case (is_received h.kind)
  where
    by_case : (b : Bool)
        → view (if b then record f { borrowed = put f.borrowed (way_of h) (f.borrowed (way_of h) - 1) } else f) n
        ≡ (if b then record (view f n) { borrowed = put (view f n).borrowed (way_of h) ((view f n).borrowed (way_of h) - 1) } else view f n)
    by_case true = λ i. record (view f n) {
      borrowed =
          λ u. masked-here (λ (v : Way). node_in f.ports v.receiver == n) f.borrowed (way_of h) u (λ k. k - 1) (same_way u (way_of h))
          (same_way-true u (way_of h))
          (mine f.ports (way_of h).receiver n (ap (node_in f.ports) (way_of-receiver h) ∙ e)) i;
    }
    by_case false = refl

pub else-gives_up : (f : Fixed) (h : Handle) (n n' : ℕ) → IsAt f.ports h.port n → (n' == n) ≡ false → view (gives_up f h) n' ≡ view f n'
else-gives_up f h n n' e d = by_case (is_received h.kind)
  where
    by_case : (b : Bool)
        → view (if b then record f { borrowed = put f.borrowed (way_of h) (f.borrowed (way_of h) - 1) } else f) n' ≡ view f n'
    by_case true = λ i. record (view f n') {
      borrowed =
          λ u. masked-else (λ (v : Way). node_in f.ports v.receiver == n') f.borrowed (way_of h) u (f.borrowed (way_of h) - 1) (same_way u (way_of h))
          (same_way-true u (way_of h))
          (others-port f.ports (way_of h).receiver n n' (ap (node_in f.ports) (way_of-receiver h) ∙ e) d) i;
    }
    by_case false = refl
