-- What is said only of limits, ports and the next number, and neither a number that is given out,
-- nor a port that goes, nor one whose value is released makes false, is kept by each call.
use Rattle.std.specs.Prelude.{◌≡◌, ℕ, ◌+◌, ◌-◌, Bool, true, false, not, ◌==◌, List, map, filter, None}
use Rattle.std.proofs.Common.{sym, subst}
use Rattle.iox_model.specs.UniqueSystemId.{UniqueSystemId}
use Rattle.iox_model.specs.declared.kind.Role.{Role}
use Rattle.iox_model.specs.Commands.{Options}
use Rattle.iox_model.specs.Counts.{added, changed, dropped, numbered, called, gives_up, with_fixed, sent_handle}
use Rattle.iox_model.specs.Doings.{Outcome, Tells, Loans, Fills, Sends, FailsToSend, Receives, Drops, DropsPort, Forgets}
use Rattle.iox_model.specs.Ends.{sent_loan, sent_copy, is_nothing, port_dropped, settled}
use Rattle.iox_model.specs.Expiries.{disconnected, is_last_gone, released}
use Rattle.iox_model.specs.Forgetting.{has_forgotten, forgets}
use Rattle.iox_model.specs.Handles.{is_request_loan, is_received, way_of}
use Rattle.iox_model.specs.Makings.{making_refusal, new_port, with_port}
use Rattle.iox_model.specs.Maps.{put_at, put}
use Rattle.iox_model.specs.Settings.{Limits}
use Rattle.iox_model.specs.States.{Port, Handle, Fixed, State}
use Rattle.iox_model.specs.WholeCalls.{moved_by}
use Rattle.iox_laws.proofs.WeaveLaws.MapLemmas.{either}
use Rattle.iox_laws.proofs.WeaveLaws.WholeLemmas.{moved_by-fixed}
use Rattle.iox_laws.proofs.WeaveWorlds.Inductions.{IsKept}

abbrev pub OfPorts : Type 1
OfPorts = Limits → List Port → ℕ → Type 0

abbrev pub Says : OfPorts → Fixed → Type 0
Says P f = P f.limits f.ports f.next_number

pub record IsSteady (P : OfPorts) : Type 0 where
  pub numbers : (l : Limits) (ps : List Port) (n : ℕ) → P l ps n → P l ps (n + 1)
  pub filters : (l : Limits) (ps : List Port) (n : ℕ) (keep : Port → Bool) → P l ps n → P l (filter keep ps) n
  pub drops : (l : Limits) (ps : List Port) (n port : ℕ) → P l ps n → P l (map (port_dropped port) ps) n

pub numbered_says : (P : OfPorts) → IsSteady P → (f : Fixed) (node : ℕ) → Says P f → Says P (numbered f node)
numbered_says P k f node p =
    either (Says P) f.on_wire (record f { handles_made = put_at f.handles_made node (f.handles_made node + 1) })
    (record f { next_number = f.next_number + 1 }) (λ u. p) (λ u. k.numbers f.limits f.ports f.next_number p)

gives_up_says : (P : OfPorts) (f : Fixed) (h : Handle) → Says P f → Says P (gives_up f h)
gives_up_says P f h p =
    either (Says P) (is_received h.kind) (record f { borrowed = put f.borrowed (way_of h) (f.borrowed (way_of h) - 1) }) f (λ u. p) (λ u. p)

released_says : (P : OfPorts) → IsSteady P → (s : State) (port : ℕ) → Says P s.fixed → Says P (released s port).fixed
released_says P k s port p =
    either (λ (t : State). Says P t.fixed) (is_last_gone s.fixed port) (disconnected s port) s
    (λ u. k.filters s.fixed.limits s.fixed.ports s.fixed.next_number (λ q. not (q.number == port)) p) (λ u. p)

sent_copy_says : (P : OfPorts) → IsSteady P → (f : Fixed) (h : Handle) (count : ℕ) → Says P f → Says P (sent_copy f h count)
sent_copy_says P k f h count p =
    either (Says P) (is_request_loan h.kind) (added (numbered f h.node) (sent_handle h count)) f
    (λ u. numbered_says P k f h.node p) (λ u. p)

sent_loan_says : (P : OfPorts) → IsSteady P → (s : State) (h : Handle) (count : ℕ) → Says P s.fixed → Says P (sent_loan s h count).fixed
sent_loan_says P k s h count p =
    either (λ (t : State). Says P t.fixed) (is_request_loan h.kind) (with_fixed s (changed s.fixed (sent_handle h count)))
    (released (with_fixed s (dropped s.fixed h)) h.port) (λ u. p) (λ u. released_says P k (with_fixed s (dropped s.fixed h)) h.port p)

pub settled_says : (P : OfPorts) → IsSteady P → (s : State) (node : ℕ) (payload : List ℕ) (o : Outcome)
    → Says P s.fixed → Says P (settled s node payload o).fixed
settled_says P k s node payload (Tells reply) p =
    either (λ (t : State). Says P t.fixed) (is_nothing reply) (with_fixed s (called s.fixed)) s (λ u. p) (λ u. p)
settled_says P k s node payload (Loans h) p = numbered_says P k s.fixed node p
settled_says P k s node payload (Fills h) p = p
settled_says P k s node payload (Sends h true count) p = sent_copy_says P k s.fixed h count p
settled_says P k s node payload (Sends h false count) p = sent_loan_says P k s h count p
settled_says P k s node payload (FailsToSend h true refusal) p = p
settled_says P k s node payload (FailsToSend h false refusal) p = released_says P k (with_fixed s (dropped s.fixed h)) h.port p
settled_says P k s node payload (Receives x w m) p = numbered_says P k s.fixed node p
settled_says P k s node payload (Drops h) p =
    released_says P k (with_fixed s (gives_up (dropped s.fixed h) h)) h.port (gives_up_says P (dropped s.fixed h) h p)
settled_says P k s node payload (DropsPort port) p =
    released_says P k (with_fixed s (record (s.fixed) { ports = map (port_dropped port) s.fixed.ports })) port
    (k.drops s.fixed.limits s.fixed.ports s.fixed.next_number port p)
settled_says P k s node payload (Forgets dead) p =
    either (λ (t : State). Says P t.fixed) (has_forgotten s.fixed node dead) s (forgets s node dead) (λ u. p) (λ u. p)

-- So no step makes it false, where the making of a port does not.
pub is_kept : (P : OfPorts) → IsSteady P
    → ((f : Fixed) (node : ℕ) (role : Role) (id : UniqueSystemId) (o : Options) (memory : Bool)
    → making_refusal f role o memory ≡ None → Says P f → Says P (with_port f (new_port f node role id o)))
    → IsKept (λ s. Says P s.fixed)
is_kept P k makes = record {
  nodes = λ s x u p. p;
  makes = λ s node role id o memory allowed p. makes s.fixed node role id o memory allowed p;
  calls = λ s node call reply t named d p.
      subst (λ (x : State). Says P x.fixed) (sym d.9)
      (settled_says P k (moved_by s d.2) node d.6 d.4 (subst (Says P) (sym (moved_by-fixed s d.2)) p));
  fills = λ s node number h x there may p. p;
}
