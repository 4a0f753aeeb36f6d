-- Where none waited, one message waits at most once a request or a response was sent.
use Rattle.std.specs.Prelude.{◌≡◌, ℕ, ◌≤◌, ◌-◌, Bool, true, false, ◌==◌, if◌then◌else◌, List, [], ◌∷◌, ◌++◌, drop, length, map}
use Rattle.std.proofs.Common.{zero, suc, sym, ap, subst, ◌∙◌, arith, eq-eqb, true≢false}
use Rattle.iox_model.specs.declared.way.Way.{Way}
use Rattle.iox_model.specs.Doings.{Receiver}
use Rattle.iox_model.specs.Handles.{own_state}
use Rattle.iox_model.specs.Maps.{has_way, same_way}
use Rattle.iox_model.specs.Messages.{Message, request_way}
use Rattle.iox_model.specs.Peers.{buffer_on}
use Rattle.iox_model.specs.States as m
use Rattle.iox_laws.specs.CallFunctions.Responses.{is_awaited}
use Rattle.iox_laws.proofs.WeaveLaws.MapLemmas.{either, same_way-true}
use Rattle.iox_laws.proofs.WeaveLedger.Truths.{by_cases, or-rest}
use Rattle.iox_tables.specs.HubStates.Receives.{way_to}
use Rattle.iox_hub_laws.specs.Hubs.{HubState}
use Rattle.iox_hub_laws.specs.Arrivals.{IsSentOn, newest, takes_more}
use Rattle.iox_hub_laws.specs.Sends.{IsRequestSent, servers_of, way_of_response}
use Rattle.iox_hub_laws.specs.Shown.{shown}
use Rattle.iceoryx2_ports.specs.Idling.{AwaitsOne, BringsOne, IsIdle}
use Rattle.iceoryx2_ports.proofs.Resting.{HaveAsBefore, limit_rests}

-- ---- what a request brings

pub sender_of_way : (client : ℕ) (ns : List ℕ) (w : Way) → has_way w (map (request_way client) ns) ≡ true → w.sender ≡ client
sender_of_way client [] w e = absurd (true≢false (sym e))
sender_of_way client (n ∷ ns) w e =
    by_cases (same_way w (request_way client n))
    (λ same. ap (λ (v : Way). v.sender) (same_way-true w (request_way client n) same))
    (λ other. sender_of_way client ns w (or-rest (same_way w (request_way client n)) (has_way w (map (request_way client) ns)) e other))

one_of_one : (m : Message) (b : ℕ) → length (newest b (m ∷ [])) ≤ 1
one_of_one m b = at_most b
  where
    dropped : (k : ℕ) → length (drop k (m ∷ [])) ≤ 1
    dropped zero = omega arith
    dropped (suc zero) = omega arith
    dropped (suc (suc k)) = omega arith

    at_most : (c : ℕ) → length (drop (1 - c) (m ∷ [])) ≤ 1
    at_most c = dropped (1 - c)

module _ (old new : HubState) (ways : List Way) (from : ℕ) (message : Message) (of : (w : Way) → has_way w ways ≡ true → w.sender ≡ from)
    (sent : IsSentOn ways (shown old) message (shown new)) (have : HaveAsBefore (shown old).fixed (shown new).fixed) (x : Receiver) (idle : IsIdle old x) where
  one : length ((shown new).waiting (way_to x from)) ≤ 1
  one =
      by_cases (has_way (way_to x from) ways)
      (λ on.
      subst (λ (ms : List Message). length ms ≤ 1) (sym (sent.sent (way_to x from) on))
      (either (λ (ms : List Message). length ms ≤ 1) (takes_more (shown old) (way_to x from))
      (newest (buffer_on (shown old).fixed (way_to x from)) ((shown old).waiting (way_to x from) ++ message ∷ []))
      ((shown old).waiting (way_to x from))
      (λ u.
      subst (λ (ms : List Message). length (newest (buffer_on (shown old).fixed (way_to x from)) (ms ++ message ∷ [])) ≤ 1) (sym (idle.none.empty from))
      (one_of_one message (buffer_on (shown old).fixed (way_to x from))))
      (λ u. subst (λ (ms : List Message). length ms ≤ 1) (sym (idle.none.empty from)) (omega arith))))
      (λ off. subst (λ (ms : List Message). length ms ≤ 1) (sym (sent.others (way_to x from) off ∙ idle.none.empty from)) (omega arith))

  others : (sender : ℕ) → (sender == from) ≡ false → (shown new).waiting (way_to x sender) ≡ []
  others sender other =
      by_cases (has_way (way_to x sender) ways)
      (λ on. absurd (true≢false (sym (eq-eqb sender from (of (way_to x sender) on)) ∙ other)))
      (λ off. sent.others (way_to x sender) off ∙ idle.none.empty sender)

  -- where none waited one waits at most
  awaited : AwaitsOne new x
  awaited = record {
    from = from;
    one = one;
    others = others;
    borrows = λ sender. limit_rests (shown old).fixed (shown new).fixed have (way_to x sender) ∙ idle.room.borrows sender;
  }

pub request_brings_one : (old new : HubState) (g : m.Handle) → IsRequestSent old new g → HaveAsBefore (shown old).fixed (shown new).fixed → BringsOne old new
request_brings_one old new g sent have x idle =
    awaited old new (map (request_way g.port) (servers_of old)) g.port g.message (sender_of_way g.port (servers_of old)) sent.brought have x idle

-- ---- what a response brings

sender_of_own : (g : m.Handle) (b : Bool) (w : Way) → has_way w (if b then own_state g ∷ [] else []) ≡ true → w.sender ≡ g.port
sender_of_own g false w e = absurd (true≢false (sym e))
sender_of_own g true w e =
    by_cases (same_way w (own_state g)) (λ same. ap (λ (v : Way). v.sender) (same_way-true w (own_state g) same))
    (λ other. absurd (true≢false (sym (or-rest (same_way w (own_state g)) (has_way w []) e other))))

pub response_brings_one : (old new : HubState) (g : m.Handle) (message : Message) → IsSentOn (way_of_response old g) (shown old) message (shown new)
    → HaveAsBefore (shown old).fixed (shown new).fixed → BringsOne old new
response_brings_one old new g message sent have x idle =
    awaited old new (way_of_response old g) g.port message (sender_of_own g (is_awaited (shown old) g)) sent have x idle
