-- What a begin and each moment of a call of a service add to what a port keeps.
use Rattle.std.specs.Prelude.{◌≡◌, ℕ, ◌<◌, Bool, true, false, if◌then◌else◌, ◌==◌, nat_le, List, [], length, Option, Some, None, ◌⊎◌, refl}
use Rattle.std.specs.Option.{option_map_or}
use Rattle.std.specs.List.{list_any}
use Rattle.std.proofs.Common.{sym, subst, ap, ◌∙◌, eqb-true, true≢false, inl, inr}
use Rattle.iox_model.specs.declared.way.Way.{Way}
use Rattle.iox_model.specs.declared.call.WireCall.TheVariants as wire_calls
use Rattle.iox_model.specs.Begins.{start}
use Rattle.iox_model.specs.Commands.{Call}
use Rattle.iox_model.specs.Doings.{Doing, Loaning}
use Rattle.iox_model.specs.Keeping.{serials_of_loan, under_way, kept_in}
use Rattle.iox_model.specs.Loans.{Choice}
use Rattle.iox_model.specs.Maps.{has_number, put_at}
use Rattle.iox_model.specs.Moments.{moved, Moment}
use Rattle.iox_model.specs.Outstandings.{is_held, is_outstanding, kept, is_dry}
use Rattle.iox_model.specs.Peers.{port_at, node_of_port, ways_from}
use Rattle.iox_model.specs.States.{Port, Handle, Fixed, State}
use Rattle.iox_model.specs.Transitions.{next}
use Rattle.iox_model.specs.Values.{Filling}
use Rattle.iox_model.specs.Weaves.{at_work, World}
use Rattle.iox_laws.proofs.WeaveLaws.MapLemmas.{eqb-refl}
use Rattle.iox_laws.proofs.WeaveLaws.WholeLemmas.{moved-fixed}
use Rattle.iox_laws.proofs.WeaveLedger.Orders.{same, same-le, less}
use Rattle.iox_laws.proofs.WeaveLedger.Truths.{one_of, or-left, or-right}
use Rattle.iox_laws.proofs.WeaveLedger.Lists.{IsAmong, any-among, among-any}
use Rattle.iox_laws.proofs.WeaveLedger.Outs.{moved-delivered}
use Rattle.iox_laws.proofs.WeavePools.Holds.{held-holds, own-loan, made-serial}
use Rattle.iox_laws.proofs.WeavePools.HoldsKept.{keeps, under_at, under, IsNext, Follows}
use Rattle.iox_laws.proofs.WeavePools.Under.{PickIs, GivesNext, loan-serial, start-under, next-under, next-stays}
use Rattle.iox_laws.proofs.WeavePools.Ways.{way-of}
use Rattle.iox_laws.proofs.RunLedger.Fillings.{fills}
use Rattle.iox_laws.proofs.RunPools.Stands.{StandsBy, Stands, under_next}
use Rattle.iox_laws.proofs.RunPools.Goings.{Going, IsSent, sent_by}

-- ---- one call at a time

-- the world where that call alone is under way
abbrev pub calls : State → ℕ → Doing → World
calls s n d = record { state = s; doing = put_at (λ m. None) n (Some d) }

-- what its node holds is what the call holds, and others hold nothing
pub of_call : (s : State) (n : ℕ) (d : Doing) (q : ℕ) (P : List ℕ → Type 0) → (node_of_port s.fixed q ≡ n → P (under_way q d)) → P []
    → P (under (calls s n d) q)
of_call s n d q P here other = by_case (node_of_port s.fixed q == n) refl
  where
    by_case : (b : Bool) → (node_of_port s.fixed q == n) ≡ b → P (under_at q (if b then Some d else None))
    by_case true e = here (eqb-true (node_of_port s.fixed q) n e)
    by_case false e = other

pub under_here : (s : State) (n : ℕ) (d : Doing) (q : ℕ) → node_of_port s.fixed q ≡ n → under (calls s n d) q ≡ under_way q d
under_here s n d q at =
    ap (λ b. under_at q (if b then Some d else None)) (subst (λ k. (k == n) ≡ true) (sym at) (eqb-refl n))

pub nothing : {A : Type 0} (k : ℕ) → has_number k [] ≡ true → A
nothing k e = absurd (true≢false (sym e))

-- where the pool is not dry there is room
room : (s : State) (q : ℕ) (p : Port) → port_at s.fixed q ≡ Some p → is_dry s.fixed q (kept s q []) ≡ false → length (kept s q []) < p.pool
room s q p is e =
    less p.pool (length (kept s q [])) (sym (ap (λ (o : Option Port). option_map_or (λ x. nat_le x.pool (length (kept s q []))) o true) is) ∙ e)

-- ---- a begin

pub start_follows : (s : State) (n : ℕ) (c : Choice) (call : Call) (q : ℕ) (p : Port) → port_at s.fixed q ≡ Some p
    → Follows (at_work s) (calls s n (start s n c call)) q p
start_follows s n c call q p is = record {
  loans = same (s.fixed.loans q);
  kept = λ k e. inl e;
  call = λ k. of_call s n (start s n c call) q (λ ks. has_number k ks ≡ true → IsNext (at_work s) q p k)
      (λ at e. inr (next k (start-under s n c (wire_calls.Port call) q k e))) (λ e. nothing k e);
  under_is = λ k e. nothing k e;
  stays = λ k e. nothing k e;
}
  where
    next : (k : ℕ) → GivesNext s q k → (k ≡ s.fixed.loans q) × (under (at_work s) q ≡ []) × (length (kept_in (at_work s) q) < p.pool)
    next k g = (g.0, refl, room s q p is g.1)

-- a loan that is filled adds nothing
pub filling_follows : (s : State) (n : ℕ) (h : Handle) (x : Filling) (q : ℕ) (p : Port) → Follows (at_work s) (calls s n (fills h x)) q p
filling_follows s n h x q p = record {
  loans = same (s.fixed.loans q);
  kept = λ k e. inl e;
  call = λ k. of_call s n (fills h x) q (λ ks. has_number k ks ≡ true → IsNext (at_work s) q p k) (λ at e. nothing k e) (λ e. nothing k e);
  under_is = λ k e. nothing k e;
  stays = λ k e. nothing k e;
}

-- ---- a moment

delivered_keeps : (s : State) (n : ℕ) (d : Doing) (y : Way) (q k : ℕ) (p : Port) → port_at s.fixed q ≡ Some p → IsAmong y (ways_from s.fixed q)
    → IsSent s.fixed n d y k
    → (keeps s q k ≡ true) ⊎ (has_number k (under (calls s n d) q) ≡ true)
delivered_keeps s n d y q k p is among x = by_copied (x.send).copied refl
  where
    port : (x.send).loan.port ≡ q
    port = sym x.sender ∙ (way-of s.fixed q p y is among).sender

    at : node_of_port s.fixed q ≡ n
    at = subst (λ i. node_of_port s.fixed i ≡ n) port ((x.own).1).1

    by_copied : (b : Bool) → (x.send).copied ≡ b → (keeps s q k ≡ true) ⊎ (has_number k (under (calls s n d) q) ≡ true)
    by_copied true e =
        inr (ap (has_number k) (under_here s n d q at ∙ x.holds q ∙ ap (λ b. serials_of_loan (x.send).loan b q) e)
        ∙ made-serial (x.send).loan q k port x.serial)
    by_copied false e = inl (or-left (is_held s.fixed q k) (is_outstanding s q k) (held-holds s.fixed n q k at (record {
      handle = (x.send).loan;
      among = subst (StandsBy s.fixed n (x.send).loan) e x.stands;
      port = port;
      own = own-loan (x.send).loan.kind ((x.fits).0).0;
      serial = x.serial;
    })))

moved_kept : (L : Handle → List Way → Type 0) (s : State) (n : ℕ) (d : Doing) (m : Moment) (q k : ℕ) (p : Port) → Going L s n d → port_at s.fixed q ≡ Some p
    → (next s n d m).condition → keeps (moved s m) q k ≡ true → (keeps s q k ≡ true) ⊎ (has_number k (under (calls s n d) q) ≡ true)
moved_kept L s n d m q k p g is c e = elim (one_of (is_held (moved s m).fixed q k) (is_outstanding (moved s m) q k) e)
    as (λ z. (keeps s q k ≡ true) ⊎ (has_number k (under (calls s n d) q) ≡ true)) [
      | inl h ↦ inl (or-left (is_held s.fixed q k) (is_outstanding s q k) (ap (λ (f : Fixed). is_held f q k) (sym (moved-fixed s m)) ∙ h))
      | inr h ↦ out (any-among (λ y. (moved s m).delivered y k) (ways_from s.fixed q)
          (ap (λ (f : Fixed). list_any (λ y. (moved s m).delivered y k) (ways_from f q)) (sym (moved-fixed s m)) ∙ h))
    ]
  where
    out : (y : Way) × IsAmong y (ways_from s.fixed q) × ((moved s m).delivered y k ≡ true)
        → (keeps s q k ≡ true) ⊎ (has_number k (under (calls s n d) q) ≡ true)
    out r = elim (moved-delivered s m r.0 k r.2) as (λ z. (keeps s q k ≡ true) ⊎ (has_number k (under (calls s n d) q) ≡ true)) [
      | inl h ↦ inl (or-right (is_held s.fixed q k) (is_outstanding s q k) (among-any (λ y. s.delivered y k) r.0 (ways_from s.fixed q) r.1 h))
      | inr h ↦ delivered_keeps s n d r.0 q k p is r.1 (sent_by L s n d m r.0 k g c h)
    ]

-- what the port's node holds once its pool gave it a message
abbrev Nexts : State → ℕ → Doing → ℕ → Port → ℕ → ℕ → Type 0
Nexts s n d q p q' k = q' ≡ q → IsNext (calls s n d) q p k

picks : (L : Handle → List Way → Type 0) (s : State) (n : ℕ) (d : Doing) (q : ℕ) (p : Port) → port_at s.fixed q ≡ Some p → Stands L s.fixed n d
    → PickIs (Nexts s n d q p) s d
picks L s n (Loaning copies h left) q p is stands =
    λ free q' k e same-le. next (loan-serial h q' k e) free same-le
  where
    none : under (calls s n (Loaning copies h left)) q ≡ []
    none = of_call s n (Loaning copies h left) q (λ ks. ks ≡ []) (λ at. refl) refl

    next : {q' k : ℕ} → (h.port ≡ q') × (h.message.serial ≡ k) → is_dry s.fixed h.port (kept s h.port []) ≡ false → q' ≡ q
        → IsNext (calls s n (Loaning copies h left)) q p k
    next {q'} {k} r free same-le =
        let port : h.port ≡ q = r.0 ∙ same-le in
        inr (
          sym r.1 ∙ stands.0 ∙ ap s.fixed.loans port,
          none,
          subst (λ (ks : List ℕ). length (kept s q ks) < p.pool) (sym none) (room s q p is (subst (λ i. is_dry s.fixed i (kept s i []) ≡ false) port free)),
        )
picks L s n d q p is stands = tt

pub next_follows : (L : Handle → List Way → Type 0) (s : State) (n : ℕ) (d : Doing) (m : Moment) (q : ℕ) (p : Port) → Going L s n d → port_at s.fixed q ≡ Some p
    → (next s n d m).condition → Follows (calls s n d) (calls (moved s m) n (next s n d m).after) q p
next_follows L s n d m q p g is c = record {
  loans = same-le (s.fixed.loans q) ((moved s m).fixed.loans q) (sym (ap (λ (f : Fixed). f.loans q) (moved-fixed s m)));
  kept = λ k. moved_kept L s n d m q k p g is c;
  call = λ k e. of_call s n (next s n d m).after q (λ ks. has_number k ks ≡ true → IsNext (calls s n d) q p k) (here k) (λ h. nothing k h)
      (ap (λ (f : Fixed). has_number k (under_at q (put_at (λ i. None) n (Some (next s n d m).after) (node_of_port f q)))) (sym (moved-fixed s m)) ∙ e);
  under_is = λ k. of_call s n d q (λ ks. has_number k ks ≡ true → k ≡ s.fixed.loans q) (λ at. under_next L s.fixed n d g.stands q k) (λ h. nothing k h);
  stays = λ k e. subst (λ (f : Fixed). (k < f.loans q) ⊎
      (has_number k (under_at q (put_at (λ i. None) n (Some (next s n d m).after) (node_of_port f q))) ≡ true))
      (sym (moved-fixed s m)) (stays k (node_of_port s.fixed q == n) e);
}
  where
    here : (k : ℕ) → node_of_port s.fixed q ≡ n → has_number k (under_way q (next s n d m).after) ≡ true → IsNext (calls s n d) q p k
    here k at e =
        next-under (Nexts s n d q p) s n d m (picks L s n d q p is g.stands) c
        (λ q' j h same-le. inl (ap (has_number j) (under_here s n d q at) ∙ ap (λ i. has_number j (under_way i d)) (sym same-le) ∙ h)) q k e refl

    stays : (k : ℕ) (b : Bool) → has_number k (under_at q (if b then Some d else None)) ≡ true
        → (k < s.fixed.loans q) ⊎ (has_number k (under_at q (if b then Some (next s n d m).after else None)) ≡ true)
    stays k true e = inr (next-stays s n q k d m c e)
    stays k false e = nothing k e
