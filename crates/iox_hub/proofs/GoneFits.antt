-- Words go on fitting what ports keep of those that are gone.
use Rattle.std.specs.Prelude.{◌≡◌, ℕ, Bool, true, false, if◌then◌else◌, ◌==◌, List, [], ◌∷◌, map, Option, Some, None, is_some, refl}
use Rattle.std.specs.Option.{option_map}
use Rattle.std.proofs.Common.{sym, ap, subst, ◌∙◌, eqb-true}
use Rattle.std.proofs.lemmas.Option.{none-some, same_Some}
use Rattle.iox_lanes.specs.Pipes.{PipeState}
use Rattle.iox_laws.proofs.WeaveLedger.Lists.{number-among}
use Rattle.iox_model.specs.Maps.{has_number}
use Rattle.iox_model.specs.Settings.{is_client, other_role}
use Rattle.iox_tables.specs.HubStates.Tables.{HubTables, PoolState, PortState, pipe_from, pool_at, port_in, senders_of}
use Rattle.iox_tables.specs.HubStates.Wirings.{numbers_of_role}
use Rattle.iox_tables.proofs.HubStates.Fixing.{first_key}
use Rattle.iox_tables.specs.HubBooks.Hubs.{AreInOrder}
use Rattle.iox_tables.proofs.HubBooks.Frames.{AreAlike, bare_pipe, bare_port, port_before}
use Rattle.iox_tables.proofs.HubBooks.Sendable.{of_role}
use Rattle.iox_tables.specs.HubMaking.Disconnections.{cut_from, is_unused, ports_without, with_disconnected, with_released}
use Rattle.iox_tables.specs.HubMaking.Expirings.{with_expired}
use Rattle.iox_tables.proofs.HubMaking.Disconnecting.{port_left}
use Rattle.iox_tables.proofs.HubMaking.Firsts.{has_first}
use Rattle.iox_tables.proofs.HubMaking.Kept.{kept_or_new}
use Rattle.iox_control_releasing.specs.Goings.{KeptPools}
use Rattle.iox_hub.specs.Fits.{GoneFit, are_requests_in}
use Rattle.iox_hub.specs.Words.{Carried}

-- ---- the senders of pipes

bare_senders : (ps : List PipeState) → senders_of (map bare_pipe ps) ≡ senders_of ps
bare_senders [] = refl
bare_senders (p ∷ ps) = ap (λ ns. p.sender ∷ ns) (bare_senders ps)

kept_senders : (q p : PortState) → bare_port q ≡ bare_port p → senders_of q.expired.pipes ≡ senders_of p.expired.pipes
kept_senders q p e = sym (bare_senders q.expired.pipes) ∙ ap (λ (x : PortState). senders_of x.expired.pipes) e ∙ bare_senders p.expired.pipes

incoming_senders : (q p : PortState) → bare_port q ≡ bare_port p → senders_of q.incoming.pipes ≡ senders_of p.incoming.pipes
incoming_senders q p e = sym (bare_senders q.incoming.pipes) ∙ ap (λ (x : PortState). senders_of x.incoming.pipes) e ∙ bare_senders p.incoming.pipes

module _ (words : List (Option Carried)) (t t' : HubTables) (fit : GoneFit words t) (kept : KeptPools t.pools t'.pools) where
  -- ---- messages move

  -- what a port keeps that it kept before
  kept_before : (ports : List PortState) → AreAlike t.ports ports → (place : ℕ) (q : PoolState) (n : ℕ) (p : PortState) → pool_at t'.pools place ≡ Some q
      → port_in ports n ≡ Some p → has_number q.port (senders_of p.expired.pipes) ≡ true → are_requests_in words place ≡ is_client (other_role p.role)
  kept_before ports alike place q n p at there has =
      let b = port_before t.ports ports alike n p there in
      let a = kept place q at in
      fit place a.0 n b.0 a.1 b.1
      (ap (λ (x : PoolState). has_number x.port (senders_of b.0.expired.pipes)) a.2 ∙ ap (has_number q.port) (kept_senders b.0 p b.2) ∙ has)
      ∙ ap (λ (x : PortState). is_client (other_role x.role)) b.2

  pub gone_fit_alike : AreAlike t.ports t'.ports → GoneFit words t'
  gone_fit_alike alike = kept_before t'.ports alike

  -- ---- a port goes

  module _ (order : AreInOrder t) (ports : (n : ℕ) (p : PortState) → port_in t.ports n ≡ Some p → are_requests_in words p.pool ≡ is_client p.role) where
    -- the pool of a connected port
    of_connected : (place : ℕ) (q : PoolState) (n : ℕ) (s : PortState) → pool_at t'.pools place ≡ Some q → q.port ≡ n → port_in t.ports n ≡ Some s
        → are_requests_in words place ≡ is_client s.role
    of_connected place q n s at port there =
        let a = kept place q at in
        let has = order.pools.each n s there in
        let same : place ≡ s.pool
        = order.pools.apart place s.pool a.0 has.pool a.1 has.there
        (ap (λ (x : PoolState). x.port) a.2 ∙ port ∙ sym (has.port ∙ first_key (λ (x : PortState). x.number) t.ports n s there)) in
        ap (are_requests_in words) same ∙ ports n s there

    module _ (u : HubTables) (n : ℕ) (alike : AreAlike t.ports u.ports) where
      -- a port that is cut from the one that goes keeps what it kept, or what is waiting from that one
      cut_fits : (place : ℕ) (q : PoolState) (m : ℕ) (p : PortState) → pool_at t'.pools place ≡ Some q → port_in u.ports m ≡ Some p
          → (o : Option PipeState) → pipe_from p.incoming.pipes n ≡ o → (b : Bool) → (q.port == n) ≡ b → has_number q.port (senders_of (with_expired p.expired o).pipes) ≡ true
          → are_requests_in words place ≡ is_client (other_role p.role)
      cut_fits place q m p at there None pipe b e has = kept_before u.ports alike place q m p at there has
      cut_fits place q m p at there (Some z) pipe false e has =
          kept_before u.ports alike place q m p at there
          (kept_or_new n p.expired (Some z) (λ y same. ap (λ (r : PipeState). r.sender) (sym (same_Some z y same)) ∙ first_key (λ (x : PipeState). x.sender) p.incoming.pipes n z pipe)
          q.port has e)
      cut_fits place q m p at there (Some z) pipe true e has =
          let b = port_before t.ports u.ports alike m p there in
          let named : has_number n (numbers_of_role (other_role b.0.role) t.ports) ≡ true
          = ap (has_number n) (sym (order.wired.each m b.0 b.1).senders ∙ incoming_senders b.0 p b.2) ∙ has_first (λ (x : PipeState). x.sender) p.incoming.pipes n
          ∙ ap (λ (w : Option PipeState). is_some w) pipe in
          let s = of_role t order (other_role b.0.role) n (number-among n _ named) in
          of_connected place q n s.0 at (eqb-true q.port n e) s.1 ∙ ap is_client s.2 ∙ ap (λ (x : PortState). is_client (other_role x.role)) b.2

      without_fits : (place : ℕ) (q : PoolState) (m : ℕ) (p : PortState) → pool_at t'.pools place ≡ Some q → port_in (ports_without n u.ports) m ≡ Some p
          → has_number q.port (senders_of p.expired.pipes) ≡ true → are_requests_in words place ≡ is_client (other_role p.role)
      without_fits place q m p at there = step (m == n) (port_in u.ports m) refl (sym (port_left n u.ports m) ∙ there)
        where
          step : (b : Bool) (o : Option PortState) → port_in u.ports m ≡ o → (if b then None else option_map (cut_from n) o) ≡ Some p
              → has_number q.port (senders_of p.expired.pipes) ≡ true → are_requests_in words place ≡ is_client (other_role p.role)
          step true o is e = absurd (none-some p e)
          step false None is e = absurd (none-some p e)
          step false (Some r) is e =
              subst (λ (x : PortState). has_number q.port (senders_of x.expired.pipes) ≡ true → are_requests_in words place ≡ is_client (other_role x.role))
              (same_Some (cut_from n r) p e)
              (cut_fits place q m r at is (pipe_from r.incoming.pipes n) refl (q.port == n) refl)

      pub gone_fit_released : t' ≡ record (with_released u n) { pools = t'.pools } → GoneFit words t'
      gone_fit_released is place q m p at there = step (is_unused u n) (sym (ap (λ (z : HubTables). port_in z.ports m) is) ∙ there)
        where
          step : (b : Bool) → port_in (if b then with_disconnected u n else u).ports m ≡ Some p
              → has_number q.port (senders_of p.expired.pipes) ≡ true → are_requests_in words place ≡ is_client (other_role p.role)
          step true at_port = without_fits place q m p at at_port
          step false at_port = kept_before u.ports alike place q m p at at_port
