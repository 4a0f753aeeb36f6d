-- Once a port is made, all ports are connected.
use Rattle.std.specs.Prelude.{◌≡◌, ◌⊎◌, ℕ, zero, suc, ◌≤◌, Bool, true, false, ◌||◌, if◌then◌else◌, ◌==◌, List, [], ◌∷◌, ◌++◌, map, filter, length, replicate, Option, Some, None, is_some, slice_get, refl}
use Rattle.std.specs.Option.{option_map, option_map_or}
use Rattle.std.proofs.Common.{sym, ap, ap₂, append_assoc, ◌∙◌, arith, inl, inr, subst, true≢false, eqb-true}
use Rattle.std.proofs.lemmas.List.{append-nil, map-append}
use Rattle.std.proofs.lemmas.Option.{none-some}
use Rattle.iox_model.specs.declared.kind.Role.{Role}
use Rattle.iox_model.specs.declared.kind.Role.TheVariants.{Client, Server}
use Rattle.iox_model.specs.declared.way.Way.{Way}
use Rattle.iox_model.specs.Expiries.{is_end}
use Rattle.iox_model.specs.Maps.{AreDistinct, has_number, or_else}
use Rattle.iox_model.specs.Settings.{other_role, same_role}
use Rattle.iox_lanes.specs.Incomings.{IncomingState, no_pipes}
use Rattle.iox_lanes.specs.Lanes.{LaneState, empty_lane}
use Rattle.iox_lanes.specs.Pipes.{PipeState}
use Rattle.iox_tables.specs.HubStates.Tables.{HubTables, PoolState, PortState, numbers_of, pipe_from, pipes_of, pipes_to, port_in, senders_of}
use Rattle.iox_tables.specs.HubStates.Ways.{lane_on}
use Rattle.iox_tables.specs.HubStates.States.{expired_in}
use Rattle.iox_tables.specs.HubStates.Steps.{is_there}
use Rattle.iox_tables.specs.HubStates.Wirings.{HaveLimits, IsWired, buffer_from, limit_from, numbers_of_role, role_in}
use Rattle.iox_tables.proofs.HubStates.Keys.{flip, has_some}
use Rattle.iox_tables.specs.HubMaking.NewPorts.{connected_from, connected_to, is_other, pipe_between, ports_with, room_for_gone, width_of, with_port_made}
use Rattle.iox_tables.specs.HubMaking.Expirings.{KeepsExpired}
use Rattle.iox_tables.specs.HubMaking.Wires.{AreConnected, IsNewLane, IsNewPipe, NewPortsAreConnected, PortIsNew}
use Rattle.iox_tables.proofs.HubMaking.Connecting.{Comes, IsNew, comes, part_with, port_with, shows_same, there_is}
use Rattle.iox_tables.proofs.HubMaking.Distinct.{distinct_last}
use Rattle.iox_tables.proofs.HubMaking.Firsts.{has_first}
use Rattle.iox_tables.proofs.HubMaking.Kept.{kept_same}
use Rattle.iox_tables.proofs.HubMaking.Making.{among_role, none_is_sent_from}

-- ---- roles

other_ways : (a b : Role) → same_role a (other_role b) ≡ same_role b (other_role a)
other_ways Client Client = refl
other_ways Client Server = refl
other_ways Server Client = refl
other_ways Server Server = refl

not_own : (role : Role) → same_role role (other_role role) ≡ false
not_own Client = refl
not_own Server = refl

-- ---- lists

filter_append : {A : Type 0} (test : A → Bool) (xs ys : List A) → filter test (xs ++ ys) ≡ filter test xs ++ filter test ys
filter_append test [] ys = refl
filter_append {A = A} test (x ∷ xs) ys = step (test x) (filter_append test xs ys)
  where
    step : (b : Bool) → filter test (xs ++ ys) ≡ filter test xs ++ filter test ys
        → (if b then x ∷ filter test (xs ++ ys) else filter test (xs ++ ys)) ≡ (if b then x ∷ filter test xs else filter test xs) ++ filter test ys
    step true rest = ap (λ zs. x ∷ zs) rest
    step false rest = rest

distinct_role : (role : Role) (ports : List PortState) → AreDistinct (numbers_of ports) → AreDistinct (numbers_of_role role ports)
distinct_role role [] apart = tt
distinct_role role (p ∷ ps) apart = step (same_role p.role role) (distinct_role role ps apart.1)
  where
    step : (b : Bool) → AreDistinct (numbers_of_role role ps)
        → AreDistinct (map (λ q. q.number) (if b then p ∷ filter (λ q. same_role q.role role) ps else filter (λ q. same_role q.role role) ps))
    step true rest = (among_role role ps p.number apart.0, rest)
    step false rest = rest

same_item : {A : Type 0} (k : ℕ) (a : A) (j : ℕ) (b : A) → slice_get (replicate k a) j ≡ Some b → b ≡ a
same_item zero a j b e = absurd (none-some b e)
same_item (suc k) a zero b e = ap (λ (o : Option _). option_map_or (λ z. z) o a) (sym e)
same_item (suc k) a (suc j) b e = same_item k a j b e

module _ (t : HubTables) (new : PortState) where
  abbrev new_last : PortState
  new_last = connected_from t.settings t.ports new

  old_role : (role : Role) (ps : List PortState) → numbers_of_role role (map (connected_to t.settings new) ps) ≡ numbers_of_role role ps
  old_role role [] = refl
  old_role role (p ∷ ps) =
      ap₂ (λ (b : Bool) (k : ℕ). map (λ q. q.number) (if b then record (connected_to t.settings new p) { number = k } ∷ filter (λ q. same_role q.role role) (map (connected_to t.settings new) ps) else filter (λ q. same_role q.role role) (map (connected_to t.settings new) ps)))
      (shows_same t.settings t.ports new (λ q. same_role q.role role) p (λ qs. refl)) (shows_same t.settings t.ports new (λ q. q.number) p (λ qs. refl))
      ∙ step (same_role p.role role) (old_role role ps)
    where
      step : (b : Bool) → numbers_of_role role (map (connected_to t.settings new) ps) ≡ numbers_of_role role ps
          → map (λ q. q.number) (if b then record (connected_to t.settings new p) { number = p.number } ∷ filter (λ q. same_role q.role role) (map (connected_to t.settings new) ps) else filter (λ q. same_role q.role role) (map (connected_to t.settings new) ps))
          ≡ map (λ q. q.number) (if b then p ∷ filter (λ q. same_role q.role role) ps else filter (λ q. same_role q.role role) ps)
      step true rest = ap (λ ks. p.number ∷ ks) rest
      step false rest = rest

  pub role_with : (role : Role) → numbers_of_role role (ports_with t.settings t.ports new) ≡ numbers_of_role role t.ports ++ (if same_role new.role role then new.number ∷ [] else [])
  role_with role =
      ap (map (λ (p : PortState). p.number)) (filter_append (λ (p : PortState). same_role p.role role) (map (connected_to t.settings new) t.ports) (new_last ∷ []))
      ∙ map-append (λ (p : PortState). p.number) (filter (λ (p : PortState). same_role p.role role) (map (connected_to t.settings new) t.ports)) (filter (λ (p : PortState). same_role p.role role) (new_last ∷ []))
      ∙ ap₂ (λ (ks js : List ℕ). ks ++ js) (old_role role t.ports) (step (same_role new.role role))
    where
      step : (b : Bool) → map (λ (p : PortState). p.number) (if b then new_last ∷ [] else []) ≡ (if b then new.number ∷ [] else [])
      step true = refl
      step false = refl

module _ (t : HubTables) (new : PortState) (are : AreConnected t) (fresh : is_there t.ports new.number ≡ false)
    (unkept : (n : ℕ) → has_number new.number (expired_in t.ports n) ≡ false) (room : new.expired ≡ no_pipes (room_for_gone t.settings new.role)) where
  bare : new.expired.pipes ≡ []
  bare = ap (λ (c : IncomingState). c.pipes) room

  abbrev after : List PortState
  after = ports_with t.settings t.ports new

  abbrev last : PortState
  last = connected_from t.settings t.ports new

  abbrev C : PortState → PortState
  C p = connected_to t.settings new p

  absent : port_in t.ports new.number ≡ None
  absent = there_is (port_in t.ports new.number) fresh

  unsent : (r : ℕ) → pipe_from (pipes_to t.ports r) new.number ≡ None
  unsent r = none_is_sent_from t are.wired new.number unkept fresh r

  -- ---- numbers and roles

  same_numbers : (ps : List PortState) → numbers_of (map (connected_to t.settings new) ps) ≡ numbers_of ps
  same_numbers [] = refl
  same_numbers (p ∷ ps) = ap₂ (λ k ks. k ∷ ks) (shows_same t.settings t.ports new (λ q. q.number) p (λ qs. refl)) (same_numbers ps)

  numbers_with : numbers_of after ≡ numbers_of t.ports ++ new.number ∷ []
  numbers_with =
      map-append (λ (p : PortState). p.number) (map (connected_to t.settings new) t.ports) (last ∷ [])
      ∙ ap (λ ks. ks ++ new.number ∷ []) (same_numbers t.ports)

  -- ---- wires

  wired_old : (k : ℕ) (p : PortState) → port_in t.ports k ≡ Some p → IsWired (with_port_made t new t.pools) (C p)
  wired_old k p is = record {
    senders = coming (is_other p new) refl ∙ ap (λ role. numbers_of_role (other_role role) after) (sym role_same);
    apart = apart_by (is_other p new);
    none_kept = λ e h. ap (λ (es : List PipeState). es) (shows_same t.settings t.ports new (λ q. q.expired.pipes) p (λ qs. refl))
        ∙ (are.wired k p is).none_kept (sym role_same ∙ e) h;
  }
    where
      role_same : (C p).role ≡ p.role
      role_same = shows_same t.settings t.ports new (λ q. q.role) p (λ qs. refl)

      of_old : senders_of p.incoming.pipes ≡ numbers_of_role (other_role p.role) t.ports
      of_old = (are.wired k p is).senders

      coming : (b : Bool) → is_other p new ≡ b
          → senders_of (if b then record p { incoming = record (p.incoming) { pipes = p.incoming.pipes ++ pipe_between t.settings new p ∷ [] } } else p).incoming.pipes
          ≡ numbers_of_role (other_role p.role) after
      coming true e =
          map-append (λ (q : PipeState). q.sender) p.incoming.pipes (pipe_between t.settings new p ∷ [])
          ∙ ap₂ (λ (ks : List ℕ) (b : Bool). ks ++ (if b then new.number ∷ [] else [])) of_old (sym (other_ways new.role p.role ∙ e))
          ∙ sym (role_with t new (other_role p.role))
      coming false e =
          of_old ∙ sym (append-nil (numbers_of_role (other_role p.role) t.ports))
          ∙ ap (λ (b : Bool). numbers_of_role (other_role p.role) t.ports ++ (if b then new.number ∷ [] else [])) (sym (other_ways new.role p.role ∙ e))
          ∙ sym (role_with t new (other_role p.role))

      not_yet : has_number new.number (senders_of (pipes_of p)) ≡ false
      not_yet = has_some (pipes_of p) new.number ∙ ap (λ (o : Option PipeState). is_some o) (sym (ap (λ o. pipe_from (option_map_or pipes_of o []) new.number) is) ∙ unsent k)

      apart_by : (b : Bool)
          → AreDistinct (senders_of (pipes_of (if b then record p { incoming = record (p.incoming) { pipes = p.incoming.pipes ++ pipe_between t.settings new p ∷ [] } } else p)))
      apart_by true =
          subst AreDistinct
          (sym (map-append (λ (q : PipeState). q.sender) (pipes_of p) (pipe_between t.settings new p ∷ []))
          ∙ ap senders_of (append_assoc p.expired.pipes p.incoming.pipes (pipe_between t.settings new p ∷ [])))
          (distinct_last new.number (senders_of (pipes_of p)) (are.wired k p is).apart not_yet)
      apart_by false = (are.wired k p is).apart

  wired_new : IsWired (with_port_made t new t.pools) last
  wired_new = record {
    senders = from_all
        ∙ sym (role_with t new (other_role new.role) ∙ ap (λ (b : Bool). numbers_of_role (other_role new.role) t.ports ++ (if b then new.number ∷ [] else [])) (not_own new.role)
        ∙ append-nil (numbers_of_role (other_role new.role) t.ports));
    apart = subst AreDistinct (sym (ap (λ (es : List PipeState). senders_of (es ++ last.incoming.pipes)) bare ∙ from_all)) (distinct_role (other_role new.role) t.ports are.apart);
    none_kept = λ e h. bare;
  }
    where
      sent_by : (ps : List PortState) → senders_of (map (λ p. pipe_between t.settings p new) ps) ≡ map (λ p. p.number) ps
      sent_by [] = refl
      sent_by (p ∷ ps) = ap (λ ks. p.number ∷ ks) (sent_by ps)

      from_all : senders_of last.incoming.pipes ≡ numbers_of_role (other_role new.role) t.ports
      from_all = sent_by (filter (λ p. is_other p new) t.ports)

  module _ (pools : List (Option PoolState)) where
    abbrev u : HubTables
    u = with_port_made t new pools

    again : (q : PortState) → IsWired (with_port_made t new t.pools) q → IsWired u q
    again q it = record { senders = it.senders; apart = it.apart; none_kept = it.none_kept }

    each_with : (k : ℕ) (q : PortState) → port_in u.ports k ≡ Some q → IsWired u q
    each_with k q is = step (port_in t.ports k) refl (new.number == k) (sym (port_with t.settings t.ports new k) ∙ is)
      where
        step : (o : Option PortState) → port_in t.ports k ≡ o → (b : Bool) → or_else (option_map (connected_to t.settings new) o) (if b then Some last else None) ≡ Some q → IsWired u q
        step (Some p) there b e = subst (λ (z : Option PortState). IsWired u (option_map_or (λ y. y) z (C p))) e (again (C p) (wired_old k p there))
        step None there true e = subst (λ (z : Option PortState). IsWired u (option_map_or (λ y. y) z last)) e (again last wired_new)
        step None there false e = absurd (none-some q e)

    -- ---- lanes

    come : (r s : ℕ) → Comes t.settings t.ports new r s
    come r s = comes t.settings t.ports new absent are.apart bare unsent r s

    abbrev item : Option PipeState → ℕ → Option LaneState
    item o j = slice_get (option_map_or (λ p. p.lanes) o []) j

    new_lane : (w : Way) (l : LaneState) → IsNew t.settings t.ports new w.receiver w.sender (pipe_from (pipes_to after w.receiver) w.sender) → lane_on u.ports w ≡ Some l → IsNewLane u w l
    new_lane w l it is = record {
      from = it.from;
      to = it.to;
      sender = it.sender;
      receiver = it.receiver;
      roles = it.roles;
      lane = same_item (width_of it.to) (empty_lane it.from.pool (buffer_from t.settings it.from.role) (limit_from t.settings it.from.role)) w.lane l
          (sym (ap (λ o. item o w.lane) it.is) ∙ is);
    }

    -- a lane is as before, between ports that were there, or new
    abbrev Lane : Way → LaneState → Type 0
    Lane w l = ((lane_on t.ports w ≡ Some l) × ((w.receiver == new.number) ≡ false) × ((w.sender == new.number) ≡ false)) ⊎ IsNewLane u w l

    abbrev Pipe : ℕ → ℕ → PipeState → Type 0
    Pipe r s q = ((pipe_from (pipes_to t.ports r) s ≡ Some q) × ((r == new.number) ≡ false) × ((s == new.number) ≡ false)) ⊎ IsNewPipe u r s q

    some_same : (a b : PipeState) → Some a ≡ Some b → a ≡ b
    some_same a b e = ap (λ (o : Option PipeState). option_map_or (λ q. q) o a) e

    pipe_old_or_new : (r s : ℕ) (q : PipeState) → pipe_from (pipes_to u.ports r) s ≡ Some q → Pipe r s q
    pipe_old_or_new r s q is = step (come r s)
      where
        step : Comes t.settings t.ports new r s → Pipe r s q
        step (inl e) = inl (sym e.0 ∙ is, e.1, e.2)
        step (inr e) = fresh_or_none e.1
          where
            fresh_or_none : (pipe_from (pipes_to after r) s ≡ None) ⊎ IsNew t.settings t.ports new r s (pipe_from (pipes_to after r) s) → Pipe r s q
            fresh_or_none (inl e) = absurd (none-some q (sym e ∙ is))
            fresh_or_none (inr e) = inr (record {
              from = e.from;
              to = e.to;
              comes = e.sender;
              goes = e.receiver;
              roles = e.roles;
              is = some_same q (pipe_between t.settings e.from e.to) (sym is ∙ e.is);
            })

    old_or_new : (w : Way) (l : LaneState) → lane_on u.ports w ≡ Some l → Lane w l
    old_or_new w l is = step (come w.receiver w.sender)
      where
        step : Comes t.settings t.ports new w.receiver w.sender → Lane w l
        step (inl q) = inl (sym (ap (λ o. item o w.lane) q.0) ∙ is, q.1, q.2)
        step (inr q) = fresh_or_none q.1
          where
            fresh_or_none : (pipe_from (pipes_to after w.receiver) w.sender ≡ None) ⊎ IsNew t.settings t.ports new w.receiver w.sender (pipe_from (pipes_to after w.receiver) w.sender) → Lane w l
            fresh_or_none (inl e) = absurd (none-some l (sym (ap (λ o. item o w.lane) e) ∙ is))
            fresh_or_none (inr e) = inr (new_lane w l e is)

    limits_with : HaveLimits u
    limits_with w l is = step (old_or_new w l is)
      where
        role_same : (o : Option PortState) (b : Bool) → b ≡ false
            → option_map_or (λ p. p.role) o Client ≡ option_map_or (λ p. p.role) (or_else (option_map (connected_to t.settings new) o) (if b then Some last else None)) Client
        role_same (Some p) b e = sym (shows_same t.settings t.ports new (λ q. q.role) p (λ qs. refl))
        role_same None b e = sym (ap (λ (c : Bool). option_map_or (λ (p : PortState). p.role) (or_else None (if c then Some last else None)) Client) e)

        step : Lane w l → l.limit ≡ limit_from t.settings (other_role (role_in u.ports w.receiver))
        step (inl q) =
            are.limits w l q.0
            ∙ ap (λ role. limit_from t.settings (other_role role))
            (role_same (port_in t.ports w.receiver) (new.number == w.receiver) (flip new.number w.receiver ∙ q.1)
            ∙ ap (λ (o : Option PortState). option_map_or (λ p. p.role) o Client) (sym (port_with t.settings t.ports new w.receiver)))
        step (inr q) =
            ap (λ (k : LaneState). k.limit) q.lane
            ∙ ap (limit_from t.settings) (q.roles ∙ ap other_role (sym (ap (λ (o : Option PortState). option_map_or (λ p. p.role) o Client) q.receiver)))

    is_new : PortIsNew t new u
    is_new = record {
      numbers = numbers_with;
      ports = port_with t.settings t.ports new;
      pipes = pipe_old_or_new;
      lanes = λ w l is. step w l (old_or_new w l is);
    }
      where
        step : (w : Way) (l : LaneState) → Lane w l → ((lane_on t.ports w ≡ Some l) × (is_end new.number w ≡ false)) ⊎ IsNewLane u w l
        step w l (inl q) = inl (q.0, ap₂ (λ (a b : Bool). a || b) q.2 q.1)
        step w l (inr q) = inr q

    with_connected : AreConnected u
    with_connected = record {
      apart = subst AreDistinct (sym numbers_with) (distinct_last new.number (numbers_of t.ports) are.apart (has_first (λ q. q.number) t.ports new.number ∙ fresh));
      wired = each_with;
      limits = limits_with;
      kept = each_kept;
    }
      where
        -- a port of a number that somebody keeps is still not there
        still : (k : ℕ) (p : PortState) → port_in t.ports k ≡ Some p → (n : ℕ) → has_number n (senders_of p.expired.pipes) ≡ true → port_in t.ports n ≡ None → port_in u.ports n ≡ None
        still k p at n has none =
            port_with t.settings t.ports new n ∙ ap (λ o. or_else (option_map (connected_to t.settings new) o) (if new.number == n then Some last else None)) none
            ∙ other (new.number == n) refl
          where
            other : (b : Bool) → (new.number == n) ≡ b → (if b then Some last else None) ≡ None
            other false e = refl
            other true e =
                absurd (true≢false
                (sym has ∙ ap (λ m. has_number m (senders_of p.expired.pipes)) (sym (eqb-true new.number n e))
                ∙ sym (ap (λ o. has_number new.number (option_map_or (λ q. senders_of q.expired.pipes) o [])) at) ∙ unkept k))

        old_kept : (k : ℕ) (p : PortState) → port_in t.ports k ≡ Some p → KeepsExpired u (C p)
        old_kept k p at =
            kept_same t u p (C p) refl (shows_same t.settings t.ports new (λ q. q.expired) p (λ qs. refl)) (shows_same t.settings t.ports new (λ q. q.role) p (λ qs. refl))
            (shows_same t.settings t.ports new width_of p (λ qs. refl)) (still k p at) (are.kept k p at)

        new_kept : KeepsExpired u last
        new_kept = record {
          room = ap (λ (c : IncomingState). c.most) room;
          few = subst (λ (c : IncomingState). length c.pipes ≤ c.most) (sym room) (zero-≤ (room_for_gone t.settings new.role));
          gone = λ n has. absurd (true≢false (sym has ∙ ap (λ ps. has_number n (senders_of ps)) bare));
          wide = λ n z at. absurd (none-some z (sym (ap (λ ps. pipe_from ps n) bare) ∙ at));
        }
          where
            zero-≤ : (m : ℕ) → 0 ≤ m
            zero-≤ m = omega arith

        each_kept : (k : ℕ) (q : PortState) → port_in u.ports k ≡ Some q → KeepsExpired u q
        each_kept k q is = step (port_in t.ports k) refl (new.number == k) (sym (port_with t.settings t.ports new k) ∙ is)
          where
            step : (o : Option PortState) → port_in t.ports k ≡ o → (b : Bool) → or_else (option_map (connected_to t.settings new) o) (if b then Some last else None) ≡ Some q → KeepsExpired u q
            step (Some p) there b e = subst (λ (z : Option PortState). KeepsExpired u (option_map_or (λ y. y) z (C p))) e (old_kept k p there)
            step None there true e = subst (λ (z : Option PortState). KeepsExpired u (option_map_or (λ y. y) z last)) e new_kept
            step None there false e = absurd (none-some q e)

pub new_ports_are_connected : NewPortsAreConnected
new_ports_are_connected t new pools are fresh unkept room = (is_new t new are fresh unkept room pools, with_connected t new are fresh unkept room pools)
