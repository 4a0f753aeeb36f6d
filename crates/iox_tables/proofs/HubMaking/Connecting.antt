-- One port more: which ports there are then, and which pipes.
use Rattle.std.specs.Prelude.{◌≡◌, ◌⊎◌, ℕ, Bool, true, false, ◌||◌, if◌then◌else◌, ◌==◌, List, [], ◌∷◌, ◌++◌, map, filter, Option, Some, None, is_some, refl}
use Rattle.std.specs.Option.{option_map, option_map_or}
use Rattle.std.proofs.Common.{sym, ap, ap₂, append_assoc, ◌∙◌, inl, inr, true≢false, eqb-true}
use Rattle.iox_model.specs.declared.kind.Role.{Role}
use Rattle.iox_model.specs.declared.kind.Role.TheVariants.{Client, Server}
use Rattle.iox_model.specs.Maps.{AreDistinct, or_else}
use Rattle.iox_model.specs.Settings.{other_role, same_role}
use Rattle.iox_laws.proofs.WeaveLaws.MapLemmas.{eqb-refl}
use Rattle.iox_lanes.specs.Pipes.{PipeState}
use Rattle.iox_tables.specs.HubStates.Tables.{HubSettings, PortState, first_by, numbers_of, pipe_from, pipes_of, pipes_to, port_in}
use Rattle.iox_tables.specs.HubStates.Steps.{is_there}
use Rattle.iox_tables.proofs.HubStates.Keys.{first_append, flip}
use Rattle.iox_tables.specs.HubMaking.NewPorts.{connected_from, connected_to, is_other, pipe_between, ports_with}
use Rattle.iox_tables.proofs.HubMaking.Firsts.{first_among, first_made, first_mapped}

or_none : {A : Type 0} (o : Option A) → or_else o None ≡ o
or_none (Some a) = refl
or_none None = refl

pub same_roles : (a b : Role) → same_role a b ≡ true → a ≡ b
same_roles Client Client e = refl
same_roles Server Server e = refl
same_roles Client Server e = absurd (true≢false (sym e))
same_roles Server Client e = absurd (true≢false (sym e))

pub other_twice : (role : Role) → role ≡ other_role (other_role role)
other_twice Client = refl
other_twice Server = refl

pub there_is : {A : Type 0} (o : Option A) → is_some o ≡ false → o ≡ None
there_is (Some a) e = absurd (true≢false e)
there_is None e = refl

module _ (settings : HubSettings) (ports : List PortState) (new : PortState) where
  abbrev after : List PortState
  after = ports_with settings ports new

  abbrev last : PortState
  last = connected_from settings ports new

  -- whatever a port shows but for its pipes stays
  pub shows_same : {B : Type 0} (show : PortState → B) (p : PortState)
      → ((ps : List PipeState) → show (record p { incoming = record (p.incoming) { pipes = ps } }) ≡ show p) → show (connected_to settings new p) ≡ show p
  shows_same show p same = step (is_other p new)
    where
      step : (b : Bool) → show (if b then record p { incoming = record (p.incoming) { pipes = p.incoming.pipes ++ pipe_between settings new p ∷ [] } } else p) ≡ show p
      step true = same (p.incoming.pipes ++ pipe_between settings new p ∷ [])
      step false = refl

  pub port_with : (k : ℕ) → port_in after k ≡ or_else (option_map (connected_to settings new) (port_in ports k)) (if new.number == k then Some last else None)
  port_with k =
      first_append (λ p. p.number) (map (connected_to settings new) ports) (last ∷ []) k
      ∙ ap (λ o. or_else o (if new.number == k then Some last else None))
      (first_mapped (λ p. p.number) (connected_to settings new) (λ p. shows_same (λ q. q.number) p (λ ps. refl)) ports k)

  -- what the new port shows as one that is not there shows, all show as before
  pub part_with : {B : Type 0} (show : PortState → B) (none : B) → ((p : PortState) → show (connected_to settings new p) ≡ show p) → show last ≡ none → (k : ℕ)
      → option_map_or show (port_in ports k) none ≡ option_map_or show (port_in after k) none
  part_with show none same of_new k = step (port_in ports k) (new.number == k) ∙ sym (ap (λ o. option_map_or show o none) (port_with k))
    where
      step : (o : Option PortState) (b : Bool) → option_map_or show o none ≡ option_map_or show (or_else (option_map (connected_to settings new) o) (if b then Some last else None)) none
      step (Some p) b = sym (same p)
      step None true = sym of_new
      step None false = refl

  pub there_with : (k : ℕ) → is_there after k ≡ (is_there ports k || (new.number == k))
  there_with k = ap (λ (o : Option PortState). is_some o) (port_with k) ∙ step (port_in ports k) (new.number == k)
    where
      step : (o : Option PortState) (b : Bool) → is_some (or_else (option_map (connected_to settings new) o) (if b then Some last else None)) ≡ (is_some o || b)
      step (Some p) b = refl
      step None true = refl
      step None false = refl

  -- a port that was there, after its connection
  pub old_there : (k : ℕ) (p : PortState) → port_in ports k ≡ Some p → port_in after k ≡ Some (connected_to settings new p)
  old_there k p e = port_with k ∙ ap (λ o. or_else (option_map (connected_to settings new) o) (if new.number == k then Some last else None)) e

  pub new_there : port_in ports new.number ≡ None → port_in after new.number ≡ Some last
  new_there e =
      port_with new.number
      ∙ ap (λ o. or_else (option_map (connected_to settings new) o) (if new.number == new.number then Some last else None)) e
      ∙ ap (λ (b : Bool). if b then Some last else None) (eqb-refl new.number)

  -- ---- pipes

  -- the pipe is a new one between two ports of different roles
  pub record IsNew (r s : ℕ) (o : Option PipeState) : Type 0 where
    pub from : PortState
    pub to : PortState
    pub sender : port_in after s ≡ Some from
    pub receiver : port_in after r ≡ Some to
    pub roles : from.role ≡ other_role to.role
    pub is : o ≡ Some (pipe_between settings from to)

  -- the pipe is as before, and its ends are no new port; or there was none, and there is a new one
  -- or none
  abbrev pub Comes : ℕ → ℕ → Type 0
  Comes r s =
      ((pipe_from (pipes_to after r) s ≡ pipe_from (pipes_to ports r) s) × ((r == new.number) ≡ false) × ((s == new.number) ≡ false))
      ⊎ ((pipe_from (pipes_to ports r) s ≡ None) × ((pipe_from (pipes_to after r) s ≡ None) ⊎ IsNew r s (pipe_from (pipes_to after r) s)))

  pipe_same : (p q : PortState) → pipe_between settings (connected_to settings new p) q ≡ pipe_between settings p q
  pipe_same p q = shows_same (λ z. pipe_between settings z q) p (λ ps. refl)

  pipe_to_same : (p q : PortState) → pipe_between settings q (connected_to settings new p) ≡ pipe_between settings q p
  pipe_to_same p q = shows_same (λ z. pipe_between settings q z) p (λ ps. refl)

  module _ (fresh : port_in ports new.number ≡ None) (apart : AreDistinct (numbers_of ports)) (bare : new.expired.pipes ≡ [])
      (unsent : (r : ℕ) → pipe_from (pipes_to ports r) new.number ≡ None) where
    -- ---- to the new port

    to_new : (s : ℕ) → pipe_from (pipes_of last) s ≡ option_map (λ p. pipe_between settings p new) (first_by (λ p. p.number) (filter (λ p. is_other p new) ports) s)
    to_new s =
        ap (λ (es : List PipeState). pipe_from (es ++ map (λ p. pipe_between settings p new) (filter (λ p. is_other p new) ports)) s) bare
        ∙ first_made (λ p. p.number) (λ q. q.sender) (λ p. pipe_between settings p new) (λ p. refl) (filter (λ p. is_other p new) ports) s

    at_new : (r s : ℕ) → r ≡ new.number → Comes r s
    at_new r s e = inr (old, step (first_by (λ p. p.number) (filter (λ p. is_other p new) ports) s) refl)
      where
        old : pipe_from (pipes_to ports r) s ≡ None
        old = ap (λ o. pipe_from (option_map_or pipes_of o []) s) (ap (port_in ports) e ∙ fresh)

        there : port_in after r ≡ Some last
        there = ap (port_in after) e ∙ new_there fresh

        now : pipe_from (pipes_to after r) s ≡ option_map (λ p. pipe_between settings p new) (first_by (λ p. p.number) (filter (λ p. is_other p new) ports) s)
        now = ap (λ o. pipe_from (option_map_or pipes_of o []) s) there ∙ to_new s

        step : (o : Option PortState) → first_by (λ p. p.number) (filter (λ p. is_other p new) ports) s ≡ o
            → (pipe_from (pipes_to after r) s ≡ None) ⊎ IsNew r s (pipe_from (pipes_to after r) s)
        step None is = inl (now ∙ ap (option_map (λ p. pipe_between settings p new)) is)
        step (Some p) is =
            let found = first_among (λ p. p.number) (λ p. is_other p new) ports s p apart is in
            inr (record {
              from = connected_to settings new p;
              to = last;
              sender = old_there s p found.0;
              receiver = there;
              roles = shows_same (λ q. q.role) p (λ ps. refl) ∙ same_roles p.role (other_role new.role) found.1;
              is = now ∙ ap (option_map (λ p. pipe_between settings p new)) is ∙ ap (λ (q : PipeState). Some q) (sym (pipe_same p new));
            })

    -- ---- to a port that was there

    to_old : (r s : ℕ) (q : PortState) → port_in ports r ≡ Some q → (r == new.number) ≡ false → Comes r s
    to_old r s q there other = step (is_other q new) refl (s == new.number) refl
      where
        old_is : pipe_from (pipes_to ports r) s ≡ pipe_from (pipes_of q) s
        old_is = ap (λ o. pipe_from (option_map_or pipes_of o []) s) there

        now_of : Bool → PortState
        now_of b = if b then record q { incoming = record (q.incoming) { pipes = q.incoming.pipes ++ pipe_between settings new q ∷ [] } } else q

        now_is : (b : Bool) → is_other q new ≡ b → pipe_from (pipes_to after r) s ≡ pipe_from (pipes_of (now_of b)) s
        now_is b e = ap (λ o. pipe_from (option_map_or pipes_of o []) s) (old_there r q there) ∙ ap (λ (c : Bool). pipe_from (pipes_of (now_of c)) s) e

        more : pipe_from (pipes_of (now_of true)) s ≡ or_else (pipe_from (pipes_of q) s) (if new.number == s then Some (pipe_between settings new q) else None)
        more =
            ap (λ ps. pipe_from ps s) (sym (append_assoc q.expired.pipes q.incoming.pipes (pipe_between settings new q ∷ [])))
            ∙ first_append (λ p. p.sender) (pipes_of q) (pipe_between settings new q ∷ []) s

        none_before : (s == new.number) ≡ true → pipe_from (pipes_to ports r) s ≡ None
        none_before e = ap (pipe_from (pipes_to ports r)) (eqb-true s new.number e) ∙ unsent r

        step : (b : Bool) → is_other q new ≡ b → (c : Bool) → (s == new.number) ≡ c → Comes r s
        step false e false h = inl (now_is false e ∙ sym old_is, other, h)
        step false e true h = inr (none_before h, inl (now_is false e ∙ sym old_is ∙ none_before h))
        step true e false h =
            inl (
              now_is true e ∙ more ∙ ap (λ (b : Bool). or_else (pipe_from (pipes_of q) s) (if b then Some (pipe_between settings new q) else None)) (flip new.number s ∙ h)
                  ∙ or_none (pipe_from (pipes_of q) s) ∙ sym old_is,
              other,
              h,
            )
        step true e true h = inr (
          none_before h,
          inr (record {
            from = last;
            to = connected_to settings new q;
            sender = ap (port_in after) (eqb-true s new.number h) ∙ new_there fresh;
            receiver = old_there r q there;
            roles = other_twice new.role ∙ ap other_role (sym (same_roles q.role (other_role new.role) e) ∙ sym (shows_same (λ p. p.role) q (λ ps. refl)));
            is = now_is true e ∙ more
                ∙ ap₂ (λ o (b : Bool). or_else o (if b then Some (pipe_between settings new q) else None)) (sym old_is ∙ none_before h) (flip new.number s ∙ h)
                ∙ ap (λ (z : PipeState). Some z) (sym (pipe_to_same q last));
          }),
        )

    pub comes : (r s : ℕ) → Comes r s
    comes r s = step (r == new.number) refl (port_in ports r) refl
      where
        step : (b : Bool) → (r == new.number) ≡ b → (o : Option PortState) → port_in ports r ≡ o → Comes r s
        step true e o there = at_new r s (eqb-true r new.number e)
        step false e (Some q) there = to_old r s q there e
        step false e None there = inr (
          ap (λ o. pipe_from (option_map_or pipes_of o []) s) there,
          inl (ap (λ o. pipe_from (option_map_or pipes_of o []) s)
              (port_with r ∙ ap₂ (λ o (b : Bool). or_else (option_map (connected_to settings new) o) (if b then Some last else None)) there (flip new.number r ∙ e))),
        )
