-- Changes of lanes that do the same come to the same.
use Rattle.std.specs.Prelude.{◌≡◌, ℕ, zero, suc, Bool, true, false, ◌||◌, if◌then◌else◌, ◌==◌, List, [], ◌∷◌, Option, Some, None, is_some, slice_get, slice_set, refl}
use Rattle.std.specs.Option.{option_map, option_map_or}
use Rattle.std.proofs.Common.{sym, ap, ◌∙◌, true≢false}
use Rattle.std.proofs.lemmas.Option.{none-some}
use Rattle.iox_model.specs.declared.way.Way.{Way}
use Rattle.iox_model.specs.Maps.{has_number, has_way, or_else, same_way}
use Rattle.iox_laws.proofs.WeaveLaws.MapLemmas.{same_way-flip}
use Rattle.iox_lanes.specs.Lanes.{LaneState, without_returned}
use Rattle.iox_lanes.specs.Pipes.{PipeState, with_lane}
use Rattle.iox_tables.specs.HubStates.Changes.{emptied_lane}
use Rattle.iox_tables.specs.HubStates.Tables.{PortState, first_by, pipe_from, pipes_of, senders_of, with_first_by}
use Rattle.iox_tables.specs.HubStates.Ways.{lane_on, with_lane_on, with_lanes_on, with_pipe_from, with_pipe_of, with_pipes, with_port}
use Rattle.iox_tables.proofs.HubStates.Keys.{at_is, first_append, has_some, lane_sender, lane_turned, same_mapped, same_number}
use Rattle.iox_tables.proofs.HubStates.Pipes.{set_same}
use Rattle.iox_hub_ports.proofs.Pushes.{lane_twice, pushed_where_room}
use Rattle.iox_hub_phases.specs.Phases.{ChangesAgree, DoSame, EmptyingIsOneByOne, OfEachWay, PushesAreTheMachines, TwoChangesAreOne}
use Rattle.std.proofs.lemmas.Bool.{or_parts}

-- ---- the first of a number

first_twice : {A : Type 0} (key : A → ℕ) (f g : A → A) → ((x : A) → key (f x) ≡ key x) → (xs : List A) (n : ℕ)
    → with_first_by key g (with_first_by key f xs n) n ≡ with_first_by key (λ x. g (f x)) xs n
first_twice key f g keeps [] n = refl
first_twice key f g keeps (x ∷ xs) n = step (key x == n) refl (first_twice key f g keeps xs n)
  where
    step : (b : Bool) → (key x == n) ≡ b → with_first_by key g (with_first_by key f xs n) n ≡ with_first_by key (λ y. g (f y)) xs n
        → with_first_by key g (if b then f x ∷ xs else x ∷ with_first_by key f xs n) n
        ≡ (if b then g (f x) ∷ xs else x ∷ with_first_by key (λ y. g (f y)) xs n)
    step true e rest = ap (λ (b : Bool). if b then g (f x) ∷ xs else f x ∷ with_first_by key g xs n) (ap (λ k. k == n) (keeps x) ∙ e)
    step false e rest =
        ap (λ (b : Bool). if b then g x ∷ with_first_by key f xs n else x ∷ with_first_by key g (with_first_by key f xs n) n) e
        ∙ ap (λ ys. x ∷ ys) rest

first_agree : {A : Type 0} (key : A → ℕ) (f g : A → A) (xs : List A) (n : ℕ) → ((x : A) → first_by key xs n ≡ Some x → f x ≡ g x)
    → with_first_by key f xs n ≡ with_first_by key g xs n
first_agree key f g [] n same = refl
first_agree key f g (x ∷ xs) n same = step (key x == n) refl (first_agree key f g xs n)
  where
    step : (b : Bool) → (key x == n) ≡ b → (((y : _) → first_by key xs n ≡ Some y → f y ≡ g y) → with_first_by key f xs n ≡ with_first_by key g xs n)
        → (if b then f x ∷ xs else x ∷ with_first_by key f xs n) ≡ (if b then g x ∷ xs else x ∷ with_first_by key g xs n)
    step true e rest = ap (λ y. y ∷ xs) (same x (ap (λ (b : Bool). if b then Some x else first_by key xs n) e))
    step false e rest = ap (λ ys. x ∷ ys) (rest (λ y h. same y (ap (λ (b : Bool). if b then Some x else first_by key xs n) e ∙ h)))

-- ---- one pipe of a port

pipe_twice : (a b : PipeState → PipeState) → ((q : PipeState) → (a q).sender ≡ q.sender) → (p : PortState) (s : ℕ)
    → with_pipe_of b (with_pipe_of a p s) s ≡ with_pipe_of (λ q. b (a q)) p s
pipe_twice a b keeps p s = step (has_number s (senders_of p.expired.pipes)) refl
  where
    either : PortState → Bool → PortState
    either r c =
        if c then record r { expired = with_pipes r.expired (with_pipe_from b r.expired.pipes s) }
        else record r { incoming = with_pipes r.incoming (with_pipe_from b r.incoming.pipes s) }

    step : (c : Bool) → has_number s (senders_of p.expired.pipes) ≡ c
        → with_pipe_of b (if c then record p { expired = with_pipes p.expired (with_pipe_from a p.expired.pipes s) } else record p { incoming = with_pipes p.incoming (with_pipe_from a p.incoming.pipes s) }) s
        ≡ (if c then record p { expired = with_pipes p.expired (with_pipe_from (λ q. b (a q)) p.expired.pipes s) } else record p { incoming = with_pipes p.incoming (with_pipe_from (λ q. b (a q)) p.incoming.pipes s) })
    step true e =
        ap (λ (c : Bool). if c
        then record p { expired = with_pipes p.expired (with_pipe_from b (with_pipe_from a p.expired.pipes s) s) }
        else record p { expired = with_pipes p.expired (with_pipe_from a p.expired.pipes s); incoming = with_pipes p.incoming (with_pipe_from b p.incoming.pipes s) })
        (ap (has_number s) (same_mapped (λ q. q.sender) a (λ q. q.sender) keeps p.expired.pipes s) ∙ e)
        ∙ ap (λ (qs : List PipeState). record p { expired = with_pipes p.expired qs }) (first_twice (λ q. q.sender) a b keeps p.expired.pipes s)
    step false e =
        ap (λ (c : Bool). if c
        then record p { expired = with_pipes p.expired (with_pipe_from b p.expired.pipes s); incoming = with_pipes p.incoming (with_pipe_from a p.incoming.pipes s) }
        else record p { incoming = with_pipes p.incoming (with_pipe_from b (with_pipe_from a p.incoming.pipes s) s) }) e
        ∙ ap (λ (qs : List PipeState). record p { incoming = with_pipes p.incoming qs }) (first_twice (λ q. q.sender) a b keeps p.incoming.pipes s)

pipe_agree : (a b : PipeState → PipeState) (p : PortState) (s : ℕ) → ((q : PipeState) → pipe_from (pipes_of p) s ≡ Some q → a q ≡ b q)
    → with_pipe_of a p s ≡ with_pipe_of b p s
pipe_agree a b p s same = step (has_number s (senders_of p.expired.pipes)) refl
  where
    none : (o : Option PipeState) → is_some o ≡ false → or_else o (pipe_from p.incoming.pipes s) ≡ pipe_from p.incoming.pipes s
    none (Some q) h = absurd (true≢false h)
    none None h = refl

    step : (c : Bool) → has_number s (senders_of p.expired.pipes) ≡ c
        → (if c then record p { expired = with_pipes p.expired (with_pipe_from a p.expired.pipes s) } else record p { incoming = with_pipes p.incoming (with_pipe_from a p.incoming.pipes s) })
        ≡ (if c then record p { expired = with_pipes p.expired (with_pipe_from b p.expired.pipes s) } else record p { incoming = with_pipes p.incoming (with_pipe_from b p.incoming.pipes s) })
    step true e =
        ap (λ (qs : List PipeState). record p { expired = with_pipes p.expired qs })
        (first_agree (λ q. q.sender) a b p.expired.pipes s
        (λ q h. same q (first_append (λ r. r.sender) p.expired.pipes p.incoming.pipes s ∙ ap (λ o. or_else o (pipe_from p.incoming.pipes s)) h)))
    step false e =
        ap (λ (qs : List PipeState). record p { incoming = with_pipes p.incoming qs })
        (first_agree (λ q. q.sender) a b p.incoming.pipes s
        (λ q h. same q (first_append (λ r. r.sender) p.expired.pipes p.incoming.pipes s
        ∙ none (pipe_from p.expired.pipes s) (sym (has_some p.expired.pipes s) ∙ e) ∙ h)))

lane_agree : (f g : LaneState → LaneState) (q : PipeState) (lane : ℕ) → ((l : LaneState) → slice_get q.lanes lane ≡ Some l → f l ≡ g l)
    → with_lane f q lane ≡ with_lane g q lane
lane_agree f g q lane same = step (slice_get q.lanes lane) same
  where
    step : (o : Option LaneState) → ((l : LaneState) → o ≡ Some l → f l ≡ g l)
        → option_map_or (λ l. record q { lanes = slice_set q.lanes lane (f l) }) o q ≡ option_map_or (λ l. record q { lanes = slice_set q.lanes lane (g l) }) o q
    step (Some l) is = ap (λ (m : LaneState). record q { lanes = slice_set q.lanes lane m }) (is l refl)
    step None is = refl

-- ---- one way

pub way_agree : (f g : LaneState → LaneState) (ports : List PortState) (w : Way) → DoSame f g ports w → with_lane_on f ports w ≡ with_lane_on g ports w
way_agree f g ports w same =
    first_agree (λ p. p.number) (λ p. with_pipe_of (λ q. with_lane f q w.lane) p w.sender) (λ p. with_pipe_of (λ q. with_lane g q w.lane) p w.sender) ports w.receiver
    (λ p hp. pipe_agree (λ q. with_lane f q w.lane) (λ q. with_lane g q w.lane) p w.sender
    (λ q hq. lane_agree f g q w.lane
    (λ l hl. same l
    (ap (λ o. slice_get (option_map_or (λ r. r.lanes) (pipe_from (option_map_or pipes_of o []) w.sender) []) w.lane) hp
    ∙ ap (λ o. slice_get (option_map_or (λ r. r.lanes) o []) w.lane) hq ∙ hl))))

pub two_changes_are_one : TwoChangesAreOne
two_changes_are_one f g ports w =
    first_twice (λ p. p.number) (λ p. with_pipe_of (λ q. with_lane f q w.lane) p w.sender) (λ p. with_pipe_of (λ q. with_lane g q w.lane) p w.sender)
    (same_number (λ q. with_lane f q w.lane) (lane_sender f w.lane) w.sender) ports w.receiver
    ∙ ap (λ h. with_port h ports w.receiver)
    (λ i p. (pipe_twice (λ q. with_lane f q w.lane) (λ q. with_lane g q w.lane) (lane_sender f w.lane) p w.sender
    ∙ ap (λ h. with_pipe_of h p w.sender) (λ j q. lane_twice f g q w.lane j)) i)

first_same : {A : Type 0} (key : A → ℕ) (f : A → A) → ((x : A) → f x ≡ x) → (xs : List A) (n : ℕ) → with_first_by key f xs n ≡ xs
first_same key f same [] n = refl
first_same key f same (x ∷ xs) n = step (key x == n) (first_same key f same xs n)
  where
    step : (b : Bool) → with_first_by key f xs n ≡ xs → (if b then f x ∷ xs else x ∷ with_first_by key f xs n) ≡ x ∷ xs
    step true rest = ap (λ y. y ∷ xs) (same x)
    step false rest = ap (λ ys. x ∷ ys) rest

pipe_same : (h : PipeState → PipeState) → ((q : PipeState) → h q ≡ q) → (s : ℕ) (p : PortState) → with_pipe_of h p s ≡ p
pipe_same h same s p = step (has_number s (senders_of p.expired.pipes))
  where
    step : (c : Bool) → (if c then record p { expired = with_pipes p.expired (with_pipe_from h p.expired.pipes s) } else record p { incoming = with_pipes p.incoming (with_pipe_from h p.incoming.pipes s) }) ≡ p
    step true = ap (λ (qs : List PipeState). record p { expired = with_pipes p.expired qs }) (first_same (λ q. q.sender) h same p.expired.pipes s)
    step false = ap (λ (qs : List PipeState). record p { incoming = with_pipes p.incoming qs }) (first_same (λ q. q.sender) h same p.incoming.pipes s)

lane_same : (lane : ℕ) (q : PipeState) → with_lane (λ l. l) q lane ≡ q
lane_same lane q = step (slice_get q.lanes lane) refl
  where
    step : (o : Option LaneState) → slice_get q.lanes lane ≡ o → option_map_or (λ l. record q { lanes = slice_set q.lanes lane l }) o q ≡ q
    step (Some l) e = ap (λ (ls : List LaneState). record q { lanes = ls }) (set_same q.lanes lane l e)
    step None e = refl

pub same_stays : (f : LaneState → LaneState) (ports : List PortState) (w : Way) → DoSame f (λ l. l) ports w → with_lane_on f ports w ≡ ports
same_stays f ports w same =
    way_agree f (λ l. l) ports w same
    ∙ first_same (λ p. p.number) (λ p. with_pipe_of (λ q. with_lane (λ l. l) q w.lane) p w.sender)
    (pipe_same (λ q. with_lane (λ l. l) q w.lane) (lane_same w.lane) w.sender) ports w.receiver

-- ---- several ways

-- on the other ways all stays
others_stay : (f g h : LaneState → LaneState) (ports : List PortState) (w : Way) (ws : List Way) → has_way w ws ≡ false
    → OfEachWay (DoSame f g ports) ws → OfEachWay (DoSame f g (with_lane_on h ports w)) ws
others_stay f g h ports w [] off same = tt
others_stay f g h ports w (v ∷ ws) off same =
    let parts = or_parts (same_way w v) (has_way w ws) off in (
      λ l e. same.0 l (sym (ap (λ on. on v) (lane_turned h ports w) ∙ at_is h (lane_on ports) w v
          ∙ ap (λ (b : Bool). if b then option_map h (lane_on ports v) else lane_on ports v) (turned parts.0)) ∙ e),
      others_stay f g h ports w ws parts.1 same.1,
    )
  where
    turned : same_way w v ≡ false → same_way v w ≡ false
    turned e = same_way-flip v w (same_way v w) e refl

pub changes_agree : ChangesAgree
changes_agree f g ports [] apart same = refl
changes_agree f g ports (w ∷ ws) apart same =
    changes_agree f g (with_lane_on f ports w) ws apart.1 (others_stay f g f ports w ws apart.0 same.1)
    ∙ ap (λ ps. with_lanes_on g ps ws) (way_agree f g ports w same.0)

-- ---- emptying, and pushes

none_returned : (ks : List ℕ) → slice_get ks 0 ≡ None → ks ≡ []
none_returned [] e = refl
none_returned (k ∷ ks) e = absurd (none-some k (sym e))

pub emptying_is_one_by_one : EmptyingIsOneByOne
emptying_is_one_by_one ports w = record {
  goes_on = two_changes_are_one without_returned emptied_lane ports w;
  ends = λ none. same_stays emptied_lane ports w
      (λ l e. ap (λ (ks : List ℕ). record l { returned = ks })
      (sym (none_returned l.returned (ap (λ o. option_map_or (λ m. slice_get m.returned 0) o None) (sym e) ∙ none))));
}

pub pushes_are_the_machines : PushesAreTheMachines
pushes_are_the_machines l k some room = pushed_where_room l k some room
