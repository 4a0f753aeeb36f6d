-- What a beat of another node leaves of a port: how many messages it keeps, and has outstanding.
use Rattle.std.specs.Prelude.{◌&&◌, ◌||◌, filter, length}
use Rattle.std.specs.List.{list_any, range_with_len}
use Rattle.std.specs.Option.{option_map_or}
use Rattle.std.proofs.Common.{◌≡◌, ℕ, ◌+◌, Bool, true, false, if◌then◌else◌, ◌==◌, List, [], ◌∷◌, Option, None, Some, refl, ap, ap₂, sym, subst, ◌∙◌, inl, inr}
use Rattle.iox_model.specs.declared.kind.Role.TheVariants.{Client, Server}
use Rattle.iox_model.specs.declared.way.Way.{Way}
use Rattle.iox_model.specs.Commands.{Reply}
use Rattle.iox_model.specs.Doings.{Doing}
use Rattle.iox_model.specs.Handles.{handles_of, is_own}
use Rattle.iox_model.specs.Keeping.{kept_in, under_way}
use Rattle.iox_model.specs.Maps.{has_number, has_way}
use Rattle.iox_model.specs.Moments.{Moment}
use Rattle.iox_model.specs.Outstandings.{is_held, is_kept, is_outstanding, kept, outstanding_on}
use Rattle.iox_model.specs.Peers.{is_connected_port, node_of_port, role_at, ways_from, ways_from_client, ways_from_server}
use Rattle.iox_model.specs.Settings.{is_client}
use Rattle.iox_model.specs.States.{Fixed, Handle, Port, State}
use Rattle.iox_model.specs.Weaves.{Beat, Begins, Dies, Ends, IsBeat, IsWeave, Makes, World}
use Rattle.iox_laws.specs.WeaveLaws.Laws.{node_of_beat}
use Rattle.iox_laws.specs.WeaveWorlds.Worlds.{IsReachable}
use Rattle.iox_laws.proofs.WeaveBeats.LiveWays.{beats_are_reachable}
use Rattle.iox_laws.proofs.WeaveLaws.CallLaws.{put_at-else}
use Rattle.iox_laws.proofs.WeaveLedger.Lists.{IsAmong}
use Rattle.iox_laws.proofs.WeaveLedger.Views.{View}
use Rattle.iox_laws.proofs.WeavePools.Kept.{client-way, server-way}
use Rattle.iox_wire_needs.specs.WholeSteps.{reply_beats, step_beats}
use Rattle.iox_wire_needs.proofs.OthersSame.{delivered_same, loans_same, node_same, ports_same, view_same}
use Rattle.iox_wire_nodes.specs.Seat.{Seat}
use Rattle.iox_wire_seats.specs.Counted.{desk_of}
use Rattle.iox_wire_weaves.specs.PortCounts.{TellsCounts, kept_count, outstanding_count, sends_on}
use Rattle.iox_wire_weaves.proofs.Lookups.{fun_ext}

-- the machine counts the same of the port
pub record CountsSame (w u : World) (port : ℕ) : Type 0 where
  pub kept : kept_count u port ≡ kept_count w port
  pub outstanding : (y : Way) → y.sender ≡ port → outstanding_count u.state y ≡ outstanding_count w.state y

pub same_world : (w u : World) (port : ℕ) → u ≡ w → CountsSame w u port
same_world w u port is = record {
  kept = ap (λ v. kept_count v port) is;
  outstanding = λ y from. ap (λ (v : World). outstanding_count v.state y) is;
}

pub then_same : (w v u : World) (port : ℕ) → CountsSame w v port → CountsSame v u port → CountsSame w u port
then_same w v u port first second = record {
  kept = second.kept ∙ first.kept;
  outstanding = λ y from. second.outstanding y from ∙ first.outstanding y from;
}

-- so the same desk tells it still
pub tells_same : (w u : World) (port : ℕ) (x z : Seat) → z ≡ x → CountsSame w u port → TellsCounts w port x → TellsCounts u port z
tells_same w u port x z is same t = record {
  desk = t.desk;
  there = ap (λ (s : Seat). desk_of port s.desks) is ∙ t.there;
  kept = t.kept ∙ sym same.kept;
  outstanding = λ y from. t.outstanding y from ∙ sym (same.outstanding y from);
}

-- a port sends only on its own ways
pub from_port : (f : Fixed) (port : ℕ) (y : Way) → IsAmong y (ways_from f port) → y.sender ≡ port
from_port f port y among = by_role (is_client (role_at f port)) among
  where
    by_role : (b : Bool) → IsAmong y (if b then ways_from_client f port else ways_from_server f port) → y.sender ≡ port
    by_role true among = (client-way f port y among).sender
    by_role false among = (server-way f port y among).sender

any_same : (f g : Way → Bool) (ys : List Way) → ((y : Way) → IsAmong y ys → f y ≡ g y) → list_any f ys ≡ list_any g ys
any_same f g [] each = refl
any_same f g (y ∷ ys) each =
    ap (λ b. b || list_any f ys) (each y (inl refl)) ∙ ap (λ b. g y || b) (any_same f g ys (λ z among. each z (inr among)))

-- ---- one beat

module _ (w u : World) (b : Beat) (n port : ℕ) (reach : IsReachable w) (beat : IsBeat w b u) (other : (n == node_of_beat b) ≡ false)
    (mine : node_of_port w.state.fixed port ≡ n) where
  doing_same : u.doing n ≡ w.doing n
  doing_same = by_beat b beat other
    where
      by_beat : (b : Beat) → IsBeat w b u → (n == node_of_beat b) ≡ false → u.doing n ≡ w.doing n
      by_beat (Begins k call c) beat other = ap (λ (v : World). v.doing n) beat.2 ∙ put_at-else w.doing k _ n other
      by_beat (Makes k m) beat other = ap (λ (v : World). v.doing n) beat.5 ∙ put_at-else w.doing k _ n other
      by_beat (Ends k reply payload) beat other = ap (λ (v : World). v.doing n) beat.7 ∙ put_at-else w.doing k _ n other
      by_beat (Dies k) beat other = ap (λ (v : World). v.doing n) beat.1

  ports : u.state.fixed.ports ≡ w.state.fixed.ports
  ports = ports_same w u b n reach beat other

  at_node : node_of_port u.state.fixed port ≡ n
  at_node = node_same w u b n reach beat other port ∙ mine

  ways : ways_from u.state.fixed port ≡ ways_from w.state.fixed port
  ways = ap (λ qs. ways_from (record (w.state.fixed) { ports = qs }) port) ports

  connected : is_connected_port u.state.fixed port ≡ is_connected_port w.state.fixed port
  connected = ap (λ (qs : List Port). list_any (λ q. q.number == port) qs) ports

  handles : handles_of u.state.fixed port ≡ handles_of w.state.fixed port
  handles =
      ap (filter (λ (h : Handle). h.port == port))
      (ap u.state.fixed.handles at_node ∙ ap (λ (v : View). v.handles) (view_same w u b n reach beat other) ∙ sym (ap w.state.fixed.handles mine))

  calls : option_map_or (under_way port) (u.doing (node_of_port u.state.fixed port)) [] ≡ option_map_or (under_way port) (w.doing (node_of_port w.state.fixed port)) []
  calls = ap (λ (o : Option Doing). option_map_or (under_way port) o []) (ap u.doing at_node ∙ doing_same ∙ sym (ap w.doing mine))

  loans : u.state.fixed.loans port ≡ w.state.fixed.loans port
  loans = loans_same w u b n reach beat other port mine

  delivered : (y : Way) (k : ℕ) → y.sender ≡ port → u.state.delivered y k ≡ w.state.delivered y k
  delivered y k from = delivered_same w u b n reach beat other y k (ap (node_of_port w.state.fixed) from ∙ mine)

  is_out : (k : ℕ) → is_outstanding u.state port k ≡ is_outstanding w.state port k
  is_out k =
      ap (list_any (λ y. u.state.delivered y k)) ways
      ∙ any_same (λ y. u.state.delivered y k) (λ y. w.state.delivered y k) (ways_from w.state.fixed port)
      (λ y among. delivered y k (from_port w.state.fixed port y among))

  held : (k : ℕ) → is_held u.state.fixed port k ≡ is_held w.state.fixed port k
  held k = ap (list_any (λ (h : Handle). is_own h.kind && (h.message.serial == k))) handles

  is_kept_same : (k : ℕ) → is_kept u.state port (option_map_or (under_way port) (u.doing (node_of_port u.state.fixed port)) []) k
      ≡ is_kept w.state port (option_map_or (under_way port) (w.doing (node_of_port w.state.fixed port)) []) k
  is_kept_same k =
      ap (λ ks. has_number k ks || (is_held u.state.fixed port k || is_outstanding u.state port k)) calls
      ∙ ap (λ a. has_number k (option_map_or (under_way port) (w.doing (node_of_port w.state.fixed port)) []) || (a || is_outstanding u.state port k)) (held k)
      ∙ ap (λ a. has_number k (option_map_or (under_way port) (w.doing (node_of_port w.state.fixed port)) []) || (is_held w.state.fixed port k || a)) (is_out k)

  kept_same : kept_in u port ≡ kept_in w port
  kept_same =
      ap (λ (test : ℕ → Bool). filter test (range_with_len 0 (u.state.fixed.loans port + 1))) (fun_ext is_kept_same)
      ∙ ap (λ k. filter (is_kept w.state port (option_map_or (under_way port) (w.doing (node_of_port w.state.fixed port)) [])) (range_with_len 0 (k + 1))) loans

  out_same : (y : Way) → y.sender ≡ port → outstanding_on u.state y ≡ outstanding_on w.state y
  out_same y from =
      ap (λ (test : ℕ → Bool). filter test (range_with_len 0 (u.state.fixed.loans y.sender + 1))) (fun_ext (λ k. delivered y k from))
      ∙ ap (λ k. filter (w.state.delivered y) (range_with_len 0 (k + 1))) (ap u.state.fixed.loans from ∙ loans ∙ sym (ap w.state.fixed.loans from))

  sends_same : (y : Way) → y.sender ≡ port → sends_on u.state y.sender y ≡ sends_on w.state y.sender y
  sends_same y from =
      ap (λ q. sends_on u.state q y) from
      ∙ ap₂ (λ a vs. a && has_way y vs) connected ways
      ∙ sym (ap (λ q. sends_on w.state q y) from)

  pub beat_leaves : CountsSame w u port
  beat_leaves = record {
    kept = ap₂ (λ (a : Bool) (ks : List ℕ). if a then length ks else 0) connected kept_same;
    outstanding = λ y from. ap₂ (λ (a : Bool) (ks : List ℕ). if a then length ks else 0) (sends_same y from) (out_same y from);
  }

-- ---- a step

reply_leaves : (w u : World) (n m port : ℕ) (payload : List ℕ) (reply : Option Reply) → IsReachable w → (n == m) ≡ false → node_of_port w.state.fixed port ≡ n
    → IsWeave w (reply_beats m payload reply) u → CountsSame w u port
reply_leaves w u n m port payload None reach other mine woven = same_world w u port woven
reply_leaves w u n m port payload (Some reply) reach other mine woven =
    then_same w woven.0 u port (beat_leaves w woven.0 (Ends m reply payload) n port reach woven.1 other mine) (same_world woven.0 u port woven.2)

-- the step of one node leaves the ports of another one
pub step_leaves : (w u : World) (n m port : ℕ) (payload : List ℕ) (moment : Option Moment) (reply : Option Reply) → IsReachable w → (n == m) ≡ false
    → node_of_port w.state.fixed port ≡ n → IsWeave w (step_beats m payload moment reply) u → CountsSame w u port
step_leaves w u n m port payload None reply reach other mine woven = reply_leaves w u n m port payload reply reach other mine woven
step_leaves w u n m port payload (Some moment) reply reach other mine woven =
    then_same w woven.0 u port (beat_leaves w woven.0 (Makes m moment) n port reach woven.1 other mine)
    (reply_leaves woven.0 u n m port payload reply (beats_are_reachable w woven.0 (Makes m moment) reach woven.1) other
    (node_same w woven.0 (Makes m moment) n reach woven.1 other port ∙ mine) woven.2)
