-- A hub in whose tables a handle was released.
use Rattle.std.specs.Prelude.{◌≡◌, ℕ, true, not, IfSome, Some, None}
use Rattle.std.proofs.Common.{ap, subst, sym, ◌∙◌}
use Rattle.std.proofs.lemmas.Option.{same_Some}
use Rattle.iox_model.specs.Names.{is_port}
use Rattle.iox_model.specs.declared.call.Call.TheVariants.{Release}
use Rattle.iox_model.specs.declared.kind.Kind.{Kind}
use Rattle.iox_model.specs.declared.reply.Reply.TheVariants.{Done}
use Rattle.iox_tables.specs.HubStates.States.{Given}
use Rattle.iox_control.specs.Controls.{ControlState, IsControl}
use Rattle.iox_control.specs.Entries.{handle_state}
use Rattle.iox_control_releasing.specs.declared.ending.Ending.{Ending}
use Rattle.iox_control_releasing.specs.Goings.{StaysTidy}
use Rattle.iox_control_releasing.specs.Releases.{Releases}
use Rattle.iox_hub.specs.Hubs.{HubState, IsHub, state_of_hub, with_control}
use Rattle.iox_hub.specs.Keeping.{IsOther}
use Rattle.iox_hub.specs.ReleaseCalls.{ReleasesHandle}
use Rattle.iox_hub.specs.Sending.{with_words_left}
use Rattle.iox_hub.proofs.GoesOn.{hub_goes_on, whole_of_hub}
use Rattle.iox_hub.proofs.KeepingCalls.{released_keeps}
use Rattle.iox_hub.proofs.Named.{found_is_handle}
use Rattle.iox_hub.proofs.ReleasedWords.{found_itself, others_keep, tables_stay, told_still, words_so}
use Rattle.iox_hub.proofs.ReleasingFits.{fits_released}
use Rattle.iox_hub.proofs.SendingHubs.{released_is_gone, whole_then}

module _ {h : HubState} (hub : IsHub h) (node n : ℕ) (kind : Kind) (c : ControlState) (order : IsControl c) (r : Ending) (out : Releases h.control node n kind r c) where
  -- it is a hub before the words go
  pub hub_released : IsHub (with_control h c)
  hub_released =
      hub_goes_on _ c node (Release n) Done hub order
      (fits_released _ h.control.tables c.tables hub.words hub.control.order out.pools (handle_state r.entry) out.left)
      out.whole

  module _ (handle : not (is_port kind) ≡ true) (tidy : StaysTidy h.control.tables c.tables) (new : HubState) (stay : r.place ≡ None → new ≡ with_control h c)
      (left : IfSome r.place (λ k. new ≡ with_words_left (with_words_left (with_control h c) r.entry.pool) k)) (shown : (x : Given) → state_of_hub x (with_control h c) ≡ state_of_hub x new) where
    same_tables : new.control ≡ c
    same_tables = tables_stay hub c new r.entry.pool r.place stay left

    pub handle_released : ReleasesHandle h node n kind new
    handle_released = record {
      had = sym (told_still h.control.tables hub.control.order node n kind handle (Some (handle_state r.entry)) out.told);
      left = λ k at.
          words_so hub c new (handle_state r.entry) r.place stay left out.port out.stay
          k (same_Some (handle_state r.entry) k (sym (found_itself kind _ _ out.told) ∙ at));
      whole = λ x. whole_then hub c new node (Release n) Done x (whole_of_hub hub c node (Release n) Done out.whole x) (shown x);
      gone = released_is_gone h.control.tables c.tables node n (handle_state r.entry)
          (found_is_handle h.control.tables hub.control.order node n (handle_state r.entry) (found_itself kind _ _ out.told))
          new (ap (λ (d : ControlState). d.tables) same_tables) out.left;
      keeps = others_keep hub c new r.entry.pool (IsOther node n) order.order r.place stay left
          (released_keeps hub c order node n (handle_state r.entry) (found_itself kind _ _ out.told) out.left);
      tidy = subst (λ (d : ControlState). StaysTidy h.control.tables d.tables) (sym same_tables) tidy;
    }
