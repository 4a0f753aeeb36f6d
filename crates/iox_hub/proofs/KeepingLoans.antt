-- Loans, writes and makings of ports keep other values, and what is made is new.
use Rattle.std.specs.Prelude.{◌≡◌, ◌+◌, ℕ, Bool, true, false, ◌&&◌, if◌then◌else◌, ◌==◌, List, [], ◌∷◌, map, Option, Some, None, IsSome, refl, ⊤}
use Rattle.std.specs.List.{list_any}
use Rattle.std.proofs.Common.{sym, ap, ◌∙◌, true≢false}
use Rattle.std.proofs.lemmas.Option.{none-some, same_Some}
use Rattle.iox_store.specs.Stored.{StoredMessage}
use Rattle.iox_model.specs.declared.kind.Kind.{Kind}
use Rattle.iox_model.specs.declared.kind.Role.{Role}
use Rattle.iox_model.specs.Handles.{filled_kind}
use Rattle.iox_model.specs.Settings.{Shape}
use Rattle.iox_tables.specs.HubStates.Tables.{HandleState, HubTables, port_in}
use Rattle.iox_tables.specs.HubStates.Changes.{emptied_lane}
use Rattle.iox_tables.specs.HubStates.Wirings.{handle_in}
use Rattle.iox_tables.specs.HubLoans.Lenders.{Lender, ways_by}
use Rattle.iox_tables.specs.HubLoans.Loans.{loaned_handle, with_loaned}
use Rattle.iox_tables.specs.HubLoans.Questions.{kind_in}
use Rattle.iox_tables.specs.HubLoans.Slots.{IsUnused, is_place}
use Rattle.iox_tables.proofs.HubLoans.Placed.{or_false}
use Rattle.iox_tables.specs.HubBooks.Hubs.{AreInOrder}
use Rattle.iox_tables.specs.HubLending.Emptying.{with_back}
use Rattle.iox_tables.proofs.HubLending.Owning.{free_is_unused}
use Rattle.iox_control.specs.Controls.{ControlState}
use Rattle.iox_control_request_copies.specs.Loaned.{Loaned}
use Rattle.iox_control_request_copies.specs.Lent.{Lent}
use Rattle.iox_control_request_copies.specs.Lent.TheVariants as lents
use Rattle.iox_control_request_copies.specs.Place.{Place}
use Rattle.iox_control_request_copies.specs.Written.{Written}
use Rattle.iox_control_request_copies.specs.Written.TheVariants as written
use Rattle.iox_control_request_copies.specs.Fills.{IsFilled}
use Rattle.iox_control_request_copies.specs.Lends.{on_lane}
use Rattle.iox_hub.specs.Hubs.{HasValue, HubState, IsHub, with_control}
use Rattle.iox_hub.specs.Keeping.{IsNewLoan, KeepsAll, KeepsOthers}
use Rattle.iox_hub.specs.Lending.{with_message}
use Rattle.iox_hub.specs.Reads.{message_in}
use Rattle.iox_hub.specs.Sending.{HasNothing}
use Rattle.iox_hub.specs.Words.{Carried, stored_in}
use Rattle.iox_hub.proofs.Keeping.{PortStays, RowStays, all_kept, value_stays}
use Rattle.iox_hub.proofs.KeepingCalls.{rows_keep}
use Rattle.iox_hub.proofs.KeepingHandles.{loan_apart, named_is_not_next, next_is_nothing, other_added, other_changed}
use Rattle.iox_hub.proofs.KeepingPorts.{lanes_owned, owned, port_owned, still_as}
use Rattle.iox_hub.proofs.LendingCalls.{IsLoanCall, refused_left}
use Rattle.iox_hub.proofs.LendingMade.{back_order}
use Rattle.iox_hub.proofs.LendingWords.{stored_else}
use Rattle.iox_hub.proofs.LendingWriteCalls.{IsWriteCall}
use Rattle.iox_hub.proofs.LendingWrites.{found_has, loan_is_one, misfit_left}

-- what passes for none of the handles does not pass for one that is found
pub none_is : (test : HandleState → Bool) (hs : List HandleState) (a m : ℕ) (k : HandleState) → list_any test hs ≡ false → handle_in hs a m ≡ Some k → test k ≡ false
none_is test [] a m k none at = absurd (none-some k at)
none_is test (j ∷ js) a m k none at =
    let both = or_false (test j) (list_any test js) none in step ((j.node == a) && (j.number == m)) at both.0 (none_is test js a m k both.1)
  where
    step : (b : Bool) → (if b then Some j else handle_in js a m) ≡ Some k → test j ≡ false → (handle_in js a m ≡ Some k → test k ≡ false) → test k ≡ false
    step true e here rest = ap test (sym (same_Some j k e)) ∙ here
    step false e here rest = rest e

-- ---- loans

pub other_is_new : {h : HubState} → IsHub h → (node : ℕ) (result : Lent) → ((l : Loaned) → result ≡ lents.Handle l → ⊥) → IsNewLoan h node result
other_is_new hub node (lents.Handle l) never = absurd (never l refl)
other_is_new hub node (lents.Refused r) never = tt
other_is_new hub node lents.OutOfMemory never = tt

module _ {h : HubState} (hub : IsHub h) (role : Role) (shape : Shape) (uninit : Bool) (k node number : ℕ) (new : ControlState) where
  abbrev t : HubTables
  t = h.control.tables

  module _ (l : Loaned) (c : IsLoanCall h role shape uninit k node number new (lents.Handle l)) where
    abbrev mid : HubTables
    mid = c.left.between.tables

    abbrev lender : Lender
    lender = on_lane c.lender c.left.made.lane

    mid_is : mid ≡ with_back t c.lender.port mid.pools
    mid_is = ap (λ (d : ControlState). d.tables) c.left.back.left

    mid_order : AreInOrder mid
    mid_order = back_order h.words h.control c.left.between hub.words hub.control.order c.port c.lender.port c.there c.left.back

    new_is : new.tables ≡ with_loaned mid lender c.asked.uninit c.asked.elements l.slot
    new_is = ap (λ (d : ControlState). d.tables) c.left.made.left

    next_same : mid.next_number ≡ t.next_number
    next_same = ap (λ (z : HubTables). z.next_number) mid_is

    pub loan_is_new : HasNothing h node l.number
    loan_is_new = next_is_nothing t hub.control.order node l.number (c.left.made.number ∙ next_same)

    module _ (words : List (Option Carried)) (z : StoredMessage) (put : words ≡ with_message h.words l.pool l.slot z) where
      pub loan_keeps : KeepsAll h (record h { control = new; words = words })
      loan_keeps a m all some = value_stays h (record h { control = new; words = words }) c.order.order a m ports row message some
        where
          ports : PortStays t new.tables a m
          ports p at held on =
              still_as t.ports new.tables.ports
              (ap (λ (x : HubTables). map owned x.ports) new_is
              ∙ port_owned (λ q. record q { loans = q.loans + 1 }) (λ q. refl) mid.ports c.lender.port.number
              ∙ ap (λ (x : HubTables). map owned x.ports) mid_is
              ∙ lanes_owned emptied_lane t.ports (ways_by c.lender.port.role t c.lender.port.number)) m p at

          row : RowStays t new.tables a m
          row =
              ap (λ (x : HubTables). handle_in x.handles a m) new_is
              ∙ other_added (loaned_handle mid lender c.asked.uninit l.slot) a m (λ e. named_is_not_next t hub.control.order a m some (e ∙ next_same)) mid.handles
              ∙ ap (λ (x : HubTables). handle_in x.handles a m) mid_is

          message : (j : HandleState) → handle_in t.handles a m ≡ Some j → stored_in words j.pool j.slot ≡ stored_in h.words j.pool j.slot
          message j at =
              let unused : IsUnused mid c.lender.port.pool l.slot = free_is_unused mid mid_order c.lender.port.pool l.slot c.left.made.free in
              let apart : is_place l.pool l.slot j.pool j.slot ≡ false =
              ap (λ p. is_place p l.slot j.pool j.slot) c.left.made.pool
              ∙ none_is (λ i. is_place c.lender.port.pool l.slot i.pool i.slot) mid.handles a m j unused.handles
              (ap (λ (x : HubTables). handle_in x.handles a m) mid_is ∙ at) in
              ap (λ (ws : List (Option Carried)). stored_in ws j.pool j.slot) put ∙ stored_else h.words l.pool l.slot z j.pool j.slot apart

  -- where the pool is dry
  dry_keeps : (c : IsLoanCall h role shape uninit k node number new lents.OutOfMemory) → KeepsAll h (with_control h new)
  dry_keeps c =
      let is : new.tables ≡ with_back t c.lender.port new.tables.pools = ap (λ (d : ControlState). d.tables) c.left.back.left in
      rows_keep hub new c.order (λ a m. ⊤)
      (λ a m all p at held on. still_as t.ports new.tables.ports
      (ap (λ (x : HubTables). map owned x.ports) is ∙ lanes_owned emptied_lane t.ports (ways_by c.lender.port.role t c.lender.port.number)) m p at)
      (λ a m all some. ap (λ (x : HubTables). handle_in x.handles a m) is)

  pub other_loan_keeps : (result : Lent) → ((l : Loaned) → result ≡ lents.Handle l → ⊥) → IsLoanCall h role shape uninit k node number new result → KeepsAll h (with_control h new)
  other_loan_keeps (lents.Handle l) never c = absurd (never l refl)
  other_loan_keeps (lents.Refused r) never c = all_kept h (with_control h new) (refused_left h c.lender c.asked r new c.left)
  other_loan_keeps lents.OutOfMemory never c = dry_keeps c

-- ---- writes

module _ {h : HubState} {role : Role} {node n count : ℕ} {new : ControlState} {place : Place} (c : IsWriteCall h role node n count new (written.Done place))
    (words : List (Option Carried)) (z : StoredMessage) (put : words ≡ with_message h.words place.pool place.slot z) where
  abbrev tables : HubTables
  tables = h.control.tables

  abbrev loan : HandleState
  loan = c.loan.handle

  is : IsFilled h.control loan (Some count) place new
  is = c.write.left loan c.loan.there

  pub write_keeps : KeepsOthers h node n (record h { control = new; words = words })
  write_keeps a m other some = value_stays h (record h { control = new; words = words }) c.write.order.order a m ports row message some
    where
      ports : PortStays tables new.tables a m
      ports p at held on = (p, ap (λ (d : ControlState). port_in d.tables.ports m) is.left ∙ at, refl)

      row : RowStays tables new.tables a m
      row =
          let has = found_has tables.handles node n loan c.loan.there in
          ap (λ (d : ControlState). handle_in d.tables.handles a m) is.left
          ∙ other_changed node n a m other (record loan { kind = filled_kind loan.kind }) has.0 has.1 tables.handles

      message : (j : HandleState) → handle_in tables.handles a m ≡ Some j → stored_in words j.pool j.slot ≡ stored_in h.words j.pool j.slot
      message j at =
          ap (λ (ws : List (Option Carried)). stored_in ws j.pool j.slot) put
          ∙ ap (λ (q : Place). stored_in (with_message h.words q.pool q.slot z) j.pool j.slot) is.at
          ∙ stored_else h.words loan.pool loan.slot z j.pool j.slot
          (loan_apart tables c.hub.control.order node n a m other loan j c.loan.there (loan_is_one role loan.kind c.loan.passes) at)

pub other_write_keeps : {h : HubState} {role : Role} {node n count : ℕ} {new : ControlState} (result : Written) → ((p : Place) → result ≡ written.Done p → ⊥)
    → IsWriteCall h role node n count new result → KeepsOthers h node n (with_control h new)
other_write_keeps (written.Done p) never c = absurd (never p refl)
other_write_keeps {h} {role} {node} {n} {count} {new} written.WrongLength never c =
    λ a m other some. all_kept h (with_control h new) (misfit_left role c.hub node n c.loan count new (c.write.left c.loan.handle c.loan.there)) a m tt some

-- ---- makings

pub made_keeps : (old new : HubState) → ((a m : ℕ) (kind : Kind) → HasValue old a m kind → HasValue new a m kind)
    → ((a m : ℕ) → RowStays old.control.tables new.control.tables a m) → ((a m : ℕ) → message_in new a m ≡ message_in old a m) → KeepsAll old new
made_keeps old new still rows messages a m all some = record {
  kind = step (kind_in old.control.tables a m) refl some;
  handle = rows a m;
  message = messages a m;
}
  where
    step : (o : Option Kind) → kind_in old.control.tables a m ≡ o → IsSome o → kind_in new.control.tables a m ≡ o
    step (Some kind) e s = still a m kind e
    step None e s = absurd (true≢false (sym s))
