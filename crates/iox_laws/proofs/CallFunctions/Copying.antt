-- What `copied_by` says is a whole call.
use Rattle.std.specs.Prelude.{◌≡◌, ℕ, true, List, length, nat_lt, Option, Some, None, refl}
use Rattle.std.specs.Option.{option_map_or}
use Rattle.std.proofs.Common.{sym, subst, ap, ap₂, ◌∙◌}
use Rattle.iox_model.specs.declared.way.Way.{Way}
use Rattle.iox_model.specs.declared.call.Call.TheVariants.{SendCopy}
use Rattle.iox_model.specs.declared.reply.Refusal.TheVariants.{UnknownNumber, WrongLength}
use Rattle.iox_model.specs.declared.reply.Reply.TheVariants.{Refused}
use Rattle.iox_model.specs.Doings.{refused, Tells}
use Rattle.iox_model.specs.Handles.{subject, Subject, ThePort, TheHandle}
use Rattle.iox_model.specs.Loans.{Choice, lending_ways}
use Rattle.iox_model.specs.Maps.{AreDistinctWays}
use Rattle.iox_model.specs.Messages.{Message}
use Rattle.iox_model.specs.Moments.{is_overfull}
use Rattle.iox_model.specs.Peers.{role_at, buffer_on}
use Rattle.iox_model.specs.Responses.{sends, copies}
use Rattle.iox_model.specs.Settings.{overflow_of}
use Rattle.iox_model.specs.States.{Handle, Fixed, State}
use Rattle.iox_laws.specs.CallFunctions.Answers.{NoneInHand}
use Rattle.iox_laws.specs.CallFunctions.Copies.{sent_at_once, copied_from, MayCopy, EachCopyIsWhole, copied_order}
use Rattle.iox_laws.specs.CallFunctions.LoanSends.{sending_ways, MaySend}
use Rattle.iox_laws.specs.CallFunctions.Loans.{request_loan, response_loan}
use Rattle.iox_laws.specs.CallFunctions.Overflows.{NotOver}
use Rattle.iox_laws.specs.CallFunctions.Sends.{emptied}
use Rattle.iox_laws.proofs.CallFunctions.Leads.{NoPayload, Leads, at_end, is_whole}
use Rattle.iox_laws.proofs.CallFunctions.Lending.{lends_leads}
use Rattle.iox_laws.proofs.CallFunctions.Overflowing.{emptied-same, all_not_over}
use Rattle.iox_laws.proofs.CallFunctions.LoanSending.{loan_sends_lead}

-- ---- once all is got back, the loan may be sent all the same

after_emptying : (s : State) (ws : List Way) (h : Handle) → MaySend s h → MaySend (emptied s ws) h
after_emptying s ws h may =
    let t : State = emptied s ws in
    let same : (t.fixed ≡ s.fixed) × ((t.waiting ≡ s.waiting) × (t.in_hand ≡ s.in_hand)) = emptied-same s ws in
    let over : (w : Way) → is_overfull t w ≡ is_overfull s w = λ w. ap₂ (λ (f : Fixed) (g : Way → List Message). nat_lt (buffer_on f w) (length (g w))) same.0 same.1.0 in
    record {
      apart = subst (λ (f : Fixed). AreDistinctWays (sending_ways f h)) (sym same.0) may.apart;
      within = λ on. subst (λ (f : Fixed). NotOver t (sending_ways f h)) (sym same.0)
          (all_not_over s t (sending_ways s.fixed h) over
          (may.within (subst (λ (f : Fixed). overflow_of f.limits (role_at f h.port) ≡ true) same.0 on)));
    }

hand_after : (s : State) (ws : List Way) → NoneInHand s → NoneInHand (emptied s ws)
hand_after s ws hand w = ap (λ (f : Way → List ℕ). f w) (emptied-same s ws).1.1 ∙ hand w

goes_on : (f : Fixed) (s : State) (node : ℕ) (h : Handle) → NoneInHand s → MaySend s h
    → (let t : State = emptied s (lending_ways s.fixed h) in Leads (NoPayload f) t node (sends t.fixed h true) (sent_at_once t h))
goes_on f s node h hand may =
    let ws : List Way = lending_ways s.fixed h in
    loan_sends_lead f (emptied s ws) node h true (hand_after s ws hand) (after_emptying s ws h may)

-- ---- the whole call

copies_lead : (s : State) (node n : ℕ) (c : Choice) (words : List ℕ) (k : Option ℕ) (x : Option Subject) → NoneInHand s
    → ((j : ℕ) → k ≡ Some j → MayCopy s c x (copied_order j words))
    → Leads (NoPayload s.fixed) s node (option_map_or (λ y. copies s c y k words) x (refused UnknownNumber)) (copied_from s c x k words)
copies_lead s node n c words (Some k) (Some (ThePort p)) hand may =
    lends_leads (NoPayload s.fixed) s node c sent_at_once (ThePort p) (copied_order k words) (λ r. tt) hand
    (goes_on s.fixed s node (request_loan s.fixed c p (copied_order k words)) hand (may k refl))
copies_lead s node n c words (Some k) (Some (TheHandle h)) hand may =
    lends_leads (NoPayload s.fixed) s node c sent_at_once (TheHandle h) (copied_order k words) (λ r. tt) hand
    (λ p e. goes_on s.fixed s node (response_loan s.fixed h p (copied_order k words)) hand (may k refl p e))
copies_lead s node n c words (Some k) None hand may = at_end (NoPayload s.fixed) s node (Tells (Refused UnknownNumber)) tt
copies_lead s node n c words None (Some x) hand may = at_end (NoPayload s.fixed) s node (Tells (Refused WrongLength)) tt
copies_lead s node n c words None None hand may = at_end (NoPayload s.fixed) s node (Tells (Refused UnknownNumber)) tt

pub each_copy_is_whole : EachCopyIsWhole
each_copy_is_whole s node n c p choice hand may =
    is_whole s node (SendCopy n p) c (copied_from s c (subject s.fixed node n) p.elements p.words) choice
    (copies_lead s node n c p.words p.elements (subject s.fixed node n) hand may)
