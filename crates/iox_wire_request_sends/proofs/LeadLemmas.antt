-- Where the send of a request is led as it visits the next server.
use Rattle.std.proofs.Common.{◌≡◌, ℕ, List, ◌∷◌, Option, None, refl, ap, sym, subst, ◌∙◌}
use Rattle.iox_model.specs.declared.way.Way.{Way}
use Rattle.iox_steps.specs.declared.pop.Pop.TheVariants as pop
use Rattle.iox_steps.specs.declared.push.FullLook.TheVariants as full_look
use Rattle.iox_steps.specs.declared.push.Push.TheVariants as push
use Rattle.iox_steps.specs.declared.side.Popping.TheVariants as popping
use Rattle.iox_steps.specs.declared.side.Pushing.TheVariants as pushing
use Rattle.iox_word_map.specs.WordMaps.{MessageQueue, ReturningQueue}
use Rattle.iox_wire_words.specs.Programs.{site_of, state_place}
use Rattle.iox_wire_locals.specs.declared.local.Delivery.{Delivery}
use Rattle.iox_wire_locals.specs.declared.local.Local.{Local}
use Rattle.iox_wire_locals.specs.declared.local.Local.TheVariants.{SendEmpties, SendLooks, SendOpens, SendPushes}
use Rattle.iox_wire_locals.specs.declared.seat.Seat.{Seat}
use Rattle.iox_wire_locals.specs.declared.table.Entry.{Entry}
use Rattle.iox_wire_locals.specs.Courses.{delivering, emptying, looking, opening, placed}
use Rattle.iox_wire_locals.specs.Tables.{Setting}
use Rattle.iox_wire_locals.specs.Desks.{delivers}
use Rattle.iox_wire_seats.specs.Keeps.{delivered}
use Rattle.iox_wire_seats.specs.Lends.{MayLend}
use Rattle.iox_wire_seats.specs.Seats.{Placed}
use Rattle.iox_wire_loans.proofs.LoanLemmas.{count_kept}
use Rattle.iox_wire_request_sends.specs.declared.at.RequestReply.{RequestReply}
use Rattle.iox_wire_request_sends.specs.declared.target.RequestTerms.{RequestTerms}
use Rattle.iox_wire_request_sends.specs.Aims.{AreAimed, IsSameSend, IsToldOf, Knows, LeadsTo}
use Rattle.iox_wire_request_sends.specs.RequestDispatches.{RequestDispatch}
use Rattle.iox_wire_request_sends.specs.Targets.{AreTargets}

-- ---- what it knows stays so

pub knows_same : (p : Setting) (x : Seat) (r s : RequestDispatch) → IsSameSend r s → s.left ≡ r.left → Knows p x r → Knows p x s
knows_same p x r s same left k = record {
  told = subst (λ (t : RequestTerms). IsToldOf p s.loan t) (sym same.terms) (subst (λ (e : Entry). IsToldOf p e r.terms) (sym same.loan) k.told);
  targets = subst (λ (t : RequestTerms). AreTargets p t s.loan s.targets) (sym same.terms)
      (subst (λ (e : Entry). AreTargets p r.terms e s.targets) (sym same.loan) (subst (AreTargets p r.terms r.loan) (sym same.targets) k.targets));
  left = subst (λ (t : RequestTerms). AreTargets p t s.loan s.left) (sym same.terms)
      (subst (λ (e : Entry). AreTargets p r.terms e s.left) (sym same.loan) (subst (AreTargets p r.terms r.loan) (sym left) k.left));
  number = λ own. ap (λ (e : Entry). e.number) same.loan ∙ k.number (sym same.copied ∙ own);
}

-- ---- the same place

pub leads_as : (p : Setting) (a b : Seat) (y : Placed) (s : RequestDispatch) (reply : Option RequestReply) → a ≡ b → LeadsTo p b y s reply → LeadsTo p a y s reply
leads_as p a b y s reply is leads = subst (λ (z : Seat). LeadsTo p z y s reply) (sym is) leads

-- ---- the next server

pub empty_leads : (p : Setting) (x : Placed) (s : RequestDispatch) (d : Delivery) (w : Way) (left : List Way)
    → s.local ≡ SendEmpties d w (popping.Pops pop.LoadsRead) left → Knows p x.seat s → s.site ≡ site_of p.layout (ReturningQueue w)
    → LeadsTo p (emptying p x.seat d (w ∷ left)) x s None
empty_leads p x s d w left local knows site = record {
  next = ap (placed x.seat) local;
  over = refl;
  aimed = subst (λ (l : Local). AreAimed p x.seat l s) (sym local) (knows, site);
}

pub look_leads : (p : Setting) (x : Placed) (s : RequestDispatch) (d : Delivery) (w : Way) (left full : List Way)
    → s.local ≡ SendLooks d w (pushing.Looks full_look.LoadsWrite) left full → Knows p x.seat s → s.site ≡ site_of p.layout (MessageQueue w)
    → LeadsTo p (looking p x.seat d (w ∷ left) full) x s None
look_leads p x s d w left full local knows site = record {
  next = ap (placed x.seat) local;
  over = refl;
  aimed = subst (λ (l : Local). AreAimed p x.seat l s) (sym local) (knows, site);
}

pub open_leads : (p : Setting) (x : Placed) (s : RequestDispatch) (d : Delivery) (w : Way) (left full : List Way)
    → s.local ≡ SendOpens d w left full → Knows p x.seat s → s.state ≡ state_place p.layout w
    → LeadsTo p (opening p x.seat d (w ∷ left) full) x s None
open_leads p x s d w left full local knows state = record {
  next = ap (placed x.seat) local;
  over = refl;
  aimed = subst (λ (l : Local). AreAimed p x.seat l s) (sym local) (knows, state);
}

pub push_leads : (p : Setting) (x : Placed) (s : RequestDispatch) (d : Delivery) (last : Option Way) (w : Way) (left : List Way) (count : ℕ)
    → s.local ≡ SendPushes d last w (pushing.Pushes (push.LoadsWrite d.loan.slot)) left count → Knows p x.seat s → s.site ≡ site_of p.layout (MessageQueue w)
    → LeadsTo p (delivering x.seat d last (w ∷ left) count) x s None
push_leads p x s d last w left count local knows site = record {
  next = ap (placed x.seat) local;
  over = refl;
  aimed = subst (λ (l : Local). AreAimed p x.seat l s) (sym local) (knows, site);
}

-- ---- a delivery leaves what a loan needs

pub lends_after_delivered : (x : Placed) (port : ℕ) (w : Way) (slot number other : ℕ) → MayLend x number other
    → MayLend (delivered x port w slot) number other
lends_after_delivered x port w slot number other may = record {
  room = may.room;
  newer = may.newer;
  handles = may.handles;
  loans = count_kept other port (delivers w slot) x.seat.desks (λ d. refl) (λ d. refl) may.loans;
}
