-- The bytes of one read, taken piece by piece.
use Rattle.std.proofs.Common.{◌≡◌, ℕ, ◌+◌, ◌≤◌, List, [], ◌++◌, length, Option, Result, Ok, Err, OnOk, refl, sym, ap, subst, ◌∙◌, append_assoc, append-nil, arith}
use Rattle.std.proofs.KnownBytes.{Appends-nil, Appends-trans}
use Rattle.std.specs.Io.KnownBytes.{Appends}
use Rattle.iox_streams.specs.declared.fault.Fault.{Fault}
use Rattle.iox_streams.specs.declared.fault.Fault.TheVariants.{WantOfMemory, Write}
use Rattle.iox_run.specs.declared.run.player.Player.{Player}
use Rattle.iox_run.specs.Runs.{IsBeginningOf, Stops}
use Rattle.iox_streams.specs.Writes.{Sends, SendsAll}
use Rattle.iox_run.specs.Standings.{Goes, IsSent, TakesUpTo, Waits, PlaysOn}
use Rattle.iox_run.proofs.RunSteps.{Goes-nil, Goes-trans, Goes-sent}
use Rattle.iox_run.proofs.RunFaults.{write_failed, memory_ran_out}

-- From a to b the player took the bytes before the rest, and the writer the answers that are no longer there.
pub record Playing (writer writer' : Option (List ℕ)) (bytes rest : List ℕ) (a b : Player) : Type 0 where
  pub front : List ℕ
  pub more : List ℕ
  pub cut : bytes ≡ front ++ rest
  pub went : Appends writer writer' more
  pub goes : Goes front more a b
  pub count : b.count + length rest ≤ a.count + length bytes

pub Playing-nil : (writer : Option (List ℕ)) (bytes : List ℕ) (a : Player)
    → Playing writer writer bytes bytes a a
Playing-nil writer bytes a = record { front = []; more = []; cut = refl; went = Appends-nil writer; goes = Goes-nil a; count = omega arith }

-- one more piece
pub Playing-taken : (writer writer' : Option (List ℕ)) (bytes rest rest' : List ℕ) (a b c : Player)
    → Playing writer writer' bytes rest a b → TakesUpTo rest' rest b c
    → c.count + length rest' ≤ b.count + length rest → Playing writer writer' bytes rest' a c
Playing-taken writer writer' bytes rest rest' a b c playing taken less = record {
  front = playing.front ++ taken.0;
  more = playing.more;
  cut = playing.cut ∙ ap (λ t. playing.front ++ t) taken.1 ∙ sym (append_assoc playing.front taken.0 rest');
  went = playing.went;
  goes = subst (λ t. Goes (playing.front ++ taken.0) t a c) (append-nil playing.more) (Goes-trans playing.front playing.more taken.0 [] a b c playing.goes taken.2);
  count = omega (arith, playing.count);
}

-- what is waiting is sent
pub Playing-sent : (writer writer' writer'' : Option (List ℕ)) (bytes rest : List ℕ) (a b c : Player)
    → Playing writer writer' bytes rest a b
    → Sends writer' writer'' (SendsAll b.answers.items (Ok tt)) → Waits b c → IsSent c
    → Playing writer writer'' bytes rest a c
Playing-sent writer writer' writer'' bytes rest a b c playing sends same none = record {
  front = playing.front;
  more = playing.more ++ sends.0;
  cut = playing.cut;
  went = Appends-trans writer writer' writer'' playing.more sends.0 playing.went sends.1;
  goes = subst (λ t. Goes t (playing.more ++ sends.0) a c) (append-nil playing.front) (Goes-trans playing.front playing.more [] sends.0 a b c playing.goes (Goes-sent sends.0 b c same sends.2 none));
  count = omega (arith, playing.count, same.count);
}

-- a write failed
pub Playing-failed : (writer writer' writer'' : Option (List ℕ)) (bytes rest waits : List ℕ) (a b c : Player) (fault : Fault)
    → Playing writer writer' bytes rest a b
    → waits ≡ b.answers.items → Sends writer' writer'' (SendsAll waits (Err fault))
    → Sends writer writer'' (PlaysOn bytes a c (Err fault))
Playing-failed writer writer' writer'' bytes rest waits a b c fault playing same sends = (
  playing.more ++ sends.0,
  Appends-trans writer writer' writer'' playing.more sends.0 playing.went sends.1,
  λ script sent stands.
      let stands' = playing.goes script sent stands in
      let whole = append_assoc script playing.front rest ∙ ap (λ t. script ++ t) (sym playing.cut) in
      subst (λ f. Stops f (script ++ bytes) (sent ++ (playing.more ++ sends.0))) (sym sends.2.0)
      (subst (Stops Write (script ++ bytes)) (append_assoc sent playing.more sends.0)
      (write_failed (script ++ playing.front) rest (script ++ bytes) (sent ++ playing.more) sends.0 b whole stands' (subst (IsBeginningOf sends.0) same sends.2.1))),
)

-- memory ran out, and what waited was sent
pub Playing-stopped : (writer writer' writer'' : Option (List ℕ)) (bytes rest waits : List ℕ) (a b c : Player)
    → Playing writer writer' bytes rest a b
    → waits ≡ b.answers.items → Sends writer' writer'' (SendsAll waits (Ok tt))
    → Sends writer writer'' (PlaysOn bytes a c (Err WantOfMemory))
Playing-stopped writer writer' writer'' bytes rest waits a b c playing same sends = (
  playing.more ++ sends.0,
  Appends-trans writer writer' writer'' playing.more sends.0 playing.went sends.1,
  λ script sent stands.
      let stands' = playing.goes script sent stands in
      let whole = append_assoc script playing.front rest ∙ ap (λ t. script ++ t) (sym playing.cut) in
      subst (Stops WantOfMemory (script ++ bytes)) (append_assoc sent playing.more sends.0)
      (memory_ran_out (script ++ playing.front) rest (script ++ bytes) (sent ++ playing.more) sends.0 b whole stands' (sends.2 ∙ same)),
)

-- no bytes are left, and the last answers are sent
pub Playing-last : (writer writer' writer'' : Option (List ℕ)) (bytes rest : List ℕ) (a b c : Player) (result : Result (Unit {0}) Fault)
    → Playing writer writer' bytes rest a b → rest ≡ []
    → Sends writer' writer'' (SendsAll b.answers.items result) → Waits b c → OnOk result (IsSent c)
    → Sends writer writer'' (PlaysOn bytes a c result)
Playing-last writer writer' writer'' bytes rest a b c (Ok _) playing none sends same sent =
    let all = Playing-sent writer writer' writer'' bytes rest a b c playing sends same sent in
    let front : all.front ≡ bytes = sym (append-nil all.front) ∙ ap (λ t. all.front ++ t) (sym none)
    ∙ sym all.cut in
    (all.more, all.went, (subst (λ t. Goes t all.more a c) front all.goes, sent))
Playing-last writer writer' writer'' bytes rest a b c (Err fault) playing none sends same sent =
    Playing-failed writer writer' writer'' bytes rest b.answers.items a b c fault playing refl sends
