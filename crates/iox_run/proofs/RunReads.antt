-- A run, read after read.
use Rattle.std.proofs.Common.{◌≡◌, ℕ, ◌+◌, ◌-◌, ◌^◌, ◌<◌, ◌≤◌, List, [], ◌++◌, length, take, Option, Result, Ok, Err, inl, refl, sym, ap, subst, ◌∙◌, append-nil, length-append, arith}
use Rattle.std.proofs.Math.Seq.{take-append-add}
use Rattle.std.proofs.lemmas.List.{length-take}
use Rattle.std.proofs.lemmas.List.Splits.{length-slice_split}
use Rattle.std.proofs.lemmas.List.Sums.{count_by-le-length}
use Rattle.std.proofs.KnownBytes.{Appends-nil, Appends-trans, Consumes-nil, Consumes-trans}
use Rattle.std.specs.Io.KnownBytes.{Appends, Consumes, IsAtEnd}
use Rattle.iox_script.specs.Lines.{is_line_feed, pieces_of, ended_lines}
use Rattle.iox_streams.specs.declared.fault.Fault.{Fault}
use Rattle.iox_streams.specs.declared.fault.Fault.TheVariants.{WantOfMemory}
use Rattle.iox_run.specs.declared.run.player.Player.{Player}
use Rattle.iox_session.specs.SessionStates.{new_session}
use Rattle.iox_run.specs.Answers.{IsTextOfLines}
use Rattle.iox_run.specs.Runs.{Stops, Plays, max_script}
use Rattle.iox_streams.specs.Reads.{ReadsWithin}
use Rattle.iox_streams.specs.Writes.{Sends}
use Rattle.iox_run.specs.Standings.{IsAsFar, IsSent, PlaysOn, Finishes}
use Rattle.iox_run.proofs.RunFaults.{ended_answered}

-- A script was taken from the reader, which may give so many bytes more, and all its answers so far went to the writer.
pub record Running (reader reader' writer writer' : Option (List ℕ)) (room : ℕ) (player : Player) : Type 0 where
  pub script : List ℕ
  pub sent : List ℕ
  pub came : Consumes reader reader' script
  pub went : Appends writer writer' sent
  pub stands : IsAsFar script sent player
  pub none : IsSent player
  pub within : length script + room ≡ max_script

pub Running-new : (reader writer : Option (List ℕ)) (player : Player) → IsAsFar [] [] player → IsSent player
    → Running reader reader writer writer max_script player
Running-new reader writer player stands none = record {
  script = [];
  sent = [];
  came = Consumes-nil reader;
  went = Appends-nil writer;
  stands = stands;
  none = none;
  within = omega arith;
}

-- a script has no more lines than bytes
pub length-ended_lines : (script : List ℕ) → length (ended_lines script) ≤ length script
length-ended_lines script =
    omega (arith, length-take (length (pieces_of script) - 1) (pieces_of script), length-slice_split is_line_feed script, count_by-le-length is_line_feed script)

-- so they can be counted
pub count_fits : (reader reader' writer writer' : Option (List ℕ)) (room n : ℕ) (player : Player)
    → Running reader reader' writer writer' room player → n ≤ room + 1 → player.count + n < 2 ^ 64
count_fits reader reader' writer writer' room n player running less =
    omega (arith, running.within, running.stands.count, length-ended_lines running.script, less)

-- more bytes came, and were played
pub Running-played : (reader reader' reader'' writer writer' writer'' : Option (List ℕ)) (room room' : ℕ) (bytes : List ℕ) (a b : Player)
    → Running reader reader' writer writer' room a
    → Consumes reader' reader'' bytes → Sends writer' writer'' (PlaysOn bytes a b (Ok tt))
    → length bytes + room' ≡ room → Running reader reader'' writer writer'' room' b
Running-played reader reader' reader'' writer writer' writer'' room room' bytes a b running came sends rest = record {
  script = running.script ++ bytes;
  sent = running.sent ++ sends.0;
  came = Consumes-trans reader reader' reader'' running.script bytes running.came came;
  went = Appends-trans writer writer' writer'' running.sent sends.0 running.went sends.1;
  stands = sends.2.0 running.script running.sent running.stands;
  none = sends.2.1;
  within = omega (arith, running.within, rest, length-append running.script bytes);
}

-- a fault stopped that
pub Plays-stopped : (reader reader' reader'' writer writer' writer'' : Option (List ℕ)) (room : ℕ) (bytes : List ℕ) (a b : Player) (fault : Fault)
    → Running reader reader' writer writer' room a → Consumes reader' reader'' bytes
    → Sends writer' writer'' (PlaysOn bytes a b (Err fault))
    → Plays {E = Unit {0}} reader reader'' writer writer'' (Err fault)
Plays-stopped reader reader' reader'' writer writer' writer'' room bytes a b fault running came sends = (
  running.script ++ bytes,
  running.sent ++ sends.0,
  Consumes-trans reader reader' reader'' running.script bytes running.came came,
  Appends-trans writer writer' writer'' running.sent sends.0 running.went sends.1,
  inl (sends.2 running.script running.sent running.stands),
)

-- a read failed, or gave a byte too many
pub Plays-cut : (reader reader' reader'' writer writer' : Option (List ℕ)) (room : ℕ) (player : Player) (fault : Fault) (chunk : List ℕ)
    → Running reader reader' writer writer' room player → ReadsWithin room reader' reader'' (Err fault) chunk
    → Plays {E = Unit {0}} reader reader'' writer writer' (Err fault)
Plays-cut reader reader' reader'' writer writer' room player fault chunk running fails =
    let more = fails.1.0 in
    let front : take max_script (running.script ++ more) ≡ running.script =
    ap (λ n. take n (running.script ++ more)) (sym running.within) ∙ take-append-add running.script more room
    ∙ ap (λ t. running.script ++ t) fails.1.2 ∙ append-nil running.script in
    let sent : running.sent ++ player.answers.items ≡ running.sent =
    ap (λ t. running.sent ++ t) running.none ∙ append-nil running.sent in
    let all : IsTextOfLines (ended_lines running.script) running.sent =
    subst (IsTextOfLines (ended_lines running.script)) sent (ended_answered running.script running.sent player running.stands) in (
      running.script ++ more,
      running.sent,
      Consumes-trans reader reader' reader'' running.script more running.came fails.1.1,
      running.went,
      inl (subst (λ f. Stops f (running.script ++ more) running.sent) (sym fails.0) (subst (λ s. IsTextOfLines (ended_lines s) running.sent) (sym front) all)),
    )

-- the script ended
pub Plays-finished : (reader reader' reader'' writer writer' writer'' : Option (List ℕ)) (room : ℕ) (player : Player) (result : Result (Unit {0}) Fault)
    → Running reader reader' writer writer' room player → Consumes reader' reader'' [] → IsAtEnd reader''
    → Sends writer' writer'' (Finishes player result) → Plays reader reader'' writer writer'' result
Plays-finished reader reader' reader'' writer writer' writer'' room player result running came end sends = (
  running.script,
  running.sent ++ sends.0,
  subst (Consumes reader reader'') (append-nil running.script) (Consumes-trans reader reader' reader'' running.script [] running.came came),
  Appends-trans writer writer' writer'' running.sent sends.0 running.went sends.1,
  sends.2 running.script running.sent running.stands running.none (omega (arith, running.within)) reader'' end,
)

-- there was no memory to begin with
pub Plays-nothing : (reader writer : Option (List ℕ))
    → Plays {E = Unit {0}} reader reader writer writer (Err WantOfMemory)
Plays-nothing reader writer = ([], [], Consumes-nil reader, Appends-nil writer, inl (0, ([], new_session, refl, refl)))
