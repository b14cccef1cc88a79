-- What a play of an input has printed at each moment, and at its end.
-- Assumes nothing.
use Rattle.std.specs.Prelude.{◌≡◌, refl, Option, None, Some, Bool, true, false, cond, not, ◌&&◌, ◌||◌, List, [], ◌++◌, ℕ, zero, suc, ◌-◌}
use Rattle.std.specs.Prelude.{◌≤◌, ◌<◌, ltb, eqb, length, drop}
use Rattle.std.proofs.Common.{sym, ap, ◌∙◌, append_assoc, append-nil, arith, length-append, drop-drop, le-ltb, eqb-true, ltb-false}
use Rattle.std.proofs.Common.{true≢false}
use Rattle.std.proofs.Math.Decide.{dec_lt}
use Rattle.std.proofs.lemmas.List.{drop-append-le}
use Rattle.std.proofs.lemmas.Bool.{eqb-false}
use Rattle.answer.specs.declared.Answer.{Answer}
use Rattle.answer.specs.declared.Answer.TheVariants.{Good, No}
use Rattle.answer.specs.Answer.{number, ◌and_then◌, if_good}
use Rattle.answer.specs.Answer.Properties.{and_then_left}
use Rattle.plan_bytes.specs.declared.Reading.{Reading}
use Rattle.codec.specs.Bytes.Properties.{number_append}
use Rattle.plan_bytes.specs.Reading.{read_of}
use Rattle.rack.specs.declared.State.{State}
use Rattle.rack.specs.Start.{start_of}
use Rattle.commands.specs.declared.command.Command.{Command}
use Rattle.player.specs.declared.session.Session.{Session}
use Rattle.player.specs.declared.session.Session.TheVariants.{Opening, Running, Over}
use Rattle.lines.specs.Line.{plan_line, bad_line, end_line, line_room}
use Rattle.commands.specs.Command.{command_fields, command_of}
use Rattle.commands.specs.Command.Properties.{command_short}
use Rattle.player.specs.Turn.{line_of, after}
use Rattle.player.specs.Played.{onward, turns, opening, played}
use Rattle.player.specs.Played.Properties.{turns_end, turns_command}
use Rattle.player.specs.Played.Front.{read_more}
use Rattle.player.specs.Session.{is_over, remaining, Move, stay, first_line, open_of, command_move, last_line, run_of, step_of, onto}
use Rattle.player.specs.Session.{lines_of, play_of}
use Rattle.player.specs.Session.Properties.{read_whole, play_idle, idle_over}
use Rattle.player.specs.Stream.{Reached, starts, reads, plays}

-- ---- one line: what it prints, and what is still to be printed after it

-- what is still to be printed, after a move from some of the bytes
abbrev whole : Move → List ℕ → List ℕ → List ℕ
whole m bytes rest = m.text ++ remaining m.session (drop m.taken bytes ++ rest)

-- the first line
first_whole : (bytes rest : List ℕ) → read_of (bytes ++ rest) ≡ read_of bytes
    → played (bytes ++ rest) ≡ whole (first_line (opening bytes) (start_of (read_of bytes).plan).state (read_of bytes).taken) bytes rest
unfolding played opening remaining
first_whole bytes rest e =
    let r = read_of bytes in
    let a = r.answer and_then (start_of r.plan).answer in
    ap (λ (q : Reading). plan_line (q.answer and_then (start_of q.plan).answer) ++ if_good (q.answer and_then (start_of q.plan).answer)
    (turns (start_of q.plan).state (drop q.taken (bytes ++ rest))) []) e
    ∙ go a refl
  where
    go : (a : Answer) → ((read_of bytes).answer and_then (start_of (read_of bytes).plan).answer) ≡ a
        → plan_line a ++ if_good a (turns (start_of (read_of bytes).plan).state (drop (read_of bytes).taken (bytes ++ rest))) []
        ≡ whole (first_line a (start_of (read_of bytes).plan).state (read_of bytes).taken) bytes rest
    go Good q =
        ap (λ (u : List ℕ). plan_line Good ++ turns (start_of (read_of bytes).plan).state u)
        (drop-append-le (read_of bytes).taken bytes rest
        (read_whole bytes (and_then_left (read_of bytes).answer (start_of (read_of bytes).plan).answer q)))
    go (No w) q = refl

-- the first line, or none yet
open_whole : (last : Bool) (bytes rest : List ℕ) → (last ≡ true → rest ≡ []) →
    played (bytes ++ rest) ≡ whole (open_of last bytes) bytes rest
unfolding open_of remaining
open_whole last bytes rest h = go (not last && eqb (number (read_of bytes).answer) 1) refl
  where
    same : (l : Bool) → last ≡ l → (not l && eqb (number (read_of bytes).answer) 1) ≡ false → read_of (bytes ++ rest) ≡ read_of bytes
    same true l e = ap (λ (u : List ℕ). read_of (bytes ++ u)) (h l) ∙ ap read_of (append-nil bytes)
    same false l e = read_more bytes rest (eqb-false (number (read_of bytes).answer) 1 e)

    go : (b : Bool) → (not last && eqb (number (read_of bytes).answer) 1) ≡ b
        → played (bytes ++ rest) ≡ whole (cond b (stay Opening)
        (first_line (opening bytes) (start_of (read_of bytes).plan).state (read_of bytes).taken)) bytes rest
    go true e = refl
    go false e = first_whole bytes rest (same last refl e)

-- a command, whatever follows its three bytes
command_more : (bytes rest : List ℕ) → 3 ≤ length bytes → command_of (bytes ++ rest) ≡ command_of bytes
unfolding command_of command_fields
command_more bytes rest l =
    rw (
      le-ltb (length (bytes ++ rest)) 3 (omega (arith, length-append bytes rest)),
      le-ltb (length bytes) 3 l,
      number_append 3 bytes rest l,
    )

command_whole : (s : State) (bytes rest : List ℕ) → 0 < length bytes → command_of (bytes ++ rest) ≡ command_of bytes
    → turns s (bytes ++ rest) ≡ whole (command_move s (command_of bytes)) bytes rest
unfolding command_move remaining line_of
command_whole s bytes rest l e =
    turns_command s (bytes ++ rest) (omega (arith, length-append bytes rest))
    ∙ ap (λ (k : Option Command). line_of s k ++ onward k (turns (after s k) (drop 3 (bytes ++ rest))) (end_line s.slice)) e
    ∙ go (command_of bytes) refl
  where
    three : (k : Option Command) → command_of bytes ≡ k → (k ≡ None → ⊥) → drop 3 (bytes ++ rest) ≡ drop 3 bytes ++ rest
    three k q n =
        elim (dec_lt (length bytes) 3) [
          | yes t ↦ absurd (n (sym q ∙ sym (command_short bytes t)))
          | no t ↦ drop-append-le 3 bytes rest
              (omega arith)
        ]

    go : (k : Option Command) → command_of bytes ≡ k
        → line_of s k ++ onward k (turns (after s k) (drop 3 (bytes ++ rest))) (end_line s.slice) ≡ whole (command_move s k) bytes rest
    go (Some k) q = ap (λ (u : List ℕ). line_of s (Some k) ++ turns (after s (Some k)) u) (three (Some k) q (λ z. cc))
    go None q = sym (append-nil (bad_line ++ end_line s.slice))

-- a command's line, the last line, or none yet
run_whole : (s : State) (last : Bool) (bytes rest : List ℕ) → (last ≡ true → rest ≡ [])
    → turns s (bytes ++ rest) ≡ whole (run_of s last bytes) bytes rest
unfolding run_of remaining
run_whole s true bytes rest h = go (eqb (length bytes) 0) refl
  where
    nothing : bytes ++ rest ≡ bytes
    nothing = ap (λ (u : List ℕ). bytes ++ u) (h refl) ∙ append-nil bytes

    go : (b : Bool) → eqb (length bytes) 0 ≡ b
        → turns s (bytes ++ rest) ≡ whole (cond b (last_line s) (command_move s (command_of bytes))) bytes rest
    go true e = ap (turns s) nothing ∙ turns_end s bytes (eqb-true (length bytes) 0 e) ∙ sym (append-nil (end_line s.slice))
    go false e = command_whole s bytes rest (let n = eqb-false (length bytes) 0 e in omega arith) (ap command_of nothing)
run_whole s false bytes rest h = go (ltb (length bytes) 3) refl
  where
    go : (b : Bool) → ltb (length bytes) 3 ≡ b
        → turns s (bytes ++ rest) ≡ whole (cond b (stay (Running s)) (command_move s (command_of bytes))) bytes rest
    go true e = refl
    go false e = let l = ltb-false (length bytes) 3 e in command_whole s bytes rest (omega arith) (command_more bytes rest l)

step_whole : (x : Session) (last : Bool) (bytes rest : List ℕ) → (last ≡ true → rest ≡ [])
    → remaining x (bytes ++ rest) ≡ whole (step_of x last bytes) bytes rest
unfolding step_of remaining
step_whole Opening last bytes rest h = open_whole last bytes rest h
step_whole (Running s) last bytes rest h = run_whole s last bytes rest h
step_whole (Over s) last bytes rest h = refl

-- ---- as many lines as fit

lines_whole : (n : ℕ) (x : Session) (last : Bool) (bytes rest : List ℕ) (room : ℕ) → (last ≡ true → rest ≡ [])
    → remaining x (bytes ++ rest) ≡ whole (lines_of n x last bytes room) bytes rest
unfolding lines_of
lines_whole zero x last bytes rest room h = refl
lines_whole (suc n) x last bytes rest room h =
    go (ltb room line_room || eqb (length (step_of x last bytes).text) 0)
    (lines_whole n (step_of x last bytes).session last (drop (step_of x last bytes).taken bytes) rest
    (room - length (step_of x last bytes).text) h)
  where
    m : Move
    m = step_of x last bytes

    k : Move
    k = lines_of n m.session last (drop m.taken bytes) (room - length m.text)

    go : (b : Bool) → remaining m.session (drop m.taken bytes ++ rest) ≡ whole k (drop m.taken bytes) rest
        → remaining x (bytes ++ rest) ≡ whole (cond b (stay x) (onto m.taken m.text k)) bytes rest
    go true i = refl
    go false i =
        step_whole x last bytes rest h ∙ ap (λ (u : List ℕ). m.text ++ u) i
        ∙ sym (append_assoc m.text k.text (remaining k.session (drop k.taken (drop m.taken bytes) ++ rest)))
        ∙ ap (λ (u : List ℕ). m.text ++ k.text ++ remaining k.session (u ++ rest)) (drop-drop k.taken m.taken bytes)

play_whole : (x : Session) (last : Bool) (bytes rest : List ℕ) (room : ℕ) → (last ≡ true → rest ≡ [])
    → remaining x (bytes ++ rest) ≡ whole (play_of x last bytes room) bytes rest
unfolding play_of
play_whole x last bytes rest room h = lines_whole room x last bytes rest room h

-- ---- however the input comes, and whatever room there is

-- at each moment: what is printed, and what is still to be printed, is the whole
pub reached_whole : {input printed held coming : List ℕ} {x : Session} → Reached input printed x held coming
    → played input ≡ printed ++ remaining x (held ++ coming)
unfolding remaining
reached_whole starts = refl
reached_whole (reads {printed} {held} {x} bytes coming r) =
    reached_whole r ∙ ap (λ (u : List ℕ). printed ++ remaining x u) (sym (append_assoc held bytes coming))
reached_whole (plays {printed} {held} {coming} {x} last room e r) =
    let m = play_of x last held room in
    reached_whole r ∙ ap (λ (u : List ℕ). printed ++ u) (play_whole x last held coming room e)
    ∙ sym (append_assoc printed m.text (remaining m.session (drop m.taken held ++ coming)))

-- over, nothing is left
over_none : (x : Session) (input : List ℕ) → is_over x ≡ true → remaining x input ≡ []
unfolding remaining
over_none Opening input o = absurd (true≢false (sym o))
over_none (Running s) input o = absurd (true≢false (sym o))
over_none (Over s) input o = refl

-- at the end: what is printed is the whole
pub reached_end : {input printed held coming : List ℕ} {x : Session} → Reached input printed x held coming → is_over x ≡ true
    → printed ≡ played input
reached_end {input} {printed} {held} {coming} {x} r o =
    sym (append-nil printed) ∙ ap (λ (u : List ℕ). printed ++ u) (sym (over_none x (held ++ coming) o)) ∙ sym (reached_whole r)

-- after the end of the input, a play with room goes on until it is over
pub reached_over : (x : Session) (held : List ℕ) (room : ℕ) → line_room ≤ room → length (play_of x true held room).text ≡ 0 →
    is_over x ≡ true
reached_over x held room r e = idle_over x held (play_idle x true held room r e)
