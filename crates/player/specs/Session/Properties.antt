-- Laws of a play line by line: each way out, over what the code has in hand there, and the steps of the loop.
-- Assumes nothing.
use Rattle.std.specs.Prelude.{◌≡◌, refl, Option, None, Some, Bool, true, false, cond, not, ◌&&◌, ◌||◌, ltb, eqb, take, drop, replicate}
use Rattle.std.proofs.Math.Path.{sym, ap}
use Rattle.std.proofs.Common.{ap₂, ◌∙◌, true≢false, length-append, length-drop, take-append-drop, take_at, drop_at, drop-drop}
use Rattle.std.proofs.Common.{length-take-le}
use mathlib.Core.List.{List, [], ◌++◌, append_assoc, append-nil}
use Prim.Native.Nat.{ℕ, zero, suc, ◌+◌, ◌-◌, ◌≤◌, ◌<◌}
use Rattle.std.proofs.Math.Decide.{dec_lt}
use native.Mathlib.Omega.{arith}
use Rattle.std.proofs.Math.ListN.{length}
use Rattle.std.proofs.lemmas.List.Edits.{sets-eq}
use Rattle.std.proofs.Math.Seq.{length-sets}
use borrow.Author.Tests.{lt-ltb, le-ltb, eq-eqb, ne_eqb, eqb-true, not-true}
use Rattle.laws.specs.Tests.{and_left, and_right}
use Rattle.answer.specs.declared.Answer.{Answer}
use Rattle.answer.specs.declared.Answer.TheVariants.{Good, No}
use Rattle.answer.specs.declared.Refusal.{Refusal}
use Rattle.answer.specs.Answer.{number, ◌and_then◌}
use Rattle.answer.specs.Answer.Properties.{and_then_good, and_then_no, and_then_left}
use Rattle.plan_bytes.specs.declared.Reading.{Reading}
use Rattle.plan_bytes.specs.Reading.{read_of}
use Rattle.codec.specs.Places.Properties.{handed_on}
use Rattle.plan_bytes.specs.RoundTrip.Writes.{read_good}
use Rattle.rack.specs.declared.State.{State}
use Rattle.rack.specs.declared.Next.{Next}
use Rattle.rack.specs.State.{no_state}
use Rattle.rack.specs.Start.{start_of}
use Rattle.rack.specs.Show.{show_answer, Shows}
use Rattle.rack.specs.Advance.{advance_of}
use Rattle.rack.specs.Release.{release_of}
use Rattle.rack.specs.Row.{row_byte}
use Rattle.lines.specs.declared.line.Line.{Line}
use Rattle.lines.specs.declared.line.Line.TheVariants as line
use Rattle.commands.specs.declared.command.Command.{Command}
use Rattle.commands.specs.declared.command.Command.TheVariants.{Slice, Release}
use Rattle.player.specs.declared.session.Session.{Session}
use Rattle.player.specs.declared.session.Session.TheVariants.{Opening, Running, Over}
use Rattle.player.specs.declared.session.Progress.{Progress}
use Rattle.lines.specs.Text.{Puts}
use Rattle.lines.specs.Line.{plan_line, release_line, slice_line, end_line, line_text, line_room, Prints}
use Rattle.lines.specs.Line.Properties.{prints_all}
use Rattle.commands.specs.Command.{command_of}
use Rattle.commands.specs.Command.Properties.{command_short}
use Rattle.player.specs.Turn.{row_room, line_of, after}
use Rattle.player.specs.Turn.Properties.{slice_told, release_told}
use Rattle.player.specs.Played.{opening}
use Rattle.player.specs.Played.Front.{one_short}
use Rattle.player.specs.Session.{is_over, Move, stay, first_line, refused_at, open_of, command_move}
use Rattle.player.specs.Session.{last_line, run_of, step_of, onto, lines_of, play_of, Plays, Leaves, run_from}

-- ---- the next line, by what the code has in hand

first_no : (a : Answer) (w : Refusal) (s : State) (n : ℕ) → a ≡ No w → first_line a s n ≡ refused_at a
first_no a w s n e = rw e

-- the first line
module _ (last : Bool) (bytes : List ℕ) (r : Reading) (b : Bool) (reading-is : r ≡ read_of bytes)
    (waits-is : b ≡ (not last && eqb (number r.answer) 1)) where
  open_waits : b ≡ true → open_of last bytes ≡ stay Opening
  unfolding open_of
  open_waits t = rw (← reading-is, ← waits-is, t)

  opens : b ≡ false → open_of last bytes ≡ first_line (r.answer and_then (start_of r.plan).answer) (start_of r.plan).state r.taken
  unfolding open_of opening
  opens t = rw (← reading-is, ← waits-is, t)

  open_refused : (w : Refusal) → b ≡ false → r.answer ≡ No w → open_of last bytes ≡ refused_at r.answer
  open_refused w t e =
      let a : (r.answer and_then (start_of r.plan).answer) ≡ r.answer = and_then_no r.answer (start_of r.plan).answer w e ∙ sym e in
      rw (opens t, a) (first_no r.answer w (start_of r.plan).state r.taken e)

  module _ (n : Next) (start_is : n ≡ start_of r.plan) (t : b ≡ false) (e : r.answer ≡ Good) where
    starts : open_of last bytes ≡ first_line n.answer n.state r.taken
    starts = rw (opens t, and_then_good r.answer (start_of r.plan).answer e, ← start_is)

    open_no : (w : Refusal) → n.answer ≡ No w → open_of last bytes ≡ refused_at n.answer
    open_no w q = starts ∙ first_no n.answer w n.state r.taken q

    open_good : n.answer ≡ Good
        → open_of last bytes ≡ record { session = Running n.state; taken = r.taken; text = plan_line n.answer }
    open_good q = starts ∙ rw q

-- neither the last line nor a wait
commanded : (last none few : Bool) (a b m : Move) → (last && none) ≡ false → (not last && few) ≡ false →
    cond last (cond none a m) (cond few b m) ≡ m
commanded true none few a b m e f = rw e
commanded false none few a b m e f = rw f

-- among the commands
module _ (s : State) (last : Bool) (bytes : List ℕ) where
  run_ends : (ends : Bool) → ends ≡ (last && eqb (length bytes) 0) → ends ≡ true → step_of (Running s) last bytes ≡ last_line s
  unfolding step_of run_of
  run_ends ends e t = rw (and_left last (eqb (length bytes) 0) (sym e ∙ t), and_right last (eqb (length bytes) 0) (sym e ∙ t))

  run_waits : (short : Bool) → short ≡ (not last && ltb (length bytes) 3) → short ≡ true → step_of (Running s) last bytes ≡ stay (Running s)
  unfolding step_of run_of
  run_waits short e t =
      let f = not-true last (and_left (not last) (ltb (length bytes) 3) (sym e ∙ t)) in
      rw (f, and_right (not last) (ltb (length bytes) 3) (sym e ∙ t))

  run_obeys : (ends : Bool) → ends ≡ (last && eqb (length bytes) 0) → (short : Bool) → short ≡ (not last && ltb (length bytes) 3)
      → ends ≡ false → short ≡ false → step_of (Running s) last bytes ≡ command_move s (command_of bytes)
  unfolding step_of run_of
  run_obeys ends e short f t u =
      commanded last (eqb (length bytes) 0) (ltb (length bytes) 3) (last_line s) (stay (Running s)) (command_move s (command_of bytes))
      (sym e ∙ t) (sym f ∙ u)

-- ---- a line takes no more than is there

pub read_whole : (s : List ℕ) → (read_of s).answer ≡ Good → (read_of s).taken ≤ length s
unfolding read_of
read_whole s e = rw e (read_good s e).long

first_most : (bytes : List ℕ) (a : Answer) (s : State) → opening bytes ≡ a → (first_line a s (read_of bytes).taken).taken ≤ length bytes
unfolding opening
first_most bytes Good s e = read_whole bytes (and_then_left (read_of bytes).answer (start_of (read_of bytes).plan).answer e)
first_most bytes (No w) s e = omega arith

command_most : (s : State) (k : Option Command) → (command_move s k).taken ≤ 3
unfolding command_move
command_most s (Some k) = omega arith
command_most s None = omega arith

obey_most : (s : State) (bytes : List ℕ) → (command_move s (command_of bytes)).taken ≤ length bytes
unfolding command_move
obey_most s bytes =
    elim (dec_lt (length bytes) 3) [
      | yes l ↦ rw (← command_short bytes l) (omega arith)
      | no l ↦ omega (arith, command_most s (command_of bytes))
    ]

open_most : (last : Bool) (bytes : List ℕ) → (open_of last bytes).taken ≤ length bytes
unfolding open_of
open_most last bytes = go (not last && eqb (number (read_of bytes).answer) 1)
  where
    go : (b : Bool) → (cond b (stay Opening) (first_line (opening bytes) (start_of (read_of bytes).plan).state
        (read_of bytes).taken)).taken ≤ length bytes
    go true = omega arith
    go false = first_most bytes (opening bytes) (start_of (read_of bytes).plan).state refl

run_most : (s : State) (last : Bool) (bytes : List ℕ) → (run_of s last bytes).taken ≤ length bytes
unfolding run_of
run_most s true bytes = go (eqb (length bytes) 0)
  where
    go : (b : Bool) → (cond b (last_line s) (command_move s (command_of bytes))).taken ≤ length bytes
    go true = omega arith
    go false = obey_most s bytes
run_most s false bytes = go (ltb (length bytes) 3)
  where
    go : (b : Bool) → (cond b (stay (Running s)) (command_move s (command_of bytes))).taken ≤ length bytes
    go true = omega arith
    go false = obey_most s bytes

step_most : (x : Session) (last : Bool) (bytes : List ℕ) → (step_of x last bytes).taken ≤ length bytes
unfolding step_of
step_most Opening last bytes = open_most last bytes
step_most (Running s) last bytes = run_most s last bytes
step_most (Over s) last bytes = omega arith

-- ---- no line is empty

plan_some : (a : Answer) → 0 < length (plan_line a)
unfolding plan_line
plan_some Good = omega arith
plan_some (No w) = omega arith

line_some : (s : State) (k : Option Command) → 0 < length (command_move s k).text
unfolding command_move line_of release_line slice_line
line_some s (Some Slice) = go (show_answer s row_room)
  where
    go : (a : Answer) → 0 < length (slice_line a s.slice s.plan.cards (row_byte s))
    go Good = omega arith
    go (No w) = omega arith
line_some s (Some (Release kind e)) = omega arith
line_some s None = omega arith

end_some : (clock : ℕ) → 0 < length (end_line clock)
unfolding end_line
end_some clock = omega arith

-- ---- lines one behind the other

onto_none : (m : Move) → m ≡ onto 0 [] m
onto_none m = let e : m.taken ≡ 0 + m.taken = omega arith in λ i. record { session = m.session; taken = e i; text = m.text }

onto_onto : (n k : ℕ) (xs ys : List ℕ) (m : Move) → onto n xs (onto k ys m) ≡ onto (n + k) (xs ++ ys) m
onto_onto n k xs ys m =
    let e : n + (k + m.taken) ≡ n + k + m.taken = omega arith in
    λ i. record { session = m.session; taken = e i; text = sym (append_assoc xs ys m.text) i }

-- where the lines stop
lines_none : (n : ℕ) (x : Session) (last : Bool) (bytes : List ℕ) (room : ℕ) → n ≤ 0 → lines_of n x last bytes room ≡ stay x
unfolding lines_of
lines_none zero x last bytes room l = refl
lines_none (suc n) x last bytes room l = absurd (omega arith)

lines_full : (n : ℕ) (x : Session) (last : Bool) (bytes : List ℕ) (room : ℕ) → room < line_room → lines_of n x last bytes room ≡ stay x
unfolding lines_of
lines_full zero x last bytes room l = refl
lines_full (suc n) x last bytes room l = rw (lt-ltb room line_room l)

lines_idle : (n : ℕ) (x : Session) (last : Bool) (bytes : List ℕ) (room : ℕ) → line_room ≤ room → length (step_of x last bytes).text ≡ 0
    → lines_of n x last bytes room ≡ stay x
unfolding lines_of
lines_idle zero x last bytes room l e = refl
lines_idle (suc n) x last bytes room l e = rw (le-ltb room line_room l, eq-eqb (length (step_of x last bytes).text) 0 e)

-- where they go on
lines_on : (n : ℕ) (x : Session) (last : Bool) (bytes : List ℕ) (room : ℕ) → 0 < n → line_room ≤ room
    → 0 < length (step_of x last bytes).text
    → lines_of n x last bytes room
    ≡ onto (step_of x last bytes).taken (step_of x last bytes).text
    (lines_of (n - 1) (step_of x last bytes).session last (drop (step_of x last bytes).taken bytes)
    (room - length (step_of x last bytes).text))
unfolding lines_of
lines_on zero x last bytes room l r t = absurd (omega arith)
lines_on (suc n) x last bytes room l r t =
    let e : suc n - 1 ≡ n = omega arith in
    rw (le-ltb room line_room r, ne_eqb (length (step_of x last bytes).text) 0 (omega arith), e)

-- what has no next line prints nothing, whatever room there is
lines_stay : (n : ℕ) (x : Session) (last : Bool) (bytes : List ℕ) (room : ℕ) → length (step_of x last bytes).text ≡ 0
    → lines_of n x last bytes room ≡ stay x
lines_stay n x last bytes room e =
    elim (dec_lt room line_room) [
      | yes l ↦ lines_full n x last bytes room l
      | no l ↦ lines_idle n x last bytes room (omega arith) e
    ]

lines_over : (n : ℕ) (s : State) (last : Bool) (bytes : List ℕ) (room : ℕ) → lines_of n (Over s) last bytes room ≡ stay (Over s)
unfolding step_of
lines_over n s last bytes room =
    lines_stay n (Over s) last bytes room refl

-- ---- the loop: what has been printed stands at the front, and what is left is still to be played

pub record Playing (all : Move) (last : Bool) (bytes start : List ℕ) (session : Session) (taken count lines : ℕ)
    (out : List ℕ) : Type 0 where
  pub whole : all ≡ onto taken (take count out) (lines_of lines session last (drop taken bytes) (length start - count))
  pub long : length out ≡ length start
  pub count_most : count ≤ length start
  pub taken_most : taken ≤ length bytes
  pub kept : drop count out ≡ drop count start

play_starts : (x : Session) (last : Bool) (bytes start : List ℕ)
    → Playing (play_of x last bytes (length start)) last bytes start x 0 0 (length start) start
unfolding play_of
play_starts x last bytes start =
    let e : length start - 0 ≡ length start = omega arith in
    record {
      whole = rw e (onto_none (lines_of (length start) x last bytes (length start)));
      long = refl;
      count_most = omega arith;
      taken_most = omega arith;
      kept = refl;
    }

pub run_starts : (s : State) (last : Bool) (bytes out : List ℕ) (taken count lines : ℕ) → taken ≤ length bytes → count ≤ length out
    → Playing (run_from s last bytes taken out count lines) last bytes out (Running s) taken count lines out
run_starts s last bytes out taken count lines l m = record { whole = refl; long = refl; count_most = m; taken_most = l; kept = refl }

module _ (all : Move) (last : Bool) (bytes start : List ℕ) (session : Session) (taken count lines : ℕ) (out : List ℕ)
    (p : Playing all last bytes start session taken count lines out) where
  -- the lines stop: the outcome
  stopped : lines_of lines session last (drop taken bytes) (length start - count) ≡ stay session
      → Leaves all start (record { session = session; taken = taken; count = count }) out
  stopped e =
      let m : all ≡ onto taken (take count out) (stay session) = p.whole ∙ ap (onto taken (take count out)) e in
      let t : all.text ≡ take count out = ap (λ (k : Move). k.text) m ∙ append-nil (take count out) in
      let n : length (take count out) ≡ count = length-take-le count out (omega (arith, p.long, p.count_most)) in
      let k : length all.text ≡ count = ap length t ∙ n in
      let z : taken ≡ taken + 0 = omega arith in
      record {
        result =
            λ i. record {
              session = sym (ap (λ (k : Move). k.session) m) i;
              taken = (z ∙ sym (ap (λ (k : Move). k.taken) m)) i;
              count = sym k i;
            };
        buffer = sym (take-append-drop count out) ∙ ap₂ ◌++◌ (sym t) (p.kept ∙ ap (λ (j : ℕ). drop j start) (sym k));
        room = p.count_most;
      }

  -- a line
  module _ (x : Session) (k : ℕ) (l : Line) (row : List ℕ) (next : ℕ) (held : List ℕ) (room : line_room ≤ length out - count)
      (prints : Prints l row out count next held)
      (step_is : step_of session last (drop taken bytes) ≡ record { session = x; taken = k; text = line_text l row })
      (some : 0 < length (line_text l row)) (more : 0 < lines) where
    put : Puts out count (line_text l row) next held
    put = prints_all l row out count next held (omega arith) prints

    goes_on : Playing all last bytes start x (taken + k) next (lines - 1) held
    goes_on =
        let text : List ℕ = line_text l row in
        let long = p.long in
        let most = p.count_most in
        let ended = put.end in
        let close = prints.room in
        let fits : count + length text ≤ length out = omega arith in
        let stored : held ≡ take count out ++ text ++ drop (count + length text) out = put.buffer ∙ sets-eq text out count fits in
        let front : length (take count out ++ text) ≡ next =
        length-append (take count out) text ∙ omega (arith, length-take-le count out (omega arith)) in
        let printed : take next held ≡ take count out ++ text =
        ap (take next) stored ∙ take_at (take count out ++ text) (drop (count + length text) out) next front in
        let left : length start - count - length text ≡ length start - next = omega arith in
        let on : lines_of lines session last (drop taken bytes) (length start - count)
        ≡ onto k text (lines_of (lines - 1) x last (drop k (drop taken bytes)) (length start - count - length text)) =
        rw step_is at (lines_on lines session last (drop taken bytes) (length start - count) more (omega arith)) some in
        record {
          whole =
              p.whole ∙ ap (onto taken (take count out)) on
              ∙ onto_onto taken k (take count out) text
              (lines_of (lines - 1) x last (drop k (drop taken bytes)) (length start - count - length text))
              ∙ rw (printed, ← left, drop-drop k taken bytes);
          long = ap length put.buffer ∙ length-sets out count text ∙ long;
          count_most = omega arith;
          taken_most =
              omega (
                arith,
                ap (λ (m : Move). m.taken) step_is,
                step_most session last (drop taken bytes),
                length-drop taken bytes,
                p.taken_most,
              );
          kept =
              ap (drop next) stored ∙ drop_at (take count out ++ text) (drop (count + length text) out) next front
              ∙ sym (drop-drop (length text) count out) ∙ ap (drop (length text)) p.kept
              ∙ drop-drop (length text) count start ∙ ap (λ (j : ℕ). drop j start) (sym ended);
        }

-- a move's outcome, once it is known which move it is
leaves_is : (m : Move) (out : List ℕ) (q r : Progress) (held : List ℕ) → Leaves m out q held → r ≡ q → Leaves m out r held
leaves_is m out q r held l e = record { result = e ∙ l.result; buffer = l.buffer; room = rw e l.room }

-- the commands' lines, behind those that have been printed
runs_behind : (all : Move) (last : Bool) (bytes start : List ℕ) (s : State) (taken count lines : ℕ) (out : List ℕ)
    → Playing all last bytes start (Running s) taken count lines out → (r : Progress) (held : List ℕ)
    → Leaves (onto taken (take count out) (lines_of lines (Running s) last (drop taken bytes) (length start - count))) out r held
    → Leaves all start r held
runs_behind all last bytes start s taken count lines out p r held l =
    let rest : List ℕ = (lines_of lines (Running s) last (drop taken bytes) (length start - count)).text in
    let long = p.long in
    let most = p.count_most in
    let size : length (take count out ++ rest) ≡ count + length rest =
    length-append (take count out) rest ∙ omega (arith, length-take-le count out (omega arith)) in
    let past : drop (length (take count out ++ rest)) out ≡ drop (length (take count out ++ rest)) start =
    rw size (sym (drop-drop (length rest) count out) ∙ ap (drop (length rest)) p.kept ∙ drop-drop (length rest) count start) in
    rw p.whole (record {
      result = l.result;
      buffer = l.buffer ∙ ap (◌++◌ (take count out ++ rest)) past;
      room = omega (arith, l.room);
    })

-- the loop over the commands: each way out, and each way on
module _ (all : Move) (last : Bool) (bytes start : List ℕ) (s : State) (taken count lines : ℕ) (out : List ℕ)
    (p : Playing all last bytes start (Running s) taken count lines out) where
  module _ (r : Progress) (r-is : r ≡ record { session = Running s; taken = taken; count = count }) where
    stays : lines_of lines (Running s) last (drop taken bytes) (length start - count) ≡ stay (Running s) → Leaves all start r out
    stays e =
        leaves_is all start (record { session = Running s; taken = taken; count = count }) r out
        (stopped all last bytes start (Running s) taken count lines out p e) r-is

    pub run_done : lines ≤ 0 → Leaves all start r out
    run_done l = stays (lines_none lines (Running s) last (drop taken bytes) (length start - count) l)

    pub run_full : length out - count < line_room → Leaves all start r out
    run_full l = let e = p.long in stays (lines_full lines (Running s) last (drop taken bytes) (length start - count) (omega arith))

  left_is : length (drop taken bytes) ≡ length bytes - taken
  left_is = length-drop taken bytes

  -- the last line
  module _ (l : Line) (row : List ℕ) (next : ℕ) (held : List ℕ) (room : line_room ≤ length out - count) (more : 0 < lines)
      (prints : Prints l row out count next held) where
    last_line_law : step_of (Running s) last (drop taken bytes) ≡ record { session = Over s; taken = 0; text = line_text l row }
        → 0 < length (line_text l row) → (r : Progress) → r ≡ record { session = Over s; taken = taken; count = next }
        → Leaves all start r held
    last_line_law e t r q =
        let z : taken + 0 ≡ taken = omega arith in
        let on : Playing all last bytes start (Over s) taken next (lines - 1) held =
        rw z at (goes_on all last bytes start (Running s) taken count lines out p (Over s) 0 l row next held room prints e t more) in
        leaves_is all start (record { session = Over s; taken = taken; count = next }) r held
        (stopped all last bytes start (Over s) taken next (lines - 1) held on
        (lines_over (lines - 1) s last (drop taken bytes) (length start - next))) q

    -- a command's line
    next_line : (x : State) →
        step_of (Running s) last (drop taken bytes) ≡ record { session = Running x; taken = 3; text = line_text l row }
        → 0 < length (line_text l row) → Playing all last bytes start (Running x) (taken + 3) next (lines - 1) held
    next_line x e t = goes_on all last bytes start (Running s) taken count lines out p (Running x) 3 l row next held room prints e t more

  none_left : (b : Bool) → b ≡ (last && eqb (length bytes - taken) 0) → b ≡ (last && eqb (length (drop taken bytes)) 0)
  none_left b e = rw left_is e

  few_left : (b : Bool) → b ≡ (not last && ltb (length bytes - taken) 3) → b ≡ (not last && ltb (length (drop taken bytes)) 3)
  few_left b e = rw left_is e

  pub run_ended : (ends : Bool) → ends ≡ (last && eqb (length bytes - taken) 0) → ends ≡ true → line_room ≤ length out - count → 0 < lines
      → (row : List ℕ) (next : ℕ) (held : List ℕ) → Prints (line.End s.slice) row out count next held
      → (r : Progress) → r ≡ record { session = Over s; taken = taken; count = next } → Leaves all start r held
  unfolding line_text
  run_ended ends e t room more row next held prints =
      last_line_law (line.End s.slice) row next held room more prints (run_ends s last (drop taken bytes) ends (none_left ends e) t)
      (end_some s.slice)

  pub run_waiting : (short : Bool) → short ≡ (not last && ltb (length bytes - taken) 3) → short ≡ true
      → (r : Progress) → r ≡ record { session = Running s; taken = taken; count = count } → Leaves all start r out
  run_waiting short e t r q =
      stays r q (lines_stay lines (Running s) last (drop taken bytes) (length start - count)
      (ap (λ (m : Move). length m.text) (run_waits s last (drop taken bytes) short (few_left short e) t)))

  module _ (k : Option Command) (k-is : k ≡ command_of (take (length bytes - taken) (drop taken bytes))) where
    command_is : command_of (drop taken bytes) ≡ k
    command_is = sym (rw (handed_on bytes taken) at k-is)

    whole_command : (command_move s k).taken ≡ 3 → taken + 3 ≤ length bytes
    whole_command e =
        let f : (command_move s (command_of (drop taken bytes))).taken ≡ 3 = rw command_is e in
        omega (arith, obey_most s (drop taken bytes), left_is, p.taken_most)

    pub command_fits : (d : Command) → k ≡ Some d → taken + 3 ≤ length bytes
    unfolding command_move
    command_fits d e = whole_command (rw e)

    module _ (ends short : Bool) (ends_is : ends ≡ (last && eqb (length bytes - taken) 0)) (no_end : ends ≡ false)
        (short-is : short ≡ (not last && ltb (length bytes - taken) 3)) (no-wait : short ≡ false) (room : line_room ≤ length out - count)
        (more : 0 < lines) (next : ℕ) (held : List ℕ) where
      obeys : step_of (Running s) last (drop taken bytes) ≡ command_move s k
      obeys =
          run_obeys s last (drop taken bytes) ends (none_left ends ends_is) short (few_left short short-is) no_end no-wait
          ∙ ap (command_move s) command_is

      pub run_slice : (d : Command) → k ≡ Some d → d ≡ Slice → (answer : Answer) (row : List ℕ) → Shows s (replicate 8 0) answer row
          → (n : Next) → n ≡ advance_of s → (clock : ℕ) → clock ≡ s.slice →
          Prints (line.Slice answer clock s.plan.cards) row out count next held
          → (left : ℕ) → left ≡ lines - 1 → Playing all last bytes start (Running n.state) (taken + 3) next left held
      unfolding command_move after
      run_slice d f g answer row shows n n-is clock clock_is prints left left_as =
          let t = slice_told s answer row shows in
          let e : k ≡ Some Slice = f ∙ ap Some g in
          rw left_as (next_line (line.Slice answer s.slice s.plan.cards) row next held room more (rw clock_is at prints) n.state
          (obeys ∙ ap (command_move s) e ∙ (λ i. record { session = Running (sym n-is i).state; taken = 3; text = sym t i }))
          (rw t (line_some s (Some Slice))))

      pub run_release : (d : Command) → k ≡ Some d → (kind e : ℕ) → d ≡ Release kind e → (kind_as e_as : ℕ) → kind_as ≡ kind → e_as ≡ e
          → (n : Next) → n ≡ release_of s kind_as e_as → (row : List ℕ) → Prints (line.Release kind e n.answer) row out count next held
          → (left : ℕ) → left ≡ lines - 1 → Playing all last bytes start (Running n.state) (taken + 3) next left held
      unfolding command_move after
      run_release d f kind e g kind_as e_as kind_is e_is n n-as row prints left left_as =
          let n-is : n ≡ release_of s kind e = n-as ∙ rw (kind_is, e_is) in
          let t = release_told s kind e n row n-is in
          let q : k ≡ Some (Release kind e) = f ∙ ap Some g in
          rw left_as (next_line (line.Release kind e n.answer) row next held room more prints n.state
          (obeys ∙ ap (command_move s) q ∙ (λ i. record { session = Running (sym n-is i).state; taken = 3; text = sym t i }))
          (rw t (line_some s (Some (Release kind e)))))

      pub run_bad : k ≡ None → (row : List ℕ) → Prints (line.Bad s.slice) row out count next held
          → (r : Progress) → r ≡ record { session = Over s; taken = taken; count = next } → Leaves all start r held
      unfolding command_move line_text
      run_bad e row prints =
          last_line_law (line.Bad s.slice) row next held room more prints (obeys ∙ ap (command_move s) e) (line_some s None)

-- the line of a refused plan, at the front of a buffer
pub refused_leaves : (a : Answer) (out row : List ℕ) (count : ℕ) (held : List ℕ) (z : State) → line_room ≤ length out
    → Prints (line.Plan a) row out 0 count held → z ≡ no_state
    → Leaves (refused_at a) out (record { session = Over z; taken = 0; count = count }) held
unfolding line_text
refused_leaves a out row count held z room prints e =
    let put = prints_all (line.Plan a) row out 0 count held (omega arith) prints in
    let ended = put.end in
    let close = prints.room in
    let n : count ≡ length (plan_line a) = omega arith in
    let f : 0 + length (plan_line a) ≡ length (plan_line a) = omega arith in
    record {
      result = λ i. record { session = Over (e i); taken = 0; count = n i };
      buffer = put.buffer ∙ sets-eq (plan_line a) out 0 (omega arith) ∙ rw f;
      room = omega arith;
    }

pub reading_fits : (n : Reading) (bytes : List ℕ) → n ≡ read_of bytes → n.answer ≡ Good → n.taken ≤ length bytes
reading_fits n bytes e g = rw e (read_whole bytes (rw e at g))

-- ---- playing, by the stage

module _ (x : Session) (last : Bool) (bytes out : List ℕ) (r : Progress) where
  plays_as : (m : Move) (held : List ℕ) → play_of x last bytes (length out) ≡ m → Leaves m out r held → Plays x last bytes out r held
  plays_as m held e l = rw e l

  module _ (r-is : r ≡ record { session = x; taken = 0; count = 0 }) where
    plays_none : play_of x last bytes (length out) ≡ stay x → Plays x last bytes out r out
    plays_none e = plays_as (stay x) out e (record { result = r-is; buffer = refl; room = rw r-is (omega arith) })

    pub plays_full : length out < line_room → Plays x last bytes out r out
    unfolding play_of
    plays_full l = plays_none (lines_full (length out) x last bytes (length out) l)

    stays_so : step_of x last bytes ≡ stay x → Plays x last bytes out r out
    unfolding play_of
    stays_so e = plays_none (lines_stay (length out) x last bytes (length out) (ap (λ (m : Move). length m.text) e))

    pub plays_over : (s : State) → x ≡ Over s → Plays x last bytes out r out
    unfolding step_of
    plays_over s e = stays_so (rw e)

    pub plays_waits : (n : Reading) (b : Bool) → x ≡ Opening → n ≡ read_of bytes → b ≡ (not last && eqb (number n.answer) 1)
        → b ≡ true → Plays x last bytes out r out
    unfolding step_of
    plays_waits n b o e w t = stays_so (rw o (open_waits last bytes n b e w t))

  pub plays_runs : (s : State) (held : List ℕ) → x ≡ Running s → Leaves (run_from s last bytes 0 out 0 (length out)) out r held
      → Plays x last bytes out r held
  unfolding play_of
  plays_runs s held e l =
      let z : length out - 0 ≡ length out = omega arith in
      plays_as (run_from s last bytes 0 out 0 (length out)) held
      (ap (λ (v : Session). lines_of (length out) v last bytes (length out)) e
      ∙ onto_none (lines_of (length out) (Running s) last bytes (length out)) ∙ rw z) l

  -- the plan's line
  module _ (room : line_room ≤ length out) where
    plays_refused : (a : Answer) (held : List ℕ) → step_of x last bytes ≡ refused_at a → Leaves (refused_at a) out r held
        → Plays x last bytes out r held
    unfolding play_of
    plays_refused a held e =
        let text : List ℕ = plan_line a in
        let on : play_of x last bytes (length out)
        ≡ onto 0 text (lines_of (length out - 1) (Over no_state) last bytes (length out - length text)) =
        rw e at (lines_on (length out) x last bytes (length out) (omega arith) room) (plan_some a) in
        plays_as (refused_at a) held
        (on ∙ ap (onto 0 text) (lines_over (length out - 1) no_state last bytes (length out - length text))
        ∙ (λ i. record { session = Over no_state; taken = 0; text = append-nil text i }))

    module _ (n : Reading) (b : Bool) (o : x ≡ Opening) (e : n ≡ read_of bytes) (w : b ≡ (not last && eqb (number n.answer) 1))
        (t : b ≡ false) where
      opening_is : (m : Move) → open_of last bytes ≡ m → step_of x last bytes ≡ m
      unfolding step_of
      opening_is m f = rw o f

      pub plays_unread : (held : List ℕ) (q : Refusal) → n.answer ≡ No q → Leaves (refused_at n.answer) out r held
          → Plays x last bytes out r held
      plays_unread held q f = plays_refused n.answer held (opening_is (refused_at n.answer) (open_refused last bytes n b e w q t f))

      module _ (g : n.answer ≡ Good) (v : Next) (v-is : v ≡ start_of n.plan) where
        pub plays_unstarted : (held : List ℕ) (q : Refusal) → v.answer ≡ No q → Leaves (refused_at v.answer) out r held
            → Plays x last bytes out r held
        plays_unstarted held q f =
            plays_refused v.answer held (opening_is (refused_at v.answer) (open_no last bytes n b e w v v-is t g q f))

        pub plays_started : v.answer ≡ Good → (row : List ℕ) (count : ℕ) (first : List ℕ)
            → Prints (line.Plan v.answer) row out 0 count first
            → (held : List ℕ) → Leaves (run_from v.state last bytes n.taken first count (length first - 1)) first r held
            → Plays x last bytes out r held
        unfolding line_text
        plays_started f row count first prints held l =
            let z : 0 + n.taken ≡ n.taken = omega arith in
            let all : Move = play_of x last bytes (length out) in
            let on : Playing all last bytes out (Running v.state) n.taken count (length out - 1) first =
            rw z at (goes_on all last bytes out x 0 0 (length out) out (play_starts x last bytes out)
            (Running v.state) n.taken (line.Plan v.answer) row count first (omega arith) prints
            (opening_is _ (open_good last bytes n b e w v v-is t g f)) (plan_some v.answer) (omega arith)) in
            runs_behind all last bytes out v.state n.taken count (length out - 1) first on r held (rw on.long at l)

-- ---- playing takes no more than is there

lines_most : (n : ℕ) (x : Session) (last : Bool) (bytes : List ℕ) (room : ℕ) → (lines_of n x last bytes room).taken ≤ length bytes
unfolding lines_of
lines_most zero x last bytes room = omega arith
lines_most (suc n) x last bytes room =
    go (ltb room line_room || eqb (length (step_of x last bytes).text) 0)
    (lines_most n (step_of x last bytes).session last (drop (step_of x last bytes).taken bytes) (room - length (step_of x last bytes).text))
  where
    go : (b : Bool) → (lines_of n (step_of x last bytes).session last (drop (step_of x last bytes).taken bytes)
        (room - length (step_of x last bytes).text)).taken ≤ length (drop (step_of x last bytes).taken bytes)
        → (cond b (stay x) (onto (step_of x last bytes).taken (step_of x last bytes).text
        (lines_of n (step_of x last bytes).session last (drop (step_of x last bytes).taken bytes)
        (room - length (step_of x last bytes).text)))).taken ≤ length bytes
    go true h = omega arith
    go false h = omega (arith, step_most x last bytes, length-drop (step_of x last bytes).taken bytes)

pub play_most : (x : Session) (last : Bool) (bytes : List ℕ) (room : ℕ) → (play_of x last bytes room).taken ≤ length bytes
unfolding play_of
play_most x last bytes room = lines_most room x last bytes room

-- ---- where a play with room prints nothing

-- it prints the next line, if there is one
pub play_idle : (x : Session) (last : Bool) (bytes : List ℕ) (room : ℕ) → line_room ≤ room → length (play_of x last bytes room).text ≡ 0
    → length (step_of x last bytes).text ≡ 0
unfolding play_of
play_idle x last bytes room r e =
    elim (dec_lt 0 (length (step_of x last bytes).text)) [
      | yes t ↦
          let m = step_of x last bytes in
          let q = ap (λ (k : Move). length k.text) (lines_on room x last bytes room (omega arith) r t) in
          absurd (omega (
            arith,
            length-append m.text
                (lines_of (room - 1) m.session last (drop m.taken bytes) (room - length m.text)).text,
          ))
      | no t ↦ omega arith
    ]

open_idle : (bytes : List ℕ) → length (open_of false bytes).text ≡ 0 → length bytes < 99
unfolding open_of
open_idle bytes e = go (eqb (number (read_of bytes).answer) 1) refl e
  where
    go : (b : Bool) → eqb (number (read_of bytes).answer) 1 ≡ b
        → length (cond b (stay Opening) (first_line (opening bytes) (start_of (read_of bytes).plan).state (read_of bytes).taken)).text ≡ 0
        → length bytes < 99
    go true q z = one_short bytes (eqb-true (number (read_of bytes).answer) 1 q)
    go false q z = absurd (omega (arith, plan_some (opening bytes)))

run_idle : (s : State) (bytes : List ℕ) → length (run_of s false bytes).text ≡ 0 → length bytes < 99
unfolding run_of
run_idle s bytes e = elim (dec_lt (length bytes) 3) [ yes l ↦ omega arith | no l ↦ absurd (none (omega arith)) ]
  where
    none : 3 ≤ length bytes → ⊥
    none l =
        let z : length (command_move s (command_of bytes)).text ≡ 0 = rw (le-ltb (length bytes) 3 l) at e in
        omega (arith, line_some s (command_of bytes))

step_idle : (x : Session) (bytes : List ℕ) → is_over x ≡ false → length (step_of x false bytes).text ≡ 0 → length bytes < 99
unfolding step_of
step_idle Opening bytes o e = open_idle bytes e
step_idle (Running s) bytes o e = run_idle s bytes e
step_idle (Over s) bytes o e = absurd (true≢false o)

-- after the end of the input, the play is over
run_some : (s : State) (bytes : List ℕ) → 0 < length (run_of s true bytes).text
unfolding run_of
run_some s bytes = go (eqb (length bytes) 0)
  where
    go : (b : Bool) → 0 < length (cond b (last_line s) (command_move s (command_of bytes))).text
    go true = end_some s.slice
    go false = line_some s (command_of bytes)

pub idle_over : (x : Session) (bytes : List ℕ) → length (step_of x true bytes).text ≡ 0 → is_over x ≡ true
unfolding step_of open_of
idle_over Opening bytes e = absurd (omega (arith, plan_some (opening bytes)))
idle_over (Running s) bytes e = absurd (omega (arith, run_some s bytes))
idle_over (Over s) bytes e = refl

-- a play that prints nothing and is not over waits for more: the input has not ended, and few bytes are left
pub waits_more : (x : Session) (last : Bool) (bytes : List ℕ) (room : ℕ) → line_room ≤ room → length (play_of x last bytes room).text ≡ 0
    → is_over x ≡ false
    → (last ≡ false) × (length bytes < 99)
waits_more x true bytes room l e o = absurd (true≢false (sym (idle_over x bytes (play_idle x true bytes room l e)) ∙ o))
waits_more x false bytes room l e o = (refl, step_idle x bytes o (play_idle x false bytes room l e))

pub idle_none : (x : Session) (last : Bool) (bytes : List ℕ) (room : ℕ) → length (step_of x last bytes).text ≡ 0
    → (play_of x last bytes room).text ≡ []
unfolding play_of
idle_none x last bytes room e = ap (λ (m : Move). m.text) (lines_stay room x last bytes room e)
