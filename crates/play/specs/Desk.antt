-- The loop of `play`: where a play of standard input stands between two rounds, and what a round leaves, for whatever a read may bring and
-- a write may answer.
-- Assumes nothing.
use Rattle.std.specs.Prelude.{ℕ, suc, ◌+◌, ◌-◌, ◌^◌, ◌≤◌, ◌<◌, min, ◌≡◌, Bool, true, false, cond, List, [], ◌++◌, Option, None, Some}
use Rattle.std.specs.Prelude.{Result, Ok, Err, eqb, length, take, drop}
use Rattle.lines.specs.Line.{line_room}
use Rattle.player.specs.declared.session.Session.{Session}
use Rattle.player.specs.Session.{unopened, is_over, Move, play_of}
use Rattle.play.specs.declared.Course.{Course}
use Rattle.play.specs.declared.Course.TheVariants.{On, Over, Unread, Unwritten}
use Rattle.play.specs.declared.Desk.{Desk}
pub mod Properties
pub mod Printed

-- ---- where a play stands

-- it goes on no more: its last line is printed, a read failed, or the output is closed
abbrev pub is_closed : Course → Bool
is_closed On = false
is_closed Over = true
is_closed Unread = true
is_closed Unwritten = true

-- nothing is read, and nothing printed
abbrev pub opened : Desk
opened = record { session = unopened; from = 0; to = 0; last = false; course = On }

-- the bytes that are read and not taken
abbrev pub holds : Desk → List ℕ → List ℕ
holds desk input = take (desk.to - desk.from) (drop desk.from input)

-- they lie within the buffer
pub record Fits (desk : Desk) (input : List ℕ) : Type 0 where
  pub order : desk.from ≤ desk.to
  pub within : desk.to ≤ length input

-- the lines that can be printed now, into a buffer of that length
abbrev pub lines_now : Desk → List ℕ → ℕ → Move
lines_now desk input room = play_of desk.session desk.last (holds desk input) room

-- ---- what comes from outside

-- what a read's answer says, of so many bytes asked for: a count of no more than these, or else that it failed
abbrev pub arrival_of : {E : Type 0} → Result ℕ E → ℕ → Option ℕ
arrival_of (Ok n) asked = Some (min n asked)
arrival_of (Err e) asked = None

-- how many bytes came
abbrev pub count_of : Option ℕ → ℕ
count_of (Some n) = n
count_of None = 0

-- reading keeps the bytes in front of index `held`, and puts what came behind them
pub record Arrives (before : List ℕ) (held : ℕ) (a : Option ℕ) (after : List ℕ) : Type 0 where
  pub kept : take held after ≡ take held before
  pub long : length after ≡ length before
  pub most : held + count_of a ≤ length after

-- whether the play goes on after a write
abbrev pub course_of : Bool → Course
course_of written = cond written On Unwritten

-- ---- what a round leaves

-- lines were handed to the output: the play goes on behind the bytes that they took, unless the output is closed
abbrev pub told_of : Desk → Session → ℕ → Bool → Desk
told_of desk x taken written = record { session = x; from = desk.from + taken; to = desk.to; last = desk.last; course = course_of written }

-- the last line is printed
abbrev pub ended_of : Desk → Desk
ended_of desk = record { session = desk.session; from = desk.from; to = desk.to; last = desk.last; course = Over }

-- so many bytes are held at the front, and what a read brought stands behind them; a read that brings nothing says that the input has
-- ended, one that fails does not
abbrev pub heard_of : Session → ℕ → Option ℕ → Desk
heard_of x held (Some n) = record { session = x; from = 0; to = held + n; last = eqb n 0; course = On }
heard_of x held None = record { session = x; from = 0; to = held; last = false; course = Unread }

-- one read, behind the bytes that are held
pub record Hears (desk : Desk) (input : List ℕ) (r : Desk) (after : List ℕ) : Type 0 where
  pub arrival : Option ℕ
  pub result : r ≡ heard_of desk.session (length (holds desk input)) arrival
  pub kept : take (length (holds desk input)) after ≡ holds desk input
  pub long : length after ≡ length input
  pub most : length (holds desk input) + count_of arrival ≤ length after

-- a round: there are lines, and they stand at the front of the output; or there is none, and the play is over; or there is none without
-- more input, and one read is made
pub data Round (desk : Desk) (input output : List ℕ) : Desk → List ℕ → List ℕ → Type 0 where
  tells : (written : Bool) → 0 < length (lines_now desk input (length output)).text
      → Round desk input output
      (told_of desk (lines_now desk input (length output)).session (lines_now desk input (length output)).taken written)
      input
      ((lines_now desk input (length output)).text ++ drop (length (lines_now desk input (length output)).text) output)
  ends : (lines_now desk input (length output)).text ≡ [] → is_over desk.session ≡ true
      → Round desk input output (ended_of desk) input output
  hears : (r : Desk) (after : List ℕ) → (lines_now desk input (length output)).text ≡ [] → is_over desk.session ≡ false → desk.last ≡ false
      → Hears desk input r after → Round desk input output r after output

-- ---- rounds one after the other

-- what a round put behind the bytes that were held
abbrev pub came : Desk → List ℕ → Desk → List ℕ → List ℕ
came desk input r after = drop (length (holds desk input)) (holds r after)

-- so many rounds from the start: all that came from the input, all that was handed to the output, the desk and the input's buffer
pub data Ran : ℕ → List ℕ → List ℕ → Desk → List ℕ → Type 0 where
  starts : (input : List ℕ) → Ran 0 [] [] opened input
  goes : {n : ℕ} {arrived printed input : List ℕ} {desk : Desk} (output after shown : List ℕ) (r : Desk) → Ran n arrived printed desk input
      → is_closed desk.course ≡ false → line_room ≤ length output → Round desk input output r after shown
      → Ran (suc n) (arrived ++ came desk input r after) (printed ++ (lines_now desk input (length output)).text) r after

-- what a run of rounds got and gave
pub record Playing (rounds : ℕ) (desk : Desk) (input : List ℕ) : Type 0 where
  pub arrived : List ℕ
  pub printed : List ℕ
  pub ran : Ran rounds arrived printed desk input

-- the rounds that a play can have: as many as a number of 64 bits counts
abbrev pub most_rounds : ℕ
most_rounds = 2 ^ 64 - 1

-- a play's end: it goes on no more, or has used all its rounds
pub record Ends (r : Desk) (input : List ℕ) : Type 0 where
  pub rounds : ℕ
  pub playing : Playing rounds r input
  pub used : is_closed r.course ≡ false → rounds ≡ most_rounds
