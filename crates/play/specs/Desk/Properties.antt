-- Laws of the loop of `play`: each way out of its functions, over what the code has in hand there.
-- Assumes nothing.
use Rattle.std.specs.Prelude.{◌≡◌, refl, Bool, true, false, List, [], ◌∷◌, ◌++◌, Option, None, Some, Result, Ok, Err, ℕ, ◌+◌, ◌-◌, ◌≤◌, ◌<◌}
use Rattle.std.specs.Prelude.{length, take, drop}
use Rattle.std.proofs.Common.{sym, ◌∙◌, true≢false, add-one, length-append, length-drop, length-take-le}
use Rattle.std.proofs.Math.Path.{ap}
use native.Mathlib.Omega.{arith}
use borrow.Rule.Slice.PartMut.{put_mid, take_put}
use Rattle.commands.specs.Kept.{Keeps}
use Rattle.commands.specs.Kept.Properties.{keeps_within, keeps_front}
use Rattle.lines.specs.Line.{line_room}
use Rattle.player.specs.declared.session.Session.{Session}
use Rattle.player.specs.declared.session.Progress.{Progress}
use Rattle.player.specs.Session.{unopened, is_over, Move, Plays}
use Rattle.player.specs.Session.Properties.{play_most, waits_more}
use Rattle.play.specs.declared.Course.TheVariants.{On}
use Rattle.play.specs.declared.Desk.{Desk}
use Rattle.play.specs.Desk.{is_closed, holds, Fits, lines_now, arrival_of, count_of, Arrives, told_of, ended_of, heard_of}
use Rattle.play.specs.Desk.{Hears, Round, tells, ends, hears, Ran, starts, goes, Playing, most_rounds, Ends}

-- ---- the bytes that are held

pub holds_length : (desk : Desk) (input : List ℕ) → Fits desk input → length (holds desk input) ≡ desk.to - desk.from
holds_length desk input f =
    let o = f.order in
    let w = f.within in
    length-take-le (desk.to - desk.from) (drop desk.from input) (omega (arith, length-drop desk.from input))

nothing : (xs : List ℕ) → length xs ≡ 0 → xs ≡ []
nothing [] e = refl
nothing (x ∷ xs) e = absurd (omega arith)

-- ---- a read

brought_most : {E : Type 0} (got : Result ℕ E) (asked : ℕ) → count_of (arrival_of got asked) ≤ asked
brought_most (Ok n) asked = omega arith
brought_most (Err e) asked = omega arith

-- what stood in front of the part that was lent is kept
pub arrives_read : {E : Type 0} (before part : List ℕ) (held : ℕ) (got : Result ℕ E) (a : Option ℕ) → held < length before
    → length part ≡ length before - held → a ≡ arrival_of got (length before - held)
    → Arrives before held a (put_mid held (length before - held) before part)
arrives_read before part held got a h l e =
    let k = length before - held in
    let long : length (put_mid held k before part) ≡ length before =
    omega (
      arith,
      length-append (take held before) (part ++ drop k (drop held before)),
      length-append part (drop k (drop held before)),
      length-take-le held before (omega arith),
      length-drop k (drop held before),
      length-drop held before,
    ) in
    record {
      kept = take_put held k before part (omega arith);
      long = long;
      most = rw (e, long) (omega (arith, brought_most got (length before - held)));
    }

pub held_room : (bytes after : List ℕ) (from to held : ℕ) → Keeps bytes from to held after → from ≤ to → to ≤ length bytes
    → to - from < length bytes → length after ≡ length bytes → held < length after
held_room bytes after from to held k a b l e = omega (arith, keeps_within bytes after from to held k a b)

pub hears_read : (desk : Desk) (input middle after : List ℕ) (held : ℕ) (a : Option ℕ) (r : Desk) → Fits desk input
    → Keeps input desk.from desk.to held middle
    → Arrives middle held a after → r ≡ heard_of desk.session held a → length middle ≡ length input → Hears desk input r after
hears_read desk input middle after held a r f k p e l =
    let n : held ≡ length (holds desk input) =
    keeps_within input middle desk.from desk.to held k f.order f.within ∙ sym (holds_length desk input f) in
    record {
      arrival = a;
      result = rw n at e;
      kept = rw n at (p.kept ∙ keeps_front input middle desk.from desk.to held k f.order f.within);
      long = p.long ∙ l;
      most = rw n at p.most;
    }

-- ---- a round

module _ (desk : Desk) (input output shown : List ℕ) (p : Progress)
    (plays : Plays desk.session desk.last (holds desk input) output p shown) where
  m : Move
  m = lines_now desk input (length output)

  count_is : p.count ≡ length m.text
  unfolding m
  count_is = ap (λ (q : Progress). q.count) plays.result

  silent : p.count ≡ 0 → m.text ≡ []
  silent e = nothing m.text (sym count_is ∙ e)

  unchanged : p.count ≡ 0 → shown ≡ output
  unfolding m
  unchanged e = plays.buffer ∙ rw (silent e)

  -- there are lines
  pub round_tells : (written : Bool) (r : Desk) → (p.count ≡ 0 → ⊥) → r ≡ told_of desk p.session p.taken written
      → Round desk input output r input shown
  unfolding m
  round_tells written r n e =
      let s : p.session ≡ m.session = ap (λ (q : Progress). q.session) plays.result in
      let t : p.taken ≡ m.taken = ap (λ (q : Progress). q.taken) plays.result in
      rw (e, s, t, plays.buffer) (tells written (omega (arith, count_is)))

  -- there is none, and none to come
  pub round_ends : (over : Bool) (r : Desk) → p.count ≡ 0 → over ≡ is_over desk.session → over ≡ true → r ≡ ended_of desk
      → Round desk input output r input shown
  unfolding m
  round_ends over r e o t q = rw (q, unchanged e) (ends (silent e) (sym o ∙ t))

  -- there is none without more input
  pub round_hears : (over : Bool) (r : Desk) (after : List ℕ) → p.count ≡ 0 → over ≡ is_over desk.session → over ≡ false
      → line_room ≤ length output → Hears desk input r after
      → Round desk input output r after shown
  unfolding m
  round_hears over r after e o t l h =
      rw (unchanged e) (hears r after (silent e) (sym o ∙ t)
      (waits_more desk.session desk.last (holds desk input) (length output) l (sym count_is ∙ e) (sym o ∙ t)).0 h)

  pub taken_fits : Fits desk input → desk.from + p.taken ≤ desk.to
  unfolding m
  taken_fits f =
      let t : p.taken ≡ m.taken = ap (λ (q : Progress). q.taken) plays.result in
      omega (arith, play_most desk.session desk.last (holds desk input) (length output), holds_length desk input f, f.order)

  -- a read has room
  pub read_room : (over : Bool) → p.count ≡ 0 → over ≡ is_over desk.session → over ≡ false → Fits desk input → line_room ≤ length output
      → line_room ≤ length input
      → desk.to - desk.from < length input
  unfolding m
  read_room over e o t f l k =
      omega (
        arith,
        (waits_more desk.session desk.last (holds desk input) (length output) l (sym count_is ∙ e) (sym o ∙ t)).1,
        holds_length desk input f,
      )

heard_fits : (x : Session) (held : ℕ) (a : Option ℕ) (after : List ℕ) → held + count_of a ≤ length after → Fits (heard_of x held a) after
heard_fits x held (Some n) after m = record { order = omega arith; within = m }
heard_fits x held None after m = record { order = omega arith; within = omega arith }

round_fits_by : (desk : Desk) (input output : List ℕ) → Fits desk input → (r : Desk) (after shown : List ℕ)
    → Round desk input output r after shown → Fits r after
round_fits_by desk input output f r after shown (tells written t) =
    record {
      order = omega (arith, play_most desk.session desk.last (holds desk input) (length output), holds_length desk input f, f.order);
      within = f.within;
    }
round_fits_by desk input output f r after shown (ends t o) = record { order = f.order; within = f.within }
round_fits_by desk input output f _ _ shown (hears r after t o l h) =
    rw h.result (heard_fits desk.session (length (holds desk input)) h.arrival after h.most)

round_fits : {desk r : Desk} {input output after shown : List ℕ} → Fits desk input → Round desk input output r after shown → Fits r after
round_fits {desk = desk} {r = r} {input = input} {output = output} {after = after} {shown = shown} f s =
    round_fits_by desk input output f r after shown s

-- ---- the loop

pub ran_fits : {n : ℕ} {arrived printed input : List ℕ} {desk : Desk} → Ran n arrived printed desk input → Fits desk input
ran_fits (starts input) = record { order = omega arith; within = omega arith }
ran_fits (goes output after shown r p c l s) = round_fits (ran_fits p) s

pub playing_fits : (n : ℕ) (desk : Desk) (input : List ℕ) → Playing n desk input → Fits desk input
playing_fits n desk input p = ran_fits p.ran

pub playing_none : (x : Session) (input : List ℕ) → x ≡ unopened
    → Playing 0 (record { session = x; from = 0; to = 0; last = false; course = On }) input
playing_none x input e = rw e (record { arrived = []; printed = []; ran = starts input })

pub playing_again : (n : ℕ) (desk r : Desk) (input output after shown : List ℕ) → (closed : Bool) → Playing n desk input
    → closed ≡ is_closed desk.course → closed ≡ false → line_room ≤ length output → Round desk input output r after shown
    → Playing (n + 1) r after
playing_again n desk r input output after shown closed p o t l s =
    rw (add-one n) (record { arrived = _; printed = _; ran = goes output after shown r p.ran (sym o ∙ t) l s })

pub ends_closed : (n : ℕ) (desk : Desk) (input : List ℕ) (closed : Bool) → Playing n desk input → closed ≡ is_closed desk.course
    → closed ≡ true → Ends desk input
ends_closed n desk input closed p o t = record { rounds = n; playing = p; used = λ e. absurd (true≢false (sym t ∙ o ∙ e)) }

pub ends_used : (n : ℕ) (desk : Desk) (input : List ℕ) → Playing n desk input → n ≤ most_rounds → most_rounds ≤ n → Ends desk input
ends_used n desk input p a b = record { rounds = n; playing = p; used = λ e. omega arith }
