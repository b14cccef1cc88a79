-- The rounds of `play` are steps of `Reached`; so what was handed to the output is what document 01 has printed for what came from the
-- input.
-- Assumes nothing.
use Rattle.std.specs.Prelude.{◌≡◌, refl, Bool, true, false, List, [], ◌++◌, Option, None, Some, ℕ, ◌+◌, ◌-◌, ◌≤◌, length, take, drop}
use Rattle.std.proofs.Common.{sym, ap, subst, ◌∙◌, true≢false, append_assoc, append-nil, arith, length-drop, take-append-drop}
use Rattle.std.proofs.Common.{drop_of_length-le, take-take, take-add, drop_at, drop-drop, length-take-le}
use Rattle.lines.specs.Line.{line_room}
use Rattle.player.specs.declared.session.Session.{Session}
use Rattle.player.specs.Played.{played}
use Rattle.player.specs.Session.{is_over, remaining, step_of, play_of}
use Rattle.player.specs.Session.Properties.{play_most, play_idle, idle_none}
use Rattle.player.specs.Stream.{Reached, reads, plays}
use Rattle.player.specs.Stream as stream
use Rattle.player.specs.Stream.Properties.{reached_whole, reached_end}
use Rattle.play.specs.declared.Course.TheVariants.{Over, Unread}
use Rattle.play.specs.declared.Desk.{Desk}
use Rattle.play.specs.Desk.{holds, Fits, lines_now, course_of, told_of, ended_of, heard_of, Round, tells, ends}
use Rattle.play.specs.Desk.{hears, came, Ran, starts, goes, Ends}
use Rattle.play.specs.Desk.Properties.{holds_length, ran_fits}

-- what came and what was printed, whatever comes still: nothing does, where the input has ended
abbrev pub Standing : List ℕ → List ℕ → Desk → List ℕ → Type 0
Standing arrived printed desk input =
    (coming : List ℕ) → (desk.last ≡ true → coming ≡ []) → Reached (arrived ++ coming) printed desk.session (holds desk input) coming

-- ---- a round

later : (t n : ℕ) (l : List ℕ) → t ≤ n → t ≤ length l → drop t (take n l) ≡ take (n - t) (drop t l)
later t n l h k =
    let e : n ≡ t + (n - t) = omega arith in
    ap (λ (j : ℕ). drop t (take j l)) e ∙ ap (drop t) (take-add t (n - t) l)
    ∙ drop_at (take t l) (take (n - t) (drop t l)) t (length-take-le t l k)

-- behind the bytes that lines took
holds_told : (desk : Desk) (input : List ℕ) (x : Session) (taken : ℕ) (written : Bool) → Fits desk input → taken ≤ length (holds desk input)
    → holds (told_of desk x taken written) input ≡ drop taken (holds desk input)
holds_told desk input x taken written f l =
    let from = desk.from in
    let to = desk.to in
    let n = holds_length desk input f in
    let o = f.order in
    let w = f.within in
    let e : to - (from + taken) ≡ to - from - taken = omega arith in
    ap (λ (j : ℕ). take j (drop (from + taken) input)) e
    ∙ ap (take (to - from - taken)) (sym (drop-drop taken from input))
    ∙ sym (later taken (to - from) (drop from input) (omega arith) (omega (arith, length-drop from input)))

-- behind a read: the bytes that were held, and what came
holds_came : (x : Session) (held after : List ℕ) (n : ℕ) → take (length held) after ≡ held
    → holds (heard_of x (length held) (Some n)) after ≡ held ++ drop (length held) (holds (heard_of x (length held) (Some n)) after)
holds_came x held after n e =
    let k = length held in
    let z : k + n - 0 ≡ k + n = omega arith in
    let t : take k (take (k + n - 0) after) ≡ held = take-take k (k + n - 0) after (omega arith) ∙ e in
    sym (take-append-drop k (take (k + n - 0) after)) ∙ ap (λ (u : List ℕ). u ++ drop k (take (k + n - 0) after)) t

holds_failed : (x : Session) (held after : List ℕ) → take (length held) after ≡ held → holds (heard_of x (length held) None) after ≡ held
holds_failed x held after e = let z : length held - 0 ≡ length held = omega arith in ap (λ (k : ℕ). take k after) z ∙ e

module _ (arrived printed : List ℕ) (desk : Desk) (input output : List ℕ) (f : Fits desk input)
    (s : Standing arrived printed desk input) where
  none_more : (coming : List ℕ) (u : List ℕ) → u ≡ [] → (arrived ++ u) ++ coming ≡ arrived ++ coming
  none_more coming u e = ap (λ (v : List ℕ). (arrived ++ v) ++ coming) e ∙ ap (λ (v : List ℕ). v ++ coming) (append-nil arrived)

  told_stands : (written : Bool)
      → let m = lines_now desk input (length output) in
      let r = told_of desk m.session m.taken written in
      Standing (arrived ++ came desk input r input) (printed ++ m.text) r input
  told_stands written coming l =
      let m = lines_now desk input (length output) in
      let h = holds desk input in
      let most : m.taken ≤ length h = play_most desk.session desk.last h (length output) in
      let e = holds_told desk input m.session m.taken written f most in
      let c : drop (length h) (drop m.taken h) ≡ [] =
      drop_of_length-le (drop m.taken h) {i = length h} (omega (arith, length-drop m.taken h)) in
      rw (e, none_more coming (drop (length h) (drop m.taken h)) c) (plays desk.last (length output) l (s coming l))

  still : (r : Desk) (after : List ℕ) → r.session ≡ desk.session → holds r after ≡ holds desk input → desk.last ≡ r.last
      → (lines_now desk input (length output)).text ≡ []
      → Standing (arrived ++ came desk input r after) (printed ++ (lines_now desk input (length output)).text) r after
  still r after x e l t coming k =
      let h = holds desk input in
      let c : drop (length h) h ≡ [] = drop_of_length-le h {i = length h} (omega arith) in
      rw (t, append-nil printed, e, x, none_more coming (drop (length h) h) c) (s coming (λ z. k (sym l ∙ z)))

  heard_stands : (a : Option ℕ) (after : List ℕ) → (lines_now desk input (length output)).text ≡ [] → desk.last ≡ false
      → take (length (holds desk input)) after ≡ holds desk input
      → let r = heard_of desk.session (length (holds desk input)) a in
      Standing (arrived ++ came desk input r after) (printed ++ (lines_now desk input (length output)).text) r after
  heard_stands None after t l e =
      still (heard_of desk.session (length (holds desk input)) None) after refl
      (holds_failed desk.session (holds desk input) after e) l t
  heard_stands (Some n) after t l e = λ coming k.
      let h = holds desk input in
      let r = heard_of desk.session (length h) (Some n) in
      let u = came desk input r after in
      let ended : desk.last ≡ true → u ++ coming ≡ [] = λ z. absurd (true≢false (sym z ∙ l)) in
      let more : Reached ((arrived ++ u) ++ coming) printed desk.session (h ++ u) coming =
      rw (append_assoc arrived u coming) (reads u coming (s (u ++ coming) ended)) in
      rw (t, append-nil printed)
      (subst (λ (v : List ℕ). Reached ((arrived ++ u) ++ coming) printed desk.session v coming)
      (sym (holds_came desk.session h after n e)) more)

round_stands_by : (arrived printed : List ℕ) (desk : Desk) (input output : List ℕ) → Fits desk input → Standing arrived printed desk input
    → (r : Desk) (after shown : List ℕ) → Round desk input output r after shown
    → Standing (arrived ++ came desk input r after) (printed ++ (lines_now desk input (length output)).text) r after
round_stands_by arrived printed desk input output f s r after shown (tells written t) =
    told_stands arrived printed desk input output f s written
round_stands_by arrived printed desk input output f s r after shown (ends t o) =
    still arrived printed desk input output f s (ended_of desk) input refl refl refl t
round_stands_by arrived printed desk input output f s _ _ shown (hears r after t o l h) =
    rw h.result (heard_stands arrived printed desk input output f s h.arrival after t l h.kept)

pub round_stands : (arrived printed : List ℕ) {input output after shown : List ℕ} {desk r : Desk} → Fits desk input
    → Standing arrived printed desk input
    → Round desk input output r after shown → Standing (arrived ++ came desk input r after)
    (printed ++ (lines_now desk input (length output)).text) r after
round_stands arrived printed {input = input} {output = output} {after = after} {shown = shown} {desk = desk} {r = r} f s t =
    round_stands_by arrived printed desk input output f s r after shown t

-- ---- any number of rounds

-- the steps of the loop are those of `Reached`
pub ran_reached : {n : ℕ} {arrived printed input : List ℕ} {desk : Desk} → Ran n arrived printed desk input
    → Standing arrived printed desk input
ran_reached (starts input) = λ coming l. stream.starts
ran_reached (goes {arrived = arrived} {printed = printed} output after shown r p c l s) =
    round_stands arrived printed (ran_fits p) (ran_reached p) s

-- ---- why it goes on no more

written_on : (written : Bool) → course_of written ≡ Over → ⊥
written_on true e = cc
written_on false e = cc

written_read : (written : Bool) → course_of written ≡ Unread → ⊥
written_read true e = cc
written_read false e = cc

heard_on : (x : Session) (held : ℕ) (a : Option ℕ) → (heard_of x held a).course ≡ Over → ⊥
heard_on x held (Some n) e = cc
heard_on x held None e = cc

round_over : (desk : Desk) (input output : List ℕ) (r : Desk) (after shown : List ℕ) → Round desk input output r after shown
    → r.course ≡ Over → is_over r.session ≡ true
round_over desk input output r after shown (tells written t) e = absurd (written_on written e)
round_over desk input output r after shown (ends t o) e = o
round_over desk input output _ _ shown (hears r after t o k h) e =
    absurd (heard_on desk.session (length (holds desk input)) h.arrival (ap (λ (d : Desk). d.course) (sym h.result) ∙ e))

-- its last line is printed
ran_over : {n : ℕ} {arrived printed input : List ℕ} {desk : Desk} → Ran n arrived printed desk input → desk.course ≡ Over
    → is_over desk.session ≡ true
ran_over (starts input) e = absurd (cc)
ran_over (goes {input = input} {desk = desk} output after shown r p c l s) e = round_over desk input output r after shown s e

-- ---- a read that failed

heard_unread : (x : Session) (held after : List ℕ) (a : Option ℕ) (room : ℕ) → (heard_of x (length held) a).course ≡ Unread
    → take (length held) after ≡ held
    → length (step_of x false held).text ≡ 0 → (lines_now (heard_of x (length held) a) after room).text ≡ []
heard_unread x held after (Some n) room e k t = absurd (cc)
heard_unread x held after None room e k t = rw (holds_failed x held after k) (idle_none x false held room t)

round_unread : (desk : Desk) (input output : List ℕ) → line_room ≤ length output → (r : Desk) (after shown : List ℕ)
    → Round desk input output r after shown → r.course ≡ Unread → (room : ℕ) → (lines_now r after room).text ≡ []
round_unread desk input output l r after shown (tells written t) e room = absurd (written_read written e)
round_unread desk input output l r after shown (ends t o) e room = absurd (cc)
round_unread desk input output l _ _ shown (hears r after t o k h) e room =
    let x = desk.session in
    let held = holds desk input in
    let q : (play_of x false held (length output)).text ≡ [] = rw k at t in
    rw h.result
    (heard_unread x held after h.arrival room (ap (λ (d : Desk). d.course) (sym h.result) ∙ e) h.kept
    (play_idle x false held (length output) l (ap length q)))

-- every line that could be printed of what came was handed to the output before
ran_unread : {n : ℕ} {arrived printed input : List ℕ} {desk : Desk} → Ran n arrived printed desk input → desk.course ≡ Unread → (room : ℕ)
    → (lines_now desk input room).text ≡ []
ran_unread (starts input) e room = absurd (cc)
ran_unread (goes {input = input} {desk = desk} output after shown r p c l s) e room =
    round_unread desk input output l r after shown s e room

-- ---- at the end

module _ (r : Desk) (input : List ℕ) (e : Ends r input) where
  -- at each end: what was handed to the output, and what is still to be printed of what came and of what may come, is the whole
  pub ends_so_far : (coming : List ℕ) → (r.last ≡ true → coming ≡ [])
      → played (e.playing.arrived ++ coming) ≡ e.playing.printed ++ remaining r.session (holds r input ++ coming)
  ends_so_far coming l = reached_whole (ran_reached e.playing.ran coming l)

  -- with the last line: what was handed to the output is the whole
  pub ends_whole : r.course ≡ Over → (coming : List ℕ) → (r.last ≡ true → coming ≡ [])
      → e.playing.printed ≡ played (e.playing.arrived ++ coming)
  ends_whole c coming l = reached_end (ran_reached e.playing.ran coming l) (ran_over e.playing.ran c)

  -- with a read that failed: no line that is known is missing, and the last line is not printed
  pub ends_unread : r.course ≡ Unread → (room : ℕ) → (lines_now r input room).text ≡ []
  ends_unread c room = ran_unread e.playing.ran c room
