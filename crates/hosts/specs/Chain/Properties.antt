-- A chain of calls on the image of a state is the run from that state.
-- Assumes nothing.
use Rattle.std.specs.Prelude.{◌≡◌, List, [], ◌∷◌, ◌++◌, ℕ, length}
use Rattle.std.proofs.Math.Path.{refl, ap, ap₂}
use Rattle.std.proofs.Common.{subst, ◌∙◌, arith, length-append, drop_at, le-ltb}
use Rattle.std.proofs.Math.ListN.{drop}
use Rattle.answer.specs.declared.Answer.{Answer}
use Rattle.answer.specs.declared.Answer.TheVariants.{Good, No}
use Rattle.answer.specs.Answer.{◌and_then◌, if_good}
use Rattle.answer.specs.Word.{told}
use Rattle.plan.specs.Order.{checked}
use Rattle.rack.specs.declared.State.{State}
use Rattle.rack.specs.Form.{ready}
use Rattle.rack.specs.Release.{release_answer, released, release_of}
use Rattle.rack.specs.Row.{row_over}
use Rattle.rack.specs.Show.{show_answer, buffer_shown}
use Rattle.rack.specs.Advance.{advanced, advance_answer, advance_of}
use Rattle.images.specs.Image.{state_size, plan_from, state_from, state_image}
use Rattle.images.specs.Image.Properties.{state_length}
use Rattle.images.specs.Lent.{room}
use Rattle.images.specs.Typed.{StateTyped}
use Rattle.images.specs.Typed.Properties.{release_typed, advance_typed}
use Rattle.images.specs.RoundTrip.{state_round_trip, state_told}
use Rattle.rack_calls.specs.Exports.{state_answer, releases_answer, shows_answer, ShowsRow, advances_answer}
use Rattle.demands.specs.Run.{Call, show, advance, release, next_after, run_from}
use Rattle.hosts.specs.Words.{uncounted}
use Rattle.hosts.specs.Chain.{Seen, lent, Called, Chain, seen_of, all_seen}

-- the record order is asked once
once : (c x y : Answer) → (c and_then Good) and_then ((c and_then x) and_then y) ≡ (c and_then x) and_then y
once Good x y = refl
once (No r) x y = refl

-- also where nothing else is asked
once_alone : (a b : Answer) → ((a and_then Good) and_then (a and_then b)) ≡ (a and_then b)
once_alone Good b = refl
once_alone (No r) b = refl

-- ---- one call on the image of a state

module _ (s : State) (typed : StateTyped s) (rest : List ℕ) where
  abbrev image : List ℕ
  image = state_image s ++ rest

  stands : state_from image ≡ s
  stands = state_round_trip s typed rest

  stands_plan : plan_from image ≡ s.plan
  unfolding state_from
  stands_plan = ap (λ (v : State). v.plan) stands

  long : room image state_size ≡ Good
  long = rw (le-ltb (length (state_image s ++ rest)) state_size (omega (arith, length-append (state_image s) rest, state_length s)))

  behind : drop state_size image ≡ rest
  behind = drop_at (state_image s) rest state_size (state_length s)

  found : state_answer image ≡ (checked s.plan and_then Good)
  unfolding state_answer
  found = rw (long, stands_plan, state_told s typed rest)

  show_answer_law : (row : List ℕ) → shows_answer image row ≡ show_answer s (length row)
  unfolding shows_answer show_answer ready
  show_answer_law row = rw (found, stands) (once (checked s.plan) _ _)

  advance_answer_law : advances_answer image ≡ advance_answer s
  unfolding advances_answer ready
  advance_answer_law = rw (found, stands) (once_alone (checked s.plan) _)

  release_answer_law : (i e : ℕ) → releases_answer image i e ≡ release_answer s i e
  unfolding releases_answer release_answer ready
  release_answer_law i e = rw (found, stands) (once (checked s.plan) _ _)

  -- the image after a call that gives this answer
  left : (a : Answer) (next : State) → if_good a (state_image next ++ drop state_size image) image ≡ state_image (if_good a next s) ++ rest
  left Good next = ap (λ (l : List ℕ). state_image next ++ l) behind
  left (No r) next = refl

  -- the row that a showing leaves
  row_is : (row : List ℕ) (word : ℕ) (cards : List ℕ) → ShowsRow (state_image s ++ rest) row word cards → cards ≡ buffer_shown s row
  unfolding buffer_shown
  row_is row word cards c =
      c.buffer ∙ ap₂ (λ (a : Answer) (v : State). if_good a (row_over v row) row) (show_answer_law row) stands

  -- what is seen is what the rack gives, and the image after it stands for the state that the rack hands back
  pub call_is : (call : Call) (seen : Seen) (after : List ℕ) → Called (state_image s ++ rest) call seen after
      → (seen ≡ seen_of s call) × (after ≡ state_image (next_after s call).state ++ rest)
  unfolding advance_of release_of
  call_is (show row) seen after c =
      let g = shows_answer image row in
      let w : seen.word ≡ told (show_answer s (length row)) 0 = c.0.result ∙ ap (told g) (uncounted g)
      ∙ ap (λ (a : Answer). told a 0) (show_answer_law row) in
      let r = row_is row seen.word seen.row c.0 in
      (λ k. record { word = w k; row = r k }, c.1)
  call_is advance seen after c =
      let f = advance_answer_law in
      let g = advances_answer image in
      let w : seen.word ≡ told (advance_answer s) 0 = c.0.result ∙ ap (told g) (uncounted g) ∙ ap (λ (a : Answer). told a 0) f in
      let r = row_is lent c.1.0 seen.row c.1.1 in
      let j = c.0.buffer
      ∙ ap₂ (λ (a : Answer) (v : State). if_good a (state_image (advanced v) ++ drop state_size image) image) f stands in
      (λ k. record { word = w k; row = r k }, j ∙ left (advance_answer s) (advanced s))
  call_is (release i e) seen after c =
      let f = release_answer_law i e in
      let g = releases_answer image i e in
      let w : seen.word ≡ told (release_answer s i e) 0 = c.0.result ∙ ap (told g) (uncounted g) ∙ ap (λ (a : Answer). told a 0) f in
      let r = c.1 in
      let j = c.0.buffer
      ∙ ap₂ (λ (a : Answer) (v : State). if_good a (state_image (released v i e) ++ drop state_size image) image) f stands in
      (λ k. record { word = w k; row = r k }, j ∙ left (release_answer s i e) (released s i e))

  pub next_typed : (call : Call) → StateTyped (next_after s call).state
  unfolding advance_of release_of
  next_typed (show row) = typed
  next_typed advance = go (advance_answer s) refl
    where
      go : (a : Answer) → advance_answer s ≡ a → StateTyped (if_good (advance_answer s) (advanced s) s)
      go Good e = rw e (advance_typed s typed e)
      go (No r) e = rw e typed
  next_typed (release i e) = go (release_answer s i e) refl
    where
      go : (a : Answer) → release_answer s i e ≡ a → StateTyped (if_good (release_answer s i e) (released s i e) s)
      go Good h = rw h (release_typed s typed i e h)
      go (No r) h = rw h typed

-- ---- the whole chain

pub chain_is_run : (calls : List Call) (seens : List Seen) (s : State) → StateTyped s → (rest end : List ℕ)
    → Chain (state_image s ++ rest) calls seens end
    → (seens ≡ all_seen s calls) × (end ≡ state_image (run_from s calls) ++ rest)
unfolding all_seen run_from
chain_is_run [] [] s t rest end c = (refl, c)
chain_is_run [] (seen ∷ seens) s t rest end c = absurd c
chain_is_run (call ∷ calls) [] s t rest end c = absurd c
chain_is_run (call ∷ calls) (seen ∷ seens) s t rest end c =
    let one = call_is s t rest call seen c.0 c.1 in
    let more : Chain (state_image (next_after s call).state ++ rest) calls seens end =
    subst (λ (l : List ℕ). Chain l calls seens end) one.1 c.2 in
    let h = chain_is_run calls seens (next_after s call).state (next_typed s t rest call) rest end more in
    (ap₂ ◌∷◌ one.0 h.0, h.1)

-- the state after the calls is of the language's type
pub run_typed : (calls : List Call) (s : State) → StateTyped s → StateTyped (run_from s calls)
unfolding run_from
run_typed [] s t = t
run_typed (call ∷ calls) s t = run_typed calls (next_after s call).state (next_typed s t [] call)
