-- Laws of what the exported functions answer: one for each way that a function leaves. f is the plan or the state that the image says.
-- Assumes nothing.
use Rattle.std.specs.Prelude.{◌≡◌, refl, Ok, Err, Bool, true, false, not, cond, List, ℕ, ◌≤◌, ◌<◌, min, length}
use Rattle.std.proofs.Common.{sym, ap, ap₂, ◌∙◌, arith, lt-ltb, le-ltb, ne_eqb}
use Rattle.std.proofs.Math.Decide.{dec_lt}
use Rattle.std.proofs.lemmas.Bool.{lt-leb}
use Rattle.codec.specs.Bytes.{AreBytes}
use Rattle.plan.specs.declared.Plan.{Plan}
use Rattle.answer.specs.declared.Answer.{Answer}
use Rattle.answer.specs.declared.Answer.TheVariants.{Good, No}
use Rattle.answer.specs.declared.Refusal.{Refusal}
use Rattle.answer.specs.Answer.{bare, refuse, ◌and_then◌, if_good}
use Rattle.answer.specs.Answer.Properties.{opened_no, opened_on}
use Rattle.plan.specs.Order.{checked, within, InOrder}
use Rattle.plan.specs.Order.Properties.{in_order}
use Rattle.rack.specs.declared.State.{State}
use Rattle.rack.specs.declared.Next.{Next}
use Rattle.rack.specs.State.{fresh_of, no_state, next_of, kind_at, unit_of}
use Rattle.rack.specs.Form.{ready}
use Rattle.rack.specs.Start.{start_answer, start_of}
use Rattle.unit.specs.Start.{startable}
use Rattle.rack.specs.Release.{release_answer, released, release_of}
use Rattle.rack.specs.Row.{row_over}
use Rattle.rack.specs.Show.{show_answer, buffer_shown, Shows}
use Rattle.rack.specs.Advance.{advanced, advance_answer, advance_of}
use Rattle.images.specs.Image.{state_size, plan_from, state_from, state_image, released_told}
use Rattle.images.specs.Lent.{room, plan_found, found_answer, state_found, StoresState, StoresRunning}
use Rattle.images.specs.Lent.Properties.{plan_is, plan_on, state_room, state_is, state_no}
use Rattle.images.specs.Lent.Properties.{state_on}
use Rattle.images.specs.RoundTrip.{running_stores}
use Rattle.answer.specs.Word.{told}
use Rattle.images.specs.Outcome.Properties.{refused_outcome, stored_outcome, uncounted}
use Rattle.rack_calls.specs.Exports.{fresh_answer, Starts, state_answer}
use Rattle.rack_calls.specs.Exports.{releases_answer, Releases, shows_answer, ShowsRow, advances_answer, Advances}

-- ---- `parchbeetle_fresh`: v is what the start handed back

start_is : (plan : List ℕ) (f : Plan) (v : Next) → Ok f ≡ plan_found plan → v ≡ start_of f →
    v ≡ start_of (plan_from plan)
start_is plan f v e h = h ∙ ap start_of (plan_is plan f e)

start_answer_law : (p : Plan) (v : Next) → v ≡ start_of p → v.answer ≡ start_answer p
unfolding start_of
start_answer_law p v e = ap (λ (x : Next). x.answer) e

start_state : (p : Plan) (v : Next) → v ≡ start_of p → v.answer ≡ Good → v.state ≡ fresh_of p
unfolding start_of
start_state p v e g = ap (λ (x : Next). x.state) e ∙ ap (λ (x : Answer). if_good x (fresh_of p) no_state) (sym (start_answer_law p v e) ∙ g)

start_stage : (plan state : List ℕ) (f : Plan) (x : Answer) → Ok f ≡ plan_found plan →
    x ≡ (start_answer (plan_from plan) and_then room state state_size) → x ≡ fresh_answer plan state
unfolding fresh_answer
start_stage plan state f x e h = plan_on plan f (start_answer (plan_from plan) and_then room state state_size) x e h

pub fresh_refused : (plan state : List ℕ) (f : Plan) (v : Next) (w : Refusal) (r : ℕ) → Ok f ≡ plan_found plan →
    v ≡ start_of f → v.answer ≡ No w → r ≡ told v.answer 0 → Starts plan state r state
fresh_refused plan state f v w r e h n t =
    refused_outcome (fresh_answer plan state) v.answer w _ _ state r n t
    (start_stage plan state f v.answer e (opened_no v.answer (start_answer (plan_from plan)) (room state state_size) w n
    (start_answer_law (plan_from plan) v (start_is plan f v e h))))

pub fresh_stored : (plan state after : List ℕ) (f : Plan) (v : Next) (b : Answer) (r : ℕ) → Ok f ≡ plan_found plan →
    v ≡ start_of f → v.answer ≡ Good → StoresState v.state state b after → r ≡ told b 0 → Starts plan state r after
fresh_stored plan state after f v b r e h n t u =
    let i = start_is plan f v e h in
    rw (← start_state (plan_from plan) v i n)
    (stored_outcome (fresh_answer plan state) b 0 state_size (state_image v.state) state after r t
    (start_stage plan state f b e
    (opened_on v.answer (start_answer (plan_from plan)) (room state state_size) b n (start_answer_law (plan_from plan) v i) t.result))
    (uncounted b r u))

-- ---- the record order, with which every call on a state begins, need not be asked before it

-- checking twice is checking once
again : (a b c : Answer) → (a and_then ((a and_then b) and_then c)) ≡ ((a and_then b) and_then c)
again Good b c = refl
again (No w) b c = refl

-- also where nothing else is asked
again_alone : (a b : Answer) → (a and_then (a and_then b)) ≡ (a and_then b)
again_alone Good b = refl
again_alone (No w) b = refl

-- the same behind 9, and before the 10 of a released byte
once_of : (short order x : Answer) (told : Bool) → (order and_then x) ≡ x →
    ((short and_then (order and_then refuse (not told) (bare 10))) and_then x) ≡
    ((short and_then cond told Good (order and_then bare 10)) and_then x)
once_of (No w) order x told e = refl
once_of Good Good x true e = refl
once_of Good (No w) x true e = e
once_of Good Good x false e = refl
once_of Good (No w) x false e = refl

-- so an operation x that begins with the record order answers as if the image's plan had been checked before
once : (s : List ℕ) (x : Answer) → (checked (plan_from s) and_then x) ≡ x → (state_answer s and_then x) ≡ (found_answer s and_then x)
unfolding state_answer found_answer
once s x e = once_of (room s state_size) (checked (plan_from s)) x (released_told s) e

-- ---- `parchbeetle_release`

-- a number that does not fit the dispatcher's types is answered as the least number that is too large: "12", then "13"
no_next : (a : Answer) (w : Refusal) (x y s : State) → next_of (a and_then No w) x s ≡ next_of (a and_then No w) y s
no_next Good w x y s = refl
no_next (No v) w x y s = refl

too_long : (s : State) (k e : ℕ) → InOrder s.plan → k < s.plan.kinds → 4095 < e →
    startable (kind_at s k) (unit_of s k) e ≡ bare 13
unfolding startable within
too_long s k e o l m =
    let r = o.kind_at_law k l in
    let a = r.length_most in
    let b = r.deadline_most in
    let d = r.separation_most in
    rw (ne_eqb e 0 (λ q. omega arith), lt-leb e (kind_at s k).length (omega arith))

no_kind : (s : State) (k e : ℕ) → s.plan.kinds ≤ k → release_of s k e ≡ next_of (ready s and_then bare 12) s s
unfolding release_of release_answer
no_kind s k e l = rw (le-ltb k s.plan.kinds l) (no_next (ready s) _ (released s k e) s s)

no_length : (s : State) (k e : ℕ) → InOrder s.plan → k < s.plan.kinds → 4095 < e →
    release_of s k e ≡ next_of (ready s and_then bare 13) s s
unfolding release_of release_answer
no_length s k e o l m = rw (lt-ltb k s.plan.kinds l, too_long s k e o l m) (no_next (ready s) _ (released s k e) s s)

limited_in_order : (s : State) (k e : ℕ) → InOrder s.plan → release_of s (min k 16) (min e 65536) ≡ release_of s k e
limited_in_order s k e o =
    let n = o.counts.kinds_most in
    elim (dec_lt k s.plan.kinds) [
      | yes q ↦ named q (omega arith)
      | no q ↦ no_kind s (min k 16) (min e 65536) (omega arith) ∙ sym (no_kind s k e (omega arith))
    ]
  where
    named : k < s.plan.kinds → min k 16 ≡ k → release_of s (min k 16) (min e 65536) ≡ release_of s k e
    named q f =
        ap (λ (x : ℕ). release_of s x (min e 65536)) f
        ∙ elim (dec_lt e 65536) [
          | yes m ↦ ap (release_of s k) (let g : min e 65536 ≡ e = omega arith in g)
          | no m ↦ no_length s k (min e 65536) o q (omega arith) ∙ sym (no_length s k e o q (omega arith))
        ]

no_order : (s : State) (k e : ℕ) (w : Refusal) → checked s.plan ≡ No w → release_of s k e ≡ record { answer = No w; state = s }
unfolding release_of release_answer ready
no_order s k e w h = rw h

pub release_limited : (s : State) (k e : ℕ) → release_of s (min k 16) (min e 65536) ≡ release_of s k e
release_limited s k e = by_order (checked s.plan) refl
  where
    by_order : (a : Answer) → checked s.plan ≡ a → release_of s (min k 16) (min e 65536) ≡ release_of s k e
    by_order Good h = limited_in_order s k e (in_order s.plan h)
    by_order (No w) h = no_order s (min k 16) (min e 65536) w h ∙ sym (no_order s k e w h)

release_once : (s : List ℕ) (kind e : ℕ) → releases_answer s kind e ≡ (found_answer s and_then release_answer (state_from s) kind e)
unfolding releases_answer release_answer ready state_from
release_once s kind e = once s (release_answer (state_from s) kind e) (again (checked (plan_from s)) _ _)

release_is : (state : List ℕ) (kind e k x : ℕ) (f : State) (v : Next) → Ok f ≡ state_found state → k ≡ min kind 16 →
    x ≡ min e 65536 → v ≡ release_of f k x → v ≡ release_of (state_from state) kind e
release_is state kind e k x f v h p q t =
    t ∙ ap (λ (s : State). release_of s k x) (state_is state f h) ∙ ap₂ (release_of (state_from state)) p q
    ∙ release_limited (state_from state) kind e

release_answer_law : (s : State) (kind e : ℕ) (v : Next) → v ≡ release_of s kind e → v.answer ≡ release_answer s kind e
unfolding release_of
release_answer_law s kind e v i = ap (λ (x : Next). x.answer) i

release_state : (s : State) (kind e : ℕ) (v : Next) → v ≡ release_of s kind e → v.answer ≡ Good → v.state ≡ released s kind e
unfolding release_of
release_state s kind e v i n =
    ap (λ (x : Next). x.state) i ∙ ap (λ (x : Answer). if_good x (released s kind e) s) (sym (release_answer_law s kind e v i) ∙ n)

release_stage : (state : List ℕ) (kind e : ℕ) (f : State) (x : Answer) → Ok f ≡ state_found state →
    x ≡ release_answer (state_from state) kind e → x ≡ releases_answer state kind e
release_stage state kind e f x h t = state_on state f (release_answer (state_from state) kind e) x h t ∙ sym (release_once state kind e)

pub release_unfound : (state : List ℕ) (kind e : ℕ) (w : Refusal) (r : ℕ) → Err w ≡ state_found state →
    r ≡ told (No w) 0 → Releases state kind e r state
release_unfound state kind e w r h t =
    refused_outcome (releases_answer state kind e) (No w) w _ _ state r refl t
    (state_no state (release_answer (state_from state) kind e) w h ∙ sym (release_once state kind e))

pub release_refused : (state : List ℕ) (kind e k x : ℕ) (f : State) (v : Next) (w : Refusal) (r : ℕ) →
    Ok f ≡ state_found state → k ≡ min kind 16 → x ≡ min e 65536 → v ≡ release_of f k x → v.answer ≡ No w → r ≡ told v.answer 0 →
    Releases state kind e r state
release_refused state kind e k x f v w r h p q t n u =
    refused_outcome (releases_answer state kind e) v.answer w _ _ state r n u
    (release_stage state kind e f v.answer h (release_answer_law (state_from state) kind e v (release_is state kind e k x f v h p q t)))

-- a release keeps the plan
release_plan : (state : List ℕ) (kind e : ℕ) → (released (state_from state) kind e).plan ≡ plan_from state
unfolding released state_from
release_plan state kind e = refl

pub release_stored : (state after : List ℕ) (kind e k x : ℕ) (f : State) (v : Next) (b : Answer) (r : ℕ) →
    Ok f ≡ state_found state → k ≡ min kind 16 → x ≡ min e 65536 → v ≡ release_of f k x → v.answer ≡ Good →
    AreBytes state → StoresRunning v.state state b after → r ≡ told b 0 → Releases state kind e r after
release_stored state after kind e k x f v b r h p q t n bytes running z =
    let i = release_is state kind e k x f v h p q t in
    let same = ap (λ (s : State). s.plan) (release_state (state_from state) kind e v i n) ∙ release_plan state kind e in
    let u = running_stores v.state state b after bytes same running in
    let a : b ≡ v.answer = u.result ∙ state_room state f h ∙ sym n in
    rw (← release_state (state_from state) kind e v i n)
    (stored_outcome (releases_answer state kind e) b 0 state_size (state_image v.state) state after r u
    (release_stage state kind e f b h (a ∙ release_answer_law (state_from state) kind e v i)) (uncounted b r z))

-- ---- `parchbeetle_show`: a is what the showing answered

show_once : (s row : List ℕ) → shows_answer s row ≡ (found_answer s and_then show_answer (state_from s) (length row))
unfolding shows_answer show_answer ready state_from
show_once s row = once s (show_answer (state_from s) (length row)) (again (checked (plan_from s)) _ _)

pub show_unfound : (state row : List ℕ) (w : Refusal) (r : ℕ) → Err w ≡ state_found state →
    r ≡ told (No w) 0 → ShowsRow state row r row
show_unfound state row w r h t =
    refused_outcome (shows_answer state row) (No w) w _ _ row r refl t
    (state_no state (show_answer (state_from state) (length row)) w h ∙ sym (show_once state row))

pub show_told : (state row after : List ℕ) (f : State) (a : Answer) (r : ℕ) → Ok f ≡ state_found state →
    Shows f row a after → r ≡ told a 0 → ShowsRow state row r after
unfolding buffer_shown
show_told state row after f a r h t u =
    let s = state_is state f h in
    let z : a ≡ shows_answer state row =
    state_on state f (show_answer (state_from state) (length row)) a h (t.result ∙ ap (λ (x : State). show_answer x (length row)) s)
    ∙ sym (show_once state row) in
    record {
      result = uncounted a r u ∙ ap (λ (x : Answer). told x (if_good x 0 0)) z;
      buffer =
          t.buffer ∙ ap (λ (x : Answer). if_good x (row_over f row) row) (sym t.result ∙ z)
          ∙ ap (λ (x : State). if_good (shows_answer state row) (row_over x row) row) s;
    }

-- ---- `parchbeetle_advance`: v is what the advance handed back

advance_once : (s : List ℕ) → advances_answer s ≡ (found_answer s and_then advance_answer (state_from s))
unfolding advances_answer ready state_from
advance_once s = once s (advance_answer (state_from s)) (again_alone (checked (plan_from s)) _)

advance_answer_law : (s : State) (v : Next) → v ≡ advance_of s → v.answer ≡ advance_answer s
unfolding advance_of
advance_answer_law s v i = ap (λ (x : Next). x.answer) i

advance_state : (s : State) (v : Next) → v ≡ advance_of s → v.answer ≡ Good → v.state ≡ advanced s
unfolding advance_of
advance_state s v i n = ap (λ (x : Next). x.state) i ∙ ap (λ (x : Answer). if_good x (advanced s) s) (sym (advance_answer_law s v i) ∙ n)

advance_is : (state : List ℕ) (f : State) (v : Next) → Ok f ≡ state_found state → v ≡ advance_of f →
    v ≡ advance_of (state_from state)
advance_is state f v h t = t ∙ ap advance_of (state_is state f h)

advance_stage : (state : List ℕ) (f : State) (x : Answer) → Ok f ≡ state_found state →
    x ≡ advance_answer (state_from state) → x ≡ advances_answer state
advance_stage state f x h t = state_on state f (advance_answer (state_from state)) x h t ∙ sym (advance_once state)

pub advance_unfound : (state : List ℕ) (w : Refusal) (r : ℕ) → Err w ≡ state_found state →
    r ≡ told (No w) 0 → Advances state r state
advance_unfound state w r h t =
    refused_outcome (advances_answer state) (No w) w _ _ state r refl t
    (state_no state (advance_answer (state_from state)) w h ∙ sym (advance_once state))

pub advance_refused : (state : List ℕ) (f : State) (v : Next) (w : Refusal) (r : ℕ) → Ok f ≡ state_found state →
    v ≡ advance_of f → v.answer ≡ No w → r ≡ told v.answer 0 → Advances state r state
advance_refused state f v w r h t n u =
    refused_outcome (advances_answer state) v.answer w _ _ state r n u
    (advance_stage state f v.answer h (advance_answer_law (state_from state) v (advance_is state f v h t)))

-- an advance keeps the plan
advance_plan : (state : List ℕ) → (advanced (state_from state)).plan ≡ plan_from state
unfolding advanced state_from
advance_plan state = refl

pub advance_stored : (state after : List ℕ) (f : State) (v : Next) (b : Answer) (r : ℕ) → Ok f ≡ state_found state →
    v ≡ advance_of f → v.answer ≡ Good → AreBytes state → StoresRunning v.state state b after → r ≡ told b 0 →
    Advances state r after
advance_stored state after f v b r h t n bytes running z =
    let i = advance_is state f v h t in
    let same = ap (λ (s : State). s.plan) (advance_state (state_from state) v i n) ∙ advance_plan state in
    let u = running_stores v.state state b after bytes same running in
    let a : b ≡ v.answer = u.result ∙ state_room state f h ∙ sym n in
    rw (← advance_state (state_from state) v i n)
    (stored_outcome (advances_answer state) b 0 state_size (state_image v.state) state after r u
    (advance_stage state f b h (a ∙ advance_answer_law (state_from state) v i)) (uncounted b r z))
