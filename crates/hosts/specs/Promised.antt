-- What a host is promised that starts a state's image fresh from a plan's image and then makes any calls on it, each on the bytes that
-- the last one left: it sees a run of the rack, and demand 3 holds of what it sees. The image of the plan and the lent buffers are any
-- bytes.
-- Assumes nothing.
use Rattle.std.specs.Prelude.{◌≡◌, refl, ◌≢◌, ◌↔◌, Bool, true, List, [], ◌∷◌, ◌++◌, ℕ, ◌+◌, ◌%◌, ◌≤◌, ◌<◌, length, get_or, drop}
use Rattle.std.proofs.Math.Path.{sym, ap}
use Rattle.std.proofs.Common.{subst, ◌∙◌, arith}
use Rattle.std.proofs.Math.ListN.{take}
use Rattle.answer.specs.declared.Answer.{Answer}
use Rattle.answer.specs.declared.Answer.TheVariants.{Good}
use Rattle.answer.specs.Answer.{number, ◌and_then◌, if_good}
use Rattle.answer.specs.Answer.Properties.{and_then_left, and_then_right}
use Rattle.answer.specs.Word.{told, number_in}
use Rattle.answer.specs.Numbers.{small}
use Rattle.plan.specs.declared.Plan.{Plan}
use Rattle.plan.specs.Order.{within, budget_of, kind_of}
use Rattle.layout.specs.Layout.{held}
use Rattle.rack.specs.declared.State.{State}
use Rattle.rack.specs.State.{fresh_of, unit_of}
use Rattle.rack.specs.Sums.{left_row}
use Rattle.rack.specs.Start.{start_answer, start_of}
use Rattle.rack.specs.Start.Properties.{start_good}
use Rattle.rack.specs.Release.{release_of}
use Rattle.rack.specs.Row.{row_of}
use Rattle.rack.specs.Show.{show_answer, buffer_shown}
use Rattle.rack.proofs.Laws.Show.{show_first}
use Rattle.rack.specs.Advance.{advance_of}
use Rattle.images.specs.Image.{plan_size, state_size, plan_from, state_from, state_image}
use Rattle.images.specs.Lent.{room}
use Rattle.images.specs.Typed.{StateTyped}
use Rattle.images.specs.Typed.Properties.{plan_found_typed, start_typed}
use Rattle.images.specs.RoundTrip.{state_round_trip}
use Rattle.rack_calls.specs.Exports.{fresh_answer, Starts, Releases, ShowsRow, Advances}
use Rattle.rack_calls.specs.OneOutcome.{parchbeetle_show_one_outcome}
use Rattle.demands.specs.Run.{Call, show, advance, release, next_after, run_from, after, slices_of}
use Rattle.demands.specs.Run.Properties.{run_plan}
use Rattle.demands.specs.Named.{names_kind, names_project, bytes_in, bytes_naming, Orderly}
use Rattle.demands.specs.Since.{never, since_from, fewer}
use Rattle.demands.specs.Shown.{Event, shown, kinds_left, up_to}
use Rattle.demands.specs.Numbers.{verdict_order, release_order, show_order, advance_order}
use Rattle.demands.specs.Numbers.{release_numbers, show_numbers, advance_numbers}
use Rattle.demands.specs.Deadlines as rack
use Rattle.demands.specs.RowOfSums as sums
use Rattle.hosts.specs.Words.{fresh_listed, uncounted}
use Rattle.hosts.specs.Chain.{Seen, lent, Called, Chain, seen_of, all_seen}
use Rattle.hosts.specs.Chain.Properties.{call_is, next_typed, chain_is_run, run_typed}
use Rattle.hosts.specs.Events.{events_seen, rows_in, bytes_over, since_seen}
use Rattle.hosts.specs.Events.Properties.{number_told, accepted_good, small_show, small_advance, small_release, lent_shows}
use Rattle.hosts.specs.Events.Properties.{events_shown}
use Rattle.hosts.specs.Events.Properties.{rows_of, rows_shown, rows_count, rows_take, rows_drop, rows_at, rows_named, since_shown}

-- the rows of the slices advanced
abbrev pub rows_seen : ℕ → List Call → List Seen → List (List ℕ)
rows_seen cards calls seens = rows_in (events_seen cards calls seens)

fresh_small : small (9 ∷ verdict_order) ≡ true
unfolding small
fresh_small = refl

-- ---- one call

-- an accepted showing
shown_good : (s : State) (row : List ℕ) (word : ℕ) → word ≡ told (show_answer s (length row)) 0 → number_in word ≡ 0
    → show_answer s (length row) ≡ Good
shown_good s row word e z = accepted_good show_order _ small_show (show_numbers s (length row)) (sym (ap number_in e) ∙ z)

-- an accepted advance
advanced_good : (s : State) (word : ℕ) → word ≡ told (advance_of s).answer 0 → number_in word ≡ 0 → (advance_of s).answer ≡ Good
unfolding advance_of
advanced_good s word e z = accepted_good advance_order _ small_advance (advance_numbers s) (sym (ap number_in e) ∙ z)

-- the number that is seen is the rack's
seen_number : (s : State) (call : Call) (seen : Seen) → seen ≡ seen_of s call → number_in seen.word ≡ number (next_after s call).answer
unfolding advance_of release_of
seen_number s (show row) seen e = ap (λ (x : Seen). number_in x.word) e
    ∙ number_told show_order _ small_show (show_numbers s (length row))
seen_number s advance seen e = ap (λ (x : Seen). number_in x.word) e
    ∙ number_told advance_order _ small_advance (advance_numbers s)
seen_number s (release i l) seen e = ap (λ (x : Seen). number_in x.word) e
    ∙ number_told release_order _ small_release (release_numbers s i l)

-- no call changes the plan
kept_plan : (s : State) (call : Call) → (next_after s call).state.plan ≡ s.plan
unfolding run_from
kept_plan s call = run_plan (call ∷ []) s

-- ---- a host

module _ (plan state first : List ℕ) (word : ℕ) (fresh : Starts plan state word first) (accepted : number_in word ≡ 0) where
  -- the plan that the image says
  abbrev p : Plan
  p = plan_from plan

  -- what stands behind the state in its buffer
  abbrev rest : List ℕ
  rest = drop state_size state

  fresh_good : fresh_answer plan state ≡ Good
  fresh_good =
      let a = fresh_answer plan state in
      accepted_good (9 ∷ verdict_order) a fresh_small (fresh_listed plan state)
      (ap number_in (sym (fresh.result ∙ ap (told a) (uncounted a))) ∙ accepted)

  start_answer_good : start_answer p ≡ Good
  unfolding fresh_answer
  start_answer_good =
      and_then_left (start_answer p) (room state state_size)
      (and_then_right (room plan plan_size) (start_answer p and_then room state state_size) fresh_good)

  -- the fresh start was accepted, so the plan is admitted
  pub admitted : (start_of p).answer ≡ Good
  unfolding start_of
  admitted = start_answer_good

  start : State
  start = (start_of p).state

  start_is : start ≡ fresh_of p
  unfolding start
  start_is = start_good p admitted

  start_plan : start.plan ≡ p
  start_plan = ap (λ (s : State). s.plan) start_is

  typed : StateTyped start
  typed = rw start_is (start_typed p (plan_found_typed plan))

  first_stands : first ≡ state_image start ++ rest
  first_stands = fresh.buffer ∙ ap (λ (a : Answer). if_good a (state_image (fresh_of p) ++ rest) state) fresh_good
      ∙ ap (λ (s : State). state_image s ++ rest) (sym start_is)

  at_plan : (calls : List Call) → (after p calls).plan ≡ p
  unfolding start
  at_plan calls = run_plan calls start ∙ start_plan

  at_typed : (calls : List Call) → StateTyped (after p calls)
  unfolding start
  at_typed calls = run_typed calls start typed

  -- ---- a chain of calls is a run

  module _ (calls : List Call) (seens : List Seen) (end : List ℕ) (chain : Chain first calls seens end) where
    both : (seens ≡ all_seen start calls) × (end ≡ state_image (run_from start calls) ++ rest)
    both = chain_is_run calls seens start typed rest end (subst (λ (l : List ℕ). Chain l calls seens end) first_stands chain)

    -- each call's number is the rack's answer, and each row the rack's row
    pub seen_is_run : seens ≡ all_seen (start_of p).state calls
    unfolding start
    seen_is_run = both.0

    -- the bytes stand for the state of that run, and those behind it keep their value
    pub bytes_are_state : end ≡ state_image (after p calls) ++ drop state_size state
    unfolding start
    bytes_are_state = both.1

    -- so that state is what an image reader finds
    pub state_found : state_from end ≡ after p calls
    state_found = ap state_from bytes_are_state ∙ state_round_trip (after p calls) (at_typed calls) rest

    events_are : events_seen p.cards calls seens ≡ shown (start_of p).state calls
    unfolding start
    events_are = ap (events_seen p.cards calls) seen_is_run ∙ events_shown p.cards calls start (ap (λ (q : Plan). q.cards) start_plan)

    rows_are : rows_seen p.cards calls seens ≡ rows_of (slices_of (start_of p).state calls)
    rows_are = ap rows_in events_are ∙ rows_shown calls (start_of p).state

    part : (test : ℕ → Bool) (x n : ℕ)
        → bytes_over test (take n (drop x (rows_seen p.cards calls seens))) ≡ bytes_naming test
        (take n (drop x (slices_of (start_of p).state calls)))
    part test x n =
        let ws = slices_of (start_of p).state calls in
        ap (λ (r : List (List ℕ)). bytes_over test (take n (drop x r))) rows_are
        ∙ ap (λ (r : List (List ℕ)). bytes_over test (take n r)) (rows_drop x ws)
        ∙ ap (bytes_over test) (rows_take n (drop x ws))
        ∙ rows_named test (take n (drop x ws))

    -- the next call
    pub next_is_run : (call : Call) (seen : Seen) (next : List ℕ) → Called end call seen next
        → (seen ≡ seen_of (after p calls) call) × (next ≡ state_image (next_after (after p calls) call).state ++ drop state_size state)
    next_is_run call seen next c =
        call_is (after p calls) (at_typed calls) rest call seen next (subst (λ (l : List ℕ). Called l call seen next) bytes_are_state c)

    -- ---- 2. No card serves two units, no unit holds two cards, no project exceeds its ceiling

    -- every row
    pub rows_orderly : (x : ℕ) →
        let rows = rows_seen p.cards calls seens in
        x < length rows →
        Orderly p (get_or rows x [])
    rows_orderly x l =
        let ws = slices_of (start_of p).state calls in
        let m : x < length ws = omega (arith, rows_count ws, ap length rows_are) in
        subst (Orderly p) (sym (ap (λ (r : List (List ℕ)). get_or r x []) rows_are ∙ rows_at x ws)) (rack.rows_orderly p admitted calls x m)

    -- ---- 3. Budget

    -- in any F accepted slices in a row, the bytes that name kinds of project j are at most B
    pub budget_at_most : (x j : ℕ) →
        let rows = rows_seen p.cards calls seens in
        j < p.projects →
        x + p.frame ≤ length rows →
        bytes_over (names_project p j) (take p.frame (drop x rows)) ≤ budget_of p j
    budget_at_most x j l enough =
        let ws = slices_of (start_of p).state calls in
        let m : x + p.frame ≤ length ws = omega (arith, rows_count ws, ap length rows_are) in
        rw (part (names_project p j) x p.frame) (rack.budget_at_most p admitted calls x j l m)

    -- and exactly B if at each of those slices at least as many of its kinds have work left, by what was seen until then, as it holds cards
    pub budget_exactly : (x j : ℕ) →
        let events = events_seen p.cards calls seens in
        let rows = rows_in events in
        j < p.projects →
        x + p.frame ≤ length rows →
        ((y : ℕ) → y < p.frame → held p j (x + y) ≤ kinds_left p j (up_to (x + y) events)) →
        bytes_over (names_project p j) (take p.frame (drop x rows)) ≡ budget_of p j
    budget_exactly x j l enough busy =
        let ws = slices_of (start_of p).state calls in
        let m : x + p.frame ≤ length ws = omega (arith, rows_count ws, ap length rows_are) in
        part (names_project p j) x p.frame
        ∙ rack.budget_shown p admitted calls x j l m
        (λ y k. subst (λ (es : List Event). held p j (x + y) ≤ kinds_left p j (up_to (x + y) es)) events_are (busy y k))

    -- ---- 5. The slice within the frame

    -- it is the number of accepted slices since the fresh start, modulo F
    pub slice_tells : (state_from end).slice ≡ length (rows_seen p.cards calls seens) % p.frame
    slice_tells =
        ap (λ (s : State). s.slice) state_found ∙ rack.slice_tells p admitted calls
        ∙ ap (λ (n : ℕ). n % p.frame) (sym (ap length rows_are ∙ rows_count (slices_of (start_of p).state calls)))

    -- ---- a release after these calls

    module _ (i e : ℕ) (told-number : ℕ) (next : List ℕ) (call : Releases end i e told-number next) where
      released_both : (record { word = told-number; row = [] } ≡ seen_of (after p calls) (release i e)) ×
          (next ≡ state_image (release_of (after p calls) i e).state ++ rest)
      released_both = next_is_run (release i e) (record { word = told-number; row = [] }) next (call, refl)

      released_word : told-number ≡ told (release_of (after p calls) i e).answer 0
      released_word = ap (λ (s : Seen). s.word) released_both.0

      released_number : number_in told-number ≡ number (release_of (after p calls) i e).answer
      unfolding release_of
      released_number = ap number_in released_word ∙ number_told release_order _ small_release (release_numbers (after p calls) i e)

      released_good : number_in told-number ≡ 0 → (release_of (after p calls) i e).answer ≡ Good
      unfolding release_of
      released_good z =
          accepted_good release_order _ small_release (release_numbers (after p calls) i e) (sym (ap number_in released_word) ∙ z)

      -- ---- 1. In time

      -- it is accepted: the rows of the next D accepted slices name the kind e times
      pub in_time : (more : List Call) (later : List Seen) (last : List ℕ) →
          let rows = rows_seen p.cards more later in
          let deadline = (kind_of p i).deadline in
          number_in told-number ≡ 0 →
          Chain next more later last →
          deadline ≤ length rows →
          bytes_over (names_kind i) (take deadline rows) ≡ e
      in_time more later last z chain enough =
          let s = (release_of (after p calls) i e).state in
          let d = (kind_of p i).deadline in
          let t = next_typed (after p calls) (at_typed calls) rest (release i e) in
          let run = chain_is_run more later s t rest last (subst (λ (l : List ℕ). Chain l more later last) released_both.1 chain) in
          let q : s.plan ≡ p = one_plan in
          let es = ap (events_seen p.cards more) run.0 ∙ events_shown p.cards more s (ap (λ (r : Plan). r.cards) q) in
          let rs : rows_seen p.cards more later ≡ rows_of (slices_of s more) = ap rows_in es ∙ rows_shown more s in
          let ws = slices_of s more in
          let m : d ≤ length ws = omega (arith, rows_count ws, ap length rs) in
          ap (λ (r : List (List ℕ)). bytes_over (names_kind i) (take d r)) rs
          ∙ ap (bytes_over (names_kind i)) (rows_take d ws)
          ∙ rows_named (names_kind i) (take d ws)
          ∙ rack.in_time p admitted calls more i e (released_good z) m
        where
          one_plan : (release_of (after p calls) i e).state.plan ≡ p
          one_plan = kept_plan (after p calls) (release i e) ∙ at_plan calls

      -- ---- 4. Refusals on the way

      -- 14 says the truth: it is given exactly where 12 and 13 are not, and fewer than T accepted slices are gone since the last
      -- accepted release of the kind
      pub told_early :
          let since = since_seen i never (events_seen p.cards calls seens) in
          (number_in told-number ≡ 14) ↔
          ((i < p.kinds) × (within (kind_of p i).length e ≡ true) × (fewer (kind_of p i).separation since ≡ true))
      told_early =
          let since : since_seen i never (events_seen p.cards calls seens) ≡ since_from i (start_of p).state never calls =
          ap (since_seen i never) events_are ∙ since_shown i calls (start_of p).state never in
          rw (since, released_number) (rack.told_early p admitted calls i e)

    -- ---- a showing after these calls, and an advance

    -- an accepted showing leaves in the first m bytes the row of the bytes' state
    pub row_shown : (row cards : List ℕ) (told-number : ℕ) →
        ShowsRow end row told-number cards →
        number_in told-number ≡ 0 →
        take p.cards cards ≡ row_of (state_from end)
    row_shown row cards told-number call z =
        let s = after p calls in
        let v = next_is_run (show row) (record { word = told-number; row = cards }) end (call, refl) in
        let good = shown_good s row told-number (ap (λ (x : Seen). x.word) v.0) z in
        ap (λ (x : Seen). take p.cards x.row) v.0
        ∙ ap (λ (q : Plan). take q.cards (buffer_shown s row)) (sym (at_plan calls))
        ∙ show_first s row good ∙ ap row_of (sym state_found)

    -- an advance, beside what showing would leave on the same bytes
    advances_run : (next : List ℕ) (told-number : ℕ) → Advances end told-number next
        → (told-number ≡ told (advance_of (after p calls)).answer 0) × (next ≡ state_image (advance_of (after p calls)).state ++ rest)
    advances_run next told-number call =
        let would = parchbeetle_show_one_outcome end lent in
        let seen : Seen = record { word = told-number; row = would.outcome.buffer } in
        let v = next_is_run advance seen next (call, (would.outcome.result, would.meets)) in
        (ap (λ (x : Seen). x.word) v.0, v.1)

    -- it is the row that counts when these bytes are advanced
    pub row_counted : (row cards next : List ℕ) (shown-number : ℕ) (seen : Seen) →
        ShowsRow end row shown-number cards →
        number_in shown-number ≡ 0 →
        Called end advance seen next →
        number_in seen.word ≡ 0 →
        take p.cards cards ≡ take p.cards seen.row
    unfolding advance_of
    row_counted row cards next shown-number seen shows y call z =
        let s = after p calls in
        let v = next_is_run advance seen next call in
        let good = advanced_good s seen.word (ap (λ (x : Seen). x.word) v.0) z in
        row_shown row cards shown-number shows y ∙ ap row_of state_found
        ∙ sym (lent_shows s good)
        ∙ ap (λ (q : Plan). take q.cards (buffer_shown s lent)) (at_plan calls)
        ∙ sym (ap (λ (x : Seen). take p.cards x.row) v.0)

    -- and what that row says is what the advance does: each kind's left falls by the bytes that name it
    pub rows_serve : (row cards next : List ℕ) (shown-number told-number i : ℕ) →
        ShowsRow end row shown-number cards →
        number_in shown-number ≡ 0 →
        Advances end told-number next →
        number_in told-number ≡ 0 →
        i < p.kinds →
        (unit_of (state_from next) i).left + bytes_in (names_kind i) (take p.cards cards) ≡ (unit_of (state_from end) i).left
    rows_serve row cards next shown-number told-number i shows y call z l =
        let s = after p calls in
        let a = advances_run next told-number call in
        let n : state_from next ≡ (advance_of s).state =
        ap state_from a.1 ∙ state_round_trip (advance_of s).state (next_typed s (at_typed calls) rest advance) rest in
        let b : take p.cards cards ≡ row_of s = row_shown row cards shown-number shows y ∙ ap row_of state_found in
        rw (n, state_found, b) (rack.rows_serve p admitted calls i (advanced_good s told-number a.0 z) l)

    -- ---- 4. Refusals on the way

    -- 10 never occurs
    pub never_out_of_form : (call : Call) (seen : Seen) (next : List ℕ) → Called end call seen next → number_in seen.word ≢ 10
    never_out_of_form call seen next c z =
        rack.never_out_of_form p admitted calls call (sym (seen_number (after p calls) call seen (next_is_run call seen next c).0) ∙ z)

    -- 16 never occurs
    pub never_differs : (call : Call) (seen : Seen) (next : List ℕ) → Called end call seen next → number_in seen.word ≢ 16
    never_differs call seen next c z =
        sums.never_differs p admitted calls call (sym (seen_number (after p calls) call seen (next_is_run call seen next c).0) ∙ z)

    -- for the row of sums that the bytes say is that of what they say is left
    pub row_right : (state_from end).sum ≡ left_row (state_from end)
    row_right = rw state_found (sums.row_right p admitted calls)

    -- every advance is accepted: a rack runs for ever
    pub runs_for_ever : (seen : Seen) (next : List ℕ) → Called end advance seen next → number_in seen.word ≡ 0
    runs_for_ever seen next c =
        seen_number (after p calls) advance seen (next_is_run advance seen next c).0 ∙ ap number (rack.runs_for_ever p admitted calls)
