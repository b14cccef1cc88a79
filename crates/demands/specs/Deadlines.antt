-- Demand 3: what the rows owe each unit, each card and each project. Beside document 01, "Running".
-- Of every run: any calls of show, advance and release, with any arguments and any lent row, refused ones among them, from a fresh
-- start on an admitted plan. Its accepted slices are those advanced, "each with the row that showing gives on the very state
-- advanced, shown or not"; `Showing` ties these rows to those that showing leaves.
-- Assumes nothing.
use Rattle.std.specs.Prelude.{◌≡◌, ◌≢◌, ◌↔◌, true, false, List, ℕ, ◌+◌, ◌-◌, ◌%◌, ◌≤◌, ◌<◌, min, length, get_or, take, drop}
use Rattle.std.proofs.Common.{ap, arith, take_all}
use Rattle.plan.specs.declared.Plan.{Plan}
use Rattle.answer.specs.declared.Answer.TheVariants.{Good}
use Rattle.answer.specs.Answer.{number}
use Rattle.plan.specs.Order.{within, budget_of, kind_of}
use Rattle.layout.specs.Layout.{held}
use Rattle.rack.specs.State.{unit_of}
use Rattle.rack.specs.Rank.{active_kinds}
use Rattle.rack.specs.Row.{row_of, takes}
use Rattle.rack.specs.Start.{start_of}
use Rattle.rack.specs.Release.{release_of}
use Rattle.rack.specs.Advance.{advance_of}
use Rattle.demands.specs.Run.{Call, next_after, run_from, after, slices_of, no_slice}
use Rattle.demands.specs.Since.{never, since_from, fewer}
use Rattle.demands.specs.Named.{names_kind, names_project, bytes_in, bytes_naming, Orderly, Apart}
use Rattle.demands.specs.Shown.{shown, up_to, none, last_from, left_of, restarted, kinds_left}
use Rattle.demands.specs.Cards.{named_apart}
use Rattle.demands.specs.KeptShown.{one_kind_each, row_names, shown_left, shown_unit, shown_work}
use Rattle.demands.specs.Kept.{unit_named, unit_gone, unit_left, row_orderly, row_serves, project_most, project_all}
use Rattle.demands.specs.Kept.{advance_always, not_ten, fourteen_says, fourteen_of, slice_counts}

module _ (p : Plan) (admitted : (start_of p).answer ≡ Good) where
  -- ---- 1. In time

  -- after any calls a release of kind i with length e is accepted: the rows of the next D accepted slices name the kind e times
  pub in_time : (calls more : List Call) (i e : ℕ) →
      let next = release_of (after p calls) i e in
      let slices = slices_of next.state more in
      let deadline = (kind_of p i).deadline in
      next.answer ≡ Good →
      deadline ≤ length slices →
      bytes_naming (names_kind i) (take deadline slices) ≡ e
  in_time calls more i e good enough = let n = unit_named p admitted calls more i e good in omega (arith, n.most, n.least)

  -- after x of them, what is left is at most D - x
  pub in_time_so_far : (calls more : List Call) (i e : ℕ) →
      let next = release_of (after p calls) i e in
      let slices = slices_of next.state more in
      let deadline = (kind_of p i).deadline in
      next.answer ≡ Good →
      length slices ≤ deadline →
      e - bytes_naming (names_kind i) slices ≤ deadline - length slices
  in_time_so_far calls more i e good few =
      let slices = slices_of (release_of (after p calls) i e).state more in
      let all = ap (bytes_naming (names_kind i)) (take_all (kind_of p i).deadline slices few) in
      omega (arith, (unit_named p admitted calls more i e good).least, all)

  -- "A unit released at clock r is in time if left is 0 when the clock is r + D": while it is the kind's last (no other release of the
  -- kind is shown), the state's left is at most D - x
  pub left_in_time : (calls more : List Call) (i e : ℕ) →
      let next = release_of (after p calls) i e in
      let end = run_from next.state more in
      next.answer ≡ Good →
      restarted i (shown next.state more) ≡ false →
      (unit_of end i).left ≤ (kind_of p i).deadline - length (slices_of next.state more)
  left_in_time = unit_left p admitted

  -- ---- 2. No card serves two units, no unit holds two cards, no project exceeds its ceiling

  -- every row
  pub rows_orderly : (calls : List Call) (x : ℕ) →
      let slices = slices_of (start_of p).state calls in
      x < length slices →
      Orderly p (get_or slices x no_slice).row
  rows_orderly = row_orderly p admitted

  -- and what a row says is what is done: each kind's left falls by the bytes that name it
  pub rows_serve : (calls : List Call) (i : ℕ) →
      let s = after p calls in
      let next = advance_of s in
      next.answer ≡ Good →
      i < p.kinds →
      (unit_of next.state i).left + bytes_in (names_kind i) (row_of s) ≡ (unit_of s i).left
  rows_serve = row_serves p admitted

  -- no two kinds take one card
  pub one_kind_a_card : (calls : List Call) (card i k : ℕ) →
      let s = after p calls in
      i < p.kinds →
      k < p.kinds →
      takes s i card ≡ true →
      takes s k card ≡ true →
      i ≡ k
  one_kind_a_card = one_kind_each p admitted

  -- and a card's byte names the kind that takes it
  pub rows_name : (calls : List Call) (card i : ℕ) →
      let s = after p calls in
      (advance_of s).answer ≡ Good →
      card < p.cards →
      (names_kind i (get_or (row_of s) card 0) ≡ true) ↔ ((i < p.kinds) × (takes s i card ≡ true))
  rows_name = row_names p admitted

  -- so two units of which one slice takes stand on two cards
  pub served_apart : (calls : List Call) (i k : ℕ) →
      let s = after p calls in
      let next = advance_of s in
      next.answer ≡ Good →
      i < p.kinds →
      k < p.kinds →
      i ≢ k →
      (unit_of next.state i).left < (unit_of s i).left →
      (unit_of next.state k).left < (unit_of s k).left →
      Apart i k (row_of s)
  served_apart calls i k good l m d a b =
      let first = rows_serve calls i good l in
      let second = rows_serve calls k good m in
      named_apart i k (row_of (after p calls)) d (omega (arith, first)) (omega (arith, second))

  -- ---- 3. Budget

  -- in any F accepted slices in a row, the bytes that name kinds of project j are at most B
  pub budget_at_most : (calls : List Call) (x j : ℕ) →
      let slices = slices_of (start_of p).state calls in
      j < p.projects →
      x + p.frame ≤ length slices →
      bytes_naming (names_project p j) (take p.frame (drop x slices)) ≤ budget_of p j
  budget_at_most = project_most p admitted

  -- and exactly B if at each of those slices at least as many of its kinds have work left as it holds cards
  pub budget_exactly : (calls : List Call) (x j : ℕ) →
      let slices = slices_of (start_of p).state calls in
      j < p.projects →
      x + p.frame ≤ length slices →
      ((y : ℕ) → y < p.frame → let s = (get_or slices (x + y) no_slice).before in held p j s.slice ≤ active_kinds s j) →
      bytes_naming (names_project p j) (take p.frame (drop x slices)) ≡ budget_of p j
  budget_exactly = project_all p admitted

  -- ---- 4. Refusals on the way

  -- 10 never occurs
  pub never_out_of_form : (calls : List Call) (call : Call) → number (next_after (after p calls) call).answer ≢ 10
  never_out_of_form = not_ten p admitted

  -- "A rack runs for ever": every advance is accepted
  pub runs_for_ever : (calls : List Call) → (advance_of (after p calls)).answer ≡ Good
  runs_for_ever = advance_always p admitted

  -- 14 says the truth: it is given exactly where 12 and 13 are not, and fewer than T accepted slices are gone since the last
  -- accepted release of the kind
  pub told_early : (calls : List Call) (i e : ℕ) →
      let since = since_from i (start_of p).state never calls in
      (number (release_of (after p calls) i e).answer ≡ 14) ↔
      ((i < p.kinds) × (within (kind_of p i).length e ≡ true) × (fewer (kind_of p i).separation since ≡ true))
  told_early calls i e = (fourteen_says p admitted calls i e, fourteen_of p admitted calls i e)

  -- ---- 5. The slice within the frame, and the slices gone

  -- the slice is the number of accepted slices since the fresh start, modulo F
  pub slice_tells : (calls : List Call) → (after p calls).slice ≡ length (slices_of (start_of p).state calls) % p.frame
  slice_tells = slice_counts p admitted

  -- the slices gone are those accepted since the kind's last accepted release, held at T
  pub gone_tells : (calls more : List Call) (i e : ℕ) →
      let next = release_of (after p calls) i e in
      let end = run_from next.state more in
      next.answer ≡ Good →
      restarted i (shown next.state more) ≡ false →
      (unit_of end i).gone ≡ min (kind_of p i).separation (length (slices_of next.state more))
  gone_tells = unit_gone p admitted

  -- ---- 6. The same from what a run shows: its accepted releases and the rows of its slices

  -- what is left of a kind's last unit is its length less the bytes that have named the kind since its release
  pub left_shown : (calls : List Call) (i : ℕ) →
      i < p.kinds →
      (unit_of (after p calls) i).left ≡ left_of (last_from i none (shown (start_of p).state calls))
  left_shown = shown_left p admitted

  -- what is left of a unit that is the kind's last
  pub unit_shown : (calls more : List Call) (i e : ℕ) →
      let next = release_of (after p calls) i e in
      let end = run_from next.state more in
      next.answer ≡ Good →
      restarted i (shown next.state more) ≡ false →
      (unit_of end i).left + bytes_naming (names_kind i) (slices_of next.state more) ≡ e
  unit_shown = shown_unit p admitted

  -- `left_in_time`
  pub in_time_shown : (calls more : List Call) (i e : ℕ) →
      let next = release_of (after p calls) i e in
      let slices = slices_of next.state more in
      next.answer ≡ Good →
      restarted i (shown next.state more) ≡ false →
      e - bytes_naming (names_kind i) slices ≤ (kind_of p i).deadline - length slices
  in_time_shown calls more i e good same =
      omega (arith, unit_shown calls more i e good same, left_in_time calls more i e good same)

  -- the premise of `budget_exactly`: before slice x, the cards held and the kinds with work left
  pub work_shown : (calls : List Call) (x j : ℕ) →
      let slices = slices_of (start_of p).state calls in
      let s = (get_or slices x no_slice).before in
      x < length slices →
      (held p j s.slice ≡ held p j x) × (active_kinds s j ≡ kinds_left p j (up_to x (shown (start_of p).state calls)))
  work_shown = shown_work p admitted

  -- `budget_exactly`
  pub budget_shown : (calls : List Call) (x j : ℕ) →
      let slices = slices_of (start_of p).state calls in
      let events = shown (start_of p).state calls in
      j < p.projects →
      x + p.frame ≤ length slices →
      ((y : ℕ) → y < p.frame → held p j (x + y) ≤ kinds_left p j (up_to (x + y) events)) →
      bytes_naming (names_project p j) (take p.frame (drop x slices)) ≡ budget_of p j
  budget_shown calls x j l enough busy =
      budget_exactly calls x j l enough (λ y m. let w = work_shown calls (x + y) j (omega arith) in rw (w.0, w.1) (busy y m))
