-- Demand 2: which plans are admitted, how plan bytes stand for plans, and whom a slice serves. Beside document 01, "Supply and
-- verdict", "Plan bytes" and "Running".
-- Assumes nothing.
use Rattle.std.specs.Prelude.{◌≡◌, ◌≢◌, ◌↔◌, true, List, ◌++◌, ℕ, suc, ◌-◌, ◌≤◌, ◌<◌, get_or, take}
use Rattle.std.proofs.Common.{arith}
use Rattle.laws.specs.Count.{count_to}
use Rattle.answer.specs.declared.Answer.TheVariants.{Good}
use Rattle.answer.specs.Answer.{number, place, excess, slice}
use Rattle.plan.specs.declared.Plan.{Plan}
use Rattle.plan.specs.Order.{kind_of, InOrder, checked}
use Rattle.codec.specs.Bytes.{AreBytes}
use Rattle.plan_bytes.specs.Parts.{Shaped, encoded, size}
use Rattle.plan_bytes.specs.Reading.{read_of}
use Rattle.plan_bytes.specs.RoundTrip.{read_written, written_read, one_encoding}
use Rattle.layout.specs.Layout.{held}
use Rattle.verdict.specs.Verdict.{judged}
use Rattle.verdict.specs.Admission.{Fits, Allows, NotAdmitted, BadSlice, Names}
use Rattle.verdict.specs.Admission.Properties.{admitted_exactly, given_fits, given_least, given_slice, bad_one}
use Rattle.verdict.specs.Advice.{with_length}
use Rattle.verdict.specs.Advice.Properties.{advice}
use Rattle.rack.specs.declared.State.{State}
use Rattle.rack.specs.State.{unit_of, kind_at}
use Rattle.rack.specs.Form.{Ready}
use Rattle.rack.specs.Rank.{working, active_kinds, outranks, rank}
use Rattle.rack.specs.Row.{holds, row_byte}
use Rattle.rack.proofs.Laws.Row.{stands_held, stands_first, stands_ascending, cards_used}
use Rattle.demands.specs.Eight.{eight_exactly, eight_slice, eight_no_slice}
use Rattle.demands.specs.Stands.{stands_says, stands_of, enough_stand}

-- ---- 1. A plan is admitted exactly when the published comparison holds for every unit kind, on the slices the layout really gives

-- "Kind i fits at k when kCi + W <= S(k,Di)", for some k in 1..q
pub admitted_when : (p : Plan) → ((judged p).answer ≡ Good) ↔ (InOrder p × ((i : ℕ) → i < p.kinds → (k : ℕ) × Fits p i k))
admitted_when = admitted_exactly

-- "The verdict gives for each kind the least such k"
pub least_given : (p : Plan) → (judged p).answer ≡ Good → (i : ℕ) → i < p.kinds →
    let k = get_or (judged p).width i 0 in
    (Fits p i k) × ((other : ℕ) → Fits p i other → k ≤ other)
least_given p good i l = (given_fits p good i l, given_least p good i l)

-- "8: not admitted: first kind with no k, with its excess"
pub refused_when : (p : Plan) (i x : ℕ) →
    let a = (judged p).answer in
    ((number a ≡ 8) × (place a ≡ i) × (excess a ≡ x)) ↔ (InOrder p × NotAdmitted p i x)
refused_when = eight_exactly

-- the excess is right advice: with the length of the kind that is refused changed to any c of 1..C it has a k exactly when c <= C - x.
-- Shorter by the excess is enough where that leaves at least 1, by less never is, and where it is the whole C no length of at least 1 fits
pub advice_right : (p : Plan) (i x c : ℕ) →
    let a = (judged p).answer in
    let length = (kind_of p i).length in
    (number a ≡ 8) × (place a ≡ i) × (excess a ≡ x) →
    0 < c →
    c ≤ length →
    ((k : ℕ) × Fits (with_length p i c) i k) ↔ (c ≤ length - x)
advice_right p i x c told = let t = (refused_when p i x).0 told in advice p i x c t.0 t.1

-- "every verdict .. should pass that slice on for the k it names": beside each k stands the earliest slice of the frame from which a
-- unit sees exactly S(k,D), on the cards that the layout really gives
pub slice_beside : (p : Plan) → (judged p).answer ≡ Good → (i : ℕ) → i < p.kinds →
    BadSlice p i (get_or (judged p).width i 0) (get_or (judged p).slice i 0)
slice_beside = given_slice

-- ".. and excess": "that of the least k that allows C'"
pub slice_of_excess : (p : Plan) (k : ℕ) →
    let a = (judged p).answer in
    number a ≡ 8 → Names p (place a) (excess a) k → BadSlice p (place a) k (slice a)
slice_of_excess = eight_slice

-- ", or 0 without one"
pub no_slice_of_excess : (p : Plan) →
    let a = (judged p).answer in
    number a ≡ 8 → ((k : ℕ) → Allows p (place a) ((kind_of p (place a)).length - excess a) k → ⊥) → slice a ≡ 0
no_slice_of_excess = eight_no_slice

-- there is one such slice
pub one_slice : (p : Plan) → InOrder p → (i k a b : ℕ) → BadSlice p i k a → BadSlice p i k b → a ≡ b
one_slice p order i = bad_one p i order.counts.some_slice

-- ---- 2. Plan bytes are read and written by one layout, so each plan has one encoding

-- reading what was written, whatever follows it
pub written_then_read : (p : Plan) → Shaped p → checked p ≡ Good → (rest : List ℕ) →
    read_of (encoded p ++ rest) ≡ record { answer = Good; plan = p; taken = size p }
written_then_read = read_written

-- writing what was read
pub read_then_written : (s : List ℕ) → AreBytes s → (read_of s).answer ≡ Good → encoded (read_of s).plan ≡ take (read_of s).taken s
read_then_written = written_read

-- bytes that read as the same plan are the same bytes
pub only_encoding : (s t : List ℕ) → AreBytes s → AreBytes t →
    (read_of s).answer ≡ Good →
    (read_of t).answer ≡ Good →
    (read_of s).plan ≡ (read_of t).plan →
    take (read_of s).taken s ≡ take (read_of t).taken t
only_encoding = one_encoding

-- ---- 3. Each slice's cards are those that earliest deadline first names

module _ (s : State) (ready : Ready s) where
  -- kind i stands on a card exactly when it has slices left, the card is its project's, and its rank is the card's place among
  -- the project's: as many kinds with slices left outrank it as the project holds lower cards
  pub stands_when : (card i : ℕ) →
      let j = (kind_at s i).project in
      let place = count_to card (holds s.plan j s.slice) in
      (row_byte s card ≡ suc i) ↔
      ((i < s.plan.kinds) × (0 < (unit_of s i).left) × (holds s.plan j s.slice card ≡ true) × (rank s i ≡ place))
  stands_when card i = (stands_says s i card, stands_of s i card ready)

  -- so a kind with nothing left stands nowhere
  pub nothing_left : (card i : ℕ) → (unit_of s i).left ≡ 0 → row_byte s card ≢ suc i
  nothing_left card i none stands = omega (arith, (stands_says s i card stands).1)

  -- and where a project holds cards enough, all its work stands
  pub all_stand : (i : ℕ) →
      let j = (kind_at s i).project in
      i < s.plan.kinds →
      0 < (unit_of s i).left →
      active_kinds s j ≤ held s.plan j s.slice →
      (card : ℕ) × (card < s.plan.cards) × (row_byte s card ≡ suc i)
  all_stand i = enough_stand s i ready

  -- a kind stands on a card that its own project holds
  pub on_its_own : (card i : ℕ) → row_byte s card ≡ suc i → holds s.plan (kind_at s i).project s.slice card ≡ true
  on_its_own = stands_held s ready

  -- it goes before every kind of its project with slices left that stands on no card
  pub earliest_first : (card i k : ℕ) →
      row_byte s card ≡ suc i →
      k < s.plan.kinds →
      (kind_at s i).project ≡ (kind_at s k).project →
      working s k ≡ true →
      ((other : ℕ) → other < s.plan.cards → row_byte s other ≡ suc k → ⊥) →
      outranks s i k ≡ true
  earliest_first = stands_first s ready

  -- and before those of its project on higher cards
  pub ascending : (lower higher i k : ℕ) →
      row_byte s lower ≡ suc i →
      row_byte s higher ≡ suc k →
      (kind_at s i).project ≡ (kind_at s k).project →
      lower < higher →
      outranks s i k ≡ true
  ascending = stands_ascending s ready

  -- no card of a project with enough work is idle
  pub none_idle : (j card : ℕ) →
      j < s.plan.projects →
      holds s.plan j s.slice card ≡ true →
      held s.plan j s.slice ≤ active_kinds s j →
      0 < row_byte s card
  none_idle = cards_used s ready
