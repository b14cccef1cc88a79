-- Document 02 (vi), "A simple form for one-kind projects": what is built from m and a list of (T, C), when it is refused, and that it may
-- be run. `n`, `T` and `C` are what the list says: how many kinds, and of each its separation and its length.
-- Assumes nothing.
use Rattle.std.specs.Prelude.{◌≡◌, ◌↔◌, List, ◌++◌, ℕ, ◌*◌, ◌/◌, ◌≤◌, ◌<◌, length, take}
use Rattle.std.proofs.Math.Path.{refl}
use Rattle.std.proofs.Common.{sym, ap, ◌∙◌}
use Rattle.std.specs.Int.{◌∣◌}
use Rattle.laws.specs.Sum.{sum_to}
use Rattle.answer.specs.declared.Answer.TheVariants.{Good}
use Rattle.answer.specs.Answer.{number, place}
use Rattle.plan.specs.Order.{project_of, kind_of, budget_of}
use Rattle.plan_bytes.specs.Parts.{encoded, size}
use Rattle.plan_bytes.specs.Reading.{read_of}
use Rattle.plan_bytes.specs.Writing.{write_answer}
use Rattle.verdict.specs.Verdict.{judged}
use Rattle.smallest_budget.specs.Smallest.{smallest_of}
use Rattle.one_kind.specs.Divisor.Properties.{divides_each, divides_greatest}
use Rattle.one_kind.specs.Wanted.{kinds_in, separation_in, length_in}
use Rattle.one_kind.specs.Built.{rounded_up, frame_for, budget_for, plan_for, answer_for, built_of, Offer, Untimed, InLimits, Buildable}
use Rattle.one_kind.specs.Built.Properties.{rounded_enough, rounded_least, project_is, kind_is}
use Rattle.one_kind.specs.Admitted.{built_says, built_of_law, built_admitted}
use Rattle.one_kind.specs.Exact.{cells_parts, parts_cells}
use Rattle.one_kind.specs.Told.{seventeen_says, seventeen_of, eighteen_says, eighteen_of, six_says, six_of, nineteen_says, nineteen_of}
use Rattle.one_kind.specs.Told.{seven_says, seven_of}
use Rattle.rack.specs.Start.{start_of}
use Rattle.rack.specs.Release.{release_of}
use Rattle.demands.specs.Run.{Call, after, slices_of}
use Rattle.demands.specs.Named.{names_kind, bytes_naming}
use Rattle.demands.specs.Deadlines.{in_time}
use Rattle.demands.specs.OneKind.{built_starts, built_written, built_read, built_least}

-- ---- 1. "F is the greatest common divisor of all separations"

-- it divides every separation
pub frame_divides : (n : ℕ) (T : ℕ → ℕ) (i : ℕ) → i < n → frame_for n T ∣ T i
frame_divides = divides_each

-- and whatever divides every separation divides it
pub frame_greatest : (n : ℕ) (T : ℕ → ℕ) (d : ℕ) → ((i : ℕ) → i < n → d ∣ T i) → d ∣ frame_for n T
frame_greatest = divides_greatest

-- ---- 2. "B is FC/T rounded up": BT is at least FC, and no smaller budget does that

pub rounded_up_law : (F T C : ℕ) → 0 < T → (F * C ≤ rounded_up F T C * T) × ((b : ℕ) → F * C ≤ b * T → rounded_up F T C ≤ b)
rounded_up_law F T C some = (rounded_enough F T C some, rounded_least F T C some)

module _ (m : ℕ) (list : List ℕ) where
  abbrev n : ℕ
  n = kinds_in list

  abbrev T : ℕ → ℕ
  T = separation_in list

  abbrev C : ℕ → ℕ
  C = length_in list

  answered : (built_of m list).answer ≡ answer_for m n T C
  unfolding built_of
  answered = refl

  -- ---- 3. When a plan is built

  -- exactly when 17, 18, 6 and 19 do not apply and the sum of the rounded budgets is at most mF
  pub built_when : ((built_of m list).answer ≡ Good) ↔ Buildable m n T C
  built_when = (λ e. built_says m n T C (sym answered ∙ e), λ w. answered ∙ built_of_law m n T C w)

  -- "where each FC is a multiple of T it is built exactly when the sum of C/T is at most m, within the limits": over any common
  -- multiple M of the separations C/T is C(M/T) parts of M
  pub built_exactly : (M : ℕ) →
      InLimits m n T C →
      frame_for n T ≤ 64 →
      0 < M →
      ((i : ℕ) → i < n → T i ∣ M) →
      ((i : ℕ) → i < n → T i ∣ frame_for n T * C i) →
      ((built_of m list).answer ≡ Good) ↔ (sum_to n (λ i. C i * (M / T i)) ≤ m * M)
  built_exactly M o f some multiple whole = (
    λ e. cells_parts m n T C o M multiple whole (built_when.0 e).cells,
    λ l. built_when.1 (record { limits = o; frame_most = f; cells = parts_cells m n T C o M multiple whole some l }),
  )

  -- ---- 4. When it is refused

  -- "17 for m out of range or an empty list"
  pub out_of_range_when : (number (built_of m list).answer ≡ 17) ↔ (Offer m n → ⊥)
  out_of_range_when = rw answered (seventeen_says m n T C, seventeen_of m n T C)

  -- "18 for more than eight kinds"
  pub too_many_when : (number (built_of m list).answer ≡ 18) ↔ ((Offer m n) × (8 < n))
  too_many_when = rw answered (eighteen_says m n T C, eighteen_of m n T C)

  -- "6 by kind": at the first that has not 1 <= C <= T <= 4095
  pub untimed_when : (i : ℕ) →
      let a = (built_of m list).answer in
      ((number a ≡ 6) × (place a ≡ i)) ↔ ((Offer m n) × (n ≤ 8) × (i < n) × (Untimed T C i))
  untimed_when i = rw answered (six_says m n T C i, six_of m n T C i)

  -- "19 when the divisor exceeds 64"
  pub divisor_exceeds_when : (number (built_of m list).answer ≡ 19) ↔ ((InLimits m n T C) × (64 < frame_for n T))
  divisor_exceeds_when = rw answered (nineteen_says m n T C, λ t. nineteen_of m n T C t.0 t.1)

  -- "7": the rounded budgets sum above mF
  pub sum_exceeds_when :
      (number (built_of m list).answer ≡ 7) ↔
      ((InLimits m n T C) × (frame_for n T ≤ 64) × (m * frame_for n T < sum_to n (budget_for n T C)))
  sum_exceeds_when = rw answered (seven_says m n T C, λ t. seven_of m n T C t.0 t.1 t.2)

  -- ---- 5. What is built

  module _ (good : (built_of m list).answer ≡ Good) where
    built : Buildable m n T C
    built = built_when.0 good

    pub plan_built : (built_of m list).plan ≡ plan_for m n T C
    unfolding built_of
    plan_built = rw good

    -- "Each kind becomes its own project with q 1", and its B
    pub project_built : (i : ℕ) → i < n → project_of (built_of m list).plan i ≡ record { ceiling = 1; budget = budget_for n T C i }
    project_built i l = rw plan_built (project_is m n T C built.limits i l)

    -- "one unit kind with D = T"
    pub kind_built : (i : ℕ) → i < n →
        kind_of (built_of m list).plan i ≡ record { project = i; separation = T i; deadline = T i; length = C i }
    kind_built i l = rw plan_built (kind_is m n T C built.limits i l)

    -- ---- 6. It may be run

    -- "Every plan built must be admitted"
    pub always_admitted : (judged (built_of m list).plan).answer ≡ Good
    always_admitted = rw plan_built (built_admitted m n T C built)

    -- so a fresh start accepts it, and demand 3 holds of it
    pub always_starts : (start_of (built_of m list).plan).answer ≡ Good
    always_starts = rw plan_built (built_starts m n T C built)

    -- its first sentence: after any calls a release of kind i with length e is accepted: the rows of the next D accepted slices name
    -- the kind e times
    pub always_in_time : (calls more : List Call) (i e : ℕ) →
        let p = (built_of m list).plan in
        let next = release_of (after p calls) i e in
        let slices = slices_of next.state more in
        let deadline = (kind_of p i).deadline in
        next.answer ≡ Good →
        deadline ≤ length slices →
        bytes_naming (names_kind i) (take deadline slices) ≡ e
    always_in_time = in_time (built_of m list).plan always_starts

    -- its bytes can be written into every buffer that is long enough
    pub always_written : (out : List ℕ) → size (built_of m list).plan ≤ length out → write_answer (built_of m list).plan out ≡ Good
    always_written = rw plan_built (built_written m n T C built)

    -- and read again, whatever follows them
    pub always_read : (rest : List ℕ) →
        let p = (built_of m list).plan in
        read_of (encoded p ++ rest) ≡ record { answer = Good; plan = p; taken = size p }
    always_read = rw plan_built (built_read m n T C built)

    -- each budget is the smallest that serves: asked for it, the smallest budget answers that very B
    pub always_smallest : (j : ℕ) → j < n →
        let p = (built_of m list).plan in
        smallest_of p j ≡ record { answer = Good; budget = budget_of p j }
    always_smallest j l =
        rw plan_built (built_least m n T C built j l ∙ ap (λ (b : ℕ). record { answer = Good; budget = b })
        (sym (ap (λ (v : _). v.budget) (project_is m n T C built.limits j l))))
