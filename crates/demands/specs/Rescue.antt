-- Document 02 (viii), "Rescue a damaged plan file": when it is refused, what the plan that is given is, what the list says, and that the
-- list and the result belong together. `bytes` are the damaged ones and `list` is the lent buffer.
-- Assumes nothing.
use Rattle.std.specs.Prelude.{◌≡◌, ◌↔◌, false, cond, List, [], ◌∷◌, ◌++◌, ℕ, ◌*◌, ◌≤◌, ◌<◌, length, take, drop}
use Rattle.std.proofs.Math.Path.{refl}
use Rattle.std.proofs.Common.{sym, ap, ap₂, ◌∙◌, take-append-drop, take_at}
use Rattle.answer.specs.declared.Answer.TheVariants.{Good}
use Rattle.answer.specs.Answer.{number}
use Rattle.plan.specs.declared.Plan.{Plan}
use Rattle.plan.specs.Order.{project_of, kind_of, budgets_fit, checked}
use Rattle.codec.specs.Bytes.{AreBytes}
use Rattle.plan_bytes.specs.Parts.{Shaped, encoded, headed, decoded, size}
use Rattle.plan_bytes.specs.Reading.{header_spare, read_of, counts_answer}
use Rattle.plan_bytes.specs.RoundTrip.{written_read}
use Rattle.plan_bytes.specs.RoundTrip.Reads.{Passes, order_passes}
use Rattle.plan_bytes.specs.RoundTrip.Writes.{read_checked, read_shaped}
use Rattle.plan.specs.Order.Properties.{in_order}
use Rattle.rescue.specs.Entry.{entry, listed, change}
use Rattle.rescue.specs.Entry.Properties.{listed_length}
use Rattle.rescue.specs.Mended.{kept_at, project_for_at, kind_for_at}
use Rattle.rescue.specs.Rescue.{project_spare_at, kind_spare_at, changes, list_of, rescued_plan, rescue_answer, rescue_of, list_over}
use Rattle.rescue.specs.Rescue.Properties.{counts_says}
use Rattle.rescue.specs.Applied.{entries_in, about, applied}
use Rattle.rescue.specs.Applied.Properties.{entries_listed}
use Rattle.rescue.specs.Turns.{Rising, Says, Every}
use Rattle.rescue.specs.Exact.{header_spare_entry, project_spare_entry, kind_spare_entry, ceiling_entry, budget_entry, deadline_entry}
use Rattle.rescue.specs.Exact.{dropped_entry}
use Rattle.rescue.specs.Ordered.{changes_rise, changes_most, changed_once, changes_say}
use Rattle.rescue.specs.Passing.{passes_checked, decoded_damaged, made_passes, made_shaped}
use Rattle.rescue.specs.Again.{rescue_again, buffer_again}
use Rattle.rescue.specs.Behind.{rescue_total, buffer_total}
use Rattle.rescue.specs.Gives.{applied_gives}
use Rattle.rescue.specs.Untouched.{applied_none}
use Rattle.rescue.specs.When.{as_in_reading, twenty_when, nine_when, good_when, none_remains}

-- the bytes pass 1 and 2
abbrev pub Standing : List ℕ → Type 0
Standing bytes = counts_answer bytes ≡ Good

module _ (bytes list : List ℕ) where
  answered : (rescue_of bytes list).answer ≡ rescue_answer bytes list
  unfolding rescue_of
  answered = refl

  -- ---- 1. When it is refused

  -- "1 and 2 as in reading"
  pub refused_as_reading : (k : ℕ) → 0 < k → k < 3 → (number (rescue_of bytes list).answer ≡ k) ↔ (number (read_of bytes).answer ≡ k)
  refused_as_reading k some few = rw answered (as_in_reading bytes list k some few)

  -- "20 when no kind remains": each of the plan's kinds is dropped
  pub no_kind_when :
      (number (rescue_of bytes list).answer ≡ 20) ↔
      (Standing bytes × ((i : ℕ) → i < (decoded bytes).kinds → kept_at (decoded bytes) i ≡ false))
  no_kind_when = (
    λ e. let t = (twenty_when bytes list).0 (sym (ap number answered) ∙ e) in (t.0, (none_remains (decoded bytes)).0 t.1),
    λ t. ap number answered ∙ (twenty_when bytes list).1 (t.0, (none_remains (decoded bytes)).1 t.1),
  )

  -- "9 when the list's entries don't all fit", six bytes each, and a kind remains
  pub list_short_when :
      (number (rescue_of bytes list).answer ≡ 9) ↔
      (Standing bytes × (0 < (rescued_plan bytes).kinds) × (length list < 6 * length (changes bytes)))
  list_short_when = rw answered (nine_when bytes list)

  -- and else a plan is given
  pub rescued_when :
      ((rescue_of bytes list).answer ≡ Good) ↔
      (Standing bytes × (0 < (rescued_plan bytes).kinds) × (6 * length (changes bytes) ≤ length list))
  rescued_when = rw answered (good_when bytes list)

  -- ---- 2. What is given

  module _ (good : (rescue_of bytes list).answer ≡ Good) where
    standing : Standing bytes
    standing = (rescued_when.0 good).0

    some : 0 < (rescued_plan bytes).kinds
    some = (rescued_when.0 good).1

    pub plan_given : (rescue_of bytes list).plan ≡ rescued_plan bytes
    unfolding rescue_of
    plan_given = rw good

    pub count_given : (rescue_of bytes list).count ≡ 6 * length (changes bytes)
    unfolding rescue_of
    count_given = rw good

    -- "On success, bytes past those needed keep their value"
    pub list_given : list_over bytes list ≡ listed (changes bytes) ++ drop (6 * length (changes bytes)) list
    unfolding list_over
    list_given = rw (sym answered ∙ good)

    -- the list in the buffer, found again by its six bytes an entry
    pub list_found : entries_in (take (rescue_of bytes list).count (list_over bytes list)) ≡ changes bytes
    list_found = ap entries_in list_taken ∙ entries_listed (changes bytes)
      where
        list_taken : take (rescue_of bytes list).count (list_over bytes list) ≡ list_of bytes
        list_taken =
            ap₂ take count_given list_given
            ∙ take_at (list_of bytes) (drop (6 * length (changes bytes)) list) (6 * length (changes bytes)) (listed_length (changes bytes))

    -- ---- 3. "a plan that passes 2 to 6": the record order has nothing but 7 to say of it

    passes : Passes (rescued_plan bytes)
    passes = made_passes (decoded bytes) (decoded_damaged bytes (counts_says bytes standing).0) some

    shaped : Shaped (rescued_plan bytes)
    shaped = made_shaped (decoded bytes) (decoded_damaged bytes (counts_says bytes standing).0)

    pub only_seven : checked (rescue_of bytes list).plan ≡ budgets_fit (rescue_of bytes list).plan
    only_seven = rw plan_given (passes_checked (rescued_plan bytes) passes)

    -- ---- 4. "rescuing the result's bytes (7 or not) changes nothing", whatever follows them and whatever is lent

    pub rescued_again : (rest other : List ℕ) →
        let p = (rescue_of bytes list).plan in
        rescue_of (encoded p ++ rest) other ≡ record { answer = Good; plan = p; count = 0 }
    rescued_again rest other = rw plan_given (rescue_again (rescued_plan bytes) shaped passes rest other)

    pub kept_again : (rest other : List ℕ) → list_over (encoded (rescue_of bytes list).plan ++ rest) other ≡ other
    kept_again rest other = rw plan_given (buffer_again (rescued_plan bytes) shaped passes rest other)

    -- ---- 5. "the list applied to the original gives the result"

    pub list_applied :
        applied (take (size (headed bytes)) bytes) (take (rescue_of bytes list).count (list_over bytes list))
        ≡ encoded (rescue_of bytes list).plan
    list_applied =
        let c = counts_says bytes standing in
        ap (applied (take (size (headed bytes)) bytes))
        (ap₂ take count_given list_given
        ∙ take_at (list_of bytes) (drop (6 * length (changes bytes)) list) (6 * length (changes bytes)) (listed_length (changes bytes)))
        ∙ applied_gives bytes c.0 c.1 ∙ ap encoded (sym plan_given)

  -- ---- 6. What follows the plan's bytes has no say

  pub plan_bytes_only : (rest : List ℕ) → size (headed bytes) ≤ length bytes →
      (rescue_of (take (size (headed bytes)) bytes ++ rest) list ≡ rescue_of bytes list) ×
      (list_over (take (size (headed bytes)) bytes ++ rest) list ≡ list_over bytes list)
  plan_bytes_only rest long = (rescue_total bytes rest long list, buffer_total bytes rest long list)

-- ---- 7. "A plan already in order gives an empty list"

-- the bytes of a plan that passes 2 to 6, 7 or not
pub passing_unchanged : (p : Plan) → Shaped p → Passes p → (rest list : List ℕ) →
    (rescue_of (encoded p ++ rest) list ≡ record { answer = Good; plan = p; count = 0 }) × (list_over (encoded p ++ rest) list ≡ list)
passing_unchanged p shaped passes rest list = (rescue_again p shaped passes rest list, buffer_again p shaped passes rest list)

-- and whatever is read as a plan
pub read_unchanged : (bytes list : List ℕ) → AreBytes bytes → (read_of bytes).answer ≡ Good →
    (rescue_of bytes list ≡ record { answer = Good; plan = (read_of bytes).plan; count = 0 }) × (list_over bytes list ≡ list)
read_unchanged bytes list b good =
    let p = (read_of bytes).plan in
    let n = (read_of bytes).taken in
    let e : encoded p ++ drop n bytes ≡ bytes
    = ap (λ (x : List ℕ). x ++ drop n bytes) (written_read bytes b good) ∙ take-append-drop n bytes in
    let t = passing_unchanged p (read_shaped bytes good) (order_passes p (in_order p (read_checked bytes good))) (drop n bytes) list in
    (ap (λ (x : List ℕ). rescue_of x list) (sym e) ∙ t.0, ap (λ (x : List ℕ). list_over x list) (sym e) ∙ t.1)

-- ---- 8. The list is exactly the changes

module _ (bytes : List ℕ) where
  abbrev p : Plan
  p = decoded bytes

  -- "In this order: clear spare bits; by project ..; by kind ..": so many turns, and each entry at a later one than the entry before it
  pub in_turn : Standing bytes → Rising 0 57 (changes bytes)
  unfolding decoded
  in_turn e = let c = (counts_says bytes e).0 in changes_rise bytes p c.projects_most c.kinds_most

  -- so there are at most 57
  pub at_most_57 : Standing bytes → length (changes bytes) ≤ 57
  unfolding decoded
  at_most_57 e = let c = (counts_says bytes e).0 in changes_most bytes p c.projects_most c.kinds_most

  -- and no field of a place is named twice
  pub never_twice : Standing bytes → (f j : ℕ) → length (about f j (changes bytes)) ≤ 1
  unfolding decoded
  never_twice e f j = let c = (counts_says bytes e).0 in changed_once bytes p c.projects_most c.kinds_most f j

  -- each entry is of one of the seven fields and of a place that is there; its two values differ, but a dropped kind's are 0
  pub each_says : Every (Says p) (changes bytes)
  each_says = changes_say bytes p

  -- field by field: the old value is what stands in the bytes, the new one what the plan that is given has, and there is an entry exactly
  -- where the two differ
  pub header_spare_listed : about 1 0 (changes bytes) ≡ change 1 0 (header_spare bytes) 0
  header_spare_listed = header_spare_entry bytes p

  pub project_spare_listed : (j : ℕ) → j < p.projects → about 2 j (changes bytes) ≡ change 2 j (project_spare_at bytes j) 0
  project_spare_listed = project_spare_entry bytes p

  pub ceiling_listed : (j : ℕ) → j < p.projects →
      about 4 j (changes bytes) ≡ change 4 j (project_of p j).ceiling (project_for_at p j).ceiling
  ceiling_listed = ceiling_entry bytes p

  pub budget_listed : (j : ℕ) → j < p.projects → about 5 j (changes bytes) ≡ change 5 j (project_of p j).budget (project_for_at p j).budget
  budget_listed = budget_entry bytes p

  -- "a dropped kind has only that entry"
  pub kind_spare_listed : (i : ℕ) → i < p.kinds →
      about 3 i (changes bytes) ≡ cond (kept_at p i) (change 3 i (kind_spare_at bytes p.projects i) 0) []
  kind_spare_listed = kind_spare_entry bytes p

  pub deadline_listed : (i : ℕ) → i < p.kinds →
      about 6 i (changes bytes) ≡ cond (kept_at p i) (change 6 i (kind_of p i).deadline (kind_for_at p i).deadline) []
  deadline_listed = deadline_entry bytes p

  pub dropped_listed : (i : ℕ) → i < p.kinds → about 7 i (changes bytes) ≡ cond (kept_at p i) [] (entry 7 i 0 0 ∷ [])
  dropped_listed = dropped_entry bytes p

-- ---- 9. Applying touches nothing but what the list names: an empty list leaves the plan's bytes as they are

pub empty_applied : (bytes : List ℕ) → AreBytes bytes → Standing bytes → applied bytes [] ≡ take (size (headed bytes)) bytes
empty_applied bytes b e = let c = counts_says bytes e in applied_none bytes b c.0 c.1
