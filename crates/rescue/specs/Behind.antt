-- Rescuing looks at no byte behind the header's total; nor does applying a list.
-- Assumes nothing.
use Rattle.std.specs.Prelude.{◌≡◌, refl, ℕ, zero, suc, ◌≤◌, ◌<◌, length, take}
use Rattle.std.proofs.Math.Path.{sym, ap}
use Rattle.std.proofs.Common.{ap₂, ◌∙◌, arith}
use mathlib.Core.List.{List, ◌++◌}
use Rattle.std.proofs.Math.ListN.{get_or, length-append, get_or-append}
use Rattle.std.proofs.Math.Seq.{length-take-le, get_or-take}
use borrow.Author.Tests.{le-ltb}
use Rattle.plan.specs.declared.Plan.{Plan}
use Rattle.plan_bytes.specs.Parts.{headed, decoded, size}
use Rattle.plan_bytes.specs.Reading.{header_spare, project_spare, kind_spare, counts_answer}
use Rattle.plan_bytes.specs.RoundTrip.Behind.{header_same, headed_same, project_same, kind_same, decoded_same}
use Rattle.rescue.specs.Entry.{Entry, change, entries_to}
use Rattle.rescue.specs.Mended.{kept_at}
use Rattle.rescue.specs.Rescue.{project_spare_at, kind_spare_at, project_spare_change, spare_entries, kind_spare_change, changes_in}
use Rattle.rescue.specs.Rescue.{changes, project_changes, kind_changes, rest_answer, rescue_answer, rescue_of, list_over}

entries_cong : (n : ℕ) (f g : ℕ → List Entry) → ((i : ℕ) → i < n → f i ≡ g i) → entries_to n f ≡ entries_to n g
unfolding entries_to
entries_cong zero f g h = refl
entries_cong (suc n) f g h = ap₂ ◌++◌ (entries_cong n f g (λ i l. h i (omega arith))) (h n (omega arith))

-- the counts are the header's
counts_are : (s : List ℕ) → ((decoded s).projects ≡ (headed s).projects) × ((decoded s).kinds ≡ (headed s).kinds)
unfolding decoded
counts_are s = (refl, refl)

size_covers : (p : Plan) → 3 ≤ size p
unfolding size
size_covers p = omega arith

-- ---- two strings of bytes that agree as far as the header of the first says

module _ (s t : List ℕ) (long : size (headed s) ≤ length s) (other : size (headed s) ≤ length t)
    (same : (i : ℕ) → i < size (headed s) → get_or s i 0 ≡ get_or t i 0) where
  plans : decoded s ≡ decoded t
  plans = decoded_same s t long other same

  heads : headed s ≡ headed t
  heads = headed_same s t long other same

  pub header_spare_same : header_spare s ≡ header_spare t
  unfolding header_spare
  header_spare_same = ap (λ (x : List ℕ). get_or x 4 0) (header_same s t long other same)

  pub project_spare_same : (j : ℕ) → j < (headed s).projects → project_spare_at s j ≡ project_spare_at t j
  unfolding project_spare_at project_spare
  project_spare_same j l = ap (λ (x : List ℕ). get_or x 2 0) (project_same s t long other same j l)

  pub kind_spare_same : (i : ℕ) → i < (headed s).kinds → kind_spare_at s (headed s).projects i ≡ kind_spare_at t (headed t).projects i
  unfolding kind_spare_at kind_spare
  kind_spare_same i l = ap (λ (x : List ℕ). get_or x 4 0) (kind_same s t long other same i l)

  changes_of_one : changes_in s (decoded s) ≡ changes_in t (decoded s)
  unfolding changes_in project_spare_change kind_spare_change decoded
  changes_of_one =
      let p = decoded s in
      let a = header_spare_same in
      let b = entries_cong (headed s).projects (project_spare_change s) (project_spare_change t)
      (λ j l. ap (λ (x : ℕ). change 2 j x 0) (project_spare_same j l)) in
      let c = entries_cong (headed s).kinds (kind_spare_change s p) (kind_spare_change t p)
      (λ i l. ap (spare_entries (kept_at p i) i)
      (kind_spare_same i l ∙ ap (λ (v : Plan). kind_spare_at t v.projects i) (sym heads))) in
      λ i. change 1 0 (a i) 0 ++ b i ++ c i ++ entries_to (headed s).projects (project_changes p)
      ++ entries_to (headed s).kinds (kind_changes p)

  pub changes_same : changes s ≡ changes t
  changes_same = changes_of_one ∙ ap (changes_in t) plans

  counts_same : counts_answer s ≡ counts_answer t
  unfolding counts_answer
  counts_same =
      let three = size_covers (headed s) in
      let n = ap size heads in
      rw (
        le-ltb (length s) 3 (omega arith),
        le-ltb (length t) 3 (omega arith),
        le-ltb (length s) (size (headed s)) long,
        le-ltb (length t) (size (headed t)) (omega arith),
        heads,
      )

  answer_same : (list : List ℕ) → rescue_answer s list ≡ rescue_answer t list
  unfolding rescue_answer rest_answer
  answer_same list = rw (counts_same, changes_same, plans)

  pub rescue_same : (list : List ℕ) → rescue_of s list ≡ rescue_of t list
  unfolding rescue_of
  rescue_same list = rw (answer_same list, changes_same, plans)

  pub buffer_same : (list : List ℕ) → list_over s list ≡ list_over t list
  unfolding list_over
  buffer_same list = rw (answer_same list, changes_same)

-- ---- the plan's own bytes, whatever follows them

module _ (s rest : List ℕ) (long : size (headed s) ≤ length s) where
  n : ℕ
  n = size (headed s)

  t : List ℕ
  t = take n s ++ rest

  long_too : size (headed s) ≤ length t
  unfolding n t
  long_too = omega (arith, length-append (take n s) rest, length-take-le n s long)

  agree : (i : ℕ) → i < size (headed s) → get_or s i 0 ≡ get_or t i 0
  unfolding n t
  agree i k = let m = length-take-le n s long in sym (get_or-append (take n s) rest 0 i (omega arith) ∙ get_or-take n s i 0 k)

  pub rescue_total : (list : List ℕ) → rescue_of (take (size (headed s)) s ++ rest) list ≡ rescue_of s list
  unfolding n t
  rescue_total list = sym (rescue_same s t long long_too agree list)

  pub buffer_total : (list : List ℕ) → list_over (take (size (headed s)) s ++ rest) list ≡ list_over s list
  unfolding n t
  buffer_total list = sym (buffer_same s t long long_too agree list)
