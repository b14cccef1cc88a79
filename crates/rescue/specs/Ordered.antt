-- The list is in the stated order, names no field of a place twice, and has at most 57 entries; and each entry says what it may.
-- Assumes nothing.
use Rattle.std.specs.Prelude.{Bool, List, ◌++◌, ℕ, ◌+◌, ◌*◌, ◌≤◌, ◌<◌, length}
use Rattle.std.proofs.Math.Path.{refl}
use Rattle.std.proofs.Math.Bool.{true, false}
use native.Mathlib.Omega.{arith}
use Rattle.plan.specs.declared.Project.{Project}
use Rattle.plan.specs.declared.Kind.{Kind}
use Rattle.plan.specs.declared.Plan.{Plan}
use Rattle.plan.specs.Order.{project_of, kind_of}
use Rattle.plan_bytes.specs.Reading.{header_spare}
use Rattle.rescue.specs.Entry.{entry, change, entries_to}
use Rattle.rescue.specs.Mended.{project_for_at, kind_for_at, kept_at}
use Rattle.rescue.specs.Rescue.{project_spare_at, kind_spare_at, project_spare_change, spare_entries, kind_spare_change, project_entries}
use Rattle.rescue.specs.Rescue.{project_changes, kind_entries, kind_changes, changes_in}
use Rattle.rescue.specs.Applied.{about}
use Rattle.rescue.specs.Turns.{turn_of, Rising, places_of, Says, Every}
use Rattle.rescue.specs.Turns.Properties.{rising_wider, rising_append, rising_each, rising_one, rising_change, rising_length}
use Rattle.rescue.specs.Turns.Properties.{rising_once, every_append, every_each, every_change, change_says, drop_says}

module _ (s : List ℕ) (p : Plan) (few : p.projects ≤ 8) (kinds : p.kinds ≤ 16) where
  one : Rising 0 1 (change 1 0 (header_spare s) 0)
  unfolding turn_of
  one = rising_change 0 1 0 (header_spare s) 0 refl

  two : Rising 1 9 (entries_to p.projects (project_spare_change s))
  unfolding turn_of project_spare_change
  two =
      rising_wider 1 (1 + 1 * p.projects) 9 (entries_to p.projects (project_spare_change s))
      (rising_each p.projects 1 1 (project_spare_change s)
      (λ k l. rising_change (1 + 1 * k) 2 k (project_spare_at s k) 0 (omega arith))) (omega arith)

  spare_rises : (b : Bool) (k x : ℕ) → Rising (9 + 1 * k) (9 + 1 * k + 1) (spare_entries b k x)
  unfolding turn_of spare_entries
  spare_rises true k x = rising_change (9 + 1 * k) 3 k x 0 (omega arith)
  spare_rises false k x = omega arith

  three : Rising 9 25 (entries_to p.kinds (kind_spare_change s p))
  unfolding kind_spare_change
  three =
      rising_wider 9 (9 + 1 * p.kinds) 25 (entries_to p.kinds (kind_spare_change s p))
      (rising_each p.kinds 1 9 (kind_spare_change s p) (λ k l. spare_rises (kept_at p k) k (kind_spare_at s p.projects k))) (omega arith)

  project_rises : (k : ℕ) (v w : Project) → Rising (25 + 2 * k) (25 + 2 * k + 2) (project_entries k v w)
  unfolding turn_of project_entries
  project_rises k v w =
      rising_append (25 + 2 * k) (25 + 2 * k + 1) (25 + 2 * k + 2) (change 4 k v.ceiling w.ceiling)
      (change 5 k v.budget w.budget)
      (rising_change (25 + 2 * k) 4 k v.ceiling w.ceiling refl)
      (rising_wider (25 + 2 * k + 1) (25 + 2 * k + 1 + 1) (25 + 2 * k + 2) (change 5 k v.budget w.budget)
      (rising_change (25 + 2 * k + 1) 5 k v.budget w.budget (omega arith)) (omega arith))

  four : Rising 25 41 (entries_to p.projects (project_changes p))
  unfolding project_changes
  four =
      rising_wider 25 (25 + 2 * p.projects) 41 (entries_to p.projects (project_changes p))
      (rising_each p.projects 2 25 (project_changes p) (λ k l. project_rises k (project_of p k) (project_for_at p k))) (omega arith)

  kind_rises : (b : Bool) (k : ℕ) (v w : Kind) → Rising (41 + 1 * k) (41 + 1 * k + 1) (kind_entries b k v w)
  unfolding turn_of kind_entries
  kind_rises true k v w = rising_change (41 + 1 * k) 6 k v.deadline w.deadline (omega arith)
  kind_rises false k v w = rising_one (41 + 1 * k) (entry 7 k 0 0) (omega arith)

  six : Rising 41 57 (entries_to p.kinds (kind_changes p))
  unfolding kind_changes
  six =
      rising_wider 41 (41 + 1 * p.kinds) 57 (entries_to p.kinds (kind_changes p))
      (rising_each p.kinds 1 41 (kind_changes p) (λ k l. kind_rises (kept_at p k) k (kind_of p k) (kind_for_at p k))) (omega arith)

  -- "Each change is listed in that order"
  pub changes_rise : Rising 0 57 (changes_in s p)
  unfolding changes_in
  changes_rise =
      let a = change 1 0 (header_spare s) 0 in
      let b = entries_to p.projects (project_spare_change s) in
      let c = entries_to p.kinds (kind_spare_change s p) in
      let d = entries_to p.projects (project_changes p) in
      rising_append 0 41 57 (a ++ b ++ c ++ d) (entries_to p.kinds (kind_changes p))
      (rising_append 0 25 41 (a ++ b ++ c) d (rising_append 0 9 25 (a ++ b) c (rising_append 0 1 9 a b one two) three) four) six

  pub changes_most : length (changes_in s p) ≤ 57
  changes_most = let l = rising_length 0 57 (changes_in s p) changes_rise in omega arith

  pub changed_once : (f j : ℕ) → length (about f j (changes_in s p)) ≤ 1
  changed_once f j = rising_once 0 57 f j (changes_in s p) changes_rise

-- ---- what each entry says

module _ (s : List ℕ) (p : Plan) where
  spare_says : (b : Bool) (k x : ℕ) → k < p.kinds → Every (Says p) (spare_entries b k x)
  unfolding spare_entries places_of
  spare_says true k x l = every_change (Says p) 3 k x 0 (change_says p 3 k x 0 (omega arith) (omega arith) l)
  spare_says false k x l = tt

  project_says : (k : ℕ) (v w : Project) → k < p.projects → Every (Says p) (project_entries k v w)
  unfolding project_entries places_of
  project_says k v w l =
      every_append (Says p) (change 4 k v.ceiling w.ceiling) (change 5 k v.budget w.budget)
      (every_change (Says p) 4 k v.ceiling w.ceiling (change_says p 4 k v.ceiling w.ceiling (omega arith) (omega arith) l))
      (every_change (Says p) 5 k v.budget w.budget (change_says p 5 k v.budget w.budget (omega arith) (omega arith) l))

  kind_says : (b : Bool) (k : ℕ) (v w : Kind) → k < p.kinds → Every (Says p) (kind_entries b k v w)
  unfolding kind_entries places_of
  kind_says true k v w l =
      every_change (Says p) 6 k v.deadline w.deadline
      (change_says p 6 k v.deadline w.deadline (omega arith) (omega arith) l)
  kind_says false k v w l = (drop_says p k l, tt)

  pub changes_say : Every (Says p) (changes_in s p)
  unfolding changes_in project_spare_change kind_spare_change project_changes kind_changes places_of
  changes_say =
      let a = change 1 0 (header_spare s) 0 in
      let b = entries_to p.projects (project_spare_change s) in
      let c = entries_to p.kinds (kind_spare_change s p) in
      let d = entries_to p.projects (project_changes p) in
      every_append (Says p) (a ++ b ++ c ++ d) (entries_to p.kinds (kind_changes p))
      (every_append (Says p) (a ++ b ++ c) d
      (every_append (Says p) (a ++ b) c
      (every_append (Says p) a b
      (every_change (Says p) 1 0 (header_spare s) 0 (change_says p 1 0 (header_spare s) 0 (omega arith) (omega arith) (omega arith)))
      (every_each (Says p) p.projects (project_spare_change s)
      (λ k l. every_change (Says p) 2 k (project_spare_at s k) 0
      (change_says p 2 k (project_spare_at s k) 0 (omega arith) (omega arith) l))))
      (every_each (Says p) p.kinds (kind_spare_change s p) (λ k l. spare_says (kept_at p k) k (kind_spare_at s p.projects k) l)))
      (every_each (Says p) p.projects (project_changes p) (λ k l. project_says k (project_of p k) (project_for_at p k) l)))
      (every_each (Says p) p.kinds (kind_changes p) (λ k l. kind_says (kept_at p k) k (kind_of p k) (kind_for_at p k) l))
