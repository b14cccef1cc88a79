-- The list is exactly the changes: the entries about each field of each place.
-- Assumes nothing.
use Rattle.std.specs.Prelude.{◌≡◌, Bool, ℕ, ◌<◌, eqb}
use Rattle.std.proofs.Math.Path.{refl, ap, ap₂}
use Rattle.std.proofs.Common.{◌∙◌}
use Rattle.std.proofs.Math.Bool.{true, false, cond}
use mathlib.Core.List.{List, [], ◌∷◌, ◌++◌, append-nil}
use Rattle.plan.specs.declared.Project.{Project}
use Rattle.plan.specs.declared.Kind.{Kind}
use Rattle.plan.specs.declared.Plan.{Plan}
use Rattle.plan.specs.Order.{project_of, kind_of}
use Rattle.plan_bytes.specs.Reading.{header_spare}
use Rattle.rescue.specs.Entry.{Entry, entry, change, entries_to}
use Rattle.rescue.specs.Mended.{project_for_at, kind_for_at, kept_at}
use Rattle.rescue.specs.Rescue.{project_spare_at, kind_spare_at, project_spare_change, spare_entries, kind_spare_change, project_entries}
use Rattle.rescue.specs.Rescue.{project_changes, kind_entries, kind_changes, changes_in}
use Rattle.rescue.specs.Applied.{names, about}
use Rattle.rescue.specs.Applied.Properties.{about_append, about_other, about_change_other, about_change, about_entry, about_none}
use Rattle.rescue.specs.Applied.Properties.{about_here, about_nil, other_field, other_place}

-- ---- what each run says of a field that is not its own, or of another place

-- another field, or another place
abbrev Other : ℕ → ℕ → ℕ → ℕ → Type 0
Other g k f j = (a b : ℕ) → names (entry g k a b) f j ≡ false

fields : (g k f j : ℕ) → eqb g f ≡ false → Other g k f j
fields g k f j e a b = other_field g k a b f j e

places : (g k f j : ℕ) → (k ≡ j → ⊥) → Other g k f j
places g k f j z a b = other_place g k a b f j z

module _ (f j : ℕ) where
  spare_silent : (b : Bool) (k x : ℕ) → Other 3 k f j → about f j (spare_entries b k x) ≡ []
  unfolding spare_entries
  spare_silent true k x o = about_change_other f j 3 k x 0 (o x 0)
  spare_silent false k x o = about_nil f j

  project_silent : (k : ℕ) (v w : Project) → Other 4 k f j → Other 5 k f j → about f j (project_entries k v w) ≡ []
  unfolding project_entries
  project_silent k v w o n =
      about_append f j (change 4 k v.ceiling w.ceiling) (change 5 k v.budget w.budget)
      ∙ ap₂ ◌++◌ (about_change_other f j 4 k v.ceiling w.ceiling (o v.ceiling w.ceiling))
      (about_change_other f j 5 k v.budget w.budget (n v.budget w.budget))

  kind_silent : (b : Bool) (k : ℕ) (v w : Kind) → Other 6 k f j → Other 7 k f j → about f j (kind_entries b k v w) ≡ []
  unfolding kind_entries
  kind_silent true k v w o n = about_change_other f j 6 k v.deadline w.deadline (o v.deadline w.deadline)
  kind_silent false k v w o n = about_other f j (entry 7 k 0 0) (n 0 0)

  -- ---- the five runs, for one field of one place

  module _ (s : List ℕ) (p : Plan) where
    one : List Entry
    one = change 1 0 (header_spare s) 0

    two : List Entry
    two = entries_to p.projects (project_spare_change s)

    three : List Entry
    three = entries_to p.kinds (kind_spare_change s p)

    four : List Entry
    four = entries_to p.projects (project_changes p)

    six : List Entry
    six = entries_to p.kinds (kind_changes p)

    runs : about f j (changes_in s p) ≡ about f j one ++ about f j two ++ about f j three ++ about f j four ++ about f j six
    unfolding changes_in one two three four six
    runs =
        about_append f j (one ++ two ++ three ++ four) six
        ∙ ap (λ (l : List Entry). l ++ about f j six)
        (about_append f j (one ++ two ++ three) four
        ∙ ap (λ (l : List Entry). l ++ about f j four)
        (about_append f j (one ++ two) three ∙ ap (λ (l : List Entry). l ++ about f j three) (about_append f j one two)))

    one_silent : eqb 1 f ≡ false → about f j one ≡ []
    unfolding one
    one_silent e = about_change_other f j 1 0 (header_spare s) 0 (other_field 1 0 (header_spare s) 0 f j e)

    two_silent : eqb 2 f ≡ false → about f j two ≡ []
    unfolding two project_spare_change
    two_silent e =
        about_none f j p.projects (project_spare_change s)
        (λ k. about_change_other f j 2 k (project_spare_at s k) 0 (other_field 2 k (project_spare_at s k) 0 f j e))

    three_silent : eqb 3 f ≡ false → about f j three ≡ []
    unfolding three kind_spare_change
    three_silent e =
        about_none f j p.kinds (kind_spare_change s p)
        (λ k. spare_silent (kept_at p k) k (kind_spare_at s p.projects k) (fields 3 k f j e))

    four_silent : eqb 4 f ≡ false → eqb 5 f ≡ false → about f j four ≡ []
    unfolding four project_changes
    four_silent e n =
        about_none f j p.projects (project_changes p)
        (λ k. project_silent k (project_of p k) (project_for_at p k) (fields 4 k f j e) (fields 5 k f j n))

    six_silent : eqb 6 f ≡ false → eqb 7 f ≡ false → about f j six ≡ []
    unfolding six kind_changes
    six_silent e n =
        about_none f j p.kinds (kind_changes p)
        (λ k. kind_silent (kept_at p k) k (kind_of p k) (kind_for_at p k) (fields 6 k f j e) (fields 7 k f j n))

    two_here : j < p.projects → about f j two ≡ about f j (project_spare_change s j)
    unfolding two project_spare_change
    two_here l =
        about_here f j p.projects (project_spare_change s) l
        (λ k z. about_change_other f j 2 k (project_spare_at s k) 0 (other_place 2 k (project_spare_at s k) 0 f j z))

    three_here : j < p.kinds → about f j three ≡ about f j (kind_spare_change s p j)
    unfolding three kind_spare_change
    three_here l =
        about_here f j p.kinds (kind_spare_change s p) l
        (λ k z. spare_silent (kept_at p k) k (kind_spare_at s p.projects k) (places 3 k f j z))

    four_here : j < p.projects → about f j four ≡ about f j (project_changes p j)
    unfolding four project_changes
    four_here l =
        about_here f j p.projects (project_changes p) l
        (λ k z. project_silent k (project_of p k) (project_for_at p k) (places 4 k f j z) (places 5 k f j z))

    six_here : j < p.kinds → about f j six ≡ about f j (kind_changes p j)
    unfolding six kind_changes
    six_here l =
        about_here f j p.kinds (kind_changes p) l
        (λ k z. kind_silent (kept_at p k) k (kind_of p k) (kind_for_at p k) (places 6 k f j z) (places 7 k f j z))

-- ---- field by field

module _ (s : List ℕ) (p : Plan) where
  -- "1 .. for spare bits of header"
  pub header_spare_entry : about 1 0 (changes_in s p) ≡ change 1 0 (header_spare s) 0
  unfolding one
  header_spare_entry =
      runs 1 0 s p
      ∙ rw (two_silent 1 0 s p refl, three_silent 1 0 s p refl, four_silent 1 0 s p refl refl, six_silent 1 0 s p refl refl)
      (simp append-nil (about_change 1 0 (header_spare s) 0))

  -- "2 .. for spare bits of .. project"
  pub project_spare_entry : (j : ℕ) → j < p.projects → about 2 j (changes_in s p) ≡ change 2 j (project_spare_at s j) 0
  unfolding project_spare_change
  project_spare_entry j l =
      runs 2 j s p
      ∙ rw (
        one_silent 2 j s p refl,
        two_here 2 j s p l,
        three_silent 2 j s p refl,
        four_silent 2 j s p refl refl,
        six_silent 2 j s p refl refl,
      )
      (simp append-nil (about_change 2 j (project_spare_at s j) 0))

  -- "3 for spare bits of .. kind", of a kept one
  pub kind_spare_entry : (i : ℕ) → i < p.kinds
      → about 3 i (changes_in s p) ≡ cond (kept_at p i) (change 3 i (kind_spare_at s p.projects i) 0) []
  unfolding kind_spare_change spare_entries
  kind_spare_entry i l =
      runs 3 i s p
      ∙ rw (
        one_silent 3 i s p refl,
        two_silent 3 i s p refl,
        three_here 3 i s p l,
        four_silent 3 i s p refl refl,
        six_silent 3 i s p refl refl,
      )
      (simp append-nil (go (kept_at p i)))
    where
      go : (b : Bool) → about 3 i (cond b (change 3 i (kind_spare_at s p.projects i) 0) [])
          ≡ cond b (change 3 i (kind_spare_at s p.projects i) 0) []
      go true = about_change 3 i (kind_spare_at s p.projects i) 0
      go false = about_nil 3 i

  -- "4 q"
  pub ceiling_entry : (j : ℕ) → j < p.projects
      → about 4 j (changes_in s p) ≡ change 4 j (project_of p j).ceiling (project_for_at p j).ceiling
  unfolding project_changes project_entries
  ceiling_entry j l =
      let v = project_of p j in
      let w = project_for_at p j in
      runs 4 j s p
      ∙ rw (one_silent 4 j s p refl, two_silent 4 j s p refl, three_silent 4 j s p refl, four_here 4 j s p l, six_silent 4 j s p refl refl)
      (simp append-nil
      (about_append 4 j (change 4 j v.ceiling w.ceiling) (change 5 j v.budget w.budget)
      ∙ ap₂ ◌++◌ (about_change 4 j v.ceiling w.ceiling)
      (about_change_other 4 j 5 j v.budget w.budget (other_field 5 j v.budget w.budget 4 j refl))
      ∙ append-nil (change 4 j v.ceiling w.ceiling)))

  -- "5 B"
  pub budget_entry : (j : ℕ) → j < p.projects
      → about 5 j (changes_in s p) ≡ change 5 j (project_of p j).budget (project_for_at p j).budget
  unfolding project_changes project_entries
  budget_entry j l =
      let v = project_of p j in
      let w = project_for_at p j in
      runs 5 j s p
      ∙ rw (one_silent 5 j s p refl, two_silent 5 j s p refl, three_silent 5 j s p refl, four_here 5 j s p l, six_silent 5 j s p refl refl)
      (simp append-nil
      (about_append 5 j (change 4 j v.ceiling w.ceiling) (change 5 j v.budget w.budget)
      ∙ ap₂ ◌++◌ (about_change_other 5 j 4 j v.ceiling w.ceiling (other_field 4 j v.ceiling w.ceiling 5 j refl))
      (about_change 5 j v.budget w.budget)))

  -- "6 D", of a kept kind
  pub deadline_entry : (i : ℕ) → i < p.kinds
      → about 6 i (changes_in s p) ≡ cond (kept_at p i) (change 6 i (kind_of p i).deadline (kind_for_at p i).deadline) []
  unfolding kind_changes kind_entries
  deadline_entry i l =
      runs 6 i s p
      ∙ rw (one_silent 6 i s p refl, two_silent 6 i s p refl, three_silent 6 i s p refl, four_silent 6 i s p refl refl, six_here 6 i s p l)
      (go (kept_at p i))
    where
      go : (b : Bool) → about 6 i (cond b (change 6 i (kind_of p i).deadline (kind_for_at p i).deadline) (entry 7 i 0 0 ∷ []))
          ≡ cond b (change 6 i (kind_of p i).deadline (kind_for_at p i).deadline) []
      go true = about_change 6 i (kind_of p i).deadline (kind_for_at p i).deadline
      go false = about_other 6 i (entry 7 i 0 0) refl

  -- "7 a dropped kind (values 0)"
  pub dropped_entry : (i : ℕ) → i < p.kinds → about 7 i (changes_in s p) ≡ cond (kept_at p i) [] (entry 7 i 0 0 ∷ [])
  unfolding kind_changes kind_entries
  dropped_entry i l =
      runs 7 i s p
      ∙ rw (one_silent 7 i s p refl, two_silent 7 i s p refl, three_silent 7 i s p refl, four_silent 7 i s p refl refl, six_here 7 i s p l)
      (go (kept_at p i))
    where
      go : (b : Bool) → about 7 i (cond b (change 6 i (kind_of p i).deadline (kind_for_at p i).deadline) (entry 7 i 0 0 ∷ []))
          ≡ cond b [] (entry 7 i 0 0 ∷ [])
      go true =
          about_change_other 7 i 6 i (kind_of p i).deadline (kind_for_at p i).deadline
          (other_field 6 i (kind_of p i).deadline (kind_for_at p i).deadline 7 i refl)
      go false = about_entry 7 i 0 0
