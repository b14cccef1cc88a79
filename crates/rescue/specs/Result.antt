-- "the list applied to the original gives the result".
-- Assumes nothing.
use Rattle.std.specs.Prelude.{◌≡◌, Bool, ℕ, ◌<◌}
use Rattle.std.proofs.Math.Path.{refl, sym, ap, ap₂}
use Rattle.std.proofs.Common.{◌∙◌}
use Rattle.std.proofs.Math.Bool.{true, false, not, cond}
use mathlib.Core.List.{List, [], ◌∷◌, ◌++◌}
use Rattle.laws.specs.Count.{count_to}
use Rattle.laws.specs.Count.Properties.{count_cong}
use Rattle.codec.specs.Pack.{pack}
use Rattle.codec.specs.Bytes.{bytes_of}
use Rattle.plan.specs.declared.Kind.{Kind}
use Rattle.plan.specs.declared.Plan.{Plan}
use Rattle.plan.specs.Order.{project_of, kind_of}
use Rattle.plan_bytes.specs.Parts.{header_widths, project_widths, kind_widths, header_bytes, project_bytes, kind_bytes, project_bytes_at}
use Rattle.plan_bytes.specs.Parts.{encoded}
use Rattle.plan_bytes.specs.Reading.{header_spare}
use Rattle.rescue.specs.Entry.{Entry, entry, change}
use Rattle.rescue.specs.Mended.{kind_for, project_for_at, kind_for_at, kept_at, kinds_kept, plan_for}
use Rattle.rescue.specs.Rescue.{project_spare_at, kind_spare_at, changes_in}
use Rattle.rescue.specs.Applied.{about, after, some, drops, header_after, project_after, kind_after, parts_after}
use Rattle.rescue.specs.Applied.Properties.{after_change, parts_cong}
use Rattle.rescue.specs.Exact.{header_spare_entry, project_spare_entry, kind_spare_entry, ceiling_entry, budget_entry}
use Rattle.rescue.specs.Exact.{deadline_entry, dropped_entry}
use Rattle.rescue.specs.Kept.{kept_bytes, kept_parts}
use Rattle.rescue.specs.Passing.{Damaged, made_project}

module _ (s : List ℕ) (p : Plan) (d : Damaged p) where
  es : List Entry
  es = changes_in s p

  -- ---- the header

  not_dropped : (i : ℕ) → i < p.kinds → not (drops es s p i) ≡ kept_at p i
  unfolding es some
  not_dropped i l = ap (λ (x : List Entry). not (some x)) (dropped_entry s p i l) ∙ go (kept_at p i)
    where
      go : (b : Bool) → not (some (cond b [] (entry 7 i 0 0 ∷ []))) ≡ b
      go true = refl
      go false = refl

  header_part : bytes_of 3 (pack header_widths (header_after es s p)) ≡ header_bytes (plan_for p)
  unfolding header_bytes plan_for es
  header_part =
      let n : count_to p.kinds (λ i. not (drops es s p i)) ≡ kinds_kept p p.kinds
      = count_cong p.kinds (λ i. not (drops es s p i)) (kept_at p) not_dropped in
      let z : after (header_spare s) (about 1 0 (changes_in s p)) ≡ 0
      = ap (after (header_spare s)) (header_spare_entry s p) ∙ after_change 1 0 (header_spare s) 0 in
      ap₂ (λ (x y : ℕ). bytes_of 3 (pack header_widths (p.cards ∷ p.projects ∷ x ∷ p.frame ∷ y ∷ []))) n z

  -- ---- the projects

  project_part : (j : ℕ) → j < p.projects → bytes_of 2 (pack project_widths (project_after es s p j)) ≡ project_bytes_at (plan_for p) j
  unfolding project_bytes es
  project_part j l =
      let v = project_of p j in
      let w = project_for_at p j in
      let q : after v.ceiling (about 4 j es) ≡ w.ceiling
      = ap (after v.ceiling) (ceiling_entry s p j l) ∙ after_change 4 j v.ceiling w.ceiling in
      let b : after v.budget (about 5 j es) ≡ w.budget
      = ap (after v.budget) (budget_entry s p j l) ∙ after_change 5 j v.budget w.budget in
      let z : after (project_spare_at s j) (about 2 j es) ≡ 0
      = ap (after (project_spare_at s j)) (project_spare_entry s p j l) ∙ after_change 2 j (project_spare_at s j) 0 in
      (λ i. bytes_of 2 (pack project_widths (q i ∷ b i ∷ z i ∷ []))) ∙ ap project_bytes (sym (made_project p d j l))

  -- ---- the kinds

  kind_part : (i : ℕ) → i < p.kinds → cond (drops es s p i) [] (bytes_of 5 (pack kind_widths (kind_after es s p i))) ≡ kept_bytes p i
  unfolding kind_bytes kind_for es some
  kind_part i l = go (kept_at p i) (dropped_entry s p i l) (deadline_entry s p i l) (kind_spare_entry s p i l)
    where
      v : Kind
      v = kind_of p i

      x : ℕ
      x = kind_spare_at s p.projects i

      go : (b : Bool) → about 7 i (changes_in s p) ≡ cond b [] (entry 7 i 0 0 ∷ [])
          → about 6 i (changes_in s p) ≡ cond b (change 6 i (kind_of p i).deadline (kind_for_at p i).deadline) []
          → about 3 i (changes_in s p) ≡ cond b (change 3 i (kind_spare_at s p.projects i) 0) []
          → cond (some (about 7 i (changes_in s p))) [] (bytes_of 5 (pack kind_widths (kind_after (changes_in s p) s p i)))
          ≡ cond b (kind_bytes (kind_for_at p i)) []
      go true e f g =
          let t : after (kind_of p i).deadline (about 6 i (changes_in s p)) ≡ (kind_for_at p i).deadline
          = ap (after (kind_of p i).deadline) f ∙ after_change 6 i (kind_of p i).deadline (kind_for_at p i).deadline in
          let z : after (kind_spare_at s p.projects i) (about 3 i (changes_in s p)) ≡ 0
          = ap (after (kind_spare_at s p.projects i)) g ∙ after_change 3 i (kind_spare_at s p.projects i) 0 in
          ap (λ (y : List Entry). cond (some y) [] (bytes_of 5 (pack kind_widths (kind_after (changes_in s p) s p i)))) e
          ∙ ap₂ (λ (a b : ℕ). bytes_of 5
          (pack kind_widths ((kind_of p i).project ∷ (kind_of p i).separation ∷ a ∷ (kind_of p i).length ∷ b ∷ []))) t z
      go false e f g = ap (λ (y : List Entry). cond (some y) [] (bytes_of 5 (pack kind_widths (kind_after (changes_in s p) s p i)))) e

  -- ---- the whole

  pub parts_after_law : parts_after (changes_in s p) s p ≡ encoded (plan_for p)
  unfolding encoded plan_for es
  parts_after_law =
      let a = parts_cong p.projects (λ j. bytes_of 2 (pack project_widths (project_after es s p j)))
      (project_bytes_at (plan_for p)) project_part in
      let b = parts_cong p.kinds (λ i. cond (drops es s p i) [] (bytes_of 5 (pack kind_widths (kind_after es s p i))))
      (kept_bytes p) kind_part
      ∙ sym (kept_parts p p.kinds d.counts.kinds_most) in
      λ i. header_part i ++ a i ++ b i
