-- An empty list applied to plan bytes gives these bytes: applying touches nothing but what the list names.
-- Assumes nothing.
use Rattle.std.specs.Prelude.{◌≡◌, true, ℕ, zero, suc, ◌+◌, ◌*◌, ◌≤◌, ◌<◌, length, drop, replicate}
use Rattle.std.proofs.Math.Path.{refl, sym, ap}
use Rattle.std.proofs.Common.{◌∙◌, arith, take-add}
use mathlib.Core.List.{List, [], ◌∷◌, ◌++◌}
use Rattle.std.proofs.Math.ListN.{get_or, take, length-replicate, length-drop}
use Rattle.laws.specs.Count.{count_to}
use Rattle.laws.specs.Written.Properties.{written_at}
use Rattle.codec.specs.Pack.{pack, unpack}
use Rattle.codec.specs.Bytes.{bytes_of, AreBytes}
use Rattle.codec.specs.Bytes.Properties.{bytes_behind}
use Rattle.codec.specs.Place.{placed, fields_of}
use Rattle.codec.specs.Place.Properties.{placed_fields}
use Rattle.codec.specs.Places.Properties.{parts_front}
use Rattle.plan.specs.declared.Project.{Project}
use Rattle.plan.specs.declared.Kind.{Kind}
use Rattle.plan.specs.Record.{no_project, no_kind}
use Rattle.plan.specs.Order.{Sized}
use Rattle.plan_bytes.specs.Parts.{header_widths, project_widths, kind_widths, header_fields, project_fields, kind_fields, project_from}
use Rattle.plan_bytes.specs.Parts.{kind_from, project_at, kind_at, projects_from, kinds_from, headed, after_header, after_projects, decoded}
use Rattle.plan_bytes.specs.Parts.{size}
use Rattle.plan_bytes.specs.Reading.{header_spare, project_spare, kind_spare}
use Rattle.rescue.specs.Rescue.{project_spare_at, kind_spare_at}
use Rattle.rescue.specs.Applied.{entries_in, about, after, some, header_after, project_after, kind_after, applied}

count_each : (n : ℕ) → count_to n (λ i. true) ≡ n
unfolding count_to
count_each zero = refl
count_each (suc n) = let h = count_each n in omega arith

module _ (s : List ℕ) (b : AreBytes s) (counts : Sized (headed s)) (long : size (headed s) ≤ length s) where
  total : 3 + 2 * (headed s).projects + 5 * (headed s).kinds ≤ length s
  unfolding size
  total = long

  header_part : bytes_of 3 (pack header_widths (header_after [] s (decoded s))) ≡ take 3 s
  unfolding about after some decoded headed header_spare header_fields unpack placed fields_of
  header_part =
      ap (λ (n : ℕ). bytes_of 3
      (pack header_widths
      (get_or (header_fields s) 0 0 ∷ get_or (header_fields s) 1 0 ∷ n ∷ get_or (header_fields s) 3 0 ∷ get_or (header_fields s) 4 0 ∷ [])))
      (count_each (get_or (header_fields s) 2 0)) ∙ placed_fields header_widths s refl b (omega (arith, total))

  project_part : (j : ℕ) → j < (headed s).projects
      → bytes_of 2 (pack project_widths (project_after [] s (decoded s) j)) ≡ take 2 (drop (2 * j) (after_header s))
  unfolding about after decoded projects_from project_spare_at project_spare project_from project_fields unpack placed fields_of
  project_part j l =
      let e = written_at (headed s).projects (λ k. project_from (project_at (after_header s) k)) (replicate 8 no_project) no_project j l
      (omega (arith, length-replicate 8 no_project, counts.projects_most)) in
      ap (λ (v : Project). bytes_of 2 (pack project_widths (v.ceiling ∷ v.budget ∷ project_spare_at s j ∷ []))) e
      ∙ placed_fields project_widths (project_at (after_header s) j) refl (bytes_behind (after_header s) (bytes_behind s b 3) (2 * j))
      (omega (arith, total, length-drop (2 * j) (after_header s), length-drop 3 s))

  kind_part : (i : ℕ) → i < (headed s).kinds
      → bytes_of 5 (pack kind_widths (kind_after [] s (decoded s) i)) ≡ take 5 (drop (5 * i) (after_projects s))
  unfolding about after decoded kinds_from kind_spare_at kind_spare kind_from kind_fields unpack placed fields_of
  kind_part i l =
      let e = written_at (headed s).kinds (λ k. kind_from (kind_at (after_projects s) k)) (replicate 16 no_kind) no_kind i l
      (omega (arith, length-replicate 16 no_kind, counts.kinds_most)) in
      ap (λ (v : Kind). bytes_of 5
      (pack kind_widths (v.project ∷ v.separation ∷ v.deadline ∷ v.length ∷ kind_spare_at s (headed s).projects i ∷ []))) e
      ∙ placed_fields kind_widths (kind_at (after_projects s) i) refl
      (bytes_behind (after_projects s) (bytes_behind s b (3 + 2 * (headed s).projects)) (5 * i))
      (omega (arith, total, length-drop (5 * i) (after_projects s), length-drop (3 + 2 * (headed s).projects) s))

  pub applied_none : applied s [] ≡ take (size (headed s)) s
  unfolding applied entries_in about some decoded size
  applied_none =
      let k = (headed s).projects in
      let n = (headed s).kinds in
      let a = parts_front k 2 (λ j. bytes_of 2 (pack project_widths (project_after [] s (decoded s) j))) (after_header s) project_part in
      let c = parts_front n 5 (λ i. bytes_of 5 (pack kind_widths (kind_after [] s (decoded s) i))) (after_projects s) kind_part in
      (λ i. header_part i ++ a i ++ c i) ∙ ap (λ (x : List ℕ). x ++ take (5 * n) (after_projects s)) (sym (take-add 3 (2 * k) s))
      ∙ sym (take-add (3 + 2 * k) (5 * n) s)
