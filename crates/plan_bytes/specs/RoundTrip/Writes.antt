-- Writing what was read gives the same bytes.
-- Assumes nothing.
use Rattle.std.specs.Prelude.{◌≡◌, refl, true, not, ℕ, ◌+◌, ◌*◌, ◌≤◌, ◌<◌, ltb, length, get_or, drop, replicate}
use Rattle.std.proofs.Math.Path.{sym, ap, ap₂}
use Rattle.std.proofs.Common.{◌∙◌, arith, take-add}
use mathlib.Core.List.{List, [], ◌∷◌, ◌++◌}
use Rattle.std.proofs.Math.Dec.{eqb}
use Rattle.std.proofs.Math.ListN.{take, length-replicate, length-drop}
use borrow.Author.Tests.{eqb-true, ltb-false, not-false}
use Rattle.laws.specs.Tests.{and_left, and_right}
use Rattle.laws.specs.All.Properties.{all_at}
use Rattle.laws.specs.Written.Properties.{written_at, written_length}
use Rattle.answer.specs.declared.Answer.TheVariants.{Good}
use Rattle.plan.specs.Record.{no_project, no_kind}
use Rattle.answer.specs.Answer.{bare, refuse, ◌and_then◌}
use Rattle.answer.specs.Answer.Properties.{and_then_left, and_then_right, refuse_good}
use Rattle.plan.specs.Order.{sizes, ranges, checked, Sized}
use Rattle.plan.specs.Order.Properties.{sizes_says}
use Rattle.codec.specs.Pack.{pack, unpack}
use Rattle.codec.specs.Bytes.{bytes_of, AreBytes}
use Rattle.codec.specs.Bytes.Properties.{bytes_behind}
use Rattle.codec.specs.Place.{placed, fields_of}
use Rattle.codec.specs.Place.Properties.{placed_fields}
use Rattle.codec.specs.Places.{parts_to}
use Rattle.codec.specs.Places.Properties.{parts_front}
use Rattle.plan_bytes.specs.Parts.{Shaped, header_widths, project_widths, kind_widths, header_bytes, project_bytes, kind_bytes}
use Rattle.plan_bytes.specs.Parts.{project_bytes_at, kind_bytes_at, encoded, header_fields, project_fields, kind_fields, project_from}
use Rattle.plan_bytes.specs.Parts.{kind_from, project_at, kind_at, projects_from, kinds_from, headed, after_header, after_projects, decoded}
use Rattle.plan_bytes.specs.Parts.{size}
use Rattle.plan_bytes.specs.Reading.{header_spare, project_spare, kind_spare, projects_spare, kinds_spare, places_spare, spare_zero}
use Rattle.plan_bytes.specs.Reading.{body_answer, read_answer, read_of}
use Rattle.plan_bytes.specs.Reading.Properties.{decoded_checked}

-- ---- what a good answer says, stage by stage

pub record ReadGood (s : List ℕ) : Type 0 where
  pub counts : sizes (headed s) ≡ Good
  pub long : size (headed s) ≤ length s
  pub spare : spare_zero s ≡ true
  pub in_range : ranges (decoded s) ≡ Good

pub read_good : (s : List ℕ) → read_answer s ≡ Good → ReadGood s
unfolding read_answer body_answer
read_good s e =
    let one = refuse (ltb (length s) 3) (bare 1) in
    let short = refuse (ltb (length s) (size (headed s))) (bare 1) in
    let three = refuse (not (spare_zero s)) (bare 3) in
    let a = and_then_right one (sizes (headed s) and_then body_answer s) e in
    let b = and_then_right (sizes (headed s)) (body_answer s) a in
    let c = and_then_right short (three and_then ranges (decoded s)) b in
    record {
      counts = and_then_left (sizes (headed s)) (body_answer s) a;
      long = ltb-false (length s) (size (headed s))
          (refuse_good (ltb (length s) (size (headed s))) _ (and_then_left short (three and_then ranges (decoded s)) b));
      spare = not-false (spare_zero s) (refuse_good (not (spare_zero s)) _ (and_then_left three (ranges (decoded s)) c));
      in_range = and_then_right three (ranges (decoded s)) c;
    }

answer_is : (s : List ℕ) → (read_of s).answer ≡ Good → read_answer s ≡ Good
unfolding read_of
answer_is s e = e

plan_is : (s : List ℕ) → read_answer s ≡ Good → (read_of s).plan ≡ decoded s
unfolding read_of
plan_is s e = rw e

taken_is : (s : List ℕ) → read_answer s ≡ Good → (read_of s).taken ≡ size (headed s)
unfolding read_of
taken_is s e = rw e

-- ---- what was read is a plan in order, of the language's type, and as long as it says

pub read_checked : (s : List ℕ) → (read_of s).answer ≡ Good → checked (read_of s).plan ≡ Good
read_checked s e =
    let g = read_good s (answer_is s e) in
    ap checked (plan_is s (answer_is s e)) ∙ decoded_checked s g.counts ∙ g.in_range

pub read_shaped : (s : List ℕ) → (read_of s).answer ≡ Good → Shaped (read_of s).plan
unfolding decoded projects_from kinds_from
read_shaped s e =
    rw (plan_is s (answer_is s e))
    (record {
      eight = written_length (headed s).projects (λ j. project_from (project_at (after_header s) j)) (replicate 8 no_project);
      sixteen = written_length (headed s).kinds (λ i. kind_from (kind_at (after_projects s) i)) (replicate 16 no_kind);
    })

pub read_size : (s : List ℕ) → (read_of s).answer ≡ Good → (read_of s).taken ≡ size (read_of s).plan
unfolding size decoded
read_size s e = taken_is s (answer_is s e) ∙ sym (ap size (plan_is s (answer_is s e)))

-- ---- the parts, one by one

-- a part stored as it was read, its spare bits zero, is the bytes that were read

header_same : (s : List ℕ) → AreBytes s → 3 ≤ length s → header_spare s ≡ 0 → header_bytes (headed s) ≡ take 3 s
unfolding header_bytes headed header_spare header_fields unpack placed fields_of
header_same s b l e =
    ap (λ (z : ℕ). bytes_of 3
    (pack header_widths
    (get_or (header_fields s) 0 0 ∷ get_or (header_fields s) 1 0 ∷ get_or (header_fields s) 2 0 ∷ get_or (header_fields s) 3 0 ∷ z ∷ [])))
    (sym e)
    ∙ placed_fields header_widths s refl b l

project_same : (s : List ℕ) → AreBytes s → 2 ≤ length s → project_spare s ≡ 0 → project_bytes (project_from s) ≡ take 2 s
unfolding project_bytes project_from project_spare project_fields unpack placed fields_of
project_same s b l e =
    ap (λ (z : ℕ). bytes_of 2 (pack project_widths (get_or (project_fields s) 0 0 ∷ get_or (project_fields s) 1 0 ∷ z ∷ []))) (sym e)
    ∙ placed_fields project_widths s refl b l

kind_same : (s : List ℕ) → AreBytes s → 5 ≤ length s → kind_spare s ≡ 0 → kind_bytes (kind_from s) ≡ take 5 s
unfolding kind_bytes kind_from kind_spare kind_fields unpack placed fields_of
kind_same s b l e =
    ap (λ (z : ℕ). bytes_of 5
    (pack kind_widths
    (get_or (kind_fields s) 0 0 ∷ get_or (kind_fields s) 1 0 ∷ get_or (kind_fields s) 2 0 ∷ get_or (kind_fields s) 3 0 ∷ z ∷ [])))
    (sym e) ∙ placed_fields kind_widths s refl b l

-- ---- the whole

module _ (s : List ℕ) (b : AreBytes s) (good : ReadGood s) where
  counts : Sized (headed s)
  counts = sizes_says (headed s) good.counts

  header_spare_law : header_spare s ≡ 0
  unfolding spare_zero
  header_spare_law = eqb-true (header_spare s) 0 (and_left (eqb (header_spare s) 0) (places_spare s) good.spare)

  places_clean : places_spare s ≡ true
  unfolding spare_zero
  places_clean = and_right (eqb (header_spare s) 0) (places_spare s) good.spare

  project_spare_law : (j : ℕ) → j < (headed s).projects → project_spare (project_at (after_header s) j) ≡ 0
  unfolding places_spare projects_spare
  project_spare_law j l =
      let c = and_left (projects_spare (headed s).projects (after_header s)) (kinds_spare (headed s).kinds (after_projects s))
      places_clean in
      eqb-true (project_spare (project_at (after_header s) j)) 0
      (all_at (headed s).projects (λ k. eqb (project_spare (project_at (after_header s) k)) 0) c j l)

  kind_spare_law : (i : ℕ) → i < (headed s).kinds → kind_spare (kind_at (after_projects s) i) ≡ 0
  unfolding places_spare kinds_spare
  kind_spare_law i l =
      let c = and_right (projects_spare (headed s).projects (after_header s))
      (kinds_spare (headed s).kinds (after_projects s)) places_clean in
      eqb-true (kind_spare (kind_at (after_projects s) i)) 0
      (all_at (headed s).kinds (λ k. eqb (kind_spare (kind_at (after_projects s) k)) 0) c i l)

  header_part : header_bytes (decoded s) ≡ take 3 s
  unfolding header_bytes decoded size
  header_part = let l = good.long in header_same s b (omega arith) header_spare_law

  project_part : (j : ℕ) → j < (headed s).projects → project_bytes_at (decoded s) j ≡ take 2 (drop (2 * j) (after_header s))
  unfolding decoded projects_from size
  project_part j l =
      let m = counts.projects_most in
      let n = good.long in
      let e = written_at (headed s).projects (λ k. project_from (project_at (after_header s) k)) (replicate 8 no_project) no_project j l
      (omega (arith, length-replicate 8 no_project)) in
      ap project_bytes e
      ∙ project_same (project_at (after_header s) j) (bytes_behind (after_header s) (bytes_behind s b 3) (2 * j))
      (omega (arith, length-drop (2 * j) (after_header s), length-drop 3 s)) (project_spare_law j l)

  kind_part : (i : ℕ) → i < (headed s).kinds → kind_bytes_at (decoded s) i ≡ take 5 (drop (5 * i) (after_projects s))
  unfolding decoded kinds_from size
  kind_part i l =
      let m = counts.kinds_most in
      let n = good.long in
      let e = written_at (headed s).kinds (λ k. kind_from (kind_at (after_projects s) k)) (replicate 16 no_kind) no_kind i l
      (omega (arith, length-replicate 16 no_kind)) in
      ap kind_bytes e
      ∙ kind_same (kind_at (after_projects s) i) (bytes_behind (after_projects s) (bytes_behind s b (3 + 2 * (headed s).projects)) (5 * i))
      (omega (arith, length-drop (5 * i) (after_projects s), length-drop (3 + 2 * (headed s).projects) s)) (kind_spare_law i l)

  decoded_back : encoded (decoded s) ≡ take (size (headed s)) s
  unfolding encoded decoded size
  decoded_back =
      let k = (headed s).projects in
      let n = (headed s).kinds in
      ap₂ (λ (x y : List ℕ). x ++ parts_to k (project_bytes_at (decoded s)) ++ y) header_part
      (parts_front n 5 (kind_bytes_at (decoded s)) (after_projects s) kind_part)
      ∙ ap (λ (x : List ℕ). take 3 s ++ x ++ take (5 * n) (after_projects s))
      (parts_front k 2 (project_bytes_at (decoded s)) (after_header s) project_part)
      ∙ ap (λ (x : List ℕ). x ++ take (5 * n) (after_projects s)) (sym (take-add 3 (2 * k) s))
      ∙ sym (take-add (3 + 2 * k) (5 * n) s)

pub encoded_read : (s : List ℕ) → AreBytes s → (read_of s).answer ≡ Good → encoded (read_of s).plan ≡ take (read_of s).taken s
encoded_read s b e =
    let g = read_good s (answer_is s e) in
    ap encoded (plan_is s (answer_is s e)) ∙ decoded_back s b g ∙ ap (λ (k : ℕ). take k s) (sym (taken_is s (answer_is s e)))
