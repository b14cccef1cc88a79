-- Reading looks at no byte behind the header's total, whatever it answers.
-- Assumes nothing.
use Rattle.std.specs.Prelude.{◌≡◌, refl, Bool, eqb, drop, replicate}
use Rattle.std.proofs.Common.{sym, ◌∙◌, arith, get_or-drop}
use Rattle.std.proofs.Math.Path.{ap, ap₂}
use Rattle.std.proofs.Math.Bool.{◌&&◌}
use mathlib.Core.List.{List}
use Prim.Native.Nat.{ℕ, zero, suc, ◌+◌, ◌*◌, ◌≤◌, ◌<◌}
use Rattle.std.proofs.Math.ListN.{length, get_or}
use borrow.Author.Tests.{le-ltb}
use Rattle.laws.specs.All.{all_to}
use Rattle.laws.specs.Written.Properties.{written_cong}
use Rattle.codec.specs.Pack.{unpack}
use Rattle.codec.specs.Bytes.{number_to}
use Rattle.codec.specs.Bytes.Properties.{number_cong}
use Rattle.plan.specs.declared.Project.{Project}
use Rattle.plan.specs.declared.Kind.{Kind}
use Rattle.plan.specs.declared.Plan.{Plan}
use Rattle.plan.specs.Record.{no_project, no_kind}
use Rattle.plan_bytes.specs.Parts.{header_widths, project_widths, kind_widths, header_fields, project_fields, kind_fields}
use Rattle.plan_bytes.specs.Parts.{project_from, kind_from, project_at, kind_at, projects_from, kinds_from, headed, after_header}
use Rattle.plan_bytes.specs.Parts.{after_projects, decoded, size}
use Rattle.plan_bytes.specs.Reading.{header_spare, project_spare, kind_spare, projects_spare, kinds_spare, places_spare, spare_zero}
use Rattle.plan_bytes.specs.Reading.{body_answer, read_answer, read_of}

all_cong : (n : ℕ) (f g : ℕ → Bool) → ((i : ℕ) → i < n → f i ≡ g i) → all_to n f ≡ all_to n g
unfolding all_to
all_cong zero f g h = refl
all_cong (suc n) f g h = ap₂ ◌&&◌ (all_cong n f g (λ i l. h i (omega arith))) (h n (omega arith))

-- field k is zero
abbrev test : ℕ → List ℕ → Bool
test k fields = eqb (get_or fields k 0) 0

-- the total covers the header and each part
size_covers : (p : Plan) → size p ≡ 3 + 2 * p.projects + 5 * p.kinds
unfolding size
size_covers p = refl

-- ---- two strings of bytes that agree as far as the header of the first says

module _ (s t : List ℕ) (long : size (headed s) ≤ length s) (other : size (headed s) ≤ length t)
    (same : (i : ℕ) → i < size (headed s) → get_or s i 0 ≡ get_or t i 0) where
  total : size (headed s) ≡ 3 + 2 * (headed s).projects + 5 * (headed s).kinds
  total = size_covers (headed s)

  -- a part of so many bytes
  numbers : (n at off : ℕ) → at + off + n ≤ size (headed s) → number_to n (drop off (drop at s)) ≡ number_to n (drop off (drop at t))
  numbers n at off l =
      number_cong n (drop off (drop at s)) (drop off (drop at t))
      (λ i m. get_or-drop off (drop at s) i 0 ∙ get_or-drop at s (off + i) 0 ∙ same (at + (off + i)) (omega arith)
      ∙ sym (get_or-drop off (drop at t) i 0 ∙ get_or-drop at t (off + i) 0))

  pub header_same : header_fields s ≡ header_fields t
  unfolding header_fields
  header_same = ap (unpack header_widths) (numbers 3 0 0 (omega (arith, total)))

  pub headed_same : headed s ≡ headed t
  unfolding headed
  headed_same = rw header_same

  pub project_same : (j : ℕ) → j < (headed s).projects
      → project_fields (project_at (after_header s) j) ≡ project_fields (project_at (after_header t) j)
  unfolding project_fields
  project_same j l = ap (unpack project_widths) (numbers 2 3 (2 * j) (omega (arith, total)))

  -- the bytes after the projects of t, whose counts are those of s
  after_same : after_projects t ≡ drop (3 + 2 * (headed s).projects) t
  after_same = ap (λ (p : Plan). drop (3 + 2 * p.projects) t) (sym headed_same)

  pub kind_same : (i : ℕ) → i < (headed s).kinds → kind_fields (kind_at (after_projects s) i) ≡ kind_fields (kind_at (after_projects t) i)
  unfolding kind_fields
  kind_same i l =
      ap (unpack kind_widths) (numbers 5 (3 + 2 * (headed s).projects) (5 * i) (omega (arith, total)))
      ∙ ap (λ (x : List ℕ). unpack kind_widths (number_to 5 (drop (5 * i) x))) (sym after_same)

  projects_same : projects_from (headed s).projects (after_header s) ≡ projects_from (headed t).projects (after_header t)
  unfolding projects_from project_from
  projects_same =
      written_cong (headed s).projects (λ j. project_from (project_at (after_header s) j))
      (λ j. project_from (project_at (after_header t) j))
      (replicate 8 no_project) (λ j l. ap made (project_same j l))
      ∙ ap (λ (p : Plan). projects_from p.projects (after_header t)) headed_same
    where
      made : List ℕ → Project
      made l = record { ceiling = get_or l 0 0; budget = get_or l 1 0 }

  kinds_same : kinds_from (headed s).kinds (after_projects s) ≡ kinds_from (headed t).kinds (after_projects t)
  unfolding kinds_from kind_from
  kinds_same =
      written_cong (headed s).kinds (λ i. kind_from (kind_at (after_projects s) i)) (λ i. kind_from (kind_at (after_projects t) i))
      (replicate 16 no_kind) (λ i l. ap made (kind_same i l))
      ∙ ap (λ (p : Plan). kinds_from p.kinds (after_projects t)) headed_same
    where
      made : List ℕ → Kind
      made l = record { project = get_or l 0 0; separation = get_or l 1 0; deadline = get_or l 2 0; length = get_or l 3 0 }

  pub decoded_same : decoded s ≡ decoded t
  unfolding decoded
  decoded_same =
      let h = headed_same in
      let a = projects_same in
      let b = kinds_same in
      λ i. record { cards = (h i).cards; projects = (h i).projects; kinds = (h i).kinds; frame = (h i).frame; project = a i; kind = b i }

  spare_same : spare_zero s ≡ spare_zero t
  unfolding spare_zero header_spare places_spare projects_spare project_spare kinds_spare kind_spare
  spare_same =
      let a = all_cong (headed s).projects (λ j. test 2 (project_fields (project_at (after_header s) j)))
      (λ j. test 2 (project_fields (project_at (after_header t) j)))
      (λ j l. ap (test 2) (project_same j l)) in
      let b = all_cong (headed s).kinds (λ i. test 4 (kind_fields (kind_at (after_projects s) i)))
      (λ i. test 4 (kind_fields (kind_at (after_projects t) i)))
      (λ i l. ap (test 4) (kind_same i l)) in
      ap₂ (λ (x : List ℕ) (y : Bool). test 4 x && y) header_same
      (ap₂ ◌&&◌ (a ∙ ap (λ (p : Plan). projects_spare p.projects (after_header t)) headed_same)
      (b ∙ ap (λ (p : Plan). kinds_spare p.kinds (after_projects t)) headed_same))

  body_same : body_answer s ≡ body_answer t
  unfolding body_answer
  body_same =
      let n = ap size headed_same in
      rw (le-ltb (length s) (size (headed s)) long, le-ltb (length t) (size (headed t)) (omega arith), spare_same, decoded_same)

  answer_same : read_answer s ≡ read_answer t
  unfolding read_answer
  answer_same =
      let three : 3 ≤ size (headed s) = omega (arith, total) in
      rw (le-ltb (length s) 3 (omega arith), le-ltb (length t) 3 (omega arith), headed_same, body_same)

  pub read_same : read_of s ≡ read_of t
  unfolding read_of
  read_same = rw (answer_same, decoded_same, headed_same)
