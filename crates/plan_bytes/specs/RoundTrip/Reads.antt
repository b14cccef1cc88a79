-- Reading what was written gives the same plan.
-- Assumes nothing.
use Rattle.std.specs.Prelude.{◌≡◌, Bool, true, ◌&&◌, ◌||◌, ℕ, ◌+◌, ◌*◌, ◌≤◌, ◌<◌, ltb, drop, replicate}
use Rattle.std.proofs.Math.Path.{refl, ap, ap₂}
use Rattle.std.proofs.Common.{sym, ◌∙◌, mul-le-mul, drop_at, ext_get_or}
use mathlib.Core.List.{List, [], ◌∷◌, ◌++◌, append_assoc}
use Rattle.std.proofs.Math.Decide.{dec_lt}
use native.Mathlib.Omega.{arith}
use Rattle.std.proofs.Math.Dec.{eqb}
use Rattle.std.proofs.Math.ListN.{length, get_or, length-append}
use Rattle.std.proofs.lemmas.List.{length-replicate, get_or-replicate}
use borrow.Author.Tests.{le-ltb, eq-eqb, eqb-true}
use Rattle.laws.specs.Tests.{and_left, and_right, and_both}
use Rattle.laws.specs.All.Properties.{all_of}
use Rattle.laws.specs.Written.{written}
use Rattle.laws.specs.Written.Properties.{written_at, written_kept, written_length}
use Rattle.plan.specs.declared.Project.{Project}
use Rattle.plan.specs.declared.Kind.{Kind}
use Rattle.plan.specs.declared.Plan.{Plan}
use Rattle.answer.specs.declared.Answer.TheVariants.{Good}
use Rattle.plan.specs.Record.{no_project, no_kind}
use Rattle.answer.specs.Answer.{◌and_then◌}
use Rattle.answer.specs.Answer.Properties.{and_then_right}
use Rattle.plan.specs.Order.{project_of, kind_of, empty_project, empty_kind, sizes, unused, ranges, checked, InOrder, ProjectInRange}
use Rattle.plan.specs.Order.{KindInRange, Sized, tidy_project, tidy_kind}
use Rattle.plan.specs.Order.Properties.{in_order, sizes_of, sizes_same}
use Rattle.codec.specs.Pack.{unpack}
use Rattle.codec.specs.Bytes.{number_to}
use Rattle.codec.specs.Place.{placed, fields_of}
use Rattle.codec.specs.Place.Properties.{fields_placed}
use Rattle.codec.specs.Places.{parts_to}
use Rattle.codec.specs.Places.Properties.{parts_length, parts_drop}
use Rattle.plan_bytes.specs.Parts.{Shaped, header_widths, project_widths, kind_widths, header_bytes, project_bytes, kind_bytes}
use Rattle.plan_bytes.specs.Parts.{project_bytes_at, kind_bytes_at, encoded, header_fields, project_fields, kind_fields, project_from}
use Rattle.plan_bytes.specs.Parts.{kind_from, project_at, kind_at, projects_from, kinds_from, headed, after_header, after_projects, decoded}
use Rattle.plan_bytes.specs.Parts.{size}
use Rattle.plan_bytes.specs.Parts.Properties.{size_header, header_length, project_length, kind_length}
use Rattle.plan_bytes.specs.Reading.{header_spare, project_spare, kind_spare, projects_spare, kinds_spare, places_spare, spare_zero}
use Rattle.plan_bytes.specs.Reading.{body_answer, read_answer, reading, read_of}

-- ---- a part that was written, whatever follows it

project_fields_law : (p : Plan) (v : Project) (rest : List ℕ) → p.cards ≤ 8 → p.frame ≤ 64 → ProjectInRange p v
    → project_fields (project_bytes v ++ rest) ≡ v.ceiling ∷ v.budget ∷ 0 ∷ []
unfolding project_fields project_bytes placed fields_of
project_fields_law p v rest m f r =
    let q : v.ceiling ≤ 8 = omega (arith, r.ceiling_most) in
    let b : v.budget ≤ 8 * 64 = omega (arith, r.budget_most, mul-le-mul q f) in
    fields_placed project_widths (v.ceiling ∷ v.budget ∷ 0 ∷ []) rest refl (omega arith, (omega arith, (omega arith, tt)))

kind_fields_law : (p : Plan) (v : Kind) (rest : List ℕ) → p.projects ≤ 8 → KindInRange p v
    → kind_fields (kind_bytes v ++ rest) ≡ v.project ∷ v.separation ∷ v.deadline ∷ v.length ∷ 0 ∷ []
unfolding kind_fields kind_bytes placed fields_of
kind_fields_law p v rest m r =
    let a = r.its_project in
    let t = r.separation_most in
    let d = r.deadline_most in
    let c = r.length_most in
    fields_placed kind_widths (v.project ∷ v.separation ∷ v.deadline ∷ v.length ∷ 0 ∷ []) rest refl
    (omega arith, (omega arith, (omega arith, (omega arith, (omega arith, tt)))))

-- ---- a place that holds zeros is the empty one

pub empty_project_law : (v : Project) → empty_project v ≡ true → v ≡ no_project
unfolding empty_project
empty_project_law v e =
    let a = eqb-true v.ceiling 0 (and_left (eqb v.ceiling 0) (eqb v.budget 0) e) in
    let b = eqb-true v.budget 0 (and_right (eqb v.ceiling 0) (eqb v.budget 0) e) in
    λ i. record { ceiling = a i; budget = b i }

pub empty_kind_law : (v : Kind) → empty_kind v ≡ true → v ≡ no_kind
unfolding empty_kind
empty_kind_law v e =
    let one = eqb v.project 0 in
    let two = eqb v.separation 0 in
    let three = eqb v.deadline 0 in
    let four = eqb v.length 0 in
    let r = and_right one (two && (three && four)) e in
    let t = and_right two (three && four) r in
    let a = eqb-true v.project 0 (and_left one (two && (three && four)) e) in
    let b = eqb-true v.separation 0 (and_left two (three && four) r) in
    let c = eqb-true v.deadline 0 (and_left three four t) in
    let d = eqb-true v.length 0 (and_right three four t) in
    λ i. record { project = a i; separation = b i; deadline = c i; length = d i }

-- beyond the used places
pub unused_place : (j n : ℕ) (e : Bool) → n ≤ j → (ltb j n || e) ≡ true → e ≡ true
unused_place j n e l t = rw (le-ltb j n l) at t

-- ---- a plan that passes 2 to 6, its bytes and what follows them

-- what a plan in order is but for the sum of its budgets
pub record Passes (p : Plan) : Type 0 where
  pub counts : Sized p
  pub projects_tidy : (j : ℕ) → j < 8 → tidy_project p j ≡ true
  pub kinds_tidy : (i : ℕ) → i < 16 → tidy_kind p i ≡ true
  pub project_at_law : (j : ℕ) → j < p.projects → ProjectInRange p (project_of p j)
  pub kind_at_law : (i : ℕ) → i < p.kinds → KindInRange p (kind_of p i)

pub order_passes : (p : Plan) → InOrder p → Passes p
order_passes p o =
    record {
      counts = o.counts;
      projects_tidy = o.projects_tidy;
      kinds_tidy = o.kinds_tidy;
      project_at_law = o.project_at_law;
      kind_at_law = o.kind_at_law;
    }

-- n places stored, and empty ones beyond them, are the list l where it has the same
written_back : {A : Type 0} (empty : A) (m n : ℕ) (f : ℕ → A) (l : List A) →
    length l ≡ m →
    n ≤ m →
    ((k : ℕ) → k < n → f k ≡ get_or l k empty) →
    ((k : ℕ) → n ≤ k → k < m → get_or l k empty ≡ empty) →
    written n f (replicate m empty) ≡ l
written_back empty m n f l e most used beyond = ext_get_or empty (written n f (replicate m empty)) l (long ∙ sym e) same
  where
    long : length (written n f (replicate m empty)) ≡ m
    long = written_length n f (replicate m empty) ∙ length-replicate m empty

    same : (k : ℕ) → k < length (written n f (replicate m empty)) → get_or (written n f (replicate m empty)) k empty ≡ get_or l k empty
    same k s =
        let b : k < m = omega (arith, long, s) in
        elim (dec_lt k n) [
          | yes q ↦ written_at n f (replicate m empty) empty k q (omega (arith, length-replicate m empty, most)) ∙ used k q
          | no q ↦ written_kept n f (replicate m empty) empty k (omega arith) ∙ get_or-replicate m k empty empty b
              ∙ sym (beyond k (omega arith) b)
        ]

-- the places of a plan that passes 2 to 6, each stored as it is
module _ (p : Plan) (shaped : Shaped p) (order : Passes p) where
  pub projects_back : (f : ℕ → Project) → ((j : ℕ) → j < p.projects → f j ≡ project_of p j)
      → written p.projects f (replicate 8 no_project) ≡ p.project
  projects_back f e =
      written_back no_project 8 p.projects f p.project shaped.eight order.counts.projects_most e
      (λ j l m. empty_project_law (project_of p j) (unused_place j p.projects (empty_project (project_of p j)) l (order.projects_tidy j m)))

  pub kinds_back : (f : ℕ → Kind) → ((i : ℕ) → i < p.kinds → f i ≡ kind_of p i) → written p.kinds f (replicate 16 no_kind) ≡ p.kind
  kinds_back f e =
      written_back no_kind 16 p.kinds f p.kind shaped.sixteen order.counts.kinds_most e
      (λ i l m. empty_kind_law (kind_of p i) (unused_place i p.kinds (empty_kind (kind_of p i)) l (order.kinds_tidy i m)))

module _ (p : Plan) (shaped : Shaped p) (order : Passes p) (rest : List ℕ) where
  projects_part : List ℕ
  projects_part = parts_to p.projects (project_bytes_at p)

  kinds_part : List ℕ
  kinds_part = parts_to p.kinds (kind_bytes_at p)

  unfoldable pub all : List ℕ
  all = encoded p ++ rest

  all_split : all ≡ header_bytes p ++ (projects_part ++ (kinds_part ++ rest))
  unfolding all encoded projects_part kinds_part
  all_split = simp append_assoc

  -- the header
  pub header_all : header_fields all ≡ p.cards ∷ p.projects ∷ p.kinds ∷ p.frame ∷ 0 ∷ []
  unfolding header_fields header_bytes placed fields_of
  header_all =
      let c = order.counts in
      let a = c.cards_most in
      let b = c.projects_most in
      let d = c.kinds_most in
      let e = c.frame_most in
      ap (λ (s : List ℕ). unpack header_widths (number_to 3 s)) all_split
      ∙ fields_placed header_widths (p.cards ∷ p.projects ∷ p.kinds ∷ p.frame ∷ 0 ∷ []) (projects_part ++ (kinds_part ++ rest)) refl
      (omega arith, (omega arith, (omega arith, (omega arith, (omega arith, tt)))))

  headed_cards : (headed all).cards ≡ p.cards
  unfolding headed
  headed_cards = ap (λ (s : List ℕ). get_or s 0 0) header_all

  pub headed_projects : (headed all).projects ≡ p.projects
  unfolding headed
  headed_projects = ap (λ (s : List ℕ). get_or s 1 0) header_all

  pub headed_kinds : (headed all).kinds ≡ p.kinds
  unfolding headed
  headed_kinds = ap (λ (s : List ℕ). get_or s 2 0) header_all

  headed_frame : (headed all).frame ≡ p.frame
  unfolding headed
  headed_frame = ap (λ (s : List ℕ). get_or s 3 0) header_all

  pub headed_size : size (headed all) ≡ size p
  unfolding size
  headed_size = ap₂ (λ (k n : ℕ). 3 + 2 * k + 5 * n) headed_projects headed_kinds

  -- the parts after it
  after_header_law : after_header all ≡ projects_part ++ (kinds_part ++ rest)
  after_header_law = ap (drop 3) all_split ∙ drop_at (header_bytes p) (projects_part ++ (kinds_part ++ rest)) 3 (header_length p)

  projects_length : length projects_part ≡ 2 * p.projects
  unfolding projects_part
  projects_length = parts_length p.projects (project_bytes_at p) 2 (λ j. project_length (project_of p j))

  after_projects_law : after_projects all ≡ kinds_part ++ rest
  after_projects_law =
      let h = header_length p in
      let k : length (header_bytes p ++ projects_part) ≡ 3 + 2 * p.projects = length-append (header_bytes p) projects_part
      ∙ omega (arith, projects_length) in
      ap (λ (n : ℕ). drop (3 + 2 * n) all) headed_projects
      ∙ ap (drop (3 + 2 * p.projects)) (all_split ∙ sym (append_assoc (header_bytes p) projects_part (kinds_part ++ rest)))
      ∙ drop_at (header_bytes p ++ projects_part) (kinds_part ++ rest) (3 + 2 * p.projects) k

  pub project_all : (j : ℕ) → j < p.projects
      → project_fields (project_at (after_header all) j) ≡ (project_of p j).ceiling ∷ (project_of p j).budget ∷ 0 ∷ []
  unfolding projects_part
  project_all j l =
      let t = parts_drop p.projects 2 (project_bytes_at p) (kinds_part ++ rest) j (λ k. project_length (project_of p k)) l in
      ap (λ (s : List ℕ). project_fields (drop (2 * j) s)) after_header_law ∙ ap project_fields t.1
      ∙ project_fields_law p (project_of p j) t.0 order.counts.cards_most order.counts.frame_most (order.project_at_law j l)

  pub kind_all : (i : ℕ) →
      i < p.kinds →
      kind_fields (kind_at (after_projects all) i) ≡
      (kind_of p i).project ∷ (kind_of p i).separation ∷ (kind_of p i).deadline ∷ (kind_of p i).length ∷ 0 ∷ []
  unfolding kinds_part
  kind_all i l =
      let t = parts_drop p.kinds 5 (kind_bytes_at p) rest i (λ k. kind_length (kind_of p k)) l in
      ap (λ (s : List ℕ). kind_fields (drop (5 * i) s)) after_projects_law ∙ ap kind_fields t.1
      ∙ kind_fields_law p (kind_of p i) t.0 order.counts.projects_most (order.kind_at_law i l)

  -- the places
  project_is : (j : ℕ) → j < p.projects → project_from (project_at (after_header all) j) ≡ project_of p j
  unfolding project_from
  project_is j l = let e = project_all j l in λ i. record { ceiling = get_or (e i) 0 0; budget = get_or (e i) 1 0 }

  kind_is : (k : ℕ) → k < p.kinds → kind_from (kind_at (after_projects all) k) ≡ kind_of p k
  unfolding kind_from
  kind_is k l = let e = kind_all k l in
      λ i. record { project = get_or (e i) 0 0; separation = get_or (e i) 1 0; deadline = get_or (e i) 2 0; length = get_or (e i) 3 0 }

  projects_all : projects_from (headed all).projects (after_header all) ≡ p.project
  unfolding projects_from
  projects_all =
      ap (λ (n : ℕ). projects_from n (after_header all)) headed_projects
      ∙ projects_back p shaped order (λ j. project_from (project_at (after_header all) j)) project_is

  kinds_all : kinds_from (headed all).kinds (after_projects all) ≡ p.kind
  unfolding kinds_from
  kinds_all =
      ap (λ (n : ℕ). kinds_from n (after_projects all)) headed_kinds
      ∙ kinds_back p shaped order (λ i. kind_from (kind_at (after_projects all) i)) kind_is

  pub decoded_all : decoded all ≡ p
  unfolding decoded
  decoded_all =
      λ i. record {
        cards = headed_cards i;
        projects = headed_projects i;
        kinds = headed_kinds i;
        frame = headed_frame i;
        project =
            projects_all i;
        kind = kinds_all i;
      }

  -- the stages
  pub sizes_all : sizes (headed all) ≡ Good
  sizes_all = sizes_same (headed all) p headed_cards headed_projects headed_kinds headed_frame ∙ sizes_of p order.counts

  header_clean : eqb (header_spare all) 0 ≡ true
  unfolding header_spare
  header_clean = eq-eqb (get_or (header_fields all) 4 0) 0 (ap (λ (s : List ℕ). get_or s 4 0) header_all)

  projects_clean : projects_spare (headed all).projects (after_header all) ≡ true
  unfolding projects_spare project_spare
  projects_clean =
      ap (λ (n : ℕ). projects_spare n (after_header all)) headed_projects
      ∙ all_of p.projects (λ j. eqb (project_spare (project_at (after_header all) j)) 0)
      (λ j l. eq-eqb (project_spare (project_at (after_header all) j)) 0 (ap (λ (s : List ℕ). get_or s 2 0) (project_all j l)))

  kinds_clean : kinds_spare (headed all).kinds (after_projects all) ≡ true
  unfolding kinds_spare kind_spare
  kinds_clean =
      ap (λ (n : ℕ). kinds_spare n (after_projects all)) headed_kinds
      ∙ all_of p.kinds (λ i. eqb (kind_spare (kind_at (after_projects all) i)) 0)
      (λ i l. eq-eqb (kind_spare (kind_at (after_projects all) i)) 0 (ap (λ (s : List ℕ). get_or s 4 0) (kind_all i l)))

  spare_all : spare_zero all ≡ true
  unfolding spare_zero places_spare
  spare_all =
      and_both (eqb (header_spare all) 0) (places_spare all) header_clean
      (and_both (projects_spare (headed all).projects (after_header all))
      (kinds_spare (headed all).kinds (after_projects all)) projects_clean kinds_clean)

  pub all_long : size p ≤ length all
  unfolding all size encoded projects_part kinds_part
  all_long =
      let h = header_length p in
      let k = parts_length p.kinds (kind_bytes_at p) 5 (λ i. kind_length (kind_of p i)) in
      omega (
        arith,
        length-append (header_bytes p ++ projects_part ++ kinds_part) rest,
        length-append
            (header_bytes p ++ projects_part) kinds_part,
        length-append (header_bytes p) projects_part,
        projects_length,
      )

  -- one where the budgets fit too
  module _ (good : checked p ≡ Good) where
    ranges_all : ranges (decoded all) ≡ Good
    unfolding checked
    ranges_all = ap ranges decoded_all
        ∙ and_then_right (unused p) (ranges p) (and_then_right (sizes p) (unused p and_then ranges p) good)

    answer_all : read_answer all ≡ Good
    unfolding read_answer body_answer
    answer_all =
        let l = all_long in
        let e = headed_size in
        rw (
          le-ltb (length all) 3 (size_header p (length all) l),
          sizes_all,
          le-ltb (length all) (size (headed all))
              (omega arith),
          spare_all,
          ranges_all,
        )

    read_all : read_of (encoded p ++ rest) ≡ record { answer = Good; plan = p; taken = size p }
    unfolding read_of all
    read_all = ap (λ a. reading a (decoded all) (size (headed all))) answer_all
        ∙ (λ i. record { answer = Good; plan = decoded_all i; taken = headed_size i })

pub read_encoded : (p : Plan) → Shaped p → checked p ≡ Good → (rest : List ℕ)
    → read_of (encoded p ++ rest) ≡ record { answer = Good; plan = p; taken = size p }
read_encoded p shaped good rest = read_all p shaped (order_passes p (in_order p good)) rest good
