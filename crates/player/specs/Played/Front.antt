-- Reading looks at the front only: the answer 1 says that bytes are missing, and with any other answer no byte behind those that were read
-- counts.
-- Assumes nothing.
use Rattle.std.specs.Prelude.{◌≡◌, refl, Bool, true, false, not, ℕ, zero, suc, ◌+◌, ◌*◌, ◌≤◌, ◌<◌, leb, ltb, drop, set}
use Rattle.std.proofs.Common.{sym, ◌∙◌, arith}
use Rattle.std.proofs.Math.Path.{ap, ap₂}
use Rattle.std.proofs.Math.Bool.{◌&&◌}
use mathlib.Core.List.{List, ◌++◌}
use Rattle.std.proofs.Math.Decide.{dec_lt}
use Rattle.std.proofs.Math.Dec.{eqb}
use Rattle.std.proofs.Math.ListN.{length, get_or, replicate, length-append, length-drop}
use Rattle.std.proofs.lemmas.List.{drop-append-le}
use borrow.Author.Tests.{lt-ltb, le-ltb}
use Rattle.laws.specs.All.{all_to}
use Rattle.laws.specs.Written.{written}
use Rattle.plan.specs.declared.Plan.{Plan}
use Rattle.answer.specs.declared.Answer.{Answer}
use Rattle.answer.specs.declared.Answer.TheVariants.{Good, No}
use Rattle.answer.specs.declared.Refusal.{Refusal}
use Rattle.plan.specs.Record.{no_project, no_kind}
use Rattle.answer.specs.Answer.{bare, at_project, at_kind, number, refuse, ◌and_then◌, each_to}
use Rattle.plan.specs.Order.{sized, sizes, in_range, timed, project_of, kind_of, project_in_range, projects_in_range, kind_in_range}
use Rattle.plan.specs.Order.{kind_in_range_at, kinds_in_range, budgets, budgets_fit, ranges}
use Rattle.plan.specs.Order.Properties.{sizes_says}
use Rattle.codec.specs.Pack.{unpack}
use Rattle.codec.specs.Bytes.{number_to}
use Rattle.codec.specs.Bytes.Properties.{number_append}
use Rattle.plan_bytes.specs.Parts.{header_widths, project_widths, kind_widths, header_fields, project_fields, kind_fields, project_from}
use Rattle.plan_bytes.specs.Parts.{kind_from, project_at, kind_at, projects_from, kinds_from, after_header, after_projects, headed, decoded}
use Rattle.plan_bytes.specs.Parts.{size}
use Rattle.plan_bytes.specs.Reading.{header_spare, project_spare, kind_spare, projects_spare, kinds_spare, places_spare, spare_zero}
use Rattle.plan_bytes.specs.Reading.{body_answer, read_answer, read_of}
use Rattle.plan_bytes.specs.Reading.Properties.{read_short}

-- ---- folds that agree

written_same : {A : Type 0} (n : ℕ) (f g : ℕ → A) (l : List A) → ((i : ℕ) → i < n → f i ≡ g i) → written n f l ≡ written n g l
unfolding written
written_same zero f g l h = refl
written_same (suc n) f g l h = ap₂ (λ x v. set x n v) (written_same n f g l (λ i q. h i (omega arith))) (h n (omega arith))

all_same : (n : ℕ) (f g : ℕ → Bool) → ((i : ℕ) → i < n → f i ≡ g i) → all_to n f ≡ all_to n g
unfolding all_to
all_same zero f g h = refl
all_same (suc n) f g h = ap₂ ◌&&◌ (all_same n f g (λ i q. h i (omega arith))) (h n (omega arith))

-- the i-th part of w bytes, with more behind
part_more : (w i : ℕ) (u t : List ℕ) → w * i + w ≤ length u → number_to w (drop (w * i) (u ++ t)) ≡ number_to w (drop (w * i) u)
part_more w i u t l =
    ap (number_to w) (drop-append-le (w * i) u t (omega arith)) ∙ number_append w (drop (w * i) u) t (omega (arith, length-drop (w * i) u))

-- ---- a header, with more behind

module _ (s t : List ℕ) (three : 3 ≤ length s) where
  fields_more : header_fields (s ++ t) ≡ header_fields s
  unfolding header_fields
  fields_more = ap (unpack header_widths) (number_append 3 s t three)

  headed_more : headed (s ++ t) ≡ headed s
  unfolding headed
  headed_more = λ i. record {
    cards = get_or (fields_more i) 0 0;
    projects = get_or (fields_more i) 1 0;
    kinds = get_or (fields_more i) 2 0;
    frame = get_or (fields_more i) 3 0;
    project = replicate 8 no_project;
    kind = replicate 16 no_kind;
  }

  -- ---- a whole plan, with more behind

  module _ (whole : size (headed s) ≤ length s) where
    enough : 3 + 2 * (headed s).projects + 5 * (headed s).kinds ≤ length s
    unfolding size
    enough = whole

    header_after : after_header (s ++ t) ≡ after_header s ++ t
    header_after = drop-append-le 3 s t three

    projects_after : after_projects (s ++ t) ≡ after_projects s ++ t
    projects_after =
        ap (λ (p : Plan). drop (3 + 2 * p.projects) (s ++ t)) headed_more
        ∙ drop-append-le (3 + 2 * (headed s).projects) s t (omega (arith, enough))

    project_more : (j : ℕ) → j < (headed s).projects
        → project_fields (project_at (after_header (s ++ t)) j) ≡ project_fields (project_at (after_header s) j)
    unfolding project_fields
    project_more j l =
        ap (λ (u : List ℕ). unpack project_widths (number_to 2 (drop (2 * j) u))) header_after
        ∙ ap (unpack project_widths) (part_more 2 j (after_header s) t (omega (arith, enough, length-drop 3 s)))

    kind_more : (i : ℕ) →
        i < (headed s).kinds →
        kind_fields (kind_at (after_projects (s ++ t)) i) ≡ kind_fields (kind_at (after_projects s) i)
    unfolding kind_fields
    kind_more i l =
        ap (λ (u : List ℕ). unpack kind_widths (number_to 5 (drop (5 * i) u))) projects_after
        ∙ ap (unpack kind_widths) (part_more 5 i (after_projects s) t (omega (arith, enough, length-drop (3 + 2 * (headed s).projects) s)))

    projects_more : projects_from (headed (s ++ t)).projects (after_header (s ++ t)) ≡ projects_from (headed s).projects (after_header s)
    unfolding projects_from project_from
    projects_more =
        ap (λ (p : Plan). projects_from p.projects (after_header (s ++ t))) headed_more
        ∙ written_same (headed s).projects (λ j. project_from (project_at (after_header (s ++ t)) j))
        (λ j. project_from (project_at (after_header s) j)) (replicate 8 no_project)
        (λ j l. λ i. record { ceiling = get_or (project_more j l i) 0 0; budget = get_or (project_more j l i) 1 0 })

    kinds_more : kinds_from (headed (s ++ t)).kinds (after_projects (s ++ t)) ≡ kinds_from (headed s).kinds (after_projects s)
    unfolding kinds_from kind_from
    kinds_more =
        ap (λ (p : Plan). kinds_from p.kinds (after_projects (s ++ t))) headed_more
        ∙ written_same (headed s).kinds (λ k. kind_from (kind_at (after_projects (s ++ t)) k))
        (λ k. kind_from (kind_at (after_projects s) k))
        (replicate 16 no_kind)
        (λ k l. λ i. record {
          project = get_or (kind_more k l i) 0 0;
          separation = get_or (kind_more k l i) 1 0;
          deadline = get_or (kind_more k l i) 2 0;
          length = get_or (kind_more k l i) 3 0;
        })

    decoded_more : decoded (s ++ t) ≡ decoded s
    unfolding decoded
    decoded_more = λ i. record {
      cards = (headed_more i).cards;
      projects = (headed_more i).projects;
      kinds = (headed_more i).kinds;
      frame = (headed_more i).frame;
      project = projects_more i;
      kind = kinds_more i;
    }

    spare_more : spare_zero (s ++ t) ≡ spare_zero s
    unfolding spare_zero places_spare projects_spare kinds_spare header_spare project_spare kind_spare
    spare_more =
        ap₂ ◌&&◌ (ap (λ (f : List ℕ). eqb (get_or f 4 0) 0) fields_more)
        (ap₂ ◌&&◌
        (ap (λ (p : Plan). projects_spare p.projects (after_header (s ++ t))) headed_more
        ∙ all_same (headed s).projects (λ j. eqb (project_spare (project_at (after_header (s ++ t)) j)) 0)
        (λ j. eqb (project_spare (project_at (after_header s) j)) 0) (λ j l. ap (λ (f : List ℕ). eqb (get_or f 2 0) 0) (project_more j l)))
        (ap (λ (p : Plan). kinds_spare p.kinds (after_projects (s ++ t))) headed_more
        ∙ all_same (headed s).kinds (λ i. eqb (kind_spare (kind_at (after_projects (s ++ t)) i)) 0)
        (λ i. eqb (kind_spare (kind_at (after_projects s) i)) 0) (λ i l. ap (λ (f : List ℕ). eqb (get_or f 4 0) 0) (kind_more i l))))

    body_more : body_answer (s ++ t) ≡ body_answer s
    unfolding body_answer
    body_more =
        rw (
          headed_more,
          spare_more,
          decoded_more,
          le-ltb (length (s ++ t)) (size (headed s)) (omega (arith, length-append s t)),
          le-ltb (length s) (size (headed s)) whole,
        )

    whole_more : read_answer (s ++ t) ≡ read_answer s
    unfolding read_answer
    whole_more = rw (headed_more, body_more, le-ltb (length (s ++ t)) 3 (omega (arith, length-append s t)), le-ltb (length s) 3 three)

    whole_read : read_of (s ++ t) ≡ read_of s
    unfolding read_of
    whole_read = rw (whole_more, decoded_more, headed_more)

  -- the counts are out of range: nothing else is looked at
  counts_say : (u : List ℕ) (w : Refusal) → 3 ≤ length u → sizes (headed u) ≡ No w → read_answer u ≡ No w
  unfolding read_answer
  counts_say u w l e = rw (le-ltb (length u) 3 l, e)

  counts_read : (w : Refusal) → sizes (headed s) ≡ No w → read_of (s ++ t) ≡ read_of s
  unfolding read_of
  counts_read w e =
      let a : read_answer s ≡ No w = counts_say s w three e in
      let b : read_answer (s ++ t) ≡ No w = counts_say (s ++ t) w (omega (arith, length-append s t)) (ap sizes headed_more ∙ e) in
      rw (a, b)

  -- fewer bytes than the header's total
  total_short : sizes (headed s) ≡ Good → length s < size (headed s) → read_answer s ≡ bare 1
  unfolding read_answer body_answer
  total_short e l = rw (le-ltb (length s) 3 three, e, lt-ltb (length s) (size (headed s)) l)

answer_is : (s : List ℕ) (w : Refusal) → read_answer s ≡ No w → (read_of s).answer ≡ No w
unfolding read_of
answer_is s w e = e

-- an answer that is not 1 stays the same, whatever follows
pub read_more : (s t : List ℕ) → (number (read_of s).answer ≡ 1 → ⊥) → read_of (s ++ t) ≡ read_of s
read_more s t ne =
    elim (dec_lt (length s) 3) [
      | yes l ↦ absurd (ne (ap number (answer_is s _ (sym (read_short s (bare 1) refl l)))))
      | no l ↦ long (omega arith)
    ]
  where
    long : 3 ≤ length s → read_of (s ++ t) ≡ read_of s
    long three = by_counts (sizes (headed s)) refl
      where
        by_counts : (a : Answer) → sizes (headed s) ≡ a → read_of (s ++ t) ≡ read_of s
        by_counts (No w) e = counts_read s t three w e
        by_counts Good e =
            elim (dec_lt (length s) (size (headed s))) [
              | yes l ↦ absurd (ne (ap number (answer_is s _ (total_short s t three e l))))
              | no l ↦ whole_read s t three (omega arith)
            ]

-- ---- the answer 1 says that bytes are missing

refuse_other : (b : Bool) (a : Answer) → (number a ≡ 1 → ⊥) → number (refuse b a) ≡ 1 → ⊥
refuse_other true a h e = h e
refuse_other false a h e = absurd (omega arith)

then_other : (a b : Answer) → (number a ≡ 1 → ⊥) → (number b ≡ 1 → ⊥) → number (a and_then b) ≡ 1 → ⊥
then_other Good b h k e = k e
then_other (No r) b h k e = h e

each_other : (n : ℕ) (f : ℕ → Answer) → ((i : ℕ) → number (f i) ≡ 1 → ⊥) → number (each_to n f) ≡ 1 → ⊥
unfolding each_to
each_other zero f h e = absurd (omega arith)
each_other (suc n) f h e = then_other (each_to n f) (f n) (each_other n f h) (h n) e

ranges_other : (p : Plan) → number (ranges p) ≡ 1 → ⊥
unfolding ranges projects_in_range kinds_in_range kind_in_range budgets_fit
ranges_other p =
    then_other (projects_in_range p) (kinds_in_range p and_then budgets_fit p)
    (each_other p.projects (project_in_range p)
    (λ j. refuse_other (not (in_range p.cards p.frame (project_of p j))) (at_project 4 j) (λ q. omega arith)))
    (then_other (kinds_in_range p) (budgets_fit p)
    (each_other p.kinds (kind_in_range_at p)
    (λ i. then_other (refuse (not (ltb (kind_of p i).project p.projects)) (at_kind 5 i))
    (refuse (not (timed (kind_of p i))) (at_kind 6 i))
    (refuse_other (not (ltb (kind_of p i).project p.projects)) (at_kind 5 i) (λ q. omega arith))
    (refuse_other (not (timed (kind_of p i))) (at_kind 6 i) (λ q. omega arith))))
    (refuse_other (not (leb (budgets p) (p.cards * p.frame))) (bare 7) (λ q. omega arith)))

sizes_other : (p : Plan) → number (sizes p) ≡ 1 → ⊥
unfolding sizes
sizes_other p = refuse_other (not (sized p)) (bare 2) (λ q. omega arith)

-- "at most 99" bytes
pub one_short : (s : List ℕ) → number (read_of s).answer ≡ 1 → length s < 99
unfolding read_of read_answer body_answer size
one_short s one =
    elim (dec_lt (length s) 3) [
      | yes l ↦ omega arith
      | no l ↦
          elim (dec_lt (length s) (size (headed s))) [
            | yes q ↦ by_counts (sizes (headed s)) refl q
            | no q ↦
                absurd
                (then_other (sizes (headed s)) (body_answer s) (sizes_other (headed s))
                (then_other (refuse (ltb (length s) (size (headed s))) (bare 1))
                (refuse (not (spare_zero s)) (bare 3) and_then ranges (decoded s)) (λ e. no_one (omega arith) e)
                (then_other (refuse (not (spare_zero s)) (bare 3)) (ranges (decoded s))
                (refuse_other (not (spare_zero s)) (bare 3) (λ e. omega arith)) (ranges_other (decoded s))))
                (rw (le-ltb (length s) 3 (omega arith)) at one))
          ]
    ]
  where
    no_one : size (headed s) ≤ length s → number (refuse (ltb (length s) (size (headed s))) (bare 1)) ≡ 1 → ⊥
    no_one l e = let z : ◌≡◌ {A = ℕ} 0 1 = rw (le-ltb (length s) (size (headed s)) l) at e in omega arith

    by_counts : (a : Answer) → sizes (headed s) ≡ a → length s < size (headed s) → length s < 99
    by_counts Good e l = let z = sizes_says (headed s) e in omega (arith, z.projects_most, z.kinds_most)
    by_counts (No w) e l =
        elim (dec_lt (length s) 3) [
          | yes q ↦ omega arith
          | no q ↦ absurd (sizes_other (headed s) (ap number e ∙ (rw (le-ltb (length s) 3 (omega arith), e) at one)))
        ]
