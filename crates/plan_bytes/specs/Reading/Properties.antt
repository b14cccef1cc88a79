-- Laws of reading.
-- Assumes nothing.
use Rattle.std.specs.Prelude.{◌≡◌, refl, Bool, true, false, not, ◌&&◌, List, ℕ, ◌+◌, ◌*◌, ◌-◌, ◌≤◌, ◌<◌, ltb, length, take, drop, replicate}
use Rattle.std.proofs.Common.{sym, ap, ◌∙◌, arith, lt-ltb, le-ltb}
use Rattle.std.proofs.Math.Path.{ap₂}
use Rattle.std.proofs.Math.Decide.{dec_lt}
use Rattle.std.proofs.Math.Dec.{eqb}
use Rattle.std.proofs.lemmas.List.{get_or-replicate}
use Rattle.laws.specs.All.Properties.{all_none, all_again, all_stop, all_of}
use Rattle.laws.specs.Written.Properties.{written_kept}
use Rattle.plan.specs.declared.Plan.{Plan}
use Rattle.answer.specs.declared.Answer.{Answer}
use Rattle.answer.specs.declared.Answer.TheVariants.{Good, No}
use Rattle.answer.specs.declared.Refusal.{Refusal}
use Rattle.plan.specs.Record.{no_project, no_kind, no_plan}
use Rattle.answer.specs.Answer.{bare, refuse, ◌and_then◌}
use Rattle.answer.specs.Answer.Properties.{refused, passed, stage_on, opened_no, opened_on}
use Rattle.plan.specs.Order.{project_of, kind_of, empty_project, empty_kind, tidy_project, tidy_kind, tidy_projects, tidy_kinds, sized}
use Rattle.plan.specs.Order.{sizes, unused, ranges, checked}
use Rattle.plan.specs.Order.Properties.{used_place, kept_empty, no_project_empty, no_kind_empty}
use Rattle.plan_bytes.specs.declared.Reading.{Reading}
use Rattle.plan_bytes.specs.Parts.{project_at, kind_at, project_from, kind_from, projects_from, kinds_from, after_header, after_projects}
use Rattle.plan_bytes.specs.Parts.{headed, decoded, size}
use Rattle.codec.specs.Places.Properties.{handed_on}
use Rattle.plan_bytes.specs.Reading.{header_spare, project_spare, kind_spare, projects_spare, kinds_spare, places_spare, spare_zero}
use Rattle.plan_bytes.specs.Reading.{body_answer, read_answer, reading, read_of, counts_answer, standing_in}

-- ---- the steps of the loops over the spare bits

pub projects_spare_none : (s : List ℕ) → true ≡ projects_spare 0 s
unfolding projects_spare
projects_spare_none s = all_none (λ j. eqb (project_spare (project_at s j)) 0)

pub projects_spare_again : (i : ℕ) (s : List ℕ) (b r : Bool) (x : ℕ) → b ≡ projects_spare i s
    → x ≡ project_spare (take (length s - 2 * i) (drop (2 * i) s)) → r ≡ (b && eqb x 0)
    → r ≡ projects_spare (i + 1) s
unfolding projects_spare
projects_spare_again i s b r x p q e =
    all_again b r i (λ j. eqb (project_spare (project_at s j)) 0) p
    (e ∙ ap (λ (y : ℕ). b && eqb y 0) (q ∙ ap project_spare (handed_on s (2 * i))))

pub projects_spare_stop : (i n : ℕ) (s : List ℕ) (b : Bool) → b ≡ projects_spare i s → i ≤ n → n ≤ i → b ≡ projects_spare n s
unfolding projects_spare
projects_spare_stop i n s b p x y = all_stop b i n (λ j. eqb (project_spare (project_at s j)) 0) p x y

pub kinds_spare_none : (s : List ℕ) → true ≡ kinds_spare 0 s
unfolding kinds_spare
kinds_spare_none s = all_none (λ i. eqb (kind_spare (kind_at s i)) 0)

pub kinds_spare_again : (i : ℕ) (s : List ℕ) (b r : Bool) (x : ℕ) → b ≡ kinds_spare i s
    → x ≡ kind_spare (take (length s - 5 * i) (drop (5 * i) s)) → r ≡ (b && eqb x 0)
    → r ≡ kinds_spare (i + 1) s
unfolding kinds_spare
kinds_spare_again i s b r x p q e =
    all_again b r i (λ k. eqb (kind_spare (kind_at s k)) 0) p (e ∙ ap (λ (y : ℕ). b && eqb y 0) (q ∙ ap kind_spare (handed_on s (5 * i))))

pub kinds_spare_stop : (i n : ℕ) (s : List ℕ) (b : Bool) → b ≡ kinds_spare i s → i ≤ n → n ≤ i → b ≡ kinds_spare n s
unfolding kinds_spare
kinds_spare_stop i n s b p x y = all_stop b i n (λ k. eqb (kind_spare (kind_at s k)) 0) p x y

pub places_spare_law : (s : List ℕ) (p : Plan) (a b r : Bool) →
    p ≡ headed s →
    a ≡ projects_spare p.projects (take (length s - 3) (drop 3 s)) →
    b ≡ kinds_spare p.kinds (take (length s - (3 + 2 * p.projects)) (drop (3 + 2 * p.projects) s)) →
    r ≡ (a && b) →
    r ≡ places_spare s
unfolding places_spare
places_spare_law s p a b r e f g h =
    let x : a ≡ projects_spare (headed s).projects (drop 3 s) = f ∙ ap (projects_spare p.projects) (handed_on s 3)
    ∙ ap (λ (q : Plan). projects_spare q.projects (drop 3 s)) e in
    let y : b ≡ kinds_spare (headed s).kinds (drop (3 + 2 * (headed s).projects) s) =
    g ∙ ap (kinds_spare p.kinds) (handed_on s (3 + 2 * p.projects))
    ∙ ap (λ (q : Plan). kinds_spare q.kinds (drop (3 + 2 * q.projects) s)) e in
    h ∙ ap₂ ◌&&◌ x y

-- ---- the decoded plan's places beyond the counts hold zeros, so that the record check adds nothing before 4

decoded_sizes : (s : List ℕ) → sizes (decoded s) ≡ sizes (headed s)
unfolding sizes sized decoded
decoded_sizes s = refl

decoded_tidy : (s : List ℕ) → unused (decoded s) ≡ Good
unfolding unused tidy_projects tidy_kinds decoded projects_from kinds_from
decoded_tidy s = rw (all_of 8 (tidy_project (decoded s)) project, all_of 16 (tidy_kind (decoded s)) kind)
  where
    project : (j : ℕ) → j < 8 → tidy_project (decoded s) j ≡ true
    project j l =
        elim (dec_lt j (headed s).projects) [
          | yes q ↦ used_place j (headed s).projects (headed s).projects (empty_project (project_of (decoded s) j)) refl q
          | no q ↦ kept_empty j (headed s).projects (empty_project (project_of (decoded s) j))
              (ap empty_project
              (written_kept (headed s).projects (λ k. project_from (project_at (after_header s) k)) (replicate 8 no_project) no_project j
              (omega arith) ∙ get_or-replicate 8 j no_project no_project l) ∙ no_project_empty)
        ]

    kind : (i : ℕ) → i < 16 → tidy_kind (decoded s) i ≡ true
    kind i l =
        elim (dec_lt i (headed s).kinds) [
          | yes q ↦ used_place i (headed s).kinds (headed s).kinds (empty_kind (kind_of (decoded s) i)) refl q
          | no q ↦ kept_empty i (headed s).kinds (empty_kind (kind_of (decoded s) i))
              (ap empty_kind
              (written_kept (headed s).kinds (λ k. kind_from (kind_at (after_projects s) k)) (replicate 16 no_kind) no_kind i (omega arith)
              ∙ get_or-replicate 16 i no_kind no_kind l) ∙ no_kind_empty)
        ]

pub decoded_checked : (s : List ℕ) → sizes (headed s) ≡ Good → checked (decoded s) ≡ ranges (decoded s)
unfolding checked
decoded_checked s e = rw (decoded_sizes s, e, decoded_tidy s)

-- ---- each way out of reading, over what the code has in hand there

-- a refusal that was handed back with an all-zero plan and nothing taken
pub refused_reading : (r : Reading) (a b : Answer) (w : Refusal) (p : Plan) (n : ℕ) → r.answer ≡ a → r.plan ≡ no_plan → r.taken ≡ 0
    → a ≡ No w → a ≡ b → r ≡ reading b p n
refused_reading r a b w p n e f g h q =
    let x : b ≡ No w = sym q ∙ h in
    let y : r.answer ≡ No w = e ∙ h in
    rw x (λ i. record { answer = y i; plan = f i; taken = g i })

module _ (s : List ℕ) (p : Plan) (headed-is : p ≡ headed s) (total : ℕ) (total-is : total ≡ size p) where
  total_headed : total ≡ size (headed s)
  total_headed = total-is ∙ ap size headed-is

  pub body_short : (x : Answer) → x ≡ bare 1 → length s < total → x ≡ body_answer s
  unfolding body_answer
  body_short x b l =
      let e = total_headed in
      opened_no x (refuse (ltb (length s) (size (headed s))) (bare 1))
      (refuse (not (spare_zero s)) (bare 3) and_then ranges (decoded s)) _ b
      (rw (lt-ltb (length s) (size (headed s)) (omega arith)) b)

  body_whole : (x : Answer) → total ≤ length s → x ≡ (refuse (not (spare_zero s)) (bare 3) and_then ranges (decoded s)) → x ≡ body_answer s
  unfolding body_answer
  body_whole x l q = let e = total_headed in
      stage_on (refuse (ltb (length s) (size (headed s))) (bare 1)) (refuse (not (spare_zero s)) (bare 3) and_then ranges (decoded s)) x
      (rw (le-ltb (length s) (size (headed s)) (omega arith))) q

  module _ (spare : ℕ) (clean r : Bool) (spare-is : spare ≡ header_spare s) (clean_is : clean ≡ places_spare s)
      (both_is : r ≡ (eqb spare 0 && clean)) where
    spare_zero_law : r ≡ spare_zero s
    unfolding spare_zero
    spare_zero_law = both_is ∙ ap₂ (λ (x : ℕ) (b : Bool). eqb x 0 && b) spare-is clean_is

    pub body_spare : (x : Answer) → x ≡ bare 3 → total ≤ length s → not r ≡ true → x ≡ body_answer s
    body_spare x b l t =
        body_whole x l
        (opened_no x (refuse (not (spare_zero s)) (bare 3)) (ranges (decoded s)) _ b
        (refused (spare_zero s) r (bare 3) x spare_zero_law t b))

    pub body_checked : (x : Answer) (q : Plan) → total ≤ length s → not r ≡ false → q ≡ decoded s → x ≡ checked q → sizes p ≡ Good
        → x ≡ body_answer s
    body_checked x q l t e f g =
        body_whole x l
        (stage_on (refuse (not (spare_zero s)) (bare 3)) (ranges (decoded s)) x (passed (spare_zero s) r (bare 3) spare_zero_law t)
        (f ∙ ap checked e ∙ decoded_checked s (ap sizes (sym headed-is) ∙ g)))

-- a good one, where the last stage's answer x was opened
pub good_reading : (x b : Answer) (p : Plan) (n : ℕ) (q : Plan) (m : ℕ) → x ≡ Good → x ≡ b → q ≡ p → m ≡ n
    → record { answer = Good; plan = q; taken = m } ≡ reading b p n
good_reading x b p n q m h e f g = let z : b ≡ Good = sym e ∙ h in rw z (λ i. record { answer = Good; plan = f i; taken = g i })

-- ---- the header's stages

pub read_short : (s : List ℕ) (x : Answer) → x ≡ bare 1 → length s < 3 → x ≡ read_answer s
unfolding read_answer
read_short s x b l =
    opened_no x (refuse (ltb (length s) 3) (bare 1)) (sizes (headed s) and_then body_answer s) _ b (rw (lt-ltb (length s) 3 l) b)

read_long : (s : List ℕ) (x : Answer) → 3 ≤ length s → x ≡ (sizes (headed s) and_then body_answer s) → x ≡ read_answer s
unfolding read_answer
read_long s x l q = stage_on (refuse (ltb (length s) 3) (bare 1)) (sizes (headed s) and_then body_answer s) x (rw (le-ltb (length s) 3 l)) q

pub read_sizes : (s : List ℕ) (p : Plan) (x : Answer) (w : Refusal) → 3 ≤ length s → p ≡ headed s → x ≡ No w → x ≡ sizes p
    → x ≡ read_answer s
read_sizes s p x w l e h q = read_long s x l (opened_no x (sizes (headed s)) (body_answer s) w h (q ∙ ap sizes e))

pub read_body : (s : List ℕ) (p : Plan) (x : Answer) (r : Reading) → 3 ≤ length s → p ≡ headed s → x ≡ Good → x ≡ sizes p
    → r ≡ reading (body_answer s) (decoded s) (size p) → r ≡ read_of s
unfolding read_of
read_body s p x r l e h q f =
    let a : body_answer s ≡ read_answer s =
    read_long s (body_answer s) l (opened_on x (sizes (headed s)) (body_answer s) (body_answer s) h (q ∙ ap sizes e) refl) in
    f ∙ ap₂ (λ (b : Answer) (n : ℕ). reading b (decoded s) n) a (ap size e)

-- ---- the ways out where only 1 and 2 are asked

pub counts_short : (s : List ℕ) (x : Answer) → x ≡ bare 1 → length s < 3 → x ≡ counts_answer s
unfolding counts_answer
counts_short s x b l =
    opened_no x (refuse (ltb (length s) 3) (bare 1)) (sizes (headed s) and_then refuse (ltb (length s) (size (headed s))) (bare 1)) _ b
    (rw (lt-ltb (length s) 3 l) b)

counts_long : (s : List ℕ) (x : Answer) → 3 ≤ length s
    → x ≡ (sizes (headed s) and_then refuse (ltb (length s) (size (headed s))) (bare 1)) → x ≡ counts_answer s
unfolding counts_answer
counts_long s x l q =
    stage_on (refuse (ltb (length s) 3) (bare 1)) (sizes (headed s) and_then refuse (ltb (length s) (size (headed s))) (bare 1)) x
    (rw (le-ltb (length s) 3 l)) q

pub counts_sizes : (s : List ℕ) (p : Plan) (x : Answer) (w : Refusal) → 3 ≤ length s → p ≡ headed s → x ≡ No w → x ≡ sizes p
    → x ≡ counts_answer s
counts_sizes s p x w l e h q =
    counts_long s x l (opened_no x (sizes (headed s)) (refuse (ltb (length s) (size (headed s))) (bare 1)) w h (q ∙ ap sizes e))

pub counts_total : (s : List ℕ) (p : Plan) (a x : Answer) (total : ℕ) → 3 ≤ length s → p ≡ headed s → a ≡ Good → a ≡ sizes p
    → x ≡ bare 1 → total ≡ size p → length s < total → x ≡ counts_answer s
counts_total s p a x total l e h q b t k =
    let n = ap size e in
    counts_long s x l
    (opened_on a (sizes (headed s)) (refuse (ltb (length s) (size (headed s))) (bare 1)) x h (q ∙ ap sizes e)
    (rw (lt-ltb (length s) (size (headed s)) (omega arith)) b))

pub counts_good : (s : List ℕ) (p : Plan) (a : Answer) (total : ℕ) → 3 ≤ length s → p ≡ headed s → a ≡ Good → a ≡ sizes p
    → total ≡ size p → total ≤ length s → Good ≡ counts_answer s
counts_good s p a total l e h q t k =
    let n = ap size e in
    counts_long s Good l
    (opened_on a (sizes (headed s)) (refuse (ltb (length s) (size (headed s))) (bare 1)) Good h (q ∙ ap sizes e)
    (rw (le-ltb (length s) (size (headed s)) (omega arith))))

pub standing_good : (s : List ℕ) (p q : Plan) (a : Answer) (total : ℕ) → 3 ≤ length s → p ≡ headed s → a ≡ Good → a ≡ sizes p
    → total ≡ size p → total ≤ length s → q ≡ decoded s → record { answer = Good; plan = q; taken = total } ≡ standing_in s
unfolding standing_in
standing_good s p q a total l e h z t k f =
    good_reading Good (counts_answer s) (decoded s) (size (headed s)) q total refl (counts_good s p a total l e h z t k) f (t ∙ ap size e)
