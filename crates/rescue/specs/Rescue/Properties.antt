-- Laws of rescuing: the spare bits as the code reads them, and each way out.
-- Assumes nothing.
use Rattle.std.specs.Prelude.{◌≡◌, refl, Bool, false, List, ◌++◌, ℕ, ◌+◌, ◌*◌, ◌%◌, ◌≤◌, ◌<◌, get_or, take, ltb, eqb}
use Rattle.std.proofs.Math.Path.{sym, ap}
use Rattle.std.proofs.Common.{ap₂, ◌∙◌, arith, drop-drop}
use Rattle.std.proofs.Math.ListN.{length, drop}
use borrow.Author.Tests.{lt-ltb, le-ltb, eq-eqb, ne_eqb, ltb-false}
use Rattle.codec.specs.Bytes.{number_to}
use Rattle.answer.specs.declared.Answer.{Answer}
use Rattle.answer.specs.declared.Answer.TheVariants.{Good, No}
use Rattle.answer.specs.declared.Refusal.{Refusal}
use Rattle.answer.specs.Answer.{bare, refuse, ◌and_then◌}
use Rattle.answer.specs.Answer.Properties.{and_then_left, and_then_right, refuse_good, opened_no, opened_on}
use Rattle.plan.specs.declared.Project.{Project}
use Rattle.plan.specs.declared.Kind.{Kind}
use Rattle.plan.specs.declared.Plan.{Plan}
use Rattle.plan.specs.Record.{no_plan}
use Rattle.plan.specs.Order.{project_of, kind_of, sizes, Sized}
use Rattle.plan.specs.Order.Properties.{sizes_says}
use Rattle.plan_bytes.specs.declared.Reading.{Reading}
use Rattle.plan_bytes.specs.Parts.{headed, decoded, size}
use Rattle.plan_bytes.specs.Parts.Properties.{header_fields_law, project_fields_law, kind_fields_law}
use Rattle.plan_bytes.specs.Reading.{header_spare, project_spare, kind_spare, counts_answer, standing_in}
use Rattle.rescue.specs.declared.Rescued.{Rescued}
use Rattle.rescue.specs.Entry.{change, entries_to, Noted}
use Rattle.rescue.specs.Entry.Properties.{noted_more, noted_again, listed_length, copied}
use Rattle.rescue.specs.Mended.{project_for_at, kind_for_at, kept_at, plan_for}
use Rattle.rescue.specs.Rescue.{project_spare_at, kind_spare_at, project_spare_change, kind_spare_change, project_changes, kind_changes}
use Rattle.rescue.specs.Rescue.{spare_entries, project_entries, kind_entries, changes_in, changes, list_of, list_size, rescued_plan}
use Rattle.rescue.specs.Rescue.{rest_answer, rescue_answer, rescue_of, list_over, Rescues}

-- ---- the spare bits

pub header_spare_law : (s : List ℕ) → number_to 3 (drop 0 s) % 16 ≡ header_spare s
unfolding header_spare
header_spare_law s = ap (λ (v : List ℕ). get_or v 4 0) (header_fields_law s (number_to 3 s) refl)

pub project_spare_law : (s : List ℕ) (j : ℕ) → number_to 2 (drop (3 + 2 * j) s) % 4 ≡ project_spare_at s j
unfolding project_spare_at project_spare
project_spare_law s j =
    let n = ap (number_to 2) (sym (drop-drop (2 * j) 3 s)) in
    ap (λ (v : List ℕ). get_or v 2 0) (project_fields_law (drop (2 * j) (drop 3 s)) (number_to 2 (drop (3 + 2 * j) s)) n)

pub kind_spare_law : (s : List ℕ) (projects i : ℕ) → number_to 5 (drop (3 + 2 * projects + 5 * i) s) % 2 ≡ kind_spare_at s projects i
unfolding kind_spare_at kind_spare
kind_spare_law s projects i =
    let n = ap (number_to 5) (sym (drop-drop (5 * i) (3 + 2 * projects) s)) in
    ap (λ (v : List ℕ). get_or v 4 0)
    (kind_fields_law (drop (5 * i) (drop (3 + 2 * projects) s)) (number_to 5 (drop (3 + 2 * projects + 5 * i) s)) n)

-- ---- the steps of the loops that write the list

module _ (at a r i : ℕ) (l m k : List ℕ) where
  pub project_spare_again : (s : List ℕ) (x : ℕ) → Noted at l (entries_to i (project_spare_change s)) a m → Noted a m (change 2 i x 0) r k
      → x ≡ project_spare_at s i → Noted at l (entries_to (i + 1) (project_spare_change s)) r k
  unfolding project_spare_change
  project_spare_again s x g h e =
      noted_again i at a r (project_spare_change s) l m k (change 2 i x 0) g h (ap (λ (y : ℕ). change 2 i y 0) e)

  pub kind_spare_again : (s : List ℕ) (p : Plan) (b : Bool) (x : ℕ) → Noted at l (entries_to i (kind_spare_change s p)) a m
      → Noted a m (spare_entries b i x) r k → b ≡ kept_at p i → x ≡ kind_spare_at s p.projects i
      → Noted at l (entries_to (i + 1) (kind_spare_change s p)) r k
  unfolding kind_spare_change
  kind_spare_again s p b x g h e f =
      noted_again i at a r (kind_spare_change s p) l m k (spare_entries b i x) g h (ap₂ (λ (c : Bool) (y : ℕ). spare_entries c i y) e f)

  pub project_again : (p : Plan) (w : Project) →
      Noted at l (entries_to i (project_changes p)) a m →
      Noted a m (project_entries i (project_of p i) w) r k →
      w ≡ project_for_at p i →
      Noted at l (entries_to (i + 1) (project_changes p)) r k
  unfolding project_changes
  project_again p w g h e =
      noted_again i at a r (project_changes p) l m k (project_entries i (project_of p i) w) g h (ap (project_entries i (project_of p i)) e)

  pub kind_again : (p : Plan) (b : Bool) (w : Kind) → Noted at l (entries_to i (kind_changes p)) a m
      → Noted a m (kind_entries b i (kind_of p i) w) r k → b ≡ kept_at p i → w ≡ kind_for_at p i
      → Noted at l (entries_to (i + 1) (kind_changes p)) r k
  unfolding kind_changes
  kind_again p b w g h e f =
      noted_again i at a r (kind_changes p) l m k (kind_entries b i (kind_of p i) w) g h
      (ap₂ (λ (c : Bool) (v : Kind). kind_entries c i (kind_of p i) v) e f)

-- the five runs of entries, one after the other, are all of them
pub changes_noted : (s : List ℕ) (p : Plan) (x a b c d r : ℕ) (l k m n o t : List ℕ) → x ≡ header_spare s
    → Noted 0 l (change 1 0 x 0) a k → Noted a k (entries_to p.projects (project_spare_change s)) b m
    → Noted b m (entries_to p.kinds (kind_spare_change s p)) c n → Noted c n (entries_to p.projects (project_changes p)) d o
    → Noted d o (entries_to p.kinds (kind_changes p)) r t → Noted 0 l (changes_in s p) r t
unfolding changes_in
changes_noted s p x a b c d r l k m n o t e one two three four five =
    noted_more 0 d r l o t _ _
    (noted_more 0 c d l n o _ _
    (noted_more 0 b c l m n _ _ (noted_more 0 a b l k m (change 1 0 (header_spare s) 0) _ (rw (← e) one) two) three) four) five

-- ---- what 1 and 2 leave

pub counts_says : (s : List ℕ) → counts_answer s ≡ Good → (Sized (headed s)) × (size (headed s) ≤ length s)
unfolding counts_answer
counts_says s e =
    let one = refuse (ltb (length s) 3) (bare 1) in
    let total = refuse (ltb (length s) (size (headed s))) (bare 1) in
    let a = and_then_right one (sizes (headed s) and_then total) e in (
      sizes_says (headed s) (and_then_left (sizes (headed s)) total a),
      ltb-false (length s) (size (headed s))
          (refuse_good (ltb (length s) (size (headed s))) _ (and_then_right (sizes (headed s)) total a)),
    )

-- the counts are the header's
decoded_projects : (s : List ℕ) → (decoded s).projects ≡ (headed s).projects
unfolding decoded
decoded_projects s = refl

decoded_kinds : (s : List ℕ) → (decoded s).kinds ≡ (headed s).kinds
unfolding decoded
decoded_kinds s = refl

decoded_size : (s : List ℕ) → size (decoded s) ≡ size (headed s)
unfolding decoded size
decoded_size s = refl

-- ---- each way out: v is what stands in the bytes

module _ (s list : List ℕ) where
  refused_rescue : (r : Rescued) (a : Answer) (w : Refusal) → r.answer ≡ a → r.plan ≡ no_plan → r.count ≡ 0 → a ≡ No w
      → a ≡ rescue_answer s list → Rescues s list r list
  unfolding rescue_of list_over
  refused_rescue r a w e f g h q =
      let x : rescue_answer s list ≡ No w = sym q ∙ h in
      let y : r.answer ≡ No w = e ∙ h in
      record { result = rw x (λ i. record { answer = y i; plan = f i; count = g i }); buffer = rw x }

  module _ (v : Reading) (standing : v ≡ standing_in s) where
    answer_is : v.answer ≡ counts_answer s
    unfolding standing_in
    answer_is = ap (λ (x : Reading). x.answer) standing

    module _ (good : v.answer ≡ Good) where
      counts_good : counts_answer s ≡ Good
      counts_good = sym answer_is ∙ good

      plan_is : v.plan ≡ decoded s
      unfolding standing_in
      plan_is = ap (λ (x : Reading). x.plan) standing ∙ rw counts_good

      pub standing_projects : v.plan.projects ≤ 8
      standing_projects = rw (plan_is, decoded_projects s) (counts_says s counts_good).0.projects_most

      pub standing_kinds : v.plan.kinds ≤ 16
      standing_kinds = rw (plan_is, decoded_kinds s) (counts_says s counts_good).0.kinds_most

      pub standing_size : size v.plan ≤ length s
      standing_size = rw (plan_is, decoded_size s) (counts_says s counts_good).1

      module _ (q : Plan) (made : q ≡ plan_for v.plan) where
        made_is : q ≡ rescued_plan s
        made_is = made ∙ ap plan_for plan_is

        rest_on : (x : Answer) → x ≡ rest_answer s list → x ≡ rescue_answer s list
        unfolding rescue_answer
        rest_on x e = opened_on v.answer (counts_answer s) (rest_answer s list) x good answer_is e

        pub no_kind_left : (r : Rescued) (x : Answer) → q.kinds ≡ 0 → x ≡ bare 20 → r.answer ≡ x → r.plan ≡ no_plan → r.count ≡ 0
            → Rescues s list r list
        unfolding rest_answer
        no_kind_left r x z b e f g =
            let n : (rescued_plan s).kinds ≡ 0 = sym (ap (λ (p : Plan). p.kinds) made_is) ∙ z in
            refused_rescue r x _ e f g b (rest_on x (rw (eq-eqb (rescued_plan s).kinds 0 n) b))

        module _ (some : q.kinds ≡ 0 → ⊥) (count : ℕ) (zeros noted : List ℕ)
            (all : Noted 0 zeros (changes_in s v.plan) count noted) where
          twenty_passed : eqb (rescued_plan s).kinds 0 ≡ false
          twenty_passed = ne_eqb (rescued_plan s).kinds 0 (λ e. some (ap (λ (p : Plan). p.kinds) made_is ∙ e))

          changes_all : Noted 0 zeros (changes s) count noted
          changes_all = rw (← plan_is) all

          count_is : count ≡ list_size s
          count_is = let e = changes_all.behind in omega arith

          pub list_short : (r : Rescued) (x : Answer) → length list < count → x ≡ bare 9 → r.answer ≡ x → r.plan ≡ no_plan → r.count ≡ 0
              → Rescues s list r list
          unfolding rest_answer
          list_short r x l b e f g =
              let c = count_is in
              refused_rescue r x _ e f g b
              (rest_on x (rw (twenty_passed, lt-ltb (length list) (list_size s) (omega arith)) b))

          pub list_written : (after : List ℕ) → count ≤ length zeros → after ≡ take count noted ++ drop count list → count ≤ length list
              → Rescues s list (record { answer = Good; plan = q; count = count }) after
          unfolding rest_answer rescue_of list_over
          list_written after z e l =
              let c = count_is in
              let n : length (list_of s) ≡ count = listed_length (changes s) ∙ sym c in
              let a : Good ≡ rescue_answer s list = rest_on Good (rw (twenty_passed, le-ltb (length list) (list_size s) (omega arith))) in
              let t : after ≡ list_of s ++ drop (list_size s) list =
              e ∙ copied count (list_of s) zeros noted list n z changes_all.stored ∙ ap (λ (k : ℕ). list_of s ++ drop k list) c in
              record { result = rw (← a) (λ i. record { answer = Good; plan = made_is i; count = c i }); buffer = rw (← a) t }

    pub counts_refused : (r : Rescued) (w : Refusal) → v.answer ≡ No w → r.answer ≡ v.answer → r.plan ≡ no_plan → r.count ≡ 0
        → Rescues s list r list
    unfolding rescue_answer
    counts_refused r w n e f g =
        refused_rescue r v.answer w e f g n (opened_no v.answer (counts_answer s) (rest_answer s list) w n answer_is)
