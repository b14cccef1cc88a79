-- "A plan already in order gives an empty list", 7 or not: rescuing the bytes of a plan that passes 2 to 6 changes nothing.
-- Assumes nothing.
use Rattle.std.specs.Prelude.{◌≡◌, true, length, drop, replicate}
use Rattle.std.proofs.Math.Path.{refl, ap, ap₂}
use Rattle.std.proofs.Common.{sym, ◌∙◌, arith}
use mathlib.Core.List.{List, [], ◌++◌}
use Prim.Native.Nat.{ℕ, zero, suc, ◌+◌, ◌*◌, ◌≤◌, ◌<◌, min, max}
use Rattle.std.proofs.Math.ListN.{get_or}
use borrow.Author.Tests.{lt-ltb, le-ltb, le-leb, ne_eqb}
use Rattle.laws.specs.Count.{count_to}
use Rattle.laws.specs.Written.{written}
use Rattle.answer.specs.declared.Answer.TheVariants.{Good}
use Rattle.plan.specs.declared.Project.{Project}
use Rattle.plan.specs.declared.Kind.{Kind}
use Rattle.plan.specs.declared.Plan.{Plan}
use Rattle.plan.specs.Record.{no_kind}
use Rattle.plan.specs.Order.{project_of, kind_of, ProjectInRange, KindInRange}
use Rattle.plan_bytes.specs.Parts.{Shaped, encoded, headed, decoded, size, project_at, after_header, project_fields}
use Rattle.plan_bytes.specs.Parts.{kind_fields, header_fields}
use Rattle.plan_bytes.specs.Parts.Properties.{size_header}
use Rattle.plan_bytes.specs.Reading.{header_spare, project_spare, kind_spare, counts_answer}
use Rattle.plan_bytes.specs.RoundTrip.Reads.{Passes, header_all, headed_projects, headed_size}
use Rattle.plan_bytes.specs.RoundTrip.Reads.{projects_back, kinds_back, project_all, kind_all, decoded_all, sizes_all, all_long, all}
use Rattle.rescue.specs.Entry.{Entry, entries_to, listed}
use Rattle.rescue.specs.Entry.Properties.{change_none}
use Rattle.rescue.specs.Mended.{raised, lowered, project_for, kind_for, kept, project_for_at, kind_for_at, kept_at, kinds_kept, kept_to}
use Rattle.rescue.specs.Mended.{plan_for}
use Rattle.rescue.specs.Rescue.{project_spare_at, kind_spare_at, project_spare_change, spare_entries, kind_spare_change, project_entries}
use Rattle.rescue.specs.Rescue.{project_changes, kind_entries, kind_changes, changes_in, changes, list_size, rest_answer}
use Rattle.rescue.specs.Rescue.{rescue_answer, rescued_plan, rescued_with, rescue_of, list_over}

-- ---- nothing to raise, to lower or to drop

project_stays : (p : Plan) (v : Project) → ProjectInRange p v → project_for p.cards p.frame v ≡ v
unfolding project_for lowered raised
project_stays p v r =
    let q : min (max v.ceiling 1) p.cards ≡ v.ceiling = omega (arith, r.some_ceiling, r.ceiling_most) in
    let b : min (max v.budget 1) (min (max v.ceiling 1) p.cards * p.frame) ≡ v.budget
    = ap (λ (c : ℕ). min (max v.budget 1) (c * p.frame)) q ∙ omega (arith, r.some_budget, r.budget_most) in
    λ i. record { ceiling = q i; budget = b i }

kind_stays : (p : Plan) (v : Kind) → KindInRange p v → kind_for v ≡ v
unfolding kind_for lowered
kind_stays p v r =
    let e : min v.deadline v.separation ≡ v.deadline = omega (arith, r.deadline_most) in
    λ i. record { project = v.project; separation = v.separation; deadline = e i; length = v.length }

kind_kept : (p : Plan) (v : Kind) → KindInRange p v → kept p.projects v ≡ true
unfolding kept
kind_kept p v r =
    rw (
      kind_stays p v r,
      lt-ltb v.project p.projects r.its_project,
      ne_eqb v.length 0 (λ e. omega (arith, r.some_length)),
      le-leb v.length v.deadline r.length_most,
    )

-- ---- a plan that passes 2 to 6 is what is made of it

module _ (p : Plan) (shaped : Shaped p) (order : Passes p) where
  project_same : (j : ℕ) → j < p.projects → project_for_at p j ≡ project_of p j
  project_same j l = project_stays p (project_of p j) (order.project_at_law j l)

  kind_same : (i : ℕ) → i < p.kinds → kind_for_at p i ≡ kind_of p i
  kind_same i l = kind_stays p (kind_of p i) (order.kind_at_law i l)

  all_kept : (i : ℕ) → i < p.kinds → kept_at p i ≡ true
  all_kept i l = kind_kept p (kind_of p i) (order.kind_at_law i l)

  count_all : (n : ℕ) → n ≤ p.kinds → kinds_kept p n ≡ n
  unfolding count_to
  count_all zero l = refl
  count_all (suc n) l = let h = count_all n (omega arith) in rw (all_kept n (omega arith)) (omega arith)

  kept_all : (n : ℕ) → n ≤ p.kinds → kept_to p n ≡ written n (kind_for_at p) (replicate 16 no_kind)
  unfolding kept_to written
  kept_all zero l = refl
  kept_all (suc n) l = rw (all_kept n (omega arith), count_all n (omega arith), kept_all n (omega arith))

  pub plan_stays : plan_for p ≡ p
  unfolding plan_for
  plan_stays =
      let n = count_all p.kinds (omega arith) in
      let k = kept_all p.kinds (omega arith) ∙ kinds_back p shaped order (kind_for_at p) kind_same in
      let j = projects_back p shaped order (project_for_at p) project_same in
      λ i. record { cards = p.cards; projects = p.projects; kinds = n i; frame = p.frame; project = j i; kind = k i }

  -- ---- and nothing is listed of its bytes, whatever follows them

  module _ (rest : List ℕ) where
    s : List ℕ
    s = encoded p ++ rest

    s_all : s ≡ all p shaped order rest
    unfolding s all
    s_all = refl

    plan_is : decoded s ≡ p
    plan_is = ap decoded s_all ∙ decoded_all p shaped order rest

    header_zero : header_spare s ≡ 0
    unfolding header_spare
    header_zero =
        ap (λ (x : List ℕ). get_or (header_fields x) 4 0) s_all ∙ ap (λ (x : List ℕ). get_or x 4 0) (header_all p shaped order rest)

    project_zero : (j : ℕ) → j < p.projects → project_spare_at s j ≡ 0
    unfolding project_spare_at project_spare
    project_zero j l =
        ap (λ (x : List ℕ). get_or (project_fields (project_at (after_header x) j)) 2 0) s_all
        ∙ ap (λ (x : List ℕ). get_or x 2 0) (project_all p shaped order rest j l)

    kind_zero : (i : ℕ) → i < p.kinds → kind_spare_at s p.projects i ≡ 0
    unfolding kind_spare_at kind_spare
    kind_zero i l =
        ap (λ (x : List ℕ). get_or (kind_fields (drop (5 * i) (drop (3 + 2 * p.projects) x))) 4 0) s_all
        ∙ ap (λ (n : ℕ). get_or (kind_fields (drop (5 * i) (drop (3 + 2 * n) (all p shaped order rest)))) 4 0)
        (sym (headed_projects p shaped order rest))
        ∙ ap (λ (x : List ℕ). get_or x 4 0) (kind_all p shaped order rest i l)

    none_listed : (n : ℕ) (g : ℕ → List Entry) → ((k : ℕ) → k < n → g k ≡ []) → entries_to n g ≡ []
    unfolding entries_to
    none_listed zero g h = refl
    none_listed (suc n) g h = ap₂ ◌++◌ (none_listed n g (λ k l. h k (omega arith))) (h n (omega arith))

    no_changes : changes_in s p ≡ []
    unfolding changes_in project_spare_change kind_spare_change spare_entries project_changes project_entries kind_changes kind_entries
    no_changes =
        rw (
          change_none 1 0 (header_spare s) 0 header_zero,
          none_listed p.projects (project_spare_change s) (λ j l. change_none 2 j (project_spare_at s j) 0 (project_zero j l)),
          none_listed p.kinds (kind_spare_change s p)
              (λ i l. rw (all_kept i l) (change_none 3 i (kind_spare_at s p.projects i) 0 (kind_zero i l))),
          none_listed p.projects (project_changes p)
              (λ j l. ap₂ ◌++◌
              (change_none 4 j (project_of p j).ceiling (project_for_at p j).ceiling
              (sym (ap (λ (v : Project). v.ceiling) (project_same j l))))
              (change_none 5 j (project_of p j).budget (project_for_at p j).budget
              (sym (ap (λ (v : Project). v.budget) (project_same j l))))),
          none_listed p.kinds (kind_changes p)
              (λ i l. rw (all_kept i l)
              (change_none 6 i (kind_of p i).deadline (kind_for_at p i).deadline (sym (ap (λ (v : Kind). v.deadline) (kind_same i l))))),
        )

    nothing : changes s ≡ []
    nothing = ap (changes_in s) plan_is ∙ no_changes

    plan_back : rescued_plan s ≡ p
    plan_back = ap plan_for plan_is ∙ plan_stays

    counts_pass : counts_answer s ≡ Good
    unfolding counts_answer
    counts_pass =
        let t = all p shaped order rest in
        let l = all_long p shaped order rest in
        let e = headed_size p shaped order rest in
        rw (
          s_all,
          le-ltb (length t) 3 (size_header p (length t) l),
          sizes_all p shaped order rest,
          le-ltb (length t) (size (headed t)) (omega arith),
        )

    size_none : list_size s ≡ 0
    size_none = ap (λ (x : List Entry). 6 * length x) nothing

    module _ (list : List ℕ) where
      answers_good : rescue_answer s list ≡ Good
      unfolding rescue_answer rest_answer
      answers_good =
          let z = size_none in
          rw (
            counts_pass,
            ne_eqb (rescued_plan s).kinds 0 (λ e. omega (arith, order.counts.some_kind, ap (λ (v : Plan). v.kinds) plan_back)),
            le-ltb (length list) (list_size s) (omega arith),
          )

      same_result : rescue_of s list ≡ record { answer = Good; plan = p; count = 0 }
      unfolding rescue_of
      same_result = ap (λ a. rescued_with a (rescued_plan s) (list_size s)) answers_good
          ∙ (λ i. record { answer = Good; plan = plan_back i; count = size_none i })

      same_buffer : list_over s list ≡ list
      unfolding list_over listed
      same_buffer = rw (answers_good, nothing)

  pub rescue_again : (rest list : List ℕ) → rescue_of (encoded p ++ rest) list ≡ record { answer = Good; plan = p; count = 0 }
  unfolding s
  rescue_again rest list = same_result rest list

  pub buffer_again : (rest list : List ℕ) → list_over (encoded p ++ rest) list ≡ list
  unfolding s
  buffer_again rest list = same_buffer rest list
