-- Laws of the workload: each kind's part in it, how much it can be, and that a place which the record does not have adds nothing.
-- Assumes nothing.
use Rattle.std.specs.Prelude.{◌≡◌, Bool, ℕ, ◌+◌, ◌-◌, ◌≤◌, ◌<◌, min, length, take, get_or}
use Rattle.std.proofs.Math.Path.{refl, ap}
use Rattle.std.proofs.Common.{sym, ◌∙◌, mul-zero, eq-eqb, ne_eqb}
use Rattle.std.proofs.Math.Bool.{true, false, cond}
use native.Mathlib.Omega.{arith}
use Rattle.std.proofs.Math.ListN.{get_or-eq_default}
use Rattle.std.proofs.lemmas.List.{length-take, get_or-take}
use Rattle.laws.specs.Sum.{sum_to}
use Rattle.laws.specs.Sum.Properties.{sum_again, sum_bound, sum_zero, sum_split}
use Rattle.plan.specs.declared.Kind.{Kind}
use Rattle.plan.specs.declared.Plan.{Plan}
use Rattle.plan.specs.Record.{no_kind}
use Rattle.plan.specs.Order.{kind_of, KindInRange}
use Rattle.supply.specs.Workload.{whole_units, workload_part}
use Rattle.supply.specs.Workload.Properties.{part_most}
use Rattle.workload.specs.Workload.{besides, part_in, part_of, workload}

-- ---- who has a part

-- not the kind itself
pub part_own : (p : Plan) (i j : ℕ) → j ≡ i → part_of p i j ≡ 0
unfolding part_of besides
part_own p i j e = rw (eq-eqb j i e)

-- nor one of another project
pub part_foreign : (p : Plan) (i j : ℕ) → (j ≡ i → ⊥) → ((kind_of p j).project ≡ (kind_of p i).project → ⊥) → part_of p i j ≡ 0
unfolding part_of besides
part_foreign p i j n m = rw (ne_eqb j i n, ne_eqb (kind_of p j).project (kind_of p i).project m)

-- every other one of the same
pub part_other : (p : Plan) (i j : ℕ) → (j ≡ i → ⊥) → (kind_of p j).project ≡ (kind_of p i).project →
    part_of p i j ≡ part_in (kind_of p j) (kind_of p i).deadline
unfolding part_of besides
part_other p i j n e = rw (ne_eqb j i n, eq-eqb (kind_of p j).project (kind_of p i).project e)

-- ---- how much it can be

module _ (p : Plan) (most : p.kinds ≤ 16) (at : (j : ℕ) → j < p.kinds → KindInRange p (kind_of p j)) (i : ℕ) (l : i < p.kinds) where
  part_high : (j : ℕ) → j < p.kinds → part_of p i j ≤ 4095
  unfolding part_of
  part_high j m = go (besides p i j)
    where
      go : (b : Bool) → cond b (part_in (kind_of p j) (kind_of p i).deadline) 0 ≤ 4095
      go true =
          let a = at j m in
          let b = at i l in
          let c : (kind_of p j).length ≤ (kind_of p j).separation = omega arith in
          let d : (kind_of p j).length ≤ (kind_of p j).deadline = omega arith in
          omega (arith, part_most (kind_of p j).separation (kind_of p j).deadline (kind_of p j).length (kind_of p i).deadline d c)
      go false = omega arith

  pub workload_most : workload p i ≤ 65520
  unfolding workload
  workload_most = omega (arith, sum_bound p.kinds 4095 (part_of p i) part_high)

-- ---- places that the record does not have

part_idle : (T D t : ℕ) → workload_part T D 0 t ≡ 0
unfolding workload_part
part_idle T D t = rw (mul-zero (whole_units T D t)) (omega arith)

module _ (p : Plan) (n : ℕ) (long : length p.kind ≡ n) where
  pub kind_beyond : (i : ℕ) → n ≤ i → kind_of p i ≡ no_kind
  kind_beyond i l = get_or-eq_default p.kind no_kind {n = i} (omega arith)

  -- a kind there has no part
  part_beyond : (i j : ℕ) → n ≤ j → part_of p i j ≡ 0
  unfolding part_of
  part_beyond i j l = go (besides p i j)
    where
      go : (b : Bool) → cond b (part_in (kind_of p j) (kind_of p i).deadline) 0 ≡ 0
      go true = rw (kind_beyond j l) (part_idle 0 0 (kind_of p i).deadline)
      go false = refl

  -- so that the sum ends with the record's places
  pub workload_places : (i s e m : ℕ) → s ≡ sum_to e (part_of p i) → m ≡ min p.kinds n → e ≤ length (take m p.kind) →
      length (take m p.kind) ≤ e → s ≡ workload p i
  unfolding workload
  workload_places i s e m q h l r =
      let t = length-take m p.kind in
      let k : p.kinds ≡ e + (p.kinds - e) = omega (arith, t) in
      let z = sum_zero (p.kinds - e) (λ x. part_of p i (e + x)) (λ x u. part_beyond i (e + x) (omega (arith, t))) in
      omega (arith, q, ap (λ (y : ℕ). sum_to y (part_of p i)) k, sum_split e (p.kinds - e) (part_of p i), z)

-- ---- the steps of the sum

module _ (p : Plan) (i j s : ℕ) (so : s ≡ sum_to j (part_of p i)) where
  skipped : part_of p i j ≡ 0 → s ≡ sum_to (j + 1) (part_of p i)
  skipped e = let z : s + 0 ≡ s = omega arith in sym z ∙ sum_again s j (part_of p i) 0 so (sym e)

  pub own_again : j ≡ i → s ≡ sum_to (j + 1) (part_of p i)
  own_again e = skipped (part_own p i j e)

  -- of the first m kinds; d is the judged kind
  module _ (m : ℕ) (d : Kind) (k : d ≡ kind_of p i) (n : j ≡ i → ⊥) (l : j < length (take m p.kind)) where
    place_is : get_or (take m p.kind) j no_kind ≡ kind_of p j
    place_is = get_or-take m p.kind j no_kind (omega (arith, length-take m p.kind))

    pub foreign_again : ((get_or (take m p.kind) j no_kind).project ≡ d.project → ⊥) → s ≡ sum_to (j + 1) (part_of p i)
    foreign_again e = skipped (part_foreign p i j n (rw (k, place_is) at e))

    -- w is the part, and v the same in more bits
    pub other_again : (v w : ℕ) → (get_or (take m p.kind) j no_kind).project ≡ d.project →
        w ≡ part_in (get_or (take m p.kind) j no_kind) d.deadline → v ≡ w → s + v ≡ sum_to (j + 1) (part_of p i)
    other_again v w e q r =
        sum_again s j (part_of p i) v so (r ∙ rw (k, place_is) at q ∙ sym (part_other p i j n (rw (k, place_is) at e)))
