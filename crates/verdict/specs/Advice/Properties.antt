-- The advice is right: with its length changed, a kind that was refused has a k exactly when it is shorter by at least its excess.
-- Assumes nothing.
use Rattle.std.specs.Prelude.{◌≡◌, refl, ◌≢◌, ◌↔◌, not, ◌&&◌, ℕ, ◌+◌, ◌-◌, ◌*◌, ◌≤◌, ◌<◌, length}
use Rattle.std.proofs.Math.Path.{sym, ap, fun_ext}
use Rattle.std.proofs.Common.{◌∙◌, mul-le-mul_left, arith, get_or-set_same, get_or-set_other}
use Rattle.std.proofs.Math.Bool.{cond}
use Rattle.std.proofs.Math.Decide.{ℕ_discrete, dec_lt}
use Rattle.std.proofs.Math.Dec.{eqb}
use Rattle.std.proofs.Math.ListN.{get_or-eq_default}
use Rattle.laws.specs.Sum.{sum_to}
use Rattle.plan.specs.declared.Plan.{Plan}
use Rattle.plan.specs.declared.Kind.{Kind}
use Rattle.plan.specs.Record.{no_kind}
use Rattle.plan.specs.Order.{project_of, kind_of, InOrder}
use Rattle.layout.specs.Layout.{first_cell, owns, held}
use Rattle.supply.specs.Supply.{supply}
use Rattle.workload.specs.Workload.{besides, part_in, part_of, workload}
use Rattle.workload.specs.Workload.Properties.{part_own}
use Rattle.verdict.specs.Verdict.{ceiling_on}
use Rattle.verdict.specs.Admission.{asked, given, Fits, Allows, NotAdmitted}
use Rattle.verdict.specs.Advice.{with_length}

-- no kind is added or lost, so each project holds what it held
held_same : (p : Plan) (i c j : ℕ) → held (with_length p i c) j ≡ held p j
unfolding held owns first_cell
held_same p i c j = refl

module _ (p : Plan) (i c : ℕ) (there : i < length p.kind) where
  its_kind :
      kind_of (with_length p i c) i ≡ record {
        project = (kind_of p i).project;
        separation = (kind_of p i).separation;
        deadline = (kind_of p i).deadline;
        length = c;
      }
  its_kind = get_or-set_same p.kind i _ no_kind there

  other_kind : (j : ℕ) → j ≢ i → kind_of (with_length p i c) j ≡ kind_of p j
  other_kind j n = get_or-set_other p.kind i j _ no_kind n

  -- its own length is no part of its workload
  part_same : (j : ℕ) → part_of (with_length p i c) i j ≡ part_of p i j
  unfolding part_of besides
  part_same j =
      elim (ℕ_discrete j i) [ yes e ↦ part_own (with_length p i c) i j e ∙ sym (part_own p i j e) | no n ↦ other n ]
    where
      other : j ≢ i → part_of (with_length p i c) i j ≡ part_of p i j
      other n =
          λ t. cond (not (eqb j i) && eqb (other_kind j n t).project (its_kind t).project)
          (part_in (other_kind j n t) (its_kind t).deadline) 0

  workload_same : workload (with_length p i c) i ≡ workload p i
  unfolding workload
  workload_same = ap (sum_to p.kinds) (fun_ext part_same)

  ceiling_same : ceiling_on (with_length p i c) i ≡ ceiling_on p i
  ceiling_same = ap (λ (k : Kind). (project_of p k.project).ceiling) its_kind

  asked_same : (k : ℕ) → asked (with_length p i c) i k ≡ k * c + workload p i
  asked_same k = λ t. k * (its_kind t).length + workload_same t

  given_same : (k : ℕ) → given (with_length p i c) i k ≡ given p i k
  given_same k =
      ap (λ (x : Kind). supply p.frame (held (with_length p i c) x.project) k x.deadline) its_kind
      ∙ ap (λ (h : ℕ → ℕ). supply p.frame h k (kind_of p i).deadline) (held_same p i c (kind_of p i).project)

  -- kind i with length c fits at k exactly when k allows it that length
  fits_allows : (k : ℕ) → Fits (with_length p i c) i k → Allows p i c k
  fits_allows k f =
      record {
        width = record { some = f.width.some; most = omega (arith, f.width.most, ceiling_same) };
        room = omega (arith, f.room, asked_same k, given_same k);
      }

  allows_fits : (k : ℕ) → Allows p i c k → Fits (with_length p i c) i k
  allows_fits k a =
      record {
        width = record { some = a.width.some; most = omega (arith, a.width.most, ceiling_same) };
        room = omega (arith, a.room, asked_same k, given_same k);
      }

-- a kind in use has a place
kind_there : (p : Plan) → InOrder p → (i : ℕ) → i < p.kinds → i < length p.kind
kind_there p o i l =
    elim (dec_lt i (length p.kind)) [
      | yes q ↦ q
      | no q ↦
          let none = ap (λ (k : Kind). k.length) (get_or-eq_default p.kind no_kind {n = i} (omega arith)) in
          absurd (omega (arith, (o.kind_at_law i l).some_length, none))
    ]

-- a shorter length is allowed too
allows_shorter : (p : Plan) (i c d k : ℕ) → c ≤ d → Allows p i d k → Allows p i c k
allows_shorter p i c d k l a = record { width = a.width; room = omega (arith, a.room, mul-le-mul_left k l) }

-- refused at kind i with excess x: with a length of c in 1..C it has a k exactly when c is at most C - x
pub advice : (p : Plan) (i x c : ℕ) → InOrder p → NotAdmitted p i x → 0 < c → c ≤ (kind_of p i).length →
    ((k : ℕ) × Fits (with_length p i c) i k) ↔ (c ≤ (kind_of p i).length - x)
advice p i x c o n some most = (says, of)
  where
    there : i < length p.kind
    there = kind_there p o i n.its_kind

    says : (k : ℕ) × Fits (with_length p i c) i k → c ≤ (kind_of p i).length - x
    says t = omega (arith, n.excess.greatest c t.0 most (fits_allows p i c there t.0 t.1))

    of : c ≤ (kind_of p i).length - x → (k : ℕ) × Fits (with_length p i c) i k
    of l =
        let t = n.excess.allowed (omega arith) in
        (t.0, allows_fits p i c there t.0 (allows_shorter p i c ((kind_of p i).length - x) t.0 l t.1))
