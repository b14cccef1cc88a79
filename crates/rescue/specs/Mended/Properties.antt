-- Laws of the plan that is made.
-- Assumes nothing.
use Rattle.std.specs.Prelude.{◌≡◌, refl, true, false, List, ℕ, ◌+◌, ◌≤◌, set, replicate}
use Rattle.std.proofs.Math.Path.{ap}
use Rattle.std.proofs.Common.{◌∙◌, add-one, arith}
use Rattle.plan.specs.declared.Project.{Project}
use Rattle.plan.specs.declared.Kind.{Kind}
use Rattle.plan.specs.declared.Plan.{Plan}
use Rattle.plan.specs.Record.{no_kind}
use Rattle.rescue.specs.Mended.{lowered, kind_for_at, kept_at, kinds_kept, kept_to}
use Rattle.rescue.specs.Mended.{plan_for}

-- ---- the limits, as the code goes

pub lowered_most : (most x : ℕ) → lowered most x ≤ most
unfolding lowered
lowered_most most x = omega arith

-- ---- the steps of the loop over the kinds

pub kept_none : (p : Plan) → replicate 16 no_kind ≡ kept_to p 0
unfolding kept_to
kept_none p = refl

pub kept_skip : (p : Plan) (n : ℕ) (l : List Kind) → l ≡ kept_to p n → kept_at p n ≡ false → l ≡ kept_to p (n + 1)
unfolding kept_to
kept_skip p n l e z = rw (add-one n, z) e

pub kept_put : (p : Plan) (n c : ℕ) (l : List Kind) (v : Kind) →
    l ≡ kept_to p n →
    c ≡ kinds_kept p n →
    kept_at p n ≡ true →
    v ≡ kind_for_at p n →
    set l c v ≡ kept_to p (n + 1)
unfolding kept_to
kept_put p n c l v e f z g = rw (add-one n, z, e, f, g)

pub kept_stop : (p : Plan) (i n : ℕ) (l : List Kind) → l ≡ kept_to p i → i ≤ n → n ≤ i → l ≡ kept_to p n
kept_stop p i n l e a b = let q : i ≡ n = omega arith in e ∙ ap (kept_to p) q

-- ---- the whole

pub plan_made : (p : Plan) (projects : List Project) (kinds : List Kind) (n : ℕ) →
    projects ≡ (plan_for p).project →
    kinds ≡ (plan_for p).kind →
    n ≡ (plan_for p).kinds →
    record { cards = p.cards; projects = p.projects; kinds = n; frame = p.frame; project = projects; kind = kinds } ≡ plan_for p
unfolding plan_for
plan_made p projects kinds n e f g = rw (e, f, g)
