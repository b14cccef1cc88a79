-- Document 01, the refusals 13 and 14: whether a kind may start a unit.
-- Assumes nothing.
use Rattle.std.specs.Prelude.{ℕ, ◌≤◌, ◌<◌, ◌≡◌, Bool, true, not, ◌&&◌, ltb}
use Rattle.answer.specs.declared.Answer.{Answer}
use Rattle.answer.specs.Answer.{bare, refuse, ◌and_then◌}
use Rattle.plan.specs.declared.Kind.{Kind}
use Rattle.plan.specs.Order.{within}
use Rattle.unit.specs.declared.Unit.{Unit}
pub mod Properties

-- "released before, and fewer than T slices ago"
unfoldable pub early : ℕ → Unit → Bool
early separation v = v.released && ltb v.gone separation

-- "13: e is 0 or above C", "14"
unfoldable pub startable : Kind → Unit → ℕ → Answer
startable k v e = refuse (not (within k.length e)) (bare 13) and_then refuse (early k.separation v) (bare 14)

-- ---- what a good answer says

-- neither 13 nor 14
pub record Startable (k : Kind) (v : Unit) (e : ℕ) : Type 0 where
  pub some : 0 < e
  pub length_most : e ≤ k.length
  pub separated : v.released ≡ true → k.separation ≤ v.gone
