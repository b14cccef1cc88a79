-- The list's bytes, applied to the plan's own bytes, give the bytes of the result.
-- Assumes nothing.
use Rattle.std.specs.Prelude.{◌≡◌, ℕ, ◌≤◌, ◌<◌, length, get_or, take}
use Rattle.std.proofs.Math.Path.{sym, ap}
use Rattle.std.proofs.Common.{◌∙◌, arith, get_or-take}
use mathlib.Core.List.{List}
use Rattle.std.proofs.Math.Seq.{length-take-le}
use Rattle.plan.specs.declared.Plan.{Plan}
use Rattle.plan.specs.Order.{Sized}
use Rattle.plan_bytes.specs.Parts.{encoded, headed, decoded, size}
use Rattle.plan_bytes.specs.RoundTrip.Behind.{headed_same, decoded_same}
use Rattle.rescue.specs.Entry.{Entry}
use Rattle.rescue.specs.Mended.{plan_for}
use Rattle.rescue.specs.Rescue.{changes, list_of, rescued_plan}
use Rattle.rescue.specs.Applied.{parts_after, applied}
use Rattle.rescue.specs.Applied.Properties.{entries_listed}
use Rattle.rescue.specs.Behind.{changes_same}
use Rattle.rescue.specs.Passing.{decoded_damaged}
use Rattle.rescue.specs.Result.{parts_after_law}

module _ (s : List ℕ) (counts : Sized (headed s)) (long : size (headed s) ≤ length s) where
  t : List ℕ
  t = take (size (headed s)) s

  long_too : size (headed s) ≤ length t
  unfolding t
  long_too = omega (arith, length-take-le (size (headed s)) s long)

  agree : (i : ℕ) → i < size (headed s) → get_or s i 0 ≡ get_or t i 0
  unfolding t
  agree i l = sym (get_or-take (size (headed s)) s i 0 l)

  pub applied_gives : applied (take (size (headed s)) s) (list_of s) ≡ encoded (rescued_plan s)
  unfolding applied t
  applied_gives =
      let heads = headed_same s t long long_too agree in
      let plans = decoded_same s t long long_too agree in
      ap (λ (es : List Entry). parts_after es t (decoded t)) (entries_listed (changes s) ∙ changes_same s t long long_too agree)
      ∙ parts_after_law t (decoded t) (decoded_damaged t (rw heads at counts)) ∙ ap (λ (p : Plan). encoded (plan_for p)) (sym plans)
