-- "where each FC is a multiple of T it is built exactly when the sum of C/T is at most m": the fractions over any common multiple of the
-- separations.
-- Assumes nothing.
use Rattle.std.specs.Prelude.{◌≡◌, ℕ, zero, suc, ◌+◌, ◌*◌, ◌/◌, ◌≤◌, ◌<◌}
use Rattle.std.proofs.Common.{sym, ap, ◌∙◌, mul-zero, mul-add, mul_comm, mul_assoc, mul_left_comm, mul-le-mul_left}
use Rattle.std.specs.Int.{◌∣◌}
use Rattle.std.proofs.Math.Nat.{le_of_mul-le-mul_left, div-mul_cancel}
use Rattle.laws.specs.Sum.{sum_to}
use Rattle.laws.specs.Sum.Properties.{sum_cong}
use Rattle.one_kind.specs.Built.{frame_for, budget_for, InLimits}
use Rattle.one_kind.specs.Built.Properties.{rounded_exact, some_separation, some_frame}

-- a factor of every term
sum_times : (n k : ℕ) (f : ℕ → ℕ) → sum_to n (λ x. k * f x) ≡ k * sum_to n f
unfolding sum_to
sum_times zero k f = sym (mul-zero k)
sum_times (suc n) k f = ap (λ (x : ℕ). x + k * f n) (sum_times n k f) ∙ sym (mul-add k (sum_to n f) (f n))

-- M of its cells are F of its units: both count FCM/T
term : (M F T C B : ℕ) → T ∣ M → B * T ≡ F * C → M * B ≡ F * (C * (M / T))
term M F T C B d e =
    ap (λ (x : ℕ). x * B) (sym (div-mul_cancel T d))
    ∙ mul_assoc (M / T) T B
    ∙ ap (λ (x : ℕ). M / T * x) (mul_comm T B ∙ e)
    ∙ mul_left_comm (M / T) F C
    ∙ ap (λ (x : ℕ). F * x) (mul_comm (M / T) C)

module _ (m n : ℕ) (T C : ℕ → ℕ) (o : InLimits m n T C) (M : ℕ) (multiple : (i : ℕ) → i < n → T i ∣ M)
    (whole : (i : ℕ) → i < n → T i ∣ frame_for n T * C i) where
  sums : M * sum_to n (budget_for n T C) ≡ frame_for n T * sum_to n (λ i. C i * (M / T i))
  sums =
      let F = frame_for n T in
      sym (sum_times n M (budget_for n T C))
      ∙ sum_cong n (λ i. M * budget_for n T C i) (λ i. F * (C i * (M / T i)))
      (λ i l. term M F (T i) (C i) (budget_for n T C i) (multiple i l)
      (rounded_exact F (T i) (C i) (some_separation m n T C o i l) (whole i l)))
      ∙ sum_times n F (λ i. C i * (M / T i))

  pub cells_parts : sum_to n (budget_for n T C) ≤ m * frame_for n T → sum_to n (λ i. C i * (M / T i)) ≤ m * M
  cells_parts l =
      let F = frame_for n T in
      le_of_mul-le-mul_left {k = F}
      (rw (← sums, mul_left_comm F m M, mul_comm F M, mul_left_comm m M F) (mul-le-mul_left M l)) (some_frame m n T C o)

  pub parts_cells : 0 < M → sum_to n (λ i. C i * (M / T i)) ≤ m * M → sum_to n (budget_for n T C) ≤ m * frame_for n T
  parts_cells some l =
      let F = frame_for n T in
      le_of_mul-le-mul_left {k = M} (rw (sums, mul_left_comm M m F, mul_comm M F, mul_left_comm m F M) (mul-le-mul_left F l)) some
