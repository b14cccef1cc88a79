-- Laws of the sums: what the test says, how large a sum is, the steps of the pass that adds up, and what a change of one kind does.
-- Assumes nothing.
use Rattle.std.specs.Prelude.{◌≡◌, refl, ◌≢◌, true, List, ℕ, zero, suc, ◌+◌, ◌*◌, ◌≤◌, ◌<◌, length, get_or, set, replicate}
use Rattle.std.proofs.Common.{sym, ap, ap₂, ◌∙◌, arith, set-set, get_or-set_same, get_or-set_other, eq-eqb, ne_eqb, eqb-true}
use Rattle.std.proofs.Math.Decide.{dec_lt, ℕ_discrete}
use Rattle.std.proofs.lemmas.List.{set-get_or, set_comm}
use Rattle.laws.specs.Sum.{sum_to}
use Rattle.laws.specs.Sum.Properties.{sum_more, sum_cong, sum_bound, sum_split, sum_zero}
use Rattle.laws.specs.All.Properties.{all_at, all_of}
use Rattle.laws.specs.Written.{written}
use Rattle.laws.specs.Written.Properties.{written_cong, written_length, stored_at}
use Rattle.rack.specs.declared.State.{State}
use Rattle.rack.specs.State.{unit_of, kind_at, kind_places, project_places, sum_at}
use Rattle.rack.specs.Sums.{left_for, project_left, sum_right, sums_right, SumsRight, left_below}

-- ---- lists written from the front, and sums, that differ at one place

-- what is there already need not be stored
pub written_there : {A : Type 0} (n : ℕ) (f : ℕ → A) (l : List A) (d : A) → ((i : ℕ) → i < n → f i ≡ get_or l i d) → written n f l ≡ l
unfolding written
written_there zero f l d h = refl
written_there (suc n) f l d h =
    ap₂ (λ (m : List _) (v : _). set m n v) (written_there n f l d (λ i p. h i (omega arith))) (h n (omega arith)) ∙ set-get_or l n d

-- one place stored over what was written: g is f but for that place
pub written_changed : {A : Type 0} (n : ℕ) (f g : ℕ → A) (l : List A) (c : ℕ) → c < n → ((i : ℕ) → i < n → i ≢ c → g i ≡ f i) →
    set (written n f l) c (g c) ≡ written n g l
unfolding written
written_changed zero f g l c p h = absurd (omega arith)
written_changed (suc n) f g l c p h =
    elim (ℕ_discrete c n) [
      | yes e ↦ last e
      | no e ↦
          set_comm (written n f l) n c (f n) (g c) (λ z. e (sym z))
          ∙ ap₂ (λ (m : List _) (v : _). set m n v)
          (written_changed n f g l c (omega arith) (λ i q. h i (omega arith)))
          (sym (h n (omega arith) (λ z. e (sym z))))
    ]
  where
    last : c ≡ n → set (set (written n f l) n (f n)) c (g c) ≡ set (written n g l) n (g n)
    last e =
        ap (λ (x : ℕ). set (set (written n f l) n (f n)) x (g x)) e
        ∙ set-set (written n f l) n (f n) (g n)
        ∙ ap (λ (m : List _). set m n (g n)) (written_cong n f g l (λ i q. sym (h i (omega arith) (λ z. omega arith))))

-- a place that is there
pub written_here : {A : Type 0} (n : ℕ) (f : ℕ → A) (l : List A) (d : A) (i : ℕ) → i < n → i < length l → get_or (written n f l) i d ≡ f i
unfolding written
written_here zero f l d i p q = absurd (omega arith)
written_here (suc n) f l d i p q =
    elim (dec_lt i n) [
      | yes s ↦ get_or-set_other (written n f l) n i (f n) d (λ e. omega arith) ∙ written_here n f l d i s q
      | no s ↦ here (omega arith)
    ]
  where
    here : i ≡ n → get_or (set (written n f l) n (f n)) i d ≡ f i
    here e = rw e (get_or-set_same (written n f l) n (f n) d (omega (arith, written_length n f l)))

-- one term changed from x to y
pub sum_changed : (n : ℕ) (f g : ℕ → ℕ) (i : ℕ) → i < n → ((k : ℕ) → k < n → k ≢ i → g k ≡ f k) →
    sum_to n g + f i ≡ sum_to n f + g i
unfolding sum_to
sum_changed zero f g i p h = absurd (omega arith)
sum_changed (suc n) f g i p h =
    elim (ℕ_discrete i n) [
      | yes e ↦ last e
      | no e ↦ omega (arith, sum_changed n f g i (omega arith) (λ k q. h k (omega arith)), h n (omega arith) (λ z. e (sym z)))
    ]
  where
    last : i ≡ n → sum_to n g + g n + f i ≡ sum_to n f + f n + g i
    last e =
        omega (arith, sum_cong n g f (λ k q. h k (omega arith) (λ z. omega arith)), ap f e, ap g e)

-- ---- what a kind adds

module _ (s : State) (j i : ℕ) where
  pub left_own : (kind_at s i).project ≡ j → left_for s j i ≡ (unit_of s i).left
  unfolding left_for
  left_own e = rw (eq-eqb (kind_at s i).project j e)

  pub left_other : (kind_at s i).project ≢ j → left_for s j i ≡ 0
  unfolding left_for
  left_other z = rw (ne_eqb (kind_at s i).project j z)

  pub left_most : (most : ℕ) → (unit_of s i).left ≤ most → left_for s j i ≤ most
  left_most most l =
      elim (ℕ_discrete (kind_at s i).project j) [ yes e ↦ omega (arith, left_own e) | no e ↦ omega (arith, left_other e) ]

  pub left_none : (unit_of s i).left ≡ 0 → left_for s j i ≡ 0
  left_none q = omega (arith, left_most 0 (omega arith))

-- ---- what the test says, and that nothing more is asked

pub sums_say : (s : State) → sums_right s ≡ true → SumsRight s
unfolding sums_right
sums_say s e j l = eqb-true (sum_at s j) (project_left s j) (all_at (project_places s) (sum_right s) e j l)

pub sums_of : (s : State) → SumsRight s → sums_right s ≡ true
unfolding sums_right
sums_of s r = all_of (project_places s) (sum_right s) (λ j l. eq-eqb (sum_at s j) (project_left s j) (r j l))

-- ---- the pass over the kinds: l is what is left so far, in the kinds below i

pub below_none : (s : State) → replicate 8 0 ≡ left_below s 0
unfolding sum_to written
below_none s = refl

module _ (s : State) (i : ℕ) (l : List ℕ) (so_far : l ≡ left_below s i) where
  pub below_at : (j : ℕ) → j < 8 → get_or l j 0 ≡ sum_to i (left_for s j)
  below_at j p = ap (λ (m : List ℕ). get_or m j 0) so_far ∙ stored_at 8 8 (λ k. sum_to i (left_for s k)) j p (omega arith)

  -- kind i's slices left, added to its project's
  pub below_again : (c v : ℕ) →
      c ≡ (kind_at s i).project →
      v ≡ (unit_of s i).left →
      c < 8 →
      set l c (get_or l c 0 + v) ≡ left_below s (i + 1)
  below_again c v e q p =
      let here : get_or l c 0 + v ≡ sum_to (i + 1) (left_for s c) =
      omega (arith, below_at c p, sum_more i (left_for s c), left_own s c i (sym e)) in
      ap₂ (λ (m : List ℕ) (x : ℕ). set m c x) so_far here
      ∙ written_changed 8 (λ j. sum_to i (left_for s j)) (λ j. sum_to (i + 1) (left_for s j)) (replicate 8 0) c p
      (λ j m z. omega (arith, sum_more i (left_for s j), left_other s j i (λ w. z (sym (e ∙ w)))))

-- in all places, where those beyond the plan's kinds hold nothing
pub below_all : (s : State) (n m : ℕ) → kind_places s + m ≡ n → ((k : ℕ) → k < m → (unit_of s (kind_places s + k)).left ≡ 0) →
    (j : ℕ) → sum_to n (left_for s j) ≡ project_left s j
unfolding project_left
below_all s n m e h j =
    let more = sum_zero m (λ k. left_for s j (kind_places s + k)) (λ k l. left_none s j (kind_places s + k) (h k l)) in
    ap (λ (x : ℕ). sum_to x (left_for s j)) (sym e) ∙ omega (arith, sum_split (kind_places s) m (left_for s j), more)

-- ---- how large a sum is

pub sum_most : (s : State) (n most : ℕ) → ((i : ℕ) → i < n → (unit_of s i).left ≤ most) → (j : ℕ) → sum_to n (left_for s j) ≤ n * most
sum_most s n most h j = sum_bound n most (left_for s j) (λ i l. left_most s j i most (h i l))

-- ---- nothing is left where every unit is idle

pub none_left : (s : State) → ((i : ℕ) → i < kind_places s → (unit_of s i).left ≡ 0) → (j : ℕ) → project_left s j ≡ 0
unfolding project_left
none_left s h j = sum_zero (kind_places s) (left_for s j) (λ i l. left_none s j i (h i l))
