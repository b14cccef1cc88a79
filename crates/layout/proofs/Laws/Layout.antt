-- Laws of the layout.
-- Assumes nothing.
use Rattle.std.specs.Prelude.{◌≡◌, refl, true, ◌&&◌, ◌⊎◌, ℕ, zero, suc, ◌+◌, ◌-◌, ◌*◌, ◌/◌, ◌%◌, ◌≤◌, ◌<◌, pred}
use Rattle.std.proofs.Common.{sym, ap, ◌∙◌, inl, inr, mul-le-mul, div-add-mod', mod-lt, add-one, arith, leb-true, ltb-true}
use Rattle.std.proofs.Math.Decide.{dec_le, dec_lt}
use Rattle.std.proofs.Math.Nat.{mod-mod, add-mod_right}
use Rattle.std.proofs.Math.Dec.{leb, ltb}
use Rattle.laws.specs.Tests.{and_left, and_right}
use Rattle.laws.specs.Sum.{sum_to}
use Rattle.laws.specs.Sum.Properties.{sum_none, sum_suc, sum_cong}
use Rattle.laws.specs.First.Properties.{first_le, first_holds, first_some}
use Rattle.laws.specs.Count.{count_to}
use Rattle.laws.specs.Count.Properties.{count_cong, count_between, between_yes}
use Rattle.plan.specs.declared.Plan.{Plan}
use Rattle.plan.specs.Order.{budget_of, budgets, project_of, InOrder}
use Rattle.layout.specs.Cards.{cards_below, held_from}
use Rattle.layout.specs.Cards.Properties.{below_grows, below_frame, below_cell, past_cell, run_card, run_closed}
use Rattle.layout.specs.Cards.Properties.{run_least, run_most, run_ceiling, run_frame}
use Rattle.layout.specs.Layout.{cell_at, first_cell, owns, slot_of, held}

-- ---- cells

-- "cell x is card floor(x/F), slice x mod F"
pub cell_is : (frame x : ℕ) → cell_at frame (x / frame) (x % frame) ≡ x
unfolding cell_at
cell_is frame x = div-add-mod' x frame

-- ---- first cells

pub first_start : (p : Plan) → first_cell p 0 ≡ 0
unfolding first_cell
first_start p = sym (sum_none (budget_of p))

-- "project 1 the next": a project ends where the next begins
pub first_suc : (p : Plan) (j : ℕ) → first_cell p (suc j) ≡ first_cell p j + budget_of p j
unfolding first_cell
first_suc p j = sum_suc j (budget_of p)

pub first_next : (p : Plan) (j : ℕ) → first_cell p (j + 1) ≡ first_cell p j + budget_of p j
first_next p j = rw add-one (first_suc p j)

pub first_grows : (p : Plan) (i j : ℕ) → i ≤ j → first_cell p i ≤ first_cell p j
first_grows p i zero h = let e : i ≡ 0 = omega arith in rw e (omega arith)
first_grows p i (suc j) h = elim (dec_le i j) [ yes q ↦ omega (arith, first_suc p j, first_grows p i j q) | no q ↦ here (omega arith) ]
  where
    here : i ≡ suc j → first_cell p i ≤ first_cell p (suc j)
    here e = rw e (omega arith)

-- ---- owners

pub owns_yes : (p : Plan) (j x : ℕ) → first_cell p j ≤ x → x < first_cell p j + budget_of p j → owns p j x ≡ true
unfolding owns
owns_yes p j x a b = between_yes (first_cell p j) (first_cell p j + budget_of p j) x a b

pub owns_from : (p : Plan) (j x : ℕ) → owns p j x ≡ true → first_cell p j ≤ x
unfolding owns
owns_from p j x e = leb-true (first_cell p j) x (and_left (leb (first_cell p j) x) (ltb x (first_cell p j + budget_of p j)) e)

pub owns_to : (p : Plan) (j x : ℕ) → owns p j x ≡ true → x < first_cell p j + budget_of p j
unfolding owns
owns_to p j x e =
    ltb-true x (first_cell p j + budget_of p j) (and_right (leb (first_cell p j) x) (ltb x (first_cell p j + budget_of p j)) e)

-- no cell has two owners
pub one_owner : (p : Plan) (i j x : ℕ) → owns p i x ≡ true → owns p j x ≡ true → i ≡ j
one_owner p i j x a b =
    elim (dec_lt i j) [
      | yes q ↦ absurd (omega (arith, owns_to p i x a, first_suc p i, first_grows p (suc i) j (omega arith), owns_from p j x b))
      | no q ↦ elim (dec_lt j i) [
        | yes r ↦ absurd (omega (arith, owns_to p j x b, first_suc p j, first_grows p (suc j) i (omega arith), owns_from p i x a))
        | no r ↦ omega arith
      ]
    ]

-- ---- slots: "project number plus 1, or 0 for a free cell"

pub slot_most : (p : Plan) (x : ℕ) → slot_of p x ≤ p.projects
unfolding slot_of
slot_most p x = first_le p.projects (λ number. owns p (pred number) x)

-- the project that a slot names owns the cell
pub slot_owner : (p : Plan) (j x : ℕ) → slot_of p x ≡ suc j → owns p j x ≡ true
unfolding slot_of
slot_owner p j x e = rw e at (first_holds p.projects (λ number. owns p (pred number) x) (omega arith))

slot_some : (p : Plan) (j x : ℕ) → j < p.projects → owns p j x ≡ true → 0 < slot_of p x
unfolding slot_of
slot_some p j x l e = first_some p.projects (λ number. owns p (pred number) x) (suc j) (omega arith) (omega arith) e

-- a project's cell has its slot
pub slot_owned : (p : Plan) (j x : ℕ) → j < p.projects → owns p j x ≡ true → slot_of p x ≡ suc j
slot_owned p j x l e = named (slot_of p x) refl
  where
    named : (n : ℕ) → slot_of p x ≡ n → slot_of p x ≡ suc j
    named zero q = absurd (omega (arith, slot_some p j x l e))
    named (suc i) q = q ∙ ap suc (one_owner p i j x (slot_owner p i x q) e)

-- "What is left is free": past every project's cells, and nowhere before
pub slot_free : (p : Plan) (x : ℕ) → first_cell p p.projects ≤ x → slot_of p x ≡ 0
slot_free p x h = named (slot_of p x) refl
  where
    named : (n : ℕ) → slot_of p x ≡ n → slot_of p x ≡ 0
    named zero q = q
    named (suc j) q =
        absurd (omega (
          arith,
          slot_most p x,
          owns_to p j x (slot_owner p j x q),
          first_suc p j,
          first_grows p (suc j) p.projects
              (omega (arith, slot_most p x)),
        ))

-- "0 for a free cell": it is past every project's
pub free_slot : (p : Plan) (x : ℕ) → slot_of p x ≡ 0 → first_cell p p.projects ≤ x
free_slot p x e = up_to p.projects (omega arith)
  where
    up_to : (n : ℕ) → n ≤ p.projects → first_cell p n ≤ x
    up_to zero l = omega (arith, first_start p)
    up_to (suc n) l =
        elim (dec_lt x (first_cell p (suc n))) [
          | yes q ↦
              absurd (omega (arith, slot_owned p n x (omega arith) (owns_yes p n x (up_to n (omega arith)) (omega (arith, first_suc p n)))))
          | no q ↦ omega arith
        ]

-- ---- a project's cards at a slice are consecutive: from card `cards_below` of its first cell on, up to that of the next project's

module _ (p : Plan) (j slice : ℕ) (l : slice < p.frame) where
  owns_card : (card : ℕ) → owns p j (cell_at p.frame card slice) ≡
      (leb (cards_below p.frame (first_cell p j) slice) card && ltb card (cards_below p.frame (first_cell p (j + 1)) slice))
  unfolding owns
  owns_card card = rw (first_next p j) (run_card p.frame slice l (first_cell p j) (budget_of p j) card)

  card_owned : (card : ℕ) → cards_below p.frame (first_cell p j) slice ≤ card →
      card < cards_below p.frame (first_cell p (j + 1)) slice → owns p j (cell_at p.frame card slice) ≡ true
  card_owned card a b =
      owns_card card
      ∙ between_yes (cards_below p.frame (first_cell p j) slice) (cards_below p.frame (first_cell p (j + 1)) slice) card a b

  pub owned_from : (card : ℕ) → owns p j (cell_at p.frame card slice) ≡ true → cards_below p.frame (first_cell p j) slice ≤ card
  owned_from card e = past_cell p.frame slice l (first_cell p j) card (owns_from p j (cell_at p.frame card slice) e)

  pub owned_to : (card : ℕ) → owns p j (cell_at p.frame card slice) ≡ true → card < cards_below p.frame (first_cell p (j + 1)) slice
  owned_to card e =
      below_cell p.frame slice l (first_cell p (j + 1)) card (omega (arith, first_next p j, owns_to p j (cell_at p.frame card slice) e))

-- ---- a plan in order

-- "cards m 1..8; .. frame length F 1..64": a frame has at most 512 cells
pub cells_most : (p : Plan) → InOrder p → p.cards * p.frame ≤ 512
cells_most p o = mul-le-mul o.counts.cards_most o.counts.frame_most

-- every project's cells are cells of the frame
pub first_most : (p : Plan) → InOrder p → (j : ℕ) → j ≤ p.projects → first_cell p j ≤ p.cards * p.frame
unfolding first_cell budgets
first_most p o j l = omega (arith, first_grows p j p.projects l, o.cells)

-- at a slice they end at the last card or before it
pub below_cards : (p : Plan) → InOrder p → (s i : ℕ) → i ≤ p.projects → cards_below p.frame (first_cell p i) (s % p.frame) ≤ p.cards
below_cards p o s i h =
    let slice_in : s % p.frame < p.frame = mod-lt s o.counts.some_slice in
    let e : cards_below p.frame (p.cards * p.frame) (s % p.frame) ≡ p.cards = below_frame p.frame (s % p.frame) slice_in
    p.cards in
    omega (arith, e, below_grows p.frame (s % p.frame) slice_in (first_cell p i) (p.cards * p.frame) (first_most p o i h))

module _ (p : Plan) (o : InOrder p) (j : ℕ) (l : j < p.projects) where
  -- every project's cells are cells of the frame
  pub last_most : first_cell p j + budget_of p j ≤ p.cards * p.frame
  last_most = omega (arith, first_suc p j, first_most p o (suc j) (omega arith))

  -- a project holds exactly B cells of the frame
  pub cells_owned : count_to (p.cards * p.frame) (owns p j) ≡ budget_of p j
  unfolding owns
  cells_owned = count_between (p.cards * p.frame) (first_cell p j) (first_cell p j + budget_of p j) (omega arith) ∙ omega (arith, last_most)

  module _ (s : ℕ) where
    slice_in : s % p.frame < p.frame
    slice_in = mod-lt s o.counts.some_slice

    pub held_closed : held p j s ≡ cards_below p.frame (first_cell p (j + 1)) (s % p.frame) - cards_below p.frame (first_cell p j)
        (s % p.frame)
    unfolding held
    held_closed =
        let low = cards_below p.frame (first_cell p j) (s % p.frame) in
        let high = cards_below p.frame (first_cell p (j + 1)) (s % p.frame) in
        let a : low ≤ high = below_grows p.frame (s % p.frame) slice_in (first_cell p j) (first_cell p (j + 1))
        (omega (arith, first_next p j)) in
        count_cong p.cards (λ card. owns p j (cell_at p.frame card (s % p.frame))) (λ card. leb low card && ltb card high)
        (λ card q. owns_card p j (s % p.frame) slice_in card)
        ∙ count_between p.cards low high a
        ∙ omega (arith, a, below_cards p o s j (omega arith), below_cards p o s (j + 1) (omega arith))

    -- h(s) is that of a run of B cells from the project's first cell on
    pub held_from_law : held p j s ≡ held_from (first_cell p j) (budget_of p j) p.frame s
    held_from_law = held_closed ∙ rw (first_next p j) (sym (run_closed (first_cell p j) (budget_of p j) p.frame s o.counts.some_slice))

    -- "So a project holds at slice s either floor(B/F) or that plus one card"
    pub held_least : budget_of p j / p.frame ≤ held p j s
    held_least = rw held_from_law (run_least (first_cell p j) (budget_of p j) p.frame s o.counts.some_slice)

    pub held_most : held p j s ≤ budget_of p j / p.frame + 1
    held_most = rw held_from_law (run_most (first_cell p j) (budget_of p j) p.frame s o.counts.some_slice)

    -- "a project holds at slice s either floor(B/F) or that plus one card"
    pub held_either : (held p j s ≡ budget_of p j / p.frame) ⊎ (held p j s ≡ budget_of p j / p.frame + 1)
    held_either =
        elim (dec_le (held p j s) (budget_of p j / p.frame)) [
          | yes q ↦ inl (omega (arith, held_least))
          | no q ↦ inr (omega (arith, held_most))
        ]

    -- ".. never more than q"
    pub held_ceiling : held p j s ≤ (project_of p j).ceiling
    held_ceiling =
        rw held_from_law (run_ceiling (first_cell p j) (budget_of p j) p.frame s o.counts.some_slice (project_of p j).ceiling
        (o.project_at_law j l).budget_most)

    -- its cards at a slice are the `held` cards from `cards_below` of its first cell on, and no others
    pub held_owned : (k : ℕ) → k < held p j s →
        owns p j (cell_at p.frame (cards_below p.frame (first_cell p j) (s % p.frame) + k) (s % p.frame)) ≡ true
    held_owned k h =
        card_owned p j (s % p.frame) slice_in (cards_below p.frame (first_cell p j) (s % p.frame) + k) (omega arith)
        (omega (arith, held_closed))

    pub owned_held : (card : ℕ) → owns p j (cell_at p.frame card (s % p.frame)) ≡ true →
        card < cards_below p.frame (first_cell p j) (s % p.frame) + held p j s
    owned_held card e =
        omega (arith, held_closed, owned_from p j (s % p.frame) slice_in card e, owned_to p j (s % p.frame) slice_in card e)

  -- over any F slices in a row it holds exactly B
  pub held_frame : (a : ℕ) → sum_to p.frame (λ s. held p j (a + s)) ≡ budget_of p j
  held_frame a =
      sum_cong p.frame (λ s. held p j (a + s)) (λ s. held_from (first_cell p j) (budget_of p j) p.frame (a + s))
      (λ s q. held_from_law (a + s))
      ∙ run_frame (first_cell p j) (budget_of p j) p.frame a o.counts.some_slice

-- ---- h(s) of any plan

-- "taken modulo F"
pub held_period : (p : Plan) (j s : ℕ) → held p j (s + p.frame) ≡ held p j s
unfolding held
held_period p j s = rw (add-mod_right s p.frame)

pub held_mod : (p : Plan) (j s : ℕ) → held p j (s % p.frame) ≡ held p j s
unfolding held
held_mod p j s = rw (mod-mod s p.frame)
