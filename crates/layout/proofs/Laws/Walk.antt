-- Laws of the walk over the cells.
-- Assumes nothing.
use Rattle.std.specs.Prelude.{◌≡◌, refl, List, ℕ, zero, suc, ◌+◌, ◌-◌, ◌*◌, ◌≤◌, ◌<◌, set, get_or, length, take, drop, replicate}
use Rattle.std.proofs.Common.{sym, ap, ◌∙◌, ◌++◌, add-one, arith, lt-ltb, le-ltb, ne_eqb}
use Rattle.std.proofs.Math.Decide.{dec_lt}
use Rattle.laws.specs.Written.{written}
use Rattle.laws.specs.Written.Properties.{written_suc, written_at, written_length}
use Rattle.plan.specs.declared.Plan.{Plan}
use Rattle.plan.specs.declared.Project.{Project}
use Rattle.plan.specs.Record.{no_project}
use Rattle.std.proofs.lemmas.List.{length-take, length-take-le, length-replicate, get_or-take}
use borrow.Rule.Slice.PartMut.{put_mid}
use Rattle.layout.proofs.Laws.Front.{front_most, front_end, front_at, front_stop, part_written}
use Rattle.plan.specs.Order.{budget_of, InOrder}
use Rattle.layout.specs.Cards.Properties.{card_cells, card_next}
use Rattle.layout.specs.Layout.{cell_at, first_cell, slot_of}
use Rattle.layout.proofs.Laws.Layout.{first_suc, first_next, first_start, cells_most, last_most, owns_yes, owns_from, owns_to}
use Rattle.layout.proofs.Laws.Layout.{slot_owner, slot_owned, slot_free, free_slot, slot_most}
use Rattle.layout.specs.Table.{table_length, table_over}
use Rattle.layout.specs.Walk.{first_cells, slot_after, row_of, rows_of}

-- ---- first cells, one after the other

pub budget_there : (p : Plan) (j : ℕ) → j < length (take p.projects p.project) →
    (get_or (take p.projects p.project) j no_project).budget ≡ budget_of p j
budget_there p j l = ap (λ (x : Project). x.budget) (front_at p.projects p.project no_project j l)

module _ (p : Plan) (j cell : ℕ) (e : cell ≡ first_cell p j) where
  module _ (l : j < length (take p.projects p.project)) where
    pub first_cells_more : cell + (get_or (take p.projects p.project) j no_project).budget ≡ first_cell p (j + 1)
    first_cells_more = rw (e, budget_there p j l) (sym (first_next p j))

    pub first_cells_most : InOrder p → cell + (get_or (take p.projects p.project) j no_project).budget < 513
    first_cells_most o =
        omega (arith, last_most p o j (omega (arith, front_most p.projects p.project)), cells_most p o, budget_there p j l)

  pub first_cells_end : (m : List ℕ) → InOrder p → length p.project ≡ 8 → m ≡ written j (first_cell p) (replicate 9 0) →
      j ≤ length (take p.projects p.project) → length (take p.projects p.project) ≤ j → set m p.projects cell ≡ first_cells p
  unfolding first_cells
  first_cells_end m o long q a b =
      let h = front_end p.projects p.project j (omega (arith, o.counts.projects_most)) a b in
      rw (q, e, h) (sym (written_suc p.projects (first_cell p) (replicate 9 0)))

-- ---- from a cell to the next

-- cell 0 is project 0's
pub walk_start : (p : Plan) → InOrder p → slot_of p 0 ≡ 1
walk_start p o =
    slot_owned p 0 0 o.counts.some_project
    (owns_yes p 0 0 (omega (arith, first_start p)) (omega (arith, (o.project_at_law 0 o.counts.some_project).some_budget)))

-- the walk finds each cell's slot (before cell 0 stands cell 0 itself)
pub walk_step : (p : Plan) → InOrder p → (x : ℕ) →
    slot_after (slot_of p (x - 1)) (first_cell p (slot_of p (x - 1))) p.projects x ≡ slot_of p x
unfolding slot_after
walk_step p o x = from (slot_of p (x - 1)) refl
  where
    from : (n : ℕ) → slot_of p (x - 1) ≡ n → slot_after n (first_cell p n) p.projects x ≡ slot_of p x
    from zero e = sym (slot_free p x (omega (arith, free_slot p (x - 1) e)))
    from (suc j) e =
        let mine = slot_owner p j (x - 1) e in
        let low = owns_from p j (x - 1) mine in
        let high = owns_to p j (x - 1) mine in
        let most : suc j ≤ p.projects = omega (arith, slot_most p (x - 1)) in
        rw (ne_eqb (suc j) 0 (λ h. omega arith))
        (elim (dec_lt x (first_cell p (suc j))) [
          | yes q ↦
              rw (lt-ltb x (first_cell p (suc j)) q)
              (sym (slot_owned p j x (omega arith) (owns_yes p j x (omega arith) (omega (arith, first_suc p j)))))
          | no q ↦ rw (le-ltb x (first_cell p (suc j)) (omega arith)) (elim (dec_lt (suc j) p.projects) [
            | yes r ↦ rw (lt-ltb (suc j) p.projects r) (add-one (suc j) ∙ sym
                (slot_owned p (suc j) x r (owns_yes p (suc j) x (omega arith)
                (omega (arith, first_suc p j, (o.project_at_law (suc j) r).some_budget)))))
            | no r ↦
                rw (le-ltb (suc j) p.projects (omega arith))
                (sym (slot_free p x (omega (arith, ap (first_cell p) (let z : p.projects ≡ suc j = omega arith in z)))))
          ])
        ])

-- ---- a card's row, slice by slice. cell is the cell that the walk stands at, and slot the slot of the one before it

pub row_start : (frame card : ℕ) → card * frame ≡ cell_at frame card 0
unfolding cell_at
row_start frame card = omega arith

pub row_next : (frame card s cell : ℕ) → cell ≡ cell_at frame card s → cell + 1 ≡ cell_at frame card (s + 1)
unfolding cell_at
row_next frame card s cell e = omega arith

pub row_most : (p : Plan) (card : ℕ) → InOrder p → card < p.cards → card * p.frame + p.frame ≤ 512
row_most p card o l = omega (arith, cells_most p o, card_cells p.frame card p.cards l)

pub row_slot : (p : Plan) (card s cell slot r : ℕ) (first : List ℕ) → InOrder p → first ≡ first_cells p → cell ≡ cell_at p.frame card s →
    slot ≡ slot_of p (cell_at p.frame card s - 1) → r ≡ slot_after slot (get_or first slot 0) p.projects cell →
    r ≡ slot_of p (cell_at p.frame card s)
unfolding first_cells
row_slot p card s cell slot r first o f at before e =
    let x = cell_at p.frame card s in
    let bound = slot_most p (x - 1) in
    let end : get_or first slot 0 ≡ first_cell p (slot_of p (x - 1)) = rw (f, before) (written_at (suc p.projects) (first_cell p)
    (replicate 9 0) 0 (slot_of p (x - 1)) (omega arith) (omega (arith, o.counts.projects_most))) in
    e ∙ rw (end, before, at) (walk_step p o x)

-- the cell before the next slice's is this slice's
pub row_back : (p : Plan) (card s r : ℕ) → r ≡ slot_of p (cell_at p.frame card s) → r ≡ slot_of p (cell_at p.frame card (s + 1) - 1)
unfolding cell_at
row_back p card s r e = e ∙ ap (slot_of p) (omega arith)

pub slot_index : (p : Plan) (x r : ℕ) → InOrder p → r ≡ slot_of p x → r < 9
slot_index p x r o e = omega (arith, slot_most p x, o.counts.projects_most)

pub row_index : (p : Plan) (card s cell slot r : ℕ) (first : List ℕ) → InOrder p → first ≡ first_cells p → cell ≡ cell_at p.frame card s →
    slot ≡ slot_of p (cell_at p.frame card s - 1) → r ≡ slot_after slot (get_or first slot 0) p.projects cell → r < 9
row_index p card s cell slot r first o f at before e =
    slot_index p (cell_at p.frame card s) r o (row_slot p card s cell slot r first o f at before e)

-- ---- the rows, card by card

-- after the last
pub rows_stop : (p : Plan) (c : ℕ) (rows : List (List ℕ)) → InOrder p →
    rows ≡ written c (row_of p) (take p.cards (replicate 8 (replicate 64 0))) →
    c ≤ length (take p.cards (replicate 8 (replicate {A = ℕ} 64 0))) → length (take p.cards (replicate 8 (replicate {A = ℕ} 64 0))) ≤ c →
    rows ++ drop p.cards (replicate 8 (replicate 64 0)) ≡ rows_of p p.cards
unfolding rows_of
rows_stop p c rows o e a b = front_stop c p.cards (row_of p) (replicate 8 (replicate 64 0)) rows o.counts.cards_most e a b

pub rows_start : (p : Plan) → InOrder p → 1 ≡ slot_of p (cell_at p.frame 0 0 - 1)
unfolding cell_at
rows_start p o = sym (walk_start p o) ∙ ap (slot_of p) (omega arith)

row_at : (p : Plan) (c s : ℕ) → InOrder p → s < p.frame → get_or (row_of p c) s 0 ≡ slot_of p (cell_at p.frame c s)
unfolding row_of
row_at p c s o l =
    written_at p.frame (λ (slice : ℕ). slot_of p (cell_at p.frame c slice)) (replicate 64 0) 0 s l
    (omega (arith, o.counts.frame_most))

row_long : (p : Plan) (c : ℕ) → length (row_of p c) ≡ 64
unfolding row_of
row_long p c =
    written_length p.frame (λ (slice : ℕ). slot_of p (cell_at p.frame c slice)) (replicate 64 0) ∙ length-replicate {A = ℕ} 64 0

-- the cell before the next card's first is this card's last
pub rows_back : (p : Plan) (c : ℕ) (row : List ℕ) → InOrder p → row ≡ row_of p c →
    get_or row (p.frame - 1) 0 ≡ slot_of p (cell_at p.frame (c + 1) 0 - 1)
unfolding cell_at
rows_back p c row o e =
    let some = o.counts.some_slice in
    let last : get_or row (p.frame - 1) 0 ≡ slot_of p (cell_at p.frame c (p.frame - 1)) = rw e (row_at p c (p.frame - 1) o (omega arith))
    in
    last ∙ ap (slot_of p) (omega (arith, card_next p.frame c))

-- ---- the bytes, card by card. at is the byte that is written next

pub bytes_start : (frame : ℕ) → 0 ≡ cell_at frame 0 0
unfolding cell_at
bytes_start frame = omega arith

bytes_at : (frame c at s : ℕ) → at ≡ cell_at frame c 0 → at + s ≡ cell_at frame c s
unfolding cell_at
bytes_at frame c at s e = omega (arith, e)

pub bytes_next : (frame c at : ℕ) → at ≡ cell_at frame c 0 → at + frame ≡ cell_at frame (c + 1) 0
bytes_next frame c at e = bytes_at frame c at frame e ∙ card_next frame c

-- there is room for the card
pub bytes_room : (p : Plan) (c at n : ℕ) → at ≡ cell_at p.frame c 0 → c < p.cards → table_length p ≤ n → at + p.frame ≤ n
unfolding cell_at table_length
bytes_room p c at n e a q = omega (arith, card_cells p.frame c p.cards a)

-- which is no more than all cells
pub bytes_most : (p : Plan) (c at : ℕ) (rows : List (List ℕ)) → InOrder p → rows ≡ take p.cards (rows_of p p.cards) → c < length rows →
    at ≡ cell_at p.frame c 0 → at + p.frame < 513
bytes_most p c at rows o e l q =
    let low : c < p.cards = omega (arith, ap (λ (m : List (List ℕ)). length m) e, front_most p.cards (rows_of p p.cards)) in
    omega (arith, row_most p c o low, row_start p.frame c)

pub bytes_fit : (p : Plan) (c at : ℕ) (rows : List (List ℕ)) (entry out : List ℕ) → rows ≡ take p.cards (rows_of p p.cards) →
    c < length rows → at ≡ cell_at p.frame c 0 → table_length p ≤ length entry → out ≡ written at (slot_of p) entry →
    at + p.frame ≤ length out
bytes_fit p c at rows entry out e l q room f =
    let low : c < p.cards = omega (arith, ap (λ (m : List (List ℕ)). length m) e, front_most p.cards (rows_of p p.cards)) in
    omega (arith, bytes_room p c at (length entry) q low room, ap (λ (m : List ℕ). length m) f, written_length at (slot_of p) entry)

-- a card's row, copied. rows are those of all cards
pub bytes_again : (p : Plan) (c at k : ℕ) (rows : List (List ℕ)) (d entry out part : List ℕ) → InOrder p →
    rows ≡ take p.cards (rows_of p p.cards) → c < length rows → at ≡ cell_at p.frame c 0 → table_length p ≤ length entry →
    out ≡ written at (slot_of p) entry → k ≡ p.frame → part ≡ take p.frame (get_or rows c d) →
    put_mid at k out part ≡ written (at + p.frame) (slot_of p) entry
unfolding rows_of
bytes_again p c at k rows d entry out part o e l q room f g h =
    part_written at p.frame k (slot_of p) 0 entry out part f (bytes_room p c at (length entry) q low room) g long here
  where
    low : c < p.cards
    low = omega (arith, ap (λ (m : List (List ℕ)). length m) e, front_most p.cards (rows_of p p.cards))

    row : get_or rows c d ≡ row_of p c
    row =
        ap (λ (m : List (List ℕ)). get_or m c d) e ∙ get_or-take p.cards (rows_of p p.cards) c d low
        ∙ written_at p.cards (row_of p) (replicate 8 (replicate 64 0)) d c low (omega (arith, o.counts.cards_most))

    long : length part ≡ p.frame
    long =
        ap length h ∙ length-take-le p.frame (get_or rows c d)
        (omega (arith, ap (λ (m : List ℕ). length m) row, row_long p c, o.counts.frame_most))

    here : (i : ℕ) → i < p.frame → get_or part i 0 ≡ slot_of p (at + i)
    here i m =
        ap (λ (x : List ℕ). get_or x i 0) h ∙ get_or-take p.frame (get_or rows c d) i 0 m ∙ ap (λ (x : List ℕ). get_or x i 0) row
        ∙ row_at p c i o m ∙ ap (slot_of p) (sym (bytes_at p.frame c at i q))

pub bytes_done : (p : Plan) (c at : ℕ) (rows : List (List ℕ)) (entry exit : List ℕ) → InOrder p →
    rows ≡ take p.cards (rows_of p p.cards) → at ≡ cell_at p.frame c 0 → c ≤ length rows → length rows ≤ c →
    exit ≡ written at (slot_of p) entry → exit ≡ table_over p entry
unfolding cell_at table_length table_over rows_of
bytes_done p c at rows entry exit o r e a b q =
    let many = written_length p.cards (row_of p) (replicate 8 (replicate 64 0)) in
    let rest = ap (λ (m : List (List ℕ)). length m) r ∙ length-take p.cards (rows_of p p.cards) in
    let h : c ≡ p.cards = omega (arith, rest, many, o.counts.cards_most) in
    let z : at ≡ p.cards * p.frame = e ∙ rw h (omega arith) in
    q ∙ ap (λ (n : ℕ). written n (slot_of p) entry) z
