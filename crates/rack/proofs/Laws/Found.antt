-- Laws of what a check finds: the steps of the pass over the kinds that finds it, its exits, and the seats that are found from it.
-- Assumes nothing.
use Rattle.std.specs.Prelude.{◌≡◌, refl, Result, Ok, Err, Bool, true, false, not, List, ℕ, ◌+◌, ◌≤◌, ◌<◌, get_or, set, replicate}
use Rattle.std.proofs.Common.{sym, ap, subst, ◌∙◌, arith, eq-eqb, ne_eqb}
use Rattle.std.proofs.lemmas.List.{get_or-replicate}
use Rattle.laws.specs.All.{all_to}
use Rattle.laws.specs.All.Properties.{all_none, all_more}
use Rattle.laws.specs.Written.{written}
use Rattle.laws.specs.Written.Properties.{written_none, written_again, written_same, written_stop, stored_at}
use Rattle.answer.specs.declared.Answer.{Answer}
use Rattle.answer.specs.declared.Answer.TheVariants.{Good, No}
use Rattle.answer.specs.declared.Refusal.{Refusal}
use Rattle.answer.specs.Answer.{bare, refuse, ◌and_then◌}
use Rattle.plan.specs.Order.{InOrder, checked}
use Rattle.plan.specs.Order.Properties.{in_order_good}
use Rattle.unit.specs.Form.{fits_place}
use Rattle.seats.specs.Seats.{at, seats_by}
use Rattle.rack.specs.declared.State.{State}
use Rattle.rack.specs.declared.form.Found.{Found}
use Rattle.rack.specs.State.{unit_of, kind_at, kind_places, used, project_places}
use Rattle.rack.specs.Sums.{left_below}
use Rattle.rack.specs.Sums.Properties.{below_none, below_again}
use Rattle.rack.specs.Form.{Ready, place_in_form, sums_fit, sums_agree, in_form, sums_told, ready}
use Rattle.rack.specs.Form.Properties.{place_found, look_project, look_room, below_same, check_order}
use Rattle.rack.specs.Form.Properties.{formed_past, formed_place, formed_sums, formed_differ, formed_good}
use Rattle.rack.specs.Rank.{until}
use Rattle.rack.proofs.Laws.Rank.{working_left}
use Rattle.rack.specs.Seat.{works_of, lowest_at, end_at, seats_of}
use Rattle.rack.proofs.Laws.Seat.{works_nothing, works_something, seats_are}
use Rattle.rack.specs.Found.{due_of, works_below, due_below, AtWork, Finds, answered}

-- ---- what is put down of a kind

due_nothing : (s : State) (i : ℕ) → (unit_of s i).left ≡ 0 → due_of s i ≡ 0
unfolding due_of
due_nothing s i e = rw (eq-eqb (unit_of s i).left 0 e)

due_something : (s : State) (i : ℕ) → ((unit_of s i).left ≡ 0 → ⊥) → due_of s i ≡ until s i
unfolding due_of
due_something s i h = rw (ne_eqb (unit_of s i).left 0 h)

-- ---- the pass over the kinds of a plan in order: the places below i are looked through

pub record Looked (s : State) (i : ℕ) (works due left : List ℕ) : Type 0 where
  pub order : InOrder s.plan
  pub slice_below : s.slice < s.plan.frame
  pub places : true ≡ all_to i (place_in_form s)
  pub works_for : works ≡ works_below s i
  pub due_in : due ≡ due_below s i
  pub left_so_far : left ≡ left_below s i

-- k is what the check of the plan answered
pub looked_none : (s : State) (k : Answer) → k ≡ Good → k ≡ checked s.plan → s.slice < s.plan.frame →
    Looked s 0 (replicate 16 0) (replicate 16 0) (replicate 8 0)
looked_none s k good is l = record {
  order = check_order s k good is;
  slice_below = l;
  places = all_none (place_in_form s);
  works_for = written_none (works_of s) (replicate 16 0);
  due_in = written_none (due_of s) (replicate 16 0);
  left_so_far = below_none s;
}

module _ (s : State) (i : ℕ) (works due left : List ℕ) (looked : Looked s i works due left) (m : i < 16) where
  pub looked_project : (kind_at s i).project < 8
  looked_project = look_project s i looked.order m

  module _ (here : place_in_form s i ≡ true) where
    places_more : true ≡ all_to (i + 1) (place_in_form s)
    places_more = all_more i (place_in_form s) looked.places here

    -- of a kind with nothing left nothing is put down
    pub looked_same : (unit_of s i).left ≡ 0 → Looked s (i + 1) works due left
    looked_same e = record {
      order = looked.order;
      slice_below = looked.slice_below;
      places = places_more;
      works_for =
          written_same i (works_of s) (replicate 16 0) works 0 looked.works_for
          (works_nothing (unit_of s i) (kind_at s i) e ∙ sym (get_or-replicate 16 i 0 0 m));
      due_in = written_same i (due_of s) (replicate 16 0) due 0 looked.due_in (due_nothing s i e ∙ sym (get_or-replicate 16 i 0 0 m));
      left_so_far = below_same s i left looked.left_so_far e;
    }

    pub looked_room : (c : ℕ) → c ≡ (kind_at s i).project → get_or left c 0 + (unit_of s i).left < 65536
    looked_room c ec = look_room s i looked.order m left c ec looked.left_so_far looked.places here

    pub looked_more : ((unit_of s i).left ≡ 0 → ⊥) → (d c : ℕ) → d ≡ until s i → c ≡ (kind_at s i).project →
        Looked s (i + 1) (set works i ((kind_at s i).project + 1)) (set due i d) (set left c (get_or left c 0 + (unit_of s i).left))
    looked_more some d c ed ec = record {
      order = looked.order;
      slice_below = looked.slice_below;
      places = places_more;
      works_for =
          written_again i (works_of s) (replicate 16 0) works _ looked.works_for (sym (works_something (unit_of s i) (kind_at s i) some));
      due_in = written_again i (due_of s) (replicate 16 0) due d looked.due_in (ed ∙ sym (due_something s i some));
      left_so_far = below_again s i left looked.left_so_far c (unit_of s i).left ec refl (omega (arith, looked_project));
    }

-- ---- the exits

-- 10 and 16 come after the record order
ready_rest : (s : State) → InOrder s.plan → (a : Answer) → a ≡ (refuse (not (in_form s)) (bare 10) and_then sums_told s) → ready s ≡ a
unfolding ready
ready_rest s o a e = rw (in_order_good s.plan o) (sym e)

module _ (s : State) where
  -- the plan is not in order
  pub found_order : (a : Answer) (why : Refusal) → a ≡ No why → a ≡ checked s.plan → ready s ≡ No why
  unfolding ready
  found_order a why n is = rw (sym is ∙ n)

  -- the frame has no such slice: k is what the check of the plan answered
  pub found_past : (k : Answer) → k ≡ Good → k ≡ checked s.plan → (w : Refusal) → No w ≡ bare 10 → s.plan.frame ≤ s.slice → ready s ≡ No w
  found_past k good is w b l = ready_rest s (check_order s k good is) (No w) (formed_past s (No w) b l)

  module _ (i : ℕ) (works due left : List ℕ) (looked : Looked s i works due left) where
    -- a place is not in form
    pub found_place : (u b : Bool) → u ≡ used s i → b ≡ fits_place u (kind_at s i) (unit_of s i) → not b ≡ true → i < 16 →
        (w : Refusal) → No w ≡ bare 10 → ready s ≡ No w
    found_place u b eu eb t m w e = ready_rest s looked.order (No w) (formed_place s (No w) i b e m (place_found s i u b eu eb) t)

    module _ (p : i ≤ 16) (q : 16 ≤ i) (b : Bool) (fits : b ≡ sums_fit s.sum (project_places s)) where
      -- a sum beyond p is not zero
      pub found_sums : not b ≡ true → (w : Refusal) → No w ≡ bare 10 → ready s ≡ No w
      found_sums t w e =
          let o = looked.order in
          ready_rest s o (No w) (formed_sums s i left o looked.slice_below looked.places p q looked.left_so_far (No w) b fits t e)

      module _ (t : not b ≡ false) (d : Bool) (agree : d ≡ sums_agree s.sum left (project_places s)) where
        -- a sum is not what was found
        pub found_differ : not d ≡ true → (w : Refusal) → No w ≡ bare 16 → ready s ≡ No w
        found_differ f w e =
            let o = looked.order in
            ready_rest s o (No w)
            (formed_differ s i left o looked.slice_below looked.places p q looked.left_so_far (No w) b fits t d agree f e)

        pub found_good : not d ≡ false → (ready s ≡ Good) × AtWork s works due
        found_good f =
            let o = looked.order in
            let form = formed_good s i left o looked.slice_below looked.places p q looked.left_so_far Good b fits t d agree f refl in (
              ready_rest s o Good form,
              record {
                works_for = written_stop i 16 (works_of s) (replicate 16 0) works looked.works_for p q;
                due_in = written_stop i 16 (due_of s) (replicate 16 0) due looked.due_in p q;
              },
            )

-- ---- what a check found, opened; a is its answer

pub found_no : (s : State) (found : Result Found Refusal) (w : Refusal) → Finds s found → found ≡ Err w → ready s ≡ No w
found_no s found w f e = subst (Finds s) e f

pub found_ok : (s : State) (found : Result Found Refusal) (r : Found) → Finds s found → found ≡ Ok r
    → (ready s ≡ Good) × AtWork s r.works r.until
found_ok s found r f e = subst (Finds s) e f

pub answered_no : (found : Result Found Refusal) (a : Answer) (w : Refusal) → found ≡ Err w → a ≡ answered found → a ≡ No w
answered_no found a w e is = is ∙ ap answered e

pub answered_ready : (s : State) (found : Result Found Refusal) (a : Answer) (w : Refusal) → found ≡ Err w → a ≡ answered found
    → ready s ≡ No w → a ≡ ready s
answered_ready s found a w e is r = answered_no found a w e is ∙ sym r

-- ---- what was put down, place by place, and the seats that are found from it

module _ (s : State) (works due : List ℕ) (laid : AtWork s works due) (i : ℕ) (l : i < 16) where
  works_at : at works i ≡ works_of s i
  works_at = ap (λ (m : List ℕ). at m i) laid.works_for ∙ stored_at 16 16 (works_of s) i l (omega arith)

  due_at : ((unit_of s i).left ≡ 0 → ⊥) → at due i ≡ until s i
  due_at h = ap (λ (m : List ℕ). at m i) laid.due_in ∙ stored_at 16 16 (due_of s) i l (omega arith) ∙ due_something s i h

pub seats_by_law : (s : State) → Ready s → (works due low end seats : List ℕ) (n : ℕ) → AtWork s works due → n ≡ kind_places s →
    low ≡ written (project_places s) (lowest_at s.plan s.slice) (replicate 8 0) →
    end ≡ written (project_places s) (end_at s.plan s.slice) (replicate 8 0) →
    seats ≡ seats_by works due low end n → seats ≡ seats_of s
seats_by_law s r works due low end seats n laid en el ee es =
    let most = r.order.counts.kinds_most in
    seats_are s r works due low end seats n en (λ k l. works_at s works due laid k (omega arith))
    (λ k l w. due_at s works due laid k (omega arith) (λ e. omega (arith, working_left s k w))) el ee es
