-- What a host sees of a chain is what the run shows.
-- Assumes nothing.
use Rattle.std.specs.Prelude.{◌≡◌, refl, Bool, true, false, cond, List, [], ◌∷◌, ℕ, zero, suc, ◌+◌, eqb, length, get_or, take, drop}
use Rattle.std.proofs.Common.{sym, ap, ap₂, ◌∙◌, arith, ne_eqb}
use Rattle.answer.specs.declared.Answer.{Answer}
use Rattle.answer.specs.declared.Answer.TheVariants.{Good, No}
use Rattle.answer.specs.Answer.{number}
use Rattle.answer.specs.Word.{told, number_in}
use Rattle.answer.specs.Word.Properties.{told_decodes}
use Rattle.answer.specs.Numbers.{Numbered, small}
use Rattle.answer.specs.Numbers.Properties.{numbered_holds}
use Rattle.rack.specs.declared.State.{State}
use Rattle.rack.specs.Row.{row_of}
use Rattle.rack.specs.Show.{buffer_shown}
use Rattle.rack.proofs.Laws.Show.{show_of, show_first}
use Rattle.rack.specs.Advance.{advanced, advance_answer, advance_of}
use Rattle.rack.proofs.Laws.Advance.{advance_says}
use Rattle.rack.specs.Release.{release_answer, released, release_of}
use Rattle.demands.specs.Run.{Call, show, advance, release, Accepted, no_slice, accepted_in, slices_of}
use Rattle.demands.specs.Named.{bytes_in, bytes_naming}
use Rattle.demands.specs.Since.{Since, ago, later, since_call, since_from}
use Rattle.demands.specs.Shown.{Event, started, ran, shown_by, shown}
use Rattle.demands.specs.Numbers.{release_order, show_order, advance_order, release_numbers, advance_numbers}
use Rattle.hosts.specs.Chain.{lent, all_seen}
use Rattle.hosts.specs.Events.{accepted, events_seen, rows_in, bytes_over, since_seen}

-- ---- the number in the word

-- the word of an answer has its number
pub number_told : (listed : List ℕ) (a : Answer) → small listed ≡ true → Numbered listed a → number_in (told a 0) ≡ number a
number_told listed a s n = (told_decodes a 0 (numbered_holds listed a s n) (omega arith)).its_number

-- a word is accepted where the answer is good, and nowhere else
pub accepted_good : (listed : List ℕ) (a : Answer) → small listed ≡ true → Numbered listed a → number_in (told a 0) ≡ 0 → a ≡ Good
accepted_good listed a s n e = n.good.0 (sym (number_told listed a s n) ∙ e)

pub good_accepted : accepted (told Good 0) ≡ true
unfolding told
good_accepted = refl

pub no_refused : (listed : List ℕ) (a : Answer) → small listed ≡ true → Numbered listed a → (a ≡ Good → ⊥) → accepted (told a 0) ≡ false
no_refused listed a s n h = ne_eqb (number_in (told a 0)) 0 (λ e. h (accepted_good listed a s n e))

sorry : (r : _) → No r ≡ Good → ⊥
sorry r e = let z : ◌≡◌ {A = ℕ} 0 1 = cc in omega arith

pub small_show : small show_order ≡ true
unfolding small
small_show = refl

pub small_advance : small advance_order ≡ true
unfolding small
small_advance = refl

pub small_release : small release_order ≡ true
unfolding small
small_release = refl

-- ---- the events

-- eight bytes are enough: showing in them leaves the row
pub lent_shows : (s : State) → advance_answer s ≡ Good → take s.plan.cards (buffer_shown s lent) ≡ row_of s
lent_shows s g =
    let may = advance_says s g in
    show_first s lent (show_of s 8 (record { ready = may; enough = may.order.counts.cards_most }))

pub events_shown : (cards : ℕ) (calls : List Call) (s : State) → s.plan.cards ≡ cards
    → events_seen cards calls (all_seen s calls) ≡ shown s calls
unfolding events_seen all_seen shown shown_by advance_of release_of advanced released
events_shown cards [] s p = refl
events_shown cards (show row ∷ calls) s p = events_shown cards calls s p
events_shown cards (advance ∷ calls) s p =
    go (advance_answer s) refl (events_shown cards calls (advanced s) p) (events_shown cards calls s p)
  where
    go : (a : Answer) → advance_answer s ≡ a → events_seen cards calls (all_seen (advanced s) calls) ≡ shown (advanced s) calls
        → events_seen cards calls (all_seen s calls) ≡ shown s calls
        → events_seen cards (advance ∷ calls) (all_seen s (advance ∷ calls)) ≡ shown s (advance ∷ calls)
    go Good e x y =
        let row : take cards (buffer_shown s lent) ≡ row_of s = ap (λ (m : ℕ). take m (buffer_shown s lent)) (sym p) ∙ lent_shows s e in
        rw (e, good_accepted) (ap₂ (λ (r : List ℕ) (l : List Event). ran r ∷ l) row x)
    go (No r) e x y = rw (e, no_refused advance_order (No r) small_advance (rw e at (advance_numbers s)) (sorry r)) y
events_shown cards (release i e ∷ calls) s p =
    go (release_answer s i e) refl (events_shown cards calls (released s i e) p) (events_shown cards calls s p)
  where
    go : (a : Answer) → release_answer s i e ≡ a → events_seen cards calls (all_seen (released s i e) calls) ≡ shown (released s i e) calls
        → events_seen cards calls (all_seen s calls) ≡ shown s calls
        → events_seen cards (release i e ∷ calls) (all_seen s (release i e ∷ calls)) ≡ shown s (release i e ∷ calls)
    go Good h x y = rw (h, good_accepted) (ap (λ (l : List Event). started i e ∷ l) x)
    go (No r) h x y =
        rw (h, no_refused release_order (No r) small_release (rw h at (release_numbers s i e)) (sorry r)) y

-- ---- the rows

-- the rows of accepted advances
unfoldable pub rows_of : List Accepted → List (List ℕ)
rows_of [] = []
rows_of (w ∷ ws) = w.row ∷ rows_of ws

pub rows_shown : (calls : List Call) (s : State) → rows_in (shown s calls) ≡ rows_of (slices_of s calls)
unfolding rows_in shown shown_by rows_of slices_of accepted_in advance_of release_of
rows_shown [] s = refl
rows_shown (show row ∷ calls) s = rows_shown calls s
rows_shown (advance ∷ calls) s = go (advance_answer s) refl (rows_shown calls (advanced s)) (rows_shown calls s)
  where
    go : (a : Answer) → advance_answer s ≡ a → rows_in (shown (advanced s) calls) ≡ rows_of (slices_of (advanced s) calls)
        → rows_in (shown s calls) ≡ rows_of (slices_of s calls)
        → rows_in (shown s (advance ∷ calls)) ≡ rows_of (slices_of s (advance ∷ calls))
    go Good e x y = rw e (ap (λ (l : List (List ℕ)). row_of s ∷ l) x)
    go (No r) e x y = rw e y
rows_shown (release i e ∷ calls) s = go (release_answer s i e) refl (rows_shown calls (released s i e)) (rows_shown calls s)
  where
    go : (a : Answer) → release_answer s i e ≡ a → rows_in (shown (released s i e) calls) ≡ rows_of (slices_of (released s i e) calls)
        → rows_in (shown s calls) ≡ rows_of (slices_of s calls)
        → rows_in (shown s (release i e ∷ calls)) ≡ rows_of (slices_of s (release i e ∷ calls))
    go Good h x y = rw h x
    go (No r) h x y = rw h y

pub rows_count : (ws : List Accepted) → length (rows_of ws) ≡ length ws
unfolding rows_of
rows_count [] = refl
rows_count (w ∷ ws) = ap suc (rows_count ws)

pub rows_take : (n : ℕ) (ws : List Accepted) → take n (rows_of ws) ≡ rows_of (take n ws)
unfolding rows_of
rows_take zero ws = refl
rows_take (suc n) [] = refl
rows_take (suc n) (w ∷ ws) = ap (λ (l : List (List ℕ)). w.row ∷ l) (rows_take n ws)

pub rows_drop : (n : ℕ) (ws : List Accepted) → drop n (rows_of ws) ≡ rows_of (drop n ws)
unfolding rows_of
rows_drop zero ws = refl
rows_drop (suc n) [] = refl
rows_drop (suc n) (w ∷ ws) = rows_drop n ws

pub rows_at : (x : ℕ) (ws : List Accepted) → get_or (rows_of ws) x [] ≡ (get_or ws x no_slice).row
unfolding rows_of
rows_at x [] = refl
rows_at zero (w ∷ ws) = refl
rows_at (suc x) (w ∷ ws) = rows_at x ws

pub rows_named : (test : ℕ → Bool) (ws : List Accepted) → bytes_over test (rows_of ws) ≡ bytes_naming test ws
unfolding bytes_over rows_of bytes_naming
rows_named test [] = refl
rows_named test (w ∷ ws) = ap (λ (n : ℕ). bytes_in test w.row + n) (rows_named test ws)

-- ---- the slices since

pub since_shown : (i : ℕ) (calls : List Call) (s : State) (since : Since) → since_seen i since (shown s calls) ≡ since_from i s since calls
unfolding since_seen shown shown_by since_from since_call advance_of release_of
since_shown i [] s since = refl
since_shown i (show row ∷ calls) s since = since_shown i calls s since
since_shown i (advance ∷ calls) s since =
    go (advance_answer s) refl (since_shown i calls (advanced s) (later since)) (since_shown i calls s since)
  where
    go : (a : Answer) → advance_answer s ≡ a
        → since_seen i (later since) (shown (advanced s) calls) ≡ since_from i (advanced s) (later since) calls
        → since_seen i since (shown s calls) ≡ since_from i s since calls
        → since_seen i since (shown s (advance ∷ calls)) ≡ since_from i s since (advance ∷ calls)
    go Good e x y = rw e x
    go (No r) e x y = rw e y
since_shown i (release k e ∷ calls) s since =
    let anew = cond (eqb k i) (ago 0) since in
    go (release_answer s k e) refl (since_shown i calls (released s k e) anew) (since_shown i calls s since)
  where
    go : (a : Answer) → release_answer s k e ≡ a
        → since_seen i (cond (eqb k i) (ago 0) since) (shown (released s k e) calls) ≡ since_from i (released s k e)
        (cond (eqb k i) (ago 0) since) calls
        → since_seen i since (shown s calls) ≡ since_from i s since calls
        → since_seen i since (shown s (release k e ∷ calls)) ≡ since_from i s since (release k e ∷ calls)
    go Good h x y = rw h x
    go (No r) h x y = rw h y
