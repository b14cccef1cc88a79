-- The number that each exported function gives back, read again by the header's five macros; and the numbers that each function lists.
-- Assumes nothing.
use Rattle.std.specs.Prelude.{◌≡◌, refl, true, not, List, ◌∷◌, ℕ, ◌<◌, ltb, length}
use Rattle.std.proofs.Common.{arith}
use Rattle.answer.specs.declared.Answer.{Answer}
use Rattle.answer.specs.declared.Answer.TheVariants.{Good, No}
use Rattle.answer.specs.Answer.{if_good}
use Rattle.answer.specs.Answer.Properties.{and_then_left, and_then_right}
use Rattle.answer.specs.Word.{told, Decodes}
use Rattle.answer.specs.Word.Properties.{told_decodes}
use Rattle.answer.specs.Numbers.{among, covers, small, Numbered}
use Rattle.answer.specs.Numbers.Properties.{bare_numbered, refuse_numbered, and_then_numbered, wider, numbered_holds}
use Rattle.plan_bytes.specs.Parts.{size}
use Rattle.plan_bytes.specs.Reading.{read_of}
use Rattle.plan_bytes.specs.Writing.{write_answer}
use Rattle.layout.specs.Table.{table_answer, table_length}
use Rattle.verdict.specs.Figures.{figures_of}
use Rattle.smallest_budget.specs.Smallest.{smallest_of}
use Rattle.rescue.specs.Rescue.{list_size, rescue_answer, rescue_of}
use Rattle.rescue.specs.Roomy.{list_most, good_counts}
use Rattle.images.specs.Image.{plan_size, state_size, plan_from, state_from, released_told}
use Rattle.images.specs.Lent.{room}
use Rattle.images.specs.FiguresImage.{figures_size}
use Rattle.demands.specs.Numbers.{record_order, bytes_order, write_order, verdict_order, smallest_order, state_order, release_order}
use Rattle.demands.specs.Numbers.{rescue_order, show_order, advance_order, rescue_numbers}
use Rattle.demands.specs.Numbers.{check_numbers, read_numbers, write_numbers, slot_table_numbers, judge_numbers, smallest_numbers}
use Rattle.demands.specs.Numbers.{build_order, build_numbers, start_numbers, release_numbers, show_numbers, advance_numbers}
use Rattle.demands.specs.Numbers.{figures_order, figures_numbers}
use Rattle.images.specs.Outcome.{Outcome}
use Rattle.plan_calls.specs.Exports.{check_answer, reads_answer, writes_answer, slots_answer, Reads, WritesBytes, WritesSlots}
use Rattle.new_plan_calls.specs.Exports.{builds_answer, rescues_answer, RescuesPlan, Builds}
use Rattle.verdict_calls.specs.Exports.{verdict_answer, budget_answer, Judges, budget_told, kind_figures_answer, WritesFigures}
use Rattle.rack_calls.specs.Exports.{fresh_answer, state_answer, releases_answer, shows_answer, advances_answer}
use Rattle.rack_calls.specs.Exports.{Starts, Releases, ShowsRow, Advances}
use Rattle.plan_calls.specs.Exports.Properties.{read_count, good_size, good_table}
use Rattle.verdict_calls.specs.Exports.Properties.{budget_most, figures_most}

-- ---- the numbers that each function lists

room-numbers : (listed : List ℕ) → among listed 9 ≡ true → (s : List ℕ) (n : ℕ) → Numbered listed (room s n)
room-numbers listed m s n = refuse_numbered listed (ltb (length s) n) _ (bare_numbered listed 9 (λ z. omega arith) m)

-- `parchbeetle_check`
pub check_listed : (plan : List ℕ) → Numbered (9 ∷ record_order) (check_answer plan)
unfolding check_answer among covers
check_listed plan =
    and_then_numbered _ _ _ (room-numbers _ refl plan plan_size) (λ e. wider _ record_order _ refl (check_numbers (plan_from plan)))

-- `parchbeetle_read`
pub read_listed : (bytes plan : List ℕ) → Numbered (9 ∷ bytes_order) (reads_answer bytes plan)
unfolding reads_answer among covers
read_listed bytes plan = and_then_numbered _ _ _ (wider _ bytes_order _ refl (read_numbers bytes)) (λ e. room-numbers _ refl plan plan_size)

-- `parchbeetle_write`
pub write_listed : (plan out : List ℕ) → Numbered write_order (writes_answer plan out)
unfolding writes_answer among
write_listed plan out = and_then_numbered _ _ _ (room-numbers _ refl plan plan_size) (λ e. write_numbers (plan_from plan) out)

-- `parchbeetle_slot_table`
pub slot_table_listed : (plan out : List ℕ) → Numbered write_order (slots_answer plan out)
unfolding slots_answer among
slot_table_listed plan out =
    and_then_numbered _ _ _ (room-numbers _ refl plan plan_size) (λ e. slot_table_numbers (plan_from plan) (length out))

-- `parchbeetle_verdict`
pub verdict_listed : (plan k : List ℕ) → Numbered (9 ∷ verdict_order) (verdict_answer plan k)
unfolding verdict_answer among covers
verdict_listed plan k =
    and_then_numbered _ _ _ (room-numbers _ refl plan plan_size)
    (λ e. and_then_numbered _ _ _ (wider _ verdict_order _ refl (judge_numbers (plan_from plan))) (λ f. room-numbers _ refl k 32))

-- `parchbeetle_figures`
pub figures_listed : (plan : List ℕ) (kind : ℕ) (out : List ℕ) → Numbered (9 ∷ figures_order) (kind_figures_answer plan kind out)
unfolding kind_figures_answer among covers
figures_listed plan kind out =
    and_then_numbered _ _ _ (room-numbers _ refl plan plan_size)
    (λ e.
    and_then_numbered _ _ _ (wider _ figures_order _ refl (figures_numbers (plan_from plan) kind))
    (λ f. room-numbers _ refl out figures_size))

-- `parchbeetle_smallest_budget`
pub smallest_listed : (plan : List ℕ) (project : ℕ) → Numbered (9 ∷ smallest_order) (budget_answer plan project)
unfolding budget_answer among covers
smallest_listed plan project =
    and_then_numbered _ _ _ (room-numbers _ refl plan plan_size)
    (λ e. wider _ smallest_order _ refl (smallest_numbers (plan_from plan) project))

-- `parchbeetle_build`
pub build_listed : (cards : ℕ) (list plan : List ℕ) → Numbered (9 ∷ build_order) (builds_answer cards list plan)
unfolding builds_answer among covers
build_listed cards list plan =
    and_then_numbered _ _ _ (wider _ build_order _ refl (build_numbers cards list)) (λ e. room-numbers _ refl plan plan_size)

-- `parchbeetle_rescue`
pub rescue_listed : (bytes plan list : List ℕ) → Numbered rescue_order (rescues_answer bytes plan list)
unfolding rescues_answer rescue_of among
rescue_listed bytes plan list = and_then_numbered _ _ _ (rescue_numbers bytes list) (λ e. room-numbers _ refl plan plan_size)

-- `parchbeetle_fresh`
pub fresh_listed : (plan state : List ℕ) → Numbered (9 ∷ verdict_order) (fresh_answer plan state)
unfolding fresh_answer among covers
fresh_listed plan state =
    and_then_numbered _ _ _ (room-numbers _ refl plan plan_size)
    (λ e. and_then_numbered _ _ _ (wider _ verdict_order _ refl (start_numbers (plan_from plan)))
    (λ f. room-numbers _ refl state state_size))

state_listed : (state : List ℕ) → Numbered (9 ∷ state_order) (state_answer state)
unfolding state_answer among covers
state_listed state =
    and_then_numbered _ _ _ (room-numbers _ refl state state_size)
    (λ e. and_then_numbered _ _ _ (wider _ record_order _ refl (check_numbers (plan_from state)))
    (λ f. refuse_numbered _ (not (released_told state)) _ (bare_numbered _ 10 (λ z. omega arith) refl)))

-- `parchbeetle_release`
pub release_listed : (state : List ℕ) (kind e : ℕ) → Numbered (9 ∷ release_order) (releases_answer state kind e)
unfolding releases_answer covers among
release_listed state kind e =
    and_then_numbered _ _ _ (wider _ (9 ∷ state_order) _ refl (state_listed state))
    (λ g. wider _ release_order _ refl (release_numbers (state_from state) kind e))

-- `parchbeetle_show`
pub show_listed : (state row : List ℕ) → Numbered show_order (shows_answer state row)
unfolding shows_answer covers among
show_listed state row =
    and_then_numbered _ _ _ (wider _ (9 ∷ state_order) _ refl (state_listed state)) (λ g. show_numbers (state_from state) (length row))

-- `parchbeetle_advance`
pub advance_listed : (state : List ℕ) → Numbered (9 ∷ advance_order) (advances_answer state)
unfolding advances_answer covers among
advance_listed state =
    and_then_numbered _ _ _ (wider _ (9 ∷ state_order) _ refl (state_listed state))
    (λ g. wider _ advance_order _ refl (advance_numbers (state_from state)))

-- ---- and what the five macros read

counted : (a : Answer) (n : ℕ) → (a ≡ Good → n < 65536) → if_good a n 0 < 65536
counted Good n h = h refl
counted (No w) n h = omega arith

-- a call that counts nothing
pub uncounted : (a : Answer) → if_good {A = ℕ} a 0 0 ≡ 0
uncounted Good = refl
uncounted (No w) = refl

read_again : (listed : List ℕ) (a : Answer) (n : ℕ) (new old : List ℕ) (r : ℕ) (after : List ℕ) →
    small listed ≡ true → Numbered listed a → (a ≡ Good → n < 65536) → Outcome a n new old r after → Decodes a (if_good a n 0) r
read_again listed a n new old r after s k l o =
    rw o.result (told_decodes a (if_good a n 0) (numbered_holds listed a s k) (counted a n l))

-- a function that counts nothing
read_again_bare : (listed : List ℕ) (a : Answer) (r : ℕ) → small listed ≡ true → Numbered listed a → r ≡ told a 0 → Decodes a 0 r
read_again_bare listed a r s k e = rw e (told_decodes a 0 (numbered_holds listed a s k) (omega arith))

read_again_none : (listed : List ℕ) (a : Answer) (new old : List ℕ) (r : ℕ) (after : List ℕ) →
    small listed ≡ true → Numbered listed a → Outcome a 0 new old r after → Decodes a 0 r
read_again_none listed a new old r after s k o = rw (uncounted a) at (read_again listed a 0 new old r after s k (λ e. omega arith) o)

-- `parchbeetle_check`
pub check_decodes : (plan : List ℕ) (r : ℕ) → r ≡ told (check_answer plan) 0 → Decodes (check_answer plan) 0 r
unfolding small
check_decodes plan r = read_again_bare (9 ∷ record_order) _ r refl (check_listed plan)

-- `parchbeetle_read`: the count is how many bytes the plan took
pub read_decodes : (bytes plan : List ℕ) (r : ℕ) (after : List ℕ) → Reads bytes plan r after →
    Decodes (reads_answer bytes plan) (if_good (reads_answer bytes plan) (read_of bytes).taken 0) r
unfolding small reads_answer
read_decodes bytes plan r after =
    read_again (9 ∷ bytes_order) (reads_answer bytes plan) (read_of bytes).taken _ _ r after refl (read_listed bytes plan)
    (λ e. read_count bytes (read_of bytes) refl (and_then_left (read_of bytes).answer (room plan plan_size) e))

-- `parchbeetle_write`: the count is how many bytes were written
pub write_decodes : (plan out : List ℕ) (r : ℕ) (after : List ℕ) → WritesBytes plan out r after →
    Decodes (writes_answer plan out) (if_good (writes_answer plan out) (size (plan_from plan)) 0) r
unfolding small writes_answer
write_decodes plan out r after =
    read_again write_order (writes_answer plan out) (size (plan_from plan)) _ _ r after refl (write_listed plan out)
    (λ e. good_size (plan_from plan) out Good (and_then_right (room plan plan_size) (write_answer (plan_from plan) out) e))

-- `parchbeetle_slot_table`: the count is how many bytes were written
pub slot_table_decodes : (plan out : List ℕ) (r : ℕ) (after : List ℕ) → WritesSlots plan out r after →
    Decodes (slots_answer plan out) (if_good (slots_answer plan out) (table_length (plan_from plan)) 0) r
unfolding small slots_answer
slot_table_decodes plan out r after =
    read_again write_order (slots_answer plan out) (table_length (plan_from plan)) _ _ r after refl (slot_table_listed plan out)
    (λ e. good_table (plan_from plan) (length out) Good
    (and_then_right (room plan plan_size) (table_answer (plan_from plan) (length out)) e))

-- `parchbeetle_verdict`
pub verdict_decodes : (plan k : List ℕ) (r : ℕ) (after : List ℕ) → Judges plan k r after → Decodes (verdict_answer plan k) 0 r
unfolding small
verdict_decodes plan k r after = read_again_none (9 ∷ verdict_order) _ _ _ r after refl (verdict_listed plan k)

-- `parchbeetle_figures`: the count is how many k there are
pub figures_decodes : (plan : List ℕ) (kind : ℕ) (out : List ℕ) (r : ℕ) (after : List ℕ) → WritesFigures plan kind out r after →
    Decodes (kind_figures_answer plan kind out) (if_good (kind_figures_answer plan kind out) (figures_of (plan_from plan) kind).widths 0) r
unfolding small
figures_decodes plan kind out r after =
    read_again (9 ∷ figures_order) (kind_figures_answer plan kind out) (figures_of (plan_from plan) kind).widths _ _ r after refl
    (figures_listed plan kind out) (figures_most plan kind out)

-- `parchbeetle_smallest_budget`: the count is the least budget
pub smallest_decodes : (plan : List ℕ) (project r : ℕ) → r ≡ budget_told plan project →
    Decodes (budget_answer plan project) (if_good (budget_answer plan project) (smallest_of (plan_from plan) project).budget 0) r
unfolding small
smallest_decodes plan project r e =
    rw e (told_decodes (budget_answer plan project) _ (numbered_holds (9 ∷ smallest_order) _ refl (smallest_listed plan project))
    (counted (budget_answer plan project) _ (λ g. budget_most plan project g)))

-- `parchbeetle_build`
pub build_decodes : (cards : ℕ) (list plan : List ℕ) (r : ℕ) (after : List ℕ) → Builds cards list plan r after →
    Decodes (builds_answer cards list plan) 0 r
unfolding small
build_decodes cards list plan r after = read_again_none (9 ∷ build_order) _ _ _ r after refl (build_listed cards list plan)

-- `parchbeetle_rescue`: the count is how many bytes of the list were written
pub rescue_decodes : (bytes plan list : List ℕ) (r : ℕ) (after later : List ℕ) → RescuesPlan bytes plan list r after later →
    Decodes (rescues_answer bytes plan list) (if_good (rescues_answer bytes plan list) (list_size bytes) 0) r
unfolding small rescues_answer
rescue_decodes bytes plan list r after later o =
    let a = rescues_answer bytes plan list in
    rw o.result (told_decodes a (if_good a (list_size bytes) 0) (numbered_holds rescue_order a refl (rescue_listed bytes plan list))
    (counted a (list_size bytes)
    (λ e. let m = list_most bytes (good_counts bytes list (and_then_left (rescue_answer bytes list) (room plan plan_size) e)) in
    omega arith)))

-- `parchbeetle_fresh`
pub fresh_decodes : (plan state : List ℕ) (r : ℕ) (after : List ℕ) → Starts plan state r after → Decodes (fresh_answer plan state) 0 r
unfolding small
fresh_decodes plan state r after = read_again_none (9 ∷ verdict_order) _ _ _ r after refl (fresh_listed plan state)

-- `parchbeetle_release`
pub release_decodes : (state : List ℕ) (kind e r : ℕ) (after : List ℕ) → Releases state kind e r after →
    Decodes (releases_answer state kind e) 0 r
unfolding small
release_decodes state kind e r after = read_again_none (9 ∷ release_order) _ _ _ r after refl (release_listed state kind e)

-- `parchbeetle_show`
pub show_decodes : (state row : List ℕ) (r : ℕ) (after : List ℕ) → ShowsRow state row r after → Decodes (shows_answer state row) 0 r
unfolding small
show_decodes state row r after = read_again_none show_order _ _ _ r after refl (show_listed state row)

-- `parchbeetle_advance`
pub advance_decodes : (state : List ℕ) (r : ℕ) (after : List ℕ) → Advances state r after → Decodes (advances_answer state) 0 r
unfolding small
advance_decodes state r after = read_again_none (9 ∷ advance_order) _ _ _ r after refl (advance_listed state)
