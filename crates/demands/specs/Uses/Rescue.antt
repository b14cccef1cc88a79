-- Rescuing in use: each statement applied to one damaged file that has a change of each of the seven fields, at its tightest. It is plan A
-- with damage: B of project 1 is judged with the new q and makes the sum too large, C of kind 2 is above the new D and not above the old,
-- and kind 1, which is dropped, has its spare bit set.
-- Assumes nothing.
use Rattle.std.specs.Prelude.{◌≡◌, refl, ◌≢◌, true, false, cond, List, [], ◌∷◌, ◌++◌, ℕ, zero, suc, ◌*◌, ◌≤◌, ◌<◌, length, take, drop}
use Rattle.std.specs.Prelude.{replicate}
use Rattle.std.proofs.Common.{sym, ap, ◌∙◌, true≢false, arith}
use Rattle.laws.specs.All.{all_to}
use Rattle.laws.specs.Sum.{sum_to}
use Rattle.laws.specs.Count.{count_to}
use Rattle.laws.specs.Written.{written}
use Rattle.answer.specs.declared.Answer.TheVariants.{Good}
use Rattle.answer.specs.Answer.{number, place, bare, each_to}
use Rattle.answer.specs.Numbers.{among, placed}
use Rattle.answer.specs.Outcome.{Lent}
use Rattle.codec.specs.Pack.{pack, unpack}
use Rattle.codec.specs.Bytes.{number_to, bytes_of}
use Rattle.codec.specs.Places.{parts_to}
use Rattle.plan.specs.declared.Plan.{Plan}
use Rattle.plan.specs.Record.{no_plan, no_project, no_kind}
use Rattle.plan.specs.Example.{plan_a, bytes_a, project, kind}
use Rattle.plan.specs.Order.{project_of, kind_of, within, sized, empty_project, empty_kind, tidy_projects, tidy_kinds, in_range, timed}
use Rattle.plan.specs.Order.{budgets, sizes, unused, projects_in_range, kind_in_range, kinds_in_range, budgets_fit, ranges, checked}
use Rattle.plan_bytes.specs.declared.Reading.{Reading}
use Rattle.plan.specs.Order.Properties.{in_order}
use Rattle.plan_bytes.specs.Parts.{header_fields, project_fields, kind_fields, project_from, kind_from, projects_from, kinds_from, headed}
use Rattle.plan_bytes.specs.Parts.{decoded, size, header_bytes, project_bytes, kind_bytes, encoded}
use Rattle.plan_bytes.specs.Reading.{header_spare, project_spare, kind_spare, projects_spare, kinds_spare, places_spare, spare_zero}
use Rattle.plan_bytes.specs.Reading.{body_answer, read_answer, read_of, counts_answer}
use Rattle.plan_bytes.specs.RoundTrip.Reads.{order_passes}
use Rattle.rescue.specs.declared.Rescued.{Rescued}
use Rattle.rescue.specs.Entry.{Entry, entry, entry_bytes, listed, change, entries_to}
use Rattle.rescue.specs.Mended.{raised, lowered, project_for, kind_for, kept, kept_at, kept_to, project_for_at, kind_for_at, plan_for}
use Rattle.rescue.specs.Rescue.{project_spare_at, kind_spare_at, project_spare_change, spare_entries, kind_spare_change, project_entries}
use Rattle.rescue.specs.Rescue.{project_changes, kind_entries, kind_changes, changes_in, changes, rescued_plan}
use Rattle.rescue.specs.Rescue.{rescue_of, list_over, Rescues}
use Rattle.rescue.specs.Applied.{entries_in, about, applied}
use Rattle.rescue.specs.Turns.{turn_of, Rising, places_of, Says, Every}
use Rattle.demands.specs.Uses.Bytes.{are_bytes}
use Rattle.demands.specs.Outcomes.{rescuing, rescuing_refused}
use Rattle.demands.specs.Numbers.{rescue_numbers}
use Rattle.demands.specs.Rescue.{refused_as_reading, no_kind_when, list_short_when, rescued_when, plan_given, count_given}
use Rattle.demands.specs.Rescue.{list_given, list_found, only_seven, rescued_again, kept_again, list_applied, plan_bytes_only}
use Rattle.demands.specs.Rescue.{passing_unchanged, read_unchanged, in_turn, at_most_57, never_twice, each_says, header_spare_listed}
use Rattle.demands.specs.Rescue.{project_spare_listed, ceiling_listed, budget_listed, kind_spare_listed, deadline_listed}
use Rattle.demands.specs.Rescue.{dropped_listed, empty_applied}

-- ---- the damaged file

-- 2 cards, frame 4, spare 1; projects (0,3), (15,1023) with spare 2; kinds (0,8,12,6) with spare 1, (5,4,4,2) with spare 1, (1,8,9,9)
abbrev damaged : List ℕ
damaged =
    0x22 ∷ 0x18 ∷ 0x41
    ∷ 0x00 ∷ 0x0c ∷ 0xff ∷ 0xfe
    ∷ 0x00 ∷ 0x10 ∷ 0x01 ∷ 0x80 ∷ 0x0d
    ∷ 0xa0 ∷ 0x08 ∷ 0x00 ∷ 0x80 ∷ 0x05
    ∷ 0x20 ∷ 0x10 ∷ 0x01 ∷ 0x20 ∷ 0x12
    ∷ []

-- what is listed of it
abbrev nine : List Entry
nine =
    entry 1 0 1 0 ∷ entry 2 1 2 0 ∷ entry 3 0 1 0 ∷ entry 4 0 0 1 ∷ entry 4 1 15 2 ∷ entry 5 1 1023 8 ∷ entry 6 0 12 8 ∷ entry 7 1 0 0
    ∷ entry 7 2 0 0 ∷ []

-- and as bytes
abbrev bytes_nine : List ℕ
bytes_nine =
    1 ∷ 0 ∷ 0 ∷ 1 ∷ 0 ∷ 0 ∷ 2 ∷ 1 ∷ 0 ∷ 2 ∷ 0 ∷ 0 ∷ 3 ∷ 0 ∷ 0 ∷ 1 ∷ 0 ∷ 0 ∷ 4 ∷ 0 ∷ 0 ∷ 0 ∷ 0 ∷ 1 ∷ 4 ∷ 1 ∷ 0 ∷ 15 ∷ 0 ∷ 2
    ∷ 5 ∷ 1 ∷ 3 ∷ 255 ∷ 0 ∷ 8 ∷ 6 ∷ 0 ∷ 0 ∷ 12 ∷ 0 ∷ 8 ∷ 7 ∷ 1 ∷ 0 ∷ 0 ∷ 0 ∷ 0 ∷ 7 ∷ 2 ∷ 0 ∷ 0 ∷ 0 ∷ 0 ∷ []

-- the plan that is made of it: one kind, and budgets 3 and 8 on eight cells
abbrev mended : Plan
mended = record {
  cards = 2;
  projects = 2;
  kinds = 1;
  frame = 4;
  project = project 1 3 ∷ project 2 8 ∷ replicate 6 no_project;
  kind = kind 0 8 8 6 ∷ replicate 15 no_kind;
}

-- its bytes
abbrev bytes_mended : List ℕ
bytes_mended = 0x22 ∷ 0x08 ∷ 0x40 ∷ 0x10 ∷ 0x0c ∷ 0x20 ∷ 0x20 ∷ 0x00 ∷ 0x10 ∷ 0x01 ∷ 0x00 ∷ 0x0c ∷ []

-- one card, frame 1, project (1,1) and one kind of length 0: nothing remains
abbrev empty : List ℕ
empty = 0x11 ∷ 0x08 ∷ 0x10 ∷ 0x10 ∷ 0x04 ∷ 0x00 ∷ 0x02 ∷ 0x00 ∷ 0x20 ∷ 0x00 ∷ []

-- one card, frame 1, spare 1; eight projects (15,1023) with spare 3; sixteen kinds (0,1,2,1) with spare 1: all that can be listed
abbrev kind_broken : List ℕ
kind_broken = 0x00 ∷ 0x02 ∷ 0x00 ∷ 0x40 ∷ 0x03 ∷ []

abbrev four_broken : List ℕ
four_broken = kind_broken ++ kind_broken ++ kind_broken ++ kind_broken

abbrev worst : List ℕ
worst = (0x18 ∷ 0x80 ∷ 0x11 ∷ []) ++ replicate 16 0xff ++ four_broken ++ four_broken ++ four_broken ++ four_broken

-- ---- what is computed from the definitions

-- what is listed of kind i's spare bit and of its D
abbrev spare_if : ℕ → List Entry
spare_if i = let p = decoded damaged in cond (kept_at p i) (change 3 i (kind_spare_at damaged p.projects i) 0) []

abbrev deadline_if : ℕ → List Entry
deadline_if i = let p = decoded damaged in cond (kept_at p i) (change 6 i (kind_of p i).deadline (kind_for_at p i).deadline) []

record Figures : Type 0 where
  stands : counts_answer damaged ≡ Good
  made : rescued_plan damaged ≡ mended
  listed_nine : changes damaged ≡ nine
  as_bytes : listed nine ≡ bytes_nine
  encoded_made : encoded mended ≡ bytes_mended
  seven : budgets_fit mended ≡ bare 7
  total : size (headed damaged) ≡ 22
  two_three : ((decoded damaged).projects ≡ 2) × ((decoded damaged).kinds ≡ 3)
  kept_one : (kept_at (decoded damaged) 0 ≡ true) × (kept_at (decoded damaged) 1 ≡ false) × (kept_at (decoded damaged) 2 ≡ false)
  empty_stands : counts_answer empty ≡ Good
  empty_kinds : (decoded empty).kinds ≡ 1
  empty_dropped : kept_at (decoded empty) 0 ≡ false
  two_bytes : number (read_of (0x22 ∷ 0x18 ∷ [])).answer ≡ 1
  read_a : read_of bytes_a ≡ record { answer = Good; plan = plan_a; taken = 22 }
  order_a : checked plan_a ≡ Good
  worst_stands : counts_answer worst ≡ Good
  all_of_them : length (changes worst) ≡ 57
  turns : (turn_of 3 0 ≡ 9) × (turn_of 4 0 ≡ 25) × (turn_of 5 1 ≡ 28) × (turn_of 6 0 ≡ 41) × (turn_of 7 2 ≡ 43)
  bare_nine : among placed 9 ≡ false
  -- the changes, field by field
  header_change : change 1 0 (header_spare damaged) 0 ≡ entry 1 0 1 0 ∷ []
  project_change : change 2 1 (project_spare_at damaged 1) 0 ≡ entry 2 1 2 0 ∷ []
  ceiling_change : change 4 1 (project_of (decoded damaged) 1).ceiling (project_for_at (decoded damaged) 1).ceiling ≡ entry 4 1 15 2 ∷ []
  budget_change : change 5 1 (project_of (decoded damaged) 1).budget (project_for_at (decoded damaged) 1).budget ≡ entry 5 1 1023 8 ∷ []
  spare_change : spare_if 0 ≡ entry 3 0 1 0 ∷ []
  spare_none : spare_if 1 ≡ []
  deadline_change : deadline_if 0 ≡ entry 6 0 12 8 ∷ []
  deadline_none : deadline_if 2 ≡ []
  dropped_change : cond (kept_at (decoded damaged) 2) [] (entry 7 2 0 0 ∷ []) ≡ entry 7 2 0 0 ∷ []

figures : Figures
unfolding sum_to count_to all_to written each_to within sized empty_project empty_kind tidy_projects tidy_kinds in_range timed budgets sizes
    unused projects_in_range kind_in_range kinds_in_range budgets_fit ranges checked pack unpack number_to bytes_of parts_to header_fields
    project_fields kind_fields project_from kind_from projects_from kinds_from headed decoded size header_bytes project_bytes kind_bytes
    encoded header_spare project_spare kind_spare projects_spare kinds_spare places_spare spare_zero body_answer read_answer read_of
    counts_answer entry_bytes listed change entries_to raised lowered project_for kind_for kept kept_to plan_for project_spare_at
    kind_spare_at project_spare_change spare_entries kind_spare_change project_entries project_changes kind_entries kind_changes changes_in
    turn_of among
figures = record {
  stands = refl;
  made = refl;
  listed_nine = refl;
  as_bytes = refl;
  encoded_made = refl;
  seven = refl;
  total = refl;
  two_three = (refl, refl);
  kept_one = (refl, refl, refl);
  empty_stands = refl;
  empty_kinds = refl;
  empty_dropped = refl;
  two_bytes = refl;
  read_a = refl;
  order_a = refl;
  worst_stands = refl;
  all_of_them = refl;
  turns = (refl, refl, refl, refl, refl);
  bare_nine = refl;
  header_change = refl;
  project_change = refl;
  ceiling_change = refl;
  budget_change = refl;
  spare_change = refl;
  spare_none = refl;
  deadline_change = refl;
  deadline_none = refl;
  dropped_change = refl;
}

fifty_four : 6 * length (changes damaged) ≡ 54
fifty_four = ap (λ (es : List Entry). 6 * length es) figures.listed_nine

one_kind : (rescued_plan damaged).kinds ≡ 1
one_kind = ap (λ (p : Plan). p.kinds) figures.made

-- ---- refusals

-- two bytes are too few, for reading and for rescuing
pub two_bytes_short : (list : List ℕ) → number (rescue_of (0x22 ∷ 0x18 ∷ []) list).answer ≡ 1
two_bytes_short list = (refused_as_reading (0x22 ∷ 0x18 ∷ []) list 1 (omega arith) (omega arith)).1 figures.two_bytes

-- what reads well is not refused so
pub never_for_a : (list : List ℕ) → number (rescue_of bytes_a list).answer ≢ 2
never_for_a list e =
    let z = (refused_as_reading bytes_a list 2 (omega arith) (omega arith)).0 e in
    omega (arith, ap (λ (r : Reading). number r.answer) figures.read_a)

-- where nothing remains it is 20, though the list would not fit either
pub nothing_remains : number (rescue_of empty []).answer ≡ 20
nothing_remains = (no_kind_when empty []).1 (figures.empty_stands, dropped)
  where
    dropped : (i : ℕ) → i < (decoded empty).kinds → kept_at (decoded empty) i ≡ false
    dropped zero l = figures.empty_dropped
    dropped (suc i) l = absurd (omega (arith, figures.empty_kinds))

-- kind 0 remains, so it is not 20
pub something_remains : (list : List ℕ) → number (rescue_of damaged list).answer ≢ 20
something_remains list e =
    true≢false (sym figures.kept_one.0 ∙ ((no_kind_when damaged list).0 e).1 0 (omega (arith, figures.two_three.1)))

-- 53 bytes are too few for nine entries, and 54 are enough
pub one_byte_short : number (rescue_of damaged (replicate 53 9)).answer ≡ 9
one_byte_short =
    (list_short_when damaged (replicate 53 9)).1
    (figures.stands, omega (arith, one_kind), omega (arith, fifty_four))

pub never_short : (list : List ℕ) → 54 ≤ length list → number (rescue_of damaged list).answer ≢ 9
never_short list l e = omega (arith, ((list_short_when damaged list).0 e).2, fifty_four)

enough : (list : List ℕ) → 54 ≤ length list → (rescue_of damaged list).answer ≡ Good
enough list l = (rescued_when damaged list).1 (figures.stands, omega (arith, one_kind), omega (arith, fifty_four))

pub needs_fifty_four : (list : List ℕ) → (rescue_of damaged list).answer ≡ Good → 54 ≤ length list
needs_fifty_four list e = omega (arith, ((rescued_when damaged list).0 e).2, fifty_four)

-- ---- what is given, with 55 bytes lent

abbrev lent : List ℕ
lent = replicate 55 9

good : (rescue_of damaged lent).answer ≡ Good
good = enough lent (omega arith)

given : (rescue_of damaged lent).plan ≡ mended
given = plan_given damaged lent good ∙ figures.made

pub gives_one_kind : (rescue_of damaged lent).plan.kinds ≡ 1
gives_one_kind = ap (λ (p : Plan). p.kinds) given

pub gives_fifty_four : (rescue_of damaged lent).count ≡ 54
gives_fifty_four = count_given damaged lent good ∙ fifty_four

-- the last byte is kept
pub gives_list : list_over damaged lent ≡ bytes_nine ++ 9 ∷ []
gives_list =
    list_given damaged lent good
    ∙ (λ i. listed (figures.listed_nine i) ++ drop (fifty_four i) lent) ∙ ap (λ (l : List ℕ). l ++ 9 ∷ []) figures.as_bytes

pub found_nine : entries_in (take (rescue_of damaged lent).count (list_over damaged lent)) ≡ nine
found_nine = list_found damaged lent good ∙ figures.listed_nine

-- the sum of its budgets is 11 of 8 cells
pub seven_is_left : checked (rescue_of damaged lent).plan ≡ bare 7
seven_is_left = only_seven damaged lent good ∙ ap budgets_fit given ∙ figures.seven

-- rescuing its bytes changes nothing, 7 all the same, with nothing lent and a byte behind them
pub again_nothing : rescue_of (bytes_mended ++ 0xff ∷ []) [] ≡ record { answer = Good; plan = mended; count = 0 }
again_nothing = rw (given, figures.encoded_made) at (rescued_again damaged lent good (0xff ∷ []) [])

pub again_kept : list_over (bytes_mended ++ 0xff ∷ []) (7 ∷ []) ≡ 7 ∷ []
again_kept = rw (given, figures.encoded_made) at (kept_again damaged lent good (0xff ∷ []) (7 ∷ []))

-- the list applied to the damaged bytes gives the mended plan's
pub nine_applied : applied damaged bytes_nine ≡ bytes_mended
nine_applied =
    rw (figures.total, given, figures.encoded_made, gives_list, gives_fifty_four) at (list_applied damaged lent good)

-- commands behind the plan have no say
pub behind_no_say : (rest : List ℕ) → (rescue_of (damaged ++ rest) lent).count ≡ 54
behind_no_say rest =
    ap (λ (r : Rescued). r.count) (rw figures.total at (plan_bytes_only damaged lent rest (omega (arith, figures.total)))).0
    ∙ gives_fifty_four

-- ---- plan A is in order

pub plan_a_unchanged : (rescue_of (encoded plan_a ++ []) []).count ≡ 0
plan_a_unchanged =
    ap (λ (r : Rescued). r.count)
    (passing_unchanged plan_a (record { eight = refl; sixteen = refl }) (order_passes plan_a (in_order plan_a figures.order_a)) [] []).0

pub bytes_a_unchanged : rescue_of bytes_a [] ≡ record { answer = Good; plan = plan_a; count = 0 }
bytes_a_unchanged =
    (read_unchanged bytes_a [] (are_bytes bytes_a refl) (ap (λ (r : Reading). r.answer) figures.read_a)).0
    ∙ ap (λ (r : Reading). record { answer = Good; plan = r.plan; count = 0 }) figures.read_a

-- ---- the list

-- q and B of project 1 come before D of kind 0, and that before what is dropped
pub projects_first : Rising 0 57 nine
projects_first = rw figures.listed_nine at (in_turn damaged figures.stands)

-- no list is longer than the worst one's
pub worst_list : (bytes : List ℕ) → counts_answer bytes ≡ Good → length (changes bytes) ≤ length (changes worst)
worst_list bytes e = omega (arith, at_most_57 bytes e, figures.all_of_them)

pub once_only : length (about 4 1 nine) ≤ 1
once_only = rw figures.listed_nine at (never_twice damaged figures.stands 4 1)

-- its first entry's field is one of seven, its place is the header's one, and its values differ; a dropped kind's are 0
pub entries_say : (1 ≤ 7) × (0 < places_of (decoded damaged) 1) × (◌≢◌ {A = ℕ} 1 0) × (◌≡◌ {A = ℕ} 0 0)
entries_say =
    let t : Every (Says (decoded damaged)) nine = rw figures.listed_nine at (each_says damaged) in
    (t.0.field_most, t.0.place_most, t.0.differs (λ e. omega arith), (t.1.1.1.1.1.1.1.0.no_values refl).1)

-- field by field
pub spare_of_header : about 1 0 nine ≡ entry 1 0 1 0 ∷ []
spare_of_header = rw figures.listed_nine at (header_spare_listed damaged) ∙ figures.header_change

pub spare_of_project : about 2 1 nine ≡ entry 2 1 2 0 ∷ []
spare_of_project =
    rw figures.listed_nine at (project_spare_listed damaged 1 (omega (arith, figures.two_three.0))) ∙ figures.project_change

pub ceiling_of_second : about 4 1 nine ≡ entry 4 1 15 2 ∷ []
ceiling_of_second =
    rw figures.listed_nine at (ceiling_listed damaged 1 (omega (arith, figures.two_three.0))) ∙ figures.ceiling_change

-- 8 and not 60: judged with the new q
pub budget_of_second : about 5 1 nine ≡ entry 5 1 1023 8 ∷ []
budget_of_second =
    rw figures.listed_nine at (budget_listed damaged 1 (omega (arith, figures.two_three.0))) ∙ figures.budget_change

-- kind 0's spare bit, and not that of kind 1, which is dropped
pub spare_of_first : about 3 0 nine ≡ entry 3 0 1 0 ∷ []
spare_of_first =
    rw figures.listed_nine at (kind_spare_listed damaged 0 (omega (arith, figures.two_three.1))) ∙ figures.spare_change

pub spare_of_dropped : about 3 1 nine ≡ []
spare_of_dropped =
    rw figures.listed_nine at (kind_spare_listed damaged 1 (omega (arith, figures.two_three.1))) ∙ figures.spare_none

pub deadline_of_first : about 6 0 nine ≡ entry 6 0 12 8 ∷ []
deadline_of_first =
    rw figures.listed_nine at (deadline_listed damaged 0 (omega (arith, figures.two_three.1))) ∙ figures.deadline_change

-- kind 2, whose D is lowered below its C, has its 7 and no 6
pub deadline_of_dropped : about 6 2 nine ≡ []
deadline_of_dropped =
    rw figures.listed_nine at (deadline_listed damaged 2 (omega (arith, figures.two_three.1))) ∙ figures.deadline_none

pub last_dropped : about 7 2 nine ≡ entry 7 2 0 0 ∷ []
last_dropped =
    rw figures.listed_nine at (dropped_listed damaged 2 (omega (arith, figures.two_three.1))) ∙ figures.dropped_change

-- with no entry the bytes stay as they are, spare bits and all
pub nothing_applied : applied damaged [] ≡ damaged
nothing_applied = rw figures.total at (empty_applied damaged (are_bytes damaged refl) figures.stands)

-- ---- one outcome, and its numbers

pub one_list : (o : Lent Rescued) → Rescues damaged lent o.result o.buffer →
    (o.result.count ≡ 54) × (o.buffer ≡ bytes_nine ++ 9 ∷ [])
one_list o c = (ap (λ (x : Lent Rescued). x.result.count) same ∙ gives_fifty_four, ap (λ (x : Lent Rescued). x.buffer) same ∙ gives_list)
  where
    said : Lent Rescued
    said = record { result = rescue_of damaged lent; buffer = list_over damaged lent }

    same : o ≡ said
    same = (rescuing damaged lent).only o c ∙ sym ((rescuing damaged lent).only said (record { result = refl; buffer = refl }))

pub rescues_nothing : (r : Rescued) (after : List ℕ) → Rescues damaged (replicate 53 9) r after →
    (r.plan ≡ no_plan) × (r.count ≡ 0) × (after ≡ replicate 53 9)
rescues_nothing r after c = rescuing_refused damaged (replicate 53 9) after r c refused
  where
    refused : number r.answer ≢ 0
    refused z = omega (arith, ap (λ (x : Rescued). number x.answer) c.result, one_byte_short)

pub nine_place : place (rescue_of damaged (replicate 53 9)).answer ≡ 0
nine_place = (rescue_numbers damaged (replicate 53 9)).its_place (ap (among placed) one_byte_short ∙ figures.bare_nine)
