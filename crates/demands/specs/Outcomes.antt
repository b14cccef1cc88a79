-- Demand 1, for every operation of documents 01 and 02: any input is answered, by one outcome, and a refusal changes nothing.
-- No operation has a `requires`, and a proved function ends; so whatever the input, the one outcome is reached.
-- Assumes nothing.
use Rattle.std.specs.Prelude.{◌≡◌, refl, ◌≢◌, List, ℕ, length, replicate}
use Rattle.std.proofs.Common.{sym, ap, ◌∙◌}
use Rattle.plan.specs.declared.Plan.{Plan}
use Rattle.answer.specs.declared.Answer.{Answer}
use Rattle.answer.specs.declared.Answer.TheVariants.{Good, No}
use Rattle.answer.specs.declared.Refusal.{Refusal}
use Rattle.answer.specs.Answer.{number}
use Rattle.answer.specs.Outcome.{One, Lent}
use Rattle.plan.specs.Record.{no_plan}
use Rattle.answer.specs.declared.Written.{Written}
use Rattle.plan_bytes.specs.Reading.{read_answer, read_of}
use Rattle.plan_bytes.specs.Writing.{write_answer, Writes}
use Rattle.plan_reader.specs.OneOutcome.{read_one_outcome}
use Rattle.plan_writer.specs.OneOutcome.{write_one_outcome}
use Rattle.layout.specs.Table.{table_answer, Tabled}
use Rattle.layout.specs.OneOutcome.{slot_table_one_outcome}
use Rattle.verdict.specs.Verdict.{judged}
use Rattle.verdict.specs.OneOutcome.{judge_one_outcome}
use Rattle.verdict.specs.Admission.Properties.{none_refused, no_slice_refused}
use Rattle.verdict.specs.OneOutcome.{kind_figures_one_outcome}
use Rattle.verdict.specs.Figures.{no_figures, figures_answer, figures_of}
use Rattle.smallest_budget.specs.Smallest.{smallest_answer, smallest_of}
use Rattle.smallest_budget.specs.OneOutcome.{smallest_budget_one_outcome}
use Rattle.one_kind.specs.Wanted.{kinds_in, separation_in, length_in}
use Rattle.one_kind.specs.Built.{answer_for, built_of}
use Rattle.one_kind.specs.OneOutcome.{build_one_outcome}
use Rattle.rescue.specs.declared.Rescued.{Rescued}
use Rattle.rescue.specs.Rescue.{rescue_answer, rescue_of, list_over, Rescues}
use Rattle.rescue.specs.OneOutcome.{rescue_one_outcome}
use Rattle.rack.specs.declared.State.{State}
use Rattle.rack.specs.State.{no_state}
use Rattle.rack.specs.Start.{start_of}
use Rattle.rack.specs.Start.Properties.{start_refused}
use Rattle.rack.specs.Release.{release_of}
use Rattle.rack.specs.Release.Properties.{release_refused}
use Rattle.rack.specs.Show.{Shows}
use Rattle.rack.proofs.Laws.Show.{show_refused}
use Rattle.rack.specs.Advance.{advance_of}
use Rattle.rack.proofs.Laws.Advance.{advance_refused}
use Rattle.rack.specs.OneOutcome.{start_one_outcome, release_one_outcome, show_one_outcome, advance_one_outcome}

-- an answer that is not good, by its number
refusal : (a : Answer) → number a ≢ 0 → (w : Refusal) × (a ≡ No w)
refusal Good h = absurd (h refl)
refusal (No w) h = (w, refl)

-- ---- reading a plan

pub reading : (bytes : List ℕ) → One (λ r. r ≡ read_of bytes)
reading = read_one_outcome

-- "A refused read gives an all-zero plan and 0 bytes taken"
pub reading_refused : (bytes : List ℕ) → number (read_of bytes).answer ≢ 0 →
    ((read_of bytes).plan ≡ no_plan) × ((read_of bytes).taken ≡ 0)
unfolding read_of
reading_refused bytes h = let t = refusal (read_answer bytes) h in (rw t.1, rw t.1)

-- ---- writing a plan

pub writing : (p : Plan) (out : List ℕ) → One (λ (o : Lent Written). Writes p out o.result o.buffer)
writing = write_one_outcome

-- "0 on a refusal. Lent buffers keep every byte on a refusal"
pub writing_refused : (p : Plan) (out after : List ℕ) (r : Written) → Writes p out r after → number r.answer ≢ 0 →
    (r.count ≡ 0) × (after ≡ out)
writing_refused p out after r c h =
    let t = refusal r.answer h in
    let a : write_answer p out ≡ No t.0 = ap (λ (x : Written). x.answer) (sym c.result) ∙ t.1 in
    (ap (λ (x : Written). x.count) c.result ∙ (rw a), c.buffer ∙ (rw a))

-- ---- writing the slot table

pub tabling : (p : Plan) (out : List ℕ) → One (λ (o : Lent Written). Tabled p out o.result o.buffer)
tabling = slot_table_one_outcome

-- "Lent buffers keep every byte on a refusal"
pub tabling_refused : (p : Plan) (out after : List ℕ) (r : Written) → Tabled p out r after → number r.answer ≢ 0 →
    (r.count ≡ 0) × (after ≡ out)
tabling_refused p out after r c h =
    let t = refusal r.answer h in
    let a : table_answer p (length out) ≡ No t.0 = ap (λ (x : Written). x.answer) (sym c.result) ∙ t.1 in
    (ap (λ (x : Written). x.count) c.result ∙ (rw a), c.buffer ∙ (rw a))

-- ---- the verdict

pub judging : (p : Plan) → One (λ v. v ≡ judged p)
judging = judge_one_outcome

-- "A refused verdict gives k 0 for every kind", and no slice beside it
pub judging_refused : (p : Plan) → number (judged p).answer ≢ 0 → ((judged p).width ≡ replicate 16 0) × ((judged p).slice ≡ replicate 16 0)
judging_refused p h = let t = refusal (judged p).answer h in (none_refused p t.0 t.1, no_slice_refused p t.0 t.1)

-- ---- the figures of a kind

pub figuring : (p : Plan) (i : ℕ) → One (λ r. r ≡ figures_of p i)
figuring = kind_figures_one_outcome

-- a refusal gives none
pub figuring_refused : (p : Plan) (i : ℕ) → number (figures_of p i).answer ≢ 0 → figures_of p i ≡ no_figures (figures_of p i).answer
unfolding figures_of
figuring_refused p i h = let t = refusal (figures_answer p i) h in rw t.1

-- ---- the smallest budget

pub finding : (p : Plan) (j : ℕ) → One (λ r. r ≡ smallest_of p j)
finding = smallest_budget_one_outcome

-- a refusal gives budget 0
pub finding_refused : (p : Plan) (j : ℕ) → number (smallest_of p j).answer ≢ 0 → (smallest_of p j).budget ≡ 0
unfolding smallest_of
finding_refused p j h = let t = refusal (smallest_answer p j) h in rw t.1

-- ---- a plan of one-kind projects

pub building : (cards : ℕ) (list : List ℕ) → One (λ r. r ≡ built_of cards list)
building = build_one_outcome

-- "any plan .. that its answer carries is zero when refused"
pub building_refused : (cards : ℕ) (list : List ℕ) → number (built_of cards list).answer ≢ 0 → (built_of cards list).plan ≡ no_plan
unfolding built_of
building_refused cards list h =
    let t = refusal (answer_for cards (kinds_in list) (separation_in list) (length_in list)) h in rw t.1

-- ---- a rescued plan

pub rescuing : (bytes list : List ℕ) → One (λ (o : Lent Rescued). Rescues bytes list o.result o.buffer)
rescuing = rescue_one_outcome

-- "any plan, figure or place that its answer carries is zero when refused"; "Lent buffers keep every byte on a refusal"
pub rescuing_refused : (bytes list after : List ℕ) (r : Rescued) → Rescues bytes list r after → number r.answer ≢ 0 →
    (r.plan ≡ no_plan) × (r.count ≡ 0) × (after ≡ list)
unfolding rescue_of list_over
rescuing_refused bytes list after r c h =
    let t = refusal r.answer h in
    let a : rescue_answer bytes list ≡ No t.0 = ap (λ (x : Rescued). x.answer) (sym c.result) ∙ t.1 in
    (ap (λ (x : Rescued). x.plan) c.result ∙ (rw a), ap (λ (x : Rescued). x.count) c.result ∙ (rw a), c.buffer ∙ (rw a))

-- ---- a fresh start

pub starting : (p : Plan) → One (λ n. n ≡ start_of p)
starting = start_one_outcome

-- "a refused fresh start gives an all-zero state"
pub starting_refused : (p : Plan) → number (start_of p).answer ≢ 0 → (start_of p).state ≡ no_state
starting_refused p h = let t = refusal (start_of p).answer h in start_refused p t.0 t.1

-- ---- a release

pub releasing : (s : State) (i e : ℕ) → One (λ n. n ≡ release_of s i e)
releasing = release_one_outcome

-- "a refused slice or release gives back the state handed in"
pub releasing_refused : (s : State) (i e : ℕ) → number (release_of s i e).answer ≢ 0 → (release_of s i e).state ≡ s
releasing_refused s i e h = let t = refusal (release_of s i e).answer h in release_refused s i e t.0 t.1

-- ---- a showing, which keeps the state

pub showing : (s : State) (bytes : List ℕ) → One (λ (o : Lent Answer). Shows s bytes o.result o.buffer)
showing = show_one_outcome

-- "Lent buffers keep every byte on a refusal"
pub showing_refused : (s : State) (bytes after : List ℕ) (a : Answer) → Shows s bytes a after → number a ≢ 0 → after ≡ bytes
showing_refused s bytes after a c h = let t = refusal a h in show_refused s bytes after a t.0 c t.1

-- ---- an advance

pub advancing : (s : State) → One (λ n. n ≡ advance_of s)
advancing = advance_one_outcome

-- "a refused slice or release gives back the state handed in"
pub advancing_refused : (s : State) → number (advance_of s).answer ≢ 0 → (advance_of s).state ≡ s
advancing_refused s h = let t = refusal (advance_of s).answer h in advance_refused s t.0 t.1
