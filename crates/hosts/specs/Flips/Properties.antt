-- An image of which one byte of a sum or of slices left is changed says the state with that sum or those slices left changed, and
-- nothing else.
-- Assumes nothing.
use Rattle.std.specs.Prelude.{◌≡◌, ◌≢◌, Bool, false, cond, not, ℕ, ◌+◌, ◌-◌, ◌*◌, ◌/◌, ◌%◌, ◌≤◌, ◌<◌, length, replicate}
use Rattle.std.proofs.Math.Path.{refl, sym, ap}
use Rattle.std.proofs.Common.{subst, ◌∙◌, true≢false, div-one, get_or-set_same, le-ltb, eqb-true}
use Rattle.std.proofs.Math.Bool.{true}
use mathlib.Core.List.{List}
use Rattle.std.proofs.Math.Decide.{dec_lt, ℕ_discrete}
use native.Mathlib.Omega.{arith}
use Rattle.std.proofs.Math.Dec.{eqb, leb}
use Rattle.std.proofs.Math.ListN.{get_or, drop, set}
use Rattle.std.proofs.Math.Seq.{get_or-drop, get_or-set_other}
use Rattle.std.proofs.lemmas.Bool.{eqb-false, not-false}
use Rattle.laws.specs.All.Properties.{all_at, all_of}
use Rattle.laws.specs.Written.Properties.{written_cong, written_at}
use Rattle.codec.specs.Pack.{unpack}
use Rattle.codec.specs.Bytes.{number_to, AreBytes}
use Rattle.codec.specs.Bytes.Properties.{bytes_behind, number_cong, number_suc}
use Rattle.codec.specs.Place.{size_of, fields_of}
use Rattle.answer.specs.declared.Answer.{Answer}
use Rattle.answer.specs.declared.Answer.TheVariants.{Good, No}
use Rattle.answer.specs.Answer.{bare, number, refuse, ◌and_then◌, if_good}
use Rattle.answer.specs.Answer.Properties.{and_then_left, and_then_right, refuse_good}
use Rattle.answer.specs.Word.{told, number_in}
use Rattle.answer.specs.Numbers.{among, covers, Numbered}
use Rattle.answer.specs.Numbers.Properties.{bare_numbered, refuse_numbered, and_then_numbered, wider}
use Rattle.plan.specs.Record.{no_project, no_kind}
use Rattle.plan.specs.Order.{checked}
use Rattle.unit.specs.declared.Unit.{Unit}
use Rattle.unit.specs.Unit.{no_unit}
use Rattle.rack.specs.declared.State.{State}
use Rattle.rack.specs.State.{unit_of, sum_at}
use Rattle.rack.specs.Sums.Properties.{written_changed}
use Rattle.rack.specs.Release.{release_of}
use Rattle.rack.specs.Advance.{advance_of}
use Rattle.images.specs.Image.{count_widths, project_widths, kind_widths, slice_widths, unit_widths, sum_widths, plan_size, state_size}
use Rattle.images.specs.Image.{project_place, kind_place, slice_place, unit_place, sum_place, field, project_from, kind_from, slice_from}
use Rattle.images.specs.Image.{unit_from, sum_from, units_from, plan_from, state_from, released_at, released_told}
use Rattle.images.specs.Lent.{room}
use Rattle.images.specs.Typed.Properties.{state_found_typed}
use Rattle.images.specs.Outcome.{Outcome}
use Rattle.rack_calls.specs.Exports.{state_answer, releases_answer, shows_answer, advances_answer}
use Rattle.demands.specs.Run.{Call, show, advance, release, next_after}
use Rattle.demands.specs.Numbers.{record_order, state_order, check_numbers}
use Rattle.demands.specs.SumsTold.{disjoint, apart}
use Rattle.demands.specs.Flipped.{own_numbers, with_sum, left_as, with_left, Told}
use Rattle.hosts.specs.Words.{release_decodes, show_decodes, advance_decodes}
use Rattle.hosts.specs.Chain.{Seen, Called}
use Rattle.hosts.specs.Flips.{sum_byte, left_byte, flip_bit, ToldAt}

-- ---- a byte changed outside a place leaves its fields

module _ (s : List ℕ) (x v : ℕ) where
  abbrev t : List ℕ
  t = set s x v

  number_later : (at n : ℕ) → x < at → number_to n (drop at t) ≡ number_to n (drop at s)
  number_later at n l =
      number_cong n (drop at t) (drop at s)
      (λ i q. get_or-drop at t i 0 ∙ get_or-set_other s x (at + i) v 0 (λ e. omega arith) ∙ sym (get_or-drop at s i 0))

  fields_before : (ws : List ℕ) (at : ℕ) → at + size_of ws ≤ x → fields_of ws (drop at t) ≡ fields_of ws (drop at s)
  unfolding fields_of
  fields_before ws at l = ap (unpack ws) (number_cong (size_of ws) (drop at t) (drop at s)
      (λ i q. get_or-drop at t i 0 ∙ get_or-set_other s x (at + i) v 0 (λ e. omega arith) ∙ sym (get_or-drop at s i 0)))

  fields_behind : (ws : List ℕ) (at : ℕ) → x < at → fields_of ws (drop at t) ≡ fields_of ws (drop at s)
  unfolding fields_of
  fields_behind ws at l = ap (unpack ws) (number_later at (size_of ws) l)

  -- the plan, where the byte is behind it
  pub plan_kept : plan_size ≤ x → plan_from t ≡ plan_from s
  unfolding plan_from project_from kind_from
  plan_kept l =
      let counts : fields_of count_widths t ≡ fields_of count_widths s = fields_before count_widths 0 (omega arith) in
      let projects = written_cong 8 (λ j. project_from (drop (project_place j) t)) (λ j. project_from (drop (project_place j) s))
      (replicate 8 no_project)
      (λ j m. project_kept j (fields_before project_widths (project_place j) (omega arith))) in
      let kinds = written_cong 16 (λ i. kind_from (drop (kind_place i) t)) (λ i. kind_from (drop (kind_place i) s)) (replicate 16 no_kind)
      (λ i m. kind_kept i (fields_before kind_widths (kind_place i) (omega arith))) in
      λ k. record {
        cards = get_or (counts k) 0 0;
        projects = get_or (counts k) 1 0;
        kinds = get_or (counts k) 2 0;
        frame = get_or (counts k) 3 0;
        project = projects k;
        kind = kinds k;
      }
    where
      project_kept : (j : ℕ) → fields_of project_widths (drop (project_place j) t) ≡ fields_of project_widths (drop (project_place j) s) →
          project_from (drop (project_place j) t) ≡ project_from (drop (project_place j) s)
      project_kept j e = λ k. record { ceiling = get_or (e k) 0 0; budget = get_or (e k) 1 0 }

      kind_kept : (i : ℕ) → fields_of kind_widths (drop (kind_place i) t) ≡ fields_of kind_widths (drop (kind_place i) s) →
          kind_from (drop (kind_place i) t) ≡ kind_from (drop (kind_place i) s)
      kind_kept i e = λ k. record {
        project = get_or (e k) 0 0;
        separation = get_or (e k) 1 0;
        deadline = get_or (e k) 2 0;
        length = get_or (e k) 3 0;
      }

  -- the slice
  slice_kept : slice_place + 1 ≤ x → slice_from (drop slice_place t) ≡ slice_from (drop slice_place s)
  unfolding slice_from
  slice_kept l = ap (λ (f : List ℕ). get_or f 0 0) (fields_before slice_widths slice_place l)

  -- a unit
  unit_kept : (i : ℕ) → fields_of unit_widths (drop (unit_place i) t) ≡ fields_of unit_widths (drop (unit_place i) s) →
      unit_from (drop (unit_place i) t) ≡ unit_from (drop (unit_place i) s)
  unfolding unit_from
  unit_kept i e = λ k. record { released = eqb (get_or (e k) 0 0) 1; gone = get_or (e k) 1 0; left = get_or (e k) 2 0 }

  -- a sum
  sum_kept : (j : ℕ) → fields_of sum_widths (drop (sum_place j) t) ≡ fields_of sum_widths (drop (sum_place j) s) →
      sum_from (drop (sum_place j) t) ≡ sum_from (drop (sum_place j) s)
  unfolding sum_from
  sum_kept j e = ap (λ (f : List ℕ). get_or f 0 0) e

-- ---- the last two bytes of a place as a number

abbrev pub low_two : List ℕ → ℕ → ℕ
low_two u n = get_or u n 0 * 256 + get_or u (n + 1) 0

-- bytes that differ in one of the two are two numbers
low_differs : (u w : List ℕ) (n b : ℕ) → AreBytes u → AreBytes w → b < 2 → get_or w (n + b) 0 ≢ get_or u (n + b) 0 →
    ((c : ℕ) → c < 2 → c ≢ b → get_or w (n + c) 0 ≡ get_or u (n + c) 0) → low_two w n ≢ low_two u n
low_differs u w n b bu bw l d same e =
    let plus : n + 0 ≡ n = omega arith in
    let first = ap (λ (x : ℕ). get_or u x 0) plus in
    let again = ap (λ (x : ℕ). get_or w x 0) plus in
    elim (ℕ_discrete b 0) [
      | yes z ↦ d (at b z (omega (arith, same 1 (omega arith) (λ q. omega arith), bu (n + 1), bw (n + 1), bu n, bw n)))
      | no z ↦
          let one : b ≡ 1 = omega arith in
          d (ap (λ (x : ℕ). get_or w (n + x) 0) one
          ∙ omega (arith, same 0 (omega arith) (λ q. omega arith), first, again, bu (n + 1), bw (n + 1))
          ∙ ap (λ (x : ℕ). get_or u (n + x) 0) (sym one))
    ]
  where
    at : (x : ℕ) → x ≡ 0 → get_or w n 0 ≡ get_or u n 0 → get_or w (n + x) 0 ≡ get_or u (n + x) 0
    at x z q =
        let k : n + x ≡ n = omega arith in
        ap (λ (y : ℕ). get_or w y 0) k ∙ q ∙ ap (λ (y : ℕ). get_or u y 0) (sym k)

-- a sum is its two bytes
sum_value : (u : List ℕ) → AreBytes u → sum_from u ≡ low_two u 0
unfolding sum_from fields_of unpack number_to
sum_value u b = rw (div-one (number_to 2 u)) (omega (arith, b 0, b 1))

-- a unit's slices left are its last two, and the rest of it the first three
unit_value : (u : List ℕ) → AreBytes u →
    unit_from u ≡ record { released = eqb (number_to 3 u / 65536 % 256) 1; gone = number_to 3 u % 65536; left = low_two u 3 }
unfolding unit_from fields_of unpack
unit_value u b =
    let n = number_to 3 u in
    let all : number_to 5 u ≡ n * 65536 + low_two u 3 = omega (arith, number_suc 4 u, number_suc 3 u) in
    let high : number_to 5 u / 4294967296 % 256 ≡ n / 65536 % 256 = omega (arith, all, b 3, b 4) in
    let middle : number_to 5 u / 65536 % 65536 ≡ n % 65536 = omega (arith, all, b 3, b 4) in
    let low : number_to 5 u / 1 % 65536 ≡ low_two u 3 = rw (div-one (number_to 5 u)) (omega (arith, all, b 3, b 4)) in
    λ k. record { released = eqb (high k) 1; gone = middle k; left = low k }

-- and its released byte is one of these
released_value : (u : List ℕ) → AreBytes u → field unit_widths u 0 ≡ number_to 3 u / 65536 % 256
unfolding fields_of unpack
released_value u b =
    let n = number_to 3 u in
    let all : number_to 5 u ≡ n * 65536 + low_two u 3 = omega (arith, number_suc 4 u, number_suc 3 u) in
    omega (arith, all, b 3, b 4)

-- ---- the changed image is the changed state

module _ (s : List ℕ) (bytes : AreBytes s) (whole : state_size ≤ length s) (v : ℕ) (byte : v < 256) where
  bytes_still : (x : ℕ) → x < state_size → AreBytes (set s x v)
  bytes_still x l i =
      elim (ℕ_discrete i x) [
        | yes z ↦ rw z (omega (arith, get_or-set_same s x v 0 (omega arith)))
        | no z ↦ omega (arith, get_or-set_other s x i v 0 z, bytes i)
      ]

  -- one byte of a sum
  module _ (j b : ℕ) (l : j < 8) (m : b < 2) (other : v ≢ get_or s (sum_byte j b) 0) where
    abbrev y : List ℕ
    y = set s (sum_byte j b) v

    -- what the image then says for the sum
    abbrev pub new_sum : ℕ
    new_sum = sum_from (drop (sum_place j) y)

    there : (c : ℕ) → get_or (drop (sum_place j) y) c 0 ≡ get_or y (sum_place j + c) 0
    there c = get_or-drop (sum_place j) y c 0

    pub sum_other : new_sum ≢ sum_at (state_from s) j
    unfolding state_from
    sum_other e =
        let u = drop (sum_place j) s in
        let w = drop (sum_place j) y in
        let bu = bytes_behind s bytes (sum_place j) in
        let bw = bytes_behind y (bytes_still (sum_byte j b) (omega arith)) (sum_place j) in
        low_differs u w 0 b bu bw m
        (λ q. other (sym (changed (0 + b) refl) ∙ q ∙ get_or-drop (sum_place j) s (0 + b) 0 ∙ place))
        (λ c k z.
        there (0 + c) ∙ get_or-set_other s (sum_byte j b) (sum_place j + (0 + c)) v 0 (λ q. z (omega arith))
        ∙ sym (get_or-drop (sum_place j) s (0 + c) 0))
        (sym (sum_value w bw) ∙ e
        ∙ written_at 8 (λ k. sum_from (drop (sum_place k) s)) (replicate 8 0) 0 j l (omega arith) ∙ sum_value u bu)
      where
        place : get_or s (sum_place j + (0 + b)) 0 ≡ get_or s (sum_byte j b) 0
        place = let q : sum_place j + (0 + b) ≡ sum_byte j b = omega arith in ap (λ (k : ℕ). get_or s k 0) q

        changed : (c : ℕ) → c ≡ 0 + b → get_or (drop (sum_place j) y) c 0 ≡ v
        changed c q =
            let at : sum_place j + c ≡ sum_byte j b = omega arith in
            there c ∙ ap (λ (k : ℕ). get_or y k 0) at ∙ get_or-set_same s (sum_byte j b) v 0 (omega arith)

    pub sum_changed_is : state_from y ≡ with_sum (state_from s) j new_sum
    unfolding state_from
    sum_changed_is =
        let plan = plan_kept s (sum_byte j b) v (omega arith) in
        let slice = slice_kept s (sum_byte j b) v (omega arith) in
        let units = written_cong 16 (λ i. unit_from (drop (unit_place i) y)) (λ i. unit_from (drop (unit_place i) s)) (replicate 16 no_unit)
        (λ i k. unit_kept s (sum_byte j b) v i (fields_before s (sum_byte j b) v unit_widths (unit_place i) (omega arith))) in
        let sums = sym (written_changed 8 (λ k. sum_from (drop (sum_place k) s)) (λ k. sum_from (drop (sum_place k) y))
        (replicate 8 0) j l others) in
        λ k. record { plan = plan k; slice = slice k; unit = units k; sum = sums k }
      where
        others : (k : ℕ) → k < 8 → k ≢ j → sum_from (drop (sum_place k) y) ≡ sum_from (drop (sum_place k) s)
        others k q z =
            elim (dec_lt k j) [
              | yes n ↦ sum_kept s (sum_byte j b) v k (fields_before s (sum_byte j b) v sum_widths (sum_place k) (omega arith))
              | no n ↦ sum_kept s (sum_byte j b) v k (fields_behind s (sum_byte j b) v sum_widths (sum_place k) (omega arith))
            ]

    pub sum_told_kept : released_told s ≡ true → released_told y ≡ true
    unfolding released_told
    sum_told_kept e =
        all_of 16 (released_at y) (λ i k.
        ap (λ (f : List ℕ). leb (get_or f 0 0) 1) (fields_before s (sum_byte j b) v unit_widths (unit_place i) (omega arith))
        ∙ all_at 16 (released_at s) e i k)

  -- one byte of a kind's slices left
  module _ (i b : ℕ) (l : i < 16) (m : b < 2) (other : v ≢ get_or s (left_byte i b) 0) where
    abbrev w : List ℕ
    w = set s (left_byte i b) v

    -- what the image then says for the slices left
    abbrev pub new_left : ℕ
    new_left = low_two (drop (unit_place i) w) 3

    behind : (c : ℕ) → get_or (drop (unit_place i) w) c 0 ≡ get_or w (unit_place i + c) 0
    behind c = get_or-drop (unit_place i) w c 0

    -- of a place's first bytes none is the changed one
    first_kept : (c : ℕ) → c < 3 → get_or (drop (unit_place i) w) c 0 ≡ get_or (drop (unit_place i) s) c 0
    first_kept c k =
        behind c ∙ get_or-set_other s (left_byte i b) (unit_place i + c) v 0 (λ q. omega arith) ∙ sym (get_or-drop (unit_place i) s c 0)

    bytes_u : AreBytes (drop (unit_place i) s)
    bytes_u = bytes_behind s bytes (unit_place i)

    bytes_w : AreBytes (drop (unit_place i) w)
    bytes_w = bytes_behind w (bytes_still (left_byte i b) (omega arith)) (unit_place i)

    unit_said : unit_of (state_from s) i ≡ unit_from (drop (unit_place i) s)
    unfolding state_from
    unit_said = written_at 16 (λ k. unit_from (drop (unit_place k) s)) (replicate 16 no_unit) no_unit i l (omega arith)

    left_said : (unit_of (state_from s) i).left ≡ low_two (drop (unit_place i) s) 3
    left_said = ap (λ (x : Unit). x.left) (unit_said ∙ unit_value (drop (unit_place i) s) bytes_u)

    pub left_other_value : new_left ≢ (unit_of (state_from s) i).left
    left_other_value e =
        low_differs (drop (unit_place i) s) (drop (unit_place i) w) 3 b bytes_u bytes_w m
        (λ q. other (sym (changed (3 + b) refl) ∙ q ∙ get_or-drop (unit_place i) s (3 + b) 0 ∙ place))
        (λ c k z.
        behind (3 + c) ∙ get_or-set_other s (left_byte i b) (unit_place i + (3 + c)) v 0 (λ q. z (omega arith))
        ∙ sym (get_or-drop (unit_place i) s (3 + c) 0))
        (e ∙ left_said)
      where
        place : get_or s (unit_place i + (3 + b)) 0 ≡ get_or s (left_byte i b) 0
        place = let q : unit_place i + (3 + b) ≡ left_byte i b = omega arith in ap (λ (k : ℕ). get_or s k 0) q

        changed : (c : ℕ) → c ≡ 3 + b → get_or (drop (unit_place i) w) c 0 ≡ v
        changed c q =
            let at : unit_place i + c ≡ left_byte i b = omega arith in
            behind c ∙ ap (λ (k : ℕ). get_or w k 0) at ∙ get_or-set_same s (left_byte i b) v 0 (omega arith)

    unit_changed : unit_from (drop (unit_place i) w) ≡ left_as (unit_of (state_from s) i) new_left
    unit_changed =
        let n : number_to 3 (drop (unit_place i) w) ≡ number_to 3 (drop (unit_place i) s) =
        number_cong 3 (drop (unit_place i) w) (drop (unit_place i) s) first_kept in
        unit_value (drop (unit_place i) w) bytes_w
        ∙ ap (λ (x : ℕ). record {
          released = eqb (x / 65536 % 256) 1;
          gone = x % 65536;
          left = low_two (drop (unit_place i) w) 3;
        }) n
        ∙ ap (λ (x : Unit). left_as x (low_two (drop (unit_place i) w) 3)) (sym (unit_said ∙ unit_value (drop (unit_place i) s) bytes_u))

    fields_others : (k : ℕ) → k ≢ i → fields_of unit_widths (drop (unit_place k) w) ≡ fields_of unit_widths (drop (unit_place k) s)
    fields_others k z =
        elim (dec_lt k i) [
          | yes n ↦ fields_before s (left_byte i b) v unit_widths (unit_place k) (omega arith)
          | no n ↦ fields_behind s (left_byte i b) v unit_widths (unit_place k) (omega arith)
        ]

    pub left_changed_is : state_from w ≡ with_left (state_from s) i new_left
    unfolding state_from
    left_changed_is =
        let plan = plan_kept s (left_byte i b) v (omega arith) in
        let slice = slice_kept s (left_byte i b) v (omega arith) in
        let units =
        sym (ap (λ (x : Unit). set (units_from 16 s) i x) (sym unit_changed)
        ∙ written_changed 16 (λ k. unit_from (drop (unit_place k) s)) (λ k. unit_from (drop (unit_place k) w))
        (replicate 16 no_unit) i l others) in
        let sums = written_cong 8 (λ j. sum_from (drop (sum_place j) w)) (λ j. sum_from (drop (sum_place j) s)) (replicate 8 0)
        (λ j k. sum_kept s (left_byte i b) v j (fields_behind s (left_byte i b) v sum_widths (sum_place j) (omega arith))) in
        λ k. record { plan = plan k; slice = slice k; unit = units k; sum = sums k }
      where
        others : (k : ℕ) → k < 16 → k ≢ i → unit_from (drop (unit_place k) w) ≡ unit_from (drop (unit_place k) s)
        others k q z = unit_kept s (left_byte i b) v k (fields_others k z)

    -- which is what the image says then
    pub left_now : (unit_of (state_from w) i).left ≡ new_left
    left_now =
        ap (λ (x : State). (unit_of x i).left) left_changed_is
        ∙ ap (λ (x : Unit). x.left) (get_or-set_same (state_from s).unit i (left_as (unit_of (state_from s) i) new_left) no_unit
        (omega (arith, (state_found_typed s).places.sixteen)))

    released_kept : field unit_widths (drop (unit_place i) w) 0 ≡ field unit_widths (drop (unit_place i) s) 0
    released_kept =
        released_value (drop (unit_place i) w) bytes_w
        ∙ ap (λ (x : ℕ). x / 65536 % 256) (number_cong 3 (drop (unit_place i) w) (drop (unit_place i) s) first_kept)
        ∙ sym (released_value (drop (unit_place i) s) bytes_u)

    pub left_told_kept : released_told s ≡ true → released_told w ≡ true
    unfolding released_told
    left_told_kept e = all_of 16 (released_at w) (λ k q. each k (ℕ_discrete k i) ∙ all_at 16 (released_at s) e k q)
      where
        each : (k : ℕ) → Dec (k ≡ i) → released_at w k ≡ released_at s k
        each k (yes z) = rw z (ap (λ (x : ℕ). leb x 1) released_kept)
        each k (no z) = ap (λ (f : List ℕ). leb (get_or f 0 0) 1) (fields_others k z)

-- ---- what every call says of it

-- a refusal in the bits of a word
small_told : (n : ℕ) → n < 256 → number_in (told (bare n) 0) ≡ n
unfolding told
small_told n l = omega arith

outcome_kept : (a : Answer) (n : ℕ) (new old : List ℕ) (r : ℕ) (after : List ℕ) → n < 256 → a ≡ bare n → Outcome a 0 new old r after →
    (number_in r ≡ n) × (after ≡ old)
outcome_kept a n new old r after l e o = (
  ap number_in (o.result ∙ ap (λ (x : Answer). told x (if_good x 0 0)) e) ∙ small_told n l,
  o.buffer ∙ ap (λ (x : Answer). if_good x new old) e,
)

pub told_at : (y : List ℕ) (n : ℕ) → n < 256 → state_answer y ≡ Good → Told (state_from y) n → ToldAt y n
unfolding releases_answer shows_answer advances_answer release_of advance_of
told_at y n l good h = record {
  release = λ kind e word after o. outcome_kept (releases_answer y kind e) n _ y word after l (rw good (h.answer (release kind e))) o;
  show = λ row after word o. outcome_kept (shows_answer y row) n _ row word after l (rw good (h.answer (show row))) o;
  advance = λ word after o. outcome_kept (advances_answer y) n _ y word after l (rw good (h.answer advance)) o;
}

-- ---- an image on which a call found nothing wrong

-- it is a state's
pub still_state : (s y : List ℕ) → state_size ≤ length y → plan_from y ≡ plan_from s → (released_told s ≡ true → released_told y ≡ true) →
    state_answer s ≡ Good → state_answer y ≡ Good
unfolding state_answer
still_state s y whole plan kept good =
    let rest = checked (plan_from s) and_then refuse (not (released_told s)) (bare 10) in
    let both = and_then_right (room s state_size) rest good in
    let order = and_then_left (checked (plan_from s)) (refuse (not (released_told s)) (bare 10)) both in
    let ten = and_then_right (checked (plan_from s)) (refuse (not (released_told s)) (bare 10)) both in
    let byte = not-false (released_told s) (refuse_good (not (released_told s)) _ ten) in
    rw (le-ltb (length y) state_size whole, plan, order, kept byte)

-- what a call on an image answers: by the image, and then by the state that it says
answer_at : List ℕ → Call → Answer
answer_at s (show row) = shows_answer s row
answer_at s advance = advances_answer s
answer_at s (release i e) = releases_answer s i e

answer_parts : (s : List ℕ) (call : Call) → answer_at s call ≡ (state_answer s and_then (next_after (state_from s) call).answer)
unfolding answer_at releases_answer shows_answer advances_answer release_of advance_of
answer_parts s (show row) = refl
answer_parts s advance = refl
answer_parts s (release i e) = refl

seen_answer : (s : List ℕ) (call : Call) (seen : Seen) (after : List ℕ) → Called s call seen after →
    number_in seen.word ≡ number (answer_at s call)
unfolding answer_at
seen_answer s (show row) seen after c = (show_decodes s row seen.word seen.row c.0).its_number
seen_answer s advance seen after c = (advance_decodes s seen.word after c.0).its_number
seen_answer s (release i e) seen after c = (release_decodes s i e seen.word after c.0).its_number

-- the image's own refusals, where it is long enough, are none of a call's own
state_own : (s : List ℕ) → state_size ≤ length s → Numbered state_order (state_answer s)
unfolding state_answer among covers
state_own s whole =
    rw (le-ltb (length s) state_size whole)
    (and_then_numbered _ _ _ (wider _ record_order _ refl (check_numbers (plan_from s)))
    (λ f. refuse_numbered _ (not (released_told s)) _ (bare_numbered _ 10 (λ z. omega arith) refl)))

module _ (s : List ℕ) (whole : state_size ≤ length s) (call : Call) (seen : Seen) (after : List ℕ) (called : Called s call seen after)
    (own : among own_numbers (number_in seen.word) ≡ true) where
  own_answer : among own_numbers (number (state_answer s and_then (next_after (state_from s) call).answer)) ≡ true
  own_answer = ap (among own_numbers) (ap number (sym (answer_parts s call)) ∙ sym (seen_answer s call seen after called)) ∙ own

  pub image_good : state_answer s ≡ Good
  unfolding among disjoint
  image_good = go (state_answer s) refl own_answer
    where
      go : (a : Answer) → state_answer s ≡ a →
          among own_numbers (number (state_answer s and_then (next_after (state_from s) call).answer)) ≡ true →
          state_answer s ≡ Good
      go Good e o = e
      go (No w) e o =
          let out = apart own_numbers state_order (number (state_answer s)) refl ((state_own s whole).its_number w e) in
          let same = ap (λ (a : Answer). number (a and_then (next_after (state_from s) call).answer)) e ∙ ap number (sym e) in
          absurd (true≢false (sym o ∙ ap (among own_numbers) same ∙ out))

  pub state_taken : among own_numbers (number (next_after (state_from s) call).answer) ≡ true
  state_taken =
      ap (λ (a : Answer). among own_numbers (number (a and_then (next_after (state_from s) call).answer))) (sym image_good) ∙ own_answer

-- ---- a flipped bit is another byte

-- by its weight p
flip_at : (p v : ℕ) → v < 256 → 0 < p → (v / p % 2 ≡ 0 → v + p < 256) → (v / p % 2 ≢ 0 → 0 < v) →
    let w = cond (eqb (v / p % 2) 0) (v + p) (v - p) in (w < 256) × (w ≢ v)
flip_at p v l some up down = go (eqb (v / p % 2) 0) refl
  where
    go : (b : Bool) → eqb (v / p % 2) 0 ≡ b → let w = cond b (v + p) (v - p) in (w < 256) × (w ≢ v)
    go true e = let room = up (eqb-true (v / p % 2) 0 e) in (omega arith, λ q. omega arith)
    go false e = let some-v = down (eqb-false (v / p % 2) 0 e) in (omega arith, λ q. omega arith)

pub flip_other : (k v : ℕ) → k < 8 → v < 256 → (flip_bit k v < 256) × (flip_bit k v ≢ v)
unfolding flip_bit
flip_other k v m l = elim (dec_lt k 4) [ yes q ↦ low q | no q ↦ high (omega arith) ]
  where
    Flips : ℕ → Type 0
    Flips x = (flip_bit x v < 256) × (flip_bit x v ≢ v)

    low : k < 4 → Flips k
    low q =
        elim (ℕ_discrete k 0) [
          | yes e ↦ subst Flips (sym e) (flip_at 1 v l (omega arith) (λ q. omega arith) (λ q. omega arith))
          | no e0 ↦ elim (ℕ_discrete k 1) [
            | yes e ↦ subst Flips (sym e) (flip_at 2 v l (omega arith) (λ q. omega arith) (λ q. omega arith))
            | no e1 ↦ elim (ℕ_discrete k 2) [
              | yes e ↦ subst Flips (sym e) (flip_at 4 v l (omega arith) (λ q. omega arith) (λ q. omega arith))
              | no e2 ↦ elim (ℕ_discrete k 3) [
                | yes e ↦ subst Flips (sym e) (flip_at 8 v l (omega arith) (λ q. omega arith) (λ q. omega arith))
                | no e3 ↦ absurd (omega arith)
              ]
            ]
          ]
        ]

    high : 4 ≤ k → Flips k
    high q =
        elim (ℕ_discrete k 4) [
          | yes e ↦ subst Flips (sym e) (flip_at 16 v l (omega arith) (λ q. omega arith) (λ q. omega arith))
          | no e4 ↦ elim (ℕ_discrete k 5) [
            | yes e ↦ subst Flips (sym e) (flip_at 32 v l (omega arith) (λ q. omega arith) (λ q. omega arith))
            | no e5 ↦ elim (ℕ_discrete k 6) [
              | yes e ↦ subst Flips (sym e) (flip_at 64 v l (omega arith) (λ q. omega arith) (λ q. omega arith))
              | no e6 ↦ elim (ℕ_discrete k 7) [
                | yes e ↦ subst Flips (sym e) (flip_at 128 v l (omega arith) (λ q. omega arith) (λ q. omega arith))
                | no e7 ↦ absurd (omega arith)
              ]
            ]
          ]
        ]
