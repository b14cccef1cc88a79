-- Document 02 (viii), "Each change is listed in that order": the turn of each entry, lists whose turns rise, and what an entry may be.
-- Assumes nothing.
use Rattle.std.specs.Prelude.{ℕ, suc, ◌+◌, ◌*◌, ◌≤◌, ◌<◌, ◌≡◌, ◌≢◌, cond, ◌||◌, List, [], ◌∷◌, eqb}
use Rattle.plan.specs.declared.Plan.{Plan}
use Rattle.rescue.specs.Entry.{Entry}
pub mod Properties

-- "In this order: clear spare bits", of the header, of each project and of each kind; "by project" q and then B; "by kind" D or that it
-- is dropped
unfoldable pub turn_of : ℕ → ℕ → ℕ
turn_of f j =
    cond (eqb f 1) 0
    (cond (eqb f 2) (1 + j) (cond (eqb f 3) (9 + j) (cond (eqb f 4) (25 + 2 * j) (cond (eqb f 5) (26 + 2 * j) (41 + j)))))

-- the turn of an entry
abbrev pub turn : Entry → ℕ
turn e = turn_of e.field e.place

-- entries whose turns rise, the first at a or later, the last before b
abbrev pub Rising : ℕ → ℕ → List Entry → Type 0
Rising a b [] = a ≤ b
Rising a b (e ∷ es) = (a ≤ turn e) × Rising (suc (turn e)) b es

-- how many places field f has: the header is one, and a project and a kind each
unfoldable pub places_of : Plan → ℕ → ℕ
places_of p f = cond (eqb f 1) 1 (cond (eqb f 2 || (eqb f 4 || eqb f 5)) p.projects p.kinds)

-- what an entry says
pub record Says (p : Plan) (e : Entry) : Type 0 where
  -- "Fields are 1 to .. 7"
  pub some_field : 0 < e.field
  pub field_most : e.field ≤ 7
  -- "place in the original"
  pub place_most : e.place < places_of p e.field
  -- "Each change": the two values differ
  pub differs : e.field ≢ 7 → e.old ≢ e.new
  -- "7 a dropped kind (values 0)"
  pub no_values : e.field ≡ 7 → (e.old ≡ 0) × (e.new ≡ 0)

-- each entry of a list is so
abbrev pub Every : (Entry → Type 0) → List Entry → Type 0
Every P [] = Unit {0}
Every P (e ∷ es) = P e × Every P es
