-- A play of an input that comes piece by piece, into a buffer with room for some lines: what is printed in the end is what document 01 has
-- printed for the whole input.
-- Assumes nothing.
use Rattle.std.specs.Prelude.{ℕ, ◌≡◌, Bool, true, List, [], ◌++◌, drop}
use Rattle.player.specs.declared.session.Session.{Session}
use Rattle.player.specs.Session.{unopened, play_of}
pub mod Properties

-- where a play of an input can get to: what is printed, the session, the bytes that are read and not taken, and the input that has still
-- to come
pub data Reached (input : List ℕ) : List ℕ → Session → List ℕ → List ℕ → Type 0 where
  starts : Reached input [] unopened [] input
  reads : {printed held : List ℕ} {x : Session} (bytes coming : List ℕ) → Reached input printed x held (bytes ++ coming)
      → Reached input printed x (held ++ bytes) coming
  plays : {printed held coming : List ℕ} {x : Session} (last : Bool) (room : ℕ) → (last ≡ true → coming ≡ [])
      → Reached input printed x held coming
      → Reached input (printed ++ (play_of x last held room).text) (play_of x last held room).session
      (drop (play_of x last held room).taken held) coming
