-- Laws of the whole output.
-- Assumes nothing.
use Rattle.std.specs.Prelude.{◌≡◌, refl, List, [], ◌∷◌, ◌++◌, ℕ, ◌<◌, length, drop}
use Rattle.std.proofs.Common.{arith}
use Rattle.rack.specs.declared.State.{State}
use Rattle.lines.specs.Line.{end_line}
use Rattle.commands.specs.Command.{command_of}
use Rattle.commands.specs.Command.Properties.{command_short}
use Rattle.player.specs.Turn.{line_of, after}
use Rattle.player.specs.Played.{onward, turns}

-- nothing left
pub turns_end : (s : State) (bytes : List ℕ) → length bytes ≡ 0 → turns s bytes ≡ end_line s.slice
unfolding turns
turns_end s [] l = refl
turns_end s (a ∷ bytes) l = absurd (omega arith)

-- something left: the command at its front, and then what follows
pub turns_command : (s : State) (bytes : List ℕ) → 0 < length bytes
    → turns s bytes ≡ line_of s (command_of bytes) ++ onward (command_of bytes) (turns (after s (command_of bytes)) (drop 3 bytes))
    (end_line s.slice)
unfolding turns line_of
turns_command s [] l = absurd (omega arith)
turns_command s (a ∷ []) l = rw (← command_short (a ∷ []) (omega arith))
turns_command s (a ∷ b ∷ []) l = rw (← command_short (a ∷ b ∷ []) (omega arith))
turns_command s (a ∷ b ∷ c ∷ rest) l = refl
