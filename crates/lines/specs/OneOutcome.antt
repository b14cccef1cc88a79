-- Each public operation's contract admits one outcome.
-- Assumes nothing.
use Rattle.std.specs.Prelude.{◌≡◌, List, ℕ}
use Rattle.std.proofs.Common.{sym, ◌∙◌}
use Rattle.answer.specs.Outcome.{Lent}
use Rattle.lines.specs.declared.line.Line.{Line}
use Rattle.lines.specs.Line.{Prints}

-- `Line::put`: one at most, since a line has room for the numbers of its types only; that there is one is the contract's own proof
pub put_one_outcome : (self : Line) (row out : List ℕ) (at : ℕ) (o p : Lent ℕ)
    → Prints self row out at o.result o.buffer → Prints self row out at p.result p.buffer → o ≡ p
put_one_outcome self row out at o p a b =
    λ i. record { result = (a.text.end ∙ sym b.text.end) i; buffer = (a.text.buffer ∙ sym b.text.buffer) i }
