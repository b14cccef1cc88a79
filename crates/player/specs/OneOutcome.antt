-- Each public operation's contract admits one outcome.
-- Assumes nothing.
use Rattle.std.specs.Prelude.{◌≡◌, Bool, List, ℕ}
use Rattle.std.proofs.Common.{sym, ◌∙◌}
use Rattle.answer.specs.Outcome.{One, Lent}
use Rattle.answer.specs.Outcome.Properties.{is_one}
use Rattle.player.specs.declared.session.Session.{Session}
use Rattle.player.specs.declared.session.Progress.{Progress}
use Rattle.player.specs.Session.{unopened, is_over, Plays}

-- `Session::new`
pub new_one_outcome : One (λ r. r ≡ unopened)
new_one_outcome = is_one _

-- `Session::is_over`
pub is_over_one_outcome : (self : Session) → One (λ r. r ≡ is_over self)
is_over_one_outcome self = is_one _

-- `Session::play`: one at most, for the lines have room for the numbers of the code's types; that there is one is the contract's own proof
pub play_one_outcome : (self : Session) (bytes : List ℕ) (last : Bool) (out : List ℕ) (o p : Lent Progress)
    → Plays self last bytes out o.result o.buffer → Plays self last bytes out p.result p.buffer → o ≡ p
play_one_outcome self bytes last out o p a b =
    λ i. record { result = (a.result ∙ sym b.result) i; buffer = (a.buffer ∙ sym b.buffer) i }
