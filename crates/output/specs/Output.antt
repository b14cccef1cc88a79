-- Standard output for the programs that print a table: what is answered of a piece of text.
-- Assumes nothing.
use Rattle.std.specs.Prelude.{Result, Ok}
use Rattle.std.specs.declared.fmt.Error.{Error}

-- after a piece of text the rest follows, whatever its write says
abbrev pub goes_on : Result (Unit {0}) Error
goes_on = Ok tt
