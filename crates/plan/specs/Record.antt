-- The records with nothing in them.
-- Assumes nothing.
use Rattle.std.specs.Prelude.{replicate}
use Rattle.plan.specs.declared.Project.{Project}
use Rattle.plan.specs.declared.Kind.{Kind}
use Rattle.plan.specs.declared.Plan.{Plan}

-- "places beyond p or n hold zeros": a project's place
abbrev pub no_project : Project
no_project = record { ceiling = 0; budget = 0 }

-- "places beyond p or n hold zeros": a kind's place
abbrev pub no_kind : Kind
no_kind = record { project = 0; separation = 0; deadline = 0; length = 0 }

-- "an all-zero plan"
abbrev pub no_plan : Plan
no_plan = record { cards = 0; projects = 0; kinds = 0; frame = 0; project = replicate 8 no_project; kind = replicate 16 no_kind }
