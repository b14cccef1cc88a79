-- Document 02 (iii): a plan with one kind's length changed, on which the excess is advice.
-- Assumes nothing.
use Rattle.std.specs.Prelude.{ℕ, set}
use Rattle.plan.specs.declared.Plan.{Plan}
use Rattle.plan.specs.Order.{kind_of}
pub mod Properties

-- "the unit was 2 too long": the plan with c written in as kind i's length, and all else kept
abbrev pub with_length : Plan → ℕ → ℕ → Plan
with_length p i c =
    record {
      cards = p.cards;
      projects = p.projects;
      kinds = p.kinds;
      frame = p.frame;
      project = p.project;
      kind = set p.kind i (record {
        project = (kind_of p i).project;
        separation = (kind_of p i).separation;
        deadline = (kind_of p i).deadline;
        length = c;
      });
    }
