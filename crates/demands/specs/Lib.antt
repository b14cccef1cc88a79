-- The three demands: `Outcomes` (1), `Verdicts` (2) and `Deadlines` (3) state them, the last over `Run`, `Since`, `Named` and
-- `Shown`; `SmallestBudgets`, over `OpenBudget`, states what is promised of the smallest budget, `OneKindProjects`, over `OneKind`, what
-- is promised of plans of one-kind projects, `Rescue` what is promised of rescued plans, `EquationFive`, over `AnyWorkload`, that either
-- paper's workload gives the same, and `KindFigures` what is promised of the figures of a kind; `Showing` has what showing and advancing
-- owe a host, `RowOfSums`, over `Flipped`, what the stored sums do, and `NoClock`, over `AbsoluteClock` and `Beside`, what the rules
-- without a clock owe those with one; `Sufficient` has a refused plan that runs well, `LateByHand` a state that goes out of form, and
-- `Uses` puts every statement to work. The other modules tie the theory of one project (`analysis`) to the rack.
-- Assumes nothing.
-- ---- the statements
pub mod Run
pub mod Since
pub mod Named
pub mod Shown
pub mod Outcomes
pub mod Numbers
pub mod Verdicts
pub mod Deadlines
pub mod KindFigures
pub mod OpenBudget
pub mod SmallestBudgets
pub mod Showing
pub mod AnyWorkload
pub mod EquationFive
pub mod OneKindProjects
pub mod RowOfSums
pub mod Rescue
pub mod AbsoluteClock
pub mod Beside
pub mod NoClock
pub mod LateByHand
pub mod Sufficient
-- ---- the statements at work
pub mod Uses
-- ---- what a row is
pub mod Row
pub mod Stands
pub mod Cards
-- ---- the rack as a project sees it: the ranking, and the rack's calls as steps of the theory
pub mod View
-- ---- runs
pub mod Safe
pub mod Served
pub mod InTime
pub mod Budget
pub mod Refusals
pub mod Eight
pub mod Kept
pub mod KeptShown
-- ---- the row of sums
pub mod Flipped
pub mod SumsTold
pub mod KeptSums
-- ---- plans of one-kind projects
pub mod OneKind
