-- The scheduling theory of one project: sporadic unit kinds on the cards that a frame gives it, served by earliest deadline first.
-- It stands on sums (`laws`) and on the supply of a frame (`supply`) alone; that the rack is an instance is shown in `demands`.
--
-- To read what is claimed, in this order; the last states it with no trace of its proof:
--   Setup, Moment   the model: what never changes, and where a project stands, counted from now
--   Step, Reached   what a slice and a release do, and the moments that they lead to
--   EarliestFirst   who goes first, and the workload W
--   Admitted        the test: kC + W <= S(k,D)
--   InTime          the theorem, in proofs/: what is left of a unit is at most the slices until it is due
--
-- To read why: Policy is what the proof asks of a ranking, OnTrack the invariant, kept by every step of any policy (proofs/Laws); that
-- earliest deadline first is one is shown there too (Coming counts the units still to come, Ahead what one kind puts ahead of another).
-- Assumes nothing.
-- ---- the model
pub mod Setup
pub mod Moment
pub mod Step
pub mod Reached
-- ---- the test
pub mod EarliestFirst
pub mod Admitted
-- ---- the invariant
pub mod Policy
pub mod OnTrack
