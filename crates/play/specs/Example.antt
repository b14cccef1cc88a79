-- Document 01, "The player": its example, and the eleven lines, computed from the definitions.
-- Assumes nothing.
use Rattle.std.specs.Prelude.{◌≡◌, refl, List, [], ◌∷◌, ℕ}
use Rattle.laws.specs.Sum.{sum_to}
use Rattle.laws.specs.Least.{least_to}
use Rattle.laws.specs.First.{first_to}
use Rattle.laws.specs.Count.{count_to}
use Rattle.laws.specs.All.{all_to}
use Rattle.laws.specs.Written.{written}
use Rattle.laws.specs.Ranking.{rank_in, first_in, sooner}
use Rattle.answer.specs.Answer.{each_to}
use Rattle.plan.specs.Order.{within, sized, empty_project, empty_kind, tidy_projects, tidy_kinds, in_range, timed, budgets, sizes, unused}
use Rattle.plan.specs.Order.{projects_in_range, kind_in_range, kinds_in_range, budgets_fit, ranges, checked}
use Rattle.codec.specs.Pack.{unpack}
use Rattle.codec.specs.Bytes.{number_to}
use Rattle.codec.specs.Places.{parts_to}
use Rattle.plan_bytes.specs.Parts.{size, header_fields, project_fields, kind_fields, project_from, kind_from, projects_from, kinds_from}
use Rattle.plan_bytes.specs.Parts.{headed, decoded}
use Rattle.plan_bytes.specs.Reading.{header_spare, project_spare, kind_spare, projects_spare, kinds_spare, places_spare, spare_zero}
use Rattle.plan_bytes.specs.Reading.{body_answer, read_answer, read_of}
use Rattle.layout.specs.Cards.{held_from}
use Rattle.layout.specs.Layout.{cell_at, first_cell, owns, slot_of, held}
use Rattle.supply.specs.Supply.{window, supply}
use Rattle.supply.specs.Workload.{workload_part}
use Rattle.supply.specs.Greatest.{greatest_to}
use Rattle.supply.specs.Fit.{fits_at, least_width, allowed_length, least_excess}
use Rattle.workload.specs.Workload.{besides, part_of, workload}
use Rattle.verdict.specs.Verdict.{width_of, excess_of, fitted, admitted}
use Rattle.unit.specs.Form.{untouched, due_in_time, underway, unit_in_form, empty_unit}
use Rattle.unit.specs.Step.{until_due, gone_after, left_after}
use Rattle.unit.specs.Start.{early, startable}
use Rattle.rack.specs.Sums.{left_for, project_left, sums_right}
use Rattle.rack.specs.Form.{sum_fits, sums_in_form, in_form, sums_told, ready}
use Rattle.rack.specs.View.{has_card, cards_held, rank_of, chosen, takes_card, byte_on}
use Rattle.rack.specs.Rank.{working, active, outranks, view_of, rank, served}
use Rattle.rack.specs.Row.{byte_by, row_byte}
use Rattle.rack.specs.Start.{start_answer, start_of}
use Rattle.rack.specs.Release.{release_answer, released, release_of}
use Rattle.rack.specs.Advance.{unit_after, served_for, sum_after, advanced, advance_of}
use Rattle.rack.specs.Show.{room_for, show_answer}
use Rattle.commands.specs.Command.{command_fields, fields_say, command_of}
use Rattle.lines.specs.Text.{decimal_in, decimal}
use Rattle.lines.specs.Line.{plan_line, outcome, release_line, row_text, slice_line, end_line}
use Rattle.lines.specs.Ascii.{ascii}
use Rattle.player.specs.Turn.{line_of, after}
use Rattle.player.specs.Played.{turns, opening, played}

-- "Plan A, then releases (0,6) (1,2) (2,2), four slices, releases (1,2) (2,1)"
abbrev pub input : List ℕ
input =
    34 ∷ 24 ∷ 64 ∷
    16 ∷ 12 ∷ 32 ∷ 20 ∷
    0 ∷ 16 ∷ 1 ∷ 0 ∷ 12 ∷ 32 ∷ 8 ∷ 0 ∷ 128 ∷ 4 ∷ 32 ∷ 16 ∷ 1 ∷ 0 ∷ 4 ∷
    128 ∷ 3 ∷ 0 ∷ 136 ∷ 1 ∷ 0 ∷ 144 ∷ 1 ∷ 0 ∷
    0 ∷ 0 ∷ 0 ∷ 0 ∷ 0 ∷ 0 ∷ 0 ∷ 0 ∷ 0 ∷ 0 ∷ 0 ∷ 0 ∷
    136 ∷ 1 ∷ 0 ∷ 144 ∷ 0 ∷ 128 ∷ []

-- the eleven lines
abbrev pub output : List ℕ
output = ascii "plan ok\nr 0 6 ok\nr 1 2 ok\nr 2 2 ok\nt 0: 1 2\nt 1: 1 2\nt 2: 1 3\nt 3: 3 0\nr 1 2 ok\nr 2 1 refused 14\nend 0\n"

pub example : played input ≡ output
unfolding sum_to least_to first_to count_to all_to written rank_in first_in sooner each_to within sized empty_project empty_kind
    tidy_projects tidy_kinds in_range timed budgets sizes unused projects_in_range kind_in_range kinds_in_range budgets_fit ranges checked
    unpack number_to size parts_to header_fields project_fields kind_fields project_from kind_from projects_from kinds_from headed decoded
    header_spare project_spare kind_spare projects_spare kinds_spare places_spare spare_zero body_answer read_answer read_of cell_at
    held_from first_cell owns slot_of held window supply workload_part fits_at least_width greatest_to allowed_length least_excess besides
    part_of workload width_of excess_of fitted admitted untouched due_in_time underway unit_in_form empty_unit early startable left_for
    project_left sums_right sum_fits sums_in_form in_form sums_told ready until_due gone_after left_after working active outranks has_card
    cards_held rank_of chosen takes_card byte_on view_of rank served byte_by row_byte start_answer start_of release_answer released
    release_of unit_after served_for sum_after advanced room_for show_answer advance_of command_fields fields_say command_of decimal_in
    decimal plan_line outcome release_line row_text slice_line end_line line_of after turns opening played
example = refl
