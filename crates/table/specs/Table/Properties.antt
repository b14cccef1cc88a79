-- The proved table: document 01's P1 to P11 and document 02's S1 to S8, K1 to K8 and R1 to R5, computed from the definitions.
-- Assumes nothing.
use Rattle.std.specs.Prelude.{refl}
use Rattle.laws.specs.Sum.{sum_to}
use Rattle.laws.specs.Least.{least_to, least_place}
use Rattle.laws.specs.First.{first_to}
use Rattle.laws.specs.Count.{count_to}
use Rattle.laws.specs.All.{all_to}
use Rattle.laws.specs.Written.{written}
use Rattle.answer.specs.Answer.{each_to}
use Rattle.plan.specs.Order.{within, sized, empty_project, empty_kind, tidy_projects, tidy_kinds, in_range, timed, budgets, sizes, unused}
use Rattle.plan.specs.Order.{projects_in_range, kind_in_range, kinds_in_range, budgets_fit, ranges, checked}
use Rattle.plan.specs.Open.{project_there, in_range_open, projects_in_range_open, ranges_open, checked_open}
use Rattle.layout.specs.Cards.{held_from}
use Rattle.layout.specs.Layout.{cell_at, first_cell, owns, slot_of, held}
use Rattle.layout.specs.Table.{table_length, table_over, table_answer}
use Rattle.supply.specs.Supply.{window, supply, bad_slice}
use Rattle.supply.specs.Workload.{workload_part}
use Rattle.supply.specs.Greatest.{greatest_to}
use Rattle.supply.specs.Fit.{fits_at, least_width, allowed_length, least_excess, named_width, named_slice}
use Rattle.codec.specs.Pack.{pack, unpack}
use Rattle.codec.specs.Bytes.{number_to, bytes_of}
use Rattle.codec.specs.Places.{parts_to}
use Rattle.plan_bytes.specs.Parts.{size, header_bytes, project_bytes, kind_bytes, encoded, header_fields, project_fields, kind_fields}
use Rattle.plan_bytes.specs.Parts.{project_from, kind_from, projects_from, kinds_from, headed, decoded}
use Rattle.plan_bytes.specs.Reading.{header_spare, project_spare, kind_spare, projects_spare, kinds_spare, places_spare, spare_zero}
use Rattle.plan_bytes.specs.Reading.{body_answer, read_answer, read_of, counts_answer}
use Rattle.workload.specs.Workload.{besides, part_of, workload}
use Rattle.verdict.specs.Verdict.{width_of, excess_of, bad_slice_of, fitted, admitted, judged}
use Rattle.smallest_budget.specs.Smallest.{width_with, excess_with, slice_with, serves, least_budget, served_with, smallest_answer}
use Rattle.smallest_budget.specs.Smallest.{smallest_of}
use Rattle.one_kind.specs.Divisor.{repeated, divisor, divisor_to}
use Rattle.one_kind.specs.Wanted.{kinds_in, field_at}
use Rattle.one_kind.specs.Built.{rounded_up, offered, counts, frame_fits, timed_alone, kinds_timed, answer_for, built_of}
use Rattle.rescue.specs.Entry.{entry_bytes, listed, change, entries_to}
use Rattle.rescue.specs.Mended.{raised, lowered, project_for, kind_for, kept, kept_to, plan_for}
use Rattle.rescue.specs.Rescue.{project_spare_at, kind_spare_at, project_spare_change, spare_entries, kind_spare_change, project_entries}
use Rattle.rescue.specs.Rescue.{project_changes, kind_entries, kind_changes, changes_in, rest_answer, rescue_answer, rescue_of, list_over}
use Rattle.table.specs.Table.{Table}

pub table : Table
unfolding sum_to least_to least_place first_to count_to all_to written each_to within sized empty_project empty_kind tidy_projects
    tidy_kinds in_range timed budgets sizes unused projects_in_range kind_in_range kinds_in_range budgets_fit ranges checked cell_at
    held_from first_cell owns slot_of held table_length table_over table_answer window supply bad_slice workload_part fits_at least_width
    greatest_to allowed_length least_excess named_width named_slice besides part_of workload width_of excess_of bad_slice_of fitted admitted
    judged pack unpack number_to bytes_of size header_bytes project_bytes kind_bytes parts_to encoded header_fields project_fields
    kind_fields project_from kind_from projects_from kinds_from headed decoded header_spare project_spare kind_spare projects_spare
    kinds_spare places_spare spare_zero body_answer read_answer read_of project_there in_range_open projects_in_range_open ranges_open
    checked_open width_with excess_with slice_with serves least_budget served_with smallest_answer smallest_of repeated divisor divisor_to
    kinds_in field_at rounded_up offered counts frame_fits timed_alone kinds_timed answer_for built_of counts_answer entry_bytes listed
    change entries_to raised lowered project_for kind_for kept kept_to plan_for project_spare_at kind_spare_at project_spare_change
    spare_entries kind_spare_change project_entries project_changes kind_entries kind_changes changes_in rest_answer rescue_answer rescue_of
    list_over
table = record {
  P1-read = refl;
  P1-written = refl;
  P2 = record { result = refl; buffer = refl };
  P3 = refl;
  P3-slices = refl;
  P3-moved = refl;
  P3-moved-slices = refl;
  P4-one = refl;
  P4-two = refl;
  P5 = refl;
  P5-slices = refl;
  P6 = refl;
  P6-slice = refl;
  P7-shorter = refl;
  P7-longer = refl;
  P7-shorter-slices = refl;
  P7-longer-slice = refl;
  P8 = refl;
  P8-slices = refl;
  P8-longer = refl;
  P8-longer-slice = refl;
  P9 = refl;
  P9-slice = refl;
  P10 = refl;
  P11 = refl;
  S1 = refl;
  S2 = refl;
  S3-guessed = refl;
  S3 = refl;
  S3-written = refl;
  S4-guessed = refl;
  S4 = refl;
  S5 = refl;
  S6 = refl;
  S7 = refl;
  S8 = refl;
  K1 = refl;
  K1-judged = refl;
  K2 = refl;
  K3 = refl;
  K3-more = refl;
  K4 = refl;
  K5 = refl;
  K5-more = refl;
  K6 = refl;
  K7-none = refl;
  K7-nine = refl;
  K7-list = refl;
  K8 = refl;
  R1 = refl;
  R1-list = refl;
  R2 = refl;
  R2-list = refl;
  R2-seven = refl;
  R3 = refl;
  R3-seven = refl;
  R4 = refl;
  R4-list = refl;
  R5 = refl;
}
