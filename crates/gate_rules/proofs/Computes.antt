-- All definitions that compute, by one name: what says `unfolding everything` may evaluate each of them.
use Rattle.source_rules.proofs.TextComputes.{all_of_texts}
use Rattle.gate_rules.specs.Baseline
use Rattle.gate_rules.specs.Calls
use Rattle.gate_rules.specs.Check
use Rattle.gate_rules.specs.Exports
use Rattle.gate_rules.specs.Functions
use Rattle.gate_rules.specs.Gate
use Rattle.gate_rules.specs.History
use Rattle.gate_rules.specs.Mean
use Rattle.gate_rules.specs.Pack
use Rattle.gate_rules.specs.Programs
use Rattle.gate_rules.specs.Records
use Rattle.gate_rules.specs.Report
use Rattle.gate_rules.specs.ReportCall
use Rattle.gate_rules.specs.Tree
use Rattle.gate_rules.specs.Update

unfoldable pub everything : Unit {0}
unfolding
    all_of_texts
    Functions.over Functions.is_comment
    Tree.file_count Tree.entry_fits Tree.entries_fit Tree.is_laid_out Tree.path_of Tree.source_at Tree.sources_from Tree.sources Tree.is_path Tree.rank Tree.path_before Tree.paths_rise Tree.texts_good Tree.tree_refusal
    Pack.packed_entry Pack.packed_table Pack.packed_texts Pack.packed
    Records.record_of Records.records_in Records.records_of_files Records.records Records.record_bytes Records.blank_into Records.name_of Records.viewed
    Gate.file_of Gate.fun_of Gate.functions_of_file Gate.functions_of_files Gate.gate
    Baseline.entry_of_fields Baseline.entry_of Baseline.entries_of_lines Baseline.entries Baseline.lookup
    Update.over_limit Update.row_before Update.recorded Update.row Update.rows Update.header Update.baseline_text
    Check.location Check.more_branches Check.more_lines Check.new_and_over Check.regressions Check.gone Check.distinct Check.stale Check.listed Check.spaced Check.stale_text Check.verdict_text Check.listing
    Mean.tenths_of Mean.mean Mean.mean_tenths Mean.mean_text
    Report.justified Report.report_row Report.report_rows Report.worse Report.reported Report.weight_of Report.weights Report.heavier Report.heaviest Report.weight_rows Report.report_text Report.sums_from
    Calls.work_after Calls.records_after Calls.scan_number Calls.scan_call Calls.check_number Calls.check_call Calls.update_number Calls.update_call
    ReportCall.sums_of ReportCall.sums_after ReportCall.report_of ReportCall.report_number ReportCall.report_call
    Exports.exported_blank Exports.export_number Exports.exported_at Exports.exported_scan Exports.exported_check Exports.exported_update Exports.exported_report
    Programs.report_program Programs.check_program Programs.update_program Programs.update_file
    History.step History.Allowed History.IsHistory History.passed_by History.passing
everything = tt
