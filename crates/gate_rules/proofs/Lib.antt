-- Cases, computed
pub mod Computes
pub mod Marked
pub mod Corners
-- Laws of the table and of what is left
pub mod ConditionLaws
pub mod TableLaws
pub mod TreeLaws
pub mod LeftLaws
pub mod RefusalLaws
pub mod ExportLaws
pub mod ProgramLaws
-- Laws of trees, records and baselines
pub mod OverLaws
pub mod PackLaws
pub mod UnpackLaws
pub mod TreeFunctions
pub mod RecordsLaws
pub mod TreeSizes
pub mod BufferLaws
pub mod WorkLaws
pub mod SumLaws
pub mod BaselineLaws
pub mod EntryLaws
pub mod StaleLaws
pub mod BaselineMap
pub mod MeanLaws
pub mod RowOrders
pub mod RowLaws
pub mod ListingSizes
pub mod CallLaws
pub mod CallSizes
-- Steps that loops cite
pub mod LoopForms
pub mod ScanForms
pub mod PathForms
pub mod RecordLaws
pub mod FileLaws
pub mod WriteForms
-- The promises, proved
pub mod RoundTrip
pub mod NeverWorseProof
pub mod SettlesProof
pub mod GateLaws
pub mod Worked
