-- Cases, computed
pub mod TextComputes
pub mod TextCorners
-- Laws
pub mod BlankLaws
pub mod BlankUtf8
pub mod BracketsLaws
pub mod FindingLaws
pub mod MeasuresLaws
pub mod PieceLaws
pub mod CountLaws
pub mod TextScanLaws
pub mod WalkSteps
pub mod PlaceLaws
pub mod TextScanSteps
