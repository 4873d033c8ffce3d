pub mod OpenRanges
pub mod OpenAnswers
pub mod OpenSteps
pub mod OpenLaws
pub mod OpenParts
