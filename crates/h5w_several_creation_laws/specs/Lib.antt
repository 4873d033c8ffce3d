pub mod Links
pub mod SeveralFiles
pub mod SeveralLaws
pub mod SeveralExamples
