pub mod CreatedFiles
pub mod CreationLaws
pub mod Born
pub mod CreatedExamples
