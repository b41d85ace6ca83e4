pub mod Views
pub mod Tables
pub mod LineFile
pub mod DraftViews
pub mod Faults
pub mod Homes
pub mod Tested
pub mod SectionRuns
