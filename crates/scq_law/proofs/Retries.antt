pub mod RetryLaws
pub mod CallLaws
pub mod StepLaws
