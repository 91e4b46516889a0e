pub mod Stimuli
pub mod DrivenRun
