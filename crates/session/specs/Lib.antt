pub mod LineRuns
pub mod ScriptRuns
