mod LinesRun
mod ScriptTurns
