pub mod ScriptLemmas
pub mod ImageLemmas
