mod UsedLemmas
mod PieceLemmas
mod LookLemmas
mod ScriptLemmas
mod StartLemmas
mod AnswerLemmas
mod AloneLemmas
