mod StepLemmas
mod ReadingLemmas
mod WholeLemmas
