-- The texts of what a run in threads comes to; each is a line or more.
use Rattle.std.specs.Prelude.{ℕ, List, [], ◌∷◌, ◌++◌, flat_map, codes, Option, None, Some}
use Rattle.h5w_model.specs.declared.report.FlushLine.{FlushLine}
use Rattle.h5w_model.specs.declared.report.Poll.{Poll}
use Rattle.h5w_model.specs.declared.report.Poll.TheVariants as polls
use Rattle.h5w_model.specs.declared.report.PollLine.{PollLine}
use Rattle.h5w_text.specs.Replies.{spaced, spaced_value}
use Rattle.h5w_text.specs.Table.{numbers_text}

-- of a flush: how many pieces were visible then, and its rows
abbrev pub flush_text : FlushLine → List ℕ
flush_text line = numbers_text (codes "flush") (line.pieces ∷ line.rows ∷ [])

-- what a reader's call was answered, to the end of its line
abbrev pub answer_text : Poll → List ℕ
answer_text (polls.Rows rows sum) = (codes " rows" ++ spaced rows) ++ (codes " sum" ++ spaced_value sum) ++ 10 ∷ []
answer_text (polls.Again attempts) = numbers_text (codes " again") (attempts ∷ [])

-- of a reader's call: the reader, the call, and how many pieces the reader had seen before it and after it
abbrev pub poll_text : PollLine → List ℕ
poll_text line = (codes "poll" ++ flat_map spaced (line.reader ∷ line.poll ∷ line.before ∷ line.after ∷ [])) ++ answer_text line.answer

-- how many pieces the file has, all of which a second image has too
abbrev pub mirror_text : Option ℕ → List ℕ
mirror_text None = []
mirror_text (Some pieces) = numbers_text (codes "mirror") (pieces ∷ [])

abbrev pub done_text : ℕ → List ℕ
done_text rows = numbers_text (codes "done") (rows ∷ [])

-- the lines of all flushes, those of all calls, that of the second image if there is one, and how many rows there are in the end
abbrev pub report_text : List FlushLine → List PollLine → Option ℕ → ℕ → List ℕ
report_text flushes calls mirrored rows = (flat_map flush_text flushes ++ flat_map poll_text calls ++ mirror_text mirrored) ++ done_text rows
