-- The texts of replies to the lines of a script over the datasets of a file.
use Rattle.std.specs.Prelude.{ℕ, List, [], ◌∷◌, codes}
use Rattle.h5w_text.specs.Replies.{reply_text}
use Rattle.h5w_text.specs.Table.{numbers_text}
use Rattle.h5w_several_script_laws.specs.Scripts.{FileReply, using, flushing_each, goes_on, took_over, says}

-- the line of a reply
abbrev pub file_reply_text : FileReply → List ℕ
file_reply_text (using i) = numbers_text (codes "using") (i ∷ [])
file_reply_text (flushing_each counts) = numbers_text (codes "flushing") counts
file_reply_text goes_on = numbers_text (codes "running") []
file_reply_text (took_over rows) = numbers_text (codes "takeover") rows
file_reply_text (says reply) = reply_text reply
