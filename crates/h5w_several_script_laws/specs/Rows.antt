-- A worked script over a file of two datasets, line by line, with its replies, and replies that are none.
use Rattle.std.specs.Prelude.{ℕ, ◌^◌, false, true, List, [], ◌∷◌, ◌++◌, pos}
use Rattle.h5w_model.specs.Lawful.{Rules, adds, flushes, shows_up_to, opens, refreshes, looks}
use Rattle.h5w_model.specs.declared.reply.Reply.TheVariants as replies
use Rattle.h5w_several_script_laws.specs.Scripts.{FileLine, uses, asks, FileReply, using, flushing_each, says, FileState, first_in}

-- integers of 32 bits, little-endian, in one column, in chunks of two rows; the limit, the budget and the attempts are
-- those of a script that names none
abbrev pub row_rules : Rules
row_rules = record {
  cutting = record { chunk_rows = 2; chunk_columns = 1; columns = 1; value_size = 4 };
  int_type = record { size = 4; big = false; signed = true };
  chunk_limit = 131060;
  space_limit = 2 ^ 40;
  budget = 65536;
  attempts = 8;
}

abbrev pub two_sets : FileState
two_sets = first_in (row_rules ∷ row_rules ∷ []) (2 ^ 40) 65536

-- rows are appended to both, and flushed; the pieces of the first dataset become visible
abbrev pub flush_lines : List FileLine
flush_lines =
    asks (adds (pos 1 ∷ pos 2 ∷ pos 3 ∷ []))
    ∷ uses 2
    ∷ asks (adds (pos 9 ∷ []))
    ∷ asks flushes
    ∷ asks (shows_up_to 6)
    ∷ []

-- the answers up to the flush, whose pieces are these
abbrev pub flush_replies : List ℕ → List FileReply
flush_replies counts =
    says (replies.Appended 3 0)
    ∷ using 2
    ∷ says (replies.Appended 1 0)
    ∷ flushing_each counts
    ∷ says (replies.Written 6 5)
    ∷ []

-- a reader of each dataset; then the pieces of the second one too
abbrev pub reader_lines : List FileLine
reader_lines =
    asks (opens 1)
    ∷ asks (looks 1 9)
    ∷ uses 1
    ∷ asks (opens 2)
    ∷ asks (looks 2 9)
    ∷ asks (shows_up_to 5)
    ∷ asks (refreshes 1)
    ∷ asks (looks 1 9)
    ∷ []

-- the answers, of which the first reader's first and the second reader's have so many rows
abbrev pub reader_replies : (early other : ℕ) → List FileReply
reader_replies early other =
    says (replies.Opening 1)
    ∷ says (replies.Rows 1 early)
    ∷ using 1
    ∷ says (replies.Opening 2)
    ∷ says (replies.Rows 2 other)
    ∷ says (replies.Written 5 0)
    ∷ says (replies.Refreshing 1)
    ∷ says (replies.Rows 1 1)
    ∷ []

abbrev pub row_lines : List FileLine
row_lines = flush_lines ++ reader_lines

abbrev pub row_replies : (counts : List ℕ) → (early other : ℕ) → List FileReply
row_replies counts early other = flush_replies counts ++ reader_replies early other
