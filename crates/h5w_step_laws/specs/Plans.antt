-- Pieces one after another: what a plan or a flush does to a file, and ranges that no reader reaches.
use Rattle.std.specs.Prelude.{◌≡◌, ◌≢◌, ℕ, ◌+◌, ◌≤◌, ◌<◌, true, false, List, [], ◌∷◌, ◌++◌, length}
use Rattle.h5w_model.specs.Numbers.{undefined}
use Rattle.h5w_model.specs.Images.{apply, image, Apart, pieces}
use Rattle.h5w_model.specs.Findings.{Used}
use Rattle.h5w_model.specs.declared.piece.Write.{Write}
use Rattle.h5w_step_laws.specs.Ranges.{Among, AllAmong, AllEndBy, Disjoint}
use Rattle.h5w_step_laws.specs.Moments.{Moment, all_used, chunk_of, cell_place, Represents}
use Rattle.h5w_step_laws.specs.Steps.{Clear, Step}

-- What these pieces do, one after another, without rows: they take a moment and what is held to others.
abbrev pub Plan : List ℕ → Moment → List Used → List Write → Moment → List Used → Type 0
Plan img m held [] n after = (n ≡ m) × (after ≡ held)
Plan img m held (w ∷ ws) n after =
    (between : Moment) × (now : List Used) × Step img m held w between now × (between.values ≡ m.values) × Plan (apply w img) between now ws n after

-- a flush: the same, but that its last piece may bring rows
abbrev pub Flush : List ℕ → Moment → List Used → List Write → Moment → List Used → Type 0
Flush img m held [] n after = (n ≡ m) × (after ≡ held)
Flush img m held (w ∷ ws) n after =
    (between : Moment) × (now : List Used) × Step img m held w between now × (ws ≢ [] → between.values ≡ m.values) × Flush (apply w img) between now ws n after

-- ---- Laws

abbrev pub PlansJoin : Type 0
PlansJoin = (img : List ℕ) (m n o : Moment) (held now after : List Used) (ws vs : List Write) → Plan img m held ws n now → Plan (image img ws) n now vs o after → Plan img m held (ws ++ vs) o after

-- a plan and one piece more are a flush
abbrev pub FlushFrom : Type 0
FlushFrom = (img : List ℕ) (m b n : Moment) (held now after : List Used) (ws : List Write) (w : Write) → Plan img m held ws b now → Step (image img ws) b now w n after
    → Flush img m held (ws ++ w ∷ []) n after

-- the image after a plan or a flush is the file at the moment to which it leads
abbrev pub FlushLeads : Type 0
FlushLeads = (img name : List ℕ) (m n : Moment) (held after : List Used) (ws : List Write) → Represents img name m → Flush img m held ws n after → Represents (image img ws) name n

abbrev pub PlanLeads : Type 0
PlanLeads = (img name : List ℕ) (m n : Moment) (held after : List Used) (ws : List Write) → Represents img name m → Plan img m held ws n after → Represents (image img ws) name n

-- ---- Ranges that no reader reaches

-- the bytes of a range
pub record UnseenRange (m : Moment) (held : List Used) (place len : ℕ) : Type 0 where
  pub off_blocks : (u : Used) → Among u (all_used m) → u.chunk ≡ false → Apart place len u.place u.len
  pub off_held : (u : Used) → Among u held → u.chunk ≡ false → Apart place len u.place u.len
  pub off_cells : (k : ℕ) → k < length m.values → chunk_of m k ≢ undefined → Apart place len (cell_place m k) m.dataset.int_type.size

-- pieces of one such range are a plan that changes nothing for readers
abbrev pub UnseenPieces : Type 0
UnseenPieces = (img : List ℕ) (m : Moment) (held : List Used) (place : ℕ) (bytes : List ℕ) → UnseenRange m held place (length bytes) → Plan img m held (pieces place bytes) m held

-- past the end-of-file address
abbrev pub PastEnd : Type 0
PastEnd = (img name : List ℕ) (m : Moment) (held : List Used) (place len : ℕ) → Represents img name m → AllEndBy m.super.end held → m.super.end ≤ place → UnseenRange m held place len

-- a place that is apart from all ranges, as one that was retired before the last header piece
abbrev pub FreePlace : Type 0
FreePlace = (img name : List ℕ) (m : Moment) (held : List Used) (place len : ℕ) → Represents img name m
    → ((u : Used) → Among u (all_used m) → Apart place len u.place u.len) → ((u : Used) → Among u held → Apart place len u.place u.len) → UnseenRange m held place len

-- inside a chunk of the index, beside the cells of the rows
abbrev pub OwnCells : Type 0
OwnCells = (img name : List ℕ) (m : Moment) (held : List Used) (chunk : Used) (place len : ℕ) → Represents img name m → Clear held m → Among chunk m.behind → chunk.chunk ≡ true
    → chunk.place ≤ place → place + len ≤ chunk.place + chunk.len
    → ((k : ℕ) → k < length m.values → chunk_of m k ≢ undefined → Apart place len (cell_place m k) m.dataset.int_type.size)
    → UnseenRange m held place len

-- After a header piece: a range of an earlier moment that is used no more is free, where all that is used now was used then or
-- is fresh. So a retired place may be taken again in the next flush.
abbrev pub RetiredPlace : Type 0
RetiredPlace = (img name : List ℕ) (m n : Moment) (fresh : List Used) (u : Used) → Represents img name n → Disjoint (fresh ++ all_used m) → AllAmong (all_used n) (fresh ++ all_used m)
    → Among u (all_used m) → ¬ Among u (all_used n) → UnseenRange n n.behind u.place u.len
