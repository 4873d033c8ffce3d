-- The input of an append to several datasets, to its end or to a refusal.
use Rattle.std.proofs.Common.{◌≡◌, ℕ, ◌+◌, ◌/◌, ◌<◌, ◌≤◌, Bool, true, false, List, [], ◌∷◌, ◌++◌, length, ℤ, Option, Some, None, Result, Ok, Err, refl, sym, ap, ◌∙◌, subst, inl, inr, arith, nat_lt, if◌then◌else◌}
use Rattle.std.specs.Prelude.{slice_get}
use Rattle.std.proofs.lemmas.Bool.{cases_lt, le-ltb}
use Rattle.std.proofs.lemmas.List.{length-map}
use Rattle.h5w_model.specs.Causes.{Rose}
use Rattle.h5w_model.specs.Datasets.{Described}
use Rattle.h5w_model.specs.Lawful.{first_outside}
use Rattle.h5w_model.specs.Tables.{format_limits, limit_of, needed}
use Rattle.h5w_image.specs.View.{DiskView}
use Rattle.h5w_writer.specs.Refusals.{append_refusal, chunks_refusal}
use Rattle.h5w_writer.specs.Sessions.{Session, chunk_limit, chunks_with, rows_of, with_rows}
use Rattle.h5w_writer.specs.declared.refusal.AppendError.TheVariants as appends
use Rattle.h5w_input.specs.LinesAhead.{Given, GivenUp, IntakeView, IsOver, IsWhole, LinesAhead, lines_ahead}
use Rattle.h5w_input.specs.declared.line.LineError.{LineError}
use Rattle.h5w_input.specs.declared.line.LineError.TheVariants as line_errors
use Rattle.h5w_text.specs.Streams.{SourceView, SinkView}
use Rattle.h5w_text.specs.declared.error.ErrorLine.{ErrorLine}
use Rattle.h5w_text.specs.declared.error.ErrorLine.TheVariants as errors
use Rattle.h5w_batches.specs.Inputs.{input_limit, outside}
use Rattle.h5w_batches.specs.Reads.{error_of}
use Rattle.h5w_batches.proofs.InputLemmas.{rose_before}
use Rattle.h5w_batches.proofs.LineLemmas.{starts}
use Rattle.h5w_files.specs.Images.{LeavesFiles}
use Rattle.h5w_files.proofs.SinkLemmas.{gave_nothing}
use Rattle.h5w_appending.specs.Taken.{rows_after}
use Rattle.h5w_several_batches.specs.SetLines.{columns_at, set_line_of, used_after, used_by}
use Rattle.h5w_several_batches.specs.SetInputs.{SaysAll, SaysBefore, SaysFirst, SaysTooMuch, SaysWhole}
use Rattle.h5w_several_batches.specs.declared.line.SetLine.{SetLine}
use Rattle.h5w_several_batches.specs.declared.line.SetLine.TheVariants.{Numbers}
use Rattle.h5w_several_batches.proofs.SaidLemmas.{Saying, first_of_all, saying_first, saying_more, says_first, says_none, says_then, says_too_much, says_whole, used-append}
use Rattle.h5w_several_writer_laws.specs.Sessions.{Sessions}
use Rattle.h5w_appending.proofs.TellLemmas.{other_refusal}
use Rattle.h5w_several_appending.specs.Appending.{ClosesOn, FlushRefused, HalfTold, IsBegun, IsReady, IsSpelled, LineCause, LinesOn, NeedsPlace, PutsAll, PutsBy, ReadyUnlessDisk, Steps, TakesInput, TakesInputFrom, TakesInputOn, TakesLine, Told, ValuesCause, ValuesRefused, ending_of, no_depth, no_memory, no_place, not_read, not_taken, out_of_range, says_nothing, too_many, wanting}
use Rattle.h5w_several_appending.specs.Stores.{Stored, datasets_of}
use Rattle.h5w_several_appending.specs.Taken.{SetBatches, after_all, after_said, columns_in, columns_of, no_sets, of_all, of_first}
use Rattle.h5w_several_appending.specs.Tells.{AtLine, Closes, HasValues, IsWhyBy, LacksChunks, all_batches, of_chunks, of_depth, of_input, of_line, of_memory, of_range, of_room, of_source}
use Rattle.h5w_several_appending.specs.declared.batching.Ending.{Ending}
use Rattle.h5w_several_appending.specs.declared.batching.Ending.TheVariants as endings
use Rattle.h5w_several_appending.proofs.PartLemmas.{TakenAt, alike_columns, taken_at, taken_columns}
use Rattle.h5w_several_appending.proofs.SetLemmas.{all-append, all_used}
use Rattle.h5w_several_appending.proofs.StepLemmas.{ready_begun}
use Rattle.h5w_several_appending.proofs.StoreLemmas.{broke_puts, stored_none, stored_puts}

-- ---- A loop over the lines

-- what the session has done behind so many first lines, whatever it had done before
abbrev pub DoneOn : ℕ → List ℕ → Sessions → Sessions → List SetLine → DiskView → DiskView → SinkView → SinkView → Type 0
DoneOn n name S T said v w k l =
    (first : Sessions) (u : DiskView) (m : SinkView) → u.faults ≡ n → Told name first S (no_sets (datasets_of first.parts)) u v m k → Told name first T (after_all (datasets_of first.parts) (no_sets (datasets_of first.parts)) said) u w m l

-- so many lines were read and taken
pub record Taking (n : ℕ) (name columns : List ℕ) (S T : Sessions) (x y : LinesAhead) (number used : ℕ) (v w : DiskView) (k l : SinkView) : Type 0 where
  pub said : List SetLine
  pub saying : Saying columns x y number said
  pub used_is : used ≡ used_by 0 said
  pub inside : used < length columns
  pub done : DoneOn n name S T said v w k l
  pub ready : IsReady name T w
  pub are : columns ≡ columns_in T.parts

pub taking_first : {v : DiskView} {k : SinkView} (n : ℕ) (name columns : List ℕ) (S : Sessions) (x : LinesAhead) → IsReady name S v → columns ≡ columns_in S.parts → 1 ≤ length columns → Taking n name columns S S x x 0 0 v v k k
taking_first n name columns S x ready are some = record { said = []; saying = saying_first columns x; used_is = refl; inside = some; done = λ first u m counted told. told; ready = ready; are = are }

same_said : (x y : SetLine) (o : Option SetLine) → o ≡ Some x → o ≡ Some y → x ≡ y
same_said x y o e f = let same : Some x ≡ Some y = sym e ∙ f in cc

-- the batches of the lines so far, and the dataset in use
used_so_far : (ds : List Described) (said : List SetLine) (used : ℕ) → used ≡ used_by 0 said → (after_all ds (no_sets ds) said).used ≡ used
used_so_far ds said used is = all_used ds (no_sets ds) said ∙ sym is

-- one more line
pub done_more : {v w z : DiskView} {k l o : SinkView} (n : ℕ) (name columns : List ℕ) (S T R : Sessions) (line : List ℕ) (number used d : ℕ) (said : List SetLine) → used ≡ used_by 0 said → DoneOn n name S T said v w k l → (h : IsSpelled columns used line d)
    → LinesOn n name columns used number line T R w z l o (Ok d) → DoneOn n name S R (said ++ h.said ∷ []) v z k o
done_more {v} {w} {z} {k} {l} {o} n name columns S T R line number used d said is done h step = λ first u m counted told.
    let ds = datasets_of first.parts in
    let b = after_all ds (no_sets ds) said in
    let next = step first b u m counted (used_so_far ds said used is) (done first u m counted told) in
    let same : next.0 ≡ h.said = same_said next.0 h.said (set_line_of columns used line) next.1 h.is in
    subst (λ (c : SetBatches). Told name first R c u z m o) (ap (after_said ds b) same ∙ sym (all-append ds (no_sets ds) said h.said)) next.3

pub taking_more : {v w z : DiskView} {k l o : SinkView} {x y e : LinesAhead} {number used : ℕ} (n : ℕ) (name columns : List ℕ) (S T R : Sessions) (line : List ℕ) (d : ℕ) → Taking n name columns S T x y number used v w k l → Given line y e → IsWhole line y e → IsSpelled columns used line d
    → LinesOn n name columns used (number + 1) line T R w z l o (Ok d) → IsReady name R z → d < length columns → columns_in R.parts ≡ columns_in T.parts → Taking n name columns S R x e (number + 1) d v z k o
taking_more {number = number} {used} n name columns S T R line d h given whole spelled step ready low same = record {
  said = h.said ++ spelled.said ∷ [];
  saying = saying_more line spelled.said h.saying given whole (subst (λ u. set_line_of columns u line ≡ Some spelled.said) h.used_is spelled.is);
  used_is = spelled.used_is ∙ ap (λ u. used_after u spelled.said) h.used_is ∙ sym (used-append 0 h.said spelled.said);
  inside = low;
  done = done_more n name columns S T R line (number + 1) used d h.said h.used_is h.done spelled step;
  ready = ready;
  are = h.are ∙ sym same;
}

-- ---- The columns

-- of the datasets that a session began with
columns_told : {u v : DiskView} {m k : SinkView} (name columns : List ℕ) (first S : Sessions) (b : SetBatches) → columns ≡ columns_in S.parts → Told name first S b u v m k → columns_of (datasets_of first.parts) ≡ columns
columns_told name columns first S b are told = taken_columns (datasets_of first.parts) S.parts b.sets told.stored.taken.parts ∙ sym are

-- ---- Its end

-- a batch that is to be closed is not flushed
close_cause : {u w : DiskView} {x y : SourceView} (name : List ℕ) (first T : Sessions) (b : SetBatches) (e : ErrorLine) → Closes (datasets_of first.parts) x y b → Stored name first T b u w → FlushRefused T e → IsWhyBy (NeedsPlace name first u) (datasets_of first.parts) x y b e
close_cause {w = w} name first T b e closes stored (no_place full bounds) = of_room full closes (record { session = T; before = w; stored = stored; bounds = bounds })
close_cause name first T b e closes stored no_depth = of_depth closes
close_cause name first T b e closes stored wanting = of_memory

-- the end of the input closes the last batch
pub taken_end : {v w : DiskView} {k l : SinkView} {x y : SourceView} (z : DiskView) (o : SinkView) (n : ℕ) (name columns : List ℕ) (S T R : Sessions) (said : List SetLine) (r : Result (Unit {0}) Ending) → columns ≡ columns_in S.parts → SaysAll columns x y said → DoneOn n name S T said v w k l
    → ClosesOn n name T R w z l o r → TakesInputOn n name S R x y v z k o r
taken_end {v} {w} {k} {l} {x} {y} z o n name columns S T R said r are read done step = λ first u m counted told.
    let ds = datasets_of first.parts in
    let before = done first u m counted told in
    let all = subst (λ (c : List ℕ). SaysAll c x y said) (sym (columns_told name columns first S (no_sets ds) are told)) read in
    cases first u m before all r (step first (after_all ds (no_sets ds) said) u m counted before)
  where
    cases : (first : Sessions) (u : DiskView) (m : SinkView) → Told name first T (after_all (datasets_of first.parts) (no_sets (datasets_of first.parts)) said) u w m l → SaysAll (columns_of (datasets_of first.parts)) x y said → (r : Result (Unit {0}) Ending)
        → Steps name first R (after_all (datasets_of first.parts) (no_sets (datasets_of first.parts)) said) (all_batches (datasets_of first.parts) said) (FlushRefused T) u z m o r → TakesInput name first R x y u z m o r
    cases first u m before all (Ok a) h = (said, all, h)
    cases first u m before all (Err (endings.Refused e)) h =
        let b = after_all (datasets_of first.parts) (no_sets (datasets_of first.parts)) said in
        (b, of_first said (first_of_all all), close_cause name first T b e (record { said = said; batches = refl; read = inr all }) before.stored h.1, h.0)
    cases first u m before all (Err endings.Disk) h = (after_all (datasets_of first.parts) (no_sets (datasets_of first.parts)) said, of_first said (first_of_all all), h)
    cases first u m before all (Err endings.Sink) h = (all_batches (datasets_of first.parts) said, of_all said all, h)

-- ---- A line at which it ends

-- the chunks that are needed, their limit, and which is more
record ArePastIt (a b chunks most : ℕ) : Type 0 where
  chunks_are : chunks ≡ b
  limit_is : most ≡ a
  past : a < b

past_it : (a b chunks most : ℕ) (t : Bool) → nat_lt a b ≡ t → (if t then Some (appends.Chunks b a) else None) ≡ Some (appends.Chunks chunks most) → ArePastIt a b chunks most
past_it a b chunks most true e h = record { chunks_are = cc; limit_is = cc; past = elim (cases_lt a b) [ inl low ↦ low | inr high ↦ absurd (let clash : true ≡ false = sym e ∙ le-ltb a b high in cc) ] }
past_it a b chunks most false e h = absurd (cc)

lacks_chunks : (ds : List Described) (S : Sessions) (x : SourceView) (b : SetBatches) (number : ℕ) (values : List ℤ) (s : Session) (chunks most : ℕ) → HasValues ds x b number values → TakenAt ds s b.sets b.used → append_refusal s values ≡ Some (appends.Chunks chunks most)
    → LacksChunks ds x b chunks most
lacks_chunks ds S x b number values s chunks most at t refused =
    let d = t.set in
    let taken = t.taken in
    let c = s.dataset.shape.cols in
    let more = length values / c in
    let past = past_it (chunk_limit s) (chunks_with s more) chunks most (nat_lt (chunk_limit s) (chunks_with s more)) refl
    (other_refusal s.stopped (nat_lt 0 (length s.pending)) (length s.pending) (first_outside s.dataset.int_type 0 values) (chunks_refusal s more) chunks most refused) in
    let columns : c ≡ d.shape.cols = ap (λ (y : Described). y.shape.cols) taken.dataset in
    let rows : rows_of s ≡ rows_after d.shape.cols d.shape.rows t.own.closed + s.waits = ap (λ n. n + s.waits) taken.rows in
    let same : needed (with_rows (rows_of s + more) s.dataset) ≡ needed (with_rows (rows_of s + more) d) = ap (λ (y : Described). needed (with_rows (rows_of s + more) y)) taken.dataset in
    let counted : needed (with_rows (rows_of s + more) d) ≡ needed (with_rows (rows_after d.shape.cols d.shape.rows t.own.closed + s.waits + length values / d.shape.cols) d) =
    ap (λ n. needed (with_rows (n + more) d)) rows ∙ ap (λ n. needed (with_rows (rows_after d.shape.cols d.shape.rows t.own.closed + s.waits + length values / n) d)) columns in
    let limit : chunk_limit s ≡ limit_of format_limits d.layout.index = ap (λ (y : Described). limit_of format_limits y.layout.index) taken.dataset in
    let above = past.past in
    let limit_is = past.limit_is in
    let chunks_are = past.chunks_are in
    record {
      number = number;
      values = values;
      at = at;
      set = d;
      is = t.is;
      own = t.own;
      own_is = t.own_is;
      waits = s.waits;
      waiting = taken.waits;
      chunks_are = chunks_are ∙ same ∙ counted;
      limit_is = limit_is ∙ limit;
      past = omega (arith, above, limit_is, chunks_are);
    }

values_cause : {u w : DiskView} {x : SourceView} (y : SourceView) (name : List ℕ) (first T : Sessions) (b : SetBatches) (used number : ℕ) (values : List ℤ) (e : ErrorLine) → b.used ≡ used → HasValues (datasets_of first.parts) x b number values → Stored name first T b u w → ValuesRefused number used T values e
    → IsWhyBy (NeedsPlace name first u) (datasets_of first.parts) x y b e
values_cause y name first T b used number values e same at stored (out_of_range s i z is out) =
    let t = taken_at (datasets_of first.parts) T.parts b.sets b.used s (ap (slice_get T.parts) same ∙ is) stored.taken.parts in
    of_range number i z values t.set at t.is (subst (λ (d : Described). first_outside d.int_type 0 values ≡ Some (i, z)) t.taken.dataset out)
values_cause {x = x} y name first T b used number values e same at stored (too_many s chunks limit is refused) =
    let t = taken_at (datasets_of first.parts) T.parts b.sets b.used s (ap (slice_get T.parts) same ∙ is) stored.taken.parts in
    of_chunks chunks limit (lacks_chunks (datasets_of first.parts) T x b number values s chunks limit at t refused)
values_cause y name first T b used number values e same at stored no_memory = of_memory

-- why a line is refused
module _ {u w : DiskView} {x : SourceView} (y : SourceView) (name columns : List ℕ) (first T : Sessions) (said : List SetLine) (used number : ℕ) (line : List ℕ) (at : columns_of (datasets_of first.parts) ≡ columns) (is : (after_all (datasets_of first.parts) (no_sets (datasets_of first.parts)) said).used ≡ used)
    (count : number ≡ length said + 1) (before : SaysBefore (columns_of (datasets_of first.parts)) x said line) (stored : Stored name first T (after_all (datasets_of first.parts) (no_sets (datasets_of first.parts)) said) u w) where
  abbrev ds : List Described
  ds = datasets_of first.parts

  abbrev b : SetBatches
  b = after_all ds (no_sets ds) said

  spelled_here : (o : Option SetLine) → set_line_of columns used line ≡ o → set_line_of (columns_of ds) b.used line ≡ o
  spelled_here o e = ap (λ (c : List ℕ). set_line_of c b.used line) at ∙ ap (λ (d : ℕ). set_line_of columns d line) is ∙ e

  at_line : AtLine ds x b number line
  at_line = record { said = said; before = before; number = count; batches = refl }

  taken_cause : (values : List ℤ) (e : ErrorLine) → set_line_of columns used line ≡ Some (Numbers values) → ValuesCause used number values T e → IsWhyBy (NeedsPlace name first u) ds x y b e
  taken_cause [] e spelled c = close_cause name first T b e (record { said = said; batches = refl; read = inl (line, before, spelled_here (Some (Numbers [])) spelled) }) stored c
  taken_cause (v ∷ vs) e spelled c = values_cause y name first T b used number (v ∷ vs) e is (record { line = line; at = at_line; spelled = spelled_here (Some (Numbers (v ∷ vs))) spelled }) stored c

  pub line_cause : (e : ErrorLine) → LineCause columns used number line T e → IsWhyBy (NeedsPlace name first u) ds x y b e
  line_cause e (says_nothing none) = of_line number line at_line (spelled_here None none)
  line_cause e (not_taken values f spelled c) = taken_cause values f spelled c
  line_cause e not_read = of_memory

-- the line is refused, or a disk or a sink failed at it
pub taken_line : {v w : DiskView} {k l : SinkView} {x y : LinesAhead} {number used : ℕ} (z : DiskView) (o : SinkView) (t : SourceView) (n : ℕ) (name columns : List ℕ) (S T R : Sessions) (line : List ℕ) (ending : Ending) → columns ≡ columns_in S.parts → x.room ≡ input_limit
    → (h : Taking n name columns S T x y number used v w k l) → SaysBefore columns (outside x) h.said line → LinesOn n name columns used (number + 1) line T R w z l o (Err ending) → TakesInputOn n name S R (outside x) t v z k o (Err ending)
taken_line {v} {w} {k} {l} {x} {y} {number} {used} z o t n name columns S T R line ending are room h before step = λ first u m counted told.
    let ds = datasets_of first.parts in
    let at = columns_told name columns first S (no_sets ds) are told in
    cases first u m at (h.done first u m counted told) ending (step first (after_all ds (no_sets ds) h.said) u m counted (used_so_far ds h.said used h.used_is) (h.done first u m counted told))
  where
    -- the lines before it
    front : (first : Sessions) → columns_of (datasets_of first.parts) ≡ columns → SaysFirst (columns_of (datasets_of first.parts)) (outside x) h.said
    front first at = subst (λ (c : List ℕ). SaysFirst c (outside x) h.said) (sym at) (says_first room h.saying)

    cases : (first : Sessions) (u : DiskView) (m : SinkView) → columns_of (datasets_of first.parts) ≡ columns → Told name first T (after_all (datasets_of first.parts) (no_sets (datasets_of first.parts)) h.said) u w m l → (ending : Ending)
        → TakesLine name columns used (number + 1) line first T R (after_all (datasets_of first.parts) (no_sets (datasets_of first.parts)) h.said) u z m o (Err ending) → TakesInput name first R (outside x) t u z m o (Err ending)
    cases first u m at told (endings.Refused e) g =
        let ds = datasets_of first.parts in
        let count = h.saying.number_is in (
          after_all ds (no_sets ds) h.said,
          of_first h.said (front first at),
          line_cause t name columns first T h.said used (number + 1) line at (used_so_far ds h.said used h.used_is) (omega (arith, count)) (subst (λ (c : List ℕ). SaysBefore c (outside x) h.said line) (sym at) before) told.stored e g.1,
          g.0,
        )
    cases first u m at told endings.Disk g = (after_all (datasets_of first.parts) (no_sets (datasets_of first.parts)) h.said, of_first h.said (front first at), g)
    cases first u m at told endings.Sink g =
        let ds = datasets_of first.parts in
        let said = h.said ++ g.0 ∷ [] in
        let spelled : set_line_of columns (used_by 0 h.said) line ≡ Some g.0 = subst (λ (d : ℕ). set_line_of columns d line ≡ Some g.0) h.used_is g.1 in
        let first_lines = subst (λ (c : List ℕ). SaysFirst c (outside x) said) (sym at) (says_then g.0 before spelled) in
        (after_all ds (no_sets ds) said, of_first said first_lines, subst (λ (c : SetBatches). HalfTold name first R c u z m o) (sym (all-append ds (no_sets ds) h.said g.0)) g.2)

-- ---- The next line is not there

pub taken_source : {v w : DiskView} {k l : SinkView} {x y : LinesAhead} {number used : ℕ} (t : SourceView) (j : IntakeView) (n : ℕ) (name columns : List ℕ) (S T : Sessions) (e : LineError) → columns ≡ columns_in S.parts → x.room ≡ input_limit → x.limit ≡ input_limit
    → Taking n name columns S T x y number used v w k l → (e ≡ line_errors.Failed → Rose y.faults t.faults) → (e ≡ line_errors.Failed → GivenUp y (lines_ahead t j) j.held) → ((limit : ℕ) → e ≡ line_errors.Input limit → (limit ≡ y.limit) × IsOver y)
    → TakesInputOn n name S T (outside x) t v w k l (Err (ending_of (error_of e)))
taken_source {v} {w} {k} {l} {x} {y} {number} {used} t j n name columns S T e are room limited h rose up over = λ first u m counted told.
    let ds = datasets_of first.parts in
    let at = columns_told name columns first S (no_sets ds) are told in
    cases first u m at (h.done first u m counted told) e rose up over
  where
    front : (first : Sessions) → columns_of (datasets_of first.parts) ≡ columns → SaysFirst (columns_of (datasets_of first.parts)) (outside x) h.said
    front first at = subst (λ (c : List ℕ). SaysFirst c (outside x) h.said) (sym at) (says_first room h.saying)

    cases : (first : Sessions) (u : DiskView) (m : SinkView) → columns_of (datasets_of first.parts) ≡ columns → Told name first T (after_all (datasets_of first.parts) (no_sets (datasets_of first.parts)) h.said) u w m l → (e : LineError) → (e ≡ line_errors.Failed → Rose y.faults t.faults)
        → (e ≡ line_errors.Failed → GivenUp y (lines_ahead t j) j.held) → ((limit : ℕ) → e ≡ line_errors.Input limit → (limit ≡ y.limit) × IsOver y) → TakesInput name first T (outside x) t u w m l (Err (ending_of (error_of e)))
    cases first u m at told line_errors.Failed rose up over = (
      after_all (datasets_of first.parts) (no_sets (datasets_of first.parts)) h.said,
      of_first h.said (front first at),
      of_source h.said (rose_before x.faults y.faults t.faults h.saying.passing.passed.stays.faults (rose refl)) (subst (λ (c : List ℕ). SaysWhole c (outside x) t h.said) (sym at) (says_whole t j room h.saying (up refl))) refl,
      told,
    )
    cases first u m at told (line_errors.Input limit) rose up over =
        let g = over limit refl in
        let most : limit ≡ input_limit = g.0 ∙ h.saying.passing.passed.stays.limit ∙ limited in
        let b = after_all (datasets_of first.parts) (no_sets (datasets_of first.parts)) h.said in (
          b,
          of_first h.said (front first at),
          subst (λ (i : ℕ). IsWhyBy (NeedsPlace name first u) (datasets_of first.parts) (outside x) t b (errors.Input i)) (sym most)
              (of_input h.said (subst (λ (c : List ℕ). SaysTooMuch c (outside x) h.said) (sym at) (says_too_much room h.saying g.1)) refl),
          told,
        )
    cases first u m at told line_errors.OutOfMemory rose up over = (after_all (datasets_of first.parts) (no_sets (datasets_of first.parts)) h.said, of_first h.said (front first at), of_memory, told)

-- ---- From the lines to the source, which is given back

pub input_from : (n : ℕ) (name : List ℕ) (S T : Sessions) (a s b t : SourceView) (i : IntakeView) (v w : DiskView) (k l : SinkView) (z : Result (Unit {0}) Ending) → TakesInputOn n name S T (outside (lines_ahead a i)) b v w k l z → i.held ≡ [] → a ≡ s → b ≡ t
    → TakesInputOn n name S T s t v w k l z
input_from n name S T a s b t i v w k l z h none same given =
    subst (λ (x : SourceView). TakesInputOn n name S T x t v w k l z) same
    (subst (λ (y : SourceView). TakesInputOn n name S T a y v w k l z) given
    (subst (λ (x : SourceView). TakesInputOn n name S T x b v w k l z) (starts a i none) h))

pub ready_unread : {w : DiskView} (name : List ℕ) (T : Sessions) (e : LineError) → IsReady name T w → ReadyUnlessDisk {A = Unit {0}} name T w (Err (ending_of (error_of e)))
ready_unread name T line_errors.Failed ready = ready
ready_unread name T (line_errors.Input limit) ready = ready
ready_unread name T line_errors.OutOfMemory ready = ready

-- ---- The beginning

pub begun_put : {v w : DiskView} (n : ℕ) (name : List ℕ) (S T : Sessions) → PutsAll n name S T v w → IsBegun name S v → IsReady name T w
begun_put n name S T q begun = ready_begun n name S T q begun.there begun.running begun.room begun.end

-- the columns that were told of it
pub columns_put : {v w : DiskView} (n : ℕ) (name columns others : List ℕ) (S T : Sessions) → PutsAll n name S T v w → columns ≡ columns_in S.parts → others ≡ columns → others ≡ columns_in T.parts
columns_put n name columns others S T q are same = same ∙ are ∙ sym (alike_columns S.parts T.parts q.puts.keeps.parts)

pub columns_some : (columns others : List ℕ) → others ≡ columns → ((d : ℕ) → 1 ≤ columns_at columns d) → (d : ℕ) → 1 ≤ columns_at others d
columns_some columns others same some = subst (λ (cs : List ℕ). (d : ℕ) → 1 ≤ columns_at cs d) (sym same) some

pub columns_sets : (columns others : List ℕ) (ss : List Session) → columns ≡ columns_in ss → others ≡ columns → 1 ≤ length ss → 1 ≤ length others
columns_sets columns others ss are same some = let count : length others ≡ length ss = ap length (same ∙ are) ∙ length-map ss (λ (s : Session). s.dataset.shape.cols) in omega (arith, count, some)

pub told_begun : {u v w : DiskView} (k : SinkView) (n : ℕ) (name : List ℕ) (S T : Sessions) → u.faults ≡ n → LeavesFiles u.told u v → ((d : ℕ) → 1 ≤ columns_at (columns_in S.parts) d) → PutsAll n name S T v w → IsBegun name S v
    → Told name S T (no_sets (datasets_of S.parts)) u w k k
told_begun k n name S T counted p columns q begun =
    record { stored = stored_puts name S S T (no_sets (datasets_of S.parts)) (q.before ∙ sym counted) q.puts (stored_none name S p begun.some columns begun.waits); gave = gave_nothing k }

pub begun_ended : {v : DiskView} (w : DiskView) (k : SinkView) (x : SourceView) (n : ℕ) (name : List ℕ) (S T : Sessions) (e : Ending) → ((d : ℕ) → 1 ≤ columns_at (columns_in S.parts) d) → PutsBy n name S T v w (Err e) → IsBegun name S v → TakesInputFrom n name S T x x v w k k (Err e)
begun_ended w k x n name S T (endings.Refused e) columns h begun = absurd h
begun_ended w k x n name S T endings.Disk columns h begun = λ u counted p.
    let ds = datasets_of S.parts in
    (no_sets ds, of_first [] (says_none (columns_of ds) x), record { broke = broke_puts n name S S T (no_sets ds) counted h (stored_none name S p begun.some columns begun.waits); gave = gave_nothing k })
begun_ended w k x n name S T endings.Sink columns h begun = absurd h

-- memory for the last line was wanting
pub last_line_wanting : {u w : DiskView} {k l : SinkView} {x y : SourceView} (name : List ℕ) (first T : Sessions) → TakesInput name first T x y u w k l (Ok tt) → TakesInput name first T x y u w k l (Err (endings.Refused errors.Memory))
last_line_wanting name first T h = (all_batches (datasets_of first.parts) h.0, of_all h.0 h.1, of_memory, h.2)
