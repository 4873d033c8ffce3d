-- What holds of every session is kept by each call, and which refusal applies.
use Rattle.std.proofs.Common.{◌≡◌, ◌≢◌, ℕ, zero, suc, ◌+◌, ◌-◌, ◌*◌, ◌/◌, ◌^◌, ◌<◌, ◌≤◌, Bool, true, false, nat_lt, if◌then◌else◌, List, [], ◌∷◌, ◌++◌, length, drop, get_or, ℤ, Option, Some, None, Result, Ok, Err, sym, refl, ap, ◌∙◌, subst, inl, inr, arith, length-append, length-drop}
use Rattle.std.proofs.lemmas.Bool.{cases_lt, lt-ltb, le-ltb}
use Rattle.std.proofs.lemmas.Nat.{mul-le, div-mul-add}
use Rattle.std.proofs.lemmas.List.{drop_all}
use Rattle.std.proofs.Math.Seq.{drop-cons}
use Rattle.std.specs.Option.{MatchOption, IfSome, unwrap_or}
use Rattle.std.proofs.Common.{Bor}
use Rattle.std.specs.Int.{div_ceil}
use Rattle.std.specs.Prelude.{slice_get}
use Rattle.h5w_model.specs.Images.{AllSized}
use Rattle.h5w_model.specs.Logs.{div_up}
use Rattle.h5w_model.specs.Lawful.{first_outside}
use Rattle.h5w_model.specs.Messages.{IsLayout}
use Rattle.h5w_model.specs.Tables.{needed, chunks_across}
use Rattle.h5w_model.specs.Superblock.{super_bytes}
use Rattle.h5w_model.specs.declared.root.Super.{Super}
use Rattle.h5w_model.specs.declared.piece.Write.{Write}
use Rattle.h5w_chunks.specs.Grids.{cells_of}
use Rattle.h5w_chunks.proofs.Geometry.{up_lt, lt_up, ceil_is_up}
use Rattle.h5w_writer.specs.Sessions.{Session, IsSession, AllEndBy, AfterPiece, AreRows, Settles, cleared, closed_of, chunk_limit, chunks_with, rows_of, row_bytes, stopped_of, with_rows, with_values}
use Rattle.h5w_model.specs.Findings.{the_superblock}
use Rattle.h5w_flush_laws.specs.Spaces.{extent_of}
use Rattle.h5w_space.specs.Space.{IsLive, Space}
use Rattle.h5w_space.specs.declared.Extent.{Extent}
use Rattle.h5w_writer.specs.Refusals.{append_refusal, chunks_refusal}
use Rattle.h5w_writer.specs.declared.refusal.AppendError.{AppendError}
use Rattle.h5w_writer.specs.declared.refusal.AppendError.TheVariants as appends
use Rattle.h5w_writer.proofs.TakingLemmas.{limit_top}
use Rattle.h5w_types.proofs.RunLemmas.{length-run_bytes}

-- ---- How many rows and chunks there can be

-- a number that is part of a product is no greater
part_of : (a b limit : ℕ) → 1 ≤ b → a * b ≤ limit → a ≤ limit
part_of a b limit some within =
    let times : a * 1 ≤ a * b = mul-le a 1 a b (omega arith) some in
    omega arith

pub up_at_most : (n per limit : ℕ) → 0 < per → div_up n per ≤ limit → n ≤ limit * per
up_at_most n per limit some within =
    elim (cases_lt (limit * per) n) [
      | inl more ↦ absurd (omega (arith, lt_up limit n per some more))
      | inr few ↦ few
    ]

-- some are needed for some
pub up_some : (n per : ℕ) → 0 < per → 1 ≤ n → 1 ≤ div_up n per
up_some n per some any = lt_up 0 n per some (omega arith)

-- no more parts than things
pub up_few : (n per : ℕ) → 0 < per → div_up n per ≤ n
up_few n per some =
    elim (cases_lt n (div_up n per)) [
      | inl more ↦
          let past : n * per < n = up_lt n n per some more in
          let times : n * 1 ≤ n * per = mul-le n 1 n per (omega arith) (omega arith) in
          absurd (omega arith)
      | inr few ↦ few
    ]

-- and of a sum no more than of one and the other
up_sum : (n more per : ℕ) → 0 < per → div_up (n + more) per ≤ div_up n per + more
up_sum n more per some =
    elim (cases_lt (div_up n per + more) (div_up (n + more) per)) [
      | inl past ↦
          let below : (div_up n per + more) * per < n + more = up_lt (div_up n per + more) (n + more) per some past in
          let whole : n ≤ div_up n per * per = up_at_most n per (div_up n per) some (omega arith) in
          let times : more * 1 ≤ more * per = mul-le more 1 more per (omega arith) (omega arith) in
          let split : (div_up n per + more) * per ≡ div_up n per * per + more * per = omega arith in
          absurd (omega arith)
      | inr few ↦ few
    ]

-- what the check of an append rests on
pub record AreCounts (s : Session) : Type 0 where
  pub some_rows : 0 < s.dataset.layout.chunk_rows
  pub some_cols : 0 < s.dataset.layout.chunk_cols
  pub rows : rows_of s < 2 ^ 52
  pub chunks : (more : ℕ) → more * s.dataset.shape.cols < 2 ^ 62 → chunks_with s more < 2 ^ 64
  pub more_rows : (more : ℕ) → more * s.dataset.shape.cols < 2 ^ 62 → more < 2 ^ 62

pub counts : (s : Session) → IsSession s → IsLayout s.dataset.layout s.dataset.shape s.dataset.int_type → 0 < s.dataset.int_type.size → AreCounts s
counts s is layout some =
    let per = s.dataset.layout.chunk_rows in
    let across = chunks_across s.dataset in
    let cols = s.dataset.shape.cols in
    let width = s.dataset.layout.chunk_cols in
    let size = s.dataset.int_type.size in
    let limit : chunk_limit s ≤ 1000000 = limit_top s.dataset.layout.index in
    let wide : 1 ≤ across = up_some cols width layout.cols is.some_columns in
    let narrow : across ≤ cols = up_few cols width layout.cols in
    let bands : div_up (rows_of s) per ≤ 1000000 = part_of (div_up (rows_of s) per) across 1000000 wide (omega (arith, is.few)) in
    let first : per * width ≤ per * width * size = part_of (per * width) size (per * width * size) some (omega arith) in
    let small : per ≤ per * width = part_of per width (per * width) layout.cols (omega arith) in
    let bound : per < 2 ^ 32 = omega (arith, layout.small) in
    let most : rows_of s ≤ 1000000 * per = up_at_most (rows_of s) per 1000000 layout.rows bands in
    record {
      some_rows = layout.rows;
      some_cols = layout.cols;
      rows = omega arith;
      chunks = λ more few.
          let sum : div_up (rows_of s + more) per ≤ div_up (rows_of s) per + more = up_sum (rows_of s) more per layout.rows in
          let times : div_up (rows_of s + more) per * across ≤ (div_up (rows_of s) per + more) * across = mul-le (div_up (rows_of s + more) per) across (div_up (rows_of s) per + more) across sum (omega arith) in
          let split : (div_up (rows_of s) per + more) * across ≡ div_up (rows_of s) per * across + more * across = omega arith in
          let added : more * across ≤ more * cols = mul-le more across more cols (omega arith) narrow in
          omega (arith, is.few);
      more_rows = λ more few.
          let times : more * 1 ≤ more * cols = mul-le more 1 more cols (omega arith) is.some_columns in
          omega arith;
    }

-- of a session as its fields tell it
pub counts_of : (v s : Session) → v ≡ s → IsSession v → IsLayout v.dataset.layout v.dataset.shape v.dataset.int_type → 0 < v.dataset.int_type.size → AreCounts s
counts_of v s e is layout some = subst AreCounts e (counts v is layout some)

pub chunks_are : (v s : Session) → v ≡ s → (rows bands across more : ℕ) → rows ≡ rows_of s → bands ≡ div_ceil (rows + more) v.dataset.layout.chunk_rows → across ≡ div_ceil v.dataset.shape.cols v.dataset.layout.chunk_cols
    → 0 < v.dataset.layout.chunk_rows → 0 < v.dataset.layout.chunk_cols → bands * across ≡ chunks_with s more
chunks_are v s e rows bands across more counted down side some wide =
    let per = v.dataset.layout.chunk_rows in
    let first : bands ≡ div_up (rows_of v + more) per = down ∙ ceil_is_up (rows + more) per some ∙ ap (λ (n : ℕ). div_up (n + more) per) (counted ∙ ap rows_of (sym e)) in
    let second : across ≡ chunks_across v.dataset = side ∙ ceil_is_up v.dataset.shape.cols v.dataset.layout.chunk_cols wide in
    ap (λ (n : ℕ). n * across) first ∙ ap (λ (n : ℕ). div_up (rows_of v + more) per * n) second ∙ ap (λ (t : Session). chunks_with t more) e

-- so many rows that these values are
pub rows_are : (s : Session) (values : List ℤ) → 1 ≤ s.dataset.shape.cols → AreRows s values → length values / s.dataset.shape.cols * s.dataset.shape.cols ≡ length values
rows_are s values some rows =
    let cols = s.dataset.shape.cols in
    let count : length values / cols ≡ rows.0 = ap (λ (n : ℕ). n / cols) (rows.1 ∙ omega arith) ∙ div-mul-add rows.0 cols 0 (omega arith) in
    ap (λ (n : ℕ). n * cols) count ∙ sym rows.1

-- ---- Which refusal applies

abbrev refusal_by : (stopped busy : Bool) (pending : ℕ) → Option (ℕ × ℤ) → Option AppendError → Option AppendError
refusal_by stopped busy pending outside last =
    if stopped then Some appends.Stopped
    else if busy then Some (appends.Busy pending)
    else elim outside [ Some x ↦ Some (appends.OutOfRange x.0 x.1) | None ↦ last ]

record NoneApplies (stopped busy : Bool) (outside : Option (ℕ × ℤ)) (last : Option AppendError) : Type 0 where
  running : stopped ≡ false
  idle : busy ≡ false
  fit : outside ≡ None
  room : last ≡ None

none_applies : (stopped busy : Bool) (pending : ℕ) (outside : Option (ℕ × ℤ)) (last : Option AppendError) → refusal_by stopped busy pending outside last ≡ None → NoneApplies stopped busy outside last
none_applies true busy pending outside last none = cc
none_applies false true pending outside last none = cc
none_applies false false pending (Some x) last none = cc
none_applies false false pending None last none = record { running = refl; idle = refl; fit = refl; room = none }

-- what holds where an append is not refused
pub record Accepted (s : Session) (values : List ℤ) : Type 0 where
  pub running : s.stopped ≡ false
  pub idle : s.pending ≡ []
  pub fit : first_outside s.dataset.int_type 0 values ≡ None
  pub room : chunks_with s (length values / s.dataset.shape.cols) ≤ chunk_limit s

chunks_fit : (s : Session) (more : ℕ) → chunks_refusal s more ≡ None → chunks_with s more ≤ chunk_limit s
chunks_fit s more none =
    elim (cases_lt (chunk_limit s) (chunks_with s more)) [
      | inl many ↦
          let test : chunks_refusal s more ≡ Some (appends.Chunks (chunks_with s more) (chunk_limit s)) = rw (lt-ltb (chunk_limit s) (chunks_with s more) many) refl in
          let clash : Some (appends.Chunks (chunks_with s more) (chunk_limit s)) ≡ None = sym test ∙ none in
          cc
      | inr few ↦ few
    ]

pub none_pending : (ws : List Write) → nat_lt 0 (length ws) ≡ false → ws ≡ []
none_pending [] e = refl
none_pending (w ∷ ws) e = let clash : true ≡ false = sym (lt-ltb 0 (length (w ∷ ws)) (omega arith)) ∙ e in cc

pub accepted_by : (s : Session) (values : List ℤ) → append_refusal s values ≡ None → Accepted s values
accepted_by s values none =
    let more = length values / s.dataset.shape.cols in
    let by = none_applies s.stopped (nat_lt 0 (length s.pending)) (length s.pending) (first_outside s.dataset.int_type 0 values) (chunks_refusal s more) none in
    record { running = by.running; idle = none_pending s.pending by.idle; fit = by.fit; room = chunks_fit s more by.room }

pub none_refused : {E : Type 0} (refusal : Option E) (r : Result (Unit {0}) E) → MatchOption refusal (r ≡ Ok tt) (λ e. r ≡ Err e) → r ≡ Ok tt → refusal ≡ None
none_refused None r is ok = refl
none_refused (Some e) r is ok = let clash : Err e ≡ Ok tt = sym is ∙ ok in cc

pub accepted : (s : Session) (values : List ℤ) (r : Result (Unit {0}) AppendError) → MatchOption (append_refusal s values) (r ≡ Ok tt) (λ e. r ≡ Err e) → r ≡ Ok tt → Accepted s values
accepted s values r is ok = accepted_by s values (none_refused (append_refusal s values) r is ok)

pub too_many : (s : Session) (values : List ℤ) (chunks limit : ℕ) → s.stopped ≡ false → length s.pending ≤ 0 → None ≡ first_outside s.dataset.int_type 0 values
    → chunks ≡ chunks_with s (length values / s.dataset.shape.cols) → limit ≡ chunk_limit s → limit < chunks → append_refusal s values ≡ Some (appends.Chunks chunks limit)
too_many s values chunks limit running idle inside is top many =
    let more = length values / s.dataset.shape.cols in
    let test : nat_lt (chunk_limit s) (chunks_with s more) ≡ true = lt-ltb (chunk_limit s) (chunks_with s more) (omega arith) in
    rw (running, le-ltb 0 (length s.pending) idle, ← inside, test) (let e : appends.Chunks (chunks_with s more) (chunk_limit s) ≡ appends.Chunks chunks limit = cc in ap (λ (x : AppendError). Some x) e)

pub not_refused : (s : Session) (values : List ℤ) (chunks limit : ℕ) → s.stopped ≡ false → length s.pending ≤ 0 → None ≡ first_outside s.dataset.int_type 0 values
    → chunks ≡ chunks_with s (length values / s.dataset.shape.cols) → limit ≡ chunk_limit s → chunks ≤ limit → append_refusal s values ≡ None
not_refused s values chunks limit running idle inside is top few =
    let more = length values / s.dataset.shape.cols in
    let test : nat_lt (chunk_limit s) (chunks_with s more) ≡ false = le-ltb (chunk_limit s) (chunks_with s more) (omega arith) in
    rw (running, le-ltb 0 (length s.pending) idle, ← inside, test) refl

-- ---- What holds of every session is kept

-- It does not look at the rows that are flushed, at the superblock but for its version, and at how the session stands to its pieces.
pub still_is : (s : Session) (root : Super) (committed : ℕ) (ws : List Write) (stop keep flush : Bool) → root.version ≡ s.root.version → (flush ≡ true → (s.waits ≡ 0) × (ws ≢ [])) → IsSession s
    → IsSession (record s { root = root; committed = committed; pending = ws; stopped = stop; keeps = keep; flushing = flush })
still_is s root committed ws stop keep flush version takes is = record {
  some_columns = is.some_columns;
  cells = is.cells;
  few = is.few;
  version = version ∙ is.version;
  begun = is.begun;
  kind = is.kind;
  sound = is.sound;
  fits = is.fits;
  header = is.header;
  addressed = is.addressed;
  header_ends = is.header_ends;
  small = is.small;
  limit = is.limit;
  inside = is.inside;
  tops = λ whole. is.tops (record { named = whole.named; made = whole.made });
  head = is.head;
  blank = is.blank;
  live = is.live;
  early = is.early;
  chunks = is.chunks;
  placed = is.placed;
  ends = is.ends;
  flushing = λ e. (takes e).0;
  busy = λ e. (takes e).1;
  budget_low = is.budget_low;
  budget_high = is.budget_high;
}

-- so it is at other places that end where these do
pub freed_is : (s : Session) (t : Space) → t.end ≡ s.places.end → t.limit ≡ s.places.limit → ((r : Extent) → IsLive s.places r → IsLive t r) → IsSession s → IsSession (record s { places = t })
freed_is s t end limit stays is = record {
  some_columns = is.some_columns;
  cells = is.cells;
  few = is.few;
  version = is.version;
  begun = omega (arith, is.begun, end);
  kind = is.kind;
  sound = is.sound;
  fits = is.fits;
  header = is.header;
  addressed = is.addressed;
  header_ends = omega (arith, is.header_ends, end);
  small = omega (arith, is.small, end);
  limit = omega (arith, is.limit, limit);
  inside = λ k from named. omega (arith, is.inside k from named, end);
  tops = λ whole u among. omega (arith, is.tops (record { named = whole.named; made = whole.made }) u among, end);
  head = λ named lacking. omega (arith, is.head named lacking, end);
  blank = is.blank;
  live = λ unmade. stays (extent_of the_superblock) (is.live unmade);
  early = is.early;
  chunks = is.chunks;
  placed = is.placed;
  ends = λ k p at. omega (arith, is.ends k p at, end);
  flushing = is.flushing;
  busy = is.busy;
  budget_low = is.budget_low;
  budget_high = is.budget_high;
}

-- a session of which nothing is pending is not flushing
not_true : (b : Bool) → (b ≡ true → ⊥) → b ≡ false
not_true true some = absurd (some refl)
not_true false some = refl

pub idle_unplanned : (s : Session) → IsSession s → s.pending ≡ [] → s.flushing ≡ false
idle_unplanned s is idle = not_true s.flushing (λ e. is.busy e idle)

pub values_is : (s : Session) (values : List ℤ) → IsSession s → AreRows s values → Accepted s values → IsSession (with_values s values)
values_is s values is rows by =
    let more = length values / s.dataset.shape.cols in
    let cells : length (s.waiting ++ cells_of s.dataset values) ≡ length s.waiting + length values * s.dataset.int_type.size =
    length-append s.waiting (cells_of s.dataset values) ∙ ap (λ (n : ℕ). length s.waiting + n) (length-run_bytes s.dataset.int_type 0 values by.fit) in
    let count = rows_are s values is.some_columns rows in
    let size = s.dataset.int_type.size in
    let regrouped : length values * size ≡ more * (s.dataset.shape.cols * size) = ap (λ (n : ℕ). n * size) (sym count) ∙ omega arith in
    let early = is.early in
    let split : (s.waits + more - s.early) * row_bytes s.dataset ≡ (s.waits - s.early) * row_bytes s.dataset + more * row_bytes s.dataset =
    ap (λ (n : ℕ). n * row_bytes s.dataset) (let e : s.waits + more - s.early ≡ (s.waits - s.early) + more = omega (arith, early) in e) ∙ (let e : ((s.waits - s.early) + more) * row_bytes s.dataset ≡ (s.waits - s.early) * row_bytes s.dataset + more * row_bytes s.dataset = omega arith in e) in
    let sum : s.dataset.shape.rows + (s.waits + more) ≡ rows_of s + more = omega arith in
    record {
      some_columns = is.some_columns;
      cells = cells ∙ omega (arith, is.cells, regrouped, split);
      few = subst (λ (n : ℕ). needed (with_rows n s.dataset) ≤ chunk_limit s) (sym sum) by.room;
      version = is.version;
      begun = is.begun;
      kind = is.kind;
      sound = is.sound;
      fits = is.fits;
      header = is.header;
      addressed = is.addressed;
      header_ends = is.header_ends;
      small = is.small;
      limit = is.limit;
      inside = is.inside;
      tops = λ whole. is.tops (record { named = whole.named; made = whole.made });
      head = is.head;
      blank = is.blank;
      live = is.live;
      early = omega (arith, is.early);
      chunks = is.chunks;
      placed = is.placed;
      ends = is.ends;
      flushing = λ e. absurd (is.busy e by.idle);
      busy = λ e. is.busy e;
      budget_low = is.budget_low;
      budget_high = is.budget_high;
    }

-- the same as fields tell it
pub with_values_is : (v s : Session) (values : List ℤ) (b : List ℕ) → v ≡ s → b ≡ v.waiting ++ cells_of v.dataset values
    → record v { waiting = b; waits = v.waits + length values / v.dataset.shape.cols } ≡ with_values s values
with_values_is v s values b e added =
    let put : List ℕ → Session = λ w. record v { waiting = w; waits = v.waits + length values / v.dataset.shape.cols } in
    ap put added ∙ ap (λ (t : Session). with_values t values) e

pub waits_is : (v s : Session) (values : List ℤ) (b : List ℕ) → v ≡ s → b ≡ v.waiting ++ cells_of v.dataset values → IsSession (with_values s values)
    → IsSession (record v { waiting = b; waits = v.waits + length values / v.dataset.shape.cols })
waits_is v s values b e added is = subst IsSession (sym (with_values_is v s values b e added)) is

pub stopped_is : (v s : Session) (ws : List Write) → v ≡ s → ws ≡ [] → record v { pending = ws; stopped = true; flushing = false } ≡ stopped_of s
stopped_is v s ws e none =
    let put : List Write → Session = λ xs. record v { pending = xs; stopped = true; flushing = false } in
    ap put none ∙ ap stopped_of e

-- ---- Pieces

no_write : Write
no_write = record { at = 0; piece = [] }

next_piece : (plan : List Write) (shown : ℕ) → shown < length plan → drop shown plan ≡ get_or plan shown no_write ∷ drop (shown + 1) plan
next_piece plan shown inside = drop-cons plan shown no_write inside ∙ ap (λ (n : ℕ). get_or plan shown no_write ∷ drop n plan) (let e : suc shown ≡ shown + 1 = omega arith in e)

behind_first : (w x : Write) (ws xs : List Write) → w ∷ ws ≡ x ∷ xs → ws ≡ xs
behind_first w x ws xs e = cc

-- some are left
pub some_left : (plan pending : List Write) (shown : ℕ) → drop shown plan ≡ pending → 0 < length pending → shown < length plan
some_left plan pending shown is some = omega (arith, ap length is, length-drop shown plan)

-- those behind the oldest
pub left_are : (plan : List Write) (shown : ℕ) (w : Write) (ws : List Write) → shown < length plan → drop shown plan ≡ w ∷ ws → ws ≡ drop (shown + 1) plan
left_are plan shown w ws inside pending = behind_first w (get_or plan shown no_write) ws (drop (shown + 1) plan) (sym pending ∙ next_piece plan shown inside)

-- none are left behind the last
pub last_of : (plan : List Write) (shown : ℕ) → shown < length plan → drop (shown + 1) plan ≡ [] → shown + 1 ≡ length plan
last_of plan shown inside none = omega (arith, inside, ap length none, length-drop (shown + 1) plan)

pub more_left : (plan : List Write) (shown : ℕ) (w : Write) (ws : List Write) → shown < length plan → (shown + 1 ≡ length plan → ⊥) → drop shown plan ≡ w ∷ ws → 0 < length ws
more_left plan shown w ws inside more pending = omega (arith, ap length (left_are plan shown w ws inside pending), length-drop (shown + 1) plan)

-- while some are left nothing else changes
pub after_some : (s : Session) (ws : List Write) (t : Session) → 0 < length ws → t ≡ record s { pending = ws } → AfterPiece s ws t
after_some s [] t some is = absurd (omega arith)
after_some s (w ∷ ws) t some is = is

-- nor where the last was of no flush
pub after_unplanned : (s : Session) (ws : List Write) (t : Session) → s.flushing ≡ false → t ≡ record s { pending = ws } → AfterPiece s ws t
after_unplanned s [] t none is = subst (λ (b : Bool). Settles b s t) (sym none) is
after_unplanned s (w ∷ ws) t none is = is

-- the last of a flush brings its rows
pub after_flush_piece : (s : Session) (ws : List Write) (t : Session) → ws ≡ [] → s.flushing ≡ true → Settles true s t → AfterPiece s ws t
after_flush_piece s ws t none flushes settles = subst (λ (vs : List Write). AfterPiece s vs t) (sym none) (subst (λ (b : Bool). Settles b s t) (sym flushes) settles)

-- ---- A close

pub closed_is : (v s : Session) (flags : ℕ) (ws : List Write) → v ≡ s → flags ≡ cleared v.root.flags → ws ≡ record { at = 0; piece = super_bytes (record (v.root) { flags = flags }) } ∷ []
    → record v { root = record (v.root) { flags = flags }; pending = ws; stopped = true } ≡ closed_of s
closed_is v s flags ws e flag is =
    let root : ℕ → Super = λ f. record (v.root) { flags = f } in
    let put : ℕ → List Write → Session = λ f xs. record v { root = root f; pending = xs; stopped = true } in
    ap (put flags) is ∙ ap (λ (f : ℕ). put f (record { at = 0; piece = super_bytes (root f) } ∷ [])) flag ∙ ap closed_of e

-- ---- The oldest piece as a reference

sized_at : (ws : List Write) (k : ℕ) (d : Write) → AllSized ws → k < length ws → 1 ≤ length (get_or ws k d).piece
sized_at [] k d sized inside = absurd (omega arith)
sized_at (w ∷ ws) zero d sized inside = sized.0.0
sized_at (w ∷ ws) (suc k) d sized inside = sized_at ws k d sized.1 (omega arith)

within_at : (end : ℕ) (ws : List Write) (k : ℕ) (d : Write) → AllEndBy end ws → k < length ws → (get_or ws k d).at + length (get_or ws k d).piece ≤ end
within_at end [] k d within inside = absurd (omega arith)
within_at end (w ∷ ws) zero d within inside = within.0
within_at end (w ∷ ws) (suc k) d within inside = within_at end ws k d within.1 (omega arith)

pub told_sized : (ws : List Write) (k : ℕ) (o : Option (Bor Write)) (A : Type 0) (B : Bor Write → Type 0) → AllSized ws → IfSome o (λ (x : Bor Write). x.now ≡ get_or ws k x.now)
    → MatchOption o A (λ (x : Bor Write). (k < length ws) × B x) → IfSome o (λ (x : Bor Write). 1 ≤ length x.now.piece)
told_sized ws k None A B sized is inside = tt
told_sized ws k (Some x) A B sized is inside = subst (λ (w : Write). 1 ≤ length w.piece) (sym is) (sized_at ws k x.now sized inside.0)

pub told_within : (end : ℕ) (ws : List Write) (k : ℕ) (o : Option (Bor Write)) (A : Type 0) (B : Bor Write → Type 0) → AllEndBy end ws → IfSome o (λ (x : Bor Write). x.now ≡ get_or ws k x.now)
    → MatchOption o A (λ (x : Bor Write). (k < length ws) × B x) → IfSome o (λ (x : Bor Write). x.now.at + length x.now.piece ≤ end)
told_within end ws k None A B within is inside = tt
told_within end ws k (Some x) A B within is inside = subst (λ (w : Write). w.at + length w.piece ≤ end) (sym is) (within_at end ws k x.now within inside.0)

pub some_is : {A : Type 0} (a b : A) → Some a ≡ Some b → a ≡ b
some_is a b same = ap (λ o. unwrap_or o a) same

pub oldest : (w : Write) (ws : List Write) → Some w ≡ slice_get ws 0 → ws ≡ w ∷ drop 1 ws
oldest w [] none = cc
oldest w (x ∷ xs) same = ap (λ y. y ∷ xs) (sym (some_is w x same))
