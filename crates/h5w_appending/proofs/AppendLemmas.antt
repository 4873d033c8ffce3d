-- What an append leaves of its file, and how it ends.
use Rattle.std.proofs.Common.{◌≡◌, ◌⊎◌, ℕ, Bool, List, [], ◌∷◌, ◌++◌, ℤ, Result, Ok, Err, refl, sym, ap, ◌∙◌, subst, inl, inr}
use Rattle.std.specs.Prelude.{OnOk}
use Rattle.h5w_model.specs.Images.{apply, image}
use Rattle.h5w_model.specs.Numbers.{range}
use Rattle.h5w_model.specs.Superblock.{super_at, super_bytes}
use Rattle.h5w_model.specs.declared.piece.Write.{Write}
use Rattle.h5w_model.specs.declared.root.Super.{Super}
use Rattle.h5w_model.proofs.ImageLemmas.{At-apply, image-push}
use Rattle.h5w_model.proofs.SuperLemmas.{length-super_bytes}
use Rattle.h5w_opening.specs.declared.error.OpenError.TheVariants.{OutOfMemory}
use Rattle.h5w_step_laws.specs.Files.{chunk_0}
use Rattle.h5w_image.specs.View.{DiskView}
use Rattle.h5w_several_open.specs.Beginnings.{HadFlags, root_by, shut_by}
use Rattle.h5w_several_open.proofs.BeginningLemmas.{begun_root, shut_root}
use Rattle.h5w_writer.specs.Sessions.{Session, cleared, rows_of}
use Rattle.h5w_text.specs.Errors.{error_text}
use Rattle.h5w_text.specs.Says.{Said, SaidUnlessMemory}
use Rattle.h5w_text.specs.Statuses.{status_of}
use Rattle.h5w_text.specs.Streams.{SourceView, SinkView}
use Rattle.h5w_text.specs.declared.error.ErrorLine.{ErrorLine}
use Rattle.h5w_text.specs.declared.error.ErrorLine.TheVariants as errors
use Rattle.h5w_text.specs.declared.status.Status.{Status}
use Rattle.h5w_text.specs.declared.status.Status.TheVariants as statuses
use Rattle.h5w_files.specs.Images.{told_bytes}
use Rattle.h5w_batches.specs.Batches.{Batches, after_lines, close_batch, no_batches}
use Rattle.h5w_several_open.specs.declared.beginning.Beginning.{Beginning}
use Rattle.h5w_appending.specs.Taken.{AreTaken, closed_text}
use Rattle.h5w_appending.specs.Puts.{writes_of}
use Rattle.h5w_appending.specs.Appends.{AppendEnds, AppendsSome, Broke, Broken, Closed, ClosedUp, Holds, InputRefuses, IsOpenOver, ShutAgain, Unopened, columns_of, lines_of}
use Rattle.h5w_appending.specs.Appending.{BeginsNone, Finishes, FinishesBy, Settles, SettlesOn, TakesInput}
use Rattle.h5w_appending.specs.declared.batching.Ending.{Ending}
use Rattle.h5w_appending.specs.declared.batching.Ending.TheVariants as endings
use Rattle.h5w_appending.proofs.BatchLemmas.{all_values}
use Rattle.h5w_files.proofs.ClearLemmas.{any_told}
use Rattle.h5w_appending.proofs.ShutLemmas.{bytes_after, holds_after}
use Rattle.h5w_files.proofs.SinkLemmas.{gave_nothing}

-- ---- The superblock

pub ok_is : {E : Type 0} (a b : Super) → ◌≡◌ {A = Result Super E} (Ok a) (Ok b) → a ≡ b
ok_is {E} a b e = ap (λ (r : Result Super E). elim r [ Ok x ↦ x | Err x ↦ a ]) e

-- ---- The file that was closed

pub front_of : (r : Super) (front : List Write) (img : List ℕ) → range (image img (front ++ record { at = 0; piece = super_bytes r } ∷ [])) 0 48 ≡ super_bytes r
front_of r front img =
    let w : Write = record { at = 0; piece = super_bytes r } in
    ap (λ (x : List ℕ). range x 0 48) (image-push img front w) ∙ ap (λ n. range (apply w (image img front)) 0 n) (sym (length-super_bytes r)) ∙ At-apply w (image img front)

shut_again : {v w : DiskView} {by : Beginning} (name at : List ℕ) (limit budget : ℕ) (keeps : Bool) (first : Session) (b : Batches) → IsOpenOver by name at limit budget keeps v first → ClosedUp name first b v w → ShutAgain by name at v w
shut_again {v = v} {w = w} {by = by} name at limit budget keeps first b opened c = λ img root told reads.
    let over = opened.exact img told in
    let same : root ≡ over.found.root = ok_is root over.found.root (sym reads ∙ over.super) in
    let first_root : first.root ≡ root_by by over.found.root = ap (λ (x : Session). x.root) opened.is ∙ ap (λ (x : Session). x.root) over.session ∙ begun_root by over.found (chunk_0 img over.found.place) over.kept at limit budget in
    let is : c.root ≡ record (shut_by by root) { end = c.root.end } =
    c.root_is ∙ ap (λ (x : Super). record x { end = c.root.end; flags = cleared x.flags }) first_root ∙ ap (λ (x : Super). record x { end = c.root.end }) (shut_root by over.found.root over.flags)
    ∙ ap (λ (x : Super). record (shut_by by x) { end = c.root.end }) (sym same) in (
      subst (λ (x : Super). HadFlags by x.flags) (sym same) over.flags,
      record {
        bytes = image img (writes_of c.puts);
        told = ap (λ t. told_bytes t name) c.disk.told ∙ bytes_after name c.puts img v.told told;
        end = c.root.end;
        super = ap (λ (ws : List Write). super_at (range (image img ws) 0 48)) c.last ∙ ap super_at (front_of c.root c.front img) ∙ c.reads ∙ ap Ok is;
      },
    )

pub first_named : {v : DiskView} {by : Beginning} (name at : List ℕ) (limit budget : ℕ) (keeps : Bool) (first : Session) → IsOpenOver by name at limit budget keeps v first → first.name ≡ at
first_named name at limit budget keeps first opened = ap (λ (x : Session). x.name) opened.is ∙ opened.begun.named

closed_of_up : {v w : DiskView} {by : Beginning} (name at : List ℕ) (limit budget : ℕ) (keeps : Bool) (first : Session) (b : Batches) → IsOpenOver by name at limit budget keeps v first → ClosedUp name first b v w → Closed by name at first b v w
closed_of_up name at limit budget keeps first b opened c = record {
  closed = c;
  holds = holds_after name at first b c.puts (first_named name at limit budget keeps first opened) opened.stands c.disk c.logs;
  shut = shut_again name at limit budget keeps first b opened c;
}

-- and the one whose disk failed
broken_of : {v w : DiskView} {by : Beginning} (name at : List ℕ) (limit budget : ℕ) (keeps : Bool) (first : Session) (b : Batches) → IsOpenOver by name at limit budget keeps v first → Broke name first b v w → Broken name at first b v w
broken_of name at limit budget keeps first b opened broke =
    record { broke = broke; holds = holds_after name at first b broke.puts (first_named name at limit budget keeps first opened) opened.stands broke.disk broke.logs }

-- ---- Its end

pub appends_done : {v w : DiskView} {k l m : SinkView} {x y : SourceView} {by : Beginning} (name at : List ℕ) (limit budget : ℕ) (keeps : Bool) (n : ℕ) (first : Session) (status : Status) (text : List ℕ) → IsOpenOver by name at limit budget keeps v first → Settles name n first x y v w k l (Ok tt)
    → text ≡ closed_text n → Said text statuses.Done status l m → AppendEnds by name at limit budget keeps x y v w status k m
appends_done {v = v} {w = w} {k = k} {l = l} name at limit budget keeps n first status text opened h is said =
    let b = close_batch (after_lines no_batches h.0) in
    let closed = closed_of_up name at limit budget keeps first b opened h.2 in
    inl (record {
      answer = Ok tt;
      front = lines_of first b.closed;
      last = text;
      comes = record {
        first = first;
        opened = opened;
        numbers = h.0;
        read = h.1;
        closed = closed;
        holds = λ img rows columns values sm told valid reads.
            subst (λ (vs : List ℤ). Holds name at w columns (values ++ vs)) (all_values h.0) (closed.holds img rows columns values sm told valid reads);
        front_is = refl;
        last_is = is ∙ ap closed_text h.4;
      };
      middle = l;
      gave = h.3;
      said = said;
    })

some_appends : {v w : DiskView} {x y : SourceView} {by : Beginning} (name at : List ℕ) (limit budget : ℕ) (keeps : Bool) (first : Session) (b : Batches) (e : ErrorLine) → IsOpenOver by name at limit budget keeps v first → AreTaken (columns_of first) x y b
    → InputRefuses name first x y b v e → ClosedUp name first b v w → AppendsSome by name at limit budget keeps x y v w e (lines_of first b.closed) (error_text e)
some_appends name at limit budget keeps first b e opened taken refused closed =
    record { first = first; opened = opened; batches = b; taken = taken; refused = refused; closed = closed_of_up name at limit budget keeps first b opened closed; front_is = refl; last_is = refl }

pub appends_refused : {v w : DiskView} {k l m : SinkView} {x y : SourceView} {by : Beginning} (name at : List ℕ) (limit budget : ℕ) (keeps : Bool) (n : ℕ) (first : Session) (e : ErrorLine) (status : Status) → IsOpenOver by name at limit budget keeps v first
    → Settles name n first x y v w k l (Err (endings.Refused e)) → SaidUnlessMemory (error_text e) (status_of e) status l m → AppendEnds by name at limit budget keeps x y v w status k m
appends_refused {l = l} name at limit budget keeps n first e status opened h (inl said) = inl (record {
  answer = Err e;
  front = lines_of first h.0.closed;
  last = error_text e;
  comes = inr (inl (some_appends name at limit budget keeps first h.0 e opened h.1 h.2 h.3));
  middle = l;
  gave = h.4;
  said = said;
})
appends_refused {l = l} name at limit budget keeps n first e status opened h (inr said) = inl (record {
  answer = Err errors.Memory;
  front = lines_of first h.0.closed;
  last = error_text errors.Memory;
  comes = inr (inl (some_appends name at limit budget keeps first h.0 errors.Memory opened h.1 tt h.3));
  middle = l;
  gave = h.4;
  said = said;
})

pub appends_broke : {v w : DiskView} {k l m : SinkView} {x y : SourceView} {by : Beginning} (name at : List ℕ) (limit budget : ℕ) (keeps : Bool) (n : ℕ) (first : Session) (status : Status) → IsOpenOver by name at limit budget keeps v first → Settles name n first x y v w k l (Err endings.Disk)
    → Said (error_text errors.Disk) statuses.Disk status l m → AppendEnds by name at limit budget keeps x y v w status k m
appends_broke {l = l} name at limit budget keeps n first status opened h said = inl (record {
  answer = Err errors.Disk;
  front = lines_of first h.0.closed;
  last = error_text errors.Disk;
  comes = inr (inr (
    refl,
    record {
      first = first;
      opened = opened;
      batches = h.0;
      taken = h.1;
      broken = broken_of name at limit budget keeps first h.0 opened h.2.broke;
      front_is = refl;
      last_is = refl;
    },
  ));
  middle = l;
  gave = h.2.gave;
  said = said;
})

-- the sink failed at the line of a batch
pub appends_cut : {v w : DiskView} {k l : SinkView} {x y : SourceView} {by : Beginning} (name at : List ℕ) (limit budget : ℕ) (keeps : Bool) (n : ℕ) (first : Session) → IsOpenOver by name at limit budget keeps v first → Settles name n first x y v w k l (Err endings.Sink)
    → AppendEnds by name at limit budget keeps x y v w statuses.Sink k l
appends_cut {v = v} {w = w} {by = by} name at limit budget keeps n first opened h = inr (refl, record { first = first; opened = opened; batches = h.0; taken = h.1; stops = h.3; left = cases h.0 h.2 })
  where
    cases : (b : Batches) → ClosedUp name first b v w ⊎ Broke name first b v w → Closed by name at first b v w ⊎ Broken name at first b v w
    cases b (inl closed) = inl (closed_of_up name at limit budget keeps first b opened closed)
    cases b (inr broke) = inr (broken_of name at limit budget keeps first b opened broke)

wanting : {v w : DiskView} {by : Beginning} (name at : List ℕ) (e : ErrorLine) → Unopened by name at v w e → Unopened by name at v w errors.Memory
wanting {v = v} name at e h = record { disk = h.disk; exact = any_told v.told (λ d. inl (inr refl)); kinds = inr (OutOfMemory, refl, tt); cause = λ f. cc }

-- the file was not opened
pub appends_none : {v w : DiskView} {k l : SinkView} {by : Beginning} (x : SourceView) (name at : List ℕ) (limit budget : ℕ) (keeps : Bool) (e : ErrorLine) (status : Status) → Unopened by name at v w e → SaidUnlessMemory (error_text e) (status_of e) status k l
    → AppendEnds by name at limit budget keeps x x v w status k l
appends_none {k = k} x name at limit budget keeps e status h (inl said) = inl (record {
  answer = Err e;
  front = [];
  last = error_text e;
  comes = inl (record { unopened = h; unread = refl; front_is = refl; last_is = refl });
  middle = k;
  gave = gave_nothing k;
  said = said;
})
appends_none {k = k} x name at limit budget keeps e status h (inr said) = inl (record {
  answer = Err errors.Memory;
  front = [];
  last = error_text errors.Memory;
  comes = inl (record { unopened = wanting name at e h; unread = refl; front_is = refl; last_is = refl });
  middle = k;
  gave = gave_nothing k;
  said = said;
})

-- ---- By its result

pub appends_whole : {v w : DiskView} {k l m : SinkView} {x y : SourceView} {by : Beginning} (name at : List ℕ) (limit budget : ℕ) (keeps : Bool) (status : Status) (text bytes : List ℕ) → bytes ≡ text → Finishes by name at limit budget keeps x y v w k l text (Ok tt)
    → Said bytes statuses.Done status l m → AppendEnds by name at limit budget keeps x y v w status k m
appends_whole name at limit budget keeps status text bytes is h said = appends_done name at limit budget keeps h.rows h.first status bytes h.opened h.settles (is ∙ h.line) said

pub appends_some : {v w : DiskView} {k l m : SinkView} {x y : SourceView} {by : Beginning} (name at : List ℕ) (limit budget : ℕ) (keeps : Bool) (e : ErrorLine) (status : Status) (text : List ℕ)
    → BeginsNone by name at x y v w k l e ⊎ Finishes by name at limit budget keeps x y v w k l text (Err (endings.Refused e)) → SaidUnlessMemory (error_text e) (status_of e) status l m → AppendEnds by name at limit budget keeps x y v w status k m
appends_some {v = v} {w = w} {k = k} {l = l} {m = m} {x = x} {y = y} {by = by} name at limit budget keeps e status text (inl h) said =
    subst (λ (z : SourceView). AppendEnds by name at limit budget keeps x z v w status k m) (sym h.unread)
    (appends_none x name at limit budget keeps e status h.unopened (subst (λ (o : SinkView). SaidUnlessMemory (error_text e) (status_of e) status o m) h.unwritten said))
appends_some name at limit budget keeps e status text (inr h) said = appends_refused name at limit budget keeps h.rows h.first e status h.opened h.settles said

pub finishes_by : {v : DiskView} {by : Beginning} (u w : DiskView) (k l : SinkView) (x y : SourceView) (text : List ℕ) (name at : List ℕ) (limit budget : ℕ) (keeps : Bool) (first s : Session) (taken r : Result (Unit {0}) Ending) (n : ℕ) → IsOpenOver by name at limit budget keeps v first → v.faults ≡ n
    → TakesInput name first s x y v u k l taken → OnOk taken (text ≡ closed_text (rows_of s)) → OnOk r (taken ≡ Ok tt) → SettlesOn n name s u w taken r → FinishesBy by name at limit budget keeps x y v w k l text r
finishes_by {v = v} {by = by} u w k l x y text name at limit budget keeps first s taken r n opened counted takes line done settles = cases r done (settles first x y v k l counted takes)
  where
    last : taken ≡ Ok tt → text ≡ closed_text (rows_of s)
    last is = subst (λ (q : Result (Unit {0}) Ending). OnOk q (text ≡ closed_text (rows_of s))) is line

    cases : (q : Result (Unit {0}) Ending) → OnOk q (taken ≡ Ok tt) → Settles name (rows_of s) first x y v w k l q → FinishesBy by name at limit budget keeps x y v w k l text q
    cases (Ok a) done h = record { first = first; opened = opened; rows = rows_of s; settles = h; line = last done }
    cases (Err (endings.Refused e)) done h = inr (record { first = first; opened = opened; rows = rows_of s; settles = h; line = tt })
    cases (Err endings.Disk) done h = record { first = first; opened = opened; rows = rows_of s; settles = h; line = tt }
    cases (Err endings.Sink) done h = record { first = first; opened = opened; rows = rows_of s; settles = h; line = tt }
