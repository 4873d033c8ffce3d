-- How an append to several datasets ends, by the result of it all.
use Rattle.std.proofs.Common.{◌≡◌, ◌⊎◌, ℕ, ◌^◌, ◌≤◌, List, [], map, Result, Ok, Err, refl, sym, ap, ◌∙◌, subst, inl, inr}
use Rattle.std.specs.Prelude.{OnOk}
use Rattle.h5w_image.specs.View.{DiskView}
use Rattle.h5w_opening.specs.declared.error.OpenError.TheVariants.{OutOfMemory}
use Rattle.h5w_writer.specs.Sessions.{rows_of}
use Rattle.h5w_text.specs.Errors.{error_text}
use Rattle.h5w_text.specs.Says.{Said, SaidUnlessMemory}
use Rattle.h5w_text.specs.Statuses.{status_of}
use Rattle.h5w_text.specs.Streams.{SourceView, SinkView}
use Rattle.h5w_text.specs.declared.error.ErrorLine.{ErrorLine}
use Rattle.h5w_text.specs.declared.error.ErrorLine.TheVariants as errors
use Rattle.h5w_text.specs.declared.status.Status.{Status}
use Rattle.h5w_text.specs.declared.status.Status.TheVariants as statuses
use Rattle.h5w_files.proofs.ClearLemmas.{any_told}
use Rattle.h5w_files.proofs.SinkLemmas.{gave_nothing}
use Rattle.h5w_several_writer_laws.specs.Sessions.{Sessions}
use Rattle.h5w_several_open.specs.declared.beginning.Beginning.{Beginning}
use Rattle.h5w_several_appending.specs.Appending.{BeginsNone, Finishes, FinishesBy, IsOpenOver, Settles, SettlesOn, TakesInput}
use Rattle.h5w_several_appending.specs.Stores.{Broke, ClosedUp, datasets_of}
use Rattle.h5w_several_appending.specs.Taken.{SetBatches, closed_line, told_text}
use Rattle.h5w_several_appending.specs.Tells.{IsBroken, IsClosed, SeveralEnds, Unopened, all_batches, of_memory}
use Rattle.h5w_several_appending.specs.declared.batching.Ending.{Ending}
use Rattle.h5w_several_appending.specs.declared.batching.Ending.TheVariants as endings
use Rattle.h5w_several_appending.proofs.TellLemmas.{has_datasets, is_broken, is_closed, is_why}

ends_done : {v w : DiskView} {k l m : SinkView} {x y : SourceView} {by : Beginning} (name : List ℕ) (names : List (List ℕ)) (limit : ℕ) (rows : List ℕ) (first : Sessions) (status : Status) (text : List ℕ) → limit ≤ 2 ^ 40 → IsOpenOver by name names limit v first → Settles name rows first x y v w k l (Ok tt)
    → text ≡ closed_line rows → Said text statuses.Done status l m → SeveralEnds by name names limit x y v w status k m
ends_done {l = l} name names limit rows first status text high opened h is said =
    let ds = datasets_of first.parts in
    let b = all_batches ds h.0 in
    inl (record {
      answer = Ok tt;
      front = told_text b.told;
      last = text;
      comes = record {
        ds = ds;
        datasets = has_datasets name names limit first opened;
        said = h.0;
        read = h.1;
        closed = is_closed name names limit first b high opened h.2;
        front_is = refl;
        last_is = is ∙ ap closed_line h.4;
      };
      middle = l;
      gave = h.3;
      said = said;
    })

ends_refused : {v w : DiskView} {k l m : SinkView} {x y : SourceView} {by : Beginning} (name : List ℕ) (names : List (List ℕ)) (limit : ℕ) (rows : List ℕ) (first : Sessions) (e : ErrorLine) (status : Status) → limit ≤ 2 ^ 40 → IsOpenOver by name names limit v first
    → Settles name rows first x y v w k l (Err (endings.Refused e)) → SaidUnlessMemory (error_text e) (status_of e) status l m → SeveralEnds by name names limit x y v w status k m
ends_refused {l = l} {x = x} {y} name names limit rows first e status high opened h (inl said) = inl (record {
  answer = Err e;
  front = told_text h.0.told;
  last = error_text e;
  comes = inr (inl (record {
    ds = datasets_of first.parts;
    datasets = has_datasets name names limit first opened;
    batches = h.0;
    taken = h.1;
    refused = is_why name names limit first x y h.0 e opened h.2;
    closed = is_closed name names limit first h.0 high opened h.3;
    front_is = refl;
    last_is = refl;
  }));
  middle = l;
  gave = h.4;
  said = said;
})
ends_refused {l = l} name names limit rows first e status high opened h (inr said) = inl (record {
  answer = Err errors.Memory;
  front = told_text h.0.told;
  last = error_text errors.Memory;
  comes = inr (inl (record {
    ds = datasets_of first.parts;
    datasets = has_datasets name names limit first opened;
    batches = h.0;
    taken = h.1;
    refused = of_memory;
    closed = is_closed name names limit first h.0 high opened h.3;
    front_is = refl;
    last_is = refl;
  }));
  middle = l;
  gave = h.4;
  said = said;
})

ends_broke : {v w : DiskView} {k l m : SinkView} {x y : SourceView} {by : Beginning} (name : List ℕ) (names : List (List ℕ)) (limit : ℕ) (rows : List ℕ) (first : Sessions) (status : Status) → limit ≤ 2 ^ 40 → IsOpenOver by name names limit v first → Settles name rows first x y v w k l (Err endings.Disk)
    → Said (error_text errors.Disk) statuses.Disk status l m → SeveralEnds by name names limit x y v w status k m
ends_broke {l = l} name names limit rows first status high opened h said = inl (record {
  answer = Err errors.Disk;
  front = told_text h.0.told;
  last = error_text errors.Disk;
  comes = inr (inr (
    refl,
    record {
      ds = datasets_of first.parts;
      datasets = has_datasets name names limit first opened;
      batches = h.0;
      taken = h.1;
      broken = is_broken name names limit first h.0 high opened h.2.broke;
      front_is = refl;
      last_is = refl;
    },
  ));
  middle = l;
  gave = h.2.gave;
  said = said;
})

-- the sink failed at the line of a batch
ends_cut : {v w : DiskView} {k l : SinkView} {x y : SourceView} {by : Beginning} (name : List ℕ) (names : List (List ℕ)) (limit : ℕ) (rows : List ℕ) (first : Sessions) → limit ≤ 2 ^ 40 → IsOpenOver by name names limit v first → Settles name rows first x y v w k l (Err endings.Sink)
    → SeveralEnds by name names limit x y v w statuses.Sink k l
ends_cut {v = v} {w = w} {by = by} name names limit rows first high opened h =
    inr (refl, record { ds = datasets_of first.parts; datasets = has_datasets name names limit first opened; batches = h.0; taken = h.1; stops = h.3; left = cases h.0 h.2 })
  where
    cases : (b : SetBatches) → ClosedUp name first b v w ⊎ Broke name first b v w → IsClosed by name names b v w ⊎ IsBroken name names b v w
    cases b (inl closed) = inl (is_closed name names limit first b high opened closed)
    cases b (inr broke) = inr (is_broken name names limit first b high opened broke)

none_wanting : {v w : DiskView} {by : Beginning} (name : List ℕ) (names : List (List ℕ)) (e : ErrorLine) → Unopened by name names v w e → Unopened by name names v w errors.Memory
none_wanting {v = v} name names e h = record { disk = h.disk; exact = any_told v.told (λ d. inl (inr refl)); kinds = inr (OutOfMemory, refl, tt); cause = λ f. absurd (cc) }

-- the file was not opened
ends_none : {v w : DiskView} {k l : SinkView} {by : Beginning} (x : SourceView) (name : List ℕ) (names : List (List ℕ)) (limit : ℕ) (e : ErrorLine) (status : Status) → Unopened by name names v w e → SaidUnlessMemory (error_text e) (status_of e) status k l → SeveralEnds by name names limit x x v w status k l
ends_none {k = k} x name names limit e status h (inl said) = inl (record {
  answer = Err e;
  front = [];
  last = error_text e;
  comes = inl (record { unopened = h; unread = refl; front_is = refl; last_is = refl });
  middle = k;
  gave = gave_nothing k;
  said = said;
})
ends_none {k = k} x name names limit e status h (inr said) = inl (record {
  answer = Err errors.Memory;
  front = [];
  last = error_text errors.Memory;
  comes = inl (record { unopened = none_wanting name names e h; unread = refl; front_is = refl; last_is = refl });
  middle = k;
  gave = gave_nothing k;
  said = said;
})

-- ---- By its result

pub several_whole : {v w : DiskView} {k l m : SinkView} {x y : SourceView} {by : Beginning} (name : List ℕ) (names : List (List ℕ)) (limit : ℕ) (status : Status) (text bytes : List ℕ) → limit ≤ 2 ^ 40 → bytes ≡ text → Finishes by name names limit x y v w k l text (Ok tt) → Said bytes statuses.Done status l m
    → SeveralEnds by name names limit x y v w status k m
several_whole name names limit status text bytes high is h said = ends_done name names limit h.rows h.first status bytes high h.opened h.settles (is ∙ h.line) said

pub several_some : {v w : DiskView} {k l m : SinkView} {x y : SourceView} {by : Beginning} (name : List ℕ) (names : List (List ℕ)) (limit : ℕ) (e : ErrorLine) (status : Status) (text : List ℕ) → limit ≤ 2 ^ 40
    → BeginsNone by name names x y v w k l e ⊎ Finishes by name names limit x y v w k l text (Err (endings.Refused e)) → SaidUnlessMemory (error_text e) (status_of e) status l m → SeveralEnds by name names limit x y v w status k m
several_some {v = v} {w = w} {k = k} {l = l} {m = m} {x = x} {y = y} {by = by} name names limit e status text high (inl h) said =
    subst (λ (z : SourceView). SeveralEnds by name names limit x z v w status k m) (sym h.unread)
    (ends_none x name names limit e status h.unopened (subst (λ (o : SinkView). SaidUnlessMemory (error_text e) (status_of e) status o m) h.unwritten said))
several_some name names limit e status text high (inr h) said = ends_refused name names limit h.rows h.first e status high h.opened h.settles said

pub several_broke : {v w : DiskView} {k l m : SinkView} {x y : SourceView} {by : Beginning} (name : List ℕ) (names : List (List ℕ)) (limit : ℕ) (status : Status) (text : List ℕ) → limit ≤ 2 ^ 40 → Finishes by name names limit x y v w k l text (Err endings.Disk)
    → Said (error_text errors.Disk) statuses.Disk status l m → SeveralEnds by name names limit x y v w status k m
several_broke name names limit status text high h said = ends_broke name names limit h.rows h.first status high h.opened h.settles said

pub several_cut : {v w : DiskView} {k l : SinkView} {x y : SourceView} {by : Beginning} (name : List ℕ) (names : List (List ℕ)) (limit : ℕ) (text : List ℕ) → limit ≤ 2 ^ 40 → Finishes by name names limit x y v w k l text (Err endings.Sink) → SeveralEnds by name names limit x y v w statuses.Sink k l
several_cut name names limit text high h = ends_cut name names limit h.rows h.first high h.opened h.settles

pub several_finishes : {v : DiskView} {by : Beginning} (u w : DiskView) (k l : SinkView) (x y : SourceView) (text : List ℕ) (name : List ℕ) (names : List (List ℕ)) (limit : ℕ) (first S : Sessions) (taken r : Result (Unit {0}) Ending) (n : ℕ) → IsOpenOver by name names limit v first → v.faults ≡ n
    → TakesInput name first S x y v u k l taken → OnOk taken (text ≡ closed_line (map rows_of S.parts)) → OnOk r (taken ≡ Ok tt) → SettlesOn n name S u w taken r → FinishesBy by name names limit x y v w k l text r
several_finishes {v = v} {by = by} u w k l x y text name names limit first S taken r n opened counted takes line done settles = cases r done (settles first x y v k l counted takes)
  where
    last : taken ≡ Ok tt → text ≡ closed_line (map rows_of S.parts)
    last is = subst (λ (q : Result (Unit {0}) Ending). OnOk q (text ≡ closed_line (map rows_of S.parts))) is line

    cases : (q : Result (Unit {0}) Ending) → OnOk q (taken ≡ Ok tt) → Settles name (map rows_of S.parts) first x y v w k l q → FinishesBy by name names limit x y v w k l text q
    cases (Ok a) done h = record { first = first; opened = opened; rows = map rows_of S.parts; settles = h; line = last done }
    cases (Err (endings.Refused e)) done h = inr (record { first = first; opened = opened; rows = map rows_of S.parts; settles = h; line = tt })
    cases (Err endings.Disk) done h = record { first = first; opened = opened; rows = map rows_of S.parts; settles = h; line = tt }
    cases (Err endings.Sink) done h = record { first = first; opened = opened; rows = map rows_of S.parts; settles = h; line = tt }
