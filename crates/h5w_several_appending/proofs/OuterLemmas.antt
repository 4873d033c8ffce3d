-- An append's end in words of the file's bytes and of a log alone, from why no session begins.
use Rattle.std.proofs.Common.{◌≡◌, ◌⊎◌, ℕ, List, [], ◌∷◌, length, take, Option, Some, None, Result, Ok, Err, subst, inl, inr}
use Rattle.std.specs.Prelude.{IfSome, get_or}
use Rattle.std.specs.List.{AllByRecursion}
use Rattle.h5w_model.specs.declared.root.Super.{Super}
use Rattle.h5w_image.specs.View.{DiskState, DiskView, file}
use Rattle.h5w_opening.specs.Fronts.{FrontFields}
use Rattle.h5w_opening.specs.Openings.{DatasetHeaderFields, Opened}
use Rattle.h5w_opening.specs.declared.error.OpenError.{OpenError}
use Rattle.h5w_writer_open.specs.OpenParts.{IsUnread, bad_block, bad_range, no_header, opened_at}
use Rattle.h5w_text.specs.Streams.{SourceView, SinkView}
use Rattle.h5w_text.specs.declared.error.ErrorLine.{ErrorLine}
use Rattle.h5w_text.specs.declared.status.Status.{Status}
use Rattle.h5w_appending.specs.Appends.{IsFree}
use Rattle.h5w_appending.specs.Tells.{IsBehind, of_block, of_dataset, of_tree}
use Rattle.h5w_appending.proofs.TellLemmas.{part_behind, ranges_behind}
use Rattle.h5w_several_open.specs.Answers as opened
use Rattle.h5w_several_open.specs.Answers.{CanRead, FirstUnfit, FirstUnread, IsFit}
use Rattle.h5w_several_open.specs.Beginnings.{IsNoneBegun}
use Rattle.h5w_several_open.specs.Taken as taken
use Rattle.h5w_several_open.specs.Taken.{closed_front}
use Rattle.h5w_several_open.specs.declared.beginning.Beginning.{Beginning}
use Rattle.h5w_several_open.specs.declared.beginning.Beginning.TheVariants as beginnings
use Rattle.h5w_several_appending.specs.Ends.{EndsTo, IsNoneOpened, LeadsTo, SaysDataset, SeveralTellsEnd, WhyNoneOpened, by_dataset, by_front, by_header, front_found}
use Rattle.h5w_several_appending.specs.Tells.{SeveralEnds, TellsTo, TellsWhy}

-- ---- A dataset

all_say : (P : ℕ → Type 0) (img : List ℕ) → ((place : ℕ) → P place → SaysDataset img place) → (places : List ℕ) → AllByRecursion P places → AllByRecursion (SaysDataset img) places
all_say P img f [] h = tt
all_say P img f (place ∷ places) h = (f place h.0, all_say P img f places h.1)

read_says : (img : List ℕ) (root : Super) (place : ℕ) → CanRead img root place → SaysDataset img place
read_says img root place h = record { header = h.found.header; is = h.read.header }

fit_says : (img : List ℕ) (root : Super) (place : ℕ) → IsFit img root place → SaysDataset img place
fit_says img root place h = record { header = h.found.header; is = h.read.header }

-- what refuses a dataset is none of the superblock
behind_any : (r s : Super) (place : ℕ) (h : DatasetHeaderFields) (e : OpenError) → IsBehind (opened_at r place h) e → IsBehind (opened_at s place h) e
behind_any r s place h e (of_block at f) = of_block at f
behind_any r s place h e (of_tree kind at) = of_tree kind at
behind_any r s place h e (of_dataset _ is) = of_dataset e is

-- ---- Behind the front

module _ (by : Beginning) (img : List ℕ) (names : List (List ℕ)) (f : FrontFields) (root : Super) (is : front_found by img names ≡ Ok f) where
  pub unread_of : (e : OpenError) → FirstUnread img root f.places e → IsNoneOpened by img names e
  unread_of e h = cases e h.why
    where
      leads : LeadsTo by img names f h.number
      leads = record { is = is; inside = h.inside; before = all_say (CanRead img root) img (read_says img root) (take h.number f.places) h.before }

      cases : (x : OpenError) → IsUnread img root (get_or f.places h.number 0) x → IsNoneOpened by img names x
      cases x (no_header _ none) = by_header f h.number x leads none
      cases _ (bad_block d at fault found bad) = by_dataset f h.number d _ leads found (of_block at fault)
      cases x (bad_range d a _ found index refused) =
          by_dataset f h.number d x leads found (behind_any root f.root (get_or f.places h.number 0) d x (ranges_behind (opened_at root (get_or f.places h.number 0) d) a x refused))

  pub unfit_of : (e : OpenError) → FirstUnfit img root f.places e → IsNoneOpened by img names e
  unfit_of e h =
      let place = get_or f.places h.number 0 in
      let d = h.found.header in
      let behind : IsBehind (opened_at root place d) e = subst (λ (o : Opened). IsBehind o e) h.read.is (part_behind h.found h.index e h.why) in
      by_dataset f h.number d e (record { is = is; inside = h.inside; before = all_say (IsFit img root) img (fit_says img root) (take h.number f.places) h.before }) h.read.header (behind_any root f.root place d e behind)

-- ---- Why a file is not opened

none_opened : (by : Beginning) (img : List ℕ) (names : List (List ℕ)) (e : OpenError) → IsNoneBegun by img (length img) names e → IsNoneOpened by img names e
none_opened beginnings.Opened img names e (opened.no_front _ is) = by_front e is
none_opened beginnings.Opened img names e (opened.unread f _ is why) = unread_of beginnings.Opened img names f f.root is e why
none_opened beginnings.Opened img names e (opened.unfit f _ is all why) = unfit_of beginnings.Opened img names f f.root is e why
none_opened beginnings.TakenOver img names e (taken.no_front _ is) = by_front e is
none_opened beginnings.TakenOver img names e (taken.unread f _ is why) = unread_of beginnings.TakenOver img names f (closed_front f.root) is e why
none_opened beginnings.TakenOver img names e (taken.unfit f _ is all why) = unfit_of beginnings.TakenOver img names f (closed_front f.root) is e why

why_none : (by : Beginning) (names : List (List ℕ)) (t : Option (List ℕ)) (e : ErrorLine) → TellsWhy by names t e → WhyNoneOpened by names t e
why_none by names None e h = h
why_none by names (Some img) e h = (h.0, h.1, none_opened by img names h.0 h.2)

why_of : (by : Beginning) (name : List ℕ) (names : List (List ℕ)) (t : Option DiskState) (e : ErrorLine) → IfSome t (λ d. IsFree e ⊎ TellsWhy by names (file d name) e) → IfSome t (λ d. IsFree e ⊎ WhyNoneOpened by names (file d name) e)
why_of by name names None e h = tt
why_of by name names (Some d) e (inl free) = inl free
why_of by name names (Some d) e (inr why) = inr (why_none by names (file d name) e why)

-- ---- The whole append

ends_to : (by : Beginning) (v w : DiskView) (name : List ℕ) (names : List (List ℕ)) (limit : ℕ) (s t : SourceView) (r : Result (Unit {0}) ErrorLine) (front last : List ℕ) → TellsTo by name names limit s t v w r front last → EndsTo by name names limit s t v w r front last
ends_to by v w name names limit s t (Ok a) front last h = h
ends_to by v w name names limit s t (Err e) front last (inl h) = inl (record {
  disk = h.unopened.disk;
  exact = why_of by name names v.told e h.unopened.exact;
  kinds = h.unopened.kinds;
  cause = h.unopened.cause;
  unread = h.unread;
  front_is = h.front_is;
  last_is = h.last_is;
})
ends_to by v w name names limit s t (Err e) front last (inr h) = inr h

-- an append's end in words of the file's bytes and of a log alone
pub several_tells_end : {s t : SourceView} {v w : DiskView} {k l : SinkView} {by : Beginning} (name : List ℕ) (names : List (List ℕ)) (limit : ℕ) (status : Status) → SeveralEnds by name names limit s t v w status k l → SeveralTellsEnd by name names limit s t v w status k l
several_tells_end {s = s} {t = t} {v = v} {w = w} {by = by} name names limit status (inl h) = inl (record {
  answer = h.answer;
  front = h.front;
  last = h.last;
  comes = ends_to by v w name names limit s t h.answer h.front h.last h.comes;
  middle = h.middle;
  gave = h.gave;
  said = h.said;
})
several_tells_end name names limit status (inr h) = inr h
