-- An append that was stopped is continued.
use Rattle.std.proofs.Common.{◌≡◌, ◌⊎◌, ℕ, ◌*◌, ◌/◌, ◌%◌, ◌^◌, ◌<◌, ◌≤◌, Bool, true, false, not, ◌||◌, List, ◌++◌, length, take, Option, Some, None, Ok, ℤ, refl, ap, sym, ◌∙◌, subst, inl, inr, arith, tests, append_assoc}
use Rattle.std.specs.Prelude.{◌==◌, IfSome}
use Rattle.std.proofs.lemmas.Bool.{eq-eqb, eqb-true}
use Rattle.h5w_model.specs.Findings.{Summary, Valid}
use Rattle.h5w_model.specs.Datasets.{is_swmr}
use Rattle.h5w_model.specs.Images.{image}
use Rattle.h5w_model.specs.Numbers.{range}
use Rattle.h5w_model.specs.Superblock.{super_at}
use Rattle.h5w_model.specs.Logs.{Log, appended, first_rows, flushed_at, hist}
use Rattle.h5w_model.specs.Prefixed.{IsPosition, image_at}
use Rattle.h5w_model.specs.Tables.{Reading, Reads, Shows, format_limits}
use Rattle.h5w_model.specs.declared.piece.Write.{Write}
use Rattle.h5w_model.specs.declared.root.Super.{Super}
use Rattle.h5w_laws.proofs.LogLemmas.{flushed_laws}
use Rattle.h5w_step_laws.specs.Moments.{reading_of}
use Rattle.h5w_step_laws.proofs.FoundLemmas.{moment_shows, opens, shown_is}
use Rattle.h5w_step_laws.proofs.MomentLemmas.{super_parts}
use Rattle.h5w_opening.specs.Openings.{is_open}
use Rattle.h5w_image.specs.View.{DiskState, DiskView, file}
use Rattle.h5w_text.specs.declared.error.ErrorLine.{ErrorLine}
use Rattle.h5w_writer.specs.Openings.{opened_log}
use Rattle.h5w_writer.specs.Past.{HasOpened}
use Rattle.h5w_writer.specs.Sessions.{Session}
use Rattle.h5w_writer.specs.Stands.{Stands}
use Rattle.h5w_writer.proofs.LawLemmas.{standing_laws}
use Rattle.h5w_reopening_laws.specs.Reopens.{IsCleared, Reopens, was_clear}
use Rattle.h5w_reopening_laws.proofs.SinceLemmas.{file_at}
use Rattle.h5w_reopening_laws.proofs.UnrefusedLemmas.{same_answer}
use Rattle.h5w_takeover_laws.specs.Refused.{IsBegunFile, IsLeftOpen}
use Rattle.h5w_takeover_laws.proofs.RefusedLemmas.{begun_reopens, never_refused, taken_is_begun}
use Rattle.h5w_batches.specs.Batches.{Batches}
use Rattle.h5w_files.specs.Images.{told_bytes}
use Rattle.h5w_several_open.specs.Beginnings.{HadFlags, taken_over}
use Rattle.h5w_several_open.specs.declared.beginning.Beginning.{Beginning}
use Rattle.h5w_several_open.specs.declared.beginning.Beginning.TheVariants as beginnings
use Rattle.h5w_several_open.proofs.BeginningLemmas.{not_begun}
use Rattle.h5w_appending.specs.Appends.{IsFree, IsHalted, IsLogOf, NotOpened}
use Rattle.h5w_appending.specs.Taken.{values_of}
use Rattle.h5w_continuing_laws.specs.Continues.{AppendOpens, AppendPut, Continues, ContinuesAtOnce, StoppedContinues, StoppedGoesOn, StoppedIsTaken, TakeoverBegins, TakesOver, all_values, broke, closed}

-- ---- The flags

-- flags of which both bits of a writer are equal are those of none, or of a writer
none_or_both : (flags : ℕ) → (flags % 2) ≡ (flags / 4 % 2) → HadFlags beginnings.Opened flags ⊎ HadFlags taken_over flags
none_or_both flags same = by (flags % 2 == 0) refl
  where
    by : (t : Bool) → (flags % 2 == 0) ≡ t → HadFlags beginnings.Opened flags ⊎ HadFlags taken_over flags
    by true is = let low = eqb-true (flags % 2) 0 is in inl (record { writing = low; swmr = sym same ∙ low })
    by false is = let low : flags % 2 ≡ 1 = grind (arith, tests) in inr (record { writing = low; swmr = sym same ∙ low })

shut_bits : (flags : ℕ) → HadFlags beginnings.Opened flags → is_open flags ≡ false
shut_bits flags h = λ i. not (eq-eqb (flags % 2) 0 h.writing i) || not (eq-eqb (flags / 4 % 2) 0 h.swmr i)

-- ---- The log of what was put

halted_of : (name : List ℕ) (first : Session) (b : Batches) (v w : DiskView) (img : List ℕ) (columns : ℕ) (values : List ℤ) (ws : List Write) → Stands first (opened_log img columns values) → AppendPut name first b v w ws → IsHalted img columns values first.name ws b
halted_of name first b v w img columns values ws st (broke x) = x.logs img columns values st
halted_of name first b v w img columns values ws st (closed x) = x.logs img columns values st

-- what was appended in all
appended_all : (img : List ℕ) (columns : ℕ) (values : List ℤ) (s : Session) (ws : List Write) (b : Batches) (of : IsLogOf img columns values s ws b) → appended of.log ≡ all_values values b
appended_all img columns values s ws b of =
    ap (λ (l : Log). appended l) of.begun ∙ ap (λ xs. values ++ xs) of.appended_are ∙ sym (append_assoc values (values_of b.closed) b.waiting)

module _ (at : List ℕ) (img : List ℕ) (rows columns : ℕ) (values : List ℤ) (sm : Summary) (valid : Valid img at sm) (reads : Reads img at rows columns values) (short : length img < 2 ^ 64) (s : Session) (named : s.name ≡ at) (ws : List Write) (b : Batches)
    (of : IsLogOf img columns values s ws b) (k : ℕ) (within : k ≤ length ws) where
  abbrev log : Log
  log = of.log

  started : log.start ≡ img
  started = ap (λ (l : Log). l.start) of.begun

  first : log.first ≡ 0
  first = ap (λ (l : Log). l.first) of.begun

  cols : log.columns ≡ columns
  cols = ap (λ (l : Log). l.columns) of.begun

  position : (p : ℕ) → p ≤ length ws → IsPosition log p
  position p low =
      let f = first in
      let count : length (hist log.events) ≡ length ws = ap length of.pieces in
      record { begun = omega (arith, f); reached = omega (arith, low, count) }

  here : image_at log k ≡ image img (take k ws)
  here = (λ i. image (started i) (take k (of.pieces i)))

  -- the rows that it began with
  rows_first : flushed_at log 0 ≡ rows
  rows_first =
      let file = opens img at rows columns values sm valid reads in
      let now = file_at s log 0 of.stands (position 0 (omega arith)) in
      let same : reading_of now.moment ≡ reading_of file.0 =
      shown_is img at file.0 (reading_of now.moment) file.1
      (subst (λ n. Shows format_limits img n (reading_of now.moment)) named (subst (λ i. Shows format_limits i s.name (reading_of now.moment)) started (moment_shows (image_at log 0) s.name now.moment now.file))) in
      sym now.rows ∙ ap (λ (r : Reading). r.dataset.shape.rows) same ∙ file.3

  abbrev count : ℕ
  count = flushed_at log k

  abbrev all : List ℤ
  all = all_values values b

  more : rows ≤ count
  more = let rises = flushed_laws.rises log 0 k (omega arith) in subst (λ n. n ≤ count) rows_first rises

  as_rows : first_rows log count ≡ take (count * columns) all
  as_rows = λ i. take (count * cols i) (appended_all img columns values s ws b of i)

  small : length log.start < 2 ^ 64
  small = subst (λ i. length i < 2 ^ 64) (sym started) short

  given : IsBegunFile img at → HasOpened s log → IsBegunFile log.start s.name
  given file o = subst (λ n. IsBegunFile log.start n) (sym named) (subst (λ i. IsBegunFile i at) (sym started) file)

  pub continues : (new : List ℕ) → IsBegunFile img at → IsCleared (image img (take k ws)) new → Continues new at rows columns all
  continues new file cleared =
      let r = begun_reopens s log k new of.stands (position k within) (given file) small (subst (λ i. IsCleared i new) (sym here) cleared) in
      record {
        count = count;
        more = more;
        reopens = subst (λ n. Reopens new n count columns (take (count * columns) all)) named
            (subst (λ xs. Reopens new s.name count columns xs) as_rows (subst (λ c. Reopens new s.name count c (first_rows log count)) cols r));
      }

  -- as it was left
  taken : IsBegunFile img at → IsLeftOpen (image_at log k) → TakesOver (image_at log k) s.name count log.columns (first_rows log count)
  taken file left =
      let now = standing_laws.prefixed s log of.stands k (position k within) in
      record {
        summary = now.summary;
        valid = now.valid;
        reads = now.reads;
        takes = λ e why. never_refused s log k e of.stands (position k within) (given file) small left why;
      }

  pub goes_on : IsBegunFile img at → IsLeftOpen (image img (take k ws)) → ContinuesAtOnce (image img (take k ws)) at rows columns all
  goes_on file left =
      let t = taken file (subst (λ i. IsLeftOpen i) (sym here) left) in
      record {
        count = count;
        more = more;
        takes = subst (λ i. TakesOver i at count columns (take (count * columns) all)) here
            (subst (λ n. TakesOver (image_at log k) n count columns (take (count * columns) all)) named
            (subst (λ xs. TakesOver (image_at log k) s.name count columns xs) as_rows (subst (λ c. TakesOver (image_at log k) s.name count c (first_rows log count)) cols t)));
      }

  -- by the flags
  pub either_way : IsBegunFile img at → (root : Super) → super_at (range (image img (take k ws)) 0 48) ≡ Ok root → root.version ≡ 3
      → (HadFlags beginnings.Opened root.flags × Continues (image img (take k ws)) at rows columns all) ⊎ (HadFlags taken_over root.flags × ContinuesAtOnce (image img (take k ws)) at rows columns all)
  either_way file root read new =
      let now = file_at s log k of.stands (position k within) in
      let front = range (image_at log k) 0 48 in
      let p = super_parts (length (image_at log k)) front now.moment.super now.file.super in
      let there : super_at front ≡ Ok root = subst (λ i. super_at (range i 0 48) ≡ Ok root) (sym here) read in
      let same : now.moment.super ≡ root = same_answer (super_at front) now.moment.super root p.read there in
      let other : (root.version == 2) ≡ false = ap (λ (n : ℕ). n == 2) new in
      let swmr : is_swmr root ≡ true = subst (λ (x : Super). is_swmr x ≡ true) same p.swmr in
      let equal : ((root.flags % 2) == (root.flags / 4 % 2)) ≡ true = ap (λ c. c || ((root.flags % 2) == (root.flags / 4 % 2))) (sym other) ∙ swmr in
      elim (none_or_both root.flags (eqb-true (root.flags % 2) (root.flags / 4 % 2) equal)) [
        | inl none ↦ inl (none, continues (image img (take k ws)) file (was_clear root read other (shut_bits root.flags none) refl))
        | inr both ↦ inr (both, goes_on file (record { root = root; read = read; says = record { version = new; writing = both.writing; swmr = both.swmr } }))
      ]

pub stopped_continues : StoppedContinues
stopped_continues by name at limit budget keeps first b v w img rows columns values sm o told valid reads short ws k new put within cleared =
    let stands = o.stands img rows columns values sm told valid reads in
    let h = halted_of name first b v w img columns values ws stands put in
    let named : first.name ≡ at = ap (λ (s : Session). s.name) o.is ∙ o.begun.named in
    continues at img rows columns values sm valid reads short h.session (h.named ∙ named) ws b h.of k within new (taken_is_begun by img at limit budget o.opened (o.exact img told)) cleared

pub stopped_is_taken : StoppedIsTaken
stopped_is_taken by name at limit budget keeps first b v w img rows columns values sm o told valid reads short ws k put within left =
    let stands = o.stands img rows columns values sm told valid reads in
    let h = halted_of name first b v w img columns values ws stands put in
    let named : first.name ≡ at = ap (λ (s : Session). s.name) o.is ∙ o.begun.named in
    goes_on at img rows columns values sm valid reads short h.session (h.named ∙ named) ws b h.of k within (taken_is_begun by img at limit budget o.opened (o.exact img told)) left

pub stopped_goes_on : StoppedGoesOn
stopped_goes_on by name at limit budget keeps first b v w img rows columns values sm o told valid reads short ws k root put within read new =
    let stands = o.stands img rows columns values sm told valid reads in
    let h = halted_of name first b v w img columns values ws stands put in
    let named : first.name ≡ at = ap (λ (s : Session). s.name) o.is ∙ o.begun.named in
    either_way at img rows columns values sm valid reads short h.session (h.named ∙ named) ws b h.of k within (taken_is_begun by img at limit budget o.opened (o.exact img told)) root read new

-- ---- The next append

-- on a disk that tells its files an append that does not begin tells why, where the file is there
why_not : (by : Beginning) (t : Option DiskState) (name at : List ℕ) (e : ErrorLine) (img : List ℕ) → IfSome t (λ d. IsFree e ⊎ NotOpened by at (file d name) e) → told_bytes t name ≡ Some img → IsFree e ⊎ NotOpened by at (Some img) e
why_not by None name at e img h told = absurd cc
why_not by (Some d) name at e img (inl free) told = inl free
why_not by (Some d) name at e img (inr not) told = inr (subst (λ o. NotOpened by at o e) told not)

pub append_opens : AppendOpens
append_opens name at v w e img rows columns values u told r = elim (why_not beginnings.Opened v.told name at e img u.exact told) [
  | inl free ↦ free
  | inr n ↦ absurd (r.opens n.0 (not_begun img (length img) at n.0 n.2))
]

pub takeover_begins : TakeoverBegins
takeover_begins name at v w e img rows columns values u told t = elim (why_not beginnings.TakenOver v.told name at e img u.exact told) [
  | inl free ↦ free
  | inr n ↦ absurd (t.takes n.0 n.2)
]
