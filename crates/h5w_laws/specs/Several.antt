-- Several datasets of one file: what the check for their names finds.
use Rattle.std.specs.Prelude.{◌≡◌, ◌↔◌, ℕ, ◌+◌, ◌<◌, ◌≤◌, true, not, List, [], ◌∷◌, ◌++◌, length, count_by, sum_by, ◌==◌, Some, None, Ok, Err}
use Rattle.std.specs.List.{AllByRecursion, list_any}
use Rattle.h5w_model.specs.Numbers.{range}
use Rattle.h5w_model.specs.Checked.{viewed}
use Rattle.h5w_model.specs.Programs.{eval}
use Rattle.h5w_model.specs.Datasets.{FoundMessage, HeaderFields, root_header, linked, all_linked, same_link, then_also}
use Rattle.h5w_model.specs.Tables.{Limits, format_limits}
use Rattle.h5w_model.specs.Findings.{Finding, found, same_header, Used, Summary, AllSummary, Valid, Finds, AllValid, AllFinds, check, check_all, checked_super, checked_links, header_ranges, by_place, overlap_of, ranges_of_all}
use Rattle.h5w_model.specs.Relations.{AllPaired, AllDiffer, AllFit, HasAll}
use Rattle.h5w_model.specs.declared.root.Super.{Super}
use Rattle.h5w_laws.specs.Answers.{ExactlyOne}
use Rattle.h5w_laws.specs.Ranges.{EndsBy, AllApart}

-- ---- One name

-- what a file has of one dataset, as of all
abbrev pub alone : Summary → AllSummary
alone s = record { rows = s.rows ∷ []; chunks = s.chunks; blocks = s.blocks; end = s.end; lost = s.lost }

-- For one name the check for names answers what the check of that name does.
pub record OneName : Type 0 where
  pub same : (limits : Limits) (img name : List ℕ) (size : ℕ) → eval img (check_all limits (name ∷ []) size) ≡ viewed alone (eval img (check limits name size))
  pub valid : (img name : List ℕ) (s : Summary) → Valid img name s → AllValid img (name ∷ []) (alone s)
  pub back : (img name : List ℕ) (t : AllSummary) → AllValid img (name ∷ []) t → (s : Summary) × Valid img name s × (t ≡ alone s)
  pub finds : (img name : List ℕ) (f : Finding) → Finds img name f ↔ AllFinds img (name ∷ []) f

-- ---- What the check says

-- No range overlaps its neighbour by place exactly where of each two the first by place ends before the other begins. Then they are
-- apart; and ranges that are apart, of which none is empty, are so.
pub record RangesFit : Type 0 where
  pub free : (us : List Used) → (overlap_of (by_place us) ≡ None) ↔ AllFit us
  pub apart : (us : List Used) → AllFit us → AllApart us
  pub fit : (us : List Used) → AllByRecursion (λ (u : Used). 0 < u.len) us → AllApart us → AllFit us

-- Each image is valid for names, with one summary, or has one first finding.
pub record OneVerdictOfAll : Type 0 where
  pub one : (img : List ℕ) (names : List (List ℕ)) → ExactlyOne ((t : AllSummary) × AllValid img names t) ((f : Finding) × AllFinds img names f)
  pub summary : (img : List ℕ) (names : List (List ℕ)) (t u : AllSummary) → AllValid img names t → AllValid img names u → t ≡ u
  pub finding : (img : List ℕ) (names : List (List ℕ)) (e f : Finding) → AllFinds img names e → AllFinds img names f → e ≡ f

-- the check answers a summary exactly where no kind of finding applies, and the file has that
abbrev pub FindsAll : Type 0
FindsAll = (limits : Limits) (img : List ℕ) (names : List (List ℕ)) (t : AllSummary) → (eval img (check_all limits names (length img)) ≡ Ok t) ↔ HasAll limits img names t

-- ---- The order of links

-- The links are looked for in the order of the names. What is found at the first names stays whatever names follow. The second of
-- two links to one header is found there, also where a later name has no link. And all this comes before what a dataset has.
pub record LinkOrder : Type 0 where
  pub first : (root : ℕ) (before : List ℕ) (front behind : List (List ℕ)) (ms : List FoundMessage) (f : Finding)
      → checked_links root before front ms ≡ Err f → checked_links root before (front ++ behind) ms ≡ Err f
  pub onward : (root : ℕ) (before places : List ℕ) (front behind : List (List ℕ)) (ms : List FoundMessage)
      → checked_links root before front ms ≡ Ok places
      → checked_links root before (front ++ behind) ms ≡ then_also (checked_links root (before ++ places) behind ms) (λ rest. Ok (places ++ rest))
  pub second : (root place : ℕ) (places name : List ℕ) (front behind : List (List ℕ)) (ms : List FoundMessage)
      → checked_links root [] front ms ≡ Ok places → linked name ms ≡ Ok place → list_any (λ a. a == place) places ≡ true
      → checked_links root [] (front ++ name ∷ behind) ms ≡ Err (found same_header place)
  pub shown : (limits : Limits) (img : List ℕ) (names : List (List ℕ)) (size : ℕ) (s : Super) (h : HeaderFields) (us : List Used) (f : Finding)
      → checked_super size (range img 0 48) ≡ Ok s → eval img (root_header s.root) ≡ Ok h → header_ranges s.end h.ranges ≡ Ok us
      → checked_links s.root [] names h.messages ≡ Err f → eval img (check_all limits names size) ≡ Err f

-- Two of these places are the same, before the second of them no two are, and their numbers, from 1 on, are these.
pub record IsSecond (places : List ℕ) (first second : ℕ) : Type 0 where
  pub place : ℕ
  pub front : List ℕ
  pub between : List ℕ
  pub behind : List ℕ
  pub are : places ≡ (front ++ place ∷ between) ++ place ∷ behind
  pub differ : AllDiffer (front ++ place ∷ between)
  pub first_is : first ≡ length front + 1
  pub second_is : second ≡ length (front ++ place ∷ between) + 1

-- The check finds all links, no two to one header, exactly where all are found, and then no two are the same. The two that are
-- told as the same have the least second number, and with it the least first.
pub record SameLinks : Type 0 where
  pub found : (root : ℕ) (names : List (List ℕ)) (ms : List FoundMessage) (places : List ℕ)
      → (checked_links root [] names ms ≡ Ok places) ↔ ((all_linked names ms ≡ Ok places) × (same_link places ≡ None))
  pub same : (places : List ℕ) (first second : ℕ) → same_link places ≡ Some (first, second) → IsSecond places first second

-- ---- What a valid file has

-- One dataset has these rows; its file has no more chunks and blocks than all datasets have, and no fewer bytes in no range.
pub record IsShare (t : AllSummary) (rows : ℕ) (s : Summary) : Type 0 where
  pub own : s.rows ≡ rows
  pub end : s.end ≡ t.end
  pub chunks : s.chunks ≤ t.chunks
  pub blocks : s.blocks ≤ t.blocks
  pub lost : t.lost ≤ s.lost

-- a file that is valid for names is valid for each, with its rows
abbrev pub EachValid : Type 0
EachValid = (img : List ℕ) (names : List (List ℕ)) (t : AllSummary) → AllValid img names t
    → AllPaired (λ (name : List ℕ) (rows : ℕ). (s : Summary) × Valid img name s × IsShare t rows s) names t.rows

-- Its ranges are apart, within the end-of-file address, which the image has, and with the lost bytes make it; chunks and blocks
-- are so many as the summary says.
pub record HasAllRanges (img : List ℕ) (names : List (List ℕ)) (t : AllSummary) : Type 0 where
  pub all : HasAll format_limits img names t
  pub ranges : List Used
  pub are : ranges ≡ ranges_of_all (all.root_ranges) (all.parts)
  pub apart : AllApart ranges
  pub within : AllByRecursion (EndsBy t.end) ranges
  pub made : sum_by (λ u. u.len) ranges + t.lost ≡ t.end
  pub complete : t.end ≤ length img
  pub chunks : t.chunks ≡ count_by (λ u. u.chunk) ranges
  pub blocks : t.blocks ≡ count_by (λ u. not u.chunk) ranges

abbrev pub AllRanges : Type 0
AllRanges = (img : List ℕ) (names : List (List ℕ)) (t : AllSummary) → AllValid img names t → HasAllRanges img names t
