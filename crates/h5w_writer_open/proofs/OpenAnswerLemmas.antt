-- What the session is that was opened, on every image and on a still one.
use Rattle.std.proofs.Common.{◌≡◌, ℕ, ◌+◌, ◌^◌, ◌<◌, ◌≤◌, List, ℤ, Result, Ok, Err, refl, sym, ap, ◌∙◌, subst, None, arith}
use Rattle.std.specs.Option.{option_or}
use Rattle.h5w_model.specs.Numbers.{undefined}
use Rattle.h5w_model.specs.Superblock.{super_at, super_bytes}
use Rattle.h5w_model.specs.Datasets.{Described}
use Rattle.h5w_model.specs.Findings.{Summary, Valid}
use Rattle.h5w_model.specs.Tables.{Reads}
use Rattle.h5w_model.specs.declared.root.Super.{Super}
use Rattle.h5w_step_laws.specs.Files.{chunk_0}
use Rattle.h5w_index.specs.Views.{IndexView, an_array, a_tree}
use Rattle.h5w_opening.specs.Openings.{IsFound, IsSaid, Opened, refused_dataset}
use Rattle.h5w_opening.proofs.FoundParts.{parts}
use Rattle.h5w_writer_open.specs.declared.index.NoIndex.{NoIndex}
use Rattle.h5w_writer_open.specs.declared.index.NoIndex.TheVariants.{Unnamed, Empty, WrongTotals, Unordered}
use Rattle.h5w_writer_open.specs.OpenAnswers.{HasBegun, IsArrayOf, IsEmptyOf, IsIndexOf, IsKeptIndexOf, IsOpenedOver, opened_session, session_over, writing_flags}
use Rattle.h5w_writer_open.specs.OpenRanges.{ranges_refused, refused_index, refused_open}
use Rattle.h5w_writer_open.specs.OpenSteps.{IsOpenedFile, versioned}
use Rattle.h5w_writer.specs.Openings.{flagged_root, opened_log}
use Rattle.h5w_writer.specs.Sessions.{Session}
use Rattle.h5w_writer.specs.Stands.{Stands}
use Rattle.h5w_writer_open.proofs.OverFile.{IsFirst, bare_over, both_set, opened_over, started_over}
use Rattle.h5w_writer_open.proofs.SessionOver.{in_chunk, near_of, open_below, some_columns, unrefused_parts}
use Rattle.h5w_writer_open.proofs.OpenRangeLemmas.{or_none}

pub own_version : (o : Opened) → o.root.version ≡ 3 → versioned o ≡ o
own_version o e = ap (λ n. record o { root = record (o.root) { version = n } }) (sym e)

-- the first chunk of an index that was read
is_first : (o : Opened) (u : IndexView) → IsSaid o.header → (img : List ℕ) → IsIndexOf img o.header.dataset (Ok u) → IsFirst o.header.dataset u
is_first o (an_array u) said img x = let a : IsArrayOf img o.header.dataset u = x in open_below o.header said a.kind
is_first o (a_tree place u) said img x = tt

module _ (img : List ℕ) (size : ℕ) (name : List ℕ) (limit budget : ℕ) (o : Opened) (header : List ℕ) (v : IndexView) (f : IsOpenedFile img size name o header v) (s : Session) (e : s ≡ opened_session (versioned o) header v name limit budget) where
  version : versioned o ≡ o
  version = own_version o (parts img size name o f.is).version

  same : s ≡ opened_session o (chunk_0 img o.place) v name limit budget
  same = e ∙ ap (λ (x : Opened). opened_session x header v name limit budget) version ∙ ap (λ (h : List ℕ). opened_session o h v name limit budget) f.kept

  pub opened_here : IsOpenedOver img size name limit budget s
  opened_here = record { found = o; is = f.is; index = f.index; is_index = f.is_index; unrefused = f.unrefused; kept = v; is_kept = f.is_kept; session = same }

  by_index : (a : Result IndexView NoIndex) → IsIndexOf img o.header.dataset a → IsKeptIndexOf o.header.dataset a v → refused_open o a ≡ None → IsFound o → 1024 ≤ limit → limit ≤ 2 ^ 40
      → super_at (super_bytes (flagged_root (writing_flags o.root.flags) (session_over o (chunk_0 img o.place) v name limit budget))) ≡ Ok (flagged_root (writing_flags o.root.flags) (session_over o (chunk_0 img o.place) v name limit budget))
      → (rows columns : ℕ) (values : List ℤ) (sm : Summary) → Valid img name sm → Reads img name rows columns values → Stands (opened_session o (chunk_0 img o.place) v name limit budget) (opened_log img columns values)
  by_index (Ok u) x kept none found low high back rows columns values sm valid reads =
      let parts = unrefused_parts o (Ok u) none in
      let own : IsIndexOf img o.header.dataset (Ok v) = subst (λ (w : IndexView). IsIndexOf img o.header.dataset (Ok w)) (sym kept) x in
      let below : IsFirst o.header.dataset v = subst (IsFirst o.header.dataset) (sym kept) (is_first o u found.said img x) in
      opened_over img name size o v limit budget rows columns values sm f.is (some_columns o parts.dataset) back valid reads own below low high
  by_index (Err Unnamed) x kept none found low high back rows columns values sm valid reads =
      let parts = unrefused_parts o (Err Unnamed) none in
      started_over img name size o v limit budget rows columns values sm f.is (some_columns o parts.dataset) back valid reads x kept (in_chunk o x parts.dataset) low high
  by_index (Err Empty) x kept none found low high back rows columns values sm valid reads =
      let parts = unrefused_parts o (Err Empty) none in
      let here : IsEmptyOf img o.header.dataset = x in
      let near : o.header.dataset.layout.address + 72 < 2 ^ 64 = near_of o (Err Empty) (record { kind = here.kind; named = here.named }) (or_none (ranges_refused o (Err Empty)) (option_or (refused_dataset o) (refused_index o.header.dataset (Err Empty))) none).0 in
      bare_over img name size o v limit budget rows columns values sm f.is (some_columns o parts.dataset) back valid reads here kept (omega (arith, near)) low high
  by_index (Err WrongTotals) x kept none found low high back rows columns values sm valid reads = let parts = unrefused_parts o (Err WrongTotals) none in absurd (let e = parts.index in cc)
  by_index (Err Unordered) x kept none found low high back rows columns values sm valid reads = let parts = unrefused_parts o (Err Unordered) none in absurd (let e = parts.index in cc)

  pub stands_here : (rows columns : ℕ) (values : List ℤ) (sm : Summary) → IsFound o → 1024 ≤ limit → limit ≤ 2 ^ 40 → super_at (super_bytes s.root) ≡ Ok s.root → Valid img name sm → Reads img name rows columns values
      → Stands s (opened_log img columns values)
  stands_here rows columns values sm found low high reads_back valid reads =
      let root : s.root ≡ flagged_root (writing_flags o.root.flags) (session_over o (chunk_0 img o.place) v name limit budget) = ap (λ (x : Session). x.root) same in
      let back = subst (λ (r : Super). super_at (super_bytes r) ≡ Ok r) root reads_back in
      subst (λ (x : Session). Stands x (opened_log img columns values)) (sym same) (by_index f.index f.is_index f.is_kept f.unrefused found low high back rows columns values sm valid reads)

pub begun_so : (o : Opened) (header : List ℕ) (v : IndexView) (name : List ℕ) (limit budget : ℕ) (s : Session) → s ≡ opened_session (versioned o) header v name limit budget → HasBegun name limit budget s
begun_so o header v name limit budget s e =
    let bits = both_set o.root.flags in
    subst (HasBegun name limit budget) (sym e)
    (record {
      named = refl;
      limited = refl;
      end = refl;
      free = refl;
      retired = refl;
      committed = refl;
      waiting = refl;
      waits = refl;
      writing = bits.0;
      swmr = bits.1;
      pending = refl;
      running = refl;
      frees = refl;
      budgeted = refl;
      early = refl;
      chunks = refl;
      flushing = refl;
    })
