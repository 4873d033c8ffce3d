-- What a safe piece leaves of what readers rest on.
use Rattle.std.proofs.Common.{◌≡◌, ◌≢◌, ◌⊎◌, ℕ, zero, suc, ◌+◌, ◌*◌, ◌/◌, ◌%◌, ◌<◌, ◌≤◌, true, false, List, [], ◌∷◌, ◌++◌, length, get_or, Result, Ok, Err, refl, sym, ◌∙◌, ap, subst, inl, inr, arith}
use Rattle.std.specs.Prelude.{◌==◌, slice_get, ℤ}
use Rattle.std.proofs.Math.Nat.{mul-add-div_right, mul-add-mod_self_right, div-eq_of_lt, mod-eq_of_lt}
use Rattle.std.proofs.lemmas.Bool.{cond-false}
use Rattle.std.proofs.lemmas.Bool.Decides.{eqb_tells}
use Rattle.h5w_model.specs.Numbers.{range, undefined}
use Rattle.h5w_model.specs.Images.{apply}
use Rattle.h5w_model.specs.Programs.{Prog, ret, visits, Visit, Same}
use Rattle.h5w_model.specs.Headers.{header_view}
use Rattle.h5w_model.specs.Arrays.{eahd_at, eahd_len}
use Rattle.h5w_model.specs.Datasets.{Described, root_header, dataset_from}
use Rattle.h5w_model.specs.Tables.{InPlace, nowhere, in_place, array_in_place, tree_in_place, cell, format_limits}
use Rattle.h5w_model.specs.Findings.{Used}
use Rattle.h5w_model.specs.Prefixed.{root_address, NamesBlock, StaysDefined, SameDescribed, SameHeader, continuation_blocks, Stays}
use Rattle.h5w_model.specs.declared.cell.IndexKind.{IndexKind}
use Rattle.h5w_model.specs.declared.cell.IndexKind.TheVariants.{Array, Tree}
use Rattle.h5w_model.specs.declared.piece.Write.{Write}
use Rattle.h5w_model.specs.declared.refusal.ReadError.{ReadError}
use Rattle.h5w_laws.proofs.StaysLemmas.{defined_itself, described_itself, header_itself, same_named}
use Rattle.h5w_step_laws.specs.Ranges.{AllEndBy, MissesBlocks, block_at, visits_of}
use Rattle.h5w_step_laws.specs.Headers.{HeaderChecked}
use Rattle.h5w_step_laws.proofs.RangeLemmas.{among_left, among_right, ends_left, missed_stay}
use Rattle.h5w_step_laws.proofs.HeaderLaws.{header_missed}
use Rattle.h5w_step_laws.proofs.IndexLaws.{place_same}
use Rattle.h5w_step_laws.specs.Moments.{Moment, Represents, reading_of, all_used}
use Rattle.h5w_step_laws.specs.Steps.{Step, unseen, ends, switches, commits}
use Rattle.h5w_step_laws.proofs.MomentLemmas.{nested, inside, root_at, header_of, in_root, in_header, in_fixed}
use Rattle.h5w_step_laws.proofs.StepRepresents.{root_left, blocks_missed, ends_missed, fixed_missed, header_off, chunk_lies, continued_missed, step_represents}

-- ---- Cells by row and column

pub cell_at : (img name : List ℕ) (m : Moment) (row column : ℕ) → Represents img name m → row < m.dataset.shape.rows → column < m.dataset.shape.cols
    → cell img (reading_of m) row column ≡ slice_get m.values (row * m.dataset.shape.cols + column)
cell_at img name m row column r low side =
    let cols : ℕ = m.dataset.shape.cols in
    let k : ℕ = row * cols + column in
    let within : k < length m.values = subst (λ n. k < n) (sym r.count) (nested row column m.dataset.shape.rows cols low side) in
    let some : 0 < cols = omega (arith, side) in
    let its_row : k / cols ≡ row = mul-add-div_right some row column ∙ ap (λ n. row + n) (div-eq_of_lt side) ∙ (let e : row + 0 ≡ row = omega arith in e) in
    let its_column : k % cols ≡ column = mul-add-mod_self_right row cols column ∙ mod-eq_of_lt side in
    ap (λ i. cell img (reading_of m) i column) (sym its_row) ∙ ap (λ j. cell img (reading_of m) (k / cols) j) (sym its_column) ∙ r.cells k within

-- ---- The index block

-- what is looked at first of an array
pub array_first : (img new : List ℕ) (d : Described) → d.layout.index ≡ Array → d.layout.address ≢ undefined → Same img new (visits img (in_place d))
    → range new d.layout.address eahd_len ≡ range img d.layout.address eahd_len
array_first img new d is defined same = by_program same
  where
    address : ℕ
    address = d.layout.address

    program : IndexKind → Prog (Result InPlace ReadError)
    program kind = elim kind as (λ _. Prog (Result InPlace ReadError)) [ Array ↦ array_in_place d.layout.address | Tree ↦ tree_in_place d.layout.address ]

    other : ((d.layout.address == undefined) ≡ true) × (d.layout.address ≡ undefined) ⊎ ((d.layout.address == undefined) ≡ false) × (d.layout.address ≢ undefined) → in_place d ≡ array_in_place d.layout.address
    other (inl t) = absurd (defined t.1)
    other (inr t) = cond-false (d.layout.address == undefined) (ret (Ok nowhere)) (program d.layout.index) t.0 ∙ ap program is

    by_program : Same img new (visits img (in_place d)) → range new d.layout.address eahd_len ≡ range img d.layout.address eahd_len
    by_program h =
        let s : Same img new (visits img (array_in_place d.layout.address)) = subst (λ (p : Prog (Result InPlace ReadError)). Same img new (visits img p)) (other (eqb_tells d.layout.address undefined)) h in
        s.0

-- a write that misses the blocks in place leaves the array's header and what it names
pub block_left : (img new : List ℕ) (d : Described) → Same img new (visits img (in_place d)) → (a b : ℕ) → d.layout.index ≡ Array → d.layout.address ≢ undefined
    → NamesBlock img d.layout.address a → NamesBlock new d.layout.address b → StaysDefined a b
block_left img new d same a b is defined x y known =
    let address : ℕ = d.layout.address in
    let bytes = array_first img new d is defined same in
    let z : NamesBlock img address b = subst (λ (c : List ℕ). elim (eahd_at c address) as (λ _. Type 0) [ Ok h ↦ h.block ≡ b | Err f ↦ b ≡ undefined ]) bytes y in
    same_named (eahd_at (range img address eahd_len) address) a b x z

-- ---- The headers

abbrev pub behind_first : List Used → List Used
behind_first [] = []
behind_first (u ∷ us) = us

-- the continuation blocks, by the header's ranges
pub continued_is : (img : List ℕ) (m : Moment) (h : HeaderChecked img format_limits m.super m.place m.dataset m.header) → h.continued ≡ behind_first m.header
continued_is img m h = ap behind_first (sym h.ranges)

-- what stays of the files of two moments, by what a write between them misses and what is the same
pub record Follows (img : List ℕ) (m : Moment) (w : Write) (n : Moment) : Type 0 where
  pub root : n.super.root ≡ m.super.root
  pub place : n.place ≡ m.place
  pub header : n.header ≡ m.header
  pub off_root : MissesBlocks w m.root
  pub off_continued : MissesBlocks w (behind_first m.header)
  pub described : SameDescribed m.dataset n.dataset
  pub chunk_0 : SameHeader (header_view (range img m.place 512)) (header_view (range (apply w img) m.place 512)) m.dataset.layout.address
  pub rows : m.dataset.shape.rows ≤ n.dataset.shape.rows
  pub view : m.dataset.shape.rows ≡ n.dataset.shape.rows → header_view (range (apply w img) m.place 512) ≡ header_view (range img m.place 512)
  pub index_block : (a b : ℕ) → m.dataset.layout.index ≡ Array → m.dataset.layout.address ≢ undefined
      → NamesBlock img m.dataset.layout.address a → NamesBlock (apply w img) m.dataset.layout.address b → StaysDefined a b
  pub addresses : (k : ℕ) → k < length m.table → StaysDefined (get_or m.table k undefined) (get_or n.table k undefined)
  pub values : (k : ℕ) → k < length m.values → slice_get n.values k ≡ slice_get m.values k

pub stay_root : (w : Write) (img name : List ℕ) (m : Moment) → Represents img name m → MissesBlocks w m.root → Same img (apply w img) (visits img (root_header (root_address img)))
stay_root w img name m r off =
    let left = root_left w img name m.super m.place m.root r.root (inside img name m r) off in
    subst (λ a. Same img (apply w img) (visits img (root_header a))) (sym (root_at img name m r)) left.same

pub stay_continued : (w : Write) (img name : List ℕ) (m : Moment) → Represents img name m → MissesBlocks w (behind_first m.header) → Same img (apply w img) (continuation_blocks img (reading_of m))
stay_continued w img name m r off =
    let h = header_of img name m r in
    let vs : List Visit = visits img (dataset_from m.place (header_view (range img m.place 512))) in
    let ends : AllEndBy m.super.end (block_at m.place h.total ∷ h.continued) = subst (λ (us : List Used). AllEndBy m.super.end us) h.ranges h.ends in
    missed_stay w img m.super.end h.continued vs (inside img name m r) (λ u a. ends u (inr a)) h.within (subst (λ (us : List Used). MissesBlocks w us) (sym (continued_is img m h)) off)

pub named_again : (img new name : List ℕ) (m n : Moment) → Represents img name m → Represents new name n → n.header ≡ m.header → continuation_blocks new (reading_of n) ≡ continuation_blocks img (reading_of m)
named_again img new name m n r s same =
    let h = header_of img name m r in
    let g = header_of new name n s in
    g.named ∙ ap visits_of (continued_is new n g ∙ ap behind_first same ∙ sym (continued_is img m h)) ∙ sym h.named

pub stay_cells : (img new name : List ℕ) (m n : Moment) → Represents img name m → Represents new name n → n.dataset.shape.cols ≡ m.dataset.shape.cols → m.dataset.shape.rows ≤ n.dataset.shape.rows
    → ((k : ℕ) → k < length m.values → slice_get n.values k ≡ slice_get m.values k) → (row column : ℕ) → row < m.dataset.shape.rows → column < m.dataset.shape.cols
    → cell new (reading_of n) row column ≡ cell img (reading_of m) row column
stay_cells img new name m n r s cols rows values row column low side =
    let k : ℕ = row * m.dataset.shape.cols + column in
    let within : k < length m.values = subst (λ n. k < n) (sym r.count) (nested row column m.dataset.shape.rows m.dataset.shape.cols low side) in
    cell_at new name n row column s (omega (arith, low, rows)) (subst (λ c. column < c) (sym cols) side)
    ∙ ap (λ c. slice_get n.values (row * c + column)) cols
    ∙ values k within
    ∙ sym (cell_at img name m row column r low side)

pub stays_from : (img name : List ℕ) (m : Moment) (w : Write) (n : Moment) → Represents img name m → Represents (apply w img) name n → Follows img m w n → Stays img (reading_of m) (apply w img) (reading_of n)
stays_from img name m w n r s f =
    let new : List ℕ = apply w img in
    let cols : n.dataset.shape.cols ≡ m.dataset.shape.cols = ap (λ (d : Described). d.shape.cols) f.described.rows_alone in
    record {
      root = root_at new name n s ∙ f.root ∙ sym (root_at img name m r);
      root_header = stay_root w img name m r f.off_root;
      place = f.place;
      named = named_again img new name m n r s f.header;
      continuations = stay_continued w img name m r f.off_continued;
      described = f.described;
      chunk_0 = f.chunk_0;
      rows = f.rows;
      header = f.view;
      index_block = f.index_block;
      addresses = f.addresses;
      cells = stay_cells img new name m n r s cols f.rows f.values;
    }

-- ---- By the kind of piece

-- a piece that leaves the header leaves what counts of it
pub same_view : (w : Write) (img name : List ℕ) (m : Moment) → Represents img name m → MissesBlocks w m.header → header_view (range (apply w img) m.place 512) ≡ header_view (range img m.place 512)
same_view w img name m r off = (header_missed w img format_limits m.super m.place m.dataset m.header r.header (inside img name m r) off).view

pub same_chunk : (old new : List ℕ) (address : ℕ) → new ≡ old → SameHeader old new address
same_chunk old new address e = subst (λ (b : List ℕ). SameHeader old b address) (sym e) (header_itself old address)

pub off_behind : (w : Write) (us : List Used) → MissesBlocks w us → MissesBlocks w (behind_first us)
off_behind w [] h u a b = absurd a
off_behind w (x ∷ us) h u a b = h u (inr a) b

-- a piece that leaves both headers, over a moment that differs in the superblock and behind the header alone
pub follows_index : (img name : List ℕ) (m : Moment) (w : Write) (n : Moment) → Represents img name m → n ≡ record m { super = n.super; fixed = n.fixed; behind = n.behind; table = n.table } → n.super.root ≡ m.super.root
    → MissesBlocks w m.root → MissesBlocks w m.header
    → ((a b : ℕ) → m.dataset.layout.index ≡ Array → m.dataset.layout.address ≢ undefined → NamesBlock img m.dataset.layout.address a → NamesBlock (apply w img) m.dataset.layout.address b → StaysDefined a b)
    → ((k : ℕ) → k < length m.table → StaysDefined (get_or m.table k undefined) (get_or n.table k undefined)) → Follows img m w n
follows_index img name m w n r is root off_root off_header block addresses =
    let view = same_view w img name m r off_header in
    let same_data : n.dataset ≡ m.dataset = ap (λ (x : Moment). x.dataset) is in
    let values : n.values ≡ m.values = ap (λ (x : Moment). x.values) is in
    record {
      root = root;
      place = ap (λ (x : Moment). x.place) is;
      header = ap (λ (x : Moment). x.header) is;
      off_root = off_root;
      off_continued = off_behind w m.header off_header;
      described = subst (λ (d : Described). SameDescribed m.dataset d) (sym same_data) (described_itself m.dataset);
      chunk_0 = same_chunk (header_view (range img m.place 512)) (header_view (range (apply w img) m.place 512)) m.dataset.layout.address view;
      rows = subst (λ (d : Described). m.dataset.shape.rows ≤ d.shape.rows) (sym same_data) (omega arith);
      view = λ e. view;
      index_block = block;
      addresses = addresses;
      values = λ k low. ap (λ (vs : List ℤ). slice_get vs k) values;
    }

pub values_first : (xs ys : List ℤ) (k : ℕ) → k < length xs → slice_get (xs ++ ys) k ≡ slice_get xs k
values_first [] ys k h = absurd (omega arith)
values_first (x ∷ xs) ys zero h = refl
values_first (x ∷ xs) ys (suc k) h = values_first xs ys k (omega arith)

pub same_fixed : (w : Write) (img name : List ℕ) (m : Moment) → Represents img name m → MissesBlocks w m.fixed → Same img (apply w img) (visits img (in_place m.dataset))
same_fixed w img name m r off = place_same w img m.super.end m.dataset m.fixed r.index.fixed_are (inside img name m r) (ends_left m.super.end m.fixed m.behind r.index.ends) off

pub step_follows : (img name : List ℕ) (m : Moment) (held : List Used) (w : Write) (n : Moment) (after : List Used) → Represents img name m → Step img m held w n after → Follows img m w n
step_follows img name m held w n after r (unseen u off is same) =
    let off_fixed = blocks_missed w m.fixed (all_used m) (in_fixed m) u.off_blocks in
    subst (λ (x : Moment). Follows img m w x) (sym is)
    (follows_index img name m w m r refl refl (blocks_missed w m.root (all_used m) (in_root m) u.off_blocks) (blocks_missed w m.header (all_used m) (in_header m) u.off_blocks)
    (block_left img (apply w img) m.dataset (same_fixed w img name m r off_fixed)) (λ k low. defined_itself (get_or m.table k undefined)))
step_follows img name m held w n after r (ends e same) =
    let off = ends_missed img m n w r.apart e in
    let next : Moment = record m { super = n.super } in
    let off_root : MissesBlocks w m.root = λ u a b. off u (among_left u m.root (m.header ++ (m.fixed ++ m.behind)) a) in
    let off_header : MissesBlocks w m.header = λ u a b. off u (among_right u m.root (m.header ++ (m.fixed ++ m.behind)) (among_left u m.header (m.fixed ++ m.behind) a)) in
    let off_fixed : MissesBlocks w m.fixed = λ u a b. off u (among_right u m.root (m.header ++ (m.fixed ++ m.behind)) (among_right u m.header (m.fixed ++ m.behind) (among_left u m.fixed m.behind a))) in
    subst (λ (x : Moment). Follows img m w x) (sym e.is)
    (follows_index img name m w next r refl e.root off_root off_header (block_left img (apply w img) m.dataset (same_fixed w img name m r off_fixed)) (λ k low. defined_itself (get_or m.table k undefined)))
step_follows img name m held w n after r (switches s off clear same) =
    let missed = fixed_missed m w r.apart s.inside in
    let root : n.super.root ≡ m.super.root = ap (λ (x : Moment). x.super.root) s.is in
    let is : n ≡ record m { super = n.super; fixed = n.fixed; behind = n.behind; table = n.table } =
    s.is ∙ ap (λ x. record m { super = x; fixed = n.fixed; behind = n.behind; table = n.table }) (sym (ap (λ (x : Moment). x.super) s.is)) in
    follows_index img name m w n r is root (λ u a b. missed u (inr (among_left u m.root m.header a))) (λ u a b. missed u (inr (among_right u m.root m.header a))) s.index_block s.addresses
step_follows img name m held w n after r (commits c same) =
    let missed = header_off m w r.apart (chunk_lies m w c.inside) in
    let continued = continued_missed m w c.inside r.apart in
    let rest : behind_first m.header ≡ c.inside.continued = ap behind_first c.inside.header_is in
    let rises = c.rises in
    let off_fixed : MissesBlocks w m.fixed = λ u a b. missed u (inr (among_right u m.root (m.fixed ++ m.behind) (among_left u m.fixed m.behind a))) in
    let values : n.values ≡ m.values ++ c.more = ap (λ (x : Moment). x.values) c.is in
    record {
      root = ap (λ (x : Moment). x.super.root) c.is;
      place = ap (λ (x : Moment). x.place) c.is;
      header = ap (λ (x : Moment). x.header) c.is;
      off_root = λ u a b. missed u (inr (among_left u m.root (m.fixed ++ m.behind) a));
      off_continued = subst (λ (us : List Used). MissesBlocks w us) (sym rest) (λ u a b. continued u a);
      described = c.described;
      chunk_0 = c.chunk_0;
      rows = omega (arith, rises);
      view = λ e. absurd (omega (arith, rises, e));
      index_block = block_left img (apply w img) m.dataset (same_fixed w img name m r off_fixed);
      addresses = c.addresses;
      values = λ k low. ap (λ (vs : List ℤ). slice_get vs k) values ∙ values_first m.values c.more k low;
    }

pub step_stays : (img name : List ℕ) (m : Moment) (held : List Used) (w : Write) (n : Moment) (after : List Used) → Represents img name m → Step img m held w n after
    → Stays img (reading_of m) (apply w img) (reading_of n)
step_stays img name m held w n after r s = stays_from img name m w n r (step_represents img name m held w n after r s) (step_follows img name m held w n after r s)
