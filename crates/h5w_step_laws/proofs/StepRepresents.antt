-- After a safe piece the image is the file at the next moment.
use Rattle.std.proofs.Common.{◌≡◌, ◌⊎◌, ℕ, ◌≤◌, List, ◌∷◌, ◌++◌, length, Ok, refl, sym, ◌∙◌, ap, subst, inl, inr, arith}
use Rattle.std.proofs.lemmas.Bool.{leb-true}
use Rattle.h5w_model.specs.Numbers.{range}
use Rattle.h5w_model.specs.Images.{apply, Misses}
use Rattle.h5w_model.specs.Superblock.{super_at, super_tests, super_fields}
use Rattle.h5w_model.specs.Programs.{visits, Same}
use Rattle.h5w_model.specs.Datasets.{root_header}
use Rattle.h5w_model.specs.Tables.{format_limits}
use Rattle.h5w_model.specs.Findings.{Used, the_superblock, checked_super}
use Rattle.h5w_model.specs.declared.root.Super.{Super}
use Rattle.h5w_model.specs.declared.piece.Write.{Write}
use Rattle.h5w_model.proofs.ImageLemmas.{At-apply, range-apply_missed, apply-grows, length-range, Apart-part}
use Rattle.h5w_model.proofs.CheckedLemmas.{checked-passed}
use Rattle.h5w_step_laws.specs.Ranges.{Among, AllAmong, AreApart, Disjoint, MissesBlocks}
use Rattle.h5w_step_laws.proofs.RangeLemmas.{among_left, among_right, among_split, ends_later}
use Rattle.h5w_step_laws.proofs.HeaderLaws.{root_tells, root_missed, header_tells, header_missed}
use Rattle.h5w_step_laws.proofs.IndexLaws.{index_missed, index_by_end}
use Rattle.h5w_step_laws.proofs.NeededLaws.{table_laws}
use Rattle.h5w_step_laws.specs.Moments.{Moment, Represents, HasCells, HasRoot, all_used}
use Rattle.h5w_step_laws.specs.Steps.{Unseen, Ends, LiesIn, Switches, InChunk0, Commits, Step, unseen, ends, switches, commits}
use Rattle.h5w_step_laws.proofs.PartLemmas.{apart_sym, disjoint_left, disjoint_right}
use Rattle.h5w_step_laws.proofs.MomentLemmas.{super_parts, super_from, inside, header_of, few, table_of_file, cells_missed, lies_missed, all_missed, in_root, in_header, in_index, Parts, parts_of}

-- ---- What a write leaves

-- each range that a write misses, whether block or chunk
abbrev pub MissesEach : Write → List Used → Type 0
MissesEach w us = (v : Used) → Among v us → Misses w v.place v.len

pub blocks_missed : (w : Write) (us vs : List Used) → AllAmong us vs → MissesBlocks w vs → MissesBlocks w us
blocks_missed w us vs sub h u a b = h u (sub u a) b

pub each_blocks : (w : Write) (us : List Used) → MissesEach w us → MissesBlocks w us
each_blocks w us h u a b = h u a

-- the superblock, on an image that is no shorter
pub super_left : (w : Write) (img : List ℕ) (s : Super) → checked_super (length img) (range img 0 48) ≡ Ok s → 48 ≤ length img → Misses w 0 48 → checked_super (length (apply w img)) (range (apply w img) 0 48) ≡ Ok s
super_left w img s h long misses =
    let p = super_parts (length img) (range img 0 48) s h in
    let same : range (apply w img) 0 48 ≡ range img 0 48 = range-apply_missed w img 0 48 misses (omega (arith, long)) in
    super_from (length (apply w img)) (range (apply w img) 0 48) s
    (record { read = ap super_at same ∙ p.read; swmr = p.swmr; inside = omega (arith, p.inside, apply-grows w img) })

-- a superblock that is read is there
pub super_long : (img : List ℕ) (s : Super) → checked_super (length img) (range img 0 48) ≡ Ok s → 48 ≤ length img
super_long img s h =
    let b : List ℕ = range img 0 48 in
    let p = checked-passed (super_tests b) (super_fields b) s (super_parts (length img) b s h).read in
    omega (arith, leb-true 48 (length b) p.0.1.0, length-range img 0 48)

-- the root header, with what stands behind it
pub record RootLeft (w : Write) (img name : List ℕ) (s : Super) (place : ℕ) (us : List Used) : Type 0 where
  pub there : HasRoot (apply w img) name s place us
  pub same : Same img (apply w img) (visits img (root_header s.root))

pub root_left : (w : Write) (img name : List ℕ) (s : Super) (place : ℕ) (us : List Used) → HasRoot img name s place us → s.end ≤ length img → MissesBlocks w us → RootLeft w img name s place us
root_left w img name s place us h inside off =
    let own : MissesBlocks w h.own = λ u a b. off u (subst (λ (xs : List Used). Among u xs) (sym h.is) (among_left u h.own h.others a)) b in
    let left = root_missed w img name s place h.own h.checked inside own in
    record { there = record { own = h.own; others = h.others; is = h.is; checked = left.left; ends = h.ends }; same = left.same }

-- the image of a file, after a write that leaves all that a reader reaches
pub unseen_represents : (img name : List ℕ) (m : Moment) (w : Write) → Represents img name m → Unseen m w → Represents (apply w img) name m
unseen_represents img name m w r u =
    let s = m.super in
    let new : List ℕ = apply w img in
    let in_image = inside img name m r in
    let header = header_of img name m r in
    let size = header.sized.size in
    let index = blocks_missed w (m.fixed ++ m.behind) (all_used m) (in_index m) u.off_blocks in
    record {
      super = super_left w img s r.super (super_long img s r.super) (u.off_blocks the_superblock (inl refl) refl);
      root = (root_left w img name s m.place m.root r.root in_image (blocks_missed w m.root (all_used m) (in_root m) u.off_blocks)).there;
      header = (header_missed w img format_limits s m.place m.dataset m.header r.header in_image (blocks_missed w m.header (all_used m) (in_header m) u.off_blocks)).left;
      index = (index_missed w img s.end m.dataset m.fixed m.behind r.index in_image index).left;
      apart = r.apart;
      table = table_laws.missed w img s.end m.dataset m.fixed m.behind m.table r.index (few img name m r) in_image index r.table;
      count = r.count;
      cells = cells_missed w img m size u.off_cells r.cells;
    }

-- ---- The superblock again

pub ends_missed : (img : List ℕ) (m n : Moment) (w : Write) → Disjoint (all_used m) → Ends img m w n → MissesEach w (m.root ++ (m.header ++ (m.fixed ++ m.behind)))
ends_missed img m n w d e v a =
    let place = e.place in
    let len = e.len in
    Apart-part 0 48 v.place v.len w.at (length w.piece) v.place v.len (omega arith) (omega (arith, place, len)) (omega arith) (omega arith) ((parts_of m d).super v a)

pub ends_represents : (img name : List ℕ) (m n : Moment) (w : Write) → Represents img name m → Ends img m w n → Represents (apply w img) name n
ends_represents img name m n w r e =
    let s = m.super in
    let t = n.super in
    let new : List ℕ = apply w img in
    let in_image = inside img name m r in
    let off = ends_missed img m n w r.apart e in
    let off_root : MissesBlocks w m.root = λ u a b. off u (among_left u m.root (m.header ++ (m.fixed ++ m.behind)) a) in
    let off_header : MissesBlocks w m.header = λ u a b. off u (among_right u m.root (m.header ++ (m.fixed ++ m.behind)) (among_left u m.header (m.fixed ++ m.behind) a)) in
    let off_index : MissesEach w (m.fixed ++ m.behind) = λ u a. off u (among_right u m.root (m.header ++ (m.fixed ++ m.behind)) (among_right u m.header (m.fixed ++ m.behind) a)) in
    let header = header_of img name m r in
    let root = (root_left w img name s m.place m.root r.root in_image off_root).there in
    let root_there = root_tells new name s m.place root.own root.checked in
    let head = header_missed w img format_limits s m.place m.dataset m.header r.header in_image off_header in
    let head_there = header_tells new format_limits s m.place m.dataset m.header head.left in
    let index = index_missed w img s.end m.dataset m.fixed m.behind r.index in_image (each_blocks w (m.fixed ++ m.behind) off_index) in
    let misses = all_missed w img m header.sized (table_of_file img name m r) (λ v a. off_index v (among_right v m.fixed m.behind a)) in
    let there : range new 0 48 ≡ w.piece = ap (λ a. range new a 48) (sym e.place) ∙ ap (λ n. range new w.at n) (sym e.len) ∙ At-apply w img in
    let end_in = e.there in
    let longer = apply-grows w img in
    subst (λ (x : Moment). Represents new name x) (sym e.is) (record {
      super = super_from (length new) (range new 0 48) t (record { read = ap super_at there ∙ e.reads; swmr = e.swmr; inside = omega (arith, end_in, longer) });
      root = record {
        own = root.own;
        others = root.others;
        is = root.is;
        checked = root_there.by_end t e.root (ends_later s.end t.end root.own e.rises root_there.ends);
        ends = ends_later s.end t.end root.others e.rises root.ends;
      };
      header = head_there.by_end t (ends_later s.end t.end m.header e.rises head_there.ends);
      index = index_by_end new s.end t.end m.dataset m.fixed m.behind index.left (ends_later s.end t.end (m.fixed ++ m.behind) e.rises index.left.ends);
      apart = r.apart;
      table = table_laws.missed w img s.end m.dataset m.fixed m.behind m.table r.index (few img name m r) in_image (each_blocks w (m.fixed ++ m.behind) off_index) r.table;
      count = r.count;
      cells = cells_missed w img m header.sized.size misses r.cells;
    })

-- ---- A block in place

-- a write in a block in place misses what stands before those
pub fixed_missed : (m : Moment) (w : Write) → Disjoint (all_used m) → LiesIn w m.fixed → MissesEach w (the_superblock ∷ (m.root ++ m.header))
fixed_missed m w d l = lies_missed w m.fixed (the_superblock ∷ (m.root ++ m.header)) l (λ u v a b. apart u v a b)
  where
    p : Parts m
    p = parts_of m d

    behind_root : (u v : Used) → Among u m.fixed → Among v m.root ⊎ Among v m.header → AreApart v u
    behind_root u v a (inl b) = p.root v u b (among_right u m.header (m.fixed ++ m.behind) (among_left u m.fixed m.behind a))
    behind_root u v a (inr b) = p.header v u b (among_left u m.fixed m.behind a)

    apart : (u v : Used) → Among u m.fixed → (the_superblock ≡ v) ⊎ Among v (m.root ++ m.header) → AreApart u v
    apart u v a (inl e) =
        apart_sym v u (subst (λ (x : Used). AreApart x u) e
        (p.super u (among_right u m.root (m.header ++ (m.fixed ++ m.behind)) (among_right u m.header (m.fixed ++ m.behind) (among_left u m.fixed m.behind a)))))
    apart u v a (inr b) = apart_sym v u (behind_root u v a (among_split v m.root m.header b))

pub switches_represents : (img name : List ℕ) (m n : Moment) (w : Write) → Represents img name m → Switches img m w n → Represents (apply w img) name n
switches_represents img name m n w r s =
    let new : List ℕ = apply w img in
    let in_image = inside img name m r in
    let off = fixed_missed m w r.apart s.inside in
    let off_root : MissesBlocks w m.root = λ u a b. off u (inr (among_left u m.root m.header a)) in
    let off_header : MissesBlocks w m.header = λ u a b. off u (inr (among_right u m.root m.header a)) in
    subst (λ (x : Moment). Represents new name x) (sym s.is) (record {
      super = super_left w img m.super r.super (super_long img m.super r.super) (off the_superblock (inl refl));
      root = (root_left w img name m.super m.place m.root r.root in_image off_root).there;
      header = (header_missed w img format_limits m.super m.place m.dataset m.header r.header in_image off_header).left;
      index = s.index;
      apart = subst (λ (x : Moment). Disjoint (all_used x)) s.is s.apart;
      table = s.table;
      count = r.count;
      cells = subst (λ (x : Moment). HasCells new x) s.is s.cells;
    })

-- ---- The dataset header

-- a write in chunk 0 of the dataset header misses all else
pub chunk_lies : (m : Moment) (w : Write) → InChunk0 m w → LiesIn w m.header
chunk_lies m w i = record { used = i.first; among = subst (λ (us : List Used). Among i.first us) (sym i.header_is) (inl refl); from = i.from; to = i.to }

pub header_off : (m : Moment) (w : Write) → Disjoint (all_used m) → LiesIn w m.header → MissesEach w (the_superblock ∷ (m.root ++ (m.fixed ++ m.behind)))
header_off m w d l = lies_missed w m.header (the_superblock ∷ (m.root ++ (m.fixed ++ m.behind))) l (λ u v a b. apart u v a b)
  where
    p : Parts m
    p = parts_of m d

    others : (u v : Used) → Among u m.header → Among v m.root ⊎ Among v (m.fixed ++ m.behind) → AreApart u v
    others u v a (inl b) = apart_sym v u (p.root v u b (among_left u m.header (m.fixed ++ m.behind) a))
    others u v a (inr b) = p.header u v a b

    apart : (u v : Used) → Among u m.header → (the_superblock ≡ v) ⊎ Among v (m.root ++ (m.fixed ++ m.behind)) → AreApart u v
    apart u v a (inl e) =
        apart_sym v u (subst (λ (x : Used). AreApart x u) e
        (p.super u (among_right u m.root (m.header ++ (m.fixed ++ m.behind)) (among_left u m.header (m.fixed ++ m.behind) a))))
    apart u v a (inr b) = others u v a (among_split v m.root (m.fixed ++ m.behind) b)

-- and its continuation blocks
pub continued_missed : (m : Moment) (w : Write) (i : InChunk0 m w) → Disjoint (all_used m) → MissesEach w i.continued
continued_missed m w i d v a =
    let own : Disjoint m.header = disjoint_left m.header (m.fixed ++ m.behind) (disjoint_right m.root (m.header ++ (m.fixed ++ m.behind)) d.2) in
    let parts : Disjoint (i.first ∷ i.continued) = subst (λ (us : List Used). Disjoint us) i.header_is own in
    let from = i.from in
    let to = i.to in
    Apart-part i.first.place i.first.len v.place v.len w.at (length w.piece) v.place v.len from to (omega arith) (omega arith) (parts.1 v a)

pub commits_represents : (img name : List ℕ) (m n : Moment) (w : Write) → Represents img name m → Commits img m w n → Represents (apply w img) name n
commits_represents img name m n w r c =
    let new : List ℕ = apply w img in
    let in_image = inside img name m r in
    let off = header_off m w r.apart (chunk_lies m w c.inside) in
    let off_root : MissesBlocks w m.root = λ u a b. off u (inr (among_left u m.root (m.fixed ++ m.behind) a)) in
    let values : n.values ≡ m.values ++ c.more = ap (λ (x : Moment). x.values) c.is in
    subst (λ (x : Moment). Represents new name x) (sym c.is) (record {
      super = super_left w img m.super r.super (super_long img m.super r.super) (off the_superblock (inl refl));
      root = (root_left w img name m.super m.place m.root r.root in_image off_root).there;
      header = c.header;
      index = c.index;
      apart = subst (λ (x : Moment). Disjoint (all_used x)) c.is c.apart;
      table = c.table;
      count = ap length (sym values) ∙ c.count;
      cells = subst (λ (x : Moment). HasCells new x) c.is c.cells;
    })

-- ---- Any piece

pub step_represents : (img name : List ℕ) (m : Moment) (held : List Used) (w : Write) (n : Moment) (after : List Used) → Represents img name m → Step img m held w n after → Represents (apply w img) name n
step_represents img name m held w n after r (unseen u off is same) = subst (λ (x : Moment). Represents (apply w img) name x) (sym is) (unseen_represents img name m w r u)
step_represents img name m held w n after r (ends e same) = ends_represents img name m n w r e
step_represents img name m held w n after r (switches s off clear same) = switches_represents img name m n w r s
step_represents img name m held w n after r (commits c same) = commits_represents img name m n w r c
