-- Datasets of one file, one beside another.
use Rattle.std.specs.Prelude.{map}
use Rattle.std.proofs.Common.{◌≡◌, ◌⊎◌, ℕ, false, List, [], ◌∷◌, ◌++◌, refl, sym, ◌∙◌, ap, subst, inl, inr, append-nil}
use Rattle.h5w_model.specs.Images.{apply, Misses}
use Rattle.h5w_model.specs.Findings.{Used, the_superblock}
use Rattle.h5w_model.specs.declared.root.Super.{Super}
use Rattle.h5w_model.specs.declared.piece.Write.{Write}
use Rattle.h5w_step_laws.specs.Ranges.{Among, AreApart, Disjoint, MissesBlocks}
use Rattle.h5w_step_laws.proofs.RangeLemmas.{among_left, among_right, among_split}
use Rattle.h5w_step_laws.specs.Moments.{Moment, all_used, Represents}
use Rattle.h5w_step_laws.specs.Steps.{Commits, Step, Switches, Unseen, unseen, ends, switches, commits}
use Rattle.h5w_step_laws.specs.Plans.{Flush}
use Rattle.h5w_step_laws.proofs.MomentLemmas.{cell_chunk, chunk_missed, header_of, in_root, parts_of, table_of_file}
use Rattle.h5w_step_laws.proofs.StepRepresents.{MissesEach, chunk_lies, ends_missed, fixed_missed, header_off, step_represents}
use Rattle.h5w_step_laws.proofs.FoundLemmas.{disjoint_drop}
use Rattle.h5w_step_laws.proofs.SessionLaws.{other_laws}
use Rattle.h5w_several_laws.specs.Beside.{ApartBeside, BesideFlush, BesideStays, DisjointJoined, FlushUntold, IsBeside, SettledApart, own_of, whole_of, with_root}

pub apart_beside : ApartBeside
apart_beside img name m e r b u v a c = (parts_of m r.apart).root (whole_of u) v (b.own u a) c

-- ---- One piece

-- a piece of one dataset misses what another has
pub step_misses_own : (img name : List ℕ) (m n e : Moment) (held after : List Used) (w : Write) → Represents img name m → Step img m held w n after → IsBeside e m → (u : Used) → Among u (own_of e) → Misses w u.place u.len
step_misses_own img name m n e held after w r (unseen x off is same) b u a = x.off_blocks (whole_of u) (in_root m (whole_of u) (b.own u a)) refl
step_misses_own img name m n e held after w r (ends x same) b u a = ends_missed img m n w r.apart x (whole_of u) (among_left (whole_of u) m.root (own_of m) (b.own u a))
step_misses_own img name m n e held after w r (switches s off clear same) b u a = fixed_missed m w r.apart s.inside (whole_of u) (inr (among_left (whole_of u) m.root m.header (b.own u a)))
step_misses_own img name m n e held after w r (commits c same) b u a =
    header_off m w r.apart (chunk_lies m w c.inside) (whole_of u) (inr (among_left (whole_of u) m.root (m.fixed ++ m.behind) (b.own u a)))

-- a piece that misses the superblock and all that is beside a dataset is unseen there
beside_unseen : (img other : List ℕ) (m e : Moment) (w : Write) → Represents img other e → IsBeside e m → MissesBlocks w (the_superblock ∷ m.root) → Unseen e w
beside_unseen img other m e w r b off = record {
  off_blocks = λ u a block. go u block (front u a);
  off_cells = λ k low d.
      let c = cell_chunk img e k (header_of img other e r).sized (table_of_file img other e r) d in
      chunk_missed w e k c (own c.chunk (among_right c.chunk e.header (e.fixed ++ e.behind) (among_right c.chunk e.fixed e.behind c.among)));
}
  where
    own : (u : Used) → Among u (own_of e) → Misses w u.place u.len
    own u a = off (whole_of u) (inr (b.own u a)) refl

    front : (u : Used) → Among u (all_used e) → (the_superblock ≡ u) ⊎ (Among u e.root ⊎ Among u (own_of e))
    front u (inl same) = inl same
    front u (inr a) = inr (among_split u e.root (own_of e) a)

    go : (u : Used) → u.chunk ≡ false → (the_superblock ≡ u) ⊎ (Among u e.root ⊎ Among u (own_of e)) → Misses w u.place u.len
    go u block (inl same) = off u (inl same) block
    go u block (inr (inl a)) = off u (inr (b.root u a block)) block
    go u block (inr (inr a)) = own u a

same_super : (e : Moment) (s : Super) → s ≡ e.super → record e { super = s } ≡ e
same_super e s same = ap (λ (x : Super). let n : Moment = record e { super = x } in n) same

-- the superblock stays
pub kept_super : (m n e : Moment) → IsBeside e m → n.super ≡ m.super → record e { super = n.super } ≡ e
kept_super m n e b same = same_super e n.super (same ∙ sym b.super)

-- what it is for the other one, where it misses what readers of that may hold
pub step_held : (img name other : List ℕ) (m n e : Moment) (held after more : List Used) (w : Write) → Represents img name m → Step img m held w n after → Represents img other e → IsBeside e m → MissesBlocks w more
    → Step img e more w (record e { super = n.super }) more
step_held img name other m n e held after more w r (unseen u off is same) o b misses =
    unseen (beside_unseen img other m e w o b (front u.off_blocks)) misses (kept_super m n e b (ap (λ (x : Moment). x.super) is)) refl
  where
    front : MissesBlocks w (all_used m) → MissesBlocks w (the_superblock ∷ m.root)
    front h v (inl e) block = h v (inl e) block
    front h v (inr a) block = h v (in_root m v a) block
step_held img name other m n e held after more w r (ends x same) o b misses = other_laws.ends img m n e more w b.super x
step_held img name other m n e held after more w r (switches s off clear same) o b misses =
    unseen (beside_unseen img other m e w o b (front (fixed_missed m w r.apart s.inside))) misses (kept_super m n e b (ap (λ (x : Moment). x.super) s.is)) refl
  where
    front : MissesEach w (the_superblock ∷ (m.root ++ m.header)) → MissesBlocks w (the_superblock ∷ m.root)
    front h v (inl e) block = h v (inl e)
    front h v (inr a) block = h v (inr (among_left v m.root m.header a))
step_held img name other m n e held after more w r (commits c same) o b misses =
    unseen (beside_unseen img other m e w o b (front (header_off m w r.apart (chunk_lies m w c.inside)))) misses (kept_super m n e b (ap (λ (x : Moment). x.super) c.is)) refl
  where
    front : MissesEach w (the_superblock ∷ (m.root ++ (m.fixed ++ m.behind))) → MissesBlocks w (the_superblock ∷ m.root)
    front h v (inl e) block = h v (inl e)
    front h v (inr a) block = h v (inr (among_left v m.root (m.fixed ++ m.behind) a))

pub step_beside : (img name other : List ℕ) (m n e : Moment) (held after : List Used) (w : Write) → Represents img name m → Step img m held w n after → Represents img other e → IsBeside e m
    → Step img e e.behind w (record e { super = n.super }) e.behind
step_beside img name other m n e held after w r s o b =
    step_held img name other m n e held after e.behind w r s o b
    (λ u a block. step_misses_own img name m n e held after w r s b u (among_right u e.header (e.fixed ++ e.behind) (among_right u e.fixed e.behind a)))

-- what is beside a dataset is beside it after the piece
step_root : (img : List ℕ) (m n : Moment) (held after : List Used) (w : Write) → Step img m held w n after → n.root ≡ m.root
step_root img m n held after w (unseen u off is same) = ap (λ (x : Moment). x.root) is
step_root img m n held after w (ends x same) = ap (λ (y : Moment). y.root) x.is
step_root img m n held after w (switches s off clear same) = ap (λ (x : Moment). x.root) s.is
step_root img m n held after w (commits c same) = ap (λ (x : Moment). x.root) c.is

pub beside_stays : BesideStays
beside_stays img m n e held after w s b =
    let same : m.root ≡ n.root = sym (step_root img m n held after w s) in
    record {
      super = refl;
      root = λ u a block. subst (λ (us : List Used). Among u us) same (b.root u a block);
      own = λ u a. subst (λ (us : List Used). Among (whole_of u) us) same (b.own u a);
    }

pub beside_flush : BesideFlush
beside_flush img name other m n e held after [] r f o b = (kept_super m n e b (ap (λ (x : Moment). x.super) f.0), refl)
beside_flush img name other m n e held after (w ∷ ws) r f o b =
    let between : Moment = record e { super = f.0.super } in
    let step = step_beside img name other m f.0 e held f.1 w r f.2 o b in (
      between,
      e.behind,
      step,
      refl,
      beside_flush (apply w img) name other f.0 n between f.1 after ws (step_represents img name m held w f.0 f.1 r f.2) f.4 (step_represents img other e e.behind w between e.behind o step)
          (beside_stays img m f.0 e held f.1 w f.2 b),
    )

-- ---- The ranges of others told, and not

pub settled_apart : SettledApart
settled_apart = record {
  told = λ img name m others r end apart. record {
    super = r.super;
    root = record { own = r.root.own; others = others; is = refl; checked = r.root.checked; ends = end };
    header = r.header;
    index = r.index;
    apart = apart;
    table = r.table;
    count = r.count;
    cells = r.cells;
  };
  untold = λ img name m r.
      let rest : List Used = own_of m in
      let all : Disjoint (the_superblock ∷ ((r.root.own ++ r.root.others) ++ rest)) = subst (λ (us : List Used). Disjoint (the_superblock ∷ (us ++ rest))) r.root.is r.apart in
      record {
        super = r.super;
        root = record { own = r.root.own; others = []; is = sym (append-nil r.root.own); checked = r.root.checked; ends = λ u a. absurd a };
        header = r.header;
        index = r.index;
        apart = disjoint_drop (the_superblock ∷ r.root.own) r.root.others rest all;
        table = r.table;
        count = r.count;
        cells = r.cells;
      };
}

-- ---- Without the ranges of others

module _ (own others : List Used) where
  among_more : (m : Moment) → m.root ≡ own ++ others → (u : Used) → Among u (all_used (with_root own m)) → Among u (all_used m)
  among_more m is u (inl same) = inl same
  among_more m is u (inr a) = inr (go (among_split u own (own_of m) a))
    where
      go : Among u own ⊎ Among u (own_of m) → Among u (m.root ++ own_of m)
      go (inl b) = among_left u m.root (own_of m) (subst (λ (us : List Used). Among u us) (sym is) (among_left u own others b))
      go (inr b) = among_right u m.root (own_of m) b

  apart_less : (m : Moment) → m.root ≡ own ++ others → Disjoint (all_used m) → Disjoint (all_used (with_root own m))
  apart_less m is d = disjoint_drop (the_superblock ∷ own) others (own_of m) (subst (λ (us : List Used). Disjoint (the_superblock ∷ (us ++ own_of m))) is d)

  untold_switches : (img : List ℕ) (m n : Moment) (w : Write) → n.root ≡ own ++ others → Switches img m w n → Switches img (with_root own m) w (with_root own n)
  untold_switches img m n w is s = record {
    is = ap (with_root own) s.is;
    inside = s.inside;
    index = s.index;
    apart = apart_less n is s.apart;
    table = s.table;
    addresses = s.addresses;
    cells = s.cells;
    index_block = s.index_block;
  }

  untold_commits : (img : List ℕ) (m n : Moment) (w : Write) → n.root ≡ own ++ others → Commits img m w n → Commits img (with_root own m) w (with_root own n)
  untold_commits img m n w is c = record {
    more = c.more;
    is = ap (with_root own) c.is;
    inside = record { first = c.inside.first; continued = c.inside.continued; header_is = c.inside.header_is; from = c.inside.from; to = c.inside.to };
    header = c.header;
    described = c.described;
    chunk_0 = c.chunk_0;
    rises = c.rises;
    index = c.index;
    apart = apart_less n is c.apart;
    table = c.table;
    addresses = c.addresses;
    count = c.count;
    cells = c.cells;
  }

  untold_step : (img : List ℕ) (m n : Moment) (held after : List Used) (w : Write) → m.root ≡ own ++ others → n.root ≡ own ++ others → Step img m held w n after → Step img (with_root own m) held w (with_root own n) after
  untold_step img m n held after w is later (unseen u off same kept) =
      unseen (record { off_blocks = λ v a block. u.off_blocks v (among_more m is v a) block; off_cells = u.off_cells }) off (ap (with_root own) same) kept
  untold_step img m n held after w is later (ends e kept) =
      ends (record { is = ap (with_root own) e.is; place = e.place; len = e.len; reads = e.reads; root = e.root; swmr = e.swmr; rises = e.rises; there = e.there }) kept
  untold_step img m n held after w is later (switches s off clear kept) = switches (untold_switches img m n w later s) off clear kept
  untold_step img m n held after w is later (commits c kept) = commits (untold_commits img m n w later c) kept

  untold_flush : (img : List ℕ) (m n : Moment) (held after : List Used) (ws : List Write) → m.root ≡ own ++ others → Flush img m held ws n after → Flush img (with_root own m) held ws (with_root own n) after
  untold_flush img m n held after [] is f = (ap (with_root own) f.0, f.1)
  untold_flush img m n held after (w ∷ ws) is f =
      let later : f.0.root ≡ own ++ others = step_root img m f.0 held f.1 w f.2 ∙ is in
      (with_root own f.0, f.1, untold_step img m f.0 held f.1 w is later f.2, f.3, untold_flush (apply w img) f.0 n f.1 after ws later f.4)

pub flush_untold : FlushUntold
flush_untold img own others m n held after ws is f = untold_flush own others img m n held after ws is f

-- ---- Ranges told together

whole_apart : (u : Used) (vs : List Used) → ((v : Used) → Among v vs → AreApart u v) → (x : Used) → Among x (map whole_of vs) → AreApart u x
whole_apart u [] off x a = absurd a
whole_apart u (v ∷ vs) off x (inl same) = subst (λ (y : Used). AreApart u y) same (off v (inl refl))
whole_apart u (v ∷ vs) off x (inr a) = whole_apart u vs (λ y b. off y (inr b)) x a

whole_disjoint : (vs : List Used) → Disjoint vs → Disjoint (map whole_of vs)
whole_disjoint [] d = tt
whole_disjoint (v ∷ vs) d = (d.0, whole_apart (whole_of v) vs d.1, whole_disjoint vs d.2)

pub disjoint_joined : DisjointJoined
disjoint_joined [] vs d e off = whole_disjoint vs e
disjoint_joined (u ∷ us) vs d e off = (d.0, λ x a. go x (among_split x us (map whole_of vs) a), disjoint_joined us vs d.2 e (λ a b c f. off a b (inr c) f))
  where
    go : (x : Used) → Among x us ⊎ Among x (map whole_of vs) → AreApart u x
    go x (inl a) = d.1 x a
    go x (inr a) = whole_apart u vs (λ v b. off u v (inl refl) b) x a
