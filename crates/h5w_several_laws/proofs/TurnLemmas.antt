-- One part of a flush of several datasets.
use Rattle.std.proofs.Common.{◌≡◌, ◌⊎◌, ℕ, ◌+◌, ◌<◌, ◌≤◌, false, List, [], ◌∷◌, ◌++◌, refl, sym, ◌∙◌, ap, subst, inl, inr, append_assoc}
use Rattle.std.specs.Prelude.{map}
use Rattle.h5w_model.specs.Images.{image}
use Rattle.h5w_model.specs.Findings.{Used, the_superblock}
use Rattle.h5w_model.specs.declared.root.Super.{Super}
use Rattle.h5w_model.specs.declared.piece.Write.{Write}
use Rattle.h5w_step_laws.specs.Ranges.{Among, AllAmong, AllEndBy, AreApart, Disjoint}
use Rattle.h5w_step_laws.proofs.RangeLemmas.{among_left, among_right, among_split, some_joined}
use Rattle.h5w_space.specs.Space.{Space, IsLive}
use Rattle.h5w_step_laws.specs.Moments.{Moment, all_used, moved_of, Represents}
use Rattle.h5w_step_laws.specs.Steps.{OffAll}
use Rattle.h5w_step_laws.specs.Plans.{Plan, Flush}
use Rattle.h5w_step_laws.proofs.PartLemmas.{apart_sym, disjoint_apart, disjoint_left, disjoint_right}
use Rattle.h5w_step_laws.proofs.MomentLemmas.{in_root}
use Rattle.h5w_step_laws.proofs.GoesLemmas.{clear_joined, off_joined}
use Rattle.h5w_step_laws.proofs.PlanLaws.{all_end, end_long, flush_leads}
use Rattle.h5w_flush_laws.specs.Spaces.{AllLive, extent_of}
use Rattle.h5w_flush_laws.specs.Knowledge.{HeldMissed, Holding, Knows}
use Rattle.h5w_flush_laws.specs.Parts.{Parts, IsFlush, flushed_to}
use Rattle.h5w_flush_laws.proofs.FlushLaws.{flush_safe, knows_then}
use Rattle.h5w_several_laws.specs.Beside.{IsBeside, own_of, whole_of}
use Rattle.h5w_several_laws.proofs.BesideLemmas.{disjoint_joined, flush_untold}
use Rattle.h5w_several_laws.proofs.OtherLemmas.{others_know}
use Rattle.h5w_several_laws.specs.Turns.{AreKnown, AreOff, ArePlans, Entry, IsOff, IsOne, IsTurn, TurnKnown, all_then, flushed, helds, owns, part_of, super_then, then_as, told}

-- ---- Ranges as blocks

pub whole_among : (us : List Used) (u : Used) → Among u us → Among (whole_of u) (map whole_of us)
whole_among [] u a = absurd a
whole_among (x ∷ us) u (inl e) = inl (ap whole_of e)
whole_among (x ∷ us) u (inr a) = inr (whole_among us u a)

pub from_whole : (us : List Used) (w : Used) → Among w (map whole_of us) → (u : Used) × Among u us × (whole_of u ≡ w)
from_whole [] w a = absurd a
from_whole (x ∷ us) w (inl e) = (x, inl refl, e)
from_whole (x ∷ us) w (inr a) =
    let r = from_whole us w a in
    (r.0, inr r.1, r.2)

pub join : (us vs : List Used) → Disjoint us → Disjoint vs → OffAll us vs → Disjoint (us ++ vs)
join [] vs d e off = e
join (u ∷ us) vs d e off = (d.0, λ x a. go x (among_split x us vs a), join us vs d.2 e (λ a b c f. off a b (inr c) f))
  where
    go : (x : Used) → Among x us ⊎ Among x vs → AreApart u x
    go x (inl a) = d.1 x a
    go x (inr a) = off u x (inl refl) a

-- ---- What others have

pub off_owns : (x : Entry) (es : List Entry) → IsOff x es → OffAll (owns es) (own_of x.moment)
off_owns x [] off u v a b = absurd a
off_owns x (e ∷ es) off u v a b = go (off_owns x es off.1) (among_split u (own_of e.moment) (owns es) a)
  where
    go : OffAll (owns es) (own_of x.moment) → Among u (own_of e.moment) ⊎ Among u (owns es) → AreApart u v
    go later (inl c) = off.0.own u v c b
    go later (inr c) = later u v c b

off_helds : (x : Entry) (es : List Entry) → IsOff x es → OffAll (helds es) (own_of x.moment)
off_helds x [] off u v a b = absurd a
off_helds x (e ∷ es) off u v a b = go (off_helds x es off.1) (among_split u e.held (helds es) a)
  where
    go : OffAll (helds es) (own_of x.moment) → Among u e.held ⊎ Among u (helds es) → AreApart u v
    go later (inl c) = off.0.held u v c b
    go later (inr c) = later u v c b

module _ (img : List ℕ) (s : Space) (super : Super) (root : List Used) where
  owns_disjoint : (es : List Entry) → AreKnown img s super root es → AreOff es → Disjoint (owns es)
  owns_disjoint [] k off = tt
  owns_disjoint (e ∷ es) k off =
      let m = e.moment in
      join (own_of m) (owns es) (disjoint_right m.root (own_of m) k.0.knows.file.apart.2) (owns_disjoint es k.1 off.1) (λ u v a b. apart_sym v u (off_owns e es off.0 v u b a))

  off_front : (es : List Entry) → AreKnown img s super root es → OffAll (the_superblock ∷ root) (owns es)
  off_front [] k u v a b = absurd b
  off_front (e ∷ es) k u v a b = go (off_front es k.1) (among_split v (own_of e.moment) (owns es) b)
    where
      go : OffAll (the_superblock ∷ root) (owns es) → Among v (own_of e.moment) ⊎ Among v (owns es) → AreApart u v
      go later (inl c) = disjoint_apart (the_superblock ∷ e.moment.root) (own_of e.moment) u v k.0.knows.file.apart (subst (λ (us : List Used). Among u (the_superblock ∷ us)) (sym k.0.root_is) a) c
      go later (inr c) = later u v a c

  owns_end : (es : List Entry) → AreKnown img s super root es → AllEndBy super.end (owns es)
  owns_end [] k u a = absurd a
  owns_end (e ∷ es) k u a = go (owns_end es k.1) (among_split u (own_of e.moment) (owns es) a)
    where
      go : AllEndBy super.end (owns es) → Among u (own_of e.moment) ⊎ Among u (owns es) → u.place + u.len ≤ super.end
      go later (inl c) =
          let r = k.0.knows.file in
          subst (λ (x : Super). u.place + u.len ≤ x.end) k.0.super_is
          (all_end img e.name e.moment r (end_long img e.name e.moment r) u (inr (among_right u e.moment.root (own_of e.moment) c)))
      go later (inr c) = later u c

  owns_live : (es : List Entry) → AreKnown img s super root es → AllLive s (owns es)
  owns_live [] k u a = absurd a
  owns_live (e ∷ es) k u a = go (owns_live es k.1) (among_split u (own_of e.moment) (owns es) a)
    where
      go : AllLive s (owns es) → Among u (own_of e.moment) ⊎ Among u (owns es) → IsLive s (extent_of u)
      go later (inl c) = k.0.knows.live u (inr (among_right u e.moment.root (own_of e.moment) c))
      go later (inr c) = later u c

  -- what is held of one, of all
  record IsHeld (u : Used) : Type 0 where
    some : 0 < u.len
    live : IsLive s (extent_of u)
    off : AreApart u the_superblock

  holding_of : (o : Entry) → IsOne img s super root o → Holding o.moment s o.held
  holding_of o one = subst (λ (us : List Used). Holding o.moment s us) one.held_is one.knows.holding

  are_held : (es : List Entry) → AreKnown img s super root es → (u : Used) → Among u (helds es) → IsHeld u
  are_held [] k u a = absurd a
  are_held (e ∷ es) k u a = go (are_held es k.1) (among_split u e.held (helds es) a)
    where
      go : ((x : Used) → Among x (helds es) → IsHeld x) → Among u e.held ⊎ Among u (helds es) → IsHeld u
      go later (inl c) =
          let h = holding_of e k.0 in
          record { some = h.some u c; live = h.live u c; off = h.off_front u the_superblock c (inl refl) }
      go later (inr c) = later u c

-- ---- A file told of others

module _ (img : List ℕ) (e : Entry) (es : List Entry) (s : Space) (one : IsOne img s e.moment.super e.moment.root e) (all : AreKnown img s e.moment.super e.moment.root es) (off : IsOff e es) (apart : AreOff es) where
  abbrev k : Knows img e.name e.moment e.address s
  k = one.knows

  abbrev m : Moment
  m = e.moment

  abbrev wholes : List Used
  wholes = map whole_of (owns es)

  told_front : Disjoint (the_superblock ∷ (m.root ++ wholes))
  told_front =
      disjoint_joined (the_superblock ∷ m.root) (owns es) (disjoint_left (the_superblock ∷ m.root) (own_of m) k.file.apart) (owns_disjoint img s m.super m.root es all apart) (off_front img s m.super m.root es all)

  told_off : OffAll (the_superblock ∷ (m.root ++ wholes)) (own_of m)
  told_off u v a b = first a
    where
      second : Among u m.root ⊎ Among u wholes → AreApart u v
      second (inl c) = disjoint_apart (the_superblock ∷ m.root) (own_of m) u v k.file.apart (inr c) b
      second (inr c) =
          let w = from_whole (owns es) u c in
          subst (λ (x : Used). AreApart x v) w.2 (off_owns e es off w.0 v w.1 b)

      first : (the_superblock ≡ u) ⊎ Among u (m.root ++ wholes) → AreApart u v
      first (inl c) = disjoint_apart (the_superblock ∷ m.root) (own_of m) u v k.file.apart (inl c) b
      first (inr c) = second (among_split u m.root wholes c)

  told_ends : AllEndBy m.super.end (k.file.root.others ++ wholes)
  told_ends u a = go (among_split u k.file.root.others wholes a)
    where
      go : Among u k.file.root.others ⊎ Among u wholes → u.place + u.len ≤ m.super.end
      go (inl c) = k.file.root.ends u c
      go (inr c) =
          let w = from_whole (owns es) u c in
          subst (λ (x : Used). x.place + x.len ≤ m.super.end) w.2 (owns_end img s m.super m.root es all w.0 w.1)

  pub told_live : AllLive s (all_used (told m es))
  told_live u a = first a
    where
      third : Among u m.root ⊎ Among u wholes → IsLive s (extent_of u)
      third (inl c) = k.live u (in_root m u c)
      third (inr c) =
          let w = from_whole (owns es) u c in
          subst (λ (x : Used). IsLive s (extent_of x)) w.2 (owns_live img s m.super m.root es all w.0 w.1)

      second : Among u (m.root ++ wholes) ⊎ Among u (own_of m) → IsLive s (extent_of u)
      second (inl c) = third (among_split u m.root wholes c)
      second (inr c) = k.live u (inr (among_right u m.root (own_of m) c))

      first : (the_superblock ≡ u) ⊎ Among u ((m.root ++ wholes) ++ own_of m) → IsLive s (extent_of u)
      first (inl c) = k.live u (inl c)
      first (inr c) = second (among_split u (m.root ++ wholes) (own_of m) c)

  pub told_file : Represents img e.name (told m es)
  told_file = record {
    super = k.file.super;
    root = record {
      own = k.file.root.own;
      others = k.file.root.others ++ wholes;
      is = ap (λ us. us ++ wholes) k.file.root.is ∙ append_assoc k.file.root.own k.file.root.others wholes;
      checked = k.file.root.checked;
      ends = told_ends;
    };
    header = k.file.header;
    index = k.file.index;
    apart = join (the_superblock ∷ (m.root ++ wholes)) (own_of m) told_front (disjoint_right m.root (own_of m) k.file.apart.2) told_off;
    table = k.file.table;
    count = k.file.count;
    cells = k.file.cells;
  }

  abbrev hs : List Used
  hs = helds es

  held_of : (u : Used) → Among u hs → IsHeld img s m.super m.root u
  held_of u a = are_held img s m.super m.root es all u a

  held_moved : OffAll hs (moved_of m)
  held_moved u v a b = first b
    where
      second : Among v m.header ⊎ Among v m.fixed → AreApart u v
      second (inl c) = off_helds e es off u v a (among_left v m.header (m.fixed ++ m.behind) c)
      second (inr c) = off_helds e es off u v a (among_right v m.header (m.fixed ++ m.behind) (among_left v m.fixed m.behind c))

      first : (the_superblock ≡ v) ⊎ Among v (m.header ++ m.fixed) → AreApart u v
      first (inl c) = subst (λ (x : Used). AreApart u x) c ((held_of u a).off)
      first (inr c) = second (among_split v m.header m.fixed c)

  live_both : AllLive s (k.held ++ hs)
  live_both u a = go (among_split u k.held hs a)
    where
      go : Among u k.held ⊎ Among u hs → IsLive s (extent_of u)
      go (inl c) = k.holding.live u c
      go (inr c) = (held_of u c).live

  pub told_knows : Knows img e.name (told m es) e.address s
  told_knows = record {
    file = told_file;
    index = k.index;
    live = told_live;
    ended = k.ended;
    covered = k.covered;
    held = k.held ++ hs;
    holding = record {
      reaches = λ u a. among_left u k.held hs (k.holding.reaches u a);
      off_front = off_joined k.held hs (moved_of m) k.holding.off_front held_moved;
      clear = clear_joined k.held hs m k.holding.clear (λ u v a block b chunk. off_helds e es off u v a (among_right v m.header (m.fixed ++ m.behind) (among_right v m.fixed m.behind b)));
      some = some_joined k.held hs k.holding.some (λ u a. (held_of u a).some);
      live = live_both;
    };
    layout = k.layout;
  }

  -- what its readers and those of others may hold
  pub told_holding : Holding (told m es) s (k.held ++ hs)
  unfolding told_knows
  told_holding = told_knows.holding

  pub told_helds : told_knows.held ≡ k.held ++ hs
  unfolding told_knows
  told_helds = refl

  -- told of what others have, not of what is held of them
  told_own : Knows img e.name (told m es) e.address s
  told_own = record {
    file = told_file;
    index = k.index;
    live = told_live;
    ended = k.ended;
    covered = k.covered;
    held = k.held;
    holding = record { reaches = k.holding.reaches; off_front = k.holding.off_front; clear = k.holding.clear; some = k.holding.some; live = k.holding.live };
    layout = k.layout;
  }

  -- ---- Its flush

  module _ (f : Parts) (t : Space) (i : IsFlush img (told m es) e.address s f t) (blocks : (u : Used) → Among u m.root → u.chunk ≡ false) (missed : HeldMissed (k.held ++ hs) f.writes) where
    abbrev ws : List Write
    ws = part_of img e f

    missed_own : HeldMissed told_own.held f.writes
    unfolding told_own
    missed_own u a block = missed u (among_left u k.held hs a) block

    pub missed_all : HeldMissed told_knows.held f.writes
    unfolding told_knows
    missed_all u a block = missed u a block

    own_flush : Flush img m k.held ws (flushed_to m f) f.behind
    unfolding told_own
    own_flush = flush_untold img m.root wholes (told m es) (flushed_to (told m es) f) k.held f.behind ws refl (flush_safe img e.name (told m es) e.address s t f told_own i missed_own)

    known_then : Knows (image img ws) e.name (flushed_to (told m es) f) f.address t
    known_then = (knows_then img e.name (told m es) e.address s t f told_own i missed_own).knows

    live_then : AllLive t (all_used (flushed_to m f))
    live_then u a = first a
      where
        after : List Used
        after = own_of (flushed_to m f)

        second : Among u m.root ⊎ Among u (own_of (flushed_to m f)) → Among u ((m.root ++ wholes) ++ own_of (flushed_to m f))
        second (inl c) = among_left u (m.root ++ wholes) (own_of (flushed_to m f)) (among_left u m.root wholes c)
        second (inr c) = among_right u (m.root ++ wholes) (own_of (flushed_to m f)) c

        first : (the_superblock ≡ u) ⊎ Among u (m.root ++ own_of (flushed_to m f)) → IsLive t (extent_of u)
        first (inl c) = known_then.live u (inl c)
        first (inr c) = known_then.live u (inr (second (among_split u m.root (own_of (flushed_to m f)) c)))

    known_own : Knows (image img ws) e.name (flushed_to m f) f.address t
    known_own = record {
      file = flush_leads img e.name m (flushed_to m f) k.held f.behind ws k.file own_flush;
      index = known_then.index;
      live = live_then;
      ended = known_then.ended;
      covered = known_then.covered;
      held = known_then.held;
      holding = record { reaches = known_then.holding.reaches; off_front = known_then.holding.off_front; clear = known_then.holding.clear; some = known_then.holding.some; live = known_then.holding.live };
      layout = known_then.layout;
    }

    -- ---- The others

    pub is_beside : (o : Entry) → IsOne img s m.super m.root o → AllAmong (own_of o.moment) (owns es) → IsBeside o.moment (told m es)
    is_beside o one inside = record {
      super = one.super_is;
      root = λ u a block. among_left u m.root wholes (subst (λ (us : List Used). Among u us) one.root_is a);
      own = λ u a. among_right (whole_of u) m.root wholes (whole_among (owns es) u (inside u a));
    }

    record Others (os : List Entry) : Type 0 where
      plans : ArePlans img ws (super_then e f) os
      known : AreKnown (image img ws) t (super_then e f) m.root (all_then (super_then e f) os)
      beside : IsOff (flushed e f) (all_then (super_then e f) os)

    others : (os : List Entry) → AreKnown img s m.super m.root os → IsOff e os → AllAmong (owns os) (owns es) → AllAmong (helds os) hs → Others os
    unfolding told_knows
    others [] known away inside under = record { plans = tt; known = tt; beside = tt }
    others (o ∷ os) known away inside under =
        let own = known.0 in
        let b = is_beside o own (λ u a. inside u (among_left u (own_of o.moment) (owns os) a)) in
        let same = own.held_is in
        let r =
        others_know img e.name o.name (told m es) o.moment e.address o.address s t f told_knows i missed_all own.knows b (λ u a. blocks u (subst (λ (us : List Used). Among u us) own.root_is a)) one.cols
        (λ u a block. among_right u k.held hs (under u (among_left u o.held (helds os) (subst (λ (us : List Used). Among u us) same a))))
        (subst (λ (us : List Used). OffAll us (own_of m)) (sym same) away.0.held) in
        let later = others os known.1 away.1 (λ u a. inside u (among_right u (own_of o.moment) (owns os) a)) (λ u a. under u (among_right u o.held (helds os) a)) in
        record {
          plans = (subst (λ (us : List Used). Plan img o.moment us ws (then_as (super_then e f) o).moment us) same r.plan, later.plans);
          known = (record { knows = r.knows; super_is = refl; root_is = own.root_is; held_is = r.held_is ∙ same; cols = own.cols }, later.known);
          beside = (
            record {
              own = r.apart;
              held = subst (λ (us : List Used). OffAll us (own_of (flushed_to m f))) same r.held_apart;
              other = λ u v a c. apart_sym v u (r.apart v u c (among_right u m.header (f.fixed ++ f.behind) (among_right u f.fixed f.behind a)));
            },
            later.beside,
          );
        }

    is_turn : IsTurn img e es f t
    unfolding known_own known_then
    is_turn =
        let o = others es all off (λ u a. a) (λ u a. a) in
        record { flush = subst (λ (us : List Used). Flush img m us ws (flushed_to m f) f.behind) one.held_is own_flush; one = record { knows = known_own; super_is = refl; root_is = refl; held_is = (knows_then img e.name (told m es) e.address s t f told_own i missed_own).held; cols = one.cols }; plans = o.plans; others = o.known; off = o.beside }

pub turn_known : TurnKnown
turn_known img e es f s t one all off apart blocks i missed = is_turn img e es s one all off apart f t i blocks (subst (λ (us : List Used). HeldMissed (us ++ helds es) f.writes) (sym one.held_is) missed)
