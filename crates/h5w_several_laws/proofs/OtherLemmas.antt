-- What a session knows of other datasets over a flush of one.
use Rattle.std.proofs.Common.{◌≡◌, ◌⊎◌, ℕ, List, [], ◌∷◌, ◌++◌, refl, sym, subst, inl, inr}
use Rattle.h5w_model.specs.Images.{apply, image}
use Rattle.h5w_model.specs.Findings.{Used, the_superblock}
use Rattle.h5w_model.specs.declared.cell.Key.{Key}
use Rattle.h5w_model.specs.declared.piece.Write.{Write}
use Rattle.h5w_step_laws.specs.Ranges.{Among, AreApart}
use Rattle.h5w_step_laws.proofs.RangeLemmas.{among_left, among_right, among_split}
use Rattle.h5w_space.specs.Space.{Space, IsLive}
use Rattle.h5w_step_laws.specs.Files.{LayoutInChunk0}
use Rattle.h5w_step_laws.specs.Moments.{Moment, all_used, Represents}
use Rattle.h5w_step_laws.specs.Steps.{OffAll}
use Rattle.h5w_step_laws.specs.Plans.{Flush}
use Rattle.h5w_step_laws.proofs.MomentLemmas.{in_root}
use Rattle.h5w_step_laws.proofs.StepRepresents.{step_represents}
use Rattle.h5w_step_laws.proofs.PlanLaws.{plan_leads}
use Rattle.h5w_flush_laws.specs.Spaces.{AllLive, extent_of}
use Rattle.h5w_flush_laws.specs.Knowledge.{HeldMissed, IsMap, Knows}
use Rattle.h5w_flush_laws.specs.Parts.{Parts, IsFlush, flushed_to, fresh_of, pieces_of}
use Rattle.h5w_flush_laws.proofs.EarlyLemmas.{header_kept}
use Rattle.h5w_flush_laws.proofs.KnownLaws.{map_missed}
use Rattle.h5w_flush_laws.proofs.FlushLaws.{flush_safe, knows_then}
use Rattle.h5w_several_laws.specs.Beside.{IsBeside, own_of, whole_of}
use Rattle.h5w_several_laws.proofs.BesideLemmas.{apart_beside, beside_stays, step_beside, step_misses_own}
use Rattle.h5w_several_laws.proofs.HeldLemmas.{beside_held}
use Rattle.h5w_flush_laws.proofs.SpaceLemmas.{have_no_byte, meet_nowhere}
use Rattle.h5w_step_laws.proofs.PartLemmas.{apart_sym, disjoint_some}
use Rattle.h5w_several_laws.specs.Others.{OthersKnow, and_then}

-- ---- All pieces

-- the index's map stays, and so does the header
record Stay (img new : List ℕ) (e : Moment) (a : Key → ℕ) : Type 0 where
  map : IsMap new e.dataset a
  layout : LayoutInChunk0 img e.place → LayoutInChunk0 new e.place

flush_stays : (img name other : List ℕ) (m n e : Moment) (a : Key → ℕ) (held after : List Used) (ws : List Write) → Represents img name m → Flush img m held ws n after → Represents img other e → IsBeside e m → IsMap img e.dataset a
    → Stay img (image img ws) e a
flush_stays img name other m n e a held after [] r f o b x = record { map = x; layout = λ h. h }
flush_stays img name other m n e a held after (w ∷ ws) r f o b x =
    let misses = step_misses_own img name m f.0 e held f.1 w r f.2 b in
    let between : Moment = record e { super = f.0.super } in
    let step = step_beside img name other m f.0 e held f.1 w r f.2 o b in
    let map = map_missed w img other e a o x (λ u c block. misses u (among_right u e.header (e.fixed ++ e.behind) c)) in
    let kept = header_kept img other e w o (λ u c block. misses u (among_left u e.header (e.fixed ++ e.behind) c)) in
    let later =
    flush_stays (apply w img) name other f.0 n between a f.1 after ws (step_represents img name m held w f.0 f.1 r f.2) f.4 (step_represents img other e e.behind w between e.behind o step) (beside_stays img m f.0 e held f.1 w f.2 b)
    map in
    record { map = later.map; layout = λ h. later.layout (kept.layout h) }

-- it is beside what the flush leads to
flush_beside : (img : List ℕ) (m n e : Moment) (held after : List Used) (ws : List Write) → Flush img m held ws n after → IsBeside e m → IsBeside (record e { super = n.super }) n
flush_beside img m n e held after [] f b = subst (λ (x : Moment). IsBeside (record e { super = x.super }) x) (sym f.0) (record { super = refl; root = b.root; own = b.own })
flush_beside img m n e held after (w ∷ ws) f b = flush_beside (apply w img) f.0 n (record e { super = f.0.super }) f.1 after ws f.4 (beside_stays img m f.0 e held f.1 w f.2 b)

module _ (img name other : List ℕ) (m e : Moment) (old a : Key → ℕ) (s t : Space) (f : Parts) (k : Knows img name m old s) (i : IsFlush img m old s f t) (missed : HeldMissed k.held f.writes) (o : Knows img other e a s) (off : OffAll o.held (own_of m)) where
  fresh_off : (u v : Used) → Among u o.held → Among v (fresh_of f) → AreApart u v
  fresh_off u v a b = apart_sym v u (meet_nowhere v u (disjoint_some (fresh_of f) i.taken.apart v b) (o.holding.some u a) (i.taken.off_live v (extent_of u) b (o.holding.live u a)))

  held_off : OffAll o.held (own_of (flushed_to m f))
  held_off u v a b = first (among_split v m.header (f.fixed ++ f.behind) b)
    where
      second : Among v (fresh_of f) ⊎ Among v (m.fixed ++ m.behind) → AreApart u v
      second (inl c) = fresh_off u v a c
      second (inr c) = off u v a (among_right v m.header (m.fixed ++ m.behind) c)

      first : Among v m.header ⊎ Among v (f.fixed ++ f.behind) → AreApart u v
      first (inl c) = off u v a (among_left v m.header (m.fixed ++ m.behind) c)
      first (inr c) = second (among_split v (fresh_of f) (m.fixed ++ m.behind) (i.index.known v c))

  held_live : AllLive t o.held
  held_live u a =
      i.let_go.stays_live (extent_of u) (i.taken.stays_live (extent_of u) (o.holding.live u a))
      (λ l gone. have_no_byte l u (apart_sym u l (off u l a (among_right l m.header (m.fixed ++ m.behind) (among_right l m.fixed m.behind (i.left_before l gone))))))

pub others_know : OthersKnow
others_know img name other m e old a s t f k i missed o b blocks cols told off =
    let safe = flush_safe img name m old s t f k i missed in
    let then = (knows_then img name m old s t f k i missed).knows in
    let plan = beside_held img name other m (flushed_to m f) e k.held f.behind o.held (pieces_of img m f) cols k.file k.holding.off_front safe o.file b told in
    let stay = flush_stays img name other m (flushed_to m f) e a k.held f.behind (pieces_of img m f) k.file safe o.file b o.index in
    let beside = flush_beside img m (flushed_to m f) e k.held f.behind (pieces_of img m f) safe b in
    record {
      plan = plan;
      knows = record {
        file = plan_leads img other e (and_then m f e) o.held o.held (pieces_of img m f) o.file plan;
        index = stay.map;
        live = λ u c. go then.live u (front u c);
        ended = then.ended;
        covered = then.covered;
        held = o.held;
        holding = record { reaches = o.holding.reaches; off_front = o.holding.off_front; clear = o.holding.clear; some = o.holding.some; live = held_live img name other m e old a s t f k i missed o off };
        layout = λ h. stay.layout (o.layout h);
      };
      held_is = refl;
      beside = beside;
      apart = apart_beside (image img (pieces_of img m f)) name (flushed_to m f) (and_then m f e) then.file beside;
      held_apart = held_off img name other m e old a s t f k i missed o off;
    }
  where
    front : (u : Used) → Among u (all_used e) → (the_superblock ≡ u) ⊎ (Among u e.root ⊎ Among u (own_of e))
    front u (inl same) = inl same
    front u (inr c) = inr (among_split u e.root (own_of e) c)

    go : ((u : Used) → Among u (all_used (flushed_to m f)) → IsLive t (extent_of u)) → (u : Used) → (the_superblock ≡ u) ⊎ (Among u e.root ⊎ Among u (own_of e)) → IsLive t (extent_of u)
    go live u (inl same) = live u (inl same)
    go live u (inr (inl c)) = live u (in_root (flushed_to m f) u (b.root u c (blocks u c)))
    go live u (inr (inr c)) = live (whole_of u) (in_root (flushed_to m f) (whole_of u) (b.own u c))
