-- In the middle of one part of a flush.
use Rattle.std.proofs.Common.{◌≡◌, ◌≢◌, ◌⊎◌, ℕ, false, List, [], ◌∷◌, ◌++◌, length, Ok, refl, sym, ◌∙◌, ap, subst, inl, inr, append-nil, append_assoc}
use Rattle.h5w_model.specs.Images.{AllMiss, apply, image}
use Rattle.h5w_model.specs.Numbers.{range}
use Rattle.h5w_model.specs.Programs.{eval}
use Rattle.h5w_model.specs.Tables.{InPlace, format_limits}
use Rattle.h5w_model.specs.Datasets.{Described}
use Rattle.h5w_model.specs.Findings.{Used, checked_dataset, checked_root, checked_super, index_visit}
use Rattle.h5w_model.specs.declared.cell.Key.{Key}
use Rattle.h5w_model.specs.declared.piece.Write.{Write}
use Rattle.h5w_model.specs.declared.root.Super.{Super}
use Rattle.h5w_model.proofs.ImageLemmas.{image-append}
use Rattle.h5w_laws.proofs.AnswerLemmas.{same_ok}
use Rattle.h5w_step_laws.specs.Ranges.{Among, AllAmong}
use Rattle.h5w_step_laws.proofs.HeaderLaws.{root_places}
use Rattle.h5w_step_laws.proofs.RangeLemmas.{among_left, among_right, among_split}
use Rattle.h5w_space.specs.Space.{Space}
use Rattle.h5w_step_laws.specs.Files.{commit_at}
use Rattle.h5w_step_laws.specs.Moments.{Moment, Represents}
use Rattle.h5w_step_laws.specs.Steps.{OffAll, Step, commits, ends, switches, unseen}
use Rattle.h5w_step_laws.specs.Plans.{Flush, Plan, UnseenRange}
use Rattle.h5w_step_laws.proofs.PartLemmas.{apart_sym}
use Rattle.h5w_step_laws.proofs.PlanLaws.{flush_leads, plan_leads}
use Rattle.h5w_step_laws.proofs.StepRepresents.{step_represents}
use Rattle.h5w_flush_laws.specs.Knowledge.{HeldMissed, Knows}
use Rattle.h5w_flush_laws.specs.Parts.{AllUnseen, AreEnded, EachSays, IsFlush, Parts, block_ranges, block_writes, copied, early_of, ended, flushed_to, fresh_of, pieces_of}
use Rattle.h5w_flush_laws.proofs.EarlyLemmas.{blocks_off_held, blocks_unseen, fresh_unseen, unseen_stage}
use Rattle.h5w_flush_laws.proofs.FlushLaws.{flush_safe}
use Rattle.h5w_flush_laws.proofs.FlushLemmas.{copies_range, file_copied, file_ended, file_rows, turning, with_end}
use Rattle.h5w_flush_laws.proofs.IndexLemmas.{turned, turns}
use Rattle.h5w_several_laws.specs.Beside.{own_of}
use Rattle.h5w_several_laws.specs.Between.{IsBetween, OwnBetween, TurnBetween, between_of}
use Rattle.h5w_several_laws.specs.Turns.{AreKnown, AreOff, ArePlans, Entry, IsApart, IsOff, IsOne, IsTurn, all_then, flushed, helds, owns, part_of, super_then, then_as, told}
use Rattle.h5w_several_laws.proofs.DueLemmas.{heads, tails}
use Rattle.h5w_several_laws.proofs.HeldLemmas.{beside_held}
use Rattle.h5w_several_laws.proofs.TurnLemmas.{is_beside, missed_all, told_helds, told_knows, turn_known}

-- ---- One image, one dataset

pub super_one : (img name : List ℕ) (m n : Moment) → Represents img name m → Represents img name n → m.super ≡ n.super
super_one img name m n r s = same_ok (checked_super (length img) (range img 0 48)) m.super n.super r.super s.super

-- its ranges are those of each moment of it
pub own_one : (img name : List ℕ) (m n : Moment) → Represents img name m → Represents img name n → own_of m ≡ own_of n
own_one img name m n r s =
    let super : m.super ≡ n.super = super_one img name m n r s in
    let root = subst (λ (x : Super). eval img (checked_root name x) ≡ Ok (m.place, r.root.own)) super r.root.checked in
    let place : m.place ≡ n.place = (root_places m.place n.place r.root.own s.root.own (sym root ∙ s.root.checked)).0 in
    let header = subst (λ (x : ℕ). eval img (checked_dataset format_limits n.super x) ≡ Ok (m.dataset, m.header)) place (subst (λ (x : Super). eval img (checked_dataset format_limits x m.place) ≡ Ok (m.dataset, m.header)) super r.header) in
    let both : (m.dataset, m.header) ≡ (n.dataset, n.header) = same_ok (eval img (checked_dataset format_limits n.super n.place)) (m.dataset, m.header) (n.dataset, n.header) header s.header in
    let dataset : m.dataset ≡ n.dataset = ap (λ (x : Described × List Used). x.0) both in
    let index = subst (λ (d : Described). eval img (index_visit n.super.end d) ≡ Ok (m.fixed ++ m.behind)) dataset (subst (λ (x : Super). eval img (index_visit x.end m.dataset) ≡ Ok (m.fixed ++ m.behind)) super r.index.checked) in
    let ranges : m.fixed ++ m.behind ≡ n.fixed ++ n.behind = same_ok (eval img (index_visit n.super.end n.dataset)) (m.fixed ++ m.behind) (n.fixed ++ n.behind) index s.index.checked in
    ap (λ (us : List Used). us ++ (m.fixed ++ m.behind)) (ap (λ (x : Described × List Used). x.1) both) ∙ ap (λ (us : List Used). n.header ++ us) ranges

-- ---- The first of some pieces

-- they end in the first list, or in the second
record IsCut (ws vs xs ys : List Write) : Type 0 where
  more : List Write
  where_cut : (xs ≡ ws ++ more) ⊎ ((ws ≡ xs ++ more) × (more ++ vs ≡ ys))

cut : (ws vs xs ys : List Write) → ws ++ vs ≡ xs ++ ys → IsCut ws vs xs ys
cut [] vs xs ys h = record { more = xs; where_cut = inl refl }
cut (w ∷ ws) vs [] ys h = record { more = w ∷ ws; where_cut = inr (refl, h) }
cut (w ∷ ws) vs (x ∷ xs) ys h =
    let r = cut ws vs xs ys (tails w x (ws ++ vs) (xs ++ ys) h) in
    let first : w ≡ x = heads w x (ws ++ vs) (xs ++ ys) h in
    record {
      more = r.more;
      where_cut = elim r.where_cut [
        | inl e ↦ inl (ap (λ (y : Write). y ∷ xs) (sym first) ∙ ap (λ (zs : List Write). w ∷ zs) e)
        | inr e ↦ inr (ap (λ (y : Write). y ∷ ws) first ∙ ap (λ (zs : List Write). x ∷ zs) e.0, e.1)
      ];
    }

unseen_first : (m : Moment) (ws vs : List Write) → AllUnseen m (ws ++ vs) → AllUnseen m ws
unseen_first m [] vs h = tt
unseen_first m (w ∷ ws) vs h = (h.0, unseen_first m ws vs h.1)

miss_first : (ws vs : List Write) (place n : ℕ) → AllMiss (ws ++ vs) place n → AllMiss ws place n
miss_first [] vs place n h = tt
miss_first (w ∷ ws) vs place n h = (h.0, miss_first ws vs place n h.1)

missed_first : (held : List Used) (ws vs : List Write) → HeldMissed held (ws ++ vs) → HeldMissed held ws
missed_first held ws vs h u a block = miss_first ws vs u.place u.len (h u a block)

says_first : (d : Described) (before : List Used) (blocks : InPlace) (fixed : List Used) (img : List ℕ) (ws vs : List Write) → EachSays d before blocks fixed img (ws ++ vs) → EachSays d before blocks fixed img ws
says_first d before blocks fixed img [] vs h = tt
says_first d before blocks fixed img (w ∷ ws) vs h = (h.0, h.1, says_first d before blocks fixed (apply w img) ws vs h.2)

-- ---- What it has there

module _ (img name : List ℕ) (m : Moment) (old : Key → ℕ) (s t : Space) (f : Parts) (k : Knows img name m old s) (i : IsFlush img m old s f t) (missed : HeldMissed k.held f.writes) where
  abbrev Either : Moment → Type 0
  Either b = (own_of b ≡ own_of m) ⊎ (own_of b ≡ own_of (flushed_to m f))

  -- pieces that no reader reaches
  in_rows : (ws zs : List Write) (b : Moment) → f.writes ≡ ws ++ zs → Represents (image img ws) name b → Either b
  in_rows ws zs b is r =
      let stage = unseen_stage img name m k.held ws k.file (unseen_first m ws zs (subst (AllUnseen m) is i.written.unseen)) (missed_first k.held ws zs (subst (HeldMissed k.held) is missed)) in
      inl (own_one (image img ws) name b m r (plan_leads img name m m k.held k.held ws k.file stage.plan))

  fresh_copies : (u : Used) → Among u (block_ranges f.copies) → UnseenRange m k.held u.place u.len
  fresh_copies u a = fresh_unseen img name m k.held s i.between (fresh_of f) k.file k.live k.holding i.taken u (copies_range img name m old s t f k i missed u a)

  in_copies : (ws zs : List Write) (b : Moment) → block_writes f.copies ≡ ws ++ zs → Represents (image (image img f.writes) ws) name b → Either b
  in_copies ws zs b is r =
      let file = file_rows img name m old s t f k i missed in
      let stage = unseen_stage (image img f.writes) name m k.held ws file (unseen_first m ws zs (subst (AllUnseen m) is (blocks_unseen m k.held f.copies fresh_copies))) (missed_first k.held ws zs (subst (HeldMissed k.held) is (blocks_off_held m k.held f.copies fresh_copies))) in
      inl (own_one (image (image img f.writes) ws) name b m r (plan_leads (image img f.writes) name m m k.held k.held ws file stage.plan))

  -- one piece at most
  in_supers : (ws zs : List Write) (b : Moment) → f.supers ≡ ws ++ zs → Represents (image (copied img f) ws) name b → Either b
  in_supers ws zs b is r = by ws zs is r (subst (AreEnded m.super f.end) is i.super)
    where
      by : (xs ys : List Write) → f.supers ≡ xs ++ ys → Represents (image (copied img f) xs) name b → AreEnded m.super f.end (xs ++ ys) → Either b
      by [] ys same r e = inl (own_one (copied img f) name b m r (file_copied img name m old s t f k i missed))
      by (x ∷ xs) ys same r e =
          let none : xs ≡ [] = no_more xs ys e.1 in
          let whole : f.supers ≡ x ∷ xs = same ∙ ap (λ (zs : List Write). x ∷ (xs ++ zs)) (none_behind xs ys e.1) ∙ ap (λ (zs : List Write). x ∷ zs) (append-nil xs) in
          inl (own_one (ended img f) name b (with_end f.end m) (subst (λ (zs : List Write). Represents (image (copied img f) zs) name b) (sym whole) r) (file_ended img name m old s t f k i missed))
        where
          no_more : (xs ys : List Write) → xs ++ ys ≡ [] → xs ≡ []
          no_more [] ys e = refl
          no_more (x ∷ xs) ys e = absurd cc

          none_behind : (xs ys : List Write) → xs ++ ys ≡ [] → ys ≡ []
          none_behind [] ys e = e
          none_behind (x ∷ xs) ys e = absurd cc

  in_index : (ws zs : List Write) (b : Moment) → f.in_place ≡ ws ++ zs → Represents (image (ended img f) ws) name b → Either b
  in_index [] zs b is r = inl (own_one (ended img f) name b (with_end f.end m) r (file_ended img name m old s t f k i missed))
  in_index (w ∷ ws) zs b is r =
      let file = file_ended img name m old s t f k i missed in
      let says = says_first m.dataset m.fixed i.index.blocks f.fixed (ended img f) (w ∷ ws) zs (subst (λ (vs : List Write). EachSays m.dataset m.fixed i.index.blocks f.fixed (ended img f) vs) is i.index.each_says) in
      let u = turns (ended img f) name (with_end f.end m) k.held f.fixed f.behind i.index.blocks f.address w ws (turning img name m old s t f k i missed) says in
      inr (own_one (image (ended img f) (w ∷ ws)) name b (turned (with_end f.end m) f.fixed f.behind f.address) r (plan_leads (ended img f) name (with_end f.end m) (turned (with_end f.end m) f.fixed f.behind f.address) k.held u.after (w ∷ ws) file u.stage.plan))

  abbrev commit : Write
  commit = commit_at img m.place f.rows f.named

  all_shown : (b : Moment) → Represents (image img (pieces_of img m f)) name b → Either b
  all_shown b r = inr (own_one (image img (pieces_of img m f)) name b (flushed_to m f) r (flush_leads img name m (flushed_to m f) k.held f.behind (pieces_of img m f) k.file (flush_safe img name m old s t f k i missed)))

  -- one list after another
  behind_rows : (xs : List Write) (b : Moment) → Represents (image img (f.writes ++ xs)) name b → Represents (image (image img f.writes) xs) name b
  behind_rows xs b r = subst (λ (x : List ℕ). Represents x name b) (image-append img f.writes xs) r

  behind_copies : (xs : List Write) (b : Moment) → Represents (image (image img f.writes) (block_writes f.copies ++ xs)) name b → Represents (image (copied img f) xs) name b
  behind_copies xs b r = subst (λ (x : List ℕ). Represents x name b) (image-append (image img f.writes) (block_writes f.copies) xs) r

  behind_supers : (xs : List Write) (b : Moment) → Represents (image (copied img f) (f.supers ++ xs)) name b → Represents (image (ended img f) xs) name b
  behind_supers xs b r = subst (λ (x : List ℕ). Represents x name b) (image-append (copied img f) f.supers xs) r

  in_tail : (ws vs : List Write) (b : Moment) → ws ++ vs ≡ f.supers ++ f.in_place → Represents (image (copied img f) ws) name b → Either b
  in_tail ws vs b is r =
      let c = cut ws vs f.supers f.in_place is in
      elim c.where_cut [
        | inl e ↦ in_supers ws c.more b e r
        | inr e ↦ in_index c.more vs b (sym e.1) (behind_supers c.more b (subst (λ (xs : List Write). Represents (image (copied img f) xs) name b) e.0 r))
      ]

  in_behind : (ws vs : List Write) (b : Moment) → ws ++ vs ≡ block_writes f.copies ++ (f.supers ++ f.in_place) → Represents (image (image img f.writes) ws) name b → Either b
  in_behind ws vs b is r =
      let c = cut ws vs (block_writes f.copies) (f.supers ++ f.in_place) is in
      elim c.where_cut [
        | inl e ↦ in_copies ws c.more b e r
        | inr e ↦ in_tail c.more vs b e.1 (behind_copies c.more b (subst (λ (xs : List Write). Represents (image (image img f.writes) xs) name b) e.0 r))
      ]

  in_early : (ws vs : List Write) (b : Moment) → ws ++ vs ≡ early_of f → Represents (image img ws) name b → Either b
  in_early ws vs b is r =
      let c = cut ws vs f.writes (block_writes f.copies ++ (f.supers ++ f.in_place)) is in
      elim c.where_cut [
        | inl e ↦ in_rows ws c.more b e r
        | inr e ↦ in_behind c.more vs b e.1 (behind_rows c.more b (subst (λ (xs : List Write). Represents (image img xs) name b) e.0 r))
      ]

  pub in_flush : (ws vs : List Write) (b : Moment) → ws ++ vs ≡ pieces_of img m f → Represents (image img ws) name b → Either b
  in_flush ws vs b is r =
      let c = cut ws vs (early_of f) (commit ∷ []) is in
      elim c.where_cut [
        | inl e ↦ in_early ws c.more b (sym e) r
        | inr e ↦ last c.more e.0 e.1
      ]
    where
      last : (more : List Write) → ws ≡ early_of f ++ more → more ++ vs ≡ commit ∷ [] → Either b
      last [] same rest = in_early (early_of f) [] b (append-nil (early_of f)) (subst (λ (xs : List Write). Represents (image img xs) name b) (same ∙ append-nil (early_of f)) r)
      last (w ∷ more) same rest =
          let first : w ≡ commit = heads w commit (more ++ vs) [] rest in
          let none : more ≡ [] = no_more more vs (tails w commit (more ++ vs) [] rest) in
          let whole : ws ≡ pieces_of img m f = same ∙ ap (λ (zs : List Write). early_of f ++ (w ∷ zs)) none ∙ ap (λ (x : Write). early_of f ++ (x ∷ [])) first in
          all_shown b (subst (λ (xs : List Write). Represents (image img xs) name b) whole r)
        where
          no_more : (xs ys : List Write) → xs ++ ys ≡ [] → xs ≡ []
          no_more [] ys e = refl
          no_more (x ∷ xs) ys e = absurd cc

pub own_between : OwnBetween
own_between img name m b old s t f ws vs k i missed is r = in_flush img name m old s t f k i missed ws vs b is r

-- ---- A flush in two

-- the moment between
pub record IsSplit (img : List ℕ) (m : Moment) (held : List Used) (ws vs : List Write) (n : Moment) (after : List Used) : Type 0 where
  pub moment : Moment
  pub now : List Used
  pub path : Flush img m held ws moment now
  pub rest : Flush (image img ws) moment now vs n after
  pub still : vs ≢ [] → moment.values ≡ m.values

pub split : (img : List ℕ) (m n : Moment) (held after : List Used) (ws vs : List Write) → Flush img m held (ws ++ vs) n after → IsSplit img m held ws vs n after
split img m n held after [] vs f = record { moment = m; now = held; path = (refl, refl); rest = f; still = λ some. refl }
split img m n held after (w ∷ ws) vs f =
    let r = split (apply w img) f.0 n f.1 after ws vs f.4 in
    record { moment = r.moment; now = r.now; path = (f.0, f.1, f.2, λ some. f.3 (λ none. some (first ws none)), r.path); rest = r.rest; still = λ some. r.still some ∙ f.3 (λ none. some (last ws none)) }
  where
    last : (xs : List Write) → xs ++ vs ≡ [] → vs ≡ []
    last [] e = e
    last (x ∷ xs) e = absurd cc

    first : (xs : List Write) → xs ++ vs ≡ [] → xs ≡ []
    first [] e = refl
    first (x ∷ xs) e = absurd cc

-- ---- What is held there

module _ (name : List ℕ) (one two : List Used) where
  abbrev IsOwn : Moment → Type 0
  IsOwn b = (own_of b ≡ one) ⊎ (own_of b ≡ two)

  abbrev IsFrom : List Used → Used → Type 0
  IsFrom held u = Among u held ⊎ (Among u one ⊎ Among u two)

  own_from : (held : List Used) (b : Moment) (u : Used) → IsOwn b → Among u b.behind → IsFrom held u
  own_from held b u own a =
      let in_own : Among u (own_of b) = among_right u b.header (b.fixed ++ b.behind) (among_right u b.fixed b.behind a) in
      elim own [
        | inl e ↦ inr (inl (subst (λ (us : List Used). Among u us) e in_own))
        | inr e ↦ inr (inr (subst (λ (us : List Used). Among u us) e in_own))
      ]

  step_from : (img : List ℕ) (m n : Moment) (held after : List Used) (w : Write) (u : Used) → IsOwn n → Step img m held w n after → Among u after → IsFrom held u
  step_from img m n held after w u own (unseen x off is same) a = inl (subst (λ (us : List Used). Among u us) same a)
  step_from img m n held after w u own (ends x same) a = inl (subst (λ (us : List Used). Among u us) same a)
  step_from img m n held after w u own (switches x off clear same) a = elim (among_split u n.behind held (subst (λ (us : List Used). Among u us) same a)) [
    | inl b ↦ own_from held n u own b
    | inr b ↦ inl b
  ]
  step_from img m n held after w u own (commits x same) a = own_from held n u own (subst (λ (us : List Used). Among u us) same a)

  held_from : (img : List ℕ) (m n : Moment) (held after : List Used) (ws : List Write) → Represents img name m → ((xs ys : List Write) (b : Moment) → xs ++ ys ≡ ws → Represents (image img xs) name b → IsOwn b) → Flush img m held ws n after
      → (u : Used) → Among u after → IsFrom held u
  held_from img m n held after [] r own f u a = inl (subst (λ (us : List Used). Among u us) f.1 a)
  held_from img m n held after (w ∷ ws) r own f u a =
      let next = step_represents img name m held w f.0 f.1 r f.2 in
      let later = held_from (apply w img) f.0 n f.1 after ws next (λ xs ys b is s. own (w ∷ xs) ys b (ap (λ (zs : List Write). w ∷ zs) is) s) f.4 u a in
      elim later [
        | inl b ↦ step_from img m f.0 held f.1 w u (own (w ∷ []) ws f.0 refl next) f.2 b
        | inr b ↦ inr b
      ]

-- ---- One part

module _ (img : List ℕ) (e : Entry) (es : List Entry) (f : Parts) (s t : Space) (ws vs : List Write) (one : IsOne img s e.moment.super e.moment.root e) (all : AreKnown img s e.moment.super e.moment.root es) (off : IsOff e es) (apart : AreOff es)
    (blocks : (u : Used) → Among u e.moment.root → u.chunk ≡ false) (i : IsFlush img (told e.moment es) e.address s f t) (missed : HeldMissed (e.held ++ helds es) f.writes) (is : ws ++ vs ≡ part_of img e f) where
  abbrev turn : IsTurn img e es f t
  turn = turn_known img e es f s t one all off apart blocks i missed

  abbrev m : Moment
  m = e.moment

  abbrev parts : IsSplit img m e.held ws vs (flushed e f).moment f.behind
  parts = split img m (flushed e f).moment e.held f.behind ws vs (subst (λ (xs : List Write). Flush img m e.held xs (flushed e f).moment f.behind) (sym is) turn.flush)

  abbrev b : Moment
  b = parts.moment

  here : Represents (image img ws) e.name b
  here = flush_leads img e.name m b e.held parts.now ws one.knows.file parts.path

  -- told of the others, of whom readers may hold something
  abbrev whole : Knows img e.name (told m es) e.address s
  whole = told_knows img e es s one all off apart

  missed_whole : HeldMissed whole.held f.writes
  missed_whole = missed_all img e es s one all off apart f t i blocks (subst (λ (us : List Used). HeldMissed (us ++ helds es) f.writes) (sym one.held_is) missed)

  either : (xs ys : List Write) (c : Moment) → xs ++ ys ≡ part_of img e f → Represents (image img xs) e.name c → (own_of c ≡ own_of m) ⊎ (own_of c ≡ own_of (flushed e f).moment)
  either xs ys c same r = own_between img e.name (told m es) c e.address s t f xs ys whole i missed_whole same r

  own_here : (own_of b ≡ own_of m) ⊎ (own_of b ≡ own_of (flushed e f).moment)
  own_here = either ws vs b is here

  held_here : (u : Used) → Among u parts.now → Among u e.held ⊎ (Among u (own_of m) ⊎ Among u (own_of (flushed e f).moment))
  held_here = held_from e.name (own_of m) (own_of (flushed e f).moment) img m b e.held parts.now ws one.knows.file (λ xs ys c same r. either xs (ys ++ vs) c (sym (append_assoc xs ys vs) ∙ ap (λ (zs : List Write). zs ++ vs) same ∙ is) r) parts.path

  off_one : (o : Entry) → IsApart o e → IsApart (then_as b.super o) (flushed e f) → IsApart (then_as b.super o) (between_of e b parts.now)
  off_one o first last = record {
    own = elim own_here [
      | inl same ↦ subst (λ (us : List Used). OffAll (own_of o.moment) us) (sym same) first.own
      | inr same ↦ subst (λ (us : List Used). OffAll (own_of o.moment) us) (sym same) last.own
    ];
    held = elim own_here [
      | inl same ↦ subst (λ (us : List Used). OffAll o.held us) (sym same) first.held
      | inr same ↦ subst (λ (us : List Used). OffAll o.held us) (sym same) last.held
    ];
    other = λ u v a c. elim (held_here u a) [
      | inl x ↦ first.other u v x c
      | inr x ↦
          elim x [
            | inl y ↦ apart_sym v u (first.own v u c y)
            | inr y ↦ apart_sym v u (last.own v u c y)
          ]
    ];
  }

  off_all : (os : List Entry) (super : Super) → IsOff e os → IsOff (flushed e f) (all_then super os) → IsOff (between_of e b parts.now) (all_then b.super os)
  off_all [] super x y = tt
  off_all (o ∷ os) super x y = (off_one o x.0 (record { own = y.0.own; held = y.0.held; other = y.0.other }), off_all os super x.1 y.1)

  -- the pieces so far are a plan of each other one
  abbrev first_part : IsSplit img (told m es) whole.held ws vs (flushed_to (told m es) f) f.behind
  first_part = split img (told m es) (flushed_to (told m es) f) whole.held f.behind ws vs (subst (λ (xs : List Write). Flush img (told m es) whole.held xs (flushed_to (told m es) f) f.behind) (sym is) (flush_safe img e.name (told m es) e.address s t f whole i missed_whole))

  super_here : first_part.moment.super ≡ b.super
  super_here = super_one (image img ws) e.name first_part.moment b (flush_leads img e.name (told m es) first_part.moment whole.held first_part.now ws whole.file first_part.path) here

  plans : (os : List Entry) → AreKnown img s m.super m.root os → AllAmong (owns os) (owns es) → AllAmong (helds os) (helds es) → ArePlans img ws b.super os
  plans [] known inside under = tt
  plans (o ∷ os) known inside under =
      let own = known.0 in
      let beside = is_beside img e es s one all off apart f t i blocks (subst (λ (us : List Used). HeldMissed (us ++ helds es) f.writes) (sym one.held_is) missed) o own (λ u a. inside u (among_left u (own_of o.moment) (owns os) a)) in
      let plan = beside_held img e.name o.name (told m es) first_part.moment o.moment whole.held first_part.now o.held ws one.cols whole.file whole.holding.off_front first_part.path own.knows.file beside
      (λ u a block. held_whole u (under u (among_left u o.held (helds os) a))) in (
        subst (λ (x : Super). Plan img o.moment o.held ws (then_as x o).moment o.held) super_here plan,
        plans os known.1 (λ u a. inside u (among_right u (own_of o.moment) (owns os) a)) (λ u a. under u (among_right u o.held (helds os) a)),
      )
    where
      held_whole : (u : Used) → Among u (helds es) → Among u whole.held
      held_whole u a = subst (λ (us : List Used). Among u us) (sym (told_helds img e es s one all off apart)) (among_right u one.knows.held (helds es) a)

  pub between : IsBetween img e es f ws vs
  between = record {
    moment = b;
    held = parts.now;
    path = parts.path;
    rest = parts.rest;
    still = parts.still;
    plans = plans es all (λ u a. a) (λ u a. a);
    off = off_all es (super_then e f) off turn.off;
  }

pub turn_between : TurnBetween
turn_between img e es f s t ws vs one all off apart blocks i missed is = between img e es f s t ws vs one all off apart blocks i missed is
