-- Pieces one after another.
use Rattle.std.proofs.Common.{◌≡◌, ◌≢◌, ◌⊎◌, ℕ, ◌+◌, ◌<◌, ◌≤◌, Bool, true, false, List, [], ◌∷◌, ◌++◌, length, refl, sym, ◌∙◌, ap, subst, inl, inr, arith}
use Rattle.h5w_model.specs.Numbers.{undefined}
use Rattle.h5w_model.specs.Images.{apply, Apart, AllMiss, pieces}
use Rattle.h5w_model.specs.Findings.{Used, the_superblock}
use Rattle.h5w_model.specs.declared.piece.Write.{Write}
use Rattle.h5w_model.proofs.ImageLemmas.{pieces-miss, Apart-part, Apart-sym}
use Rattle.h5w_step_laws.specs.Ranges.{Among, AllEndBy, block_at}
use Rattle.h5w_step_laws.proofs.RangeLemmas.{among_left, among_right, among_split}
use Rattle.h5w_step_laws.proofs.HeaderLaws.{root_tells}
use Rattle.h5w_step_laws.specs.Moments.{Moment, Represents, all_used, chunk_of, cell_place}
use Rattle.h5w_step_laws.specs.Steps.{Step, unseen}
use Rattle.h5w_step_laws.specs.Plans.{Plan, Flush, PlansJoin, FlushFrom, PlanLeads, FlushLeads, UnseenPieces, PastEnd, FreePlace, OwnCells, RetiredPlace}
use Rattle.h5w_step_laws.proofs.PartLemmas.{disjoint_two}
use Rattle.h5w_step_laws.proofs.MomentLemmas.{InChunkOf, cell_chunk, header_of, table_of_file, in_behind, parts_of}
use Rattle.h5w_step_laws.proofs.StepRepresents.{step_represents}

-- ---- Plans

pub plan_from : (img : List ℕ) (m n o : Moment) (held now after : List Used) (vs : List Write) → n ≡ m → now ≡ held → Plan img n now vs o after → Plan img m held vs o after
plan_from img m n o held now after vs is same p = subst (λ (x : Moment). Plan img x held vs o after) is (subst (λ (us : List Used). Plan img n us vs o after) same p)

pub plans_join : PlansJoin
plans_join img m n o held now after [] vs p q = plan_from img m n o held now after vs p.0 p.1 q
plans_join img m n o held now after (w ∷ ws) vs p q = (p.0, p.1, p.2, p.3, plans_join (apply w img) p.0 n o p.1 now after ws vs p.4 q)

-- one piece is a flush
pub flush_one : (img : List ℕ) (m b n : Moment) (held now after : List Used) (w : Write) → b ≡ m → now ≡ held → Step img b now w n after → Flush img m held (w ∷ []) n after
flush_one img m b n held now after w is same s =
    (n, after, subst (λ (x : Moment). Step img x held w n after) is (subst (λ (us : List Used). Step img b us w n after) same s), λ some. absurd (some refl), (refl, refl))

pub flush_from : FlushFrom
flush_from img m b n held now after [] w p s = flush_one img m b n held now after w p.0 p.1 s
flush_from img m b n held now after (v ∷ ws) w p s = (p.0, p.1, p.2, λ some. p.3, flush_from (apply v img) p.0 b n p.1 now after ws w p.4 s)

-- the values stay over a plan
pub plan_values : (img : List ℕ) (m n : Moment) (held after : List Used) (ws : List Write) → Plan img m held ws n after → n.values ≡ m.values
plan_values img m n held after [] p = ap (λ (x : Moment). x.values) p.0
plan_values img m n held after (w ∷ ws) p = plan_values (apply w img) p.0 n p.1 after ws p.4 ∙ p.3

-- a plan is a flush that brings no rows
pub plan_flush : (img : List ℕ) (m n : Moment) (held after : List Used) (ws : List Write) → Plan img m held ws n after → Flush img m held ws n after
plan_flush img m n held after [] p = p
plan_flush img m n held after (w ∷ ws) p = (p.0, p.1, p.2, λ some. p.3, plan_flush (apply w img) p.0 n p.1 after ws p.4)

pub flush_leads : FlushLeads
flush_leads img name m n held after [] r f = subst (λ (x : Moment). Represents img name x) (sym f.0) r
flush_leads img name m n held after (w ∷ ws) r f = flush_leads (apply w img) name f.0 n f.1 after ws (step_represents img name m held w f.0 f.1 r f.2) f.4

pub plan_leads : PlanLeads
plan_leads img name m n held after ws r p = flush_leads img name m n held after ws r (plan_flush img m n held after ws p)

-- ---- Ranges that no reader reaches

-- each write misses a range
abbrev pub EachMisses : List Write → Moment → List Used → Type 0
EachMisses ws m held =
    ((u : Used) → Among u (all_used m) → u.chunk ≡ false → AllMiss ws u.place u.len)
    × ((u : Used) → Among u held → u.chunk ≡ false → AllMiss ws u.place u.len)
    × ((k : ℕ) → k < length m.values → chunk_of m k ≢ undefined → AllMiss ws (cell_place m k) m.dataset.int_type.size)

pub unseen_plan : (img : List ℕ) (m : Moment) (held : List Used) (ws : List Write) → EachMisses ws m held → Plan img m held ws m held
unseen_plan img m held [] e = (refl, refl)
unseen_plan img m held (w ∷ ws) e = (
  m,
  held,
  unseen (record { off_blocks = λ u a b. (e.0 u a b).0; off_cells = λ k low d. (e.2 k low d).0 }) (λ u a b. (e.1 u a b).0) refl refl,
  refl,
  unseen_plan (apply w img) m held ws (λ u a b. (e.0 u a b).1, λ u a b. (e.1 u a b).1, λ k low d. (e.2 k low d).1),
)

pub unseen_pieces : UnseenPieces
unseen_pieces img m held place bytes r =
    unseen_plan img m held (pieces place bytes)
    (λ u a b. pieces-miss place bytes u.place u.len (r.off_blocks u a b), λ u a b. pieces-miss place bytes u.place u.len (r.off_held u a b), λ k low d. pieces-miss place bytes (cell_place m k) m.dataset.int_type.size (r.off_cells k low d))

-- what is apart from a chunk is apart from its cells
pub off_cell : (m : Moment) (k place len : ℕ) (c : InChunkOf m k) → Apart place len c.chunk.place c.chunk.len → Apart place len (cell_place m k) m.dataset.int_type.size
off_cell m k place len c apart =
    let from = c.from in
    let to = c.to in
    Apart-part place len c.chunk.place c.chunk.len place len (cell_place m k) m.dataset.int_type.size (omega arith) (omega arith) from to apart

pub chunk_in : (img name : List ℕ) (m : Moment) (k : ℕ) → Represents img name m → chunk_of m k ≢ undefined → InChunkOf m k
chunk_in img name m k r d = cell_chunk img m k (header_of img name m r).sized (table_of_file img name m r) d

pub free_place : FreePlace
free_place img name m held place len r off off_held = record {
  off_blocks = λ u a b. off u a;
  off_held = λ u a b. off_held u a;
  off_cells = λ k low d. let c = chunk_in img name m k r d in off_cell m k place len c (off c.chunk (in_behind m c.chunk c.among));
}

-- all ranges end by the end-of-file address
pub all_end : (img name : List ℕ) (m : Moment) → Represents img name m → 48 ≤ m.super.end → AllEndBy m.super.end (all_used m)
all_end img name m r long u a = first a
  where
    third : Among u m.header ⊎ Among u (m.fixed ++ m.behind) → u.place + u.len ≤ m.super.end
    third (inl b) = (header_of img name m r).ends u b
    third (inr b) = r.index.ends u b

    in_root : Among u r.root.own ⊎ Among u r.root.others → u.place + u.len ≤ m.super.end
    in_root (inl b) = (root_tells img name m.super m.place r.root.own r.root.checked).ends u b
    in_root (inr b) = r.root.ends u b

    second : Among u m.root ⊎ Among u (m.header ++ (m.fixed ++ m.behind)) → u.place + u.len ≤ m.super.end
    second (inl b) = in_root (among_split u r.root.own r.root.others (subst (λ (us : List Used). Among u us) r.root.is b))
    second (inr b) = third (among_split u m.header (m.fixed ++ m.behind) b)

    first : (the_superblock ≡ u) ⊎ Among u (m.root ++ (m.header ++ (m.fixed ++ m.behind))) → u.place + u.len ≤ m.super.end
    first (inl e) = subst (λ (x : Used). x.place + x.len ≤ m.super.end) e (omega (arith, long))
    first (inr b) = second (among_split u m.root (m.header ++ (m.fixed ++ m.behind)) b)

-- the dataset header does not meet the superblock and ends by that address, so the superblock does
pub end_long : (img name : List ℕ) (m : Moment) → Represents img name m → 48 ≤ m.super.end
end_long img name m r =
    let h = header_of img name m r in
    let first : Used = block_at m.place h.total in
    let member : Among first m.header = subst (λ (us : List Used). Among first us) (sym h.ranges) (inl refl) in
    let some = h.some first member in
    let within = h.ends first member in
    go m.place h.total some within ((parts_of m r.apart).super first (among_right first m.root (m.header ++ (m.fixed ++ m.behind)) (among_left first m.header (m.fixed ++ m.behind) member)))
  where
    go : (place total : ℕ) → 0 < total → place + total ≤ m.super.end → Apart 0 48 place total → 48 ≤ m.super.end
    go place total some within (inl e) = omega (arith, within, e)
    go place total some within (inr e) = absurd (omega (arith, some, e))

pub past_end : PastEnd
past_end img name m held place len r ends behind =
    let all = all_end img name m r (end_long img name m r) in
    free_place img name m held place len r (λ u a. inr (omega (arith, all u a, behind))) (λ u a. inr (omega (arith, ends u a, behind)))

pub own_cells : OwnCells
own_cells img name m held chunk place len r clear among is_chunk from to cells = record {
  off_blocks = λ u a b. Apart-part chunk.place chunk.len u.place u.len place len u.place u.len from to (omega arith) (omega arith)
      (disjoint_two (all_used m) chunk u r.apart (in_behind m chunk among) a (λ e. differ (sym is_chunk ∙ ap (λ (x : Used). x.chunk) e ∙ b)));
  off_held = λ u a b. Apart-part chunk.place chunk.len u.place u.len place len u.place u.len from to (omega arith) (omega arith)
      (Apart-sym u.place u.len chunk.place chunk.len (clear u chunk a b among is_chunk));
  off_cells = cells;
}
  where
    differ : ◌≡◌ {A = Bool} true false → ⊥
    differ e = cc

pub retired_place : RetiredPlace
retired_place img name m n fresh u r apart sub was gone =
    free_place img name n n.behind u.place u.len r
    (λ v a. disjoint_two (fresh ++ all_used m) u v apart (among_right u fresh (all_used m) was) (sub v a) (λ e. gone (subst (λ (x : Used). Among x (all_used n)) (sym e) a)))
    (λ v a. disjoint_two (fresh ++ all_used m) u v apart (among_right u fresh (all_used m) was) (sub v (in_behind n v a)) (λ e. gone (subst (λ (x : Used). Among x (all_used n)) (sym e) (in_behind n v a))))
