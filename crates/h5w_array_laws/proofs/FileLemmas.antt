-- A file of which an array stands is one of that array; and the copies of a plan as safe steps.
use Rattle.std.proofs.Common.{◌≡◌, ℕ, zero, suc, ◌+◌, max, List, [], ◌∷◌, ◌++◌, length, get_or, Result, Ok, refl, sym, ap, ◌∙◌, subst, inl, inr, arith}
use Rattle.std.specs.Prelude.{map, flat_map}
use Rattle.std.proofs.lemmas.List.{get_or_past}
use Rattle.h5w_model.specs.Numbers.{undefined}
use Rattle.h5w_model.specs.Images.{image, pieces}
use Rattle.h5w_model.specs.Programs.{eval}
use Rattle.h5w_model.specs.Datasets.{Described}
use Rattle.h5w_model.specs.Tables.{InPlace, needed_keys, table_of}
use Rattle.h5w_model.specs.Findings.{Used, chunk_bytes}
use Rattle.h5w_model.specs.Prefixed.{StaysDefined}
use Rattle.h5w_model.specs.declared.cell.Key.{Key}
use Rattle.h5w_model.specs.declared.refusal.ReadError.{ReadError}
use Rattle.h5w_cache.specs.Stores.{times}
use Rattle.h5w_laws.proofs.EndLemmas.{same_ranges}
use Rattle.h5w_step_laws.specs.Ranges.{Among, AllEndBy, block_at}
use Rattle.h5w_step_laws.specs.Indexes.{IsIndex, behind_visit}
use Rattle.h5w_step_laws.proofs.RangeLemmas.{ends_nil, ends_cons, ends_later}
use Rattle.h5w_step_laws.proofs.IndexLaws.{index_by_end, index_of_parts}
use Rattle.h5w_step_laws.proofs.NeededLaws.{table_laws}
use Rattle.h5w_step_laws.specs.Moments.{Moment}
use Rattle.h5w_step_laws.specs.Plans.{Plan, UnseenRange}
use Rattle.h5w_step_laws.proofs.MomentLemmas.{few}
use Rattle.h5w_step_laws.proofs.PlanLaws.{plans_join, unseen_pieces}
use Rattle.h5w_array_laws.specs.ArrayStores.{map_of, behind_of, blocks_in_place}
use Rattle.h5w_array_laws.specs.ArrayImages.{BehindStands, IsRead}
use Rattle.h5w_array_laws.specs.ArrayTables.{StandingIndex, table_in}
use Rattle.h5w_array_laws.specs.ArrayNaming.{FileTells, TableStays, CopiesSteps}
use Rattle.h5w_array_laws.proofs.StandLemmas.{standing_says}
use Rattle.h5w_array_laws.proofs.VisitedLemmas.{visited}
use Rattle.h5w_array_laws.proofs.FoundLemmas.{address_found}
use Rattle.h5w_array_laws.proofs.TableLemmas.{array_table}
use Rattle.h5w_array_laws.proofs.WriteLemmas.{are_copies}

-- ---- A file

-- ranges end by some place
pub some_end : (us : List Used) → (end : ℕ) × AllEndBy end us
some_end [] = (0, ends_nil 0)
some_end (u ∷ us) =
    let later = some_end us in
    let end : ℕ = max (u.place + u.len) later.0 in
    (end, ends_cons end u us (omega arith) (ends_later later.0 end us (omega arith) later.1))

abbrev pub found_place : InPlace → Result InPlace ReadError
found_place p = Ok p

pub same_place : (p q : InPlace) → found_place p ≡ found_place q → p ≡ q
same_place p q h = cc

abbrev pub found_table : List ℕ → Result (List ℕ) ReadError
found_table t = Ok t

pub same_table : (t u : List ℕ) → found_table t ≡ found_table u → t ≡ u
same_table t u h = cc

pub file_tells : FileTells
file_tells v img name m a clean stands r kind address =
    let d : Described = m.dataset in
    let says = standing_says v img d a clean stands kind address in
    let behind_stands : BehindStands v img = λ n placed low. stands.there n placed (ap (times n) clean) in
    let read : IsRead v img = record { visited = visited v img a clean behind_stands; found = address_found v img a clean behind_stands } in
    let i = r.index in
    let blocks : i.blocks ≡ blocks_in_place v = same_place i.blocks (blocks_in_place v) (sym i.read ∙ says.says) in
    let us : List Used = behind_of (chunk_bytes d) v in
    let far = some_end us in
    let end : ℕ = max m.super.end far.0 in
    let wide = index_by_end img m.super.end end d m.fixed m.behind i (ends_later m.super.end end (m.fixed ++ m.behind) (omega arith) i.ends) in
    let wide_blocks : wide.blocks ≡ blocks_in_place v = same_place wide.blocks (blocks_in_place v) (sym wide.read ∙ says.says) in
    let given : eval img (behind_visit end (chunk_bytes d) (blocks_in_place v)) ≡ Ok m.behind = subst (λ (b : InPlace). eval img (behind_visit end (chunk_bytes d) b) ≡ Ok m.behind) wide_blocks wide.stands in
    let table : eval img (table_of d (needed_keys d)) ≡ Ok (table_in v d) = table_laws.by_blocks img d (blocks_in_place v) (needed_keys d) says.says ∙ array_table v img d read (few img name m r) kind in
    record {
      of = record { kind = kind; address = address; fixed = i.fixed_are ∙ says.looks };
      behind = same_ranges m.behind us (sym given ∙ read.visited end (chunk_bytes d) (ends_later far.0 end us (omega arith) far.1));
      table = same_table m.table (table_in v d) (sym r.table ∙ table);
    }

-- ---- Tables

pub stays_listed : (f g : ℕ → ℕ) (ks : List Key) → ((i : ℕ) → StaysDefined (f i) (g i)) → (k : ℕ) → StaysDefined (get_or (map (λ key. f key.i) ks) k undefined) (get_or (map (λ key. g key.i) ks) k undefined)
stays_listed f g [] h k = λ d. absurd (d (get_or_past [] k undefined (omega arith)))
stays_listed f g (key ∷ ks) h zero = h key.i
stays_listed f g (key ∷ ks) h (suc k) = stays_listed f g ks h k

pub table_stays : TableStays
table_stays v w d h k = stays_listed (map_of v) (map_of w) (needed_keys d) h k

-- ---- Copies

pub unseen_blocks : (m : Moment) (held : List Used) (placed : List (ℕ × List ℕ)) (img : List ℕ) → ((u : Used) → Among u (map (λ b. block_at b.0 (length b.1)) placed) → UnseenRange m held u.place u.len)
    → Plan img m held (flat_map (λ b. pieces b.0 b.1) placed) m held
unseen_blocks m held [] img h = (refl, refl)
unseen_blocks m held (b ∷ placed) img h =
    plans_join img m m m held held held (pieces b.0 b.1) (flat_map (λ b. pieces b.0 b.1) placed)
    (unseen_pieces img m held b.0 b.1 (h (block_at b.0 (length b.1)) (inl refl)))
    (unseen_blocks m held placed (image img (pieces b.0 b.1)) (λ u c. h u (inr c)))

pub copies_steps : CopiesSteps
copies_steps v s ms cs fs w t img m held a p unseen =
    let c = are_copies v s ms cs fs w t p a in
    subst (λ ws. Plan img m held ws m held) (sym c.writes)
    (unseen_blocks m held c.placed img (λ u b. unseen u (subst (λ (us : List Used). Among u us) (sym c.ranges) b)))

-- ---- An index

pub standing_index : StandingIndex
standing_index v img end d a clean stands kind address ends ends_behind =
    let says = standing_says v img d a clean stands kind address in
    let given = visited v img a clean (λ n placed low. stands.there n placed (ap (times n) clean)) end (chunk_bytes d) ends_behind in
    subst (λ (us : List Used). IsIndex img end d us (behind_of (chunk_bytes d) v)) says.looks
    (index_of_parts img end d (blocks_in_place v) (behind_of (chunk_bytes d) v) says.says (subst (λ (us : List Used). AllEndBy end us) (sym says.looks) ends) given)
