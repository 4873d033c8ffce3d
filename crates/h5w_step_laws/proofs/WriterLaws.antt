-- What a writer shows before a block in place or a header is written again makes a safe piece.
use Rattle.std.proofs.Common.{◌≡◌, ◌≢◌, ◌⊎◌, ℕ, zero, suc, ◌+◌, ◌*◌, ◌/◌, ◌%◌, ◌<◌, ◌≤◌, true, false, List, [], ◌∷◌, ◌++◌, length, get_or, Result, Ok, Err, refl, sym, ◌∙◌, ap, subst, inl, inr, arith}
use Rattle.std.specs.Prelude.{◌==◌, ◌-◌, map}
use Rattle.std.specs.List.{range_with_len}
use Rattle.std.proofs.lemmas.Bool.Decides.{eqb_tells}
use Rattle.std.proofs.lemmas.Bool.{cond-true, cond-false, eqb-true, eq-eqb}
use Rattle.std.proofs.lemmas.List.{get_or_append_left}
use Rattle.std.proofs.Math.Nat.{mul-le-mul_right}
use Rattle.h5w_model.specs.Numbers.{range, undefined}
use Rattle.h5w_model.specs.Images.{apply}
use Rattle.h5w_model.specs.Programs.{Prog, ret, eval, visits, Visit, and_then}
use Rattle.h5w_model.specs.Arrays.{EahdFields, eahd_at, eahd_len, eaib_len}
use Rattle.h5w_model.specs.Datasets.{Described}
use Rattle.h5w_model.specs.Tables.{InPlace, nowhere, in_place, array_in_place, tree_in_place, address_behind, each_of, table_of, bands, chunks_across, keys_across, needed, index_key, needed_keys, format_limits}
use Rattle.h5w_model.specs.Findings.{Finding, Used, index_visit}
use Rattle.h5w_model.specs.Prefixed.{NamesBlock, StaysDefined, SameDescribed}
use Rattle.h5w_model.specs.declared.cell.Key.{Key}
use Rattle.h5w_model.specs.declared.cell.IndexKind.{IndexKind}
use Rattle.h5w_model.specs.declared.cell.IndexKind.TheVariants.{Array, Tree}
use Rattle.h5w_model.specs.declared.refusal.ReadError.{ReadError}
use Rattle.h5w_laws.proofs.ResultLemmas.{and_then_ok}
use Rattle.h5w_laws.proofs.StaysLemmas.{defined_itself}
use Rattle.h5w_laws.proofs.LogLemmas.{div_rises}
use Rattle.h5w_step_laws.specs.Ranges.{Among, Disjoint, block_at, blocks_of}
use Rattle.h5w_step_laws.specs.Indexes.{IsIndex, IsBehind}
use Rattle.h5w_step_laws.specs.Needed.{AreFew, HasTable}
use Rattle.h5w_step_laws.proofs.RangeLemmas.{among_left, among_right}
use Rattle.h5w_step_laws.proofs.HeaderLaws.{header_tells}
use Rattle.h5w_step_laws.proofs.IndexVisits.{NoBlock, HasBlock, array_cases}
use Rattle.h5w_step_laws.proofs.IndexLaws.{index_as, index_missed, checked_index, visited_behind, behind_missed}
use Rattle.h5w_step_laws.proofs.NeededLaws.{table_laws, table_any, same_addresses}
use Rattle.h5w_step_laws.specs.Moments.{Moment, HasCells, all_used}
use Rattle.h5w_step_laws.specs.Steps.{LiesIn, switches, commits}
use Rattle.h5w_step_laws.specs.Writers.{NamingSwitches, GrowingCommits, StartingCommits}
use Rattle.h5w_step_laws.proofs.MomentLemmas.{inside, few, header_of, lies_missed, cells_missed, all_missed, parts_of}
use Rattle.h5w_step_laws.proofs.StepRepresents.{MissesEach, chunk_lies, header_off}

-- ---- The index block of an array

abbrev pub place_of : List Used → ℕ
place_of [] = 0
place_of (u ∷ us) = u.place

abbrev pub second_of : List Used → List Used
second_of [] = []
second_of (u ∷ us) = us

-- what the blocks in place of an array are, by its header
pub array_program : (d : Described) → d.layout.index ≡ Array → d.layout.address ≢ undefined → in_place d ≡ array_in_place d.layout.address
array_program d is defined = go (eqb_tells d.layout.address undefined)
  where
    program : IndexKind → Prog (Result InPlace ReadError)
    program kind = elim kind as (λ _. Prog (Result InPlace ReadError)) [ Array ↦ array_in_place d.layout.address | Tree ↦ tree_in_place d.layout.address ]

    go : ((d.layout.address == undefined) ≡ true) × (d.layout.address ≡ undefined) ⊎ ((d.layout.address == undefined) ≡ false) × (d.layout.address ≢ undefined) → in_place d ≡ array_in_place d.layout.address
    go (inl t) = absurd (defined t.1)
    go (inr t) = cond-false (d.layout.address == undefined) (ret (Ok nowhere)) (program d.layout.index) t.0 ∙ ap program is

pub named_is : (img : List ℕ) (address a : ℕ) (h : EahdFields) → eahd_at (range img address eahd_len) address ≡ Ok h → NamesBlock img address a → h.block ≡ a
named_is img address a h e n = subst (λ (r : Result EahdFields _). elim r as (λ _. Type 0) [ Ok h ↦ h.block ≡ a | Err f ↦ a ≡ undefined ]) e n

-- so a defined one is the second of the blocks in place
pub second_block : (img : List ℕ) (address a : ℕ) (blocks : InPlace) → eval img (array_in_place address) ≡ Ok blocks → NamesBlock img address a → a ≢ undefined
    → blocks_of (visits img (array_in_place address)) ≡ block_at address eahd_len ∷ block_at a eaib_len ∷ []
second_block img address a blocks read names defined = go (array_cases img address blocks read)
  where
    go : NoBlock img address blocks ⊎ HasBlock img address blocks → blocks_of (visits img (array_in_place address)) ≡ block_at address eahd_len ∷ block_at a eaib_len ∷ []
    go (inl n) = absurd (defined (sym (named_is img address a n.header n.of_header names) ∙ eqb-true n.header.block undefined n.none))
    go (inr n) = ap (λ (vs : List Visit). blocks_of vs) n.looks ∙ ap (λ b. block_at address eahd_len ∷ block_at b eaib_len ∷ []) (named_is img address a n.header n.of_header names)

-- and where more stands behind the blocks in place of before, the block is the same
pub block_stays : (img new : List ℕ) (address a b : ℕ) (blocks others : InPlace) (added : List Used) → eval img (array_in_place address) ≡ Ok blocks → eval new (array_in_place address) ≡ Ok others
    → blocks_of (visits new (array_in_place address)) ≡ blocks_of (visits img (array_in_place address)) ++ added → NamesBlock img address a → NamesBlock new address b → StaysDefined a b
block_stays img new address a b blocks others added read again begins x y defined = go (array_cases new address others again)
  where
    before : blocks_of (visits new (array_in_place address)) ≡ block_at address eahd_len ∷ block_at a eaib_len ∷ added
    before = begins ∙ ap (λ (us : List Used). us ++ added) (second_block img address a blocks read x defined)

    one_more : (u v : Used) (us : List Used) → u ∷ [] ≡ u ∷ v ∷ us → ⊥
    one_more u v us e = cc

    go : NoBlock new address others ⊎ HasBlock new address others → b ≡ a
    go (inl n) = absurd (one_more (block_at address eahd_len) (block_at a eaib_len) added (sym (ap (λ (vs : List Visit). blocks_of vs) n.looks) ∙ before))
    go (inr n) =
        sym (named_is new address b n.header n.of_header y)
        ∙ ap (λ (us : List Used). place_of (second_of us)) (sym (ap (λ (vs : List Visit). blocks_of vs) n.looks) ∙ before)

pub index_block_stays : (img new : List ℕ) (d : Described) (blocks others : InPlace) (added : List Used) → eval img (in_place d) ≡ Ok blocks → eval new (in_place d) ≡ Ok others
    → blocks_of (visits new (in_place d)) ≡ blocks_of (visits img (in_place d)) ++ added → (a b : ℕ) → d.layout.index ≡ Array → d.layout.address ≢ undefined
    → NamesBlock img d.layout.address a → NamesBlock new d.layout.address b → StaysDefined a b
index_block_stays img new d blocks others added read again begins a b is defined x y =
    let p = array_program d is defined in
    let address : ℕ = d.layout.address in
    block_stays img new address a b blocks others added
    (subst (λ (q : Prog (Result InPlace ReadError)). eval img q ≡ Ok blocks) p read)
    (subst (λ (q : Prog (Result InPlace ReadError)). eval new q ≡ Ok others) p again)
    (subst (λ (q : Prog (Result InPlace ReadError)). blocks_of (visits new q) ≡ blocks_of (visits img q) ++ added) p begins)
    x y

-- ---- Naming

pub naming_switches : NamingSwitches
naming_switches img name m held w blocks n r off clear g =
    let new : List ℕ = apply w img in
    let d : Described = m.dataset in
    let s = m.super in
    let in_image = inside img name m r in
    let next : Moment = record m { fixed = n.fixed; behind = n.behind; table = n.table } in
    let apart : Disjoint (all_used next) = subst (λ (x : Moment). Disjoint (all_used x)) g.is g.apart in
    let p = parts_of next apart in
    let inside_next : LiesIn w n.fixed = record { used = g.inside.used; among = subst (λ (us : List Used). Among g.inside.used us) (sym g.begins) (among_left g.inside.used m.fixed g.added g.inside.among); from = g.inside.from; to = g.inside.to } in
    let off_behind : MissesEach w n.behind = lies_missed w n.fixed n.behind inside_next p.fixed in
    let there : IsBehind img s.end d blocks n.behind = visited_behind img new s.end d blocks n.behind g.says g.behind in
    let left = behind_missed w img new s.end d blocks n.behind g.says there in_image (λ u a b. off_behind u a) in
    let index : IsIndex new s.end d n.fixed n.behind = index_as new s.end d blocks n.fixed n.behind g.fixed g.says g.ends left.left.stands in
    let all_few = few img name m r in
    let table : eval new (table_of d (needed_keys d)) ≡ Ok n.table =
    table_laws.by_blocks new d blocks (needed_keys d) g.says ∙ table_laws.same img new d blocks all_few left.answers ∙ g.table in
    let has : HasTable new d n.behind n.table = table_any new s.end d n.fixed n.behind n.table index all_few table in
    let sized = (header_of img name m r).sized in
    let cells : HasCells img next = subst (λ (x : Moment). HasCells img x) g.is g.cells in
    let misses = all_missed w new next sized has off_behind in
    switches (record {
      is = g.is;
      inside = g.inside;
      index = index;
      apart = g.apart;
      table = table;
      addresses = g.addresses;
      cells = subst (λ (x : Moment). HasCells new x) (sym g.is) (cells_missed w img next sized.size misses cells);
      index_block = index_block_stays img new d r.index.blocks blocks g.added r.index.read g.says (sym g.fixed ∙ g.begins ∙ ap (λ (us : List Used). us ++ g.added) r.index.fixed_are);
    }) off clear refl

-- ---- More rows

-- the same index, told of a dataset with other rows
pub reshaped : (img : List ℕ) (end : ℕ) (d : Described) (rows : ℕ) (fixed behind : List Used) → IsIndex img end d fixed behind
    → IsIndex img end (record d { shape = record (d.shape) { rows = rows } }) fixed behind
reshaped img end d rows fixed behind i = record {
  checked = i.checked;
  visited = i.visited;
  blocks = i.blocks;
  read = i.read;
  fixed_are = i.fixed_are;
  stands = i.stands;
  answered = λ key n. let a = i.answered key n in record { address = a.address; is = a.is; chunk = a.chunk; within = a.within };
  ends = i.ends;
  some = i.some;
}

-- the keys of the first numbers come first
pub keys_first : (f : ℕ → Key) (from n total : ℕ) → n ≤ total → (rest : List Key) × (map f (range_with_len from total) ≡ map f (range_with_len from n) ++ rest)
keys_first f from zero total h = (map f (range_with_len from total), refl)
keys_first f from (suc n) zero h = absurd (omega (arith, h))
keys_first f from (suc n) (suc total) h =
    let later = keys_first f (from + 1) n total (omega (arith, h)) in
    (later.0, ap (λ (ks : List Key). f from ∷ ks) later.1)

pub one_address : (a b : ℕ) (r : Result ℕ ReadError) → r ≡ Ok a → r ≡ Ok b → a ≡ b
one_address a b r h g = cc

-- and so do their addresses
pub each_first : (img : List ℕ) (p : Key → Prog (Result ℕ ReadError)) (ks more : List Key) (table all : List ℕ) → eval img (each_of p ks) ≡ Ok table → eval img (each_of p (ks ++ more)) ≡ Ok all
    → (rest : List ℕ) × (all ≡ table ++ rest)
each_first img p [] more table all h g = (all, ap (λ (xs : List ℕ). xs ++ all) (same_addresses [] table h))
each_first img p (k ∷ ks) more table all h g =
    let one = and_then_ok img (p k) (λ x. and_then (each_of p ks) (λ xs. ret (Ok (x ∷ xs)))) table h in
    let its = and_then_ok img (each_of p ks) (λ xs. ret (Ok (one.0 ∷ xs))) table one.2 in
    let two = and_then_ok img (p k) (λ x. and_then (each_of p (ks ++ more)) (λ xs. ret (Ok (x ∷ xs)))) all g in
    let others = and_then_ok img (each_of p (ks ++ more)) (λ xs. ret (Ok (two.0 ∷ xs))) all two.2 in
    let rest = each_first img p ks more its.0 others.0 its.1 others.1 in
    let same : two.0 ≡ one.0 = one_address two.0 one.0 (eval img (p k)) two.1 one.1 in (
      rest.0,
      sym (same_addresses (two.0 ∷ others.0) all others.2)
          ∙ ap (λ x. x ∷ others.0) same
          ∙ ap (λ (xs : List ℕ). one.0 ∷ xs) rest.1
          ∙ ap (λ (xs : List ℕ). xs ++ rest.0) (same_addresses (one.0 ∷ its.0) table its.2),
    )

-- the table of more rows begins with that of fewer
pub table_first : (img : List ℕ) (d e : Described) (blocks : InPlace) (table all : List ℕ) → needed d ≤ needed e → keys_across e ≡ keys_across d
    → eval img (each_of (address_behind blocks) (needed_keys d)) ≡ Ok table → eval img (each_of (address_behind blocks) (needed_keys e)) ≡ Ok all → (rest : List ℕ) × (all ≡ table ++ rest)
table_first img d e blocks table all more side h g =
    let key_by : ℕ → ℕ → Key = λ across n. record { i = n / across; j = n % across } in
    let rest = keys_first (index_key d) 0 (needed d) (needed e) more in
    let keys : needed_keys e ≡ needed_keys d ++ rest.0 = ap (λ n. map (key_by n) (range_with_len 0 (needed e))) side ∙ rest.1 in
    each_first img (address_behind blocks) (needed_keys d) rest.0 table all h (ap (λ (ks : List Key). eval img (each_of (address_behind blocks) ks)) (sym keys) ∙ g)

pub bands_rise : (d e : Described) → e.layout.chunk_rows ≡ d.layout.chunk_rows → d.shape.rows ≤ e.shape.rows → bands d ≤ bands e
bands_rise d e same rows =
    subst (λ c. bands d ≤ (e.shape.rows + c - 1) / c) (sym same)
    (div_rises d.layout.chunk_rows (d.shape.rows + d.layout.chunk_rows - 1) (e.shape.rows + d.layout.chunk_rows - 1) (omega (arith, rows)))

pub needed_rises : (d e : Described) → chunks_across e ≡ chunks_across d → bands d ≤ bands e → needed d ≤ needed e
needed_rises d e across more = subst (λ n. needed d ≤ bands e * n) (sym across) (mul-le-mul_right (chunks_across d) more)

pub stays_defined : (table rest : List ℕ) (k : ℕ) → k < length table → StaysDefined (get_or table k undefined) (get_or (table ++ rest) k undefined)
stays_defined table rest k low d = get_or_append_left table rest undefined k low

pub growing_commits : GrowingCommits
growing_commits img name m held w n r g =
    let new : List ℕ = apply w img in
    let d : Described = m.dataset in
    let e : Described = n.dataset in
    let s = m.super in
    let grown : Described = record d { shape = record (d.shape) { rows = e.shape.rows } } in
    let in_image = inside img name m r in
    let rises = g.rises in
    let off = header_off m w r.apart (chunk_lies m w g.inside) in
    let off_index : MissesEach w (m.fixed ++ m.behind) = λ u a. off u (inr (among_right u m.root (m.fixed ++ m.behind) a)) in
    let same_fixed : n.fixed ≡ m.fixed = ap (λ (x : Moment). x.fixed) g.is in
    let same_behind : n.behind ≡ m.behind = ap (λ (x : Moment). x.behind) g.is in
    let index : IsIndex img s.end e m.fixed m.behind = subst (λ (x : Described). IsIndex img s.end x m.fixed m.behind) (sym g.shape) (reshaped img s.end d e.shape.rows m.fixed m.behind r.index) in
    let few_now : AreFew e = (header_tells new format_limits s m.place e m.header g.header).few in
    let sized = (header_tells new format_limits s m.place e m.header g.header).sized in
    let has = table_any img s.end e m.fixed m.behind n.table index few_now g.table in
    let next : Moment = record m { dataset = e; table = n.table; values = m.values ++ g.more } in
    let misses = all_missed w img next sized has (λ v a. off_index v (among_right v m.fixed m.behind a)) in
    let moved = index_missed w img s.end e m.fixed m.behind index in_image (λ u a b. off_index u a) in
    let blocks : InPlace = r.index.blocks in
    let read_now : eval img (in_place e) ≡ Ok blocks = subst (λ (x : Described). eval img (in_place x) ≡ Ok blocks) (sym g.shape) r.index.read in
    let before = sym (table_laws.by_blocks img d blocks (needed_keys d) r.index.read) ∙ r.table in
    let now = sym (table_laws.by_blocks img e blocks (needed_keys e) read_now) ∙ g.table in
    let chunk_rows : e.layout.chunk_rows ≡ d.layout.chunk_rows = ap (λ (x : Described). x.layout.chunk_rows) g.shape in
    let across : chunks_across e ≡ chunks_across d = ap (λ (x : Described). chunks_across x) g.shape in
    let side : keys_across e ≡ keys_across d = ap (λ (x : Described). keys_across x) g.shape in
    let first = table_first img d e blocks m.table n.table (needed_rises d e across (bands_rise d e chunk_rows (omega (arith, rises)))) side before now in
    commits (record {
      more = g.more;
      is = g.is ∙ ap (λ (us : List Used). record m { dataset = e; fixed = us; behind = m.behind; table = n.table; values = m.values ++ g.more }) (sym same_fixed)
          ∙ ap (λ (us : List Used). record m { dataset = e; fixed = n.fixed; behind = us; table = n.table; values = m.values ++ g.more }) (sym same_behind);
      inside = g.inside;
      header = g.header;
      described = subst (λ (x : Described). SameDescribed d x) (sym g.shape) (record { rows_alone = refl; address = defined_itself d.layout.address });
      chunk_0 = g.chunk_0;
      rises = g.rises;
      index = subst (λ (us : List Used). IsIndex new s.end e us n.behind) (sym same_fixed) (subst (λ (us : List Used). IsIndex new s.end e m.fixed us) (sym same_behind) moved.left);
      apart = subst (λ (x : Moment). Disjoint (all_used x)) (sym g.is) r.apart;
      table = table_laws.missed w img s.end e m.fixed m.behind n.table index few_now in_image (λ u a b. off_index u a) g.table;
      addresses = λ k low. subst (λ (xs : List ℕ). StaysDefined (get_or m.table k undefined) (get_or xs k undefined)) (sym first.1) (stays_defined m.table first.0 k low);
      count = g.count;
      cells = subst (λ (x : Moment). HasCells new x) (sym g.is) (cells_missed w img next sized.size misses (subst (λ (x : Moment). HasCells img x) g.is g.cells));
    }) refl

-- ---- An index for the first time

abbrev pub rest_of : List Used → List Used
rest_of [] = []
rest_of (u ∷ us) = us

pub cut : (us vs ws : List Used) → us ++ vs ≡ us ++ ws → vs ≡ ws
cut [] vs ws e = e
cut (u ∷ us) vs ws e = cut us vs ws (ap rest_of e)

pub found_index : (img : List ℕ) (end : ℕ) (d : Described) (fixed behind : List Used) → eval img (index_visit end d) ≡ Ok (fixed ++ behind) → fixed ≡ blocks_of (visits img (in_place d)) → IsIndex img end d fixed behind
found_index img end d fixed behind h are =
    let c = checked_index img end d (fixed ++ behind) h in
    let same : c.fixed ≡ fixed = c.index.fixed_are ∙ sym are in
    let later : c.behind ≡ behind = cut fixed c.behind behind (ap (λ (us : List Used). us ++ c.behind) (sym same) ∙ sym c.parts) in
    subst (λ (us : List Used). IsIndex img end d us behind) same (subst (λ (us : List Used). IsIndex img end d c.fixed us) later c.index)

-- without an address nothing stands behind
pub nothing_there : (img : List ℕ) (end : ℕ) (d : Described) (fixed behind : List Used) → d.layout.address ≡ undefined → IsIndex img end d fixed behind → (u : Used) → Among u behind → ⊥
nothing_there img end d fixed behind e i u a =
    let none : [] ≡ fixed ++ behind = no_ranges (fixed ++ behind) (sym (ap (eval img) (cond-true (d.layout.address == undefined) (ret (Ok [])) _ (eq-eqb d.layout.address undefined e))) ∙ i.checked) in
    subst (λ (us : List Used). Among u us → ⊥) none (λ x. x) (among_right u fixed behind a)
  where
    no_ranges : (us : List Used) → ◌≡◌ {A = Result (List Used) Finding} (Ok []) (Ok us) → [] ≡ us
    no_ranges us h = cc

pub starting_commits : StartingCommits
starting_commits img name m held w n r g =
    let new : List ℕ = apply w img in
    let d : Described = m.dataset in
    let e : Described = n.dataset in
    let s = m.super in
    let in_image = inside img name m r in
    let next : Moment = record m { dataset = e; fixed = n.fixed; behind = n.behind; table = n.table; values = m.values ++ g.more } in
    let apart : Disjoint (all_used next) = subst (λ (x : Moment). Disjoint (all_used x)) g.is g.apart in
    let off = header_off next w apart (chunk_lies m w g.inside) in
    let off_index : MissesEach w (n.fixed ++ n.behind) = λ u a. off u (inr (among_right u m.root (n.fixed ++ n.behind) a)) in
    let index : IsIndex img s.end e n.fixed n.behind = found_index img s.end e n.fixed n.behind g.index g.fixed in
    let tells = header_tells new format_limits s m.place e m.header g.header in
    let has = table_any img s.end e n.fixed n.behind n.table index tells.few g.table in
    let misses = all_missed w img next tells.sized has (λ v a. off_index v (among_right v n.fixed n.behind a)) in
    let old = table_any img s.end d m.fixed m.behind m.table r.index (few img name m r) r.table in
    commits (record {
      more = g.more;
      is = g.is;
      inside = g.inside;
      header = g.header;
      described = g.described;
      chunk_0 = g.chunk_0;
      rises = g.rises;
      index = (index_missed w img s.end e n.fixed n.behind index in_image (λ u a b. off_index u a)).left;
      apart = g.apart;
      table = table_laws.missed w img s.end e n.fixed n.behind n.table index tells.few in_image (λ u a b. off_index u a) g.table;
      addresses = λ k low known. absurd (nothing_there img s.end d m.fixed m.behind g.undefined_before r.index _ (old.chunks k known));
      count = g.count;
      cells = subst (λ (x : Moment). HasCells new x) (sym g.is) (cells_missed w img next tells.sized.size misses (subst (λ (x : Moment). HasCells img x) g.is g.cells));
    }) refl
