-- The ranges of a file that is opened: which of them is the first that ends behind a place.
use Rattle.std.proofs.Common.{◌≡◌, ◌≢◌, ℕ, zero, suc, ◌+◌, ◌-◌, ◌<◌, ◌≤◌, Bool, true, false, cond, List, [], ◌∷◌, ◌++◌, take, Option, Some, None, refl, sym, ap, ◌∙◌, subst, inl, inr, arith, append_assoc, append-nil}
use Rattle.std.specs.Prelude.{nat_lt, map, option_map}
use Rattle.std.specs.Option.{option_or}
use Rattle.std.proofs.Common.{ne_eqb}
use Rattle.std.proofs.lemmas.Bool.{cases_eq, ltb-true, ltb-false, le-ltb, lt-ltb}
use Rattle.h5w_model.specs.Numbers.{undefined}
use Rattle.h5w_model.specs.Tables.{in_leaf, key_below, key_equal}
use Rattle.h5w_model.specs.declared.cell.Key.{Key}
use Rattle.h5w_space.specs.Space.{extent}
use Rattle.h5w_space.specs.declared.Extent.{Extent}
use Rattle.h5w_space.specs.Ranges.{range_at}
use Rattle.h5w_cache.specs.Stores.{Store}
use Rattle.h5w_array_laws.specs.ArrayStores.{map_of}
use Rattle.h5w_ea_index.specs.Steps.{found}
use Rattle.h5w_bt.specs.Parts.{record_of}
use Rattle.h5w_bt.specs.declared.records.Record.{Record}
use Rattle.h5w_bt.proofs.KeyLemmas.{equal-is}
use Rattle.h5w_writer_open.specs.OpenRanges.{chunks_behind, chunks_from, first_past}

-- ---- Options

pub or_none : {A : Type 0} (a b : Option A) → option_or a b ≡ None → (a ≡ None) × (b ≡ None)
or_none None b h = (refl, h)
or_none (Some a) b h = absurd cc

pub both_none : {A : Type 0} (a b : Option A) → a ≡ None → b ≡ None → option_or a b ≡ None
both_none a b h g = ap (λ o. option_or o b) h ∙ g

pub map_none : {A B : Type 0} (f : A → B) (o : Option A) → option_map f o ≡ None → o ≡ None
map_none f None h = refl
map_none f (Some a) h = absurd cc

-- ---- Ranges within an end

abbrev pub AllBy : ℕ → List Extent → Type 0
AllBy end [] = Unit {0}
AllBy end (r ∷ rs) = (r.at + r.size ≤ end) × AllBy end rs

none_first : (end : ℕ) (r : Extent) (rest : Option Extent) (c : Bool) → nat_lt end (r.at + r.size) ≡ c → cond c (Some r) rest ≡ None → (r.at + r.size ≤ end) × (rest ≡ None)
none_first end r rest true t h = absurd cc
none_first end r rest false t h = (ltb-false end (r.at + r.size) t, h)

pub none_past : (end : ℕ) (rs : List Extent) → first_past end rs ≡ None → AllBy end rs
none_past end [] h = tt
none_past end (r ∷ rs) h = let p = none_first end r (first_past end rs) (nat_lt end (r.at + r.size)) refl h in (p.0, none_past end rs p.1)

pub past_none : (end : ℕ) (rs : List Extent) → AllBy end rs → first_past end rs ≡ None
past_none end [] h = refl
past_none end (r ∷ rs) h = ap (λ c. cond c (Some r) (first_past end rs)) (le-ltb end (r.at + r.size) h.0) ∙ past_none end rs h.1

pub by_left : (end : ℕ) (rs ss : List Extent) → AllBy end (rs ++ ss) → AllBy end rs
by_left end [] ss h = tt
by_left end (r ∷ rs) ss h = (h.0, by_left end rs ss h.1)

pub by_right : (end : ℕ) (rs ss : List Extent) → AllBy end (rs ++ ss) → AllBy end ss
by_right end [] ss h = h
by_right end (r ∷ rs) ss h = by_right end rs ss h.1

pub by_both : (end : ℕ) (rs ss : List Extent) → AllBy end rs → AllBy end ss → AllBy end (rs ++ ss)
by_both end [] ss h g = g
by_both end (r ∷ rs) ss h g = (h.0, by_both end rs ss h.1 g)

pub by_take : (end n : ℕ) (rs : List Extent) → AllBy end rs → AllBy end (take n rs)
by_take end zero rs h = tt
by_take end (suc n) [] h = tt
by_take end (suc n) (r ∷ rs) h = (h.0, by_take end n rs h.1)

pub by_later : (end most : ℕ) (rs : List Extent) → end ≤ most → AllBy end rs → AllBy most rs
by_later end most [] le h = tt
by_later end most (r ∷ rs) le h = (let a = h.0 in omega arith, by_later end most rs le h.1)

first_joined : (r : Extent) (both one two : Option Extent) (c : Bool) → both ≡ option_or one two → cond c (Some r) both ≡ option_or (cond c (Some r) one) two
first_joined r both one two true h = refl
first_joined r both one two false h = h

-- the first of two lists, one after the other
pub past_joined : (end : ℕ) (rs ss : List Extent) → first_past end (rs ++ ss) ≡ option_or (first_past end rs) (first_past end ss)
past_joined end [] ss = refl
past_joined end (r ∷ rs) ss = first_joined r (first_past end (rs ++ ss)) (first_past end rs) (first_past end ss) (nat_lt end (r.at + r.size)) (past_joined end rs ss)

-- ---- A place that is one

pub range_there : (place len : ℕ) → place ≢ undefined → range_at place len ≡ extent place len ∷ []
range_there place len ne = ap (λ c. cond c [] (extent place len ∷ [])) (ne_eqb place undefined ne)

pub range_absent : (place len : ℕ) → place ≡ undefined → range_at place len ≡ []
range_absent place len e = ap (λ p. range_at p len) e

pub range_by : (end place len : ℕ) → (place ≢ undefined → place + len ≤ end) → AllBy end (range_at place len)
range_by end place len h = elim (cases_eq place undefined) [
  | inl e ↦ subst (AllBy end) (sym (range_absent place len e)) tt
  | inr ne ↦ subst (AllBy end) (sym (range_there place len ne)) (h ne, tt)
]

pub by_range : (end place len : ℕ) → AllBy end (range_at place len) → place ≢ undefined → place + len ≤ end
by_range end place len h ne = (subst (AllBy end) (range_there place len ne) h).0

-- ---- Chunks

pub chunk_by : (end len : ℕ) (v : Store) (i n : ℕ) → AllBy end (chunks_from v len i n) → (j : ℕ) → i ≤ j → j < i + n → map_of v j ≢ undefined → map_of v j + len ≤ end
chunk_by end len v i zero h j low high named = absurd (omega arith)
chunk_by end len v i (suc n) h j low high named = elim (cases_eq i j) [
  | inl e ↦ by_range end (map_of v j) len (subst (λ k. AllBy end (range_at (map_of v k) len)) e (by_left end (range_at (map_of v i) len) (chunks_from v len (i + 1) n) h)) named
  | inr ne ↦ chunk_by end len v (i + 1) n (by_right end (range_at (map_of v i) len) (chunks_from v len (i + 1) n) h) j (let l : i ≢ j = ne in omega arith) (omega arith) named
]

pub chunks_by : (end len : ℕ) (v : Store) (i n : ℕ) → ((j : ℕ) → i ≤ j → j < i + n → map_of v j ≢ undefined → map_of v j + len ≤ end) → AllBy end (chunks_from v len i n)
chunks_by end len v i zero h = tt
chunks_by end len v i (suc n) h =
    by_both end (range_at (map_of v i) len) (chunks_from v len (i + 1) n) (range_by end (map_of v i) len (λ ne. h i (omega arith) (omega arith) ne))
    (chunks_by end len v (i + 1) n (λ j low high ne. h j (omega arith) (omega arith) ne))

-- the next of so many chunks comes first
pub next_chunk : (len : ℕ) (v : Store) (i : ℕ) → i < 131060 → chunks_from v len i (131060 - i) ≡ range_at (map_of v i) len ++ chunks_from v len (i + 1) (131060 - (i + 1))
next_chunk len v i low = let e : 131060 - i ≡ suc (131060 - (i + 1)) = omega arith in ap (chunks_from v len i) e

-- a chunk that was found
placed_found : (a b : ℕ) → found a ≡ Some b → (a ≢ undefined) × (a ≡ b)
placed_found a b h = elim (cases_eq a undefined) [
  | inl e ↦ let g : found undefined ≡ Some b = subst (λ x. found x ≡ Some b) e h in absurd cc
  | inr ne ↦
      let g : ◌≡◌ {A = Option ℕ} (Some a) (Some b) = sym (ap (λ c. cond c None (Some a)) (ne_eqb a undefined ne)) ∙ h in
      (ne, let k : a ≡ b = cc in k)
]

pub found_range : (len a b : ℕ) → found a ≡ Some b → range_at a len ≡ extent b len ∷ []
found_range len a b h = let p = placed_found a b h in range_there a len p.0 ∙ ap (λ x. extent x len ∷ []) p.1

pub unfound_range : (len a : ℕ) → found a ≡ None → range_at a len ≡ []
unfound_range len a h = elim (cases_eq a undefined) [
  | inl e ↦ range_absent a len e
  | inr ne ↦ let g : ◌≡◌ {A = Option ℕ} (Some a) None = sym (ap (λ c. cond c None (Some a)) (ne_eqb a undefined ne)) ∙ h in absurd cc
]

-- ---- Chunks of a tree

-- a record of a line and later has its chunk there
behind_first : (end len line : ℕ) (r : Record) (c : Bool) → nat_lt r.key.i line ≡ c → AllBy end (cond c [] (range_at r.address len)) → line ≤ r.key.i → r.address ≢ undefined → r.address + len ≤ end
behind_first end len line r true e h late named = let low = ltb-true r.key.i line e in absurd (omega (arith, low, late))
behind_first end len line r false e h late named = by_range end r.address len h named

-- where the chunks of a line and later end by an end, so does that of each key there
pub behind_ends : (end len line : ℕ) (rs : List Record) (key : Key) → AllBy end (chunks_behind len line rs) → line ≤ key.i → in_leaf key (map record_of rs) ≢ undefined → in_leaf key (map record_of rs) + len ≤ end
behind_ends end len line [] key h late = λ named. absurd (named refl)
behind_ends end len line (r ∷ rs) key h late =
    go (behind_ends end len line rs key (by_right end first (chunks_behind len line rs) h) late) (key_below r.key key) (key_equal r.key key) refl
  where
    first : List Extent
    first = cond (nat_lt r.key.i line) [] (range_at r.address len)

    later : ℕ
    later = in_leaf key (map record_of rs)

    go : (later ≢ undefined → later + len ≤ end) → (below same : Bool) → key_equal r.key key ≡ same → cond below later (cond same r.address undefined) ≢ undefined
        → cond below later (cond same r.address undefined) + len ≤ end
    go others true same e = others
    go others false true e =
        behind_first end len line r (nat_lt r.key.i line) refl (by_left end first (chunks_behind len line rs) h) (subst (λ (k : Key). line ≤ k.i) (sym (equal-is r.key key e)) late)
    go others false false e = λ named. absurd (named refl)

-- that of a record, where its chunk is of a line or later
abbrev pub behind_one : ℕ → ℕ → Record → List Extent
behind_one len line r = cond (nat_lt r.key.i line) [] (range_at r.address len)

-- those of some records and one more
pub behind_more : (len line : ℕ) (rs : List Record) (r : Record) → chunks_behind len line (rs ++ r ∷ []) ≡ chunks_behind len line rs ++ behind_one len line r
behind_more len line [] r = append-nil (behind_one len line r)
behind_more len line (x ∷ xs) r =
    ap (λ (es : List Extent). behind_one len line x ++ es) (behind_more len line xs r) ∙ sym (append_assoc (behind_one len line x) (chunks_behind len line xs) (behind_one len line r))

pub behind_there : (len line : ℕ) (r : Record) → line ≤ r.key.i → r.address ≢ undefined → behind_one len line r ≡ extent r.address len ∷ []
behind_there len line r late named = ap (λ c. cond c [] (range_at r.address len)) (le-ltb r.key.i line late) ∙ range_there r.address len named

pub behind_early : (len line : ℕ) (r : Record) → r.key.i < line → behind_one len line r ≡ []
behind_early len line r early = ap (λ c. cond c [] (range_at r.address len)) (lt-ltb r.key.i line early)

pub behind_absent : (len line : ℕ) (r : Record) → r.address ≡ undefined → behind_one len line r ≡ []
behind_absent len line r none = by (nat_lt r.key.i line)
  where
    by : (c : Bool) → cond c [] (range_at r.address len) ≡ []
    by true = refl
    by false = range_absent r.address len none
