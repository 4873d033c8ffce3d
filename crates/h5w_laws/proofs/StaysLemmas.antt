-- What stays from one position to a later one stays from an image to itself, and from one image over another to a third.
use Rattle.std.proofs.Common.{◌≡◌, ◌≢◌, ◌⊎◌, ℕ, ◌<◌, Option, List, length, get_or, Result, Ok, Err, refl, sym, ◌∙◌, ap, subst, inl, inr, arith}
use Rattle.std.proofs.lemmas.Bool.{cases_lt}
use Rattle.std.proofs.lemmas.List.{get_or_past}
use Rattle.h5w_model.specs.Numbers.{range, undefined}
use Rattle.h5w_model.specs.Programs.{Visit, visits, Same}
use Rattle.h5w_model.specs.Arrays.{EahdFields, eahd_at, eahd_len}
use Rattle.h5w_model.specs.Headers.{header_view, index_in_header}
use Rattle.h5w_model.specs.Datasets.{Described, root_header}
use Rattle.h5w_model.specs.Tables.{Reading}
use Rattle.h5w_model.specs.Prefixed.{root_address, NamesBlock, StaysDefined, SameDescribed, IsOutside, SameHeader, continuation_blocks, Stays}
use Rattle.h5w_model.specs.declared.refusal.BlockFault.{BlockFault}
use Rattle.h5w_laws.proofs.ProgramLemmas.{same_itself, same_onward, same_visits}

pub defined_itself : (a : ℕ) → StaysDefined a a
defined_itself a d = refl

pub defined_onward : (a b c : ℕ) → StaysDefined a b → StaysDefined b c → StaysDefined a c
defined_onward a b c h g d = let e : b ≡ a = h d in g (λ u. d (sym e ∙ u)) ∙ e

-- the dataset with other rows and another index address
abbrev pub moved : Described → ℕ → ℕ → Described
moved d n address = record d { shape = record (d.shape) { rows = n }; layout = record (d.layout) { address = address } }

pub described_itself : (d : Described) → SameDescribed d d
described_itself d = record { rows_alone = refl; address = defined_itself d.layout.address }

pub described_onward : (a b c : Described) → SameDescribed a b → SameDescribed b c → SameDescribed a c
described_onward a b c h g = record {
  rows_alone = g.rows_alone ∙ ap (λ d. moved d c.shape.rows c.layout.address) h.rows_alone;
  address = defined_onward a.layout.address b.layout.address c.layout.address h.address g.address;
}

-- each header of an array names some block, or counts as naming none
pub named_by : (r : Result EahdFields BlockFault) → (m : ℕ) × (elim r as (λ _. Type 0) [ Ok h ↦ h.block ≡ m | Err f ↦ m ≡ undefined ])
named_by (Ok h) = (h.block, refl)
named_by (Err f) = (undefined, refl)

pub named_block : (img : List ℕ) (address : ℕ) → (m : ℕ) × NamesBlock img address m
named_block img address = named_by (eahd_at (range img address eahd_len) address)

pub same_named : (r : Result EahdFields BlockFault) (a b : ℕ) → (elim r as (λ _. Type 0) [ Ok h ↦ h.block ≡ a | Err f ↦ a ≡ undefined ])
    → (elim r as (λ _. Type 0) [ Ok h ↦ h.block ≡ b | Err f ↦ b ≡ undefined ]) → b ≡ a
same_named (Ok h) a b x y = sym y ∙ x
same_named (Err f) a b x y = y ∙ sym x

-- chunk 0 is the same in an image and itself, and from one over another to a third
pub header_itself : (b : List ℕ) (address : ℕ) → SameHeader b b address
header_itself b address = record { size = refl; rows_place = refl; index_place = refl; bytes = λ k below rows index. refl }

pub still_outside : (a b : ℕ) (p q : Option ℕ) (k : ℕ) → StaysDefined a b → q ≡ p → (a ≢ undefined) ⊎ IsOutside p k → (b ≢ undefined) ⊎ IsOutside q k
still_outside a b p q k stays e (inl defined) = inl (λ u. defined (sym (stays defined) ∙ u))
still_outside a b p q k stays e (inr outside) = inr (subst (λ o. IsOutside o k) (sym e) outside)

pub header_onward : (old mid new : List ℕ) (a b : ℕ) → StaysDefined a b → SameHeader old mid a → SameHeader mid new b → SameHeader old new a
header_onward old mid new a b stays h g = record {
  size = g.size ∙ h.size;
  rows_place = g.rows_place ∙ h.rows_place;
  index_place = g.index_place ∙ h.index_place;
  bytes = λ k below rows index.
      g.bytes k (omega (arith, h.size, below)) (subst (λ o. IsOutside o k) (sym h.rows_place) rows)
      (still_outside a b (index_in_header old) (index_in_header mid) k stays h.index_place index)
      ∙ h.bytes k below rows index;
}

pub onward_chunk : (mid new : List ℕ) (place at address : ℕ) → place ≡ at → SameHeader (header_view (range mid place 512)) (header_view (range new place 512)) address
    → SameHeader (header_view (range mid at 512)) (header_view (range new at 512)) address
onward_chunk mid new place at address e h = subst (λ a. SameHeader (header_view (range mid a 512)) (header_view (range new a 512)) address) e h

pub stays_itself : (img : List ℕ) (r : Reading) → Stays img r img r
stays_itself img r = record {
  root = refl;
  root_header = same_itself img (visits img (root_header (root_address img)));
  place = refl;
  named = refl;
  continuations = same_itself img (continuation_blocks img r);
  described = described_itself r.dataset;
  rows = omega arith;
  chunk_0 = header_itself (header_view (range img r.place 512)) r.dataset.layout.address;
  header = λ e. refl;
  index_block = λ a b is defined x y d. same_named (eahd_at (range img r.dataset.layout.address eahd_len) r.dataset.layout.address) a b x y;
  addresses = λ k lt. defined_itself (get_or r.table k undefined);
  cells = λ row column below inside. refl;
}

pub onward_root : (old mid new : List ℕ) → root_address mid ≡ root_address old → Same old mid (visits old (root_header (root_address old)))
    → Same mid new (visits mid (root_header (root_address mid))) → Same old new (visits old (root_header (root_address old)))
onward_root old mid new e h g =
    let p = root_header (root_address old) in
    let moved : visits mid (root_header (root_address mid)) ≡ visits old p = ap (λ a. visits mid (root_header a)) e ∙ same_visits old mid p h in
    same_onward old mid new (visits old p) h (subst (λ (vs : List Visit). Same mid new vs) moved g)

pub onward_header : (mid new : List ℕ) (place at : ℕ) → place ≡ at → header_view (range new place 512) ≡ header_view (range mid place 512)
    → header_view (range new at 512) ≡ header_view (range mid at 512)
onward_header mid new place at e h = subst (λ a. header_view (range new a 512) ≡ header_view (range mid a 512)) e h

pub onward_block : (mid new : List ℕ) (address at : ℕ) → address ≡ at
    → ((a b : ℕ) → NamesBlock mid address a → NamesBlock new address b → StaysDefined a b) → (a b : ℕ) → NamesBlock mid at a → NamesBlock new at b → StaysDefined a b
onward_block mid new address at e h = subst (λ x. (a b : ℕ) → NamesBlock mid x a → NamesBlock new x b → StaysDefined a b) e h

pub onward_address : (k a : ℕ) (mid new : List ℕ) → StaysDefined a (get_or mid k undefined) → (k < length mid → StaysDefined (get_or mid k undefined) (get_or new k undefined))
    → StaysDefined a (get_or new k undefined)
onward_address k a mid new h g d =
    let e : get_or mid k undefined ≡ a = h d in
    elim (cases_lt k (length mid)) [
      | inl there ↦ defined_onward a (get_or mid k undefined) (get_or new k undefined) h (g there) d
      | inr past ↦ absurd (d (sym e ∙ get_or_past mid k undefined past))
    ]

pub stays_onward : (old mid new : List ℕ) (r t s : Reading) → Stays old r mid t → Stays mid t new s → Stays old r new s
stays_onward old mid new r t s h g =
    let kind : t.dataset.layout.index ≡ r.dataset.layout.index = ap (λ d. d.layout.index) h.described.rows_alone in
    let cols : t.dataset.shape.cols ≡ r.dataset.shape.cols = ap (λ d. d.shape.cols) h.described.rows_alone in
    record {
      root = g.root ∙ h.root;
      root_header = onward_root old mid new h.root h.root_header g.root_header;
      place = g.place ∙ h.place;
      named = g.named ∙ h.named;
      continuations = same_onward old mid new (continuation_blocks old r) h.continuations (subst (λ (vs : List Visit). Same mid new vs) h.named g.continuations);
      described = described_onward r.dataset t.dataset s.dataset h.described g.described;
      rows = omega (arith, h.rows, g.rows);
      chunk_0 = header_onward (header_view (range old r.place 512)) (header_view (range mid r.place 512)) (header_view (range new r.place 512))
          r.dataset.layout.address t.dataset.layout.address h.described.address h.chunk_0
          (onward_chunk mid new t.place r.place t.dataset.layout.address h.place g.chunk_0);
      header = λ e.
          let first : r.dataset.shape.rows ≡ t.dataset.shape.rows = omega (arith, h.rows, g.rows) in
          let second : t.dataset.shape.rows ≡ s.dataset.shape.rows = omega (arith, h.rows, g.rows) in
          onward_header mid new t.place r.place h.place (g.header second) ∙ h.header first;
      index_block = λ a b is defined x y.
          let m = named_block mid r.dataset.layout.address in
          let same : t.dataset.layout.address ≡ r.dataset.layout.address = h.described.address defined in
          defined_onward a m.0 b (h.index_block a m.0 is defined x m.1)
          (onward_block mid new t.dataset.layout.address r.dataset.layout.address same
          (λ a b. g.index_block a b (kind ∙ is) (λ u. defined (sym same ∙ u))) m.0 b m.1 y);
      addresses = λ k lt. onward_address k (get_or r.table k undefined) t.table s.table (h.addresses k lt) (g.addresses k);
      cells = λ row column below inside. g.cells row column (omega (arith, h.rows)) (omega arith) ∙ h.cells row column below inside;
    }
