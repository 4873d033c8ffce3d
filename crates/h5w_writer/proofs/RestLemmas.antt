-- A session that rests: nothing is pending, and no rows wait.
use Rattle.std.proofs.Common.{◌≡◌, ℕ, ◌-◌, ◌*◌, ◌/◌, false, nat_lt, List, [], length, Option, Ok, refl, ap, sym, ◌∙◌, subst, inl, inr, arith}
use Rattle.std.proofs.lemmas.Bool.{cases_lt, cond-false, le-ltb, lt-ltb}
use Rattle.std.specs.Prelude.{IsSome}
use Rattle.h5w_model.specs.Arrays.{eahd_len, numbers_in}
use Rattle.h5w_model.specs.Images.{At}
use Rattle.h5w_model.specs.Numbers.{range}
use Rattle.h5w_model.specs.Logs.{Log, div_up}
use Rattle.h5w_model.specs.Datasets.{Described}
use Rattle.h5w_model.specs.Tables.{chunks_across}
use Rattle.h5w_model.specs.declared.piece.Write.{Write}
use Rattle.h5w_model.specs.declared.cell.Key.{Key}
use Rattle.h5w_space.specs.Space.{Space}
use Rattle.h5w_step_laws.specs.Moments.{Moment}
use Rattle.h5w_step_laws.specs.Logs.{image_now}
use Rattle.h5w_chunks.specs.Shares.{touched}
use Rattle.h5w_cache.specs.Blocks.{BlockView}
use Rattle.h5w_cache.specs.Plans.{bytes_of}
use Rattle.h5w_cache.specs.StoreLaws.{AreThere}
use Rattle.h5w_cache.specs.Stores.{Store, times}
use Rattle.h5w_array_laws.specs.Parts.{IsPart, Part, header, number_of}
use Rattle.h5w_array_laws.specs.ArrayStores.{IsArray, IsBlock, IsWhole, block_at_part, bytes_at_part, header_place, place_at_part}
use Rattle.h5w_array_laws.proofs.KeptLemmas.{is_some_of, of_some}
use Rattle.h5w_flush_laws.specs.Knowledge.{IsMap}
use Rattle.h5w_index.specs.Views.{IndexView, an_array, address_in}
use Rattle.h5w_index.specs.Flushes.{Rests}
use Rattle.h5w_index.specs.Marks.{IsMarked}
use Rattle.h5w_writer.specs.Sessions.{Session, rows_of}
use Rattle.h5w_writer.specs.Stands.{Running, Stands}
use Rattle.h5w_writer.proofs.StandLemmas.{left_running}

-- where nothing was dropped and nothing is pending
pub at_rest : (s : Session) (log : Log) → (st : Stands s log) → s.stopped ≡ false → s.pending ≡ [] → Running s [] log
at_rest s log st running idle =
    let none : st.left ≡ [] = left_running s st.left running st.dropped ∙ idle in
    elim st.phase [
      | inl c ↦ absurd (c.1.some none)
      | inr r ↦ subst (λ (ws : List Write). Running s ws log) none r
    ]

-- where no rows wait no block of an array changed
none_changed : (d : Described) (rows : ℕ) (v : Store) (n : ℕ) → IsMarked d rows rows (an_array v) → times n v.changed ≡ 0
none_changed d rows v n marks =
    elim (cases_lt 0 (times n v.changed)) [
      | inl some ↦
          let way = marks n (lt-ltb 0 (times n v.changed) some) in
          let none : touched d rows rows ≡ 0 = cond-false (nat_lt rows rows) ((div_up rows d.layout.chunk_rows - rows / d.layout.chunk_rows) * chunks_across d) 0 (le-ltb rows rows (omega arith)) in
          absurd (omega (arith, way.1.inside, none))
      | inr few ↦ omega arith
    ]

kept_there : (v : Store) (img : List ℕ) (k : Part) → IsArray v → AreThere v img → times (number_of k) v.changed ≡ 0 → IsPart k → IsSome (block_at_part v k) → At img (place_at_part v k) (bytes_at_part v k)
kept_there v img k is there clean part some =
    let b = is_some_of (block_at_part v k) some in
    let whole : IsWhole v k b.0 = of_some (IsWhole v k) (block_at_part v k) b.0 b.1 (is.whole k part (ap (nat_lt 0) clean)) in
    there (number_of k) (record { kept = some; placed = whole.placed }) clean

-- the numbers of an array's header that did not change stand on the image
pub array_six : (img : List ℕ) (m : Moment) (address : Key → ℕ) (places : Space) (v : Store) → Rests img m address places (an_array v) → times 846 v.changed ≡ 0
    → numbers_in (range img m.dataset.layout.address eahd_len) 6 12 ≡ numbers_in (bytes_at_part v header) 6 12
array_six img m address places v rest clean =
    let is : IsArray v = rest.sound in
    let top = is_some_of (block_at_part v header) (is.in_place header tt refl).0 in
    let len : length (bytes_at_part v header) ≡ 72 = ap (λ (o : Option BlockView). length (bytes_of o)) top.1 ∙ (of_some (IsBlock header) (block_at_part v header) top.0 top.1 (is.each header tt)).len in
    let there = kept_there v img header is rest.stands.there clean tt (is.in_place header tt refl).0 in
    ap (λ (b : List ℕ). numbers_in b 6 12) (ap (λ (at : ℕ). range img at 72) rest.at_place ∙ ap (range img (header_place v)) (sym len) ∙ there)

-- what stands of an array on the image then
pub record ArrayRests (s : Session) (v : Store) (img : List ℕ) : Type 0 where
  pub address : s.dataset.layout.address ≡ header_place v
  pub map : IsMap img s.dataset (address_in s.index)
  pub there : (k : Part) → IsPart k → IsSome (block_at_part v k) → At img (place_at_part v k) (bytes_at_part v k)
  pub six : numbers_in (range img s.dataset.layout.address eahd_len) 6 12 ≡ numbers_in (bytes_at_part v header) 6 12

pub array_rests : (s : Session) (log : Log) → (r : Running s [] log) → Rests (image_now log) r.after r.address r.rest s.index → s.waits ≡ 0 → (v : Store) → s.index ≡ an_array v → ArrayRests s v (image_now log)
array_rests s log r now none v e =
    let img = image_now log in
    let of_array : Rests img r.after r.address r.rest (an_array v) = subst (λ (w : IndexView). Rests img r.after r.address r.rest w) e now in
    let is : IsArray v = of_array.sound in
    let all : rows_of s ≡ s.dataset.shape.rows = omega (arith, none) in
    let marks : IsMarked s.dataset s.dataset.shape.rows s.dataset.shape.rows (an_array v) =
    subst (λ (w : IndexView). IsMarked s.dataset s.dataset.shape.rows s.dataset.shape.rows w) e (subst (λ (n : ℕ). IsMarked s.dataset s.dataset.shape.rows n s.index) all r.marks) in
    let there : (k : Part) → IsPart k → IsSome (block_at_part v k) → At img (place_at_part v k) (bytes_at_part v k) =
    λ k part some. kept_there v img k is of_array.stands.there (none_changed s.dataset s.dataset.shape.rows v (number_of k) marks) part some in
    let address : s.dataset.layout.address ≡ header_place v = ap (λ (d : Described). d.layout.address) (sym r.keeps.dataset) ∙ of_array.at_place in
    record {
      address = address;
      map = subst (λ (d : Described). IsMap img d (λ key. address_in s.index key)) r.keeps.dataset
          (record { blocks = r.knows.index.blocks; read = r.knows.index.read; answers = λ key named. r.knows.index.answers key named ∙ ap (λ (a : ℕ). Ok a) (now.map key) });
      there = there;
      six =
          ap (λ (at : ℕ). numbers_in (range img at eahd_len) 6 12) (ap (λ (d : Described). d.layout.address) (sym r.keeps.dataset))
          ∙ array_six img r.after r.address r.rest v of_array (none_changed s.dataset s.dataset.shape.rows v (number_of header) marks);
    }
