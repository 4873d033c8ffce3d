-- Which chunks HDF5's library finds.
use Rattle.std.proofs.Common.{◌≡◌, ℕ, [], get_or, Ok, ap, sym, ◌∙◌, subst, refl, inl, inr, arith}
use Rattle.h5w_model.specs.Datasets.{Described}
use Rattle.h5w_model.specs.declared.cell.IndexKind.TheVariants.{Array}
use Rattle.h5w_cache.specs.Stores.{Store}
use Rattle.h5w_step_laws.specs.Logs.{image_now}
use Rattle.h5w_flush_laws.specs.Knowledge.{IsMap}
use Rattle.h5w_index.specs.Views.{IndexView, IsReached, address_in, an_array, a_tree, kind_of}
use Rattle.h5w_writer.specs.Finding.{FindsAll, SessionFinds}
use Rattle.h5w_writer.specs.Indexes.{IsKeptIndex}
use Rattle.h5w_writer.specs.Stands.{Running}
use Rattle.h5w_writer.proofs.StartKinds.{blank_none}
use Rattle.h5w_writer.proofs.RestLemmas.{array_rests, at_rest}

of_kind : (v : IndexView) → kind_of v ≡ Array → (u : Store) × (v ≡ an_array u)
of_kind (an_array u) e = (u, refl)
of_kind (a_tree place u) e = absurd cc

pub session_finds : SessionFinds
session_finds s log st running idle none named kind more =
    let r = at_rest s log st running idle in
    go r r.index
  where
    go : (r : Running s [] log) → IsKeptIndex (image_now log) r.after r.address r.rest s.index → FindsAll s (image_now log)
    go r (inl now) =
        let same : kind_of s.index ≡ Array = sym now.kind ∙ ap (λ (d : Described). d.layout.index) r.keeps.dataset ∙ kind in
        let v = of_kind s.index same in
        let rest = array_rests s log r now none v.0 v.1 in
        record {
          map = rest.map;
          each = λ key low there.
              let looked : IsReached (an_array v.0) key = subst (λ (w : IndexView). IsReached w key) v.1 (r.past.reach more key low there) in
              omega (arith, looked, ap (λ l. get_or l 4 0) rest.six);
        }
    -- an index that the file lacks has no chunk
    go r (inr lacks) = record {
      map = subst (λ (d : Described). IsMap (image_now log) d (λ key. address_in s.index key)) r.keeps.dataset
          (record { blocks = r.knows.index.blocks; read = r.knows.index.read; answers = λ key named. r.knows.index.answers key named ∙ ap (λ (a : ℕ). Ok a) (lacks.map key) });
      each = λ key low there. absurd (there (blank_none s.index lacks.blank key));
    }
