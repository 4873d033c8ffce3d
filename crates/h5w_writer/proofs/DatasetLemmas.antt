-- What pieces leave of the dataset that a file shows, but for its rows and its index's address.
use Rattle.std.proofs.Common.{◌≡◌, ℕ, List, [], ◌∷◌, refl, sym, ap, ◌∙◌, subst}
use Rattle.h5w_model.specs.Images.{apply}
use Rattle.h5w_model.specs.Datasets.{Described}
use Rattle.h5w_model.specs.Findings.{Used}
use Rattle.h5w_model.specs.Prefixed.{SameDescribed}
use Rattle.h5w_model.specs.Tables.{Reading, needed}
use Rattle.h5w_model.specs.declared.piece.Write.{Write}
use Rattle.h5w_laws.proofs.StaysLemmas.{described_itself, described_onward}
use Rattle.h5w_step_laws.specs.Moments.{Moment, Represents}
use Rattle.h5w_step_laws.specs.Plans.{Flush}
use Rattle.h5w_step_laws.proofs.StepRepresents.{step_represents}
use Rattle.h5w_step_laws.proofs.StepStays.{step_follows}
use Rattle.h5w_writer.specs.Laws.{IsDatasetOf}
use Rattle.h5w_writer.specs.Sessions.{Session, with_rows}

-- the header stands where it stood, and says the same but for rows and address
pub record SameSet (m n : Moment) : Type 0 where
  pub place : n.place ≡ m.place
  pub described : SameDescribed m.dataset n.dataset

-- from a moment to that to which a flush leads
pub flush_keeps : (img name : List ℕ) (m n : Moment) (held after : List Used) (ws : List Write) → Represents img name m → Flush img m held ws n after → SameSet m n
flush_keeps img name m n held after [] r f = subst (λ (x : Moment). SameSet m x) (sym f.0) (record { place = refl; described = described_itself m.dataset })
flush_keeps img name m n held after (w ∷ ws) r f =
    let one = step_follows img name m held w f.0 f.1 r f.2 in
    let rest = flush_keeps (apply w img) name f.0 n f.1 after ws (step_represents img name m held w f.0 f.1 r f.2) f.4 in
    record { place = rest.place ∙ one.place; described = described_onward m.dataset f.0.dataset n.dataset one.described rest.described }

-- so what a reading says is what the session's dataset says
pub dataset_of : (s : Session) (r : Reading) → s.place ≡ r.place → SameDescribed r.dataset s.dataset → IsDatasetOf s r
dataset_of s r place d =
    let same = sym d.rows_alone in
    record {
      place = sym place;
      rank = ap (λ (x : Described). x.shape.rank) same;
      columns = ap (λ (x : Described). x.shape.cols) same;
      growing = ap (λ (x : Described). x.shape.growing) same;
      int_type = ap (λ (x : Described). x.int_type) same;
      fill = ap (λ (x : Described). x.fill) same;
      index = ap (λ (x : Described). x.layout.index) same;
      chunk_rows = ap (λ (x : Described). x.layout.chunk_rows) same;
      chunk_columns = ap (λ (x : Described). x.layout.chunk_cols) same;
      needed = ap (λ (x : Described). needed (with_rows r.dataset.shape.rows x)) same;
    }
