-- A session's log is one that readers can poll.
use Rattle.std.proofs.Common.{◌≡◌, ◌≤◌, ◌+◌, ◌/◌, ℕ, List, [], ◌∷◌, ap, refl, arith}
use Rattle.h5w_model.specs.Datasets.{root_header, root_view}
use Rattle.h5w_model.specs.Prefixed.{image_at, root_address}
use Rattle.h5w_model.specs.Programs.{Visit, visits}
use Rattle.h5w_model.specs.Tables.{limit_of}
use Rattle.h5w_model.specs.Logs.{Log}
use Rattle.h5w_reader_laws.specs.Bounds.{looks_in}
use Rattle.h5w_script_laws.specs.Premises.{LogHolds}
use Rattle.h5w_writer.specs.Past.{IsNew}
use Rattle.h5w_writer.specs.Sessions.{chunk_limit}
use Rattle.h5w_writer.specs.Stands.{Stands}
use Rattle.h5w_writer.proofs.LawLemmas.{shown_laws, standing_laws}
use Rattle.h5w_core.specs.Worlds.{WorldView, polling_of}
use Rattle.h5w_core.proofs.StateLemmas.{columns_of, some_columns}

-- a reader takes the chunks that a session's index has
limit_is : (w : WorldView) → chunk_limit w.session ≤ limit_of (polling_of w).limits w.session.dataset.layout.index
limit_is w = let same : limit_of (polling_of w).limits w.session.dataset.layout.index ≡ chunk_limit w.session = refl in omega (arith, same)

first_is : (v w : Visit) (vs ws : List Visit) → v ∷ vs ≡ w ∷ ws → v ≡ w
first_is v w vs ws e = cc

-- a root header that is shown by one look takes no more
one_look : (img : List ℕ) (root : ℕ) (v : Visit) → visits img (root_header root) ≡ v ∷ [] → looks_in (visits img (root_header root)) ≤ 2
one_look img root v one =
    let first : Visit = record { place = root; len = 512; counts = root_view } in
    let long : 1 ≡ (v.len + 511) / 512 = ap (λ (w : Visit). (w.len + 511) / 512) (first_is first v _ [] one) in
    let looks : looks_in (visits img (root_header root)) ≡ (v.len + 511) / 512 + 0 = ap looks_in one in
    omega (arith, long, looks)

pub log_holds : (w : WorldView) (log : Log) → 1 ≤ w.attempts → Stands w.session log → IsNew log → LogHolds (polling_of w) log
log_holds w log tries stands new =
    let s = w.session in
    record {
      served = record {
        prefixed = standing_laws.prefixed s log stands;
        held = standing_laws.held s log stands;
        fits = λ p at. omega (arith, shown_laws.fits s log p stands new at, standing_laws.limited s log stands);
      };
      within = λ p r at shows. shown_laws.within s log (polling_of w).limits p r stands new (limit_is w) at shows;
      headers = record {
        root = λ p at. let one = shown_laws.root_header s log p stands new at in one_look (image_at log p) (root_address (image_at log p)) one.0 one.1;
        dataset = λ p r at shows. shown_laws.dataset_header s log p r stands new at shows;
      };
      cut = λ p r at shows.
          let d = shown_laws.dataset s log p r stands new at shows in
          record {
            chunk_rows = d.chunk_rows;
            chunk_columns = d.chunk_columns;
            value_size = ap (λ t. t.size) d.int_type;
            addressed = λ k below. shown_laws.addressed s log p r stands new at shows k below;
          };
      columns = columns_of s log stands;
      some_columns = some_columns s log stands;
      some_attempts = tries;
    }
