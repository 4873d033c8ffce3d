-- The header piece of a flush as a safe step.
use Rattle.std.proofs.Common.{◌≡◌, ◌*◌, ◌<◌, Some, None, refl, ap, sym, ◌∙◌, subst}
use Rattle.h5w_model.specs.Datasets.{Described}
use Rattle.h5w_step_laws.specs.Needed.{AreFew}
use Rattle.h5w_step_laws.proofs.WriterLaws.{growing_commits, starting_commits}
use Rattle.h5w_step_laws.specs.Files.{commit_at, HeaderCommits}
use Rattle.h5w_step_laws.specs.HeaderSteps.{grown, GrowingStep, started, StartingStep}
use Rattle.h5w_step_laws.proofs.FileLaws.{growing_header, starting_header}

pub growing_step : GrowingStep
growing_step img name m held rows addresses more r rises small few found count cells =
    let h = growing_header img name m rows r small few in
    growing_commits img name m held (commit_at img m.place rows None) (grown m rows addresses more) r (record {
      more = more;
      is = refl;
      inside = h.inside;
      header = h.header;
      chunk_0 = h.chunk_0;
      shape = refl;
      rises = rises;
      table = found;
      count = count;
      cells = cells;
    })

pub starting_step : StartingStep
starting_step img name m held rows index d fixed behind addresses more r is none own rises small_rows small few visited placed apart found count cells =
    let h : HeaderCommits img m (commit_at img m.place rows (Some index)) d =
    subst (λ (x : Described). HeaderCommits img m (commit_at img m.place rows (Some index)) x) (sym is)
    (starting_header img name m rows index r none own small_rows small (subst (λ (x : Described). AreFew x) is few)) in
    let as_rows : d.shape.rows ≡ rows = ap (λ (x : Described). x.shape.rows) is in
    let as_cols : d.shape.cols ≡ m.dataset.shape.cols = ap (λ (x : Described). x.shape.cols) is in
    starting_commits img name m held (commit_at img m.place rows (Some index)) (started m d fixed behind addresses more) r (record {
      more = more;
      is = refl;
      inside = h.inside;
      header = h.header;
      chunk_0 = h.chunk_0;
      undefined_before = none;
      described = h.described;
      rises = subst (λ n. m.dataset.shape.rows < n) (sym as_rows) rises;
      index = visited;
      fixed = placed;
      apart = apart;
      table = found;
      count = count ∙ (λ i. sym as_rows i * sym as_cols i);
      cells = cells;
    })
