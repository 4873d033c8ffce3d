-- What a valid file shows: its chunks stand in it whole.
use Rattle.std.proofs.Common.{ℕ, List, [], ◌++◌, get_or, length, sym, ◌∙◌, subst, arith}
use Rattle.std.proofs.lemmas.Bool.{ltb-false}
use Rattle.std.proofs.lemmas.List.FromFn.{length-map-range_with_len}
use Rattle.h5w_model.specs.Numbers.{range, undefined}
use Rattle.h5w_model.specs.Tables.{format_limits, index_key, limit_of, needed}
use Rattle.h5w_model.specs.Findings.{chunk_bytes}
use Rattle.h5w_laws.proofs.AnswerLemmas.{same_ok}
use Rattle.h5w_step_laws.specs.Ranges.{Among, chunk_at}
use Rattle.h5w_step_laws.proofs.HeaderLaws.{header_tells}
use Rattle.h5w_step_laws.proofs.NeededLaws.{table_any}
use Rattle.h5w_step_laws.proofs.RangeLemmas.{among_right}
use Rattle.h5w_step_laws.specs.Moments.{Moment, reading_of}
use Rattle.h5w_step_laws.proofs.FoundLemmas.{Bare, bare_opened, bare_shows, valid_opened}
use Rattle.h5w_step_laws.proofs.MomentLemmas.{super_parts}
use Rattle.h5w_packing_laws.specs.Sources.{IsSource, ValidSource}

of_moment : (img name : List ℕ) (m : Moment) → Bare img name m → IsSource img (reading_of m)
of_moment img name m bare =
    let header = header_tells img format_limits m.super m.place m.dataset m.header bare.header in
    let table = table_any img m.super.end m.dataset m.fixed m.behind m.table bare.index header.few bare.table in
    let inside = (super_parts (length img) (range img 0 48) m.super bare.super).inside in
    record {
      few = ltb-false (limit_of format_limits m.dataset.layout.index) (needed m.dataset) header.few;
      listed = table.listed ∙ length-map-range_with_len (index_key m.dataset) 0 (needed m.dataset);
      rows = header.sized.rows;
      cols = header.sized.cols;
      size = header.sized.size;
      some = header.sized.bytes;
      chunks = λ n there.
          let u = chunk_at (get_or m.table n undefined) (chunk_bytes m.dataset) in
          let here : Among u (m.fixed ++ m.behind) = among_right u m.fixed m.behind (table.chunks n there) in
          omega (arith, bare.index.ends u here, inside);
    }

pub valid_source : ValidSource
valid_source img name s r valid shows = go (bare_opened img name [] (valid_opened img name s valid)).0 (bare_opened img name [] (valid_opened img name s valid)).1
  where
    go : (m : Moment) → Bare img name m → IsSource img r
    go m bare = subst (IsSource img) (sym (same_ok _ r (reading_of m) shows (bare_shows img name m bare))) (of_moment img name m bare)
