use Rattle.std.proofs.Common.{◌≡◌, ◌∙◌, ℕ, List, Result, Err, rules}
use Rattle.h5w_model.specs.Datasets.{then_also}
use Rattle.h5w_model.specs.Findings.{Used, Finding, chunk_ranges, first_visits, second_visits}
use Rattle.h5w_ea.specs.Fields.{eaib_of}
use Rattle.h5w_check.specs.Blocks.{index_found}
use Rattle.h5w_check.specs.Ranges.{after}
use Rattle.h5w_headers.proofs.RanLemmas.{ran_on, ran_refused, ran_then_stop, step_ok, step_err}
use Rattle.h5w_check.proofs.ArrayLemmas.{run, index_there, index_rest}
use Rattle.h5w_check.proofs.array.index_block.Goals as goal

pub returns-in_err-e : goal.returns-in_err-e
returns-in_err-e g c =
    let a = c.args in
    let pair : List ℕ × List Used = (c.in_ok-b.b.items, c.block.new.ranges) in
    let told = rw c.deref.ensures.value at c.in_err-e.ensures in
    let is : c.from_residual-in_err-e.result ≡ Err c.in_err-e.field-0.0 = search rules in
    rw is (ran_refused _ pair (index_found a.at c.in_ok-b.b.items) c.in_err-e.field-0.0 _ c.in_ok-b.ensures.ran told (λ img f said gone.
    index_there img a.ranges.now a.bounds.now.end a.bounds.now.chunk a.at
    ∙ step_ok _ pair (λ x. then_also (index_found a.at x.0) (index_rest img a.bounds.now.end a.bounds.now.chunk x.1)) said ∙ step_err _ f _ gone))

pub returns-in_err-put_chunks : goal.returns-in_err-put_chunks
returns-in_err-put_chunks g c =
    let a = c.args in
    let pair : List ℕ × List Used = (c.in_ok-b.b.items, c.block.new.ranges) in
    let told = rw c.deref.ensures.value at c.in_ok-e.ensures in
    let is : c.from_residual-in_err-put_chunks.result ≡ Err c.in_err-put_chunks.field-0.0 = search rules in
    rw is (ran_refused _ pair (after c.block.new.ranges (chunk_ranges a.bounds.now.end a.bounds.now.chunk c.in_ok-e.e.slots)) c.in_err-put_chunks.field-0.0 _ c.in_ok-b.ensures.ran c.in_err-put_chunks.ensures (λ img f said gone.
    index_there img a.ranges.now a.bounds.now.end a.bounds.now.chunk a.at
    ∙ step_ok _ pair (λ x. then_also (index_found a.at x.0) (index_rest img a.bounds.now.end a.bounds.now.chunk x.1)) said
    ∙ step_ok _ (eaib_of c.in_ok-e.e) (index_rest img a.bounds.now.end a.bounds.now.chunk c.block.new.ranges) told.exact
    ∙ step_err _ f _ gone))

pub returns-in_err-first_blocks : goal.returns-in_err-first_blocks
returns-in_err-first_blocks g c =
    let a = c.args in
    let pair : List ℕ × List Used = (c.in_ok-b.b.items, c.block.new.ranges) in
    let told = rw c.deref.ensures.value at c.in_ok-e.ensures in
    let is : c.from_residual-in_err-first_blocks.result ≡ Err c.in_err-first_blocks.field-0.0 = search rules in
    rw is (ran_then_stop _ pair _ c.in_err-first_blocks.field-0.0 _ c.in_ok-b.ensures.ran c.in_err-first_blocks.ensures (λ img f said gone.
    index_there img a.ranges.now a.bounds.now.end a.bounds.now.chunk a.at
    ∙ step_ok _ pair (λ x. then_also (index_found a.at x.0) (index_rest img a.bounds.now.end a.bounds.now.chunk x.1)) said
    ∙ step_ok _ (eaib_of c.in_ok-e.e) (index_rest img a.bounds.now.end a.bounds.now.chunk c.block.new.ranges) told.exact
    ∙ step_ok _ c.put_chunks.new.self _ c.in_ok-put_chunks.ensures.exact ∙ step_err _ f _ gone))

pub returns : goal.returns
returns g c =
    let a = c.args in
    let pair : List ℕ × List Used = (c.in_ok-b.b.items, c.block.new.ranges) in
    let told = rw c.deref.ensures.value at c.in_ok-e.ensures in
    let first : List ℕ → Result (List Used) Finding = λ img. run img c.put_chunks.new.self (first_visits a.bounds.now.end a.bounds.now.chunk 0 c.in_ok-e.e.first) in
    let second : List ℕ → List Used → Result (List Used) Finding = λ img more. run img more (second_visits a.bounds.now.end a.bounds.now.chunk 4 c.in_ok-e.e.second) in
    ran_on _ pair (λ img. then_also (first img) (second img)) _ _ c.in_ok-b.ensures.ran
    (ran_on first c.first_blocks.new.ranges (λ img. second img c.first_blocks.new.ranges) (λ img. then_also (first img) (second img)) _ c.in_ok-first_blocks.ensures c.second_blocks.ensures (λ img said. step_ok (first img) c.first_blocks.new.ranges (second img) said))
    (λ img said.
    index_there img a.ranges.now a.bounds.now.end a.bounds.now.chunk a.at
    ∙ step_ok _ pair (λ x. then_also (index_found a.at x.0) (index_rest img a.bounds.now.end a.bounds.now.chunk x.1)) said
    ∙ step_ok _ (eaib_of c.in_ok-e.e) (index_rest img a.bounds.now.end a.bounds.now.chunk c.block.new.ranges) told.exact
    ∙ step_ok _ c.put_chunks.new.self _ c.in_ok-put_chunks.ensures.exact)
