use Rattle.std.proofs.Common.{rules, ◌≡◌, ◌∙◌, ◌<◌, ◌^◌, List, ℕ, map, pos, sum, sym, subst, arith, length}
use Rattle.h5w_writer.proofs.StateLemmas.{some_is}
use Rattle.h5w_make.specs.Commands.{batches}
use Rattle.h5w_make.specs.Generators.{numbers}
use Rattle.h5w_make.specs.Readings.{IsReadable}
use Rattle.h5w_make.proofs.GeneratorLemmas.{length_numbers, sum_bound}
use Rattle.h5w_make.proofs.MadeLemmas.{made_is, readable_numbers, valid}
use Rattle.h5w_make.proofs.made.make.Goals as goal

pub blocks-requires : goal.blocks-requires
blocks-requires c =
    let w = c.in_ok-image in
    valid (batches c.args.seed c.args.n) w.ensures.0 w.image w.ensures.1

pub read_back-requires : goal.read_back-requires
read_back-requires c =
    let w = c.in_ok-image in
    let ns = numbers c.args.seed c.args.n in
    let bytes = sym (some_is c.blocks-2.new.image.bytes w.image.bytes c.blocks-2.ensures.image.bytes) in
    let there = subst (λ (img : List ℕ). IsReadable img (map pos ns)) bytes (readable_numbers c.args.n c.args.seed w.ensures.0 w.image w.ensures.1) in
    let small : sum ns < 2 ^ 64 = omega (arith, sum_bound c.args.seed c.args.n, c.requires) in
    (ns, there, small)

pub returns : goal.returns
returns c =
    let w = c.in_ok-image in
    let bs = batches c.args.seed c.args.n in
    let ns = numbers c.args.seed c.args.n in
    let bytes = sym (some_is c.blocks-2.new.image.bytes w.image.bytes c.blocks-2.ensures.image.bytes) in
    let there = subst (λ (img : List ℕ). IsReadable img (map pos ns)) bytes (readable_numbers c.args.n c.args.seed w.ensures.0 w.image w.ensures.1) in
    let whole = valid bs w.ensures.0 w.image w.ensures.1 in
    let pieces : c.len-pieces.result ≡ length w.image.history = search rules in
    made_is c.args.n c.args.seed w.ensures.0 w.image (record { rows = c.in_ok-rows.rows; sum = c.in_ok-rows.sum; pieces = c.len-pieces.result; blocks = c.in_ok-blocks.blocks }) w.ensures.1
    (c.in_ok-rows.ensures.rows ns there ∙ length_numbers c.args.seed c.args.n) (c.in_ok-rows.ensures.sum ns there) pieces (c.in_ok-blocks.ensures.blocks whole.0 whole.1)
