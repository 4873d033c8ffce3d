use Rattle.std.proofs.Common.{◌≡◌, ℕ, ◌+◌, ◌^◌, ◌≤◌, [], ◌∷◌, ◌∙◌, Err, Some, None, refl, ap, subst, arith, rules}
use Rattle.h5w_cache.specs.Blocks.{BlockView}
use Rattle.h5w_array_laws.specs.Parts.{index_block}
use Rattle.h5w_ea_index.specs.Opened.{IfDamaged, refusal_of, refused_on}
use Rattle.h5w_model.specs.declared.refusal.BlockFault.TheVariants.{Cut}
use Rattle.h5w_ea_index.proofs.CreateLemmas.{links_fit}
use Rattle.h5w_ea_index.proofs.DecodedLemmas.{sound_block}
use Rattle.h5w_ea_index.proofs.OpenedLemmas.{as_read, index_long, loads_quiet, read_inside, read_there}
use Rattle.h5w_ea_index.proofs.open.index_block_at.Goals as goal

pub returns-in_err-check_index-clause-loads : goal.returns-in_err-check_index-clause-loads
returns-in_err-check_index-clause-loads g c =
    let at : ℕ = c.args.at in
    let is : c.from_residual-in_err-check_index.result ≡ Err c.in_err-check_index.field-0.0 = search rules in
    rw is (loads_quiet (λ img a f. (a ≡ at) × (refused_on img index_block at ≡ Some f)) (λ a f. (a ≡ at) × (refusal_of index_block c.in_ok-bytes.bytes.items at ≡ Some f)) c.in_err-check_index.field-0.0 c.bytes_at.ensures.looked
    c.in_err-check_index.ensures.quiet
    (λ img still a f h. (h.0, as_read img at 298 index_block c.in_ok-bytes.bytes.items refl (c.in_ok-bytes.ensures.exact img still) (Some f) h.1))
    (subst (λ b. IfDamaged c.in_err-check_index.field-0.0 (λ a f. (a ≡ c.args.at) × (refusal_of index_block b c.args.at ≡ Some f))) c.deref.ensures.value c.in_err-check_index.ensures.refused))

pub returns-in_err-check_end-clause-loads : goal.returns-in_err-check_end-clause-loads
returns-in_err-check_end-clause-loads g c =
    let at : ℕ = c.args.at in
    let n : refusal_of index_block c.in_ok-bytes.bytes.items c.args.at ≡ None = subst (λ b. refusal_of index_block b c.args.at ≡ None) c.deref.ensures.value c.in_ok-check_index.ensures.sound in
    let is : c.from_residual-in_err-check_end.result ≡ Err c.in_err-check_end.field-0.0 = search rules in
    rw is (loads_quiet (λ img a f. (a ≡ at) × (refused_on img index_block at ≡ Some f)) (λ a f. (a ≡ at) × ((f ≡ Cut 298 0) × (2 ^ 64 ≤ at + 298))) c.in_err-check_end.field-0.0 c.bytes_at.ensures.looked c.in_err-check_end.ensures.quiet
    (λ img still a f h. let t = read_inside img at 298 index_block c.in_ok-bytes.bytes.items refl (c.in_ok-bytes.ensures.exact img still) still.short n in let far = h.1.1 in absurd (omega arith))
    c.in_err-check_end.ensures.damaged)

pub new-requires-clause-inside : goal.new-requires-clause-inside
new-requires-clause-inside g c =
    let n : refusal_of index_block c.in_ok-bytes.bytes.items c.args.at ≡ None = subst (λ b. refusal_of index_block b c.args.at ≡ None) c.deref.ensures.value c.in_ok-check_index.ensures.sound in
    let long = index_long c.in_ok-bytes.bytes.items c.args.at n in
    let few = c.in_ok-bytes.ensures.few in
    links_fit 46 (0 ∷ 65 ∷ 130 ∷ 131 ∷ 195 ∷ 196 ∷ 324 ∷ 389 ∷ 454 ∷ 519 ∷ 584 ∷ 649 ∷ 714 ∷ 779 ∷ 844 ∷ []) c.in_ok-bytes.bytes.items c.in_ok-links.links.items 298 c.in_ok-links.ensures (omega arith) (omega arith)

pub new-requires-clause-high : goal.new-requires-clause-high
new-requires-clause-high g c =
    let n : refusal_of index_block c.in_ok-bytes.bytes.items c.args.at ≡ None = subst (λ b. refusal_of index_block b c.args.at ≡ None) c.deref.ensures.value c.in_ok-check_index.ensures.sound in
    index_long c.in_ok-bytes.bytes.items c.args.at n

pub returns-clause-sound : goal.returns-clause-sound
returns-clause-sound g c =
    let n : refusal_of index_block c.in_ok-bytes.bytes.items c.args.at ≡ None = subst (λ b. refusal_of index_block b c.args.at ≡ None) c.deref.ensures.value c.in_ok-check_index.ensures.sound in
    let long = index_long c.in_ok-bytes.bytes.items c.args.at n in
    let few = c.in_ok-bytes.ensures.few in
    sound_block index_block c.new.result c.in_ok-bytes.bytes.items c.args.at (ap (λ (b : BlockView). b.bytes) c.new.ensures) (omega arith) n
    (ap (λ (b : BlockView). b.links) c.new.ensures ∙ c.in_ok-links.ensures) (ap (λ (b : BlockView). b.turn) c.new.ensures ∙ c.from-turn.ensures) (ap (λ (b : BlockView). b.in_place) c.new.ensures) (ap (λ (b : BlockView). b.sealed) c.new.ensures)

pub returns-clause-stands : goal.returns-clause-stands
returns-clause-stands g c = λ img still.
    let n : refusal_of index_block c.in_ok-bytes.bytes.items c.args.at ≡ None = subst (λ b. refusal_of index_block b c.args.at ≡ None) c.deref.ensures.value c.in_ok-check_index.ensures.sound in
    read_there img c.args.at 298 index_block c.in_ok-bytes.bytes.items refl (c.in_ok-bytes.ensures.exact img still) c.new.result (ap (λ (b : BlockView). b.bytes) c.new.ensures) n c.in_ok-bytes.ensures.few
