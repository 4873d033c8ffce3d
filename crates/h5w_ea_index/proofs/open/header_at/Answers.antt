use Rattle.std.proofs.Common.{◌≡◌, ℕ, ◌+◌, ◌^◌, ◌≤◌, [], ◌∷◌, ◌∙◌, Err, Some, refl, sym, ap, subst, arith, rules}
use Rattle.h5w_model.specs.Numbers.{field}
use Rattle.h5w_cache.specs.Blocks.{BlockView}
use Rattle.h5w_array_laws.specs.Parts.{header}
use Rattle.h5w_ea_index.specs.Opened.{IfDamaged, IsHeaderAt, NamesBlock, refusal, refusal_of, refused_on}
use Rattle.h5w_model.specs.declared.refusal.BlockFault.TheVariants.{Cut}
use Rattle.h5w_ea_index.proofs.CreateLemmas.{links_fit}
use Rattle.h5w_ea_index.proofs.DecodedLemmas.{sound_block}
use Rattle.h5w_ea_index.proofs.OpenedLemmas.{as_read, header_there, loads_quiet, named_field, named_long, read_inside}
use Rattle.h5w_ea_index.proofs.open.header_at.Goals as goal

pub returns-in_err-place-clause-loads : goal.returns-in_err-place-clause-loads
returns-in_err-place-clause-loads g c =
    let e = c.in_err-place.field-0.0 in
    let at : ℕ = c.args.at in
    let is : c.from_residual-in_err-place.result ≡ Err c.in_err-place.field-0.0 = search rules in
    rw is (loads_quiet (λ img a f. (a ≡ at) × (refused_on img header at ≡ Some f)) (λ a f. (a ≡ at) × (refusal_of header c.in_ok-bytes.bytes.items at ≡ Some f)) c.in_err-place.field-0.0 c.bytes_at.ensures.looked c.in_err-place.ensures.quiet
    (λ img still a f h. (h.0, as_read img at 72 header c.in_ok-bytes.bytes.items refl (c.in_ok-bytes.ensures.exact img still) (Some f) h.1))
    (subst (λ b. IfDamaged c.in_err-place.field-0.0 (λ a f. (a ≡ c.args.at) × (refusal_of header b c.args.at ≡ Some f))) c.deref.ensures.value c.in_err-place.ensures.refused))

pub returns-in_err-check_end-clause-loads : goal.returns-in_err-check_end-clause-loads
returns-in_err-check_end-clause-loads g c =
    let at : ℕ = c.args.at in
    let n : NamesBlock c.in_ok-bytes.bytes.items c.args.at c.in_ok-place.place = subst (λ b. NamesBlock b c.args.at c.in_ok-place.place) c.deref.ensures.value c.in_ok-place.ensures.read in
    let is : c.from_residual-in_err-check_end.result ≡ Err c.in_err-check_end.field-0.0 = search rules in
    rw is (loads_quiet (λ img a f. (a ≡ at) × (refused_on img header at ≡ Some f)) (λ a f. (a ≡ at) × ((f ≡ Cut 72 0) × (2 ^ 64 ≤ at + 72))) c.in_err-check_end.field-0.0 c.bytes_at.ensures.looked c.in_err-check_end.ensures.quiet
    (λ img still a f h. let t = read_inside img at 72 header c.in_ok-bytes.bytes.items refl (c.in_ok-bytes.ensures.exact img still) still.short (ap refusal n.read) in let far = h.1.1 in absurd (omega arith))
    c.in_err-check_end.ensures.damaged)

pub new-block-requires-clause-inside : goal.new-block-requires-clause-inside
new-block-requires-clause-inside g c =
    let n : NamesBlock c.in_ok-bytes.bytes.items c.args.at c.in_ok-place.place = subst (λ b. NamesBlock b c.args.at c.in_ok-place.place) c.deref.ensures.value c.in_ok-place.ensures.read in
    let long = named_long c.in_ok-bytes.bytes.items c.args.at c.in_ok-place.place n in
    let few = c.in_ok-bytes.ensures.few in
    links_fit 60 (845 ∷ []) c.in_ok-bytes.bytes.items c.in_ok-links.links.items 72 c.in_ok-links.ensures (omega arith) (omega arith)

pub new-block-requires-clause-high : goal.new-block-requires-clause-high
new-block-requires-clause-high g c =
    let n : NamesBlock c.in_ok-bytes.bytes.items c.args.at c.in_ok-place.place = subst (λ b. NamesBlock b c.args.at c.in_ok-place.place) c.deref.ensures.value c.in_ok-place.ensures.read in
    named_long c.in_ok-bytes.bytes.items c.args.at c.in_ok-place.place n

pub returns-clause-sound : goal.returns-clause-sound
returns-clause-sound g c =
    let n : NamesBlock c.in_ok-bytes.bytes.items c.args.at c.in_ok-place.place = subst (λ b. NamesBlock b c.args.at c.in_ok-place.place) c.deref.ensures.value c.in_ok-place.ensures.read in
    let long = named_long c.in_ok-bytes.bytes.items c.args.at c.in_ok-place.place n in
    let few = c.in_ok-bytes.ensures.few in
    sound_block header c.new-block.result c.in_ok-bytes.bytes.items c.args.at (ap (λ (b : BlockView). b.bytes) c.new-block.ensures) (omega arith) (ap refusal n.read)
    (ap (λ (b : BlockView). b.links) c.new-block.ensures ∙ c.in_ok-links.ensures) (ap (λ (b : BlockView). b.turn) c.new-block.ensures ∙ c.from-turn.ensures) (ap (λ (b : BlockView). b.in_place) c.new-block.ensures) (ap (λ (b : BlockView). b.sealed) c.new-block.ensures)

pub returns-clause-names : goal.returns-clause-names
returns-clause-names g c =
    let n : NamesBlock c.in_ok-bytes.bytes.items c.args.at c.in_ok-place.place = subst (λ b. NamesBlock b c.args.at c.in_ok-place.place) c.deref.ensures.value c.in_ok-place.ensures.read in
    ap (λ (b : BlockView). field b.bytes 60 8) c.new-block.ensures ∙ named_field c.in_ok-bytes.bytes.items c.args.at c.in_ok-place.place n

pub returns-clause-stands : goal.returns-clause-stands
returns-clause-stands g c = λ img still.
    let n : NamesBlock c.in_ok-bytes.bytes.items c.args.at c.in_ok-place.place = subst (λ b. NamesBlock b c.args.at c.in_ok-place.place) c.deref.ensures.value c.in_ok-place.ensures.read in
    let long = named_long c.in_ok-bytes.bytes.items c.args.at c.in_ok-place.place n in
    let few = c.in_ok-bytes.ensures.few in
    subst (λ b. IsHeaderAt img c.args.at b c.in_ok-place.place) (sym (ap (λ (b : BlockView). b.bytes) c.new-block.ensures))
    (header_there img c.args.at c.in_ok-place.place c.in_ok-bytes.bytes.items n (omega arith) (c.in_ok-bytes.ensures.exact img still))
