use Rattle.std.proofs.Common.{◌≡◌, ◌+◌, ◌∙◌, length, take, drop, replicate, ℕ, List, ap, sym, subst}
use Rattle.std.proofs.lemmas.List.{take_at}
use Rattle.std.specs.Result.{IfOk}
use Rattle.h5w_model.specs.Links.{link_bytes, link_message_kind}
use Rattle.h5w_step_laws.specs.Spelled.{message}
use Rattle.h5w_creation_laws.proofs.SizeLemmas.{length_link}
use Rattle.h5w_creation.proofs.headers.link_message.Goals as goal

pub returns : goal.returns
returns c =
    let name = c.args.name.now in
    let bytes = link_bytes name c.args.address in
    let rest = drop (11 + length name) (replicate 266 0) in
    let size : length bytes ≡ c.encode_link-len.result = length_link name c.args.address ∙ sym c.encode_link-len.ensures.length in
    let taken : take c.encode_link-len.result c.encode_link-len.new.out ≡ bytes =
    ap (take c.encode_link-len.result) c.encode_link-len.ensures.spelled ∙ take_at bytes rest c.encode_link-len.result size in
    subst (λ (b : List ℕ). IfOk c.message.result (λ m. m ≡ message link_message_kind b)) taken c.message.ensures
