use Rattle.std.proofs.Common.{ap, sym, ◌∙◌}
use Rattle.std.specs.Option.{option_copied}
use Rattle.h5w_links.proofs.Named.{found_by, none_found, hard_found, other_found}
use Rattle.h5w_links.proofs.finding.find.Goals as goal

pub returns-in_default : goal.returns-in_default
returns-in_default c =
    let found = found_by c.as_slice.result.now c.args.links.now c.args.name.now (option_copied c.named.result) c.as_slice.ensures c.named.ensures in
    record { exact = sym (found ∙ none_found (option_copied c.named.result) (ap option_copied c.in_default.is)) }

pub returns-then-link-ne0 : goal.returns-then-link-ne0
returns-then-link-ne0 c =
    let found = found_by c.as_slice.result.now c.args.links.now c.args.name.now (option_copied c.named.result) c.as_slice.ensures c.named.ensures in
    record { exact = sym (found ∙ other_found (option_copied c.named.result) c.in-Some.link.now (ap option_copied c.in-Some.is) c.if-link-ne0.true) }

pub returns : goal.returns
returns c =
    let found = found_by c.as_slice.result.now c.args.links.now c.args.name.now (option_copied c.named.result) c.as_slice.ensures c.named.ensures in
    record { exact = sym (found ∙ hard_found (option_copied c.named.result) c.in-Some.link.now (ap option_copied c.in-Some.is) c.if-link-ne0.false) }
