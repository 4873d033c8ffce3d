use Rattle.std.proofs.Common.{◌≡◌, ℕ, ◌+◌, ◌^◌, ◌<◌, ◌≤◌, List, Option, Some, None, Bor, length, arith, sym, ◌∙◌}
use Rattle.std.specs.Option.{IfSome}
use Rattle.h5w_ohdr.proofs.Parts.{is_read, is_begun, data_in_header-read, listed_inside}
use Rattle.h5w_ohdr.proofs.rows.data_of.Goals as goal

pub returns-in_default-clause-found : goal.returns-in_default-clause-found
returns-in_default-clause-found c = absurd (is_begun c.args.chunk.now c.requires c.in_default.field-0 (sym c.prefix.ensures.exact ∙ c.in_default.is))

pub inside-bytes-requires : goal.inside-bytes-requires
inside-bytes-requires c =
    let h = is_read c.args.chunk.now c.in-Ok.p c.requires (sym c.prefix.ensures.exact ∙ c.in-Ok.is) in
    let long = h.1.long in
    omega arith

pub returns-in-Ok-first-clause-found : goal.returns-in-Ok-first-clause-found
returns-in-Ok-first-clause-found c =
    let h = is_read c.args.chunk.now c.in-Ok.p c.requires (sym c.prefix.ensures.exact ∙ c.in-Ok.is) in
    let listed = listed_inside c.args.chunk.now c.in-Ok.p h.0 c.inside-bytes.result.now c.before_data.result h.1 c.inside-bytes.ensures.bytes c.inside-bytes.ensures.length c.before_data.ensures.exact in
    c.in-Ok-first.ensures.found h.0 listed
    ∙ data_in_header-read c.args.chunk.now c.in-Ok.p c.args.kind c.before_data.result h.0 h.1 c.before_data.ensures.exact

within : (at len end : ℕ) (x : Option (ℕ × Bor (List ℕ))) → at + len + 4 ≡ end → IfSome x (λ y. y.0 + length y.1.now ≤ at + len) → IfSome x (λ y. y.0 + length y.1.now + 4 ≤ end)
within at len end None e h = tt
within at len end (Some y) e h = omega arith

pub returns-in-Ok-first-clause-inside : goal.returns-in-Ok-first-clause-inside
returns-in-Ok-first-clause-inside c =
    let h = is_read c.args.chunk.now c.in-Ok.p c.requires (sym c.prefix.ensures.exact ∙ c.in-Ok.is) in
    let len = c.inside-bytes.ensures.length in
    let inside = rw len at c.in-Ok-first.ensures.inside in
    within c.in-Ok.p.at c.in-Ok.p.len _ c.in-Ok-first.found h.1.end inside

fits : (at len end : ℕ) (x : Option (ℕ × Bor (List ℕ))) → at + len < end → IfSome x (λ y. y.0 + length y.1.now ≤ at + len) → IfSome x (λ y. y.0 + length y.1.now < end)
fits at len end None e h = tt
fits at len end (Some y) e h = omega arith

pub returns-in-Ok-first-clause-fits : goal.returns-in-Ok-first-clause-fits
returns-in-Ok-first-clause-fits c =
    let h = is_read c.args.chunk.now c.in-Ok.p c.requires (sym c.prefix.ensures.exact ∙ c.in-Ok.is) in
    let end = h.1.end in
    let long = h.1.long in
    let len = c.inside-bytes.ensures.length in
    let inside = rw len at c.in-Ok-first.ensures.inside in
    fits c.in-Ok.p.at c.in-Ok.p.len (2 ^ 64) c.in-Ok-first.found (omega arith) inside

pub returns-in-Err-clause-found : goal.returns-in-Err-clause-found
returns-in-Err-clause-found c =
    let h = is_read c.args.chunk.now c.in-Ok.p c.requires (sym c.prefix.ensures.exact ∙ c.in-Ok.is) in
    let listed = listed_inside c.args.chunk.now c.in-Ok.p h.0 c.inside-bytes.result.now c.before_data.result h.1 c.inside-bytes.ensures.bytes c.inside-bytes.ensures.length c.before_data.ensures.exact in
    absurd (c.in-Err.ensures.found h.0 listed)
