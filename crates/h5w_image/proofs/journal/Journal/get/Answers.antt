use Rattle.std.proofs.Common.{◌+◌, ◌≤◌, List, ℕ, length, refl, subst, sym, ap, ◌∙◌}
use Rattle.std.specs.Prelude.{slice_get}
use Rattle.std.proofs.lemmas.Option.{slice_get_past}
use Rattle.h5w_model.specs.Numbers.{range}
use Rattle.h5w_image.specs.declared.journal.Entry.{Entry}
use Rattle.h5w_image.specs.Memory.{JournalView}
use Rattle.h5w_image.proofs.JournalLemmas.{among_at, entry_at, nothing_at, write_at}
use Rattle.h5w_image.proofs.journal.Journal.get.Goals as goal

pub part-requires : goal.part-requires
part-requires c =
    let e = c.in-Some.entry.now in
    let at = entry_at c.deref.result.now c.self.inside.entries.items c.args.k e c.deref.ensures.value c.in-Some.ensures.lookup.3.0 c.in-Some.ensures.lookup.1 in
    subst (λ (bytes : List ℕ). e.from + e.len ≤ length bytes) (sym c.deref-in-Some.ensures.value) (among_at c.self.inside.bytes.items c.self.inside.entries.items c.args.k e c.self.invariant at)

pub returns-in-Some : goal.returns-in-Some
returns-in-Some c =
    let e = c.in-Some.entry.now in
    let at = entry_at c.deref.result.now c.self.inside.entries.items c.args.k e c.deref.ensures.value c.in-Some.ensures.lookup.3.0 c.in-Some.ensures.lookup.1 in
    write_at c.self.inside.bytes.items c.part.result.now c.self.inside.entries.items c.args.k e.at e at refl
    (c.part.ensures ∙ ap (λ (bytes : List ℕ). range bytes e.from e.len) c.deref-in-Some.ensures.value)
    ∙ ap (λ (v : JournalView). slice_get v.writes c.args.k) c.self.view_is

pub returns-in-None : goal.returns-in-None
returns-in-None c =
    let past : length c.self.inside.entries.items ≤ c.args.k = subst (λ (es : List Entry). length es ≤ c.args.k) c.deref.ensures.value c.in-None.ensures.lookup.3 in
    nothing_at c.self.inside.bytes.items c.self.inside.entries.items c.args.k (slice_get_past c.self.inside.entries.items c.args.k past)
    ∙ ap (λ (v : JournalView). slice_get v.writes c.args.k) c.self.view_is
