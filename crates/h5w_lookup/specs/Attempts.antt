-- What is left of an attempt: the dataset header, and the addresses of the needed chunks.
use Rattle.std.specs.Prelude.{ℕ, List, [], take, ◌==◌, if◌then◌else◌, Option, Some, None, Result, Ok, Err}
use Rattle.h5w_model.specs.Programs.{Prog, ret, bind, and_then}
use Rattle.h5w_model.specs.Numbers.{undefined}
use Rattle.h5w_model.specs.Arrays.{eahd_at, eaib_at, eahd_len, eaib_len}
use Rattle.h5w_model.specs.Trees.{bthd_at, bthd_len}
use Rattle.h5w_model.specs.Datasets.{Described, described, refused_as}
use Rattle.h5w_model.specs.Datasets as model
use Rattle.h5w_model.specs.Calls.{CallRules, not_shrunk, rows_seen, known_table, some_unknown, needed_from}
use Rattle.h5w_model.specs.Tables.{Limits, Reading, nowhere, in_array, in_tree, format_limits, needed, needed_keys}
use Rattle.h5w_model.specs.declared.cell.IndexKind.TheVariants.{Array, Tree}
use Rattle.h5w_model.specs.declared.refusal.ReadError.{ReadError}
use Rattle.h5w_model.specs.declared.refusal.ReadError.TheVariants.{Damaged, Unsupported}
use Rattle.h5w_lookup.specs.Looks.{with_store}
use Rattle.h5w_lookup.specs.Outcomes.{outcome_left}
use Rattle.h5w_lookup.specs.Gathering.{gathering, cut_behind}
use Rattle.h5w_dataset.specs.Described.{described_of}
use Rattle.h5w_lookup.specs.Slots.{answered, slots_rest}
use Rattle.h5w_lookup.specs.Descents.{reading_news, waiting}
use Rattle.h5w_lookup.specs.declared.known.Known.{Known}
use Rattle.h5w_lookup.specs.declared.known.Rules.{Rules}
use Rattle.h5w_lookup.specs.declared.lookup.Lookup.{Lookup}
use Rattle.h5w_lookup.specs.declared.lookup.Lookup.TheVariants as lookup_by
use Rattle.h5w_lookup.specs.declared.news.News.{News}
use Rattle.h5w_lookup.specs.declared.outcome.Outcome.{Outcome}

-- ---- What is known

abbrev pub reading_of : Known → Reading
reading_of k = record { place = k.place; dataset = described_of k.dataset; table = k.table.items }

abbrev pub known_of : Option Known → Option Reading
known_of None = None
known_of (Some k) = Some (reading_of k)

-- the most chunks that are read: those of the format
abbrev pub reader_limits : Limits
reader_limits = format_limits

-- by what a call goes that knows this: it keeps 16 blocks
abbrev pub rules_of : Rules → Option Reading → CallRules
rules_of r known = record { limits = reader_limits; keeps = 16; attempts = r.attempts; place = r.place; known = known }

-- ---- Addresses

-- given the index block's bytes
unfoldable pub index_rest : ℕ → List ℕ → Described → ℕ → List ℕ → Prog (Result Reading ReadError)
index_rest at known d place b = elim (eaib_at b place) [ Ok e ↦ slots_rest at known d (in_array e) [] 0 [] | Err f ↦ ret (Err (Damaged place f)) ]

-- given the array header's bytes
unfoldable pub array_rest : ℕ → List ℕ → Described → ℕ → List ℕ → Prog (Result Reading ReadError)
array_rest at known d place b =
    elim (eahd_at b place) [
      | Ok a ↦ if a.block == undefined then slots_rest at known d nowhere [] 0 [] else bind (cut_behind [] a.block eaib_len) (index_rest at known d a.block)
      | Err f ↦ ret (Err (Damaged place f))
    ]

-- given the tree header's bytes
unfoldable pub tree_rest : ℕ → List ℕ → Described → ℕ → List ℕ → Prog (Result Reading ReadError)
tree_rest at known d place b =
    elim (bthd_at b place) [
      | Ok t ↦ slots_rest at known d (if t.root == undefined then nowhere else in_tree t) [] 0 []
      | Err f ↦ ret (Err (Damaged place f))
    ]

-- from the blocks in place on, within the limits; nothing is looked at where all addresses are known
unfoldable pub table_rest : ℕ → List ℕ → Described → Prog (Result Reading ReadError)
table_rest at known d =
    if some_unknown known (needed_keys d) then (if d.layout.address == undefined then slots_rest at known d nowhere [] 0 []
    else elim d.layout.index [
      | Array ↦ bind (cut_behind [] d.layout.address eahd_len) (array_rest at known d d.layout.address)
      | Tree ↦ bind (cut_behind [] d.layout.address bthd_len) (tree_rest at known d d.layout.address)
    ])
    else answered at d (take (needed d) known)

abbrev pub looking_up : CallRules → Lookup → Prog (Result Reading ReadError)
looking_up g (lookup_by.Array s k) = bind (gathering k) (array_rest g.place (known_table g.known (described_of s.dataset)) (described_of s.dataset) k.start)
looking_up g (lookup_by.Index s k) = bind (gathering k) (index_rest g.place (known_table g.known (described_of s.dataset)) (described_of s.dataset) k.start)
looking_up g (lookup_by.Tree l k) = bind (gathering k) (tree_rest g.place (known_table g.known (described_of l.dataset)) (described_of l.dataset) k.start)
looking_up g (lookup_by.Block w) = waiting g w.value

abbrev pub looked_up : CallRules → Outcome News Lookup → Prog (Result Reading ReadError)
looked_up g l = outcome_left (reading_news g.known) (looking_up g) l

-- given the messages of the dataset header
unfoldable pub described_rest : CallRules → List model.FoundMessage → Prog (Result Reading ReadError)
described_rest g ms =
    with_store (and_then (ret (refused_as Unsupported (described ms))) (λ d.
    and_then (ret (not_shrunk (rows_seen g.known) d)) (λ d.
    and_then (needed_from g.limits (known_table g.known d) d) (λ t. ret (Ok (record { place = g.place; dataset = d; table = t }))))))
