-- What is awaited in a call for rows.
use Rattle.std.proofs.Common.{◌≡◌, ℕ, min, length, List, Option, Some, None, refl, sym, ap, subst}
use Rattle.std.specs.Prelude.{◌≢◌, IsSome}
use Rattle.h5w_model.specs.Programs.{Prog, below_end, next_look}
use Rattle.h5w_model.specs.Calls.{CallRules}
use Rattle.h5w_reader.specs.Walking.{walking, block_left, chunk_0_rest}
use Rattle.h5w_reader.specs.Opening.{opening, super_rest}
use Rattle.h5w_model.specs.Checked.{viewed}
use Rattle.h5w_model.specs.Tables.{Reading}
use Rattle.h5w_model.specs.Unfinished.{wanted}
use Rattle.h5w_lookup.specs.Attempts.{known_of, rules_of}
use Rattle.h5w_lookup.specs.Descents.{reading_news}
use Rattle.h5w_lookup.proofs.LookLemmas.{IsLooking, lookup_looks}
use Rattle.h5w_reader.specs.Calling.{behind_left, stage_left}
use Rattle.h5w_reader.specs.Grids.{grid_given}
use Rattle.h5w_reader.specs.Values.{reading_values, band_rest, reading_with}
use Rattle.h5w_reader.specs.Readers.{left_of}
use Rattle.h5w_reader.specs.declared.call.Call.TheVariants as calls
use Rattle.h5w_lookup.specs.declared.known.Known.{Known}
use Rattle.h5w_reader.specs.declared.stage.Stage.{Stage}
use Rattle.h5w_reader.specs.declared.stage.Stage.TheVariants as stages
use Rattle.h5w_reader.specs.declared.values.Reads.{Reads}
use Rattle.h5w_reader.specs.declared.values.Reads.TheVariants as reads_by
use Rattle.h5w_reader.specs.declared.walk.Block.{Block}
use Rattle.h5w_reader.specs.declared.open.Opening.{Opening}
use Rattle.h5w_reader.specs.declared.open.Opening.TheVariants.{Super, Root, Rest, Visit}
use Rattle.h5w_reader.specs.declared.behind.Behind.{Behind}
use Rattle.h5w_reader.specs.declared.behind.Behind.TheVariants as behind_by
use Rattle.h5w_lookup.proofs.PieceLemmas.{wants_gather}
use Rattle.h5w_reader.proofs.CallLemmas.{confirm_begins, rows_begin, wants_bind}

pub walking_looks : (b : Block) → next_look (walking b) ≡ Some (b.gather.place, min 512 b.gather.rest)
walking_looks b = wants_gather b.gather.place b.gather.rest (min 512 b.gather.rest) b.gather.got.items (block_left b.walk b.gather.start b.len) b.gather.more refl

pub behind_looks : (g : CallRules) (b : Behind) → IsLooking (behind_left g b)
behind_looks g (behind_by.Visit b) = record { look = (b.gather.place, min 512 b.gather.rest); next = wants_bind (walking b) _ _ (walking_looks b) }
behind_looks g (behind_by.Lookup l) = lookup_looks g l

pub opening_looks : (o : Opening) → IsLooking (opening o)
opening_looks (Super k) = record { look = (k.place, min 512 k.rest); next = wants_gather k.place k.rest (min 512 k.rest) k.got.items super_rest k.more refl }
opening_looks (Root place) = record { look = (place, below_end place 512); next = refl }
opening_looks (Rest p k) = record { look = (k.place, min 512 k.rest); next = wants_gather k.place k.rest (min 512 k.rest) k.got.items (chunk_0_rest k.start p) k.more refl }
opening_looks (Visit b) = record { look = (b.gather.place, min 512 b.gather.rest); next = walking_looks b }

stage_looks : (most : ℕ) (name : List ℕ) (known : Option Reading) (s : Stage) → IsLooking (stage_left most name known s)
stage_looks most name known (stages.Open o) = let l = opening_looks o in record { look = l.look; next = wants_bind (opening o) _ _ l.next }
stage_looks most name known (stages.Header r) = record { look = (r.place, below_end r.place 512); next = ap next_look (rows_begin (rules_of r known)) }
stage_looks most name known (stages.Behind a b) = let l = behind_looks (rules_of a.rules known) b in record { look = l.look; next = wants_bind _ _ _ l.next }
stage_looks most name known (stages.Confirm a r) =
    record { look = (a.rules.place, below_end a.rules.place 512); next = ap next_look (confirm_begins (rules_of a.rules known) a.more a.view (viewed (reading_news known) r)) }

read_looks : (k : Known) (s : Reads) → IsLooking (reading_values k s)
read_looks k (reads_by.Range s) =
    record {
      look = (s.gather.place, min 512 s.gather.rest);
      next = wants_gather s.gather.place s.gather.rest (min 512 s.gather.rest) s.gather.got.items
          (band_rest (reading_with k s.span.dataset) s.span.from s.span.to s.band s.values.items s.gather.start) s.gather.more refl;
    }
read_looks k (reads_by.Beside s) =
    record {
      look = (s.gather.place, min 512 s.gather.rest);
      next = wants_gather s.gather.place s.gather.rest (min 512 s.gather.rest) s.gather.got.items
          (grid_given (reading_with k s.grid.dataset) s.grid.from s.grid.to s.band (length s.ranges.items) s.values.items s.ranges.items s.gather.start) s.gather.more refl;
    }
read_looks k (reads_by.Past at len) = record { look = (at, below_end at 512); next = refl }

looks_some : {A : Type 0} (p : Prog A) → IsLooking p → IsSome (next_look p)
looks_some p l = subst (λ (o : Option (ℕ × ℕ)). IsSome o) (sym l.next) refl

-- a call for rows wants a look
pub rows_want : (most : ℕ) (name : List ℕ) (k : Option Known) (s : Stage) → IsSome (wanted (left_of most name k (Some (calls.Rows s))))
rows_want most name k s = looks_some (stage_left most name (known_of k) s) (stage_looks most name (known_of k) s)

-- a read of what is known too
pub values_want : (most : ℕ) (name : List ℕ) (k : Option Known) (v : Reads) → k ≢ None → IsSome (wanted (left_of most name k (Some (calls.Values v))))
values_want most name None v some = absurd (some refl)
values_want most name (Some k) v some = looks_some (reading_values k v) (read_looks k v)
