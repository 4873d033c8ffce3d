-- Chunk 0 after a commit.
use Rattle.std.proofs.Common.{◌≡◌, ◌≢◌, ◌⊎◌, ℕ, ◌+◌, ◌<◌, ◌≤◌, cond, List, length, map, Option, Some, None, Ok, refl, ap, sym, ◌∙◌, subst, inl, inr, arith}
use Rattle.std.specs.Prelude.{find, option_map, option_and_then, unwrap_or}
use Rattle.std.proofs.lemmas.Bool.{le-leb, eqb-true}
use Rattle.h5w_model.specs.Headers.{with_number, prefix_at, header_at, messages_at, before_data, rows_in_data, rows_in_header, index_in_data, index_in_header, index_address_place, rows_changed, with_rows_bytes}
use Rattle.h5w_model.specs.Datasets.{dataspace_kind, layout_kind}
use Rattle.h5w_model.specs.Prefixed.{IsOutside}
use Rattle.h5w_model.specs.declared.message.Msg.{Msg}
use Rattle.h5w_model.specs.declared.message.Prefix.{Prefix}
use Rattle.h5w_model.proofs.HeaderLemmas.{IsHeader, messages_at-ok}
use Rattle.h5w_laws.proofs.PrefixLemmas.{header_view_short}
use Rattle.h5w_step_laws.specs.Commits.{renumbered, with_rows_in, with_index_in, IsCommitted, AreRowsWritten, RowsWritten, IsIndexWritten, IndexWritten}
use Rattle.h5w_step_laws.proofs.NumberLemmas.{byte_beside}
use Rattle.h5w_step_laws.proofs.WalkLemmas.{renumbered_same}
use Rattle.h5w_step_laws.proofs.ChunkLemmas.{renumbered_kinds, of_kind, find_map, find_other, found_tells, not_changed, place_in, stands_in, changed_once, resealed, IsResealed, reseal, byte_kept, data_is, rows_place_kept, index_data_kept}

-- ---- Places

abbrev pub the_data : Prefix → Msg → ℕ × List ℕ
the_data p m = (m.at + before_data p.tracked, m.body)

pub rows_place_is : (b : List ℕ) (p : Prefix) (ms : List Msg) (space : Msg) → header_at b ≡ Ok p → messages_at b ≡ Ok ms → find (of_kind dataspace_kind) ms ≡ Some space
    → rows_in_header b ≡ rows_in_data (the_data p space)
unfolding rows_in_header
rows_place_is b p ms space header read found =
    ap (option_and_then rows_in_data) (data_is b p ms dataspace_kind header read ∙ ap (option_map (the_data p)) found)

pub index_place_is : (b : List ℕ) (p : Prefix) (ms : List Msg) → header_at b ≡ Ok p → messages_at b ≡ Ok ms
    → index_in_header b ≡ option_and_then index_in_data (option_map (the_data p) (find (of_kind layout_kind) ms))
unfolding index_in_header
index_place_is b p ms header read = ap (option_and_then index_in_data) (data_is b p ms layout_kind header read)

pub rows_there : (p : Prefix) (space : Msg) → 12 ≤ length space.body → rows_in_data (the_data p space) ≡ Some (place_in p space 4)
rows_there p space h = ap (λ t. cond t (Some (place_in p space 4)) None) (le-leb 12 (length space.body) h)

pub index_there : (p : Prefix) (layout : Msg) → index_address_place layout.body + 8 ≤ length layout.body → index_in_data (the_data p layout) ≡ Some (place_in p layout (index_address_place layout.body))
index_there p layout h = ap (λ t. cond t (Some (place_in p layout (index_address_place layout.body))) None) (le-leb (index_address_place layout.body + 8) (length layout.body) h)

-- ---- What the bytes are

pub rows_bytes_are : (b : List ℕ) (rows q : ℕ) → rows_in_header b ≡ Some q → with_rows_bytes b rows None ≡ resealed b (with_number b q rows)
unfolding with_rows_bytes rows_changed
rows_bytes_are b rows q e = ap (λ o. resealed b (with_number b (unwrap_or o 0) rows)) e

pub index_bytes_are : (b : List ℕ) (rows index q r : ℕ) → rows_in_header b ≡ Some q → index_in_header b ≡ Some r
    → with_rows_bytes b rows (Some index) ≡ resealed b (with_number (with_number b q rows) r index)
unfolding with_rows_bytes rows_changed
index_bytes_are b rows index q r e f = λ i. resealed b (with_number (with_number b (unwrap_or (e i) 0) rows) (unwrap_or (f i) 0) index)

-- ---- What is committed

pub is_committed : (b c new : List ℕ) (p : Prefix) (old ms : List Msg) → IsHeader b old p → IsResealed b c new p ms → rows_in_header new ≡ rows_in_header b → index_in_header new ≡ index_in_header b
    → IsCommitted b new ms
is_committed b c new p old ms h r rows index =
    let prefix : (q : Prefix) → prefix_at b ≡ Ok q → prefix_at new ≡ Ok q = λ q e. r.prefix ∙ sym h.whole.prefix ∙ e in
    record {
      size = r.long;
      prefix = prefix;
      whole = λ q e. r.header ∙ sym h.header ∙ e;
      messages = r.messages;
      rows_place = rows;
      index_place = index;
      view = λ q e short. header_view_short new q (prefix q e) short;
    }

swapped : (q k : ℕ) → IsOutside (Some q) k → (q + 8 ≤ k) ⊎ (k < q)
swapped q k (inl before) = inr before
swapped q k (inr behind) = inl behind

outside : (q k : ℕ) (o : Option ℕ) → o ≡ Some q → IsOutside o k → (q + 8 ≤ k) ⊎ (k < q)
outside q k o e h = swapped q k (subst (λ o. IsOutside o k) e h)

-- a message with another body of its kind is what is found
found_changed : (kind k v : ℕ) (x : Msg) (ms : List Msg) → find (of_kind kind) ms ≡ Some x → x.kind ≡ kind
    → find (of_kind kind) (map (renumbered kind x.at k v) ms) ≡ Some (record x { body = with_number x.body k v })
found_changed kind k v x ms found e =
    find_map (renumbered kind x.at k v) kind ms (renumbered_kinds kind x.at k v) ∙ ap (option_map (renumbered kind x.at k v)) found ∙ ap Some (renumbered_same kind x.at k v x e refl)

apart_kinds : dataspace_kind ≢ layout_kind
apart_kinds e = absurd (omega arith)

pub rows_written : RowsWritten
rows_written b ms space rows read found room =
    let h = messages_at-ok b ms read in
    let p = h.0 in
    let whole = h.1.whole in
    let tells = found_tells (of_kind dataspace_kind) ms space found in
    let kind = eqb-true space.kind dataspace_kind tells.0 in
    let q = place_in p space 4 in
    let c = with_number b q rows in
    let is = changed_once b b p ms space dataspace_kind 4 rows whole (not_changed b ms p h.1) tells.1 kind room in
    let ns = with_rows_in space rows ms in
    let r = reseal b c p ns whole is in
    let new = resealed b c in
    let old_place : rows_in_header b ≡ Some q = rows_place_is b p ms space h.1.header read found ∙ rows_there p space room in
    let new_rows : rows_in_header new ≡ rows_in_header b =
    rows_place_is new p ns (record space { body = with_number space.body 4 rows }) r.header r.messages (found_changed dataspace_kind 4 rows space ms found kind)
    ∙ rows_place_kept (space.at + before_data p.tracked) space.body rows room ∙ sym (rows_place_is b p ms space h.1.header read found) in
    let new_index : index_in_header new ≡ index_in_header b =
    index_place_is new p ns r.header r.messages
    ∙ ap (λ o. option_and_then index_in_data (option_map (the_data p) o)) (find_other dataspace_kind space.at 4 rows layout_kind ms apart_kinds)
    ∙ sym (index_place_is b p ms h.1.header read) in
    let stands = stands_in b b p ms space whole (not_changed b ms p h.1) tells.1 in
    let to = stands.to in
    let long = whole.long in
    let end = whole.end in
    subst (λ (x : List ℕ). AreRowsWritten b x ns) (sym (rows_bytes_are b rows q old_place))
    (record {
      committed = is_committed b c new p ms ns h.1 r new_rows new_index;
      same = λ address exact. record {
        size = r.long;
        rows_place = new_rows;
        index_place = new_index;
        bytes = λ k below out other.
            byte_kept b c new p ns k r (omega arith) ∙ byte_beside b q rows k (omega arith) (outside q k (rows_in_header b) old_place out);
      };
    })

pub index_written : IndexWritten
index_written b ms space layout rows index read found room laid space_enough =
    let h = messages_at-ok b ms read in
    let p = h.0 in
    let whole = h.1.whole in
    let tells = found_tells (of_kind dataspace_kind) ms space found in
    let kind = eqb-true space.kind dataspace_kind tells.0 in
    let q = place_in p space 4 in
    let c = with_number b q rows in
    let ns = with_rows_in space rows ms in
    let is = changed_once b b p ms space dataspace_kind 4 rows whole (not_changed b ms p h.1) tells.1 kind room in
    let a = index_address_place layout.body in
    let laid_now : find (of_kind layout_kind) ns ≡ Some layout = find_other dataspace_kind space.at 4 rows layout_kind ms apart_kinds ∙ laid in
    let lays = found_tells (of_kind layout_kind) ns layout laid_now in
    let its_kind = eqb-true layout.kind layout_kind lays.0 in
    let r = place_in p layout a in
    let d = with_number c r index in
    let os = with_index_in layout index ns in
    let then_is = changed_once b c p ns layout layout_kind a index whole is lays.1 its_kind space_enough in
    let s = reseal b d p os whole then_is in
    let new = resealed b d in
    let old_place : rows_in_header b ≡ Some q = rows_place_is b p ms space h.1.header read found ∙ rows_there p space room in
    let old_index : index_in_header b ≡ option_and_then index_in_data (option_map (the_data p) (Some layout)) =
    index_place_is b p ms h.1.header read ∙ ap (λ o. option_and_then index_in_data (option_map (the_data p) o)) laid in
    let new_space : find (of_kind dataspace_kind) os ≡ Some (record space { body = with_number space.body 4 rows }) =
    find_other layout_kind layout.at a index dataspace_kind ns (λ e. apart_kinds (sym e)) ∙ found_changed dataspace_kind 4 rows space ms found kind in
    let new_rows : rows_in_header new ≡ rows_in_header b =
    rows_place_is new p os (record space { body = with_number space.body 4 rows }) s.header s.messages new_space
    ∙ rows_place_kept (space.at + before_data p.tracked) space.body rows room ∙ sym (rows_place_is b p ms space h.1.header read found) in
    let new_index : index_in_header new ≡ index_in_header b =
    index_place_is new p os s.header s.messages
    ∙ ap (λ o. option_and_then index_in_data (option_map (the_data p) o)) (found_changed layout_kind a index layout ns laid_now its_kind)
    ∙ index_data_kept (layout.at + before_data p.tracked) layout.body index space_enough
    ∙ sym old_index in
    let stands = stands_in b b p ms space whole (not_changed b ms p h.1) tells.1 in
    let to = stands.to in
    let stands_layout = stands_in b c p ns layout whole is lays.1 in
    let to_layout = stands_layout.to in
    let long = whole.long in
    let end = whole.end in
    let same_long = is.long in
    subst (λ (x : List ℕ). IsIndexWritten b x os) (sym (index_bytes_are b rows index q r old_place (old_index ∙ index_there p layout space_enough)))
    (record {
      committed = is_committed b d new p ms os h.1 s new_rows new_index;
      same = λ exact. record {
        size = s.long;
        rows_place = new_rows;
        index_place = new_index;
        bytes = λ k below out other.
            let other : IsOutside (index_in_header b) k = elim other [ inl defined ↦ absurd (defined refl) | inr o ↦ o ] in
            byte_kept b d new p os k s (omega arith)
            ∙ byte_beside c r index k (omega arith) (outside r k (index_in_header b) (old_index ∙ index_there p layout space_enough) other)
            ∙ byte_beside b q rows k (omega arith) (outside q k (rows_in_header b) old_place out);
      };
    })
