use Rattle.std.proofs.Common.{◌≡◌, ℕ, List, [], ◌∷◌, ◌++◌, ◌+◌, ◌-◌, ◌*◌, ◌≤◌, take, drop, length, flat_map, Ok, refl, sym, ◌∙◌, ap, length-append, arith}
use Rattle.std.proofs.Math.Nat.{mul_comm}
use Rattle.h5w_model.proofs.LayoutLemmas.{layout_at-layout_bytes, length-layout_bytes, length-chunk_sizes}
use Rattle.h5w_model.proofs.MessageLemmas.{shape_rank}
use Rattle.h5w_model.proofs.NumberLemmas.{length-le}
use Rattle.h5w_model.proofs.Writes.{written_then, length-flat_map_le}
use Rattle.h5w_layout.specs.Numbers.{le}
use Rattle.h5w_layout.specs.Messages.{chunk_sizes, index_bytes, layout_bytes, layout_width}
use Rattle.h5w_layout.specs.Fields.{shape_of, int_type_of}
use Rattle.h5w_layout.specs.Layouts.{layout_of}
use Rattle.h5w_layout.proofs.layout.Layout.encode.Goals as goal

pub put_bytes-requires : goal.put_bytes-requires
put_bytes-requires c =
    let long = length-layout_bytes (layout_of c.args.self.now) (shape_of c.args.s.now) (int_type_of c.args.t.now) c.requires.shaped c.requires.typed c.requires.sound in
    let room = c.requires.room in
    omega arith

-- the computed width is that of the definition
same_width : (rows cols size n w r : ℕ) → n ≡ size → w ≡ layout_width rows cols n → (r + 1) * w ≡ (r + 1) * layout_width rows cols size
same_width rows cols size n w r a e = ap (λ (v : ℕ). (r + 1) * v) (e ∙ ap (layout_width rows cols) a)

pub put_sizes-place-requires-clause-room : goal.put_sizes-place-requires-clause-room
put_sizes-place-requires-clause-room c =
    let l = layout_of c.args.self.now in
    let s = shape_of c.args.s.now in
    let t = int_type_of c.args.t.now in
    let long = length-layout_bytes l s t c.requires.shaped c.requires.typed c.requires.sound in
    let sizes = same_width l.chunk_rows l.chunk_cols t.size c.from-size.result c.greatest_width-width.result s.rank c.from-size.ensures c.greatest_width-width.ensures.exact in
    let room = c.requires.room in
    let kept = c.put_bytes.auto.b in
    omega arith

pub put_index-requires : goal.put_index-requires
put_index-requires c =
    let l = layout_of c.args.self.now in
    let s = shape_of c.args.s.now in
    let t = int_type_of c.args.t.now in
    let long = length-layout_bytes l s t c.requires.shaped c.requires.typed c.requires.sound in
    let sizes = same_width l.chunk_rows l.chunk_cols t.size c.from-size.result c.greatest_width-width.result s.rank c.from-size.ensures c.greatest_width-width.ensures.exact in
    let room = c.requires.room in
    let place = c.put_sizes-place.ensures.len in
    let kept = c.put_bytes.auto.b in
    let kept_too = c.put_sizes-place.auto.out in
    omega arith

pub returns-clause-len : goal.returns-clause-len
returns-clause-len c =
    let l = layout_of c.args.self.now in
    let s = shape_of c.args.s.now in
    let t = int_type_of c.args.t.now in
    let long = length-layout_bytes l s t c.requires.shaped c.requires.typed c.requires.sound in
    let sizes = same_width l.chunk_rows l.chunk_cols t.size c.from-size.result c.greatest_width-width.result s.rank c.from-size.ensures c.greatest_width-width.ensures.exact in
    let place = c.put_sizes-place.ensures.len in
    let end = c.put_index.ensures.len in
    omega arith

-- the sizes behind five bytes, and what follows behind them
parts : (out first second third : List ℕ) (n w place end : ℕ) (sizes tail : List ℕ) → 5 + length sizes ≡ place → place + length tail ≡ end → end ≤ length out → first ≡ 4 ∷ 2 ∷ 0 ∷ n ∷ w ∷ drop 5 out → second ≡ (take 5 first ++ sizes) ++ drop place first → third ≡ (take place second ++ tail) ++ drop end second → third ≡ (4 ∷ 2 ∷ 0 ∷ n ∷ w ∷ (sizes ++ tail)) ++ drop end out
parts out first second third n w place end sizes tail one two inside a b d =
    let header : List ℕ = 4 ∷ 2 ∷ 0 ∷ n ∷ w ∷ [] in
    let front = written_then out first second header sizes 5 place refl one (omega arith) a b in
    written_then out second third (header ++ sizes) tail place end (omega arith) two inside front d

pub returns-clause-written : goal.returns-clause-written
unfolding layout_bytes
returns-clause-written c =
    let l = layout_of c.args.self.now in
    let s = shape_of c.args.s.now in
    let t = int_type_of c.args.t.now in
    let out = c.args.out.now in
    let w = c.greatest_width-width.result in
    let size = c.from-size.result in
    let ns = chunk_sizes s.rank l.chunk_rows l.chunk_cols size in
    let tail : List ℕ = index_bytes l.index ++ le 8 l.address in
    let place = c.put_sizes-place.result in
    let end = c.put_index.result in
    let width : w ≡ layout_width l.chunk_rows l.chunk_cols t.size = c.greatest_width-width.ensures.exact ∙ ap (layout_width l.chunk_rows l.chunk_cols) c.from-size.ensures in
    let count = length-chunk_sizes s.rank l.chunk_rows l.chunk_cols size (shape_rank s c.requires.shaped) in
    let long : length (flat_map (le w) ns) ≡ (s.rank + 1) * w = length-flat_map_le w ns ∙ ap (λ (k : ℕ). w * k) count ∙ mul_comm w (s.rank + 1) in
    let behind : 5 + length (flat_map (le w) ns) ≡ place = ap (λ (k : ℕ). 5 + k) long ∙ sym c.put_sizes-place.ensures.len in
    let last : place + length tail ≡ end = omega (arith, length-append (index_bytes l.index) (le 8 l.address), length-le 8 l.address, c.put_index.ensures.len) in
    let whole = length-layout_bytes l s t c.requires.shaped c.requires.typed c.requires.sound in
    let sizes = same_width l.chunk_rows l.chunk_cols t.size size w s.rank c.from-size.ensures c.greatest_width-width.ensures.exact in
    let room = c.requires.room in
    let stop = c.put_index.ensures.len in
    let start = c.put_sizes-place.ensures.len in
    let inside : end ≤ length out = omega arith in
    parts out c.put_bytes.new.b c.put_sizes-place.new.out c.put_index.new.out (s.rank + 1) w place end (flat_map (le w) ns) tail behind last inside
    c.put_bytes.ensures.written c.put_sizes-place.ensures.written c.put_index.ensures.written
    ∙ (λ i. (4 ∷ 2 ∷ 0 ∷ (s.rank + 1) ∷ width i ∷ (flat_map (le (width i)) (chunk_sizes s.rank l.chunk_rows l.chunk_cols (c.from-size.ensures i)) ++ tail)) ++ drop end out)

pub returns-clause-reads_back : goal.returns-clause-reads_back
returns-clause-reads_back c = λ rest.
    let l = layout_of c.args.self.now in
    let s = shape_of c.args.s.now in
    let t = int_type_of c.args.t.now in
    let long = length-layout_bytes l s t c.requires.shaped c.requires.typed c.requires.sound in
    let sizes = same_width l.chunk_rows l.chunk_cols t.size c.from-size.result c.greatest_width-width.result s.rank c.from-size.ensures c.greatest_width-width.ensures.exact in
    let place = c.put_sizes-place.ensures.len in
    let end = c.put_index.ensures.len in
    let whole : length (layout_bytes l s t) ≡ c.put_index.result = omega arith in
    layout_at-layout_bytes l s t rest c.requires.shaped c.requires.typed c.requires.sound c.put_index.ensures.word
    ∙ ap (λ (k : ℕ). Ok (record { chunk_rows = l.chunk_rows; chunk_cols = l.chunk_cols; index = l.index; address = l.address; place = k - 8 })) whole
