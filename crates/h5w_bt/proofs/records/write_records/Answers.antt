use Rattle.std.proofs.Common.{◌≡◌, ◌+◌, ◌*◌, ◌<◌, ◌++◌, length, get_or, map, take, drop, subst, sym, ap, ◌∙◌, arith}
use Rattle.std.proofs.lemmas.List.{get_or-map, length-map, take_all}
use Rattle.std.proofs.lemmas.List.Elements.{All-nil, All-more}
use Rattle.std.specs.List.{All, flat_map}
use Rattle.h5w_model.specs.Trees.{RecordFields, record_bytes}
use Rattle.h5w_bt.specs.declared.records.Record.{Record}
use Rattle.h5w_bt.specs.Parts.{record_of, IsRecord}
use Rattle.h5w_bt.proofs.Writing.{each-put, each-none, length-record_bytes}
use Rattle.h5w_bt.proofs.records.write_records.Goals as goal

abbrev no_record : Record
no_record = record { address = 0; key = record { i = 0; j = 0 } }

pub loop-i-init : goal.loop-i-init
loop-i-init c = record {
  written = each-none record_bytes c.args.out.now 6 (6 + 24 * 0) (map record_of c.args.records.now) (omega arith);
  fits = All-nil (λ (r : Record). IsRecord (record_of r));
}

pub loop-i-preserved : goal.loop-i-preserved
loop-i-preserved c =
    let i = c.loop-i.i in
    let old = c.args.out.now in
    let records = c.args.records.now in
    let inside : i < length c.args.records.now = c.loop-i-test.true in
    let mapped : i < length (map record_of c.args.records.now) = omega (arith, length-map records record_of) in
    let item : get_or (map record_of c.args.records.now) i (record_of no_record) ≡ record_of (get_or c.args.records.now i no_record) = get_or-map record_of records i no_record (record_of no_record) inside in
    let behind : 6 + 24 * i + 24 ≡ 6 + 24 * (i + 1) = omega arith in
    let put : c.write.new.out ≡ (take (6 + 24 * i) c.loop-i.out ++ record_bytes (get_or (map record_of c.args.records.now) i (record_of no_record))) ++ drop (6 + 24 * i + 24) c.loop-i.out =
    c.write.ensures.written ∙ ap (λ (r : RecordFields). (take (6 + 24 * i) c.loop-i.out ++ record_bytes r) ++ drop (6 + 24 * i + 24) c.loop-i.out) (sym item) in
    record {
      written = each-put record_bytes 24 length-record_bytes old c.loop-i.out c.write.new.out 6 (map record_of records) i (6 + 24 * i) (record_of no_record) mapped (omega (arith, c.requires)) (omega arith) c.loop-i.invariant.written put
          ∙ ap (λ p. (take 6 old ++ flat_map record_bytes (take (i + 1) (map record_of records))) ++ drop p old) behind;
      fits = All-more (λ (r : Record). IsRecord (record_of r)) records i no_record inside c.loop-i.invariant.fits c.write.ensures.fits;
    }

pub returns : goal.returns
returns c =
    let records = c.args.records.now in
    let old = c.args.out.now in
    let end : length c.args.records.now ≡ c.loop-i.i = omega arith in
    let all : take c.loop-i.i (map record_of c.args.records.now) ≡ map record_of c.args.records.now = take_all c.loop-i.i (map record_of records) (omega (arith, length-map records record_of)) in
    record {
      written = c.loop-i.invariant.written
          ∙ ap (λ l. (take 6 old ++ flat_map record_bytes l) ++ drop (6 + 24 * c.loop-i.i) old) all
          ∙ ap (λ n. (take 6 old ++ flat_map record_bytes (map record_of records)) ++ drop (6 + 24 * n) old) (sym end);
      fits = subst (λ l. All (λ (r : Record). IsRecord (record_of r)) l) (take_all c.loop-i.i records (omega arith)) c.loop-i.invariant.fits;
    }
