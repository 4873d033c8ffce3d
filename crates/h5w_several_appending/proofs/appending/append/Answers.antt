use Rattle.std.proofs.Common.{◌≡◌, Err, rules}
use Rattle.h5w_several_appending.specs.declared.batching.Ending.TheVariants as endings
use Rattle.h5w_several_appending.proofs.EndLemmas.{several_broke, several_cut, several_some, several_whole}
use Rattle.h5w_several_appending.proofs.OuterLemmas.{several_tells_end}
use Rattle.h5w_several_appending.proofs.appending.append.Goals as goal

pub returns-in-Ok-clause-ends : goal.returns-in-Ok-clause-ends
returns-in-Ok-clause-ends g c = several_whole c.args.terms.file.now c.args.names.now c.args.terms.limit c.say.result c.append_all.new.text.items c.deref.result.now c.requires.high c.deref.ensures.value c.in-Ok.ensures.finishes c.say.ensures

pub returns-in-Err-Refused-clause-ends : goal.returns-in-Err-Refused-clause-ends
returns-in-Err-Refused-clause-ends g c =
    let is : c.append_all.result ≡ Err (endings.Refused c.in-Err-Refused.error) = search rules in
    let h = rw is at c.append_all.ensures.finishes in
    several_some c.args.terms.file.now c.args.names.now c.args.terms.limit c.in-Err-Refused.error _ c.append_all.new.text.items c.requires.high h c.tell.ensures

pub returns-in-Err-Disk-clause-ends : goal.returns-in-Err-Disk-clause-ends
returns-in-Err-Disk-clause-ends g c =
    let is : c.append_all.result ≡ Err endings.Disk = search rules in
    let h = rw is at c.append_all.ensures.finishes in
    several_broke c.args.terms.file.now c.args.names.now c.args.terms.limit _ c.append_all.new.text.items c.requires.high h c.say_line.ensures

pub returns-clause-ends : goal.returns-clause-ends
returns-clause-ends g c =
    let is : c.append_all.result ≡ Err endings.Sink = search rules in
    let h = rw is at c.append_all.ensures.finishes in
    several_cut c.args.terms.file.now c.args.names.now c.args.terms.limit c.append_all.new.text.items c.requires.high h

pub returns-in-Ok-clause-tells : goal.returns-in-Ok-clause-tells
returns-in-Ok-clause-tells g c = several_tells_end c.args.terms.file.now c.args.names.now c.args.terms.limit c.say.result (returns-in-Ok-clause-ends g c)

pub returns-in-Err-Refused-clause-tells : goal.returns-in-Err-Refused-clause-tells
returns-in-Err-Refused-clause-tells g c = several_tells_end c.args.terms.file.now c.args.names.now c.args.terms.limit _ (returns-in-Err-Refused-clause-ends g c)

pub returns-in-Err-Disk-clause-tells : goal.returns-in-Err-Disk-clause-tells
returns-in-Err-Disk-clause-tells g c = several_tells_end c.args.terms.file.now c.args.names.now c.args.terms.limit _ (returns-in-Err-Disk-clause-ends g c)

pub returns-clause-tells : goal.returns-clause-tells
returns-clause-tells g c = several_tells_end c.args.terms.file.now c.args.names.now c.args.terms.limit _ (returns-clause-ends g c)
