use Rattle.std.proofs.Common.{◌≡◌, ℤ, rules, subst, sym, to_z, of_z}
use Rattle.std.specs.Int.{w128}
use Rattle.h5w_model.specs.Lawful.{adds}
use Rattle.h5w_text.specs.declared.error.ErrorLine.TheVariants as errors
use Rattle.h5w_stopping.specs.Writing.{Refuses}
use Rattle.h5w_stopping.proofs.WritingLemmas.{amid_append, full_chunks, no_other_append, out_of_range}
use Rattle.h5w_stopping.proofs.writing.append.Goals as goal

pub returns-in-Appended-clause-amid : goal.returns-in-Appended-clause-amid
returns-in-Appended-clause-amid c = λ o lines f.
    amid_append o lines c.args.world.now c.step.new.self f c.args.values c.in-Ok.reply c.in-Appended.rows c.in-Appended.pending c.in-Appended.is c.step.ensures.rules c.step.ensures.named c.in-Ok.ensures.logged c.in-Ok.ensures.lawful

pub returns-in-OutOfRange-clause-refused : goal.returns-in-OutOfRange-clause-refused
returns-in-OutOfRange-clause-refused c = λ o lines f.
    let e = c.in-OutOfRange in
    let value : to_z w128 (of_z w128 e.value) ≡ e.value = search rules in
    subst (λ (v : ℤ). Refuses o lines c.args.number (adds c.args.values) (errors.Range c.args.number e.index v)) (sym value)
    (out_of_range o lines c.args.world.now c.step.new.self f c.args.values c.in-Ok.reply c.args.number e.index e.value e.is c.in-Ok.ensures.lawful)

pub returns-in-FullChunks-clause-refused : goal.returns-in-FullChunks-clause-refused
returns-in-FullChunks-clause-refused c = λ o lines f.
    full_chunks o lines c.args.world.now c.step.new.self f c.args.values c.in-Ok.reply c.args.number c.in-FullChunks.chunks c.in-FullChunks.limit c.in-FullChunks.is c.in-Ok.ensures.lawful

pub unreachable-requires : goal.unreachable-requires
unreachable-requires c =
    no_other_append c.requires.follows.0 c.requires.follows.1 c.args.world.now c.step.new.self c.requires.follows.2 c.args.values c.in-Ok.reply c.in_default-reply.not-Appended c.in_default-reply.not-OutOfRange c.in_default-reply.not-FullChunks
    c.in-Ok.ensures.lawful
