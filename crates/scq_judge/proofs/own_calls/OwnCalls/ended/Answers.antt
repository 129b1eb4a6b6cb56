use Rattle.std.proofs.Common.{◌≡◌, Some, slice_get, slice_index_or, sym, ◌∙◌, subst, arith}
use Rattle.std.proofs.lemmas.Grind.{common_steps}
use Rattle.std.proofs.lemmas.Option.{slice_get_within, gets}
use Rattle.std.proofs.lemmas.List.{get_or_default}
use Rattle.scq_hist.specs.declared.events.Event.TheVariants.{Start, End}
use Rattle.scq_judge.specs.OwnCalls.{no_call, IsOwnCall}
use Rattle.scq_judge.proofs.OwnCallLemmas.{ends_so}
use Rattle.scq_judge.proofs.own_calls.OwnCalls.ended.Goals as goal

pub returns : goal.returns
returns c =
    let at : slice_get c.args.events.now c.args.e ≡ Some (End c.in-End.seat c.in-End.reply) = grind (arith, common_steps, gets) in
    let there : slice_get c.args.events.now c.index-own.result.now.start ≡ Some (Start c.in-Start.seat c.in-Start.call) = grind (arith, common_steps, gets) in
    let within = slice_get_within c.args.events.now c.args.e _ at in
    let many = c.requires.calls.many in
    let own : c.index-own.result.now ≡ slice_index_or c.args.self.now.calls.items c.args.e no_call =
    c.index-own.ensures ∙ get_or_default c.args.self.now.calls.items c.args.e c.index-own.result.now no_call (omega arith) in
    let ends = ends_so c.args.events.now c.args.e c.in-End.seat c.in-Start.seat c.index-own.result.now c.in-Start.call c.in-End.reply c.requires.lawful at
    (subst (IsOwnCall c.args.events.now c.args.e c.in-End.seat) (sym own) (c.requires.calls.each c.args.e c.in-End.seat c.in-End.reply (omega arith) at)) there in
    record { is = ends.is; number = ends.number; put = ends.put }
