use Rattle.std.proofs.Common.{◌≡◌, ◌∙◌, ◌+◌, ◌++◌, None, take, refl, sym, ap, subst, arith}
use Rattle.std.proofs.lemmas.Grind.{common_steps}
use Rattle.std.proofs.lemmas.List.{length-take-le}
use Rattle.memchr.specs.Find.{IsFirstByte, is_byte}
use Rattle.scq_hist.proofs.HandedOn.{handed_on}
use Rattle.scq_lines.specs.Exports.{lines_of}
use Rattle.scq_judge.specs.Exports.{after_lines}
use Rattle.scq_judge.specs.declared.judging.JudgeFault.TheVariants.{NoMemory}
use Rattle.scq_judge.specs.declared.recorded.Last.TheVariants.{NoEvent}
use Rattle.scq_judge.proofs.ReadLemmas.{longer, refused_piece, taken_piece}
use Rattle.scq_judge.proofs.SourceLemmas.{file_fault, given_last, line_fault, not_end, taken_more}
use Rattle.scq_judge.proofs.reading.Reading.read.Goals as goal

pub returns-then-count-eq0-clause-files : goal.returns-then-count-eq0-clause-files
returns-then-count-eq0-clause-files g c = λ count is all. c.take_last.ensures.files count is (c.reads.invariant.files count is all)

pub returns-then-size-gt-MOST_BYTES-clause-given : goal.returns-then-size-gt-MOST_BYTES-clause-given
returns-then-size-gt-MOST_BYTES-clause-given g c = given_last _ _ _ _ _ _ (take c.in-Ok.count c.read.new.into) c.reads.invariant.source c.in-Ok.ensures.moved (c.in-Ok.ensures.counted.0.kept (λ e. cc))

pub returns-in_err-extend_from_slice-clause-given : goal.returns-in_err-extend_from_slice-clause-given
returns-in_err-extend_from_slice-clause-given g c = given_last _ _ _ _ _ _ (take c.in-Ok.count c.read.new.into) c.reads.invariant.source c.in-Ok.ensures.moved (c.in-Ok.ensures.counted.0.kept (λ e. cc))

pub returns-in_err-taken-clause-given : goal.returns-in_err-taken-clause-given
returns-in_err-taken-clause-given g c = given_last _ _ _ _ _ _ (take c.in-Ok.count c.read.new.into) c.reads.invariant.source c.in-Ok.ensures.moved (c.in-Ok.ensures.counted.0.kept (λ e. cc))

pub returns-in_err-front-clause-given : goal.returns-in_err-front-clause-given
returns-in_err-front-clause-given g c = given_last _ _ _ _ _ _ (take c.in-Ok.count c.read.new.into) c.reads.invariant.source c.in-Ok.ensures.moved (c.in-Ok.ensures.counted.0.kept (λ e. cc))

pub returns-in_err-extend_from_slice-clause-refused : goal.returns-in_err-extend_from_slice-clause-refused
returns-in_err-extend_from_slice-clause-refused g c = handed_on c.from_residual.result NoMemory _ c.from_residual.ensures.1 tt

pub returns-in_err-front-clause-refused : goal.returns-in_err-front-clause-refused
returns-in_err-front-clause-refused g c = handed_on c.from_residual-in_err-front.result NoMemory _ c.from_residual-in_err-front.ensures.1 tt

pub returns-in_err-taken-clause-refused : goal.returns-in_err-taken-clause-refused
returns-in_err-taken-clause-refused g c =
    let file = c.args.self.file in
    let lone = c.args.self.lone in
    let piece = take c.in-Ok.count c.read.new.into in
    let read : c.deref-in-reads.result.now ≡ c.reads.front.items ++ piece = c.deref-in-reads.ensures.value ∙ c.in_ok-extend_from_slice.ensures.items in
    handed_on c.from_residual-in_err-taken.result c.in_err-taken.field-0.0 _ c.from_residual-in_err-taken.ensures.1
    (file_fault _ _ c.args.recorded.now _ _ (line_fault _ _ _ _ (λ l bad.
    refused_piece file lone (record c.args.recorded.now { last = NoEvent }) c.reads.recorded c.reads.lines c.reads.front.items piece _ _ _ l c.in-Ok.ensures.moved c.reads.invariant.taken
    (λ more. ap (λ t. after_lines file lone c.reads.lines c.reads.recorded (lines_of (t ++ more))) (sym read) ∙ bad more)) c.in_err-taken.ensures.refused))

pub reads-preserved : goal.reads-preserved
reads-preserved g c =
    let file = c.args.self.file in
    let lone = c.args.self.lone in
    let piece = take c.in-Ok.count c.read.new.into in
    let read : c.deref-in-reads.result.now ≡ c.reads.front.items ++ piece = c.deref-in-reads.ensures.value ∙ c.in_ok-extend_from_slice.ensures.items in
    let taken = c.in_ok-taken.ensures.taken in
    record {
      few = grind (arith, common_steps);
      small = omega arith;
      front = subst (λ t. IsFirstByte (is_byte 10) t None) (sym c.in_ok-front.ensures.items) c.in_ok-taken.ensures.front;
      taken = taken_piece file lone _ c.reads.recorded c.take_lines.new.recorded c.reads.lines c.in_ok-taken.taken.lines c.reads.front.items piece
          c.in_ok-front.front.items _ _ _ c.in-Ok.ensures.moved
          (λ more. ap (λ t. after_lines file lone c.reads.lines c.reads.recorded (lines_of (t ++ more))) (sym read) ∙ taken more
          ∙ ap (λ t. after_lines file lone c.in_ok-taken.taken.lines c.take_lines.new.recorded (lines_of (t ++ more))) (sym c.in_ok-front.ensures.items))
          c.reads.invariant.taken;
      left = longer _ _ _ piece c.reads.size (c.reads.size + c.in-Ok.count) c.reads.invariant.left c.in-Ok.ensures.moved
          (let count = length-take-le c.in-Ok.count c.read.new.into (let within = c.in-Ok.ensures.within in omega arith) in omega arith);
      files = λ count is all. c.in_ok-taken.ensures.files count is (c.reads.invariant.files count is all);
      source = taken_more g.S.Source.faults g.S.Source.ends g.S.Source.left c.args.source.now c.reads.source c.read.new.self piece
          c.reads.invariant.source c.in-Ok.ensures.moved (c.in-Ok.ensures.counted.0.kept (λ e. cc)) (c.in-Ok.ensures.ended.kept (not_end _ _ c.in-Ok.count refl refl (grind arith)));
    }
