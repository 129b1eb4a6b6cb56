use Rattle.std.proofs.Common.{◌≡◌, ◌∙◌, sym, ap, List, ℕ, ◌+◌, ◌-◌, ◌++◌, length, take, drop, arith}
use Rattle.std.proofs.Math.Seq.{take-add}
use Rattle.std.proofs.lemmas.Grind.{common_steps}
use Rattle.scq_service.specs.Exports.{written_with}
use Rattle.scq_service.proofs.Writings.{written-then}
use Rattle.scq_service.proofs.writing.write_all.Goals as goal

-- a slice from an index to its end is what drop gives
to_the_end : (bytes : List ℕ) (at : ℕ) → take (length bytes - at) (drop at bytes) ≡ drop at bytes
to_the_end bytes at = grind (arith, common_steps)

pub loop-done-preserved : goal.loop-done-preserved
loop-done-preserved g c =
    let bytes = c.args.bytes.now in
    let done = c.loop-done.done in
    let k = c.in_ok-done.field-0 in
    let front : take done bytes ++ take k (take (length bytes - done) (drop done bytes)) ≡ take (done + k) bytes =
    ap (λ rest. take done bytes ++ take k rest) (to_the_end bytes done) ∙ sym (take-add done k bytes) in
    record {
      within = omega (arith, c.in_ok-done.ensures.within);
      written = c.in_ok-done.ensures.appended
          ∙ ap (λ written. written_with written (take k (take (length bytes - done) (drop done bytes)))) c.loop-done.invariant.written
          ∙ written-then _ (take done bytes) _ ∙ ap (written_with (g.K.Sink.written c.args.sink.now)) front;
      kept = c.in_ok-done.ensures.counted.0.kept (λ e. cc) ∙ c.loop-done.invariant.kept;
    }
