-- What a sink has after one writing and another.
use Rattle.std.proofs.Common.{[], arith, min, take, length, subst, sym, ◌∙◌, ◌+◌, ◌≡◌, refl, ap, List, ℕ, ◌++◌, Option, Some, None, append_assoc}
use Rattle.std.specs.Prelude.{Result, Ok, Err}
use Rattle.std.proofs.Math.Seq.{take-append-add}
use Rattle.std.proofs.lemmas.Grind.{common_steps}
use Rattle.std.proofs.lemmas.List.{append-nil, take-append-le}
use Rattle.scq_outside.specs.Exports.{Rose}
use Rattle.scq_service.specs.Exports.{SinkOf, written_with, WrotePart, HasWritten}

-- bytes and then bytes are their sum
pub written-then : (written : Option (List ℕ)) (a b : List ℕ) → written_with (written_with written a) b ≡ written_with written (a ++ b)
written-then None a b = refl
written-then (Some before) a b = ap Some (append_assoc before a b)

-- a part of the first bytes is one of both
pub part-first : (old new : Option (List ℕ)) (a b : List ℕ) → WrotePart old new a → WrotePart old new (a ++ b)
part-first old new a b part = record {
  count = min part.count (length a);
  written = part.written ∙ ap (written_with old) (sym (take-append-le (min part.count (length a)) a b (omega arith) ∙ shorter part.count a));
} where
  shorter : (k : ℕ) (xs : List ℕ) → take (min k (length xs)) xs ≡ take k xs
  shorter k xs = grind (arith, common_steps)

-- the first bytes and then a part of the second
pub part-second : (old between new : Option (List ℕ)) (a b : List ℕ) → between ≡ written_with old a → WrotePart between new b → WrotePart old new (a ++ b)
part-second old between new a b whole part = record {
  count = length a + part.count;
  written = part.written ∙ ap (λ written. written_with written (take part.count b)) whole ∙ written-then old a (take part.count b)
      ∙ ap (written_with old) (sym (take-append-add a b part.count));
}

pub both : {K E : Type 0} (sink : SinkOf K) (old mid new : K) (a b : List ℕ) (last : Result (Unit {0}) E) → sink.written mid ≡ written_with (sink.written old) a
    → sink.faults mid ≡ sink.faults old → HasWritten sink mid new b last → HasWritten sink old new (a ++ b) last
both sink old mid new a b (Ok done) whole kept more = record {
  whole = more.whole ∙ ap (λ written. written_with written b) whole ∙ written-then (sink.written old) a b;
  part = part-second _ _ _ a b whole more.part;
  kept = more.kept ∙ kept;
  rose = tt;
}
both sink old mid new a b (Err fault) whole kept more = record {
  whole = tt;
  part = part-second _ _ _ a b whole more.part;
  kept = tt;
  rose = subst (λ n. Rose n (sink.faults new)) kept more.rose;
}

-- the first bytes were written, and then the second as far as that came
pub written-both : {K E : Type 0} {sink : SinkOf K} {old mid new : K} {a b : List ℕ} {done : Unit {0}} {last : Result (Unit {0}) E}
    → HasWritten {K = K} {E = E} sink old mid a (Ok done) → HasWritten sink mid new b last → HasWritten sink old new (a ++ b) last
written-both {sink = sink} {old = old} {mid = mid} {new = new} {a = a} {b = b} {last = last} first more =
    both sink old mid new a b last first.whole first.kept more

-- the line of what is known to be this
pub same-line : {K E X : Type 0} {sink : SinkOf K} {old new : K} {result : Result (Unit {0}) E} {x y : X} (line : X → List ℕ) → x ≡ y
    → HasWritten sink old new (line y) result → HasWritten sink old new (line x) result
same-line {sink = sink} {old = old} {new = new} {result = result} line same has =
    subst (λ x. HasWritten sink old new (line x) result) (sym same) has

-- the first bytes were written as far as that came, and nothing behind them
pub failed-first : {K E : Type 0} {sink : SinkOf K} {old new : K} {e : E} (a b : List ℕ) → HasWritten {K = K} {E = E} sink old new a (Err e)
    → HasWritten sink old new (a ++ b) (Err e)
failed-first a b has = record { whole = tt; part = part-first _ _ a b has.part; kept = tt; rose = has.rose }

-- nothing was written where nothing was to be
pub written-none : {K E : Type 0} {sink : SinkOf K} {new : K} {done : Unit {0}} → HasWritten {K = K} {E = E} sink new new [] (Ok done)
written-none {sink = sink} {new = new} = record {
  whole = sym (with-none (sink.written new));
  part = record { count = 0; written = sym (with-none (sink.written new)) };
  kept = refl;
  rose = tt;
} where
  with-none : (written : Option (List ℕ)) → written_with written [] ≡ written
  with-none None = refl
  with-none (Some before) = ap Some (append-nil before)
