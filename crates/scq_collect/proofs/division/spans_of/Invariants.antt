use Rattle.std.proofs.Common.{◌++◌, ◌^◌, ◌<◌, ◌-◌, List, length}
use Rattle.scq_collect.specs.declared.spans.Span.{Span}
use Rattle.scq_collect.specs.Exports.{AreNext}
use Rattle.scq_collect.proofs.division.spans_of.Given as goal

-- with any that divide the places that are left, those so far divide all
abbrev pub invariant-spans : goal.invariant-spans
invariant-spans l = record {
  within : l.least < 2 ^ 64;
  step : 0 < l.step;
  next : (rest : List Span) → AreNext l.least rest → AreNext 0 (l.spans.items ++ rest);
}

abbrev pub decreases-spans : goal.decreases-spans
decreases-spans l = length l.samples - l.at
