-- What the lines of a report say together
use Rattle.std.specs.Prelude.{ℕ, Bool, true, false, nat_lt, Option, Some, None, if◌then◌else◌}
use Rattle.scq_check.specs.declared.failures.Failures.{Failures}
use Rattle.scq_judge.specs.Report.{tests_gots, tests_order, tests_empty, tests_refused}
use Rattle.scq_judge.specs.Report.{tests_opening}
use Rattle.scq_judge.specs.declared.finding.Finding.{Finding}
use Rattle.scq_judge.specs.declared.finding.Finding.TheVariants.{Holds, NotTested, Fails}
use Rattle.scq_judge.specs.declared.judging.Report.{Report}

-- what the line of an aspect says, as in `failures_text`: it fails where an event breaks the
-- aspect; else it holds, or is not tested where the history has no case of it
abbrev pub unbroken_finding : Bool → Finding
unbroken_finding true = Holds
unbroken_finding false = NotTested

abbrev pub finding_of : Bool → Option ℕ → Finding
finding_of tested None = unbroken_finding tested
finding_of tested (Some e) = Fails

-- so of the line on the room, and of that on opening tokens. A line that doesn't stand there says
-- nothing against what holds
abbrev pub full_finding : Bool → Option Failures → Finding
full_finding tested None = Holds
full_finding tested (Some failures) = finding_of tested failures.first

abbrev pub opening_finding : Report → Finding
opening_finding r =
    if nat_lt 1 r.tokens then finding_of (tests_opening r) r.breaches.opening.first else Holds

-- the worse of two: one that fails, else one that isn't tested
abbrev pub worse : Finding → Finding → Finding
worse Fails other = Fails
worse NotTested Fails = Fails
worse NotTested other = NotTested
worse Holds other = other

-- the worst that a line of the report says
abbrev pub worst_finding : Report → Finding
worst_finding r =
    let fresh = finding_of (tests_gots r) r.breaches.fresh.first in
    let once = finding_of (tests_gots r) r.breaches.once.first in
    let in_order = finding_of (tests_order r) r.breaches.in_order.first in
    let empty_right = finding_of (tests_empty r) r.breaches.empty_right.first in
    let accepted = finding_of (tests_refused r) r.breaches.accepted.first in
    let full = full_finding (tests_refused r) r.full in
    worse (worse (worse (worse (worse (worse fresh once) in_order) empty_right) accepted) full)
    (opening_finding r)
