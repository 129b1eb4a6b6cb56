-- Where the limit is enough for the puts that were begun, no ticket was kept: the bound of each ring is within the limit, since it
-- rises with the puts and the opening puts are in `limit_for`.
use Rattle.std.proofs.Common.{◌≡◌, refl, ◌∙◌, ap, arith, ℕ, ◌+◌, ◌*◌, ◌≤◌, List, get_or, Option, Some, None, Bool, true, false}
use Rattle.std.specs.Prelude.{if◌then◌else◌, ◌==◌}
use Rattle.std.proofs.Math.Nat.{mul-le-mul_right}
use Rattle.std.proofs.lemmas.Option.{slice_get-get_or}
use Rattle.scq_core.specs.declared.ended.Ended.{Ended}
use Rattle.scq_word.specs.declared.setup.Setup.{Setup}
use Rattle.scq_word.specs.Exports.{n_of, reset_value, ticket_bound}
use Rattle.scq_law.specs.Exports.{openings}
use Rattle.scq_band.specs.Exports.{begun_on, EachSpentIsPastTheBound, NoneIsSpentWithinTheLimit}

-- more puts use up more tickets
bound_rises : (order seats a b : ℕ) → a ≤ b → ticket_bound order seats a ≤ ticket_bound order seats b
bound_rises order seats a b le =
    let factor = reset_value order seats + 1 + seats in
    let more : (a + 1) * factor ≤ (b + 1) * factor = mul-le-mul_right factor (omega arith) in
    omega arith

few_openings : (c : Setup) (r : ℕ) → openings c r ≤ n_of c.order
few_openings c r = by (r == 0) where
  by : (b : Bool) → (if b then n_of c.order else 0) ≤ n_of c.order
  by true = omega arith
  by false = omega arith

pub none_spent_within : (c : Setup) (records : List (List Ended)) (kept : List (Option ℕ)) → EachSpentIsPastTheBound c records kept
    → NoneIsSpentWithinTheLimit c records kept
none_spent_within c records kept past puts enough few k d less = by (get_or kept k d) refl where
  by : (s : Option ℕ) → get_or kept k d ≡ s → get_or kept k d ≡ None
  by None is = is
  by (Some ticket) is =
      let over = past k ticket (slice_get-get_or kept k d less ∙ ap Some is) in
      let there = few over.ring over.low in
      let opening = few_openings c over.ring in
      let low : begun_on c records over.ring ≤ puts + n_of c.order = omega arith in
      let rises = bound_rises c.order c.seats (begun_on c records over.ring) (puts + n_of c.order) low in
      let high = over.past in
      absurd (omega arith)
