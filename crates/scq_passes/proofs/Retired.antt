-- A pass that retired, and then only took and gave back: what stands in its record before that, and behind.
use Rattle.std.proofs.Common.{◌≡◌, refl, ◌∙◌, ap, sym, subst, arith, ℕ, ◌<◌, ◌≤◌, List, [], ◌∷◌, ◌++◌, length, take, drop, Option, Some}
use Rattle.std.specs.Prelude.{unwrap_or}
use Rattle.std.specs.List.{list_any, Contains}
use Rattle.std.proofs.lemmas.List.{length-append, take-append-drop}
use Rattle.std.proofs.Math.Seq.{take-append_seam, drop-append_seam}
use Rattle.scq_core.specs.declared.ended.Ended.{Ended}
use Rattle.scq_queue.specs.Exports.{Placed, sends_of, takes_of, PassStanding, known_on}
use Rattle.scq_queue.proofs.Records.{takes-append}
use Rattle.scq_passes.specs.Exports.{is_lend, on, Puts, AreReturns, HasRetired, HasTakenFollowed, KnowsItsSends, calls_before, calls_behind}
use Rattle.scq_passes.specs.Exports.{after_retire}
use Rattle.scq_passes.proofs.Blocks.{takes-no_lend, takes-no_send}
use Rattle.scq_passes.proofs.Kept.{taken-calls, taken-sends-as}
use Rattle.scq_passes.proofs.OnTopics.{on-member}
use Rattle.scq_collect.proofs.Orders.{contains-first}

-- a list that has no member
none-where : {A : Type 0} (xs : List A) → ((x : A) → Contains xs x → ⊥) → xs ≡ []
none-where [] never = refl
none-where (x ∷ xs) never = absurd (never x (contains-first x xs))

module _ {B : Type 0} where
  -- where it is known when it retired
  pub before-at : (p : PassStanding B) (calls : ℕ) → p.retired ≡ Some calls → calls_before p ≡ take calls p.calls
  before-at p calls is = ap (λ (at : Option ℕ). take (unwrap_or at (length p.calls)) p.calls) is

  pub behind-at : (p : PassStanding B) (calls : ℕ) → p.retired ≡ Some calls → calls_behind p ≡ drop calls p.calls
  behind-at p calls is = ap (λ (at : Option ℕ). drop (unwrap_or at (length p.calls)) p.calls) is

  -- both are the whole record, and their takes all takes
  pub before-and-behind : (p : PassStanding B) → p.calls ≡ calls_before p ++ calls_behind p
  before-and-behind p = sym (take-append-drop (unwrap_or p.retired (length p.calls)) p.calls)

  pub takes-before-and-behind : (p : PassStanding B) → takes_of p.calls ≡ takes_of (calls_before p) ++ takes_of (calls_behind p)
  takes-before-and-behind p = ap takes_of (before-and-behind p) ∙ takes-append (calls_before p) (calls_behind p)

  -- a pass that retired, and then took
  pub before-retired : {By : Puts} (p q : PassStanding B) → HasTakenFollowed By (after_retire p) q → calls_before q ≡ p.calls
  before-retired p q h =
      before-at q (length p.calls) (ap (λ (x : PassStanding B). x.retired) h.pass) ∙ ap (take (length p.calls)) (taken-calls (after_retire p) q h)
      ∙ take-append_seam p.calls h.block

  pub behind-retired : {By : Puts} (p q : PassStanding B) (h : HasTakenFollowed By (after_retire p) q) → calls_behind q ≡ h.block
  behind-retired p q h =
      behind-at q (length p.calls) (ap (λ (x : PassStanding B). x.retired) h.pass) ∙ ap (drop (length p.calls)) (taken-calls (after_retire p) q h)
      ∙ drop-append_seam p.calls h.block

  -- where it only gave back, its sends are those from before
  pub retired-sends : {By : Puts} → AreReturns By → (p q : PassStanding B) → HasTakenFollowed By (after_retire p) q → sends_of q.calls ≡ sends_of p.calls
  retired-sends home p q h = taken-sends-as home (after_retire p) q h

  pub retired-taken : {By : Puts} (Before : List Ended → Type 0) → AreReturns By → (p q : PassStanding B) → Before p.calls
      → HasTakenFollowed By (after_retire p) q
      → HasRetired Before q
  retired-taken Before home p q had h =
      let calls : q.calls ≡ p.calls ++ h.block = taken-calls (after_retire p) q h in
      let front : take (length p.calls) q.calls ≡ p.calls = ap (take (length p.calls)) calls ∙ take-append_seam p.calls h.block in
      let rest : drop (length p.calls) q.calls ≡ h.block = ap (drop (length p.calls)) calls ∙ drop-append_seam p.calls h.block in
      record {
        calls = length p.calls;
        retired = ap (λ (x : PassStanding B). x.retired) h.pass;
        within = omega (arith, ap length calls, length-append p.calls h.block);
        before = subst Before (sym front) had;
        lends = ap (list_any is_lend) rest ∙ takes-no_lend h.block h.are;
        sends = ap sends_of rest ∙ takes-no_send home h.block h.are;
      }

  -- where a pass had known a topic as empty when it retired, and took later from no lower place, what it took there then is none of its own
  -- sends: so where it took only those, it took nothing
  pub nothing-behind : (topic : ℕ) (at p : PassStanding B) → KnowsItsSends at → (known_on topic at).finished < (known_on topic at).head
      → ((m : Placed) → Contains (on topic (takes_of (calls_behind p))) m → (known_on topic at).head ≤ m.place)
      → ((m : Placed) → Contains (on topic (takes_of (calls_behind p))) m → Contains (sends_of at.calls) m)
      → on topic (takes_of (calls_behind p)) ≡ []
  nothing-behind topic at p knows past high own = none-where (on topic (takes_of (calls_behind p))) (λ m has.
      let its = on-member topic (takes_of (calls_behind p)) m has in
      let low = (knows.sends m (own m has)).1 in
      let here : m.place ≤ (known_on topic at).finished = subst (λ t. m.place ≤ (known_on t at).finished) its.1 low in
      let there = high m has in
      omega arith)
