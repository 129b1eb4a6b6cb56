-- A worker's list when the parts of a value are answered.
use Rattle.std.proofs.Common.{◌≡◌, refl, sym, ◌∙◌, ap, Bool, true, false, ◌+◌, ◌≤◌, List, [], ◌∷◌, ◌++◌, length, ℕ, map}
use Rattle.std.specs.Prelude.{filter, nat_le}
use Rattle.std.specs.List.{All, AllByRecursion}
use Rattle.std.proofs.lemmas.Bool.{le-leb}
use Rattle.std.proofs.lemmas.Grind.{flat_map-append}
use Rattle.std.proofs.lemmas.List.{append-nil}
use Rattle.std.proofs.lemmas.List.Elements.{filter-append, recursion_from_All}
use Rattle.scq_topics.specs.declared.kind.Kind.{Kind}
use Rattle.scq_frames.specs.Exports.{Part}
use Rattle.scq_collect.specs.declared.answered.Answered.{Answered}
use Rattle.scq_collect.specs.declared.answered.Way.{Way}
use Rattle.scq_collect.specs.declared.answered.Way.TheVariants.{Taken, Direct}
use Rattle.scq_queue.specs.Exports.{Placed}
use Rattle.scq_worker.specs.Exports.{answered, answers_from, answers_by, answers_to_take, answers_to_takes, numbered_way, is_taken, is_direct}
use Rattle.scq_worker.specs.Exports.{AnswersSoFar}

module _ (topics : List (List ℕ × Kind)) where
  -- a test of ways that these answers all pass, and one that none does
  all-pass : (test : Answered → Bool) (way : Way) (number : ℕ) (parts : List Part) → ((n : ℕ) (p : Part) → test (answered topics (numbered_way way n) p) ≡ true)
      → filter test (answers_from topics way number parts) ≡ answers_from topics way number parts
  all-pass test way number [] passes = refl
  all-pass test way number (p ∷ ps) passes = at (all-pass test way (number + 1) ps passes) (nat_le p.topic (length topics)) refl where
    at : filter test (answers_from topics way (number + 1) ps) ≡ answers_from topics way (number + 1) ps → (b : Bool) → nat_le p.topic (length topics) ≡ b
        → filter test (answers_from topics way number (p ∷ ps)) ≡ answers_from topics way number (p ∷ ps)
    at rest true e =
        rw e (rw (passes number p) (ap (λ (l : List Answered). answered topics (numbered_way way number) p ∷ l) rest))
    at rest false e = rw e rest

  none-pass : (test : Answered → Bool) (way : Way) (number : ℕ) (parts : List Part) → ((n : ℕ) (p : Part) → test (answered topics (numbered_way way n) p) ≡ false)
      → filter test (answers_from topics way number parts) ≡ []
  none-pass test way number [] fails = refl
  none-pass test way number (p ∷ ps) fails = at (none-pass test way (number + 1) ps fails) (nat_le p.topic (length topics)) refl where
    at : filter test (answers_from topics way (number + 1) ps) ≡ [] → (b : Bool) → nat_le p.topic (length topics) ≡ b → filter test (answers_from topics way number (p ∷ ps)) ≡ []
    at rest true e = rw e (rw (fails number p) rest)
    at rest false e = rw e rest

  -- what was taken, and what was answered directly
  pub takens-taken : (place first : ℕ) (parts : List Part)
      → filter is_taken (answers_by topics (Taken place first) parts) ≡ answers_by topics (Taken place first) parts
  takens-taken place first parts = all-pass is_taken (Taken place first) 0 parts (λ n p. refl)

  pub directs-taken : (place first : ℕ) (parts : List Part) → filter is_direct (answers_by topics (Taken place first) parts) ≡ []
  directs-taken place first parts = none-pass is_direct (Taken place first) 0 parts (λ n p. refl)

  each-direct : (head number : ℕ) (parts : List Part) → AllByRecursion (λ p. p.topic ≤ length topics) parts
      → answers_from topics (Direct head) number parts ≡ map (answered topics (Direct head)) parts
  each-direct head number [] known = refl
  each-direct head number (p ∷ ps) known =
      rw (le-leb p.topic (length topics) known.0)
      (ap (λ (l : List Answered). answered topics (Direct head) p ∷ l) (each-direct head (number + 1) ps known.1))

  -- parts on known topics, answered directly: each with the same way
  pub answers-direct : (head : ℕ) (parts : List Part) → All (λ p. p.topic ≤ length topics) parts
      → answers_by topics (Direct head) parts ≡ map (answered topics (Direct head)) parts
  answers-direct head parts known = each-direct head 0 parts (recursion_from_All (λ (p : Part). p.topic ≤ length topics) parts known)

  -- the parts of a value that was taken are answered
  pub so-far-answered : (takes : List Placed) (was is : List Answered) (take : Placed) → is ≡ was ++ answers_to_take topics take
      → AnswersSoFar topics takes (filter is_taken was) → AnswersSoFar topics (takes ++ take ∷ []) (filter is_taken is)
  so-far-answered takes was is take grown before =
      ap (filter is_taken) grown ∙ filter-append is_taken was (answers_to_take topics take)
      ∙ ap (λ (l : List Answered). filter is_taken was ++ l) (takens-taken take.place 0 _)
      ∙ ap (λ (l : List Answered). l ++ answers_to_take topics take) before
      ∙ ap (λ (l : List Answered). answers_to_takes topics takes ++ l) (sym (append-nil (answers_to_take topics take)))
      ∙ sym (flat_map-append (answers_to_take topics) takes (take ∷ []))

  pub directs-kept : (was is : List Answered) (take : Placed) → is ≡ was ++ answers_to_take topics take → filter is_direct is ≡ filter is_direct was
  directs-kept was is take grown =
      ap (filter is_direct) grown ∙ filter-append is_direct was (answers_to_take topics take)
      ∙ ap (λ (l : List Answered). filter is_direct was ++ l) (directs-taken take.place 0 _)
      ∙ append-nil (filter is_direct was)
