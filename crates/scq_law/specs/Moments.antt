-- How the words of all rings rise along a run, from moment to moment.
use Rattle.std.specs.Prelude.{◌≡◌, ℕ, ◌≤◌, List, take}
use Rattle.scq_word.specs.declared.setup.Setup.{Setup}
use Rattle.scq_core.specs.declared.step.Step.{Step}
use Rattle.scq_core.specs.Exports.{RankRises, CountersRise, CatchUpLags}
use Rattle.scq_law.specs.Run.{Recorded, IsRun}

-- the first i steps are a run, and this is recorded of it
abbrev pub IsMoment : Setup → List (List ℕ) → List (ℕ × Step) → ℕ → Recorded → Type 0
IsMoment c opening steps i recorded = IsRun c opening (take i steps) recorded

abbrev pub word_of_entry : Recorded → ℕ → ℕ → ℕ
word_of_entry recorded r s = recorded.state.cells.entries.word r s

-- from a moment to a later one each entry is as it was, or its rank rose, and Tail and Head have
-- not fallen. What a word was it is not again once it has changed. And while a dequeue catches up,
-- Tail is past what it found there
pub record RisesThroughout (c : Setup) (opening : List (List ℕ))
    (steps : List (ℕ × Step)) : Type 0 where
  pub ranks : (i j : ℕ) (now later : Recorded) → i ≤ j → IsMoment c opening steps i now
      → IsMoment c opening steps j later
      → RankRises c now.state.cells later.state.cells
  pub counters : (i j : ℕ) (now later : Recorded) → i ≤ j → IsMoment c opening steps i now
      → IsMoment c opening steps j later
      → CountersRise now.state.cells later.state.cells
  pub never_back : (i j k : ℕ) (now later last : Recorded) → i ≤ j → j ≤ k
      → IsMoment c opening steps i now → IsMoment c opening steps j later
      → IsMoment c opening steps k last
      → (r s : ℕ) → word_of_entry last r s ≡ word_of_entry now r s
      → word_of_entry later r s ≡ word_of_entry now r s
  pub catch_ups : (i : ℕ) (now : Recorded) → IsMoment c opening steps i now → CatchUpLags now.state
