-- What becomes of what a worker passes on: each is sent, or made directly.
use Rattle.std.specs.Prelude.{Bool, List, [], ◌∷◌, ◌++◌, filter}
use Rattle.std.specs.List.{AllZip}
use Rattle.scq_core.specs.declared.ended.Ended.{Ended}

-- these, in order, are each the next of some sends or the next of what was made directly, and there
-- are no others of both
pub data ArePassedOn {P S D : Type 0} (Sends : P → S → Type 0) (Makes : P → D → Type 0) : List P
    → List S → List D → Type 0 where
  none : ArePassedOn Sends Makes [] [] []
  and_sent : {ps : List P} {sends : List S} {directs : List D} (p : P) (send : S)
      → ArePassedOn Sends Makes ps sends directs → Sends p send
      → ArePassedOn Sends Makes (ps ++ p ∷ []) (sends ++ send ∷ []) directs
  and_made : {ps : List P} {sends : List S} {directs : List D} (p : P) (d : D)
      → ArePassedOn Sends Makes ps sends directs → Makes p d
      → ArePassedOn Sends Makes (ps ++ p ∷ []) sends (directs ++ d ∷ [])

-- these, in order, are each the next of those calls of a record that count, and there are no other
-- such calls
abbrev pub EachHasItsCall : {P : Type 0} → (P → Ended → Type 0) → (Ended → Bool) → List P
    → List Ended → Type 0
EachHasItsCall Is counts ps calls = AllZip Is ps (filter counts calls)
