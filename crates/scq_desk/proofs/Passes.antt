-- What a worker's calls make of its pass, whatever a worker is.
use Rattle.std.proofs.Common.{rules, ◌≡◌, refl, ◌∙◌, ap, subst, ℕ, List, [], ◌∷◌, ◌++◌, Option, Some, None}
use Rattle.std.specs.Prelude.{IfSome}
use Rattle.scq_core.specs.declared.ended.Ended.{Ended}
use Rattle.scq_core.specs.declared.ended.Ended.TheVariants.{Nothing}
use Rattle.scq_band.specs.Exports.{Identity}
use Rattle.scq_queue.specs.Exports.{PassStanding, HeldStanding, first_pass}
use Rattle.scq_passes.specs.Exports.{Suits, HasFoundFull, HasLeftSo, IsBetweenParts, index_of}
use Rattle.scq_desk.specs.GoingOn.{HasStopped}

-- no ticket is kept, or this one
pub none-or : (o : Option ℕ) (ticket : ℕ) → o ≡ Some ticket → o ≡ None → ⊥
none-or o ticket is none = absurd (cc)

-- of no calls each is nowhere
pub no-call : (before after : List Ended) (call : Ended) → [] ≡ before ++ call ∷ after → ⊥
no-call [] after call is = absurd (cc)
no-call (x ∷ before) after call is = absurd (cc)

module _ {B : Type 0} where
  -- a new one is between two parts
  pub between-first : (shared : Identity B) (number : ℕ) → IsBetweenParts (first_pass shared number)
  between-first shared number = record {
    alone = λ before after at. absurd (no-call before after (Nothing 0) at);
    even = refl;
    none = refl;
    unspent = λ ring ticket put has. absurd (search rules);
    knows = record { sends = λ m has. absurd (search rules) };
  }

  -- where it found no buffer free it suits still
  pub suits-full : (shared : Identity B) (topics head : ℕ) (p q : PassStanding B) → Suits shared topics p → HasFoundFull head p q → Suits shared topics q
  suits-full shared topics head p q suits h =
      record {
        queue = ap (λ (x : PassStanding B). x.queue) h.pass ∙ suits.queue;
        rings = suits.rings;
        numbers = h.knows.rings ∙ suits.numbers;
        spent = ap (λ (x : PassStanding B). x.spent) h.pass ∙ suits.spent;
      }

  -- it held nothing, and met a ticket past the limit
  pub stopped-left : (Few : ℕ → ℕ → PassStanding B → Type 0) (shared : Identity B) (few many : ℕ) (p q : PassStanding B) (kept : Option (HeldStanding B))
      → Few 0 few p → p.held ≡ [] → p.queue ≡ shared → p.retired ≡ None → HasLeftSo Few few many p q kept → HasStopped (Few 1 many) shared q kept
  stopped-left Few shared few many p q kept was none queue stays left =
      record {
        spent = left.spent;
        few_calls = left.few_calls was;
        queue = left.own.0 ∙ queue;
        stays = left.own.2 ∙ stays;
        held = left.held ∙ ap (λ l. l ++ index_of kept) none;
        its = subst (λ (x : Identity B). IfSome kept (λ h. h.queue ≡ x)) queue left.its;
      }
