-- Which tickets are drawn, over a turn: counters only rise, and a ticket whose state changes is below its counter.
use Rattle.std.proofs.Common.{◌≡◌, ℕ, ◌⊎◌, inl, inr, refl, ◌∙◌, arith}
use Rattle.scq_word.specs.declared.setup.Setup.{Setup}
use Rattle.scq_core.specs.Exports.{Cells, CountersRise, Drawn}
use Rattle.scq_core.proofs.UpdatedLemmas.{updated_entry_or}
use Rattle.scq_law.proofs.Base.Ghosts.{Ghost, PutState, GetState, with_put, with_get}
use Rattle.scq_law.proofs.Base.BaseGroup.{IsDrawn}

pub drawn_rise : (c : Setup) (m n : Cells) (g : Ghost) → CountersRise m n → IsDrawn c m.tail m.head g → IsDrawn c n.tail n.head g
drawn_rise c m n g up drawn =
    record {
      tails = λ r t high. let rises = up.tail r in drawn.tails r t (omega arith);
      heads = λ r t high. let rises = up.head r in drawn.heads r t (omega arith);
      put_limit = drawn.put_limit;
      get_limit = drawn.get_limit;
      put_first = drawn.put_first;
      get_first = drawn.get_first;
      first_tail = λ r. let rises = up.tail r in let first = drawn.first_tail r in omega arith;
      first_head = λ r. let rises = up.head r in let first = drawn.first_head r in omega arith;
    }

-- another state of tickets, where each is as it was or was drawn
drawn_still : (c : Setup) (tail head : ℕ → ℕ) (g h : Ghost) → ((r t : ℕ) → (h.puts r t ≡ g.puts r t) ⊎ Drawn c (tail r) t)
    → ((r t : ℕ) → (h.gets r t ≡ g.gets r t) ⊎ Drawn c (head r) t) → IsDrawn c tail head g → IsDrawn c tail head h
drawn_still c tail head g h puts gets drawn =
    record {
      tails = λ r t high. elim (puts r t) [ inl same ↦ same ∙ drawn.tails r t high | inr low ↦ let below = low.below in absurd (omega arith) ];
      heads = λ r t high. elim (gets r t) [ inl same ↦ same ∙ drawn.heads r t high | inr low ↦ let below = low.below in absurd (omega arith) ];
      put_limit = λ r t high. elim (puts r t) [ inl same ↦ same ∙ drawn.put_limit r t high | inr low ↦ let below = low.below_limit in absurd (omega arith) ];
      get_limit = λ r t high. elim (gets r t) [ inl same ↦ same ∙ drawn.get_limit r t high | inr low ↦ let below = low.below_limit in absurd (omega arith) ];
      put_first = λ r t less. elim (puts r t) [ inl same ↦ same ∙ drawn.put_first r t less | inr low ↦ let first = low.first in absurd (omega arith) ];
      get_first = λ r t less. elim (gets r t) [ inl same ↦ same ∙ drawn.get_first r t less | inr low ↦ let first = low.first in absurd (omega arith) ];
      first_tail = drawn.first_tail;
      first_head = drawn.first_head;
    }

pub drawn_put : (c : Setup) (tail head : ℕ → ℕ) (g : Ghost) (r t : ℕ) (x : PutState) → Drawn c (tail r) t → IsDrawn c tail head g
    → IsDrawn c tail head (with_put g r t x)
drawn_put c tail head g r t x low =
    drawn_still c tail head g (with_put g r t x)
    (λ q u. elim (updated_entry_or g.puts r t x q u) [ inl a ↦ inr (rw (a.0, a.1) low) | inr a ↦ inl a.1 ]) (λ q u. inl refl)

pub drawn_get : (c : Setup) (tail head : ℕ → ℕ) (g : Ghost) (r h : ℕ) (x : GetState) → Drawn c (head r) h → IsDrawn c tail head g
    → IsDrawn c tail head (with_get g r h x)
drawn_get c tail head g r h x low =
    drawn_still c tail head g (with_get g r h x) (λ q u. inl refl)
    (λ q u. elim (updated_entry_or g.gets r h x q u) [ inl a ↦ inr (rw (a.0, a.1) low) | inr a ↦ inl a.1 ])
