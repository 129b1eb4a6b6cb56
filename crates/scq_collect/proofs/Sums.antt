-- The totals of some answers, of those with one more, and of those with others behind them.
use Rattle.std.proofs.Common.{◌≡◌, ◌≢◌, ◌∙◌, sym, ap, inl, inr, arith, true, false, ℕ, ◌+◌, ◌*◌, ◌<◌, ◌≤◌, Bool, List, [], ◌∷◌, ◌++◌, length, set, get_or, cond, eqb, get_or-set_same, get_or-set_other}
use Rattle.std.proofs.lemmas.Bool.Decides.{eqb_tells}
use Rattle.std.proofs.lemmas.List.{length-append}
use Rattle.std.proofs.lemmas.List.Sums.{sum_by_push}
use Rattle.scq_collect.specs.Exports.{Answer, bytes_on, count_on}

-- how many answers are on the topic, with one more
pub count-push : (answers : List Answer) (a : Answer) (topic : ℕ) → count_on topic (answers ++ a ∷ []) ≡ count_on topic answers + cond (eqb a.topic topic) 1 0
count-push answers a topic = sum_by_push (λ (a : Answer). cond (eqb a.topic topic) 1 0) answers a

-- how many bytes they have
pub bytes-push : (answers : List Answer) (a : Answer) (topic : ℕ)
    → bytes_on topic (answers ++ a ∷ []) ≡ bytes_on topic answers + cond (eqb a.topic topic) a.bytes 0
bytes-push answers a topic = sum_by_push (λ (a : Answer). cond (eqb a.topic topic) a.bytes 0) answers a

-- a table of one number for each topic, in which what is added to one of them is added
pub added : (table : List ℕ) (before after : ℕ → ℕ) (at more : ℕ) → length table ≡ 17 → at < 17 → ((k : ℕ) → k < 17 → get_or table k 0 ≡ before k)
    → ((k : ℕ) → after k ≡ before k + cond (eqb at k) more 0) → (k : ℕ) → k < 17 → get_or (set table at (get_or table at 0 + more)) k 0 ≡ after k
added table before after at more long within was grows k small = elim (eqb_tells at k) [
  | inl same ↦
      let there : get_or (set table at (get_or table at 0 + more)) at 0 ≡ get_or table at 0 + more = get_or-set_same table at _ 0 (omega (arith, long)) in
      let grown : after k ≡ before k + more = grows k ∙ ap (λ b. before k + cond b more 0) same.0 in
      let old : get_or table at 0 ≡ before k = ap (λ j. get_or table j 0) same.1 ∙ was k small in
      ap (λ j. get_or (set table at (get_or table at 0 + more)) j 0) (sym same.1) ∙ there ∙ ap (λ n. n + more) old ∙ sym grown
  | inr other ↦
      let apart : k ≢ at = λ e. other.1 (sym e) in
      let grown : after k ≡ before k + 0 = grows k ∙ ap (λ b. before k + cond b more 0) other.0 in
      let kept : get_or (set table at (get_or table at 0 + more)) k 0 ≡ get_or table k 0 = get_or-set_other table at k _ 0 apart in
      omega (arith, grown, kept, was k small)
]

-- each answer adds less than 2 ^ 64
pub bytes-small : (answers : List Answer) (a : Answer) (topic : ℕ) → a.bytes ≤ 18446744073709551615
    → bytes_on topic answers ≤ length answers * 18446744073709551615
    → bytes_on topic (answers ++ a ∷ []) ≤ length (answers ++ a ∷ []) * 18446744073709551615
bytes-small answers a topic few small = at (eqb a.topic topic) (bytes-push answers a topic) where
  at : (b : Bool) → bytes_on topic (answers ++ a ∷ []) ≡ bytes_on topic answers + cond b a.bytes 0
      → bytes_on topic (answers ++ a ∷ []) ≤ length (answers ++ a ∷ []) * 18446744073709551615
  at true grown = omega (arith, grown, few, small, length-append answers (a ∷ []))
  at false grown = omega (arith, grown, small, length-append answers (a ∷ []))
