-- The opening tokens at the front of an order: each stands once, in order, and a sequential queue takes them one after the other
use Rattle.std.proofs.Common.{◌≡◌, ℕ, suc, ◌+◌, ◌<◌, ◌≤◌, inl, inr, List, [], ◌∷◌, ◌++◌, length, refl, sym, ap, subst, arith}
use Rattle.std.specs.Prelude.{Some, slice_get}
use Rattle.std.proofs.lemmas.Bool.{cases_eq}
use Rattle.std.proofs.lemmas.List.{append-nil, append_assoc}
use Rattle.scq_hist.specs.Exports.{StandsIn, Distinct}
use Rattle.scq_hist.specs.declared.events.Event.{Event}
use Rattle.scq_hist.specs.declared.events.PutName.{PutName}
use Rattle.scq_hist.specs.declared.events.PutName.TheVariants.{Opening}
use Rattle.scq_order.specs.Exports.{Member, token, StandsBefore, AnswersPlainly}
use Rattle.scq_judge.specs.Ordering.{tokens_from}
use Rattle.scq_judge.specs.Sequential.{held_from}

pub token_in : (j : ℕ) (opening : List (List ℕ)) (i : ℕ) → j ≤ i → i < j + length opening → StandsIn (tokens_from j opening) (token i)
token_in j [] i low high = absurd (omega arith)
token_in j (content ∷ more) i low high = elim (cases_eq i j) [
  | inl e ↦ inl (ap token (sym e))
  | inr ne ↦ inr (token_in (suc j) more i (omega arith) (omega arith))
]

pub record IsToken (j : ℕ) (opening : List (List ℕ)) (m : Member) : Type 0 where
  pub i : ℕ
  pub is : m ≡ token i
  pub low : j ≤ i
  pub high : i < j + length opening

pub token_is : (j : ℕ) (opening : List (List ℕ)) (m : Member) → StandsIn (tokens_from j opening) m → IsToken j opening m
token_is j [] m h = absurd h
token_is j (content ∷ more) m (inl e) = record { i = j; is = sym e; low = omega arith; high = omega arith }
token_is j (content ∷ more) m (inr h) =
    let r = token_is (suc j) more m h in
    let a = r.low in let b = r.high in record { i = r.i; is = r.is; low = omega arith; high = omega arith }

pub tokens_once : (j : ℕ) (opening : List (List ℕ)) → Distinct (tokens_from j opening)
tokens_once j [] = tt
tokens_once j (content ∷ more) = (
  λ h. let r = token_is (suc j) more (token j) h in let e = r.is in let same : j ≡ r.i = cc in let low = r.low in omega arith,
  tokens_once (suc j) more,
)

pub tokens_rise : (j : ℕ) (opening : List (List ℕ)) (i k : ℕ) → j ≤ i → i < k → k < j + length opening → StandsBefore (tokens_from j opening) (token i) (token k)
tokens_rise j [] i k low lt high = absurd (omega arith)
tokens_rise j (content ∷ more) i k low lt high = elim (cases_eq i j) [
  | inl e ↦ inl (ap token (sym e), token_in (suc j) more k (omega arith) (omega arith))
  | inr ne ↦ inr (tokens_rise (suc j) more i k (omega arith) lt (omega arith))
]

-- what is answered behind the tokens is answered from before them on
pub tokens_answered : (opening : List (List ℕ)) (events : List Event) (j : ℕ) (some : List (List ℕ)) (queue : List (PutName × List ℕ)) (rest : List Member)
    → ((i : ℕ) (content : List ℕ) → slice_get some i ≡ Some content → slice_get opening (j + i) ≡ Some content)
    → AnswersPlainly opening events (queue ++ held_from j some) rest → AnswersPlainly opening events queue (tokens_from j some ++ rest)
tokens_answered opening events j [] queue rest are h = subst (λ q. AnswersPlainly opening events q rest) (append-nil queue) h
tokens_answered opening events j (content ∷ more) queue rest are h =
    let at : j + 0 ≡ j = omega arith in
    let next : (i : ℕ) → j + suc i ≡ suc j + i = λ i. omega arith in (
      content,
      subst (λ z. slice_get opening z ≡ Some content) at (are 0 content refl),
      tokens_answered opening events (suc j) more (queue ++ (Opening j, content) ∷ []) rest
          (λ i w is. subst (λ z. slice_get opening z ≡ Some w) (next i) (are (suc i) w is))
          (subst (λ q. AnswersPlainly opening events q rest) (sym (append_assoc queue ((Opening j, content) ∷ []) (held_from (suc j) more))) h),
    )
