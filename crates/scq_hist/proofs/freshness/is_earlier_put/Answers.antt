use Rattle.std.proofs.Common.{arith, ◌≡◌, ℕ, ◌<◌, ◌↔◌, length, List, false, IsTrue, Bool}
use Rattle.std.proofs.lemmas.Option.{slice_get_within, MatchOption-at_none, MatchOption-at_some}
use Rattle.scq_hist.specs.Exports.{IsPut, NoPutBefore}
use Rattle.scq_hist.specs.declared.events.Call.TheVariants.{Put}
use Rattle.scq_hist.specs.declared.events.Event.{Event}
use Rattle.scq_hist.specs.declared.events.Event.TheVariants.{Start}
use Rattle.scq_hist.proofs.Puts.{same_put}
use Rattle.scq_hist.proofs.freshness.is_earlier_put.Goals as goal

abbrev PutFrom : List Event → ℕ → ℕ → ℕ → List ℕ → ℕ → Type 0
PutFrom events seat number r d e = (s : ℕ) × (s < e) × IsPut events seat number r d s

found : (events : List Event) (seat number q r s e : ℕ) (c d : List ℕ) (b : Bool)
    → IsPut events seat number q c s → s < e → q ≡ r → (IsTrue b ↔ (c ≡ d)) → IsTrue b ↔ PutFrom events seat number r d e
found events seat number q r s e c d b p lt same iff = (
  λ t. (s, lt, record { starts = (let u = p.starts in let k = iff.0 t in cc); counted = p.counted }),
  λ h. iff.1 (same_put events seat number q r s h.0 c d p h.2).content,
)

other : (events : List Event) (seat number q r s e : ℕ) (c d : List ℕ)
    → IsPut events seat number q c s → (s < e → q ≡ r → ⊥) → IsTrue false ↔ PutFrom events seat number r d e
other events seat number q r s e c d p apart = (
  λ t. absurd cc,
  λ h. let same = same_put events seat number q r s h.0 c d p h.2 in let lt = h.1 in let a = same.start in absurd (apart (omega arith) same.queue),
)

missing : (events : List Event) (seat number r e : ℕ) (d : List ℕ)
    → NoPutBefore events seat number (length events) → IsTrue false ↔ PutFrom events seat number r d e
missing events seat number r e d n = (
  λ t. absurd cc,
  λ h. absurd (n.none h.0 r d (slice_get_within events h.0 (Start seat (Put r d)) h.2.starts) h.2),
)

pub returns-in-Some : goal.returns-in-Some
returns-in-Some c = λ events seat number put.
    found events seat number _ _ _ _ _ _ _ (MatchOption-at_some _ _ _ c.in-Some.is put) c.if-start-e.true c.if-of-queue.true c.same_bytes.ensures

pub returns-in_default : goal.returns-in_default
returns-in_default c = λ events seat number put.
    other events seat number _ _ _ _ _ _ (MatchOption-at_some _ _ _ c.in-Some.is put) (λ _ same. c.if-of-queue.false same)

pub returns-in_default-2 : goal.returns-in_default-2
returns-in_default-2 c = λ events seat number put.
    other events seat number _ _ _ _ _ _ (MatchOption-at_some _ _ _ c.in-Some.is put)
    (λ lt _. let ge = c.if-start-e.false in absurd (omega arith))

pub returns-in_default-3 : goal.returns-in_default-3
returns-in_default-3 c = λ events seat number put. missing events seat number _ _ _ (MatchOption-at_none _ _ c.in_default.is put)
