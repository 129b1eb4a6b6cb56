-- A topic that is longer than any name is undeclared, whatever its bytes.
use Rattle.std.proofs.Common.{◌≡◌, ℕ, ◌<◌, ◌≤◌, Bool, true, false, ◌&&◌, get_or, List, [], ◌∷◌, length, refl, sym, ◌∙◌, ap, arith}
use Rattle.std.specs.Prelude.{nat_eq}
use Rattle.std.specs.Str.{bytes_eq}
use Rattle.std.proofs.lemmas.List.Sums.{position_or_len_is}
use Rattle.scq_topics.specs.Exports.{HaveShortNames, has_name, topic_of}
use Rattle.scq_topics.specs.declared.kind.Kind.{Kind}
use Rattle.scq_topics.specs.declared.kind.Kind.TheVariants.{Len}
use Rattle.scq_frames.specs.Exports.{numbered}
use Rattle.scq_frames.proofs.CutLemmas.{Overlooks}

shorter-differs : (a b : List ℕ) → length a < length b → bytes_eq a b ≡ false
shorter-differs [] [] less = absurd (omega (arith, less))
shorter-differs [] (y ∷ ys) less = refl
shorter-differs (x ∷ xs) [] less = absurd (omega (arith, less))
shorter-differs (x ∷ xs) (y ∷ ys) less =
    ap (λ (t : Bool). nat_eq x y && t) (shorter-differs xs ys (omega (arith, less))) ∙ never (nat_eq x y)
  where
    never : (t : Bool) → (t && false) ≡ false
    never true = refl
    never false = refl

undeclared : (topics : List (List ℕ × Kind)) (name : List ℕ) → HaveShortNames topics → 33 ≤ length name → topic_of topics name ≡ length topics
undeclared topics name short long =
    position_or_len_is (has_name name) topics (length topics) ([], Len) (omega arith)
    (λ k low. shorter-differs (get_or topics k ([], Len)).0 name (omega (arith, short k ([], Len) low, long))) (λ low. absurd (omega (arith, low)))

pub names-overlook : (topics : List (List ℕ × Kind)) (file : ℕ) → HaveShortNames topics → Overlooks 33 (numbered file (topic_of topics))
names-overlook topics file short line topic other payload long longer =
    let same : topic_of topics topic ≡ topic_of topics other = undeclared topics topic short long ∙ sym (undeclared topics other short longer) in
    ap (λ (n : ℕ). record { file = file; line = line; topic = n; payload = payload }) same
