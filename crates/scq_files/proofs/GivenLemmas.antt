-- The messages that files gave.
use Rattle.std.proofs.Common.{◌≡◌, ◌∙◌, refl, ap, arith, zero, suc, ℕ, ◌+◌, ◌≤◌, List, [], ◌∷◌, length, map, Option, Some, None}
use Rattle.std.specs.Prelude.{IfSome, option_and_then, flat_map}
use Rattle.std.specs.List.{All}
use Rattle.std.specs.Option.{option_map}
use Rattle.std.proofs.lemmas.List.Elements.{All-nil, All-append}
use Rattle.scq_topics.specs.declared.kind.Kind.{Kind}
use Rattle.scq_topics.specs.Exports.{topic_of}
use Rattle.scq_frames.specs.declared.message.Message.{Message}
use Rattle.scq_frames.specs.Exports.{numbered, messages_of}
use Rattle.scq_files.specs.Exports.{AreGiven, all_left, messages_in, AreOf}

-- the messages of a file are on known topics, and so are all
pub of-known : (known file line : ℕ) (ms : List Message) → AreOf known file line ms → All (λ m. m.topic ≤ known) ms
of-known known file line [] of k d less = absurd (omega arith)
of-known known file line (m ∷ ms) of zero d less = of.2
of-known known file line (m ∷ ms) of (suc k) d less = of-known known file m.line ms of.3 k d (omega arith)

pub given-known : {S : Type 0} (topics : List (List ℕ × Kind)) (size : ℕ) (left : S → Option (List ℕ)) (file : ℕ) (was : List S)
    (given : List (List Message)) → AreGiven topics size left file was given
    → All (λ m. m.topic ≤ length topics) (flat_map (λ own. own) given)
given-known topics size left file [] [] none = All-nil (λ (m : Message). m.topic ≤ length topics)
given-known topics size left file [] (own ∷ more) none = absurd none
given-known topics size left file (x ∷ xs) [] none = absurd none
given-known topics size left file (x ∷ xs) (own ∷ more) gave =
    All-append (λ m. m.topic ≤ length topics) own (flat_map (λ own. own) more) (of-known (length topics) file 0 own gave.0.of)
    (given-known topics size left (file + 1) xs more gave.1)

-- where the bytes of all files are visible, they are those of the contents
pub given-told : {S : Type 0} (topics : List (List ℕ × Kind)) (size : ℕ) (left : S → Option (List ℕ)) (file : ℕ) (was : List S)
    (given : List (List Message)) → AreGiven topics size left file was given
    → IfSome (all_left left was) (λ contents. given ≡ messages_in topics file contents)
given-told topics size left file [] [] none = refl
given-told topics size left file [] (own ∷ more) none = absurd none
given-told topics size left file (x ∷ xs) [] none = absurd none
given-told topics size left file (x ∷ xs) (own ∷ more) gave =
    both (left x) (all_left left xs) gave.0.all (given-told topics size left (file + 1) xs more gave.1) where
      both : (first : Option (List ℕ)) (rest : Option (List (List ℕ))) → IfSome first (λ bytes. own ≡ map (numbered file (topic_of topics)) (messages_of bytes))
          → IfSome rest (λ contents. more ≡ messages_in topics (file + 1) contents)
          → IfSome (option_and_then (λ content. option_map (λ more. content ∷ more) rest) first) (λ contents. own ∷ more ≡ messages_in topics file contents)
      both None rest is others = tt
      both (Some bytes) None is others = tt
      both (Some bytes) (Some contents) is others = ap (λ l. l ∷ more) is ∙ ap (λ l. map (numbered file (topic_of topics)) (messages_of bytes) ∷ l) others
