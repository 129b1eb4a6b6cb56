-- The parts of messages, one message behind the other.
use Rattle.std.proofs.Common.{◌≡◌, refl, sym, ◌∙◌, ap, arith, zero, suc, true, false, Bool, ℕ, ◌+◌, ◌≤◌, List, [], ◌∷◌, ◌++◌, map}
use Rattle.std.specs.Prelude.{flat_map}
use Rattle.std.specs.List.{All, range_with_len}
use Rattle.std.proofs.lemmas.Grind.{flat_map-append}
use Rattle.std.proofs.lemmas.List.Elements.{All-nil, All-append, All-map}
use Rattle.scq_frames.specs.declared.message.Message.{Message}
use Rattle.scq_frames.specs.Exports.{Part, all_parts, part_of, parts_of}
use Rattle.scq_files.specs.Exports.{is_of, own_of}
use Rattle.scq_worker.specs.Exports.{parts_in}
use Rattle.std.proofs.lemmas.List.Folds.{flat_map-map}

-- they are on the topics of their messages
pub known-parts : (size known : ℕ) (ms : List Message) → All (λ m. m.topic ≤ known) ms → All (λ p. p.topic ≤ known) (parts_in size ms)
known-parts size known [] low = All-nil (λ (p : Part). p.topic ≤ known)
known-parts size known (m ∷ ms) low =
    let here : m.topic ≤ known = low zero m (omega arith) in
    All-append (λ (p : Part). p.topic ≤ known) (all_parts size m) (parts_in size ms)
    (All-map (λ (p : Part). p.topic ≤ known) (part_of size m) (range_with_len 1 (parts_of size m.payload)) (λ k d less. here))
    (known-parts size known ms (λ k d less. low (suc k) d (omega (arith, less))))

-- those of several lists
pub flat-parts : {W : Type 0} (size : ℕ) (f : W → List Message) (ws : List W) → flat_map (λ w. parts_in size (f w)) ws ≡ parts_in size (flat_map f ws)
flat-parts size f [] = refl
flat-parts size f (w ∷ ws) =
    ap (λ (l : List Part). parts_in size (f w) ++ l) (flat-parts size f ws) ∙ sym (flat_map-append (all_parts size) (f w) (flat_map f ws))

-- those of the lists of several files, one behind the other, and of a worker's own files
pub all-parts-in : (size : ℕ) (given : List (List Message))
    → flat_map (λ (own : List Part). own) (map (parts_in size) given) ≡ parts_in size (flat_map (λ own. own) given)
all-parts-in size given = flat_map-map (λ (own : List Part). own) (parts_in size) given ∙ flat-parts size (λ (own : List Message). own) given

pub own-parts : (size workers worker file : ℕ) (given : List (List Message))
    → own_of workers worker file (map (parts_in size) given) ≡ parts_in size (own_of workers worker file given)
own-parts size workers worker file [] = refl
own-parts size workers worker file (own ∷ more) = at (own-parts size workers worker (file + 1) more) (is_of workers worker file) refl where
  at : own_of workers worker (file + 1) (map (parts_in size) more) ≡ parts_in size (own_of workers worker (file + 1) more) → (b : Bool)
      → is_of workers worker file ≡ b
      → own_of workers worker file (map (parts_in size) (own ∷ more)) ≡ parts_in size (own_of workers worker file (own ∷ more))
  at rest true e =
      rw e (ap (λ (l : List Part). parts_in size own ++ l) rest ∙ sym (flat_map-append (all_parts size) own (own_of workers worker (file + 1) more)))
  at rest false e = rw e rest
