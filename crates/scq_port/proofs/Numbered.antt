-- The buffer of an index has its number, as long as the queue was given buffers in the order of their numbers.
use Rattle.std.proofs.Common.{◌≡◌, ℕ, zero, suc, List, [], ◌∷◌, ◌++◌, length, map, refl, sym, ◌∙◌, ap, inl, inr, arith}
use Rattle.std.specs.Prelude.{Some, None, slice_get}
use Rattle.std.specs.Option.{option_map}
use Rattle.std.proofs.lemmas.Bool.{cases_eq}
use Rattle.std.proofs.lemmas.List.{length-append}
use Rattle.std.proofs.lemmas.Option.{slice_get-map}
use Rattle.scq_word.specs.Exports.{n_of}
use Rattle.scq_band.specs.Exports.{AreTheSame, IsAsGiven}
use Rattle.scq_queue.proofs.Leaving.{get_last}
use Rattle.scq_port.specs.declared.port_buffer.PortBuffer.{PortBuffer}
use Rattle.scq_port.specs.Exports.{four_bytes, numbers_below, PortQueue, Value, AreNumbered, buffer_bytes, HasItsNumber}
use Rattle.scq_port.proofs.Unpacking.{before_last}

numbers_length : (n : ℕ) → length (numbers_below n) ≡ n
numbers_length zero = refl
numbers_length (suc n) =
    let e = numbers_length n in
    let more = length-append (numbers_below n) (four_bytes n ∷ []) in
    omega (arith, e, more)

-- what stands among the numbers is the number of its place
numbered : (n i : ℕ) (x : List ℕ) → slice_get (numbers_below n) i ≡ Some x → x ≡ four_bytes i
numbered zero i x at = absurd (let no : None ≡ Some x = at in cc)
numbered (suc n) i x at =
    elim (cases_eq i (length before)) [
      | inl last ↦
          let both : Some (four_bytes n) ≡ Some x =
          sym (get_last before (four_bytes n))
          ∙ ap (λ (k : ℕ). slice_get (before ++ four_bytes n ∷ []) k) (sym last) ∙ at in
          let same : four_bytes n ≡ x = cc in
          sym same ∙ ap four_bytes (sym (last ∙ numbers_length n))
      | inr other ↦ numbered n i x (sym (before_last before (four_bytes n) i other) ∙ at)
    ]
  where
    before : List (List ℕ)
    before = numbers_below n

-- a value whose buffer is the one that the queue was given for its index contains this number
pub number_of : (queue : PortQueue) (h : Value) → AreNumbered queue
    → IsAsGiven (λ (a b : PortBuffer). a.number.value ≡ b.number.value) queue.given h.index h.buffer → HasItsNumber h
number_of queue h numbers is =
    sym is.same
    ∙ numbered (n_of queue.setup.order) h.index (buffer_bytes is.first)
    (ap (λ (l : List (List ℕ)). slice_get l h.index) (sym numbers) ∙ slice_get-map buffer_bytes queue.given h.index
    ∙ ap (λ o. option_map buffer_bytes o) is.was)

-- the same buffers have the same numbers
same_numbers : (given buffers : List PortBuffer) → AreTheSame (λ (a b : PortBuffer). a.number.value ≡ b.number.value) given buffers
    → map buffer_bytes buffers ≡ map buffer_bytes given
same_numbers [] [] is = refl
same_numbers [] (b ∷ bs) is = absurd (omega (arith, is.0))
same_numbers (g ∷ gs) [] is = absurd (omega (arith, is.0))
same_numbers (g ∷ gs) (b ∷ bs) is =
    let first : buffer_bytes b ≡ buffer_bytes g = sym (is.1 0 g b refl refl) in
    let others = same_numbers gs bs (omega (arith, is.0), λ i f l there here. is.1 (suc i) f l there here) in
    ap (λ (x : List ℕ). x ∷ map buffer_bytes bs) first ∙ ap (λ (l : List (List ℕ)). buffer_bytes g ∷ l) others

-- the buffers that come back at the end have the numbers of the opening
pub numbers_at_end : (queue : PortQueue) (buffers : List PortBuffer) → AreNumbered queue
    → AreTheSame (λ (a b : PortBuffer). a.number.value ≡ b.number.value) queue.given buffers
    → map buffer_bytes buffers ≡ numbers_below (n_of queue.setup.order)
numbers_at_end queue buffers numbers is = same_numbers queue.given buffers is ∙ numbers
